-- Each live login of an initiator that injected no packets has the FIFO of a login, at each place of every run: where no initiator injected packets, or few logins were
-- given, and by what is known of the logins that were done.
use Rattle.sbp_world.proofs.Words.Std.{arith, ◌≡◌, ◌∙◌, sym, ap, ◌<◌, ◌≤◌, ◌+◌, ℕ, suc, true, List, [], length, Some}
use Rattle.sbp_world.proofs.Words.Wire.{Holder, or_nobody, Moment, terms}
use Rattle.sbp_world.proofs.Words.Target.{is_live, Login, Disk, login_at}
use Rattle.sbp_world.proofs.Words.Laws.{id_for, EachMoment}
use Rattle.sbp_world.proofs.Words.World.{history_of, moments_behind, new_world, ready_logins, Run, after, beginning, after_all, WorldState, begun, AreHeldAt, more_deliveries, IsTameOf, AreOwn, AreOwnOf, IsLoginFifo, IsTame, OwnedAt, BasedAt, AreShort}
use Rattle.sbp_world.proofs.Agents.Holders.{holders_between_law, holders_law}
use Rattle.sbp_world.proofs.Agents.Management.Begins.{first_holds}
use Rattle.sbp_world.proofs.Lists.Beside.{AreDone, all_done, own_done}
use Rattle.sbp_world.proofs.Lists.Courses.{EveryPlace, Keeps, at_between, at_lines, more_than_one}
use Rattle.sbp_world.proofs.Lists.IdsReturns.{own_fifos_everywhere}
use Rattle.sbp_world.proofs.Lists.KeptTurns.{id_is}
use Rattle.sbp_world.proofs.Lists.LiveSteps.{id_in}
use Rattle.sbp_world.proofs.Lists.OwnLogins.{own_everywhere}

abbrev pub AreOwnNodes : List Disk → List Moment → WorldState → Type 0
AreOwnNodes start past w = (i : ℕ) → i < length w.initiators → AreShort past → AreDone start (length w.initiators) past i → (place : ℕ) (login : Login) → login_at w.target place ≡ Some login → is_live login ≡ true → login.node ≡ id_in w i → IsLoginFifo login.fifo

abbrev All : List Moment → WorldState → Type 0
All past w = IsTame past → AreShort past → ((i : ℕ) → i < length w.initiators → EachMoment (BasedAt i) past) → 0 < length w.initiators → AreOwn w

abbrev Own : List Disk → List Moment → WorldState → Type 0
Own start past w = (i : ℕ) → i < length w.initiators → IsTameOf past i → AreShort past → EachMoment (BasedAt i) past → EachMoment (OwnedAt start i) past → (place : ℕ) (login : Login) → login_at w.target place ≡ Some login → is_live login ≡ true → login.node ≡ id_in w i → IsLoginFifo login.fifo

nodes_by : (start : List Disk) (past : List Moment) (w : WorldState) → All past w → Own start past w → AreOwnNodes start past w
nodes_by start past w all own i inside shorts (all_done tame based) place login e live node = all tame shorts based (omega (arith, inside)) place login e
nodes_by start past w all own i inside shorts (own_done calm few based owned) place login e live node = own i inside (calm, few) shorts based owned place login e live node

pub nodes_everywhere : EveryPlace AreOwnNodes
nodes_everywhere = record {
  after_lines = λ line run r has small size so_far. nodes_by run.start.disks (history_of line run) (after (beginning run) run.entries).world (own_everywhere.after_lines line run r has small size so_far) (own_fifos_everywhere.after_lines line run r has small size so_far);
  between = λ line run r has small size next most told m so_far. nodes_by run.start.disks _ (after_all told (begun (after (beginning run) run.entries))).world (own_everywhere.between line run r has small size next most told m so_far) (own_fifos_everywhere.between line run r has small size next most told m so_far);
}

-- ---- by the places that the bus has
abbrev Nothing : List Disk → List Moment → WorldState → Type 0
Nothing start past w = Unit {0}

nothing : EveryPlace Nothing
nothing = record { after_lines = λ line run r has small size so_far. tt; between = λ line run r has small size next most told m so_far. tt }

abbrev pub AreIds : List Moment → WorldState → Type 0
AreIds past w = (i : ℕ) → i < length w.initiators → id_for (terms past) 0 (suc i) ≡ id_in w i

all_ids : (units ready : ℕ) → 0 < units → (start : List Disk) → Keeps units ready start (Nothing start) AreIds
all_ids units ready has start past s later t lines more g h h_now q q_now p i inside = id_is units ready has start t.world h_now i inside

first_ids : (line : ℕ) (run : Run) → run.initiators ≤ 4 → 0 < run.units → run.units ≤ 4 → length run.start.disks ≡ run.units → AreIds (moments_behind line run []) (beginning run).world
unfolding new_world
first_ids line run few has small size i inside =
    id_is run.units (ready_logins run.initiators run.ready) has run.start.disks (beginning run).world (first_holds run.initiators run.ready run.units line run.start.disks few small size) i inside

pub ids_everywhere : EveryPlace (λ start past w. AreIds past w)
ids_everywhere = record {
  after_lines = λ line run r has small size so_far.
      at_lines Nothing AreIds nothing line run r.few has small size (all_ids run.units (ready_logins run.initiators run.ready) has run.start.disks) (first_ids line run r.few has small size) r so_far;
  between = λ line run r has small size next most told m so_far.
      at_between Nothing AreIds nothing line run r.few has small size (all_ids run.units (ready_logins run.initiators run.ready) has run.start.disks) (first_ids line run r.few has small size) r next most told m so_far;
}

owners_by : (start : List Disk) (past : List Moment) (w : WorldState) → AreHeldAt start past w → AreIds past w → AreOwnNodes start past w → (i : ℕ) → i < length w.initiators → AreShort past → AreDone start (length w.initiators) past i → AreOwnOf w i
owners_by start past w held ids own i inside shorts done place login e live mine =
    let k = held.held place login e in
    let same : k.holder.initiator ≡ i = ap (λ (h : Holder). h.initiator) (sym (ap or_nobody k.there)) ∙ mine in
    let next : i + 1 ≡ suc i = omega arith in
    own i inside shorts done place login e live (sym (k.live live).of.node_is ∙ (ap (λ n. id_for (terms past) 0 (n + 1)) same ∙ (ap (λ n. id_for (terms past) 0 n) next ∙ ids i inside)))

pub owners_everywhere : EveryPlace (λ start past w. (i : ℕ) → i < length w.initiators → AreShort past → AreDone start (length w.initiators) past i → AreOwnOf w i)
owners_everywhere = record {
  after_lines = λ line run r has small size so_far.
      owners_by run.start.disks (history_of line run) (after (beginning run) run.entries).world (holders_law line run r.few has small size r.short r.entries r.lines) (ids_everywhere.after_lines line run r has small size so_far) (nodes_everywhere.after_lines line run r has small size so_far);
  between = λ line run r has small size next most told m so_far.
      owners_by run.start.disks _ (after_all told (begun (after (beginning run) run.entries))).world (holders_between_law line run r.few has small size r.short r.entries r.lines next (more_deliveries most) (more_than_one most) told m) (ids_everywhere.between line run r has small size next most told m so_far)
      (nodes_everywhere.between line run r has small size next most told m so_far);
}
