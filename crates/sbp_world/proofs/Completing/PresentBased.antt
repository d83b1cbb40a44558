-- In every run with few logins the response of each login of an initiator that injected no packets names the agent of the place in which the target has the login with its ID, if it has one.
use Rattle.sbp_world.proofs.Words.Std.{arith, ◌≡◌, ◌∙◌, inr, refl, sym, ap, subst, ℕ, ◌+◌, ◌<◌, ◌≤◌, ◌&&◌, nat_lt, Bool, true, false, List, [], ◌∷◌, ◌++◌, map, length, Some, None, nat_tests}
use Rattle.sbp_world.proofs.Words.Wire.{Event, Moment, Note, asked, said}
use Rattle.sbp_world.proofs.Words.Target.{Disk, IsTable, Table, place_at}
use Rattle.sbp_world.proofs.Words.Initiator.{LoginResponse, Running, login_response, response_of}
use Rattle.sbp_world.proofs.Words.Laws.{EachMoment, first_table, host_at, ready_host}
use Rattle.sbp_world.proofs.Words.World.{FewLogins, IsCalmBeside, IsRun, IsTold, OpenBefore, Run, WorldState, after, after_all, beginning, begun, history_of, initiator_at, moments_behind, more_deliveries, new_world, ready_logins}
use Rattle.sbp_journal.specs.declared.note.Note.TheVariants as notes
use Rattle.sbp_journal.specs.declared.operation.Operation.TheVariants as operations
use Rattle.sbp_world.specs.Completing.PresentHomes.{AreBasedThere, BasedFewLaw, IsBasedAt}
use Rattle.sbp_world.proofs.Agents.Management.Begins.{first_holds}
use Rattle.sbp_world.proofs.Agents.Management.Lines.{all_heard, opens}
use Rattle.sbp_world.proofs.Agents.Management.Runs.{holds_after, no_repeats, not_reset}
use Rattle.sbp_world.proofs.Agents.Management.Still.{hist}
use Rattle.sbp_world.proofs.Completing.LatestGranted.{login_granted}
use Rattle.sbp_world.proofs.Completing.PresentDone.{ToldAt, each_on, grants_of, told_turn}
use Rattle.sbp_world.proofs.Completing.PresentTied.{IsTied, has_tied, names_tied, turn_tied, zero_tied}
use Rattle.sbp_world.proofs.Hosts.Runs.{are_told, count_after, count_between}
use Rattle.sbp_world.proofs.Lists.BufferClears.{buffers_held}
use Rattle.sbp_world.proofs.Lists.Courses.{EveryPlace, Keeps, at_between, at_lines, more_than_one}
use Rattle.sbp_world.proofs.Lists.HostLogins.{ReadyAt}
use Rattle.sbp_world.proofs.Lists.IdsBegun.{BegunAt, begun_after, begun_between}
use Rattle.sbp_world.proofs.Lists.IdsRuns.{AreFewIds, few_before, few_ids_everywhere, first_ids}
use Rattle.sbp_world.proofs.Lists.Judging.{counts_at, goes_next}
use Rattle.sbp_world.proofs.Lists.LiveBased.{buffered}
use Rattle.sbp_world.proofs.Lists.LiveBegins as begins
use Rattle.sbp_world.proofs.Lists.LiveBuffered.{buffer_turns}
use Rattle.sbp_world.proofs.Lists.LiveGranted.{grown_by, turn_buffer}
use Rattle.sbp_world.proofs.Lists.LiveJoined.{Held, helped}
use Rattle.sbp_world.proofs.Lists.LiveLogins.{laws, stored}
use Rattle.sbp_world.proofs.Lists.LivePlaced.{placed_turns}
use Rattle.sbp_world.proofs.Lists.LiveProved.{held_everywhere}
use Rattle.sbp_world.proofs.Lists.LiveRuns.{AllLive, With, all_after, all_between, goes_beside, goes_size, goes_turned, known_everywhere}
use Rattle.sbp_world.proofs.Lists.LiveStandings.{good_block}
use Rattle.sbp_world.proofs.Lists.LiveSteps.{id_in}
use Rattle.sbp_world.proofs.Lists.LiveTurns.{good}
use Rattle.sbp_world.proofs.Lists.ShortLines.{short_law}
use Rattle.sbp_world.proofs.Lists.StoredTurns.{stored_turns}

-- ---- what is known at each place of every run
pub record Kit (start : List Disk) (past : List Moment) (w : WorldState) : Type 0 where
  pub with_held : With Held start past w
  pub live : AllLive Held start past w
  pub ids : AreFewIds past w

abbrev held : EveryPlace Held
held = held_everywhere (laws short_law) (buffers_held short_law) (stored short_law)

pub kit_everywhere : EveryPlace Kit
kit_everywhere = record {
  after_lines = λ line run r has small size so_far. record {
    with_held = record { known = known_everywhere.after_lines line run r has small size so_far; more = held.after_lines line run r has small size so_far };
    live = all_after Held held (helped placed_turns) (grown_by placed_turns stored_turns buffer_turns) line run r has small size so_far;
    ids = few_ids_everywhere.after_lines line run r has small size so_far;
  };
  between = λ line run r has small size next most told m so_far. record {
    with_held = record { known = known_everywhere.between line run r has small size next most told m so_far; more = held.between line run r has small size next most told m so_far };
    live = all_between Held held (helped placed_turns) (grown_by placed_turns stored_turns buffer_turns) line run r has small size next most told m so_far;
    ids = few_ids_everywhere.between line run r has small size next most told m so_far;
  };
}

-- ---- a place
abbrev IsTiedIn : WorldState → LoginResponse → Type 0
IsTiedIn w response = IsTied w.target.logins response

abbrev AreTiedIn : WorldState → LoginResponse → ℕ → Type 0
AreTiedIn w response count = IsTiedIn w response

record Tie (start : List Disk) (past : List Moment) (w : WorldState) (i : ℕ) : Type 0 where
  buffer : (orb : ℕ) (bytes : List ℕ) → IsTold start past i orb bytes → bytes ≡ good_block orb → (running : Running) → (initiator_at w i).operation ≡ Some running → running.operation ≡ operations.Login → IsTiedIn w (login_response (response_of running (initiator_at w i)))
  each : EachMoment (ToldAt (AreTiedIn w) i) past

abbrev Ties : List Disk → List Moment → WorldState → Type 0
Ties start past w = (i : ℕ) → i < length w.initiators → IsCalmBeside past i → FewLogins past → Tie start past w i

all_ties : (units ready : ℕ) → 0 < units → (start : List Disk) → Keeps units ready start (Kit start) (Ties start)
all_ties units ready has start past s later t lines more g h h_now q q_now had i within beside few =
    let inside : i < length s.world.initiators = subst (λ n. i < n) (goes_size past s later t g) within in
    let some : 0 < length s.world.initiators = omega (arith, inside) in
    let some_now : 0 < length t.world.initiators = omega (arith, within) in
    let few_old = few_before units ready has start past s later t g h h_now few in
    let was_beside = goes_beside past s later t g i beside in
    let old = had i inside was_beside few_old in
    let on : (response : LoginResponse) → IsTiedIn s.world response → IsTiedIn t.world response = (λ response tie. turn_tied units ready has start past s later t g h h_now some few (q.ids few_old some) response tie) in
    let sound = (good units ready has start t.world h_now).table in
    let turned = goes_turned units ready has start past s later t g h i inside in
    let k = q.with_held.known.cored i inside in
    record {
      buffer = turn_buffer placed_turns stored_turns buffer_turns units ready start past s later t has g h h_now q.with_held q_now.with_held q.live i inside beside (IsTiedIn s.world) (IsTiedIn t.world) on old.buffer
          (λ response n. names_tied t.world.target.logins sound (q_now.ids few some_now).rising (id_in t.world i) response n) turned;
      each = told_turn (AreTiedIn t.world) start (hist past s.world) i (counts_at s.world h.sound.stands) q.with_held.more.contents
          (buffered (IsTiedIn t.world) start (hist past s.world) i k.ready (initiator_at s.world i) k.cored (q.with_held.more.holds i inside) (λ orb bytes x e running is login. on _ (old.buffer orb bytes x e running is login)))
          (hist later t.world) (goes_next past s later t g) (q_now.with_held.more.given.laws.hands i within beside.0) (each_on (AreTiedIn s.world) (AreTiedIn t.world) (λ response count. on response) i (hist past s.world) old.each);
    }

first_ties : (line : ℕ) (run : Run) → run.initiators ≤ 4 → 0 < run.units → run.units ≤ 4 → length run.start.disks ≡ run.units → Ties run.start.disks (moments_behind line run []) (beginning run).world
unfolding new_world
first_ties line run few has small size i l beside few_logins = record {
  buffer = λ orb bytes x e running is login. absurd (none running is);
  each = (tt, (tt, tt));
}
  where
    inside : i < run.initiators
    inside = subst (λ n. i < n) (count_after run []) l

    none : (running : Running) → (initiator_at (beginning run).world i).operation ≡ Some running → ⊥
    none running is = let no : None ≡ Some running = sym (begins.first_none run.initiators few run.units small line run.start.disks size run.ready i inside) ∙ is in cc

ties_everywhere : EveryPlace Ties
ties_everywhere = record {
  after_lines = λ line run r has small size so_far.
      at_lines Kit (Ties run.start.disks) kit_everywhere line run r.few has small size (all_ties run.units (ready_logins run.initiators run.ready) has run.start.disks) (first_ties line run r.few has small size) r so_far;
  between = λ line run r has small size next most told m so_far.
      at_between Kit (Ties run.start.disks) kit_everywhere line run r.few has small size (all_ties run.units (ready_logins run.initiators run.ready) has run.start.disks) (first_ties line run r.few has small size) r next most told m so_far;
}

-- ---- where the initiators were ready at the start
abbrev ReadyTied : Run → List Moment → WorldState → Type 0
ReadyTied run past w = FewLogins past → (i : ℕ) → i < length w.initiators → (run.ready && nat_lt i run.initiators) ≡ true → IsTiedIn w (ready_host i).login

keeps_ready : (run : Run) (units ready : ℕ) → 0 < units → Keeps units ready run.start.disks (Kit run.start.disks) (ReadyTied run)
keeps_ready run units ready has past s later t lines more g h h_now q q_now p few i within e =
    let inside : i < length s.world.initiators = subst (λ n. i < n) (goes_size past s later t g) within in
    let some : 0 < length s.world.initiators = omega (arith, inside) in
    let few_old = few_before units ready has run.start.disks past s later t g h h_now few in
    turn_tied units ready has run.start.disks past s later t g h h_now some few (q.ids few_old some) (ready_host i).login (p few_old i inside e)

first_ready : (line : ℕ) (run : Run) → run.initiators ≤ 4 → 0 < run.units → run.units ≤ 4 → length run.start.disks ≡ run.units → ReadyTied run (moments_behind line run []) (beginning run).world
unfolding new_world
first_ready line run few has small size few_logins i l e = by run.ready refl e
  where
    by : (ready : Bool) → run.ready ≡ ready → (ready && nat_lt i run.initiators) ≡ true → IsTiedIn (beginning run).world (ready_host i).login
    by false r f = absurd (let no : false ≡ true = f in cc)
    by true r f =
        let inside : i < run.initiators = grind (arith, nat_tests) in
        let h = first_holds run.initiators run.ready run.units line run.start.disks few small size in
        let one = begins.ready_has run.initiators few run.units small line run.start.disks size [] i inside in
        let ids = first_ids line run few small size few_logins (omega (arith, l)) in
        let table_is : first_table true run.initiators ≡ (beginning run).world.target.logins = ap (λ b. first_table b run.initiators) (sym r) ∙ h.at.agrees.table in
        has_tied (beginning run).world.target.logins (good run.units (ready_logins run.initiators run.ready) has run.start.disks (beginning run).world h).table ids.rising (0xffc1 + i) (ready_host i).login
        (record { place = one.place; login = one.login; there = ap (λ (x : Table). place_at x.places one.place) (sym table_is) ∙ one.there; live = one.live; of_node = one.of_node; own = one.own })
        (subst (IsBasedAt (ready_host i).login.agent) (sym (begins.ready_place run.initiators few run.units small line run.start.disks size [] i inside)) (record { small = omega (arith, inside, few); is = refl }))

ready_everywhere_after : (line : ℕ) (run : Run) → IsRun run → 0 < run.units → run.units ≤ 4 → length run.start.disks ≡ run.units → OpenBefore line run run.entries → ReadyTied run (history_of line run) (after (beginning run) run.entries).world
ready_everywhere_after line run r has small size so_far =
    at_lines Kit (ReadyTied run) kit_everywhere line run r.few has small size (keeps_ready run run.units (ready_logins run.initiators run.ready) has) (first_ready line run r.few has small size) r so_far

-- ---- the login of the host
module _ (ready : Bool) (n : ℕ) (i : ℕ) (Good : LoginResponse → Type 0) (own : (ready && nat_lt i n) ≡ true → Good (ready_host i).login) where
  ready_note : (note : Note) (past : List Moment) → BegunAt ready n (said note) past → ReadyAt Good i (said note) past
  ready_note (notes.Begin initiators is_ready) past b = λ e. own (sym (ap (λ x. x && nat_lt i initiators) b.1 ∙ ap (λ k. ready && nat_lt i k) b.0) ∙ e)
  ready_note note past b = tt

  ready_one : (m : Moment) (past : List Moment) → BegunAt ready n m past → ReadyAt Good i m past
  ready_one (asked line event) past b = tt
  ready_one (said note) past b = ready_note note past b

  pub ready_each : (past : List Moment) → EachMoment (BegunAt ready n) past → EachMoment (ReadyAt Good i) past
  ready_each [] b = tt
  ready_each (m ∷ past) b = (ready_one m past b.0, ready_each past b.1)

-- what is known at a place
record Placed (start : List Disk) (ready : Bool) (n : ℕ) (past : List Moment) (w : WorldState) : Type 0 where
  held : Held start past w
  sound : IsTable w.target.logins
  ties : Ties start past w
  ready_tied : FewLogins past → (i : ℕ) → i < length w.initiators → (ready && nat_lt i n) ≡ true → IsTiedIn w (ready_host i).login
  begun : (i : ℕ) → i < length w.initiators → EachMoment (BegunAt ready n) past

based_at : (start : List Disk) (ready : Bool) (n : ℕ) (past : List Moment) (w : WorldState) → Placed start ready n past w → FewLogins past → AreBasedThere past w
based_at start ready n past w k few i inside calm same response carries place login there live of own =
    let tie = k.ties i inside (calm, inr few) few in
    let host_tied : IsTiedIn w (host_at past i).login =
    login_granted (AreTiedIn w) i past (ready_each ready n i (IsTiedIn w) (k.ready_tied few i inside) past (k.begun i inside)) (zero_tied w.target.logins k.sound _ refl) (grants_of (AreTiedIn w) i past (k.held.granted i inside) tie.each) in
    (subst (IsTiedIn w) ((k.held.holds i inside).login response carries) host_tied).tied place login there own

-- ---- of every run
pub based_few_law : BasedFewLaw
based_few_law = record {
  after_lines = λ line run r has small size so_far few.
      let w = (after (beginning run) run.entries).world in
      let h = holds_after line run run.entries r.few has small size r.short r.entries r.lines in
      based_at run.start.disks run.ready run.initiators (history_of line run) w
      (record {
        held = held.after_lines line run r has small size so_far;
        sound = (good run.units (ready_logins run.initiators run.ready) has run.start.disks w h.holds).table;
        ties = ties_everywhere.after_lines line run r has small size so_far;
        ready_tied = ready_everywhere_after line run r has small size so_far;
        begun = λ i l. begun_after line run r i (subst (λ n. i < n) (count_after run run.entries) l);
      })
      few;
  between = λ line run r has small size next most told m so_far few.
      let w = (after_all told (begun (after (beginning run) run.entries))).world in
      let now = map said w.fresh ++ asked next (more_deliveries most) ∷ history_of line run in
      let last = after (beginning run) run.entries in
      let b = holds_after line run run.entries r.few has small size r.short r.entries r.lines in
      let event : Event = more_deliveries most in
      let d = more_than_one most in
      let begins = opens run.units (ready_logins run.initiators run.ready) has run.start.disks next event last.world (not_reset event d) b.holds in
      let h = all_heard run.units (ready_logins run.initiators run.ready) has run.start.disks told (are_told told last m) (begun last) begins (no_repeats event (hist b.past last.world) next d) in
      based_at run.start.disks run.ready run.initiators now w
      (record {
        held = held.between line run r has small size next most told m so_far;
        sound = (good run.units (ready_logins run.initiators run.ready) has run.start.disks w h).table;
        ties = ties_everywhere.between line run r has small size next most told m so_far;
        ready_tied = at_between Kit (ReadyTied run) kit_everywhere line run r.few has small size (keeps_ready run run.units (ready_logins run.initiators run.ready) has) (first_ready line run r.few has small size) r next most told m so_far;
        begun = λ i l. begun_between line run r i (subst (λ n. i < n) (count_between told (after (beginning run) run.entries) ∙ count_after run run.entries) l) next told m most;
      })
      few;
}
