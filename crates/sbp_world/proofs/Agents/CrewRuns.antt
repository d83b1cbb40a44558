-- In every run the agents of the terms are the target's.
use Rattle.sbp_world.proofs.Words.Std.{arith, ◌≡◌, ◌∙◌, sym, ap, subst, refl, ℕ, suc, ◌+◌, ◌^◌, ◌<◌, ◌≤◌, Bool, List, [], ◌∷◌, ◌++◌, map, length, Option, true, false}
use Rattle.sbp_world.proofs.Words.Wire.{Holder, Moment, asked, said, Terms, terms, Event}
use Rattle.sbp_world.proofs.Words.Target.{Login, Disk, Told}
use Rattle.sbp_world.proofs.Words.Laws.{Target, target_at}
use Rattle.sbp_world.proofs.Words.World.{history_of, moments_behind, MayHappen, happens, new_world, ready_logins, AreEntries, Entry, Run, after, beginning, MayAll, after_all, Scene, WorldState, begun, AreLines, DeliversMore, AgentsBetweenLaw, AgentsRunLaw, AreAgentsAt, ArePurposedAt, SerialsBetweenLaw, SerialsLaw, IsHeld, AreHandedAt}
use Rattle.sbp_journal.specs.declared.event.Event.TheVariants as events
use Rattle.sbp_world.proofs.Wire.ToldBytes.{happened_fits}
use Rattle.sbp_world.proofs.Agents.Management.Begins.{first_holds, first_past}
use Rattle.sbp_world.proofs.Agents.Management.Holding.{Holding}
use Rattle.sbp_world.proofs.Agents.Management.Lines.{line_holds, opens}
use Rattle.sbp_world.proofs.Agents.Management.Runs.{no_repeats, not_reset}
use Rattle.sbp_world.proofs.Agents.Management.Still.{hist}
use Rattle.sbp_world.specs.Agents.Holders.{IsOf}
use Rattle.sbp_world.proofs.Agents.CrewLines.{LineSites, all_crew, line_crew, opened}
use Rattle.sbp_world.proofs.Agents.CrewPass.{AllSites, Crewed, IsSite}
use Rattle.sbp_world.proofs.Agents.Holders.{holders_between_law}
use Rattle.sbp_world.proofs.Agents.Known.{sent_first}
use Rattle.sbp_world.proofs.Agents.Notes.{notes_law}
use Rattle.sbp_world.proofs.Agents.Runs.{handed_between_law, handed_law}
use Rattle.sbp_world.proofs.Agents.Units.{units_between_law}
use Rattle.sbp_world.proofs.Lists.JoinLaws.{moments_same, lines_same}
use Rattle.sbp_world.proofs.Hosts.Runs.{are_told}

-- ---- a new world
first_crew : (line n : ℕ) (ready : Bool) (units : ℕ) (start : List Disk) → Crewed start (first_past line n ready) (new_world n ready units)
unfolding new_world
first_crew line n ready units start = record {
  requests = [];
  are = notes_law.begins start units (ready_logins n ready);
  sent = sent_first units (ready_logins n ready) _;
}

-- ---- what is known as each delivery of a line begins
all_sites : (start : List Disk) (past : List Moment) (s : Scene) → ((told : List (Option Told)) → MayAll told s → IsSite start past (after_all told s)) → (told : List (Option Told)) → MayAll told s → AllSites start past told s
all_sites start past s u [] m = tt
all_sites start past s u (told ∷ before) m = (u before m.1, all_sites start past s u before m.1)

-- a line that delivers once
of_repeats : (t : Terms) (repeats : Bool) (initiators initiator id : ℕ) → IsOf t initiators initiator id → IsOf (record t { repeats = repeats }) initiators initiator id
of_repeats t repeats initiators initiator id x = record { small = x.small; node_is = x.node_is }

held_repeats : (t : Terms) (repeats : Bool) (initiators : ℕ) (target : Target) (places : List (Option Holder)) (place : ℕ) (login : Login) → IsHeld t initiators target places place login → IsHeld (record t { repeats = repeats }) initiators target places place login
held_repeats t repeats initiators target places place login x = record {
  holder = x.holder;
  there = x.there;
  login_is = x.login_is;
  unit_is = x.unit_is;
  live = λ e.
      let of = x.live e in
      record { of = of_repeats t repeats initiators x.holder.initiator login.node of.of; terms_are = of.terms_are; place_is = of.place_is };
}

one_site : (start : List Disk) (past : List Moment) (line : ℕ) (event : Event) (s : Scene) (repeats : Bool) → terms (asked line event ∷ past) ≡ record (terms past) { repeats = repeats } → IsSite start (asked 0 events.Settle ∷ past) (begun s) → IsSite start (asked line event ∷ past) (begun s)
one_site start past line event s repeats same u =
    let t = terms (asked 0 events.Settle ∷ past) in
    let w = (begun s).world in
    let target = target_at start (asked 0 events.Settle ∷ past) in
    record {
      units = record { count = u.units.count; each = u.units.each };
      held = record {
        held = λ place login e.
            subst (λ x. IsHeld x (length w.initiators) target w.places place login) (sym same) (held_repeats t repeats (length w.initiators) target w.places place login (u.held.held place login e));
        free = u.held.free;
        operation = λ source e.
            let x = u.held.operation source e in
            (x.0, subst (λ y. IsOf y (length w.initiators) x.0 source) (sym same) (of_repeats t repeats (length w.initiators) x.0 source x.1));
        leaves = u.held.leaves;
      };
    }

line_sites : (start : List Disk) (past : List Moment) (line : ℕ) (event : Event) (told : List (Option Told)) (s : Scene) → MayHappen event told s → ((next : ℕ) (other : Event) → DeliversMore other → (run : List (Option Told)) → MayAll run (begun s) → IsSite start (asked next other ∷ past) (after_all run (begun s))) → LineSites event start (asked line event ∷ past) told (begun s)
unfolding MayHappen
line_sites start past line (events.Begin initiators ready) told s m u = tt
line_sites start past line (events.Act initiator action) told s m u = tt
line_sites start past line (events.Reset physical) told s m u = tt
line_sites start past line (events.See node) told s m u = tt
line_sites start past line (events.Deliver serial) told s m u = one_site start past line (events.Deliver serial) s false refl (u 0 events.Settle tt [] tt)
line_sites start past line (events.Repeat serial) told s m u = one_site start past line (events.Repeat serial) s true refl (u 0 events.Settle tt [] tt)
line_sites start past line (events.Lose serial) told s m u = tt
line_sites start past line (events.Timeout serial) told s m u = tt
line_sites start past line (events.Step count) told s m u = all_sites start (asked line (events.Step count) ∷ past) (begun s) (λ run may. u line (events.Step count) tt run may) told m.may
line_sites start past line events.Settle told s m u = all_sites start (asked line events.Settle ∷ past) (begun s) (λ run may. u line events.Settle tt run may) told m.may
line_sites start past line events.Tick told s m u = tt
line_sites start past line (events.Inject initiator bytes) told s m u = tt
line_sites start past line (events.Key unit key) told s m u = tt

-- ---- runs

pub record CrewAfter (line : ℕ) (run : Run) (entries : List Entry) (w : WorldState) : Type 0 where
  pub past : List Moment
  pub holds : Holding run.units (ready_logins run.initiators run.ready) run.start.disks past (length entries) w
  pub is : hist past w ≡ moments_behind line run entries
  pub crew : Crewed run.start.disks past w

crew_first : (line : ℕ) (run : Run) → run.initiators ≤ 4 → 0 < run.units → run.units ≤ 4 → length run.start.disks ≡ run.units → CrewAfter line run [] (beginning run).world
unfolding new_world
crew_first line run few has small size = record {
  past = first_past line run.initiators run.ready;
  holds = first_holds run.initiators run.ready run.units line run.start.disks few small size;
  is = refl;
  crew = first_crew line run.initiators run.ready run.units run.start.disks;
}

module _ (line : ℕ) (run : Run) (few : run.initiators ≤ 4) (has : 0 < run.units) (small : run.units ≤ 4) (size : length run.start.disks ≡ run.units) where
  -- and behind some lines
  sites_behind : (entries : List Entry) → length entries + 2 < 2 ^ 32 → AreEntries (beginning run) entries → AreLines run entries → (c : CrewAfter line run entries (after (beginning run) entries).world) → (next : ℕ) (event : Event) → DeliversMore event → (told : List (Option Told)) → MayAll told (begun (after (beginning run) entries)) → IsSite run.start.disks (asked next event ∷ hist c.past (after (beginning run) entries).world) (after_all told (begun (after (beginning run) entries)))
  sites_behind entries short all fit c next event d told may =
      let all_of = record run { entries = entries } in
      let lines = lines_same run entries entries fit in
      subst (λ ms. IsSite run.start.disks (asked next event ∷ ms) (after_all told (begun (after (beginning run) entries)))) (moments_same line run entries entries ∙ sym c.is)
      (record {
        units = units_between_law line all_of few has small size short all lines next event d told may;
        held = holders_between_law line all_of few has small size short all lines next event d told may;
      })

  pub crew_after : (entries : List Entry) → length entries + 2 < 2 ^ 32 → AreEntries (beginning run) entries → AreLines run entries → CrewAfter line run entries (after (beginning run) entries).world
  crew_after [] short all fit = crew_first line run few has small size
  crew_after (e ∷ before) short all fit =
      let logins = ready_logins run.initiators run.ready in
      let b = crew_after before (omega arith) all.1 fit.1 in
      let s = after (beginning run) before in
      let t = happened_fits e.event e.told s all.0.may in
      record {
        past = asked e.line e.event ∷ hist b.past s.world;
        holds = subst (λ n. Holding run.units logins run.start.disks (asked e.line e.event ∷ hist b.past s.world) n (happens e.line e.event e.told s).world) (let x : length before + 1 ≡ suc (length before) = omega arith in x)
            (line_holds run.units logins has run.start.disks e.line e.event e.told s fit.0 t (omega arith) b.holds);
        is = ap (λ ns. map said ns ++ asked e.line e.event ∷ hist b.past s.world) (sym all.0.notes_are)
            ∙ ap (λ ms. map said e.notes ++ asked e.line e.event ∷ ms) b.is;
        crew = line_crew run.units logins has run.start.disks e.line e.event e.told s fit.0 t all.0.may
            (line_sites run.start.disks (hist b.past s.world) e.line e.event e.told s all.0.may (λ next other d told may. sites_behind before (omega arith) all.1 fit.1 b next other d told may))
            (omega arith) b.holds b.crew;
      }

crew_at : (start : List Disk) (past : List Moment) (w : WorldState) → Crewed start past w → AreAgentsAt start (hist past w) w
crew_at start past w c = record { requests = c.requests; are = c.are; known = c.sent.known }

pub agents_run_law : AgentsRunLaw
agents_run_law line run few has small size short all fit =
    let r = crew_after line run few has small size run.entries short all fit in
    let w = (after (beginning run) run.entries).world in
    subst (λ ms. AreAgentsAt run.start.disks ms w) r.is (crew_at run.start.disks r.past w r.crew)

pub agents_between_law : AgentsBetweenLaw
agents_between_law line run few has small size short all fit next event d told may =
    let r = crew_after line run few has small size run.entries short all fit in
    let s = after (beginning run) run.entries in
    let logins = ready_logins run.initiators run.ready in
    let start = run.start.disks in
    let past = asked next event ∷ hist r.past s.world in
    let begins = opens run.units logins has start next event s.world (not_reset event d) r.holds in
    let first = opened run.units logins has start next event s.world r.past r.crew in
    let u = all_sites start past (begun s) (λ run_told m. sites_behind line run few has small size run.entries short all fit r next event d run_told m) told may in
    let c = all_crew run.units logins has start told (are_told told s may) (begun s) may u begins first (no_repeats event (hist r.past s.world) next d) in
    let w = (after_all told (begun s)).world in
    subst (λ ms. AreAgentsAt start (map said w.fresh ++ asked next event ∷ ms) w) r.is (crew_at start past w c)

-- what a serial is for
purposed : (start : List Disk) (past : List Moment) (w : WorldState) → AreHandedAt start past w → AreAgentsAt start past w → ArePurposedAt start past w
purposed start past w h a = record { all = λ peer number kind serial purpose e under. h.all a.requests peer number kind serial purpose a.are a.known e under }

pub serials_law : SerialsLaw
serials_law line run few has small size short all fit =
    purposed run.start.disks (history_of line run) (after (beginning run) run.entries).world (handed_law line run few has small size short all fit) (agents_run_law line run few has small size short all fit)

pub serials_between_law : SerialsBetweenLaw
serials_between_law line run few has small size short all fit next event d told may =
    let w = (after_all told (begun (after (beginning run) run.entries))).world in
    purposed run.start.disks (map said w.fresh ++ asked next event ∷ history_of line run) w
    (handed_between_law line run few has small size short all fit next event d told may) (agents_between_law line run few has small size short all fit next event d told may)
