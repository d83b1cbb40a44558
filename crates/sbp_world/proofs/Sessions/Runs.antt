-- In every run the target knows caught up nodes alone, and live sessions are of generations that it has seen.
use Rattle.sbp_world.proofs.Words.Std.{is_some, not, arith, ◌≡◌, ◌∙◌, refl, sym, ap, subst, ℕ, suc, ◌+◌, ◌^◌, ◌<◌, ◌≤◌, nat_lt, Bool, true, false, List, [], ◌∷◌, ◌++◌, length, map, replicate, Option, Some, None, is_none, slice_index_or, nat_tests, common_steps, get_or-replicate, length-replicate, false≢true}
use Rattle.sbp_world.proofs.Words.Wire.{Topology, first_topology, id_of, no_topology, topology_at, Moment, asked, said, Terms, terms, Event}
use Rattle.sbp_world.proofs.Words.Target.{Phase, state_in, is_reset, Login, is_live, Operation, source_in, Disk, Told, desk_at, login_at}
use Rattle.sbp_world.proofs.Words.Initiator.{Seat}
use Rattle.sbp_world.proofs.Words.Laws.{host_at, present_list, agent_at, initiator_in, over, target_at}
use Rattle.sbp_world.proofs.Words.World.{AreAgentsAt, AreHeldAt, Core, session_in, IsRun, ReadAs, IsHost, FitsLogin, FitsOperation, Holds, history_of, new_world, ready_logins, AreEntries, Entry, Run, after, beginning, MayAll, after_all, AreLines, Stands, WorldState, begun, initiator_at, DeliversMore, CaughtBetweenLaw, CaughtLaw, HasCaught, HaveCaught, IsJoined, JoinedBetweenLaw, JoinedLaw, is_joined}
use Rattle.sbp_world.proofs.Agents.CrewRuns.{agents_between_law, agents_run_law}
use Rattle.sbp_world.proofs.Agents.Holders.{holders_between_law, holders_law}
use Rattle.sbp_world.proofs.Hosts.Hosted.{host_law}
use Rattle.sbp_world.proofs.Hosts.Readings.{read_law}
use Rattle.sbp_world.proofs.Hosts.Runs.{count_after, count_between, run_law, are_told}
use Rattle.sbp_bus.proofs.Making.{ids_size}
use Rattle.sbp_journal.specs.declared.event.Event.TheVariants as events
use Rattle.sbp_session.specs.declared.seat.Seat.TheVariants as seats
use Rattle.sbp_world.proofs.FitTarget.Law.{fitting_law}
use Rattle.sbp_world.proofs.Making.{initiators_size, ready_few}
use Rattle.sbp_world.proofs.Wire.Found.{has_id, known_has, node_found}
use Rattle.sbp_world.proofs.Wire.Starts.{first_id}
use Rattle.sbp_world.proofs.Wire.ToldBytes.{happened_fits}
use Rattle.sbp_target.proofs.Histories.Calling.{not_eight}
use Rattle.sbp_world.proofs.Agents.Management.Begins.{first_holds}
use Rattle.sbp_world.proofs.Agents.Management.Holding.{Holding, good_of, known_id}
use Rattle.sbp_world.proofs.Agents.Management.Lines.{all_heard, opens}
use Rattle.sbp_world.proofs.Agents.Management.Runs.{holds_after, no_repeats, not_reset}
use Rattle.sbp_world.proofs.Agents.Management.Still.{hist}
use Rattle.sbp_world.proofs.Sessions.Caught.{Met, Seen, Up, is_in, is_up, sits_any, up_later, up_of}
use Rattle.sbp_world.proofs.Sessions.Lines.{all_met, line_met, opened}
use Rattle.sbp_world.proofs.Sessions.Turns.{wire_generation}

-- ---- a new world: each node is in generation 0
pub first_generation : (m k : ℕ) (t : Topology) → t.generation ≡ 0 → (slice_index_or (replicate m t) k no_topology).generation ≡ 0
first_generation m k t e = by (nat_lt k m) refl
  where
    by : (b : Bool) → nat_lt k m ≡ b → (slice_index_or (replicate m t) k no_topology).generation ≡ 0
    by true l = ap (λ (x : Topology). x.generation) (get_or-replicate m k t no_topology (grind (arith, nat_tests))) ∙ e
    by false l =
        let size : length (replicate m t) ≡ m = length-replicate m t in
        let beyond : length (replicate m t) ≤ k = grind (arith, nat_tests) in
        let none : slice_index_or (replicate m t) k no_topology ≡ no_topology = grind (arith, common_steps) in
        ap (λ (x : Topology). x.generation) none

module _ (n : ℕ) (is_ready : Bool) (units : ℕ) (few : n ≤ 4) (line : ℕ) (start : List Disk) (small : units ≤ 4) (size : length start ≡ units) where
  abbrev w : WorldState
  w = new_world n is_ready units

  zero_seen : (node : ℕ) → (topology_at w.generations node).generation ≡ 0
  unfolding new_world
  zero_seen node = first_generation (n + 1) node (first_topology (n + 1)) refl

  first_seen : topology_at w.generations 0 ≡ first_topology (n + 1)
  unfolding new_world
  first_seen = get_or-replicate (n + 1) 0 (first_topology (n + 1)) no_topology (omega arith)

  initiators_are : length w.initiators ≡ n
  unfolding new_world
  initiators_are = initiators_size n is_ready

  first_up : (i : ℕ) → i < n → Up w.generations (0xffc1 + i)
  first_up i l =
      let h = first_holds n is_ready units line start few small size in
      let stands = h.sound.stands in
      let count = initiators_are in
      let id_is : id_of (topology_at w.generations 0) (suc i) ≡ 0xffc1 + i =
      ap (λ (t : Topology). id_of t (suc i)) first_seen ∙ sym (first_id (n + 1) (suc i) (omega arith) (omega arith)) ∙ (let e : 65472 + suc i ≡ 0xffc1 + i = omega arith in e) in
      let z = zero_seen 0 in
      up_of w.generations (0xffc1 + i) (suc i)
      (ap (λ (t : Topology). has_id t (0xffc1 + i)) first_seen ∙ known_has (first_topology (n + 1)) n (0xffc1 + i) (ids_size (n + 1) ∙ (let e : n + 1 ≡ suc n = omega arith in e)) (record { node = suc i; there = omega arith; id_is = sym (ap (λ (t : Topology). id_of t (suc i)) first_seen) ∙ id_is }))
      (node_found w stands 0 (omega arith) (0xffc1 + i) (record { node = suc i; there = omega arith; id_is = id_is })) (omega arith)

  first_target : Holds (Up w.generations) w.target
  unfolding new_world
  first_target = (fitting_law (is_up w.generations) (is_up w.generations)).begins units (ready_logins n is_ready) (λ i l. first_up i (ready_few n is_ready i l))

  first_met : Met w
  first_met = record { up = first_target; sits = λ i. sits_any (Seen w.generations i) _ _ (let a = zero_seen (suc i) in let b = zero_seen 0 in omega arith) }

-- ---- runs
pub met_after : (line : ℕ) (run : Run) (entries : List Entry) → run.initiators ≤ 4 → 0 < run.units → run.units ≤ 4 → length run.start.disks ≡ run.units → length entries + 2 < 2 ^ 32 → AreEntries (beginning run) entries → AreLines run entries → Met (after (beginning run) entries).world
met_after line run [] few has small size short all fit = first_met run.initiators run.ready run.units few line run.start.disks small size
met_after line run (e ∷ before) few has small size short all fit =
    let b = holds_after line run before few has small size (omega arith) all.1 fit.1 in
    let s = after (beginning run) before in
    line_met run.units (ready_logins run.initiators run.ready) has run.start.disks e.line e.event e.told s fit.0 (happened_fits e.event e.told s all.0.may) b.holds
    (met_after line run before few has small size (omega arith) all.1 fit.1)

-- and behind each delivery of a line that may follow
pub met_between : (line : ℕ) (run : Run) → IsRun run → 0 < run.units → run.units ≤ 4 → length run.start.disks ≡ run.units → (next : ℕ) (event : Event) → DeliversMore event → (told : List (Option Told)) → MayAll told (begun (after (beginning run) run.entries)) → Met (after_all told (begun (after (beginning run) run.entries))).world
met_between line run is has small size next event d told may =
    let r = holds_after line run run.entries is.few has small size is.short is.entries is.lines in
    let s = after (beginning run) run.entries in
    let logins = ready_logins run.initiators run.ready in
    all_met run.units logins has run.start.disks told (are_told told s may) (begun s) (opens run.units logins has run.start.disks next event s.world (not_reset event d) r.holds)
    (opened run.units logins has run.start.disks s.world (met_after line run run.entries is.few has small size is.short is.entries is.lines)) (no_repeats event (hist r.past s.world) next d)

-- ---- what it says of the history
module _ (units ready : ℕ) (has : 0 < units) (start : List Disk) {past : List Moment} {lines : ℕ} (w : WorldState) (h : Holding units ready start past lines w) (m : Met w) where
  abbrev stands : Stands past w
  stands = h.sound.stands

  abbrev t : Terms
  t = terms (hist past w)

  caught_by : (id : ℕ) → Up w.generations id → HasCaught t (length w.initiators) id
  caught_by id u i of =
      let inside = of.small in
      let there : i + 1 ≤ length w.initiators = omega arith in
      let found = node_found w stands 0 (omega arith) id (record { node = i + 1; there = there; id_is = sym (known_id w stands (i + 1) there) ∙ of.node_is }) in
      let late = up_later w.generations id (i + 1) u found in
      let a = wire_generation w stands 0 (omega arith) in
      let b = wire_generation w stands (i + 1) there in
      omega arith

  login_up : (login : Login) (x : Option Login) → x ≡ Some login → FitsLogin (Up w.generations) x → is_live login ≡ true → Up w.generations login.node
  login_up login None e f live = absurd (let z : None ≡ Some login = e in cc)
  login_up login (Some own) e f live =
      let same : own ≡ login = cc in
      subst (λ (l : Login). is_live l ≡ true → Up w.generations l.node) same f.1 live

  source_up : (operation : Option Operation) (source : ℕ) → FitsOperation (Up w.generations) operation → source_in operation ≡ Some source → Up w.generations source
  source_up None source f e = absurd (let z : None ≡ Some source = e in cc)
  source_up (Some own) source f e = let z : own.source ≡ source = cc in subst (Up w.generations) z f.0

  login_at_up : (place : ℕ) (login : Login) → login_at w.target place ≡ Some login → is_live login ≡ true → Up w.generations login.node
  login_at_up place login e live = login_up login (login_at w.target place) e (m.up.fits.logins place) live

  agents_caught : AreHeldAt start (hist past w) w → AreAgentsAt start (hist past w) w → (place : ℕ) → place < 8 → is_reset (state_in (agent_at (over (target_at start (hist past w))) place).machine.phase) ≡ false → t.generation 0 ≤ t.generation (initiator_in (target_at start (hist past w)) t place + 1)
  agents_caught held agents place b e =
      let one = agents.are.each place b in
      let phase : is_reset (state_in (desk_at w.target place).agent.phase) ≡ false = sym (ap (λ (p : Phase). is_reset (state_in p)) one.machine.phase) ∙ e in
      let served = (good_of units ready h.calls w.target has h.made).mid.served place b (not_eight place b) phase in
      let live = (held.held place served.login served.is).live served.live in
      subst (λ i. t.generation 0 ≤ t.generation (i + 1)) (sym live.terms_are) (caught_by served.login.node (login_at_up place served.login served.is served.live) _ live.of)

  have_caught : AreHeldAt start (hist past w) w → AreAgentsAt start (hist past w) w → HaveCaught start (hist past w) w
  have_caught held agents = record {
    logins = λ place login e live. caught_by login.node (login_at_up place login e live);
    operation = λ source e. caught_by source (source_up w.target.manager.operation source m.up.fits.manager.operation e);
    agents = agents_caught held agents;
  }

  is_session : (seat : Seat) → is_joined (session_in seat) ≡ true → is_in seat ≡ true
  is_session (seats.Out out) e = e
  is_session (seats.Entering entering) e = e
  is_session (seats.Live live) e = e
  is_session (seats.Held response) e = e
  is_session (seats.Returning response) e = e
  is_session (seats.Leaving response) e = e
  is_session (seats.Stuck origin) e = e

  seen_by : (i : ℕ) → i < length w.initiators → Seen w.generations i → t.generation (i + 1) ≤ t.generation 0
  seen_by i inside seen =
      let there : i + 1 ≤ length w.initiators = omega arith in
      let next : i + 1 ≡ suc i = omega arith in
      let a = wire_generation w stands 0 (omega arith) in
      let b : t.generation (i + 1) ≡ (topology_at w.generations (suc i)).generation = wire_generation w stands (i + 1) there ∙ ap (λ k. (topology_at w.generations k).generation) next in
      omega arith

  is_listed : (a b : Bool) → not a ≡ not b → a ≡ true → b ≡ true
  is_listed true true e f = refl
  is_listed true false e f = absurd (let x : false ≡ true = e in cc)
  is_listed false b e f = absurd (false≢true f)

  some_none : (o : Option ℕ) → is_none o ≡ not (is_some o)
  some_none None = refl
  some_none (Some n) = refl

  joined : (i : ℕ) → i < length w.initiators → (host_at (hist past w) i).session ≡ session_in (initiator_at w i).seat → ReadAs (hist past w) i (initiator_at w i).lists.slots → IsJoined (hist past w) i
  joined i inside session read = record {
    session = λ e. seen_by i inside ((m.sits i).joined (is_session (initiator_at w i).seat (ap is_joined (sym session) ∙ e)));
    list = λ e. seen_by i inside ((m.sits i).listed (is_listed (is_some (present_list (hist past w) i)) (is_some (initiator_at w i).lists.slots.present) (sym (some_none (present_list (hist past w) i)) ∙ read.none) e));
  }

pub caught_law : CaughtLaw
caught_law line run few has small size short all fit =
    let r = holds_after line run run.entries few has small size short all fit in
    let w = (after (beginning run) run.entries).world in
    subst (λ ms. AreHeldAt run.start.disks ms w → AreAgentsAt run.start.disks ms w → HaveCaught run.start.disks ms w) r.is
    (have_caught run.units (ready_logins run.initiators run.ready) has run.start.disks w r.holds (met_after line run run.entries few has small size short all fit))
    (holders_law line run few has small size short all fit) (agents_run_law line run few has small size short all fit)

pub caught_between_law : CaughtBetweenLaw
caught_between_law line run few has small size short all fit next event d told may =
    let r = holds_after line run run.entries few has small size short all fit in
    let s = after (beginning run) run.entries in
    let logins = ready_logins run.initiators run.ready in
    let begins = opens run.units logins has run.start.disks next event s.world (not_reset event d) r.holds in
    let repeats = no_repeats event (hist r.past s.world) next d in
    let h = all_heard run.units logins has run.start.disks told (are_told told s may) (begun s) begins repeats in
    let m = all_met run.units logins has run.start.disks told (are_told told s may) (begun s) begins (opened run.units logins has run.start.disks s.world (met_after line run run.entries few has small size short all fit)) repeats in
    let w = (after_all told (begun s)).world in
    subst (λ ms. AreHeldAt run.start.disks (map said w.fresh ++ asked next event ∷ ms) w → AreAgentsAt run.start.disks (map said w.fresh ++ asked next event ∷ ms) w → HaveCaught run.start.disks (map said w.fresh ++ asked next event ∷ ms) w) r.is
    (have_caught run.units logins has run.start.disks w h m)
    (holders_between_law line run few has small size short all fit next event d told may) (agents_between_law line run few has small size short all fit next event d told may)

-- ---- sessions
is_run : (run : Run) → run.initiators ≤ 4 → length run.entries + 2 < 2 ^ 32 → AreEntries (beginning run) run.entries → AreLines run run.entries → IsRun run
is_run run few short all fit = record { few = few; short = short; entries = all; lines = fit }

pub joined_law : JoinedLaw
joined_law line run few has small size short all fit i b =
    let r = holds_after line run run.entries few has small size short all fit in
    let w = (after (beginning run) run.entries).world in
    let is = is_run run few short all fit in
    subst (λ ms. (host_at ms i).session ≡ session_in (initiator_at w i).seat → ReadAs ms i (initiator_at w i).lists.slots → IsJoined ms i) r.is
    (joined run.units (ready_logins run.initiators run.ready) has run.start.disks w r.holds (met_after line run run.entries few has small size short all fit) i (subst (λ n. i < n) (sym (count_after run run.entries)) b))
    (ap (λ (c : Core). c.session) (host_law.core line run is i b)) (run_law.reads line run is i b)

session_between : (line : ℕ) (run : Run) → IsRun run → (next : ℕ) (event : Event) → DeliversMore event → (told : List (Option Told)) → MayAll told (begun (after (beginning run) run.entries)) → (i : ℕ) → i < run.initiators → (let w = (after_all told (begun (after (beginning run) run.entries))).world in (host_at (map said w.fresh ++ asked next event ∷ history_of line run) i).session ≡ session_in (initiator_at w i).seat)
session_between line run is next (events.Step count) d told may i b = ap (λ (c : Core). c.session) (host_law.between line run is next (Some count) told may i b)
session_between line run is next events.Settle d told may i b = ap (λ (c : Core). c.session) (host_law.between line run is next None told may i b)
session_between line run is next (events.Begin initiators ready) d told may i b = absurd d
session_between line run is next (events.Act initiator action) d told may i b = absurd d
session_between line run is next (events.Reset physical) d told may i b = absurd d
session_between line run is next (events.See node) d told may i b = absurd d
session_between line run is next (events.Deliver serial) d told may i b = absurd d
session_between line run is next (events.Repeat serial) d told may i b = absurd d
session_between line run is next (events.Lose serial) d told may i b = absurd d
session_between line run is next (events.Timeout serial) d told may i b = absurd d
session_between line run is next events.Tick d told may i b = absurd d
session_between line run is next (events.Inject initiator bytes) d told may i b = absurd d
session_between line run is next (events.Key unit key) d told may i b = absurd d

rows_between : (line : ℕ) (run : Run) → IsRun run → (next : ℕ) (event : Event) → DeliversMore event → (told : List (Option Told)) → MayAll told (begun (after (beginning run) run.entries)) → (i : ℕ) → i < run.initiators → (let w = (after_all told (begun (after (beginning run) run.entries))).world in IsHost (map said w.fresh ++ asked next event ∷ history_of line run) i (initiator_at w i))
rows_between line run is next (events.Step count) d told may i b = run_law.between line run is next (Some count) told may i b
rows_between line run is next events.Settle d told may i b = run_law.between line run is next None told may i b
rows_between line run is next (events.Begin initiators ready) d told may i b = absurd d
rows_between line run is next (events.Act initiator action) d told may i b = absurd d
rows_between line run is next (events.Reset physical) d told may i b = absurd d
rows_between line run is next (events.See node) d told may i b = absurd d
rows_between line run is next (events.Deliver serial) d told may i b = absurd d
rows_between line run is next (events.Repeat serial) d told may i b = absurd d
rows_between line run is next (events.Lose serial) d told may i b = absurd d
rows_between line run is next (events.Timeout serial) d told may i b = absurd d
rows_between line run is next events.Tick d told may i b = absurd d
rows_between line run is next (events.Inject initiator bytes) d told may i b = absurd d
rows_between line run is next (events.Key unit key) d told may i b = absurd d

pub joined_between_law : JoinedBetweenLaw
joined_between_law line run few has small size short all fit next event d told may i b =
    let r = holds_after line run run.entries few has small size short all fit in
    let s = after (beginning run) run.entries in
    let logins = ready_logins run.initiators run.ready in
    let begins = opens run.units logins has run.start.disks next event s.world (not_reset event d) r.holds in
    let repeats = no_repeats event (hist r.past s.world) next d in
    let h = all_heard run.units logins has run.start.disks told (are_told told s may) (begun s) begins repeats in
    let m = all_met run.units logins has run.start.disks told (are_told told s may) (begun s) begins (opened run.units logins has run.start.disks s.world (met_after line run run.entries few has small size short all fit)) repeats in
    let w = (after_all told (begun s)).world in
    let is = is_run run few short all fit in
    let ms = map said w.fresh ++ asked next event ∷ history_of line run in
    subst (λ past. (host_at (map said w.fresh ++ asked next event ∷ past) i).session ≡ session_in (initiator_at w i).seat → ReadAs (map said w.fresh ++ asked next event ∷ past) i (initiator_at w i).lists.slots → IsJoined (map said w.fresh ++ asked next event ∷ past) i) r.is
    (joined run.units logins has run.start.disks w h m i (subst (λ n. i < n) (sym (count_between told s ∙ count_after run run.entries)) b))
    (session_between line run is next event d told may i b) (read_law ms i (initiator_at w i).lists.slots (rows_between line run is next event d told may i b).rows)
