-- In every run the terms of the lists of each initiator are the rows of its slots.
use Rattle.sbp_world.proofs.Words.Std.{arith, ◌≡◌, refl, sym, ◌∙◌, ap, subst, ℕ, suc, ◌+◌, ◌^◌, ◌<◌, ◌≤◌, nat_lt, Bool, true, false, cond, List, [], ◌∷◌, ◌++◌, length, map, Option, Some, None}
use Rattle.sbp_world.proofs.Words.Wire.{is_reset, Moment, asked, said, terms, Action, Event, node_of, reset_step, topology_at, no_node, no_packet, end_note}
use Rattle.sbp_world.proofs.Words.Target.{Told, with_key}
use Rattle.sbp_world.proofs.Words.Initiator.{new_state}
use Rattle.sbp_world.proofs.Words.World.{moments_behind, MayHappen, acted, happens, keyed, no_unit, new_world, reset_line, MayIf, delivered_if, inject_line, injected, injected_to, is_in_flight, lose_line, lost, may_repeat, refused, AreEntries, Entry, Run, after, beginning, posted, MayAll, MayNext, after_all, delivered_at, delivered_next, is_settled, lowest, Scene, WorldState, begun, initiator_at, with_note, with_target, without_notes, BytesTold, AreLines, IsLine, history, is_abort, IsRun, RunLaw, more_deliveries, IsNoAbort, AreHosts, IsHost, NoneAborts}
use Rattle.sbp_world.proofs.FitInitiator.Law.{fitting_law as own_fitting_law}
use Rattle.sbp_journal.specs.declared.event.Action.TheVariants as actions
use Rattle.sbp_journal.specs.declared.event.Event.TheVariants as events
use Rattle.sbp_journal.specs.declared.note.Note.TheVariants as notes
use Rattle.sbp_world.proofs.Making.{initiators_size}
use Rattle.sbp_world.specs.Settling as settling
use Rattle.sbp_world.proofs.FitTarget.Law.{fitting_law}
use Rattle.sbp_world.proofs.Wire.Holding.{Sound}
use Rattle.sbp_world.proofs.Wire.Runs.{sound_after}
use Rattle.sbp_world.proofs.Wire.Sizes.{Sizes, happens_keeps, new_sizes}
use Rattle.sbp_world.proofs.Wire.Sound.{next_heard, opens}
use Rattle.sbp_world.proofs.Wire.Starts.{states_at}
use Rattle.sbp_world.proofs.Wire.ToldBytes.{happened_fits}
use Rattle.sbp_world.proofs.Wire.CommandBytes.{AreTold}
use Rattle.sbp_world.proofs.Hosts.Aborts.{line_aborts}
use Rattle.sbp_world.proofs.Hosts.Beside.{begins, beside_rests, sent_rests}
use Rattle.sbp_world.proofs.Hosts.Brings.{may_deliver}
use Rattle.sbp_world.proofs.Hosts.Hosting.{note_hosts}
use Rattle.sbp_world.proofs.Hosts.Knows.{may_see, target_there}
use Rattle.sbp_world.proofs.Hosts.Liners.{acts, delivers, line_expires, line_sees, ticks}
use Rattle.sbp_world.proofs.Hosts.Readings.{read_law}
use Rattle.sbp_world.proofs.Hosts.Outboxes.{line_stays as line_same}

-- ---- a line begins

opened : (past : List Moment) (line : ℕ) (event : Event) (w : WorldState) → AreHosts past w → AreHosts (asked line event ∷ history w past) (without_notes w)
opened past line event w h i b = record { number = (h i b).number; rows = (h i b).rows; pin = (h i b).pin }

-- a line that is no abort stays so
none_aborts : (past : List Moment) (line : ℕ) (event : Event) (w : WorldState) → ((i : ℕ) → IsNoAbort i (Some event)) → NoneAborts (history w (asked line event ∷ past))
none_aborts past line event w n i = subst (IsNoAbort i) (sym (line_same w.fresh (asked line event ∷ past))) (n i)

-- ---- an action

module _ {past : List Moment} {lines : ℕ} (line i : ℕ) (w : WorldState) (inside : i < length w.initiators) (sound : Sound past lines w) (h : AreHosts past w) where
  plain_act : (action : Action) → is_abort action ≡ false → ((j : ℕ) → IsNoAbort j (Some (events.Act i action))) → AreHosts (asked line (events.Act i action) ∷ history w past) (acted line i action (without_notes w))
  plain_act action e n = acts (asked line (events.Act i action) ∷ history w past) line i action (without_notes w) inside n (opened past line (events.Act i action) w h) e

  abort_act : (number : ℕ) → AreHosts (asked line (events.Act i (actions.Abort number)) ∷ history w past) (acted line i (actions.Abort number) (without_notes w))
  abort_act number =
      let event = events.Act i (actions.Abort number) in
      let there = target_there w sound.stands i inside sound.nodes in
      line_aborts (asked line event ∷ history w past) line i number 0 (without_notes w) inside (ap (λ n. node_of w.generations n (initiator_at w i).target) (let e : i + 1 ≡ suc i = omega arith in e) ∙ there) refl (opened past line event w h)

  acts_line : (action : Action) → AreHosts (asked line (events.Act i action) ∷ history w past) (acted line i action (without_notes w))
  acts_line (actions.Abort number) = abort_act number
  acts_line (actions.Put cmd) = plain_act (actions.Put cmd) refl (λ j. tt)
  acts_line (actions.Append cmd) = plain_act (actions.Append cmd) refl (λ j. tt)
  acts_line actions.Low = plain_act actions.Low refl (λ j. tt)
  acts_line actions.Link = plain_act actions.Link refl (λ j. tt)
  acts_line actions.Ring = plain_act actions.Ring refl (λ j. tt)
  acts_line (actions.Dummy orb) = plain_act (actions.Dummy orb) refl (λ j. tt)
  acts_line actions.Rom = plain_act actions.Rom refl (λ j. tt)
  acts_line actions.AgentReset = plain_act actions.AgentReset refl (λ j. tt)
  acts_line actions.State = plain_act actions.State refl (λ j. tt)
  acts_line actions.Enable = plain_act actions.Enable refl (λ j. tt)
  acts_line (actions.Login unit reconnect exclusive password) = plain_act (actions.Login unit reconnect exclusive password) refl (λ j. tt)
  acts_line (actions.Query unit) = plain_act (actions.Query unit) refl (λ j. tt)
  acts_line actions.Reconnect = plain_act actions.Reconnect refl (λ j. tt)
  acts_line actions.Logout = plain_act actions.Logout refl (λ j. tt)
  acts_line actions.AbortSet = plain_act actions.AbortSet refl (λ j. tt)
  acts_line actions.UnitReset = plain_act actions.UnitReset refl (λ j. tt)
  acts_line actions.TargetReset = plain_act actions.TargetReset refl (λ j. tt)

-- ---- deliveries

-- a world behind some of them
record Heard (past : List Moment) (lines : ℕ) (w : WorldState) : Type 0 where
  sound : Sound past lines w
  hosts : AreHosts past w

module _ (past : List Moment) (lines line : ℕ) (event : Event) (n : (i : ℕ) → IsNoAbort i (Some event)) where
  abbrev now : List Moment
  now = asked line event ∷ past

  one_heard : (serial : ℕ) (again : Bool) (b : Bool) (told : List (Option Told)) (s : Scene) → MayIf b serial told s → Sound now lines s.world → AreHosts now s.world → AreHosts now (delivered_if b line serial again told s).world
  one_heard serial again true [] s m sound h = absurd m
  one_heard serial again true (told ∷ []) s m sound h =
      delivers now serial again told s m (none_aborts past line event s.world n) (may_deliver s.world sound.stands serial _ refl) h
  one_heard serial again true (told ∷ other ∷ more) s m sound h = absurd m
  one_heard serial again false told s m sound h = note_hosts now s.world (notes.Refused line no_packet) (λ i. refl) h

  next_told : (told : Option Told) → BytesTold told → (s : Scene) → Heard now lines s.world → (terms now).repeats ≡ false → (o : Option ℕ) → lowest s.world ≡ o → settling.MayAt o told s → Heard now lines (delivered_at o told s).world
  next_told told t s h r None e m = absurd m
  next_told told t s h r (Some serial) e m = record {
    sound = next_heard fitting_law own_fitting_law told t s h.sound r (Some serial) e;
    hosts = delivers now serial false told s m (none_aborts past line event s.world n) (may_deliver s.world h.sound.stands serial _ refl) h.hosts;
  }

  all_told : (told : List (Option Told)) → AreTold told → (s : Scene) → MayAll told s → Heard now lines s.world → (terms now).repeats ≡ false → Heard now lines (after_all told s).world
  unfolding delivered_next MayNext
  all_told [] t s m h r = h
  all_told (told ∷ before) t s m h r =
      let b = all_told before t.1 s m.1 h r in
      next_told told t.0 (after_all before s) b r (lowest (after_all before s).world) refl m.0

ends : (past : List Moment) (w : WorldState) (b : Bool) → AreHosts past w → AreHosts past (with_note (end_note b) w)
ends past w true h = note_hosts past w notes.Settled (λ i. refl) h
ends past w false h = note_hosts past w notes.Stopped (λ i. refl) h

-- ---- the other lines

loses : (past : List Moment) (line serial : ℕ) (w : WorldState) (b : Bool) → AreHosts past w → AreHosts past (cond b (lost serial w) (refused line no_packet w))
loses past line serial w true h = note_hosts past w (notes.Lost serial) (λ i. refl) h
loses past line serial w false h = note_hosts past w (notes.Refused line no_packet) (λ i. refl) h

keys : (past : List Moment) (line unit : ℕ) (key : List ℕ) (w : WorldState) (b : Bool) → AreHosts past w → AreHosts past (cond b (with_note (notes.Key unit) (with_target (with_key unit key w.target) w)) (refused line no_unit w))
keys past line unit key w true h = note_hosts past w (notes.Key unit) (λ i. refl) h
keys past line unit key w false h = note_hosts past w (notes.Refused line no_unit) (λ i. refl) h

injects : (past : List Moment) (line from : ℕ) (bytes : List ℕ) (w : WorldState) (to : Option ℕ) → NoneAborts (history w past) → AreHosts past w → AreHosts past (injected to line from bytes w)
unfolding posted
injects past line from bytes w None n h = note_hosts past w (notes.Refused line no_node) (λ i. refl) h
injects past line from bytes w (Some to) n h = λ i b.
    let s = (initiator_at w i).lists.slots in
    let serial = w.store.last + 1 in
    record {
      number = (h i b).number;
      rows = sent_rests (said (notes.Injected serial) ∷ history w past) i s (beside_rests (history w past) i s (h i b).rows (notes.Injected serial) refl) serial (topology_at w.generations from).generation from to bytes (n i);
      pin = (h i b).pin;
    }

-- ---- every line

line_keeps : {past : List Moment} {lines : ℕ} (line : ℕ) (event : Event) (told : List (Option Told)) (s : Scene) → IsLine event (length s.world.initiators) → AreTold told → MayHappen event told s → Sound past lines s.world → AreHosts past s.world → AreHosts (asked line event ∷ history s.world past) (happens line event told s).world
unfolding happens MayHappen reset_line lose_line inject_line keyed
line_keeps line (events.Begin initiators ready) told s q t m sound h = absurd q
line_keeps line (events.Act i action) told s q t m sound h = acts_line line i s.world q.0 sound h action
line_keeps {past} line (events.Reset physical) told s q t m sound h =
    let w = s.world in
    let v = record (without_notes w) { generations = reset_step physical w.generations } in
    note_hosts (asked line (events.Reset physical) ∷ history w past) v (notes.Reset v.generations.latest.generation) (λ i. refl) (opened past line (events.Reset physical) w h)
line_keeps {past} line (events.See node) told s q t m sound h =
    let event = events.See node in
    let o = opens line event s.world refl sound in
    line_sees (asked line event ∷ history s.world past) node (without_notes s.world) (λ i. tt) (opened past line event s.world h)
    (λ i e. let l : node ≤ length s.world.initiators = q in omega arith)
    (λ i e. may_see (without_notes s.world) o.stands i (let l : node ≤ length s.world.initiators = q in omega arith))
line_keeps {past} {lines} line (events.Deliver serial) told s q t m sound h =
    let event = events.Deliver serial in
    one_heard (history s.world past) lines line event (λ i. tt) serial false (is_in_flight serial (begun s).world) told (begun s) m (opens line event s.world refl sound) (opened past line event s.world h)
line_keeps {past} {lines} line (events.Repeat serial) told s q t m sound h =
    let event = events.Repeat serial in
    one_heard (history s.world past) lines line event (λ i. tt) serial true (may_repeat serial (begun s).world) told (begun s) m (opens line event s.world refl sound) (opened past line event s.world h)
line_keeps {past} line (events.Lose serial) told s q t m sound h =
    let event = events.Lose serial in
    loses (asked line event ∷ history s.world past) line serial (without_notes s.world) (is_in_flight serial (without_notes s.world)) (opened past line event s.world h)
line_keeps {past} line (events.Timeout serial) told s q t m sound h =
    let event = events.Timeout serial in
    line_expires (asked line event ∷ history s.world past) line serial (without_notes s.world) (λ i. tt) (opened past line event s.world h)
line_keeps {past} {lines} line (events.Step count) told s q t m sound h =
    let event = events.Step count in
    (all_told (history s.world past) lines line event (λ i. tt) told t (begun s) m.may (record { sound = opens line event s.world refl sound; hosts = opened past line event s.world h }) refl).hosts
line_keeps {past} {lines} line events.Settle told s q t m sound h =
    let all = all_told (history s.world past) lines line events.Settle (λ i. tt) told t (begun s) m.may (record { sound = opens line events.Settle s.world refl sound; hosts = opened past line events.Settle s.world h }) refl in
    let w = (after_all told (begun s)).world in
    ends (asked line events.Settle ∷ history s.world past) w (is_settled w) all.hosts
line_keeps {past} line events.Tick told s q t m sound h =
    ticks (asked line events.Tick ∷ history s.world past) (without_notes s.world) (λ i. tt) (opened past line events.Tick s.world h)
line_keeps {past} line (events.Inject initiator bytes) told s q t m sound h =
    let event = events.Inject initiator bytes in
    injects (asked line event ∷ history s.world past) line (initiator + 1) bytes (without_notes s.world) (injected_to (initiator + 1) bytes (without_notes s.world)) (λ i. tt) (opened past line event s.world h)
line_keeps {past} line (events.Key unit key) told s q t m sound h =
    let event = events.Key unit key in
    keys (asked line event ∷ history s.world past) line unit key (without_notes s.world) (nat_lt unit (length s.world.target.units)) (opened past line event s.world h)

-- ---- a run

-- the initiators of a world, by a history
abbrev pub AreAt : List Moment → WorldState → Type 0
AreAt ms w = (i : ℕ) → i < length w.initiators → IsHost ms i (initiator_at w i)

pub first_host : (line i initiators : ℕ) (ready : Bool) → IsHost (said (notes.Begin initiators ready) ∷ asked line (events.Begin initiators ready) ∷ []) i (new_state i ready)
unfolding new_state
first_host line i initiators ready = record { number = refl; rows = begins line i initiators ready; pin = refl }

first_are : (line : ℕ) (run : Run) → AreAt (moments_behind line run []) (beginning run).world
unfolding new_world
first_are line run i b =
    let there : i < run.initiators = subst (λ n. i < n) (initiators_size run.initiators run.ready) b in
    subst (IsHost (moments_behind line run []) i) (sym (states_at run.initiators i run.ready (new_state 0 false) there)) (first_host line i run.initiators run.ready)

pub are_after : (line : ℕ) (run : Run) (entries : List Entry) → run.initiators ≤ 4 → length entries + 2 < 2 ^ 32 → AreEntries (beginning run) entries → AreLines run entries → AreAt (moments_behind line run entries) (after (beginning run) entries).world
are_after line run [] few short all fit = first_are line run
are_after line run (e ∷ before) few short all fit =
    let b = sound_after fitting_law own_fitting_law line run before few (omega arith) all.1 fit.1 in
    let s = after (beginning run) before in
    let so_far : AreHosts b.past s.world = subst (λ ms. AreAt ms s.world) (sym b.is) (are_after line run before few (omega arith) all.1 fit.1) in
    let now = (happens e.line e.event e.told s).world in
    subst (λ ms. AreAt ms now)
    (ap (λ ns. map said ns ++ asked e.line e.event ∷ (map said s.world.fresh ++ b.past)) (sym all.0.notes_are)
    ∙ ap (λ ms. map said e.notes ++ asked e.line e.event ∷ ms) b.is)
    (line_keeps e.line e.event e.told s fit.0 (happened_fits e.event e.told s all.0.may) all.0.may b.sound so_far)

pub count_after : (run : Run) (entries : List Entry) → length (after (beginning run) entries).world.initiators ≡ run.initiators
count_after run [] = ap (λ (z : Sizes). z.0) (new_sizes run.initiators run.ready run.units)
count_after run (e ∷ before) = ap (λ (z : Sizes). z.0) (happens_keeps e.line e.event e.told (after (beginning run) before)) ∙ count_after run before

rows_after : (line : ℕ) (run : Run) → IsRun run → (i : ℕ) → i < run.initiators → IsHost (moments_behind line run run.entries) i (initiator_at (after (beginning run) run.entries).world i)
rows_after line run r i b =
    are_after line run run.entries r.few r.short r.entries r.lines i (subst (λ n. i < n) (sym (count_after run run.entries)) b)

-- ---- between two deliveries of a line

pub are_told : (told : List (Option Told)) (s : Scene) → MayAll told (begun s) → AreTold told
unfolding MayHappen
are_told told s m = happened_fits (events.Step (length told)) told s (record { few = omega arith; all = λ l. absurd (omega (arith, l)); may = m })

pub count_between : (told : List (Option Told)) (s : Scene) → length (after_all told (begun s)).world.initiators ≡ length s.world.initiators
unfolding happens
count_between told s = ap (λ (z : Sizes). z.0) (happens_keeps 0 (events.Step 0) told s)

between_by : (line : ℕ) (run : Run) → IsRun run → (next : ℕ) (event : Event) → is_reset event ≡ false → ((i : ℕ) → IsNoAbort i (Some event)) → ((ms : List Moment) → (terms (asked next event ∷ ms)).repeats ≡ false) → (told : List (Option Told)) → MayAll told (begun (after (beginning run) run.entries)) → (i : ℕ) → i < run.initiators → (let w = (after_all told (begun (after (beginning run) run.entries))).world in IsHost (map said w.fresh ++ asked next event ∷ moments_behind line run run.entries) i (initiator_at w i))
between_by line run r next event e n repeats told m i b =
    let before = sound_after fitting_law own_fitting_law line run run.entries r.few r.short r.entries r.lines in
    let s = after (beginning run) run.entries in
    let so_far : AreHosts before.past s.world = subst (λ ms. AreAt ms s.world) (sym before.is) (are_after line run run.entries r.few r.short r.entries r.lines) in
    let all = all_told (history s.world before.past) (length run.entries) next event n told (are_told told s m) (begun s) m
    (record { sound = opens next event s.world e before.sound; hosts = opened before.past next event s.world so_far }) (repeats (history s.world before.past)) in
    let w = (after_all told (begun s)).world in
    subst (λ ms. IsHost (map said w.fresh ++ asked next event ∷ ms) i (initiator_at w i)) before.is
    (all.hosts i (subst (λ k. i < k) (sym (count_between told s ∙ count_after run run.entries)) b))

between_after : (line : ℕ) (run : Run) → IsRun run → (next : ℕ) (most : Option ℕ) (told : List (Option Told)) → MayAll told (begun (after (beginning run) run.entries)) → (i : ℕ) → i < run.initiators → (let w = (after_all told (begun (after (beginning run) run.entries))).world in IsHost (map said w.fresh ++ asked next (more_deliveries most) ∷ moments_behind line run run.entries) i (initiator_at w i))
between_after line run r next (Some count) told m i b = between_by line run r next (events.Step count) refl (λ j. tt) (λ ms. refl) told m i b
between_after line run r next None told m i b = between_by line run r next events.Settle refl (λ j. tt) (λ ms. refl) told m i b

pub run_law : RunLaw
run_law = record {
  rows = rows_after;
  between = between_after;
  reads = λ line run r i b. read_law (moments_behind line run run.entries) i (initiator_at (after (beginning run) run.entries).world i).lists.slots (rows_after line run r i b).rows;
}
