-- In the journal of every script of a queue statuses are taken in turn and plain, and commands run on unit 0: in each line its world tells of no injected packet, no dummy, and no append but of
-- initiator 0, and so the laws of lists say it.
use Rattle.std.proofs.Common.{arith, ◌≡◌, ◌∙◌, refl, sym, ap, subst, ℕ, zero, suc, ◌+◌, ◌^◌, ◌<◌, ◌≤◌, nat_eq, nat_lt, Bool, true, false, cond, List, [], ◌∷◌, ◌++◌, length, map, reverse, Option, Some, None, ◌⊎◌, inl, inr}
use Rattle.std.specs.Prelude.{◌==◌, ◌&&◌, if◌then◌else◌}
use Rattle.std.proofs.lemmas.Bool.Decides.{nat_tests}
use Rattle.orb_layout.specs.declared.status.StatusKind.{StatusKind}
use Rattle.orb_layout.specs.declared.status.StatusKind.TheVariants as kinds
use Rattle.rbc_disk.specs.Disk.{Disk}
use Rattle.sbp_journal.specs.Form.{IsStatus}
use Rattle.sbp_journal.specs.Run.{Moment, asked, history, said}
use Rattle.sbp_journal.specs.declared.event.Action.{Action}
use Rattle.sbp_journal.specs.declared.event.Action.TheVariants as actions
use Rattle.sbp_journal.specs.declared.event.Event.{Event}
use Rattle.sbp_journal.specs.declared.event.Event.TheVariants as events
use Rattle.sbp_journal.specs.declared.note.Note.{Note}
use Rattle.sbp_journal.specs.declared.note.Note.TheVariants as notes
use Rattle.sbp_laws.specs.Lawful.{injectors}
use Rattle.sbp_laws.specs.LineLaw.{BringsLine, LineLaw}
use Rattle.sbp_laws.specs.Lists.{is_dummy, is_list, is_none_taken, present_list, taken_at}
use Rattle.sbp_laws.specs.OnTheBus.{HasFormAt}
use Rattle.sbp_laws.specs.OrderLaw.{OrderAt}
use Rattle.sbp_laws.specs.StatusLaw.{TakenAt}
use Rattle.sbp_laws.specs.Terms.{appends, ended_status, lists}
use Rattle.sbp_laws.specs.Turns.{EachMoment}
use Rattle.sbp_world.specs.Histories.{history_of, moments_behind}
use Rattle.sbp_world.specs.Hosts.Runs.{IsRun}
use Rattle.sbp_world.specs.Hosts.Statuses.Finished.{IsTakenHere}
use Rattle.sbp_world.specs.Lists.ListLaws.{HasListLaws}
use Rattle.sbp_world.specs.Lists.LoginUnits.{RunUnitAt}
use Rattle.sbp_world.specs.Lists.Opened.{AllOf}
use Rattle.sbp_world.specs.Lists.OwnLogins.{IsTame}
use Rattle.sbp_world.specs.Lists.PlainStatuses.{NotAbortedAt, NotDummyAt}
use Rattle.sbp_world.specs.Lists.TakenAlive.{TakesAlive}
use Rattle.sbp_world.specs.Lists.TakenTurns.{TakesInOrder}
use Rattle.sbp_world.specs.Runs.{AreEntries, Entry, Run, beginning}
use Rattle.sbp_world.specs.Wire.Journal.{journal_entries}
use Rattle.sbp_world.specs.Wire.Lines.{AreLines}
use Rattle.sbp_world.proofs.Hosts.Statuses.Finished.{finished_law}
use Rattle.sbp_world.proofs.Lists.JoinLaws.{lines_same}
use Rattle.sbp_world.proofs.Lists.UnitLines.{one_unit_law}
use Rattle.sbp_world.proofs.Wire.Entries.{bus_law}
use Rattle.retry_queue.specs.Lines.{is_bus_line}
use Rattle.retry_queue.specs.Runs.{IsQueueRun, QueueRunsArePlain}
use Rattle.retry_queue.specs.Scripts.{Served}
use Rattle.retry_queue.specs.Scripts as scripts
use Rattle.retry_queue.specs.Steps.{world}
use Rattle.retry_queue.specs.Taking.{IsPlain, IsPlainTaken, PlainAt}
use Rattle.retry_queue.proofs.Acted.{ActsSo, IsOfPump, acts_so, of_action, opening}
use Rattle.retry_queue.proofs.Cases.{both_ways, no_other, none_is, other, skips, some_is}
use Rattle.retry_queue.proofs.Entries.{all_forward, all_joined, is_usual, usual_line}
use Rattle.retry_queue.proofs.Generations.{TellsNoInjected, TellsNone, none_injected}
use Rattle.retry_queue.proofs.Scripted.{AskedAt, IsOfScript, asked_script, asks_one, none_aborts}

-- ---- notes that tell of no injected packet, no dummy, and no append but of initiator 0

abbrev is_own : Note → Bool
is_own (notes.Append (suc i) n k cdb buffer) = false
is_own (notes.Dummied i n k) = false
is_own (notes.Injected serial) = false
is_own _ = true

usual_own : (note : Note) → is_usual note ≡ true → is_own note ≡ true
usual_own (notes.Append i n k cdb buffer) e = absurd (cc e)
usual_own (notes.Dummied i n k) e = e
usual_own (notes.Injected serial) e = e
usual_own _ e = refl

action_own : (note : Note) → of_action note ≡ true → is_own note ≡ true
action_own (notes.Append i n k cdb buffer) e = absurd (cc e)
action_own (notes.Dummied i n k) e = e
action_own (notes.Injected serial) e = e
action_own _ e = refl

all_own_by : (A : Note → Bool) → ((note : Note) → A note ≡ true → is_own note ≡ true) → (ns : List Note) → AllOf A ns → AllOf is_own ns
all_own_by A f [] all = tt
all_own_by A f (note ∷ ns) all = (f note all.0, all_own_by A f ns all.1)

abbrev OwnAt : Moment → List Moment → Type 0
OwnAt (asked line event) past = Unit {0}
OwnAt (said note) past = is_own note ≡ true

own_notes : (ns : List Note) (past : List Moment) → AllOf is_own ns → EachMoment OwnAt past → EachMoment OwnAt (map said ns ++ past)
own_notes [] past all h = h
own_notes (note ∷ ns) past all h = (all.0, own_notes ns past all.1 h)

asked_before : (ns : List Note) (past : List Moment) → EachMoment AskedAt (map said ns ++ past) → EachMoment AskedAt past
asked_before [] past h = h
asked_before (note ∷ ns) past h = asked_before ns past h.1

-- ---- those of a line

opening_own : (action : Action) (past : List Moment) → AllOf is_own (opening action past)
opening_own (actions.Append cmd) past = (refl, tt)
opening_own _ past = tt

front_own : (front : List Note) (action : Action) (past : List Moment) → (front ≡ []) ⊎ (front ≡ opening action past) → AllOf is_own front
front_own front action past (inl e) = subst (AllOf is_own) (sym e) tt
front_own front action past (inr e) = subst (AllOf is_own) (sym e) (opening_own action past)

act_own : (past : List Moment) (action : Action) (ns : List Note) → ActsSo past action ns → AllOf is_own ns
act_own past action ns acts =
    subst (AllOf is_own) acts.behind.is
    (all_joined is_own acts.behind.more acts.front (all_own_by of_action action_own acts.behind.more acts.behind.all) (front_own acts.front action past acts.opens))

module _ (disks : List Disk) (before : List Moment) (number : ℕ) (ns : List Note) where
  bus_own : (event : Event) → is_bus_line event ≡ true → BringsLine disks before number event (reverse ns) → AllOf is_own ns
  bus_own event e brings = all_own_by is_usual usual_own ns (all_forward is_usual ns (usual_line disks before number event (reverse ns) e brings))

  event_own : (event : Event) → IsOfScript event → BringsLine disks before number event (reverse ns) → ((action : Action) → event ≡ events.Act 0 action → IsOfPump action → AllOf is_own ns) → AllOf is_own ns
  event_own (events.Act i action) of brings acts = acts action (ap (λ j. events.Act j action) of.0) of.1
  event_own (events.Begin count ready) of brings acts = all_forward is_own ns (subst (AllOf is_own) (sym brings) (refl, tt))
  event_own (events.Inject i bytes) of brings acts = absurd (cc of)
  event_own (events.Key unit key) of brings acts = absurd (cc of)
  event_own (events.Deliver serial) of brings acts = bus_own (events.Deliver serial) refl brings
  event_own (events.Repeat serial) of brings acts = bus_own (events.Repeat serial) refl brings
  event_own (events.Lose serial) of brings acts = bus_own (events.Lose serial) refl brings
  event_own (events.Timeout serial) of brings acts = bus_own (events.Timeout serial) refl brings
  event_own (events.Step count) of brings acts = bus_own (events.Step count) refl brings
  event_own events.Settle of brings acts = bus_own events.Settle refl brings
  event_own (events.Reset physical) of brings acts = bus_own (events.Reset physical) refl brings
  event_own (events.See node) of brings acts = bus_own (events.See node) refl brings
  event_own events.Tick of brings acts = bus_own events.Tick refl brings

-- ---- and of every line of a run

module _ (line : ℕ) (run : Run) (disks : List Disk) where
  -- what is known of some of its entries
  pub record AreOfRun (entries : List Entry) : Type 0 where
    pub every : AreEntries (beginning run) entries
    pub fit : AreLines run entries
    pub small : length entries + 2 < 2 ^ 32
    pub brings : LineLaw disks (journal_entries line run entries)

  pub earlier_of : (e : Entry) (earlier : List Entry) → AreOfRun (e ∷ earlier) → AreOfRun earlier
  earlier_of e earlier r = record {
    every = r.every.1;
    fit = r.fit.1;
    small = (let less = r.small in omega (arith, less));
    brings = r.brings.1;
  }

  module _ (few : run.initiators ≤ 4) where
    pub run_before : (e : Entry) (earlier : List Entry) → AreOfRun (e ∷ earlier) → IsRun (record run { entries = earlier })
    run_before e earlier r =
        let known = earlier_of e earlier r in record { few = few; short = known.small; entries = known.every; lines = lines_same run earlier earlier known.fit }

    module _ (some : 0 < run.initiators) where
      line_own : (e : Entry) (earlier : List Entry) → AreOfRun (e ∷ earlier) → IsOfScript e.event → AllOf is_own e.notes
      line_own e earlier r of =
          event_own disks (history (journal_entries line run earlier)) e.line e.notes e.event of r.brings.0
          (λ action is pumps. act_own (moments_behind line run earlier) action e.notes (acts_so line run earlier (run_before e earlier r) some e action is pumps r.every.0))

      all_own : (entries : List Entry) → AreOfRun entries → EachMoment AskedAt (moments_behind line run entries) → EachMoment OwnAt (moments_behind line run entries)
      all_own [] r a = (refl, (tt, tt))
      all_own (e ∷ earlier) r a =
          let here = asked_before e.notes (asked e.line e.event ∷ moments_behind line run earlier) a in
          own_notes e.notes (asked e.line e.event ∷ moments_behind line run earlier) (line_own e earlier r here.0) (tt, all_own earlier (earlier_of e earlier r) here.1)

-- ---- what such a history says

no_injected : (note : Note) → is_own note ≡ true → TellsNoInjected note
no_injected (notes.Injected serial) e = absurd (cc e)
no_injected _ e = tt

tells_none : (past : List Moment) → EachMoment OwnAt past → EachMoment TellsNone past
tells_none [] h = tt
tells_none (asked line event ∷ past) h = (tt, tells_none past h.1)
tells_none (said note ∷ past) h = (no_injected note h.0, tells_none past h.1)

-- no initiator injected packets
is_tame : (past : List Moment) → EachMoment OwnAt past → IsTame past
is_tame past h i = (none_injected past (tells_none past h)).nodes (suc i)

none_dummied : (past : List Moment) → EachMoment OwnAt past → (i n k : ℕ) → is_dummy past i n k ≡ false
none_dummied [] h i n k = refl
none_dummied (said (notes.Dummied j m l) ∷ past) h i n k = absurd (cc h.0)
none_dummied (_ ∷ past) h i n k = none_dummied past h.1 i n k

-- no other initiator than 0 has lists
record HasNoLists (past : List Moment) (i : ℕ) : Type 0 where
  unbegun : lists past i ≡ 0
  bare : (n : ℕ) → appends past i n ≡ 0

no_lists : (past : List Moment) → EachMoment OwnAt past → (i : ℕ) → HasNoLists past (suc i)
no_lists [] h i = record { unbegun = refl; bare = λ n. refl }
no_lists (said (notes.Append zero n k cdb buffer) ∷ past) h i =
    let before = no_lists past h.1 i in
    record {
      unbegun = skips (nat_eq (suc i) 0) (if k == 0 then suc (lists past 0) else lists past 0) (lists past (suc i)) (no_other i) ∙ before.unbegun;
      bare = λ m. skips (nat_eq (suc i) 0) (cond (nat_eq m n) (suc (appends past 0 n)) (appends past (suc i) m)) (appends past (suc i) m) (no_other i) ∙ before.bare m;
    }
no_lists (said (notes.Append (suc j) n k cdb buffer) ∷ past) h i = absurd (cc h.0)
no_lists (_ ∷ past) h i = let before = no_lists past h.1 i in record { unbegun = before.unbegun; bare = before.bare }

second : (b c d : Bool) → (b && c && d) ≡ true → c ≡ true
second true true d e = refl
second true false d e = absurd (cc e)
second false c d e = absurd (cc e)

none_waits : (b c : Bool) (k count : ℕ) → count ≡ 0 → (b && nat_lt k count && c) ≡ true → ⊥
none_waits b c k count none e =
    let less : nat_lt k count ≡ true = second b (nat_lt k count) c e in
    let below : k < count = grind (arith, nat_tests) in
    omega (arith, below, none)

none_open : (count n : ℕ) → count ≡ 0 → suc n ≡ count → ⊥
none_open count n none e = omega (arith, none, e)

-- ---- a status with which an ORB ended: not aborted, no dummy, and by the form of notes none of management

plain_kind : (n k : ℕ) (status : StatusKind) (past : List Moment) → NotAbortedAt (said (notes.Ended 0 (Some n) (Some k) status)) past → NotDummyAt 0 (said (notes.Ended 0 (Some n) (Some k) status)) past → IsStatus status → IsPlain status
plain_kind n k kinds.Good past unaborted own form = tt
plain_kind n k (kinds.Check sense) past unaborted own form = tt
plain_kind n k (kinds.Illegal meaning) past unaborted own form = tt
plain_kind n k kinds.Failed past unaborted own form = tt
plain_kind n k kinds.Dummy past unaborted own form = absurd (own refl)
plain_kind n k kinds.Aborted past unaborted own form = absurd unaborted
plain_kind n k (kinds.Management meaning) past unaborted own form = absurd form

ended_or : (c d : Bool) (one status : StatusKind) (old : Option StatusKind) → IsPlain one → (old ≡ Some status → IsPlain status) → cond c (cond d (Some one) old) old ≡ Some status → IsPlain status
ended_or true true one status old here before e = subst IsPlain (some_is one status e) here
ended_or true false one status old here before e = before e
ended_or false d one status old here before e = before e

ends_plain : (past : List Moment) → EachMoment NotAbortedAt past → EachMoment (NotDummyAt 0) past → EachMoment HasFormAt past → (n k : ℕ) (status : StatusKind) → ended_status past 0 n k ≡ Some status → IsPlain status
ends_plain [] a d f n k status e = absurd (none_is status e)
ends_plain (said (notes.Ended zero (Some m) (Some l) one) ∷ past) a d f n k status e =
    ended_or (nat_eq n m) (nat_eq k l) one status (ended_status past 0 n k) (plain_kind m l one past a.0 d.0 f.0) (ends_plain past a.1 d.1 f.1 n k status) e
ends_plain (said (notes.Ended (suc j) (Some m) (Some l) one) ∷ past) a d f n k status e =
    let old = ended_status past 0 n k in
    ends_plain past a.1 d.1 f.1 n k status (sym (skips (nat_eq 0 (suc j)) (cond (nat_eq n m) (cond (nat_eq k l) (Some one) old) old) old (other j)) ∙ e)
ends_plain (_ ∷ past) a d f n k status e = ends_plain past a.1 d.1 f.1 n k status e

-- ---- at each moment

record AreParts (count : ℕ) (wild : ℕ → Bool) (past : List Moment) : Type 0 where
  asks_are : EachMoment AskedAt past
  notes_are : EachMoment OwnAt past
  order : EachMoment (OrderAt wild) past
  takes_are : EachMoment (TakenAt wild) past
  waits : EachMoment IsTakenHere past
  number : EachMoment (TakesInOrder 0) past
  alive : EachMoment (TakesAlive 0) past
  unaborted : EachMoment NotAbortedAt past
  undummied : EachMoment (NotDummyAt 0) past
  form : EachMoment HasFormAt past
  on_units : EachMoment (RunUnitAt count) past

module _ (count : ℕ) (some : 0 < count) (wild : ℕ → Bool) (tame : (i : ℕ) → wild i ≡ false) where
  parts_before : (moment : Moment) (past : List Moment) → AreParts count wild (moment ∷ past) → AreParts count wild past
  parts_before moment past p = record {
    asks_are = p.asks_are.1;
    notes_are = p.notes_are.1;
    order = p.order.1;
    takes_are = p.takes_are.1;
    waits = p.waits.1;
    number = p.number.1;
    alive = p.alive.1;
    unaborted = p.unaborted.1;
    undummied = p.undummied.1;
    form = p.form.1;
    on_units = p.on_units.1;
  }

  taken_plain : (past : List Moment) (n k : ℕ) (status : StatusKind) (answer : List ℕ) → AreParts count wild (said (notes.Taken 0 n k status answer) ∷ past) → IsPlainTaken past 0 n k status
  taken_plain past n k status answer p = record {
    turn = record { number = p.number.0 refl; alive = p.alive.0 refl };
    plain = ends_plain past p.unaborted.1 p.undummied.1 p.form.1 n k status (p.takes_are.0 (tame 0)).ended;
  }

  plain_all : (past : List Moment) → AreParts count wild past → EachMoment PlainAt past
  plain_all [] p = tt
  plain_all (said (notes.Taken zero n k status answer) ∷ past) p = (taken_plain past n k status answer p, plain_all past (parts_before _ past p))
  plain_all (said (notes.Taken (suc i) n k status answer) ∷ past) p =
      absurd (none_waits (is_list (present_list past (suc i)) n) (is_none_taken (taken_at past (suc i) n k)) k (appends past (suc i) n) ((no_lists past p.notes_are.1 i).bare n) p.waits.0.waits)
  plain_all (said (notes.Ran zero list number unit cdb bytes check) ∷ past) p =
      let one = (p.on_units.0 some).all (is_tame past p.notes_are.1) in
      (one_unit_law 0 past (asks_one past p.asks_are.1) one.i unit one.asked, plain_all past (parts_before _ past p))
  plain_all (said (notes.Ran (suc i) (Some n) (Some k) unit cdb bytes check) ∷ past) p =
      absurd (none_open (lists past (suc i)) n (no_lists past p.notes_are.1 i).unbegun (p.order.0 (tame (suc i))).latest)
  plain_all (said (notes.Ran (suc i) (Some n) None unit cdb bytes check) ∷ past) p = absurd (both_ways (wild (suc i)) p.order.0 (tame (suc i)))
  plain_all (said (notes.Ran (suc i) None number unit cdb bytes check) ∷ past) p = absurd (both_ways (wild (suc i)) p.order.0 (tame (suc i)))
  plain_all (_ ∷ past) p = (tt, plain_all past (parts_before _ past p))

-- ---- every script

module _ (served : List Served) (line : ℕ) (run : Run) (h : IsQueueRun served line run) where
  abbrev past : List Moment
  past = history_of line run

  pub script_is_run : IsRun run
  script_is_run = record { few = h.like.few; short = h.like.count; entries = h.entries_are; lines = h.like.lines }

  some_initiator : 0 < run.initiators
  some_initiator = let one = h.one in omega (arith, one)

  asks_here : EachMoment AskedAt past
  asks_here = subst (EachMoment AskedAt) h.history (asked_script served h.lines)

  notes_here : EachMoment OwnAt past
  notes_here =
      all_own line run run.start.disks h.like.few some_initiator run.entries
      (record { every = h.entries_are; fit = h.like.lines; small = h.like.count; brings = h.laws.on_the_bus.lines }) asks_here

  pub script_is_tame : IsTame past
  script_is_tame = is_tame past notes_here

  pub script_laws : HasListLaws run.initiators run.start.disks past
  script_laws = h.laws.lists h.some h.most (inl script_is_tame)

  parts_here : AreParts run.initiators (injectors past) past
  parts_here = record {
    asks_are = asks_here;
    notes_are = notes_here;
    order = script_laws.on_lists.order;
    takes_are = script_laws.on_lists.status.taken;
    waits = finished_law.taken line run script_is_run;
    number = (script_laws.in_turn 0 some_initiator (script_is_tame 0)).number;
    alive = (script_laws.in_turn 0 some_initiator (script_is_tame 0)).alive;
    unaborted = script_laws.none_aborted script_is_tame (none_aborts past asks_here);
    undummied = script_laws.none_dummy 0 some_initiator (script_is_tame 0) (λ n k. none_dummied past notes_here 0 n k);
    form = subst (EachMoment HasFormAt) (bus_law.tie line run) h.laws.on_the_bus.form;
    on_units = script_laws.units;
  }

  plain_here : EachMoment PlainAt (world (scripts.journal served))
  plain_here = subst (EachMoment PlainAt) (sym h.history) (plain_all run.initiators some_initiator (injectors past) script_is_tame past parts_here)

pub queue_runs_plain : QueueRunsArePlain
queue_runs_plain served line run h = plain_here served line run h
