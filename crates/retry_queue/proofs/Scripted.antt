-- What the lines of a queue's script ask its world for: they are lines of the bus, or its one initiator logs in on unit 0, reconnects, resets the agent or appends an ORB. So no ORB is aborted.
use Rattle.std.proofs.Common.{◌≡◌, refl, sym, subst, ℕ, Bool, true, false, List, [], ◌∷◌, ◌++◌, map, Option, Some, None}
use Rattle.std.specs.Prelude.{replicate, slice_get}
use Rattle.std.specs.Option.{option_map}
use Rattle.sbp_journal.specs.Run.{Moment, asked, said}
use Rattle.sbp_journal.specs.declared.event.Action.{Action}
use Rattle.sbp_journal.specs.declared.event.Action.TheVariants as actions
use Rattle.sbp_journal.specs.declared.event.Event.{Event}
use Rattle.sbp_journal.specs.declared.event.Event.TheVariants as events
use Rattle.sbp_journal.specs.declared.note.Note.{Note}
use Rattle.sbp_journal.specs.declared.note.Note.TheVariants as notes
use Rattle.sbp_laws.specs.Hosts.{Session, entering, held, leaving, live, out, returning, stuck}
use Rattle.sbp_laws.specs.Turns.{EachMoment}
use Rattle.sbp_world.specs.Lists.PlainStatuses.{AbortsNone, NoneAborts}
use Rattle.sbp_world.specs.Lists.UnitLines.{AsksOnly}
use Rattle.retry_queue.specs.declared.line.QueueLine.{QueueLine}
use Rattle.retry_queue.specs.declared.line.QueueLine.TheVariants.{Bus, Submit, Pump}
use Rattle.retry_queue.specs.Kept.{asked_by, kept, told}
use Rattle.retry_queue.specs.Lines.{is_bus_line}
use Rattle.retry_queue.specs.Pump.{append_of, row}
use Rattle.retry_queue.specs.Queues.{behind, pumped, writes}
use Rattle.retry_queue.specs.Queues as queues
use Rattle.retry_queue.specs.Scripts.{AreServed, MaySay, Served, event_in, told_in, with_line}
use Rattle.retry_queue.specs.Scripts as scripts
use Rattle.retry_queue.specs.Steps.{Step, Submission, command_for, world}
use Rattle.retry_queue.proofs.Acted.{IsOfPump}
use Rattle.retry_queue.proofs.Cases.{some_is}
use Rattle.retry_queue.proofs.Standing.{world-behind}

-- ---- events

abbrev pub IsOfScript : Event → Type 0
IsOfScript (events.Act i action) = (i ≡ 0) × IsOfPump action
IsOfScript (events.Begin initiators ready) = Unit {0}
IsOfScript event = is_bus_line event ≡ true

abbrev pub AskedAt : Moment → List Moment → Type 0
AskedAt (asked line event) past = IsOfScript event
AskedAt (said note) past = Unit {0}

of_bus : (event : Event) → is_bus_line event ≡ true → IsOfScript event
of_bus (events.Act i action) e = absurd (cc e)
of_bus (events.Begin initiators ready) e = tt
of_bus _ e = e

-- ---- what a pump does

append_kind : (write : Option Submission) (action : Action) → append_of write ≡ Some action → IsOfPump action
append_kind None action e = absurd (cc e)
append_kind (Some w) action e = subst IsOfPump (some_is (actions.Append (command_for w)) action e) tt

pub row_kind : (busy : Bool) (session : Session) (dead : Bool) (write : Option Submission) (action : Action) → row busy session dead write ≡ Some action → IsOfPump action
row_kind true session dead write action e = absurd (cc e)
row_kind false out dead write action e = subst IsOfPump (some_is (actions.Login 0 3 false (replicate 8 0)) action e) refl
row_kind false entering dead write action e = absurd (cc e)
row_kind false live true write action e = subst IsOfPump (some_is actions.AgentReset action e) tt
row_kind false live false write action e = append_kind write action e
row_kind false held dead write action e = subst IsOfPump (some_is actions.Reconnect action e) tt
row_kind false returning dead write action e = absurd (cc e)
row_kind false leaving dead write action e = absurd (cc e)
row_kind false (stuck had_login) dead write action e = absurd (cc e)

own_event : (action : Option Action) (event : Event) → ((a : Action) → action ≡ Some a → IsOfPump a) → option_map queues.own action ≡ Some event → IsOfScript event
own_event None event kind e = absurd (cc e)
own_event (Some action) event kind e = subst IsOfScript (some_is (queues.own action) event e) (refl, kind action refl)

-- ---- the lines of a script

asked_notes : (ns : List Note) (past : List Moment) → EachMoment AskedAt past → EachMoment AskedAt (map said ns ++ past)
asked_notes [] past h = h
asked_notes (note ∷ ns) past h = (tt, asked_notes ns past h)

module _ (past : List Step) (number : ℕ) (before : EachMoment AskedAt (world past)) where
  asked_event : (event : Event) (ns : List Note) → IsOfScript event → EachMoment AskedAt (world (behind past number event (told (asked_by event) ns (kept past))))
  asked_event event ns of =
      subst (EachMoment AskedAt) (sym (world-behind (asked_by event) (kept past) number event past ns)) (asked_notes ns (asked number event ∷ world past) (of, before))

  asked_pump : (event : Option Event) (ns : List Note) → pumped (kept past) (writes past) ≡ event → EachMoment AskedAt (world (with_line past number event (told_in Pump event ns past)))
  asked_pump None ns e = before
  asked_pump (Some event) ns e =
      let write = slice_get (writes past) (kept past).next in
      asked_event event ns (own_event (row (kept past).is_busy (kept past).session (kept past).is_dead write) event (row_kind (kept past).is_busy (kept past).session (kept past).is_dead write) e)

  asked_next : (says : QueueLine) (ns : List Note) → MaySay says → EachMoment AskedAt (world (with_line past number (event_in says past) (told_in says (event_in says past) ns past)))
  asked_next (Bus event) ns may = asked_event event ns (of_bus event may.bus)
  asked_next (Submit lba bytes) ns may = before
  asked_next Pump ns may = asked_pump (pumped (kept past) (writes past)) ns refl

pub asked_script : (served : List Served) → AreServed served → EachMoment AskedAt (world (scripts.journal served))
asked_script [] a = absurd a
asked_script (served ∷ []) a = subst (λ s. EachMoment AskedAt (world (scripts.journal (s ∷ [])))) (sym a) (tt, (tt, tt))
asked_script (served ∷ one ∷ before) a = asked_next (scripts.journal (one ∷ before)) served.line (asked_script (one ∷ before) a.1) served.said served.notes a.0

-- ---- so no ORB is aborted, and each login is on unit 0

aborts_none : (event : Event) → IsOfScript event → AbortsNone event
aborts_none (events.Act i (actions.Abort k)) h = absurd h.1
aborts_none _ h = tt

pub none_aborts : (past : List Moment) → EachMoment AskedAt past → NoneAborts past
none_aborts [] h = tt
none_aborts (asked line event ∷ past) h = (aborts_none event h.0, none_aborts past h.1)
none_aborts (said note ∷ past) h = none_aborts past h.1

pub asks_one : (past : List Moment) → EachMoment AskedAt past → AsksOnly 0 past
asks_one [] h = tt
asks_one (asked line (events.Act i (actions.Login unit reconnect exclusive password)) ∷ past) h = (h.0.1, asks_one past h.1)
asks_one (said (notes.Begin initiators true) ∷ past) h = (refl, asks_one past h.1)
asks_one (_ ∷ past) h = asks_one past h.1
