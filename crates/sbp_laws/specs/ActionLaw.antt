-- The action law. Which notes a line brings: `begin` its note; an initiator's action the refusal with the least number that holds, and
-- nothing else, or its notes and one request where it makes one; `deliver` and `repeat` one delivery, `lose` and `timeout` their note and
-- effects, or refusal 11; `step` and `settle` deliveries of the lowest serial in flight, up to a number or until none is in flight, and
-- `settle` then `settled` or `stopped`; `reset` and `see` the latest generation, and where it is new its effects; `tick` the logins that
-- expire; `inject` the injected packet, or refusal 12; `key` its note, or refusal 13. In each turn the effects stand before the packets, in
-- one order.
use Rattle.std.specs.Prelude.{◌≡◌, ℕ, List, [], ◌∷◌, ◌++◌, reverse, Option, Some, None}
use Rattle.rbc_disk.specs.Disk.{Disk}
use Rattle.sbp_journal.specs.Run.{Entry, Moment, asked, said, history}
use Rattle.sbp_journal.specs.declared.event.Event.{Event}
use Rattle.sbp_journal.specs.declared.event.Event.TheVariants as events
use Rattle.sbp_journal.specs.declared.event.Action.{Action}
use Rattle.sbp_journal.specs.declared.note.Note.{Note}
use Rattle.sbp_laws.specs.Turns.{Turn, EachTurn, effects_of, sends_of}
use Rattle.sbp_laws.specs.Actions.{refusal_at, action_notes}
use Rattle.sbp_laws.specs.LineLaw.{BringsLine, refused}
use Rattle.sbp_laws.specs.NoteKinds.{of_kind, is_cut_note, is_cleared_note, is_failure_note, is_end_note, is_operation_note}
use Rattle.sbp_laws.specs.LoginLaw.{is_login_note, is_decision_note}
use Rattle.sbp_laws.specs.MediaLaw.{is_push_note, is_told_note}
use Rattle.sbp_laws.specs.Deliveries.{is_run_note, is_taken_note}

-- ---- lines
-- an action that is not refused: its notes, and behind them its request, if it makes one
pub record Acts (past : List Moment) (i : ℕ) (action : Action) (told : List Note) : Type 0 where
  pub effects : effects_of told ≡ action_notes action past i
  pub first : told ≡ effects_of told ++ sends_of told

abbrev pub ActsOr : Option ℕ → List Moment → (line i : ℕ) → Action → List Note → Type 0
ActsOr (Some number) past line i action told = told ≡ refused line number
ActsOr None past line i action told = Acts past i action told

-- The notes of the line with this number, in the order of time, behind what stood before it: those of an action, and those of the lines of
-- the bus.
abbrev pub Brings : List Disk → List Moment → ℕ → Event → List Note → Type 0
Brings disks past line (events.Act i action) told = ActsOr (refusal_at past i action) past line i action told
Brings disks past line event told = BringsLine disks past line event told

abbrev pub BringsEach : List Disk → List Entry → Type 0
BringsEach disks [] = Unit {0}
BringsEach disks (entry ∷ before) = Brings disks (history before) entry.line entry.event (reverse entry.notes) × BringsEach disks before

-- ---- the order of the notes of a turn
-- the effects in their order: cuts, `cleared`, logins, the decision, its failure; a run, a death and an end; unsolicited statuses; what an
-- initiator is told and takes, and what its operations, its list and its session come to
abbrev pub in_order : List Note → List Note
in_order effects =
    of_kind is_cut_note effects ++ of_kind is_cleared_note effects ++ of_kind is_login_note effects ++ of_kind is_decision_note effects ++ of_kind is_failure_note effects
    ++ of_kind is_run_note effects ++ of_kind is_end_note effects ++ of_kind is_push_note effects
    ++ of_kind is_told_note effects ++ of_kind is_taken_note effects ++ of_kind is_operation_note effects

pub record InOrder (t : Turn) : Type 0 where
  pub effects : effects_of t.rest ≡ in_order (effects_of t.rest)
  pub first : t.rest ≡ effects_of t.rest ++ sends_of t.rest

abbrev pub OrdersTurn : Moment → Turn → Type 0
OrdersTurn (asked line event) t = Unit {0}
OrdersTurn (said note) t = InOrder t

abbrev pub Ordered : Turn → Type 0
Ordered t = OrdersTurn t.start t

pub record ActionLaw (disks : List Disk) (entries : List Entry) : Type 0 where
  pub brings : BringsEach disks entries
  pub ordered : EachTurn Ordered (history entries)
