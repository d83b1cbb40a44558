-- What an entry adds: the conditions of the laws on the notes of one entry, behind a run. A run with one more entry is lawful exactly where
-- the run was and the entry adds lawfully.
use Rattle.std.specs.Prelude.{◌↔◌, ℕ, Bool, List, reverse}
use Rattle.rbc_disk.specs.Disk.{Disk}
use Rattle.sbp_journal.specs.Run.{Run, Moment, history, with_entry}
use Rattle.sbp_journal.specs.declared.event.Event.{Event}
use Rattle.sbp_journal.specs.declared.note.Note.{Note}
use Rattle.sbp_laws.specs.Turns.{EachMomentOf, EachTurnOf}
use Rattle.sbp_laws.specs.OnceLaw.{OnceAt}
use Rattle.sbp_laws.specs.OrderLaw.{OrderAt}
use Rattle.sbp_laws.specs.ExecutionLaw.{ExecutionAt}
use Rattle.sbp_laws.specs.StatusLaw.{TakenAt, TakesEach}
use Rattle.sbp_laws.specs.AnswerLaw.{AnswerAt}
use Rattle.sbp_laws.specs.CarriedLaw.{CarriedAt, EndsAsRead, RunsWhereDue}
use Rattle.sbp_laws.specs.CauseLaw.{HasCauses, AbortedAt}
use Rattle.sbp_laws.specs.JudgementLaw.{Judges}
use Rattle.sbp_laws.specs.LoginLaw.{HasLogins}
use Rattle.sbp_laws.specs.SentPackets.{SentAt}
use Rattle.sbp_laws.specs.SentAnswers.{AnswersLaw}
use Rattle.sbp_laws.specs.SentRequests.{RequestsLaw}
use Rattle.sbp_laws.specs.SentWrites.{DecisionsAreSent, StatusesAreSent}
use Rattle.sbp_laws.specs.Unasked.{NoneUnasked}
use Rattle.sbp_laws.specs.SentLaw.{AfterTurn}
use Rattle.sbp_laws.specs.MediaLaw.{HasPushes}
use Rattle.sbp_laws.specs.ActionLaw.{Brings, Ordered}
use Rattle.sbp_laws.specs.Lawful.{FormAt, LawfulBut, nobody}

-- The laws on one entry: a line with its event and its notes, the latest one first, behind a history.
pub record Adds (wild : ℕ → Bool) (start : List Disk) (past : List Moment) (line : ℕ) (event : Event) (told : List Note) : Type 0 where
  pub form : EachMomentOf FormAt past line event told
  pub once : EachMomentOf (OnceAt wild) past line event told
  pub order : EachMomentOf (OrderAt wild) past line event told
  pub execution : EachMomentOf (ExecutionAt wild start) past line event told
  pub taken : EachMomentOf (TakenAt wild) past line event told
  pub taken_each : EachTurnOf (TakesEach wild) past line event told
  pub answer : EachMomentOf (AnswerAt wild start) past line event told
  pub carried : EachMomentOf (CarriedAt wild start) past line event told
  pub run_where_due : EachTurnOf (RunsWhereDue nobody start) past line event told
  pub runs_end : EachTurnOf (EndsAsRead start) past line event told
  pub takes : EachTurnOf (TakesEach nobody) past line event told
  pub causes : EachTurnOf (HasCauses start) past line event told
  pub aborted : EachMomentOf (AbortedAt start) past line event told
  pub judged : EachTurnOf (Judges start) past line event told
  pub logins : EachTurnOf (HasLogins start) past line event told
  pub packets : EachMomentOf SentAt past line event told
  pub answers : EachTurnOf (AnswersLaw start) past line event told
  pub requests : EachTurnOf (RequestsLaw start) past line event told
  pub after : EachTurnOf (AfterTurn start) past line event told
  pub media : EachTurnOf (HasPushes start) past line event told
  pub brings : Brings start past line event (reverse told)
  pub ordered : EachTurnOf Ordered past line event told
  pub statuses : EachTurnOf (StatusesAreSent start) past line event told
  pub decisions : EachTurnOf (DecisionsAreSent start) past line event told
  pub asked : EachMomentOf (NoneUnasked start) past line event told

-- Lawful of a run with one more entry is lawful of the run, and what the entry adds.
abbrev pub AddsLawfully : Type 0
AddsLawfully =
    (wild : ℕ → Bool) (run : Run) (line : ℕ) (event : Event) (told : List Note) → LawfulBut wild (with_entry run line event told) ↔ (LawfulBut wild run × Adds wild run.start (history run.entries) line event told)
