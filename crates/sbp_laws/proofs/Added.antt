-- A run with one more entry is lawful exactly where the run was and the entry adds lawfully.
use Rattle.std.proofs.Common.{ℕ, Bool, List, [], ◌∷◌}
use Rattle.sbp_journal.specs.Run.{Run, Moment, history, with_entry}
use Rattle.sbp_journal.specs.declared.event.Event.{Event}
use Rattle.sbp_journal.specs.declared.note.Note.{Note}
use Rattle.sbp_journal.specs.declared.note.Note.TheVariants as notes
use Rattle.sbp_laws.specs.Turns.{Turn, EachMoment, EachMomentOf, EachTurn, EachTurnBefore, EachTurnIn, behind}
use Rattle.sbp_laws.specs.Adds.{Adds, AddsLawfully}
use Rattle.sbp_laws.specs.OnceLaw.{OnceAt}
use Rattle.sbp_laws.specs.OrderLaw.{OrderAt}
use Rattle.sbp_laws.specs.ExecutionLaw.{ExecutionAt}
use Rattle.sbp_laws.specs.StatusLaw.{TakenAt, TakesEach}
use Rattle.sbp_laws.specs.AnswerLaw.{AnswerAt}
use Rattle.sbp_laws.specs.CarriedLaw.{CarriedAt, EndsAsRead, RunsWhereDue}
use Rattle.sbp_laws.specs.CauseLaw.{HasCauses, AbortedAt}
use Rattle.sbp_laws.specs.JudgementLaw.{Judges}
use Rattle.sbp_laws.specs.LoginLaw.{HasLogins}
use Rattle.sbp_laws.specs.SentPackets.{SentAt}
use Rattle.sbp_laws.specs.SentAnswers.{AnswersLaw}
use Rattle.sbp_laws.specs.SentRequests.{RequestsLaw}
use Rattle.sbp_laws.specs.SentWrites.{DecisionsAreSent, StatusesAreSent}
use Rattle.sbp_laws.specs.Unasked.{NoneUnasked}
use Rattle.sbp_laws.specs.SentLaw.{AfterTurn}
use Rattle.sbp_laws.specs.MediaLaw.{HasPushes}
use Rattle.sbp_laws.specs.ActionLaw.{Ordered}
use Rattle.sbp_laws.specs.Lawful.{LawfulBut, FormAt, nobody}

-- ---- conditions on moments
module _ (At : Moment → List Moment → Type 0) (past : List Moment) (line : ℕ) (event : Event) where
  split : (told : List Note) → EachMoment At (behind past line event told) → EachMomentOf At past line event told × EachMoment At past
  split [] each = each
  split (note ∷ told) each = let rest = split told each.1 in ((each.0, rest.0), rest.1)

  join : (told : List Note) → EachMomentOf At past line event told → EachMoment At past → EachMoment At (behind past line event told)
  join [] new each = (new, each)
  join (note ∷ told) new each = (new.0, join told new.1 each)

-- ---- conditions on turns
module _ (Law : Turn → Type 0) (past : List Moment) (line : ℕ) (event : Event) where
  split_turns : (told rest : List Note) → EachTurnBefore Law (behind past line event told) rest → EachTurnIn Law past line event told rest × EachTurn Law past
  split_turns [] rest each = each
  split_turns (notes.Got serial ∷ told) rest each = let more = split_turns told [] each.1 in ((each.0, more.0), more.1)
  split_turns (notes.Ignored serial cause ∷ told) rest each = let more = split_turns told [] each.1 in ((each.0, more.0), more.1)
  split_turns (notes.TimedOut serial ∷ told) rest each = let more = split_turns told [] each.1 in ((each.0, more.0), more.1)
  split_turns (notes.Seen node generation ∷ told) rest each = let more = split_turns told [] each.1 in ((each.0, more.0), more.1)
  split_turns (notes.Tick ∷ told) rest each = let more = split_turns told [] each.1 in ((each.0, more.0), more.1)
  split_turns (notes.Settled ∷ told) rest each = let more = split_turns told [] each.1 in ((each.0, more.0), more.1)
  split_turns (notes.Stopped ∷ told) rest each = let more = split_turns told [] each.1 in ((each.0, more.0), more.1)
  split_turns (note ∷ told) rest each = split_turns told (note ∷ rest) each

  join_turns : (told rest : List Note) → EachTurnIn Law past line event told rest → EachTurn Law past → EachTurnBefore Law (behind past line event told) rest
  join_turns [] rest new each = (new, each)
  join_turns (notes.Got serial ∷ told) rest new each = (new.0, join_turns told [] new.1 each)
  join_turns (notes.Ignored serial cause ∷ told) rest new each = (new.0, join_turns told [] new.1 each)
  join_turns (notes.TimedOut serial ∷ told) rest new each = (new.0, join_turns told [] new.1 each)
  join_turns (notes.Seen node generation ∷ told) rest new each = (new.0, join_turns told [] new.1 each)
  join_turns (notes.Tick ∷ told) rest new each = (new.0, join_turns told [] new.1 each)
  join_turns (notes.Settled ∷ told) rest new each = (new.0, join_turns told [] new.1 each)
  join_turns (notes.Stopped ∷ told) rest new each = (new.0, join_turns told [] new.1 each)
  join_turns (note ∷ told) rest new each = join_turns told (note ∷ rest) new each

-- ---- all laws
module _ (wild : ℕ → Bool) (run : Run) (line : ℕ) (event : Event) (told : List Note) where
  before_entry : LawfulBut wild (with_entry run line event told) → LawfulBut wild run
  before_entry law = record {
    moments = record {
      form = (split FormAt (history run.entries) line event told law.moments.form).1;
      once = (split (OnceAt wild) (history run.entries) line event told law.moments.once).1;
      order = (split (OrderAt wild) (history run.entries) line event told law.moments.order).1;
      execution = (split (ExecutionAt wild run.start) (history run.entries) line event told law.moments.execution).1;
      status = record { taken = (split (TakenAt wild) (history run.entries) line event told law.moments.status.taken).1; each = (split_turns (TakesEach wild) (history run.entries) line event told [] law.moments.status.each).1 };
      answer = (split (AnswerAt wild run.start) (history run.entries) line event told law.moments.answer).1;
      carried = record { carried = (split (CarriedAt wild run.start) (history run.entries) line event told law.moments.carried.carried).1; due = (split_turns (RunsWhereDue nobody run.start) (history run.entries) line event told [] law.moments.carried.due).1 };
      runs_end = (split_turns (EndsAsRead run.start) (history run.entries) line event told [] law.moments.runs_end).1;
      takes = (split_turns (TakesEach nobody) (history run.entries) line event told [] law.moments.takes).1;
      cause = record { causes = (split_turns (HasCauses run.start) (history run.entries) line event told [] law.moments.cause.causes).1; aborted = (split (AbortedAt run.start) (history run.entries) line event told law.moments.cause.aborted).1 };
      judgement = (split_turns (Judges run.start) (history run.entries) line event told [] law.moments.judgement).1;
      login = (split_turns (HasLogins run.start) (history run.entries) line event told [] law.moments.login).1;
      sent = record { packets = (split SentAt (history run.entries) line event told law.moments.sent.packets).1; answers = (split_turns (AnswersLaw run.start) (history run.entries) line event told [] law.moments.sent.answers).1; requests = (split_turns (RequestsLaw run.start) (history run.entries) line event told [] law.moments.sent.requests).1; after = (split_turns (AfterTurn run.start) (history run.entries) line event told [] law.moments.sent.after).1; statuses = (split_turns (StatusesAreSent run.start) (history run.entries) line event told [] law.moments.sent.statuses).1; decisions = (split_turns (DecisionsAreSent run.start) (history run.entries) line event told [] law.moments.sent.decisions).1; asked = (split (NoneUnasked run.start) (history run.entries) line event told law.moments.sent.asked).1 };
      media = (split_turns (HasPushes run.start) (history run.entries) line event told [] law.moments.media).1;
    };
    action = record { brings = law.action.brings.1; ordered = (split_turns Ordered (history run.entries) line event told [] law.action.ordered).1 };
  }

  on_entry : LawfulBut wild (with_entry run line event told) → Adds wild run.start (history run.entries) line event told
  on_entry law = record {
    form = (split FormAt (history run.entries) line event told law.moments.form).0;
    once = (split (OnceAt wild) (history run.entries) line event told law.moments.once).0;
    order = (split (OrderAt wild) (history run.entries) line event told law.moments.order).0;
    execution = (split (ExecutionAt wild run.start) (history run.entries) line event told law.moments.execution).0;
    taken = (split (TakenAt wild) (history run.entries) line event told law.moments.status.taken).0;
    taken_each = (split_turns (TakesEach wild) (history run.entries) line event told [] law.moments.status.each).0;
    answer = (split (AnswerAt wild run.start) (history run.entries) line event told law.moments.answer).0;
    carried = (split (CarriedAt wild run.start) (history run.entries) line event told law.moments.carried.carried).0;
    run_where_due = (split_turns (RunsWhereDue nobody run.start) (history run.entries) line event told [] law.moments.carried.due).0;
    runs_end = (split_turns (EndsAsRead run.start) (history run.entries) line event told [] law.moments.runs_end).0;
    takes = (split_turns (TakesEach nobody) (history run.entries) line event told [] law.moments.takes).0;
    causes = (split_turns (HasCauses run.start) (history run.entries) line event told [] law.moments.cause.causes).0;
    aborted = (split (AbortedAt run.start) (history run.entries) line event told law.moments.cause.aborted).0;
    judged = (split_turns (Judges run.start) (history run.entries) line event told [] law.moments.judgement).0;
    logins = (split_turns (HasLogins run.start) (history run.entries) line event told [] law.moments.login).0;
    packets = (split SentAt (history run.entries) line event told law.moments.sent.packets).0;
    answers = (split_turns (AnswersLaw run.start) (history run.entries) line event told [] law.moments.sent.answers).0;
    requests = (split_turns (RequestsLaw run.start) (history run.entries) line event told [] law.moments.sent.requests).0;
    after = (split_turns (AfterTurn run.start) (history run.entries) line event told [] law.moments.sent.after).0;
    media = (split_turns (HasPushes run.start) (history run.entries) line event told [] law.moments.media).0;
    brings = law.action.brings.0;
    ordered = (split_turns Ordered (history run.entries) line event told [] law.action.ordered).0;
    statuses = (split_turns (StatusesAreSent run.start) (history run.entries) line event told [] law.moments.sent.statuses).0;
    decisions = (split_turns (DecisionsAreSent run.start) (history run.entries) line event told [] law.moments.sent.decisions).0;
    asked = (split (NoneUnasked run.start) (history run.entries) line event told law.moments.sent.asked).0;
  }

  with_one : LawfulBut wild run → Adds wild run.start (history run.entries) line event told → LawfulBut wild (with_entry run line event told)
  with_one before new = record {
    moments = record {
      form = join FormAt (history run.entries) line event told new.form before.moments.form;
      once = join (OnceAt wild) (history run.entries) line event told new.once before.moments.once;
      order = join (OrderAt wild) (history run.entries) line event told new.order before.moments.order;
      execution = join (ExecutionAt wild run.start) (history run.entries) line event told new.execution before.moments.execution;
      status = record { taken = join (TakenAt wild) (history run.entries) line event told new.taken before.moments.status.taken; each = join_turns (TakesEach wild) (history run.entries) line event told [] new.taken_each before.moments.status.each };
      answer = join (AnswerAt wild run.start) (history run.entries) line event told new.answer before.moments.answer;
      carried = record { carried = join (CarriedAt wild run.start) (history run.entries) line event told new.carried before.moments.carried.carried; due = join_turns (RunsWhereDue nobody run.start) (history run.entries) line event told [] new.run_where_due before.moments.carried.due };
      runs_end = join_turns (EndsAsRead run.start) (history run.entries) line event told [] new.runs_end before.moments.runs_end;
      takes = join_turns (TakesEach nobody) (history run.entries) line event told [] new.takes before.moments.takes;
      cause = record { causes = join_turns (HasCauses run.start) (history run.entries) line event told [] new.causes before.moments.cause.causes; aborted = join (AbortedAt run.start) (history run.entries) line event told new.aborted before.moments.cause.aborted };
      judgement = join_turns (Judges run.start) (history run.entries) line event told [] new.judged before.moments.judgement;
      login = join_turns (HasLogins run.start) (history run.entries) line event told [] new.logins before.moments.login;
      sent = record { packets = join SentAt (history run.entries) line event told new.packets before.moments.sent.packets; answers = join_turns (AnswersLaw run.start) (history run.entries) line event told [] new.answers before.moments.sent.answers; requests = join_turns (RequestsLaw run.start) (history run.entries) line event told [] new.requests before.moments.sent.requests; after = join_turns (AfterTurn run.start) (history run.entries) line event told [] new.after before.moments.sent.after; statuses = join_turns (StatusesAreSent run.start) (history run.entries) line event told [] new.statuses before.moments.sent.statuses; decisions = join_turns (DecisionsAreSent run.start) (history run.entries) line event told [] new.decisions before.moments.sent.decisions; asked = join (NoneUnasked run.start) (history run.entries) line event told new.asked before.moments.sent.asked };
      media = join_turns (HasPushes run.start) (history run.entries) line event told [] new.media before.moments.media;
    };
    action = record { brings = (new.brings, before.action.brings); ordered = join_turns Ordered (history run.entries) line event told [] new.ordered before.action.ordered };
  }

pub adds_lawfully : AddsLawfully
adds_lawfully wild run line event told =
    (λ law. (before_entry wild run line event told law, on_entry wild run line event told law), λ both. with_one wild run line event told both.0 both.1)
