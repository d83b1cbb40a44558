-- A lawful run is determined, entry by entry.
use Rattle.std.proofs.Common.{◌≡◌, ◌∙◌, ℕ, Bool, false, Some, List, [], ◌∷◌, ◌++◌, reverse, refl, sym, ap, ap₂, subst}
use Rattle.std.proofs.lemmas.List.{reverse-reverse}
use Rattle.orb_layout.specs.declared.status.StatusKind.TheVariants as kinds
use Rattle.rbc_disk.specs.Disk.{Disk}
use Rattle.sbp_journal.specs.Run.{Entry, Moment, Run, asked, said, events_in, history}
use Rattle.sbp_journal.specs.declared.event.Event.{Event}
use Rattle.sbp_journal.specs.declared.note.Note.TheVariants as notes
use Rattle.sbp_laws.specs.ActionLaw.{Brings, BringsEach, Ordered}
use Rattle.sbp_laws.specs.CarriedLaw.{CarriedAt, EndsAsRead, RunsWhereDue}
use Rattle.sbp_laws.specs.CauseLaw.{HasCauses}
use Rattle.sbp_laws.specs.JudgementLaw.{Judges}
use Rattle.sbp_laws.specs.Lawful.{FormAt, nobody}
use Rattle.sbp_laws.specs.LoginLaw.{HasLogins}
use Rattle.sbp_laws.specs.MediaLaw.{HasPushes}
use Rattle.sbp_laws.specs.SentAnswers.{AnswersLaw}
use Rattle.sbp_laws.specs.SentRequests.{RequestsLaw}
use Rattle.sbp_laws.specs.StatusLaw.{TakesEach}
use Rattle.sbp_laws.specs.Turns.{EachMoment, EachTurn, Turn}
use Rattle.lawful_journal.specs.Determined.{IsLawfulAsTold, RunsAreDetermined}
use Rattle.lawful_journal.specs.Telling.{TakenAsTold, Telling, TurnAsTold}
use Rattle.lawful_journal.proofs.Histories.{moments_before, put_reverse, turns_before, with_moments}
use Rattle.lawful_journal.proofs.Lines.{same_line}
use Rattle.lawful_journal.proofs.Settling.{Stands}
use Rattle.lawful_journal.proofs.Takings.{HoldsAt}
use Rattle.lawful_journal.proofs.Turned.{Holds}
use Rattle.sbp_laws.proofs.EachTurns.{with_turns}

-- ---- the numbered events
abbrev Numbered : Type 0
Numbered = ℕ × Event

abbrev head_of : Numbered → List Numbered → Numbered
head_of other [] = other
head_of other (event ∷ events) = event

abbrev tail_of : List Numbered → List Numbered
tail_of [] = []
tail_of (event ∷ events) = events

not_none : (events : List Numbered) (last : Numbered) → [] ≡ events ++ last ∷ [] → ⊥
not_none [] last e = let no : [] ≡ last ∷ [] = e in cc
not_none (event ∷ events) last e = let no : [] ≡ event ∷ (events ++ last ∷ []) = e in cc

same_last : (events others : List Numbered) (last other : Numbered) → events ++ last ∷ [] ≡ others ++ other ∷ [] → (events ≡ others) × (last ≡ other)
same_last [] [] last other e = (refl, ap (head_of last) e)
same_last [] (another ∷ others) last other e = absurd (not_none others other (ap tail_of e))
same_last (event ∷ events) [] last other e = absurd (not_none events last (sym (ap tail_of e)))
same_last (event ∷ events) (another ∷ others) last other e =
    let rest = same_last events others last other (ap tail_of e) in (ap₂ (λ x l. x ∷ l) (ap (head_of event) e) rest.0, rest.1)

-- ---- what is known of a run, as far as it counts here
module _ (wild : ℕ → Bool) (telling : Telling) (disks : List Disk) where
  record Parts (entries : List Entry) : Type 0 where
    turns : EachTurn (Holds telling disks) (history entries)
    moments : EachMoment (HoldsAt wild telling disks) (history entries)
    brings : BringsEach disks entries

  stands_in : (entry : Entry) (before : List Entry) → Parts (entry ∷ before) → Stands wild telling disks (asked entry.line entry.event ∷ history before) (reverse entry.notes)
  stands_in entry before parts = (
    subst (EachTurn (Holds telling disks)) (sym (put_reverse (asked entry.line entry.event ∷ history before) entry.notes)) parts.turns,
    subst (EachMoment (HoldsAt wild telling disks)) (sym (put_reverse (asked entry.line entry.event ∷ history before) entry.notes)) parts.moments,
  )

  parts_before : (entry : Entry) (before : List Entry) → Parts (entry ∷ before) → Parts before
  parts_before entry before parts =
      let stands = stands_in entry before parts in
      record {
        turns = (turns_before (Holds telling disks) (reverse entry.notes) (asked entry.line entry.event ∷ history before) stands.0).1;
        moments = (moments_before (HoldsAt wild telling disks) (reverse entry.notes) (asked entry.line entry.event ∷ history before) stands.1).1;
        brings = parts.brings.1;
      }

  same_entry : (entry other : Entry) → entry.line ≡ other.line → entry.event ≡ other.event → reverse entry.notes ≡ reverse other.notes → entry ≡ other
  same_entry entry other line event told =
      ap (λ l. record { line = l; event = entry.event; notes = entry.notes }) line
      ∙ ap (λ e. record { line = other.line; event = e; notes = entry.notes }) event
      ∙ ap (λ n. record { line = other.line; event = other.event; notes = n }) (sym (reverse-reverse entry.notes) ∙ ap reverse told ∙ reverse-reverse other.notes)

  same_entries : (entries others : List Entry) → events_in entries ≡ events_in others → Parts entries → Parts others → entries ≡ others
  same_entries [] [] events parts more = refl
  same_entries [] (other ∷ others) events parts more = absurd (not_none (events_in others) (other.line, other.event) events)
  same_entries (entry ∷ before) [] events parts more = absurd (not_none (events_in before) (entry.line, entry.event) (sym events))
  same_entries (entry ∷ before) (other ∷ others) events parts more =
      let apart = same_last (events_in before) (events_in others) (entry.line, entry.event) (other.line, other.event) events in
      go (same_entries before others apart.0 (parts_before entry before parts) (parts_before other others more)) (ap (λ p. p.0) apart.1) (ap (λ p. p.1) apart.1)
    where
      go : before ≡ others → entry.line ≡ other.line → entry.event ≡ other.event → entry ∷ before ≡ other ∷ others
      go same line event = ap₂ (λ x l. x ∷ l) (same_entry entry other line event told) same
        where
          there : Stands wild telling disks (asked entry.line entry.event ∷ history before) (reverse other.notes)
          there = subst (λ l. Stands wild telling disks (asked entry.line entry.event ∷ history l) (reverse other.notes)) (sym same)
              (subst (λ e. Stands wild telling disks (asked entry.line e ∷ history others) (reverse other.notes)) (sym event)
              (subst (λ n. Stands wild telling disks (asked n other.event ∷ history others) (reverse other.notes)) (sym line) (stands_in other others more)))

          brings : Brings disks (history before) entry.line entry.event (reverse other.notes)
          brings = subst (λ l. Brings disks (history l) entry.line entry.event (reverse other.notes)) (sym same)
              (subst (λ e. Brings disks (history others) entry.line e (reverse other.notes)) (sym event)
              (subst (λ n. Brings disks (history others) n other.event (reverse other.notes)) (sym line) more.brings.0))

          told : reverse entry.notes ≡ reverse other.notes
          told = same_line wild telling disks (history before) entry.line entry.event (reverse entry.notes) (reverse other.notes) parts.brings.0 brings (stands_in entry before parts) there

-- ---- the carried law of fewer initiators
fewer : (disks : List Disk) (others wild : ℕ → Bool) → ((i : ℕ) → wild i ≡ false → others i ≡ false) → (moment : Moment) (past : List Moment) → CarriedAt others disks moment past → CarriedAt wild disks moment past
fewer disks others wild within (said (notes.Ran i (Some n) (Some k) unit cdb bytes check)) past carried = λ own. carried (within i own)
fewer disks others wild within (said (notes.Ended i (Some n) (Some k) kinds.Failed)) past carried = tt
fewer disks others wild within (said (notes.Ended i (Some n) (Some k) status)) past carried = λ own. carried (within i own)
fewer disks others wild within (said (notes.Taken i n k kinds.Good answer)) past carried = λ own. carried (within i own)
fewer disks others wild within moment past carried = carried

-- ---- the laws as one
abbrev Two : (Turn → Type 0) → (Turn → Type 0) → Turn → Type 0
Two A B t = A t × B t

both : (A B : Turn → Type 0) (past : List Moment) → EachTurn A past → EachTurn B past → EachTurn (Two A B) past
both A B past a b = with_turns A B (Two A B) (λ t x y. (x, y)) past [] a b

abbrev Pair : (Moment → List Moment → Type 0) → (Moment → List Moment → Type 0) → Moment → List Moment → Type 0
Pair A B moment past = A moment past × B moment past

module _ (wild : ℕ → Bool) (telling : Telling) (run : Run) (law : IsLawfulAsTold wild telling run) where
  abbrev past : List Moment
  past = history run.entries

  abbrev Runs : Turn → Type 0
  Runs = Two (RunsWhereDue nobody run.start) (EndsAsRead run.start)

  abbrev Effects : Turn → Type 0
  Effects = Two (Two (TakesEach nobody) (HasCauses run.start)) (Two (Judges run.start) (HasLogins run.start))

  abbrev Sends : Turn → Type 0
  Sends = Two (AnswersLaw run.start) (RequestsLaw run.start)

  abbrev Rest : Turn → Type 0
  Rest = Two (Two (HasPushes run.start) Ordered) (TurnAsTold telling run.start)

  runs : EachTurn Runs past
  runs = both (RunsWhereDue nobody run.start) (EndsAsRead run.start) past law.lawful.moments.carried.due law.lawful.moments.runs_end

  effects : EachTurn Effects past
  effects =
      both (Two (TakesEach nobody) (HasCauses run.start)) (Two (Judges run.start) (HasLogins run.start)) past
      (both (TakesEach nobody) (HasCauses run.start) past law.lawful.moments.takes law.lawful.moments.cause.causes)
      (both (Judges run.start) (HasLogins run.start) past law.lawful.moments.judgement law.lawful.moments.login)

  sends : EachTurn Sends past
  sends = both (AnswersLaw run.start) (RequestsLaw run.start) past law.lawful.moments.sent.answers law.lawful.moments.sent.requests

  rest : EachTurn Rest past
  rest = both (Two (HasPushes run.start) Ordered) (TurnAsTold telling run.start) past (both (HasPushes run.start) Ordered past law.lawful.moments.media law.lawful.action.ordered) law.told.turns

  holds : EachTurn (Holds telling run.start) past
  holds = with_turns (Two Runs Effects) (Two Sends Rest) (Holds telling run.start) make past [] (both Runs Effects past runs effects) (both Sends Rest past sends rest)
    where
      make : (t : Turn) → Two Runs Effects t → Two Sends Rest t → Holds telling run.start t
      make t x y = record {
        runs = x.0.0;
        runs_end = x.0.1;
        takes = x.1.0.0;
        causes = x.1.0.1;
        judges = x.1.1.0;
        logins = x.1.1.1;
        answers = y.0.0;
        requests = y.0.1;
        media = y.1.0.0;
        ordered = y.1.0.1;
        told = y.1.1;
      }

  moments : EachMoment (HoldsAt wild telling run.start) past
  moments =
      with_moments (Pair FormAt (CarriedAt law.others run.start)) (TakenAsTold wild telling) (HoldsAt wild telling run.start)
      (λ moment before x y. record { form = x.0; carried = fewer run.start law.others wild law.within moment before x.1; told = y }) past
      (with_moments FormAt (CarriedAt law.others run.start) (Pair FormAt (CarriedAt law.others run.start)) (λ moment before x y. (x, y)) past law.lawful.moments.form law.lawful.moments.carried.carried) law.told.taken

  parts : Parts wild telling run.start run.entries
  parts = record { turns = holds; moments = moments; brings = law.lawful.action.brings }

pub runs_are_determined : RunsAreDetermined
runs_are_determined wild telling run other start events law more =
    same_entries wild telling run.start run.entries other.entries events (parts wild telling run law) (subst (λ disks. Parts wild telling disks other.entries) (sym start) (parts wild telling other more))
