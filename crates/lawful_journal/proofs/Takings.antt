-- The statuses that a turn has taken: where what stands before them is the same, they have the same answers.
use Rattle.std.proofs.Common.{◌≡◌, ◌∙◌, ℕ, Bool, true, false, List, [], ◌∷◌, map, Option, Some, None, IsSomeAnd, refl, sym, ap, ap₂, subst}
use Rattle.orb_layout.specs.declared.status.StatusKind.{StatusKind}
use Rattle.orb_layout.specs.declared.status.StatusKind.TheVariants as kinds
use Rattle.rbc_disk.specs.Disk.{Disk}
use Rattle.sbp_journal.specs.Run.{Moment, said}
use Rattle.sbp_journal.specs.declared.note.Note.{Note}
use Rattle.sbp_journal.specs.declared.note.Note.TheVariants as notes
use Rattle.sbp_laws.specs.CarriedBytes.{joined, pieces_of, writes_since}
use Rattle.sbp_laws.specs.CarriedLaw.{CarriedAt}
use Rattle.sbp_laws.specs.Deliveries.{is_taken_note}
use Rattle.sbp_laws.specs.Lawful.{FormAt, nobody}
use Rattle.sbp_laws.specs.Lists.{orb, command_at, slot_at}
use Rattle.sbp_laws.specs.NoteKinds.{of_kind}
use Rattle.sbp_laws.specs.StatusLaw.{Taking, of_others, takings_in}
use Rattle.sbp_laws.specs.Turns.{EachMoment}
use Rattle.lawful_journal.specs.Telling.{Telling, TakenAsTold}
use Rattle.lawful_journal.proofs.Histories.{put, moments_before}

-- what the laws say of a moment, as far as it counts here
pub record HoldsAt (wild : ℕ → Bool) (telling : Telling) (disks : List Disk) (moment : Moment) (past : List Moment) : Type 0 where
  pub form : FormAt moment past
  pub carried : CarriedAt wild disks moment past
  pub told : TakenAsTold wild telling moment past

same_found : {A : Type 0} (value : Option A) (bytes : A → List ℕ) (answer other : List ℕ) → IsSomeAnd value (λ a. answer ≡ bytes a) → IsSomeAnd value (λ a. other ≡ bytes a) → answer ≡ other
same_found None bytes answer other one more = elim one [ ]
same_found (Some a) bytes answer other one more = one ∙ sym more

-- a status that is taken, with its answer
record Answered : Type 0 where
  taking : Taking
  answer : List ℕ

abbrev taken : Taking → List ℕ → Note
taken taking answer = notes.Taken taking.initiator taking.one.list taking.one.number taking.status answer

abbrev note_of : Answered → Note
note_of one = taken one.taking one.answer

abbrev taking_of : Answered → Taking
taking_of one = one.taking

abbrev answered_in : List Note → List Answered
answered_in [] = []
answered_in (notes.Taken i n k status answer ∷ rest) = record { taking = record { initiator = i; one = orb n k; status = status }; answer = answer } ∷ answered_in rest
answered_in (note ∷ rest) = answered_in rest

notes_are : (rest : List Note) → of_kind is_taken_note rest ≡ map note_of (answered_in rest)
notes_are [] = refl
notes_are (notes.Taken i n k status answer ∷ rest) = ap (λ l. notes.Taken i n k status answer ∷ l) (notes_are rest)
notes_are (note ∷ rest) = notes_are rest

takings_are : (rest : List Note) → takings_in rest ≡ map taking_of (answered_in rest)
takings_are [] = refl
takings_are (notes.Taken i n k status answer ∷ rest) = ap (λ l. record { initiator = i; one = orb n k; status = status } ∷ l) (takings_are rest)
takings_are (note ∷ rest) = takings_are rest

pub all_others : (takings : List Taking) → of_others nobody takings ≡ takings
all_others [] = refl
all_others (taking ∷ takings) = ap (λ l. taking ∷ l) (all_others takings)

abbrev first_of : Taking → List Taking → Taking
first_of other [] = other
first_of other (taking ∷ takings) = taking

abbrev rest_of : List Taking → List Taking
rest_of [] = []
rest_of (taking ∷ takings) = takings

module _ (wild : ℕ → Bool) (telling : Telling) (disks : List Disk) where
  same_good : (past : List Moment) (i n k : ℕ) (answer other : List ℕ) → (w : Bool) → wild i ≡ w
      → HoldsAt wild telling disks (said (notes.Taken i n k kinds.Good answer)) past → HoldsAt wild telling disks (said (notes.Taken i n k kinds.Good other)) past → answer ≡ other
  same_good past i n k answer other true is h more = h.told is ∙ sym (more.told is)
  same_good past i n k answer other false is h more =
      same_found (command_at past i n k) (λ cmd. joined (pieces_of (slot_at past i n k) cmd) (writes_since past i n k)) answer other (h.carried is) (more.carried is)

  same_answer : (past : List Moment) (i n k : ℕ) (status : StatusKind) (answer other : List ℕ)
      → HoldsAt wild telling disks (said (notes.Taken i n k status answer)) past → HoldsAt wild telling disks (said (notes.Taken i n k status other)) past → answer ≡ other
  same_answer past i n k kinds.Good answer other h more = same_good past i n k answer other (wild i) refl h more
  same_answer past i n k status answer other h more = h.form.0.0 ∙ sym more.form.0.0

  abbrev At : Moment → List Moment → Type 0
  At = HoldsAt wild telling disks

  same_answers : (past : List Moment) (ones others : List Answered) → map taking_of ones ≡ map taking_of others
      → EachMoment At (put past (map note_of ones)) → EachMoment At (put past (map note_of others)) → map note_of ones ≡ map note_of others
  same_answers past [] [] e each more = refl
  same_answers past [] (other ∷ others) e each more = absurd (let no : [] ≡ taking_of other ∷ map taking_of others = e in cc)
  same_answers past (one ∷ ones) [] e each more = absurd (let no : taking_of one ∷ map taking_of ones ≡ [] = e in cc)
  same_answers past (one ∷ ones) (other ∷ others) e each more =
      ap₂ (λ n l. n ∷ l) same (same_answers (said (note_of one) ∷ past) ones others (ap rest_of e) each (subst (λ n. EachMoment At (put (said n ∷ past) (map note_of others))) (sym same) more))
    where
      taking : one.taking ≡ other.taking
      taking = ap (first_of one.taking) e

      here : At (said (note_of one)) past
      here = (moments_before At (map note_of ones) (said (note_of one) ∷ past) each).0

      there : At (said (taken one.taking other.answer)) past
      there = subst (λ t. At (said (taken t other.answer)) past) (sym taking) (moments_before At (map note_of others) (said (note_of other) ∷ past) more).0

      same : note_of one ≡ note_of other
      same = ap₂ taken taking (same_answer past one.taking.initiator one.taking.one.list one.taking.one.number one.taking.status one.answer other.answer here there)

  pub same_takings : (past : List Moment) (rest other : List Note) → takings_in rest ≡ takings_in other
      → EachMoment At (put past (of_kind is_taken_note rest)) → EachMoment At (put past (of_kind is_taken_note other)) → of_kind is_taken_note rest ≡ of_kind is_taken_note other
  same_takings past rest other e each more =
      notes_are rest
      ∙ same_answers past (answered_in rest) (answered_in other) (sym (takings_are rest) ∙ e ∙ takings_are other)
      (subst (λ l. EachMoment At (put past l)) (notes_are rest) each) (subst (λ l. EachMoment At (put past l)) (notes_are other) more)
      ∙ sym (notes_are other)
