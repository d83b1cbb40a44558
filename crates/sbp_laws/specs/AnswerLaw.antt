-- The answer law (RBC). A good status that is taken carries the answer of the plain disk as it was before the ORB ran: its length always,
-- and its bytes where the medium tells them. An empty answer has no bytes.
use Rattle.std.specs.Prelude.{◌≡◌, ℕ, Bool, false, List, [], ◌∷◌, length, Option, Some, None, IfSome, IsSomeAnd}
use Rattle.sbp_base.specs.Update.{upd3}
use Rattle.orb_layout.specs.declared.status.StatusKind.TheVariants.{Good}
use Rattle.rbc_disk.specs.Disk.{Disk}
use Rattle.rbc_disk.specs.Runs.{answer_of, answer_length_of}
use Rattle.sbp_journal.specs.Run.{Moment, said}
use Rattle.sbp_journal.specs.declared.note.Note.TheVariants.{Ran, Taken}
use Rattle.sbp_laws.specs.Terms.{Request, request_at}
use Rattle.sbp_laws.specs.Turns.{EachMoment}
use Rattle.sbp_laws.specs.Targets.{disk_of}

-- what the unit's medium held before the run of an ORB
abbrev pub before_run : List Disk → List Moment → ℕ → ℕ → ℕ → Option Disk
before_run start [] = λ i n k. None
before_run start (said (Ran i (Some n) (Some k) unit cdb bytes check) ∷ past) = upd3 (before_run start past) i n k (Some (disk_of start past unit))
before_run start (_ ∷ past) = before_run start past

-- the answer to a request by what this medium holds
pub record IsAnswerOf (request : Request) (disk : Disk) (answer : List ℕ) : Type 0 where
  pub len : length answer ≡ answer_length_of disk.is_bay request.cdb
  pub told : IfSome (answer_of request.cdb disk) (λ bytes. answer ≡ bytes)

abbrev pub Answers : List Disk → List Moment → (i n k : ℕ) → List ℕ → Type 0
Answers start past i n k answer =
    IsSomeAnd (request_at past i n k) (λ request. IsSomeAnd (before_run start past i n k) (λ disk. IsAnswerOf request disk answer))

abbrev pub AnswerAt : (ℕ → Bool) → List Disk → Moment → List Moment → Type 0
AnswerAt wild start (said (Taken i n k Good answer)) past = wild i ≡ false → Answers start past i n k answer
AnswerAt wild start moment past = Unit {0}

abbrev pub AnswerLaw : (ℕ → Bool) → List Disk → List Moment → Type 0
AnswerLaw wild start past = EachMoment (AnswerAt wild start) past
