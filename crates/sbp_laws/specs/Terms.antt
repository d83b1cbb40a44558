-- What is read off the history of a run, the latest moment first. An ORB is named by its initiator, its list and its number in that
-- list; each term is a function of such names, and a note changes it at the name that the note has.
use Rattle.std.specs.Prelude.{ℕ, suc, ◌==◌, true, false, if◌then◌else◌, List, [], ◌∷◌, length, Option, Some, None}
use Rattle.sbp_base.specs.Update.{upd, upd2, upd3}
use Rattle.rbc_command.specs.declared.sense.Sense.{Sense}
use Rattle.rbc_disk.specs.declared.command.BufferPlan.{BufferPlan}
use Rattle.sbp_journal.specs.Run.{Moment, said}
use Rattle.sbp_journal.specs.declared.note.Note.TheVariants.{Append, Ran, Ended, Taken}
use Rattle.sbp_journal.specs.declared.note.NoteBuffer.{NoteBuffer}
use Rattle.sbp_journal.specs.declared.note.NoteBuffer.TheVariants.{Nothing, In, Out}
use Rattle.orb_layout.specs.declared.status.StatusKind.{StatusKind}
use Rattle.orb_layout.specs.declared.status.StatusKind.TheVariants.{Good, Check}

-- what an ORB asks for
pub record Request : Type 0 where
  pub cdb : List ℕ
  pub buffer : NoteBuffer

-- the direction and the length of a buffer, and the data in it
abbrev pub plan_of : NoteBuffer → BufferPlan
plan_of Nothing = record { to_initiator = false; bytes = 0 }
plan_of (In len) = record { to_initiator = true; bytes = len }
plan_of (Out bytes) = record { to_initiator = false; bytes = length bytes }

abbrev pub data_of : NoteBuffer → List ℕ
data_of Nothing = []
data_of (In len) = []
data_of (Out bytes) = bytes

-- the status of a command that ended with a check, or with none
abbrev pub status_of : Option Sense → StatusKind
status_of None = Good
status_of (Some sense) = Check sense

-- how many lists an initiator began: each begins with its ORB 0
abbrev pub lists : List Moment → ℕ → ℕ
lists [] = λ i. 0
lists (said (Append i n k cdb buffer) ∷ past) = upd (lists past) i (if k == 0 then suc (lists past i) else lists past i)
lists (_ ∷ past) = lists past

-- how many ORBs of a list were appended, and how many ended
abbrev pub appends : List Moment → ℕ → ℕ → ℕ
appends [] = λ i n. 0
appends (said (Append i n k cdb buffer) ∷ past) = upd2 (appends past) i n (suc (appends past i n))
appends (_ ∷ past) = appends past

abbrev pub ends : List Moment → ℕ → ℕ → ℕ
ends [] = λ i n. 0
ends (said (Ended i (Some n) (Some k) status) ∷ past) = upd2 (ends past) i n (suc (ends past i n))
ends (_ ∷ past) = ends past

-- how often an ORB's command ran, and how often its status was taken
abbrev pub runs : List Moment → ℕ → ℕ → ℕ → ℕ
runs [] = λ i n k. 0
runs (said (Ran i (Some n) (Some k) unit cdb bytes check) ∷ past) = upd3 (runs past) i n k (suc (runs past i n k))
runs (_ ∷ past) = runs past

abbrev pub takes : List Moment → ℕ → ℕ → ℕ → ℕ
takes [] = λ i n k. 0
takes (said (Taken i n k status answer) ∷ past) = upd3 (takes past) i n k (suc (takes past i n k))
takes (_ ∷ past) = takes past

-- what an ORB asks for, by its append
abbrev pub request_at : List Moment → ℕ → ℕ → ℕ → Option Request
request_at [] = λ i n k. None
request_at (said (Append i n k cdb buffer) ∷ past) = upd3 (request_at past) i n k (Some (record { cdb = cdb; buffer = buffer }))
request_at (_ ∷ past) = request_at past

-- the status with which an ORB's command ran, and that with which the ORB ended
abbrev pub ran_status : List Moment → ℕ → ℕ → ℕ → Option StatusKind
ran_status [] = λ i n k. None
ran_status (said (Ran i (Some n) (Some k) unit cdb bytes check) ∷ past) = upd3 (ran_status past) i n k (Some (status_of check))
ran_status (_ ∷ past) = ran_status past

abbrev pub ended_status : List Moment → ℕ → ℕ → ℕ → Option StatusKind
ended_status [] = λ i n k. None
ended_status (said (Ended i (Some n) (Some k) status) ∷ past) = upd3 (ended_status past) i n k (Some status)
ended_status (_ ∷ past) = ended_status past
