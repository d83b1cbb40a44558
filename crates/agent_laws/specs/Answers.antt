-- An answer is written whole, chunk by chunk, before the status (NCITS 325-1998, data buffers and page tables), read off what calls tell.
use Rattle.std.specs.Prelude.{◌≡◌, ℕ, ◌==◌, if◌then◌else◌, Bool, true, false, List, [], ◌∷◌, ◌++◌, length, take, drop, Option, Some, None}
use Rattle.orb_layout.specs.declared.status.StatusKind.{StatusKind}
use Rattle.orb_layout.specs.declared.status.StatusKind.TheVariants as kinds
use Rattle.page_table.specs.Buffer.{chunk}
use Rattle.rbc_disk.specs.declared.command.Outcome.{Outcome}
use Rattle.rbc_disk.specs.declared.command.Outcome.TheVariants as outcomes
use Rattle.agent_laws.specs.Calls.{Call, notes, Note, Pointed, Turn, Ran, Writes, Ended}
use Rattle.agent_laws.specs.Buffers.{piece_in}

-- the outcome of the present or last ORB's run
abbrev pub outcome_in : List Note → Option Outcome
outcome_in [] = None
outcome_in (Ran at orb buffer place plain payload outcome answer ∷ ns) = Some outcome
outcome_in (Pointed at ∷ ns) = None
outcome_in (Turn at ∷ ns) = None
outcome_in (_ ∷ ns) = outcome_in ns

-- the answer that it told
abbrev pub answer_in : List Note → List ℕ
answer_in [] = []
answer_in (Ran at orb buffer place plain payload outcome answer ∷ ns) = answer
answer_in (Pointed at ∷ ns) = []
answer_in (Turn at ∷ ns) = []
answer_in (_ ∷ ns) = answer_in ns

-- the chunks that were written since, joined
abbrev pub written_in : List Note → List ℕ
written_in [] = []
written_in (Writes offset size bytes ∷ ns) = written_in ns ++ bytes
written_in (Ran at orb buffer place plain payload outcome answer ∷ ns) = []
written_in (Pointed at ∷ ns) = []
written_in (Turn at ∷ ns) = []
written_in (_ ∷ ns) = written_in ns

abbrev pub is_good : Option Outcome → Bool
is_good (Some (outcomes.Good len)) = true
is_good _ = false

-- what is to be written by an outcome: the answer, where it tells of one
abbrev pub to_write : Option Outcome → List ℕ → List ℕ
to_write (Some (outcomes.Good len)) answer = if len == 0 then [] else answer
to_write _ answer = []

-- A write of an answer comes behind a good run: the next bytes of the answer, as many as the chunk of the buffer behind those written has, at its address.
pub record IsNextChunk (ns : List Note) (offset size : ℕ) (bytes : List ℕ) : Type 0 where
  pub good : is_good (outcome_in ns) ≡ true
  pub place : piece_in ns (length (written_in ns)) (length (answer_in ns)) ≡ Some (chunk offset size)
  pub same : bytes ≡ take size (drop (length (written_in ns)) (answer_in ns))

-- As an ORB ends, unless as failed, what was to be written is written whole.
abbrev pub EndsWhole : StatusKind → List ℕ → Option Outcome → List ℕ → Type 0
EndsWhole kinds.Failed written outcome answer = Unit {0}
EndsWhole _ written outcome answer = written ≡ to_write outcome answer

abbrev pub Answered : List Note → Type 0
Answered [] = Unit {0}
Answered (Writes offset size bytes ∷ ns) = IsNextChunk ns offset size bytes × Answered ns
Answered (Ended at kind offset size bytes ∷ ns) = EndsWhole kind (written_in ns) (outcome_in ns) (answer_in ns) × Answered ns
Answered (_ ∷ ns) = Answered ns

-- Over every list of calls.
abbrev pub CallsAnswer : Type 0
CallsAnswer = (calls : List Call) → Answered (notes calls)
