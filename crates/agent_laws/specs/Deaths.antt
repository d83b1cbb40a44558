-- When an ORB ends as failed and an agent becomes dead (NCITS 325-1998, command block agents), read off what calls tell.
use Rattle.std.specs.Prelude.{◌≡◌, ℕ, is_none, if◌then◌else◌, Bool, true, false, List, [], ◌∷◌, Option, Some, None, Result, Ok, Err}
use Rattle.orb_layout.specs.declared.ask.FailCause.{FailCause}
use Rattle.orb_layout.specs.declared.ask.FailCause.TheVariants as causes
use Rattle.orb_layout.specs.declared.status.StatusKind.{StatusKind}
use Rattle.orb_layout.specs.declared.status.StatusKind.TheVariants as kinds
use Rattle.orb_layout.specs.Replies.{Answer, payload_of, write_failure}
use Rattle.command_agent.specs.declared.step.Which.TheVariants.{Main}
use Rattle.agent_laws.specs.Calls.{Call, notes, Note, Pointed, Cut, Came, Turn, Reads, Writes, Promoted, Ended, Died}
use Rattle.agent_laws.specs.Transactions.{main_in}
use Rattle.agent_laws.specs.Wire.{is_dead}

-- how many bytes the main transaction last asked for is to bring, where it is a read
abbrev pub asked_in : List Note → Option ℕ
asked_in [] = None
asked_in (Reads Main offset size ∷ ns) = Some size
asked_in (Promoted ∷ ns) = Some 32
asked_in (Writes offset size bytes ∷ ns) = None
asked_in (Ended at kind offset size bytes ∷ ns) = None
asked_in (_ ∷ ns) = asked_in ns

abbrev pub cause_of : Result (List ℕ) FailCause → Option FailCause
cause_of (Ok bytes) = None
cause_of (Err cause) = Some cause

abbrev pub failure_by : Option ℕ → Answer → Option FailCause
failure_by None answer = write_failure answer
failure_by (Some size) answer = cause_of (payload_of answer size)

-- why the main transaction that was last answered failed, in the present list; what comes of none counts for nothing
abbrev pub failure_in : List Note → Option FailCause
failure_in [] = None
failure_in (Came Main answer ∷ ns) = if main_in ns then failure_by (asked_in ns) answer else failure_in ns
failure_in (Pointed at ∷ ns) = None
failure_in (Cut ∷ ns) = None
failure_in (_ ∷ ns) = failure_in ns

abbrev pub is_illegal : StatusKind → Bool
is_illegal (kinds.Illegal meaning) = true
is_illegal _ = false

-- the last ORB ended as illegal
abbrev pub illegal_in : List Note → Bool
illegal_in [] = false
illegal_in (Ended at kind offset size bytes ∷ ns) = is_illegal kind
illegal_in (Pointed at ∷ ns) = false
illegal_in (Turn at ∷ ns) = false
illegal_in (Cut ∷ ns) = false
illegal_in (_ ∷ ns) = illegal_in ns

-- why an agent is to be dead: its main transaction failed, or its last ORB is illegal
abbrev pub due_by : Option FailCause → Bool → Option FailCause
due_by (Some cause) illegal = Some cause
due_by None true = Some causes.Grammar
due_by None false = None

abbrev pub due_in : List Note → Option FailCause
due_in ns = due_by (failure_in ns) (illegal_in ns)

-- An ORB ends as failed exactly where its transaction failed.
abbrev pub EndsFailed : StatusKind → Option FailCause → Type 0
EndsFailed kinds.Failed failure = is_none failure ≡ false
EndsFailed _ failure = failure ≡ None

abbrev pub Mortal : List Note → Type 0
Mortal [] = Unit {0}
Mortal (Ended at kind offset size bytes ∷ ns) = EndsFailed kind (failure_in ns) × Mortal ns
Mortal (Died cause ∷ ns) = (due_in ns ≡ Some cause) × Mortal ns
Mortal (_ ∷ ns) = Mortal ns

-- Over every list of calls an agent becomes dead only where it is to be, and for that cause.
abbrev pub CallsDieDuly : Type 0
CallsDieDuly = (calls : List Call) → Mortal (notes calls)

-- And then it does.
abbrev pub DeathLaw : Type 0
DeathLaw = (calls : List Call) → is_dead (notes calls) ≡ false → due_in (notes calls) ≡ None
