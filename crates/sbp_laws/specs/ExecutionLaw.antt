-- The execution law (RBC; NCITS 325-1998, ordered execution). An ORB runs at most once, before its end and after the end of the ORB before
-- it. It runs with the command of its append, on the unit of its initiator's live login, and with no data, or, for a WRITE of one block or
-- more, with the append's whole data. On the disk fold as it stands, with the place of that login: where a check holds, that is the
-- outcome. Where none does, a WRITE of one block or more has its data, and the outcome is good, or the check of a medium call that failed,
-- 3/11/00 of a READ or VERIFY and 3/0C/00 of a WRITE, of one block or more. An ORB ends good or with a check behind its run with that
-- outcome alone, and as dummy, aborted or illegal without a run.
use Rattle.std.specs.Prelude.{◌≡◌, ℕ, suc, ◌<◌, ◌⊎◌, Bool, false, List, [], take, Option, Some, None, IsSomeAnd, IsSome}
use Rattle.orb_layout.specs.declared.status.StatusKind.{StatusKind}
use Rattle.orb_layout.specs.declared.status.StatusKind.TheVariants as kinds
use Rattle.rbc_command.specs.declared.sense.Sense.{Sense}
use Rattle.rbc_disk.specs.Disk.{Disk}
use Rattle.rbc_disk.specs.Units.{PlainDisk}
use Rattle.rbc_disk.specs.Checks.{check_of}
use Rattle.rbc_disk.specs.Runs.{need_of, data_length_of, failure_of, MayEnd}
use Rattle.rbc_disk.specs.declared.command.Need.TheVariants.{Payload}
use Rattle.login_table.specs.Table.{find, is_of_node}
use Rattle.sbp_journal.specs.Run.{Moment, said}
use Rattle.sbp_journal.specs.Wire.{terms}
use Rattle.sbp_journal.specs.declared.note.Note.TheVariants.{Ran, Ended}
use Rattle.sbp_laws.specs.Terms.{Request, runs, ends, request_at, ran_status, plan_of, data_of}
use Rattle.sbp_laws.specs.Turns.{EachMoment}
use Rattle.sbp_laws.specs.Packets.{id_for}
use Rattle.sbp_laws.specs.Targets.{target_at, plain_of, place_on}

-- as many bytes of its buffer as a WRITE asks for
abbrev pub asked_data : Request → ℕ → List ℕ
asked_data request len = take len (data_of request.buffer)

-- no data, or those of a WRITE of one block or more
abbrev pub MayCarry : Request → Bool → List ℕ → Type 0
MayCarry request is_bay bytes = (bytes ≡ []) ⊎ ((0 < data_length_of is_bay request.cdb) × (bytes ≡ asked_data request (data_length_of is_bay request.cdb)))

-- the request of the login at a place runs with these bytes on this plain disk, and ends so
pub record RunsOn (request : Request) (plain : PlainDisk) (place : ℕ) (cdb bytes : List ℕ) (check : Option Sense) : Type 0 where
  pub command : cdb ≡ request.cdb
  pub carried : MayCarry request plain.medium.is_bay bytes
  pub needed : (len : ℕ) → need_of cdb (plan_of request.buffer) plain place ≡ Payload len → bytes ≡ asked_data request len
  pub ended : MayEnd (check_of cdb (plan_of request.buffer) plain place) (failure_of plain.medium.is_bay cdb) check

-- the place of the live login of an initiator on a unit
abbrev pub login_place : List Disk → List Moment → (i unit : ℕ) → Option ℕ
login_place start past i unit = find (is_of_node unit (id_for (terms past) 0 (suc i))) (target_at start past).table.places

-- the ORB runs for the first time, after the end of the one before it and before its own, on the unit of the login
pub record IsNextRun (start : List Disk) (past : List Moment) (i n k unit : ℕ) : Type 0 where
  pub once : runs past i n k ≡ 0
  pub order : k ≡ ends past i n
  pub login : IsSome (login_place start past i unit)

-- an ORB may end with a status by how its command ran, if it did
abbrev pub MayEndWith : StatusKind → Option StatusKind → Type 0
MayEndWith kinds.Good ran = ran ≡ Some kinds.Good
MayEndWith (kinds.Check sense) ran = ran ≡ Some (kinds.Check sense)
MayEndWith kinds.Failed ran = Unit {0}
MayEndWith status ran = ran ≡ None

-- An ORB without a list and a number is that of an initiator that injected packets; the order law says so.
abbrev pub ExecutionAt : (ℕ → Bool) → List Disk → Moment → List Moment → Type 0
ExecutionAt wild start (said (Ran i (Some n) (Some k) unit cdb bytes check)) past =
    wild i ≡ false → IsNextRun start past i n k unit × IsSomeAnd (request_at past i n k) (λ request. RunsOn request (plain_of start past unit) (place_on (target_at start past) unit (id_for (terms past) 0 (suc i))) cdb bytes check)
ExecutionAt wild start (said (Ended i (Some n) (Some k) status)) past = wild i ≡ false → MayEndWith status (ran_status past i n k)
ExecutionAt wild start moment past = Unit {0}

abbrev pub ExecutionLaw : (ℕ → Bool) → List Disk → List Moment → Type 0
ExecutionLaw wild start past = EachMoment (ExecutionAt wild start) past
