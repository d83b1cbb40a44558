-- The values of each check that a command may end with on the plain disk are in their ranges; and so are those of the status with which an ORB ended, by the execution law.
use Rattle.sbp_world.proofs.Words.Std.{arith, ◌≡◌, refl, sym, ap, subst, ◌<◌, ◌^◌, ◌==◌, nat_eq, nat_lt, ◌∙◌, ℕ, suc, Bool, true, false, cond, List, [], ◌∷◌, Option, Some, None, IsSomeAnd, Result, Ok, Err, not, ◌&&◌, nat_tests, same_Some, none-some}
use Rattle.sbp_world.proofs.Words.Wire.{Moment, said, terms}
use Rattle.sbp_world.proofs.Words.Target.{command_by, command_in, count_of_ten, count_of_twelve, flag, lba_of, moves_disc, operation_in, starts, unless_bad, bad_field, medium_changed, no_command, no_medium, not_started, outside, is_protected, read_failed, removal_prevented, was_reset, write_failed, Command, Sense, check_if, check_of, field_check, first_of, mark_check, request_check, told_marks, tray_check, is_eject, is_inquiry, is_outside, is_start_stop, is_unfit, is_write, needs_medium, plain_request, request_of, MayEnd, failure_by, failure_in, failure_of, PlainDisk, has_place, BufferPlan, Request, Disk}
use Rattle.sbp_world.proofs.Words.Initiator.{StatusKind}
use Rattle.sbp_world.proofs.Words.Laws.{ExecutionLaw, MayEndWith, RunsOn, id_for, place_on, plain_of, target_at, Asked, ended_status, ran_status, request_at, status_of}
use Rattle.std.proofs.Common.{is_none}
use Rattle.orb_layout.specs.declared.status.StatusKind.TheVariants as kinds
use Rattle.rbc_command.specs.declared.command.Command.TheVariants as commands
use Rattle.rbc_command.specs.declared.operation.Operation.{Operation}
use Rattle.rbc_command.specs.declared.operation.Operation.TheVariants as operations
use Rattle.rbc_disk.specs.declared.request.Request.TheVariants as requests
use Rattle.sbp_journal.specs.declared.note.Note.TheVariants as notes
use Rattle.sbp_world.specs.Lists.Statuses.{IsTold}

-- ---- checks
abbrev pub Row : Sense → Type 0
Row sense = (sense.key < 16) × (sense.code < 2 ^ 8) × (sense.qualifier < 2 ^ 8)

abbrev IfRow : Option Sense → Type 0
IfRow None = Unit {0}
IfRow (Some sense) = Row sense

abbrev ResultRow : {A : Type 0} → Result A Sense → Type 0
ResultRow (Ok x) = Unit {0}
ResultRow (Err sense) = Row sense

row : (key code qualifier : ℕ) → nat_lt key 16 ≡ true → nat_lt code 256 ≡ true → nat_lt qualifier 256 ≡ true → Row (record { key = key; code = code; qualifier = qualifier })
row key code qualifier e f g = (grind (arith, nat_tests), grind (arith, nat_tests), grind (arith, nat_tests))

if_row : (b : Bool) (check : Sense) (others : Option Sense) → Row check → IfRow others → IfRow (check_if b check others)
if_row true check others h k = h
if_row false check others h k = k

first_row : (x y : Option Sense) → IfRow x → IfRow y → IfRow (first_of x y)
first_row None y h k = k
first_row (Some check) y h k = h

told_row : (b : Bool) (x : Option Sense) → IfRow x → IfRow (told_marks b x)
told_row true x h = tt
told_row false x h = h

tray_row : (request : Request) (medium : Disk) → IfRow (tray_check request medium)
tray_row request medium = if_row _ no_medium None (row 2 0x3a 0 refl refl refl) tt

request_row : (request : Request) (buffer : BufferPlan) (plain : PlainDisk) → IfRow (request_check request buffer plain)
request_row request buffer plain =
    let unfit = is_unfit request buffer in
    let closed = is_write request && plain.medium.is_protected in
    let past_end = is_outside request plain.medium.blocks in
    let stopped = needs_medium request && not plain.unit.is_started in
    let empty = needs_medium request && not plain.medium.is_present in
    let pinned = is_eject request && plain.unit.is_prevented in
    let last = check_if unfit bad_field None in
    let fifth = check_if closed is_protected last in
    let fourth = check_if past_end outside fifth in
    let third = check_if stopped not_started fourth in
    let second = check_if empty no_medium third in
    if_row pinned removal_prevented (first_of (tray_check request plain.medium) second) (row 5 0x53 2 refl refl refl)
    (first_row (tray_check request plain.medium) second (tray_row request plain.medium)
    (if_row empty no_medium third (row 2 0x3a 0 refl refl refl)
    (if_row stopped not_started fourth (row 2 0x04 2 refl refl refl)
    (if_row past_end outside fifth (row 5 0x21 0 refl refl refl)
    (if_row closed is_protected last (row 7 0x27 0 refl refl refl)
    (if_row unfit bad_field None (row 5 0x24 0 refl refl refl) tt))))))

unless_row : (b : Bool) (command : Command) → ResultRow (unless_bad b command)
unless_row true command = row 5 0x24 0 refl refl refl
unless_row false command = tt

command_row : (operation : Operation) (cdb : List ℕ) → ResultRow (command_in operation cdb)
command_row operations.TestReady cdb = tt
command_row operations.Inquiry cdb = tt
command_row operations.StartStop cdb = unless_row (moves_disc cdb) (commands.StartStop (starts cdb))
command_row operations.Prevent cdb = tt
command_row operations.Capacity cdb = tt
command_row operations.Read10 cdb = unless_row (nat_lt 32 (count_of_ten cdb)) (commands.Read (lba_of cdb) (count_of_ten cdb))
command_row operations.Write10 cdb = unless_row (nat_lt 32 (count_of_ten cdb)) (commands.Write (lba_of cdb) (count_of_ten cdb))
command_row operations.Verify cdb = unless_row (flag cdb 1 1) (commands.Verify (lba_of cdb) (count_of_ten cdb))
command_row operations.Sync cdb = tt
command_row operations.Read12 cdb = unless_row (nat_lt 32 (count_of_twelve cdb)) (commands.Read (lba_of cdb) (count_of_twelve cdb))
command_row operations.Write12 cdb = unless_row (nat_lt 32 (count_of_twelve cdb)) (commands.Write (lba_of cdb) (count_of_twelve cdb))

by_row : (operation : Option Operation) (cdb : List ℕ) → ResultRow (command_by operation cdb)
by_row None cdb = row 5 0x20 0 refl refl refl
by_row (Some operation) cdb = command_row operation cdb

plain_row : (r : Result Command Sense) → ResultRow r → ResultRow (plain_request r)
plain_row (Ok command) h = tt
plain_row (Err sense) h = h

asked_row : (is_bay : Bool) (cdb : List ℕ) → ResultRow (request_of is_bay cdb)
unfolding request_of
asked_row is_bay cdb = by (is_bay && is_start_stop (operation_in cdb) && moves_disc cdb) (starts cdb)
  where
    by : (x y : Bool) → ResultRow (cond x (cond y (Ok requests.Load) (Ok requests.Eject)) (plain_request (command_by (operation_in cdb) cdb)))
    by true true = tt
    by true false = tt
    by false y = plain_row (command_by (operation_in cdb) cdb) (by_row (operation_in cdb) cdb)

field_row : (r : Result Request Sense) (buffer : BufferPlan) (plain : PlainDisk) → ResultRow r → IfRow (field_check r buffer plain)
field_row (Ok request) buffer plain h = request_row request buffer plain
field_row (Err refused) buffer plain h = h

check_row : (cdb : List ℕ) (buffer : BufferPlan) (plain : PlainDisk) (place : ℕ) → IfRow (check_of cdb buffer plain place)
unfolding check_of
check_row cdb buffer plain place =
    let unknown = is_none (operation_in cdb) in
    let reset = has_place plain.unit.reset place in
    let changed = has_place plain.unit.changed place in
    let marks = told_marks (is_inquiry (operation_in cdb)) (mark_check reset changed) in
    let fields = field_check (request_of plain.medium.is_bay cdb) buffer plain in
    if_row unknown no_command (first_of marks fields) (row 5 0x20 0 refl refl refl)
    (first_row marks fields
    (told_row (is_inquiry (operation_in cdb)) (mark_check reset changed) (if_row reset was_reset (check_if changed medium_changed None) (row 6 0x29 0 refl refl refl) (if_row changed medium_changed None (row 6 0x28 0 refl refl refl) tt)))
    (field_row (request_of plain.medium.is_bay cdb) buffer plain (asked_row plain.medium.is_bay cdb)))

pick_row : (b : Bool) (x y : Option Sense) → IfRow x → IfRow y → IfRow (cond b x y)
pick_row true x y h k = h
pick_row false x y h k = k

failed_row : (request : Request) → IfRow (failure_in request)
failed_row (requests.Plain (commands.Read lba count)) = pick_row (count == 0) None (Some read_failed) tt (row 3 0x11 0 refl refl refl)
failed_row (requests.Plain (commands.Verify lba count)) = pick_row (count == 0) None (Some read_failed) tt (row 3 0x11 0 refl refl refl)
failed_row (requests.Plain (commands.Write lba count)) = pick_row (count == 0) None (Some write_failed) tt (row 3 0x0c 0 refl refl refl)
failed_row (requests.Plain commands.TestReady) = tt
failed_row (requests.Plain (commands.Inquiry allocation)) = tt
failed_row (requests.Plain (commands.StartStop start)) = tt
failed_row (requests.Plain (commands.Prevent prevents)) = tt
failed_row (requests.Plain commands.Capacity) = tt
failed_row (requests.Plain commands.Sync) = tt
failed_row requests.Load = tt
failed_row requests.Eject = tt

failure_row : (r : Result Request Sense) → IfRow (failure_by r)
failure_row (Ok request) = failed_row request
failure_row (Err refused) = tt

none_sense : (sense : Sense) → None ≡ Some sense → ⊥
none_sense sense e = cc

same_sense : (x y : Sense) → Some x ≡ Some y → x ≡ y
same_sense x y e = cc

end_row : (check failure : Option Sense) → IfRow check → IfRow failure → (sense : Sense) → MayEnd check failure (Some sense) → Row sense
end_row (Some check) failure h k sense e = subst Row (sym (same_sense sense check e)) h
end_row None (Some failure) h k sense e = subst Row (same_sense failure sense e) k
end_row None None h k sense e = absurd (none_sense sense e)

-- a check that a command may end with
pub may_row : (cdb : List ℕ) (buffer : BufferPlan) (plain : PlainDisk) (place : ℕ) (sense : Sense) → MayEnd (check_of cdb buffer plain place) (failure_of plain.medium.is_bay cdb) (Some sense) → Row sense
may_row cdb buffer plain place sense may =
    end_row (check_of cdb buffer plain place) (failure_of plain.medium.is_bay cdb) (check_row cdb buffer plain place) (failure_row (request_of plain.medium.is_bay cdb)) sense may

runs_row : (request : Asked) (plain : PlainDisk) (place : ℕ) (cdb bytes : List ℕ) (sense : Sense) → RunsOn request plain place cdb bytes (Some sense) → Row sense
runs_row request plain place cdb bytes sense r =
    end_row (check_of cdb _ plain place) (failure_of plain.medium.is_bay cdb) (check_row cdb _ plain place) (failure_row (request_of plain.medium.is_bay cdb)) sense r.ended

found_row : (found : Option Asked) (plain : PlainDisk) (place : ℕ) (cdb bytes : List ℕ) (sense : Sense) → IsSomeAnd found (λ request. RunsOn request plain place cdb bytes (Some sense)) → Row sense
found_row None plain place cdb bytes sense r = absurd r
found_row (Some request) plain place cdb bytes sense r = runs_row request plain place cdb bytes sense r

-- ---- by a history

good_check : (sense : Sense) → kinds.Good ≡ kinds.Check sense → ⊥
good_check sense e = cc

same_check : (x y : Sense) → kinds.Check x ≡ kinds.Check y → x ≡ y
same_check x y e = cc

check_of_run : (found : Option Asked) (plain : PlainDisk) (place : ℕ) (cdb bytes : List ℕ) (check : Option Sense) (sense : Sense) → Some (status_of check) ≡ Some (kinds.Check sense) → IsSomeAnd found (λ request. RunsOn request plain place cdb bytes check) → Row sense
check_of_run found plain place cdb bytes None sense e r = absurd (good_check sense (same_Some kinds.Good (kinds.Check sense) e))
check_of_run found plain place cdb bytes (Some other) sense e r =
    subst Row (same_check other sense (same_Some (kinds.Check other) (kinds.Check sense) e)) (found_row found plain place cdb bytes other r)

module _ (wild : ℕ → Bool) (start : List Disk) (i : ℕ) (own : wild i ≡ false) where
  -- a command that ran and ended with a check
  ran_row : (past : List Moment) → ExecutionLaw wild start past → (n k : ℕ) (sense : Sense) → ran_status past i n k ≡ Some (kinds.Check sense) → Row sense
  ran_row [] law n k sense e = absurd (none-some (kinds.Check sense) e)
  ran_row (said (notes.Ran j (Some m) (Some l) unit cdb bytes check) ∷ past) law n k sense e = by (nat_eq i j) (nat_eq n m) (nat_eq k l) refl (λ f. ran_row past law.1 n k sense f) e
    where
      here : nat_eq i j ≡ true → Some (status_of check) ≡ Some (kinds.Check sense) → Row sense
      here same f =
          let j_is : i ≡ j = grind (arith, nat_tests) in
          check_of_run (request_at past j m l) (plain_of start past unit) (place_on (target_at start past) unit (id_for (terms past) 0 (suc j))) cdb bytes check sense f (law.0 (ap wild (sym j_is) ∙ own)).1

      by : (x y z : Bool) → nat_eq i j ≡ x → (ran_status past i n k ≡ Some (kinds.Check sense) → Row sense) → cond x (cond y (cond z (Some (status_of check)) (ran_status past i n k)) (ran_status past i n k)) (ran_status past i n k) ≡ Some (kinds.Check sense) → Row sense
      by true true true same rest f = here same f
      by true true false same rest f = rest f
      by true false z same rest f = rest f
      by false y z same rest f = rest f
  ran_row (said (notes.Ran j (Some m) None unit cdb bytes check) ∷ past) law n k sense e = ran_row past law.1 n k sense e
  ran_row (said (notes.Ran j None l unit cdb bytes check) ∷ past) law n k sense e = ran_row past law.1 n k sense e
  ran_row (_ ∷ past) law n k sense e = ran_row past law.1 n k sense e

  may_told : (past : List Moment) → ExecutionLaw wild start past → (n k : ℕ) (status : StatusKind) → MayEndWith status (ran_status past i n k) → IsTold status
  may_told past law n k kinds.Good m = tt
  may_told past law n k (kinds.Check sense) m = ran_row past law n k sense m
  may_told past law n k kinds.Dummy m = tt
  may_told past law n k kinds.Aborted m = tt
  may_told past law n k (kinds.Illegal meaning) m = tt
  may_told past law n k kinds.Failed m = tt
  may_told past law n k (kinds.Management meaning) m = tt

  -- and an ORB that ended
  pub ended_told : (past : List Moment) → ExecutionLaw wild start past → (n k : ℕ) (status : StatusKind) → ended_status past i n k ≡ Some status → IsTold status
  ended_told [] law n k status e = absurd (none-some status e)
  ended_told (said (notes.Ended j (Some m) (Some l) last) ∷ past) law n k status e =
      by (nat_eq i j) (nat_eq n m) (nat_eq k l) refl (λ f. ended_told past law.1 n k status f) e
    where
      here : (nat_eq i j ≡ true) → last ≡ status → IsTold status
      here same is =
          let j_is : i ≡ j = grind (arith, nat_tests) in
          subst IsTold is (may_told past law.1 m l last (subst (λ a. MayEndWith last (ran_status past a m l)) (sym j_is) (law.0 (ap wild (sym j_is) ∙ own))))

      by : (x y z : Bool) → nat_eq i j ≡ x → (ended_status past i n k ≡ Some status → IsTold status) → cond x (cond y (cond z (Some last) (ended_status past i n k)) (ended_status past i n k)) (ended_status past i n k) ≡ Some status → IsTold status
      by true true true same rest f = here same (same_Some last status f)
      by true true false same rest f = rest f
      by true false z same rest f = rest f
      by false y z same rest f = rest f
  ended_told (said (notes.Ended j (Some m) None last) ∷ past) law n k status e = ended_told past law.1 n k status e
  ended_told (said (notes.Ended j None l last) ∷ past) law n k status e = ended_told past law.1 n k status e
  ended_told (_ ∷ past) law n k status e = ended_told past law.1 n k status e
