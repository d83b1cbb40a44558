-- A command that runs with no check, and whose buffer does not go to the initiator, has no answer.
use Rattle.sbp_world.proofs.Words.Std.{arith, ◌≡◌, ◌∙◌, refl, sym, ap, subst, ◌&&◌, ◌||◌, ◌==◌, not, ℕ, nat_lt, Bool, true, false, Option, Some, None, Result, Ok, Err, List, [], IfSome, ◌*◌, is_none, option_map, nat_tests, same_Some}
use Rattle.sbp_world.proofs.Words.Target.{Sense, operation_in, bad_field, is_protected, no_command, no_medium, not_started, outside, removal_prevented, check_if, check_of, field_check, first_of, mark_check, request_check, told_marks, tray_check, BufferPlan, Request, answer_length, data_length, is_eject, is_inquiry, is_outside, is_unfit, is_write, needs_medium, request_of, Disk, blocks_at, MayEnd, answer_by, answer_length_by, answer_length_of, answer_of, inquiry_bytes, PlainDisk, has_place}
use Rattle.std.specs.Prelude.{min, take}
use Rattle.rbc_command.specs.declared.command.Command.TheVariants as commands
use Rattle.rbc_disk.specs.declared.request.Request.TheVariants as requests
use Rattle.rbc_disk.specs.Runs.{answer_in}

no_check : {A : Type 0} (check : Sense) → Some check ≡ None → A
no_check check e = absurd (differ e)
  where
    differ : Some check ≡ None → ⊥
    differ e = cc

if_none : (b : Bool) (check : Sense) (others : Option Sense) → check_if b check others ≡ None → (b ≡ false) × (others ≡ None)
if_none true check others e = no_check check e
if_none false check others e = (refl, e)

first_none : (first others : Option Sense) → first_of first others ≡ None → others ≡ None
first_none None others e = e
first_none (Some check) others e = no_check check e

-- a buffer that goes the other way fits no answer
no_answer : (n m bytes : ℕ) → ((not (n == 0) && (nat_lt bytes n || false)) || (not (m == 0) && (nat_lt bytes m || not false))) ≡ false → m ≡ 0
no_answer n m bytes e = by (m == 0) refl (not (n == 0) && (nat_lt bytes n || false)) (nat_lt bytes m) e
  where
    by : (z : Bool) → (m == 0) ≡ z → (x y : Bool) → (x || (not z && (y || not false))) ≡ false → m ≡ 0
    by true f x y g = grind (arith, nat_tests)
    by false f true y g = absurd (let no : true ≡ false = g in cc)
    by false f false true g = absurd (let no : true ≡ false = g in cc)
    by false f false false g = absurd (let no : true ≡ false = g in cc)

unfit_answer : (request : Request) (buffer : BufferPlan) → buffer.to_initiator ≡ false → is_unfit request buffer ≡ false → answer_length request ≡ 0
unfit_answer request buffer outward e =
    no_answer (data_length request) (answer_length request) buffer.bytes
    (subst (λ b. ((not (data_length request == 0) && (nat_lt buffer.bytes (data_length request) || b)) || (not (answer_length request == 0) && (nat_lt buffer.bytes (answer_length request) || not b))) ≡ false) outward e)

request_length : (request : Request) (buffer : BufferPlan) (plain : PlainDisk) → buffer.to_initiator ≡ false → request_check request buffer plain ≡ None → answer_length request ≡ 0
request_length request buffer plain outward e =
    let x6 : Option Sense = check_if (is_unfit request buffer) bad_field None in
    let x5 : Option Sense = check_if (is_write request && plain.medium.is_protected) is_protected x6 in
    let x4 : Option Sense = check_if (is_outside request plain.medium.blocks) outside x5 in
    let x3 : Option Sense = check_if (needs_medium request && not plain.unit.is_started) not_started x4 in
    let x2 : Option Sense = check_if (needs_medium request && not plain.medium.is_present) no_medium x3 in
    let x1 : Option Sense = first_of (tray_check request plain.medium) x2 in
    let a1 = (if_none (is_eject request && plain.unit.is_prevented) removal_prevented x1 e).1 in
    let a2 = first_none (tray_check request plain.medium) x2 a1 in
    let a3 = (if_none (needs_medium request && not plain.medium.is_present) no_medium x3 a2).1 in
    let a4 = (if_none (needs_medium request && not plain.unit.is_started) not_started x4 a3).1 in
    let a5 = (if_none (is_outside request plain.medium.blocks) outside x5 a4).1 in
    let a6 = (if_none (is_write request && plain.medium.is_protected) is_protected x6 a5).1 in
    unfit_answer request buffer outward (if_none (is_unfit request buffer) bad_field None a6).0

field_length : (found : Result Request Sense) (buffer : BufferPlan) (plain : PlainDisk) → buffer.to_initiator ≡ false → field_check found buffer plain ≡ None → answer_length_by found ≡ 0
field_length (Err refused) buffer plain outward e = no_check refused e
field_length (Ok request) buffer plain outward e = request_length request buffer plain outward e

pub check_length : (cdb : List ℕ) (buffer : BufferPlan) (plain : PlainDisk) (place : ℕ) → buffer.to_initiator ≡ false → check_of cdb buffer plain place ≡ None → answer_length_of plain.medium.is_bay cdb ≡ 0
unfolding check_of
check_length cdb buffer plain place outward e =
    let found : Option Sense = field_check (request_of plain.medium.is_bay cdb) buffer plain in
    let marks : Option Sense = told_marks (is_inquiry (operation_in cdb)) (mark_check (has_place plain.unit.reset place) (has_place plain.unit.changed place)) in
    field_length (request_of plain.medium.is_bay cdb) buffer plain outward (first_none marks found (if_none (is_none (operation_in cdb)) no_command (first_of marks found) e).1)

pub ended_none : (check failure : Option Sense) → MayEnd check failure None → check ≡ None
ended_none None failure e = refl
ended_none (Some check) failure e = no_check check (sym e)

-- ---- an answer that has no length has no bytes, where the medium tells them

no_bytes : (allocation : ℕ) → min allocation 36 ≡ 0 → allocation ≡ 0
no_bytes allocation e = omega (arith, e)

no_blocks : (count : ℕ) → 512 * count ≡ 0 → count ≡ 0
no_blocks count e = omega (arith, e)

none_read : (lba : ℕ) (held : Option (List ℕ)) (bytes : List ℕ) → option_map (blocks_at lba 0) held ≡ Some bytes → bytes ≡ []
none_read lba (Some xs) bytes e = sym (same_Some [] bytes e)
none_read lba None bytes e = absurd (let differ : None ≡ Some bytes = e in cc)

request_told : (request : Request) (medium : Disk) (bytes : List ℕ) → answer_length request ≡ 0 → answer_in request medium ≡ Some bytes → bytes ≡ []
request_told (requests.Plain (commands.Inquiry allocation)) medium bytes z e =
    sym (same_Some [] bytes (ap (λ n. Some (take n inquiry_bytes)) (sym (no_bytes allocation z)) ∙ e))
request_told (requests.Plain commands.Capacity) medium bytes z e = absurd (omega (arith, z))
request_told (requests.Plain (commands.Read lba count)) medium bytes z e =
    none_read lba medium.bytes bytes (ap (λ n. option_map (blocks_at lba n) medium.bytes) (sym (no_blocks count z)) ∙ e)
request_told _ medium bytes z e = sym (same_Some [] bytes e)

told_by : (found : Result Request Sense) (medium : Disk) (bytes : List ℕ) → answer_length_by found ≡ 0 → answer_by found medium ≡ Some bytes → bytes ≡ []
told_by (Err refused) medium bytes z e = sym (same_Some [] bytes e)
told_by (Ok request) medium bytes z e = request_told request medium bytes z e

told_in : (found : Option (List ℕ)) → ((bytes : List ℕ) → found ≡ Some bytes → bytes ≡ []) → IfSome found (λ bytes. [] ≡ bytes)
told_in None f = tt
told_in (Some bytes) f = sym (f bytes refl)

pub told_none : (cdb : List ℕ) (medium : Disk) → answer_length_of medium.is_bay cdb ≡ 0 → IfSome (answer_of cdb medium) (λ bytes. [] ≡ bytes)
told_none cdb medium z = told_in (answer_of cdb medium) (λ bytes e. told_by (request_of medium.is_bay cdb) medium bytes z e)
