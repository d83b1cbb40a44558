-- A command that needs data needs at least a byte, no more than its buffer has, and has a buffer whose data go to the target (RBC).
use Rattle.sbp_world.proofs.Words.Std.{arith, ◌≡◌, refl, ◌<◌, ◌≤◌, ◌==◌, ◌&&◌, ◌||◌, not, nat_lt, is_none, ℕ, Bool, true, false, Option, Some, None, List, Result, Ok, Err, nat_tests}
use Rattle.sbp_world.proofs.Words.Target.{need_of, PlainDisk}
use Rattle.rbc_command.specs.Commands.{operation_in}
use Rattle.rbc_command.specs.SenseData.{sense, no_command, bad_field}
use Rattle.rbc_command.specs.declared.sense.Sense.{Sense}
use Rattle.rbc_disk.specs.Checks.{check_if, check_of, field_check, first_of, mark_check, request_check, told_marks, tray_check}
use Rattle.rbc_disk.specs.Requests.{answer_length, data_length, is_eject, is_inquiry, is_outside, is_unfit, is_write, needs_medium, request_of}
use Rattle.rbc_disk.specs.Runs.{data_length_by, data_length_of, need_at}
use Rattle.rbc_disk.specs.Units.{has_place}
use Rattle.rbc_disk.specs.declared.command.BufferPlan.{BufferPlan}
use Rattle.rbc_disk.specs.declared.command.Need.TheVariants as needs
use Rattle.rbc_disk.specs.declared.request.Request.{Request}

-- ---- checks of which none holds
others_too : (b : Bool) (check : Sense) (others : Option Sense) → check_if b check others ≡ None → others ≡ None
others_too true check others e = cc e
others_too false check others e = e

behind_first : (first others : Option Sense) → first_of first others ≡ None → others ≡ None
behind_first (Some check) others e = cc e
behind_first None others e = e

unset : (b : Bool) (check : Sense) → check_if b check None ≡ None → b ≡ false
unset true check e = cc e
unset false check e = refl

last_unset : (a b c d e f : Bool) (tray : Option Sense) (s t u v w x : Sense) → check_if a s (first_of tray (check_if b t (check_if c u (check_if d v (check_if e w (check_if f x None)))))) ≡ None → f ≡ false
last_unset a b c d e f tray s t u v w x h =
    unset f x
    (others_too e w _ (others_too d v _ (others_too c u _ (others_too b t _ (behind_first tray _ (others_too a s _ h))))))

-- ---- what a command needs
pub record IsNeeded (buffer : BufferPlan) (wanted : ℕ) : Type 0 where
  pub some : 0 < wanted
  pub within : wanted ≤ buffer.bytes
  pub out : buffer.to_initiator ≡ false

fit_data : (n m bytes : ℕ) (inward : Bool) → ((not (n == 0) && (nat_lt bytes n || inward)) || (not (m == 0) && (nat_lt bytes m || not inward))) ≡ false → 0 < n → (n ≤ bytes) × (inward ≡ false)
fit_data n m bytes true h some = grind (arith, nat_tests)
fit_data n m bytes false h some = (grind (arith, nat_tests), refl)

needed : (buffer : BufferPlan) (n wanted : ℕ) → n ≡ wanted → 0 < wanted → (n ≤ buffer.bytes) × (buffer.to_initiator ≡ false) → IsNeeded buffer wanted
needed buffer n wanted e some fits = let within = fits.0 in record { some = some; within = omega (arith, e, within); out = fits.1 }

request_needs : (request : Request) (buffer : BufferPlan) (plain : PlainDisk) (wanted : ℕ) → request_check request buffer plain ≡ None → data_length request ≡ wanted → 0 < wanted → IsNeeded buffer wanted
request_needs request buffer plain wanted e same some =
    let unfit : is_unfit request buffer ≡ false =
    last_unset (is_eject request && plain.unit.is_prevented) (needs_medium request && not plain.medium.is_present) (needs_medium request && not plain.unit.is_started) (is_outside request plain.medium.blocks) (is_write request && plain.medium.is_protected) (is_unfit request buffer) (tray_check request plain.medium)
    (sense 5 0x53 2) (sense 2 0x3a 0) (sense 2 4 2) (sense 5 0x21 0) (sense 7 0x27 0) bad_field e in
    needed buffer (data_length request) wanted same some (fit_data (data_length request) (answer_length request) buffer.bytes buffer.to_initiator unfit (omega (arith, same, some)))

field_needs : (request : Result Request Sense) (buffer : BufferPlan) (plain : PlainDisk) (wanted : ℕ) → field_check request buffer plain ≡ None → data_length_by request ≡ wanted → 0 < wanted → IsNeeded buffer wanted
field_needs (Err refused) buffer plain wanted e same some = cc e
field_needs (Ok request) buffer plain wanted e same some = request_needs request buffer plain wanted e same some

-- where it needs data, no check holds, and it has as many
record Needing (check : Option Sense) (len wanted : ℕ) : Type 0 where
  passed : check ≡ None
  same : len ≡ wanted
  some : 0 < wanted

needing : (check : Option Sense) (len wanted : ℕ) → need_at check len ≡ needs.Payload wanted → Needing check len wanted
needing (Some check) len wanted e = cc e
needing None len wanted e = record { passed = refl; same = grind (arith, nat_tests); some = grind (arith, nat_tests) }

pub need_fits : (cdb : List ℕ) (buffer : BufferPlan) (plain : PlainDisk) (place wanted : ℕ) → need_of cdb buffer plain place ≡ needs.Payload wanted → IsNeeded buffer wanted
unfolding check_of
need_fits cdb buffer plain place wanted e =
    let n : Needing (check_of cdb buffer plain place) (data_length_of plain.medium.is_bay cdb) wanted = needing (check_of cdb buffer plain place) (data_length_of plain.medium.is_bay cdb) wanted e in
    let marks = told_marks (is_inquiry (operation_in cdb)) (mark_check (has_place plain.unit.reset place) (has_place plain.unit.changed place)) in
    let fields = field_check (request_of plain.medium.is_bay cdb) buffer plain in
    field_needs (request_of plain.medium.is_bay cdb) buffer plain wanted
    (behind_first marks fields (others_too (is_none (operation_in cdb)) no_command (first_of marks fields) n.passed))
    n.same n.some
