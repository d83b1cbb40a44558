-- Unit attention over a list of calls.
use Rattle.std.proofs.Common.{◌≡◌, ◌≢◌, ℕ, ◌-◌, ◌<◌, ◌^◌, min, max, Bool, true, false, List, [], ◌∷◌, refl, sym, ap, subst, ◌∙◌, arith}
use Rattle.std.specs.Prelude.{◌==◌, ◌&&◌, ◌||◌, not, if◌then◌else◌, Option, Some, None, is_none, Result, Ok, Err}
use Rattle.std.specs.Int.{bit_at, bit_not, w8}
use Rattle.std.proofs.lemmas.Nat.Bits.{bit_at_or, bit_at_and, bit_at_not, bit_at-zero, bit_at-lt, bit_at-pow_same, bit_at-pow_other}
use Rattle.std.proofs.Math.Pow.{pow-lt}
use Rattle.std.proofs.Math.Bool.{and-false, and-true}
use Rattle.rbc_command.specs.Commands.{operation_in, command_of, command_in, command_by, unless_bad, moves_disc, starts}
use Rattle.rbc_command.specs.SenseData.{sense, no_command, bad_field}
use Rattle.rbc_command.specs.declared.sense.Sense.{Sense}
use Rattle.rbc_command.specs.declared.command.Command.{Command}
use Rattle.rbc_command.specs.declared.command.Command.{Command}
use Rattle.rbc_command.specs.declared.command.Command.TheVariants as commands
use Rattle.rbc_command.specs.declared.operation.Operation.{Operation}
use Rattle.rbc_command.specs.declared.operation.Operation.TheVariants as operations
use Rattle.rbc_disk.specs.Units.{UnitState, PlainDisk, plain_disk, has_place, with_places, without_place}
use Rattle.rbc_disk.specs.Requests.{request_of, plain_request, is_inquiry, is_start_stop, is_load, is_eject, needs_medium, is_outside, is_write, is_unfit}
use Rattle.rbc_disk.specs.Checks.{check_if, is_empty, check_of, first_of, mark_check, told_marks, request_check, field_check}
use Rattle.rbc_disk.specs.Runs.{MayEnd, failure_by, failure_of, is_attention, has_attention, unit_ended}
use Rattle.rbc_disk.specs.Calls.Call.{Ran, Cleared, Changed}
use Rattle.rbc_disk.specs.Calls.{after_calls, tells, owes_change, minds_marks, MarkLaw, AttentionLaw}
use Rattle.rbc_disk.proofs.PlainChecks.{is_plain, field_check_is_plain, failure_is_plain}
use Rattle.rbc_disk.specs.declared.request.Request.{Request}
use Rattle.rbc_disk.specs.declared.request.Request.TheVariants as requests
use Rattle.rbc_disk.specs.declared.command.BufferPlan.{BufferPlan}

-- the marks are sets
either_bit : (x y : ℕ) → x < 2 → y < 2 → (max x y == 1) ≡ (x == 1 || y == 1)
either_bit x y h k = grind arith

pub has_place-with_places : (places more place : ℕ) → has_place (with_places places more) place ≡ (has_place places place || has_place more place)
has_place-with_places places more place =
    ap (λ n. n == 1) (bit_at_or places more place) ∙ either_bit (bit_at places place) (bit_at more place) (bit_at-lt places place) (bit_at-lt more place)

-- a bit of the set without a place
bit_without : (places place asked : ℕ) → place < 8 → asked < 8 → bit_at (without_place places asked) place ≡ min (bit_at places place) (1 - bit_at (2 ^ asked) place)
bit_without places place asked h k =
    bit_at_and places (bit_not w8 (2 ^ asked)) place ∙ ap (λ n. min (bit_at places place) n) (bit_at_not w8 (2 ^ asked) place (pow-lt k) h)

pub has_place-without_same : (places place : ℕ) → place < 8 → has_place (without_place places place) place ≡ false
has_place-without_same places place h =
    let e : bit_at (without_place places place) place ≡ min (bit_at places place) (1 - 1) = bit_without places place place h h ∙ ap (λ n. min (bit_at places place) (1 - n)) (bit_at-pow_same place) in
    ap (λ n. n == 1) (e ∙ no_bit (bit_at places place))
  where
    no_bit : (x : ℕ) → min x (1 - 1) ≡ 0
    no_bit x = omega arith

lone_bit : (x : ℕ) → x < 2 → min x (1 - 0) ≡ x
lone_bit x h = omega arith

pub has_place-without_other : (places place asked : ℕ) → place < 8 → asked < 8 → place ≢ asked → has_place (without_place places asked) place ≡ has_place places place
has_place-without_other places place asked h k other =
    let e : bit_at (without_place places asked) place ≡ bit_at places place =
    bit_without places place asked h k ∙ ap (λ n. min (bit_at places place) (1 - n)) (bit_at-pow_other asked place other) ∙ lone_bit (bit_at places place) (bit_at-lt places place)
    in
    ap (λ n. n == 1) e

-- the checks of a request and those of a failed call are no unit attention
calm : (check : Option Sense) → is_plain check ≡ true → is_attention check ≡ false
calm None h = refl
calm (Some check) h = grind arith

-- a check that is no unit attention is none of a code
calm_code : (code : ℕ) (ended : Option Sense) → is_attention ended ≡ false → tells code ended ≡ false
calm_code code None h = refl
calm_code code (Some check) h = ap (λ b. b && check.code == code) h

-- a run without a unit attention to tell ends with none
ends_calm : (check failure ended : Option Sense) → is_attention check ≡ false → is_attention failure ≡ false → MayEnd check failure ended → is_attention ended ≡ false
ends_calm (Some check) failure ended h k e = ap is_attention e ∙ h
ends_calm None failure None h k e = refl
ends_calm None failure (Some check) h k e = sym (ap is_attention e) ∙ k

-- what is told, by four words: an unknown operation, an INQUIRY, the mark of a reset, that of a changed medium
record Told (unknown inquiry reset changed : Bool) (ended : Option Sense) : Type 0 where
  of_reset : tells 0x29 ended ≡ (reset && (not unknown && not inquiry))
  of_change : tells 0x28 ended ≡ (changed && (not reset && (not unknown && not inquiry)))

quiet : (unknown inquiry reset changed : Bool) (ended : Option Sense) → is_attention ended ≡ false →
    (reset && (not unknown && not inquiry)) ≡ false → (changed && (not reset && (not unknown && not inquiry))) ≡ false → Told unknown inquiry reset changed ended
quiet unknown inquiry reset changed ended calm r c =
    record { of_reset = calm_code 0x29 ended calm ∙ sym r; of_change = calm_code 0x28 ended calm ∙ sym c }

told_by : (unknown inquiry reset changed : Bool) (others failure ended : Option Sense) → is_attention others ≡ false → is_attention failure ≡ false →
    MayEnd (check_if unknown no_command (first_of (told_marks inquiry (mark_check reset changed)) others)) failure ended → Told unknown inquiry reset changed ended
told_by true inquiry true true others failure ended h k e = quiet true inquiry true true ended (ends_calm (Some no_command) failure ended refl k e) refl refl
told_by true inquiry true false others failure ended h k e = quiet true inquiry true false ended (ends_calm (Some no_command) failure ended refl k e) refl refl
told_by true inquiry false true others failure ended h k e = quiet true inquiry false true ended (ends_calm (Some no_command) failure ended refl k e) refl refl
told_by true inquiry false false others failure ended h k e = quiet true inquiry false false ended (ends_calm (Some no_command) failure ended refl k e) refl refl
told_by false true true true others failure ended h k e = quiet false true true true ended (ends_calm others failure ended h k e) refl refl
told_by false true true false others failure ended h k e = quiet false true true false ended (ends_calm others failure ended h k e) refl refl
told_by false true false true others failure ended h k e = quiet false true false true ended (ends_calm others failure ended h k e) refl refl
told_by false true false false others failure ended h k e = quiet false true false false ended (ends_calm others failure ended h k e) refl refl
told_by false false true true others failure ended h k e = record { of_reset = ap (tells 0x29) e; of_change = ap (tells 0x28) e }
told_by false false true false others failure ended h k e = record { of_reset = ap (tells 0x29) e; of_change = ap (tells 0x28) e }
told_by false false false true others failure ended h k e = record { of_reset = ap (tells 0x29) e; of_change = ap (tells 0x28) e }
told_by false false false false others failure ended h k e = quiet false false false false ended (ends_calm others failure ended h k e) refl refl

told_of_marks : (cdb : List ℕ) (buffer : BufferPlan) (plain : PlainDisk) (place : ℕ) (ended : Option Sense) →
    MayEnd (check_of cdb buffer plain place) (failure_of plain.medium.is_bay cdb) ended →
    Told (is_none (operation_in cdb)) (is_inquiry (operation_in cdb)) (has_place plain.unit.reset place) (has_place plain.unit.changed place) ended
unfolding check_of
told_of_marks cdb buffer plain place ended e =
    told_by (is_none (operation_in cdb)) (is_inquiry (operation_in cdb)) (has_place plain.unit.reset place) (has_place plain.unit.changed place)
    (field_check (request_of plain.medium.is_bay cdb) buffer plain) (failure_of plain.medium.is_bay cdb) ended
    (calm (field_check (request_of plain.medium.is_bay cdb) buffer plain) (field_check_is_plain plain.medium.is_bay cdb buffer plain)) (calm (failure_of plain.medium.is_bay cdb) (failure_is_plain (request_of plain.medium.is_bay cdb))) e

-- the marks that a run leaves
record Left (ended : Option Sense) (asked : ℕ) (unit left : UnitState) : Type 0 where
  of_reset : left.reset ≡ (if tells 0x29 ended then without_place unit.reset asked else unit.reset)
  of_change : left.changed ≡ (if tells 0x28 ended then without_place unit.changed asked else unit.changed)

left_good : (request : Result Request Sense) (asked : ℕ) (unit : UnitState) → Left None asked unit (unit_ended request None asked unit)
left_good (Err refused) asked unit = record { of_reset = refl; of_change = refl }
left_good (Ok requests.Load) asked unit = record { of_reset = refl; of_change = refl }
left_good (Ok requests.Eject) asked unit = record { of_reset = refl; of_change = refl }
left_good (Ok (requests.Plain commands.TestReady)) asked unit = record { of_reset = refl; of_change = refl }
left_good (Ok (requests.Plain (commands.Inquiry allocation))) asked unit = record { of_reset = refl; of_change = refl }
left_good (Ok (requests.Plain (commands.StartStop start))) asked unit = record { of_reset = refl; of_change = refl }
left_good (Ok (requests.Plain (commands.Prevent on))) asked unit = record { of_reset = refl; of_change = refl }
left_good (Ok (requests.Plain commands.Capacity)) asked unit = record { of_reset = refl; of_change = refl }
left_good (Ok (requests.Plain (commands.Read lba count))) asked unit = record { of_reset = refl; of_change = refl }
left_good (Ok (requests.Plain (commands.Write lba count))) asked unit = record { of_reset = refl; of_change = refl }
left_good (Ok (requests.Plain (commands.Verify lba count))) asked unit = record { of_reset = refl; of_change = refl }
left_good (Ok (requests.Plain commands.Sync)) asked unit = record { of_reset = refl; of_change = refl }

-- no check has two codes
two_codes : (code : ℕ) (key : Bool) → (key && code == 0x29) ≡ true → (key && code == 0x28) ≡ false
two_codes code true h = grind arith
two_codes code false h = refl

if_false : {A : Type 0} (b : Bool) (x y : A) → b ≡ false → y ≡ (if b then x else y)
if_false true x y h = cc h
if_false false x y h = refl

left_by : (r c : Bool) (check : Sense) (asked : ℕ) (unit : UnitState) → has_attention 0x29 check ≡ r → has_attention 0x28 check ≡ c →
    Left (Some check) asked unit (if r then record unit { reset = without_place unit.reset asked } else if c then record unit { changed = without_place unit.changed asked } else unit)
left_by true c check asked unit r-is c-is = record {
  of_reset = sym (ap (λ b. if b then without_place unit.reset asked else unit.reset) r-is);
  of_change = if_false (has_attention 0x28 check) (without_place unit.changed asked) unit.changed (two_codes check.code (check.key == 6) r-is);
}
left_by false true check asked unit r-is c-is = record {
  of_reset = sym (ap (λ b. if b then without_place unit.reset asked else unit.reset) r-is);
  of_change = sym (ap (λ b. if b then without_place unit.changed asked else unit.changed) c-is);
}
left_by false false check asked unit r-is c-is = record {
  of_reset = sym (ap (λ b. if b then without_place unit.reset asked else unit.reset) r-is);
  of_change = sym (ap (λ b. if b then without_place unit.changed asked else unit.changed) c-is);
}

left_ended : (request : Result Request Sense) (ended : Option Sense) (asked : ℕ) (unit : UnitState) → Left ended asked unit (unit_ended request ended asked unit)
left_ended request None asked unit = left_good request asked unit
left_ended (Ok request) (Some check) asked unit = left_by (has_attention 0x29 check) (has_attention 0x28 check) check asked unit refl refl
left_ended (Err refused) (Some check) asked unit = left_by (has_attention 0x29 check) (has_attention 0x28 check) check asked unit refl refl

-- the set without a place, where it was told
mark_told : (is_same : Bool) (places place asked : ℕ) → place < 8 → asked < 8 → (asked == place) ≡ is_same →
    has_place (without_place places asked) place ≡ (has_place places place && not is_same)
mark_told true places place asked h k e =
    let same : asked ≡ place = grind arith in
    subst (λ n. has_place (without_place places n) place ≡ (has_place places place && false)) (sym same) (has_place-without_same places place h ∙ sym (and-false (has_place places place)))
mark_told false places place asked h k e =
    let other : place ≢ asked = grind arith in
    has_place-without_other places place asked h k other ∙ sym (and-true (has_place places place))

mark_ended : (told : Bool) (left places place asked : ℕ) → place < 8 → asked < 8 → left ≡ (if told then without_place places asked else places) →
    has_place left place ≡ (has_place places place && not (asked == place && told))
mark_ended true left places place asked h k e =
    ap (λ n. has_place n place) e ∙ mark_told (asked == place) places place asked h k refl ∙ ap (λ b. has_place places place && not b) (sym (and-true (asked == place)))
mark_ended false left places place asked h k e =
    ap (λ n. has_place n place) e ∙ sym (ap (λ b. has_place places place && not b) (and-false (asked == place)) ∙ and-true (has_place places place))

no_place : (place : ℕ) → has_place 0 place ≡ false
no_place place = ap (λ n. n == 1) (bit_at-zero place)

-- a place is marked exactly where it is owed
pub marks_owed : MarkLaw
marks_owed [] place h happened = record { reset = no_place place; changed = no_place place }
marks_owed (Cleared logins ∷ calls) place h happened =
    let before = marks_owed calls place h happened.0 in
    record {
      reset = has_place-with_places (after_calls calls).reset logins place ∙ ap (λ b. b || has_place logins place) before.reset;
      changed = before.changed;
    }
marks_owed (Changed logins ∷ calls) place h happened =
    let before = marks_owed calls place h happened.0 in
    record {
      reset = before.reset;
      changed = has_place-with_places (after_calls calls).changed logins place ∙ ap (λ b. b || has_place logins place) before.changed;
    }
marks_owed (Ran cdb buffer asked payload medium ended ∷ calls) place h happened =
    let before = marks_owed calls place h happened.0 in
    let left = left_ended (request_of medium.is_bay cdb) ended asked (after_calls calls) in
    record {
      reset = mark_ended (tells 0x29 ended) _ (after_calls calls).reset place asked h happened.1.0 left.of_reset ∙ ap (λ b. b && not (asked == place && tells 0x29 ended)) before.reset;
      changed = mark_ended (tells 0x28 ended) _ (after_calls calls).changed place asked h happened.1.0 left.of_change ∙ ap (λ b. b && not (asked == place && tells 0x28 ended)) before.changed;
    }

-- a command is told exactly what its place is owed
pub attention_owed : AttentionLaw
attention_owed calls cdb buffer place payload medium ended happened =
    let before = marks_owed calls place happened.1.0 happened.0 in
    let told = told_of_marks cdb buffer (plain_disk (after_calls calls) medium) place ended happened.1.1 in
    record {
      reset = told.of_reset ∙ ap (λ b. b && minds_marks cdb) before.reset;
      changed = told.of_change ∙ ap (λ b. b && (not (has_place (after_calls calls).reset place) && minds_marks cdb)) before.changed
          ∙ ap (λ b. owes_change place calls && (not b && minds_marks cdb)) before.reset;
    }
