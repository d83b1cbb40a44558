-- No count of a medium falls.
use Rattle.std.proofs.Common.{◌≡◌, ℕ, ◌≤◌, Bool, true, false, List, [], ◌∷◌, sym, subst, arith}
use Rattle.std.specs.Prelude.{zero, suc, slice_index, slice_set, if◌then◌else◌, Option, Some, None}
use Rattle.sbp_base.specs.Faults.{count_up}
use Rattle.rbc_disk.specs.declared.command.Outcome.{Outcome}
use Rattle.rbc_disk.specs.Runs.{check_in, is_failure}
use Rattle.command_agent.specs.Runs.{count_after}
use Rattle.sbp_target.specs.Faults.{NoneFell}

pub none_fell_kept : (before now : List ℕ) → now ≡ before → NoneFell before now
none_fell_kept before now e = record { each = λ unit. subst (λ counts. slice_index before unit ≤ slice_index counts unit) (sym e) (omega arith) }

pub none_fell_more : (before now later : List ℕ) → NoneFell before now → NoneFell now later → NoneFell before later
none_fell_more before now later h k = record { each = λ unit. omega (arith, h.each unit, k.each unit) }

-- a count does not fall as a command runs
risen : (failed : Bool) (count : ℕ) → count ≤ (if failed then count_up count 1 else count)
risen true count = omega arith
risen false count = omega arith

pub count_rises : (ran : Option Outcome) (count : ℕ) → count ≤ count_after ran count
count_rises None count = omega arith
count_rises (Some outcome) count = risen (is_failure (check_in outcome)) count

set_rises : (counts : List ℕ) (at count unit : ℕ) → slice_index counts at ≤ count → slice_index counts unit ≤ slice_index (slice_set counts at count) unit
set_rises [] at count unit h = omega arith
set_rises (first ∷ counts) zero count zero h = h
set_rises (first ∷ counts) zero count (suc unit) h = omega arith
set_rises (first ∷ counts) (suc at) count zero h = omega arith
set_rises (first ∷ counts) (suc at) count (suc unit) h = set_rises counts at count unit h

-- a command ran on a unit, or none did
pub none_fell_ran : (before now : List ℕ) (unit : ℕ) (ran : Option Outcome) → now ≡ slice_set before unit (count_after ran (slice_index before unit)) → NoneFell before now
none_fell_ran before now unit ran e = record {
  each = λ other. subst (λ counts. slice_index before other ≤ slice_index counts other) (sym e) (set_rises before unit _ other (count_rises ran (slice_index before unit)));
}

pub ruleset fell_steps = (none_fell_kept)
