-- Counts of faults of the outside: how many calls of an object failed, up to a last value.
use Rattle.std.specs.Prelude.{◌≡◌, ℕ, ◌+◌, ◌-◌, ◌^◌, ◌≤◌, min, Result, Ok, Err}
use Rattle.sbp_base.specs.declared.outside.SinkFault.{SinkFault}
use Rattle.sbp_base.specs.declared.outside.SinkFault.TheVariants as faults

-- the last value of a count of faults
abbrev pub last_count : ℕ
last_count = 2 ^ 64 - 1

-- a count with so many faults more; it rises no higher than to its last value
abbrev pub count_up : ℕ → ℕ → ℕ
count_up count more = count + min more (last_count - count)

-- the count is higher than before, or stands at its last value
abbrev pub Rose : ℕ → ℕ → Type 0
Rose before now = min (before + 1) last_count ≤ now

-- the count after a call of a source or a medium: one more exactly where the call failed
abbrev pub count_after : {A E : Type 0} → ℕ → Result A E → ℕ
count_after before (Ok value) = before
count_after before (Err failed) = count_up before 1

-- the count after a call of a sink: want of memory is no fault of it
abbrev pub sink_count_after : {A : Type 0} → ℕ → Result A SinkFault → ℕ
sink_count_after before (Ok taken) = before
sink_count_after before (Err faults.Failed) = count_up before 1
sink_count_after before (Err faults.NoMemory) = before

-- A count of faults is the number of the calls that failed, up to its last value.
pub record HasCause {A E : Type 0} (before now : ℕ) (result : Result A E) : Type 0 where
  pub counted : now ≡ count_after before result
  pub most : now ≤ last_count

pub record HasSinkCause {A : Type 0} (before now : ℕ) (result : Result A SinkFault) : Type 0 where
  pub counted : now ≡ sink_count_after before result
  pub most : now ≤ last_count
