-- Objects whose calls fail by plan.
use Rattle.std.specs.Prelude.{ℕ, ◌+◌, ◌-◌, ◌^◌, ◌==◌, ◌&&◌, min, nat_lt, Bool, List, if◌then◌else◌}
use Rattle.std.specs.List.{list_any}

-- the numbers of the calls that fail, counted from 1; how many calls were made, and how many failed
pub record Plan : Type 0 where
  pub failing : List ℕ
  pub calls : ℕ
  pub faults : ℕ

-- the last value of the count of calls: from then on no call fails
abbrev pub last_call : ℕ
last_call = 2 ^ 32 - 1

-- the next call is one of those that fail
abbrev pub fails_next : Plan → Bool
fails_next plan = nat_lt plan.calls last_call && list_any (λ number. number == plan.calls + 1) plan.failing

-- the plan after one more call
abbrev pub after_call : Plan → Plan
after_call plan = record plan {
  calls = min (plan.calls + 1) last_call;
  faults = if fails_next plan then plan.faults + 1 else plan.faults;
}
