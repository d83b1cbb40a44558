-- Which calls of a target count: those that change it. A packet that is ignored leaves nothing but the last request that is remembered, and a generation that is not new leaves all.
use Rattle.std.specs.Prelude.{◌≡◌, ℕ, ◌+◌, Bool, true, false}
use Rattle.sbp_journal.specs.declared.cause.Judged.{Judged}
use Rattle.sbp_journal.specs.declared.cause.Judged.TheVariants as judged

abbrev pub counted : Judged → ℕ → ℕ
counted judged.Got calls = calls + 1
counted (judged.Ignored cause) calls = calls

abbrev pub counted_if : Bool → ℕ → ℕ
counted_if true calls = calls + 1
counted_if false calls = calls

-- an ignored packet leaves the count of the labels' calls
abbrev pub LeavesCount : Judged → ℕ → ℕ → Type 0
LeavesCount judged.Got before now = Unit {0}
LeavesCount (judged.Ignored cause) before now = now ≡ before
