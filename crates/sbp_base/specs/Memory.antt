-- What the objects in memory hold.
use Rattle.std.specs.Prelude.{ℕ, List}
use Rattle.sbp_base.specs.Failing.{Plan}

-- a source: the bytes left, and which of its calls fail
pub record SourceState : Type 0 where
  pub left : List ℕ
  pub plan : Plan

-- a sink: the bytes written, and which of its calls fail
pub record SinkState : Type 0 where
  pub written : List ℕ
  pub plan : Plan
