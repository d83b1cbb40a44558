-- What a login asks for (NCITS 325-1998, login).
use Rattle.std.specs.Prelude.{ℕ, Bool}

pub record LoginRequest : Type 0 where
  pub unit : ℕ
  pub node : ℕ
  pub eui : ℕ
  pub fifo : ℕ
  pub hold : ℕ
  pub exclusive : Bool
