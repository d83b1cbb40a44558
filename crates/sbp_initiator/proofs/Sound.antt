-- A new initiator has counted no more than its own actions and calls allow.
use Rattle.std.proofs.Common.{arith, ℕ, ◌+◌, ◌≤◌, Bool, true, false}
use Rattle.sbp_initiator.specs.Initiators.{first_logins, new_state}
use Rattle.sbp_initiator.specs.Counted.{IsSound}

one_at_most : (ready : Bool) → first_logins ready ≤ 0 + 1
one_at_most true = omega arith
one_at_most false = omega arith

pub new_sound : (number : ℕ) (ready : Bool) → IsSound (new_state number ready)
unfolding new_state
new_sound number ready = record {
  managed = omega arith;
  logins = one_at_most ready;
  running = omega arith;
  prepared = omega arith;
  called = omega arith;
  labelled = omega arith;
}
