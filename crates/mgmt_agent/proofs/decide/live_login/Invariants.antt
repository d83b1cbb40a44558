use Rattle.std.specs.Prelude.{◌≡◌, ℕ, ◌<◌, false, length}
use Rattle.login_table.specs.Table.{has, is_live_of, place_at}
use Rattle.mgmt_agent.proofs.decide.live_login.Given as goal

abbrev pub invariant-loop-place : goal.invariant-loop-place
invariant-loop-place l = record {
  passed : (k : ℕ) → k < l.place → has (is_live_of l.login l.node) (place_at l.logins.places k) ≡ false;
  size : 0 < l.place → length l.logins.places ≡ 8;
}
