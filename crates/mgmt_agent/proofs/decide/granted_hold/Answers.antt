use Rattle.std.proofs.Common.{◌≡◌, ◌-◌, ◌^◌, ◌≤◌, ℕ, min, arith}
use Rattle.std.proofs.Math.Pow.{pow_mono}
use Rattle.mgmt_agent.proofs.decide.granted_hold.Goals as goal

most : (power : ℕ) → 16 ≤ power → 15 ≡ min power 16 - 1
most power h = omega arith

pub returns-in_default : goal.returns-in_default
returns-in_default c = most (2 ^ c.args.reconnect) (let h : 4 ≤ c.args.reconnect = omega arith in let p : 2 ^ 4 ≤ 2 ^ c.args.reconnect = pow_mono h in omega arith)
