-- One login after the other.
use Rattle.std.specs.Prelude.{◌≡◌, ℕ, zero, suc, ◌+◌, refl}
use Rattle.std.proofs.Common.{arith}
use Rattle.login_table.specs.Table.{Table, enter_step}
use Rattle.target_base.specs.Beginning.{ready_from, ready_login}

pub readying : (left less initiator : ℕ) (table : Table) → left ≡ suc less → ready_from left initiator table ≡ ready_from less (initiator + 1) (enter_step table (ready_login initiator)).1
unfolding ready_from
readying zero less initiator table e = absurd (omega arith)
readying (suc n) less initiator table e = let same : n ≡ less = omega arith in rw same

pub readied : (left initiator : ℕ) (table : Table) → left ≡ zero → ready_from left initiator table ≡ table
unfolding ready_from
readied zero initiator table e = refl
readied (suc n) initiator table e = absurd (omega arith)
