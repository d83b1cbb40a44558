-- What a target begins with.
use Rattle.std.specs.Prelude.{ℕ, zero, suc, ◌+◌, false}
use Rattle.login_table.specs.Requests.{LoginRequest}
use Rattle.login_table.specs.Table.{Table, enter_step}

-- The logins that stand from the start: that of initiator i on unit 0, with its FIFO of number 0.
abbrev pub ready_login : ℕ → LoginRequest
ready_login initiator = record {
  unit = 0;
  node = 0xffc1 + initiator;
  eui = 0x0200000000000001 + initiator;
  fifo = 0x000013000000;
  hold = 3;
  exclusive = false;
}

unfoldable pub ready_from : ℕ → ℕ → Table → Table
ready_from zero initiator table = table
ready_from (suc left) initiator table = ready_from left (initiator + 1) (enter_step table (ready_login initiator)).1

-- the target's EUI-64
abbrev pub target_eui : ℕ
target_eui = 0x0200000000000010
