-- At each place of every run in which nobody injected packets, what the management operation of the target waits for is answered whole.
use Rattle.sbp_world.specs.Completing.Shut.{GivenWholeLaw}
use Rattle.sbp_world.proofs.Completing.LoginsLatest.{logins_latest_law}
use Rattle.sbp_world.proofs.Completing.ShutLogins.{given_where_latest_law}

pub given_whole_law : GivenWholeLaw
given_whole_law = record {
  after_lines = λ line run r has small size tame. given_where_latest_law.after_lines line run r has small size tame (logins_latest_law.after_lines line run r has small size tame);
  between = λ line run r has small size next most told m tame. given_where_latest_law.between line run r has small size next most told m tame (logins_latest_law.between line run r has small size next most told m tame);
}
