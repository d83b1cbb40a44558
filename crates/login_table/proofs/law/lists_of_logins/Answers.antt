use Rattle.login_table.proofs.Listed.{lists_of_logins}
use Rattle.login_table.proofs.law.lists_of_logins.Goals as goal

pub returns : goal.returns
returns c = lists_of_logins
