use Rattle.unordered_laws.proofs.Rules.{fetch_rule}
use Rattle.unordered_laws.proofs.Fetches.{fetch_on}
use Rattle.unordered_laws.proofs.laws.calls_keep_the_fetch_rule.Goals as goal

pub returns-clause-kept : goal.returns-clause-kept
returns-clause-kept c = fetch_rule

pub returns-clause-told : goal.returns-clause-told
returns-clause-told c = fetch_on
