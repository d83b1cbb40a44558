use Rattle.drill_text.proofs.Traces.{goes_by_lines, goes_on}
use Rattle.drill_text.proofs.laws.trace_goes_by_lines.Goals as goal

pub returns-clause-whole : goal.returns-clause-whole
returns-clause-whole c = goes_by_lines

pub returns-clause-goes_on : goal.returns-clause-goes_on
returns-clause-goes_on c = goes_on
