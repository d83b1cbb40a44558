use Rattle.std.proofs.Common.{◌∙◌}
use Rattle.rbc_disk.specs.Runs.{inquiry_bytes}
use Rattle.rbc_disk.proofs.AnswerLemmas.{inquiry_front}
use Rattle.rbc_disk.proofs.perform.inquiry.Goals as goal

pub returns-clause-answered : goal.returns-clause-answered
unfolding inquiry_bytes
returns-clause-answered c =
    inquiry_front c.args.allocation c.from-size.result c.copy_front.new.out (c.from-size.ensures ∙ c.min-len.ensures) c.copy_front.ensures
