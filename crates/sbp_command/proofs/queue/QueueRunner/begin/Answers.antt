-- The note of the line that begins a run has its form, and its text is added.
use Rattle.std.proofs.Common.{◌∙◌, ◌++◌, ap, reverse}
use Rattle.retry_queue.specs.Texts.{text_of}
use Rattle.sbp_command.proofs.queue.QueueRunner.begin.Goals as goal

pub append_queue_notes-requires : goal.append_queue_notes-requires
append_queue_notes-requires c = rw c.fresh.ensures c.in_ok-queue.ensures.form

pub returns : goal.returns
returns c = record {
  begins = c.in_ok-queue.ensures.begins;
  fresh = c.in_ok-queue.ensures.fresh;
  one = c.in_ok-queue.ensures.one;
  units_are = c.in_ok-queue.ensures.units;
  text_is = c.in_ok-append_queue_notes.ensures ∙ ap (λ ns. c.args.out.now ++ text_of (reverse ns)) c.fresh.ensures;
}
