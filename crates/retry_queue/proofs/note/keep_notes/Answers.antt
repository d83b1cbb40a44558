-- A note more adds what it adds.
use Rattle.retry_queue.proofs.Watching.{kept_more}
use Rattle.retry_queue.proofs.note.keep_notes.Goals as goal

pub loop-note-preserved : goal.loop-note-preserved
loop-note-preserved c = record {
  keeps = kept_more _ c.args.notes.now c.loop-note.note-index c.note-item.result _ _ _ c.loop-note-test.true c.note-item.is c.loop-note.invariant.keeps c.in_ok-kept.ensures;
}
