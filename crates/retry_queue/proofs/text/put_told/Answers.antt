-- A note more adds its line and that of the `written` that it brings.
use Rattle.std.proofs.Common.{◌++◌}
use Rattle.retry_queue.specs.Kept.{kept_of}
use Rattle.retry_queue.proofs.Forms.{finished_fits}
use Rattle.retry_queue.proofs.Watching.{kept_more, text_more}
use Rattle.retry_queue.proofs.text.put_told.Goals as goal

pub put_finished-requires : goal.put_finished-requires
put_finished-requires c = finished_fits c.args.notes.now c.loop-note.note-index c.note-item.result (kept_of c.loop-note.kept) _ c.requires c.loop-note-test.true c.note-item.is c.in_ok-finished.ensures

pub loop-note-preserved : goal.loop-note-preserved
loop-note-preserved c = record {
  keeps = kept_more _ c.args.notes.now c.loop-note.note-index c.note-item.result _ _ _ c.loop-note-test.true c.note-item.is c.loop-note.invariant.keeps c.in_ok-kept.ensures;
  so_far = text_more c.args.asked c.args.notes.now c.loop-note.note-index c.note-item.result (kept_of c.args.before) (kept_of c.loop-note.kept) c.in_ok-finished.field-0 (c.args.out.now ++ c.args.room.now) (c.loop-note.out ++ c.loop-note.room) (c.put_line.new.out ++ c.put_line.new.room) (c.put_finished.new.out ++ c.put_finished.new.room) c.loop-note-test.true c.note-item.is c.loop-note.invariant.keeps c.loop-note.invariant.so_far c.in_ok-put_line.ensures c.in_ok-finished.ensures c.in_ok-put_finished.ensures;
}
