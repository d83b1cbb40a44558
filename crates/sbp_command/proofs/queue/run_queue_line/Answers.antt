-- The notes of a line have their form.
use Rattle.sbp_command.proofs.queue.run_queue_line.Goals as goal

pub append_queue_notes-requires : goal.append_queue_notes-requires
append_queue_notes-requires g c = rw c.fresh.ensures c.in_ok-do_line.ensures.form
