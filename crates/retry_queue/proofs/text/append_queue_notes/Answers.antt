-- The lines of the last line's notes, by what it was.
use Rattle.std.proofs.Common.{◌∙◌, sym, ap}
use Rattle.retry_queue.proofs.Watching.{idle_text, lent_form, lent_text, submit_text}
use Rattle.retry_queue.proofs.text.append_queue_notes.Goals as goal

pub append_told-requires : goal.append_told-requires
append_told-requires c = lent_form c.notes.inside.last _ _ c.notes.inside.world.value.fresh _ _ _ (sym (ap (λ n. n.notes) c.notes.view_is)) c.in-World.is (c.fresh.ensures.same ∙ ap (λ w. w.fresh) c.deref.ensures) c.as_slice-in-World.ensures c.requires

pub returns-in-World : goal.returns-in-World
returns-in-World c = lent_text c.append_told.result c.notes.inside.last _ _ c.notes.inside.world.value.fresh _ _ _ _ _ (sym (ap (λ n. n.notes) c.notes.view_is)) c.in-World.is (c.fresh.ensures.same ∙ ap (λ w. w.fresh) c.deref.ensures) c.as_slice-in-World.ensures c.append_told.ensures

pub returns-in-Idle : goal.returns-in-Idle
returns-in-Idle c = idle_text c.extend_from_slice.result c.notes.inside.last c.notes.inside.world.value.fresh _ _ _ (sym (ap (λ n. n.notes) c.notes.view_is)) c.in-Idle.is c.extend_from_slice.ensures.ok

pub returns-in-Submit : goal.returns-in-Submit
returns-in-Submit c = submit_text c.append_submit.result c.notes.inside.last c.notes.inside.world.value.fresh _ _ _ _ _ _ _ (sym (ap (λ n. n.notes) c.notes.view_is)) c.in-Submit.is c.as_slice.ensures c.append_submit.ensures
