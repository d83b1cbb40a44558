-- The event was run, and what its notes add is kept.
use Rattle.std.proofs.Common.{◌∙◌, sym, ap, subst, refl, length}
use Rattle.sbp_world.specs.Lines.{IsEvent}
use Rattle.retry_queue.specs.Kept.{asked_by, kept_of}
use Rattle.retry_queue.proofs.Watching.{happens_at, keeps_at, lent_kept, told_asked}
use Rattle.retry_queue.proofs.note.QueueNotes.run.Goals as goal

pub step-requires-clause-event : goal.step-requires-clause-event
step-requires-clause-event g c = subst (IsEvent c.args.event.now) (sym (ap (λ w. length w.initiators) c.deref_mut.ensures.value ∙ ap (λ n. length n.world.initiators) c.self.view_is)) c.requires.event

pub step-requires-clause-media : goal.step-requires-clause-media
step-requires-clause-media g c = c.requires.media ∙ sym (ap (λ w. length w.target.units) c.deref_mut.ensures.value ∙ ap (λ n. length n.world.target.units) c.self.view_is)

pub returns-clause-units : goal.returns-clause-units
returns-clause-units g c = c.step.ensures.units ∙ ap (λ w. length w.target.units) c.deref_mut.ensures.value ∙ ap (λ n. length n.world.target.units) c.self.view_is

pub returns-clause-happens : goal.returns-clause-happens
returns-clause-happens g c = happens_at c.keep_notes.result c.args.line c.args.event.now c.deref_mut.result.now c.args.self.now.world _ _ _ (c.deref_mut.ensures.value ∙ ap (λ n. n.world) c.self.view_is) c.in_ok-step.ensures.happens

pub returns-clause-lawful : goal.returns-clause-lawful
returns-clause-lawful g c = keeps_at c.keep_notes.result c.args.line c.args.event.now c.deref_mut.result.now c.args.self.now.world _ _ _ (c.deref_mut.ensures.value ∙ ap (λ n. n.world) c.self.view_is) c.in_ok-step.ensures.lawful

pub returns-clause-kept : goal.returns-clause-kept
returns-clause-kept g c = lent_kept c.keep_notes.result c.asked_by-asked.result (asked_by c.args.event.now) (kept_of c.args.before) (kept_of c.args.before) c.step.new.self.fresh c.fresh.result.now c.as_slice.result.now c.asked_by-asked.ensures refl (c.fresh.ensures.same ∙ ap (λ w. w.fresh) c.deref.ensures) c.as_slice.ensures c.keep_notes.ensures

pub returns-clause-notes : goal.returns-clause-notes
returns-clause-notes g c = told_asked c.keep_notes.result c.asked_by-asked.result (asked_by c.args.event.now) c.step.new.self.fresh (kept_of c.args.before) c.asked_by-asked.ensures
