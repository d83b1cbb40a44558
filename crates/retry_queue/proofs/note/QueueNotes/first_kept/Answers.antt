-- What the notes of the first line add is kept.
use Rattle.std.proofs.Common.{◌∙◌, ap, refl, subst, None}
use Rattle.std.specs.List.{AllByRecursion}
use Rattle.sbp_journal.specs.Written.{IsTyped}
use Rattle.retry_queue.specs.Kept.{kept_of, new_kept}
use Rattle.retry_queue.proofs.Watching.{lent_kept}
use Rattle.retry_queue.proofs.note.QueueNotes.first_kept.Goals as goal

pub returns-clause-kept : goal.returns-clause-kept
returns-clause-kept c = lent_kept c.keep_notes.result None None (kept_of c.new.result) new_kept c.args.self.now.world.fresh c.fresh.result.now c.as_slice.result.now refl c.new.ensures (c.fresh.ensures.same ∙ ap (λ w. w.fresh) c.deref.ensures ∙ ap (λ n. n.world.fresh) c.self.view_is) c.as_slice.ensures c.keep_notes.ensures

pub returns-clause-typed : goal.returns-clause-typed
returns-clause-typed c = subst (λ n. AllByRecursion IsTyped n.world.fresh) c.self.view_is (subst (λ w. AllByRecursion IsTyped w.fresh) c.deref.ensures c.fresh.ensures.typed)
