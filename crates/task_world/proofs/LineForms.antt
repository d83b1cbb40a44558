-- The notes of a line of `tasks` have the form of a journal.
use Rattle.std.proofs.Common.{refl, sym, subst, ℕ, List, [], ◌∷◌, Option}
use Rattle.std.specs.List.{AllByRecursion}
use Rattle.rbc_disk.specs.Disk.{Disk}
use Rattle.rbc_disk.specs.Runs.{Told}
use Rattle.sbp_journal.specs.declared.event.Event.{Event}
use Rattle.sbp_journal.specs.declared.event.Event.TheVariants as events
use Rattle.sbp_journal.specs.declared.note.Note.{Note}
use Rattle.sbp_journal.specs.Form.{HasForm}
use Rattle.sbp_world.specs.Forms.{AreForms, HaveForm}
use Rattle.sbp_world.specs.Lines as worlds
use Rattle.sbp_world.specs.Runs.{Entry}
use Rattle.sbp_world.specs.Worlds.{Scene, WorldState}
use Rattle.sbp_world.proofs.LineForms.{form_law as world_forms}
use Rattle.sbp_world.proofs.ToldForms.{hands_out}
use Rattle.task_world.specs.Forms.{FormLaw}
use Rattle.task_world.specs.Lines.{MayHappen, MayTellIn, happens_to, task_happens}
use Rattle.task_world.specs.Making.{first_scene}
use Rattle.task_world.specs.Runs.{AreEntries, after}
use Rattle.task_world.specs.Worlds.{TaskScene, begun}
use Rattle.task_world.proofs.MediaSides.{told_formed}
use Rattle.task_world.proofs.TaskPass.{Kept, line_keeps}

abbrev Has : TaskScene → Type 0
Has s = HaveForm s.scene.world

-- it is of the notes alone
abbrev Formed : WorldState → Disk → ℕ → Type 0
Formed w disk count = HaveForm w

kept : Kept Formed
kept = record {
  same = λ w x disk count e p h. subst (λ (fresh : List Note). AllByRecursion HasForm fresh) (sym e) h;
  noted = λ note w disk count n h. (n.form, h);
  hands = λ node weight outbox w disk count left now t h. hands_out node weight outbox w (told_formed outbox.sides t.are) h;
}

-- where it does what it does in every world
plainly : (line : ℕ) (event : Event) (told : List (Option Told)) (s : Scene) → worlds.MayHappen event told s → HaveForm (worlds.happens line event told s).world
plainly line event told s m = world_forms.lines line event s (worlds.happens line event told s) (record { told = told; is = refl; may = m })

-- each line, which begins without notes
happens_form : (line : ℕ) (event : Event) (told : List (Option Told)) (s : TaskScene) → MayTellIn event told (begun s) → Has (happens_to line event told (begun s))
unfolding worlds.happens worlds.MayHappen
happens_form line (events.Deliver serial) told s m = line_keeps Formed kept line (events.Deliver serial) told (begun s) refl m tt
happens_form line (events.Repeat serial) told s m = line_keeps Formed kept line (events.Repeat serial) told (begun s) refl m tt
happens_form line (events.Timeout serial) told s m = line_keeps Formed kept line (events.Timeout serial) told (begun s) refl m tt
happens_form line (events.Step count) told s m = line_keeps Formed kept line (events.Step count) told (begun s) refl m tt
happens_form line events.Settle told s m = line_keeps Formed kept line events.Settle told (begun s) refl m tt
happens_form line event told s m = plainly line event told s.scene m

line_form : (line : ℕ) (event : Event) (told : List (Option Told)) (s : TaskScene) → MayHappen event told s → Has (task_happens line event told s)
unfolding task_happens MayHappen
line_form line event told s m = happens_form line event told s m

entries_form : (s : TaskScene) (entries : List Entry) → AreEntries s entries → AllByRecursion AreForms entries
entries_form s [] a = tt
entries_form s (e ∷ before) a = (
  subst (λ (fresh : List Note). AllByRecursion HasForm fresh) (sym a.0.notes_are) (line_form e.line e.event e.told (after s before) a.0.may),
  entries_form s before a.1,
)

pub form_law : FormLaw
form_law = record {
  lines = λ line event old new h. subst Has (sym h.is) (line_form line event h.told old h.may);
  runs = λ run r. entries_form (first_scene run.start) run.entries r.lines;
}
