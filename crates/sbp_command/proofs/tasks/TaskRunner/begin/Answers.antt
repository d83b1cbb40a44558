-- The note of the line that begins a run has its form.
use Rattle.std.proofs.Common.{◌∙◌, ◌++◌, ap, reverse}
use Rattle.sbp_journal.specs.Form.{HasForm}
use Rattle.sbp_journal.specs.Text.{text_of}
use Rattle.sbp_journal.proofs.Each.{all_reverse}
use Rattle.script_runner.proofs.Kept.{world_fresh}
use Rattle.std.specs.Prelude.{true}
use Rattle.sbp_command.proofs.tasks.TaskRunner.begin.Goals as goal

pub append_notes-requires : goal.append_notes-requires
append_notes-requires c = rw (c.as_slice.ensures, c.fresh.ensures.same, c.deref.ensures) (all_reverse HasForm _ c.in_ok-world.ensures.form)

pub returns-clause-text : goal.returns-clause-text
returns-clause-text c =
    c.in_ok-append_notes.ensures
    ∙ ap (λ ns. c.args.out.now ++ text_of ns) (c.as_slice.ensures ∙ ap reverse (c.fresh.ensures.same ∙ ap (λ w. w.world.fresh) (c.deref.ensures ∙ c.in_ok-world.ensures.world) ∙ world_fresh 1 true 1))
