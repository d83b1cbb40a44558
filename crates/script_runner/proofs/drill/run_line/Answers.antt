-- The notes of a line have their form, and are tallied.
use Rattle.std.proofs.Common.{◌≡◌, ◌∙◌, ap, subst, ◌++◌, reverse}
use Rattle.std.specs.Prelude.{OnOk}
use Rattle.sbp_journal.specs.Form.{HasForm}
use Rattle.sbp_journal.proofs.Each.{all_reverse}
use Rattle.sbp_world.proofs.LineForms.{form_law}
use Rattle.drill_text.specs.Tally.{tally_of}
use Rattle.script_runner.proofs.drill.run_line.Goals as goal

pub add_all-requires : goal.add_all-requires
add_all-requires g c = rw (c.as_slice.ensures, c.fresh.ensures.same) (all_reverse HasForm _ (form_law.lines c.args.line c.args.event.now _ _ c.in_ok-step.ensures.happens))

pub returns-clause-tally : goal.returns-clause-tally
returns-clause-tally g c = λ before h. subst (λ ns. OnOk c.add_all.result (c.add_all.new.self ≡ tally_of (before ++ ns))) (c.as_slice.ensures ∙ ap reverse c.fresh.ensures.same) (c.add_all.ensures before h)
