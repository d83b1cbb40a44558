-- The run begins, and its lines follow.
use Rattle.std.proofs.Common.{◌≡◌, ◌∙◌, ◌≤◌, sym, ap, subst, true, [], drop, length, reverse, arith}
use Rattle.std.specs.List.{AllByRecursion}
use Rattle.std.proofs.lemmas.List.{length-map}
use Rattle.sbp_journal.specs.Form.{HasForm}
use Rattle.sbp_journal.proofs.Each.{all_reverse}
use Rattle.sbp_world.specs.Lines.{IsEvent}
use Rattle.sbp_world.specs.Wire.Lines.{IsLine}
use Rattle.sbp_world.proofs.Delivered.{on_ok}
use Rattle.sbp_world.proofs.LineForms.{form_law}
use Rattle.script_runner.proofs.DrillEvents.{lines_are, lines_few, lines_fit}
use Rattle.script_runner.proofs.Drilling.{drill_begun}
use Rattle.script_runner.proofs.Kept.{world_count, world_units}
use Rattle.script_runner.proofs.drill.tally_drill.Goals as goal

pub add_all-requires : goal.add_all-requires
add_all-requires g c = rw (c.as_slice-2.ensures, c.fresh.ensures.same, c.deref.ensures, c.in_ok-world.ensures.world) (all_reverse HasForm _ (form_law.begins 2 true _))

pub run_lines-requires-clause-units : goal.run_lines-requires-clause-units
run_lines-requires-clause-units g c = sym (ap (λ w. length w.target.units) (c.deref_mut.ensures.value ∙ c.in_ok-world.ensures.world) ∙ world_units 2 true _ ∙ ap length c.as_slice.ensures.value)

pub run_lines-requires-clause-left : goal.run_lines-requires-clause-left
run_lines-requires-clause-left g c =
    let script = c.in_ok-world.ensures.rest ∙ ap (λ es. drop 1 es) c.new-script.ensures in
    let count = ap length script in
    let lines = lines_few c.args.words.count 1 c.args.words.seed in
    let most = c.requires.commands in
    record {
      two = ap (λ w. length w.initiators) (c.deref_mut.ensures.value ∙ c.in_ok-world.ensures.world) ∙ world_count 2 true _;
      few = omega (arith, count, lines, most);
      fit = subst (AllByRecursion (λ event. IsEvent event 2)) (sym script) (lines_fit c.args.words.count 1 c.args.words.seed);
      lines = subst (AllByRecursion (λ event. IsLine event 2)) (sym script) (lines_are c.args.words.count 1 c.args.words.seed);
    }

pub returns-clause-ran : goal.returns-clause-ran
returns-clause-ran g c =
    on_ok c.run_lines.result _ _
    (λ f. f _ _ (drill_begun c.args.words.seed c.args.words.count _ _ _ _ _ c.as_slice-2.result.now (c.in_ok-world.ensures.rest ∙ ap (λ es. drop 1 es) c.new-script.ensures) (c.deref_mut.ensures.value ∙ c.in_ok-world.ensures.world) (ap length c.as_slice.ensures.value ∙ sym (length-map _ _)) (subst (λ n. 1 ≤ n) (sym (length-map _ _)) c.requires.some) (subst (λ n. n ≤ 4) (sym (length-map _ _)) c.requires.few) (c.in_ok-add_all.ensures [] c.requires.none) (c.as_slice-2.ensures ∙ ap reverse (c.fresh.ensures.same ∙ ap (λ w. w.fresh) (c.deref.ensures ∙ sym c.deref_mut.ensures.value)))))
    c.run_lines.ensures.ran
