-- One more line was run, or all were.
use Rattle.std.proofs.Common.{◌∙◌, sym, length, arith}
use Rattle.script_runner.proofs.Drilling.{drill_more, drill_over, first_fits, left_behind, none_left, taken_first}
use Rattle.script_runner.proofs.Kept.{happens_keeps}
use Rattle.script_runner.proofs.drill.run_lines.Goals as goal

pub run_line-requires-clause-event : goal.run_line-requires-clause-event
run_line-requires-clause-event g c =
    let first = taken_first c.lines.script c.drill_line.new.drill c.in-Some.event (sym c.in-Some.is ∙ c.in_ok-event.ensures.event) c.in_ok-event.ensures.rest in
    (first_fits c.lines.line (length c.lines.world.initiators) c.lines.script c.drill_line.new.drill c.in-Some.event first c.lines.invariant.left).0

pub lines-preserved : goal.lines-preserved
lines-preserved g c =
    let inv = c.lines.invariant in
    let ran = c.in_ok-run_line-in-Some.ensures in
    let first = taken_first c.lines.script c.drill_line.new.drill c.in-Some.event (sym c.in-Some.is ∙ c.in_ok-event.ensures.event) c.in_ok-event.ensures.rest in
    record {
      size = ran.size ∙ inv.size;
      units = ran.size ∙ inv.units ∙ sym ran.units;
      left = left_behind c.lines.line (length c.lines.world.initiators) (length c.run_line.new.world.initiators) c.lines.script c.drill_line.new.drill c.in-Some.event first (happens_keeps _ _ _ _ ran.happens) inv.left;
      so_far = λ start all h. drill_more start _ _ all c.lines.script c.drill_line.new.drill c.lines.line c.in-Some.event c.lines.tally c.run_line.new.tally c.lines.world c.run_line.new.world first ran.happens ran.tally ran.typed
          (first_fits c.lines.line (length c.lines.world.initiators) c.lines.script c.drill_line.new.drill c.in-Some.event first inv.left).1 (inv.so_far start all h);
    }

pub returns-in-None-clause-ran : goal.returns-in-None-clause-ran
returns-in-None-clause-ran g c = λ start all h.
    drill_over start _ all c.lines.script c.lines.line c.lines.tally c.lines.world (none_left c.lines.script (sym c.in-None.is ∙ c.in_ok-event.ensures.event)) (let room = c.lines.invariant.left.few in omega (arith, room)) (c.lines.invariant.so_far start all h)
