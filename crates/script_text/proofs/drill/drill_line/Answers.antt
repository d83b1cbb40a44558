use Rattle.std.proofs.Common.{◌<◌, refl, sym, ◌∙◌, arith}
use Rattle.script_text.proofs.Drills.{ended, going}
use Rattle.script_text.proofs.drill.drill_line.Goals as goal

pub returns-then-drill-eq0-clause-event : goal.returns-then-drill-eq0-clause-event
returns-then-drill-eq0-clause-event c =
    let d = c.drill.inside in
    let e = sym c.drill.view_is ∙ ended d.begun d.due d.left d.line d.state c.if-not-drill.false c.if-drill.false c.if-drill-eq0.true in
    rw e refl

pub returns-then-drill-eq0-clause-rest : goal.returns-then-drill-eq0-clause-rest
returns-then-drill-eq0-clause-rest c =
    let d = c.drill.inside in
    let e = sym c.drill.view_is ∙ ended d.begun d.due d.left d.line d.state c.if-not-drill.false c.if-drill.false c.if-drill-eq0.true in
    rw e refl

pub returns-clause-event : goal.returns-clause-event
returns-clause-event c =
    let d = c.drill.inside in
    let some : 0 < d.left = grind arith in
    let e = sym c.drill.view_is ∙ going d.begun d.due d.left d.line d.state c.if-not-drill.false c.if-drill.false some in
    rw (e, c.in_ok-turn.ensures) refl

pub returns-clause-rest : goal.returns-clause-rest
returns-clause-rest c =
    let d = c.drill.inside in
    let some : 0 < d.left = grind arith in
    let e = sym c.drill.view_is ∙ going d.begun d.due d.left d.line d.state c.if-not-drill.false c.if-drill.false some in
    rw (e, c.if-not-drill.false, c.is_due-drill-inside.ensures, c.in_ok-turn.ensures) refl
