-- A run with one line more.
use Rattle.std.proofs.Common.{◌≡◌, subst, List, [], ◌∷◌, length}
use Rattle.sbp_world.specs.Runs.{Entry, Run, after, beginning, with_entry}
use Rattle.sbp_world.specs.Worlds.{Scene}
use Rattle.sbp_world.specs.Wire.Lines.{AreLines, IsLine}

lines_with : (run : Run) (e : Entry) (entries : List Entry) → AreLines run entries → AreLines (with_entry run e) entries
lines_with run e [] h = tt
lines_with run e (f ∷ before) h = (h.0, lines_with run e before h.1)

-- one line more
pub more_lines : (run : Run) (e : Entry) (s : Scene) → s ≡ after (beginning run) run.entries → IsLine e.event (length s.world.initiators) → AreLines run run.entries → AreLines (with_entry run e) (e ∷ run.entries)
more_lines run e s same line h = (subst (λ x. IsLine e.event (length x.world.initiators)) same line, lines_with run e run.entries h)
