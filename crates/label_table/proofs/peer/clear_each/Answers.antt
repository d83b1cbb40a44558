use Rattle.std.proofs.Common.{arith}
use Rattle.std.proofs.lemmas.Grind.{common_steps}
use Rattle.std.proofs.lemmas.List.Edits.{map_over_more}
use Rattle.label_table.specs.Peers.{clear_place}
use Rattle.label_table.proofs.peer.clear_each.Goals as goal

pub loop-place-preserved : goal.loop-place-preserved
loop-place-preserved g c = grind (arith, common_steps, map_over_more (clear_place {P = g.row.P.Denot} c.args.generation))
