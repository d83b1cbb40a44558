use Rattle.std.specs.Prelude.{◌≡◌, ◌++◌, map, take, drop}
use Rattle.label_table.specs.Peers.{clear_place}
use Rattle.label_table.proofs.peer.clear_each.Given as goal

abbrev pub invariant-loop-place : goal.invariant-loop-place
invariant-loop-place g l =
    l.peers ≡ map (clear_place l.fn.generation) (take l.place l.fn.peers) ++ drop l.place l.fn.peers
