use Rattle.std.specs.Prelude.{◌≡◌, replicate}
use Rattle.label_table.specs.Peers.{no_peer}
use Rattle.label_table.proofs.peer.new_peers.Given as goal

abbrev pub invariant-loop : goal.invariant-loop
invariant-loop g l = l.peers.items ≡ replicate l.counter no_peer
