use Rattle.std.proofs.Common.{◌-◌, ◌≡◌, ℕ, ◌<◌, ◌≤◌, false}
use Rattle.packet_store.specs.Kept.{in_air}
use Rattle.packet_store.specs.Packets.{holds}
use Rattle.packet_store.proofs.packets.Packets.next_flying.Given as goal

abbrev pub invariant-loop-at : goal.invariant-loop-at
invariant-loop-at l = (q : ℕ) → l.serial < q → q ≤ l.at → in_air (holds l.self q) ≡ false

abbrev pub decreases-loop-at : goal.decreases-loop-at
decreases-loop-at l = l.last - l.at
