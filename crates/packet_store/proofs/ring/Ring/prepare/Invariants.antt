use Rattle.std.specs.Prelude.{◌≡◌, ℕ, ◌-◌, length}
use Rattle.packet_store.specs.Rings.{finds, IsRing}
use Rattle.packet_store.proofs.ring.Ring.prepare.Given as goal

abbrev pub invariant-loop-self : goal.invariant-loop-self
invariant-loop-self l = record {
  same : (q : ℕ) → finds l.self q ≡ finds l.fn.self q;
  ring : IsRing l.self;
}

abbrev pub decreases-loop-self : goal.decreases-loop-self
decreases-loop-self l = 2048 - length l.self.slots.items
