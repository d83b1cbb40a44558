use Rattle.std.proofs.Common.{◌≡◌, ◌∙◌, sym, Some}
use Rattle.packet_store.specs.Rings.{finds, slot}
use Rattle.packet_store.proofs.Rings.{read, spilled}
use Rattle.packet_store.proofs.ring.Ring.spill.Goals as goal

pub returns-in_ok-insert-clause-same : goal.returns-in_ok-insert-clause-same
unfolding finds
returns-in_ok-insert-clause-same c = λ q.
    let s = c.args.self.now in
    let at = c.args.at in
    let here : slot s.slots.items at ≡ Some c.in-Some.place =
    sym (read s.slots.items at c.index.result.now c.requires.at c.index.ensures) ∙ c.in-Some.is in
    spilled s.slots.items s.older.entries c.insert.new.self.entries at q c.in-Some.place c.requires.ring.placed here (record { updates = λ p. c.in_ok-insert.ensures.updates.0 p })
