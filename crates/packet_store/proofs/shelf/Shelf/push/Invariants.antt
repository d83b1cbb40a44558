use Rattle.std.specs.Prelude.{◌≡◌, ◌≤◌, ◌++◌, ◌∷◌, [], length}
use Rattle.packet_store.specs.Bags.{begun_if}
use Rattle.packet_store.specs.Flights.{AreFlights}
use Rattle.packet_store.specs.Packets.{IsGoing, holds}
use Rattle.packet_store.specs.Shelves.{IsShelf, listed}
use Rattle.packet_store.specs.Stored.{by_bus_rule, newest}
use Rattle.packet_store.proofs.shelf.Shelf.push.Given as goal

abbrev pub invariant-loop-key : goal.invariant-loop-key
invariant-loop-key l = record {
  last : l.self-inside.last ≡ l.serial;
  going : IsGoing l.self-inside.packets (begun_if l.begins l.fn.transaction) l.going.items l.serial;
  shelf : IsShelf l.self-inside.packets l.serial l.self-inside.count;
  flights : AreFlights l.self-inside.packets l.serial l.self-inside.flights;
  spares : length l.self-inside.spares.items ≤ 16;
  left : by_bus_rule (begun_if l.begins l.fn.transaction) l.serial (listed (holds l.self-inside.packets) l.serial) ≡ by_bus_rule (begun_if l.begins l.fn.transaction) l.serial (l.fn.self ++ newest l.serial l.fn.sent ∷ []);
}

abbrev pub decreases-loop-key : goal.decreases-loop-key
decreases-loop-key l = length l.going.items
