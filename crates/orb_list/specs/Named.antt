-- Whose status is taken.
use Rattle.std.specs.Prelude.{◌≡◌, true, List, ℕ, Ok}
use Rattle.bus_memory.specs.declared.window.Window.TheVariants as windows
use Rattle.bus_memory.specs.Windows.{start}
use Rattle.orb_layout.specs.declared.status.StatusBlock.{StatusBlock}
use Rattle.orb_list.specs.Tickets.{TicketParts}
use Rattle.orb_list.specs.Table.{status_step}
use Rattle.orb_list.specs.Runs.{Call, run, waits}

-- Over every list of calls: the status that is taken is that of the ORB at the address that the block names, and this ORB
-- waits, so no status is taken twice; and a block that names an ORB that waits is taken.
pub record NamedLaw : Type 0 where
  pub named : (calls : List Call) (quads : List ℕ) (block : StatusBlock) (t : TicketParts) → (status_step (run calls quads).table (run calls quads).memory block).0 ≡ Ok t → (waits (run calls quads).notes t ≡ true) × (block.orb ≡ start (windows.Orb t.slot))
  pub taken : (calls : List Call) (quads : List ℕ) (block : StatusBlock) (t : TicketParts) → waits (run calls quads).notes t ≡ true → block.orb ≡ start (windows.Orb t.slot) → (status_step (run calls quads).table (run calls quads).memory block).0 ≡ Ok t
