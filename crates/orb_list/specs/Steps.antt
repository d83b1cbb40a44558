-- What every step keeps, by the equations alone.
use Rattle.std.specs.Prelude.{ℕ, List}
use Rattle.bus_memory.specs.Memory.{Memory, new_memory}
use Rattle.orb_list.specs.Table.{SlotTable, new_table}
use Rattle.orb_list.specs.Holds.{IsSound, HoldsSlots}
use Rattle.orb_list.specs.Runs.{Call, left_by, run}
use Rattle.orb_list.specs.Kept.{IsProper, AreProper}

-- New slots are sound and a new memory holds them; and each call, of the slots or of the memory, leaves sound slots and a
-- memory that holds them. So does every list of calls.
pub record HeldLaw : Type 0 where
  pub new_sound : IsSound new_table
  pub new_held : (quads : List ℕ) → HoldsSlots new_table.slots (new_memory quads)
  pub sound : (call : Call) (s : SlotTable) (m : Memory) → IsSound s → IsSound (left_by call s m).0
  pub held : (call : Call) (s : SlotTable) (m : Memory) → IsSound s → IsProper call → HoldsSlots s.slots m → HoldsSlots (left_by call s m).0.slots (left_by call s m).1
  pub run_sound : (calls : List Call) (quads : List ℕ) → IsSound (run calls quads).table
  pub run_held : (calls : List Call) (quads : List ℕ) → AreProper calls → HoldsSlots (run calls quads).table.slots (run calls quads).memory
