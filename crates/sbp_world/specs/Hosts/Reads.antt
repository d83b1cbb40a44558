-- What the memory of an initiator gives and refuses, by the run terms, in every run (NCITS 325-1998, ORBs and page tables in an initiator's memory;
-- IEEE 1394-1995, response codes). A slot is armed exactly where the run terms have an ORB in it or let it rest. The slot that an ORB was
-- prepared in last has its 32 bytes: the next pointer with the quadlets that were written, the node ID that its initiator had at the append,
-- and format 3 exactly where it is a dummy; and its page table. The ROM is that of the node. A read or a write has the rcode of the run
-- terms; and a read that is complete gives the bytes that they say.
use Rattle.std.specs.Prelude.{◌≡◌, ◌<◌, ℕ, suc, true, false, List, ◌∷◌, ◌++◌, length, map, take, Option, Some}
use Rattle.bus_memory.specs.Access.{read_step, write_step}
use Rattle.bus_memory.specs.Memory.{Memory, is_written}
use Rattle.bus_memory.specs.Memory as memories
use Rattle.bus_memory.specs.declared.window.Window.{Window}
use Rattle.bus_memory.specs.declared.window.Window.TheVariants as windows
use Rattle.bus_memory.specs.Windows.{start, window_at}
use Rattle.rbc_disk.specs.Runs.{Told}
use Rattle.sbp_journal.specs.Addresses.{Access}
use Rattle.sbp_journal.specs.Rows.{window_rcode}
use Rattle.sbp_journal.specs.Run.{Moment, asked, said}
use Rattle.sbp_initiator.specs.declared.state.InitiatorState.{InitiatorState}
use Rattle.sbp_laws.specs.JudgementLaw.{rom_size}
use Rattle.sbp_laws.specs.Lists.{Orb, prepared_in}
use Rattle.sbp_laws.specs.Served.{direction_of, orb_in_slot, rom_bytes, slot_is_open, table_in_slot, window_facts, window_gives}
use Rattle.sbp_world.specs.Histories.{history_of}
use Rattle.sbp_world.specs.Runs.{Run, after, beginning}
use Rattle.sbp_world.specs.Settling.{MayAll, after_all}
use Rattle.sbp_world.specs.Worlds.{begun, initiator_at}
use Rattle.sbp_world.specs.Hosts.Refusing.{initiator_of}
use Rattle.sbp_world.specs.Hosts.Runs.{IsRun, more_deliveries}

-- the bytes of a slot that an ORB was prepared in
pub record IsHeld (past : List Moment) (i : ℕ) (memory : Memory) (slot : ℕ) : Type 0 where
  pub orb : (memories.slot_at memory slot).orb ≡ orb_in_slot past i slot (prepared_in past i slot)
  pub table : take (length (table_in_slot past i slot (prepared_in past i slot))) (memories.slot_at memory slot).table ≡ table_in_slot past i slot (prepared_in past i slot)
  pub direction : is_written (memories.slot_at memory slot) ≡ direction_of past i (prepared_in past i slot)

-- The windows whose bytes are said here: the ROM, ORBs, page tables, buffers, and responses, of which no read is complete.
abbrev pub IsSaid : List Moment → ℕ → Access → Option Window → Type 0
IsSaid past i access (Some windows.Rom) = Unit {0}
IsSaid past i access (Some (windows.Orb slot)) = Unit {0}
IsSaid past i access (Some (windows.Table slot)) = Unit {0}
IsSaid past i access (Some (windows.Buffer slot)) = Unit {0}
IsSaid past i access (Some (windows.Response place)) = Unit {0}
IsSaid past i access _ = ⊥

-- a read, and a write, of so many bytes
pub record IsReadOf (access : Access) (out : List ℕ) : Type 0 where
  pub lock : access.is_lock ≡ false
  pub write : access.is_write ≡ false
  pub size : length out ≡ access.count

pub record IsWriteOf (access : Access) (bytes : List ℕ) : Type 0 where
  pub lock : access.is_lock ≡ false
  pub write : access.is_write ≡ true
  pub size : length bytes ≡ access.count

pub record IsReadBy (past : List Moment) (i : ℕ) (s : InitiatorState) : Type 0 where
  pub armed : (k : ℕ) → k < 32 → slot_is_open past i k ≡ (memories.slot_at s.lists.memory k).is_armed
  pub prepared : (k : ℕ) → k < 32 → slot_is_open past i k ≡ true → (one : Orb) × (prepared_in past i k ≡ Some one)
  pub held : (k : ℕ) (one : Orb) → k < 32 → prepared_in past i k ≡ Some one → IsHeld past i s.lists.memory k
  pub rom : s.lists.memory.rom ≡ rom_bytes (suc i) 0
  pub read_rcode : (access : Access) (out : List ℕ) → IsReadOf access out → (read_step s.lists.memory access.offset out).0 ≡ window_rcode (window_facts past i (rom_size (suc i) 0) access)
  pub write_rcode : (access : Access) (bytes : List ℕ) → IsWriteOf access bytes → (write_step s.lists.memory access.offset bytes).0 ≡ window_rcode (window_facts past i (rom_size (suc i) 0) access)
  pub gives : (access : Access) (out : List ℕ) → IsReadOf access out → IsSaid past i access (window_at access.offset) → (read_step s.lists.memory access.offset out).0 ≡ 0 → (read_step s.lists.memory access.offset out).1 ≡ window_gives past i access (window_at access.offset)
  -- what is given to a read of the 32 bytes of an ORB is the ORB
  pub carries : (access : Access) (k : ℕ) (one : Orb) → k < 32 → prepared_in past i k ≡ Some one → access.offset ≡ start (windows.Orb k) → access.count ≡ 32 → window_gives past i access (window_at access.offset) ≡ orb_in_slot past i k (prepared_in past i k)

-- After each line of a run, and behind each delivery of a line that delivers one packet after the other.
pub record MemoryLaw : Type 0 where
  pub reads : (line : ℕ) (run : Run) → IsRun run → (i : ℕ) → i < run.initiators → IsReadBy (history_of line run) i (initiator_of run i)
  pub between : (line : ℕ) (run : Run) → IsRun run → (next : ℕ) (most : Option ℕ) (told : List (Option Told)) → MayAll told (begun (after (beginning run) run.entries)) → (i : ℕ) → i < run.initiators → (let w = (after_all told (begun (after (beginning run) run.entries))).world in IsReadBy (map said w.fresh ++ asked next (more_deliveries most) ∷ history_of line run) i (initiator_at w i))
