-- A list of an initiator by the run terms, as an agent of the target is led along it (NCITS 325-1998, linked lists of ORBs, command block ORB and page
-- tables): the address of an ORB is that of its slot, and no next pointer names one that is not linked. What may be read of it is the ORB of its
-- command, but for the next pointer, and for the format where it was made a dummy; its buffer is the one that is laid out for its command; and its data
-- are the first bytes of those of its append, and none where its buffer goes to the initiator.
use Rattle.std.specs.Prelude.{◌≡◌, ◌⊎◌, ◌<◌, ℕ, false, List, ◌∷◌, ◌++◌, length, map, take, Option, Some, None}
use Rattle.orb_layout.specs.declared.command.CommandOrb.{CommandOrb}
use Rattle.page_table.specs.declared.segment.Segment.{Segment}
use Rattle.rbc_disk.specs.Runs.{Told}
use Rattle.bus_memory.specs.declared.window.Window.TheVariants as windows
use Rattle.bus_memory.specs.Windows.{start}
use Rattle.agent_laws.specs.Along.Lists.{Grows, IsLaid, OrbList}
use Rattle.sbp_journal.specs.Run.{Moment, asked, said}
use Rattle.sbp_journal.specs.declared.event.Cmd.{Cmd}
use Rattle.sbp_laws.specs.CarriedBytes.{laid_out}
use Rattle.sbp_laws.specs.Lists.{command_at, linked, slot_at}
use Rattle.sbp_world.specs.Histories.{history_of}
use Rattle.sbp_world.specs.Runs.{Run, after, beginning}
use Rattle.sbp_world.specs.Settling.{MayAll, after_all}
use Rattle.sbp_world.specs.Worlds.{begun}
use Rattle.sbp_world.specs.Hosts.Orbs.{orb_for}
use Rattle.sbp_world.specs.Hosts.Runs.{IsRun, more_deliveries}

-- what is read is the ORB of a command in a slot
pub record IsOrbOf (found : Option Cmd) (slot : ℕ) (read : CommandOrb) : Type 0 where
  pub cmd : Cmd
  pub command : found ≡ Some cmd
  pub node : ℕ
  pub orb : read ≡ orb_for cmd node slot read.next read.format
  pub format : (read.format ≡ 0) ⊎ (read.format ≡ 3)

-- a buffer is that of a command in a slot
abbrev pub IsBufferOf : Option Cmd → (slot : ℕ) → List Segment → Type 0
IsBufferOf None slot segments = ⊥
IsBufferOf (Some cmd) slot segments = segments ≡ laid_out slot cmd cmd.segments

-- bytes are the first ones of a command's data, where there are any of one whose buffer goes to the target
pub record IsDataIn (cmd : Cmd) (bytes : List ℕ) : Type 0 where
  pub first : bytes ≡ take (length bytes) cmd.payload
  pub outward : 0 < length bytes → cmd.to_initiator ≡ false

abbrev pub IsDataOf : Option Cmd → List ℕ → Type 0
IsDataOf None bytes = ⊥
IsDataOf (Some cmd) bytes = IsDataIn cmd bytes

-- a list of which so many ORBs are linked, by the slots and the commands of its ORBs
abbrev pub orbs_by : (linked : ℕ) → (slot : ℕ → ℕ) → (command : ℕ → Option Cmd) → OrbList
orbs_by linked slot command = record {
  address = λ k. start (windows.Orb (slot k));
  linked = linked;
  is_orb = λ k orb. IsOrbOf (command k) (slot k) orb;
  is_buffer = λ k orb segments. IsBufferOf (command k) (slot k) segments;
  is_data = λ k orb segments bytes. IsDataOf (command k) bytes;
}

-- list n of initiator i
abbrev pub orbs : List Moment → (i n : ℕ) → OrbList
orbs past i n = orbs_by (linked past i n) (slot_at past i n) (command_at past i n)

-- Every list is laid out as an agent asks for it; and from each moment of a run on, to the end of its lines and to the end of each delivery of a line
-- that delivers one packet after the other, a list grows: more of its ORBs are linked, and those that were linked stay as they are.
pub record GrowingLaw : Type 0 where
  pub laid : (past : List Moment) (i n : ℕ) → IsLaid (orbs past i n)
  pub grows : (line : ℕ) (run : Run) → IsRun run → (i : ℕ) → i < run.initiators → (later before : List Moment) → later ++ before ≡ history_of line run → (n : ℕ) → Grows (orbs before i n) (orbs (history_of line run) i n)
  pub between : (line : ℕ) (run : Run) → IsRun run → (next : ℕ) (most : Option ℕ) (told : List (Option Told)) → MayAll told (begun (after (beginning run) run.entries)) → (i : ℕ) → i < run.initiators → (later before : List Moment) → (let w = (after_all told (begun (after (beginning run) run.entries))).world in later ++ before ≡ map said w.fresh ++ asked next (more_deliveries most) ∷ history_of line run → (n : ℕ) → Grows (orbs before i n) (orbs (map said w.fresh ++ asked next (more_deliveries most) ∷ history_of line run) i n))
