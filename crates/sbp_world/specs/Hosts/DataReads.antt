-- What the target reads of the data that an ORB brings to it, in every run (NCITS 325-1998, data buffers and page tables): bytes that follow each other
-- in the buffer, in the order of its segments, are the bytes of the command's data in their order. So is each chunk of the buffer, which ends with its
-- segment.
use Rattle.std.specs.Prelude.{◌≡◌, ◌<◌, ℕ, false, List, ◌∷◌, ◌++◌, length, map, take, drop, Option, Some}
use Rattle.bus_memory.specs.Access.{read_step}
use Rattle.bus_memory.specs.Memory.{Memory}
use Rattle.page_table.specs.Buffer.{addresses, buffer_addresses, chunk_from}
use Rattle.page_table.specs.declared.segment.Chunk.{Chunk}
use Rattle.rbc_disk.specs.Runs.{Told}
use Rattle.sbp_journal.specs.Run.{Moment, asked, said}
use Rattle.sbp_journal.specs.declared.event.Cmd.{Cmd}
use Rattle.sbp_laws.specs.CarriedBytes.{laid_out}
use Rattle.sbp_laws.specs.Lists.{Orb, command_at, prepared_in}
use Rattle.sbp_world.specs.Histories.{history_of}
use Rattle.sbp_world.specs.Runs.{Run, after, beginning}
use Rattle.sbp_world.specs.Settling.{MayAll, after_all}
use Rattle.sbp_world.specs.Worlds.{begun, initiator_at}
use Rattle.sbp_world.specs.Hosts.Refusing.{initiator_of}
use Rattle.sbp_world.specs.Hosts.Runs.{IsRun, more_deliveries}

-- the reads that a memory serves of the data of a command in a slot
pub record SendsData (memory : Memory) (slot : ℕ) (cmd : Cmd) : Type 0 where
  pub gives : (at offset : ℕ) (out : List ℕ) → addresses offset (length out) ≡ take (length out) (drop at (buffer_addresses (laid_out slot cmd cmd.segments))) → (read_step memory offset out).0 ≡ 0 → (read_step memory offset out).1 ≡ take (length out) (drop at cmd.payload)
  pub chunk : (at limit : ℕ) (piece : Chunk) (out : List ℕ) → chunk_from (laid_out slot cmd cmd.segments) at limit ≡ Some piece → length out ≡ piece.length → (read_step memory piece.offset out).0 ≡ 0 → (read_step memory piece.offset out).1 ≡ take piece.length (drop at cmd.payload)

-- those of the ORB that was prepared last in each slot, where its data go to the target
abbrev pub AllSend : List Moment → ℕ → Memory → Type 0
AllSend past i memory =
    (slot : ℕ) (one : Orb) (cmd : Cmd) → slot < 32 → prepared_in past i slot ≡ Some one → command_at past i one.list one.number ≡ Some cmd → cmd.to_initiator ≡ false → SendsData memory slot cmd

-- After each line of a run, and behind each delivery of a line that delivers one packet after the other.
pub record DataLaw : Type 0 where
  pub sends : (line : ℕ) (run : Run) → IsRun run → (i : ℕ) → i < run.initiators → AllSend (history_of line run) i (initiator_of run i).lists.memory
  pub between : (line : ℕ) (run : Run) → IsRun run → (next : ℕ) (most : Option ℕ) (told : List (Option Told)) → MayAll told (begun (after (beginning run) run.entries)) → (i : ℕ) → i < run.initiators → (let w = (after_all told (begun (after (beginning run) run.entries))).world in AllSend (map said w.fresh ++ asked next (more_deliveries most) ∷ history_of line run) i (initiator_at w i).lists.memory)
