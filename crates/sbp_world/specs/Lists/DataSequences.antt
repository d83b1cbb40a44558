-- In what order the data of an answer are written (NCITS 325-1998, data buffers and page tables): the first write of an ORB's data begins with the first byte of the answer, and each later one behind the bytes of the
-- one before it, which was served, and wrote a whole chunk of the buffer. Behind an end, but as failed, the last one ended with the buffer. So it is of the writes in the generation that the initiator is in.
use Rattle.std.specs.Prelude.{◌≡◌, ◌<◌, ◌≤◌, ◌+◌, ◌^◌, ℕ, suc, List, length, Some}
use Rattle.orb_layout.specs.declared.status.StatusKind.{StatusKind}
use Rattle.orb_layout.specs.declared.status.StatusKind.TheVariants as kinds
use Rattle.page_table.specs.Buffer.{bytes_of, chunk, chunk_from}
use Rattle.rbc_disk.specs.Disk.{Disk}
use Rattle.sbp_journal.specs.declared.event.Cmd.{Cmd}
use Rattle.sbp_journal.specs.Run.{Moment}
use Rattle.sbp_journal.specs.Transactions.{Sending}
use Rattle.sbp_journal.specs.Wire.{terms}
use Rattle.sbp_laws.specs.CarriedBytes.{laid_out}
use Rattle.sbp_laws.specs.Lists.{command_at, slot_at}
use Rattle.sbp_laws.specs.Terms.{ended_status}
use Rattle.sbp_world.specs.Worlds.{WorldState}
use Rattle.sbp_world.specs.Lists.Closes.{UnderFrom, WhereTameOrFew}
use Rattle.sbp_world.specs.Lists.DataServes.{IsDataOf, WasClosed}
use Rattle.sbp_world.specs.Lists.Needs.{IsCalm}

-- Of the writes of an ORB's data before the packet with a serial, the latest one: it was served, wrote a whole chunk of the buffer, and ended behind so many bytes of the answer.
pub record IsWrittenTo (start : List Disk) (past : List Moment) (i n k next done : ℕ) : Type 0 where
  pub serial : ℕ
  pub slot : ℕ
  pub packet : Sending
  pub of : IsDataOf start past i n k serial packet slot
  pub less : serial < next
  pub latest : (other place : ℕ) (sent : Sending) → IsDataOf start past i n k other sent place → other < next → other ≤ serial
  pub closed : WasClosed past serial
  pub some : 0 < length of.writes.access.payload
  pub whole : (cmd : Cmd) → command_at past i n k ≡ Some cmd → chunk_from (laid_out (slot_at past i n k) cmd cmd.segments) of.was.machine.written (2 ^ (cmd.max_payload + 2)) ≡ Some (chunk of.writes.access.offset (length of.writes.access.payload))
  pub done_is : done ≡ of.was.machine.written + length of.writes.access.payload

-- So many bytes of the answer were written before the packet with a serial.
pub data IsReached (start : List Disk) (past : List Moment) (i n k next done : ℕ) : Type 0 where
  begins : ((other place : ℕ) (sent : Sending) → IsDataOf start past i n k other sent place → other < next → ⊥) → done ≡ 0 → IsReached start past i n k next done
  goes_on : IsWrittenTo start past i n k next done → IsReached start past i n k next done

-- the writes of data to initiator i
pub record AreInSequence (start : List Disk) (past : List Moment) (i : ℕ) : Type 0 where
  pub each : (n k serial slot : ℕ) (packet : Sending) (d : IsDataOf start past i n k serial packet slot) → packet.generation ≡ (terms past).generation (suc i) → IsReached start past i n k serial d.was.machine.written
  pub ended : (n k serial slot : ℕ) (packet : Sending) (status : StatusKind) → IsDataOf start past i n k serial packet slot → ended_status past i n k ≡ Some status → (status ≡ kinds.Failed → ⊥) → packet.generation ≡ (terms past).generation (suc i) → (cmd : Cmd) → command_at past i n k ≡ Some cmd → IsWrittenTo start past i n k ((terms past).count + 1) (bytes_of (laid_out (slot_at past i n k) cmd cmd.segments))

abbrev pub AllInSequence : List Disk → List Moment → WorldState → Type 0
AllInSequence start past w = (i : ℕ) → i < length w.initiators → IsCalm past i → AreInSequence start past i

abbrev pub DataSequenceLaw : Type 0
DataSequenceLaw = UnderFrom (λ start. WhereTameOrFew (AllInSequence start))
