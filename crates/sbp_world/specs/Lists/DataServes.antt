-- Which writes of an answer were served (NCITS 325-1998, data buffers; IEEE 1394-1995, split transactions). Each write of the data of an ORB, but the latest one, was closed with rcode 0 and served
-- once; behind an end, but as failed, the latest one was, too. And until a write is judged its slot has the ORB. So it is of the writes in the generation that the initiator is in.
use Rattle.std.specs.Prelude.{◌≡◌, ◌<◌, ℕ, suc, List, ◌∷◌, ◌++◌, length, Some}
use Rattle.orb_layout.specs.declared.status.StatusKind.{StatusKind}
use Rattle.orb_layout.specs.declared.status.StatusKind.TheVariants as kinds
use Rattle.rbc_disk.specs.Disk.{Disk}
use Rattle.sbp_journal.specs.Run.{Moment, said}
use Rattle.sbp_journal.specs.Transactions.{Sending}
use Rattle.sbp_journal.specs.Wire.{terms}
use Rattle.sbp_journal.specs.declared.note.Note.TheVariants as notes
use Rattle.sbp_laws.specs.Lists.{orb}
use Rattle.sbp_laws.specs.OnceLaw.{WasServed}
use Rattle.sbp_laws.specs.Packets.{answered_at}
use Rattle.sbp_laws.specs.Terms.{ended_status, ends}
use Rattle.sbp_world.specs.Worlds.{WorldState}
use Rattle.sbp_world.specs.Lists.Closes.{UnderFrom, WhereTameOrFew}
use Rattle.sbp_world.specs.Lists.DataWrites.{IsDataWrite, WasPiece}
use Rattle.sbp_world.specs.Lists.Needs.{IsCalm}
use Rattle.sbp_world.specs.Lists.SlotsStay.{HasSlot}
use Rattle.sbp_world.specs.Lists.Statuses.{IsToHost}

-- The packet with a serial wrote data of an ORB to a slot: as its turn began, the ORB was the first one of its list that had not ended.
pub record IsDataOf (start : List Disk) (past : List Moment) (i n k serial : ℕ) (packet : Sending) (slot : ℕ) : Type 0 where
  pub sent : IsToHost past i serial packet
  pub writes : IsDataWrite packet.bytes slot
  pub later : List Moment
  pub before : List Moment
  pub is : later ++ said (notes.Sent serial packet.generation packet.from packet.to packet.bytes) ∷ before ≡ past
  pub was : WasPiece start before i packet.generation slot writes.access
  pub list_is : was.list ≡ n
  pub number_is : ends was.before i was.list ≡ k

-- Its transaction was closed; and by then it had been judged as new and served, once.
pub record WasClosed (past : List Moment) (serial : ℕ) : Type 0 where
  pub later : List Moment
  pub before : List Moment
  pub got : ℕ
  pub is : later ++ said (notes.Got got) ∷ before ≡ past
  pub closed : answered_at (terms before) got ≡ Some serial
  pub served : WasServed (terms before) serial

-- the writes of data to initiator i
pub record AreServed (start : List Disk) (past : List Moment) (i : ℕ) : Type 0 where
  -- one before another of the same ORB
  pub earlier : (n k serial next slot other : ℕ) (packet following : Sending) → IsDataOf start past i n k serial packet slot → IsDataOf start past i n k next following other → serial < next → following.generation ≡ (terms past).generation (suc i) → WasClosed past serial
  -- each of an ORB that ended
  pub ended : (n k serial slot : ℕ) (packet : Sending) (status : StatusKind) → IsDataOf start past i n k serial packet slot → ended_status past i n k ≡ Some status → (status ≡ kinds.Failed → ⊥) → packet.generation ≡ (terms past).generation (suc i) → WasClosed past serial
  -- one that was not judged
  pub held : (n k serial slot : ℕ) (packet : Sending) → IsDataOf start past i n k serial packet slot → packet.generation ≡ (terms past).generation (suc i) → (terms past).news serial ≡ 0 → HasSlot past i slot (orb n k)

abbrev pub AllServed : List Disk → List Moment → WorldState → Type 0
AllServed start past w = (i : ℕ) → i < length w.initiators → IsCalm past i → AreServed start past i

abbrev pub DataServedLaw : Type 0
DataServedLaw = UnderFrom (λ start. WhereTameOrFew (AllServed start))
