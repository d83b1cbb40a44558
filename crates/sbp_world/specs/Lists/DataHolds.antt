-- How long the slot of an ORB is its own while a write of its answer may come (NCITS 325-1998, data buffers; IEEE 1394-1995, bus reset). A write of the target into a data buffer of an initiator is of a
-- generation that this has seen; and where it is of the present one, it is of an ORB that ran, and until the status of that ORB is taken the slot has it: no other ORB was prepared there.
use Rattle.std.specs.Prelude.{◌≡◌, ◌<◌, ◌≤◌, ℕ, suc, List, length, None}
use Rattle.sbp_journal.specs.Run.{Moment}
use Rattle.sbp_journal.specs.Transactions.{Sending}
use Rattle.sbp_journal.specs.Wire.{terms}
use Rattle.sbp_laws.specs.Lists.{orb, taken_at}
use Rattle.sbp_laws.specs.Terms.{runs}
use Rattle.sbp_world.specs.Worlds.{WorldState}
use Rattle.sbp_world.specs.Lists.Closes.{Under, WhereTameOrFew}
use Rattle.sbp_world.specs.Lists.DataWrites.{IsDataWrite}
use Rattle.sbp_world.specs.Lists.Needs.{IsCalm}
use Rattle.sbp_world.specs.Lists.SlotsStay.{HasSlot}
use Rattle.sbp_world.specs.Lists.Statuses.{IsToHost}

pub record IsOfOrb (past : List Moment) (i slot : ℕ) : Type 0 where
  pub list : ℕ
  pub number : ℕ
  pub ran : 0 < runs past i list number
  pub held : taken_at past i list number ≡ None → HasSlot past i slot (orb list number)

-- each write of data that the target sent to initiator i
pub record AreDataHeld (past : List Moment) (i : ℕ) : Type 0 where
  pub seen : (serial slot : ℕ) (packet : Sending) → IsToHost past i serial packet → IsDataWrite packet.bytes slot → packet.generation ≤ (terms past).generation (suc i)
  pub held : (serial slot : ℕ) (packet : Sending) → IsToHost past i serial packet → IsDataWrite packet.bytes slot → packet.generation ≡ (terms past).generation (suc i) → IsOfOrb past i slot

abbrev pub AllDataHeld : List Moment → WorldState → Type 0
AllDataHeld past w = (i : ℕ) → i < length w.initiators → IsCalm past i → AreDataHeld past i

abbrev pub DataHeldLaw : Type 0
DataHeldLaw = Under (WhereTameOrFew AllDataHeld)
