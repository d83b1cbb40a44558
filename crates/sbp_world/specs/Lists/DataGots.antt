-- What an initiator gets of answers (NCITS 325-1998, data buffers): a write into the data buffer of a slot is of the data of the ORB that the slot has, in its sequence; it is the latest write of these data, and each one
-- before it was served. And one that was served was got.
use Rattle.std.specs.Prelude.{◌≡◌, ◌<◌, ◌≤◌, ℕ, suc, List, ◌∷◌, ◌++◌, length, Some}
use Rattle.rbc_disk.specs.Disk.{Disk}
use Rattle.sbp_journal.specs.declared.note.Note.TheVariants as notes
use Rattle.sbp_journal.specs.Run.{Moment, said}
use Rattle.sbp_journal.specs.Transactions.{Sending}
use Rattle.sbp_journal.specs.Wire.{terms}
use Rattle.sbp_laws.specs.Lists.{orb}
use Rattle.sbp_laws.specs.Turns.{EachMoment}
use Rattle.sbp_world.specs.Worlds.{WorldState}
use Rattle.sbp_world.specs.Lists.Closes.{Under, UnderFrom, WhereTameOrFew}
use Rattle.sbp_world.specs.Lists.DataSequences.{IsReached}
use Rattle.sbp_world.specs.Lists.DataServes.{IsDataOf, WasClosed}
use Rattle.sbp_world.specs.Lists.DataWrites.{IsDataWrite}
use Rattle.sbp_world.specs.Lists.Needs.{IsCalm}
use Rattle.sbp_world.specs.Lists.SlotsStay.{HasSlot}
use Rattle.sbp_world.specs.Lists.Statuses.{IsToHost}

pub record IsLatestData (start : List Disk) (past : List Moment) (i serial slot : ℕ) (packet : Sending) : Type 0 where
  pub list : ℕ
  pub number : ℕ
  pub of : IsDataOf start past i list number serial packet slot
  pub has : HasSlot past i slot (orb list number)
  pub reached : IsReached start past i list number serial of.was.machine.written
  pub latest : (other place : ℕ) (one : Sending) → IsDataOf start past i list number other one place → other ≤ serial
  pub earlier : (other place : ℕ) (one : Sending) → IsDataOf start past i list number other one place → other < serial → WasClosed past other

abbrev pub GotSo : List Disk → ℕ → Moment → List Moment → Type 0
GotSo start i (said (notes.Got serial)) past = (packet : Sending) → (terms past).sent serial ≡ Some packet → packet.to ≡ suc i → (slot : ℕ) → IsDataWrite packet.bytes slot → IsLatestData start past i serial slot packet
GotSo start i moment past = Unit {0}

abbrev pub AllGotSo : List Disk → List Moment → WorldState → Type 0
AllGotSo start past w = (i : ℕ) → i < length w.initiators → IsCalm past i → EachMoment (GotSo start i) past

abbrev pub DataGotsLaw : Type 0
DataGotsLaw = UnderFrom (λ start. WhereTameOrFew (AllGotSo start))

-- ---- what was served was got
pub record WasGot (past : List Moment) (serial : ℕ) : Type 0 where
  pub later : List Moment
  pub before : List Moment
  pub is : later ++ said (notes.Got serial) ∷ before ≡ past

abbrev pub AllServedGot : List Moment → WorldState → Type 0
AllServedGot past w = (i : ℕ) → i < length w.initiators → IsCalm past i → (serial slot : ℕ) (packet : Sending) → IsToHost past i serial packet → IsDataWrite packet.bytes slot → 0 < (terms past).served serial → WasGot past serial

abbrev pub ServedGotLaw : Type 0
ServedGotLaw = Under (WhereTameOrFew AllServedGot)
