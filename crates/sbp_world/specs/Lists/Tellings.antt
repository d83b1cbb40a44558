-- What the write of an initiator's management operation brought about, by the history, and which status blocks of the target wait for the initiator (NCITS 325-1998,
-- management agent).
use Rattle.std.specs.Prelude.{◌≡◌, ◌<◌, ℕ, zero, true, List, [], ◌∷◌, Some}
use Rattle.bus_memory.specs.declared.window.Window.TheVariants as windows
use Rattle.bus_memory.specs.Windows.{start as start_of}
use Rattle.rbc_disk.specs.Disk.{Disk}
use Rattle.sbp_base.specs.Update.{upd}
use Rattle.sbp_journal.specs.Run.{Moment, said}
use Rattle.sbp_journal.specs.Wire.{terms}
use Rattle.sbp_journal.specs.declared.note.Note.TheVariants as notes
use Rattle.sbp_laws.specs.Hosts.{Underway, host_at, is_management}
use Rattle.sbp_laws.specs.Targets.{target_at}
use Rattle.sbp_world.specs.Lists.Managing.{IsAccepted, IsRest, IsTelling}

-- the bytes that the target's management had to write as the target sent a packet
abbrev pub outgoing_for : List Disk → List Moment → (serial : ℕ) → List ℕ
outgoing_for start [] = λ serial. []
outgoing_for start (said (notes.Sent serial generation zero to bytes) ∷ past) = upd (outgoing_for start past) serial (target_at start past).manager.outgoing
outgoing_for start (_ ∷ past) = outgoing_for start past

-- the write of the management operation that an initiator has under way started an operation of the target
pub record IsTaken (start : List Disk) (past : List Moment) (i : ℕ) : Type 0 where
  pub underway : Underway
  pub is : (host_at past i).operation ≡ Some underway
  pub manages : is_management underway.operation ≡ true
  pub judged : 0 < (terms past).news underway.first
  pub accepted : IsAccepted start past underway.first

-- a status block with these bytes waits for it, of the operation with the ORB at this address
pub record IsTold (start : List Disk) (past : List Moment) (i orb : ℕ) (bytes : List ℕ) : Type 0 where
  pub serial : ℕ
  pub place : ℕ
  pub telling : IsTelling start past i serial place
  pub orb_is : orb ≡ start_of (windows.Management place)
  pub bytes_are : bytes ≡ outgoing_for start past serial

-- the target has or tells something of it that is not over
abbrev pub IsActive : List Disk → List Moment → ℕ → Type 0
IsActive start past i = IsRest start past i → ⊥
