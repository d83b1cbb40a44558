-- How the target judged a write of MANAGEMENT_AGENT that it took as new (NCITS 325-1998, management agent): it got the write, for no login is asked for there; where no operation was under way it started one, and else it
-- refused the write. So an operation that is left at rest, whose write was answered complete, was neither refused nor ignored.
use Rattle.std.specs.Prelude.{◌≡◌, ◌⊎◌, ◌<◌, ◌++◌, ℕ, true, false, List, ◌∷◌, length, Some, None}
use Rattle.rbc_disk.specs.Disk.{Disk}
use Rattle.sbp_journal.specs.Addresses.{Access, management_agent, start_at, start_serves}
use Rattle.sbp_journal.specs.Run.{Moment, said}
use Rattle.sbp_journal.specs.Transactions.{Sending}
use Rattle.sbp_journal.specs.Wire.{terms}
use Rattle.sbp_journal.specs.declared.note.Note.TheVariants as notes
use Rattle.sbp_laws.specs.Budget.{Lossless}
use Rattle.sbp_laws.specs.Completion.{in_the_air}
use Rattle.sbp_laws.specs.Hosts.{Underway, host_at}
use Rattle.sbp_laws.specs.Packets.{access_in_bytes}
use Rattle.sbp_laws.specs.Targets.{target_at}
use Rattle.sbp_world.specs.Completing.Ends.{WasRefused}
use Rattle.sbp_world.specs.Completing.EndsTaken.{WasBusy, WasIgnored}
use Rattle.sbp_world.specs.Completing.Labels.{AlwaysFrom}
use Rattle.sbp_world.specs.Lists.OwnLogins.{IsTame}
use Rattle.sbp_world.specs.Worlds.{WorldState}

-- a write that MANAGEMENT_AGENT serves, which was not injected
pub record IsManagementWrite (past : List Moment) (write : ℕ) : Type 0 where
  pub packet : Sending
  pub sent : (terms past).sent write ≡ Some packet
  pub to_is : packet.to ≡ 0
  pub honest : packet.injected ≡ false
  pub access : Access
  pub spelled : access_in_bytes packet.bytes ≡ Some access
  pub at : start_at access.offset ≡ management_agent
  pub serves : start_serves (start_at access.offset) access ≡ true

-- the target got it as it took it as new: no operation was under way, or it refused the write
pub record WasGotNew (start : List Disk) (past : List Moment) (write : ℕ) : Type 0 where
  pub later : List Moment
  pub before : List Moment
  pub is : later ++ said (notes.Got write) ∷ before ≡ past
  pub new : (terms before).news write ≡ 0
  pub outcome : ((target_at start before).manager.operation ≡ None) ⊎ WasRefused past write

abbrev pub AreGotNew : List Disk → List Moment → WorldState → Type 0
AreGotNew start past w = (write : ℕ) → IsManagementWrite past write → 0 < (terms past).news write → WasGotNew start past write

abbrev pub GotNewLaw : Type 0
GotNewLaw = AlwaysFrom (λ start past w. IsTame past → AreGotNew start past w)

-- ---- at rest
-- the write of an operation that is left found no other one under way, and was not ignored
pub record WasAccepted (start : List Disk) (past : List Moment) (write : ℕ) : Type 0 where
  pub idle : WasBusy start past write → ⊥
  pub heard : WasIgnored past write → ⊥

abbrev pub AreAccepted : List Disk → List Moment → WorldState → Type 0
AreAccepted start past w =
    IsTame past → Lossless past → in_the_air past ≡ 0 → (i : ℕ) → i < length w.initiators → (underway : Underway) → (host_at past i).operation ≡ Some underway → WasAccepted start past underway.first

abbrev pub AcceptedAtRestLaw : Type 0
AcceptedAtRestLaw = AlwaysFrom AreAccepted
