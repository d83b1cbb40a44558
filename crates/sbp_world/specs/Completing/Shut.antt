-- The FIFO that the status block of the target's management operation goes to, in runs in which nobody injected packets (NCITS 325-1998, status_FIFO of management ORBs): it is that of the ORB which
-- the target read last, which is the FIFO of a login number or that of a place of management; and the latter is open always.
use Rattle.std.specs.Prelude.{◌≡◌, ◌<◌, ◌-◌, ℕ, suc, true, false, List, ◌∷◌, ◌++◌, length, Some}
use Rattle.mgmt_agent.specs.declared.operation.Operation.{Operation}
use Rattle.mgmt_agent.specs.declared.operation.Phase.TheVariants as phases
use Rattle.rbc_disk.specs.Disk.{Disk}
use Rattle.sbp_journal.specs.Addresses.{Access}
use Rattle.sbp_journal.specs.Run.{Moment, said}
use Rattle.sbp_journal.specs.Wire.{terms}
use Rattle.sbp_journal.specs.declared.cause.Cause.{Cause}
use Rattle.sbp_journal.specs.declared.note.Note.TheVariants as notes
use Rattle.sbp_journal.specs.declared.operation.Operation.TheVariants as operations
use Rattle.sbp_laws.specs.Hosts.{Host, Underway, host_at}
use Rattle.sbp_laws.specs.JudgementLaw.{is_out}
use Rattle.sbp_laws.specs.Packets.{access_at, id_for}
use Rattle.sbp_laws.specs.Targets.{login_fifo, target_at}
use Rattle.sbp_world.specs.Completing.Labels.{AlwaysFrom}
use Rattle.sbp_world.specs.Completing.Managed.{AreManagedGiven}
use Rattle.sbp_world.specs.Completing.ManagedRefusals.{IsShut, is_hard}
use Rattle.sbp_world.specs.Lists.CarriedOrbs.{last_read}
use Rattle.sbp_world.specs.Lists.OwnLogins.{IsItsFifo, IsLoginFifo, IsTame}
use Rattle.sbp_world.specs.Worlds.{WorldState}

-- ---- where the block goes
pub record IsToFifo (start : List Disk) (past : List Moment) (offset : ℕ) : Type 0 where
  pub its : offset ≡ (last_read start past).fifo
  pub fifo : IsItsFifo offset

abbrev pub AreToFifos : List Disk → List Moment → Type 0
AreToFifos start past = (op : Operation) (ask : ℕ) (access : Access) → (target_at start past).manager.operation ≡ Some op → op.phase ≡ phases.Status → (target_at start past).manages ≡ Some ask → access_at (terms past) ask ≡ Some access → IsToFifo start past access.offset

-- So it is in every run in which nobody injected packets.
abbrev pub ToFifosLaw : Type 0
ToFifosLaw = AlwaysFrom (λ start past w. IsTame past → AreToFifos start past)

-- ---- the response to it
-- the FIFO of a login number, to which the block goes, is open whenever the initiator ignores the block for a cause that is answered with an error
abbrev pub IsOpenWhenIgnored : List Moment → ℕ → ℕ → ℕ → Type 0
IsOpenWhenIgnored past i ask offset = (later earlier : List Moment) (cause : Cause) → later ++ said (notes.Ignored ask cause) ∷ earlier ≡ past → is_hard cause ≡ true → IsShut (host_at earlier i) offset → ⊥

abbrev pub AreLoginsOpen : List Disk → List Moment → WorldState → Type 0
AreLoginsOpen start past w =
    (op : Operation) (i ask : ℕ) (access : Access) → (target_at start past).manager.operation ≡ Some op → op.phase ≡ phases.Status → i < length w.initiators → op.source ≡ id_for (terms past) 0 (suc i) → (target_at start past).manages ≡ Some ask → access_at (terms past) ask ≡ Some access → IsLoginFifo access.offset → IsOpenWhenIgnored past i ask access.offset

-- Then what the operation waits for is answered whole.
abbrev pub GivenWhereLoginsOpenLaw : Type 0
GivenWhereLoginsOpenLaw = AlwaysFrom (λ start past w. IsTame past → AreLoginsOpen start past w → AreManagedGiven w)

-- the FIFO of the login number that was used last, where the session is not out
pub record IsLatest (host : Host) (offset : ℕ) : Type 0 where
  pub some : 0 < host.logins
  pub is : offset ≡ login_fifo (host.logins - 1)
  pub inside : is_out host.session ≡ false

-- so is that of a login number to which the block goes, whenever the initiator ignores the block for such a cause
abbrev pub IsLatestWhenIgnored : List Moment → ℕ → ℕ → ℕ → Type 0
IsLatestWhenIgnored past i ask offset = (later earlier : List Moment) (cause : Cause) → later ++ said (notes.Ignored ask cause) ∷ earlier ≡ past → is_hard cause ≡ true → IsLatest (host_at earlier i) offset

abbrev pub AreLoginsLatest : List Disk → List Moment → WorldState → Type 0
AreLoginsLatest start past w =
    (op : Operation) (i ask : ℕ) (access : Access) → (target_at start past).manager.operation ≡ Some op → op.phase ≡ phases.Status → i < length w.initiators → op.source ≡ id_for (terms past) 0 (suc i) → (target_at start past).manages ≡ Some ask → access_at (terms past) ask ≡ Some access → IsLoginFifo access.offset → IsLatestWhenIgnored past i ask access.offset

-- Then too.
abbrev pub GivenWhereLatestLaw : Type 0
GivenWhereLatestLaw = AlwaysFrom (λ start past w. IsTame past → AreLoginsLatest start past w → AreManagedGiven w)

-- It is so in every run in which nobody injected packets.
abbrev pub LoginsLatestLaw : Type 0
LoginsLatestLaw = AlwaysFrom (λ start past w. IsTame past → AreLoginsLatest start past w)

-- So what the operation waits for is answered whole in each such run.
abbrev pub GivenWholeLaw : Type 0
GivenWholeLaw = AlwaysFrom (λ start past w. IsTame past → AreManagedGiven w)

-- ---- the session
-- of an initiator that has a login under way it is not out
abbrev pub AreLoginsInside : List Moment → WorldState → Type 0
AreLoginsInside past w = (i : ℕ) → i < length w.initiators → (underway : Underway) → (host_at past i).operation ≡ Some underway → underway.operation ≡ operations.Login → is_out (host_at past i).session ≡ false

-- So it is in every run in which nobody injected packets.
abbrev pub LoginsInsideLaw : Type 0
LoginsInsideLaw = AlwaysFrom (λ start past w. IsTame past → AreLoginsInside past w)
