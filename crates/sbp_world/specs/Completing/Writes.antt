-- What an agent writes, in runs in which no initiator injected packets (IEEE 1394-1995, response codes; NCITS 325-1998, status block): no such write is refused, and so each is answered with rcode 0.
use Rattle.std.specs.Prelude.{◌≡◌, ◌-◌, ◌<◌, ◌≤◌, ℕ, suc, Bool, false, true, List, Some, Ok}
use Rattle.command_agent.specs.Tasks.{writes_status}
use Rattle.command_agent.specs.declared.step.Which.{Which}
use Rattle.initiator_base.specs.Places.{login_fifo}
use Rattle.login_table.specs.Table.{is_live}
use Rattle.login_table.specs.declared.login.Login.{Login}
use Rattle.orb_layout.specs.declared.status.StatusBlock.{StatusBlock}
use Rattle.rbc_disk.specs.Disk.{Disk}
use Rattle.sbp_initiator.specs.States.{status_in}
use Rattle.sbp_journal.specs.Addresses.{Access}
use Rattle.sbp_journal.specs.Run.{Moment, said}
use Rattle.sbp_journal.specs.Wire.{terms}
use Rattle.sbp_journal.specs.declared.cause.Cause.{Cause}
use Rattle.sbp_journal.specs.declared.cause.Cause.TheVariants as causes
use Rattle.sbp_journal.specs.declared.note.Note.TheVariants as notes
use Rattle.sbp_laws.specs.Hosts.{host_at}
use Rattle.sbp_laws.specs.JudgementLaw.{is_out}
use Rattle.sbp_laws.specs.Packets.{access_at}
use Rattle.sbp_laws.specs.Targets.{agent_at, over, target_at}
use Rattle.sbp_laws.specs.Turns.{EachMoment}
use Rattle.sbp_target.specs.Nodes.{login_at}
use Rattle.sbp_world.specs.Agents.AskedRuns.{serial_of}
use Rattle.sbp_world.specs.Completing.Answers.{WaitsOn}
use Rattle.sbp_world.specs.Completing.Deaths.{MainAnsweredThere}
use Rattle.sbp_world.specs.Completing.Labels.{AlwaysFrom, AlwaysWhere}
use Rattle.sbp_world.specs.Lists.Needs.{initiator_in, machine_at}
use Rattle.sbp_world.specs.Lists.FewLogins.{FewLogins}
use Rattle.sbp_world.specs.Lists.OwnLogins.{IsTame}
use Rattle.sbp_world.specs.Worlds.{WorldState}

-- causes for which a request is ignored that is answered with another rcode than 0
abbrev pub is_refused : Cause → Bool
is_refused causes.Grammar = true
is_refused causes.Source = true
is_refused causes.Login = true
is_refused _ = false

-- a packet that is refused is none that an agent waits for
abbrev pub UnrefusedAt : List Disk → Moment → List Moment → Type 0
UnrefusedAt start (said (notes.Ignored serial cause)) past = is_refused cause ≡ true → (place : ℕ) (which : Which) → place < 8 → serial_of which (agent_at (over (target_at start past)) place) ≡ Some serial → ⊥
UnrefusedAt start moment past = Unit {0}

abbrev pub NoneRefused : List Disk → List Moment → WorldState → Type 0
NoneRefused start past w = IsTame past → EachMoment (UnrefusedAt start) past

-- at each place of every run
-- ---- a status that is accepted
-- It goes to the FIFO of the login that its initiator asked for last, the session is not out, and the bytes are a status block.
pub record IsAccepted (past : List Moment) (i : ℕ) (access : Access) : Type 0 where
  pub some : 0 < (host_at past i).logins
  pub goes : access.offset ≡ login_fifo ((host_at past i).logins - 1)
  pub inside : is_out (host_at past i).session ≡ false
  pub block : StatusBlock
  pub reads : status_in access.payload ≡ Ok block

-- so is each write behind the buffers of an initiator that an agent waits for, in the generation of both
abbrev pub AreAccepted : List Disk → List Moment → WorldState → Type 0
AreAccepted start past w = IsTame past → (place i serial : ℕ) (access : Access) → WaitsOn start past place i serial access → access.is_write ≡ true → 0x1200_2000 ≤ access.offset → IsAccepted past i access

-- It is one where each status block that an agent waits for is accepted so.
abbrev pub AreStatusesAccepted : List Disk → List Moment → WorldState → Type 0
AreStatusesAccepted start past w =
    IsTame past → (place serial : ℕ) → place < 8 → (agent_at (over (target_at start past)) place).main ≡ Some serial → writes_status (machine_at w place).phase ≡ true → (terms past).generation 0 ≡ (terms past).generation (suc (initiator_in w place)) → (access : Access) → access_at (terms past) serial ≡ Some access → IsAccepted past (initiator_in w place) access

-- ---- by the login of the place, and by what the agent writes
-- the FIFO is that of the login which the initiator asked for last, and open
pub record IsOpenFifo (past : List Moment) (i : ℕ) (fifo : ℕ) : Type 0 where
  pub some : 0 < (host_at past i).logins
  pub goes : fifo ≡ login_fifo ((host_at past i).logins - 1)
  pub inside : is_out (host_at past i).session ≡ false

-- so is the FIFO of the login of each place whose agent writes a status, while target and initiator are in one generation
abbrev pub AreFifosOpen : List Disk → List Moment → WorldState → Type 0
AreFifosOpen start past w =
    IsTame past → (place : ℕ) (login : Login) → place < 8 → login_at w.target place ≡ Some login → is_live login ≡ true → writes_status (machine_at w place).phase ≡ true → (terms past).generation 0 ≡ (terms past).generation (suc (initiator_in w place)) → IsOpenFifo past (initiator_in w place) login.fifo

-- such a FIFO is that of the login which its initiator asked for last
pub record IsLatestFifo (past : List Moment) (i : ℕ) (fifo : ℕ) : Type 0 where
  pub some : 0 < (host_at past i).logins
  pub goes : fifo ≡ login_fifo ((host_at past i).logins - 1)

abbrev pub AreFifosLatest : List Disk → List Moment → WorldState → Type 0
AreFifosLatest start past w =
    IsTame past → (place : ℕ) (login : Login) → place < 8 → login_at w.target place ≡ Some login → is_live login ≡ true → writes_status (machine_at w place).phase ≡ true → (terms past).generation 0 ≡ (terms past).generation (suc (initiator_in w place)) → IsLatestFifo past (initiator_in w place) login.fifo

-- and what such an agent writes is a status block
pub record IsReadable (bytes : List ℕ) : Type 0 where
  pub block : StatusBlock
  pub reads : status_in bytes ≡ Ok block

abbrev pub AreReadable : List Disk → List Moment → WorldState → Type 0
AreReadable start past w = IsTame past → (place : ℕ) → place < 8 → writes_status (machine_at w place).phase ≡ true → IsReadable (machine_at w place).outgoing

-- so it is
abbrev pub ReadableLaw : Type 0
ReadableLaw = AlwaysFrom AreReadable

-- ---- where few logins were given
-- The FIFO of the login of each place whose agent writes a status is open, while target and initiator are in one generation.
abbrev pub FifosOpenFewLaw : Type 0
FifosOpenFewLaw = AlwaysWhere FewLogins AreFifosOpen

-- So nothing that an agent waits for is refused, and what it asks for as its main transaction is answered complete.
abbrev pub AnsweredFewLaw : Type 0
AnsweredFewLaw = AlwaysWhere FewLogins MainAnsweredThere
