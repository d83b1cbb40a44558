-- Which FIFO the logins have that an initiator asks for, in runs in which no initiator injected packets (NCITS 325-1998, login; status_FIFO): while a login is under way, each live login that the target has of
-- its initiator's node has the FIFO of this login, in the generation of both. And where few logins were given, each login whose agent writes a status has the FIFO of the login that its initiator asked for last.
use Rattle.std.specs.Prelude.{◌≡◌, ◌<◌, ℕ, suc, true, List, length, Some}
use Rattle.login_table.specs.declared.login.Login.{Login}
use Rattle.login_table.specs.Table.{is_live}
use Rattle.rbc_disk.specs.Disk.{Disk}
use Rattle.sbp_journal.specs.Run.{Moment}
use Rattle.sbp_journal.specs.Wire.{terms}
use Rattle.sbp_journal.specs.declared.operation.Operation.TheVariants as operations
use Rattle.sbp_laws.specs.Hosts.{Underway, host_at}
use Rattle.sbp_laws.specs.Packets.{id_for}
use Rattle.sbp_target.specs.Nodes.{login_at}
use Rattle.sbp_world.specs.Completing.Labels.{AlwaysFrom, AlwaysWhere}
use Rattle.sbp_world.specs.Completing.Writes.{AreFifosLatest, IsLatestFifo}
use Rattle.sbp_world.specs.Lists.FewLogins.{FewLogins}
use Rattle.sbp_world.specs.Lists.OwnLogins.{IsTame}
use Rattle.sbp_world.specs.Worlds.{WorldState}

-- of one initiator
abbrev pub AreLatestOf : List Moment → WorldState → ℕ → Type 0
AreLatestOf past w i = (place : ℕ) (login : Login) → login_at w.target place ≡ Some login → is_live login ≡ true → login.node ≡ id_for (terms past) 0 (suc i) → IsLatestFifo past i login.fifo

abbrev pub AreEnteredLatest : List Disk → List Moment → WorldState → Type 0
AreEnteredLatest start past w =
    IsTame past → (i : ℕ) → i < length w.initiators → (terms past).generation 0 ≡ (terms past).generation (suc i) → (underway : Underway) → (host_at past i).operation ≡ Some underway → underway.operation ≡ operations.Login → AreLatestOf past w i

-- at each place of every run
abbrev pub EnteredLatestLaw : Type 0
EnteredLatestLaw = AlwaysFrom AreEnteredLatest

-- ---- where an agent writes a status
abbrev pub FifosLatestKnownLaw : Type 0
FifosLatestKnownLaw = AlwaysWhere FewLogins AreFifosLatest
