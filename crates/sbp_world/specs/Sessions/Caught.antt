-- Which nodes are in the generation that the target knows, or in a later one (NCITS 325-1998, login and reconnect; IEEE 1394-1995, bus reset). The target hears
-- requests of its own generation alone, and a node sends none of a generation that it has not seen. So whoever the target has a live login of, works for
-- or manages, has seen the reset that it has seen; and an agent that is not in RESET is at the place of such a login.
use Rattle.std.specs.Prelude.{◌≡◌, ◌≤◌, ◌<◌, ℕ, ◌+◌, ◌^◌, true, false, List, ◌∷◌, ◌++◌, map, length, Option, Some}
use Rattle.sbp_world.specs.Agents.Holders.{IsOf}
use Rattle.command_agent.specs.Machine.{state_in}
use Rattle.command_agent.specs.Steps.{is_reset}
use Rattle.login_table.specs.declared.login.Login.{Login}
use Rattle.login_table.specs.Table.{is_live}
use Rattle.mgmt_agent.specs.Machine.{source_in}
use Rattle.rbc_disk.specs.Disk.{Disk}
use Rattle.rbc_disk.specs.Runs.{Told}
use Rattle.sbp_journal.specs.Run.{Moment, asked, said}
use Rattle.sbp_journal.specs.Wire.{Terms, terms}
use Rattle.sbp_journal.specs.declared.event.Event.{Event}
use Rattle.sbp_laws.specs.Targets.{agent_at, initiator_at, over, target_at}
use Rattle.sbp_target.specs.Nodes.{login_at}
use Rattle.sbp_world.specs.Histories.{history_of}
use Rattle.sbp_world.specs.Runs.{AreEntries, Run, after, beginning}
use Rattle.sbp_world.specs.Settling.{MayAll, after_all}
use Rattle.sbp_world.specs.Wire.Lines.{AreLines}
use Rattle.sbp_world.specs.Worlds.{WorldState, begun}
use Rattle.sbp_world.specs.Agents.Management.Terms.{DeliversMore}

-- the initiator whose node has an ID, as the target knows the nodes, is in the target's generation or in a later one
abbrev pub HasCaught : Terms → (initiators id : ℕ) → Type 0
HasCaught t initiators id = (i : ℕ) → IsOf t initiators i id → t.generation 0 ≤ t.generation (i + 1)

pub record HaveCaught (start : List Disk) (past : List Moment) (w : WorldState) : Type 0 where
  pub logins : (place : ℕ) (login : Login) → login_at w.target place ≡ Some login → is_live login ≡ true → HasCaught (terms past) (length w.initiators) login.node
  pub operation : (source : ℕ) → source_in w.target.manager.operation ≡ Some source → HasCaught (terms past) (length w.initiators) source
  pub agents : (place : ℕ) → place < 8 → is_reset (state_in (agent_at (over (target_at start past)) place).machine.phase) ≡ false → (terms past).generation 0 ≤ (terms past).generation (initiator_at (target_at start past) (terms past) place + 1)

-- After every line of every run of a machine with a unit, at most four, and a medium for each.
abbrev pub CaughtLaw : Type 0
CaughtLaw =
    (line : ℕ) (run : Run) → run.initiators ≤ 4 → 0 < run.units → run.units ≤ 4 → length run.start.disks ≡ run.units → length run.entries + 2 < 2 ^ 32 → AreEntries (beginning run) run.entries → AreLines run run.entries → HaveCaught run.start.disks (history_of line run) (after (beginning run) run.entries).world

-- And behind each delivery of a line that may follow: the packets that were delivered in it so far told this, the latest one first.
abbrev pub CaughtBetweenLaw : Type 0
CaughtBetweenLaw =
    (line : ℕ) (run : Run) → run.initiators ≤ 4 → 0 < run.units → run.units ≤ 4 → length run.start.disks ≡ run.units → length run.entries + 2 < 2 ^ 32 → AreEntries (beginning run) run.entries → AreLines run run.entries → (next : ℕ) (event : Event) → DeliversMore event → (told : List (Option Told)) → MayAll told (begun (after (beginning run) run.entries)) → (let w = (after_all told (begun (after (beginning run) run.entries))).world in HaveCaught run.start.disks (map said w.fresh ++ asked next event ∷ history_of line run) w)
