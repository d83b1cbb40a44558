-- At whose registers an initiator writes and reads, in every run (NCITS 325-1998, ORB_POINTER, AGENT_RESET and AGENT_STATE): those of the agent of the login that
-- its host has. So it is of the ORB_POINTER write of its present list and of each read of AGENT_STATE that tells of that list, where no logout of it was refused,
-- for a logout that is refused leaves the list; and of the AGENT_RESET that is under way. Before such a read the ORB_POINTER write of the list was answered.
use Rattle.std.specs.Prelude.{◌≡◌, ◌<◌, ℕ, true, List, ◌∷◌, ◌++◌, map, Option, Some}
use Rattle.bus_memory.specs.declared.window.Window.TheVariants as windows
use Rattle.bus_memory.specs.Windows.{start}
use Rattle.rbc_disk.specs.Runs.{Told}
use Rattle.sbp_journal.specs.Run.{Moment, asked, said}
use Rattle.sbp_journal.specs.Wire.{terms}
use Rattle.sbp_journal.specs.declared.operation.Operation.TheVariants as operations
use Rattle.sbp_laws.specs.Hosts.{Underway, host_at}
use Rattle.sbp_laws.specs.Lists.{present_list, slot_at}
use Rattle.sbp_world.specs.Histories.{history_of}
use Rattle.sbp_world.specs.Runs.{Run, after, beginning}
use Rattle.sbp_world.specs.Settling.{MayAll, after_all}
use Rattle.sbp_world.specs.Worlds.{begun}
use Rattle.sbp_world.specs.Hosts.Runs.{IsRun, more_deliveries}
use Rattle.sbp_world.specs.Pointers.Bases.{AreUnrefused, IsAsked, register_read}
use Rattle.sbp_world.specs.Pointers.Moments.{is_answered, pointer_write, register_write, state_list}
use Rattle.sbp_world.specs.Pointers.Pointers.{pointed_list}
use Rattle.sbp_world.specs.Lists.Needs.{IsCalm}

-- of initiator i
pub record AreBased (past : List Moment) (i : ℕ) : Type 0 where
  pub pointer : AreUnrefused past i → (n serial : ℕ) → present_list past i ≡ Some n → pointed_list past serial i ≡ Some n → IsAsked past i serial (pointer_write (host_at past i).login.agent (start (windows.Orb (slot_at past i n 0))))
  pub reset : (underway : Underway) → (host_at past i).operation ≡ Some underway → underway.operation ≡ operations.AgentReset → IsAsked past i underway.first (register_write (host_at past i).login.agent 0x04)
  pub states : AreUnrefused past i → (n serial : ℕ) → present_list past i ≡ Some n → state_list past serial i ≡ Some n → IsAsked past i serial (register_read (host_at past i).login.agent 0x00)
  pub behind : (n serial other : ℕ) → state_list past serial i ≡ Some n → pointed_list past other i ≡ Some n → is_answered past other ≡ true
  pub judged : IsCalm past i → (n serial other : ℕ) → state_list past serial i ≡ Some n → pointed_list past other i ≡ Some n → 0 < (terms past).news other

-- After every line of every run, and behind each delivery of a line that delivers one packet after the other.
pub record BasesLaw : Type 0 where
  pub after_lines : (line : ℕ) (run : Run) → IsRun run → (i : ℕ) → i < run.initiators → AreBased (history_of line run) i
  pub between : (line : ℕ) (run : Run) → IsRun run → (next : ℕ) (most : Option ℕ) (told : List (Option Told)) → MayAll told (begun (after (beginning run) run.entries)) → (i : ℕ) → i < run.initiators → (let w = (after_all told (begun (after (beginning run) run.entries))).world in AreBased (map said w.fresh ++ asked next (more_deliveries most) ∷ history_of line run) i)
