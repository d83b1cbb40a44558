-- Where the initiators' requests go that are not their own management's (NCITS 325-1998, login response and ORB_POINTER): a ring writes ORB_POINTER at the agent of the
-- login that its host has, and where each login that was done was granted an agent of a place, never at MANAGEMENT_AGENT. So an operation of the target of an
-- initiator that injected no packets has its ORB in one of the initiator's two places of management.
use Rattle.std.specs.Prelude.{◌≡◌, ◌⊎◌, ◌<◌, ◌==◌, ℕ, suc, true, false, List, ◌∷◌, ◌++◌, map, Option, Some}
use Rattle.bus_memory.specs.declared.window.Window.TheVariants as windows
use Rattle.bus_memory.specs.Windows.{start as start_of}
use Rattle.initiator_base.specs.Places.{behind_by}
use Rattle.mgmt_agent.specs.declared.operation.Operation.{Operation}
use Rattle.mgmt_agent.specs.Decisions.{agent_base}
use Rattle.orb_layout.specs.declared.login.LoginResponse.{LoginResponse}
use Rattle.orb_layout.specs.LoginResponses.{login_response}
use Rattle.rbc_disk.specs.Disk.{Disk}
use Rattle.rbc_disk.specs.Runs.{Told}
use Rattle.sbp_initiator.specs.Refusals.{rings}
use Rattle.sbp_journal.specs.Addresses.{Access}
use Rattle.sbp_journal.specs.Run.{Moment, asked, said}
use Rattle.sbp_journal.specs.Wire.{terms}
use Rattle.sbp_journal.specs.declared.event.Action.{Action}
use Rattle.sbp_journal.specs.declared.event.Event.TheVariants as events
use Rattle.sbp_journal.specs.declared.note.Note.TheVariants as notes
use Rattle.sbp_journal.specs.declared.operation.Operation.TheVariants as operations
use Rattle.sbp_journal.specs.declared.operation.OpWord.TheVariants as words
use Rattle.sbp_laws.specs.Hosts.{host_at, response_of}
use Rattle.sbp_laws.specs.Packets.{access_in_bytes, id_for}
use Rattle.sbp_laws.specs.Targets.{target_at}
use Rattle.sbp_laws.specs.Turns.{EachMoment, event_of}
use Rattle.sbp_world.specs.Histories.{history_of}
use Rattle.sbp_world.specs.Runs.{Run, after, beginning}
use Rattle.sbp_world.specs.Settling.{MayAll, after_all}
use Rattle.sbp_world.specs.Worlds.{begun}
use Rattle.sbp_world.specs.Hosts.Runs.{IsRun, more_deliveries}

-- ---- rings

-- what is written in the line of a ring, where it is a block: it is at ORB_POINTER behind the base of the login's agent, or behind that of none
pub record IsAtLogin (past : List Moment) (i : ℕ) (bytes : List ℕ) : Type 0 where
  pub at : (access : Access) → access_in_bytes bytes ≡ Some access → access.is_write ≡ true → access.is_block ≡ true → (access.offset ≡ behind_by (host_at past i).login.agent 0x08) ⊎ (access.offset ≡ behind_by 0 0x08)

abbrev pub RingsAt : ℕ → Moment → List Moment → Type 0
RingsAt i (said (notes.Sent serial generation from to bytes)) past = from ≡ suc i → (terms past).injected serial ≡ false → (action : Action) → event_of past ≡ Some (events.Act i action) → rings action ≡ true → IsAtLogin past i bytes
RingsAt i moment past = Unit {0}

pub record RingsLaw : Type 0 where
  pub after_lines : (line : ℕ) (run : Run) → IsRun run → (i : ℕ) → i < run.initiators → EachMoment (RingsAt i) (history_of line run)
  pub between : (line : ℕ) (run : Run) → IsRun run → (next : ℕ) (most : Option ℕ) (told : List (Option Told)) → MayAll told (begun (after (beginning run) run.entries)) → (i : ℕ) → i < run.initiators → EachMoment (RingsAt i) (map said (after_all told (begun (after (beginning run) run.entries))).world.fresh ++ asked next (more_deliveries most) ∷ history_of line run)

-- ---- logins

-- the agent of a login is that of a place of the target
pub record HasBase (response : LoginResponse) : Type 0 where
  pub place : ℕ
  pub small : place < 8
  pub base : response.agent ≡ agent_base place

-- a login is done: so is the response that stands in the buffer of its place then
abbrev pub BasedAt : ℕ → Moment → List Moment → Type 0
BasedAt i (said (notes.Op j operations.Login words.Done)) past = (j == i) ≡ true → HasBase (login_response (response_of (host_at past i)))
BasedAt i moment past = Unit {0}

-- ---- operations of the target

-- its ORB is in a place of an initiator
pub record IsInAPlace (op : Operation) : Type 0 where
  pub place : ℕ
  pub small : place < 2
  pub orb : op.orb ≡ start_of (windows.Management place)

-- each operation of the initiator's node
abbrev pub ArePlacedOps : List Disk → List Moment → ℕ → Type 0
ArePlacedOps start past i = (op : Operation) → (target_at start past).manager.operation ≡ Some op → op.source ≡ id_for (terms past) 0 (suc i) → IsInAPlace op
