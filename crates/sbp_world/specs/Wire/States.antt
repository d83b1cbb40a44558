-- The terms of a history are the states of the two ends of a world (NCITS 325-1998, command block agents and linked lists of ORBs): what the laws read off a journal of an
-- initiator's lists, slots and session is what that initiator has, and what they read off it of the agents, the logins, the operation and the units is what the target has. So the list that is open
-- by the terms, of an initiator that injected no packets, is the one that the place of its agent has.
use Rattle.std.specs.Prelude.{◌≡◌, ◌<◌, ℕ, suc, true, List, length, Some, None}
use Rattle.rbc_disk.specs.Disk.{Disk}
use Rattle.sbp_journal.specs.Run.{Moment}
use Rattle.sbp_laws.specs.CarriedBytes.{open_list}
use Rattle.sbp_laws.specs.Hosts.{host_at}
use Rattle.sbp_laws.specs.Targets.{target_at}
use Rattle.sbp_laws.specs.Terms.{lists}
use Rattle.sbp_world.specs.Agents.Agents.{AreAgentsAt, ArePurposedAt}
use Rattle.sbp_world.specs.Agents.AskedRuns.{AreAskedAt}
use Rattle.sbp_world.specs.Agents.Enabled.{AreLive, AreTermsOf}
use Rattle.sbp_world.specs.Agents.Holders.{AreHeldAt}
use Rattle.sbp_world.specs.Agents.Management.Terms.{IsManagementAt}
use Rattle.sbp_world.specs.Agents.Units.{AreUnitsAt}
use Rattle.sbp_world.specs.Hosts.Core.{host_core, own_core}
use Rattle.sbp_world.specs.Hosts.Worlds.{IsHost}
use Rattle.sbp_world.specs.Lists.Needs.{IsCalm, initiator_in, is_open_at}
use Rattle.sbp_world.specs.Lists.Opened.{IsUp}
use Rattle.sbp_world.specs.Telling.{holder}
use Rattle.sbp_world.specs.Worlds.{Scene, WorldState, initiator_at}

-- ---- what holds of every initiator, also of one that injected packets

-- An initiator's terms are its own.
pub record AreInitiators (past : List Moment) (w : WorldState) : Type 0 where
  -- its present list, how far that is linked, its waiting ORBs, and its slots, free, in use, resting and pinned
  pub hosts : (i : ℕ) → i < length w.initiators → IsHost past i (initiator_at w i)
  -- its session, the operation under way, how many login numbers and management writes it used, its running number, and whether it wrote ORB_POINTER for its present list
  pub sessions : (i : ℕ) → i < length w.initiators → host_core (host_at past i) ≡ own_core (initiator_at w i)

-- ---- and of the target

-- The target's terms are its own.
pub record IsTarget (start : List Disk) (past : List Moment) (s : Scene) : Type 0 where
  -- each agent: its phase, and as far as this reads them still, its present ORB, the next pointer that it got last, its doorbell mark and the bytes that it keeps; the pointer that it took last; and
  -- its transactions, by the serials of their requests
  pub agents : AreAgentsAt start past s.world
  -- each of these requests asks for what the agent has under way
  pub asked : AreAskedAt start past
  -- what each request is for that is under way
  pub purposes : ArePurposedAt start past s.world
  -- the initiator of each place
  pub places : AreHeldAt start past s.world
  -- the table of logins, the keys, the operation and its request
  pub management : IsManagementAt start past s.world.target
  -- the registers for unsolicited status that are enabled, each at a live login
  pub enabled : AreTermsOf (target_at start past).enabled s.world.target
  pub live : AreLive s.world.target
  -- the units, with what their media hold
  pub units : AreUnitsAt start past s.world.target s.media.disks

-- Where no agent of an initiator is out of RESET, no list of it is open by the terms.
abbrev pub AreClosed : List Disk → List Moment → WorldState → Type 0
AreClosed start past w = (i : ℕ) → ((place : ℕ) → place < 8 → IsUp w i place → ⊥) → open_list start past i ≡ None

-- The terms are the states of both ends.
pub record AreStates (start : List Disk) (past : List Moment) (s : Scene) : Type 0 where
  pub initiators : AreInitiators past s.world
  pub target : IsTarget start past s
  pub closed : AreClosed start past s.world

-- ---- the lists that are open, of the initiators that injected no packets

-- The list that the place has is the one that is open by the terms, and the latest one that its initiator began.
pub record IsOpenList (start : List Disk) (past : List Moment) (w : WorldState) (place : ℕ) : Type 0 where
  pub n : ℕ
  pub held : (holder w place).list ≡ Some n
  pub opened : open_list start past (initiator_in w place) ≡ Some n
  pub latest : suc n ≡ lists past (initiator_in w place)

-- So it is of each place whose agent has a list open, and so is not in RESET and not DEAD.
abbrev pub AreOpenLists : List Disk → List Moment → WorldState → Type 0
AreOpenLists start past w = (place : ℕ) → place < 8 → is_open_at w place ≡ true → IsCalm past (initiator_in w place) → IsOpenList start past w place
