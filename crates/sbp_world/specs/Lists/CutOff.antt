-- Which requests of the target have no owner any more while they are under way, by where they go in an initiator's memory (NCITS 325-1998, AGENT_RESET, ABORT TASK SET, resets; command block ORB and page tables):
-- a request for the page table or the buffer of a slot, but for a write into the buffer, is the main transaction of an agent, or an ORB had the slot whose list was cut before the ORB had ended.
use Rattle.std.specs.Prelude.{◌≡◌, ◌⊎◌, ◌<◌, ◌≤◌, ℕ, suc, false, true, List, ◌++◌, length, Some}
use Rattle.bus_memory.specs.declared.window.Window.TheVariants as windows
use Rattle.bus_memory.specs.Windows.{window_at}
use Rattle.rbc_disk.specs.Disk.{Disk}
use Rattle.sbp_journal.specs.Addresses.{Access}
use Rattle.sbp_journal.specs.Run.{Moment}
use Rattle.sbp_journal.specs.Wire.{terms}
use Rattle.sbp_laws.specs.Lists.{Orb, orb, prepared_in}
use Rattle.sbp_laws.specs.OrderLaw.{is_cut}
use Rattle.sbp_laws.specs.Packets.{access_at, is_under_way, receiver_in, sender_in}
use Rattle.sbp_laws.specs.Targets.{agent_at, over, target_at}
use Rattle.sbp_laws.specs.Terms.{ends}
use Rattle.sbp_world.specs.Telling.{holder}
use Rattle.sbp_world.specs.Worlds.{WorldState}
use Rattle.sbp_world.specs.Lists.Closes.{UnderFrom, WhereTameOrFew}
use Rattle.sbp_world.specs.Lists.Needs.{IsCalm, initiator_in}
use Rattle.sbp_world.specs.Lists.OwnReads.{data_slot}
use Rattle.sbp_world.specs.Lists.SlotsStay.{HasSlot}

-- a request of the target to an initiator is under way, and goes to the page table or the buffer of a slot, but for a write into the buffer
pub record IsInSlot (past : List Moment) (i slot serial : ℕ) : Type 0 where
  pub from : sender_in ((terms past).sent serial) ≡ Some 0
  pub to : receiver_in ((terms past).sent serial) ≡ Some (suc i)
  pub under_way : is_under_way (terms past) serial ≡ true
  pub access : Access
  pub is : access_at (terms past) serial ≡ Some access
  pub stands : data_slot (window_at access.offset) ≡ Some slot
  pub reads : window_at access.offset ≡ Some (windows.Buffer slot) → access.is_write ≡ false

-- An ORB had a slot at a moment, used or at rest, and the target is now in no later generation than its initiator was in then; or the initiator was ahead of it.
pub data HadSlot (past before : List Moment) (i slot : ℕ) (one : Orb) : Type 0 where
  in_generation : HasSlot before i slot one → (terms past).generation 0 ≤ (terms before).generation (suc i) → HadSlot past before i slot one
  ahead : prepared_in before i slot ≡ Some one → (terms past).generation 0 < (terms before).generation (suc i) → HadSlot past before i slot one

-- An ORB that has not ended had the slot, and its list is cut.
pub record WasCutOff (past : List Moment) (i slot : ℕ) : Type 0 where
  pub list : ℕ
  pub number : ℕ
  pub cut : is_cut past i list ≡ true
  pub unended : ends past i list ≤ number
  pub later : List Moment
  pub before : List Moment
  pub is : later ++ before ≡ past
  pub had : HadSlot past before i slot (orb list number)

-- the main transaction of the agent of a place
pub record IsMainAt (start : List Disk) (past : List Moment) (serial : ℕ) : Type 0 where
  pub place : ℕ
  pub small : place < 8
  pub waits : (agent_at (target_at start past) place).main ≡ Some serial

abbrev pub AreCutOff : List Disk → List Moment → WorldState → Type 0
AreCutOff start past w = (i slot serial : ℕ) → i < length w.initiators → IsCalm past i → IsInSlot past i slot serial → IsMainAt start past serial ⊎ WasCutOff past i slot

-- So it is at each place of every run in which no initiator injected packets, or few logins were given, before which lists were open as they should be.
abbrev pub CutOffLaw : Type 0
CutOffLaw = UnderFrom (λ start. WhereTameOrFew (AreCutOff start))

-- ---- what is an agent's
-- An agent that has a main transaction there has a list of this initiator, and the first ORB of it that has not ended has the slot.
pub record IsForOrb (past : List Moment) (w : WorldState) (place i slot : ℕ) : Type 0 where
  pub here : initiator_in w place ≡ i
  pub list : ℕ
  pub list_is : (holder w place).list ≡ Some list
  pub had : HadSlot past past i slot (orb list (ends past i list))

abbrev pub AreForOrbs : List Disk → List Moment → WorldState → Type 0
AreForOrbs start past w = (place i slot serial : ℕ) → place < 8 → i < length w.initiators → IsCalm past i → (agent_at (over (target_at start past)) place).main ≡ Some serial → IsInSlot past i slot serial → IsForOrb past w place i slot

abbrev pub MainSlotsLaw : Type 0
MainSlotsLaw = UnderFrom (λ start. WhereTameOrFew (AreForOrbs start))
