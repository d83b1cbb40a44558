-- Whose list an agent of the target has, in every run (NCITS 325-1998, ORB_POINTER and access): an agent is not in RESET at the place of a live login
-- alone, whose initiator the bus has there. Where it is not, be it DEAD, its list is that of an ORB which a write of ORB_POINTER of that initiator to that
-- place named, as the target got it.
use Rattle.std.specs.Prelude.{◌≡◌, ◌<◌, ◌≤◌, ℕ, suc, true, false, List, ◌∷◌, ◌++◌, length, map, Option, Some, Ok}
use Rattle.async_packet.specs.Packet.{Packet}
use Rattle.async_packet.specs.Reading.{reading}
use Rattle.login_table.specs.declared.login.Login.{Login}
use Rattle.login_table.specs.Table.{is_live}
use Rattle.orb_layout.specs.declared.pointer.OrbPointer.{OrbPointer}
use Rattle.command_agent.specs.Machine.{named, state_in}
use Rattle.command_agent.specs.Steps.{is_reset}
use Rattle.rbc_disk.specs.Runs.{Told}
use Rattle.sbp_bus.specs.Places.{place_in}
use Rattle.sbp_journal.specs.Run.{Moment, asked, said}
use Rattle.sbp_journal.specs.Transactions.{Sending}
use Rattle.sbp_journal.specs.Wire.{terms}
use Rattle.sbp_journal.specs.declared.event.Event.{Event}
use Rattle.sbp_journal.specs.declared.note.Note.TheVariants as notes
use Rattle.sbp_laws.specs.Lists.{list_in, named_in}
use Rattle.bus_memory.specs.Windows.{slot_of}
use Rattle.target_base.specs.declared.address.Access.TheVariants as accesses
use Rattle.target_base.specs.declared.address.Demand.TheVariants as demands
use Rattle.target_base.specs.Addresses.{demand_of}
use Rattle.sbp_target.specs.Nodes.{login_at}
use Rattle.sbp_world.specs.Histories.{history_of}
use Rattle.sbp_world.specs.Runs.{Run, after, beginning}
use Rattle.sbp_world.specs.Settling.{MayAll, after_all}
use Rattle.sbp_world.specs.Telling.{holder}
use Rattle.sbp_world.specs.Worlds.{WorldState, begun}
use Rattle.sbp_world.specs.Agents.Management.Terms.{DeliversMore}
use Rattle.sbp_world.specs.Hosts.Runs.{IsRun}
use Rattle.sbp_world.specs.Lists.Needs.{initiator_in, machine_at}

-- A packet of an initiator pointed the agent of a place to the ORB at an address.
pub record IsPointedBy (sent : Sending) (i place address : ℕ) : Type 0 where
  pub from_is : sent.from ≡ suc i
  pub to_is : sent.to ≡ 0
  pub packet : Packet
  pub read : reading sent.bytes ≡ Ok packet
  pub rom : ℕ
  pub pointer : OrbPointer
  pub asks : demand_of rom packet ≡ demands.Agent place (accesses.Point pointer)
  pub address_is : named pointer ≡ Some address

-- The list of a place was opened so: by a packet that was got, and that named an ORB of the list as it was.
pub record WasOpened (past : List Moment) (i place : ℕ) (list : Option ℕ) : Type 0 where
  pub later : List Moment
  pub earlier : List Moment
  pub serial : ℕ
  pub is : later ++ said (notes.Got serial) ∷ earlier ≡ past
  pub sent : Sending
  pub sent_is : (terms earlier).sent serial ≡ Some sent
  pub address : ℕ
  pub pointed : IsPointedBy sent i place address
  pub list_is : list ≡ list_in (named_in earlier i (slot_of address))

pub record IsOpened (past : List Moment) (w : WorldState) (place : ℕ) : Type 0 where
  pub login : Login
  pub is : login_at w.target place ≡ Some login
  pub live : is_live login ≡ true
  pub there : place_in w.places place ≡ Some (holder w place)
  pub id_is : (holder w place).login ≡ login.login
  pub inside : initiator_in w place < length w.initiators
  pub opened : WasOpened past (initiator_in w place) place (holder w place).list

abbrev pub AreOpened : List Moment → WorldState → Type 0
AreOpened past w = (place : ℕ) → place < 8 → is_reset (state_in (machine_at w place).phase) ≡ false → IsOpened past w place

-- After every line of every run of a machine with a unit, at most four, and a medium for each; and behind each delivery of a line that may follow.
pub record OpensLaw : Type 0 where
  pub after_lines : (line : ℕ) (run : Run) → IsRun run → 0 < run.units → run.units ≤ 4 → length run.start.disks ≡ run.units → AreOpened (history_of line run) (after (beginning run) run.entries).world
  pub between : (line : ℕ) (run : Run) → IsRun run → 0 < run.units → run.units ≤ 4 → length run.start.disks ≡ run.units → (next : ℕ) (event : Event) → DeliversMore event → (told : List (Option Told)) → MayAll told (begun (after (beginning run) run.entries)) → (let w = (after_all told (begun (after (beginning run) run.entries))).world in AreOpened (map said w.fresh ++ asked next event ∷ history_of line run) w)
