-- Who has a place of the target's logins, at each place of a history between two turns (NCITS 325-1998, access: login, reconnect, logout). A live login is of
-- the initiator that the bus has in its place, and that is the one whose node's ID it has in the generation that the target knows: the laws read it off
-- the history by that ID, and they find the place by the unit and the ID. So all that the target deals with is an initiator's: the source of its operation is
-- one's, and no packet goes from it to itself.
use Rattle.std.specs.Prelude.{◌≡◌, ◌≢◌, ◌≤◌, ◌<◌, ℕ, ◌+◌, ◌^◌, true, List, ◌∷◌, ◌++◌, map, length, Option, Some, None}
use Rattle.login_table.specs.declared.login.Login.{Login}
use Rattle.login_table.specs.Table.{is_live}
use Rattle.mgmt_agent.specs.Machine.{source_in}
use Rattle.packet_store.specs.declared.sent.Sent.{Sent}
use Rattle.packet_store.specs.Kept.{found_sent}
use Rattle.rbc_disk.specs.Disk.{Disk}
use Rattle.rbc_disk.specs.Runs.{Told}
use Rattle.sbp_bus.specs.declared.places.Holder.{Holder}
use Rattle.sbp_bus.specs.Places.{place_in}
use Rattle.sbp_journal.specs.Run.{Moment, asked, said}
use Rattle.sbp_journal.specs.Wire.{Terms, terms}
use Rattle.sbp_journal.specs.declared.event.Event.{Event}
use Rattle.sbp_laws.specs.Packets.{id_for}
use Rattle.sbp_laws.specs.Targets.{Target, initiator_at, place_on, target_at}
use Rattle.sbp_target.specs.Nodes.{login_at}
use Rattle.sbp_world.specs.Histories.{history_of}
use Rattle.sbp_world.specs.Runs.{AreEntries, Run, after, beginning}
use Rattle.sbp_world.specs.Settling.{MayAll, after_all}
use Rattle.sbp_world.specs.Wire.Lines.{AreLines}
use Rattle.sbp_world.specs.Worlds.{WorldState, begun}
use Rattle.sbp_world.specs.Agents.Management.Terms.{DeliversMore}

-- an ID is that of an initiator's node, as the target knows the nodes
pub record IsOf (t : Terms) (initiators initiator id : ℕ) : Type 0 where
  pub small : initiator < initiators
  pub node_is : id_for t 0 (initiator + 1) ≡ id

-- A live login in a place is of this initiator, and is found by it.
pub record IsLiveOf (t : Terms) (initiators : ℕ) (target : Target) (place : ℕ) (login : Login) (initiator : ℕ) : Type 0 where
  pub of : IsOf t initiators initiator login.node
  pub terms_are : initiator_at target t place ≡ initiator
  pub place_is : place_on target login.unit (id_for t 0 (initiator + 1)) ≡ place

-- who has a place with a login
pub record IsHeld (t : Terms) (initiators : ℕ) (target : Target) (places : List (Option Holder)) (place : ℕ) (login : Login) : Type 0 where
  pub holder : Holder
  pub there : place_in places place ≡ Some holder
  pub login_is : holder.login ≡ login.login
  pub unit_is : holder.unit ≡ login.unit
  pub live : is_live login ≡ true → IsLiveOf t initiators target place login holder.initiator

pub record AreHeldAt (start : List Disk) (past : List Moment) (w : WorldState) : Type 0 where
  pub held : (place : ℕ) (login : Login) → login_at w.target place ≡ Some login → IsHeld (terms past) (length w.initiators) (target_at start past) w.places place login
  pub free : (place : ℕ) → login_at w.target place ≡ None → place_in w.places place ≡ None
  pub operation : (source : ℕ) → source_in w.target.manager.operation ≡ Some source → (initiator : ℕ) × IsOf (terms past) (length w.initiators) initiator source
  pub leaves : (serial : ℕ) (sent : Sent) → found_sent serial w.store.kept ≡ Some sent → sent.from ≡ 0 → sent.to ≢ 0

-- After every line of every run of a machine with a unit, at most four, and a medium for each.
abbrev pub HoldersLaw : Type 0
HoldersLaw =
    (line : ℕ) (run : Run) → run.initiators ≤ 4 → 0 < run.units → run.units ≤ 4 → length run.start.disks ≡ run.units → length run.entries + 2 < 2 ^ 32 → AreEntries (beginning run) run.entries → AreLines run run.entries → AreHeldAt run.start.disks (history_of line run) (after (beginning run) run.entries).world

-- And behind each delivery of a line that may follow: the packets that were delivered in it so far told this, the latest one first.
abbrev pub HoldersBetweenLaw : Type 0
HoldersBetweenLaw =
    (line : ℕ) (run : Run) → run.initiators ≤ 4 → 0 < run.units → run.units ≤ 4 → length run.start.disks ≡ run.units → length run.entries + 2 < 2 ^ 32 → AreEntries (beginning run) run.entries → AreLines run run.entries → (next : ℕ) (event : Event) → DeliversMore event → (told : List (Option Told)) → MayAll told (begun (after (beginning run) run.entries)) → (let w = (after_all told (begun (after (beginning run) run.entries))).world in AreHeldAt run.start.disks (map said w.fresh ++ asked next event ∷ history_of line run) w)
