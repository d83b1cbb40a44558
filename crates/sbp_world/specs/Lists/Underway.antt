-- The operation that an initiator has under way, in every run (NCITS 325-1998, management agent and management ORBs): the request that began it was sent in
-- the line of its action; the place of its management ORB holds the ORB of that action, as it was made then, for as long as the operation is under way; and so
-- long the login of the initiator's host stays as it was. An operation that is under way at a later moment, and had begun before an earlier one, was under way then.
use Rattle.std.specs.Prelude.{◌≡◌, ◌<◌, ◌≤◌, ℕ, true, List, ◌∷◌, ◌++◌, map, Option, Some}
use Rattle.orb_layout.specs.declared.management.ManagementOrb.{ManagementOrb}
use Rattle.rbc_disk.specs.Runs.{Told}
use Rattle.sbp_journal.specs.Run.{Moment, asked, said}
use Rattle.sbp_journal.specs.Wire.{terms}
use Rattle.sbp_journal.specs.declared.event.Event.TheVariants as events
use Rattle.sbp_laws.specs.CarriedBytes.{before_sent}
use Rattle.sbp_laws.specs.Hosts.{Underway, host_at, is_management, operation_of}
use Rattle.sbp_laws.specs.Served.{management_orb_of, place_held}
use Rattle.sbp_laws.specs.Turns.{event_of}
use Rattle.sbp_world.specs.Histories.{history_of}
use Rattle.sbp_world.specs.Runs.{Run, after, beginning}
use Rattle.sbp_world.specs.Settling.{MayAll, after_all}
use Rattle.sbp_world.specs.Worlds.{begun}
use Rattle.sbp_world.specs.Hosts.Runs.{IsRun, more_deliveries}

-- the management ORB of an operation: that of its action, as the history stood before its first request
abbrev pub underway_orb : List Moment → ℕ → Underway → ManagementOrb
underway_orb past i underway = management_orb_of underway.action (before_sent past underway.first) i (host_at (before_sent past underway.first) i) underway.place

pub record IsUnderway (past : List Moment) (i : ℕ) (underway : Underway) : Type 0 where
  pub sent : underway.first ≤ (terms past).count
  pub action : operation_of underway.action ≡ Some underway.operation
  pub line : event_of (before_sent past underway.first) ≡ Some (events.Act i underway.action)
  pub small : underway.place < 2
  pub held : is_management underway.operation ≡ true → place_held past i underway.place ≡ Some (underway_orb past i underway)
  pub login : (host_at past i).login ≡ (host_at (before_sent past underway.first) i).login

abbrev pub AreUnderway : List Moment → ℕ → Type 0
AreUnderway past i = (underway : Underway) → (host_at past i).operation ≡ Some underway → IsUnderway past i underway

-- the same operation, but for its latest request
pub record IsSame (was now : Underway) : Type 0 where
  pub operation : now.operation ≡ was.operation
  pub action : now.action ≡ was.action
  pub first : now.first ≡ was.first
  pub place : now.place ≡ was.place

-- An operation of a later history was under way by an earlier one, with the same ORB; and no place of management got another ORB since.
pub record WasUnderway (before past : List Moment) (i : ℕ) (underway : Underway) : Type 0 where
  pub was : Underway
  pub is : (host_at before i).operation ≡ Some was
  pub same : IsSame was underway
  pub orb : underway_orb past i underway ≡ underway_orb before i was
  pub places : (place : ℕ) → place_held past i place ≡ place_held before i place
  pub login : (host_at past i).login ≡ (host_at before i).login

-- at each moment of a history
pub record OperationsLast (past : List Moment) (i : ℕ) : Type 0 where
  pub each : (later before : List Moment) → later ++ before ≡ past → AreUnderway before i
  pub was : (later before : List Moment) → later ++ before ≡ past → (underway : Underway) → (host_at past i).operation ≡ Some underway → underway.first ≤ (terms before).count → WasUnderway before past i underway

-- After every line of every run, and behind each delivery of a line that delivers one packet after the other.
pub record UnderwayLaw : Type 0 where
  pub after_lines : (line : ℕ) (run : Run) → IsRun run → (i : ℕ) → i < run.initiators → OperationsLast (history_of line run) i
  pub between : (line : ℕ) (run : Run) → IsRun run → (next : ℕ) (most : Option ℕ) (told : List (Option Told)) → MayAll told (begun (after (beginning run) run.entries)) → (i : ℕ) → i < run.initiators → (let w = (after_all told (begun (after (beginning run) run.entries))).world in OperationsLast (map said w.fresh ++ asked next (more_deliveries most) ∷ history_of line run) i)
