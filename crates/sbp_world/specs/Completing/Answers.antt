-- What an initiator answers to what the target asks of it, in runs in which no initiator injected packets, or few logins were given (IEEE 1394-1995, response codes; NCITS 325-1998, command block agents,
-- ORBs and page tables in an initiator's memory): a request that an agent waits for is answered complete, a read with as many bytes as it asks for.
use Rattle.std.specs.Prelude.{◌≡◌, ◌<◌, ◌≤◌, ℕ, suc, Bool, false, true, List, ◌∷◌, ◌++◌, length, map, Option, Some}
use Rattle.command_agent.specs.declared.step.Which.{Which}
use Rattle.orb_layout.specs.Replies.{Answer, Payload}
use Rattle.rbc_disk.specs.Disk.{Disk}
use Rattle.rbc_disk.specs.Runs.{Told}
use Rattle.sbp_journal.specs.Addresses.{Access}
use Rattle.sbp_journal.specs.Run.{Moment, asked, said}
use Rattle.sbp_journal.specs.Wire.{terms}
use Rattle.sbp_laws.specs.Lawful.{injectors}
use Rattle.sbp_laws.specs.Packets.{access_at, answer_in, answered_at, packet_at, receiver_in}
use Rattle.sbp_laws.specs.Served.{host_reply}
use Rattle.sbp_laws.specs.Targets.{agent_at, over, target_at}
use Rattle.sbp_laws.specs.Turns.{EachMoment}
use Rattle.sbp_world.specs.Histories.{history_of}
use Rattle.sbp_world.specs.Runs.{Run, after, beginning}
use Rattle.sbp_world.specs.Settling.{MayAll, after_all}
use Rattle.sbp_world.specs.Worlds.{WorldState, begun}
use Rattle.sbp_world.specs.Agents.AskedRuns.{serial_of}
use Rattle.sbp_world.specs.Hosts.Runs.{IsRun, more_deliveries}
use Rattle.sbp_world.specs.Lists.AtGots.{AtGot}
use Rattle.sbp_world.specs.Lists.Closes.{UnderFrom, WhereTameOrFew}
use Rattle.sbp_world.specs.Lists.FewLogins.{IsTameOrFew}
use Rattle.sbp_world.specs.Lists.Needs.{IsCalm}

-- ---- a request that an initiator gets now
-- it is answered with rcode 0, and a read with as many bytes as it asks for
pub record IsComplete (past : List Moment) (i : ℕ) (access : Access) : Type 0 where
  pub rcode : (host_reply past i access).rcode ≡ 0
  pub size : access.is_write ≡ false → length (host_reply past i access).given ≡ access.count

-- ---- a request that an agent waits for
-- The agent of a place waits for a request to an initiator, which is in the generation of the target.
pub record WaitsOn (start : List Disk) (past : List Moment) (place i serial : ℕ) (access : Access) : Type 0 where
  pub small : place < 8
  pub which : Which
  pub waits : serial_of which (agent_at (over (target_at start past)) place) ≡ Some serial
  pub to : receiver_in ((terms past).sent serial) ≡ Some (suc i)
  pub level : (terms past).generation 0 ≡ (terms past).generation (suc i)
  pub asks : access_at (terms past) serial ≡ Some access

abbrev pub AreComplete : List Disk → List Moment → WorldState → Type 0
AreComplete start past w = (place i serial : ℕ) (access : Access) → IsCalm past i → WaitsOn start past place i serial access → IsComplete past i access

-- so it is at each place of every run before which lists were open as they should be
abbrev pub CompleteLaw : Type 0
CompleteLaw = UnderFrom (λ start. WhereTameOrFew (AreComplete start))

-- ---- as it is got
-- of each initiator that is not among these
abbrev pub IsCompleteAsGot : (ℕ → Bool) → List Disk → List Moment → ℕ → Type 0
IsCompleteAsGot wild start past serial = (place i : ℕ) (access : Access) → wild i ≡ false → WaitsOn start past place i serial access → IsComplete past i access

abbrev pub CompleteAsGot : (ℕ → Bool) → List Disk → Moment → List Moment → Type 0
CompleteAsGot wild start moment past = AtGot (IsCompleteAsGot wild start) moment past

-- After every line of every run, and behind each delivery of a line that delivers one packet after the other.
pub record CompleteAsGotLaw : Type 0 where
  pub after_lines : (line : ℕ) (run : Run) → IsRun run → 0 < run.units → run.units ≤ 4 → length run.start.disks ≡ run.units → IsTameOrFew (history_of line run) → EachMoment (CompleteAsGot (injectors (history_of line run)) run.start.disks) (history_of line run)
  pub between : (line : ℕ) (run : Run) → IsRun run → 0 < run.units → run.units ≤ 4 → length run.start.disks ≡ run.units → (next : ℕ) (most : Option ℕ) (told : List (Option Told)) → MayAll told (begun (after (beginning run) run.entries)) → (let now = map said (after_all told (begun (after (beginning run) run.entries))).world.fresh ++ asked next (more_deliveries most) ∷ history_of line run in IsTameOrFew now → EachMoment (CompleteAsGot (injectors now) run.start.disks) now)

-- ---- a read of the management operation
-- The operation waits for a read of an initiator: of the management ORB, or of a half of the EUI-64 (NCITS 325-1998, management ORBs; IEEE 1212, bus information block).
pub record OperationReads (start : List Disk) (past : List Moment) (i serial : ℕ) (access : Access) : Type 0 where
  pub manages : (target_at start past).manages ≡ Some serial
  pub to : receiver_in ((terms past).sent serial) ≡ Some (suc i)
  pub asks : access_at (terms past) serial ≡ Some access
  pub reads : access.is_write ≡ false

-- of each initiator that is not among these
abbrev pub AreManagedComplete : (ℕ → Bool) → List Disk → List Moment → ℕ → Type 0
AreManagedComplete wild start past got = (i serial : ℕ) (access : Access) → wild i ≡ false → OperationReads start past i serial access → IsComplete past i access

-- as each packet is got, whatever it is
abbrev pub ManagedCompleteAsGot : (ℕ → Bool) → List Disk → Moment → List Moment → Type 0
ManagedCompleteAsGot wild start moment past = AtGot (AreManagedComplete wild start) moment past

-- After every line of every run, and behind each delivery of a line that delivers one packet after the other.
pub record ManagedCompleteLaw : Type 0 where
  pub after_lines : (line : ℕ) (run : Run) → IsRun run → 0 < run.units → run.units ≤ 4 → length run.start.disks ≡ run.units → IsTameOrFew (history_of line run) → EachMoment (ManagedCompleteAsGot (injectors (history_of line run)) run.start.disks) (history_of line run)
  pub between : (line : ℕ) (run : Run) → IsRun run → 0 < run.units → run.units ≤ 4 → length run.start.disks ≡ run.units → (next : ℕ) (most : Option ℕ) (told : List (Option Told)) → MayAll told (begun (after (beginning run) run.entries)) → (let now = map said (after_all told (begun (after (beginning run) run.entries))).world.fresh ++ asked next (more_deliveries most) ∷ history_of line run in IsTameOrFew now → EachMoment (ManagedCompleteAsGot (injectors now) run.start.disks) now)

-- ---- as the target gets a response
-- it answers a read complete, with as many bytes as were asked for
pub record BringsAll (access : Access) (answer : Answer) : Type 0 where
  pub bytes : List ℕ
  pub is : answer ≡ Payload bytes
  pub size : length bytes ≡ access.count

-- it closes a read that the agent of a place waits for
pub record ClosesRead (start : List Disk) (past : List Moment) (serial i : ℕ) (access : Access) : Type 0 where
  pub place : ℕ
  pub small : place < 8
  pub which : Which
  pub request : ℕ
  pub waits : serial_of which (agent_at (over (target_at start past)) place) ≡ Some request
  pub closed : answered_at (terms past) serial ≡ Some request
  pub to : receiver_in ((terms past).sent request) ≡ Some (suc i)
  pub asks : access_at (terms past) request ≡ Some access
  pub reads : access.is_write ≡ false

-- of each initiator that is not among these
abbrev pub IsWholeAsGot : (ℕ → Bool) → List Disk → List Moment → ℕ → Type 0
IsWholeAsGot wild start past serial = (i : ℕ) (access : Access) → wild i ≡ false → ClosesRead start past serial i access → BringsAll access (answer_in (packet_at (terms past) serial))

abbrev pub WholeAsGot : (ℕ → Bool) → List Disk → Moment → List Moment → Type 0
WholeAsGot wild start moment past = AtGot (IsWholeAsGot wild start) moment past

-- After every line of every run, and behind each delivery of a line that delivers one packet after the other.
pub record WholeAsGotLaw : Type 0 where
  pub after_lines : (line : ℕ) (run : Run) → IsRun run → 0 < run.units → run.units ≤ 4 → length run.start.disks ≡ run.units → IsTameOrFew (history_of line run) → EachMoment (WholeAsGot (injectors (history_of line run)) run.start.disks) (history_of line run)
  pub between : (line : ℕ) (run : Run) → IsRun run → 0 < run.units → run.units ≤ 4 → length run.start.disks ≡ run.units → (next : ℕ) (most : Option ℕ) (told : List (Option Told)) → MayAll told (begun (after (beginning run) run.entries)) → (let now = map said (after_all told (begun (after (beginning run) run.entries))).world.fresh ++ asked next (more_deliveries most) ∷ history_of line run in IsTameOrFew now → EachMoment (WholeAsGot (injectors now) run.start.disks) now)

-- it closes the read of its ORB that the management operation waits for, a read of a block
pub record ClosesOrb (start : List Disk) (past : List Moment) (serial i : ℕ) (access : Access) : Type 0 where
  pub request : ℕ
  pub reads : OperationReads start past i request access
  pub closed : answered_at (terms past) serial ≡ Some request
  pub block : access.is_block ≡ true

abbrev pub IsOrbWholeAsGot : (ℕ → Bool) → List Disk → List Moment → ℕ → Type 0
IsOrbWholeAsGot wild start past serial = (i : ℕ) (access : Access) → wild i ≡ false → ClosesOrb start past serial i access → BringsAll access (answer_in (packet_at (terms past) serial))

abbrev pub OrbWholeAsGot : (ℕ → Bool) → List Disk → Moment → List Moment → Type 0
OrbWholeAsGot wild start moment past = AtGot (IsOrbWholeAsGot wild start) moment past

-- After every line of every run, and behind each delivery of a line that delivers one packet after the other.
pub record OrbWholeAsGotLaw : Type 0 where
  pub after_lines : (line : ℕ) (run : Run) → IsRun run → 0 < run.units → run.units ≤ 4 → length run.start.disks ≡ run.units → IsTameOrFew (history_of line run) → EachMoment (OrbWholeAsGot (injectors (history_of line run)) run.start.disks) (history_of line run)
  pub between : (line : ℕ) (run : Run) → IsRun run → 0 < run.units → run.units ≤ 4 → length run.start.disks ≡ run.units → (next : ℕ) (most : Option ℕ) (told : List (Option Told)) → MayAll told (begun (after (beginning run) run.entries)) → (let now = map said (after_all told (begun (after (beginning run) run.entries))).world.fresh ++ asked next (more_deliveries most) ∷ history_of line run in IsTameOrFew now → EachMoment (OrbWholeAsGot (injectors now) run.start.disks) now)
