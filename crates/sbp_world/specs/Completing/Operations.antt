-- What initiators have under way in a run at rest (NCITS 325-1998, AGENT_STATE and management agent): where a run is without loss and nothing is in flight, no initiator has a read of AGENT_STATE
-- under way, nor an operation that writes no management ORB: a read of the ROM, an AGENT_RESET or an enabling of unsolicited statuses.
-- The write of MANAGEMENT_AGENT of any other one was answered complete.
use Rattle.std.specs.Prelude.{◌≡◌, ◌<◌, ℕ, true, List, [], ◌∷◌, ◌++◌, length, Some}
use Rattle.async_packet.specs.Fields.{rcode_of}
use Rattle.sbp_journal.specs.Run.{Moment, said}
use Rattle.sbp_journal.specs.Transactions.{Sending, Transaction, begun_by}
use Rattle.sbp_journal.specs.Wire.{terms}
use Rattle.sbp_journal.specs.declared.note.Note.TheVariants as notes
use Rattle.sbp_laws.specs.Budget.{Lossless}
use Rattle.sbp_laws.specs.Completion.{in_the_air}
use Rattle.sbp_laws.specs.Hosts.{Underway, host_at, is_management}
use Rattle.sbp_laws.specs.Packets.{answered_at}
use Rattle.sbp_world.specs.Lists.Closes.{Always, WhereTameOrFew}
use Rattle.sbp_world.specs.Lists.Needs.{IsCalm}
use Rattle.sbp_world.specs.Worlds.{WorldState}

-- at each place where a run is without loss, and nothing is in flight
abbrev pub AtRest : (List Moment → WorldState → Type 0) → List Moment → WorldState → Type 0
AtRest Q past w = Lossless past → in_the_air past ≡ 0 → Q past w

-- ---- reads of AGENT_STATE
abbrev pub HaveNoReads : List Moment → WorldState → Type 0
HaveNoReads past w = (i : ℕ) → i < length w.initiators → (host_at past i).reads ≡ []

abbrev pub NoReadsLaw : Type 0
NoReadsLaw = Always (AtRest HaveNoReads)

-- ---- operations
-- a request was answered complete, with rcode 0; its receiver had taken it as new, and had given that rcode to its transaction
pub record WasCompleted (past : List Moment) (serial : ℕ) : Type 0 where
  pub later : List Moment
  pub before : List Moment
  pub got : ℕ
  pub is : later ++ said (notes.Got got) ∷ before ≡ past
  pub closed : answered_at (terms before) got ≡ Some serial
  pub code : (packet : Sending) → (terms before).sent got ≡ Some packet → rcode_of packet.bytes ≡ 0
  pub judged : 0 < (terms before).news serial
  pub asking : Sending
  pub asked : (terms before).sent serial ≡ Some asking
  pub of : Transaction
  pub begun : begun_by asking ≡ Some of
  pub current : (terms before).current of ≡ serial
  pub given : (terms before).given of ≡ 0

-- the operation of each initiator that has one is of the management agent
abbrev pub AreOfManagement : List Moment → WorldState → Type 0
AreOfManagement past w = (i : ℕ) → i < length w.initiators → (underway : Underway) → (host_at past i).operation ≡ Some underway → is_management underway.operation ≡ true

abbrev pub ManagementAloneLaw : Type 0
ManagementAloneLaw = Always (AtRest AreOfManagement)

-- the write of MANAGEMENT_AGENT by which it began was answered complete
abbrev pub AreWritten : List Moment → WorldState → Type 0
AreWritten past w = (i : ℕ) → i < length w.initiators → IsCalm past i → (underway : Underway) → (host_at past i).operation ≡ Some underway → WasCompleted past underway.first

abbrev pub WrittenLaw : Type 0
WrittenLaw = Always (WhereTameOrFew (AtRest AreWritten))
