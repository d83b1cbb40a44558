-- What the packets in flight weigh in the count of the deliveries that may follow: 2 for a request, since its response may follow it, and 1 for any other packet; and for a request of
-- an initiator twice as many more as the target may come to send requests for it. That is one for a write of a quadlet at DOORBELL or at UNSOLICITED_STATUS_ENABLE of an
-- agent, and five for a write of MANAGEMENT_AGENT that waits to be judged: the reads of its ORB and of the two quadlets of an EUI-64, and the writes of its response and of
-- its status block (NCITS 325-1998, command block agents and management agent).
use Rattle.std.specs.Prelude.{◌≡◌, ◌≤◌, ℕ, suc, ◌+◌, ◌*◌, ◌==◌, ◌&&◌, Bool, true, false, if◌then◌else◌, List, length, Option, Some, None}
use Rattle.packet_store.specs.declared.sent.Kept.{Kept}
use Rattle.packet_store.specs.declared.sent.Sent.{Sent}
use Rattle.packet_store.specs.Kept.{flying, found_sent, is_flying}
use Rattle.packet_store.specs.Weights.{weight}
use Rattle.rbc_disk.specs.Runs.{Told}
use Rattle.sbp_initiator.specs.Receiving.{receive_step}
use Rattle.sbp_journal.specs.Addresses.{Access, Start, doorbell, management_agent, register, start_at, unsolicited_enable, writes_pointer, writes_quadlet}
use Rattle.sbp_journal.specs.Outgoings.{empty_outbox}
use Rattle.sbp_journal.specs.Wire.{Terms}
use Rattle.sbp_journal.specs.declared.outbox.Outgoing.{Outgoing}
use Rattle.sbp_laws.specs.Packets.{access_in_bytes}
use Rattle.sbp_target.specs.Receiving.{received}
use Rattle.sbp_target.specs.Requests.{requests}
use Rattle.sbp_world.specs.Delivering.{delivered, whole_of}
use Rattle.sbp_world.specs.FitTarget.{BytesTold}
use Rattle.sbp_world.specs.Runs.{after}
use Rattle.sbp_world.specs.Worlds.{Scene, WorldState, initiator_at}

-- ---- the weight of a packet
-- how many requests the target may come to send for a request, where its write of MANAGEMENT_AGENT counts or not
abbrev pub due_at : Bool → Start → Access → ℕ
due_at counts (register place doorbell) access = if writes_quadlet access then 1 else 0
due_at counts (register place unsolicited_enable) access = if writes_quadlet access then 1 else 0
due_at counts management_agent access = if counts && writes_pointer access then 5 else 0
due_at counts start access = 0

abbrev pub due_by : Bool → Option Access → ℕ
due_by counts None = 0
due_by counts (Some access) = due_at counts (start_at access.offset) access

-- for none that the target sent itself
abbrev pub due_of : Bool → (from : ℕ) → List ℕ → ℕ
due_of counts from bytes = if from == 0 then 0 else due_by counts (access_in_bytes bytes)

-- a request asks for an access
abbrev pub packet_by : Option Access → ℕ
packet_by None = 1
packet_by (Some access) = 2

abbrev pub flight_weight : (ℕ → Sent → Bool) → ℕ → Sent → ℕ
flight_weight counts serial sent = packet_by (access_in_bytes sent.bytes) + 2 * due_of (counts serial sent) sent.from sent.bytes

-- what the packets in flight weigh together
abbrev pub wire : (ℕ → Sent → Bool) → WorldState → ℕ
wire counts w = weight (flight_weight counts) w.store.kept

-- A packet counts as one that waits to be judged, and is of the generation that the target is in.
abbrev pub is_unjudged : Terms → ℕ → Sent → Bool
is_unjudged t serial sent = (t.news serial == 0) && (sent.generation == t.generation 0)

-- ---- a delivery
-- what a delivery of a packet hands out, at the target and at an initiator
abbrev pub handed_by_target : Option Told → Sent → Scene → List Outgoing
handed_by_target told sent s = (received told sent.generation sent.bytes (whole_of s.world.target s.media)).1.outbox.packets

abbrev pub handed_by_own : (i : ℕ) → Sent → Scene → List Outgoing
handed_by_own i sent s = (receive_step sent.generation sent.bytes empty_outbox (initiator_at s.world i)).1.0.packets

-- The wire weighs less by one at least, and by what was due for the packet, but for the requests that its node hands out.
abbrev pub FallsBy : (ℕ → Sent → Bool) → (serial : ℕ) → Sent → List Outgoing → (before after : WorldState) → Type 0
FallsBy counts serial sent packets before after = wire counts after + (1 + 2 * due_of (counts serial sent) sent.from sent.bytes) ≤ wire counts before + 2 * requests packets

-- ---- the start
-- the writes of MANAGEMENT_AGENT in flight that count
abbrev pub manages_at : Bool → Start → Access → Bool
manages_at counts management_agent access = counts && writes_pointer access
manages_at counts start access = false

abbrev pub manages_by : Bool → Option Access → Bool
manages_by counts None = false
manages_by counts (Some access) = manages_at counts (start_at access.offset) access

abbrev pub manages_of : Bool → (from : ℕ) → List ℕ → Bool
manages_of counts from bytes = if from == 0 then false else manages_by counts (access_in_bytes bytes)

abbrev pub managing : (ℕ → Sent → Bool) → ℕ → Sent → ℕ
managing counts serial sent = if manages_of (counts serial sent) sent.from sent.bytes then 1 else 0

-- The packets in flight weigh four each at most, and a write of MANAGEMENT_AGENT that counts eight more.
abbrev pub WeighsAtMost : Type 0
WeighsAtMost = (counts : ℕ → Sent → Bool) (kept : List Kept) → weight (flight_weight counts) kept ≤ 4 * length (flying kept) + 8 * weight (managing counts) kept

-- Where fewer packets count, the packets in flight weigh no more.
abbrev pub FewerWeighLess : Type 0
FewerWeighLess = (counts fewer : ℕ → Sent → Bool) → ((serial : ℕ) (sent : Sent) → fewer serial sent ≡ true → counts serial sent ≡ true) → (kept : List Kept) → weight (flight_weight fewer) kept ≤ weight (flight_weight counts) kept

-- ---- in every run
-- a packet is in flight under a serial
pub record FliesAs (w : WorldState) (serial : ℕ) (sent : Sent) : Type 0 where
  pub found : found_sent serial w.store.kept ≡ Some sent
  pub flies : is_flying serial w.store.kept ≡ true

-- so it is with each delivery, whatever counts
pub record WireFalls (s : Scene) : Type 0 where
  pub at_target : (counts : ℕ → Sent → Bool) (serial : ℕ) (sent : Sent) → FliesAs s.world serial sent → (told : Option Told) → BytesTold told → sent.to ≡ 0 → FallsBy counts serial sent (handed_by_target told sent s) s.world (delivered serial false told s).world
  pub at_own : (counts : ℕ → Sent → Bool) (serial : ℕ) (sent : Sent) → FliesAs s.world serial sent → (told : Option Told) (i : ℕ) → sent.to ≡ suc i → FallsBy counts serial sent (handed_by_own i sent s) s.world (delivered serial false told s).world
