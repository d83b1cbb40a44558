-- What packets in flight weigh: at most four each, and eight more for a write of MANAGEMENT_AGENT that counts; less where fewer count; and what a node hands out weighs one for each response, and
-- two for each request, where none of its requests is a write.
use Rattle.sbp_world.proofs.Words.Std.{arith, ◌≡◌, ◌∙◌, refl, ap, ℕ, ◌+◌, ◌*◌, ◌≤◌, ◌==◌, ◌&&◌, not, is_some, Bool, true, false, cond, List, [], ◌∷◌, length, Option, Some, None}
use Rattle.sbp_world.proofs.Words.Wire.{Access, GenerationsState, Outgoing, OutboxState, Sent, Stored, flying, node_of, start_at, topology_at}
use Rattle.sbp_world.proofs.Words.Laws.{access_in_bytes}
use Rattle.sbp_world.proofs.Words.World.{WorldState, bus_of, handed_out, told_all}
use Rattle.packet_store.specs.Weights.{weight}
use Rattle.sbp_bus.specs.Sending as sending
use Rattle.sbp_bus.specs.Weights.{last_after, leaving, leaving_to}
use Rattle.sbp_bus.proofs.Leaving.{leaving_law}
use Rattle.sbp_journal.specs.Addresses.{Start, agent_reset, agent_state, doorbell, management_agent, no_start, orb_pointer, register, rom_start, unsolicited_enable, writes_pointer, writes_quadlet}
use Rattle.sbp_target.specs.Requests.{requests}
use Rattle.sbp_world.specs.Counting.Wire.{FewerWeighLess, WeighsAtMost, due_at, due_by, due_of, flight_weight, manages_at, manages_by, manages_of, managing, packet_by}
use Rattle.sbp_world.proofs.Agents.Peers.{all_told_store}
use Rattle.sbp_world.proofs.Buses.{handed_on}
use Rattle.sbp_world.proofs.Pointers.Quiet.{AreQuiet, writes_in}
use Rattle.sbp_world.proofs.Wire.Alike.{told_alike}

-- ---- a packet
pub one_most : (b : Bool) → cond b 1 0 ≤ 1
one_most true = omega arith
one_most false = omega arith

due_most : (counts : Bool) (start : Start) (access : Access) → due_at counts start access ≤ 1 + 4 * cond (manages_at counts start access) 1 0
due_most counts (register place doorbell) access = let one = one_most (writes_quadlet access) in omega (arith, one)
due_most counts (register place unsolicited_enable) access = let one = one_most (writes_quadlet access) in omega (arith, one)
due_most counts (register place agent_state) access = omega arith
due_most counts (register place agent_reset) access = omega arith
due_most counts (register place orb_pointer) access = omega arith
due_most counts rom_start access = omega arith
due_most counts no_start access = omega arith
due_most counts management_agent access = by (counts && writes_pointer access)
  where
    by : (b : Bool) → cond b 5 0 ≤ 1 + 4 * cond b 1 0
    by true = omega arith
    by false = omega arith

packet_most : (counts : Bool) (asks : Option Access) → packet_by asks + 2 * due_by counts asks ≤ 4 + 8 * cond (manages_by counts asks) 1 0
packet_most counts None = omega arith
packet_most counts (Some access) = let due = due_most counts (start_at access.offset) access in omega (arith, due)

request_most : (asks : Option Access) → packet_by asks ≤ 2
request_most None = omega arith
request_most (Some access) = omega arith

pub request_least : (asks : Option Access) → 1 ≤ packet_by asks
request_least None = omega arith
request_least (Some access) = omega arith

sent_most : (counts : Bool) (from : ℕ) (bytes : List ℕ) → packet_by (access_in_bytes bytes) + 2 * due_of counts from bytes ≤ 4 + 8 * cond (manages_of counts from bytes) 1 0
sent_most counts from bytes = by (from == 0)
  where
    by : (b : Bool) → packet_by (access_in_bytes bytes) + 2 * cond b 0 (due_by counts (access_in_bytes bytes)) ≤ 4 + 8 * cond (cond b false (manages_by counts (access_in_bytes bytes))) 1 0
    by true = let few = request_most (access_in_bytes bytes) in omega (arith, few)
    by false = packet_most counts (access_in_bytes bytes)

-- ---- those that are in flight
pub weighs_at_most : WeighsAtMost
weighs_at_most counts [] = omega arith
weighs_at_most counts (k ∷ kept) = by k.in_flight (weighs_at_most counts kept)
  where
    by : (b : Bool) → weight (flight_weight counts) kept ≤ 4 * length (flying kept) + 8 * weight (managing counts) kept → cond b (flight_weight counts k.serial k.sent) 0 + weight (flight_weight counts) kept ≤ 4 * length (cond b (k.serial ∷ flying kept) (flying kept)) + 8 * (cond b (managing counts k.serial k.sent) 0 + weight (managing counts) kept)
    by true rest = let one = sent_most (counts k.serial k.sent) k.sent.from k.sent.bytes in omega (arith, rest, one)
    by false rest = omega (arith, rest)

-- a write of MANAGEMENT_AGENT that does not count weighs less
fewer_at : (counts fewer : Bool) → (fewer ≡ true → counts ≡ true) → (start : Start) (access : Access) → due_at fewer start access ≤ due_at counts start access
fewer_at counts fewer less (register place doorbell) access = omega arith
fewer_at counts fewer less (register place unsolicited_enable) access = omega arith
fewer_at counts fewer less (register place agent_state) access = omega arith
fewer_at counts fewer less (register place agent_reset) access = omega arith
fewer_at counts fewer less (register place orb_pointer) access = omega arith
fewer_at counts fewer less rom_start access = omega arith
fewer_at counts fewer less no_start access = omega arith
fewer_at counts fewer less management_agent access = by counts fewer less
  where
    by : (a b : Bool) → (b ≡ true → a ≡ true) → cond (b && writes_pointer access) 5 0 ≤ cond (a && writes_pointer access) 5 0
    by a false l = omega arith
    by true true l = omega arith
    by false true l = absurd (let no : false ≡ true = l refl in cc)

fewer_by : (counts fewer : Bool) → (fewer ≡ true → counts ≡ true) → (asks : Option Access) → due_by fewer asks ≤ due_by counts asks
fewer_by counts fewer less None = omega arith
fewer_by counts fewer less (Some access) = fewer_at counts fewer less (start_at access.offset) access

fewer_of : (counts fewer : Bool) → (fewer ≡ true → counts ≡ true) → (from : ℕ) (bytes : List ℕ) → due_of fewer from bytes ≤ due_of counts from bytes
fewer_of counts fewer less from bytes = by (from == 0)
  where
    by : (b : Bool) → cond b 0 (due_by fewer (access_in_bytes bytes)) ≤ cond b 0 (due_by counts (access_in_bytes bytes))
    by true = omega arith
    by false = fewer_by counts fewer less (access_in_bytes bytes)

pub fewer_weigh_less : FewerWeighLess
fewer_weigh_less counts fewer less [] = omega arith
fewer_weigh_less counts fewer less (k ∷ kept) = by k.in_flight (fewer_weigh_less counts fewer less kept)
  where
    by : (b : Bool) → weight (flight_weight fewer) kept ≤ weight (flight_weight counts) kept → cond b (flight_weight fewer k.serial k.sent) 0 + weight (flight_weight fewer) kept ≤ cond b (flight_weight counts k.serial k.sent) 0 + weight (flight_weight counts) kept
    by true rest = let one = fewer_of (counts k.serial k.sent) (fewer k.serial k.sent) (less k.serial k.sent) k.sent.from k.sent.bytes in omega (arith, rest, one)
    by false rest = omega (arith, rest)

-- ---- what a node hands out
-- the responses among packets, which have no label and ask for nothing
abbrev pub answers : List Outgoing → ℕ
answers [] = 0
answers (packet ∷ later) = cond (is_some packet.label) 0 1 + answers later

abbrev pub AreAnswers : List Outgoing → Type 0
AreAnswers [] = Unit {0}
AreAnswers (packet ∷ later) = (is_some packet.label ≡ false → access_in_bytes packet.bytes ≡ None) × AreAnswers later

-- nothing is due for them
abbrev pub NoneDue : ℕ → List Outgoing → Type 0
NoneDue from [] = Unit {0}
NoneDue from (packet ∷ later) = ((counts : Bool) → due_of counts from packet.bytes ≡ 0) × NoneDue from later

pub target_none : (packets : List Outgoing) → NoneDue 0 packets
target_none [] = tt
target_none (packet ∷ later) = (λ counts. refl, target_none later)

none_written : (a b : Bool) → cond {A = ℕ} (not a && false && b) 1 0 ≡ 0
none_written true b = refl
none_written false b = refl

none_managed : (c a b d : Bool) → cond {A = ℕ} (c && (not a && false && b && d)) 5 0 ≡ 0
none_managed true true b d = refl
none_managed true false b d = refl
none_managed false a b d = refl

quiet_at : (counts : Bool) (start : Start) (access : Access) → access.is_write ≡ false → due_at counts start access ≡ 0
quiet_at counts (register place doorbell) access e = ap {B = ℕ} (λ b. cond (not access.is_lock && b && not access.is_block) 1 0) e ∙ none_written access.is_lock (not access.is_block)
quiet_at counts (register place unsolicited_enable) access e = ap {B = ℕ} (λ b. cond (not access.is_lock && b && not access.is_block) 1 0) e ∙ none_written access.is_lock (not access.is_block)
quiet_at counts management_agent access e =
    ap {B = ℕ} (λ b. cond (counts && (not access.is_lock && b && access.is_block && (access.count == 8))) 5 0) e ∙ none_managed counts access.is_lock access.is_block (access.count == 8)
quiet_at counts (register place agent_state) access e = refl
quiet_at counts (register place agent_reset) access e = refl
quiet_at counts (register place orb_pointer) access e = refl
quiet_at counts rom_start access e = refl
quiet_at counts no_start access e = refl

quiet_by : (counts : Bool) (asks : Option Access) → writes_in asks ≡ false → due_by counts asks ≡ 0
quiet_by counts None e = refl
quiet_by counts (Some access) e = quiet_at counts (start_at access.offset) access e

quiet_of : (counts : Bool) (from : ℕ) (bytes : List ℕ) → writes_in (access_in_bytes bytes) ≡ false → due_of counts from bytes ≡ 0
quiet_of counts from bytes e = by (from == 0)
  where
    by : (b : Bool) → cond b 0 (due_by counts (access_in_bytes bytes)) ≡ 0
    by true = refl
    by false = quiet_by counts (access_in_bytes bytes) e

pub own_none : (from : ℕ) (packets : List Outgoing) → AreQuiet packets → NoneDue from packets
own_none from [] h = tt
own_none from (packet ∷ later) h = (λ counts. quiet_of counts from packet.bytes h.0, own_none from later h.1)

module _ (counts : ℕ → Sent → Bool) (generations : GenerationsState) (from : ℕ) where
  one_leaves : (to : Option ℕ) (last : ℕ) (packet : Outgoing) → (is_some packet.label ≡ false → access_in_bytes packet.bytes ≡ None) → ((b : Bool) → due_of b from packet.bytes ≡ 0) → leaving_to to (flight_weight counts) generations from last packet.bytes ≤ 2 * cond (is_some packet.label) 1 0 + cond (is_some packet.label) 0 1
  one_leaves None last packet plain none = omega arith
  one_leaves (Some to) last packet plain none =
      let q = sending.packet_of (topology_at generations from).generation from to false packet.bytes in
      by (counts (last + 1) q) (is_some packet.label) plain
    where
      by : (c b : Bool) → (b ≡ false → access_in_bytes packet.bytes ≡ None) → packet_by (access_in_bytes packet.bytes) + 2 * due_of c from packet.bytes ≤ 2 * cond b 1 0 + cond b 0 1
      by c true h = let few = request_most (access_in_bytes packet.bytes) in let due = none c in omega (arith, few, due)
      by c false h = let one : packet_by (access_in_bytes packet.bytes) ≡ 1 = ap packet_by (h refl) in let due = none c in omega (arith, one, due)

  pub leaving_most : (last : ℕ) (packets : List Outgoing) → AreAnswers packets → NoneDue from packets → leaving (flight_weight counts) generations from last packets ≤ 2 * requests packets + answers packets
  leaving_most last [] plain none = omega arith
  leaving_most last (packet ∷ later) plain none =
      let to = node_of generations from packet.to in
      let one = one_leaves to last packet plain.0 none.0 in
      let rest = leaving_most (last_after to last) later plain.1 none.1 in
      omega (arith, one, rest)

-- ---- as it hands them out
pub handed_weighs : (f : ℕ → Sent → ℕ) (node load : ℕ) (outbox : OutboxState) (w : WorldState) → weight f (handed_out node load outbox w).store.kept ≤ weight f w.store.kept + leaving f w.generations node w.store.last outbox.packets
handed_weighs f node load outbox w =
    let v = told_all load outbox.sides w in
    let b = bus_of v in
    let law = leaving_law f node outbox.packets b in
    let is = handed_on node load outbox outbox.packets v v w (sending.sent_all node outbox.packets b) refl refl refl refl in
    let after = ap (λ (x : WorldState). weight f x.store.kept) is in
    let store = all_told_store load outbox.sides w in
    let before = ap (λ (s : Stored). weight f s.kept) store in
    let last = ap (λ (s : Stored). leaving f v.generations node s.last outbox.packets) store in
    let known = ap (λ (g : GenerationsState). leaving f g node w.store.last outbox.packets) (told_alike load outbox.sides w).generations in
    omega (arith, law, after, before, last, known)
