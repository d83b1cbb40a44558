-- What is left of a run is no less than the packets in flight; and where the run is lossless it is no more than the budget of the deliveries that may follow.
use Rattle.sbp_world.proofs.Words.Std.{arith, ◌≡◌, ◌∙◌, sym, ◌<◌, ◌≤◌, ◌+◌, ◌*◌, ℕ, zero, suc, Bool, true, false, cond, List, [], ◌∷◌, length, Option, Some, None}
use Rattle.sbp_world.proofs.Words.Wire.{Kept, Moment, Sent, flying, terms}
use Rattle.sbp_world.proofs.Words.Target.{Operation, desk_at}
use Rattle.sbp_world.proofs.Words.World.{WorldState}
use Rattle.mgmt_agent.specs.declared.operation.Phase.{Phase}
use Rattle.mgmt_agent.specs.declared.operation.Phase.TheVariants as phases
use Rattle.packet_store.specs.Weights.{weight}
use Rattle.sbp_initiator.specs.declared.state.InitiatorState.{InitiatorState}
use Rattle.sbp_laws.specs.Budget.{Lossless, budget, initiators}
use Rattle.sbp_laws.specs.Completion.{in_the_air}
use Rattle.sbp_target.specs.RequestsLeft.{node_left, operation_left, phase_left, place_left, sum_below}
use Rattle.sbp_world.specs.Counting.Left.{left, quadlets_left}
use Rattle.sbp_world.specs.Counting.Rooms.{chunks_in, left_at, over_places, tables_of}
use Rattle.sbp_world.specs.Counting.Wire.{flight_weight, is_unjudged, wire}
use Rattle.sbp_world.proofs.Counting.Start.{IsStart, rooms_start}
use Rattle.sbp_world.proofs.Counting.StartManaging.{AreAsking, AreKept, managing_most}
use Rattle.sbp_world.proofs.Counting.WireWeights.{request_least, weighs_at_most}
use Rattle.sbp_world.proofs.Words.Laws.{access_in_bytes}
use Rattle.sbp_world.proofs.Hosts.OrbSpelled.{bit_small}

-- ---- each packet in flight weighs one at least
pub flown_weigh : (counts : ℕ → Sent → Bool) (kept : List Kept) → length (flying kept) ≤ weight (flight_weight counts) kept
flown_weigh counts [] = omega arith
flown_weigh counts (k ∷ kept) = by k.in_flight (flown_weigh counts kept)
  where
    by : (b : Bool) → length (flying kept) ≤ weight (flight_weight counts) kept → length (cond b (k.serial ∷ flying kept) (flying kept)) ≤ cond b (flight_weight counts k.serial k.sent) 0 + weight (flight_weight counts) kept
    by true rest = let one = request_least (access_in_bytes k.sent.bytes) in omega (arith, one, rest)
    by false rest = omega (arith, rest)

pub flights_are_left : (now : List Moment) (w : WorldState) → in_the_air now ≡ length (flying w.store.kept) → in_the_air now ≤ left now w
flights_are_left now w flown = let few = flown_weigh (is_unjudged (terms now)) w.store.kept in omega (arith, flown, few)

-- ---- the target and the initiators, but for the ORBs

phase_most : (phase : Phase) → phase_left phase ≤ 4
phase_most phases.Orb = omega arith
phase_most (phases.HighEui orb) = omega arith
phase_most (phases.LowEui orb high) = omega arith
phase_most (phases.Response fifo) = omega arith
phase_most phases.Status = omega arith

operation_most : (operation : Option Operation) → operation_left operation ≤ 4
operation_most None = omega arith
operation_most (Some operation) = phase_most operation.phase

sum_most : (f g : ℕ → ℕ) (more : ℕ) → ((place : ℕ) → f place ≤ g place + more) → (places : ℕ) → sum_below places f ≤ over_places g places + places * more
unfolding sum_below over_places
sum_most f g more e zero = omega arith
sum_most f g more e (suc place) =
    let rest = sum_most f g more e place in
    let one = e place in
    let product : suc place * more ≡ more + place * more = omega arith in
    omega (arith, rest, one, product)

quadlets_most : (states : List InitiatorState) → quadlets_left states ≤ 256 * length states
quadlets_most [] = omega arith
quadlets_most (state ∷ states) = let rest = quadlets_most states in omega (arith, rest)

module _ (now : List Moment) (w : WorldState) where
  place_most : (place : ℕ) → place_left (tables_of now w) (chunks_in now w) w.target place ≤ left_at now w place + 2
  place_most place =
      let desk = desk_at w.target place in
      let one = bit_small desk.agent.doorbell in
      let two = bit_small desk.is_enabled in
      omega (arith, one, two)

  node_most : node_left (tables_of now w) (chunks_in now w) w.target ≤ over_places (left_at now w) 8 + 20
  node_most =
      let places = sum_most (place_left (tables_of now w) (chunks_in now w) w.target) (left_at now w) 2 place_most 8 in
      let operation = operation_most w.target.manager.operation in
      omega (arith, places, operation)

-- ---- the start
-- what is known at a place of a run in which nobody injected packets
pub record AtStart (now : List Moment) (w : WorldState) : Type 0 where
  pub kept : AreKept now w
  pub flown : in_the_air now ≡ length (flying w.store.kept)
  pub asking : AreAsking now w
  pub rooms : IsStart now w
  pub count : length w.initiators ≡ initiators now
  pub some : 0 < length w.initiators

module _ (now : List Moment) (w : WorldState) (at : AtStart now w) (lossless : Lossless now) where
  seen : (i : ℕ) → i < length w.initiators → (terms now).generation 0 ≡ (terms now).generation (suc i)
  seen i l =
      let count = at.count in
      lossless.seen 0 (omega arith) ∙ sym (lossless.seen (suc i) (omega (arith, l, count)))

  wire_most : wire (is_unjudged (terms now)) w ≤ 4 * in_the_air now + 8 * length w.initiators
  wire_most =
      let most = weighs_at_most (is_unjudged (terms now)) w.store.kept in
      let few = managing_most now w at.kept at.asking seen in
      let flown = at.flown in
      omega (arith, most, few, flown)

  pub left_at_start : left now w ≤ budget now
  left_at_start =
      let packets = wire_most in
      let node = node_most now w in
      let rooms = rooms_start now w at.rooms in
      let quadlets = quadlets_most w.initiators in
      let count = at.count in
      let some = at.some in
      omega (arith, packets, node, rooms, quadlets, count, some)
