-- No line changes how many initiators there are, and how many units.
use Rattle.sbp_world.proofs.Words.Std.{◌≡◌, ◌∙◌, refl, ap, Result, Ok, Err, replicate, ℕ, ◌+◌, ◌-◌, ◌==◌, ◌||◌, not, nat_lt, Bool, true, false, cond, List, [], ◌∷◌, length, Option, Some, None, slice_index_or, length-replicate}
use Rattle.sbp_world.proofs.Words.Wire.{Stale, Sent, found_sent, is_flying, deliver_step, Judged, Action, Event, OutboxState, empty_outbox, Request, id_of, no_packet, find}
use Rattle.sbp_world.proofs.Words.Target.{Held, Told, new_unit, NodeState, expired, received, with_key, Whole}
use Rattle.sbp_world.proofs.Words.Initiator.{InitiatorState, act_step, new_state, receive_step, see_step}
use Rattle.sbp_world.proofs.Words.World.{Arrival, arrived, arrived_by, delivered, delivered_by, initiators_received, marked, received_by, received_step, target_received, handed_out, acted, acted_by, happens, happens_to, keyed, no_unit, weight_in, new_world, handed_all, reset_line, see_line, sees, tick_line, delivered_if, expires, first_told, inject_line, injected, injected_to, is_in_flight, lose_line, may_repeat, timed_out, timeout_line, timeout_of, posted, after_all, delivered_at, delivered_next, lowest, Scene, WorldState, begun, initiator_at, with_initiator, with_note, with_target}
use Rattle.std.proofs.lemmas.List.{length-set}
use Rattle.sbp_journal.specs.declared.event.Event.TheVariants as events
use Rattle.sbp_journal.specs.declared.note.Note.TheVariants as notes
use Rattle.sbp_target.specs.Nodes as target
use Rattle.sbp_world.specs.Delivering as delivering
use Rattle.sbp_world.specs.Nodes as nodes
use Rattle.sbp_world.specs.Packets as packets
use Rattle.sbp_world.proofs.Wire.Nodes.{handed_alike}
use Rattle.sbp_world.proofs.Wire.TargetSizes as target_sizes
use Rattle.sbp_world.proofs.Making.{initiators_size}

-- how many initiators there are, and how many units
abbrev pub Sizes : Type 0
Sizes = ℕ × ℕ

abbrev pub sizes : WorldState → Sizes
sizes w = (length w.initiators, length w.target.units)

handed_keeps : (node weight : ℕ) (outbox : OutboxState) (w : WorldState) → sizes (handed_out node weight outbox w) ≡ sizes w
handed_keeps node weight outbox w =
    let a = handed_alike node weight outbox w in
    ap (λ (xs : List InitiatorState). (length xs, length (handed_out node weight outbox w).target.units)) a.initiators
    ∙ ap (λ (t : NodeState). (length w.initiators, length t.units)) a.target

with_keeps : (i : ℕ) (state : InitiatorState) (w : WorldState) → sizes (with_initiator i state w) ≡ sizes w
with_keeps i state w = ap (λ n. (n, length w.target.units)) (length-set w.initiators i state)

target_keeps : (state : NodeState) (w : WorldState) → length state.units ≡ length w.target.units → sizes (with_target state w) ≡ sizes w
target_keeps state w e = ap (λ n. (length w.initiators, n)) e

-- ---- lines that are no delivery

acted_by_keeps : (step : Option ℕ × (OutboxState × InitiatorState)) (line i : ℕ) (action : Action) (w : WorldState) → sizes (acted_by step line i action w) ≡ sizes w
acted_by_keeps (Some number, (outbox, state)) line i action w = with_keeps i state w
acted_by_keeps (None, (outbox, state)) line i action w = handed_keeps (i + 1) (weight_in action) outbox (with_initiator i state w) ∙ with_keeps i state w

acted_keeps : (line i : ℕ) (action : Action) (w : WorldState) → sizes (acted line i action w) ≡ sizes w
unfolding acted
acted_keeps line i action w = acted_by_keeps (act_step action empty_outbox (initiator_at w i)) line i action w

reset_keeps : (ids : List ℕ) (w : WorldState) → sizes (reset_line ids w) ≡ sizes w
unfolding reset_line
reset_keeps ids w = refl

handed_all_keeps : (node : ℕ) (step : OutboxState × WorldState) → sizes (handed_all node step) ≡ sizes step.1
handed_all_keeps node (outbox, w) = handed_keeps node 0 outbox w

target_step : (step : OutboxState × NodeState) (w : WorldState) → length step.1.units ≡ length w.target.units → sizes (nodes.at_target step w).1 ≡ sizes w
target_step (outbox, node) w e = target_keeps node w e

sight_units : (generation id : ℕ) (node : NodeState) → length (nodes.target_sees generation id node).1.units ≡ length node.units
unfolding nodes.target_sees
sight_units generation id node = target_sizes.sees (length node.units) generation id (target.scene node empty_outbox) refl

second_units : (node : NodeState) → length (nodes.target_ticks node).1.units ≡ length node.units
unfolding nodes.target_ticks
second_units node = target_sizes.ticks (length node.units) (target.scene node empty_outbox) refl

initiator_keeps : (i : ℕ) (step : OutboxState × InitiatorState) (w : WorldState) → sizes (nodes.at_initiator i step w).1 ≡ sizes w
initiator_keeps i (outbox, state) w = with_keeps i state w

sees_by : (b : Bool) (node : ℕ) (w : WorldState) → sizes (cond b (nodes.target_learns w) (nodes.initiator_learns node w)).1 ≡ sizes w
sees_by true node w =
    target_step (nodes.target_sees w.generations.latest.generation (id_of w.generations.latest 0) w.target) w (sight_units w.generations.latest.generation (id_of w.generations.latest 0) w.target)
sees_by false node w = initiator_keeps (node - 1) (see_step w.generations.latest.generation (id_of w.generations.latest node) (id_of w.generations.latest 0) empty_outbox (initiator_at w (node - 1))) w

sees_keeps : (node : ℕ) (w : WorldState) → sizes (sees node w).1 ≡ sizes w
unfolding sees
sees_keeps node w = sees_by (node == 0) node w

see_keeps : (node : ℕ) (w : WorldState) → sizes (see_line node w) ≡ sizes w
unfolding see_line
see_keeps node w = let old = nodes.with_seen node (nodes.told_seen node w) in handed_all_keeps node (sees node old) ∙ sees_keeps node old

tick_keeps : (w : WorldState) → sizes (tick_line w) ≡ sizes w
unfolding tick_line
tick_keeps w = let old = with_note notes.Tick w in handed_all_keeps 0 (nodes.at_target (nodes.target_ticks w.target) old) ∙ target_step (nodes.target_ticks w.target) old (second_units w.target)

lose_keeps : (line serial : ℕ) (w : WorldState) → sizes (lose_line line serial w) ≡ sizes w
unfolding lose_line
lose_keeps line serial w = by_test (is_in_flight serial w)
  where
    by_test : (b : Bool) → sizes (cond b (packets.lost serial w) (packets.refused line no_packet w)) ≡ sizes w
    by_test true = refl
    by_test false = refl

timed_keeps : (line serial node : ℕ) (step : Bool × (OutboxState × WorldState)) (n : Sizes) → sizes step.1.1 ≡ n → sizes (timed_out line serial node step) ≡ n
timed_keeps line serial node (true, (outbox, w)) n e = handed_keeps node 0 outbox _ ∙ e
timed_keeps line serial node (false, (outbox, w)) n e = e

target_expiry : (step : Bool × (OutboxState × NodeState)) (w : WorldState) → length step.1.1.units ≡ length w.target.units → sizes (packets.at_target step w).1.1 ≡ sizes w
target_expiry (done, (outbox, node)) w e = target_keeps node w e

left_units : (r : Result (Unit {0}) Stale × target.Scene) (old : NodeState) → length r.1.node.units ≡ length old.units → length (packets.target_left r old).1.1.units ≡ length old.units
left_units (Ok done, s) old e = e
left_units (Err stale, s) old e = refl

expiry_units : (request : Request) (node : NodeState) → length (packets.target_expired request node).1.1.units ≡ length node.units
unfolding packets.target_expired
expiry_units request node =
    left_units (expired request.peer request.label (target.scene node empty_outbox)) node (target_sizes.expires (length node.units) request.peer request.label (target.scene node empty_outbox) refl)

initiator_expiry : (i : ℕ) (step : Bool × (OutboxState × InitiatorState)) (w : WorldState) → sizes (packets.at_initiator i step w).1.1 ≡ sizes w
initiator_expiry i (done, (outbox, state)) w = with_keeps i state w

among : (b : Bool) (request : Request) (w : WorldState) (step : Bool × (OutboxState × InitiatorState)) → sizes (cond b (packets.at_initiator (request.node - 1) step w) (false, (empty_outbox, w))).1.1 ≡ sizes w
among true request w step = initiator_expiry (request.node - 1) step w
among false request w step = refl

expiry_by : (b : Bool) (request : Request) (w : WorldState) (step : Bool × (OutboxState × NodeState)) → length step.1.1.units ≡ length w.target.units → sizes (cond b (packets.at_target step w) (packets.initiator_expires request w)).1.1 ≡ sizes w
expiry_by true request w step e = target_expiry step w e
expiry_by false request w step e = among (nat_lt (request.node - 1) (length w.initiators)) request w _

expires_keep : (request : Request) (w : WorldState) → sizes (expires request w).1.1 ≡ sizes w
unfolding expires
expires_keep request w = expiry_by (request.node == 0) request w (packets.target_expired request w.target) (expiry_units request w.target)

timeout_of_keeps : (request : Option Request) (line serial : ℕ) (w : WorldState) → sizes (timeout_of request line serial w) ≡ sizes w
timeout_of_keeps None line serial w = refl
timeout_of_keeps (Some request) line serial w = timed_keeps line serial request.node (expires request w) (sizes w) (expires_keep request w)

timeout_keeps : (line serial : ℕ) (w : WorldState) → sizes (timeout_line line serial w) ≡ sizes w
unfolding timeout_line
timeout_keeps line serial w = timeout_of_keeps (find w.requests serial) line serial w

injected_keeps : (to : Option ℕ) (line from : ℕ) (bytes : List ℕ) (w : WorldState) → sizes (injected to line from bytes w) ≡ sizes w
unfolding posted
injected_keeps None line from bytes w = refl
injected_keeps (Some to) line from bytes w = refl

inject_keeps : (line initiator : ℕ) (bytes : List ℕ) (w : WorldState) → sizes (inject_line line initiator bytes w) ≡ sizes w
unfolding inject_line
inject_keeps line initiator bytes w = injected_keeps (injected_to (initiator + 1) bytes w) line (initiator + 1) bytes w

keyed_keeps : (line unit : ℕ) (key : List ℕ) (w : WorldState) → sizes (keyed line unit key w) ≡ sizes w
unfolding keyed
keyed_keeps line unit key w = by_test (nat_lt unit (length w.target.units))
  where
    by_test : (b : Bool) → sizes (cond b (with_note (notes.Key unit) (with_target (with_key unit key w.target) w)) (packets.refused line no_unit w)) ≡ sizes w
    by_test true = refl
    by_test false = refl

-- ---- deliveries

at_target_keeps : (node : ℕ) (step : Judged × (OutboxState × (NodeState × Held))) (s : Scene) → length step.1.1.0.units ≡ length s.world.target.units → sizes (delivering.at_target node step s).1.1.world ≡ sizes s.world
at_target_keeps node (judged, (outbox, (state, media))) s e = target_keeps state s.world e

received_units : (r : Judged × Whole) (faults : List ℕ) → length (delivering.left_target r faults).1.1.0.units ≡ length r.1.node.units
received_units (judged, w) faults = refl

delivery_units : (told : Option Told) (packet : Sent) (node : NodeState) (media : Held) → length (target_received told packet node media).1.1.0.units ≡ length node.units
unfolding target_received
delivery_units told packet node media =
    received_units (received told packet.generation packet.bytes (delivering.whole_of node media)) (delivering.faults_after told packet node media)
    ∙ target_sizes.receives (length node.units) told packet.generation packet.bytes (delivering.whole_of node media) refl

at_initiator_keeps : (node : ℕ) (step : Judged × (OutboxState × List InitiatorState)) (s : Scene) → length step.1.1 ≡ length s.world.initiators → sizes (delivering.at_initiator node step s).1.1.world ≡ sizes s.world
at_initiator_keeps node (judged, (outbox, states)) s e = ap (λ n. (n, length s.world.target.units)) e

listed_keeps : (i : ℕ) (step : Judged × (OutboxState × InitiatorState)) (states : List InitiatorState) → length (delivering.listed i step states).1.1 ≡ length states
listed_keeps i (judged, (outbox, state)) states = length-set states i state

initiators_keep : (i : ℕ) (packet : Sent) (states : List InitiatorState) → length (initiators_received i packet states).1.1 ≡ length states
unfolding initiators_received
initiators_keep i packet states = listed_keeps i (receive_step packet.generation packet.bytes empty_outbox (slice_index_or states i (new_state 0 false))) states

initiator_by : (b : Bool) (packet : Sent) (s : Scene) → sizes (cond b (delivering.at_initiator packet.to (initiators_received (packet.to - 1) packet s.world.initiators) s) (delivering.at_none s)).1.1.world ≡ sizes s.world
initiator_by true packet s = at_initiator_keeps packet.to (initiators_received (packet.to - 1) packet s.world.initiators) s (initiators_keep (packet.to - 1) packet s.world.initiators)
initiator_by false packet s = refl

received_at_by : (b : Bool) (told : Option Told) (packet : Sent) (s : Scene) → sizes (cond b (delivering.at_target packet.to (target_received told packet s.world.target s.media) s) (delivering.initiator_received packet s)).1.1.world ≡ sizes s.world
received_at_by true told packet s = at_target_keeps packet.to (target_received told packet s.world.target s.media) s (delivery_units told packet s.world.target s.media)
received_at_by false told packet s = initiator_by (nat_lt (packet.to - 1) (length s.world.initiators)) packet s

received_by_keeps : (told : Option Told) (packet : Option Sent) (s : Scene) → sizes (received_by told packet s).1.1.world ≡ sizes s.world
received_by_keeps told None s = refl
received_by_keeps told (Some packet) s = received_at_by (packet.to == 0) told packet s

received_keeps : (told : Option Told) (serial : ℕ) (s : Scene) → sizes (received_step told serial s).1.1.world ≡ sizes s.world
unfolding received_step
received_keeps told serial s = received_by_keeps told (found_sent serial s.world.store.kept) s

marked_keeps : (serial : ℕ) (again : Bool) (w : WorldState) → sizes (marked serial again w) ≡ sizes w
marked_keeps serial again w = by_test (again || not (is_flying serial w.store.kept))
  where
    by_test : (b : Bool) → sizes (cond b w (record w { store = deliver_step w.store serial })) ≡ sizes w
    by_test true = refl
    by_test false = refl

arrived_keeps : (serial : ℕ) (again : Bool) (a : Arrival) (outbox : OutboxState) (w : WorldState) → sizes (arrived serial again a outbox w) ≡ sizes w
unfolding arrived
arrived_keeps serial again a outbox w = handed_keeps a.node 0 outbox _ ∙ marked_keeps serial again w

arrived_by_keeps : (serial : ℕ) (again : Bool) (a : Option Arrival) (outbox : OutboxState) (w : WorldState) → sizes (arrived_by serial again a outbox w) ≡ sizes w
arrived_by_keeps serial again None outbox w = refl
arrived_by_keeps serial again (Some a) outbox w = arrived_keeps serial again a outbox w

delivered_by_keeps : (serial : ℕ) (again : Bool) (step : Option Arrival × (OutboxState × Scene)) → sizes (delivered_by serial again step).world ≡ sizes step.1.1.world
delivered_by_keeps serial again (a, (outbox, s)) = arrived_by_keeps serial again a outbox s.world

delivered_keeps : (serial : ℕ) (again : Bool) (told : Option Told) (s : Scene) → sizes (delivered serial again told s).world ≡ sizes s.world
unfolding delivered
delivered_keeps serial again told s = delivered_by_keeps serial again (received_step told serial s) ∙ received_keeps told serial s

delivered_if_keeps : (b : Bool) (line serial : ℕ) (again : Bool) (told : List (Option Told)) (s : Scene) → sizes (delivered_if b line serial again told s).world ≡ sizes s.world
delivered_if_keeps true line serial again told s = delivered_keeps serial again (first_told told) s
delivered_if_keeps false line serial again told s = refl

at_keeps : (serial : Option ℕ) (told : Option Told) (s : Scene) → sizes (delivered_at serial told s).world ≡ sizes s.world
at_keeps None told s = refl
at_keeps (Some serial) told s = delivered_keeps serial false told s

next_keeps : (told : Option Told) (s : Scene) → sizes (delivered_next told s).world ≡ sizes s.world
unfolding delivered_next
next_keeps told s = at_keeps (lowest s.world) told s

all_keep : (told : List (Option Told)) (s : Scene) → sizes (after_all told s).world ≡ sizes s.world
all_keep [] s = refl
all_keep (told ∷ before) s = next_keeps told (after_all before s) ∙ all_keep before s

-- ---- a line

to_keeps : (line : ℕ) (event : Event) (told : List (Option Told)) (s : Scene) → sizes (happens_to line event told s).world ≡ sizes s.world
to_keeps line (events.Begin initiators ready) told s = refl
to_keeps line (events.Act initiator action) told s = acted_keeps line initiator action s.world
to_keeps line (events.Reset ids) told s = reset_keeps ids s.world
to_keeps line (events.See node) told s = see_keeps node s.world
to_keeps line (events.Deliver serial) told s = delivered_if_keeps (is_in_flight serial s.world) line serial false told s
to_keeps line (events.Repeat serial) told s = delivered_if_keeps (may_repeat serial s.world) line serial true told s
to_keeps line (events.Lose serial) told s = lose_keeps line serial s.world
to_keeps line (events.Timeout serial) told s = timeout_keeps line serial s.world
to_keeps line (events.Step most) told s = all_keep told s
to_keeps line events.Settle told s = all_keep told s
to_keeps line events.Tick told s = tick_keeps s.world
to_keeps line (events.Inject initiator bytes) told s = inject_keeps line initiator bytes s.world
to_keeps line (events.Key unit key) told s = keyed_keeps line unit key s.world

pub happens_keeps : (line : ℕ) (event : Event) (told : List (Option Told)) (s : Scene) → sizes (happens line event told s).world ≡ sizes s.world
unfolding happens
happens_keeps line event told s = to_keeps line event told (begun s)

pub new_sizes : (initiators : ℕ) (ready : Bool) (units : ℕ) → sizes (new_world initiators ready units) ≡ (initiators, units)
unfolding new_world
new_sizes initiators ready units =
    ap (λ n. (n, length (replicate units new_unit))) (initiators_size initiators ready) ∙ ap (λ n. (initiators, n)) (length-replicate units new_unit)
