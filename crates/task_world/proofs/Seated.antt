-- The target of a task world is the seat of its task node, and it has one initiator, behind every line of every run.
use Rattle.std.proofs.Common.{◌≡◌, ◌∙◌, refl, ap, subst, sym, ℕ, ◌-◌, ◌==◌, ◌||◌, not, nat_lt, Bool, true, false, cond, List, [], ◌∷◌, length, slice_index_or, ◌+◌, Option, Some, None}
use Rattle.std.proofs.lemmas.Bool.{false≢true}
use Rattle.std.proofs.lemmas.List.{length-set}
use Rattle.packet_store.specs.declared.sent.Sent.{Sent}
use Rattle.packet_store.specs.Kept.{found_sent}
use Rattle.rbc_disk.specs.Held.{Held}
use Rattle.rbc_disk.specs.Runs.{Told}
use Rattle.sbp_bus.specs.declared.requests.Request.{Request}
use Rattle.sbp_bus.specs.Packets.{judged_note, no_packet}
use Rattle.sbp_bus.specs.Requests.{find}
use Rattle.sbp_initiator.specs.declared.state.InitiatorState.{InitiatorState}
use Rattle.sbp_initiator.specs.Acting.{act_step}
use Rattle.sbp_initiator.specs.Initiators.{new_state}
use Rattle.sbp_initiator.specs.Receiving.{expire_step, receive_step}
use Rattle.sbp_journal.specs.declared.cause.Judged.{Judged}
use Rattle.sbp_journal.specs.declared.event.Action.{Action}
use Rattle.sbp_journal.specs.declared.event.Event.{Event}
use Rattle.sbp_journal.specs.declared.event.Event.TheVariants as events
use Rattle.sbp_journal.specs.declared.note.Note.TheVariants as notes
use Rattle.sbp_journal.specs.Outgoings.{OutboxState, empty_outbox}
use Rattle.sbp_world.specs.declared.parts.delivering.Arrival.{Arrival}
use Rattle.sbp_world.specs.Delivering.{arrived, arrived_by, at_initiator, at_none, initiator_received, initiators_received, listed, marked}
use Rattle.sbp_world.specs.Handing.{handed_out}
use Rattle.sbp_world.specs.Lines.{acted, acted_by, weight_in}
use Rattle.sbp_world.specs.Making.{new_initiators, new_world}
use Rattle.sbp_world.specs.Packets.{first_told, initiator_expires, is_in_flight, lose_line, lost, may_repeat, refused}
use Rattle.sbp_world.specs.Packets as worlds
use Rattle.sbp_world.specs.Runs.{Entry}
use Rattle.sbp_world.specs.Settling.{lowest}
use Rattle.sbp_world.specs.Worlds.{Scene, WorldState, initiator_at, with_initiator, with_note}
use Rattle.sbp_world.proofs.Wire.Alike.{IsAlike}
use Rattle.sbp_world.proofs.Wire.Nodes.{handed_alike, marked_alike}
use Rattle.task_target.specs.Nodes.{TaskNode}
use Rattle.task_world.specs.Delivering.{at_node, at_other, delivered, delivered_by, received_by, received_step, task_received}
use Rattle.task_world.specs.Lines.{happens_to, is_task_line, task_happens}
use Rattle.task_world.specs.Making.{first_scene}
use Rattle.task_world.specs.Packets.{delivered_if, expires, task_expired, timed_out, timeout_line, timeout_of}
use Rattle.task_world.specs.Packets as packets
use Rattle.task_world.specs.Runs.{AreEntries, after}
use Rattle.task_world.specs.Seated.{IsSeated, SeatLaw}
use Rattle.task_world.specs.Settling.{after_all, delivered_at, delivered_next}
use Rattle.task_world.specs.Worlds.{TaskScene, TaskWorldState, begun, world_of}
use Rattle.task_world.proofs.Making.{new_seat}

abbrev Holds : TaskScene → Type 0
Holds s = IsSeated s.scene.world s.node

abbrev HoldsIn : TaskWorldState → Type 0
HoldsIn w = IsSeated w.world w.node

-- a world that is alike
alike_seated : (w v : WorldState) (node : TaskNode) → IsAlike w v → IsSeated w node → IsSeated v node
alike_seated w v node a h = record { target = a.target ∙ h.target; one = ap (λ (states : List InitiatorState). length states) a.initiators ∙ h.one }

hands_out : (to weight : ℕ) (outbox : OutboxState) (w : WorldState) (node : TaskNode) → IsSeated w node → IsSeated (handed_out to weight outbox w) node
hands_out to weight outbox w node h = alike_seated w (handed_out to weight outbox w) node (handed_alike to weight outbox w) h

-- another state of the initiator
with_one : (i : ℕ) (state : InitiatorState) (w : WorldState) (node : TaskNode) → IsSeated w node → IsSeated (with_initiator i state w) node
with_one i state w node h = record { target = h.target; one = length-set w.initiators i state ∙ h.one }

-- ---- a delivery

arrives : (serial : ℕ) (again : Bool) (a : Arrival) (outbox : OutboxState) (w : WorldState) (node : TaskNode) → IsSeated w node → IsSeated (arrived serial again a outbox w) node
unfolding arrived
arrives serial again a outbox w node h =
    let v = marked serial again w in
    let m = alike_seated w v node (marked_alike w serial again) h in
    hands_out a.node 0 outbox (with_note (judged_note serial a.judged) v) node (record { target = m.target; one = m.one })

arrives_by : (serial : ℕ) (again : Bool) (a : Option Arrival) (outbox : OutboxState) (w : WorldState) (node : TaskNode) → IsSeated w node → IsSeated (arrived_by serial again a outbox w) node
arrives_by serial again None outbox w node h = h
arrives_by serial again (Some a) outbox w node h = arrives serial again a outbox w node h

-- what its node made of a packet, before its note
record Reached (r : Option Arrival × (OutboxState × TaskScene)) : Type 0 where
  is : Holds r.1.1

delivers_by : (serial : ℕ) (again : Bool) (r : Option Arrival × (OutboxState × TaskScene)) → Reached r → Holds (delivered_by serial again r)
delivers_by serial again (a, (outbox, s)) r = arrives_by serial again a outbox s.scene.world s.node r.is

node_reached : (to : ℕ) (r : Judged × (OutboxState × (TaskNode × Held))) (s : TaskScene) → Holds s → Reached (at_node to r s)
node_reached to (judged, (outbox, (node, media))) s h = record { is = record { target = refl; one = h.one } }

listed_reached : (to i : ℕ) (r : Judged × (OutboxState × InitiatorState)) (s : TaskScene) → Holds s → Reached (at_other (at_initiator to (listed i r s.scene.world.initiators) s.scene) s)
listed_reached to i (judged, (outbox, state)) s h = record { is = record { target = h.target; one = length-set s.scene.world.initiators i state ∙ h.one } }

others_reached : (to i : ℕ) (sent : Sent) (s : TaskScene) → Holds s → Reached (at_other (at_initiator to (initiators_received i sent s.scene.world.initiators) s.scene) s)
unfolding initiators_received
others_reached to i sent s h = listed_reached to i (receive_step sent.generation sent.bytes empty_outbox (slice_index_or s.scene.world.initiators i (new_state 0 false))) s h

other_reached : (b : Bool) (sent : Sent) (s : TaskScene) → Holds s → Reached (at_other (cond b (at_initiator sent.to (initiators_received (sent.to - 1) sent s.scene.world.initiators) s.scene) (at_none s.scene)) s)
other_reached true sent s h = others_reached sent.to (sent.to - 1) sent s h
other_reached false sent s h = record { is = h }

reached_by : (b : Bool) (told : Option Told) (sent : Sent) (s : TaskScene) → Holds s → Reached (cond b (at_node sent.to (task_received told sent s.node s.scene.media) s) (at_other (initiator_received sent s.scene) s))
reached_by true told sent s h = node_reached sent.to (task_received told sent s.node s.scene.media) s h
reached_by false told sent s h = other_reached (nat_lt (sent.to - 1) (length s.scene.world.initiators)) sent s h

reached : (told : Option Told) (sent : Option Sent) (s : TaskScene) → Holds s → Reached (received_by told sent s)
reached told None s h = record { is = h }
reached told (Some sent) s h = reached_by (sent.to == 0) told sent s h

delivers : (serial : ℕ) (again : Bool) (told : Option Told) (s : TaskScene) → Holds s → Holds (delivered serial again told s)
unfolding delivered received_step
delivers serial again told s h = delivers_by serial again (received_by told (found_sent serial s.scene.world.store.kept) s) (reached told (found_sent serial s.scene.world.store.kept) s h)

delivers_if : (b : Bool) (line serial : ℕ) (again : Bool) (told : List (Option Told)) (s : TaskScene) → Holds s → Holds (delivered_if b line serial again told s)
delivers_if true line serial again told s h = delivers serial again (first_told told) s h
delivers_if false line serial again told s h = record { target = h.target; one = h.one }

delivers_at : (serial : Option ℕ) (told : Option Told) (s : TaskScene) → Holds s → Holds (delivered_at serial told s)
delivers_at None told s h = h
delivers_at (Some serial) told s h = delivers serial false told s h

delivers_next : (told : Option Told) (s : TaskScene) → Holds s → Holds (delivered_next told s)
unfolding delivered_next
delivers_next told s h = delivers_at (lowest s.scene.world) told s h

delivers_all : (told : List (Option Told)) (s : TaskScene) → Holds s → Holds (after_all told s)
delivers_all [] s h = h
delivers_all (told ∷ before) s h = delivers_next told (after_all before s) (delivers_all before s h)

-- ---- a time-out

-- what a node made of a time-out, before its note
record Ended (r : Bool × (OutboxState × TaskWorldState)) : Type 0 where
  is : HoldsIn r.1.1

node_ended : (r : Bool × (OutboxState × TaskNode)) (w : TaskWorldState) → HoldsIn w → Ended (packets.at_node r w)
node_ended (done, (outbox, node)) w h = record { is = record { target = refl; one = h.one } }

initiator_ended : (i : ℕ) (r : Bool × (OutboxState × InitiatorState)) (w : TaskWorldState) → HoldsIn w → Ended (packets.at_other (worlds.at_initiator i r w.world) w)
initiator_ended i (done, (outbox, state)) w h = record { is = with_one i state w.world w.node h }

other_ended : (b : Bool) (request : Request) (w : TaskWorldState) → HoldsIn w
    → Ended (packets.at_other (cond b (worlds.at_initiator (request.node - 1) (expire_step request.label empty_outbox (initiator_at w.world (request.node - 1))) w.world) (false, (empty_outbox, w.world))) w)
other_ended true request w h = initiator_ended (request.node - 1) (expire_step request.label empty_outbox (initiator_at w.world (request.node - 1))) w h
other_ended false request w h = record { is = h }

ended_by : (b : Bool) (request : Request) (w : TaskWorldState) → HoldsIn w → Ended (cond b (packets.at_node (task_expired request w.node) w) (packets.at_other (initiator_expires request w.world) w))
ended_by true request w h = node_ended (task_expired request w.node) w h
ended_by false request w h = other_ended (nat_lt (request.node - 1) (length w.world.initiators)) request w h

times_by : (line serial node : ℕ) (r : Bool × (OutboxState × TaskWorldState)) → Ended r → HoldsIn (timed_out line serial node r)
times_by line serial node (true, (outbox, w)) r =
    hands_out node 0 outbox (with_note (notes.TimedOut serial) w.world) w.node (record { target = r.is.target; one = r.is.one })
times_by line serial node (false, (outbox, w)) r = record { target = r.is.target; one = r.is.one }

times_out_by : (request : Option Request) (line serial : ℕ) (w : TaskWorldState) → HoldsIn w → HoldsIn (timeout_of request line serial w)
unfolding expires
times_out_by None line serial w h = record { target = h.target; one = h.one }
times_out_by (Some request) line serial w h = times_by line serial request.node (expires request w) (ended_by (request.node == 0) request w h)

times_out : (line serial : ℕ) (w : TaskWorldState) → HoldsIn w → HoldsIn (timeout_line line serial w)
unfolding timeout_line
times_out line serial w h = times_out_by (find w.world.requests serial) line serial w h

-- ---- the other lines

acts_by : (r : Option ℕ × (OutboxState × InitiatorState)) (line i : ℕ) (action : Action) (w : WorldState) (node : TaskNode) → IsSeated w node → IsSeated (acted_by r line i action w) node
acts_by (Some number, (outbox, state)) line i action w node h =
    let one = with_one i state w node h in record { target = one.target; one = one.one }
acts_by (None, (outbox, state)) line i action w node h = hands_out (i + 1) (weight_in action) outbox (with_initiator i state w) node (with_one i state w node h)

acts : (line i : ℕ) (action : Action) (w : WorldState) (node : TaskNode) → IsSeated w node → IsSeated (acted line i action w) node
unfolding acted
acts line i action w node h = acts_by (act_step action empty_outbox (initiator_at w i)) line i action w node h

loses_by : (b : Bool) (line serial : ℕ) (w : WorldState) (node : TaskNode) → IsSeated w node → IsSeated (cond b (lost serial w) (refused line no_packet w)) node
loses_by true line serial w node h = record { target = h.target; one = h.one }
loses_by false line serial w node h = record { target = h.target; one = h.one }

loses : (line serial : ℕ) (w : WorldState) (node : TaskNode) → IsSeated w node → IsSeated (lose_line line serial w) node
unfolding lose_line
loses line serial w node h = loses_by (is_in_flight serial w) line serial w node h

happens_seated : (line : ℕ) (event : Event) (told : List (Option Told)) (s : TaskScene) → is_task_line event ≡ true → Holds s → Holds (happens_to line event told s)
happens_seated line (events.Act initiator action) told s here h = acts line initiator action s.scene.world s.node h
happens_seated line (events.Lose serial) told s here h = loses line serial s.scene.world s.node h
happens_seated line (events.Deliver serial) told s here h = delivers_if (is_in_flight serial s.scene.world) line serial false told s h
happens_seated line (events.Repeat serial) told s here h = delivers_if (may_repeat serial s.scene.world) line serial true told s h
happens_seated line (events.Timeout serial) told s here h = times_out line serial (world_of s) h
happens_seated line (events.Step count) told s here h = delivers_all told s h
happens_seated line events.Settle told s here h = let all = delivers_all told s h in record { target = all.target; one = all.one }
happens_seated line (events.Begin initiators ready) told s here h = absurd (false≢true here)
happens_seated line (events.Reset ids) told s here h = absurd (false≢true here)
happens_seated line (events.See node) told s here h = absurd (false≢true here)
happens_seated line events.Tick told s here h = absurd (false≢true here)
happens_seated line (events.Inject initiator bytes) told s here h = absurd (false≢true here)
happens_seated line (events.Key unit key) told s here h = absurd (false≢true here)

line_seated : (line : ℕ) (event : Event) (told : List (Option Told)) (s : TaskScene) → is_task_line event ≡ true → Holds s → Holds (task_happens line event told s)
unfolding task_happens
line_seated line event told s here h = happens_seated line event told (begun s) here (record { target = h.target; one = h.one })

first_seated : (start : Held) → Holds (first_scene start)
unfolding new_world new_initiators
first_seated start = record { target = sym new_seat; one = refl }

all_seated : (s : TaskScene) (entries : List Entry) → AreEntries s entries → Holds s → Holds (after s entries)
all_seated s [] a h = h
all_seated s (e ∷ before) a h = line_seated e.line e.event e.told (after s before) a.0.event.here (all_seated s before a.1 h)

pub seat_law : SeatLaw
seat_law run s r = subst Holds (sym r.state) (all_seated (first_scene run.start) run.entries r.is.lines (first_seated run.start))
