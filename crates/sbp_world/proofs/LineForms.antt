-- The notes of a line have the form of a journal.
use Rattle.sbp_world.proofs.Words.Std.{◌≡◌, refl, sym, subst, ℕ, ◌+◌, ◌-◌, ◌==◌, nat_lt, Bool, true, false, cond, List, [], ◌∷◌, length, Option, Some, None, Result, Ok, Err, AllByRecursion}
use Rattle.sbp_world.proofs.Words.Wire.{Stale, Sent, found_sent, Judged, Action, Event, HasForm, OutboxState, empty_outbox, Request, judged_note, no_packet, end_note, id_of, find}
use Rattle.sbp_world.proofs.Words.Target.{Held, Told, NodeState, expired, received, Whole}
use Rattle.sbp_world.proofs.Words.Initiator.{InitiatorState, act_step, new_state, expire_step, receive_step, see_step}
use Rattle.sbp_world.proofs.Words.World.{Arrival, MayAt, MayReceive, MayTell, MayTold, arrived, arrived_by, at_none, at_target, delivered, delivered_by, faults_after, initiator_received, initiators_received, left_target, listed, marked, received_by, received_step, target_received, whole_of, AreForms, FormLaw, HaveForm, MayHappen, MayTellIn, acted, acted_by, happens, happens_to, keyed, weight_in, new_world, handed_all, initiator_learns, reset_line, see_line, sees, target_learns, target_sees, target_ticks, tick_line, told_seen, with_seen, MayIf, delivered_if, expires, initiator_expires, inject_line, injected, injected_to, is_in_flight, lose_line, lost, may_repeat, refused, target_expired, target_left, timed_out, timeout_line, timeout_of, AreEntries, Entry, after, beginning, MayAll, MayNext, MayAtLowest, after_all, delivered_at, delivered_next, is_settled, lowest, settled, Scene, WorldState, begun, initiator_at, with_initiator, with_note}
use Rattle.std.proofs.Common.{slice_index_or}
use Rattle.sbp_journal.specs.declared.cause.Judged.TheVariants as judgements
use Rattle.sbp_journal.specs.declared.event.Event.TheVariants as events
use Rattle.sbp_journal.specs.declared.note.Note.TheVariants as notes
use Rattle.sbp_target.specs.Nodes as target
use Rattle.sbp_world.specs.Delivering.{at_initiator}
use Rattle.sbp_world.specs.Nodes as nodes
use Rattle.sbp_world.specs.Packets as packets
use Rattle.sbp_world.proofs.Formed.{AreFormed, own_formed}
use Rattle.sbp_world.proofs.InitiatorForms as initiators
use Rattle.sbp_world.proofs.TargetForms as target_forms
use Rattle.sbp_world.proofs.ToldForms.{hands_out, posts}

abbrev Has : Scene → Type 0
Has s = HaveForm s.world

pick : (b : Bool) (x y : WorldState) → HaveForm x → HaveForm y → HaveForm (cond b x y)
pick true x y h i = h
pick false x y h i = i

-- ---- a delivery

left_tells : (r : Judged × Whole) (faults : List ℕ) → AreFormed r.1.outbox.sides → AreFormed (left_target r faults).1.0.sides
left_tells (judged, w) faults h = h

target_tells : (told : Option Told) (sent : Sent) (old : NodeState) (media : Held) → MayTell told sent old media → AreFormed (target_received told sent old media).1.0.sides
unfolding target_received MayTell
target_tells told sent old media m =
    left_tells (received told sent.generation sent.bytes (whole_of old media)) (faults_after told sent old media)
    (target_forms.receives told sent.generation sent.bytes (whole_of old media) media.faults (faults_after told sent old media) m tt)

listed_tells : (i : ℕ) (r : Judged × (OutboxState × InitiatorState)) (states : List InitiatorState) → AreFormed r.1.0.sides → AreFormed (listed i r states).1.0.sides
listed_tells i (judged, (outbox, state)) states h = h

initiators_tell : (i : ℕ) (sent : Sent) (states : List InitiatorState) → AreFormed (initiators_received i sent states).1.0.sides
unfolding initiators_received
initiators_tell i sent states =
    let s = slice_index_or states i (new_state 0 false) in
    listed_tells i (receive_step sent.generation sent.bytes empty_outbox s) states (own_formed _ (initiators.receives sent.generation sent.bytes empty_outbox s tt))

-- what a node hands out has the form, and so have the notes before it
pub record Arrives (r : Option Arrival × (OutboxState × Scene)) (s : Scene) : Type 0 where
  pub sides : AreFormed r.1.0.sides
  pub before : r.1.1.world.fresh ≡ s.world.fresh

pub at_target_arrives : (to : ℕ) (r : Judged × (OutboxState × (NodeState × Held))) (s : Scene) → AreFormed r.1.0.sides → Arrives (at_target to r s) s
at_target_arrives to (judged, (outbox, (state, media))) s h = record { sides = h; before = refl }

pub at_initiator_arrives : (to : ℕ) (r : Judged × (OutboxState × List InitiatorState)) (s : Scene) → AreFormed r.1.0.sides → Arrives (at_initiator to r s) s
at_initiator_arrives to (judged, (outbox, states)) s h = record { sides = h; before = refl }

pick_arrives : (b : Bool) (x y : Option Arrival × (OutboxState × Scene)) (s : Scene) → Arrives x s → Arrives y s → Arrives (cond b x y) s
pick_arrives true x y s h i = h
pick_arrives false x y s h i = i

pub initiator_arrives : (sent : Sent) (s : Scene) → Arrives (initiator_received sent s) s
initiator_arrives sent s =
    pick_arrives (nat_lt (sent.to - 1) (length s.world.initiators)) (at_initiator sent.to (initiators_received (sent.to - 1) sent s.world.initiators) s) (at_none s) s
    (at_initiator_arrives sent.to (initiators_received (sent.to - 1) sent s.world.initiators) s (initiators_tell (sent.to - 1) sent s.world.initiators))
    (record { sides = tt; before = refl })

arrives_where : (b : Bool) (told : Option Told) (sent : Sent) (s : Scene) → MayTold b told sent s → Arrives (cond b (at_target sent.to (target_received told sent s.world.target s.media) s) (initiator_received sent s)) s
arrives_where true told sent s m =
    at_target_arrives sent.to (target_received told sent s.world.target s.media) s (target_tells told sent s.world.target s.media m)
arrives_where false told sent s m = initiator_arrives sent s

arrives_by : (told : Option Told) (sent : Option Sent) (s : Scene) → MayAt told sent s → Arrives (received_by told sent s) s
arrives_by told None s m = record { sides = tt; before = refl }
arrives_by told (Some sent) s m = arrives_where (sent.to == 0) told sent s m

arrives : (told : Option Told) (serial : ℕ) (s : Scene) → MayReceive told serial s → Arrives (received_step told serial s) s
unfolding received_step MayReceive
arrives told serial s m = arrives_by told (found_sent serial s.world.store.kept) s m

marks : (b : Bool) (w x : WorldState) → x.fresh ≡ w.fresh → HaveForm w → HaveForm (cond b w x)
marks true w x e h = h
marks false w x e h = subst (λ l. AllByRecursion HasForm l) (sym e) h

judged_form : (serial : ℕ) (judged : Judged) → HasForm (judged_note serial judged)
judged_form serial judgements.Got = tt
judged_form serial (judgements.Ignored cause) = tt

arrived_form : (serial : ℕ) (again : Bool) (a : Arrival) (outbox : OutboxState) (w : WorldState) → AreFormed outbox.sides → HaveForm w → HaveForm (arrived serial again a outbox w)
unfolding arrived
arrived_form serial again a outbox w f h =
    hands_out a.node 0 outbox (with_note (judged_note serial a.judged) (marked serial again w)) f
    (judged_form serial a.judged, marks _ w _ refl h)

pub arrived_forms : (serial : ℕ) (again : Bool) (a : Option Arrival) (outbox : OutboxState) (w : WorldState) → AreFormed outbox.sides → HaveForm w → HaveForm (arrived_by serial again a outbox w)
arrived_forms serial again None outbox w f h = h
arrived_forms serial again (Some a) outbox w f h = arrived_form serial again a outbox w f h

pub delivers_by : (serial : ℕ) (again : Bool) (r : Option Arrival × (OutboxState × Scene)) (s : Scene) → Arrives r s → Has s → Has (delivered_by serial again r)
delivers_by serial again (a, (outbox, t)) s r h =
    arrived_forms serial again a outbox t.world r.sides (subst (λ l. AllByRecursion HasForm l) (sym r.before) h)

delivers : (serial : ℕ) (again : Bool) (told : Option Told) (s : Scene) → MayReceive told serial s → Has s → Has (delivered serial again told s)
unfolding delivered
delivers serial again told s m h = delivers_by serial again (received_step told serial s) s (arrives told serial s m) h

delivers_if : (b : Bool) (line serial : ℕ) (again : Bool) (told : List (Option Told)) (s : Scene) → MayIf b serial told s → Has s → Has (delivered_if b line serial again told s)
delivers_if true line serial again [] s m h = absurd m
delivers_if true line serial again (told ∷ []) s m h = delivers serial again told s m h
delivers_if true line serial again (told ∷ (other ∷ more)) s m h = absurd m
delivers_if false line serial again told s m h = (tt, h)

-- ---- deliveries one after the other

delivers_at : (serial : Option ℕ) (told : Option Told) (s : Scene) → MayAtLowest serial told s → Has s → Has (delivered_at serial told s)
delivers_at None told s m h = h
delivers_at (Some serial) told s m h = delivers serial false told s m h

delivers_next : (told : Option Told) (s : Scene) → MayNext told s → Has s → Has (delivered_next told s)
unfolding delivered_next MayNext
delivers_next told s m h = delivers_at (lowest s.world) told s m h

delivers_all : (told : List (Option Told)) (s : Scene) → MayAll told s → Has s → Has (after_all told s)
delivers_all [] s m h = h
delivers_all (told ∷ before) s m h = delivers_next told (after_all before s) m.0 (delivers_all before s m.1 h)

pub end_form : (done : Bool) → HasForm (end_note done)
end_form true = tt
end_form false = tt

settles : (told : List (Option Told)) (s : Scene) → MayAll told s → Has s → Has (settled told s)
settles told s m h = (end_form (is_settled (after_all told s).world), delivers_all told s m h)

-- ---- the other lines

acts_by : (r : Option ℕ × (OutboxState × InitiatorState)) (line i : ℕ) (action : Action) (w : WorldState) → AreFormed r.1.0.sides → HaveForm w → HaveForm (acted_by r line i action w)
acts_by (Some number, (outbox, state)) line i action w f h = (tt, h)
acts_by (None, (outbox, state)) line i action w f h = hands_out (i + 1) (weight_in action) outbox (with_initiator i state w) f h

pub acts : (line i : ℕ) (action : Action) (w : WorldState) → HaveForm w → HaveForm (acted line i action w)
unfolding acted
acts line i action w h =
    acts_by (act_step action empty_outbox (initiator_at w i)) line i action w (own_formed _ (initiators.acts action empty_outbox (initiator_at w i) tt)) h

keys : (line unit : ℕ) (key : List ℕ) (w : WorldState) → HaveForm w → HaveForm (keyed line unit key w)
unfolding keyed
keys line unit key w h = pick (nat_lt unit (length w.target.units)) _ _ (tt, h) (tt, h)

resets : (ids : List ℕ) (w : WorldState) → HaveForm w → HaveForm (reset_line ids w)
unfolding reset_line
resets ids w h = (tt, h)

record Learns (r : OutboxState × WorldState) (w : WorldState) : Type 0 where
  pub sides : AreFormed r.0.sides
  pub before : r.1.fresh ≡ w.fresh

hands_all : (node : ℕ) (r : OutboxState × WorldState) (w : WorldState) → Learns r w → HaveForm w → HaveForm (handed_all node r)
hands_all node (outbox, x) w l h = hands_out node 0 outbox x l.sides (subst (λ t. AllByRecursion HasForm t) (sym l.before) h)

pick_learns : (b : Bool) (x y : OutboxState × WorldState) (w : WorldState) → Learns x w → Learns y w → Learns (cond b x y) w
pick_learns true x y w h i = h
pick_learns false x y w h i = i

target_pair : (r : OutboxState × NodeState) (w : WorldState) → AreFormed r.0.sides → Learns (nodes.at_target r w) w
target_pair (outbox, node) w h = record { sides = h; before = refl }

initiator_pair : (i : ℕ) (r : OutboxState × InitiatorState) (w : WorldState) → AreFormed r.0.sides → Learns (nodes.at_initiator i r w) w
initiator_pair i (outbox, state) w h = record { sides = h; before = refl }

sight_tells : (generation id : ℕ) (node : NodeState) → AreFormed (target_sees generation id node).0.sides
unfolding target_sees
sight_tells generation id node = target_forms.sees generation id (target.scene node empty_outbox) tt

second_tells : (node : NodeState) → AreFormed (target_ticks node).0.sides
unfolding target_ticks
second_tells node = target_forms.ticks (target.scene node empty_outbox) tt

learns : (node : ℕ) (w : WorldState) → Learns (sees node w) w
unfolding sees
learns node w =
    let latest = w.generations.latest in
    let r = see_step latest.generation (id_of latest node) (id_of latest 0) empty_outbox (initiator_at w (node - 1)) in
    pick_learns (node == 0) (target_learns w) (initiator_learns node w) w
    (target_pair (target_sees latest.generation (id_of latest 0) w.target) w (sight_tells latest.generation (id_of latest 0) w.target))
    (initiator_pair (node - 1) r w (own_formed _ (initiators.sees latest.generation (id_of latest node) (id_of latest 0) empty_outbox (initiator_at w (node - 1)) tt)))

sees_form : (node : ℕ) (w : WorldState) → HaveForm w → HaveForm (see_line node w)
unfolding see_line
sees_form node w h =
    let x = with_seen node (told_seen node w) in hands_all node (sees node x) x (learns node x) (tt, h)

ticks_form : (w : WorldState) → HaveForm w → HaveForm (tick_line w)
unfolding tick_line
ticks_form w h =
    let x = with_note notes.Tick w in
    hands_all 0 (nodes.at_target (target_ticks w.target) x) x (target_pair (target_ticks w.target) x (second_tells w.target)) (tt, h)

pub loses : (line serial : ℕ) (w : WorldState) → HaveForm w → HaveForm (lose_line line serial w)
unfolding lose_line
loses line serial w h = pick (is_in_flight serial w) (lost serial w) (refused line no_packet w) (tt, h) (tt, h)

-- ---- a time-out

pub record Ends (r : Bool × (OutboxState × WorldState)) (w : WorldState) : Type 0 where
  pub sides : AreFormed r.1.0.sides
  pub before : r.1.1.fresh ≡ w.fresh

pick_ends : (b : Bool) (x y : Bool × (OutboxState × WorldState)) (w : WorldState) → Ends x w → Ends y w → Ends (cond b x y) w
pick_ends true x y w h i = h
pick_ends false x y w h i = i

target_left_tells : (r : Result (Unit {0}) Stale × target.Scene) (old : NodeState) → AreFormed r.1.outbox.sides → AreFormed (target_left r old).1.0.sides
target_left_tells (Ok done, s) old h = h
target_left_tells (Err stale, s) old h = tt

target_expiry : (request : Request) (node : NodeState) → AreFormed (target_expired request node).1.0.sides
unfolding target_expired
target_expiry request node =
    target_left_tells (expired request.peer request.label (target.scene node empty_outbox)) node (target_forms.expires request.peer request.label (target.scene node empty_outbox) tt)

pub target_ends : (r : Bool × (OutboxState × NodeState)) (w : WorldState) → AreFormed r.1.0.sides → Ends (packets.at_target r w) w
target_ends (done, (outbox, node)) w h = record { sides = h; before = refl }

initiator_ends : (i : ℕ) (r : Bool × (OutboxState × InitiatorState)) (w : WorldState) → AreFormed r.1.0.sides → Ends (packets.at_initiator i r w) w
initiator_ends i (done, (outbox, state)) w h = record { sides = h; before = refl }

pub ends_at_initiator : (request : Request) (w : WorldState) → Ends (initiator_expires request w) w
ends_at_initiator request w =
    let r = expire_step request.label empty_outbox (initiator_at w (request.node - 1)) in
    pick_ends (nat_lt (request.node - 1) (length w.initiators)) (packets.at_initiator (request.node - 1) r w) (false, (empty_outbox, w)) w
    (initiator_ends (request.node - 1) r w (own_formed _ (initiators.expires request.label empty_outbox (initiator_at w (request.node - 1)) tt)))
    (record { sides = tt; before = refl })

ends : (request : Request) (w : WorldState) → Ends (expires request w) w
unfolding expires
ends request w =
    pick_ends (request.node == 0) (packets.at_target (target_expired request w.target) w) (initiator_expires request w) w
    (target_ends (target_expired request w.target) w (target_expiry request w.target)) (ends_at_initiator request w)

pub timed_form : (line serial node : ℕ) (r : Bool × (OutboxState × WorldState)) (w : WorldState) → Ends r w → HaveForm w → HaveForm (timed_out line serial node r)
timed_form line serial node (true, (outbox, x)) w e h =
    hands_out node 0 outbox (with_note (notes.TimedOut serial) x) e.sides (tt, subst (λ t. AllByRecursion HasForm t) (sym e.before) h)
timed_form line serial node (false, (outbox, x)) w e h = (tt, subst (λ t. AllByRecursion HasForm t) (sym e.before) h)

timeout_form : (request : Option Request) (line serial : ℕ) (w : WorldState) → HaveForm w → HaveForm (timeout_of request line serial w)
timeout_form None line serial w h = (tt, h)
timeout_form (Some request) line serial w h = timed_form line serial request.node (expires request w) w (ends request w) h

times_out : (line serial : ℕ) (w : WorldState) → HaveForm w → HaveForm (timeout_line line serial w)
unfolding timeout_line
times_out line serial w h = timeout_form (find w.requests serial) line serial w h

-- ---- an injected packet

injects_to : (to : Option ℕ) (line from : ℕ) (bytes : List ℕ) (w : WorldState) → HaveForm w → HaveForm (injected to line from bytes w)
injects_to None line from bytes w h = (tt, h)
injects_to (Some to) line from bytes w h = posts from to true bytes w h

injects : (line i : ℕ) (bytes : List ℕ) (w : WorldState) → HaveForm w → HaveForm (inject_line line i bytes w)
unfolding inject_line
injects line i bytes w h = injects_to (injected_to (i + 1) bytes w) line (i + 1) bytes w h

-- ---- a line

happens_form : (line : ℕ) (event : Event) (told : List (Option Told)) (s : Scene) → MayTellIn event told s → Has s → Has (happens_to line event told s)
happens_form line (events.Begin initiators ready) told s m h = h
happens_form line (events.Act initiator action) told s m h = acts line initiator action s.world h
happens_form line (events.Reset ids) told s m h = resets ids s.world h
happens_form line (events.See node) told s m h = sees_form node s.world h
happens_form line (events.Deliver serial) told s m h = delivers_if (is_in_flight serial s.world) line serial false told s m h
happens_form line (events.Repeat serial) told s m h = delivers_if (may_repeat serial s.world) line serial true told s m h
happens_form line (events.Lose serial) told s m h = loses line serial s.world h
happens_form line (events.Timeout serial) told s m h = times_out line serial s.world h
happens_form line (events.Step count) told s m h = delivers_all told s m.may h
happens_form line events.Settle told s m h = settles told s m.may h
happens_form line events.Tick told s m h = ticks_form s.world h
happens_form line (events.Inject initiator bytes) told s m h = injects line initiator bytes s.world h
happens_form line (events.Key unit key) told s m h = keys line unit key s.world h

line_form : (line : ℕ) (event : Event) (told : List (Option Told)) (s : Scene) → MayHappen event told s → Has (happens line event told s)
unfolding happens MayHappen
line_form line event told s m = happens_form line event told (begun s) m tt

pub begins_form : (initiators : ℕ) (ready : Bool) (units : ℕ) → HaveForm (new_world initiators ready units)
unfolding new_world
begins_form initiators ready units = (tt, tt)

entries_form : (s : Scene) (entries : List Entry) → AreEntries s entries → AllByRecursion AreForms entries
entries_form s [] a = tt
entries_form s (e ∷ before) a = (
  subst (λ l. AllByRecursion HasForm l) (sym a.0.notes_are) (line_form e.line e.event e.told (after s before) a.0.may),
  entries_form s before a.1,
)

pub form_law : FormLaw
form_law = record {
  begins = begins_form;
  lines = λ line event old new h. subst Has (sym h.is) (line_form line event h.told old h.may);
  settles = λ done old new h. subst Has (sym h.is) (settles h.told (begun old) h.may.may tt);
  runs = λ run s h. entries_form (beginning run) run.entries h.lines;
}
