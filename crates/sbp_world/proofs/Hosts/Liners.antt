-- Single lines of a world.
use Rattle.sbp_world.proofs.Words.Std.{arith, ◌≡◌, refl, sym, ◌∙◌, ap, subst, ℕ, ◌+◌, ◌-◌, ◌<◌, ◌==◌, ◌||◌, not, nat_lt, Bool, true, false, cond, List, [], ◌∷◌, length, Option, Some, None, Result, Ok, Err, suc, nat_tests, set-get_or}
use Rattle.sbp_world.proofs.Words.Wire.{LabelParts, Stale, Layer, expiring_step, seeing_step, wire_terms, Request, id_of, no_packet, judged_note, find, Sent, found_sent, is_flying, deliver_step, Moment, said, OutboxState, empty_outbox, Judged, Action, Note, Side}
use Rattle.sbp_world.proofs.Words.Target.{scene, expired, Held, Told, NodeState}
use Rattle.sbp_world.proofs.Words.Initiator.{Purpose, expire_step, expired_as, see_step, lets_expire, laws_sees, InitiatorState, act_step, Turn, new_state, receive_step, Call, IsCall, receives_call, done, Moves, Stage, staged, tells, sits, resets, relists, marks_as, works_at, reads_on, holds, learns, turns_to, counts_up, judges, answers, asks, fails, expires, stay, go_on}
use Rattle.sbp_world.proofs.Words.World.{see_line, world_expires, initiator_expires, refused, target_expired, target_left, timed_out, timeout_line, timeout_of, sent_all, told_all, MaySee, Arrival, MayAt, MayReceive, MayTold, arrived, at_none, at_target, delivered, delivered_by, initiator_received, initiators_received, listed, received_at, received_by, received_step, target_received, handed_out, acted, acted_by, weight_in, target_ticks, tick_line, Scene, WorldState, initiator_at, with_initiator, with_note, with_target, Listed, AreNotes, AreOthers, IsNote, history, AreRows, MayDeliver, MayHear, is_abort, is_beside, AreBut, AreHosts, IsHost, NoneAborts}
use Rattle.sbp_target.specs.Nodes as target
use Rattle.sbp_world.specs.Packets as packets
use Rattle.sbp_world.proofs.Hosts.Hands.{sight_tells}
use Rattle.sbp_world.proofs.Hosts.Hears.{expire_listed}
use Rattle.sbp_world.proofs.Hosts.Sees.{sees_listed}
use Rattle.sbp_world.proofs.Hosts.TargetTells as target_tell
use Rattle.std.proofs.Common.{slice_set}
use Rattle.sbp_journal.specs.declared.cause.Judged.TheVariants as judgements
use Rattle.sbp_journal.specs.declared.event.Action.TheVariants as actions
use Rattle.sbp_journal.specs.declared.note.Note.TheVariants as notes
use Rattle.sbp_journal.specs.declared.side.Side.TheVariants as sides
use Rattle.sbp_initiator.specs.Histories.Moves.{Move, sends, sees}
use Rattle.sbp_initiator.proofs.Histories.Called.{call_moves}
use Rattle.sbp_initiator.proofs.FirstRow.{refusal_law}
use Rattle.sbp_world.specs.Delivering.{at_initiator}
use Rattle.sbp_world.specs.Nodes as nodes
use Rattle.sbp_world.proofs.Formed.{AreOwn, IsOwn}
use Rattle.sbp_world.proofs.InitiatorForms as initiators
use Rattle.sbp_world.specs.Hosts.Calls.{Left}
use Rattle.sbp_world.proofs.Hosts.Acts.{act_left}
use Rattle.sbp_world.proofs.Hosts.Beside.{beside_rests}
use Rattle.sbp_world.proofs.Hosts.Hands.{second_tells, target_tells}
use Rattle.sbp_world.proofs.Hosts.Hears.{receive_listed}
use Rattle.sbp_world.proofs.Hosts.Hosting.{initiator_hosts, note_hosts, target_hosts}
use Rattle.sbp_world.proofs.Hosts.Numbers.{act_number}

-- ---- an initiator keeps its number, and tells its own notes

number_move : (b : Bool) (x y : Stage) → Move b x y → y.state.number ≡ x.state.number
number_move b _ _ (tells x note) = refl
number_move b _ _ (sits x event e) = refl
number_move b _ _ (resets x e) = refl
number_move b _ _ (relists x change f) = refl
number_move b _ _ (marks_as x known) = refl
number_move b _ _ (works_at x operation) = refl
number_move b _ _ (reads_on x states) = refl
number_move b _ _ (holds x read) = refl
number_move b _ _ (learns x management) = refl
number_move b _ _ (turns_to x other) = refl
number_move b _ _ (counts_up x new g) = refl
number_move b _ _ (judges x generation bytes) = refl
number_move b _ _ (answers o s p bytes rcode given) = refl
number_move b _ _ (asks x peer body purpose asked layer e) = refl
number_move b _ _ (fails x peer body purpose layer e) = refl
number_move b _ _ (sends o s packet asked) = refl
number_move b _ _ (expires x peer label) = refl
number_move b _ _ (sees x generation node) = refl

number_moves : (b : Bool) (x y : Stage) → Moves b x y → y.state.number ≡ x.state.number
number_moves b _ _ (stay x) = refl
number_moves b _ _ (go_on x y z before move) = number_move b y z move ∙ number_moves b x y before

pub number_call : (call : Call) (t : Turn) → IsCall call → (done call t).1.number ≡ t.1.number
number_call call t h = number_moves true (staged [] t) (staged [] (done call t)) (call_moves call (staged [] t) t h (stay (staged [] t)))

own_note : (side : Side) → IsOwn side → IsNote side
own_note (sides.Own note) h = tt
own_note (sides.Opened place orb) h = absurd h
own_note (sides.Ran place orb cdb payload outcome) h = absurd h
own_note (sides.Ended place orb status) h = absurd h
own_note (sides.Dead place cause) h = absurd h
own_note (sides.Cut place cause) h = absurd h
own_note (sides.Managed node function subject status login) h = absurd h
own_note (sides.ManageFailed node cause) h = absurd h
own_note (sides.Held login) h = absurd h
own_note (sides.Expired login) h = absurd h
own_note (sides.Back login) h = absurd h
own_note (sides.Left login) h = absurd h
own_note (sides.Cleared unit) h = absurd h
own_note (sides.Unsolicited place) h = absurd h
own_note (sides.Unsent place) h = absurd h

pub own_notes : (told : List Side) → AreOwn told → AreNotes told
own_notes [] h = tt
own_notes (side ∷ told) h = (own_note side h.0, own_notes told h.1)

-- ---- an initiator of a world before a call

pub host_listed : (past : List Moment) (i : ℕ) (s : InitiatorState) → IsHost past i s → Listed past (empty_outbox, s)
host_listed past i s h = record { rows = subst (λ j. AreRows past j s.lists.slots) (sym h.number) h.rows; pin = h.pin; beside = λ j x e r. r }

host_noted : (past : List Moment) (i : ℕ) (s : InitiatorState) (note : Note) → is_beside i note ≡ true → IsHost past i s → IsHost (said note ∷ past) i s
host_noted past i s note e h = record { number = h.number; rows = beside_rests past i s.lists.slots h.rows note e; pin = h.pin }

all_but : (past : List Moment) (i : ℕ) (w : WorldState) → AreHosts past w → AreBut past i w
all_but past i w h j b e = h j b

judged_beside : (serial : ℕ) (judged : Judged) (i : ℕ) → is_beside i (judged_note serial judged) ≡ true
judged_beside serial judgements.Got i = refl
judged_beside serial (judgements.Ignored cause) i = refl

-- ---- a delivery

module _ (past : List Moment) (serial : ℕ) (again : Bool) where
  abbrev mark : Bool → WorldState → WorldState
  mark b w = cond b w (record w { store = deliver_step w.store serial })

  target_arrives : (b : Bool) (w : WorldState) (state : NodeState) (node : ℕ) (judged : Judged) (outbox : OutboxState) → AreOthers outbox.sides → NoneAborts (history w past) → AreHosts past w → AreHosts past (handed_out node 0 outbox (with_note (judged_note serial judged) (mark b (with_target state w))))
  target_arrives true w state node judged outbox o n h =
      target_hosts past (with_note (judged_note serial judged) w) state node 0 outbox o n (note_hosts past w (judged_note serial judged) (judged_beside serial judged) h)
  target_arrives false w state node judged outbox o n h =
      let v = record w { store = deliver_step w.store serial } in
      target_hosts past (with_note (judged_note serial judged) v) state node 0 outbox o n (note_hosts past v (judged_note serial judged) (judged_beside serial judged) h)

  own_arrives : (b : Bool) (w : WorldState) (i node : ℕ) (judged : Judged) (t : Turn) → i < length w.initiators → t.1.number ≡ i → AreNotes t.0.sides → NoneAborts (history w past) → Listed (said (judged_note serial judged) ∷ history w past) t → AreHosts past w → AreHosts past (handed_out node 0 t.0 (with_note (judged_note serial judged) (mark b (record w { initiators = slice_set w.initiators i t.1 }))))
  own_arrives true w i node judged t inside number own n listed h =
      initiator_hosts past (with_note (judged_note serial judged) w) i node 0 t inside number own n listed (all_but past i (with_note (judged_note serial judged) w) (note_hosts past w (judged_note serial judged) (judged_beside serial judged) h))
  own_arrives false w i node judged t inside number own n listed h =
      let v = record w { store = deliver_step w.store serial } in
      initiator_hosts past (with_note (judged_note serial judged) v) i node 0 t inside number own n listed (all_but past i (with_note (judged_note serial judged) v) (note_hosts past v (judged_note serial judged) (judged_beside serial judged) h))

  abbrev pub Arrives : Option Arrival × (OutboxState × Scene) → Type 0
  Arrives r = AreHosts past (delivered_by serial again r).world

  pick_arrives : (b : Bool) (x y : Option Arrival × (OutboxState × Scene)) → (b ≡ true → Arrives x) → (b ≡ false → Arrives y) → Arrives (cond b x y)
  pick_arrives true x y h i = h refl
  pick_arrives false x y h i = i refl

  pub at_target_arrives : (node : ℕ) (r : Judged × (OutboxState × (NodeState × Held))) (s : Scene) → AreOthers r.1.0.sides → NoneAborts (history s.world past) → AreHosts past s.world → Arrives (at_target node r s)
  unfolding arrived
  at_target_arrives node (judged, (outbox, (state, media))) s o n h =
      target_arrives (again || not (is_flying serial s.world.store.kept)) s.world state node judged outbox o n h

  at_own_arrives : (i node : ℕ) (r : Judged × Turn) (s : Scene) → i < length s.world.initiators → r.1.1.number ≡ i → AreNotes r.1.0.sides → NoneAborts (history s.world past) → Listed (said (judged_note serial r.0) ∷ history s.world past) r.1 → AreHosts past s.world → Arrives (at_initiator node (listed i r s.world.initiators) s)
  unfolding arrived
  at_own_arrives i node (judged, (outbox, state)) s inside number own n l h =
      own_arrives (again || not (is_flying serial s.world.store.kept)) s.world i node judged (outbox, state) inside number own n l h

  pub own_received : (sent : Sent) (s : Scene) → NoneAborts (history s.world past) → MayHear past serial sent s.world → AreHosts past s.world → Arrives (initiator_received sent s)
  unfolding initiators_received
  own_received sent s n may h =
      let i = sent.to - 1 in
      let old = initiator_at s.world i in
      let r = receive_step sent.generation sent.bytes empty_outbox old in
      pick_arrives (nat_lt i (length s.world.initiators)) (at_initiator sent.to (initiators_received i sent s.world.initiators) s) (at_none s)
      (λ e.
      let inside : i < length s.world.initiators = grind (arith, nat_tests) in
      let host = h i inside in
      at_own_arrives i sent.to r s inside (number_call (receives_call sent.generation sent.bytes) (empty_outbox, old) tt ∙ host.number) (own_notes r.1.0.sides (initiators.receives sent.generation sent.bytes empty_outbox old tt)) n
      (receive_listed (said (judged_note serial r.0) ∷ history s.world past) sent.generation sent.bytes empty_outbox old may
      (host_listed (said (judged_note serial r.0) ∷ history s.world past) i old (host_noted (history s.world past) i old (judged_note serial r.0) (judged_beside serial r.0 i) host))) h)
      (λ e. h)

  received_where : (told : Option Told) (sent : Sent) (s : Scene) → MayTold (sent.to == 0) told sent s → NoneAborts (history s.world past) → ((sent.to == 0) ≡ false → MayHear past serial sent s.world) → AreHosts past s.world → Arrives (received_at told sent s)
  received_where told sent s m n may h =
      pick_arrives (sent.to == 0) (at_target sent.to (target_received told sent s.world.target s.media) s) (initiator_received sent s)
      (λ e. at_target_arrives sent.to (target_received told sent s.world.target s.media) s (target_tells told sent s.world.target s.media (subst (λ b. MayTold b told sent s) e m)) n h)
      (λ e. own_received sent s n (may e) h)

  received_found : (told : Option Told) (found : Option Sent) (s : Scene) → MayAt told found s → NoneAborts (history s.world past) → MayDeliver past serial found s.world → AreHosts past s.world → Arrives (received_by told found s)
  received_found told None s m n may h = h
  received_found told (Some sent) s m n may h = received_where told sent s m n may h

  pub delivers : (told : Option Told) (s : Scene) → MayReceive told serial s → NoneAborts (history s.world past) → MayDeliver past serial (found_sent serial s.world.store.kept) s.world → AreHosts past s.world → AreHosts past (delivered serial again told s).world
  unfolding delivered received_step MayReceive
  delivers told s m n may h = received_found told (found_sent serial s.world.store.kept) s m n may h

-- ---- a time-out

module _ (past : List Moment) (line serial : ℕ) where
  abbrev pub Ends : ℕ → Bool × (OutboxState × WorldState) → Type 0
  Ends node r = AreHosts past (timed_out line serial node r)

  pub pick_ends : (node : ℕ) (b : Bool) (x y : Bool × (OutboxState × WorldState)) → (b ≡ true → Ends node x) → (b ≡ false → Ends node y) → Ends node (cond b x y)
  pick_ends node true x y h i = h refl
  pick_ends node false x y h i = i refl

  pub refuses : (w : WorldState) → AreHosts past w → AreHosts past (refused line no_packet w)
  refuses w h = note_hosts past w (notes.Refused line no_packet) (λ i. refl) h

  target_ends : (node : ℕ) (r : Result (Unit {0}) Stale × target.Scene) (w : WorldState) → AreOthers r.1.outbox.sides → NoneAborts (history w past) → AreHosts past w → Ends node (packets.at_target (target_left r w.target) w)
  target_ends node (Ok done, s) w o n h = target_hosts past (with_note (notes.TimedOut serial) w) s.node node 0 s.outbox o n (note_hosts past w (notes.TimedOut serial) (λ i. refl) h)
  target_ends node (Err stale, s) w o n h = refuses w h

  own_ends : (i node : ℕ) (r : Bool × Turn) (w : WorldState) → i < length w.initiators → r.1.1.number ≡ i → AreNotes r.1.0.sides → NoneAborts (history w past) → Listed (said (notes.TimedOut serial) ∷ history w past) r.1 → Listed (history w past) r.1 → (r.0 ≡ false → r.1.0 ≡ empty_outbox) → AreHosts past w → Ends node (packets.at_initiator i r w)
  unfolding told_all sent_all
  own_ends i node (true, (outbox, state)) w inside number own n l before stale h =
      initiator_hosts past (with_note (notes.TimedOut serial) w) i node 0 (outbox, state) inside number own n l (all_but past i (with_note (notes.TimedOut serial) w) (note_hosts past w (notes.TimedOut serial) (λ j. refl) h))
  own_ends i node (false, (outbox, state)) w inside number own n l before stale h =
      refuses (with_initiator i state w) (handed_nothing (stale refl) (initiator_hosts past w i node 0 (outbox, state) inside number own n before (all_but past i w h)))
    where
      handed_nothing : outbox ≡ empty_outbox → AreHosts past (handed_out node 0 outbox (with_initiator i state w)) → AreHosts past (with_initiator i state w)
      handed_nothing e h = subst (λ x. AreHosts past (handed_out node 0 x (with_initiator i state w))) e h

  stale_silent : (r : Result (Option Purpose) Stale × Layer Purpose) (s : InitiatorState) → (expired_as r empty_outbox s).0 ≡ false → (expired_as r empty_outbox s).1.0 ≡ empty_outbox
  stale_silent (Err stale, layer) s e = refl
  stale_silent (Ok purpose, layer) s e = absurd (untrue e)
    where
      untrue : true ≡ false → ⊥
      untrue e = cc

  pub silent : (label : LabelParts) (s : InitiatorState) → (expire_step label empty_outbox s).0 ≡ false → (expire_step label empty_outbox s).1.0 ≡ empty_outbox
  unfolding expire_step
  silent label s e = stale_silent (expiring_step s.layer s.target label) s e

  pub own_expires : (request : Request) (w : WorldState) → NoneAborts (history w past) → AreHosts past w → Ends request.node (initiator_expires request w)
  own_expires request w n h =
      let i = request.node - 1 in
      let old = initiator_at w i in
      let r = expire_step request.label empty_outbox old in
      pick_ends request.node (nat_lt i (length w.initiators)) (packets.at_initiator i r w) (false, (empty_outbox, w))
      (λ e.
      let inside : i < length w.initiators = grind (arith, nat_tests) in
      let host = h i inside in
      own_ends i request.node r w inside (number_call (lets_expire request.label) (empty_outbox, old) tt ∙ host.number) (own_notes r.1.0.sides (initiators.expires request.label empty_outbox old tt)) n
      (expire_listed (said (notes.TimedOut serial) ∷ history w past) request.label empty_outbox old (host_listed (said (notes.TimedOut serial) ∷ history w past) i old (host_noted (history w past) i old (notes.TimedOut serial) refl host)))
      (expire_listed (history w past) request.label empty_outbox old (host_listed (history w past) i old host))
      (silent request.label old) h)
      (λ e. refuses w h)

  all_expires : (request : Request) (w : WorldState) → NoneAborts (history w past) → AreHosts past w → Ends request.node (world_expires request w)
  unfolding world_expires target_expired
  all_expires request w n h =
      pick_ends request.node (request.node == 0) (packets.at_target (target_expired request w.target) w) (initiator_expires request w)
      (λ e. target_ends request.node (expired request.peer request.label (scene w.target empty_outbox)) w (target_tell.expires request.peer request.label (scene w.target empty_outbox) tt) n h)
      (λ e. own_expires request w n h)

  found_expires : (request : Option Request) (w : WorldState) → NoneAborts (history w past) → AreHosts past w → AreHosts past (timeout_of request line serial w)
  found_expires None w n h = refuses w h
  found_expires (Some request) w n h = all_expires request w n h

  pub line_expires : (w : WorldState) → NoneAborts (history w past) → AreHosts past w → AreHosts past (timeout_line line serial w)
  unfolding timeout_line
  line_expires w n h = found_expires (find w.requests serial) w n h

-- ---- a sight

module _ (past : List Moment) (node : ℕ) (w : WorldState) (n : NoneAborts (history w past)) (h : AreHosts past w) where
  abbrev seen : WorldState
  seen = nodes.with_seen node (nodes.told_seen node w)

  abbrev Sees : OutboxState × WorldState → Type 0
  Sees r = AreHosts past (nodes.handed_all node r)

  pick_sees : (b : Bool) (x y : OutboxState × WorldState) → (b ≡ true → Sees x) → (b ≡ false → Sees y) → Sees (cond b x y)
  pick_sees true x y h i = h refl
  pick_sees false x y h i = i refl

  others_seen : (i j : ℕ) → node ≡ suc i → (j == i) ≡ false → is_beside j (notes.Seen node w.generations.latest.generation) ≡ true
  others_seen i j e f = let g : (node == suc j) ≡ false = grind (arith, nat_tests) in ap not g

  zero_seen : (j : ℕ) → (node == 0) ≡ true → is_beside j (notes.Seen node w.generations.latest.generation) ≡ true
  zero_seen j e = let g : (node == suc j) ≡ false = grind (arith, nat_tests) in ap not g

  target_pair : (r : OutboxState × NodeState) → AreOthers r.0.sides → (node == 0) ≡ true → Sees (nodes.at_target r seen)
  target_pair (outbox, state) o e =
      target_hosts past seen state node 0 outbox o n (λ i b. host_noted (history w past) i (initiator_at w i) (notes.Seen node w.generations.latest.generation) (zero_seen i e) (h i b))

  own_pair : (i : ℕ) (r : Turn) → node ≡ suc i → i < length w.initiators → r.1.number ≡ i → AreNotes r.0.sides → Listed (said (notes.Seen node w.generations.latest.generation) ∷ history w past) r → Sees (nodes.at_initiator i r seen)
  own_pair i (outbox, state) e inside number own l =
      initiator_hosts past seen i node 0 (outbox, state) inside number own n l
      (λ j b f. host_noted (history w past) j (initiator_at w j) (notes.Seen node w.generations.latest.generation) (others_seen i j e f) (h j b))

  pub line_sees : ((i : ℕ) → node ≡ suc i → i < length w.initiators) → ((i : ℕ) → node ≡ suc i → MaySee past i w) → AreHosts past (see_line node w)
  unfolding see_line nodes.sees
  line_sees inside may =
      pick_sees (node == 0) (nodes.target_learns seen) (nodes.initiator_learns node seen)
      (λ e. target_pair (nodes.target_sees w.generations.latest.generation (id_of w.generations.latest 0) w.target) (sight_tells w.generations.latest.generation (id_of w.generations.latest 0) w.target) e)
      (λ e.
      let i = node - 1 in
      let is : node ≡ suc i = grind (arith, nat_tests) in
      let old = initiator_at w i in
      let host = h i (inside i is) in
      let g = w.generations.latest.generation in
      let id = id_of w.generations.latest node in
      let other = id_of w.generations.latest 0 in
      let m = may i is in
      own_pair i (see_step g id other empty_outbox old) is (inside i is) (number_call (laws_sees g id other) (empty_outbox, old) tt ∙ host.number) (own_notes (see_step g id other empty_outbox old).0.sides (initiators.sees g id other empty_outbox old tt))
      (subst (λ k. Listed (said (notes.Seen k g) ∷ history w past) (see_step g id other empty_outbox old)) (ap suc host.number ∙ sym is)
      (sees_listed (history w past) g id other old
      (subst (λ k. (seeing_step old.layer g (id_of w.generations.latest k)).0 ≡ not (g == (wire_terms (history w past)).generation (suc old.number))) (sym is)
      (subst (λ k. (seeing_step old.layer g (id_of w.generations.latest (suc i))).0 ≡ not (g == (wire_terms (history w past)).generation (suc k))) (sym host.number) m))
      (host_listed (history w past) i old host))))

-- ---- a second

pub ticks : (past : List Moment) (w : WorldState) → NoneAborts (history w past) → AreHosts past w → AreHosts past (tick_line w)
unfolding tick_line
ticks past w n h = by_pair (target_ticks w.target) (second_tells w.target)
  where
    by_pair : (r : OutboxState × NodeState) → AreOthers r.0.sides → AreHosts past (nodes.handed_all 0 (nodes.at_target r (with_note notes.Tick w)))
    by_pair (outbox, node) o = target_hosts past (with_note notes.Tick w) node 0 0 outbox o n (note_hosts past w notes.Tick (λ i. refl) h)

-- ---- an action

-- one that is no abort leaves its lists behind what it tells
left_listed : (action : Action) (past : List Moment) (i : ℕ) (o : OutboxState) (s : InitiatorState) (t : Turn) → is_abort action ≡ false → Left action past o s t → Listed past t
left_listed (actions.Abort k) past i o s t e l = absurd (untrue e)
  where
    untrue : true ≡ false → ⊥
    untrue e = cc
left_listed (actions.Put cmd) past i o s t e l = l
left_listed (actions.Append cmd) past i o s t e l = l
left_listed actions.Low past i o s t e l = l
left_listed actions.Link past i o s t e l = l
left_listed actions.Ring past i o s t e l = l
left_listed (actions.Dummy orb) past i o s t e l = l
left_listed actions.Rom past i o s t e l = l
left_listed actions.AgentReset past i o s t e l = l
left_listed actions.State past i o s t e l = l
left_listed actions.Enable past i o s t e l = l
left_listed (actions.Login unit reconnect exclusive password) past i o s t e l = l
left_listed (actions.Query unit) past i o s t e l = l
left_listed actions.Reconnect past i o s t e l = l
left_listed actions.Logout past i o s t e l = l
left_listed actions.AbortSet past i o s t e l = l
left_listed actions.UnitReset past i o s t e l = l
left_listed actions.TargetReset past i o s t e l = l

-- one that is refused leaves its initiator
pub refuses_act : (past : List Moment) (line i : ℕ) (action : Action) (w : WorldState) → AreHosts past w → (number : ℕ) (turn : Turn) → act_step action empty_outbox (initiator_at w i) ≡ (Some number, turn) → AreHosts past (acted_by (Some number, turn) line i action w)
refuses_act past line i action w h number (outbox, state) e =
    let old = initiator_at w i in
    let same = refusal_law.unchanged action empty_outbox old number (ap (λ (x : Option ℕ × Turn). x.0) e) in
    let kept : state ≡ old = sym (ap (λ (x : Option ℕ × Turn). x.1.1) e) ∙ ap (λ (x : Turn). x.1) same in
    note_hosts past (with_initiator i state w) (notes.Refused line number) (λ j. refl)
    (subst (λ (x : InitiatorState). AreHosts past (with_initiator i x w)) (sym kept)
    (subst (λ (xs : List InitiatorState). AreHosts past (record w { initiators = xs })) (sym (set-get_or w.initiators i (new_state 0 false))) h))

module _ (past : List Moment) (line i : ℕ) (action : Action) (w : WorldState) (inside : i < length w.initiators) (n : NoneAborts (history w past)) (h : AreHosts past w) where
  abbrev old : InitiatorState
  old = initiator_at w i

  acts_by : (r : Option ℕ × Turn) → act_step action empty_outbox old ≡ r → is_abort action ≡ false → AreHosts past (acted_by r line i action w)
  acts_by (Some number, turn) e a = refuses_act past line i action w h number turn e
  acts_by (None, t) e a =
      let is_done : (act_step action empty_outbox old).0 ≡ None = ap (λ (x : Option ℕ × Turn). x.0) e in
      let turn : (act_step action empty_outbox old).1 ≡ t = ap (λ (x : Option ℕ × Turn). x.1) e in
      let l = left_listed action (history w past) i empty_outbox old (act_step action empty_outbox old).1 a (act_left (history w past) action empty_outbox old is_done (host_listed (history w past) i old (h i inside))) in
      initiator_hosts past w i (i + 1) (weight_in action) t inside
      (subst (λ (x : Turn). x.1.number ≡ i) turn (act_number action empty_outbox old ∙ (h i inside).number))
      (subst (λ (x : Turn). AreNotes x.0.sides) turn (own_notes (act_step action empty_outbox old).1.0.sides (initiators.acts action empty_outbox old tt))) n
      (subst (Listed (history w past)) turn l) (all_but past i w h)

  pub acts : is_abort action ≡ false → AreHosts past (acted line i action w)
  unfolding acted
  acts a = acts_by (act_step action empty_outbox old) refl a
