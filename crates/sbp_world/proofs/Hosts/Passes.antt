-- Single lines of a world, for a statement that its lines carry on.
use Rattle.sbp_world.proofs.Words.Std.{arith, ◌≡◌, refl, sym, ap, subst, ℕ, suc, ◌-◌, ◌<◌, ◌==◌, ◌||◌, not, nat_lt, Bool, true, false, cond, List, ◌∷◌, length, Option, Some, None, Result, Ok, Err, nat_tests}
use Rattle.sbp_world.proofs.Words.Wire.{LabelParts, Stale, seeing_step, Sent, found_sent, is_flying, deliver_step, Moment, said, wire_terms, OutboxState, empty_outbox, Judged, Note, Request, id_of, judged_note, no_packet, find}
use Rattle.sbp_world.proofs.Words.Target.{Held, Told, NodeState, scene, expired}
use Rattle.sbp_world.proofs.Words.Initiator.{InitiatorState, Turn, expire_step, receive_step, see_step}
use Rattle.sbp_world.proofs.Words.World.{Arrival, MayAt, MayReceive, MayTold, arrived, at_none, at_target, delivered, delivered_by, initiator_received, initiators_received, listed, received_at, received_by, received_step, target_received, handed_out, see_line, target_ticks, tick_line, world_expires, initiator_expires, refused, target_expired, target_left, timed_out, timeout_line, timeout_of, sent_all, told_all, Scene, WorldState, initiator_at, with_initiator, with_note, with_target, AreNotes, history, MaySee}
use Rattle.std.proofs.Common.{slice_set}
use Rattle.sbp_journal.specs.declared.cause.Judged.TheVariants as judgements
use Rattle.sbp_journal.specs.declared.note.Note.TheVariants as notes
use Rattle.sbp_target.specs.Nodes as target
use Rattle.sbp_world.specs.Delivering.{at_initiator}
use Rattle.sbp_world.specs.Nodes as nodes
use Rattle.sbp_world.specs.Packets as packets
use Rattle.sbp_world.proofs.InitiatorForms as initiators
use Rattle.sbp_world.proofs.Hosts.Carries.{Are, AreBut, CarriesSent, NoneActs, Tells, initiator_hands, is_apart, note_beside, note_carried, target_hands}
use Rattle.sbp_world.proofs.Hosts.Hands.{second_gives, sight_gives, target_gives}
use Rattle.sbp_world.proofs.Hosts.Liners.{own_notes, silent}
use Rattle.sbp_world.proofs.Hosts.Mild.{FromTarget}
use Rattle.sbp_world.proofs.Hosts.Shown.{IsElsewhere, NotFrom, NotTo}
use Rattle.sbp_world.proofs.Hosts.Shows.{Arriving, Lapsing}
use Rattle.sbp_world.proofs.Hosts.TargetGives as target_give

pub judged_apart : (serial : ℕ) (judged : Judged) (i : ℕ) → is_apart i (judged_note serial judged) ≡ true
judged_apart serial judgements.Got i = refl
judged_apart serial (judgements.Ignored cause) i = refl

judged_elsewhere : (past : List Moment) (i serial : ℕ) (judged : Judged) → NotTo past i serial → IsElsewhere past i (judged_note serial judged)
judged_elsewhere past i serial judgements.Got away = away
judged_elsewhere past i serial (judgements.Ignored cause) away = away

module _ {Q : List Moment → ℕ → InitiatorState → Type 0} (P : List Moment → ℕ → InitiatorState → Type 0) (law : CarriesSent Q P) (past : List Moment) where
  all_but : (i : ℕ) (w : WorldState) → Are P past w → AreBut P past i w
  all_but i w h j b e = h j b

  -- ---- a delivery

  module _ (serial : ℕ) (again : Bool) where
    abbrev mark : Bool → WorldState → WorldState
    mark b w = cond b w (record w { store = deliver_step w.store serial })

    target_arrives : (b : Bool) (w : WorldState) (state : NodeState) (node : ℕ) (judged : Judged) (outbox : OutboxState) → ((i : ℕ) → NotTo (history w past) i serial) → FromTarget outbox → NoneActs (history w past) → Are P past w → Are P past (handed_out node 0 outbox (with_note (judged_note serial judged) (mark b (with_target state w))))
    target_arrives true w state node judged outbox away o n h =
        target_hands P law past (with_note (judged_note serial judged) w) state node 0 outbox o n (note_carried P law past w (judged_note serial judged) (judged_apart serial judged) (λ i. judged_elsewhere (history w past) i serial judged (away i)) h)
    target_arrives false w state node judged outbox away o n h =
        let v = record w { store = deliver_step w.store serial } in
        target_hands P law past (with_note (judged_note serial judged) v) state node 0 outbox o n (note_carried P law past v (judged_note serial judged) (judged_apart serial judged) (λ i. judged_elsewhere (history w past) i serial judged (away i)) h)

    own_arrives : (b : Bool) (w : WorldState) (i node : ℕ) (judged : Judged) (t : Turn) → (node == 0) ≡ false → i < length w.initiators → ((j : ℕ) → (j == i) ≡ false → NotTo (history w past) j serial) → AreNotes t.0.sides → NoneActs (history w past) → Tells P (said (judged_note serial judged) ∷ history w past) i t → Are P past w → Are P past (handed_out node 0 t.0 (with_note (judged_note serial judged) (mark b (record w { initiators = slice_set w.initiators i t.1 }))))
    own_arrives true w i node judged t z inside away own n tells h =
        initiator_hands P law past (with_note (judged_note serial judged) w) i node 0 t z inside own n tells (note_beside P law past w (judged_note serial judged) i (judged_apart serial judged) (λ j f. judged_elsewhere (history w past) j serial judged (away j f)) h)
    own_arrives false w i node judged t z inside away own n tells h =
        let v = record w { store = deliver_step w.store serial } in
        initiator_hands P law past (with_note (judged_note serial judged) v) i node 0 t z inside own n tells (note_beside P law past v (judged_note serial judged) i (judged_apart serial judged) (λ j f. judged_elsewhere (history w past) j serial judged (away j f)) h)

    abbrev Arrives : Option Arrival × (OutboxState × Scene) → Type 0
    Arrives r = Are P past (delivered_by serial again r).world

    pick_arrives : (b : Bool) (x y : Option Arrival × (OutboxState × Scene)) → (b ≡ true → Arrives x) → (b ≡ false → Arrives y) → Arrives (cond b x y)
    pick_arrives true x y h i = h refl
    pick_arrives false x y h i = i refl

    at_target_arrives : (node : ℕ) (r : Judged × (OutboxState × (NodeState × Held))) (s : Scene) → ((i : ℕ) → NotTo (history s.world past) i serial) → FromTarget r.1.0 → NoneActs (history s.world past) → Are P past s.world → Arrives (at_target node r s)
    unfolding arrived
    at_target_arrives node (judged, (outbox, (state, media))) s away o n h =
        target_arrives (again || not (is_flying serial s.world.store.kept)) s.world state node judged outbox away o n h

    at_own_arrives : (i node : ℕ) (r : Judged × Turn) (s : Scene) → (node == 0) ≡ false → i < length s.world.initiators → ((j : ℕ) → (j == i) ≡ false → NotTo (history s.world past) j serial) → AreNotes r.1.0.sides → NoneActs (history s.world past) → Tells P (said (judged_note serial r.0) ∷ history s.world past) i r.1 → Are P past s.world → Arrives (at_initiator node (listed i r s.world.initiators) s)
    unfolding arrived
    at_own_arrives i node (judged, (outbox, state)) s z inside away own n tells h =
        own_arrives (again || not (is_flying serial s.world.store.kept)) s.world i node judged (outbox, state) z inside away own n tells h

    own_received : (sent : Sent) (s : Scene) → Arriving past serial sent s.world → (sent.to == 0) ≡ false → NoneActs (history s.world past) → Are P past s.world → Arrives (initiator_received sent s)
    unfolding initiators_received
    own_received sent s k z n h =
        let i = sent.to - 1 in
        let to_is : sent.to ≡ suc i = grind (arith, nat_tests) in
        let old = initiator_at s.world i in
        let r = receive_step sent.generation sent.bytes empty_outbox old in
        pick_arrives (nat_lt i (length s.world.initiators)) (at_initiator sent.to (initiators_received i sent s.world.initiators) s) (at_none s)
        (λ e.
        let inside : i < length s.world.initiators = grind (arith, nat_tests) in
        at_own_arrives i sent.to r s z inside (λ j f. k.away j (let g : (sent.to == suc j) ≡ false = grind (arith, nat_tests) in g)) (own_notes r.1.0.sides (initiators.receives sent.generation sent.bytes empty_outbox old tt)) n
        (law.hears serial sent.generation sent.bytes (history s.world past) i old (k.heard i to_is) (k.now i inside) (k.shown i to_is inside) (h i inside)) h)
        (λ e. h)

    received_where : (told : Option Told) (sent : Sent) (s : Scene) → MayTold (sent.to == 0) told sent s → Arriving past serial sent s.world → NoneActs (history s.world past) → Are P past s.world → Arrives (received_at told sent s)
    received_where told sent s m k n h =
        pick_arrives (sent.to == 0) (at_target sent.to (target_received told sent s.world.target s.media) s) (initiator_received sent s)
        (λ e. at_target_arrives sent.to (target_received told sent s.world.target s.media) s (λ i. k.away i (let g : (sent.to == suc i) ≡ false = grind (arith, nat_tests) in g)) (target_gives told sent s.world.target s.media (subst (λ b. MayTold b told sent s) e m)) n h)
        (λ e. own_received sent s k e n h)

    received_found : (told : Option Told) (found : Option Sent) (s : Scene) → MayAt told found s → ((sent : Sent) → found ≡ Some sent → Arriving past serial sent s.world) → NoneActs (history s.world past) → Are P past s.world → Arrives (received_by told found s)
    received_found told None s m k n h = h
    received_found told (Some sent) s m k n h = received_where told sent s m (k sent refl) n h

    pub delivers : (told : Option Told) (s : Scene) → MayReceive told serial s → ((sent : Sent) → found_sent serial s.world.store.kept ≡ Some sent → Arriving past serial sent s.world) → NoneActs (history s.world past) → Are P past s.world → Are P past (delivered serial again told s).world
    unfolding delivered received_step MayReceive
    delivers told s m k n h = received_found told (found_sent serial s.world.store.kept) s m k n h

  -- ---- a time-out

  module _ (line serial : ℕ) where
    abbrev Ends : ℕ → Bool × (OutboxState × WorldState) → Type 0
    Ends node r = Are P past (timed_out line serial node r)

    pick_ends : (node : ℕ) (b : Bool) (x y : Bool × (OutboxState × WorldState)) → (b ≡ true → Ends node x) → (b ≡ false → Ends node y) → Ends node (cond b x y)
    pick_ends node true x y h i = h refl
    pick_ends node false x y h i = i refl

    refuses : (w : WorldState) → Are P past w → Are P past (refused line no_packet w)
    refuses w h = note_carried P law past w (notes.Refused line no_packet) (λ i. refl) (λ i. tt) h

    target_ends : (node : ℕ) (r : Result (Unit {0}) Stale × target.Scene) (w : WorldState) → ((target_left r w.target).0 ≡ true → (i : ℕ) → NotFrom (history w past) i serial) → FromTarget r.1.outbox → NoneActs (history w past) → Are P past w → Ends node (packets.at_target (target_left r w.target) w)
    target_ends node (Ok done, s) w away o n h = target_hands P law past (with_note (notes.TimedOut serial) w) s.node node 0 s.outbox o n (note_carried P law past w (notes.TimedOut serial) (λ i. refl) (away refl) h)
    target_ends node (Err stale, s) w away o n h = refuses w h

    own_ends : (i node : ℕ) (r : Bool × Turn) (w : WorldState) → (node == 0) ≡ false → i < length w.initiators → (r.0 ≡ true → (j : ℕ) → (j == i) ≡ false → NotFrom (history w past) j serial) → AreNotes r.1.0.sides → NoneActs (history w past) → (r.0 ≡ true → Tells P (said (notes.TimedOut serial) ∷ history w past) i r.1) → (r.0 ≡ false → Tells P (history w past) i r.1) → (r.0 ≡ false → r.1.0 ≡ empty_outbox) → Are P past w → Ends node (packets.at_initiator i r w)
    unfolding told_all sent_all
    own_ends i node (true, (outbox, state)) w z inside away own n tells before stale h =
        initiator_hands P law past (with_note (notes.TimedOut serial) w) i node 0 (outbox, state) z inside own n (tells refl) (note_beside P law past w (notes.TimedOut serial) i (λ j. refl) (away refl) h)
    own_ends i node (false, (outbox, state)) w z inside away own n tells before stale h =
        refuses (with_initiator i state w) (handed_nothing (stale refl) (initiator_hands P law past w i node 0 (outbox, state) z inside own n (before refl) (all_but i w h)))
      where
        handed_nothing : outbox ≡ empty_outbox → Are P past (handed_out node 0 outbox (with_initiator i state w)) → Are P past (with_initiator i state w)
        handed_nothing e h = subst (λ x. Are P past (handed_out node 0 x (with_initiator i state w))) e h

    -- one that is stale tells nothing
    stale_tells : (label : LabelParts) (w : WorldState) (i : ℕ) (s : InitiatorState) → P (history w past) i s → (expire_step label empty_outbox s).0 ≡ false → Tells P (history w past) i (expire_step label empty_outbox s).1
    stale_tells label w i s h e =
        subst (λ (o : OutboxState). Tells P (history w past) i (o, (expire_step label empty_outbox s).1.1)) (sym (silent past line serial label s e))
        (record { own = law.stale label (history w past) i s e h; others = λ j x f g. g })

    own_expires : (request : Request) (w : WorldState) → Lapsing past serial request w → (request.node == 0) ≡ false → NoneActs (history w past) → Are P past w → Ends request.node (initiator_expires request w)
    own_expires request w k z n h =
        let i = request.node - 1 in
        let node_is : request.node ≡ suc i = grind (arith, nat_tests) in
        let old = initiator_at w i in
        let r = expire_step request.label empty_outbox old in
        pick_ends request.node (nat_lt i (length w.initiators)) (packets.at_initiator i r w) (false, (empty_outbox, w))
        (λ e.
        let inside : i < length w.initiators = grind (arith, nat_tests) in
        own_ends i request.node r w z inside (λ e j f. k.own_away i node_is inside e j f) (own_notes r.1.0.sides (initiators.expires request.label empty_outbox old tt)) n
        (λ e. law.expires serial request.label (history w past) i old (k.shown i node_is inside e) (h i inside)) (stale_tells request.label w i old (h i inside)) (silent past line serial request.label old) h)
        (λ e. refuses w h)

    all_expires : (request : Request) (w : WorldState) → Lapsing past serial request w → NoneActs (history w past) → Are P past w → Ends request.node (world_expires request w)
    unfolding world_expires target_expired
    all_expires request w k n h =
        pick_ends request.node (request.node == 0) (packets.at_target (target_expired request w.target) w) (initiator_expires request w)
        (λ e. target_ends request.node (expired request.peer request.label (scene w.target empty_outbox)) w (k.target_away (let z : request.node ≡ 0 = grind (arith, nat_tests) in z)) (target_give.expires request.peer request.label (scene w.target empty_outbox) (tt, tt)) n h)
        (λ e. own_expires request w k e n h)

    found_expires : (request : Option Request) (w : WorldState) → ((one : Request) → request ≡ Some one → Lapsing past serial one w) → NoneActs (history w past) → Are P past w → Are P past (timeout_of request line serial w)
    found_expires None w k n h = refuses w h
    found_expires (Some request) w k n h = all_expires request w (k request refl) n h

    pub line_expires : (w : WorldState) → ((request : Request) → find w.requests serial ≡ Some request → Lapsing past serial request w) → NoneActs (history w past) → Are P past w → Are P past (timeout_line line serial w)
    unfolding timeout_line
    line_expires w k n h = found_expires (find w.requests serial) w k n h

  -- ---- a sight

  module _ (node : ℕ) (w : WorldState) (n : NoneActs (history w past)) (h : Are P past w) where
    abbrev seen : WorldState
    seen = nodes.with_seen node (nodes.told_seen node w)

    abbrev note : Note
    note = notes.Seen node w.generations.latest.generation

    abbrev Sees : OutboxState × WorldState → Type 0
    Sees r = Are P past (nodes.handed_all node r)

    pick_sees : (b : Bool) (x y : OutboxState × WorldState) → (b ≡ true → Sees x) → (b ≡ false → Sees y) → Sees (cond b x y)
    pick_sees true x y h i = h refl
    pick_sees false x y h i = i refl

    others_seen : (i j : ℕ) → node ≡ suc i → (j == i) ≡ false → is_apart j note ≡ true
    others_seen i j e f = let g : (node == suc j) ≡ false = grind (arith, nat_tests) in ap not g

    zero_seen : (j : ℕ) → (node == 0) ≡ true → is_apart j note ≡ true
    zero_seen j e = let g : (node == suc j) ≡ false = grind (arith, nat_tests) in ap not g

    target_pair : (r : OutboxState × NodeState) → FromTarget r.0 → (node == 0) ≡ true → Sees (nodes.at_target r seen)
    target_pair (outbox, state) o e =
        target_hands P law past seen state node 0 outbox o n (λ i b. law.apart note (history w past) i (initiator_at w i) (zero_seen i e) tt (h i b))

    own_pair : (i : ℕ) (r : Turn) → node ≡ suc i → i < length w.initiators → AreNotes r.0.sides → Tells P (said note ∷ history w past) i r → Sees (nodes.at_initiator i r seen)
    own_pair i (outbox, state) e inside own tells =
        initiator_hands P law past seen i node 0 (outbox, state) (let z : (node == 0) ≡ false = grind (arith, nat_tests) in z) inside own n tells
        (λ j b f. law.apart note (history w past) j (initiator_at w j) (others_seen i j e f) tt (h j b))

    pub line_sees : ((i : ℕ) → node ≡ suc i → i < length w.initiators) → ((i : ℕ) → node ≡ suc i → MaySee past i w) → Are P past (see_line node w)
    unfolding see_line nodes.sees
    line_sees inside may =
        pick_sees (node == 0) (nodes.target_learns seen) (nodes.initiator_learns node seen)
        (λ e. target_pair (nodes.target_sees w.generations.latest.generation (id_of w.generations.latest 0) w.target) (sight_gives w.generations.latest.generation (id_of w.generations.latest 0) w.target) e)
        (λ e.
        let i = node - 1 in
        let is : node ≡ suc i = grind (arith, nat_tests) in
        let old = initiator_at w i in
        let g = w.generations.latest.generation in
        let id = id_of w.generations.latest node in
        let other = id_of w.generations.latest 0 in
        own_pair i (see_step g id other empty_outbox old) is (inside i is) (own_notes (see_step g id other empty_outbox old).0.sides (initiators.sees g id other empty_outbox old tt))
        (subst (λ k. Tells P (said (notes.Seen k g) ∷ history w past) i (see_step g id other empty_outbox old)) (sym is)
        (law.sees g id other (history w past) i old
        (subst (λ k. (seeing_step old.layer g (id_of w.generations.latest k)).0 ≡ not (g == (wire_terms (history w past)).generation (suc i))) (sym is) (may i is)) (h i (inside i is)))))

  -- ---- a second

  pub ticks : (w : WorldState) → NoneActs (history w past) → Are P past w → Are P past (tick_line w)
  unfolding tick_line
  ticks w n h = by_pair (target_ticks w.target) (second_gives w.target)
    where
      by_pair : (r : OutboxState × NodeState) → FromTarget r.0 → Are P past (nodes.handed_all 0 (nodes.at_target r (with_note notes.Tick w)))
      by_pair (outbox, node) o = target_hands P law past (with_note notes.Tick w) node 0 0 outbox o n (note_carried P law past w notes.Tick (λ i. refl) (λ i. tt) h)
