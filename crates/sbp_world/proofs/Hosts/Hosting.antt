-- The lists of every initiator of a world.
use Rattle.sbp_world.proofs.Words.Std.{arith, ◌≡◌, refl, sym, ◌∙◌, ap, subst, ℕ, ◌+◌, ◌<◌, ◌==◌, nat_eq, Bool, true, false, List, [], ◌∷◌, length, get_or, Option, Some, None, nat_tests, common_steps}
use Rattle.sbp_world.proofs.Words.Wire.{LabelParts, Moment, OutboxState, Outgoing, Note, Side, node_of}
use Rattle.sbp_world.proofs.Words.Target.{NodeState}
use Rattle.sbp_world.proofs.Words.Initiator.{InitiatorState, new_state, Turn}
use Rattle.sbp_world.proofs.Words.Laws.{event_of}
use Rattle.sbp_world.proofs.Words.World.{handed_out, asked, posted, sent, sent_all, sent_to, told, told_all, WorldState, initiator_at, with_initiator, with_note, with_target, behind, Listed, AreRows, AreNotes, AreOthers, history, IsNoAbort, is_beside, AreBut, AreHosts, IsHost, NoneAborts, WorldLaw}
use Rattle.std.proofs.Common.{slice_set}
use Rattle.std.proofs.lemmas.List.{length-set}
use Rattle.sbp_journal.specs.declared.side.Side.TheVariants as sides
use Rattle.sbp_world.proofs.Hosts.Beside.{beside_rests}
use Rattle.sbp_world.proofs.Hosts.Outboxes.{all_others, all_own, all_still, line_stays}

-- ---- what is handed out changes no initiator, and begins no line

told_keeps : (weight : ℕ) (side : Side) (w : WorldState) → (told weight side w).initiators ≡ w.initiators
unfolding told
told_keeps weight (sides.Own note) w = refl
told_keeps weight (sides.Opened place orb) w = refl
told_keeps weight (sides.Ran place orb cdb payload outcome) w = refl
told_keeps weight (sides.Ended place orb status) w = refl
told_keeps weight (sides.Dead place cause) w = refl
told_keeps weight (sides.Cut place cause) w = refl
told_keeps weight (sides.Managed node function subject status login) w = refl
told_keeps weight (sides.ManageFailed node cause) w = refl
told_keeps weight (sides.Held login) w = refl
told_keeps weight (sides.Expired login) w = refl
told_keeps weight (sides.Back login) w = refl
told_keeps weight (sides.Left login) w = refl
told_keeps weight (sides.Cleared unit) w = refl
told_keeps weight (sides.Unsolicited place) w = refl
told_keeps weight (sides.Unsent place) w = refl

all_told_keep : (weight : ℕ) (side : List Side) (w : WorldState) → (told_all weight side w).initiators ≡ w.initiators
unfolding told_all
all_told_keep weight [] w = refl
all_told_keep weight (side ∷ later) w = all_told_keep weight later (told weight side w) ∙ told_keeps weight side w

asked_keeps : (serial to node peer : ℕ) (label : Option LabelParts) (w : WorldState) → (asked serial to node peer label w).initiators ≡ w.initiators
asked_keeps serial to node peer None w = refl
asked_keeps serial to node peer (Some label) w = refl

posted_keeps : (from to : ℕ) (bytes : List ℕ) (w : WorldState) → (posted from to false bytes w).initiators ≡ w.initiators
unfolding posted
posted_keeps from to bytes w = refl

to_keeps : (to : Option ℕ) (from : ℕ) (packet : Outgoing) (w : WorldState) → (sent_to to from packet w).initiators ≡ w.initiators
to_keeps None from packet w = refl
to_keeps (Some to) from packet w =
    asked_keeps (w.store.last + 1) to from packet.to packet.label (posted from to false packet.bytes w) ∙ posted_keeps from to packet.bytes w

sent_keeps : (from : ℕ) (packet : Outgoing) (w : WorldState) → (sent from packet w).initiators ≡ w.initiators
unfolding sent
sent_keeps from packet w = to_keeps (node_of w.generations from packet.to) from packet w

all_sent_keep : (from : ℕ) (packets : List Outgoing) (w : WorldState) → (sent_all from packets w).initiators ≡ w.initiators
unfolding sent_all
all_sent_keep from [] w = refl
all_sent_keep from (packet ∷ later) w = all_sent_keep from later (sent from packet w) ∙ sent_keeps from packet w

pub hands_keep : (from weight : ℕ) (outbox : OutboxState) (w : WorldState) → (handed_out from weight outbox w).initiators ≡ w.initiators
hands_keep from weight outbox w = all_sent_keep from outbox.packets (told_all weight outbox.sides w) ∙ all_told_keep weight outbox.sides w

no_abort : (past : List Moment) (w x : WorldState) (i : ℕ) → IsNoAbort i (event_of (history w past)) → IsNoAbort i (event_of (history x past))
no_abort past w x i n = subst (IsNoAbort i) (line_stays w.fresh past ∙ sym (line_stays x.fresh past)) n

-- ---- the packets of a node

module _ (past : List Moment) (i : ℕ) (s : InitiatorState) where
  host_sent : (w : WorldState) (from : ℕ) (packets : List Outgoing) → IsNoAbort i (event_of (history w past)) → IsHost (history w past) i s → IsHost (history (sent_all from packets w) past) i s
  host_sent w from packets n h = record {
    number = h.number;
    rows = (all_still past i s.lists.slots from packets w (record { line = n; rows = h.rows })).rows;
    pin = h.pin;
  }

pub hosts_are : (past : List Moment) (w x : WorldState) → x.initiators ≡ w.initiators → ((i : ℕ) → i < length w.initiators → IsHost (history x past) i (initiator_at w i)) → AreHosts past x
hosts_are past w x e h i b =
    subst (λ (xs : List InitiatorState). IsHost (history x past) i (get_or xs i (new_state 0 false))) (sym e) (h i (subst (λ (xs : List InitiatorState). i < length xs) e b))

-- ---- what the target hands out

pub target_hosts : (past : List Moment) (w : WorldState) (node : NodeState) (from weight : ℕ) (outbox : OutboxState) → AreOthers outbox.sides → NoneAborts (history w past) → AreHosts past w → AreHosts past (handed_out from weight outbox (with_target node w))
target_hosts past w node from weight outbox o n h =
    let v = with_target node w in
    let x = told_all weight outbox.sides v in
    hosts_are past v (handed_out from weight outbox v) (hands_keep from weight outbox v)
    (λ i b. host_sent past i (initiator_at w i) x from outbox.packets (no_abort past v x i (n i))
    (record { number = (h i b).number; rows = all_others past weight i (initiator_at w i).lists.slots outbox.sides v o (h i b).rows; pin = (h i b).pin }))

-- ---- what an initiator hands out

pub state_here : (states : List InitiatorState) (i : ℕ) (state other : InitiatorState) → i < length states → get_or (slice_set states i state) i other ≡ state
state_here states i state other b = grind (arith, common_steps)

pub state_there : (states : List InitiatorState) (i j : ℕ) (state other : InitiatorState) → (j == i) ≡ false → i < length states → get_or (slice_set states i state) j other ≡ get_or states j other
state_there states i j state other e b = grind (arith, common_steps)

pub initiator_hosts : (past : List Moment) (w : WorldState) (i from weight : ℕ) (t : Turn) → i < length w.initiators → t.1.number ≡ i → AreNotes t.0.sides → NoneAborts (history w past) → Listed (history w past) t → AreBut past i w → AreHosts past (handed_out from weight t.0 (with_initiator i t.1 w))
initiator_hosts past w i from weight t inside number own n listed but =
    let v = with_initiator i t.1 w in
    let x = told_all weight t.0.sides v in
    let told_is : history x past ≡ behind t.0.sides (history w past) = all_own past weight t.0.sides v own in
    hosts_are past v (handed_out from weight t.0 v) (hands_keep from weight t.0 v)
    (λ j b. host_sent past j (initiator_at v j) x from t.0.packets (no_abort past w x j (n j))
    (subst (λ ms. IsHost ms j (initiator_at v j)) (sym told_is) (each j (j == i) refl (subst (λ m. j < m) (length-set w.initiators i t.1) b))))
  where
    each : (j : ℕ) (c : Bool) → (j == i) ≡ c → j < length w.initiators → IsHost (behind t.0.sides (history w past)) j (initiator_at (with_initiator i t.1 w) j)
    each j true e b =
        let same : i ≡ j = grind (arith, nat_tests) in
        subst (λ m. IsHost (behind t.0.sides (history w past)) m (initiator_at (with_initiator i t.1 w) m)) same
        (subst (IsHost (behind t.0.sides (history w past)) i) (sym (state_here w.initiators i t.1 (new_state 0 false) inside))
        (record { number = number; rows = subst (λ m. AreRows (behind t.0.sides (history w past)) m t.1.lists.slots) number listed.rows; pin = listed.pin }))
    each j false e b =
        let h = but j b e in
        subst (IsHost (behind t.0.sides (history w past)) j) (sym (state_there w.initiators i j t.1 (new_state 0 false) e inside))
        (record { number = h.number; rows = listed.beside j (initiator_at w j).lists.slots (ap (nat_eq j) number ∙ e) h.rows; pin = h.pin })

pub note_hosts : (past : List Moment) (w : WorldState) (note : Note) → ((i : ℕ) → is_beside i note ≡ true) → AreHosts past w → AreHosts past (with_note note w)
note_hosts past w note e h i b =
    record { number = (h i b).number; rows = beside_rests (history w past) i (initiator_at w i).lists.slots (h i b).rows note (e i); pin = (h i b).pin }

pub world_law : WorldLaw
world_law = record { note = note_hosts; target = target_hosts; initiator = initiator_hosts }
