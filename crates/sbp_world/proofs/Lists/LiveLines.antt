-- What each line of a world that delivers one packet at most, and each delivery of another, is for an initiator.
use Rattle.sbp_world.proofs.Words.Std.{arith, ◌≡◌, ◌∙◌, refl, sym, ap, subst, ℕ, zero, suc, ◌+◌, ◌-◌, ◌<◌, ◌≤◌, nat_eq, nat_lt, Bool, true, false, not, ◌||◌, cond, List, [], ◌∷◌, length, Option, Some, None, if◌then◌else◌, slice_index_or, slice_set, nat_tests, get_or-set_other, get_or-set_at, false≢true}
use Rattle.sbp_world.proofs.Words.Wire.{is_reset, Node, Kept, Sent, found_sent, is_flying, deliver_step, Topology, Request, GenerationsState, id_of, topology_at, end_note, judged_note, no_node, no_packet, find, Action, Event, Judged, Note, OutboxState, empty_outbox, Moment}
use Rattle.sbp_world.proofs.Words.Target.{Disk, Told, scene, expired, received}
use Rattle.sbp_world.proofs.Words.Initiator.{act_step, InitiatorState, Turn, new_state, expire_step, receive_step, see_step, is_stuck_seat}
use Rattle.sbp_world.proofs.Words.World.{Arrival, MayAt, MayReceive, MayTell, MayTold, arrived, at_target, delivered, delivered_by, initiator_received, initiators_received, marked, received_by, received_step, target_received, whole_of, with_initiators, handed_out, MayHappen, acted, acted_by, happens, weight_in, reset_line, see_line, told_seen, with_seen, MayIf, at_initiator, delivered_if, expires, initiator_expires, inject_line, injected, injected_to, is_in_flight, lose_line, lost, may_repeat, refused, target_expired, timed_out, timeout_line, timeout_of, posted, MayNext, delivered_at, delivered_next, lowest, Scene, WorldState, begun, initiator_at, with_initiator, with_note, with_target, without_notes, IsLine, Stands}
use Rattle.std.proofs.lemmas.List.{length-set}
use Rattle.sbp_journal.specs.declared.event.Event.TheVariants as events
use Rattle.sbp_journal.specs.declared.note.Note.TheVariants as notes
use Rattle.sbp_world.specs.Nodes as nodes
use Rattle.sbp_world.specs.Packets as packets
use Rattle.sbp_world.specs.Settling as settling
use Rattle.sbp_world.proofs.Wire.Alike.{IsAlike}
use Rattle.sbp_world.proofs.Wire.Comes.{own_inside, own_outside, received_is, to_own, to_zero}
use Rattle.sbp_world.proofs.Wire.Nodes.{handed_alike, marked_alike}
use Rattle.sbp_world.proofs.Agents.Management.Holding.{Holding}
use Rattle.sbp_world.proofs.Hosts.ActLeft.{act_left}
use Rattle.sbp_world.proofs.Hosts.Hands.{target_tells}
use Rattle.sbp_world.proofs.Hosts.Knows.{seen_flag}
use Rattle.sbp_world.proofs.Hosts.Layered.{AreTame, expire_left, receive_left}
use Rattle.sbp_world.proofs.Hosts.PointSees.{see_left}
use Rattle.sbp_world.proofs.Sessions.Turns.{next, not_later, other_same, own_latest}
use Rattle.sbp_world.proofs.Lists.LiveActs.{see_new, see_old}
use Rattle.sbp_world.proofs.Lists.LiveStandings.{stand_of}
use Rattle.sbp_world.proofs.Lists.LiveTold.{AwayFrom, HeardFirst, IsAway, IsOwnPacket, TellsAway, first_heard, handed_told, hands_heard, hands_told, judged_away, judged_first, none_told, one_told, posted_told}
use Rattle.sbp_world.proofs.Lists.LiveTurns.{TargetCall, TurnOf, Turned, acts, by_own, by_sight, delivers, hears, key_turn, lapse_turn, lapses, own_turn, quiet_turn, rests, sight_turn, target_turn, tick_turn}
use Rattle.sbp_world.proofs.Lists.Turned.{IsOne}

-- ---- an initiator acts
acts_by : (w : WorldState) (line j : ℕ) (action : Action) (r : Option ℕ × Turn) → act_step action empty_outbox (initiator_at w j) ≡ r → Turned w w.fresh (acted_by r line j action w)
acts_by w line j action (Some number, turn) e =
    own_turn w w.fresh _ j turn.1 (record { generations = refl; target = refl; initiators = refl })
    (λ i same l. acts action (ap (λ (r : Option ℕ × Turn). r.1.1) (sym e) ∙ ap (λ k. (act_step action empty_outbox (initiator_at w k)).1.1) (sym same)))
    (λ i. one_told i _ w.store.kept w.fresh (notes.Refused line number) (with_initiator j turn.1 w) tt (none_told i _ w.store.kept w.fresh))
acts_by w line j action (None, turn) e =
    let a = handed_alike (j + 1) (weight_in action) turn.0 (with_initiator j turn.1 w) in
    let tame = subst (λ (r : Option ℕ × Turn). AreTame r.1.0.sides) e (act_left action (initiator_at w j) (ap (λ (r : Option ℕ × Turn). r.0) e)).told in
    own_turn w w.fresh _ j turn.1 (record { generations = a.generations; target = a.target; initiators = a.initiators })
    (λ i same l. acts action (ap (λ (r : Option ℕ × Turn). r.1.1) (sym e) ∙ ap (λ k. (act_step action empty_outbox (initiator_at w k)).1.1) (sym same)))
    (λ i. hands_told i _ w.store.kept w.fresh (j + 1) (weight_in action) turn.0 (with_initiator j turn.1 w) (λ z. absurd (omega (arith, z))) tame (none_told i _ w.store.kept w.fresh))

act_turn : (w : WorldState) (line j : ℕ) (action : Action) → Turned w w.fresh (acted line j action w)
unfolding acted
act_turn w line j action = acts_by w line j action (act_step action empty_outbox (initiator_at w j)) refl

-- ---- a packet is lost, or injected; the bus is reset
lose_turn : (w : WorldState) (line serial : ℕ) → Turned w w.fresh (lose_line line serial w)
unfolding lose_line
lose_turn w line serial = by (is_in_flight serial w)
  where
    by : (b : Bool) → Turned w w.fresh (cond b (lost serial w) (refused line no_packet w))
    by true = quiet_turn w w.fresh _ (λ k. refl) refl refl (λ i. one_told i _ w.store.kept w.fresh (notes.Lost serial) w tt (none_told i _ w.store.kept w.fresh))
    by false = quiet_turn w w.fresh _ (λ k. refl) refl refl (λ i. one_told i _ w.store.kept w.fresh (notes.Refused line no_packet) w tt (none_told i _ w.store.kept w.fresh))

inject_to : (w : WorldState) (line j : ℕ) (bytes : List ℕ) (to : Option ℕ) → Turned w w.fresh (injected to line (j + 1) bytes w)
unfolding posted
inject_to w line j bytes None = quiet_turn w w.fresh _ (λ k. refl) refl refl (λ i. one_told i _ w.store.kept w.fresh (notes.Refused line no_node) w tt (none_told i _ w.store.kept w.fresh))
inject_to w line j bytes (Some to) = quiet_turn w w.fresh _ (λ k. refl) refl refl (λ i. posted_told i _ w.store.kept w.fresh (j + 1) to true bytes w (λ z. absurd (omega (arith, z))) (none_told i _ w.store.kept w.fresh))

inject_turn : (w : WorldState) (line j : ℕ) (bytes : List ℕ) → Turned w w.fresh (inject_line line j bytes w)
unfolding inject_line
inject_turn w line j bytes = inject_to w line j bytes (injected_to (j + 1) bytes w)

reset_turn : (w : WorldState) (ids : List ℕ) → Turned w w.fresh (reset_line ids w)
unfolding reset_line
reset_turn w ids = quiet_turn w w.fresh _ (λ k. refl) refl refl (λ i. record { more = notes.Reset _ ∷ []; is = refl; away = (tt, tt) })

-- ---- a transaction of an initiator times out
lapse_own : (w : WorldState) (line serial : ℕ) (request : Request) (j : ℕ) → (request.node ≡ 0 → ⊥) → (r : Bool × Turn) → expire_step request.label empty_outbox (initiator_at w j) ≡ r → Turned w w.fresh (timed_out line serial request.node (at_initiator j r w))
lapse_own w line serial request j own (true, turn) e =
    let a = handed_alike request.node 0 turn.0 (with_note (notes.TimedOut serial) (with_initiator j turn.1 w)) in
    let tame = subst (λ (r : Bool × Turn). AreTame r.1.0.sides) e (expire_left request.label (initiator_at w j)).told in
    own_turn w w.fresh _ j turn.1 (record { generations = a.generations; target = a.target; initiators = a.initiators })
    (λ i same l. lapses request.label (ap (λ (r : Bool × Turn). r.1.1) (sym e) ∙ ap (λ k. (expire_step request.label empty_outbox (initiator_at w k)).1.1) (sym same)))
    (λ i. hands_told i _ w.store.kept w.fresh request.node 0 turn.0 (with_note (notes.TimedOut serial) (with_initiator j turn.1 w)) own tame
    (one_told i _ w.store.kept w.fresh (notes.TimedOut serial) (with_initiator j turn.1 w) tt (none_told i _ w.store.kept w.fresh)))
lapse_own w line serial request j own (false, turn) e =
    own_turn w w.fresh _ j turn.1 (record { generations = refl; target = refl; initiators = refl })
    (λ i same l. lapses request.label (ap (λ (r : Bool × Turn). r.1.1) (sym e) ∙ ap (λ k. (expire_step request.label empty_outbox (initiator_at w k)).1.1) (sym same)))
    (λ i. one_told i _ w.store.kept w.fresh (notes.Refused line no_packet) (with_initiator j turn.1 w) tt (none_told i _ w.store.kept w.fresh))

lapse_if : (w : WorldState) (line serial : ℕ) (request : Request) (j : ℕ) → (request.node ≡ 0 → ⊥) → (b : Bool) → Turned w w.fresh (timed_out line serial request.node (if b then at_initiator j (expire_step request.label empty_outbox (initiator_at w j)) w else (false, (empty_outbox, w))))
lapse_if w line serial request j own true = lapse_own w line serial request j own (expire_step request.label empty_outbox (initiator_at w j)) refl
lapse_if w line serial request j own false = quiet_turn w w.fresh _ (λ k. refl) refl refl (λ i. one_told i _ w.store.kept w.fresh (notes.Refused line no_packet) w tt (none_told i _ w.store.kept w.fresh))

module _ (units ready : ℕ) (has : 0 < units) (start : List Disk) {past : List Moment} {lines : ℕ} (w : WorldState) (h : Holding units ready start past lines w) where
  abbrev stands : Stands past w
  stands = h.sound.stands

  late_at : (line serial : ℕ) (request : Request) (node : ℕ) → request.node ≡ node → Turned w w.fresh (timed_out line serial request.node (expires request w))
  unfolding expires target_expired
  late_at line serial request zero e =
      let is_zero : nat_eq request.node 0 ≡ true = grind arith in
      subst (λ b. Turned w w.fresh (timed_out line serial request.node (if b then packets.at_target (target_expired request w.target) w else initiator_expires request w))) (sym is_zero)
      (lapse_turn units ready has start w h request line serial e (expired request.peer request.label (scene w.target empty_outbox)) refl)
  late_at line serial request (suc j) e =
      let other : nat_eq request.node 0 ≡ false = grind arith in
      subst (λ b. Turned w w.fresh (timed_out line serial request.node (if b then packets.at_target (target_expired request w.target) w else initiator_expires request w))) (sym other)
      (lapse_if w line serial request (request.node - 1) (λ z. absurd (omega (arith, e, z))) (nat_lt (request.node - 1) (length w.initiators)))

  late_by : (line serial : ℕ) (so : Option Request) → Turned w w.fresh (timeout_of so line serial w)
  late_by line serial None = quiet_turn w w.fresh _ (λ k. refl) refl refl (λ i. one_told i _ w.store.kept w.fresh (notes.Refused line no_packet) w tt (none_told i _ w.store.kept w.fresh))
  late_by line serial (Some request) = late_at line serial request request.node refl

  late : (line serial : ℕ) → Turned w w.fresh (timeout_line line serial w)
  unfolding timeout_line
  late line serial = late_by line serial (find w.requests serial)

  -- ---- an initiator sees the latest generation
  module _ (j : ℕ) (inside : suc j ≤ length w.initiators) where
    abbrev base : WorldState
    base = with_seen (suc j) (told_seen (suc j) w)

    abbrev turn : ℕ → Turn
    turn k = see_step w.generations.latest.generation (id_of w.generations.latest (suc j)) (id_of w.generations.latest 0) empty_outbox (initiator_at base k)

    abbrev now : WorldState
    now = handed_out (suc j) 0 (turn j).0 (with_initiator j (turn j).1 base)

    alike : IsAlike (with_initiator j (turn j).1 base) now
    alike = handed_alike (suc j) 0 (turn j).0 (with_initiator j (turn j).1 base)

    at_now : (k : ℕ) → topology_at now.generations k ≡ topology_at (next w (suc j)) k
    at_now k = ap (λ (g : GenerationsState). topology_at g k) alike.generations

    stays_at : (k : ℕ) → nat_eq k (suc j) ≡ false → topology_at now.generations k ≡ topology_at w.generations k
    stays_at k e = at_now k ∙ other_same w (suc j) k e

    latest_at : topology_at now.generations (suc j) ≡ w.generations.latest
    latest_at = at_now (suc j) ∙ (let size = stands.is.seen in own_latest w (suc j) (omega arith))

    layer_is : (initiator_at w j).layer.generation ≡ (topology_at w.generations (suc j)).generation
    layer_is = sym (ap (λ (l : Node). l.generation) (stands.is.layers_are (suc j) inside)) ∙ stands.is.sights (suc j) inside

    zero_stays : topology_at now.generations 0 ≡ topology_at w.generations 0
    zero_stays = stays_at 0 (grind (arith, nat_tests))

    own_now : initiator_at now j ≡ (turn j).1
    own_now = ap (λ xs. slice_index_or xs j (new_state 0 false)) alike.initiators ∙ get_or-set_at w.initiators j j (turn j).1 (new_state 0 false) refl (omega arith)

    -- what is told: the generation is that of the node, or another's
    told_away : (i : ℕ) → (i ≡ j → w.generations.latest.generation ≡ (topology_at w.generations (suc i)).generation) → TellsAway i w w.fresh now
    told_away i same =
        hands_told i _ w.store.kept w.fresh (suc j) 0 (turn j).0 (with_initiator j (turn j).1 base) (λ z. absurd (omega (arith, z)))
        (see_left w.generations.latest.generation (id_of w.generations.latest (suc j)) (id_of w.generations.latest 0) (initiator_at base j)).told
        (one_told i _ w.store.kept w.fresh (notes.Seen (suc j) w.generations.latest.generation) w ((λ z. absurd (omega (arith, z))), (λ z. same (let x : i ≡ j = omega (arith, z) in x))) (none_told i _ w.store.kept w.fresh))

    by_flag : (b : Bool) → nat_lt (initiator_at w j).layer.generation w.generations.latest.generation ≡ b → TurnOf j w w.fresh now
    by_flag true e =
        let flag = seen_flag (initiator_at w j).layer w.generations.latest.generation (id_of w.generations.latest (suc j)) ∙ e in
        let z = ap (λ (t : Topology). t.generation) latest_at in
        let layer = layer_is in
        let less : (initiator_at w j).layer.generation < w.generations.latest.generation = grind (arith, nat_tests) in
        let r = see_new w.generations.latest.generation (id_of w.generations.latest (suc j)) (id_of w.generations.latest 0) (initiator_at w j) flag in
        by_sight (record {
          zero = ap (λ (t : Topology). t.generation) zero_stays;
          id = ap (λ (t : Topology). id_of t (suc j)) zero_stays;
          later = omega (arith, z, layer, less);
          reset = record {
            none = ap (λ (x : InitiatorState). x.operation) own_now ∙ r.none;
            out = ap (λ (x : InitiatorState). stand_of x.seat) own_now ∙ r.out;
            free = ap (λ (x : InitiatorState). is_stuck_seat x.seat) own_now ∙ r.free;
          };
        }) alike.target
        (subst (λ n. AwayFrom j n w.store.kept w.fresh now.fresh) (sym z)
        (hands_told j w.generations.latest.generation w.store.kept w.fresh (suc j) 0 (turn j).0 (with_initiator j (turn j).1 base) (λ x. absurd (omega (arith, x)))
        (see_left w.generations.latest.generation (id_of w.generations.latest (suc j)) (id_of w.generations.latest 0) (initiator_at base j)).told
        (one_told j w.generations.latest.generation w.store.kept w.fresh (notes.Seen (suc j) w.generations.latest.generation) w ((λ x. absurd (omega (arith, x))), (λ x. refl)) (none_told j w.generations.latest.generation w.store.kept w.fresh))))
    by_flag false e =
        let flag = seen_flag (initiator_at w j).layer w.generations.latest.generation (id_of w.generations.latest (suc j)) ∙ e in
        let z = ap (λ (t : Topology). t.generation) latest_at in
        let layer = layer_is in
        let more : w.generations.latest.generation ≤ (initiator_at w j).layer.generation = grind (arith, nat_tests) in
        let least = not_later w stands (suc j) inside in
        let r = see_old w.generations.latest.generation (id_of w.generations.latest (suc j)) (id_of w.generations.latest 0) (initiator_at w j) flag in
        by_own (record {
          zero = ap (λ (t : Topology). t.generation) zero_stays;
          id = ap (λ (t : Topology). id_of t (suc j)) zero_stays;
          own = omega (arith, z, layer, more, least);
        }) alike.target (rests (ap (λ (x : InitiatorState). x.operation) own_now ∙ r.0) (ap (λ (x : InitiatorState). x.seat) own_now ∙ r.1))
        (told_away j (λ same. omega (arith, z, layer, more, least)))

    own_turns : Turned w w.fresh now
    own_turns i l = by (nat_eq i j) refl
      where
        by : (b : Bool) → nat_eq i j ≡ b → TurnOf i w w.fresh now
        by true e = let same : j ≡ i = grind (arith, nat_tests) in subst (λ k. TurnOf k w w.fresh now) same (by_flag (nat_lt (initiator_at w j).layer.generation w.generations.latest.generation) refl)
        by false e =
            let apart : nat_eq (suc i) (suc j) ≡ false = grind (arith, nat_tests) in
            let was : initiator_at now i ≡ initiator_at w i =
            ap (λ xs. slice_index_or xs i (new_state 0 false)) alike.initiators ∙ get_or-set_other w.initiators j i (turn j).1 (new_state 0 false) (λ x. let y : nat_eq i j ≡ true = grind (arith, nat_tests) in false≢true (sym e ∙ y)) in
            by_own (record {
              zero = ap (λ (t : Topology). t.generation) zero_stays;
              id = ap (λ (t : Topology). id_of t (suc i)) zero_stays;
              own = ap (λ (t : Topology). t.generation) (stays_at (suc i) apart);
            }) alike.target (rests (ap (λ (x : InitiatorState). x.operation) was) (ap (λ (x : InitiatorState). x.seat) was))
            (told_away i (λ same. let y : nat_eq i j ≡ true = grind (arith, nat_tests) in absurd (false≢true (sym e ∙ y))))

    turn_as : (k : ℕ) → k ≡ j → Turned w w.fresh (handed_out (suc j) 0 (turn k).0 (with_initiator k (turn k).1 base))
    turn_as k same = subst (λ n. Turned w w.fresh (handed_out (suc j) 0 (turn n).0 (with_initiator n (turn n).1 base))) (sym same) own_turns

    see_turn : Turned w w.fresh (see_line (suc j) w)
    unfolding see_line nodes.sees
    see_turn = by (nat_eq (suc j) 0) (let e : nat_eq (suc j) 0 ≡ false = grind arith in e)
      where
        by : (b : Bool) → b ≡ false → Turned w w.fresh (nodes.handed_all (suc j) (cond b (nodes.target_learns base) (nodes.initiator_learns (suc j) base)))
        by true e = absurd (let x : true ≡ false = e in cc)
        by false e = turn_as (suc j - 1) (let x : suc j - 1 ≡ j = omega arith in x)

  sees_turn : (node : ℕ) → node ≤ length w.initiators → Turned w w.fresh (see_line node w)
  sees_turn zero l = sight_turn units ready has start w h
  sees_turn (suc j) l = see_turn j l

-- ---- a packet is delivered
module _ (s : Scene) (serial : ℕ) (again : Bool) (run : Option Told) (may : MayReceive run serial s) where
  abbrev W : WorldState
  W = s.world

  abbrev Goes : WorldState → Type 0
  Goes v = Turned W W.fresh v × (length v.initiators ≡ length W.initiators)

  abbrev after_it : WorldState
  after_it = (delivered serial again run s).world

  -- marking a packet tells nothing
  marked_fresh : (u : WorldState) → (marked serial again u).fresh ≡ u.fresh
  marked_fresh u = by (again || not (is_flying serial u.store.kept))
    where
      by : (b : Bool) → (cond b u (record u { store = deliver_step u.store serial })).fresh ≡ u.fresh
      by true = refl
      by false = refl

  judged_told : (i : ℕ) (judged : Judged) (u : WorldState) → IsOwnPacket W.store.kept serial → u.fresh ≡ W.fresh → AwayFrom i (topology_at W.generations (suc i)).generation W.store.kept W.fresh (with_note (judged_note serial judged) (marked serial again u)).fresh
  judged_told i judged u p e = record { more = judged_note serial judged ∷ []; is = ap (λ (ns : List Note). judged_note serial judged ∷ ns) (marked_fresh u ∙ e); away = (judged_away i _ W.store.kept serial judged p, tt) }

  module _ (sent : Sent) (found : found_sent serial W.store.kept ≡ Some sent) where
    told_by : sent.to ≡ 0 → MayTell run sent W.target s.media
    unfolding MayReceive
    told_by zero_to = let at : MayAt run (Some sent) s = subst (λ o. MayAt run o s) found may in subst (λ b. MayTold b run sent s) (to_zero sent.to zero_to) at

    heard_target : sent.to ≡ 0 → Goes after_it
    unfolding delivered target_received arrived
    heard_target zero_to =
        let r = received run sent.generation sent.bytes (whole_of W.target s.media) in
        let u = with_note (judged_note serial r.0) (marked serial again (with_target r.1.node W)) in
        let last_is : after_it ≡ handed_out sent.to 0 r.1.outbox u =
        ap (λ (y : Option Arrival × (OutboxState × Scene)). (delivered_by serial again y).world)
        (received_is run serial s sent found ∙ ap (λ b. cond b (at_target sent.to (target_received run sent W.target s.media) s) (initiator_received sent s)) (to_zero sent.to zero_to)) in
        let m = marked_alike (with_target r.1.node W) serial again in
        let a = handed_alike sent.to 0 r.1.outbox u in
        let first = judged_note serial r.0 ∷ [] in
        let t = handed_told first W.fresh 0 r.1.outbox u (target_tells run sent W.target s.media (told_by zero_to)) (judged_first serial r.0) (ap (λ (ns : List Note). judged_note serial r.0 ∷ ns) (marked_fresh (with_target r.1.node W))) in
        subst Goes (sym last_is) (
          target_turn W W.fresh (handed_out sent.to 0 r.1.outbox u) r.1.node (record { generations = a.generations ∙ m.generations; target = a.target ∙ m.target; initiators = a.initiators ∙ m.initiators })
              (subst (λ n. TargetCall W W.fresh (handed_out n 0 r.1.outbox u).fresh r.1.node) (sym zero_to) (delivers serial sent found zero_to run s.media.disks refl t refl)),
          ap (λ (xs : List InitiatorState). length xs) (a.initiators ∙ m.initiators),
        )

    heard_own : (j : ℕ) → sent.to ≡ suc j → j < length W.initiators → Goes after_it
    unfolding delivered initiators_received arrived
    heard_own j to_is inside =
        let r = receive_step sent.generation sent.bytes empty_outbox (slice_index_or W.initiators j (new_state 0 false)) in
        let one = with_initiators (slice_set W.initiators j r.1.1) W in
        let u = with_note (judged_note serial r.0) (marked serial again one) in
        let last_is : after_it ≡ handed_out sent.to 0 r.1.0 u =
        ap (λ (y : Option Arrival × (OutboxState × Scene)). (delivered_by serial again y).world) (to_own run serial j s sent found to_is ∙ own_inside sent j s inside) in
        let m = marked_alike one serial again in
        let tame = (receive_left sent.generation sent.bytes (slice_index_or W.initiators j (new_state 0 false))).told in
        let a = handed_alike sent.to 0 r.1.0 u in
        subst Goes (sym last_is) (
          own_turn W W.fresh (handed_out sent.to 0 r.1.0 u) j r.1.1 (record { generations = a.generations ∙ m.generations; target = a.target ∙ m.target; initiators = a.initiators ∙ m.initiators })
              (λ i same l. hears serial sent found (to_is ∙ ap suc (sym same)) (ap (λ k. (receive_step sent.generation sent.bytes empty_outbox (initiator_at W k)).1.1) (sym same))
              (subst (λ k. HeardFirst serial (receive_step sent.generation sent.bytes empty_outbox (initiator_at W k)).0 W.fresh (handed_out sent.to 0 r.1.0 u).fresh) (sym same)
              (hands_heard serial r.0 W.fresh sent.to 0 r.1.0 u tame (first_heard serial r.0 W.fresh (marked serial again one) (marked_fresh one)))))
              (λ i. hands_told i _ W.store.kept W.fresh sent.to 0 r.1.0 u (λ z. absurd (omega (arith, z, to_is))) tame (judged_told i r.0 one (record { sent = sent; found = found; j = j; to_is = to_is }) refl)),
          ap (λ (xs : List InitiatorState). length xs) (a.initiators ∙ m.initiators) ∙ length-set W.initiators j r.1.1,
        )

    heard_none : (j : ℕ) → sent.to ≡ suc j → length W.initiators ≤ j → Goes after_it
    unfolding delivered
    heard_none j to_is outside =
        subst Goes (sym (ap (λ (y : Option Arrival × (OutboxState × Scene)). (delivered_by serial again y).world) (to_own run serial j s sent found to_is ∙ own_outside sent j s outside))) (quiet_turn W W.fresh W (λ k. refl) refl refl (λ i. none_told i _ W.store.kept W.fresh), refl)

    heard_at : (to : ℕ) → sent.to ≡ to → Goes after_it
    heard_at zero e = heard_target e
    heard_at (suc j) e = by (nat_lt j (length W.initiators)) refl
      where
        by : (b : Bool) → nat_lt j (length W.initiators) ≡ b → Goes after_it
        by true f = heard_own j e (grind arith)
        by false f = heard_none j e (grind arith)

  heard_by : (so : Option Sent) → found_sent serial W.store.kept ≡ so → Goes after_it
  unfolding delivered received_step
  heard_by None e = subst Goes (sym (ap (λ o. (delivered_by serial again (received_by run o s)).world) e)) (quiet_turn W W.fresh W (λ k. refl) refl refl (λ i. none_told i _ W.store.kept W.fresh), refl)
  heard_by (Some sent) e = heard_at sent e sent.to refl

  heard_turn : Goes after_it
  heard_turn = heard_by (found_sent serial W.store.kept) refl

abbrev AlsoGoes : WorldState → WorldState → Type 0
AlsoGoes w v = Turned w w.fresh v × (length v.initiators ≡ length w.initiators)

next_by : (one : Option Told) (s : Scene) (o : Option ℕ) → settling.MayAt o one s → AlsoGoes s.world (delivered_at o one s).world
next_by one s None m = (quiet_turn s.world s.world.fresh s.world (λ k. refl) refl refl (λ i. none_told i _ s.world.store.kept s.world.fresh), refl)
next_by one s (Some serial) m = heard_turn s serial false one m

pub next_turn : (one : Option Told) (s : Scene) → MayNext one s → AlsoGoes s.world (delivered_next one s).world
unfolding delivered_next MayNext
next_turn one s m = next_by one s (lowest s.world) m

end_away : (i own : ℕ) (w : List Kept) (done : Bool) → IsAway i own w (end_note done)
end_away i own w true = tt
end_away i own w false = tt

pub end_turn : (done : Bool) (w : WorldState) → Turned w w.fresh (with_note (end_note done) w)
end_turn done w = quiet_turn w w.fresh _ (λ k. refl) refl refl (λ i. one_told i _ w.store.kept w.fresh (end_note done) w (end_away i _ w.store.kept done) (none_told i _ w.store.kept w.fresh))

-- ---- a line
if_turn : (b : Bool) (line serial : ℕ) (again : Bool) (told : List (Option Told)) (s : Scene) → MayIf b serial told s → Turned s.world s.world.fresh (delivered_if b line serial again told s).world
if_turn true line serial again [] s m = absurd m
if_turn true line serial again (one ∷ []) s m = (heard_turn s serial again one m).0
if_turn true line serial again (one ∷ other ∷ more) s m = absurd m
if_turn false line serial again told s m = quiet_turn s.world s.world.fresh _ (λ k. refl) refl refl (λ i. one_told i _ s.world.store.kept s.world.fresh (notes.Refused line no_packet) s.world tt (none_told i _ s.world.store.kept s.world.fresh))

module _ (units ready : ℕ) (has : 0 < units) (start : List Disk) {past : List Moment} {lines : ℕ} (s : Scene) where
  pub line_turn : (line : ℕ) (event : Event) (told : List (Option Told)) → IsOne event → IsLine event (length s.world.initiators) → MayHappen event told s → (is_reset event ≡ false → Holding units ready start past lines (without_notes s.world)) → Turned (without_notes s.world) [] (happens line event told s).world
  unfolding happens MayHappen
  line_turn line (events.Begin initiators is_ready) told o q m h = absurd q
  line_turn line (events.Act j action) told o q m h = act_turn (without_notes s.world) line j action
  line_turn line (events.Reset physical) told o q m h = reset_turn (without_notes s.world) physical
  line_turn line (events.See node) told o q m h = sees_turn units ready has start (without_notes s.world) (h refl) node q
  line_turn line (events.Deliver serial) told o q m h = if_turn (is_in_flight serial (begun s).world) line serial false told (begun s) m
  line_turn line (events.Repeat serial) told o q m h = if_turn (may_repeat serial (begun s).world) line serial true told (begun s) m
  line_turn line (events.Lose serial) told o q m h = lose_turn (without_notes s.world) line serial
  line_turn line (events.Timeout serial) told o q m h = late units ready has start (without_notes s.world) (h refl) line serial
  line_turn line (events.Step count) told o q m h = absurd o
  line_turn line events.Settle told o q m h = absurd o
  line_turn line events.Tick told o q m h = tick_turn units ready has start (without_notes s.world) (h refl)
  line_turn line (events.Inject j bytes) told o q m h = inject_turn (without_notes s.world) line j bytes
  line_turn line (events.Key unit key) told o q m h = key_turn units ready has start (without_notes s.world) (h refl) line unit key
