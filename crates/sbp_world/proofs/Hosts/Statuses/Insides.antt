-- What is handed out in a line tells of a status that is taken for an initiator of the world alone.
use Rattle.sbp_world.proofs.Words.Std.{arith, ◌≡◌, refl, sym, ◌∙◌, ap, subst, ℕ, ◌+◌, ◌-◌, ◌<◌, ◌≤◌, ◌==◌, ◌||◌, not, nat_eq, nat_lt, Bool, true, false, cond, List, [], ◌∷◌, length, Option, Some, None, Result, Ok, Err, nat_tests, AllByRecursion}
use Rattle.sbp_world.proofs.Words.Wire.{LabelParts, Stale, Sent, found_sent, is_flying, deliver_step, OutboxState, empty_outbox, Judged, Action, Note, Outgoing, Side, Request, id_of, node_of, judged_note, find}
use Rattle.sbp_world.proofs.Words.Target.{Held, Told, NodeState, scene, expired}
use Rattle.sbp_world.proofs.Words.Initiator.{InitiatorState, act_step, Turn, expire_step, receive_step, see_step}
use Rattle.sbp_world.proofs.Words.World.{Arrival, MayAt, MayReceive, MayTold, arrived, at_none, at_target, delivered, delivered_by, initiator_received, initiators_received, listed, received_at, received_by, received_step, target_received, handed_out, acted, acted_by, weight_in, see_line, target_ticks, tick_line, world_expires, initiator_expires, target_expired, target_left, timed_out, timeout_line, timeout_of, asked, posted, sent, sent_all, sent_to, told, told_all, Scene, WorldState, initiator_at, with_initiator, with_note, with_target, AreNotes, AreOthers, IsOther}
use Rattle.std.proofs.Common.{slice_set}
use Rattle.sbp_journal.specs.declared.cause.Judged.TheVariants as judgements
use Rattle.sbp_journal.specs.declared.note.Note.TheVariants as notes
use Rattle.sbp_journal.specs.declared.side.Side.TheVariants as sides
use Rattle.sbp_target.specs.Nodes as target
use Rattle.sbp_world.specs.Delivering.{at_initiator}
use Rattle.sbp_world.specs.Nodes as nodes
use Rattle.sbp_world.specs.Packets as packets
use Rattle.sbp_world.proofs.InitiatorForms as initiators
use Rattle.sbp_world.proofs.Hosts.Calling.{IsOwn}
use Rattle.sbp_world.proofs.Hosts.Hands.{second_tells, sight_tells, target_tells}
use Rattle.sbp_world.proofs.Hosts.Liners.{own_notes}
use Rattle.sbp_world.proofs.Hosts.TargetTells as target_tell
use Rattle.sbp_world.proofs.Hosts.Statuses.Folds.{AreSilent}
use Rattle.sbp_world.proofs.Hosts.Statuses.Hearing.{others_silent}
use Rattle.sbp_world.proofs.Hosts.Statuses.Quiet.{AreCalmSides, IsCalmSide, act_calm, expire_calm, see_calm}
use Rattle.sbp_world.proofs.Common.{untrue, itself}

-- the statuses that are taken are of the first initiators, so many of them
abbrev pub Inside : ℕ → List Note → Type 0
Inside most [] = Unit {0}
Inside most (notes.Taken j n k status answer ∷ ns) = (j < most) × Inside most ns
Inside most (note ∷ ns) = Inside most ns

abbrev IsBelow : ℕ → Side → Type 0
IsBelow most (sides.Own (notes.Taken j n k status answer)) = j < most
IsBelow most _ = Unit {0}

abbrev pub AreBelow : ℕ → List Side → Type 0
AreBelow most told_now = AllByRecursion (IsBelow most) told_now

calm_one : (most : ℕ) (note : Note) → IsCalmSide (sides.Own note) → IsBelow most (sides.Own note)
calm_one most (notes.Taken j n k status answer) e = untrue e
calm_one most note e = tt

calm_below_side : (most : ℕ) (side : Side) → IsCalmSide side → IsBelow most side
calm_below_side most (sides.Own note) e = calm_one most note e
calm_below_side most side e = tt

pub calm_below : (most : ℕ) (told_now : List Side) → AreCalmSides told_now → AreBelow most told_now
calm_below most [] h = tt
calm_below most (side ∷ later) h = (calm_below_side most side h.0, calm_below most later h.1)

-- one that takes nothing of others takes of itself
own_taken : (most number m : ℕ) (silent : nat_eq m number ≡ false → not (nat_eq m m) ≡ true) → number < most → m < most
own_taken most number m silent b = by_test (nat_eq m number) refl
  where
    by_test : (c : Bool) → nat_eq m number ≡ c → m < most
    by_test true e = let same : m ≡ number = grind (arith, nat_tests) in omega arith
    by_test false e = untrue (sym (ap not (itself m)) ∙ silent e)

own_note_below : (most number : ℕ) (note : Note) (rest : List Side) → number < most → ((j : ℕ) → nat_eq j number ≡ false → AreSilent j (sides.Own note ∷ rest)) → IsBelow most (sides.Own note)
own_note_below most number (notes.Taken m n k status answer) rest b s = own_taken most number m (λ e. (s m e).0) b
own_note_below most number note rest b s = tt

own_side_below : (most number : ℕ) (side : Side) (rest : List Side) → number < most → ((j : ℕ) → nat_eq j number ≡ false → AreSilent j (side ∷ rest)) → IsBelow most side
own_side_below most number (sides.Own note) rest b s = own_note_below most number note rest b s
own_side_below most number side rest b s = tt

pub own_below : (most number : ℕ) (told_now : List Side) → number < most → ((j : ℕ) → nat_eq j number ≡ false → AreSilent j told_now) → AreBelow most told_now
own_below most number [] b s = tt
own_below most number (side ∷ later) b s = (own_side_below most number side later b s, own_below most number later b (λ j e. (s j e).1))

module _ (most : ℕ) where
  -- ---- what is told

  one_other : (weight : ℕ) (side : Side) (w : WorldState) → IsOther side → Inside most w.fresh → Inside most (told weight side w).fresh
  unfolding told
  one_other weight (sides.Own note) w f h = absurd f
  one_other weight (sides.Opened place orb) w f h = h
  one_other weight (sides.Ran place orb cdb payload outcome) w f h = h
  one_other weight (sides.Ended place orb status) w f h = h
  one_other weight (sides.Dead place cause) w f h = h
  one_other weight (sides.Cut place cause) w f h = h
  one_other weight (sides.Managed node function subject status login) w f h = h
  one_other weight (sides.ManageFailed node cause) w f h = h
  one_other weight (sides.Held login) w f h = h
  one_other weight (sides.Expired login) w f h = h
  one_other weight (sides.Back login) w f h = h
  one_other weight (sides.Left login) w f h = h
  one_other weight (sides.Cleared unit) w f h = h
  one_other weight (sides.Unsolicited place) w f h = h
  one_other weight (sides.Unsent place) w f h = h

  all_others : (weight : ℕ) (told_now : List Side) (w : WorldState) → AreOthers told_now → Inside most w.fresh → Inside most (told_all weight told_now w).fresh
  unfolding told_all
  all_others weight [] w f h = h
  all_others weight (side ∷ later) w f h = all_others weight later (told weight side w) f.1 (one_other weight side w f.0 h)

  one_more : (note : Note) (ns : List Note) → IsBelow most (sides.Own note) → Inside most ns → Inside most (note ∷ ns)
  one_more (notes.Taken j n k status answer) ns b h = (b, h)
  one_more note ns b h = h

  own_told : (weight : ℕ) (told_now : List Side) (w : WorldState) → AreNotes told_now → AreBelow most told_now → Inside most w.fresh → Inside most (told_all weight told_now w).fresh
  unfolding told_all told
  own_told weight [] w n b h = h
  own_told weight (sides.Own note ∷ later) w n b h = own_told weight later (told weight (sides.Own note) w) n.1 b.1 (one_more note w.fresh b.0 h)
  own_told weight (sides.Opened place orb ∷ later) w n b h = absurd n.0
  own_told weight (sides.Ran place orb cdb payload outcome ∷ later) w n b h = absurd n.0
  own_told weight (sides.Ended place orb status ∷ later) w n b h = absurd n.0
  own_told weight (sides.Dead place cause ∷ later) w n b h = absurd n.0
  own_told weight (sides.Cut place cause ∷ later) w n b h = absurd n.0
  own_told weight (sides.Managed node function subject status login ∷ later) w n b h = absurd n.0
  own_told weight (sides.ManageFailed node cause ∷ later) w n b h = absurd n.0
  own_told weight (sides.Held login ∷ later) w n b h = absurd n.0
  own_told weight (sides.Expired login ∷ later) w n b h = absurd n.0
  own_told weight (sides.Back login ∷ later) w n b h = absurd n.0
  own_told weight (sides.Left login ∷ later) w n b h = absurd n.0
  own_told weight (sides.Cleared unit ∷ later) w n b h = absurd n.0
  own_told weight (sides.Unsolicited place ∷ later) w n b h = absurd n.0
  own_told weight (sides.Unsent place ∷ later) w n b h = absurd n.0

  -- ---- packets

  asked_inside : (serial to node peer : ℕ) (label : Option LabelParts) (w : WorldState) → Inside most w.fresh → Inside most (asked serial to node peer label w).fresh
  asked_inside serial to node peer None w h = h
  asked_inside serial to node peer (Some label) w h = h

  to_inside : (to : Option ℕ) (from : ℕ) (packet : Outgoing) (w : WorldState) → Inside most w.fresh → Inside most (sent_to to from packet w).fresh
  unfolding posted
  to_inside None from packet w h = h
  to_inside (Some to) from packet w h = asked_inside (w.store.last + 1) to from packet.to packet.label (posted from to false packet.bytes w) h

  one_sent : (from : ℕ) (packet : Outgoing) (w : WorldState) → Inside most w.fresh → Inside most (sent from packet w).fresh
  unfolding sent
  one_sent from packet w h = to_inside (node_of w.generations from packet.to) from packet w h

  all_sent : (from : ℕ) (leaving : List Outgoing) (w : WorldState) → Inside most w.fresh → Inside most (sent_all from leaving w).fresh
  unfolding sent_all
  all_sent from [] w h = h
  all_sent from (packet ∷ later) w h = all_sent from later (sent from packet w) (one_sent from packet w h)

  -- ---- what a node hands out

  others_out : (node weight : ℕ) (outbox : OutboxState) (w : WorldState) → AreOthers outbox.sides → Inside most w.fresh → Inside most (handed_out node weight outbox w).fresh
  others_out node weight outbox w o h = all_sent node outbox.packets (told_all weight outbox.sides w) (all_others weight outbox.sides w o h)

  own_out : (node weight : ℕ) (outbox : OutboxState) (w : WorldState) → AreNotes outbox.sides → AreBelow most outbox.sides → Inside most w.fresh → Inside most (handed_out node weight outbox w).fresh
  own_out node weight outbox w n b h = all_sent node outbox.packets (told_all weight outbox.sides w) (own_told weight outbox.sides w n b h)

  judged_inside : (serial : ℕ) (judged : Judged) (ns : List Note) → Inside most ns → Inside most (judged_note serial judged ∷ ns)
  judged_inside serial judgements.Got ns h = h
  judged_inside serial (judgements.Ignored cause) ns h = h

  -- ---- a delivery

  module _ (ready : Bool) (serial : ℕ) (again : Bool) where
    abbrev Arrives : Option Arrival × (OutboxState × Scene) → Type 0
    Arrives r = Inside most (delivered_by serial again r).world.fresh

    pick_arrives : (b : Bool) (x y : Option Arrival × (OutboxState × Scene)) → (b ≡ true → Arrives x) → (b ≡ false → Arrives y) → Arrives (cond b x y)
    pick_arrives true x y h i = h refl
    pick_arrives false x y h i = i refl

    abbrev mark : Bool → WorldState → WorldState
    mark b w = cond b w (record w { store = deliver_step w.store serial })

    target_marked : (b : Bool) (w : WorldState) (state : NodeState) (node : ℕ) (judged : Judged) (outbox : OutboxState) → AreOthers outbox.sides → Inside most w.fresh → Inside most (handed_out node 0 outbox (with_note (judged_note serial judged) (mark b (with_target state w)))).fresh
    target_marked true w state node judged outbox o h = others_out node 0 outbox (with_note (judged_note serial judged) (with_target state w)) o (judged_inside serial judged w.fresh h)
    target_marked false w state node judged outbox o h =
        others_out node 0 outbox (with_note (judged_note serial judged) (mark false (with_target state w))) o (judged_inside serial judged w.fresh h)

    own_marked : (b : Bool) (w : WorldState) (states : List InitiatorState) (node : ℕ) (judged : Judged) (outbox : OutboxState) → AreNotes outbox.sides → AreBelow most outbox.sides → Inside most w.fresh → Inside most (handed_out node 0 outbox (with_note (judged_note serial judged) (mark b (record w { initiators = states })))).fresh
    own_marked true w states node judged outbox n b h = own_out node 0 outbox (with_note (judged_note serial judged) (record w { initiators = states })) n b (judged_inside serial judged w.fresh h)
    own_marked false w states node judged outbox n b h =
        own_out node 0 outbox (with_note (judged_note serial judged) (mark false (record w { initiators = states }))) n b (judged_inside serial judged w.fresh h)

    at_target_inside : (node : ℕ) (r : Judged × (OutboxState × (NodeState × Held))) (s : Scene) → AreOthers r.1.0.sides → Inside most s.world.fresh → Arrives (at_target node r s)
    unfolding arrived
    at_target_inside node (judged, (outbox, (state, media))) s o h = target_marked (again || not (is_flying serial s.world.store.kept)) s.world state node judged outbox o h

    at_own_inside : (i node : ℕ) (r : Judged × Turn) (s : Scene) → AreNotes r.1.0.sides → AreBelow most r.1.0.sides → Inside most s.world.fresh → Arrives (at_initiator node (listed i r s.world.initiators) s)
    unfolding arrived
    at_own_inside i node (judged, (outbox, state)) s n b h =
        own_marked (again || not (is_flying serial s.world.store.kept)) s.world (slice_set s.world.initiators i state) node judged outbox n b h

    module _ (s : Scene) (few : length s.world.initiators ≤ most) (owns : (i : ℕ) → i < length s.world.initiators → IsOwn ready i (initiator_at s.world i)) (h : Inside most s.world.fresh) where
      own_received : (packet : Sent) → Arrives (initiator_received packet s)
      unfolding initiators_received
      own_received packet =
          let i = packet.to - 1 in
          let old = initiator_at s.world i in
          let r = receive_step packet.generation packet.bytes empty_outbox old in
          pick_arrives (nat_lt i (length s.world.initiators)) (at_initiator packet.to (initiators_received i packet s.world.initiators) s) (at_none s)
          (λ e.
          let inside : i < length s.world.initiators = grind (arith, nat_tests) in
          let o = owns i inside in
          at_own_inside i packet.to r s (own_notes r.1.0.sides (initiators.receives packet.generation packet.bytes empty_outbox old tt))
          (own_below most old.number r.1.0.sides (let n = o.number in omega arith) (λ j f. others_silent ready i old o.called packet.generation packet.bytes j f)) h)
          (λ e. h)

      received_where : (one : Option Told) (packet : Sent) → MayTold (packet.to == 0) one packet s → Arrives (received_at one packet s)
      received_where one packet m =
          pick_arrives (packet.to == 0) (at_target packet.to (target_received one packet s.world.target s.media) s) (initiator_received packet s)
          (λ e. at_target_inside packet.to (target_received one packet s.world.target s.media) s (target_tells one packet s.world.target s.media (subst (λ b. MayTold b one packet s) e m)) h)
          (λ e. own_received packet)

      received_found : (one : Option Told) (found : Option Sent) → MayAt one found s → Arrives (received_by one found s)
      received_found one None m = h
      received_found one (Some packet) m = received_where one packet m

      pub delivers_inside : (one : Option Told) → MayReceive one serial s → Inside most (delivered serial again one s).world.fresh
      unfolding delivered received_step MayReceive
      delivers_inside one m = received_found one (found_sent serial s.world.store.kept) m

  -- ---- a time-out

  module _ (ready : Bool) (line serial : ℕ) (w : WorldState) (owns : (i : ℕ) → i < length w.initiators → IsOwn ready i (initiator_at w i)) (h : Inside most w.fresh) where
    abbrev Ends : ℕ → Bool × (OutboxState × WorldState) → Type 0
    Ends node r = Inside most (timed_out line serial node r).fresh

    pick_ends : (node : ℕ) (b : Bool) (x y : Bool × (OutboxState × WorldState)) → (b ≡ true → Ends node x) → (b ≡ false → Ends node y) → Ends node (cond b x y)
    pick_ends node true x y g i = g refl
    pick_ends node false x y g i = i refl

    target_ends : (node : ℕ) (r : Result (Unit {0}) Stale × target.Scene) → AreOthers r.1.outbox.sides → Ends node (packets.at_target (target_left r w.target) w)
    target_ends node (Ok done, s) o = others_out node 0 s.outbox (with_target s.node (with_note (notes.TimedOut serial) w)) o h
    target_ends node (Err stale, s) o = h

    own_ends : (i node : ℕ) (r : Bool × Turn) → AreNotes r.1.0.sides → AreBelow most r.1.0.sides → Ends node (packets.at_initiator i r w)
    own_ends i node (true, (outbox, state)) n b = own_out node 0 outbox (with_initiator i state (with_note (notes.TimedOut serial) w)) n b h
    own_ends i node (false, (outbox, state)) n b = h

    own_expires : (request : Request) → Ends request.node (initiator_expires request w)
    own_expires request =
        let i = request.node - 1 in
        let old = initiator_at w i in
        let r = expire_step request.label empty_outbox old in
        pick_ends request.node (nat_lt i (length w.initiators)) (packets.at_initiator i r w) (false, (empty_outbox, w))
        (λ e.
        let inside : i < length w.initiators = grind (arith, nat_tests) in
        own_ends i request.node r (own_notes r.1.0.sides (initiators.expires request.label empty_outbox old tt)) (calm_below most r.1.0.sides (expire_calm ready i old (owns i inside).called request.label)))
        (λ e. h)

    all_expires : (request : Request) → Ends request.node (world_expires request w)
    unfolding world_expires target_expired
    all_expires request =
        pick_ends request.node (request.node == 0) (packets.at_target (target_expired request w.target) w) (initiator_expires request w)
        (λ e. target_ends request.node (expired request.peer request.label (scene w.target empty_outbox)) (target_tell.expires request.peer request.label (scene w.target empty_outbox) tt))
        (λ e. own_expires request)

    found_expires : (request : Option Request) → Inside most (timeout_of request line serial w).fresh
    found_expires None = h
    found_expires (Some request) = all_expires request

    pub expires_inside : Inside most (timeout_line line serial w).fresh
    unfolding timeout_line
    expires_inside = found_expires (find w.requests serial)

  -- ---- a sight, a second, and an action

  module _ (node : ℕ) (w : WorldState) (h : Inside most w.fresh) where
    abbrev seen : WorldState
    seen = nodes.with_seen node (nodes.told_seen node w)

    abbrev Sees : OutboxState × WorldState → Type 0
    Sees r = Inside most (nodes.handed_all node r).fresh

    pick_sees : (b : Bool) (x y : OutboxState × WorldState) → Sees x → Sees y → Sees (cond b x y)
    pick_sees true x y g i = g
    pick_sees false x y g i = i

    target_pair : (r : OutboxState × NodeState) → AreOthers r.0.sides → Sees (nodes.at_target r seen)
    target_pair (outbox, state) o = others_out node 0 outbox (with_target state seen) o h

    own_pair : (i : ℕ) (r : Turn) → AreNotes r.0.sides → AreBelow most r.0.sides → Sees (nodes.at_initiator i r seen)
    own_pair i (outbox, state) n b = own_out node 0 outbox (with_initiator i state seen) n b h

    pub sees_inside : Inside most (see_line node w).fresh
    unfolding see_line nodes.sees
    sees_inside =
        let g = w.generations.latest.generation in
        let id = id_of w.generations.latest node in
        let other = id_of w.generations.latest 0 in
        let old = initiator_at w (node - 1) in
        pick_sees (node == 0) (nodes.target_learns seen) (nodes.initiator_learns node seen)
        (target_pair (nodes.target_sees g (id_of w.generations.latest 0) w.target) (sight_tells g (id_of w.generations.latest 0) w.target))
        (own_pair (node - 1) (see_step g id other empty_outbox old) (own_notes (see_step g id other empty_outbox old).0.sides (initiators.sees g id other empty_outbox old tt)) (calm_below most (see_step g id other empty_outbox old).0.sides (see_calm g id other old)))

  pub ticks_inside : (w : WorldState) → Inside most w.fresh → Inside most (tick_line w).fresh
  unfolding tick_line
  ticks_inside w h = by_pair (target_ticks w.target) (second_tells w.target)
    where
      by_pair : (r : OutboxState × NodeState) → AreOthers r.0.sides → Inside most (nodes.handed_all 0 (nodes.at_target r (with_note notes.Tick w))).fresh
      by_pair (outbox, node) o = others_out 0 0 outbox (with_target node (with_note notes.Tick w)) o h

  act_by : (r : Option ℕ × Turn) (line i : ℕ) (action : Action) (w : WorldState) → AreNotes r.1.0.sides → AreBelow most r.1.0.sides → Inside most w.fresh → Inside most (acted_by r line i action w).fresh
  act_by (Some number, (outbox, state)) line i action w n b h = h
  act_by (None, (outbox, state)) line i action w n b h = own_out (i + 1) (weight_in action) outbox (with_initiator i state w) n b h

  pub acts_inside : (line i : ℕ) (action : Action) (w : WorldState) → Inside most w.fresh → Inside most (acted line i action w).fresh
  unfolding acted
  acts_inside line i action w h =
      let r = act_step action empty_outbox (initiator_at w i) in
      act_by r line i action w (own_notes r.1.0.sides (initiators.acts action empty_outbox (initiator_at w i) tt)) (calm_below most r.1.0.sides (act_calm action (initiator_at w i))) h
