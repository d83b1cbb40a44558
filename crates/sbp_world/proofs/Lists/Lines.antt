-- Each line of a world keeps what is known of the agents of the target.
use Rattle.sbp_world.proofs.Words.Std.{arith, ◌≡◌, ◌∙◌, refl, sym, ap, subst, ℕ, suc, ◌+◌, ◌-◌, ◌||◌, ◌==◌, not, nat_lt, Bool, true, false, cond, List, ◌∷◌, length, Option, Some, None, Result, Ok, Err, slice_index_or, slice_set, nat_tests}
use Rattle.sbp_world.proofs.Words.Wire.{Stale, Layer, expiring_step, Sent, found_sent, is_flying, deliver_step, Request, id_of, judged_note, no_node, no_packet, Action, Note, Judged, OutboxState, empty_outbox, Moment}
use Rattle.sbp_world.proofs.Words.Target.{Told, alone, sees, ticks, Purpose, NodeState, TargetScene, desk_at, scene, expired, expired_in, received, with_key, Whole}
use Rattle.sbp_world.proofs.Words.Initiator.{act_step, InitiatorState, Turn, new_state, expire_step, receive_step, see_step, as_sides}
use Rattle.sbp_world.proofs.Words.Laws.{action_notes, OrderLaw}
use Rattle.sbp_world.proofs.Words.World.{marked, whole_of, with_initiators, handed_out, acted, acted_by, keyed, no_unit, weight_in, handed_all, initiator_learns, reset_line, see_line, target_learns, target_sees, target_ticks, tick_line, told_seen, with_seen, at_initiator, initiator_expires, inject_line, injected, injected_to, is_in_flight, lose_line, lost, refused, target_left, timed_out, sent_all, told_all, Scene, WorldState, initiator_at, with_initiator, with_note, with_target, AreRows, machine_at}
use Rattle.sbp_journal.specs.declared.note.Note.TheVariants as notes
use Rattle.sbp_world.specs.Nodes as nodes
use Rattle.sbp_world.specs.Packets as packets
use Rattle.sbp_world.proofs.Wire.Nodes.{handed_alike, marked_alike}
use Rattle.sbp_world.proofs.InitiatorForms as own
use Rattle.sbp_world.proofs.Formed.{AreOwn}
use Rattle.sbp_world.proofs.Agents.Management.Still.{hist}
use Rattle.sbp_world.proofs.Hosts.OrbRuns.{goes}
use Rattle.sbp_world.proofs.Hosts.OrbTells as tell
use Rattle.sbp_world.proofs.Hosts.OrbTerms.{AreStill}
use Rattle.sbp_world.proofs.Hosts.Telling.{action_law}
use Rattle.sbp_world.proofs.Lists.Adds.{Stays, adds_note, all_stay, posted_stays, stays_note, stays_own, stays_then}
use Rattle.sbp_world.proofs.Lists.Appends.{action_good}
use Rattle.sbp_world.proofs.Lists.Cuts as cuts
use Rattle.sbp_world.proofs.Lists.Deliveries.{delivery_kept, lapse_kept}
use Rattle.sbp_world.proofs.Lists.Kept.{keeps}
use Rattle.sbp_world.proofs.Lists.Kept.{Kept, all_kept, as_kept}
use Rattle.sbp_world.proofs.Lists.Looks.{Looks}
use Rattle.sbp_world.proofs.Lists.Registers.{start_cutting}
use Rattle.sbp_world.proofs.Lists.Stays.{stays_handed, stays_judged, stays_marked, stays_with}
use Rattle.sbp_world.proofs.Lists.Takings.{Takes}
use Rattle.sbp_world.proofs.Lists.Turns.{First, Ready, seen_it, tick_it, v}

-- ---- the target

module _ (wild : ℕ → Bool) (past : List Moment) (w : WorldState) (r : Ready wild past w) where
  -- what it hands out behind what is told
  hands : (u : WorldState) (node : NodeState) (outbox : OutboxState) → (handed_out 0 0 outbox u).target ≡ node → Kept wild past (λ p. (desk_at node p).agent) (told_all 0 outbox.sides u) → Kept wild past (machine_at (handed_out 0 0 outbox u)) (handed_out 0 0 outbox u)
  hands u node outbox e k =
      as_kept wild past (λ p. (desk_at node p).agent) (machine_at (handed_out 0 0 outbox u)) (handed_out 0 0 outbox u) (λ p. ap (λ (t : NodeState). (desk_at t p).agent) e)
      (all_kept wild past (λ p. (desk_at node p).agent) 0 outbox.packets (told_all 0 outbox.sides u) k)

  looks_marked : (serial : ℕ) (again : Bool) (node : NodeState) (note : Note) → Looks (with_note note (marked serial again (with_target node w))) (record w { fresh = note ∷ w.fresh })
  looks_marked serial again node note = by (again || not (is_flying serial w.store.kept))
    where
      by : (b : Bool) → Looks (with_note note (cond b (with_target node w) (record (with_target node w) { store = deliver_step w.store serial }))) (record w { fresh = note ∷ w.fresh })
      by true = record { places = refl; initiators = refl; fresh = refl }
      by false = record { places = refl; initiators = refl; fresh = refl }

  -- a packet
  module _ (serial : ℕ) (sent : Sent) (found : found_sent serial w.store.kept ≡ Some sent) (zero_to : sent.to ≡ 0) (took : Takes wild past w serial sent) (run : Option Told) (s : Scene) (is : s.world ≡ w) (again : Bool) where
    abbrev x : Judged × Whole
    x = received run sent.generation sent.bytes (whole_of w.target s.media)

    abbrev u : WorldState
    u = with_note (judged_note serial x.0) (marked serial again (with_target x.1.node w))

    pub delivery_keeps : Kept wild past (machine_at (handed_out 0 0 x.1.outbox u)) (handed_out 0 0 x.1.outbox u)
    delivery_keeps =
        hands u x.1.node x.1.outbox ((handed_alike 0 0 x.1.outbox u).target ∙ (marked_alike (with_target x.1.node w) serial again).target)
        (delivery_kept wild past w r serial sent (record { serial = serial; found = found; to = zero_to }) took run s.media u (looks_marked serial again x.1.node (judged_note serial x.0)))

  -- a time-out
  module _ (line serial : ℕ) (request : Request) (zero_node : request.node ≡ 0) where
    abbrev Left : Result (Unit {0}) Stale × TargetScene → WorldState
    Left y = timed_out line serial request.node (packets.at_target (target_left y w.target) w)

    lapse_by : (x : Result (Option Purpose) Stale × Layer Purpose) → (let y = Left (expired_in x request.peer request.label (scene w.target empty_outbox)) in Kept wild past (machine_at y) y)
    lapse_by (Ok purpose, layer) =
        let t = (expired_in (Ok purpose, layer) request.peer request.label (scene w.target empty_outbox)).1 in
        let u = with_note (notes.TimedOut serial) (with_target t.node w) in
        subst (λ n. Kept wild past (machine_at (handed_out n 0 t.outbox u)) (handed_out n 0 t.outbox u)) (sym zero_node)
        (hands u t.node t.outbox (handed_alike 0 0 t.outbox u).target
        (lapse_kept wild past w r serial request.peer request.label u (record { places = refl; initiators = refl; fresh = refl }) (Ok purpose, layer)))
    lapse_by (Err stale, layer) = keeps (tt, r.kept.passes) r.kept.on

    pub lapse_keeps : (let y = Left (expired request.peer request.label (scene w.target empty_outbox)) in Kept wild past (machine_at y) y)
    unfolding expired
    lapse_keeps = lapse_by (expiring_step w.target.layer request.peer request.label)

  -- a generation that it sees
  pub sight_keeps : Kept wild past (machine_at (see_line 0 w)) (see_line 0 w)
  unfolding see_line nodes.sees target_sees
  sight_keeps =
      let note = notes.Seen 0 w.generations.latest.generation in
      let first : First note = seen_it 0 w.generations.latest.generation in
      let t = alone (sees w.generations.latest.generation (id_of w.generations.latest 0)) w.target in
      let u = with_target t.node (with_seen 0 (told_seen 0 w)) in
      hands u t.node t.outbox (handed_alike 0 0 t.outbox u).target
      (cuts.sees wild past u w.generations.latest.generation (id_of w.generations.latest 0) (scene w.target empty_outbox)
      (start_cutting wild past w r note first u (record { places = refl; initiators = refl; fresh = refl }) w.target.layer)).kept

  -- a second
  pub tick_keeps : Kept wild past (machine_at (tick_line w)) (tick_line w)
  unfolding tick_line target_ticks
  tick_keeps =
      let t = alone ticks w.target in
      let u = with_target t.node (with_note notes.Tick w) in
      hands u t.node t.outbox (handed_alike 0 0 t.outbox u).target
      (cuts.ticks wild past u (scene w.target empty_outbox)
      (start_cutting wild past w r notes.Tick tick_it u (record { places = refl; initiators = refl; fresh = refl }) w.target.layer)).kept

  -- a key
  pub key_keeps : (line unit : ℕ) (key : List ℕ) → Kept wild past (machine_at (keyed line unit key w)) (keyed line unit key w)
  unfolding keyed
  key_keeps line unit key = by (nat_lt unit (length w.target.units))
    where
      by : (b : Bool) → (let y = cond b (with_note (notes.Key unit) (with_target (with_key unit key w.target) w)) (refused line no_unit w) in Kept wild past (machine_at y) y)
      by true = keeps (tt, r.kept.passes) r.kept.on
      by false = keeps (tt, r.kept.passes) r.kept.on

-- ---- the others

module _ (wild : ℕ → Bool) (past : List Moment) where
  abbrev S : WorldState → WorldState → Type 0
  S w v = Stays wild past w v

  pub refuses : (line number : ℕ) (w : WorldState) → S w (refused line number w)
  refuses line number w = stays_note wild past (notes.Refused line number) w tt

  -- an initiator acts
  module _ (line i : ℕ) (action : Action) (w : WorldState) (is_own : (initiator_at w i).number ≡ i) (rows : AreRows (hist past w) i (initiator_at w i).lists.slots) (law : OrderLaw wild (hist past w)) where
    done_by : (t : Turn) → (act_step action empty_outbox (initiator_at w i)).0 ≡ None → (act_step action empty_outbox (initiator_at w i)).1 ≡ t → S w (handed_out (i + 1) (weight_in action) t.0 (with_initiator i t.1 w))
    done_by t none turn =
        let own_rows = subst (λ j. AreRows (hist past w) j (initiator_at w i).lists.slots) (sym is_own) rows in
        let ns = action_notes action (hist past w) i in
        let sides_are : t.0.sides ≡ as_sides ns =
        ap (λ (x : Turn). x.0.sides) (sym turn) ∙ action_law.notes (hist past w) (initiator_at w i) action empty_outbox own_rows none ∙ ap (λ j. as_sides (action_notes action (hist past w) j)) is_own in
        let v = with_initiator i t.1 w in
        let told = told_all (weight_in action) (as_sides ns) v in
        let stays = stays_own wild past (weight_in action) ns v (action_good wild (hist past w) i (initiator_at w i) rows law action (goes action empty_outbox (initiator_at w i) none)) in
        subst (λ xs. S w (sent_all (i + 1) t.0.packets (told_all (weight_in action) xs v))) (sym sides_are)
        (stays_then wild past w v (sent_all (i + 1) t.0.packets told) (stays_with wild past i t.1 w)
        (stays_then wild past v told (sent_all (i + 1) t.0.packets told) stays (all_stay wild past (i + 1) t.0.packets told)))

    acts_by : (x : Option ℕ × Turn) → act_step action empty_outbox (initiator_at w i) ≡ x → S w (acted_by x line i action w)
    acts_by (Some number, t) e = stays_then wild past w (with_initiator i t.1 w) (refused line number (with_initiator i t.1 w)) (stays_with wild past i t.1 w) (refuses line number (with_initiator i t.1 w))
    acts_by (None, t) e = done_by t (ap (λ (x : Option ℕ × Turn). x.0) e) (ap (λ (x : Option ℕ × Turn). x.1) e)

    pub acts : S w (acted line i action w)
    unfolding acted
    acts = acts_by (act_step action empty_outbox (initiator_at w i)) refl

  -- a packet is lost, or injected
  pub loses : (w : WorldState) (line serial : ℕ) → S w (lose_line line serial w)
  unfolding lose_line
  loses w line serial = by (is_in_flight serial w)
    where
      by : (b : Bool) → S w (cond b (lost serial w) (refused line no_packet w))
      by true = record { adds = adds_note wild (notes.Lost serial) (hist past w) tt; target = refl; places = refl; count = refl }
      by false = refuses line no_packet w

  injects_to : (w : WorldState) (line i : ℕ) (bytes : List ℕ) (to : Option ℕ) → S w (injected to line (i + 1) bytes w)
  injects_to w line i bytes None = refuses line no_node w
  injects_to w line i bytes (Some to) = posted_stays wild past (i + 1) to true bytes w

  pub injects : (w : WorldState) (line i : ℕ) (bytes : List ℕ) → S w (inject_line line i bytes w)
  unfolding inject_line
  injects w line i bytes = injects_to w line i bytes (injected_to (i + 1) bytes w)

  -- the bus is reset
  pub resets : (w : WorldState) (physical : List ℕ) → S w (reset_line physical w)
  unfolding reset_line
  resets w physical = record { adds = adds_note wild (notes.Reset _) (hist past w) tt; target = refl; places = refl; count = refl }

  -- an initiator hears a packet
  pub hears : (serial i : ℕ) (again : Bool) (sent : Sent) (w : WorldState) → (let x = receive_step sent.generation sent.bytes empty_outbox (slice_index_or w.initiators i (new_state 0 false)) in S w (handed_out (suc i) 0 x.1.0 (with_note (judged_note serial x.0) (marked serial again (with_initiators (slice_set w.initiators i x.1.1) w)))))
  hears serial i again sent w =
      let old = slice_index_or w.initiators i (new_state 0 false) in
      let x = receive_step sent.generation sent.bytes empty_outbox old in
      let one = with_initiator i x.1.1 w in
      let two = marked serial again one in
      let three = with_note (judged_note serial x.0) two in
      stays_then wild past w one (handed_out (suc i) 0 x.1.0 three) (stays_with wild past i x.1.1 w)
      (stays_then wild past one two (handed_out (suc i) 0 x.1.0 three) (stays_marked wild past serial again one)
      (stays_then wild past two three (handed_out (suc i) 0 x.1.0 three) (stays_judged wild past serial x.0 two)
      (stays_handed wild past (suc i) 0 x.1.0 three (own.receives sent.generation sent.bytes empty_outbox old tt) (tell.receives sent.generation sent.bytes empty_outbox old tt))))

  -- a transaction of it times out
  module _ (line serial : ℕ) (request : Request) (w : WorldState) where
    own_by : (i : ℕ) (x : Bool × Turn) → AreOwn x.1.0.sides → AreStill x.1.0.sides → S w (timed_out line serial request.node (at_initiator i x w))
    own_by i (true, (outbox, state)) h l =
        let one = with_initiator i state w in
        let two = with_note (notes.TimedOut serial) one in
        stays_then wild past w one (handed_out request.node 0 outbox two) (stays_with wild past i state w)
        (stays_then wild past one two (handed_out request.node 0 outbox two) (stays_note wild past (notes.TimedOut serial) one tt) (stays_handed wild past request.node 0 outbox two h l))
    own_by i (false, (outbox, state)) h l = stays_then wild past w (with_initiator i state w) (refused line no_packet (with_initiator i state w)) (stays_with wild past i state w) (refuses line no_packet (with_initiator i state w))

    pub own_lapses : S w (timed_out line serial request.node (initiator_expires request w))
    own_lapses = by (nat_lt (request.node - 1) (length w.initiators))
      where
        old : InitiatorState
        old = initiator_at w (request.node - 1)

        by : (b : Bool) → S w (timed_out line serial request.node (cond b (at_initiator (request.node - 1) (expire_step request.label empty_outbox old) w) (false, (empty_outbox, w))))
        by true = own_by (request.node - 1) (expire_step request.label empty_outbox old) (own.expires request.label empty_outbox old tt) (tell.expires request.label empty_outbox old tt)
        by false = refuses line no_packet w

  -- it sees a generation
  pub own_sight : (w : WorldState) (i : ℕ) → S w (see_line (suc i) w)
  unfolding see_line nodes.sees
  own_sight w i =
      let old = initiator_at w (suc i - 1) in
      let g = w.generations.latest in
      let t = see_step g.generation (id_of g (suc i)) (id_of g 0) empty_outbox old in
      let note = notes.Seen (suc i) g.generation in
      let one = with_seen (suc i) (told_seen (suc i) w) in
      let first : S w one = record { adds = adds_note wild note (hist past w) tt; target = refl; places = refl; count = refl } in
      let two = with_initiator (suc i - 1) t.1 one in
      let other : (suc i == 0) ≡ false = grind (arith, nat_tests) in
      subst (λ b. S w (handed_all (suc i) (cond b (target_learns one) (initiator_learns (suc i) one)))) (sym other)
      (stays_then wild past w one (handed_out (suc i) 0 t.0 two) first
      (stays_then wild past one two (handed_out (suc i) 0 t.0 two) (stays_with wild past (suc i - 1) t.1 one)
      (stays_handed wild past (suc i) 0 t.0 two (own.sees g.generation (id_of g (suc i)) (id_of g 0) empty_outbox old tt) (tell.sees g.generation (id_of g (suc i)) (id_of g 0) empty_outbox old tt))))
