-- Turns in which the management sends nothing that is asked for: those of initiators; a sight, a second, a time-out of the target; and the other lines.
use Rattle.sbp_world.proofs.Words.Std.{arith, ◌≡◌, ◌∙◌, refl, sym, ap, subst, ℕ, suc, ◌+◌, ◌-◌, ◌==◌, not, nat_eq, nat_lt, Bool, true, false, cond, List, [], ◌∷◌, length, Option, Some, None, Result, Ok, Err, slice_index_or, slice_set, nat_tests}
use Rattle.sbp_world.proofs.Words.Wire.{Stale, Sent, Request, id_of, node_of, judged_note, no_packet, Judged, Action, Note, Outgoing, Side, OutboxState, empty_outbox, Moment, said, Sending, terms}
use Rattle.sbp_world.proofs.Words.Target.{Operation, reply_to, Table, Disk, TargetScene, scene, expired, with_key}
use Rattle.sbp_world.proofs.Words.Initiator.{Nothing, Expired, act_step, InitiatorState, Turn, new_state, expire_step, receive_step, see_step}
use Rattle.sbp_world.proofs.Words.Laws.{sender_in, Target, is_serial, over, laws_replied, target_at, target_by}
use Rattle.sbp_world.proofs.Words.World.{marked, with_initiators, handed_out, acted, acted_by, keyed, no_unit, weight_in, handed_all, initiator_learns, reset_line, see_line, target_learns, target_sees, target_ticks, tick_line, told_seen, with_seen, at_initiator, initiator_expires, inject_line, injected, injected_to, is_in_flight, lose_line, lost, refused, target_expired, target_left, timed_out, posted, sent, sent_all, sent_to, told, told_all, WorldState, initiator_at, with_initiator, with_note, with_target, Office, at_rest, cleared, office_of, AreOthers, AreContents, ContentAt}
use Rattle.mgmt_agent.specs.declared.operation.Phase.{Phase}
use Rattle.mgmt_agent.specs.declared.operation.Phase.TheVariants as phases
use Rattle.mgmt_agent.specs.Machine.{Machine, reply_step}
use Rattle.sbp_journal.specs.declared.cause.Judged.TheVariants as judgements
use Rattle.sbp_journal.specs.declared.note.Note.TheVariants as notes
use Rattle.sbp_journal.specs.declared.side.Side.TheVariants as sides
use Rattle.sbp_world.specs.Nodes as nodes
use Rattle.sbp_world.specs.Packets as packets
use Rattle.sbp_world.proofs.Agents.Management.Firsts.{lapsed_here, lapsed_there, other_reply, own_reply, sight_office, tick_office, wire_is}
use Rattle.sbp_world.proofs.InitiatorForms as own
use Rattle.sbp_world.proofs.Agents.Management.Holding.{marked_hist}
use Rattle.sbp_world.proofs.Agents.Management.Offices.{over_keeps}
use Rattle.sbp_world.proofs.Formed.{AreOwn, IsNoRun}
use Rattle.sbp_world.proofs.Agents.Management.Sides.{AllBehind}
use Rattle.sbp_world.proofs.Agents.Management.Still.{hist}
use Rattle.sbp_world.proofs.Hosts.Hands.{second_tells, sight_tells}
use Rattle.sbp_world.proofs.Hosts.TargetTells as target_tells
use Rattle.sbp_world.proofs.Lists.ContentTurns.{asked_contents, calm_contents}

-- what the target tells is told behind the first note
pub behind : (told : List Side) → AreOthers told → AllBehind told
behind [] h = tt
behind (sides.Own note ∷ later) h = absurd h.0
behind (sides.Opened a b ∷ later) h = (tt, behind later h.1)
behind (sides.Ran a b c d e ∷ later) h = (tt, behind later h.1)
behind (sides.Ended a b c ∷ later) h = (tt, behind later h.1)
behind (sides.Dead a b ∷ later) h = (tt, behind later h.1)
behind (sides.Cut a b ∷ later) h = (tt, behind later h.1)
behind (sides.Managed a b c d e ∷ later) h = (tt, behind later h.1)
behind (sides.ManageFailed a b ∷ later) h = (tt, behind later h.1)
behind (sides.Held a ∷ later) h = (tt, behind later h.1)
behind (sides.Expired a ∷ later) h = (tt, behind later h.1)
behind (sides.Back a ∷ later) h = (tt, behind later h.1)
behind (sides.Left a ∷ later) h = (tt, behind later h.1)
behind (sides.Cleared a ∷ later) h = (tt, behind later h.1)
behind (sides.Unsolicited a ∷ later) h = (tt, behind later h.1)
behind (sides.Unsent a ∷ later) h = (tt, behind later h.1)

module _ (start : List Disk) where
  -- a note of an initiator's own is no packet
  own_at : (note : Note) (ms : List Moment) → IsNoRun note → ContentAt start (said note) ms
  own_at (notes.Begin a b) ms h = absurd h
  own_at (notes.Sent a b c d e) ms h = absurd h
  own_at (notes.Injected a) ms h = absurd h
  own_at (notes.Got a) ms h = absurd h
  own_at (notes.Ignored a b) ms h = absurd h
  own_at (notes.Lost a) ms h = absurd h
  own_at (notes.TimedOut a) ms h = absurd h
  own_at (notes.Append i n k cdb buffer) ms h = tt
  own_at (notes.Low a b c) ms h = tt
  own_at (notes.Linked a b c) ms h = tt
  own_at (notes.Rung a b c) ms h = tt
  own_at (notes.Dummied a b c) ms h = tt
  own_at (notes.Ran a b c d e f g) ms h = absurd h
  own_at (notes.Ended a b c d) ms h = absurd h
  own_at (notes.Cut a b c) ms h = absurd h
  own_at (notes.Dead a b c) ms h = absurd h
  own_at (notes.Taken a b c d e) ms h = tt
  own_at (notes.Drop a b) ms h = tt
  own_at (notes.Managed a b c d e) ms h = absurd h
  own_at (notes.ManageFailed a b) ms h = absurd h
  own_at (notes.Held a) ms h = absurd h
  own_at (notes.Expired a) ms h = absurd h
  own_at (notes.Back a) ms h = absurd h
  own_at (notes.Left a) ms h = absurd h
  own_at (notes.Cleared a) ms h = absurd h
  own_at (notes.Op a b c) ms h = tt
  own_at (notes.Stuck a) ms h = tt
  own_at (notes.Reset a) ms h = absurd h
  own_at (notes.Seen a b) ms h = absurd h
  own_at notes.Tick ms h = absurd h
  own_at (notes.Refused a b) ms h = absurd h
  own_at notes.Settled ms h = absurd h
  own_at notes.Stopped ms h = absurd h
  own_at (notes.Key a) ms h = absurd h
  own_at (notes.Unsolicited a) ms h = absurd h
  own_at (notes.Unsent a) ms h = absurd h
  own_at (notes.Told a) ms h = tt

  module _ (past : List Moment) where
    abbrev Are : WorldState → Type 0
    Are w = AreContents start (hist past w)

    abbrev in_office : WorldState → Office
    in_office w = office_of (target_at start (hist past w))

    -- ---- an initiator
    own_told : (weight : ℕ) (side : List Side) (w : WorldState) → AreOwn side → Are w → Are (told_all weight side w)
    unfolding told_all told
    own_told weight [] w h o = o
    own_told weight (sides.Own note ∷ later) w h o = own_told weight later (told weight (sides.Own note) w) h.1 (own_at note (hist past w) h.0.1, o)
    own_told weight (sides.Opened a b ∷ later) w h o = absurd h.0
    own_told weight (sides.Ran a b c d e ∷ later) w h o = absurd h.0
    own_told weight (sides.Ended a b c ∷ later) w h o = absurd h.0
    own_told weight (sides.Dead a b ∷ later) w h o = absurd h.0
    own_told weight (sides.Cut a b ∷ later) w h o = absurd h.0
    own_told weight (sides.Managed a b c d e ∷ later) w h o = absurd h.0
    own_told weight (sides.ManageFailed a b ∷ later) w h o = absurd h.0
    own_told weight (sides.Held a ∷ later) w h o = absurd h.0
    own_told weight (sides.Expired a ∷ later) w h o = absurd h.0
    own_told weight (sides.Back a ∷ later) w h o = absurd h.0
    own_told weight (sides.Left a ∷ later) w h o = absurd h.0
    own_told weight (sides.Cleared a ∷ later) w h o = absurd h.0
    own_told weight (sides.Unsolicited a ∷ later) w h o = absurd h.0
    own_told weight (sides.Unsent a ∷ later) w h o = absurd h.0

    own_posted : (i to : ℕ) (is_injected : Bool) (bytes : List ℕ) (w : WorldState) → Are w → Are (posted (suc i) to is_injected bytes w)
    unfolding posted
    own_posted i to false bytes w o = (tt, o)
    own_posted i to true bytes w o = (tt, (tt, o))

    own_to : (to : Option ℕ) (i : ℕ) (packet : Outgoing) (w : WorldState) → Are w → Are (sent_to to (suc i) packet w)
    own_to None i packet w o = o
    own_to (Some to) i packet w o = asked_contents start past (w.store.last + 1) to (suc i) packet.to packet.label (posted (suc i) to false packet.bytes w) (own_posted i to false packet.bytes w o)

    own_sent : (i : ℕ) (packets : List Outgoing) (w : WorldState) → Are w → Are (sent_all (suc i) packets w)
    unfolding sent_all sent
    own_sent i [] w o = o
    own_sent i (packet ∷ later) w o = own_sent i later (sent (suc i) packet w) (own_to (node_of w.generations (suc i) packet.to) i packet w o)

    own_handed : (i weight : ℕ) (outbox : OutboxState) (w : WorldState) → AreOwn outbox.sides → Are w → Are (handed_out (suc i) weight outbox w)
    own_handed i weight outbox w h o = own_sent i outbox.packets (told_all weight outbox.sides w) (own_told weight outbox.sides w h o)

    pub refuses : (line number : ℕ) (w : WorldState) → Are w → Are (refused line number w)
    refuses line number w o = (tt, o)

    acts_by : (line i : ℕ) (action : Action) (w : WorldState) (r : Option ℕ × Turn) → own.At r.1 → Are w → Are (acted_by r line i action w)
    acts_by line i action w (Some number, turn) h o = (tt, o)
    acts_by line i action w (None, turn) h o =
        let v = with_initiator i turn.1 w in
        let is : suc i ≡ i + 1 = omega arith in
        subst (λ n. Are (handed_out n (weight_in action) turn.0 v)) is (own_handed i (weight_in action) turn.0 v h o)

    pub acts : (line i : ℕ) (action : Action) (w : WorldState) → Are w → Are (acted line i action w)
    unfolding acted
    acts line i action w o = acts_by line i action w (act_step action empty_outbox (initiator_at w i)) (own.acts action empty_outbox (initiator_at w i) tt) o

    pub loses : (line serial : ℕ) (w : WorldState) → Are w → Are (lose_line line serial w)
    unfolding lose_line
    loses line serial w o = by (is_in_flight serial w)
      where
        by : (b : Bool) → Are (cond b (lost serial w) (refused line no_packet w))
        by true = (tt, o)
        by false = (tt, o)

    injects_to : (line i : ℕ) (bytes : List ℕ) (w : WorldState) (to : Option ℕ) → Are w → Are (injected to line (suc i) bytes w)
    injects_to line i bytes w None o = (tt, o)
    injects_to line i bytes w (Some to) o = own_posted i to true bytes w o

    pub injects : (line i : ℕ) (bytes : List ℕ) (w : WorldState) → Are w → Are (inject_line line i bytes w)
    unfolding inject_line
    injects line i bytes w o =
        let is : suc i ≡ i + 1 = omega arith in
        subst (λ n. Are (injected (injected_to n bytes w) line n bytes w)) is (injects_to line i bytes w (injected_to (suc i) bytes w) o)

    pub resets : (physical : List ℕ) (w : WorldState) → Are w → Are (reset_line physical w)
    unfolding reset_line
    resets physical w o = (tt, o)

    -- a packet is judged
    pub judged_contents : (serial : ℕ) (again : Bool) (judged : Judged) (w v : WorldState) → hist past v ≡ hist past w → Are w → Are (with_note (judged_note serial judged) (marked serial again v))
    judged_contents serial again judgements.Got w v e o = (tt, subst (AreContents start) (sym (marked_hist past serial again v ∙ e)) o)
    judged_contents serial again (judgements.Ignored cause) w v e o = (tt, subst (AreContents start) (sym (marked_hist past serial again v ∙ e)) o)

    pub hears : (serial i : ℕ) (again : Bool) (one : Sent) (w : WorldState) → Are w → (let x = receive_step one.generation one.bytes empty_outbox (slice_index_or w.initiators i (new_state 0 false)) in Are (handed_out (suc i) 0 x.1.0 (with_note (judged_note serial x.0) (marked serial again (with_initiators (slice_set w.initiators i x.1.1) w)))))
    hears serial i again one w o =
        let old = slice_index_or w.initiators i (new_state 0 false) in
        let x = receive_step one.generation one.bytes empty_outbox old in
        let v = with_initiators (slice_set w.initiators i x.1.1) w in
        own_handed i 0 x.1.0 (with_note (judged_note serial x.0) (marked serial again v)) (own.receives one.generation one.bytes empty_outbox old tt) (judged_contents serial again x.0 w v refl o)

    -- a transaction of an initiator times out
    module _ (line serial : ℕ) (request : Request) (i : ℕ) (is : request.node ≡ suc i) (w : WorldState) (o : Are w) where
      own_by : (j : ℕ) (x : Bool × Turn) → AreOwn x.1.0.sides → Are (timed_out line serial (suc i) (at_initiator j x w))
      own_by j (true, (outbox, state)) h = own_handed i 0 outbox (with_note (notes.TimedOut serial) (with_initiator j state w)) h (tt, o)
      own_by j (false, (outbox, state)) h = (tt, o)

      pub own_lapses : Are (timed_out line serial request.node (initiator_expires request w))
      own_lapses = subst (λ n. Are (timed_out line serial n (initiator_expires request w))) (sym is) (by (nat_lt (request.node - 1) (length w.initiators)))
        where
          old : InitiatorState
          old = initiator_at w (request.node - 1)

          by : (b : Bool) → Are (timed_out line serial (suc i) (cond b (at_initiator (request.node - 1) (expire_step request.label empty_outbox old) w) (false, (empty_outbox, w))))
          by true = own_by (request.node - 1) (expire_step request.label empty_outbox old) (own.expires request.label empty_outbox old tt)
          by false = (tt, o)

    -- it sees a generation
    pub own_sight : (i : ℕ) (w : WorldState) → Are w → Are (see_line (suc i) w)
    unfolding see_line nodes.sees
    own_sight i w o =
        let old = initiator_at w (suc i - 1) in
        let g = w.generations.latest in
        let t = see_step g.generation (id_of g (suc i)) (id_of g 0) empty_outbox old in
        let one = with_seen (suc i) (told_seen (suc i) w) in
        let two = with_initiator (suc i - 1) t.1 one in
        let other : (suc i == 0) ≡ false = grind (arith, nat_tests) in
        subst (λ b. Are (handed_all (suc i) (cond b (target_learns one) (initiator_learns (suc i) one)))) (sym other)
        (own_handed i 0 t.0 two (own.sees g.generation (id_of g (suc i)) (id_of g 0) empty_outbox old tt) (tt, o))

    -- ---- the target
    second_asks : (w : WorldState) → (office_of (target_at start (said notes.Tick ∷ hist past w))).asks ≡ Nothing
    second_asks w = ap (λ (o : Office). o.asks) (tick_office start (hist past w))

    pub seconds : (w : WorldState) → Are w → Are (tick_line w)
    unfolding tick_line
    seconds w o =
        let x = target_ticks w.target in
        calm_contents start past 0 x.0 (with_target x.1 (with_note notes.Tick w)) (behind x.0.sides (second_tells w.target)) (second_asks w) (tt, o)

    sight_asks : (generation : ℕ) (w : WorldState) → (office_of (target_at start (said (notes.Seen 0 generation) ∷ hist past w))).asks ≡ Nothing
    sight_asks generation w =
        let o = at_rest (in_office w) in
        ap (λ (x : Office). x.asks) (sight_office start (hist past w) generation) ∙ by (not (nat_eq generation ((terms (hist past w)).generation 0))) o refl
      where
        by : (b : Bool) (o : Office) → o.asks ≡ Nothing → (cond b (cleared o) o).asks ≡ Nothing
        by true o e = e
        by false o e = e

    pub sights : (w : WorldState) → Are w → Are (see_line 0 w)
    unfolding see_line nodes.sees
    sights w o =
        let g = w.generations.latest in
        let x = target_sees g.generation (id_of g 0) w.target in
        calm_contents start past 0 x.0 (with_target x.1 (with_seen 0 (told_seen 0 w))) (behind x.0.sides (sight_tells g.generation (id_of g 0) w.target)) (sight_asks g.generation w) (tt, o)

    pub keys : (line unit : ℕ) (key : List ℕ) (w : WorldState) → Are w → Are (keyed line unit key w)
    unfolding keyed
    keys line unit key w o = by (nat_lt unit (length w.target.units))
      where
        by : (b : Bool) → Are (cond b (with_note (notes.Key unit) (with_target (with_key unit key w.target) w)) (refused line no_unit w))
        by true = (tt, o)
        by false = (tt, o)

    -- ---- a transaction of it times out
    expired_asks : (m : Machine) (table : Table) (keys : List (List ℕ)) → (reply_step m table keys Expired).0.ask ≡ Nothing
    unfolding reply_step
    expired_asks m table keys = by m.operation
      where
        in_phase : (phase : Phase) (op : Operation) → op.phase ≡ phase → (reply_to (Some op) m table keys Expired).0.ask ≡ Nothing
        in_phase phases.Orb op e = rw e refl
        in_phase (phases.HighEui orb) op e = rw e refl
        in_phase (phases.LowEui orb high) op e = rw e refl
        in_phase (phases.Response fifo) op e = rw e refl
        in_phase phases.Status op e = rw e refl

        by : (o : Option Operation) → (reply_to o m table keys Expired).0.ask ≡ Nothing
        by None = refl
        by (Some op) = in_phase op.phase op refl

    lapse_asks : (serial : ℕ) (w : WorldState) → (office_of (target_at start (said (notes.TimedOut serial) ∷ hist past w))).asks ≡ Nothing
    lapse_asks serial w = by ((terms (hist past w)).sent serial) refl
      where
        T : Target
        T = target_at start (hist past w)

        was : (b : Bool) → is_serial (over T).manages serial ≡ b → (office_of (laws_replied serial Expired (over T))).asks ≡ Nothing
        was true e =
            let o = office_of (over T) in
            ap (λ (x : Office). x.asks) (own_reply serial Expired (over T) e) ∙ expired_asks o.manager o.table o.keys
        was false e = ap (λ (x : Office). x.asks) (other_reply serial Expired (over T) e ∙ over_keeps T)

        from : (q : Sending) → (terms (hist past w)).sent serial ≡ Some q → (b : Bool) → nat_eq q.from 0 ≡ b → (office_of (target_at start (said (notes.TimedOut serial) ∷ hist past w))).asks ≡ Nothing
        from q s true e =
            ap (λ (t : Target). (office_of t).asks) (lapsed_here start (hist past w) serial q s (grind (arith, nat_tests))) ∙ was (is_serial (over T).manages serial) refl
        from q s false e = ap (λ (t : Target). (office_of t).asks) (lapsed_there start (hist past w) serial q s e) ∙ ap (λ (x : Office). x.asks) (over_keeps T)

        by : (so : Option Sending) → (terms (hist past w)).sent serial ≡ so → (office_of (target_at start (said (notes.TimedOut serial) ∷ hist past w))).asks ≡ Nothing
        by None s =
            ap (λ x. (office_of (target_by (notes.TimedOut serial) (hist past w) x T)).asks) (wire_is start (hist past w))
            ∙ ap (λ so. (office_of (cond (is_serial (sender_in so) 0) (laws_replied serial Expired (over T)) (over T))).asks) s
            ∙ ap (λ (x : Office). x.asks) (over_keeps T)
        by (Some q) s = from q s (nat_eq q.from 0) refl

    module _ (line serial : ℕ) (request : Request) (is : request.node ≡ 0) (w : WorldState) (o : Are w) where
      left_by : (y : Result (Unit {0}) Stale × TargetScene) → AreOthers y.1.outbox.sides → Are (timed_out line serial 0 (packets.at_target (target_left y w.target) w))
      left_by (Ok done, s) h = calm_contents start past 0 s.outbox (with_note (notes.TimedOut serial) (with_target s.node w)) (behind s.outbox.sides h) (lapse_asks serial w) (tt, o)
      left_by (Err stale, s) h = (tt, o)

      pub lapses : Are (timed_out line serial request.node (packets.at_target (target_expired request w.target) w))
      unfolding target_expired
      lapses =
          subst (λ n. Are (timed_out line serial n (packets.at_target (target_left (expired request.peer request.label (scene w.target empty_outbox)) w.target) w))) (sym is)
          (left_by (expired request.peer request.label (scene w.target empty_outbox)) (target_tells.expires request.peer request.label (scene w.target empty_outbox) tt))
