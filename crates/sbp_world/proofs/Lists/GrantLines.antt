-- Each line of a world: an initiator that acts, or injects a packet, sends one write at most; the sight of a reset ends live logins, eight at most; and any other line that
-- delivers no packet grants no login and begins no operation.
use Rattle.sbp_world.proofs.Words.Std.{arith, ◌≡◌, ◌∙◌, refl, sym, ap, subst, ℕ, zero, suc, ◌+◌, ◌-◌, ◌<◌, ◌≤◌, ◌==◌, nat_eq, nat_lt, Bool, true, false, cond, List, [], ◌∷◌, ◌++◌, length, Option, Some, None, Result, Ok, Err, if◌then◌else◌, nat_tests}
use Rattle.sbp_world.proofs.Words.Wire.{Asked, Stale, Layer, seeing_step, Stored, Request, id_of, no_node, no_packet, find, Action, Outgoing, OutboxState, empty_outbox, Moment}
use Rattle.sbp_world.proofs.Words.Target.{Operation, Disk, alone, sees, sets_key, ticks, NodeState, TargetScene, scene, expired}
use Rattle.sbp_world.proofs.Words.Initiator.{act_step, asked_as, asked_for, demand_of, demanded_as, facts_with, judged_as, Demand, Purpose, InitiatorState, Turn, expire_step, refusal, see_step}
use Rattle.sbp_world.proofs.Words.World.{handed_out, acted, acted_by, keyed, no_unit, weight_in, handed_all, initiator_learns, reset_line, see_line, target_learns, target_sees, target_ticks, tick_line, told_seen, with_seen, at_initiator, expires, initiator_expires, inject_line, injected, injected_to, is_in_flight, lose_line, lost, refused, target_expired, target_left, timed_out, timeout_line, timeout_of, posted, WorldState, initiator_at, with_initiator, with_note, with_target, AreOthers}
use Rattle.mgmt_agent.specs.Machine.{Machine}
use Rattle.sbp_journal.specs.declared.note.Note.TheVariants as notes
use Rattle.sbp_target.proofs.Histories.Calling.{Good}
use Rattle.sbp_world.specs.Nodes as nodes
use Rattle.sbp_world.specs.Packets as packets
use Rattle.sbp_world.proofs.Wire.Nodes.{handed_alike}
use Rattle.sbp_world.proofs.Hosts.ActLeft.{act_left}
use Rattle.sbp_world.proofs.Hosts.Hands.{second_tells, sight_tells}
use Rattle.sbp_world.proofs.Hosts.Layered.{AreTame, expire_left}
use Rattle.sbp_world.proofs.Hosts.PointSees.{see_left}
use Rattle.sbp_world.proofs.Hosts.Requested.{done_sends}
use Rattle.sbp_world.proofs.Hosts.TargetTells as target_tell
use Rattle.sbp_world.proofs.Agents.Management.Holding.{Holding}
use Rattle.sbp_world.proofs.Pointers.Quiet.{AreQuiet, expire_quiet, see_quiet}
use Rattle.sbp_world.proofs.Lists.CountedLogins.{live_few}
use Rattle.sbp_world.proofs.Lists.DecisionsDue.{undecided}
use Rattle.sbp_world.proofs.Lists.EntryNotes.{granted, own_granted, posted_granted, target_granted}
use Rattle.sbp_world.proofs.Lists.GrantSides.{grants, lapse_grants, second_grants, sight_grants}
use Rattle.sbp_world.proofs.Lists.GrantTurns.{IsAside, Moves, aside_none, aside_one, more_moves}
use Rattle.sbp_world.proofs.Lists.LiveCalls.{StandsStill, key_still, lapse_still, second_still, sight_clears, sight_still}
use Rattle.sbp_world.proofs.Lists.LiveTurns as turns
use Rattle.sbp_world.proofs.Lists.PendingWrites.{IsOneAtMost, handed_most, lost_most, none_out, one_out, out_one, pending, posted_most, quiet_outs}

-- ---- an action sends one packet at most
one_asked : (r : Option Asked × Layer Purpose) (action : Action) (s : InitiatorState) → IsOneAtMost (asked_as r action empty_outbox s).1.0.packets
one_asked (None, layer) action s = tt
one_asked (Some asked, layer) action s =
    let u = record s { layer = layer } in
    subst (λ (ps : List Outgoing). IsOneAtMost (ps ++ record { to = s.target; label = Some asked.label; bytes = asked.bytes } ∷ [])) (sym (done_sends action empty_outbox u)) tt

one_demanded : (demand : Option Demand) (action : Action) (s : InitiatorState) → IsOneAtMost (demanded_as demand action empty_outbox s).1.0.packets
one_demanded None action s = subst IsOneAtMost (sym (done_sends action empty_outbox s)) tt
one_demanded (Some demand) action s = one_asked (asked_for demand s) action s

one_judged : (refused : Option ℕ) (action : Action) (s : InitiatorState) → IsOneAtMost (judged_as refused action empty_outbox s).1.0.packets
one_judged (Some number) action s = tt
one_judged None action s = one_demanded (demand_of action s) action s

act_one : (action : Action) (s : InitiatorState) → IsOneAtMost (act_step action empty_outbox s).1.0.packets
unfolding act_step
act_one action s = one_judged (refusal action (facts_with true s action)) action s

-- ---- lines that are none of the target
module _ (past : List Moment) (w : WorldState) where
  refuses : (line number : ℕ) → IsAside 0 past w (refused line number w)
  refuses line number = record { target = refl; same = omega arith; most = omega arith }

  acts_by : (line i : ℕ) (action : Action) (r : Option ℕ × Turn) → act_step action empty_outbox (initiator_at w i) ≡ r → IsAside 1 past w (acted_by r line i action w)
  acts_by line i action (Some number, turn) e = record { target = refl; same = omega arith; most = omega arith }
  acts_by line i action (None, turn) e =
      let u = with_initiator i turn.1 w in
      let tame = subst (λ (r : Option ℕ × Turn). AreTame r.1.0.sides) e (act_left action (initiator_at w i) (ap (λ (r : Option ℕ × Turn). r.0) e)).told in
      let one = one_out (i + 1) turn.0.packets (subst (λ (r : Option ℕ × Turn). IsOneAtMost r.1.0.packets) e (act_one action (initiator_at w i))) in
      let sent = handed_most (i + 1) (weight_in action) turn.0 u in
      record { target = (handed_alike (i + 1) (weight_in action) turn.0 u).target; same = own_granted past (i + 1) (weight_in action) turn.0 u tame; most = omega (arith, one, sent) }

  pub act_moves : (line i : ℕ) (action : Action) → Moves 8 past w (acted line i action w)
  unfolding acted
  act_moves line i action = aside_one past w _ (acts_by line i action (act_step action empty_outbox (initiator_at w i)) refl)

  pub lose_moves : (line serial : ℕ) → Moves 8 past w (lose_line line serial w)
  unfolding lose_line
  lose_moves line serial = by (is_in_flight serial w)
    where
      by : (b : Bool) → Moves 8 past w (cond b (lost serial w) (refused line no_packet w))
      by true = more_moves past w (lost serial w) (aside_none past w (lost serial w) (record { target = refl; same = omega arith; most = (let m = lost_most serial w.store.kept in omega (arith, m)) }))
      by false = more_moves past w (refused line no_packet w) (aside_none past w (refused line no_packet w) (refuses line no_packet))

  inject_to : (line from : ℕ) (bytes : List ℕ) (to : Option ℕ) → Moves 8 past w (injected to line from bytes w)
  unfolding posted
  inject_to line from bytes None = more_moves past w (refused line no_node w) (aside_none past w (refused line no_node w) (refuses line no_node))
  inject_to line from bytes (Some to) =
      let m = posted_most from to true bytes w in
      let one = out_one from bytes in
      aside_one past w (posted from to true bytes w) (record { target = refl; same = posted_granted past from to true bytes w; most = omega (arith, m, one) })

  pub inject_moves : (line i : ℕ) (bytes : List ℕ) → Moves 8 past w (inject_line line i bytes w)
  unfolding inject_line
  inject_moves line i bytes = inject_to line (i + 1) bytes (injected_to (i + 1) bytes w)

  pub reset_moves : (ids : List ℕ) → Moves 8 past w (reset_line ids w)
  unfolding reset_line
  reset_moves ids = more_moves past w (reset_line ids w) (aside_none past w (reset_line ids w) (record { target = refl; same = omega arith; most = omega arith }))

  -- an initiator hands out no write
  hands : (node : ℕ) (outbox : OutboxState) (u : WorldState) → u.target ≡ w.target → granted past u ≡ granted past w → u.store ≡ w.store → AreTame outbox.sides → AreQuiet outbox.packets → IsAside 0 past w (handed_out node 0 outbox u)
  hands node outbox u t g st tame quiet =
      let sent = handed_most node 0 outbox u in
      let none = quiet_outs node outbox.packets quiet in
      let same = ap (λ (x : Stored). pending x.kept) st in
      record { target = (handed_alike node 0 outbox u).target ∙ t; same = own_granted past node 0 outbox u tame ∙ g; most = omega (arith, sent, none, same) }

  pub own_sight : (i : ℕ) → Moves 8 past w (see_line (suc i) w)
  unfolding see_line nodes.sees
  own_sight i =
      let g = w.generations.latest in
      let one = with_seen (suc i) (told_seen (suc i) w) in
      let t = see_step g.generation (id_of g (suc i)) (id_of g 0) empty_outbox (initiator_at w (suc i - 1)) in
      let two = with_initiator (suc i - 1) t.1 one in
      let other : (suc i == 0) ≡ false = grind (arith, nat_tests) in
      subst (λ b. Moves 8 past w (handed_all (suc i) (cond b (target_learns one) (initiator_learns (suc i) one)))) (sym other)
      (more_moves past w _ (aside_none past w _ (hands (suc i) t.0 two refl (omega arith) refl (see_left g.generation (id_of g (suc i)) (id_of g 0) (initiator_at w (suc i - 1))).told (see_quiet g.generation (id_of g (suc i)) (id_of g 0) (initiator_at w (suc i - 1))))))

  lapse_own : (line serial : ℕ) (request : Request) (i : ℕ) (r : Bool × Turn) → expire_step request.label empty_outbox (initiator_at w i) ≡ r → IsAside 0 past w (timed_out line serial request.node (at_initiator i r w))
  lapse_own line serial request i (true, turn) e =
      let s = initiator_at w i in
      hands request.node turn.0 (with_note (notes.TimedOut serial) (with_initiator i turn.1 w)) refl (omega arith) refl
      (subst (λ (r : Bool × Turn). AreTame r.1.0.sides) e (expire_left request.label s).told) (subst (λ (r : Bool × Turn). AreQuiet r.1.0.packets) e (expire_quiet request.label s))
  lapse_own line serial request i (false, turn) e = record { target = refl; same = omega arith; most = omega arith }

  pub lapse_if : (line serial : ℕ) (request : Request) (i : ℕ) (b : Bool) → IsAside 0 past w (timed_out line serial request.node (if b then at_initiator i (expire_step request.label empty_outbox (initiator_at w i)) w else (false, (empty_outbox, w))))
  lapse_if line serial request i true = lapse_own line serial request i (expire_step request.label empty_outbox (initiator_at w i)) refl
  lapse_if line serial request i false = refuses line no_packet

-- ---- lines of the target
-- nothing is granted, nothing is sent, and no operation begins
record IsLight (past : List Moment) (w v : WorldState) : Type 0 where
  same : granted past v ≡ granted past w
  most : pending v.store.kept ≤ pending w.store.kept
  fewer : undecided v.target.manager.operation ≤ undecided w.target.manager.operation

still_fewer : (node now : NodeState) → ((op : Operation) → now.manager.operation ≡ Some op → now.manager ≡ node.manager) → undecided now.manager.operation ≤ undecided node.manager.operation
still_fewer node now f = by now.manager.operation refl
  where
    by : (operation : Option Operation) → now.manager.operation ≡ operation → undecided operation ≤ undecided node.manager.operation
    by None e = omega arith
    by (Some op) e =
        let is : undecided (Some op) ≡ undecided node.manager.operation = ap undecided (sym e) ∙ ap (λ (m : Machine). undecided m.operation) (f op e) in
        omega (arith, is)

over_fewer : (node now : NodeState) → ((op : Operation) → now.manager.operation ≡ Some op → ⊥) → undecided now.manager.operation ≤ undecided node.manager.operation
over_fewer node now f = still_fewer node now (λ op e. absurd (f op e))

module _ (units ready : ℕ) (has : 0 < units) (start : List Disk) {past : List Moment} {lines : ℕ} (w : WorldState) (h : Holding units ready start past lines w) where
  abbrev good : Good w.target
  good = turns.good units ready has start w h

  light_moves : (v : WorldState) → IsLight past w v → Moves 8 past w v
  light_moves v l =
      let same = l.same in
      let most = l.most in
      let fewer = l.fewer in
      let few = live_few w.target.logins.places in
      let size = good.table.sound.size in
      record { few = omega (arith, same, most, fewer, few, size) }

  aside_light : (v : WorldState) → IsAside 0 past w v → Moves 8 past w v
  aside_light v a = more_moves past w v (aside_none past w v a)

  target_light : (u : WorldState) (left : NodeState) (outbox : OutboxState) → u.target ≡ left → u.store ≡ w.store → granted past u ≡ granted past w → AreOthers outbox.sides → grants outbox.sides ≡ 0 → undecided left.manager.operation ≤ undecided w.target.manager.operation → IsLight past w (handed_out 0 0 outbox u)
  target_light u left outbox t st g others none fewer =
      let v = handed_out 0 0 outbox u in
      let told = target_granted past 0 0 outbox u others in
      let sent = handed_most 0 0 outbox u in
      let quiet = none_out outbox.packets in
      let kept = ap (λ (x : Stored). pending x.kept) st in
      let op = ap (λ (n : NodeState). undecided n.manager.operation) ((handed_alike 0 0 outbox u).target ∙ t) in
      record { same = omega (arith, told, g, none); most = omega (arith, sent, quiet, kept); fewer = omega (arith, op, fewer) }

  pub tick_moves : Moves 8 past w (tick_line w)
  unfolding tick_line target_ticks
  tick_moves =
      let x = alone ticks w.target in
      light_moves _ (target_light (with_target x.node (with_note notes.Tick w)) x.node x.outbox refl refl (omega arith) (second_tells w.target) (second_grants w.target good)
      (still_fewer w.target x.node (second_still w.target good (turns.keeps units ready has start w h)).operation))

  pub key_moves : (line unit : ℕ) (key : List ℕ) → Moves 8 past w (keyed line unit key w)
  unfolding keyed
  key_moves line unit key = by (nat_lt unit (length w.target.units))
    where
      by : (b : Bool) → Moves 8 past w (cond b (with_note (notes.Key unit) (with_target (alone (sets_key unit key) w.target).node w)) (refused line no_unit w))
      by true = light_moves _ (record { same = omega arith; most = omega arith; fewer = still_fewer w.target (alone (sets_key unit key) w.target).node (key_still w.target good (turns.keeps units ready has start w h) unit key).operation })
      by false = aside_light _ (refuses past w line no_unit)

  pub target_sight : Moves 8 past w (see_line 0 w)
  unfolding see_line nodes.sees target_sees
  target_sight =
      let g = w.generations.latest.generation in
      let id = id_of w.generations.latest 0 in
      let x = alone (sees g id) w.target in
      light_moves _ (target_light (with_target x.node (with_seen 0 (told_seen 0 w))) x.node x.outbox refl refl (omega arith) (sight_tells g id w.target) (sight_grants w.target good g id) (by g id (seeing_step w.target.layer g id).0 refl))
    where
      by : (g id : ℕ) (b : Bool) → (seeing_step w.target.layer g id).0 ≡ b → undecided (alone (sees g id) w.target).node.manager.operation ≤ undecided w.target.manager.operation
      by g id true e = over_fewer w.target (alone (sees g id) w.target).node (sight_clears w.target good (turns.keeps units ready has start w h) g id e)
      by g id false e = still_fewer w.target (alone (sees g id) w.target).node (sight_still w.target good (turns.keeps units ready has start w h) g id e).operation

  pub see_moves : (node : ℕ) → Moves 8 past w (see_line node w)
  see_moves zero = target_sight
  see_moves (suc i) = own_sight past w i

  lapse_target : (line serial : ℕ) (request : Request) → request.node ≡ 0 → (r : Result (Unit {0}) Stale × TargetScene) → expired request.peer request.label (scene w.target empty_outbox) ≡ r → Moves 8 past w (timed_out line serial request.node (packets.at_target (target_left r w.target) w))
  lapse_target line serial request node (Err stale, x) e = aside_light _ (refuses past w line no_packet)
  lapse_target line serial request node (Ok done, x) e =
      let u = with_note (notes.TimedOut serial) (with_target x.node w) in
      subst (λ n. Moves 8 past w (handed_out n 0 x.outbox u)) (sym node)
      (light_moves _ (target_light u x.node x.outbox refl refl (omega arith)
      (subst (λ (y : Result (Unit {0}) Stale × TargetScene). AreOthers y.1.outbox.sides) e (target_tell.expires request.peer request.label (scene w.target empty_outbox) tt))
      (subst (λ (y : Result (Unit {0}) Stale × TargetScene). grants y.1.outbox.sides ≡ 0) e (lapse_grants w.target good request.peer request.label))
      (still_fewer w.target x.node (subst (λ (y : TargetScene). StandsStill w.target y.node) (ap (λ (y : Result (Unit {0}) Stale × TargetScene). y.1) e) (lapse_still w.target good (turns.keeps units ready has start w h) request.peer request.label)).operation)))

  late_at : (line serial : ℕ) (request : Request) (node : ℕ) → request.node ≡ node → Moves 8 past w (timed_out line serial request.node (expires request w))
  unfolding expires target_expired
  late_at line serial request zero e =
      let is_zero : nat_eq request.node 0 ≡ true = grind arith in
      subst (λ b. Moves 8 past w (timed_out line serial request.node (if b then packets.at_target (target_expired request w.target) w else initiator_expires request w))) (sym is_zero)
      (lapse_target line serial request e (expired request.peer request.label (scene w.target empty_outbox)) refl)
  late_at line serial request (suc j) e =
      let other : nat_eq request.node 0 ≡ false = grind arith in
      subst (λ b. Moves 8 past w (timed_out line serial request.node (if b then packets.at_target (target_expired request w.target) w else initiator_expires request w))) (sym other)
      (aside_light _ (lapse_if past w line serial request (request.node - 1) (nat_lt (request.node - 1) (length w.initiators))))

  late_by : (line serial : ℕ) (so : Option Request) → Moves 8 past w (timeout_of so line serial w)
  late_by line serial None = aside_light _ (refuses past w line no_packet)
  late_by line serial (Some request) = late_at line serial request request.node refl

  pub late_moves : (line serial : ℕ) → Moves 8 past w (timeout_line line serial w)
  unfolding timeout_line
  late_moves line serial = late_by line serial (find w.requests serial)

  pub refused_moves : (line number : ℕ) → Moves 8 past w (refused line number w)
  refused_moves line number = aside_light _ (refuses past w line number)
