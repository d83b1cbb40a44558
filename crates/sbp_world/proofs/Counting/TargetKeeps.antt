-- What each call of the target keeps is so behind each turn.
use Rattle.sbp_world.proofs.Words.Std.{arith, ◌≡◌, ◌∙◌, refl, sym, ap, subst, ◌<◌, ◌≤◌, ℕ, zero, suc, nat_eq, nat_lt, Bool, true, false, cond, List, [], ◌∷◌, length, Option, Some, None, Result, Ok, Err, slice_index_or, slice_set}
use Rattle.sbp_world.proofs.Words.Wire.{judging_step, Stale, Layer, expiring_step, Sent, found_sent, Request, id_of, end_note, judged_note, no_packet, find, Event, OutboxState, empty_outbox, Moment}
use Rattle.sbp_world.proofs.Words.Target.{Disk, Told, alone, sees, ticks, Purpose, NodeState, TargetScene, scene, expired, expired_in, with_key}
use Rattle.sbp_world.proofs.Words.Initiator.{new_state, receive_step}
use Rattle.sbp_world.proofs.Words.World.{Arrival, arrived, at_target, delivered, delivered_by, initiator_received, initiators_received, marked, received_by, received_step, target_received, with_initiators, handed_out, MayHappen, acted, happens, keyed, no_unit, reset_line, see_line, target_sees, target_ticks, tick_line, told_seen, with_seen, MayIf, delivered_if, expires, initiator_expires, inject_line, is_in_flight, lose_line, may_repeat, refused, target_expired, target_left, timed_out, timeout_line, timeout_of, MayNext, delivered_at, delivered_next, lowest, IsLine, Scene, WorldState, begun, with_note, with_target, without_notes}
use Rattle.sbp_world.proofs.Lists.Walks.{Turn, by_delivery as turn_delivery, by_end as turn_end, by_line as turn_line, by_start as turn_start}
use Rattle.sbp_journal.specs.declared.event.Event.TheVariants as events
use Rattle.sbp_journal.specs.declared.note.Note.TheVariants as notes
use Rattle.sbp_world.specs.Nodes as nodes
use Rattle.sbp_world.specs.Packets as packets
use Rattle.sbp_world.specs.Settling as settling
use Rattle.sbp_world.proofs.Wire.Comes.{own_inside, own_outside, received_is, to_own, to_zero}
use Rattle.sbp_world.proofs.Wire.Nodes.{handed_alike, marked_alike}
use Rattle.sbp_world.specs.Delivering.{MayAt, MayReceive, MayTell, MayTold, faults_after}
use Rattle.sbp_world.proofs.Agents.Management.Still.{hist}
use Rattle.sbp_world.proofs.Lists.Adds.{Stays}
use Rattle.sbp_world.proofs.Lists.Lines.{hears, own_lapses, own_sight}
use Rattle.sbp_world.proofs.Lists.OpenedOthers.{acts_does, injects_does, loses_does, resets_does}
use Rattle.sbp_world.proofs.Lists.Turned.{IsOne}
use Rattle.sbp_target.specs.Calls.{Call, lets_expire}
use Rattle.sbp_target.specs.Receiving.{TellsIn, with_layer}
use Rattle.sbp_target.specs.RequestsLeft.{bare, delivered as reached}
use Rattle.sbp_target.specs.SoundAgents.{IsNoDelivery}

module _ (P : NodeState → Type 0) (receives_keep : (told : Option Told) (disks : List Disk) (generation : ℕ) (bytes : List ℕ) (node : NodeState) (before now : List ℕ) → P node → (let found = judging_step node.layer generation bytes in TellsIn told found.0 (with_layer found.1 (bare node disks)) before now) → P (reached told disks generation bytes node).node) (others_keep : (call : Call) (node : NodeState) → IsNoDelivery call → P node → P (alone call node).node) (keys_keep : (unit : ℕ) (key : List ℕ) (node : NodeState) → P node → P (with_key unit key node)) where
  abbrev K : WorldState → WorldState → Type 0
  K w v = P w.target → P v.target

  same : (w v : WorldState) → v.target ≡ w.target → K w v
  same w v e p = subst P (sym e) p

  handed : (w u : WorldState) (node : NodeState) (outbox : OutboxState) → u.target ≡ node → P node → P (handed_out 0 0 outbox u).target
  handed w u node outbox e p = subst P (sym ((handed_alike 0 0 outbox u).target ∙ e)) p

  -- ---- calls of the target
  module _ (w : WorldState) where
    module _ (line serial : ℕ) (request : Request) (zero_node : request.node ≡ 0) where
      abbrev Left : Result (Unit {0}) Stale × TargetScene → WorldState
      Left y = timed_out line serial request.node (packets.at_target (target_left y w.target) w)

      lapse_by : (y : Result (Option Purpose) Stale × Layer Purpose) → P (expired_in y request.peer request.label (scene w.target empty_outbox)).1.node → K w (Left (expired_in y request.peer request.label (scene w.target empty_outbox)))
      lapse_by (Ok purpose, layer) q p =
          let t = (expired_in (Ok purpose, layer) request.peer request.label (scene w.target empty_outbox)).1 in
          let u = with_note (notes.TimedOut serial) (with_target t.node w) in
          subst (λ n. P (handed_out n 0 t.outbox u).target) (sym zero_node) (handed w u t.node t.outbox refl q)
      lapse_by (Err stale, layer) q p = p

      lapse_keeps : K w (Left (expired request.peer request.label (scene w.target empty_outbox)))
      unfolding expired
      lapse_keeps p = lapse_by (expiring_step w.target.layer request.peer request.label) (others_keep (lets_expire request.peer request.label) w.target tt p) p

    sight_keeps : K w (see_line 0 w)
    unfolding see_line nodes.sees target_sees
    sight_keeps p =
        let g = w.generations.latest in
        let t = alone (sees g.generation (id_of g 0)) w.target in
        handed w (with_target t.node (with_seen 0 (told_seen 0 w))) t.node t.outbox refl (others_keep (sees g.generation (id_of g 0)) w.target tt p)

    tick_keeps : K w (tick_line w)
    unfolding tick_line target_ticks
    tick_keeps p =
        let t = alone ticks w.target in
        handed w (with_target t.node (with_note notes.Tick w)) t.node t.outbox refl (others_keep ticks w.target tt p)

    key_keeps : (line unit : ℕ) (key : List ℕ) → K w (keyed line unit key w)
    unfolding keyed
    key_keeps line unit key p = by (nat_lt unit (length w.target.units))
      where
        by : (b : Bool) → P (cond b (with_note (notes.Key unit) (with_target (with_key unit key w.target) w)) (refused line no_unit w)).target
        by true = keys_keep unit key w.target p
        by false = p

    module _ (past : List Moment) (line serial : ℕ) where
      lapses_at : (request : Request) (node : ℕ) → request.node ≡ node → K w (timed_out line serial request.node (expires request w))
      unfolding expires target_expired
      lapses_at request zero e =
          let is_zero : nat_eq request.node 0 ≡ true = grind arith in
          subst (λ b. K w (timed_out line serial request.node (cond b (packets.at_target (target_expired request w.target) w) (initiator_expires request w)))) (sym is_zero) (lapse_keeps line serial request e)
      lapses_at request (suc i) e =
          let other : nat_eq request.node 0 ≡ false = grind arith in
          subst (λ b. K w (timed_out line serial request.node (cond b (packets.at_target (target_expired request w.target) w) (initiator_expires request w)))) (sym other)
          (same w (timed_out line serial request.node (initiator_expires request w)) (own_lapses (λ i. false) past line serial request w).target)

      late_by : (so : Option Request) → K w (timeout_of so line serial w)
      late_by None = same w (refused line no_packet w) refl
      late_by (Some request) = lapses_at request request.node refl

      late_keeps : K w (timeout_line line serial w)
      unfolding timeout_line
      late_keeps = late_by (find w.requests serial)

  -- ---- a packet is delivered
  module _ (past : List Moment) (s : Scene) (serial : ℕ) (again : Bool) (run : Option Told) where
    abbrev from : WorldState
    from = s.world

    abbrev end : WorldState
    end = (delivered serial again run s).world

    module _ (sent : Sent) (found : found_sent serial from.store.kept ≡ Some sent) where
      heard_target : sent.to ≡ 0 → MayTell run sent from.target s.media → K from end
      unfolding delivered target_received arrived MayTell
      heard_target zero_to may p =
          let x = target_received run sent from.target s.media in
          let u = with_note (judged_note serial x.0) (marked serial again (with_target x.1.1.0 from)) in
          let last_is : end ≡ handed_out 0 0 x.1.0 u =
          ap (λ (y : Option Arrival × (OutboxState × Scene)). (delivered_by serial again y).world)
          (received_is run serial s sent found ∙ ap (λ b. cond b (at_target sent.to (target_received run sent from.target s.media) s) (initiator_received sent s)) (to_zero sent.to zero_to))
          ∙ ap (λ n. handed_out n 0 x.1.0 u) zero_to in
          let q = receives_keep run s.media.disks sent.generation sent.bytes from.target s.media.faults (faults_after run sent from.target s.media) p may in
          subst (λ (v : WorldState). P v.target) (sym last_is) (handed from u x.1.1.0 x.1.0 (marked_alike (with_target x.1.1.0 from) serial again).target q)

      heard_own : (i : ℕ) → sent.to ≡ suc i → i < length from.initiators → K from end
      unfolding delivered initiators_received arrived
      heard_own i to_is inside =
          let x = receive_step sent.generation sent.bytes empty_outbox (slice_index_or from.initiators i (new_state 0 false)) in
          let v = with_note (judged_note serial x.0) (marked serial again (with_initiators (slice_set from.initiators i x.1.1) from)) in
          let last_is : end ≡ handed_out sent.to 0 x.1.0 v =
          ap (λ (y : Option Arrival × (OutboxState × Scene)). (delivered_by serial again y).world) (to_own run serial i s sent found to_is ∙ own_inside sent i s inside) in
          let is = last_is ∙ ap (λ n. handed_out n 0 x.1.0 v) to_is in
          same from end (subst (Stays (λ i. false) past from) (sym is) (hears (λ i. false) past serial i again sent from)).target

      heard_none : (i : ℕ) → sent.to ≡ suc i → length from.initiators ≤ i → K from end
      unfolding delivered
      heard_none i to_is outside =
          subst (K from) (sym (ap (λ (y : Option Arrival × (OutboxState × Scene)). (delivered_by serial again y).world) (to_own run serial i s sent found to_is ∙ own_outside sent i s outside))) (same from from refl)

      heard_at : (to : ℕ) → sent.to ≡ to → (sent.to ≡ 0 → MayTell run sent from.target s.media) → K from end
      heard_at zero e may = heard_target e (may e)
      heard_at (suc i) e may = by (nat_lt i (length from.initiators)) refl
        where
          by : (b : Bool) → nat_lt i (length from.initiators) ≡ b → K from end
          by true f = heard_own i e (grind arith)
          by false f = heard_none i e (grind arith)

    heard_by : (so : Option Sent) → found_sent serial from.store.kept ≡ so → MayAt run so s → K from end
    unfolding delivered received_step
    heard_by None e m = subst (K from) (sym (ap (λ o. (delivered_by serial again (received_by run o s)).world) e)) (same from from refl)
    heard_by (Some sent) e m = heard_at sent e sent.to refl (λ z. subst (λ b. MayTold b run sent s) (to_zero sent.to z) m)

    heard : MayReceive run serial s → K from end
    unfolding MayReceive
    heard m = heard_by (found_sent serial from.store.kept) refl m

  next_heard : (past : List Moment) (s : Scene) (one : Option Told) (so : Option ℕ) → settling.MayAt so one s → K s.world (delivered_at so one s).world
  next_heard past s one None m = absurd m
  next_heard past s one (Some serial) m = heard past s serial false one m

  delivery_keeps : (past : List Moment) (s : Scene) (one : Option Told) → MayNext one s → K s.world (delivered_next one s).world
  unfolding delivered_next MayNext
  delivery_keeps past s one m = next_heard past s one (lowest s.world) m

  -- ---- a line that delivers one packet at most
  module _ (past : List Moment) (line : ℕ) (s : Scene) where
    abbrev w0 : WorldState
    w0 = without_notes s.world

    one_heard : (serial : ℕ) (again b : Bool) (told : List (Option Told)) → MayIf b serial told (begun s) → K w0 (delivered_if b line serial again told (begun s)).world
    one_heard serial again true [] m = absurd m
    one_heard serial again true (one ∷ []) m = heard past (begun s) serial again one m
    one_heard serial again true (one ∷ other ∷ more) m = absurd m
    one_heard serial again false told m = same w0 (refused line no_packet w0) refl

    sights : (node : ℕ) → K w0 (see_line node w0)
    sights zero = sight_keeps w0
    sights (suc i) = same w0 (see_line (suc i) w0) (own_sight (λ i. false) past w0 i).target

    line_keeps : (event : Event) (told : List (Option Told)) → IsOne event → IsLine event (length s.world.initiators) → MayHappen event told s → K w0 (happens line event told s).world
    unfolding happens MayHappen
    line_keeps (events.Begin initiators is_ready) told o q m = absurd q
    line_keeps (events.Act i action) told o q m = same w0 (acted line i action w0) (acts_does s.world line i action).target
    line_keeps (events.Reset physical) told o q m = same w0 (reset_line physical w0) (resets_does s.world physical).target
    line_keeps (events.See node) told o q m = sights node
    line_keeps (events.Deliver serial) told o q m = one_heard serial false (is_in_flight serial (begun s).world) told m
    line_keeps (events.Repeat serial) told o q m = one_heard serial true (may_repeat serial (begun s).world) told m
    line_keeps (events.Lose serial) told o q m = same w0 (lose_line line serial w0) (loses_does s.world line serial).target
    line_keeps (events.Timeout serial) told o q m = late_keeps w0 past line serial
    line_keeps (events.Step count) told o q m = absurd o
    line_keeps events.Settle told o q m = absurd o
    line_keeps events.Tick told o q m = tick_keeps w0
    line_keeps (events.Inject i bytes) told o q m = same w0 (inject_line line i bytes w0) (injects_does s.world line i bytes).target
    line_keeps (events.Key unit key) told o q m = key_keeps w0 line unit key

  -- ---- each turn
  pub turn_keeps : (past : List Moment) (s : Scene) (later : List Moment) (t : Scene) → Turn past s later t → P s.world.target → P t.world.target
  turn_keeps _ _ _ _ (turn_line past s line event told one fit may) = line_keeps (hist past s.world) line s event told one fit may
  turn_keeps _ _ _ _ (turn_start past s line event d) = same s.world (begun s).world refl
  turn_keeps _ _ _ _ (turn_delivery past s one may) = delivery_keeps past s one may
  turn_keeps _ _ _ _ (turn_end past s done) = same s.world (with_note (end_note done) s.world) refl
