-- What the target hands out as its management goes on: nothing, or one packet to the node of the operation, which is no status of an ORB in a slot where the operation
-- is of a place of management. So each status that it sends then is as it is to be.
use Rattle.sbp_world.proofs.Words.Std.{arith, ◌≡◌, ◌∙◌, refl, sym, ap, subst, ◌<◌, ◌≤◌, ◌+◌, ◌==◌, nat_le, ℕ, zero, suc, Bool, true, false, cond, List, [], ◌∷◌, ◌++◌, map, length, Option, Some, None, nat_tests, none-some}
use Rattle.sbp_world.proofs.Words.Wire.{Asked, Body, block_read, block_write, quadlet_read, quadlet_write, Layer, asking_step, GenerationsState, id_of, node_of, topology_at, CutCause, Note, Outgoing, Side, OutboxState, Moment, said}
use Rattle.sbp_world.proofs.Words.Target.{new_machine, state_in, Table, Decision, Effect, ManagerStep, Operation, Purpose, cut, cut_node, told_cut, ask_manager, cut_placed, decided_by, effect_by, failed_by, fresh_desk, manage, managed_in, managed_with, manager_asked, manager_body, manager_sent, place_in, tell_left, with_manager, Scene, desk_at, scene, request_step, sent_by, clear_from, clear_unit, cut_all, is_reset}
use Rattle.sbp_world.proofs.Words.Initiator.{slot_of, start_of, Ask, FailCause, Answer, read_block}
use Rattle.sbp_world.proofs.Words.Laws.{access_in_bytes, EachMoment}
use Rattle.sbp_world.proofs.Words.World.{handed_out, sent_all, told_side, told_all, WorldState, AreOthers, SentSo}
use Rattle.bus_memory.specs.declared.window.Window.TheVariants as windows
use Rattle.mgmt_agent.specs.declared.decision.Effect.TheVariants as effects
use Rattle.mgmt_agent.specs.Machine as management
use Rattle.orb_layout.specs.declared.ask.Ask.TheVariants as asks
use Rattle.sbp_journal.specs.declared.cause.CutCause.TheVariants as cuts
use Rattle.sbp_journal.specs.declared.side.Side.TheVariants as sides
use Rattle.sbp_target.specs.declared.purpose.Purpose.TheVariants as purposes
use Rattle.sbp_world.proofs.Wire.Bus.{node_has}
use Rattle.sbp_target.proofs.Histories.Calling.{Good}
use Rattle.sbp_world.proofs.Agents.Management.Still.{hist}
use Rattle.sbp_world.proofs.Lists.StatusActs.{first}
use Rattle.sbp_world.proofs.Lists.StatusBytes.{wrote}
use Rattle.sbp_world.proofs.Lists.StatusLines.{S, is_plain, plain_on, target_hands}
use Rattle.sbp_world.proofs.Lists.StatusManaged.{Silent, place_free, reply_mild}
use Rattle.sbp_world.proofs.Lists.StatusPackets.{IsPlain, Spelled, read_plain, sends_write}
use Rattle.sbp_world.proofs.Lists.StatusReads.{IsOfBody, IsRead, asked_body, body_reads}
use Rattle.sbp_world.proofs.Lists.StatusSends.{AllOut, all_send}
use Rattle.sbp_world.proofs.Lists.StatusTurn.{Behind, IsFirst, got_first, ignored_first, late_first}
use Rattle.sbp_world.proofs.Lists.StatusCalls.{lose_packets}
use Rattle.sbp_target.proofs.Histories.Views.{cuts_keep, placed_keep}

-- ---- what its decision leaves: no packet, and the management as it is
module _ (m : management.Machine) where
  pub record Kept (s : Scene) : Type 0 where
    pub packets : s.outbox.packets ≡ []
    pub manager : s.node.manager ≡ m

  pick_kept : (b : Bool) (s t : Scene) → Kept s → Kept t → Kept (cond b s t)
  pick_kept true s t h k = h
  pick_kept false s t h k = k

  told_kept : (b : Bool) (place : ℕ) (cause : CutCause) (s : Scene) → Kept s → Kept (scene s.node (told_cut b place cause s.outbox))
  told_kept true place cause s k = k
  told_kept false place cause s k = record { packets = k.packets; manager = k.manager }

  cut_kept : (cause : CutCause) (place : ℕ) (s : Scene) → Kept s → Kept (cut cause place s)
  unfolding cut
  cut_kept cause place s k =
      told_kept (is_reset (state_in (desk_at s.node place).agent.phase)) place cause (scene (cut_node place s.node) s.outbox) (record { packets = k.packets; manager = k.manager })

  cuts_all : (cause : CutCause) (unit : Option ℕ) (s : Scene) → Kept s → Kept (cut_all cause unit s)
  cuts_all cause unit s c = cuts_keep Kept cut_kept cause unit s c

  placed_kept : (place : Option ℕ) (cause : CutCause) (s : Scene) → Kept s → Kept (cut_placed place cause s)
  placed_kept place cause s c = placed_keep Kept cut_kept place cause s c

  clear_kept : (unit : ℕ) (s : Scene) → Kept s → Kept (clear_unit unit s)
  unfolding clear_unit
  clear_kept unit s k = record { packets = k.packets; manager = k.manager }

  clears_kept : (left unit : ℕ) (s : Scene) → Kept s → Kept (clear_from left unit s)
  unfolding clear_from
  clears_kept zero unit s k = k
  clears_kept (suc left) unit s k = clears_kept left (unit + 1) (clear_unit unit s) (clear_kept unit s k)

  left_kept : (replaced : Option ℕ) (s : Scene) → Kept s → Kept (scene s.node (tell_left replaced s.outbox))
  left_kept None s k = k
  left_kept (Some login) s k = record { packets = k.packets; manager = k.manager }

  pub failed_kept : (source : ℕ) (failed : Option FailCause) (s : Scene) → Kept s → Kept (failed_by source failed s)
  failed_kept source None s k = record { packets = k.packets; manager = k.manager }
  failed_kept source (Some cause) s k = record { packets = k.packets; manager = k.manager }

  effect_kept : (effect : Effect) (login : ℕ) (s : Scene) → Kept s → Kept (effect_by effect login s)
  effect_kept effects.Nothing login s k = k
  effect_kept (effects.Entered place replaced) login s k = left_kept replaced (scene (fresh_desk place s.node) s.outbox) (record { packets = k.packets; manager = k.manager })
  effect_kept (effects.Back place) login s k = record { packets = k.packets; manager = k.manager }
  effect_kept (effects.Left place) login s k = let c = placed_kept (place_in place) cuts.Logout s k in record { packets = c.packets; manager = c.manager }
  effect_kept (effects.Abort place orb) login s k = record { packets = k.packets; manager = k.manager }
  effect_kept (effects.AbortSet place) login s k = placed_kept (place_in place) cuts.AbortSet s k
  effect_kept (effects.UnitReset unit) login s k =
      let t = cut_all cuts.UnitReset (Some unit) s in
      let c = cuts_all cuts.UnitReset (Some unit) s k in
      pick_kept _ (clear_unit unit t) t (clear_kept unit t c) c
  effect_kept effects.TargetReset login s k =
      let t = cut_all cuts.TargetReset None s in clears_kept (length t.node.units) 0 t (cuts_all cuts.TargetReset None s k)

  pub decided_kept : (d : Option Decision) (effect : Effect) (source : ℕ) (s : Scene) → Kept s → Kept (decided_by d effect source s)
  unfolding decided_by
  decided_kept None effect source s k = k
  decided_kept (Some d) effect source s k = let c = effect_kept effect d.subject s k in record { packets = c.packets; manager = c.manager }

-- ---- what leaves: nothing, or one packet to the node of the operation, which is plain where this is known of what is written
module _ (source : ℕ) (Ours : Type 0) where
  pub data Leaves : List Outgoing → Type 0 where
    leaves_none : (packets : List Outgoing) → packets ≡ [] → Leaves packets
    leaves_one : (packets : List Outgoing) (packet : Outgoing) → packets ≡ packet ∷ [] → packet.to ≡ source → (Ours → IsPlain packet) → Leaves packets

  -- what a body may be
  abbrev Fine : Body → Type 0
  Fine (quadlet_write at value) = ⊥
  Fine (block_write at payload) = (length payload ≤ 2048) × (Ours → Silent payload)
  Fine (quadlet_read at) = Unit {0}
  Fine (block_read at asked) = Unit {0}

  plain_of : (layer : Layer Purpose) (body : Body) → Fine body → (asked : Asked) → IsOfBody layer source body (Some asked) → Ours → IsPlain (record { to = source; label = Some asked.label; bytes = asked.bytes })
  plain_of layer (quadlet_write at value) f asked of ours slot block w = absurd f
  plain_of layer (block_write at payload) f asked of ours slot block w =
      let x = wrote asked.label.number layer.node source at payload f.0 w.access (subst (λ bytes. access_in_bytes bytes ≡ Some w.access) of w.is) in
      f.1 ours block (ap (λ xs. read_block false xs) (sym x.payload_is) ∙ w.reads) slot w.slot_is
  plain_of layer (quadlet_read at) f asked of ours slot block w = read_plain (record { to = source; label = Some asked.label; bytes = asked.bytes }) (subst IsRead (sym of) (body_reads asked.label.number layer.node source (quadlet_read at) refl)) slot block w
  plain_of layer (block_read at count) f asked of ours slot block w = read_plain (record { to = source; label = Some asked.label; bytes = asked.bytes }) (subst IsRead (sym of) (body_reads asked.label.number layer.node source (block_read at count) refl)) slot block w

  sent_leaves : (body : Body) → Fine body → (s : Scene) → s.outbox.packets ≡ [] → (r : Option Asked × Layer Purpose) → IsOfBody s.node.layer source body r.0 → Leaves (manager_sent s.node (sent_by r s.outbox source)).outbox.packets
  sent_leaves body f s none (None, layer) of = let t = scene (record s.node { layer = layer }) s.outbox in leaves_none _ (lose_packets t ∙ none)
  sent_leaves body f s none (Some asked, layer) of =
      let packet : Outgoing = record { to = source; label = Some asked.label; bytes = asked.bytes } in
      leaves_one _ packet (ap (λ ps. ps ++ packet ∷ []) none) refl (plain_of s.node.layer body f asked of)

  abbrev IfFine : Option Body → Type 0
  IfFine None = Unit {0}
  IfFine (Some body) = Fine body

  asked_leaves : (body : Option Body) → IfFine body → (s : Scene) → s.outbox.packets ≡ [] → Leaves (manager_asked body source s).outbox.packets
  unfolding request_step
  asked_leaves None f s none = leaves_none _ none
  asked_leaves (Some body) f s none = sent_leaves body f s none (asking_step s.node.layer source body purposes.Management) (asked_body s.node.layer source body purposes.Management)

  pick_fine : (b : Bool) (x y : Option Body) → (b ≡ true → IfFine x) → (b ≡ false → IfFine y) → IfFine (cond b x y)
  pick_fine true x y f g = f refl
  pick_fine false x y f g = g refl

  ask_fine : (ask : Ask) (outgoing : List ℕ) → (Ours → (at len : ℕ) → ask ≡ asks.Write at len → Silent outgoing) → IfFine (manager_body ask outgoing)
  ask_fine asks.Nothing outgoing f = tt
  ask_fine (asks.Read at len) outgoing f = pick_fine (len == 4) (Some (quadlet_read at)) _ (λ e. tt) (λ e. pick_fine (nat_le len 2048) (Some (block_read at len)) None (λ g. tt) (λ g. tt))
  ask_fine (asks.Write at len) outgoing f =
      pick_fine (nat_le (length outgoing) 2048) (Some (block_write at outgoing)) None (λ e. ((let z : length outgoing ≤ 2048 = grind (arith, nat_tests) in z), λ ours. f ours at len refl)) (λ e. tt)

  ask_leaves : (ask : Ask) (s : Scene) → s.outbox.packets ≡ [] → (Ours → (at len : ℕ) → ask ≡ asks.Write at len → Silent s.node.manager.outgoing) → Leaves (ask_manager source ask s).outbox.packets
  unfolding ask_manager
  ask_leaves ask s none f = asked_leaves (manager_body ask s.node.manager.outgoing) (ask_fine ask s.node.manager.outgoing f) s none

  managed_leaves : (s : Scene) → s.outbox.packets ≡ [] → (r : ManagerStep × (management.Machine × Table)) → (Ours → (at len : ℕ) → r.0.ask ≡ asks.Write at len → Silent r.1.0.outgoing) → Leaves (managed_with source s r).outbox.packets
  managed_leaves s none (step, (m, t)) f =
      let start = scene (with_manager s.node (m, t)) s.outbox in
      let x = decided_by step.decided step.effect source start in
      let k : Kept m (failed_by source step.failed x) = failed_kept m source step.failed x (decided_kept m step.decided step.effect source start (record { packets = none; manager = refl })) in
      ask_leaves step.ask (failed_by source step.failed x) k.packets (λ ours at len e. subst (λ (y : management.Machine). Silent y.outgoing) (sym k.manager) (f ours at len e))

-- ---- a world
-- each operation of the target that is of the node of an initiator, as the target knows it, has its ORB in a place of management
abbrev pub ArePlacedFor : WorldState → ℕ → Type 0
ArePlacedFor w i = (op : Operation) → w.target.manager.operation ≡ Some op → op.source ≡ id_of (topology_at w.generations 0) (suc i) → (place : ℕ) × ((place < 2) × (op.orb ≡ start_of (windows.Management place)))

abbrev IfLeaves : (Ours : ℕ → Type 0) → Option ℕ → List Outgoing → Type 0
IfLeaves Ours None packets = packets ≡ []
IfLeaves Ours (Some source) packets = Leaves source (Ours source) packets

module _ (w : WorldState) (g : Good w.target) (i : ℕ) (placed : ArePlacedFor w i) where
  -- the node of an operation is that of the initiator
  abbrev Ours : ℕ → Type 0
  Ours source = node_of w.generations 0 source ≡ Some (suc i)

  own_mild : (op : Operation) → w.target.manager.operation ≡ Some op → Ours op.source → (answer : Answer) → (let r = management.reply_step w.target.manager w.target.logins w.target.keys answer in (at len : ℕ) → r.0.ask ≡ asks.Write at len → Silent r.1.0.outgoing)
  own_mild op is ours answer =
      let p = placed op is (sym (node_has (topology_at w.generations 0) op.source (suc i) ours).id_is) in
      let small = p.1.0 in
      let orb = p.1.1 in
      reply_mild w.target.manager w.target.logins w.target.keys answer g.table.last g.table.sound.size op (omega (arith, small, orb)) (λ slot e. place_free p.0 small slot (ap slot_of (sym orb) ∙ e)) is

  module _ (layer : Layer Purpose) (answer : Answer) where
    abbrev here : Scene
    here = first w g layer

    by_operation : (o : Option Operation) → w.target.manager.operation ≡ o → IfLeaves Ours (management.source_in o) (managed_in (management.source_in o) answer here).outbox.packets
    by_operation None e = refl
    by_operation (Some op) e = managed_leaves op.source (Ours op.source) here refl (management.reply_step w.target.manager w.target.logins w.target.keys answer) (λ ours at len x. own_mild op e ours answer at len x)

    manage_leaves : IfLeaves Ours (management.source_in w.target.manager.operation) (manage answer here).outbox.packets
    unfolding manage
    manage_leaves = by_operation w.target.manager.operation refl

-- ---- so it is sent
side_generations : (weight : ℕ) (side : Side) (w : WorldState) → (told_side weight side w).generations ≡ w.generations
unfolding told_side
side_generations weight (sides.Own note) w = refl
side_generations weight (sides.Opened place orb) w = refl
side_generations weight (sides.Ran place orb cdb payload outcome) w = refl
side_generations weight (sides.Ended place orb status) w = refl
side_generations weight (sides.Dead place cause) w = refl
side_generations weight (sides.Cut place cause) w = refl
side_generations weight (sides.Managed node function subject status login) w = refl
side_generations weight (sides.ManageFailed node cause) w = refl
side_generations weight (sides.Held login) w = refl
side_generations weight (sides.Expired login) w = refl
side_generations weight (sides.Back login) w = refl
side_generations weight (sides.Left login) w = refl
side_generations weight (sides.Cleared unit) w = refl
side_generations weight (sides.Unsolicited place) w = refl
side_generations weight (sides.Unsent place) w = refl

pub sides_generations : (weight : ℕ) (told : List Side) (w : WorldState) → (told_all weight told w).generations ≡ w.generations
unfolding told_all
sides_generations weight [] w = refl
sides_generations weight (side ∷ later) w = sides_generations weight later (told_side weight side w) ∙ side_generations weight side w

first_plain : (note : Note) → IsFirst note → is_plain note ≡ true
first_plain _ (got_first serial) = refl
first_plain _ (ignored_first serial cause) = refl
first_plain _ (late_first serial) = refl

module _ (i : ℕ) (past : List Moment) (w : WorldState) (g : Good w.target) (placed : ArePlacedFor w i) (each : EachMoment (SentSo i) (hist past w)) where
  module _ (note : Note) (f : IsFirst note) (u : WorldState) (b : Behind note w u) (outbox : OutboxState) (others : AreOthers outbox.sides) where
    abbrev x : WorldState
    x = told_all 0 outbox.sides u

    start_sends : EachMoment (SentSo i) (hist past u)
    start_sends = subst (λ ns. EachMoment (SentSo i) (map said ns ++ past)) (sym b.fresh) (plain_on i note (hist past w) (first_plain note f) each)

    told_sends : EachMoment (SentSo i) (hist past x)
    unfolding sent_all
    told_sends = target_hands i past 0 (record outbox { packets = [] }) u others tt start_sends

    same_generations : x.generations ≡ w.generations
    same_generations = sides_generations 0 outbox.sides u ∙ b.generations

    sends_none_left : outbox.packets ≡ [] → S i past (handed_out 0 0 outbox u)
    unfolding sent_all
    sends_none_left e = subst (λ ps. S i past (sent_all 0 ps x)) (sym e) told_sends

    sends_leaving : (source : ℕ) → Leaves source (Ours w g i placed source) outbox.packets → S i past (handed_out 0 0 outbox u)
    sends_leaving source (leaves_none _ e) = sends_none_left e
    sends_leaving source (leaves_one _ packet e to plain) =
        let ours = Ours w g i placed source in
        let spelled : Spelled 0 source ours None new_machine outbox.packets =
        subst (λ ps. Spelled 0 source ours None new_machine ps) (sym e) (sends_write packet [] (λ slot block s. record { to_is = to; of = λ own. absurd (plain own slot block s) }) tt) in
        all_send i 0 0 (topology_at x.generations 0).generation 0 source ours (Unit {0}) ⊥ None new_machine (λ mine block of. none-some of.one of.is) past outbox.packets x spelled (subst (λ ps. AllOut (ours × Unit {0}) ps) (sym e) ((λ own slot block s access f. absurd (plain own.0 slot block s)), tt)) refl
        (λ o. (ap (λ (gs : GenerationsState). node_of gs 0 source) (sym same_generations) ∙ o, tt))
        (record { due = λ t. absurd t; none = λ t. absurd t; fits = λ mine slot block of at. absurd (none-some of.one of.is); sends = told_sends })

    by_source : (source : Option ℕ) → IfLeaves (Ours w g i placed) source outbox.packets → S i past (handed_out 0 0 outbox u)
    by_source None l = sends_none_left l
    by_source (Some source) l = sends_leaving source l

  -- as the management goes on behind a reply, or a time-out
  pub managed_sends : (layer : Layer Purpose) (s : Scene) (note : Note) (f : IsFirst note) (u : WorldState) (b : Behind note w u) (others : AreOthers s.outbox.sides) (answer : Answer) → s ≡ manage answer (first w g layer) → S i past (handed_out 0 0 s.outbox u)
  managed_sends layer s note f u b others answer e =
      by_source note f u b s.outbox others (management.source_in w.target.manager.operation)
      (subst (λ (y : Scene). IfLeaves (Ours w g i placed) (management.source_in w.target.manager.operation) y.outbox.packets) (sym e) (manage_leaves w g i placed layer answer))
