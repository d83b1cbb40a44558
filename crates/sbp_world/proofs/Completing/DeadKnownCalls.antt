-- No call of the target leaves an agent dead, or about to be, that was not so before, where it tells of no death.
use Rattle.sbp_world.proofs.Words.Std.{◌≡◌, refl, sym, subst, inl, inr, ◌⊎◌, ℕ, zero, suc, ◌+◌, Bool, true, false, cond, List, [], ◌∷◌, ◌++◌, length, map, Option, Some, None, Result, Ok, Err, nat_lt, slice_index_or, slice_set}
use Rattle.sbp_world.proofs.Words.Wire.{Packet, header_in, LabelParts, Layer, answering_step, CutCause, Side, OutboxState}
use Rattle.sbp_world.proofs.Words.Target.{Login, Outcome, PointRefusal, AgentStep, Which, Machine, is_reset, lost_step, state_in, Decision, Effect, Desk, Kind, Moves, Announced, Behind, Purpose, cut, cut_node, told_cut, disabled, new_desk, point_desk, reset_desk, cut_placed, decided_by, effect_by, failed_by, left_desk, manage, managed_in, noted, place_in, promoted_by, dropped_by, tell_left, with_manager, NodeState, Scene, desk_at, scene, with_agent, with_desk, answered_by, answer_step, answered, with_side, tell_dead, tell_ended, tell_ran, tell_step, clear_from, clear_unit, cut_all, ahead_sent, main_sent, lost_at, pointed_desk, promoted_desk, point_step, without_ahead, expired_desk, unsolicited_by, stay}
use Rattle.sbp_world.proofs.Words.Initiator.{Ask, FailCause, OrbPointer, StatusKind, Answer}
use Rattle.media_bay.specs.Unsolicited.{block}
use Rattle.label_table.specs.Bodies.{block_write}
use Rattle.mgmt_agent.specs.declared.decision.Effect.TheVariants as effects
use Rattle.mgmt_agent.specs.Machine as management
use Rattle.orb_layout.specs.declared.ask.FailCause.TheVariants as causes
use Rattle.sbp_journal.specs.declared.cause.CutCause.TheVariants as cuts
use Rattle.sbp_journal.specs.declared.side.Side.TheVariants as sides
use Rattle.sbp_target.specs.declared.purpose.Purpose.TheVariants as purposes
use Rattle.sbp_target.specs.Histories.Moves as moves
use Rattle.sbp_target.specs.Histories.Moves.{Move}
use Rattle.sbp_target.proofs.Histories.Moved.{ask_manager_moves}
use Rattle.sbp_target.proofs.Histories.Views.{cuts_keep, kept, placed_keep, requests}
use Rattle.sbp_world.specs.Completing.Deaths.{AreLiving}
use Rattle.sbp_world.proofs.Lists.StatusRests.{desk_either, map_agents}
use Rattle.sbp_world.proofs.Completing.DeadKnownSteps.{IsAlive, abort_alive, doorbell_alive, lost_lives, point_alive, reset_alive}

-- ---- agents, and what is told
abbrev pub AreAlive : List Desk → Type 0
AreAlive desks = (place : ℕ) → IsAlive (slice_index_or desks place new_desk).agent

-- where no death is told, none is dead, or about to be
abbrev pub Known : Scene → Type 0
Known s = AreLiving s.outbox.sides → AreAlive s.node.desks

less : (told : List Side) (side : Side) → AreLiving (told ++ side ∷ []) → AreLiving told
less [] side h = tt
less (first ∷ told) side h = (h.0, less told side h.1)

one_dead : (told : List Side) (place : ℕ) (cause : FailCause) → AreLiving (told ++ sides.Dead place cause ∷ []) → ⊥
one_dead [] place cause h = h.0
one_dead (first ∷ told) place cause h = one_dead told place cause h.1

pub set_alive : (desks : List Desk) (k : ℕ) (d : Desk) → IsAlive d.agent → AreAlive desks → AreAlive (slice_set desks k d)
set_alive desks k d alive h p = by (desk_either desks k p d)
  where
    by : ((p ≡ k) × (slice_index_or (slice_set desks k d) p new_desk ≡ d)) ⊎ (slice_index_or (slice_set desks k d) p new_desk ≡ slice_index_or desks p new_desk) → IsAlive (slice_index_or (slice_set desks k d) p new_desk).agent
    by (inl e) = subst (λ (x : Desk). IsAlive x.agent) (sym e.1) alive
    by (inr e) = subst (λ (x : Desk). IsAlive x.agent) (sym e) (h p)

-- a side more
side_more : (s : Scene) (side : Side) → Known s → Known (scene s.node (with_side s.outbox side))
side_more s side k l = k (less s.outbox.sides side l)

-- another desk
pub desk_more : (s : Scene) (k : ℕ) (d : Desk) → (IsAlive (desk_at s.node k).agent → IsAlive d.agent) → Known s → Known (scene (with_desk s.node k d) s.outbox)
desk_more s k d f h l = let a = h l in set_alive s.node.desks k d (f (a k)) a

-- ---- a step of an agent that is told
dropped_alive : (x : Option FailCause) (place : ℕ) (node : NodeState) → AreAlive node.desks → AreAlive (dropped_by x place node).desks
unfolding without_ahead
dropped_alive None place node a = a
dropped_alive (Some cause) place node a = set_alive node.desks place (record (desk_at node place) { ahead = None }) (a place) a

promoted_alive : (b : Bool) (place : ℕ) (node : NodeState) → AreAlive node.desks → AreAlive (promoted_by b place node).desks
promoted_alive false place node a = a
promoted_alive true place node a = set_alive node.desks place (promoted_desk (desk_at node place)) (a place) a

ran_less : (place : ℕ) (m : Machine) (x : Option Outcome) (o : OutboxState) → AreLiving (tell_ran place m x o).sides → AreLiving o.sides
ran_less place m None o l = l
ran_less place m (Some outcome) o l = less o.sides _ l

dead_less : (place : ℕ) (x : Option FailCause) (o : OutboxState) → AreLiving (tell_dead place x o).sides → AreLiving o.sides × (x ≡ None)
dead_less place None o l = (l, refl)
dead_less place (Some cause) o l = absurd (one_dead o.sides place cause l)

ended_less : (place : ℕ) (m : Machine) (x : Option StatusKind) (o : OutboxState) → AreLiving (tell_ended place m x o).sides → AreLiving o.sides
ended_less place m None o l = l
ended_less place m (Some status) o l = less o.sides _ l

step_less : (place : ℕ) (m : Machine) (step : AgentStep) (o : OutboxState) → AreLiving (tell_step place m step o).sides → AreLiving o.sides × (step.dead ≡ None)
unfolding tell_step
step_less place m step o l =
    let a = tell_ran place m step.ran o in
    let d = dead_less place step.dead a (ended_less place m step.ended (tell_dead place step.dead a) l) in (ran_less place m step.ran o d.0, d.1)

pub noted_known : (place : ℕ) (step : AgentStep) (s : Scene) → (AreLiving s.outbox.sides → step.dead ≡ None → AreAlive s.node.desks) → Known (noted place step s)
unfolding noted
noted_known place step s h l =
    let t = step_less place (desk_at s.node place).agent step s.outbox l in
    promoted_alive step.promoted place (dropped_by step.dead place s.node) (dropped_alive step.dead place s.node (h t.0 t.1))

lost_known : (place : ℕ) (which : Which) (s : Scene) → Known s → Known (lost_at place which s)
lost_known place which s k =
    let m = (desk_at s.node place).agent in
    let r = lost_step m which causes.Label in
    noted_known place r.0 (scene (with_agent s.node place r.1) s.outbox)
    (λ l e. let a = k l in set_alive s.node.desks place (record (desk_at s.node place) { agent = r.1 }) (lost_lives m which causes.Label (a place) e) a)

lapsed_known : (place : ℕ) (which : Which) (s : Scene) → Known s → Known (moves.lapsed_at place which s)
lapsed_known place which s k =
    let d = desk_at s.node place in
    let r = expired_desk which d in
    noted_known place r.0 (scene (with_desk s.node place r.1) s.outbox) (λ l e. let a = k l in set_alive s.node.desks place r.1 (lost_lives d.agent which causes.Timeout (a place) e) a)

-- ---- what leaves
main_known : (place peer : ℕ) (s : Scene) (r : Option LabelParts × (Layer Purpose × OutboxState)) → (AreLiving r.1.1.sides → AreLiving s.outbox.sides) → Known s → Known (main_sent place peer s.node r).1
main_known place peer s (Some label, (layer, outbox)) f k l = let a = k (f l) in set_alive s.node.desks place _ (a place) a
main_known place peer s (None, (layer, outbox)) f k l = k (f l)

ahead_known : (place peer : ℕ) (s : Scene) (r : Option LabelParts × (Layer Purpose × OutboxState)) → (AreLiving r.1.1.sides → AreLiving s.outbox.sides) → Known s → Known (ahead_sent place peer s.node r).1
ahead_known place peer s (Some label, (layer, outbox)) f k l = let a = k (f l) in set_alive s.node.desks place _ (a place) a
ahead_known place peer s (None, (layer, outbox)) f k l = k (f l)

disc_known : (place peer : ℕ) (s : Scene) (r : Option LabelParts × (Layer Purpose × OutboxState)) → (AreLiving r.1.1.sides → AreLiving s.outbox.sides) → Known s → Known (unsolicited_by place peer s.node r)
disc_known place peer s (Some label, (layer, outbox)) f k l = let a = k (f (less outbox.sides _ l)) in set_alive s.node.desks place _ (a place) a
disc_known place peer s (None, (layer, outbox)) f k l = k (f (less outbox.sides _ l))

behind_known : (place : ℕ) (login : Login) (x y : Scene) → Behind place login x y → Known x → Known y
behind_known place login _ _ (moves.loses which s e) k = lost_known place which s k
behind_known place login _ _ (moves.asks_main ask b body s e) k =
    main_known place login.node s _ (requests (λ told. AreLiving told → AreLiving s.outbox.sides) s login.node body (purposes.Agent place) (λ l. l)) k
behind_known place login _ _ (moves.asks_ahead ask body s e) k =
    ahead_known place login.node s _ (requests (λ told. AreLiving told → AreLiving s.outbox.sides) s login.node body (purposes.Agent place) (λ l. l)) k

announced_known : (unit from : ℕ) (x y : Scene) → Announced unit from x y → Known x → Known y
announced_known unit from _ _ (moves.pushes place login s e) k =
    disc_known place login.node s _ (requests (λ told. AreLiving told → AreLiving s.outbox.sides) s login.node (block_write login.fifo block) purposes.Unsolicited (λ l. l)) k
announced_known unit from _ _ (moves.withholds place login s e) k = side_more s (sides.Unsent place) k

told_cuts : (b : Bool) (place : ℕ) (cause : CutCause) (s : Scene) → Known s → Known (scene s.node (told_cut b place cause s.outbox))
told_cuts true place cause s k = k
told_cuts false place cause s k = side_more s (sides.Cut place cause) k

pub cuts_one : (cause : CutCause) (place : ℕ) (s : Scene) → Known s → Known (cut cause place s)
unfolding cut
cuts_one cause place s k =
    told_cuts (is_reset (state_in (desk_at s.node place).agent.phase)) place cause (scene (cut_node place s.node) s.outbox)
    (desk_more s place (reset_desk (desk_at s.node place)) (λ a. reset_alive (desk_at s.node place).agent) k)

left_known : (replaced : Option ℕ) (s : Scene) → Known s → Known (scene s.node (tell_left replaced s.outbox))
left_known None s k = k
left_known (Some login) s k = side_more s (sides.Left login) k

pub answers : (request : Packet) (bytes : List ℕ) (rcode : ℕ) (given : List ℕ) (s : Scene) → Known s → Known (answered request bytes rcode given s)
unfolding answer_step
answers request bytes rcode given s k = by (answering_step s.node.layer request bytes rcode given)
  where
    by : (r : List ℕ × Layer Purpose) → Known (scene (record s.node { layer = (answered_by r s.outbox (header_in request).source).0 }) (answered_by r s.outbox (header_in request).source).1)
    by (given_bytes, layer) = k

pointed_agent : (d : Desk) (pointer : OrbPointer) (x : Result Ask PointRefusal) (desk : Desk) → point_desk d pointer ≡ (x, desk) → IsAlive d.agent → IsAlive desk.agent
pointed_agent d pointer x desk e h = subst (λ (r : Result Ask PointRefusal × Desk). IsAlive r.1.agent) e (by (point_step d.agent pointer) (point_alive d.agent pointer h))
  where
    by : (r : Result Ask PointRefusal × Machine) → IsAlive r.1 → IsAlive (pointed_desk d r).1.agent
    by (Ok ask, m) h = h
    by (Err refusal, m) h = h

pub reset_desks : (desks : List Desk) → AreAlive desks → AreAlive (map disabled desks)
reset_desks desks a p = subst IsAlive (sym (map_agents desks p)) (a p)

-- ---- moves of which none is an agent's reply
abbrev pub known : Kind
known = record { Fits = λ step. Unit {0}; MayAsk = Unit {0}; MayCut = Unit {0}; MayAnnounce = Unit {0}; MayManage = Unit {0}; MayChange = ⊥; MayDecide = Unit {0}; MayAnswer = Unit {0}; MayTurn = Unit {0} }

move_known : (x y : Scene) → Move known x y → Known x → Known y
move_known _ _ (moves.notes place step s g) k = noted_known place step s (λ l e. k l)
move_known _ _ (moves.lapses place which s t) k = lapsed_known place which s k
move_known _ _ (moves.follows place login x y t q m) k = behind_known place login x y m k
move_known _ _ (moves.replies told place unit which answer disks s a) k = absurd a
move_known _ _ (moves.cuts cause place s c) k = cuts_one cause place s k
move_known _ _ (moves.opens place pointer ask desk s t e) k =
    side_more (scene (with_desk s.node place desk) s.outbox) (sides.Opened place _) (desk_more s place desk (pointed_agent (desk_at s.node place) pointer (Ok ask) desk e) k)
move_known _ _ (moves.refuses place pointer refusal desk s e) k = desk_more s place desk (pointed_agent (desk_at s.node place) pointer (Err refusal) desk e) k
move_known _ _ (moves.rings place s) k = desk_more s place _ (doorbell_alive (desk_at s.node place).agent) k
move_known _ _ (moves.enables place s) k = desk_more s place _ (λ a. a) k
move_known _ _ (moves.comes unit place s a) k = absurd a
move_known _ _ (moves.announces unit from x y q t m) k = announced_known unit from x y m k
move_known _ _ (moves.settles peer s) k = k
move_known _ _ (moves.starts source orb s a) k = k
move_known _ _ (moves.decides answer s a) k = k
move_known _ _ (moves.gives_up s a) k = k
move_known _ _ (moves.stops s a) k = k
move_known _ _ (moves.asks_for source ask body s q a e) k = λ l. k (requests (λ told. AreLiving told → AreLiving s.outbox.sides) s source body purposes.Management (λ x. x) l)
move_known _ _ (moves.enters place replaced s a) k =
    left_known replaced (scene (with_desk s.node place (record (desk_at s.node place) { pointer = None; is_enabled = false })) s.outbox) (desk_more s place _ (λ x. x) k)
move_known _ _ (moves.leaves place login s a) k = side_more (scene (left_desk place s.node) s.outbox) (sides.Left login) (desk_more s place _ (λ x. x) k)
move_known _ _ (moves.aborts place orb s) k = desk_more s place _ (abort_alive (desk_at s.node place).agent orb) k
move_known _ _ (moves.clears unit s a) k = absurd a
move_known _ _ (moves.judges generation bytes s t) k = k
move_known _ _ (moves.expires peer label s t) k = k
move_known _ _ (moves.sees generation id s t) k = k
move_known _ _ (moves.answers p bytes rcode given s t) k = answers p bytes rcode given s k
move_known _ _ (moves.tells side s t i) k = side_more s side k
move_known _ _ (moves.rests s a) k = λ l. reset_desks s.node.desks (k l)
move_known _ _ (moves.ages s a) k = k

pub goes : (x y : Scene) → Moves known x y → Known x → Known y
goes x y m k = kept (Move known) Known move_known x y m k

-- ---- the management
cuts_all : (cause : CutCause) (unit : Option ℕ) (s : Scene) → Known s → Known (cut_all cause unit s)
cuts_all cause unit s k = cuts_keep Known cuts_one cause unit s k

cuts_placed : (place : Option ℕ) (cause : CutCause) (s : Scene) → Known s → Known (cut_placed place cause s)
cuts_placed place cause s k = placed_keep Known cuts_one place cause s k

clears : (unit : ℕ) (s : Scene) → Known s → Known (clear_unit unit s)
unfolding clear_unit
clears unit s k l = k (less s.outbox.sides _ l)

clears_from : (left unit : ℕ) (s : Scene) → Known s → Known (clear_from left unit s)
unfolding clear_from
clears_from zero unit s k = k
clears_from (suc left) unit s k = clears_from left (unit + 1) (clear_unit unit s) (clears unit s k)

pick : (b : Bool) (s t : Scene) → Known s → Known t → Known (cond b s t)
pick true s t k h = k
pick false s t k h = h

effects_by : (effect : Effect) (login : ℕ) (s : Scene) → Known s → Known (effect_by effect login s)
effects_by effects.Nothing login s k = k
effects_by (effects.Entered place replaced) login s k = move_known s _ (moves.enters place replaced s tt) k
effects_by (effects.Back place) login s k = side_more s (sides.Back login) k
effects_by (effects.Left place) login s k = let t = cut_placed (place_in place) cuts.Logout s in move_known t _ (moves.leaves place login t tt) (cuts_placed (place_in place) cuts.Logout s k)
effects_by (effects.Abort place orb) login s k = move_known s _ (moves.aborts place orb s) k
effects_by (effects.AbortSet place) login s k = cuts_placed (place_in place) cuts.AbortSet s k
effects_by (effects.UnitReset unit) login s k =
    let t = cut_all cuts.UnitReset (Some unit) s in
    let h = cuts_all cuts.UnitReset (Some unit) s k in
    pick (nat_lt unit (length t.node.units)) (clear_unit unit t) t (clears unit t h) h
effects_by effects.TargetReset login s k = let t = cut_all cuts.TargetReset None s in clears_from (length t.node.units) 0 t (cuts_all cuts.TargetReset None s k)

decides : (d : Option Decision) (effect : Effect) (source : ℕ) (s : Scene) → Known s → Known (decided_by d effect source s)
unfolding decided_by
decides None effect source s k = k
decides (Some d) effect source s k = let t = effect_by effect d.subject s in side_more t (sides.Managed source d.function d.subject d.status d.login) (effects_by effect d.subject s k)

fails : (source : ℕ) (x : Option FailCause) (s : Scene) → Known s → Known (failed_by source x s)
fails source None s k = k
fails source (Some cause) s k = side_more s (sides.ManageFailed source cause) k

manages_in : (source : Option ℕ) (answer : Answer) (s : Scene) → Known s → Known (managed_in source answer s)
manages_in None answer s k = k
manages_in (Some source) answer s k =
    let r = management.reply_step s.node.manager s.node.logins s.node.keys answer in
    let t = scene (with_manager s.node r.1) s.outbox in
    let u = decided_by r.0.decided r.0.effect source t in
    let v = failed_by source r.0.failed u in
    goes v _ (ask_manager_moves known v tt tt source r.0.ask v (stay v)) (fails source r.0.failed u (decides r.0.decided r.0.effect source t k))

pub manages : (answer : Answer) (s : Scene) → Known s → Known (manage answer s)
unfolding manage
manages answer s k = manages_in (management.source_in s.node.manager.operation) answer s k
