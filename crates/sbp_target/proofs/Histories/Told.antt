-- What each call of a target tells.
use Rattle.std.proofs.Common.{arith, ◌≡◌, refl, sym, ap, ◌∙◌, subst, ℕ, zero, suc, ◌+◌, ◌==◌, ◌<◌, ◌≤◌, ◌&&◌, nat_eq, nat_lt, not, Bool, true, false, cond, List, [], ◌∷◌, ◌++◌, length, map, take, drop, append_assoc, append-nil, slice_index_or, slice_set, Option, Some, None, Result, Ok, Err}
use Rattle.std.proofs.lemmas.Grind.{common_steps}
use Rattle.std.proofs.lemmas.Bool.Decides.{nat_tests}
use Rattle.std.proofs.lemmas.List.{set-get_or, set_past}
use Rattle.byteorder.specs.Endian.{big_bytes}
use Rattle.async_packet.specs.Labels.{LabelParts}
use Rattle.async_packet.specs.Packet.{Packet, header_in}
use Rattle.label_table.specs.declared.reply.Stale.{Stale}
use Rattle.label_table.specs.Bodies.{block_write}
use Rattle.label_table.specs.declared.judgement.Asked.{Asked}
use Rattle.label_table.specs.Layer.{Layer, Finding, of_generation, of_grammar, of_label, of_response, of_again, of_request, asking_step, judging_step, expiring_step, seeing_step, seen_in_generation}
use Rattle.label_table.specs.History as wire
use Rattle.login_table.specs.declared.login.Login.{Login}
use Rattle.login_table.specs.Table.{Table, is_live, place_at, expired_ids}
use Rattle.media_bay.specs.Unsolicited.{block}
use Rattle.orb_layout.specs.declared.ask.Ask.{Ask}
use Rattle.orb_layout.specs.declared.pointer.OrbPointer.{OrbPointer}
use Rattle.orb_layout.specs.declared.pointer.OrbPointer.TheVariants as pointers
use Rattle.orb_layout.specs.Replies.{Answer, Expired}
use Rattle.rbc_disk.specs.Disk.{Disk, disk_at}
use Rattle.rbc_disk.specs.Runs.{Told}
use Rattle.command_agent.specs.declared.step.AgentStep.{AgentStep}
use Rattle.command_agent.specs.declared.step.AgentState.{AgentState}
use Rattle.command_agent.specs.declared.step.AgentState.TheVariants as states
use Rattle.command_agent.specs.declared.step.Which.{Which}
use Rattle.command_agent.specs.declared.step.Which.TheVariants.{Main, Ahead}
use Rattle.command_agent.specs.Machine.{Machine, aligned, present_of, state_in}
use Rattle.command_agent.specs.Steps.{asks, fetch_step, is_reset, point_in, point_step, doorbell_step, reply_step}
use Rattle.mgmt_agent.specs.declared.decision.Decision.{Decision}
use Rattle.mgmt_agent.specs.declared.decision.Effect.{Effect}
use Rattle.mgmt_agent.specs.declared.decision.Effect.TheVariants as effects
use Rattle.mgmt_agent.specs.declared.decision.ManagerStep.{ManagerStep}
use Rattle.mgmt_agent.specs.declared.operation.Busy.{Busy}
use Rattle.mgmt_agent.specs.declared.operation.Operation.{Operation}
use Rattle.mgmt_agent.specs.declared.operation.Phase.{Phase}
use Rattle.mgmt_agent.specs.declared.operation.Phase.TheVariants as steps
use Rattle.mgmt_agent.specs.Machine as management
use Rattle.sbp_journal.specs.declared.cause.CutCause.{CutCause}
use Rattle.sbp_journal.specs.declared.cause.CutCause.TheVariants as cuts
use Rattle.sbp_journal.specs.declared.cause.Cause.TheVariants as ignored
use Rattle.sbp_journal.specs.declared.cause.Judged.{Judged}
use Rattle.sbp_journal.specs.declared.cause.Judged.TheVariants as judged
use Rattle.sbp_journal.specs.declared.outbox.Outgoing.{Outgoing}
use Rattle.sbp_journal.specs.declared.side.Side.{Side}
use Rattle.sbp_journal.specs.declared.side.Side.TheVariants as sides
use Rattle.sbp_journal.specs.Outgoings.{OutboxState, empty_outbox}
use Rattle.target_base.specs.declared.address.Access.{Access}
use Rattle.target_base.specs.declared.address.Access.TheVariants as accesses
use Rattle.target_base.specs.declared.address.Demand.{Demand}
use Rattle.target_base.specs.declared.address.Demand.TheVariants as demands
use Rattle.sbp_target.specs.declared.desk.Desk.{Desk}
use Rattle.sbp_target.specs.declared.purpose.Purpose.{Purpose}
use Rattle.sbp_target.specs.declared.purpose.Purpose.TheVariants as purposes
use Rattle.target_base.specs.Addresses.{complete, conflict_error, data_error, address_error, demand_of}
use Rattle.sbp_target.specs.Desks.{expired_desk, new_desk, pointed_desk, taken, which_in}
use Rattle.sbp_target.specs.Sending.{request_step, sent_by, with_side}
use Rattle.sbp_target.specs.Telling.{orb_of}
use Rattle.sbp_target.specs.Nodes.{NodeState, Scene, scene, desk_at, login_at, with_desk, with_agent}
use Rattle.sbp_target.specs.Agents.{told_cut, cut, follow}
use Rattle.sbp_target.specs.Units.{is_cut, cut_at, cut_from, cut_all, clear_unit, clear_from, hears, is_pending, unsolicited_by, announce_to, announce_in, announce_at, announce_from}
use Rattle.sbp_target.specs.Replies.{Stage, stage, Whole, whole, scene_of, plain_at, came, changed_by, announced_by, follow_all, advanced_with, advance, replied_with, replied, served_login, replied_by, replied_to}
use Rattle.sbp_target.specs.Management.{cut_placed, cut_place, tell_left, tell_failed, effect_by, decided_by, with_manager, managed_with, managed_in, manage}
use Rattle.sbp_target.specs.Serving.{answered, state_number, last_pointer, pointer_bytes, asked_in, pointed_by, point, rung_by, ring, enabled, accessed_by, started_by, start, served_as, serve, is_barred}
use Rattle.sbp_target.specs.Serving as serving
use Rattle.sbp_target.specs.Receiving.{answer_in, concluded, judged_scene, with_layer, received_as, received, expired_with, expired_by, expire_agent, timed_out, expired_in, expired, tell_held, held_from, cleared_node, reset_by, seen, expired_from, ticked}
use Rattle.sbp_target.specs.Calls.{receives, lets_expire, sees, ticks, alone}
use Rattle.sbp_target.specs.Histories.Layers.{first_of, layer_after, packets_of, request}
use Rattle.sbp_target.specs.Histories.Sides.{is_change, ArePlain, AreFirst, told_from, by_place, cut_in, cut_of, of_unit, cut_for, held_login, reset_changes, left_for, of_place, cleared_of, effect_changes, decision_changes, step_tells, operation_tells, opened_in, demand_changes, request_changes, Announced, unsent_then, announced_as, announced_to, announced_at, announced_from, Announces, agent_tells, reply_tells, delivery_tells, SideLaw}
use Rattle.label_table.proofs.Owned.{set_at}
use Rattle.sbp_target.proofs.Histories.Answered.{answer_untold}
use Rattle.sbp_target.proofs.Histories.Made.{Made, made_keeps, judged_made}
use Rattle.sbp_target.proofs.Histories.Pass.{follows}
use Rattle.sbp_target.proofs.Histories.Framed as framed
use Rattle.sbp_target.proofs.Histories.Found.{IsFound, found}
use Rattle.sbp_target.proofs.Histories.Quiet.{Tells, failed_in, follows_in, asks_manager_in}

-- ---- plain sides behind others
plain_more : (told : List Side) (side : Side) → ArePlain told → is_change side ≡ false → ArePlain (told ++ side ∷ [])
plain_more [] side p e = (e, tt)
plain_more (first ∷ told) side p e = (p.0, plain_more told side p.1 e)

pub plain_tells : Tells ArePlain
plain_tells = record { tells = λ told side e p. plain_more told side p e }

first_more : (changes told : List Side) (side : Side) → is_change side ≡ false → AreFirst changes told → AreFirst changes (told ++ side ∷ [])
first_more changes told side e f = record {
  more = f.more ++ side ∷ [];
  plain = plain_more f.more side f.plain e;
  told_is = ap (λ (t : List Side). t ++ side ∷ []) f.told_is ∙ append_assoc changes f.more (side ∷ []);
}

first_tells : (changes : List Side) → Tells (AreFirst changes)
first_tells changes = record { tells = first_more changes }

begins : (changes told : List Side) → told ≡ changes → AreFirst changes told
begins changes told e = record { more = []; plain = tt; told_is = e ∙ sym (append-nil changes) }

-- ---- cuts
told_cut_is : (state : AgentState) (place : ℕ) (cause : CutCause) (o : OutboxState) → (told_cut (is_reset state) place cause o).sides ≡ o.sides ++ cut_in state cause place
told_cut_is states.Reset place cause o = sym (append-nil o.sides)
told_cut_is states.Active place cause o = refl
told_cut_is states.Suspended place cause o = refl
told_cut_is states.Dead place cause o = refl

pub cut_tells : (cause : CutCause) (place : ℕ) (s : Scene) → (cut cause place s).outbox.sides ≡ s.outbox.sides ++ cut_of cause s.node place
unfolding cut
cut_tells cause place s = told_cut_is (state_in (desk_at s.node place).agent.phase) place cause s.outbox

-- a cut leaves the other desks
cut_beside : (cause : CutCause) (place other : ℕ) (s : Scene) → place < other → desk_at (cut cause place s).node other ≡ desk_at s.node other
unfolding cut
cut_beside cause place other s h = grind (arith, common_steps, set-get_or)

cut_logins : (cause : CutCause) (place : ℕ) (s : Scene) → (cut cause place s).node.logins ≡ s.node.logins
unfolding cut
cut_logins cause place s = refl

cut_units : (cause : CutCause) (place : ℕ) (s : Scene) → (cut cause place s).node.units ≡ s.node.units
unfolding cut
cut_units cause place s = refl

-- as before, from a place on
record Same (before now : NodeState) (from : ℕ) : Type 0 where
  logins : now.logins ≡ before.logins
  units : now.units ≡ before.units
  desks : (place : ℕ) → from ≤ place → desk_at now place ≡ desk_at before place

abbrev cut_some : CutCause → Option ℕ → NodeState → ℕ → List Side
cut_some cause None node place = cut_of cause node place
cut_some cause (Some unit) node place = cut_for cause unit node place

one_cut : (b : Bool) (cause : CutCause) (place : ℕ) (s : Scene) (before : NodeState) → Same before s.node place → (cond b (cut cause place s) s).outbox.sides ≡ s.outbox.sides ++ cond b (cut_of cause before place) []
one_cut true cause place s before h =
    cut_tells cause place s ∙ ap (λ (d : Desk). s.outbox.sides ++ cut_in (state_in d.agent.phase) cause place) (h.desks place (omega arith))
one_cut false cause place s before h = sym (append-nil s.outbox.sides)

some_cut : (unit : Option ℕ) (login : Option Login) (cause : CutCause) (node : NodeState) (place : ℕ) → login_at node place ≡ login → cond (is_cut unit login) (cut_of cause node place) [] ≡ cut_some cause unit node place
some_cut None login cause node place e = refl
some_cut (Some unit) None cause node place e = ap (λ (l : Option Login). of_unit unit l (cut_of cause node place)) (sym e)
some_cut (Some unit) (Some login) cause node place e = ap (λ (l : Option Login). of_unit unit l (cut_of cause node place)) (sym e)

cut_one : (unit : Option ℕ) (cause : CutCause) (place : ℕ) (s : Scene) (before : NodeState) → Same before s.node place → (cut_at cause unit place s).outbox.sides ≡ s.outbox.sides ++ cut_some cause unit before place
unfolding cut_at
cut_one unit cause place s before h =
    one_cut (is_cut unit (login_at s.node place)) cause place s before h
    ∙ ap (λ (t : Table). s.outbox.sides ++ cond (is_cut unit (place_at t.places place)) (cut_of cause before place) []) h.logins
    ∙ ap (λ (t : List Side). s.outbox.sides ++ t) (some_cut unit (login_at before place) cause before place refl)

same_after_if : (b : Bool) (cause : CutCause) (place : ℕ) (s : Scene) (before : NodeState) → Same before s.node place → Same before (cond b (cut cause place s) s).node (place + 1)
same_after_if true cause place s before h = record {
  logins = cut_logins cause place s ∙ h.logins;
  units = cut_units cause place s ∙ h.units;
  desks = λ other b. cut_beside cause place other s (omega arith) ∙ h.desks other (omega arith);
}
same_after_if false cause place s before h = record { logins = h.logins; units = h.units; desks = λ other b. h.desks other (omega arith) }

same_after_cut : (unit : Option ℕ) (cause : CutCause) (place : ℕ) (s : Scene) (before : NodeState) → Same before s.node place → Same before (cut_at cause unit place s).node (place + 1)
unfolding cut_at
same_after_cut unit cause place s before h = same_after_if (is_cut unit (login_at s.node place)) cause place s before h

cuts_tell : (left place : ℕ) (cause : CutCause) (unit : Option ℕ) (s : Scene) (before : NodeState) → Same before s.node place → (cut_from left place cause unit s).outbox.sides ≡ s.outbox.sides ++ told_from (cut_some cause unit before) left place
unfolding cut_from
cuts_tell zero place cause unit s before h = sym (append-nil s.outbox.sides)
cuts_tell (suc left) place cause unit s before h =
    cuts_tell left (place + 1) cause unit (cut_at cause unit place s) before (same_after_cut unit cause place s before h)
    ∙ ap (λ (t : List Side). t ++ told_from (cut_some cause unit before) left (place + 1)) (cut_one unit cause place s before h)
    ∙ append_assoc s.outbox.sides (cut_some cause unit before place) (told_from (cut_some cause unit before) left (place + 1))

same_self : (node : NodeState) → Same node node 0
same_self node = record { logins = refl; units = refl; desks = λ place b. refl }

cut_kept : (left place : ℕ) (cause : CutCause) (unit : Option ℕ) (s : Scene) (before : NodeState) → Same before s.node place → Same before (cut_from left place cause unit s).node (place + left)
unfolding cut_from
cut_kept zero place cause unit s before h = record { logins = h.logins; units = h.units; desks = λ other b. h.desks other (omega arith) }
cut_kept (suc left) place cause unit s before h =
    let m = cut_kept left (place + 1) cause unit (cut_at cause unit place s) before (same_after_cut unit cause place s before h) in
    record { logins = m.logins; units = m.units; desks = λ other b. m.desks other (omega arith) }

-- ---- holds
held_if : (b : Bool) (login : Login) (o : OutboxState) → (cond b (with_side o (sides.Held login.login)) o).sides ≡ o.sides ++ cond b (sides.Held login.login ∷ []) []
held_if true login o = refl
held_if false login o = sym (append-nil o.sides)

held_one : (login : Option Login) (o : OutboxState) → (tell_held login o).sides ≡ o.sides ++ held_login login
held_one None o = sym (append-nil o.sides)
held_one (Some login) o = held_if (is_live login) login o

holds_tell : (left place : ℕ) (places : List (Option Login)) (o : OutboxState) → (held_from left place places o).sides ≡ o.sides ++ told_from (λ at. held_login (place_at places at)) left place
unfolding held_from
holds_tell zero place places o = sym (append-nil o.sides)
holds_tell (suc left) place places o =
    holds_tell left (place + 1) places (tell_held (place_at places place) o)
    ∙ ap (λ (t : List Side). t ++ told_from (λ at. held_login (place_at places at)) left (place + 1)) (held_one (place_at places place) o)
    ∙ append_assoc o.sides (held_login (place_at places place)) (told_from (λ at. held_login (place_at places at)) left (place + 1))

sights_by : (b : Bool) (layer other : Layer Purpose) (node : NodeState) → (reset_by (cond b (true, layer) (false, other)) (scene node empty_outbox)).1.outbox.sides ≡ cond b (reset_changes node) []
sights_by false layer other node = refl
sights_by true layer other node =
    let s = scene (cleared_node layer node) empty_outbox in
    let t = cut_all cuts.Reset None s in
    let kept = cut_kept 8 0 cuts.Reset None s s.node (same_self s.node) in
    holds_tell 8 0 t.node.logins.places t.outbox
    ∙ ap (λ (told : List Side). told ++ told_from (λ at. held_login (place_at t.node.logins.places at)) 8 0) (cuts_tell 8 0 cuts.Reset None s s.node (same_self s.node))
    ∙ ap (λ (l : Table). by_place (cut_of cuts.Reset node) ++ told_from (λ at. held_login (place_at l.places at)) 8 0) kept.logins

sights_tell : (generation id : ℕ) (node : NodeState) → (alone (sees generation id) node).outbox.sides ≡ cond (nat_lt node.layer.generation generation) (reset_changes node) []
unfolding seen seeing_step
sights_tell generation id node = sights_by (nat_lt node.layer.generation generation) (seen_in_generation node.layer generation id) node.layer node

-- ---- seconds
seconds_from : (xs ys : List ℕ) (at : ℕ) (o : OutboxState) → ((n : ℕ) → slice_index_or ys (at + n) 0 ≡ slice_index_or xs n 0) → (expired_from (length xs) at ys o).sides ≡ o.sides ++ map (λ login. sides.Expired login) xs
unfolding expired_from
seconds_from [] ys at o h = sym (append-nil o.sides)
seconds_from (x ∷ xs) ys at o h =
    let here : slice_index_or ys at 0 ≡ x = let e = h 0 in grind (arith, common_steps) in
    seconds_from xs ys (at + 1) (with_side o (sides.Expired (slice_index_or ys at 0))) (λ n. let e = h (suc n) in grind (arith, common_steps))
    ∙ append_assoc o.sides (sides.Expired (slice_index_or ys at 0) ∷ []) (map (λ login. sides.Expired login) xs)
    ∙ ap (λ (login : ℕ). o.sides ++ sides.Expired login ∷ map (λ login. sides.Expired login) xs) here

seconds_tell : (node : NodeState) → (alone ticks node).outbox.sides ≡ map (λ login. sides.Expired login) (expired_ids node.logins.places)
unfolding ticked
seconds_tell node =
    let ids = expired_ids node.logins.places in
    seconds_from ids ids 0 empty_outbox (λ n. ap (λ (k : ℕ). slice_index_or ids k 0) (zero_plus n))
  where
    zero_plus : (n : ℕ) → 0 + n ≡ n
    zero_plus n = omega arith

-- ---- effects of a decision
clear_tells : (unit : ℕ) (s : Scene) → (clear_unit unit s).outbox.sides ≡ s.outbox.sides ++ cleared_of unit
unfolding clear_unit
clear_tells unit s = refl

clears_tell : (left unit : ℕ) (s : Scene) → (clear_from left unit s).outbox.sides ≡ s.outbox.sides ++ told_from cleared_of left unit
unfolding clear_from
clears_tell zero unit s = sym (append-nil s.outbox.sides)
clears_tell (suc left) unit s =
    clears_tell left (unit + 1) (clear_unit unit s)
    ∙ ap (λ (t : List Side). t ++ told_from cleared_of left (unit + 1)) (clear_tells unit s)
    ∙ append_assoc s.outbox.sides (cleared_of unit) (told_from cleared_of left (unit + 1))

clear_if : (b : Bool) (unit : ℕ) (s : Scene) → (cond b (clear_unit unit s) s).outbox.sides ≡ s.outbox.sides ++ cond b (cleared_of unit) []
clear_if true unit s = clear_tells unit s
clear_if false unit s = sym (append-nil s.outbox.sides)

placed_if : (b : Bool) (place : ℕ) (cause : CutCause) (s : Scene) → (cut_placed (cond b (Some place) None) cause s).outbox.sides ≡ s.outbox.sides ++ cond b (cut_of cause s.node place) []
placed_if true place cause s = cut_tells cause place s
placed_if false place cause s = sym (append-nil s.outbox.sides)

placed_tells : (place : ℕ) (cause : CutCause) (s : Scene) → (cut_place place cause s).outbox.sides ≡ s.outbox.sides ++ of_place place (cut_of cause s.node place)
placed_tells place cause s = placed_if (nat_lt place 8) place cause s

left_tells : (login : Option ℕ) (o : OutboxState) → (tell_left login o).sides ≡ o.sides ++ left_for login
left_tells None o = sym (append-nil o.sides)
left_tells (Some login) o = refl

effects_tell : (effect : Effect) (subject : ℕ) (s : Scene) → (effect_by effect subject s).outbox.sides ≡ s.outbox.sides ++ effect_changes effect subject s.node
effects_tell effects.Nothing subject s = sym (append-nil s.outbox.sides)
effects_tell (effects.Entered place replaced) subject s = left_tells replaced s.outbox
effects_tell (effects.Back place) subject s = refl
effects_tell (effects.Left place) subject s =
    ap (λ (t : List Side). t ++ sides.Left subject ∷ []) (placed_tells place cuts.Logout s)
    ∙ append_assoc s.outbox.sides (of_place place (cut_of cuts.Logout s.node place)) (sides.Left subject ∷ [])
effects_tell (effects.Abort place orb) subject s = sym (append-nil s.outbox.sides)
effects_tell (effects.AbortSet place) subject s = placed_tells place cuts.AbortSet s
effects_tell (effects.UnitReset unit) subject s =
    let t = cut_all cuts.UnitReset (Some unit) s in
    let kept = cut_kept 8 0 cuts.UnitReset (Some unit) s s.node (same_self s.node) in
    let behind = cond (nat_lt unit (length s.node.units)) (cleared_of unit) [] in
    clear_if (nat_lt unit (length t.node.units)) unit t
    ∙ ap (λ (n : ℕ). t.outbox.sides ++ cond (nat_lt unit n) (cleared_of unit) []) (ap (λ us. length us) kept.units)
    ∙ ap (λ (told : List Side). told ++ behind) (cuts_tell 8 0 cuts.UnitReset (Some unit) s s.node (same_self s.node))
    ∙ append_assoc s.outbox.sides (by_place (cut_for cuts.UnitReset unit s.node)) behind
effects_tell effects.TargetReset subject s =
    let t = cut_all cuts.TargetReset None s in
    let kept = cut_kept 8 0 cuts.TargetReset None s s.node (same_self s.node) in
    let behind = told_from cleared_of (length s.node.units) 0 in
    clears_tell (length t.node.units) 0 t
    ∙ ap (λ (n : ℕ). t.outbox.sides ++ told_from cleared_of n 0) (ap (λ us. length us) kept.units)
    ∙ ap (λ (told : List Side). told ++ behind) (cuts_tell 8 0 cuts.TargetReset None s s.node (same_self s.node))
    ∙ append_assoc s.outbox.sides (by_place (cut_of cuts.TargetReset s.node)) behind

-- ---- the management operation
decided_tells : (d : Option Decision) (effect : Effect) (source : ℕ) (s : Scene) → s.outbox.sides ≡ [] → AreFirst (decision_changes d effect s.node) (decided_by d effect source s).outbox.sides
unfolding decided_by
decided_tells None effect source s e = begins [] s.outbox.sides e
decided_tells (Some d) effect source s e = record {
  more = sides.Managed source d.function d.subject d.status d.login ∷ [];
  plain = (refl, tt);
  told_is = ap (λ (t : List Side). t ++ sides.Managed source d.function d.subject d.status d.login ∷ []) (effects_tell effect d.subject s ∙ ap (λ (t : List Side). t ++ effect_changes effect d.subject s.node) e);
}

step_tells_all : (source : ℕ) (s : Scene) (r : ManagerStep × (management.Machine × Table)) → s.outbox.sides ≡ [] → step_tells r s.node (managed_with source s r).outbox.sides
step_tells_all source s (step, (manager, logins)) e =
    let u = scene (with_manager s.node (manager, logins)) s.outbox in
    let changes = decision_changes step.decided step.effect u.node in
    let t = decided_by step.decided step.effect source u in
    asks_manager_in (AreFirst changes) (first_tells changes) source step.ask (scene t.node (tell_failed source step.failed t.outbox))
    (failed_in (AreFirst changes) (first_tells changes) source step.failed t.outbox (decided_tells step.decided step.effect source u e))

operation_tells_in : (source : Option ℕ) (answer : Answer) (s : Scene) → s.outbox.sides ≡ [] → operation_tells source answer s.node (managed_in source answer s).outbox.sides
operation_tells_in None answer s e = e
operation_tells_in (Some source) answer s e = step_tells_all source s (management.reply_step s.node.manager s.node.logins s.node.keys answer) e

operation_tells_all : (answer : Answer) (s : Scene) → s.outbox.sides ≡ [] → operation_tells (management.source_in s.node.manager.operation) answer s.node (manage answer s).outbox.sides
unfolding manage
operation_tells_all answer s e = operation_tells_in (management.source_in s.node.manager.operation) answer s e

-- ---- a request
asks_in_in : (P : List Side → Type 0) (k : Tells P) (place : ℕ) (ask : Ask) (login : Option Login) (s : Scene) → P s.outbox.sides → P (asked_in place ask login s).outbox.sides
asks_in_in P k place ask None s h = h
asks_in_in P k place ask (Some login) s h = follows_in P k place login (asks ask) s h

module _ (p : Packet) (bytes : List ℕ) where
  untold : (changes : List Side) (rcode : ℕ) (given : List ℕ) (s : Scene) → s.outbox.sides ≡ changes → AreFirst changes (answered p bytes rcode given s).outbox.sides
  untold changes rcode given s e = begins changes (answered p bytes rcode given s).outbox.sides (answer_untold p bytes rcode given s ∙ e)

  opens : (place next : ℕ) (ask : Ask) (desk : Desk) (s : Scene) → s.outbox.sides ≡ [] → orb_of desk.agent ≡ aligned next → AreFirst (sides.Opened place (aligned next) ∷ []) (pointed_by place p bytes (Ok ask, desk) s).outbox.sides
  opens place next ask desk s e o =
      let changes = sides.Opened place (aligned next) ∷ [] in
      let t = scene (with_desk s.node place desk) (with_side s.outbox (sides.Opened place (orb_of desk.agent))) in
      let u = answered p bytes complete [] t in
      let told : t.outbox.sides ≡ changes = ap (λ (x : List Side). x ++ sides.Opened place (orb_of desk.agent) ∷ []) e ∙ ap (λ (orb : ℕ). sides.Opened place orb ∷ []) o in
      asks_in_in (AreFirst changes) (first_tells changes) place ask (login_at u.node place) u (untold changes complete [] t told)

  points_by : (state : AgentState) (place : ℕ) (pointer : OrbPointer) (d : Desk) (s : Scene) → s.outbox.sides ≡ [] → AreFirst (opened_in state place pointer) (pointed_by place p bytes (pointed_desk d (point_in state d.agent pointer)) s).outbox.sides
  points_by states.Reset place pointers.Null d s e = untold [] data_error [] (scene (with_desk s.node place d) s.outbox) e
  points_by states.Reset place (pointers.At next) d s e =
      let m = (fetch_step d.agent next).1 in opens place next (fetch_step d.agent next).0.ask (record d { agent = m; pointer = present_of m }) s e refl
  points_by states.Suspended place pointers.Null d s e = untold [] data_error [] (scene (with_desk s.node place d) s.outbox) e
  points_by states.Suspended place (pointers.At next) d s e =
      let m = (fetch_step d.agent next).1 in opens place next (fetch_step d.agent next).0.ask (record d { agent = m; pointer = present_of m }) s e refl
  points_by states.Active place pointer d s e = untold [] conflict_error [] (scene (with_desk s.node place d) s.outbox) e
  points_by states.Dead place pointer d s e = untold [] conflict_error [] (scene (with_desk s.node place d) s.outbox) e

  points : (place : ℕ) (pointer : OrbPointer) (s : Scene) → s.outbox.sides ≡ [] → AreFirst (opened_in (state_in (desk_at s.node place).agent.phase) place pointer) (point place pointer p bytes s).outbox.sides
  unfolding point point_step
  points place pointer s e = points_by (state_in (desk_at s.node place).agent.phase) place pointer (desk_at s.node place) s e

  rings_by : (place : ℕ) (r : Ask × Machine) (s : Scene) → s.outbox.sides ≡ [] → AreFirst [] (rung_by place p bytes r s).outbox.sides
  rings_by place (ask, m) s e =
      let t = scene (with_agent s.node place m) s.outbox in
      let u = answered p bytes complete [] t in
      asks_in_in (AreFirst []) (first_tells []) place ask (login_at u.node place) u (untold [] complete [] t e)

  rings : (place : ℕ) (s : Scene) → s.outbox.sides ≡ [] → AreFirst [] (ring place p bytes s).outbox.sides
  unfolding ring
  rings place s e = rings_by place (doorbell_step (desk_at s.node place).agent) s e

  starts_by : (source : ℕ) (r : Result Ask Busy × management.Machine) (s : Scene) → s.outbox.sides ≡ [] → AreFirst [] (started_by source p bytes r s).outbox.sides
  starts_by source (Ok ask, m) s e =
      let t = scene (record s.node { manager = m }) s.outbox in
      asks_manager_in (AreFirst []) (first_tells []) source ask (answered p bytes complete [] t) (untold [] complete [] t e)
  starts_by source (Err busy, m) s e = untold [] conflict_error [] (scene (record s.node { manager = m }) s.outbox) e

  starts : (orb : ℕ) (s : Scene) → s.outbox.sides ≡ [] → AreFirst [] (start orb p bytes s).outbox.sides
  unfolding start
  starts orb s e = starts_by (header_in p).source (management.start_step s.node.manager (header_in p).source orb) s e

  accesses_by : (access : Access) (place : ℕ) (s : Scene) → s.outbox.sides ≡ [] → AreFirst (demand_changes (demands.Agent place access) s.node) (accessed_by access place p bytes s).outbox.sides
  accesses_by accesses.State place s e = untold [] complete (big_bytes 4 (state_number (state_in (desk_at s.node place).agent.phase))) s e
  accesses_by accesses.Reset place s e =
      untold (cut_of cuts.AgentReset s.node place) complete [] (cut cuts.AgentReset place s)
      (cut_tells cuts.AgentReset place s ∙ ap (λ (t : List Side). t ++ cut_of cuts.AgentReset s.node place) e)
  accesses_by (accesses.Point pointer) place s e = points place pointer s e
  accesses_by accesses.Pointer place s e = untold [] complete (pointer_bytes (last_pointer (desk_at s.node place).pointer)) s e
  accesses_by accesses.Ring place s e = rings place s e
  accesses_by accesses.Enable place s e = untold [] complete [] (enabled place s) e

  demands_tell : (demand : Demand) (s : Scene) → s.outbox.sides ≡ [] → AreFirst (demand_changes demand s.node) (served_as demand p bytes s).outbox.sides
  demands_tell (demands.Refused rcode) s e = untold [] rcode [] s e
  demands_tell (demands.Rom at len) s e = untold [] complete (take len (drop at s.node.rom)) s e
  demands_tell (demands.Manage orb) s e = starts orb s e
  demands_tell (demands.Agent place access) s e = accesses_by access place s e

  serves_tell : (s : Scene) → s.outbox.sides ≡ [] → AreFirst (demand_changes (demand_of (length s.node.rom) p) s.node) (serve p bytes s).outbox.sides
  unfolding serve
  serves_tell s e = demands_tell (demand_of (length s.node.rom) p) s e

  request_if : (b : Bool) (x y : Judged) (s : Scene) → s.outbox.sides ≡ [] → AreFirst (request_changes b p s.node) (cond {A = Judged × Scene} b (x, answered p bytes address_error [] s) (y, serve p bytes s)).1.outbox.sides
  request_if true x y s e = untold [] address_error [] s e
  request_if false x y s e = serves_tell s e

  request_tells : (s : Scene) → s.outbox.sides ≡ [] → AreFirst (request_changes (is_barred s.node p) p s.node) (serving.request_step p bytes s).1.outbox.sides
  unfolding serving.request_step
  request_tells s e = request_if (is_barred s.node p) (judged.Ignored ignored.Login) judged.Got s e

-- ---- a delivery: what it says is read off the target before its transaction was closed
same_effect : (effect : Effect) (subject : ℕ) (node : NodeState) (layer : Layer Purpose) (r : management.Machine × Table) → effect_changes effect subject (with_manager (record node { layer = layer }) r) ≡ effect_changes effect subject (with_manager node r)
same_effect effects.Nothing subject node layer (m, t) = refl
same_effect (effects.Entered place replaced) subject node layer (m, t) = refl
same_effect (effects.Back place) subject node layer (m, t) = refl
same_effect (effects.Left place) subject node layer (m, t) = refl
same_effect (effects.Abort place orb) subject node layer (m, t) = refl
same_effect (effects.AbortSet place) subject node layer (m, t) = refl
same_effect (effects.UnitReset unit) subject node layer (m, t) = refl
same_effect effects.TargetReset subject node layer (m, t) = refl

same_decision : (d : Option Decision) (effect : Effect) (node : NodeState) (layer : Layer Purpose) (r : management.Machine × Table) → decision_changes d effect (with_manager (record node { layer = layer }) r) ≡ decision_changes d effect (with_manager node r)
same_decision None effect node layer r = refl
same_decision (Some d) effect node layer r = same_effect effect d.subject node layer r

same_step : (r : ManagerStep × (management.Machine × Table)) (node : NodeState) (layer : Layer Purpose) (told : List Side) → step_tells r (record node { layer = layer }) told → step_tells r node told
same_step (step, (manager, logins)) node layer told h =
    subst (λ (changes : List Side). AreFirst changes told) (same_decision step.decided step.effect node layer (manager, logins)) h

same_operation : (source : Option ℕ) (answer : Answer) (node : NodeState) (layer : Layer Purpose) (told : List Side) → operation_tells source answer (record node { layer = layer }) told → operation_tells source answer node told
same_operation None answer node layer told h = h
same_operation (Some source) answer node layer told h = same_step (management.reply_step node.manager node.logins node.keys answer) node layer told h

-- ---- a reply to an agent
-- what a disc's announcement reads is as before
pub record Apart (before now : NodeState) : Type 0 where
  pub logins : now.logins ≡ before.logins
  pub pending : now.pending ≡ before.pending
  pub enabled : (place : ℕ) → (desk_at now place).is_enabled ≡ (desk_at before place).is_enabled

set_past_at : (desks : List Desk) (place other : ℕ) (d : Desk) → length desks ≤ place → slice_index_or (slice_set desks place d) other new_desk ≡ slice_index_or desks other new_desk
set_past_at desks place other d h = ap (λ (ds : List Desk). slice_index_or ds other new_desk) (set_past desks place d h)

desk_enabled_in : (b : Bool) (node : NodeState) (place other : ℕ) (d : Desk) → nat_lt place (length node.desks) ≡ b → d.is_enabled ≡ (desk_at node place).is_enabled → (desk_at (with_desk node place d) other).is_enabled ≡ (desk_at node other).is_enabled
desk_enabled_in true node place other d i e =
    let below : place < length node.desks = grind (arith, nat_tests) in
    ap (λ (x : Desk). x.is_enabled) (set_at node.desks place other d new_desk below)
    ∙ same_place (nat_eq other place) refl
  where
    same_place : (c : Bool) → nat_eq other place ≡ c → (cond c d (desk_at node other)).is_enabled ≡ (desk_at node other).is_enabled
    same_place true f = let same : other ≡ place = grind (arith, nat_tests) in e ∙ ap (λ (k : ℕ). (desk_at node k).is_enabled) (sym same)
    same_place false f = refl
desk_enabled_in false node place other d i e =
    let beyond : length node.desks ≤ place = grind (arith, nat_tests) in ap (λ (x : Desk). x.is_enabled) (set_past_at node.desks place other d beyond)

desk_enabled : (node : NodeState) (place other : ℕ) (d : Desk) → d.is_enabled ≡ (desk_at node place).is_enabled → (desk_at (with_desk node place d) other).is_enabled ≡ (desk_at node other).is_enabled
desk_enabled node place other d e = desk_enabled_in (nat_lt place (length node.desks)) node place other d refl e

pub keeps_apart : (before : NodeState) → framed.Keeps (Apart before)
keeps_apart before = record {
  layers = λ node layer h. record { logins = h.logins; pending = h.pending; enabled = h.enabled };
  desks = λ node place d e h. record { logins = h.logins; pending = h.pending; enabled = λ other. desk_enabled node place other d e ∙ h.enabled other };
}

-- ---- what is announced, place by place
pub record Tells_on (before : NodeState) (s : Scene) (from : ℕ) : Type 0 where
  pub logins : s.node.logins ≡ before.logins
  pub enabled : (place : ℕ) → from ≤ place → (desk_at s.node place).is_enabled ≡ (desk_at before place).is_enabled

-- the sides and packets behind those of a scene are these
pub record Adds (s t : Scene) (more : Announced) : Type 0 where
  pub told_is : t.outbox.sides ≡ s.outbox.sides ++ more.0
  pub packets_are : t.outbox.packets ≡ s.outbox.packets ++ more.1

-- what was announced of a place, and what is told behind it
record Announces_at (before : NodeState) (s t : Scene) (place : ℕ) (at : (Layer Purpose → List ℕ → Announced) → Announced) : Type 0 where
  on : Tells_on before t (place + 1)
  more : (u : Scene) (rest : Layer Purpose → List ℕ → Announced) → Adds t u (rest t.node.layer t.node.pending) → Adds s u (at rest)

unsent_adds : (before : NodeState) (s : Scene) (place : ℕ) (layer : Layer Purpose) → Tells_on before s place → Announces_at before s (scene (record s.node { layer = layer }) (with_side s.outbox (sides.Unsent place))) place (λ rest. unsent_then place (rest layer s.node.pending))
unsent_adds before s place layer o = record {
  on = record { logins = o.logins; enabled = λ p b. o.enabled p (omega arith) };
  more = λ u rest a. record {
    told_is = a.told_is ∙ append_assoc s.outbox.sides (sides.Unsent place ∷ []) (rest layer s.node.pending).0;
    packets_are = a.packets_are;
  };
}

beside_place : (node : NodeState) (layer : Layer Purpose) (pending : List ℕ) (place other : ℕ) (d : Desk) → place < other → desk_at (record (with_desk node place d) { layer = layer; pending = pending }) other ≡ desk_at node other
beside_place node layer pending place other d h = grind (arith, common_steps, set-get_or)

sent_adds : (before : NodeState) (s : Scene) (place peer : ℕ) (r : Option Asked × Layer Purpose) → Tells_on before s place → Announces_at before s (unsolicited_by place peer s.node (sent_by r s.outbox peer)) place (λ rest. announced_as place peer s.node.pending rest r)
sent_adds before s place peer (None, layer) o = unsent_adds before s place layer o
sent_adds before s place peer (Some asked, layer) o = record {
  on = record {
    logins = o.logins;
    enabled = λ p b. ap (λ (x : Desk). x.is_enabled) (beside_place s.node layer (s.node.pending ++ peer ∷ []) place p (record (desk_at s.node place) { is_enabled = false }) (omega arith)) ∙ o.enabled p (omega arith);
  };
  more = λ u rest a. record {
    told_is = a.told_is ∙ append_assoc s.outbox.sides (sides.Unsolicited place ∷ []) (rest layer (s.node.pending ++ peer ∷ [])).0;
    packets_are = a.packets_are ∙ append_assoc s.outbox.packets (request peer asked ∷ []) (rest layer (s.node.pending ++ peer ∷ [])).1;
  };
}

announces_if : (before : NodeState) (s : Scene) (place : ℕ) (b : Bool) (x y : Scene) (f g : (Layer Purpose → List ℕ → Announced) → Announced) → Announces_at before s x place f → Announces_at before s y place g → Announces_at before s (cond b x y) place (λ rest. cond b (f rest) (g rest))
announces_if before s place true x y f g h i = h
announces_if before s place false x y f g h i = i

to_adds : (before : NodeState) (s : Scene) (place : ℕ) (login : Login) → Tells_on before s place → Announces_at before s (announce_to place login s) place (λ rest. announced_to place login s.node.layer s.node.pending rest)
unfolding announce_to request_step
to_adds before s place login o =
    let r = asking_step s.node.layer login.node (block_write login.fifo block) purposes.Unsolicited in
    announces_if before s place (is_pending login.node s.node.pending) (scene s.node (with_side s.outbox (sides.Unsent place))) (unsolicited_by place login.node s.node (sent_by r s.outbox login.node))
    (λ rest. unsent_then place (rest s.node.layer s.node.pending)) (λ rest. announced_as place login.node s.node.pending rest r)
    (unsent_adds before s place s.node.layer o) (sent_adds before s place login.node r o)

none_adds : (before : NodeState) (s : Scene) (place : ℕ) → Tells_on before s place → Announces_at before s s place (λ rest. rest s.node.layer s.node.pending)
none_adds before s place o = record {
  on = record { logins = o.logins; enabled = λ p b. o.enabled p (omega arith) };
  more = λ u rest a. a;
}

hears_by : (unit from place : ℕ) (login : Login) (d e : Desk) → d.is_enabled ≡ e.is_enabled → hears unit from place d login ≡ hears unit from place e login
hears_by unit from place login d e h = ap (λ (x : Bool). login.unit == unit && (is_live login && (not (place == from) && x))) h

in_adds : (unit from : ℕ) (before : NodeState) (s : Scene) (place : ℕ) (login : Option Login) → Tells_on before s place → Announces_at before s (announce_in unit from place login s) place (λ rest. announced_at unit from place (desk_at before place) login s.node.layer s.node.pending rest)
in_adds unit from before s place None o = none_adds before s place o
in_adds unit from before s place (Some login) o =
    subst (λ (b : Bool). Announces_at before s (announce_in unit from place (Some login) s) place (λ rest. cond b (announced_to place login s.node.layer s.node.pending rest) (rest s.node.layer s.node.pending)))
    (hears_by unit from place login (desk_at s.node place) (desk_at before place) (o.enabled place (omega arith)))
    (announces_if before s place (hears unit from place (desk_at s.node place) login) (announce_to place login s) s
    (λ rest. announced_to place login s.node.layer s.node.pending rest) (λ rest. rest s.node.layer s.node.pending)
    (to_adds before s place login o) (none_adds before s place o))

at_adds : (unit from : ℕ) (before : NodeState) (s : Scene) (place : ℕ) → Tells_on before s place → Announces_at before s (announce_at unit from place s) place (λ rest. announced_at unit from place (desk_at before place) (login_at before place) s.node.layer s.node.pending rest)
unfolding announce_at
at_adds unit from before s place o =
    subst (λ (t : Table). Announces_at before s (announce_in unit from place (login_at s.node place) s) place (λ rest. announced_at unit from place (desk_at before place) (place_at t.places place) s.node.layer s.node.pending rest)) o.logins
    (in_adds unit from before s place (login_at s.node place) o)

pub from_adds : (left place unit from : ℕ) (before : NodeState) (s : Scene) → Tells_on before s place → Adds s (announce_from left place unit from s) (announced_from left place unit from before s.node.layer s.node.pending)
unfolding announce_from
from_adds zero place unit from before s o = record { told_is = sym (append-nil s.outbox.sides); packets_are = sym (append-nil s.outbox.packets) }
from_adds (suc left) place unit from before s o =
    let t = announce_at unit from place s in
    let a = at_adds unit from before s place o in
    a.more (announce_from left (place + 1) unit from t) (announced_from left (place + 1) unit from before) (from_adds left (place + 1) unit from before t a.on)

-- behind a step of the agent, with the steps of the layer so far
record Ready (node : NodeState) (first : List (wire.Call Purpose)) (s : Scene) : Type 0 where
  made : Made false first node.layer [] s.node.layer s.outbox.packets
  plain : ArePlain s.outbox.sides
  apart : Apart node s.node

announces_ready : (b : Bool) (unit place : ℕ) (node : NodeState) (first : List (wire.Call Purpose)) (s : Scene) → Ready node first s → Announces b unit place node first (announced_by b unit place s).outbox
announces_ready false unit place node first s r = record {
  steps = r.made.steps;
  order = r.made.order;
  told = record { before = s.outbox.sides; plain = r.plain; told_is = sym (append-nil s.outbox.sides) };
  packets_are = r.made.packets_are ∙ sym (append-nil (packets_of node.layer (r.made.steps ++ first)));
}
announces_ready true unit place node first s r =
    let a = from_adds 8 0 unit place node s (record { logins = r.apart.logins; enabled = λ p b. r.apart.enabled p }) in
    let is : announced_from 8 0 unit place node s.node.layer s.node.pending ≡ announced_from 8 0 unit place node (layer_after node.layer (r.made.steps ++ first)) node.pending =
    ap (λ (l : Layer Purpose). announced_from 8 0 unit place node l s.node.pending) (sym r.made.layer_is) ∙ ap (λ (p : List ℕ). announced_from 8 0 unit place node (layer_after node.layer (r.made.steps ++ first)) p) r.apart.pending in
    record {
      steps = r.made.steps;
      order = r.made.order;
      told = record { before = s.outbox.sides; plain = r.plain; told_is = a.told_is ∙ ap (λ (x : Announced). s.outbox.sides ++ x.0) is };
      packets_are = a.packets_are ∙ ap (λ (x : Announced). s.outbox.packets ++ x.1) is
          ∙ ap (λ (ps : List Outgoing). ps ++ (announced_from 8 0 unit place node (layer_after node.layer (r.made.steps ++ first)) node.pending).1) r.made.packets_are;
    }

changed_ready : (b : Bool) (unit place : ℕ) (node : NodeState) (first : List (wire.Call Purpose)) (s : Scene) → Ready node first s → Ready node first (scene (changed_by b unit place s.node) s.outbox)
changed_ready false unit place node first s r = r
changed_ready true unit place node first s r = record {
  made = r.made;
  plain = r.plain;
  apart = record { logins = r.apart.logins; pending = r.apart.pending; enabled = r.apart.enabled };
}

follow_ready : (place : ℕ) (login : Login) (step : AgentStep) (node : NodeState) (first : List (wire.Call Purpose)) (s : Scene) → Ready node first s → Ready node first (follow place login step s)
follow_ready place login step node first s r = record {
  made = follows (Made false first node.layer []) (made_keeps first node.layer []) place login step s r.made;
  plain = follows_in ArePlain plain_tells place login step s r.plain;
  apart = framed.follows_at (Apart node) (keeps_apart node) place login step s r.apart;
}

follow_tells : (b : Bool) (place : ℕ) (login : Login) (step : AgentStep) (node : NodeState) (first : List (wire.Call Purpose)) (s : Scene) → Ready node first s → Announces b login.unit place node first (follow_all b place login step s).outbox
unfolding follow_all
follow_tells b place login step node first s r =
    let t = scene (changed_by b login.unit place s.node) s.outbox in
    announces_ready b login.unit place node first (follow place login step t) (follow_ready place login step node first t (changed_ready b login.unit place node first s r))

advanced_tells : (place : ℕ) (login : Login) (r : AgentStep × Stage) (node : NodeState) (first : List (wire.Call Purpose)) (w : Whole) → Ready node first (scene r.1.node w.outbox) → Announces (came (disk_at w.disks login.unit) (disk_at (advanced_with place login r w).disks login.unit)) login.unit place node first (advanced_with place login r w).outbox
advanced_tells place login (step, st) node first w r =
    follow_tells (came (disk_at w.disks login.unit) (disk_at st.disks login.unit)) place login step node first (scene st.node w.outbox) r

replied_ready : (told : Option Told) (place unit : ℕ) (which : Which) (r : AgentStep × Machine) (node : NodeState) (first : List (wire.Call Purpose)) (w : Whole) → Ready node first (scene_of w) → Ready node first (scene (replied_with place unit which r (stage w.node w.disks)).1.node w.outbox)
replied_ready told place unit which (step, m) node first w r = record {
  made = r.made;
  plain = r.plain;
  apart =
      let d = record (taken which (desk_at w.node place)) { agent = m } in
      let h = (keeps_apart node).desks w.node place d (taken_enabled which (desk_at w.node place)) r.apart in
      record { logins = h.logins; pending = h.pending; enabled = h.enabled };
}
  where
    taken_enabled : (which : Which) (d : Desk) → (taken which d).is_enabled ≡ d.is_enabled
    taken_enabled Main d = refl
    taken_enabled Ahead d = refl

advance_tells : (told : Option Told) (place : ℕ) (login : Login) (which : Which) (answer : Answer) (node : NodeState) (first : List (wire.Call Purpose)) (w : Whole) → Ready node first (scene_of w) → agent_tells (Some login) place node first w.disks (advance told place login which answer w).disks (advance told place login which answer w).outbox
unfolding advance replied
advance_tells told place login which answer node first w r =
    let st = stage w.node w.disks in
    let s = reply_step (desk_at w.node place).agent place (plain_at st login.unit) told which answer in
    advanced_tells place login (replied_with place login.unit which s st) node first w (replied_ready told place login.unit which s node first w r)

none_came : (d : Disk) → came d d ≡ false
none_came d = by d.is_present
  where
    by : (b : Bool) → (not b && b) ≡ false
    by true = refl
    by false = refl

replies_tell : (told : Option Told) (place : ℕ) (answer : Answer) (login : Option Login) (which : Option Which) (node : NodeState) (first : List (wire.Call Purpose)) (w : Whole) → w.outbox.sides ≡ [] → Ready node first (scene_of w) → agent_tells login place node first w.disks (replied_by told place answer login which w).disks (replied_by told place answer login which w).outbox
replies_tell told place answer (Some login) (Some which) node first w e r = advance_tells told place login which answer node first w r
replies_tell told place answer None which node first w e r = e
replies_tell told place answer (Some login) None node first w e r =
    subst (λ (b : Bool). Announces b login.unit place node first w.outbox) (sym (none_came (disk_at w.disks login.unit))) (announces_ready false login.unit place node first (scene_of w) r)

reply_tells_to : (told : Option Told) (place peer : ℕ) (label : LabelParts) (answer : Answer) (node : NodeState) (first : List (wire.Call Purpose)) (w : Whole) → w.outbox.sides ≡ [] → Ready node first (scene_of w) → agent_tells (served_login w.node place) place node first w.disks (replied_to told place peer label answer w).disks (replied_to told place peer label answer w).outbox
unfolding replied_to
reply_tells_to told place peer label answer node first w e r = replies_tell told place answer (served_login w.node place) (which_in (desk_at w.node place) peer label) node first w e r

concluded_tells : (told : Option Told) (purpose : Option Purpose) (peer : ℕ) (label : LabelParts) (answer : Answer) (node : NodeState) (first : List (wire.Call Purpose)) (disks : List Disk) (layer : Layer Purpose) → Made false first node.layer [] layer [] → let c = concluded told purpose peer label answer (whole (scene (record node { layer = layer }) empty_outbox) disks) in reply_tells purpose answer node first disks c.disks c.outbox
unfolding concluded
concluded_tells told None peer label answer node first disks layer m = refl
concluded_tells told (Some (purposes.Agent place)) peer label answer node first disks layer m =
    reply_tells_to told place peer label answer node first (whole (scene (record node { layer = layer }) empty_outbox) disks) refl
    (record { made = m; plain = tt; apart = record { logins = refl; pending = refl; enabled = λ p. refl } })
concluded_tells told (Some purposes.Management) peer label answer node first disks layer m =
    let s = scene (record node { layer = layer }) empty_outbox in
    same_operation (management.source_in node.manager.operation) answer node layer (manage answer s).outbox.sides (operation_tells_all answer s refl)
concluded_tells told (Some purposes.Unsolicited) peer label answer node first disks layer m = refl

abbrev TellsAs : Option Told → List ℕ → List (wire.Call Purpose) → Finding Purpose → NodeState → List Disk → Layer Purpose → Type 0
TellsAs told bytes first f node disks layer =
    delivery_tells f node first disks (received_as told bytes f (with_layer layer (whole (scene node empty_outbox) disks))).1.disks (received_as told bytes f (with_layer layer (whole (scene node empty_outbox) disks))).1.outbox

request_told : (told : Option Told) (bytes : List ℕ) (first : List (wire.Call Purpose)) (p : Packet) (node : NodeState) (disks : List Disk) → TellsAs told bytes first (of_request p) node disks node.layer
request_told told bytes first p node disks =
    judged_told (serving.request_step p bytes (scene node empty_outbox)) (request_tells p bytes (scene node empty_outbox) refl)
  where
    judged_told : (r : Judged × Scene) → AreFirst (request_changes (is_barred node p) p node) r.1.outbox.sides → AreFirst (request_changes (is_barred node p) p node) (judged_scene r (whole (scene node empty_outbox) disks)).1.outbox.sides
    judged_told (judged, s) h = h

found_tells : (told : Option Told) (bytes : List ℕ) (first : List (wire.Call Purpose)) (f : Finding Purpose) (node : NodeState) (disks : List Disk) (layer : Layer Purpose) → Made false first node.layer [] layer [] → IsFound f node.layer layer bytes → TellsAs told bytes first f node disks layer
found_tells told bytes first of_generation node disks layer m f = refl
found_tells told bytes first of_grammar node disks layer m f = refl
found_tells told bytes first of_label node disks layer m f = refl
found_tells told bytes first (of_response p label purpose) node disks layer m f = concluded_tells told purpose (header_in p).source label (answer_in p) node first disks layer m
found_tells told bytes first (of_again p rcode) node disks layer m f = answer_untold p bytes rcode [] (scene (record node { layer = layer }) empty_outbox)
found_tells told bytes first (of_request p) node disks layer m f =
    subst (λ (l : Layer Purpose). TellsAs told bytes first (of_request p) node disks l) (sym f.0) (request_told told bytes first p node disks)

deliveries_tell : (told : Option Told) (disks : List Disk) (generation : ℕ) (bytes : List ℕ) (node : NodeState) → delivery_tells (judging_step node.layer generation bytes).0 node (first_of (receives told disks generation bytes)) disks (received told generation bytes (whole (scene node empty_outbox) disks)).1.disks (received told generation bytes (whole (scene node empty_outbox) disks)).1.outbox
unfolding received
deliveries_tell told disks generation bytes node =
    found_tells told bytes (wire.judges generation bytes ∷ []) (judging_step node.layer generation bytes).0 node disks (judging_step node.layer generation bytes).1
    (judged_made node.layer generation bytes) (found node.layer generation bytes)

-- ---- a time-out: no operation is decided by one
undecided_in : (operation : Option Operation) (m : management.Machine) (table : Table) (keys : List (List ℕ)) → (management.reply_to operation m table keys Expired).0.decided ≡ None
undecided_in None m table keys = refl
undecided_in (Some operation) m table keys = undecided_by operation.phase operation
  where
    undecided_by : (phase : Phase) (operation : Operation) → (management.reply_in phase m operation table keys Expired).0.decided ≡ None
    undecided_by steps.Orb operation = refl
    undecided_by (steps.HighEui orb) operation = refl
    undecided_by (steps.LowEui orb high) operation = refl
    undecided_by (steps.Response fifo) operation = refl
    undecided_by steps.Status operation = refl

undecided : (m : management.Machine) (table : Table) (keys : List (List ℕ)) → (management.reply_step m table keys Expired).0.decided ≡ None
unfolding management.reply_step
undecided m table keys = undecided_in m.operation m table keys

plain_decided : (d : Option Decision) (effect : Effect) (source : ℕ) (s : Scene) → d ≡ None → ArePlain s.outbox.sides → ArePlain (decided_by d effect source s).outbox.sides
unfolding decided_by
plain_decided None effect source s e p = p
plain_decided (Some d) effect source s e p = cc

plain_with : (source : ℕ) (s : Scene) (r : ManagerStep × (management.Machine × Table)) → r.0.decided ≡ None → ArePlain s.outbox.sides → ArePlain (managed_with source s r).outbox.sides
plain_with source s (step, r) e p =
    let t = decided_by step.decided step.effect source (scene (with_manager s.node r) s.outbox) in
    asks_manager_in ArePlain plain_tells source step.ask (scene t.node (tell_failed source step.failed t.outbox))
    (failed_in ArePlain plain_tells source step.failed t.outbox (plain_decided step.decided step.effect source (scene (with_manager s.node r) s.outbox) e p))

plain_in : (source : Option ℕ) (s : Scene) → ArePlain s.outbox.sides → ArePlain (managed_in source Expired s).outbox.sides
plain_in None s p = p
plain_in (Some source) s p =
    plain_with source s (management.reply_step s.node.manager s.node.logins s.node.keys Expired) (undecided s.node.manager s.node.logins s.node.keys) p

plain_manage : (s : Scene) → ArePlain s.outbox.sides → ArePlain (manage Expired s).outbox.sides
unfolding manage
plain_manage s p = plain_in (management.source_in s.node.manager.operation) s p

plain_agent_with : (place : ℕ) (login : Login) (r : AgentStep × Desk) (s : Scene) → ArePlain s.outbox.sides → ArePlain (expired_with place login r s).outbox.sides
plain_agent_with place login (step, desk) s p = follows_in ArePlain plain_tells place login step (scene (with_desk s.node place desk) s.outbox) p

plain_agent_by : (place : ℕ) (login : Option Login) (which : Option Which) (s : Scene) → ArePlain s.outbox.sides → ArePlain (expired_by place login which s).outbox.sides
plain_agent_by place (Some login) (Some which) s p = plain_agent_with place login (expired_desk which (desk_at s.node place)) s p
plain_agent_by place None which s p = p
plain_agent_by place (Some login) None s p = p

plain_agent : (place peer : ℕ) (label : LabelParts) (s : Scene) → ArePlain s.outbox.sides → ArePlain (expire_agent place peer label s).outbox.sides
unfolding expire_agent
plain_agent place peer label s p = plain_agent_by place (login_at s.node place) (which_in (desk_at s.node place) peer label) s p

plain_timed : (purpose : Option Purpose) (peer : ℕ) (label : LabelParts) (s : Scene) → ArePlain s.outbox.sides → ArePlain (timed_out purpose peer label s).outbox.sides
plain_timed None peer label s p = p
plain_timed (Some (purposes.Agent place)) peer label s p = plain_agent place peer label s p
plain_timed (Some purposes.Management) peer label s p = plain_manage s p
plain_timed (Some purposes.Unsolicited) peer label s p = p

plain_expired : (r : Result (Option Purpose) Stale × Layer Purpose) (peer : ℕ) (label : LabelParts) (s : Scene) → ArePlain s.outbox.sides → ArePlain (expired_in r peer label s).1.outbox.sides
plain_expired (Ok purpose, layer) peer label s p = plain_timed purpose peer label (scene (record s.node { layer = layer }) s.outbox) p
plain_expired (Err stale, layer) peer label s p = p

expiries_tell : (peer : ℕ) (label : LabelParts) (node : NodeState) → ArePlain (alone (lets_expire peer label) node).outbox.sides
unfolding expired
expiries_tell peer label node = plain_expired (expiring_step node.layer peer label) peer label (scene node empty_outbox) tt

pub side_law : SideLaw
side_law = record {
  deliveries = deliveries_tell;
  expiries = expiries_tell;
  sights = sights_tell;
  seconds = seconds_tell;
  keys = λ unit key node. refl;
}
