-- What a call of the target leaves in which no agent makes a step: no end is told, and an agent is at the end of its list only where it was before.
use Rattle.sbp_world.proofs.Words.Std.{◌≡◌, ◌∙◌, refl, sym, ap, subst, inl, inr, ◌⊎◌, ℕ, zero, suc, ◌+◌, Bool, true, false, cond, List, [], ◌∷◌, length, map, Option, Some, None, Result, Ok, Err, slice_index_or, slice_set, length-set, false≢true}
use Rattle.sbp_world.proofs.Words.Wire.{Packet, header_in, Body, Asked, Layer, answering_step, asking_step, seeing_step, CutCause, Side, OutboxState}
use Rattle.sbp_world.proofs.Words.Target.{Login, Table, is_live, place_at, tick_step, Machine, state_in, abort_step, is_reset, reset_step, Decision, Effect, ManagerStep, Busy, complete, conflict_error, Desk, Purpose, cut, cut_node, told_cut, disabled, new_desk, reset_desk, ask_manager, cut_place, cut_placed, decided_by, effect_by, failed_by, fresh_desk, left_desk, lose_operation, lost_in, manage, managed_in, managed_with, manager_asked, manager_body, manager_lost, manager_sent, place_in, tell_failed, tell_left, with_manager, NodeState, Scene, desk_at, scene, with_desk, after_reset, cleared_node, expired_from, held_from, reset_by, seen, tell_held, ticked, ticked_by, answer_step, answered_by, request_step, sent_by, with_side, answered, start, started_by, clear_from, clear_unit, cut_all}
use Rattle.sbp_world.proofs.Words.Initiator.{Ask, FailCause, Answer, NoLabel}
use Rattle.std.proofs.Math.ListN.{length-map}
use Rattle.mgmt_agent.specs.declared.decision.Effect.TheVariants as effects
use Rattle.mgmt_agent.specs.Machine as management
use Rattle.sbp_journal.specs.declared.cause.CutCause.TheVariants as cuts
use Rattle.sbp_journal.specs.declared.side.Side.TheVariants as sides
use Rattle.sbp_target.specs.declared.purpose.Purpose.TheVariants as purposes
use Rattle.sbp_world.proofs.Lists.SameAgents.{AreSame}
use Rattle.sbp_world.proofs.Lists.StatusPackets.{one_end, or_before, told_end, told_more}
use Rattle.sbp_world.proofs.Lists.StatusSteps.{rests}
use Rattle.sbp_target.proofs.Histories.Views.{cuts_keep, placed_keep}

-- a desk that is set is there, and the others are as they were
pub desk_either : (desks : List Desk) (k p : ℕ) (d : Desk) → ((p ≡ k) × (slice_index_or (slice_set desks k d) p new_desk ≡ d)) ⊎ (slice_index_or (slice_set desks k d) p new_desk ≡ slice_index_or desks p new_desk)
desk_either [] k p d = inr refl
desk_either (x ∷ desks) zero zero d = inl (refl, refl)
desk_either (x ∷ desks) zero (suc p) d = inr refl
desk_either (x ∷ desks) (suc k) zero d = inr refl
desk_either (x ∷ desks) (suc k) (suc p) d = by (desk_either desks k p d)
  where
    by : ((p ≡ k) × (slice_index_or (slice_set desks k d) p new_desk ≡ d)) ⊎ (slice_index_or (slice_set desks k d) p new_desk ≡ slice_index_or desks p new_desk) → ((suc p ≡ suc k) × (slice_index_or (slice_set desks k d) p new_desk ≡ d)) ⊎ (slice_index_or (slice_set desks k d) p new_desk ≡ slice_index_or desks p new_desk)
    by (inl h) = inl (ap suc h.0, h.1)
    by (inr h) = inr h

abbrev Here : NodeState → ℕ → Machine
Here node p = (desk_at node p).agent

reset_rests : (m : Machine) → rests (reset_step m) ≡ true → rests m ≡ true
unfolding reset_step
reset_rests m r = absurd (false≢true r)

abort_rests : (m : Machine) (orb : ℕ) → rests (abort_step m orb) ≡ true → rests m ≡ true
unfolding abort_step
abort_rests m orb r = r

pub map_agents : (desks : List Desk) (p : ℕ) → (slice_index_or (map disabled desks) p new_desk).agent ≡ (slice_index_or desks p new_desk).agent
map_agents [] p = refl
map_agents (d ∷ desks) zero = refl
map_agents (d ∷ desks) (suc p) = map_agents desks p

module _ (before : ℕ → Machine) where
  pub record Resting (s : Scene) : Type 0 where
    pub desks : length s.node.desks ≡ 8
    pub told_is : told_end s.outbox.sides ≡ None
    pub stays : (p : ℕ) → rests (Here s.node p) ≡ true → rests (before p) ≡ true

  pub cut_alike : (s t : Scene) → AreSame s.node t.node → t.outbox.sides ≡ s.outbox.sides → Resting s → Resting t
  cut_alike s t a e c = record {
    desks = a.desks ∙ c.desks;
    told_is = ap told_end e ∙ c.told_is;
    stays = λ p r. c.stays p (ap (λ (m : Machine). rests m) (sym (a.agents p)) ∙ r);
  }

  -- with the same desks
  pub same_desks : (s : Scene) (node : NodeState) (o : OutboxState) → node.desks ≡ s.node.desks → o.sides ≡ s.outbox.sides → Resting s → Resting (scene node o)
  same_desks s node o d e c = cut_alike s (scene node o) (record { desks = ap length d; agents = λ p. ap (λ ds. (slice_index_or ds p new_desk).agent) d }) e c

  -- a side more
  side_more : (s : Scene) (side : Side) → one_end side ≡ None → Resting s → Resting (scene s.node (with_side s.outbox side))
  side_more s side h c = record {
    desks = c.desks;
    told_is = told_more s.outbox.sides side ∙ (ap (λ x. or_before x (told_end s.outbox.sides)) h ∙ c.told_is);
    stays = c.stays;
  }

  -- another desk
  pub desk_more : (s : Scene) (k : ℕ) (d : Desk) → (rests d.agent ≡ true → rests (Here s.node k) ≡ true) → Resting s → Resting (scene (with_desk s.node k d) s.outbox)
  desk_more s k d l c = record { desks = length-set s.node.desks k d ∙ c.desks; told_is = c.told_is; stays = λ p r. c.stays p (by p (desk_either s.node.desks k p d) r) }
    where
      by : (p : ℕ) → ((p ≡ k) × (desk_at (with_desk s.node k d) p ≡ d)) ⊎ (desk_at (with_desk s.node k d) p ≡ desk_at s.node p) → rests (Here (with_desk s.node k d) p) ≡ true → rests (Here s.node p) ≡ true
      by p (inl h) r = subst (λ j. rests (Here s.node j) ≡ true) (sym h.0) (l (ap (λ (x : Desk). rests x.agent) (sym h.1) ∙ r))
      by p (inr h) r = ap (λ (x : Desk). rests x.agent) (sym h) ∙ r

  -- ---- cuts
  told_cuts : (b : Bool) (place : ℕ) (cause : CutCause) (s : Scene) → Resting s → Resting (scene s.node (told_cut b place cause s.outbox))
  told_cuts true place cause s c = c
  told_cuts false place cause s c = side_more s (sides.Cut place cause) refl c

  pub cuts_one : (cause : CutCause) (place : ℕ) (s : Scene) → Resting s → Resting (cut cause place s)
  unfolding cut
  cuts_one cause place s c =
      let d = reset_desk (desk_at s.node place) in
      let one = desk_more s place d (reset_rests (Here s.node place)) c in
      let t = scene (cut_node place s.node) s.outbox in
      told_cuts (is_reset (state_in (desk_at s.node place).agent.phase)) place cause t (same_desks (scene (with_desk s.node place d) s.outbox) (cut_node place s.node) s.outbox refl refl one)

  pick : (b : Bool) (s t : Scene) → Resting s → Resting t → Resting (cond b s t)
  pick true s t c e = c
  pick false s t c e = e

  cuts_all : (cause : CutCause) (unit : Option ℕ) (s : Scene) → Resting s → Resting (cut_all cause unit s)
  cuts_all cause unit s c = cuts_keep Resting cuts_one cause unit s c

  cuts_placed : (place : Option ℕ) (cause : CutCause) (s : Scene) → Resting s → Resting (cut_placed place cause s)
  cuts_placed place cause s c = placed_keep Resting cuts_one place cause s c

  -- ---- units
  clears : (unit : ℕ) (s : Scene) → Resting s → Resting (clear_unit unit s)
  unfolding clear_unit
  clears unit s c =
      let t = scene (record s.node { units = (clear_unit unit s).node.units }) s.outbox in
      side_more t (sides.Cleared unit) refl (same_desks s t.node s.outbox refl refl c)

  clears_from : (left unit : ℕ) (s : Scene) → Resting s → Resting (clear_from left unit s)
  unfolding clear_from
  clears_from zero unit s c = c
  clears_from (suc left) unit s c = clears_from left (unit + 1) (clear_unit unit s) (clears unit s c)

  -- ---- decisions
  tells_left : (replaced : Option ℕ) (s : Scene) → Resting s → Resting (scene s.node (tell_left replaced s.outbox))
  tells_left None s c = c
  tells_left (Some login) s c = side_more s (sides.Left login) refl c

  tells_failed : (source : ℕ) (failed : Option FailCause) (s : Scene) → Resting s → Resting (scene s.node (tell_failed source failed s.outbox))
  tells_failed source None s c = c
  tells_failed source (Some cause) s c = side_more s (sides.ManageFailed source cause) refl c

  effects_by : (effect : Effect) (login : ℕ) (s : Scene) → Resting s → Resting (effect_by effect login s)
  effects_by effects.Nothing login s c = c
  effects_by (effects.Entered place replaced) login s c =
      tells_left replaced (scene (fresh_desk place s.node) s.outbox) (desk_more s place (record (desk_at s.node place) { pointer = None; is_enabled = false }) (λ r. r) c)
  effects_by (effects.Back place) login s c = side_more s (sides.Back login) refl c
  effects_by (effects.Left place) login s c =
      let t = cut_place place cuts.Logout s in
      side_more (scene (left_desk place t.node) t.outbox) (sides.Left login) refl
      (desk_more t place (record (desk_at t.node place) { is_enabled = false }) (λ r. r) (cuts_placed (place_in place) cuts.Logout s c))
  effects_by (effects.Abort place orb) login s c = desk_more s place (record (desk_at s.node place) { agent = abort_step (desk_at s.node place).agent orb }) (abort_rests (Here s.node place) orb) c
  effects_by (effects.AbortSet place) login s c = cuts_placed (place_in place) cuts.AbortSet s c
  effects_by (effects.UnitReset unit) login s c =
      let t = cut_all cuts.UnitReset (Some unit) s in
      let k = cuts_all cuts.UnitReset (Some unit) s c in
      pick _ (clear_unit unit t) t (clears unit t k) k
  effects_by effects.TargetReset login s c =
      let t = cut_all cuts.TargetReset None s in clears_from (length t.node.units) 0 t (cuts_all cuts.TargetReset None s c)

  decides : (d : Option Decision) (effect : Effect) (source : ℕ) (s : Scene) → Resting s → Resting (decided_by d effect source s)
  unfolding decided_by
  decides None effect source s c = c
  decides (Some d) effect source s c =
      let t = effect_by effect d.subject s in side_more t (sides.Managed source d.function d.subject d.status d.login) refl (effects_by effect d.subject s c)

  -- ---- what the management asks for
  loses_by : (source : ℕ) (s : Scene) (r : ManagerStep × (management.Machine × Table)) → Resting s → Resting (manager_lost source s r)
  loses_by source s (step, (manager, table)) c =
      let t = scene (with_manager s.node (manager, table)) s.outbox in tells_failed source step.failed t (same_desks s t.node s.outbox refl refl c)

  loses_in : (source : Option ℕ) (s : Scene) → Resting s → Resting (lost_in source s)
  loses_in None s c = c
  loses_in (Some source) s c = loses_by source s (management.reply_step s.node.manager s.node.logins s.node.keys NoLabel) c

  loses : (s : Scene) → Resting s → Resting (lose_operation s)
  unfolding lose_operation
  loses s c = loses_in (management.source_in s.node.manager.operation) s c

  sends : (s : Scene) (peer : ℕ) (r : Option Asked × Layer Purpose) → Resting s → Resting (manager_sent s.node (sent_by r s.outbox peer))
  sends s peer (None, layer) c = let t = scene (record s.node { layer = layer }) s.outbox in loses t (same_desks s t.node s.outbox refl refl c)
  sends s peer (Some asked, layer) c = same_desks s (record s.node { layer = layer }) (sent_by (Some asked, layer) s.outbox peer).1.1 refl refl c

  asks_by : (body : Option Body) (source : ℕ) (s : Scene) → Resting s → Resting (manager_asked body source s)
  unfolding request_step
  asks_by None source s c = c
  asks_by (Some body) source s c = sends s source (asking_step s.node.layer source body purposes.Management) c

  asks : (source : ℕ) (ask : Ask) (s : Scene) → Resting s → Resting (ask_manager source ask s)
  unfolding ask_manager
  asks source ask s c = asks_by (manager_body ask s.node.manager.outgoing) source s c

  manages_with : (source : ℕ) (s : Scene) (r : ManagerStep × (management.Machine × Table)) → Resting s → Resting (managed_with source s r)
  manages_with source s (step, (manager, table)) c =
      let t = scene (with_manager s.node (manager, table)) s.outbox in
      let x = decided_by step.decided step.effect source t in
      asks source step.ask (failed_by source step.failed x) (tells_failed source step.failed x (decides step.decided step.effect source t (same_desks s t.node s.outbox refl refl c)))

  manages_in : (source : Option ℕ) (answer : Answer) (s : Scene) → Resting s → Resting (managed_in source answer s)
  manages_in None answer s c = c
  manages_in (Some source) answer s c = manages_with source s (management.reply_step s.node.manager s.node.logins s.node.keys answer) c

  pub manages : (answer : Answer) (s : Scene) → Resting s → Resting (manage answer s)
  unfolding manage
  manages answer s c = manages_in (management.source_in s.node.manager.operation) answer s c

  -- ---- a request that is answered, and one that starts an operation
  pub answers : (request : Packet) (bytes : List ℕ) (rcode : ℕ) (given : List ℕ) (s : Scene) → Resting s → Resting (answered request bytes rcode given s)
  unfolding answer_step
  answers request bytes rcode given s c = by (answering_step s.node.layer request bytes rcode given)
    where
      by : (r : List ℕ × Layer Purpose) → Resting (scene (record s.node { layer = (answered_by r s.outbox (header_in request).source).0 }) (answered_by r s.outbox (header_in request).source).1)
      by (given_bytes, layer) = same_desks s (record s.node { layer = layer }) (answered_by (given_bytes, layer) s.outbox (header_in request).source).1 refl refl c

  starts_by : (source : ℕ) (request : Packet) (bytes : List ℕ) (r : Result Ask Busy × management.Machine) (s : Scene) → Resting s → Resting (started_by source request bytes r s)
  starts_by source request bytes (Ok ask, m) s c =
      let t = scene (record s.node { manager = m }) s.outbox in
      asks source ask (answered request bytes complete [] t) (answers request bytes complete [] t (same_desks s t.node s.outbox refl refl c))
  starts_by source request bytes (Err busy, m) s c =
      let t = scene (record s.node { manager = m }) s.outbox in answers request bytes conflict_error [] t (same_desks s t.node s.outbox refl refl c)

  pub starts : (orb : ℕ) (request : Packet) (bytes : List ℕ) (s : Scene) → Resting s → Resting (start orb request bytes s)
  unfolding start
  starts orb request bytes s c = starts_by (header_in request).source request bytes (management.start_step s.node.manager (header_in request).source orb) s c

  -- ---- a generation is seen, and a second goes by
  holds_one : (login : Option Login) (s : Scene) → Resting s → Resting (scene s.node (tell_held login s.outbox))
  holds_one None s c = c
  holds_one (Some login) s c = by (is_live login)
    where
      by : (b : Bool) → Resting (scene s.node (cond b (with_side s.outbox (sides.Held login.login)) s.outbox))
      by true = side_more s (sides.Held login.login) refl c
      by false = c

  holds_from : (left place : ℕ) (places : List (Option Login)) (s : Scene) → Resting s → Resting (scene s.node (held_from left place places s.outbox))
  unfolding held_from
  holds_from zero place places s c = c
  holds_from (suc left) place places s c =
      holds_from left (place + 1) places (scene s.node (tell_held (place_at places place) s.outbox)) (holds_one (place_at places place) s c)

  sees_by : (r : Bool × Layer Purpose) (s : Scene) → Resting s → Resting (reset_by r s).1
  sees_by (false, layer) s c = same_desks s (record s.node { layer = layer }) s.outbox refl refl c
  sees_by (true, layer) s c =
      let t = scene (cleared_node layer s.node) s.outbox in
      let x = cut_all cuts.Reset None t in
      let k = cuts_all cuts.Reset None t (same_desks s t.node s.outbox refl refl c) in
      let y = scene (after_reset x.node) x.outbox in
      let z : AreSame x.node (after_reset x.node) = record { desks = length-map x.node.desks disabled; agents = map_agents x.node.desks } in
      holds_from 8 0 x.node.logins.places y (cut_alike x y z refl k)

  pub sees : (generation id : ℕ) (s : Scene) → Resting s → Resting (seen generation id s).1
  unfolding seen
  sees generation id s c = sees_by (seeing_step s.node.layer generation id) s c

  expires_from : (left at : ℕ) (logins : List ℕ) (s : Scene) → Resting s → Resting (scene s.node (expired_from left at logins s.outbox))
  unfolding expired_from
  expires_from zero at logins s c = c
  expires_from (suc left) at logins s c =
      let side = sides.Expired (slice_index_or logins at 0) in expires_from left (at + 1) logins (scene s.node (with_side s.outbox side)) (side_more s side refl c)

  ticks_by : (r : List ℕ × Table) (s : Scene) → Resting s → Resting (ticked_by r s)
  ticks_by (logins, table) s c =
      let t = scene (record s.node { logins = table }) s.outbox in expires_from (length logins) 0 logins t (same_desks s t.node s.outbox refl refl c)

  pub ticks : (s : Scene) → Resting s → Resting (ticked s)
  unfolding ticked
  ticks s c = ticks_by (tick_step s.node.logins) s c
