-- What a call of the target leaves that runs and ends no ORB: cuts, decisions, resets, seconds, and what is asked of registers but a pointer and a doorbell.
use Rattle.sbp_world.proofs.Words.Std.{◌≡◌, ◌∙◌, refl, sym, ap, subst, inl, inr, ◌⊎◌, ℕ, zero, suc, ◌+◌, Bool, true, false, cond, List, [], length, Option, Some, None, Result, Ok, Err, slice_index_or, length-set}
use Rattle.sbp_world.proofs.Words.Wire.{Packet, header_in, Body, Asked, Layer, answering_step, asking_step, seeing_step, CutCause, Side, OutboxState, Moment}
use Rattle.sbp_world.proofs.Words.Target.{Login, Table, is_live, place_at, tick_step, Machine, state_in, abort_step, is_reset, reset_step, Decision, Effect, ManagerStep, Busy, complete, conflict_error, Desk, Purpose, cut, cut_node, told_cut, disabled, new_desk, reset_desk, ask_manager, cut_place, cut_placed, decided_by, effect_by, failed_by, fresh_desk, left_desk, lose_operation, lost_in, manage, managed_in, managed_with, manager_asked, manager_body, manager_lost, manager_sent, place_in, tell_failed, tell_left, with_manager, NodeState, Scene, desk_at, scene, with_desk, after_reset, cleared_node, expired_from, held_from, reset_by, seen, tell_held, ticked, ticked_by, answer_step, answered_by, request_step, sent_by, with_side, answered, start, started_by, clear_from, clear_unit, cut_all}
use Rattle.sbp_world.proofs.Words.Initiator.{Ask, FailCause, Answer, NoLabel}
use Rattle.sbp_world.proofs.Words.World.{told_all, WorldState}
use Rattle.std.proofs.Math.ListN.{length-map}
use Rattle.mgmt_agent.specs.declared.decision.Effect.TheVariants as effects
use Rattle.mgmt_agent.specs.Machine as management
use Rattle.sbp_journal.specs.declared.cause.CutCause.TheVariants as cuts
use Rattle.sbp_journal.specs.declared.side.Side.TheVariants as sides
use Rattle.sbp_target.specs.declared.purpose.Purpose.TheVariants as purposes
use Rattle.sbp_world.proofs.Lists.SameAgents.{AreSame}
use Rattle.sbp_world.proofs.Lists.Kept.{IsBeside, IsLess, Kept, as_kept, less_kept, marked, one_beside, same, shut}
use Rattle.sbp_world.proofs.Lists.StatusRests.{desk_either, map_agents}
use Rattle.sbp_world.proofs.Agents.Telling.{told_snoc as told_last}
use Rattle.sbp_target.proofs.Histories.Views.{cuts_keep, placed_keep}

abbrev Here : NodeState → ℕ → Machine
Here node p = (desk_at node p).agent

-- the machines behind a desk that is set
set_less : (node : NodeState) (k : ℕ) (d : Desk) → IsLess (Here node k) d.agent → (p : ℕ) → IsLess (Here node p) (Here (with_desk node k d) p)
set_less node k d l p = by (desk_either node.desks k p d)
  where
    by : ((p ≡ k) × (desk_at (with_desk node k d) p ≡ d)) ⊎ (desk_at (with_desk node k d) p ≡ desk_at node p) → IsLess (Here node p) (Here (with_desk node k d) p)
    by (inl h) =
        subst (λ j. IsLess (Here node j) (Here (with_desk node k d) p)) (sym h.0)
        (subst (λ (x : Desk). IsLess (Here node k) x.agent) (sym h.1) l)
    by (inr h) = subst (λ (x : Desk). IsLess (Here node p) x.agent) (sym h) (same (Here node p))

reset_shut : (m : Machine) → IsLess m (reset_step m)
unfolding reset_step
reset_shut m = shut m (reset_step m) refl

module _ (wild : ℕ → Bool) (past : List Moment) (u : WorldState) where
  abbrev machines_of : NodeState → ℕ → Machine
  machines_of node p = (desk_at node p).agent

  pub record Cutting (s : Scene) : Type 0 where
    pub desks : length s.node.desks ≡ 8
    pub kept : Kept wild past (λ p. (desk_at s.node p).agent) (told_all 0 s.outbox.sides u)

  pub cut_alike : (s t : Scene) → AreSame s.node t.node → t.outbox.sides ≡ s.outbox.sides → Cutting s → Cutting t
  cut_alike s t a e c = record {
    desks = a.desks ∙ c.desks;
    kept = subst (λ xs. Kept wild past (machines_of t.node) (told_all 0 xs u)) (sym e) (as_kept wild past (machines_of s.node) (machines_of t.node) (told_all 0 s.outbox.sides u) a.agents c.kept);
  }

  -- with the same desks
  same_desks : (s : Scene) (node : NodeState) (o : OutboxState) → node.desks ≡ s.node.desks → o.sides ≡ s.outbox.sides → Cutting s → Cutting (scene node o)
  same_desks s node o d e c = cut_alike s (scene node o) (record { desks = ap length d; agents = λ p. ap (λ ds. (slice_index_or ds p new_desk).agent) d }) e c

  -- a side more
  side_more : (s : Scene) (side : Side) → IsBeside side → Cutting s → Cutting (scene s.node (with_side s.outbox side))
  side_more s side h c = record {
    desks = c.desks;
    kept = subst (Kept wild past (machines_of s.node)) (sym (told_last s.outbox.sides side u)) (one_beside wild past (machines_of s.node) side (told_all 0 s.outbox.sides u) h c.kept);
  }

  -- another desk
  pub desk_more : (s : Scene) (k : ℕ) (d : Desk) → IsLess (Here s.node k) d.agent → Cutting s → Cutting (scene (with_desk s.node k d) s.outbox)
  desk_more s k d l c = record {
    desks = length-set s.node.desks k d ∙ c.desks;
    kept = less_kept wild past (machines_of s.node) (machines_of (with_desk s.node k d)) (told_all 0 s.outbox.sides u) (set_less s.node k d l) c.kept;
  }

  -- ---- cuts
  told_cuts : (b : Bool) (place : ℕ) (cause : CutCause) (s : Scene) → Cutting s → Cutting (scene s.node (told_cut b place cause s.outbox))
  told_cuts true place cause s c = c
  told_cuts false place cause s c = side_more s (sides.Cut place cause) tt c

  pub cuts_one : (cause : CutCause) (place : ℕ) (s : Scene) → Cutting s → Cutting (cut cause place s)
  unfolding cut
  cuts_one cause place s c =
      let d = reset_desk (desk_at s.node place) in
      let one = desk_more s place d (reset_shut (Here s.node place)) c in
      let t = scene (cut_node place s.node) s.outbox in
      told_cuts (is_reset (state_in (desk_at s.node place).agent.phase)) place cause t (same_desks (scene (with_desk s.node place d) s.outbox) (cut_node place s.node) s.outbox refl refl one)

  pick : (b : Bool) (s t : Scene) → Cutting s → Cutting t → Cutting (cond b s t)
  pick true s t c e = c
  pick false s t c e = e

  cuts_all : (cause : CutCause) (unit : Option ℕ) (s : Scene) → Cutting s → Cutting (cut_all cause unit s)
  cuts_all cause unit s c = cuts_keep Cutting cuts_one cause unit s c

  cuts_placed : (place : Option ℕ) (cause : CutCause) (s : Scene) → Cutting s → Cutting (cut_placed place cause s)
  cuts_placed place cause s c = placed_keep Cutting cuts_one place cause s c

  -- ---- units
  clears : (unit : ℕ) (s : Scene) → Cutting s → Cutting (clear_unit unit s)
  unfolding clear_unit
  clears unit s c =
      let t = scene (record s.node { units = (clear_unit unit s).node.units }) s.outbox in
      side_more t (sides.Cleared unit) tt (same_desks s t.node s.outbox refl refl c)

  clears_from : (left unit : ℕ) (s : Scene) → Cutting s → Cutting (clear_from left unit s)
  unfolding clear_from
  clears_from zero unit s c = c
  clears_from (suc left) unit s c = clears_from left (unit + 1) (clear_unit unit s) (clears unit s c)

  -- ---- decisions
  tells_left : (replaced : Option ℕ) (s : Scene) → Cutting s → Cutting (scene s.node (tell_left replaced s.outbox))
  tells_left None s c = c
  tells_left (Some login) s c = side_more s (sides.Left login) tt c

  tells_failed : (source : ℕ) (failed : Option FailCause) (s : Scene) → Cutting s → Cutting (scene s.node (tell_failed source failed s.outbox))
  tells_failed source None s c = c
  tells_failed source (Some cause) s c = side_more s (sides.ManageFailed source cause) tt c

  effects_by : (effect : Effect) (login : ℕ) (s : Scene) → Cutting s → Cutting (effect_by effect login s)
  effects_by effects.Nothing login s c = c
  effects_by (effects.Entered place replaced) login s c =
      tells_left replaced (scene (fresh_desk place s.node) s.outbox) (desk_more s place (record (desk_at s.node place) { pointer = None; is_enabled = false }) (same (Here s.node place)) c)
  effects_by (effects.Back place) login s c = side_more s (sides.Back login) tt c
  effects_by (effects.Left place) login s c =
      let t = cut_place place cuts.Logout s in
      side_more (scene (left_desk place t.node) t.outbox) (sides.Left login) tt
      (desk_more t place (record (desk_at t.node place) { is_enabled = false }) (same (Here t.node place)) (cuts_placed (place_in place) cuts.Logout s c))
  effects_by (effects.Abort place orb) login s c = desk_more s place (record (desk_at s.node place) { agent = abort_step (desk_at s.node place).agent orb }) (marked (Here s.node place) orb) c
  effects_by (effects.AbortSet place) login s c = cuts_placed (place_in place) cuts.AbortSet s c
  effects_by (effects.UnitReset unit) login s c =
      let t = cut_all cuts.UnitReset (Some unit) s in
      let k = cuts_all cuts.UnitReset (Some unit) s c in
      pick _ (clear_unit unit t) t (clears unit t k) k
  effects_by effects.TargetReset login s c =
      let t = cut_all cuts.TargetReset None s in clears_from (length t.node.units) 0 t (cuts_all cuts.TargetReset None s c)

  decides : (d : Option Decision) (effect : Effect) (source : ℕ) (s : Scene) → Cutting s → Cutting (decided_by d effect source s)
  unfolding decided_by
  decides None effect source s c = c
  decides (Some d) effect source s c =
      let t = effect_by effect d.subject s in side_more t (sides.Managed source d.function d.subject d.status d.login) tt (effects_by effect d.subject s c)

  -- ---- what the management asks for
  loses_by : (source : ℕ) (s : Scene) (r : ManagerStep × (management.Machine × Table)) → Cutting s → Cutting (manager_lost source s r)
  loses_by source s (step, (manager, table)) c =
      let t = scene (with_manager s.node (manager, table)) s.outbox in tells_failed source step.failed t (same_desks s t.node s.outbox refl refl c)

  loses_in : (source : Option ℕ) (s : Scene) → Cutting s → Cutting (lost_in source s)
  loses_in None s c = c
  loses_in (Some source) s c = loses_by source s (management.reply_step s.node.manager s.node.logins s.node.keys NoLabel) c

  loses : (s : Scene) → Cutting s → Cutting (lose_operation s)
  unfolding lose_operation
  loses s c = loses_in (management.source_in s.node.manager.operation) s c

  sends : (s : Scene) (peer : ℕ) (r : Option Asked × Layer Purpose) → Cutting s → Cutting (manager_sent s.node (sent_by r s.outbox peer))
  sends s peer (None, layer) c = let t = scene (record s.node { layer = layer }) s.outbox in loses t (same_desks s t.node s.outbox refl refl c)
  sends s peer (Some asked, layer) c = same_desks s (record s.node { layer = layer }) (sent_by (Some asked, layer) s.outbox peer).1.1 refl refl c

  asks_by : (body : Option Body) (source : ℕ) (s : Scene) → Cutting s → Cutting (manager_asked body source s)
  unfolding request_step
  asks_by None source s c = c
  asks_by (Some body) source s c = sends s source (asking_step s.node.layer source body purposes.Management) c

  asks : (source : ℕ) (ask : Ask) (s : Scene) → Cutting s → Cutting (ask_manager source ask s)
  unfolding ask_manager
  asks source ask s c = asks_by (manager_body ask s.node.manager.outgoing) source s c

  manages_with : (source : ℕ) (s : Scene) (r : ManagerStep × (management.Machine × Table)) → Cutting s → Cutting (managed_with source s r)
  manages_with source s (step, (manager, table)) c =
      let t = scene (with_manager s.node (manager, table)) s.outbox in
      let x = decided_by step.decided step.effect source t in
      asks source step.ask (failed_by source step.failed x) (tells_failed source step.failed x (decides step.decided step.effect source t (same_desks s t.node s.outbox refl refl c)))

  manages_in : (source : Option ℕ) (answer : Answer) (s : Scene) → Cutting s → Cutting (managed_in source answer s)
  manages_in None answer s c = c
  manages_in (Some source) answer s c = manages_with source s (management.reply_step s.node.manager s.node.logins s.node.keys answer) c

  pub manages : (answer : Answer) (s : Scene) → Cutting s → Cutting (manage answer s)
  unfolding manage
  manages answer s c = manages_in (management.source_in s.node.manager.operation) answer s c

  -- ---- a request that is answered, and one that starts an operation
  pub answers : (request : Packet) (bytes : List ℕ) (rcode : ℕ) (given : List ℕ) (s : Scene) → Cutting s → Cutting (answered request bytes rcode given s)
  unfolding answer_step
  answers request bytes rcode given s c = by (answering_step s.node.layer request bytes rcode given)
    where
      by : (r : List ℕ × Layer Purpose) → Cutting (scene (record s.node { layer = (answered_by r s.outbox (header_in request).source).0 }) (answered_by r s.outbox (header_in request).source).1)
      by (given_bytes, layer) = same_desks s (record s.node { layer = layer }) (answered_by (given_bytes, layer) s.outbox (header_in request).source).1 refl refl c

  starts_by : (source : ℕ) (request : Packet) (bytes : List ℕ) (r : Result Ask Busy × management.Machine) (s : Scene) → Cutting s → Cutting (started_by source request bytes r s)
  starts_by source request bytes (Ok ask, m) s c =
      let t = scene (record s.node { manager = m }) s.outbox in
      asks source ask (answered request bytes complete [] t) (answers request bytes complete [] t (same_desks s t.node s.outbox refl refl c))
  starts_by source request bytes (Err busy, m) s c =
      let t = scene (record s.node { manager = m }) s.outbox in answers request bytes conflict_error [] t (same_desks s t.node s.outbox refl refl c)

  pub starts : (orb : ℕ) (request : Packet) (bytes : List ℕ) (s : Scene) → Cutting s → Cutting (start orb request bytes s)
  unfolding start
  starts orb request bytes s c = starts_by (header_in request).source request bytes (management.start_step s.node.manager (header_in request).source orb) s c

  -- ---- a generation is seen, and a second goes by
  holds_one : (login : Option Login) (s : Scene) → Cutting s → Cutting (scene s.node (tell_held login s.outbox))
  holds_one None s c = c
  holds_one (Some login) s c = by (is_live login)
    where
      by : (b : Bool) → Cutting (scene s.node (cond b (with_side s.outbox (sides.Held login.login)) s.outbox))
      by true = side_more s (sides.Held login.login) tt c
      by false = c

  holds_from : (left place : ℕ) (places : List (Option Login)) (s : Scene) → Cutting s → Cutting (scene s.node (held_from left place places s.outbox))
  unfolding held_from
  holds_from zero place places s c = c
  holds_from (suc left) place places s c =
      holds_from left (place + 1) places (scene s.node (tell_held (place_at places place) s.outbox)) (holds_one (place_at places place) s c)

  sees_by : (r : Bool × Layer Purpose) (s : Scene) → Cutting s → Cutting (reset_by r s).1
  sees_by (false, layer) s c = same_desks s (record s.node { layer = layer }) s.outbox refl refl c
  sees_by (true, layer) s c =
      let t = scene (cleared_node layer s.node) s.outbox in
      let x = cut_all cuts.Reset None t in
      let k = cuts_all cuts.Reset None t (same_desks s t.node s.outbox refl refl c) in
      let y = scene (after_reset x.node) x.outbox in
      let z : AreSame x.node (after_reset x.node) = record { desks = length-map x.node.desks disabled; agents = map_agents x.node.desks } in
      holds_from 8 0 x.node.logins.places y (cut_alike x y z refl k)

  pub sees : (generation id : ℕ) (s : Scene) → Cutting s → Cutting (seen generation id s).1
  unfolding seen
  sees generation id s c = sees_by (seeing_step s.node.layer generation id) s c

  expires_from : (left at : ℕ) (logins : List ℕ) (s : Scene) → Cutting s → Cutting (scene s.node (expired_from left at logins s.outbox))
  unfolding expired_from
  expires_from zero at logins s c = c
  expires_from (suc left) at logins s c =
      let side = sides.Expired (slice_index_or logins at 0) in expires_from left (at + 1) logins (scene s.node (with_side s.outbox side)) (side_more s side tt c)

  ticks_by : (r : List ℕ × Table) (s : Scene) → Cutting s → Cutting (ticked_by r s)
  ticks_by (logins, table) s c =
      let t = scene (record s.node { logins = table }) s.outbox in expires_from (length logins) 0 logins t (same_desks s t.node s.outbox refl refl c)

  pub ticks : (s : Scene) → Cutting s → Cutting (ticked s)
  unfolding ticked
  ticks s c = ticks_by (tick_step s.node.logins) s c
