-- A call of the target leaves each agent in its phase, where it makes no step, or tells a cut of it, before which it told cuts alone.
use Rattle.sbp_world.proofs.Words.Std.{◌≡◌, ◌∙◌, refl, sym, ap, subst, inl, inr, ◌⊎◌, ℕ, zero, suc, ◌+◌, Bool, true, false, cond, List, [], ◌∷◌, ◌++◌, length, Option, Some, None, Result, Ok, Err, slice_index_or, slice_set, length-set}
use Rattle.sbp_world.proofs.Words.Wire.{Packet, header_in, Body, Asked, Layer, answering_step, asking_step, seeing_step, CutCause, Side, OutboxState}
use Rattle.sbp_world.proofs.Words.Target.{Login, Table, is_live, place_at, tick_step, Machine, state_in, abort_step, is_reset, reset_step, Decision, Effect, ManagerStep, Busy, complete, conflict_error, Desk, Purpose, cut, cut_node, told_cut, disabled, new_desk, reset_desk, ask_manager, cut_place, cut_placed, decided_by, effect_by, failed_by, fresh_desk, left_desk, lose_operation, lost_in, manage, managed_in, managed_with, manager_asked, manager_body, manager_lost, manager_sent, place_in, tell_failed, tell_left, with_manager, NodeState, Scene, desk_at, scene, with_desk, after_reset, cleared_node, expired_from, held_from, reset_by, seen, tell_held, ticked, ticked_by, answer_step, answered_by, request_step, sent_by, with_side, answered, start, started_by, clear_from, clear_unit, cut_all, Phase}
use Rattle.sbp_world.proofs.Words.Initiator.{Ask, FailCause, Answer, NoLabel}
use Rattle.std.proofs.Math.ListN.{length-map}
use Rattle.mgmt_agent.specs.declared.decision.Effect.TheVariants as effects
use Rattle.mgmt_agent.specs.Machine as management
use Rattle.sbp_journal.specs.declared.cause.CutCause.TheVariants as cuts
use Rattle.sbp_journal.specs.declared.side.Side.TheVariants as sides
use Rattle.sbp_target.specs.declared.purpose.Purpose.TheVariants as purposes
use Rattle.command_agent.specs.declared.phase.Phase.TheVariants as phases
use Rattle.sbp_world.proofs.Lists.SameAgents.{AreSame}
use Rattle.sbp_world.proofs.Lists.Kept.{IsBeside}
use Rattle.sbp_world.proofs.Lists.Full.{IsClosed}
use Rattle.sbp_world.proofs.Lists.StatusRests.{map_agents}
use Rattle.sbp_target.proofs.Histories.Views.{cuts_keep, placed_keep}

desk_either : (desks : List Desk) (k p : ℕ) (d : Desk) → ((p ≡ k) × (slice_index_or (slice_set desks k d) p new_desk ≡ d)) ⊎ (slice_index_or (slice_set desks k d) p new_desk ≡ slice_index_or desks p new_desk)
desk_either [] k p d = inr refl
desk_either (x ∷ desks) zero zero d = inl (refl, refl)
desk_either (x ∷ desks) zero (suc p) d = inr refl
desk_either (x ∷ desks) (suc k) zero d = inr refl
desk_either (x ∷ desks) (suc k) (suc p) d = by (desk_either desks k p d)
  where
    by : ((p ≡ k) × (slice_index_or (slice_set desks k d) p new_desk ≡ d)) ⊎ (slice_index_or (slice_set desks k d) p new_desk ≡ slice_index_or desks p new_desk) → ((suc p ≡ suc k) × (slice_index_or (slice_set desks k d) p new_desk ≡ d)) ⊎ (slice_index_or (slice_set desks k d) p new_desk ≡ slice_index_or desks p new_desk)
    by (inl h) = inl (ap suc h.0, h.1)
    by (inr h) = inr h

abbrev Here : NodeState → ℕ → Machine
Here node p = (desk_at node p).agent

reset_phase : (m : Machine) → (reset_step m).phase ≡ phases.Reset
unfolding reset_step
reset_phase m = refl

abort_phase : (m : Machine) (orb : ℕ) → (abort_step m orb).phase ≡ m.phase
unfolding abort_step
abort_phase m orb = refl

pub in_reset : (phase : Phase) → is_reset (state_in phase) ≡ true → phase ≡ phases.Reset
in_reset phases.Reset e = refl
in_reset phases.Dead e = absurd (let no : false ≡ true = e in cc)
in_reset phases.Fetching e = absurd (let no : false ≡ true = e in cc)
in_reset phases.ReadingTable e = absurd (let no : false ≡ true = e in cc)
in_reset (phases.ReadingData wanted) e = absurd (let no : false ≡ true = e in cc)
in_reset phases.Answering e = absurd (let no : false ≡ true = e in cc)
in_reset phases.WritingStatus e = absurd (let no : false ≡ true = e in cc)
in_reset phases.WritingLastStatus e = absurd (let no : false ≡ true = e in cc)
in_reset phases.ReadingNext e = absurd (let no : false ≡ true = e in cc)
in_reset phases.Suspended e = absurd (let no : false ≡ true = e in cc)

-- ---- what is told
abbrev pub IsCutSide : Side → Type 0
IsCutSide (sides.Cut place cause) = Unit {0}
IsCutSide side = ⊥

abbrev pub AreCuts : List Side → Type 0
AreCuts [] = Unit {0}
AreCuts (side ∷ later) = IsCutSide side × AreCuts later

-- neither of a step nor of a pointer
abbrev pub AreBeside : List Side → Type 0
AreBeside [] = Unit {0}
AreBeside (side ∷ later) = IsBeside side × AreBeside later

-- the agent of a place was cut, behind cuts alone
pub record WasCut (p : ℕ) (told : List Side) : Type 0 where
  pub front : List Side
  pub back : List Side
  pub cause : CutCause
  pub is : told ≡ front ++ sides.Cut p cause ∷ back
  pub first : AreCuts front

beside_more : (told : List Side) (side : Side) → AreBeside told → IsBeside side → AreBeside (told ++ side ∷ [])
beside_more [] side a h = (h, tt)
beside_more (one ∷ later) side a h = (a.0, beside_more later side a.1 h)

plain_more : (told : List Side) (place : ℕ) (cause : CutCause) → AreCuts told → AreCuts (told ++ sides.Cut place cause ∷ [])
plain_more [] place cause a = (tt, tt)
plain_more (one ∷ later) place cause a = (a.0, plain_more later place cause a.1)

pub joined : (a b c : List Side) → (a ++ b) ++ c ≡ a ++ (b ++ c)
joined [] b c = refl
joined (m ∷ a) b c = ap (λ ms. m ∷ ms) (joined a b c)

cut_more : (p : ℕ) (told : List Side) (side : Side) → WasCut p told → WasCut p (told ++ side ∷ [])
cut_more p told side w = record {
  front = w.front;
  back = w.back ++ side ∷ [];
  cause = w.cause;
  is = ap (λ ms. ms ++ side ∷ []) w.is ∙ joined w.front (sides.Cut p w.cause ∷ w.back) (side ∷ []);
  first = w.first;
}

-- ---- by what the agents were
module _ (F : ℕ → Machine → Type 0) (closed : IsClosed F) (before : ℕ → Machine) where
  -- it is in its phase still, or was cut
  abbrev pub Stays : Scene → ℕ → Type 0
  Stays s p = ((desk_at s.node p).agent.phase ≡ (before p).phase) ⊎ WasCut p s.outbox.sides

  pub record Cutting (s : Scene) : Type 0 where
    pub desks : length s.node.desks ≡ 8
    pub beside : AreBeside s.outbox.sides
    pub stays : (p : ℕ) → Stays s p
    pub full : (p : ℕ) → F p (before p) → F p (desk_at s.node p).agent

  -- and nothing but cuts was told
  pub record First (s : Scene) : Type 0 where
    pub cutting : Cutting s
    pub plain : AreCuts s.outbox.sides

  stay_as : (s t : Scene) (p : ℕ) → (desk_at t.node p).agent.phase ≡ (desk_at s.node p).agent.phase → t.outbox.sides ≡ s.outbox.sides → Stays s p → Stays t p
  stay_as s t p f e (inl h) = inl (f ∙ h)
  stay_as s t p f e (inr w) = inr (subst (WasCut p) (sym e) w)

  pub cut_alike : (s t : Scene) → AreSame s.node t.node → t.outbox.sides ≡ s.outbox.sides → Cutting s → Cutting t
  cut_alike s t a e c = record {
    desks = a.desks ∙ c.desks;
    beside = subst AreBeside (sym e) c.beside;
    stays = λ p. stay_as s t p (ap (λ (m : Machine). m.phase) (a.agents p)) e (c.stays p);
    full = λ p h. subst (λ m. F p m) (sym (a.agents p)) (c.full p h);
  }

  -- with the same desks
  pub same_desks : (s : Scene) (node : NodeState) (o : OutboxState) → node.desks ≡ s.node.desks → o.sides ≡ s.outbox.sides → Cutting s → Cutting (scene node o)
  same_desks s node o d e c = cut_alike s (scene node o) (record { desks = ap length d; agents = λ p. ap (λ ds. (slice_index_or ds p new_desk).agent) d }) e c

  first_desks : (s : Scene) (node : NodeState) (o : OutboxState) → node.desks ≡ s.node.desks → o.sides ≡ s.outbox.sides → First s → First (scene node o)
  first_desks s node o d e c = record { cutting = same_desks s node o d e c.cutting; plain = subst AreCuts (sym e) c.plain }

  -- a side more
  side_more : (s : Scene) (side : Side) → IsBeside side → Cutting s → Cutting (scene s.node (with_side s.outbox side))
  side_more s side h c = record { desks = c.desks; beside = beside_more s.outbox.sides side c.beside h; stays = λ p. by p (c.stays p); full = c.full }
    where
      by : (p : ℕ) → Stays s p → Stays (scene s.node (with_side s.outbox side)) p
      by p (inl e) = inl e
      by p (inr w) = inr (cut_more p s.outbox.sides side w)

  -- another desk
  full_more : (s : Scene) (k : ℕ) (d : Desk) → (F k (Here s.node k) → F k d.agent) → (p : ℕ) → ((p ≡ k) × (desk_at (with_desk s.node k d) p ≡ d)) ⊎ (desk_at (with_desk s.node k d) p ≡ desk_at s.node p) → F p (Here s.node p) → F p (desk_at (with_desk s.node k d) p).agent
  full_more s k d l p (inl h) f = subst (λ (x : Desk). F p x.agent) (sym h.1) (subst (λ j. F j d.agent) (sym h.0) (l (subst (λ j. F j (Here s.node j)) h.0 f)))
  full_more s k d l p (inr h) f = subst (λ (x : Desk). F p x.agent) (sym h) f

  pub desk_more : (s : Scene) (k : ℕ) (d : Desk) → d.agent.phase ≡ (Here s.node k).phase → (F k (Here s.node k) → F k d.agent) → Cutting s → Cutting (scene (with_desk s.node k d) s.outbox)
  desk_more s k d e l c = record {
    desks = length-set s.node.desks k d ∙ c.desks;
    beside = c.beside;
    stays = λ p. stay_as s (scene (with_desk s.node k d) s.outbox) p (by p (desk_either s.node.desks k p d)) refl (c.stays p);
    full = λ p f. full_more s k d l p (desk_either s.node.desks k p d) (c.full p f);
  }
    where
      by : (p : ℕ) → ((p ≡ k) × (desk_at (with_desk s.node k d) p ≡ d)) ⊎ (desk_at (with_desk s.node k d) p ≡ desk_at s.node p) → (Here (with_desk s.node k d) p).phase ≡ (Here s.node p).phase
      by p (inl h) = ap (λ (x : Desk). x.agent.phase) h.1 ∙ e ∙ ap (λ j. (Here s.node j).phase) (sym h.0)
      by p (inr h) = ap (λ (x : Desk). x.agent.phase) h

  -- ---- cuts
  module _ (cause : CutCause) (place : ℕ) (s : Scene) (c : First s) where
    abbrev d : Desk
    d = reset_desk (desk_at s.node place)

    abbrev there : NodeState
    there = with_desk s.node place d

    reset_is : d.agent.phase ≡ phases.Reset
    reset_is = reset_phase (Here s.node place)

    one_cut : (b : Bool) → is_reset (state_in (Here s.node place).phase) ≡ b → (p : ℕ) → Stays s p → ((p ≡ place) × (desk_at there p ≡ d)) ⊎ (desk_at there p ≡ desk_at s.node p) → Stays (scene there (told_cut b place cause s.outbox)) p
    one_cut true e p (inl h) (inl x) =
        inl (ap (λ (y : Desk). y.agent.phase) x.1 ∙ reset_is ∙ sym (in_reset (Here s.node place).phase e) ∙ ap (λ j. (Here s.node j).phase) (sym x.0) ∙ h)
    one_cut true e p (inr w) (inl x) = inr w
    one_cut true e p (inl h) (inr x) = inl (ap (λ (y : Desk). y.agent.phase) x ∙ h)
    one_cut true e p (inr w) (inr x) = inr w
    one_cut false e p h (inl x) =
        inr (subst (λ j. WasCut j (s.outbox.sides ++ sides.Cut place cause ∷ [])) (sym x.0)
        (record { front = s.outbox.sides; back = []; cause = cause; is = refl; first = c.plain }))
    one_cut false e p (inl h) (inr x) = inl (ap (λ (y : Desk). y.agent.phase) x ∙ h)
    one_cut false e p (inr w) (inr x) = inr (cut_more p s.outbox.sides (sides.Cut place cause) w)

    cut_beside : (b : Bool) → AreBeside (told_cut b place cause s.outbox).sides
    cut_beside true = c.cutting.beside
    cut_beside false = beside_more s.outbox.sides (sides.Cut place cause) c.cutting.beside tt

    cut_plain : (b : Bool) → AreCuts (told_cut b place cause s.outbox).sides
    cut_plain true = c.plain
    cut_plain false = plain_more s.outbox.sides place cause c.plain

    cut_there : First (scene there (told_cut (is_reset (state_in (Here s.node place).phase)) place cause s.outbox))
    cut_there =
        let b = is_reset (state_in (Here s.node place).phase) in
        record {
          cutting = record { desks = length-set s.node.desks place d ∙ c.cutting.desks; beside = cut_beside b; stays = λ p. one_cut b refl p (c.cutting.stays p) (desk_either s.node.desks place p d); full = λ p f. full_more s place d (λ x. closed.reset place (Here s.node place)) p (desk_either s.node.desks place p d) (c.cutting.full p f) };
          plain = cut_plain b;
        }

    pub cuts_one : First (cut cause place s)
    unfolding cut
    cuts_one =
        let o = told_cut (is_reset (state_in (Here s.node place).phase)) place cause s.outbox in first_desks (scene there o) (cut_node place s.node) o refl refl cut_there

  pick : (b : Bool) (s t : Scene) → Cutting s → Cutting t → Cutting (cond b s t)
  pick true s t c e = c
  pick false s t c e = e

  cuts_all : (cause : CutCause) (unit : Option ℕ) (s : Scene) → First s → First (cut_all cause unit s)
  cuts_all cause unit s c = cuts_keep First cuts_one cause unit s c

  cuts_placed : (place : Option ℕ) (cause : CutCause) (s : Scene) → First s → First (cut_placed place cause s)
  cuts_placed place cause s c = placed_keep First cuts_one place cause s c

  -- ---- units
  clears : (unit : ℕ) (s : Scene) → Cutting s → Cutting (clear_unit unit s)
  unfolding clear_unit
  clears unit s c =
      let t = scene (record s.node { units = (clear_unit unit s).node.units }) s.outbox in
      side_more t (sides.Cleared unit) tt (same_desks s t.node s.outbox refl refl c)

  clears_from : (left unit : ℕ) (s : Scene) → Cutting s → Cutting (clear_from left unit s)
  unfolding clear_from
  clears_from zero unit s c = c
  clears_from (suc left) unit s c = clears_from left (unit + 1) (clear_unit unit s) (clears unit s c)

  -- ---- decisions
  tells_left : (replaced : Option ℕ) (s : Scene) → Cutting s → Cutting (scene s.node (tell_left replaced s.outbox))
  tells_left None s c = c
  tells_left (Some login) s c = side_more s (sides.Left login) tt c

  tells_failed : (source : ℕ) (failed : Option FailCause) (s : Scene) → Cutting s → Cutting (scene s.node (tell_failed source failed s.outbox))
  tells_failed source None s c = c
  tells_failed source (Some cause) s c = side_more s (sides.ManageFailed source cause) tt c

  effects_by : (effect : Effect) (login : ℕ) (s : Scene) → First s → Cutting (effect_by effect login s)
  effects_by effects.Nothing login s c = c.cutting
  effects_by (effects.Entered place replaced) login s c =
      tells_left replaced (scene (fresh_desk place s.node) s.outbox) (desk_more s place (record (desk_at s.node place) { pointer = None; is_enabled = false }) refl (λ f. f) c.cutting)
  effects_by (effects.Back place) login s c = side_more s (sides.Back login) tt c.cutting
  effects_by (effects.Left place) login s c =
      let t = cut_place place cuts.Logout s in
      side_more (scene (left_desk place t.node) t.outbox) (sides.Left login) tt
      (desk_more t place (record (desk_at t.node place) { is_enabled = false }) refl (λ f. f) (cuts_placed (place_in place) cuts.Logout s c).cutting)
  effects_by (effects.Abort place orb) login s c = desk_more s place (record (desk_at s.node place) { agent = abort_step (desk_at s.node place).agent orb }) (abort_phase (Here s.node place) orb) (closed.abort place (Here s.node place) orb) c.cutting
  effects_by (effects.AbortSet place) login s c = (cuts_placed (place_in place) cuts.AbortSet s c).cutting
  effects_by (effects.UnitReset unit) login s c =
      let t = cut_all cuts.UnitReset (Some unit) s in
      let k = (cuts_all cuts.UnitReset (Some unit) s c).cutting in
      pick _ (clear_unit unit t) t (clears unit t k) k
  effects_by effects.TargetReset login s c =
      let t = cut_all cuts.TargetReset None s in clears_from (length t.node.units) 0 t (cuts_all cuts.TargetReset None s c).cutting

  decides : (d : Option Decision) (effect : Effect) (source : ℕ) (s : Scene) → First s → Cutting (decided_by d effect source s)
  unfolding decided_by
  decides None effect source s c = c.cutting
  decides (Some d) effect source s c =
      let t = effect_by effect d.subject s in side_more t (sides.Managed source d.function d.subject d.status d.login) tt (effects_by effect d.subject s c)

  -- ---- what the management asks for
  loses_by : (source : ℕ) (s : Scene) (r : ManagerStep × (management.Machine × Table)) → Cutting s → Cutting (manager_lost source s r)
  loses_by source s (step, (manager, table)) c =
      let t = scene (with_manager s.node (manager, table)) s.outbox in tells_failed source step.failed t (same_desks s t.node s.outbox refl refl c)

  loses_in : (source : Option ℕ) (s : Scene) → Cutting s → Cutting (lost_in source s)
  loses_in None s c = c
  loses_in (Some source) s c = loses_by source s (management.reply_step s.node.manager s.node.logins s.node.keys NoLabel) c

  loses : (s : Scene) → Cutting s → Cutting (lose_operation s)
  unfolding lose_operation
  loses s c = loses_in (management.source_in s.node.manager.operation) s c

  sends : (s : Scene) (peer : ℕ) (r : Option Asked × Layer Purpose) → Cutting s → Cutting (manager_sent s.node (sent_by r s.outbox peer))
  sends s peer (None, layer) c = let t = scene (record s.node { layer = layer }) s.outbox in loses t (same_desks s t.node s.outbox refl refl c)
  sends s peer (Some asked, layer) c = same_desks s (record s.node { layer = layer }) (sent_by (Some asked, layer) s.outbox peer).1.1 refl refl c

  asks_by : (body : Option Body) (source : ℕ) (s : Scene) → Cutting s → Cutting (manager_asked body source s)
  unfolding request_step
  asks_by None source s c = c
  asks_by (Some body) source s c = sends s source (asking_step s.node.layer source body purposes.Management) c

  asks : (source : ℕ) (ask : Ask) (s : Scene) → Cutting s → Cutting (ask_manager source ask s)
  unfolding ask_manager
  asks source ask s c = asks_by (manager_body ask s.node.manager.outgoing) source s c

  manages_with : (source : ℕ) (s : Scene) (r : ManagerStep × (management.Machine × Table)) → First s → Cutting (managed_with source s r)
  manages_with source s (step, (manager, table)) c =
      let t = scene (with_manager s.node (manager, table)) s.outbox in
      let x = decided_by step.decided step.effect source t in
      asks source step.ask (failed_by source step.failed x) (tells_failed source step.failed x (decides step.decided step.effect source t (first_desks s t.node s.outbox refl refl c)))

  manages_in : (source : Option ℕ) (answer : Answer) (s : Scene) → First s → Cutting (managed_in source answer s)
  manages_in None answer s c = c.cutting
  manages_in (Some source) answer s c = manages_with source s (management.reply_step s.node.manager s.node.logins s.node.keys answer) c

  pub manages : (answer : Answer) (s : Scene) → First s → Cutting (manage answer s)
  unfolding manage
  manages answer s c = manages_in (management.source_in s.node.manager.operation) answer s c

  -- ---- a request that is answered, and one that starts an operation
  pub answers : (request : Packet) (bytes : List ℕ) (rcode : ℕ) (given : List ℕ) (s : Scene) → Cutting s → Cutting (answered request bytes rcode given s)
  unfolding answer_step
  answers request bytes rcode given s c = by (answering_step s.node.layer request bytes rcode given)
    where
      by : (r : List ℕ × Layer Purpose) → Cutting (scene (record s.node { layer = (answered_by r s.outbox (header_in request).source).0 }) (answered_by r s.outbox (header_in request).source).1)
      by (given_bytes, layer) = same_desks s (record s.node { layer = layer }) (answered_by (given_bytes, layer) s.outbox (header_in request).source).1 refl refl c

  starts_by : (source : ℕ) (request : Packet) (bytes : List ℕ) (r : Result Ask Busy × management.Machine) (s : Scene) → Cutting s → Cutting (started_by source request bytes r s)
  starts_by source request bytes (Ok ask, m) s c =
      let t = scene (record s.node { manager = m }) s.outbox in
      asks source ask (answered request bytes complete [] t) (answers request bytes complete [] t (same_desks s t.node s.outbox refl refl c))
  starts_by source request bytes (Err busy, m) s c =
      let t = scene (record s.node { manager = m }) s.outbox in answers request bytes conflict_error [] t (same_desks s t.node s.outbox refl refl c)

  pub starts : (orb : ℕ) (request : Packet) (bytes : List ℕ) (s : Scene) → Cutting s → Cutting (start orb request bytes s)
  unfolding start
  starts orb request bytes s c = starts_by (header_in request).source request bytes (management.start_step s.node.manager (header_in request).source orb) s c

  -- ---- a generation is seen, and a second goes by
  holds_one : (login : Option Login) (s : Scene) → Cutting s → Cutting (scene s.node (tell_held login s.outbox))
  holds_one None s c = c
  holds_one (Some login) s c = by (is_live login)
    where
      by : (b : Bool) → Cutting (scene s.node (cond b (with_side s.outbox (sides.Held login.login)) s.outbox))
      by true = side_more s (sides.Held login.login) tt c
      by false = c

  holds_from : (left place : ℕ) (places : List (Option Login)) (s : Scene) → Cutting s → Cutting (scene s.node (held_from left place places s.outbox))
  unfolding held_from
  holds_from zero place places s c = c
  holds_from (suc left) place places s c =
      holds_from left (place + 1) places (scene s.node (tell_held (place_at places place) s.outbox)) (holds_one (place_at places place) s c)

  sees_by : (r : Bool × Layer Purpose) (s : Scene) → First s → Cutting (reset_by r s).1
  sees_by (false, layer) s c = same_desks s (record s.node { layer = layer }) s.outbox refl refl c.cutting
  sees_by (true, layer) s c =
      let t = scene (cleared_node layer s.node) s.outbox in
      let x = cut_all cuts.Reset None t in
      let k = (cuts_all cuts.Reset None t (first_desks s t.node s.outbox refl refl c)).cutting in
      let y = scene (after_reset x.node) x.outbox in
      let z : AreSame x.node (after_reset x.node) = record { desks = length-map x.node.desks disabled; agents = map_agents x.node.desks } in
      holds_from 8 0 x.node.logins.places y (cut_alike x y z refl k)

  pub sees : (generation id : ℕ) (s : Scene) → First s → Cutting (seen generation id s).1
  unfolding seen
  sees generation id s c = sees_by (seeing_step s.node.layer generation id) s c

  expires_from : (left at : ℕ) (logins : List ℕ) (s : Scene) → Cutting s → Cutting (scene s.node (expired_from left at logins s.outbox))
  unfolding expired_from
  expires_from zero at logins s c = c
  expires_from (suc left) at logins s c =
      let side = sides.Expired (slice_index_or logins at 0) in expires_from left (at + 1) logins (scene s.node (with_side s.outbox side)) (side_more s side tt c)

  ticks_by : (r : List ℕ × Table) (s : Scene) → Cutting s → Cutting (ticked_by r s)
  ticks_by (logins, table) s c =
      let t = scene (record s.node { logins = table }) s.outbox in expires_from (length logins) 0 logins t (same_desks s t.node s.outbox refl refl c)

  pub ticks : (s : Scene) → Cutting s → Cutting (ticked s)
  unfolding ticked
  ticks s c = ticks_by (tick_step s.node.logins) s c
