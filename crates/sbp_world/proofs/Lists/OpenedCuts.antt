-- A decision that ends the lists of a login leaves its agent in RESET: a logout and an abort of its task set, the reset of its unit, and that of the target.
use Rattle.sbp_world.proofs.Words.Std.{arith, ◌≡◌, ◌∙◌, refl, sym, ap, subst, ◌<◌, ◌≤◌, ◌+◌, ℕ, zero, suc, nat_eq, nat_lt, Bool, true, false, cond, List, length, Option, Some, None, slice_index_or, nat_tests, length-set}
use Rattle.sbp_world.proofs.Words.Wire.{Asked, Body, Layer, asking_step, CutCause}
use Rattle.sbp_world.proofs.Words.Target.{Login, Table, place_at, Decision, Effect, ManagerStep, Operation, source_in, reset_step, Desk, Purpose, cut, cut_node, new_desk, reset_desk, ask_manager, cut_placed, decided_by, effect_by, failed_by, left_desk, lose_operation, lost_in, manage, managed_in, managed_with, manager_asked, manager_body, manager_sent, place_in, with_manager, Scene, desk_at, login_at, scene, request_step, sent_by, clear_from, clear_unit, cut_all, cut_at, cut_from, is_cut}
use Rattle.sbp_world.proofs.Words.Initiator.{Ask, Answer}
use Rattle.mgmt_agent.specs.declared.decision.Effect.TheVariants as effects
use Rattle.mgmt_agent.specs.Machine.{Machine, reply_step}
use Rattle.sbp_journal.specs.declared.cause.CutCause.TheVariants as cuts
use Rattle.sbp_target.specs.declared.purpose.Purpose.TheVariants as purposes
use Rattle.sbp_world.proofs.Lists.SameAgents.{set_here}
use Rattle.sbp_world.proofs.Lists.OpenCuts.{Listing, is_up, set_less}
use Rattle.sbp_world.proofs.Lists.ManageTerms.{none_is}
use Rattle.sbp_world.proofs.Agents.Managed.{clears_desks}
use Rattle.sbp_world.proofs.Common.{untrue}

up_reset : {A : Type 0} (d : Desk) → is_up (reset_desk d).agent ≡ true → A
unfolding reset_step
up_reset d e = untrue e

-- what asks for something leaves the desks
lost_desks : (source : Option ℕ) (s : Scene) → (lost_in source s).node.desks ≡ s.node.desks
lost_desks None s = refl
lost_desks (Some source) s = refl

loses_desks : (s : Scene) → (lose_operation s).node.desks ≡ s.node.desks
unfolding lose_operation
loses_desks s = lost_desks (source_in s.node.manager.operation) s

sent_desks : (s : Scene) (peer : ℕ) (r : Option Asked × Layer Purpose) → (manager_sent s.node (sent_by r s.outbox peer)).node.desks ≡ s.node.desks
sent_desks s peer (None, layer) = loses_desks (scene (record s.node { layer = layer }) s.outbox)
sent_desks s peer (Some asked, layer) = refl

asked_desks : (body : Option Body) (source : ℕ) (s : Scene) → (manager_asked body source s).node.desks ≡ s.node.desks
unfolding request_step
asked_desks None source s = refl
asked_desks (Some body) source s = sent_desks s source (asking_step s.node.layer source body purposes.Management)

ask_desks : (source : ℕ) (ask : Ask) (s : Scene) → (ask_manager source ask s).node.desks ≡ s.node.desks
unfolding ask_manager
ask_desks source ask s = asked_desks (manager_body ask s.node.manager.outgoing) source s

clear_desks : (unit : ℕ) (s : Scene) → (clear_unit unit s).node.desks ≡ s.node.desks
unfolding clear_unit
clear_desks unit s = refl

-- ---- the agent of a place
module _ (p : ℕ) (b : p < 8) where
  abbrev Down : Scene → Type 0
  Down s = Listing s.node p → ⊥

  by_desks : (s t : Scene) → t.node.desks ≡ s.node.desks → Down s → Down t
  by_desks s t e d l = d (subst (λ (xs : List Desk). is_up (slice_index_or xs p new_desk).agent ≡ true) e l)

  less_cut : (cause : CutCause) (place : ℕ) (s : Scene) → Down s → Down (cut cause place s)
  unfolding cut
  less_cut cause place s d l = d (set_less s.node.desks place p (reset_desk (desk_at s.node place)) (λ e. up_reset (desk_at s.node place) e) l)

  own_cut : (cause : CutCause) (s : Scene) → length s.node.desks ≡ 8 → Down (cut cause p s)
  unfolding cut
  own_cut cause s size l =
      let x : desk_at (cut_node p s.node) p ≡ reset_desk (desk_at s.node p) = set_here (record s.node { layer = (cut_node p s.node).layer }) p (reset_desk (desk_at s.node p)) (omega (arith, size)) in
      up_reset (desk_at s.node p) (sym (ap (λ (d : Desk). is_up d.agent) x) ∙ l)

  cut_size : (cause : CutCause) (place : ℕ) (s : Scene) → length s.node.desks ≡ 8 → length (cut cause place s).node.desks ≡ 8
  unfolding cut
  cut_size cause place s e = length-set s.node.desks place (reset_desk (desk_at s.node place)) ∙ e

  cut_logins : (cause : CutCause) (place : ℕ) (s : Scene) → (cut cause place s).node.logins ≡ s.node.logins
  unfolding cut
  cut_logins cause place s = refl

  -- ---- the lists of a unit, or all
  pub record Sits (logins : Table) (s : Scene) : Type 0 where
    pub size : length s.node.desks ≡ 8
    pub logins_are : s.node.logins ≡ logins

  module _ (logins : Table) (cause : CutCause) (unit : Option ℕ) where
    pick_sits : (c : Bool) (x y : Scene) → Sits logins x → Sits logins y → Sits logins (cond c x y)
    pick_sits true x y h k = h
    pick_sits false x y h k = k

    at_sits : (place : ℕ) (s : Scene) → Sits logins s → Sits logins (cut_at cause unit place s)
    unfolding cut_at
    at_sits place s h = pick_sits (is_cut unit (login_at s.node place)) (cut cause place s) s (record { size = cut_size cause place s h.size; logins_are = cut_logins cause place s ∙ h.logins_are }) h

    pick_down : (c : Bool) (x y : Scene) → Down x → Down y → Down (cond c x y)
    pick_down true x y h k = h
    pick_down false x y h k = k

    at_less : (place : ℕ) (s : Scene) → Down s → Down (cut_at cause unit place s)
    unfolding cut_at
    at_less place s d = pick_down (is_cut unit (login_at s.node place)) (cut cause place s) s (less_cut cause place s d) d

    from_less : (left place : ℕ) (s : Scene) → Down s → Down (cut_from left place cause unit s)
    unfolding cut_from
    from_less zero place s d = d
    from_less (suc left) place s d = from_less left (place + 1) (cut_at cause unit place s) (at_less place s d)

    so_down : (c : Bool) (x y : Scene) → c ≡ true → Down x → Down (cond c x y)
    so_down true x y e h = h
    so_down false x y e h = untrue e

    at_own : (s : Scene) → Sits logins s → is_cut unit (place_at logins.places p) ≡ true → Down (cut_at cause unit p s)
    unfolding cut_at
    at_own s h hit = so_down (is_cut unit (login_at s.node p)) (cut cause p s) s (ap (λ (t : Table). is_cut unit (place_at t.places p)) h.logins_are ∙ hit) (own_cut cause s h.size)

    from_hits : (left place : ℕ) (s : Scene) → place ≤ p → p < place + left → Sits logins s → is_cut unit (place_at logins.places p) ≡ true → Down (cut_from left place cause unit s)
    unfolding cut_from
    from_hits zero place s l m h hit = absurd (omega (arith, l, m))
    from_hits (suc left) place s l m h hit =
        by (nat_eq place p) refl (λ e. from_hits left (place + 1) (cut_at cause unit place s) (grind (arith, nat_tests)) (omega (arith, m)) (at_sits place s h) hit)
      where
        by : (c : Bool) → nat_eq place p ≡ c → (nat_eq place p ≡ false → Down (cut_from left (place + 1) cause unit (cut_at cause unit place s))) → Down (cut_from left (place + 1) cause unit (cut_at cause unit place s))
        by true e later =
            let same : p ≡ place = grind (arith, nat_tests) in
            from_less left (place + 1) (cut_at cause unit place s) (subst (λ n. Down (cut_at cause unit n s)) same (at_own s h hit))
        by false e later = later e

  -- ---- an effect
  abbrev pub Hits : Effect → List (Option Login) → Type 0
  Hits (effects.Left place) places = place ≡ p
  Hits (effects.AbortSet place) places = place ≡ p
  Hits (effects.UnitReset unit) places = is_cut (Some unit) (place_at places p) ≡ true
  Hits effects.TargetReset places = Unit {0}
  Hits effect places = ⊥

  placed_down : (cause : CutCause) (place : ℕ) (s : Scene) → length s.node.desks ≡ 8 → place ≡ p → Down (cut_placed (place_in place) cause s)
  placed_down cause place s size e =
      let there : place_in p ≡ Some p = ap (λ (x : Bool). cond x (Some p) None) (let z : nat_lt p 8 ≡ true = grind (arith, nat_tests) in z) in
      subst (λ (x : Option ℕ). Down (cut_placed x cause s)) (sym (ap place_in e ∙ there)) (own_cut cause s size)

  left_down : (place : ℕ) (s : Scene) → Down s → Down (scene (left_desk place s.node) s.outbox)
  left_down place s d l = d (set_less s.node.desks place p (record (desk_at s.node place) { is_enabled = false }) (λ e. e) l)

  effect_down : (effect : Effect) (login : ℕ) (s : Scene) → length s.node.desks ≡ 8 → Hits effect s.node.logins.places → Down (effect_by effect login s)
  effect_down (effects.Left place) login s size h = left_down place (cut_placed (place_in place) cuts.Logout s) (placed_down cuts.Logout place s size h)
  effect_down (effects.AbortSet place) login s size h = placed_down cuts.AbortSet place s size h
  effect_down (effects.UnitReset unit) login s size h =
      let t = cut_all cuts.UnitReset (Some unit) s in
      let d = from_hits s.node.logins cuts.UnitReset (Some unit) 8 0 s (omega arith) (omega arith) (record { size = size; logins_are = refl }) h in
      pick_down s.node.logins cuts.UnitReset (Some unit) (nat_lt unit (length t.node.units)) (clear_unit unit t) t (by_desks t (clear_unit unit t) (clear_desks unit t) d) d
  effect_down effects.TargetReset login s size h =
      let t = cut_all cuts.TargetReset None s in
      by_desks t (clear_from (length t.node.units) 0 t) (clears_desks (length t.node.units) 0 t) (from_hits s.node.logins cuts.TargetReset None 8 0 s (omega arith) (omega arith) (record { size = size; logins_are = refl }) refl)
  effect_down effects.Nothing login s size h = absurd h
  effect_down (effects.Entered place replaced) login s size h = absurd h
  effect_down (effects.Back place) login s size h = absurd h
  effect_down (effects.Abort place orb) login s size h = absurd h

  -- ---- a step of the management agent
  decided_down : (d : Option Decision) (one : Decision) (effect : Effect) (source : ℕ) (s : Scene) → d ≡ Some one → length s.node.desks ≡ 8 → Hits effect s.node.logins.places → Down (decided_by d effect source s)
  unfolding decided_by
  decided_down None one effect source s e size h = none_is one e
  decided_down (Some d) one effect source s e size h = effect_down effect d.subject s size h

  with_down : (source : ℕ) (s : Scene) (r : ManagerStep × (Machine × Table)) (one : Decision) → r.0.decided ≡ Some one → length s.node.desks ≡ 8 → Hits r.0.effect r.1.1.places → Down (managed_with source s r)
  with_down source s (step, (m, table)) one e size h =
      let t = scene (with_manager s.node (m, table)) s.outbox in
      let x = decided_by step.decided step.effect source t in
      let y = failed_by source step.failed x in
      by_desks y (ask_manager source step.ask y) (ask_desks source step.ask y) (by_desks x y refl (decided_down step.decided one step.effect source t e size h))

  in_down : (source : Option ℕ) (answer : Answer) (s : Scene) → (n : ℕ) → source ≡ Some n → (let r = reply_step s.node.manager s.node.logins s.node.keys answer in (one : Decision) → r.0.decided ≡ Some one → length s.node.desks ≡ 8 → Hits r.0.effect r.1.1.places → Down (managed_in source answer s))
  in_down None answer s n f one e size h = none_is n f
  in_down (Some source) answer s n f one e size h = with_down source s (reply_step s.node.manager s.node.logins s.node.keys answer) one e size h

  pub manage_down : (answer : Answer) (s : Scene) (was : Operation) → s.node.manager.operation ≡ Some was → (let r = reply_step s.node.manager s.node.logins s.node.keys answer in (one : Decision) → r.0.decided ≡ Some one → length s.node.desks ≡ 8 → Hits r.0.effect r.1.1.places → Listing (manage answer s).node p → ⊥)
  unfolding manage
  manage_down answer s was is one e size h = in_down (source_in s.node.manager.operation) answer s was.source (ap source_in is) one e size h
