-- Agents are put into RESET where lists are cut.
use Rattle.sbp_world.proofs.Words.Std.{arith, ◌≡◌, ◌≢◌, ◌∙◌, refl, sym, ap, subst, ℕ, zero, suc, ◌+◌, ◌<◌, ◌≤◌, nat_eq, Bool, true, false, cond, length, Option, length-set, nat_tests}
use Rattle.sbp_world.proofs.Words.Wire.{CutCause}
use Rattle.sbp_world.proofs.Words.Target.{Table, place_at, Machine, reset_step, Desk, cut, cut_node, new_desk, reset_desk, NodeState, Scene, desk_at, login_at, cut_at, cut_from, is_cut}
use Rattle.sbp_world.proofs.Words.Laws.{Agent, cut_agent}
use Rattle.label_table.proofs.Owned.{set_at}
use Rattle.sbp_world.proofs.Agents.Follows.{Settled}
use Rattle.sbp_world.proofs.Agents.Steps.{reset_any}
use Rattle.sbp_world.proofs.Agents.Management.Places.{next_below, other_id}
use Rattle.sbp_world.proofs.Common.{itself as same_id}

-- a cut agent is settled with any one that is in RESET
pub cut_settled : (m : Machine) (pointer : Option ℕ) (a : Agent) → a.pointer ≡ pointer → Settled (reset_step m) pointer (cut_agent a)
unfolding reset_step
cut_settled m pointer a p = record {
  machine = reset_any a.untold a.machine m;
  main = refl;
  ahead = refl;
  pointer_is = p;
  asks = refl;
  asks_ahead = refl;
}

-- what a desk waits for stays
pub record IsKept (before now : Desk) : Type 0 where
  pub main : now.main ≡ before.main
  pub ahead : now.ahead ≡ before.ahead

pub kept_self : (d : Desk) → IsKept d d
kept_self d = record { main = refl; ahead = refl }

kept_then : (d e : Desk) (now : Desk) → now ≡ e → IsKept d e → IsKept d now
kept_then d e now f k = subst (λ (x : Desk). IsKept d x) (sym f) k

-- ---- what cuts make of desks: `test` tells the places in which the list is cut
pub record AreCut (test : ℕ → Bool) (before now : NodeState) : Type 0 where
  pub size : length now.desks ≡ 8
  pub logins : now.logins ≡ before.logins
  pub agent : (p : ℕ) → p < 8 → (desk_at now p).agent ≡ cond (test p) (reset_step (desk_at before p).agent) (desk_at before p).agent
  pub pointer : (p : ℕ) → p < 8 → (desk_at now p).pointer ≡ (desk_at before p).pointer
  pub kept : (p : ℕ) → p < 8 → test p ≡ false → IsKept (desk_at before p) (desk_at now p)

module _ (before : NodeState) where
  one_cut : (q : ℕ) (node : NodeState) → q < 8 → length node.desks ≡ 8 → (p : ℕ) → desk_at (cut_node q node) p ≡ cond (nat_eq p q) (reset_desk (desk_at node q)) (desk_at node p)
  one_cut q node b s p = set_at node.desks q p (reset_desk (desk_at node q)) new_desk (omega arith)

  place_is : (p q : ℕ) → nat_eq p q ≡ true → p ≡ q
  place_is p q e = grind (arith, nat_tests)

  -- the places from `from` on are as they were
  pub record Sweeps (test : ℕ → Bool) (from : ℕ) (node : NodeState) : Type 0 where
    pub size : length node.desks ≡ 8
    pub logins : node.logins ≡ before.logins
    pub agent : (p : ℕ) → p < from → (desk_at node p).agent ≡ cond (test p) (reset_step (desk_at before p).agent) (desk_at before p).agent
    pub rest : (p : ℕ) → from ≤ p → (desk_at node p).agent ≡ (desk_at before p).agent
    pub pointer : (p : ℕ) → (desk_at node p).pointer ≡ (desk_at before p).pointer
    pub kept : (p : ℕ) → p < from → test p ≡ false → IsKept (desk_at before p) (desk_at node p)
    pub kept_rest : (p : ℕ) → from ≤ p → IsKept (desk_at before p) (desk_at node p)

  cut_pointer : (q : ℕ) (node : NodeState) → q < 8 → length node.desks ≡ 8 → (p : ℕ) → (desk_at (cut_node q node) p).pointer ≡ (desk_at node p).pointer
  cut_pointer q node b s p = ap (λ (d : Desk). d.pointer) (one_cut q node b s p) ∙ by (nat_eq p q) refl
    where
      by : (x : Bool) → nat_eq p q ≡ x → (cond x (reset_desk (desk_at node q)) (desk_at node p)).pointer ≡ (desk_at node p).pointer
      by true e = ap (λ (k : ℕ). (desk_at node k).pointer) (sym (place_is p q e))
      by false e = refl

  cut_own : (q : ℕ) (node : NodeState) → q < 8 → length node.desks ≡ 8 → (desk_at (cut_node q node) q).agent ≡ reset_step (desk_at node q).agent
  cut_own q node b s = ap (λ (d : Desk). d.agent) (one_cut q node b s q ∙ ap (λ (x : Bool). cond x (reset_desk (desk_at node q)) (desk_at node q)) (same_id q))

  off_cut : (q : ℕ) (node : NodeState) → q < 8 → length node.desks ≡ 8 → (p : ℕ) → p ≢ q → desk_at (cut_node q node) p ≡ desk_at node p
  off_cut q node b s p n = one_cut q node b s p ∙ ap (λ (x : Bool). cond x (reset_desk (desk_at node q)) (desk_at node p)) (other_id p q n)

  cut_other : (q : ℕ) (node : NodeState) → q < 8 → length node.desks ≡ 8 → (p : ℕ) → p ≢ q → (desk_at (cut_node q node) p).agent ≡ (desk_at node p).agent
  cut_other q node b s p n = ap (λ (d : Desk). d.agent) (one_cut q node b s p ∙ ap (λ (x : Bool). cond x (reset_desk (desk_at node q)) (desk_at node p)) (other_id p q n))

  not_of : (p k : ℕ) → nat_eq p k ≡ false → p ≢ k
  not_of p k e = grind (arith, nat_tests)

  sweep_cut : (test : ℕ → Bool) (k : ℕ) (node : NodeState) → k < 8 → test k ≡ true → Sweeps test k node → Sweeps test (k + 1) (cut_node k node)
  sweep_cut test k node b t w = record {
    size = length-set node.desks k (reset_desk (desk_at node k)) ∙ w.size;
    logins = w.logins;
    agent = λ p l. by (nat_eq p k) p l refl;
    rest = λ p l. cut_other k node b w.size p (λ e. absurd (omega arith)) ∙ w.rest p (omega arith);
    pointer = λ p. cut_pointer k node b w.size p ∙ w.pointer p;
    kept = λ p l f. kept_by (nat_eq p k) p l f refl;
    kept_rest = λ p l. kept_then (desk_at before p) (desk_at node p) (desk_at (cut_node k node) p) (off_cut k node b w.size p (λ e. absurd (omega arith))) (w.kept_rest p (omega arith));
  }
    where
      kept_by : (x : Bool) (p : ℕ) → p < k + 1 → test p ≡ false → nat_eq p k ≡ x → IsKept (desk_at before p) (desk_at (cut_node k node) p)
      kept_by true p l f e = absurd (let clash : true ≡ false = sym t ∙ ap test (sym (place_is p k e)) ∙ f in cc)
      kept_by false p l f e = kept_then (desk_at before p) (desk_at node p) (desk_at (cut_node k node) p) (off_cut k node b w.size p (not_of p k e)) (w.kept p (next_below p k l e) f)

      by : (x : Bool) (p : ℕ) → p < k + 1 → nat_eq p k ≡ x → (desk_at (cut_node k node) p).agent ≡ cond (test p) (reset_step (desk_at before p).agent) (desk_at before p).agent
      by true p l e =
          subst (λ (i : ℕ). (desk_at (cut_node k node) i).agent ≡ cond (test i) (reset_step (desk_at before i).agent) (desk_at before i).agent) (sym (place_is p k e))
          (cut_own k node b w.size ∙ ap reset_step (w.rest k (omega arith)) ∙ ap (λ (c : Bool). cond c (reset_step (desk_at before k).agent) (desk_at before k).agent) (sym t))
      by false p l e = cut_other k node b w.size p (not_of p k e) ∙ w.agent p (next_below p k l e)

  sweep_skip : (test : ℕ → Bool) (k : ℕ) (node : NodeState) → test k ≡ false → Sweeps test k node → Sweeps test (k + 1) node
  sweep_skip test k node t w = record {
    size = w.size;
    logins = w.logins;
    agent = λ p l. by (nat_eq p k) p l refl;
    rest = λ p l. w.rest p (omega arith);
    pointer = w.pointer;
    kept = λ p l f. kept_by (nat_eq p k) p l f refl;
    kept_rest = λ p l. w.kept_rest p (omega arith);
  }
    where
      kept_by : (x : Bool) (p : ℕ) → p < k + 1 → test p ≡ false → nat_eq p k ≡ x → IsKept (desk_at before p) (desk_at node p)
      kept_by true p l f e = let same : p ≡ k = place_is p k e in w.kept_rest p (omega arith)
      kept_by false p l f e = w.kept p (next_below p k l e) f

      by : (x : Bool) (p : ℕ) → p < k + 1 → nat_eq p k ≡ x → (desk_at node p).agent ≡ cond (test p) (reset_step (desk_at before p).agent) (desk_at before p).agent
      by true p l e =
          subst (λ (i : ℕ). (desk_at node i).agent ≡ cond (test i) (reset_step (desk_at before i).agent) (desk_at before i).agent) (sym (place_is p k e))
          (w.rest k (omega arith) ∙ ap (λ (c : Bool). cond c (reset_step (desk_at before k).agent) (desk_at before k).agent) (sym t))
      by false p l e = w.agent p (next_below p k l e)

  abbrev Where : Option ℕ → ℕ → Bool
  Where unit p = is_cut unit (login_at before p)

  cut_logins : (cause : CutCause) (k : ℕ) (s : Scene) → (cut cause k s).node ≡ cut_node k s.node
  unfolding cut
  cut_logins cause k s = refl

  sweep_if : (x : Bool) (cause : CutCause) (unit : Option ℕ) (k : ℕ) (s : Scene) → k < 8 → Where unit k ≡ x → Sweeps (Where unit) k s.node → Sweeps (Where unit) (k + 1) (cond x (cut cause k s) s).node
  sweep_if true cause unit k s b e w = subst (λ (n : NodeState). Sweeps (Where unit) (k + 1) n) (sym (cut_logins cause k s)) (sweep_cut (Where unit) k s.node b e w)
  sweep_if false cause unit k s b e w = sweep_skip (Where unit) k s.node e w

  sweep_one : (cause : CutCause) (unit : Option ℕ) (k : ℕ) (s : Scene) → k < 8 → Sweeps (Where unit) k s.node → Sweeps (Where unit) (k + 1) (cut_at cause unit k s).node
  unfolding cut_at
  sweep_one cause unit k s b w =
      sweep_if (is_cut unit (login_at s.node k)) cause unit k s b (ap (λ (t : Table). is_cut unit (place_at t.places k)) (sym w.logins)) w

  sweep_from : (left k : ℕ) (cause : CutCause) (unit : Option ℕ) (s : Scene) → k + left ≡ 8 → Sweeps (Where unit) k s.node → Sweeps (Where unit) 8 (cut_from left k cause unit s).node
  unfolding cut_from
  sweep_from zero k cause unit s e w = subst (λ (n : ℕ). Sweeps (Where unit) n s.node) (let same : k ≡ 8 = omega arith in same) w
  sweep_from (suc left) k cause unit s e w = sweep_from left (k + 1) cause unit (cut_at cause unit k s) (omega arith) (sweep_one cause unit k s (omega arith) w)

pub all_cut : (cause : CutCause) (unit : Option ℕ) (s : Scene) → length s.node.desks ≡ 8 → AreCut (λ p. is_cut unit (login_at s.node p)) s.node (cut_from 8 0 cause unit s).node
all_cut cause unit s size =
    let w = sweep_from s.node 8 0 cause unit s refl (record { size = size; logins = refl; agent = λ p l. absurd (omega arith); rest = λ p l. refl; pointer = λ p. refl; kept = λ p l f. absurd (omega arith); kept_rest = λ p l. kept_self (desk_at s.node p) }) in
    record { size = w.size; logins = w.logins; agent = w.agent; pointer = λ p l. w.pointer p; kept = λ p l f. w.kept p l f }

-- one list is cut
pub place_cut : (cause : CutCause) (q : ℕ) (s : Scene) → q < 8 → length s.node.desks ≡ 8 → AreCut (λ p. nat_eq p q) s.node (cut cause q s).node
unfolding cut
place_cut cause q s b size = record {
  size = length-set s.node.desks q (reset_desk (desk_at s.node q)) ∙ size;
  logins = refl;
  agent = λ p l. ap (λ (d : Desk). d.agent) (one_cut s.node q s.node b size p) ∙ by (nat_eq p q) p refl;
  pointer = λ p l. cut_pointer s.node q s.node b size p;
  kept = λ p l f. kept_then (desk_at s.node p) (desk_at s.node p) (desk_at (cut_node q s.node) p) (off_cut s.node q s.node b size p (not_of s.node p q f)) (kept_self (desk_at s.node p));
}
  where
    by : (x : Bool) (p : ℕ) → nat_eq p q ≡ x → (cond x (reset_desk (desk_at s.node q)) (desk_at s.node p)).agent ≡ cond x (reset_step (desk_at s.node p).agent) (desk_at s.node p).agent
    by true p e = ap (λ (k : ℕ). reset_step (desk_at s.node k).agent) (sym (place_is s.node p q e))
    by false p e = refl
