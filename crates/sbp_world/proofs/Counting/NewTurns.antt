-- In a call of the target the ORB whose turn comes was appended, its list was not cut, and nobody had begun it; behind the call it is begun, and its agent is up.
use Rattle.sbp_world.proofs.Common.{not_true}
use Rattle.sbp_world.proofs.Words.Std.{arith, ◌≡◌, ◌∙◌, refl, sym, ap, subst, inl, inr, ◌⊎◌, ◌<◌, ◌&&◌, ◌||◌, not, ℕ, nat_eq, Bool, true, false, List, Some, nat_tests, false≢true}
use Rattle.sbp_world.proofs.Words.Wire.{Holder, Moment, Side}
use Rattle.sbp_world.proofs.Words.Target.{Machine, TargetScene, desk_at, is_reset, state_in}
use Rattle.sbp_world.proofs.Words.Laws.{appends, ends, is_cut}
use Rattle.sbp_world.proofs.Words.World.{IsUp, WorldState, holder, initiator_in, machine_at}
use Rattle.command_agent.specs.Making.{is_at_work}
use Rattle.sbp_world.proofs.Agents.Management.Still.{hist}
use Rattle.sbp_world.proofs.Counting.Grown.{HasEnded, cut_still}
use Rattle.sbp_world.proofs.Counting.Tells.{all_unlisted, beside_none, end_of, ends_in_over, no_end, over_rests}
use Rattle.sbp_world.proofs.Counting.Turns.{IsGround, IsTurn, acts_other, scene_of, told_of, told_world, turn, work_up}
use Rattle.sbp_world.proofs.Counting.Worked.{Begun, IsWorking, WorksOn, has_ended, not_both, was_cut, works}
use Rattle.sbp_world.proofs.Lists.Busy.{is_busy}
use Rattle.sbp_world.proofs.Lists.BusyCuts.{Cutting, WasCut}
use Rattle.sbp_world.proofs.Lists.BusyDeliveries.{Called, acts, points, rests}
use Rattle.sbp_world.proofs.Lists.BusyFollows.{Acts, AreOf, has_end}
use Rattle.sbp_world.proofs.Lists.EndingCalls.{call_called}
use Rattle.sbp_world.proofs.Lists.EndingSteps.{over_up}
use Rattle.sbp_world.proofs.Lists.Full.{IsFull, full_closed}
use Rattle.sbp_world.proofs.Lists.TurnCalls.{IsCalled}
use Rattle.sbp_world.specs.Counting.Rooms.{ends_at, has_turn, is_at_work_in}

-- An ORB whose turn comes: it was appended, nobody had begun it, and it is begun behind the call.
pub record IsNew (before now : List Moment) (w v : WorldState) (p : ℕ) : Type 0 where
  pub n : ℕ
  pub list : (holder v p).list ≡ Some n
  pub appended : ends before (initiator_in v p) n < appends before (initiator_in v p) n
  pub unbegun : Begun before w (initiator_in v p) n (ends before (initiator_in v p) n) → ⊥
  pub begun : Begun now v (initiator_in v p) n (ends before (initiator_in v p) n)
  pub up : IsUp v (initiator_in v p) p

module _ (past : List Moment) (w v : WorldState) (ground : IsGround (hist past w) (hist past v) w v) (c : IsCalled past w v) where
  abbrev before : List Moment
  before = hist past w

  abbrev now : List Moment
  now = hist past v

  abbrev t : TargetScene
  t = scene_of past w v c

  abbrev told : List Side
  told = told_of past w v c

  abbrev x : WorldState
  x = told_world past w v c

  this : IsTurn past w v c
  this = turn past w v ground c

  -- no agent that was at work is of the initiator of one that is up then
  module _ (q : ℕ) (b : q < 8) (others : (p : ℕ) → nat_eq p q ≡ false → (desk_at t.node p).agent ≡ machine_at w p) (of : AreOf q told) (idle : is_at_work_in w q ≡ false) where
    nobody : IsUp v (initiator_in v q) q → (n : ℕ) → WorksOn w (initiator_in v q) n → ⊥
    nobody up n h = by (nat_eq h.place q) refl
      where
        by : (y : Bool) → nat_eq h.place q ≡ y → ⊥
        by true f = not_both (is_at_work_in w q) idle (subst (λ r. is_at_work_in w r ≡ true) (let same : h.place ≡ q = grind (arith, nat_tests) in same) h.busy)
        by false f =
            let e : is_at_work_in v h.place ≡ true = ap (λ (m : Machine). is_at_work m.phase) (this.machine_now h.place ∙ others h.place f) ∙ h.busy in
            let up_there : IsUp v (initiator_in v q) h.place = record { up = work_up (machine_at v h.place).phase e; own = this.owner h.place h.small e ∙ h.initiator_is } in
            let same : h.place ≡ q = ground.apart_now (initiator_in v q) q h.place (ground.calm_now (initiator_in v q)) b h.small up up_there in
            false≢true (sym f ∙ (let z : nat_eq h.place q ≡ true = grind (arith, nat_tests) in z))

    -- the agent is at work behind the call
    over_not : is_at_work_in v q ≡ true → has_end told ≡ true → ⊥
    over_not e f =
        over_rests (desk_at t.node q).agent.phase (ends_in_over w c.good t q of f (call_called w c.good c.call))
        (ap (λ (m : Machine). is_at_work m.phase) (sym (this.machine_now q)) ∙ e)

    new_worked : is_at_work_in v q ≡ true → IsNew before now w v q
    new_worked e =
        let i = initiator_in v q in
        let k = ground.working_now q b e (ground.calm_now i) in
        let ends_same : ends now i k.n ≡ ends before i k.n = this.same_ends i k.n (no_end past q i k.n told c.u of (not_true (has_end told) (over_not e))) in
        let count = this.goes.counts i k.n in
        let next = k.next in
        record {
          n = k.n;
          list = k.list;
          appended = omega (arith, ends_same, count, next);
          unbegun = unbegun k;
          begun = works (sym ends_same) (record { place = q; small = b; initiator_is = refl; list = k.list; busy = e });
          up = this.up_now q e;
        }
      where
        unbegun : (k : IsWorking now v q) → Begun before w (initiator_in v q) k.n (ends before (initiator_in v q) k.n) → ⊥
        unbegun k (was_cut f) = not_both (is_cut now (initiator_in v q) k.n) k.uncut (cut_still before now this.goes (initiator_in v q) k.n f)
        unbegun k (has_ended f) = omega (arith, f)
        unbegun k (works f h) = nobody (this.up_now q e) k.n h

    -- or its ORB ended in it
    new_ended : has_end told ≡ true → IsNew before now w v q
    new_ended f =
        let i = initiator_in v q in
        let h : HasEnded before now i = subst (HasEnded before now) (sym own) (this.ended_now q of f) in
        record {
          n = h.n;
          list = ground.latest_now i q h.n (ground.calm_now i) b up (h.latest ∙ sym (this.goes.lists_are i));
          appended = h.next;
          unbegun = unbegun h;
          begun = has_ended h.more;
          up = up;
        }
      where
        up_there : not (is_reset (state_in (machine_at v q).phase)) ≡ true
        up_there =
            ap (λ (m : Machine). not (is_reset (state_in m.phase))) (this.machine_now q)
            ∙ over_up (desk_at t.node q).agent.phase (ends_in_over w c.good t q of f (call_called w c.good c.call))

        up : IsUp v (initiator_in v q) q
        up = record { up = up_there; own = refl }

        own : initiator_in v q ≡ initiator_in w q
        own = ground.owns q b up_there

        unbegun : (h : HasEnded before now (initiator_in v q)) → Begun before w (initiator_in v q) h.n (ends before (initiator_in v q) h.n) → ⊥
        unbegun h (was_cut g) = not_both (is_cut before (initiator_in v q) h.n) h.uncut g
        unbegun h (has_ended g) = omega (arith, g)
        unbegun h (works g k) = nobody up h.n k

    new_here : (y : Bool) → is_at_work_in v q ≡ y → (y || ends_at q told) ≡ true → IsNew before now w v q
    new_here true e f = new_worked e
    new_here false e f = new_ended (end_of q q told of f).1

  -- no other place has a turn
  module _ (q : ℕ) (others : (p : ℕ) → nat_eq p q ≡ false → (desk_at t.node p).agent ≡ machine_at w p) (of : AreOf q told) where
    new_other : (p : ℕ) → nat_eq p q ≡ false → is_at_work_in w p ≡ false → (y : Bool) → is_at_work_in v p ≡ y → (y || ends_at p told) ≡ true → IsNew before now w v p
    new_other p f was true e g = not_both (is_at_work_in w p) was (ap (λ (m : Machine). is_at_work m.phase) (sym (others p f) ∙ sym (this.machine_now p)) ∙ e)
    new_other p f was false e g =
        let same : p ≡ q = (end_of p q told of g).0 in absurd (false≢true (sym f ∙ (let z : nat_eq p q ≡ true = grind (arith, nat_tests) in z)))

  -- a call that tells of no step begins none
  rests_not : Cutting (λ q m. IsFull m) full_closed (machine_at w) t → (p : ℕ) → p < 8 → is_at_work_in w p ≡ false → (y : Bool) → is_at_work_in v p ≡ y → (y || ends_at p told) ≡ true → ⊥
  rests_not r p b was false e f = beside_none p told r.beside f
  rests_not r p b was true e f = by (r.stays p)
    where
      k : IsWorking now v p
      k = ground.working_now p b e (ground.calm_now (initiator_in v p))

      same_u : holder x p ≡ holder c.u p
      same_u = all_unlisted told c.u r.beside p k.n (ap (λ (h : Holder). h.list) (sym (this.holder_now p)) ∙ k.list)

      at : holder v p ≡ holder c.u p
      at = this.holder_now p ∙ same_u

      by : ((desk_at t.node p).agent.phase ≡ (machine_at w p).phase) ⊎ WasCut p told → ⊥
      by (inl same) = not_both (is_at_work_in w p) was (ap is_at_work (sym same) ∙ (ap (λ (m : Machine). is_at_work m.phase) (sym (this.machine_now p)) ∙ e))
      by (inr cut) =
          let list : (holder c.u p).list ≡ Some k.n = ap (λ (h : Holder). h.list) (sym at) ∙ k.list in
          not_both (is_cut now (initiator_in v p) k.n) k.uncut (ap (λ (h : Holder). is_cut now h.initiator k.n) at ∙ this.cut_now p k.n list r cut)

  acts_new : (q : ℕ) (b : q < 8) (Known : Type 0) → Acts q b Known ⊥ (λ p m. IsFull m) full_closed (machine_at w) t → (p : ℕ) → is_at_work_in w p ≡ false → (is_at_work_in v p || ends_at p told) ≡ true → IsNew before now w v p
  acts_new q b Known a p was f = by (nat_eq p q) refl
    where
      by : (y : Bool) → nat_eq p q ≡ y → IsNew before now w v p
      by true e =
          let same : p ≡ q = grind (arith, nat_tests) in
          subst (IsNew before now w v) (sym same)
          (new_here q b (acts_other w t q b Known a) a.of (subst (λ r. is_at_work_in w r ≡ false) same was) (is_at_work_in v q) refl (subst (λ r. (is_at_work_in v r || ends_at r told) ≡ true) same f))
      by false e = new_other q (acts_other w t q b Known a) a.of p e was (is_at_work_in v p) refl f

  turn_parts : (x y : Bool) → (not x && y) ≡ true → (x ≡ false) × (y ≡ true)
  turn_parts true y e = absurd (false≢true e)
  turn_parts false true e = (refl, refl)
  turn_parts false false e = absurd (false≢true e)

  pub turn_is_new : (p : ℕ) → p < 8 → has_turn w v told p ≡ true → IsNew before now w v p
  turn_is_new p b e = by c.called
    where
      parts : (is_at_work_in w p ≡ false) × ((is_at_work_in v p || ends_at p told) ≡ true)
      parts = turn_parts (is_at_work_in w p) (is_at_work_in v p || ends_at p told) e

      by : Called w c.good ⊥ (λ p m. IsFull m) full_closed c.layer t → IsNew before now w v p
      by (rests r) = absurd (rests_not r p b parts.0 (is_at_work_in v p) refl parts.1)
      by (acts q c h a) = acts_new q c (is_busy (machine_at w q).phase ≡ true) a p parts.0 parts.1
      by (points q c a) = acts_new q c (Unit {0}) a p parts.0 parts.1

  -- an agent of which the turn of an ORB came is up
  pub turn_up : (p : ℕ) → p < 8 → has_turn w v told p ≡ true → not (is_reset (state_in (machine_at v p).phase)) ≡ true
  turn_up p b e = (turn_is_new p b e).up.up
