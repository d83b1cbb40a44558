-- In a call of the target an ORB that was begun stays so, since an agent that was at work is still, or its ORB ended, or its list was cut.
use Rattle.sbp_world.proofs.Words.Std.{arith, ◌≡◌, ◌∙◌, refl, sym, ap, subst, inl, inr, ◌⊎◌, ◌<◌, ℕ, suc, nat_eq, nat_lt, Bool, true, false, List, Some, nat_tests, same_Some}
use Rattle.sbp_world.proofs.Words.Wire.{Holder, Moment, Side}
use Rattle.sbp_world.proofs.Words.Target.{Machine, TargetScene, desk_at}
use Rattle.sbp_world.proofs.Words.Laws.{ends, is_cut, lists}
use Rattle.sbp_world.proofs.Words.World.{WorldState, holder, initiator_in, machine_at}
use Rattle.command_agent.specs.Making.{is_at_work}
use Rattle.sbp_world.proofs.Agents.Management.Still.{hist}
use Rattle.sbp_world.proofs.Counting.Grown.{cut_still, ends_more}
use Rattle.sbp_world.proofs.Counting.Turns.{IsGround, IsTurn, acts_other, scene_of, told_of, turn, work_up}
use Rattle.sbp_world.proofs.Counting.Worked.{Begun, IsWorking, WorksOn, busy_is, has_ended, was_cut, works}
use Rattle.sbp_world.proofs.Lists.Busy.{is_busy}
use Rattle.sbp_world.proofs.Lists.BusyCuts.{Cutting, WasCut}
use Rattle.sbp_world.proofs.Lists.BusyDeliveries.{Called, acts, points, rests}
use Rattle.sbp_world.proofs.Lists.BusyFollows.{Acts, has_end}
use Rattle.sbp_world.proofs.Lists.Full.{IsFull, full_closed}
use Rattle.sbp_world.proofs.Lists.TurnCalls.{IsCalled}
use Rattle.sbp_world.specs.Counting.Rooms.{is_at_work_in}

module _ (past : List Moment) (w v : WorldState) (ground : IsGround (hist past w) (hist past v) w v) (c : IsCalled past w v) where
  abbrev before : List Moment
  before = hist past w

  abbrev now : List Moment
  now = hist past v

  abbrev t : TargetScene
  t = scene_of past w v c

  abbrev told : List Side
  told = told_of past w v c

  this : IsTurn past w v c
  this = turn past w v ground c

  -- ---- an agent that was at work is still, or its list was cut, or its ORB ended
  data Remains (p n : ℕ) : Type 0 where
    cut_in : is_cut now (initiator_in w p) n ≡ true → Remains p n
    ended_in : ends before (initiator_in w p) n < ends now (initiator_in w p) n → Remains p n
    works_still : is_at_work_in v p ≡ true → Remains p n

  still_works : (p n : ℕ) → (desk_at t.node p).agent.phase ≡ (machine_at w p).phase → is_at_work_in w p ≡ true → Remains p n
  still_works p n same e = works_still (ap (λ (m : Machine). is_at_work m.phase) (this.machine_now p) ∙ (ap is_at_work same ∙ e))

  cut_remains : Cutting (λ q m. IsFull m) full_closed (machine_at w) t → (p : ℕ) → (k : IsWorking before w p) → is_at_work_in w p ≡ true → Remains p k.n
  cut_remains c_is p k e = by (c_is.stays p)
    where
      by : ((desk_at t.node p).agent.phase ≡ (machine_at w p).phase) ⊎ WasCut p told → Remains p k.n
      by (inl same) = still_works p k.n same e
      by (inr cut) =
          cut_in (subst (λ i. is_cut now i k.n ≡ true) (ap (λ (h : Holder). h.initiator) (this.holder_u p))
          (this.cut_now p k.n (ap (λ (h : Holder). h.list) (this.holder_u p) ∙ k.list) c_is cut))

  module _ (q : ℕ) (b : q < 8) (Known : Type 0) (a : Acts q b Known ⊥ (λ p m. IsFull m) full_closed (machine_at w) t) where
    own_remains : (k : IsWorking before w q) → (is_busy (desk_at t.node q).agent.phase ≡ true) ⊎ (has_end told ≡ true) → Remains q k.n
    own_remains k (inl e) = works_still (ap (λ (m : Machine). is_at_work m.phase) (this.machine_now q) ∙ (sym (busy_is (desk_at t.node q).agent.phase) ∙ e))
    own_remains k (inr e) =
        let h = this.ended_now q a.of e in
        let latest = h.latest in
        let last = k.latest in
        let same : h.n ≡ k.n = omega (arith, latest, last) in
        ended_in (subst (λ n. ends before (initiator_in w q) n < ends now (initiator_in w q) n) same h.more)

    acts_remain : (p : ℕ) → (k : IsWorking before w p) → is_at_work_in w p ≡ true → (p ≡ q → Known) → Remains p k.n
    acts_remain p k e known = by (nat_eq p q) refl
      where
        by : (y : Bool) → nat_eq p q ≡ y → Remains p k.n
        by false f = still_works p k.n (ap (λ (m : Machine). m.phase) (acts_other w t q b Known a p f)) e
        by true f = at (let same : p ≡ q = grind (arith, nat_tests) in same) k e known
          where
            at : p ≡ q → (k : IsWorking before w p) → is_at_work_in w p ≡ true → (p ≡ q → Known) → Remains p k.n
            at same k e known =
                subst (λ r. (k : IsWorking before w r) → Remains r k.n) (sym same) (λ own. own_remains own (a.busy (known same))) k

  remains : (p : ℕ) → (k : IsWorking before w p) → is_at_work_in w p ≡ true → Remains p k.n
  remains p k e = by c.called
    where
      by : Called w c.good ⊥ (λ p m. IsFull m) full_closed c.layer t → Remains p k.n
      by (rests r) = cut_remains r p k e
      by (acts q b h a) =
          acts_remain q b (is_busy (machine_at w q).phase ≡ true) a p k e (λ same. busy_is (machine_at w q).phase ∙ (ap (λ r. is_at_work_in w r) (sym same) ∙ e))
      by (points q b a) = acts_remain q b (Unit {0}) a p k e (λ same. tt)

  -- so an ORB that was begun stays so
  begun_on : (i n k : ℕ) → (h : WorksOn w i n) → k ≡ ends before i n → Remains h.place n → Begun now v i n k
  begun_on i n k h at (cut_in e) = was_cut (subst (λ j. is_cut now j n ≡ true) h.initiator_is e)
  begun_on i n k h at (ended_in b) =
      let more : ends before i n < ends now i n = subst (λ j. ends before j n < ends now j n) h.initiator_is b in has_ended (omega (arith, at, more))
  begun_on i n k h at (works_still e) = by (nat_lt (ends before i n) (ends now i n)) refl
    where
      owned : initiator_in v h.place ≡ i
      owned = this.owner h.place h.small e ∙ h.initiator_is

      list_now : suc n ≡ lists now i → (holder v h.place).list ≡ Some n
      list_now latest = ground.latest_now i h.place n (ground.calm_now i) h.small (record { up = work_up (machine_at v h.place).phase e; own = owned }) latest

      by : (y : Bool) → nat_lt (ends before i n) (ends now i n) ≡ y → Begun now v i n k
      by true f = has_ended (grind (arith, nat_tests))
      by false f =
          let more = ends_more before now this.goes i n in
          let k_was = ground.working h.place h.small h.busy (ground.calm (initiator_in w h.place)) in
          let same_n : k_was.n ≡ n = same_Some k_was.n n (sym k_was.list ∙ h.list) in
          let last : suc n ≡ lists before i = subst (λ m. suc m ≡ lists before i) same_n (k_was.latest ∙ ap (lists before) h.initiator_is) in
          let same : k ≡ ends now i n = grind (arith, nat_tests) in
          works same (record { place = h.place; small = h.small; initiator_is = owned; list = list_now (last ∙ sym (this.goes.lists_are i)); busy = e })

  pub begun_stays : (i n k : ℕ) → Begun before w i n k → Begun now v i n k
  begun_stays i n k (was_cut e) = was_cut (cut_still before now this.goes i n e)
  begun_stays i n k (has_ended b) = let more = ends_more before now this.goes i n in has_ended (omega (arith, b, more))
  begun_stays i n k (works at h) =
      let own = ground.working h.place h.small h.busy (ground.calm (initiator_in w h.place)) in
      let same : own.n ≡ n = same_Some own.n n (sym own.list ∙ h.list) in
      begun_on i n k h at (subst (Remains h.place) same (remains h.place own h.busy))
