-- Over a turn an agent that is out of RESET with the latest list of an initiator has it still, or the list is cut: no other thing puts the agent into RESET, and what is latest stays so.
use Rattle.sbp_world.proofs.Words.Std.{arith, ◌≡◌, ◌∙◌, refl, sym, ap, subst, inl, inr, ◌⊎◌, ◌≤◌, ◌-◌, not, ℕ, suc, Bool, true, false, List, ◌∷◌, Some, false≢true, same_Some}
use Rattle.sbp_world.proofs.Words.Wire.{Event, Moment, asked}
use Rattle.sbp_world.proofs.Words.Target.{state_in, is_reset, alone}
use Rattle.sbp_world.proofs.Words.Laws.{is_cut, lists}
use Rattle.sbp_world.proofs.Words.World.{WorldState, IsCalm, IsUp, holder, machine_at, told_all}
use Rattle.sbp_bus.specs.Places.{holder_at}
use Rattle.sbp_world.specs.Completing.Present.{IsUpWith}
use Rattle.sbp_world.proofs.Agents.Management.Still.{hist}
use Rattle.sbp_world.proofs.Hosts.Cores.{not_so}
use Rattle.sbp_world.proofs.Lists.BusyCuts.{in_reset}
use Rattle.sbp_world.proofs.Lists.PlaceOwners.{Owns}
use Rattle.sbp_world.proofs.Lists.TurnCalls.{IsCalled, TurnCalls, TurnFrom, calls, keyed, leaves}
use Rattle.sbp_world.proofs.Lists.TurnCuts.{from_is_cut}
use Rattle.sbp_world.proofs.Lists.UnrunTerms.{first_as, lists_grow, lists_sent, lists_told}
use Rattle.sbp_world.proofs.Lists.UpLatest.{AreUpLatest}

-- a call of the target leaves how many lists an initiator began
pub called_lists : (past : List Moment) (w v : WorldState) → IsCalled past w v → (i : ℕ) → lists (hist past v) i ≡ lists (hist past w) i
called_lists past w v c i =
    let outbox = (alone c.call w.target).outbox in
    ap (λ (x : WorldState). lists (hist past x) i) c.is
    ∙ (lists_sent past i 0 outbox.packets (told_all 0 outbox.sides c.u)
    ∙ (lists_told past i outbox.sides c.u c.others ∙ (ap (λ ms. lists ms i) c.fresh ∙ (first_as (hist past w) c.first c.starts).lists_are i)))

module _ (wild : ℕ → Bool) (past : List Moment) (before : WorldState) (later : List Moment) (v : WorldState) (x : TurnFrom wild past before later v) (owns : Owns before v) (latest : AreUpLatest (hist later v) v) (i n : ℕ) (calm : IsCalm (hist later v) i) (uncut : is_cut (hist later v) i n ≡ false) (o : IsUpWith (hist past before) before i n) where
  abbrev now : List Moment
  now = hist later v

  abbrev p : ℕ
  p = o.place

  out_of_reset : (b : Bool) → is_reset (state_in (machine_at v p).phase) ≡ b → not (is_reset (state_in (machine_at v p).phase)) ≡ true
  out_of_reset false e = ap not e
  out_of_reset true e =
      let cut = from_is_cut wild past before later v x p (not_so _ o.up.up) (in_reset (machine_at v p).phase e) n o.list in
      absurd (false≢true (sym uncut ∙ subst (λ j. is_cut now j n ≡ true) o.up.own cut))

  pub up_now : IsUp v i p
  up_now =
      let out = out_of_reset (is_reset (state_in (machine_at v p).phase)) refl in
      record { up = out; own = owns p o.small out ∙ o.up.own }

  -- as the turn begins
  begun_lists : lists (hist later x.w) i ≡ lists (hist past before) i
  begun_lists = by x.begins
    where
      by : (hist later x.w ≡ hist past before) ⊎ ((line : ℕ) × ((event : Event) × (hist later x.w ≡ asked line event ∷ hist past before))) → lists (hist later x.w) i ≡ lists (hist past before) i
      by (inl e) = ap (λ ms. lists ms i) e
      by (inr h) = ap (λ ms. lists ms i) h.1.1

  begun_list : (holder x.w p).list ≡ Some n
  begun_list = ap (λ ps. (holder_at ps p).list) x.places ∙ o.list

  -- where the places stay, the list does, and so no later one began
  by_places : v.places ≡ x.w.places → lists (hist later x.w) i ≤ lists now i → IsUpWith now v i n
  by_places same grown =
      let list : (holder v p).list ≡ Some n = ap (λ ps. (holder_at ps p).list) same ∙ begun_list in
      let was = o.latest in
      let begun = begun_lists in
      let top : suc (lists now i - 1) ≡ lists now i = omega (arith, grown, was, begun) in
      let is : lists now i - 1 ≡ n = same_Some (lists now i - 1) n (sym (latest i p (lists now i - 1) calm o.small up_now top) ∙ list) in
      record { place = p; small = o.small; up = up_now; list = list; latest = omega (arith, top, is) }

  by_lists : lists now i ≡ lists (hist later x.w) i → IsUpWith now v i n
  by_lists same =
      let newest : suc n ≡ lists now i = o.latest ∙ (sym begun_lists ∙ sym same) in
      record { place = p; small = o.small; up = up_now; list = latest i p n calm o.small up_now newest; latest = newest }

  by_turn : TurnCalls wild later x.w v → IsUpWith now v i n
  by_turn (leaves s none) = by_places s.places (subst (λ ms. lists (hist later x.w) i ≤ lists ms i) s.adds.is (lists_grow i s.adds.later (hist later x.w)))
  by_turn (keyed unit key target places is) = by_places places (let e = ap (λ ms. lists ms i) is in omega (arith, e))
  by_turn (calls c) = by_lists (called_lists later x.w v c i)

  pub stays_with : IsUpWith now v i n
  stays_with = by_turn x.turn
