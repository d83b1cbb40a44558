-- An ORB that ran, of a list that was not cut and of which none has ended, is at an agent that has it still: kept by what others than the target do, and by each call
-- of the target. In a call each agent stays in its phase, or is cut; or the agent of one place makes a step or takes a pointer, and has its ORB then, or an end is told.
use Rattle.sbp_world.proofs.Words.Std.{arith, ◌≡◌, ◌∙◌, refl, sym, ap, subst, inl, inr, ◌⊎◌, ◌<◌, ◌≤◌, ℕ, suc, nat_eq, Bool, true, false, List, [], ◌∷◌, ◌++◌, Some, nat_tests, false≢true}
use Rattle.sbp_world.proofs.Words.Wire.{Layer, Holder, holder_at, OutboxState, Moment, said, Note}
use Rattle.sbp_world.proofs.Words.Target.{Machine, Purpose, NodeState, desk_at, scene}
use Rattle.sbp_world.proofs.Words.Laws.{IsOpen, is_cut, ends, lists, runs}
use Rattle.sbp_world.proofs.Words.World.{handed_out, holder, told_all, WorldState, has_list, AreOthers, initiator_in, machine_at}
use Rattle.sbp_world.proofs.Lists.Full.{IsFull, full_closed}
use Rattle.sbp_world.proofs.Wire.Nodes.{handed_alike}
use Rattle.sbp_target.proofs.Histories.Calling.{Good}
use Rattle.sbp_world.proofs.Agents.Management.Still.{hist}
use Rattle.sbp_world.proofs.Agents.Peers.{all_sent_places}
use Rattle.sbp_world.proofs.Lists.Adds.{Stays, all_stay}
use Rattle.sbp_world.proofs.Lists.Busy.{busy_list, is_busy}
use Rattle.sbp_world.proofs.Lists.BusyCuts.{Cutting, WasCut}
use Rattle.sbp_world.proofs.Lists.BusyDeliveries.{Called, acts, points, rests}
use Rattle.sbp_world.proofs.Lists.BusyFollows.{Acts, has_end}
use Rattle.sbp_world.proofs.Lists.BusyNotes.{step_runs}
use Rattle.sbp_world.proofs.Lists.BusyTold.{beside_runs, cut_told}
use Rattle.sbp_world.proofs.Lists.Extends.{all_sent, handed_extends}
use Rattle.sbp_world.proofs.Lists.OpenCuts.{Listing}
use Rattle.sbp_world.proofs.Lists.OpenTurns.{listing_up}
use Rattle.sbp_world.proofs.Lists.OpenWorlds.{hist_on}
use Rattle.sbp_world.proofs.Lists.Passing.{PassLaw}
use Rattle.sbp_world.proofs.Lists.Turns.{First}
use Rattle.sbp_world.proofs.Lists.UnrunTerms.{AsBefore, cut_stays, ends_grow, first_as, lists_grow, lists_sent, lists_told, told_ends, unbegun}
use Rattle.sbp_world.proofs.Common.{moments_joined}

-- an agent has an ORB of an initiator that has not ended
pub record IsBusyFor (w : WorldState) (i : ℕ) : Type 0 where
  pub place : ℕ
  pub small : place < 8
  pub initiator_is : initiator_in w place ≡ i
  pub busy : is_busy (machine_at w place).phase ≡ true

-- the first ORB of an open list, of which none has ended, did not run, or an agent has an ORB
abbrev pub AreBusy : (ℕ → Bool) → List Moment → WorldState → Type 0
AreBusy wild ms w = (i : ℕ) → wild i ≡ false → (n : ℕ) → IsOpen ms i n → ends ms i n ≡ 0 → (runs ms i n 0 ≡ 0) ⊎ IsBusyFor w i

-- what is known of the lists that are open: they are the latest ones; and one that is not at an ORB has ends
abbrev pub AreLatest : (ℕ → Bool) → List Moment → WorldState → Type 0
AreLatest wild ms w = (q : ℕ) → q < 8 → has_list (machine_at w q).phase ≡ true → wild (initiator_in w q) ≡ false → (n : ℕ) → suc n ≡ lists ms (initiator_in w q) → (holder w q).list ≡ Some n

abbrev pub AreIdle : (ℕ → Bool) → List Moment → WorldState → Type 0
AreIdle wild ms w = (q : ℕ) → q < 8 → has_list (machine_at w q).phase ≡ true → wild (initiator_in w q) ≡ false → is_busy (machine_at w q).phase ≡ false → (n : ℕ) → suc n ≡ lists ms (initiator_in w q) → ends ms (initiator_in w q) n ≡ 0 → ⊥

-- ---- what others than the target do
pub stays_busy : (wild : ℕ → Bool) (past : List Moment) (w v : WorldState) → PassLaw wild (hist past w) → Stays wild past w v → AreBusy wild (hist past w) w → AreBusy wild (hist past v) v
stays_busy wild past w v passes s o i own n opened none = by (nat_eq (suc n) (lists before i)) refl
  where
    before : List Moment
    before = hist past w

    grown : lists before i ≤ lists (hist past v) i
    grown = subst (λ ms. lists before i ≤ lists ms i) s.adds.is (lists_grow i s.adds.later before)

    there : IsBusyFor w i → IsBusyFor v i
    there b = record {
      place = b.place;
      small = b.small;
      initiator_is = ap (λ ps. (holder_at ps b.place).initiator) s.places ∙ b.initiator_is;
      busy = ap (λ (t : NodeState). is_busy (desk_at t b.place).agent.phase) s.target ∙ b.busy;
    }

    on : (runs before i n 0 ≡ 0) ⊎ IsBusyFor w i → (runs (hist past v) i n 0 ≡ 0) ⊎ IsBusyFor v i
    on (inl e) = inl (s.adds.runs_are i n 0 ∙ e)
    on (inr b) = inr (there b)

    by : (b : Bool) → nat_eq (suc n) (lists before i) ≡ b → (runs (hist past v) i n 0 ≡ 0) ⊎ IsBusyFor v i
    by true e = on (o i own n (record { latest = grind (arith, nat_tests); uncut = sym (s.adds.cuts_are i n) ∙ opened.uncut }) (sym (s.adds.ends_are i n) ∙ none))
    by false e =
        let latest = opened.latest in
        let g = grown in
        let other : suc n ≡ lists before i → ⊥ = λ f. false≢true (sym e ∙ (let z : nat_eq (suc n) (lists before i) ≡ true = grind (arith, nat_tests) in z)) in
        inl (s.adds.runs_are i n 0 ∙ unbegun wild i n own before passes (grind arith))

-- ---- a call of the target
module _ (wild : ℕ → Bool) (past : List Moment) (w : WorldState) (o : AreBusy wild (hist past w) w) (latest : AreLatest wild (hist past w) w) (idle : AreIdle wild (hist past w) w) (g : Good w.target) (u : WorldState) (note : Note) (first : First note) (u_is : hist past u ≡ said note ∷ hist past w) (places : u.places ≡ w.places) (layer : Layer Purpose) (node : NodeState) (outbox : OutboxState) (target_is : u.target ≡ node) (called : Called w g ⊥ (λ p m. IsFull m) full_closed layer (scene node outbox)) (others : AreOthers outbox.sides) (holders : (p : ℕ) → p < 8 → Listing node p → (holder (told_all 0 outbox.sides u) p).initiator ≡ initiator_in w p) (passes : PassLaw wild (hist past (handed_out 0 0 outbox u))) where
  abbrev before : List Moment
  before = hist past w

  abbrev x : WorldState
  x = told_all 0 outbox.sides u

  abbrev v : WorldState
  v = handed_out 0 0 outbox u

  abbrev now : List Moment
  now = hist past v

  as_first : AsBefore before (hist past u)
  as_first = subst (AsBefore before) (sym u_is) (first_as before note first)

  -- packets leave it
  sends : Stays (λ j. true) past x v
  sends = all_stay (λ j. true) past 0 outbox.packets x

  lists_are : (i : ℕ) → lists now i ≡ lists before i
  lists_are i = lists_sent past i 0 outbox.packets x ∙ (lists_told past i outbox.sides u others ∙ as_first.lists_are i)

  -- the history goes on
  record On : Type 0 where
    later : List Moment
    is : later ++ before ≡ now

  on : On
  on =
      let h = hist_on past u v (handed_extends 0 0 outbox u) in
      record { later = h.more ++ said note ∷ []; is = moments_joined h.more (said note ∷ []) before ∙ (ap (λ ms. h.more ++ ms) (sym u_is) ∙ h.is) }

  machine_now : (p : ℕ) → machine_at v p ≡ (desk_at node p).agent
  machine_now p = ap (λ (t : NodeState). (desk_at t p).agent) ((handed_alike 0 0 outbox u).target ∙ target_is)

  initiator_now : (p : ℕ) → p < 8 → has_list (desk_at node p).agent.phase ≡ true → initiator_in v p ≡ initiator_in w p
  initiator_now p b l = ap (λ ps. (holder_at ps p).initiator) (all_sent_places 0 outbox.packets x) ∙ holders p b (listing_up (desk_at node p).agent.phase l)

  -- a place that has an ORB then
  busy_at : (p i : ℕ) → p < 8 → initiator_in w p ≡ i → is_busy (desk_at node p).agent.phase ≡ true → IsBusyFor v i
  busy_at p i b e f = record {
    place = p;
    small = b;
    initiator_is = initiator_now p b (busy_list (desk_at node p).agent.phase f) ∙ e;
    busy = ap (λ (m : Machine). is_busy m.phase) (machine_now p) ∙ f;
  }

  module _ (i : ℕ) (own : wild i ≡ false) (n : ℕ) (opened : IsOpen now i n) (none : ends now i n ≡ 0) where
    abbrev Goal : Type 0
    Goal = (runs now i n 0 ≡ 0) ⊎ IsBusyFor v i

    latest_before : suc n ≡ lists before i
    latest_before = opened.latest ∙ lists_are i

    uncut_before : is_cut before i n ≡ false
    uncut_before = by (is_cut before i n) refl
      where
        by : (b : Bool) → is_cut before i n ≡ b → b ≡ false
        by true e = absurd (false≢true (sym opened.uncut ∙ subst (λ ms. is_cut ms i n ≡ true) on.is (cut_stays on.later before i n e)))
        by false e = refl

    none_before : ends before i n ≡ 0
    none_before = let grown = subst (λ ms. ends before i n ≤ ends ms i n) on.is (ends_grow i n on.later before) in omega (arith, grown, none)

    so_far : (runs before i n 0 ≡ 0) ⊎ IsBusyFor w i
    so_far = o i own n (record { latest = latest_before; uncut = uncut_before }) none_before

    runs_sent : runs now i n 0 ≡ runs (hist past x) i n 0
    runs_sent = sends.adds.runs_are i n 0

    first_runs : runs (hist past u) i n 0 ≡ runs before i n 0
    first_runs = as_first.runs_are i n 0

    -- ---- each agent stays in its phase, or is cut
    module _ (c : Cutting (λ p m. IsFull m) full_closed (machine_at w) (scene node outbox)) where
      cut_not : (b : IsBusyFor w i) → WasCut b.place outbox.sides → ⊥
      cut_not b cut =
          let l = latest b.place b.small (busy_list (machine_at w b.place).phase b.busy) (ap wild b.initiator_is ∙ own) n (latest_before ∙ ap (lists before) (sym b.initiator_is)) in
          let same : holder u b.place ≡ holder w b.place = ap (λ ps. holder_at ps b.place) places in
          let is = cut_told past b.place n outbox.sides u c.beside cut (ap (λ (h : Holder). h.list) same ∙ l) in
          let at : (holder u b.place).initiator ≡ i = ap (λ (h : Holder). h.initiator) same ∙ b.initiator_is in
          false≢true (sym opened.uncut ∙ (sends.adds.cuts_are i n ∙ subst (λ j. is_cut (hist past x) j n ≡ true) at is))

      by_place : (b : IsBusyFor w i) → ((desk_at node b.place).agent.phase ≡ (machine_at w b.place).phase) ⊎ WasCut b.place outbox.sides → Goal
      by_place b (inl e) = inr (busy_at b.place i b.small b.initiator_is (ap is_busy e ∙ b.busy))
      by_place b (inr cut) = absurd (cut_not b cut)

      rested : (runs before i n 0 ≡ 0) ⊎ IsBusyFor w i → Goal
      rested (inl e) = inl (runs_sent ∙ (beside_runs past i n 0 outbox.sides u c.beside ∙ (first_runs ∙ e)))
      rested (inr b) = by_place b (c.stays b.place)

    -- ---- the agent of one place makes a step
    module _ (q : ℕ) (b : q < 8) (Known : Type 0) (a : Acts q b Known ⊥ (λ p m. IsFull m) full_closed (machine_at w) (scene node outbox)) where
      abbrev held : ℕ
      held = initiator_in w q

      held_is : (holder u q).initiator ≡ held
      held_is = ap (λ ps. (holder_at ps q).initiator) places

      -- of another initiator
      beside_it : (i ≡ held → ⊥) → (runs before i n 0 ≡ 0) ⊎ IsBusyFor w i → Goal
      beside_it f (inl e) = inl (runs_sent ∙ (step_runs past q i n 0 outbox.sides u a.of (λ same. f (same ∙ held_is)) ∙ (first_runs ∙ e)))
      beside_it f (inr k) =
          let apart : k.place ≡ q → ⊥ = λ same. f (sym (ap (λ p. initiator_in w p) (sym same) ∙ k.initiator_is)) in
          inr (busy_at k.place i k.small k.initiator_is (ap (λ (m : Machine). is_busy m.phase) (a.same k.place apart) ∙ k.busy))

      -- an end is told of it
      ended : held ≡ i → has_end outbox.sides ≡ true → ⊥
      ended same e =
          let h = hist_on past x v (all_sent 0 outbox.packets x) in
          let some = told_ends wild past q i n own now passes outbox.sides u a.of others e (held_is ∙ same) (latest_before ∙ sym (as_first.lists_are i)) h.more h.is in
          omega (arith, some, none)

      own_step : held ≡ i → (is_busy (desk_at node q).agent.phase ≡ true) ⊎ (has_end outbox.sides ≡ true) → Goal
      own_step same (inl e) = inr (busy_at q i b same e)
      own_step same (inr e) = absurd (ended same e)

      stepped : (held ≡ i → Known) → Goal
      stepped known = by (nat_eq held i) refl
        where
          by : (c : Bool) → nat_eq held i ≡ c → Goal
          by true e = let same : held ≡ i = grind (arith, nat_tests) in own_step same (a.busy (known same))
          by false e = beside_it (λ f. false≢true (sym e ∙ (let z : nat_eq held i ≡ true = grind (arith, nat_tests) in z))) so_far

    by_call : Called w g ⊥ (λ p m. IsFull m) full_closed layer (scene node outbox) → Goal
    by_call (rests c) = rested c so_far
    by_call (acts q b h a) = stepped q b (is_busy (machine_at w q).phase ≡ true) a (λ same. busy_then same (is_busy (machine_at w q).phase) refl)
      where
        busy_then : initiator_in w q ≡ i → (c : Bool) → is_busy (machine_at w q).phase ≡ c → c ≡ true
        busy_then same true e = refl
        busy_then same false e = absurd (idle q b h (ap wild same ∙ own) e n (latest_before ∙ ap (lists before) (sym same)) (ap (λ j. ends before j n) same ∙ none_before))
    by_call (points q b a) = stepped q b (Unit {0}) a (λ same. tt)

  pub call_busy : AreBusy wild now v
  call_busy i own n opened none = by_call i own n opened none called
