-- What the target tells of cuts and of the steps of an agent, by the history: a list that was cut is cut from then on; other initiators' ORBs ran as often as before.
use Rattle.sbp_world.proofs.Words.Std.{◌≡◌, ◌∙◌, refl, sym, ap, subst, ℕ, nat_eq, Bool, true, false, cond, List, [], ◌∷◌, ◌++◌, Option, Some, None}
use Rattle.sbp_world.proofs.Words.Wire.{Holder, holder_at, CutCause, Side, Moment, said}
use Rattle.sbp_world.proofs.Words.Laws.{is_cut, runs}
use Rattle.sbp_world.proofs.Words.World.{holder, told, told_all, WorldState}
use Rattle.sbp_journal.specs.declared.note.Note.TheVariants as notes
use Rattle.sbp_journal.specs.declared.side.Side.TheVariants as sides
use Rattle.sbp_world.proofs.Agents.Management.Still.{hist}
use Rattle.sbp_world.proofs.Lists.BusyCuts.{AreBeside, AreCuts, WasCut}
use Rattle.sbp_world.proofs.Lists.Endless.{told_both}
use Rattle.sbp_world.proofs.Common.{itself}

-- ---- cuts
pub still_cut : (x y c : Bool) → c ≡ true → cond x (cond y true c) c ≡ true
still_cut true true c e = refl
still_cut true false c e = e
still_cut false y c e = e

module _ (past : List Moment) where
  stays_cut : (i n j : ℕ) (list : Option ℕ) (cause : CutCause) (ms : List Moment) → is_cut ms i n ≡ true → is_cut (said (notes.Cut j list cause) ∷ ms) i n ≡ true
  stays_cut i n j None cause ms e = e
  stays_cut i n j (Some m) cause ms e = still_cut (nat_eq i j) (nat_eq n m) (is_cut ms i n) e

  cut_here : (i n : ℕ) (list : Option ℕ) (cause : CutCause) (ms : List Moment) → list ≡ Some n → is_cut (said (notes.Cut i list cause) ∷ ms) i n ≡ true
  cut_here i n list cause ms e =
      subst (λ x. is_cut (said (notes.Cut i x cause) ∷ ms) i n ≡ true) (sym e)
      (ap (λ b. cond b (cond (nat_eq n n) true (is_cut ms i n)) (is_cut ms i n)) (itself i) ∙ ap (λ b. cond b true (is_cut ms i n)) (itself n))

  one_cut : (i n : ℕ) (side : Side) (w : WorldState) → AreBeside (side ∷ []) → is_cut (hist past w) i n ≡ true → is_cut (hist past (told 0 side w)) i n ≡ true
  unfolding told
  one_cut i n (sides.Own note) w h e = absurd h.0
  one_cut i n (sides.Opened place orb) w h e = absurd h.0
  one_cut i n (sides.Ran place orb cdb payload outcome) w h e = absurd h.0
  one_cut i n (sides.Ended place orb status) w h e = absurd h.0
  one_cut i n (sides.Dead place cause) w h e = e
  one_cut i n (sides.Cut place cause) w h e = stays_cut i n (holder w place).initiator (holder w place).list cause (hist past w) e
  one_cut i n (sides.Managed node function subject status login) w h e = e
  one_cut i n (sides.ManageFailed node cause) w h e = e
  one_cut i n (sides.Held login) w h e = e
  one_cut i n (sides.Expired login) w h e = e
  one_cut i n (sides.Back login) w h e = e
  one_cut i n (sides.Left login) w h e = e
  one_cut i n (sides.Cleared unit) w h e = e
  one_cut i n (sides.Unsolicited place) w h e = e
  one_cut i n (sides.Unsent place) w h e = e

  all_cut : (i n : ℕ) (side : List Side) (w : WorldState) → AreBeside side → is_cut (hist past w) i n ≡ true → is_cut (hist past (told_all 0 side w)) i n ≡ true
  unfolding told_all
  all_cut i n [] w h e = e
  all_cut i n (one ∷ later) w h e = all_cut i n later (told 0 one w) h.1 (one_cut i n one w (h.0, tt) e)

  cuts_places : (side : List Side) (w : WorldState) → AreCuts side → (told_all 0 side w).places ≡ w.places
  unfolding told_all told
  cuts_places [] w h = refl
  cuts_places (sides.Cut place cause ∷ later) w h = cuts_places later (told 0 (sides.Cut place cause) w) h.1
  cuts_places (sides.Own note ∷ later) w h = absurd h.0
  cuts_places (sides.Opened place orb ∷ later) w h = absurd h.0
  cuts_places (sides.Ran place orb cdb payload outcome ∷ later) w h = absurd h.0
  cuts_places (sides.Ended place orb status ∷ later) w h = absurd h.0
  cuts_places (sides.Dead place cause ∷ later) w h = absurd h.0
  cuts_places (sides.Managed node function subject status login ∷ later) w h = absurd h.0
  cuts_places (sides.ManageFailed node cause ∷ later) w h = absurd h.0
  cuts_places (sides.Held login ∷ later) w h = absurd h.0
  cuts_places (sides.Expired login ∷ later) w h = absurd h.0
  cuts_places (sides.Back login ∷ later) w h = absurd h.0
  cuts_places (sides.Left login ∷ later) w h = absurd h.0
  cuts_places (sides.Cleared unit ∷ later) w h = absurd h.0
  cuts_places (sides.Unsolicited place ∷ later) w h = absurd h.0
  cuts_places (sides.Unsent place ∷ later) w h = absurd h.0

  beside_behind : (a b : List Side) → AreBeside (a ++ b) → AreBeside b
  beside_behind [] b h = h
  beside_behind (one ∷ a) b h = beside_behind a b h.1

  -- the list of a place that was cut is cut from then on
  pub cut_told : (p n : ℕ) (side : List Side) (u : WorldState) → AreBeside side → WasCut p side → (holder u p).list ≡ Some n → is_cut (hist past (told_all 0 side u)) (holder u p).initiator n ≡ true
  unfolding told_all told
  cut_told p n side u h c e =
      let v = told_all 0 c.front u in
      let rest = sides.Cut p c.cause ∷ c.back in
      let at : holder v p ≡ holder u p = ap (λ ps. holder_at ps p) (cuts_places c.front u c.first) in
      let behind : AreBeside rest = beside_behind c.front rest (subst AreBeside c.is h) in
      let x = told 0 (sides.Cut p c.cause) v in
      let now : is_cut (hist past x) (holder v p).initiator n ≡ true = cut_here (holder v p).initiator n (holder v p).list c.cause (hist past v) (ap (λ (k : Holder). k.list) at ∙ e) in
      let here : is_cut (hist past x) (holder u p).initiator n ≡ true = ap (λ (k : Holder). is_cut (hist past x) k.initiator n) (sym at) ∙ now in
      let is : told_all 0 side u ≡ told_all 0 c.back x = ap (λ ss. told_all 0 ss u) c.is ∙ told_both c.front rest u in
      ap (λ (y : WorldState). is_cut (hist past y) (holder u p).initiator n) is ∙ all_cut (holder u p).initiator n c.back x behind.1 here

  -- ---- runs
  pub beside_runs : (i n k : ℕ) (side : List Side) (w : WorldState) → AreBeside side → runs (hist past (told_all 0 side w)) i n k ≡ runs (hist past w) i n k
  unfolding told_all told
  beside_runs i n k [] w h = refl
  beside_runs i n k (sides.Own note ∷ later) w h = absurd h.0
  beside_runs i n k (sides.Opened place orb ∷ later) w h = absurd h.0
  beside_runs i n k (sides.Ran place orb cdb payload outcome ∷ later) w h = absurd h.0
  beside_runs i n k (sides.Ended place orb status ∷ later) w h = absurd h.0
  beside_runs i n k (sides.Dead place cause ∷ later) w h = beside_runs i n k later (told 0 (sides.Dead place cause) w) h.1
  beside_runs i n k (sides.Cut place cause ∷ later) w h = beside_runs i n k later (told 0 (sides.Cut place cause) w) h.1
  beside_runs i n k (sides.Managed node function subject status login ∷ later) w h = beside_runs i n k later (told 0 (sides.Managed node function subject status login) w) h.1
  beside_runs i n k (sides.ManageFailed node cause ∷ later) w h = beside_runs i n k later (told 0 (sides.ManageFailed node cause) w) h.1
  beside_runs i n k (sides.Held login ∷ later) w h = beside_runs i n k later (told 0 (sides.Held login) w) h.1
  beside_runs i n k (sides.Expired login ∷ later) w h = beside_runs i n k later (told 0 (sides.Expired login) w) h.1
  beside_runs i n k (sides.Back login ∷ later) w h = beside_runs i n k later (told 0 (sides.Back login) w) h.1
  beside_runs i n k (sides.Left login ∷ later) w h = beside_runs i n k later (told 0 (sides.Left login) w) h.1
  beside_runs i n k (sides.Cleared unit ∷ later) w h = beside_runs i n k later (told 0 (sides.Cleared unit) w) h.1
  beside_runs i n k (sides.Unsolicited place ∷ later) w h = beside_runs i n k later (told 0 (sides.Unsolicited place) w) h.1
  beside_runs i n k (sides.Unsent place ∷ later) w h = beside_runs i n k later (told 0 (sides.Unsent place) w) h.1
