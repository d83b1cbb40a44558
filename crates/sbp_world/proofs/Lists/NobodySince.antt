-- Since the response that brought the ORB of a run its list was open, and its slot had it: as it runs they are so, no ORB is appended twice, and a list that was cut stays so. So what the target got since in answer to
-- nobody's request begins elsewhere than in that slot.
use Rattle.sbp_world.proofs.Words.Std.{arith, ◌≡◌, ◌∙◌, refl, sym, ap, subst, inl, inr, ◌⊎◌, ◌<◌, ◌≤◌, ℕ, suc, Bool, true, false, append_assoc, List, [], ◌∷◌, ◌++◌, Option, Some, None}
use Rattle.sbp_world.proofs.Words.Wire.{Moment, asked, said, terms}
use Rattle.sbp_world.proofs.Words.Target.{Disk}
use Rattle.sbp_world.proofs.Words.Laws.{orb, prepared_in, IsOpen, is_cut, answered_at, appends, lists, EachMoment}
use Rattle.sbp_world.proofs.Words.World.{AllNobodyElsewhere, IsNobodyElsewhere, IsUnownedElsewhere, NobodyAsGot, RunIsNamed}
use Rattle.sbp_journal.specs.declared.note.Note.TheVariants as notes
use Rattle.sbp_world.proofs.Lists.DataSlots.{appends_grow, prepared_below}
use Rattle.sbp_world.proofs.Lists.Passing.{PassAt, PassLaw}
use Rattle.sbp_world.proofs.Lists.SlotsCut.{WasPut, was_put}
use Rattle.sbp_world.proofs.Lists.UnrunTerms.{cut_stays, lists_grow}
use Rattle.sbp_world.proofs.Lists.StatusKnown.{each_from}

-- the list of an ORB is open, and the slot has it
pub record IsThere (past : List Moment) (i n k slot : ℕ) : Type 0 where
  pub opened : IsOpen past i n
  pub there : prepared_in past i slot ≡ Some (orb n k)

-- ---- one moment before, where the ORB was appended then
module _ (wild : ℕ → Bool) (i n k slot : ℕ) (m : Moment) (past : List Moment) (passes : PassLaw wild (m ∷ past)) (t : IsThere (m ∷ past) i n k slot) (appended : k < appends past i n) (begun : suc n ≤ lists past i) where
  latest_before : suc n ≡ lists past i
  latest_before = let grown = lists_grow i (m ∷ []) past in let now = t.opened.latest in omega (arith, begun, grown, now)

  uncut_before : is_cut past i n ≡ false
  uncut_before = by (is_cut past i n) refl
    where
      by : (cut : Bool) → is_cut past i n ≡ cut → cut ≡ false
      by false e = refl
      by true e = absurd (let x : false ≡ true = sym t.opened.uncut ∙ cut_stays (m ∷ []) past i n e in cc)

  -- its append then would be its second
  not_put : WasPut (m ∷ []) past i n k slot → ⊥
  not_put p =
      let leads = said (notes.Append i n k p.cdb p.buffer) in
      let whole : p.front ++ leads ∷ (p.back ++ past) ≡ m ∷ past = sym (append_assoc p.front (leads ∷ p.back) past) ∙ ap (λ ms. ms ++ past) p.is in
      let passed : PassLaw wild (leads ∷ (p.back ++ past)) = each_from (PassAt wild) p.front (leads ∷ (p.back ++ past)) (subst (PassLaw wild) (sym whole) passes) in
      let number = passed.0.next.number in
      let grown = appends_grow i n k p.back past in
      omega (arith, appended, number, grown)

  prepared_before : prepared_in past i slot ≡ Some (orb n k)
  prepared_before = by (was_put past i n k slot (m ∷ []) t.there)
    where
      by : (prepared_in past i slot ≡ Some (orb n k)) ⊎ WasPut (m ∷ []) past i n k slot → prepared_in past i slot ≡ Some (orb n k)
      by (inl e) = e
      by (inr p) = absurd (not_put p)

  was_there : IsThere past i n k slot
  was_there = record { opened = record { latest = latest_before; uncut = uncut_before }; there = prepared_before }

-- ---- as each packet was got
module _ (wild : ℕ → Bool) (start : List Disk) (i n k slot : ℕ) (own : wild i ≡ false) where
  spared : (past : List Moment) (serial : ℕ) → IsUnownedElsewhere wild start past serial → IsThere past i n k slot → (request : Option ℕ) → answered_at (terms past) serial ≡ request → IsNobodyElsewhere start past i slot serial request
  spared past serial law t None closed = tt
  spared past serial law t (Some request) closed = λ nobody. law i slot n k request own t.opened t.there closed nobody

  at_moment : (m : Moment) (later before : List Moment) → NobodyAsGot wild start m (later ++ before) → IsThere (later ++ before) i n k slot → AllNobodyElsewhere start i slot later before → AllNobodyElsewhere start i slot (m ∷ later) before
  at_moment (asked line event) later before law t rest = rest
  at_moment (said (notes.Got serial)) later before law t rest = (spared (later ++ before) serial law t (answered_at (terms (later ++ before)) serial) refl, rest)
  at_moment (said note) later before law t rest = rest

  pub nobody_since : (later before : List Moment) → EachMoment (NobodyAsGot wild start) (later ++ before) → PassLaw wild (later ++ before) → k < appends before i n → suc n ≤ lists before i → IsThere (later ++ before) i n k slot → AllNobodyElsewhere start i slot later before × IsThere before i n k slot
  nobody_since [] before laws passes appended begun t = (tt, t)
  nobody_since (m ∷ later) before laws passes appended begun t =
      let more_appends = appends_grow i n k later before in
      let more_lists = lists_grow i later before in
      let back = was_there wild i n k slot m (later ++ before) passes t (omega (arith, appended, more_appends)) (omega (arith, begun, more_lists)) in
      let rest = nobody_since later before laws.1 passes.1 appended begun back in
      (at_moment m later before laws.0 back rest.0, rest.1)

-- ---- the ORB of a run, by its name: as the response that brought it was got it was appended, and its list had begun
module _ (wild : ℕ → Bool) (start : List Disk) (past : List Moment) (i n k : ℕ) (e : RunIsNamed start past i n k) where
  abbrev earlier : List Moment
  earlier = e.named.brought.earlier

  prepared_then : prepared_in earlier i e.named.led.slot ≡ Some (orb n k)
  prepared_then =
      let led = e.named.led in
      subst (λ j. prepared_in earlier j led.slot ≡ Some (orb n k)) e.initiator (led.there ∙ ap (λ a. Some (orb a led.k)) e.list ∙ ap (λ a. Some (orb n a)) e.number)

  pub appended_then : PassLaw wild earlier → k < appends earlier i n
  appended_then passes = prepared_below i n k wild earlier passes e.named.led.slot prepared_then

  pub begun_then : suc n ≤ lists earlier i
  begun_then =
      let latest = subst (λ j. suc e.named.led.n ≡ lists earlier j) e.initiator e.named.led.latest in
      let list = e.list in
      omega (arith, latest, list)
