-- The slot of an ORB whose list was cut before the ORB had ended: no ORB of that list ends from then on, so no status of it is taken, and its slot is used by it or rests while
-- its initiator stays in the generation. So no ORB of another list was prepared in that slot.
use Rattle.sbp_world.proofs.Words.Std.{arith, ◌≡◌, ◌∙◌, refl, sym, ap, subst, inl, inr, ◌⊎◌, ◌<◌, ◌≤◌, ℕ, suc, nat_eq, Bool, true, false, cond, List, [], ◌∷◌, ◌++◌, Option, Some, None, nat_tests, false≢true}
use Rattle.sbp_world.proofs.Words.Wire.{NoteBuffer, Moment, said, terms}
use Rattle.sbp_world.proofs.Words.Laws.{TakenStatus, lowest_vacant, orb, prepared_in, slots, taken_at, IsOpen, is_cut, ends}
use Rattle.sbp_world.proofs.Words.World.{HasSlot}
use Rattle.sbp_journal.specs.declared.note.Note.TheVariants as notes
use Rattle.sbp_world.proofs.Lists.DataHolds.{slot_stays}
use Rattle.sbp_world.proofs.Lists.DataSlots.{same_orb}
use Rattle.sbp_world.proofs.Lists.Joins.{Begins}
use Rattle.sbp_world.proofs.Lists.Passing.{PassLaw}
use Rattle.sbp_world.proofs.Lists.Rises.{Rises}
use Rattle.sbp_world.proofs.Lists.StatusKnown.{each_from, generation_grows}
use Rattle.sbp_world.proofs.Lists.StatusMoments.{taken_stays}
use Rattle.sbp_world.proofs.Lists.UnrunTerms.{cut_stays, passes_from}
use Rattle.sbp_world.proofs.Common.{itself, moments_split}

-- ---- a list that was cut has no more ends
module _ (wild : ℕ → Bool) (i n : ℕ) (own : wild i ≡ false) where
  end_keeps : (ms : List Moment) (j m : ℕ) → (wild j ≡ false → is_cut ms j m ≡ false) → is_cut ms i n ≡ true → (x : Bool) → nat_eq i j ≡ x → (y : Bool) → nat_eq n m ≡ y → cond x (cond y (suc (ends ms j m)) (ends ms i n)) (ends ms i n) ≡ ends ms i n
  end_keeps ms j m uncut cut true e true f =
      let same_i : j ≡ i = grind (arith, nat_tests) in
      let same_n : m ≡ n = grind (arith, nat_tests) in
      let at : is_cut ms j m ≡ is_cut ms i n = ap (λ a. is_cut ms a m) same_i ∙ ap (is_cut ms i) same_n in
      absurd (false≢true (sym (uncut (ap wild same_i ∙ own)) ∙ (at ∙ cut)))
  end_keeps ms j m uncut cut true e false f = refl
  end_keeps ms j m uncut cut false e y f = refl

  pub cut_ends : (later before : List Moment) → PassLaw wild (later ++ before) → is_cut before i n ≡ true → ends (later ++ before) i n ≡ ends before i n
  cut_ends [] before l cut = refl
  cut_ends (said (notes.Ended j (Some m) (Some k) status) ∷ later) before l cut =
      end_keeps (later ++ before) j m (λ o. (l.0 o).turn.still.uncut) (cut_stays later before i n cut) (nat_eq i j) refl (nat_eq n m) refl
      ∙ cut_ends later before l.1 cut
  cut_ends (m ∷ later) before l cut = cut_ends later before l.1 cut

-- ---- an ORB of it that had not ended
module _ (wild : ℕ → Bool) (i : ℕ) (own : wild i ≡ false) (mid before : List Moment) (passes : PassLaw wild (mid ++ before)) (rises : Rises (mid ++ before)) (same : (terms before).generation (suc i) ≡ (terms (mid ++ before)).generation (suc i)) where
  module _ (n k slot : ℕ) (untaken : taken_at (mid ++ before) i n k ≡ None) (held : HasSlot before i slot (orb n k)) where
    -- the slot has it still
    pub cut_has_slot : HasSlot (mid ++ before) i slot (orb n k)
    cut_has_slot = slot_stays i slot (orb n k) mid before rises same untaken held

    -- so another ORB is in another slot
    pub cut_other_slot : (other l at : ℕ) → prepared_in (mid ++ before) i at ≡ Some (orb other l) → (other ≡ n → ⊥) → at ≡ slot → ⊥
    cut_other_slot other l at there apart is =
        apart ((same_orb other l n k (sym there ∙ (ap (prepared_in (mid ++ before) i) is ∙ cut_has_slot.there))).0)

-- ---- the append of an ORB that a slot has, since a moment
pub record WasPut (mid before : List Moment) (i n k slot : ℕ) : Type 0 where
  pub cdb : List ℕ
  pub buffer : NoteBuffer
  pub front : List Moment
  pub back : List Moment
  pub is : front ++ said (notes.Append i n k cdb buffer) ∷ back ≡ mid
  pub there : prepared_in (said (notes.Append i n k cdb buffer) ∷ (back ++ before)) i slot ≡ Some (orb n k)

module _ (before : List Moment) (i n k slot : ℕ) where
  put_later : (m : Moment) (mid : List Moment) → (prepared_in before i slot ≡ Some (orb n k)) ⊎ WasPut mid before i n k slot → (prepared_in before i slot ≡ Some (orb n k)) ⊎ WasPut (m ∷ mid) before i n k slot
  put_later m mid (inl e) = inl e
  put_later m mid (inr p) = inr (record { cdb = p.cdb; buffer = p.buffer; front = m ∷ p.front; back = p.back; is = ap (λ ms. m ∷ ms) p.is; there = p.there })

  put_now : (mid : List Moment) (j m l : ℕ) (cdb : List ℕ) (buffer : NoteBuffer) → i ≡ j → (m ≡ n) × (l ≡ k) → prepared_in (said (notes.Append j m l cdb buffer) ∷ (mid ++ before)) i slot ≡ Some (orb n k) → WasPut (said (notes.Append j m l cdb buffer) ∷ mid) before i n k slot
  put_now mid j m l cdb buffer same s there =
      let is : said (notes.Append i n k cdb buffer) ≡ said (notes.Append j m l cdb buffer) = ap (λ a. said (notes.Append a n k cdb buffer)) same ∙ (ap (λ a. said (notes.Append j a k cdb buffer)) (sym s.0) ∙ ap (λ a. said (notes.Append j m a cdb buffer)) (sym s.1)) in
      record {
        cdb = cdb;
        buffer = buffer;
        front = [];
        back = mid;
        is = ap (λ x. x ∷ mid) is;
        there = subst (λ x. prepared_in (x ∷ (mid ++ before)) i slot ≡ Some (orb n k)) (sym is) there;
      }

  pub was_put : (mid : List Moment) → prepared_in (mid ++ before) i slot ≡ Some (orb n k) → (prepared_in before i slot ≡ Some (orb n k)) ⊎ WasPut mid before i n k slot
  was_put [] e = inl e
  was_put (said (notes.Append j m l cdb buffer) ∷ mid) e = by (λ f. was_put mid f) (nat_eq i j) (nat_eq slot (lowest_vacant (slots (mid ++ before) j))) refl refl e
    where
      old : (prepared_in (mid ++ before) i slot ≡ Some (orb n k) → (prepared_in before i slot ≡ Some (orb n k)) ⊎ WasPut mid before i n k slot) → prepared_in (mid ++ before) i slot ≡ Some (orb n k) → (prepared_in before i slot ≡ Some (orb n k)) ⊎ WasPut (said (notes.Append j m l cdb buffer) ∷ mid) before i n k slot
      old again f = put_later (said (notes.Append j m l cdb buffer)) mid (again f)

      by : (prepared_in (mid ++ before) i slot ≡ Some (orb n k) → (prepared_in before i slot ≡ Some (orb n k)) ⊎ WasPut mid before i n k slot) → (x y : Bool) → nat_eq i j ≡ x → nat_eq slot (lowest_vacant (slots (mid ++ before) j)) ≡ y → cond x (cond y (Some (orb m l)) (prepared_in (mid ++ before) i slot)) (prepared_in (mid ++ before) i slot) ≡ Some (orb n k) → (prepared_in before i slot ≡ Some (orb n k)) ⊎ WasPut (said (notes.Append j m l cdb buffer) ∷ mid) before i n k slot
      by again true true f g h = inr (put_now mid j m l cdb buffer (let z : i ≡ j = grind (arith, nat_tests, f) in z) (same_orb m l n k h) e)
      by again true false f g h = old again h
      by again false y f g h = old again h
  was_put (m ∷ mid) e = put_later m mid (was_put mid e)

-- what is not taken in the end was not taken before
untaken_before : (later before : List Moment) (i n k : ℕ) → taken_at (later ++ before) i n k ≡ None → taken_at before i n k ≡ None
untaken_before later before i n k none = by (taken_at before i n k) refl
  where
    absent : (taken : TakenStatus) → taken_at before i n k ≡ Some taken → ⊥
    absent taken e =
        let x = taken_stays later before i n k (record { taken = taken; is = e }) in
        let z : None ≡ Some x.taken = sym none ∙ x.is in cc

    by : (found : Option TakenStatus) → taken_at before i n k ≡ found → found ≡ None
    by None e = refl
    by (Some taken) e = absurd (absent taken e)

-- ---- in a history where the target is in no later generation than the initiator was in at a moment
module _ (wild : ℕ → Bool) (i : ℕ) (own : wild i ≡ false) (mid before : List Moment) (passes : PassLaw wild (mid ++ before)) (rises : Rises (mid ++ before)) (begins : Begins i (mid ++ before)) (current : (terms (mid ++ before)).generation 0 ≤ (terms before).generation (suc i)) where
  -- an append since was in the generation of that moment
  module _ (n k : ℕ) (cdb : List ℕ) (buffer : NoteBuffer) (front back : List Moment) (is : front ++ said (notes.Append i n k cdb buffer) ∷ back ≡ mid) where
    abbrev leads : Moment
    leads = said (notes.Append i n k cdb buffer)

    whole : front ++ leads ∷ (back ++ before) ≡ mid ++ before
    whole = moments_split front (leads ∷ back) before ∙ ap (λ ms. ms ++ before) is

    rises_there : Rises (front ++ leads ∷ (back ++ before))
    rises_there = subst Rises (sym whole) rises

    rises_then : Rises (leads ∷ (back ++ before))
    rises_then = each_from _ front (leads ∷ (back ++ before)) rises_there

    append_generation : (terms before).generation (suc i) ≡ (terms (leads ∷ (back ++ before))).generation (suc i)
    append_generation =
        let a = generation_grows back before (suc i) rises_then.1 in
        let b = (each_from _ front (leads ∷ (back ++ before)) (subst (Begins i) (sym whole) begins)).0 (itself i) in
        let c : (terms (leads ∷ (back ++ before))).generation 0 ≤ (terms (mid ++ before)).generation 0 = subst (λ ms. (terms (leads ∷ (back ++ before))).generation 0 ≤ (terms ms).generation 0) whole (generation_grows front (leads ∷ (back ++ before)) 0 rises_there) in
        omega (arith, a, b, c, current)

  module _ (n k slot : ℕ) (untaken : taken_at (mid ++ before) i n k ≡ None) (held : HasSlot before i slot (orb n k)) where
    -- so no ORB of another list has its slot
    module _ (other l at : ℕ) (apart : other ≡ n → ⊥) where
      put_before : prepared_in before i at ≡ Some (orb other l) → at ≡ slot → ⊥
      put_before there same = apart ((same_orb other l n k (sym there ∙ (ap (prepared_in before i) same ∙ held.there))).0)

      put_since : WasPut mid before i other l at → at ≡ slot → ⊥
      put_since p =
          let leads = said (notes.Append i other l p.cdb p.buffer) in
          let later = leads ∷ p.back in
          let joined : p.front ++ (later ++ before) ≡ mid ++ before = whole other l p.cdb p.buffer p.front p.back p.is in
          cut_other_slot wild i own later before
          (passes_from wild p.front (later ++ before) (subst (PassLaw wild) (sym joined) passes))
          (rises_then other l p.cdb p.buffer p.front p.back p.is)
          (append_generation other l p.cdb p.buffer p.front p.back p.is) n k slot
          (untaken_before p.front (later ++ before) i n k (ap (λ ms. taken_at ms i n k) joined ∙ untaken)) held other l at p.there apart

      by_moment : (prepared_in before i at ≡ Some (orb other l)) ⊎ WasPut mid before i other l at → at ≡ slot → ⊥
      by_moment (inl e) = put_before e
      by_moment (inr p) = put_since p

      pub cut_apart : prepared_in (mid ++ before) i at ≡ Some (orb other l) → at ≡ slot → ⊥
      cut_apart there = by_moment (was_put before i other l at mid there)

    -- and no ORB of a list that is open
    pub open_apart : is_cut (mid ++ before) i n ≡ true → (open_list l at : ℕ) → IsOpen (mid ++ before) i open_list → prepared_in (mid ++ before) i at ≡ Some (orb open_list l) → at ≡ slot → ⊥
    open_apart cut open_list l at opened there = cut_apart open_list l at (λ e. false≢true (sym opened.uncut ∙ (ap (is_cut (mid ++ before) i) e ∙ cut))) there

-- ---- where its list was cut before, no status of it was taken since
pub untaken_since : (wild : ℕ → Bool) (i : ℕ) → wild i ≡ false → (mid before : List Moment) → PassLaw wild (mid ++ before) → (n k : ℕ) → is_cut before i n ≡ true → ends before i n ≤ k → ((list number : ℕ) → ends (mid ++ before) i list ≤ number → taken_at (mid ++ before) i list number ≡ None) → taken_at (mid ++ before) i n k ≡ None
untaken_since wild i own mid before passes n k cut unended untaken = let as_then = cut_ends wild i n own mid before passes cut in untaken n k (omega (arith, as_then, unended))

-- ---- an ORB in a slot while its initiator is ahead of the target: the initiator prepares no other one till the target has caught up
module _ (i : ℕ) (mid before : List Moment) (rises : Rises (mid ++ before)) (begins : Begins i (mid ++ before)) (ahead : (terms (mid ++ before)).generation 0 < (terms before).generation (suc i)) where
  module _ (n k slot : ℕ) where
    none_put : WasPut mid before i n k slot → ⊥
    none_put p =
        let leads = said (notes.Append i n k p.cdb p.buffer) in
        let joined : p.front ++ leads ∷ (p.back ++ before) ≡ mid ++ before = moments_split p.front (leads ∷ p.back) before ∙ ap (λ ms. ms ++ before) p.is in
        let there = subst Rises (sym joined) rises in
        let a = generation_grows p.back before (suc i) (each_from _ p.front (leads ∷ (p.back ++ before)) there).1 in
        let b = (each_from _ p.front (leads ∷ (p.back ++ before)) (subst (Begins i) (sym joined) begins)).0 (itself i) in
        let c : (terms (leads ∷ (p.back ++ before))).generation 0 ≤ (terms (mid ++ before)).generation 0 = subst (λ ms. (terms (leads ∷ (p.back ++ before))).generation 0 ≤ (terms ms).generation 0) joined (generation_grows p.front (leads ∷ (p.back ++ before)) 0 there) in
        omega (arith, a, b, c, ahead)

    pub put_before_ahead : prepared_in (mid ++ before) i slot ≡ Some (orb n k) → prepared_in before i slot ≡ Some (orb n k)
    put_before_ahead there = by (was_put before i n k slot mid there)
      where
        by : (prepared_in before i slot ≡ Some (orb n k)) ⊎ WasPut mid before i n k slot → prepared_in before i slot ≡ Some (orb n k)
        by (inl e) = e
        by (inr p) = absurd (none_put p)
