-- How an ORB stands in its slot over a turn, while it is not over: in the target's generation the slot has it; and while its initiator is ahead of the target no other ORB
-- is prepared, so that it is the last one which was prepared there.
use Rattle.sbp_world.proofs.Words.Std.{arith, ◌≡◌, ◌∙◌, refl, sym, ap, subst, inl, inr, ◌⊎◌, ◌<◌, ◌≤◌, ◌==◌, ℕ, suc, nat_eq, Bool, true, false, cond, List, [], ◌∷◌, ◌++◌, map, Some, nat_tests}
use Rattle.sbp_world.proofs.Words.Wire.{Moment, said, terms, Note}
use Rattle.sbp_world.proofs.Words.Laws.{is_over, orb, prepared_in, slot_at}
use Rattle.sbp_world.proofs.Words.World.{AllOf, of_rest, HasSlot, IsGone, saw, was_over}
use Rattle.sbp_journal.specs.declared.note.Note.TheVariants as notes
use Rattle.sbp_world.proofs.Lists.Joins.{Begins}
use Rattle.sbp_world.proofs.Lists.OpenedMoments.{Same, all_same}
use Rattle.sbp_world.proofs.Lists.Rises.{Rises}
use Rattle.sbp_world.proofs.Lists.SlotsHeld.{slots_stay_law}
use Rattle.sbp_world.proofs.Lists.Stands.{Stands}
use Rattle.sbp_world.proofs.Lists.StatusKnown.{each_from, generation_grows, unlike, own_sight}
use Rattle.sbp_world.proofs.Common.{moments_split, moment_joined}

pub record Slotted (past : List Moment) (i n k : ℕ) : Type 0 where
  pub placed : Stands (prepared_in past i) (slot_at past i n k) n k
  pub held : (terms past).generation 0 ≡ (terms past).generation (suc i) → HasSlot past i (slot_at past i n k) (orb n k)

-- ---- while an initiator is ahead it prepares nothing
module _ (i : ℕ) (before : List Moment) (ahead : (terms before).generation 0 < (terms before).generation (suc i)) where
  prepared_by : (j n k : ℕ) (more : List Note) (slot lowest : ℕ) → Same (terms before) (terms (map said more ++ before)) → ((j == i) ≡ true → (terms (map said more ++ before)).generation (suc i) ≤ (terms (map said more ++ before)).generation 0) → (x : Bool) → nat_eq i j ≡ x → cond x (cond (nat_eq slot lowest) (Some (orb n k)) (prepared_in (map said more ++ before) i slot)) (prepared_in (map said more ++ before) i slot) ≡ prepared_in (map said more ++ before) i slot
  prepared_by j n k more slot lowest s b true e =
      let low = b (let z : (j == i) ≡ true = grind (arith, nat_tests) in z) in
      let x = ap (λ (g : ℕ → ℕ). g 0) s.generation in
      let y = ap (λ (g : ℕ → ℕ). g (suc i)) s.generation in
      absurd (omega (arith, low, x, y, ahead))
  prepared_by j n k more slot lowest s b false e = refl

  none_prepared : (slot : ℕ) (more : List Note) → AllOf of_rest more → Begins i (map said more ++ before) → prepared_in (map said more ++ before) i slot ≡ prepared_in before i slot
  none_prepared slot [] a b = refl
  none_prepared slot (notes.Append j n k cdb buffer ∷ more) a b = prepared_by j n k more slot _ (all_same more before a.1) b.0 (nat_eq i j) refl ∙ none_prepared slot more a.1 b.1
  none_prepared slot (note ∷ more) a b = none_prepared slot more a.1 b.1

-- ---- a turn
module _ (i n k : ℕ) (H : List Moment) (m : Moment) (more : List Note) where
  abbrev now : List Moment
  now = map said more ++ m ∷ H

  abbrev later : List Moment
  later = map said more ++ m ∷ []

  abbrev gen : List Moment → ℕ → ℕ
  gen ms node = (terms ms).generation node

  whole : later ++ H ≡ now
  whole = moment_joined (map said more) m H

  module _ (rest : AllOf of_rest more) (first : (slot : ℕ) → prepared_in (m ∷ H) i slot ≡ prepared_in H i slot) (still : gen (m ∷ H) 0 ≡ gen H 0) (low : gen H 0 ≤ gen H (suc i)) (rises : Rises now) (begins : Begins i now) (slot_same : slot_at now i n k ≡ slot_at H i n k) (never : (after before : List Moment) → after ++ before ≡ now → is_over before i (orb n k) ≡ true → ⊥) (was : Slotted H i n k) where
    abbrev slot : ℕ
    slot = slot_at H i n k

    same : Same (terms (m ∷ H)) (terms now)
    same = all_same more (m ∷ H) rest

    target_same : gen now 0 ≡ gen H 0
    target_same = ap (λ (g : ℕ → ℕ). g 0) same.generation ∙ still

    rises_all : Rises (later ++ H)
    rises_all = subst Rises (sym whole) rises

    grows : gen H (suc i) ≤ gen now (suc i)
    grows = subst (λ ms. gen H (suc i) ≤ gen ms (suc i)) whole (generation_grows later H (suc i) rises_all)

    -- in the target's generation
    module _ (one : gen now 0 ≡ gen now (suc i)) where
      own_same : gen now (suc i) ≡ gen H (suc i)
      own_same = let a = target_same in let b = grows in omega (arith, a, b, low, one)

      was_one : gen H 0 ≡ gen H (suc i)
      was_one = let a = target_same in let b = own_same in omega (arith, a, b, one)

      none_over : (front back : List Moment) → front ++ back ≡ later → is_over (back ++ H) i (orb n k) ≡ true → ⊥
      none_over front back is o = never front (back ++ H) (moments_split front back H ∙ (ap (λ ms. ms ++ H) is ∙ whole)) o

      none_saw : (front back : List Moment) (generation : ℕ) → front ++ said (notes.Seen (suc i) generation) ∷ back ≡ later → (generation == gen (back ++ H) (suc i)) ≡ false → ⊥
      none_saw front back generation is differs =
          let x = said (notes.Seen (suc i) generation) in
          let there = x ∷ (back ++ H) in
          let all : front ++ there ≡ later ++ H = moments_split front (x ∷ back) H ∙ ap (λ ms. ms ++ H) is in
          let r : Rises (front ++ there) = subst Rises (sym all) rises_all in
          let here : Rises there = each_from _ front there r in
          let a = generation_grows back H (suc i) here.1 in
          let b : gen (back ++ H) (suc i) ≤ generation = here.0 in
          let c : gen there (suc i) ≡ generation = own_sight (suc i) generation (terms (back ++ H)).generation in
          let d = generation_grows front there (suc i) r in
          let e : gen (front ++ there) (suc i) ≡ gen now (suc i) = ap (λ ms. gen ms (suc i)) (all ∙ whole) in
          let f = unlike generation (gen (back ++ H) (suc i)) differs in
          let g = own_same in
          f (omega (arith, a, b, c, d, e, g))

      by_stays : HasSlot (later ++ H) i slot (orb n k) ⊎ IsGone later H i (orb n k) → HasSlot (later ++ H) i slot (orb n k)
      by_stays (inl h) = h
      by_stays (inr (was_over front back is o)) = absurd (none_over front back is o)
      by_stays (inr (saw front back generation is d)) = absurd (none_saw front back generation is d)

      held_now : HasSlot now i (slot_at now i n k) (orb n k)
      held_now =
          subst (λ s. HasSlot now i s (orb n k)) (sym slot_same)
          (subst (λ ms. HasSlot ms i slot (orb n k)) whole (by_stays (slots_stay_law.stays later H i slot (orb n k) (was.held was_one))))

    small : slot_at now i n k < 32
    small = let e = slot_same in let s = was.placed.small in omega (arith, e, s)

    placed_by : (x : Bool) → nat_eq (gen now 0) (gen now (suc i)) ≡ x → Stands (prepared_in now i) (slot_at now i n k) n k
    placed_by true e = record { last = (held_now (let z : gen now 0 ≡ gen now (suc i) = grind (arith, nat_tests) in z)).there; small = small }
    placed_by false e =
        let differs = unlike (gen now 0) (gen now (suc i)) e in
        let a = target_same in
        let b = grows in
        let x = ap (λ (g : ℕ → ℕ). g 0) same.generation in
        let y = ap (λ (g : ℕ → ℕ). g (suc i)) same.generation in
        let ahead : gen (m ∷ H) 0 < gen (m ∷ H) (suc i) = by_order (gen now 0) (gen now (suc i)) (gen H 0) (gen H (suc i)) (gen (m ∷ H) 0) (gen (m ∷ H) (suc i)) differs a low b x y in
        record {
          last = ap (prepared_in now i) slot_same ∙ (none_prepared i (m ∷ H) ahead slot more rest begins ∙ (first slot ∙ was.placed.last));
          small = small;
        }
      where
        by_order : (t o t0 o0 t1 o1 : ℕ) → (t ≡ o → ⊥) → t ≡ t0 → t0 ≤ o0 → o0 ≤ o → t ≡ t1 → o ≡ o1 → t1 < o1
        by_order t o t0 o0 t1 o1 d a l b x y = grind arith

    pub slotted_now : Slotted now i n k
    slotted_now = record { placed = placed_by (nat_eq (gen now 0) (gen now (suc i))) refl; held = held_now }
