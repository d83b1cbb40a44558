-- What an ORB that was cut off leaves: its slot stays closed to lists that are open, while the target is in its generation.
use Rattle.sbp_world.proofs.Words.Std.{append_assoc, arith, ◌≡◌, ◌∙◌, refl, sym, ap, subst, ◌<◌, ◌≤◌, ℕ, suc, Bool, true, false, List, ◌++◌, Some, None, false≢true}
use Rattle.sbp_world.proofs.Words.Wire.{Moment, terms}
use Rattle.sbp_world.proofs.Words.Laws.{orb, prepared_in, taken_at, IsOpen, is_cut, ends}
use Rattle.sbp_world.proofs.Words.World.{HadSlot, WasCutOff, ahead, in_generation}
use Rattle.sbp_world.proofs.Lists.DataSlots.{same_orb}
use Rattle.sbp_world.proofs.Lists.Joins.{Begins}
use Rattle.sbp_world.proofs.Lists.Passing.{PassLaw}
use Rattle.sbp_world.proofs.Lists.Rises.{Rises}
use Rattle.sbp_world.proofs.Lists.SlotsCut.{cut_ends, open_apart, put_before_ahead}
use Rattle.sbp_world.proofs.Lists.UnrunTerms.{cut_stays}

-- ---- no ORB of an open list has the slot
module _ (wild : ℕ → Bool) (i : ℕ) (own : wild i ≡ false) (past : List Moment) (passes : PassLaw wild past) (rises : Rises past) (begins : Begins i past) (untaken : (n k : ℕ) → ends past i n ≤ k → taken_at past i n k ≡ None) where
  module _ (slot : ℕ) (off : WasCutOff past i slot) (list number : ℕ) (opened : IsOpen past i list) (there : prepared_in past i slot ≡ Some (orb list number)) where
    abbrev joined : List Moment
    joined = off.later ++ off.before

    at : (F : List Moment → Type 0) → F past → F joined
    at F h = subst F (sym off.is) h

    -- the list that was cut is not open
    cut_there : is_cut joined i off.list ≡ true
    cut_there = at (λ ms. is_cut ms i off.list ≡ true) off.cut

    other : list ≡ off.list → ⊥
    other e = false≢true (sym opened.uncut ∙ (ap (is_cut past i) e ∙ off.cut))

    by : HadSlot past off.before i slot (orb off.list off.number) → ⊥
    by (in_generation held current) =
        open_apart wild i own off.later off.before (at (PassLaw wild) passes) (at Rises rises) (at (Begins i) begins) (at (λ ms. (terms ms).generation 0 ≤ (terms off.before).generation (suc i)) current) off.list off.number slot
        (at (λ ms. taken_at ms i off.list off.number ≡ None) (untaken off.list off.number off.unended)) held cut_there list number slot (at (λ ms. IsOpen ms i list) opened) (at (λ ms. prepared_in ms i slot ≡ Some (orb list number)) there) refl
    by (ahead had later) =
        let so = put_before_ahead i off.later off.before (at Rises rises) (at (Begins i) begins) (at (λ ms. (terms ms).generation 0 < (terms off.before).generation (suc i)) later) list number slot (at (λ ms. prepared_in ms i slot ≡ Some (orb list number)) there) in
        other ((same_orb list number off.list off.number (sym so ∙ had)).0)

    pub off_apart : ⊥
    off_apart = by off.had

-- ---- it stays so while the target is in its generation
pub had_later : (past now before : List Moment) (i slot n k : ℕ) → (terms now).generation 0 ≡ (terms past).generation 0 → HadSlot past before i slot (orb n k) → HadSlot now before i slot (orb n k)
had_later past now before i slot n k same (in_generation held current) = in_generation held (subst (λ g. g ≤ (terms before).generation (suc i)) (sym same) current)
had_later past now before i slot n k same (ahead had later) = ahead had (subst (λ g. g < (terms before).generation (suc i)) (sym same) later)

pub off_stays : (wild : ℕ → Bool) (i : ℕ) → wild i ≡ false → (later past : List Moment) → PassLaw wild (later ++ past) → (terms (later ++ past)).generation 0 ≡ (terms past).generation 0 → (slot : ℕ) → WasCutOff past i slot → WasCutOff (later ++ past) i slot
off_stays wild i own later past passes same slot off = record {
  list = off.list;
  number = off.number;
  cut = cut_stays later past i off.list off.cut;
  unended = (let e = cut_ends wild i off.list own later past passes off.cut in let b = off.unended in omega (arith, e, b));
  later = later ++ off.later;
  before = off.before;
  is = append_assoc later off.later off.before ∙ ap (λ ms. later ++ ms) off.is;
  had = had_later past (later ++ past) off.before i slot off.list off.number same off.had;
}
