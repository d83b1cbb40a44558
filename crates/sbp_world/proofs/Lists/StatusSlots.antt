-- A slot has its ORB behind one more moment in which no generation is seen, while no status of the ORB is taken.
use Rattle.sbp_world.proofs.Words.Std.{◌≡◌, sym, ap, subst, ◌∙◌, inl, inr, ◌⊎◌, ℕ, suc, List, [], ◌∷◌, ◌++◌}
use Rattle.sbp_world.proofs.Words.Wire.{Moment, said}
use Rattle.sbp_world.proofs.Words.Laws.{Orb}
use Rattle.sbp_world.proofs.Words.World.{HasSlot, IsGone, saw, was_over}
use Rattle.sbp_journal.specs.declared.note.Note.TheVariants as notes
use Rattle.sbp_world.proofs.Lists.SlotsHeld.{slots_stay_law}
use Rattle.sbp_world.proofs.Lists.StatusMoments.{HasTaken, over_taken, taken_stays}
use Rattle.sbp_world.proofs.Common.{moments_split}

abbrev pub IsUnseen : Moment → Type 0
IsUnseen (said (notes.Seen node generation)) = ⊥
IsUnseen moment = Unit {0}

not_seen : (m : Moment) → IsUnseen m → (front back : List Moment) (node generation : ℕ) → front ++ said (notes.Seen node generation) ∷ back ≡ m ∷ [] → ⊥
not_seen m u [] back node generation e = subst IsUnseen (sym (let z : said (notes.Seen node generation) ≡ m = cc in z)) u
not_seen m u (x ∷ []) back node generation e = absurd (let z : x ∷ (said (notes.Seen node generation) ∷ back) ≡ m ∷ [] = e in cc)
not_seen m u (x ∷ y ∷ front) back node generation e = absurd (let z : x ∷ (y ∷ (front ++ said (notes.Seen node generation) ∷ back)) ≡ m ∷ [] = e in cc)

pub slot_on : (m : Moment) (ms : List Moment) (i slot : ℕ) (one : Orb) → IsUnseen m → (HasTaken (m ∷ ms) i one.list one.number → ⊥) → HasSlot ms i slot one → HasSlot (m ∷ ms) i slot one
slot_on m ms i slot one u none h = by (slots_stay_law.stays (m ∷ []) ms i slot one h)
  where
    by : HasSlot (m ∷ ms) i slot one ⊎ IsGone (m ∷ []) ms i one → HasSlot (m ∷ ms) i slot one
    by (inl g) = g
    by (inr (was_over front back is o)) =
        let t = taken_stays front (back ++ ms) i one.list one.number (over_taken (back ++ ms) i one o) in
        absurd (none (subst (λ h. HasTaken h i one.list one.number) (moments_split front back ms ∙ ap (λ a. a ++ ms) is) t))
    by (inr (saw front back generation is d)) = absurd (not_seen m u front back (suc i) generation is)
