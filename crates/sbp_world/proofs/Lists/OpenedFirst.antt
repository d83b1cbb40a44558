-- What the first moment of a turn leaves of the lists of an initiator and of its operation, and what stands behind that in a turn of the target.
use Rattle.sbp_world.proofs.Words.Std.{arith, ◌≡◌, ◌⊎◌, inl, inr, ◌∙◌, refl, ap, ◌<◌, ℕ, Bool, true, false, List, ◌∷◌, ◌++◌, map, Some, false≢true}
use Rattle.sbp_world.proofs.Words.Wire.{Moment, asked, said, terms, Note}
use Rattle.sbp_world.proofs.Words.Laws.{Underway, host_at}
use Rattle.sbp_world.proofs.Words.World.{AllOf, of_rest}
use Rattle.sbp_journal.specs.declared.note.Note.TheVariants as notes
use Rattle.sbp_world.proofs.Lists.Generations.{is_sight, moment_generation}
use Rattle.sbp_world.proofs.Lists.OpenedHosts.{Goes, IsLaterAt, IsSame, goes_then, one}
use Rattle.sbp_world.proofs.Lists.OpenedMoments.{SameLists, all_hosts, all_lists, all_same, all_weaker, of_target, target_rest}

-- a moment that begins a turn, or a line
abbrev pub is_first : Moment → Bool
is_first (said (notes.Begin initiators ready)) = false
is_first (said (notes.Append i n k cdb buffer)) = false
is_first (said (notes.Drop i n)) = false
is_first (said (notes.Sent serial generation from to bytes)) = false
is_first _ = true

pub first_lists : (m : Moment) (past : List Moment) (i : ℕ) → is_first m ≡ true → SameLists i past (m ∷ past)
first_lists (said (notes.Begin initiators ready)) past i e = absurd (false≢true e)
first_lists (said (notes.Append j n k cdb buffer)) past i e = absurd (false≢true e)
first_lists (said (notes.Drop j n)) past i e = absurd (false≢true e)
first_lists (said (notes.Sent serial generation from to bytes)) past i e = absurd (false≢true e)
first_lists (said note) past i e = record { present = refl; begun = refl }
first_lists (asked line event) past i e = record { present = refl; begun = refl }

first_later : (n i : ℕ) (m : Moment) → is_first m ≡ true → IsLaterAt n i m
first_later n i (said (notes.Sent serial generation from to bytes)) e = absurd (false≢true e)
first_later n i (said note) e = tt
first_later n i (asked line event) e = tt

-- ---- a turn of the target leaves the lists and the operation of an initiator
module _ (i : ℕ) (more : List Note) (m : Moment) (H : List Moment) (all : AllOf of_target more) (first : is_first m ≡ true) where
  abbrev now : List Moment
  now = map said more ++ m ∷ H

  pub lists_same : SameLists i H now
  lists_same =
      let a = all_lists more (m ∷ H) i all in
      let b = first_lists m H i first in
      record { present = a.present ∙ b.present; begun = a.begun ∙ b.begun }

  pub generation_same : (node : ℕ) → is_sight node m ≡ false → (terms now).generation node ≡ (terms H).generation node
  generation_same node e =
      ap (λ (g : ℕ → ℕ). g node) (all_same more (m ∷ H) (all_weaker of_target of_rest target_rest more all)).generation ∙ moment_generation node m H e

  goes : (n : ℕ) → Goes n (host_at H i) (host_at now i)
  goes n = goes_then n (host_at H i) (host_at (m ∷ H) i) (host_at now i) (one n m H i (first_later n i m first)) (all_hosts n more (m ∷ H) i all)

  pub operation_same : (underway : Underway) → (host_at now i).operation ≡ Some underway → IsSame (host_at H i).operation underway
  operation_same u e = by ((goes u.first).operation u e)
    where
      by : IsSame (host_at H i).operation u ⊎ (u.first < u.first) → IsSame (host_at H i).operation u
      by (inl s) = s
      by (inr l) = absurd (omega (arith, l))
