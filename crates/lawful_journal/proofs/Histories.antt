-- Histories that go on by notes, in the order of time.
use Rattle.std.proofs.Common.{◌≡◌, ◌∙◌, List, [], ◌∷◌, ◌++◌, map, reverse, true≢false, refl, sym, ap}
use Rattle.std.proofs.lemmas.Grind.{reverse_onto}
use Rattle.std.proofs.lemmas.List.{reverse-reverse}
use Rattle.sbp_journal.specs.Run.{Moment, said}
use Rattle.sbp_journal.specs.declared.note.Note.{Note}
use Rattle.sbp_journal.specs.declared.note.Note.TheVariants as notes
use Rattle.sbp_laws.specs.Deliveries.{AreEffects, once_told}
use Rattle.sbp_laws.specs.Turns.{Turn, EachMoment, EachTurn, EachTurnBefore}

-- a history, once these notes were said
abbrev pub put : List Moment → List Note → List Moment
put past [] = past
put past (note ∷ rest) = put (said note ∷ past) rest

-- the notes up to the next turn
abbrev pub front : List Note → List Note
front [] = []
front (notes.Got serial ∷ rest) = []
front (notes.Ignored serial cause ∷ rest) = []
front (notes.TimedOut serial ∷ rest) = []
front (notes.Seen node generation ∷ rest) = []
front (notes.Tick ∷ rest) = []
front (notes.Settled ∷ rest) = []
front (notes.Stopped ∷ rest) = []
front (note ∷ rest) = note ∷ front rest

pub put_append : (past : List Moment) (before behind : List Note) → put past (before ++ behind) ≡ put (put past before) behind
put_append past [] behind = refl
put_append past (note ∷ before) behind = put_append (said note ∷ past) before behind

pub put_reverse : (past : List Moment) (told : List Note) → put past (reverse told) ≡ map said told ++ past
put_reverse past [] = refl
put_reverse past (note ∷ told) =
    ap (put past) (reverse_onto told note []) ∙ put_append past (reverse told) (note ∷ []) ∙ ap (λ l. said note ∷ l) (put_reverse past told)

pub told_once : (past : List Moment) (told : List Note) → once_told past told ≡ put past told
told_once past told = sym (put_reverse past (reverse told)) ∙ ap (put past) (reverse-reverse told)

-- effects are of one turn
pub effects_front : (rest : List Note) → AreEffects rest → front rest ≡ rest
effects_front [] are = refl
effects_front (notes.Got serial ∷ rest) are = absurd (true≢false (sym are.0))
effects_front (notes.Ignored serial cause ∷ rest) are = absurd (true≢false (sym are.0))
effects_front (notes.TimedOut serial ∷ rest) are = absurd (true≢false (sym are.0))
effects_front (notes.Seen node generation ∷ rest) are = absurd (true≢false (sym are.0))
effects_front (notes.Tick ∷ rest) are = absurd (true≢false (sym are.0))
effects_front (notes.Settled ∷ rest) are = absurd (true≢false (sym are.0))
effects_front (notes.Stopped ∷ rest) are = absurd (true≢false (sym are.0))
effects_front (note ∷ rest) are = ap (λ l. note ∷ l) (effects_front rest are.1)

module _ (At : Moment → List Moment → Type 0) where
  pub moments_before : (ahead : List Note) (past : List Moment) → EachMoment At (put past ahead) → EachMoment At past
  moments_before [] past each = each
  moments_before (note ∷ rest) past each = (moments_before rest (said note ∷ past) each).1

  pub moments_front : (ahead : List Note) (past : List Moment) → EachMoment At (put past ahead) → EachMoment At (put past (front ahead))
  moments_front [] past each = each
  moments_front (notes.Got serial ∷ rest) past each = (moments_before rest (said (notes.Got serial) ∷ past) each).1
  moments_front (notes.Ignored serial cause ∷ rest) past each = (moments_before rest (said (notes.Ignored serial cause) ∷ past) each).1
  moments_front (notes.TimedOut serial ∷ rest) past each = (moments_before rest (said (notes.TimedOut serial) ∷ past) each).1
  moments_front (notes.Seen node generation ∷ rest) past each = (moments_before rest (said (notes.Seen node generation) ∷ past) each).1
  moments_front (notes.Tick ∷ rest) past each = (moments_before rest (said notes.Tick ∷ past) each).1
  moments_front (notes.Settled ∷ rest) past each = (moments_before rest (said notes.Settled ∷ past) each).1
  moments_front (notes.Stopped ∷ rest) past each = (moments_before rest (said notes.Stopped ∷ past) each).1
  moments_front (note ∷ rest) past each = moments_front rest (said note ∷ past) each

module _ (Law : Turn → Type 0) where
  -- the turns of what stands before, whose last one has the notes up to the next
  pub turns_before : (ahead : List Note) (past : List Moment) → EachTurn Law (put past ahead) → EachTurnBefore Law past (front ahead)
  turns_before [] past each = each
  turns_before (notes.Got serial ∷ rest) past each = (turns_before rest (said (notes.Got serial) ∷ past) each).1
  turns_before (notes.Ignored serial cause ∷ rest) past each = (turns_before rest (said (notes.Ignored serial cause) ∷ past) each).1
  turns_before (notes.TimedOut serial ∷ rest) past each = (turns_before rest (said (notes.TimedOut serial) ∷ past) each).1
  turns_before (notes.Seen node generation ∷ rest) past each = (turns_before rest (said (notes.Seen node generation) ∷ past) each).1
  turns_before (notes.Tick ∷ rest) past each = (turns_before rest (said notes.Tick ∷ past) each).1
  turns_before (notes.Settled ∷ rest) past each = (turns_before rest (said notes.Settled ∷ past) each).1
  turns_before (notes.Stopped ∷ rest) past each = (turns_before rest (said notes.Stopped ∷ past) each).1
  turns_before (note ∷ rest) past each = turns_before rest (said note ∷ past) each

-- two laws of moments as one
module _ (A B C : Moment → List Moment → Type 0) (make : (moment : Moment) (past : List Moment) → A moment past → B moment past → C moment past) where
  pub with_moments : (past : List Moment) → EachMoment A past → EachMoment B past → EachMoment C past
  with_moments [] a b = tt
  with_moments (moment ∷ past) a b = (make moment past a.0 b.0, with_moments past a.1 b.1)
