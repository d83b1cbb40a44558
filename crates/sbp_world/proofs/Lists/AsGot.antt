-- What is so at each place of a run, and as a line begins, is so as each packet is got: by the first note of a turn.
use Rattle.sbp_world.proofs.Words.Std.{sym, subst, ℕ, List, [], ◌∷◌, ◌++◌, map}
use Rattle.sbp_world.proofs.Words.Wire.{Moment, asked, said, Event, Note}
use Rattle.sbp_world.proofs.Words.Laws.{EachMoment}
use Rattle.sbp_journal.specs.declared.note.Note.TheVariants as notes
use Rattle.sbp_world.proofs.Lists.Gots.{Next, next, next_line, same_still}
use Rattle.sbp_world.proofs.Lists.Quiet.{AllQuiet, IsQuiet}

-- it is so of what stands before a packet that is got
abbrev pub AsGot : (List Moment → Type 0) → Moment → List Moment → Type 0
AsGot A (said (notes.Got serial)) past = A past
AsGot A moment past = Unit {0}

module _ (A : List Moment → Type 0) where
  got_note : (note : Note) (past : List Moment) → A past → AsGot A (said note) past
  got_note (notes.Got serial) past a = a
  got_note note past a = tt

  got_moment : (moment : Moment) (past : List Moment) → A past → AsGot A moment past
  got_moment (asked line event) past a = tt
  got_moment (said note) past a = got_note note past a

  got_quiet : (note : Note) (past : List Moment) → IsQuiet note → AsGot A (said note) past
  got_quiet (notes.Got serial) past q = absurd q
  got_quiet note past q = tt

  got_more : (front : List Note) (past : List Moment) → AllQuiet front → EachMoment (AsGot A) past → EachMoment (AsGot A) (map said front ++ past)
  got_more [] past q g = g
  got_more (note ∷ front) past q g = (got_quiet note (map said front ++ past) q.0, got_more front past q.1 g)

  pub got_turn : ((line : ℕ) (event : Event) (past : List Moment) → A past → A (asked line event ∷ past)) → (before now : List Moment) → Next before now → A before → EachMoment (AsGot A) before → EachMoment (AsGot A) now
  got_turn begins before now (same_still e) a g = subst (EachMoment (AsGot A)) (sym e) g
  got_turn begins before now (next front q moment is) a g = subst (EachMoment (AsGot A)) is (got_more front (moment ∷ before) q (got_moment moment before a, g))
  got_turn begins before now (next_line front q note line event is) a g =
      subst (EachMoment (AsGot A)) is
      (got_more front (said note ∷ asked line event ∷ before) q (got_note note (asked line event ∷ before) (begins line event before a), (tt, g)))
