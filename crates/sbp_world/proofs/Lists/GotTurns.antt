-- What is said of packets as they are got goes on over a turn, where it is so of each packet at the place before it.
use Rattle.sbp_world.proofs.Words.Std.{sym, subst, ℕ, List, [], ◌∷◌, ◌++◌, map}
use Rattle.sbp_world.proofs.Words.Wire.{Moment, asked, said, Event, Note}
use Rattle.sbp_world.proofs.Words.Laws.{EachMoment}
use Rattle.sbp_world.proofs.Words.World.{AtGot}
use Rattle.sbp_journal.specs.declared.note.Note.TheVariants as notes
use Rattle.sbp_world.proofs.Lists.Gots.{Next, next, next_line, same_still}
use Rattle.sbp_world.proofs.Lists.Quiet.{AllQuiet, IsQuiet}

module _ (Says : List Moment → ℕ → Type 0) (opened : (line : ℕ) (event : Event) (past : List Moment) → ((serial : ℕ) → Says past serial) → (serial : ℕ) → Says (asked line event ∷ past) serial) where
  note_says : (note : Note) (past : List Moment) → ((serial : ℕ) → Says past serial) → AtGot Says (said note) past
  note_says (notes.Got serial) past a = a serial
  note_says note past a = tt

  moment_says : (moment : Moment) (past : List Moment) → ((serial : ℕ) → Says past serial) → AtGot Says moment past
  moment_says (asked line event) past a = tt
  moment_says (said note) past a = note_says note past a

  quiet_says : (note : Note) (past : List Moment) → IsQuiet note → AtGot Says (said note) past
  quiet_says (notes.Got serial) past q = absurd q
  quiet_says note past q = tt

  front_says : (front : List Note) (past : List Moment) → AllQuiet front → EachMoment (AtGot Says) past → EachMoment (AtGot Says) (map said front ++ past)
  front_says [] past q g = g
  front_says (note ∷ front) past q g = (quiet_says note (map said front ++ past) q.0, front_says front past q.1 g)

  pub got_turn : (before now : List Moment) → Next before now → ((serial : ℕ) → Says before serial) → EachMoment (AtGot Says) before → EachMoment (AtGot Says) now
  got_turn before now (same_still e) a g = subst (EachMoment (AtGot Says)) (sym e) g
  got_turn before now (next front q moment is) a g = subst (EachMoment (AtGot Says)) is (front_says front (moment ∷ before) q (moment_says moment before a, g))
  got_turn before now (next_line front q note line event is) a g =
      subst (EachMoment (AtGot Says)) is (front_says front (said note ∷ asked line event ∷ before) q (note_says note (asked line event ∷ before) (opened line event before a), (tt, g)))
