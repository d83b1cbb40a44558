-- A history whose last turn goes on with some notes has the law of that turn; and the judgements of a history stand in its front.
use Rattle.std.proofs.Common.{ℕ, List, [], ◌∷◌, ◌++◌, map}
use Rattle.bus_transactions.specs.Judging.{AreJudged}
use Rattle.sbp_journal.specs.Run.{Moment, asked, said}
use Rattle.sbp_journal.specs.declared.event.Event.{Event}
use Rattle.sbp_journal.specs.declared.note.Note.{Note}
use Rattle.sbp_journal.specs.declared.note.Note.TheVariants as notes
use Rattle.sbp_laws.specs.Turns.{EachTurnBefore, Turn, turn}
use Rattle.sbp_world.proofs.Lists.SendsLast.{IsStart}
use Rattle.turn_laws.proofs.Handed.{AllInner, IsInner, onto}

module _ (L : Turn → Type 0) where
  abbrev pub Turns : List Moment → List Note → Type 0
  Turns past rest = EachTurnBefore L past rest

  inner_on : (note : Note) → IsInner note → (past : List Moment) (rest : List Note) → Turns past (note ∷ rest) → Turns (said note ∷ past) rest
  inner_on (notes.Got serial) q past rest e = absurd q
  inner_on (notes.Ignored serial cause) q past rest e = absurd q
  inner_on (notes.TimedOut serial) q past rest e = absurd q
  inner_on (notes.Seen node generation) q past rest e = absurd q
  inner_on notes.Tick q past rest e = absurd q
  inner_on notes.Settled q past rest e = absurd q
  inner_on notes.Stopped q past rest e = absurd q
  inner_on note q past rest e = e

  start_on : (note : Note) → IsStart note → (past : List Moment) (rest : List Note) → L (turn past (said note) rest) → Turns past [] → Turns (said note ∷ past) rest
  start_on (notes.Got serial) q past rest l e = (l, e)
  start_on (notes.Ignored serial cause) q past rest l e = (l, e)
  start_on (notes.TimedOut serial) q past rest l e = (l, e)
  start_on (notes.Seen node generation) q past rest l e = (l, e)
  start_on notes.Tick q past rest l e = (l, e)
  start_on notes.Settled q past rest l e = (l, e)
  start_on notes.Stopped q past rest l e = (l, e)
  start_on note q past rest l e = absurd q

  walk : (rest old : List Note) (past : List Moment) → AllInner rest → Turns (map said old ++ past) rest → Turns (map said (onto rest old) ++ past) []
  walk [] old past q e = e
  walk (note ∷ rest) old past q e = walk rest (note ∷ old) past q.1 (inner_on note q.0 (map said old ++ past) rest e)

  -- a turn that a note begins, and one that a line begins
  pub by_note : (note : Note) → IsStart note → (rest old : List Note) (past : List Moment) → AllInner rest → L (turn (map said old ++ past) (said note) rest) → Turns (map said old ++ past) [] → Turns (map said (onto rest (note ∷ old)) ++ past) []
  by_note note q rest old past inner l e = walk rest (note ∷ old) past inner (start_on note q (map said old ++ past) rest l e)

  pub by_line : (line : ℕ) (event : Event) (rest : List Note) (past : List Moment) → AllInner rest → L (turn past (asked line event) rest) → Turns past [] → Turns (map said (onto rest []) ++ asked line event ∷ past) []
  by_line line event rest past inner l e = walk rest [] (asked line event ∷ past) inner (l, e)

-- ---- judgements
one_judged : (note : Note) (past : List Moment) → AreJudged (said note ∷ past) → AreJudged past
one_judged (notes.Got serial) past j = j.1
one_judged (notes.Ignored serial cause) past j = j.1
one_judged note past j = j

pub judged_before : (rest old : List Note) (past : List Moment) → AreJudged (map said (onto rest old) ++ past) → AreJudged (map said old ++ past)
judged_before [] old past j = j
judged_before (note ∷ rest) old past j = one_judged note (map said old ++ past) (judged_before rest (note ∷ old) past j)
