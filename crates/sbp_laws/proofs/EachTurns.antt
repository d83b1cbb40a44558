-- Two laws of turns as one.
use Rattle.std.proofs.Common.{List, [], ◌∷◌}
use Rattle.sbp_journal.specs.Run.{Moment, asked, said}
use Rattle.sbp_journal.specs.declared.note.Note.{Note}
use Rattle.sbp_journal.specs.declared.note.Note.TheVariants as notes
use Rattle.sbp_laws.specs.Turns.{Turn, EachTurnBefore}

module _ (A B C : Turn → Type 0) (make : (t : Turn) → A t → B t → C t) where
  pub with_turns : (past : List Moment) (rest : List Note) → EachTurnBefore A past rest → EachTurnBefore B past rest → EachTurnBefore C past rest
  with_turns [] rest a b = tt
  with_turns (asked line event ∷ past) rest a b = (make _ a.0 b.0, with_turns past [] a.1 b.1)
  with_turns (said (notes.Got serial) ∷ past) rest a b = (make _ a.0 b.0, with_turns past [] a.1 b.1)
  with_turns (said (notes.Ignored serial cause) ∷ past) rest a b = (make _ a.0 b.0, with_turns past [] a.1 b.1)
  with_turns (said (notes.TimedOut serial) ∷ past) rest a b = (make _ a.0 b.0, with_turns past [] a.1 b.1)
  with_turns (said (notes.Seen node generation) ∷ past) rest a b = (make _ a.0 b.0, with_turns past [] a.1 b.1)
  with_turns (said notes.Tick ∷ past) rest a b = (make _ a.0 b.0, with_turns past [] a.1 b.1)
  with_turns (said notes.Settled ∷ past) rest a b = (make _ a.0 b.0, with_turns past [] a.1 b.1)
  with_turns (said notes.Stopped ∷ past) rest a b = (make _ a.0 b.0, with_turns past [] a.1 b.1)
  with_turns (said note ∷ past) rest a b = with_turns past (note ∷ rest) a b
