-- By every history, while an agent has an ORB that it read ahead, what is got of its initiator begins elsewhere than in the slot of that ORB.
use Rattle.sbp_world.proofs.Words.Std.{◌≡◌, ◌<◌, ℕ, Bool, false, List, [], ◌∷◌, ◌++◌}
use Rattle.sbp_world.proofs.Words.Wire.{Moment, asked, said, Note}
use Rattle.sbp_world.proofs.Words.Target.{Disk}
use Rattle.sbp_world.proofs.Words.Laws.{EachMoment}
use Rattle.sbp_world.proofs.Words.World.{AheadAsGot, AheadSinceLaw, AreKeptAhead}
use Rattle.sbp_journal.specs.declared.note.Note.TheVariants as notes
use Rattle.sbp_world.specs.Lists.FedRuns.{AreOthers}

module _ (wild : ℕ → Bool) (start : List Disk) (i place slot : ℕ) (own : wild i ≡ false) (small : place < 8) where
  since : (between before : List Moment) → EachMoment (AheadAsGot wild start) (between ++ before) → AreKeptAhead start i place slot between before → AreOthers i slot between before
  since [] before g a = tt
  since (asked line event ∷ between) before g a = since between before g.1 a
  since (said note ∷ between) before g a = by_note note g.0 a (λ x. since between before g.1 x)
    where
      by_note : (note : Note) → AheadAsGot wild start (said note) (between ++ before) → AreKeptAhead start i place slot (said note ∷ between) before → (AreKeptAhead start i place slot between before → AreOthers i slot between before) → AreOthers i slot (said note ∷ between) before
      by_note (notes.Got serial) g a more = (g place small i slot own a.0.0 a.0.1.0 a.0.1.1, more a.1)
      by_note note g a more = more a

pub ahead_since_law : AheadSinceLaw
ahead_since_law wild start i place slot own small between before g a = since wild start i place slot own small between before g a
