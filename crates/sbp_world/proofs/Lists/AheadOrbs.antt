-- While an agent had an ORB read ahead, what was got of its initiator begins elsewhere than in the slot of the ORB, by every history.
use Rattle.sbp_world.proofs.Words.Std.{◌≡◌, ◌<◌, ℕ, Bool, false, List, [], ◌∷◌, ◌++◌}
use Rattle.sbp_world.proofs.Words.Wire.{Moment, asked, said, Note}
use Rattle.sbp_world.proofs.Words.Target.{Disk}
use Rattle.sbp_world.proofs.Words.Initiator.{start_of}
use Rattle.sbp_world.proofs.Words.Laws.{EachMoment}
use Rattle.sbp_world.proofs.Words.World.{AheadAsGot, AreKeptAhead, HasAhead, AllAhead, HasOrbAhead, AllElsewhereBut}
use Rattle.bus_memory.specs.declared.window.Window.TheVariants as windows
use Rattle.sbp_journal.specs.declared.note.Note.TheVariants as notes
use Rattle.sbp_world.specs.Lists.FedRuns.{AreOthers}
use Rattle.sbp_world.proofs.Lists.AheadSince.{ahead_since_law}

module _ (start : List Disk) (i place slot : ℕ) where
  has_ahead : (past : List Moment) → HasOrbAhead start past i place (start_of (windows.Orb slot)) → HasAhead start past place slot
  has_ahead past x = record { orb = x.orb; kept = x.kept; offset = x.offset; next = x.next; stands = x.stands }

  kept_ahead : (between before : List Moment) → AllAhead start i place (start_of (windows.Orb slot)) between before → AllElsewhereBut start i slot between before → AreKeptAhead start i place slot between before
  kept_ahead [] before a e = tt
  kept_ahead (asked line event ∷ between) before a e = kept_ahead between before a e
  kept_ahead (said note ∷ between) before a e = by_note note a e (kept_ahead between before)
    where
      by_note : (note : Note) → AllAhead start i place (start_of (windows.Orb slot)) (said note ∷ between) before → AllElsewhereBut start i slot (said note ∷ between) before → (AllAhead start i place (start_of (windows.Orb slot)) between before → AllElsewhereBut start i slot between before → AreKeptAhead start i place slot between before) → AreKeptAhead start i place slot (said note ∷ between) before
      by_note (notes.Got serial) a e more = ((a.0.awaited, (has_ahead (between ++ before) a.0, e.0)), more a.1 e.1)
      by_note note a e more = more a e

  pub others_ahead : (wild : ℕ → Bool) → wild i ≡ false → place < 8 → (between before : List Moment) → EachMoment (AheadAsGot wild start) (between ++ before) → AllAhead start i place (start_of (windows.Orb slot)) between before → AllElsewhereBut start i slot between before → AreOthers i slot between before
  others_ahead wild own small between before g a e = ahead_since_law wild start i place slot own small between before g (kept_ahead between before a e)
