-- What a ring wrote was got (NCITS 325-1998, DOORBELL register). Where a run is lossless and nothing is in flight, what is left to show of the writes that a ring sent for a fresh list that is present: a DOORBELL that was
-- written once the agent had got the ORB_POINTER of the list was got by this agent. Then each rung ORB of the list has ended.
use Rattle.std.specs.Prelude.{◌≡◌, ◌<◌, ◌++◌, ◌∷◌, ℕ, List, length}
use Rattle.rbc_disk.specs.Disk.{Disk}
use Rattle.sbp_journal.specs.Run.{Moment, said}
use Rattle.sbp_journal.specs.Wire.{terms}
use Rattle.sbp_journal.specs.declared.note.Note.TheVariants as notes
use Rattle.sbp_world.specs.Completing.Bells.{WasBelled}
use Rattle.sbp_world.specs.Completing.BellsOpened.{HasOpening}
use Rattle.sbp_world.specs.Completing.Present.{WasPointed}
use Rattle.sbp_world.specs.Completing.Rung.{IsRung}
use Rattle.sbp_world.specs.Completing.Sights.{IsFresh}
use Rattle.sbp_world.specs.Worlds.{WorldState}

-- the agent of a place got a DOORBELL, behind what stood as the ring wrote it
pub record IsBellTaken (now : List Moment) (place i n k : ℕ) (written : WasBelled now i n k) : Type 0 where
  pub later : List Moment
  pub past : List Moment
  pub is : later ++ said (notes.Got written.serial) ∷ past ≡ now
  pub rung : IsRung (terms past) written.serial place
  pub front : List Moment
  pub behind : front ++ written.back ≡ past

-- a ring wrote once the write of ORB_POINTER for its list was got
pub record IsBehind (start : List Disk) (now : List Moment) (w : WorldState) (i n k : ℕ) (written : WasBelled now i n k) : Type 0 where
  pub pointed : WasPointed now i n
  pub opening : HasOpening start now w i n pointed.serial
  pub since : List Moment
  pub is : since ++ said (notes.Got pointed.serial) ∷ opening.before ≡ written.back

-- each such write was got at the agent that has the list
abbrev pub AreBellsTaken : List Disk → List Moment → WorldState → Type 0
AreBellsTaken start now w =
    (i n k : ℕ) → i < length w.initiators → IsFresh now i n → (written : WasBelled now i n k) → (x : IsBehind start now w i n k written) → IsBellTaken now x.opening.place i n k written
