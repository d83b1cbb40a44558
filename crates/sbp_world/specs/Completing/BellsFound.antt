-- A DOORBELL that was got (NCITS 325-1998, DOORBELL register): what a ring wrote once the ORB_POINTER of its list was got is a quadlet, so a DOORBELL; and where the target got a packet at this register of a place, it got the
-- DOORBELL of the place.
use Rattle.std.specs.Prelude.{◌≡◌, ◌<◌, ◌+◌, ◌++◌, ◌∷◌, ℕ, false, List, length}
use Rattle.mgmt_agent.specs.Decisions.{agent_base}
use Rattle.rbc_disk.specs.Disk.{Disk}
use Rattle.sbp_journal.specs.Run.{Moment, said}
use Rattle.sbp_journal.specs.declared.note.Note.TheVariants as notes
use Rattle.sbp_world.specs.Completing.Bells.{WasBelled}
use Rattle.sbp_world.specs.Completing.BellsGot.{IsBehind}
use Rattle.sbp_world.specs.Completing.Labels.{AlwaysFrom}
use Rattle.sbp_world.specs.Completing.Sights.{IsFresh}
use Rattle.sbp_world.specs.Lists.OwnLogins.{IsTame}
use Rattle.sbp_world.specs.Worlds.{WorldState}

-- the packet of a ring was got, and its address is that of the DOORBELL of a place
pub record IsBellFound (now : List Moment) (place i n k : ℕ) (written : WasBelled now i n k) : Type 0 where
  pub later : List Moment
  pub past : List Moment
  pub is : later ++ said (notes.Got written.serial) ∷ past ≡ now
  pub at : written.access.offset ≡ agent_base place + 0x10

-- each quadlet that a ring wrote once the ORB_POINTER of its list was got, at the agent that has the list
abbrev pub AreBellsFound : List Disk → List Moment → WorldState → Type 0
AreBellsFound start now w =
    (i n k : ℕ) → i < length w.initiators → IsFresh now i n → (written : WasBelled now i n k) → (x : IsBehind start now w i n k written) → written.access.is_block ≡ false → IsBellFound now x.opening.place i n k written

-- Each quadlet that a ring wrote once the ORB_POINTER of its list was got is for the DOORBELL of the agent that has the list.
abbrev pub AreBellsAddressed : List Disk → List Moment → WorldState → Type 0
AreBellsAddressed start now w =
    (i n k : ℕ) → i < length w.initiators → (written : WasBelled now i n k) → (x : IsBehind start now w i n k written) → written.access.is_block ≡ false → written.access.offset ≡ agent_base x.opening.place + 0x10

abbrev pub BellsAddressedLaw : Type 0
BellsAddressedLaw = AlwaysFrom (λ start past w. IsTame past → AreBellsAddressed start past w)

-- Such a packet was got.
pub record IsQuadletGot (now : List Moment) (i n k : ℕ) (written : WasBelled now i n k) : Type 0 where
  pub later : List Moment
  pub past : List Moment
  pub is : later ++ said (notes.Got written.serial) ∷ past ≡ now

abbrev pub AreQuadletsGot : List Disk → List Moment → WorldState → Type 0
AreQuadletsGot start now w = (i n k : ℕ) → i < length w.initiators → IsFresh now i n → (written : WasBelled now i n k) → IsBehind start now w i n k written → written.access.is_block ≡ false → IsQuadletGot now i n k written
