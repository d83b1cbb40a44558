-- At rest what each ring wrote was taken as new (NCITS 325-1998, ORB_POINTER and DOORBELL registers), of each list with a rung ORB that its initiator began since it first saw the latest reset.
use Rattle.std.specs.Prelude.{◌≡◌, ◌<◌, ℕ, List, length}
use Rattle.sbp_journal.specs.Run.{Moment}
use Rattle.sbp_journal.specs.Wire.{terms}
use Rattle.sbp_laws.specs.Budget.{Lossless}
use Rattle.sbp_laws.specs.Completion.{in_the_air}
use Rattle.sbp_world.specs.Completing.Bells.{WasBelled}
use Rattle.sbp_world.specs.Completing.Sights.{IsFresh}
use Rattle.sbp_world.specs.Lists.Closes.{Always}
use Rattle.sbp_world.specs.Lists.Needs.{IsCalm}
use Rattle.sbp_world.specs.Worlds.{WorldState}

abbrev pub WereBellsTaken : List Moment → WorldState → Type 0
WereBellsTaken past w = Lossless past → in_the_air past ≡ 0 → (i n k : ℕ) → i < length w.initiators → IsCalm past i → IsFresh past i n → (written : WasBelled past i n k) → (terms past).news written.serial ≡ 1

abbrev pub RestBelledLaw : Type 0
RestBelledLaw = Always WereBellsTaken
