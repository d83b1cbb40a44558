-- The law of the two ends together, and what lists and statuses stand on, where the lines name units of 16 bits.
use Rattle.sbp_world.proofs.Words.Std.{ℕ, ◌<◌, List, length}
use Rattle.sbp_world.proofs.Words.Wire.{Moment}
use Rattle.sbp_world.proofs.Words.Target.{Disk}
use Rattle.sbp_world.proofs.Words.World.{WorldState, AreHere, Under, WhereTameOrFew, IsCalmBeside, IsTameOrFew, LiveLaw, AreOwnOf, AreShort}
use Rattle.sbp_world.proofs.Lists.BufferClears.{FifosAt, fifos_everywhere}
use Rattle.sbp_world.proofs.Lists.Courses.{EveryPlace}
use Rattle.sbp_world.proofs.Lists.LiveGiven.{LawsAt, ShortLaw, shorts_everywhere}
use Rattle.sbp_world.proofs.Lists.LiveLogins.{laws, logins_known, logins_live, logouts_end}
use Rattle.sbp_world.proofs.Lists.Beside.{AreDone, done_based}
use Rattle.sbp_world.proofs.Lists.OwnNodes.{owners_everywhere}
use Rattle.sbp_world.proofs.Lists.OpenedKnown.{lists_here}
use Rattle.sbp_world.proofs.Lists.StatusPlaces.{AllPlacedFor}

all_placed_for : (start : List Disk) (past : List Moment) (w : WorldState) → FifosAt past w → ((i : ℕ) → i < length w.initiators → AreShort past → AreDone start (length w.initiators) past i → AreOwnOf w i) → AreShort past → ((i : ℕ) → i < length w.initiators → IsCalmBeside past i → AreDone start (length w.initiators) past i) → IsTameOrFew past → AllPlacedFor past w
all_placed_for start past w fifos own shorts known beside i inside calm =
    let done = known i inside (calm, beside) in
    ((fifos i inside calm shorts (done_based start (length w.initiators) past i inside done)).1, own i inside shorts done)

module _ (short : ShortLaw) where
  known : EveryPlace LawsAt
  known = laws short

  -- the two ends together
  pub live_by : LiveLaw
  live_by = logins_live short

  -- an open list is the present one
  pub here_beside : Under (WhereTameOrFew AreHere)
  here_beside = lists_here known live_by (logouts_end short)

  -- the operations are of places, and the logins have FIFOs of logins
  pub placed_beside : Under (WhereTameOrFew AllPlacedFor)
  placed_beside =
      let shorts = shorts_everywhere short in
      let done = logins_known short in
      record {
        after_lines = λ line run r has small size so_far.
            all_placed_for run.start.disks _ _ (fifos_everywhere.after_lines line run r has small size so_far) (owners_everywhere.after_lines line run r has small size so_far) (shorts.after_lines line run r has small size so_far) (done.after_lines line run r has small size so_far);
        between = λ line run r has small size next most told m so_far.
            all_placed_for run.start.disks _ _ (fifos_everywhere.between line run r has small size next most told m so_far) (owners_everywhere.between line run r has small size next most told m so_far) (shorts.between line run r has small size next most told m so_far) (done.between line run r has small size next most told m so_far);
      }
