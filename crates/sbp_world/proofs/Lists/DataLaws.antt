-- In every run in which no initiator injected packets, or few logins were given, the target sent the data of answers as they are to be sent, where the lines name units of 16 bits.
use Rattle.sbp_world.proofs.Words.Std.{sym, ℕ, suc, ◌<◌, List, length}
use Rattle.sbp_world.proofs.Words.Wire.{topology_at, Moment}
use Rattle.sbp_world.proofs.Words.Target.{Disk}
use Rattle.sbp_world.proofs.Words.World.{UnderFrom, IsCalmBeside, IsTameOrFew, WorldState, GoodEndsLaw, AllCutApart, AnswersBroughtLaw, AnswersHoldLaw, AnswerLengthsLaw, OpenListsLaw, AreUntaken, Under, WhereTameOrFew, DataGotsLaw, ServedGotLaw, DataSequenceLaw, DataServedLaw, AllStatuses, AreShort, AllDataSo, AllEndSo, AllDataHeld}
use Rattle.sbp_world.proofs.Wire.Bus.{node_has}
use Rattle.sbp_world.proofs.Lists.Beside.{AreDone, done_based}
use Rattle.sbp_world.proofs.Lists.OwnNodes.{AreOwnNodes, nodes_everywhere}
use Rattle.sbp_world.proofs.Lists.SlotsCutRuns.{cut_apart_law}
use Rattle.sbp_world.proofs.Lists.StatusRested.{grounds_law}
use Rattle.sbp_world.proofs.Sessions.Runs.{joined_law}
use Rattle.sbp_world.proofs.Lists.GoodEnds.{good_ends_law}
use Rattle.sbp_world.proofs.Lists.AnswersCarriedRuns.{answers_brought_law, whole_law}
use Rattle.sbp_world.proofs.Lists.AnswersHold.{answers_hold_law}
use Rattle.sbp_world.proofs.Lists.DataServing.{data_gots_law, data_sequence_law, data_served_law, served_got_law}
use Rattle.sbp_world.proofs.Lists.LiveGiven.{ShortLaw, shorts_everywhere}
use Rattle.sbp_world.proofs.Lists.LiveLogins.{logins_known}
use Rattle.sbp_world.proofs.Lists.DataClears.{DryAt, dry_everywhere}
use Rattle.sbp_world.proofs.Lists.DataPlaces.{AllOfficeDry, data_sent}
use Rattle.sbp_world.proofs.Lists.LiveShort.{here_beside, placed_beside}
use Rattle.sbp_world.proofs.Lists.OpenedKnown as opened_known
use Rattle.sbp_world.proofs.Lists.StatusPlaces as places
use Rattle.sbp_world.proofs.Lists.DataOver.{ends_law}
use Rattle.sbp_world.proofs.Lists.StatusProved.{AreNames, ground_law}
use Rattle.sbp_world.proofs.Lists.DataHolds.{held_law}

all_office : (start : List Disk) (past : List Moment) (w : WorldState) → DryAt past w → AreOwnNodes start past w → AreShort past → ((i : ℕ) → i < length w.initiators → IsCalmBeside past i → AreDone start (length w.initiators) past i) → IsTameOrFew past → AllOfficeDry past w
all_office start past w dry own shorts known beside i inside calm =
    let done = known i inside (calm, beside) in (
      λ place login e live there. own i inside shorts done place login e live (sym (node_has (topology_at w.generations 0) login.node (suc i) there).id_is),
      dry i inside calm shorts (done_based start (length w.initiators) past i inside done),
    )

module _ (short : ShortLaw) where
  pub dry_by : Under (WhereTameOrFew AllOfficeDry)
  dry_by =
      let shorts = shorts_everywhere short in
      let done = logins_known short in
      record {
        after_lines = λ line run r has small size so_far.
            all_office run.start.disks _ _ (dry_everywhere.after_lines line run r has small size so_far) (nodes_everywhere.after_lines line run r has small size so_far) (shorts.after_lines line run r has small size so_far) (done.after_lines line run r has small size so_far);
        between = λ line run r has small size next most told m so_far.
            all_office run.start.disks _ _ (dry_everywhere.between line run r has small size next most told m so_far) (nodes_everywhere.between line run r has small size next most told m so_far) (shorts.between line run r has small size next most told m so_far) (done.between line run r has small size next most told m so_far);
      }

  pub untaken_by : Under (WhereTameOrFew AreUntaken)
  untaken_by = places.untaken_law opened_known.laws.pointers opened_known.laws.begun (here_beside short) (placed_beside short)

  pub names_by : Under (WhereTameOrFew AreNames)
  names_by = places.names opened_known.laws.pointers opened_known.laws.begun (here_beside short) (placed_beside short)

  pub data_sent_law : UnderFrom (λ start. WhereTameOrFew (AllDataSo start))
  data_sent_law = data_sent opened_known.laws.pointers opened_known.laws.begun (here_beside short) names_by untaken_by dry_by

  pub data_held_law : Under (WhereTameOrFew AllDataHeld)
  data_held_law = held_law data_sent_law

  -- no ORB of an open list has the slot of an ORB whose list was cut before it ended
  pub cut_apart : Under (WhereTameOrFew AllCutApart)
  cut_apart = cut_apart_law (grounds_law (ground_law opened_known.laws.pointers opened_known.laws.begun) joined_law) untaken_by

  statuses_by : Under (WhereTameOrFew AllStatuses)
  statuses_by = places.statuses opened_known.laws.pointers opened_known.laws.begun (here_beside short) (placed_beside short)

pub answers_end_law : Under AllEndSo
answers_end_law = ends_law (ground_law opened_known.laws.pointers opened_known.laws.begun)

pub good_law : GoodEndsLaw
good_law = good_ends_law (ground_law opened_known.laws.pointers opened_known.laws.begun)

-- what each history of such a run is
module _ (short : ShortLaw) where
  pub served_law : DataServedLaw
  served_law = data_served_law (data_sent_law short) answers_end_law (statuses_by short)

  pub sequence_law : DataSequenceLaw
  sequence_law = data_sequence_law (data_sent_law short) answers_end_law (statuses_by short)

  pub gots_law : DataGotsLaw
  gots_law = data_gots_law (data_sent_law short) answers_end_law (statuses_by short)

  pub got_law : ServedGotLaw
  got_law = served_got_law (data_sent_law short) answers_end_law (statuses_by short)

  pub brought_law : AnswersBroughtLaw
  brought_law = answers_brought_law (data_sent_law short) answers_end_law (statuses_by short) good_law

  pub hold_law : OpenListsLaw → AnswerLengthsLaw → AnswersHoldLaw
  hold_law lists lengths = answers_hold_law lists (whole_law (data_sent_law short) answers_end_law (statuses_by short) good_law) lengths
