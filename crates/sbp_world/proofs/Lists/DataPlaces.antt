-- The data of answers are sent as they are to be in every run in which no initiator injected packets, or few logins were given, where lists were open as they should be before, each live login
-- for the node of an initiator has a FIFO of a login, and the management asks to write into no buffer of an initiator.
use Rattle.sbp_world.proofs.Words.Std.{◌≡◌, ◌<◌, ℕ, Bool, false, List, length, Some}
use Rattle.sbp_world.proofs.Words.Wire.{LabelParts, Packet, judging_step, of_response, Sent, Moment}
use Rattle.sbp_world.proofs.Words.Target.{Disk, answer_in}
use Rattle.sbp_world.proofs.Words.Laws.{EachMoment}
use Rattle.sbp_world.proofs.Words.World.{UnderFrom, PointersLaw, WorldState, without_notes, BegunLaw, AreHere, Under, WhereTameOrFew, AreUntaken, AllDataSo, DataSo, IsCalm, IsFor}
use Rattle.sbp_world.proofs.Lists.AnswersTold.{there_law}
use Rattle.sbp_world.proofs.Lists.DataWhole.{all_filled}
use Rattle.sbp_target.specs.declared.purpose.Purpose.TheVariants as purposes
use Rattle.sbp_world.proofs.Agents.Management.Still.{hist}
use Rattle.sbp_world.proofs.Lists.DataOffice.{AreAsksDry, given_data}
use Rattle.sbp_world.proofs.Lists.DataProved.{Over, data_law}
use Rattle.sbp_world.proofs.Lists.DataWalk.{Given}
use Rattle.sbp_world.proofs.Lists.RunOutcomes.{AreAsked}
use Rattle.sbp_world.proofs.Lists.StatusProved.{AreNames, ground_law}
use Rattle.sbp_world.proofs.Lists.Turns.{Ready}
use Rattle.sbp_world.proofs.Lists.DataHeard.{AreOwnFor, HaveSlots}
use Rattle.sbp_world.proofs.Lists.DataWhole.{whole_law}

-- behind each packet that comes, the management asks to write into no buffer of an initiator
abbrev pub IsOfficeDry : WorldState → ℕ → Type 0
IsOfficeDry w i = (sent : Sent) → IsFor w sent → (p : Packet) (label : LabelParts) → (judging_step w.target.layer sent.generation sent.bytes).0 ≡ of_response p label (Some purposes.Management) → AreAsksDry w i (answer_in p)

abbrev pub AllOfficeDry : List Moment → WorldState → Type 0
AllOfficeDry ms w = (i : ℕ) → i < length w.initiators → IsCalm ms i → AreOwnFor w i × IsOfficeDry w i

abbrev Placed : ℕ → WorldState → Type 0
Placed i w = AreOwnFor w i × IsOfficeDry w i

placed_on : (i : ℕ) (w : WorldState) → Placed i w → Placed i (without_notes w)
placed_on i w p =
    ((λ place login e live there. p.0 place login e live there), (λ sent is_for packet label found op is ours at len e slot goes. p.1 sent (record { serial = is_for.serial; found = is_for.found; to = is_for.to }) packet label found op is ours at len e slot goes))

gives : (start : List Disk) (wild : ℕ → Bool) (i : ℕ) (own : wild i ≡ false) (past : List Moment) (w : WorldState) (r : Ready wild past w) → AreAsked wild (hist past w) w → Placed i w → EachMoment (DataSo start i) (hist past w) → HaveSlots (hist past w) i → Given start wild i own past w r
gives start wild i own past w r asked placed each slots = given_data start wild i own past w r asked placed.0 each slots placed.1

module _ (pointers : PointersLaw) (begun : BegunLaw) (here : Under (WhereTameOrFew AreHere)) (names : Under (WhereTameOrFew AreNames)) (untaken : Under (WhereTameOrFew AreUntaken)) (dry : Under (WhereTameOrFew AllOfficeDry)) where
  over : UnderFrom (λ start. WhereTameOrFew (Over Placed placed_on gives start))
  over = record {
    after_lines = λ line run r has small size so_far tame. (here.after_lines line run r has small size so_far tame, (names.after_lines line run r has small size so_far tame, (untaken.after_lines line run r has small size so_far tame, (whole_law.after_lines line run r has small size so_far, (dry.after_lines line run r has small size so_far tame, (there_law.after_lines line run r has small size so_far, (all_filled.after_lines line run r has small size).fills))))));
    between = λ line run r has small size next most told m so_far tame. (here.between line run r has small size next most told m so_far tame, (names.between line run r has small size next most told m so_far tame, (untaken.between line run r has small size next most told m so_far tame, (whole_law.between line run r has small size next most told m so_far, (dry.between line run r has small size next most told m so_far tame, (there_law.between line run r has small size next most told m so_far, (all_filled.between line run r has small size next most told m).fills))))));
  }

  pub data_sent : UnderFrom (λ start. WhereTameOrFew (AllDataSo start))
  data_sent = data_law Placed placed_on gives (ground_law pointers begun) over
