-- The laws of lists, as the clauses of a world have them: with the lines of a run, which name units of 16 bits.
use Rattle.sbp_world.proofs.Words.Std.{◌≡◌, ◌<◌, ◌≤◌, ℕ, length}
use Rattle.sbp_world.proofs.Words.Laws.{injectors}
use Rattle.sbp_world.proofs.Words.World.{history_of, Run, IsRun, AreBrought, IsTameOrFew, AnswerLengthsLaw, WereReadLaw, CarriedRunLaw, OpenListsLaw, DataSentLaw, RunsSinceLaw, LiveLaw, OneUpLaw, NobodyAsGotLaw, LogoutsLaw, ListsLaw, OwnAsGotLaw, OwnGotsLaw, OwnReadsLaw, ReadsAsGotLaw, ReadAndFedLaw, AheadAsGotLaw, WaitsAsGotLaw, DataHeldLaw, ManagedAsGotLaw, AnswersBroughtLaw, AnswersHoldLaw, CutOffLaw, MainSlotsLaw, CutSlotsLaw, DataGotsLaw, ServedGotLaw, DataSequenceLaw, DataServedLaw}
use Rattle.sbp_world.specs.Lists.Faults.{FaultsLaw}
use Rattle.sbp_world.specs.Lists.TakenAlive.{AliveTakesLaw}
use Rattle.sbp_world.proofs.Lists.Executes.{ends_read_law, runs_fed_law, runs_read_law}
use Rattle.sbp_world.proofs.Lists.ListsProved.{closing}
use Rattle.sbp_world.proofs.Lists.AnswerLengths.{answer_lengths_law}
use Rattle.sbp_world.proofs.Lists.AheadGots.{ahead_as_got_law}
use Rattle.sbp_world.proofs.Lists.AheadWaits.{waits_as_got_law}
use Rattle.sbp_world.proofs.Lists.CarriedEnds.{were_read_law}
use Rattle.sbp_world.proofs.Lists.CarriedWhole.{carried_run_law}
use Rattle.sbp_world.proofs.Lists.CutOffRuns.{cut_off_law, nobody_law}
use Rattle.sbp_world.proofs.Lists.DataLaws as data_laws
use Rattle.sbp_world.proofs.Lists.DataLaws.{data_sent_law, data_held_law}
use Rattle.sbp_world.proofs.Lists.FaultRuns.{faults_law}
use Rattle.sbp_world.proofs.Lists.FedJoins.{runs_since_law}
use Rattle.sbp_world.proofs.Lists.MainSlotsRuns.{main_slots_law}
use Rattle.sbp_world.proofs.Lists.FedOwnerRuns.{own_gots_law, own_reads_law}
use Rattle.sbp_world.proofs.Lists.Lawful as proved
use Rattle.sbp_world.proofs.Lists.ManagedGots.{managed_as_got_law}
use Rattle.sbp_world.proofs.Lists.OneUp.{one_up_law}
use Rattle.sbp_world.proofs.Lists.OwnGots.{own_as_got_law}
use Rattle.sbp_world.proofs.Lists.OwnWaits.{reads_as_got_law}
use Rattle.sbp_world.proofs.Lists.ReadFeeds.{read_and_fed_law}
use Rattle.sbp_world.proofs.Lists.ShortLines.{short_law}
use Rattle.sbp_world.proofs.Lists.TakenAlive.{alive_takes_law}

pub sessions_law : LiveLaw
sessions_law = proved.sessions_law short_law

pub logouts_law : LogoutsLaw
logouts_law = proved.logouts_law short_law

pub open_lists_law : OpenListsLaw
open_lists_law = proved.open_lists_law short_law

pub lists_law : ListsLaw
lists_law = proved.lists_law short_law

pub lengths_law : AnswerLengthsLaw
lengths_law = answer_lengths_law lists_law

pub data_law : DataSentLaw
data_law = data_sent_law short_law

pub own_law : OwnReadsLaw
own_law = own_reads_law open_lists_law

pub one_up : OneUpLaw
one_up = one_up_law short_law open_lists_law

pub faults : FaultsLaw
faults = faults_law short_law one_up open_lists_law

pub takes_alive : AliveTakesLaw
takes_alive = alive_takes_law lists_law faults

pub reads_law : WereReadLaw
reads_law = were_read_law open_lists_law one_up

pub held_law : DataHeldLaw
held_law = data_held_law short_law

pub served_law : DataServedLaw
served_law = data_laws.served_law short_law

pub sequence_law : DataSequenceLaw
sequence_law = data_laws.sequence_law short_law

pub data_gots : DataGotsLaw
data_gots = data_laws.gots_law short_law

pub answers_brought : AnswersBroughtLaw
answers_brought = data_laws.brought_law short_law

pub cut_slots : CutSlotsLaw
cut_slots = data_laws.cut_apart short_law

pub answers_hold : AnswersHoldLaw
answers_hold = data_laws.hold_law short_law open_lists_law lengths_law

pub served_got : ServedGotLaw
served_got = data_laws.got_law short_law

pub gots_law : OwnGotsLaw
gots_law = own_gots_law open_lists_law

pub managed_gots : ManagedAsGotLaw
managed_gots = managed_as_got_law short_law open_lists_law

pub ahead_waits : WaitsAsGotLaw
ahead_waits = waits_as_got_law open_lists_law

pub ahead_gots : AheadAsGotLaw
ahead_gots = ahead_as_got_law short_law open_lists_law

pub got_law : OwnAsGotLaw
got_law = own_as_got_law open_lists_law

pub waits_law : ReadsAsGotLaw
waits_law = reads_as_got_law open_lists_law

pub since_law : RunsSinceLaw
since_law = runs_since_law open_lists_law

pub main_slots : MainSlotsLaw
main_slots = main_slots_law short_law open_lists_law

pub cut_offs : CutOffLaw
cut_offs = cut_off_law short_law open_lists_law

-- what answers nobody
pub nobody_as_got : NobodyAsGotLaw
nobody_as_got = nobody_law short_law open_lists_law

pub feeds_law : ReadAndFedLaw
feeds_law = read_and_fed_law open_lists_law one_up ahead_gots managed_gots nobody_as_got

-- the carried law
pub carried_law : CarriedRunLaw
carried_law = carried_run_law feeds_law reads_law answers_hold

-- how ORBs and their data were read
pub brought_law : (line : ℕ) (run : Run) → IsRun run → 0 < run.units → run.units ≤ 4 → length run.start.disks ≡ run.units → IsTameOrFew (history_of line run) → AreBrought (injectors (history_of line run)) run.start.disks (history_of line run)
brought_law line run r has small size tame =
    let so_far = closing.before open_lists_law line run r has small size tame in
    record {
      runs = runs_read_law.after_lines line run r has small size so_far;
      buffers = runs_fed_law.after_lines line run r has small size so_far;
      ends = ends_read_law.after_lines line run r has small size so_far;
    }
