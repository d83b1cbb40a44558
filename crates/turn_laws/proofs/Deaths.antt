-- In each turn of every run a death has its row.
use Rattle.std.proofs.Common.{ℕ, ◌<◌, Bool, true, false, List}
use Rattle.rbc_disk.specs.Disk.{Disk}
use Rattle.sbp_bus.specs.Packets.{end_note}
use Rattle.sbp_initiator.specs.Receiving.{receive_step}
use Rattle.sbp_journal.specs.Outgoings.{empty_outbox}
use Rattle.sbp_journal.specs.Run.{Moment, said}
use Rattle.sbp_laws.specs.Turns.{EachTurn}
use Rattle.sbp_target.specs.Receiving.{received}
use Rattle.sbp_world.specs.Delivering.{whole_of}
use Rattle.sbp_world.specs.Worlds.{initiator_at}
use Rattle.sbp_world.proofs.Agents.Management.Still.{hist}
use Rattle.turn_laws.specs.Deaths.{DeathsLaw, DiesByRows}
use Rattle.turn_laws.specs.Ends.{EndsWhereDue}
use Rattle.turn_laws.specs.Runs.{OfEveryRun}
use Rattle.turn_laws.proofs.Calls.{Cases}
use Rattle.turn_laws.proofs.DeathAnswers.{judged_answers, late_answers, nothing_no}
use Rattle.turn_laws.proofs.DeathRows.{AnswersAt, AnswersFairly, rows_told}
use Rattle.turn_laws.proofs.Ends.{ends_law}
use Rattle.turn_laws.proofs.EachTurns.{joined_law}
use Rattle.turn_laws.proofs.Pass.{of_every_run}

end_answers : (start : List Disk) (past : List Moment) (done : Bool) → AnswersAt start past (said (end_note done))
end_answers start past true = λ reply e main. absurd (nothing_no reply e)
end_answers start past false = λ reply e main. absurd (nothing_no reply e)

module _ (units ready : ℕ) (has : 0 < units) (start : List Disk) where
  answer_cases : Cases units ready start (AnswersFairly start)
  answer_cases = record {
    heard = λ past s serial again run one found zero_to may told here behind j. judged_answers units ready has start past s here serial (received run one.generation one.bytes (whole_of s.world.target s.media)).0;
    heard_own = λ past s serial again one i found to_is inside told here behind j. judged_answers units ready has start past s here serial (receive_step one.generation one.bytes empty_outbox (initiator_at s.world i)).0;
    late = λ past s serial request done t found node_is e told here behind j. late_answers units ready has start past s here serial;
    late_own = λ past s serial request i outbox state found node_is inside e told here behind j. late_answers units ready has start past s here serial;
    sees = λ past s told here behind j reply e main. absurd (nothing_no reply e);
    sees_own = λ past s i inside told here behind j reply e main. absurd (nothing_no reply e);
    ticks = λ past s told here behind j reply e main. absurd (nothing_no reply e);
    ends = λ past s done here behind. end_answers start (hist past s.world) done;
    acts = λ past s line i action outbox state inside e told here behind reply f main. absurd (nothing_no reply f);
    lines = λ past s line event rest behind brings fresh here there reply e main. absurd (nothing_no reply e);
    begins = λ line initiators is_ready reply e main. absurd (nothing_no reply e);
  }

-- Each answer to a main transaction is one to what its agent asked for.
pub answers_law : OfEveryRun (λ start past. EachTurn (AnswersFairly start) past)
answers_law = of_every_run AnswersFairly (λ units ready start has. answer_cases units ready has start)

pub deaths_law : DeathsLaw
deaths_law = joined_law EndsWhereDue AnswersFairly DiesByRows rows_told ends_law answers_law
