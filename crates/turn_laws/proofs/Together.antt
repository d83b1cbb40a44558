-- The laws of turns of every run, together.
use Rattle.turn_laws.specs.Together.{TurnsLaw}
use Rattle.turn_laws.proofs.AbortedRuns.{aborted_law}
use Rattle.turn_laws.proofs.Aborts.{aborts_law}
use Rattle.turn_laws.proofs.AnswerRuns.{answered_law}
use Rattle.turn_laws.proofs.Asked.{asked_law}
use Rattle.turn_laws.proofs.Cleared.{cleared_law}
use Rattle.turn_laws.proofs.Codes.{codes_law}
use Rattle.turn_laws.proofs.Cuts.{cuts_law}
use Rattle.turn_laws.proofs.Deaths.{deaths_law}
use Rattle.turn_laws.proofs.DecisionRuns.{decided_law}
use Rattle.turn_laws.proofs.DecisionsSent.{decisions_sent_law}
use Rattle.turn_laws.proofs.FailingRuns.{failing_law}
use Rattle.turn_laws.proofs.FailureNotes.{failures_law}
use Rattle.turn_laws.proofs.Ends.{ends_law}
use Rattle.turn_laws.proofs.Faults.{faults_law}
use Rattle.turn_laws.proofs.Judgements.{judgement_run_law}
use Rattle.turn_laws.proofs.LoginRuns.{login_run_law}
use Rattle.turn_laws.proofs.PushSent.{told_sent_law}
use Rattle.turn_laws.proofs.PushTold.{push_told_law}
use Rattle.turn_laws.proofs.Pushes.{pushes_law}
use Rattle.turn_laws.proofs.Once.{once_law}
use Rattle.turn_laws.proofs.OwnCases.{operations_law}
use Rattle.turn_laws.proofs.Requests.{requests_run_law}
use Rattle.turn_laws.proofs.RomRuns.{after_law}
use Rattle.turn_laws.proofs.RunEnds.{runs_end_law}
use Rattle.turn_laws.proofs.SentPackets.{packets_run_law}
use Rattle.turn_laws.proofs.Silent.{silent_law}
use Rattle.turn_laws.proofs.Statuses.{statuses_law}
use Rattle.turn_laws.proofs.Told.{told_law}
use Rattle.turn_laws.proofs.Unserved.{unserved_law}

pub turns_law : TurnsLaw
turns_law = record {
  after_lines = λ line run is some most size. record {
    judgement = judgement_run_law.after_lines line run is some most size;
    login = login_run_law.after_lines line run is some most size;
    sent = record {
      packets = packets_run_law.after_lines line run is some most size;
      answers = answered_law.after_lines line run is some most size;
      requests = requests_run_law.after_lines line run is some most size;
      after = after_law.after_lines line run is some most size;
      statuses = statuses_law.after_lines line run is some most size;
      decisions = decisions_sent_law.after_lines line run is some most size;
      asked = asked_law.after_lines line run is some most size;
    };
    cuts = cuts_law.after_lines line run is some most size;
    cleared = cleared_law.after_lines line run is some most size;
    ends = ends_law.after_lines line run is some most size;
    once = once_law.after_lines line run is some most size;
    deaths = deaths_law.after_lines line run is some most size;
    codes = codes_law.after_lines line run is some most size;
    aborts = aborts_law.after_lines line run is some most size;
    aborted = aborted_law.after_lines line run is some most size;
    silent = silent_law.after_lines line run is some most size;
    unserved = unserved_law.after_lines line run is some most size;
    faults = faults_law.after_lines line run is some most size;
    decided = decided_law.after_lines line run is some most size;
    failures = failures_law.after_lines line run is some most size;
    failing = failing_law.after_lines line run is some most size;
    runs_end = runs_end_law.after_lines line run is some most size;
    pushes = pushes_law.after_lines line run is some most size;
    told = told_law.after_lines line run is some most size;
    pushes_told = push_told_law.after_lines line run is some most size;
    told_sent = told_sent_law.after_lines line run is some most size;
    operations = operations_law.after_lines line run is some most size;
  };
  between = λ line run is some most size next deliveries told may. record {
    judgement = judgement_run_law.between line run is some most size next deliveries told may;
    login = login_run_law.between line run is some most size next deliveries told may;
    sent = record {
      packets = packets_run_law.between line run is some most size next deliveries told may;
      answers = answered_law.between line run is some most size next deliveries told may;
      requests = requests_run_law.between line run is some most size next deliveries told may;
      after = after_law.between line run is some most size next deliveries told may;
      statuses = statuses_law.between line run is some most size next deliveries told may;
      decisions = decisions_sent_law.between line run is some most size next deliveries told may;
      asked = asked_law.between line run is some most size next deliveries told may;
    };
    cuts = cuts_law.between line run is some most size next deliveries told may;
    cleared = cleared_law.between line run is some most size next deliveries told may;
    ends = ends_law.between line run is some most size next deliveries told may;
    once = once_law.between line run is some most size next deliveries told may;
    deaths = deaths_law.between line run is some most size next deliveries told may;
    codes = codes_law.between line run is some most size next deliveries told may;
    aborts = aborts_law.between line run is some most size next deliveries told may;
    aborted = aborted_law.between line run is some most size next deliveries told may;
    silent = silent_law.between line run is some most size next deliveries told may;
    unserved = unserved_law.between line run is some most size next deliveries told may;
    faults = faults_law.between line run is some most size next deliveries told may;
    decided = decided_law.between line run is some most size next deliveries told may;
    failures = failures_law.between line run is some most size next deliveries told may;
    failing = failing_law.between line run is some most size next deliveries told may;
    runs_end = runs_end_law.between line run is some most size next deliveries told may;
    pushes = pushes_law.between line run is some most size next deliveries told may;
    told = told_law.between line run is some most size next deliveries told may;
    pushes_told = push_told_law.between line run is some most size next deliveries told may;
    told_sent = told_sent_law.between line run is some most size next deliveries told may;
    operations = operations_law.between line run is some most size next deliveries told may;
  };
}
