-- What the top call promises, by its words.
use Rattle.std.specs.Prelude.{ℕ, List}
use Rattle.line_session.specs.Outside.{Outside}
use Rattle.drill_text.specs.Words.{IsDrill}
use Rattle.sbp_command.specs.Complete.{Completes}
use Rattle.sbp_command.specs.Drill.{DrillEnds}
use Rattle.sbp_command.specs.Headline.{IsDecode, IsRom, IsRun, ListingEnds, RomEnds, RunEnds, UsageEnds}
use Rattle.sbp_command.specs.QueueEnds.{IsQueue, QueueEnds}
use Rattle.sbp_command.specs.TaskEnds.{IsTasks, TaskEnds}
use Rattle.sbp_command.specs.declared.status.Status.{Status}

-- Each row of words brings what it is to bring, and other words the usage line.
pub record Rows (words : List (List ℕ)) (status : Status) (before now : Outside) : Type 0 where
  pub run : IsRun words → RunEnds status before now
  pub drill : (seed count : ℕ) → IsDrill words seed count → DrillEnds seed count status before now
  pub decode : IsDecode words → ListingEnds status before now
  pub rom : IsRom words → RomEnds status before now
  pub tasks : IsTasks words → TaskEnds status before now
  pub queue : IsQueue words → QueueEnds status before now
  pub others : ¬ IsRun words → ((seed count : ℕ) → ¬ IsDrill words seed count) → ¬ IsDecode words → ¬ IsRom words → ¬ IsTasks words → ¬ IsQueue words → UsageEnds status before now

-- So the call serves its words; and where nothing is amiss with what lies outside, it serves them to the end.
pub record Serves (words : List (List ℕ)) (status : Status) (before now : Outside) : Type 0 where
  pub rows : Rows words status before now
  pub complete : Completes words status before now
