-- The judgement law of every run (IEEE 1394-1995, transaction layer; NCITS 325-1998, agents and status FIFO): each delivery begins with the note of the first row that holds, and one that is ignored has no other
-- note but the answer that its row has.
use Rattle.sbp_laws.specs.JudgementLaw.{JudgementLaw}
use Rattle.turn_laws.specs.Runs.{OfEveryRun}

abbrev pub JudgementRunLaw : Type 0
JudgementRunLaw = OfEveryRun JudgementLaw
