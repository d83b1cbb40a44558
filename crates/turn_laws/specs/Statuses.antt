-- The status of an end (NCITS 325-1998, status block): behind each end of an ORB its initiator is sent one write, the status of that end with the address of the ORB's slot, to the login's FIFO, with src by the
-- next pointer that was got last, where it finds a label; and no other write in the turn. It is `statuses` of the sent law.
use Rattle.sbp_laws.specs.SentWrites.{StatusesAreSent}
use Rattle.sbp_laws.specs.Turns.{EachTurn}
use Rattle.turn_laws.specs.Runs.{OfEveryRun}

abbrev pub StatusesLaw : Type 0
StatusesLaw = OfEveryRun (λ start past. EachTurn (StatusesAreSent start) past)
