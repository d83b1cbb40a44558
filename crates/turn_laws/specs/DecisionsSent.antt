-- The response and the status block of a decision (NCITS 325-1998, management agent): behind each decision its initiator is sent one write, the response, cut to the length that the ORB got allows, to the address that it names, or, where
-- that has no byte, the status block to its FIFO; and behind the answer to a response the status block. Each goes where it finds a label; and no other write in the turn. It is `decisions` of the sent law.
use Rattle.sbp_laws.specs.SentWrites.{DecisionsAreSent}
use Rattle.sbp_laws.specs.Turns.{EachTurn}
use Rattle.turn_laws.specs.Runs.{OfEveryRun}

abbrev pub DecisionsSentLaw : Type 0
DecisionsSentLaw = OfEveryRun (λ start past. EachTurn (DecisionsAreSent start) past)
