-- The answers of every run (IEEE 1394-1995, response codes; NCITS 325-1998, registers of agents, ORBs and page tables in an initiator's memory): the packets of a
-- delivery in which a node gets a request begin with the response to it, with the rcode of the address tables and of the agent's state, and with the bytes that stand
-- there. It is `answers` of the sent law.
use Rattle.sbp_laws.specs.SentAnswers.{AnswersLaw}
use Rattle.sbp_laws.specs.Turns.{EachTurn}
use Rattle.turn_laws.specs.Runs.{OfEveryRun}

abbrev pub AnsweredLaw : Type 0
AnsweredLaw = OfEveryRun (λ start past. EachTurn (AnswersLaw start) past)
