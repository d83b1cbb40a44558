-- A chunk of an answer that its medium did not tell (NCITS 325-1998, agents): where a turn tells that its write finds no label there are bytes, as many, with which it finds none. It is `unserved` of the cause law.
use Rattle.std.specs.Prelude.{List}
use Rattle.rbc_disk.specs.Disk.{Disk}
use Rattle.sbp_laws.specs.Agents.{agent_event, agent_turn, target_before, wire_before}
use Rattle.sbp_laws.specs.Deaths.{DiesUnserved}
use Rattle.sbp_laws.specs.Turns.{EachTurn, Turn}
use Rattle.turn_laws.specs.Runs.{OfEveryRun}

abbrev pub UnservedWhereTold : List Disk → Turn → Type 0
UnservedWhereTold start t = DiesUnserved (target_before start t) t (agent_turn (agent_event start t) (target_before start t) (wire_before t) t.rest)

abbrev pub UnservedLaw : Type 0
UnservedLaw = OfEveryRun (λ start past. EachTurn (UnservedWhereTold start) past)
