-- What follows a step of an agent sends no more requests than the step asks for, those yet to be made for the agent counted, whether they find labels or not (NCITS 325-1998, command block agents).
use Rattle.std.specs.Prelude.{◌≤◌, ◌<◌, ℕ, ◌+◌, is_some, if◌then◌else◌, List, [], ◌∷◌, length}
use Rattle.login_table.specs.declared.login.Login.{Login}
use Rattle.command_agent.specs.declared.step.AgentStep.{AgentStep}
use Rattle.command_agent.specs.Machine.{Machine}
use Rattle.command_agent.specs.Counting.{is_made, mark, left_of}
use Rattle.sbp_journal.specs.declared.outbox.Outgoing.{Outgoing}
use Rattle.sbp_target.specs.Nodes.{Scene, desk_at}
use Rattle.sbp_target.specs.Agents.{follow}

-- the requests among packets: a response has no label
abbrev pub requests : List Outgoing → ℕ
requests [] = 0
requests (packet ∷ packets) = (if is_some packet.label then 1 else 0) + requests packets

abbrev pub agent_at : ℕ → Scene → Machine
agent_at place s = (desk_at s.node place).agent

-- the requests handed out, those yet to be made for the present ORB of the agent of a place, and its doorbell mark
abbrev pub counts : ℕ → ℕ → ℕ → Scene → ℕ
counts tables chunks place s = requests s.outbox.packets + (left_of tables chunks (agent_at place s) + mark (agent_at place s))

-- What follows a step raises this number by no more than the step asks for: a main request that finds no label makes way for the write of the status block, and a read ahead that leaves not for the mark that it cleared.
abbrev pub FollowsAreCounted : Type 0
FollowsAreCounted = (tables chunks place : ℕ) (login : Login) (step : AgentStep) (s : Scene) → place < length s.node.desks →
    counts tables chunks place (follow place login step s) ≤ counts tables chunks place s + (is_made step.ask + is_made step.ahead)
