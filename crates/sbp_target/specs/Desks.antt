-- What the target keeps for a place of the table of logins.
use Rattle.std.specs.Prelude.{ℕ, ◌&&◌, Bool, false, if◌then◌else◌, Option, Some, None, Result, Ok, Err}
use Rattle.async_packet.specs.Labels.{LabelParts}
use Rattle.command_agent.specs.declared.step.Which.{Which}
use Rattle.command_agent.specs.declared.step.Which.TheVariants.{Main, Ahead}
use Rattle.orb_layout.specs.declared.ask.Ask.{Ask}
use Rattle.orb_layout.specs.declared.pointer.OrbPointer.{OrbPointer}
use Rattle.orb_layout.specs.declared.ask.FailCause.TheVariants as causes
use Rattle.command_agent.specs.declared.step.AgentStep.{AgentStep}
use Rattle.command_agent.specs.declared.step.PointRefusal.{PointRefusal}
use Rattle.command_agent.specs.Steps.{lost_step, point_step, reset_step}
use Rattle.command_agent.specs.Machine.{Machine, new_machine, is_under_way, present_of}
use Rattle.sbp_target.specs.declared.desk.Desk.{Desk}
use Rattle.sbp_target.specs.declared.purpose.Sent.{Sent}
use Rattle.sbp_target.specs.Sending.{is_sent_as}

abbrev pub new_desk : Desk
new_desk = record { agent = new_machine; pointer = None; is_enabled = false; main = None; ahead = None }

abbrev pub is_that : Option Sent → ℕ → LabelParts → Bool
is_that None peer label = false
is_that (Some sent) peer label = is_sent_as sent peer label

-- which transaction of the agent the one with a peer under a label is
abbrev pub which_in : Desk → ℕ → LabelParts → Option Which
which_in desk peer label =
    if is_that desk.main peer label && is_under_way Main desk.agent then Some Main
    else if is_that desk.ahead peer label && is_under_way Ahead desk.agent then Some Ahead
    else None

-- the transaction is under way no more
abbrev pub taken : Which → Desk → Desk
taken Main desk = record desk { main = None }
taken Ahead desk = record desk { ahead = None }

-- the read ahead is the main transaction from now on
abbrev pub promoted_desk : Desk → Desk
promoted_desk desk = record desk { main = desk.ahead; ahead = None }

-- the agent is in RESET, and waits for nothing
abbrev pub reset_desk : Desk → Desk
reset_desk desk = record desk { agent = reset_step desk.agent; main = None; ahead = None }

-- a pointer that is taken is kept
abbrev pub pointed_desk : Desk → Result Ask PointRefusal × Machine → Result Ask PointRefusal × Desk
pointed_desk desk (Ok ask, m) = (Ok ask, record desk { agent = m; pointer = present_of m })
pointed_desk desk (Err refusal, m) = (Err refusal, record desk { agent = m })

abbrev pub point_desk : Desk → OrbPointer → Result Ask PointRefusal × Desk
point_desk desk pointer = pointed_desk desk (point_step desk.agent pointer)

-- a transaction of the agent timed out
abbrev pub expired_desk : Which → Desk → AgentStep × Desk
expired_desk which desk = let l = lost_step desk.agent which causes.Timeout in (l.0, record (taken which desk) { agent = l.1 })

abbrev pub disabled : Desk → Desk
disabled desk = record desk { is_enabled = false }
