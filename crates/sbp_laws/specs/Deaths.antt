-- The rows of `dead` (NCITS 325-1998, agents): a main transaction timed out, finds no label, was answered by another rcode than 0, or brought
-- a payload of another length; or an ORB or a page table is illegal. An ORB ends as failed or illegal directly behind a `dead`, as illegal with
-- the code of what is illegal. The rows of `mgmtfail` are those of the operation's request.
use Rattle.std.specs.Prelude.{◌≡◌, ℕ, suc, ◌+◌, ◌^◌, ◌==◌, ◌&&◌, ◌||◌, not, nat_lt, is_some, length, Bool, true, false, if◌then◌else◌, List, [], ◌∷◌, Option, Some, None}
use Rattle.std.specs.List.{filter}
use Rattle.orb_layout.specs.declared.status.StatusKind.TheVariants as kinds
use Rattle.orb_layout.specs.declared.ask.FailCause.{FailCause}
use Rattle.orb_layout.specs.declared.ask.FailCause.TheVariants as causes
use Rattle.orb_layout.specs.Replies.{Answer, Payload, Done, Refused, Expired}
use Rattle.orb_layout.specs.declared.command.CommandOrb.{CommandOrb}
use Rattle.orb_layout.specs.CommandOrbs.{command_orb}
use Rattle.page_table.specs.declared.fault.PageFault.{PageFault}
use Rattle.page_table.specs.Elements.{elements_of, first_fault}
use Rattle.command_agent.specs.Machine as agent
use Rattle.command_agent.specs.declared.phase.Phase.{Phase}
use Rattle.command_agent.specs.declared.phase.Phase.TheVariants as phases
use Rattle.command_agent.specs.declared.phase.ReadAhead.{ReadAhead}
use Rattle.command_agent.specs.declared.phase.ReadAhead.TheVariants as aheads
use Rattle.mgmt_agent.specs.Machine as manager
use Rattle.mgmt_agent.specs.declared.decision.ManagerStep.{ManagerStep}
use Rattle.sbp_journal.specs.Addresses.{Access}
use Rattle.sbp_laws.specs.Management.{Call, answers, call_of, manager_turn, operator_of, body_for}
use Rattle.label_table.specs.Bodies.{Body, block_write}
use Rattle.command_agent.specs.declared.step.Which.{Which}
use Rattle.command_agent.specs.declared.step.Which.TheVariants.{Main, Ahead}
use Rattle.rbc_disk.specs.Disk.{Disk}
use Rattle.sbp_journal.specs.declared.note.Note.{Note}
use Rattle.sbp_journal.specs.declared.note.Note.TheVariants as notes
use Rattle.sbp_laws.specs.Turns.{Turn, Where}
use Rattle.sbp_laws.specs.Targets.{Target, Reply, agent_at, login_at, initiator_at}
use Rattle.sbp_journal.specs.Wire.{Terms}
use Rattle.sbp_laws.specs.Packets.{access_at, finds_label}
use Rattle.sbp_laws.specs.Agents.{is_untold_chunk, lacks_label_told, wire_before, wire_after, agent_notes_for, is_dead, Event, replies, writes, AgentTurn, agent_turn, agent_event, body_of, finds_first, fifo_in, target_before}

-- ---- the rows of `dead`
-- a reply to the main transaction of an agent
abbrev pub main_answer : Event → Option Answer
main_answer (replies reply) = by_which reply.which reply.answer
  where
    by_which : Which → Answer → Option Answer
    by_which Main answer = Some answer
    by_which Ahead answer = None
main_answer event = None

-- the request that an agent has first in a turn finds no label to its initiator
abbrev pub lacks_label : (Body → Bool) → Option Body → Bool
lacks_label finds None = false
lacks_label finds (Some body) = not (finds body)

abbrev pub asks_in_vain : Target → Turn → Option AgentTurn → Bool
asks_in_vain target t None = false
asks_in_vain target t (Some a) =
    lacks_label (finds_first target t a) (body_of a.step.ask a.machine a.step.ended (fifo_in (login_at target a.place)))

abbrev pub is_expired : Option Answer → Bool
is_expired (Some Expired) = true
is_expired answer = false

abbrev pub is_refused : Option Answer → Bool
is_refused (Some (Refused rcode)) = true
is_refused answer = false

-- a payload of another length than the request of that reply asked for
abbrev pub is_other_length : Option Answer → Option Access → Bool
is_other_length (Some (Payload bytes)) (Some access) = not (length bytes == access.count)
is_other_length answer access = false

abbrev pub access_by : Terms → Option ℕ → Option Access
access_by wire None = None
access_by wire (Some own) = access_at wire own

-- ---- illegal ORBs and page tables
-- the code of an ORB that may not run, by its fields: its format, its speed, its max_payload, the page size and the number of elements of its
-- page table, and the end of its buffer where it has none (NCITS 325-1998, command block ORB)
abbrev pub illegal_meaning : CommandOrb → Option ℕ
illegal_meaning orb =
    if not (orb.format == 0) then (if orb.format == 3 then None else Some 0x01)
    else if nat_lt 2 orb.speed then Some 0x02
    else if nat_lt (7 + orb.speed) orb.max_payload then Some 0xff
    else if orb.has_table && not (orb.page_size == 0) then Some 0x03
    else if orb.has_table && nat_lt 64 orb.data_size then Some 0xff
    else if not orb.has_table && nat_lt (2 ^ 48) (orb.descriptor + orb.data_size) then Some 0xff
    else None

-- The bytes that a turn checks: those of an ORB or of a page table that come in it, whole, or of an ORB that was read ahead, where the status
-- write before it is answered.
abbrev pub orb_meaning : List ℕ → Option ℕ
orb_meaning bytes = if length bytes == 32 then illegal_meaning (command_orb bytes) else None

abbrev pub table_meaning : Option PageFault → Option ℕ
table_meaning None = None
table_meaning (Some fault) = Some 0xff

abbrev pub ahead_meaning : ReadAhead → Option ℕ
ahead_meaning (aheads.Kept orb) = illegal_meaning orb
ahead_meaning ahead = None

abbrev pub meaning_at : agent.Machine → Phase → Answer → Option ℕ
meaning_at machine phases.Fetching (Payload bytes) = orb_meaning bytes
meaning_at machine phases.ReadingTable (Payload bytes) = table_meaning (first_fault 0 (elements_of bytes))
meaning_at machine phases.WritingStatus Done = ahead_meaning machine.ahead
meaning_at machine phase answer = None

abbrev pub meaning_of : Target → Reply → Which → Option ℕ
meaning_of target reply Main = meaning_at (agent_at target reply.place).machine (agent_at target reply.place).machine.phase reply.answer
meaning_of target reply Ahead = None

abbrev pub meaning_by : Target → Event → Option ℕ
meaning_by target (replies reply) = meaning_of target reply reply.which
meaning_by target event = None

-- the code of what a turn finds illegal
abbrev pub illegal_in : List Disk → Turn → Option ℕ
illegal_in disks t = meaning_by (target_before disks t) (agent_event disks t)

abbrev pub is_main_short : Target → Terms → Event → Bool
is_main_short target wire (replies reply) = is_other_length (main_answer (replies reply)) (access_by wire (agent_at target reply.place).main)
is_main_short target wire event = false

-- `timeout`: a main transaction timed out; `label`: one finds no label; `refused`: one was answered by another rcode than 0; `grammar`:
-- the payload has another length, or the ORB or the page table that comes to be checked is illegal
abbrev pub death_row : FailCause → List Disk → Turn → Bool
death_row causes.Timeout disks t = is_expired (main_answer (agent_event disks t))
death_row causes.Label disks t = asks_in_vain (target_before disks t) t (agent_turn (agent_event disks t) (target_before disks t) (wire_before t) t.rest)
death_row causes.Refused disks t = is_refused (main_answer (agent_event disks t))
death_row causes.Grammar disks t = is_main_short (target_before disks t) (wire_before t) (agent_event disks t) || is_some (illegal_in disks t)

abbrev pub DeathsHaveRows : List Disk → Turn → List Note → Type 0
DeathsHaveRows disks t [] = Unit {0}
DeathsHaveRows disks t (notes.Dead i list cause ∷ rest) = (death_row cause disks t ≡ true) × DeathsHaveRows disks t rest
DeathsHaveRows disks t (note ∷ rest) = DeathsHaveRows disks t rest

-- an end as illegal has the code of what the turn found illegal
abbrev pub IllegalsHaveCodes : Option ℕ → List Note → Type 0
IllegalsHaveCodes found [] = Unit {0}
IllegalsHaveCodes found (notes.Ended i list number (kinds.Illegal meaning) ∷ rest) = (found ≡ Some meaning) × IllegalsHaveCodes found rest
IllegalsHaveCodes found (note ∷ rest) = IllegalsHaveCodes found rest

-- ---- the rows of `mgmtfail`
abbrev pub call_answer : Call → Option Answer
call_answer (answers answer) = Some answer
call_answer call = None

-- the request that the operation has in a turn finds no label to its initiator
abbrev pub manager_in_vain : Target → Turn → Option (ManagerStep × manager.Machine) → Bool
manager_in_vain target t None = false
manager_in_vain target t (Some s) = lacks_label (finds_label (wire_after t) 0 (suc (operator_of target t))) (body_for s.0.ask s.1)

-- `timeout`: its request timed out; `label`: it finds no label; `refused`: it was answered by another rcode than 0; `grammar`: the payload has
-- another length than it asked for
abbrev pub failure_row : FailCause → Target → Turn → Bool
failure_row causes.Timeout target t = is_expired (call_answer (call_of target t))
failure_row causes.Label target t = manager_in_vain target t (manager_turn (call_of target t) target)
failure_row causes.Refused target t = is_refused (call_answer (call_of target t))
failure_row causes.Grammar target t = is_other_length (call_answer (call_of target t)) (access_by (wire_before t) target.manages)

abbrev pub FailuresHaveRows : Target → Turn → List Note → Type 0
FailuresHaveRows target t [] = Unit {0}
FailuresHaveRows target t (notes.ManageFailed i cause ∷ rest) = (failure_row cause target t ≡ true) × FailuresHaveRows target t rest
FailuresHaveRows target t (note ∷ rest) = FailuresHaveRows target t rest

-- Of a chunk of an answer that its medium did not tell there are bytes, so many, with which its write finds no label, where the turn has a death
-- for want of one.
pub record IsUnserved (wire : Terms) (node offset count : ℕ) : Type 0 where
  pub payload : List ℕ
  pub size : length payload ≡ count
  pub finds : finds_label wire 0 node (block_write offset payload) ≡ false

abbrev pub UnservedBody : Terms → (node : ℕ) → Option Body → Type 0
UnservedBody wire node (Some (block_write offset payload)) = IsUnserved wire node offset (length payload)
UnservedBody wire node body = Unit {0}

abbrev pub DiesUnserved : Target → Turn → Option AgentTurn → Type 0
DiesUnserved target t None = Unit {0}
DiesUnserved target t (Some a) =
    Where (is_untold_chunk a && lacks_label_told t)
    (UnservedBody (wire_after t) (suc (initiator_at target (wire_before t) a.place)) (body_of a.step.ask a.machine a.step.ended 0))

-- ---- a list has at most one `dead`: none where its agent is DEAD, and one in a turn
abbrev pub is_death_note : Note → Bool
is_death_note (notes.Dead i list cause) = true
is_death_note note = false

abbrev pub was_dead : Target → Event → Bool
was_dead target (replies reply) = is_dead (agent_at target reply.place).machine
was_dead target (writes name place access) = is_dead (agent_at target place).machine
was_dead target event = false

abbrev pub deaths_in : Turn → ℕ
deaths_in t = length (filter is_death_note t.rest)

abbrev pub dies_again : List Disk → Turn → Bool
dies_again disks t = nat_lt 1 (deaths_in t) || (nat_lt 0 (deaths_in t) && was_dead (target_before disks t) (agent_event disks t))

-- an end as failed or illegal stands directly behind a `dead` of its initiator
abbrev pub FollowsDeath : Option Note → (i : ℕ) → Type 0
FollowsDeath (Some (notes.Dead j list cause)) i = j ≡ i
FollowsDeath before i = ⊥

abbrev pub FaultsFollowDeaths : Option Note → List Note → Type 0
FaultsFollowDeaths before [] = Unit {0}
FaultsFollowDeaths before (notes.Ended i list number kinds.Failed ∷ rest) = FollowsDeath before i × FaultsFollowDeaths None rest
FaultsFollowDeaths before (notes.Ended i list number (kinds.Illegal meaning) ∷ rest) = FollowsDeath before i × FaultsFollowDeaths None rest
FaultsFollowDeaths before (note ∷ rest) = FaultsFollowDeaths (Some note) rest

-- the deaths and ends that an agent's turn brings
abbrev pub ends_by : List Disk → Target → Turn → Option AgentTurn → List Note
ends_by disks target t None = []
ends_by disks target t (Some a) = agent_notes_for disks target t a

abbrev pub ends_due : List Disk → Turn → List Note
ends_due disks t = ends_by disks (target_before disks t) t (agent_turn (agent_event disks t) (target_before disks t) (wire_before t) t.rest)
