-- A whole reply takes an operation of the management agent on (NCITS 325-1998, management agent): a read that brings as many bytes as its phase waits for, or a write that is answered complete.
-- Nothing fails; and the operation goes on, of the same node and with the same management ORB, or it is over where its status block was written.
use Rattle.std.specs.Prelude.{◌≡◌, ℕ, List, length, Option, Some, None}
use Rattle.login_table.specs.Table.{Table}
use Rattle.mgmt_agent.specs.Machine.{Machine, read_size, reply_step}
use Rattle.mgmt_agent.specs.declared.decision.ManagerStep.{ManagerStep}
use Rattle.mgmt_agent.specs.declared.operation.Operation.{Operation}
use Rattle.mgmt_agent.specs.declared.operation.Phase.{Phase}
use Rattle.mgmt_agent.specs.declared.operation.Phase.TheVariants as phases
use Rattle.orb_layout.specs.Replies.{Answer, Done, Payload}

-- ---- a reply
-- it brings so many bytes
pub record Brings (size : ℕ) (answer : Answer) : Type 0 where
  pub bytes : List ℕ
  pub is : answer ≡ Payload bytes
  pub size_is : length bytes ≡ size

-- to a read of so many bytes, or to a write
abbrev pub IsWholeFor : Option ℕ → Answer → Type 0
IsWholeFor (Some size) answer = Brings size answer
IsWholeFor None answer = answer ≡ Done

abbrev pub IsWhole : Phase → Answer → Type 0
IsWhole phase answer = IsWholeFor (read_size phase) answer

-- ---- what it leaves of an operation
pub data TakesOn (op : Operation) (left : Option Operation) : Type 0 where
  goes_on : (now : Operation) → left ≡ Some now → now.source ≡ op.source → now.orb ≡ op.orb → TakesOn op left
  is_over : op.phase ≡ phases.Status → left ≡ None → TakesOn op left

pub record TakesWhole (op : Operation) (r : ManagerStep × (Machine × Table)) : Type 0 where
  pub failed : r.0.failed ≡ None
  pub operation : TakesOn op r.1.0.operation

abbrev pub WholeRepliesLaw : Type 0
WholeRepliesLaw = (m : Machine) (table : Table) (keys : List (List ℕ)) (op : Operation) (answer : Answer) → m.operation ≡ Some op → IsWhole op.phase answer → TakesWhole op (reply_step m table keys answer)
