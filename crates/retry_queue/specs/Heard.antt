-- What a queue keeps is what the run terms of its world's history say, where each operation that a line asks for sends the initiator's
-- request, and no line reads AGENT_STATE.
use Rattle.std.specs.Prelude.{◌≡◌, ℕ, false, not, is_none, List, Option, Some, None}
use Rattle.sbp_journal.specs.Run.{said, asked}
use Rattle.sbp_journal.specs.Transactions.{Kind, request, part_of}
use Rattle.sbp_journal.specs.Wire.{Terms}
use Rattle.sbp_journal.specs.declared.event.Action.TheVariants as actions
use Rattle.sbp_journal.specs.declared.event.Event.TheVariants as events
use Rattle.sbp_journal.specs.declared.note.Note.TheVariants as notes
use Rattle.sbp_journal.specs.declared.operation.Operation.{Operation}
use Rattle.sbp_laws.specs.Hosts.{host_at, known_host}
use Rattle.sbp_laws.specs.Lists.{present_list}
use Rattle.sbp_laws.specs.Turns.{event_of}
use Rattle.retry_queue.specs.Journals.{BroughtAt}
use Rattle.retry_queue.specs.Kept.{asked_in, kept}
use Rattle.retry_queue.specs.Known.{known}
use Rattle.retry_queue.specs.Pump.{next}
use Rattle.retry_queue.specs.Steps.{Step, of_world, EachStep, world}

-- a request that nobody injected
pub record IsRequest (wire : Terms) (serial : ℕ) (bytes : List ℕ) : Type 0 where
  pub label : ℕ
  pub kind : Kind
  pub part : part_of bytes ≡ request label kind
  pub own : wire.injected serial ≡ false

abbrev pub WhereAsked : Option Operation → Type 0 → Type 0
WhereAsked None holds = Unit {0}
WhereAsked (Some operation) holds = holds

abbrev pub HeardAt : Step → List Step → Type 0
HeardAt (of_world (asked line (events.Act i actions.State))) past = ⊥
HeardAt (of_world (said (notes.Sent serial generation from to bytes))) past = from ≡ 1 → WhereAsked (asked_in (event_of (world past))) (IsRequest (known_host (world past) 0).wire serial bytes)
HeardAt step past = Unit {0}

-- the session, whether an operation is under way, whether the present list is marked dead, and the submissions
pub record Keeps (past : List Step) : Type 0 where
  pub session : (kept past).session ≡ (host_at (world past) 0).session
  pub busy : (kept past).is_busy ≡ not (is_none (host_at (world past) 0).operation)
  pub dead : (kept past).is_dead ≡ (host_at (world past) 0).marked_dead
  pub done : (kept past).done ≡ (known past).done
  pub next : (kept past).next ≡ next past
  pub first : (n : ℕ) → present_list (world past) 0 ≡ Some n → (kept past).first ≡ (known past).first n

abbrev pub KeptLaw : Type 0
KeptLaw = (past : List Step) → EachStep BroughtAt past → EachStep HeardAt past → Keeps past
