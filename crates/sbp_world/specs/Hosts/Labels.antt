-- Which label a request of an initiator finds (IEEE 1394-1995, transaction layer): in every run its own transaction layer finds for a request
-- to its target the label that the run says, and none exactly where the run says so. So a read of the target's ROM and a read of AGENT_STATE
-- are refused with the least number whose row holds of the run terms.
use Rattle.std.specs.Prelude.{◌≡◌, ◌<◌, ℕ, suc, is_some, Bool, true, false, Option, Some, None}
use Rattle.bus_transactions.specs.Fitting.{FitsRequest}
use Rattle.label_table.specs.declared.judgement.Asked.{Asked}
use Rattle.label_table.specs.Bodies.{Body}
use Rattle.label_table.specs.Layer.{asking_step}
use Rattle.sbp_journal.specs.Outgoings.{OutboxState}
use Rattle.sbp_journal.specs.Wire.{terms}
use Rattle.sbp_journal.specs.declared.event.Action.{Action}
use Rattle.sbp_journal.specs.declared.event.Action.TheVariants as actions
use Rattle.sbp_initiator.specs.declared.purpose.Purpose.{Purpose}
use Rattle.sbp_initiator.specs.Acting.{act_step}
use Rattle.sbp_laws.specs.Actions.{refusal_at}
use Rattle.sbp_laws.specs.Packets.{finds_label, label_for, request_bytes}
use Rattle.sbp_world.specs.Histories.{history_of}
use Rattle.sbp_world.specs.Runs.{Run}
use Rattle.sbp_world.specs.Hosts.Refusing.{initiator_of}
use Rattle.sbp_world.specs.Hosts.Runs.{IsRun}

-- the actions that send a read
abbrev pub sends_read : Action → Bool
sends_read actions.Rom = true
sends_read actions.State = true
sends_read _ = false

-- the label that was found
abbrev pub label_in : Option Asked → Option ℕ
label_in None = None
label_in (Some asked) = Some asked.label.number

-- What is asked of a request is that its fields have their widths.
pub record RunLabelLaw : Type 0 where
  pub label : (line : ℕ) (run : Run) → IsRun run → (i : ℕ) → i < run.initiators → (body : Body) (purpose : Purpose) → FitsRequest body → (let s = initiator_of run i in let t = terms (history_of line run) in label_in (asking_step s.layer s.target body purpose).0 ≡ label_for t (suc i) 0 (request_bytes t (suc i) 0 body))
  pub finds : (line : ℕ) (run : Run) → IsRun run → (i : ℕ) → i < run.initiators → (body : Body) (purpose : Purpose) → FitsRequest body → (let s = initiator_of run i in is_some (asking_step s.layer s.target body purpose).0 ≡ finds_label (terms (history_of line run)) (suc i) 0 body)
  pub reads : (line : ℕ) (run : Run) → IsRun run → (i : ℕ) → i < run.initiators → (action : Action) (o : OutboxState) → sends_read action ≡ true → refusal_at (history_of line run) i action ≡ (act_step action o (initiator_of run i)).0
