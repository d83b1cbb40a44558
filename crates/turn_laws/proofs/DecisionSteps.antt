-- What a reply to the management operation asks to be written (NCITS 325-1998, login and query responses, and status block): at a decision the response, cut to the length that the ORB allows, to the address that it names, or, where that has no byte, the status block to its FIFO; and at the answer to a response the status block with 00.
use Rattle.std.proofs.Common.{arith, ◌≡◌, ◌∙◌, refl, sym, ap, ℕ, suc, ◌+◌, ◌*◌, ◌^◌, nat_eq, Bool, true, false, cond, List, [], ◌∷◌, length, take, Option, Some, None, Result, Ok, Err}
use Rattle.std.proofs.lemmas.Bool.Decides.{nat_tests}
use Rattle.sbp_base.specs.Quadlets.{quad}
use Rattle.login_table.specs.Sound.{IsSound}
use Rattle.login_table.specs.Table.{Table}
use Rattle.mgmt_agent.specs.Decisions.{decide, reads_eui, told}
use Rattle.mgmt_agent.specs.declared.decision.Decision.{Decision}
use Rattle.mgmt_agent.specs.declared.decision.ManagerStep.{ManagerStep}
use Rattle.mgmt_agent.specs.declared.decision.Outcome.{Outcome}
use Rattle.mgmt_agent.specs.declared.operation.Operation.{Operation}
use Rattle.mgmt_agent.specs.declared.operation.Phase.{Phase}
use Rattle.mgmt_agent.specs.declared.operation.Phase.TheVariants as phases
use Rattle.mgmt_agent.specs.declared.status.Status.{Status}
use Rattle.mgmt_agent.specs.Machine.{Machine, beside, cut_response, decide_step, decided_as, eui_step, high_eui_at, high_got, in_phase, low_got, orb_got, quiet, reply_in, reply_step, reply_to, respond_step, response_written, status_step, status_written}
use Rattle.orb_layout.specs.declared.ask.Ask.TheVariants as asks
use Rattle.mgmt_agent.specs.Statuses.{function_of, number_of}
use Rattle.orb_layout.specs.declared.ask.FailCause.{FailCause}
use Rattle.orb_layout.specs.declared.management.ManagementOrb.{ManagementOrb}
use Rattle.orb_layout.specs.ManagementOrbs.{management_orb}
use Rattle.orb_layout.specs.Replies.{Answer, Done, payload_of, write_failure}
use Rattle.sbp_laws.specs.Decided.{response_due}
use Rattle.sbp_laws.specs.Decided as decided
use Rattle.sbp_laws.specs.Management.{login_if, word_by}
use Rattle.sbp_laws.specs.SentWrites.{NodeWrite, decision_write, is_response, managed_block, served}
use Rattle.sbp_laws.specs.Targets.{Decided, Target, bytes_in, decided_by, decided_in}
use Rattle.sbp_laws.specs.Turns.{Turn}
use Rattle.sbp_world.proofs.Sessions.Decisions.{bytes_are}
use Rattle.turn_laws.proofs.DecisionResponses.{Answered, decision_answered}
use Rattle.turn_laws.proofs.ManagedWrites.{asked_write}
use Rattle.turn_laws.proofs.OperationKnown.{OperationIs}

-- the note of a decision
abbrev pub note_of : (i : ℕ) → Decision → decided.Decision
note_of i d = record {
  initiator = i;
  word = word_by (function_of d.function);
  subject = d.subject;
  status = d.status;
  login = login_if (word_by (function_of d.function)) d.status d.login;
}

module _ (t : Turn) (i node at : ℕ) (target : Target) where
  -- the write of a decision on this ORB
  abbrev pub write_of : Option Decided → Decision → List NodeWrite
  write_of None d = []
  write_of (Some on) d = served t (decision_write node on.orb (take on.orb.response_length (response_due target on.orb (note_of i d))) d.status at)

  -- a step asks for it, where the logins behind it are the target's
  abbrev pub Serves : Option Decision → Option Decided → ManagerStep × (Machine × Table) → Type 0
  Serves None on r = Unit {0}
  Serves (Some d) on r = target.table ≡ r.1.1 → IsSound r.1.1.places → asked_write t node r.0.ask r.1.0 ≡ write_of on d

  abbrev pub AsksFor : Option Decided → ManagerStep × (Machine × Table) → Type 0
  AsksFor on r = Serves r.0.decided on r

  module _ (m : Machine) (op : Operation) (table : Table) (keys : List (List ℕ)) (is : at ≡ op.orb) where
    responds : (orb : ManagementOrb) (status : Status) (xs : List ℕ)
        → (let s = respond_step (record m { outgoing = xs }) op orb status in asked_write t node s.0.ask s.1) ≡ served t (decision_write node orb xs (number_of status) op.orb)
    responds orb status [] = refl
    responds orb status (x ∷ xs) =
        let n : Machine = record m { outgoing = x ∷ xs } in
        let some : nat_eq (suc (length xs)) 0 ≡ false = grind (arith, nat_tests) in
        let step : Bool → ManagerStep × Machine = λ b. cond b (status_step n op orb.fifo status) (quiet (asks.Write orb.second (length (x ∷ xs))), in_phase n op (phases.Response orb.fifo)) in
        ap (λ b. asked_write t node (step b).0.ask (step b).1) some

    decides : (orb : ManagementOrb) (on : Decided) → on.orb ≡ orb → (r : Outcome × Table) → Answered i orb (word_by (function_of orb.function)) r → AsksFor (Some on) (decided_as r m op orb)
    decides orb on e (outcome, now) answered = λ same sound.
        responds orb outcome.status (cut_response orb outcome now)
        ∙ ap (λ xs. served t (decision_write node orb (take orb.response_length xs) (number_of outcome.status) op.orb)) (answered target same sound)
        ∙ ap (λ n. served t (decision_write node orb (take orb.response_length (response_due target orb (note_of i (told orb outcome)))) (number_of outcome.status) n)) (sym is)
        ∙ ap (λ (o : ManagementOrb). served t (decision_write node o (take o.response_length (response_due target o (note_of i (told orb outcome)))) (number_of outcome.status) at)) (sym e)

    reads : (b : Bool) (orb : ManagementOrb) (on : Decided) → on.orb ≡ orb → (r : Outcome × Table) → Answered i orb (word_by (function_of orb.function)) r
        → AsksFor (Some on) (cond {A = ManagerStep × (Machine × Table)} b (beside table (eui_step m op (phases.HighEui orb) high_eui_at)) (decided_as r m op orb))
    reads true orb on e r answered = tt
    reads false orb on e r answered = decides orb on e r answered

    at_orb : (answer : Answer) (x : Result (List ℕ) FailCause) → payload_of answer 32 ≡ x → AsksFor (decided_in phases.Orb op.source answer) (orb_got x m op table keys)
    unfolding decide_step
    at_orb answer (Err cause) e = tt
    at_orb answer (Ok bytes) e =
        let orb = management_orb bytes in
        reads (reads_eui orb) orb (record { orb = management_orb (bytes_in answer); source = op.source; eui = 0 }) (ap management_orb (bytes_are answer 32 bytes e)) (decide orb op.source 0 table keys) (decision_answered i orb op.source 0 table keys)

    at_low : (answer : Answer) (orb : ManagementOrb) (high : ℕ) (x : Result (List ℕ) FailCause) → AsksFor (decided_in (phases.LowEui orb high) op.source answer) (low_got x m op orb high table keys)
    unfolding decide_step
    at_low answer orb high (Err cause) = tt
    at_low answer orb high (Ok bytes) =
        let eui = high * 2 ^ 32 + quad bytes 0 in
        decides orb (record { orb = orb; source = op.source; eui = high * 2 ^ 32 + quad (bytes_in answer) 0 }) refl (decide orb op.source eui table keys) (decision_answered i orb op.source eui table keys)

    at_high : (orb : ManagementOrb) (x : Result (List ℕ) FailCause) → AsksFor None (beside table (high_got x m op orb))
    at_high orb (Err cause) = tt
    at_high orb (Ok bytes) = tt

    at_response : (fifo : ℕ) (x : Option FailCause) → AsksFor None (beside table (response_written x m op fifo))
    at_response fifo None = tt
    at_response fifo (Some cause) = tt

    at_status : (x : Option FailCause) → AsksFor None (beside table (status_written x m))
    at_status None = tt
    at_status (Some cause) = tt

    at_phase : (phase : Phase) (answer : Answer) → AsksFor (decided_in phase op.source answer) (reply_in phase m op table keys answer)
    at_phase phases.Orb answer = at_orb answer (payload_of answer 32) refl
    at_phase (phases.HighEui orb) answer = at_high orb (payload_of answer 4)
    at_phase (phases.LowEui orb high) answer = at_low answer orb high (payload_of answer 4)
    at_phase (phases.Response fifo) answer = at_response fifo (write_failure answer)
    at_phase phases.Status answer = at_status (write_failure answer)

  by_operation : (operation : Option Operation) (m : Machine) (table : Table) (keys : List (List ℕ)) (answer : Answer) (before : Option Decided) → OperationIs at before operation → AsksFor (decided_by operation answer) (reply_to operation m table keys answer)
  by_operation None m table keys answer before h = tt
  by_operation (Some op) m table keys answer before h = at_phase m op table keys h.0 op.phase answer

  pub asks_for : (m : Machine) (table : Table) (keys : List (List ℕ)) (answer : Answer) (before : Option Decided) → OperationIs at before m.operation → AsksFor (decided_by m.operation answer) (reply_step m table keys answer)
  unfolding reply_step
  asks_for m table keys answer before h = by_operation m.operation m table keys answer before h

-- ---- the answer to a response
module _ (t : Turn) (node at : ℕ) where
  abbrev pub block_of : Option Decided → List NodeWrite
  block_of None = []
  block_of (Some on) = served t (managed_block node on.orb 0 at)

  block_is : (fifo : ℕ) (m : Machine) (op : Operation) (table : Table) (keys : List (List ℕ)) (before : Option Decided) → OperationIs at before (Some (record op { phase = phases.Response fifo }))
      → (let r = reply_in (phases.Response fifo) m op table keys Done in asked_write t node r.0.ask r.1.0) ≡ block_of before
  block_is fifo m op table keys None h = absurd h.1
  block_is fifo m op table keys (Some on) h =
      ap (λ n. served t (managed_block node (record on.orb { fifo = n }) 0 op.orb)) (sym h.1) ∙ ap (λ n. served t (managed_block node on.orb 0 n)) (sym h.0)

  abbrev Blocks : Option Operation → List NodeWrite → Option Decided → Type 0
  Blocks operation writes before = cond (is_response operation) writes [] ≡ cond (is_response operation) (block_of before) []

  phase_blocks : (phase : Phase) (m : Machine) (op : Operation) (table : Table) (keys : List (List ℕ)) (before : Option Decided) → OperationIs at before (Some (record op { phase = phase }))
      → (let r = reply_in phase m op table keys Done in Blocks (Some (record op { phase = phase })) (asked_write t node r.0.ask r.1.0) before)
  phase_blocks phases.Orb m op table keys before h = refl
  phase_blocks (phases.HighEui orb) m op table keys before h = refl
  phase_blocks (phases.LowEui orb high) m op table keys before h = refl
  phase_blocks (phases.Response fifo) m op table keys before h = block_is fifo m op table keys before h
  phase_blocks phases.Status m op table keys before h = refl

  operation_blocks : (operation : Option Operation) (m : Machine) (table : Table) (keys : List (List ℕ)) (before : Option Decided) → OperationIs at before operation
      → (let r = reply_to operation m table keys Done in Blocks operation (asked_write t node r.0.ask r.1.0) before)
  operation_blocks None m table keys before h = refl
  operation_blocks (Some op) m table keys before h = phase_blocks op.phase m op table keys before h

  pub reply_blocks : (m : Machine) (table : Table) (keys : List (List ℕ)) (before : Option Decided) → OperationIs at before m.operation
      → (let r = reply_step m table keys Done in Blocks m.operation (asked_write t node r.0.ask r.1.0) before)
  unfolding reply_step
  reply_blocks m table keys before h = operation_blocks m.operation m table keys before h
