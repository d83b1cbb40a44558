-- The failures of the management operation that the laws compute for a turn have their rows, where the answer that the turn brings is one to what its phase asked for.
use Rattle.std.proofs.Common.{◌≡◌, ◌∙◌, refl, sym, ap, subst, ℕ, suc, ◌+◌, ◌*◌, ◌^◌, ◌==◌, not, Bool, true, false, cond, List, [], ◌∷◌, length, Option, Some, None, Result, Ok, Err}
use Rattle.label_table.specs.Bodies.{Body}
use Rattle.login_table.specs.Table.{Table}
use Rattle.mgmt_agent.specs.Decisions.{decide, reads_eui}
use Rattle.mgmt_agent.specs.declared.decision.ManagerStep.{ManagerStep}
use Rattle.mgmt_agent.specs.declared.decision.Outcome.{Outcome}
use Rattle.mgmt_agent.specs.declared.operation.Busy.{Busy}
use Rattle.mgmt_agent.specs.declared.operation.Operation.{Operation}
use Rattle.mgmt_agent.specs.declared.operation.Phase.{Phase}
use Rattle.mgmt_agent.specs.declared.operation.Phase.TheVariants as phases
use Rattle.mgmt_agent.specs.declared.status.Status.{Status}
use Rattle.mgmt_agent.specs.Machine.{Machine, beside, cut_response, decide_step, decided_as, eui_step, high_eui_at, high_got, in_phase, low_got, orb_got, quiet, read_size, reply_in, reply_step, reply_to, respond_step, response_written, start_step, status_step, status_written}
use Rattle.orb_layout.specs.declared.ask.Ask.{Ask}
use Rattle.orb_layout.specs.declared.ask.Ask.TheVariants as asks
use Rattle.orb_layout.specs.declared.ask.FailCause.{FailCause}
use Rattle.orb_layout.specs.declared.ask.FailCause.TheVariants as causes
use Rattle.orb_layout.specs.declared.management.ManagementOrb.{ManagementOrb}
use Rattle.orb_layout.specs.ManagementOrbs.{management_orb}
use Rattle.orb_layout.specs.Replies.{Answer, Done, Expired, NoLabel, Payload, Refused, payload_of, write_failure}
use Rattle.sbp_base.specs.Quadlets.{quad}
use Rattle.sbp_journal.specs.Addresses.{Access}
use Rattle.sbp_journal.specs.declared.note.Note.{Note}
use Rattle.sbp_journal.specs.declared.note.Note.TheVariants as notes
use Rattle.sbp_laws.specs.Agents.{wire_after, wire_before}
use Rattle.sbp_laws.specs.Deaths.{FailuresHaveRows, access_by, call_answer, failure_row, is_expired, is_other_length, is_refused, lacks_label, manager_in_vain}
use Rattle.sbp_laws.specs.Management.{Call, answers, body_for, call_of, failed_in, failed_note, failure_of, failures_due, fails_unsent, manager_turn, no_call, operator_of, started, starts}
use Rattle.sbp_laws.specs.NoteKinds.{is_failure_note, of_kind}
use Rattle.sbp_laws.specs.Packets.{finds_label}
use Rattle.sbp_laws.specs.Targets.{Target, manager_step}
use Rattle.sbp_laws.specs.Turns.{Turn}
use Rattle.mgmt_agent.proofs.Whole.{either_goes_on, either_read}
use Rattle.sbp_world.proofs.Common.{none_is}

-- ---- why a reply fails an operation, by what its phase waits for
abbrev err_in : Result (List ℕ) FailCause → Option FailCause
err_in (Ok bytes) = None
err_in (Err cause) = Some cause

abbrev pub fails_by : Option ℕ → Answer → Option FailCause
fails_by None answer = write_failure answer
fails_by (Some size) answer = err_in (payload_of answer size)

module _ (m : Machine) (own : Operation) (table : Table) (keys : List (List ℕ)) where
  responds : (now : Machine) (orb : ManagementOrb) (status : Status) → (respond_step now own orb status).0.failed ≡ None
  responds now orb status = either_goes_on (length now.outgoing == 0) (status_step now own orb.fifo status) (quiet (asks.Write orb.second (length now.outgoing)), in_phase now own (phases.Response orb.fifo)) refl refl

  as_decided : (r : Outcome × Table) (orb : ManagementOrb) → (decided_as r m own orb).0.failed ≡ None
  as_decided (outcome, now) orb = responds (record m { outgoing = cut_response orb outcome now }) orb outcome.status

  decides : (orb : ManagementOrb) (eui : ℕ) → (decide_step m own orb eui table keys).0.failed ≡ None
  unfolding decide_step
  decides orb eui = as_decided (decide orb own.source eui table keys) orb

  orb_fails : (read : Result (List ℕ) FailCause) → (orb_got read m own table keys).0.failed ≡ err_in read
  orb_fails (Err cause) = refl
  orb_fails (Ok bytes) =
      let orb = management_orb bytes in
      either_read (reads_eui orb) (beside table (eui_step m own (phases.HighEui orb) high_eui_at)) (decide_step m own orb 0 table keys) refl (decides orb 0)

  high_fails : (read : Result (List ℕ) FailCause) (orb : ManagementOrb) → (high_got read m own orb).0.failed ≡ err_in read
  high_fails (Err cause) orb = refl
  high_fails (Ok bytes) orb = refl

  low_fails : (read : Result (List ℕ) FailCause) (orb : ManagementOrb) (high : ℕ) → (low_got read m own orb high table keys).0.failed ≡ err_in read
  low_fails (Err cause) orb high = refl
  low_fails (Ok bytes) orb high = decides orb (high * 2 ^ 32 + quad bytes 0)

  response_fails : (failure : Option FailCause) (fifo : ℕ) → (response_written failure m own fifo).0.failed ≡ failure
  response_fails None fifo = refl
  response_fails (Some cause) fifo = refl

  status_fails : (failure : Option FailCause) → (status_written failure m).0.failed ≡ failure
  status_fails None = refl
  status_fails (Some cause) = refl

  phase_fails : (phase : Phase) (answer : Answer) → (reply_in phase m own table keys answer).0.failed ≡ fails_by (read_size phase) answer
  phase_fails phases.Orb answer = orb_fails (payload_of answer 32)
  phase_fails (phases.HighEui orb) answer = high_fails (payload_of answer 4) orb
  phase_fails (phases.LowEui orb high) answer = low_fails (payload_of answer 4) orb high
  phase_fails (phases.Response fifo) answer = response_fails (write_failure answer) fifo
  phase_fails phases.Status answer = status_fails (write_failure answer)

-- ---- an answer to what a phase asked for: bytes where it reads, so many where they are as many as its request asked for
abbrev pub MayAnswer : Option ℕ → Answer → Option Access → Type 0
MayAnswer size NoLabel access = ⊥
MayAnswer (Some n) (Payload bytes) access = is_other_length (Some (Payload bytes)) access ≡ not (length bytes == n)
MayAnswer (Some n) Done access = ⊥
MayAnswer (Some n) (Refused rcode) access = Unit {0}
MayAnswer (Some n) Expired access = Unit {0}
MayAnswer None (Payload bytes) access = ⊥
MayAnswer None Done access = Unit {0}
MayAnswer None (Refused rcode) access = Unit {0}
MayAnswer None Expired access = Unit {0}

-- in a turn: of the operation under way, by the request that it waits for
abbrev pub IsAnswered : Target → Turn → Type 0
IsAnswered T t = (answer : Answer) → call_of T t ≡ answers answer → (own : Operation) → T.manager.operation ≡ Some own → MayAnswer (read_size own.phase) answer (access_by (wire_before t) T.manages)

module _ (T : Target) (t : Turn) where
  abbrev i : ℕ
  i = operator_of T t

  abbrev finds : Body → Bool
  finds = finds_label (wire_after t) 0 (suc i)

  abbrev access : Option Access
  access = access_by (wire_before t) T.manages

  abbrev Rows : List Note → Type 0
  Rows rest = FailuresHaveRows T t rest

  -- ---- the rows of an answer
  module _ (answer : Answer) (called : call_answer (call_of T t) ≡ Some answer) where
    same_cause : (x y : FailCause) → Some x ≡ Some y → failure_row x T t ≡ true → failure_row y T t ≡ true
    same_cause x y e h = ap (λ c. failure_row c T t) (sym (let z : x ≡ y = cc in z)) ∙ h

    refused_row : (rcode : ℕ) → answer ≡ Refused rcode → failure_row causes.Refused T t ≡ true
    refused_row rcode e = ap is_refused called ∙ ap (λ a. is_refused (Some a)) e

    expired_row : answer ≡ Expired → failure_row causes.Timeout T t ≡ true
    expired_row e = ap is_expired called ∙ ap (λ a. is_expired (Some a)) e

    payload_row : (bytes : List ℕ) (n : ℕ) → answer ≡ Payload bytes → is_other_length (Some (Payload bytes)) access ≡ not (length bytes == n) → (length bytes == n) ≡ false → failure_row causes.Grammar T t ≡ true
    payload_row bytes n e fair other = ap (λ a. is_other_length a access) called ∙ ap (λ a. is_other_length (Some a) access) e ∙ fair ∙ ap not other

    by_length : (bytes : List ℕ) (n : ℕ) (cause : FailCause) → answer ≡ Payload bytes → is_other_length (Some (Payload bytes)) access ≡ not (length bytes == n) → (b : Bool) → (length bytes == n) ≡ b → err_in (cond b (Ok bytes) (Err causes.Grammar)) ≡ Some cause → failure_row cause T t ≡ true
    by_length bytes n cause e fair true other f = none_is cause f
    by_length bytes n cause e fair false other f = same_cause causes.Grammar cause f (payload_row bytes n e fair other)

    rows_by : (size : Option ℕ) (a : Answer) → answer ≡ a → MayAnswer size a access → (cause : FailCause) → fails_by size a ≡ Some cause → failure_row cause T t ≡ true
    rows_by size NoLabel e fair cause f = absurd fair
    rows_by (Some n) (Payload bytes) e fair cause f = by_length bytes n cause e fair (length bytes == n) refl f
    rows_by (Some n) Done e fair cause f = absurd fair
    rows_by (Some n) (Refused rcode) e fair cause f = same_cause causes.Refused cause f (refused_row rcode e)
    rows_by (Some n) Expired e fair cause f = same_cause causes.Timeout cause f (expired_row e)
    rows_by None (Payload bytes) e fair cause f = absurd fair
    rows_by None Done e fair cause f = none_is cause f
    rows_by None (Refused rcode) e fair cause f = same_cause causes.Refused cause f (refused_row rcode e)
    rows_by None Expired e fair cause f = same_cause causes.Timeout cause f (expired_row e)

    operation_rows : (operation : Option Operation) → ((own : Operation) → operation ≡ Some own → MayAnswer (read_size own.phase) answer access) → (cause : FailCause) → (reply_to operation T.manager T.table T.keys answer).0.failed ≡ Some cause → failure_row cause T t ≡ true
    operation_rows None fair cause f = none_is cause f
    operation_rows (Some own) fair cause f = rows_by (read_size own.phase) answer refl (fair own refl) cause (sym (phase_fails T.manager own T.table T.keys own.phase answer) ∙ f)

    answer_rows : ((own : Operation) → T.manager.operation ≡ Some own → MayAnswer (read_size own.phase) answer access) → (cause : FailCause) → (manager_step T answer).0.failed ≡ Some cause → failure_row cause T t ≡ true
    unfolding reply_step
    answer_rows fair cause f = operation_rows T.manager.operation fair cause f

  -- ---- a request that finds no label has its row
  unsent_rows : (s : ManagerStep × Machine) → manager_turn (call_of T t) T ≡ Some s → (body : Option Body) → body_for s.0.ask s.1 ≡ body → Rows (failed_note i (failure_of None (fails_unsent finds body)))
  unsent_rows s e None f = tt
  unsent_rows s e (Some body) f = by (finds body) refl
    where
      by : (b : Bool) → finds body ≡ b → Rows (failed_note i (failure_of None (cond b None (Some causes.Label))))
      by true g = tt
      by false g = (ap (manager_in_vain T t) e ∙ ap (lacks_label finds) f ∙ ap not g, tt)

  step_rows : (s : ManagerStep × Machine) → manager_turn (call_of T t) T ≡ Some s → ((cause : FailCause) → s.0.failed ≡ Some cause → failure_row cause T t ≡ true) → Rows (failed_in i finds (Some s))
  step_rows s e h = by s.0.failed refl
    where
      by : (failed : Option FailCause) → s.0.failed ≡ failed → Rows (failed_note i (failure_of failed (fails_unsent finds (body_for s.0.ask s.1))))
      by (Some cause) f = (h cause f, tt)
      by None f = unsent_rows s e (body_for s.0.ask s.1) refl

  started_rows : (r : Result Ask Busy × Machine) → manager_turn (call_of T t) T ≡ started r → Rows (failed_in i finds (started r))
  started_rows (Err busy, machine) e = tt
  started_rows (Ok ask, machine) e = step_rows (quiet ask, machine) e (λ cause f. none_is cause f)

  pub rows_due : IsAnswered T t → Rows (failures_due T t)
  rows_due fair = by (call_of T t) refl
    where
      by : (call : Call) → call_of T t ≡ call → Rows (failed_in i finds (manager_turn call T))
      by (answers answer) e =
          let s = manager_step T answer in step_rows (s.0, s.1.0) (ap (λ c. manager_turn c T) e) (answer_rows answer (ap call_answer e) (fair answer e))
      by (starts source orb) e = started_rows (start_step T.manager source orb) (ap (λ c. manager_turn c T) e)
      by no_call e = tt

  -- and so have those that stand in the turn
  kept_rows : (rest : List Note) → Rows (of_kind is_failure_note rest) → Rows rest
  kept_rows [] h = tt
  kept_rows (notes.ManageFailed j cause ∷ rest) h = (h.0, kept_rows rest h.1)
  kept_rows (note ∷ rest) h = kept_rows rest h

  pub rows_told : of_kind is_failure_note t.rest ≡ failures_due T t → IsAnswered T t → Rows t.rest
  rows_told e fair = kept_rows t.rest (subst Rows (sym e) (rows_due fair))
