-- The status of each decision that a turn tells is that of the first row that holds on the ORB that the laws have decided in it, where the decisions of the turn are those that are due.
use Rattle.std.proofs.Common.{◌≡◌, ◌∙◌, refl, sym, ap, subst, ℕ, ◌+◌, ◌*◌, ◌^◌, ◌==◌, Bool, true, false, cond, List, [], ◌∷◌, length, Option, Some, None, Result, Ok, Err}
use Rattle.login_table.specs.Table.{Table}
use Rattle.mgmt_agent.specs.Decisions.{decide, reads_eui, told}
use Rattle.mgmt_agent.specs.Machine.{Machine, beside, decide_step, decided_as, eui_step, fail_step, high_eui_at, high_got, low_got, orb_got, orb_read, reply_in, reply_step, reply_to, response_written, status_written}
use Rattle.mgmt_agent.specs.Rows.{all_rows, first_row}
use Rattle.mgmt_agent.specs.Statuses.{number_of}
use Rattle.mgmt_agent.specs.declared.decision.Decision.{Decision}
use Rattle.mgmt_agent.specs.declared.decision.Effect.{Effect}
use Rattle.mgmt_agent.specs.declared.decision.Effect.TheVariants as effects
use Rattle.mgmt_agent.specs.declared.decision.ManagerStep.{ManagerStep}
use Rattle.mgmt_agent.specs.declared.decision.Outcome.{Outcome}
use Rattle.mgmt_agent.specs.declared.operation.Operation.{Operation}
use Rattle.mgmt_agent.specs.declared.operation.Phase.{Phase}
use Rattle.mgmt_agent.specs.declared.operation.Phase.TheVariants as phases
use Rattle.mgmt_agent.proofs.Rows.{decided_by_first_row}
use Rattle.orb_layout.specs.declared.ask.FailCause.{FailCause}
use Rattle.orb_layout.specs.declared.ask.FailCause.TheVariants as failures
use Rattle.orb_layout.specs.declared.management.ManagementOrb.{ManagementOrb}
use Rattle.orb_layout.specs.ManagementOrbs.{management_orb}
use Rattle.orb_layout.specs.Replies.{Answer, Done, Expired, NoLabel, Payload, Refused, payload_of, write_failure}
use Rattle.rbc_disk.specs.Disk.{Disk}
use Rattle.sbp_base.specs.Quadlets.{quad}
use Rattle.sbp_journal.specs.Run.{Moment, said}
use Rattle.sbp_journal.specs.Wire.{Terms, terms}
use Rattle.sbp_journal.specs.declared.note.Note.{Note}
use Rattle.sbp_journal.specs.declared.note.Note.TheVariants as notes
use Rattle.sbp_laws.specs.LoginLaw.{ByRows, IsFirstRow, is_decision_note}
use Rattle.sbp_laws.specs.Management.{answer_to, decided_in, decided_note, decisions_due, got_call, manager_turn, no_call, operator_for, source_node}
use Rattle.sbp_laws.specs.NoteKinds.{of_kind}
use Rattle.sbp_laws.specs.Packets.{access_at, answer_in, answered_at, id_for, packet_at, receiver_in, sender_in}
use Rattle.sbp_laws.specs.Targets as laws
use Rattle.sbp_laws.specs.Targets.{Decided, Purpose, Target, decided_by, effect_on, for_agent, for_manager, for_nobody, got_by, is_serial, keep_decided, manager_step, over, purpose_of, replied_to, target_at, target_by}
use Rattle.sbp_laws.specs.Turns.{Turn, turn}
use Rattle.sbp_world.proofs.Agents.Management.Firsts.{wire_is}
use Rattle.turn_laws.specs.Decisions.{DecidesWhereDue}
use Rattle.turn_laws.proofs.DecisionNotes.{start_none}

-- the status is that of the first row that holds on a decided ORB
abbrev pub IsFirst : Option Decided → Table → List (List ℕ) → (status : ℕ) → Type 0
IsFirst None t keys status = ⊥
IsFirst (Some x) t keys status = status ≡ first_row (all_rows x.orb x.source x.eui t keys)

-- ---- a reply: the ORB that it brings to its decision is the one that is decided
abbrev Rowed : Table → List (List ℕ) → Option Decided → ManagerStep → Type 0
Rowed t keys brought step = (d : Decision) → step.decided ≡ Some d → IsFirst brought t keys d.status

undecided : (t : Table) (keys : List (List ℕ)) (brought : Option Decided) (step : ManagerStep) → step.decided ≡ None → Rowed t keys brought step
undecided t keys brought step e d f = absurd (let no : None ≡ Some d = sym e ∙ f in cc)

rowed_if : (b : Bool) (t : Table) (keys : List (List ℕ)) (brought : Option Decided) (x y : ManagerStep × (Machine × Table)) → Rowed t keys brought x.0 → Rowed t keys brought y.0 → Rowed t keys brought (cond b x y).0
rowed_if true t keys brought x y p q = p
rowed_if false t keys brought x y p q = q

module _ (t : Table) (keys : List (List ℕ)) (m : Machine) (own : Operation) where
  decided_rows : (orb : ManagementOrb) (eui : ℕ) (r : Outcome × Table) → number_of r.0.status ≡ first_row (all_rows orb own.source eui t keys) → Rowed t keys (Some (record { orb = orb; source = own.source; eui = eui })) (decided_as r m own orb).0
  decided_rows orb eui (outcome, now) row d e =
      let is : told orb outcome ≡ d = (let z : Some (told orb outcome) ≡ Some d = e in cc) in subst (λ (x : Decision). x.status ≡ first_row (all_rows orb own.source eui t keys)) is row

  decides : (orb : ManagementOrb) (eui : ℕ) → Rowed t keys (Some (record { orb = orb; source = own.source; eui = eui })) (decide_step m own orb eui t keys).0
  unfolding decide_step
  decides orb eui = decided_rows orb eui (decide orb own.source eui t keys) (decided_by_first_row orb own.source eui t keys)

  orb_rows : (bytes : List ℕ) → Rowed t keys (Some (record { orb = management_orb bytes; source = own.source; eui = 0 })) (orb_read m own (management_orb bytes) t keys).0
  orb_rows bytes =
      let orb = management_orb bytes in
      let brought = Some (record { orb = orb; source = own.source; eui = 0 }) in
      let asks = eui_step m own (phases.HighEui orb) high_eui_at in rowed_if (reads_eui orb) t keys brought (beside t asks) (decide_step m own orb 0 t keys) (undecided t keys brought asks.0 refl) (decides orb 0)

  failed_rows : (brought : Option Decided) (cause : FailCause) → Rowed t keys brought (fail_step m cause).0
  failed_rows brought cause = undecided t keys brought (fail_step m cause).0 refl

  -- the ORB was read, and the low half of the EUI-64
  orb_payload : (b : Bool) (bytes : List ℕ) → Rowed t keys (Some (record { orb = management_orb bytes; source = own.source; eui = 0 })) (orb_got (cond b (Ok bytes) (Err failures.Grammar)) m own t keys).0
  orb_payload true bytes = orb_rows bytes
  orb_payload false bytes = failed_rows (Some (record { orb = management_orb bytes; source = own.source; eui = 0 })) failures.Grammar

  low_payload : (b : Bool) (bytes : List ℕ) (orb : ManagementOrb) (high : ℕ) → Rowed t keys (Some (record { orb = orb; source = own.source; eui = high * 2 ^ 32 + quad bytes 0 })) (low_got (cond b (Ok bytes) (Err failures.Grammar)) m own orb high t keys).0
  low_payload true bytes orb high = decides orb (high * 2 ^ 32 + quad bytes 0)
  low_payload false bytes orb high = failed_rows (Some (record { orb = orb; source = own.source; eui = high * 2 ^ 32 + quad bytes 0 })) failures.Grammar

  abbrev Brought : Phase → Answer → Option Decided
  Brought phase answer = laws.decided_in phase own.source answer

  orb_phase : (answer : Answer) → Rowed t keys (Brought phases.Orb answer) (orb_got (payload_of answer 32) m own t keys).0
  orb_phase (Payload bytes) = orb_payload (length bytes == 32) bytes
  orb_phase Done = failed_rows (Brought phases.Orb Done) failures.Grammar
  orb_phase (Refused rcode) = failed_rows (Brought phases.Orb (Refused rcode)) failures.Refused
  orb_phase Expired = failed_rows (Brought phases.Orb Expired) failures.Timeout
  orb_phase NoLabel = failed_rows (Brought phases.Orb NoLabel) failures.Label

  low_phase : (orb : ManagementOrb) (high : ℕ) (answer : Answer) → Rowed t keys (Brought (phases.LowEui orb high) answer) (low_got (payload_of answer 4) m own orb high t keys).0
  low_phase orb high (Payload bytes) = low_payload (length bytes == 4) bytes orb high
  low_phase orb high Done = failed_rows (Brought (phases.LowEui orb high) Done) failures.Grammar
  low_phase orb high (Refused rcode) = failed_rows (Brought (phases.LowEui orb high) (Refused rcode)) failures.Refused
  low_phase orb high Expired = failed_rows (Brought (phases.LowEui orb high) Expired) failures.Timeout
  low_phase orb high NoLabel = failed_rows (Brought (phases.LowEui orb high) NoLabel) failures.Label

  high_phase : (brought : Option Decided) (orb : ManagementOrb) (bytes : Result (List ℕ) FailCause) → Rowed t keys brought (high_got bytes m own orb).0
  high_phase brought orb (Ok bytes) = undecided t keys brought (high_got (Ok bytes) m own orb).0 refl
  high_phase brought orb (Err cause) = failed_rows brought cause

  response_phase : (brought : Option Decided) (fifo : ℕ) (failure : Option FailCause) → Rowed t keys brought (response_written failure m own fifo).0
  response_phase brought fifo None = undecided t keys brought (response_written None m own fifo).0 refl
  response_phase brought fifo (Some cause) = failed_rows brought cause

  status_phase : (brought : Option Decided) (failure : Option FailCause) → Rowed t keys brought (status_written failure m).0
  status_phase brought None = undecided t keys brought (status_written None m).0 refl
  status_phase brought (Some cause) = failed_rows brought cause

  phase_rows : (phase : Phase) (answer : Answer) → Rowed t keys (Brought phase answer) (reply_in phase m own t keys answer).0
  phase_rows phases.Orb answer = orb_phase answer
  phase_rows (phases.HighEui orb) answer = high_phase (Brought (phases.HighEui orb) answer) orb (payload_of answer 4)
  phase_rows (phases.LowEui orb high) answer = low_phase orb high answer
  phase_rows (phases.Response fifo) answer = response_phase (Brought (phases.Response fifo) answer) fifo (write_failure answer)
  phase_rows phases.Status answer = status_phase (Brought phases.Status answer) (write_failure answer)

operation_rows : (operation : Option Operation) (t : Table) (keys : List (List ℕ)) (m : Machine) (answer : Answer) → Rowed t keys (decided_by operation answer) (reply_to operation m t keys answer).0
operation_rows None t keys m answer = undecided t keys None (reply_to None m t keys answer).0 refl
operation_rows (Some own) t keys m answer = phase_rows t keys m own own.phase answer

reply_rows : (m : Machine) (t : Table) (keys : List (List ℕ)) (answer : Answer) → Rowed t keys (decided_by m.operation answer) (reply_step m t keys answer).0
unfolding reply_step
reply_rows m t keys answer = operation_rows m.operation t keys m answer

-- ---- in the words of the laws
module _ (D : Option Decided) (target : Target) where
  abbrev RowsBy : List Note → Type 0
  RowsBy [] = Unit {0}
  RowsBy (notes.Managed i function subject status login ∷ rest) = IsFirst D target.table target.keys status × RowsBy rest
  RowsBy (note ∷ rest) = RowsBy rest

effect_keeps : (effect : Effect) (target : Target) → (effect_on effect target).decided ≡ target.decided
effect_keeps effects.Nothing target = refl
effect_keeps (effects.Entered place replaced) target = refl
effect_keeps (effects.Back place) target = refl
effect_keeps (effects.Left place) target = refl
effect_keeps (effects.Abort place orb) target = refl
effect_keeps (effects.AbortSet place) target = refl
effect_keeps (effects.UnitReset unit) target = refl
effect_keeps effects.TargetReset target = refl

module _ (wire : Terms) (target : Target) where
  -- a reply to the operation
  answered_rows : (i : ℕ) (answer : Answer) (decided : Option Decision) → (manager_step target answer).0.decided ≡ decided → (D : Option Decided) → D ≡ keep_decided decided (decided_by target.manager.operation answer) target.decided → RowsBy D target (decided_note i decided)
  answered_rows i answer None e D f = tt
  answered_rows i answer (Some d) e D f =
      (subst (λ x. IsFirst x target.table target.keys d.status) (sym f) (reply_rows target.manager target.table target.keys answer d e), tt)

  -- the target as the operation has gone on, before the effect of its decision
  abbrev GoneOn : Answer → Target
  GoneOn answer =
      let r = manager_step target answer in
      record target { manager = r.1.0; manages = None; manager_asks = r.0.ask; decided = keep_decided r.0.decided (decided_by target.manager.operation answer) target.decided }

  purpose_rows : (i : ℕ) (answer : Answer) (for : Purpose) → RowsBy (replied_to for answer target).decided target (decided_in i (manager_turn (answer_to for answer) target))
  purpose_rows i answer for_manager =
      let r = manager_step target answer in answered_rows i answer r.0.decided refl (effect_on r.0.effect (GoneOn answer)).decided (effect_keeps r.0.effect (GoneOn answer))
  purpose_rows i answer (for_agent place which) = tt
  purpose_rows i answer for_nobody = tt

  own_rows : (serial : ℕ) (own : Option ℕ) → RowsBy (got_by own wire serial target).decided target (decided_in (operator_for (got_call own target wire serial) wire target) (manager_turn (got_call own target wire serial) target))
  own_rows serial None =
      subst (RowsBy (got_by None wire serial target).decided target) (sym (start_none wire target (access_at wire serial) (id_for wire 0 (source_node (sender_in (wire.sent serial)))))) tt
  own_rows serial (Some own) =
      let answer = answer_in (packet_at wire serial) in purpose_rows (operator_for (answer_to (purpose_of target own) answer) wire target) answer (purpose_of target own)

  got_rows : (serial : ℕ) (b : Bool) → RowsBy (cond b (got_by (answered_at wire serial) wire serial target) target).decided target (let call = cond b (got_call (answered_at wire serial) target wire serial) no_call in decided_in (operator_for call wire target) (manager_turn call target))
  got_rows serial true = own_rows serial (answered_at wire serial)
  got_rows serial false = tt

module _ (start : List Disk) (t : Turn) where
  abbrev T : Target
  T = over (target_at start t.past)

  abbrev D : Option Decided
  D = (target_at start (t.start ∷ t.past)).decided

  first_as : (brought : Option Decided) → D ≡ brought → (status : ℕ) → IsFirst brought T.table T.keys status → IsFirstRow D T status
  first_as None e status f = absurd f
  first_as (Some x) e status f = subst (λ y. IsFirstRow y T status) (sym e) f

  rows_as : (rest : List Note) → RowsBy D T (of_kind is_decision_note rest) → ByRows start t rest
  rows_as [] r = tt
  rows_as (notes.Managed i function subject status login ∷ rest) r = (first_as D refl status r.0, rows_as rest r.1)
  rows_as (note ∷ rest) r = rows_as rest r

  -- where none is told, and where those are told that are due
  pub none_by_rows : of_kind is_decision_note t.rest ≡ [] → ByRows start t t.rest
  none_by_rows e = rows_as t.rest (subst (RowsBy D T) (sym e) tt)

pub got_by_rows : (start : List Disk) (past : List Moment) (serial : ℕ) (rest : List Note) → DecidesWhereDue start (turn past (said (notes.Got serial)) rest) → ByRows start (turn past (said (notes.Got serial)) rest) rest
got_by_rows start past serial rest e =
    let t = turn past (said (notes.Got serial)) rest in
    let T = over (target_at start past) in
    let brought = (target_at start (said (notes.Got serial) ∷ past)).decided in
    let is : brought ≡ (target_by (notes.Got serial) past (terms past) (target_at start past)).decided = ap (λ wire. (target_by (notes.Got serial) past wire (target_at start past)).decided) (wire_is start past) in
    rows_as start t rest
    (subst (RowsBy brought T) (sym e)
    (subst (λ x. RowsBy x T (decisions_due T t)) (sym is) (got_rows (terms past) T serial (is_serial (receiver_in ((terms past).sent serial)) 0))))
