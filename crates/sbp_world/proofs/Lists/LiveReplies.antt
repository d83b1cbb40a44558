-- What a reply to the request of the management's operation leaves: it reads on, writes on, or is decided; and of the logins: they are as they were, or are
-- those of the decision.
use Rattle.sbp_world.proofs.Words.Std.{◌≡◌, ◌∙◌, refl, sym, ap, ℕ, ◌+◌, ◌*◌, ◌^◌, ◌==◌, Bool, true, false, cond, List, length, Option, Some, None, Result, Ok, Err, quad}
use Rattle.sbp_world.proofs.Words.Target.{Table, ManagerStep, Operation, decide, reads_eui, beside, cut_response, decide_step, decided_as, eui_step, high_eui_at, high_got, in_phase, low_got, orb_got, reply_in, reply_to, response_written, status_block, status_step, status_written}
use Rattle.sbp_world.proofs.Words.Initiator.{FailCause, ManagementOrb, management_orb, Answer, Payload, payload_of, write_failure}
use Rattle.sbp_world.proofs.Words.Laws.{Decided, decided_by, decided_in}
use Rattle.sbp_world.proofs.Words.World.{is_written}
use Rattle.mgmt_agent.specs.declared.decision.Outcome.{Outcome}
use Rattle.mgmt_agent.specs.declared.operation.Phase.{Phase}
use Rattle.mgmt_agent.specs.declared.operation.Phase.TheVariants as phases
use Rattle.mgmt_agent.specs.declared.status.Status.TheVariants as statuses
use Rattle.mgmt_agent.specs.Machine.{Machine, reply_step}
use Rattle.sbp_world.proofs.Sessions.Decisions.{bytes_are, none_goes}
use Rattle.sbp_world.proofs.Lists.OpenedReplied.{pays_as as payload_is}

-- an operation is decided: nothing was written of it before, and the logins are those of the decision
pub record IsDecidedOn (m : Machine) (t : Table) (keys : List (List ℕ)) (answer : Answer) (left : Table) : Type 0 where
  pub was : Operation
  pub is : m.operation ≡ Some was
  pub unwritten : is_written was.phase ≡ false
  pub on : Decided
  pub brought : decided_by m.operation answer ≡ Some on
  pub source_is : on.source ≡ was.source
  pub left_is : left ≡ (decide on.orb on.source on.eui t keys).1
  pub bytes : List ℕ
  pub pays : answer ≡ Payload bytes

-- what is written first behind a decision: the status block, where there is no response, or the response
pub record WritesFirst (now : Machine) (op : Operation) (orb : ManagementOrb) (x : Outcome × Table) : Type 0 where
  pub status : op.phase ≡ phases.Status → (now.outgoing ≡ status_block op.orb x.0.status) × ((length (cut_response orb x.0 x.1) == 0) ≡ true)
  pub response : (fifo : ℕ) → op.phase ≡ phases.Response fifo → (now.outgoing ≡ cut_response orb x.0 x.1) × ((length (cut_response orb x.0 x.1) == 0) ≡ false)

-- where an operation is under way behind a reply
pub data Replied (m : Machine) (t : Table) (keys : List (List ℕ)) (answer : Answer) (now : Machine) (left : Table) (op : Operation) : Type 0 where
  reads : (was : Operation) → m.operation ≡ Some was → was.source ≡ op.source → is_written was.phase ≡ false → is_written op.phase ≡ false → left ≡ t → Replied m t keys answer now left op
  responds : (was : Operation) → m.operation ≡ Some was → was.source ≡ op.source → was.orb ≡ op.orb → (fifo : ℕ) → was.phase ≡ phases.Response fifo → write_failure answer ≡ None → op.phase ≡ phases.Status → now.outgoing ≡ status_block op.orb statuses.NoFault → left ≡ t → Replied m t keys answer now left op
  decides : (d : IsDecidedOn m t keys answer left) → d.was.source ≡ op.source → d.was.orb ≡ op.orb → is_written op.phase ≡ true → WritesFirst now op d.on.orb (decide d.on.orb d.on.source d.on.eui t keys) → Replied m t keys answer now left op

-- and what it leaves of the logins
pub data Logged (m : Machine) (t : Table) (keys : List (List ℕ)) (answer : Answer) (left : Table) : Type 0 where
  stands : left ≡ t → Logged m t keys answer left
  granted : IsDecidedOn m t keys answer left → Logged m t keys answer left

module _ (m : Machine) (t : Table) (keys : List (List ℕ)) (answer : Answer) where
  -- the machine and the logins
  pub record Left (x : Machine × Table) : Type 0 where
    pub goes : (op : Operation) → x.0.operation ≡ Some op → Replied m t keys answer x.0 x.1 op
    pub logged : Logged m t keys answer x.1

  abbrev Case : ManagerStep × (Machine × Table) → Type 0
  Case r = Left r.1

  pick_case : (b : Bool) (x y : ManagerStep × (Machine × Table)) → Case x → Case y → Case (cond b x y)
  pick_case true x y h k = h
  pick_case false x y h k = k

  module _ (own : Operation) (is : m.operation ≡ Some own) where
    over : {outgoing : List ℕ} → Left (record { operation = None; outgoing = outgoing }, t)
    over = record { goes = λ op e. none_goes op e; logged = stands refl }

    -- a phase in which nothing is written
    reads_in : (phase : Phase) → is_written own.phase ≡ false → is_written phase ≡ false → Left (in_phase m own phase, t)
    reads_in phase before now = record { goes = λ op e. by op e; logged = stands refl }
      where
        by : (op : Operation) → Some (record own { phase = phase }) ≡ Some op → Replied m t keys answer (in_phase m own phase) t op
        by op e =
            let same : record own { phase = phase } ≡ op = cc in
            reads own is (ap (λ (x : Operation). x.source) same) before (sym (ap (λ (x : Operation). is_written x.phase) same) ∙ now) refl

    -- a decision
    module _ (on : Decided) (brought : decided_by m.operation answer ≡ Some on) (source : on.source ≡ own.source) (unwritten : is_written own.phase ≡ false) (bytes : List ℕ) (pays : answer ≡ Payload bytes) where
      decided_to : (x : Outcome × Table) → decide on.orb on.source on.eui t keys ≡ x → IsDecidedOn m t keys answer x.1
      decided_to x d = record { was = own; is = is; unwritten = unwritten; on = on; brought = brought; source_is = source; left_is = sym (ap (λ (y : Outcome × Table). y.1) d); bytes = bytes; pays = pays }

      first_by : (x : Outcome × Table) → decide on.orb on.source on.eui t keys ≡ x → (begun : Machine) → begun.outgoing ≡ cut_response on.orb x.0 x.1 → (step : ManagerStep) (b : Bool) → (length begun.outgoing == 0) ≡ b → (op : Operation) → (cond b (status_step begun own on.orb.fifo x.0.status) (step, in_phase begun own (phases.Response on.orb.fifo))).1.operation ≡ Some op
          → Replied m t keys answer (cond b (status_step begun own on.orb.fifo x.0.status) (step, in_phase begun own (phases.Response on.orb.fifo))).1 x.1 op
      unfolding decided_to
      first_by x d begun o step true z op e =
          let same : record own { phase = phases.Status } ≡ op = cc in
          decides (decided_to x d) (ap (λ (y : Operation). y.source) same) (ap (λ (y : Operation). y.orb) same) (sym (ap (λ (y : Operation). is_written y.phase) same))
          (record {
            status = λ p. (ap (λ (y : Operation). status_block y.orb x.0.status) same ∙ ap (λ (y : Outcome × Table). status_block op.orb y.0.status) (sym d), size d ∙ ap (λ (xs : List ℕ). length xs == 0) (sym o) ∙ z);
            response = λ fifo p. (let no : phases.Status ≡ phases.Response fifo = ap (λ (y : Operation). y.phase) same ∙ p in absurd (other fifo no));
          })
        where
          size : decide on.orb on.source on.eui t keys ≡ x → (let y = decide on.orb on.source on.eui t keys in (length (cut_response on.orb y.0 y.1) == 0) ≡ (length (cut_response on.orb x.0 x.1) == 0))
          size f = ap (λ (y : Outcome × Table). length (cut_response on.orb y.0 y.1) == 0) f

          other : (fifo : ℕ) → phases.Status ≡ phases.Response fifo → ⊥
          other fifo f = cc
      first_by x d begun o step false z op e =
          let same : record own { phase = phases.Response on.orb.fifo } ≡ op = cc in
          decides (decided_to x d) (ap (λ (y : Operation). y.source) same) (ap (λ (y : Operation). y.orb) same) (sym (ap (λ (y : Operation). is_written y.phase) same))
          (record {
            status = λ p. (let no : phases.Response on.orb.fifo ≡ phases.Status = ap (λ (y : Operation). y.phase) same ∙ p in absurd (differ no));
            response = λ fifo p. (o ∙ ap (λ (y : Outcome × Table). cut_response on.orb y.0 y.1) (sym d), ap (λ (y : Outcome × Table). length (cut_response on.orb y.0 y.1) == 0) d ∙ ap (λ (xs : List ℕ). length xs == 0) (sym o) ∙ z);
          })
        where
          differ : phases.Response on.orb.fifo ≡ phases.Status → ⊥
          differ e = cc

      as_decided : (x : Outcome × Table) → decide on.orb on.source on.eui t keys ≡ x → Case (decided_as x m own on.orb)
      as_decided (outcome, table) d =
          let begun = record m { outgoing = cut_response on.orb outcome table } in
          record { goes = λ op e. first_by (outcome, table) d begun refl _ (length begun.outgoing == 0) refl op e; logged = granted (decided_to (outcome, table) d) }

    decides_on : (orb : ManagementOrb) (eui : ℕ) → decided_by m.operation answer ≡ Some (record { orb = orb; source = own.source; eui = eui }) → is_written own.phase ≡ false → (bytes : List ℕ) → answer ≡ Payload bytes → Case (decide_step m own orb eui t keys)
    unfolding decide_step
    decides_on orb eui b unwritten bytes pays = as_decided (record { orb = orb; source = own.source; eui = eui }) b refl unwritten bytes pays (decide orb own.source eui t keys) refl

    brought_in : (phase : Phase) → own.phase ≡ phase → decided_by m.operation answer ≡ decided_in phase own.source answer
    brought_in phase p = ap (λ (o : Option Operation). decided_by o answer) is ∙ ap (λ (x : Phase). decided_in x own.source answer) p

    orb_case : (bytes : Result (List ℕ) FailCause) → payload_of answer 32 ≡ bytes → own.phase ≡ phases.Orb → Case (orb_got bytes m own t keys)
    orb_case (Err cause) e p = over
    orb_case (Ok bytes) e p =
        let orb = management_orb bytes in
        pick_case (reads_eui orb) (beside t (eui_step m own (phases.HighEui orb) high_eui_at)) (decide_step m own orb 0 t keys) (reads_in (phases.HighEui orb) (ap is_written p) refl)
        (decides_on orb 0 (brought_in phases.Orb p ∙ ap (λ (xs : List ℕ). Some (record { orb = management_orb xs; source = own.source; eui = 0 })) (bytes_are answer 32 bytes e)) (ap is_written p) bytes (payload_is answer 32 bytes e))

    high_case : (bytes : Result (List ℕ) FailCause) (orb : ManagementOrb) → own.phase ≡ phases.HighEui orb → Case (beside t (high_got bytes m own orb))
    high_case (Err cause) orb p = over
    high_case (Ok bytes) orb p = reads_in (phases.LowEui orb (quad bytes 0)) (ap is_written p) refl

    low_case : (bytes : Result (List ℕ) FailCause) (orb : ManagementOrb) (high : ℕ) → payload_of answer 4 ≡ bytes → own.phase ≡ phases.LowEui orb high → Case (low_got bytes m own orb high t keys)
    low_case (Err cause) orb high e p = over
    low_case (Ok bytes) orb high e p =
        decides_on orb (high * 2 ^ 32 + quad bytes 0)
        (brought_in (phases.LowEui orb high) p ∙ ap (λ (xs : List ℕ). Some (record { orb = orb; source = own.source; eui = high * 2 ^ 32 + quad xs 0 })) (bytes_are answer 4 bytes e)) (ap is_written p) bytes (payload_is answer 4 bytes e)

    response_case : (failure : Option FailCause) → write_failure answer ≡ failure → (fifo : ℕ) → own.phase ≡ phases.Response fifo → Case (beside t (response_written failure m own fifo))
    response_case (Some cause) f fifo p = over
    response_case None f fifo p = record { goes = λ op e. by op e; logged = stands refl }
      where
        by : (op : Operation) → Some (record own { phase = phases.Status }) ≡ Some op → Replied m t keys answer (status_step m own fifo statuses.NoFault).1 t op
        by op e =
            let same : record own { phase = phases.Status } ≡ op = cc in
            responds own is (ap (λ (x : Operation). x.source) same) (ap (λ (x : Operation). x.orb) same) fifo p f (sym (ap (λ (x : Operation). x.phase) same)) (ap (λ (x : Operation). status_block x.orb statuses.NoFault) same) refl

    status_case : (failure : Option FailCause) → Case (beside t (status_written failure m))
    status_case None = over
    status_case (Some cause) = over

    phase_case : (phase : Phase) → own.phase ≡ phase → Case (reply_in phase m own t keys answer)
    phase_case phases.Orb p = orb_case (payload_of answer 32) refl p
    phase_case (phases.HighEui orb) p = high_case (payload_of answer 4) orb p
    phase_case (phases.LowEui orb high) p = low_case (payload_of answer 4) orb high refl p
    phase_case (phases.Response fifo) p = response_case (write_failure answer) refl fifo p
    phase_case phases.Status p = status_case (write_failure answer)

  operation_case : (operation : Option Operation) → m.operation ≡ operation → Case (reply_to operation m t keys answer)
  operation_case None e = record { goes = λ op f. none_goes op (sym e ∙ f); logged = stands refl }
  operation_case (Some own) e = phase_case own e own.phase refl

  pub reply_left : Left (reply_step m t keys answer).1
  unfolding reply_step
  reply_left = operation_case m.operation refl
