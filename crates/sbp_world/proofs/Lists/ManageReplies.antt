-- What a reply leaves of an operation of the management: it goes on, of the same node and with the same address, or is over; and it is over where its status block was
-- written.
use Rattle.sbp_world.proofs.Words.Std.{◌≡◌, ◌∙◌, refl, sym, ap, ℕ, ◌+◌, ◌*◌, ◌^◌, ◌==◌, Bool, true, false, cond, List, length, Option, Some, None, Result, Ok, Err, quad}
use Rattle.sbp_world.proofs.Words.Target.{Table, ManagerStep, Operation, Status, decide, reads_eui, beside, cut_response, decide_step, decided_as, eui_step, high_eui_at, high_got, in_phase, low_got, orb_got, reply_in, reply_to, respond_step, response_written, status_step, status_written}
use Rattle.sbp_world.proofs.Words.Initiator.{FailCause, ManagementOrb, management_orb, Answer, payload_of, write_failure}
use Rattle.mgmt_agent.specs.declared.decision.Outcome.{Outcome}
use Rattle.mgmt_agent.specs.declared.operation.Phase.{Phase}
use Rattle.mgmt_agent.specs.declared.operation.Phase.TheVariants as phases
use Rattle.mgmt_agent.specs.Machine.{Machine, reply_step}
use Rattle.sbp_world.proofs.Common.{none_is}

-- an operation that a reply takes on
pub record GoesOn (before : Option Operation) (now : Operation) : Type 0 where
  pub was : Operation
  pub is : before ≡ Some was
  pub source : was.source ≡ now.source
  pub orb : was.orb ≡ now.orb
  pub not_over : was.phase ≡ phases.Status → ⊥

module _ (m : Machine) (own : Operation) (is : m.operation ≡ Some own) where
  abbrev Kept : Option Operation → Type 0
  Kept left = (now : Operation) → left ≡ Some now → GoesOn m.operation now

  ended : Kept None
  ended now e = none_is now e

  module _ (open_one : own.phase ≡ phases.Status → ⊥) where
    on_in : (phase : Phase) → Kept (Some (record own { phase = phase }))
    on_in phase now e =
        let same : record own { phase = phase } ≡ now = cc in
        record { was = own; is = is; source = ap (λ (x : Operation). x.source) same; orb = ap (λ (x : Operation). x.orb) same; not_over = open_one }

    pick : (b : Bool) (x y : ManagerStep × Machine) → Kept x.1.operation → Kept y.1.operation → Kept (cond b x y).1.operation
    pick true x y h k = h
    pick false x y h k = k

    pick_step : (b : Bool) (x y : ManagerStep × (Machine × Table)) → Kept x.1.0.operation → Kept y.1.0.operation → Kept (cond b x y).1.0.operation
    pick_step true x y h k = h
    pick_step false x y h k = k

    module _ (t : Table) (keys : List (List ℕ)) where
      responds : (now : Machine) (orb : ManagementOrb) (status : Status) → Kept (respond_step now own orb status).1.operation
      responds now orb status =
          pick (length now.outgoing == 0) (status_step now own orb.fifo status) (_, in_phase now own (phases.Response orb.fifo)) (on_in phases.Status) (on_in (phases.Response orb.fifo))

      as_decided : (r : Outcome × Table) (orb : ManagementOrb) → Kept (decided_as r m own orb).1.0.operation
      as_decided (outcome, table) orb = responds (record m { outgoing = cut_response orb outcome table }) orb outcome.status

      decides : (orb : ManagementOrb) (eui : ℕ) → Kept (decide_step m own orb eui t keys).1.0.operation
      unfolding decide_step
      decides orb eui = as_decided (decide orb own.source eui t keys) orb

      orb_kept : (bytes : Result (List ℕ) FailCause) → Kept (orb_got bytes m own t keys).1.0.operation
      orb_kept (Err cause) = ended
      orb_kept (Ok bytes) =
          let orb = management_orb bytes in
          pick_step (reads_eui orb) (beside t (eui_step m own (phases.HighEui orb) high_eui_at)) (decide_step m own orb 0 t keys) (on_in (phases.HighEui orb)) (decides orb 0)

      high_kept : (bytes : Result (List ℕ) FailCause) (orb : ManagementOrb) → Kept (high_got bytes m own orb).1.operation
      high_kept (Err cause) orb = ended
      high_kept (Ok bytes) orb = on_in (phases.LowEui orb (quad bytes 0))

      low_kept : (bytes : Result (List ℕ) FailCause) (orb : ManagementOrb) (high : ℕ) → Kept (low_got bytes m own orb high t keys).1.0.operation
      low_kept (Err cause) orb high = ended
      low_kept (Ok bytes) orb high = decides orb (high * 2 ^ 32 + quad bytes 0)

      response_kept : (failure : Option FailCause) (fifo : ℕ) → Kept (response_written failure m own fifo).1.operation
      response_kept None fifo = on_in phases.Status
      response_kept (Some cause) fifo = ended

  status_kept : (failure : Option FailCause) → Kept (status_written failure m).1.operation
  status_kept None = ended
  status_kept (Some cause) = ended

  module _ (t : Table) (keys : List (List ℕ)) where
    phase_kept : (phase : Phase) → own.phase ≡ phase → (answer : Answer) → Kept (reply_in phase m own t keys answer).1.0.operation
    phase_kept phases.Orb e answer = orb_kept (λ f. let no : phases.Orb ≡ phases.Status = sym e ∙ f in cc) t keys (payload_of answer 32)
    phase_kept (phases.HighEui orb) e answer = high_kept (λ f. let no : phases.HighEui orb ≡ phases.Status = sym e ∙ f in cc) t keys (payload_of answer 4) orb
    phase_kept (phases.LowEui orb high) e answer = low_kept (λ f. let no : phases.LowEui orb high ≡ phases.Status = sym e ∙ f in cc) t keys (payload_of answer 4) orb high
    phase_kept (phases.Response fifo) e answer = response_kept (λ f. let no : phases.Response fifo ≡ phases.Status = sym e ∙ f in cc) t keys (write_failure answer) fifo
    phase_kept phases.Status e answer = status_kept (write_failure answer)

replies_by : (m : Machine) (t : Table) (keys : List (List ℕ)) (answer : Answer) (operation : Option Operation) → m.operation ≡ operation → (now : Operation) → (reply_to operation m t keys answer).1.0.operation ≡ Some now → GoesOn m.operation now
replies_by m t keys answer None e now f = none_is now (sym e ∙ f)
replies_by m t keys answer (Some own) e now f = phase_kept m own e t keys own.phase refl answer now f

pub reply_goes : (m : Machine) (t : Table) (keys : List (List ℕ)) (answer : Answer) (now : Operation) → (reply_step m t keys answer).1.0.operation ≡ Some now → GoesOn m.operation now
unfolding reply_step
reply_goes m t keys answer now e = replies_by m t keys answer m.operation refl now e
