-- What a reply to the operation of the target's management makes of the count of its undecided operations and of its live logins (NCITS 325-1998, management agent and
-- login): a decision ends the reading of an operation, and a login that it grants is one more that is live.
use Rattle.sbp_world.proofs.Words.Std.{arith, ◌≡◌, refl, ap, ℕ, ◌+◌, ◌*◌, ◌^◌, ◌≤◌, ◌==◌, Bool, true, false, cond, List, length, Option, Some, None, Result, Ok, Err, quad}
use Rattle.sbp_world.proofs.Words.Wire.{function_word}
use Rattle.sbp_world.proofs.Words.Target.{Table, ManagerStep, Operation, decide, reads_eui, beside, respond_step, cut_response, decide_step, decided_as, eui_step, high_eui_at, high_got, in_phase, low_got, orb_got, reply_in, reply_to, response_written, status_step, status_written}
use Rattle.sbp_world.proofs.Words.Initiator.{FailCause, ManagementOrb, management_orb, Answer, payload_of, write_failure}
use Rattle.sbp_world.proofs.Words.World.{is_written}
use Rattle.mgmt_agent.specs.declared.decision.Outcome.{Outcome}
use Rattle.mgmt_agent.specs.declared.operation.Phase.{Phase}
use Rattle.mgmt_agent.specs.declared.operation.Phase.TheVariants as phases
use Rattle.mgmt_agent.specs.Machine.{Machine, quiet, reply_step}
use Rattle.orb_layout.specs.declared.ask.Ask.TheVariants as asks
use Rattle.sbp_world.proofs.Lists.CountedLogins.{Fine, decide_fine, live_in}
use Rattle.sbp_world.proofs.Lists.GrantSides.{decision_grants}

-- whether an operation is under way that is not decided yet
abbrev pub undecided : Option Operation → ℕ
undecided None = 0
undecided (Some op) = cond (is_written op.phase) 0 1

module _ (m : Machine) (t : Table) (keys : List (List ℕ)) (answer : Answer) where
  -- what a step leaves, of an operation that counted so much
  abbrev Leaves : ℕ → ManagerStep × (Machine × Table) → Type 0
  Leaves before r = 9 * decision_grants r.0.decided + (8 * undecided r.1.0.operation + live_in t.places) ≤ 8 * before + live_in r.1.1.places

  pick : (b : Bool) (before : ℕ) (x y : ManagerStep × (Machine × Table)) → Leaves before x → Leaves before y → Leaves before (cond b x y)
  pick true before x y h k = h
  pick false before x y h k = k

  module _ (own : Operation) where
    decided_leaves : (orb : ManagementOrb) (eui : ℕ) (r : Outcome × Table) → Fine orb own.source eui t keys (function_word orb.function) r → Leaves 1 (decided_as r m own orb)
    decided_leaves orb eui (outcome, left) h =
        let n = record m { outgoing = cut_response orb outcome left } in
        let none : undecided (respond_step n own orb outcome.status).1.operation ≡ 0 = by (length n.outgoing == 0) n in
        omega (arith, none, h)
      where
        by : (b : Bool) (n : Machine) → undecided (cond b (status_step n own orb.fifo outcome.status) (quiet (asks.Write orb.second (length n.outgoing)), in_phase n own (phases.Response orb.fifo))).1.operation ≡ 0
        by true n = refl
        by false n = refl

    decides_leaves : (orb : ManagementOrb) (eui : ℕ) → Leaves 1 (decide_step m own orb eui t keys)
    unfolding decide_step
    decides_leaves orb eui = decided_leaves orb eui (decide orb own.source eui t keys) (decide_fine orb own.source eui t keys)

    orb_leaves : (bytes : Result (List ℕ) FailCause) → Leaves 1 (orb_got bytes m own t keys)
    orb_leaves (Err cause) = omega arith
    orb_leaves (Ok bytes) =
        let orb = management_orb bytes in
        pick (reads_eui orb) 1 (beside t (eui_step m own (phases.HighEui orb) high_eui_at)) (decide_step m own orb 0 t keys) (omega arith) (decides_leaves orb 0)

    high_leaves : (bytes : Result (List ℕ) FailCause) (orb : ManagementOrb) → Leaves 1 (beside t (high_got bytes m own orb))
    high_leaves (Err cause) orb = omega arith
    high_leaves (Ok bytes) orb = omega arith

    low_leaves : (bytes : Result (List ℕ) FailCause) (orb : ManagementOrb) (high : ℕ) → Leaves 1 (low_got bytes m own orb high t keys)
    low_leaves (Err cause) orb high = omega arith
    low_leaves (Ok bytes) orb high = decides_leaves orb (high * 2 ^ 32 + quad bytes 0)

    response_leaves : (failure : Option FailCause) (fifo : ℕ) → Leaves 0 (beside t (response_written failure m own fifo))
    response_leaves None fifo = omega arith
    response_leaves (Some cause) fifo = omega arith

    status_leaves : (failure : Option FailCause) → Leaves 0 (beside t (status_written failure m))
    status_leaves None = omega arith
    status_leaves (Some cause) = omega arith

    phase_leaves : (phase : Phase) → Leaves (cond (is_written phase) 0 1) (reply_in phase m own t keys answer)
    phase_leaves phases.Orb = orb_leaves (payload_of answer 32)
    phase_leaves (phases.HighEui orb) = high_leaves (payload_of answer 4) orb
    phase_leaves (phases.LowEui orb high) = low_leaves (payload_of answer 4) orb high
    phase_leaves (phases.Response fifo) = response_leaves (write_failure answer) fifo
    phase_leaves phases.Status = status_leaves (write_failure answer)

  operation_leaves : (operation : Option Operation) → m.operation ≡ operation → Leaves (undecided operation) (reply_to operation m t keys answer)
  operation_leaves None e = let none : undecided m.operation ≡ 0 = ap undecided e in omega (arith, none)
  operation_leaves (Some own) e = phase_leaves own own.phase

  pub reply_leaves : 9 * decision_grants (reply_step m t keys answer).0.decided + (8 * undecided (reply_step m t keys answer).1.0.operation + live_in t.places) ≤ 8 * undecided m.operation + live_in (reply_step m t keys answer).1.1.places
  unfolding reply_step
  reply_leaves = operation_leaves m.operation refl
