-- A whole reply takes an operation of the management agent on, phase by phase.
use Rattle.sbp_world.proofs.Words.Std.{arith, nat_tests, ◌≡◌, ◌∙◌, refl, sym, ap, subst, ℕ, ◌+◌, ◌*◌, ◌^◌, ◌==◌, Bool, true, false, cond, List, length, Some, None, Result, Ok, Err, quad}
use Rattle.sbp_world.proofs.Words.Target.{ManagerStep, Operation, Status, Table, beside, cut_response, decide, decide_step, decided_as, eui_step, high_eui_at, high_got, in_phase, low_got, orb_got, reads_eui, reply_in, reply_to, respond_step, response_written, status_step, status_written}
use Rattle.sbp_world.proofs.Words.Initiator.{Answer, FailCause, ManagementOrb, management_orb, payload_of, write_failure}
use Rattle.mgmt_agent.specs.Machine.{Machine, reply_step}
use Rattle.mgmt_agent.specs.declared.decision.Outcome.{Outcome}
use Rattle.mgmt_agent.specs.declared.operation.Phase.{Phase}
use Rattle.mgmt_agent.specs.declared.operation.Phase.TheVariants as phases
use Rattle.orb_layout.specs.declared.ask.FailCause.TheVariants as causes
use Rattle.sbp_world.specs.Completing.OperationsReplies.{Brings, IsWhole, TakesOn, TakesWhole, WholeRepliesLaw, goes_on, is_over}
use Rattle.sbp_world.proofs.Common.{untrue}

-- what is brought is the payload that is waited for
brought : (size : ℕ) (answer : Answer) → (b : Brings size answer) → payload_of answer size ≡ Ok b.bytes
brought size answer b = ap (λ a. payload_of a size) b.is ∙ by (length b.bytes == size) (let e = b.size_is in grind (arith, nat_tests, e))
  where
    by : (c : Bool) → c ≡ true → cond {A = Result (List ℕ) FailCause} c (Ok b.bytes) (Err causes.Grammar) ≡ Ok b.bytes
    by true e = refl
    by false e = untrue e

module _ (op : Operation) where
  -- a step of the machine beside the logins
  abbrev Goes : ManagerStep × Machine → Type 0
  Goes x = (x.0.failed ≡ None) × TakesOn op x.1.operation

  pick : (b : Bool) (x y : ManagerStep × Machine) → Goes x → Goes y → Goes (cond b x y)
  pick true x y h k = h
  pick false x y h k = k

  abbrev W : ManagerStep × (Machine × Table) → Type 0
  W r = TakesWhole op r

  pick_whole : (b : Bool) (x y : ManagerStep × (Machine × Table)) → W x → W y → W (cond b x y)
  pick_whole true x y h k = h
  pick_whole false x y h k = k

  on_in : (phase : Phase) → TakesOn op (Some (record op { phase = phase }))
  on_in phase = goes_on (record op { phase = phase }) refl refl refl

  responds : (now : Machine) (orb : ManagementOrb) (status : Status) → Goes (respond_step now op orb status)
  responds now orb status =
      pick (length now.outgoing == 0) (status_step now op orb.fifo status) (_, in_phase now op (phases.Response orb.fifo)) (refl, on_in phases.Status) (refl, on_in (phases.Response orb.fifo))

  module _ (m : Machine) (t : Table) (keys : List (List ℕ)) where
    as_decided : (r : Outcome × Table) (orb : ManagementOrb) → W (decided_as r m op orb)
    as_decided (outcome, table) orb = let h = responds (record m { outgoing = cut_response orb outcome table }) orb outcome.status in record { failed = h.0; operation = h.1 }

    decides : (orb : ManagementOrb) (eui : ℕ) → W (decide_step m op orb eui t keys)
    unfolding decide_step
    decides orb eui = as_decided (decide orb op.source eui t keys) orb

    reads_orb : (bytes : List ℕ) → W (orb_got (Ok bytes) m op t keys)
    reads_orb bytes =
        let orb = management_orb bytes in
        pick_whole (reads_eui orb) (beside t (eui_step m op (phases.HighEui orb) high_eui_at)) (decide_step m op orb 0 t keys) (record { failed = refl; operation = on_in (phases.HighEui orb) }) (decides orb 0)

    phase_takes : (phase : Phase) → op.phase ≡ phase → (answer : Answer) → IsWhole phase answer → W (reply_in phase m op t keys answer)
    phase_takes phases.Orb e answer b = subst (λ x. W (orb_got x m op t keys)) (sym (brought 32 answer b)) (reads_orb b.bytes)
    phase_takes (phases.HighEui orb) e answer b = subst (λ x. W (beside t (high_got x m op orb))) (sym (brought 4 answer b)) (record { failed = refl; operation = on_in (phases.LowEui orb (quad b.bytes 0)) })
    phase_takes (phases.LowEui orb high) e answer b = subst (λ x. W (low_got x m op orb high t keys)) (sym (brought 4 answer b)) (decides orb (high * 2 ^ 32 + quad b.bytes 0))
    phase_takes (phases.Response fifo) e answer done = subst (λ x. W (beside t (response_written (write_failure x) m op fifo))) (sym done) (record { failed = refl; operation = on_in phases.Status })
    phase_takes phases.Status e answer done = subst (λ x. W (beside t (status_written (write_failure x) m))) (sym done) (record { failed = refl; operation = is_over e refl })

pub whole_replies_law : WholeRepliesLaw
unfolding reply_step
whole_replies_law m t keys op answer is whole = subst (λ o. TakesWhole op (reply_to o m t keys answer)) (sym is) (phase_takes op m t keys op.phase refl answer whole)
