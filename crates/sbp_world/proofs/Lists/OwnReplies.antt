-- What a reply to the request of the management's operation leaves of the FIFO that it keeps: it is the initiator's, where the ORB that a reply brings names such a FIFO.
use Rattle.sbp_world.proofs.Words.Std.{◌≡◌, ◌∙◌, refl, sym, ap, subst, ℕ, ◌*◌, ◌+◌, ◌^◌, ◌==◌, Bool, true, false, cond, List, length, Option, Some, None, Result, Ok, Err, quad}
use Rattle.sbp_world.proofs.Words.Wire.{LabelParts, Packet, Finding, judging_step, of_response, empty_outbox}
use Rattle.sbp_world.proofs.Words.Target.{Table, ManagerStep, Operation, Status, decide, reads_eui, beside, cut_response, decide_step, decided_as, eui_step, high_eui_at, high_got, in_phase, low_got, orb_got, reply_in, reply_to, respond_step, response_written, status_step, status_written, Disk, Told, Purpose, NodeState, scene, answer_in, received, whole}
use Rattle.sbp_world.proofs.Words.Initiator.{Nothing, FailCause, ManagementOrb, management_orb, Answer, Payload, payload_of, write_failure}
use Rattle.sbp_world.proofs.Words.World.{CallsKeep, Office, GoodIn, IsGoodOrb}
use Rattle.mgmt_agent.specs.declared.decision.Outcome.{Outcome}
use Rattle.mgmt_agent.specs.declared.operation.Phase.{Phase}
use Rattle.mgmt_agent.specs.declared.operation.Phase.TheVariants as phases
use Rattle.mgmt_agent.specs.Machine.{Machine, reply_step}
use Rattle.sbp_target.specs.declared.purpose.Purpose.TheVariants as purposes
use Rattle.sbp_target.proofs.Histories.Calling.{Good}
use Rattle.sbp_world.specs.Agents.Management.Calls.{delivered}
use Rattle.sbp_world.proofs.Sessions.Decisions.{none_goes}
use Rattle.sbp_world.proofs.Sessions.Writing.{behind}
use Rattle.sbp_world.proofs.Lists.OpenedReplied.{pays_as as payload_is}

module _ (answer : Answer) (own : Operation) (good : GoodIn own.phase) (brings : own.phase ≡ phases.Orb → (bytes : List ℕ) → answer ≡ Payload bytes → IsGoodOrb (management_orb bytes)) where
  abbrev Leaves : Option Operation → Type 0
  Leaves left = (now : Operation) → left ≡ Some now → GoodIn now.phase

  over : Leaves None
  over now e = none_goes now e

  on_in : (phase : Phase) → GoodIn phase → Leaves (Some (record own { phase = phase }))
  on_in phase g now e = (let same : record own { phase = phase } ≡ now = cc in subst (λ (x : Operation). GoodIn x.phase) same g)

  pick : (b : Bool) (x y : ManagerStep × Machine) → Leaves x.1.operation → Leaves y.1.operation → Leaves (cond b x y).1.operation
  pick true x y h k = h
  pick false x y h k = k

  pick_step : (b : Bool) (x y : ManagerStep × (Machine × Table)) → Leaves x.1.0.operation → Leaves y.1.0.operation → Leaves (cond b x y).1.0.operation
  pick_step true x y h k = h
  pick_step false x y h k = k

  module _ (m : Machine) (t : Table) (keys : List (List ℕ)) where
    responds : (now : Machine) (orb : ManagementOrb) (status : Status) → IsGoodOrb orb → Leaves (respond_step now own orb status).1.operation
    responds now orb status g =
        pick (length now.outgoing == 0) (status_step now own orb.fifo status) (_, in_phase now own (phases.Response orb.fifo)) (on_in phases.Status tt) (on_in (phases.Response orb.fifo) g.its)

    as_decided : (r : Outcome × Table) (orb : ManagementOrb) → IsGoodOrb orb → Leaves (decided_as r m own orb).1.0.operation
    as_decided (outcome, table) orb g = responds (record m { outgoing = cut_response orb outcome table }) orb outcome.status g

    decides : (orb : ManagementOrb) (eui : ℕ) → IsGoodOrb orb → Leaves (decide_step m own orb eui t keys).1.0.operation
    unfolding decide_step
    decides orb eui g = as_decided (decide orb own.source eui t keys) orb g

    orb_leaves : (bytes : Result (List ℕ) FailCause) → payload_of answer 32 ≡ bytes → own.phase ≡ phases.Orb → Leaves (orb_got bytes m own t keys).1.0.operation
    orb_leaves (Err cause) e p = over
    orb_leaves (Ok bytes) e p =
        let orb = management_orb bytes in
        let g : IsGoodOrb orb = brings p bytes (payload_is answer 32 bytes e) in
        pick_step (reads_eui orb) (beside t (eui_step m own (phases.HighEui orb) high_eui_at)) (decide_step m own orb 0 t keys)
        (on_in (phases.HighEui orb) g) (decides orb 0 g)

    high_leaves : (bytes : Result (List ℕ) FailCause) (orb : ManagementOrb) → IsGoodOrb orb → Leaves (high_got bytes m own orb).1.operation
    high_leaves (Err cause) orb g = over
    high_leaves (Ok bytes) orb g = on_in (phases.LowEui orb (quad bytes 0)) g

    low_leaves : (bytes : Result (List ℕ) FailCause) (orb : ManagementOrb) (high : ℕ) → IsGoodOrb orb → Leaves (low_got bytes m own orb high t keys).1.0.operation
    low_leaves (Err cause) orb high g = over
    low_leaves (Ok bytes) orb high g = decides orb (high * 2 ^ 32 + quad bytes 0) g

    response_leaves : (failure : Option FailCause) (fifo : ℕ) → Leaves (response_written failure m own fifo).1.operation
    response_leaves None fifo = on_in phases.Status tt
    response_leaves (Some cause) fifo = over

    status_leaves : (failure : Option FailCause) → Leaves (status_written failure m).1.operation
    status_leaves None = over
    status_leaves (Some cause) = over

    phase_leaves : (phase : Phase) → own.phase ≡ phase → Leaves (reply_in phase m own t keys answer).1.0.operation
    phase_leaves phases.Orb p = orb_leaves (payload_of answer 32) refl p
    phase_leaves (phases.HighEui orb) p = high_leaves (payload_of answer 4) orb (subst GoodIn p good)
    phase_leaves (phases.LowEui orb high) p = low_leaves (payload_of answer 4) orb high (subst GoodIn p good)
    phase_leaves (phases.Response fifo) p = response_leaves (write_failure answer) fifo
    phase_leaves phases.Status p = status_leaves (write_failure answer)

    reply_leaves : m.operation ≡ Some own → Leaves (reply_step m t keys answer).1.0.operation
    unfolding reply_step
    reply_leaves is = subst (λ (o : Option Operation). Leaves (reply_to o m t keys answer).1.0.operation) (sym is) (phase_leaves own.phase refl)

-- a delivery that brings a reply to it
module _ (node : NodeState) (g : Good node) (keeps : CallsKeep node (record { table = node.logins; keys = node.keys; manager = node.manager; manages = None; asks = Nothing; decided = None })) where
  abbrev o : Office
  o = record { table = node.logins; keys = node.keys; manager = node.manager; manages = None; asks = Nothing; decided = None }

  pub delivery_good : (told : Option Told) (disks : List Disk) (generation : ℕ) (bytes : List ℕ) (p : Packet) (label : LabelParts) → (judging_step node.layer generation bytes).0 ≡ of_response p label (Some purposes.Management) → (own : Operation) → node.manager.operation ≡ Some own → GoodIn own.phase → (own.phase ≡ phases.Orb → (bytes : List ℕ) → answer_in p ≡ Payload bytes → IsGoodOrb (management_orb bytes)) → (op : Operation) → (received told generation bytes (whole (scene node empty_outbox) disks)).1.node.manager.operation ≡ Some op → GoodIn op.phase
  delivery_good told disks generation bytes p label found own there good brings op is =
      let f = (judging_step node.layer generation bytes).0 in
      let x = (received told generation bytes (whole (scene node empty_outbox) disks)).1 in
      let left : x.node.manager ≡ (delivered f node o).manager = behind node g keeps x.outbox.sides (delivered f node o) x.node (keeps.deliveries told disks generation bytes) op is in
      let reply : x.node.manager ≡ (delivered (of_response p label (Some purposes.Management)) node o).manager = left ∙ ap (λ (y : Finding Purpose). (delivered y node o).manager) found in
      reply_leaves (answer_in p) own good brings node.manager node.logins node.keys there op (sym (ap (λ (m : Machine). m.operation) reply) ∙ is)
