-- What a reply to the request of the management's operation leaves of its ORB: the reply that brings it, the operation keeps; and what it keeps it had.
use Rattle.sbp_world.proofs.Words.Std.{◌≡◌, ◌∙◌, refl, sym, ap, subst, ℕ, ◌*◌, ◌+◌, ◌^◌, ◌==◌, Bool, true, false, cond, List, length, Option, Some, None, Result, Ok, Err, quad}
use Rattle.sbp_world.proofs.Words.Wire.{LabelParts, Packet, Finding, judging_step, of_response, empty_outbox}
use Rattle.sbp_world.proofs.Words.Target.{Table, ManagerStep, Operation, Status, decide, reads_eui, beside, cut_response, decide_step, decided_as, eui_step, high_eui_at, high_got, in_phase, low_got, orb_got, reply_in, reply_to, respond_step, response_written, status_step, status_written, Disk, Told, Purpose, NodeState, scene, answer_in, received, whole}
use Rattle.sbp_world.proofs.Words.Initiator.{Nothing, FailCause, ManagementOrb, management_orb, Answer, Payload, payload_of, write_failure}
use Rattle.sbp_world.proofs.Words.World.{CallsKeep, Office, KeepsIn}
use Rattle.mgmt_agent.specs.declared.decision.Outcome.{Outcome}
use Rattle.mgmt_agent.specs.declared.operation.Phase.{Phase}
use Rattle.mgmt_agent.specs.declared.operation.Phase.TheVariants as phases
use Rattle.mgmt_agent.specs.Machine.{Machine, reply_step}
use Rattle.sbp_target.specs.declared.purpose.Purpose.TheVariants as purposes
use Rattle.sbp_target.proofs.Histories.Calling.{Good}
use Rattle.sbp_world.specs.Agents.Management.Calls.{delivered}
use Rattle.sbp_world.proofs.Sessions.Decisions.{none_goes}
use Rattle.sbp_world.proofs.Sessions.Writing.{behind}
use Rattle.sbp_world.proofs.Lists.OpenedReplied.{pays_as}

-- of an operation that is under way behind a reply
pub data HasRead (before : Option Operation) (answer : Answer) (now : Operation) : Type 0 where
  brought : (was : Operation) → before ≡ Some was → was.source ≡ now.source → was.orb ≡ now.orb → was.phase ≡ phases.Orb → (bytes : List ℕ) → answer ≡ Payload bytes → KeepsIn now.phase (management_orb bytes) → HasRead before answer now
  kept : (was : Operation) → before ≡ Some was → was.source ≡ now.source → was.orb ≡ now.orb → ((orb : ManagementOrb) → KeepsIn was.phase orb → KeepsIn now.phase orb) → HasRead before answer now

module _ (m : Machine) (answer : Answer) (own : Operation) (is : m.operation ≡ Some own) where
  abbrev Read : Option Operation → Type 0
  Read left = (now : Operation) → left ≡ Some now → HasRead m.operation answer now

  over : Read None
  over now e = none_goes now e

  -- it goes on in a phase
  on_in : (phase : Phase) → ((orb : ManagementOrb) → KeepsIn own.phase orb → KeepsIn phase orb) → Read (Some (record own { phase = phase }))
  on_in phase k now e =
      let same : record own { phase = phase } ≡ now = cc in
      subst (HasRead m.operation answer) same (kept own is refl refl k)

  reads : (own.phase ≡ phases.Orb) → (bytes : List ℕ) → answer ≡ Payload bytes → (phase : Phase) → KeepsIn phase (management_orb bytes) → Read (Some (record own { phase = phase }))
  reads p bytes a phase k now e =
      let same : record own { phase = phase } ≡ now = cc in
      subst (HasRead m.operation answer) same (brought own is refl refl p bytes a k)

  pick : (b : Bool) (x y : ManagerStep × Machine) → Read x.1.operation → Read y.1.operation → Read (cond b x y).1.operation
  pick true x y h k = h
  pick false x y h k = k

  pick_step : (b : Bool) (x y : ManagerStep × (Machine × Table)) → Read x.1.0.operation → Read y.1.0.operation → Read (cond b x y).1.0.operation
  pick_step true x y h k = h
  pick_step false x y h k = k

  module _ (t : Table) (keys : List (List ℕ)) where
    responds : (now : Machine) (orb : ManagementOrb) (status : Status) → Read (respond_step now own orb status).1.operation
    responds now orb status =
        pick (length now.outgoing == 0) (status_step now own orb.fifo status) (_, in_phase now own (phases.Response orb.fifo)) (on_in phases.Status (λ x k. tt)) (on_in (phases.Response orb.fifo) (λ x k. tt))

    as_decided : (r : Outcome × Table) (orb : ManagementOrb) → Read (decided_as r m own orb).1.0.operation
    as_decided (outcome, table) orb = responds (record m { outgoing = cut_response orb outcome table }) orb outcome.status

    decides : (orb : ManagementOrb) (eui : ℕ) → Read (decide_step m own orb eui t keys).1.0.operation
    unfolding decide_step
    decides orb eui = as_decided (decide orb own.source eui t keys) orb

    orb_read : (bytes : Result (List ℕ) FailCause) → payload_of answer 32 ≡ bytes → own.phase ≡ phases.Orb → Read (orb_got bytes m own t keys).1.0.operation
    orb_read (Err cause) e p = over
    orb_read (Ok bytes) e p =
        let orb = management_orb bytes in
        pick_step (reads_eui orb) (beside t (eui_step m own (phases.HighEui orb) high_eui_at)) (decide_step m own orb 0 t keys)
        (reads p bytes (pays_as answer 32 bytes e) (phases.HighEui orb) refl) (decides orb 0)

    high_read : (bytes : Result (List ℕ) FailCause) (orb : ManagementOrb) → own.phase ≡ phases.HighEui orb → Read (high_got bytes m own orb).1.operation
    high_read (Err cause) orb p = over
    high_read (Ok bytes) orb p = on_in (phases.LowEui orb (quad bytes 0)) (λ x k. subst (λ (y : Phase). KeepsIn y x) p k)

    low_read : (bytes : Result (List ℕ) FailCause) (orb : ManagementOrb) (high : ℕ) → Read (low_got bytes m own orb high t keys).1.0.operation
    low_read (Err cause) orb high = over
    low_read (Ok bytes) orb high = decides orb (high * 2 ^ 32 + quad bytes 0)

    response_read : (failure : Option FailCause) (fifo : ℕ) → Read (response_written failure m own fifo).1.operation
    response_read None fifo = on_in phases.Status (λ x k. tt)
    response_read (Some cause) fifo = over

    status_read : (failure : Option FailCause) → Read (status_written failure m).1.operation
    status_read None = over
    status_read (Some cause) = over

    phase_read : (phase : Phase) → own.phase ≡ phase → Read (reply_in phase m own t keys answer).1.0.operation
    phase_read phases.Orb p = orb_read (payload_of answer 32) refl p
    phase_read (phases.HighEui orb) p = high_read (payload_of answer 4) orb p
    phase_read (phases.LowEui orb high) p = low_read (payload_of answer 4) orb high
    phase_read (phases.Response fifo) p = response_read (write_failure answer) fifo
    phase_read phases.Status p = status_read (write_failure answer)

same_kept : (operation : Option Operation) (answer : Answer) (now : Operation) → operation ≡ Some now → HasRead operation answer now
same_kept operation answer now e = kept now e refl refl (λ orb k. k)

reply_by : (m : Machine) (t : Table) (keys : List (List ℕ)) (answer : Answer) (operation : Option Operation) → m.operation ≡ operation → (now : Operation) → (reply_to operation m t keys answer).1.0.operation ≡ Some now → HasRead m.operation answer now
reply_by m t keys answer None e now f = same_kept m.operation answer now f
reply_by m t keys answer (Some own) e now f = phase_read m answer own e t keys own.phase refl now f

pub reply_read : (m : Machine) (t : Table) (keys : List (List ℕ)) (answer : Answer) (now : Operation) → (reply_step m t keys answer).1.0.operation ≡ Some now → HasRead m.operation answer now
unfolding reply_step
reply_read m t keys answer now f = reply_by m t keys answer m.operation refl now f

-- a delivery that brings a reply to it
module _ (node : NodeState) (g : Good node) (keeps : CallsKeep node (record { table = node.logins; keys = node.keys; manager = node.manager; manages = None; asks = Nothing; decided = None })) where
  abbrev o : Office
  o = record { table = node.logins; keys = node.keys; manager = node.manager; manages = None; asks = Nothing; decided = None }

  pub delivery_read : (told : Option Told) (disks : List Disk) (generation : ℕ) (bytes : List ℕ) (p : Packet) (label : LabelParts) → (judging_step node.layer generation bytes).0 ≡ of_response p label (Some purposes.Management) → (op : Operation) → (received told generation bytes (whole (scene node empty_outbox) disks)).1.node.manager.operation ≡ Some op → HasRead node.manager.operation (answer_in p) op
  delivery_read told disks generation bytes p label found op is =
      let f = (judging_step node.layer generation bytes).0 in
      let x = (received told generation bytes (whole (scene node empty_outbox) disks)).1 in
      let left : x.node.manager ≡ (delivered f node o).manager = behind node g keeps x.outbox.sides (delivered f node o) x.node (keeps.deliveries told disks generation bytes) op is in
      let reply : x.node.manager ≡ (delivered (of_response p label (Some purposes.Management)) node o).manager = left ∙ ap (λ (y : Finding Purpose). (delivered y node o).manager) found in
      reply_read node.manager node.logins node.keys (answer_in p) op (sym (ap (λ (m : Machine). m.operation) reply) ∙ is)
