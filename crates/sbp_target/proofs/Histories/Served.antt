-- What holds before an answer and is kept by giving up, and what holds behind it and is kept by giving up and
-- asking: a request that is served takes the one to the other.
use Rattle.std.proofs.Common.{ℕ, Bool, true, false, cond, List, [], ◌∷◌, ◌++◌, length, take, drop, Option, Some, None, Result, Ok, Err}
use Rattle.byteorder.specs.Endian.{big_bytes}
use Rattle.async_packet.specs.Packet.{Packet, header_in}
use Rattle.label_table.specs.Layer.{Layer, answering_step}
use Rattle.login_table.specs.declared.login.Login.{Login}
use Rattle.orb_layout.specs.declared.ask.Ask.{Ask}
use Rattle.orb_layout.specs.declared.pointer.OrbPointer.{OrbPointer}
use Rattle.mgmt_agent.specs.declared.operation.Busy.{Busy}
use Rattle.mgmt_agent.specs.Machine as management
use Rattle.command_agent.specs.declared.step.PointRefusal.{PointRefusal}
use Rattle.command_agent.specs.Machine.{Machine, state_in}
use Rattle.command_agent.specs.Steps.{asks, doorbell_step}
use Rattle.sbp_journal.specs.declared.cause.CutCause.TheVariants as cuts
use Rattle.sbp_journal.specs.declared.cause.Cause.TheVariants as ignored
use Rattle.sbp_journal.specs.declared.cause.Judged.{Judged}
use Rattle.sbp_journal.specs.declared.cause.Judged.TheVariants as judged
use Rattle.sbp_journal.specs.declared.outbox.Outgoing.{Outgoing}
use Rattle.sbp_journal.specs.declared.side.Side.TheVariants as sides
use Rattle.sbp_journal.specs.Outgoings.{OutboxState}
use Rattle.target_base.specs.declared.address.Access.{Access}
use Rattle.target_base.specs.declared.address.Access.TheVariants as accesses
use Rattle.target_base.specs.declared.address.Demand.{Demand}
use Rattle.target_base.specs.declared.address.Demand.TheVariants as demands
use Rattle.sbp_target.specs.declared.desk.Desk.{Desk}
use Rattle.sbp_target.specs.declared.purpose.Purpose.{Purpose}
use Rattle.target_base.specs.Addresses.{complete, conflict_error, address_error, demand_of}
use Rattle.sbp_target.specs.Desks.{point_desk}
use Rattle.sbp_target.specs.Sending.{answer_step, answered_by, with_side}
use Rattle.sbp_target.specs.Nodes.{Scene, scene, desk_at, login_at, with_desk, with_agent}
use Rattle.sbp_target.specs.Agents.{cut}
use Rattle.sbp_target.specs.Telling.{orb_of}
use Rattle.sbp_target.specs.Serving.{answered, state_number, last_pointer, pointer_bytes, asked_in, rcode_of, pointed_by, point, rung_by, ring, enabled, accessed_by, started_by, start, served_as, serve, is_barred, request_step}
use Rattle.sbp_target.specs.Histories.Layers.{response}
use Rattle.sbp_target.proofs.Histories.Pass.{Said, At, Leaves, Keeps, cuts_at, follows, asks_manager}

-- an answer to this request takes P to Q
pub record Answers (P Q : Said) (request : Packet) (bytes : List ℕ) : Type 0 where
  pub answers : (layer : Layer Purpose) (packets : List Outgoing) (rcode : ℕ) (given : List ℕ) → P layer packets → Q (answering_step layer request bytes rcode given).1 (packets ++ response request (answering_step layer request bytes rcode given).0 ∷ [])

module _ (P Q : Said) (request : Packet) (bytes : List ℕ) (a : Answers P Q request bytes) where
  answers_by : (r : List ℕ × Layer Purpose) (o : OutboxState) → Q r.1 (o.packets ++ response request r.0 ∷ []) → Q (answered_by r o (header_in request).source).0 (answered_by r o (header_in request).source).1.packets
  answers_by (bytes', layer) o h = h

  pub answers_at : (rcode : ℕ) (given : List ℕ) (s : Scene) → At P s → At Q (answered request bytes rcode given s)
  unfolding answer_step
  answers_at rcode given s h =
      answers_by (answering_step s.node.layer request bytes rcode given) s.outbox (a.answers s.node.layer s.outbox.packets rcode given h)

  module _ (l : Leaves P) (k : Keeps Q) where
    asks_in : (place : ℕ) (ask : Ask) (login : Option Login) (s : Scene) → At Q s → At Q (asked_in place ask login s)
    asks_in place ask None s h = h
    asks_in place ask (Some login) s h = follows Q k place login (asks ask) s h

    points_by : (place : ℕ) (r : Result Ask PointRefusal × Desk) (s : Scene) → At P s → At Q (pointed_by place request bytes r s)
    points_by place (Ok ask, desk) s h =
        let t = scene (with_desk s.node place desk) (with_side s.outbox (sides.Opened place (orb_of desk.agent))) in
        let u = answered request bytes complete [] t in
        asks_in place ask (login_at u.node place) u (answers_at complete [] t h)
    points_by place (Err refusal, desk) s h = answers_at (rcode_of refusal) [] (scene (with_desk s.node place desk) s.outbox) h

    points : (place : ℕ) (pointer : OrbPointer) (s : Scene) → At P s → At Q (point place pointer request bytes s)
    unfolding point
    points place pointer s h = points_by place (point_desk (desk_at s.node place) pointer) s h

    rings_by : (place : ℕ) (r : Ask × Machine) (s : Scene) → At P s → At Q (rung_by place request bytes r s)
    rings_by place (ask, m) s h =
        let t = scene (with_agent s.node place m) s.outbox in
        let u = answered request bytes complete [] t in
        asks_in place ask (login_at u.node place) u (answers_at complete [] t h)

    rings : (place : ℕ) (s : Scene) → At P s → At Q (ring place request bytes s)
    unfolding ring
    rings place s h = rings_by place (doorbell_step (desk_at s.node place).agent) s h

    accesses_by : (access : Access) (place : ℕ) (s : Scene) → At P s → At Q (accessed_by access place request bytes s)
    accesses_by accesses.State place s h = answers_at complete (big_bytes 4 (state_number (state_in (desk_at s.node place).agent.phase))) s h
    accesses_by accesses.Reset place s h = answers_at complete [] (cut cuts.AgentReset place s) (cuts_at P l cuts.AgentReset place s h)
    accesses_by (accesses.Point pointer) place s h = points place pointer s h
    accesses_by accesses.Pointer place s h = answers_at complete (pointer_bytes (last_pointer (desk_at s.node place).pointer)) s h
    accesses_by accesses.Ring place s h = rings place s h
    accesses_by accesses.Enable place s h = answers_at complete [] (enabled place s) h

    starts_by : (source : ℕ) (r : Result Ask Busy × management.Machine) (s : Scene) → At P s → At Q (started_by source request bytes r s)
    starts_by source (Ok ask, m) s h =
        let t = scene (record s.node { manager = m }) s.outbox in
        asks_manager Q k source ask (answered request bytes complete [] t) (answers_at complete [] t h)
    starts_by source (Err busy, m) s h = answers_at conflict_error [] (scene (record s.node { manager = m }) s.outbox) h

    starts : (orb : ℕ) (s : Scene) → At P s → At Q (start orb request bytes s)
    unfolding start
    starts orb s h = starts_by (header_in request).source (management.start_step s.node.manager (header_in request).source orb) s h

    serves_as : (demand : Demand) (s : Scene) → At P s → At Q (served_as demand request bytes s)
    serves_as (demands.Refused rcode) s h = answers_at rcode [] s h
    serves_as (demands.Rom at len) s h = answers_at complete (take len (drop at s.node.rom)) s h
    serves_as (demands.Manage orb) s h = starts orb s h
    serves_as (demands.Agent place access) s h = accesses_by access place s h

    pub serves : (s : Scene) → At P s → At Q (serve request bytes s)
    unfolding serve
    serves s h = serves_as (demand_of (length s.node.rom) request) s h

    judges_if : (b : Bool) (x y : Judged) (s : Scene) → At P s → At Q (cond {A = Judged × Scene} b (x, answered request bytes address_error [] s) (y, serve request bytes s)).1
    judges_if true x y s h = answers_at address_error [] s h
    judges_if false x y s h = serves s h

    pub judges : (s : Scene) → At P s → At Q (request_step request bytes s).1
    unfolding request_step
    judges s h = judges_if (is_barred s.node request) (judged.Ignored ignored.Login) judged.Got s h
