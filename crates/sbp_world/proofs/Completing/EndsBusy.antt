-- While an operation is under way, a write of MANAGEMENT_AGENT that the target gets leaves it as it is, and is answered with conflict_error: that is all that the target hands out.
use Rattle.sbp_world.proofs.Words.Std.{arith, ◌≡◌, ◌∙◌, refl, sym, subst, ℕ, ◌+◌, ◌*◌, ◌/◌, ◌%◌, ◌^◌, false, cond, List, [], length, Option, Some, None}
use Rattle.sbp_world.proofs.Words.Wire.{Header, Packet, canon, empty_outbox, judging_step, of_request, rcode_of, response_to, three, write_block}
use Rattle.sbp_world.proofs.Words.Wire.{Judged, Layer, answering_step}
use Rattle.sbp_world.proofs.Words.Target.{Disk, Told, NodeState, Operation, Purpose, Scene, Whole, address_error, answer_step, answered, demand_of, is_barred, judged_scene, received, received_as, scene, serve, served_as, serving_step, start, started_by, whole}
use Rattle.mgmt_agent.specs.Machine as management
use Rattle.sbp_journal.specs.declared.cause.Cause.TheVariants as causes
use Rattle.sbp_journal.specs.declared.cause.Judged.TheVariants as judgements
use Rattle.target_base.specs.declared.address.Demand.TheVariants as demands
use Rattle.sbp_world.specs.Completing.Ends.{BusyRefuses, IsRefusal}
use Rattle.sbp_world.proofs.Common.{none_is}
use Rattle.sbp_world.proofs.Lists.ManageCodes.{rcode_three}

-- ---- the rcode of the response to a write
code_is : (node : ℕ) → (node * 2 ^ 16 + 4 * 2 ^ 12) % 256 ^ 4 / 2 ^ 12 % 2 ^ 4 ≡ 4
code_is node = omega arith

refusal_code : (node : ℕ) (header : Header) (offset : ℕ) (payload : List ℕ) → rcode_of (canon (response_to node (write_block header offset payload) 4 [])) ≡ 4
unfolding three
refusal_code node header offset payload = rcode_three (header.source * 2 ^ 16 + header.label * 2 ^ 10 + 1 * 2 ^ 8 + 2 * 2 ^ 4 + 0) (node * 2 ^ 16 + 4 * 2 ^ 12) 0 ∙ code_is node

-- ---- a write that is got
module _ (run : Option Told) (generation : ℕ) (bytes : List ℕ) (node : NodeState) (disks : List Disk) (header : Header) (offset : ℕ) (payload : List ℕ) (orb : ℕ) (own : Operation) (found : (judging_step node.layer generation bytes).0 ≡ of_request (write_block header offset payload)) (bar : is_barred node (write_block header offset payload) ≡ false) (demand : demand_of (length node.rom) (write_block header offset payload) ≡ demands.Manage orb) (busy : node.manager.operation ≡ Some own) where
  abbrev p : Packet
  p = write_block header offset payload

  abbrev layer : Layer Purpose
  layer = (judging_step node.layer generation bytes).1

  abbrev here : Scene
  here = scene (record node { layer = layer }) empty_outbox

  abbrev all : Whole
  all = whole here disks

  abbrev Is : Judged × Whole → Type 0
  Is r = IsRefusal node header r

  refusal : Is (judged_scene (judgements.Got, answered p bytes 4 [] (scene (record here.node { manager = node.manager }) here.outbox)) all)
  unfolding answer_step answering_step
  refusal = record {
    got = refl;
    sides = refl;
    packet = record { to = header.source; label = None; bytes = canon (response_to layer.node p 4 []) };
    packets = refl;
    to = refl;
    code = refusal_code layer.node header offset payload;
    manager = refl;
  }

  starts_none : (old : Option Operation) → old ≡ Some own → Is (judged_scene (judgements.Got, started_by header.source p bytes (management.start_with old node.manager header.source orb) here) all)
  starts_none None e = none_is own e
  starts_none (Some other) e = refusal

  start_refused : Is (judged_scene (judgements.Got, start orb p bytes here) all)
  unfolding start management.start_step
  start_refused = starts_none node.manager.operation busy

  serve_refused : Is (judged_scene (judgements.Got, serve p bytes here) all)
  unfolding serve
  serve_refused = subst (λ d. Is (judged_scene (judgements.Got, served_as d p bytes here) all)) (sym demand) start_refused

  request_refused : Is (judged_scene (serving_step p bytes here) all)
  unfolding serving_step is_barred
  request_refused = subst (λ b. Is (judged_scene (cond b (judgements.Ignored causes.Login, answered p bytes address_error [] here) (judgements.Got, serve p bytes here)) all)) (sym bar) serve_refused

  delivery_refused : Is (received run generation bytes (whole (scene node empty_outbox) disks))
  unfolding received
  delivery_refused = subst (λ f. Is (received_as run bytes f all)) (sym found) request_refused

pub busy_refuses : BusyRefuses
busy_refuses = record { refuses = λ run generation bytes node disks header w. delivery_refused run generation bytes node disks header w.offset w.payload w.orb w.own w.found w.heard w.asks w.busy }
