-- Each delivery to a target is counted, by what the packet was found to be.
use Rattle.std.proofs.Common.{arith, ◌≡◌, refl, ℕ, ◌<◌, List, [], length, Option, Some, None}
use Rattle.async_packet.specs.Labels.{LabelParts}
use Rattle.async_packet.specs.Packet.{Packet, header_in}
use Rattle.label_table.specs.Layer.{Finding, judging_step, of_again, of_generation, of_grammar, of_label, of_request, of_response}
use Rattle.rbc_disk.specs.Disk.{Disk}
use Rattle.rbc_disk.specs.Runs.{Told}
use Rattle.command_agent.specs.Machine as machines
use Rattle.sbp_journal.specs.declared.cause.Judged.{Judged}
use Rattle.sbp_journal.specs.Outgoings.{empty_outbox}
use Rattle.sbp_target.specs.declared.purpose.Purpose.{Purpose}
use Rattle.sbp_target.specs.declared.purpose.Purpose.TheVariants as purposes
use Rattle.sbp_target.specs.Nodes.{NodeState, Scene, scene, desk_at}
use Rattle.sbp_target.specs.Receiving.{TellsIn, answer_in, concluded, judged_scene, received, received_as, settled}
use Rattle.sbp_target.specs.Replies.{Whole, scene_of}
use Rattle.sbp_target.specs.RequestsLeft.{BringsIn, CountsRequests, DeliveriesAreCounted, bare, found_due}
use Rattle.sbp_target.specs.Serving.{request_step}
use Rattle.sbp_target.proofs.Requests.Easing.{NoneBegins, beside, none_counts, same_scene}
use Rattle.sbp_target.proofs.Requests.Management.{manages}
use Rattle.sbp_target.proofs.Requests.Registers.{answers, requests_count}
use Rattle.sbp_target.proofs.Requests.Replies.{replies_count}
use Rattle.sbp_target.proofs.Requests.Telling.{silent}

module _ (tables chunks : ℕ → ℕ) (told : Option Told) (disks : List Disk) (bytes before now : List ℕ) (node : NodeState) (size : length node.desks ≡ 8) (sound : (place : ℕ) → place < 8 → machines.IsSound (desk_at node place).agent) where
  quiet : (s : Scene) → NoneBegins tables chunks 0 (scene node empty_outbox) s → CountsRequests tables chunks 0 node s
  quiet s f = none_counts tables chunks 0 (scene node empty_outbox) s (λ p. refl) refl f

  idle : CountsRequests tables chunks 0 node (scene node empty_outbox)
  idle = let s = scene node empty_outbox in quiet s (same_scene tables chunks s size)

  -- what a response brings
  abbrev concluded_scene : Packet → LabelParts → Option Purpose → Scene
  concluded_scene p label purpose = scene_of (concluded told purpose (header_in p).source label (answer_in p) (bare node disks))

  concludes : (p : Packet) (label : LabelParts) (purpose : Option Purpose) → TellsIn told (of_response p label purpose) (bare node disks) before now → BringsIn tables chunks (of_response p label purpose) node
      → CountsRequests tables chunks 0 node (concluded_scene p label purpose)
  unfolding concluded
  concludes p label None tells brings = idle
  concludes p label (Some (purposes.Agent place)) tells brings = replies_count tables chunks node size disks sound told p label place before now tells (λ own served which. brings p label place own refl served which)
  concludes p label (Some purposes.Management) tells brings = let s = scene node empty_outbox in quiet _ (manages tables chunks (answer_in p) s size)
  concludes p label (Some purposes.Unsolicited) tells brings =
      let s = scene node empty_outbox in quiet _ (beside tables chunks s (scene (settled (header_in p).source node) empty_outbox) 0 size refl (omega arith) (silent empty_outbox))

  as_judged : (due : ℕ) (r : Judged × Scene) (w : Whole) → CountsRequests tables chunks due node r.1 → CountsRequests tables chunks due node (scene_of (judged_scene r w).1)
  as_judged due (judged, s) w c = c

  finds : (found : Finding Purpose) → TellsIn told found (bare node disks) before now → BringsIn tables chunks found node → CountsRequests tables chunks (found_due (length node.rom) found) node (scene_of (received_as told bytes found (bare node disks)).1)
  finds of_generation tells brings = idle
  finds of_grammar tells brings = idle
  finds of_label tells brings = idle
  finds (of_response p label purpose) tells brings = concludes p label purpose tells brings
  finds (of_again p rcode) tells brings = quiet _ (answers tables chunks p bytes rcode [] (scene node empty_outbox) size)
  finds (of_request p) tells brings = as_judged _ (request_step p bytes (scene node empty_outbox)) (bare node disks) (requests_count tables chunks p bytes node size)

pub deliveries_are_counted : DeliveriesAreCounted
unfolding received
deliveries_are_counted tables chunks told disks generation bytes node before now d =
    let found = judging_step node.layer generation bytes in
    let turned = record node { layer = found.1 } in
    let c = finds tables chunks told disks bytes before now turned d.desks d.agents found.0 d.tells d.brings in
    record { sent = c.sent; ended = c.ended; stopped = c.stopped }
