-- Each call of a target leaves the units, with what their media hold, as what it tells makes of their terms.
use Rattle.sbp_world.proofs.Words.Std.{◌≡◌, refl, ℕ, Bool, true, false, List, [], length, Option, Some, None, Result, Ok, Err}
use Rattle.sbp_world.proofs.Words.Wire.{LabelParts, header_in, Stale, Finding, Layer, of_again, of_generation, of_grammar, of_label, of_request, of_response, expiring_step, judging_step, seeing_step, Judged, Side, empty_outbox}
use Rattle.sbp_world.proofs.Words.Target.{Login, IsSound, Table, tick_step, Disk, Told, PlainDisk, Purpose, alone, lets_expire, sees, ticks, NodeState, Scene, scene, answer_in, cleared_node, concluded, expired, expired_in, judged_scene, received, received_as, reset_by, seen, ticked, ticked_by, timed_out, scene_of, whole, answered, cut_all}
use Rattle.sbp_world.proofs.Words.Initiator.{Answer, Expired}
use Rattle.sbp_journal.specs.declared.cause.CutCause.TheVariants as cuts
use Rattle.sbp_target.specs.declared.purpose.Purpose.TheVariants as purposes
use Rattle.sbp_target.specs.Serving.{request_step}
use Rattle.sbp_target.proofs.Histories.Calling.{Good}
use Rattle.sbp_world.proofs.Agents.UnitsCleared.{manage_leaves}
use Rattle.sbp_world.proofs.Agents.UnitsKept.{In, Keeps, answers, cuts_all, expires_agent, holds_tell, keeps_cuts, request_tells, seconds_tell}
use Rattle.sbp_world.proofs.Agents.UnitsRun.{Leaves, Match, in_leaves, live_login, makes_keeps, nothing_makes, reply_leaves}
use Rattle.sbp_world.proofs.Agents.UnitsTold.{AllSpare, Makes, spare_more}

module _ (node : NodeState) (g : Good node) (terms : List PlainDisk) (disks : List Disk) (m : Match terms node.units disks) where
  abbrev places : List (Option Login)
  places = node.logins.places

  abbrev layered : Layer Purpose → NodeState
  layered layer = record node { layer = layer }

  sound : IsSound node.logins.places
  sound = g.table.sound

  abbrev P : List Side → Type 0
  P told = Makes places terms terms told

  k : Keeps P
  k = makes_keeps places terms terms

  begun : (layer : Layer Purpose) → In P node.units node.logins (scene (layered layer) empty_outbox)
  begun layer = record { told = nothing_makes places terms; units_are = refl; logins = refl }

  spared : (s : Scene) → In P node.units node.logins s → Leaves places terms s disks
  spared s i = in_leaves places terms terms node.units node.logins s disks m i

  still : (layer : Layer Purpose) → Leaves places terms (scene (layered layer) empty_outbox) disks
  still layer = spared (scene (layered layer) empty_outbox) (begun layer)

  -- ---- a packet is delivered
  concluded_leaves : (told : Option Told) (purpose : Option Purpose) (peer : ℕ) (label : LabelParts) (answer : Answer) (layer : Layer Purpose) → (let w = concluded told purpose peer label answer (whole (scene (layered layer) empty_outbox) disks) in Leaves places terms (scene_of w) w.disks)
  unfolding concluded
  concluded_leaves told None peer label answer layer = still layer
  concluded_leaves told (Some (purposes.Agent place)) peer label answer layer =
      reply_leaves (layered layer) sound g.mid.size terms disks m (λ p inside plain run which reply outcome ran. live_login node g p inside plain run which reply outcome ran) told place peer label answer
  concluded_leaves told (Some purposes.Management) peer label answer layer = manage_leaves (layered layer) sound terms disks m answer
  concluded_leaves told (Some purposes.Unsolicited) peer label answer layer =
      spared _ (record { told = nothing_makes places terms; units_are = refl; logins = refl })

  judged_leaves : (r : Judged × Scene) (layer : Layer Purpose) → Leaves places terms r.1 disks → (let w = (judged_scene r (whole (scene (layered layer) empty_outbox) disks)).1 in Leaves places terms (scene_of w) w.disks)
  judged_leaves (judged, s) layer l = l

  found_leaves : (told : Option Told) (bytes : List ℕ) (found : Finding Purpose) (layer : Layer Purpose) → (let w = (received_as told bytes found (whole (scene (layered layer) empty_outbox) disks)).1 in Leaves places terms (scene_of w) w.disks)
  found_leaves told bytes of_generation layer = still layer
  found_leaves told bytes of_grammar layer = still layer
  found_leaves told bytes of_label layer = still layer
  found_leaves told bytes (of_response p label purpose) layer = concluded_leaves told purpose (header_in p).source label (answer_in p) layer
  found_leaves told bytes (of_again p rcode) layer =
      spared (answered p bytes rcode [] (scene (layered layer) empty_outbox)) (answers P node.units node.logins p bytes rcode [] (scene (layered layer) empty_outbox) (begun layer))
  found_leaves told bytes (of_request p) layer =
      let s = scene (layered layer) empty_outbox in
      judged_leaves (request_step p bytes s) layer (spared (request_step p bytes s).1 (request_tells P node.units node.logins k p bytes s (begun layer)))

  pub delivery_leaves : (told : Option Told) (generation : ℕ) (bytes : List ℕ) → (let w = (received told generation bytes (whole (scene node empty_outbox) disks)).1 in Leaves node.logins.places terms (scene_of w) w.disks)
  unfolding received
  delivery_leaves told generation bytes =
      let r = judging_step node.layer generation bytes in found_leaves told bytes r.0 r.1

  -- ---- a transaction times out
  lapse_for : (purpose : Option Purpose) (peer : ℕ) (label : LabelParts) (layer : Layer Purpose) → Leaves places terms (timed_out purpose peer label (scene (layered layer) empty_outbox)) disks
  lapse_for None peer label layer = still layer
  lapse_for (Some (purposes.Agent place)) peer label layer =
      spared _ (expires_agent P node.units node.logins k place peer label (scene (layered layer) empty_outbox) (begun layer))
  lapse_for (Some purposes.Management) peer label layer = manage_leaves (layered layer) sound terms disks m Expired
  lapse_for (Some purposes.Unsolicited) peer label layer = still layer

  lapse_by : (r : Result (Option Purpose) Stale × Layer Purpose) (peer : ℕ) (label : LabelParts) → Leaves places terms (expired_in r peer label (scene node empty_outbox)).1 disks
  lapse_by (Ok purpose, layer) peer label = lapse_for purpose peer label layer
  lapse_by (Err stale, layer) peer label = still layer

  pub lapse_leaves : (peer : ℕ) (label : LabelParts) → Leaves node.logins.places terms (alone (lets_expire peer label) node) disks
  unfolding expired
  lapse_leaves peer label = lapse_by (expiring_step node.layer peer label) peer label

-- ---- a generation is seen, and a second passes: nothing is told of a unit, and none changes
pub record Spare (node : NodeState) (s : Scene) : Type 0 where
  pub told : AllSpare s.outbox.sides
  pub units : s.node.units ≡ node.units

spare_keeps : Keeps AllSpare
spare_keeps = record { tells = λ told side f h. spare_more told side h f }

sight_by : (node : NodeState) (r : Bool × Layer Purpose) → Spare node (reset_by r (scene node empty_outbox)).1
sight_by node (false, layer) = record { told = tt; units = refl }
sight_by node (true, layer) =
    let first = scene (cleared_node layer node) empty_outbox in
    let t = cut_all cuts.Reset None first in
    let i = cuts_all AllSpare node.units node.logins (keeps_cuts AllSpare spare_keeps) cuts.Reset None first (record { told = tt; units_are = refl; logins = refl }) in
    record { told = holds_tell AllSpare node.units node.logins spare_keeps 8 0 t.node.logins.places t.outbox i.told; units = i.units_are }

pub sight_spares : (node : NodeState) (generation id : ℕ) → Spare node (alone (sees generation id) node)
unfolding seen
sight_spares node generation id = sight_by node (seeing_step node.layer generation id)

second_by : (node : NodeState) (r : List ℕ × Table) → Spare node (ticked_by r (scene node empty_outbox))
second_by node (logins, table) =
    record { told = seconds_tell AllSpare node.units node.logins spare_keeps (length logins) 0 logins empty_outbox tt; units = refl }

pub second_spares : (node : NodeState) → Spare node (alone ticks node)
unfolding ticked
second_spares node = second_by node (tick_step node.logins)
