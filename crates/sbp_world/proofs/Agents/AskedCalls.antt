-- Each call of a target, and so every list of them, leaves all desks waiting for what left.
use Rattle.sbp_world.proofs.Words.Std.{arith, ◌≡◌, refl, sym, subst, ℕ, ◌<◌, ◌≤◌, nat_lt, true, false, List, [], ◌∷◌, length, Option, Some, None, Result, Ok, Err, nat_tests, get_or_past}
use Rattle.sbp_world.proofs.Words.Wire.{LabelParts, header_in, Stale, Finding, Layer, expiring_step, judging_step, of_again, of_generation, of_grammar, of_label, of_request, of_response, OutboxState}
use Rattle.sbp_world.proofs.Words.Target.{Login, Disk, Told, Desk, Purpose, Call, after, done, lets_expire, receives, sees, sets_key, ticks, new_desk, which_in, NodeState, Scene, desk_at, login_at, scene, answer_in, concluded, expire_agent, expired, expired_by, expired_in, new_node, received, received_as, timed_out, replied_by, replied_to, scene_of, whole, if_served}
use Rattle.sbp_world.proofs.Words.Initiator.{Answer, Expired}
use Rattle.sbp_world.proofs.Words.World.{AllAsk, AsksReally, CallsAskLaw, gathered}
use Rattle.label_table.proofs.Sources.{default_in}
use Rattle.sbp_target.specs.declared.purpose.Purpose.TheVariants as purposes
use Rattle.sbp_target.proofs.Histories.Calling.{Good}
use Rattle.sbp_target.proofs.Histories.Seats.{split}
use Rattle.sbp_target.proofs.Histories.Settled.{all_good, call_good, new_good}
use Rattle.sbp_world.proofs.Agents.AskedAccesses.{answered_fine}
use Rattle.sbp_world.proofs.Agents.AskedLate.{lates}
use Rattle.sbp_world.proofs.Agents.AskedManagement.{idle_asks, manage_fine}
use Rattle.sbp_world.proofs.Agents.AskedReplies as replies
use Rattle.sbp_world.proofs.Agents.AskedRequests as requests
use Rattle.sbp_world.proofs.Agents.AskedSights as sights
use Rattle.sbp_world.proofs.Agents.AskedTicks as seconds

abbrev All : Scene → Type 0
All s = AllAsk s.outbox.packets s.node

module _ (node : NodeState) (g : Good node) (outbox : OutboxState) (a : AllAsk outbox.packets node) where
  abbrev With : Layer Purpose → Scene
  With layer = scene (record node { layer = layer }) outbox

  same : (layer : Layer Purpose) → All (With layer)
  same layer = record { all = λ p login l e. a.all p login l e }

  -- a place of no login
  beyond : (place : ℕ) → nat_lt place 8 ≡ false → login_at node place ≡ None
  beyond place e =
      let size = g.table.sound.size in
      let past : 8 ≤ place = grind (arith, nat_tests) in
      get_or_past node.logins.places place None (omega arith)

  below : (place : ℕ) → nat_lt place 8 ≡ true → place < 8
  below place e = grind (arith, nat_tests)

  -- ---- a reply, and a time-out
  agent_replies : (layer : Layer Purpose) (told : Option Told) (answer : Answer) (disks : List Disk) (place peer : ℕ) (label : LabelParts) → All (scene_of (replied_to told place peer label answer (whole (With layer) disks)))
  unfolding replied_to
  agent_replies layer told answer disks place peer label =
      let which = which_in (desk_at node place) peer label in
      split (nat_lt place 8) (All (scene_of (replied_by told place answer (if_served (length node.units) (login_at node place)) which (whole (With layer) disks))))
      (λ e. (replies.replies node g outbox place (below place e) a layer told answer disks peer label).all)
      (λ e. subst (λ (l : Option Login). All (scene_of (replied_by told place answer (if_served (length node.units) l) which (whole (With layer) disks)))) (sym (beyond place e)) (same layer))

  agent_expires : (layer : Layer Purpose) (place peer : ℕ) (label : LabelParts) → All (expire_agent place peer label (With layer))
  unfolding expire_agent
  agent_expires layer place peer label =
      let which = which_in (desk_at node place) peer label in
      split (nat_lt place 8) (All (expired_by place (login_at node place) which (With layer)))
      (λ e. lates node g layer outbox place (below place e) a peer label)
      (λ e. subst (λ (l : Option Login). All (expired_by place l which (With layer))) (sym (beyond place e)) (same layer))

  concludes : (layer : Layer Purpose) (told : Option Told) (disks : List Disk) (purpose : Option Purpose) (peer : ℕ) (label : LabelParts) (answer : Answer) → All (scene_of (concluded told purpose peer label answer (whole (With layer) disks)))
  unfolding concluded
  concludes layer told disks None peer label answer = same layer
  concludes layer told disks (Some (purposes.Agent place)) peer label answer = agent_replies layer told answer disks place peer label
  concludes layer told disks (Some purposes.Management) peer label answer = (manage_fine node g layer outbox a answer).all
  concludes layer told disks (Some purposes.Unsolicited) peer label answer = record { all = λ p login l e. a.all p login l e }

  times_out : (layer : Layer Purpose) (purpose : Option Purpose) (peer : ℕ) (label : LabelParts) → All (timed_out purpose peer label (With layer))
  times_out layer None peer label = same layer
  times_out layer (Some (purposes.Agent place)) peer label = agent_expires layer place peer label
  times_out layer (Some purposes.Management) peer label = (manage_fine node g layer outbox a Expired).all
  times_out layer (Some purposes.Unsolicited) peer label = same layer

  expires_in : (r : Result (Option Purpose) Stale × Layer Purpose) (peer : ℕ) (label : LabelParts) → All (expired_in r peer label (scene node outbox)).1
  expires_in (Ok purpose, layer) peer label = times_out layer purpose peer label
  expires_in (Err stale, layer) peer label = same layer

  -- ---- a delivery
  receives_as : (layer : Layer Purpose) (told : Option Told) (disks : List Disk) (bytes : List ℕ) (found : Finding Purpose) → All (scene_of (received_as told bytes found (whole (With layer) disks)).1)
  receives_as layer told disks bytes of_generation = same layer
  receives_as layer told disks bytes of_grammar = same layer
  receives_as layer told disks bytes of_label = same layer
  receives_as layer told disks bytes (of_response p label purpose) = concludes layer told disks purpose (header_in p).source label (answer_in p)
  receives_as layer told disks bytes (of_again p rcode) = (answered_fine p bytes rcode [] (With layer) (record { desks = g.mid.size; all = same layer })).all
  receives_as layer told disks bytes (of_request p) = (requests.requests node g layer outbox a p bytes).all

  receives_all : (told : Option Told) (disks : List Disk) (generation : ℕ) (bytes : List ℕ) → All (scene_of (received told generation bytes (whole (scene node outbox) disks)).1)
  unfolding received
  receives_all told disks generation bytes =
      let found = judging_step node.layer generation bytes in receives_as found.1 told disks bytes found.0

  expires_all : (peer : ℕ) (label : LabelParts) → All (expired peer label (scene node outbox)).1
  unfolding expired
  expires_all peer label = expires_in (expiring_step node.layer peer label) peer label

call_asks : (call : Call) (s : Scene) → Good s.node → All s → All (done call s)
call_asks (receives told disks generation bytes) s g a = receives_all s.node g s.outbox a told disks generation bytes
call_asks (lets_expire peer label) s g a = expires_all s.node g s.outbox a peer label
call_asks (sees generation id) s g a = sights.sights s.node g.mid.size s.outbox a generation id
call_asks ticks s g a = seconds.ticks s.node s.outbox a
call_asks (sets_key unit key) s g a = sights.keys s.node g.mid.size s.outbox a unit key

-- ---- one call after the other
new_asks : (units ready : ℕ) → AllAsk [] (new_node units ready)
new_asks units ready = record {
  all = λ p login l e.
      let at : desk_at (new_node units ready) p ≡ new_desk = default_in 8 p new_desk in
      subst (λ (d : Desk). AsksReally [] login.fifo d) (sym at) (idle_asks [] login.fifo new_desk refl refl);
}

gathered_good : (units ready : ℕ) (calls : List Call) → 0 < units → Good (gathered units ready calls).node
gathered_good units ready [] has = new_good units ready has
gathered_good units ready (call ∷ calls) has = call_good call (gathered units ready calls) (gathered_good units ready calls has)

gathered_asks : (units ready : ℕ) (calls : List Call) → 0 < units → All (gathered units ready calls)
gathered_asks units ready [] has = new_asks units ready
gathered_asks units ready (call ∷ calls) has = call_asks call (gathered units ready calls) (gathered_good units ready calls has) (gathered_asks units ready calls has)

pub calls_law : CallsAskLaw
calls_law units ready calls has = record {
  each = λ call outbox a. call_asks call (scene (after units ready calls) outbox) (all_good units ready calls has) a;
  all = gathered_asks units ready calls has;
}
