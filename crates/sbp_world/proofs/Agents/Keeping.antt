-- Each call of a target changes its agents as its notes do.
use Rattle.sbp_world.proofs.Words.Std.{◌≡◌, ◌∙◌, refl, sym, ap, subst, ℕ, ◌==◌, nat_lt, is_some, Bool, true, false, cond, List, [], ◌∷◌, length, Option, Some, None, Result, Ok, Err}
use Rattle.sbp_world.proofs.Words.Wire.{LabelParts, Packet, header_in, lock, lock_response, read_block, read_block_response, read_quadlet, read_quadlet_response, write_block, write_quadlet, write_response, ReplyKind, Stale, under_way, Finding, Layer, of_again, of_generation, of_grammar, of_label, of_request, of_response, expiring_step, judging_step, reply_kind, Judged, empty_outbox}
use Rattle.sbp_world.proofs.Words.Target.{Disk, Told, demand_of, Purpose, after, alone, lets_expire, receives, sees, sets_key, ticks, NodeState, Scene, scene, TellsIn, answer_in, concluded, expire_agent, expired, expired_in, judged_scene, received, received_as, timed_out, with_layer, Whole, replied_to, whole, answered, is_barred, serve, source_in, Sent}
use Rattle.sbp_world.proofs.Words.Initiator.{Answer, Expired, Refused}
use Rattle.sbp_world.proofs.Words.Laws.{Agent}
use Rattle.sbp_world.proofs.Words.World.{Agrees, Office, AgentsLaw, AreOf, Request, ToldAlike}
use Rattle.label_table.specs.History as wire
use Rattle.sbp_journal.specs.declared.cause.Judged.TheVariants as judgements
use Rattle.sbp_journal.specs.declared.cause.Cause.TheVariants as ignored
use Rattle.sbp_target.specs.declared.purpose.Purpose.TheVariants as purposes
use Rattle.sbp_target.specs.Serving.{request_step}
use Rattle.sbp_target.proofs.Histories.Calling.{Good, peer_of}
use Rattle.sbp_target.proofs.Histories.Rested.{some_that}
use Rattle.sbp_world.proofs.Agents.Managed.{managed_behind}
use Rattle.sbp_target.proofs.Histories.Found.{IsFound, found}
use Rattle.sbp_target.proofs.Histories.Primitives.{Known, closing_known, expiring_known, live_on}
use Rattle.sbp_target.proofs.Histories.Seats.{Lives}
use Rattle.sbp_target.proofs.Histories.Settled.{all_good, reaches}
use Rattle.sbp_world.specs.Agents.Management.Offices as office
use Rattle.sbp_world.specs.Agents.Management.Calls as management
use Rattle.sbp_world.proofs.Agents.Management.Calls.{barred_same, forgets_if, from_self}
use Rattle.sbp_world.proofs.Agents.Management.Calm.{Calm, From, expires_agent, replies}
use Rattle.sbp_world.specs.Agents.Calls.{delivered, lapsed, requested}
use Rattle.sbp_world.proofs.Agents.Calls.{Behind, behind_follow, lapses_behind, replies_behind}
use Rattle.sbp_world.proofs.Agents.Mild.{IsGiven}
use Rattle.sbp_world.proofs.Agents.Serves.{answer_behind, call_behind, demand_behind, second_behind, sight_behind}

-- what a response says is an answer that was given
given_by : (b : Bool) (rcode : ℕ) (answer : Answer) → IsGiven answer → IsGiven (cond b answer (Refused rcode))
given_by true rcode answer g = g
given_by false rcode answer g = tt

pub given_in : (p : Packet) → IsGiven (answer_in p)
given_in (read_quadlet_response header rcode value) = given_by (rcode == 0) rcode _ tt
given_in (read_block_response header rcode payload) = given_by (rcode == 0) rcode _ tt
given_in (write_response header rcode) = given_by (rcode == 0) rcode _ tt
given_in (lock_response header rcode extended payload) = given_by (rcode == 0) rcode _ tt
given_in (write_quadlet header offset value) = tt
given_in (write_block header offset payload) = tt
given_in (read_quadlet header offset) = tt
given_in (read_block header offset asked) = tt
given_in (lock header offset extended payload) = tt

module _ {requests : List Request} (node : NodeState) (g : Good node) (o : Office) (a : Agrees o node) (agents : List Agent) (is : AreOf requests agents node) where
  from_same : (layer : Layer Purpose) → layer ≡ node.layer → From g.lives layer
  from_same layer same = from_self layer g.lives (subst (λ (l : Layer Purpose). Known l g.lives) (sym same) g.mid.known)

  calm_of : (layer : Layer Purpose) (lives : Lives) → Known layer lives → Calm lives node (scene (record node { layer = layer }) empty_outbox)
  calm_of layer lives k = record { logins = refl; keys = refl; manager = refl; rom = refl; quiet = tt; from = from_self layer lives k }

  still : (layer : Layer Purpose) (first : Office) → Behind requests first agents (scene (record node { layer = layer }) empty_outbox)
  still layer first = call_behind node g agents is first (scene (record node { layer = layer }) empty_outbox) refl tt

  -- the operation is that of the node that its request went to
  source_of : (peer : ℕ) (label : LabelParts) (kind : ReplyKind) → g.lives peer label ≡ under_way kind (Some purposes.Management) → source_in node.manager.operation ≡ Some peer
  source_of peer label kind e = g.source ∙ ap (λ (x : Option Sent). peer_of x) (some_that g.request peer label (g.mid.hand.own peer label kind e))

  abbrev Does : Office → List Agent → Judged × Whole → Type 0
  Does first now (judged, w) = Behind requests first now (scene w.node w.outbox)

  module _ (ta tm : Option Told) (v : Bool) (t : ToldAlike v ta tm) (disks : List Disk) (generation : ℕ) (bytes before now : List ℕ) where
    -- a response
    concluded_does : (layer : Layer Purpose) (lives : Lives) (k : Known layer lives) (p : Packet) (label : LabelParts) (kind : ReplyKind) (purpose : Option Purpose) → g.lives (header_in p).source label ≡ under_way kind purpose → TellsIn tm (of_response p label purpose) (with_layer layer (whole (scene node empty_outbox) disks)) before now → (let w = concluded tm purpose (header_in p).source label (answer_in p) (whole (scene (record node { layer = layer }) empty_outbox) disks) in Behind requests (management.delivered (of_response p label purpose) node o) (delivered ta v (of_response p label purpose) node disks o agents) (scene w.node w.outbox))
    unfolding concluded replied_to
    concluded_does layer lives k p label kind None e tells = still layer o
    concluded_does layer lives k p label kind (Some (purposes.Agent place)) e tells =
        replies_behind node g agents is o layer place (header_in p).source label kind e ta tm v t (answer_in p) (given_in p) disks before now tells
        (replies lives node tm place (header_in p).source label (answer_in p) (whole (scene (record node { layer = layer }) empty_outbox) disks) (calm_of layer lives k)).quiet
    concluded_does layer lives k p label kind (Some purposes.Management) e tells =
        managed_behind node g agents is layer lives k o a (header_in p).source (answer_in p) (source_of (header_in p).source label kind e)
    concluded_does layer lives k p label kind (Some purposes.Unsolicited) e tells = call_behind node g agents is o _ refl tt

    response_does : (p : Packet) (label : LabelParts) (purpose : Option Purpose) (layer : Layer Purpose) → judging_step node.layer generation bytes ≡ (of_response p label purpose, layer) → is_some (reply_kind p) ≡ true → TellsIn tm (of_response p label purpose) (with_layer layer (whole (scene node empty_outbox) disks)) before now → (let w = concluded tm purpose (header_in p).source label (answer_in p) (whole (scene (record node { layer = layer }) empty_outbox) disks) in Behind requests (management.delivered (of_response p label purpose) node o) (delivered ta v (of_response p label purpose) node disks o agents) (scene w.node w.outbox))
    response_does p label purpose layer e kind tells =
        let c = closing_known node.layer layer g.lives generation bytes p label purpose g.mid.known e kind in
        concluded_does layer (live_on (wire.closed (header_in p).source label c.kind purpose) g.lives) c.known p label c.kind purpose c.life tells

    -- a request
    module _ (p : Packet) (layer : Layer Purpose) (same : layer ≡ node.layer) where
      abbrev asked_scene : Scene
      asked_scene = scene (record node { layer = layer }) empty_outbox

      request_if : (b : Bool) (first : Office) (x y : Judged) → is_barred node p ≡ b → Behind requests first (requested b p node agents) (cond {A = Judged × Scene} b (x, answered p bytes 7 [] asked_scene) (y, serve p bytes asked_scene)).1
      unfolding serve
      request_if true first x y e = answer_behind node g agents is first layer (from_same layer same) p bytes 7 []
      request_if false first x y e =
          demand_behind node g agents is first layer (from_same layer same) p bytes (demand_of (length node.rom) p)
          (λ place access d. let r = reaches node g p place access e d in (r.small, r.served))

      request_does : (first : Office) → Behind requests first (requested (is_barred node p) p node agents) (request_step p bytes asked_scene).1
      unfolding request_step
      request_does first =
          subst (λ (b : Bool). Behind requests first (requested (is_barred node p) p node agents) (cond {A = Judged × Scene} b (judgements.Ignored ignored.Login, answered p bytes 7 [] asked_scene) (judgements.Got, serve p bytes asked_scene)).1) (sym (barred_same node g o a p bytes layer same))
          (request_if (is_barred node p) first (judgements.Ignored ignored.Login) judgements.Got refl)

    as_judged : (first : Office) (later : List Agent) (r : Judged × Scene) (w : Whole) → Behind requests first later r.1 → Does first later (judged_scene r w)
    as_judged first later (judged, s) w d = record { all = d.all }

    found_does : (f : Finding Purpose) (layer : Layer Purpose) → judging_step node.layer generation bytes ≡ (f, layer) → IsFound f node.layer layer bytes → TellsIn tm f (with_layer layer (whole (scene node empty_outbox) disks)) before now → Does (management.delivered f node o) (delivered ta v f node disks o agents) (received_as tm bytes f (with_layer layer (whole (scene node empty_outbox) disks)))
    found_does of_generation layer e f tells = still layer o
    found_does of_grammar layer e f tells = still layer o
    found_does of_label layer e f tells = still layer o
    found_does (of_response p label None) layer e f tells = response_does p label None layer e f.kind tells
    found_does (of_response p label (Some (purposes.Agent place))) layer e f tells = response_does p label (Some (purposes.Agent place)) layer e f.kind tells
    found_does (of_response p label (Some purposes.Management)) layer e f tells = response_does p label (Some purposes.Management) layer e f.kind tells
    found_does (of_response p label (Some purposes.Unsolicited)) layer e f tells = response_does p label (Some purposes.Unsolicited) layer e f.kind tells
    found_does (of_again p rcode) layer e f tells = answer_behind node g agents is o layer (from_same layer f.0) p bytes rcode []
    found_does (of_request p) layer e f tells =
        as_judged (management.delivered (of_request p) node o) (requested (is_barred node p) p node agents) (request_step p bytes (scene (record node { layer = layer }) empty_outbox)) (with_layer layer (whole (scene node empty_outbox) disks))
        (request_does p layer f.0 (management.delivered (of_request p) node o))

    pub delivery_does : (let found = judging_step node.layer generation bytes in TellsIn tm found.0 (with_layer found.1 (whole (scene node empty_outbox) disks)) before now → Does (management.delivered found.0 node o) (delivered ta v found.0 node disks o agents) (received tm generation bytes (whole (scene node empty_outbox) disks)))
    unfolding received
    delivery_does tells =
        found_does (judging_step node.layer generation bytes).0 (judging_step node.layer generation bytes).1 refl (found node.layer generation bytes) tells

  -- ---- a time-out
  lapses_for : (peer : ℕ) (label : LabelParts) (kind : ReplyKind) (layer : Layer Purpose) (lives : Lives) (k : Known layer lives) (purpose : Option Purpose) → g.lives peer label ≡ under_way kind purpose → Behind requests (management.lapsed (Ok purpose) o) (lapsed (Ok purpose) peer label node o agents) (timed_out purpose peer label (scene (record node { layer = layer }) empty_outbox))
  unfolding expire_agent
  lapses_for peer label kind layer lives k None e = still layer o
  lapses_for peer label kind layer lives k (Some (purposes.Agent place)) e =
      lapses_behind node g agents is o layer place peer label kind e
      (expires_agent lives node place peer label (scene (record node { layer = layer }) empty_outbox) (calm_of layer lives k)).quiet
  lapses_for peer label kind layer lives k (Some purposes.Management) e = managed_behind node g agents is layer lives k o a peer Expired (source_of peer label kind e)
  lapses_for peer label kind layer lives k (Some purposes.Unsolicited) e = still layer o

  lapses_by : (r : Result (Option Purpose) Stale × Layer Purpose) (peer : ℕ) (label : LabelParts) → expiring_step node.layer peer label ≡ r → Behind requests (management.lapsed r.0 o) (lapsed r.0 peer label node o agents) (expired_in r peer label (scene node empty_outbox)).1
  lapses_by (Ok purpose, layer) peer label e =
      let x = expiring_known node.layer layer g.lives peer label purpose g.mid.known e in
      lapses_for peer label x.kind layer (live_on (wire.expired peer label purpose) g.lives) x.known purpose x.life
  lapses_by (Err stale, layer) peer label e = still layer o

  pub lapse_does : (peer : ℕ) (label : LabelParts) → Behind requests (management.lapsed (expiring_step node.layer peer label).0 o) (lapsed (expiring_step node.layer peer label).0 peer label node o agents) (expired peer label (scene node empty_outbox)).1
  unfolding expired
  lapse_does peer label = lapses_by (expiring_step node.layer peer label) peer label refl

-- ---- the law
pub agents_law : AgentsLaw
agents_law units ready calls requests o agents h a is =
    let node = after units ready calls in
    let g = all_good units ready calls h in
    record {
      deliveries = λ ta tm v disks generation bytes before now t tells.
          behind_follow _ _ _ (all_good units ready (receives tm disks generation bytes ∷ calls) h) (delivery_does node g o a agents is ta tm v t disks generation bytes before now tells);
      expiries = λ peer label. behind_follow _ _ _ (all_good units ready (lets_expire peer label ∷ calls) h) (lapse_does node g o a agents is peer label);
      sights = λ generation id.
          behind_follow _ _ _ (all_good units ready (sees generation id ∷ calls) h) (sight_behind node g agents is _ generation id (forgets_if node g generation id (nat_lt node.layer.generation generation) refl));
      seconds = behind_follow _ _ _ (all_good units ready (ticks ∷ calls) h) (second_behind node g agents is _);
      keys = λ unit key.
          let s = alone (sets_key unit key) node in
          behind_follow (office.with_key unit key o) agents s (all_good units ready (sets_key unit key ∷ calls) h) (call_behind node g agents is (office.with_key unit key o) s refl tt);
    }
