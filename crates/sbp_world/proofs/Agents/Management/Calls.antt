-- Each call of a target changes its management as its notes do.
use Rattle.sbp_world.proofs.Words.Std.{slice_set, ◌≡◌, ◌∙◌, refl, sym, ap, subst, ℕ, nat_lt, is_some, not, ◌&&◌, Bool, true, false, cond, List, [], length, Option, Some, None, Result, Ok, Err}
use Rattle.sbp_world.proofs.Words.Wire.{LabelParts, Packet, header_in, ReplyKind, Stale, Life, ended, not_begun, over, under_way, Finding, Layer, of_again, of_generation, of_grammar, of_label, of_request, of_response, expiring_step, judging_step, seeing_step, seen_in_generation, reply_kind, Judged, Outgoing, empty_outbox}
use Rattle.sbp_world.proofs.Words.Target.{IsSound, Table, Operation, Disk, Told, Demand, Purpose, AgentRegister, demand_of, is_lock, offset_in, register_at, manage, NodeState, Scene, scene, answer_in, concluded, expired, expired_in, judged_scene, received, received_as, timed_out, with_layer, Sent, sent_to, is_sent_as, Whole, whole, is_barred_at, answered, is_barred, serve, served_as, start, target_started, after}
use Rattle.sbp_world.proofs.Words.Initiator.{Answer, Expired}
use Rattle.sbp_world.proofs.Words.World.{CallsKeep, ManagementLaw, demanded, lapsed, requested, Agrees, Office, replied, started, started_by}
use Rattle.label_table.specs.History.{is_same}
use Rattle.label_table.specs.History as wire
use Rattle.mgmt_agent.specs.Machine as management
use Rattle.sbp_journal.specs.declared.cause.Cause.TheVariants as ignored
use Rattle.sbp_journal.specs.declared.cause.Judged.TheVariants as judgements
use Rattle.target_base.specs.declared.address.Demand.TheVariants as demands
use Rattle.sbp_target.specs.declared.purpose.Purpose.TheVariants as purposes
use Rattle.sbp_target.specs.Serving.{request_step}
use Rattle.sbp_target.proofs.Histories.Calling.{Good, peer_of}
use Rattle.sbp_target.proofs.Histories.Found.{IsFound, found}
use Rattle.sbp_target.proofs.Histories.Primitives.{Known, closing_known, expiring_known, live_on, seeing_known, stale_known}
use Rattle.sbp_target.proofs.Histories.Rested.{some_that}
use Rattle.sbp_target.proofs.Histories.Seats.{Lives, sent_is, sent_self}
use Rattle.sbp_target.proofs.Histories.Settled.{all_good}
use Rattle.sbp_world.specs.Agents.Management.Calls.{Follows, delivered}
use Rattle.sbp_world.proofs.Agents.Management.Asking.{Turned, manage_rom, replied_turn, start_rcode, start_rom, started_turn}
use Rattle.sbp_world.proofs.Agents.Management.Calm.{Calm, ForManager, From, accesses_by, answers, expires_agent, replies}
use Rattle.sbp_world.proofs.Agents.Management.Managing.{quiet_says}
use Rattle.sbp_world.proofs.Agents.Management.Resting.{Rested, second_rests, sight_rests}

-- ---- what was done follows an office
calm_follows : (o : Office) (old : Lives) (node : NodeState) (s : Scene) → Agrees o node → Calm old node s → Follows o s
calm_follows o old node s a c =
    subst (λ x. Agrees x s.node) (sym (quiet_says s.outbox.sides o c.quiet).is)
    (record { table = a.table ∙ sym c.logins; keys = a.keys ∙ sym c.keys; manager = a.manager ∙ sym c.manager })

pub turned_follows : {first : Office} {old : Lives} {source : ℕ} {before : List Outgoing} (s : Scene) → Turned first old source before s → Follows first s
turned_follows s t = subst (λ x. Agrees x s.node) (sym t.says.is) t.agrees

rested_follows : {rom : List ℕ} {first : Office} (s : Scene) → Rested rom first s → Follows first s
rested_follows s t = subst (λ x. Agrees x s.node) (sym t.says.is) t.agrees

-- ---- what a call does: the management stands as it did, or the operation has a turn before which no transaction is for it
pub data Doing (Quiet : Type 0) (May : ℕ → List Outgoing → Type 0) (node : NodeState) (lives : Lives) (o first : Office) (s : Scene) : Type 0 where
  calmly : Quiet → first ≡ o → Calm lives node s → Doing Quiet May node lives o first s
  managing : (source : ℕ) (before : List Outgoing) (old : Lives) → May source before → ((p : ℕ) (l : LabelParts) (kind : ReplyKind) → ForManager old p l kind → ⊥) → Turned first old source before s → s.node.rom ≡ node.rom → Doing Quiet May node lives o first s

pub doing_follows : {Quiet : Type 0} {May : ℕ → List Outgoing → Type 0} {node : NodeState} {lives : Lives} {o first : Office} (s : Scene) → Agrees o node → Doing Quiet May node lives o first s → Follows first s
doing_follows {Quiet} {May} {node} {lives} {o} {first} s a (calmly q e c) = subst (λ x. Follows x s) (sym e) (calm_follows o lives node s a c)
doing_follows s a (managing source before old may none t rom) = turned_follows s t

-- it has one for a reply to this node's operation, and nothing is sent before
abbrev pub ForReply : Option Purpose → (peer : ℕ) → ℕ → List Outgoing → Type 0
ForReply (Some purposes.Management) peer source before = (source ≡ peer) × (before ≡ [])
ForReply purpose peer source before = ⊥

abbrev pub QuietReply : Option Purpose → Type 0
QuietReply (Some purposes.Management) = ⊥
QuietReply purpose = Unit {0}

abbrev pub QuietLapse : Result (Option Purpose) Stale → Type 0
QuietLapse (Ok purpose) = QuietReply purpose
QuietLapse (Err stale) = Unit {0}

abbrev pub QuietFinding : Finding Purpose → Type 0
QuietFinding (of_response p label purpose) = QuietReply purpose
QuietFinding finding = Unit {0}

-- and where it is started: the response is sent before
pub record IsStart (node : NodeState) (p : Packet) (bytes : List ℕ) (layer : Layer Purpose) (source : ℕ) (before : List Outgoing) : Type 0 where
  pub source_is : source ≡ (header_in p).source
  pub none : node.manager.operation ≡ None
  pub before_is : before ≡ (answered p bytes 0 [] (scene (record node { layer = layer }) empty_outbox)).outbox.packets

abbrev pub ForLapse : Result (Option Purpose) Stale → (peer : ℕ) → ℕ → List Outgoing → Type 0
ForLapse (Ok purpose) peer source before = ForReply purpose peer source before
ForLapse (Err stale) peer source before = ⊥

abbrev pub ForDemand : Demand → NodeState → Packet → List ℕ → Layer Purpose → ℕ → List Outgoing → Type 0
ForDemand (demands.Manage orb) node p bytes layer source before = IsStart node p bytes layer source before
ForDemand demand node p bytes layer source before = ⊥

abbrev pub ForRequest : Bool → NodeState → Packet → List ℕ → Layer Purpose → ℕ → List Outgoing → Type 0
ForRequest true node p bytes layer source before = ⊥
ForRequest false node p bytes layer source before = ForDemand (demand_of (length node.rom) p) node p bytes layer source before

abbrev pub ForFinding : Finding Purpose → NodeState → List ℕ → Layer Purpose → ℕ → List Outgoing → Type 0
ForFinding (of_response p label purpose) node bytes layer source before = ForReply purpose (header_in p).source source before
ForFinding (of_request p) node bytes layer source before = ForRequest (is_barred node p) node p bytes layer source before
ForFinding finding node bytes layer source before = ⊥

-- ---- transactions that are over
ended_not : (life : Life Purpose) (kind : ReplyKind) → ended life ≡ under_way kind (Some purposes.Management) → ⊥
ended_not not_begun kind e = cc
ended_not (under_way k q) kind e = cc
ended_not over kind e = cc

ended_if : (b : Bool) (life : Life Purpose) (kind : ReplyKind) → cond b (ended life) life ≡ under_way kind (Some purposes.Management) → (b ≡ false) × (life ≡ under_way kind (Some purposes.Management))
ended_if true life kind e = absurd (ended_not life kind e)
ended_if false life kind e = (refl, e)

pub from_self : (layer : Layer Purpose) (lives : Lives) → Known layer lives → From lives layer
from_self layer lives k = record { lives = lives; known = k; before = λ p l kind h. h }

-- the operation's transaction is its node's, and there is no other
record IsRequest (node : NodeState) (g : Good node) (peer : ℕ) (label : LabelParts) : Type 0 where
  source : management.source_in node.manager.operation ≡ Some peer
  only : (p : ℕ) (l : LabelParts) (kind : ReplyKind) → ForManager g.lives p l kind → is_same peer label p l ≡ true

is_request : (node : NodeState) (g : Good node) (peer : ℕ) (label : LabelParts) (kind : ReplyKind) → ForManager g.lives peer label kind → IsRequest node g peer label
is_request node g peer label kind e =
    let r = some_that g.request peer label (g.mid.hand.own peer label kind e) in
    record {
      source = g.source ∙ ap (λ (x : Option Sent). peer_of x) r;
      only = λ p l k h.
          let q = some_that g.request p l (g.mid.hand.own p l k h) in
          let s : Some (sent_to peer label) ≡ Some (sent_to p l) = sym r ∙ q in
          let same : sent_to peer label ≡ sent_to p l = cc in
          sym (sent_is (sent_to peer label) p l) ∙ ap (λ (x : Sent). is_sent_as x p l) same ∙ sent_self (sent_to p l);
    }

none_of : (node : NodeState) (g : Good node) → management.source_in node.manager.operation ≡ None → (p : ℕ) (l : LabelParts) (kind : ReplyKind) → ForManager g.lives p l kind → ⊥
none_of node g e p l kind h = absurd (let no : None ≡ Some p = sym e ∙ (is_request node g p l kind h).source in cc)

-- ---- a delivery
module _ (node : NodeState) (g : Good node) (o : Office) (a : Agrees o node) where
  calm_in : (layer : Layer Purpose) → From g.lives layer → Calm g.lives node (scene (record node { layer = layer }) empty_outbox)
  calm_in layer f = record { logins = refl; keys = refl; manager = refl; rom = refl; quiet = tt; from = f }

  from_same : (layer : Layer Purpose) → layer ≡ node.layer → From g.lives layer
  from_same layer same = from_self layer g.lives (subst (λ (l : Layer Purpose). Known l g.lives) (sym same) g.mid.known)

  -- what the first note of the turn of a response does
  abbrev concluding : Answer → Office → Option Purpose → Office
  concluding answer o (Some purposes.Management) = replied answer o
  concluding answer o purpose = o

  -- what is left once a transaction is over
  from_left : (peer : ℕ) (label : LabelParts) (layer : Layer Purpose) (lives : Lives) → Known layer lives → ((p : ℕ) (l : LabelParts) (kind : ReplyKind) → ForManager lives p l kind → (is_same peer label p l ≡ false) × ForManager g.lives p l kind) → From g.lives layer
  from_left peer label layer lives k left = record { lives = lives; known = k; before = λ p l kind h. (left p l kind h).1 }

  manager_does : (peer : ℕ) (label : LabelParts) (kind : ReplyKind) (answer : Answer) (layer : Layer Purpose) (lives : Lives) → Known layer lives → ((p : ℕ) (l : LabelParts) (kind : ReplyKind) → ForManager lives p l kind → (is_same peer label p l ≡ false) × ForManager g.lives p l kind) → ForManager g.lives peer label kind → Doing (QuietReply (Some purposes.Management)) (ForReply (Some purposes.Management) peer) node g.lives o (replied answer o) (manage answer (scene (record node { layer = layer }) empty_outbox))
  manager_does peer label kind answer layer lives k left e =
      let r = is_request node g peer label kind e in
      managing peer [] lives (refl, refl) (λ p l k h. let f = left p l k h in absurd (let no : false ≡ true = sym f.0 ∙ r.only p l k f.1 in cc))
      (replied_turn o lives peer answer (scene (record node { layer = layer }) empty_outbox) refl (from_self layer lives k) (record { table = a.table; keys = a.keys; manager = a.manager })
      (subst (λ (x : Table). IsSound x.places) (sym a.table) g.table.sound) r.source)
      (manage_rom answer o lives (scene (record node { layer = layer }) empty_outbox) refl (from_self layer lives k))

  -- a response, by what its transaction was for
  module _ (told : Option Told) (peer : ℕ) (label : LabelParts) (kind : ReplyKind) (answer : Answer) (disks : List Disk) (layer : Layer Purpose) (lives : Lives) (k : Known layer lives) (left : (p : ℕ) (l : LabelParts) (kind : ReplyKind) → ForManager lives p l kind → (is_same peer label p l ≡ false) × ForManager g.lives p l kind) where
    abbrev over_node : NodeState
    over_node = record node { layer = layer }

    concluded_does : (purpose : Option Purpose) → g.lives peer label ≡ under_way kind purpose → (let w = concluded told purpose peer label answer (whole (scene over_node empty_outbox) disks) in Doing (QuietReply purpose) (ForReply purpose peer) node g.lives o (concluding answer o purpose) (scene w.node w.outbox))
    unfolding concluded
    concluded_does None e = calmly tt refl (calm_in layer (from_left peer label layer lives k left))
    concluded_does (Some (purposes.Agent place)) e = calmly tt refl (replies g.lives node told place peer label answer (whole (scene over_node empty_outbox) disks) (calm_in layer (from_left peer label layer lives k left)))
    concluded_does (Some purposes.Management) e = manager_does peer label kind answer layer lives k left e
    concluded_does (Some purposes.Unsolicited) e = calmly tt refl (record { logins = refl; keys = refl; manager = refl; rom = refl; quiet = tt; from = from_left peer label layer lives k left })

  -- a request
  module _ (p : Packet) (bytes : List ℕ) (layer : Layer Purpose) (same : layer ≡ node.layer) where
    abbrev asked_node : NodeState
    asked_node = record node { layer = layer }

    start_by : (orb : ℕ) (operation : Option Operation) → node.manager.operation ≡ operation → Doing (Unit {0}) (IsStart node p bytes layer) node g.lives o (started (header_in p).source orb o) (start orb p bytes (scene asked_node empty_outbox))
    unfolding start management.start_step
    start_by orb None e =
        let s = scene asked_node empty_outbox in
        managing (header_in p).source (answered p bytes (start_rcode node.manager.operation) [] s).outbox.packets g.lives (record { source_is = refl; none = e; before_is = ap (λ x. (answered p bytes (start_rcode x) [] s).outbox.packets) e }) (none_of node g (ap management.source_in e))
        (started_turn o g.lives orb p bytes s refl (from_same layer same) (record { table = a.table; keys = a.keys; manager = a.manager }))
        (start_rom orb p bytes s)
    start_by orb (Some operation) e =
        let s = scene asked_node empty_outbox in
        let busy : started (header_in p).source orb o ≡ o = ap (λ m. started_by (management.start_with m.operation m (header_in p).source orb) o) a.manager ∙ ap (λ x. started_by (management.start_with x node.manager (header_in p).source orb) o) e in
        calmly tt busy
        (subst (λ x. Calm g.lives node (target_started (header_in p).source p bytes (management.start_with x node.manager (header_in p).source orb) s)) (sym e)
        (answers g.lives node p bytes 4 [] (scene (record asked_node { manager = node.manager }) empty_outbox) (record { logins = refl; keys = refl; manager = refl; rom = refl; quiet = tt; from = from_same layer same })))

    demand_does : (demand : Demand) → Doing (Unit {0}) (ForDemand demand node p bytes layer) node g.lives o (demanded demand (header_in p).source o) (served_as demand p bytes (scene asked_node empty_outbox))
    demand_does (demands.Refused rcode) = calmly tt refl (answers g.lives node p bytes rcode [] (scene asked_node empty_outbox) (calm_in layer (from_same layer same)))
    demand_does (demands.Rom at len) = calmly tt refl (answers g.lives node p bytes 0 _ (scene asked_node empty_outbox) (calm_in layer (from_same layer same)))
    demand_does (demands.Manage orb) = start_by orb node.manager.operation refl
    demand_does (demands.Agent place access) = calmly tt refl (accesses_by g.lives node access place p bytes (scene asked_node empty_outbox) (calm_in layer (from_same layer same)))

    serve_does : Doing (Unit {0}) (ForDemand (demand_of (length node.rom) p) node p bytes layer) node g.lives o (demanded (demand_of (length node.rom) p) (header_in p).source o) (serve p bytes (scene asked_node empty_outbox))
    unfolding serve
    serve_does = demand_does (demand_of (length node.rom) p)

    request_if : (b : Bool) (x y : Judged) → Doing (Unit {0}) (ForRequest b node p bytes layer) node g.lives o (requested b p node o) (cond {A = Judged × Scene} b (x, answered p bytes 7 [] (scene asked_node empty_outbox)) (y, serve p bytes (scene asked_node empty_outbox))).1
    request_if true x y = calmly tt refl (answers g.lives node p bytes 7 [] (scene asked_node empty_outbox) (calm_in layer (from_same layer same)))
    request_if false x y = serve_does

    barred_at : (x : Option AgentRegister) (source : ℕ) → is_barred_at x asked_node.logins source ≡ is_barred_at x node.logins source
    barred_at None source = refl
    barred_at (Some found) source = refl

    pub barred_same : is_barred asked_node p ≡ is_barred node p
    unfolding is_barred
    barred_same = ap (λ b. not (is_lock p) && b) (barred_at (register_at (offset_in p)) (header_in p).source)

    request_does : Doing (Unit {0}) (ForRequest (is_barred node p) node p bytes layer) node g.lives o (requested (is_barred node p) p node o) (request_step p bytes (scene asked_node empty_outbox)).1
    unfolding request_step
    request_does =
        subst (λ b. Doing (Unit {0}) (ForRequest (is_barred node p) node p bytes layer) node g.lives o (requested (is_barred node p) p node o) (cond {A = Judged × Scene} b (judgements.Ignored ignored.Login, answered p bytes 7 [] (scene asked_node empty_outbox)) (judgements.Got, serve p bytes (scene asked_node empty_outbox))).1) (sym barred_same)
        (request_if (is_barred node p) (judgements.Ignored ignored.Login) judgements.Got)

  abbrev pub DoesAs : Type 0 → (ℕ → List Outgoing → Type 0) → Office → Judged × Whole → Type 0
  DoesAs Quiet May first (judged, w) = Doing Quiet May node g.lives o first (scene w.node w.outbox)

  as_judged : (Quiet : Type 0) (May : ℕ → List Outgoing → Type 0) (first : Office) (r : Judged × Scene) (disks : List Disk) (w : Whole) → Doing Quiet May node g.lives o first r.1 → DoesAs Quiet May first (judged_scene r w)
  as_judged Quiet May first (judged, s) disks w d = d

  response_does : (told : Option Told) (disks : List Disk) (generation : ℕ) (bytes : List ℕ) (p : Packet) (label : LabelParts) (purpose : Option Purpose) (layer : Layer Purpose) → judging_step node.layer generation bytes ≡ (of_response p label purpose, layer) → is_some (reply_kind p) ≡ true → (let w = concluded told purpose (header_in p).source label (answer_in p) (whole (scene (record node { layer = layer }) empty_outbox) disks) in Doing (QuietReply purpose) (ForReply purpose (header_in p).source) node g.lives o (concluding (answer_in p) o purpose) (scene w.node w.outbox))
  response_does told disks generation bytes p label purpose layer e k =
      let c = closing_known node.layer layer g.lives generation bytes p label purpose g.mid.known e k in
      concluded_does told (header_in p).source label c.kind (answer_in p) disks layer (live_on (wire.closed (header_in p).source label c.kind purpose) g.lives) c.known
      (λ q l kind h. ended_if (is_same (header_in p).source label q l) (g.lives q l) kind h) purpose c.life

  found_does : (told : Option Told) (disks : List Disk) (generation : ℕ) (bytes : List ℕ) (f : Finding Purpose) (layer : Layer Purpose) → judging_step node.layer generation bytes ≡ (f, layer) → IsFound f node.layer layer bytes → DoesAs (QuietFinding f) (ForFinding f node bytes layer) (delivered f node o) (received_as told bytes f (with_layer layer (whole (scene node empty_outbox) disks)))
  found_does told disks generation bytes of_generation layer e f = calmly tt refl (calm_in layer (from_same layer f))
  found_does told disks generation bytes of_grammar layer e f = calmly tt refl (calm_in layer (from_same layer f))
  found_does told disks generation bytes of_label layer e f = calmly tt refl (calm_in layer (from_same layer f))
  found_does told disks generation bytes (of_response p label None) layer e f = response_does told disks generation bytes p label None layer e f.kind
  found_does told disks generation bytes (of_response p label (Some (purposes.Agent place))) layer e f = response_does told disks generation bytes p label (Some (purposes.Agent place)) layer e f.kind
  found_does told disks generation bytes (of_response p label (Some purposes.Management)) layer e f = response_does told disks generation bytes p label (Some purposes.Management) layer e f.kind
  found_does told disks generation bytes (of_response p label (Some purposes.Unsolicited)) layer e f = response_does told disks generation bytes p label (Some purposes.Unsolicited) layer e f.kind
  found_does told disks generation bytes (of_again p rcode) layer e f = calmly tt refl (answers g.lives node p bytes rcode [] (scene (record node { layer = layer }) empty_outbox) (calm_in layer (from_same layer f.0)))
  found_does told disks generation bytes (of_request p) layer e f =
      as_judged (Unit {0}) (ForRequest (is_barred node p) node p bytes layer) (requested (is_barred node p) p node o) (request_step p bytes (scene (record node { layer = layer }) empty_outbox)) disks (with_layer layer (whole (scene node empty_outbox) disks)) (request_does p bytes layer f.0)

  pub delivery_does : (told : Option Told) (disks : List Disk) (generation : ℕ) (bytes : List ℕ) → DoesAs (QuietFinding (judging_step node.layer generation bytes).0) (ForFinding (judging_step node.layer generation bytes).0 node bytes (judging_step node.layer generation bytes).1) (delivered (judging_step node.layer generation bytes).0 node o) (received told generation bytes (whole (scene node empty_outbox) disks))
  unfolding received
  delivery_does told disks generation bytes =
      found_does told disks generation bytes (judging_step node.layer generation bytes).0 (judging_step node.layer generation bytes).1 refl (found node.layer generation bytes)

  -- ---- a time-out
  lapses_for : (peer : ℕ) (label : LabelParts) (kind : ReplyKind) (layer : Layer Purpose) (lives : Lives) (k : Known layer lives) (left : (p : ℕ) (l : LabelParts) (kind : ReplyKind) → ForManager lives p l kind → (is_same peer label p l ≡ false) × ForManager g.lives p l kind) (purpose : Option Purpose) → g.lives peer label ≡ under_way kind purpose → Doing (QuietReply purpose) (ForReply purpose peer) node g.lives o (concluding Expired o purpose) (timed_out purpose peer label (scene (record node { layer = layer }) empty_outbox))
  lapses_for peer label kind layer lives k left None e = calmly tt refl (calm_in layer (from_left peer label layer lives k left))
  lapses_for peer label kind layer lives k left (Some (purposes.Agent place)) e =
      calmly tt refl (expires_agent g.lives node place peer label (scene (record node { layer = layer }) empty_outbox) (calm_in layer (from_left peer label layer lives k left)))
  lapses_for peer label kind layer lives k left (Some purposes.Management) e = manager_does peer label kind Expired layer lives k left e
  lapses_for peer label kind layer lives k left (Some purposes.Unsolicited) e = calmly tt refl (calm_in layer (from_left peer label layer lives k left))

  lapses_as : (peer : ℕ) (label : LabelParts) (purpose : Option Purpose) (layer : Layer Purpose) → expiring_step node.layer peer label ≡ (Ok purpose, layer) → Doing (QuietReply purpose) (ForReply purpose peer) node g.lives o (concluding Expired o purpose) (timed_out purpose peer label (scene (record node { layer = layer }) empty_outbox))
  lapses_as peer label purpose layer e =
      let x = expiring_known node.layer layer g.lives peer label purpose g.mid.known e in
      lapses_for peer label x.kind layer (live_on (wire.expired peer label purpose) g.lives) x.known (λ q l kind h. ended_if (is_same peer label q l) (g.lives q l) kind h) purpose x.life

  lapses_by : (r : Result (Option Purpose) Stale × Layer Purpose) (peer : ℕ) (label : LabelParts) → expiring_step node.layer peer label ≡ r → Doing (QuietLapse r.0) (ForLapse r.0 peer) node g.lives o (lapsed r.0 o) (expired_in r peer label (scene node empty_outbox)).1
  lapses_by (Ok None, layer) peer label e = lapses_as peer label None layer e
  lapses_by (Ok (Some (purposes.Agent place)), layer) peer label e = lapses_as peer label (Some (purposes.Agent place)) layer e
  lapses_by (Ok (Some purposes.Management), layer) peer label e = lapses_as peer label (Some purposes.Management) layer e
  lapses_by (Ok (Some purposes.Unsolicited), layer) peer label e = lapses_as peer label (Some purposes.Unsolicited) layer e
  lapses_by (Err stale, layer) peer label e = calmly tt refl (calm_in layer (from_self layer g.lives (stale_known node.layer layer g.lives peer label stale g.mid.known e)))

  pub lapse_does : (peer : ℕ) (label : LabelParts) → Doing (QuietLapse (expiring_step node.layer peer label).0) (ForLapse (expiring_step node.layer peer label).0 peer) node g.lives o (lapsed (expiring_step node.layer peer label).0 o) (expired peer label (scene node empty_outbox)).1
  unfolding expired
  lapse_does peer label = lapses_by (expiring_step node.layer peer label) peer label refl

-- ---- a sight
pub forgets_if : (node : NodeState) (g : Good node) (generation id : ℕ) (b : Bool) → nat_lt node.layer.generation generation ≡ b → From g.lives (seeing_step node.layer generation id).1
unfolding seeing_step
forgets_if node g generation id true e = record {
  lives = live_on wire.forgotten g.lives;
  known = seeing_known node.layer g.lives generation id g.mid.known e;
  before = λ p l kind h. absurd (ended_not (g.lives p l) kind h);
}
forgets_if node g generation id false e =
    subst (λ (b : Bool). From g.lives (cond {A = Bool × Layer Purpose} b (true, seen_in_generation node.layer generation id) (false, node.layer)).1) (sym e) (from_self node.layer g.lives g.mid.known)

-- ---- the law
keeps_all : (node : NodeState) (g : Good node) (o : Office) → Agrees o node → CallsKeep node o
keeps_all node g o a = record {
  deliveries = λ told disks generation bytes. doing_follows _ a (delivery_does node g o a told disks generation bytes);
  expiries = λ peer label. doing_follows _ a (lapse_does node g o a peer label);
  sights = λ generation id. rested_follows _ (sight_rests generation id o node g.lives (forgets_if node g generation id (nat_lt node.layer.generation generation) refl) a g.table.sound);
  seconds = rested_follows _ (second_rests o node a g.table.sound);
  keys = λ unit key. record { table = a.table; keys = ap (λ ks. slice_set ks unit key) a.keys; manager = a.manager };
}

pub management_law : ManagementLaw
management_law units ready calls o h a = keeps_all (after units ready calls) (all_good units ready calls h) o a
