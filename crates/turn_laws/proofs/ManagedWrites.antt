-- What a turn brings in which a response to the management operation is got (NCITS 325-1998, management agent): the target writes to its initiator what the operation then asks for, where that finds a label, and nothing else; and behind the turn the logins are those that its step leaves.
use Rattle.std.proofs.Common.{◌≡◌, ◌∙◌, refl, sym, ap, subst, ℕ, suc, ◌==◌, ◌<◌, is_some, Bool, true, false, cond, List, [], ◌∷◌, Option, Some, None, Ok}
use Rattle.async_packet.specs.Labels.{LabelParts}
use Rattle.async_packet.specs.Packet.{Packet, header_in}
use Rattle.async_packet.specs.Reading.{reading}
use Rattle.bus_transactions.specs.Fitting.{FitsRequest}
use Rattle.bus_transactions.specs.Judging.{AreJudged}
use Rattle.bus_transactions.proofs.FitJudged.{bytes_of, spelled}
use Rattle.label_table.specs.Bodies.{Body, block_read, block_write, quadlet_read}
use Rattle.label_table.specs.declared.judgement.Asked.{Asked}
use Rattle.label_table.specs.History as wire
use Rattle.label_table.specs.Layer.{Finding, Layer, asking_step, judging_step, of_again, of_generation, of_grammar, of_label, of_request, of_response}
use Rattle.label_table.specs.Requests.{reply_kind}
use Rattle.login_table.specs.Sound.{IsSound}
use Rattle.login_table.specs.Table.{Table}
use Rattle.mgmt_agent.specs.declared.decision.ManagerStep.{ManagerStep}
use Rattle.mgmt_agent.specs.declared.operation.Operation.{Operation}
use Rattle.mgmt_agent.specs.Machine.{Machine, reply_step, reply_to, source_in}
use Rattle.orb_layout.specs.declared.ask.Ask.{Ask}
use Rattle.orb_layout.specs.declared.ask.Ask.TheVariants.{Nothing, Read, Write}
use Rattle.orb_layout.specs.Replies.{Answer}
use Rattle.packet_store.specs.declared.sent.Sent.{Sent}
use Rattle.packet_store.specs.Kept.{found_sent}
use Rattle.rbc_disk.specs.Disk.{Disk}
use Rattle.rbc_disk.specs.Runs.{Told}
use Rattle.sbp_bus.specs.Packets.{end_note, judged_note}
use Rattle.orb_layout.specs.Pointers.{offset_at}
use Rattle.sbp_journal.specs.declared.cause.Judged.{Judged}
use Rattle.sbp_journal.specs.declared.cause.Judged.TheVariants as judgements
use Rattle.sbp_journal.specs.declared.note.Note.{Note}
use Rattle.sbp_journal.specs.declared.note.Note.TheVariants as notes
use Rattle.sbp_journal.specs.declared.outbox.Outgoing.{Outgoing}
use Rattle.sbp_journal.specs.Outgoings.{OutboxState, empty_outbox}
use Rattle.sbp_initiator.specs.Receiving.{receive_step}
use Rattle.sbp_journal.specs.Addresses.{Access, Start, management_agent, start_at, start_serves}
use Rattle.sbp_journal.specs.Run.{Moment, said}
use Rattle.sbp_journal.specs.Wire.{terms}
use Rattle.sbp_laws.specs.Agents.{target_before, wire_before}
use Rattle.sbp_laws.specs.Management.{Call, answers, body_for, call_of, no_call, operator, start_in, start_of, starts}
use Rattle.sbp_laws.specs.SentWrites.{NodeWrite, behind_turn, served, writes_to}
use Rattle.sbp_laws.specs.Targets.{Target, manager_step, over, target_at}
use Rattle.sbp_laws.specs.Turns.{Turn, turn}
use Rattle.sbp_target.specs.declared.purpose.Purpose.{Purpose}
use Rattle.sbp_target.specs.declared.purpose.Purpose.TheVariants as purposes
use Rattle.sbp_target.specs.Nodes.{NodeState, scene as target_scene}
use Rattle.sbp_target.specs.Receiving.{answer_in, concluded, received, received_as, with_layer}
use Rattle.sbp_target.specs.Replies.{Whole, scene_of, whole}
use Rattle.sbp_target.proofs.Histories.Calling.{Good}
use Rattle.sbp_target.proofs.Histories.Found.{IsFound, found as found_as}
use Rattle.sbp_target.proofs.Histories.Primitives.{closing_known, live_on}
use Rattle.sbp_world.specs.Agents.Management.Offices.{Agrees, Office, office_of}
use Rattle.sbp_world.specs.Delivering.{faults_after, marked, whole_of}
use Rattle.sbp_world.specs.Handing.{handed_out}
use Rattle.sbp_world.specs.Wire.Wires.{Stands}
use Rattle.sbp_world.specs.Worlds.{Scene, WorldState, initiator_at, with_initiator, with_note, with_target}
use Rattle.rbc_disk.specs.Held.{Held, held}
use Rattle.sbp_world.proofs.Agents.CrewFirsts.{agrees}
use Rattle.sbp_world.proofs.Agents.Management.Delivery.{marked_generations}
use Rattle.sbp_world.proofs.Agents.Management.Holding.{good_of, ours}
use Rattle.sbp_world.proofs.Agents.Management.Offices.{over_keeps}
use Rattle.sbp_world.proofs.Agents.Management.Still.{hist}
use Rattle.sbp_world.proofs.FitTarget.Demands.{answer_small}
use Rattle.sbp_world.proofs.FitTarget.Manager.{managed_fits}
use Rattle.sbp_world.proofs.FitTarget.Nodes.{IfBody, manager_body_fits}
use Rattle.sbp_world.proofs.Lists.Extends.{marked_fresh}
use Rattle.sbp_world.proofs.Lists.StatusReads.{asked_body, reads_body}
use Rattle.sbp_world.proofs.Wire.Holding.{KnownTo}
use Rattle.sbp_world.proofs.Wire.Nodes.{handed_alike, marked_alike}
use Rattle.turn_laws.proofs.BehindTurns.{noted}
use Rattle.turn_laws.proofs.Calls.{Cases}
use Rattle.turn_laws.proofs.Effects.{step_same}
use Rattle.turn_laws.proofs.FailureSides.{step_body}
use Rattle.turn_laws.proofs.FollowSends.{one_to, packet_of}
use Rattle.turn_laws.proofs.Gots.{agent_calls, manager_calls, nobody_calls, no_kind, own_calls_nothing, request_calls, unsolicited_calls}
use Rattle.turn_laws.proofs.Handed.{handed}
use Rattle.turn_laws.proofs.ManagedSides.{from_self}
use Rattle.turn_laws.proofs.ManagerPackets.{manage_logins, manage_packets, operation_packets, reply_packets}
use Rattle.turn_laws.proofs.OperationFinds.{finds_response, spells_response}
use Rattle.turn_laws.proofs.OperationSteps.{body_same, step_stays}
use Rattle.turn_laws.proofs.Operators.{IsOperator, laws_name, operator_is, operator_node}
use Rattle.turn_laws.proofs.Places.{Place}
use Rattle.turn_laws.proofs.RequestLabels.{access_in_body}
use Rattle.turn_laws.proofs.RequestWrites.{read_by, written_by}
use Rattle.turn_laws.proofs.TurnWrites.{all_writes, handed_writes, packet_writes, reads_write, to_peer}

-- ---- what is due
-- the write that an operation asks for
abbrev pub asked_write : Turn → (node : ℕ) → Ask → Machine → List NodeWrite
asked_write t node (Write offset len) m = served t (record { to = node; offset = offset; payload = m.outgoing })
asked_write t node ask m = []

abbrev pub operator_node_of : List Disk → Turn → ℕ
operator_node_of start t = suc (operator (wire_before t) (target_before start t).manager.operation)

-- the response is followed
pub record IsFollowed (start : List Disk) (t : Turn) (r : ManagerStep × (Machine × Table)) : Type 0 where
  pub writes : writes_to (operator_node_of start t) t.rest ≡ asked_write t (operator_node_of start t) r.0.ask r.1.0
  pub table : (target_at start (behind_turn t)).table ≡ r.1.1
  pub sound : IsSound r.1.1.places

abbrev pub FollowsFor : List Disk → Turn → Call → Type 0
FollowsFor start t (answers answer) = IsFollowed start t (manager_step (target_before start t) answer)
FollowsFor start t call = Unit {0}

abbrev FollowsAt : List Disk → Turn → Moment → Type 0
FollowsAt start t (said (notes.Got serial)) = FollowsFor start t (call_of (target_before start t) t)
FollowsAt start t moment = Unit {0}

-- where a packet is got
abbrev pub FollowsResponses : List Disk → Turn → Type 0
FollowsResponses start t = FollowsAt start t t.start

-- what starts an operation writes nothing yet
start_by : (start : List Disk) (t : Turn) (b : Bool) (source orb : ℕ) → FollowsFor start t (cond b (starts source orb) no_call)
start_by start t true source orb = tt
start_by start t false source orb = tt

start_at_none : (start : List Disk) (t : Turn) (first : Start) (source : ℕ) (access : Access) → FollowsFor start t (start_of first source access)
start_at_none start t management_agent source access = start_by start t (start_serves management_agent access) source (offset_at access.payload 0)
start_at_none start t first source access = tt

start_none : (start : List Disk) (t : Turn) (access : Option Access) (source : ℕ) → FollowsFor start t (start_in access source)
start_none start t None source = tt
start_none start t (Some access) source = start_at_none start t (start_at access.offset) source access

-- ---- the packets of a response to the operation, and the logins behind it
abbrev pub Found : NodeState → (Finding Purpose) → Layer Purpose → Whole → Type 0
Found node (of_response p label (Some purposes.Management)) layer w =
    ((scene_of w).outbox.packets ≡ reply_packets node layer (source_in node.manager.operation) (answer_in p)) × ((scene_of w).node.logins ≡ (reply_step node.manager node.logins node.keys (answer_in p)).1.1)
Found node finding layer w = Unit {0}

module _ (node : NodeState) (g : Good node) (run : Option Told) (disks : List Disk) (generation : ℕ) (bytes : List ℕ) where
  abbrev up : Finding Purpose → Layer Purpose → Whole
  up f layer = (received_as run bytes f (with_layer layer (whole (target_scene node empty_outbox) disks))).1

  pub found_so : (f : Finding Purpose) (layer : Layer Purpose) → judging_step node.layer generation bytes ≡ (f, layer) → IsFound f node.layer layer bytes → Found node f layer (up f layer)
  unfolding concluded
  found_so of_generation layer e f = tt
  found_so of_grammar layer e f = tt
  found_so of_label layer e f = tt
  found_so (of_again p rcode) layer e f = tt
  found_so (of_request p) layer e f = tt
  found_so (of_response p label None) layer e f = tt
  found_so (of_response p label (Some purposes.Unsolicited)) layer e f = tt
  found_so (of_response p label (Some (purposes.Agent place))) layer e f = tt
  found_so (of_response p label (Some purposes.Management)) layer e f =
      let purpose : Option Purpose = Some purposes.Management in
      let c = closing_known node.layer layer g.lives generation bytes p label purpose g.mid.known e f.kind in
      let lives = live_on (wire.closed (header_in p).source label c.kind purpose) g.lives in
      let from = from_self node g layer lives c.known in (manage_packets node (answer_in p) layer lives from, manage_logins node (answer_in p) layer lives from)

-- ---- no operation writes nothing
idle_by : (t : Turn) (node : ℕ) (operation : Option Operation) (m : Machine) (table : Table) (keys : List (List ℕ)) (answer : Answer) → source_in operation ≡ None
    → (let r = reply_to operation m table keys answer in asked_write t node r.0.ask r.1.0) ≡ []
idle_by t node None m table keys answer e = refl
idle_by t node (Some own) m table keys answer e = absurd (let no : Some own.source ≡ None = e in cc)

idle_writes : (t : Turn) (node : ℕ) (m : Machine) (table : Table) (keys : List (List ℕ)) (answer : Answer) → source_in m.operation ≡ None
    → (let r = reply_step m table keys answer in asked_write t node r.0.ask r.1.0) ≡ []
unfolding reply_step
idle_writes t node m table keys answer e = idle_by t node m.operation m table keys answer e

-- ---- a response at a place
module _ (units ready : ℕ) (has : 0 < units) (start : List Disk) (past : List Moment) (s : Scene) (here : Place units ready start past s) where
  abbrev w : WorldState
  w = s.world

  abbrev node : NodeState
  node = w.target

  abbrev ms : List Moment
  ms = hist past w

  abbrev T : Target
  T = over (target_at start ms)

  good : Good node
  good = good_of units ready here.holds.calls node has here.holds.made

  same : Agrees (office_of T) node
  same = agrees units ready has start w here.holds

  module _ (serial : ℕ) (again : Bool) (run : Option Told) (one : Sent) (found : found_sent serial w.store.kept ≡ Some one) (zero_to : one.to ≡ 0) (outbox : OutboxState) (v : WorldState) (then : Stands past (handed_out 0 0 outbox v)) where
    abbrev Now : List Note → Turn
    Now rest = turn ms (said (notes.Got serial)) rest

    -- these packets were handed out
    abbrev HandsOut : List Note → List Outgoing → Type 0
    HandsOut rest packets = (n : ℕ) → writes_to n rest ≡ packet_writes n w.generations packets

    -- behind a turn the logins are these
    record Leaves (judged : Judged) (rest : List Note) (logins : Table) : Type 0 where
      table : (target_at start (behind_turn (turn ms (said (judged_note serial judged)) rest))).table ≡ logins
      sound : IsSound logins.places

    -- a call hands out its packets, and leaves its logins
    abbrev Hands : Judged → List Note → Whole → Type 0
    Hands judged rest x = HandsOut rest (scene_of x).outbox.packets × Leaves judged rest (scene_of x).node.logins

    -- the first note is of this judgement
    abbrev Tells : Judged → Type 0
    Tells judged = (v.fresh ≡ judged_note serial judged ∷ w.fresh) × AreJudged (said (judged_note serial judged) ∷ ms)

    module _ (fresh_is : v.fresh ≡ notes.Got serial ∷ w.fresh) (judged : AreJudged (said (notes.Got serial) ∷ ms)) (p : Packet) (read : reading one.bytes ≡ Ok p) (some : is_some (reply_kind p) ≡ true) (label : LabelParts) (layer : Layer Purpose) where
      abbrev r : ManagerStep × (Machine × Table)
      r = reply_step node.manager node.logins node.keys (answer_in p)

      module _ (e : judging_step node.layer one.generation one.bytes ≡ (of_response p label (Some purposes.Management), layer)) where
        -- the step of the terms is that of the node
        followed : (rest : List Note) → Leaves judgements.Got rest r.1.1 → (let n = operator_node_of start (Now rest) in writes_to n rest ≡ asked_write (Now rest) n r.0.ask r.1.0) → FollowsFor start (Now rest) (answers (answer_in p))
        followed rest leaves writes = subst (IsFollowed start (Now rest)) (sym (step_same T node same (answer_in p))) (record { writes = writes; table = leaves.table; sound = leaves.sound })

        module _ (source : ℕ) (under : source_in node.manager.operation ≡ Some source) (rest : List Note) (hands : HandsOut rest (operation_packets layer source (step_body r))) where
          abbrev i : ℕ
          i = (here.held.operation source under).0

          of : IsOperator units ready has start past s here i source
          of = (here.held.operation source under).1

          abbrev asked : Body → Option Asked
          asked body = (asking_step layer source body purposes.Management).0

          body_is : body_for r.0.ask r.1.0 ≡ step_body r
          body_is = body_same r.0.ask r.1.0 (step_stays node.manager node.logins good.table node.keys source (answer_in p) under).carried

          fits : (body : Body) → step_body r ≡ Some body → FitsRequest body
          fits body b =
              let known = bytes_of p one.bytes (spelled one.bytes p read) (ours w here.holds.sound.stands serial one found).bytes in
              let f = managed_fits (KnownTo w.generations.seen) node.manager node.logins node.keys (answer_in p) (answer_small p known) here.holds.sound.nodes.target_holds.fits.manager in
              subst IfBody b (manager_body_fits r.0.ask r.1.0.outgoing f.ask f.manager.outgoing)

          -- the packets go to its node
          its : (body : Body) → step_body r ≡ Some body → writes_to (suc i) rest ≡ all_writes (suc i) (packet_of source (asked body))
          its body b =
              hands (suc i)
              ∙ ap (λ x. packet_writes (suc i) w.generations (operation_packets layer source x)) b
              ∙ to_peer (suc i) w.generations source (operator_node units ready has start past s here i source of) (packet_of source (asked body)) (one_to source (asked body))

          reads : (body : Body) → reads_body body ≡ true → step_body r ≡ Some body → writes_to (suc i) rest ≡ []
          reads body f b = its body b ∙ reads_write (suc i) (packet_of source (asked body)) (read_by layer source body f (asked body) (asked_body layer source body purposes.Management))

          by_ask : (ask : Ask) → r.0.ask ≡ ask → writes_to (suc i) rest ≡ asked_write (Now rest) (suc i) ask r.1.0
          by_ask Nothing f =
              hands (suc i) ∙ ap (λ x. packet_writes (suc i) w.generations (operation_packets layer source x)) (sym body_is ∙ ap (λ x. body_for x r.1.0) f)
          by_ask (Read offset len) f = by (len == 4) (sym body_is ∙ ap (λ x. body_for x r.1.0) f)
            where
              by : (four : Bool) → step_body r ≡ Some (cond four (quadlet_read offset) (block_read offset len)) → writes_to (suc i) rest ≡ []
              by true b = reads (quadlet_read offset) refl b
              by false b = reads (block_read offset len) refl b
          by_ask (Write offset len) f =
              let body = block_write offset r.1.0.outgoing in
              let b : step_body r ≡ Some body = sym body_is ∙ ap (λ x. body_for x r.1.0) f in
              its body b
              ∙ written_by (suc i) source offset r.1.0.outgoing (asked body)
              (λ given f. access_in_body body given.bytes (spells_response units ready has start past s here serial one found zero_to outbox v fresh_is then p label (Some purposes.Management) layer e i source of body (fits body b) given f))
              ∙ ap (λ x. cond x (record { to = suc i; offset = offset; payload = r.1.0.outgoing } ∷ []) [])
              (finds_response units ready has start past s here serial one found zero_to outbox v fresh_is then p label (Some purposes.Management) layer e i source of body (fits body b))

          operator_here : operator (terms ms) T.manager.operation ≡ i
          operator_here =
              ap (λ (m : Machine). operator (terms ms) m.operation) same.manager ∙ operator_is (terms ms) node.manager.operation source under
              ∙ laws_name units ready has start past s here i source of

          its_writes : (let n = operator_node_of start (Now rest) in writes_to n rest ≡ asked_write (Now rest) n r.0.ask r.1.0)
          its_writes = ap (λ n. writes_to (suc n) rest) operator_here ∙ by_ask r.0.ask refl ∙ ap (λ n. asked_write (Now rest) (suc n) r.0.ask r.1.0) (sym operator_here)

        managed : (rest : List Note) → Leaves judgements.Got rest r.1.1 → (source : Option ℕ) → source_in node.manager.operation ≡ source → HandsOut rest (reply_packets node layer source (answer_in p)) → FollowsFor start (Now rest) (answers (answer_in p))
        managed rest leaves (Some source) under hands = followed rest leaves (its_writes source under rest hands)
        managed rest leaves None under hands =
            let n = operator_node_of start (Now rest) in followed rest leaves (hands n ∙ sym (idle_writes (Now rest) n node.manager node.logins node.keys (answer_in p) under))

      -- by what it was for
      abbrev Is : Option Purpose → Type 0
      Is purpose = judging_step node.layer one.generation one.bytes ≡ (of_response p label purpose, layer)

      response : (purpose : Option Purpose) → Is purpose → (x : Whole) → Found node (of_response p label purpose) layer x → (rest : List Note) → Hands judgements.Got rest x → FollowsFor start (Now rest) (call_of T (Now rest))
      response None e x f rest hands = subst (FollowsFor start (Now rest)) (sym (nobody_calls units ready has start past s here serial one found zero_to judged p read some label layer None e refl)) tt
      response (Some purposes.Unsolicited) e x f rest hands =
          subst (FollowsFor start (Now rest)) (sym (unsolicited_calls units ready has start past s here serial one found zero_to judged p read some label layer (Some purposes.Unsolicited) e refl)) tt
      response (Some (purposes.Agent place)) e x f rest hands =
          subst (FollowsFor start (Now rest)) (sym (agent_calls units ready has start past s here serial one found zero_to judged p read some label layer (Some (purposes.Agent place)) e place refl)) tt
      response (Some purposes.Management) e x f rest hands =
          subst (FollowsFor start (Now rest)) (sym (manager_calls units ready has start past s here serial one found zero_to judged p read some label layer (Some purposes.Management) e refl))
          (managed e rest (subst (Leaves judgements.Got rest) f.1 hands.1) (source_in node.manager.operation) refl (λ n. hands.0 n ∙ ap (packet_writes n w.generations) f.0))

    -- a packet that is judged so
    abbrev Goal : Judged → List Note → Type 0
    Goal judged rest = FollowsAt start (turn ms (said (judged_note serial judged)) rest) (said (judged_note serial judged))

    request : (p : Packet) → reading one.bytes ≡ Ok p → reply_kind p ≡ None → (judged : Judged) (rest : List Note) → Goal judged rest
    request p read none judgements.Got rest = subst (FollowsFor start (Now rest)) (sym (request_calls units ready has start past s here serial one found zero_to p read none)) (start_none start (Now rest) _ _)
    request p read none (judgements.Ignored cause) rest = tt

    abbrev Finds : Finding Purpose → Layer Purpose → Judged → Type 0
    Finds f layer judged = (judging_step node.layer one.generation one.bytes ≡ (f, layer)) × (judged ≡ (received_as run one.bytes f (with_layer layer (whole_of node s.media))).0)

    by_finding : (f : Finding Purpose) (layer : Layer Purpose) (judged : Judged) → Finds f layer judged → IsFound f node.layer layer one.bytes → Tells judged → (x : Whole) → Found node f layer x → (rest : List Note) → Hands judged rest x → Goal judged rest
    by_finding of_generation layer judged e f told x packets rest hands = subst (λ y. Goal y rest) (sym e.1) tt
    by_finding of_grammar layer judged e f told x packets rest hands = subst (λ y. Goal y rest) (sym e.1) tt
    by_finding of_label layer judged e f told x packets rest hands = subst (λ y. Goal y rest) (sym e.1) tt
    by_finding (of_again p rcode) layer judged e f told x packets rest hands = subst (λ y. Goal y rest) (sym e.1) tt
    by_finding (of_response p label purpose) layer judged e f told x packets rest hands =
        subst (λ y. Goal y rest) (sym e.1)
        (response (told.0 ∙ ap (λ y. judged_note serial y ∷ w.fresh) e.1) (subst (λ y. AreJudged (said (judged_note serial y) ∷ ms)) e.1 told.1) p f.read f.kind label layer purpose e.0 x packets rest (hands.0, subst (λ y. Leaves y rest (scene_of x).node.logins) e.1 hands.1))
    by_finding (of_request p) layer judged e f told x packets rest hands = request p f.1.read (no_kind (reply_kind p) f.1.kind) judged rest

    abbrev Received : Judged → Whole → Type 0
    Received judged x = Tells judged → (rest : List Note) → Hands judged rest x → Goal judged rest

    target_follows : (let x = received run one.generation one.bytes (whole_of node s.media) in Received x.0 x.1)
    unfolding received
    target_follows told rest hands =
        let f = judging_step node.layer one.generation one.bytes in
        let x = received run one.generation one.bytes (whole_of node s.media) in
        let there = found_as node.layer one.generation one.bytes in
        by_finding f.0 f.1 x.0 (refl, refl) there told x.1 (found_so node good run s.media.disks one.generation one.bytes f.0 f.1 refl there) rest hands

  own_follows : (serial : ℕ) (one : Sent) (found : found_sent serial w.store.kept ≡ Some one) (j : ℕ) → one.to ≡ suc j → (judged : Judged) (rest : List Note) → FollowsAt start (turn ms (said (judged_note serial judged)) rest) (said (judged_note serial judged))
  own_follows serial one found j to_is judgements.Got rest =
      subst (FollowsFor start (turn ms (said (notes.Got serial)) rest)) (sym (own_calls_nothing units ready has start past s here serial one found j to_is judgements.Got)) tt
  own_follows serial one found j to_is (judgements.Ignored cause) rest = tt

-- behind the call the terms have the logins of the target
left_logins : (units ready : ℕ) (has : 0 < units) (start : List Disk) (past : List Moment) (w v : WorldState) (note : Note) (outbox : OutboxState) → v.fresh ≡ note ∷ w.fresh → (media : Held) → Place units ready start past (record { world = handed_out 0 0 outbox v; media = media })
    → ((target_at start (behind_turn (turn (hist past w) (said note) (handed 0 0 outbox v)))).table ≡ v.target.logins) × IsSound v.target.logins.places
left_logins units ready has start past w v note outbox fresh media behind =
    let u = handed_out 0 0 outbox v in
    let same : u.target ≡ v.target = (handed_alike 0 0 outbox v).target in
    let logins = ap (λ (n : NodeState). n.logins) same in
    let before = target_at start (hist past u) in
    let there : before.table ≡ v.target.logins =
    sym (ap (λ (o : Office). o.table) (over_keeps before)) ∙ (agrees units ready has start u behind.holds).table ∙ logins in
    (noted (λ disks ms. (target_at disks ms).table ≡ v.target.logins) start note 0 outbox w v past fresh there, subst (λ (t : Table). IsSound t.places) logins (good_of units ready behind.holds.calls u.target has behind.holds.made).table.sound)

module _ (units ready : ℕ) (has : 0 < units) (start : List Disk) where
  ends : (past : List Moment) (done : Bool) → FollowsResponses start (turn past (said (end_note done)) [])
  ends past true = tt
  ends past false = tt

  pub follow_cases : Cases units ready start (FollowsResponses start)
  follow_cases = record {
    heard = λ past s serial again run one found zero_to may others here behind noted.
        let x = received run one.generation one.bytes (whole_of s.world.target s.media) in
        let after = with_target x.1.node s.world in
        let v = with_note (judged_note serial x.0) (marked serial again after) in
        let fresh = ap (λ ns. judged_note serial x.0 ∷ ns) (marked_fresh serial again after) in
        let logins : v.target.logins ≡ x.1.node.logins = ap (λ (n : NodeState). n.logins) (marked_alike after serial again).target in
        let left = left_logins units ready has start past s.world v (judged_note serial x.0) x.1.outbox fresh (held x.1.disks (faults_after run one s.world.target s.media)) behind in
        target_follows units ready has start past s here serial again run one found zero_to x.1.outbox v behind.holds.sound.stands (fresh, noted.judged) (handed 0 0 x.1.outbox v) (
          λ n. handed_writes n x.1.outbox v others ∙ ap (λ g. packet_writes n g x.1.outbox.packets) (marked_generations serial again after),
          record { table = left.0 ∙ logins; sound = subst (λ (t : Table). IsSound t.places) logins left.1 },
        );
    heard_own = λ past s serial again one j found to_is inside own here behind noted.
        let x = receive_step one.generation one.bytes empty_outbox (initiator_at s.world j) in
        own_follows units ready has start past s here serial one found j to_is x.0 (handed (suc j) 0 x.1.0 (with_note (judged_note serial x.0) (marked serial again (with_initiator j x.1.1 s.world))));
    late = λ past s serial request done t found node_is e others here behind noted. tt;
    late_own = λ past s serial request j outbox state found node_is inside e own here behind noted. tt;
    sees = λ past s others here behind noted. tt;
    sees_own = λ past s j inside own here behind noted. tt;
    ticks = λ past s others here behind noted. tt;
    ends = λ past s done here behind. ends (hist past s.world) done;
    acts = λ past s line j action outbox state inside e own here behind. tt;
    lines = λ past s line event rest behind brings fresh here there. tt;
    begins = λ line initiators is_ready. tt;
  }
