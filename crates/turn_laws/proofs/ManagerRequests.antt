-- In each turn that is for the management operation the packets behind the response are its request, where it asks for something and that finds a label: at a response, at a request that starts it, and at a time-out, which asks for nothing.
use Rattle.std.proofs.Common.{arith, ◌≡◌, ◌∙◌, refl, sym, ap, subst, ℕ, suc, ◌<◌, ◌≤◌, is_some, Bool, true, false, cond, List, [], ◌∷◌, ◌++◌, length, Option, Some, None, Result, Ok, Err}
use Rattle.async_packet.specs.Fields.{largest}
use Rattle.async_packet.specs.Labels.{LabelParts}
use Rattle.async_packet.specs.Packet.{Packet, header_in}
use Rattle.async_packet.specs.Reading.{reading}
use Rattle.bus_transactions.specs.Fitting.{FitsRequest}
use Rattle.bus_transactions.specs.Judging.{AreJudged}
use Rattle.bus_transactions.specs.Wire.{as_sending}
use Rattle.bus_transactions.proofs.FitJudged.{BytesOf, bytes_of, spelled}
use Rattle.label_table.specs.Bodies.{Body, block_read}
use Rattle.label_table.specs.declared.judgement.Asked.{Asked}
use Rattle.label_table.specs.declared.reply.Stale.{Stale}
use Rattle.label_table.specs.History as wire_calls
use Rattle.label_table.specs.Layer.{Finding, Layer, asking_step, expiring_step, judging_step, of_again, of_generation, of_grammar, of_label, of_request, of_response}
use Rattle.label_table.specs.Requests.{reply_kind}
use Rattle.login_table.specs.Table.{Table}
use Rattle.mgmt_agent.specs.declared.decision.ManagerStep.{ManagerStep}
use Rattle.mgmt_agent.specs.declared.operation.Operation.{Operation}
use Rattle.mgmt_agent.specs.Machine.{Machine, reply_step, reply_to, source_in, start_step, start_with}
use Rattle.orb_layout.specs.declared.ask.Ask.{Ask}
use Rattle.orb_layout.specs.declared.ask.Ask.TheVariants.{Nothing, Read, Write}
use Rattle.orb_layout.specs.Pointers.{offset_at}
use Rattle.orb_layout.specs.Replies.{Answer, Expired}
use Rattle.packet_store.specs.declared.sent.Sent.{Sent}
use Rattle.packet_store.specs.Kept.{found_sent}
use Rattle.rbc_disk.specs.Disk.{Disk}
use Rattle.rbc_disk.specs.Runs.{Told}
use Rattle.sbp_bus.specs.declared.requests.Request.{Request}
use Rattle.sbp_bus.specs.Generations.{GenerationsState, node_of}
use Rattle.sbp_bus.specs.Packets.{end_note, judged_note}
use Rattle.sbp_bus.specs.Requests.{find}
use Rattle.sbp_initiator.specs.Receiving.{receive_step}
use Rattle.sbp_journal.specs.Addresses.{Access, Start, management_agent, no_start, register, rom_start, start_at, start_serves}
use Rattle.sbp_journal.specs.declared.cause.Cause.TheVariants as ignored
use Rattle.sbp_journal.specs.declared.cause.Judged.{Judged}
use Rattle.sbp_journal.specs.declared.cause.Judged.TheVariants as judgements
use Rattle.sbp_journal.specs.declared.note.Note.{Note}
use Rattle.sbp_journal.specs.declared.note.Note.TheVariants as notes
use Rattle.sbp_journal.specs.declared.outbox.Outgoing.{Outgoing}
use Rattle.sbp_journal.specs.Outgoings.{OutboxState, empty_outbox}
use Rattle.sbp_journal.specs.Run.{Moment, said}
use Rattle.sbp_journal.specs.Wire.{Terms, terms}
use Rattle.sbp_laws.specs.Agents.{requests_to, target_before, wire_after, wire_before}
use Rattle.sbp_laws.specs.Agents as laws
use Rattle.sbp_laws.specs.Management.{Call, answers, body_for, call_by, call_of, manager_turn, no_call, operator, operator_for, sent_in, source_node, start_in, start_of, started, starts}
use Rattle.sbp_laws.specs.Packets.{finds_label, id_for, sender_in}
use Rattle.sbp_laws.specs.SentRequests.{behind_answer}
use Rattle.sbp_laws.specs.Targets.{Target, for_agent, for_manager, for_nobody, manager_step, over, target_at}
use Rattle.sbp_laws.specs.Turns.{EachTurn, Turn, turn}
use Rattle.target_base.specs.Addresses.{demand_of}
use Rattle.target_base.specs.declared.address.Demand.TheVariants as demands
use Rattle.sbp_target.specs.declared.purpose.Purpose.{Purpose}
use Rattle.sbp_target.specs.declared.purpose.Purpose.TheVariants as purposes
use Rattle.sbp_target.specs.Histories.Judgements.{asked_at}
use Rattle.sbp_target.specs.Nodes.{NodeState, scene as target_scene}
use Rattle.sbp_target.specs.Nodes as target_nodes
use Rattle.sbp_target.specs.Receiving.{answer_in, expired, expired_in, judged_scene, received, received_as, timed_out, with_layer}
use Rattle.sbp_target.specs.Replies.{Whole}
use Rattle.sbp_target.specs.Serving.{answered, is_barred, request_step, serve}
use Rattle.sbp_target.proofs.Histories.Asked.{serves_is}
use Rattle.sbp_target.proofs.Histories.Calling.{Good}
use Rattle.sbp_target.proofs.Histories.Found.{IsFound, found as found_as}
use Rattle.sbp_target.proofs.Histories.Primitives.{expiring_known, live_on}
use Rattle.sbp_world.specs.Agents.Management.Offices.{Agrees, office_of}
use Rattle.sbp_world.specs.Delivering.{marked, whole_of}
use Rattle.sbp_world.specs.Handing.{handed_out}
use Rattle.sbp_world.specs.Hosts.Handing.{AreOthers}
use Rattle.sbp_world.specs.Wire.Wires.{Stands}
use Rattle.sbp_world.specs.Worlds.{Scene, WorldState, initiator_at, with_initiator, with_note, with_target}
use Rattle.sbp_world.proofs.Agents.CrewFirsts.{access_there, agrees}
use Rattle.sbp_world.proofs.Agents.CrewLapse.{handed as lapse_handed}
use Rattle.sbp_world.proofs.Agents.Management.Delivery.{marked_generations}
use Rattle.sbp_world.proofs.Agents.Management.Holding.{good_of, ours, was_sent}
use Rattle.sbp_world.proofs.Agents.Management.Still.{hist}
use Rattle.sbp_world.proofs.FitTarget.Demands.{FitsDemand, answer_small, demand_fits}
use Rattle.sbp_world.proofs.FitTarget.Manager.{managed_fits}
use Rattle.sbp_world.proofs.FitTarget.Nodes.{IfBody, manager_body_fits}
use Rattle.sbp_world.proofs.Lists.Extends.{marked_fresh}
use Rattle.sbp_world.proofs.Wire.Holding.{KnownTo}
use Rattle.turn_laws.specs.Runs.{OfEveryRun}
use Rattle.turn_laws.proofs.Calls.{Cases}
use Rattle.turn_laws.proofs.Effects.{step_same}
use Rattle.turn_laws.proofs.FailureDue.{late_body}
use Rattle.turn_laws.proofs.FailureNotes.{call_is, own_late_calls}
use Rattle.turn_laws.proofs.FailureSides.{step_body}
use Rattle.turn_laws.proofs.FollowSends.{packet_of}
use Rattle.turn_laws.proofs.Gots.{access_is, agent_calls, manager_calls, no_kind, nobody_calls, own_calls_nothing, request_calls, unsolicited_calls}
use Rattle.turn_laws.proofs.Handed.{handed, notes_sent, packet_note}
use Rattle.turn_laws.proofs.ManagedSides.{from_self}
use Rattle.turn_laws.proofs.ManagedWrites.{Found, found_so}
use Rattle.turn_laws.proofs.ManagerPackets.{manage_packets, operation_packets, reply_packets, serve_packets, start_packets}
use Rattle.turn_laws.proofs.OperationFinds.{finds_request, finds_response, spells_request, spells_response}
use Rattle.turn_laws.proofs.OperationSteps.{body_same, step_stays}
use Rattle.turn_laws.proofs.Operators.{IsOperator, laws_name, operator_is, operator_node, sender_is, source_is}
use Rattle.turn_laws.proofs.Pass.{of_every_run}
use Rattle.turn_laws.proofs.Places.{Place}
use Rattle.turn_laws.proofs.RequestLabels.{AreOf}
use Rattle.turn_laws.proofs.RequestPackets.{Sound}
use Rattle.turn_laws.proofs.SentAnswers.{none_due, reply_due}
use Rattle.turn_laws.proofs.SentOwn.{AreFor}
use Rattle.turn_laws.proofs.TurnSends.{SendsAll, all_alone, all_second, response_is}

-- ---- what is asked for where a body is due
abbrev asked_for : (i : ℕ) → (Body → Bool) → Option Body → List laws.Request
asked_for i finds None = []
asked_for i finds (Some body) = requests_to (suc i) (cond (finds body) (Some body) None)

asked_by : (i : ℕ) (finds : Body → Bool) (ask : Ask) (step : ManagerStep) (m : Machine) → sent_in i finds (Some (record step { ask = ask }, m)) ≡ asked_for i finds (body_for ask m)
asked_by i finds Nothing step m = refl
asked_by i finds (Read offset len) step m = refl
asked_by i finds (Write offset len) step m = refl

asked_is : (i : ℕ) (finds : Body → Bool) (r : ManagerStep × Machine) → sent_in i finds (Some r) ≡ asked_for i finds (body_for r.0.ask r.1)
asked_is i finds r = asked_by i finds r.0.ask r.0 r.1

-- ---- one request of an operation at a layer, which finds a label as the laws say
module _ (layer : Layer Purpose) (source i : ℕ) (finds : Body → Bool) where
  record IsAlike (body : Body) : Type 0 where
    found : is_some (asking_step layer source body purposes.Management).0 ≡ finds body
    spells : (asked : Asked) → (asking_step layer source body purposes.Management).0 ≡ Some asked → AreOf body asked.bytes

  module _ (v : WorldState) (there : node_of v.generations 0 source ≡ Some (suc i)) where
    one_asks : (body : Body) → IsAlike body → (r : Option Asked) → (asking_step layer source body purposes.Management).0 ≡ r → AreFor 0 (notes_sent 0 (packet_of source r) v) (asked_for i finds (Some body))
    one_asks body a None e = subst (λ b. AreFor 0 [] (requests_to (suc i) (cond b (Some body) None))) (ap (λ o. is_some o) (sym e) ∙ a.found) tt
    one_asks body a (Some asked) e =
        let packet : Outgoing = record { to = source; label = Some asked.label; bytes = asked.bytes } in
        subst (λ b. AreFor 0 (packet_note (node_of v.generations 0 source) 0 packet v ++ []) (requests_to (suc i) (cond b (Some body) None))) (ap (λ o. is_some o) (sym e) ∙ a.found)
        (subst (λ to. AreFor 0 (packet_note to 0 packet v ++ []) (requests_to (suc i) (Some body))) (sym there) ((refl, (refl, a.spells asked e)), tt))

    all_asks : (body : Option Body) → ((b : Body) → body ≡ Some b → IsAlike b) → AreFor 0 (notes_sent 0 (operation_packets layer source body) v) (asked_for i finds body)
    all_asks None h = tt
    all_asks (Some body) h = one_asks body (h body refl) (asking_step layer source body purposes.Management).0 refl

-- ---- what the laws ask for
abbrev pub requests_for : Terms → Terms → Target → Call → List laws.Request
requests_for wire after T call = sent_in (operator_for call wire T) (finds_label after 0 (suc (operator_for call wire T))) (manager_turn call T)

-- it stands behind the response
abbrev pub AsksFor : List Disk → Turn → Call → Type 0
AsksFor start t no_call = Unit {0}
AsksFor start t call = AreFor 0 (behind_answer start t) (requests_for (wire_before t) (wire_after t) (target_before start t) call)

abbrev pub OperationAsks : List Disk → Turn → Type 0
OperationAsks start t = AsksFor start t (call_of (target_before start t) t)

-- where none is under way nothing is asked for
idle_by : (operation : Option Operation) (m : Machine) (table : Table) (keys : List (List ℕ)) (answer : Answer) → source_in operation ≡ None → (let r = reply_to operation m table keys answer in body_for r.0.ask r.1.0) ≡ None
idle_by None m table keys answer e = refl
idle_by (Some own) m table keys answer e = absurd (let no : Some own.source ≡ None = e in cc)

idle_asks : (m : Machine) (table : Table) (keys : List (List ℕ)) (answer : Answer) → source_in m.operation ≡ None → (let r = reply_step m table keys answer in body_for r.0.ask r.1.0) ≡ None
unfolding reply_step
idle_asks m table keys answer e = idle_by m.operation m table keys answer e

module _ (units ready : ℕ) (has : 0 < units) (start : List Disk) (past : List Moment) (s : Scene) (here : Place units ready start past s) where
  abbrev w : WorldState
  w = s.world

  abbrev node : NodeState
  node = w.target

  abbrev ms : List Moment
  ms = hist past w

  abbrev wire : Terms
  wire = terms ms

  abbrev T : Target
  T = over (target_at start ms)

  good : Good node
  good = good_of units ready here.holds.calls node has here.holds.made

  same : Agrees (office_of T) node
  same = agrees units ready has start w here.holds

  -- ---- a reply
  module _ (note : Note) (rest : List Note) (layer : Layer Purpose) (answer : Answer) where
    abbrev t : Turn
    t = turn ms (said note) rest

    abbrev finds : ℕ → Body → Bool
    finds i = finds_label (terms (said note ∷ ms)) 0 (suc i)

    abbrev r : ManagerStep × (Machine × Table)
    r = reply_step node.manager node.logins node.keys answer

    abbrev AreAlike : ℕ → Type 0
    AreAlike source = (i : ℕ) → IsOperator units ready has start past s here i source → (body : Body) → step_body r ≡ Some body → IsAlike layer source i (finds i) body

    wants : (i : ℕ) → operator wire T.manager.operation ≡ i → requests_for wire (terms (said note ∷ ms)) T (answers answer) ≡ asked_for i (finds i) (body_for r.0.ask r.1.0)
    wants i e =
        ap (λ n. sent_in n (finds n) (manager_turn (answers answer) T)) e ∙ asked_is i (finds i) ((manager_step T answer).0, (manager_step T answer).1.0)
        ∙ ap (λ (x : ManagerStep × (Machine × Table)). asked_for i (finds i) (body_for x.0.ask x.1.0)) (step_same T node same answer)

    abbrev Asked_for : List laws.Request → Type 0
    Asked_for requests = AreFor 0 (behind_answer start t) requests

    reply_asks : (source : Option ℕ) → source_in node.manager.operation ≡ source → SendsAll start t w.generations (reply_packets node layer source answer) → ((n : ℕ) → source ≡ Some n → AreAlike n) → AsksFor start t (answers answer)
    reply_asks None under all h =
        let i = operator wire T.manager.operation in
        subst Asked_for (sym (wants i refl ∙ ap (asked_for i (finds i)) (idle_asks node.manager node.logins node.keys answer under)))
        (subst (λ ns. AreFor 0 ns []) (sym all.is) tt)
    reply_asks (Some source) under all h =
        let i = (here.held.operation source under).0 in
        let of : IsOperator units ready has start past s here i source = (here.held.operation source under).1 in
        let there : node_of all.world.generations 0 source ≡ Some (suc i) = ap (λ (g : GenerationsState). node_of g 0 source) all.bus ∙ operator_node units ready has start past s here i source of in
        let named : operator wire T.manager.operation ≡ i =
        ap (λ (m : Machine). operator wire m.operation) same.manager ∙ operator_is wire node.manager.operation source under ∙ laws_name units ready has start past s here i source of in
        let body : body_for r.0.ask r.1.0 ≡ step_body r = body_same r.0.ask r.1.0 (step_stays node.manager node.logins good.table node.keys source answer under).carried in
        subst Asked_for (sym (wants i named ∙ ap (asked_for i (finds i)) body))
        (subst (λ ns. AreFor 0 ns (asked_for i (finds i) (step_body r))) (sym all.is) (all_asks layer source i (finds i) all.world there (step_body r) (h source refl i of)))

  -- ---- a packet comes to the target
  module _ (serial : ℕ) (one : Sent) (found : found_sent serial w.store.kept ≡ Some one) (zero_to : one.to ≡ 0) where
    abbrev after : Terms
    after = terms (said (notes.Got serial) ∷ ms)

    abbrev Now : List Note → Turn
    Now rest = turn ms (said (notes.Got serial)) rest

    bytes_there : (p : Packet) → reading one.bytes ≡ Ok p → BytesOf p
    bytes_there p read = bytes_of p one.bytes (spelled one.bytes p read) (ours w here.holds.sound.stands serial one found).bytes

    reply_fits : (p : Packet) → BytesOf p → (body : Body) → step_body (reply_step node.manager node.logins node.keys (answer_in p)) ≡ Some body → FitsRequest body
    reply_fits p b body e =
        let r = reply_step node.manager node.logins node.keys (answer_in p) in
        let f = managed_fits (KnownTo w.generations.seen) node.manager node.logins node.keys (answer_in p) (answer_small p b) here.holds.sound.nodes.target_holds.fits.manager in
        subst IfBody e (manager_body_fits r.0.ask r.1.0.outgoing f.ask f.manager.outgoing)

    -- what a call hands out, behind the note of this judgement
    module _ (v : WorldState) (same_bus : v.generations ≡ w.generations) where
      abbrev Asks : Judged → OutboxState → Type 0
      Asks judged o = AsksFor start (turn ms (said (judged_note serial judged)) (handed 0 0 o v)) (call_by (said (judged_note serial judged)) T wire)

      abbrev Told_by : Judged → OutboxState → Type 0
      Told_by judged o = AreOthers o.sides → v.fresh ≡ judged_note serial judged ∷ w.fresh → Stands past (handed_out 0 0 o v) → AreJudged (said (judged_note serial judged) ∷ ms) → Asks judged o

      -- a response
      module _ (o : OutboxState) (others : AreOthers o.sides) (fresh_is : v.fresh ≡ notes.Got serial ∷ w.fresh) (then : Stands past (handed_out 0 0 o v)) (judged : AreJudged (said (notes.Got serial) ∷ ms)) (p : Packet) (read : reading one.bytes ≡ Ok p) (some : is_some (reply_kind p) ≡ true) (label : LabelParts) (layer : Layer Purpose) where
        abbrev Law : Call → Type 0
        Law call = AsksFor start (Now (handed 0 0 o v)) call

        abbrev Is : Option Purpose → Type 0
        Is purpose = judging_step node.layer one.generation one.bytes ≡ (of_response p label purpose, layer)

        finds_so : Is (Some purposes.Management) → (source i : ℕ) → IsOperator units ready has start past s here i source → (body : Body) → step_body (reply_step node.manager node.logins node.keys (answer_in p)) ≡ Some body
            → IsAlike layer source i (finds_label after 0 (suc i)) body
        finds_so e source i of body b =
            let fit = reply_fits p (bytes_there p read) body b in
            record {
              found = finds_response units ready has start past s here serial one found zero_to o v fresh_is then p label (Some purposes.Management) layer e i source of body fit;
              spells = spells_response units ready has start past s here serial one found zero_to o v fresh_is then p label (Some purposes.Management) layer e i source of body fit;
            }

        response : (purpose : Option Purpose) → Is purpose → (x : Whole) → Found node (of_response p label purpose) layer x → o.packets ≡ x.outbox.packets → Law (call_by (said (notes.Got serial)) T wire)
        response None e x f o_is = subst Law (sym (nobody_calls units ready has start past s here serial one found zero_to judged p read some label layer None e refl)) tt
        response (Some purposes.Unsolicited) e x f o_is = subst Law (sym (unsolicited_calls units ready has start past s here serial one found zero_to judged p read some label layer (Some purposes.Unsolicited) e refl)) tt
        response (Some (purposes.Agent place)) e x f o_is = subst Law (sym (agent_calls units ready has start past s here serial one found zero_to judged p read some label layer (Some (purposes.Agent place)) e place refl)) tt
        response (Some purposes.Management) e x f o_is =
            let all = all_alone start (Now (handed 0 0 o v)) w.generations o v same_bus others refl
            (none_due start ms serial (as_sending one) (was_sent w here.holds.sound.stands serial one found) (handed 0 0 o v) (response_is one.bytes p read some)) in
            subst Law (sym (manager_calls units ready has start past s here serial one found zero_to judged p read some label layer (Some purposes.Management) e refl))
            (reply_asks (notes.Got serial) (handed 0 0 o v) layer (answer_in p) (source_in node.manager.operation) refl
            (subst (SendsAll start (Now (handed 0 0 o v)) w.generations) (o_is ∙ f.0) all)
            (λ n under. finds_so e n))

      -- ---- a request
      module _ (p : Packet) (read : reading one.bytes ≡ Ok p) (none : reply_kind p ≡ None) (layer : Layer Purpose) (e : judging_step node.layer one.generation one.bytes ≡ (of_request p, layer)) where
        abbrev access : Access
        access = (access_there p none).access

        abbrev source : ℕ
        source = (header_in p).source

        abbrev i : ℕ
        i = (sender_is units ready has start past s here serial one found zero_to p read layer e).0

        of : IsOperator units ready has start past s here i source
        of = (sender_is units ready has start past s here serial one found zero_to p read layer e).1

        calls : call_by (said (notes.Got serial)) T wire ≡ start_of (start_at access.offset) source access
        calls =
            request_calls units ready has start past s here serial one found zero_to p read none
            ∙ ap (λ a. start_in a (id_for wire 0 (source_node (sender_in (wire.sent serial))))) (access_is units ready has start past s here serial one found zero_to p read ∙ (access_there p none).is)
            ∙ ap (start_in (Some access)) (source_is units ready has start past s here serial one found zero_to p read layer e)

        module _ (o : OutboxState) (others : AreOthers o.sides) where
          abbrev its_turn : Turn
          its_turn = Now (handed 0 0 o v)

          abbrev Starts : Call → Type 0
          Starts call = AsksFor start its_turn call

          abbrev start_finds : ℕ → Body → Bool
          start_finds n = finds_label after 0 (suc n)

          alike : (orb : ℕ) → demand_of (length node.rom) p ≡ demands.Manage orb → IsAlike node.layer source i (start_finds i) (block_read orb 32)
          alike orb d =
              let small : 32 ≤ largest = omega arith in
              let fit : FitsRequest (block_read orb 32) = ((subst (FitsDemand (length node.rom) p) d (demand_fits (length node.rom) p (bytes_there p read))).1, small) in
              record {
                found = finds_request units ready has start past s here serial one found zero_to p read none i source of (block_read orb 32) fit;
                spells = spells_request units ready has start past s here serial one found zero_to i source of (block_read orb 32) fit;
              }

          -- by the operation that is under way
          begins : (operation : Option Operation) (orb : ℕ) → IsAlike node.layer source i (start_finds i) (block_read orb 32) → SendsAll start its_turn w.generations (start_packets node source (start_with operation node.manager source orb))
              → AreFor 0 (behind_answer start its_turn) (sent_in i (start_finds i) (started (start_with operation node.manager source orb)))
          begins (Some own) orb a all = subst (λ ns. AreFor 0 ns []) (sym all.is) tt
          begins None orb a all =
              let there : node_of all.world.generations 0 source ≡ Some (suc i) = ap (λ (g : GenerationsState). node_of g 0 source) all.bus ∙ operator_node units ready has start past s here i source of in
              let body : Body = block_read orb 32 in
              subst (λ ns. AreFor 0 ns (asked_for i (start_finds i) (Some body))) (sym all.is)
              (all_asks node.layer source i (start_finds i) all.world there (Some body) (λ b f. subst (IsAlike node.layer source i (start_finds i)) (let z : body ≡ b = cc in z) a))

          starts_so : (orb : ℕ) → demand_of (length node.rom) p ≡ demands.Manage orb → SendsAll start its_turn w.generations (start_packets node source (start_step node.manager source orb)) → Starts (starts source orb)
          unfolding start_step
          starts_so orb d all =
              subst (λ n. AreFor 0 (behind_answer start its_turn) (sent_in n (start_finds n) (started (start_step T.manager source orb)))) (sym (laws_name units ready has start past s here i source of))
              (subst (λ (m : Machine). AreFor 0 (behind_answer start its_turn) (sent_in i (start_finds i) (started (start_with m.operation m source orb)))) (sym same.manager)
              (begins node.manager.operation orb (alike orb d) all))

          -- what is not served starts nothing
          not_served : (first : Start) → start_serves first access ≡ false → Starts (start_of first source access)
          not_served management_agent f = subst (λ b. Starts (cond b (starts source (offset_at access.payload 0)) no_call)) (sym f) tt
          not_served (register place name) f = tt
          not_served rom_start f = tt
          not_served no_start f = tt

          served : (first : Start) → Some (demand_of (length node.rom) p) ≡ asked_at first access → start_serves first access ≡ true
              → ((orb : ℕ) → demand_of (length node.rom) p ≡ demands.Manage orb → Starts (starts source orb)) → Starts (start_of first source access)
          served management_agent d f h =
              subst (λ b. Starts (cond b (starts source (offset_at access.payload 0)) no_call)) (sym f)
              (h (offset_at access.payload 0) (let z : demand_of (length node.rom) p ≡ demands.Manage (offset_at access.payload 0) = cc in z))
          served (register place name) d f h = tt
          served rom_start d f h = tt
          served no_start d f h = tt

          serves : o.packets ≡ (serve p one.bytes (target_scene node empty_outbox)).outbox.packets → Starts (call_by (said (notes.Got serial)) T wire)
          serves o_is = subst Starts (sym calls) (by (start_serves (start_at access.offset) access) refl)
            where
              begun : (orb : ℕ) → demand_of (length node.rom) p ≡ demands.Manage orb → Starts (starts source orb)
              begun orb d =
                  let b = serve_packets node p one.bytes orb d in
                  let due = reply_due start ms serial (as_sending one) (was_sent w here.holds.sound.stands serial one found) p access read (access_there p none).is (handed 0 0 o v) in
                  starts_so orb d
                  (all_second start its_turn w.generations o v same_bus others refl (ap (λ (ns : List Note). length ns) due) b.first (suc i)
                  (ap (node_of w.generations 0) b.to_is ∙ operator_node units ready has start past s here i source of) (start_packets node source (start_step node.manager source orb)) (o_is ∙ b.is))

              by : (b : Bool) → start_serves (start_at access.offset) access ≡ b → Starts (start_of (start_at access.offset) source access)
              by true f = served (start_at access.offset) (serves_is p access (access_there p none).is (length node.rom) here.holds.rom f) f begun
              by false f = not_served (start_at access.offset) f

        -- a register of another login is answered alone, and starts nothing
        abbrev TellsSo : Judged × target_nodes.Scene → Type 0
        TellsSo x = Told_by x.0 x.1.outbox

        judged_so : TellsSo (request_step p one.bytes (target_scene node empty_outbox))
        unfolding request_step
        judged_so = by (is_barred node p)
          where
            by : (b : Bool) → TellsSo (cond {A = Judged × target_nodes.Scene} b (judgements.Ignored ignored.Login, answered p one.bytes 7 [] (target_scene node empty_outbox)) (judgements.Got, serve p one.bytes (target_scene node empty_outbox)))
            by true others fresh_is then judged = tt
            by false others fresh_is then judged = serves (serve p one.bytes (target_scene node empty_outbox)).outbox others refl

      -- ---- by what is found
      abbrev Given : Option Told → Finding Purpose → Layer Purpose → Judged × Whole
      Given run f layer = received_as run one.bytes f (with_layer layer (whole_of node s.media))

      abbrev TellsAs : Judged × Whole → Type 0
      TellsAs x = Told_by x.0 x.1.outbox

      as_judged : (r : Judged × target_nodes.Scene) (x : Whole) → Told_by r.0 r.1.outbox → TellsAs (judged_scene r x)
      as_judged (judged, t) x h = h

      by_finding : (run : Option Told) (f : Finding Purpose) (layer : Layer Purpose) → judging_step node.layer one.generation one.bytes ≡ (f, layer) → IsFound f node.layer layer one.bytes → TellsAs (Given run f layer)
      by_finding run of_generation layer e f others fresh_is then judged = tt
      by_finding run of_grammar layer e f others fresh_is then judged = tt
      by_finding run of_label layer e f others fresh_is then judged = tt
      by_finding run (of_again p rcode) layer e f others fresh_is then judged = tt
      by_finding run (of_response p label purpose) layer e f others fresh_is then judged =
          let x = (Given run (of_response p label purpose) layer).1 in
          response x.outbox others fresh_is then judged p f.read f.kind label layer purpose e x (found_so node good run s.media.disks one.generation one.bytes (of_response p label purpose) layer e f) refl
      by_finding run (of_request p) layer e f others fresh_is then judged =
          as_judged (request_step p one.bytes (target_scene (record node { layer = layer }) empty_outbox)) (with_layer layer (whole_of node s.media))
          (subst (λ (l : Layer Purpose). (let x = request_step p one.bytes (target_scene (record node { layer = l }) empty_outbox) in Told_by x.0 x.1.outbox)) (sym f.0)
          (judged_so p f.1.read (no_kind (reply_kind p) f.1.kind) layer e)) others fresh_is then judged

      pub target_asks : (run : Option Told) → TellsAs (received run one.generation one.bytes (whole_of node s.media))
      unfolding received
      target_asks run = let f = judging_step node.layer one.generation one.bytes in by_finding run f.0 f.1 refl (found_as node.layer one.generation one.bytes)

  own_asks : (serial : ℕ) (one : Sent) (found : found_sent serial w.store.kept ≡ Some one) (j : ℕ) → one.to ≡ suc j → (judged : Judged) (rest : List Note) → OperationAsks start (turn ms (said (judged_note serial judged)) rest)
  own_asks serial one found j to_is judged rest =
      subst (AsksFor start (turn ms (said (judged_note serial judged)) rest)) (sym (own_calls_nothing units ready has start past s here serial one found j to_is judged)) tt

  -- ---- a transaction of the target times out
  module _ (serial : ℕ) (request : Request) (found : find w.requests serial ≡ Some request) (zero_is : request.node ≡ 0) (o : OutboxState) (v : WorldState) (others : AreOthers o.sides) (same_bus : v.generations ≡ w.generations) where
    abbrev late_turn : Turn
    late_turn = turn ms (said (notes.TimedOut serial)) (handed 0 0 o v)

    abbrev Lapses : Call → Type 0
    Lapses call = AsksFor start late_turn call

    late_asks : (purpose : Option Purpose) (layer : Layer Purpose) → expiring_step node.layer request.peer request.label ≡ (Ok purpose, layer) → o ≡ (timed_out purpose request.peer request.label (target_scene (record node { layer = layer }) empty_outbox)).outbox
        → Lapses (call_by (said (notes.TimedOut serial)) T wire)
    late_asks None layer e o_is =
        subst Lapses (sym (call_is units ready has start past s here serial request found zero_is None layer e for_nobody ((lapse_handed units ready has start w here.holds serial request found zero_is None layer e here.agents.requests here.agents.are here.agents.known).nobody refl))) tt
    late_asks (Some purposes.Unsolicited) layer e o_is =
        subst Lapses (sym (call_is units ready has start past s here serial request found zero_is (Some purposes.Unsolicited) layer e for_nobody ((lapse_handed units ready has start w here.holds serial request found zero_is (Some purposes.Unsolicited) layer e here.agents.requests here.agents.are here.agents.known).unsolicited refl))) tt
    late_asks (Some (purposes.Agent place)) layer e o_is =
        let its = (lapse_handed units ready has start w here.holds serial request found zero_is (Some (purposes.Agent place)) layer e here.agents.requests here.agents.are here.agents.known).agent place refl in
        subst Lapses (sym (call_is units ready has start past s here serial request found zero_is (Some (purposes.Agent place)) layer e (for_agent place its.which) its.is)) tt
    late_asks (Some purposes.Management) layer e o_is =
        let x = expiring_known node.layer layer good.lives request.peer request.label (Some purposes.Management) good.mid.known e in
        let lives = live_on (wire_calls.expired request.peer request.label (Some purposes.Management)) good.lives in
        let packets = manage_packets node Expired layer lives (from_self node good layer lives x.known) in
        let all = all_alone start late_turn w.generations o v same_bus others refl refl in
        subst Lapses (sym (call_is units ready has start past s here serial request found zero_is (Some purposes.Management) layer e for_manager ((lapse_handed units ready has start w here.holds serial request found zero_is (Some purposes.Management) layer e here.agents.requests here.agents.are here.agents.known).operation refl)))
        (reply_asks (notes.TimedOut serial) (handed 0 0 o v) layer Expired (source_in node.manager.operation) refl
        (subst (SendsAll start late_turn w.generations) (ap (λ (y : OutboxState). y.packets) o_is ∙ packets) all)
        (λ n under i of body b. absurd (let no : None ≡ Some body = sym (late_body node.manager node.logins node.keys) ∙ b in cc)))

    abbrev Expires : Result (Option Purpose) Stale × Layer Purpose → Type 0
    Expires r = (done : Unit {0}) (t : target_nodes.Scene) → expired_in r request.peer request.label (target_scene node empty_outbox) ≡ (Ok done, t) → o ≡ t.outbox → Lapses (call_by (said (notes.TimedOut serial)) T wire)

    expires : (r : Result (Option Purpose) Stale × Layer Purpose) → expiring_step node.layer request.peer request.label ≡ r → Expires r
    expires (Ok purpose, layer) e done t f o_is = late_asks purpose layer e (o_is ∙ ap (λ (x : Result (Unit {0}) Stale × target_nodes.Scene). x.1.outbox) (sym f))
    expires (Err stale, layer) e done t f o_is = absurd (let no : Err stale ≡ Ok done = ap (λ (x : Result (Unit {0}) Stale × target_nodes.Scene). x.0) f in cc)

    lapses : (done : Unit {0}) (t : target_nodes.Scene) → expired request.peer request.label (target_scene node empty_outbox) ≡ (Ok done, t) → o ≡ t.outbox → OperationAsks start late_turn
    unfolding expired
    lapses done t e o_is = expires (expiring_step node.layer request.peer request.label) refl done t e o_is

module _ (units ready : ℕ) (has : 0 < units) (start : List Disk) where
  ends : (past : List Moment) (done : Bool) → OperationAsks start (turn past (said (end_note done)) [])
  ends past true = tt
  ends past false = tt

  operation_cases : Cases units ready start (OperationAsks start)
  operation_cases = record {
    heard = λ past s serial again run one found zero_to may others here behind noted.
        let x = received run one.generation one.bytes (whole_of s.world.target s.media) in
        let after = with_target x.1.node s.world in
        let v = with_note (judged_note serial x.0) (marked serial again after) in
        target_asks units ready has start past s here serial one found zero_to v (marked_generations serial again after) run others (ap (λ ns. judged_note serial x.0 ∷ ns) (marked_fresh serial again after)) behind.holds.sound.stands noted.judged;
    heard_own = λ past s serial again one j found to_is inside own here behind noted.
        let x = receive_step one.generation one.bytes empty_outbox (initiator_at s.world j) in
        own_asks units ready has start past s here serial one found j to_is x.0 (handed (suc j) 0 x.1.0 (with_note (judged_note serial x.0) (marked serial again (with_initiator j x.1.1 s.world))));
    late = λ past s serial request done t found node_is e others here behind noted.
        lapses units ready has start past s here serial request found node_is t.outbox (with_note (notes.TimedOut serial) (with_target t.node s.world)) others refl done t e refl;
    late_own = λ past s serial request j outbox state found node_is inside e own here behind noted.
        subst (AsksFor start (turn (hist past s.world) (said (notes.TimedOut serial)) (handed (suc j) 0 outbox (with_note (notes.TimedOut serial) (with_initiator j state s.world)))))
        (sym (own_late_calls units ready has start past s here serial j request found node_is)) tt;
    sees = λ past s others here behind noted. tt;
    sees_own = λ past s j inside own here behind noted. tt;
    ticks = λ past s others here behind noted. tt;
    ends = λ past s done here behind. ends (hist past s.world) done;
    acts = λ past s line j action outbox state inside e own here behind. tt;
    lines = λ past s line event rest behind brings fresh here there. tt;
    begins = λ line initiators is_ready. tt;
  }

-- what the packets are in a turn that is for the operation
pub operation_law : OfEveryRun (λ start past. EachTurn (OperationAsks start) past)
operation_law = of_every_run OperationAsks (λ units ready start has. operation_cases units ready has start)

-- ---- each turn
module _ (start : List Disk) (t : Turn) (sound : Sound start t) where
  abbrev its : Target
  its = target_before start t
