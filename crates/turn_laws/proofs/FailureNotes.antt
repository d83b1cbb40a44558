-- In each turn of every run a failure of the management operation is told exactly where a reply fails it, or its request finds no label.
use Rattle.std.proofs.Common.{arith, ◌≡◌, ◌∙◌, refl, sym, ap, subst, ℕ, suc, ◌+◌, ◌<◌, ◌≤◌, is_some, nat_eq, Bool, true, false, cond, List, [], ◌∷◌, ◌++◌, length, Option, Some, None, Result, Ok, Err}
use Rattle.std.proofs.lemmas.Bool.Decides.{nat_tests}
use Rattle.std.proofs.lemmas.List.Elements.{filter-append}
use Rattle.async_packet.specs.Fields.{largest}
use Rattle.async_packet.specs.Labels.{LabelParts}
use Rattle.async_packet.specs.Packet.{Packet, header_in}
use Rattle.async_packet.specs.Reading.{reading}
use Rattle.bus_transactions.specs.Fitting.{FitsRequest}
use Rattle.bus_transactions.specs.Judging.{AreJudged}
use Rattle.bus_transactions.proofs.FitJudged.{BytesOf, bytes_of, spelled}
use Rattle.label_table.specs.Bodies.{Body, block_read}
use Rattle.label_table.specs.Layer.{Finding, Layer, expiring_step, judging_step, of_again, of_generation, of_grammar, of_label, of_request, of_response}
use Rattle.label_table.specs.Requests.{reply_kind}
use Rattle.label_table.specs.declared.reply.Stale.{Stale}
use Rattle.login_table.specs.Sound.{IsTable}
use Rattle.mgmt_agent.specs.Machine.{reply_step, source_in}
use Rattle.orb_layout.specs.Replies.{Answer, Expired}
use Rattle.packet_store.specs.declared.sent.Sent.{Sent}
use Rattle.packet_store.specs.Kept.{found_sent}
use Rattle.rbc_disk.specs.Disk.{Disk}
use Rattle.rbc_disk.specs.Runs.{Told}
use Rattle.sbp_bus.specs.declared.requests.Request.{Request}
use Rattle.sbp_bus.specs.Generations.{GenerationsState, id_of}
use Rattle.sbp_bus.specs.Packets.{end_note, judged_note}
use Rattle.sbp_bus.specs.Requests.{find}
use Rattle.sbp_bus.specs.Telling as bus
use Rattle.sbp_journal.specs.Outgoings.{OutboxState, empty_outbox}
use Rattle.sbp_journal.specs.Run.{Moment, asked, said}
use Rattle.sbp_journal.specs.Transactions.{Sending}
use Rattle.sbp_journal.specs.Wire.{Terms, terms}
use Rattle.sbp_journal.specs.declared.cause.Cause.TheVariants as ignored
use Rattle.sbp_journal.specs.declared.cause.Judged.{Judged}
use Rattle.sbp_journal.specs.declared.cause.Judged.TheVariants as judgements
use Rattle.sbp_journal.specs.declared.event.Event.{Event}
use Rattle.sbp_journal.specs.declared.note.Note.{Note}
use Rattle.sbp_journal.specs.declared.note.Note.TheVariants as notes
use Rattle.sbp_journal.specs.declared.side.Side.{Side}
use Rattle.sbp_journal.specs.declared.side.Side.TheVariants as sides
use Rattle.sbp_laws.specs.Management.{Call, answer_to, call_by, no_call, source_node, start_in}
use Rattle.sbp_laws.specs.NoteKinds.{is_failure_note, of_kind}
use Rattle.sbp_laws.specs.Packets.{finds_label, id_for, sender_in}
use Rattle.sbp_laws.specs.Targets.{Purpose as TermPurpose, Target, for_agent, for_manager, for_nobody, initiator_with, is_serial, over, purpose_of, target_at}
use Rattle.sbp_laws.specs.Turns.{turn}
use Rattle.sbp_target.specs.declared.purpose.Purpose.{Purpose}
use Rattle.sbp_target.specs.declared.purpose.Purpose.TheVariants as purposes
use Rattle.sbp_target.specs.Nodes.{NodeState, scene as target_scene}
use Rattle.sbp_target.specs.Nodes as target_nodes
use Rattle.sbp_target.specs.Receiving.{answer_in, expired, expired_in, received, received_as, with_layer}
use Rattle.sbp_target.specs.Serving.{answered, is_barred, request_step, serve}
use Rattle.sbp_target.proofs.Histories.Calling.{Good}
use Rattle.sbp_target.proofs.Histories.Found.{IsFound as IsFinding, found as found_as}
use Rattle.sbp_world.specs.Agents.Management.Offices.{Agrees, office_of}
use Rattle.sbp_world.specs.Delivering.{marked, whole_of}
use Rattle.sbp_world.specs.Handing.{handed_out}
use Rattle.sbp_world.specs.Hosts.Handing.{AreOthers, IsOther}
use Rattle.sbp_world.specs.Lines.{weight_in}
use Rattle.sbp_world.specs.Telling.{told}
use Rattle.sbp_world.specs.Wire.Wires.{Stands}
use Rattle.sbp_world.specs.Worlds.{Scene, WorldState, with_note, with_target}
use Rattle.sbp_world.proofs.Agents.CrewFirsts.{access_there, agrees}
use Rattle.sbp_world.proofs.Agents.CrewLapse.{asked as lapse_asked, handed as lapse_handed}
use Rattle.sbp_world.proofs.Agents.Management.Holding.{good_of, ours}
use Rattle.sbp_world.proofs.Agents.Management.Lapse.{from_asked}
use Rattle.sbp_world.proofs.Formed.{IsNoRun}
use Rattle.sbp_world.proofs.Agents.Management.Still.{hist}
use Rattle.sbp_world.proofs.Agents.Purposes.{g, law}
use Rattle.sbp_world.proofs.FitTarget.Demands.{FitsDemand, answer_small, demand_fits}
use Rattle.sbp_world.proofs.FitTarget.Manager.{managed_fits}
use Rattle.sbp_world.proofs.FitTarget.Nodes.{IfBody, manager_body_fits}
use Rattle.sbp_world.proofs.Lists.Extends.{marked_fresh}
use Rattle.sbp_world.proofs.Wire.Holding.{KnownTo}
use Rattle.turn_laws.specs.Failures.{FailsWhereDue, FailuresLaw}
use Rattle.turn_laws.proofs.Calls.{Brings, Cases, calls, injects, loses, refuses, refuses_action, resets, sets_key}
use Rattle.turn_laws.proofs.DecisionNotes.{same_known}
use Rattle.turn_laws.proofs.FailureDue.{DueBy, IsFound, all_fit, demand_due, failure_notes, late_body, reply_due}
use Rattle.turn_laws.proofs.FailureEffects.{failing, failing_of}
use Rattle.turn_laws.proofs.FailureSides.{StepFits, asked_for, delivery_fails, found_fails, lapse_fails, late_fails, second_fails, sight_fails, step_body}
use Rattle.turn_laws.proofs.Gots.{access_is, agent_calls, manager_calls, no_kind, nobody_calls, own_calls_nothing, request_calls, unsolicited_calls}
use Rattle.turn_laws.proofs.Handed.{handed, note_of, notes_told}
use Rattle.turn_laws.proofs.KindNotes.{IsToldKind, kind_handed, own_handed}
use Rattle.turn_laws.proofs.OperationFinds.{finds_request, finds_response}
use Rattle.turn_laws.proofs.Operators.{bus_names, laws_name, sender_is, source_is}
use Rattle.turn_laws.proofs.Pass.{of_every_run}
use Rattle.turn_laws.proofs.Places.{Place}
use Rattle.sbp_world.proofs.Agents.Management.Delivery.{marked_generations}

-- ---- among the notes: those of the failures that are told
failure_kind : IsToldKind is_failure_note
failure_kind = record { no_packet = λ serial generation from to bytes. refl }

no_own : (note : Note) → IsNoRun note → is_failure_note note ≡ false
no_own (notes.ManageFailed i cause) h = absurd h
no_own note h = refl

one_noted : (side : Side) (w : WorldState) → IsOther side → of_kind is_failure_note (note_of side w) ≡ failure_notes w.generations (failing_of side)
one_noted (sides.Own note) w o = absurd o
one_noted side w o = refl

notes_both : (known : GenerationsState) (side : Side) (later : List Side) → failure_notes known (failing_of side) ++ failure_notes known later ≡ failure_notes known (failing_of side ++ later)
notes_both known (sides.ManageFailed node cause) later = refl
notes_both known side later = refl

all_noted : (weight : ℕ) (later : List Side) (w : WorldState) → AreOthers later → of_kind is_failure_note (notes_told weight later w) ≡ failure_notes w.generations (failing later)
all_noted weight [] w o = refl
all_noted weight (side ∷ later) w o =
    let v = told weight side w in
    filter-append is_failure_note (note_of side w) (notes_told weight later v)
    ∙ ap (λ ns. ns ++ of_kind is_failure_note (notes_told weight later v)) (one_noted side w o.0)
    ∙ ap (λ ns. failure_notes w.generations (failing_of side) ++ ns) (all_noted weight later v o.1 ∙ ap (λ known. failure_notes known (failing later)) (same_known weight side w))
    ∙ notes_both w.generations side (failing later)

target_noted : (outbox : OutboxState) (w : WorldState) → AreOthers outbox.sides → of_kind is_failure_note (handed 0 0 outbox w) ≡ failure_notes w.generations (failing outbox.sides)
target_noted outbox w o = kind_handed is_failure_note failure_kind 0 0 outbox w ∙ all_noted 0 outbox.sides w o

none_noted : (outbox : OutboxState) (w : WorldState) → AreOthers outbox.sides → failing outbox.sides ≡ [] → of_kind is_failure_note (handed 0 0 outbox w) ≡ []
none_noted outbox w o e = target_noted outbox w o ∙ ap (failure_notes w.generations) e

-- how a request is judged that comes to a register of another login, or not
abbrev barred_as : Bool → Judged
barred_as true = judgements.Ignored ignored.Login
barred_as false = judgements.Got

barred_is : (p : Packet) (bytes : List ℕ) (s : target_nodes.Scene) → (request_step p bytes s).0 ≡ barred_as (is_barred s.node p)
unfolding request_step
barred_is p bytes s = by (is_barred s.node p)
  where
    by : (b : Bool) → (cond {A = Judged × target_nodes.Scene} b (judgements.Ignored ignored.Login, answered p bytes 7 [] s) (judgements.Got, serve p bytes s)).0 ≡ barred_as b
    by true = refl
    by false = refl

module _ (units ready : ℕ) (has : 0 < units) (start : List Disk) where
  module _ (past : List Moment) (s : Scene) (here : Place units ready start past s) where
    abbrev w : WorldState
    w = s.world

    abbrev node : NodeState
    node = w.target

    abbrev ms : List Moment
    ms = hist past w

    abbrev wire : Terms
    wire = terms ms

    abbrev T : Target
    T = over (target_at start ms)

    abbrev known : GenerationsState
    known = w.generations

    good : Good node
    good = good_of units ready here.holds.calls node has here.holds.made

    table : IsTable node.logins
    table = good.table

    -- the notes that are told, and what the laws want behind this first note
    abbrev Due : Note → List Side → Type 0
    Due note told_sides = failure_notes known told_sides ≡ DueBy wire (terms (said note ∷ ms)) T (call_by (said note) T wire)

    same : Agrees (office_of T) node
    same = agrees units ready has start w here.holds

    fits : (source : ℕ) (answer : Answer) → source_in node.manager.operation ≡ Some source → StepFits source (reply_step node.manager node.logins node.keys answer)
    fits = all_fit wire wire T node same table known

    -- who has the operation
    of_operation : (source : ℕ) → source_in node.manager.operation ≡ Some source → bus.initiator_of known source ≡ initiator_with wire source
    of_operation source e =
        let of = here.held.operation source e in bus_names units ready has start past s here of.0 source of.1 ∙ sym (laws_name units ready has start past s here of.0 source of.1)

    -- ---- a packet comes to the target
    module _ (serial : ℕ) (run : Option Told) (one : Sent) (found : found_sent serial w.store.kept ≡ Some one) where
      abbrev Called : Judged → Call
      Called judged = call_by (said (judged_note serial judged)) T wire

      own_due : (j : ℕ) → one.to ≡ suc j → (judged : Judged) → DueBy wire (terms (said (judged_note serial judged) ∷ ms)) T (Called judged) ≡ []
      own_due j to_is judged = ap (DueBy wire (terms (said (judged_note serial judged) ∷ ms)) T) (own_calls_nothing units ready has start past s here serial one found j to_is judged)

      module _ (zero_to : one.to ≡ 0) where
        abbrev after : Terms
        after = terms (said (notes.Got serial) ∷ ms)

        abbrev DueGot : Call → List Note
        DueGot call = DueBy wire after T call

        bytes_there : (p : Packet) → reading one.bytes ≡ Ok p → BytesOf p
        bytes_there p read = bytes_of p one.bytes (spelled one.bytes p read) (ours w here.holds.sound.stands serial one found).bytes

        fits_body : (p : Packet) → BytesOf p → (body : Body) → step_body (reply_step node.manager node.logins node.keys (answer_in p)) ≡ Some body → FitsRequest body
        fits_body p b body e =
            let r = reply_step node.manager node.logins node.keys (answer_in p) in
            let f = managed_fits (KnownTo known.seen) node.manager node.logins node.keys (answer_in p) (answer_small p b) here.holds.sound.nodes.target_holds.fits.manager in
            subst IfBody e (manager_body_fits r.0.ask r.1.0.outgoing f.ask f.manager.outgoing)

        -- a response
        module _ (outbox : OutboxState) (v : WorldState) (then : Stands past (handed_out 0 0 outbox v)) (fresh_is : v.fresh ≡ notes.Got serial ∷ w.fresh) (judged : AreJudged (said (notes.Got serial) ∷ ms)) (p : Packet) (read : reading one.bytes ≡ Ok p) (some : is_some (reply_kind p) ≡ true) (label : LabelParts) (layer : Layer Purpose) where
          abbrev Is : Option Purpose → Type 0
          Is purpose = judging_step node.layer one.generation one.bytes ≡ (of_response p label purpose, layer)

          finds_body : Is (Some purposes.Management) → (n : ℕ) → source_in node.manager.operation ≡ Some n → (body : Body) → step_body (reply_step node.manager node.logins node.keys (answer_in p)) ≡ Some body → IsFound layer n (finds_label after 0 (suc (initiator_with wire n))) body
          finds_body e n f body b =
              let of = here.held.operation n f in
              finds_response units ready has start past s here serial one found zero_to outbox v fresh_is then p label (Some purposes.Management) layer e of.0 n of.1 body (fits_body p (bytes_there p read) body b)
              ∙ ap (λ k. finds_label after 0 (suc k) body) (sym (laws_name units ready has start past s here of.0 n of.1))

          response : (purpose : Option Purpose) → Is purpose → Due (notes.Got serial) (found_fails node fits good (of_response p label purpose) layer)
          response None e = sym (ap DueGot (nobody_calls units ready has start past s here serial one found zero_to judged p read some label layer None e refl))
          response (Some purposes.Unsolicited) e = sym (ap DueGot (unsolicited_calls units ready has start past s here serial one found zero_to judged p read some label layer (Some purposes.Unsolicited) e refl))
          response (Some purposes.Management) e =
              reply_due wire after T node same table known layer (answer_in p) (source_in node.manager.operation) refl (λ n f. (of_operation n f, finds_body e n f))
              ∙ sym (ap DueGot (manager_calls units ready has start past s here serial one found zero_to judged p read some label layer (Some purposes.Management) e refl))
          response (Some (purposes.Agent place)) e = sym (ap DueGot (agent_calls units ready has start past s here serial one found zero_to judged p read some label layer (Some (purposes.Agent place)) e place refl))

        -- a request
        request : (p : Packet) → reading one.bytes ≡ Ok p → reply_kind p ≡ None → (layer : Layer Purpose) → judging_step node.layer one.generation one.bytes ≡ (of_request p, layer) → (b : Bool) → Due (judged_note serial (barred_as b)) (asked_for node fits b p)
        request p read none layer e true = refl
        request p read none layer e false =
            let there = access_there p none in
            let source = (header_in p).source in
            let of = sender_is units ready has start past s here serial one found zero_to p read layer e in
            let named = bus_names units ready has start past s here of.0 source of.1 ∙ sym (laws_name units ready has start past s here of.0 source of.1) in
            let called = request_calls units ready has start past s here serial one found zero_to p read none
            ∙ ap (λ a. start_in a (id_for wire 0 (source_node (sender_in (wire.sent serial))))) (access_is units ready has start past s here serial one found zero_to p read ∙ there.is)
            ∙ ap (start_in (Some there.access)) (source_is units ready has start past s here serial one found zero_to p read layer e) in
            let small : 32 ≤ largest = omega arith in
            demand_due wire after T node same table known p there.access source there.is here.holds.rom named
            (λ orb f. finds_request units ready has start past s here serial one found zero_to p read none of.0 source of.1 (block_read orb 32)
            ((subst (FitsDemand (length node.rom) p) f (demand_fits (length node.rom) p (bytes_there p read))).1, small)
            ∙ ap (λ k. finds_label after 0 (suc k) (block_read orb 32)) (sym (laws_name units ready has start past s here of.0 source of.1)))
            ∙ sym (ap DueGot called)

        abbrev Finds : Finding Purpose → Layer Purpose → Judged → Type 0
        Finds f layer judged = (judging_step node.layer one.generation one.bytes ≡ (f, layer)) × (judged ≡ (received_as run one.bytes f (with_layer layer (whole_of node s.media))).0)

        module _ (outbox : OutboxState) (v : WorldState) (then : Stands past (handed_out 0 0 outbox v)) where
          by_finding : (f : Finding Purpose) (layer : Layer Purpose) (judged : Judged) → Finds f layer judged → IsFinding f node.layer layer one.bytes → v.fresh ≡ judged_note serial judged ∷ w.fresh → AreJudged (said (judged_note serial judged) ∷ ms) → Due (judged_note serial judged) (found_fails node fits good f layer)
          by_finding of_generation layer judged e f fresh_is j = subst (λ x. Due (judged_note serial x) []) (sym e.1) refl
          by_finding of_grammar layer judged e f fresh_is j = subst (λ x. Due (judged_note serial x) []) (sym e.1) refl
          by_finding of_label layer judged e f fresh_is j = subst (λ x. Due (judged_note serial x) []) (sym e.1) refl
          by_finding (of_again p rcode) layer judged e f fresh_is j = subst (λ x. Due (judged_note serial x) []) (sym e.1) refl
          by_finding (of_response p label purpose) layer judged e f fresh_is j =
              subst (λ x. Due (judged_note serial x) (found_fails node fits good (of_response p label purpose) layer)) (sym e.1)
              (response outbox v then (fresh_is ∙ ap (λ x. judged_note serial x ∷ w.fresh) e.1) (subst (λ x. AreJudged (said (judged_note serial x) ∷ ms)) e.1 j) p f.read f.kind label layer purpose e.0)
          by_finding (of_request p) layer judged e f fresh_is j =
              let at = target_scene (record node { layer = layer }) empty_outbox in
              let is : judged ≡ barred_as (is_barred node p) = e.1 ∙ barred_is p one.bytes at ∙ ap (λ (l : Layer Purpose). barred_as (is_barred (record node { layer = l }) p)) f.0 in
              subst (λ x. Due (judged_note serial x) (asked_for node fits (is_barred node p) p)) (sym is)
              (request p f.1.read (no_kind (reply_kind p) f.1.kind) layer e.0 (is_barred node p))

        -- what fails of a packet that is judged so is due
        abbrev FailsDuly : WorldState → Judged → OutboxState → Type 0
        FailsDuly v judged told = v.fresh ≡ judged_note serial judged ∷ w.fresh → AreJudged (said (judged_note serial judged) ∷ ms) → Due (judged_note serial judged) (failing told.sides)

        target_due : (outbox : OutboxState) (v : WorldState) → Stands past (handed_out 0 0 outbox v) → (let x = received run one.generation one.bytes (whole_of node s.media) in FailsDuly v x.0 x.1.outbox)
        unfolding received
        target_due outbox v then fresh_is j =
            let f = judging_step node.layer one.generation one.bytes in
            let x = received run one.generation one.bytes (whole_of node s.media) in
            ap (failure_notes known) (delivery_fails node fits good run s.media.disks one.generation one.bytes)
            ∙ by_finding outbox v then f.0 f.1 x.0 (refl, refl) (found_as node.layer one.generation one.bytes) fresh_is j

    -- ---- a transaction of the target times out
    module _ (serial : ℕ) (request : Request) (found : find w.requests serial ≡ Some request) (zero_is : request.node ≡ 0) where
      abbrev DueLate : Call → List Note
      DueLate call = DueBy wire (terms (said (notes.TimedOut serial) ∷ ms)) T call

      module _ (purpose : Option Purpose) (layer : Layer Purpose) (e : expiring_step node.layer request.peer request.label ≡ (Ok purpose, layer)) where
        sender_zero : is_serial (sender_in (wire.sent serial)) 0 ≡ true
        sender_zero =
            let a = lapse_asked units ready has start w here.holds serial request found zero_is purpose layer e in
            let from = a.from in
            ap (λ so. is_serial (sender_in so) 0) a.sent ∙ (let z : nat_eq a.packet.from 0 ≡ true = grind (arith, nat_tests) in z)

        pub call_is : (for : TermPurpose) → purpose_of T serial ≡ for → call_by (said (notes.TimedOut serial)) T wire ≡ answer_to for Expired
        call_is for f = ap (λ b. cond b (answer_to (purpose_of T serial) Expired) no_call) sender_zero ∙ ap (λ x. answer_to x Expired) f

      late_due : (purpose : Option Purpose) (layer : Layer Purpose) → expiring_step node.layer request.peer request.label ≡ (Ok purpose, layer) → Due (notes.TimedOut serial) (late_fails node fits good (Ok purpose) layer)
      late_due None layer e = sym (ap DueLate (call_is None layer e for_nobody ((lapse_handed units ready has start w here.holds serial request found zero_is None layer e here.agents.requests here.agents.are here.agents.known).nobody refl)))
      late_due (Some purposes.Unsolicited) layer e = sym (ap DueLate (call_is (Some purposes.Unsolicited) layer e for_nobody ((lapse_handed units ready has start w here.holds serial request found zero_is (Some purposes.Unsolicited) layer e here.agents.requests here.agents.are here.agents.known).unsolicited refl)))
      late_due (Some (purposes.Agent place)) layer e =
          let its = (lapse_handed units ready has start w here.holds serial request found zero_is (Some (purposes.Agent place)) layer e here.agents.requests here.agents.are here.agents.known).agent place refl in sym (ap DueLate (call_is (Some (purposes.Agent place)) layer e (for_agent place its.which) its.is))
      late_due (Some purposes.Management) layer e =
          reply_due wire (terms (said (notes.TimedOut serial) ∷ ms)) T node same table known layer Expired (source_in node.manager.operation) refl
          (λ n f. (of_operation n f, λ body b. absurd (let no : None ≡ Some body = sym (late_body node.manager node.logins node.keys) ∙ b in cc)))
          ∙ sym (ap DueLate (call_is (Some purposes.Management) layer e for_manager ((lapse_handed units ready has start w here.holds serial request found zero_is (Some purposes.Management) layer e here.agents.requests here.agents.are here.agents.known).operation refl)))

      -- a transaction that is under way times out
      abbrev Lapses : Result (Option Purpose) Stale × Layer Purpose → Unit {0} → target_nodes.Scene → Type 0
      Lapses r done t = expired_in r request.peer request.label (target_scene node empty_outbox) ≡ (Ok done, t)

      lapsed_due : (r : Result (Option Purpose) Stale × Layer Purpose) → expiring_step node.layer request.peer request.label ≡ r → (done : Unit {0}) (t : target_nodes.Scene) → Lapses r done t
          → Due (notes.TimedOut serial) (late_fails node fits good r.0 r.1)
      lapsed_due (Ok purpose, layer) e done t f = late_due purpose layer e
      lapsed_due (Err stale, layer) e done t f = absurd (let no : Err stale ≡ Ok done = ap (λ (x : Result (Unit {0}) Stale × target_nodes.Scene). x.0) f in cc)

      lapse_due : (done : Unit {0}) (t : target_nodes.Scene) → expired request.peer request.label (target_scene node empty_outbox) ≡ (Ok done, t) → Due (notes.TimedOut serial) (failing t.outbox.sides)
      unfolding expired
      lapse_due done t e =
          let r = expiring_step node.layer request.peer request.label in
          ap (λ (x : Result (Unit {0}) Stale × target_nodes.Scene). failure_notes known (failing x.1.outbox.sides)) (sym e)
          ∙ ap (failure_notes known) (lapse_fails node fits good request.peer request.label) ∙ lapsed_due r refl done t e

  -- ---- the turns of the calls
  line_fails : (line : ℕ) (s : Scene) (past : List Moment) (event : Event) (rest : List Note) → Brings line s event rest → FailsWhereDue start (turn past (asked line event) rest)
  line_fails line s past event rest (calls is_event c) = refl
  line_fails line s past event rest (refuses is_event number) = refl
  line_fails line s past event rest (refuses_action j action number e) = refl
  line_fails line s past event rest (resets physical generation e) = refl
  line_fails line s past event rest (loses serial) = refl
  line_fails line s past event rest (sets_key unit key) = refl
  line_fails line s past event rest (injects j bytes serial generation from to) = refl

  end_fails : (before : List Moment) (done : Bool) → FailsWhereDue start (turn before (said (end_note done)) [])
  end_fails before true = refl
  end_fails before false = refl

  -- a time-out of an initiator is none of the target's
  module _ (past : List Moment) (s : Scene) (here : Place units ready start past s) (serial i : ℕ) (request : Request) (found : find s.world.requests serial ≡ Some request) (node_is : request.node ≡ suc i) where
    abbrev own_wire : Terms
    own_wire = terms (hist past s.world)

    abbrev own_terms : Target
    own_terms = over (target_at start (hist past s.world))

    abbrev CallNow : Bool → Call
    CallNow b = cond b (answer_to (purpose_of own_terms serial) Expired) no_call

    by_sender : (so : Option Sending) → own_wire.sent serial ≡ so → CallNow (is_serial (sender_in (own_wire.sent serial)) 0) ≡ no_call
    by_sender None e = ap (λ x. CallNow (is_serial (sender_in x) 0)) e
    by_sender (Some q) e =
        let from = from_asked start s.world here.holds.sound.stands (g units ready has start s.world here.holds) (law units ready has start s.world here.holds) here.holds.at serial request found q e ∙ node_is in
        let away : nat_eq q.from 0 ≡ false = grind (arith, nat_tests) in
        ap (λ x. CallNow (is_serial (sender_in x) 0)) e ∙ ap CallNow away

    pub own_late_calls : call_by (said (notes.TimedOut serial)) own_terms own_wire ≡ no_call
    own_late_calls = by_sender (own_wire.sent serial) refl

  pub failure_cases : Cases units ready start (FailsWhereDue start)
  failure_cases = record {
    heard = λ past s serial again run one found zero_to may others here behind noted.
        let x = received run one.generation one.bytes (whole_of s.world.target s.media) in
        let after = with_target x.1.node s.world in
        let v = with_note (judged_note serial x.0) (marked serial again after) in
        target_noted x.1.outbox v others ∙ ap (λ known. failure_notes known (failing x.1.outbox.sides)) (marked_generations serial again after)
        ∙ target_due past s here serial run one found zero_to x.1.outbox v behind.holds.sound.stands (ap (λ ns. judged_note serial x.0 ∷ ns) (marked_fresh serial again after)) noted.judged;
    heard_own = λ past s serial again one j found to_is inside own here behind judged.
        own_handed is_failure_note failure_kind no_own (suc j) 0 _ _ own ∙ sym (own_due past s here serial None one found j to_is _);
    late = λ past s serial request done t found node_is e others here behind judged.
        target_noted t.outbox (with_note (notes.TimedOut serial) (with_target t.node s.world)) others ∙ lapse_due past s here serial request found node_is done t e;
    late_own = λ past s serial request j outbox state found node_is inside e own here behind judged.
        own_handed is_failure_note failure_kind no_own (suc j) 0 outbox _ own
        ∙ sym (ap (DueBy (terms (hist past s.world)) (terms (said (notes.TimedOut serial) ∷ hist past s.world)) (over (target_at start (hist past s.world)))) (own_late_calls past s here serial j request found node_is));
    sees = λ past s others here behind judged.
        let latest = s.world.generations.latest in none_noted _ _ others (sight_fails s.world.target (good past s here) latest.generation (id_of latest 0));
    sees_own = λ past s j inside own here behind judged. own_handed is_failure_note failure_kind no_own (suc j) 0 _ _ own;
    ticks = λ past s others here behind judged. none_noted _ _ others (second_fails s.world.target);
    ends = λ past s done here behind. end_fails (hist past s.world) done;
    acts = λ past s line j action outbox state inside e own here behind. own_handed is_failure_note failure_kind no_own (j + 1) (weight_in action) outbox _ own;
    lines = λ past s line event rest behind brings fresh here there. line_fails line s (hist past s.world) event rest brings;
    begins = λ line initiators is_ready. refl;
  }

pub failures_law : FailuresLaw
failures_law = of_every_run FailsWhereDue (λ units ready start has. failure_cases units ready has start)
