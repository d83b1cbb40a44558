-- In each turn of every run an unsolicited status is sent only to a node to which none is under way, and the label of none rests: the target keeps a list of these nodes, and whom
-- the terms have one pending to stands in it.
use Rattle.std.proofs.Common.{arith, ◌≡◌, ◌∙◌, refl, sym, ap, subst, inl, inr, ℕ, zero, suc, ◌+◌, ◌<◌, ◌≤◌, ◌==◌, ◌&&◌, ◌||◌, not, Bool, true, false, cond, List, [], ◌∷◌, ◌++◌, length, Option, Some, None, Result}
use Rattle.std.specs.List.{list_any}
use Rattle.std.proofs.Math.ListN.{length-set}
use Rattle.async_packet.specs.Labels.{LabelParts}
use Rattle.async_packet.specs.Packet.{Packet, header_in}
use Rattle.bus_transactions.specs.Wire.{as_sending}
use Rattle.label_table.specs.Bodies.{block_write}
use Rattle.label_table.specs.History as wire_calls
use Rattle.label_table.specs.Layer.{Finding, Layer, asking_step, judging_step, of_again, of_generation, of_grammar, of_label, of_request, of_response}
use Rattle.label_table.specs.declared.judgement.Asked.{Asked}
use Rattle.label_table.specs.declared.reply.Stale.{Stale}
use Rattle.login_table.specs.Table.{expired_ids, is_live}
use Rattle.login_table.specs.declared.login.Login.{Login}
use Rattle.media_bay.specs.Unsolicited.{block}
use Rattle.mgmt_agent.specs.Machine.{reply_step as manager_reply, source_in}
use Rattle.orb_layout.specs.Replies.{Answer}
use Rattle.packet_store.specs.Kept.{found_sent}
use Rattle.packet_store.specs.declared.sent.Sent.{Sent}
use Rattle.rbc_disk.specs.Disk.{Disk, disk_at}
use Rattle.rbc_disk.specs.Runs.{Told}
use Rattle.sbp_bus.specs.Generations.{id_of}
use Rattle.sbp_bus.specs.Packets.{end_note, judged_note}
use Rattle.sbp_bus.specs.Places.{or_nobody}
use Rattle.sbp_bus.specs.declared.places.Holder.{Holder}
use Rattle.sbp_initiator.specs.Receiving.{receive_step}
use Rattle.sbp_initiator.specs.Seeing.{see_step}
use Rattle.sbp_journal.specs.Outgoings.{OutboxState, empty_outbox}
use Rattle.sbp_journal.specs.Run.{Moment, asked, said}
use Rattle.sbp_journal.specs.Wire.{Terms, terms}
use Rattle.sbp_journal.specs.declared.cause.Cause.TheVariants as causes
use Rattle.sbp_journal.specs.declared.cause.Judged.{Judged}
use Rattle.sbp_journal.specs.declared.cause.Judged.TheVariants as judgements
use Rattle.sbp_journal.specs.declared.event.Event.{Event}
use Rattle.sbp_journal.specs.declared.event.Event.TheVariants as events
use Rattle.sbp_journal.specs.declared.note.Note.{Note}
use Rattle.sbp_journal.specs.declared.note.Note.TheVariants as notes
use Rattle.sbp_laws.specs.MediaLaw.{is_pending, is_push_note}
use Rattle.sbp_laws.specs.NoteKinds.{of_kind}
use Rattle.sbp_laws.specs.Targets.{over, target_at}
use Rattle.sbp_laws.specs.Turns.{turn}
use Rattle.sbp_target.specs.Calls.{receives}
use Rattle.sbp_target.specs.Histories.Layers.{first_of, layer_after}
use Rattle.sbp_target.specs.Histories.Sides.{Announced, Announces, agent_tells, announced_as, announced_at, announced_from, announced_if, announced_to, decision_changes, delivery_tells, operation_tells, request_changes, unsent_then}
use Rattle.sbp_target.specs.Management.{with_manager}
use Rattle.sbp_target.specs.Nodes.{NodeState, desk_at, login_at}
use Rattle.sbp_target.specs.Nodes as target
use Rattle.sbp_target.specs.Receiving.{answer_in, concluded, seen, ticked, received, received_as, with_layer}
use Rattle.sbp_target.specs.Replies.{Whole, came, served_login}
use Rattle.sbp_target.specs.Serving.{is_barred}
use Rattle.sbp_target.specs.Units.{hears, is_pending as is_listed}
use Rattle.sbp_target.specs.declared.purpose.Purpose.{Purpose}
use Rattle.sbp_target.specs.declared.purpose.Purpose.TheVariants as purposes
use Rattle.sbp_target.proofs.Histories.Calling.{Good}
use Rattle.sbp_target.proofs.Histories.Found.{IsFound, found as found_as}
use Rattle.sbp_target.proofs.Histories.Primitives.{closing_known, live_on}
use Rattle.sbp_target.proofs.Histories.Seats.{Lives}
use Rattle.sbp_target.proofs.Histories.Told.{side_law}
use Rattle.sbp_world.specs.Delivering.{faults_after, marked, whole_of}
use Rattle.sbp_world.specs.Hosts.Handing.{AreOthers}
use Rattle.sbp_world.specs.Lines.{weight_in}
use Rattle.sbp_world.specs.Making.{new_world, ready_logins}
use Rattle.sbp_world.specs.Nodes.{told_seen, with_seen}
use Rattle.sbp_world.specs.Runs.{beginning}
use Rattle.sbp_world.specs.Telling.{holder}
use Rattle.sbp_world.specs.Worlds.{Scene, WorldState, initiator_at, with_initiator, with_note, with_target, without_notes}
use Rattle.sbp_world.proofs.Agents.Management.Begins.{first_past}
use Rattle.sbp_world.proofs.Agents.Management.Calm as calm
use Rattle.sbp_world.proofs.Agents.Management.Calm.{AreQuiet, From}
use Rattle.sbp_world.proofs.Agents.Management.Holding.{good_of, was_sent}
use Rattle.sbp_world.proofs.Agents.Management.Still.{hist}
use Rattle.sbp_world.proofs.Common.{untrue}
use Rattle.sbp_world.proofs.Formed.{AreOwn}
use Rattle.turn_laws.specs.Alone.{AloneLaw, AreAlone, PushesAlone}
use Rattle.turn_laws.proofs.Handed.{handed, notes_told}
use Rattle.turn_laws.proofs.KindNotes.{kind_handed, own_handed}
use Rattle.turn_laws.proofs.Announcing.{own_push, push_kind, second_of}
use Rattle.turn_laws.proofs.Calls.{Brings, CarriedCases, calls, injects, loses, refuses, refuses_action, resets, sets_key}
use Rattle.turn_laws.proofs.LaterTerms.{Pushes}
use Rattle.turn_laws.proofs.ManagedSides.{begins, from_self}
use Rattle.turn_laws.proofs.PendingFirsts.{less_got}
use Rattle.turn_laws.proofs.PendingKept.{Id}
use Rattle.turn_laws.proofs.Pass.{Begins, of_every_carried}
use Rattle.turn_laws.proofs.PendingHeard.{heard_kept, late_kept, marked_same}
use Rattle.turn_laws.proofs.PendingOwn.{act_turn, brought_kept, end_kept, heard_injected, heard_leaves, late_leaves, late_same, own_turn, sight_kept, sight_leaves, tick_kept}
use Rattle.turn_laws.proofs.PendingTurns.{Kept, begun_kept}
use Rattle.turn_laws.proofs.Places.{Place}
use Rattle.turn_laws.proofs.PushSerials.{Apart, Has}
use Rattle.turn_laws.proofs.PushSides.{AreSilent, NoPushes, if_pushes, decision_silent, first_none, last_noted, plain_none, pushes_in, pushes_none, quiet_before, request_silent, silent_none, sight_silent, expired_silent}
use Rattle.turn_laws.proofs.SerialsStay.{IsNoSent, ends_turn}
use Rattle.turn_laws.proofs.StatusOnce.{keeps_pending}
use Rattle.turn_laws.proofs.Cuts.{marked_holder}

-- no note of one
no_notes : (start : List Disk) (past : List Moment) (first : Moment) (rest : List Note) → of_kind is_push_note rest ≡ [] → PushesAlone start (turn past first rest)
no_notes start past first rest e = subst (AreAlone (terms (first ∷ past)) (over (target_at start past)).pushes) (sym e) tt

any_first : (f : ℕ → Bool) (x : ℕ) (xs : List ℕ) → (f x ≡ true → ⊥) → list_any f xs ≡ false → (f x || list_any f xs) ≡ false
any_first f x xs h rest = by (f x) refl
  where
    by : (b : Bool) → f x ≡ b → (f x || list_any f xs) ≡ false
    by true e = absurd (h e)
    by false e = ap (λ b. b || list_any f xs) e ∙ rest

pub any_none : (f : ℕ → Bool) (xs : List ℕ) → ((r : ℕ) → Has xs r → f r ≡ true → ⊥) → list_any f xs ≡ false
any_none f [] h = refl
any_none f (x ∷ xs) h = any_first f x xs (λ e. h x (inl refl) e) (any_none f xs (λ r k. h r (inr k)))

-- ---- those of a disc that came
module _ (node : NodeState) (H : ℕ → Holder) (wire : Terms) (pushes : List ℕ) (unit from : ℕ) (spared : (p : ℕ) (login : Login) → login_at node p ≡ Some login → is_live login ≡ true → is_listed login.node node.pending ≡ false → list_any (is_pending wire (suc (H p).initiator)) pushes ≡ false) where
  abbrev Grown : List ℕ → Type 0
  Grown pending = (x : ℕ) → is_listed x node.pending ≡ true → is_listed x pending ≡ true

  abbrev Fine : Announced → Type 0
  Fine a = AreAlone wire pushes (pushes_in H a.0)

  not_listed : (x : ℕ) (pending : List ℕ) → Grown pending → is_listed x pending ≡ false → is_listed x node.pending ≡ false
  not_listed x pending g e = by (is_listed x node.pending) refl
    where
      by : (b : Bool) → is_listed x node.pending ≡ b → b ≡ false
      by true f = untrue (sym e ∙ g x f)
      by false f = refl

  module _ (place : ℕ) (layer : Layer Purpose) (pending : List ℕ) (g : Grown pending) (more : Layer Purpose → List ℕ → Announced) (rest : (l : Layer Purpose) (p : List ℕ) → Grown p → Fine (more l p)) where
    fine_as : (login : Login) → login_at node place ≡ Some login → is_live login ≡ true → is_listed login.node pending ≡ false → (a : Option Asked × Layer Purpose) → Fine (announced_as place login.node pending more a)
    fine_as login e live f (Some given, l) =
        (spared place login e live (not_listed login.node pending g f), rest l (pending ++ login.node ∷ []) (λ x h. keeps_pending x login.node pending (g x h)))
    fine_as login e live f (None, l) = rest l pending g

    fine_to : (login : Login) → login_at node place ≡ Some login → is_live login ≡ true → Fine (announced_to place login layer pending more)
    fine_to login e live = by (is_listed login.node pending) refl
      where
        by : (b : Bool) → is_listed login.node pending ≡ b → Fine (cond b (unsent_then place (more layer pending)) (announced_as place login.node pending more (asking_step layer login.node (block_write login.fifo block) purposes.Unsolicited)))
        by true f = rest layer pending g
        by false f = fine_as login e live f (asking_step layer login.node (block_write login.fifo block) purposes.Unsolicited)

    fine_at : (login : Option Login) → login_at node place ≡ login → Fine (announced_at unit from place (desk_at node place) login layer pending more)
    fine_at None e = rest layer pending g
    fine_at (Some login) e = by (hears unit from place (desk_at node place) login) refl
      where
        by : (b : Bool) → hears unit from place (desk_at node place) login ≡ b → Fine (cond b (announced_to place login layer pending more) (more layer pending))
        by true f = fine_to login e (second_of (login.unit == unit) (is_live login) (not (place == from) && (desk_at node place).is_enabled) f)
        by false f = rest layer pending g

  fine_from : (left place : ℕ) (layer : Layer Purpose) (pending : List ℕ) → Grown pending → Fine (announced_from left place unit from node layer pending)
  fine_from zero place layer pending g = tt
  fine_from (suc left) place layer pending g = fine_at place layer pending g (announced_from left (place + 1) unit from node) (λ l p h. fine_from left (place + 1) l p h) (login_at node place) refl

  pub fine_if : (b : Bool) (layer : Layer Purpose) → Fine (announced_if b unit from node layer)
  fine_if false layer = tt
  fine_if true layer = fine_from 8 0 layer node.pending (λ x h. h)

-- ---- a packet comes to the target
module _ (units ready : ℕ) (has : 0 < units) (start : List Disk) (past : List Moment) (s : Scene) (here : Place units ready start past s) (k : Kept start (hist past s.world) s) (serial : ℕ) (run : Option Told) (one : Sent) (found : found_sent serial s.world.store.kept ≡ Some one) where
  abbrev w : WorldState
  w = s.world

  abbrev ms : List Moment
  ms = hist past w

  abbrev node : NodeState
  node = w.target

  abbrev disks : List Disk
  disks = s.media.disks

  good : Good node
  good = good_of units ready here.holds.calls node has here.holds.made

  abbrev all : Whole
  all = whole_of node s.media

  abbrev Given : Finding Purpose → Layer Purpose → Judged × Whole
  Given f layer = received_as run one.bytes f (with_layer layer all)

  abbrev X : Judged × Whole
  X = received run one.generation one.bytes all

  abbrev Finds : Finding Purpose → Layer Purpose → Type 0
  Finds f layer = judging_step node.layer one.generation one.bytes ≡ (f, layer)

  pushes_are : (over (target_at start ms)).pushes ≡ Pushes start ms
  pushes_are = (ends_turn (Apart 0) refl (target_at start ms)).pushes

  module _ (v : WorldState) (same : (p : ℕ) → holder v p ≡ holder w p) where
    abbrev rest : OutboxState → List Note
    rest outbox = handed 0 0 outbox v

    abbrev Due : Judged → OutboxState → Type 0
    Due judged outbox = PushesAlone start (turn ms (said (judged_note serial judged)) (rest outbox))

    silent_due : (judged : Judged) (outbox : OutboxState) → AreOthers outbox.sides → NoPushes outbox.sides → Due judged outbox
    silent_due judged outbox o n = no_notes start ms (said (judged_note serial judged)) (rest outbox) (kind_handed is_push_note push_kind 0 0 outbox v ∙ pushes_none 0 outbox.sides v o n)

    no_sides : (judged : Judged) (outbox : OutboxState) → AreOthers outbox.sides → outbox.sides ≡ [] → Due judged outbox
    no_sides judged outbox o e = silent_due judged outbox o (subst NoPushes (sym e) tt)

    -- whom none is pending to at the target has none by the terms
    spared : (p : ℕ) (login : Login) → login_at node p ≡ Some login → is_live login ≡ true → is_listed login.node node.pending ≡ false → list_any (is_pending (terms (said (notes.Got serial) ∷ ms)) (suc (holder w p).initiator)) (over (target_at start ms)).pushes ≡ false
    spared p login e live f =
        let h = here.held.held p login e in
        let of = (h.live live).of in
        let less = less_got serial (as_sending one) (terms ms) (Pushes start ms) (was_sent w here.holds.sound.stands serial one found) in
        let i = h.holder.initiator in
        let inside : suc i ≤ length w.initiators = let b = of.small in omega (arith, b) in
        let id : Id (terms ms) (suc i) ≡ login.node = ap (λ n. Id (terms ms) n) (let z : suc i ≡ i + 1 = omega arith in z) ∙ of.node_is in
        ap (list_any (is_pending (terms (said (notes.Got serial) ∷ ms)) (suc (holder w p).initiator))) pushes_are
        ∙ any_none (is_pending (terms (said (notes.Got serial) ∷ ms)) (suc (holder w p).initiator)) (Pushes start ms)
        (λ r q z. untrue (sym f ∙ (ap (λ n. is_listed n node.pending) (sym id) ∙ k.pends (suc i) r inside q (less.pends (suc i) r q (ap (λ j. is_pending (terms (said (notes.Got serial) ∷ ms)) (suc j) r) (sym (ap (λ o. (or_nobody o).initiator) h.there)) ∙ z)))))

    announced_due : (b : Bool) (unit place : ℕ) (first : List (wire_calls.Call Purpose)) (outbox : OutboxState) → AreQuiet outbox.sides → Announces b unit place node first outbox → Due judgements.Got outbox
    announced_due b unit place first outbox quiet tells =
        let behind = layer_after node.layer (tells.steps ++ first) in
        let pushes = (announced_if b unit place node behind).0 in
        let front = tells.told.before in
        subst (AreAlone (terms (said (notes.Got serial) ∷ ms)) (over (target_at start ms)).pushes)
        (sym (kind_handed is_push_note push_kind 0 0 outbox v
        ∙ (ap (λ told. of_kind is_push_note (notes_told 0 told v)) tells.told.told_is
        ∙ last_noted (λ p. holder w p) 0 front pushes v same (quiet_before front pushes (subst AreQuiet tells.told.told_is quiet)) tells.told.plain (if_pushes b unit place node behind))))
        (fine_if node (λ p. holder w p) (terms (said (notes.Got serial) ∷ ms)) (over (target_at start ms)).pushes unit place spared b behind)

    agent_due : (there : Option Login) (place : ℕ) (outbox : OutboxState) → AreOthers outbox.sides → AreQuiet outbox.sides → (first : List (wire_calls.Call Purpose)) (left : List Disk) → agent_tells there place node first disks left outbox → Due judgements.Got outbox
    agent_due None place outbox o q first left tells = no_sides judgements.Got outbox o tells
    agent_due (Some login) place outbox o q first left tells = announced_due (came (disk_at disks login.unit) (disk_at left login.unit)) login.unit place first outbox q tells

    operation_due : (source : Option ℕ) (answer : Answer) (outbox : OutboxState) → AreOthers outbox.sides → operation_tells source answer node outbox.sides → Due judgements.Got outbox
    operation_due None answer outbox o tells = no_sides judgements.Got outbox o tells
    operation_due (Some source) answer outbox o tells =
        let x = manager_reply node.manager node.logins node.keys answer in
        let changed = with_manager node (x.1.0, x.1.1) in
        silent_due judgements.Got outbox o (first_none (decision_changes x.0.decided x.0.effect changed) outbox.sides (decision_silent x.0.decided x.0.effect changed) tells)

    agent_quiet : (p : Packet) (label : LabelParts) (place : ℕ) (layer : Layer Purpose) (lives : Lives) → From lives layer → AreQuiet (Given (of_response p label (Some (purposes.Agent place))) layer).1.outbox.sides
    unfolding concluded
    agent_quiet p label place layer lives from =
        (calm.replies lives (record node { layer = layer }) run place (header_in p).source label (answer_in p) (with_layer layer all) (begins node good layer lives from)).quiet

    abbrev Dues : Finding Purpose → Layer Purpose → OutboxState → Type 0
    Dues f layer outbox = AreOthers outbox.sides → (first : List (wire_calls.Call Purpose)) → delivery_tells f node first disks (Given f layer).1.disks outbox → Due (Given f layer).0 outbox

    response_due : (p : Packet) (label : LabelParts) (purpose : Option Purpose) (layer : Layer Purpose) → (let f = of_response p label purpose in Finds f layer → IsFound f node.layer layer one.bytes → Dues f layer (Given f layer).1.outbox)
    response_due p label None layer e f o first tells = no_sides judgements.Got (Given (of_response p label None) layer).1.outbox o tells
    response_due p label (Some purposes.Unsolicited) layer e f o first tells = no_sides judgements.Got (Given (of_response p label (Some purposes.Unsolicited)) layer).1.outbox o tells
    response_due p label (Some purposes.Management) layer e f o first tells =
        operation_due (source_in node.manager.operation) (answer_in p) (Given (of_response p label (Some purposes.Management)) layer).1.outbox o tells
    response_due p label (Some (purposes.Agent place)) layer e f o first tells =
        let c = closing_known node.layer layer good.lives one.generation one.bytes p label (Some (purposes.Agent place)) good.mid.known e f.kind in
        let lives = live_on (wire_calls.closed (header_in p).source label c.kind (Some (purposes.Agent place))) good.lives in
        agent_due (served_login node place) place _ o (agent_quiet p label place layer lives (from_self node good layer lives c.known)) first _ tells

    by_finding : (f : Finding Purpose) (layer : Layer Purpose) → Finds f layer → IsFound f node.layer layer one.bytes → Dues f layer (Given f layer).1.outbox
    by_finding of_generation layer e f o first tells = no_sides (judgements.Ignored causes.Generation) (Given of_generation layer).1.outbox o tells
    by_finding of_grammar layer e f o first tells = no_sides (judgements.Ignored causes.Grammar) (Given of_grammar layer).1.outbox o tells
    by_finding of_label layer e f o first tells = no_sides (judgements.Ignored causes.Label) (Given of_label layer).1.outbox o tells
    by_finding (of_again p rcode) layer e f o first tells = no_sides (judgements.Ignored causes.Again) (Given (of_again p rcode) layer).1.outbox o tells
    by_finding (of_response p label purpose) layer e f o first tells = response_due p label purpose layer e f o first tells
    by_finding (of_request p) layer e f o first tells =
        let b = is_barred node p in
        let x = Given (of_request p) layer in
        silent_due x.0 x.1.outbox o (first_none (request_changes b p node) x.1.outbox.sides (request_silent b p node) tells)

    pub heard_alone : AreOthers X.1.outbox.sides → Due X.0 X.1.outbox
    unfolding received
    heard_alone o =
        let f = judging_step node.layer one.generation one.bytes in
        by_finding f.0 f.1 refl (found_as node.layer one.generation one.bytes) o (first_of (receives run disks one.generation one.bytes)) (side_law.deliveries run disks one.generation one.bytes node)

-- ---- a line
line_alone : (start : List Disk) (line : ℕ) (s : Scene) (past : List Moment) (event : Event) (rest : List Note) → Brings line s event rest → PushesAlone start (turn past (asked line event) rest)
line_alone start line s past event rest (calls is_event c) = tt
line_alone start line s past event rest (refuses is_event number) = tt
line_alone start line s past event rest (refuses_action i action number e) = tt
line_alone start line s past event rest (resets physical generation e) = tt
line_alone start line s past event rest (loses serial) = tt
line_alone start line s past event rest (sets_key unit key) = tt
line_alone start line s past event rest (injects i bytes serial generation from to) = tt

judged_no_sent : (serial : ℕ) (judged : Judged) → IsNoSent (judged_note serial judged)
judged_no_sent serial judgements.Got = tt
judged_no_sent serial (judgements.Ignored cause) = tt

module _ (units ready : ℕ) (has : 0 < units) (start : List Disk) where
  own_alone : (past : List Moment) (first : Moment) (node weight : ℕ) (outbox : OutboxState) (w : WorldState) → AreOwn outbox.sides → PushesAlone start (turn past first (handed node weight outbox w))
  own_alone past first node weight outbox w own = no_notes start past first (handed node weight outbox w) (own_handed is_push_note push_kind own_push node weight outbox w own)

  still_alone : (past : List Moment) (first : Moment) (outbox : OutboxState) (w : WorldState) → AreOthers outbox.sides → NoPushes outbox.sides → PushesAlone start (turn past first (handed 0 0 outbox w))
  still_alone past first outbox w o n = no_notes start past first (handed 0 0 outbox w) (kind_handed is_push_note push_kind 0 0 outbox w ∙ pushes_none 0 outbox.sides w o n)

  ends_alone : (past : List Moment) (done : Bool) → PushesAlone start (turn past (said (end_note done)) [])
  ends_alone past true = tt
  ends_alone past false = tt

  pub alone_cases : CarriedCases units ready start (Kept start) (PushesAlone start)
  alone_cases = record {
    heard = λ past s serial again run one found zero_to may others here behind judged k.
        let x = received run one.generation one.bytes (whole_of s.world.target s.media) in
        let v = with_note (judged_note serial x.0) (marked serial again (with_target x.1.node s.world)) in (
          heard_alone units ready has start past s here k serial run one found v (λ p. marked_holder serial again (with_target x.1.node s.world) p) others,
          (heard_kept units ready has start past s here k serial again run one found zero_to (record { disks = x.1.disks; faults = faults_after run one s.world.target s.media }) behind others behind).0,
        );
    heard_own = λ past s serial again one i found to_is inside own here behind judged k.
        let x = receive_step one.generation one.bytes empty_outbox (initiator_at s.world i) in
        let note = judged_note serial x.0 in
        let v = with_note note (marked serial again (with_initiator i x.1.1 s.world)) in
        let m = marked_same serial again (with_initiator i x.1.1 s.world) in (
          own_alone (hist past s.world) (said note) (suc i) 0 x.1.0 v own,
          own_turn units ready has start past s here k i 0 note (judged_no_sent serial x.0)
              (heard_leaves units ready has start past s here k serial one found i to_is x.0) (heard_injected units ready has start past s here k serial one found i to_is x.0)
              x.1.0 v (ap (λ ns. note ∷ ns) m.1.1) m.0 (ap (λ xs. length xs) m.1.0 ∙ length-set s.world.initiators i x.1.1) own behind,
        );
    late = λ past s serial request done t found node_is e others here behind judged k. (
      still_alone (hist past s.world) (said (notes.TimedOut serial)) t.outbox _ others
          (subst (λ (x : Result (Unit {0}) Stale × target.Scene). NoPushes x.1.outbox.sides) e (plain_none _ (side_law.expiries request.peer request.label s.world.target))),
      (late_kept units ready has start past s here k serial request done t found node_is e others behind).0,
    );
    late_own = λ past s serial request i outbox state found node_is inside e own here behind judged k.
        let v = with_note (notes.TimedOut serial) (with_initiator i state s.world) in (
          own_alone (hist past s.world) (said (notes.TimedOut serial)) (suc i) 0 outbox v own,
          own_turn units ready has start past s here k i 0 (notes.TimedOut serial) tt
              (late_leaves units ready has start past s here k serial request i found node_is) (late_same units ready has start past s here k serial request i found node_is)
              outbox v refl refl (length-set s.world.initiators i state) own behind,
        );
    sees = λ past s others here behind judged k.
        let g = s.world.generations.latest in
        let x = (seen g.generation (id_of g 0) (target.scene s.world.target empty_outbox)).1 in (
          still_alone (hist past s.world) (said (notes.Seen 0 g.generation)) x.outbox _ others
              (silent_none x.outbox.sides (subst AreSilent (sym (side_law.sights g.generation (id_of g 0) s.world.target)) (sight_silent g.generation s.world.target))),
          sight_kept units ready has start past s here k x refl others behind,
        );
    sees_own = λ past s i inside own here behind judged k.
        let g = s.world.generations.latest in
        let x = see_step g.generation (id_of g (suc i)) (id_of g 0) empty_outbox (initiator_at s.world i) in
        let v = with_initiator i x.1 (with_seen (suc i) (told_seen (suc i) s.world)) in (
          own_alone (hist past s.world) (said (notes.Seen (suc i) g.generation)) (suc i) 0 x.0 v own,
          own_turn units ready has start past s here k i 0 (notes.Seen (suc i) g.generation) tt
              (sight_leaves units ready has start past s here k i g.generation) refl x.0 v refl refl (length-set s.world.initiators i x.1) own behind,
        );
    ticks = λ past s others here behind judged k.
        let x = ticked (target.scene s.world.target empty_outbox) in (
          still_alone (hist past s.world) (said notes.Tick) x.outbox _ others
              (silent_none x.outbox.sides (subst AreSilent (sym (side_law.seconds s.world.target)) (expired_silent (expired_ids s.world.target.logins.places)))),
          tick_kept units ready has start past s here k x refl others behind,
        );
    ends = λ past s done here behind k. (ends_alone (hist past s.world) done, end_kept units ready has start past s here k done);
    acts = λ past s line i action outbox state inside e own here behind k.
        let v = with_initiator i state (without_notes s.world) in (
          own_alone (hist past s.world) (asked line (events.Act i action)) (i + 1) (weight_in action) outbox v own,
          act_turn units ready has start past s here k line i (weight_in action) (events.Act i action) outbox v refl refl (length-set s.world.initiators i state) own behind,
        );
    lines = λ past s line event rest behind brings fresh here there stays k.
        (line_alone start line s (hist past s.world) event rest brings, brought_kept units ready has start past s here k line event rest behind brings fresh there stays);
    begins = λ line initiators is_ready. tt;
  }

pub first_kept_here : Begins Kept
unfolding new_world
first_kept_here line run has there = begun_kept run.units (ready_logins run.initiators run.ready) has run.start.disks (first_past line run.initiators run.ready) (beginning run) there (record { none = refl; free_all = λ v. refl; idle = refl })

pub alone_law : AloneLaw
alone_law = of_every_carried Kept PushesAlone first_kept_here (λ units ready start has. alone_cases units ready has start)
