-- What leaves in each call.
use Rattle.std.proofs.Common.{◌≡◌, refl, sym, ap, ◌∙◌, subst, ℕ, is_some, Bool, true, false, cond, List, [], ◌∷◌, ◌++◌, Option, Some, None, Ok}
use Rattle.std.specs.Option.{IsSome}
use Rattle.async_packet.specs.Labels.{LabelParts}
use Rattle.async_packet.specs.Packet.{Packet, header_in}
use Rattle.async_packet.specs.Reading.{reading}
use Rattle.label_table.specs.declared.reply.ReplyKind.{ReplyKind}
use Rattle.label_table.specs.declared.judgement.Asked.{Asked}
use Rattle.label_table.specs.Requests.{reply_kind}
use Rattle.label_table.specs.Filter.{remember_step}
use Rattle.label_table.specs.Layer.{Layer, Finding, of_generation, of_grammar, of_label, of_response, of_again, of_request, answering_step, asking_step, disowning_in, disowning_step, peer_place, judging_step, expiring_step, seeing_step}
use Rattle.login_table.specs.Table.{tick_step}
use Rattle.rbc_disk.specs.Disk.{Disk}
use Rattle.rbc_disk.specs.Runs.{Told}
use Rattle.sbp_journal.specs.declared.cause.Cause.TheVariants as causes
use Rattle.sbp_journal.specs.declared.cause.Judged.{Judged}
use Rattle.sbp_journal.specs.declared.cause.Judged.TheVariants as judged
use Rattle.sbp_journal.specs.declared.outbox.Outgoing.{Outgoing}
use Rattle.sbp_journal.specs.Outgoings.{empty_outbox}
use Rattle.sbp_target.specs.declared.purpose.Purpose.{Purpose}
use Rattle.target_base.specs.Addresses.{address_error}
use Rattle.sbp_target.specs.Nodes.{NodeState, Scene, scene}
use Rattle.sbp_target.specs.Replies.{whole}
use Rattle.sbp_target.specs.Sending.{answer_step}
use Rattle.sbp_target.specs.Serving.{answered, serve, is_barred, request_step}
use Rattle.sbp_target.specs.Receiving.{answer_in, with_layer, judged_scene, received_as, received, expired, seen, ticked}
use Rattle.sbp_target.specs.Calls.{Call, receives, lets_expire, sees, ticks, sets_key, alone}
use Rattle.sbp_target.specs.Histories.Layers.{with_asked, request, response}
use Rattle.sbp_target.specs.Histories.Answers.{AreRequests, response_of, IsAnswered, IsGotAs, IsGot, IsAnsweredAlone, IsJudged, IsDelivery, AnswerLaw}
use Rattle.sbp_target.proofs.Histories.Pass.{Said, Leaves, Keeps, concludes, sees_by, expires_in, ticks_by}
use Rattle.sbp_target.proofs.Histories.Served.{Answers, serves}
use Rattle.sbp_target.proofs.Histories.Found.{IsRead, IsRemembered, IsFound, found}

-- ---- what is kept
one_more : (packets : List Outgoing) (q : Outgoing) → AreRequests packets → IsSome q.label → AreRequests (packets ++ q ∷ [])
one_more [] q h s = (s, tt)
one_more (packet ∷ packets) q h s = (h.0, one_more packets q h.1 s)

asked_more : (peer : ℕ) (asked : Option Asked) (packets : List Outgoing) → AreRequests packets → AreRequests (with_asked peer asked packets)
asked_more peer None packets h = h
asked_more peer (Some asked) packets h = one_more packets (request peer asked) h refl

abbrev Requests : Said
Requests = λ layer packets. AreRequests packets

keep_requests : Keeps Requests
keep_requests = record {
  leaves = record { disowns = λ layer packets peer label h. h };
  asks = λ layer packets peer body purpose h. asked_more peer (asking_step layer peer body purpose).0 packets h;
}

abbrev pub Nothing : ℕ → Said
Nothing node = λ layer packets. (layer.node ≡ node) × (packets ≡ [])

disowned_node : (k : Option ℕ) (layer : Layer Purpose) (label : LabelParts) → (disowning_in k layer label).node ≡ layer.node
disowned_node None layer label = refl
disowned_node (Some k) layer label = refl

disowning_node : (layer : Layer Purpose) (peer : ℕ) (label : LabelParts) → (disowning_step layer peer label).node ≡ layer.node
unfolding disowning_step
disowning_node layer peer label = disowned_node (peer_place peer layer) layer label

pub leave_nothing : (node : ℕ) → Leaves (Nothing node)
leave_nothing node = record { disowns = λ layer packets peer label h. (disowning_node layer peer label ∙ h.0, h.1) }

abbrev Answered : ℕ → Packet → Said
Answered node p = λ layer packets. IsAnswered node p packets

answered_asks : (node : ℕ) (p : Packet) (peer : ℕ) (asked : Option Asked) (packets : List Outgoing) → IsAnswered node p packets → IsAnswered node p (with_asked peer asked packets)
answered_asks node p peer None packets a = a
answered_asks node p peer (Some asked) packets a = record {
  rcode = a.rcode;
  given = a.given;
  more = a.more ++ request peer asked ∷ [];
  packets_are = ap (λ (ps : List Outgoing). ps ++ request peer asked ∷ []) a.packets_are;
  requests = one_more a.more (request peer asked) a.requests refl;
}

keep_answered : (node : ℕ) (p : Packet) → Keeps (Answered node p)
keep_answered node p = record {
  leaves = record { disowns = λ layer packets peer label a. a };
  asks = λ layer packets peer body purpose a. answered_asks node p peer (asking_step layer peer body purpose).0 packets a;
}

first_answer : (node : ℕ) (p : Packet) (bytes : List ℕ) (layer : Layer Purpose) (packets : List Outgoing) (rcode : ℕ) (given : List ℕ) → (layer.node ≡ node) × (packets ≡ []) → IsAnswered node p (packets ++ response p (answering_step layer p bytes rcode given).0 ∷ [])
unfolding answering_step
first_answer node p bytes layer packets rcode given h = record {
  rcode = rcode;
  given = given;
  more = [];
  packets_are = ap (λ (ps : List Outgoing). ps ++ response_of layer.node p rcode given ∷ []) h.1 ∙ ap (λ (n : ℕ). response_of n p rcode given ∷ []) h.0;
  requests = tt;
}

answer_first : (node : ℕ) (p : Packet) (bytes : List ℕ) → Answers (Nothing node) (Answered node p) p bytes
answer_first node p bytes = record { answers = first_answer node p bytes }

-- ---- a delivery
got_of : (bytes : List ℕ) (p : Packet) (node : ℕ) (packets : List Outgoing) → reading bytes ≡ Ok p → IsGotAs (reply_kind p) node p packets → IsGot (reading bytes) node packets
got_of bytes p node packets e h = subst (λ r. IsGot r node packets) (sym e) h

untrue : false ≡ true → ⊥
untrue e = cc

untrue_2 : true ≡ false → ⊥
untrue_2 e = cc

response_got : (kind : Option ReplyKind) (node : ℕ) (p : Packet) (packets : List Outgoing) → is_some kind ≡ true → AreRequests packets → IsGotAs kind node p packets
response_got None node p packets e h = absurd (untrue e)
response_got (Some kind) node p packets e h = h

request_got : (kind : Option ReplyKind) (node : ℕ) (p : Packet) (packets : List Outgoing) → is_some kind ≡ false → IsAnswered node p packets → IsGotAs kind node p packets
request_got None node p packets e h = h
request_got (Some kind) node p packets e h = absurd (untrue_2 e)

answer_alone : (node : NodeState) (p : Packet) (bytes : List ℕ) (rcode : ℕ) → reading bytes ≡ Ok p → IsAnsweredAlone node (answered p bytes rcode [] (scene node empty_outbox)).node bytes rcode (answered p bytes rcode [] (scene node empty_outbox)).outbox.packets
unfolding answer_step answering_step
answer_alone node p bytes rcode e = record {
  packet = p;
  read = e;
  packets_are = refl;
  same = record { filter = remember_step node.layer.filter (header_in p).source bytes rcode; same = refl };
}

pub answer_untold : (p : Packet) (bytes : List ℕ) (rcode : ℕ) (given : List ℕ) (s : Scene) → (answered p bytes rcode given s).outbox.sides ≡ s.outbox.sides
unfolding answer_step answering_step
answer_untold p bytes rcode given s = refl

abbrev Goes : Option Told → List ℕ → Finding Purpose → NodeState → List Disk → Layer Purpose → Type 0
Goes told bytes f node disks layer =
    IsJudged (received_as told bytes f (with_layer layer (whole (scene node empty_outbox) disks))).0 node bytes disks (received_as told bytes f (with_layer layer (whole (scene node empty_outbox) disks))).1

again_goes : (told : Option Told) (bytes : List ℕ) (p : Packet) (rcode : ℕ) (node : NodeState) (disks : List Disk) → IsRemembered node.layer bytes p rcode → Goes told bytes (of_again p rcode) node disks node.layer
unfolding answer_alone
again_goes told bytes p rcode node disks m = (
  record { rcode = rcode; source = (header_in p).source; remembered = m.again; alone = answer_alone node p bytes rcode m.read; from = refl },
  answer_untold p bytes rcode [] (scene node empty_outbox),
  refl,
)

request_by : (b : Bool) (bytes : List ℕ) (p : Packet) (node : NodeState) (disks : List Disk) → IsRead bytes p false → IsJudged (judged_scene (cond {A = Judged × Scene} b (judged.Ignored causes.Login, answered p bytes address_error [] (scene node empty_outbox)) (judged.Got, serve p bytes (scene node empty_outbox))) (whole (scene node empty_outbox) disks)).0 node bytes disks (judged_scene (cond {A = Judged × Scene} b (judged.Ignored causes.Login, answered p bytes address_error [] (scene node empty_outbox)) (judged.Got, serve p bytes (scene node empty_outbox))) (whole (scene node empty_outbox) disks)).1
request_by true bytes p node disks r = (answer_alone node p bytes address_error r.read, answer_untold p bytes address_error [] (scene node empty_outbox), refl)
request_by false bytes p node disks r =
    let n = node.layer.node in
    let a = serves (Nothing n) (Answered n p) p bytes (answer_first n p bytes) (leave_nothing n) (keep_answered n p) (scene node empty_outbox) (refl, refl) in
    got_of bytes p n (serve p bytes (scene node empty_outbox)).outbox.packets r.read (request_got (reply_kind p) n p (serve p bytes (scene node empty_outbox)).outbox.packets r.kind a)

request_goes : (told : Option Told) (bytes : List ℕ) (p : Packet) (node : NodeState) (disks : List Disk) → IsRead bytes p false → Goes told bytes (of_request p) node disks node.layer
unfolding request_step
request_goes told bytes p node disks r = request_by (is_barred node p) bytes p node disks r

goes : (told : Option Told) (bytes : List ℕ) (f : Finding Purpose) (node : NodeState) (disks : List Disk) (layer : Layer Purpose) → IsFound f node.layer layer bytes → Goes told bytes f node disks layer
goes told bytes of_generation node disks layer f = ((ap (λ (l : Layer Purpose). record node { layer = l }) f, refl), refl, refl)
goes told bytes of_grammar node disks layer f = ((ap (λ (l : Layer Purpose). record node { layer = l }) f, refl), refl, refl)
goes told bytes of_label node disks layer f = ((ap (λ (l : Layer Purpose). record node { layer = l }) f, refl), refl, refl)
goes told bytes (of_response p label purpose) node disks layer f =
    let w = with_layer layer (whole (scene node empty_outbox) disks) in
    let after = received_as told bytes (of_response p label purpose) w in
    got_of bytes p node.layer.node after.1.outbox.packets f.read
    (response_got (reply_kind p) node.layer.node p after.1.outbox.packets f.kind (concludes Requests keep_requests told purpose (header_in p).source label (answer_in p) w tt))
goes told bytes (of_again p rcode) node disks layer f =
    subst (λ (l : Layer Purpose). Goes told bytes (of_again p rcode) node disks l) (sym f.0) (again_goes told bytes p rcode node disks f.1)
goes told bytes (of_request p) node disks layer f =
    subst (λ (l : Layer Purpose). Goes told bytes (of_request p) node disks l) (sym f.0) (request_goes told bytes p node disks f.1)

delivered : (told : Option Told) (disks : List Disk) (generation : ℕ) (bytes : List ℕ) (node : NodeState) → IsJudged (received told generation bytes (whole (scene node empty_outbox) disks)).0 node bytes disks (received told generation bytes (whole (scene node empty_outbox) disks)).1
unfolding received
delivered told disks generation bytes node =
    let f = judging_step node.layer generation bytes in goes told bytes f.0 node disks f.1 (found node.layer generation bytes)

-- ---- the other calls
other_expires : (peer : ℕ) (label : LabelParts) (node : NodeState) → AreRequests (alone (lets_expire peer label) node).outbox.packets
unfolding expired
other_expires peer label node = expires_in Requests keep_requests (expiring_step node.layer peer label) peer label (scene node empty_outbox) tt

other_sees : (generation id : ℕ) (node : NodeState) → AreRequests (alone (sees generation id) node).outbox.packets
unfolding seen
other_sees generation id node = sees_by Requests keep_requests.leaves (seeing_step node.layer generation id) (scene node empty_outbox) tt

other_ticks : (node : NodeState) → AreRequests (alone ticks node).outbox.packets
unfolding ticked
other_ticks node = ticks_by Requests (tick_step node.logins) (scene node empty_outbox) tt

other : (call : Call) (node : NodeState) → (IsDelivery call → ⊥) → AreRequests (alone call node).outbox.packets
other (receives told disks generation bytes) node h = absurd (h tt)
other (lets_expire peer label) node h = other_expires peer label node
other (sees generation id) node h = other_sees generation id node
other ticks node h = other_ticks node
other (sets_key unit key) node h = tt

pub answer_law : AnswerLaw
answer_law = record { deliveries = delivered; others = other }
