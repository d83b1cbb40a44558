-- What happened in the calls of a target is what happened in the steps of its transaction layer.
use Rattle.std.proofs.Common.{◌≡◌, refl, sym, ap, ◌∙◌, subst, ℕ, is_some, Bool, true, false, List, [], ◌∷◌, ◌++◌, Option, Some, None, Result, Ok, Err}
use Rattle.async_packet.specs.Labels.{LabelParts}
use Rattle.async_packet.specs.Packet.{Packet, header_in}
use Rattle.async_packet.specs.Reading.{reading}
use Rattle.async_packet.specs.declared.fault.PacketFault.{PacketFault}
use Rattle.label_table.specs.declared.judgement.Asked.{Asked}
use Rattle.label_table.specs.declared.reply.ReplyKind.{ReplyKind}
use Rattle.label_table.specs.declared.reply.Stale.{Stale}
use Rattle.label_table.specs.Layer.{Layer, Finding, of_generation, of_grammar, of_label, of_response, of_again, of_request, answering_step, asking_step, expiring_step, judging_step, new_layer, seeing_step}
use Rattle.label_table.specs.Requests.{reply_kind}
use Rattle.label_table.specs.History as wire
use Rattle.rbc_disk.specs.Disk.{Disk}
use Rattle.rbc_disk.specs.Runs.{Told}
use Rattle.sbp_journal.specs.declared.cause.Judged.{Judged}
use Rattle.sbp_journal.specs.declared.cause.Judged.TheVariants as judged
use Rattle.sbp_journal.specs.declared.outbox.Outgoing.{Outgoing}
use Rattle.sbp_journal.specs.Outgoings.{empty_outbox}
use Rattle.sbp_target.specs.declared.purpose.Purpose.{Purpose}
use Rattle.sbp_target.specs.Nodes.{NodeState, Scene, scene}
use Rattle.sbp_target.specs.Replies.{Whole, whole, scene_of}
use Rattle.sbp_target.specs.Serving.{request_step}
use Rattle.sbp_target.specs.Receiving.{with_layer, judged_scene, received_as, received, expired_in, expired, reset_by, seen}
use Rattle.sbp_target.specs.Calls.{Call, receives, lets_expire, sees, ticks, sets_key, alone, after}
use Rattle.sbp_target.specs.Histories.Layers.{request, response, layer_after, with_asked, packets_of, first_of, InOrder}
use Rattle.sbp_target.specs.Histories.Labels.{Happening, sent, answered, given, gave, got_as, got_read, got, ran_out, saw, handed, course, closed, asked_of, happened, course_of, IsFound, AreFound, AreLowest, LabelLaw}
use Rattle.sbp_target.proofs.Histories.Found.{IsRead, found}
use Rattle.sbp_target.proofs.Histories.Found as finding
use Rattle.sbp_target.proofs.Histories.Made.{joined, same_after, call_made, runs, run_on}
use Rattle.sbp_target.proofs.Histories.Labelled.{all_found}

-- ---- the packets of a call
gave_more : (packets : List Outgoing) (packet : Outgoing) (past : List Happening) → gave (packets ++ packet ∷ []) past ≡ given packet.label packet (gave packets past)
gave_more [] packet past = refl
gave_more (first ∷ packets) packet past = gave_more packets packet (given first.label first past)

asked_gave : (peer : ℕ) (asked : Option Asked) (packets : List Outgoing) (base past : List Happening) → past ≡ gave packets base → asked_of peer asked past ≡ gave (with_asked peer asked packets) base
asked_gave peer None packets base past h = h
asked_gave peer (Some asked) packets base past h =
    ap (λ (p : List Happening). sent peer asked.label.number asked.bytes ∷ p) h ∙ sym (gave_more packets (request peer asked) base)

steps_gave : (layer : Layer Purpose) (first steps : List (wire.Call Purpose)) (past : List Happening) → InOrder steps → packets_of layer first ≡ [] → course_of layer (steps ++ first) past ≡ gave (packets_of layer (steps ++ first)) (course_of layer first past)
steps_gave layer first [] past o e = sym (ap (λ (ps : List Outgoing). gave ps (course_of layer first past)) e)
steps_gave layer first (wire.asks peer body purpose ∷ steps) past o e =
    asked_gave peer (asking_step (layer_after layer (steps ++ first)) peer body purpose).0 (packets_of layer (steps ++ first)) (course_of layer first past) (course_of layer (steps ++ first) past) (steps_gave layer first steps past o e)
steps_gave layer first (wire.answers p bytes rcode more ∷ steps) past o e =
    steps_gave layer first steps past o.1 e
    ∙ sym (gave_more (packets_of layer (steps ++ first)) (response p (answering_step (layer_after layer (steps ++ first)) p bytes rcode more).0) (course_of layer first past))
steps_gave layer first (wire.disowns peer label ∷ steps) past o e = steps_gave layer first steps past o e
steps_gave layer first (wire.judges generation bytes ∷ steps) past o e = absurd o
steps_gave layer first (wire.lets_expire peer label ∷ steps) past o e = absurd o
steps_gave layer first (wire.sees generation id ∷ steps) past o e = absurd o

-- ---- what it was handed
untrue : false ≡ true → ⊥
untrue e = cc

untrue_2 : true ≡ false → ⊥
untrue_2 e = cc

got_response : (kind : Option ReplyKind) (p : Packet) (past : List Happening) → is_some kind ≡ true → answered (header_in p).source (header_in p).label ∷ past ≡ got_as kind p past
got_response (Some kind) p past e = refl
got_response None p past e = absurd (untrue e)

got_request : (kind : Option ReplyKind) (p : Packet) (past : List Happening) → is_some kind ≡ false → past ≡ got_as kind p past
got_request None p past e = refl
got_request (Some kind) p past e = absurd (untrue_2 e)

untouched : (j : Judged) (bytes : List ℕ) (p : Packet) (past : List Happening) → reading bytes ≡ Ok p → is_some (reply_kind p) ≡ false → past ≡ got j bytes past
untouched judged.Got bytes p past e k =
    got_request (reply_kind p) p past k ∙ sym (ap (λ (r : Result Packet PacketFault). got_read r past) e)
untouched (judged.Ignored cause) bytes p past e k = refl

judged_is : (r : Judged × Scene) (w : Whole) → (judged_scene r w).0 ≡ r.0
judged_is (j, s) w = refl

found_got : (told : Option Told) (bytes : List ℕ) (f : Finding Purpose) (before now : Layer Purpose) (w : Whole) (past : List Happening) → finding.IsFound f before now bytes → closed f past ≡ got (received_as told bytes f w).0 bytes past
found_got told bytes of_generation before now w past h = refl
found_got told bytes of_grammar before now w past h = refl
found_got told bytes of_label before now w past h = refl
found_got told bytes (of_response p label purpose) before now w past h =
    got_response (reply_kind p) p past h.kind ∙ sym (ap (λ (r : Result Packet PacketFault). got_read r past) h.read)
found_got told bytes (of_again p rcode) before now w past h = refl
found_got told bytes (of_request p) before now w past h =
    untouched (request_step p bytes (scene_of w)).0 bytes p past h.1.read h.1.kind
    ∙ ap (λ (j : Judged). got j bytes past) (sym (judged_is (request_step p bytes (scene_of w)) w))

receives_handed : (told : Option Told) (disks : List Disk) (generation : ℕ) (bytes : List ℕ) (node : NodeState) (past : List Happening) → closed (judging_step node.layer generation bytes).0 past ≡ got (received told generation bytes (whole (scene node empty_outbox) disks)).0 bytes past
unfolding received
receives_handed told disks generation bytes node past =
    let r = judging_step node.layer generation bytes in
    found_got told bytes r.0 node.layer r.1 (with_layer r.1 (whole (scene node empty_outbox) disks)) past (found node.layer generation bytes)

expires_by : (r : Result (Option Purpose) Stale × Layer Purpose) (peer : ℕ) (label : LabelParts) (s : Scene) (past : List Happening) → ran_out r.0 peer label past ≡ ran_out (expired_in r peer label s).0 peer label past
expires_by (Ok purpose, layer) peer label s past = refl
expires_by (Err stale, layer) peer label s past = refl

expires_handed : (peer : ℕ) (label : LabelParts) (node : NodeState) (past : List Happening) → ran_out (expiring_step node.layer peer label).0 peer label past ≡ ran_out (expired peer label (scene node empty_outbox)).0 peer label past
unfolding expired
expires_handed peer label node past = expires_by (expiring_step node.layer peer label) peer label (scene node empty_outbox) past

sees_by : (r : Bool × Layer Purpose) (s : Scene) (past : List Happening) → saw r.0 past ≡ saw (reset_by r s).0 past
sees_by (true, layer) s past = refl
sees_by (false, layer) s past = refl

sees_handed : (generation id : ℕ) (node : NodeState) (past : List Happening) → saw (seeing_step node.layer generation id).0 past ≡ saw (seen generation id (scene node empty_outbox)).0 past
unfolding seen
sees_handed generation id node past = sees_by (seeing_step node.layer generation id) (scene node empty_outbox) past

first_handed : (call : Call) (node : NodeState) (past : List Happening) → course_of node.layer (first_of call) past ≡ handed call node past
first_handed (receives told disks generation bytes) node past = receives_handed told disks generation bytes node past
first_handed (lets_expire peer label) node past = expires_handed peer label node past
first_handed (sees generation id) node past = sees_handed generation id node past
first_handed ticks node past = refl
first_handed (sets_key unit key) node past = refl

none_first : (call : Call) (layer : Layer Purpose) → packets_of layer (first_of call) ≡ []
none_first (receives told disks generation bytes) layer = refl
none_first (lets_expire peer label) layer = refl
none_first (sees generation id) layer = refl
none_first ticks layer = refl
none_first (sets_key unit key) layer = refl

-- ---- a call, and all calls
one_course : (call : Call) (node : NodeState) (past : List Happening) → course_of node.layer ((call_made call (scene node empty_outbox)).steps ++ first_of call) past ≡ gave (alone call node).outbox.packets (handed call node past)
one_course call node past =
    let m = call_made call (scene node empty_outbox) in
    steps_gave node.layer (first_of call) m.steps past m.order (none_first call node.layer)
    ∙ ap (λ (ps : List Outgoing). gave ps (course_of node.layer (first_of call) past)) (sym m.packets_are)
    ∙ ap (λ (p : List Happening). gave (alone call node).outbox.packets p) (first_handed call node past)

course_joined : (layer : Layer Purpose) (more steps : List (wire.Call Purpose)) (past : List Happening) → course_of layer (more ++ steps) past ≡ course_of (layer_after layer steps) more (course_of layer steps past)
course_joined layer [] steps past = refl
course_joined layer (step ∷ more) steps past =
    ap (λ (l : Layer Purpose). happened step l (course_of layer (more ++ steps) past)) (joined layer more steps)
    ∙ ap (λ (p : List Happening). happened step (layer_after (layer_after layer steps) more) p) (course_joined layer more steps past)

course_is : (units ready : ℕ) (calls : List Call) → course_of (new_layer 0xffc0) (runs units ready calls).steps [] ≡ course units ready calls
unfolding runs run_on
course_is units ready [] = refl
course_is units ready (call ∷ calls) =
    let node = after units ready calls in
    let r = runs units ready calls in
    let more = (call_made call (scene node empty_outbox)).steps ++ first_of call in
    let was : layer_after (new_layer 0xffc0) r.steps ≡ node.layer = sym (same_after 0xffc0 r.steps) ∙ r.layer_is in
    course_joined (new_layer 0xffc0) more r.steps []
    ∙ ap (λ (l : Layer Purpose). course_of l more (course_of (new_layer 0xffc0) r.steps [])) was
    ∙ ap (λ (p : List Happening). course_of node.layer more p) (course_is units ready calls)
    ∙ one_course call node (course units ready calls)

-- ---- each request that was given has the lowest label
closed_lowest : (f : Finding Purpose) (past : List Happening) → AreLowest past → AreLowest (closed f past)
closed_lowest of_generation past h = h
closed_lowest of_grammar past h = h
closed_lowest of_label past h = h
closed_lowest (of_response p label purpose) past h = h
closed_lowest (of_again p rcode) past h = h
closed_lowest (of_request p) past h = h

ran_lowest : (r : Result (Option Purpose) Stale) (peer : ℕ) (label : LabelParts) (past : List Happening) → AreLowest past → AreLowest (ran_out r peer label past)
ran_lowest (Ok purpose) peer label past h = h
ran_lowest (Err stale) peer label past h = h

saw_lowest : (b : Bool) (past : List Happening) → AreLowest past → AreLowest (saw b past)
saw_lowest true past h = h
saw_lowest false past h = h

asked_lowest : (asked : Option Asked) (layer : Layer Purpose) (past : List Happening) (peer : ℕ) (bytes : List ℕ) → IsFound asked layer past peer bytes → AreLowest past → AreLowest (asked_of peer asked past)
asked_lowest None layer past peer bytes f h = h
asked_lowest (Some asked) layer past peer bytes f h = (f.0, h)

all_lowest : (layer : Layer Purpose) (steps : List (wire.Call Purpose)) → AreFound layer steps → AreLowest (course_of layer steps [])
all_lowest layer [] f = tt
all_lowest layer (wire.asks peer body purpose ∷ steps) f = asked_lowest _ (layer_after layer steps) (course_of layer steps []) peer _ f.0 (all_lowest layer steps f.1)
all_lowest layer (wire.judges generation bytes ∷ steps) f = closed_lowest (judging_step (layer_after layer steps) generation bytes).0 (course_of layer steps []) (all_lowest layer steps f)
all_lowest layer (wire.answers p bytes rcode more ∷ steps) f = all_lowest layer steps f
all_lowest layer (wire.lets_expire peer label ∷ steps) f = ran_lowest (expiring_step (layer_after layer steps) peer label).0 peer label (course_of layer steps []) (all_lowest layer steps f)
all_lowest layer (wire.disowns peer label ∷ steps) f = all_lowest layer steps f
all_lowest layer (wire.sees generation id ∷ steps) f = saw_lowest (seeing_step (layer_after layer steps) generation id).0 (course_of layer steps []) (all_lowest layer steps f)

lowest : (units ready : ℕ) (calls : List Call) → AreLowest (course units ready calls)
lowest units ready calls =
    let r = runs units ready calls in
    subst (λ (p : List Happening). AreLowest p) (course_is units ready calls) (all_lowest (new_layer 0xffc0) r.steps (all_found 0xffc0 r.steps))

pub label_law : LabelLaw
label_law = record {
  lowest = lowest;
  found = λ units ready calls.
      let r = runs units ready calls in
      record {
        steps = r.steps;
        layer_is = r.layer_is;
        packets_are = r.packets_are;
        course_is = course_is units ready calls;
        found = all_found 0xffc0 r.steps;
      };
}
