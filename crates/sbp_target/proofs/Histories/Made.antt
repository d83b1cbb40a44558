-- Each call of a target is steps of its transaction layer.
use Rattle.std.proofs.Common.{◌≡◌, refl, sym, ap, ◌∙◌, ℕ, Bool, true, false, List, [], ◌∷◌, ◌++◌, append_assoc, append-nil, Option, Some, None}
use Rattle.async_packet.specs.Labels.{LabelParts}
use Rattle.async_packet.specs.Packet.{Packet, header_in}
use Rattle.label_table.specs.declared.judgement.Asked.{Asked}
use Rattle.label_table.specs.Bodies.{Body}
use Rattle.label_table.specs.Layer.{Layer, Finding, of_generation, of_grammar, of_label, of_response, of_again, of_request, answering_step, asking_step, judging_step, expiring_step, seeing_step, new_layer}
use Rattle.label_table.specs.History as wire
use Rattle.login_table.specs.Table.{tick_step}
use Rattle.rbc_disk.specs.Disk.{Disk}
use Rattle.rbc_disk.specs.Runs.{Told}
use Rattle.sbp_journal.specs.declared.outbox.Outgoing.{Outgoing}
use Rattle.sbp_journal.specs.Outgoings.{empty_outbox}
use Rattle.sbp_target.specs.declared.purpose.Purpose.{Purpose}
use Rattle.sbp_target.specs.Nodes.{Scene, scene}
use Rattle.sbp_target.specs.Replies.{Whole, whole, scene_of}
use Rattle.sbp_target.specs.Receiving.{answer_in, with_layer, received_as, received, expired, seen, ticked}
use Rattle.sbp_target.specs.Calls.{Call, receives, lets_expire, sees, ticks, sets_key, done, alone, after, packets_after}
use Rattle.sbp_target.specs.Histories.Layers.{response, request, layer_after, with_asked, packets_of, first_of, has_sent, InOrder, IsMade, IsRun, LayerLaw}
use Rattle.sbp_target.proofs.Histories.Pass.{Said, At, Leaves, Keeps, concludes, sees_by, expires_in, ticks_by}
use Rattle.sbp_target.proofs.Histories.Served.{Answers, answers_at, judges}

-- so far: steps behind a first one, among which nothing was sent where the call is calm
pub record Made (calm : Bool) (first : List (wire.Call Purpose)) (before : Layer Purpose) (others : List Outgoing) (layer : Layer Purpose) (packets : List Outgoing) : Type 0 where
  pub steps : List (wire.Call Purpose)
  pub order : InOrder steps
  pub layer_is : layer_after before (steps ++ first) ≡ layer
  pub packets_are : packets ≡ others ++ packets_of before (steps ++ first)
  pub unsent : calm ≡ true → has_sent steps ≡ false

module _ (first : List (wire.Call Purpose)) (before : Layer Purpose) (others : List Outgoing) where
  made_disowns : (calm : Bool) → Leaves (Made calm first before others)
  made_disowns calm = record {
    disowns = λ layer packets peer label m. record {
      steps = wire.disowns peer label ∷ m.steps;
      order = m.order;
      layer_is = ap (λ (l : Layer Purpose). wire.done (wire.disowns peer label) l) m.layer_is;
      packets_are = m.packets_are;
      unsent = m.unsent;
    };
  }

  asked_behind : (peer : ℕ) (asked : Option Asked) (packets : List Outgoing) → with_asked peer asked (others ++ packets) ≡ others ++ with_asked peer asked packets
  asked_behind peer None packets = refl
  asked_behind peer (Some asked) packets = append_assoc others packets (request peer asked ∷ [])

  no_calm : (b : Bool) → false ≡ true → b ≡ false
  no_calm b e = cc

  made_asks : (layer : Layer Purpose) (packets : List Outgoing) (peer : ℕ) (body : Body) (purpose : Purpose) → Made false first before others layer packets → Made false first before others (asking_step layer peer body purpose).1 (with_asked peer (asking_step layer peer body purpose).0 packets)
  made_asks layer packets peer body purpose m =
      let f : asking_step (layer_after before (m.steps ++ first)) peer body purpose ≡ asking_step layer peer body purpose = ap (λ (l : Layer Purpose). asking_step l peer body purpose) m.layer_is in
      record {
        steps = wire.asks peer body purpose ∷ m.steps;
        order = m.order;
        layer_is = ap (λ (p : Option Asked × Layer Purpose). p.1) f;
        packets_are = ap (λ (ps : List Outgoing). with_asked peer (asking_step layer peer body purpose).0 ps) m.packets_are
            ∙ asked_behind peer (asking_step layer peer body purpose).0 (packets_of before (m.steps ++ first))
            ∙ ap (λ (p : Option Asked × Layer Purpose). others ++ with_asked peer p.0 (packets_of before (m.steps ++ first))) (sym f);
        unsent = λ e. no_calm _ e;
      }

  pub made_keeps : Keeps (Made false first before others)
  made_keeps = record { leaves = made_disowns false; asks = made_asks }

  made_answers : (p : Packet) (bytes : List ℕ) → Answers (Made true first before others) (Made false first before others) p bytes
  made_answers p bytes = record {
    answers = λ layer packets rcode given m.
        let f : answering_step (layer_after before (m.steps ++ first)) p bytes rcode given ≡ answering_step layer p bytes rcode given = ap (λ (l : Layer Purpose). answering_step l p bytes rcode given) m.layer_is in
        record {
          steps = wire.answers p bytes rcode given ∷ m.steps;
          order = (m.unsent refl, m.order);
          layer_is = ap (λ (r : List ℕ × Layer Purpose). r.1) f;
          packets_are = ap (λ (ps : List Outgoing). ps ++ response p (answering_step layer p bytes rcode given).0 ∷ []) m.packets_are
              ∙ append_assoc others (packets_of before (m.steps ++ first)) (response p (answering_step layer p bytes rcode given).0 ∷ [])
              ∙ ap (λ (r : List ℕ × Layer Purpose). others ++ (packets_of before (m.steps ++ first) ++ response p r.0 ∷ [])) (sym f);
          unsent = λ e. no_calm _ e;
        };
  }

  calmed : (layer : Layer Purpose) (packets : List Outgoing) → Made true first before others layer packets → Made false first before others layer packets
  calmed layer packets m = record { steps = m.steps; order = m.order; layer_is = m.layer_is; packets_are = m.packets_are; unsent = λ e. no_calm _ e }

  made_is : (layer : Layer Purpose) (packets : List Outgoing) → Made false first before others layer packets → IsMade first before layer others packets
  made_is layer packets m = record { steps = m.steps; order = m.order; layer_is = m.layer_is; packets_are = m.packets_are }

-- a call begins with a step that sends nothing
begun : (step : wire.Call Purpose) (before : Layer Purpose) (others : List Outgoing) → packets_of before (step ∷ []) ≡ [] → Made true (step ∷ []) before others (wire.done step before) others
begun step before others e = record {
  steps = [];
  order = tt;
  layer_is = refl;
  packets_are = sym (ap (λ (ps : List Outgoing). others ++ ps) e ∙ append-nil others);
  unsent = λ c. refl;
}

-- a judging, of a call with an outbox of its own
pub judged_made : (before : Layer Purpose) (generation : ℕ) (bytes : List ℕ) → Made false (wire.judges generation bytes ∷ []) before [] (judging_step before generation bytes).1 []
judged_made before generation bytes =
    calmed (wire.judges generation bytes ∷ []) before [] (judging_step before generation bytes).1 [] (begun (wire.judges generation bytes) before [] refl)

-- ---- a delivery
module _ (first : List (wire.Call Purpose)) (before : Layer Purpose) (others : List Outgoing) where
  abbrev Calm : Said
  Calm = Made true first before others

  abbrev Sent : Said
  Sent = Made false first before others

  receives_as : (told : Option Told) (bytes : List ℕ) (found : Finding Purpose) (w : Whole) → At Calm (scene_of w) → At Sent (scene_of (received_as told bytes found w).1)
  receives_as told bytes of_generation w m = calmed first before others w.node.layer w.outbox.packets m
  receives_as told bytes of_grammar w m = calmed first before others w.node.layer w.outbox.packets m
  receives_as told bytes of_label w m = calmed first before others w.node.layer w.outbox.packets m
  receives_as told bytes (of_response p label purpose) w m =
      concludes Sent (made_keeps first before others) told purpose (header_in p).source label (answer_in p) w (calmed first before others w.node.layer w.outbox.packets m)
  receives_as told bytes (of_again p rcode) w m =
      answers_at Calm Sent p bytes (made_answers first before others p bytes) rcode [] (scene_of w) m
  receives_as told bytes (of_request p) w m =
      judges Calm Sent p bytes (made_answers first before others p bytes) (made_disowns first before others true) (made_keeps first before others) (scene_of w) m

-- ---- each call
module _ (s : Scene) where
  -- a call that leaves the layer alone
  none : (others : List Outgoing) → Made false [] s.node.layer others s.node.layer others
  none others = record { steps = []; order = tt; layer_is = refl; packets_are = sym (append-nil others); unsent = λ e. refl }

  receipt : (told : Option Told) (disks : List Disk) (generation : ℕ) (bytes : List ℕ) → At (Made false (wire.judges generation bytes ∷ []) s.node.layer s.outbox.packets) (scene_of (received told generation bytes (whole s disks)).1)
  unfolding received
  receipt told disks generation bytes =
      let found = judging_step s.node.layer generation bytes in
      receives_as (wire.judges generation bytes ∷ []) s.node.layer s.outbox.packets told bytes found.0 (with_layer found.1 (whole s disks)) (begun (wire.judges generation bytes) s.node.layer s.outbox.packets refl)

  expiry : (peer : ℕ) (label : LabelParts) → At (Made false (wire.lets_expire peer label ∷ []) s.node.layer s.outbox.packets) (expired peer label s).1
  unfolding expired
  expiry peer label =
      let first = wire.lets_expire peer label ∷ [] in
      expires_in (Made false first s.node.layer s.outbox.packets) (made_keeps first s.node.layer s.outbox.packets) (expiring_step s.node.layer peer label) peer label s
      (calmed first s.node.layer s.outbox.packets _ s.outbox.packets (begun (wire.lets_expire peer label) s.node.layer s.outbox.packets refl))

  sight : (generation id : ℕ) → At (Made false (wire.sees generation id ∷ []) s.node.layer s.outbox.packets) (seen generation id s).1
  unfolding seen
  sight generation id =
      let first = wire.sees generation id ∷ [] in
      sees_by (Made false first s.node.layer s.outbox.packets) (made_disowns first s.node.layer s.outbox.packets false) (seeing_step s.node.layer generation id) s
      (calmed first s.node.layer s.outbox.packets _ s.outbox.packets (begun (wire.sees generation id) s.node.layer s.outbox.packets refl))

  second : At (Made false [] s.node.layer s.outbox.packets) (ticked s)
  unfolding ticked
  second = ticks_by (Made false [] s.node.layer s.outbox.packets) (tick_step s.node.logins) s (none s.outbox.packets)

pub call_made : (call : Call) (s : Scene) → At (Made false (first_of call) s.node.layer s.outbox.packets) (done call s)
call_made (receives told disks generation bytes) s = receipt s told disks generation bytes
call_made (lets_expire peer label) s = expiry s peer label
call_made (sees generation id) s = sight s generation id
call_made ticks s = second s
call_made (sets_key unit key) s = none s s.outbox.packets

-- ---- over lists of calls
pub joined : (layer : Layer Purpose) (more steps : List (wire.Call Purpose)) → layer_after layer (more ++ steps) ≡ layer_after (layer_after layer steps) more
joined layer [] steps = refl
joined layer (step ∷ more) steps = ap (λ (l : Layer Purpose). wire.done step l) (joined layer more steps)

pub asked_joined : (peer : ℕ) (asked : Option Asked) (one two : List Outgoing) → with_asked peer asked (one ++ two) ≡ one ++ with_asked peer asked two
asked_joined peer None one two = refl
asked_joined peer (Some asked) one two = append_assoc one two (request peer asked ∷ [])

pub packets_joined : (layer : Layer Purpose) (more steps : List (wire.Call Purpose)) → packets_of layer (more ++ steps) ≡ packets_of layer steps ++ packets_of (layer_after layer steps) more
packets_joined layer [] steps = sym (append-nil (packets_of layer steps))
packets_joined layer (wire.asks peer body purpose ∷ more) steps =
    rw (joined layer more steps, packets_joined layer more steps)
    (asked_joined peer (asking_step (layer_after (layer_after layer steps) more) peer body purpose).0 (packets_of layer steps) (packets_of (layer_after layer steps) more))
packets_joined layer (wire.answers p bytes rcode given ∷ more) steps =
    rw (joined layer more steps, packets_joined layer more steps)
    (append_assoc (packets_of layer steps) (packets_of (layer_after layer steps) more) _)
packets_joined layer (wire.judges generation bytes ∷ more) steps = packets_joined layer more steps
packets_joined layer (wire.lets_expire peer label ∷ more) steps = packets_joined layer more steps
packets_joined layer (wire.disowns peer label ∷ more) steps = packets_joined layer more steps
packets_joined layer (wire.sees generation id ∷ more) steps = packets_joined layer more steps

pub same_after : (node : ℕ) (steps : List (wire.Call Purpose)) → wire.after node steps ≡ layer_after (new_layer node) steps
same_after node [] = refl
same_after node (step ∷ steps) = ap (λ (l : Layer Purpose). wire.done step l) (same_after node steps)

unfoldable pub run_on : (node : ℕ) (before now : Layer Purpose) (all packets : List Outgoing) (first : List (wire.Call Purpose)) → IsRun node before all → Made false first before [] now packets → IsRun node now (all ++ packets)
run_on node before now all packets first r m =
    let more = m.steps ++ first in
    let was : layer_after (new_layer node) r.steps ≡ before = sym (same_after node r.steps) ∙ r.layer_is in
    record {
      steps = more ++ r.steps;
      layer_is = same_after node (more ++ r.steps) ∙ joined (new_layer node) more r.steps ∙ ap (λ (l : Layer Purpose). layer_after l more) was ∙ m.layer_is;
      packets_are = sym (packets_joined (new_layer node) more r.steps ∙ ap (λ (l : Layer Purpose). packets_of (new_layer node) r.steps ++ packets_of l more) was ∙ ap (λ (ps : List Outgoing). ps ++ packets_of before more) (sym r.packets_are) ∙ ap (λ (ps : List Outgoing). all ++ ps) (sym m.packets_are));
    }

unfoldable pub runs : (units ready : ℕ) (calls : List Call) → IsRun 0xffc0 (after units ready calls).layer (packets_after units ready calls)
runs units ready [] = record { steps = []; layer_is = refl; packets_are = refl }
runs units ready (call ∷ calls) =
    let node = after units ready calls in
    run_on 0xffc0 node.layer (alone call node).node.layer (packets_after units ready calls) (alone call node).outbox.packets (first_of call) (runs units ready calls) (call_made call (scene node empty_outbox))

pub layer_law : LayerLaw
layer_law = record {
  each = λ call s. made_is (first_of call) s.node.layer s.outbox.packets (done call s).node.layer (done call s).outbox.packets (call_made call s);
  all = runs;
}
