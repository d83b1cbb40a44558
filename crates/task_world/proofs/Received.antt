-- A packet at its node.
use Rattle.std.proofs.Common.{◌≡◌, ◌∙◌, refl, ap, subst, sym, ℕ, ◌-◌, ◌==◌, nat_lt, Bool, true, false, if◌then◌else◌, List, [], ◌∷◌, length, Option, Some, None}
use Rattle.async_packet.specs.Labels.{LabelParts}
use Rattle.async_packet.specs.Packet.{header_in}
use Rattle.label_table.specs.Layer.{Finding, of_again, of_generation, of_grammar, of_label, of_request, of_response}
use Rattle.login_table.specs.declared.login.Login.{Login}
use Rattle.orb_layout.specs.Replies.{Answer}
use Rattle.packet_store.specs.declared.sent.Sent.{Sent}
use Rattle.packet_store.specs.Kept.{found_sent}
use Rattle.rbc_disk.specs.Disk.{Disk}
use Rattle.rbc_disk.specs.Held.{Held}
use Rattle.rbc_disk.specs.Runs.{Told}
use Rattle.sbp_journal.specs.declared.cause.Judged.{Judged}
use Rattle.sbp_journal.specs.Outgoings.{OutboxState, empty_outbox}
use Rattle.sbp_initiator.specs.declared.state.InitiatorState.{InitiatorState}
use Rattle.sbp_initiator.specs.Receiving.{receive_step}
use Rattle.sbp_world.specs.declared.parts.delivering.Arrival.{Arrival}
use Rattle.sbp_world.specs.Delivering.{arrival, at_initiator, at_none, initiator_received, initiators_received, with_initiators}
use Rattle.sbp_world.specs.Worlds.{Scene, in_world as in_plain_world}
use Rattle.task_target.specs.declared.purpose.TaskPurpose.{TaskPurpose}
use Rattle.task_target.specs.Nodes.{TaskNode, scene}
use Rattle.task_target.specs.Receiving.{TellsAt, TellsIn, answer_in, received}
use Rattle.task_target.specs.Receiving as target
use Rattle.task_target.specs.Replies.{Stage, TellsBy, Whole, awaits, served_login, stage, whole}
use Rattle.task_world.specs.Delivering.{MayAt, MayReceive, MayTell, MayTold, NodeReceives, Receives, at_node, at_other, count_at, count_behind, count_by, count_in, judged_node, left_node, received_at, received_by, received_step, task_received}
use Rattle.task_world.specs.Worlds.{TaskScene, in_scene, one_held, with_node, world_of}

-- ---- the count of faults

counted_by : (told : Option Told) (place : ℕ) (answer : Answer) (login : Option Login) (is_awaited : Bool) (s : Stage) (before now : ℕ) → TellsBy told place answer login is_awaited s before now → now ≡ count_by told place answer login is_awaited s before
counted_by told place answer (Some login) true s before now t = t.counted
counted_by told place answer (Some login) false s before now t = t.counted
counted_by told place answer None is_awaited s before now t = t.counted

counted_at : (told : Option Told) (purpose : Option TaskPurpose) (peer : ℕ) (label : LabelParts) (answer : Answer) (w : Whole) (before now : ℕ) → TellsAt told purpose peer label answer w before now → now ≡ count_at told purpose peer label answer w before
counted_at told None peer label answer w before now t = t.counted
counted_at told (Some purpose) peer label answer w before now t =
    counted_by told purpose.place answer (served_login w.node) (awaits w.node purpose.place peer label) (stage w.node w.disk) before now t

counted_in : (told : Option Told) (found : Finding TaskPurpose) (w : Whole) (before now : ℕ) → TellsIn told found w before now → now ≡ count_in told found w before
unfolding count_in
counted_in told of_generation w before now t = t.counted
counted_in told of_grammar w before now t = t.counted
counted_in told of_label w before now t = t.counted
counted_in told (of_response p label purpose) w before now t =
    counted_at told purpose (header_in p).source label (answer_in p) w before now t
counted_in told (of_again p rcode) w before now t = t.counted
counted_in told (of_request p) w before now t = t.counted

-- ---- the task node

node_is : (told : Option Told) (sent : Sent) (old new : TaskNode) (disk later : Disk) (before now : ℕ) (judged : Judged) (outbox : OutboxState) → (judged, whole (scene new outbox) later) ≡ received told sent.generation sent.bytes (whole (scene old empty_outbox) disk) → now ≡ count_behind told sent old (one_held disk before) → (judged, (outbox, (new, one_held later now))) ≡ task_received told sent old (one_held disk before)
unfolding task_received
node_is told sent old new disk later before now judged outbox e c =
    ap (λ (x : Judged × Whole). left_node x now) e ∙ ap (λ (n : ℕ). left_node (received told sent.generation sent.bytes (whole (scene old empty_outbox) disk)) n) c

may_tell : (told : Option Told) (sent : Sent) (old : TaskNode) (disk : Disk) (before now : ℕ) → now ≡ count_behind told sent old (one_held disk before) → TellsIn told (judged_node sent old (one_held disk before)).0 (judged_node sent old (one_held disk before)).1 before now → MayTell told sent old (one_held disk before)
unfolding MayTell
may_tell told sent old disk before now e t =
    subst (λ (n : ℕ). TellsIn told (judged_node sent old (one_held disk before)).0 (judged_node sent old (one_held disk before)).1 before n) e t

receives_from : (sent : Sent) (old new : TaskNode) (disk later : Disk) (before now : ℕ) (judged : Judged) (outbox : OutboxState) → target.Receives sent.generation sent.bytes (whole (scene old empty_outbox) disk) judged (whole (scene new outbox) later) before now → NodeReceives sent old (one_held disk before) judged outbox new (one_held later now)
receives_from sent old new disk later before now judged outbox r =
    let found = judged_node sent old (one_held disk before) in
    let c = counted_in r.told found.0 found.1 before now r.tells in
    record {
      told = r.told;
      is = node_is r.told sent old new disk later before now judged outbox r.is c;
      may = may_tell r.told sent old disk before now c r.tells;
    }

receives_so : (sent : Sent) (old new : TaskNode) (first outbox : OutboxState) (disk later : Disk) (before now : ℕ) (judged : Judged) → first ≡ empty_outbox → target.Receives sent.generation sent.bytes (whole (scene old first) disk) judged (whole (scene new outbox) later) before now → NodeReceives sent old (one_held disk before) judged outbox new (one_held later now)
receives_so sent old new first outbox disk later before now judged e r =
    receives_from sent old new disk later before now judged outbox (subst (λ (o : OutboxState). target.Receives sent.generation sent.bytes (whole (scene old o) disk) judged (whole (scene new outbox) later) before now) e r)

pub node_receives : (sent : Sent) (bytes : List ℕ) (old new : TaskNode) (first outbox : OutboxState) (disk later : Disk) (before now : ℕ) (judged : Judged) → bytes ≡ sent.bytes → first ≡ empty_outbox → target.Receives sent.generation bytes (whole (scene old first) disk) judged (whole (scene new outbox) later) before now → NodeReceives sent old (one_held disk before) judged outbox new (one_held later now)
node_receives sent bytes old new first outbox disk later before now judged b e r =
    receives_so sent old new first outbox disk later before now judged e (subst (λ (x : List ℕ). target.Receives sent.generation x (whole (scene old first) disk) judged (whole (scene new outbox) later) before now) b r)

-- ---- the node of a packet

step_is : (told : Option Told) (serial : ℕ) (s : TaskScene) (found : Option Sent) → found ≡ found_sent serial s.scene.world.store.kept → received_by told found s ≡ received_step told serial s
unfolding received_step
step_is told serial s found e = ap (λ (f : Option Sent). received_by told f s) e

step_may : (told : Option Told) (serial : ℕ) (s : TaskScene) (found : Option Sent) → found ≡ found_sent serial s.scene.world.store.kept → MayAt told found s → MayReceive told serial s
unfolding MayReceive
step_may told serial s found e m = subst (λ (f : Option Sent). MayAt told f s) e m

pub none_receives : (serial : ℕ) (s : TaskScene) (outbox : OutboxState) → outbox ≡ empty_outbox → None ≡ found_sent serial s.scene.world.store.kept → Receives serial s None outbox s
none_receives serial s outbox o e = record {
  told = None;
  is = ap (λ (x : OutboxState). (None, (x, s))) o ∙ step_is None serial s None e;
  may = step_may None serial s None e refl;
}

at_node_is : (told : Option Told) (sent : Sent) (s : TaskScene) → (sent.to == 0) ≡ true → at_node sent.to (task_received told sent s.node s.scene.media) s ≡ received_at told sent s
at_node_is told sent s e =
    ap (λ (b : Bool). if b then at_node sent.to (task_received told sent s.node s.scene.media) s else at_other (initiator_received sent s.scene) s) (sym e)

pub target_receives : (serial : ℕ) (s : TaskScene) (sent : Sent) (judged : Judged) (outbox : OutboxState) (new : TaskNode) (now : Held) → Some sent ≡ found_sent serial s.scene.world.store.kept → (sent.to == 0) ≡ true → NodeReceives sent s.node s.scene.media judged outbox new now
    → Receives serial s (Some (arrival sent.to judged)) outbox (record { scene = record { world = (with_node new (world_of s)).world; media = now }; node = new })
target_receives serial s sent judged outbox new now e z r = record {
  told = r.told;
  is = ap (λ (x : Judged × (OutboxState × (TaskNode × Held))). at_node sent.to x s) r.is ∙ (at_node_is r.told sent s z ∙ step_is r.told serial s (Some sent) e);
  may = step_may r.told serial s (Some sent) e (subst (λ (b : Bool). MayTold b r.told sent s) (sym z) r.may);
}

at_other_is : (sent : Sent) (s : TaskScene) → (sent.to == 0) ≡ false → at_other (initiator_received sent s.scene) s ≡ received_at None sent s
at_other_is sent s e =
    ap (λ (b : Bool). if b then at_node sent.to (task_received None sent s.node s.scene.media) s else at_other (initiator_received sent s.scene) s) (sym e)

in_range : (b : Bool) (sent : Sent) (s : Scene) → nat_lt (sent.to - 1) (length s.world.initiators) ≡ b → (if b then at_initiator sent.to (initiators_received (sent.to - 1) sent s.world.initiators) s else at_none s) ≡ initiator_received sent s
in_range b sent s e =
    ap (λ (x : Bool). if x then at_initiator sent.to (initiators_received (sent.to - 1) sent s.world.initiators) s else at_none s) (sym e)

untold : (sent : Sent) (s : TaskScene) → (sent.to == 0) ≡ false → MayTold (sent.to == 0) None sent s
untold sent s z = subst (λ (b : Bool). MayTold b None sent s) (sym z) refl

-- the initiator is the only one
one_received : (sent : Sent) (old new : InitiatorState) (judged : Judged) (outbox : OutboxState) → (judged, (outbox, new)) ≡ receive_step sent.generation sent.bytes empty_outbox old → (judged, (outbox, new ∷ [])) ≡ initiators_received 0 sent (old ∷ [])
unfolding initiators_received
one_received sent old new judged outbox r = ap (λ (x : Judged × (OutboxState × InitiatorState)). (x.0, (x.1.0, x.1.1 ∷ []))) r

pub initiator_receives : (serial : ℕ) (s : TaskScene) (sent : Sent) (judged : Judged) (outbox : OutboxState) (old new : InitiatorState) → s.scene.world.initiators ≡ old ∷ [] → Some sent ≡ found_sent serial s.scene.world.store.kept → sent.to ≡ 1 → (judged, (outbox, new)) ≡ receive_step sent.generation sent.bytes empty_outbox old
    → Receives serial s (Some (arrival sent.to judged)) outbox (in_scene (in_plain_world (with_initiators (new ∷ []))) s)
initiator_receives serial s sent judged outbox old new i e one r =
    let z : (sent.to == 0) ≡ false = ap (λ n. n == 0) one in
    let inside : nat_lt (sent.to - 1) (length s.scene.world.initiators) ≡ true = ap (λ n. nat_lt (n - 1) (length s.scene.world.initiators)) one ∙ ap (λ (is : List InitiatorState). nat_lt 0 (length is)) i in
    let here : (judged, (outbox, new ∷ [])) ≡ initiators_received (sent.to - 1) sent s.scene.world.initiators
    = one_received sent old new judged outbox r ∙ ap (λ (is : List InitiatorState). initiators_received 0 sent is) (sym i) ∙ ap (λ n. initiators_received (n - 1) sent s.scene.world.initiators) (sym one) in
    record {
      told = None;
      is =
          ap (λ (x : Judged × (OutboxState × List InitiatorState)). at_other (at_initiator sent.to x s.scene) s) here
          ∙ (ap (λ (x : Option Arrival × (OutboxState × Scene)). at_other x s) (in_range true sent s.scene inside) ∙ (at_other_is sent s z ∙ step_is None serial s (Some sent) e));
      may = step_may None serial s (Some sent) e (untold sent s z);
    }

pub nobody_receives : (serial : ℕ) (s : TaskScene) (sent : Sent) (outbox : OutboxState) → outbox ≡ empty_outbox → Some sent ≡ found_sent serial s.scene.world.store.kept → (sent.to == 0) ≡ false → nat_lt (sent.to - 1) (length s.scene.world.initiators) ≡ false → Receives serial s None outbox s
nobody_receives serial s sent outbox o e z out = record {
  told = None;
  is =
      ap (λ (x : OutboxState). (None, (x, s))) o
      ∙ (ap (λ (x : Option Arrival × (OutboxState × Scene)). at_other x s) (in_range false sent s.scene out) ∙ (at_other_is sent s z ∙ step_is None serial s (Some sent) e));
  may = step_may None serial s (Some sent) e (untold sent s z);
}
