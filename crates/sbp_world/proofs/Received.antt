-- A packet at its node.
use Rattle.sbp_world.proofs.Words.Std.{if◌then◌else◌, ◌∙◌, ap, subst, sym}
use Rattle.sbp_world.proofs.Words.Wire.{LabelParts, header_in, Finding, of_generation, of_grammar, of_label, of_response, of_again, of_request, Sent, found_sent, Judged, OutboxState, empty_outbox}
use Rattle.sbp_world.proofs.Words.Target.{Which, Login, Held, Told, Purpose, which_in, NodeState, desk_at, scene, TargetStep, TellsAt, TellsIn, answer_in, received, Stage, TellsBy, Whole, served_login, stage, whole}
use Rattle.sbp_world.proofs.Words.Initiator.{Answer, InitiatorState}
use Rattle.sbp_world.proofs.Words.World.{MayAt, MayReceive, MayTell, MayTold, Receives, TargetReceives, arrival, at_none, at_target, faults_after, faults_at, faults_by, faults_in, initiator_received, initiators_received, judged_target, with_initiators, left_target, received_at, received_by, received_step, target_received, whole_of, Scene, in_world, with_target}
use Rattle.std.specs.Prelude.{◌≡◌, ℕ, ◌-◌, ◌==◌, nat_lt, Bool, true, false, List, length, Option, Some, None, refl}
use Rattle.rbc_disk.specs.Held.{held}
use Rattle.sbp_target.specs.declared.purpose.Purpose.TheVariants as purposes
use Rattle.sbp_world.specs.Delivering.{at_initiator}

-- ---- the counts of faults

counted_by : (told : Option Told) (place : ℕ) (answer : Answer) (login : Option Login) (which : Option Which) (s : Stage) (before now : List ℕ) → TellsBy told place answer login which s before now → now ≡ faults_by told place answer login which s before
counted_by told place answer (Some login) (Some which) s before now t = t.counted
counted_by told place answer None which s before now t = t.1
counted_by told place answer (Some login) None s before now t = t.1

counted_at : (told : Option Told) (purpose : Option Purpose) (peer : ℕ) (label : LabelParts) (answer : Answer) (w : Whole) (before now : List ℕ) → TellsAt told purpose peer label answer w before now → now ≡ faults_at told purpose peer label answer w before
counted_at told (Some (purposes.Agent place)) peer label answer w before now t =
    counted_by told place answer (served_login w.node place) (which_in (desk_at w.node place) peer label) (stage w.node w.disks) before now t
counted_at told (Some purposes.Management) peer label answer w before now t = t.1
counted_at told (Some purposes.Unsolicited) peer label answer w before now t = t.1
counted_at told None peer label answer w before now t = t.1

counted_in : (told : Option Told) (f : Finding Purpose) (w : Whole) (before now : List ℕ) → TellsIn told f w before now → now ≡ faults_in told f w before
unfolding faults_in
counted_in told of_generation w before now t = t.1
counted_in told of_grammar w before now t = t.1
counted_in told of_label w before now t = t.1
counted_in told (of_response p label purpose) w before now t =
    counted_at told purpose (header_in p).source label (answer_in p) w before now t
counted_in told (of_again p rcode) w before now t = t.1
counted_in told (of_request p) w before now t = t.1

-- ---- the target

may_tell : (told : Option Told) (sent : Sent) (old : NodeState) (media : Held) (now : List ℕ) → now ≡ faults_after told sent old media → TellsIn told (judged_target sent old media).0 (judged_target sent old media).1 media.faults now → MayTell told sent old media
unfolding MayTell
may_tell told sent old media now e t =
    subst (λ f. TellsIn told (judged_target sent old media).0 (judged_target sent old media).1 media.faults f) e t

target_is : (told : Option Told) (sent : Sent) (old new : NodeState) (before now : Held) (judged : Judged) (outbox : OutboxState) → (judged, whole (scene new outbox) now.disks) ≡ received told sent.generation sent.bytes (whole_of old before) → now.faults ≡ faults_after told sent old before → (judged, (outbox, (new, now))) ≡ target_received told sent old before
unfolding target_received
target_is told sent old new before now judged outbox e f =
    ap (λ x. left_target x now.faults) e ∙ ap (λ x. left_target (received told sent.generation sent.bytes (whole_of old before)) x) f

target_receives_from : (sent : Sent) (old new : NodeState) (before now : Held) (judged : Judged) (outbox : OutboxState) → TargetStep sent.generation sent.bytes (whole_of old before) judged (whole (scene new outbox) now.disks) before.faults now.faults → TargetReceives sent old before judged outbox new now
target_receives_from sent old new before now judged outbox r =
    let f = counted_in r.told (judged_target sent old before).0 (judged_target sent old before).1 before.faults now.faults r.tells in
    record {
      told = r.told;
      is = target_is r.told sent old new before now judged outbox r.is f;
      may = may_tell r.told sent old before now.faults f r.tells;
    }

target_receives_so : (sent : Sent) (before after : Whole) (judged : Judged) (faults counts : List ℕ) → TargetStep sent.generation sent.bytes before judged after faults counts → before.outbox ≡ empty_outbox → TargetReceives sent before.node (held before.disks faults) judged after.outbox after.node (held after.disks counts)
target_receives_so sent before after judged faults counts step e =
    target_receives_from sent before.node after.node (held before.disks faults) (held after.disks counts) judged after.outbox (subst (λ o. TargetStep sent.generation sent.bytes (whole (scene before.node o) before.disks) judged after faults counts) e step)

pub target_receives : (sent : Sent) (bytes : List ℕ) (before after : Whole) (judged : Judged) (faults counts : List ℕ) → bytes ≡ sent.bytes → TargetStep sent.generation bytes before judged after faults counts → before.outbox ≡ empty_outbox → TargetReceives sent before.node (held before.disks faults) judged after.outbox after.node (held after.disks counts)
target_receives sent bytes before after judged faults counts b step e =
    target_receives_so sent before after judged faults counts (subst (λ x. TargetStep sent.generation x before judged after faults counts) b step) e

-- ---- the node of a packet

step_is : (told : Option Told) (serial : ℕ) (s : Scene) (found : Option Sent) → found ≡ found_sent serial s.world.store.kept → received_by told found s ≡ received_step told serial s
unfolding received_step
step_is told serial s found e = ap (λ f. received_by told f s) e

step_may : (told : Option Told) (serial : ℕ) (s : Scene) (found : Option Sent) → found ≡ found_sent serial s.world.store.kept → MayAt told found s → MayReceive told serial s
unfolding MayReceive
step_may told serial s found e m = subst (λ f. MayAt told f s) e m

pub none_receives : (serial : ℕ) (s : Scene) (outbox : OutboxState) → outbox ≡ empty_outbox → None ≡ found_sent serial s.world.store.kept → Receives serial s None outbox s
none_receives serial s outbox o e = record {
  told = None;
  is = ap (λ x. (None, (x, s))) o ∙ step_is None serial s None e;
  may = step_may None serial s None e refl;
}

at_target_is : (told : Option Told) (sent : Sent) (s : Scene) → (sent.to == 0) ≡ true → at_target sent.to (target_received told sent s.world.target s.media) s ≡ received_at told sent s
at_target_is told sent s e = ap (λ b. if b then at_target sent.to (target_received told sent s.world.target s.media) s else initiator_received sent s) (sym e)

pub node_receives : (serial : ℕ) (s : Scene) (sent : Sent) (judged : Judged) (outbox : OutboxState) (new : NodeState) (now : Held) → Some sent ≡ found_sent serial s.world.store.kept → (sent.to == 0) ≡ true → TargetReceives sent s.world.target s.media judged outbox new now → Receives serial s (Some (arrival sent.to judged)) outbox (record { world = with_target new s.world; media = now })
node_receives serial s sent judged outbox new now e z r = record {
  told = r.told;
  is = ap (λ x. at_target sent.to x s) r.is ∙ (at_target_is r.told sent s z ∙ step_is r.told serial s (Some sent) e);
  may = step_may r.told serial s (Some sent) e (subst (λ b. MayTold b r.told sent s) (sym z) r.may);
}

at_initiator_is : (sent : Sent) (s : Scene) → (sent.to == 0) ≡ false → received_at None sent s ≡ initiator_received sent s
at_initiator_is sent s e = ap (λ b. if b then at_target sent.to (target_received None sent s.world.target s.media) s else initiator_received sent s) e

in_range : (b : Bool) (sent : Sent) (s : Scene) → nat_lt (sent.to - 1) (length s.world.initiators) ≡ b → initiator_received sent s ≡ (if b then at_initiator sent.to (initiators_received (sent.to - 1) sent s.world.initiators) s else at_none s)
in_range b sent s e = ap (λ x. if x then at_initiator sent.to (initiators_received (sent.to - 1) sent s.world.initiators) s else at_none s) e

no_node_told : (sent : Sent) (s : Scene) → (sent.to == 0) ≡ false → MayTold (sent.to == 0) None sent s
no_node_told sent s z = subst (λ b. MayTold b None sent s) (sym z) refl

pub initiator_receives : (serial i : ℕ) (s : Scene) (sent : Sent) (judged : Judged) (outbox : OutboxState) (states : List InitiatorState) → i ≡ sent.to - 1 → Some sent ≡ found_sent serial s.world.store.kept → (sent.to == 0) ≡ false → nat_lt (sent.to - 1) (length s.world.initiators) ≡ true → (judged, (outbox, states)) ≡ initiators_received i sent s.world.initiators → Receives serial s (Some (arrival sent.to judged)) outbox (in_world (with_initiators states) s)
initiator_receives serial i s sent judged outbox states at e z inside r = record {
  told = None;
  is = ap (λ x. at_initiator sent.to x s) (r ∙ ap (λ k. initiators_received k sent s.world.initiators) at) ∙ (sym (in_range true sent s inside) ∙ (sym (at_initiator_is sent s z) ∙ step_is None serial s (Some sent) e));
  may = step_may None serial s (Some sent) e (no_node_told sent s z);
}

pub nobody_receives : (serial : ℕ) (s : Scene) (sent : Sent) (outbox : OutboxState) → outbox ≡ empty_outbox → Some sent ≡ found_sent serial s.world.store.kept → (sent.to == 0) ≡ false → nat_lt (sent.to - 1) (length s.world.initiators) ≡ false → Receives serial s None outbox s
nobody_receives serial s sent outbox o e z out = record {
  told = None;
  is = ap (λ x. (None, (x, s))) o ∙ (sym (in_range false sent s out) ∙ (sym (at_initiator_is sent s z) ∙ step_is None serial s (Some sent) e));
  may = step_may None serial s (Some sent) e (no_node_told sent s z);
}
