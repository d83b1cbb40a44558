-- A delivery, by what the transaction layer finds it to be.
use Rattle.std.specs.Prelude.{◌≡◌, ℕ, List, [], Option, Some, None, Result, Ok, Err, IfOk, refl}
use Rattle.std.proofs.Common.{ap, subst, sym, ◌∙◌}
use Rattle.async_packet.specs.Labels.{LabelParts}
use Rattle.async_packet.specs.Packet.{Packet, header_in}
use Rattle.label_table.specs.Layer.{Layer, Finding, of_generation, of_grammar, of_label, of_response, of_again, of_request, judging_step}
use Rattle.orb_layout.specs.Replies.{Answer}
use Rattle.rbc_disk.specs.Runs.{Told}
use Rattle.sbp_journal.specs.declared.cause.Cause.TheVariants as ignored
use Rattle.sbp_journal.specs.declared.cause.Judged.{Judged}
use Rattle.sbp_journal.specs.declared.cause.Judged.TheVariants as judged
use Rattle.task_target.specs.declared.purpose.TaskPurpose.{TaskPurpose}
use Rattle.task_target.specs.Nodes.{TaskNode, Scene, scene}
use Rattle.task_target.specs.Replies.{Whole, whole, RepliesTo, Silent}
use Rattle.task_target.specs.Serving.{answered, request_step}
use Rattle.task_target.specs.Receiving.{Concludes, Receives, TellsIn, answer_in, concluded, judged_scene, received, received_as, with_layer}

-- no command ran
nothing_told : (before now : ℕ) → now ≡ before → Silent None before now
nothing_told before now e = record { so = refl; counted = e }

received_so : (generation : ℕ) (bytes : List ℕ) (old : Whole) (f : Finding TaskPurpose) (layer : Layer TaskPurpose) (j : Judged) (new : Whole) (before now : ℕ) (told : Option Told) → (f, layer) ≡ judging_step old.node.layer generation bytes → (j, new) ≡ received_as told bytes f (with_layer layer old) → TellsIn told f (with_layer layer old) before now → Receives generation bytes old j new before now
unfolding received
received_so generation bytes old f layer j new before now told e r t = record {
  told = told;
  is = r ∙ ap (λ x. received_as told bytes x.0 (with_layer x.1 old)) e;
  tells = subst (λ x. TellsIn told x.0 (with_layer x.1 old) before now) e t;
}

-- the node as the judging leaves it, beside what it hands out and what the medium holds
abbrev with_node : TaskNode → Whole → Whole
with_node node w = whole (scene node w.outbox) w.disk

pub received_generation : (generation : ℕ) (bytes : List ℕ) (old : Whole) (mid : TaskNode) (before : ℕ) → mid ≡ record old.node { layer = mid.layer } → (of_generation, mid.layer) ≡ judging_step old.node.layer generation bytes → Receives generation bytes old (judged.Ignored ignored.Generation) (with_node mid old) before before
received_generation generation bytes old mid before m e = received_so generation bytes old of_generation mid.layer _ _ before before None e (ap (λ n. (judged.Ignored ignored.Generation, with_node n old)) m) (nothing_told before before refl)

pub received_grammar : (generation : ℕ) (bytes : List ℕ) (old : Whole) (mid : TaskNode) (before : ℕ) → mid ≡ record old.node { layer = mid.layer } → (of_grammar, mid.layer) ≡ judging_step old.node.layer generation bytes → Receives generation bytes old (judged.Ignored ignored.Grammar) (with_node mid old) before before
received_grammar generation bytes old mid before m e = received_so generation bytes old of_grammar mid.layer _ _ before before None e (ap (λ n. (judged.Ignored ignored.Grammar, with_node n old)) m) (nothing_told before before refl)

pub received_label : (generation : ℕ) (bytes : List ℕ) (old : Whole) (mid : TaskNode) (before : ℕ) → mid ≡ record old.node { layer = mid.layer } → (of_label, mid.layer) ≡ judging_step old.node.layer generation bytes → Receives generation bytes old (judged.Ignored ignored.Label) (with_node mid old) before before
received_label generation bytes old mid before m e = received_so generation bytes old of_label mid.layer _ _ before before None e (ap (λ n. (judged.Ignored ignored.Label, with_node n old)) m) (nothing_told before before refl)

pub received_response : (generation : ℕ) (bytes : List ℕ) (old : Whole) (mid : TaskNode) (p : Packet) (label : LabelParts) (purpose : Option TaskPurpose) (new : Whole) (before now : ℕ) → mid ≡ record old.node { layer = mid.layer } → (of_response p label purpose, mid.layer) ≡ judging_step old.node.layer generation bytes → Concludes purpose (header_in p).source label (answer_in p) (with_node mid old) new before now → Receives generation bytes old judged.Got new before now
received_response generation bytes old mid p label purpose new before now m e c =
    let r : Concludes purpose (header_in p).source label (answer_in p) (with_layer mid.layer old) new before now = subst (λ n. Concludes purpose (header_in p).source label (answer_in p) (with_node n old) new before now) m c in
    received_so generation bytes old (of_response p label purpose) mid.layer _ new before now r.told e (ap (λ w. (judged.Got, w)) r.is) r.tells

pub received_again : (generation : ℕ) (bytes : List ℕ) (old : Whole) (mid : TaskNode) (p : Packet) (rcode : ℕ) (s : Scene) (before : ℕ) → mid ≡ record old.node { layer = mid.layer } → (of_again p rcode, mid.layer) ≡ judging_step old.node.layer generation bytes → s ≡ answered p bytes rcode [] (scene mid old.outbox) → Receives generation bytes old (judged.Ignored ignored.Again) (whole s old.disk) before before
received_again generation bytes old mid p rcode s before m e a =
    received_so generation bytes old (of_again p rcode) mid.layer _ _ before before None e (ap (λ x. (judged.Ignored ignored.Again, whole x old.disk)) (a ∙ ap (λ n. answered p bytes rcode [] (scene n old.outbox)) m)) (nothing_told before before refl)

-- a request runs no command
pub received_request : (generation : ℕ) (bytes : List ℕ) (old new : Whole) (mid : TaskNode) (p : Packet) (j : Judged) (before now : ℕ) → mid ≡ record old.node { layer = mid.layer } → (of_request p, mid.layer) ≡ judging_step old.node.layer generation bytes → new.disk ≡ old.disk → now ≡ before → (j, scene new.node new.outbox) ≡ request_step p bytes (scene mid old.outbox) → Receives generation bytes old j new before now
received_request generation bytes old new mid p j before now m e d n r =
    received_so generation bytes old (of_request p) mid.layer j new before now None e
    (ap (λ disk. (j, whole (scene new.node new.outbox) disk)) d ∙ ap (λ x. judged_scene x old) (r ∙ ap (λ n. request_step p bytes (scene n old.outbox)) m)) (nothing_told before now n)

pub if_ok : {A E : Type 0} (P Q : A → Type 0) (result : Result A E) → ((a : A) → P a → Q a) → IfOk result P → IfOk result Q
if_ok P Q (Ok a) f p = f a p
if_ok P Q (Err e) f p = p

-- What a response brings, by what its transaction was for.
pub concludes_none : (purpose : Option TaskPurpose) (peer : ℕ) (label : LabelParts) (answer : Answer) (w : Whole) (before : ℕ) → purpose ≡ None → Concludes purpose peer label answer w w before before
unfolding concluded
concludes_none None peer label answer w before e = record { told = None; is = refl; tells = nothing_told before before refl }
concludes_none (Some purpose) peer label answer w before e = absurd (let no : Some purpose ≡ None = e in cc)

pub concludes_place : (purpose : Option TaskPurpose) (found : TaskPurpose) (peer : ℕ) (label : LabelParts) (answer : Answer) (old new : Whole) (before now : ℕ) → purpose ≡ Some found → RepliesTo found.place peer label answer old new before now → Concludes purpose peer label answer old new before now
unfolding concluded
concludes_place purpose found peer label answer old new before now e r =
    subst (λ x. Concludes x peer label answer old new before now) (sym e) (record { told = r.told; is = r.is; tells = r.tells })
