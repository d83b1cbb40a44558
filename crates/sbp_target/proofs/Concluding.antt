-- What a response brings, by what its transaction was for.
use Rattle.std.specs.Prelude.{◌≡◌, ℕ, List, Option, Some, None, refl}
use Rattle.std.proofs.Common.{ap, subst, sym}
use Rattle.async_packet.specs.Labels.{LabelParts}
use Rattle.orb_layout.specs.Replies.{Answer}
use Rattle.sbp_target.specs.declared.purpose.Purpose.{Purpose}
use Rattle.sbp_target.specs.declared.purpose.Purpose.TheVariants as purposes
use Rattle.sbp_target.specs.Management.{manage}
use Rattle.sbp_target.specs.Nodes.{NodeState, Scene, scene}
use Rattle.sbp_target.specs.Replies.{Whole, whole, scene_of, RepliesTo}
use Rattle.sbp_target.specs.Receiving.{Concludes, concluded, settled}

none_concludes : (peer : ℕ) (label : LabelParts) (answer : Answer) (w : Whole) (before : List ℕ) → Concludes None peer label answer w w before before
unfolding concluded
none_concludes peer label answer w before = record { told = None; is = refl; tells = (refl, refl) }

agent_concludes : (place peer : ℕ) (label : LabelParts) (answer : Answer) (old new : Whole) (before now : List ℕ) → RepliesTo place peer label answer old new before now → Concludes (Some (purposes.Agent place)) peer label answer old new before now
unfolding concluded
agent_concludes place peer label answer old new before now r = record { told = r.told; is = r.is; tells = r.tells }

management_concludes : (peer : ℕ) (label : LabelParts) (answer : Answer) (old : Whole) (s : Scene) (before : List ℕ) → s ≡ manage answer (scene_of old) → Concludes (Some purposes.Management) peer label answer old (whole s old.disks) before before
unfolding concluded
management_concludes peer label answer old s before e = record { told = None; is = ap (λ x. whole x old.disks) e; tells = (refl, refl) }

unsolicited_concludes : (peer : ℕ) (label : LabelParts) (answer : Answer) (old : Whole) (node : NodeState) (before : List ℕ) → node ≡ settled peer old.node → Concludes (Some purposes.Unsolicited) peer label answer old (whole (scene node old.outbox) old.disks) before before
unfolding concluded
unsolicited_concludes peer label answer old node before e = record { told = None; is = ap (λ x. whole (scene x old.outbox) old.disks) e; tells = (refl, refl) }

pub concludes_agent : (purpose : Purpose) (place peer : ℕ) (label : LabelParts) (answer : Answer) (old new : Whole) (before now : List ℕ) → purpose ≡ purposes.Agent place → RepliesTo place peer label answer old new before now → Concludes (Some purpose) peer label answer old new before now
concludes_agent purpose place peer label answer old new before now e r =
    subst (λ x. Concludes (Some x) peer label answer old new before now) (sym e) (agent_concludes place peer label answer old new before now r)

pub concludes_management : (purpose : Purpose) (peer : ℕ) (label : LabelParts) (answer : Answer) (old : Whole) (s : Scene) (before : List ℕ) → purpose ≡ purposes.Management → s ≡ manage answer (scene_of old) → Concludes (Some purpose) peer label answer old (whole s old.disks) before before
concludes_management purpose peer label answer old s before e m =
    subst (λ x. Concludes (Some x) peer label answer old (whole s old.disks) before before) (sym e) (management_concludes peer label answer old s before m)

pub concludes_unsolicited : (purpose : Purpose) (peer : ℕ) (label : LabelParts) (answer : Answer) (old : Whole) (node : NodeState) (before : List ℕ) → purpose ≡ purposes.Unsolicited → node ≡ settled peer old.node → Concludes (Some purpose) peer label answer old (whole (scene node old.outbox) old.disks) before before
concludes_unsolicited purpose peer label answer old node before e m =
    subst (λ x. Concludes (Some x) peer label answer old (whole (scene node old.outbox) old.disks) before before) (sym e) (unsolicited_concludes peer label answer old node before m)

pub concludes_none : (purpose : Option Purpose) (peer : ℕ) (label : LabelParts) (answer : Answer) (w : Whole) (before : List ℕ) → purpose ≡ None → Concludes purpose peer label answer w w before before
concludes_none purpose peer label answer w before e =
    subst (λ x. Concludes x peer label answer w w before before) (sym e) (none_concludes peer label answer w before)
