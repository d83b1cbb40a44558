-- What leaves a node, and what it tells, change nothing of the nodes and of the generations that they know.
use Rattle.sbp_world.proofs.Words.Std.{◌∙◌}
use Rattle.sbp_world.proofs.Words.Wire.{LabelParts, Outgoing, Side, node_of}
use Rattle.sbp_world.proofs.Words.World.{asked, posted, sent, sent_all, sent_to, told, told_all, WorldState}
use Rattle.std.specs.Prelude.{◌≡◌, ℕ, List, [], ◌∷◌, ◌++◌, Option, Some, None, refl}
use Rattle.sbp_journal.specs.declared.side.Side.TheVariants as sides

-- two worlds that differ in packets, notes, places and loads
pub record IsAlike (w v : WorldState) : Type 0 where
  pub generations : v.generations ≡ w.generations
  pub target : v.target ≡ w.target
  pub initiators : v.initiators ≡ w.initiators

pub alike_same : (w : WorldState) → IsAlike w w
alike_same w = record { generations = refl; target = refl; initiators = refl }

pub alike_then : (w v u : WorldState) → IsAlike w v → IsAlike v u → IsAlike w u
alike_then w v u a b = record {
  generations = b.generations ∙ a.generations;
  target = b.target ∙ a.target;
  initiators = b.initiators ∙ a.initiators;
}

-- ---- packets
asked_alike : (w v : WorldState) (serial to node peer : ℕ) (label : Option LabelParts) → IsAlike w v → IsAlike w (asked serial to node peer label v)
asked_alike w v serial to node peer None a = a
asked_alike w v serial to node peer (Some label) a = record { generations = a.generations; target = a.target; initiators = a.initiators }

sent_to_alike : (to : Option ℕ) (from : ℕ) (packet : Outgoing) (w : WorldState) → IsAlike w (sent_to to from packet w)
unfolding posted
sent_to_alike None from packet w = alike_same w
sent_to_alike (Some to) from packet w =
    asked_alike w _ _ to from packet.to packet.label (record { generations = refl; target = refl; initiators = refl })

pub sent_alike : (from : ℕ) (packet : Outgoing) (w : WorldState) → IsAlike w (sent from packet w)
unfolding sent
sent_alike from packet w = sent_to_alike (node_of w.generations from packet.to) from packet w

pub all_alike : (from : ℕ) (packets : List Outgoing) (w : WorldState) → IsAlike w (sent_all from packets w)
unfolding sent_all
all_alike from [] w = alike_same w
all_alike from (packet ∷ later) w =
    alike_then w (sent from packet w) (sent_all from later (sent from packet w)) (sent_alike from packet w) (all_alike from later (sent from packet w))

-- one after the other
pub sent_more : (from : ℕ) (packets more : List Outgoing) (w : WorldState) → sent_all from (packets ++ more) w ≡ sent_all from more (sent_all from packets w)
unfolding sent_all
sent_more from [] more w = refl
sent_more from (packet ∷ later) more w = sent_more from later more (sent from packet w)

-- ---- what is told
one_alike : (weight : ℕ) (side : Side) (w : WorldState) → IsAlike w (told weight side w)
unfolding told
one_alike weight (sides.Own note) w = record { generations = refl; target = refl; initiators = refl }
one_alike weight (sides.Opened place orb) w = record { generations = refl; target = refl; initiators = refl }
one_alike weight (sides.Ran place orb cdb payload outcome) w = record { generations = refl; target = refl; initiators = refl }
one_alike weight (sides.Ended place orb status) w = record { generations = refl; target = refl; initiators = refl }
one_alike weight (sides.Dead place cause) w = record { generations = refl; target = refl; initiators = refl }
one_alike weight (sides.Cut place cause) w = record { generations = refl; target = refl; initiators = refl }
one_alike weight (sides.Managed node function subject status login) w = record { generations = refl; target = refl; initiators = refl }
one_alike weight (sides.ManageFailed node cause) w = record { generations = refl; target = refl; initiators = refl }
one_alike weight (sides.Held login) w = record { generations = refl; target = refl; initiators = refl }
one_alike weight (sides.Expired login) w = record { generations = refl; target = refl; initiators = refl }
one_alike weight (sides.Back login) w = record { generations = refl; target = refl; initiators = refl }
one_alike weight (sides.Left login) w = record { generations = refl; target = refl; initiators = refl }
one_alike weight (sides.Cleared unit) w = record { generations = refl; target = refl; initiators = refl }
one_alike weight (sides.Unsolicited place) w = record { generations = refl; target = refl; initiators = refl }
one_alike weight (sides.Unsent place) w = record { generations = refl; target = refl; initiators = refl }

pub told_alike : (weight : ℕ) (told_now : List Side) (w : WorldState) → IsAlike w (told_all weight told_now w)
unfolding told_all
told_alike weight [] w = alike_same w
told_alike weight (side ∷ later) w =
    alike_then w (told weight side w) (told_all weight later (told weight side w)) (one_alike weight side w) (told_alike weight later (told weight side w))
