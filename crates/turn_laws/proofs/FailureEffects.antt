-- What a decision does to the agents and the units leaves the labels of the target as they are, and tells of no failure of the operation (NCITS 325-1998, management agent).
use Rattle.std.proofs.Common.{◌≡◌, ◌∙◌, refl, ap, ℕ, zero, suc, ◌+◌, nat_lt, Bool, true, false, cond, List, [], ◌∷◌, ◌++◌, length, Option, Some, None}
use Rattle.label_table.specs.Layer.{Layer}
use Rattle.mgmt_agent.specs.declared.decision.Decision.{Decision}
use Rattle.mgmt_agent.specs.declared.decision.Effect.{Effect}
use Rattle.mgmt_agent.specs.declared.decision.Effect.TheVariants as effects
use Rattle.sbp_journal.specs.declared.cause.CutCause.{CutCause}
use Rattle.sbp_journal.specs.declared.cause.CutCause.TheVariants as cuts
use Rattle.sbp_journal.specs.declared.side.Side.{Side}
use Rattle.sbp_journal.specs.declared.side.Side.TheVariants as sides
use Rattle.sbp_journal.specs.Outgoings.{empty_outbox}
use Rattle.sbp_target.specs.declared.purpose.Purpose.{Purpose}
use Rattle.sbp_target.specs.declared.purpose.Sent.{Sent}
use Rattle.sbp_target.specs.Agents.{cut, disowned}
use Rattle.sbp_target.specs.Management.{clear_one, cut_placed, decided_by, effect_by, place_in}
use Rattle.sbp_target.specs.Nodes.{NodeState, Scene, desk_at, login_at, scene}
use Rattle.sbp_target.specs.Units.{clear_from, clear_unit, cut_all, cut_at, cut_from, is_cut}
use Rattle.sbp_target.proofs.Histories.Seats.{Lives}
use Rattle.sbp_world.proofs.Agents.Management.Calm as calm
use Rattle.sbp_world.proofs.Agents.Management.Calm.{AreQuiet, Calm, From, IsQuiet}
use Rattle.turn_laws.proofs.AskedLabels.{Alike, alike_self, alike_then, disowned_alike}
use Rattle.turn_laws.proofs.KindNotes.{join_same, none_behind}

-- ---- the failures among what is told
abbrev pub failing_of : Side → List Side
failing_of (sides.ManageFailed node cause) = sides.ManageFailed node cause ∷ []
failing_of side = []

abbrev pub failing : List Side → List Side
failing [] = []
failing (side ∷ later) = failing_of side ++ failing later

pub fails_more : (told : List Side) (side : Side) → failing (told ++ side ∷ []) ≡ failing told ++ failing_of side
fails_more [] side = none_behind (failing_of side)
fails_more (first ∷ told) side = ap (λ xs. failing_of first ++ xs) (fails_more told side) ∙ join_same (failing_of first) (failing told) (failing_of side)

-- one more that is none
pub plain_more : (told : List Side) (side : Side) → failing_of side ≡ [] → failing told ≡ [] → failing (told ++ side ∷ []) ≡ []
plain_more told side e h = fails_more told side ∙ ap (λ xs. xs ++ failing_of side) h ∙ e

quiet_side : (side : Side) → IsQuiet side → failing_of side ≡ []
quiet_side (sides.ManageFailed node cause) h = absurd h
quiet_side side h = refl

pub quiet_fails : (told : List Side) → AreQuiet told → failing told ≡ []
quiet_fails [] h = refl
quiet_fails (side ∷ later) h = ap (λ xs. xs ++ failing later) (quiet_side side h.0) ∙ quiet_fails later h.1

-- ---- labels
abbrev Keeps : Scene → Scene → Type 0
Keeps s t = Alike s.node.layer t.node.layer

disowned_keeps : (sent : Option Sent) (layer : Layer Purpose) → Alike layer (disowned sent layer)
disowned_keeps None layer = alike_self layer
disowned_keeps (Some sent) layer = disowned_alike layer sent.peer sent.label

cut_keeps : (cause : CutCause) (place : ℕ) (s : Scene) → Keeps s (cut cause place s)
unfolding cut
cut_keeps cause place s =
    let main = (desk_at s.node place).main in
    let ahead = (desk_at s.node place).ahead in
    let one = disowned main s.node.layer in
    alike_then s.node.layer one (disowned ahead one) (disowned_keeps main s.node.layer) (disowned_keeps ahead one)

keeps_if : (b : Bool) (s x y : Scene) → Keeps s x → Keeps s y → Keeps s (cond b x y)
keeps_if true s x y p q = p
keeps_if false s x y p q = q

cut_at_keeps : (cause : CutCause) (unit : Option ℕ) (place : ℕ) (s : Scene) → Keeps s (cut_at cause unit place s)
unfolding cut_at
cut_at_keeps cause unit place s = keeps_if (is_cut unit (login_at s.node place)) s (cut cause place s) s (cut_keeps cause place s) (alike_self s.node.layer)

cuts_keep : (left place : ℕ) (cause : CutCause) (unit : Option ℕ) (s : Scene) → Keeps s (cut_from left place cause unit s)
unfolding cut_from
cuts_keep zero place cause unit s = alike_self s.node.layer
cuts_keep (suc left) place cause unit s =
    let t = cut_at cause unit place s in
    alike_then s.node.layer t.node.layer (cut_from left (place + 1) cause unit t).node.layer (cut_at_keeps cause unit place s) (cuts_keep left (place + 1) cause unit t)

placed_keeps : (place : Option ℕ) (cause : CutCause) (s : Scene) → Keeps s (cut_placed place cause s)
placed_keeps None cause s = alike_self s.node.layer
placed_keeps (Some place) cause s = cut_keeps cause place s

clears_keep : (left unit : ℕ) (s : Scene) → Keeps s (clear_from left unit s)
unfolding clear_from clear_unit
clears_keep zero unit s = alike_self s.node.layer
clears_keep (suc left) unit s = clears_keep left (unit + 1) (clear_unit unit s)

one_keeps : (unit : ℕ) (s : Scene) → Keeps s (clear_one unit s)
unfolding clear_unit
one_keeps unit s = keeps_if (nat_lt unit (length s.node.units)) s (clear_unit unit s) s (alike_self s.node.layer) (alike_self s.node.layer)

effect_keeps : (effect : Effect) (subject : ℕ) (s : Scene) → Keeps s (effect_by effect subject s)
effect_keeps effects.Nothing subject s = alike_self s.node.layer
effect_keeps (effects.Entered place replaced) subject s = alike_self s.node.layer
effect_keeps (effects.Back place) subject s = alike_self s.node.layer
effect_keeps (effects.Left place) subject s = placed_keeps (place_in place) cuts.Logout s
effect_keeps (effects.Abort place orb) subject s = alike_self s.node.layer
effect_keeps (effects.AbortSet place) subject s = placed_keeps (place_in place) cuts.AbortSet s
effect_keeps (effects.UnitReset unit) subject s =
    let t = cut_all cuts.UnitReset (Some unit) s in
    alike_then s.node.layer t.node.layer (clear_one unit t).node.layer (cuts_keep 8 0 cuts.UnitReset (Some unit) s) (one_keeps unit t)
effect_keeps effects.TargetReset subject s =
    let t = cut_all cuts.TargetReset None s in
    alike_then s.node.layer t.node.layer (clear_from (length t.node.units) 0 t).node.layer (cuts_keep 8 0 cuts.TargetReset None s) (clears_keep (length t.node.units) 0 t)

pub decided_keeps : (d : Option Decision) (effect : Effect) (source : ℕ) (s : Scene) → Keeps s (decided_by d effect source s)
unfolding decided_by
decided_keeps None effect source s = alike_self s.node.layer
decided_keeps (Some d) effect source s = effect_keeps effect d.subject s

-- ---- no failure
module _ (old : Lives) (node : NodeState) (f : From old node.layer) where
  begun : Calm old node (scene node empty_outbox)
  begun = record { logins = refl; keys = refl; manager = refl; rom = refl; quiet = tt; from = f }

  effect_fails : (effect : Effect) (subject : ℕ) → failing (effect_by effect subject (scene node empty_outbox)).outbox.sides ≡ []
  effect_fails effects.Nothing subject = refl
  effect_fails (effects.Entered place None) subject = refl
  effect_fails (effects.Entered place (Some login)) subject = refl
  effect_fails (effects.Back place) subject = refl
  effect_fails (effects.Left place) subject =
      let t = cut_placed (place_in place) cuts.Logout (scene node empty_outbox) in
      plain_more t.outbox.sides (sides.Left subject) refl (quiet_fails _ (calm.cuts_placed old node (place_in place) cuts.Logout (scene node empty_outbox) begun).quiet)
  effect_fails (effects.Abort place orb) subject = refl
  effect_fails (effects.AbortSet place) subject = quiet_fails _ (calm.cuts_placed old node (place_in place) cuts.AbortSet (scene node empty_outbox) begun).quiet
  effect_fails (effects.UnitReset unit) subject =
      let t = cut_all cuts.UnitReset (Some unit) (scene node empty_outbox) in
      quiet_fails _ (calm.clears_one old node unit t (calm.cuts_all old node cuts.UnitReset (Some unit) (scene node empty_outbox) begun)).quiet
  effect_fails effects.TargetReset subject =
      let t = cut_all cuts.TargetReset None (scene node empty_outbox) in
      quiet_fails _ (calm.clears_from old node (length t.node.units) 0 t (calm.cuts_all old node cuts.TargetReset None (scene node empty_outbox) begun)).quiet

  pub decided_fails : (d : Option Decision) (effect : Effect) (source : ℕ) → failing (decided_by d effect source (scene node empty_outbox)).outbox.sides ≡ []
  unfolding decided_by
  decided_fails None effect source = refl
  decided_fails (Some d) effect source =
      let t = effect_by effect d.subject (scene node empty_outbox) in
      plain_more t.outbox.sides (sides.Managed source d.function d.subject d.status d.login) refl (effect_fails effect d.subject)
