-- No call of the target changes how many units it has.
use Rattle.sbp_world.proofs.Words.Std.{◌≡◌, ◌∙◌, ℕ, List, length, Option}
use Rattle.sbp_world.proofs.Words.Wire.{LabelParts}
use Rattle.sbp_world.proofs.Words.Target.{Told, Moves, free, Scene, expired, received, seen, ticked, Whole, scene_of}
use Rattle.sbp_target.proofs.Histories.Views.{node_left}
use Rattle.sbp_target.proofs.Histories.Views as moves

module _ (n : ℕ) where
  abbrev pub In : Scene → Type 0
  In s = length s.node.units ≡ n

  counts : (x y : Scene) → Moves free x y → In x → In y
  counts x y m h = (node_left free x y m).count ∙ h

  pub receives : (told : Option Told) (generation : ℕ) (bytes : List ℕ) (w : Whole) → In (scene_of w) → In (scene_of (received told generation bytes w).1)
  receives told generation bytes w h = counts (scene_of w) _ (moves.receives told generation bytes w) h

  pub expires : (peer : ℕ) (label : LabelParts) (s : Scene) → In s → In (expired peer label s).1
  expires peer label s h = counts s _ (moves.expires peer label s) h

  pub sees : (generation id : ℕ) (s : Scene) → In s → In (seen generation id s).1
  sees generation id s h = counts s _ (moves.sees generation id s) h

  pub ticks : (s : Scene) → In s → In (ticked s)
  ticks s h = counts s _ (moves.ticks s) h
