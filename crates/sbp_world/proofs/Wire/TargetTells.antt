-- The target tells no note in its own words.
use Rattle.sbp_world.proofs.Words.Std.{ℕ, List, Option}
use Rattle.sbp_world.proofs.Words.Wire.{LabelParts, Side}
use Rattle.sbp_world.proofs.Words.Target.{Told, Moves, Tells, announced, back, cleared, departed, died, ended, failed, free, lapsed, managed, opened, plain, ran, unsent, was_cut, Scene, expired, received, seen, ticked, Whole, scene_of}
use Rattle.sbp_target.specs.Histories.Moves.{held}
use Rattle.sbp_target.proofs.Histories.Views.{sides_kept}
use Rattle.sbp_target.proofs.Histories.Views as moves
use Rattle.sbp_world.proofs.Wire.Effects.{AreOtherSides, IsOtherSide, more_others}

abbrev pub In : Scene → Type 0
In s = AreOtherSides s.outbox.sides

other : (side : Side) → Tells free side → IsOtherSide side
other _ (ran place m step outcome f e) = tt
other _ (died place step cause f e) = tt
other _ (ended place m step status f e) = tt
other _ (plain _ (was_cut place cause c)) = tt
other _ (plain _ (opened place orb t)) = tt
other _ (plain _ (announced place t)) = tt
other _ (plain _ (unsent place t)) = tt
other _ (plain _ (failed source cause t)) = tt
other _ (plain _ (managed source function subject status login a)) = tt
other _ (plain _ (cleared unit a)) = tt
other _ (plain _ (back login a)) = tt
other _ (plain _ (departed login a)) = tt
other _ (plain _ (held login a)) = tt
other _ (plain _ (lapsed login a)) = tt

tells : (x y : Scene) → Moves free x y → In x → In y
tells x y m h = sides_kept free AreOtherSides (λ told side t i. more_others told side i (other side t)) x y m h

pub receives : (told : Option Told) (generation : ℕ) (bytes : List ℕ) (w : Whole) → In (scene_of w) → In (scene_of (received told generation bytes w).1)
receives told generation bytes w h = tells (scene_of w) _ (moves.receives told generation bytes w) h

pub expires : (peer : ℕ) (label : LabelParts) (s : Scene) → In s → In (expired peer label s).1
expires peer label s h = tells s _ (moves.expires peer label s) h

pub sees : (generation id : ℕ) (s : Scene) → In s → In (seen generation id s).1
sees generation id s h = tells s _ (moves.sees generation id s) h

pub ticks : (s : Scene) → In s → In (ticked s)
ticks s h = tells s _ (moves.ticks s) h
