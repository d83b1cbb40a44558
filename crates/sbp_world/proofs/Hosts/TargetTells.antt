-- What the target tells as a transaction of it times out is no note of an initiator.
use Rattle.sbp_world.proofs.Words.Wire.{LabelParts, Outgoing, Side}
use Rattle.sbp_world.proofs.Words.Target.{Scene, expired}
use Rattle.sbp_world.proofs.Words.World.{AreOthers}
use Rattle.std.specs.Prelude.{ℕ, List, [], ◌∷◌}
use Rattle.sbp_world.proofs.Hosts.Mild.{AreMild}
use Rattle.sbp_world.proofs.Hosts.TargetGives as gives

-- an outbox is empty
abbrev pub AreNone : List Side → List Outgoing → Type 0
AreNone [] [] = Unit {0}
AreNone (side ∷ sides) packets = ⊥
AreNone [] (packet ∷ packets) = ⊥

from_none : (sides : List Side) (packets : List Outgoing) → AreNone sides packets → AreOthers sides × AreMild packets
from_none [] [] h = (tt, tt)
from_none (side ∷ sides) packets h = absurd h
from_none [] (packet ∷ packets) h = absurd h

pub expires : (peer : ℕ) (label : LabelParts) (s : Scene) → AreNone s.outbox.sides s.outbox.packets → AreOthers (expired peer label s).1.outbox.sides
expires peer label s h = (gives.expires peer label s (from_none s.outbox.sides s.outbox.packets h)).0
