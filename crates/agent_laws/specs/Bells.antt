-- When an agent is SUSPENDED, and when a doorbell's mark goes (NCITS 325-1998, command block agents), read off what calls tell.
use Rattle.std.specs.Prelude.{◌≡◌, ◌||◌, is_none, Bool, true, false, if◌then◌else◌, List, [], ◌∷◌, None}
use Rattle.orb_layout.specs.declared.pointer.OrbPointer.TheVariants.{Null}
use Rattle.command_agent.specs.declared.phase.Phase.TheVariants as phases
use Rattle.command_agent.specs.declared.step.Which.TheVariants.{Main, Ahead}
use Rattle.agent_laws.specs.Calls.{Call, after_calls, notes, Note, Rung, Reads, is_open, present_in, fetched_in, next_in}
use Rattle.agent_laws.specs.Transactions.{main_in}
use Rattle.agent_laws.specs.Wire.{is_dead}

-- a main read is that of an ORB or of a next pointer, and of no table and no data
abbrev pub reads_pointer : List Note → Bool
reads_pointer ns = is_none (present_in ns) || is_none (fetched_in ns)

-- a doorbell came since a read of an ORB or next pointer was last sent
abbrev pub rung_since : List Note → Bool
rung_since [] = false
rung_since (Rung ∷ ns) = true
rung_since (Reads Main offset size ∷ ns) = if reads_pointer ns then false else rung_since ns
rung_since (Reads Ahead offset size ∷ ns) = false
rung_since (_ ∷ ns) = rung_since ns

-- An agent is SUSPENDED only where its last ORB has ended and its status write was answered, the next pointer last read is null, and no doorbell came since a read of an ORB or next pointer was last sent.
pub record IsAtEnd (ns : List Note) : Type 0 where
  pub ended : present_in ns ≡ None
  pub answered : main_in ns ≡ false
  pub last : next_in ns ≡ Null
  pub unrung : rung_since ns ≡ false

abbrev pub SuspendedLaw : Type 0
SuspendedLaw = (calls : List Call) → (after_calls calls).phase ≡ phases.Suspended → IsAtEnd (notes calls)

-- While a list is open and the agent is not dead, the doorbell mark is cleared only as such a read is sent.
abbrev pub MarkLaw : Type 0
MarkLaw = (calls : List Call) → is_open (notes calls) ≡ true → is_dead (notes calls) ≡ false → rung_since (notes calls) ≡ true → (after_calls calls).doorbell ≡ true
