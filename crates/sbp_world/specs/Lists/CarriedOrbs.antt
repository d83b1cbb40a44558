-- The management ORB that the target read last, by a history, which an operation has from then on (NCITS 325-1998, management agent): while the EUI-64 of the
-- source is read the phase has it; and behind the decision what was decided on is it.
use Rattle.std.specs.Prelude.{◌≡◌, ℕ, Bool, true, false, List, [], ◌∷◌, Option, Some, None}
use Rattle.mgmt_agent.specs.declared.operation.Operation.{Operation}
use Rattle.mgmt_agent.specs.declared.operation.Phase.{Phase}
use Rattle.mgmt_agent.specs.declared.operation.Phase.TheVariants as phases
use Rattle.orb_layout.specs.declared.management.ManagementOrb.{ManagementOrb}
use Rattle.orb_layout.specs.ManagementOrbs.{management_orb}
use Rattle.orb_layout.specs.Replies.{Answer}
use Rattle.rbc_disk.specs.Disk.{Disk}
use Rattle.sbp_journal.specs.declared.note.Note.TheVariants as notes
use Rattle.sbp_journal.specs.Run.{Moment, said}
use Rattle.sbp_journal.specs.Wire.{terms}
use Rattle.sbp_laws.specs.Packets.{answer_in, answered_at, packet_at, receiver_in}
use Rattle.sbp_laws.specs.Targets.{Decided, bytes_in, is_serial, target_at}

-- a reply to the read of an ORB brings it
abbrev pub read_in : Phase → Answer → ManagementOrb → ManagementOrb
read_in phases.Orb answer orb = management_orb (bytes_in answer)
read_in phase answer orb = orb

abbrev pub read_for : Option Operation → Answer → ManagementOrb → ManagementOrb
read_for None answer orb = orb
read_for (Some op) answer orb = read_in op.phase answer orb

abbrev pub read_if : Bool → Option Operation → Answer → ManagementOrb → ManagementOrb
read_if true operation answer orb = read_for operation answer orb
read_if false operation answer orb = orb

abbrev pub read_by : Bool → Option ℕ → Option ℕ → Option Operation → Answer → ManagementOrb → ManagementOrb
read_by true (Some own) manages operation answer orb = read_if (is_serial manages own) operation answer orb
read_by here own manages operation answer orb = orb

abbrev pub last_read : List Disk → List Moment → ManagementOrb
last_read start [] = management_orb []
last_read start (said (notes.Got serial) ∷ past) =
    read_by (is_serial (receiver_in ((terms past).sent serial)) 0) (answered_at (terms past) serial) (target_at start past).manages (target_at start past).manager.operation (answer_in (packet_at (terms past) serial)) (last_read start past)
last_read start (_ ∷ past) = last_read start past

-- an operation has the ORB
abbrev pub IsOn : Option Decided → ManagementOrb → Type 0
IsOn None orb = ⊥
IsOn (Some decided) orb = decided.orb ≡ orb

abbrev pub HasIn : Phase → Option Decided → ManagementOrb → Type 0
HasIn phases.Orb decided orb = Unit {0}
HasIn (phases.HighEui own) decided orb = own ≡ orb
HasIn (phases.LowEui own high) decided orb = own ≡ orb
HasIn (phases.Response fifo) decided orb = IsOn decided orb
HasIn phases.Status decided orb = IsOn decided orb

abbrev pub HasOrb : Option Operation → Option Decided → ManagementOrb → Type 0
HasOrb None decided orb = Unit {0}
HasOrb (Some op) decided orb = HasIn op.phase decided orb

-- of every history
abbrev pub CarriedOrbsLaw : Type 0
CarriedOrbsLaw = (start : List Disk) (past : List Moment) → HasOrb (target_at start past).manager.operation (target_at start past).decided (last_read start past)
