-- The operation of the management, in its phase, for which the target sent a packet (NCITS 325-1998, management agent): the operation asked for something then,
-- and this packet is that.
use Rattle.std.specs.Prelude.{ℕ, zero, ◌&&◌, not, Bool, true, false, List, [], ◌∷◌, Option, None}
use Rattle.mgmt_agent.specs.declared.operation.Operation.{Operation}
use Rattle.rbc_disk.specs.Disk.{Disk}
use Rattle.sbp_base.specs.Update.{upd}
use Rattle.sbp_journal.specs.Run.{Moment, said}
use Rattle.sbp_journal.specs.declared.note.Note.TheVariants as notes
use Rattle.sbp_laws.specs.Targets.{Target, is_nothing, is_serial, target_at}

abbrev pub is_its_packet : Target → Target → (serial : ℕ) → Bool
is_its_packet before now serial = not (is_nothing before.manager_asks) && (is_nothing now.manager_asks && is_serial now.manages serial)

abbrev pub operation_if : Bool → Option Operation → Option Operation
operation_if true operation = operation
operation_if false operation = None

abbrev pub managed_for : List Disk → List Moment → (serial : ℕ) → Option Operation
managed_for start [] = λ serial. None
managed_for start (said (notes.Sent serial generation zero to bytes) ∷ past) =
    upd (managed_for start past) serial (operation_if (is_its_packet (target_at start past) (target_at start (said (notes.Sent serial generation zero to bytes) ∷ past)) serial) (target_at start past).manager.operation)
managed_for start (_ ∷ past) = managed_for start past
