-- The requests of the target, and no more: in each turn in which it gets a packet, or one of its transactions times out, the packets behind its response are exactly those that an agent, the management operation and a load have in it, in this order.
use Rattle.std.specs.Prelude.{◌≡◌, ℕ, List, Some}
use Rattle.rbc_disk.specs.Disk.{Disk}
use Rattle.sbp_journal.specs.Run.{said}
use Rattle.sbp_journal.specs.Wire.{terms}
use Rattle.sbp_journal.specs.declared.note.Note.TheVariants as notes
use Rattle.sbp_laws.specs.Packets.{receiver_in, sender_in}
use Rattle.sbp_laws.specs.SentRequests.{RequestsLaw}
use Rattle.sbp_laws.specs.Turns.{EachTurn, Turn}
use Rattle.turn_laws.specs.Runs.{OfEveryRun}

-- a turn that the target has
pub data IsTargets (t : Turn) : Type 0 where
  gets_it : (serial : ℕ) → t.start ≡ said (notes.Got serial) → receiver_in ((terms t.past).sent serial) ≡ Some 0 → IsTargets t
  times_out : (serial : ℕ) → t.start ≡ said (notes.TimedOut serial) → sender_in ((terms t.past).sent serial) ≡ Some 0 → IsTargets t

abbrev pub TargetAsks : List Disk → Turn → Type 0
TargetAsks start t = IsTargets t → RequestsLaw start t

abbrev pub TargetRequestsLaw : Type 0
TargetRequestsLaw = OfEveryRun (λ start past. EachTurn (TargetAsks start) past)
