-- Whose statuses are taken, in every finished history (NCITS 325-1998, status block; IEEE 1394-1995, transaction layer): those of the target alone. The
-- packet by which a status is taken was sent by it to the initiator, and was not injected: an initiator serves no write of another node.
use Rattle.std.specs.Prelude.{◌≡◌, ℕ, suc, false, List, ◌∷◌, ◌++◌, Some, IsSomeAnd}
use Rattle.orb_layout.specs.declared.status.StatusKind.{StatusKind}
use Rattle.sbp_journal.specs.Run.{Moment, said}
use Rattle.sbp_journal.specs.Transactions.{Sending}
use Rattle.sbp_journal.specs.Wire.{terms}
use Rattle.sbp_journal.specs.declared.note.Note.TheVariants as notes
use Rattle.sbp_laws.specs.Lists.{last_got}
use Rattle.sbp_laws.specs.Packets.{access_at}
use Rattle.sbp_laws.specs.StatusLaw.{IsTaken, status_packet}
use Rattle.sbp_laws.specs.Terms.{ended_status}
use Rattle.sbp_world.specs.Histories.{history_of}
use Rattle.sbp_world.specs.Runs.{Run}
use Rattle.sbp_world.specs.Hosts.Runs.{IsRun}
use Rattle.sbp_world.specs.Hosts.Statuses.Taking.{IsTakenBy, is_place_fifo}

-- the packet that was got last is one that the target sent to an initiator
pub record IsOfTarget (past : List Moment) (i : ℕ) : Type 0 where
  pub packet : Sending
  pub is : (terms past).sent (last_got past) ≡ Some packet
  pub from : packet.from ≡ 0
  pub to : packet.to ≡ suc i
  pub honest : packet.injected ≡ false

pub record SendersLaw : Type 0 where
  pub senders : (line : ℕ) (run : Run) → IsRun run → (later past : List Moment) (i n k : ℕ) (status : StatusKind) (answer : List ℕ) → later ++ said (notes.Taken i n k status answer) ∷ past ≡ history_of line run → IsOfTarget past i

-- The first part of the status law is so by this and what is left to the target: that the ORB ended with this status, and that its end sent this packet
-- behind it, to another FIFO than that of a place of management.
pub record RestLaw : Type 0 where
  pub rest : (past : List Moment) (i n k : ℕ) (status : StatusKind) → IsTakenBy past i n k status → ended_status past i n k ≡ Some status → status_packet past i n k ≡ Some (last_got past) → IsSomeAnd (access_at (terms past) (last_got past)) (λ access. is_place_fifo access.offset ≡ false) → IsTaken past i n k status
