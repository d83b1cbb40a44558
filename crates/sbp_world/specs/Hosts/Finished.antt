-- What an initiator's responses to reads carry, in every finished history (IEEE 1394-1995, split transactions; NCITS 325-1998, ORBs and page tables in an
-- initiator's memory): behind the note that it got a read of a slot's ORB, of its next pointer or of its page table which is complete, the history
-- goes on with the response, and that carries what was read.
use Rattle.std.specs.Prelude.{◌≡◌, ◌<◌, ℕ, suc, ◌+◌, true, false, List, ◌∷◌, ◌++◌, map, Some}
use Rattle.std.specs.List.{AllByRecursion}
use Rattle.async_packet.specs.Packet.{Packet}
use Rattle.bus_memory.specs.Windows.{window_at}
use Rattle.bus_transactions.specs.May.{is_plain}
use Rattle.sbp_journal.specs.Addresses.{Access, access_of}
use Rattle.sbp_journal.specs.Run.{Moment, said}
use Rattle.sbp_journal.specs.Wire.{terms}
use Rattle.sbp_journal.specs.declared.note.Note.{Note}
use Rattle.sbp_journal.specs.declared.note.Note.TheVariants as notes
use Rattle.sbp_laws.specs.Lists.{Orb, prepared_in}
use Rattle.sbp_laws.specs.Packets.{packet_in, receiver_in}
use Rattle.sbp_laws.specs.Served.{host_reply}
use Rattle.sbp_world.specs.Histories.{history_of}
use Rattle.sbp_world.specs.Runs.{Run}
use Rattle.sbp_world.specs.Hosts.Reads.{IsSaid}
use Rattle.sbp_world.specs.Hosts.Remaining.{Remains}
use Rattle.sbp_world.specs.Hosts.Responses.{AreReads}
use Rattle.sbp_world.specs.Hosts.Runs.{IsRun}

-- the history goes on so behind a read, and is all in the end
pub record GoesOnWith (past all : List Moment) (i serial slot : ℕ) (one : Orb) (access : Access) : Type 0 where
  pub now : List Moment
  pub rest : List Moment
  pub is : rest ++ now ≡ all
  pub reads : AreReads past i serial slot one access now
  -- so what the response is and carries is so by the whole history
  pub remains : Remains now all

pub record FinishedLaw : Type 0 where
  pub reads : (line : ℕ) (run : Run) → IsRun run → (later past : List Moment) (serial : ℕ) → later ++ said (notes.Got serial) ∷ past ≡ history_of line run → (i : ℕ) → receiver_in ((terms past).sent serial) ≡ Some (suc i) → (packet : Packet) → packet_in ((terms past).sent serial) ≡ Some packet → (access : Access) → access_of packet ≡ Some access → (access.is_write ≡ false → (host_reply past i access).rcode ≡ 0 → IsSaid past i access (window_at access.offset)) → (slot : ℕ) (found : Orb) → slot < 32 → prepared_in past i slot ≡ Some found → (host_reply past i access).rcode ≡ 0 → GoesOnWith past (history_of line run) i serial slot found access
  -- a packet that is sent behind that note and plain effects alone, as the response that is owed there, has the next serial
  pub next : (line : ℕ) (run : Run) → IsRun run → (later past : List Moment) (request : ℕ) (effects : List Note) → AllByRecursion (λ note. is_plain note ≡ true) effects → (serial generation from to : ℕ) (bytes : List ℕ) → later ++ said (notes.Sent serial generation from to bytes) ∷ (map said effects ++ said (notes.Got request) ∷ past) ≡ history_of line run → serial ≡ (terms past).count + 1
