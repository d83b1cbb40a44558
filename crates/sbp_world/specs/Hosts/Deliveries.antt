-- In which delivery a packet is got, in every run (IEEE 1394-1995, split transactions): behind each note that a packet was got stands the history of a
-- line that delivers packets, behind the deliveries of it so far, with that packet the next one.
use Rattle.std.specs.Prelude.{◌≡◌, ◌<◌, ℕ, suc, Bool, false, List, ◌∷◌, ◌++◌, length, map, Option, Some, Ok}
use Rattle.async_packet.specs.Packet.{Packet}
use Rattle.async_packet.specs.Reading.{reading}
use Rattle.bus_memory.specs.Windows.{window_at}
use Rattle.bus_transactions.specs.Wire.{as_sending}
use Rattle.packet_store.specs.declared.sent.Sent.{Sent}
use Rattle.packet_store.specs.Kept.{found_sent}
use Rattle.rbc_disk.specs.Runs.{Told}
use Rattle.sbp_journal.specs.Addresses.{Access, access_of}
use Rattle.sbp_journal.specs.Outgoings.{empty_outbox}
use Rattle.sbp_journal.specs.Run.{Moment, asked, said}
use Rattle.sbp_journal.specs.Wire.{terms}
use Rattle.sbp_journal.specs.declared.cause.Judged.TheVariants as judgements
use Rattle.sbp_journal.specs.declared.note.Note.TheVariants as notes
use Rattle.sbp_initiator.specs.Receiving.{receive_step}
use Rattle.sbp_laws.specs.Served.{host_reply}
use Rattle.sbp_world.specs.Delivering.{MayReceive, delivered}
use Rattle.sbp_world.specs.Histories.{history_of}
use Rattle.sbp_world.specs.Runs.{Entry, Run, after, beginning}
use Rattle.sbp_world.specs.Settling.{MayAll, after_all}
use Rattle.sbp_world.specs.Worlds.{Scene, begun, initiator_at}
use Rattle.sbp_world.specs.Hosts.Answering.{GetsRequest, IsDelivering}
use Rattle.sbp_world.specs.Hosts.Reads.{IsSaid}
use Rattle.sbp_world.specs.Hosts.Runs.{IsRun}

-- A scene keeps the packet of a serial. Where it was sent to an initiator, that is one of the scene, and judges that it gets it.
pub record WasGot (serial : ℕ) (s : Scene) : Type 0 where
  pub sent : Sent
  pub found : found_sent serial s.world.store.kept ≡ Some sent
  pub inside : (i : ℕ) → sent.to ≡ suc i → i < length s.world.initiators
  pub got : (i : ℕ) → sent.to ≡ suc i → (receive_step sent.generation sent.bytes empty_outbox (initiator_at s.world i)).0 ≡ judgements.Got

-- a run before some of its lines
abbrev pub front_of : Run → List Entry → Run
front_of run earlier = record run { entries = earlier }

-- A history stands before the delivery of a packet in a line of a run, and the history behind that delivery is the end of that of the run.
pub record IsDelivered (line : ℕ) (run : Run) (serial : ℕ) (before : List Moment) : Type 0 where
  pub later : List Entry
  pub entry : Entry
  pub earlier : List Entry
  pub entries : later ++ entry ∷ earlier ≡ run.entries
  pub front : IsRun (front_of run earlier)
  pub told : List (Option Told)
  pub delivers : IsDelivering entry.event told
  pub may : MayAll told (begun (after (beginning run) earlier))
  pub again : Bool
  pub one : Option Told
  pub may_one : MayReceive one serial (after_all told (begun (after (beginning run) earlier)))
  pub was_got : WasGot serial (after_all told (begun (after (beginning run) earlier)))
  -- it was sent so by the history before it too
  pub was : (terms before).sent serial ≡ Some (as_sending was_got.sent)
  pub inside : (i : ℕ) → was_got.sent.to ≡ suc i → i < run.initiators
  pub is : before ≡ map said (after_all told (begun (after (beginning run) earlier))).world.fresh ++ asked entry.line entry.event ∷ history_of line (front_of run earlier)
  pub rest : List Moment
  pub behind : rest ++ (map said (delivered serial again one (after_all told (begun (after (beginning run) earlier)))).world.fresh ++ asked entry.line entry.event ∷ history_of line (front_of run earlier)) ≡ history_of line run

pub record DeliveriesLaw : Type 0 where
  pub deliveries : (line : ℕ) (run : Run) → IsRun run → (later before : List Moment) (serial : ℕ) → later ++ said (notes.Got serial) ∷ before ≡ history_of line run → IsDelivered line run serial before
  -- a request that an initiator got so is one as the answering law asks for
  pub requests : (line : ℕ) (run : Run) (before : List Moment) (serial i : ℕ) (d : IsDelivered line run serial before) → d.was_got.sent.to ≡ suc i → (packet : Packet) → reading d.was_got.sent.bytes ≡ Ok packet → (access : Access) → access_of packet ≡ Some access → (access.is_write ≡ false → (host_reply before i access).rcode ≡ 0 → IsSaid before i access (window_at access.offset)) → GetsRequest before (after_all d.told (begun (after (beginning run) d.earlier))).world i serial
