-- What an initiator answers, in every run (IEEE 1394-1995, response codes; NCITS 325-1998, ORBs and page tables in an initiator's memory): in a
-- delivery at which it gets a request, the first packet that is told is the response that the sent law says, from what the run terms have as
-- the request is got. So the response to a read of the 32 bytes of a slot's ORB carries the ORB that was prepared last there.
use Rattle.std.specs.Prelude.{◌≡◌, ◌<◌, ℕ, suc, Bool, false, List, [], ◌∷◌, ◌++◌, map, Option, Some}
use Rattle.std.specs.List.{AllByRecursion}
use Rattle.async_packet.specs.Packet.{Packet}
use Rattle.bus_memory.specs.Windows.{window_at}
use Rattle.label_table.specs.Layer.{judging_step, of_request}
use Rattle.packet_store.specs.declared.sent.Sent.{Sent}
use Rattle.packet_store.specs.Kept.{found_sent}
use Rattle.rbc_disk.specs.Disk.{Disk}
use Rattle.rbc_disk.specs.Runs.{Told}
use Rattle.sbp_journal.specs.Addresses.{Access, access_of}
use Rattle.sbp_journal.specs.Outgoings.{empty_outbox}
use Rattle.sbp_journal.specs.Run.{Moment, asked, said}
use Rattle.sbp_journal.specs.Wire.{terms}
use Rattle.sbp_journal.specs.declared.cause.Judged.TheVariants as judgements
use Rattle.sbp_journal.specs.declared.event.Event.{Event}
use Rattle.sbp_journal.specs.declared.event.Event.TheVariants as events
use Rattle.sbp_journal.specs.declared.note.Note.{Note}
use Rattle.sbp_journal.specs.declared.note.Note.TheVariants as notes
use Rattle.sbp_initiator.specs.Receiving.{receive_step}
use Rattle.sbp_laws.specs.SentAnswers.{AnswersLaw, answers_to}
use Rattle.sbp_laws.specs.Served.{host_reply}
use Rattle.sbp_laws.specs.Turns.{is_sent, turn}
use Rattle.sbp_world.specs.Delivering.{delivered}
use Rattle.sbp_world.specs.Histories.{history_of}
use Rattle.sbp_world.specs.Runs.{Run, after, beginning}
use Rattle.sbp_world.specs.Settling.{MayAll, after_all}
use Rattle.sbp_world.specs.Worlds.{WorldState, begun, initiator_at}
use Rattle.sbp_world.specs.Hosts.Reads.{IsSaid}
use Rattle.sbp_world.specs.Hosts.Runs.{IsRun}

-- The packet of a serial is a request that an initiator gets. Where it is a read that is complete, it is of a window whose bytes are said (`IsSaid`).
pub record GetsRequest (past : List Moment) (w : WorldState) (i serial : ℕ) : Type 0 where
  pub sent : Sent
  pub found : found_sent serial w.store.kept ≡ Some sent
  pub to_it : sent.to ≡ suc i
  pub packet : Packet
  pub request : (judging_step (initiator_at w i).layer sent.generation sent.bytes).0 ≡ of_request packet
  pub access : Access
  pub asks_for : access_of packet ≡ Some access
  pub got : (receive_step sent.generation sent.bytes empty_outbox (initiator_at w i)).0 ≡ judgements.Got
  pub is_said : access.is_write ≡ false → (host_reply past i access).rcode ≡ 0 → IsSaid past i access (window_at access.offset)

-- the notes of a turn in the order of time, where the latest are told first
abbrev pub in_order : List Note → List Note → List Note
in_order [] rest = rest
in_order (note ∷ earlier) rest = in_order earlier (note ∷ rest)

-- Behind the history and the note that it was got stand what the initiator told, which is no packet, and the response that is due by the sent law
-- in the turn of this note, whatever the media are. So that turn is as the law of answers says.
pub record IsAnswered (past : List Moment) (serial : ℕ) (now : List Moment) : Type 0 where
  pub effects : List Note
  pub none_sent : AllByRecursion (λ note. is_sent note ≡ false) effects
  pub response : Note
  pub is : now ≡ said response ∷ (map said effects ++ said (notes.Got serial) ∷ past)
  pub due : (disks : List Disk) (rest : List Note) → answers_to disks (turn past (said (notes.Got serial)) rest) ((terms past).sent serial) ≡ response ∷ []
  pub law : (disks : List Disk) → AnswersLaw disks (turn past (said (notes.Got serial)) (in_order (response ∷ effects) []))

-- the lines that deliver packets, behind some of their deliveries
abbrev pub IsDelivering : Event → List (Option Told) → Type 0
IsDelivering (events.Step count) told = Unit {0}
IsDelivering events.Settle told = Unit {0}
IsDelivering (events.Deliver serial) told = told ≡ []
IsDelivering (events.Repeat serial) told = told ≡ []
IsDelivering _ told = ⊥

pub record AnsweringLaw : Type 0 where
  pub answers : (line : ℕ) (run : Run) → IsRun run → (next : ℕ) (event : Event) (told : List (Option Told)) → IsDelivering event told → MayAll told (begun (after (beginning run) run.entries)) → (i : ℕ) → i < run.initiators → (serial : ℕ) (again : Bool) (one : Option Told) → (let s = after_all told (begun (after (beginning run) run.entries)) in GetsRequest (map said s.world.fresh ++ asked next event ∷ history_of line run) s.world i serial → IsAnswered (map said s.world.fresh ++ asked next event ∷ history_of line run) serial (map said (delivered serial again one s).world.fresh ++ asked next event ∷ history_of line run))
