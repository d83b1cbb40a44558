-- Which status blocks of the target an initiator refuses (NCITS 325-1998, status block): in every run, of those that can be read, none but one to a FIFO that is closed, which is that of a login
-- number that is not its latest one, or of a session that is out.
use Rattle.std.specs.Prelude.{◌≡◌, ◌<◌, ℕ, suc, Bool, true, false, List, length, Some, Ok}
use Rattle.async_packet.specs.Packet.{Packet}
use Rattle.async_packet.specs.Reading.{reading}
use Rattle.initiator_base.specs.Fifos.{fifo_at}
use Rattle.initiator_base.specs.declared.fifos.Fifo.TheVariants as fifos
use Rattle.sbp_initiator.specs.Histories.Judging.{is_read}
use Rattle.sbp_initiator.specs.States.{status_in}
use Rattle.sbp_journal.specs.Addresses.{Access, access_of}
use Rattle.sbp_journal.specs.Run.{Moment, said}
use Rattle.sbp_journal.specs.Transactions.{Sending}
use Rattle.sbp_journal.specs.Wire.{terms}
use Rattle.sbp_journal.specs.declared.cause.Cause.{Cause}
use Rattle.sbp_journal.specs.declared.cause.Cause.TheVariants as causes
use Rattle.sbp_journal.specs.declared.note.Note.TheVariants as notes
use Rattle.sbp_laws.specs.Hosts.{Host, host_at}
use Rattle.sbp_laws.specs.Turns.{EachMoment}
use Rattle.sbp_session.specs.Seats.{is_out_seat}
use Rattle.sbp_session.specs.declared.seat.Seat.{Seat}
use Rattle.sbp_world.specs.Hosts.Core.{session_in}
use Rattle.sbp_world.specs.Lists.Closes.{Always}

-- the causes for which a request is answered with an error
abbrev pub is_hard : Cause → Bool
is_hard causes.Grammar = true
is_hard causes.Source = true
is_hard causes.Login = true
is_hard _ = false

-- a FIFO that is closed, by what the host has
pub record IsShut (host : Host) (offset : ℕ) : Type 0 where
  pub seat : Seat
  pub session : session_in seat ≡ host.session
  pub closed : fifo_at host.logins (is_out_seat seat) offset ≡ Some fifos.Closed

-- each request of the target with a payload that is read as a status block, which initiator i refuses
abbrev pub HardSo : ℕ → Moment → List Moment → Type 0
HardSo i (said (notes.Ignored serial cause)) past =
    is_hard cause ≡ true → (packet : Sending) → (terms past).sent serial ≡ Some packet → packet.to ≡ suc i → packet.from ≡ 0 → packet.injected ≡ false → (p : Packet) → reading packet.bytes ≡ Ok p → (access : Access) → access_of p ≡ Some access → is_read (status_in access.payload) ≡ true → IsShut (host_at past i) access.offset
HardSo i moment past = Unit {0}

abbrev pub AllHard : List Moment → ℕ → Type 0
AllHard past i = EachMoment (HardSo i) past

abbrev pub RefusalsLaw : Type 0
RefusalsLaw = Always (λ past w. (i : ℕ) → i < length w.initiators → AllHard past i)
