-- The status law (NCITS 325-1998, status block). The status of an ORB is taken at most once, after the ORB's end, and is the one with which
-- the ORB ended. It is taken in the delivery of a write that the delivery or time-out of that end sent behind it; the write goes to the
-- FIFO of the initiator's login, and its payload spells that status with the address of the ORB's slot. Each status block for a waiting ORB
-- that an initiator gets has that ORB's `taken` in its delivery.
use Rattle.std.specs.Prelude.{◌≡◌, ℕ, zero, suc, ◌-◌, ◌==◌, ◌&&◌, not, Bool, true, false, if◌then◌else◌, List, [], ◌∷◌, Option, Some, None, IsSomeAnd, Result, Ok, Err}
use Rattle.std.specs.List.{filter}
use Rattle.orb_layout.specs.declared.status.StatusKind.{StatusKind}
use Rattle.orb_layout.specs.declared.status.StatusBlock.{StatusBlock}
use Rattle.orb_layout.specs.declared.fault.OrbFault.{OrbFault}
use Rattle.orb_layout.specs.StatusBlocks.{read_block}
use Rattle.bus_memory.specs.declared.window.Window.TheVariants as windows
use Rattle.bus_memory.specs.Windows.{start, is_fifo}
use Rattle.sbp_journal.specs.Run.{Moment, asked, said}
use Rattle.sbp_journal.specs.Addresses.{Access}
use Rattle.sbp_journal.specs.Wire.{terms}
use Rattle.sbp_journal.specs.declared.note.Note.{Note}
use Rattle.sbp_journal.specs.declared.note.Note.TheVariants as notes
use Rattle.sbp_laws.specs.Terms.{takes, ended_status}
use Rattle.sbp_laws.specs.Turns.{Turn, EachMoment, EachTurn}
use Rattle.sbp_laws.specs.Packets.{access_at, access_in_bytes, receiver_in}
use Rattle.sbp_laws.specs.Lists.{Orb, orb, last_got, named, slot_at, waits_in}
use Rattle.sbp_laws.specs.Hosts.{Host, host_at}
use Rattle.sbp_laws.specs.Targets.{login_fifo}
use Rattle.sbp_laws.specs.OnceLaw.{is_write_in}

-- the FIFO of the latest login of an initiator
abbrev pub fifo_of : Host → ℕ
fifo_of host = login_fifo (host.logins - 1)

-- ---- the packet that an end sends
-- the ORB that ended last in this turn, whose status block is still to be sent
pub record EndedOrb : Type 0 where
  pub initiator : ℕ
  pub one : Orb

abbrev pub status_due : List Moment → Option EndedOrb
status_due [] = None
status_due (asked line event ∷ past) = None
status_due (said (notes.Got serial) ∷ past) = None
status_due (said (notes.Ignored serial cause) ∷ past) = None
status_due (said (notes.TimedOut serial) ∷ past) = None
status_due (said (notes.Ended i (Some n) (Some k) status) ∷ past) = Some (record { initiator = i; one = orb n k })
status_due (said note ∷ past) = status_due past

abbrev pub is_due : Option EndedOrb → (i n k to : ℕ) → Bool
is_due None i n k to = false
is_due (Some ended) i n k to = (ended.initiator == i) && (ended.one.list == n) && (ended.one.number == k) && (to == suc i)

-- the serials of the writes to its initiator that the turn of an ORB's end sent behind it, the first one
abbrev pub first_of : Option ℕ → ℕ → Option ℕ
first_of None serial = Some serial
first_of (Some first) serial = Some first

abbrev pub status_packet : List Moment → ℕ → ℕ → ℕ → Option ℕ
status_packet [] i n k = None
status_packet (said (notes.Sent serial generation zero to bytes) ∷ past) i n k =
    if is_due (status_due past) i n k to && is_write_in (access_in_bytes bytes) then first_of (status_packet past i n k) serial else status_packet past i n k
status_packet (_ ∷ past) i n k = status_packet past i n k

-- ---- the status that is taken
-- a write to an address whose bytes spell a status with the address of an ORB
pub record SpellsStatus (access : Access) (fifo address : ℕ) (status : StatusKind) : Type 0 where
  pub is_write : access.is_write ≡ true
  pub goes : access.offset ≡ fifo
  pub src : ℕ
  pub spells : read_block false access.payload ≡ Ok (record { src = src; kind = status; orb = address })

pub record IsTaken (past : List Moment) (i n k : ℕ) (status : StatusKind) : Type 0 where
  pub once : takes past i n k ≡ 0
  pub ended : ended_status past i n k ≡ Some status
  pub sent : status_packet past i n k ≡ Some (last_got past)
  pub written : IsSomeAnd (access_at (terms past) (last_got past)) (λ access. SpellsStatus access (fifo_of (host_at past i)) (start (windows.Orb (slot_at past i n k))) status)

abbrev pub TakenAt : (ℕ → Bool) → Moment → List Moment → Type 0
TakenAt wild (said (notes.Taken i n k status answer)) past = wild i ≡ false → IsTaken past i n k status
TakenAt wild moment past = Unit {0}

-- ---- each status block for a waiting ORB is taken
-- a status that is taken, without its answer
pub record Taking : Type 0 where
  pub initiator : ℕ
  pub one : Orb
  pub status : StatusKind

abbrev pub takings_in : List Note → List Taking
takings_in [] = []
takings_in (notes.Taken i n k status answer ∷ rest) = record { initiator = i; one = orb n k; status = status } ∷ takings_in rest
takings_in (note ∷ rest) = takings_in rest

abbrev pub if_waits : List Moment → ℕ → Option Orb → StatusKind → List Taking
if_waits past i None status = []
if_waits past i (Some one) status = if waits_in past i one.list one.number then record { initiator = i; one = one; status = status } ∷ [] else []

abbrev pub taking_of : List Moment → ℕ → Result StatusBlock OrbFault → List Taking
taking_of past i (Err fault) = []
taking_of past i (Ok block) = if_waits past i (named past i block.orb) block.kind

abbrev pub taking_by : List Moment → ℕ → Option Access → List Taking
taking_by past i None = []
taking_by past i (Some access) =
    if access.is_write && access.is_block && is_fifo access.offset then taking_of past i (read_block false access.payload) else []

abbrev pub taking_at : List Moment → Option ℕ → Option Access → List Taking
taking_at past None access = []
taking_at past (Some zero) access = []
taking_at past (Some (suc i)) access = taking_by past i access

abbrev pub takings_due : Turn → Moment → List Taking
takings_due t (said (notes.Got serial)) = taking_at t.past (receiver_in ((terms t.past).sent serial)) (access_at (terms t.past) serial)
takings_due t moment = []

-- those of the initiators that injected no packets
abbrev pub of_others : (ℕ → Bool) → List Taking → List Taking
of_others wild takings = filter (λ taking. not (wild taking.initiator)) takings

abbrev pub TakesEach : (ℕ → Bool) → Turn → Type 0
TakesEach wild t = of_others wild (takings_in t.rest) ≡ of_others wild (takings_due t t.start)

pub record StatusLaw (wild : ℕ → Bool) (past : List Moment) : Type 0 where
  pub taken : EachMoment (TakenAt wild) past
  pub each : EachTurn (TakesEach wild) past
