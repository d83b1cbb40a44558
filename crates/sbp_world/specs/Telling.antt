-- The notes of what nodes tell. An ORB that the target names by its address has the name of the latest ORB that the initiator prepared in
-- the slot of that address.
use Rattle.std.specs.Prelude.{ℕ, nat_lt, if◌then◌else◌, List, [], ◌∷◌, length, Option, None}
use Rattle.orb_list.specs.Tickets.{TicketParts}
use Rattle.sbp_bus.specs.declared.places.Holder.{Holder}
use Rattle.sbp_bus.specs.Places.{holder_at, left_step, opened_step}
use Rattle.sbp_bus.specs.Telling.{counted, cut_loads, cut_note, dead_note, decided_places, ended_note, list_in, managed_note, ran_note}
use Rattle.sbp_bus.specs.Telling as bus
use Rattle.sbp_bus.specs.Words.{function_word}
use Rattle.orb_list.specs.Lists.{last_at}
use Rattle.sbp_journal.specs.declared.note.Note.{Note}
use Rattle.sbp_journal.specs.declared.note.Note.TheVariants as notes
use Rattle.sbp_journal.specs.declared.side.Side.{Side}
use Rattle.sbp_journal.specs.declared.side.Side.TheVariants as sides
use Rattle.sbp_world.specs.Worlds.{WorldState, initiator_at, with_note}

-- the latest ORB that an initiator prepared in the slot at an address
abbrev pub ticket_of : WorldState → ℕ → ℕ → Option TicketParts
ticket_of w initiator orb =
    if nat_lt initiator (length w.initiators) then last_at (initiator_at w initiator).lists orb else None

-- the initiator of a node ID, as the target knows it
abbrev pub initiator_of : WorldState → ℕ → ℕ
initiator_of w node = bus.initiator_of w.generations node

-- who has a place
abbrev pub holder : WorldState → ℕ → Holder
holder w place = holder_at w.places place

-- the latest ORB that who has a place prepared in the slot at an address
abbrev pub ticket_at : WorldState → ℕ → ℕ → Option TicketParts
ticket_at w place orb = ticket_of w (holder w place).initiator orb

-- the one that a node names in what it tells
abbrev pub ticket_in : Side → WorldState → Option TicketParts
ticket_in (sides.Opened place orb) w = ticket_at w place orb
ticket_in (sides.Ran place orb cdb payload outcome) w = ticket_at w place orb
ticket_in (sides.Ended place orb status) w = ticket_at w place orb
ticket_in _ w = None

-- A login left its place.
abbrev pub told_left : ℕ → Note → WorldState → WorldState
told_left login note w = with_note note (record w { places = left_step login w.places })

-- What a node tells, as its note.
unfoldable pub told : ℕ → Side → WorldState → WorldState
told weight (sides.Own note) w = with_note note (record w { loads = counted weight note w.loads })
told weight (sides.Opened place orb) w =
    record w { places = opened_step place (list_in (ticket_at w place orb)) w.places }
told weight (sides.Ran place orb cdb payload outcome) w =
    with_note (ran_note (holder w place) (ticket_at w place orb) cdb payload outcome) w
told weight (sides.Ended place orb status) w =
    with_note (ended_note (holder w place) (ticket_at w place orb) status) w
told weight (sides.Dead place cause) w = with_note (dead_note (holder w place) cause) w
told weight (sides.Cut place cause) w =
    with_note (cut_note (holder w place) cause)
    (record w { loads = cut_loads (holder w place).list (holder w place).initiator w.loads })
told weight (sides.Managed node function subject status login) w =
    with_note (managed_note (initiator_of w node) function subject status login)
    (record w { places = decided_places status (function_word function) subject login (initiator_of w node) w.places })
told weight (sides.ManageFailed node cause) w = with_note (notes.ManageFailed (initiator_of w node) cause) w
told weight (sides.Held login) w = with_note (notes.Held login) w
told weight (sides.Expired login) w = told_left login (notes.Expired login) w
told weight (sides.Back login) w = with_note (notes.Back login) w
told weight (sides.Left login) w = told_left login (notes.Left login) w
told weight (sides.Cleared unit) w = with_note (notes.Cleared unit) w
told weight (sides.Unsolicited place) w = with_note (notes.Unsolicited (holder w place).initiator) w
told weight (sides.Unsent place) w = with_note (notes.Unsent (holder w place).initiator) w

-- All that a node tells, in its order.
unfoldable pub told_all : ℕ → List Side → WorldState → WorldState
told_all weight [] w = w
told_all weight (side ∷ later) w = told_all weight later (told weight side w)
