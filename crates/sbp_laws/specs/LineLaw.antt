-- The lines of the bus, the part of the action law that is not of actions: `begin` brings its note; `deliver` and `repeat` one delivery of
-- their packet, exactly where it is in flight, or may be repeated, and else refusal 11; `lose` its note exactly where the packet is in flight;
-- `timeout` its note and effects exactly where the transaction is under way, and else refusal 11; `step` and `settle` deliveries of the lowest serial in
-- flight, up to a number, that of `settle` its budget, or until none is in flight, and `settle` then `settled` or `stopped`; `reset` and `see` the latest generation, and
-- where it is new its effects; `tick` the logins that expire; `inject` the injected packet, or refusal 12; `key` its note, or refusal 13.
use Rattle.std.specs.Prelude.{◌≡◌, ℕ, zero, suc, ◌+◌, ◌-◌, ◌/◌, ◌^◌, ◌==◌, ◌&&◌, ◌||◌, not, nat_lt, nat_le, Bool, true, false, if◌then◌else◌, List, [], ◌∷◌, length, reverse}
use Rattle.sbp_base.specs.Quadlets.{quad}
use Rattle.rbc_disk.specs.Disk.{Disk}
use Rattle.sbp_journal.specs.Run.{Entry, Moment, asked, history}
use Rattle.sbp_journal.specs.Wire.{Terms, terms, Flight, in_flight, delivered}
use Rattle.sbp_journal.specs.declared.event.Event.{Event}
use Rattle.sbp_journal.specs.declared.event.Event.TheVariants as events
use Rattle.sbp_journal.specs.declared.note.Note.{Note}
use Rattle.sbp_journal.specs.declared.note.Note.TheVariants as notes
use Rattle.sbp_laws.specs.Packets.{is_under_way, id_of, id_for}
use Rattle.sbp_laws.specs.Budget.{flies, initiators}
use Rattle.sbp_laws.specs.Deliveries.{IsDelivery, IsTurnOf, AreDeliveries, Settles}

-- one of two conditions, by a test
abbrev pub Either : Bool → Type 0 → Type 0 → Type 0
Either true holds fails = holds
Either false holds fails = fails

abbrev pub refused : (line number : ℕ) → List Note
refused line number = notes.Refused line number ∷ []

-- what may be done with a packet: a repeat reaches back over the last 1,024 serials
abbrev pub is_known : Flight → Bool
is_known in_flight = true
is_known delivered = true
is_known state = false

abbrev pub may_repeat : Terms → ℕ → Bool
may_repeat wire serial = is_known (wire.flight serial) && nat_lt (wire.count - 1024) serial

-- an injected packet: it names another node of the sender's generation, and its sender as source
abbrev pub names_node : Terms → (i nodes id : ℕ) → Bool
names_node wire i zero id = false
names_node wire i (suc node) id = (id_for wire (suc i) node == id && not (node == suc i)) || names_node wire i node id

-- the high half of a quadlet
abbrev pub high_half : ℕ → ℕ
high_half quadlet = quadlet / 2 ^ 16

abbrev pub may_inject : Terms → (i nodes : ℕ) → List ℕ → Bool
may_inject wire i nodes bytes =
    nat_le 8 (length bytes) && names_node wire i nodes (high_half (quad bytes 0)) && (high_half (quad bytes 4) == id_of wire (suc i))

-- the node that an ID names, the lowest
abbrev pub node_from : Terms → (i nodes node id : ℕ) → ℕ
node_from wire i zero node id = node
node_from wire i (suc nodes) node id = if id_for wire (suc i) node == id then node else node_from wire i nodes (node + 1) id

abbrev pub injected : Terms → (i nodes : ℕ) → List ℕ → List Note
injected wire i nodes bytes =
    notes.Injected (wire.count + 1)
    ∷ notes.Sent (wire.count + 1) (wire.generation (suc i)) (suc i) (node_from wire i nodes 0 (high_half (quad bytes 0))) bytes ∷ []

-- The notes of the line with this number, in the order of time, behind what stood before it. Of an action nothing is said here.
abbrev pub BringsLine : List Disk → List Moment → ℕ → Event → List Note → Type 0
BringsLine disks past line (events.Begin count ready) told = told ≡ notes.Begin count ready ∷ []
BringsLine disks past line (events.Act i action) told = Unit {0}
BringsLine disks past line (events.Deliver serial) told = Either (flies ((terms past).flight serial)) (IsDelivery serial told) (told ≡ refused line 11)
BringsLine disks past line (events.Repeat serial) told = Either (may_repeat (terms past) serial) (IsDelivery serial told) (told ≡ refused line 11)
BringsLine disks past line (events.Lose serial) told = told ≡ (if flies ((terms past).flight serial) then notes.Lost serial ∷ [] else refused line 11)
BringsLine disks past line (events.Timeout serial) told = Either (is_under_way (terms past) serial) (IsTurnOf (notes.TimedOut serial) told) (told ≡ refused line 11)
BringsLine disks past line (events.Step count) told = AreDeliveries (asked line (events.Step count) ∷ past) count told
BringsLine disks past line events.Settle told = Settles (asked line events.Settle ∷ past) told
BringsLine disks past line (events.Reset physical) told = told ≡ notes.Reset ((terms past).bus + 1) ∷ []
BringsLine disks past line (events.See node) told = IsTurnOf (notes.Seen node (terms past).bus) told
BringsLine disks past line events.Tick told = IsTurnOf notes.Tick told
BringsLine disks past line (events.Inject i bytes) told =
    told ≡ (if may_inject (terms past) i (suc (initiators past)) bytes then injected (terms past) i (suc (initiators past)) bytes else refused line 12)
BringsLine disks past line (events.Key unit key) told = told ≡ (if nat_lt unit (length disks) then notes.Key unit ∷ [] else refused line 13)

abbrev pub LineLaw : List Disk → List Entry → Type 0
LineLaw disks [] = Unit {0}
LineLaw disks (entry ∷ before) = BringsLine disks (history before) entry.line entry.event (reverse entry.notes) × LineLaw disks before
