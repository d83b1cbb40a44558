-- The deliveries of a settle. It has 4 for each packet in flight, 16 and twice the elements and chunks of its buffer for each ORB of a list
-- that is not cut that has no status taken, and 600 for each initiator; and 10,000,000 at most. A run is lossless where every node has seen
-- the latest reset, no packet was lost since, no transaction timed out, nothing was injected, and no packet of the latest generation was
-- ignored for its generation.
use Rattle.std.specs.Prelude.{◌≡◌, ℕ, zero, suc, ◌+◌, ◌*◌, ◌==◌, ◌<◌, ◌&&◌, not, min, Bool, true, false, if◌then◌else◌, List, [], ◌∷◌, length, Option, Some, None}
use Rattle.sbp_journal.specs.Run.{Moment, said}
use Rattle.sbp_journal.specs.Transactions.{Sending}
use Rattle.sbp_journal.specs.Wire.{Terms, terms, Flight, in_flight}
use Rattle.sbp_journal.specs.declared.cause.Cause.TheVariants as causes
use Rattle.sbp_journal.specs.declared.event.Cmd.{Cmd}
use Rattle.sbp_journal.specs.declared.note.Note.TheVariants as notes
use Rattle.sbp_laws.specs.Lists.{command_at, taken_at, is_none_taken}
use Rattle.sbp_laws.specs.CarriedBytes.{pieces_of}
use Rattle.sbp_laws.specs.OrderLaw.{is_cut}

abbrev pub flies : Flight → Bool
flies in_flight = true
flies _ = false

-- how many of the packets up to a serial are in flight, and the lowest from one on, among so many
unfoldable pub count_flying : (ℕ → Flight) → ℕ → ℕ
count_flying flight zero = 0
count_flying flight (suc serial) = (if flies (flight (suc serial)) then 1 else 0) + count_flying flight serial

unfoldable pub lowest_flying : (ℕ → Flight) → (serials serial : ℕ) → Option ℕ
lowest_flying flight zero serial = None
lowest_flying flight (suc serials) serial = if flies (flight serial) then Some serial else lowest_flying flight serials (serial + 1)

abbrev pub lowest_in_flight : Terms → Option ℕ
lowest_in_flight wire = lowest_flying wire.flight wire.count 1

-- how many initiators there are
abbrev pub initiators : List Moment → ℕ
initiators [] = 0
initiators (said (notes.Begin count ready) ∷ past) = count
initiators (_ ∷ past) = initiators past

-- ---- the budget
abbrev pub share_of : Option Cmd → ℕ
share_of None = 16
share_of (Some cmd) = 16 + 2 * (length cmd.segments + length (pieces_of 0 cmd))

-- the shares of the ORBs that were appended up to a moment, by what is known at the end
abbrev pub shares : (all past : List Moment) → ℕ
shares all [] = 0
shares all (said (notes.Append i n k cdb buffer) ∷ past) =
    (if not (is_cut all i n) && is_none_taken (taken_at all i n k) then share_of (command_at all i n k) else 0) + shares all past
shares all (_ ∷ past) = shares all past

abbrev pub budget : List Moment → ℕ
budget past = 4 * count_flying (terms past).flight (terms past).count + shares past past + 600 * initiators past

abbrev pub most_deliveries : ℕ
most_deliveries = 10000000

abbrev pub settle_deliveries : List Moment → ℕ
settle_deliveries past = min (budget past) most_deliveries

-- ---- lossless
-- what stands since the latest reset, and whether there was one
abbrev pub since_reset : List Moment → List Moment
since_reset [] = []
since_reset (said (notes.Reset generation) ∷ past) = []
since_reset (said (notes.Begin initiators ready) ∷ past) = []
since_reset (moment ∷ past) = moment ∷ since_reset past

abbrev pub is_of_generation : Option Sending → ℕ → Bool
is_of_generation None generation = false
is_of_generation (Some sending) generation = sending.generation == generation

-- no loss among these moments, in a generation
abbrev pub HaveNoLoss : Terms → List Moment → Type 0
HaveNoLoss wire [] = Unit {0}
HaveNoLoss wire (said (notes.Lost serial) ∷ past) = ⊥
HaveNoLoss wire (said (notes.TimedOut serial) ∷ past) = ⊥
HaveNoLoss wire (said (notes.Injected serial) ∷ past) = ⊥
HaveNoLoss wire (said (notes.Ignored serial causes.Generation) ∷ past) = (is_of_generation (wire.sent serial) wire.bus ≡ false) × HaveNoLoss wire past
HaveNoLoss wire (_ ∷ past) = HaveNoLoss wire past

pub record Lossless (past : List Moment) : Type 0 where
  pub seen : (node : ℕ) → node < suc (initiators past) → (terms past).generation node ≡ (terms past).bus
  pub none : HaveNoLoss (terms past) (since_reset past)
