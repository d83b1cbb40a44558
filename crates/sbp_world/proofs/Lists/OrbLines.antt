-- As a line begins that delivers a packet, what the packet brings to an agent was brought.
use Rattle.sbp_world.proofs.Words.Std.{◌≡◌, ◌∙◌, refl, sym, ap, subst, ℕ, Bool, true, false, List, [], ◌∷◌, ◌++◌, Option, Some, None, Ok}
use Rattle.sbp_world.proofs.Words.Wire.{Moment, asked, said, Part, Sending, part_of, request, response, Terms, opened, terms, Event}
use Rattle.sbp_world.proofs.Words.Target.{Disk}
use Rattle.sbp_world.proofs.Words.Initiator.{Read, CommandOrb, payload_of}
use Rattle.sbp_world.proofs.Words.Laws.{fifo_in, answer_in, answered_as, answered_at, answered_in, packet_at, receiver_in, Target, agent_at, initiator_at, is_serial, login_at, over, target_at}
use Rattle.sbp_world.proofs.Words.World.{HasAsked, serial_of, WorldState, without_notes, initiator_in, machine_at, IsBrought}
use Rattle.sbp_world.proofs.Agents.Management.Still.{hist}
use Rattle.sbp_journal.specs.Transactions.{no_packet}
use Rattle.sbp_journal.specs.declared.note.Note.TheVariants as notes
use Rattle.sbp_world.proofs.Lists.Calm.{asked_calm}
use Rattle.sbp_world.proofs.Lists.OrbPlaces.{HasReads}
use Rattle.sbp_world.proofs.Lists.OrbReading.{brought_more, reads_more}
use Rattle.sbp_world.proofs.Lists.OrbWaits.{has_same, over_twice}

-- what a packet answers
pub as_same : (t : Terms) (r : Bool) (part : Part) (sending : Sending) → answered_as part (record t { repeats = r }) sending ≡ answered_as part t sending
as_same t r (request label kind) sending = refl
as_same t r (response label kind) sending = refl
as_same t r no_packet sending = refl

pub answered_same : (t : Terms) (r : Bool) (sent : Option Sending) → answered_in (record t { repeats = r }) sent ≡ answered_in t sent
answered_same t r None = refl
answered_same t r (Some sending) = as_same t r (part_of sending.bytes) sending

module _ (start : List Disk) (line : ℕ) (event : Event) (r : Bool) (as_opened : (t : Terms) → opened event t ≡ record t { repeats = r }) where
  module _ (past : List Moment) (serial : ℕ) (place address : ℕ) (orb : CommandOrb) where
    abbrev After : Type 0
    After = IsBrought start (said (notes.Got serial) ∷ asked line event ∷ past) place address orb

    -- by this packet
    abbrev pub here : (b : IsBrought start (said (notes.Got serial) ∷ past) place address orb) → said (notes.Got b.response) ∷ b.earlier ≡ said (notes.Got serial) ∷ past → After
    here b e =
        let t = terms b.earlier in
        let same : opened event (terms b.earlier) ≡ record (terms b.earlier) { repeats = r } = as_opened (terms b.earlier) in
        let twice = over_twice (target_at start b.earlier) in
        record {
          response = b.response;
          request = b.request;
          later = [];
          earlier = asked line event ∷ b.earlier;
          is = ap (λ n. said (notes.Got n) ∷ asked line event ∷ b.earlier) (let x : b.response ≡ serial = cc in x) ∙ ap (λ ms. said (notes.Got serial) ∷ asked line event ∷ ms) (let y : b.earlier ≡ past = cc in y);
          by_target = subst (λ (x : Terms). is_serial (receiver_in (x.sent b.response)) 0 ≡ true) (sym same) b.by_target;
          closed = subst (λ (x : Terms). answered_at x b.response ≡ Some b.request) (sym same) (answered_same (terms b.earlier) r ((terms b.earlier).sent b.response) ∙ b.closed);
          bytes = b.bytes;
          brings = subst (λ (x : Terms). payload_of (answer_in (packet_at x b.response)) 32 ≡ Ok b.bytes) (sym same) b.brings;
          spells = b.spells;
          which = b.which;
          waited = subst (λ (x : Target). serial_of b.which (agent_at x place) ≡ Some b.request) (sym twice) b.waited;
          asked =
              subst (λ (x : Target). HasAsked (opened event (terms b.earlier)) (initiator_at x (opened event (terms b.earlier)) place) (fifo_in (login_at x place)) b.request (Read address 32) false) (sym twice)
              (subst (λ (y : Terms). HasAsked y (initiator_at (over (target_at start b.earlier)) y place) (fifo_in (login_at (over (target_at start b.earlier)) place)) b.request (Read address 32) false) (sym same)
              (has_same (terms b.earlier) r (initiator_at (over (target_at start b.earlier)) (terms b.earlier) place) (fifo_in (login_at (over (target_at start b.earlier)) place)) b.request (Read address 32) false b.asked));
        }

    -- or by an earlier one
    abbrev pub there : (b : IsBrought start (said (notes.Got serial) ∷ past) place address orb) (later : List Moment) → later ++ said (notes.Got b.response) ∷ b.earlier ≡ past → After
    there b later e = record {
      response = b.response;
      request = b.request;
      later = said (notes.Got serial) ∷ asked line event ∷ later;
      earlier = b.earlier;
      is = ap (λ ms. said (notes.Got serial) ∷ asked line event ∷ ms) e;
      by_target = b.by_target;
      closed = b.closed;
      bytes = b.bytes;
      brings = b.brings;
      spells = b.spells;
      which = b.which;
      waited = b.waited;
      asked = b.asked;
    }

    by_later : (b : IsBrought start (said (notes.Got serial) ∷ past) place address orb) (later : List Moment) → later ++ said (notes.Got b.response) ∷ b.earlier ≡ said (notes.Got serial) ∷ past → After
    by_later b [] e = here b e
    by_later b (m ∷ later) e = there b later (let x : m ∷ (later ++ said (notes.Got b.response) ∷ b.earlier) ≡ said (notes.Got serial) ∷ past = e in cc)

    line_brought : IsBrought start (said (notes.Got serial) ∷ past) place address orb → After
    line_brought b = by_later b b.later b.is

  -- at the place where it begins
  pub line_reads : (past : List Moment) (w : WorldState) → HasReads start past w → HasReads start (asked line event ∷ hist past w) (without_notes w)
  line_reads past w h = record {
    agents = λ place b open_there.
        reads_more (IsBrought start (hist past w) place) (IsBrought start (asked line event ∷ hist past w) place) (brought_more start (asked line event) (hist past w) place) (machine_at w place) (h.agents place b open_there);
    brings = λ serial sent found zero_to packet label place which e is_which b calm.
        let x = h.brings serial sent found zero_to packet label place which e is_which b (asked_calm line event (hist past w) (initiator_in w place) calm) in
        record {
          main = λ q p bytes f. line_brought (hist past w) serial place _ _ (x.main q p bytes f);
          ahead = λ q a offset n bytes f. line_brought (hist past w) serial place _ _ (x.ahead q a offset n bytes f);
        };
  }
