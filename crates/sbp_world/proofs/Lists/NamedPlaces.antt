-- At a place of a run the agent of the target has the ORB that was prepared last in its slot, of an initiator that injected no packets; and so has it what a packet brings to it that it gets.
use Rattle.sbp_world.proofs.Common.{same_node}
use Rattle.sbp_world.proofs.Words.Std.{◌≡◌, ◌∙◌, refl, sym, ap, subst, ◌<◌, ◌++◌, ℕ, suc, Bool, true, List, [], ◌∷◌, length, Some}
use Rattle.sbp_world.proofs.Words.Wire.{LabelParts, Packet, header_in, judging_step, of_response, Sent, found_sent, Moment, asked, said, Terms, opened, terms, Event}
use Rattle.sbp_world.proofs.Words.Target.{Which, Disk, which_in, desk_at, answer_in}
use Rattle.sbp_world.proofs.Words.Initiator.{CommandOrb}
use Rattle.sbp_world.proofs.Words.Laws.{named_orb, prepared_in, receiver_in, agent_at, over, target_at, EachMoment}
use Rattle.sbp_world.proofs.Words.World.{WorldState, initiator_at, without_notes, serial_of, AreRows, IsCalm, initiator_in, is_open_at, machine_at, AreLed, IsJustBrought, IsLedTo, IsStillBrought, AskedAsGot}
use Rattle.sbp_journal.specs.declared.note.Note.TheVariants as notes
use Rattle.sbp_laws.specs.Packets as laws
use Rattle.sbp_target.specs.declared.purpose.Purpose.TheVariants as purposes
use Rattle.sbp_world.proofs.Agents.Management.Holding.{Holding}
use Rattle.sbp_world.proofs.Agents.Management.Still.{hist}
use Rattle.sbp_world.proofs.Hosts.StepLaws.{step_law}
use Rattle.sbp_world.proofs.Lists.Calm.{asked_calm}
use Rattle.sbp_world.proofs.Lists.FedStillPlaces.{HasFed, has_fed}
use Rattle.sbp_world.proofs.Lists.FedStillReads.{AreFedStill}
use Rattle.sbp_world.proofs.Lists.Heard.{tells}
use Rattle.sbp_world.proofs.Lists.LedRuns.{just}
use Rattle.sbp_world.proofs.Lists.ManageSends.{opened_terms}
use Rattle.sbp_world.proofs.Lists.OrbFolds.{Brings}
use Rattle.sbp_world.proofs.Lists.OrbLines.{here, there}
use Rattle.sbp_world.proofs.Lists.OrbPlaces.{alike_brings, asked as waits_asked, by_target, calm_from, closes, request, waits}
use Rattle.sbp_world.proofs.Lists.OrbReading.{reads_more}
use Rattle.sbp_world.proofs.Lists.OrbSteps.{Reads}
use Rattle.sbp_world.proofs.Lists.Sites.{Site, waiting}
use Rattle.sbp_world.proofs.Lists.StillReads.{AreStill, IsHad, named_over}

pub record HasNames (start : List Disk) (past : List Moment) (w : WorldState) : Type 0 where
  pub agents : (place : ℕ) → place < 8 → is_open_at w place ≡ true → IsCalm (hist past w) (initiator_in w place) → Reads (λ address orb. IsStillBrought start (hist past w) w place address orb) (machine_at w place)
  pub brings : (serial : ℕ) (sent : Sent) → found_sent serial w.store.kept ≡ Some sent → sent.to ≡ 0 → (packet : Packet) (label : LabelParts) (place : ℕ) (which : Which) → (judging_step w.target.layer sent.generation sent.bytes).0 ≡ of_response packet label (Some (purposes.Agent place)) → which_in (desk_at w.target place) (header_in packet).source label ≡ Some which → place < 8 → IsCalm (hist past w) (initiator_in w place) → Brings (λ p address orb. IsHad start (said (notes.Got serial) ∷ hist past w) (hist past w) w p address orb) (machine_at w place) (record { place = place; which = which; answer = answer_in packet })
  pub rows : (i : ℕ) → i < length w.initiators → AreRows (hist past w) i (initiator_at w i).lists.slots
  pub fed : HasFed start (hist past w) w

module _ (units ready : ℕ) (has : 0 < units) (start : List Disk) {past : List Moment} {lines : ℕ} (w : WorldState) (h : Holding units ready start past lines w) (s : Site start past w) (led : AreLed start (hist past w)) (still : AreStill start (hist past w) w) (each : EachMoment (AskedAsGot start) (hist past w)) (fed : AreFedStill start (hist past w) w) where
  abbrev ms : List Moment
  ms = hist past w

  abbrev R : ℕ → ℕ → ℕ → CommandOrb → Type 0
  R serial p address orb = IsHad start (said (notes.Got serial) ∷ ms) ms w p address orb

  just_had : (serial p : ℕ) → p < 8 → IsCalm ms (initiator_in w p) → (address : ℕ) (orb : CommandOrb) → IsJustBrought start ms serial p address orb → IsHad start (said (notes.Got serial) ∷ ms) ms w p address orb
  just_had serial p b calm address orb x =
      let y = x.from in
      let e = x.now in
      let asked = waiting units ready has start w h s p b y.brought.which y.brought.request (subst (λ ps. serial_of y.brought.which (agent_at (over (target_at start ps)) p) ≡ Some y.brought.request) e y.brought.waited) in
      let to : receiver_in ((terms ms).sent y.brought.request) ≡ Some (suc y.i) = subst (λ ps. receiver_in ((terms ps).sent y.brought.request) ≡ Some (suc y.i)) e y.to in
      let own : y.i ≡ initiator_in w p = same_node y.i (initiator_in w p) (sym to ∙ asked.to) in
      let led = y.led (subst (λ ps. IsCalm ps y.i) (sym e) (subst (IsCalm ms) (sym own) calm)) in
      record {
        named = record { brought = y.brought; i = y.i; to = y.to; led = led };
        initiator = own;
        there = subst (λ ps. prepared_in ps y.i led.slot ≡ Some (named_orb led.n led.k)) e led.there;
      }

  pub has_names : HasNames start past w
  has_names = record {
    agents = still;
    brings = λ serial sent found zero_to packet label place which e is_which b calm.
        let a = agent_at (over (target_at start ms)) place in
        let own = request units ready has start w h s serial sent found zero_to packet label place which e is_which b calm in
        let closed = closes units ready has start w h s serial sent found zero_to packet label place which e is_which b calm in
        let to = by_target units ready has start w h s serial sent found zero_to packet label place which e is_which b calm in
        let waited = waits units ready has start w h s serial sent found zero_to packet label place which e is_which b calm in
        let from = calm_from units ready has start w h s serial sent found zero_to packet label place which e is_which b calm in
        let brought = just start ms serial s.asked led to own closed place which b waited in
        alike_brings (R serial) a.untold a.machine (machine_at w place) (s.agents.are.each place b).machine (waits_asked units ready has start w h s serial sent found zero_to packet label place which e is_which b calm).is_open place which (laws.answer_in (laws.packet_at (terms ms) serial)) (answer_in packet)
        (tells units ready has start w h s.agents.requests s.agents.are s.agents.known s.asked serial sent found zero_to packet label place e from)
        (record { main = λ q p bytes f. just_had serial place b calm _ _ (brought.main q p bytes f); ahead = λ q f offset n bytes g. just_had serial place b calm _ _ (brought.ahead q f offset n bytes g) });
    rows = s.rows;
    fed = has_fed units ready has start w h s each led fed;
  }

-- ---- as a line begins
module _ (start : List Disk) (line : ℕ) (event : Event) (r : Bool) (as_opened : (t : Terms) → opened event t ≡ record t { repeats = r }) where
  module _ (past : List Moment) (w : WorldState) (serial : ℕ) (place address : ℕ) (orb : CommandOrb) where
    led_on : (ms : List Moment) (i : ℕ) → IsLedTo ms i address → IsLedTo (asked line event ∷ ms) i address
    led_on ms i l = record { n = l.n; k = l.k; slot = l.slot; small = l.small; stands = l.stands; there = l.there; latest = l.latest; at = l.at; after = l.after; before = l.before }

    abbrev After : Type 0
    After = IsHad start (said (notes.Got serial) ∷ asked line event ∷ past) (asked line event ∷ past) (without_notes w) place address orb

    by_later : (x : IsHad start (said (notes.Got serial) ∷ past) past w place address orb) (later : List Moment) → later ++ said (notes.Got x.named.brought.response) ∷ x.named.brought.earlier ≡ said (notes.Got serial) ∷ past → After
    unfolding led_on
    by_later x [] e =
        let y = x.named in
        record {
          named = record {
            brought = here start line event r as_opened past serial place address orb y.brought e;
            i = y.i;
            to = ap (λ f. receiver_in (f y.brought.request)) (opened_terms event (terms y.brought.earlier)).sent ∙ y.to;
            led = led_on y.brought.earlier y.i y.led;
          };
          initiator = x.initiator;
          there = x.there;
        }
    by_later x (m ∷ later) e =
        let y = x.named in
        record {
          named = record {
            brought = there start line event r as_opened past serial place address orb y.brought later (let z : m ∷ (later ++ said (notes.Got y.brought.response) ∷ y.brought.earlier) ≡ said (notes.Got serial) ∷ past = e in cc);
            i = y.i;
            to = y.to;
            led = y.led;
          };
          initiator = x.initiator;
          there = x.there;
        }

    had_line : IsHad start (said (notes.Got serial) ∷ past) past w place address orb → After
    had_line x = by_later x x.named.brought.later x.named.brought.is

  still_line : (past : List Moment) (w : WorldState) (place address : ℕ) (orb : CommandOrb) → IsStillBrought start past w place address orb → IsStillBrought start (asked line event ∷ past) (without_notes w) place address orb
  still_line past w place address orb x =
      record { named = named_over start past (asked line event ∷ past) (asked line event ∷ []) refl place address orb x.named; initiator = x.initiator; there = x.there }

  pub line_names : (past : List Moment) (w : WorldState) → HasNames start past w → HasFed start (asked line event ∷ hist past w) (without_notes w) → HasNames start (asked line event ∷ hist past w) (without_notes w)
  line_names past w h fed = record {
    agents = λ place b open_there calm.
        reads_more (λ address orb. IsStillBrought start (hist past w) w place address orb) (λ address orb. IsStillBrought start (asked line event ∷ hist past w) (without_notes w) place address orb) (still_line (hist past w) w place) (machine_at w place) (h.agents place b open_there (asked_calm line event (hist past w) (initiator_in w place) calm));
    brings = λ serial sent found zero_to packet label place which e is_which b calm.
        let x = h.brings serial sent found zero_to packet label place which e is_which b (asked_calm line event (hist past w) (initiator_in w place) calm) in
        record {
          main = λ q p bytes f. had_line (hist past w) w serial place _ _ (x.main q p bytes f);
          ahead = λ q a offset n bytes f. had_line (hist past w) w serial place _ _ (x.ahead q a offset n bytes f);
        };
    rows = λ i b. step_law.asked line event (hist past w) i (initiator_at w i).lists.slots (h.rows i b);
    fed = record { hears = fed.hears };
  }
