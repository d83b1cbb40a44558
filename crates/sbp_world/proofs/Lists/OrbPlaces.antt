-- At a place of a run the agent of the target has an ORB that a response brought; and so has it what a packet brings to it that it gets.
use Rattle.sbp_world.proofs.Words.Std.{◌≡◌, ◌∙◌, sym, ap, subst, ◌<◌, ◌==◌, ℕ, suc, Bool, true, false, List, ◌∷◌, Some, same_Some}
use Rattle.sbp_world.proofs.Words.Wire.{LabelParts, Packet, header_in, judging_step, of_response, Sent, found_sent, Moment, said, Terms, terms}
use Rattle.sbp_world.proofs.Words.Target.{Which, Machine, Disk, which_in, desk_at, answer_in}
use Rattle.sbp_world.proofs.Words.Initiator.{CommandOrb, command_orb, Answer, payload_of}
use Rattle.sbp_world.proofs.Words.Laws.{answered_at, receiver_in, Target, agent_at, is_serial, over, target_at, EachMoment}
use Rattle.sbp_world.proofs.Words.World.{WorldState, Alike, has_list, serial_of, IsCalm, initiator_in, is_open_at, machine_at, AskedAsGot, IsBrought}
use Rattle.sbp_journal.specs.declared.note.Note.TheVariants as notes
use Rattle.sbp_laws.specs.Packets as laws
use Rattle.sbp_target.specs.declared.purpose.Purpose.TheVariants as purposes
use Rattle.sbp_world.proofs.Agents.Management.Holding.{Holding, was_sent}
use Rattle.sbp_world.proofs.Agents.Management.Still.{hist}
use Rattle.sbp_world.proofs.Lists.Heard.{closed, request_to, tells, waiting, waits_so}
use Rattle.sbp_world.proofs.Lists.OrbFolds.{Brings, over_reads}
use Rattle.sbp_world.proofs.Lists.OrbReading.{brings, reading}
use Rattle.sbp_world.proofs.Lists.OrbSteps.{ReadAheadOf, Reads, has_read, holds_read}
use Rattle.sbp_world.proofs.Lists.Sites.{Site, Waiting, waiting as agent_waiting}

-- ---- agents that are alike
module _ (R : ℕ → CommandOrb → Type 0) (u : Bool) (a m : Machine) (alike : Alike u a m) (open_there : has_list m.phase ≡ true) where
  pub alike_reads : Reads R a → Reads R m
  alike_reads h = record {
    main = λ e. subst (λ n. R n m.orb) (alike.present open_there) (subst (R a.present) (alike.orb open_there) (h.main (ap holds_read alike.phase ∙ e)));
    ahead = subst (λ x. ReadAheadOf R m.orb.next x) (alike.ahead open_there) (subst (λ (o : CommandOrb). ReadAheadOf R o.next a.ahead) (alike.orb open_there) h.ahead);
    idle = λ e. sym (alike.ahead open_there) ∙ h.idle (ap has_read alike.phase ∙ e);
  }

module _ (R : ℕ → ℕ → CommandOrb → Type 0) (u : Bool) (a m : Machine) (alike : Alike u a m) (open_there : has_list m.phase ≡ true) (place : ℕ) (which : Which) (told heard : Answer) (same : told ≡ heard) where
  pub alike_brings : Brings R a (record { place = place; which = which; answer = told }) → Brings R m (record { place = place; which = which; answer = heard })
  alike_brings b = record {
    main = λ w p bytes e. subst (λ n. R place n (command_orb bytes)) (alike.present open_there) (b.main w (alike.phase ∙ p) bytes (ap (λ x. payload_of x 32) same ∙ e));
    ahead = λ w f offset n bytes e. b.ahead w (alike.flag ∙ f) offset (ap (λ (o : CommandOrb). o.next) (alike.orb open_there) ∙ n) bytes (ap (λ x. payload_of x 32) same ∙ e);
  }

-- ---- what is known at a place
pub record HasReads (start : List Disk) (past : List Moment) (w : WorldState) : Type 0 where
  pub agents : (place : ℕ) → place < 8 → is_open_at w place ≡ true → Reads (IsBrought start (hist past w) place) (machine_at w place)
  pub brings : (serial : ℕ) (sent : Sent) → found_sent serial w.store.kept ≡ Some sent → sent.to ≡ 0 → (packet : Packet) (label : LabelParts) (place : ℕ) (which : Which) → (judging_step w.target.layer sent.generation sent.bytes).0 ≡ of_response packet label (Some (purposes.Agent place)) → which_in (desk_at w.target place) (header_in packet).source label ≡ Some which → place < 8 → IsCalm (hist past w) (initiator_in w place) → Brings (IsBrought start (said (notes.Got serial) ∷ hist past w)) (machine_at w place) (record { place = place; which = which; answer = answer_in packet })

module _ (units ready : ℕ) (has : 0 < units) (start : List Disk) {past : List Moment} {lines : ℕ} (w : WorldState) (h : Holding units ready start past lines w) (s : Site start past w) where
  abbrev ms : List Moment
  ms = hist past w

  abbrev t : Terms
  t = terms ms

  abbrev T : Target
  T = over (target_at start ms)

  module _ (serial : ℕ) (sent : Sent) (found : found_sent serial w.store.kept ≡ Some sent) (zero_to : sent.to ≡ 0) (packet : Packet) (label : LabelParts) (place : ℕ) (which : Which) (e : (judging_step w.target.layer sent.generation sent.bytes).0 ≡ of_response packet label (Some (purposes.Agent place))) (is_which : which_in (desk_at w.target place) (header_in packet).source label ≡ Some which) (b : place < 8) (calm : IsCalm ms (initiator_in w place)) where
    abbrev pub request : ℕ
    request = (waiting units ready has start w h s.agents.requests s.agents.are s.agents.known s.asked serial sent found zero_to packet label place e).serial

    pub waits : serial_of which (agent_at T place) ≡ Some request
    waits = waits_so units ready has start w h s.agents.requests s.agents.are s.agents.known s.asked serial sent found zero_to packet label place e which is_which

    pub asked : Waiting units ready has start w h s place b which request
    asked = agent_waiting units ready has start w h s place b which request waits

    pub calm_from : t.injects sent.from ≡ false
    calm_from =
        let from_is : sent.from ≡ suc (initiator_in w place) = same_Some sent.from (suc (initiator_in w place)) (sym (request_to units ready has start w h s.agents.requests s.agents.are s.agents.known s.asked serial sent found zero_to packet label place e) ∙ asked.to) in
        ap t.injects from_is ∙ calm

    pub closes : answered_at t serial ≡ Some request
    closes = closed units ready has start w h s.agents.requests s.agents.are s.agents.known s.asked serial sent found zero_to packet label place e calm_from

    pub by_target : is_serial (receiver_in (t.sent serial)) 0 ≡ true
    by_target = ap (λ x. is_serial (receiver_in x) 0) (was_sent w h.sound.stands serial sent found) ∙ ap (λ n. n == 0) zero_to

    brings_there : Brings (IsBrought start (said (notes.Got serial) ∷ ms)) (machine_at w place) (record { place = place; which = which; answer = answer_in packet })
    brings_there =
        alike_brings (IsBrought start (said (notes.Got serial) ∷ ms)) (agent_at T place).untold (agent_at T place).machine (machine_at w place) (s.agents.are.each place b).machine asked.is_open place which (laws.answer_in (laws.packet_at t serial)) (answer_in packet)
        (tells units ready has start w h s.agents.requests s.agents.are s.agents.known s.asked serial sent found zero_to packet label place e calm_from)
        (brings start ms serial s.asked by_target request closes place which b waits)

  pub has_reads : EachMoment (AskedAsGot start) ms → HasReads start past w
  has_reads each = record {
    agents = λ place b open_there.
        alike_reads (IsBrought start ms place) (agent_at T place).untold (agent_at T place).machine (machine_at w place) (s.agents.are.each place b).machine open_there
        ((over_reads (IsBrought start ms) (target_at start ms) (reading start ms each)).agents place);
    brings = λ serial sent found zero_to packet label place which e is_which b calm. brings_there serial sent found zero_to packet label place which e is_which b calm;
  }
