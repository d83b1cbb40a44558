-- At a place of a run, what a packet brings that the target gets is for the agent of the place as it is for that of the terms: the buffer and the data of its ORB.
use Rattle.sbp_world.proofs.Words.Std.{◌≡◌, ◌∙◌, refl, sym, ap, subst, ◌<◌, ◌*◌, ◌-◌, ℕ, length, Bool, true, List, [], ◌∷◌, ◌++◌, Option, Some, Ok}
use Rattle.sbp_world.proofs.Words.Wire.{LabelParts, Packet, header_in, judging_step, of_response, Sent, found_sent, Moment, asked, said, Sending, Terms, opened, terms, Event}
use Rattle.sbp_world.proofs.Words.Target.{ReadAhead, Main, reads_table, Machine, cut_to, limit_of, Disk, which_in, desk_at, answer_in}
use Rattle.sbp_world.proofs.Words.Initiator.{CommandOrb, command_orb, Answer, payload_of, Segment, chunk_from}
use Rattle.sbp_world.proofs.Words.Laws.{Moved, receiver_in, Target, agent_at, for_agent, is_serial, over, purpose_of, target_at, EachMoment}
use Rattle.sbp_world.proofs.Words.World.{WorldState, without_notes, AreAskedAt, Alike, has_list, moves_data, IsCalm, initiator_in, machine_at, AskedAsGot, IsBrought}
use Rattle.command_agent.specs.declared.phase.Phase.TheVariants as phases
use Rattle.sbp_journal.specs.declared.note.Note.TheVariants as notes
use Rattle.sbp_laws.specs.Packets as laws
use Rattle.sbp_target.specs.declared.purpose.Purpose.TheVariants as purposes
use Rattle.sbp_world.proofs.Agents.Management.Holding.{Holding}
use Rattle.sbp_world.proofs.Agents.Management.Still.{hist}
use Rattle.sbp_world.proofs.Lists.FedReads.{Fed, IsTurned, feeding, hears, kept, turns_to}
use Rattle.sbp_world.proofs.Lists.FedFolds.{over_still}
use Rattle.sbp_world.proofs.Lists.FedSteps.{Feeding, Hears}
use Rattle.sbp_world.proofs.Lists.Calm.{asked_calm}
use Rattle.sbp_world.proofs.Lists.Heard.{purpose_so, tells}
use Rattle.sbp_world.proofs.Lists.OrbLines.{answered_same}
use Rattle.sbp_world.proofs.Lists.OrbWaits.{over_twice}
use Rattle.sbp_world.proofs.Lists.OrbPlaces.{by_target, calm_from, closes, request}
use Rattle.sbp_world.proofs.Lists.OrbSteps.{ReadAheadOf, has_read}
use Rattle.sbp_world.proofs.Lists.Sites.{Site}

-- ---- agents that are alike
module _ (R : ℕ → CommandOrb → Type 0) (T : ℕ → CommandOrb → List Moved → Type 0) (turn : (at : ℕ) (orb : CommandOrb) → R at orb → T at orb []) (u : Bool) (a m : Machine) (alike : Alike u a m) (open_there : has_list m.phase ≡ true) (told heard : Answer) (same : told ≡ heard) where
  like : (P : ℕ → CommandOrb → List ℕ → Answer → Type 0) → P a.present a.orb a.payload told → P m.present m.orb m.payload heard
  like P h =
      subst (λ x. P m.present m.orb m.payload x) same
      (subst (λ x. P m.present m.orb x told) (alike.payload open_there) (subst (λ (x : CommandOrb). P m.present x a.payload told) (alike.orb open_there) (subst (λ x. P x a.orb a.payload told) (alike.present open_there) h)))

  moves : (wanted : ℕ) → m.phase ≡ phases.ReadingData wanted → moves_data m.phase ≡ true
  moves wanted e = ap moves_data e

  pub alike_hears : Hears R T turn a told → Hears R T turn m heard
  alike_hears h = record {
    fetched = λ e. like (λ at orb payload answer. (payload ≡ []) × ((bytes : List ℕ) → payload_of answer 32 ≡ Ok bytes → R at (command_orb bytes))) (h.fetched (alike.phase ∙ e));
    tabled = λ e. like (λ at orb payload answer. (payload ≡ []) × ((reads_table orb ≡ true) × ((bytes : List ℕ) → payload_of answer (8 * orb.data_size) ≡ Ok bytes → T at orb (record { offset = orb.descriptor; bytes = bytes } ∷ [])))) (h.tabled (alike.phase ∙ e));
    filled = λ wanted e.
        subst (λ (segments : List Segment). (bytes : List ℕ) → payload_of heard (cut_to (wanted - length m.payload) (chunk_from segments (length m.payload) (limit_of m.orb))).length ≡ Ok bytes → Feeding T m.present m.orb segments (m.payload ++ bytes) wanted) (alike.segments (moves wanted e))
        (like (λ at orb payload answer. (bytes : List ℕ) → payload_of answer (cut_to (wanted - length payload) (chunk_from a.segments (length payload) (limit_of orb))).length ≡ Ok bytes → Feeding T at orb a.segments (payload ++ bytes) wanted) (h.filled wanted (alike.phase ∙ e)));
    ahead = subst (λ (x : ReadAhead). ReadAheadOf R m.orb.next x) (alike.ahead open_there) (subst (λ (o : CommandOrb). ReadAheadOf R o.next a.ahead) (alike.orb open_there) h.ahead);
    idle = λ e. sym (alike.ahead open_there) ∙ h.idle (ap has_read alike.phase ∙ e);
  }

-- ---- what is known at a place
-- of the answer to the main transaction of an agent, as it is got
pub record HasHeard (start : List Disk) (past : List Moment) (w : WorldState) : Type 0 where
  pub hears : (serial : ℕ) (sent : Sent) → found_sent serial w.store.kept ≡ Some sent → sent.to ≡ 0 → (packet : Packet) (label : LabelParts) (place : ℕ) → (judging_step w.target.layer sent.generation sent.bytes).0 ≡ of_response packet label (Some (purposes.Agent place)) → which_in (desk_at w.target place) (header_in packet).source label ≡ Some Main → place < 8 → IsCalm past (initiator_in w place) → has_list (machine_at w place).phase ≡ true → (let now = said (notes.Got serial) ∷ past in Hears (IsBrought start now place) (IsTurned start now place) (turns_to start now place) (machine_at w place) (answer_in packet))

module _ (units ready : ℕ) (has : 0 < units) (start : List Disk) {past : List Moment} {lines : ℕ} (w : WorldState) (h : Holding units ready start past lines w) (s : Site start past w) where
  abbrev ms : List Moment
  ms = hist past w

  abbrev t : Terms
  t = terms ms

  abbrev T : Target
  T = over (target_at start ms)

  -- there, or as a line begins there
  module _ (here : List Moment) (waits : AreAskedAt start here) (each : EachMoment (AskedAsGot start) here) (same_target : over (target_at start here) ≡ T) (same_sent : (terms here).sent ≡ t.sent) (same_answered : (serial : ℕ) → laws.answered_at (terms here) serial ≡ laws.answered_at t serial) (calm_there : (i : ℕ) → IsCalm here i → IsCalm ms i) where
    heard : HasHeard start here w
    heard = record {
      hears = λ serial sent found zero_to packet label place e is_which b calm open_there.
          let now = said (notes.Got serial) ∷ here in
          let quiet = calm_there (initiator_in w place) calm in
          let own = request units ready has start w h s serial sent found zero_to packet label place Main e is_which b quiet in
          let from = calm_from units ready has start w h s serial sent found zero_to packet label place Main e is_which b quiet in
          let still = over_still (Fed start here) (kept start here) (target_at start here) (feeding start here each) in
          let alike : Alike (agent_at (over (target_at start here)) place).untold (agent_at (over (target_at start here)) place).machine (machine_at w place) =
          subst (λ (x : Target). Alike (agent_at x place).untold (agent_at x place).machine (machine_at w place)) (sym same_target) (s.agents.are.each place b).machine in
          alike_hears (IsBrought start now place) (IsTurned start now place) (turns_to start now place) (agent_at (over (target_at start here)) place).untold (agent_at (over (target_at start here)) place).machine (machine_at w place) alike open_there
          (laws.answer_in (laws.packet_at (terms here) serial)) (answer_in packet)
          (ap (λ (f : ℕ → Option Sending). laws.answer_in (laws.packet_in (f serial))) same_sent
          ∙ tells units ready has start w h s.agents.requests s.agents.are s.agents.known s.asked serial sent found zero_to packet label place e from)
          (hears start here serial waits
          (ap (λ (f : ℕ → Option Sending). is_serial (receiver_in (f serial)) 0) same_sent ∙ by_target units ready has start w h s serial sent found zero_to packet label place Main e is_which b quiet) own
          (same_answered serial ∙ closes units ready has start w h s serial sent found zero_to packet label place Main e is_which b quiet) place still
          (subst (λ (x : Target). purpose_of x own ≡ for_agent place Main) (sym same_target)
          (purpose_so units ready has start w h s.agents.requests s.agents.are s.agents.known s.asked serial sent found zero_to packet label place e Main is_which)));
    }

  pub has_heard : EachMoment (AskedAsGot start) ms → HasHeard start ms w
  has_heard each = heard ms s.asked each refl refl (λ serial. refl) (λ i c. c)

  -- as a line begins that delivers a packet
  pub line_heard : (line : ℕ) (event : Event) (r : Bool) → ((terms_then : Terms) → opened event terms_then ≡ record terms_then { repeats = r }) → AreAskedAt start (asked line event ∷ ms) → EachMoment (AskedAsGot start) ms → HasHeard start (asked line event ∷ ms) (without_notes w)
  line_heard line event r as_opened waits each =
      let same = as_opened t in
      let x = heard (asked line event ∷ ms) waits (tt, each) (over_twice (target_at start ms)) (ap (λ (y : Terms). y.sent) same)
      (λ serial. ap (λ (y : Terms). laws.answered_at y serial) same ∙ answered_same t r (t.sent serial)) (λ i c. asked_calm line event ms i c) in
      record { hears = x.hears }
