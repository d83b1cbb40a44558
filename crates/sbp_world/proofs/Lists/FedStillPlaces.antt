-- At a place of a run the answer to the main transaction of an agent that has a list open of an initiator that injected no packets brings it the ORB that was prepared last in its slot, or more of its buffer and data since the response
-- that brought this ORB.
use Rattle.sbp_world.proofs.Words.Std.{◌≡◌, ◌∙◌, refl, sym, ap, subst, ◌<◌, ℕ, Bool, true, List, [], ◌∷◌, ◌++◌, Option, Some}
use Rattle.sbp_world.proofs.Words.Wire.{LabelParts, Packet, header_in, judging_step, of_response, Sent, found_sent, Moment, asked, said, Sending, Terms, opened, terms, Event}
use Rattle.sbp_world.proofs.Words.Target.{Main, Disk, which_in, desk_at, answer_in}
use Rattle.sbp_world.proofs.Words.Initiator.{CommandOrb}
use Rattle.sbp_world.proofs.Words.Laws.{receiver_in, Target, agent_at, for_agent, is_serial, over, purpose_of, target_at, EachMoment, prepared_in}
use Rattle.sbp_world.proofs.Words.World.{WorldState, without_notes, AreAskedAt, Alike, has_list, IsCalm, initiator_in, machine_at, AskedAsGot, AreLed}
use Rattle.sbp_journal.specs.declared.note.Note.TheVariants as notes
use Rattle.sbp_laws.specs.Packets as laws
use Rattle.sbp_target.specs.declared.purpose.Purpose.TheVariants as purposes
use Rattle.sbp_world.proofs.Agents.Management.Holding.{Holding}
use Rattle.sbp_world.proofs.Agents.Management.Still.{hist}
use Rattle.sbp_world.proofs.Lists.FedSteps.{Hears}
use Rattle.sbp_world.proofs.Lists.Calm.{asked_calm, calm_asked}
use Rattle.sbp_world.proofs.Lists.Heard.{purpose_so, tells}
use Rattle.sbp_world.proofs.Lists.OrbLines.{answered_same}
use Rattle.sbp_world.proofs.Lists.OrbWaits.{over_twice}
use Rattle.sbp_world.proofs.Lists.FedGoing as going
use Rattle.sbp_world.proofs.Lists.FedPlaces.{alike_hears}
use Rattle.sbp_world.proofs.Lists.FedStill.{Awaits, ReadBy, Spares, TurnedBy, hears_so, read_by_got, read_on, turned_by_got, turned_on, turns_by}
use Rattle.sbp_world.proofs.Lists.FedStillReads.{AreFedStill, Fed as FedHad, IsOwner, K, KnownHad, fed_before, got_read, read_known, ready_in, turned_known}
use Rattle.sbp_world.proofs.Lists.FedFolds as folds
use Rattle.sbp_world.proofs.Lists.LedRuns.{got_just, led_asked}
use Rattle.sbp_world.proofs.Lists.OrbPlaces.{by_target, calm_from, closes, request}
use Rattle.sbp_world.proofs.Lists.Sites.{Site}

-- of the answer to the main transaction of an agent, as it is got
pub record HasFed (start : List Disk) (past : List Moment) (w : WorldState) : Type 0 where
  pub hears : (serial : ℕ) (sent : Sent) → found_sent serial w.store.kept ≡ Some sent → sent.to ≡ 0 → (packet : Packet) (label : LabelParts) (place : ℕ) → (judging_step w.target.layer sent.generation sent.bytes).0 ≡ of_response packet label (Some (purposes.Agent place)) → which_in (desk_at w.target place) (header_in packet).source label ≡ Some Main → place < 8 → IsCalm past (initiator_in w place) → has_list (machine_at w place).phase ≡ true → (let now = said (notes.Got serial) ∷ past in Hears (ReadBy start (KnownHad start now past w) (IsOwner past w) now place) (TurnedBy start (KnownHad start now past w) (IsOwner past w) now place) (turns_by start (KnownHad start now past w) (IsOwner past w) now place) (machine_at w place) (answer_in packet))

module _ (units ready : ℕ) (has : 0 < units) (start : List Disk) {past : List Moment} {lines : ℕ} (w : WorldState) (h : Holding units ready start past lines w) (s : Site start past w) (each : EachMoment (AskedAsGot start) (hist past w)) (led : AreLed start (hist past w)) (fed : AreFedStill start (hist past w) w) where
  abbrev ms : List Moment
  ms = hist past w

  abbrev T : Target
  T = over (target_at start ms)

  -- there, or as a line begins there
  module _ (here : List Moment) (front : List Moment) (is : front ++ ms ≡ here) (v : WorldState) (owners : (p : ℕ) → initiator_in w p ≡ initiator_in v p) (known : (now : List Moment) (place at : ℕ) (orb : CommandOrb) (response : ℕ) (earlier : List Moment) → KnownHad start now ms w place at orb response earlier → KnownHad start now here v place at orb response earlier) (waits : AreAskedAt start here) (led_here : AreLed start here) (over_here : (now : List Moment) (back : List Moment) (behind : back ++ ms ≡ now) → folds.AreStill (FedHad units ready has start w h s each fed now back behind here) (over (target_at start here))) (same_target : over (target_at start here) ≡ T) (same_sent : (terms here).sent ≡ (terms ms).sent) (same_answered : (serial : ℕ) → laws.answered_at (terms here) serial ≡ laws.answered_at (terms ms) serial) (same_prepared : (i slot : ℕ) → prepared_in here i slot ≡ prepared_in ms i slot) (calm_there : (i : ℕ) → IsCalm here i → IsCalm ms i) (calm_here : (i : ℕ) → IsCalm ms i → IsCalm here i) where
    heard : (serial : ℕ) (sent : Sent) → found_sent serial w.store.kept ≡ Some sent → sent.to ≡ 0 → (packet : Packet) (label : LabelParts) (place : ℕ) → (judging_step w.target.layer sent.generation sent.bytes).0 ≡ of_response packet label (Some (purposes.Agent place)) → which_in (desk_at w.target place) (header_in packet).source label ≡ Some Main → place < 8 → IsCalm here (initiator_in w place) → has_list (machine_at w place).phase ≡ true → (let now = said (notes.Got serial) ∷ here in Hears (ReadBy start (KnownHad start now here v) (IsOwner here v) now place) (TurnedBy start (KnownHad start now here v) (IsOwner here v) now place) (turns_by start (KnownHad start now here v) (IsOwner here v) now place) (machine_at w place) (answer_in packet))
    heard serial sent found zero_to packet label place e is_which b calm open_there =
        let now = said (notes.Got serial) ∷ here in
        let back = said (notes.Got serial) ∷ front in
        let behind : back ++ ms ≡ now = ap (λ xs. said (notes.Got serial) ∷ xs) is in
        let J = K units ready has start w h s each fed now back behind in
        let N = KnownHad start now here v in
        let quiet = calm_there (initiator_in w place) calm in
        let own = request units ready has start w h s serial sent found zero_to packet label place Main e is_which b quiet in
        let from = calm_from units ready has start w h s serial sent found zero_to packet label place Main e is_which b quiet in
        let a = agent_at (over (target_at start here)) place in
        let alike : Alike a.untold a.machine (machine_at w place) =
        subst (λ (x : Target). Alike (agent_at x place).untold (agent_at x place).machine (machine_at w place)) (sym same_target) (s.agents.are.each place b).machine in
        let by_target = ap (λ (f : ℕ → Option Sending). is_serial (receiver_in (f serial)) 0) same_sent ∙ by_target units ready has start w h s serial sent found zero_to packet label place Main e is_which b quiet in
        let told = ap (λ (f : ℕ → Option Sending). laws.answer_in (laws.packet_in (f serial))) same_sent
        ∙ tells units ready has start w h s.agents.requests s.agents.are s.agents.known s.asked serial sent found zero_to packet label place e from in
        alike_hears (ReadBy start N (IsOwner here v) now place) (TurnedBy start N (IsOwner here v) now place) (turns_by start N (IsOwner here v) now place) a.untold a.machine (machine_at w place) alike open_there (laws.answer_in (laws.packet_at (terms here) serial)) (answer_in packet) told
        (hears_so (ReadBy start J (IsOwner ms w) now place) (ReadBy start N (IsOwner here v) now place) (TurnedBy start J (IsOwner ms w) now place) (TurnedBy start N (IsOwner here v) now place) (turns_by start J (IsOwner ms w) now place) (turns_by start N (IsOwner here v) now place) a.machine (laws.answer_in (laws.packet_at (terms here) serial))
        (λ at orb. read_known start now place J N (IsOwner ms w) (IsOwner here v) (λ i own. record { small = own.small; calm = calm_there i own.calm; is = owners place ∙ own.is }) at orb (λ response earlier k. known now place at orb response earlier (k b quiet)))
        (λ at orb reads. turned_known start now place J N (IsOwner ms w) (IsOwner here v) (λ i own. record { small = own.small; calm = calm_there i own.calm; is = owners place ∙ own.is }) at orb reads (λ response earlier k. known now place at orb response earlier (k b quiet)))
        (going.hears start (ReadBy start J (IsOwner ms w)) (TurnedBy start J (IsOwner ms w)) (Awaits start (IsOwner ms w)) (Spares start (IsOwner ms w)) (turns_by start J (IsOwner ms w)) (read_on start J (IsOwner ms w)) (read_by_got start J (IsOwner ms w)) (turned_on start J (IsOwner ms w)) (turned_by_got start J (IsOwner ms w)) here serial waits
        (λ f. got_read units ready has start w h s each fed now back behind here same_target same_sent same_prepared calm_here serial [] refl (got_just start here serial waits led_here f))
        (ready_in units ready has start w h s each fed now back behind here same_target same_sent)
        by_target own (same_answered serial ∙ closes units ready has start w h s serial sent found zero_to packet label place Main e is_which b quiet) place (over_here now back behind)
        (subst (λ (x : Target). purpose_of x own ≡ for_agent place Main) (sym same_target) (purpose_so units ready has start w h s.agents.requests s.agents.are s.agents.known s.asked serial sent found zero_to packet label place e Main is_which))))

  pub has_fed : HasFed start ms w
  has_fed = record {
    hears = heard ms [] refl w (λ p. refl) (λ now place at orb response earlier k. k) s.asked led (λ now back behind. fed_before units ready has start w h s each fed now back behind) refl refl (λ serial. refl) (λ i slot. refl) (λ i c. c) (λ i c. c);
  }

  -- as a line begins that delivers a packet
  pub line_fed : (line : ℕ) (event : Event) (r : Bool) → ((terms_then : Terms) → opened event terms_then ≡ record terms_then { repeats = r }) → AreAskedAt start (asked line event ∷ ms) → HasFed start (asked line event ∷ ms) (without_notes w)
  line_fed line event r as_opened waits =
      let here = asked line event ∷ ms in
      let same = as_opened (terms ms) in
      let f = heard here (asked line event ∷ []) refl (without_notes w) (λ p. refl)
      (λ now place at orb response earlier k. record { had = record { named = k.had.named; initiator = k.had.initiator; there = k.had.there }; response_is = k.response_is; earlier_is = k.earlier_is })
      waits (led_asked start line event ms led)
      (λ now back behind.
      let J = K units ready has start w h s each fed now back behind in
      going.over_now start (ReadBy start J (IsOwner ms w)) (TurnedBy start J (IsOwner ms w)) (Awaits start (IsOwner ms w)) (Spares start (IsOwner ms w)) (turns_by start J (IsOwner ms w)) (read_on start J (IsOwner ms w)) (read_by_got start J (IsOwner ms w)) (turned_on start J (IsOwner ms w)) (turned_by_got start J (IsOwner ms w)) here
      (going.on_asked start (ReadBy start J (IsOwner ms w)) (TurnedBy start J (IsOwner ms w)) (Awaits start (IsOwner ms w)) (Spares start (IsOwner ms w)) (turns_by start J (IsOwner ms w)) (read_on start J (IsOwner ms w)) (read_by_got start J (IsOwner ms w)) (turned_on start J (IsOwner ms w)) (turned_by_got start J (IsOwner ms w)) line event ms (fed_before units ready has start w h s each fed now back behind)))
      (over_twice (target_at start ms)) (ap (λ (y : Terms). y.sent) same)
      (λ serial. ap (λ (y : Terms). laws.answered_at y serial) same ∙ answered_same (terms ms) r ((terms ms).sent serial)) (λ i slot. refl) (λ i c. asked_calm line event ms i c) (λ i c. calm_asked line event ms i c) in
      record { hears = f }
