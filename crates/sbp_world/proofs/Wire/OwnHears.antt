-- A packet is delivered to an initiator, and a transaction times out there, in a world with a target of any kind.
use Rattle.sbp_world.proofs.Words.Std.{if◌then◌else◌, slice_set, arith, sym, ◌∙◌, ap, subst}
use Rattle.sbp_world.proofs.Words.Wire.{Packet, header_in, reading, Sent, found_sent, is_flying, Stored, IsOf, Node, as_sending, empty_outbox, Moment, terms, Request, topology_at, no_packet, find}
use Rattle.sbp_world.proofs.Words.Initiator.{expire_step, InitiatorState}
use Rattle.sbp_world.proofs.Words.World.{delivered_by, initiator_received, at_initiator, initiator_expires, refused, timed_out, WorldState, Scene, initiator_at, with_initiator, OwnFittingLaw, OwnHolds, IsOurs, Stands}
use Rattle.std.specs.Prelude.{◌≡◌, ◌≤◌, ◌<◌, ℕ, suc, ◌-◌, nat_lt, Bool, true, false, List, length, Some, Ok, refl}
use Rattle.bus_transactions.proofs.Follows.{found_kept}
use Rattle.bus_transactions.proofs.Reaches.{goes_on}
use Rattle.sbp_world.proofs.Wire.Bus.{holds, refuses}
use Rattle.sbp_world.proofs.Wire.Found.{IsKnown, has_known, known_has}
use Rattle.sbp_world.proofs.Wire.Holding.{KnownTo, OwnGoes, OwnNodes, OwnSound, TargetOf, lands_own, own_has, own_set, target_small, to_target}
use Rattle.sbp_world.proofs.Wire.Arrivals.{Comes, own_does, own_goes, none_goes}
use Rattle.sbp_world.proofs.Wire.Lapses.{own_lapses}

-- ---- what is known of a packet that the store has
module _ {past : List Moment} (w : WorldState) (h : Stands past w) (serial : ℕ) (sent : Sent) (found : found_sent serial w.store.kept ≡ Some sent) where
  pub was_sent : (terms h.wire.past).sent serial ≡ Some (as_sending sent)
  was_sent =
      let wire_found = goes_on.finds h.wire serial sent h.reached (ap (λ (st : Stored). found_sent serial st.kept) h.is.store_is ∙ found) in
      let k = found_kept (holds h.wire h.reached).follows serial (record { serial = serial; in_flight = is_flying serial h.wire.store.kept; sent = sent }) wire_found in
      k.sent ∙ ap Some (sym (ap as_sending k.is))

  pub ours : IsOurs (length w.initiators) (as_sending sent)
  ours = h.is.knows.ours serial (as_sending sent) was_sent

  pub is_of : IsOf (terms h.wire.past) (as_sending sent)
  is_of = goes_on.packets h.wire serial (as_sending sent) h.reached was_sent

  pub source_known : sent.generation ≡ w.target.layer.generation → (p : Packet) → reading sent.bytes ≡ Ok p → IsKnown w 0 (header_in p).source
  source_known g p read =
      let there : 0 ≤ length w.initiators = omega arith in
      let same_generation : sent.generation ≡ (topology_at w.generations 0).generation =
      g ∙ sym (ap (λ (l : Node). l.generation) (h.is.layers_are 0 there)) ∙ h.is.sights 0 there in
      record {
        node = sent.from;
        there = ours.from;
        id_is = sym (h.is.known_ids 0 sent.from there ours.from) ∙ ap (λ x. (terms h.wire.past).ids x sent.from) (sym same_generation) ∙ sym (is_of.source p read);
      }

-- the test of IDs, and the nodes that have them
module _ {past : List Moment} (w : WorldState) (h : Stands past w) where
  pub of_known : (id : ℕ) → KnownTo w.generations.seen id → IsKnown w 0 id
  of_known id k = has_known (topology_at w.generations 0) (length w.initiators) id (h.is.sizes 0 (omega arith)) k

  pub to_known : (id : ℕ) → IsKnown w 0 id → KnownTo w.generations.seen id
  to_known id k = known_has (topology_at w.generations 0) (length w.initiators) id (h.is.sizes 0 (omega arith)) k

-- a refusal leaves all nodes
pub own_refuses : {past : List Moment} {lines : ℕ} (w : WorldState) (line number : ℕ) → OwnSound past lines w → OwnGoes past lines w (refused line number w)
own_refuses {past} w line number s = record {
  sound = record { stands = refuses past w line number s.stands; own = s.own };
  target = refl;
  generations = refl;
}

pub set_own : (w : WorldState) (lines i : ℕ) (state : InitiatorState) → i < length w.initiators → OwnHolds (TargetOf w.generations.seen i) state → state.counts.acts ≤ lines → OwnNodes w.generations.seen w.initiators lines → OwnNodes w.generations.seen (slice_set w.initiators i state) lines
set_own w lines i state l h c n = own_set w.generations.seen w.initiators lines i state l h c (record { holds = λ j e m. n.holds j m; counts = λ j e m. n.counts j m })

module _ (initiators : OwnFittingLaw) where
  -- ---- a delivery
  module _ {past : List Moment} {lines : ℕ} (s : Scene) (sound : OwnSound past lines s.world) (serial : ℕ) (again : Bool) (sent : Sent) (c : Comes serial again sent s.world sound.stands) (i : ℕ) (to_is : sent.to ≡ suc i) where
    abbrev heard : WorldState
    heard = (delivered_by serial again (initiator_received sent s)).world

    hears_inside : i < length s.world.initiators → OwnGoes past lines s.world heard
    hears_inside inside =
        let w = s.world in
        let old = initiator_at w i in
        let h = sound.own.holds i inside in
        let d = (initiators (own_has w.generations.seen i) (own_has w.generations.seen i)).deliveries sent.generation sent.bytes old (target_small w.generations.seen i) h (ours w sound.stands serial sent c.found).bytes in
        let r = own_does s sound.stands serial again sent c i in
        lands_own w (with_initiator i r.1.1 w) heard
        (own_goes s sound.stands serial again sent c i (TargetOf w.generations.seen i) (to_target w.generations.seen i) to_is inside (record { delivers = d.delivers; plain = d.plain; small = d.small }))
        refl refl (set_own w lines i r.1.1 inside d.holds (subst (λ n. n ≤ lines) (sym d.acts) (sound.own.counts i inside)) sound.own)

    hears_if : (b : Bool) → nat_lt i (length s.world.initiators) ≡ b → OwnGoes past lines s.world heard
    hears_if true e = hears_inside (grind arith)
    hears_if false e = lands_own s.world s.world heard (none_goes s sound.stands serial again sent c i to_is (grind arith)) refl refl sound.own

    pub own_hears : OwnGoes past lines s.world (delivered_by serial again (initiator_received sent s)).world
    own_hears = hears_if (nat_lt i (length s.world.initiators)) refl

  -- ---- a time-out
  module _ {past : List Moment} {lines : ℕ} (w : WorldState) (sound : OwnSound past lines w) (line serial : ℕ) (request : Request) (found : find w.requests serial ≡ Some request) (i : ℕ) (node_is : request.node ≡ suc i) where
    lapses_own : i < length w.initiators → OwnGoes past lines w (timed_out line serial request.node (at_initiator i (expire_step request.label empty_outbox (initiator_at w i)) w))
    lapses_own inside =
        let old = initiator_at w i in
        let h = sound.own.holds i inside in
        let d = (initiators (own_has w.generations.seen i) (own_has w.generations.seen i)).expiries request.label old (target_small w.generations.seen i) h in
        let turn = (expire_step request.label empty_outbox old).1 in
        lands_own w (with_initiator i turn.1 w) (timed_out line serial request.node (at_initiator i (expire_step request.label empty_outbox old) w))
        (own_lapses w sound.stands line serial request found i node_is inside (to_target w.generations.seen i old.target ((initiators (own_has w.generations.seen i) (own_has w.generations.seen i)).target_there old h)) (TargetOf w.generations.seen i) (to_target w.generations.seen i) (record { expires = d.expires; plain = d.plain; small = d.small }))
        refl refl (set_own w lines i turn.1 inside d.holds (subst (λ n. n ≤ lines) (sym d.acts) (sound.own.counts i inside)) sound.own)

    lapses_if : (j : ℕ) → j ≡ i → (b : Bool) → nat_lt i (length w.initiators) ≡ b → OwnGoes past lines w (timed_out line serial request.node (if b then at_initiator j (expire_step request.label empty_outbox (initiator_at w j)) w else (false, (empty_outbox, w))))
    lapses_if j e true f =
        subst (λ x. OwnGoes past lines w (timed_out line serial request.node (at_initiator x (expire_step request.label empty_outbox (initiator_at w x)) w))) (sym e)
        (lapses_own (grind arith))
    lapses_if j e false f = own_refuses w line no_packet sound

    to_inside : (j : ℕ) → j ≡ i → nat_lt j (length w.initiators) ≡ nat_lt i (length w.initiators)
    to_inside j e = ap (λ x. nat_lt x (length w.initiators)) e

    pub own_times_out : OwnGoes past lines w (timed_out line serial request.node (initiator_expires request w))
    own_times_out =
        let before : request.node - 1 ≡ i = omega (arith, node_is) in
        lapses_if (request.node - 1) before (nat_lt (request.node - 1) (length w.initiators)) (sym (to_inside (request.node - 1) before))
