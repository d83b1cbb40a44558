-- With each delivery of a packet in flight the wire weighs less by one at least, and by what was due for the packet, but for the requests that its node hands out.
use Rattle.sbp_world.proofs.Words.Std.{arith, ◌≡◌, ◌∙◌, refl, sym, ap, subst, ℕ, suc, ◌<◌, ◌||◌, not, Bool, true, false, cond, List, length, Option, Some, None, slice_index_or, slice_set}
use Rattle.sbp_world.proofs.Words.Wire.{Kept, Moment, Note, OutboxState, Sent, Stored, deliver_step, empty_outbox, found, header_in, in_air, is_flying, judged_note, judging_step, sent_of}
use Rattle.sbp_world.proofs.Words.Target.{Told, received}
use Rattle.sbp_world.proofs.Words.Initiator.{new_state, receive_step}
use Rattle.sbp_world.proofs.Words.World.{Arrival, BytesTold, Scene, Stands, WorldState, arrived, at_target, delivered, delivered_by, handed_out, initiator_received, initiators_received, marked, target_received, whole_of, with_initiators, with_note, with_target}
use Rattle.packet_store.specs.Weights.{Flies, weight}
use Rattle.packet_store.proofs.Calls.{flight_is}
use Rattle.packet_store.proofs.Weights.{weight_law}
use Rattle.bus_transactions.proofs.FitJudged.{found_as}
use Rattle.bus_transactions.proofs.Follows.{Follows}
use Rattle.sbp_world.specs.Counting.Wire.{FallsBy, FliesAs, flight_weight, handed_by_own, handed_by_target}
use Rattle.sbp_world.proofs.FitInitiator.Law.{fitting_law as own_fitting_law}
use Rattle.sbp_world.proofs.FitTarget.Law.{fitting_law}
use Rattle.sbp_world.proofs.Counting.WireAnswers.{Answers, delivery_answers}
use Rattle.sbp_world.proofs.Counting.WireWeights.{NoneDue, handed_weighs, leaving_most, own_none, target_none}
use Rattle.sbp_world.proofs.Pointers.Quiet.{receive_quiet}
use Rattle.sbp_world.proofs.Wire.Bus.{holds}
use Rattle.sbp_world.proofs.Wire.Comes.{own_inside, received_is, to_own, to_zero}
use Rattle.sbp_world.proofs.Wire.Holding.{KnownTo, Sound, TargetOf, known_small, own_has, target_has, target_small}
use Rattle.sbp_world.proofs.Wire.OwnHears.{ours, source_known, to_known}

-- ---- a packet in flight
air_is : {count : ℕ} {sent : ℕ → Option _} {flight : ℕ → _} {store : Stored} → Follows count sent flight store → (s : ℕ) → is_flying s store.kept ≡ in_air (found s store.kept)
air_is {store = store} f s =
    ap (λ (st : Stored). is_flying s st.kept) f.store_is
    ∙ flight_is f.calls s
    ∙ ap (λ (st : Stored). in_air (found s st.kept)) (sym f.store_is)

flies_as : (serial : ℕ) (kept : List Kept) (sent : Sent) (o : Option Kept) → found serial kept ≡ o → in_air o ≡ true → sent_of o ≡ Some sent → Flies serial kept sent
flies_as serial kept sent None e air is = absurd (let no : false ≡ true = air in cc)
flies_as serial kept sent (Some k) e air is = record { kept_as = k; found = e; flies = air; is_sent = (let same : k.sent ≡ sent = cc in same) }

pub flies : {past : List Moment} (w : WorldState) → Stands past w → (serial : ℕ) (sent : Sent) → FliesAs w serial sent → Flies serial w.store.kept sent
flies w h serial sent q =
    let same = ap (λ (st : Stored). is_flying serial st.kept) h.is.store_is in
    let by_wire = air_is (holds h.wire h.reached).follows serial in
    let of_world = ap (λ (st : Stored). in_air (found serial st.kept)) h.is.store_is in
    flies_as serial w.store.kept sent (found serial w.store.kept) refl (sym of_world ∙ sym by_wire ∙ same ∙ q.flies) q.found

-- ---- it arrives at a node that hands these packets out
module _ (counts : ℕ → Sent → Bool) (w u : WorldState) (store : u.store ≡ w.store) (known : u.generations ≡ w.generations) (serial : ℕ) (sent : Sent) (air : is_flying serial w.store.kept ≡ true) (flying : Flies serial w.store.kept sent) where
  abbrev f : ℕ → Sent → ℕ
  f = flight_weight counts

  marked_store : (marked serial false u).store ≡ deliver_step w.store serial
  marked_store = by (is_flying serial u.store.kept) (ap (λ (s : Stored). is_flying serial s.kept) store ∙ air) ∙ ap (λ (s : Stored). deliver_step s serial) store
    where
      by : (b : Bool) → b ≡ true → (cond (false || not b) u (record u { store = deliver_step u.store serial })).store ≡ deliver_step u.store serial
      by true e = refl
      by false e = absurd (let no : false ≡ true = e in cc)

  pub arrival_falls : (node : ℕ) (outbox : OutboxState) (note : Note) → Answers sent.bytes outbox.packets → NoneDue node outbox.packets → FallsBy counts serial sent outbox.packets w (handed_out node 0 outbox (with_note note (marked serial false u)))
  arrival_falls node outbox note a none =
      let m = with_note note (marked serial false u) in
      let hands = handed_weighs f node 0 outbox m in
      let leaves = leaving_most counts m.generations node m.store.last outbox.packets a.plain none in
      let falls = (weight_law f w.store).delivers serial sent flying in
      let same = ap (λ (s : Stored). weight f s.kept) marked_store in
      let less = a.less in
      omega (arith, hands, leaves, falls, same, less)

-- ---- at the target, and at an initiator
module _ (counts : ℕ → Sent → Bool) {past : List Moment} {lines : ℕ} (s : Scene) (sound : Sound past lines s.world) (serial : ℕ) (sent : Sent) (q : FliesAs s.world serial sent) where
  abbrev w : WorldState
  w = s.world

  abbrev flying : Flies serial w.store.kept sent
  flying = flies w sound.stands serial sent q

  pub target_falls : (told : Option Told) → BytesTold told → sent.to ≡ 0 → FallsBy counts serial sent (handed_by_target told sent s) w (delivered serial false told s).world
  unfolding delivered target_received arrived
  target_falls told fits zero_to =
      let x = received told sent.generation sent.bytes (whole_of w.target s.media) in
      let one = with_target x.1.node w in
      let v = handed_out 0 0 x.1.outbox (with_note (judged_note serial x.0) (marked serial false one)) in
      let last_is : (delivered serial false told s).world ≡ v =
      ap (λ (y : Option Arrival × (OutboxState × Scene)). (delivered_by serial false y).world)
      (received_is told serial s sent q.found ∙ ap (λ b. cond b (at_target sent.to (target_received told sent w.target s.media) s) (initiator_received sent s)) (to_zero sent.to zero_to))
      ∙ ap (λ n. handed_out n 0 x.1.outbox (with_note (judged_note serial x.0) (marked serial false one))) zero_to in
      let d = (fitting_law (target_has w.generations.seen) (target_has w.generations.seen)).deliveries told s.media.disks sent.generation sent.bytes w.target (known_small w.generations.seen) sound.nodes.target_holds
      (record { bytes_fit = (ours w sound.stands serial sent q.found).bytes; source = λ g p read. to_known w sound.stands (header_in p).source (source_known w sound.stands serial sent q.found g p read); told_fits = fits }) in
      let a = delivery_answers (KnownTo w.generations.seen) w.target.layer sent.generation sent.bytes _ _ _ x.1.outbox.packets (judging_step w.target.layer sent.generation sent.bytes).0 (found_as w.target.layer sent.generation sent.bytes sound.nodes.target_holds.layer.filter) d.delivers in
      subst (FallsBy counts serial sent x.1.outbox.packets w) (sym last_is)
      (arrival_falls counts w one refl refl serial sent q.flies flying 0 x.1.outbox (judged_note serial x.0) a (target_none x.1.outbox.packets))

  pub own_falls : (told : Option Told) (i : ℕ) → sent.to ≡ suc i → FallsBy counts serial sent (handed_by_own i sent s) w (delivered serial false told s).world
  unfolding delivered initiators_received arrived
  own_falls told i to_is =
      let ends = (ours w sound.stands serial sent q.found).to in
      let inside : i < length w.initiators = omega (arith, ends, to_is) in
      let old = slice_index_or w.initiators i (new_state 0 false) in
      let x = receive_step sent.generation sent.bytes empty_outbox old in
      let one = with_initiators (slice_set w.initiators i x.1.1) w in
      let last_is : (delivered serial false told s).world ≡ handed_out sent.to 0 x.1.0 (with_note (judged_note serial x.0) (marked serial false one)) =
      ap (λ (y : Option Arrival × (OutboxState × Scene)). (delivered_by serial false y).world) (to_own told serial i s sent q.found to_is ∙ own_inside sent i s inside) in
      let own = sound.nodes.own.holds i inside in
      let d = (own_fitting_law (own_has w.generations.seen i) (own_has w.generations.seen i)).deliveries sent.generation sent.bytes old (target_small w.generations.seen i) own (ours w sound.stands serial sent q.found).bytes in
      let a = delivery_answers (TargetOf w.generations.seen i) old.layer sent.generation sent.bytes _ _ _ x.1.0.packets (judging_step old.layer sent.generation sent.bytes).0 (found_as old.layer sent.generation sent.bytes own.layer.filter) d.delivers in
      let quiet = own_none sent.to x.1.0.packets (receive_quiet _ sent.generation sent.bytes old (target_small w.generations.seen i old.target own.fits.target_known) own.layer d.delivers) in
      subst (FallsBy counts serial sent x.1.0.packets w) (sym last_is)
      (arrival_falls counts w one refl refl serial sent q.flies flying sent.to x.1.0 (judged_note serial x.0) a quiet)
