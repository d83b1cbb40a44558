-- What holds of a world between two turns, and what is known of it as a turn of the target begins and ends.
use Rattle.sbp_world.proofs.Words.Std.{arith, ◌≡◌, ◌∙◌, refl, sym, ap, subst, ℕ, ◌+◌, ◌^◌, ◌<◌, ◌≤◌, ◌||◌, not, Bool, true, false, List, [], ◌∷◌, length, Option, Some, None}
use Rattle.sbp_world.proofs.Words.Wire.{LabelParts, AreJudged, IsOf, as_sending, Sent, found_sent, is_flying, Stored, Moment, Terms, terms, Outgoing, Side, OutboxState, id_of, node_of, topology_at}
use Rattle.sbp_world.proofs.Words.Target.{Disk, NodeState, Call, after, TransactionLaw}
use Rattle.sbp_world.proofs.Words.World.{marked, handed_out, asked, posted, sent, sent_all, sent_to, told, told_all, WorldState, IsOurs, Stands, IsManagementAt}
use Rattle.bus_transactions.proofs.Follows.{found_kept}
use Rattle.bus_transactions.proofs.Reaches.{goes_on}
use Rattle.sbp_journal.specs.declared.side.Side.TheVariants as sides
use Rattle.sbp_target.proofs.Histories.Calling.{Good}
use Rattle.sbp_target.proofs.Histories.Settled.{all_good}
use Rattle.sbp_target.proofs.Histories.Under.{under_way_law}
use Rattle.sbp_world.proofs.Wire.Bus.{holds}
use Rattle.sbp_world.proofs.Wire.Found.{IsKnown, node_found}
use Rattle.sbp_world.proofs.Wire.Holding.{Sound}
use Rattle.sbp_world.proofs.Agents.Management.Managed.{IsReady}
use Rattle.sbp_world.proofs.Agents.Management.Sides.{AllBehind, TellsBehind}
use Rattle.sbp_world.proofs.Agents.Management.Still.{hist}

pub record Holding (units ready : ℕ) (start : List Disk) (past : List Moment) (lines : ℕ) (w : WorldState) : Type 0 where
  pub sound : Sound past lines w
  pub calls : List Call
  pub made : after units ready calls ≡ w.target
  pub at : IsManagementAt start (hist past w) w.target
  pub rom : length w.target.rom ≤ 1024

pub good_of : (units ready : ℕ) (calls : List Call) (node : NodeState) → 0 < units → after units ready calls ≡ node → Good node
good_of units ready calls node has made = subst Good made (all_good units ready calls has)

pub law_of : (units ready : ℕ) (calls : List Call) (node : NodeState) → 0 < units → after units ready calls ≡ node → TransactionLaw node
law_of units ready calls node has made = subst TransactionLaw made (under_way_law units ready calls has)

-- ---- a packet that the store has
module _ {past : List Moment} (w : WorldState) (h : Stands past w) where
  pub past_terms : terms h.wire.past ≡ terms (hist past w)
  past_terms = ap terms h.is.past_is

  pub was_sent : (serial : ℕ) (sent : Sent) → found_sent serial w.store.kept ≡ Some sent → (terms (hist past w)).sent serial ≡ Some (as_sending sent)
  was_sent serial sent found =
      let wire_found = goes_on.finds h.wire serial sent h.reached (ap (λ (st : Stored). found_sent serial st.kept) h.is.store_is ∙ found) in
      let k = found_kept (holds h.wire h.reached).follows serial (record { serial = serial; in_flight = is_flying serial h.wire.store.kept; sent = sent }) wire_found in
      ap (λ (t : Terms). t.sent serial) (sym past_terms) ∙ k.sent ∙ ap Some (sym (ap as_sending k.is))

  pub ours : (serial : ℕ) (sent : Sent) → found_sent serial w.store.kept ≡ Some sent → IsOurs (length w.initiators) (as_sending sent)
  ours serial sent found = h.is.knows.ours serial (as_sending sent) (ap (λ (t : Terms). t.sent serial) past_terms ∙ was_sent serial sent found)

  pub is_of : (serial : ℕ) (sent : Sent) → found_sent serial w.store.kept ≡ Some sent → IsOf (terms (hist past w)) (as_sending sent)
  is_of serial sent found = subst (λ t. IsOf t (as_sending sent)) past_terms (goes_on.packets h.wire serial (as_sending sent) h.reached (ap (λ (t : Terms). t.sent serial) past_terms ∙ was_sent serial sent found))

  -- the generation that the target is in
  pub target_generation : (terms (hist past w)).generation 0 ≡ (topology_at w.generations 0).generation
  target_generation = ap (λ (t : Terms). t.generation 0) (sym past_terms) ∙ sym ((holds h.wire h.reached).nodes 0).generation ∙ h.is.sights 0 (omega arith)

  pub known_id : (peer : ℕ) → peer ≤ length w.initiators → (terms (hist past w)).ids ((terms (hist past w)).generation 0) peer ≡ id_of (topology_at w.generations 0) peer
  known_id peer l =
      ap (λ (t : Terms). t.ids (t.generation 0) peer) (sym past_terms)
      ∙ ap (λ g. (terms h.wire.past).ids g peer) (ap (λ (t : Terms). t.generation 0) past_terms ∙ target_generation)
      ∙ h.is.known_ids 0 peer (omega arith) l

  pub same_id : (i j : ℕ) → (terms (hist past w)).ids ((terms (hist past w)).generation 0) i ≡ (terms (hist past w)).ids ((terms (hist past w)).generation 0) j → i ≡ j
  same_id i j e =
      let g = (terms (hist past w)).generation 0 in
      goes_on.apart h.wire g i j h.reached (ap (λ (t : Terms). t.ids g i) past_terms ∙ e ∙ sym (ap (λ (t : Terms). t.ids g j) past_terms))

  clean_there : (s : ℕ) → (terms (hist past w)).count < s → (terms (hist past w)).injected s ≡ false
  clean_there s l =
      let all = holds h.wire h.reached in
      let below : (terms h.wire.past).count < s = subst (λ (t : Terms). t.count < s) (sym past_terms) l in
      ap (λ (t : Terms). t.injected s) (sym past_terms) ∙ (all.facts.unsent s below).honest

  -- what is known of a node that the operation is of
  pub ready_for : (source : ℕ) → IsKnown w 0 source → source < 2 ^ 16 → IsReady past w source
  ready_for source k small = record {
    to = k.node;
    there = node_found w h 0 (omega arith) source k;
    id_is = known_id k.node k.there ∙ k.id_is;
    small = small;
    clean = clean_there;
  }

-- ---- the first note of a delivery
pub marked_hist : (past : List Moment) (serial : ℕ) (again : Bool) (w : WorldState) → hist past (marked serial again w) ≡ hist past w
marked_hist past serial again w = by_test (again || not (is_flying serial w.store.kept)) refl
  where
    by_test : (b : Bool) → (again || not (is_flying serial w.store.kept)) ≡ b → hist past (marked serial again w) ≡ hist past w
    by_test true e = rw e refl
    by_test false e = rw e refl

-- ---- judgements stand through what is handed out
module _ (past : List Moment) where
  one_judged : (weight : ℕ) (side : Side) (w : WorldState) → TellsBehind side → AreJudged (hist past (told weight side w)) → AreJudged (hist past w)
  unfolding told
  one_judged weight (sides.Own note) w h a = absurd h
  one_judged weight (sides.Opened place orb) w h a = a
  one_judged weight (sides.Ran place orb cdb payload outcome) w h a = a
  one_judged weight (sides.Ended place orb status) w h a = a
  one_judged weight (sides.Dead place cause) w h a = a
  one_judged weight (sides.Cut place cause) w h a = a
  one_judged weight (sides.Managed node function subject status login) w h a = a
  one_judged weight (sides.ManageFailed node cause) w h a = a
  one_judged weight (sides.Held login) w h a = a
  one_judged weight (sides.Expired login) w h a = a
  one_judged weight (sides.Back login) w h a = a
  one_judged weight (sides.Left login) w h a = a
  one_judged weight (sides.Cleared unit) w h a = a
  one_judged weight (sides.Unsolicited place) w h a = a
  one_judged weight (sides.Unsent place) w h a = a

  told_judged : (weight : ℕ) (later : List Side) (w : WorldState) → AllBehind later → AreJudged (hist past (told_all weight later w)) → AreJudged (hist past w)
  unfolding told_all
  told_judged weight [] w h a = a
  told_judged weight (side ∷ later) w h a = one_judged weight side w h.0 (told_judged weight later (told weight side w) h.1 a)

  asked_judged : (serial to node peer : ℕ) (label : Option LabelParts) (v : WorldState) → AreJudged (hist past (asked serial to node peer label v)) → AreJudged (hist past v)
  asked_judged serial to node peer None v a = a
  asked_judged serial to node peer (Some label) v a = a

  to_judged : (to : Option ℕ) (from : ℕ) (packet : Outgoing) (w : WorldState) → AreJudged (hist past (sent_to to from packet w)) → AreJudged (hist past w)
  unfolding posted
  to_judged None from packet w a = a
  to_judged (Some to) from packet w a = asked_judged (w.store.last + 1) to from packet.to packet.label (posted from to false packet.bytes w) a

  sent_judged : (from : ℕ) (packets : List Outgoing) (w : WorldState) → AreJudged (hist past (sent_all from packets w)) → AreJudged (hist past w)
  unfolding sent_all sent
  sent_judged from [] w a = a
  sent_judged from (packet ∷ later) w a = to_judged (node_of w.generations from packet.to) from packet w (sent_judged from later (sent from packet w) a)

  pub handed_judged : (node weight : ℕ) (outbox : OutboxState) (w : WorldState) → AllBehind outbox.sides → AreJudged (hist past (handed_out node weight outbox w)) → AreJudged (hist past w)
  handed_judged node weight outbox w h a = told_judged weight outbox.sides w h (sent_judged node outbox.packets (told_all weight outbox.sides w) a)
