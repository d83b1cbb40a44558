-- An initiator has a turn, or nothing happens to the target: its terms stay its state.
use Rattle.sbp_world.proofs.Words.Std.{arith, ◌≡◌, ◌∙◌, refl, sym, ap, subst, ℕ, zero, suc, ◌<◌, ◌≤◌, nat_eq, nat_lt, Bool, true, false, List, ◌∷◌, length, Option, Some, None, slice_index_or, slice_set}
use Rattle.sbp_world.proofs.Words.Wire.{as_sending, Sent, found_sent, Moment, said, Part, Sending, Transaction, between, part_of, request, response, Terms, gets, terms, Judged, OutboxState, empty_outbox, judged_note}
use Rattle.sbp_world.proofs.Words.Target.{Disk, Told, NodeState}
use Rattle.sbp_world.proofs.Words.Initiator.{new_state, receive_step, InitiatorState}
use Rattle.sbp_world.proofs.Words.Laws.{target_at}
use Rattle.sbp_world.proofs.Words.World.{Arrival, arrived, delivered, delivered_by, initiators_received, marked, received_by, received_step, with_initiators, handed_out, Scene, WorldState, with_note, Office, at_rest, office_of, IsManagementAt}
use Rattle.sbp_journal.specs.Transactions.{no_packet}
use Rattle.sbp_journal.specs.declared.cause.Judged.TheVariants as judgements
use Rattle.sbp_journal.specs.declared.note.Note.TheVariants as notes
use Rattle.sbp_world.proofs.Wire.Comes.{own_inside, own_outside, to_own}
use Rattle.sbp_world.proofs.Wire.Holding.{Sound}
use Rattle.sbp_world.proofs.Wire.Nodes.{handed_alike, marked_alike}
use Rattle.sbp_world.proofs.Wire.Starts.{laws_of}
use Rattle.sbp_world.proofs.Agents.Management.Events.{heard_target}
use Rattle.sbp_world.proofs.Agents.Management.Firsts.{got_there, ignored_office, rests}
use Rattle.sbp_world.proofs.Agents.Management.Holding.{Holding, marked_hist, was_sent}
use Rattle.sbp_world.proofs.InitiatorForms.{receives}
use Rattle.sbp_world.proofs.Agents.Management.Outs.{own_out}
use Rattle.sbp_world.proofs.Formed.{AreOwn}
use Rattle.sbp_world.proofs.Agents.Management.Passing.{Keeping, SameOffice, keeping, keeping_then, passed, same_rest}
use Rattle.sbp_world.proofs.Agents.Management.Still.{ClosesOnly, Still, gets_but, hist, ignores_still, others_still}
use Rattle.sbp_world.proofs.Agents.Management.Told.{office_in}

-- what a packet that is got may close
abbrev number_in : Part → ℕ
number_in (response label kind) = label
number_in part = 0

closes : (part : Part) (q : Sending) → ClosesOnly (between q q.to q.from (number_in part)) part q
closes (response label kind) q = refl
closes (request label kind) q = tt
closes no_packet q = tt

other_zero : (n : ℕ) → nat_eq n 0 ≡ false → nat_eq 0 n ≡ false
other_zero n e = grind arith

module _ (units ready : ℕ) (start : List Disk) where
  -- nothing of the management happens
  pub carried : {past later : List Moment} {lines more : ℕ} (w v : WorldState) → Holding units ready start past lines w → Sound later more v → v.target ≡ w.target → SameOffice (office_in start past w) (office_in start later v) → Keeping (terms (hist past w)) (terms (hist later v)) → Holding units ready start later more v
  carried {past} {later} w v h sound same o k = record {
    sound = sound;
    calls = h.calls;
    made = h.made ∙ sym same;
    at = subst (IsManagementAt start (hist later v)) (sym same) (passed start (hist past w) (hist later v) w.target o k h.at);
    rom = subst (λ (n : NodeState). length n.rom ≤ 1024) (sym same) h.rom;
  }

  -- an initiator's turn, behind its first note
  pub own_turn : {past later : List Moment} {lines more : ℕ} (w first : WorldState) (node weight : ℕ) (outbox : OutboxState) → Holding units ready start past lines w → AreOwn outbox.sides → office_in start later first ≡ at_rest (office_in start past w) → Keeping (terms (hist past w)) (terms (hist later first)) → first.target ≡ w.target → Sound later more (handed_out node weight outbox first) → Holding units ready start later more (handed_out node weight outbox first)
  own_turn {past} {later} w first node weight outbox h own rest k same sound =
      let last = handed_out node weight outbox first in
      let out = own_out start later node weight outbox first own (ap (λ (o : Office). o.asks) rest) (laws_of later last sound.stands).sent in
      carried w last h sound ((handed_alike node weight outbox first).target ∙ same)
      (same_rest (office_in start past w) (office_in start later last) (out.office ∙ rest))
      (keeping_then (terms (hist past w)) (terms (hist later first)) (terms (hist later last)) k (keeping (terms (hist later first)) (terms (hist later last)) out.still))

  -- ---- a packet is delivered
  module _ (has : 0 < units) {past : List Moment} {lines : ℕ} (s : Scene) (h : Holding units ready start past lines s.world) (serial : ℕ) (again : Bool) (told : Option Told) (later : Sound past lines (delivered serial again told s).world) where
    abbrev w : WorldState
    w = s.world

    abbrev t : Terms
    t = terms (hist past w)

    module _ (sent : Sent) (found : found_sent serial s.world.store.kept ≡ Some sent) where
      abbrev q : Sending
      q = as_sending sent

      was : t.sent serial ≡ Some q
      was = was_sent w h.sound.stands serial sent found

      -- a packet of another node
      other_got : nat_eq sent.to 0 ≡ false → Still t (gets (t.sent serial) serial t)
      other_got e =
          let v : Transaction = between q q.to q.from (number_in (part_of q.bytes)) in
          others_still v t (gets (t.sent serial) serial t) (other_zero sent.to e) (gets_but serial q t v was (closes (part_of q.bytes) q))

      abbrev first_of : Judged → List InitiatorState → WorldState
      first_of judged states = with_note (judged_note serial judged) (marked serial again (with_initiators states w))

      noted_own : nat_eq sent.to 0 ≡ false → (judged : Judged) (states : List InitiatorState) → (office_in start past (first_of judged states) ≡ at_rest (office_in start past w)) × Still t (terms (hist past (first_of judged states)))
      noted_own e judgements.Got states =
          let m : hist past (marked serial again (with_initiators states w)) ≡ hist past w = marked_hist past serial again (with_initiators states w) in
          let ms : hist past (first_of judgements.Got states) ≡ said (notes.Got serial) ∷ hist past w = ap (λ x. said (notes.Got serial) ∷ x) m in (
            ap (λ x. office_of (target_at start x)) ms ∙ rests start (hist past w) (target_at start (said (notes.Got serial) ∷ hist past w)) (got_there start (hist past w) serial q was e),
            subst (λ x. Still t (terms x)) (sym ms) (other_got e),
          )
      noted_own e (judgements.Ignored cause) states =
          let m : hist past (marked serial again (with_initiators states w)) ≡ hist past w = marked_hist past serial again (with_initiators states w) in
          let ms : hist past (first_of (judgements.Ignored cause) states) ≡ said (notes.Ignored serial cause) ∷ hist past w = ap (λ x. said (notes.Ignored serial cause) ∷ x) m in (
            ap (λ x. office_of (target_at start x)) ms ∙ ignored_office start (hist past w) serial cause,
            subst (λ x. Still t (terms x)) (sym ms) (ignores_still (t.sent serial) cause serial t),
          )

      heard_own : (i : ℕ) → sent.to ≡ suc i → i < length w.initiators → Holding units ready start past lines (delivered serial again told s).world
      unfolding delivered initiators_received arrived
      heard_own i to_is inside =
          let r = receive_step sent.generation sent.bytes empty_outbox (slice_index_or w.initiators i (new_state 0 false)) in
          let states = slice_set w.initiators i r.1.1 in
          let first = first_of r.0 states in
          let last_is : (delivered serial again told s).world ≡ handed_out sent.to 0 r.1.0 first =
          ap (λ (x : Option Arrival × (OutboxState × Scene)). (delivered_by serial again x).world) (to_own told serial i s sent found to_is ∙ own_inside sent i s inside) in
          let n = noted_own (let z : nat_eq sent.to 0 ≡ false = grind arith in z) r.0 states in
          subst (Holding units ready start past lines) (sym last_is)
          (own_turn w first sent.to 0 r.1.0 h (receives sent.generation sent.bytes empty_outbox (slice_index_or w.initiators i (new_state 0 false)) tt) n.0 (keeping t (terms (hist past first)) n.1) (marked_alike (with_initiators states w) serial again).target (subst (Sound past lines) last_is later))

      heard_none : (i : ℕ) → sent.to ≡ suc i → length w.initiators ≤ i → Holding units ready start past lines (delivered serial again told s).world
      unfolding delivered
      heard_none i to_is outside =
          subst (Holding units ready start past lines)
          (sym (ap (λ (x : Option Arrival × (OutboxState × Scene)). (delivered_by serial again x).world) (to_own told serial i s sent found to_is ∙ own_outside sent i s outside))) h

      heard_at : (to : ℕ) → sent.to ≡ to → Holding units ready start past lines (delivered serial again told s).world
      heard_at zero e = heard_target units ready has start s h serial again told sent found e later
      heard_at (suc i) e = by_test (nat_lt i (length w.initiators)) refl
        where
          by_test : (b : Bool) → nat_lt i (length w.initiators) ≡ b → Holding units ready start past lines (delivered serial again told s).world
          by_test true f = heard_own i e (grind arith)
          by_test false f = heard_none i e (grind arith)

    heard_by : (so : Option Sent) → found_sent serial s.world.store.kept ≡ so → Holding units ready start past lines (delivered serial again told s).world
    unfolding delivered received_step
    heard_by None e =
        subst (Holding units ready start past lines)
        (sym (ap (λ o. (delivered_by serial again (received_by told o s)).world) e)) h
    heard_by (Some sent) e = heard_at sent e sent.to refl

    pub heard : Holding units ready start past lines (delivered serial again told s).world
    heard = heard_by (found_sent serial s.world.store.kept) refl
