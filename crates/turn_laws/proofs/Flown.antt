-- A packet that is got was in flight, but where the line is a repeat: so each delivery of the history says of the bus.
use Rattle.std.proofs.Common.{◌≡◌, ◌∙◌, refl, sym, ap, subst, ℕ, ◌-◌, Bool, true, false, List, [], ◌∷◌, ◌++◌, map, Option, Some, None, Result, Ok, Err}
use Rattle.label_table.specs.declared.judgement.Asked.{Asked}
use Rattle.label_table.specs.declared.reply.Stale.{Stale}
use Rattle.label_table.specs.Layer.{Finding, asking_step, expiring_step, judging_step, of_again, of_generation, of_grammar, of_label, of_request, of_response}
use Rattle.packet_store.specs.declared.sent.Kept.{Kept}
use Rattle.packet_store.specs.declared.sent.Sent.{Sent}
use Rattle.packet_store.specs.Kept.{found as found_in, found_sent, in_air, is_flying, sent_of}
use Rattle.packet_store.specs.Laws.{shown}
use Rattle.packet_store.specs.Stored.{Stored}
use Rattle.bus_transactions.specs.May.{Always, May, MayDeliver, is_plain}
use Rattle.bus_transactions.specs.Moves.{Move, after, answer, answering, arrived, ask, asking, deliver, disown, expire, expiring, inject, judging, lose, moved, reset, see, start, tell}
use Rattle.bus_transactions.specs.Packets.{flight_as, sent_as}
use Rattle.bus_transactions.specs.Reached.{Reached}
use Rattle.bus_transactions.specs.Wire.{Due, Node, Wire, as_sending, decided, first_note, id_for}
use Rattle.bus_transactions.proofs.All.{all_stand}
use Rattle.bus_transactions.proofs.Follows.{kept_is}
use Rattle.bus_transactions.proofs.Reaches.{goes_on}
use Rattle.bus_transactions.proofs.Stands.{Stands as Holds}
use Rattle.sbp_journal.specs.Outgoings.{OutboxState}
use Rattle.sbp_journal.specs.Run.{Moment, said}
use Rattle.sbp_journal.specs.Transactions.{Sending}
use Rattle.sbp_journal.specs.Wire.{Terms, terms}
use Rattle.sbp_journal.specs.declared.cause.Cause.{Cause}
use Rattle.sbp_journal.specs.declared.note.Note.{Note}
use Rattle.sbp_journal.specs.declared.note.Note.TheVariants as notes
use Rattle.sbp_laws.specs.Turns.{EachMoment}
use Rattle.sbp_world.specs.Handing.{handed_out}
use Rattle.sbp_world.specs.Wire.Wires.{Stands}
use Rattle.sbp_world.specs.Worlds.{WorldState}
use Rattle.sbp_world.proofs.Agents.Management.Holding.{past_terms}
use Rattle.sbp_world.proofs.Wire.Bus.{holds}
use Rattle.turn_laws.proofs.Handed.{handed, handed_fresh, onto}

-- the store would have the packet in flight, by the terms
abbrev FliesIn : Terms → ℕ → Type 0
FliesIn t s = in_air (shown (t.count - 1024) s (flight_as (t.flight s)) (sent_as (t.sent s))) ≡ true

abbrev CameFlying : Moment → List Moment → Type 0
CameFlying (said (notes.Got s)) past = (terms past).repeats ≡ false → FliesIn (terms past) s
CameFlying moment past = Unit {0}

abbrev AllFlown : List Moment → Type 0
AllFlown past = EachMoment CameFlying past

-- ---- over the moves of the bus
plain_flown : (note : Note) (past : List Moment) → is_plain note ≡ true → AllFlown past → AllFlown (said note ∷ past)
unfolding is_plain
plain_flown (notes.Got s) past e c = cc
plain_flown _ past e c = (tt, c)

decided_flown : (cause : Option Cause) (s : ℕ) (past : List Moment) → ((terms past).repeats ≡ false → FliesIn (terms past) s) → AllFlown past → AllFlown (said (decided cause s) ∷ past)
decided_flown None s past flies c = (flies, c)
decided_flown (Some cause) s past flies c = (tt, c)

first_flown : (f : Finding (Unit {0})) (cause : Option Cause) (s : ℕ) (past : List Moment) → ((terms past).repeats ≡ false → FliesIn (terms past) s) → AllFlown past → AllFlown (said (first_note f cause s) ∷ past)
first_flown of_generation cause s past flies c = (tt, c)
first_flown of_grammar cause s past flies c = (tt, c)
first_flown of_label cause s past flies c = (tt, c)
first_flown (of_response p label purpose) cause s past flies c = (flies, c)
first_flown (of_again p rcode) cause s past flies c = (tt, c)
first_flown (of_request p) cause s past flies c = decided_flown cause s past flies c

judged_flown : (w : Wire) (r : Finding (Unit {0}) × Node) (cause : Option Cause) (s : ℕ) (q : Sending) → ((terms w.past).repeats ≡ false → FliesIn (terms w.past) s) → AllFlown w.past → AllFlown (judging r cause s q w).past
judged_flown w (f, layer) cause s q flies c = first_flown f cause s w.past flies c

-- what the store has in flight
air_is : (s : ℕ) (k : Option Kept) (b : Bool) (q : Sent) → k ≡ Some (record { serial = s; in_flight = b; sent = q }) → in_air k ≡ b
air_is s k b q e = ap in_air e

flies_there : (w : Wire) → Reached w → Holds w → (s : ℕ) (q : Sent) → found_sent s w.store.kept ≡ Some q → is_flying s w.store.kept ≡ true → FliesIn (terms w.past) s
flies_there w r h s q found flies =
    sym (ap in_air (kept_is h.follows s)) ∙ air_is s (found_in s w.store.kept) (is_flying s w.store.kept) q (goes_on.finds w s q r found) ∙ flies

delivered_flown : (w : Wire) → Reached w → Holds w → (kept : Kept) (cause : Option Cause) → MayDeliver w kept cause → AllFlown w.past → AllFlown (moved (deliver kept cause) w).past
delivered_flown w r h kept cause may c =
    let q : Sending = as_sending kept.sent in
    judged_flown (record w { store = arrived (terms w.past).repeats kept.serial w.store }) (judging_step (w.layer q.to) q.generation q.bytes) cause kept.serial q
    (λ e. flies_there w r h kept.serial kept.sent (ap sent_of may.kept_is) (may.flies e)) c

asked_flown : (w : Wire) (node peer : ℕ) (r : Option Asked × Node) → AllFlown w.past → AllFlown (asking r node peer w).past
asked_flown w node peer (Some asked, layer) c = (tt, c)
asked_flown w node peer (None, layer) c = c

answered_flown : (w : Wire) (due : Option Due) (rcode : ℕ) (given : List ℕ) → AllFlown w.past → AllFlown (answering due rcode given w).past
answered_flown w None rcode given c = c
answered_flown w (Some due) rcode given c = (tt, c)

expired_flown : (w : Wire) (node peer label : ℕ) (r : Result (Option (Unit {0})) Stale × Node) → AllFlown w.past → AllFlown (expiring r node peer label w).past
expired_flown w node peer label (Ok purpose, layer) c = (tt, c)
expired_flown w node peer label (Err stale, layer) c = c

move_flown : (w : Wire) → Reached w → Holds w → (move : Move) → May move w → AllFlown w.past → AllFlown (moved move w).past
move_flown w r h (ask node peer body) may c = asked_flown w node peer (asking_step (w.layer node) (id_for w node peer) body tt) c
move_flown w r h (answer rcode given) may c = answered_flown w w.due rcode given c
move_flown w r h (inject node peer bytes) may c = (tt, (tt, c))
move_flown w r h (deliver kept cause) may c = delivered_flown w r h kept cause may c
move_flown w r h (lose s) may c = (tt, c)
move_flown w r h (expire node peer label) may c = expired_flown w node peer label.number (expiring_step (w.layer node) (id_for w node peer) label) c
move_flown w r h (disown node peer label) may c = c
move_flown w r h (reset line physical) may c = (tt, (tt, c))
move_flown w r h (see node) may c = (tt, c)
move_flown w r h (start line event) may c = (tt, c)
move_flown w r h (tell note) may c = plain_flown note w.past may c

flown_always : Always (λ (w : Wire). AllFlown w.past)
flown_always [] may = tt
flown_always (move ∷ moves) may =
    move_flown (after moves) (record { moves = moves; may = may.1; is = refl }) (all_stand moves may.1) move may.0 (flown_always moves may.1)

flown_of : (w : Wire) → Reached w → AllFlown w.past
flown_of w r = subst (λ (v : Wire). AllFlown v.past) (sym r.is) (flown_always r.moves r.may)

-- ---- of a call of the target
flown_before : (rest old : List Note) (past : List Moment) → AllFlown (map said (onto rest old) ++ past) → AllFlown (map said old ++ past)
flown_before [] old past j = j
flown_before (note ∷ rest) old past j = (flown_before rest (note ∷ old) past j).1

module _ {past : List Moment} (w : WorldState) (h : Stands past w) (serial : ℕ) (one : Sent) (found : found_sent serial w.store.kept ≡ Some one) where
  -- a packet that is got here, where what the call hands out stands too
  pub got_flies : (outbox : OutboxState) (v : WorldState) → v.fresh ≡ notes.Got serial ∷ w.fresh → Stands past (handed_out 0 0 outbox v) → (terms h.wire.past).repeats ≡ false → is_flying serial w.store.kept ≡ true
  got_flies outbox v fresh_is then e =
      let rest = handed 0 0 outbox v in
      let all : AllFlown (map said (handed_out 0 0 outbox v).fresh ++ past) = subst AllFlown then.is.past_is (flown_of then.wire then.reached) in
      let there : AllFlown (map said (onto rest (notes.Got serial ∷ w.fresh)) ++ past) =
      subst (λ ns. AllFlown (map said ns ++ past)) (handed_fresh 0 0 outbox v ∙ ap (onto rest) fresh_is) all in
      let got = (flown_before rest (notes.Got serial ∷ w.fresh) past there).0 in
      let flies : FliesIn (terms h.wire.past) serial = subst (λ (t : Terms). t.repeats ≡ false → FliesIn t serial) (sym (past_terms w h)) got e in
      let kept = ap in_air (kept_is (holds h.wire h.reached).follows serial) in
      let has = air_is serial (found_in serial h.wire.store.kept) (is_flying serial h.wire.store.kept) one (goes_on.finds h.wire serial one h.reached (ap (λ (st : Stored). found_sent serial st.kept) h.is.store_is ∙ found)) in
      ap (λ (st : Stored). is_flying serial st.kept) (sym h.is.store_is) ∙ sym has ∙ kept ∙ flies
