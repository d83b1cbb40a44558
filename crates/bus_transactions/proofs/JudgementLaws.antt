-- The first row that holds decides.
use Rattle.std.specs.Prelude.{◌≡◌, ℕ, nat_eq, Bool, true, false, List, [], ◌∷◌, Option, Some, None, Result, Ok, Err, refl}
use Rattle.std.proofs.Common.{arith, sym, ◌∙◌, ap, subst}
use Rattle.async_packet.specs.declared.fault.PacketFault.{PacketFault}
use Rattle.async_packet.specs.Packet.{Packet}
use Rattle.async_packet.specs.Reading.{reading}
use Rattle.label_table.specs.declared.judgement.Asked.{Asked}
use Rattle.label_table.specs.declared.reply.Stale.{Stale}
use Rattle.label_table.specs.Judging.{Facts, by_generation, by_request, row_of}
use Rattle.label_table.specs.Layer.{Finding, of_generation, of_grammar, of_label, of_response, of_again, of_request, facts_in, asking_step, expiring_step, judging_step}
use Rattle.label_table.specs.Layer as layers
use Rattle.packet_store.specs.declared.sent.Kept.{Kept}
use Rattle.sbp_journal.specs.Run.{Moment, said}
use Rattle.sbp_journal.specs.Transactions.{Sending}
use Rattle.sbp_journal.specs.Wire.{Terms, terms}
use Rattle.sbp_journal.specs.declared.cause.Cause.{Cause}
use Rattle.sbp_journal.specs.declared.cause.Cause.TheVariants as causes
use Rattle.sbp_journal.specs.declared.note.Note.{Note}
use Rattle.sbp_journal.specs.declared.note.Note.TheVariants as notes
use Rattle.bus_transactions.specs.Wire.{Node, Due, Wire, as_sending, decided, first_note, id_for}
use Rattle.bus_transactions.specs.Moves.{Move, ask, answer, inject, deliver, lose, expire, disown, reset, see, start, tell, asking, answering, expiring, moved, after}
use Rattle.bus_transactions.specs.May.{May, MayDeliver, Always, is_plain, may_ignore}
use Rattle.bus_transactions.specs.Judging.{facts_of, may_get, may_ignore_by, AreJudged, JudgementLaw}
use Rattle.bus_transactions.proofs.Facts.{some_same}
use Rattle.bus_transactions.proofs.Follows.{found_kept}
use Rattle.bus_transactions.proofs.JudgedStep.{JudgedAs, judged_step, facts_agree}
use Rattle.bus_transactions.proofs.NodeRows.{IsNode}
use Rattle.bus_transactions.proofs.Stands.{Stands}
use Rattle.bus_transactions.proofs.MoveOthers.{settled}
use Rattle.bus_transactions.proofs.All.{all_stand}

-- ---- the row on the node's state and on the history
module _ (t : Terms) (layer : Node) (q : Sending) (n : IsNode (t.ids (t.generation q.to)) (t.generation q.to) q.to t.held t.last t.seen t.given None layer) where
  current_in : (read : Result Packet PacketFault) → (facts_in layer q.generation q.bytes read).is_current ≡ nat_eq q.generation layer.generation
  current_in (Err fault) = refl
  current_in (Ok p) = refl

  early_row : (f : Facts) → f.is_current ≡ false → row_of f ≡ by_generation
  early_row f e = early f.is_current f.is_for_node f.is_response f.is_awaited f.is_repeated e
    where
      early : (a b c d e : Bool) → a ≡ false → row_of (record { is_current = a; is_for_node = b; is_response = c; is_awaited = d; is_repeated = e }) ≡ by_generation
      early false b c d e i = refl
      early true b c d e i = cc

pub row_agrees : (w : Wire) → Stands w → w.due ≡ None → (q : Sending) (s : ℕ) → (terms w.past).sent s ≡ Some q → (b : Bool) → nat_eq q.generation ((terms w.past).generation q.to) ≡ b → row_of (facts_of (terms w.past) q) ≡ row_of (layers.facts_of (w.layer q.to) q.generation q.bytes)
row_agrees w h free q s sent true e =
    let t : Terms = terms w.past in
    let o = settled w h free in
    let now : t.generation q.to ≡ q.generation = grind arith in
    let node = subst (λ g. IsNode (t.ids g) g q.to t.held t.last t.seen t.given None (w.layer q.to)) now (o.nodes q.to) in
    let honest = o.facts.honest s q sent in
    ap row_of (sym (facts_agree t (w.layer q.to) q node honest.source honest.label now refl))
row_agrees w h free q s sent false e =
    let t : Terms = terms w.past in
    let o = settled w h free in
    let node = o.nodes q.to in
    let c : (layers.facts_of (w.layer q.to) q.generation q.bytes).is_current ≡ false = current_in t (w.layer q.to) q node (reading q.bytes) ∙ ap (nat_eq q.generation) node.generation ∙ e in
    early_row t (w.layer q.to) q node (facts_of t q) e ∙ sym (early_row t (w.layer q.to) q node (layers.facts_of (w.layer q.to) q.generation q.bytes) c)

-- ---- the notes of a delivery
plain_judged : (note : Note) (past : List Moment) → is_plain note ≡ true → AreJudged past → AreJudged (said note ∷ past)
unfolding is_plain
plain_judged (notes.Got s) past e c = cc
plain_judged (notes.Ignored s cause) past e c = cc
plain_judged _ past e c = c

decided_row : (cause : Option Cause) → may_ignore cause ≡ true → (s : ℕ) (past : List Moment) → ((q : Sending) → (terms past).sent s ≡ Some q → row_of (facts_of (terms past) q) ≡ by_request) → AreJudged past → AreJudged (said (decided cause s) ∷ past)
decided_row None known s past row c = (λ q e. ap may_get (row q e), c)
decided_row (Some causes.Generation) known s past row c = cc
decided_row (Some causes.Label) known s past row c = cc
decided_row (Some causes.Again) known s past row c = cc
decided_row (Some causes.Grammar) known s past row c = (λ q e. ap (λ r. may_ignore_by r causes.Grammar) (row q e), c)
decided_row (Some causes.Source) known s past row c = (λ q e. ap (λ r. may_ignore_by r causes.Source) (row q e), c)
decided_row (Some causes.Login) known s past row c = (λ q e. ap (λ r. may_ignore_by r causes.Login) (row q e), c)
decided_row (Some causes.Slot) known s past row c = (λ q e. ap (λ r. may_ignore_by r causes.Slot) (row q e), c)

first_row : (layer : Node) (bytes : List ℕ) (f : Facts) (cause : Option Cause) → may_ignore cause ≡ true → (s : ℕ) (past : List Moment) (r : Finding (Unit {0}) × Node) → JudgedAs layer bytes f r → ((q : Sending) → (terms past).sent s ≡ Some q → row_of (facts_of (terms past) q) ≡ row_of f) → AreJudged past → AreJudged (said (first_note r.0 cause s) ∷ past)
first_row layer bytes f cause known s past (of_generation, new) j row c = (λ q e. ap (λ r. may_ignore_by r causes.Generation) (row q e ∙ j.1), c)
first_row layer bytes f cause known s past (of_grammar, new) j row c = (λ q e. ap (λ r. may_ignore_by r causes.Grammar) (row q e ∙ j.1), c)
first_row layer bytes f cause known s past (of_label, new) j row c = (λ q e. ap (λ r. may_ignore_by r causes.Label) (row q e ∙ j.1), c)
first_row layer bytes f cause known s past (of_response p label purpose, new) j row c = (λ q e. ap may_get (row q e ∙ j.row), c)
first_row layer bytes f cause known s past (of_again p rcode, new) j row c = (λ q e. ap (λ r. may_ignore_by r causes.Again) (row q e ∙ j.0.row_is), c)
first_row layer bytes f cause known s past (of_request p, new) j row c = decided_row cause known s past (λ q e. row q e ∙ j.row_is) c

delivered_row : (w : Wire) → Stands w → (kept : Kept) (cause : Option Cause) → MayDeliver w kept cause → AreJudged w.past → AreJudged (moved (deliver kept cause) w).past
delivered_row w h kept cause may c =
    let k = found_kept h.follows kept.serial kept may.kept_is in
    let q : Sending = as_sending kept.sent in
    let is : k.packet ≡ q = ap as_sending (sym k.is) in
    let sent : (terms w.past).sent kept.serial ≡ Some q = k.sent ∙ ap Some is in
    first_row (w.layer q.to) q.bytes (layers.facts_of (w.layer q.to) q.generation q.bytes) cause may.known kept.serial w.past (judging_step (w.layer q.to) q.generation q.bytes)
    (judged_step (w.layer q.to) q.generation q.bytes (h.nodes q.to).places)
    (λ r e. subst (λ x. row_of (facts_of (terms w.past) x) ≡ row_of (layers.facts_of (w.layer q.to) q.generation q.bytes)) (some_same ((terms w.past).sent kept.serial) q r sent e) (row_agrees w h may.free q kept.serial sent _ refl)) c

asked_row : (w : Wire) (node peer : ℕ) (r : Option Asked × Node) → AreJudged w.past → AreJudged (asking r node peer w).past
asked_row w node peer (Some found, layer) c = c
asked_row w node peer (None, layer) c = c

answered_row : (w : Wire) (due : Option Due) (rcode : ℕ) (given : List ℕ) → AreJudged w.past → AreJudged (answering due rcode given w).past
answered_row w None rcode given c = c
answered_row w (Some due) rcode given c = c

expired_row : (w : Wire) (node peer label : ℕ) (r : Result (Option (Unit {0})) Stale × Node) → AreJudged w.past → AreJudged (expiring r node peer label w).past
expired_row w node peer label (Ok purpose, layer) c = c
expired_row w node peer label (Err stale, layer) c = c

move_row : (w : Wire) → Stands w → (move : Move) → May move w → AreJudged w.past → AreJudged (moved move w).past
move_row w h (ask node peer body) may c = asked_row w node peer (asking_step (w.layer node) (id_for w node peer) body tt) c
move_row w h (answer rcode given) may c = answered_row w w.due rcode given c
move_row w h (inject node peer bytes) may c = c
move_row w h (deliver kept cause) may c = delivered_row w h kept cause may c
move_row w h (lose s) may c = c
move_row w h (expire node peer label) may c = expired_row w node peer label.number (expiring_step (w.layer node) (id_for w node peer) label) c
move_row w h (disown node peer label) may c = c
move_row w h (reset line physical) may c = c
move_row w h (see node) may c = c
move_row w h (start line event) may c = c
move_row w h (tell note) may c = plain_judged note w.past may c

pub judged_always : Always JudgementLaw
judged_always [] may = tt
judged_always (move ∷ moves) may = move_row (after moves) (all_stand moves may.1) move may.0 (judged_always moves may.1)
