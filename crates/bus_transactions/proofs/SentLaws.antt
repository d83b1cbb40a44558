-- Each packet that was not injected is its sender's own.
use Rattle.async_packet.specs.Canon.{canon}
use Rattle.async_packet.proofs.RoundTrip.{canon_spells}
use Rattle.label_table.specs.Owned.{owned_place}
use Rattle.bus_transactions.proofs.Rooms.{has_room}
use Rattle.std.specs.Prelude.{◌≡◌, ℕ, ◌&&◌, ◌||◌, not, Bool, true, false, cond, List, [], ◌∷◌, Option, Some, None, Result, Ok, Err, refl}
use Rattle.std.proofs.Common.{sym, ◌∙◌, ap, subst}
use Rattle.sbp_base.specs.Update.{upd}
use Rattle.async_packet.specs.declared.packet.Header.{Header}
use Rattle.async_packet.proofs.Spelled.{reads_spelling}
use Rattle.label_table.specs.declared.judgement.Asked.{Asked}
use Rattle.label_table.specs.declared.place.LabelState.{LabelState}
use Rattle.label_table.specs.declared.place.LabelState.TheVariants as states
use Rattle.label_table.specs.declared.reply.Stale.{Stale}
use Rattle.label_table.specs.Bodies.{Body, header_to, request_with}
use Rattle.label_table.specs.Peers.{state_for, last_for, peer_of}
use Rattle.label_table.specs.Requests.{with_label, is_write, is_last}
use Rattle.label_table.specs.Table as table
use Rattle.label_table.specs.Layer.{Finding, of_generation, of_grammar, of_label, of_response, of_again, of_request, unlabelled, asking_step, answering_step, expiring_step, judging_step}
use Rattle.label_table.proofs.Requests.{least_spelled}
use Rattle.label_table.proofs.Rewritten.{writes_labels}
use Rattle.label_table.proofs.Steps.{write_with}
use Rattle.sbp_journal.specs.Run.{Moment, said}
use Rattle.sbp_journal.specs.Transactions.{Kind, request, Transaction}
use Rattle.sbp_journal.specs.Wire.{Terms, terms, Held, free, waits, rests}
use Rattle.sbp_journal.specs.declared.cause.Cause.{Cause}
use Rattle.sbp_journal.specs.declared.note.Note.{Note}
use Rattle.sbp_journal.specs.declared.note.Note.TheVariants as notes
use Rattle.bus_transactions.specs.Wire.{Node, Wire, transaction, id_for, next_serial, decided, first_note}
use Rattle.bus_transactions.specs.Moves.{Move, ask, answer, inject, deliver, lose, expire, disown, reset, see, start, tell, asking, answering, expiring, moved, after}
use Rattle.bus_transactions.specs.May.{May, MayAsk, MayAnswer, Always, is_plain}
use Rattle.bus_transactions.specs.Rows.{Shape, idle, awaits, resting, shape, shape_of}
use Rattle.bus_transactions.specs.Sent.{is_free, serves, HasLowest, IsOwn, AreSent, SentLaw, LabelsLaw, bare_request}
use Rattle.bus_transactions.proofs.Steps.{may_take, Asks, AskedAs, asks, NoneTakes}
use Rattle.bus_transactions.proofs.Facts.{nat_same}
use Rattle.bus_transactions.proofs.Stands.{Stands}
use Rattle.bus_transactions.proofs.MoveAsk.{asked_bytes}
use Rattle.bus_transactions.proofs.MoveAnswer.{answered_own}
use Rattle.bus_transactions.proofs.All.{all_stand}

-- ---- labels that may be taken
abbrev is_idle : Shape → Bool
is_idle idle = true
is_idle (awaits kind) = false
is_idle resting = false

free_table : (state : LabelState) → table.is_free state ≡ is_idle (shape state)
free_table states.Free = refl
free_table (states.UnderWay kind serial) = refl
free_table states.Resting = refl

free_held : (held : Held) → is_idle (shape_of held) ≡ is_free held
free_held free = refl
free_held (waits kind serial) = refl
free_held rests = refl

module _ (w : Wire) (h : Stands w) (i j : ℕ) (body : Body) (may : MayAsk w i j body) (asked : Asked) (new : Node) (a : Asks (w.layer i) new (id_for w i j) (unlabelled (w.layer i) (id_for w i j) body) asked) where
  abbrev T : Terms
  T = terms w.past

  abbrev bare : List ℕ
  bare = unlabelled (w.layer i) (id_for w i j) body

  peer_is : id_for w i j ≡ T.ids (T.generation i) j
  peer_is = ap (λ g. T.ids g j) (h.nodes i).generation

  with_same : (m : ℕ) → with_label m bare ≡ with_label m asked.bytes
  with_same m = sym (writes_labels.last bare m asked.label.number) ∙ ap (with_label m) (sym a.labelled)

  serves_same : (m : ℕ) → may_take (w.layer i) (id_for w i j) bare m ≡ serves T (transaction (T.generation i) i j m) (with_label m asked.bytes)
  serves_same m =
      let b = asked_bytes (w.layer i).node (id_for w i j) asked.label.number body asked.bytes may.valid a.small a.labelled in
      let least = least_spelled asked.bytes b.packet ((reads_spelling.packets asked.bytes b.packet).0 b.read) in
      let u : Transaction = transaction (T.generation i) i j m in
      let state : table.is_free (state_for (w.layer i).peers (id_for w i j) m) ≡ is_free (T.held u) =
      ap (λ p. table.is_free (state_for (w.layer i).peers p m)) peer_is ∙ free_table (state_for (w.layer i).peers (T.ids (T.generation i) j) m) ∙ ap is_idle ((h.nodes i).states_are j m) ∙ free_held (T.held u) in
      let writes : is_write bare ≡ is_write (with_label m asked.bytes) = sym b.writes ∙ sym (write_with m asked.bytes least) in
      let last : last_for (w.layer i).peers (id_for w i j) m ≡ T.last u = ap (λ p. last_for (w.layer i).peers p m) peer_is ∙ (h.nodes i).lasts_are j m in
      ap (λ x. x && (not (is_write bare) || not (is_last (last_for (w.layer i).peers (id_for w i j) m) (with_label m bare)))) state
      ∙ ap (λ x. is_free (T.held u) && (not x || not (is_last (last_for (w.layer i).peers (id_for w i j) m) (with_label m bare)))) writes
      ∙ ap (λ x. is_free (T.held u) && (not (is_write (with_label m asked.bytes)) || not (is_last x (with_label m bare)))) last
      ∙ ap (λ x. is_free (T.held u) && (not (is_write (with_label m asked.bytes)) || not (is_last (T.last u) x))) (with_same m)

  pub asked_own : IsOwn T (w.layer i).generation i j asked.bytes
  asked_own =
      let n : ℕ = asked.label.number in
      let b = asked_bytes (w.layer i).node (id_for w i j) n body asked.bytes may.valid a.small a.labelled in
      let here : with_label n asked.bytes ≡ asked.bytes = sym (with_same n) ∙ sym a.labelled in
      record {
        now = (h.nodes i).generation;
        canonical = record {
          packet = b.packet;
          valid = b.valid;
          spelled = b.spelled;
          header =
              b.header
              ∙ ap (λ x. header_to x (id_for w i j) n) (h.nodes i).id
              ∙ ap (λ x. header_to (T.ids (T.generation i) i) x n) peer_is
              ∙ ap (λ x. header_to (T.ids (T.generation i) i) (T.ids (T.generation i) j) x) (sym (ap (λ (x : Header). x.label) b.header));
        };
        lowest = λ l k e. subst (λ m. HasLowest T i j m asked.bytes) (label_one (sym b.part ∙ e)) (record {
          takes = ap (serves T (transaction (T.generation i) i j n)) (sym here) ∙ sym (serves_same n) ∙ a.takes;
          lower = λ m l. sym (serves_same m) ∙ a.lower m l;
        });
      }
    where
      label_one : {n l : ℕ} {k m : Kind} → request n k ≡ request l m → n ≡ l
      label_one e = cc

-- ---- where no label is found
none_by : (layer : Node) (peer : ℕ) (bytes : List ℕ) (r : Option Asked × Node) → AskedAs layer peer bytes r → r.0 ≡ None → NoneTakes layer peer bytes
none_by layer peer bytes (Some found, new) a e = cc
none_by layer peer bytes (None, new) a e = a.1

none_on : (w : Wire) → Stands w → LabelsLaw w
none_on w h i j m body may e l =
    let T : Terms = terms w.past in
    let n = h.nodes i in
    let u : Transaction = transaction (T.generation i) i j m in
    let peer : id_for w i j ≡ T.ids (T.generation i) j = ap (λ g. T.ids g j) n.generation in
    let bytes : List ℕ = unlabelled (w.layer i) (id_for w i j) body in
    let p = request_with (header_to (w.layer i).node (id_for w i j) 0) body in
    let least = least_spelled bytes p (canon_spells p may.valid) in
    let place = has_room peer_of (T.ids (T.generation i)) j (w.layer i).peers may.peer_small n.peer_room in
    let none = none_by (w.layer i) (id_for w i j) bytes (asking_step (w.layer i) (id_for w i j) body tt) (asks (w.layer i) (id_for w i j) body n.places) e in
    let no_label : may_take (w.layer i) (id_for w i j) bytes m ≡ false = none place.0 m (ap (λ x. owned_place peer_of x (w.layer i).peers) peer ∙ place.1) l in
    let state : table.is_free (state_for (w.layer i).peers (id_for w i j) m) ≡ is_free (T.held u) =
    ap (λ x. table.is_free (state_for (w.layer i).peers x m)) peer ∙ free_table (state_for (w.layer i).peers (T.ids (T.generation i) j) m) ∙ ap is_idle (n.states_are j m) ∙ free_held (T.held u) in
    let last : last_for (w.layer i).peers (id_for w i j) m ≡ T.last u = ap (λ x. last_for (w.layer i).peers x m) peer ∙ n.lasts_are j m in
    let same : bytes ≡ bare_request T i j body =
    ap (λ x. canon (request_with (header_to x (id_for w i j) 0) body)) n.id ∙ ap (λ x. canon (request_with (header_to (T.ids (T.generation i) i) x 0) body)) peer in
    subst (λ b. serves T u (with_label m b) ≡ false) same (
    sym (
    ap (λ x. x && (not (is_write bytes) || not (is_last (last_for (w.layer i).peers (id_for w i j) m) (with_label m bytes)))) state
    ∙ ap (λ x. is_free (T.held u) && (not x || not (is_last (last_for (w.layer i).peers (id_for w i j) m) (with_label m bytes)))) (sym (write_with m bytes least))
    ∙ ap (λ x. is_free (T.held u) && (not (is_write (with_label m bytes)) || not (is_last x (with_label m bytes)))) last)
    ∙ no_label)

pub labels_always : Always LabelsLaw
labels_always moves may = none_on (after moves) (all_stand moves may)

-- ---- each move
plain_sent : (note : Note) (past : List Moment) → is_plain note ≡ true → AreSent past → AreSent (said note ∷ past)
unfolding is_plain
plain_sent (notes.Sent s generation from to bytes) past e c = cc
plain_sent _ past e c = c

decided_sent : (cause : Option Cause) (s : ℕ) (past : List Moment) → AreSent past → AreSent (said (decided cause s) ∷ past)
decided_sent None s past c = c
decided_sent (Some cause) s past c = c

judged_sent : (finding : Finding (Unit {0})) (cause : Option Cause) (s : ℕ) (past : List Moment) → AreSent past → AreSent (said (first_note finding cause s) ∷ past)
judged_sent of_generation cause s past c = c
judged_sent of_grammar cause s past c = c
judged_sent of_label cause s past c = c
judged_sent (of_response p label purpose) cause s past c = c
judged_sent (of_again p rcode) cause s past c = c
judged_sent (of_request p) cause s past c = decided_sent cause s past c

ask_sent : (w : Wire) (h : Stands w) (i j : ℕ) (body : Body) (may : MayAsk w i j body) (r : Option Asked × Node) → AskedAs (w.layer i) (id_for w i j) (unlabelled (w.layer i) (id_for w i j) body) r → AreSent w.past → AreSent (asking r i j w).past
ask_sent w h i j body may (Some found, new) a c = (λ e. asked_own w h i j body may found new a, c)
ask_sent w h i j body may (None, new) a c = c

answer_sent : (w : Wire) → Stands w → (rcode : ℕ) (given : List ℕ) → MayAnswer w rcode given → AreSent w.past → AreSent (answering w.due rcode given w).past
unfolding answering_step
answer_sent w h rcode given may c =
    subst (λ o. AreSent (answering o rcode given w).past) (sym may.owed) (λ e. answered_own w h may.due rcode given may.owed may.valid, c)

expire_sent : (w : Wire) (node peer label : ℕ) (r : Result (Option (Unit {0})) Stale × Node) → AreSent w.past → AreSent (expiring r node peer label w).past
expire_sent w node peer label (Ok purpose, layer) c = c
expire_sent w node peer label (Err stale, layer) c = c

marked_not : {A : Type 0} (s : ℕ) (injected : ℕ → Bool) → upd injected s true s ≡ false → A
marked_not s injected e = absurd (differ (sym (ap (λ b. cond b true (injected s)) (nat_same s)) ∙ e))
  where
    differ : true ≡ false → ⊥
    differ e = cc

move_sent : (w : Wire) → Stands w → (move : Move) → May move w → AreSent w.past → AreSent (moved move w).past
move_sent w h (ask node peer body) may c =
    ask_sent w h node peer body may (asking_step (w.layer node) (id_for w node peer) body tt) (asks (w.layer node) (id_for w node peer) body (h.nodes node).places) c
move_sent w h (answer rcode given) may c = answer_sent w h rcode given may c
move_sent w h (inject node peer bytes) may c = (λ e. marked_not (next_serial w) (terms w.past).injected e, c)
move_sent w h (deliver kept cause) may c = judged_sent (judging_step (w.layer kept.sent.to) kept.sent.generation kept.sent.bytes).0 cause kept.serial w.past c
move_sent w h (lose s) may c = c
move_sent w h (expire node peer label) may c = expire_sent w node peer label.number (expiring_step (w.layer node) (id_for w node peer) label) c
move_sent w h (disown node peer label) may c = c
move_sent w h (reset line physical) may c = c
move_sent w h (see node) may c = c
move_sent w h (start line event) may c = c
move_sent w h (tell note) may c = plain_sent note w.past may c

pub sent_always : Always SentLaw
sent_always [] may = tt
sent_always (move ∷ moves) may = move_sent (after moves) (all_stand moves may.1) move may.0 (sent_always moves may.1)
