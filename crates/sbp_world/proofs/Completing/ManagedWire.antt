-- What the wire knows as a packet is sent, and as one is ignored.
use Rattle.sbp_world.proofs.Words.Std.{◌≡◌, ◌∙◌, refl, sym, ap, subst, ℕ, ◌<◌, true, List, [], ◌∷◌, Option, Some, None, Result, Ok, Err}
use Rattle.sbp_world.proofs.Words.Wire.{Asked, Cause, Due, Finding, LabelParts, Move, May, MayAll, Moment, Node, Note, Owed, Reached, Sending, Stale, Transaction, Wire, after, answer, answering, answering_step, ask, asked_in, asking, asking_step, between, deliver, disown, expire, expiring, expiring_step, first_note, id_for, inject, is_plain, judging_step, lose, moved, next_serial, of_again, of_generation, of_grammar, of_label, of_request, of_response, reset, said, see, start, tell, terms}
use Rattle.sbp_world.proofs.Words.Laws.{EachMoment}
use Rattle.sbp_journal.specs.declared.note.Note.TheVariants as notes
use Rattle.bus_transactions.proofs.All.{all_stand}
use Rattle.bus_transactions.proofs.Facts.{Facts, fair, request_asked}
use Rattle.bus_transactions.proofs.Follows.{found_kept, is_live}
use Rattle.bus_transactions.proofs.Stands.{DueIs, IsDue, Stands}
use Rattle.sbp_world.proofs.Lists.ManageTerms.{none_is, same_some}
use Rattle.sbp_world.proofs.Lists.ManageWire.{none_due}

pub record IsSending (past : List Moment) : Type 0 where
  -- the request that it answers is the present one of its transaction
  pub present : (owed : Owed) (v : Transaction) → (terms past).owes ≡ Some owed → asked_in ((terms past).sent owed.serial) ≡ Some v → fair (terms past).injects v ≡ true → owed.serial ≡ (terms past).current v
  pub unjudged : (s : ℕ) → (terms past).count < s → (terms past).judged s ≡ 0

pub record IsIgnoring (past : List Moment) (serial : ℕ) : Type 0 where
  pub facts : Facts (terms past)
  pub packet : Sending
  pub sent : (terms past).sent serial ≡ Some packet
  pub live : is_live ((terms past).flight serial) ≡ true

abbrev pub KnownAt : Moment → List Moment → Type 0
KnownAt (said (notes.Sent serial generation from to bytes)) past = IsSending past
KnownAt (said (notes.Ignored serial cause)) past = IsIgnoring past serial
KnownAt moment past = Unit {0}

abbrev pub KnownMoments : List Moment → Type 0
KnownMoments past = EachMoment KnownAt past

plain : (note : Note) (past : List Moment) → is_plain note ≡ true → KnownMoments past → KnownMoments (said note ∷ past)
unfolding is_plain
plain (notes.Sent s generation from to bytes) past e h = cc
plain (notes.Ignored s cause) past e h = cc
plain _ past e h = (tt, h)

quiet_sending : (w : Wire) → Stands w → w.due ≡ None → IsSending w.past
quiet_sending w s e = record {
  present = λ owed v f g x. none_is owed (sym (none_due w s e) ∙ f);
  unjudged = λ n l. (s.facts.unsent n l).unjudged;
}

asks : (w : Wire) → Stands w → w.due ≡ None → (node peer : ℕ) (r : Option Asked × Node) → KnownMoments w.past → KnownMoments (asking r node peer w).past
asks w s e node peer (None, new) h = h
asks w s e node peer (Some found, new) h = (quiet_sending w s e, h)

injects : (w : Wire) → Stands w → w.due ≡ None → (serial : ℕ) → IsSending (said (notes.Injected serial) ∷ w.past)
injects w s e serial = let q = quiet_sending w s e in record { present = λ owed v f g x. none_is owed (sym (none_due w s e) ∙ f); unjudged = q.unjudged }

due_sending : (w : Wire) → Stands w → (due : Due) → w.due ≡ Some due → IsSending w.past
due_sending w s due e = record {
  present = λ owed v f g x.
      let d : IsDue (terms w.past) w.layer due = subst (DueIs (terms w.past) w.layer) e s.due_is in
      let same : d.owed ≡ owed = same_some d.owed owed (sym d.owes_is ∙ f) in
      let serial : owed.serial ≡ due.serial = ap (λ (o : Owed). o.serial) (sym same) ∙ d.serial_is in
      let own = request_asked due.request d.label d.kind d.part in
      let v_is : between due.request due.request.from due.request.to d.label ≡ v = same_some _ v (sym own ∙ ap asked_in (sym (ap (terms w.past).sent serial ∙ d.sent_is)) ∙ g) in
      serial ∙ d.own (ap (fair (terms w.past).injects) v_is ∙ x) ∙ ap (terms w.past).current v_is;
  unjudged = λ n l. (s.facts.unsent n l).unjudged;
}

answers : (w : Wire) → Stands w → (due : Option Due) → w.due ≡ due → (rcode : ℕ) (given : List ℕ) → KnownMoments w.past → KnownMoments (answering due rcode given w).past
unfolding answering_step
answers w s None e rcode given h = h
answers w s (Some due) e rcode given h = (due_sending w s due e, h)

judges : (finding : Finding (Unit {0})) (cause : Option Cause) (serial : ℕ) (past : List Moment) → IsIgnoring past serial → KnownMoments past → KnownMoments (said (first_note finding cause serial) ∷ past)
judges of_generation cause serial past f h = (f, h)
judges of_grammar cause serial past f h = (f, h)
judges of_label cause serial past f h = (f, h)
judges (of_response p label purpose) cause serial past f h = (tt, h)
judges (of_again p rcode) cause serial past f h = (f, h)
judges (of_request p) None serial past f h = (tt, h)
judges (of_request p) (Some cause) serial past f h = (f, h)

lapses : (w : Wire) (i j : ℕ) (label : LabelParts) (r : Result (Option (Unit {0})) Stale × Node) → KnownMoments w.past → KnownMoments (expiring r i j label.number w).past
lapses w i j label (Ok purpose, layer) h = (tt, h)
lapses w i j label (Err stale, layer) h = h

move : (w : Wire) → Stands w → (one : Move) → May one w → KnownMoments w.past → KnownMoments (moved one w).past
move w s (ask node peer body) may h = asks w s may.free node peer (asking_step (w.layer node) (id_for w node peer) body tt) h
move w s (answer rcode given) may h = answers w s w.due refl rcode given h
move w s (inject node peer bytes) may h = (injects w s may.free (next_serial w), (tt, h))
move w s (deliver kept cause) may h =
    let k = found_kept s.follows kept.serial kept may.kept_is in
    judges (judging_step (w.layer kept.sent.to) kept.sent.generation kept.sent.bytes).0 cause kept.serial w.past (record { facts = s.facts; packet = k.packet; sent = k.sent; live = k.live }) h
move w s (lose serial) may h = (tt, h)
move w s (expire node peer label) may h = lapses w node peer label (expiring_step (w.layer node) (id_for w node peer) label) h
move w s (disown node peer label) may h = h
move w s (reset line physical) may h = (tt, (tt, h))
move w s (see node) may h = (tt, h)
move w s (start line event) may h = (tt, h)
move w s (tell note) may h = plain note w.past may h

all : (moves : List Move) → MayAll moves → KnownMoments (after moves).past
all [] may = tt
all (one ∷ moves) may = move (after moves) (all_stand moves may.1) one may.0 (all moves may.1)

pub known_moments : (w : Wire) → Reached w → KnownMoments w.past
known_moments w r = subst (λ (x : Wire). KnownMoments x.past) (sym r.is) (all r.moves r.may)
