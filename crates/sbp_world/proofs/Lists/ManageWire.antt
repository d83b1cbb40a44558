-- What the wire knows at each moment: as a packet is sent, as it is got, as a transaction times out and as a line begins.
use Rattle.sbp_world.proofs.Words.Std.{◌≡◌, ◌∙◌, refl, sym, ap, subst, ℕ, ◌<◌, true, List, [], ◌∷◌, Option, Some, None, Result, Ok, Err}
use Rattle.sbp_world.proofs.Words.Wire.{LabelParts, Asked, Stale, ReplyKind, Finding, answering_step, asking_step, expiring_step, judging_step, of_again, of_generation, of_grammar, of_label, of_request, of_response, state_for, Moment, asked, said, Kind, Sending, Transaction, between, Held, Owed, Terms, asked_in, free, rests, terms, waits, Cause, Note, awaits, shape, shape_of, Due, Node, Wire, first_note, id_for, next_serial, transaction, Move, after, answer, answering, ask, asking, deliver, disown, expire, expiring, inject, lose, moved, reset, see, start, tell, May, MayAll, is_plain, Reached}
use Rattle.sbp_world.proofs.Words.Laws.{EachMoment}
use Rattle.sbp_journal.specs.declared.note.Note.TheVariants as notes
use Rattle.bus_transactions.proofs.Facts.{Facts, fair, request_asked}
use Rattle.bus_transactions.proofs.Follows.{found_kept, is_live}
use Rattle.bus_transactions.proofs.MoveOthers.{settled}
use Rattle.bus_transactions.proofs.ServedFacts.{Served}
use Rattle.bus_transactions.proofs.Stands.{DueIs, IsDue, Stands}
use Rattle.bus_transactions.proofs.Steps.{ExpiredAs, Expires, expires}
use Rattle.bus_transactions.proofs.All.{all_stand}
use Rattle.sbp_world.proofs.Lists.ManageTerms.{none_is, same_some}

pub record IsSending (past : List Moment) (generation from : ℕ) : Type 0 where
  pub now : generation ≡ (terms past).generation from
  -- the request that it answers is the present one of its transaction
  pub present : (owed : Owed) (v : Transaction) → (terms past).owes ≡ Some owed → asked_in ((terms past).sent owed.serial) ≡ Some v → fair (terms past).injects v ≡ true → owed.serial ≡ (terms past).current v
  pub unjudged : (s : ℕ) → (terms past).count < s → (terms past).news s ≡ 0

pub record IsGetting (past : List Moment) (serial : ℕ) : Type 0 where
  pub facts : Facts (terms past)
  pub later : Facts (terms (said (notes.Got serial) ∷ past))
  pub codes : Served (terms past) None
  pub packet : Sending
  pub sent : (terms past).sent serial ≡ Some packet
  pub live : is_live ((terms past).flight serial) ≡ true

pub record IsLate (past : List Moment) (serial : ℕ) : Type 0 where
  pub packet : Sending
  pub sent : (terms past).sent serial ≡ Some packet

abbrev pub WireAt : Moment → List Moment → Type 0
WireAt (asked line event) past = Facts (terms past)
WireAt (said (notes.Sent serial generation from to bytes)) past = IsSending past generation from
WireAt (said (notes.Got serial)) past = IsGetting past serial
WireAt (said (notes.TimedOut serial)) past = IsLate past serial
WireAt (said (notes.Seen node generation)) past = Facts (terms past)
WireAt moment past = Unit {0}

abbrev pub WireMoments : List Moment → Type 0
WireMoments past = EachMoment WireAt past

-- ---- by the moves of the wire

plain : (note : Note) (past : List Moment) → is_plain note ≡ true → WireMoments past → WireMoments (said note ∷ past)
unfolding is_plain
plain (notes.Sent s generation from to bytes) past e h = cc
plain (notes.Got s) past e h = cc
plain (notes.TimedOut s) past e h = cc
plain (notes.Seen node generation) past e h = cc
plain _ past e h = (tt, h)

pub none_due : (w : Wire) → Stands w → w.due ≡ None → (terms w.past).owes ≡ None
none_due w s e = (settled w s e).due_is

quiet_sending : (w : Wire) → Stands w → w.due ≡ None → (node : ℕ) → IsSending w.past (w.layer node).generation node
quiet_sending w s e node = record {
  now = (s.nodes node).generation;
  present = λ owed v f g x. none_is owed (sym (none_due w s e) ∙ f);
  unjudged = λ n l. (s.facts.unsent n l).no_news;
}

asks : (w : Wire) → Stands w → w.due ≡ None → (node peer : ℕ) (r : Option Asked × Node) → WireMoments w.past → WireMoments (asking r node peer w).past
asks w s e node peer (None, new) h = h
asks w s e node peer (Some found, new) h = (quiet_sending w s e node, h)

injects : (w : Wire) → Stands w → w.due ≡ None → (node serial : ℕ) → IsSending (said (notes.Injected serial) ∷ w.past) (w.layer node).generation node
injects w s e node serial = let q = quiet_sending w s e node in record { now = q.now; present = λ owed v f g x. none_is owed (sym (none_due w s e) ∙ f); unjudged = q.unjudged }

due_sending : (w : Wire) → Stands w → (due : Due) → w.due ≡ Some due → IsSending w.past (w.layer due.request.to).generation due.request.to
due_sending w s due e = record {
  now = (s.nodes due.request.to).generation;
  present = λ owed v f g x.
      let d : IsDue (terms w.past) w.layer due = subst (DueIs (terms w.past) w.layer) e s.due_is in
      let same : d.owed ≡ owed = same_some d.owed owed (sym d.owes_is ∙ f) in
      let serial : owed.serial ≡ due.serial = ap (λ (o : Owed). o.serial) (sym same) ∙ d.serial_is in
      let own = request_asked due.request d.label d.kind d.part in
      let v_is : between due.request due.request.from due.request.to d.label ≡ v = same_some _ v (sym own ∙ ap asked_in (sym (ap (terms w.past).sent serial ∙ d.sent_is)) ∙ g) in
      serial ∙ d.own (ap (fair (terms w.past).injects) v_is ∙ x) ∙ ap (terms w.past).current v_is;
  unjudged = λ n l. (s.facts.unsent n l).no_news;
}

answers : (w : Wire) → Stands w → (due : Option Due) → w.due ≡ due → (rcode : ℕ) (given : List ℕ) → WireMoments w.past → WireMoments (answering due rcode given w).past
unfolding answering_step
answers w s None e rcode given h = h
answers w s (Some due) e rcode given h = (due_sending w s due e, h)

judges : (finding : Finding (Unit {0})) (cause : Option Cause) (serial : ℕ) (past : List Moment) → (Facts (terms (said (notes.Got serial) ∷ past)) → IsGetting past serial) → Facts (terms (said (first_note finding cause serial) ∷ past)) → WireMoments past → WireMoments (said (first_note finding cause serial) ∷ past)
judges of_generation cause serial past g f h = (tt, h)
judges of_grammar cause serial past g f h = (tt, h)
judges of_label cause serial past g f h = (tt, h)
judges (of_response p label purpose) cause serial past g f h = (g f, h)
judges (of_again p rcode) cause serial past g f h = (tt, h)
judges (of_request p) None serial past g f h = (g f, h)
judges (of_request p) (Some cause) serial past g f h = (tt, h)

record Waits (held : Held) : Type 0 where
  kind : Kind
  serial : ℕ
  is : held ≡ waits kind serial

shape_waits : (held : Held) (kind : ReplyKind) → awaits kind ≡ shape_of held → Waits held
shape_waits free kind e = cc
shape_waits rests kind e = cc
shape_waits (waits k s) kind e = record { kind = k; serial = s; is = refl }

module _ (w : Wire) (s : Stands w) (i j : ℕ) (label : LabelParts) (e : w.due ≡ None) where
  late : (new : Node) → Expires (w.layer i) new (id_for w i j) label → IsLate w.past ((terms w.past).current (transaction (w.layer i).generation i j label.number))
  late new x =
      let o = settled w s e in
      let t : Terms = terms w.past in
      let node = o.nodes i in
      let u : Transaction = transaction (t.generation i) i j label.number in
      let peer_is : id_for w i j ≡ t.ids (t.generation i) j = ap (λ g. t.ids g j) node.generation in
      let waiting : Waits (t.held u) = shape_waits (t.held u) x.kind
      (sym (ap shape x.frees.was) ∙ ap (λ p. shape (state_for (w.layer i).peers p label.number)) peer_is ∙ node.states_are j label.number) in
      let now = (o.facts.tie u).waiting waiting.kind waiting.serial waiting.is in
      let a = o.facts.asked u (subst (λ n. 0 < n) now.0 now.1) in
      record { packet = a.packet; sent = ap (λ g. t.sent (t.current (transaction g i j label.number))) node.generation ∙ a.sent_is }

  lapses : (r : Result (Option (Unit {0})) Stale × Node) → ExpiredAs (w.layer i) (id_for w i j) label r → WireMoments w.past → WireMoments (expiring r i j label.number w).past
  lapses (Ok purpose, layer) x h = (late layer x, h)
  lapses (Err stale, layer) x h = h

getting : (w : Wire) → Stands w → w.due ≡ None → (serial : ℕ) (q : Sending) → (terms w.past).sent serial ≡ Some q → is_live ((terms w.past).flight serial) ≡ true → Facts (terms (said (notes.Got serial) ∷ w.past)) → IsGetting w.past serial
getting w s e serial q sent live f = record { facts = s.facts; later = f; codes = (settled w s e).codes; packet = q; sent = sent; live = live }

move : (w : Wire) → Stands w → (one : Move) → May one w → Stands (moved one w) → WireMoments w.past → WireMoments (moved one w).past
move w s (ask node peer body) may n h = asks w s may.free node peer (asking_step (w.layer node) (id_for w node peer) body tt) h
move w s (answer rcode given) may n h = answers w s w.due refl rcode given h
move w s (inject node peer bytes) may n h = (injects w s may.free node (next_serial w), (tt, h))
move w s (deliver kept cause) may n h =
    let k = found_kept s.follows kept.serial kept may.kept_is in
    judges (judging_step (w.layer kept.sent.to) kept.sent.generation kept.sent.bytes).0 cause kept.serial w.past (getting w s may.free kept.serial k.packet k.sent k.live) n.facts h
move w s (lose serial) may n h = (tt, h)
move w s (expire node peer label) may n h = lapses w s node peer label may.free (expiring_step (w.layer node) (id_for w node peer) label) (expires (w.layer node) (id_for w node peer) label (s.nodes node).places) h
move w s (disown node peer label) may n h = h
move w s (reset line physical) may n h = (tt, (s.facts, h))
move w s (see node) may n h = (s.facts, h)
move w s (start line event) may n h = (s.facts, h)
move w s (tell note) may n h = plain note w.past may h

all : (moves : List Move) → MayAll moves → WireMoments (after moves).past
all [] may = tt
all (one ∷ moves) may = move (after moves) (all_stand moves may.1) one may.0 (all_stand (one ∷ moves) may) (all moves may.1)

pub wire_moments : (w : Wire) → Reached w → WireMoments w.past
wire_moments w r = subst (λ (x : Wire). WireMoments x.past) (sym r.is) (all r.moves r.may)
