-- What holds of transactions and packets before each note by which a packet is judged; and behind it the request that is to be answered is the present one of its transaction, where its requester injected no packets.
use Rattle.sbp_world.proofs.Words.Std.{◌≡◌, ◌∙◌, sym, ap, subst, ℕ, true, List, [], ◌∷◌, Option, Some, None, Result, Ok, Err, false≢true, same_Some}
use Rattle.sbp_world.proofs.Words.Wire.{Asked, Due, Finding, Moment, Move, Note, Owed, Sending, Stale, Terms, Transaction, Wire, May, MayAll, after, answer, answered, answering, answering_step, asked_by, asking, asking_step, ask, between, Cause, decided, deliver, disown, expire, expiring, expiring_step, first_note, id_for, inject, is_plain, judging_step, lose, moved, Node, of_again, of_generation, of_grammar, of_label, of_request, of_response, reset, said, see, start, tell, terms}
use Rattle.sbp_world.proofs.Words.Laws.{EachMoment}
use Rattle.sbp_world.proofs.Words.World.{Stands, WorldState}
use Rattle.bus_transactions.proofs.All.{all_stand}
use Rattle.bus_transactions.proofs.Facts.{Facts, fair, request_asked}
use Rattle.bus_transactions.proofs.Stands.{DueIs, Stands as Holds}
use Rattle.sbp_journal.specs.declared.note.Note.TheVariants as notes
use Rattle.sbp_world.proofs.Agents.Management.Still.{hist}
use Rattle.sbp_world.proofs.Common.{none_is}

-- the request that is to be answered is the present one of its transaction
abbrev pub OwesPresent : Terms → Type 0
OwesPresent t = (o : Owed) → t.owes ≡ Some o → (q : Sending) → t.sent o.serial ≡ Some q → (u : Transaction) → asked_by q ≡ Some u → fair t.injects u ≡ true → o.serial ≡ t.current u

pub record IsJudgedAt (before behind : Terms) : Type 0 where
  pub facts : Facts before
  pub present : OwesPresent behind

abbrev pub JudgedAt : Moment → List Moment → Type 0
JudgedAt (said (notes.Got serial)) past = IsJudgedAt (terms past) (terms (said (notes.Got serial) ∷ past))
JudgedAt (said (notes.Ignored serial cause)) past = IsJudgedAt (terms past) (terms (said (notes.Ignored serial cause) ∷ past))
JudgedAt moment past = Unit {0}

abbrev pub AllJudged : List Moment → Type 0
AllJudged past = EachMoment JudgedAt past

present_by : (t : Terms) (layer : ℕ → Node) (due : Option Due) → DueIs t layer due → OwesPresent t
present_by t layer None free = λ o e. none_is o (sym free ∙ e)
present_by t layer (Some d) x = λ o e q sent u asks honest.
    let same : x.owed ≡ o = same_Some x.owed o (sym x.owes_is ∙ e) in
    let serial : o.serial ≡ d.serial = ap (λ (y : Owed). y.serial) (sym same) ∙ x.serial_is in
    let packet : d.request ≡ q = same_Some d.request q (sym x.sent_is ∙ (ap t.sent (sym serial) ∙ sent)) in
    let of : between d.request d.request.from d.request.to x.label ≡ u = same_Some _ u (sym (request_asked d.request x.label x.kind x.part) ∙ (ap (λ y. asked_by y) packet ∙ asks)) in
    serial ∙ (x.own (ap (λ y. fair t.injects y) of ∙ honest) ∙ ap t.current of)

present_of : (w : Wire) → Holds w → OwesPresent (terms w.past)
present_of w h = present_by (terms w.past) w.layer w.due h.due_is

-- ---- a move
decided_at : (cause : Option Cause) (serial : ℕ) (past : List Moment) → IsJudgedAt (terms past) (terms (said (decided cause serial) ∷ past)) → AllJudged past → AllJudged (said (decided cause serial) ∷ past)
decided_at None serial past f h = (f, h)
decided_at (Some cause) serial past f h = (f, h)

first_at : (finding : Finding (Unit {0})) (cause : Option Cause) (serial : ℕ) (past : List Moment) → IsJudgedAt (terms past) (terms (said (first_note finding cause serial) ∷ past)) → AllJudged past → AllJudged (said (first_note finding cause serial) ∷ past)
first_at of_generation cause serial past f h = (f, h)
first_at of_grammar cause serial past f h = (f, h)
first_at of_label cause serial past f h = (f, h)
first_at (of_response p label purpose) cause serial past f h = (f, h)
first_at (of_again p rcode) cause serial past f h = (f, h)
first_at (of_request p) cause serial past f h = decided_at cause serial past f h

plain_at : (note : Note) (past : List Moment) → is_plain note ≡ true → AllJudged past → AllJudged (said note ∷ past)
unfolding is_plain
plain_at (notes.Got serial) past e h = absurd (false≢true e)
plain_at (notes.Ignored serial cause) past e h = absurd (false≢true e)
plain_at note past e h = (tt, h)

ask_at : (r : Option Asked × Node) (node peer : ℕ) (w : Wire) → AllJudged w.past → AllJudged (asking r node peer w).past
ask_at (Some found, layer) node peer w h = (tt, h)
ask_at (None, layer) node peer w h = h

answered_at_once : (r : List ℕ × Node) (due : Due) (w : Wire) → AllJudged w.past → AllJudged (answered r due w).past
answered_at_once (bytes, layer) due w h = (tt, h)

answer_at : (due : Option Due) (rcode : ℕ) (given : List ℕ) (w : Wire) → AllJudged w.past → AllJudged (answering due rcode given w).past
answer_at None rcode given w h = h
answer_at (Some due) rcode given w h = answered_at_once (answering_step (w.layer due.request.to) due.packet due.request.bytes rcode given) due w h

expire_at : (r : Result (Option (Unit {0})) Stale × Node) (node peer label : ℕ) (w : Wire) → AllJudged w.past → AllJudged (expiring r node peer label w).past
expire_at (Ok purpose, layer) node peer label w h = (tt, h)
expire_at (Err stale, layer) node peer label w h = h

move_at : (w : Wire) (move : Move) → May move w → Holds w → Holds (moved move w) → AllJudged w.past → AllJudged (moved move w).past
move_at w (ask node peer body) may f g h = ask_at (asking_step (w.layer node) (id_for w node peer) body tt) node peer w h
move_at w (answer rcode given) may f g h = answer_at w.due rcode given w h
move_at w (inject node peer bytes) may f g h = (tt, (tt, h))
move_at w (deliver kept cause) may f g h =
    first_at (judging_step (w.layer kept.sent.to) kept.sent.generation kept.sent.bytes).0 cause kept.serial w.past (record { facts = f.facts; present = present_of (moved (deliver kept cause) w) g }) h
move_at w (lose serial) may f g h = (tt, h)
move_at w (expire node peer label) may f g h = expire_at (expiring_step (w.layer node) (id_for w node peer) label) node peer label.number w h
move_at w (disown node peer label) may f g h = h
move_at w (reset line physical) may f g h = (tt, (tt, h))
move_at w (see node) may f g h = (tt, h)
move_at w (start line event) may f g h = (tt, h)
move_at w (tell note) may f g h = plain_at note w.past may h

all_at : (moves : List Move) → MayAll moves → AllJudged (after moves).past
all_at [] may = tt
all_at (move ∷ moves) may = move_at (after moves) move may.0 (all_stand moves may.1) (all_stand (move ∷ moves) may) (all_at moves may.1)

-- ---- a history
pub judged_there : (past : List Moment) (w : WorldState) → Stands past w → AllJudged (hist past w)
judged_there past w h = subst AllJudged h.is.past_is (subst (λ (x : Wire). AllJudged x.past) (sym h.reached.is) (all_at h.reached.moves h.reached.may))
