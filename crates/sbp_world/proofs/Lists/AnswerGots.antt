-- Each response that is got answers the request that its label waits for, of nodes that injected no packets.
use Rattle.sbp_world.proofs.Words.Std.{◌≡◌, ◌∙◌, refl, sym, ap, subst, ◌<◌, ℕ, Bool, true, false, cond, List, [], ◌∷◌, Option, Some, None, Result, Ok, Err}
use Rattle.sbp_world.proofs.Words.Wire.{May, MayAll, is_plain, Move, after, answer, answered, answering, ask, asking, deliver, disown, expire, expiring, inject, lose, moved, reset, see, start, tell, Due, Node, Wire, as_sending, decided, first_note, id_for, Asked, Stale, Finding, answering_step, asking_step, expiring_step, judging_step, of_again, of_generation, of_grammar, of_label, of_request, of_response, Kept, found, Moment, said, Kind, Part, Sending, Transaction, asked_as, asked_by, between, is_same_kind, part_of, request, response, Held, Terms, free, rests, terms, waits, Cause, Note}
use Rattle.sbp_world.proofs.Words.Laws.{answered_as, closed_by, EachMoment}
use Rattle.sbp_world.proofs.Words.World.{WorldState, Stands, AnswersAt}
use Rattle.sbp_world.proofs.Agents.Management.Still.{hist}
use Rattle.bus_transactions.proofs.All.{all_stand}
use Rattle.bus_transactions.proofs.AnswerLaws.{answers_always}
use Rattle.bus_transactions.proofs.Facts.{begun_asked, some_same}
use Rattle.bus_transactions.proofs.Follows.{found_kept}
use Rattle.bus_transactions.proofs.Stands.{Stands as WireStands}
use Rattle.sbp_journal.specs.Transactions.{no_packet}
use Rattle.sbp_journal.specs.declared.note.Note.TheVariants as notes
use Rattle.sbp_world.proofs.Lists.ManageTerms.{same_some}
use Rattle.sbp_world.proofs.Common.{none_is}

abbrev E : List Moment → Type 0
E past = EachMoment AnswersAt past

-- ---- a packet that is delivered

-- the request that a label waits for, where a response of that kind closes it
record IsWaited (held : Held) (serial : ℕ) : Type 0 where
  kind : Kind
  is : held ≡ waits kind serial

waited_if : (b : Bool) (kind : Kind) (own serial : ℕ) → cond b (Some own) None ≡ Some serial → IsWaited (waits kind own) serial
waited_if true kind own serial e = record { kind = kind; is = ap (waits kind) (same_some own serial e) }
waited_if false kind own serial e = none_is serial e

waited_by : (held : Held) (kind : Kind) (serial : ℕ) → closed_by held kind ≡ Some serial → IsWaited held serial
waited_by (waits own r) kind serial e = waited_if (is_same_kind own kind) own r serial e
waited_by free kind serial e = none_is serial e
waited_by rests kind serial e = none_is serial e

-- the nodes of the request of a transaction
record AreNodes (q : Sending) (u : Transaction) : Type 0 where
  from : q.from ≡ u.requester
  to : q.to ≡ u.responder

nodes_of : (part : Part) (q : Sending) (u : Transaction) → asked_as part q ≡ Some u → AreNodes q u
nodes_of (request label kind) q u e =
    let same : between q q.from q.to label ≡ u = same_some (between q q.from q.to label) u e in
    record { from = ap (λ (t : Transaction). t.requester) same; to = ap (λ (t : Transaction). t.responder) same }
nodes_of (response label kind) q u e = absurd (let no : None ≡ Some u = e in cc)
nodes_of no_packet q u e = absurd (let no : None ≡ Some u = e in cc)

asked_nodes : (q : Sending) (u : Transaction) → asked_by q ≡ Some u → AreNodes q u
unfolding asked_by
asked_nodes q u e = nodes_of (part_of q.bytes) q u e

module _ (moves : List Move) (may : MayAll moves) (kept : Kept) (is : found kept.serial (after moves).store.kept ≡ Some kept) where
  abbrev w : Wire
  w = after moves

  abbrev t : Terms
  t = terms w.past

  stands : WireStands w
  stands = all_stand moves may

  abbrev q : Sending
  q = as_sending kept.sent

  sent : t.sent kept.serial ≡ Some q
  sent = let k = found_kept stands.follows kept.serial kept is in k.sent ∙ ap Some (ap as_sending (sym k.is))

  module _ (serial : ℕ) (own : Sending) (own_is : t.sent serial ≡ Some own) (from : t.injects own.from ≡ false) (to : t.injects own.to ≡ false) where
    held_answers : (label : ℕ) (kind : Kind) → part_of q.bytes ≡ response label kind → IsWaited (t.held (between q q.to q.from label)) serial → t.answers kept.serial ≡ Some serial
    held_answers label kind part x =
        let u : Transaction = between q q.to q.from label in
        let now = (stands.facts.tie u).waiting x.kind serial x.is in
        let a = stands.facts.asked u (subst (λ n. 0 < n) now.0 now.1) in
        let same : a.packet ≡ own = some_same (t.sent serial) a.packet own (ap t.sent now.0 ∙ a.sent_is) own_is in
        let nodes = asked_nodes a.packet u (begun_asked a.packet u a.begun).1 in
        ((answers_always moves may).waiting kept.serial serial label kind x.kind kept is part
        (ap t.injects (sym nodes.to ∙ ap (λ (y : Sending). y.to) same) ∙ to)
        (ap t.injects (sym nodes.from ∙ ap (λ (y : Sending). y.from) same) ∙ from)
        x.is).answers

    part_answers : (part : Part) → part_of q.bytes ≡ part → answered_as part t q ≡ Some serial → t.answers kept.serial ≡ Some serial
    part_answers (response label kind) e c = held_answers label kind e (waited_by (t.held (between q q.to q.from label)) kind serial c)
    part_answers (request label kind) e c = none_is serial c
    part_answers no_packet e c = none_is serial c

  got_answers : AnswersAt (said (notes.Got kept.serial)) w.past
  got_answers = λ serial closed own own_is from to.
      part_answers serial own own_is from to (part_of q.bytes) refl
      (ap (λ (x : Option Sending). answered_of x) (sym sent) ∙ closed)
    where
      answered_of : Option Sending → Option ℕ
      answered_of None = None
      answered_of (Some sending) = answered_as (part_of sending.bytes) t sending

decided_each : (cause : Option Cause) (s : ℕ) (past : List Moment) → AnswersAt (said (notes.Got s)) past → E past → E (said (decided cause s) ∷ past)
decided_each None s past x e = (x, e)
decided_each (Some cause) s past x e = (tt, e)

judged_each : (finding : Finding (Unit {0})) (cause : Option Cause) (s : ℕ) (past : List Moment) → AnswersAt (said (notes.Got s)) past → E past → E (said (first_note finding cause s) ∷ past)
judged_each of_generation cause s past x e = (tt, e)
judged_each of_grammar cause s past x e = (tt, e)
judged_each of_label cause s past x e = (tt, e)
judged_each (of_response p label purpose) cause s past x e = (x, e)
judged_each (of_again p rcode) cause s past x e = (tt, e)
judged_each (of_request p) cause s past x e = decided_each cause s past x e

-- ---- other moves

plain_each : (note : Note) (past : List Moment) → is_plain note ≡ true → E past → E (said note ∷ past)
unfolding is_plain
plain_each (notes.Got s) past p e = absurd (let no : false ≡ true = p in cc)
plain_each note past p e = (tt, e)

ask_each : (r : Option Asked × Node) (node peer : ℕ) (w : Wire) → E w.past → E (asking r node peer w).past
ask_each (None, layer) node peer w e = e
ask_each (Some found, layer) node peer w e = (tt, e)

answered_each : (r : List ℕ × Node) (due : Due) (w : Wire) → E w.past → E (answered r due w).past
answered_each (bytes, layer) due w e = (tt, e)

answer_each : (due : Option Due) (rcode : ℕ) (given : List ℕ) (w : Wire) → E w.past → E (answering due rcode given w).past
answer_each None rcode given w e = e
answer_each (Some due) rcode given w e = answered_each (answering_step (w.layer due.request.to) due.packet due.request.bytes rcode given) due w e

expire_each : (r : Result (Option (Unit {0})) Stale × Node) (node peer label : ℕ) (w : Wire) → E w.past → E (expiring r node peer label w).past
expire_each (Ok purpose, layer) node peer label w e = (tt, e)
expire_each (Err stale, layer) node peer label w e = e

move_each : (moves : List Move) → MayAll moves → (move : Move) → May move (after moves) → E (after moves).past → E (moved move (after moves)).past
move_each moves all (ask node peer body) may e = ask_each (asking_step ((after moves).layer node) (id_for (after moves) node peer) body tt) node peer (after moves) e
move_each moves all (answer rcode given) may e = answer_each (after moves).due rcode given (after moves) e
move_each moves all (inject node peer bytes) may e = (tt, (tt, e))
move_each moves all (deliver kept cause) may e =
    judged_each (judging_step ((after moves).layer kept.sent.to) kept.sent.generation kept.sent.bytes).0 cause kept.serial (after moves).past (got_answers moves all kept may.kept_is) e
move_each moves all (lose s) may e = (tt, e)
move_each moves all (expire node peer label) may e =
    expire_each (expiring_step ((after moves).layer node) (id_for (after moves) node peer) label) node peer label.number (after moves) e
move_each moves all (disown node peer label) may e = e
move_each moves all (reset line physical) may e = (tt, (tt, e))
move_each moves all (see node) may e = (tt, e)
move_each moves all (start line event) may e = (tt, e)
move_each moves all (tell note) may e = plain_each note (after moves).past may e

all_each : (moves : List Move) → MayAll moves → E (after moves).past
all_each [] may = tt
all_each (move ∷ moves) may = move_each moves may.1 move may.0 (all_each moves may.1)

-- ---- at a place of a run
pub answers_at : {past : List Moment} (w : WorldState) → Stands past w → EachMoment AnswersAt (hist past w)
answers_at w stands = subst E stands.is.past_is (subst (λ (x : Wire). E x.past) (sym stands.reached.is) (all_each stands.reached.moves stands.reached.may))
