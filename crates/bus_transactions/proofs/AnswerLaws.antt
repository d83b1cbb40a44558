-- What is judged is answered next, and a response that comes for a label that waits answers what waits there.
use Rattle.std.specs.Prelude.{◌≡◌, ℕ, Bool, true, false, cond, List, [], ◌∷◌, Option, Some, None, Result, Ok, Err, refl}
use Rattle.std.proofs.Common.{sym, ◌∙◌, ap, subst}
use Rattle.sbp_base.specs.Update.{upd}
use Rattle.label_table.specs.declared.judgement.Asked.{Asked}
use Rattle.label_table.specs.declared.reply.Stale.{Stale}
use Rattle.label_table.specs.Bodies.{Body}
use Rattle.label_table.specs.Layer.{Finding, of_generation, of_grammar, of_label, of_response, of_again, of_request, unlabelled, asking_step, answering_step, expiring_step, judging_step}
use Rattle.packet_store.specs.Kept.{found}
use Rattle.sbp_journal.specs.Run.{Moment, said}
use Rattle.sbp_journal.specs.Transactions.{Kind, request, response, part_of, Transaction, Sending, between}
use Rattle.sbp_journal.specs.Wire.{Terms, terms}
use Rattle.sbp_journal.specs.declared.cause.Cause.{Cause}
use Rattle.sbp_journal.specs.declared.note.Note.{Note}
use Rattle.sbp_journal.specs.declared.note.Note.TheVariants as notes
use Rattle.bus_transactions.specs.Wire.{Node, Wire, as_sending, id_for, next_serial, decided, first_note}
use Rattle.bus_transactions.specs.Moves.{Move, ask, answer, inject, deliver, lose, expire, disown, reset, see, start, tell, asking, answering, expiring, moved, after}
use Rattle.bus_transactions.specs.May.{May, MayAll, MayAsk, MayAnswer, Always, is_plain}
use Rattle.bus_transactions.specs.Answers.{IsSentFor, NoneOwed, AreAnswered, WaitingLaw, AnswerLaw}
use Rattle.bus_transactions.proofs.Steps.{AskedAs, asks}
use Rattle.bus_transactions.proofs.Facts.{nat_same, some_same, not_true}
use Rattle.bus_transactions.proofs.Follows.{found_kept}
use Rattle.bus_transactions.proofs.PacketLaws.{fair_is}
use Rattle.bus_transactions.proofs.Stands.{Stands}
use Rattle.bus_transactions.proofs.MoveAsk.{asked_bytes}
use Rattle.bus_transactions.proofs.MoveAnswer.{answered_owed}
use Rattle.bus_transactions.proofs.MoveOthers.{settled}
use Rattle.bus_transactions.proofs.All.{all_stand}

-- where nothing is to be answered, nothing is owed
none_owed : (w : Wire) → Stands w → w.due ≡ None → NoneOwed (terms w.past)
none_owed w h e = (settled w h e).due_is

plain_answered : (note : Note) (past : List Moment) → is_plain note ≡ true → AreAnswered past → AreAnswered (said note ∷ past)
unfolding is_plain
plain_answered (notes.Sent s generation from to bytes) past e c = cc
plain_answered (notes.Injected s) past e c = cc
plain_answered (notes.Got s) past e c = cc
plain_answered (notes.Ignored s cause) past e c = cc
plain_answered (notes.Lost s) past e c = cc
plain_answered (notes.TimedOut s) past e c = cc
plain_answered (notes.Reset generation) past e c = cc
plain_answered (notes.Seen node generation) past e c = cc
plain_answered _ past e c = c

decided_answered : (cause : Option Cause) (s : ℕ) (past : List Moment) → NoneOwed (terms past) → AreAnswered past → AreAnswered (said (decided cause s) ∷ past)
decided_answered None s past n c = (n, c)
decided_answered (Some cause) s past n c = (n, c)

judged_answered : (finding : Finding (Unit {0})) (cause : Option Cause) (s : ℕ) (past : List Moment) → NoneOwed (terms past) → AreAnswered past → AreAnswered (said (first_note finding cause s) ∷ past)
judged_answered of_generation cause s past n c = (n, c)
judged_answered of_grammar cause s past n c = (n, c)
judged_answered of_label cause s past n c = (n, c)
judged_answered (of_response p label purpose) cause s past n c = (n, c)
judged_answered (of_again p rcode) cause s past n c = (n, c)
judged_answered (of_request p) cause s past n c = decided_answered cause s past n c

ask_answered : (w : Wire) (h : Stands w) (i j : ℕ) (body : Body) (may : MayAsk w i j body) (r : Option Asked × Node) → AskedAs (w.layer i) (id_for w i j) (unlabelled (w.layer i) (id_for w i j) body) r → AreAnswered w.past → AreAnswered (asking r i j w).past
ask_answered w h i j body may (None, new) a c = c
ask_answered w h i j body may (Some found, new) a c =
    let t : Terms = terms w.past in
    let b = asked_bytes (w.layer i).node (id_for w i j) found.label.number body found.bytes may.valid a.small a.labelled in
    let q : Sending = record { generation = (w.layer i).generation; from = i; to = j; bytes = found.bytes; injected = t.injected (next_serial w) } in
    (subst (λ o. IsSentFor o t q) (sym (none_owed w h may.free)) (λ l k e. absurd (apart (sym b.part ∙ e))), c)
  where
    apart : {l m : ℕ} {k n : Kind} → request l k ≡ response m n → ⊥
    apart e = cc

answer_answered : (w : Wire) → Stands w → (rcode : ℕ) (given : List ℕ) → MayAnswer w rcode given → AreAnswered w.past → AreAnswered (answering w.due rcode given w).past
unfolding answering_step
answer_answered w h rcode given may c =
    subst (λ o. AreAnswered (answering o rcode given w).past) (sym may.owed) (answered_owed w h may.due rcode given may.owed may.valid may.stated ((terms w.past).injected (next_serial w)), c)

inject_answered : (w : Wire) → Stands w → (i j : ℕ) (bytes : List ℕ) → w.due ≡ None → AreAnswered w.past → AreAnswered (moved (inject i j bytes) w).past
inject_answered w h i j bytes free c =
    let t : Terms = terms w.past in
    let s : ℕ = next_serial w in
    let t1 : Terms = record t { injected = upd t.injected s true } in
    let q : Sending = record { generation = (w.layer i).generation; from = i; to = j; bytes = bytes; injected = upd t.injected s true s } in
    (subst (λ o. IsSentFor o t1 q) (sym (none_owed w h free)) (λ l k e. ap (λ b. cond b true (t.injected s)) (nat_same s)), (none_owed w h free, c))

expire_answered : (w : Wire) → NoneOwed (terms w.past) → (node peer label : ℕ) (r : Result (Option (Unit {0})) Stale × Node) → AreAnswered w.past → AreAnswered (expiring r node peer label w).past
expire_answered w n node peer label (Ok purpose, layer) c = (n, c)
expire_answered w n node peer label (Err stale, layer) c = c

move_answered : (w : Wire) → Stands w → (move : Move) → May move w → AreAnswered w.past → AreAnswered (moved move w).past
move_answered w h (ask node peer body) may c =
    ask_answered w h node peer body may (asking_step (w.layer node) (id_for w node peer) body tt) (asks (w.layer node) (id_for w node peer) body (h.nodes node).places) c
move_answered w h (answer rcode given) may c = answer_answered w h rcode given may c
move_answered w h (inject node peer bytes) may c = inject_answered w h node peer bytes may.free c
move_answered w h (deliver kept cause) may c = judged_answered (judging_step (w.layer kept.sent.to) kept.sent.generation kept.sent.bytes).0 cause kept.serial w.past (none_owed w h may.free) c
move_answered w h (lose s) may c = (none_owed w h may.free, c)
move_answered w h (expire node peer label) may c = expire_answered w (none_owed w h may.free) node peer label.number (expiring_step (w.layer node) (id_for w node peer) label) c
move_answered w h (disown node peer label) may c = c
move_answered w h (reset line physical) may c = (none_owed w h may.free, (none_owed w h may.free, c))
move_answered w h (see node) may c = (none_owed w h may, c)
move_answered w h (start line event) may c = (none_owed w h may.free, c)
move_answered w h (tell note) may c = plain_answered note w.past may c

all_answered : (moves : List Move) → MayAll moves → AreAnswered (after moves).past
all_answered [] may = tt
all_answered (move ∷ moves) may = move_answered (after moves) (all_stand moves may.1) move may.0 (all_answered moves may.1)

-- ---- responses that come for a label that waits
kind_one : {l m : ℕ} {k n : Kind} → request l k ≡ request m n → k ≡ n
kind_one e = cc

reply_one : {l m : ℕ} {k n : Kind} → response l k ≡ response m n → k ≡ n
reply_one e = cc

waiting_on : (w : Wire) → Stands w → WaitingLaw w
waiting_on w h s r label kind waited kept e part from to held =
    let t : Terms = terms w.past in
    let k = found_kept h.follows s kept e in
    let q : Sending = as_sending kept.sent in
    let u : Transaction = between q q.to q.from label in
    let sent : t.sent s ≡ Some q = k.sent ∙ ap Some (ap as_sending (sym k.is)) in
    let honest = honest_by q.injected refl ((h.facts.honest s q sent).bold) from in
    let f = (h.facts.flies s q sent).replies label kind part honest k.live (fair_is t.injects u to) in
    let now = (h.facts.tie u).waiting waited r held in
    let answers : t.answers s ≡ Some r = f.0 ∙ ap Some (sym now.0) in
    let reply = h.facts.replied s r answers in
    let asking = h.facts.waiting_kind u waited r held in
    let same_reply = some_same (t.sent s) reply.reply q reply.reply_is sent in
    let same_asking = some_same (t.sent r) reply.asking asking.packet reply.asking_is asking.sent_is in
    let first : kind ≡ reply.kind = reply_one (sym part ∙ ap (λ (x : Sending). part_of x.bytes) (sym same_reply) ∙ reply.reply_part) in
    let second : reply.kind ≡ waited = kind_one (sym reply.asking_part ∙ ap (λ (x : Sending). part_of x.bytes) same_asking ∙ asking.part) in
    record { answers = answers; kind_is = first ∙ second }
  where
    honest_by : (b : Bool) → kept.sent.injected ≡ b → (kept.sent.injected ≡ true → (terms w.past).injects kept.sent.from ≡ true) → (terms w.past).injects kept.sent.from ≡ false → kept.sent.injected ≡ false
    honest_by false i bold n = i
    honest_by true i bold n = absurd (not_true n (bold i))

pub answers_always : Always AnswerLaw
answers_always moves may = record { answered = all_answered moves may; waiting = waiting_on (after moves) (all_stand moves may) }
