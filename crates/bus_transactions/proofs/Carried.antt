-- Every list of moves that loses nothing carries the requests under way: the steps of CarriedSteps, move by move.
use Rattle.std.specs.Prelude.{◌≡◌, ℕ, ◌+◌, true, false, List, [], ◌∷◌, Option, Some, None, Result, Ok, Err, refl}
use Rattle.std.proofs.Common.{arith, sym, ◌∙◌, ap, subst}
use Rattle.label_table.specs.declared.judgement.Asked.{Asked}
use Rattle.label_table.specs.declared.reply.Stale.{Stale}
use Rattle.label_table.specs.Bodies.{Body}
use Rattle.label_table.specs.Layer.{Finding, of_generation, of_grammar, of_label, of_response, of_again, of_request, unlabelled, asking_step, answering_step, expiring_step, judging_step}
use Rattle.sbp_journal.specs.Run.{Moment, said}
use Rattle.sbp_journal.specs.Transactions.{Kind, Transaction, Sending, between, begun_by}
use Rattle.sbp_journal.specs.Wire.{Terms, terms, free, waits, rests, kind_in}
use Rattle.sbp_journal.specs.declared.cause.Cause.{Cause}
use Rattle.sbp_journal.specs.declared.cause.Cause.TheVariants as causes
use Rattle.sbp_journal.specs.declared.event.Event.{Event}
use Rattle.sbp_journal.specs.declared.note.Note.{Note}
use Rattle.sbp_journal.specs.declared.note.Note.TheVariants as notes
use Rattle.bus_transactions.specs.Wire.{Node, Wire, decided, first_note, id_for, next_serial, outgoing}
use Rattle.bus_transactions.specs.Carried.{IsOfOther, AreKept, UnderWayLaw, QuietLaw, NoRestLaw}
use Rattle.bus_transactions.specs.Judging.{AreJudged}
use Rattle.bus_transactions.specs.May.{May, MayAll, MayAsk, MayAnswer, MayStart, Always, is_plain}
use Rattle.bus_transactions.specs.Moves.{Move, ask, answer, inject, deliver, lose, expire, disown, reset, see, start, tell, asking, answering, expiring, moved, after}
use Rattle.bus_transactions.proofs.Steps.{AskedAs, asks}
use Rattle.bus_transactions.proofs.Facts.{Facts, request_asked, asked_begun}
use Rattle.bus_transactions.proofs.Follows.{last_is}
use Rattle.bus_transactions.proofs.Stands.{Stands, begun_terms}
use Rattle.bus_transactions.proofs.MoveAsk.{asked_bytes}
use Rattle.bus_transactions.proofs.MoveAnswer.{due, terms_are, pays_owed}
use Rattle.bus_transactions.proofs.MoveOthers.{settled, opens, plain_terms}
use Rattle.bus_transactions.proofs.JudgementLaws.{judged_always}
use Rattle.bus_transactions.proofs.All.{all_stand}
use Rattle.bus_transactions.proofs.CarriedSteps.{Carries, none_waits, carries_begun, carries_paid, carries_got, carries_ignored, carries_same}

-- a history that loses nothing carries
abbrev Keeps : List Moment → Type 0
Keeps past = AreKept past → Carries (terms past)

-- ---- notes of a delivery
got_keeps : (s : ℕ) (past : List Moment) → Facts (terms past) → (terms past).owes ≡ None → Keeps past → Keeps (said (notes.Got s) ∷ past)
got_keeps s past f idle c k = carries_got f (c k) idle s ((terms past).sent s) refl

-- what stood before a packet was ignored
kept_before : (cause : Cause) (s : ℕ) (past : List Moment) → AreKept (said (notes.Ignored s cause) ∷ past) → (cause ≡ causes.Generation → IsOfOther (terms past) s) × AreKept past
kept_before causes.Generation s past k = (λ e. k.0, k.1)
kept_before causes.Grammar s past k = (λ e. cc, k)
kept_before causes.Label s past k = (λ e. cc, k)
kept_before causes.Again s past k = (λ e. cc, k)
kept_before causes.Source s past k = (λ e. cc, k)
kept_before causes.Login s past k = (λ e. cc, k)
kept_before causes.Slot s past k = (λ e. cc, k)

ignored_keeps : (cause : Cause) (s : ℕ) (past : List Moment) → Facts (terms past) → (terms past).owes ≡ None → AreJudged (said (notes.Ignored s cause) ∷ past) → Keeps past → Keeps (said (notes.Ignored s cause) ∷ past)
ignored_keeps cause s past f idle j c k =
    let before = kept_before cause s past k in
    carries_ignored f (c before.1) idle s cause j.0 before.0 ((terms past).sent s) refl

decided_keeps : (cause : Option Cause) (s : ℕ) (past : List Moment) → Facts (terms past) → (terms past).owes ≡ None → AreJudged (said (decided cause s) ∷ past) → Keeps past → Keeps (said (decided cause s) ∷ past)
decided_keeps None s past f idle j c = got_keeps s past f idle c
decided_keeps (Some cause) s past f idle j c = ignored_keeps cause s past f idle j c

judged_keeps : (finding : Finding (Unit {0})) (cause : Option Cause) (s : ℕ) (past : List Moment) → Facts (terms past) → (terms past).owes ≡ None → AreJudged (said (first_note finding cause s) ∷ past) → Keeps past → Keeps (said (first_note finding cause s) ∷ past)
judged_keeps of_generation cause s past f idle j c = ignored_keeps causes.Generation s past f idle j c
judged_keeps of_grammar cause s past f idle j c = ignored_keeps causes.Grammar s past f idle j c
judged_keeps of_label cause s past f idle j c = ignored_keeps causes.Label s past f idle j c
judged_keeps (of_response p label purpose) cause s past f idle j c = got_keeps s past f idle c
judged_keeps (of_again p rcode) cause s past f idle j c = ignored_keeps causes.Again s past f idle j c
judged_keeps (of_request p) cause s past f idle j c = decided_keeps cause s past f idle j c

-- ---- packets that are sent
ask_keeps : (w : Wire) (h : Stands w) (i j : ℕ) (body : Body) (may : MayAsk w i j body) (r : Option Asked × Node) → AskedAs (w.layer i) (id_for w i j) (unlabelled (w.layer i) (id_for w i j) body) r → Keeps w.past → Keeps (asking r i j w).past
ask_keeps w h i j body may (None, new) a c = c
ask_keeps w h i j body may (Some found, new) a c = λ k.
    let t : Terms = terms w.past in
    let n : ℕ = found.label.number in
    let q : Sending = outgoing w i j found.bytes false in
    let b = asked_bytes (w.layer i).node (id_for w i j) n body found.bytes may.valid a.small a.labelled in
    let u : Transaction = between q i j n in
    let begun : begun_by q ≡ Some u = asked_begun q u refl (request_asked q n b.kind b.part) in
    let serial : next_serial w ≡ t.count + 1 = ap (λ x. x + 1) (last_is h.follows) in
    let idle : t.owes ≡ None = (settled w h may.free).due_is in
    let fresh = h.facts.unsent (next_serial w) (omega arith) in
    subst Carries (sym (begun_terms t (next_serial w) q u b.kind idle begun refl (ap kind_in b.part) serial fresh.honest))
    (carries_begun h.facts u b.kind q begun idle (c k))

answer_keeps : (w : Wire) → Stands w → (rcode : ℕ) (given : List ℕ) → MayAnswer w rcode given → Keeps w.past → Keeps (answering w.due rcode given w).past
unfolding answering_step
answer_keeps w h rcode given may c =
    let d = due w h may.due rcode given may.owed may.valid in
    subst (λ o. Keeps (answering o rcode given w).past) (sym may.owed) (λ k.
    subst Carries (sym (terms_are w h may.due rcode given may.owed may.valid))
    (carries_paid h.facts d.owed d.owes_is _ refl (pays_owed w h may.due rcode given may.owed may.valid may.stated false) _ _ (c k)))

-- ---- the other moves
expire_keeps : (w : Wire) (node peer label : ℕ) (r : Result (Option (Unit {0})) Stale × Node) → Keeps w.past → Keeps (expiring r node peer label w).past
expire_keeps w node peer label (Ok purpose, layer) c = λ k. absurd k
expire_keeps w node peer label (Err stale, layer) c = c

-- of the generation that a reset begins there is no transaction yet
reset_keeps : (w : Wire) → Stands w → (line : ℕ) (physical : List ℕ) → Keeps (moved (reset line physical) w).past
reset_keeps w h line physical k = record {
  carried = λ u kind serial g e. absurd (waiting (sym (idle u g) ∙ e));
  awake = λ u g e. absurd (resting (sym (idle u g) ∙ e));
}
  where
    idle : (u : Transaction) → u.generation ≡ w.bus + 1 → (terms w.past).held u ≡ free
    idle u g = (h.facts.tie u).idle (h.facts.early u (let a = h.facts.aged u.requester in let b = h.bus_is in omega (arith, a, b, g)))

    waiting : {kind : Kind} {serial : ℕ} → free ≡ waits kind serial → ⊥
    waiting e = cc

    resting : free ≡ rests → ⊥
    resting e = cc

start_keeps : (w : Wire) (line : ℕ) (event : Event) → MayStart w event → Keeps w.past → Keeps (moved (start line event) w).past
start_keeps w line event may c k =
    let x = opens event (terms w.past) may.other in
    subst Carries (sym x.is) (carries_same {t = terms w.past} refl refl refl refl refl (c k))

plain_kept : (note : Note) (past : List Moment) → is_plain note ≡ true → AreKept (said note ∷ past) → AreKept past
unfolding is_plain
plain_kept (notes.Injected s) past e k = cc
plain_kept (notes.Ignored s cause) past e k = cc
plain_kept (notes.Lost s) past e k = cc
plain_kept (notes.TimedOut s) past e k = cc
plain_kept (notes.Reset generation) past e k = cc
plain_kept _ past e k = k

move_keeps : (w : Wire) → Stands w → (move : Move) → May move w → AreJudged (moved move w).past → Keeps w.past → Keeps (moved move w).past
move_keeps w h (ask node peer body) may j c =
    ask_keeps w h node peer body may (asking_step (w.layer node) (id_for w node peer) body tt) (asks (w.layer node) (id_for w node peer) body (h.nodes node).places) c
move_keeps w h (answer rcode given) may j c = answer_keeps w h rcode given may c
move_keeps w h (inject node peer bytes) may j c = λ k. absurd k
move_keeps w h (deliver kept cause) may j c =
    judged_keeps (judging_step (w.layer kept.sent.to) kept.sent.generation kept.sent.bytes).0 cause kept.serial w.past h.facts (settled w h may.free).due_is j c
move_keeps w h (lose s) may j c = λ k. absurd k
move_keeps w h (expire node peer label) may j c = expire_keeps w node peer label.number (expiring_step (w.layer node) (id_for w node peer) label) c
move_keeps w h (disown node peer label) may j c = c
move_keeps w h (reset line physical) may j c = reset_keeps w h line physical
move_keeps w h (see node) may j c = λ k. carries_same {t = terms w.past} refl refl refl refl refl (c k)
move_keeps w h (start line event) may j c = start_keeps w line event may c
move_keeps w h (tell note) may j c = λ k. subst Carries (sym (plain_terms note (terms w.past) may)) (c (plain_kept note w.past may k))

all_keep : (moves : List Move) → MayAll moves → Keeps (after moves).past
all_keep [] may = λ k. record { carried = λ u kind serial g e. cc; awake = λ u g e. cc }
all_keep (move ∷ moves) may =
    move_keeps (after moves) (all_stand moves may.1) move may.0 (judged_always (move ∷ moves) may) (all_keep moves may.1)

-- ---- the laws
pub under_way_always : Always UnderWayLaw
under_way_always moves may k = (all_keep moves may k).carried

pub quiet_always : Always QuietLaw
quiet_always moves may k idle still = none_waits (all_keep moves may k).carried (settled (after moves) (all_stand moves may) idle).due_is still

pub no_rest_always : Always NoRestLaw
no_rest_always moves may k = (all_keep moves may k).awake
