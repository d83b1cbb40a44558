-- The generation that a reset begins is above the one that any node is in: so it is in every history that moves of the wire lead to.
use Rattle.sbp_world.proofs.Words.Std.{arith, ◌≡◌, ℕ, ◌<◌, true, List, [], ◌∷◌, Option, Some, None, Result, Ok, Err}
use Rattle.sbp_world.proofs.Words.Wire.{Asked, Finding, Moment, Node, Note, Stale, said, of_again, of_generation, of_grammar, of_label, of_request, of_response, terms}
use Rattle.sbp_world.proofs.Words.Laws.{EachMoment}
use Rattle.bus_transactions.specs.May.{Always, May, is_plain}
use Rattle.bus_transactions.specs.Moves.{Move, answer, answering, ask, asking, deliver, disown, expire, expiring, inject, lose, moved, reset, see, start, tell, after}
use Rattle.bus_transactions.specs.Wire.{Due, Wire, decided, first_note, id_for}
use Rattle.bus_transactions.proofs.All.{all_stand}
use Rattle.bus_transactions.proofs.Stands.{Stands}
use Rattle.label_table.specs.Layer.{asking_step, expiring_step, judging_step}
use Rattle.sbp_journal.specs.declared.cause.Cause.{Cause}
use Rattle.sbp_journal.specs.declared.note.Note.TheVariants as notes

abbrev pub ResetsRise : Moment → List Moment → Type 0
ResetsRise (said (notes.Reset generation)) past = (node : ℕ) → (terms past).generation node < generation
ResetsRise moment past = Unit {0}

abbrev pub AreRising : List Moment → Type 0
AreRising past = EachMoment ResetsRise past

abbrev pub RisingLaw : Wire → Type 0
RisingLaw w = AreRising w.past

-- ---- move by move
decided_rises : (cause : Option Cause) (s : ℕ) (past : List Moment) → AreRising past → AreRising (said (decided cause s) ∷ past)
decided_rises None s past c = (tt, c)
decided_rises (Some cause) s past c = (tt, c)

first_rises : (finding : Finding (Unit {0})) (cause : Option Cause) (s : ℕ) (past : List Moment) → AreRising past → AreRising (said (first_note finding cause s) ∷ past)
first_rises of_generation cause s past c = (tt, c)
first_rises of_grammar cause s past c = (tt, c)
first_rises of_label cause s past c = (tt, c)
first_rises (of_response p label purpose) cause s past c = (tt, c)
first_rises (of_again p rcode) cause s past c = (tt, c)
first_rises (of_request p) cause s past c = decided_rises cause s past c

asked_rises : (w : Wire) (node peer : ℕ) (r : Option Asked × Node) → AreRising w.past → AreRising (asking r node peer w).past
asked_rises w node peer (Some found, layer) c = (tt, c)
asked_rises w node peer (None, layer) c = c

answered_rises : (w : Wire) (due : Option Due) (rcode : ℕ) (given : List ℕ) → AreRising w.past → AreRising (answering due rcode given w).past
answered_rises w None rcode given c = c
answered_rises w (Some due) rcode given c = (tt, c)

expired_rises : (w : Wire) (node peer label : ℕ) (r : Result (Option (Unit {0})) Stale × Node) → AreRising w.past → AreRising (expiring r node peer label w).past
expired_rises w node peer label (Ok purpose, layer) c = (tt, c)
expired_rises w node peer label (Err stale, layer) c = c

told_rises : (note : Note) (past : List Moment) → is_plain note ≡ true → AreRising past → AreRising (said note ∷ past)
unfolding is_plain
told_rises (notes.Reset generation) past e c = cc
told_rises _ past e c = (tt, c)

move_rises : (w : Wire) → Stands w → (move : Move) → May move w → AreRising w.past → AreRising (moved move w).past
move_rises w h (ask node peer body) may c = asked_rises w node peer (asking_step (w.layer node) (id_for w node peer) body tt) c
move_rises w h (answer rcode given) may c = answered_rises w w.due rcode given c
move_rises w h (inject node peer bytes) may c = (tt, (tt, c))
move_rises w h (deliver kept cause) may c = first_rises (judging_step (w.layer kept.sent.to) kept.sent.generation kept.sent.bytes).0 cause kept.serial w.past c
move_rises w h (lose s) may c = (tt, c)
move_rises w h (expire node peer label) may c = expired_rises w node peer label.number (expiring_step (w.layer node) (id_for w node peer) label) c
move_rises w h (disown node peer label) may c = c
move_rises w h (reset line physical) may c = (λ node. (let a = h.facts.aged node in let b = h.bus_is in omega (arith, a, b)), (tt, c))
move_rises w h (see node) may c = (tt, c)
move_rises w h (start line event) may c = (tt, c)
move_rises w h (tell note) may c = told_rises note w.past may c

pub rising_always : Always RisingLaw
rising_always [] may = tt
rising_always (move ∷ moves) may = move_rises (after moves) (all_stand moves may.1) move may.0 (rising_always moves may.1)
