-- In every run a node sees no generation before the one that it is in.
use Rattle.sbp_world.proofs.Words.Std.{arith, ◌≡◌, sym, subst, ℕ, ◌≤◌, true, List, [], ◌∷◌, Option, Some, None, Result, Ok, Err}
use Rattle.sbp_world.proofs.Words.Wire.{Asked, Stale, Finding, answering_step, asking_step, expiring_step, judging_step, of_again, of_generation, of_grammar, of_label, of_request, of_response, Moment, said, terms, Cause, Note, Due, Node, Wire, decided, first_note, id_for, Move, after, answer, answering, ask, asking, deliver, disown, expire, expiring, inject, lose, moved, reset, see, start, tell, May, MayAll, is_plain, Reached}
use Rattle.sbp_world.proofs.Words.Laws.{EachMoment}
use Rattle.sbp_journal.specs.declared.note.Note.TheVariants as notes
use Rattle.bus_transactions.proofs.Stands.{Stands}
use Rattle.bus_transactions.proofs.All.{all_stand}

abbrev pub RisesAt : Moment → List Moment → Type 0
RisesAt (said (notes.Seen node generation)) past = (terms past).generation node ≤ generation
RisesAt moment past = Unit {0}

abbrev pub Rises : List Moment → Type 0
Rises past = EachMoment RisesAt past

-- ---- by the moves of the wire
plain : (note : Note) (past : List Moment) → is_plain note ≡ true → Rises past → Rises (said note ∷ past)
unfolding is_plain
plain (notes.Seen node generation) past e h = cc
plain _ past e h = (tt, h)

decides : (cause : Option Cause) (s : ℕ) (past : List Moment) → Rises past → Rises (said (decided cause s) ∷ past)
decides None s past h = (tt, h)
decides (Some cause) s past h = (tt, h)

judges : (finding : Finding (Unit {0})) (cause : Option Cause) (s : ℕ) (past : List Moment) → Rises past → Rises (said (first_note finding cause s) ∷ past)
judges of_generation cause s past h = (tt, h)
judges of_grammar cause s past h = (tt, h)
judges of_label cause s past h = (tt, h)
judges (of_response p label purpose) cause s past h = (tt, h)
judges (of_again p rcode) cause s past h = (tt, h)
judges (of_request p) cause s past h = decides cause s past h

asks : (w : Wire) (node peer : ℕ) (r : Option Asked × Node) → Rises w.past → Rises (asking r node peer w).past
asks w node peer (None, new) h = h
asks w node peer (Some found, new) h = (tt, h)

answers : (w : Wire) (due : Option Due) (rcode : ℕ) (given : List ℕ) → Rises w.past → Rises (answering due rcode given w).past
unfolding answering_step
answers w None rcode given h = h
answers w (Some due) rcode given h = (tt, h)

expires : (w : Wire) (node peer label : ℕ) (r : Result (Option (Unit {0})) Stale × Node) → Rises w.past → Rises (expiring r node peer label w).past
expires w node peer label (Ok purpose, layer) h = (tt, h)
expires w node peer label (Err stale, layer) h = h

move : (w : Wire) → Stands w → (one : Move) → May one w → Rises w.past → Rises (moved one w).past
move w s (ask node peer body) may h = asks w node peer (asking_step (w.layer node) (id_for w node peer) body tt) h
move w s (answer rcode given) may h = answers w w.due rcode given h
move w s (inject node peer bytes) may h = (tt, (tt, h))
move w s (deliver kept cause) may h = judges (judging_step (w.layer kept.sent.to) kept.sent.generation kept.sent.bytes).0 cause kept.serial w.past h
move w s (lose serial) may h = (tt, h)
move w s (expire node peer label) may h = expires w node peer label.number (expiring_step (w.layer node) (id_for w node peer) label) h
move w s (disown node peer label) may h = h
move w s (reset line physical) may h = (tt, (tt, h))
move w s (see node) may h = (let a = s.facts.aged node in let b = s.bus_is in omega (arith, a, b), h)
move w s (start line event) may h = (tt, h)
move w s (tell note) may h = plain note w.past may h

all : (moves : List Move) → MayAll moves → Rises (after moves).past
all [] may = tt
all (one ∷ moves) may = move (after moves) (all_stand moves may.1) one may.0 (all moves may.1)

pub rises : (w : Wire) → Reached w → Rises w.past
rises w r = subst (λ (x : Wire). Rises x.past) (sym r.is) (all r.moves r.may)
