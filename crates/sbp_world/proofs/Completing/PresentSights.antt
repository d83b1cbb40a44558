-- In every run a node that sees a generation sees the one that the latest reset began.
use Rattle.sbp_world.proofs.Words.Std.{◌≡◌, refl, sym, subst, ℕ, true, List, [], ◌∷◌, Option, Some, None, Result, Ok, Err}
use Rattle.sbp_world.proofs.Words.Wire.{Asked, Stale, Finding, answering_step, asking_step, expiring_step, judging_step, of_again, of_generation, of_grammar, of_label, of_request, of_response, Moment, said, Cause, Note, Due, Node, Wire, decided, first_note, id_for, Move, after, answer, answering, ask, asking, deliver, disown, expire, expiring, inject, lose, moved, reset, see, start, tell, May, MayAll, is_plain, Reached}
use Rattle.sbp_world.proofs.Words.Laws.{EachMoment}
use Rattle.sbp_journal.specs.declared.note.Note.TheVariants as notes
use Rattle.bus_transactions.proofs.Stands.{Stands}
use Rattle.bus_transactions.proofs.All.{all_stand}

-- the generation that the latest reset began
abbrev pub latest_in : List Moment → ℕ
latest_in [] = 0
latest_in (said (notes.Reset generation) ∷ past) = generation
latest_in (moment ∷ past) = latest_in past

abbrev pub SightsAt : Moment → List Moment → Type 0
SightsAt (said (notes.Seen node generation)) past = generation ≡ latest_in past
SightsAt moment past = Unit {0}

abbrev pub AreSights : List Moment → Type 0
AreSights past = EachMoment SightsAt past

-- and so the generation of the bus is
abbrev Sees : ℕ → List Moment → Type 0
Sees bus past = AreSights past × (bus ≡ latest_in past)

-- ---- by the moves of the wire
plain : (bus : ℕ) (note : Note) (past : List Moment) → is_plain note ≡ true → Sees bus past → Sees bus (said note ∷ past)
unfolding is_plain
plain bus (notes.Seen node generation) past e h = cc
plain bus (notes.Reset generation) past e h = cc
plain bus _ past e h = ((tt, h.0), h.1)

decides : (bus : ℕ) (cause : Option Cause) (s : ℕ) (past : List Moment) → Sees bus past → Sees bus (said (decided cause s) ∷ past)
decides bus None s past h = ((tt, h.0), h.1)
decides bus (Some cause) s past h = ((tt, h.0), h.1)

judges : (bus : ℕ) (finding : Finding (Unit {0})) (cause : Option Cause) (s : ℕ) (past : List Moment) → Sees bus past → Sees bus (said (first_note finding cause s) ∷ past)
judges bus of_generation cause s past h = ((tt, h.0), h.1)
judges bus of_grammar cause s past h = ((tt, h.0), h.1)
judges bus of_label cause s past h = ((tt, h.0), h.1)
judges bus (of_response p label purpose) cause s past h = ((tt, h.0), h.1)
judges bus (of_again p rcode) cause s past h = ((tt, h.0), h.1)
judges bus (of_request p) cause s past h = decides bus cause s past h

asks : (w : Wire) (node peer : ℕ) (r : Option Asked × Node) → Sees w.bus w.past → Sees (asking r node peer w).bus (asking r node peer w).past
asks w node peer (None, new) h = h
asks w node peer (Some found, new) h = ((tt, h.0), h.1)

answers : (w : Wire) (due : Option Due) (rcode : ℕ) (given : List ℕ) → Sees w.bus w.past → Sees (answering due rcode given w).bus (answering due rcode given w).past
unfolding answering_step
answers w None rcode given h = h
answers w (Some due) rcode given h = ((tt, h.0), h.1)

expires : (w : Wire) (node peer label : ℕ) (r : Result (Option (Unit {0})) Stale × Node) → Sees w.bus w.past → Sees (expiring r node peer label w).bus (expiring r node peer label w).past
expires w node peer label (Ok purpose, layer) h = ((tt, h.0), h.1)
expires w node peer label (Err stale, layer) h = h

move : (w : Wire) → Stands w → (one : Move) → May one w → Sees w.bus w.past → Sees (moved one w).bus (moved one w).past
move w s (ask node peer body) may h = asks w node peer (asking_step (w.layer node) (id_for w node peer) body tt) h
move w s (answer rcode given) may h = answers w w.due rcode given h
move w s (inject node peer bytes) may h = ((tt, (tt, h.0)), h.1)
move w s (deliver kept cause) may h = judges w.bus (judging_step (w.layer kept.sent.to) kept.sent.generation kept.sent.bytes).0 cause kept.serial w.past h
move w s (lose serial) may h = ((tt, h.0), h.1)
move w s (expire node peer label) may h = expires w node peer label.number (expiring_step (w.layer node) (id_for w node peer) label) h
move w s (disown node peer label) may h = h
move w s (reset line physical) may h = ((tt, (tt, h.0)), refl)
move w s (see node) may h = ((h.1, h.0), h.1)
move w s (start line event) may h = ((tt, h.0), h.1)
move w s (tell note) may h = plain w.bus note w.past may h

all : (moves : List Move) → MayAll moves → Sees (after moves).bus (after moves).past
all [] may = (tt, refl)
all (one ∷ moves) may = move (after moves) (all_stand moves may.1) one may.0 (all moves may.1)

pub sights : (w : Wire) → Reached w → AreSights w.past
sights w r = subst (λ (x : Wire). AreSights x.past) (sym r.is) (all r.moves r.may).0

-- and the bus has it
pub latest_bus : (w : Wire) → Reached w → w.bus ≡ latest_in w.past
latest_bus w r = subst (λ (x : Wire). x.bus ≡ latest_in x.past) (sym r.is) (all r.moves r.may).1
