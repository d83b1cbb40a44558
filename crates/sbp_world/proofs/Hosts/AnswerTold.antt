-- What is said of the good statuses that were taken stays as others are told.
use Rattle.sbp_world.proofs.Words.Std.{arith, ◌≡◌, refl, sym, ◌∙◌, ap, subst, ℕ, ◌==◌, not, nat_eq, Bool, true, false, cond, List, [], ◌∷◌, ◌++◌, map, nat_tests}
use Rattle.sbp_world.proofs.Words.Wire.{Moment, said, Note, Side}
use Rattle.sbp_world.proofs.Words.Initiator.{buffer_addresses, own}
use Rattle.sbp_world.proofs.Words.Laws.{laid_out, slot_at}
use Rattle.sbp_world.proofs.Words.World.{byte_held, behind}
use Rattle.orb_layout.specs.declared.status.StatusKind.TheVariants as kinds
use Rattle.sbp_journal.specs.declared.note.Note.TheVariants as notes
use Rattle.sbp_journal.specs.declared.side.Side.TheVariants as sides
use Rattle.sbp_world.specs.Hosts.Answers.{IsAnswerOf}
use Rattle.sbp_world.specs.Hosts.Calls.{by_side}
use Rattle.sbp_world.proofs.Hosts.ByteRuns.{kept_side}
use Rattle.sbp_world.proofs.Hosts.ByteTerms.{ByteTerms, byte_terms}
use Rattle.sbp_world.proofs.Hosts.Carries.{is_apart}
use Rattle.sbp_world.proofs.Hosts.Layered.{AreTame}
use Rattle.sbp_world.proofs.Hosts.OrbTerms.{AreStill, IsStill, OrbTerms, orb_terms, orbs_left}
use Rattle.sbp_world.proofs.Hosts.TakenWalks.{AllSay, IsSaying, Says}

-- each good status that an initiator took has its answer
abbrev pub AllTaken : List Moment → ℕ → Type 0
AllTaken [] i = Unit {0}
AllTaken (said (notes.Taken j n k kinds.Good answer) ∷ past) i = (j ≡ i → IsAnswerOf past i n k answer) × AllTaken past i
AllTaken (_ ∷ past) i = AllTaken past i

all_before : (moment : Moment) (past : List Moment) (i : ℕ) → AllTaken (moment ∷ past) i → AllTaken past i
all_before (said (notes.Taken j n k kinds.Good answer)) past i h = h.1
all_before moment past i h = h

pub taken_there : (later past : List Moment) (i n k : ℕ) (answer : List ℕ) → AllTaken (later ++ said (notes.Taken i n k kinds.Good answer) ∷ past) i → IsAnswerOf past i n k answer
taken_there [] past i n k answer h = h.0 refl
taken_there (moment ∷ later) past i n k answer h = taken_there later past i n k answer (all_before moment (later ++ said (notes.Taken i n k kinds.Good answer) ∷ past) i h)

-- a note that is none of it
abbrev pub is_untaken : ℕ → Note → Bool
is_untaken i (notes.Taken j n k kinds.Good answer) = not (i == j)
is_untaken i _ = true

pub taken_on : (note : Note) (past : List Moment) (i : ℕ) → is_untaken i note ≡ true → AllTaken past i → AllTaken (said note ∷ past) i
taken_on (notes.Taken j n k kinds.Good answer) past i e h = ((λ same. absurd (away (nat_eq i j) refl e same)), h)
  where
    away : (b : Bool) → nat_eq i j ≡ b → not b ≡ true → j ≡ i → ⊥
    away true f e same = cc
    away false f e same = absurd (grind (arith, nat_tests))
taken_on note past i e h = h

pub apart_untaken : (note : Note) (i : ℕ) → is_apart i note ≡ true → is_untaken i note ≡ true
apart_untaken (notes.Taken j n k kinds.Good answer) i e = e
apart_untaken note i e = refl

-- notes of an action
abbrev pub AreUntaken : ℕ → List Note → Type 0
AreUntaken i [] = Unit {0}
AreUntaken i (note ∷ ns) = (is_untaken i note ≡ true) × AreUntaken i ns

pub untaken_told : (ns : List Note) (past : List Moment) (i : ℕ) → AreUntaken i ns → AllTaken past i → AllTaken (behind (own ns) past) i
untaken_told [] past i q h = h
untaken_told (note ∷ ns) past i q h = untaken_told ns (said note ∷ past) i q.1 (taken_on note past i q.0 h)

-- another history that says the same
pub answer_on : (past now : List Moment) (i n k : ℕ) (answer : List ℕ) → byte_terms now i ≡ byte_terms past i → orb_terms now i ≡ orb_terms past i → IsAnswerOf past i n k answer → IsAnswerOf now i n k answer
answer_on past now i n k answer e f h =
    let slot = slot_at past i n k in
    record {
      cmd = h.cmd;
      command = ap (λ (t : ByteTerms). t.command n k) e ∙ h.command;
      is = h.is
          ∙ (ap (λ (t : ByteTerms). cond h.cmd.to_initiator (map (t.held slot) (buffer_addresses (laid_out slot h.cmd h.cmd.segments))) []) (sym e)
          ∙ ap (λ (t : OrbTerms). cond h.cmd.to_initiator (map (byte_held now i (t.place n k)) (buffer_addresses (laid_out (t.place n k) h.cmd h.cmd.segments))) []) (sym f));
    }

-- what an initiator tells, where each good status that it takes has its answer by the history before
taken_note : (note : Note) (past : List Moment) (i : ℕ) → ((n k : ℕ) (answer : List ℕ) → note ≡ notes.Taken i n k kinds.Good answer → IsAnswerOf past i n k answer) → AllTaken past i → AllTaken (said note ∷ past) i
taken_note (notes.Taken j n k kinds.Good answer) past i f h = ((λ same. f n k answer (ap (λ x. notes.Taken x n k kinds.Good answer) same)), h)
taken_note note past i f h = h

orb_side : (side : Side) (past : List Moment) (i : ℕ) → IsStill side → orb_terms (by_side side past) i ≡ orb_terms past i
orb_side (sides.Own note) past i e = orbs_left note past i (e i)
orb_side side past i e = absurd e

module _ (now : List Moment) (i : ℕ) where
  abbrev pub Answers : (j n k : ℕ) → List ℕ → Type 0
  Answers j n k answer = j ≡ i → IsAnswerOf now i n k answer

  taken_side : (side : Side) (past : List Moment) → byte_terms past i ≡ byte_terms now i → orb_terms past i ≡ orb_terms now i → IsSaying Answers side → AllTaken past i → AllTaken (by_side side past) i
  taken_side (sides.Own note) past e f says h = taken_note note past i (λ n k answer is. answer_on now past i n k answer e f (subst (Says Answers) is says refl)) h
  taken_side side past e f says h = h

  pub taken_told : (told : List Side) (past : List Moment) → byte_terms past i ≡ byte_terms now i → orb_terms past i ≡ orb_terms now i → AllSay Answers told → AreTame told → AreStill told → AllTaken past i → AllTaken (behind told past) i
  taken_told [] past e f says tame still h = h
  taken_told (side ∷ told) past e f says tame still h =
      taken_told told (by_side side past) (kept_side side past i tame.0 still.0 ∙ e) (orb_side side past i still.0 ∙ f) says.1 tame.1 still.1 (taken_side side past e f says.0 h)
