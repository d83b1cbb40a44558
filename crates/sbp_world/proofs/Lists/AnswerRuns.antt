-- Runs in a history that goes on: notes of no run add none; and an ORB of the latest list that ran before, and is the first one that has not ended now, was so before.
use Rattle.sbp_world.proofs.Words.Std.{◌==◌, ◌+◌, ◌⊎◌, inl, inr, length, Option, Some, None, arith, ◌≡◌, ◌∙◌, refl, sym, ap, subst, ◌<◌, ◌≤◌, ℕ, suc, nat_eq, nat_lt, Bool, true, false, cond, List, [], ◌∷◌, ◌++◌, map, nat_tests, false≢true}
use Rattle.sbp_world.proofs.Words.Wire.{Moment, said, Note}
use Rattle.sbp_world.proofs.Words.Target.{Disk, Phase, Which, Ahead, Main, Machine, is_ahead, advanced, ahead_step, answer_chunk, chunk_written, end_step, quiet, reply_step, sent, served, told_or, Told, PlainDisk, Sense}
use Rattle.sbp_world.proofs.Words.Initiator.{FailCause, Answer, payload_of, write_failure}
use Rattle.sbp_world.proofs.Words.Laws.{ends, lists, runs}
use Rattle.sbp_world.proofs.Words.World.{IsAnswerOf, answers}
use Rattle.command_agent.specs.declared.phase.Phase.TheVariants as phases
use Rattle.command_agent.specs.Steps.{answer_step}
use Rattle.orb_layout.specs.declared.status.StatusKind.TheVariants as kinds
use Rattle.sbp_world.proofs.Agents.UnitsRun.{ahead_none}
use Rattle.sbp_journal.specs.declared.note.Note.TheVariants as notes
use Rattle.sbp_world.proofs.Lists.Passing.{PassLaw}
use Rattle.sbp_world.proofs.Lists.Running.{later_unrun}
use Rattle.sbp_world.proofs.Lists.Runless.{AllPlain}
use Rattle.sbp_world.proofs.Lists.UnrunTerms.{ends_grow, lists_grow, passes_from}
use Rattle.sbp_world.proofs.Agents.UnitsKept.{runs_if as none_if}
use Rattle.sbp_world.proofs.Common.{moments_joined}

abbrev pub IsUnrun : Moment → Type 0
IsUnrun (said (notes.Ran i n k unit cdb bytes check)) = ⊥
IsUnrun moment = Unit {0}

abbrev pub AreUnrun : List Moment → Type 0
AreUnrun [] = Unit {0}
AreUnrun (moment ∷ before) = IsUnrun moment × AreUnrun before

pub plain_unrun : (more : List Note) → AllPlain more → AreUnrun (map said more)
plain_unrun [] h = tt
plain_unrun (notes.Ran i n k unit cdb bytes check ∷ more) h = absurd h.0
plain_unrun (note ∷ more) h = (tt, plain_unrun more h.1)

pub both_unrun : (a b : List Moment) → AreUnrun a → AreUnrun b → AreUnrun (a ++ b)
both_unrun [] b h k = k
both_unrun (m ∷ a) b h k = (h.0, both_unrun a b h.1 k)

module _ (i n k : ℕ) where
  pub unrun_runs : (more ms : List Moment) → AreUnrun more → runs (more ++ ms) i n k ≡ runs ms i n k
  unrun_runs [] ms h = refl
  unrun_runs (said (notes.Ran a b c d e f g) ∷ more) ms h = absurd h.0
  unrun_runs (moment ∷ more) ms h = unrun_runs more ms h.1

-- ---- an ORB that ran is of a list that began
module _ (wild : ℕ → Bool) (i n k : ℕ) (own : wild i ≡ false) where
  by_run : (ms : List Moment) (j m l : ℕ) → (wild j ≡ false → suc m ≡ lists ms j) → (0 < runs ms i n k → suc n ≤ lists ms i) → (x : Bool) → nat_eq i j ≡ x → (y : Bool) → nat_eq n m ≡ y → (z : Bool) → 0 < cond x (cond y (cond z (suc (runs ms j m l)) (runs ms i n k)) (runs ms i n k)) (runs ms i n k) → suc n ≤ lists ms i
  by_run ms j m l latest f true e true g z r =
      let same_i : i ≡ j = grind (arith, nat_tests) in
      let same_n : n ≡ m = grind (arith, nat_tests) in
      let at = latest (ap wild (sym same_i) ∙ own) in
      let lists_same = ap (lists ms) same_i in
      omega (arith, at, lists_same, same_n)
  by_run ms j m l latest f true e false g z r = f r
  by_run ms j m l latest f false e y g z r = f r

  pub listed_by : (ms : List Moment) → PassLaw wild ms → 0 < runs ms i n k → suc n ≤ lists ms i
  listed_by [] l r = absurd (omega (arith, r))
  listed_by (said (notes.Ran j (Some m) (Some o) unit cdb bytes check) ∷ ms) l r =
      by_run ms j m o (λ x. (l.0 x).next.turn.still.latest) (listed_by ms l.1) (nat_eq i j) refl (nat_eq n m) refl (nat_eq k o) r
  listed_by (said (notes.Append j m o cdb buffer) ∷ ms) l r =
      let more = lists_grow i (said (notes.Append j m o cdb buffer) ∷ []) ms in let had = listed_by ms l.1 r in omega (arith, more, had)
  listed_by (m ∷ ms) l r = listed_by ms l.1 r

-- ---- what is so now was so before
pub record WasFirst (ms now : List Moment) (i n : ℕ) : Type 0 where
  pub latest : suc n ≡ lists ms i
  pub number : ends now i n ≡ ends ms i n

pub was_first : (wild : ℕ → Bool) (later ms now : List Moment) → later ++ ms ≡ now → PassLaw wild now → (i n : ℕ) → wild i ≡ false → suc n ≡ lists now i → 0 < runs ms i n (ends now i n) → WasFirst ms now i n
was_first wild later ms now is passes i n own latest ran = record {
  latest = (let a = listed in let b = grown_lists in omega (arith, a, b, latest));
  number = by (nat_lt (ends ms i n) (ends now i n)) refl;
}
  where
    passed : PassLaw wild ms
    passed = passes_from wild later ms (subst (PassLaw wild) (sym is) passes)

    listed : suc n ≤ lists ms i
    listed = listed_by wild i n (ends now i n) own ms passed ran

    grown_lists : lists ms i ≤ lists now i
    grown_lists = subst (λ h. lists ms i ≤ lists h i) is (lists_grow i later ms)

    grown_ends : ends ms i n ≤ ends now i n
    grown_ends = subst (λ h. ends ms i n ≤ ends h i n) is (ends_grow i n later ms)

    by : (b : Bool) → nat_lt (ends ms i n) (ends now i n) ≡ b → ends now i n ≡ ends ms i n
    by true e =
        let less : ends ms i n < ends now i n = grind (arith, nat_tests) in
        let none = later_unrun wild ms passed i n (ends now i n) own less in absurd (omega (arith, none, ran))
    by false e = let c = grown_ends in let not_less : ends now i n ≤ ends ms i n = grind (arith, nat_tests) in omega (arith, c, not_less)

-- ---- what ran behind a run
pub runs_key : (base : List Moment) (j m l unit : ℕ) (cdb bytes : List ℕ) (check : Option Sense) (i n k : ℕ) → 0 < runs (said (notes.Ran j (Some m) (Some l) unit cdb bytes check) ∷ base) i n k → ((n ≡ m) × (k ≡ l)) ⊎ (0 < runs base i n k)
runs_key base j m l unit cdb bytes check i n k = by (nat_eq i j) (nat_eq n m) refl (nat_eq k l) refl
  where
    by : (x y : Bool) → nat_eq n m ≡ y → (z : Bool) → nat_eq k l ≡ z → 0 < cond x (cond y (cond z (suc (runs base j m l)) (runs base i n k)) (runs base i n k)) (runs base i n k) → ((n ≡ m) × (k ≡ l)) ⊎ (0 < runs base i n k)
    by true true f true g r = inl (let a : n ≡ m = grind (arith, nat_tests) in a, let c : k ≡ l = grind (arith, nat_tests) in c)
    by true true f false g r = inr r
    by true false f z g r = inr r
    by false y f z g r = inr r

-- an agent that writes an answer runs no command
answering_main : (place : ℕ) (plain : PlainDisk) (told : Told) (phase : Phase) (m : Machine) (answer : Answer) → answers phase ≡ true → (served place plain told (advanced phase m answer).0 (advanced phase m answer).1).0.ran ≡ None
answering_main place plain told phases.Answering m answer e = written (write_failure answer)
  where
    next : Machine
    next = record m { written = m.written + answer_chunk m }

    last : (b : Bool) → (let x = sent (cond b (end_step next kinds.Good None) (answer_step next)) in (served place plain told x.0 x.1).0.ran ≡ None)
    last true = refl
    last false = refl

    written : (x : Option FailCause) → (served place plain told (chunk_written m x).0 (chunk_written m x).1).0.ran ≡ None
    written (Some cause) = refl
    written None = last (next.written == length m.answer)
answering_main place plain told phases.Reset m answer e = absurd (false≢true e)
answering_main place plain told phases.Dead m answer e = absurd (false≢true e)
answering_main place plain told phases.Fetching m answer e = absurd (false≢true e)
answering_main place plain told phases.ReadingTable m answer e = absurd (false≢true e)
answering_main place plain told (phases.ReadingData wanted) m answer e = absurd (false≢true e)
answering_main place plain told phases.WritingStatus m answer e = absurd (false≢true e)
answering_main place plain told phases.ReadingNext m answer e = absurd (false≢true e)
answering_main place plain told phases.WritingLastStatus m answer e = absurd (false≢true e)
answering_main place plain told phases.Suspended m answer e = absurd (false≢true e)

pub answering_none : (m : Machine) (place : ℕ) (plain : PlainDisk) (told : Option Told) (which : Which) (answer : Answer) → answers m.phase ≡ true → (reply_step m place plain told which answer).0.ran ≡ None
unfolding reply_step
answering_none m place plain told Main answer e = answering_main place plain (told_or told) m.phase m answer e
answering_none m place plain told Ahead answer e = none_if (is_ahead m.ahead) (ahead_step m answer) (quiet, m) (ahead_none m (payload_of answer 32)) refl

-- ---- the answer to a command as it ran
-- it stays so as a history goes on
pub answer_on : (start : List Disk) (more ms now : List Moment) → more ++ ms ≡ now → (i n k : ℕ) (answer : List ℕ) → IsAnswerOf start ms i n k answer → IsAnswerOf start now i n k answer
answer_on start more ms now is i n k answer x = record {
  later = more ++ x.later;
  before = x.before;
  unit = x.unit;
  cdb = x.cdb;
  bytes = x.bytes;
  check = x.check;
  is = moments_joined more x.later _ ∙ (ap (λ h. more ++ h) x.is ∙ is);
  told = x.told;
  size = x.size;
}
