-- The medium before the run of an ORB, by the history: as an ORB runs once, it is that of the moment at which it ran.
use Rattle.sbp_world.proofs.Words.Std.{arith, ◌≡◌, ◌∙◌, refl, sym, ap, subst, ◌<◌, ℕ, suc, nat_eq, Bool, true, false, cond, List, [], ◌∷◌, ◌++◌, Option, Some, None, IsSomeAnd, nat_tests}
use Rattle.sbp_world.proofs.Words.Wire.{Moment, said}
use Rattle.sbp_world.proofs.Words.Target.{Sense, Disk}
use Rattle.sbp_world.proofs.Words.Laws.{before_run, ExecutionAt, ExecutionLaw, disk_of, Request, request_at, runs}
use Rattle.sbp_world.proofs.Words.World.{IsAnswerBefore, IsAnswerOf}
use Rattle.sbp_journal.specs.declared.note.Note.TheVariants as notes
use Rattle.sbp_world.proofs.Lists.DataTurns.{ran_on}
use Rattle.sbp_world.proofs.Common.{itself}

here_by : {A : Type 0} (x y z : Bool) (value other : A) → x ≡ true → y ≡ true → z ≡ true → cond x (cond y (cond z value other) other) other ≡ value
here_by true true true value other e f g = refl
here_by true true false value other e f g = absurd (let c : false ≡ true = g in cc)
here_by true false z value other e f g = absurd (let c : false ≡ true = f in cc)
here_by false y z value other e f g = absurd (let c : false ≡ true = e in cc)

module _ (start : List Disk) (before : List Moment) (i n k unit : ℕ) (cdb bytes : List ℕ) (check : Option Sense) (wild : ℕ → Bool) (own : wild i ≡ false) where
  abbrev ran : Moment
  ran = said (notes.Ran i (Some n) (Some k) unit cdb bytes check)

  runs_here : 0 < runs (ran ∷ before) i n k
  runs_here =
      let e : runs (ran ∷ before) i n k ≡ suc (runs before i n k) = here_by (nat_eq i i) (nat_eq n n) (nat_eq k k) (suc (runs before i n k)) (runs before i n k) (itself i) (itself n) (itself k) in
      omega (arith, e)

  abbrev Is : List Moment → Type 0
  Is ms = before_run start ms i n k ≡ Some (disk_of start before unit)

  run_more : (ms : List Moment) (j m l : ℕ) (disk : Option Disk) → 0 < runs ms i n k → (wild j ≡ false → runs ms j m l ≡ 0) → Is ms → (x : Bool) → nat_eq i j ≡ x → (y : Bool) → nat_eq n m ≡ y → (z : Bool) → nat_eq k l ≡ z → cond x (cond y (cond z disk (before_run start ms i n k)) (before_run start ms i n k)) (before_run start ms i n k) ≡ Some (disk_of start before unit)
  run_more ms j m l disk some once is true e true f true g =
      let same_i : i ≡ j = grind (arith, nat_tests) in
      let same_n : n ≡ m = grind (arith, nat_tests) in
      let same_k : k ≡ l = grind (arith, nat_tests) in
      let none : runs ms i n k ≡ 0 = ap (λ a. runs ms a n k) same_i ∙ (ap (λ a. runs ms j a k) same_n ∙ (ap (λ a. runs ms j m a) same_k ∙ once (ap wild (sym same_i) ∙ own))) in
      absurd (omega (arith, none, some))
  run_more ms j m l disk some once is true e true f false g = is
  run_more ms j m l disk some once is true e false f z g = is
  run_more ms j m l disk some once is false e y f z g = is

  pub medium_before : (later : List Moment) → ExecutionLaw wild start (later ++ ran ∷ before) → Is (later ++ ran ∷ before)
  medium_before [] law = here_by (nat_eq i i) (nat_eq n n) (nat_eq k k) (Some (disk_of start before unit)) (before_run start before i n k) (itself i) (itself n) (itself k)
  medium_before (said (notes.Ran j (Some m) (Some l) other_unit other_cdb other_bytes other_check) ∷ later) law =
      run_more (later ++ ran ∷ before) j m l (Some (disk_of start (later ++ ran ∷ before) other_unit)) (ran_on later (ran ∷ before) i n k runs_here) (λ o. (law.0 o).0.once) (medium_before later law.1) (nat_eq i j) refl (nat_eq n m) refl (nat_eq k l) refl
  medium_before (moment ∷ later) law = medium_before later law.1

  law_at : (later : List Moment) → ExecutionLaw wild start (later ++ ran ∷ before) → ExecutionAt wild start ran before
  law_at [] law = law.0
  law_at (moment ∷ later) law = law_at later law.1

  as_asked : (x : Option Request) {P Q : Request → Type 0} → ((request : Request) → P request → Q request) → IsSomeAnd x P → IsSomeAnd x Q
  as_asked None f h = h
  as_asked (Some request) f h = f request h

pub answer_before : (start : List Disk) (wild : ℕ → Bool) (past : List Moment) (i n k : ℕ) (answer : List ℕ) → wild i ≡ false → ExecutionLaw wild start past → IsAnswerOf start past i n k answer → IsAnswerBefore start past i n k answer
answer_before start wild past i n k answer own law x =
    let there = subst (λ ms. ExecutionLaw wild start ms) (sym x.is) law in
    record {
      of = x;
      medium = subst (λ ms. before_run start ms i n k ≡ Some (disk_of start x.before x.unit)) x.is (medium_before start x.before i n k x.unit x.cdb x.bytes x.check wild own x.later there);
      asked = as_asked start x.before i n k x.unit x.cdb x.bytes x.check wild own (request_at x.before i n k) (λ request on. on.command) ((law_at start x.before i n k x.unit x.cdb x.bytes x.check wild own x.later there) own).1;
    }
