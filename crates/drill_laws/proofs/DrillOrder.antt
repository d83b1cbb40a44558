-- Where each ORB ends good, its runs are in the order of the appends: how many of a list ran, beside those that were appended and those that ended.
use Rattle.std.proofs.Common.{◌≡◌, refl, sym, subst, ℕ, suc, ◌<◌, ◌≤◌, Bool, true, false, cond, nat_eq, List, [], ◌∷◌, Option, Some, None, arith}
use Rattle.std.specs.Prelude.{IsSomeAnd}
use Rattle.std.proofs.lemmas.Bool.Decides.{nat_tests}
use Rattle.orb_layout.specs.declared.status.StatusKind.{StatusKind}
use Rattle.orb_layout.specs.declared.status.StatusKind.TheVariants as kinds
use Rattle.rbc_command.specs.declared.sense.Sense.{Sense}
use Rattle.rbc_disk.specs.Disk.{Disk}
use Rattle.sbp_base.specs.Update.{upd2}
use Rattle.sbp_journal.specs.Run.{Moment, asked, said}
use Rattle.sbp_journal.specs.Wire.{terms}
use Rattle.sbp_journal.specs.declared.note.Note.TheVariants as notes
use Rattle.sbp_laws.specs.ExecutionLaw.{ExecutionLaw, MayEndWith}
use Rattle.sbp_laws.specs.Lawful.{nobody}
use Rattle.sbp_laws.specs.Lists.{is_none_taken, last_got, src_in, taken_at}
use Rattle.sbp_laws.specs.OrderLaw.{OrderLaw}
use Rattle.sbp_laws.specs.Packets.{access_at}
use Rattle.sbp_laws.specs.StatusLaw.{TakenAt}
use Rattle.sbp_laws.specs.Terms.{Request, appends, ended_status, ends, ran_status, request_at, runs, status_of}
use Rattle.sbp_laws.specs.Turns.{EachMoment}

-- each ORB ends good
abbrev pub EndsGoodAt : Moment → List Moment → Type 0
EndsGoodAt (said (notes.Ended i n k status)) past = status ≡ kinds.Good
EndsGoodAt moment past = Unit {0}

-- how many of a list ran: one more than the number of the last one
abbrev pub ran : List Moment → ℕ → ℕ → ℕ
ran [] = λ i n. 0
ran (said (notes.Ran i (Some n) (Some k) unit cdb bytes check) ∷ past) = upd2 (ran past) i n (suc k)
ran (_ ∷ past) = ran past

pub record Counts (appended ended runs_by : ℕ) (often : ℕ → ℕ) (status : ℕ → Option StatusKind) (request : ℕ → Option Request) : Type 0 where
  pub least : ended ≤ runs_by
  pub most : runs_by ≤ suc ended
  pub within : runs_by ≤ appended
  pub once : (k : ℕ) → runs_by ≡ suc k → 0 < often k
  pub ran_below : (k : ℕ) (s : StatusKind) → status k ≡ Some s → k < runs_by
  pub below : (k : ℕ) (r : Request) → request k ≡ Some r → k < appended

abbrev pub IsCounted : List Moment → ℕ → ℕ → Type 0
IsCounted past i n = Counts (appends past i n) (ends past i n) (ran past i n) (runs past i n) (ran_status past i n) (request_at past i n)

-- at the names of a note, and elsewhere
at_name : (P : ℕ → ℕ → Type 0) (i n j m : ℕ) → nat_eq j i ≡ true → nat_eq m n ≡ true → P i n → P j m
at_name P i n j m e f here =
    let at : j ≡ i = grind (arith, nat_tests) in
    let of : m ≡ n = grind (arith, nat_tests) in
    subst (λ x. P x m) (sym at) (subst (λ y. P i y) (sym of) here)

-- one is appended
append_counts : (a e r : ℕ) (often : ℕ → ℕ) (status : ℕ → Option StatusKind) (request : ℕ → Option Request) (k : ℕ) (asks : Request) → k ≡ a → Counts a e r often status request → Counts (suc a) e r often status (λ l. cond (nat_eq l k) (Some asks) (request l))
append_counts a e r often status request k asks is c = record {
  least = c.least;
  most = c.most;
  within = (let w = c.within in omega (arith, w));
  once = c.once;
  ran_below = c.ran_below;
  below = λ l s f. by l s (nat_eq l k) refl f;
}
  where
    by : (l : ℕ) (s : Request) (b : Bool) → nat_eq l k ≡ b → cond b (Some asks) (request l) ≡ Some s → l < suc a
    by l s true g f = (let same : l ≡ k = grind (arith, nat_tests) in omega (arith, same, is))
    by l s false g f = (let w = c.below l s f in omega (arith, w))

-- one runs
pub run_is_next : (a e r : ℕ) (often : ℕ → ℕ) (status : ℕ → Option StatusKind) (request : ℕ → Option Request) (k : ℕ) → k ≡ e → often k ≡ 0 → Counts a e r often status request → r ≡ k
run_is_next a e r often status request k is none c = by (nat_eq r (suc k)) refl
  where
    by : (b : Bool) → nat_eq r (suc k) ≡ b → r ≡ k
    by true f = absurd (let same : r ≡ suc k = grind (arith, nat_tests) in let some = c.once k same in omega (arith, some, none))
    by false f = (let l = c.least in let m = c.most in grind (arith, nat_tests, l, m, is))

run_counts : (a e r : ℕ) (often : ℕ → ℕ) (status : ℕ → Option StatusKind) (request : ℕ → Option Request) (k : ℕ) (asks : Request) (ended : StatusKind) → k ≡ e → often k ≡ 0 → request k ≡ Some asks → Counts a e r often status request
    → Counts a e (suc k) (λ l. cond (nat_eq l k) (suc (often k)) (often l)) (λ l. cond (nat_eq l k) (Some ended) (status l)) request
run_counts a e r often status request k asks ended is none found c = record {
  least = omega (arith, is);
  most = omega (arith, is);
  within = (let w = c.below k asks found in omega (arith, w));
  once = λ l f. once_by l (nat_eq l k) refl f;
  ran_below = λ l s f. by l s (nat_eq l k) refl f;
  below = c.below;
}
  where
    next : r ≡ k
    next = run_is_next a e r often status request k is none c

    once_by : (l : ℕ) (b : Bool) → nat_eq l k ≡ b → suc k ≡ suc l → 0 < cond b (suc (often k)) (often l)
    once_by l true g f = omega arith
    once_by l false g f = absurd (grind (arith, nat_tests))

    by : (l : ℕ) (s : StatusKind) (b : Bool) → nat_eq l k ≡ b → cond b (Some ended) (status l) ≡ Some s → l < suc k
    by l s true g f = (let same : l ≡ k = grind (arith, nat_tests) in omega (arith, same))
    by l s false g f = (let w = c.ran_below l s f in omega (arith, w, next))

-- one ends good
end_counts : (a e r : ℕ) (often : ℕ → ℕ) (status : ℕ → Option StatusKind) (request : ℕ → Option Request) (k : ℕ) → k ≡ e → status k ≡ Some kinds.Good → Counts a e r often status request → Counts a (suc e) r often status request
end_counts a e r often status request k is good c = record {
  least = (let w = c.ran_below k kinds.Good good in omega (arith, w, is));
  most = (let m = c.most in omega (arith, m));
  within = c.within;
  once = c.once;
  ran_below = c.ran_below;
  below = c.below;
}

may_end : (past : List Moment) (i n k : ℕ) (status : StatusKind) → status ≡ kinds.Good → MayEndWith status (ran_status past i n k) → ran_status past i n k ≡ Some kinds.Good
may_end past i n k kinds.Good e h = h
may_end past i n k _ e h = absurd (cc e)

-- ---- all moments
pub all_counted : (disks : List Disk) (past : List Moment) → OrderLaw nobody past → ExecutionLaw nobody disks past → EachMoment EndsGoodAt past → (j m : ℕ) → IsCounted past j m
all_counted disks [] order run good j m = record {
  least = omega arith;
  most = omega arith;
  within = omega arith;
  once = λ k e. absurd (omega (arith, e));
  ran_below = λ k s e. absurd (let no : None ≡ Some s = e in cc no);
  below = λ k r e. absurd (let no : None ≡ Some r = e in cc no);
}
all_counted disks (said (notes.Append i n k cdb buffer) ∷ past) order run good j m = by (all_counted disks past order.1 run.1 good.1) (nat_eq j i) (nat_eq m n) refl refl
  where
    asks : Request
    asks = record { cdb = cdb; buffer = buffer }

    by : ((j m : ℕ) → IsCounted past j m) → (b c : Bool) → nat_eq j i ≡ b → nat_eq m n ≡ c → Counts (cond b (cond c (suc (appends past i n)) (appends past j m)) (appends past j m)) (ends past j m) (ran past j m) (runs past j m) (ran_status past j m) (λ l. cond b (cond c (cond (nat_eq l k) (Some asks) (request_at past j m l)) (request_at past j m l)) (request_at past j m l))
    by was true true e f =
        at_name (λ x y. Counts (suc (appends past i n)) (ends past x y) (ran past x y) (runs past x y) (ran_status past x y) (λ l. cond (nat_eq l k) (Some asks) (request_at past x y l))) i n j m e f
        (append_counts (appends past i n) (ends past i n) (ran past i n) (runs past i n) (ran_status past i n) (request_at past i n) k asks order.0.number (was i n))
    by was true false e f = was j m
    by was false c e f = was j m
all_counted disks (said (notes.Ran i (Some n) (Some k) unit cdb bytes check) ∷ past) order run good j m = by (all_counted disks past order.1 run.1 good.1) (nat_eq j i) (nat_eq m n) refl refl
  where
    found : (P : Request → Type 0) → (o : Option Request) → IsSomeAnd o P → (z : Request) × (o ≡ Some z)
    found P None h = absurd h
    found P (Some z) h = (z, refl)

    by : ((j m : ℕ) → IsCounted past j m) → (b c : Bool) → nat_eq j i ≡ b → nat_eq m n ≡ c → Counts (appends past j m) (ends past j m) (cond b (cond c (suc k) (ran past j m)) (ran past j m)) (λ l. cond b (cond c (cond (nat_eq l k) (suc (runs past i n k)) (runs past j m l)) (runs past j m l)) (runs past j m l)) (λ l. cond b (cond c (cond (nat_eq l k) (Some (status_of check)) (ran_status past j m l)) (ran_status past j m l)) (ran_status past j m l)) (request_at past j m)
    by was true true e f =
        let next = (run.0 refl).0 in
        let asks = found _ (request_at past i n k) (run.0 refl).1 in
        at_name (λ x y. Counts (appends past x y) (ends past x y) (suc k) (λ l. cond (nat_eq l k) (suc (runs past i n k)) (runs past x y l)) (λ l. cond (nat_eq l k) (Some (status_of check)) (ran_status past x y l)) (request_at past x y)) i n j m e f
        (run_counts (appends past i n) (ends past i n) (ran past i n) (runs past i n) (ran_status past i n) (request_at past i n) k asks.0 (status_of check) next.order next.once asks.1 (was i n))
    by was true false e f = was j m
    by was false c e f = was j m
all_counted disks (said (notes.Ended i (Some n) (Some k) status) ∷ past) order run good j m = by (all_counted disks past order.1 run.1 good.1) (nat_eq j i) (nat_eq m n) refl refl
  where
    by : ((j m : ℕ) → IsCounted past j m) → (b c : Bool) → nat_eq j i ≡ b → nat_eq m n ≡ c → Counts (appends past j m) (cond b (cond c (suc (ends past i n)) (ends past j m)) (ends past j m)) (ran past j m) (runs past j m) (ran_status past j m) (request_at past j m)
    by was true true e f =
        at_name (λ x y. Counts (appends past x y) (suc (ends past i n)) (ran past x y) (runs past x y) (ran_status past x y) (request_at past x y)) i n j m e f
        (end_counts (appends past i n) (ends past i n) (ran past i n) (runs past i n) (ran_status past i n) (request_at past i n) k (order.0 refl).number (may_end past i n k status good.0 (run.0 refl)) (was i n))
    by was true false e f = was j m
    by was false c e f = was j m
all_counted disks (asked line event ∷ past) order run good j m = all_counted disks past order.1 run.1 good.1 j m
all_counted disks (said (notes.Ran i None k unit cdb bytes check) ∷ past) order run good j m = absurd (let no : false ≡ true = order.0 in cc no)
all_counted disks (said (notes.Ran i (Some n) None unit cdb bytes check) ∷ past) order run good j m = absurd (let no : false ≡ true = order.0 in cc no)
all_counted disks (said (notes.Ended i None k status) ∷ past) order run good j m = absurd (let no : false ≡ true = order.0 in cc no)
all_counted disks (said (notes.Ended i (Some n) None status) ∷ past) order run good j m = absurd (let no : false ≡ true = order.0 in cc no)
all_counted disks (said _ ∷ past) order run good j m = all_counted disks past order.1 run.1 good.1 j m

-- ---- what is taken, ran
ran_more : (past : List Moment) (i n k : ℕ) → ran past i n ≡ k → (j m : ℕ) → ran past j m ≤ upd2 (ran past) i n (suc k) j m
ran_more past i n k e j m = by (nat_eq j i) (nat_eq m n) refl refl
  where
    by : (b c : Bool) → nat_eq j i ≡ b → nat_eq m n ≡ c → ran past j m ≤ cond b (cond c (suc k) (ran past j m)) (ran past j m)
    by true true f g = at_name (λ x y. ran past x y ≤ suc k) i n j m f g (omega (arith, e))
    by true false f g = omega arith
    by false c f g = omega arith

ran_more_here : (disks : List Disk) (past : List Moment) (i n k unit : ℕ) (cdb bytes : List ℕ) (check : Option Sense) → OrderLaw nobody past → EachMoment EndsGoodAt past → ExecutionLaw nobody disks (said (notes.Ran i (Some n) (Some k) unit cdb bytes check) ∷ past) → (j m : ℕ)
    → ran past j m ≤ ran (said (notes.Ran i (Some n) (Some k) unit cdb bytes check) ∷ past) j m
ran_more_here disks past i n k unit cdb bytes check order good run j m =
    let next = (run.0 refl).0 in
    ran_more past i n k (run_is_next (appends past i n) (ends past i n) (ran past i n) (runs past i n) (ran_status past i n) (request_at past i n) k next.order next.once (all_counted disks past order run.1 good i n)) j m

ended_ran : (disks : List Disk) (past : List Moment) → OrderLaw nobody past → ExecutionLaw nobody disks past → EachMoment EndsGoodAt past → (j m l : ℕ) (s : StatusKind) → ended_status past j m l ≡ Some s → l < ran past j m
ended_ran disks [] order run good j m l s e = absurd (let no : None ≡ Some s = e in cc no)
ended_ran disks (said (notes.Ran i (Some n) (Some k) unit cdb bytes check) ∷ past) order run good j m l s e =
    let more = ran_more_here disks past i n k unit cdb bytes check order.1 good.1 run j m in
    let old = ended_ran disks past order.1 run.1 good.1 j m l s e in
    omega (arith, old, more)
ended_ran disks (said (notes.Ended i (Some n) (Some k) status) ∷ past) order run good j m l s e =
    by (ended_ran disks past order.1 run.1 good.1 j m l s) ((all_counted disks past order.1 run.1 good.1 i n).ran_below k kinds.Good (may_end past i n k status good.0 (run.0 refl))) (nat_eq j i) refl (nat_eq m n) refl (nat_eq l k) refl e
  where
    by : (ended_status past j m l ≡ Some s → l < ran past j m) → k < ran past i n → (b : Bool) → nat_eq j i ≡ b → (c : Bool) → nat_eq m n ≡ c → (d : Bool) → nat_eq l k ≡ d → cond b (cond c (cond d (Some status) (ended_status past j m l)) (ended_status past j m l)) (ended_status past j m l) ≡ Some s → l < ran past j m
    by old here true f true g true h e = at_name (λ x y. l < ran past x y) i n j m f g (let same : l ≡ k = grind (arith, nat_tests) in omega (arith, same, here))
    by old here true f true g false h e = old e
    by old here true f false g d h e = old e
    by old here false f c g d h e = old e
ended_ran disks (_ ∷ past) order run good j m l s e = ended_ran disks past order.1 run.1 good.1 j m l s e

pub taken_ran : (disks : List Disk) (past : List Moment) → OrderLaw nobody past → ExecutionLaw nobody disks past → EachMoment EndsGoodAt past → EachMoment (TakenAt nobody) past → (j m l : ℕ) → is_none_taken (taken_at past j m l) ≡ false → l < ran past j m
taken_ran disks [] order run good taken j m l e = absurd (let no : true ≡ false = e in cc no)
taken_ran disks (said (notes.Ran i (Some n) (Some k) unit cdb bytes check) ∷ past) order run good taken j m l e =
    let more = ran_more_here disks past i n k unit cdb bytes check order.1 good.1 run j m in
    let old = taken_ran disks past order.1 run.1 good.1 taken.1 j m l e in
    omega (arith, old, more)
taken_ran disks (said (notes.Taken i n k status answer) ∷ past) order run good taken j m l e =
    by (taken_ran disks past order.1 run.1 good.1 taken.1 j m l) (ended_ran disks past order.1 run.1 good.1 i n k status (taken.0 refl).ended) (nat_eq j i) refl (nat_eq m n) refl (nat_eq l k) refl e
  where
    by : (is_none_taken (taken_at past j m l) ≡ false → l < ran past j m) → k < ran past i n → (b : Bool) → nat_eq j i ≡ b → (c : Bool) → nat_eq m n ≡ c → (d : Bool) → nat_eq l k ≡ d
        → is_none_taken (cond b (cond c (cond d (Some (record { status = status; src = src_in (access_at (terms past) (last_got past)) })) (taken_at past j m l)) (taken_at past j m l)) (taken_at past j m l)) ≡ false → l < ran past j m
    by old here true f true g true h e = at_name (λ x y. l < ran past x y) i n j m f g (let same : l ≡ k = grind (arith, nat_tests) in omega (arith, same, here))
    by old here true f true g false h e = old e
    by old here true f false g d h e = old e
    by old here false f c g d h e = old e
taken_ran disks (_ ∷ past) order run good taken j m l e = taken_ran disks past order.1 run.1 good.1 taken.1 j m l e
