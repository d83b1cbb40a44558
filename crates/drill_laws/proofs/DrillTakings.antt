-- What was appended was taken, but for what waits.
use Rattle.std.proofs.Common.{◌≡◌, ◌∙◌, refl, sym, ap, ℕ, suc, ◌+◌, ◌<◌, ◌≤◌, Bool, true, false, cond, nat_eq, List, [], ◌∷◌, Option, Some, None, arith}
use Rattle.std.proofs.lemmas.Bool.Decides.{nat_tests}
use Rattle.orb_layout.specs.declared.status.StatusKind.{StatusKind}
use Rattle.rbc_disk.specs.Disk.{Disk}
use Rattle.sbp_base.specs.Update.{upd2, upd3}
use Rattle.sbp_journal.specs.Run.{Moment, asked, said}
use Rattle.sbp_journal.specs.Wire.{terms}
use Rattle.sbp_journal.specs.declared.note.Note.TheVariants as notes
use Rattle.sbp_laws.specs.Lawful.{nobody}
use Rattle.sbp_laws.specs.Lists.{TakenStatus, is_none_taken, last_got, src_in, taken_at}
use Rattle.sbp_laws.specs.OnLists.{LawfulOnLists}
use Rattle.sbp_laws.specs.OrderLaw.{OrderLaw}
use Rattle.sbp_laws.specs.StatusLaw.{TakenAt}
use Rattle.sbp_laws.specs.Packets.{access_at}
use Rattle.sbp_laws.specs.Terms.{appends, ended_status, takes}
use Rattle.sbp_laws.specs.Turns.{EachMoment}
use Rattle.drill_text.specs.Tally.{is_append, is_taken}
use Rattle.drill_laws.specs.DrillTakings.{AllTaken, TakingsLaw, told_in, untaken}

-- ---- how often an ORB was appended
abbrev times : List Moment → ℕ → ℕ → ℕ → ℕ
times [] = λ i n k. 0
times (said (notes.Append i n k cdb buffer) ∷ past) = upd3 (times past) i n k (suc (times past i n k))
times (_ ∷ past) = times past

-- once, where it was
record IsOnce (often k count : ℕ) : Type 0 where
  inside : k < count → often ≡ 1
  outside : count ≤ k → often ≡ 0

-- ---- one more
append_once : (past : List Moment) (i n k : ℕ) → k ≡ appends past i n → ((j m l : ℕ) → IsOnce (times past j m l) l (appends past j m)) → (j m l : ℕ)
    → IsOnce (upd3 (times past) i n k (suc (times past i n k)) j m l) l (upd2 (appends past) i n (suc (appends past i n)) j m)
append_once past i n k next all j m l = by_tests (nat_eq j i) (nat_eq m n) (nat_eq l k) refl refl refl
  where
    was : IsOnce (times past j m l) l (appends past j m)
    was = all j m l

    count_is : j ≡ i → m ≡ n → appends past j m ≡ appends past i n
    count_is at of = ap (λ x. appends past x m) at ∙ ap (λ x. appends past i x) of

    by_tests : (b c d : Bool) → nat_eq j i ≡ b → nat_eq m n ≡ c → nat_eq l k ≡ d
        → IsOnce (cond b (cond c (cond d (suc (times past i n k)) (times past j m l)) (times past j m l)) (times past j m l)) l (cond b (cond c (suc (appends past i n)) (appends past j m)) (appends past j m))
    by_tests true true true e f g =
        let none = (all i n k).outside (omega (arith, next)) in
        let same : l ≡ k = grind (arith, nat_tests) in
        record { inside = λ lt. omega (arith, none); outside = λ le. absurd (omega (arith, next, same, le)) }
    by_tests true true false e f g =
        let same = count_is (grind (arith, nat_tests)) (grind (arith, nat_tests)) in
        let other : l ≡ k → ⊥ = λ q. grind (arith, nat_tests) in
        record { inside = λ lt. was.inside (by_other l k (appends past i n) (appends past j m) other next same lt); outside = λ le. was.outside (omega (arith, same, le)) }
      where
        by_other : (l k count old : ℕ) → (l ≡ k → ⊥) → k ≡ count → old ≡ count → l < suc count → l < old
        by_other l k count old other next same lt = grind (arith, other)
    by_tests true false d e f g = was
    by_tests false c d e f g = was

once : (past : List Moment) → OrderLaw nobody past → (i n k : ℕ) → IsOnce (times past i n k) k (appends past i n)
once [] law = λ i n k. record { inside = λ lt. absurd (omega (arith, lt)); outside = λ le. refl }
once (said (notes.Append i n k cdb buffer) ∷ past) law = append_once past i n k law.0.number (once past law.1)
once (_ ∷ past) law = once past law.1

-- ---- what waits, by any statuses
abbrev waiting : (ℕ → ℕ → ℕ → Option TakenStatus) → List Moment → ℕ
waiting taken [] = 0
waiting taken (said (notes.Append i n k cdb buffer) ∷ past) = cond (is_none_taken (taken i n k)) 1 0 + waiting taken past
waiting taken (_ ∷ past) = waiting taken past

untaken_is : (all past : List Moment) → untaken all past ≡ waiting (taken_at all) past
untaken_is all [] = refl
untaken_is all (said (notes.Append i n k cdb buffer) ∷ past) = ap (λ rest. cond (is_none_taken (taken_at all i n k)) 1 0 + rest) (untaken_is all past)
untaken_is all (_ ∷ past) = untaken_is all past

-- the status of one ORB is taken
one_taken : (taken : ℕ → ℕ → ℕ → Option TakenStatus) (i n k : ℕ) (t : TakenStatus) (past : List Moment) → taken i n k ≡ None → waiting (upd3 taken i n k (Some t)) past + times past i n k ≡ waiting taken past
one_taken taken i n k t [] none = refl
one_taken taken i n k t (said (notes.Append j m l cdb buffer) ∷ past) none = by_tests (one_taken taken i n k t past none) (nat_eq j i) (nat_eq m n) (nat_eq l k) refl refl refl (nat_eq i j) (nat_eq n m) (nat_eq k l) refl refl refl
  where
    here : j ≡ i → m ≡ n → l ≡ k → is_none_taken (taken j m l) ≡ true
    here at of last = ap is_none_taken (ap (λ x. taken x m l) at ∙ ap (λ x. taken i x l) of ∙ ap (λ x. taken i n x) last ∙ none)

    times_is : j ≡ i → m ≡ n → l ≡ k → times past j m l ≡ times past i n k
    times_is at of last = ap (λ x. times past x m l) at ∙ ap (λ x. times past i x l) of ∙ ap (λ x. times past i n x) last

    by_tests : waiting (upd3 taken i n k (Some t)) past + times past i n k ≡ waiting taken past → (b c d : Bool) → nat_eq j i ≡ b → nat_eq m n ≡ c → nat_eq l k ≡ d → (e f g : Bool) → nat_eq i j ≡ e → nat_eq n m ≡ f → nat_eq k l ≡ g
        → (cond (is_none_taken (cond b (cond c (cond d (Some t) (taken j m l)) (taken j m l)) (taken j m l))) 1 0 + waiting (upd3 taken i n k (Some t)) past)
        + cond e (cond f (cond g (suc (times past j m l)) (times past i n k)) (times past i n k)) (times past i n k) ≡ cond (is_none_taken (taken j m l)) 1 0 + waiting taken past
    by_tests rest true true true p q r true true true s u v =
        let at : j ≡ i = grind (arith, nat_tests) in
        let of : m ≡ n = grind (arith, nat_tests) in
        let last : l ≡ k = grind (arith, nat_tests) in
        let was = here at of last in
        let one : cond {A = ℕ} (is_none_taken (taken j m l)) 1 0 ≡ 1 = ap {B = ℕ} (λ z. cond z 1 0) was in
        let same = times_is at of last in
        omega (arith, one, same, rest)
    by_tests rest true true false p q r true true false s u v = omega (arith, rest)
    by_tests rest true false d p q r true false g s u v = omega (arith, rest)
    by_tests rest false c d p q r false f g s u v = omega (arith, rest)
    by_tests rest true c d p q r false f g s u v = absurd (grind (arith, nat_tests))
    by_tests rest false c d p q r true f g s u v = absurd (grind (arith, nat_tests))
    by_tests rest true true d p q r true false g s u v = absurd (grind (arith, nat_tests))
    by_tests rest true false d p q r true true g s u v = absurd (grind (arith, nat_tests))
    by_tests rest true true true p q r true true false s u v = absurd (grind (arith, nat_tests))
    by_tests rest true true false p q r true true true s u v = absurd (grind (arith, nat_tests))
one_taken taken i n k t (_ ∷ past) none = one_taken taken i n k t past none

-- ---- what was taken was appended
more_appends : (past : List Moment) (i n j m k : ℕ) → k < appends past j m → k < upd2 (appends past) i n (suc (appends past i n)) j m
more_appends past i n j m k lt = by_tests (nat_eq j i) (nat_eq m n) refl refl
  where
    by_tests : (b c : Bool) → nat_eq j i ≡ b → nat_eq m n ≡ c → k < cond b (cond c (suc (appends past i n)) (appends past j m)) (appends past j m)
    by_tests true true e f =
        let at : j ≡ i = grind (arith, nat_tests) in
        let of : m ≡ n = grind (arith, nat_tests) in
        let same : appends past j m ≡ appends past i n = ap (λ x. appends past x m) at ∙ ap (λ x. appends past i x) of in
        omega (arith, same, lt)
    by_tests true false e f = lt
    by_tests false c e f = lt

-- what ended was appended
ended_below : (past : List Moment) → OrderLaw nobody past → (j m l : ℕ) → (status : StatusKind) → ended_status past j m l ≡ Some status → l < appends past j m
ended_below [] law j m l status e = let no : None ≡ Some status = e in absurd (cc no)
ended_below (said (notes.Append i n k cdb buffer) ∷ past) law j m l status e = more_appends past i n j m l (ended_below past law.1 j m l status e)
ended_below (said (notes.Ended i (Some n) (Some k) ends_with) ∷ past) law j m l status e = by_tests (ended_below past law.1 j m l status) (nat_eq j i) (nat_eq m n) (nat_eq l k) refl refl refl e
  where
    by_tests : (ended_status past j m l ≡ Some status → l < appends past j m) → (b c d : Bool) → nat_eq j i ≡ b → nat_eq m n ≡ c → nat_eq l k ≡ d
        → cond b (cond c (cond d (Some ends_with) (ended_status past j m l)) (ended_status past j m l)) (ended_status past j m l) ≡ Some status → l < appends past j m
    by_tests old true true true f g h e =
        let at : j ≡ i = grind (arith, nat_tests) in
        let of : m ≡ n = grind (arith, nat_tests) in
        let last : l ≡ k = grind (arith, nat_tests) in
        let same : appends past j m ≡ appends past i n = ap (λ x. appends past x m) at ∙ ap (λ x. appends past i x) of in
        let below = (law.0 refl).appended in omega (arith, same, last, below)
    by_tests old true true false f g h e = old e
    by_tests old true false d f g h e = old e
    by_tests old false c d f g h e = old e
ended_below (_ ∷ past) law j m l status e = ended_below past law.1 j m l status e

-- so was what was taken
taken_below : (past : List Moment) → OrderLaw nobody past → EachMoment (TakenAt nobody) past → (j m l : ℕ) → (t : TakenStatus) → taken_at past j m l ≡ Some t → l < appends past j m
taken_below [] order law j m l t e = let no : None ≡ Some t = e in absurd (cc no)
taken_below (said (notes.Append i n k cdb buffer) ∷ past) order law j m l t e = more_appends past i n j m l (taken_below past order.1 law.1 j m l t e)
taken_below (said (notes.Taken i n k status answer) ∷ past) order law j m l t e = by_tests (taken_below past order.1 law.1 j m l t) _ (nat_eq j i) (nat_eq m n) (nat_eq l k) refl refl refl e
  where
    by_tests : (taken_at past j m l ≡ Some t → l < appends past j m) → (v : Option TakenStatus) (b c d : Bool) → nat_eq j i ≡ b → nat_eq m n ≡ c → nat_eq l k ≡ d
        → cond b (cond c (cond d v (taken_at past j m l)) (taken_at past j m l)) (taken_at past j m l) ≡ Some t → l < appends past j m
    by_tests old v true true true f g h e =
        let at : j ≡ i = grind (arith, nat_tests) in
        let of : m ≡ n = grind (arith, nat_tests) in
        let last : l ≡ k = grind (arith, nat_tests) in
        let same : appends past j m ≡ appends past i n = ap (λ x. appends past x m) at ∙ ap (λ x. appends past i x) of in
        let below = ended_below past order.1 i n k status (law.0 refl).ended in omega (arith, same, last, below)
    by_tests old v true true false f g h e = old e
    by_tests old v true false d f g h e = old e
    by_tests old v false c d f g h e = old e
taken_below (_ ∷ past) order law j m l t e = taken_below past order.1 law.1 j m l t e

-- none of the next one was
next_untaken : (past : List Moment) → OrderLaw nobody past → EachMoment (TakenAt nobody) past → (i n k : ℕ) → k ≡ appends past i n → taken_at past i n k ≡ None
next_untaken past order law i n k next = by (taken_at past i n k) refl
  where
    by : (found : Option TakenStatus) → taken_at past i n k ≡ found → found ≡ None
    by None e = refl
    by (Some t) e = absurd (let below = taken_below past order law i n k t e in omega (arith, next, below))

-- none was taken where none was counted
none_taken : (past : List Moment) (i n k : ℕ) → takes past i n k ≡ 0 → taken_at past i n k ≡ None
none_taken [] i n k e = refl
none_taken (said (notes.Taken j m l status answer) ∷ past) i n k e = by_tests (none_taken past i n k) _ (nat_eq i j) (nat_eq n m) (nat_eq k l) e
  where
    by_tests : (takes past i n k ≡ 0 → taken_at past i n k ≡ None) → (v : Option TakenStatus) (b c d : Bool) → cond b (cond c (cond d (suc (takes past j m l)) (takes past i n k)) (takes past i n k)) (takes past i n k) ≡ 0
        → cond b (cond c (cond d v (taken_at past i n k)) (taken_at past i n k)) (taken_at past i n k) ≡ None
    by_tests old v true true true e = absurd (let no : suc (takes past j m l) ≡ 0 = e in omega arith)
    by_tests old v true true false e = old e
    by_tests old v true false d e = old e
    by_tests old v false c d e = old e
none_taken (_ ∷ past) i n k e = none_taken past i n k e

-- ---- the count
abbrev IsCounted : List Moment → Type 0
IsCounted past = told_in is_append past ≡ told_in is_taken past + waiting (taken_at past) past

counts : (past : List Moment) → OrderLaw nobody past → EachMoment (TakenAt nobody) past → IsCounted past
counts [] order law = refl
counts (said (notes.Append i n k cdb buffer) ∷ past) order law =
    let rest = counts past order.1 law.1 in
    let one : cond {A = ℕ} (is_none_taken (taken_at past i n k)) 1 0 ≡ 1 = ap {B = ℕ} (λ found. cond (is_none_taken found) 1 0) (next_untaken past order.1 law.1 i n k order.0.number) in
    omega (arith, rest, one)
counts (said (notes.Taken i n k status answer) ∷ past) order law =
    let rest = counts past order.1 law.1 in
    let own = law.0 refl in
    let none = none_taken past i n k own.once in
    let less = one_taken (taken_at past) i n k (record { status = status; src = src_in (access_at (terms past) (last_got past)) }) past none in
    let one = (once past order.1 i n k).inside (ended_below past order.1 i n k status own.ended) in
    omega (arith, rest, less, one)
counts (asked line event ∷ past) order law = counts past order.1 law.1
counts (said _ ∷ past) order law = let rest = counts past order.1 law.1 in omega (arith, rest)

counted : (start : List Disk) (past : List Moment) → LawfulOnLists nobody start past → told_in is_append past ≡ told_in is_taken past + untaken past past
counted start past law = counts past law.order law.status.taken ∙ ap (λ n. told_in is_taken past + n) (sym (untaken_is past past))

-- ---- where each has its status
none_waits : (taken : ℕ → ℕ → ℕ → Option TakenStatus) (past : List Moment) → ((i n k : ℕ) → 0 < times past i n k → is_none_taken (taken i n k) ≡ false) → waiting taken past ≡ 0
none_waits taken [] all = refl
none_waits taken (said (notes.Append i n k cdb buffer) ∷ past) all =
    let one : cond {A = ℕ} (is_none_taken (taken i n k)) 1 0 ≡ 0 = ap {B = ℕ} (λ b. cond b 1 0) (all i n k (some_times (nat_eq i i) (nat_eq n n) (nat_eq k k) refl refl refl)) in
    let rest = none_waits taken past (λ j m l some. all j m l (more_times (nat_eq j i) (nat_eq m n) (nat_eq l k) j m l some)) in
    omega (arith, one, rest)
  where
    some_times : (b c d : Bool) → nat_eq i i ≡ b → nat_eq n n ≡ c → nat_eq k k ≡ d → 0 < cond b (cond c (cond d (suc (times past i n k)) (times past i n k)) (times past i n k)) (times past i n k)
    some_times true true true e f g = omega arith
    some_times true true false e f g = absurd (grind (arith, nat_tests))
    some_times true false d e f g = absurd (grind (arith, nat_tests))
    some_times false c d e f g = absurd (grind (arith, nat_tests))

    more_times : (b c d : Bool) (j m l : ℕ) → 0 < times past j m l → 0 < cond b (cond c (cond d (suc (times past i n k)) (times past j m l)) (times past j m l)) (times past j m l)
    more_times true true true j m l some = omega arith
    more_times true true false j m l some = some
    more_times true false d j m l some = some
    more_times false c d j m l some = some
none_waits taken (_ ∷ past) all = none_waits taken past all

all_counted : (start : List Disk) (past : List Moment) → LawfulOnLists nobody start past → AllTaken past → told_in is_append past ≡ told_in is_taken past
all_counted start past law all =
    let none = none_waits (taken_at past) past (λ i n k some. all i n k (appended i n k some)) in
    let whole = counts past law.order law.status.taken in
    omega (arith, none, whole)
  where
    appended : (i n k : ℕ) → 0 < times past i n k → k < appends past i n
    appended i n k some = let outside = (once past law.order i n k).outside in inside (times past i n k) (appends past i n) k some outside
      where
        inside : (often count k : ℕ) → 0 < often → (count ≤ k → often ≡ 0) → k < count
        inside often count k some outside = grind (arith, outside)

pub takings_law : TakingsLaw
takings_law = record { counted = counted; all = all_counted }
