-- What the slots of a drill hold where no status tells of a dead agent: ORBs of the first list that were appended, and of those whose statuses are all taken the last one alone.
use Rattle.std.proofs.Common.{◌≡◌, ◌∙◌, refl, sym, ap, subst, ℕ, zero, suc, ◌<◌, ◌≤◌, ◌==◌, ◌&&◌, ◌||◌, not, nat_eq, nat_lt, max, Bool, true, false, cond, List, [], ◌∷◌, map, replicate, slice_set, Option, Some, None, arith}
use Rattle.std.specs.List.{AllByRecursion}
use Rattle.std.proofs.lemmas.Bool.Decides.{nat_tests}
use Rattle.orb_layout.specs.StatusBlocks.{row_of}
use Rattle.orb_layout.specs.declared.status.StatusKind.{StatusKind}
use Rattle.orb_layout.specs.declared.status.StatusKind.TheVariants as kinds
use Rattle.sbp_base.specs.Update.{upd2}
use Rattle.sbp_journal.specs.Run.{Moment, asked, said}
use Rattle.sbp_journal.specs.declared.event.Event.{Event}
use Rattle.sbp_journal.specs.declared.event.Event.TheVariants as events
use Rattle.sbp_journal.specs.declared.event.Action.TheVariants as actions
use Rattle.sbp_journal.specs.declared.note.Note.{Note}
use Rattle.sbp_journal.specs.declared.note.Note.TheVariants as notes
use Rattle.sbp_laws.specs.Lawful.{nobody}
use Rattle.sbp_laws.specs.Lists.{Orb, SlotState, TakenStatus, freed, is_none_taken, is_over, is_over_by, is_pinned, linked, lowest_vacant, orb, passed, pinned_orb, pins, present_list, resting, rests_at, slots, slots_by, taken_at, used, vacant}
use Rattle.sbp_laws.specs.OrderLaw.{OrderAt, OrderLaw}
use Rattle.sbp_laws.specs.Terms.{appends}
use Rattle.sbp_laws.specs.Turns.{EachMoment, event_of}
use Rattle.drill_laws.specs.DrillApart.{IsKept, IsOnly}
use Rattle.drill_laws.specs.DrillCalm.{IsCalmAt, IsCalmNote}
use Rattle.drill_laws.specs.DrillRefused.{IsAliveAt}
use Rattle.drill_laws.specs.DrillSlots.{taken_slots}
use Rattle.drill_laws.specs.DrillTakings.{AllTaken}
use Rattle.drill_laws.proofs.DrillApart.{slots_apart}
use Rattle.drill_laws.proofs.DrillCalm.{latest_event}
use Rattle.drill_laws.proofs.DrillHosts.{IsDrillEvent}
use Rattle.drill_laws.proofs.DrillLists.{FirstAt}
use Rattle.drill_laws.proofs.DrillMoments.{DrillAt}

-- ---- each slot
all_map : (P : SlotState → Type 0) (f : SlotState → SlotState) → ((slot : SlotState) → P slot → P (f slot)) → (xs : List SlotState) → AllByRecursion P xs → AllByRecursion P (map f xs)
all_map P f on [] all = tt
all_map P f on (x ∷ xs) all = (on x all.0, all_map P f on xs all.1)

all_same : (P Q : SlotState → Type 0) → ((slot : SlotState) → P slot → Q slot) → (xs : List SlotState) → AllByRecursion P xs → AllByRecursion Q xs
all_same P Q on [] all = tt
all_same P Q on (x ∷ xs) all = (on x all.0, all_same P Q on xs all.1)

all_both : (P Q R : SlotState → Type 0) → ((slot : SlotState) → P slot → Q slot → R slot) → (xs : List SlotState) → AllByRecursion P xs → AllByRecursion Q xs → AllByRecursion R xs
all_both P Q R on [] all more = tt
all_both P Q R on (x ∷ xs) all more = (on x all.0 more.0, all_both P Q R on xs all.1 more.1)

all_set : (P : SlotState → Type 0) (xs : List SlotState) (n : ℕ) (slot : SlotState) → P slot → AllByRecursion P xs → AllByRecursion P (slice_set xs n slot)
all_set P [] n slot p all = tt
all_set P (x ∷ xs) zero slot p all = (p, all.1)
all_set P (x ∷ xs) (suc n) slot p all = (all.0, all_set P xs n slot p all.1)

-- ---- an ORB of the first list, of which so many were appended
abbrev Sits : ℕ → SlotState → Type 0
Sits count (used one) = (one.list ≡ 0) × (one.number < count)
Sits count vacant = Unit {0}
Sits count resting = ⊥

abbrev AllSit : ℕ → List SlotState → Type 0
AllSit count xs = AllByRecursion (Sits count) xs

all_new : (n count : ℕ) → AllSit count (replicate n vacant)
all_new zero count = tt
all_new (suc n) count = (tt, all_new n count)

freed_sits : (past : List Moment) (i count : ℕ) (slot : SlotState) → Sits count slot → Sits count (freed past i slot)
freed_sits past i count vacant s = tt
freed_sits past i count resting s = s
freed_sits past i count (used one) s = by (is_over past i one)
  where
    by : (b : Bool) → Sits count (cond b vacant (used one))
    by true = tt
    by false = s

grown_sits : (count more : ℕ) → count ≤ more → (slot : SlotState) → Sits count slot → Sits more slot
grown_sits count more grows vacant s = tt
grown_sits count more grows resting s = s
grown_sits count more grows (used one) s = (s.0, (let low = s.1 in omega (arith, low, grows)))

alive_resp : (status : StatusKind) → ((row_of status).dead == 1) ≡ false → ((row_of status).resp == 0) ≡ true
alive_resp (kinds.Illegal meaning) e = absurd (let no : true ≡ false = e in cc no)
alive_resp kinds.Failed e = absurd (let no : true ≡ false = e in cc no)
alive_resp _ e = refl

append_grows : (f : ℕ → ℕ → ℕ) (j n i : ℕ) → f i 0 ≤ upd2 f j n (suc (f j n)) i 0
append_grows f j n i = by (nat_eq i j) refl (nat_eq 0 n) refl
  where
    by : (b : Bool) → nat_eq i j ≡ b → (c : Bool) → nat_eq 0 n ≡ c → f i 0 ≤ cond b (cond c (suc (f j n)) (f i 0)) (f i 0)
    by true e true g =
        let at : i ≡ j = grind (arith, nat_tests) in
        let of : 0 ≡ n = grind (arith, nat_tests) in
        let same : f i 0 ≡ f j n = ap (λ x. f x 0) at ∙ ap (f j) of in
        omega (arith, same)
    by true e false g = omega arith
    by false e c g = omega arith

append_there : (f : ℕ → ℕ → ℕ) (j n i k : ℕ) → nat_eq j i ≡ true → n ≡ 0 → k ≡ f j n → k < upd2 f j n (suc (f j n)) i 0
append_there f j n i k own first next = by (nat_eq i j) refl (nat_eq 0 n) refl
  where
    by : (b : Bool) → nat_eq i j ≡ b → (c : Bool) → nat_eq 0 n ≡ c → k < cond b (cond c (suc (f j n)) (f i 0)) (f i 0)
    by true e true g = omega (arith, next)
    by true e false g = absurd (grind (arith, nat_tests))
    by false e c g = absurd (grind (arith, nat_tests))

abbrev Sitting : Note → List Moment → ℕ → List SlotState → Type 0
Sitting note past i xs = AllSit (appends past i 0) xs → AllSit (appends (said note ∷ past) i 0) (slots_by note past i xs)

note_sits : (note : Note) (past : List Moment) (i : ℕ) (xs : List SlotState) → FirstAt (said note) past → OrderAt nobody (said note) past → IsCalmNote note → IsAliveAt (said note) past → DrillAt (said note) past → Sitting note past i xs
note_sits (notes.Append j n k cdb buffer) past i xs first order calm alive d all = by (nat_eq j i) refl
  where
    more : ℕ
    more = upd2 (appends past) j n (suc (appends past j n)) i 0

    grown : AllSit more xs
    grown = all_same (Sits (appends past i 0)) (Sits more) (grown_sits (appends past i 0) more (append_grows (appends past) j n i)) xs all

    by : (b : Bool) → nat_eq j i ≡ b → AllSit more (cond b (slice_set xs (lowest_vacant xs) (used (orb n k))) xs)
    by true e = all_set (Sits more) xs (lowest_vacant xs) (used (orb n k)) (first, append_there (appends past) j n i k e first order.number) grown
    by false e = grown
note_sits (notes.Taken j n k status answer) past i xs first order calm alive d all =
    subst (λ b. AllSit (appends past i 0) (cond ((j == i) && not b) (map (rests_at n k) xs) xs)) (sym (alive_resp status alive)) (by (j == i))
  where
    by : (b : Bool) → AllSit (appends past i 0) (cond (b && not true) (map (rests_at n k) xs) xs)
    by true = all
    by false = all
note_sits (notes.Drop j n) past i xs first order calm alive d all = absurd calm
note_sits (notes.Seen node generation) past i xs first order calm alive d all = absurd (let no : false ≡ true = d in cc no)
note_sits _ past i xs first order calm alive d all = all

all_sit : (past : List Moment) → EachMoment FirstAt past → OrderLaw nobody past → EachMoment IsCalmAt past → EachMoment IsAliveAt past → EachMoment DrillAt past → (i : ℕ) → AllSit (appends past i 0) (slots past i)
all_sit [] first order calm alive d i = all_new 32 0
all_sit (asked line event ∷ past) first order calm alive d i = all_sit past first.1 order.1 calm.1 alive.1 d.1 i
all_sit (said note ∷ past) first order calm alive d i =
    let was = all_sit past first.1 order.1 calm.1 alive.1 d.1 i in
    let count : ℕ = appends (said note ∷ past) i 0 in
    all_map (Sits count) (freed (said note ∷ past) i) (freed_sits (said note ∷ past) i count) (slots_by note past i (slots past i)) (note_sits note past i (slots past i) first.0 order.0 calm.0 alive.0 d.0 was)

-- ---- nothing is pinned
pins_none : (event : Option Event) → IsDrillEvent event → (j : ℕ) (present : Option ℕ) (pinned : Option Orb) → pinned ≡ None → pins event j present pinned ≡ None
pins_none None is j present pinned e = e
pins_none (Some (events.Begin initiators ready)) is j present pinned e = e
pins_none (Some (events.Act i (actions.Append cmd))) is j present pinned e = e
pins_none (Some events.Settle) is j present pinned e = e
pins_none (Some _) is j present pinned e = absurd is

none_pinned : (past : List Moment) → EachMoment DrillAt past → EachMoment IsCalmAt past → (i : ℕ) → pinned_orb past i ≡ None
none_pinned [] d calm i = refl
none_pinned (said (notes.Sent serial generation (suc j) to bytes) ∷ past) d calm i = by (none_pinned past d.1 calm.1 i) (none_pinned past d.1 calm.1 j) (nat_eq i j)
  where
    by : pinned_orb past i ≡ None → pinned_orb past j ≡ None → (b : Bool) → cond b (pins (event_of past) j (present_list past j) (pinned_orb past j)) (pinned_orb past i) ≡ None
    by was own true = pins_none (event_of past) (latest_event past d.1) j (present_list past j) (pinned_orb past j) own
    by was own false = was
none_pinned (said (notes.Op j operation word) ∷ past) d calm i = absurd calm.0
none_pinned (said (notes.Seen node generation) ∷ past) d calm i = absurd (let no : false ≡ true = d.0 in cc no)
none_pinned (_ ∷ past) d calm i = none_pinned past d.1 calm.1 i

-- ---- what was taken
record IsWell (found : Option TakenStatus) (passing k : ℕ) : Type 0 where
  status : TakenStatus
  is : found ≡ Some status
  good : ((row_of status.status).resp == 0) ≡ true
  past_it : suc k ≤ passing

taken_well : (past : List Moment) → EachMoment IsAliveAt past → (i n k : ℕ) → is_none_taken (taken_at past i n k) ≡ false → IsWell (taken_at past i n k) (passed past i n) k
taken_well [] alive i n k e = absurd (let no : true ≡ false = e in cc no)
taken_well (said (notes.Taken j m l status answer) ∷ past) alive i n k e = by (taken_at past i n k) _ (alive_resp status alive.0) (taken_well past alive.1 i n k) (nat_eq i j) refl (nat_eq n m) refl (nat_eq k l) refl e
  where
    by : (old : Option TakenStatus) (t : TakenStatus) → ((row_of t.status).resp == 0) ≡ true → (is_none_taken old ≡ false → IsWell old (passed past i n) k) → (b : Bool) → nat_eq i j ≡ b → (c : Bool) → nat_eq n m ≡ c → (d : Bool) → nat_eq k l ≡ d
        → is_none_taken (cond b (cond c (cond d (Some t) old) old) old) ≡ false → IsWell (cond b (cond c (cond d (Some t) old) old) old) (cond b (cond c (max (passed past j m) (suc l)) (passed past i n)) (passed past i n)) k
    by old t good was true p true q true r e = record { status = t; is = refl; good = good; past_it = (let same : k ≡ l = grind (arith, nat_tests) in omega (arith, same)) }
    by old t good was true p true q false r e =
        let w = was e in
        let at : i ≡ j = grind (arith, nat_tests) in
        let of : n ≡ m = grind (arith, nat_tests) in
        let there : passed past i n ≡ passed past j m = ap (λ x. passed past x n) at ∙ ap (passed past j) of in
        record { status = w.status; is = w.is; good = w.good; past_it = (let low = w.past_it in omega (arith, low, there)) }
    by old t good was true p false q d r e = was e
    by old t good was false p c q d r e = was e
taken_well (_ ∷ past) alive i n k e = taken_well past alive.1 i n k e

-- ---- the last one alone
lt_true : (a b : ℕ) → a < b → nat_lt a b ≡ true
lt_true a b low = by (nat_lt a b) refl
  where
    by : (c : Bool) → nat_lt a b ≡ c → c ≡ true
    by true e = refl
    by false e = absurd (grind (arith, nat_tests))

four : (a b c d : Bool) → a ≡ true → b ≡ true → d ≡ true → (a && b && (c || d) && not false) ≡ true
four true true true d e f g = refl
four true true false true e f g = refl
four true true false false e f g = cc g
four true false c d e f g = cc f
four false b c d e f g = cc e

over_so : (found : Option TakenStatus) (linking passing k n : ℕ) (pinned : Option Orb) → IsWell found passing k → suc k < linking → suc k < passing → pinned ≡ None → is_over_by found linking passing k (is_pinned pinned n k) ≡ true
over_so found linking passing k n pinned w more later none =
    ap (λ f. is_over_by f linking passing k (is_pinned pinned n k)) w.is ∙ ap (λ p. is_over_by (Some w.status) linking passing k (is_pinned p n k)) none
    ∙ four ((row_of w.status.status).resp == 0) (nat_lt (suc k) linking) (w.status.src == 0) (nat_lt (suc k) passing) w.good (lt_true (suc k) linking more) (lt_true (suc k) passing later)

it_is : (n k l : ℕ) → n ≡ 0 → k ≡ l → ((n == 0) && (k == l)) ≡ true
it_is n k l e f = by (nat_eq n 0) refl (nat_eq k l) refl
  where
    by : (b : Bool) → nat_eq n 0 ≡ b → (c : Bool) → nat_eq k l ≡ c → (b && c) ≡ true
    by true p true q = refl
    by true p false q = absurd (grind (arith, nat_tests))
    by false p c q = absurd (grind (arith, nat_tests))

abbrev last_of : ℕ → ℕ
last_of zero = 0
last_of (suc k) = k

module _ (past : List Moment) (i : ℕ) (links : (n : ℕ) → linked past i n ≡ appends past i n) (free : pinned_orb past i ≡ None) (well : (k : ℕ) → k < appends past i 0 → IsWell (taken_at past i 0 k) (passed past i 0) k) where
  last_alone : (count : ℕ) → appends past i 0 ≡ count → (slot : SlotState) → IsKept past i slot → Sits count slot → IsOnly 0 (last_of count) slot
  last_alone count e vacant kept s = tt
  last_alone count e resting kept s = s
  last_alone zero e (used one) kept s = absurd (let low = s.1 in omega (arith, low))
  last_alone (suc m) e (used one) kept s = by (nat_lt (suc one.number) (suc m)) refl
    where
      by : (b : Bool) → nat_lt (suc one.number) (suc m) ≡ b → ((one.list == 0) && (one.number == m)) ≡ true
      by true f =
          let below : suc one.number < suc m = grind (arith, nat_tests) in
          let own : IsWell (taken_at past i one.list one.number) (passed past i one.list) one.number
          = subst (λ n. IsWell (taken_at past i n one.number) (passed past i n) one.number) (sym s.0) (well one.number (omega (arith, below, e))) in
          let last = (well m (omega (arith, e))).past_it in
          let links_it : linked past i one.list ≡ suc m = links one.list ∙ ap (appends past i) s.0 ∙ e in
          let passes : passed past i one.list ≡ passed past i 0 = ap (passed past i) s.0 in
          let over = over_so (taken_at past i one.list one.number) (linked past i one.list) (passed past i one.list) one.number one.list (pinned_orb past i) own (omega (arith, below, links_it)) (omega (arith, below, last, passes)) free in
          absurd (let no : false ≡ true = sym kept ∙ over in cc no)
      by false f = it_is one.list one.number m s.0 (let low = s.1 in grind (arith, nat_tests))

abbrev AreLinked : List Moment → Type 0
AreLinked past = (i n : ℕ) → linked past i n ≡ appends past i n

-- so one slot is taken at most
pub one_taken : (past : List Moment) → EachMoment FirstAt past → OrderLaw nobody past → EachMoment IsCalmAt past → EachMoment IsAliveAt past → EachMoment DrillAt past → AreLinked past → AllTaken past → (i : ℕ) → taken_slots (slots past i) ≤ 1
one_taken past first order calm alive d links all i =
    let count : ℕ = appends past i 0 in
    let well : (k : ℕ) → k < count → IsWell (taken_at past i 0 k) (passed past i 0) k = λ k low. taken_well past alive i 0 k (all i 0 k low) in
    slots_apart.few past order i 0 (last_of count)
    (all_both (IsKept past i) (Sits count) (IsOnly 0 (last_of count)) (last_alone past i (links i) (none_pinned past d calm i) well count refl) (slots past i) (slots_apart.kept past i) (all_sit past first order calm alive d i))
