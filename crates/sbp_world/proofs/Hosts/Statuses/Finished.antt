-- In every finished history each turn takes exactly the statuses that are due.
use Rattle.sbp_world.proofs.Words.Std.{arith, ◌≡◌, refl, sym, ◌∙◌, ap, ℕ, zero, suc, ◌<◌, ◌≤◌, nat_eq, Bool, true, false, cond, List, [], ◌∷◌, ◌++◌, Option, Some, None, Result, Ok, Err, append_assoc, nat_tests, AllByRecursion}
use Rattle.sbp_world.proofs.Words.Wire.{Access, Moment, asked, said, terms, Note}
use Rattle.sbp_world.proofs.Words.Initiator.{OrbFault, StatusBlock, StatusKind, read_block}
use Rattle.sbp_world.proofs.Words.Laws.{Orb, named, waits_in, access_at, receiver_in, Taking, TakesEach, if_waits, taking_at, taking_by, taking_of, takings_in, takes, EachMoment, EachTurn, EachTurnBefore}
use Rattle.sbp_world.proofs.Words.World.{history_of, Run, IsRun, IsTakenHere, OnceTakenLaw, TakenOf, TakesDue, of_one}
use Rattle.sbp_journal.specs.declared.note.Note.TheVariants as notes
use Rattle.sbp_laws.specs.StatusLaw.{of_others}
use Rattle.sbp_world.proofs.Hosts.Deliveries.{deliveries_law, some_same}
use Rattle.sbp_world.specs.Hosts.Statuses.Finished.{FinishedLaw}
use Rattle.sbp_world.proofs.Hosts.Statuses.Insides.{Inside}
use Rattle.sbp_world.proofs.Hosts.Statuses.Ranges.{InsideIn, run_inside}
use Rattle.sbp_world.proofs.Hosts.Statuses.Runs.{taking_law}
use Rattle.sbp_world.proofs.Common.{itself}

-- ---- a list of takings, at most one of them due

-- those of the first initiators
abbrev AreOf : ℕ → List Taking → Type 0
AreOf most xs = AllByRecursion (λ (x : Taking). x.initiator < most) xs

none_one : {x : Taking} {xs : List Taking} → x ∷ xs ≡ [] → ⊥
none_one e = cc

some_none : {x : Taking} → [] ≡ x ∷ [] → ⊥
some_none e = cc

own_first : (i : ℕ) (x : Taking) (xs : List Taking) → x.initiator ≡ i → of_one i (x ∷ xs) ≡ x ∷ of_one i xs
own_first i x xs e =
    let same : nat_eq i x.initiator ≡ true = grind (arith, nat_tests) in ap (λ (b : Bool). cond b (x ∷ of_one i xs) (of_one i xs)) same

module _ (most : ℕ) where
  abbrev AreSame : List Taking → List Taking → Type 0
  AreSame xs ys = (i : ℕ) → i < most → of_one i xs ≡ of_one i ys

  same_none : (xs : List Taking) → AreOf most xs → AreSame xs [] → xs ≡ []
  same_none [] a e = refl
  same_none (x ∷ xs) a e = absurd (none_one (sym (own_first x.initiator x xs refl) ∙ e x.initiator a.0))

  -- behind the one that is due stands none
  none_behind : (y x : Taking) (xs : List Taking) → AreOf most xs → x ∷ of_one x.initiator xs ≡ y ∷ [] → AreSame (x ∷ xs) (y ∷ []) → xs ≡ []
  none_behind y x [] a f e = refl
  none_behind y x (z ∷ zs) a f e = by_test (nat_eq z.initiator x.initiator) refl
    where
      rest_none : of_one x.initiator (z ∷ zs) ≡ []
      rest_none = cc

      same_y : x ≡ y
      same_y = cc

      by_test : (b : Bool) → nat_eq z.initiator x.initiator ≡ b → z ∷ zs ≡ []
      by_test true t = let same : z.initiator ≡ x.initiator = grind (arith, nat_tests) in absurd (none_one (sym (own_first x.initiator z zs same) ∙ rest_none))
      by_test false t =
          let away : nat_eq z.initiator y.initiator ≡ false = ap (λ (w : Taking). nat_eq z.initiator w.initiator) (sym same_y) ∙ t in
          absurd (none_one
          (sym (own_first z.initiator z zs refl)
          ∙ (sym (ap (λ (b : Bool). cond b (x ∷ of_one z.initiator (z ∷ zs)) (of_one z.initiator (z ∷ zs))) t)
          ∙ (e z.initiator a.0 ∙ ap (λ (b : Bool). cond b (y ∷ []) []) away))))

  same_one : (y : Taking) (xs : List Taking) → AreOf most xs → y.initiator < most → AreSame xs (y ∷ []) → xs ≡ y ∷ []
  same_one y [] a b e = absurd (some_none (e y.initiator b ∙ own_first y.initiator y [] refl))
  same_one y (x ∷ xs) a b e = by_test (nat_eq x.initiator y.initiator) refl
    where
      here : x ∷ of_one x.initiator xs ≡ cond (nat_eq x.initiator y.initiator) (y ∷ []) []
      here = sym (own_first x.initiator x xs refl) ∙ e x.initiator a.0

      by_test : (c : Bool) → nat_eq x.initiator y.initiator ≡ c → x ∷ xs ≡ y ∷ []
      by_test true t =
          let f : x ∷ of_one x.initiator xs ≡ y ∷ [] = here ∙ ap (λ (c : Bool). cond c (y ∷ []) []) t in
          let same : x ≡ y = cc in
          ap (λ (zs : List Taking). x ∷ zs) (none_behind y x xs a.1 f e) ∙ ap (λ (w : Taking). w ∷ []) same
      by_test false t = absurd (none_one (here ∙ ap (λ (c : Bool). cond c (y ∷ []) []) t))

  -- at most one is due, of the receiver of a packet
  abbrev IsDue : List Taking → Type 0
  IsDue ys = (xs : List Taking) → AreOf most xs → AreSame xs ys → xs ≡ ys

  due_waits : (past : List Moment) (j : ℕ) (found : Option Orb) (status : StatusKind) → j < most → IsDue (if_waits past j found status)
  due_waits past j None status b = same_none
  due_waits past j (Some one) status b = by_test (waits_in past j one.list one.number)
    where
      by_test : (c : Bool) → IsDue (cond c (record { initiator = j; one = one; status = status } ∷ []) [])
      by_test true = λ xs a e. same_one (record { initiator = j; one = one; status = status }) xs a b e
      by_test false = same_none

  due_block : (past : List Moment) (j : ℕ) (r : Result StatusBlock OrbFault) → j < most → IsDue (taking_of past j r)
  due_block past j (Err fault) b = same_none
  due_block past j (Ok block) b = due_waits past j (named past j block.orb) block.kind b

  pick_due : (c : Bool) (ys : List Taking) → IsDue ys → IsDue (cond c ys [])
  pick_due true ys d = d
  pick_due false ys d = same_none

  due_access : (past : List Moment) (j : ℕ) (access : Option Access) → j < most → IsDue (taking_by past j access)
  due_access past j None b = same_none
  due_access past j (Some access) b = pick_due _ (taking_of past j (read_block false access.payload)) (due_block past j (read_block false access.payload) b)

  due_got : (past : List Moment) (to : Option ℕ) (access : Option Access) → ((j : ℕ) → to ≡ Some (suc j) → j < most) → IsDue (taking_at past to access)
  due_got past None access b = same_none
  due_got past (Some zero) access b = same_none
  due_got past (Some (suc j)) access b = due_access past j access (b j refl)

  takings_of : (ns : List Note) → Inside most ns → AreOf most (takings_in ns)
  takings_of [] h = tt
  takings_of (notes.Taken j n k status answer ∷ ns) h = (h.0, takings_of ns h.1)
  takings_of (note ∷ ns) h = takings_of ns h

-- ---- a run

module _ (line : ℕ) (run : Run) (q : IsRun run) where
  abbrev all : List Moment
  all = history_of line run

  abbrev most_of : ℕ
  most_of = run.initiators

  receivers : (later past : List Moment) (serial : ℕ) → later ++ said (notes.Got serial) ∷ past ≡ all → (j : ℕ) → receiver_in ((terms past).sent serial) ≡ Some (suc j) → j < run.initiators
  receivers later past serial e j f =
      let d = deliveries_law.deliveries line run q later past serial e in
      d.inside j (some_same (ap receiver_in (sym d.was) ∙ f))

  module _ (wild : ℕ → Bool) where
    none_taken : (rest : List Note) → Inside most_of rest → AreSame most_of (takings_in rest) [] → of_others wild (takings_in rest) ≡ []
    none_taken rest b d = ap (of_others wild) (same_none most_of (takings_in rest) (takings_of most_of rest b) d)

    one_more : (later : List Moment) (moment : Moment) (past : List Moment) → later ++ moment ∷ past ≡ all → (later ++ moment ∷ []) ++ past ≡ all
    one_more later moment past e = append_assoc later (moment ∷ []) past ∙ e

    all_turns : (past : List Moment) (rest : List Note) (later : List Moment) → later ++ past ≡ all → Inside most_of rest → InsideIn most_of past → ((i : ℕ) → i < most_of → EachTurnBefore (TakesDue i) past rest) → EachTurnBefore (TakesEach wild) past rest
    all_turns [] rest later e b h d = tt
    all_turns (asked n event ∷ past) rest later e b h d =
        (none_taken rest b (λ i c. (d i c).0), all_turns past [] (later ++ asked n event ∷ []) (one_more later (asked n event) past e) tt h (λ i c. (d i c).1))
    all_turns (said (notes.Got serial) ∷ past) rest later e b h d = (
      ap (of_others wild)
          (due_got most_of past (receiver_in ((terms past).sent serial)) (access_at (terms past) serial) (receivers later past serial e) (takings_in rest) (takings_of most_of rest b) (λ i c. (d i c).0)),
      all_turns past [] (later ++ said (notes.Got serial) ∷ []) (one_more later (said (notes.Got serial)) past e) tt h (λ i c. (d i c).1),
    )
    all_turns (said (notes.Ignored serial cause) ∷ past) rest later e b h d =
        (none_taken rest b (λ i c. (d i c).0), all_turns past [] (later ++ said (notes.Ignored serial cause) ∷ []) (one_more later (said (notes.Ignored serial cause)) past e) tt h (λ i c. (d i c).1))
    all_turns (said (notes.TimedOut serial) ∷ past) rest later e b h d =
        (none_taken rest b (λ i c. (d i c).0), all_turns past [] (later ++ said (notes.TimedOut serial) ∷ []) (one_more later (said (notes.TimedOut serial)) past e) tt h (λ i c. (d i c).1))
    all_turns (said (notes.Seen node generation) ∷ past) rest later e b h d =
        (none_taken rest b (λ i c. (d i c).0), all_turns past [] (later ++ said (notes.Seen node generation) ∷ []) (one_more later (said (notes.Seen node generation)) past e) tt h (λ i c. (d i c).1))
    all_turns (said notes.Tick ∷ past) rest later e b h d =
        (none_taken rest b (λ i c. (d i c).0), all_turns past [] (later ++ said notes.Tick ∷ []) (one_more later (said notes.Tick) past e) tt h (λ i c. (d i c).1))
    all_turns (said notes.Settled ∷ past) rest later e b h d =
        (none_taken rest b (λ i c. (d i c).0), all_turns past [] (later ++ said notes.Settled ∷ []) (one_more later (said notes.Settled) past e) tt h (λ i c. (d i c).1))
    all_turns (said notes.Stopped ∷ past) rest later e b h d =
        (none_taken rest b (λ i c. (d i c).0), all_turns past [] (later ++ said notes.Stopped ∷ []) (one_more later (said notes.Stopped) past e) tt h (λ i c. (d i c).1))
    all_turns (said (notes.Taken j n k status answer) ∷ past) rest later e b h d =
        all_turns past (notes.Taken j n k status answer ∷ rest) (later ++ said (notes.Taken j n k status answer) ∷ []) (one_more later (said (notes.Taken j n k status answer)) past e) (h.0, b) h.1 d
    all_turns (said note ∷ past) rest later e b h d = all_turns past (note ∷ rest) (later ++ said note ∷ []) (one_more later (said note) past e) b h d

    each_turn : EachTurn (TakesEach wild) all
    each_turn = all_turns all [] [] refl tt (run_inside line run q) (λ i c. (taking_law.takings line run q i c).each)

  all_moments : (past : List Moment) → InsideIn most_of past → ((i : ℕ) → i < most_of → EachMoment (TakenOf i) past) → EachMoment IsTakenHere past
  all_moments [] h d = tt
  all_moments (said (notes.Taken i n k status answer) ∷ past) h d = ((d i h.0).0 (itself i), all_moments past h.1 (λ j c. (d j c).1))
  all_moments (said note ∷ past) h d = (tt, all_moments past h (λ j c. (d j c).1))
  all_moments (asked n event ∷ past) h d = (tt, all_moments past h (λ j c. (d j c).1))

pub finished_law : FinishedLaw
finished_law = record {
  each = λ line run q wild. each_turn line run q wild;
  taken = λ line run q. all_moments line run q (history_of line run) (run_inside line run q) (λ i c. (taking_law.takings line run q i c).taken);
}

-- ---- at most once

once_more : (a b c : Bool) (z u : ℕ) → z ≡ 0 → u ≤ 1 → cond a (cond b (cond c (suc z) u) u) u ≤ 1
once_more true true true z u e l = omega arith
once_more true true false z u e l = l
once_more true false c z u e l = l
once_more false b c z u e l = l

all_once : (past : List Moment) → EachMoment IsTakenHere past → (i n k : ℕ) → takes past i n k ≤ 1
all_once [] h i n k = omega arith
all_once (said (notes.Taken j m l status answer) ∷ past) h i n k = once_more (nat_eq i j) (nat_eq n m) (nat_eq k l) (takes past j m l) (takes past i n k) h.0.once (all_once past h.1 i n k)
all_once (said note ∷ past) h i n k = all_once past h.1 i n k
all_once (asked number event ∷ past) h i n k = all_once past h.1 i n k

pub once_taken_law : OnceTakenLaw
once_taken_law = record { once = λ line run q i n k. all_once (history_of line run) (finished_law.taken line run q) i n k }
