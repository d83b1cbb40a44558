-- What the history says of ORBs lasts, note by note.
use Rattle.sbp_world.proofs.Words.Std.{arith, ◌≡◌, refl, sym, ap, subst, ◌∙◌, ℕ, zero, suc, ◌<◌, ◌≤◌, ◌&&◌, nat_eq, nat_lt, Bool, true, false, cond, List, [], ◌∷◌, ◌++◌, Option, Some, nat_tests}
use Rattle.sbp_world.proofs.Words.Wire.{Moment, asked, said, terms, Cmd, Note, NoteBuffer, Side}
use Rattle.sbp_world.proofs.Words.Initiator.{start, Null, At, own}
use Rattle.sbp_world.proofs.Words.Laws.{address_of, cmd_of, linked, lowest_vacant, slots, id_of, Request, appends, event_of}
use Rattle.sbp_world.proofs.Words.World.{behind, Lasts, next_of}
use Rattle.bus_memory.specs.declared.window.Window.TheVariants as windows
use Rattle.sbp_journal.specs.declared.note.Note.TheVariants as notes
use Rattle.sbp_journal.specs.declared.side.Side.TheVariants as sides
use Rattle.sbp_world.specs.Hosts.Calls.{by_side}
use Rattle.sbp_world.proofs.Hosts.OrbTerms.{AreLeft, AreStill, IsStill, OrbTerms, append_first, append_next, dummy_said, first_linked, link_said, low_said, orb_terms, orbs_left, with_append, with_dummy, with_link, with_low}
use Rattle.sbp_world.proofs.Lists.BusyTold.{still_cut}
use Rattle.sbp_world.proofs.Pointers.Naming.{at_most, still_below}
use Rattle.sbp_world.proofs.Common.{itself}

abbrev pub Within : OrbTerms → Type 0
Within t = (n : ℕ) → t.linked n ≤ t.appended n

-- what some terms say stands in others, of which no ORB is linked that was not appended
pub record Last (t u : OrbTerms) : Type 0 where
  pub appended : (n : ℕ) → t.appended n ≤ u.appended n
  pub linked : (n : ℕ) → t.linked n ≤ u.linked n
  pub within : Within u
  pub place : (n k : ℕ) → k < t.appended n → u.place n k ≡ t.place n k
  pub request : (n k : ℕ) → k < t.appended n → u.request n k ≡ t.request n k
  pub command : (n k : ℕ) → k < t.appended n → u.command n k ≡ t.command n k
  pub id : (n k : ℕ) → k < t.appended n → u.id n k ≡ t.id n k
  pub dummy : (n k : ℕ) → t.dummy n k ≡ true → u.dummy n k ≡ true

same_count : (n : ℕ) → n ≤ n
same_count n = omega arith

pub last_same : (t : OrbTerms) → Within t → Last t t
last_same t w = record {
  appended = λ n. same_count (t.appended n);
  linked = λ n. same_count (t.linked n);
  within = w;
  place = λ n k b. refl;
  request = λ n k b. refl;
  command = λ n k b. refl;
  id = λ n k b. refl;
  dummy = λ n k e. e;
}

pub last_on : (t u v : OrbTerms) → Last t u → Last u v → Last t v
last_on t u v a b = record {
  appended = λ n. at_most (t.appended n) (u.appended n) (v.appended n) (a.appended n) (b.appended n);
  linked = λ n. at_most (t.linked n) (u.linked n) (v.linked n) (a.linked n) (b.linked n);
  within = b.within;
  place = λ n k h. b.place n k (still_below k (t.appended n) (u.appended n) h (a.appended n)) ∙ a.place n k h;
  request = λ n k h. b.request n k (still_below k (t.appended n) (u.appended n) h (a.appended n)) ∙ a.request n k h;
  command = λ n k h. b.command n k (still_below k (t.appended n) (u.appended n) h (a.appended n)) ∙ a.command n k h;
  id = λ n k h. b.id n k (still_below k (t.appended n) (u.appended n) h (a.appended n)) ∙ a.id n k h;
  dummy = λ n k e. b.dummy n k (a.dummy n k e);
}

-- ---- an append

pub other_name : {A : Type 0} (a b : Bool) (new old : A) → (a ≡ true → b ≡ true → ⊥) → cond a (cond b new old) old ≡ old
other_name true true new old h = absurd (h refl refl)
other_name true false new old h = refl
other_name false b new old h = refl

other_id : (a b : Bool) (new old : ℕ) → (a ≡ true → b ≡ true → ⊥) → cond (a && b) new old ≡ old
other_id true true new old h = absurd (h refl refl)
other_id true false new old h = refl
other_id false b new old h = refl

module _ (t : OrbTerms) (n k : ℕ) (new : k ≡ t.appended n) where
  no_old : (m l : ℕ) → l < t.appended m → nat_eq m n ≡ true → nat_eq l k ≡ true → ⊥
  no_old m l h a b =
      let same : m ≡ n = grind (arith, nat_tests) in
      let f : t.appended m ≡ t.appended n = ap t.appended same in
      let g : l ≡ k = grind (arith, nat_tests) in
      absurd (omega arith)

  no_old_id : (m l : ℕ) → l < t.appended m → nat_eq n m ≡ true → nat_eq k l ≡ true → ⊥
  no_old_id m l h a b = no_old m l h (grind (arith, nat_tests)) (grind (arith, nat_tests))

  more : (m : ℕ) (b : Bool) → nat_eq m n ≡ b → t.appended m ≤ cond b (suc (t.appended n)) (t.appended m)
  more m true e =
      let same : m ≡ n = grind (arith, nat_tests) in
      let f : t.appended m ≡ t.appended n = ap t.appended same in
      omega arith
  more m false e = same_count (t.appended m)

  append_last : (request : Option Request) (command : Option Cmd) (slot node : ℕ) (linked : ℕ → ℕ) → ((m : ℕ) → t.linked m ≤ linked m) → ((m : ℕ) → linked m ≤ cond (nat_eq m n) (suc (t.appended n)) (t.appended m)) → Last t (with_append true true n k request command (suc (t.appended n)) slot node linked t)
  append_last request command slot node linked on within = record {
    appended = λ m. more m (nat_eq m n) refl;
    linked = on;
    within = within;
    place = λ m l h. other_name (nat_eq m n) (nat_eq l k) slot (t.place m l) (no_old m l h);
    request = λ m l h. other_name (nat_eq m n) (nat_eq l k) request (t.request m l) (no_old m l h);
    command = λ m l h. other_name (nat_eq m n) (nat_eq l k) command (t.command m l) (no_old m l h);
    id = λ m l h. other_id (nat_eq n m) (nat_eq k l) node (t.id m l) (no_old_id m l h);
    dummy = λ m l e. e;
  }

module _ (t : OrbTerms) (w : Within t) (n : ℕ) where
  -- the first ORB of a list
  first_on : 0 ≡ t.appended n → (m : ℕ) (b : Bool) → nat_eq m n ≡ b → t.linked m ≤ cond b 1 (t.linked m)
  first_on new m true e =
      let same : m ≡ n = grind (arith, nat_tests) in
      let f : t.appended m ≡ t.appended n = ap t.appended same in
      let g = w m in
      omega arith
  first_on new m false e = same_count (t.linked m)

  first_within : (m : ℕ) (b : Bool) → cond b 1 (t.linked m) ≤ cond b (suc (t.appended n)) (t.appended m)
  first_within m true = omega arith
  first_within m false = w m

  next_within : (m : ℕ) (b : Bool) → nat_eq m n ≡ b → t.linked m ≤ cond b (suc (t.appended n)) (t.appended m)
  next_within m true e =
      let same : m ≡ n = grind (arith, nat_tests) in
      let f : t.appended m ≡ t.appended n = ap t.appended same in
      let g = w m in
      omega arith
  next_within m false e = w m

  -- ---- a link, a low quadlet and a dummy

  module _ (k : ℕ) (latest : suc k ≡ t.appended n) where
    link_on : (m : ℕ) (b : Bool) → nat_eq m n ≡ b → t.linked m ≤ cond b (suc k) (t.linked m)
    link_on m true e =
        let same : m ≡ n = grind (arith, nat_tests) in
        let f : t.appended m ≡ t.appended n = ap t.appended same in
        let g = w m in
        omega arith
    link_on m false e = same_count (t.linked m)

    link_within : (m : ℕ) (b : Bool) → nat_eq m n ≡ b → cond b (suc k) (t.linked m) ≤ t.appended m
    link_within m true e =
        let same : m ≡ n = grind (arith, nat_tests) in
        let f : t.appended m ≡ t.appended n = ap t.appended same in
        omega arith
    link_within m false e = w m

    link_last : Last t (with_link true n k t)
    link_last = record {
      appended = λ m. same_count (t.appended m);
      linked = λ m. link_on m (nat_eq m n) refl;
      within = λ m. link_within m (nat_eq m n) refl;
      place = λ m l h. refl;
      request = λ m l h. refl;
      command = λ m l h. refl;
      id = λ m l h. refl;
      dummy = λ m l e. e;
    }

  low_last : (k : ℕ) → Last t (with_low true n k t)
  low_last k = record {
    appended = λ m. same_count (t.appended m);
    linked = λ m. same_count (t.linked m);
    within = w;
    place = λ m l h. refl;
    request = λ m l h. refl;
    command = λ m l h. refl;
    id = λ m l h. refl;
    dummy = λ m l e. e;
  }

  dummy_last : (k : ℕ) → Last t (with_dummy true n k t)
  dummy_last k = record {
    appended = λ m. same_count (t.appended m);
    linked = λ m. same_count (t.linked m);
    within = w;
    place = λ m l h. refl;
    request = λ m l h. refl;
    command = λ m l h. refl;
    id = λ m l h. refl;
    dummy = λ m l e. still_cut (nat_eq m n) (nat_eq l k) (t.dummy m l) e;
  }

-- ---- a history

-- an ORB that is appended has the next number of its list
abbrev pub IsNumbered : List Moment → Moment → ℕ → Type 0
IsNumbered past (said (notes.Append j n k cdb buffer)) i = nat_eq j i ≡ true → k ≡ appends past i n
IsNumbered past _ i = Unit {0}

pub record IsLast (past : List Moment) (m : Moment) (i : ℕ) : Type 0 where
  pub last : Last (orb_terms past i) (orb_terms (m ∷ past) i)
  pub numbered : IsNumbered past m i

abbrev pub AllLast : List Moment → ℕ → Type 0
AllLast [] i = Unit {0}
AllLast (m ∷ past) i = IsLast past m i × AllLast past i

pub within_of : (past : List Moment) (i : ℕ) → AllLast past i → Within (orb_terms past i)
within_of [] i h = λ n. same_count 0
within_of (m ∷ past) i h = h.0.last.within

-- from each of its moments on
pub from_there : (later before : List Moment) (i : ℕ) → AllLast (later ++ before) i → Last (orb_terms before i) (orb_terms (later ++ before) i) × Within (orb_terms before i)
from_there [] before i h = (last_same (orb_terms before i) (within_of before i h), within_of before i h)
from_there (m ∷ later) before i h =
    let b = from_there later before i h.1 in
    (last_on (orb_terms before i) (orb_terms (later ++ before) i) (orb_terms (m ∷ later ++ before) i) b.0 h.0.last, b.1)

module _ (before past : List Moment) (i : ℕ) (last : Last (orb_terms before i) (orb_terms past i)) (w : Within (orb_terms before i)) where
  next_on : (n k address : ℕ) (b : Bool) → nat_lt (suc k) (linked before i n) ≡ b → cond b (At (address_of before i n (suc k))) Null ≡ At address → next_of past i n k ≡ At address
  next_on n k address false e f = absurd (differ f)
    where
      differ : Null ≡ At address → ⊥
      differ e = cc
  next_on n k address true e f =
      let b : suc k < linked before i n = grind (arith, nat_tests) in
      let on : linked before i n ≤ linked past i n = last.linked n in
      let in_it : linked before i n ≤ appends before i n = w n in
      let c : nat_lt (suc k) (linked past i n) ≡ true = grind (arith, nat_tests) in
      ap (λ x. cond x (At (address_of past i n (suc k))) Null) c
      ∙ (ap (λ x. At (start (windows.Orb x))) (last.place n (suc k) (omega arith)) ∙ f)

  pub lasts : Lasts before past i
  lasts = record {
    appended = last.appended;
    linked_on = last.linked;
    linked_in = w;
    slot = last.place;
    request = last.request;
    command = last.command;
    node = last.id;
    dummy = last.dummy;
    next = λ n k address e. next_on n k address (nat_lt (suc k) (linked before i n)) refl e;
  }

-- ---- one more moment

-- an ORB more of its list
pub one_more : (past : List Moment) (i n k : ℕ) (cdb : List ℕ) (buffer : NoteBuffer) → appends (said (notes.Append i n k cdb buffer) ∷ past) i n ≡ suc (appends past i n)
one_more past i n k cdb buffer =
    ap (λ b. cond b (cond (nat_eq n n) (suc (appends past i n)) (appends past i n)) (appends past i n)) (itself i)
    ∙ ap (λ b. cond b (suc (appends past i n)) (appends past i n)) (itself n)

pub one_of : (i j n k : ℕ) (cdb : List ℕ) (buffer : NoteBuffer) (past : List Moment) → nat_eq j i ≡ true → appends (said (notes.Append j n k cdb buffer) ∷ past) i n ≡ suc (appends past i n)
one_of i j n k cdb buffer past e =
    let same : j ≡ i = grind (arith, nat_tests) in
    subst (λ x. appends (said (notes.Append x n k cdb buffer) ∷ past) i n ≡ suc (appends past i n)) (sym same) (one_more past i n k cdb buffer)

no_more : (a : ℕ) → suc a ≡ a → ⊥
no_more a e = omega arith

-- what leaves the ORBs appends none
numbered_same : (m : Moment) (past : List Moment) (i : ℕ) → orb_terms (m ∷ past) i ≡ orb_terms past i → IsNumbered past m i
numbered_same (said (notes.Append j n k cdb buffer)) past i e = λ own.
    absurd (no_more (appends past i n) (sym (one_of i j n k cdb buffer past own) ∙ ap (λ (t : OrbTerms). t.appended n) e))
numbered_same (said note) past i e = tt
numbered_same (asked line event) past i e = tt

module _ (past : List Moment) (i : ℕ) (h : AllLast past i) where
  abbrev t : OrbTerms
  t = orb_terms past i

  pub same_all : (m : Moment) → orb_terms (m ∷ past) i ≡ t → AllLast (m ∷ past) i
  same_all m e = (record { last = subst (Last t) (sym e) (last_same t (within_of past i h)); numbered = numbered_same m past i e }, h)

  pub append_all : (n k : ℕ) (cdb : List ℕ) (buffer : NoteBuffer) → k ≡ appends past i n → AllLast (said (notes.Append i n k cdb buffer) ∷ past) i
  append_all n zero cdb buffer new =
      let w = within_of past i h in (
        record {
          last = subst (Last t) (sym (append_first past i n cdb buffer))
              (append_last t n 0 new (Some (record { cdb = cdb; buffer = buffer })) (cmd_of (event_of past)) (lowest_vacant (slots past i)) (id_of (terms past) (suc i)) (first_linked true n t)
              (λ m. first_on t w n new m (nat_eq m n) refl) (λ m. first_within t w n m (nat_eq m n)));
          numbered = λ own. new;
        },
        h,
      )
  append_all n (suc k) cdb buffer new =
      let w = within_of past i h in (
        record {
          last = subst (Last t) (sym (append_next past i n k cdb buffer))
              (append_last t n (suc k) new (Some (record { cdb = cdb; buffer = buffer })) (cmd_of (event_of past)) (lowest_vacant (slots past i)) (id_of (terms past) (suc i)) (linked past i)
              (λ m. same_count (linked past i m)) (λ m. next_within t w n m (nat_eq m n) refl));
          numbered = λ own. new;
        },
        h,
      )

  pub link_all : (n k : ℕ) → suc k ≡ appends past i n → AllLast (said (notes.Linked i n k) ∷ past) i
  link_all n k latest = (record { last = subst (Last t) (sym (link_said past i n k)) (link_last t (within_of past i h) n k latest); numbered = tt }, h)

  pub low_all : (n k : ℕ) → AllLast (said (notes.Low i n k) ∷ past) i
  low_all n k = (record { last = subst (Last t) (sym (low_said past i n k)) (low_last t (within_of past i h) n k); numbered = tt }, h)

  pub dummy_all : (n k : ℕ) → AllLast (said (notes.Dummied i n k) ∷ past) i
  dummy_all n k = (record { last = subst (Last t) (sym (dummy_said past i n k)) (dummy_last t (within_of past i h) n k); numbered = tt }, h)

-- ---- what is told

pub left_all : (ns : List Note) (past : List Moment) (i : ℕ) → AreLeft i ns → AllLast past i → AllLast (behind (own ns) past) i
left_all [] past i l h = h
left_all (note ∷ ns) past i l h = left_all ns (said note ∷ past) i l.1 (same_all past i h (said note) (orbs_left note past i l.0))

pub still_all : (told : List Side) (past : List Moment) (i : ℕ) → AreStill told → AllLast past i → AllLast (behind told past) i
still_all [] past i q h = h
still_all (side ∷ told) past i q h = still_all told (by_side side past) i q.1 (one_side side past i q.0 h)
  where
    one_side : (side : Side) (past : List Moment) (i : ℕ) → IsStill side → AllLast past i → AllLast (by_side side past) i
    one_side (sides.Own note) past i q h = same_all past i h (said note) (orbs_left note past i (q i))
    one_side (sides.Opened place orb) past i q h = absurd q
    one_side (sides.Ran place orb cdb payload outcome) past i q h = absurd q
    one_side (sides.Ended place orb status) past i q h = absurd q
    one_side (sides.Dead place cause) past i q h = absurd q
    one_side (sides.Cut place cause) past i q h = absurd q
    one_side (sides.Managed node function subject status login) past i q h = absurd q
    one_side (sides.ManageFailed node cause) past i q h = absurd q
    one_side (sides.Held login) past i q h = absurd q
    one_side (sides.Expired login) past i q h = absurd q
    one_side (sides.Back login) past i q h = absurd q
    one_side (sides.Left login) past i q h = absurd q
    one_side (sides.Cleared unit) past i q h = absurd q
    one_side (sides.Unsolicited place) past i q h = absurd q
    one_side (sides.Unsent place) past i q h = absurd q
