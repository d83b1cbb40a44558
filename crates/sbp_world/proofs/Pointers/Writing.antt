-- For which list each ORB_POINTER was written, moment by moment.
use Rattle.sbp_world.proofs.Words.Std.{arith, ◌≡◌, refl, sym, ◌∙◌, ap, subst, ℕ, zero, suc, ◌<◌, ◌≤◌, ◌==◌, nat_eq, is_some, Bool, true, false, cond, List, ◌∷◌, Some, None, nat_tests}
use Rattle.sbp_world.proofs.Words.Wire.{SerialsCount, Moment, said, terms, NoteBuffer}
use Rattle.sbp_world.proofs.Words.Laws.{Host, host_at, list_begins, linked, lowest_vacant, present_list, slot_at, slots, lists}
use Rattle.sbp_world.proofs.Words.World.{MayAppend, MayDrop, MayStand, begun_in}
use Rattle.sbp_journal.specs.declared.note.Note.TheVariants as notes
use Rattle.sbp_world.proofs.Hosts.PointerNotes.{pointer}
use Rattle.sbp_world.proofs.Hosts.Remaining.{step}
use Rattle.sbp_world.proofs.Pointers.Ages.{is_sight, moment_closes, moment_generation, seen_now}
use Rattle.sbp_world.proofs.Pointers.Names.{append_none, drop_none}
use Rattle.sbp_world.proofs.Pointers.Naming.{Follows, Naming, Plain, none_some, not_anew, plain_follows, plain_names, points_on}
use Rattle.sbp_world.proofs.Common.{cond_on, untrue, cond_off, itself, least}

-- ---- a moment that leaves lists and writes

pub plain_step : (m : Moment) (past : List Moment) (i : ℕ) → SerialsCount (m ∷ past) → Plain past (m ∷ past) i → pointer (m ∷ past) i ≡ pointer past i → (terms past).generation (suc i) ≤ (terms (m ∷ past)).generation (suc i) → Naming past i → Naming (m ∷ past) i
plain_step m past i c p e g k = plain_names p e (plain_follows p e (step m past c) g (moment_closes m past)) k

pub stays_in : (m : Moment) (past : List Moment) (i : ℕ) → is_sight (suc i) m ≡ false → (terms past).generation (suc i) ≤ (terms (m ∷ past)).generation (suc i)
stays_in m past i e = least _ _ (moment_generation (suc i) m past e)

-- a generation that is seen is no earlier one
pub rises_by : (past : List Moment) (i node generation : ℕ) → MayStand i (said (notes.Seen node generation)) past → (b : Bool) → (node == suc i) ≡ b → (terms past).generation (suc i) ≤ (terms (said (notes.Seen node generation) ∷ past)).generation (suc i)
rises_by past i node generation s false e = stays_in (said (notes.Seen node generation)) past i e
rises_by past i node generation s true e =
    let is : node ≡ suc i = grind (arith, nat_tests) in
    let now : (terms (said (notes.Seen node generation) ∷ past)).generation (suc i) ≡ generation = subst (λ n. (terms (said (notes.Seen n generation) ∷ past)).generation (suc i) ≡ generation) (sym is) (seen_now (suc i) generation past) in
    let l = s e in omega arith

-- ---- a list begins

pub some_is : {A : Type 0} (a b : A) → Some a ≡ Some b → a ≡ b
some_is a b e = cc

below_not : (m n : ℕ) → m < n → nat_eq m n ≡ false
below_not m n l = grind (arith, nat_tests)

pub absurd_below : {A : Type 0} (m n : ℕ) → m ≡ n → m < n → A
absurd_below m n e l = absurd (let x : ⊥ = omega arith in x)

module _ (i n : ℕ) (cdb : List ℕ) (buffer : NoteBuffer) (past : List Moment) (c : SerialsCount past) (a : MayAppend past i n zero) (k : Naming past i) where
  abbrev first : List Moment
  first = said (notes.Append i n zero cdb buffer) ∷ past

  no_list : present_list past i ≡ None
  no_list = (a.first refl).0

  next_list : n ≡ lists past i
  next_list = (a.first refl).1

  first_present : present_list first i ≡ Some n
  first_present = cond_on (nat_eq i i) (Some n) (present_list past i) (itself i)

  first_lists : lists first i ≡ suc (lists past i)
  first_lists = cond_on (nat_eq i i) (suc (lists past i)) (lists past i) (itself i)

  first_slot : (m : ℕ) → m < lists past i → slot_at first i m 0 ≡ slot_at past i m 0
  first_slot m l =
      cond_on (nat_eq i i) (cond (nat_eq m n) (lowest_vacant (slots past i)) (slot_at past i m 0)) (slot_at past i m 0) (itself i)
      ∙ cond_off (nat_eq m n) (lowest_vacant (slots past i)) (slot_at past i m 0) (below_not m n (subst (λ x. m < x) (sym next_list) l))

  abbrev age : ℕ
  age = (terms past).generation (suc i)

  first_ages : (m : ℕ) → m < lists past i → begun_in first i m ≡ begun_in past i m
  first_ages m l =
      cond_on (nat_eq i i) (cond (nat_eq m n) age (begun_in past i m)) (begun_in past i m) (itself i)
      ∙ cond_off (nat_eq m n) age (begun_in past i m) (below_not m n (subst (λ x. m < x) (sym next_list) l))

  first_age : (m : ℕ) → nat_eq m n ≡ true → begun_in first i m ≡ age
  first_age m e =
      cond_on (nat_eq i i) (cond (nat_eq m n) age (begun_in past i m)) (begun_in past i m) (itself i) ∙ cond_on (nat_eq m n) age (begun_in past i m) e

  first_linked : (m : ℕ) → linked first i m ≡ cond (nat_eq m n) 1 (linked past i m)
  first_linked m = cond_on (nat_eq i i) (cond (nat_eq m n) 1 (linked past i m)) (linked past i m) (itself i)

  first_follows : Follows past first i
  first_follows = record {
    remains = step (said (notes.Append i n zero cdb buffer)) past c;
    rises = least _ _ refl;
    closed = λ m e. e;
    more = (let e = first_lists in omega arith);
    slot = first_slot;
    ages = first_ages;
    anew = λ m a b. (no_list, first_age m (let f = first_lists in let g = next_list in let x : nat_eq m n ≡ true = grind (arith, nat_tests) in x));
    own = λ m serial l e h. absurd_below m (lists past i) (some_is m n (sym e ∙ first_present) ∙ next_list) l;
    stays = λ m serial packet s g h d p q. none_some (sym no_list ∙ q);
  }

  one_by : (m : ℕ) (b : Bool) → nat_eq m n ≡ b → m < lists first i → 0 < cond b 1 (linked past i m)
  one_by m true e l = omega arith
  one_by m false e l =
      k.one m (let f = first_lists in let g = next_list in grind (arith, nat_tests))

  small_by : (m : ℕ) (b : Bool) → nat_eq m n ≡ b → m < lists first i → slot_at first i m 0 < 32
  small_by m true e l =
      subst (λ x. x < 32)
      (sym (cond_on (nat_eq i i) (cond (nat_eq m n) (lowest_vacant (slots past i)) (slot_at past i m 0)) (slot_at past i m 0) (itself i)
      ∙ cond_on (nat_eq m n) (lowest_vacant (slots past i)) (slot_at past i m 0) e)) a.small
  small_by m false e l =
      let before : m < lists past i = (let f = first_lists in let g = next_list in grind (arith, nat_tests)) in
      subst (λ x. x < 32) (sym (first_slot m before)) (k.small m before)

  pub begins : Naming first i
  begins = record {
    each = λ m serial w. points_on first_follows m serial (k.each m serial w);
    order = λ m l serial other w v h. k.order m l serial other w v h;
    named = λ serial w. none_some (sym (append_none i n cdb buffer past) ∙ w);
    latest = λ m w. (let e = some_is m n (sym w ∙ first_present) in let f = first_lists in let g = next_list in omega arith);
    one = λ m l. subst (λ x. 0 < x) (sym (first_linked m)) (one_by m (nat_eq m n) refl l);
    small = λ m l. small_by m (nat_eq m n) refl l;
  }

-- ---- and goes on

later_name : (b : Bool) (host : Host) (k : ℕ) → (cond b (list_begins (suc k) host) host).pointer ≡ host.pointer
later_name true host k = refl
later_name false host k = refl

later_plain : (i n k : ℕ) (cdb : List ℕ) (buffer : NoteBuffer) (past : List Moment) → present_list past i ≡ Some n → Plain past (said (notes.Append i n (suc k) cdb buffer) ∷ past) i
later_plain i n k cdb buffer past e = record {
  writes = λ s. refl;
  begun = cond_on (nat_eq i i) (cond (nat_eq (suc k) 0) (suc (lists past i)) (lists past i)) (lists past i) (itself i) ∙ cond_off (nat_eq (suc k) 0) (suc (lists past i)) (lists past i) (not_first k);
  slot = λ m.
      cond_on (nat_eq i i) (cond (nat_eq m n) (cond (nat_eq 0 (suc k)) (lowest_vacant (slots past i)) (slot_at past i m 0)) (slot_at past i m 0)) (slot_at past i m 0) (itself i)
      ∙ same_slot (nat_eq m n) (nat_eq 0 (suc k)) (lowest_vacant (slots past i)) (slot_at past i m 0) (none_first k);
  ages = λ m. ap (λ (g : ℕ → ℕ → ℕ). g i m) (cond_off (nat_eq (suc k) 0) _ (begun_in past) (not_first k));
  present = cond_on (nat_eq i i) (Some n) (present_list past i) (itself i) ∙ sym e;
  links = λ m b. b;
}
  where
    not_first : (k : ℕ) → nat_eq (suc k) 0 ≡ false
    not_first k = grind (arith, nat_tests)

    none_first : (k : ℕ) → nat_eq 0 (suc k) ≡ false
    none_first k = grind (arith, nat_tests)

    same_slot : (b d : Bool) (x y : ℕ) → d ≡ false → cond b (cond d x y) y ≡ y
    same_slot true true x y f = untrue (sym f)
    same_slot true false x y f = refl
    same_slot false d x y f = refl

pub append_here : (i n k : ℕ) (cdb : List ℕ) (buffer : NoteBuffer) (past : List Moment) → SerialsCount past → MayAppend past i n k → Naming past i → Naming (said (notes.Append i n k cdb buffer) ∷ past) i
append_here i n zero cdb buffer past c a k = begins i n cdb buffer past c a k
append_here i n (suc m) cdb buffer past c a k =
    plain_step (said (notes.Append i n (suc m) cdb buffer)) past i c (later_plain i n m cdb buffer past (a.later (let x : 0 < suc m = omega arith in x))) (later_name (nat_eq i i) (host_at past i) m) (least _ _ refl) k

-- ---- a list ends

module _ (i n : ℕ) (past : List Moment) (c : SerialsCount past) (d : MayDrop past i) (k : Naming past i) where
  abbrev dropped : List Moment
  dropped = said (notes.Drop i n) ∷ past

  gone : present_list dropped i ≡ None
  gone = cond_on (nat_eq i i) None (present_list past i) (itself i)

  drop_follows : Follows past dropped i
  drop_follows = record {
    remains = step (said (notes.Drop i n)) past c;
    rises = least _ _ refl;
    closed = λ m e. e;
    more = least _ _ refl;
    slot = λ m l. refl;
    ages = λ m l. refl;
    anew = λ m a b. absurd (not_anew m a b refl);
    own = λ m serial l e h. none_some (sym gone ∙ e);
    stays = λ m serial packet s g h x p q. untrue (sym (ap is_some x) ∙ d.answered serial packet p s g);
  }

  pub ends : Naming dropped i
  ends = record {
    each = λ m serial w. points_on drop_follows m serial (k.each m serial w);
    order = λ m l serial other w v h. k.order m l serial other w v h;
    named = λ serial w. none_some (sym (drop_none i n past) ∙ w);
    latest = λ m w. none_some (sym gone ∙ w);
    one = λ m l. k.one m l;
    small = λ m l. k.small m l;
  }
