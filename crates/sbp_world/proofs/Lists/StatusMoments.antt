-- What the moments of a history leave of the ends of ORBs, of the packets that they send, and of the statuses that are taken: an ORB that ended has its number
-- below that of the ends, keeps its status and the packet that its end sent, and one whose status was taken has a status from then on.
use Rattle.sbp_world.proofs.Words.Std.{arith, ◌≡◌, ◌∙◌, refl, sym, ap, subst, ◌<◌, ◌≤◌, ◌==◌, ◌&&◌, ℕ, zero, suc, nat_eq, Bool, true, false, cond, List, [], ◌∷◌, ◌++◌, Option, Some, None, nat_tests, false≢true, same_Some, none-some}
use Rattle.sbp_world.proofs.Words.Wire.{Moment, asked, said}
use Rattle.sbp_world.proofs.Words.Initiator.{StatusKind}
use Rattle.sbp_world.proofs.Words.Laws.{Orb, TakenStatus, is_over, is_over_by, orb, present_list, taken_at, access_in_bytes, is_write_in, EndedOrb, first_of, is_due, status_due, status_packet, ended_status, ends, lists}
use Rattle.sbp_journal.specs.declared.note.Note.TheVariants as notes
use Rattle.sbp_world.proofs.Lists.Passing.{PassLaw}
use Rattle.sbp_world.proofs.Common.{itself}

-- ---- the packet that an end sent
module _ (i n k serial : ℕ) where
  stays : (b : Bool) (found : Option ℕ) (other : ℕ) → found ≡ Some serial → cond b (first_of found other) found ≡ Some serial
  stays true found other e = ap (λ (o : Option ℕ). first_of o other) e
  stays false found other e = e

  pub packet_stays : (later before : List Moment) → status_packet before i n k ≡ Some serial → status_packet (later ++ before) i n k ≡ Some serial
  packet_stays [] before e = e
  packet_stays (said (notes.Sent other generation zero to bytes) ∷ later) before e =
      stays (is_due (status_due (later ++ before)) i n k to && is_write_in (access_in_bytes bytes)) (status_packet (later ++ before) i n k) other (packet_stays later before e)
  packet_stays (said (notes.Sent other generation (suc from) to bytes) ∷ later) before e = packet_stays later before e
  packet_stays (_ ∷ later) before e = packet_stays later before e

-- ---- ends

more_ends : (past : List Moment) (j m l : ℕ) (status : StatusKind) (i n : ℕ) → ends past i n ≤ ends (said (notes.Ended j (Some m) (Some l) status) ∷ past) i n
more_ends past j m l status i n = by (nat_eq i j) (nat_eq n m) refl refl
  where
    by : (x y : Bool) → nat_eq i j ≡ x → nat_eq n m ≡ y → ends past i n ≤ cond x (cond y (suc (ends past j m)) (ends past i n)) (ends past i n)
    by true true e f =
        let same_i : i ≡ j = grind (arith, nat_tests) in
        let same_n : n ≡ m = grind (arith, nat_tests) in
        let same = ap (λ a. ends past a n) same_i ∙ ap (λ b. ends past j b) same_n in
        omega (arith, same)
    by true false e f = omega arith
    by false y e f = omega arith

pub ends_grow : (later before : List Moment) (i n : ℕ) → ends before i n ≤ ends (later ++ before) i n
ends_grow [] before i n = omega arith
ends_grow (said (notes.Ended j (Some m) (Some l) status) ∷ later) before i n =
    let a = ends_grow later before i n in let b = more_ends (later ++ before) j m l status i n in omega (arith, a, b)
ends_grow (said (notes.Ended j (Some m) None status) ∷ later) before i n = ends_grow later before i n
ends_grow (said (notes.Ended j None l status) ∷ later) before i n = ends_grow later before i n
ends_grow (_ ∷ later) before i n = ends_grow later before i n

-- the ORB that ends now is below the ends behind it
pub ended_below : (past : List Moment) (j m l : ℕ) (status : StatusKind) → l ≡ ends past j m → l < ends (said (notes.Ended j (Some m) (Some l) status) ∷ past) j m
ended_below past j m l status e =
    let at : ends (said (notes.Ended j (Some m) (Some l) status) ∷ past) j m ≡ suc (ends past j m) =
    ap (λ b. cond b (cond (nat_eq m m) (suc (ends past j m)) (ends past j m)) (ends past j m)) (itself j) ∙ ap (λ b. cond b (suc (ends past j m)) (ends past j m)) (itself m) in
    omega (arith, at, e)

-- ---- below the ends
pub record IsBelow (past : List Moment) (i : ℕ) : Type 0 where
  pub due : (one : EndedOrb) → status_due past ≡ Some one → one.initiator ≡ i → one.one.number < ends past i one.one.list
  pub packet : (n k serial : ℕ) → status_packet past i n k ≡ Some serial → k < ends past i n

all_four : (a b c d : Bool) → (a && b && c && d) ≡ true → (a ≡ true) × (b ≡ true) × (c ≡ true) × (d ≡ true)
all_four false b c d e = absurd (false≢true e)
all_four true false c d e = absurd (false≢true e)
all_four true true false d e = absurd (false≢true e)
all_four true true true false e = absurd (false≢true e)
all_four true true true true e = (refl, refl, refl, refl)

-- what is due is of this ORB
pub record DueIs (due : Option EndedOrb) (i n k : ℕ) : Type 0 where
  pub one : EndedOrb
  pub is : due ≡ Some one
  pub initiator : one.initiator ≡ i
  pub list : one.one.list ≡ n
  pub number : one.one.number ≡ k

pub due_is : (due : Option EndedOrb) (i n k to : ℕ) → is_due due i n k to ≡ true → DueIs due i n k
due_is None i n k to e = absurd (false≢true e)
due_is (Some one) i n k to e =
    let all = all_four (one.initiator == i) (one.one.list == n) (one.one.number == k) (to == suc i) e in
    let a = all.0 in
    let c = all.1 in
    let f = all.2 in
    record {
      one = one;
      is = refl;
      initiator = (let same : one.initiator ≡ i = grind (arith, nat_tests) in same);
      list = (let same : one.one.list ≡ n = grind (arith, nat_tests) in same);
      number = (let same : one.one.number ≡ k = grind (arith, nat_tests) in same);
    }

module _ (wild : ℕ → Bool) (i : ℕ) (own : wild i ≡ false) where
  ends_due : (past : List Moment) (j m l : ℕ) (status : StatusKind) → (wild j ≡ false → l ≡ ends past j m) → (one : EndedOrb) → Some (record { initiator = j; one = orb m l }) ≡ Some one → one.initiator ≡ i → one.one.number < ends (said (notes.Ended j (Some m) (Some l) status) ∷ past) i one.one.list
  ends_due past j m l status at one e same =
      let is : record { initiator = j; one = orb m l } ≡ one = same_Some _ one e in
      let here : j ≡ i = ap (λ (x : EndedOrb). x.initiator) is ∙ same in
      subst (λ (x : EndedOrb). x.one.number < ends (said (notes.Ended j (Some m) (Some l) status) ∷ past) i x.one.list) is
      (subst (λ a. l < ends (said (notes.Ended j (Some m) (Some l) status) ∷ past) a m) here (ended_below past j m l status (at (ap wild here ∙ own))))

  pub below : (past : List Moment) → PassLaw wild past → IsBelow past i
  below [] law = record { due = λ one e same. absurd (none-some one e); packet = λ n k serial e. absurd (let z : None ≡ Some serial = e in cc) }
  below (asked line event ∷ past) law = record { due = λ one e same. absurd (none-some one e); packet = (below past law.1).packet }
  below (said (notes.Got serial) ∷ past) law = record { due = λ one e same. absurd (none-some one e); packet = (below past law.1).packet }
  below (said (notes.Ignored serial cause) ∷ past) law = record { due = λ one e same. absurd (none-some one e); packet = (below past law.1).packet }
  below (said (notes.TimedOut serial) ∷ past) law = record { due = λ one e same. absurd (none-some one e); packet = (below past law.1).packet }
  below (said (notes.Ended j (Some m) (Some l) status) ∷ past) law =
      let b = below past law.1 in
      record {
        due = ends_due past j m l status (λ mild. (law.0 mild).turn.number);
        packet = λ n k serial e. let x = b.packet n k serial e in let y = more_ends past j m l status i n in omega (arith, x, y);
      }
  below (said (notes.Ended j (Some m) None status) ∷ past) law = let b = below past law.1 in record { due = b.due; packet = b.packet }
  below (said (notes.Ended j None l status) ∷ past) law = let b = below past law.1 in record { due = b.due; packet = b.packet }
  below (said (notes.Sent other generation zero to bytes) ∷ past) law =
      let b = below past law.1 in
      record { due = b.due; packet = λ n k serial e. by b n k serial (is_due (status_due past) i n k to) (is_write_in (access_in_bytes bytes)) refl e }
    where
      by : IsBelow past i → (n k serial : ℕ) (x y : Bool) → is_due (status_due past) i n k to ≡ x → cond (x && y) (first_of (status_packet past i n k) other) (status_packet past i n k) ≡ Some serial → k < ends past i n
      by b n k serial false y e f = b.packet n k serial f
      by b n k serial true y e f =
          let d = due_is (status_due past) i n k to e in
          subst (λ a. k < ends past i a) d.list (subst (λ a. a < ends past i d.one.one.list) d.number (b.due d.one d.is d.initiator))
  below (said (notes.Sent other generation (suc from) to bytes) ∷ past) law = let b = below past law.1 in record { due = b.due; packet = b.packet }
  below (_ ∷ past) law = let b = below past law.1 in record { due = b.due; packet = b.packet }

  -- ---- the status with which an ORB ended
  other_end : (past : List Moment) (j m l : ℕ) (status : StatusKind) (n k : ℕ) → (wild j ≡ false → l ≡ ends past j m) → k < ends past i n → ended_status (said (notes.Ended j (Some m) (Some l) status) ∷ past) i n k ≡ ended_status past i n k
  other_end past j m l status n k at b = by (nat_eq i j) (nat_eq n m) (nat_eq k l) refl refl refl
    where
      by : (x y z : Bool) → nat_eq i j ≡ x → nat_eq n m ≡ y → nat_eq k l ≡ z → cond x (cond y (cond z (Some status) (ended_status past i n k)) (ended_status past i n k)) (ended_status past i n k) ≡ ended_status past i n k
      by true true true e f g =
          let same_i : i ≡ j = grind (arith, nat_tests) in
          let same_n : n ≡ m = grind (arith, nat_tests) in
          let same_k : k ≡ l = grind (arith, nat_tests) in
          let number = at (ap wild (sym same_i) ∙ own) in
          let same = ap (λ a. ends past a n) same_i ∙ ap (λ c. ends past j c) same_n in
          absurd (omega (arith, b, number, same, same_k))
      by true true false e f g = refl
      by true false z e f g = refl
      by false y z e f g = refl

  pub ended_stays : (later before : List Moment) (n k : ℕ) → PassLaw wild (later ++ before) → k < ends before i n → ended_status (later ++ before) i n k ≡ ended_status before i n k
  ended_stays [] before n k law b = refl
  ended_stays (said (notes.Ended j (Some m) (Some l) status) ∷ later) before n k law b =
      let more = ends_grow later before i n in
      other_end (later ++ before) j m l status n k (λ mild. (law.0 mild).turn.number) (omega (arith, b, more)) ∙ ended_stays later before n k law.1 b
  ended_stays (said (notes.Ended j (Some m) None status) ∷ later) before n k law b = ended_stays later before n k law.1 b
  ended_stays (said (notes.Ended j None l status) ∷ later) before n k law b = ended_stays later before n k law.1 b
  ended_stays (_ ∷ later) before n k law b = ended_stays later before n k law.1 b

-- ---- a status that was taken
pub record HasTaken (past : List Moment) (i n k : ℕ) : Type 0 where
  pub taken : TakenStatus
  pub is : taken_at past i n k ≡ Some taken

taken_more : (x y z : Bool) (past : List Moment) (i n k : ℕ) (new : TakenStatus) → (t : TakenStatus) → taken_at past i n k ≡ Some t → (s : TakenStatus) × (cond x (cond y (cond z (Some new) (taken_at past i n k)) (taken_at past i n k)) (taken_at past i n k) ≡ Some s)
taken_more true true true past i n k new t e = (new, refl)
taken_more true true false past i n k new t e = (t, e)
taken_more true false z past i n k new t e = (t, e)
taken_more false y z past i n k new t e = (t, e)

pub taken_stays : (later before : List Moment) (i n k : ℕ) → HasTaken before i n k → HasTaken (later ++ before) i n k
taken_stays [] before i n k h = h
taken_stays (said (notes.Taken j m l status answer) ∷ later) before i n k h =
    let t = taken_stays later before i n k h in
    let s = taken_more (nat_eq i j) (nat_eq n m) (nat_eq k l) (later ++ before) i n k _ t.taken t.is in
    record { taken = s.0; is = s.1 }
taken_stays (_ ∷ later) before i n k h = let t = taken_stays later before i n k h in record { taken = t.taken; is = t.is }

-- an ORB that is over has one
taken_of : (past : List Moment) (i n k : ℕ) (found : Option TakenStatus) (linked passed : ℕ) (pinned : Bool) → taken_at past i n k ≡ found → is_over_by found linked passed k pinned ≡ true → HasTaken past i n k
taken_of past i n k None linked passed pinned e o = absurd (false≢true o)
taken_of past i n k (Some t) linked passed pinned e o = record { taken = t; is = e }

pub over_taken : (past : List Moment) (i : ℕ) (one : Orb) → is_over past i one ≡ true → HasTaken past i one.list one.number
over_taken past i one o = taken_of past i one.list one.number (taken_at past i one.list one.number) _ _ _ refl o

-- ---- the present list is the latest one
append_latest : (b : Bool) (m n before : ℕ) → m ≡ n → cond b m (suc m) ≡ before → suc n ≡ cond b (suc before) before
append_latest true m n before same list = omega (arith, same, list)
append_latest false m n before same list = omega (arith, same, list)

append_by : (x b : Bool) (m n of own : ℕ) (present : Option ℕ) → (present ≡ Some n → suc n ≡ own) → cond b m (suc m) ≡ of → cond x (Some m) present ≡ Some n → suc n ≡ cond x (cond b (suc of) of) own
append_by false b m n of own present old list g = old g
append_by true b m n of own present old list g = append_latest b m n of (same_Some m n g) list

drop_by : (x : Bool) (n own : ℕ) (present : Option ℕ) → (present ≡ Some n → suc n ≡ own) → cond x None present ≡ Some n → suc n ≡ own
drop_by true n own present old g = absurd (let z : None ≡ Some n = g in cc)
drop_by false n own present old g = old g

pub latest_of : (wild : ℕ → Bool) (past : List Moment) → PassLaw wild past → (i n : ℕ) → present_list past i ≡ Some n → suc n ≡ lists past i
latest_of wild [] law i n e = absurd (let z : None ≡ Some n = e in cc)
latest_of wild (said (notes.Append j m l cdb buffer) ∷ past) law i n e =
    append_by (nat_eq i j) (l == 0) m n (lists past j) (lists past i) (present_list past i) (λ g. latest_of wild past law.1 i n g) law.0.next.list e
latest_of wild (said (notes.Drop j m) ∷ past) law i n e = drop_by (nat_eq i j) n (lists past i) (present_list past i) (λ g. latest_of wild past law.1 i n g) e
latest_of wild (_ ∷ past) law i n e = latest_of wild past law.1 i n e
