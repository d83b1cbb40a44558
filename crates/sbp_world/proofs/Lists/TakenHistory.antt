-- What a history says of the lists of which statuses are taken: a list that is present was so from its first append on, the ORBs that ended were appended, an ORB that ended did so in
-- one moment, a packet is the status block of one ORB, and where statuses are taken in the order of the ORBs those that were taken are the ones below their count.
use Rattle.sbp_world.proofs.Words.Std.{arith, ◌≡◌, ◌∙◌, refl, sym, ap, subst, ◌<◌, ◌≤◌, ◌==◌, ◌+◌, ℕ, suc, nat_eq, Bool, true, false, cond, List, [], ◌∷◌, ◌++◌, Option, Some, None, nat_tests, same_Some, none-some}
use Rattle.sbp_world.proofs.Words.Wire.{SerialsCount, Moment, asked, said, terms}
use Rattle.sbp_world.proofs.Words.Initiator.{StatusKind}
use Rattle.sbp_world.proofs.Words.Laws.{EndedOrb, IsNextEnd, TakenStatus, is_due, present_list, status_due, status_packet, taken_at, appends, ended_status, ends, lists, EachMoment}
use Rattle.sbp_world.proofs.Words.World.{MayAppend, MayStand}
use Rattle.sbp_journal.specs.declared.note.Note.TheVariants as notes
use Rattle.sbp_world.specs.Lists.TakenTurns.{TakesInOrder, takes_in}
use Rattle.sbp_world.proofs.Hosts.Remaining.{remains}
use Rattle.sbp_world.proofs.Hosts.SentMoments.{count_now, now, serials_from}
use Rattle.sbp_world.proofs.Lists.AnswersCarriedBefore.{tail_is}
use Rattle.sbp_world.proofs.Lists.DataSlots.{appends_grow}
use Rattle.sbp_world.proofs.Lists.Passing.{PassLaw}
use Rattle.sbp_world.proofs.Lists.StatusMoments.{DueIs, due_is}
use Rattle.sbp_world.proofs.Lists.StatusNull.{WasDue, was_due}
use Rattle.sbp_world.proofs.Lists.UnrunTerms.{lists_grow}

-- ---- a list that is present, and had begun before, was present then
module _ (i n : ℕ) where
  append_before : (ms before : List Moment) (j m l : ℕ) (b : Bool) → nat_eq i j ≡ b → ((j == i) ≡ true → MayAppend ms i m l) → lists before i ≤ lists ms i → n < lists before i → (present_list ms i ≡ Some n → present_list before i ≡ Some n) → cond b (Some m) (present_list ms i) ≡ Some n → present_list before i ≡ Some n
  append_before ms before j m l false q a more low f e = f e
  append_before ms before j m l true q a more low f e = by (nat_eq l 0) refl
    where
      may : MayAppend ms i m l
      may = a (let z : nat_eq j i ≡ true = grind (arith, nat_tests) in z)

      same : m ≡ n
      same = same_Some m n e

      by : (c : Bool) → nat_eq l 0 ≡ c → present_list before i ≡ Some n
      by true z = let new = (may.first (grind (arith, nat_tests))).1 in let of = same in absurd (omega (arith, new, of, more, low))
      by false z = f (may.later (grind (arith, nat_tests)) ∙ ap Some same)

  drop_before : (ms before : List Moment) (b : Bool) → (present_list ms i ≡ Some n → present_list before i ≡ Some n) → cond b None (present_list ms i) ≡ Some n → present_list before i ≡ Some n
  drop_before ms before true f e = absurd (none-some n e)
  drop_before ms before false f e = f e

  pub present_before : (later before : List Moment) → EachMoment (MayStand i) (later ++ before) → n < lists before i → present_list (later ++ before) i ≡ Some n → present_list before i ≡ Some n
  present_before [] before l low e = e
  present_before (asked line event ∷ later) before l low e = present_before later before l.1 low e
  present_before (said (notes.Append j m k cdb buffer) ∷ later) before l low e =
      append_before (later ++ before) before j m k (nat_eq i j) refl l.0 (lists_grow i later before) low (λ f. present_before later before l.1 low f) e
  present_before (said (notes.Drop j m) ∷ later) before l low e = drop_before (later ++ before) before (nat_eq i j) (λ f. present_before later before l.1 low f) e
  present_before (said note ∷ later) before l low e = present_before later before l.1 low e

-- ---- the ORBs that ended were appended, of a list that has begun
pub record AreAppended (past : List Moment) (i n : ℕ) : Type 0 where
  pub appended : ends past i n ≤ appends past i n
  pub begun : 0 < ends past i n → n < lists past i

module _ (wild : ℕ → Bool) (i n : ℕ) (own : wild i ≡ false) where
  one_end : (past : List Moment) (j m l : ℕ) → (wild j ≡ false → IsNextEnd past j m l) → AreAppended past i n → (x y : Bool) → nat_eq i j ≡ x → nat_eq n m ≡ y → (cond x (cond y (suc (ends past j m)) (ends past i n)) (ends past i n) ≤ appends past i n) × (0 < cond x (cond y (suc (ends past j m)) (ends past i n)) (ends past i n) → n < lists past i)
  one_end past j m l turn h true true e f =
      let same_i : j ≡ i = grind (arith, nat_tests) in
      let same_n : m ≡ n = grind (arith, nat_tests) in
      let t : IsNextEnd past i n l = subst (λ a. IsNextEnd past i a l) same_n (subst (λ a. IsNextEnd past a m l) same_i (turn (ap wild same_i ∙ own))) in
      let same : ends past j m ≡ ends past i n = ap (λ a. ends past a m) same_i ∙ ap (λ a. ends past i a) same_n in
      let number = t.number in
      let below = t.appended in
      let latest = t.still.latest in
      (omega (arith, same, number, below), λ some. omega (arith, latest))
  one_end past j m l turn h true false e f = (h.appended, h.begun)
  one_end past j m l turn h false y e f = (h.appended, h.begun)

  pub are_appended : (past : List Moment) → PassLaw wild past → AreAppended past i n
  are_appended [] law = record { appended = omega arith; begun = λ some. absurd (omega (arith, some)) }
  are_appended (asked line event ∷ past) law = let h = are_appended past law.1 in record { appended = h.appended; begun = h.begun }
  are_appended (said (notes.Append j m l cdb buffer) ∷ past) law =
      let h = are_appended past law.1 in
      let x = said (notes.Append j m l cdb buffer) in
      let more = appends_grow i n 0 (x ∷ []) past in
      let low = h.appended in
      record {
        appended = omega (arith, more, low);
        begun = λ some. let a = h.begun some in let b = lists_grow i (x ∷ []) past in omega (arith, a, b);
      }
  are_appended (said (notes.Ended j (Some m) (Some l) status) ∷ past) law =
      let h = are_appended past law.1 in
      let r = one_end past j m l (λ mild. (law.0 mild).turn) h (nat_eq i j) (nat_eq n m) refl refl in
      record { appended = r.0; begun = r.1 }
  are_appended (said (notes.Ended j (Some m) None status) ∷ past) law = let h = are_appended past law.1 in record { appended = h.appended; begun = h.begun }
  are_appended (said (notes.Ended j None l status) ∷ past) law = let h = are_appended past law.1 in record { appended = h.appended; begun = h.begun }
  are_appended (said note ∷ past) law = let h = are_appended past law.1 in record { appended = h.appended; begun = h.begun }

-- ---- the moment of an end
module _ (i : ℕ) where
  pub record WasEnded (past : List Moment) (n k : ℕ) (status : StatusKind) : Type 0 where
    pub later : List Moment
    pub before : List Moment
    pub is : later ++ said (notes.Ended i (Some n) (Some k) status) ∷ before ≡ past

  further : (m : Moment) (past : List Moment) (n k : ℕ) (status : StatusKind) → WasEnded past n k status → WasEnded (m ∷ past) n k status
  further m past n k status w = record { later = m ∷ w.later; before = w.before; is = ap (λ h. m ∷ h) w.is }

  pub ended_moment : (past : List Moment) (n k : ℕ) (status : StatusKind) → ended_status past i n k ≡ Some status → WasEnded past n k status
  ended_moment [] n k status e = absurd (let z : None ≡ Some status = e in cc)
  ended_moment (said (notes.Ended j (Some m) (Some l) st) ∷ past) n k status e = by (λ f. further _ past n k status (ended_moment past n k status f)) (nat_eq i j) (nat_eq n m) (nat_eq k l) refl refl refl e
    where
      by : (ended_status past i n k ≡ Some status → WasEnded (said (notes.Ended j (Some m) (Some l) st) ∷ past) n k status) → (x y z : Bool) → nat_eq i j ≡ x → nat_eq n m ≡ y → nat_eq k l ≡ z → cond x (cond y (cond z (Some st) (ended_status past i n k)) (ended_status past i n k)) (ended_status past i n k) ≡ Some status → WasEnded (said (notes.Ended j (Some m) (Some l) st) ∷ past) n k status
      by again true true true f g h is =
          let same_i : i ≡ j = grind (arith, nat_tests) in
          let same_n : n ≡ m = grind (arith, nat_tests) in
          let same_k : k ≡ l = grind (arith, nat_tests) in
          record {
            later = [];
            before = past;
            is =
                ap (λ a. said (notes.Ended a (Some n) (Some k) status) ∷ past) same_i
                ∙ ap (λ a. said (notes.Ended j (Some a) (Some k) status) ∷ past) same_n
                ∙ ap (λ a. said (notes.Ended j (Some m) (Some a) status) ∷ past) same_k
                ∙ ap (λ x. said (notes.Ended j (Some m) (Some l) x) ∷ past) (sym (same_Some st status is));
          }
      by again true true false f g h is = again is
      by again true false z f g h is = again is
      by again false y z f g h is = again is
  ended_moment (said (notes.Ended j (Some m) None st) ∷ past) n k status e = further _ past n k status (ended_moment past n k status e)
  ended_moment (said (notes.Ended j None l st) ∷ past) n k status e = further _ past n k status (ended_moment past n k status e)
  ended_moment (m ∷ past) n k status e = further m past n k status (ended_moment past n k status e)

-- ---- a packet is the status block of one ORB
-- a packet is sent once
module _ (serial generation to : ℕ) (bytes : List ℕ) (before : List Moment) where
  abbrev leaves : List Moment
  leaves = now before serial generation 0 to bytes

  later_not : (mid past : List Moment) → mid ++ leaves ≡ past → SerialsCount past → serial ≡ (terms past).count + 1 → ⊥
  later_not mid past e c number =
      let d : SerialsCount (mid ++ leaves) = subst SerialsCount (sym e) c in
      let one : serial ≡ (terms before).count + 1 = (serials_from mid leaves d).0 in
      let count : (terms leaves).count ≡ (terms before).count + 1 = count_now before serial generation 0 to bytes in
      let more = (remains mid leaves d).count in
      let same : (terms (mid ++ leaves)).count ≡ (terms past).count = ap (λ ms. (terms ms).count) e in
      omega (arith, one, count, more, same, number)

same_place : (serial g to : ℕ) (bytes : List ℕ) (h too : ℕ) (more : List ℕ) (a b later other : List Moment) → later ++ now a serial g 0 to bytes ≡ other ++ now b serial h 0 too more → SerialsCount (later ++ now a serial g 0 to bytes) → SerialsCount (other ++ now b serial h 0 too more) → a ≡ b
same_place serial g to bytes h too more a b [] [] e c d = tail_is _ _ a b e
same_place serial g to bytes h too more a b [] (x ∷ other) e c d = absurd (later_not serial h too more b other a (sym (tail_is _ x a (other ++ now b serial h 0 too more) e)) (serials_from (said (notes.Sent serial g 0 to bytes) ∷ []) a c) c.0)
same_place serial g to bytes h too more a b (x ∷ later) [] e c d = absurd (later_not serial g to bytes a later b (tail_is x _ (later ++ now a serial g 0 to bytes) b e) (serials_from (said (notes.Sent serial h 0 too more) ∷ []) b d) d.0)
same_place serial g to bytes h too more a b (x ∷ later) (y ∷ other) e c d =
    same_place serial g to bytes h too more a b later other (tail_is x y (later ++ now a serial g 0 to bytes) (other ++ now b serial h 0 too more) e) (serials_from (x ∷ []) (later ++ now a serial g 0 to bytes) c) (serials_from (y ∷ []) (other ++ now b serial h 0 too more) d)

module _ (i : ℕ) where
  pub one_orb : (past : List Moment) → SerialsCount past → (n k m l serial : ℕ) → status_packet past i n k ≡ Some serial → status_packet past i m l ≡ Some serial → (n ≡ m) × (k ≡ l)
  one_orb past c n k m l serial e f =
      let a : WasDue i n k past serial = was_due i n k past serial e in
      let b : WasDue i m l past serial = was_due i m l past serial f in
      let same : a.before ≡ b.before = same_place serial a.generation a.to a.bytes b.generation b.to b.bytes a.before b.before a.later b.later (a.is ∙ sym b.is) (subst SerialsCount (sym a.is) c) (subst SerialsCount (sym b.is) c) in
      let x : DueIs (status_due b.before) i n k = due_is (status_due b.before) i n k a.to (subst (λ h. is_due (status_due h) i n k a.to ≡ true) same a.due) in
      let y : DueIs (status_due b.before) i m l = due_is (status_due b.before) i m l b.to b.due in
      let one : x.one ≡ y.one = same_Some x.one y.one (sym x.is ∙ y.is) in
      (sym x.list ∙ (ap (λ (o : EndedOrb). o.one.list) one ∙ y.list), sym x.number ∙ (ap (λ (o : EndedOrb). o.one.number) one ∙ y.number))

-- ---- where statuses are taken in order, those that were taken are the ones below their count
pub record IsCounted (found : Option TakenStatus) (k count : ℕ) : Type 0 where
  pub there : k < count → (t : TakenStatus) × (found ≡ Some t)
  pub below : (t : TakenStatus) → found ≡ Some t → k < count

module _ (i : ℕ) where
  one_more : (past : List Moment) (j m l n k : ℕ) (new : TakenStatus) → ((i == j) ≡ true → l ≡ takes_in past i m) → IsCounted (taken_at past i n k) k (takes_in past i n) → (x y z : Bool) → nat_eq i j ≡ x → nat_eq n m ≡ y → nat_eq k l ≡ z → IsCounted (cond x (cond y (cond z (Some new) (taken_at past i n k)) (taken_at past i n k)) (taken_at past i n k)) k (cond x (cond y (suc (takes_in past j m)) (takes_in past i n)) (takes_in past i n))
  one_more past j m l n k new order c true true true e f g =
      let number = order e in
      let same_i : i ≡ j = grind (arith, nat_tests) in
      let same_k : k ≡ l = grind (arith, nat_tests) in
      let same = ap (λ a. takes_in past a m) same_i in
      record { there = λ low. (new, refl); below = λ t h. omega (arith, number, same_k, same) }
  one_more past j m l n k new order c true true false e f g =
      let number = order e in
      let same_i : i ≡ j = grind (arith, nat_tests) in
      let same_n : n ≡ m = grind (arith, nat_tests) in
      let same : takes_in past j m ≡ takes_in past i m = ap (λ a. takes_in past a m) (sym same_i) in
      let here : takes_in past i n ≡ takes_in past i m = ap (λ a. takes_in past i a) same_n in
      record {
        there = λ low. c.there (let z : k < takes_in past i n = grind (arith, nat_tests, number, same, here, low, g) in z);
        below = λ t h. let b = c.below t h in omega (arith, b, same, here);
      }
  one_more past j m l n k new order c true false z e f g = record { there = c.there; below = c.below }
  one_more past j m l n k new order c false y z e f g = record { there = c.there; below = c.below }

  pub counted : (past : List Moment) → EachMoment (TakesInOrder i) past → (n k : ℕ) → IsCounted (taken_at past i n k) k (takes_in past i n)
  counted [] each n k = record { there = λ low. absurd (omega (arith, low)); below = λ t e. absurd (none-some t e) }
  counted (said (notes.Taken j m l status answer) ∷ past) each n k = one_more past j m l n k _ each.0 (counted past each.1 n k) (nat_eq i j) (nat_eq n m) (nat_eq k l) refl refl refl
  counted (asked line event ∷ past) each n k = counted past each.1 n k
  counted (said note ∷ past) each n k = counted past each.1 n k
