-- Which ORBs have rooms: those of lists that were not cut, behind the ones that ended and the one that an agent works.
use Rattle.sbp_world.proofs.Words.Std.{arith, ◌≡◌, ◌∙◌, refl, sym, ap, subst, ◌<◌, ◌≤◌, ◌&&◌, ◌||◌, ℕ, zero, suc, nat_eq, nat_lt, Bool, true, false, cond, List, length, Option, Some, None, nat_tests, false≢true}
use Rattle.sbp_world.proofs.Words.Wire.{Moment}
use Rattle.sbp_world.proofs.Words.Target.{Machine, Phase}
use Rattle.sbp_world.proofs.Words.Laws.{appends, command_at, ends, is_cut, is_list, linked, lists}
use Rattle.sbp_world.proofs.Words.World.{IsCalm, OpenLists, WorldState, holder, initiator_in, has_list, machine_at}
use Rattle.agent_laws.specs.Along.Along.{Knows, Progress}
use Rattle.agent_laws.specs.Along.Lists.{OrbList}
use Rattle.command_agent.specs.Making.{is_at_work}
use Rattle.command_agent.specs.declared.phase.Phase.TheVariants as phases
use Rattle.sbp_world.proofs.Common.{itself, all_three, not_true, or_left, or_right}
use Rattle.sbp_world.proofs.Lists.Busy.{busy_list, is_busy}
use Rattle.sbp_world.specs.Counting.Rooms.{half_of, is_at_work_in, is_begun, is_worked, room, works_at, works_below}
use Rattle.sbp_world.specs.Lists.Along.{AreAlong}

-- ---- truth values

pub not_both : {A : Type 0} (b : Bool) → b ≡ false → b ≡ true → A
not_both b e f = absurd (false≢true (sym e ∙ f))

three : (x y z : Bool) → (x && y && z) ≡ true → (x ≡ true) × ((y ≡ true) × (z ≡ true))
three true true true e = (refl, (refl, refl))
three true true false e = absurd (false≢true e)
three true false z e = absurd (false≢true e)
three false y z e = absurd (false≢true e)

-- ---- agents at work
-- the phases in which an agent is at work are those in which it has an ORB that has not ended
pub busy_is : (phase : Phase) → is_busy phase ≡ is_at_work phase
busy_is phases.Reset = refl
busy_is phases.Dead = refl
busy_is phases.Fetching = refl
busy_is phases.ReadingTable = refl
busy_is (phases.ReadingData wanted) = refl
busy_is phases.Answering = refl
busy_is phases.WritingStatus = refl
busy_is phases.WritingLastStatus = refl
busy_is phases.ReadingNext = refl
busy_is phases.Suspended = refl

pub work_lists : (phase : Phase) → is_at_work phase ≡ true → has_list phase ≡ true
work_lists phase e = busy_list phase (busy_is phase ∙ e)

-- the ORB that it works is linked
next_in : (l : OrbList) (p : Progress) (phase : Phase) (m : Machine) → is_at_work phase ≡ true → Knows l p phase m → p.ended < l.linked
next_in l p phases.Fetching m e k = k.turn.linked
next_in l p phases.ReadingTable m e k = k.awaits.turn.linked
next_in l p (phases.ReadingData wanted) m e k = k.awaits.turn.linked
next_in l p phases.Answering m e k = k.told.turn.linked
next_in l p phases.Reset m e k = absurd (false≢true e)
next_in l p phases.Dead m e k = absurd (false≢true e)
next_in l p phases.WritingStatus m e k = absurd (false≢true e)
next_in l p phases.WritingLastStatus m e k = absurd (false≢true e)
next_in l p phases.ReadingNext m e k = absurd (false≢true e)
next_in l p phases.Suspended m e k = absurd (false≢true e)

-- An agent at work has the latest list of its initiator, which was not cut, and an ORB of it was appended behind those that have ended.
pub record IsWorking (past : List Moment) (w : WorldState) (place : ℕ) : Type 0 where
  pub n : ℕ
  pub list : (holder w place).list ≡ Some n
  pub latest : suc n ≡ lists past (initiator_in w place)
  pub uncut : is_cut past (initiator_in w place) n ≡ false
  pub next : ends past (initiator_in w place) n < appends past (initiator_in w place) n

abbrev pub AreWorking : List Moment → WorldState → Type 0
AreWorking past w = (place : ℕ) → place < 8 → is_at_work_in w place ≡ true → IsCalm past (initiator_in w place) → IsWorking past w place

-- so is each, where lists are open as they should be and agents are along them
abbrev pub AreWithin : List Moment → WorldState → Type 0
AreWithin past w = (i n : ℕ) → i < length w.initiators → linked past i n ≤ appends past i n

pub are_working : (past : List Moment) (w : WorldState) → OpenLists past w → AreAlong past w → AreWithin past w → AreWorking past w
are_working past w lists along within place b e calm =
    let h = work_lists (machine_at w place).phase e in
    let o = lists.listed place b h calm in
    let a = along.all place b h calm o.n o.list in
    let is = a.is in
    let low = next_in _ a.progress (machine_at w place).phase (machine_at w place) e a.along.main in
    let most = within (initiator_in w place) o.n o.inside in
    record { n = o.n; list = o.list; latest = o.still.latest; uncut = o.still.uncut; next = omega (arith, is, low, most) }

-- ---- who works a list
pub record WorksOn (w : WorldState) (i n : ℕ) : Type 0 where
  pub place : ℕ
  pub small : place < 8
  pub initiator_is : initiator_in w place ≡ i
  pub list : (holder w place).list ≡ Some n
  pub busy : is_at_work_in w place ≡ true

list_of : (x : Option ℕ) (n : ℕ) → is_list x n ≡ true → x ≡ Some n
list_of None n e = absurd (false≢true e)
list_of (Some m) n e = let test : nat_eq m n ≡ true = e in let same : m ≡ n = grind (arith, nat_tests) in ap (λ k. Some k) same

module _ (w : WorldState) (i n : ℕ) where
  works_here : (place : ℕ) → place < 8 → works_at w i n place ≡ true → WorksOn w i n
  works_here place b e =
      let parts = three (nat_eq (initiator_in w place) i) (is_list (holder w place).list n) (is_at_work_in w place) e in
      let first = parts.0 in
      record {
        place = place;
        small = b;
        initiator_is = grind (arith, nat_tests);
        list = list_of (holder w place).list n parts.1.0;
        busy = parts.1.1;
      }

  among : (places : ℕ) → places ≤ 8 → works_below w i n places ≡ true → WorksOn w i n
  unfolding works_below
  among zero b e = absurd (false≢true e)
  among (suc place) b e = by (works_at w i n place) refl e (λ f. among place (omega (arith, b)) f)
    where
      by : (x : Bool) → works_at w i n place ≡ x → (x || works_below w i n place) ≡ true → (works_below w i n place ≡ true → WorksOn w i n) → WorksOn w i n
      by true f g rest = works_here place (omega (arith, b)) f
      by false f g rest = rest g

  pub worker : is_worked w i n ≡ true → WorksOn w i n
  worker e = among 8 (omega arith) e

  at_place : (k : WorksOn w i n) → works_at w i n k.place ≡ true
  at_place k =
      let place = k.place in
      let test : nat_eq (initiator_in w place) i ≡ true = ap (λ j. nat_eq j i) k.initiator_is ∙ itself i in
      let listed : is_list (holder w place).list n ≡ true = ap (λ x. is_list x n) k.list ∙ itself n in
      all_three (nat_eq (initiator_in w place) i) (is_list (holder w place).list n) (is_at_work_in w place) test listed k.busy

  below : (k : WorksOn w i n) (places : ℕ) → k.place < places → works_below w i n places ≡ true
  unfolding works_below
  below k zero b = absurd (omega (arith, b))
  below k (suc place) b = by (nat_eq k.place place) refl (λ c. below k place c)
    where
      by : (x : Bool) → nat_eq k.place place ≡ x → (k.place < place → works_below w i n place ≡ true) → (works_at w i n place || works_below w i n place) ≡ true
      by true e rest =
          let same : k.place ≡ place = grind (arith, nat_tests) in
          or_left (works_at w i n place) (works_below w i n place) (subst (λ p. works_at w i n p ≡ true) same (at_place k))
      by false e rest =
          let other : k.place ≡ place → ⊥ = λ same. false≢true (sym e ∙ (let z : nat_eq k.place place ≡ true = grind (arith, nat_tests) in z)) in
          let low = b in
          or_right (works_at w i n place) (works_below w i n place) (rest (grind arith))

  pub is_worked_by : WorksOn w i n → is_worked w i n ≡ true
  is_worked_by k = below k 8 k.small

-- ---- ORBs whose turn came
module _ (all : List Moment) (w : WorldState) (i n k : ℕ) where
  pub data Begun : Type 0 where
    was_cut : is_cut all i n ≡ true → Begun
    has_ended : k < ends all i n → Begun
    works : k ≡ ends all i n → WorksOn w i n → Begun

  by_tests : (x y z v : Bool) → is_cut all i n ≡ x → nat_lt k (ends all i n) ≡ y → nat_eq k (ends all i n) ≡ z → is_worked w i n ≡ v → (x || (y || (z && v))) ≡ true → Begun
  by_tests true y z v e f g h is = was_cut e
  by_tests false true z v e f g h is = has_ended (grind (arith, nat_tests))
  by_tests false false true true e f g h is = works (grind (arith, nat_tests)) (worker w i n h)
  by_tests false false true false e f g h is = absurd (false≢true is)
  by_tests false false false v e f g h is = absurd (false≢true is)

  pub begun_by : is_begun all w i n k ≡ true → Begun
  begun_by e = by_tests (is_cut all i n) (nat_lt k (ends all i n)) (nat_eq k (ends all i n)) (is_worked w i n) refl refl refl refl e

  first_of : (x y z v : Bool) → x ≡ true → (x || (y || (z && v))) ≡ true
  first_of true y z v e = refl
  first_of false y z v e = absurd (false≢true e)

  second_of : (x y z v : Bool) → y ≡ true → (x || (y || (z && v))) ≡ true
  second_of true y z v e = refl
  second_of false true z v e = refl
  second_of false false z v e = absurd (false≢true e)

  last_of : (x y z v : Bool) → z ≡ true → v ≡ true → (x || (y || (z && v))) ≡ true
  last_of true y z v e f = refl
  last_of false true z v e f = refl
  last_of false false true v e f = f
  last_of false false false v e f = absurd (false≢true e)

  pub is_begun_by : Begun → is_begun all w i n k ≡ true
  is_begun_by (was_cut e) = first_of (is_cut all i n) (nat_lt k (ends all i n)) (nat_eq k (ends all i n)) (is_worked w i n) e
  is_begun_by (has_ended b) = second_of (is_cut all i n) (nat_lt k (ends all i n)) (nat_eq k (ends all i n)) (is_worked w i n) (grind (arith, nat_tests))
  is_begun_by (works e h) = last_of (is_cut all i n) (nat_lt k (ends all i n)) (nat_eq k (ends all i n)) (is_worked w i n) (grind (arith, nat_tests)) (is_worked_by w i n h)

  -- and its room is empty, or it is that of its command
  pub room_none : Begun → room all w i n k ≡ 0
  room_none b = ap (λ x. cond x 0 (half_of (command_at all i n k))) (is_begun_by b)

  pub room_new : (Begun → ⊥) → room all w i n k ≡ half_of (command_at all i n k)
  room_new f = ap (λ x. cond x 0 (half_of (command_at all i n k))) (not_true (is_begun all w i n k) (λ e. f (begun_by e)))
