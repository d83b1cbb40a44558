-- In a call of the target the rooms fall by the requests for the ORBs whose turn comes in it.
use Rattle.sbp_world.proofs.Words.Std.{arith, ◌≡◌, ◌∙◌, refl, sym, ap, subst, ◌<◌, ◌≤◌, ◌+◌, ℕ, Bool, true, false, cond, List, Option, Some, None}
use Rattle.sbp_world.proofs.Words.Wire.{Moment, Side}
use Rattle.sbp_world.proofs.Words.Laws.{OrderLaw, appends, command_at, ends, injectors}
use Rattle.sbp_world.proofs.Words.World.{WorldState, holder, initiator_in}
use Rattle.sbp_world.proofs.Agents.Management.Still.{hist}
use Rattle.sbp_world.proofs.Counting.BegunTurns.{begun_stays}
use Rattle.sbp_world.proofs.Counting.Folds.{Falls, has_appended, over_least, sum_falls}
use Rattle.sbp_world.proofs.Counting.Grown.{Goes}
use Rattle.sbp_world.proofs.Counting.NewTurns.{IsNew, turn_is_new}
use Rattle.sbp_world.proofs.Counting.Turns.{IsGround, IsTurn, told_of, turn}
use Rattle.sbp_world.proofs.Counting.Worked.{Begun, begun_by, room_new, room_none}
use Rattle.sbp_world.proofs.Lists.BegunLists.{order_from}
use Rattle.sbp_world.proofs.Lists.TurnCalls.{IsCalled}
use Rattle.sbp_world.specs.Counting.Rooms.{half_of, has_turn, is_begun, new_at, newly, of_list, present_command, room, rooms}

-- ---- rooms fall where no more are appended and what was begun stays so
module _ (before now : List Moment) (w v : WorldState) (goes : Goes before now) (stays : (i n k : ℕ) → Begun before w i n k → Begun now v i n k) where
  least_by : (i n k : ℕ) (x : Bool) → is_begun before w i n k ≡ x → room now v i n k ≤ room before w i n k
  least_by i n k true e = let none = room_none now v i n k (stays i n k (begun_by before w i n k e)) in omega (arith, none)
  least_by i n k false e = by (is_begun now v i n k) refl
    where
      was : room before w i n k ≡ half_of (command_at before i n k)
      was = ap (λ x. cond x 0 (half_of (command_at before i n k))) e

      by : (x : Bool) → is_begun now v i n k ≡ x → room now v i n k ≤ room before w i n k
      by true f = let none : room now v i n k ≡ 0 = ap (λ x. cond x 0 (half_of (command_at now i n k))) f in omega (arith, none)
      by false f =
          let is : room now v i n k ≡ half_of (command_at now i n k) = ap (λ x. cond x 0 (half_of (command_at now i n k))) f in
          let same : half_of (command_at now i n k) ≡ half_of (command_at before i n k) = ap half_of (goes.commands i n k) in
          omega (arith, was, is, same)

  pub room_least : (i n k : ℕ) → room now v i n k ≤ room before w i n k
  room_least i n k = least_by i n k (is_begun before w i n k) refl

  pub rooms_least : rooms now v now ≤ rooms before w before
  rooms_least =
      let same = goes.over (room now v) in
      let least = over_least (room before w) (room now v) room_least before in
      omega (arith, same, least)

-- ---- a call of the target: by what is new
module _ (past : List Moment) (w v : WorldState) (ground : IsGround (hist past w) (hist past v) w v) (c : IsCalled past w v) where
  abbrev before : List Moment
  before = hist past w

  abbrev now : List Moment
  now = hist past v

  abbrev told : List Side
  told = told_of past w v c

  this : IsTurn past w v c
  this = turn past w v ground c

  abbrev number_of : Option ℕ → ℕ
  number_of None = 0
  number_of (Some n) = n

  abbrev i_of : ℕ → ℕ
  i_of p = initiator_in v p

  abbrev n_of : ℕ → ℕ
  n_of p = number_of (holder v p).list

  abbrev k_of : ℕ → ℕ
  k_of p = ends before (i_of p) (n_of p)

  abbrev q_of : ℕ → ℕ
  q_of p = new_at before w v told p

  turns_if : (p : ℕ) → 0 < q_of p → has_turn w v told p ≡ true
  turns_if p some = by (has_turn w v told p) refl
    where
      by : (y : Bool) → has_turn w v told p ≡ y → has_turn w v told p ≡ true
      by true e = e
      by false e =
          let none : q_of p ≡ 0 = ap (λ y. cond y (half_of (present_command before v p)) 0) e in
          absurd (omega (arith, some, none))

  new_of : (p : ℕ) → p < 8 → 0 < q_of p → IsNew before now w v p
  new_of p b some = turn_is_new past w v ground c p b (turns_if p some)

  less_at : (p : ℕ) → (k : IsNew before now w v p) → room now v (i_of p) k.n (ends before (i_of p) k.n) + q_of p ≤ room before w (i_of p) k.n (ends before (i_of p) k.n)
  less_at p k =
      let none = room_none now v (i_of p) k.n (ends before (i_of p) k.n) k.begun in
      let full = room_new before w (i_of p) k.n (ends before (i_of p) k.n) k.unbegun in
      let command : present_command before v p ≡ command_at before (i_of p) k.n (ends before (i_of p) k.n) =
      ap (λ l. of_list l (λ n. command_at before (i_of p) n (ends before (i_of p) n))) k.list in
      let half = ap half_of command in
      let most = most_at p in
      omega (arith, none, full, half, most)
    where
      most_at : (p : ℕ) → q_of p ≤ half_of (present_command before v p)
      most_at p = by (has_turn w v told p)
        where
          by : (y : Bool) → cond y (half_of (present_command before v p)) 0 ≤ half_of (present_command before v p)
          by true = omega arith
          by false = omega arith

  call_falls : Falls i_of n_of k_of q_of 8 before (room before w) (room now v)
  call_falls = record {
    apart = λ p r b d some more same.
        let one = new_of p b some in
        let two = new_of r d more in
        ground.apart_now (i_of r) r p (ground.calm_now (i_of r)) d b two.up (record { up = one.up.up; own = one.up.own ∙ same });
    least = room_least before now w v this.goes (begun_stays past w v ground c);
    less = λ p b some.
        let k = new_of p b some in
        subst (λ n. room now v (i_of p) n (ends before (i_of p) n) + q_of p ≤ room before w (i_of p) n (ends before (i_of p) n)) (sym (ap number_of k.list)) (less_at p k);
    has = λ p b some.
        let k = new_of p b some in
        has_appended (injectors now) (i_of p) (n_of p) (k_of p) before order_before
        (subst (λ n. ends before (i_of p) n < appends before (i_of p) n) (sym (ap number_of k.list)) k.appended);
  }
    where
      order_before : OrderLaw (injectors now) before
      order_before = order_from (injectors now) this.goes.later before (subst (OrderLaw (injectors now)) (sym this.goes.is) ground.order)

  pub rooms_fall : rooms now v now + newly before w v told ≤ rooms before w before
  rooms_fall =
      let same = this.goes.over (room now v) in
      let falls = sum_falls i_of n_of k_of q_of 8 before (room before w) (room now v) call_falls in
      omega (arith, same, falls)
