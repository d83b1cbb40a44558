-- The rooms of the ORBs, with the requests that agents have yet to make for those that they work, take at most the half of the shares of the budget.
use Rattle.sbp_world.proofs.Words.Std.{arith, ◌≡◌, ◌∙◌, refl, sym, ap, subst, ◌<◌, ◌≤◌, ◌+◌, ◌-◌, ◌*◌, ◌/◌, ◌==◌, ◌&&◌, not, ℕ, Bool, true, false, cond, List, [], ◌∷◌, length, Option, Some, None, pow_pos, false≢true}
use Rattle.sbp_world.proofs.Words.Wire.{Cmd, Moment, said}
use Rattle.sbp_world.proofs.Words.Target.{Machine, Phase}
use Rattle.sbp_world.proofs.Words.Laws.{OrderLaw, TakenStatus, appends, command_at, ends, injectors, is_cut, is_none_taken, share_of, shares, taken_at}
use Rattle.sbp_world.proofs.Words.World.{AreApart, IsUp, WorldState, holder, initiator_in, machine_at}
use Rattle.std.proofs.Math.Nat.{div-mul-le_self}
use Rattle.std.proofs.lemmas.Nat.{le-div}
use Rattle.command_agent.specs.Making.{is_at_work}
use Rattle.command_agent.specs.declared.phase.Phase.TheVariants as phases
use Rattle.command_agent.specs.Counting.{behind, left_in, left_of, pieces_from}
use Rattle.command_agent.specs.Machine.{chunk_of, limit_of}
use Rattle.page_table.specs.declared.segment.Segment.{Segment}
use Rattle.sbp_journal.specs.declared.note.Note.TheVariants as notes
use Rattle.sbp_world.proofs.Counting.Folds.{Falls, has_appended, over_twice, places_twice, sum_falls}
use Rattle.sbp_world.proofs.Counting.Worked.{AreWorking, IsWorking, begun_by, has_ended, is_begun_by, not_both, room_none, was_cut, work_lists, works}
use Rattle.sbp_world.proofs.Lists.OpenTurns.{listing_up}
use Rattle.sbp_world.specs.Counting.Rooms.{HoldsAtMost, chunks_in, half_of, is_at_work_in, is_begun, left_at, of_list, over_appends, over_places, present_command, room, rooms, tables_of}
use Rattle.sbp_world.specs.Lists.OwnLogins.{IsTame}

-- ---- what is left of an ORB
div_least : (a b limit : ℕ) → 0 < limit → a ≤ b → a / limit ≤ b / limit
div_least a b limit some le = let low = div-mul-le_self a limit in le-div (a / limit) b limit some (omega (arith, low, le))

pieces_least : (segments : List Segment) (limit a b : ℕ) → 0 < limit → a ≤ b → pieces_from segments limit b ≤ pieces_from segments limit a
pieces_least [] limit a b some le = omega arith
pieces_least (segment ∷ rest) limit a b some le =
    let here = div_least (segment.length - b + limit - 1) (segment.length - a + limit - 1) limit some (omega (arith, le)) in
    let later = pieces_least rest limit (a - segment.length) (b - segment.length) some (omega (arith, le)) in
    omega (arith, here, later)

module _ (tables chunks : ℕ) (m : Machine) where
  some_limit : 0 < limit_of m.orb
  some_limit = pow_pos (m.orb.max_payload + 2)

  behind_least : (done total : ℕ) → behind m done total ≤ pieces_from m.segments (limit_of m.orb) 0
  behind_least done total = by (done + (chunk_of m done total).length == total)
    where
      at : ℕ
      at = done + (chunk_of m done total).length

      by : (b : Bool) → cond b 0 (pieces_from m.segments (limit_of m.orb) (done + (chunk_of m done total).length)) ≤ pieces_from m.segments (limit_of m.orb) 0
      by true = omega arith
      by false = pieces_least m.segments (limit_of m.orb) 0 (done + (chunk_of m done total).length) some_limit (omega arith)

  data_most : (wanted : ℕ) → pieces_from m.segments (limit_of m.orb) 0 ≤ chunks → (b : Bool) → cond b (pieces_from m.segments (limit_of m.orb) 0) (behind m (length m.payload) wanted) + 1 ≤ tables + chunks + 2
  data_most wanted h true = omega (arith, h)
  data_most wanted h false = let low = behind_least (length m.payload) wanted in omega (arith, h, low)

  left_by : (phase : Phase) → HoldsAtMost phase chunks m → left_in phase tables chunks m ≤ tables + chunks + 2
  left_by phases.Fetching h = omega arith
  left_by phases.ReadingTable h = omega arith
  left_by (phases.ReadingData wanted) h = data_most wanted h (wanted == 0)
  left_by phases.Answering h = let low = behind_least m.written (length m.answer) in omega (arith, h, low)
  left_by phase h = omega arith

  pub left_most : HoldsAtMost m.phase chunks m → left_of tables chunks m ≤ tables + chunks + 2
  left_most h = left_by m.phase h

  idle_by : (phase : Phase) → is_at_work phase ≡ false → left_in phase tables chunks m ≡ 0
  idle_by phases.Fetching e = absurd (false≢true (sym e))
  idle_by phases.ReadingTable e = absurd (false≢true (sym e))
  idle_by (phases.ReadingData wanted) e = absurd (false≢true (sym e))
  idle_by phases.Answering e = absurd (false≢true (sym e))
  idle_by phase e = refl

  -- nothing where it works none
  pub left_none : is_at_work m.phase ≡ false → left_of tables chunks m ≡ 0
  left_none e = idle_by m.phase e

-- ---- shares
abbrev share : List Moment → ℕ → ℕ → ℕ → ℕ
share all i n k = cond (not (is_cut all i n) && is_none_taken (taken_at all i n k)) (share_of (command_at all i n k)) 0

pub shares_are : (all past : List Moment) → shares all past ≡ over_appends (share all) past
shares_are all [] = refl
shares_are all (said (notes.Append i n k cdb buffer) ∷ past) = let rest = shares_are all past in omega (arith, rest)
shares_are all (m ∷ past) = shares_are all past

half_most : (command : Option Cmd) → 2 * half_of command ≤ share_of command
half_most None = omega arith
half_most (Some cmd) = omega arith

-- ---- the start
-- each agent that moves data has no more chunks than the command of its ORB
abbrev pub HoldsAll : List Moment → WorldState → Type 0
HoldsAll past w = (place : ℕ) → place < 8 → is_at_work_in w place ≡ true → HoldsAtMost (machine_at w place).phase (chunks_in past w place) (machine_at w place)

pub record IsStart (past : List Moment) (w : WorldState) : Type 0 where
  pub calm : IsTame past
  pub working : AreWorking past w
  pub apart : AreApart past w
  pub order : OrderLaw (injectors past) past
  -- no status was taken of an ORB that has not ended
  pub untaken : (i n k : ℕ) → ends past i n ≤ k → taken_at past i n k ≡ None
  pub holds : HoldsAll past w

module _ (past : List Moment) (w : WorldState) (start : IsStart past w) where
  full_share : (i n k : ℕ) → is_cut past i n ≡ false → ends past i n ≤ k → share past i n k ≡ share_of (command_at past i n k)
  full_share i n k uncut low =
      ap (λ b. cond (not b && is_none_taken (taken_at past i n k)) (share_of (command_at past i n k)) 0) uncut
      ∙ ap (λ (o : Option TakenStatus). cond (is_none_taken o) (share_of (command_at past i n k)) 0) (start.untaken i n k low)

  least : (i n k : ℕ) → 2 * room past w i n k ≤ share past i n k
  least i n k = by (is_begun past w i n k) refl
    where
      unbegun : is_begun past w i n k ≡ false → is_cut past i n ≡ true → ⊥
      unbegun e f = not_both (is_begun past w i n k) e (is_begun_by past w i n k (was_cut f))

      uncut : is_begun past w i n k ≡ false → (x : Bool) → is_cut past i n ≡ x → x ≡ false
      uncut e true f = absurd (unbegun e f)
      uncut e false f = refl

      by : (y : Bool) → is_begun past w i n k ≡ y → 2 * room past w i n k ≤ share past i n k
      by true e = let none = room_none past w i n k (begun_by past w i n k e) in omega (arith, none)
      by false e =
          let is : room past w i n k ≡ half_of (command_at past i n k) = ap (λ x. cond x 0 (half_of (command_at past i n k))) e in
          let ended : k < ends past i n → ⊥ = λ b. not_both (is_begun past w i n k) e (is_begun_by past w i n k (has_ended b)) in
          let low : ends past i n ≤ k = grind arith in
          let full = full_share i n k (uncut e (is_cut past i n) refl) low in
          let most = half_most (command_at past i n k) in
          omega (arith, is, full, most)

  -- ---- by place
  abbrev number_of : Option ℕ → ℕ
  number_of None = 0
  number_of (Some n) = n

  abbrev i_of : ℕ → ℕ
  i_of p = initiator_in w p

  abbrev n_of : ℕ → ℕ
  n_of p = number_of (holder w p).list

  abbrev k_of : ℕ → ℕ
  k_of p = ends past (i_of p) (n_of p)

  abbrev q_of : ℕ → ℕ
  q_of p = 2 * left_at past w p

  works_if : (p : ℕ) → 0 < q_of p → is_at_work_in w p ≡ true
  works_if p some = by (is_at_work_in w p) refl
    where
      by : (y : Bool) → is_at_work_in w p ≡ y → y ≡ true
      by true e = refl
      by false e = let none = left_none (tables_of past w p) (chunks_in past w p) (machine_at w p) e in absurd (omega (arith, some, none))

  working_at : (p : ℕ) → p < 8 → 0 < q_of p → IsWorking past w p
  working_at p b some = start.working p b (works_if p some) (start.calm (i_of p))

  up_at : (p : ℕ) → 0 < q_of p → (i : ℕ) → i_of p ≡ i → IsUp w i p
  up_at p some i e = record { up = listing_up (machine_at w p).phase (work_lists (machine_at w p).phase (works_if p some)); own = e }

  less_at : (p : ℕ) → p < 8 → 0 < q_of p → (k : IsWorking past w p) → 2 * room past w (i_of p) k.n (ends past (i_of p) k.n) + q_of p ≤ share past (i_of p) k.n (ends past (i_of p) k.n)
  less_at p b some k =
      let e = works_if p some in
      let none = room_none past w (i_of p) k.n (ends past (i_of p) k.n) (works refl (record { place = p; small = b; initiator_is = refl; list = k.list; busy = e })) in
      let full = full_share (i_of p) k.n (ends past (i_of p) k.n) k.uncut (omega arith) in
      let command : present_command past w p ≡ command_at past (i_of p) k.n (ends past (i_of p) k.n) =
      ap (λ l. of_list l (λ n. command_at past (i_of p) n (ends past (i_of p) n))) k.list in
      let same = ap half_of command in
      let most = left_most (tables_of past w p) (chunks_in past w p) (machine_at w p) (start.holds p b e) in
      let half = half_most (command_at past (i_of p) k.n (ends past (i_of p) k.n)) in
      omega (arith, none, full, same, most, half)

  start_falls : Falls i_of n_of k_of q_of 8 past (share past) (λ i n k. 2 * room past w i n k)
  start_falls = record {
    apart = λ p r b d some more same. start.apart (i_of r) r p (start.calm (i_of r)) d b (up_at r more (i_of r) refl) (up_at p some (i_of r) same);
    least = least;
    less = λ p b some.
        let k = working_at p b some in
        subst (λ n. 2 * room past w (i_of p) n (ends past (i_of p) n) + q_of p ≤ share past (i_of p) n (ends past (i_of p) n)) (sym (ap number_of k.list)) (less_at p b some k);
    has = λ p b some.
        let k = working_at p b some in
        has_appended (injectors past) (i_of p) (n_of p) (k_of p) past start.order
        (subst (λ n. ends past (i_of p) n < appends past (i_of p) n) (sym (ap number_of k.list)) k.next);
  }

  pub rooms_start : 2 * (rooms past w past + over_places (left_at past w) 8) ≤ shares past past
  rooms_start =
      let are = shares_are past past in
      let falls = sum_falls i_of n_of k_of q_of 8 past (share past) (λ i n k. 2 * room past w i n k) start_falls in
      let twice = over_twice (room past w) past in
      let places = places_twice (left_at past w) 8 in
      omega (arith, are, falls, twice, places)
