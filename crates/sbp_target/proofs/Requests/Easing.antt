-- What begins no ORB of any place: the number falls by the requests that are sent, an agent that is at work goes on but where its list is cut, and no end is told.
use Rattle.std.proofs.Common.{arith, ◌≡◌, ◌≢◌, refl, sym, ap, ◌∙◌, ℕ, ◌+◌, ◌<◌, ◌≤◌, ◌||◌, nat_eq, nat_lt, Bool, true, false, List, length, slice_index_or, slice_set}
use Rattle.std.proofs.lemmas.Bool.Decides.{nat_tests}
use Rattle.std.proofs.lemmas.List.{get_or_past, length-set}
use Rattle.sbp_target.specs.declared.desk.Desk.{Desk}
use Rattle.sbp_target.specs.Desks.{new_desk}
use Rattle.sbp_target.specs.Nodes.{NodeState, Scene, desk_at, with_desk}
use Rattle.sbp_target.specs.Requests.{requests}
use Rattle.sbp_target.specs.RequestsLeft.{CountsRequests, desk_left, has_ended, operation_left, place_left, was_cut, works}
use Rattle.command_agent.specs.Making.{is_at_work}
use Rattle.sbp_target.proofs.Histories.Following.{other_place, same_place}
use Rattle.sbp_target.proofs.Histories.Seats.{split}
use Rattle.sbp_target.proofs.Requests.Frames.{desk_here, desk_there, sent_or_left}
use Rattle.sbp_target.proofs.Requests.Sums.{sum_but, sum_le}
use Rattle.sbp_target.proofs.Requests.Telling.{EndsNone, or_left, or_right}

pub record NoneBegins (tables chunks : ℕ → ℕ) (more : ℕ) (x y : Scene) : Type 0 where
  pub size : length y.node.desks ≡ 8
  pub few : sent_or_left tables chunks y ≤ sent_or_left tables chunks x + more
  pub old : (p : ℕ) → p < 8 → works y.node p ≡ true → works x.node p ≡ true
  pub goes : (p : ℕ) → p < 8 → works x.node p ≡ true → (works y.node p || was_cut p y) ≡ true
  pub told : EndsNone x.outbox y.outbox

-- the requests handed out, and those yet to be made for the operation
abbrev pub own : Scene → ℕ
own s = requests s.outbox.packets + operation_left s.node.manager.operation

pub in_desks : (x y : NodeState) (p : ℕ) → y.desks ≡ x.desks → desk_at y p ≡ desk_at x p
in_desks x y p e = ap (λ (all : List Desk). slice_index_or all p new_desk) e

pub no_desk : (node : NodeState) (q : ℕ) → length node.desks ≡ 8 → nat_lt q 8 ≡ false → desk_at node q ≡ new_desk
no_desk node q size big = get_or_past node.desks q new_desk (grind (arith, nat_tests, size, big))

pub goes_then : (a b c d e : Bool) → (a ≡ true → (b || c) ≡ true) → (b ≡ true → (d || e) ≡ true) → (c ≡ true → e ≡ true) → a ≡ true → (d || e) ≡ true
goes_then a true c d e f g h i = g refl
goes_then a false true d e f g h i = or_right d e (h refl)
goes_then a false false d e f g h i = absurd (let never : false ≡ true = f i in cc never)

module _ (tables chunks : ℕ → ℕ) where
  pub none_then : (x y z : Scene) (some more : ℕ) → NoneBegins tables chunks some x y → NoneBegins tables chunks more y z → NoneBegins tables chunks (some + more) x z
  none_then x y z some more f g =
      let first = f.few in
      let then = g.few in
      record {
        size = g.size;
        few = omega (arith, first, then);
        old = λ p b e. f.old p b (g.old p b e);
        goes = λ p b e. goes_then (works x.node p) (works y.node p) (was_cut p y) (works z.node p) (was_cut p z) (f.goes p b) (g.goes p b) (g.told.cut p) e;
        told = record { ended = λ p. g.told.ended p ∙ f.told.ended p; cut = λ p e. g.told.cut p (f.told.cut p e) };
      }

  pub none_more : (x y : Scene) (some more : ℕ) → some ≤ more → NoneBegins tables chunks some x y → NoneBegins tables chunks more x y
  none_more x y some more less f = let few = f.few in record { size = f.size; few = omega (arith, few, less); old = f.old; goes = f.goes; told = f.told }

  -- ---- the desks stay
  pub beside : (x y : Scene) (more : ℕ) → length x.node.desks ≡ 8 → y.node.desks ≡ x.node.desks → own y ≤ own x + more → EndsNone x.outbox y.outbox → NoneBegins tables chunks more x y
  beside x y more size desks few told =
      let all = sum_le 8 (place_left tables chunks y.node) (place_left tables chunks x.node) (λ p b. let same = ap (λ (d : Desk). desk_left (tables p) (chunks p) d) (in_desks x.node y.node p desks) in omega (arith, same)) in
      let work = λ (p : ℕ). ap (λ (d : Desk). is_at_work d.agent.phase) (in_desks x.node y.node p desks) in
      record {
        size = ap length desks ∙ size;
        few = omega (arith, all, few);
        old = λ p b e. sym (work p) ∙ e;
        goes = λ p b e. or_left (works y.node p) (was_cut p y) (work p ∙ e);
        told = told;
      }

  pub same_scene : (x : Scene) → length x.node.desks ≡ 8 → NoneBegins tables chunks 0 x x
  same_scene x size = beside x x 0 size refl (omega arith) (record { ended = λ p. refl; cut = λ p e. e })

  -- ---- another desk stands in a place
  module _ (x y : Scene) (q : ℕ) (d : Desk) (more : ℕ) (size : length x.node.desks ≡ 8) (desks : y.node.desks ≡ slice_set x.node.desks q d) where
    there : (p : ℕ) → p ≢ q → desk_at y.node p ≡ desk_at x.node p
    there p n = in_desks (with_desk x.node q d) y.node p desks ∙ desk_there x.node q d p n

    here : (p : ℕ) → p < 8 → p ≡ q → desk_at y.node p ≡ d
    here p b e = in_desks (with_desk x.node q d) y.node p desks ∙ (ap (λ (k : ℕ). desk_at (with_desk x.node q d) k) e ∙ desk_here x.node q d (omega (arith, size, b, e)))

    -- as much of it
    abbrev IsFew : Type 0
    IsFew = own y + desk_left (tables q) (chunks q) d ≤ own x + desk_left (tables q) (chunks q) (desk_at x.node q) + more

    pub seated_few : IsFew → sent_or_left tables chunks y ≤ sent_or_left tables chunks x + more
    seated_few few = split (nat_lt q 8) (sent_or_left tables chunks y ≤ sent_or_left tables chunks x + more) inside outside
      where
        alike : (p : ℕ) → p ≢ q → place_left tables chunks y.node p ≤ place_left tables chunks x.node p
        alike p n = let same = ap (λ (e : Desk). desk_left (tables p) (chunks p) e) (there p n) in omega (arith, same)

        inside : nat_lt q 8 ≡ true → sent_or_left tables chunks y ≤ sent_or_left tables chunks x + more
        inside e =
            let small : q < 8 = grind (arith, nat_tests, e) in
            let all = sum_but 8 (place_left tables chunks y.node) (place_left tables chunks x.node) q small (λ p b n. alike p n) in
            let mine = ap (λ (f : Desk). desk_left (tables q) (chunks q) f) (here q small refl) in
            omega (arith, few, all, mine)

        outside : nat_lt q 8 ≡ false → sent_or_left tables chunks y ≤ sent_or_left tables chunks x + more
        outside e =
            let all = sum_le 8 (place_left tables chunks y.node) (place_left tables chunks x.node) (λ p b. alike p (let big : 8 ≤ q = grind (arith, nat_tests, e) in omega (arith, b, big))) in
            let none = ap (λ (f : Desk). desk_left (tables q) (chunks q) f) (no_desk x.node q size e) in
            omega (arith, few, all, none)

    pub seated : IsFew → (is_at_work d.agent.phase ≡ true → works x.node q ≡ true) → (works x.node q ≡ true → (is_at_work d.agent.phase || was_cut q y) ≡ true) → EndsNone x.outbox y.outbox → NoneBegins tables chunks more x y
    seated few old goes told = record {
      size = ap length desks ∙ (length-set x.node.desks q d ∙ size);
      few = seated_few few;
      old = λ p b. split (nat_eq p q) (works y.node p ≡ true → works x.node p ≡ true) (λ e. mine_old p b (same_place p q e)) (λ e f. sym (work p (other_place p q e)) ∙ f);
      goes = λ p b. split (nat_eq p q) (works x.node p ≡ true → (works y.node p || was_cut p y) ≡ true) (λ e. mine_goes p b (same_place p q e)) (λ e f. or_left (works y.node p) (was_cut p y) (work p (other_place p q e) ∙ f));
      told = told;
    }
      where
        work : (p : ℕ) → p ≢ q → works y.node p ≡ works x.node p
        work p n = ap (λ (e : Desk). is_at_work e.agent.phase) (there p n)

        mine_old : (p : ℕ) → p < 8 → p ≡ q → works y.node p ≡ true → works x.node p ≡ true
        mine_old p b e f = ap (λ (k : ℕ). works x.node k) e ∙ old (sym (ap (λ (g : Desk). is_at_work g.agent.phase) (here p b e)) ∙ f)

        mine_goes : (p : ℕ) → p < 8 → p ≡ q → works x.node p ≡ true → (works y.node p || was_cut p y) ≡ true
        mine_goes p b e f =
            ap (λ (g : Desk). is_at_work g.agent.phase || was_cut p y) (here p b e)
            ∙ (ap (λ (k : ℕ). is_at_work d.agent.phase || was_cut k y) e ∙ goes (sym (ap (λ (k : ℕ). works x.node k) e) ∙ f))

-- ---- such a call of a target that has handed out nothing is counted
pub none_counts : (tables chunks : ℕ → ℕ) (due : ℕ) (x s : Scene) → ((p : ℕ) → has_ended p x ≡ false) → requests x.outbox.packets ≡ 0 → NoneBegins tables chunks due x s → CountsRequests tables chunks due x.node s
none_counts tables chunks due x s unended unsent f =
    let few = f.few in
    record {
      sent = omega (arith, few, unsent);
      ended = λ p b e. absurd (let never : false ≡ true = sym (f.told.ended p ∙ unended p) ∙ e in cc never);
      stopped = λ p b e g. or_right (has_ended p s) (was_cut p s) (rest (works s.node p) (was_cut p s) g (f.goes p b e));
    }
  where
    rest : (a b : Bool) → a ≡ false → (a || b) ≡ true → b ≡ true
    rest true b g h = cc g
    rest false b g h = h
