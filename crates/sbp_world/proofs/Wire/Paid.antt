-- The load of an initiator is what its ORBs count: those of its latest list one by one, where that was not dropped, and the others by their list.
use Rattle.sbp_world.proofs.Words.Std.{if◌then◌else◌, ◌≡◌, arith, refl, sym, ◌∙◌, ap, subst, nat_eq, nat_tests, upd, upd2}
use Rattle.sbp_world.proofs.Words.Wire.{ListLoad, OrbLoad, append_step, appended_to, begun_step, capped, cut_left, cut_step, drop_step, orb_load, take_step, weights, with_left, without_orb}
use Rattle.sbp_world.proofs.Words.Laws.{TakenStatus}
use Rattle.std.specs.Prelude.{ℕ, suc, ◌+◌, ◌-◌, ◌^◌, ◌<◌, ◌≤◌, Bool, true, false, cond, List, [], ◌∷◌, ◌++◌, Option, Some, None}
use Rattle.sbp_world.proofs.Wire.Loaded.{Rises, capped_is, insert_here, insert_rises, insert_there, left_at, load_sum, load_sum_more, remove_here, remove_rises, remove_there, removed, weights_are}
use Rattle.sbp_world.proofs.Common.{itself, equal_numbers, turned}

-- an ORB that was not appended, and of which no status was taken
pub record IsNew (appended : Bool) (taken : Option TakenStatus) : Type 0 where
  pub unborn : appended ≡ false
  pub untaken : taken ≡ None

-- the latest list is the present one: its list, its last ORB, and what waits
pub record Stays (appended : ℕ → ℕ → Bool) (taken : ℕ → ℕ → Option TakenStatus) (loads : ℕ → List OrbLoad) (begun n k : ℕ) (row : ListLoad) : Type 0 where
  pub latest : suc n ≡ begun
  pub waits : row.waiting ≡ loads n
  pub none_left : left_at n row.left ≡ 0
  pub next : (l : ℕ) → k < l → IsNew (appended n l) (taken n l)

-- no list is present: what the latest one counts is among the dropped ones
pub record Left (loads : ℕ → List OrbLoad) (begun : ℕ) (row : ListLoad) : Type 0 where
  pub light : load_sum row.waiting ≡ 0
  pub first : begun ≡ 0 → row.waiting ≡ []
  pub left : left_at row.list row.left ≡ load_sum (loads row.list)

abbrev pub Now : (ℕ → ℕ → Bool) → (ℕ → ℕ → Option TakenStatus) → (ℕ → List OrbLoad) → ℕ → Option (ℕ × ℕ) → ListLoad → Type 0
Now appended taken loads begun None row = Left loads begun row
Now appended taken loads begun (Some (n, k)) row = Stays appended taken loads begun n k row

-- by list: whether it was cut, which of its ORBs were appended and taken, and what they count
pub record Paid (cut : ℕ → Bool) (appended : ℕ → ℕ → Bool) (taken : ℕ → ℕ → Option TakenStatus) (loads : ℕ → List OrbLoad) (sum begun : ℕ) (present : Option (ℕ × ℕ)) (row : ListLoad) : Type 0 where
  pub list_is : row.list ≡ begun - 1
  pub cut_is : row.is_cut ≡ cut row.list
  pub uncut : (m : ℕ) → begun ≤ m → cut m ≡ false
  pub none : (m : ℕ) → begun ≤ m → loads m ≡ []
  pub new_lists : (m k : ℕ) → begun ≤ m → IsNew (appended m k) (taken m k)
  pub now : Now appended taken loads begun present row
  pub others : (m : ℕ) → nat_eq m row.list ≡ false → left_at m row.left ≡ load_sum (loads m)
  pub sum_is : sum ≡ row.left_weight + load_sum row.waiting
  pub rises : Rises 0 row.left

apart : (m n : ℕ) → n < m → nat_eq m n ≡ false
apart m n l = grind (arith, nat_tests)

-- ---- a list begins
begun_row : ℕ → ListLoad → ListLoad
begun_row n row = record row { list = n; is_cut = false; waiting = [] }

module _ (cut : ℕ → Bool) (appended : ℕ → ℕ → Bool) (taken : ℕ → ℕ → Option TakenStatus) (loads : ℕ → List OrbLoad) (sum begun : ℕ) (row : ListLoad) where
  begun_is : Paid cut appended taken loads sum begun None row → begun_step begun row ≡ begun_row begun row
  unfolding begun_row
  begun_is p = by (nat_eq row.list begun) refl
    where
      by : (b : Bool) → nat_eq row.list begun ≡ b → cond b row (record row { list = begun; is_cut = false; waiting = [] }) ≡ record row { list = begun; is_cut = false; waiting = [] }
      by true e =
          let same : row.list ≡ begun = equal_numbers row.list begun e in
          let is = p.list_is in
          let none : begun ≡ 0 = omega (arith, same, is) in
          let open_now : row.is_cut ≡ false = p.cut_is ∙ ap cut same ∙ p.uncut begun (omega arith) in
          ap (λ x. record row { list = x; is_cut = row.is_cut; waiting = row.waiting }) same
          ∙ ap (λ x. record row { list = begun; is_cut = x; waiting = row.waiting }) open_now
          ∙ ap (λ x. record row { list = begun; is_cut = false; waiting = x }) (p.now.first none)
      by false e = refl

  module _ (weight : ℕ) (loads_now : ℕ → List OrbLoad) (sum_now : ℕ) (here : loads_now begun ≡ loads begun ++ orb_load 0 weight ∷ []) (there : (m : ℕ) → nat_eq m begun ≡ false → loads_now m ≡ loads m) (grows : sum_now ≡ sum + weight) (p : Paid cut appended taken loads sum begun None row) where
    left_here : (m : ℕ) → left_at m row.left ≡ load_sum (loads m)
    left_here m = by (nat_eq m row.list) refl
      where
        by : (b : Bool) → nat_eq m row.list ≡ b → left_at m row.left ≡ load_sum (loads m)
        by true e = subst (λ x. left_at x row.left ≡ load_sum (loads x)) (sym (equal_numbers m row.list e)) p.now.left
        by false e = p.others m e

    first_row : Paid cut (upd2 appended begun 0 true) taken loads_now sum_now (suc begun) (Some (begun, 0)) (record row { list = begun; is_cut = false; waiting = orb_load 0 weight ∷ [] })
    first_row = record {
      list_is = omega arith;
      cut_is = sym (p.uncut begun (omega arith));
      uncut = λ m l. p.uncut m (omega arith);
      none = λ m l. there m (apart m begun (omega arith)) ∙ p.none m (omega arith);
      new_lists = λ m k l.
          let n = p.new_lists m k (omega arith) in
          record { unborn = ap (λ b. cond b (cond (nat_eq k 0) true (appended m k)) (appended m k)) (apart m begun (omega arith)) ∙ n.unborn; untaken = n.untaken };
      now = record {
        latest = refl;
        waits = sym (here ∙ ap (λ xs. xs ++ orb_load 0 weight ∷ []) (p.none begun (omega arith)));
        none_left = left_here begun ∙ ap load_sum (p.none begun (omega arith));
        next = λ l b.
            let n = p.new_lists begun l (omega arith) in
            record {
              unborn = ap (λ c. cond c (cond (nat_eq l 0) true (appended begun l)) (appended begun l)) (itself begun) ∙ (ap (λ c. cond c true (appended begun l)) (apart l 0 b) ∙ n.unborn);
              untaken = n.untaken;
            };
      };
      others = λ m e. left_here m ∙ ap load_sum (sym (there m e));
      sum_is = let a = p.sum_is in let b = p.now.light in omega (arith, grows, a, b);
      rises = p.rises;
    }

    pub append_first : Paid cut (upd2 appended begun 0 true) taken loads_now sum_now (suc begun) (Some (begun, 0)) (append_step begun 0 weight row)
    unfolding append_step begun_row
    append_first = subst (λ x. Paid cut (upd2 appended begun 0 true) taken loads_now sum_now (suc begun) (Some (begun, 0)) (appended_to 0 weight x)) (sym (begun_is p)) first_row

  -- ---- a list goes on
  module _ (n k : ℕ) (p : Paid cut appended taken loads sum begun (Some (n, k)) row) where
    list_here : row.list ≡ n
    list_here = let a = p.list_is in let b = p.now.latest in omega (arith, a, b)

    present_is : (list : ℕ) → list ≡ n → begun_step list row ≡ row
    present_is list e = ap (λ b. cond b row (record row { list = list; is_cut = false; waiting = [] })) (same row.list list (list_here ∙ sym e))
      where
        same : (a b : ℕ) → a ≡ b → nat_eq a b ≡ true
        same a b e = grind (arith, nat_tests)

    module _ (weight : ℕ) (loads_now : ℕ → List OrbLoad) (sum_now : ℕ) (there : (m : ℕ) → nat_eq m n ≡ false → loads_now m ≡ loads m) where
      -- but for what waits
      next_row : (waiting : List OrbLoad) → waiting ≡ loads_now n → sum_now ≡ row.left_weight + load_sum waiting → Paid cut (upd2 appended n (suc k) true) taken loads_now sum_now begun (Some (n, suc k)) (record row { waiting = waiting })
      next_row waiting e s =
          let latest = p.now.latest in
          record {
            list_is = p.list_is;
            cut_is = p.cut_is;
            uncut = p.uncut;
            none = λ m l. there m (apart m n (omega (arith, l, latest))) ∙ p.none m l;
            new_lists = λ m j l.
                let x = p.new_lists m j l in
                record { unborn = ap (λ b. cond b (cond (nat_eq j (suc k)) true (appended m j)) (appended m j)) (apart m n (omega (arith, l, latest))) ∙ x.unborn; untaken = x.untaken };
            now = record {
              latest = latest;
              waits = e;
              none_left = p.now.none_left;
              next = λ l b.
                  let x = p.now.next l (omega (arith, b)) in
                  record {
                    unborn = ap (λ c. cond c (cond (nat_eq l (suc k)) true (appended n l)) (appended n l)) (itself n) ∙ (ap (λ c. cond c true (appended n l)) (apart l (suc k) b) ∙ x.unborn);
                    untaken = x.untaken;
                  };
            };
            others = λ m e. p.others m e ∙ ap load_sum (sym (there m (subst (λ x. nat_eq m x ≡ false) list_here e)));
            sum_is = s;
            rises = p.rises;
          }

      next_by : (b : Bool) → row.is_cut ≡ b → loads_now n ≡ (if b then loads n else loads n ++ orb_load (suc k) weight ∷ []) → sum_now ≡ sum + (if b then 0 else weight) → Paid cut (upd2 appended n (suc k) true) taken loads_now sum_now begun (Some (n, suc k)) (cond b row (record row { waiting = row.waiting ++ orb_load (suc k) weight ∷ [] }))
      next_by true c h g =
          let a = p.sum_is in
          next_row row.waiting (p.now.waits ∙ sym h) (omega (arith, a, g))
      next_by false c h g =
          let a = p.sum_is in
          let b = load_sum_more row.waiting (orb_load (suc k) weight ∷ []) in
          next_row (row.waiting ++ orb_load (suc k) weight ∷ []) (ap (λ xs. xs ++ orb_load (suc k) weight ∷ []) p.now.waits ∙ sym h) (omega (arith, a, b, g))

      pub append_next : loads_now n ≡ (if cut n then loads n else loads n ++ orb_load (suc k) weight ∷ []) → sum_now ≡ sum + (if cut n then 0 else weight) → Paid cut (upd2 appended n (suc k) true) taken loads_now sum_now begun (Some (n, suc k)) (append_step n (suc k) weight row)
      unfolding append_step
      append_next h g =
          let c : row.is_cut ≡ cut n = p.cut_is ∙ ap cut list_here in
          subst (λ x. Paid cut (upd2 appended n (suc k) true) taken loads_now sum_now begun (Some (n, suc k)) (appended_to (suc k) weight x)) (sym (present_is n refl))
          (next_by row.is_cut refl
          (h ∙ ap (λ b. cond b (loads n) (loads n ++ orb_load (suc k) weight ∷ [])) (sym c))
          (g ∙ ap (λ b. sum + cond b 0 weight) (sym c)))

    -- ---- a status is taken
    pub takes : (l : ℕ) (status : TakenStatus) (loads_now : ℕ → List OrbLoad) (sum_now : ℕ) → l ≤ k → loads_now n ≡ without_orb l (loads n) → ((m : ℕ) → nat_eq m n ≡ false → loads_now m ≡ loads m) → sum_now + load_sum (loads n) ≡ sum + load_sum (without_orb l (loads n)) → Paid cut appended (upd2 taken n l (Some status)) loads_now sum_now begun (Some (n, k)) (take_step l row)
    unfolding take_step
    takes l status loads_now sum_now below here there falls =
        let latest = p.now.latest in
        record {
          list_is = p.list_is;
          cut_is = p.cut_is;
          uncut = p.uncut;
          none = λ m b. there m (apart m n (omega (arith, b, latest))) ∙ p.none m b;
          new_lists = λ m j b.
              let x = p.new_lists m j b in
              record { unborn = x.unborn; untaken = ap (λ c. cond c (cond (nat_eq j l) (Some status) (taken m j)) (taken m j)) (apart m n (omega (arith, b, latest))) ∙ x.untaken };
          now = record {
            latest = latest;
            waits = ap (without_orb l) p.now.waits ∙ sym here;
            none_left = p.now.none_left;
            next = λ j b.
                let x = p.now.next j b in
                record {
                  unborn = x.unborn;
                  untaken = ap (λ c. cond c (cond (nat_eq j l) (Some status) (taken n j)) (taken n j)) (itself n) ∙ (ap (λ c. cond c (Some status) (taken n j)) (apart j l (omega (arith, b, below))) ∙ x.untaken);
                };
          };
          others = λ m e. p.others m e ∙ ap load_sum (sym (there m (subst (λ x. nat_eq m x ≡ false) list_here e)));
          sum_is =
              let a = p.sum_is in
              let b : load_sum row.waiting ≡ load_sum (loads n) = ap load_sum p.now.waits in
              let c : load_sum (without_orb l row.waiting) ≡ load_sum (without_orb l (loads n)) = ap (λ xs. load_sum (without_orb l xs)) p.now.waits in
              omega (arith, a, b, c, falls);
          rises = p.rises;
        }

    -- ---- the list is dropped
    drop_by : (weight : ℕ) → weight ≡ load_sum row.waiting → sum < 2 ^ 64 → (b : Bool) → nat_eq weight 0 ≡ b → Paid cut appended taken loads sum begun None (cond b row (record row { waiting = []; left = with_left n weight row.left; left_weight = capped (row.left_weight + weight) }))
    drop_by weight is few true e =
        let latest = p.now.latest in
        let zero_now : weight ≡ 0 = equal_numbers weight 0 e in
        record {
          list_is = p.list_is;
          cut_is = p.cut_is;
          uncut = p.uncut;
          none = p.none;
          new_lists = p.new_lists;
          now = record {
            light = sym is ∙ zero_now;
            first = λ z. absurd (omega (arith, z, latest));
            left = subst (λ x. left_at x row.left ≡ load_sum (loads x)) (sym list_here) (p.now.none_left ∙ (sym (sym is ∙ zero_now) ∙ ap load_sum p.now.waits));
          };
          others = p.others;
          sum_is = p.sum_is;
          rises = p.rises;
        }
    drop_by weight is few false e =
        let latest = p.now.latest in
        let s = p.sum_is in
        let c = capped_is (row.left_weight + weight) (omega (arith, s, is, few)) in
        record {
          list_is = p.list_is;
          cut_is = p.cut_is;
          uncut = p.uncut;
          none = p.none;
          new_lists = p.new_lists;
          now = record {
            light = refl;
            first = λ z. absurd (omega (arith, z, latest));
            left = subst (λ x. left_at x (with_left n weight row.left) ≡ load_sum (loads x)) (sym list_here) (insert_here row.left n weight ∙ (is ∙ ap load_sum p.now.waits));
          };
          others = λ m d. insert_there row.left n weight m (subst (λ x. nat_eq m x ≡ false) list_here d) ∙ p.others m d;
          sum_is = omega (arith, s, is, c);
          rises = insert_rises row.left 0 n weight (omega arith) p.rises;
        }

    pub drops : sum < 2 ^ 64 → Paid cut appended taken loads sum begun None (drop_step n row)
    unfolding drop_step
    drops few =
        let s = p.sum_is in
        let w = weights_are row.waiting 0 (omega (arith, s, few)) in
        drop_by (weights row.waiting 0) (omega (arith, w)) few (nat_eq (weights row.waiting 0) 0) refl

-- ---- a list is cut
module _ (cut : ℕ → Bool) (appended : ℕ → ℕ → Bool) (taken : ℕ → ℕ → Option TakenStatus) (loads : ℕ → List OrbLoad) (sum begun : ℕ) (present : Option (ℕ × ℕ)) (row : ListLoad) (p : Paid cut appended taken loads sum begun present row) where
  module _ (n : ℕ) (loads_now : ℕ → List OrbLoad) (sum_now : ℕ) (old : n < begun) (here : loads_now n ≡ []) (there : (m : ℕ) → nat_eq m n ≡ false → loads_now m ≡ loads m) (falls : sum_now + load_sum (loads n) ≡ sum) where
    abbrev cut_now : ℕ → Bool
    cut_now = upd cut n true

    still_uncut : (m : ℕ) → begun ≤ m → cut_now m ≡ false
    still_uncut m l = ap (λ b. cond b true (cut m)) (apart m n (omega (arith, l, old))) ∙ p.uncut m l

    still_none : (m : ℕ) → begun ≤ m → loads_now m ≡ []
    still_none m l = there m (apart m n (omega (arith, l, old))) ∙ p.none m l

    -- the latest list
    latest_row : ListLoad
    latest_row = record row { is_cut = true; waiting = []; left = removed n row.left; left_weight = row.left_weight - left_at n row.left }

    other_row : ListLoad
    other_row = record row { left = removed n row.left; left_weight = row.left_weight - left_at n row.left }

    others_now : (m : ℕ) → nat_eq m row.list ≡ false → left_at m (removed n row.left) ≡ load_sum (loads_now m)
    others_now m d = by (nat_eq m n) refl
      where
        by : (b : Bool) → nat_eq m n ≡ b → left_at m (removed n row.left) ≡ load_sum (loads_now m)
        by true e =
            subst (λ x. left_at x (removed n row.left) ≡ load_sum (loads_now x)) (sym (equal_numbers m n e)) (remove_here row.left 0 n p.rises ∙ sym (ap load_sum here))
        by false e = remove_there row.left n m e ∙ (p.others m d ∙ ap load_sum (sym (there m e)))

    latest_now : (o : Option (ℕ × ℕ)) → nat_eq row.list n ≡ true → row.list ≡ begun - 1 → left_at n row.left ≤ row.left_weight → Now appended taken loads begun o row → Now appended taken loads_now begun o latest_row × (sum_now ≡ row.left_weight - left_at n row.left + 0)
    unfolding latest_row
    latest_now None e is few now =
        let same : row.list ≡ n = equal_numbers row.list n e in
        let s = p.sum_is in
        let a = now.light in
        let b : left_at n row.left ≡ load_sum (loads n) = subst (λ x. left_at x row.left ≡ load_sum (loads x)) same now.left in (
          record {
            light = refl;
            first = λ z. refl;
            left = subst (λ x. left_at x (removed n row.left) ≡ load_sum (loads_now x)) (sym same) (remove_here row.left 0 n p.rises ∙ sym (ap load_sum here));
          },
          omega (arith, s, a, b, falls, few),
        )
    latest_now (Some (list, k)) e is few now =
        let same : row.list ≡ n = equal_numbers row.list n e in
        let latest = now.latest in
        let list_is : list ≡ n = omega (arith, same, is, latest) in
        let s = p.sum_is in
        let a : load_sum row.waiting ≡ load_sum (loads list) = ap load_sum now.waits in
        let b : load_sum (loads list) ≡ load_sum (loads n) = ap (λ x. load_sum (loads x)) list_is in
        let c : left_at n row.left ≡ 0 = subst (λ x. left_at x row.left ≡ 0) list_is now.none_left in (
          record {
            latest = latest;
            waits = sym (ap loads_now list_is ∙ here);
            none_left = subst (λ x. left_at x (removed n row.left) ≡ 0) (sym list_is) (remove_here row.left 0 n p.rises);
            next = now.next;
          },
          omega (arith, s, a, b, c, falls),
        )

    other_now : (o : Option (ℕ × ℕ)) → nat_eq row.list n ≡ false → row.list ≡ begun - 1 → Now appended taken loads begun o row → Now appended taken loads_now begun o other_row
    unfolding other_row
    other_now None e is now = record {
      light = now.light;
      first = now.first;
      left = remove_there row.left n row.list e ∙ (now.left ∙ ap load_sum (sym (there row.list e)));
    }
    other_now (Some (list, k)) e is now =
        let latest = now.latest in
        let list_is : row.list ≡ list = omega (arith, is, latest) in
        let d : nat_eq list n ≡ false = subst (λ x. nat_eq x n ≡ false) list_is e in
        record {
          latest = latest;
          waits = now.waits ∙ sym (there list d);
          none_left = remove_there row.left n list d ∙ now.none_left;
          next = now.next;
        }

    -- what the list counts among those that were dropped is no more than all of these
    few_left : (o : Option (ℕ × ℕ)) → Now appended taken loads begun o row → (nat_eq n row.list ≡ false → load_sum (loads n) + load_sum (loads row.list) ≤ sum) → load_sum (loads n) ≤ sum → (b : Bool) → nat_eq n row.list ≡ b → left_at n row.left ≤ row.left_weight
    few_left None now two one true e =
        let s = p.sum_is in
        let a = now.light in
        let b : left_at n row.left ≡ load_sum (loads n) = subst (λ x. left_at x row.left ≡ load_sum (loads x)) (sym (equal_numbers n row.list e)) now.left in
        omega (arith, s, a, b, one)
    few_left None now two one false e =
        let s = p.sum_is in
        let a = now.light in
        let b = p.others n e in
        omega (arith, s, a, b, one)
    few_left (Some (list, k)) now two one true e =
        let latest = now.latest in
        let is = p.list_is in
        let list_is : list ≡ n = let same : n ≡ row.list = equal_numbers n row.list e in omega (arith, same, is, latest) in
        let c : left_at n row.left ≡ 0 = subst (λ x. left_at x row.left ≡ 0) list_is now.none_left in
        omega (arith, c)
    few_left (Some (list, k)) now two one false e =
        let latest = now.latest in
        let is = p.list_is in
        let list_is : row.list ≡ list = omega (arith, is, latest) in
        let s = p.sum_is in
        let a : load_sum row.waiting ≡ load_sum (loads row.list) = ap load_sum (now.waits ∙ sym (ap loads list_is)) in
        let b = p.others n e in
        let t = two e in
        omega (arith, s, a, b, t)

    cut_by : left_at n row.left ≤ row.left_weight → (b : Bool) → nat_eq row.list n ≡ b → Paid cut_now appended taken loads_now sum_now begun present (cut_left (left_at n row.left, removed n row.left) (cond b (record row { is_cut = true; waiting = [] }) row))
    unfolding latest_row other_row
    cut_by few true e =
        let r = latest_now present e p.list_is few p.now in
        record {
          list_is = p.list_is;
          cut_is = sym (ap (λ b. cond b true (cut row.list)) e);
          uncut = still_uncut;
          none = still_none;
          new_lists = p.new_lists;
          now = r.0;
          others = others_now;
          sum_is = r.1;
          rises = remove_rises row.left 0 n p.rises;
        }
    cut_by few false e =
        let s = p.sum_is in
        let a = p.others n (turned row.list n e) in
        record {
          list_is = p.list_is;
          cut_is = p.cut_is ∙ sym (ap (λ b. cond b true (cut row.list)) e);
          uncut = still_uncut;
          none = still_none;
          new_lists = p.new_lists;
          now = other_now present e p.list_is p.now;
          others = others_now;
          sum_is = omega (arith, s, a, falls, few);
          rises = remove_rises row.left 0 n p.rises;
        }

    pub cut_paid : (nat_eq n row.list ≡ false → load_sum (loads n) + load_sum (loads row.list) ≤ sum) → load_sum (loads n) ≤ sum → Paid cut_now appended taken loads_now sum_now begun present (cut_step n row)
    unfolding cut_step
    cut_paid two one = cut_by (few_left present p.now two one (nat_eq n row.list) refl) (nat_eq row.list n) refl

  -- ---- the same, in other words
  module _ (cut_now : ℕ → Bool) (appended_now : ℕ → ℕ → Bool) (taken_now : ℕ → ℕ → Option TakenStatus) (loads_now : ℕ → List OrbLoad) (sum_now : ℕ) where
    new_same : (m k : ℕ) → appended_now m k ≡ appended m k → taken_now m k ≡ taken m k → IsNew (appended m k) (taken m k) → IsNew (appended_now m k) (taken_now m k)
    new_same m k a t n = record { unborn = a ∙ n.unborn; untaken = t ∙ n.untaken }

    now_same : (o : Option (ℕ × ℕ)) → ((m k : ℕ) → appended_now m k ≡ appended m k) → ((m k : ℕ) → taken_now m k ≡ taken m k) → ((m : ℕ) → loads_now m ≡ loads m) → Now appended taken loads begun o row → Now appended_now taken_now loads_now begun o row
    now_same None a t l now = record { light = now.light; first = now.first; left = now.left ∙ ap load_sum (sym (l row.list)) }
    now_same (Some (n, k)) a t l now = record {
      latest = now.latest;
      waits = now.waits ∙ sym (l n);
      none_left = now.none_left;
      next = λ j b. new_same n j (a n j) (t n j) (now.next j b);
    }

    pub same_paid : ((m : ℕ) → cut_now m ≡ cut m) → ((m k : ℕ) → appended_now m k ≡ appended m k) → ((m k : ℕ) → taken_now m k ≡ taken m k) → ((m : ℕ) → loads_now m ≡ loads m) → sum_now ≡ sum → Paid cut_now appended_now taken_now loads_now sum_now begun present row
    same_paid c a t l s = record {
      list_is = p.list_is;
      cut_is = p.cut_is ∙ sym (c row.list);
      uncut = λ m b. c m ∙ p.uncut m b;
      none = λ m b. l m ∙ p.none m b;
      new_lists = λ m k b. new_same m k (a m k) (t m k) (p.new_lists m k b);
      now = now_same present a t l p.now;
      others = λ m d. p.others m d ∙ ap load_sum (sym (l m));
      sum_is = s ∙ p.sum_is;
      rises = p.rises;
    }
