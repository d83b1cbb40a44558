-- A list whose ranks rise is, kind by kind, what it was; so notes whose kinds rise as the action law has them, and packets behind them, stand in its order.
use Rattle.std.proofs.Common.{arith, ◌≡◌, ◌∙◌, refl, sym, ap, subst, ℕ, suc, ◌+◌, ◌<◌, ◌≤◌, nat_eq, Bool, true, false, cond, List, [], ◌∷◌, ◌++◌, length, append_assoc, append-nil}
use Rattle.std.proofs.lemmas.Bool.Decides.{nat_tests}
use Rattle.std.specs.List.{filter}
use Rattle.sbp_journal.specs.Run.{Moment}
use Rattle.sbp_journal.specs.declared.note.Note.{Note}
use Rattle.sbp_journal.specs.declared.note.Note.TheVariants as notes
use Rattle.sbp_laws.specs.ActionLaw.{InOrder, in_order}
use Rattle.sbp_laws.specs.Deliveries.{is_run_note, is_taken_note}
use Rattle.sbp_laws.specs.LoginLaw.{is_decision_note, is_login_note}
use Rattle.sbp_laws.specs.MediaLaw.{is_push_note, is_told_note}
use Rattle.sbp_laws.specs.NoteKinds.{is_cleared_note, is_cut_note, is_end_note, is_failure_note, is_operation_note}
use Rattle.sbp_laws.specs.Turns.{effects_of, is_sent, sends_of, turn}

pub same_rank : (n : ℕ) → n ≤ n
same_rank n = omega arith

module _ {A : Type 0} (rank : A → ℕ) where
  -- no rank is below the one before it, nor the first below `r`, nor the last above `top`
  abbrev pub Rises : ℕ → List A → ℕ → Type 0
  Rises r [] top = r ≤ top
  Rises r (x ∷ later) top = (r ≤ rank x) × Rises (rank x) later top

  pub rises_within : (xs : List A) (r top : ℕ) → Rises r xs top → r ≤ top
  rises_within [] r top h = h
  rises_within (x ∷ later) r top h = let f : r ≤ rank x = h.0 in let i = rises_within later (rank x) top h.1 in omega (arith, f, i)

  pub rises_below : (xs : List A) (q r top : ℕ) → q ≤ r → Rises r xs top → Rises q xs top
  rises_below [] q r top e h = let f : r ≤ top = h in omega (arith, e, f)
  rises_below (x ∷ later) q r top e h = (let f : r ≤ rank x = h.0 in omega (arith, e, f), h.1)

  pub rises_above : (xs : List A) (r m top : ℕ) → m ≤ top → Rises r xs m → Rises r xs top
  rises_above [] r m top e h = let f : r ≤ m = h in omega (arith, e, f)
  rises_above (x ∷ later) r m top e h = (h.0, rises_above later (rank x) m top e h.1)

  pub rises_both : (a b : List A) (r m top : ℕ) → Rises r a m → Rises m b top → Rises r (a ++ b) top
  rises_both [] b r m top g h = rises_below b r m top g h
  rises_both (x ∷ a) b r m top g h = (g.0, rises_both a b (rank x) m top g.1 h)

  pub rises_more : (xs : List A) (x : A) (r m : ℕ) → Rises r xs m → m ≤ rank x → Rises r (xs ++ x ∷ []) (rank x)
  rises_more xs x r m h e = rises_both xs (x ∷ []) r m (rank x) h (e, same_rank (rank x))

  -- ---- the kinds of some ranks, one after the other
  abbrev IsRank : ℕ → (A → Bool) → Type 0
  IsRank r kind = (x : A) → kind x ≡ nat_eq (rank x) r

  abbrev AreRanks : ℕ → List (A → Bool) → Type 0
  AreRanks r [] = Unit {0}
  AreRanks r (kind ∷ kinds) = IsRank r kind × AreRanks (r + 1) kinds

  abbrev sorted : List (A → Bool) → List A → List A
  sorted [] xs = []
  sorted (kind ∷ kinds) xs = filter kind xs ++ sorted kinds xs

  -- the same, joined from the left
  abbrev joined : List (A → Bool) → List A → List A → List A
  joined [] acc xs = acc
  joined (kind ∷ kinds) acc xs = joined kinds (acc ++ filter kind xs) xs

  joined_is : (kinds : List (A → Bool)) (acc xs : List A) → joined kinds acc xs ≡ acc ++ sorted kinds xs
  joined_is [] acc xs = sym (append-nil acc)
  joined_is (kind ∷ kinds) acc xs = joined_is kinds (acc ++ filter kind xs) xs ∙ append_assoc acc (filter kind xs) (sorted kinds xs)

  none_sorted : (kinds : List (A → Bool)) → sorted kinds [] ≡ []
  none_sorted [] = refl
  none_sorted (kind ∷ kinds) = none_sorted kinds

  -- none is of a rank below its first
  low_none : (kind : A → Bool) (r : ℕ) → IsRank r kind → (xs : List A) (q top : ℕ) → r < q → Rises q xs top → filter kind xs ≡ []
  low_none kind r k [] q top e h = refl
  low_none kind r k (x ∷ later) q top e h =
      let f : q ≤ rank x = h.0 in
      let above : r < rank x = omega (arith, e, f) in
      let other : nat_eq (rank x) r ≡ false = grind (arith, nat_tests) in
      ap (λ b. cond b (x ∷ filter kind later) (filter kind later)) (k x ∙ other) ∙ low_none kind r k later (rank x) top above h.1

  -- one of a lower rank is of none of the kinds
  skips : (kinds : List (A → Bool)) (r : ℕ) → AreRanks r kinds → (x : A) (later : List A) → rank x < r → sorted kinds (x ∷ later) ≡ sorted kinds later
  skips [] r a x later e = refl
  skips (kind ∷ kinds) r a x later e =
      let other : nat_eq (rank x) r ≡ false = grind (arith, nat_tests) in
      ap (λ b. cond b (x ∷ filter kind later) (filter kind later) ++ sorted kinds (x ∷ later)) (a.0 x ∙ other)
      ∙ ap (λ xs. filter kind later ++ xs) (skips kinds (r + 1) a.1 x later (omega (arith, e)))

  module _ (kind : A → Bool) (kinds : List (A → Bool)) (r top : ℕ) (k : IsRank r kind) (a : AreRanks (r + 1) kinds) (higher : (ys : List A) → Rises (r + 1) ys top → sorted kinds ys ≡ ys) where
    abbrev AreSorted : List A → Type 0
    AreSorted xs = filter kind xs ++ sorted kinds xs ≡ xs

    abbrev first_if : A → List A → Bool → List A
    first_if x later b = cond b (x ∷ filter kind later) (filter kind later) ++ sorted kinds (x ∷ later)

    sorts_one : (x : A) (later : List A) → r ≤ rank x → Rises (rank x) later top → (Rises r later top → AreSorted later) → (b : Bool) → nat_eq (rank x) r ≡ b → AreSorted (x ∷ later)
    sorts_one x later f h rest true e =
        let same : rank x ≡ r = grind (arith, nat_tests) in
        ap (first_if x later) (k x ∙ e)
        ∙ ap (λ xs. x ∷ filter kind later ++ xs) (skips kinds (r + 1) a x later (omega (arith, same)))
        ∙ ap (λ xs. x ∷ xs) (rest (subst (λ n. Rises n later top) same h))
    sorts_one x later f h rest false e =
        let above : r + 1 ≤ rank x = grind (arith, nat_tests) in
        ap (first_if x later) (k x ∙ e)
        ∙ ap (λ xs. xs ++ sorted kinds (x ∷ later)) (low_none kind r k later (rank x) top (omega (arith, above)) h)
        ∙ higher (x ∷ later) (above, h)

    sorts_each : (xs : List A) → Rises r xs top → AreSorted xs
    sorts_each [] h = none_sorted kinds
    sorts_each (x ∷ later) h = sorts_one x later h.0 h.1 (λ i. sorts_each later i) (nat_eq (rank x) r) refl

  sorts : (kinds : List (A → Bool)) (r top : ℕ) → AreRanks r kinds → top < r + length kinds → (xs : List A) → Rises r xs top → sorted kinds xs ≡ xs
  sorts [] r top a e xs h = absurd (let w = rises_within xs r top h in let f : top < r + 0 = e in omega (arith, w, f))
  sorts (kind ∷ kinds) r top a e xs h =
      let f : top < r + 1 + length kinds = (let g : top < r + suc (length kinds) = e in omega (arith, g)) in
      sorts_each kind kinds r top a.0 a.1 (λ ys i. sorts kinds (r + 1) top a.1 f ys i) xs h

-- ---- the ranks of notes
abbrev pub note_rank : Note → ℕ
note_rank (notes.Cut i list cause) = 0
note_rank (notes.Cleared unit) = 1
note_rank (notes.Held login) = 2
note_rank (notes.Expired login) = 2
note_rank (notes.Back login) = 2
note_rank (notes.Left login) = 2
note_rank (notes.Managed i function subject status login) = 3
note_rank (notes.ManageFailed i cause) = 4
note_rank (notes.Ran i list number unit cdb bytes check) = 5
note_rank (notes.Ended i list number status) = 6
note_rank (notes.Dead i list cause) = 6
note_rank (notes.Unsolicited i) = 7
note_rank (notes.Unsent i) = 7
note_rank (notes.Told i) = 8
note_rank (notes.Taken i n k status answer) = 9
note_rank (notes.Op i operation word) = 10
note_rank (notes.Drop i n) = 10
note_rank (notes.Stuck i) = 10
note_rank (notes.Sent serial generation from to bytes) = 11
note_rank note = 12

abbrev IsNoteRank : ℕ → (Note → Bool) → Type 0
IsNoteRank r kind = (note : Note) → kind note ≡ nat_eq (note_rank note) r

cuts : IsNoteRank 0 is_cut_note
cuts (notes.Cut i list cause) = refl
cuts note = refl

clears : IsNoteRank 1 is_cleared_note
clears (notes.Cleared unit) = refl
clears note = refl

moves : IsNoteRank 2 is_login_note
moves (notes.Held login) = refl
moves note = refl

decides : IsNoteRank 3 is_decision_note
decides (notes.Managed i function subject status login) = refl
decides note = refl

fails : IsNoteRank 4 is_failure_note
fails (notes.ManageFailed i cause) = refl
fails note = refl

runs : IsNoteRank 5 is_run_note
runs (notes.Ran i list number unit cdb bytes check) = refl
runs note = refl

ends : IsNoteRank 6 is_end_note
ends (notes.Ended i list number status) = refl
ends note = refl

pushes : IsNoteRank 7 is_push_note
pushes (notes.Unsolicited i) = refl
pushes note = refl

tells : IsNoteRank 8 is_told_note
tells (notes.Told i) = refl
tells note = refl

takes : IsNoteRank 9 is_taken_note
takes (notes.Taken i n k status answer) = refl
takes note = refl

works : IsNoteRank 10 is_operation_note
works (notes.Op i operation word) = refl
works note = refl

sends : IsNoteRank 11 is_sent
sends (notes.Sent serial generation from to bytes) = refl
sends note = refl

abbrev order : List (Note → Bool)
order =
    is_cut_note ∷ is_cleared_note ∷ is_login_note ∷ is_decision_note ∷ is_failure_note ∷ is_run_note ∷ is_end_note ∷ is_push_note
    ∷ is_told_note ∷ is_taken_note ∷ is_operation_note ∷ []

are_ranks : AreRanks note_rank 0 order
are_ranks = (cuts, (clears, (moves, (decides, (fails, (runs, (ends, (pushes, (tells, (takes, (works, tt)))))))))))

-- ---- effects, and packets behind them
abbrev effects_if : Note → List Note → Bool → List Note
effects_if note later b = cond b (effects_of later) (note ∷ effects_of later)

abbrev sends_if : Note → List Note → Bool → List Note
sends_if note later b = cond b (note ∷ sends_of later) (sends_of later)

-- behind a packet stand packets alone
record AreSends (ns : List Note) : Type 0 where
  effects : effects_of ns ≡ []
  sends : sends_of ns ≡ ns

sends_alone : (ns : List Note) → Rises note_rank 11 ns 11 → AreSends ns
sends_alone [] h = record { effects = refl; sends = refl }
sends_alone (note ∷ later) h =
    let low : 11 ≤ note_rank note = h.0 in
    let high = rises_within note_rank later (note_rank note) 11 h.1 in
    let same : note_rank note ≡ 11 = omega (arith, low, high) in
    let sent : is_sent note ≡ true = sends note ∙ ap (λ n. nat_eq n 11) same in
    let rest = sends_alone later (rises_below note_rank later 11 (note_rank note) 11 low h.1) in
    record {
      effects = ap (effects_if note later) sent ∙ rest.effects;
      sends = ap (sends_if note later) sent ∙ ap (λ ns. note ∷ ns) rest.sends;
    }

-- effects of rising ranks, and packets behind them
record Splits (r : ℕ) (ns : List Note) : Type 0 where
  effects : Rises note_rank r (effects_of ns) 10
  first : ns ≡ effects_of ns ++ sends_of ns

splits_one : (note : Note) (later : List Note) (r : ℕ) → r ≤ 10 → r ≤ note_rank note → Rises note_rank (note_rank note) later 11 → (note_rank note ≤ 10 → Splits (note_rank note) later) → (b : Bool) → nat_eq (note_rank note) 11 ≡ b → Splits r (note ∷ later)
splits_one note later r small f h rest true e =
    let same : note_rank note ≡ 11 = grind (arith, nat_tests) in
    let alone = sends_alone (note ∷ later) (omega (arith, same), h) in
    record {
      effects = subst (λ ns. Rises note_rank r ns 10) (sym alone.effects) small;
      first = sym (ap (λ ns. ns ++ sends_of (note ∷ later)) alone.effects ∙ alone.sends);
    }
splits_one note later r small f h rest false e =
    let high = rises_within note_rank later (note_rank note) 11 h in
    let below : note_rank note ≤ 10 = grind (arith, nat_tests) in
    let s = rest below in
    let effects_are : effects_of (note ∷ later) ≡ note ∷ effects_of later = ap (effects_if note later) (sends note ∙ e) in
    let sends_are : sends_of (note ∷ later) ≡ sends_of later = ap (sends_if note later) (sends note ∙ e) in
    record {
      effects = subst (λ ns. Rises note_rank r ns 10) (sym effects_are) (f, s.effects);
      first = ap (λ ns. note ∷ ns) s.first ∙ sym (ap (λ ns. ns ++ sends_of (note ∷ later)) effects_are ∙ ap (λ ns. note ∷ effects_of later ++ ns) sends_are);
    }

splits : (ns : List Note) (r : ℕ) → r ≤ 10 → Rises note_rank r ns 11 → Splits r ns
splits [] r small h = record { effects = small; first = refl }
splits (note ∷ later) r small h = splits_one note later r small h.0 h.1 (λ e. splits later (note_rank note) e h.1) (nat_eq (note_rank note) 11) refl

pub rises_in_order : (past : List Moment) (start : Moment) (rest : List Note) → Rises note_rank 0 rest 11 → InOrder (turn past start rest)
rises_in_order past start rest h =
    let s = splits rest 0 (omega arith) h in
    let effects = effects_of rest in
    let few : 10 < 11 = omega arith in
    let is_joined : in_order effects ≡ joined note_rank order [] effects = refl in
    record {
      effects = sym (is_joined ∙ joined_is note_rank order [] effects ∙ sorts note_rank order 0 10 are_ranks few effects s.effects);
      first = s.first;
    }
