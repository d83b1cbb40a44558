-- What the target tells of ends in a call in which the agent of one place acts, by the history: no more of them than it tells, and of the initiator of this place alone; and with a status that it tells.
use Rattle.std.proofs.Common.{arith, ◌≡◌, ◌∙◌, refl, sym, ap, subst, inl, inr, ◌⊎◌, ◌≤◌, ◌+◌, ℕ, suc, nat_eq, Bool, true, false, cond, List, [], ◌∷◌, ◌++◌, length, Option, Some, None}
use Rattle.std.proofs.lemmas.Bool.Decides.{nat_tests}
use Rattle.std.proofs.lemmas.List.{length-append}
use Rattle.std.proofs.lemmas.Option.{same_Some}
use Rattle.orb_layout.specs.declared.status.StatusKind.{StatusKind}
use Rattle.sbp_journal.specs.declared.note.Note.TheVariants as notes
use Rattle.sbp_journal.specs.declared.side.Side.{Side}
use Rattle.sbp_journal.specs.declared.side.Side.TheVariants as sides
use Rattle.sbp_journal.specs.Run.{Moment, said}
use Rattle.sbp_laws.specs.Terms.{ended_status, ends}
use Rattle.sbp_world.specs.Telling.{holder, told, told_all}
use Rattle.sbp_world.specs.Worlds.{WorldState}
use Rattle.sbp_world.proofs.Agents.Management.Still.{hist}
use Rattle.sbp_world.proofs.Lists.BusyFollows.{AreOf, IsOf}
use Rattle.sbp_world.proofs.Lists.BusyNotes.{one_holder}
use Rattle.sbp_world.proofs.Lists.EndingFollows.{ends_in, one_ending}

-- a status is among these
abbrev pub IsAmong : StatusKind → List StatusKind → Type 0
IsAmong status [] = ⊥
IsAmong status (kind ∷ later) = (status ≡ kind) ⊎ IsAmong status later

-- as many ended as before, or some of initiator j
abbrev pub IsMore : (i j before now count : ℕ) → Type 0
IsMore i j before now count = (now ≡ before) ⊎ ((i ≡ j) × (now ≤ before + count))

some_kind : (kind : StatusKind) (later : List StatusKind) → kind ∷ later ≡ [] → ⊥
some_kind kind later e = cc

-- ---- one note
end_by : (ms : List Moment) (j m i n : ℕ) (x y : Bool) → nat_eq i j ≡ x → nat_eq n m ≡ y → IsMore i j (ends ms i n) (cond x (cond y (suc (ends ms j m)) (ends ms i n)) (ends ms i n)) 1
end_by ms j m i n true true e f =
    let same_i : i ≡ j = grind (arith, nat_tests) in
    let same_n : n ≡ m = grind (arith, nat_tests) in
    let at : ends ms i n ≡ ends ms j m = ap (λ a. ends ms a n) same_i ∙ ap (ends ms j) same_n in
    inr (same_i, omega (arith, at))
end_by ms j m i n true false e f = inl refl
end_by ms j m i n false y e f = inl refl

end_now : (ms : List Moment) (j : ℕ) (x y : Option ℕ) (status : StatusKind) (i n : ℕ) → IsMore i j (ends ms i n) (ends (said (notes.Ended j x y status) ∷ ms) i n) 1
end_now ms j None y status i n = inl refl
end_now ms j (Some m) None status i n = inl refl
end_now ms j (Some m) (Some k) status i n = end_by ms j m i n (nat_eq i j) (nat_eq n m) refl refl

status_by : (ms : List Moment) (i n k : ℕ) (status st : StatusKind) (x y z : Bool) → cond x (cond y (cond z (Some status) (ended_status ms i n k)) (ended_status ms i n k)) (ended_status ms i n k) ≡ Some st → (ended_status ms i n k ≡ Some st) ⊎ (st ≡ status)
status_by ms i n k status st true true true e = inr (sym (same_Some status st e))
status_by ms i n k status st true true false e = inl e
status_by ms i n k status st true false z e = inl e
status_by ms i n k status st false y z e = inl e

status_now : (ms : List Moment) (j : ℕ) (x y : Option ℕ) (status : StatusKind) (i n k : ℕ) (st : StatusKind) → ended_status (said (notes.Ended j x y status) ∷ ms) i n k ≡ Some st → (ended_status ms i n k ≡ Some st) ⊎ (st ≡ status)
status_now ms j None y status i n k st e = inl e
status_now ms j (Some m) None status i n k st e = inl e
status_now ms j (Some m) (Some l) status i n k st e = status_by ms i n k status st (nat_eq i j) (nat_eq n m) (nat_eq k l) e

-- ---- what is told
module _ (past : List Moment) (q : ℕ) where
  -- a side that ends no ORB
  record IsSame (x y : WorldState) : Type 0 where
    ends_are : (i n : ℕ) → ends (hist past y) i n ≡ ends (hist past x) i n
    statuses_are : (i n k : ℕ) → ended_status (hist past y) i n k ≡ ended_status (hist past x) i n k

  quiet_side : (side : Side) (x : WorldState) → IsOf q side → one_ending side ≡ [] → IsSame x (told 0 side x)
  unfolding told
  quiet_side (sides.Ended place orb status) x h e = absurd (some_kind status [] e)
  quiet_side (sides.Opened place orb) x h e = record { ends_are = λ i n. refl; statuses_are = λ i n k. refl }
  quiet_side (sides.Ran place orb cdb payload outcome) x h e = record { ends_are = λ i n. refl; statuses_are = λ i n k. refl }
  quiet_side (sides.Dead place cause) x h e = record { ends_are = λ i n. refl; statuses_are = λ i n k. refl }
  quiet_side (sides.Unsolicited place) x h e = record { ends_are = λ i n. refl; statuses_are = λ i n k. refl }
  quiet_side (sides.Unsent place) x h e = record { ends_are = λ i n. refl; statuses_are = λ i n k. refl }
  quiet_side (sides.Own note) x h e = absurd h
  quiet_side (sides.Cut place cause) x h e = absurd h
  quiet_side (sides.Managed node function subject status login) x h e = absurd h
  quiet_side (sides.ManageFailed node cause) x h e = absurd h
  quiet_side (sides.Held login) x h e = absurd h
  quiet_side (sides.Expired login) x h e = absurd h
  quiet_side (sides.Back login) x h e = absurd h
  quiet_side (sides.Left login) x h e = absurd h
  quiet_side (sides.Cleared unit) x h e = absurd h

  -- a side is the end of an ORB, or ends none
  data IsWhich (side : Side) : Type 0 where
    is_end : (place orb : ℕ) (status : StatusKind) → side ≡ sides.Ended place orb status → IsWhich side
    is_quiet : one_ending side ≡ [] → IsWhich side

  which : (side : Side) → IsWhich side
  which (sides.Ended place orb status) = is_end place orb status refl
  which side = is_quiet refl

  module _ (i n : ℕ) where
    abbrev More : WorldState → WorldState → ℕ → Type 0
    More x y count = IsMore i (holder x q).initiator (ends (hist past x) i n) (ends (hist past y) i n) count

    ended_more : (place orb : ℕ) (status : StatusKind) (x : WorldState) → place ≡ q → More x (told 0 (sides.Ended place orb status) x) 1
    unfolding told
    ended_more place orb status x at =
        subst (λ j. IsMore i j (ends (hist past x) i n) (ends (hist past (told 0 (sides.Ended place orb status) x)) i n) 1) (ap (λ p. (holder x p).initiator) at)
        (end_now (hist past x) (holder x place).initiator _ _ status i n)

    joined_more : (j a b c count more total : ℕ) → total ≡ count + more → IsMore i j a b count → IsMore i j b c more → IsMore i j a c total
    joined_more j a b c count more total t (inl e) (inl f) = inl (f ∙ e)
    joined_more j a b c count more total t (inl e) (inr f) = let g = f.1 in inr (f.0, omega (arith, t, e, g))
    joined_more j a b c count more total t (inr e) (inl f) = let g = e.1 in inr (e.0, omega (arith, t, f, g))
    joined_more j a b c count more total t (inr e) (inr f) = let g = e.1 in let h = f.1 in inr (e.0, omega (arith, t, g, h))

    side_more : (side : Side) (x : WorldState) → IsOf q side → IsWhich side → More x (told 0 side x) (length (one_ending side))
    side_more side x h (is_end place orb status e) =
        subst (λ s. More x (told 0 s x) (length (one_ending s))) (sym e) (ended_more place orb status x (subst (IsOf q) e h))
    side_more side x h (is_quiet e) = inl ((quiet_side side x h e).ends_are i n)

    both_length : (a b : List StatusKind) → length (a ++ b) ≡ length a + length b
    both_length a b = length-append a b

    pub ends_told : (told_sides : List Side) (x : WorldState) → AreOf q told_sides → IsMore i (holder x q).initiator (ends (hist past x) i n) (ends (hist past (told_all 0 told_sides x)) i n) (length (ends_in told_sides))
    unfolding told_all
    ends_told [] x h = inl refl
    ends_told (side ∷ later) x h =
        let y = told 0 side x in
        let rest = ends_told later y h.1 in
        let same : (holder y q).initiator ≡ (holder x q).initiator = one_holder past q side x h.0 in
        joined_more (holder x q).initiator (ends (hist past x) i n) (ends (hist past y) i n) (ends (hist past (told_all 0 later y)) i n) (length (one_ending side)) (length (ends_in later)) (length (one_ending side ++ ends_in later))
        (both_length (one_ending side) (ends_in later)) (side_more side x h.0 (which side)) (subst (λ j. IsMore i j (ends (hist past y) i n) (ends (hist past (told_all 0 later y)) i n) (length (ends_in later))) same rest)

    -- ---- with which status
    module _ (k : ℕ) (st : StatusKind) where
      abbrev Had : WorldState → List StatusKind → Type 0
      Had x told_kinds = (ended_status (hist past x) i n k ≡ Some st) ⊎ IsAmong st told_kinds

      among_more : (a b : List StatusKind) → IsAmong st b → IsAmong st (a ++ b)
      among_more [] b h = h
      among_more (x ∷ a) b h = inr (among_more a b h)

      ended_had : (place orb : ℕ) (status : StatusKind) (later : List StatusKind) (x : WorldState) → ended_status (hist past (told 0 (sides.Ended place orb status) x)) i n k ≡ Some st → Had x (status ∷ later)
      unfolding told
      ended_had place orb status later x e = by (status_now (hist past x) (holder x place).initiator _ _ status i n k st e)
        where
          by : (ended_status (hist past x) i n k ≡ Some st) ⊎ (st ≡ status) → Had x (status ∷ later)
          by (inl f) = inl f
          by (inr f) = inr (inl f)

      side_had : (side : Side) (later : List StatusKind) (x : WorldState) → IsOf q side → ended_status (hist past (told 0 side x)) i n k ≡ Some st → IsWhich side → Had x (one_ending side ++ later)
      side_had side later x h e (is_end place orb status f) =
          subst (λ s. Had x (one_ending s ++ later)) (sym f) (ended_had place orb status later x (subst (λ s. ended_status (hist past (told 0 s x)) i n k ≡ Some st) f e))
      side_had side later x h e (is_quiet f) = inl (sym ((quiet_side side x h f).statuses_are i n k) ∙ e)

      pub status_told : (told_sides : List Side) (x : WorldState) → AreOf q told_sides → ended_status (hist past (told_all 0 told_sides x)) i n k ≡ Some st → (ended_status (hist past x) i n k ≡ Some st) ⊎ IsAmong st (ends_in told_sides)
      unfolding told_all
      status_told [] x h e = inl e
      status_told (side ∷ later) x h e = by (status_told later (told 0 side x) h.1 e)
        where
          by : Had (told 0 side x) (ends_in later) → Had x (one_ending side ++ ends_in later)
          by (inl f) = side_had side (ends_in later) x h.0 f (which side)
          by (inr f) = inr (among_more (one_ending side) (ends_in later) f)
