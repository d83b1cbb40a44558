-- The places of the target's logins: a list that is open in one is a list that its initiator began.
use Rattle.sbp_world.proofs.Words.Std.{position, slice_set, slice_index_or, ◌≡◌, arith, refl, sym, subst, nat_eq, nat_tests, get_or-set_at, get_or-set_other, set_past}
use Rattle.sbp_world.proofs.Words.Wire.{FunctionWord, Holder, back_at, back_step, enter_step, has_login, holder_at, holder_of, is_free, left_step, new_places, first_holder, opened_by, opened_step, or_nobody, place_in, put_at, taken_by, decided_places, managed_places}
use Rattle.std.specs.Prelude.{ℕ, zero, suc, ◌+◌, ◌<◌, ◌%◌, ◌==◌, nat_lt, Bool, true, false, cond, List, [], ◌∷◌, length, Option, Some, None}
use Rattle.sbp_journal.specs.declared.operation.FunctionWord.TheVariants as functions
use Rattle.sbp_world.proofs.Wire.Counted.{AreHeld}

module _ (n : ℕ) (begun : ℕ → ℕ) where
  -- who has a place has a list that was begun, if any
  abbrev pub IsHeld : Holder → Type 0
  IsHeld holder = (list : ℕ) → holder.list ≡ Some list → (holder.initiator < n) × (list < begun holder.initiator)

  none_held : (initiator unit login : ℕ) → IsHeld (record { initiator = initiator; unit = unit; login = login; list = None })
  none_held initiator unit login list e = absurd (differ e)
    where
      differ : None ≡ Some list → ⊥
      differ e = cc

  set_held : (places : List (Option Holder)) (place : ℕ) (o : Option Holder) → IsHeld (or_nobody o) → AreHeld n begun places → AreHeld n begun (slice_set places place o)
  set_held places place o g h p = by (nat_lt place (length places)) refl (nat_eq p place) refl
    where
      by : (b : Bool) → nat_lt place (length places) ≡ b → (c : Bool) → nat_eq p place ≡ c → IsHeld (or_nobody (slice_index_or (slice_set places place o) p None))
      by true e true f =
          subst (λ x. IsHeld (or_nobody x)) (sym (get_or-set_at places place p o None (grind (arith, nat_tests)) (grind (arith, nat_tests)))) g
      by true e false f = subst (λ x. IsHeld (or_nobody x)) (sym (get_or-set_other places place p o None (λ x. apart x f))) (h p)
        where
          apart : p ≡ place → nat_eq p place ≡ false → ⊥
          apart x f = let y : nat_eq p place ≡ true = grind (arith, nat_tests) in cc
      by false e c f = subst (λ xs. IsHeld (or_nobody (slice_index_or xs p None))) (sym (set_past places place o (grind (arith, nat_tests)))) (h p)

  put_held : (place : Option ℕ) (o : Option Holder) (places : List (Option Holder)) → IsHeld (or_nobody o) → AreHeld n begun places → AreHeld n begun (put_at place o places)
  put_held None o places g h = h
  put_held (Some place) o places g h = set_held places place o g h

  pub leaves_held : (login : ℕ) (places : List (Option Holder)) → AreHeld n begun places → AreHeld n begun (left_step login places)
  unfolding left_step
  leaves_held login places h = put_held (position (has_login login) places) None places (none_held 0 0 0) h

  taken_held : (o : Option Holder) (place initiator : ℕ) (places : List (Option Holder)) → AreHeld n begun places → AreHeld n begun (taken_by o place initiator places)
  taken_held None place initiator places h = h
  taken_held (Some holder) place initiator places h =
      set_held places place (Some (record holder { initiator = initiator; list = None })) (none_held initiator holder.unit holder.login) h

  back_held_at : (place : Option ℕ) (initiator : ℕ) (places : List (Option Holder)) → AreHeld n begun places → AreHeld n begun (back_at place initiator places)
  back_held_at None initiator places h = h
  back_held_at (Some place) initiator places h = taken_held (place_in places place) place initiator places h

  back_held : (login initiator : ℕ) (places : List (Option Holder)) → AreHeld n begun places → AreHeld n begun (back_step login initiator places)
  unfolding back_step
  back_held login initiator places h = back_held_at (position (has_login login) places) initiator places h

  enter_held : (initiator unit login : ℕ) (places : List (Option Holder)) → AreHeld n begun places → AreHeld n begun (enter_step (holder_of initiator unit login) places)
  unfolding enter_step
  enter_held initiator unit login places h = put_held (position is_free places) (Some (holder_of initiator unit login)) places (none_held initiator unit login) h

  managed_held : (word : FunctionWord) (subject login initiator : ℕ) (places : List (Option Holder)) → AreHeld n begun places → AreHeld n begun (managed_places word subject login initiator places)
  managed_held functions.Login subject login initiator places h = enter_held initiator (subject % 256) login places h
  managed_held functions.Query subject login initiator places h = h
  managed_held functions.Reconnect subject login initiator places h = back_held subject initiator places h
  managed_held functions.Logout subject login initiator places h = h
  managed_held functions.Abort subject login initiator places h = h
  managed_held functions.AbortSet subject login initiator places h = h
  managed_held functions.UnitReset subject login initiator places h = h
  managed_held functions.TargetReset subject login initiator places h = h
  managed_held functions.Other subject login initiator places h = h

  pub decided_held : (status : ℕ) (word : FunctionWord) (subject login initiator : ℕ) (places : List (Option Holder)) → AreHeld n begun places → AreHeld n begun (decided_places status word subject login initiator places)
  decided_held status word subject login initiator places h = by (status == 0)
    where
      by : (b : Bool) → AreHeld n begun (cond b (managed_places word subject login initiator places) places)
      by true = managed_held word subject login initiator places h
      by false = h

  opened_held_by : (o : Option Holder) (place : ℕ) (list : Option ℕ) (places : List (Option Holder)) → place_in places place ≡ o → ((m : ℕ) → list ≡ Some m → ((holder_at places place).initiator < n) × (m < begun (holder_at places place).initiator)) → AreHeld n begun places → AreHeld n begun (opened_by o place list places)
  opened_held_by None place list places e g h = h
  opened_held_by (Some holder) place list places e g h =
      set_held places place (Some (record holder { list = list }))
      (λ m f. subst (λ (x : Option Holder). ((or_nobody x).initiator < n) × (m < begun (or_nobody x).initiator)) e (g m f)) h

  pub opens_held : (place : ℕ) (list : Option ℕ) (places : List (Option Holder)) → ((m : ℕ) → list ≡ Some m → ((holder_at places place).initiator < n) × (m < begun (holder_at places place).initiator)) → AreHeld n begun places → AreHeld n begun (opened_step place list places)
  unfolding opened_step
  opens_held place list places g h = opened_held_by (place_in places place) place list places refl g h

  -- ---- at the start
  first_held : (ready place : ℕ) → IsHeld (or_nobody (first_holder ready place))
  first_held ready place = by (nat_lt place ready)
    where
      by : (b : Bool) → IsHeld (or_nobody (cond b (Some (holder_of place 0 (place + 1))) None))
      by true = none_held place 0 (place + 1)
      by false = none_held 0 0 0

  abbrev EachHeld : List (Option Holder) → Type 0
  EachHeld [] = Unit {0}
  EachHeld (o ∷ places) = IsHeld (or_nobody o) × EachHeld places

  all_held : (places : List (Option Holder)) → EachHeld places → AreHeld n begun places
  all_held [] h p = none_held 0 0 0
  all_held (o ∷ places) h zero = h.0
  all_held (o ∷ places) h (suc p) = all_held places h.1 p

  pub new_held : (ready : ℕ) → AreHeld n begun (new_places ready)
  new_held ready =
      all_held (new_places ready)
      (first_held ready 0, (first_held ready 1, (first_held ready 2, (first_held ready 3, (first_held ready 4, (first_held ready 5, (first_held ready 6, (first_held ready 7, tt))))))))
