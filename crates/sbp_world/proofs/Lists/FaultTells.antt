-- What the target tells of the ends of the agent of a place, by the history: a list has an end as failed or illegal then where it had one, or where one is told of the place; and an end that is told is of
-- a list that had none.
use Rattle.std.proofs.Common.{arith, ◌≡◌, ◌∙◌, refl, sym, ap, subst, inl, inr, ◌⊎◌, ◌||◌, ℕ, suc, nat_eq, Bool, true, false, cond, List, [], ◌∷◌, ◌++◌, Option, Some, None}
use Rattle.std.proofs.lemmas.Bool.Decides.{nat_tests}
use Rattle.std.proofs.lemmas.Bool.{false≢true}
use Rattle.orb_layout.specs.declared.status.StatusKind.{StatusKind}
use Rattle.orb_layout.specs.declared.status.StatusKind.TheVariants as kinds
use Rattle.command_agent.specs.declared.phase.Phase.{Phase}
use Rattle.sbp_journal.specs.declared.note.Note.TheVariants as notes
use Rattle.sbp_journal.specs.declared.side.Side.{Side}
use Rattle.sbp_journal.specs.declared.side.Side.TheVariants as sides
use Rattle.sbp_journal.specs.Run.{Moment, said}
use Rattle.sbp_laws.specs.OrderLaw.{is_cut}
use Rattle.sbp_laws.specs.Terms.{lists}
use Rattle.sbp_laws.specs.Turns.{EachMoment}
use Rattle.sbp_world.specs.Telling.{holder, told, told_all}
use Rattle.sbp_world.specs.Worlds.{WorldState}
use Rattle.sbp_world.proofs.Agents.Management.Still.{hist}
use Rattle.sbp_world.specs.Lists.Faults.{has_fault, is_fault}
use Rattle.sbp_world.proofs.Lists.BusyFollows.{AreOf, IsOf}
use Rattle.sbp_world.proofs.Lists.BusyNotes.{one_holder}
use Rattle.sbp_world.proofs.Lists.EndingFollows.{ends_in, one_ending}
use Rattle.sbp_world.proofs.Lists.EndingSteps.{AreEnding, EndsIn, is_last}
use Rattle.sbp_world.proofs.Lists.Extends.{all_told}
use Rattle.sbp_world.proofs.Lists.OpenWorlds.{hist_on}
use Rattle.sbp_world.proofs.Lists.Passing.{PassLaw}
use Rattle.sbp_world.proofs.Lists.UnrunTerms.{passes_from}
use Rattle.sbp_world.proofs.Common.{moments_joined, or_left, or_right}

-- ---- of ends of these kinds
abbrev pub has_faulty : List StatusKind → Bool
has_faulty [] = false
has_faulty (kind ∷ later) = is_fault kind || has_faulty later

fault_last : (kind : StatusKind) (phase : Phase) → is_fault kind ≡ true → EndsIn kind phase → is_last phase ≡ true
fault_last kinds.Failed phase f e = e
fault_last (kinds.Illegal meaning) phase f e = e
fault_last kinds.Good phase f e = absurd (false≢true f)
fault_last (kinds.Check sense) phase f e = absurd (false≢true f)
fault_last kinds.Dummy phase f e = absurd (false≢true f)
fault_last kinds.Aborted phase f e = absurd (false≢true f)
fault_last (kinds.Management meaning) phase f e = absurd (false≢true f)

or_false : (a : Bool) → (a || false) ≡ true → a ≡ true
or_false true e = refl
or_false false e = e

pub faulty_last : (Was : Type 0) (kinds_told : List StatusKind) (phase : Phase) → AreEnding Was kinds_told phase → has_faulty kinds_told ≡ true → is_last phase ≡ true
faulty_last Was [] phase h e = absurd (false≢true e)
faulty_last Was (kind ∷ []) phase h e = fault_last kind phase (or_false (is_fault kind) e) h.0
faulty_last Was (kind ∷ other ∷ later) phase h e = absurd h

-- one at most
abbrev pub IsOneEnd : List StatusKind → Type 0
IsOneEnd [] = Unit {0}
IsOneEnd (kind ∷ []) = Unit {0}
IsOneEnd (kind ∷ other ∷ later) = ⊥

pub one_end : (Was : Type 0) (kinds_told : List StatusKind) (phase : Phase) → AreEnding Was kinds_told phase → IsOneEnd kinds_told
one_end Was [] phase h = tt
one_end Was (kind ∷ []) phase h = tt
one_end Was (kind ∷ other ∷ later) phase h = absurd h

none_behind : (kind : StatusKind) (later : List StatusKind) → IsOneEnd (kind ∷ later) → later ≡ []
none_behind kind [] h = refl
none_behind kind (other ∷ later) h = absurd h

-- each end is of a list without a fault, of the initiators that injected no packets
abbrev pub AliveAt : (ℕ → Bool) → Moment → List Moment → Type 0
AliveAt wild (said (notes.Ended j (Some n) (Some k) status)) past = wild j ≡ false → has_fault past j n ≡ false
AliveAt wild moment past = Unit {0}

-- ---- one note
abbrev IsNow : ℕ → ℕ → StatusKind → Type 0
IsNow i j status = (i ≡ j) × (is_fault status ≡ true)

or_either : (a b : Bool) → (a || b) ≡ true → (a ≡ true) ⊎ (b ≡ true)
or_either true b e = inl refl
or_either false b e = inr e

module _ (i n : ℕ) where
  fault_by : (ms : List Moment) (j m : ℕ) (status : StatusKind) (x y : Bool) → nat_eq i j ≡ x → nat_eq n m ≡ y → cond x (cond y (is_fault status || has_fault ms j m) (has_fault ms i n)) (has_fault ms i n) ≡ true → (has_fault ms i n ≡ true) ⊎ IsNow i j status
  fault_by ms j m status true true e f h =
      let same_i : i ≡ j = grind (arith, nat_tests) in
      let same_n : n ≡ m = grind (arith, nat_tests) in
      by same_i same_n (or_either (is_fault status) (has_fault ms j m) h)
    where
      by : i ≡ j → n ≡ m → (is_fault status ≡ true) ⊎ (has_fault ms j m ≡ true) → (has_fault ms i n ≡ true) ⊎ IsNow i j status
      by a b (inl g) = inr (a, g)
      by a b (inr g) = inl (ap (λ k. has_fault ms k n) a ∙ (ap (has_fault ms j) b ∙ g))
  fault_by ms j m status true false e f h = inl h
  fault_by ms j m status false y e f h = inl h

  fault_now : (ms : List Moment) (j : ℕ) (x y : Option ℕ) (status : StatusKind) → has_fault (said (notes.Ended j x y status) ∷ ms) i n ≡ true → (has_fault ms i n ≡ true) ⊎ IsNow i j status
  fault_now ms j None y status h = inl h
  fault_now ms j (Some m) None status h = inl h
  fault_now ms j (Some m) (Some k) status h = fault_by ms j m status (nat_eq i j) (nat_eq n m) refl refl h

some_kind : (kind : StatusKind) (later : List StatusKind) → kind ∷ later ≡ [] → ⊥
some_kind kind later e = cc

module _ (past : List Moment) (q : ℕ) where
  -- a side that ends no ORB
  pub record IsSame (x y : WorldState) : Type 0 where
    pub faults : (i n : ℕ) → has_fault (hist past y) i n ≡ has_fault (hist past x) i n
    pub lists_are : (i : ℕ) → lists (hist past y) i ≡ lists (hist past x) i
    pub cuts_are : (i n : ℕ) → is_cut (hist past y) i n ≡ is_cut (hist past x) i n

  quiet_side : (side : Side) (x : WorldState) → IsOf q side → one_ending side ≡ [] → IsSame x (told 0 side x)
  unfolding told
  quiet_side (sides.Ended place orb status) x h e = absurd (some_kind status [] e)
  quiet_side (sides.Opened place orb) x h e = record { faults = λ i n. refl; lists_are = λ i. refl; cuts_are = λ i n. refl }
  quiet_side (sides.Ran place orb cdb payload outcome) x h e = record { faults = λ i n. refl; lists_are = λ i. refl; cuts_are = λ i n. refl }
  quiet_side (sides.Dead place cause) x h e = record { faults = λ i n. refl; lists_are = λ i. refl; cuts_are = λ i n. refl }
  quiet_side (sides.Unsolicited place) x h e = record { faults = λ i n. refl; lists_are = λ i. refl; cuts_are = λ i n. refl }
  quiet_side (sides.Unsent place) x h e = record { faults = λ i n. refl; lists_are = λ i. refl; cuts_are = λ i n. refl }
  quiet_side (sides.Own note) x h e = absurd h
  quiet_side (sides.Cut place cause) x h e = absurd h
  quiet_side (sides.Managed node function subject status login) x h e = absurd h
  quiet_side (sides.ManageFailed node cause) x h e = absurd h
  quiet_side (sides.Held login) x h e = absurd h
  quiet_side (sides.Expired login) x h e = absurd h
  quiet_side (sides.Back login) x h e = absurd h
  quiet_side (sides.Left login) x h e = absurd h
  quiet_side (sides.Cleared unit) x h e = absurd h

  -- a side is the end of an ORB, or ends none
  data IsWhich (side : Side) : Type 0 where
    is_end : (place orb : ℕ) (status : StatusKind) → side ≡ sides.Ended place orb status → IsWhich side
    is_quiet : one_ending side ≡ [] → IsWhich side

  which : (side : Side) → IsWhich side
  which (sides.Ended place orb status) = is_end place orb status refl
  which side = is_quiet refl

  -- ---- a fault that is there then
  module _ (i n : ℕ) where
    abbrev Faulty : WorldState → List Side → Type 0
    Faulty x told_sides = (has_fault (hist past x) i n ≡ true) ⊎ ((i ≡ (holder x q).initiator) × (has_faulty (ends_in told_sides) ≡ true))

    over : (side : Side) (later : List Side) (x : WorldState) → IsOf q side → one_ending side ≡ [] → Faulty (told 0 side x) later → Faulty x (side ∷ later)
    over side later x h none (inl e) = inl (sym ((quiet_side side x h none).faults i n) ∙ e)
    over side later x h none (inr e) = inr (e.0 ∙ one_holder past q side x h, ap (λ xs. has_faulty (xs ++ ends_in later)) none ∙ e.1)

    ended : (place orb : ℕ) (status : StatusKind) (later : List Side) (x : WorldState) → place ≡ q → Faulty (told 0 (sides.Ended place orb status) x) later → Faulty x (sides.Ended place orb status ∷ later)
    unfolding told
    ended place orb status later x at (inl e) = by (fault_now i n (hist past x) (holder x place).initiator _ _ status e)
      where
        by : (has_fault (hist past x) i n ≡ true) ⊎ IsNow i (holder x place).initiator status → Faulty x (sides.Ended place orb status ∷ later)
        by (inl f) = inl f
        by (inr f) = inr (f.0 ∙ ap (λ p. (holder x p).initiator) at, or_left (is_fault status) (has_faulty (ends_in later)) f.1)
    ended place orb status later x at (inr e) = inr (e.0, or_right (is_fault status) (has_faulty (ends_in later)) e.1)

    by_side : (side : Side) (later : List Side) (x : WorldState) → IsOf q side → Faulty (told 0 side x) later → IsWhich side → Faulty x (side ∷ later)
    by_side side later x h f (is_end place orb status e) = subst (λ s. Faulty x (s ∷ later)) (sym e) (ended place orb status later x (subst (IsOf q) e h) (subst (λ s. Faulty (told 0 s x) later) e f))
    by_side side later x h f (is_quiet e) = over side later x h e f

    pub faults_told : (told_sides : List Side) (x : WorldState) → AreOf q told_sides → has_fault (hist past (told_all 0 told_sides x)) i n ≡ true → (has_fault (hist past x) i n ≡ true) ⊎ ((i ≡ (holder x q).initiator) × (has_faulty (ends_in told_sides) ≡ true))
    unfolding told_all
    faults_told [] x h e = inl e
    faults_told (side ∷ later) x h e = by_side side later x h.0 (faults_told later (told 0 side x) h.1 e) (which side)

  -- ---- an end that is told is of a list without a fault
  module _ (wild : ℕ → Bool) (now : List Moment) (passes : PassLaw wild now) (j : ℕ) (L : ℕ) where
    -- the latest list of the initiator had none
    abbrev pub IsClean : WorldState → Type 0
    IsClean x = wild j ≡ false → (n : ℕ) → suc n ≡ L → is_cut (hist past x) j n ≡ false → has_fault (hist past x) j n ≡ false

    abbrev Alive : List Moment → Type 0
    Alive ms = EachMoment (AliveAt wild) ms

    -- how it stands where the ends are told
    pub record Standing (x : WorldState) : Type 0 where
      pub owner : (holder x q).initiator ≡ j
      pub latest : lists (hist past x) j ≡ L
      pub clean : IsClean x
      pub alive : Alive (hist past x)

    -- the note of it
    end_alive : (place orb : ℕ) (status : StatusKind) (x : WorldState) (rest : List Moment) → rest ++ hist past (told 0 (sides.Ended place orb status) x) ≡ now → place ≡ q → Standing x → Alive (hist past (told 0 (sides.Ended place orb status) x))
    unfolding told
    end_alive place orb status x rest is at s = by (holder x place).initiator (ap (λ p. (holder x p).initiator) at ∙ s.owner) _ _ is
      where
        by : (i : ℕ) → i ≡ j → (a b : Option ℕ) → rest ++ said (notes.Ended i a b status) ∷ hist past x ≡ now → Alive (said (notes.Ended i a b status) ∷ hist past x)
        by i e None b is = (tt, s.alive)
        by i e (Some n) None is = (tt, s.alive)
        by i e (Some n) (Some k) is = (
          λ own.
              let law = passes_from wild rest (said (notes.Ended i (Some n) (Some k) status) ∷ hist past x) (subst (PassLaw wild) (sym is) passes) in
              let still = (law.0 own).turn.still in
              let last : suc n ≡ lists (hist past x) j = still.latest ∙ ap (lists (hist past x)) e in
              ap (λ a. has_fault (hist past x) a n) e ∙ s.clean (ap wild (sym e) ∙ own) n (last ∙ s.latest) (ap (λ a. is_cut (hist past x) a n) (sym e) ∙ still.uncut),
          s.alive,
        )

    -- a side that ends none
    quiet_alive : (side : Side) (x : WorldState) → IsOf q side → one_ending side ≡ [] → Alive (hist past x) → Alive (hist past (told 0 side x))
    unfolding told
    quiet_alive (sides.Ended place orb status) x h e a = absurd (some_kind status [] e)
    quiet_alive (sides.Opened place orb) x h e a = a
    quiet_alive (sides.Ran place orb cdb payload outcome) x h e a = (tt, a)
    quiet_alive (sides.Dead place cause) x h e a = (tt, a)
    quiet_alive (sides.Unsolicited place) x h e a = (tt, a)
    quiet_alive (sides.Unsent place) x h e a = (tt, a)
    quiet_alive (sides.Own note) x h e a = absurd h
    quiet_alive (sides.Cut place cause) x h e a = absurd h
    quiet_alive (sides.Managed node function subject status login) x h e a = absurd h
    quiet_alive (sides.ManageFailed node cause) x h e a = absurd h
    quiet_alive (sides.Held login) x h e a = absurd h
    quiet_alive (sides.Expired login) x h e a = absurd h
    quiet_alive (sides.Back login) x h e a = absurd h
    quiet_alive (sides.Left login) x h e a = absurd h
    quiet_alive (sides.Cleared unit) x h e a = absurd h

    -- behind a side, and those that follow it
    abbrev AliveBehind : Side → List Side → WorldState → Type 0
    AliveBehind side later x = Alive (hist past (told_all 0 later (told 0 side x)))

    -- no more of them
    rest_by : (side : Side) (later : List Side) (x : WorldState) → IsOf q side → ends_in (side ∷ later) ≡ [] → Alive (hist past x) → IsWhich side → (ends_in later ≡ [] → Alive (hist past (told 0 side x)) → AliveBehind side later x) → AliveBehind side later x
    rest_by side later x h e a (is_end place orb status f) again = absurd (some_kind status (ends_in later) (ap (λ s. one_ending s ++ ends_in later) (sym f) ∙ e))
    rest_by side later x h e a (is_quiet f) again = again (ap (λ xs. xs ++ ends_in later) (sym f) ∙ e) (quiet_alive side x h f a)

    pub rest_alive : (told_sides : List Side) (x : WorldState) → AreOf q told_sides → ends_in told_sides ≡ [] → Alive (hist past x) → Alive (hist past (told_all 0 told_sides x))
    unfolding told_all
    rest_alive [] x h e a = a
    rest_alive (side ∷ later) x h e a = rest_by side later x h.0 e a (which side) (λ f b. rest_alive later (told 0 side x) h.1 f b)

    -- an end, and none behind it
    end_first : (side : Side) (later : List Side) (x : WorldState) (rest : List Moment) → IsOf q side → (place orb : ℕ) (status : StatusKind) → side ≡ sides.Ended place orb status → rest ++ hist past (told_all 0 later (told 0 side x)) ≡ now → Standing x → Alive (hist past (told 0 side x))
    end_first side later x rest h place orb status f is s =
        let y = told 0 side x in
        let more = hist_on past y (told_all 0 later y) (all_told 0 later y) in
        let whole : (rest ++ more.more) ++ hist past y ≡ now = moments_joined rest more.more (hist past y) ∙ (ap (λ ms. rest ++ ms) more.is ∙ is) in
        let at : place ≡ q = subst (IsOf q) f h in
        subst (λ y. Alive (hist past (told 0 y x))) (sym f) (end_alive place orb status x (rest ++ more.more) (subst (λ y. (rest ++ more.more) ++ hist past (told 0 y x) ≡ now) f whole) at s)

    told_by : (side : Side) (later : List Side) (x : WorldState) (rest : List Moment) → IsOf q side → AreOf q later → IsOneEnd (ends_in (side ∷ later)) → rest ++ hist past (told_all 0 later (told 0 side x)) ≡ now → Standing x → IsWhich side → (IsOneEnd (ends_in later) → Standing (told 0 side x) → AliveBehind side later x) → AliveBehind side later x
    told_by side later x rest h k o is s (is_end place orb status f) again =
        let one : IsOneEnd (status ∷ ends_in later) = subst (λ y. IsOneEnd (one_ending y ++ ends_in later)) f o in
        rest_alive later (told 0 side x) k (none_behind status (ends_in later) one) (end_first side later x rest h place orb status f is s)
    told_by side later x rest h k o is s (is_quiet f) again =
        let same = quiet_side side x h f in
        again (subst (λ xs. IsOneEnd (xs ++ ends_in later)) f o) (record {
          owner = one_holder past q side x h ∙ s.owner;
          latest = same.lists_are j ∙ s.latest;
          clean = λ own n e uncut. same.faults j n ∙ s.clean own n e (sym (same.cuts_are j n) ∙ uncut);
          alive = quiet_alive side x h f s.alive;
        })

    pub alive_told : (told_sides : List Side) (x : WorldState) (rest : List Moment) → AreOf q told_sides → IsOneEnd (ends_in told_sides) → rest ++ hist past (told_all 0 told_sides x) ≡ now → Standing x → Alive (hist past (told_all 0 told_sides x))
    unfolding told_all
    alive_told [] x rest h o is s = s.alive
    alive_told (side ∷ later) x rest h o is s = told_by side later x rest h.0 h.1 o is s (which side) (λ one t. alive_told later (told 0 side x) rest h.1 one is t)
