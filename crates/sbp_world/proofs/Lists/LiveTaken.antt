-- What one management operation of an initiator being in hand says of an operation of the target for it: while that has written no status block, the write of the one
-- under way started it, and no status block waits.
use Rattle.sbp_world.proofs.Words.Std.{arith, ◌≡◌, ◌∙◌, refl, sym, ap, ◌⊎◌, inl, inr, ℕ, ◌<◌, nat_eq, Bool, true, false, List, Option, Some, None, nat_tests}
use Rattle.sbp_world.proofs.Words.Wire.{Moment, terms}
use Rattle.sbp_world.proofs.Words.Target.{Operation, Disk}
use Rattle.sbp_world.proofs.Words.Laws.{Underway, host_at, is_management, is_stuck}
use Rattle.sbp_world.proofs.Words.World.{is_written, HasGivenUp, IsBusy, IsHandling, IsManaged, IsRest, IsServed, IsTelling, IsTaken, IsTold}
use Rattle.mgmt_agent.specs.declared.operation.Phase.{Phase}
use Rattle.mgmt_agent.specs.declared.operation.Phase.TheVariants as phases
use Rattle.sbp_world.proofs.Lists.LiveOwn.{two_ways}
use Rattle.sbp_world.proofs.Common.{none_is}

status_written : (phase : Phase) → phase ≡ phases.Status → is_written phase ≡ true
status_written phase e = ap is_written e

same_underway : (one other : Underway) → Some one ≡ Some other → one ≡ other
same_underway one other e = cc

-- the operation under way, which the target handles
pub record IsOwnHandled (start : List Disk) (past : List Moment) (i place : ℕ) : Type 0 where
  pub taken : IsTaken start past i
  pub place_is : place ≡ taken.underway.place

module _ (start : List Disk) (past : List Moment) (i : ℕ) (m : IsManaged start past i) (up : HasGivenUp past i → ⊥) where
  -- nothing is in hand, or an operation is
  data Hand : Type 0 where
    rest : IsRest start past i → Hand
    served : (underway : Underway) → (host_at past i).operation ≡ Some underway → is_management underway.operation ≡ true → 0 < (terms past).news underway.first → IsServed start past i underway.place underway.first → Hand

  free_hand : ((underway : Underway) → (host_at past i).operation ≡ Some underway → is_management underway.operation ≡ false) → (b : Bool) → is_stuck (host_at past i).session ≡ b → Hand
  free_hand none true e = absurd (up (record { stuck = e; none = none }))
  free_hand none false e = rest (m.free none e).rest

  busy_hand : (underway : Underway) → (host_at past i).operation ≡ Some underway → is_management underway.operation ≡ true → Hand
  busy_hand underway is manages = by (nat_eq ((terms past).news underway.first) 0) refl
    where
      b : IsBusy start past i underway.place underway.first
      b = m.busy underway is manages

      judged : 0 < (terms past).news underway.first → IsRest start past i ⊎ IsServed start past i underway.place underway.first → Hand
      judged l (inl r) = rest r
      judged l (inr s) = served underway is manages l s

      by : (z : Bool) → nat_eq ((terms past).news underway.first) 0 ≡ z → Hand
      by true e = rest (b.waiting (grind (arith, nat_tests)))
      by false e = let l : 0 < (terms past).news underway.first = grind (arith, nat_tests) in judged l (b.judged l)

  hand_by : (o : Option Underway) → (host_at past i).operation ≡ o → Hand
  hand_by None e = free_hand (λ underway is. none_is underway (sym e ∙ is)) (is_stuck (host_at past i).session) refl
  hand_by (Some underway) e = by (is_management underway.operation) refl
    where
      by : (b : Bool) → is_management underway.operation ≡ b → Hand
      by true f = busy_hand underway e f
      by false f =
          free_hand (λ other is. let same = same_underway underway other (sym e ∙ is) in ap (λ (u : Underway). is_management u.operation) (sym same) ∙ f) (is_stuck (host_at past i).session) refl

  hand : Hand
  hand = hand_by (host_at past i).operation refl

  -- what is not at rest is of the one under way
  taken_by : (IsRest start past i → ⊥) → Hand → IsTaken start past i
  taken_by active (rest r) = absurd (active r)
  taken_by active (served underway is manages l s) = record { underway = underway; is = is; manages = manages; judged = l; accepted = s.accepted }

  pub active_taken : (IsRest start past i → ⊥) → IsTaken start past i
  active_taken active = taken_by active hand

  module _ (place : ℕ) (op : Operation) (h : IsHandling start past i place op) (open_one : op.phase ≡ phases.Status → ⊥) where
    handled_by : Hand → IsOwnHandled start past i place
    handled_by (rest r) = absurd (open_one (r.over place op h).0)
    handled_by (served underway is manages l s) = record { taken = record { underway = underway; is = is; manages = manages; judged = l; accepted = s.accepted }; place_is = s.handles place op h }

    -- the write of the one under way started it
    pub handled_open : IsOwnHandled start past i place
    handled_open = handled_by hand

    silent_by : Hand → (serial at : ℕ) → IsTelling start past i serial at → ⊥
    silent_by (rest r) serial at t = r.silent serial at t
    silent_by (served underway is manages l s) serial at t = open_one (s.status serial at t place op h).0

    -- and no status block waits
    pub silent_open : (serial at : ℕ) → IsTelling start past i serial at → ⊥
    silent_open = silent_by hand

  module _ (place : ℕ) (op : Operation) (h : IsHandling start past i place op) (unwritten : is_written op.phase ≡ false) where
    not_over : op.phase ≡ phases.Status → ⊥
    not_over e = two_ways (is_written op.phase) (status_written op.phase e) unwritten

    pub handled : IsOwnHandled start past i place
    handled = handled_open place op h not_over

    pub handled_silent : (orb : ℕ) (bytes : List ℕ) → IsTold start past i orb bytes → ⊥
    handled_silent orb bytes t = silent_open place op h not_over t.serial t.place t.telling

  module _ (place : ℕ) (op : Operation) (h : IsHandling start past i place op) (going : op.phase ≡ phases.Status → ⊥) where
    going_by : Hand → IsOwnHandled start past i place
    going_by (rest r) = absurd (going (r.over place op h).0)
    going_by (served underway is manages l s) = record { taken = record { underway = underway; is = is; manages = manages; judged = l; accepted = s.accepted }; place_is = s.handles place op h }

    -- and while it writes its response
    pub handled_going : IsOwnHandled start past i place
    handled_going = going_by hand

  -- an operation whose write was not judged is no taken one, and nothing is told of it
  module _ (fresh : (underway : Underway) → (host_at past i).operation ≡ Some underway → is_management underway.operation ≡ true → (terms past).news underway.first ≡ 0) where
    fresh_by : Hand → (orb : ℕ) (bytes : List ℕ) → IsTold start past i orb bytes → ⊥
    fresh_by (rest r) orb bytes t = r.silent t.serial t.place t.telling
    fresh_by (served underway is manages l s) orb bytes t = let zero = fresh underway is manages in absurd (omega (arith, zero, l))

    -- so it is at rest
    rest_by : Hand → IsRest start past i
    rest_by (rest r) = r
    rest_by (served underway is manages l s) = let zero = fresh underway is manages in absurd (omega (arith, zero, l))

    pub fresh_rest : IsRest start past i
    fresh_rest = rest_by hand

    pub fresh_silent : (orb : ℕ) (bytes : List ℕ) → IsTold start past i orb bytes → ⊥
    fresh_silent = fresh_by hand
