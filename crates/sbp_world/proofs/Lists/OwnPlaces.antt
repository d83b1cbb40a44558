-- Each management ORB that stands in a place of an initiator names a FIFO of the initiator's, and where it asks for a login, that of a login.
use Rattle.sbp_world.proofs.Words.Std.{arith, ◌≡◌, ◌∙◌, refl, sym, ap, subst, ℕ, suc, ◌+◌, ◌*◌, ◌%◌, ◌^◌, ◌<◌, ◌==◌, ◌&&◌, Bool, true, false, cond, List, [], ◌∷◌, Option, Some, None, nat_tests}
use Rattle.sbp_world.proofs.Words.Wire.{Moment, asked, said, Action, Event, Operation}
use Rattle.sbp_world.proofs.Words.Target.{function_of}
use Rattle.sbp_world.proofs.Words.Initiator.{ManagementOrb, management_bytes, management_orb}
use Rattle.sbp_world.proofs.Words.Laws.{Host, host_at, operation_of, is_own, management_orb_of, place_held, place_written, EachMoment, event_of}
use Rattle.sbp_world.proofs.Words.World.{manages, IsAside, IsGoodOrb, IsItsFifo, IsLoginFifo, in_front, of_login, of_place, of_response, AreShort, IsShortAction}
use Rattle.mgmt_agent.specs.declared.function.Function.TheVariants as functions
use Rattle.sbp_journal.specs.declared.event.Action.TheVariants as actions
use Rattle.sbp_journal.specs.declared.event.Event.TheVariants as events
use Rattle.sbp_journal.specs.declared.note.Note.TheVariants as notes
use Rattle.sbp_world.proofs.Lists.OrbsShort.{event_short, login_small, orb_short}
use Rattle.sbp_world.proofs.Lists.OwnCounts.{FewAt}
use Rattle.sbp_world.proofs.Common.{untrue, and_first}

-- ---- as it is read back
pub fifo_back : (o : ManagementOrb) → o.fifo < 2 ^ 48 → (management_orb (management_bytes o)).fifo ≡ o.fifo
fifo_back o small = omega arith

pub function_back : (o : ManagementOrb) → o.subject < 2 ^ 16 → o.function < 2 ^ 4 → (management_orb (management_bytes o)).function ≡ o.function
function_back o subject small = omega arith

pub second_back : (o : ManagementOrb) → o.second < 2 ^ 48 → (management_orb (management_bytes o)).second ≡ o.second
second_back o small = omega arith

-- an ORB that names such a FIFO
record IsNamed (o : ManagementOrb) : Type 0 where
  pub second : o.second < 2 ^ 48
  pub aside : IsAside o.second
  pub low : o.fifo < 2 ^ 48
  pub small : o.function < 2 ^ 4
  pub its : IsItsFifo o.fifo
  pub login : function_of o.function ≡ Some functions.Login → IsLoginFifo o.fifo

named_good : (o : ManagementOrb) → o.subject < 2 ^ 16 → IsNamed o → IsGoodOrb (management_orb (management_bytes o))
named_good o subject n = record {
  aside = subst IsAside (sym (second_back o n.second)) n.aside;
  its = subst IsItsFifo (sym (fifo_back o n.low)) n.its;
  login = λ e. subst IsLoginFifo (sym (fifo_back o n.low)) (n.login (ap function_of (sym (function_back o subject n.small)) ∙ e));
}

-- one of a place, with another function
other_named : (o : ManagementOrb) (place : ℕ) → place < 2 → o.fifo ≡ 0x12002000 + 0x20 * place → o.second ≡ 0 → o.function < 2 ^ 4 → (function_of o.function ≡ Some functions.Login → ⊥) → IsNamed o
other_named o place small is none few never = record { second = omega (arith, none); aside = in_front (omega (arith, none)); low = omega (arith, small, is); small = few; its = of_place place small is; login = λ e. absurd (never e) }

named : (action : Action) (past : List Moment) (i : ℕ) (host : Host) (place : ℕ) → host.logins < 2 ^ 32 → place < 2 → manages (operation_of action) ≡ true → IsNamed (management_orb_of action past i host place)
named (actions.Login unit reconnect exclusive password) past i host place few small m =
    let own : IsLoginFifo (0x13000000 + 0x20 * host.logins) = record { number = host.logins; few = few; is = refl } in
    record { second = omega (arith, small); aside = of_response place small refl; low = omega (arith, few); small = omega arith; its = of_login own; login = λ e. own }
named (actions.Query unit) past i host place few small m = record {
  second = omega (arith, small);
  aside = of_response place small refl;
  low = omega (arith, small);
  small = omega arith;
  its = of_place place small refl;
  login = λ e. absurd (let no : Some functions.Query ≡ Some functions.Login = e in cc);
}
named actions.Reconnect past i host place few small m = other_named _ place small refl refl (omega arith) (λ e. (let no : Some functions.Reconnect ≡ Some functions.Login = e in cc))
named actions.Logout past i host place few small m = other_named _ place small refl refl (omega arith) (λ e. (let no : Some functions.Logout ≡ Some functions.Login = e in cc))
named (actions.Abort k) past i host place few small m = other_named _ place small refl refl (omega arith) (λ e. (let no : Some functions.Abort ≡ Some functions.Login = e in cc))
named actions.AbortSet past i host place few small m = other_named _ place small refl refl (omega arith) (λ e. (let no : Some functions.AbortSet ≡ Some functions.Login = e in cc))
named actions.UnitReset past i host place few small m = other_named _ place small refl refl (omega arith) (λ e. (let no : Some functions.UnitReset ≡ Some functions.Login = e in cc))
named actions.TargetReset past i host place few small m = other_named _ place small refl refl (omega arith) (λ e. (let no : Some functions.TargetReset ≡ Some functions.Login = e in cc))
named _ past i host place few small m = untrue m

-- ---- in each place
abbrev pub IfGood : Option ManagementOrb → Type 0
IfGood None = Unit {0}
IfGood (Some one) = IsGoodOrb (management_orb (management_bytes one))

pub own_manages : (i j : ℕ) (operation : Option Operation) → is_own i j operation ≡ true → (j ≡ i) × (manages operation ≡ true)
own_manages i j (Some operation) e = (let x = and_first (i == j) _ e in (grind (arith, nat_tests)), second (i == j) _ e)
  where
    second : (a b : Bool) → (a && b) ≡ true → b ≡ true
    second true b e = e
    second false b e = untrue e
own_manages i j None e = untrue e

module _ (i m : ℕ) (small : m < 2) (few_nodes : i + 1 < 2 ^ 16) where
  pick : (b : Bool) (x y : Option ManagementOrb) → (b ≡ true → IfGood x) → IfGood y → IfGood (cond b x y)
  pick true x y h k = h refl
  pick false x y h k = k

  module _ (past : List Moment) (shorts : AreShort past) (before : Option ManagementOrb) (h : IfGood before) (from : ℕ) (own : from ≡ i) where
    abbrev FewHere : Type 0
    FewHere = suc from ≡ suc i → (action : Action) → event_of past ≡ Some (events.Act i action) → manages (operation_of action) ≡ true → (host_at past i).logins < 2 ^ 32

    acted : (few : FewHere) (j : ℕ) (action : Action) → event_of past ≡ Some (events.Act j action) → is_own i j (operation_of action) ≡ true → IfGood (Some (management_orb_of action past i (host_at past i) m))
    acted few j action line e =
        let x = own_manages i j (operation_of action) e in
        let own_line : event_of past ≡ Some (events.Act i action) = line ∙ ap (λ n. Some (events.Act n action)) x.0 in
        let logins = few (ap suc own) action own_line x.1 in
        let short : IsShortAction action = event_short past (events.Act i action) shorts own_line in
        named_good (management_orb_of action past i (host_at past i) m) (orb_short action past i (host_at past i) m short (login_small past i few_nodes)) (named action past i (host_at past i) m logins small x.1)

    written : (few : FewHere) (event : Option Event) → event_of past ≡ event → IfGood (place_written event past i m before)
    written few (Some (events.Act j action)) e =
        pick (is_own i j (operation_of action) && ((host_at past i).writes % 2 == m)) (Some (management_orb_of action past i (host_at past i) m)) before
        (λ b. acted few j action e (and_first (is_own i j (operation_of action)) _ b)) h
    written few event e = h

  pub held_good : (past : List Moment) → AreShort past → EachMoment (FewAt i) past → IfGood (place_held past i m)
  held_good [] shorts few = tt
  held_good (said (notes.Sent serial generation (suc j) to bytes) ∷ past) shorts few =
      let h = held_good past shorts few.1 in
      pick (j == i) (place_written (event_of past) past i m (place_held past i m)) (place_held past i m)
      (λ b. written past shorts (place_held past i m) h j (grind (arith, nat_tests)) few.0 (event_of past) refl) h
  held_good (said note ∷ past) shorts few = held_good past shorts few.1
  held_good (asked line event ∷ past) shorts few = held_good past shorts.1 few.1

  -- one that is written stays
  pub none_before : (n : Moment) (past : List Moment) → place_held (n ∷ past) i m ≡ None → place_held past i m ≡ None
  none_before (asked line event) past e = e
  none_before (said (notes.Sent serial generation (suc j) to bytes)) past e = by (j == i) e
    where
      kept : (event : Option Event) → place_written event past i m (place_held past i m) ≡ None → place_held past i m ≡ None
      kept (Some (events.Act k action)) f = on (is_own i k (operation_of action) && ((host_at past i).writes % 2 == m)) f
        where
          on : (b : Bool) → cond b (Some (management_orb_of action past i (host_at past i) m)) (place_held past i m) ≡ None → place_held past i m ≡ None
          on true g = absurd (let no : Some (management_orb_of action past i (host_at past i) m) ≡ None = g in cc)
          on false g = g
      kept event f = f

      by : (b : Bool) → cond b (place_written (event_of past) past i m (place_held past i m)) (place_held past i m) ≡ None → place_held past i m ≡ None
      by true f = kept (event_of past) f
      by false f = f
  none_before (said note) past e = e
