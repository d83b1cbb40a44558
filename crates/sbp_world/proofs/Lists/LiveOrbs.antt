-- The ORB of an operation under way is as the session says: that of a logout names the login, and what neither enters nor leaves keeps the logins.
use Rattle.sbp_world.proofs.Words.Std.{arith, ◌≡◌, ◌∙◌, refl, sym, ap, subst, ℕ, ◌+◌, ◌*◌, ◌/◌, ◌%◌, ◌^◌, ◌<◌, ◌≤◌, Bool, true, false, List, Some, nat_tests, same_Some, quad}
use Rattle.sbp_world.proofs.Words.Wire.{Action, Operation, Moment}
use Rattle.sbp_world.proofs.Words.Target.{function_of}
use Rattle.sbp_world.proofs.Words.Initiator.{ManagementOrb, LoginResponse, management_bytes, management_options, management_orb, bit}
use Rattle.sbp_world.proofs.Words.Laws.{before_sent, Host, Underway, host_at, is_management, operation_of, management_orb_of, place_bytes, place_held}
use Rattle.sbp_world.proofs.Words.World.{IsUnderway, underway_orb}
use Rattle.mgmt_agent.specs.declared.function.Function.TheVariants as functions
use Rattle.sbp_journal.specs.declared.event.Action.TheVariants as actions
use Rattle.sbp_journal.specs.declared.operation.Operation.TheVariants as operations
use Rattle.sbp_world.proofs.Lists.LiveDecides.{keeps_logins}
use Rattle.sbp_world.proofs.Lists.LiveOwn.{enters, quits, two_ways}
use Rattle.sbp_world.proofs.Lists.LiveStandings.{Stand, apart_leaves, comes, comes_apart, comes_inside, comes_leaves, inside_leaves, leaves}
use Rattle.sbp_world.proofs.Lists.LiveTargets.{IsMine}
use Rattle.sbp_world.proofs.Hosts.OrbSpelled.{bit_small}
use Rattle.sbp_world.proofs.Common.{none_is}

-- ---- what is read of an ORB that was written
record Fields (q f r n s : ℕ) : Type 0 where
  format : q / 2 ^ 29 % 2 ^ 2 ≡ f
  function : q / 2 ^ 16 % 2 ^ 4 ≡ n
  subject : q % 2 ^ 16 ≡ s

fields : (q b f e r n s : ℕ) → b ≤ 1 → f < 2 ^ 2 → e ≤ 1 → r < 2 ^ 4 → n < 2 ^ 4 → s < 2 ^ 16 → q ≡ b * 2 ^ 31 + f * 2 ^ 29 + e * 2 ^ 28 + r * 2 ^ 20 + n * 2 ^ 16 + s → Fields q f r n s
fields q b f e r n s hb hf he hr hn hs h = record { format = omega arith; function = omega arith; subject = omega arith }

record IsNarrow (orb : ManagementOrb) : Type 0 where
  format : orb.format ≡ 0
  reconnect : orb.reconnect ≡ 0
  function : orb.function < 2 ^ 4

module _ (orb : ManagementOrb) (narrow : IsNarrow orb) (short : orb.subject < 2 ^ 16) where
  options_back : quad (management_bytes orb) 16 ≡ management_options orb
  options_back =
      let b : bit orb.notify ≤ 1 = bit_small orb.notify in
      let e : bit orb.exclusive ≤ 1 = bit_small orb.exclusive in
      let f : orb.format ≡ 0 = narrow.format in
      let r : orb.reconnect ≡ 0 = narrow.reconnect in
      let n : orb.function < 2 ^ 4 = narrow.function in
      omega arith

  read_back : Fields (quad (management_bytes orb) 16) orb.format orb.reconnect orb.function orb.subject
  read_back =
      let f : orb.format ≡ 0 = narrow.format in
      let r : orb.reconnect ≡ 0 = narrow.reconnect in
      fields (quad (management_bytes orb) 16) (bit orb.notify) orb.format (bit orb.exclusive) orb.reconnect orb.function orb.subject (bit_small orb.notify) (omega arith) (bit_small orb.exclusive) (omega arith) narrow.function short options_back

-- ---- the ORBs of the operations that enter no session
record IsPlain (operation : Operation) (orb : ManagementOrb) (number : ℕ) : Type 0 where
  narrow : IsNarrow orb
  keeps : quits operation ≡ false → keeps_logins (function_of orb.function) ≡ true
  function : quits operation ≡ true → function_of orb.function ≡ Some functions.Logout
  subject : quits operation ≡ true → orb.subject ≡ number

-- it keeps the logins
kept : (one : Operation) → quits one ≡ false → (operation : Operation) → Some one ≡ Some operation → (orb : ManagementOrb) → orb.format ≡ 0 → orb.reconnect ≡ 0 → orb.function < 2 ^ 4 → keeps_logins (function_of orb.function) ≡ true → (number : ℕ) → IsPlain operation orb number
kept one q operation e orb f r n k number =
    let same = same_Some one operation e in
    let off : quits operation ≡ false = ap quits (sym same) ∙ q in
    record {
      narrow = record { format = f; reconnect = r; function = n };
      keeps = λ u. k;
      function = λ u. two_ways (quits operation) u off;
      subject = λ u. two_ways (quits operation) u off;
    }

module _ (past : List Moment) (i : ℕ) (host : Host) (place : ℕ) where
  abbrev orb_of : Action → ManagementOrb
  orb_of action = management_orb_of action past i host place

  plain_by : (action : Action) (operation : Operation) → operation_of action ≡ Some operation → is_management operation ≡ true → enters operation ≡ false → IsPlain operation (orb_of action) host.login.login
  plain_by (actions.Query unit) operation e m n = kept operations.Query refl operation e (orb_of (actions.Query unit)) refl refl (omega arith) refl host.login.login
  plain_by (actions.Abort k) operation e m n = kept operations.Abort refl operation e (orb_of (actions.Abort k)) refl refl (omega arith) refl host.login.login
  plain_by actions.AbortSet operation e m n = kept operations.AbortSet refl operation e (orb_of actions.AbortSet) refl refl (omega arith) refl host.login.login
  plain_by actions.UnitReset operation e m n = kept operations.UnitReset refl operation e (orb_of actions.UnitReset) refl refl (omega arith) refl host.login.login
  plain_by actions.TargetReset operation e m n = kept operations.TargetReset refl operation e (orb_of actions.TargetReset) refl refl (omega arith) refl host.login.login
  plain_by actions.Logout operation e m n =
      let same = same_Some operations.Logout operation e in
      record {
        narrow = record { format = refl; reconnect = refl; function = omega arith };
        keeps = λ u. two_ways (quits operation) (ap quits (sym same)) u;
        function = λ u. refl;
        subject = λ u. refl;
      }
  plain_by (actions.Login unit reconnect exclusive password) operation e m n = two_ways (enters operation) (ap enters (sym (same_Some operations.Login operation e))) n
  plain_by actions.Reconnect operation e m n = two_ways (enters operation) (ap enters (sym (same_Some operations.Reconnect operation e))) n
  plain_by actions.Rom operation e m n = two_ways (is_management operation) m (ap is_management (sym (same_Some operations.Rom operation e)))
  plain_by actions.AgentReset operation e m n = two_ways (is_management operation) m (ap is_management (sym (same_Some operations.AgentReset operation e)))
  plain_by actions.Enable operation e m n = two_ways (is_management operation) m (ap is_management (sym (same_Some operations.Enable operation e)))
  plain_by actions.State operation e m n = none_is operation e
  plain_by (actions.Dummy k) operation e m n = none_is operation e
  plain_by (actions.Put cmd) operation e m n = none_is operation e
  plain_by (actions.Append cmd) operation e m n = none_is operation e
  plain_by actions.Low operation e m n = none_is operation e
  plain_by actions.Link operation e m n = none_is operation e
  plain_by actions.Ring operation e m n = none_is operation e

-- ---- the ORB in the place of the operation that an initiator has under way
module _ (past : List Moment) (i : ℕ) (underway : Underway) (is : IsUnderway past i underway) (manages : is_management underway.operation ≡ true) where
  abbrev orb : ManagementOrb
  orb = underway_orb past i underway

  -- as it is read
  abbrev read : ManagementOrb
  read = management_orb (management_bytes orb)

  module _ (short : orb.subject < 2 ^ 16) (stand : Stand) (coming : enters underway.operation ≡ true → stand ≡ comes) (staying : quits underway.operation ≡ true → (number : ℕ) × (stand ≡ leaves number)) (going : (number : ℕ) → stand ≡ leaves number → quits underway.operation ≡ true) (named : (number : ℕ) → stand ≡ leaves number → (host_at past i).login.login ≡ number) where
    module _ (p : IsPlain underway.operation orb (host_at (before_sent past underway.first) i).login.login) where
      back : Fields (quad (management_bytes orb) 16) orb.format orb.reconnect orb.function orb.subject
      back = read_back orb p.narrow short

      apart_from_leaves : (out : Bool) → quits underway.operation ≡ out → ((number : ℕ) → stand ≡ leaves number → ⊥) → keeps_logins (function_of read.function) ≡ true
      apart_from_leaves true q never = absurd (let x = staying q in never x.0 x.1)
      apart_from_leaves false q never = ap (λ n. keeps_logins (function_of n)) back.function ∙ p.keeps q

      plain_mine : IsMine stand read
      plain_mine = record {
        format = λ number e. let zero : read.format ≡ 0 = back.format ∙ p.narrow.format in grind (arith, nat_tests);
        function = λ number e. ap function_of back.function ∙ p.function (going number e);
        subject = λ number e. back.subject ∙ p.subject (going number e) ∙ (ap (λ (r : LoginResponse). r.login) (sym is.login) ∙ named number e);
        in_keeps = λ number e. apart_from_leaves (quits underway.operation) refl (λ other f. inside_leaves number other (sym e ∙ f));
        apart_keeps = λ e. apart_from_leaves (quits underway.operation) refl (λ other f. apart_leaves other (sym e ∙ f));
      }

    mine_by : (b : Bool) → enters underway.operation ≡ b → IsMine stand read
    mine_by true e =
        let c = coming e in
        record {
          format = λ number f. comes_leaves number (sym c ∙ f);
          function = λ number f. comes_leaves number (sym c ∙ f);
          subject = λ number f. comes_leaves number (sym c ∙ f);
          in_keeps = λ number f. comes_inside number (sym c ∙ f);
          apart_keeps = λ f. comes_apart (sym c ∙ f);
        }
    mine_by false e = plain_mine (plain_by (before_sent past underway.first) i (host_at (before_sent past underway.first) i) underway.place underway.action underway.operation is.action manages e)

    -- so it is what brings the bytes that stand in the place
    pub orb_mine : IsMine stand (management_orb (place_bytes (place_held past i underway.place)))
    orb_mine = subst (λ o. IsMine stand (management_orb (place_bytes o))) (sym (is.held manages)) (mine_by (enters underway.operation) refl)
