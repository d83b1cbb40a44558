-- The ORB of an operation that ends lists is one that ends lists at the target: a logout, an abort of the task set, a reset of the unit or of the target.
use Rattle.sbp_world.proofs.Words.Std.{arith, ◌≡◌, ◌∙◌, refl, sym, ap, subst, ◌<◌, ◌≤◌, ◌+◌, ◌*◌, ◌/◌, ◌%◌, ◌^◌, ℕ, Bool, true, false, List, Some, quad}
use Rattle.sbp_world.proofs.Words.Wire.{Action, Operation, Moment}
use Rattle.sbp_world.proofs.Words.Target.{Function, function_of}
use Rattle.sbp_world.proofs.Words.Initiator.{ManagementOrb, management_bytes, management_options, management_orb, bit}
use Rattle.sbp_world.proofs.Words.Laws.{cuts_list, before_sent, Host, Underway, host_at, is_management, operation_of, management_orb_of, place_bytes, place_held}
use Rattle.sbp_world.proofs.Words.World.{IsUnderway, underway_orb}
use Rattle.mgmt_agent.specs.declared.function.Function.TheVariants as functions
use Rattle.sbp_journal.specs.declared.event.Action.TheVariants as actions
use Rattle.sbp_journal.specs.declared.operation.Operation.TheVariants as operations
use Rattle.sbp_world.proofs.Lists.ManageTerms.{none_is, same_some}
use Rattle.sbp_world.proofs.Hosts.OrbSpelled.{bit_small}
use Rattle.sbp_world.proofs.Common.{untrue}

-- a function that ends lists
abbrev pub ends_lists : Function → Bool
ends_lists functions.Logout = true
ends_lists functions.AbortSet = true
ends_lists functions.UnitReset = true
ends_lists functions.TargetReset = true
ends_lists _ = false

pub record EndsLists (orb : ManagementOrb) : Type 0 where
  pub function : Function
  pub is : function_of orb.function ≡ Some function
  pub ends : ends_lists function ≡ true

field : (q b f e r n s : ℕ) → b ≤ 1 → f < 2 ^ 2 → e ≤ 1 → r < 2 ^ 4 → n < 2 ^ 4 → s < 2 ^ 16 → q ≡ b * 2 ^ 31 + f * 2 ^ 29 + e * 2 ^ 28 + r * 2 ^ 20 + n * 2 ^ 16 + s → q / 2 ^ 16 % 2 ^ 4 ≡ n
field q b f e r n s hb hf he hr hn hs h = omega arith

-- its function as it is read
module _ (orb : ManagementOrb) (format : orb.format ≡ 0) (reconnect : orb.reconnect ≡ 0) (narrow : orb.function < 2 ^ 4) (short : orb.subject < 2 ^ 16) where
  options_back : quad (management_bytes orb) 16 ≡ management_options orb
  options_back =
      let b : bit orb.notify ≤ 1 = bit_small orb.notify in
      let e : bit orb.exclusive ≤ 1 = bit_small orb.exclusive in
      omega arith

  function_back : (management_orb (management_bytes orb)).function ≡ orb.function
  function_back =
      let f : orb.format < 2 ^ 2 = omega arith in
      let r : orb.reconnect < 2 ^ 4 = omega arith in
      field (quad (management_bytes orb) 16) (bit orb.notify) orb.format (bit orb.exclusive) orb.reconnect orb.function orb.subject (bit_small orb.notify) f (bit_small orb.exclusive) r narrow short options_back

record IsMade (orb : ManagementOrb) : Type 0 where
  format : orb.format ≡ 0
  reconnect : orb.reconnect ≡ 0
  narrow : orb.function < 2 ^ 4
  function : Function
  is : function_of orb.function ≡ Some function
  ends : ends_lists function ≡ true

uncut : {A : Type 0} (one operation : Operation) → cuts_list (Some one) ≡ false → Some one ≡ Some operation → cuts_list (Some operation) ≡ true → A
uncut one operation c e f = untrue (sym c ∙ (ap cuts_list e ∙ f))

module _ (past : List Moment) (i : ℕ) (host : Host) (place : ℕ) where
  abbrev orb_of : Action → ManagementOrb
  orb_of action = management_orb_of action past i host place

  made : (action : Action) (operation : Operation) → operation_of action ≡ Some operation → is_management operation ≡ true → cuts_list (Some operation) ≡ true → IsMade (orb_of action)
  made actions.Logout operation e m c = record { format = refl; reconnect = refl; narrow = omega arith; function = functions.Logout; is = refl; ends = refl }
  made actions.AbortSet operation e m c = record { format = refl; reconnect = refl; narrow = omega arith; function = functions.AbortSet; is = refl; ends = refl }
  made actions.UnitReset operation e m c = record { format = refl; reconnect = refl; narrow = omega arith; function = functions.UnitReset; is = refl; ends = refl }
  made actions.TargetReset operation e m c = record { format = refl; reconnect = refl; narrow = omega arith; function = functions.TargetReset; is = refl; ends = refl }
  made (actions.Query unit) operation e m c = uncut operations.Query operation refl e c
  made (actions.Abort k) operation e m c = uncut operations.Abort operation refl e c
  made (actions.Login unit reconnect exclusive password) operation e m c = uncut operations.Login operation refl e c
  made actions.Reconnect operation e m c = uncut operations.Reconnect operation refl e c
  made actions.Rom operation e m c = uncut operations.Rom operation refl e c
  made actions.Enable operation e m c = uncut operations.Enable operation refl e c
  made actions.AgentReset operation e m c = untrue (ap is_management (same_some operations.AgentReset operation e) ∙ m)
  made actions.State operation e m c = none_is operation e
  made (actions.Dummy k) operation e m c = none_is operation e
  made (actions.Put cmd) operation e m c = none_is operation e
  made (actions.Append cmd) operation e m c = none_is operation e
  made actions.Low operation e m c = none_is operation e
  made actions.Link operation e m c = none_is operation e
  made actions.Ring operation e m c = none_is operation e

-- the ORB in the place of the operation that an initiator has under way
pub place_ends : (past : List Moment) (i : ℕ) (underway : Underway) → IsUnderway past i underway → is_management underway.operation ≡ true → cuts_list (Some underway.operation) ≡ true → (underway_orb past i underway).subject < 2 ^ 16 → EndsLists (management_orb (place_bytes (place_held past i underway.place)))
place_ends past i underway is manages cuts short =
    let orb = underway_orb past i underway in
    let m = made (before_sent past underway.first) i (host_at (before_sent past underway.first) i) underway.place underway.action underway.operation is.action manages cuts in
    let read : EndsLists (management_orb (management_bytes orb)) = record {
      function = m.function;
      is = ap function_of (function_back orb m.format m.reconnect m.narrow short) ∙ m.is;
      ends = m.ends;
    } in
    subst (λ held. EndsLists (management_orb (place_bytes held))) (sym (is.held manages)) read
