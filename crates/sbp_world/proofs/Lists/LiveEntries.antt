-- The ORB in the place of the login or the reconnect that an initiator has under way asks for that: a login with room for its response, or the login of the host.
use Rattle.sbp_world.proofs.Words.Std.{arith, ◌≡◌, ◌∙◌, refl, sym, ap, subst, ℕ, ◌+◌, ◌*◌, ◌/◌, ◌%◌, ◌^◌, ◌<◌, Bool, true, false, List, Option, Some, same_Some, quad}
use Rattle.sbp_world.proofs.Words.Wire.{Action, Operation, Moment}
use Rattle.sbp_world.proofs.Words.Target.{function_of}
use Rattle.sbp_world.proofs.Words.Initiator.{LoginResponse, ManagementOrb, management_bytes, management_options, management_orb, bit, Running, InitiatorState}
use Rattle.sbp_world.proofs.Words.Laws.{before_sent, Host, Underway, host_at, is_management, operation_of, management_orb_of, place_bytes, place_held}
use Rattle.sbp_world.proofs.Words.World.{Core, operation_by, work_in, work_of, IsUnderway, underway_orb}
use Rattle.sbp_world.proofs.Hosts.Hosted.{Cored}
use Rattle.mgmt_agent.specs.declared.function.Function.TheVariants as functions
use Rattle.sbp_journal.specs.declared.event.Action.TheVariants as actions
use Rattle.sbp_journal.specs.declared.operation.Operation.TheVariants as operations
use Rattle.sbp_world.proofs.Lists.LiveGrants.{IsEntry}
use Rattle.sbp_world.proofs.Common.{untrue}

-- ---- the action of an entry
is_login : Option Operation → Bool
is_login (Some operations.Login) = true
is_login _ = false

is_reconnect : Option Operation → Bool
is_reconnect (Some operations.Reconnect) = true
is_reconnect _ = false

record IsLoginOrb (orb : ManagementOrb) : Type 0 where
  function : orb.function ≡ 0
  room : orb.response_length ≡ 16

record IsReconnectOrb (orb : ManagementOrb) (number : ℕ) : Type 0 where
  function : orb.function ≡ 3
  subject : orb.subject ≡ number

login_action : (action : Action) → operation_of action ≡ Some operations.Login → (past : List Moment) (i : ℕ) (host : Host) (place : ℕ) → IsLoginOrb (management_orb_of action past i host place)
unfolding is_login
login_action (actions.Login unit reconnect exclusive password) e past i host place = record { function = refl; room = refl }
login_action action e past i host place = untrue (ap is_login e)

reconnect_action : (action : Action) → operation_of action ≡ Some operations.Reconnect → (past : List Moment) (i : ℕ) (host : Host) (place : ℕ) → IsReconnectOrb (management_orb_of action past i host place) host.login.login
unfolding is_reconnect
reconnect_action actions.Reconnect e past i host place = record { function = refl; subject = refl }
reconnect_action action e past i host place = untrue (ap is_reconnect e)

-- ---- what is read of it
function_in : (q b f e r n s : ℕ) → n < 2 ^ 4 → s < 2 ^ 16 → q ≡ (b * 2 ^ 31 + f * 2 ^ 29 + e * 2 ^ 28 + r * 2 ^ 20 + n * 2 ^ 16 + s) % 2 ^ 32 → q / 2 ^ 16 % 2 ^ 4 ≡ n
function_in q b f e r n s hn hs h = omega arith

subject_in : (q b f e r n s : ℕ) → s < 2 ^ 16 → q ≡ (b * 2 ^ 31 + f * 2 ^ 29 + e * 2 ^ 28 + r * 2 ^ 20 + n * 2 ^ 16 + s) % 2 ^ 32 → q % 2 ^ 16 ≡ s
subject_in q b f e r n s hs h = omega arith

options_at : (orb : ManagementOrb) → quad (management_bytes orb) 16 ≡ management_options orb % 2 ^ 32
options_at orb = omega arith

room_at : (orb : ManagementOrb) → orb.response_length ≡ 16 → quad (management_bytes orb) 20 % 2 ^ 16 ≡ 16
room_at orb e = omega (arith, e)

module _ (orb : ManagementOrb) (short : orb.subject < 2 ^ 16) where
  abbrev read : ManagementOrb
  read = management_orb (management_bytes orb)

  read_function : orb.function < 2 ^ 4 → read.function ≡ orb.function
  read_function small = function_in (quad (management_bytes orb) 16) (bit orb.notify) orb.format (bit orb.exclusive) orb.reconnect orb.function orb.subject small short (options_at orb)

  read_subject : read.subject ≡ orb.subject
  read_subject = subject_in (quad (management_bytes orb) 16) (bit orb.notify) orb.format (bit orb.exclusive) orb.reconnect orb.function orb.subject short (options_at orb)

  login_read : IsLoginOrb orb → (function_of read.function ≡ Some functions.Login) × (read.response_length ≡ 16)
  login_read l =
      let f = l.function in
      let n : read.function ≡ 0 = read_function (omega (arith, f)) ∙ f in
      (ap function_of n, room_at orb l.room)

  reconnect_read : (number : ℕ) → IsReconnectOrb orb number → (function_of read.function ≡ Some functions.Reconnect) × (read.subject ≡ number)
  reconnect_read number l =
      let f = l.function in
      let n : read.function ≡ 3 = read_function (omega (arith, f)) ∙ f in
      (ap function_of n, read_subject ∙ l.subject)

-- ---- the ORB in the place of the operation under way

module _ (ready : Bool) (past : List Moment) (i : ℕ) (s : InitiatorState) (c : Cored ready past i s) (underway : Underway) (there : (host_at past i).operation ≡ Some underway) (manages : is_management underway.operation ≡ true) (is : IsUnderway past i underway) (short : (underway_orb past i underway).subject < 2 ^ 16) where
  abbrev orb : ManagementOrb
  orb = underway_orb past i underway

  operation_is : (running : Running) → s.operation ≡ Some running → underway.operation ≡ running.operation
  operation_is running e =
      same_Some underway.operation running.operation
      (sym (ap (λ (o : Option Underway). operation_by (work_of o)) there) ∙ ap (λ (x : Core). operation_by x.work) c.core ∙ ap (λ (o : Option Running). operation_by (work_in o)) e)

  abbrev host : Host
  host = host_at (before_sent past underway.first) i

  entry_read : IsEntry (host_at past i).login.login s (management_orb (management_bytes orb))
  entry_read = record {
    login = λ running e login. login_read orb short (login_action underway.action (is.action ∙ ap (λ (x : Operation). Some x) (operation_is running e ∙ login)) (before_sent past underway.first) i host underway.place);
    reconnect = λ running e reconnect.
        reconnect_read orb short (host_at past i).login.login
        (subst (λ n. IsReconnectOrb orb n) (ap (λ (r : LoginResponse). r.login) (sym is.login))
        (reconnect_action underway.action (is.action ∙ ap (λ (x : Operation). Some x) (operation_is running e ∙ reconnect)) (before_sent past underway.first) i host underway.place));
  }

  pub entry_at : IsEntry (host_at past i).login.login s (management_orb (place_bytes (place_held past i underway.place)))
  entry_at = subst (λ (o : Option ManagementOrb). IsEntry (host_at past i).login.login s (management_orb (place_bytes o))) (sym (is.held manages)) entry_read
