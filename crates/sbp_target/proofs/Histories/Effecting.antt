-- A decision and its effects leave all agents at rest: a login that leaves has its list cut, and every other live login stays.
use Rattle.std.proofs.Common.{arith, ◌≡◌, ◌≢◌, ◌∙◌, ℕ, ◌+◌, ◌*◌, ◌^◌, ◌==◌, not, nat_eq, Bool, true, false, cond, List, [], ◌∷◌, slice_set, Option, Some, None, Result, Ok, Err}
use Rattle.std.proofs.lemmas.Bool.Decides.{nat_tests}
use Rattle.std.proofs.lemmas.Grind.{common_steps}
use Rattle.sbp_base.specs.Quadlets.{quad}
use Rattle.login_table.specs.declared.login.Login.{Login}
use Rattle.login_table.specs.Laws.{enter, back}
use Rattle.login_table.specs.Table.{Table, place_at, is_live, find, is_live_of, enter_step, leave_at, leave_step}
use Rattle.login_table.proofs.Holding.{live_until_it_leaves}
use Rattle.orb_layout.specs.declared.ask.FailCause.{FailCause}
use Rattle.orb_layout.specs.declared.management.ManagementOrb.{ManagementOrb}
use Rattle.orb_layout.specs.ManagementOrbs.{management_orb}
use Rattle.orb_layout.specs.Replies.{Answer, payload_of, write_failure}
use Rattle.mgmt_agent.specs.declared.decision.Decision.{Decision}
use Rattle.mgmt_agent.specs.declared.decision.Effect.{Effect}
use Rattle.mgmt_agent.specs.declared.decision.Effect.TheVariants as effects
use Rattle.mgmt_agent.specs.declared.decision.ManagerStep.{ManagerStep}
use Rattle.mgmt_agent.specs.declared.decision.Outcome.{Outcome}
use Rattle.mgmt_agent.specs.declared.function.Function.{Function}
use Rattle.mgmt_agent.specs.declared.function.Function.TheVariants as functions
use Rattle.mgmt_agent.specs.declared.operation.Operation.{Operation}
use Rattle.mgmt_agent.specs.declared.operation.Phase.{Phase}
use Rattle.mgmt_agent.specs.declared.operation.Phase.TheVariants as phases
use Rattle.mgmt_agent.specs.declared.status.Status.TheVariants as statuses
use Rattle.mgmt_agent.specs.Statuses.{function_of}
use Rattle.mgmt_agent.specs.Decisions.{decide, decide_function, key_at, lacks_key, unit_exists, asked_by, login_decided, left_decided, reads_eui, with_status}
use Rattle.mgmt_agent.specs.Machine.{Machine, high_eui_at, decided_as, decide_step, beside, eui_step, orb_got, high_got, low_got, response_written, status_written, reply_in, reply_to, reply_step}

-- what a step does
abbrev pub effect_in : Option Decision → Effect → Effect
effect_in None effect = effects.Nothing
effect_in (Some decision) effect = effect

-- the login of a place leaves by it
abbrev pub leaves : Effect → ℕ → Bool
leaves (effects.Left place) other = nat_eq other place
leaves _ other = false

-- Every live login stays where it does not leave.
pub record Moves (before : Table) (effect : Effect) (now : Table) : Type 0 where
  pub stays : (place : ℕ) (login : Login) → place_at before.places place ≡ Some login → is_live login ≡ true → leaves effect place ≡ false → place_at now.places place ≡ Some login

moves_none : (table : Table) (effect : Effect) → Moves table effect table
moves_none table effect = record { stays = λ place login e l n. e }

moves_if : (b : Bool) (before : Table) (x y : Outcome × Table) → Moves before x.0.effect x.1 → Moves before y.0.effect y.1 → (let z = cond b x y in Moves before z.0.effect z.1)
moves_if true before x y p q = p
moves_if false before x y p q = q

elsewhere : (places : List (Option Login)) (k other : ℕ) (x : Option Login) → nat_eq other k ≡ false → place_at (slice_set places k x) other ≡ place_at places other
elsewhere places k other x e = let n : other ≢ k = grind (arith, nat_tests) in grind (arith, common_steps)

moves_leave : (table : Table) (found : Option ℕ) → Moves table (left_decided (leave_at found table).0).effect (leave_at found table).1
moves_leave table None = moves_none table effects.Nothing
moves_leave table (Some k) = record { stays = λ place login e l n. elsewhere table.places k place None n ∙ e }

moves_function : (function : Option Function) (orb : ManagementOrb) (source eui : ℕ) (table : Table) (keys : List (List ℕ)) → Moves table (decide_function function orb source eui table keys).0.effect (decide_function function orb source eui table keys).1
unfolding leave_step
moves_function None orb source eui table keys = moves_none table effects.Nothing
moves_function (Some functions.Login) orb source eui table keys =
    moves_if (not (unit_exists orb.subject keys)) table (with_status statuses.LogicalUnit, table) (cond (lacks_key (key_at orb.subject keys) orb) (with_status statuses.AccessDenied, table) (login_decided orb (enter_step table (asked_by orb source eui)).0, (enter_step table (asked_by orb source eui)).1)) (moves_none table effects.Nothing)
    (moves_if (lacks_key (key_at orb.subject keys) orb) table (with_status statuses.AccessDenied, table) (login_decided orb (enter_step table (asked_by orb source eui)).0, (enter_step table (asked_by orb source eui)).1) (moves_none table effects.Nothing)
    (record { stays = λ place login e l n. live_until_it_leaves table place login (enter (asked_by orb source eui) ∷ []) e l (tt, tt) }))
moves_function (Some functions.Query) orb source eui table keys = moves_none table _
moves_function (Some functions.Reconnect) orb source eui table keys =
    record { stays = λ place login e l n. live_until_it_leaves table place login (back orb.subject source eui ∷ []) e l (tt, tt) }
moves_function (Some functions.Logout) orb source eui table keys = moves_leave table (find (is_live_of orb.subject source) table.places)
moves_function (Some functions.Abort) orb source eui table keys = moves_none table _
moves_function (Some functions.AbortSet) orb source eui table keys = moves_none table _
moves_function (Some functions.UnitReset) orb source eui table keys = moves_none table _
moves_function (Some functions.TargetReset) orb source eui table keys = moves_none table _

moves_decide : (orb : ManagementOrb) (source eui : ℕ) (table : Table) (keys : List (List ℕ)) → Moves table (decide orb source eui table keys).0.effect (decide orb source eui table keys).1
unfolding decide
moves_decide orb source eui table keys =
    moves_if (orb.format == 0) table (decide_function (function_of orb.function) orb source eui table keys) (with_status statuses.RequestType, table)
    (moves_function (function_of orb.function) orb source eui table keys) (moves_none table effects.Nothing)

abbrev pub StepMoves : Table → ManagerStep × (Machine × Table) → Type 0
StepMoves table s = Moves table (effect_in s.0.decided s.0.effect) s.1.1

step_if : (b : Bool) (table : Table) (x y : ManagerStep × (Machine × Table)) → StepMoves table x → StepMoves table y → StepMoves table (cond b x y)
step_if true table x y p q = p
step_if false table x y p q = q

moves_decided : (r : Outcome × Table) (before : Table) (m : Machine) (operation : Operation) (orb : ManagementOrb) → Moves before r.0.effect r.1 → StepMoves before (decided_as r m operation orb)
moves_decided (outcome, table) before m operation orb h = h

module _ (m : Machine) (table : Table) (keys : List (List ℕ)) (operation : Operation) where
  decide_moves : (orb : ManagementOrb) (eui : ℕ) → StepMoves table (decide_step m operation orb eui table keys)
  unfolding decide_step
  decide_moves orb eui = moves_decided (decide orb operation.source eui table keys) table m operation orb (moves_decide orb operation.source eui table keys)

  orb_moves : (read : Result (List ℕ) FailCause) → StepMoves table (orb_got read m operation table keys)
  orb_moves (Err cause) = moves_none table effects.Nothing
  orb_moves (Ok bytes) =
      let orb = management_orb bytes in
      step_if (reads_eui orb) table (beside table (eui_step m operation (phases.HighEui orb) high_eui_at)) (decide_step m operation orb 0 table keys) (moves_none table effects.Nothing) (decide_moves orb 0)

  low_moves : (read : Result (List ℕ) FailCause) (orb : ManagementOrb) (high : ℕ) → StepMoves table (low_got read m operation orb high table keys)
  low_moves (Err cause) orb high = moves_none table effects.Nothing
  low_moves (Ok bytes) orb high = decide_moves orb (high * 2 ^ 32 + quad bytes 0)

  phase_moves : (phase : Phase) (answer : Answer) → StepMoves table (reply_in phase m operation table keys answer)
  phase_moves phases.Orb answer = orb_moves (payload_of answer 32)
  phase_moves (phases.HighEui orb) answer = by (payload_of answer 4)
    where
      by : (read : Result (List ℕ) FailCause) → StepMoves table (beside table (high_got read m operation orb))
      by (Err cause) = moves_none table effects.Nothing
      by (Ok bytes) = moves_none table effects.Nothing
  phase_moves (phases.LowEui orb high) answer = low_moves (payload_of answer 4) orb high
  phase_moves (phases.Response fifo) answer = by (write_failure answer)
    where
      by : (failure : Option FailCause) → StepMoves table (beside table (response_written failure m operation fifo))
      by None = moves_none table effects.Nothing
      by (Some cause) = moves_none table effects.Nothing
  phase_moves phases.Status answer = by (write_failure answer)
    where
      by : (failure : Option FailCause) → StepMoves table (beside table (status_written failure m))
      by None = moves_none table effects.Nothing
      by (Some cause) = moves_none table effects.Nothing

moves_in : (operation : Option Operation) (m : Machine) (table : Table) (keys : List (List ℕ)) (answer : Answer) → StepMoves table (reply_to operation m table keys answer)
moves_in None m table keys answer = moves_none table effects.Nothing
moves_in (Some operation) m table keys answer = phase_moves m table keys operation operation.phase answer

pub reply_moves : (m : Machine) (table : Table) (keys : List (List ℕ)) (answer : Answer) → StepMoves table (reply_step m table keys answer)
unfolding reply_step
reply_moves m table keys answer = moves_in m.operation m table keys answer
