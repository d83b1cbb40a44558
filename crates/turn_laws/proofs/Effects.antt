-- The effect of what a turn calls on the management operation: a write of its register and a time-out have none, nor has a reply where none is under way; else it is that of the
-- target's own step.
use Rattle.std.proofs.Common.{◌≡◌, ◌∙◌, refl, ap, ℕ, Bool, true, false, cond, List, Option, Some, None, Result, Ok, Err}
use Rattle.login_table.specs.Table.{Table}
use Rattle.mgmt_agent.specs.Machine.{Machine, reply_in, reply_step, reply_to, source_in, start_step}
use Rattle.mgmt_agent.specs.declared.decision.Effect.{Effect}
use Rattle.mgmt_agent.specs.declared.decision.Effect.TheVariants as effects
use Rattle.mgmt_agent.specs.declared.operation.Busy.{Busy}
use Rattle.mgmt_agent.specs.declared.operation.Operation.{Operation}
use Rattle.mgmt_agent.specs.declared.operation.Phase.{Phase}
use Rattle.mgmt_agent.specs.declared.operation.Phase.TheVariants as phases
use Rattle.orb_layout.specs.declared.ask.Ask.{Ask}
use Rattle.orb_layout.specs.Replies.{Answer, Expired}
use Rattle.sbp_journal.specs.Addresses.{Access, Start, management_agent, start_at, start_serves}
use Rattle.sbp_journal.specs.Run.{said}
use Rattle.sbp_journal.specs.Wire.{Terms}
use Rattle.sbp_journal.specs.declared.note.Note.TheVariants as notes
use Rattle.sbp_laws.specs.Management.{Call, answer_to, call_by, effect_in, manager_turn, no_call, start_in, start_of, started, starts}
use Rattle.sbp_laws.specs.Packets.{sender_in}
use Rattle.sbp_laws.specs.Targets.{Purpose, Target, for_agent, for_manager, for_nobody, is_serial, manager_step, purpose_of}
use Rattle.sbp_target.specs.Nodes.{NodeState}
use Rattle.sbp_world.specs.Agents.Management.Offices.{Agrees, office_of}

-- ---- no operation, and a reply that did not come
none_effect : (m : Machine) (table : Table) (keys : List (List ℕ)) (answer : Answer) (operation : Option Operation) → source_in operation ≡ None → (reply_to operation m table keys answer).0.effect ≡ effects.Nothing
none_effect m table keys answer None e = refl
none_effect m table keys answer (Some own) e = absurd (let no : Some own.source ≡ None = e in cc)

pub idle_effect : (m : Machine) (table : Table) (keys : List (List ℕ)) (answer : Answer) → source_in m.operation ≡ None → (reply_step m table keys answer).0.effect ≡ effects.Nothing
unfolding reply_step
idle_effect m table keys answer e = none_effect m table keys answer m.operation e

late_phase : (phase : Phase) (m : Machine) (own : Operation) (table : Table) (keys : List (List ℕ)) → (reply_in phase m own table keys Expired).0.effect ≡ effects.Nothing
late_phase phases.Orb m own table keys = refl
late_phase (phases.HighEui orb) m own table keys = refl
late_phase (phases.LowEui orb high) m own table keys = refl
late_phase (phases.Response fifo) m own table keys = refl
late_phase phases.Status m own table keys = refl

late_by : (operation : Option Operation) (m : Machine) (table : Table) (keys : List (List ℕ)) → (reply_to operation m table keys Expired).0.effect ≡ effects.Nothing
late_by None m table keys = refl
late_by (Some own) m table keys = late_phase own.phase m own table keys

pub late_effect : (m : Machine) (table : Table) (keys : List (List ℕ)) → (reply_step m table keys Expired).0.effect ≡ effects.Nothing
unfolding reply_step
late_effect m table keys = late_by m.operation m table keys

module _ (target : Target) where
  abbrev pub EffectOf : Call → Effect
  EffectOf call = effect_in (manager_turn call target)

  -- ---- a write of a register
  started_effect : (r : Result Ask Busy × Machine) → effect_in (started r) ≡ effects.Nothing
  started_effect (Err busy, machine) = refl
  started_effect (Ok ask, machine) = refl

  start_by : (b : Bool) (source orb : ℕ) → EffectOf (cond b (starts source orb) no_call) ≡ effects.Nothing
  start_by true source orb = started_effect (start_step target.manager source orb)
  start_by false source orb = refl

  at_start : (start : Start) (source : ℕ) (access : Access) → EffectOf (start_of start source access) ≡ effects.Nothing
  at_start management_agent source access = start_by (start_serves management_agent access) source _
  at_start start source access = refl

  pub start_effect : (access : Option Access) (source : ℕ) → EffectOf (start_in access source) ≡ effects.Nothing
  start_effect None source = refl
  start_effect (Some access) source = at_start (start_at access.offset) source access

  -- ---- a time-out
  for_late : (for : Purpose) → EffectOf (answer_to for Expired) ≡ effects.Nothing
  for_late for_manager = late_effect target.manager target.table target.keys
  for_late (for_agent place which) = refl
  for_late for_nobody = refl

  late_at : (wire : Terms) (serial : ℕ) (b : Bool) → EffectOf (cond b (answer_to (purpose_of target serial) Expired) no_call) ≡ effects.Nothing
  late_at wire serial true = for_late (purpose_of target serial)
  late_at wire serial false = refl

  pub timed_out_effect : (wire : Terms) (serial : ℕ) → EffectOf (call_by (said (notes.TimedOut serial)) target wire) ≡ effects.Nothing
  timed_out_effect wire serial = late_at wire serial (is_serial (sender_in (wire.sent serial)) 0)

  -- ---- the operation of the terms goes on as the target's own
  pub step_same : (node : NodeState) → Agrees (office_of target) node → (answer : Answer) → manager_step target answer ≡ reply_step node.manager node.logins node.keys answer
  step_same node a answer =
      ap (λ m. reply_step m target.table target.keys answer) a.manager ∙ ap (λ t. reply_step node.manager t target.keys answer) a.table
      ∙ ap (λ k. reply_step node.manager node.logins k answer) a.keys
