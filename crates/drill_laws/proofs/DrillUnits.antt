-- Which notes change the units: runs, and `cleared`.
use Rattle.std.proofs.Common.{◌≡◌, ◌∙◌, refl, ℕ, ◌==◌, Bool, true, false, cond, List, Option, Some, None, Result, Ok, Err}
use Rattle.mgmt_agent.specs.Machine.{Machine}
use Rattle.mgmt_agent.specs.declared.decision.Effect.{Effect}
use Rattle.mgmt_agent.specs.declared.decision.Effect.TheVariants as effects
use Rattle.mgmt_agent.specs.declared.decision.ManagerStep.{ManagerStep}
use Rattle.mgmt_agent.specs.declared.operation.Busy.{Busy}
use Rattle.login_table.specs.Table.{Table}
use Rattle.orb_layout.specs.Replies.{Answer, Expired}
use Rattle.orb_layout.specs.declared.ask.Ask.{Ask}
use Rattle.orb_layout.specs.declared.ask.FailCause.TheVariants as fails
use Rattle.rbc_disk.specs.Runs.{Told}
use Rattle.sbp_journal.specs.Addresses.{Access, Register, Start, agent_reset, agent_state, doorbell, management_agent, no_start, orb_pointer, register, rom_start, start_at, start_serves, unsolicited_enable}
use Rattle.sbp_journal.specs.Run.{Moment}
use Rattle.sbp_journal.specs.Transactions.{Part, no_packet, part_of, request, response}
use Rattle.sbp_journal.specs.Wire.{Terms}
use Rattle.sbp_journal.specs.declared.event.Event.{Event}
use Rattle.sbp_journal.specs.declared.event.Event.TheVariants as events
use Rattle.sbp_journal.specs.declared.operation.FunctionWord.TheVariants as functions
use Rattle.sbp_journal.specs.declared.note.Note.{Note}
use Rattle.sbp_journal.specs.declared.note.Note.TheVariants as notes
use Rattle.sbp_laws.specs.Packets.{access_at, answered_at}
use Rattle.sbp_laws.specs.Targets.{Decided, Purpose, Reply, Target, effect_on, entered_by, enters_in, for_agent, for_manager, for_nobody, going_on, got_by, key_by, managed_by, manager_step, over, purpose_of, ran_on, register_got, replied_to, request_got, reset_seen, sent_as, sent_for, start_got, started_by, taken_on, target_by, wants, with_untold}

abbrev Keeps : Target → Target → Type 0
Keeps old new = new.units ≡ old.units

taken_keeps : (told : Option Told) (reply : Option Reply) (target : Target) → Keeps target (taken_on told reply target)
taken_keeps told None target = refl
taken_keeps told (Some reply) target = refl

untold_keeps : (note : Note) (reply : Option Reply) (target : Target) → Keeps target (with_untold note reply target)
untold_keeps note None target = refl
untold_keeps note (Some reply) target = refl

going_keeps : (note : Note) (target : Target) → Keeps target (going_on note target)
going_keeps note target = taken_keeps _ target.reply (with_untold note target.reply target) ∙ untold_keeps note target.reply target

pub over_keeps : (target : Target) → Keeps target (over target)
over_keeps target = taken_keeps None target.reply target

pub ran_keeps : (own : Bool) (note : Note) (target : Target) → Keeps target (ran_on own note target)
ran_keeps true note target = going_keeps note target
ran_keeps false note target = taken_keeps None target.reply target

effect_keeps : (effect : Effect) (target : Target) → Keeps target (effect_on effect target)
effect_keeps (effects.Left place) target = refl
effect_keeps (effects.Abort place orb) target = refl
effect_keeps (effects.AbortSet place) target = refl
effect_keeps (effects.UnitReset unit) target = refl
effect_keeps effects.TargetReset target = refl
effect_keeps _ target = refl

managed_keeps : (s : ManagerStep × (Machine × Table)) (answer : Answer) (target : Target) → Keeps target (managed_by s answer target)
managed_keeps (step, (machine, table)) answer target = effect_keeps step.effect _

replied_keeps : (purpose : Purpose) (answer : Answer) (target : Target) → Keeps target (replied_to purpose answer target)
replied_keeps (for_agent place which) answer target = refl
replied_keeps for_manager answer target = managed_keeps (manager_step target answer) answer target
replied_keeps for_nobody answer target = refl

either_keeps : (b : Bool) (old x y : Target) → Keeps old x → Keeps old y → Keeps old (cond b x y)
either_keeps true old x y h k = h
either_keeps false old x y h k = k

register_keeps : (name : Register) (place : ℕ) (access : Access) (target : Target) → Keeps target (register_got name place access target)
register_keeps agent_reset place access target = refl
register_keeps orb_pointer place access target = either_keeps access.is_write target _ target refl refl
register_keeps doorbell place access target = refl
register_keeps unsolicited_enable place access target = refl
register_keeps agent_state place access target = refl

started_keeps : (s : Result Ask Busy × Machine) (target : Target) → Keeps target (started_by s target)
started_keeps (Err busy, machine) target = refl
started_keeps (Ok ask, machine) target = refl

start_keeps : (from : Start) (source : ℕ) (access : Access) (target : Target) → Keeps target (start_got from source access target)
start_keeps (register place name) source access target = register_keeps name place access target
start_keeps management_agent source access target = started_keeps _ target
start_keeps rom_start source access target = refl
start_keeps no_start source access target = refl

request_keeps : (found : Option Access) (source : ℕ) (target : Target) → Keeps target (request_got found source target)
request_keeps None source target = refl
request_keeps (Some access) source target = either_keeps (start_serves (start_at access.offset) access) target _ target (start_keeps (start_at access.offset) source access target) refl

got_keeps : (own : Option ℕ) (wire : Terms) (serial : ℕ) (target : Target) → Keeps target (got_by own wire serial target)
got_keeps (Some own) wire serial target = replied_keeps (purpose_of target own) _ target
got_keeps None wire serial target = request_keeps (access_at wire serial) _ target

for_keeps : (place : Option ℕ) (is_write : Bool) (serial : ℕ) (target : Target) → Keeps target (sent_for place is_write serial target)
for_keeps (Some place) is_write serial target = refl
for_keeps None is_write serial target = either_keeps (wants target.manager_asks is_write) target _ _ refl refl

sent_keeps : (part : Part) (is_write : Bool) (serial : ℕ) (target : Target) → Keeps target (sent_as part is_write serial target)
sent_keeps (request label kind) is_write serial target = for_keeps _ is_write serial target
sent_keeps (response label kind) is_write serial target = refl
sent_keeps no_packet is_write serial target = refl

seen_keeps : (b : Bool) (target : Target) → Keeps target (reset_seen b target)
seen_keeps true target = refl
seen_keeps false target = refl

key_keeps : (event : Option Event) (unit : ℕ) (target : Target) → Keeps target (key_by event unit target)
key_keeps (Some (events.Key other key)) unit target = refl
key_keeps _ unit target = refl

enters_keeps : (place : Option ℕ) (decided : Option Decided) (id : ℕ) (target : Target) → Keeps target (enters_in place decided id target)
enters_keeps None decided id target = refl
enters_keeps (Some place) None id target = refl
enters_keeps (Some place) (Some decided) id target = refl

entered_keeps : (id : Option ℕ) (target : Target) → Keeps target (entered_by id target)
entered_keeps None target = refl
entered_keeps (Some id) target = enters_keeps _ target.decided id target

-- ---- each note
abbrev pub LeavesUnits : Note → Type 0
LeavesUnits (notes.Ran i list number unit cdb bytes check) = ⊥
LeavesUnits (notes.Cleared unit) = ⊥
LeavesUnits note = Unit {0}

pub note_keeps : (note : Note) (past : List Moment) (wire : Terms) (target : Target) → LeavesUnits note → Keeps target (target_by note past wire target)
note_keeps (notes.Ran i list number unit cdb bytes check) past wire target l = absurd l
note_keeps (notes.Cleared unit) past wire target l = absurd l
note_keeps (notes.Begin initiators ready) past wire target l = refl
note_keeps (notes.Got serial) past wire target l = either_keeps _ target _ _ (got_keeps (answered_at wire serial) wire serial (over target) ∙ over_keeps target) (over_keeps target)
note_keeps (notes.Ignored serial cause) past wire target l = over_keeps target
note_keeps (notes.TimedOut serial) past wire target l = either_keeps _ target _ _ (replied_keeps (purpose_of (over target) serial) Expired (over target) ∙ over_keeps target) (over_keeps target)
note_keeps (notes.Seen node generation) past wire target l = either_keeps _ target _ _ (seen_keeps _ (over target) ∙ over_keeps target) (over_keeps target)
note_keeps notes.Tick past wire target l = over_keeps target
note_keeps (notes.Sent serial generation from to bytes) past wire target l =
    either_keeps (from == 0) target _ _ (sent_keeps (part_of bytes) _ serial (taken_on None target.reply target) ∙ taken_keeps None target.reply target) (taken_keeps None target.reply target)
note_keeps (notes.Dead i n fails.Label) past wire target l = taken_keeps None target.reply target
note_keeps (notes.Dead i n cause) past wire target l = going_keeps (notes.Dead i n cause) target
note_keeps (notes.ManageFailed i cause) past wire target l = refl
note_keeps (notes.Managed i functions.Login subject status login) past wire target l = entered_keeps login target
note_keeps (notes.Managed i function subject status login) past wire target l = going_keeps (notes.Managed i function subject status login) target
note_keeps (notes.Held id) past wire target l = refl
note_keeps (notes.Back id) past wire target l = refl
note_keeps (notes.Left id) past wire target l = refl
note_keeps (notes.Expired id) past wire target l = refl
note_keeps (notes.Key unit) past wire target l = key_keeps _ unit target
note_keeps (notes.Unsolicited i) past wire target l = refl
note_keeps note past wire target l = going_keeps note target
