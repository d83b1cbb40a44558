-- What a decision brings, by its note (NCITS 325-1998, task management, and login and query responses). With status 00 a logout, an abort set, a
-- unit reset and a target reset cut the open list of their login, of their unit, or of all; a unit reset clears its unit and a target reset
-- each; a reconnect brings its login back and a logout ends it. With another status nothing is cut, cleared or moved. The response to a login has
-- its ID, the registers of its place and its hold; that to a query has the logins of the unit.
use Rattle.std.specs.Prelude.{◌≡◌, ℕ, ◌+◌, ◌==◌, not, Bool, true, false, if◌then◌else◌, List, [], ◌∷◌, ◌++◌, position, unwrap_or, Option, Some, None}
use Rattle.orb_layout.specs.declared.management.ManagementOrb.{ManagementOrb}
use Rattle.orb_layout.specs.LoginResponses.{login_bytes}
use Rattle.rbc_disk.specs.Disk.{Disk}
use Rattle.orb_layout.specs.QueryResponses.{query_bytes}
use Rattle.mgmt_agent.specs.Decisions.{agent_base, entries_of, granted_hold}
use Rattle.sbp_journal.specs.Addresses.{agent_reset}
use Rattle.sbp_journal.specs.Wire.{Terms}
use Rattle.sbp_journal.specs.declared.cause.CutCause.{CutCause}
use Rattle.sbp_journal.specs.declared.cause.CutCause.TheVariants as cuts
use Rattle.sbp_journal.specs.declared.operation.FunctionWord.{FunctionWord}
use Rattle.sbp_journal.specs.declared.operation.FunctionWord.TheVariants as functions
use Rattle.sbp_journal.specs.declared.note.Note.{Note}
use Rattle.sbp_journal.specs.declared.note.Note.TheVariants as notes
use Rattle.sbp_laws.specs.Turns.{Turn}
use Rattle.sbp_laws.specs.Targets.{Target, Agent, agent_at, has_id, on_unit, unit_of, initiator_at}
use Rattle.sbp_laws.specs.Agents.{Event, writes, agent_event, target_before, wire_before}
use Rattle.sbp_laws.specs.Management.{cleared_from, is_open, sees_reset}
use Rattle.sbp_laws.specs.NoteKinds.{is_cleared_note, of_kind}
use Rattle.sbp_laws.specs.LoginLaw.{is_login_note}

-- ---- the decision that a turn tells
pub record Decision : Type 0 where
  pub initiator : ℕ
  pub word : FunctionWord
  pub subject : ℕ
  pub status : ℕ
  pub login : Option ℕ

abbrev pub decision_in : List Note → Option Decision
decision_in [] = None
decision_in (notes.Managed i word subject status login ∷ rest) = Some (record { initiator = i; word = word; subject = subject; status = status; login = login })
decision_in (note ∷ rest) = decision_in rest

-- its function, where its status is 00
abbrev pub good_word : Option Decision → FunctionWord
good_word None = functions.Other
good_word (Some decision) = if decision.status == 0 then decision.word else functions.Other

abbrev pub subject_in : Option Decision → ℕ
subject_in None = 0
subject_in (Some decision) = decision.subject

-- the place of the login with an ID
abbrev pub place_with : Target → (id : ℕ) → ℕ
place_with target id = unwrap_or (position (has_id id) target.table.places) 8

-- ---- units that are cleared
abbrev pub cleared_by_word : Target → FunctionWord → (subject : ℕ) → List Note
cleared_by_word target functions.UnitReset subject = notes.Cleared (unit_of target (place_with target subject)) ∷ []
cleared_by_word target functions.TargetReset subject = cleared_from 0 target.keys
cleared_by_word target word subject = []

-- ---- lists that are cut: whose, and why
pub record Cutting : Type 0 where
  pub initiator : ℕ
  pub cause : CutCause

abbrev pub cuttings_in : List Note → List Cutting
cuttings_in [] = []
cuttings_in (notes.Cut i list cause ∷ rest) = record { initiator = i; cause = cause } ∷ cuttings_in rest
cuttings_in (note ∷ rest) = cuttings_in rest

abbrev pub cutting_at : Terms → Target → CutCause → (place : ℕ) → List Cutting
cutting_at wire target cause place =
    if is_open (agent_at target place) then record { initiator = initiator_at target wire place; cause = cause } ∷ [] else []

-- those of the places, from one on, that pass a test, by rising place
abbrev pub cuttings_from : Terms → Target → CutCause → (place : ℕ) → List Agent → (ℕ → Bool) → List Cutting
cuttings_from wire target cause place [] test = []
cuttings_from wire target cause place (a ∷ agents) test =
    (if test place then cutting_at wire target cause place else []) ++ cuttings_from wire target cause (place + 1) agents test

abbrev pub cut_by_word : Terms → Target → FunctionWord → (subject : ℕ) → List Cutting
cut_by_word wire target functions.Logout subject = cutting_at wire target cuts.Logout (place_with target subject)
cut_by_word wire target functions.AbortSet subject = cutting_at wire target cuts.AbortSet (place_with target subject)
cut_by_word wire target functions.UnitReset subject =
    cuttings_from wire target cuts.UnitReset 0 target.agents (on_unit (unit_of target (place_with target subject)) target.table.places)
cut_by_word wire target functions.TargetReset subject = cuttings_from wire target cuts.TargetReset 0 target.agents (λ place. true)
cut_by_word wire target word subject = []

abbrev pub cut_by_write : Terms → Target → Event → List Cutting
cut_by_write wire target (writes agent_reset place access) = cutting_at wire target cuts.AgentReset place
cut_by_write wire target event = []

abbrev pub cuttings_due : List Disk → Turn → List Cutting
cuttings_due disks t =
    let target = target_before disks t in
    let wire = wire_before t in
    if sees_reset t.start wire then cuttings_from wire target cuts.Reset 0 target.agents (λ place. true)
    else cut_by_write wire target (agent_event disks t) ++ cut_by_word wire target (good_word (decision_in t.rest)) (subject_in (decision_in t.rest))

-- ---- logins that come back or leave; those that a login replaces are the login law's
abbrev pub moved_by_word : FunctionWord → (subject : ℕ) → List Note
moved_by_word functions.Reconnect subject = notes.Back subject ∷ []
moved_by_word functions.Logout subject = notes.Left subject ∷ []
moved_by_word word subject = []

abbrev pub is_login_word : FunctionWord → Bool
is_login_word functions.Login = true
is_login_word word = false

abbrev pub moves_by_word : Option Decision → Bool
moves_by_word None = false
moves_by_word (Some decision) = not (is_login_word (good_word (Some decision)))

pub record DecisionStands (disks : List Disk) (t : Turn) : Type 0 where
  pub cut : cuttings_in t.rest ≡ cuttings_due disks t
  pub cleared : of_kind is_cleared_note t.rest ≡ cleared_by_word (target_before disks t) (good_word (decision_in t.rest)) (subject_in (decision_in t.rest))
  pub moved : (if moves_by_word (decision_in t.rest) then of_kind is_login_note t.rest else [])
      ≡ (if moves_by_word (decision_in t.rest) then moved_by_word (good_word (decision_in t.rest)) (subject_in (decision_in t.rest)) else [])

-- ---- the response to a login, by the table that it is entered in, and to a query; empty where there is none
abbrev pub login_response : Target → ManagementOrb → Option ℕ → List ℕ
login_response target orb None = []
login_response target orb (Some id) = login_bytes (record { login = id; agent = agent_base (place_with target id); hold = granted_hold orb.reconnect })

abbrev pub response_by : Target → ManagementOrb → Decision → FunctionWord → List ℕ
response_by target orb decision functions.Login = login_response target orb decision.login
response_by target orb decision functions.Query = query_bytes (entries_of decision.subject target.table.places)
response_by target orb decision word = []

abbrev pub response_due : Target → ManagementOrb → Decision → List ℕ
response_due target orb decision = response_by target orb decision (good_word (Some decision))
