-- What a turn has of runs: which commands run does not hang on how they end, and how they end is told or decided.
use Rattle.std.proofs.Common.{◌==◌, ◌≡◌, ◌∙◌, ℕ, Bool, if◌then◌else◌, List, [], ◌∷◌, map, Option, Some, None, is_some, refl, sym, ap, ap₂, subst}
use Rattle.rbc_command.specs.declared.sense.Sense.{Sense}
use Rattle.rbc_disk.specs.declared.command.BufferPlan.{BufferPlan}
use Rattle.rbc_disk.specs.declared.command.Outcome.{Outcome}
use Rattle.rbc_disk.specs.Checks.{check_of}
use Rattle.rbc_disk.specs.Disk.{Disk}
use Rattle.rbc_disk.specs.Runs.{Told, MayEnd, failure_of}
use Rattle.rbc_disk.specs.Units.{PlainDisk}
use Rattle.command_agent.specs.Machine as agent
use Rattle.sbp_journal.specs.Addresses.{orb_pointer, doorbell}
use Rattle.sbp_journal.specs.Run.{Moment, said}
use Rattle.sbp_journal.specs.Wire.{Terms, terms}
use Rattle.sbp_journal.specs.declared.note.Note.{Note}
use Rattle.sbp_journal.specs.declared.note.Note.TheVariants as notes
use Rattle.sbp_laws.specs.Agents.{AgentTurn, Event, replies, writes, nothing, agent_event, agent_turn, target_before, told_among, untold_among, wire_before}
use Rattle.sbp_laws.specs.CarriedLaw.{EndEachBy, Run, of_others, run_by, run_of, runs_due, runs_in}
use Rattle.sbp_laws.specs.Deliveries.{is_run_note}
use Rattle.sbp_laws.specs.DiskFold.{unit_at}
use Rattle.sbp_laws.specs.Lawful.{nobody}
use Rattle.sbp_laws.specs.Lists.{list_in, named, number_in}
use Rattle.sbp_laws.specs.MediaLaw.{load_in}
use Rattle.sbp_laws.specs.NoteKinds.{of_kind}
use Rattle.sbp_laws.specs.Targets.{Reply, Target, agent_at, initiator_at, plain_for, reply_of, told_by, unit_of}
use Rattle.sbp_laws.specs.Turns.{Turn, turn}
use Rattle.lawful_journal.specs.Telling.{EachEndsAsTold, EndsAsTold, OutcomesAsTold}
use Rattle.lawful_journal.proofs.Alike.{View, view, reply_view}

-- ---- which commands run
abbrev run_from : List Moment → (i unit : ℕ) → View → List Run
run_from past i unit v =
    if v.runs then record { initiator = i; list = list_in (named past i v.present); number = number_in (named past i v.present); unit = unit; cdb = v.cdb; bytes = v.payload } ∷ [] else []

of_view : (past : List Moment) (i unit : ℕ) (machine : agent.Machine) (ran : Option Outcome)
    → run_of past i unit machine ran ≡ run_from past i unit (record { runs = is_some ran; present = machine.present; cdb = machine.orb.cdb; payload = machine.payload; plan = agent.plan_of machine })
of_view past i unit machine None = refl
of_view past i unit machine (Some outcome) = refl

module _ (target : Target) (past : List Moment) (start : Moment) (rest other : List Note) where
  replied_view : (reply : Reply) → view (reply_of target reply (told_among (initiator_at target (terms past) reply.place) rest (plain_for target reply))) ≡ view (reply_of target reply (told_among (initiator_at target (terms past) reply.place) other (plain_for target reply)))
  replied_view reply =
      reply_view (agent_at target reply.place).machine reply.place (plain_for target reply) (told_among (initiator_at target (terms past) reply.place) rest (plain_for target reply)) (told_among (initiator_at target (terms past) reply.place) other (plain_for target reply)) reply.which reply.answer

  pub same_runs_by : (event : Event) → run_by target (turn past start rest) (agent_turn event target (terms past) rest) ≡ run_by target (turn past start other) (agent_turn event target (terms past) other)
  same_runs_by (replies reply) =
      of_view past i unit (reply_of target reply (told_among (initiator_at target (terms past) reply.place) rest (plain_for target reply))).1 (reply_of target reply (told_among (initiator_at target (terms past) reply.place) rest (plain_for target reply))).0.ran
      ∙ ap (run_from past i unit) (replied_view reply)
      ∙ sym (of_view past i unit (reply_of target reply (told_among (initiator_at target (terms past) reply.place) other (plain_for target reply))).1 (reply_of target reply (told_among (initiator_at target (terms past) reply.place) other (plain_for target reply))).0.ran)
    where
      i : ℕ
      i = initiator_at target (wire_before (turn past start rest)) reply.place

      unit : ℕ
      unit = unit_of target reply.place
  same_runs_by (writes orb_pointer place access) = refl
  same_runs_by (writes doorbell place access) = refl
  same_runs_by (writes name place access) = refl
  same_runs_by nothing = refl

-- ---- how a run ends: by the check that holds, or as it is told
abbrev ends_by : Option Sense → Option Sense → Option Sense
ends_by (Some check) told = Some check
ends_by None told = told

abbrev ends_on : Option Sense → Target → BufferPlan → (place unit : ℕ) → List ℕ → Option Sense
ends_on told target plan place unit cdb = ends_by (check_of cdb plan (unit_at target.units unit) place) told

abbrev checks_by : Option Sense → Target → Option AgentTurn → (unit : ℕ) → List ℕ → Option Sense
checks_by told target None unit cdb = None
checks_by told target (Some a) unit cdb = ends_on told target (agent.plan_of a.machine) a.place unit cdb

abbrev ChecksAre : (ℕ → List ℕ → Option Sense) → List Note → Type 0
ChecksAre checks [] = Unit {0}
ChecksAre checks (notes.Ran i list number unit cdb bytes check ∷ rest) = (check ≡ checks unit cdb) × ChecksAre checks rest
ChecksAre checks (note ∷ rest) = ChecksAre checks rest

one_end : (decided failure told ended : Option Sense) → MayEnd decided failure ended → EndsAsTold decided told ended → ended ≡ ends_by decided told
one_end (Some check) failure told ended may as_told = may
one_end None failure told ended may as_told = as_told

ended_in : (told : Option Sense) (target : Target) (a : AgentTurn) (rest : List Note) → EndEachBy target (Some a) rest → EachEndsAsTold told target a rest → ChecksAre (checks_by told target (Some a)) rest
ended_in told target a [] ends as_told = tt
ended_in told target a (notes.Ran i list number unit cdb bytes check ∷ rest) ends as_told = (
  one_end (check_of cdb (agent.plan_of a.machine) (unit_at target.units unit) a.place) (failure_of (unit_at target.units unit).medium.is_bay cdb) told check ends.0 as_told.0,
  ended_in told target a rest ends.1 as_told.1,
)
ended_in told target a (note ∷ rest) ends as_told = ended_in told target a rest ends as_told

none_in : (told : Option Sense) (target : Target) (rest : List Note) → EndEachBy target None rest → ChecksAre (checks_by told target None) rest
none_in told target [] ends = tt
none_in told target (notes.Ran i list number unit cdb bytes check ∷ rest) ends = elim ends.0 [ ]
none_in told target (note ∷ rest) ends = none_in told target rest ends

checks_are : (told : Option Sense) (target : Target) (a : Option AgentTurn) (rest : List Note) → EndEachBy target a rest → OutcomesAsTold told target a rest → ChecksAre (checks_by told target a) rest
checks_are told target None rest ends as_told = none_in told target rest ends
checks_are told target (Some a) rest ends as_told = ended_in told target a rest ends as_told

same_checks : (told : Option Sense) (target : Target) (past : List Moment) (rest other : List Note) (event : Event)
    → checks_by told target (agent_turn event target (terms past) rest) ≡ checks_by told target (agent_turn event target (terms past) other)
same_checks told target past rest other (replies reply) = ap (λ v. ends_on told target v.plan reply.place) (replied_view target past (said notes.Tick) rest other reply)
same_checks told target past rest other (writes orb_pointer place access) = refl
same_checks told target past rest other (writes doorbell place access) = refl
same_checks told target past rest other (writes name place access) = refl
same_checks told target past rest other nothing = refl

-- ---- the notes of runs
abbrev run_note : (ℕ → List ℕ → Option Sense) → Run → Note
run_note checks run = notes.Ran run.initiator run.list run.number run.unit run.cdb run.bytes (checks run.unit run.cdb)

run_notes_are : (checks : ℕ → List ℕ → Option Sense) (rest : List Note) → ChecksAre checks rest → of_kind is_run_note rest ≡ map (run_note checks) (runs_in rest)
run_notes_are checks [] are = refl
run_notes_are checks (notes.Ran i list number unit cdb bytes check ∷ rest) are =
    ap₂ (λ c l. notes.Ran i list number unit cdb bytes c ∷ l) are.0 (run_notes_are checks rest are.1)
run_notes_are checks (note ∷ rest) are = run_notes_are checks rest are

all_others : (runs : List Run) → of_others nobody runs ≡ runs
all_others [] = refl
all_others (run ∷ runs) = ap (λ l. run ∷ l) (all_others runs)

-- what a turn's runs are, and how they end
pub record Runs (told : Option Sense) (disks : List Disk) (t : Turn) : Type 0 where
  pub due : of_others nobody (runs_in t.rest) ≡ of_others nobody (runs_due disks t)
  pub ends : EndEachBy (target_before disks t) (agent_turn (agent_event disks t) (target_before disks t) (wire_before t) t.rest) t.rest
  pub as_told : OutcomesAsTold told (target_before disks t) (agent_turn (agent_event disks t) (target_before disks t) (wire_before t) t.rest) t.rest

module _ (told : Option Sense) (disks : List Disk) (past : List Moment) (start : Moment) (rest other : List Note) where
  pub same_run_notes : Runs told disks (turn past start rest) → Runs told disks (turn past start other) → of_kind is_run_note rest ≡ of_kind is_run_note other
  same_run_notes runs more =
      run_notes_are checks rest (checks_are told target (agent_turn event target (terms past) rest) rest runs.ends runs.as_told)
      ∙ ap (map (run_note checks)) same_runs
      ∙ sym (run_notes_are checks other (subst (λ c. ChecksAre c other) (sym (same_checks told target past rest other event)) (checks_are told target (agent_turn event target (terms past) other) other more.ends more.as_told)))
    where
      target : Target
      target = target_before disks (turn past start rest)

      event : Event
      event = agent_event disks (turn past start rest)

      checks : ℕ → List ℕ → Option Sense
      checks = checks_by told target (agent_turn event target (terms past) rest)

      same_runs : runs_in rest ≡ runs_in other
      same_runs = sym (all_others (runs_in rest)) ∙ runs.due ∙ ap (of_others nobody) (same_runs_by target past start rest other event) ∙ sym more.due ∙ all_others (runs_in other)

-- ---- what reads the runs of a turn
told_by_runs : (i : ℕ) (rest : List Note) (plain : PlainDisk) → told_among i rest plain ≡ told_among i (of_kind is_run_note rest) plain
told_by_runs i [] plain = refl
told_by_runs i (notes.Ran j list number unit cdb bytes check ∷ rest) plain =
    ap (λ o. if j == i then told_by (notes.Ran j list number unit cdb bytes check) plain else o) (told_by_runs i rest plain)
told_by_runs i (note ∷ rest) plain = told_by_runs i rest plain

untold_by_runs : (i : ℕ) (rest : List Note) (plain : PlainDisk) (before : Bool) → untold_among i rest plain before ≡ untold_among i (of_kind is_run_note rest) plain before
untold_by_runs i [] plain before = refl
untold_by_runs i (notes.Ran j list number unit cdb bytes check ∷ rest) plain before = untold_by_runs i rest plain _
untold_by_runs i (note ∷ rest) plain before = untold_by_runs i rest plain before

load_by_runs : (target : Target) (wire : Terms) (rest : List Note) → load_in target wire rest ≡ load_in target wire (of_kind is_run_note rest)
load_by_runs target wire [] = refl
load_by_runs target wire (notes.Ran i list number unit cdb bytes check ∷ rest) = refl
load_by_runs target wire (note ∷ rest) = load_by_runs target wire rest

abbrev turn_with : Target → Reply → Option Told → Bool → Option AgentTurn
turn_with target reply told untold =
    let s = reply_of target reply told in
    Some (record { place = reply.place; untold = untold; which = reply.which; step = s.0; machine = s.1 })

turn_by_runs : (target : Target) (wire : Terms) (rest : List Note) (event : Event) → agent_turn event target wire rest ≡ agent_turn event target wire (of_kind is_run_note rest)
turn_by_runs target wire rest (replies reply) =
    ap₂ (turn_with target reply) (told_by_runs (initiator_at target wire reply.place) rest (plain_for target reply))
    (untold_by_runs (initiator_at target wire reply.place) rest (plain_for target reply) (agent_at target reply.place).untold)
turn_by_runs target wire rest (writes orb_pointer place access) = refl
turn_by_runs target wire rest (writes doorbell place access) = refl
turn_by_runs target wire rest (writes name place access) = refl
turn_by_runs target wire rest nothing = refl

module _ (rest other : List Note) (same : of_kind is_run_note rest ≡ of_kind is_run_note other) where
  pub same_agent_turn : (target : Target) (wire : Terms) (event : Event) → agent_turn event target wire rest ≡ agent_turn event target wire other
  same_agent_turn target wire event = turn_by_runs target wire rest event ∙ ap (agent_turn event target wire) same ∙ sym (turn_by_runs target wire other event)

  pub same_load : (target : Target) (wire : Terms) → load_in target wire rest ≡ load_in target wire other
  same_load target wire = load_by_runs target wire rest ∙ ap (load_in target wire) same ∙ sym (load_by_runs target wire other)
