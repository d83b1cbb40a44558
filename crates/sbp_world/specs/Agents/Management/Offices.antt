-- What the terms of the target say of its management (NCITS 325-1998, access and task management): the table of logins, the keys of the units,
-- the operation with its request, and what was decided on. What a note makes of it, and so what a node makes of it that tells such a note.
use Rattle.std.specs.Prelude.{◌≡◌, ℕ, List, [], ◌∷◌, map, is_none, position, slice_set, Option, Some, None, Result, Ok, Err}
use Rattle.login_table.specs.declared.login.Login.{Login}
use Rattle.login_table.specs.Table.{Table, entered, held, revived}
use Rattle.mgmt_agent.specs.declared.decision.ManagerStep.{ManagerStep}
use Rattle.mgmt_agent.specs.declared.operation.Busy.{Busy}
use Rattle.mgmt_agent.specs.Decisions.{asked_by}
use Rattle.mgmt_agent.specs.Machine as manager
use Rattle.orb_layout.specs.declared.ask.Ask.{Ask}
use Rattle.orb_layout.specs.declared.ask.Ask.TheVariants.{Nothing}
use Rattle.orb_layout.specs.Replies.{Answer}
use Rattle.sbp_journal.specs.declared.note.Note.{Note}
use Rattle.sbp_journal.specs.declared.note.Note.TheVariants as notes
use Rattle.sbp_journal.specs.declared.operation.FunctionWord.{FunctionWord}
use Rattle.sbp_journal.specs.declared.operation.FunctionWord.TheVariants as functions
use Rattle.sbp_journal.specs.declared.side.Side.{Side}
use Rattle.sbp_journal.specs.declared.side.Side.TheVariants as sides
use Rattle.sbp_laws.specs.Targets.{Decided, Target, at_id, decided_by, keep_decided, second_gone, source_in}
use Rattle.sbp_target.specs.Nodes.{NodeState}
use Rattle.sbp_bus.specs.Words.{function_word, login_if}

pub record Office : Type 0 where
  pub table : Table
  pub keys : List (List ℕ)
  pub manager : manager.Machine
  pub manages : Option ℕ
  pub asks : Ask
  pub decided : Option Decided

abbrev pub office_of : Target → Office
office_of t = record { table = t.table; keys = t.keys; manager = t.manager; manages = t.manages; asks = t.manager_asks; decided = t.decided }

-- nothing is asked for any more
abbrev pub at_rest : Office → Office
at_rest o = record o { asks = Nothing }

-- the office is that of a node
pub record Agrees (o : Office) (node : NodeState) : Type 0 where
  pub table : o.table ≡ node.logins
  pub keys : o.keys ≡ node.keys
  pub manager : o.manager ≡ node.manager

-- ---- a note behind the first of a turn, but for the packets

abbrev pub changed : ℕ → (Login → Option Login) → Office → Office
changed id change o = record o { table = record o.table { places = map (at_id id change) o.table.places } }

abbrev pub placed : Option ℕ → Option Decided → ℕ → Office → Office
placed None decided id o = o
placed (Some place) None id o = o
placed (Some place) (Some d) id o =
    record o { table = record { last = id; places = slice_set o.table.places place (Some (entered (asked_by d.orb d.source d.eui) place id)) } }

abbrev pub placed_by : Option ℕ → Office → Office
placed_by None o = o
placed_by (Some id) o = placed (position is_none o.table.places) o.decided id o

abbrev pub by_managed : FunctionWord → Option ℕ → Office → Office
by_managed functions.Login login o = placed_by login o
by_managed word login o = o

abbrev pub failed : Office → Office
failed o = record o { manager = manager.clear_step o.manager; manages = None; asks = Nothing }

abbrev pub by_note : Note → Office → Office
by_note (notes.ManageFailed i cause) o = failed o
by_note (notes.Managed i word subject status login) o = by_managed word login o
by_note (notes.Held id) o = changed id (λ login. held (Some login)) o
by_note (notes.Back id) o = changed id (λ login. Some (revived (source_in o.decided) login)) o
by_note (notes.Left id) o = changed id (λ login. None) o
by_note (notes.Expired id) o = changed id (λ login. None) o
by_note _ o = o

-- what a side does, as its note says
abbrev pub by_side : Side → Office → Office
by_side (sides.Own note) o = by_note note o
by_side (sides.Managed node function subject status login) o = by_managed (function_word function) (login_if (function_word function) status login) o
by_side (sides.ManageFailed node cause) o = failed o
by_side (sides.Held login) o = by_note (notes.Held login) o
by_side (sides.Expired login) o = by_note (notes.Expired login) o
by_side (sides.Back login) o = by_note (notes.Back login) o
by_side (sides.Left login) o = by_note (notes.Left login) o
by_side _ o = o

abbrev pub by_sides : List Side → Office → Office
by_sides [] o = o
by_sides (side ∷ later) o = by_sides later (by_side side o)

-- ---- the first note of a turn

-- a reply to the operation
abbrev pub stepped : Office → Answer → ManagerStep × (manager.Machine × Table) → Office
stepped o answer r = record o {
  manager = r.1.0;
  manages = None;
  asks = r.0.ask;
  decided = keep_decided r.0.decided (decided_by o.manager.operation answer) o.decided;
}

abbrev pub replied : Answer → Office → Office
replied answer o = stepped o answer (manager.reply_step o.manager o.table o.keys answer)

-- an operation is started, where none is under way
abbrev pub started_by : Result Ask Busy × manager.Machine → Office → Office
started_by (Err busy, machine) o = o
started_by (Ok ask, machine) o = record o { manager = machine; asks = ask }

abbrev pub started : (source orb : ℕ) → Office → Office
started source orb o = started_by (manager.start_step o.manager source orb) o

-- a later generation is seen; a second passes; a unit gets a key
abbrev pub cleared : Office → Office
cleared o = record o { manager = manager.clear_step o.manager; manages = None }

abbrev pub ticked : Office → Office
ticked o = record o { table = record o.table { places = map second_gone o.table.places } }

abbrev pub with_key : (unit : ℕ) → List ℕ → Office → Office
with_key unit key o = record o { keys = slice_set o.keys unit key }
