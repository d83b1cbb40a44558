-- Why a line of a drill may be refused: where no session got stuck and no status of a dead agent was taken, each initiator is logged in, has no operation under way, has linked what it appended, and sees no dead
-- agent; so what lacks is a slot or a label (NCITS 325-1998, command block agents).
use Rattle.std.specs.Prelude.{◌≡◌, ◌<◌, ℕ, ◌==◌, Bool, false, if◌then◌else◌, List, [], ◌∷◌, Option, Some, None}
use Rattle.std.specs.List.{count_by}
use Rattle.orb_layout.specs.StatusBlocks.{row_of}
use Rattle.rbc_disk.specs.Disk.{Disk}
use Rattle.sbp_journal.specs.Run.{Entry, Moment, history, notes_of, said}
use Rattle.sbp_journal.specs.Wire.{terms}
use Rattle.sbp_journal.specs.declared.event.Cmd.{Cmd}
use Rattle.sbp_journal.specs.declared.event.Event.{Event}
use Rattle.sbp_journal.specs.declared.event.Event.TheVariants as events
use Rattle.sbp_journal.specs.declared.event.Action.TheVariants as actions
use Rattle.sbp_journal.specs.declared.note.Note.TheVariants as notes
use Rattle.sbp_laws.specs.Actions.{action_body, lacks_label, refusal_at}
use Rattle.sbp_laws.specs.Hosts.{host_at, live}
use Rattle.sbp_laws.specs.Lawful.{nobody}
use Rattle.sbp_laws.specs.Lists.{linked, lowest_vacant, slots}
use Rattle.sbp_laws.specs.OnLists.{LawfulOnLists}
use Rattle.sbp_laws.specs.Terms.{appends}
use Rattle.sbp_laws.specs.Turns.{EachMoment}
use Rattle.drill_text.specs.Tally.{is_append}
use Rattle.drill_laws.specs.DrillCalm.{IsLawfulDrill}
use Rattle.drill_laws.specs.DrillGood.{IsDeathlessAt}
use Rattle.drill_laws.specs.DrillLines.{append_lines, is_refused}
use Rattle.drill_laws.specs.DrillSettles.{events_said}

-- no session gets stuck, and no status tells of a dead agent
abbrev pub IsAliveAt : Moment → List Moment → Type 0
IsAliveAt (said (notes.Stuck i)) past = ⊥
IsAliveAt (said (notes.Taken i n k status answer)) past = ((row_of status).dead == 1) ≡ false
IsAliveAt moment past = Unit {0}

-- no session gets stuck
abbrev pub IsUnstuckAt : Moment → List Moment → Type 0
IsUnstuckAt (said (notes.Stuck i)) past = ⊥
IsUnstuckAt moment past = Unit {0}

-- an initiator that may append
pub record IsReadyFor (past : List Moment) (i : ℕ) : Type 0 where
  pub is_live : (host_at past i).session ≡ live
  pub idle : (host_at past i).operation ≡ None
  pub unmarked : (host_at past i).marked_dead ≡ false
  pub linked_all : (n : ℕ) → linked past i n ≡ appends past i n

-- the slots, and then the labels, are what may lack
abbrev pub refused_for : (no_slot no_label : Bool) → Option ℕ
refused_for no_slot no_label = if no_slot then Some 9 else if no_label then Some 10 else None

abbrev pub lack_at : List Moment → ℕ → Cmd → Option ℕ
lack_at past i cmd = refused_for (lowest_vacant (slots past i) == 32) (lacks_label (terms past) i (action_body (actions.Append cmd) past i (host_at past i)))

-- a line that appends lacks neither, and so do all of a run
abbrev pub HasRoomFor : List Moment → Event → Type 0
HasRoomFor past (events.Act i (actions.Append cmd)) = lack_at past i cmd ≡ None
HasRoomFor past event = Unit {0}

abbrev pub HaveRoom : List Entry → Type 0
HaveRoom [] = Unit {0}
HaveRoom (entry ∷ before) = HasRoomFor (history before) entry.event × HaveRoom before

-- where no agent died, no status tells of a dead one
abbrev pub StaysAlive : List Disk → List Entry → Type 0
StaysAlive disks entries = EachMoment IsDeathlessAt (history entries) → EachMoment IsUnstuckAt (history entries) → EachMoment IsAliveAt (history entries)

pub record DrillsRefuseLittle : Type 0 where
  pub alive : (disks : List Disk) (entries : List Entry) → IsLawfulDrill disks entries → LawfulOnLists nobody disks (history entries) → StaysAlive disks entries
  pub ready : (disks : List Disk) (entries : List Entry) → IsLawfulDrill disks entries → EachMoment IsAliveAt (history entries) → (i : ℕ) → i < 2 → IsReadyFor (history entries) i
  pub refusal : (past : List Moment) (i : ℕ) (cmd : Cmd) → IsReadyFor past i → refusal_at past i (actions.Append cmd) ≡ lack_at past i cmd

-- so where none lacks either, each line that appends has its note
pub record DrillsAppendAll : Type 0 where
  pub none_refused : (disks : List Disk) (entries : List Entry) → IsLawfulDrill disks entries → EachMoment IsAliveAt (history entries) → HaveRoom entries → count_by is_refused (notes_of entries) ≡ 0
  pub all_appended : (disks : List Disk) (entries : List Entry) → IsLawfulDrill disks entries → EachMoment IsAliveAt (history entries) → HaveRoom entries → count_by is_append (notes_of entries) ≡ append_lines (events_said entries)
