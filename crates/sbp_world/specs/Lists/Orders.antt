-- The order law over runs, of the initiators that injected no packets (NCITS 325-1998, ordered execution): after every line of every run, and behind each
-- delivery of a line that may follow. That its ORBs end in turn, each once, follows from it (sbp_laws: ends_in_order).
use Rattle.std.specs.Prelude.{◌≡◌, ◌<◌, ◌≤◌, ℕ, List, ◌∷◌, ◌++◌, length, map, Option, None}
use Rattle.rbc_disk.specs.Runs.{Told}
use Rattle.sbp_journal.specs.Run.{Moment, asked, said}
use Rattle.sbp_journal.specs.declared.event.Event.{Event}
use Rattle.sbp_journal.specs.declared.note.NoteBuffer.{NoteBuffer}
use Rattle.sbp_journal.specs.declared.note.Note.TheVariants.{Append}
use Rattle.sbp_laws.specs.Lawful.{injectors}
use Rattle.sbp_laws.specs.Lists.{lowest_vacant, slot_at, slots, taken_at}
use Rattle.sbp_laws.specs.OrderLaw.{IsNextAppend, OrderLaw}
use Rattle.sbp_laws.specs.Terms.{appends}
use Rattle.sbp_world.specs.Histories.{history_of}
use Rattle.sbp_world.specs.Runs.{Run, after, beginning}
use Rattle.sbp_world.specs.Settling.{MayAll, after_all}
use Rattle.sbp_world.specs.Worlds.{begun}
use Rattle.sbp_world.specs.Agents.Management.Terms.{DeliversMore}
use Rattle.sbp_world.specs.Hosts.Runs.{IsRun}
use Rattle.sbp_world.specs.Lists.Needs.{OpenBefore, OpenBetween}

-- where lists were open as they should be before in this run
pub record OrderRunLaw : Type 0 where
  pub after_lines : (line : ℕ) (run : Run) → IsRun run → 0 < run.units → run.units ≤ 4 → length run.start.disks ≡ run.units → OpenBefore line run run.entries → OrderLaw (injectors (history_of line run)) (history_of line run)
  pub between : (line : ℕ) (run : Run) → IsRun run → 0 < run.units → run.units ≤ 4 → length run.start.disks ≡ run.units → (next : ℕ) (event : Event) → DeliversMore event → (told : List (Option Told)) → MayAll told (begun (after (beginning run) run.entries)) → OpenBetween line run next event told → (let w = (after_all told (begun (after (beginning run) run.entries))).world in let now = map said w.fresh ++ asked next event ∷ history_of line run in OrderLaw (injectors now) now)

-- An ORB that is appended has the next number of the latest list of its initiator, or begins the next list with number 0; and it is prepared in one of
-- the 32 slots, in which no ORB of its list waits.
pub record IsAppend (past : List Moment) (i n k : ℕ) : Type 0 where
  pub next : IsNextAppend past i n k
  pub slot : lowest_vacant (slots past i) < 32
  pub apart : (l : ℕ) → l < appends past i n → taken_at past i n l ≡ None → slot_at past i n l ≡ lowest_vacant (slots past i) → ⊥

-- So is each append of every run.
pub record AppendsLaw : Type 0 where
  pub numbered : (line : ℕ) (run : Run) → IsRun run → 0 < run.units → run.units ≤ 4 → length run.start.disks ≡ run.units → (later past : List Moment) (i n k : ℕ) (cdb : List ℕ) (buffer : NoteBuffer) → later ++ said (Append i n k cdb buffer) ∷ past ≡ history_of line run → IsAppend past i n k
