-- The answers of good statuses, in every run (NCITS 325-1998, status blocks and data buffers): where an initiator takes a good status of an ORB whose data
-- go to it, the answer is the bytes of the ORB's buffer, in the order of its segments, as they stand then; and of every other ORB it has no byte. So
-- each byte of it is that of the latest write there that the initiator got since the append and answered complete, or, where there was none, what
-- stood there before.
use Rattle.std.specs.Prelude.{◌≡◌, ◌<◌, ℕ, if◌then◌else◌, List, [], ◌∷◌, ◌++◌, map, Option, Some}
use Rattle.orb_layout.specs.declared.status.StatusKind.TheVariants as kinds
use Rattle.page_table.specs.Buffer.{buffer_addresses}
use Rattle.rbc_disk.specs.Runs.{Told}
use Rattle.sbp_journal.specs.Run.{Moment, asked, said}
use Rattle.sbp_journal.specs.declared.event.Cmd.{Cmd}
use Rattle.sbp_journal.specs.declared.note.Note.TheVariants as notes
use Rattle.sbp_laws.specs.CarriedBytes.{laid_out}
use Rattle.sbp_laws.specs.Lists.{command_at, slot_at}
use Rattle.sbp_world.specs.Histories.{history_of}
use Rattle.sbp_world.specs.Runs.{Run, after, beginning}
use Rattle.sbp_world.specs.Settling.{MayAll, after_all}
use Rattle.sbp_world.specs.Worlds.{begun}
use Rattle.sbp_world.specs.Hosts.Bytes.{byte_held}
use Rattle.sbp_world.specs.Hosts.Runs.{IsRun, more_deliveries}

-- the bytes of the buffer of a command in a slot, where its data go to the initiator
abbrev pub answer_held : List Moment → (i slot : ℕ) → Cmd → List ℕ
answer_held past i slot cmd = if cmd.to_initiator then map (byte_held past i slot) (buffer_addresses (laid_out slot cmd cmd.segments)) else []

-- the answer of a status is that
pub record IsAnswerOf (past : List Moment) (i n k : ℕ) (answer : List ℕ) : Type 0 where
  pub cmd : Cmd
  pub command : command_at past i n k ≡ Some cmd
  pub is : answer ≡ answer_held past i (slot_at past i n k) cmd

-- After each line of a run, and behind each delivery of a line that delivers one packet after the other.
pub record TakenLaw : Type 0 where
  pub answers : (line : ℕ) (run : Run) → IsRun run → (i : ℕ) → i < run.initiators → (later past : List Moment) (n k : ℕ) (answer : List ℕ) → later ++ said (notes.Taken i n k kinds.Good answer) ∷ past ≡ history_of line run → IsAnswerOf past i n k answer
  pub between : (line : ℕ) (run : Run) → IsRun run → (next : ℕ) (most : Option ℕ) (told : List (Option Told)) → MayAll told (begun (after (beginning run) run.entries)) → (i : ℕ) → i < run.initiators → (later past : List Moment) (n k : ℕ) (answer : List ℕ) → (let w = (after_all told (begun (after (beginning run) run.entries))).world in later ++ said (notes.Taken i n k kinds.Good answer) ∷ past ≡ map said w.fresh ++ asked next (more_deliveries most) ∷ history_of line run) → IsAnswerOf past i n k answer
