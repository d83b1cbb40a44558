-- How often a response is got (IEEE 1394-1995, split transactions), between nodes that injected no packets: one that closed the transaction of a request that was sent is not got again,
-- since its label waits for another request by then, to which it is no answer.
use Rattle.std.specs.Prelude.{◌≡◌, ◌<◌, ◌≤◌, ◌==◌, ℕ, suc, false, List, [], ◌∷◌, ◌++◌, length, map, Option, Some}
use Rattle.rbc_disk.specs.Runs.{Told}
use Rattle.sbp_journal.specs.Run.{Moment, asked, said}
use Rattle.sbp_journal.specs.Transactions.{Sending}
use Rattle.sbp_journal.specs.Wire.{terms}
use Rattle.sbp_journal.specs.declared.note.Note.TheVariants as notes
use Rattle.sbp_laws.specs.Packets.{answered_at}
use Rattle.sbp_world.specs.Histories.{history_of}
use Rattle.sbp_world.specs.Runs.{Run, after, beginning}
use Rattle.sbp_world.specs.Settling.{MayAll, after_all}
use Rattle.sbp_world.specs.Worlds.{begun}
use Rattle.sbp_world.specs.Hosts.Runs.{IsRun, more_deliveries}
use Rattle.sbp_world.specs.Lists.Needs.{IsCalm, OpenBefore, OpenBetween}

-- it is not got in these moments
abbrev pub NoneAgain : ℕ → List Moment → Type 0
NoneAgain response [] = Unit {0}
NoneAgain response (said (notes.Got serial) ∷ later) = ((serial == response) ≡ false) × NoneAgain response later
NoneAgain response (moment ∷ later) = NoneAgain response later

-- a node is that of no initiator that injected packets
abbrev pub IsCalmNode : List Moment → ℕ → Type 0
IsCalmNode past node = (i : ℕ) → node ≡ suc i → IsCalm past i

abbrev pub AreGotOnce : List Moment → Type 0
AreGotOnce past =
    (later earlier : List Moment) (response request : ℕ) (asking : Sending) → later ++ said (notes.Got response) ∷ earlier ≡ past → answered_at (terms earlier) response ≡ Some request → (terms earlier).sent request ≡ Some asking → IsCalmNode past asking.from → IsCalmNode past asking.to → NoneAgain response later

-- After every line of every run, and behind each delivery of a line that may follow.
pub record GotOnceLaw : Type 0 where
  pub after_lines : (line : ℕ) (run : Run) → IsRun run → 0 < run.units → run.units ≤ 4 → length run.start.disks ≡ run.units → OpenBefore line run run.entries → AreGotOnce (history_of line run)
  pub between : (line : ℕ) (run : Run) → IsRun run → 0 < run.units → run.units ≤ 4 → length run.start.disks ≡ run.units → (next : ℕ) (most : Option ℕ) (told : List (Option Told)) → MayAll told (begun (after (beginning run) run.entries)) → OpenBetween line run next (more_deliveries most) told → (let now = map said (after_all told (begun (after (beginning run) run.entries))).world.fresh ++ asked next (more_deliveries most) ∷ history_of line run in AreGotOnce now)
