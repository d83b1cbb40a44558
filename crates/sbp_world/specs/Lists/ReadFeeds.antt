-- How the ORB of each run was read and what it runs with (NCITS 325-1998, command block agents, command block ORB and page tables), of each initiator that injected no packets, in runs in which none did, or few
-- logins were given: the response that brought the ORB, as the carried law has it, is the one behind which its agent turned to it and read its buffer and its data; and as each packet was got since, the agent
-- waited for an answer of the initiator. So the carried law holds of it.
use Rattle.std.specs.Prelude.{◌≡◌, ◌<◌, ◌≤◌, ℕ, Bool, false, List, ◌∷◌, ◌++◌, length, map, Option, Some}
use Rattle.rbc_disk.specs.Disk.{Disk}
use Rattle.rbc_disk.specs.Runs.{Told}
use Rattle.sbp_journal.specs.Run.{Moment, asked, said}
use Rattle.sbp_journal.specs.declared.note.Note.TheVariants as notes
use Rattle.sbp_laws.specs.CarriedLaw.{RunIsCarried}
use Rattle.sbp_laws.specs.Lawful.{injectors}
use Rattle.sbp_laws.specs.Turns.{EachMoment}
use Rattle.sbp_world.specs.Histories.{history_of}
use Rattle.sbp_world.specs.Runs.{Run, after, beginning}
use Rattle.sbp_world.specs.Settling.{MayAll, after_all}
use Rattle.sbp_world.specs.Worlds.{begun}
use Rattle.sbp_world.specs.Hosts.Runs.{IsRun, more_deliveries}
use Rattle.sbp_world.specs.Lists.CarriedEnds.{RunWasRead}
use Rattle.sbp_world.specs.Lists.FedRuns.{RunIsSince}
use Rattle.sbp_world.specs.Lists.FewLogins.{IsTameOrFew}
use Rattle.sbp_world.specs.Lists.OwnSince.{AllAwaited}

pub record RunWasReadAndFed (start : List Disk) (past : List Moment) (i n k : ℕ) (bytes : List ℕ) : Type 0 where
  pub read : RunWasRead start past i n k
  pub since : RunIsSince start past i n k bytes
  pub response : since.fed.brought.response ≡ read.read.response
  -- as each packet was got since, the agent waited for an answer of the initiator
  pub small : since.fed.place < 8
  pub awaited : AllAwaited start i since.fed.place since.fed.later (since.fed.between ++ said (notes.Got since.fed.brought.response) ∷ since.fed.brought.earlier)
  -- so what the target got since of the initiator is its agent's or begins elsewhere than in the ORB's slot, and the carried law holds of it
  pub whole : RunIsCarried start past i n k bytes

-- of each initiator that is not among these
abbrev pub ReadAndFedAt : (ℕ → Bool) → List Disk → Moment → List Moment → Type 0
ReadAndFedAt wild start (said (notes.Ran i (Some n) (Some k) unit cdb bytes check)) past = wild i ≡ false → RunWasReadAndFed start past i n k bytes
ReadAndFedAt wild start moment past = Unit {0}

-- After every line of every run, and behind each delivery of a line that delivers one packet after the other.
pub record ReadAndFedLaw : Type 0 where
  pub after_lines : (line : ℕ) (run : Run) → IsRun run → 0 < run.units → run.units ≤ 4 → length run.start.disks ≡ run.units → IsTameOrFew (history_of line run) → EachMoment (ReadAndFedAt (injectors (history_of line run)) run.start.disks) (history_of line run)
  pub between : (line : ℕ) (run : Run) → IsRun run → 0 < run.units → run.units ≤ 4 → length run.start.disks ≡ run.units → (next : ℕ) (most : Option ℕ) (told : List (Option Told)) → MayAll told (begun (after (beginning run) run.entries)) → (let now = map said (after_all told (begun (after (beginning run) run.entries))).world.fresh ++ asked next (more_deliveries most) ∷ history_of line run in IsTameOrFew now → EachMoment (ReadAndFedAt (injectors now) run.start.disks) now)
