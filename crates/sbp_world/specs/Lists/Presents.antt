-- The present list of an initiator, in every run (NCITS 325-1998, lists of ORBs in the memory of the initiator): it is the latest one, and an ORB of it whose
-- status was not taken is the one that was prepared last in its slot.
use Rattle.std.specs.Prelude.{◌≡◌, ◌<◌, ℕ, suc, List, ◌∷◌, ◌++◌, map, Option, Some, None}
use Rattle.rbc_disk.specs.Runs.{Told}
use Rattle.sbp_journal.specs.Run.{Moment, asked, said}
use Rattle.sbp_laws.specs.Lists.{present_list, taken_at}
use Rattle.sbp_laws.specs.Terms.{appends, lists}
use Rattle.sbp_world.specs.Histories.{history_of}
use Rattle.sbp_world.specs.Runs.{Run, after, beginning}
use Rattle.sbp_world.specs.Settling.{MayAll, after_all}
use Rattle.sbp_world.specs.Worlds.{begun}
use Rattle.sbp_world.specs.Hosts.Runs.{IsRun, more_deliveries}
use Rattle.sbp_world.specs.Lists.Places.{StandsThere}

-- of initiator i
pub record IsPresent (past : List Moment) (i : ℕ) : Type 0 where
  pub latest : (n : ℕ) → present_list past i ≡ Some n → suc n ≡ lists past i
  pub stands : (n k : ℕ) → present_list past i ≡ Some n → k < appends past i n → taken_at past i n k ≡ None → StandsThere past i n k

-- After every line of every run, and behind each delivery of a line that delivers one packet after the other.
pub record PresentLaw : Type 0 where
  pub after_lines : (line : ℕ) (run : Run) → IsRun run → (i : ℕ) → i < run.initiators → IsPresent (history_of line run) i
  pub between : (line : ℕ) (run : Run) → IsRun run → (next : ℕ) (most : Option ℕ) (told : List (Option Told)) → MayAll told (begun (after (beginning run) run.entries)) → (i : ℕ) → i < run.initiators → (let w = (after_all told (begun (after (beginning run) run.entries))).world in IsPresent (map said w.fresh ++ asked next (more_deliveries most) ∷ history_of line run) i)
