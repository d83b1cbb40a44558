-- In which generation the lists of an initiator begin, in every run (NCITS 325-1998, ORB_POINTER and bus reset): in one that the target has seen, whatever any
-- initiator injected. So of an initiator that injected no packets a write of ORB_POINTER that was not taken as new yet, in the target's generation, is that
-- for its latest list, though the initiator may be ahead of the target.
use Rattle.std.specs.Prelude.{◌≡◌, ◌<◌, ◌≤◌, ℕ, suc, List, ◌∷◌, ◌++◌, length, map, Option, Some}
use Rattle.rbc_disk.specs.Runs.{Told}
use Rattle.sbp_journal.specs.Run.{Moment, asked, said}
use Rattle.sbp_journal.specs.Transactions.{Sending}
use Rattle.sbp_journal.specs.Wire.{terms}
use Rattle.sbp_laws.specs.Terms.{lists}
use Rattle.sbp_world.specs.Histories.{history_of}
use Rattle.sbp_world.specs.Runs.{Run, after, beginning}
use Rattle.sbp_world.specs.Settling.{MayAll, after_all}
use Rattle.sbp_world.specs.Worlds.{begun}
use Rattle.sbp_world.specs.Hosts.Runs.{IsRun, more_deliveries}
use Rattle.sbp_world.specs.Pointers.Pointers.{begun_in, pointed_list}
use Rattle.sbp_world.specs.Lists.Needs.{IsCalm}

-- of initiator i
pub record AreBegun (past : List Moment) (i : ℕ) : Type 0 where
  pub seen : (n : ℕ) → n < lists past i → begun_in past i n ≤ (terms past).generation 0
  pub waiting : IsCalm past i → (serial n : ℕ) (sent : Sending) → (terms past).sent serial ≡ Some sent → pointed_list past serial i ≡ Some n → sent.generation ≡ (terms past).generation 0 → (terms past).news serial ≡ 0 → suc n ≡ lists past i

-- After every line of every run of a machine with a unit, at most four, and a medium for each; and behind each delivery of a line that delivers one packet
-- after the other.
pub record BegunLaw : Type 0 where
  pub after_lines : (line : ℕ) (run : Run) → IsRun run → 0 < run.units → run.units ≤ 4 → length run.start.disks ≡ run.units → (i : ℕ) → i < run.initiators → AreBegun (history_of line run) i
  pub between : (line : ℕ) (run : Run) → IsRun run → 0 < run.units → run.units ≤ 4 → length run.start.disks ≡ run.units → (next : ℕ) (most : Option ℕ) (told : List (Option Told)) → MayAll told (begun (after (beginning run) run.entries)) → (i : ℕ) → i < run.initiators → (let w = (after_all told (begun (after (beginning run) run.entries))).world in AreBegun (map said w.fresh ++ asked next (more_deliveries most) ∷ history_of line run) i)
