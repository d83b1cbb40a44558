-- What an agent reads along a list is what the list holds, in every run (NCITS 325-1998, command block agents, linked lists of ORBs and page tables): after
-- every line, and behind each delivery of a line that may follow, the response to a read that an agent has under way along the list of an initiator that
-- injected no packets brings what the list holds: the ORB behind those that have ended, or the one behind that; its page table, which is read as the buffer
-- laid out for its command; the next bytes of its data; or the next pointer of the last ORB, which is null or leads to the one behind, which is linked.
use Rattle.std.specs.Prelude.{◌≡◌, ◌<◌, ◌≤◌, ℕ, List, ◌∷◌, ◌++◌, length, map, Option}
use Rattle.rbc_disk.specs.Runs.{Told}
use Rattle.sbp_journal.specs.Run.{asked, said}
use Rattle.sbp_journal.specs.declared.event.Event.{Event}
use Rattle.sbp_world.specs.Histories.{history_of}
use Rattle.sbp_world.specs.Runs.{Run, after, beginning}
use Rattle.sbp_world.specs.Settling.{MayAll, after_all}
use Rattle.sbp_world.specs.Worlds.{begun}
use Rattle.sbp_world.specs.Agents.Management.Terms.{DeliversMore}
use Rattle.sbp_world.specs.Hosts.Runs.{IsRun}
use Rattle.sbp_world.specs.Lists.Needs.{AllBrought, IsCalm, OpenAfter, OpenBefore, OpenBehind, OpenBetween}

-- where lists were open as they should be before in this run, and are so now
pub record BringsLaw : Type 0 where
  pub after_lines : (line : ℕ) (run : Run) → IsRun run → 0 < run.units → run.units ≤ 4 → length run.start.disks ≡ run.units → OpenBefore line run run.entries → OpenAfter line run run.entries → (i : ℕ) → IsCalm (history_of line run) i → AllBrought (history_of line run) (after (beginning run) run.entries).world i
  pub between : (line : ℕ) (run : Run) → IsRun run → 0 < run.units → run.units ≤ 4 → length run.start.disks ≡ run.units → (next : ℕ) (event : Event) → DeliversMore event → (told : List (Option Told)) → MayAll told (begun (after (beginning run) run.entries)) → OpenBetween line run next event told → OpenBehind (asked next event ∷ history_of line run) told (begun (after (beginning run) run.entries)) → (i : ℕ) → (let w = (after_all told (begun (after (beginning run) run.entries))).world in let now = map said w.fresh ++ asked next event ∷ history_of line run in IsCalm now i → AllBrought now w i)
