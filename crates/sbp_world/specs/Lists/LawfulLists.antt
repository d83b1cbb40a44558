-- The laws of lists, of the initiators that injected no packets, in every run in which none did, or few logins were given (NCITS 325-1998, ordered execution, status block
-- and login): the order law, the execution law and the status law, after its lines. Where few logins were given, what other initiators inject changes nothing of them.
use Rattle.std.specs.Prelude.{◌≡◌, ◌<◌, ◌≤◌, ℕ, length}
use Rattle.sbp_laws.specs.Lawful.{injectors}
use Rattle.sbp_laws.specs.OnLists.{LawfulOnLists}
use Rattle.sbp_world.specs.Histories.{history_of}
use Rattle.sbp_world.specs.Runs.{Run}
use Rattle.sbp_world.specs.Hosts.Runs.{IsRun}
use Rattle.sbp_world.specs.Lists.FewLogins.{IsTameOrFew}

pub record ListsLaw : Type 0 where
  pub lists : (line : ℕ) (run : Run) → IsRun run → 0 < run.units → run.units ≤ 4 → length run.start.disks ≡ run.units → IsTameOrFew (history_of line run) → LawfulOnLists (injectors (history_of line run)) run.start.disks (history_of line run)
