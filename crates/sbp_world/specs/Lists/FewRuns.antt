-- How many logins the target gives in a run (NCITS 325-1998, login), whatever anyone injected. It has eight places for logins; a place comes free by a decision on a logout,
-- or behind a reset; and for each decision an initiator wrote MANAGEMENT_AGENT in a line of its own, or such a write was repeated. So there are nine lines for each
-- eight logins, but for the first few: in a run of a script, which has 65,536 lines at most, fewer logins are given than there are IDs.
use Rattle.std.specs.Prelude.{◌≡◌, ◌<◌, ◌≤◌, ℕ, ◌+◌, ◌*◌, length}
use Rattle.sbp_world.specs.Histories.{history_of}
use Rattle.sbp_world.specs.Runs.{Run}
use Rattle.sbp_world.specs.Hosts.Runs.{IsRun}
use Rattle.sbp_world.specs.Lists.FewLogins.{FewLogins, entries}

-- After the lines of every run of a machine with a unit, at most four, and a medium for each.
pub record FewLoginsLaw : Type 0 where
  pub rate : (line : ℕ) (run : Run) → IsRun run → 0 < run.units → run.units ≤ 4 → length run.start.disks ≡ run.units → 9 * entries (history_of line run) ≤ 8 * length run.entries + 48
  pub few : (line : ℕ) (run : Run) → IsRun run → 0 < run.units → run.units ≤ 4 → length run.start.disks ≡ run.units → length run.entries ≤ 65536 → FewLogins (history_of line run)
