-- The carried law of a run (NCITS 325-1998, command block ORB, page tables and data buffers), of the initiators that injected no packets, where none did, or few logins were given: how the ORB of each run and of each
-- end was read, what each command runs with, and where it runs, and what each answer that is taken was written by.
use Rattle.std.specs.Prelude.{◌≡◌, ◌<◌, ◌≤◌, ℕ, length}
use Rattle.sbp_laws.specs.CarriedLaw.{CarriedLaw}
use Rattle.sbp_laws.specs.Lawful.{injectors}
use Rattle.sbp_world.specs.Histories.{history_of}
use Rattle.sbp_world.specs.Runs.{Run}
use Rattle.sbp_world.specs.Hosts.Runs.{IsRun}
use Rattle.sbp_world.specs.Lists.FewLogins.{IsTameOrFew}

-- after every line of every run of a machine with a unit, at most four, and a medium for each
abbrev pub CarriedRunLaw : Type 0
CarriedRunLaw =
    (line : ℕ) (run : Run) → IsRun run → 0 < run.units → run.units ≤ 4 → length run.start.disks ≡ run.units → IsTameOrFew (history_of line run) → CarriedLaw (injectors (history_of line run)) run.start.disks (history_of line run)
