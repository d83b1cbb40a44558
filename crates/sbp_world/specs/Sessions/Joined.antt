-- A session that is live, or that is being left, is of a generation that the target has seen (NCITS 325-1998, login, reconnect and logout): it became live by
-- a status block of the target in the generation that the initiator still is in, and is held as the initiator sees a reset. A list is begun in a live session
-- alone, and ends by that reset at the latest; so an initiator that has a list, whatever its session became since, is in such a generation too. The target is
-- in the initiator's generation or in a later one, whatever any initiator injected.
use Rattle.std.specs.Prelude.{◌≡◌, ◌≤◌, ◌<◌, ℕ, ◌+◌, ◌^◌, is_some, Bool, true, false, List, ◌∷◌, ◌++◌, map, length, Option}
use Rattle.rbc_disk.specs.Runs.{Told}
use Rattle.sbp_journal.specs.Run.{Moment, asked, said}
use Rattle.sbp_journal.specs.Wire.{terms}
use Rattle.sbp_journal.specs.declared.event.Event.{Event}
use Rattle.sbp_laws.specs.Hosts.{Session, host_at, leaving, live}
use Rattle.sbp_laws.specs.Lists.{present_list}
use Rattle.sbp_world.specs.Histories.{history_of}
use Rattle.sbp_world.specs.Runs.{AreEntries, Run, after, beginning}
use Rattle.sbp_world.specs.Settling.{MayAll, after_all}
use Rattle.sbp_world.specs.Wire.Lines.{AreLines}
use Rattle.sbp_world.specs.Worlds.{begun}
use Rattle.sbp_world.specs.Agents.Management.Terms.{DeliversMore}

abbrev pub is_joined : Session → Bool
is_joined live = true
is_joined leaving = true
is_joined _ = false

-- of initiator i
pub record IsJoined (past : List Moment) (i : ℕ) : Type 0 where
  pub session : is_joined (host_at past i).session ≡ true → (terms past).generation (i + 1) ≤ (terms past).generation 0
  pub list : is_some (present_list past i) ≡ true → (terms past).generation (i + 1) ≤ (terms past).generation 0

-- After every line of every run of a machine with a unit, at most four, and a medium for each.
abbrev pub JoinedLaw : Type 0
JoinedLaw =
    (line : ℕ) (run : Run) → run.initiators ≤ 4 → 0 < run.units → run.units ≤ 4 → length run.start.disks ≡ run.units → length run.entries + 2 < 2 ^ 32 → AreEntries (beginning run) run.entries → AreLines run run.entries → (i : ℕ) → i < run.initiators → IsJoined (history_of line run) i

-- And behind each delivery of a line that may follow: the packets that were delivered in it so far told this, the latest one first.
abbrev pub JoinedBetweenLaw : Type 0
JoinedBetweenLaw =
    (line : ℕ) (run : Run) → run.initiators ≤ 4 → 0 < run.units → run.units ≤ 4 → length run.start.disks ≡ run.units → length run.entries + 2 < 2 ^ 32 → AreEntries (beginning run) run.entries → AreLines run run.entries → (next : ℕ) (event : Event) → DeliversMore event → (told : List (Option Told)) → MayAll told (begun (after (beginning run) run.entries)) → (i : ℕ) → i < run.initiators → (let w = (after_all told (begun (after (beginning run) run.entries))).world in IsJoined (map said w.fresh ++ asked next event ∷ history_of line run) i)
