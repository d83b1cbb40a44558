-- A desk whose register for unsolicited status is enabled has a live login (NCITS 325-1998, unsolicited status): a register is enabled for a live login of the
-- source alone, and is disabled as the login is held or leaves, and as another is entered. The registers that the terms have enabled are those of the desks.
use Rattle.std.specs.Prelude.{◌≡◌, ◌≤◌, ◌<◌, ℕ, ◌+◌, ◌^◌, Bool, true, false, List, ◌∷◌, ◌++◌, map, length, slice_index_or, Option, Some}
use Rattle.login_table.specs.declared.login.Login.{Login}
use Rattle.login_table.specs.Table.{is_live, place_at}
use Rattle.rbc_disk.specs.Runs.{Told}
use Rattle.sbp_journal.specs.Run.{asked, said}
use Rattle.sbp_journal.specs.declared.event.Event.{Event}
use Rattle.sbp_laws.specs.Targets.{target_at}
use Rattle.sbp_target.specs.Nodes.{NodeState, desk_at}
use Rattle.sbp_world.specs.Histories.{history_of}
use Rattle.sbp_world.specs.Runs.{AreEntries, Run, after, beginning}
use Rattle.sbp_world.specs.Settling.{MayAll, after_all}
use Rattle.sbp_world.specs.Wire.Lines.{AreLines}
use Rattle.sbp_world.specs.Worlds.{begun}
use Rattle.sbp_world.specs.Agents.Management.Terms.{DeliversMore}

-- a place has a live login
pub record HasLive (places : List (Option Login)) (place : ℕ) : Type 0 where
  pub login : Login
  pub is : place_at places place ≡ Some login
  pub live : is_live login ≡ true

abbrev pub AreLive : NodeState → Type 0
AreLive node = (place : ℕ) → (desk_at node place).is_enabled ≡ true → HasLive node.logins.places place

-- After every line of every run of a machine with a unit, at most four, and a medium for each.
abbrev pub EnabledLaw : Type 0
EnabledLaw =
    (run : Run) → run.initiators ≤ 4 → 0 < run.units → run.units ≤ 4 → length run.start.disks ≡ run.units → length run.entries + 2 < 2 ^ 32 → AreEntries (beginning run) run.entries → AreLines run run.entries → AreLive (after (beginning run) run.entries).world.target

-- And behind each delivery of a line that may follow: the packets that were delivered in it so far told this, the latest one first.
abbrev pub EnabledBetweenLaw : Type 0
EnabledBetweenLaw =
    (run : Run) → run.initiators ≤ 4 → 0 < run.units → run.units ≤ 4 → length run.start.disks ≡ run.units → length run.entries + 2 < 2 ^ 32 → AreEntries (beginning run) run.entries → AreLines run run.entries → (next : ℕ) (event : Event) → DeliversMore event → (told : List (Option Told)) → MayAll told (begun (after (beginning run) run.entries)) → AreLive (after_all told (begun (after (beginning run) run.entries))).world.target

-- The terms have the same registers enabled: those of eight places.
pub record AreTermsOf (enabled : List Bool) (node : NodeState) : Type 0 where
  pub size : length enabled ≡ 8
  pub each : (place : ℕ) → place < 8 → slice_index_or enabled place false ≡ (desk_at node place).is_enabled

-- After every line of every run of a machine with a unit, at most four, and a medium for each.
abbrev pub EnabledTermsLaw : Type 0
EnabledTermsLaw =
    (line : ℕ) (run : Run) → run.initiators ≤ 4 → 0 < run.units → run.units ≤ 4 → length run.start.disks ≡ run.units → length run.entries + 2 < 2 ^ 32 → AreEntries (beginning run) run.entries → AreLines run run.entries → AreTermsOf (target_at run.start.disks (history_of line run)).enabled (after (beginning run) run.entries).world.target

-- And behind each delivery of a line that may follow: the packets that were delivered in it so far told this, the latest one first.
abbrev pub EnabledTermsBetweenLaw : Type 0
EnabledTermsBetweenLaw =
    (line : ℕ) (run : Run) → run.initiators ≤ 4 → 0 < run.units → run.units ≤ 4 → length run.start.disks ≡ run.units → length run.entries + 2 < 2 ^ 32 → AreEntries (beginning run) run.entries → AreLines run run.entries → (next : ℕ) (event : Event) → DeliversMore event → (told : List (Option Told)) → MayAll told (begun (after (beginning run) run.entries)) → (let w = (after_all told (begun (after (beginning run) run.entries))).world in AreTermsOf (target_at run.start.disks (map said w.fresh ++ asked next event ∷ history_of line run)).enabled w.target)
