-- No two logins of the target are for one initiator and one unit at once (NCITS 325-1998, login): in every run a login ID names one place, and so does a node with a
-- live login on a unit. So a live login is the only one of its node on its unit.
use Rattle.std.specs.Prelude.{◌≡◌, ◌≤◌, ◌<◌, ◌+◌, ◌^◌, ℕ, true, List, ◌∷◌, ◌++◌, map, length, Option, Some}
use Rattle.login_table.specs.declared.login.Login.{Login}
use Rattle.login_table.specs.Table.{is_live, place_at}
use Rattle.rbc_disk.specs.Disk.{Disk}
use Rattle.rbc_disk.specs.Runs.{Told}
use Rattle.sbp_journal.specs.declared.event.Event.{Event}
use Rattle.sbp_journal.specs.Run.{Moment, asked, said}
use Rattle.sbp_laws.specs.Targets.{target_at}
use Rattle.sbp_world.specs.Histories.{history_of}
use Rattle.sbp_world.specs.Runs.{AreEntries, Run, after, beginning}
use Rattle.sbp_world.specs.Settling.{MayAll, after_all}
use Rattle.sbp_world.specs.Worlds.{begun}
use Rattle.sbp_world.specs.Wire.Lines.{AreLines}
use Rattle.sbp_world.specs.Agents.Management.Terms.{DeliversMore}

pub record AreSingle (places : List (Option Login)) : Type 0 where
  pub ids : (i j : ℕ) (a b : Login) → place_at places i ≡ Some a → place_at places j ≡ Some b → a.login ≡ b.login → i ≡ j
  pub nodes : (i j : ℕ) (a b : Login) → place_at places i ≡ Some a → place_at places j ≡ Some b → is_live a ≡ true → is_live b ≡ true → a.unit ≡ b.unit → a.node ≡ b.node → i ≡ j

abbrev pub AreSingleIn : List Disk → List Moment → Type 0
AreSingleIn start past = AreSingle (target_at start past).table.places

-- After every line of every run of a machine with a unit, at most four, and a medium for each; and behind each delivery of a line that may follow: the packets that were
-- delivered in it so far told this, the latest one first.
pub record SingleLaw : Type 0 where
  pub after_lines : (line : ℕ) (run : Run) → run.initiators ≤ 4 → 0 < run.units → run.units ≤ 4 → length run.start.disks ≡ run.units → length run.entries + 2 < 2 ^ 32 → AreEntries (beginning run) run.entries → AreLines run run.entries → AreSingleIn run.start.disks (history_of line run)
  pub between : (line : ℕ) (run : Run) → run.initiators ≤ 4 → 0 < run.units → run.units ≤ 4 → length run.start.disks ≡ run.units → length run.entries + 2 < 2 ^ 32 → AreEntries (beginning run) run.entries → AreLines run run.entries → (next : ℕ) (event : Event) → DeliversMore event → (told : List (Option Told)) → MayAll told (begun (after (beginning run) run.entries)) → (let w = (after_all told (begun (after (beginning run) run.entries))).world in AreSingleIn run.start.disks (map said w.fresh ++ asked next event ∷ history_of line run))
