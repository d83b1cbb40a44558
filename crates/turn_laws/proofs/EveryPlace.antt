-- What is known of each place holds of every run: a statement on histories that follows from it needs no pass.
use Rattle.std.proofs.Common.{◌≡◌, subst, ℕ, ◌<◌, ◌≤◌, List, ◌∷◌, ◌++◌, length, map, Option}
use Rattle.rbc_disk.specs.Disk.{Disk}
use Rattle.rbc_disk.specs.Runs.{Told}
use Rattle.sbp_journal.specs.Run.{Moment, asked, said}
use Rattle.sbp_world.specs.Histories.{history_of}
use Rattle.sbp_world.specs.Hosts.Runs.{IsRun, more_deliveries}
use Rattle.sbp_world.specs.Runs.{Run, after, beginning}
use Rattle.sbp_world.specs.Settling.{MayAll, after_all}
use Rattle.sbp_world.specs.Worlds.{Scene, begun}
use Rattle.sbp_world.proofs.Agents.Management.Runs.{HoldsAfter, holds_after}
use Rattle.sbp_world.proofs.Agents.Management.Still.{hist}
use Rattle.turn_laws.specs.Runs.{OfEveryRun}
use Rattle.turn_laws.proofs.Places.{Place, between_place, ended_place}

module _ (P : List Disk → List Moment → Type 0) (known : (units ready : ℕ) (start : List Disk) → 0 < units → (past : List Moment) (s : Scene) → Place units ready start past s → P start (hist past s.world)) where
  module _ (line : ℕ) (run : Run) (r : IsRun run) (has : 0 < run.units) (small : run.units ≤ 4) (size : length run.start.disks ≡ run.units) where
    b : HoldsAfter line run run.entries (after (beginning run) run.entries).world
    b = holds_after line run run.entries r.few has small size r.short r.entries r.lines

    known_after : P run.start.disks (history_of line run)
    known_after =
        let s = after (beginning run) run.entries in
        subst (P run.start.disks) b.is (known run.units _ run.start.disks has b.past s (ended_place line run r.few has small size run.entries r.short r.entries r.lines b.past b.holds b.is))

    known_between : (next : ℕ) (most : Option ℕ) (told : List (Option Told)) → (let s = begun (after (beginning run) run.entries) in MayAll told s → P run.start.disks (map said (after_all told s).world.fresh ++ asked next (more_deliveries most) ∷ history_of line run))
    known_between next most told may =
        let s = after_all told (begun (after (beginning run) run.entries)) in
        let past = hist b.past (after (beginning run) run.entries).world in
        subst (λ ms. P run.start.disks (map said s.world.fresh ++ asked next (more_deliveries most) ∷ ms)) b.is
        (known run.units _ run.start.disks has (asked next (more_deliveries most) ∷ past) s (between_place line run r.few has small size run.entries r.short r.entries r.lines b.past b.holds b.is next most told may))

  pub of_every_place : OfEveryRun P
  of_every_place = record {
    after_lines = λ line run r has small size. known_after line run r has small size;
    between = λ line run r has small size next most told may. known_between line run r has small size next most told may;
  }
