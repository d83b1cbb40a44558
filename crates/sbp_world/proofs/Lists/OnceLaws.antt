-- In a run in which lists were open as they should be before, ORBs run as they were appended, and once, and end by how they ran.
use Rattle.sbp_world.proofs.Words.Std.{◌≡◌, ℕ, ◌<◌, ◌≤◌, List, ◌∷◌, ◌++◌, map, length, Option}
use Rattle.sbp_world.proofs.Words.Wire.{Event, Moment, asked, said}
use Rattle.sbp_world.proofs.Words.Target.{Told}
use Rattle.sbp_world.proofs.Words.Laws.{injectors}
use Rattle.sbp_world.proofs.Words.World.{history_of, Run, after, beginning, MayAll, after_all, Scene, WorldState, begun, DeliversMore, IsRun, OpenBefore, OpenBetween, ListsRunLaw, RunsRunLaw}
use Rattle.sbp_world.proofs.Lists.Histories.{Known, after_lines, between}
use Rattle.sbp_world.proofs.Lists.Running.{lists_part, runs_part}
use Rattle.sbp_world.proofs.Lists.UnrunLaws.{unrun_law}

module _ (line : ℕ) (run : Run) (r : IsRun run) (has : 0 < run.units) (small : run.units ≤ 4) (size : length run.start.disks ≡ run.units) where
  abbrev last : Scene
  last = after (beginning run) run.entries

  at_end : OpenBefore line run run.entries → Known (injectors (history_of line run)) (history_of line run) last.world
  at_end so_far = after_lines (injectors (history_of line run)) line run r has small size (λ i own. so_far) (λ i own. own)

  module _ (next : ℕ) (event : Event) (d : DeliversMore event) (told : List (Option Told)) (m : MayAll told (begun last)) (so_far : OpenBetween line run next event told) where
    abbrev end : WorldState
    end = (after_all told (begun last)).world

    abbrev ms : List Moment
    ms = map said end.fresh ++ asked next event ∷ history_of line run

    at_between : Known (injectors ms) ms end
    at_between = between (injectors ms) line run r has small size next event d told m (λ i own. so_far) (λ i own. own)

pub lists_run_law : ListsRunLaw
lists_run_law = record {
  after_lines = λ line run r has small size so_far. lists_part (injectors (history_of line run)) (history_of line run) (at_end line run r has small size so_far).law;
  between = λ line run r has small size next event d told m so_far.
      let w = (after_all told (begun (after (beginning run) run.entries))).world in
      let now = map said w.fresh ++ asked next event ∷ history_of line run in lists_part (injectors now) now (at_between line run r has small size next event d told m so_far).law;
}

pub runs_run_law : RunsRunLaw
runs_run_law = record {
  after_lines = λ line run r has small size so_far. runs_part (injectors (history_of line run)) unrun_law (history_of line run) (at_end line run r has small size so_far).law;
  between = λ line run r has small size next event d told m so_far.
      let w = (after_all told (begun (after (beginning run) run.entries))).world in
      let now = map said w.fresh ++ asked next event ∷ history_of line run in runs_part (injectors now) unrun_law now (at_between line run r has small size next event d told m so_far).law;
}
