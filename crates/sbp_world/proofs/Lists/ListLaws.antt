-- The laws of lists of every run with units that is tame or has few logins.
use Rattle.sbp_world.proofs.Words.Std.{◌≡◌, sym, subst, ℕ, ◌<◌, ◌≤◌, length}
use Rattle.sbp_world.proofs.Words.World.{history_of, IsRun, IsTameOrFew, HasListLaws, Run}
use Rattle.sbp_world.specs.Lists.LoginUnits.{RunsOnUnits}
use Rattle.sbp_world.proofs.Hosts.Runs.{count_after}
use Rattle.sbp_world.proofs.Lists.AbortedEnds.{none_aborted_law}
use Rattle.sbp_world.proofs.Lists.Clauses.{answers_hold, brought_law, carried_law, faults, lengths_law, lists_law, takes_alive}
use Rattle.sbp_world.proofs.Lists.DummyEnds.{none_dummy_law}
use Rattle.sbp_world.proofs.Lists.TakenInOrder.{taken_turns}
use Rattle.sbp_world.proofs.Lists.UnitRan.{run_units_law}

pub list_laws : (line : ℕ) (run : Run) → IsRun run → 0 < run.units → run.units ≤ 4 → length run.start.disks ≡ run.units → IsTameOrFew (history_of line run) → HasListLaws run.initiators run.start.disks (history_of line run)
list_laws line run is some most size given =
    let turns = taken_turns.after_lines line run is some most size given in
    record {
      on_lists = lists_law.lists line run is some most size given;
      brought = brought_law line run is some most size given;
      carried = carried_law line run is some most size given;
      answers = (answers_hold line run is some most size given).answers;
      lengths = lengths_law.lengths line run is some most size given;
      in_turn = λ i b calm. record { number = turns i b calm; alive = takes_alive.takes line run is some most size given i b calm (turns i b calm) };
      at_fault = λ i b calm. faults.after_lines line run is some most size given i (subst (λ n. i < n) (sym (count_after run run.entries)) b) calm;
      none_aborted = λ tame none. none_aborted_law.after_lines line run is some most size tame none;
      none_dummy = λ i b calm none. none_dummy_law.after_lines line run is some most size given i b calm none;
      units = subst (λ n. RunsOnUnits n (history_of line run)) (count_after run run.entries) (run_units_law.after_lines line run is some most size given);
    }
