-- In every run in which no initiator injected packets, or few logins were given, the order law, the execution law and the status law hold.
use Rattle.sbp_world.proofs.Words.Std.{◌≡◌, sym, subst, ◌<◌, ◌≤◌, ℕ, List, length}
use Rattle.sbp_world.proofs.Words.Wire.{Moment}
use Rattle.sbp_world.proofs.Words.Laws.{injectors, LawfulOnLists, EachMoment}
use Rattle.sbp_world.proofs.Words.World.{history_of, Run, after, beginning, IsRun, AreHere, OpenListsLaw, Under, WhereTameOrFew, LiveLaw, OpenBefore, LogoutsLaw, IsTameOrFew, AtLogin, ListsLaw}
use Rattle.sbp_world.proofs.Hosts.Runs.{count_after}
use Rattle.sbp_world.proofs.Hosts.Statuses.Ranges.{run_inside}
use Rattle.sbp_world.proofs.Lists.Executes.{execution_run_law}
use Rattle.sbp_world.proofs.Lists.ListsProved.{open_before, open_lists, sent_so, statuses}
use Rattle.sbp_world.proofs.Lists.LiveGiven.{ShortLaw}
use Rattle.sbp_world.proofs.Lists.LiveShort.{here_beside, placed_beside}
use Rattle.sbp_world.proofs.Lists.LiveLogins.{logins_live, logouts_end}
use Rattle.sbp_world.proofs.Lists.StatusPlaces.{AllPlacedFor}
use Rattle.sbp_world.proofs.Lists.RunLaws.{order_run_law}
use Rattle.sbp_world.proofs.Lists.StatusLaws.{status_of_run_law}
use Rattle.sbp_world.proofs.Lists.StatusLogins.{at_logins}

-- where lists are open as they should be, and statuses are sent and taken so
module _ (here : Under (WhereTameOrFew AreHere)) (placed : Under (WhereTameOrFew AllPlacedFor)) (line : ℕ) (run : Run) (r : IsRun run) (has : 0 < run.units) (small : run.units ≤ 4) (size : length run.start.disks ≡ run.units) (beside : IsTameOrFew (history_of line run)) where
  abbrev past : List Moment
  past = history_of line run

  so_far : OpenBefore line run run.entries
  so_far = open_before here placed line run r has small size beside

  inside : (i : ℕ) → i < run.initiators → i < length (after (beginning run) run.entries).world.initiators
  inside i b = subst (λ n. i < n) (sym (count_after run run.entries)) b

  logins : EachMoment (AtLogin (injectors past)) past
  logins =
      at_logins (injectors past) run.initiators past (run_inside line run r)
      (λ i b own. (sent_so here placed).after_lines line run r has small size so_far beside i (inside i b) own)
      (λ i b own. ((statuses here placed).after_lines line run r has small size so_far beside i (inside i b) own).taken)

  lawful : LawfulOnLists (injectors (history_of line run)) run.start.disks (history_of line run)
  lawful = record {
    order = order_run_law.after_lines line run r has small size so_far;
    execution = execution_run_law.after_lines line run r has small size so_far;
    status = (status_of_run_law (statuses here placed)).at_logins line run r has small size so_far beside logins;
  }

-- by what is known of the lines
module _ (short : ShortLaw) where
  pub sessions_law : LiveLaw
  sessions_law = logins_live short

  pub logouts_law : LogoutsLaw
  logouts_law = logouts_end short

  pub open_lists_law : OpenListsLaw
  open_lists_law = open_lists (here_beside short) (placed_beside short)

  pub lists_law : ListsLaw
  lists_law = record { lists = λ line run r has small size beside. lawful (here_beside short) (placed_beside short) line run r has small size beside }
