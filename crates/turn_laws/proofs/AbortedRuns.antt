-- In every run in which no initiator injected packets, or few logins were given, an ORB of an initiator that injected none ends as aborted only where an abort of it stands before.
use Rattle.std.proofs.Common.{◌≡◌, ◌<◌, ◌≤◌, ℕ, List, [], length, Option}
use Rattle.rbc_disk.specs.Disk.{Disk}
use Rattle.rbc_disk.specs.Runs.{Told}
use Rattle.sbp_journal.specs.Run.{Moment}
use Rattle.sbp_laws.specs.Aborts.{AbortsStand}
use Rattle.sbp_laws.specs.Turns.{EachTurn, Turn}
use Rattle.sbp_world.specs.Histories.{history_of, moments_behind}
use Rattle.sbp_world.specs.Hosts.Runs.{IsRun, more_deliveries}
use Rattle.sbp_world.specs.Making.{ready_logins}
use Rattle.sbp_world.specs.Runs.{Run, after, beginning}
use Rattle.sbp_world.specs.Settling.{MayAll}
use Rattle.sbp_world.specs.Worlds.{WorldState, begun}
use Rattle.sbp_world.proofs.Common.{untrue}
use Rattle.sbp_world.proofs.Lists.Clauses.{open_lists_law}
use Rattle.sbp_world.proofs.Lists.Courses.{EveryPlace, Keeps, at_between, at_lines, more_than_one}
use Rattle.sbp_world.proofs.Lists.Fair.{told_everywhere}
use Rattle.sbp_world.proofs.Lists.ListsProved.{closing}
use Rattle.sbp_world.proofs.Lists.LiveRuns.{goes_tame_or_few}
use Rattle.sbp_world.proofs.Lists.ManagedGots.{kit_everywhere}
use Rattle.sbp_world.proofs.Lists.ShortLines.{short_law}
use Rattle.sbp_world.proofs.Lists.StillRuns.{ground_everywhere}
use Rattle.turn_laws.specs.Aborted.{AbortedLaw, AbortsAsNamed}
use Rattle.turn_laws.specs.Ends.{EndsWhereDue}
use Rattle.turn_laws.specs.Runs.{OfEveryRun, history_between}
use Rattle.turn_laws.proofs.AbortCourse.{AbortPlace, AbortTurn, AbortedSo, turn_aborted}
use Rattle.turn_laws.proofs.AbortHistory.{AreMarked}
use Rattle.turn_laws.proofs.AbortRuns.{MarkedBefore, TurnFacts, all_marked}
use Rattle.turn_laws.proofs.Aborts.{aborts_law, facts_law, marks_law, rooted_law}
use Rattle.turn_laws.proofs.AgentsUnrun.{on_everywhere}
use Rattle.turn_laws.proofs.EachTurns.{joined_law}
use Rattle.turn_laws.proofs.Ends.{ends_law}

-- ---- what is known of each turn, and at each place
abbrev Marks : List Disk → Turn → Type 0
Marks start t = TurnFacts start t × MarkedBefore start t

abbrev Ends : List Disk → Turn → Type 0
Ends start t = EndsWhereDue start t × AbortsStand start t

turns_law : OfEveryRun (λ start past. EachTurn (AbortTurn start) past)
turns_law =
    joined_law Marks Ends AbortTurn (λ start t x y. record { facts = x.0; marked = x.1; ends = y.0; stands = y.1 }) (joined_law TurnFacts MarkedBefore Marks (λ start t x y. (x, y)) facts_law marks_law)
    (joined_law EndsWhereDue AbortsStand Ends (λ start t x y. (x, y)) ends_law aborts_law)

marked_law : OfEveryRun AreMarked
marked_law = record {
  after_lines = λ line run r has small size. all_marked run.start.disks (history_of line run) (rooted_law.after_lines line run r has small size) (facts_law.after_lines line run r has small size);
  between = λ line run r has small size next most told may.
      all_marked run.start.disks (history_between line run next most told) (rooted_law.between line run r has small size next most told may) (facts_law.between line run r has small size next most told may);
}

places_everywhere : EveryPlace AbortPlace
places_everywhere = record {
  after_lines = λ line run r has small size so_far. record {
    ground = (ground_everywhere open_lists_law).after_lines line run r has small size so_far;
    on = on_everywhere.after_lines line run r has small size so_far;
    marked = marked_law.after_lines line run r has small size;
    kit = (kit_everywhere short_law).after_lines line run r has small size so_far;
    told = told_everywhere.after_lines line run r has small size so_far;
    turns = turns_law.after_lines line run r has small size;
  };
  between = λ line run r has small size next most told may so_far. record {
    ground = (ground_everywhere open_lists_law).between line run r has small size next most told may so_far;
    on = on_everywhere.between line run r has small size next most told may so_far;
    marked = marked_law.between line run r has small size next most told may;
    kit = (kit_everywhere short_law).between line run r has small size next most told may so_far;
    told = told_everywhere.between line run r has small size next most told may so_far;
    turns = turns_law.between line run r has small size next most told may;
  };
}

-- as a run begins no abort stands
first_aborted : (units ready : ℕ) (has : 0 < units) (start : List Disk) (line : ℕ) (run : Run) → AbortedSo units ready has start (moments_behind line run []) (beginning run).world
first_aborted units ready has start line run beside = (λ p address b e calm. untrue e, (tt, (tt, tt)))

all_aborted : (units ready : ℕ) (has : 0 < units) (start : List Disk) → Keeps units ready start (AbortPlace start) (AbortedSo units ready has start)
all_aborted units ready has start past s later t lines more g h h_now q q_now p beside = turn_aborted units ready has start past s later t g h h_now q q_now beside (p (goes_tame_or_few past s later t g beside))

module _ (line : ℕ) (run : Run) (r : IsRun run) (has : 0 < run.units) (small : run.units ≤ 4) (size : length run.start.disks ≡ run.units) where
  abbrev ready : ℕ
  ready = ready_logins run.initiators run.ready

  abbrev P : List Moment → WorldState → Type 0
  P = AbortedSo run.units ready has run.start.disks

  abbrev keeps : Keeps run.units ready run.start.disks (AbortPlace run.start.disks) P
  keeps = all_aborted run.units ready has run.start.disks

  abbrev first : P (moments_behind line run []) (beginning run).world
  first = first_aborted run.units ready has run.start.disks line run

  pub named_after : AbortsAsNamed run.start.disks (history_of line run)
  named_after beside =
      (at_lines AbortPlace P places_everywhere line run r.few has small size keeps first r (closing.before open_lists_law line run r has small size beside) beside).1

  pub named_between : (next : ℕ) (most : Option ℕ) (told : List (Option Told)) → MayAll told (begun (after (beginning run) run.entries)) → AbortsAsNamed run.start.disks (history_between line run next most told)
  named_between next most told may beside =
      (at_between AbortPlace P places_everywhere line run r.few has small size keeps first r next most told may
      (closing.between open_lists_law line run r has small size next (more_deliveries most) (more_than_one most) told may beside) beside).1

pub aborted_law : AbortedLaw
aborted_law = record {
  after_lines = λ line run r has small size. named_after line run r has small size;
  between = λ line run r has small size next most told may. named_between line run r has small size next most told may;
}
