-- A law of turns of every run that another one brings, or two.
use Rattle.std.proofs.Common.{List, []}
use Rattle.rbc_disk.specs.Disk.{Disk}
use Rattle.sbp_journal.specs.Run.{Moment}
use Rattle.sbp_laws.specs.Turns.{EachTurn, Turn}
use Rattle.sbp_world.specs.Histories.{history_of}
use Rattle.turn_laws.specs.Runs.{OfEveryRun, history_between}
use Rattle.sbp_laws.proofs.EachTurns.{with_turns}

-- a law of turns that another one brings
each_turn : (L M : Turn → Type 0) → ((t : Turn) → L t → M t) → (past : List Moment) → EachTurn L past → EachTurn M past
each_turn L M brings_it past h = with_turns L L M (λ t l k. brings_it t l) past [] h h

pub brought_law : (L M : List Disk → Turn → Type 0) → ((start : List Disk) (t : Turn) → L start t → M start t) → OfEveryRun (λ start past. EachTurn (L start) past) → OfEveryRun (λ start past. EachTurn (M start) past)
brought_law L M brings_it law = record {
  after_lines = λ line run is some most size. let start = run.start.disks in each_turn (L start) (M start) (brings_it start) (history_of line run) (law.after_lines line run is some most size);
  between = λ line run is some most size next deliveries told may.
      let start = run.start.disks in
      each_turn (L start) (M start) (brings_it start) (history_between line run next deliveries told) (law.between line run is some most size next deliveries told may);
}

pub joined_law : (L K M : List Disk → Turn → Type 0) → ((start : List Disk) (t : Turn) → L start t → K start t → M start t) → OfEveryRun (λ start past. EachTurn (L start) past) → OfEveryRun (λ start past. EachTurn (K start) past) → OfEveryRun (λ start past. EachTurn (M start) past)
joined_law L K M brings_it law other = record {
  after_lines = λ line run is some most size.
      let start = run.start.disks in
      with_turns (L start) (K start) (M start) (brings_it start) (history_of line run) [] (law.after_lines line run is some most size) (other.after_lines line run is some most size);
  between = λ line run is some most size next deliveries told may.
      let start = run.start.disks in
      with_turns (L start) (K start) (M start) (brings_it start) (history_between line run next deliveries told) [] (law.between line run is some most size next deliveries told may) (other.between line run is some most size next deliveries told may);
}
