-- The laws leave no room. Two runs that begin with the same media, have the same numbered events and go as the same telling has it are, where
-- both are lawful, the same note by note; with injected packets too.
use Rattle.std.specs.Prelude.{◌≡◌, ℕ, Bool, false}
use Rattle.sbp_journal.specs.Run.{Run, events_of}
use Rattle.sbp_laws.specs.Lawful.{LawfulBut}
use Rattle.lawful_journal.specs.Telling.{Telling, AsTold}

-- A run is lawful for the initiators outside some set, as those that injected packets, all of whom are of the set of the telling, and goes as
-- it is told. A lawful run is so with any set; of runs with injection the events say who injects.
pub record IsLawfulAsTold (wild : ℕ → Bool) (telling : Telling) (run : Run) : Type 0 where
  pub others : ℕ → Bool
  pub within : (i : ℕ) → wild i ≡ false → others i ≡ false
  pub lawful : LawfulBut others run
  pub told : AsTold wild telling run

abbrev pub RunsAreDetermined : Type 0
RunsAreDetermined =
    (wild : ℕ → Bool) (telling : Telling) (run other : Run)
    → run.start ≡ other.start → events_of run ≡ events_of other
    → IsLawfulAsTold wild telling run → IsLawfulAsTold wild telling other → run.entries ≡ other.entries
