-- What stays true of the packets that were sent, in every run: their bytes, the requests that they answer, and the histories before them. So
-- what a response carried is so by every later history.
use Rattle.std.specs.Prelude.{◌≡◌, ◌≤◌, ℕ, List, ◌++◌}
use Rattle.sbp_journal.specs.Run.{Moment}
use Rattle.sbp_journal.specs.Wire.{terms}
use Rattle.sbp_laws.specs.CarriedBytes.{before_sent}
use Rattle.sbp_world.specs.Histories.{history_of}
use Rattle.sbp_world.specs.Runs.{Run}
use Rattle.sbp_world.specs.Hosts.Runs.{IsRun}

pub record Remains (before past : List Moment) : Type 0 where
  pub count : (terms before).count ≤ (terms past).count
  pub sent : (serial : ℕ) → serial ≤ (terms before).count → (terms past).sent serial ≡ (terms before).sent serial
  pub answers : (serial : ℕ) → serial ≤ (terms before).count → (terms past).answers serial ≡ (terms before).answers serial
  pub before_it : (serial : ℕ) → serial ≤ (terms before).count → before_sent past serial ≡ before_sent before serial

-- from each moment of a run on
pub record RemainingLaw : Type 0 where
  pub remains : (line : ℕ) (run : Run) → IsRun run → (later before : List Moment) → later ++ before ≡ history_of line run → Remains before (history_of line run)
