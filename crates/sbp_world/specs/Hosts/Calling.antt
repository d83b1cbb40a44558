-- What every initiator of every run of the machine is (NCITS 325-1998, initiators): what a list of its own calls makes of a new one, so that
-- the laws of an initiator over every list of its calls hold of it.
use Rattle.std.specs.Prelude.{◌≡◌, ◌<◌, ℕ, Bool, List}
use Rattle.sbp_initiator.specs.declared.state.InitiatorState.{InitiatorState}
use Rattle.sbp_world.specs.Runs.{Run, after as world_after, beginning}
use Rattle.sbp_world.specs.Worlds.{initiator_at}
use Rattle.sbp_initiator.specs.Histories.Laws.{AreCalls, Call, after}
use Rattle.sbp_world.specs.Hosts.Runs.{IsRun}

pub record IsCalled (ready : Bool) (i : ℕ) (s : InitiatorState) : Type 0 where
  pub calls : List Call
  pub fit : AreCalls calls
  pub is : (after i ready calls).1 ≡ s

abbrev pub CallsLaw : Type 0
CallsLaw = (run : Run) → IsRun run → (i : ℕ) → i < run.initiators → IsCalled run.ready i (initiator_at (world_after (beginning run) run.entries).world i)
