-- The login that an initiator's host has by the run, and its response buffers, are the initiator's own (NCITS 325-1998, login response): the response that its
-- session carries, also while it is held and while it is stuck, is the login of its host; and the buffers in its places of management hold what the writes to
-- them left that it got.
use Rattle.std.specs.Prelude.{◌≡◌, ◌<◌, ℕ, List, [], ◌∷◌, ◌++◌, length, map, slice_index_or, Option, Some}
use Rattle.bus_memory.specs.Memory.{Memory, place_at}
use Rattle.sbp_world.specs.Hosts.Runs.{IsRun, more_deliveries}
use Rattle.orb_layout.specs.declared.login.LoginResponse.{LoginResponse}
use Rattle.rbc_disk.specs.Runs.{Told}
use Rattle.sbp_initiator.specs.declared.state.InitiatorState.{InitiatorState}
use Rattle.sbp_journal.specs.Run.{Moment, asked, said}
use Rattle.sbp_laws.specs.Hosts.{host_at}
use Rattle.sbp_session.specs.Laws.{carried}
use Rattle.sbp_world.specs.Histories.{history_of}
use Rattle.sbp_world.specs.Runs.{Run, after, beginning}
use Rattle.sbp_world.specs.Settling.{MayAll, after_all}
use Rattle.sbp_world.specs.Worlds.{begun, initiator_at}

-- response buffers are those in the places of a memory
pub record AreBuffers (responses : List (List ℕ)) (m : Memory) : Type 0 where
  pub size : length responses ≡ 2
  pub each : (place : ℕ) → place < 2 → slice_index_or responses place [] ≡ (place_at m place).response

pub record HoldsLogin (past : List Moment) (i : ℕ) (s : InitiatorState) : Type 0 where
  pub login : (response : LoginResponse) → carried s.seat ≡ Some response → (host_at past i).login ≡ response
  pub responses : AreBuffers (host_at past i).responses s.lists.memory

-- After every line of every run, and behind each delivery of a line that may follow.
pub record HoldingLaw : Type 0 where
  pub after_lines : (line : ℕ) (run : Run) → IsRun run → (i : ℕ) → i < run.initiators → HoldsLogin (history_of line run) i (initiator_at (after (beginning run) run.entries).world i)
  pub between : (line : ℕ) (run : Run) → IsRun run → (next : ℕ) (most : Option ℕ) (told : List (Option Told)) → MayAll told (begun (after (beginning run) run.entries)) → (i : ℕ) → i < run.initiators → (let w = (after_all told (begun (after (beginning run) run.entries))).world in HoldsLogin (map said w.fresh ++ asked next (more_deliveries most) ∷ history_of line run) i (initiator_at w i))
