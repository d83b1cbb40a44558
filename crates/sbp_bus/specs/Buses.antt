-- What the bus holds, whatever its nodes are.
use Rattle.std.specs.Prelude.{◌≡◌, ℕ, ◌+◌, ◌≤◌, List, [], ◌∷◌, length, Option}
use Rattle.packet_store.specs.Stored.{Stored, empty}
use Rattle.sbp_journal.specs.declared.note.Note.{Note}
use Rattle.sbp_bus.specs.declared.loads.ListLoad.{ListLoad}
use Rattle.sbp_bus.specs.declared.places.Holder.{Holder}
use Rattle.sbp_bus.specs.Generations.{GenerationsState, new_generations}
use Rattle.sbp_bus.specs.Loads.{new_loads}
use Rattle.sbp_bus.specs.Places.{new_places}
use Rattle.sbp_bus.specs.Requests.{RequestsState, new_requests}

-- The generations and every node's ID in them; the packets; the requests under way, by node, peer and label; who has each place of the
-- target's logins, and which list is open there; what the budget counts; and the notes of the line, the latest one first.
pub record BusState : Type 0 where
  pub generations : GenerationsState
  pub store : Stored
  pub requests : RequestsState
  pub places : List (Option Holder)
  pub loads : List ListLoad
  pub fresh : List Note

-- A bus has a target, and five nodes at most; the last serial is that of the store.
pub record IsSound (generations : GenerationsState) (store : Stored) (last : ℕ) : Type 0 where
  pub some : 1 ≤ length generations.seen
  pub few : length generations.seen ≤ 5
  pub counted : last ≡ store.last

-- At the start no packet was sent; so many initiators have a login, and the note of the line is this one.
abbrev pub new_bus : (initiators logins : ℕ) → Note → BusState
new_bus initiators logins note = record {
  generations = new_generations (initiators + 1);
  store = empty;
  requests = new_requests;
  places = new_places logins;
  loads = new_loads initiators;
  fresh = note ∷ [];
}

abbrev pub with_note : Note → BusState → BusState
with_note note b = record b { fresh = note ∷ b.fresh }

-- a line begins without notes
abbrev pub without_notes : BusState → BusState
without_notes b = record b { fresh = [] }
