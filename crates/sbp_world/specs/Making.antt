-- How a run begins.
use Rattle.std.specs.Prelude.{ℕ, zero, suc, ◌+◌, Bool, true, false, List, [], ◌∷◌, ◌++◌}
use Rattle.packet_store.specs.Stored.{empty}
use Rattle.sbp_initiator.specs.declared.state.InitiatorState.{InitiatorState}
use Rattle.sbp_initiator.specs.Initiators.{new_state}
use Rattle.sbp_journal.specs.declared.note.Note.{Note}
use Rattle.sbp_journal.specs.declared.note.Note.TheVariants as notes
use Rattle.sbp_target.specs.Receiving.{new_node}
use Rattle.sbp_bus.specs.Generations.{new_generations}
use Rattle.sbp_bus.specs.Loads.{new_loads}
use Rattle.sbp_bus.specs.Places.{new_places}
use Rattle.sbp_bus.specs.Requests.{new_requests}
use Rattle.sbp_world.specs.Worlds.{WorldState}

-- initiators 0 and so on
unfoldable pub new_initiators : ℕ → Bool → List InitiatorState
new_initiators zero ready = []
new_initiators (suc n) ready = new_initiators n ready ++ new_state n ready ∷ []

-- the note of the line that begins the run
abbrev pub notes_begin : ℕ → Bool → Note
notes_begin initiators ready = notes.Begin initiators ready

-- how many initiators have a login from the start
abbrev pub ready_logins : ℕ → Bool → ℕ
ready_logins initiators true = initiators
ready_logins initiators false = 0

-- A run begins: no packet was sent, and where the initiators are ready they and the target have their logins.
unfoldable pub new_world : ℕ → Bool → ℕ → WorldState
new_world initiators ready units = record {
  generations = new_generations (initiators + 1);
  target = new_node units (ready_logins initiators ready);
  initiators = new_initiators initiators ready;
  store = empty;
  requests = new_requests;
  places = new_places (ready_logins initiators ready);
  loads = new_loads initiators;
  fresh = notes_begin initiators ready ∷ [];
}
