-- How much is left of a run, as a number that falls with each delivery: the requests yet to be made, each with its response, and the packets in flight.
use Rattle.std.specs.Prelude.{ℕ, ◌+◌, ◌*◌, ◌-◌, List, [], ◌∷◌, length}
use Rattle.sbp_journal.specs.Run.{Moment}
use Rattle.sbp_journal.specs.Wire.{terms}
use Rattle.sbp_initiator.specs.declared.state.InitiatorState.{InitiatorState}
use Rattle.sbp_target.specs.RequestsLeft.{node_left}
use Rattle.sbp_world.specs.Counting.Rooms.{chunks_in, rooms, tables_of}
use Rattle.sbp_world.specs.Counting.Wire.{is_unjudged, wire}
use Rattle.sbp_world.specs.Worlds.{WorldState}

-- the quadlets of the target's ROM that initiators may still ask for, each 256 at most
abbrev pub quadlets_left : List InitiatorState → ℕ
quadlets_left [] = 0
quadlets_left (state ∷ states) = (256 - length state.quads) + quadlets_left states

-- the requests that the nodes are yet to make of themselves
abbrev pub requests_left : List Moment → WorldState → ℕ
requests_left past w = node_left (tables_of past w) (chunks_in past w) w.target + rooms past w past + quadlets_left w.initiators

-- and with the packets in flight, of which each is one delivery, and a request brings a response: the deliveries that may follow
abbrev pub left : List Moment → WorldState → ℕ
left past w = wire (is_unjudged (terms past)) w + 2 * requests_left past w
