-- Resets and seconds, and what nodes do at them.
use Rattle.std.specs.Prelude.{ℕ, ◌-◌, ◌==◌, if◌then◌else◌, List}
use Rattle.sbp_initiator.specs.declared.state.InitiatorState.{InitiatorState}
use Rattle.sbp_initiator.specs.Seeing.{see_step}
use Rattle.sbp_journal.specs.declared.note.Note.TheVariants as notes
use Rattle.sbp_journal.specs.Outgoings.{OutboxState, empty_outbox}
use Rattle.sbp_target.specs.Nodes.{NodeState}
use Rattle.sbp_target.specs.Nodes as target
use Rattle.sbp_target.specs.Receiving.{seen, ticked}
use Rattle.sbp_bus.specs.Generations.{id_of, reset_step, see_step as sees_latest}
use Rattle.sbp_world.specs.Handing.{handed_out}
use Rattle.sbp_world.specs.Worlds.{WorldState, initiator_at, with_initiator, with_note, with_target}

-- A bus reset: the bus has the next generation, with new IDs.
abbrev pub told_reset : WorldState → WorldState
told_reset w = with_note (notes.Reset w.generations.latest.generation) w

unfoldable pub reset_line : List ℕ → WorldState → WorldState
reset_line ids w = told_reset (record w { generations = reset_step ids w.generations })

-- ---- a node sees the latest reset

abbrev pub pair_of : target.Scene → OutboxState × NodeState
pair_of s = (s.outbox, s.node)

-- what the target hands out as it sees a generation with its ID in it, and what it is then
unfoldable pub target_sees : ℕ → ℕ → NodeState → OutboxState × NodeState
target_sees generation id node = pair_of (seen generation id (target.scene node empty_outbox)).1

-- and as a second passes
unfoldable pub target_ticks : NodeState → OutboxState × NodeState
target_ticks node = pair_of (ticked (target.scene node empty_outbox))

abbrev pub at_target : OutboxState × NodeState → WorldState → OutboxState × WorldState
at_target (outbox, node) w = (outbox, with_target node w)

abbrev pub at_initiator : ℕ → OutboxState × InitiatorState → WorldState → OutboxState × WorldState
at_initiator i (outbox, state) w = (outbox, with_initiator i state w)

-- A node learns of its ID in the latest generation; an initiator of the target's too.
abbrev pub target_learns : WorldState → OutboxState × WorldState
target_learns w =
    at_target (target_sees w.generations.latest.generation (id_of w.generations.latest 0) w.target) w

abbrev pub initiator_learns : ℕ → WorldState → OutboxState × WorldState
initiator_learns node w =
    at_initiator (node - 1) (see_step w.generations.latest.generation (id_of w.generations.latest node) (id_of w.generations.latest 0) empty_outbox (initiator_at w (node - 1))) w

unfoldable pub sees : ℕ → WorldState → OutboxState × WorldState
sees node w = if node == 0 then target_learns w else initiator_learns node w

abbrev pub handed_all : ℕ → OutboxState × WorldState → WorldState
handed_all node (outbox, w) = handed_out node 0 outbox w

abbrev pub told_seen : ℕ → WorldState → WorldState
told_seen node w = with_note (notes.Seen node w.generations.latest.generation) w

abbrev pub with_seen : ℕ → WorldState → WorldState
with_seen node w = record w { generations = sees_latest node w.generations }

-- its note, then what it hands out
unfoldable pub see_line : ℕ → WorldState → WorldState
see_line node w = handed_all node (sees node (with_seen node (told_seen node w)))

-- ---- a second passes

unfoldable pub tick_line : WorldState → WorldState
tick_line w = handed_all 0 (at_target (target_ticks w.target) (with_note notes.Tick w))
