-- Whose DOORBELL it is (NCITS 325-1998, fetch agent registers): of an agent that is out of RESET, be it DEAD, the login of its place is live and of the node of the initiator that has the place. So no login bars a write of
-- this node at its DOORBELL.
use Rattle.std.specs.Prelude.{◌≡◌, ◌<◌, ◌+◌, ◌%◌, ◌^◌, ℕ, suc, false, List}
use Rattle.async_packet.specs.declared.packet.Header.{Header}
use Rattle.async_packet.specs.Packet.{write_quadlet}
use Rattle.command_agent.specs.Machine.{state_in}
use Rattle.command_agent.specs.Steps.{is_reset}
use Rattle.mgmt_agent.specs.Decisions.{agent_base}
use Rattle.sbp_journal.specs.Run.{Moment}
use Rattle.sbp_journal.specs.Wire.{terms}
use Rattle.sbp_laws.specs.Packets.{id_for}
use Rattle.sbp_target.specs.Serving.{is_barred}
use Rattle.sbp_world.specs.Lists.Closes.{Always}
use Rattle.sbp_world.specs.Lists.Needs.{initiator_in, machine_at}
use Rattle.sbp_world.specs.Worlds.{WorldState}

abbrev pub AreBellsFree : List Moment → WorldState → Type 0
AreBellsFree past w =
    (place : ℕ) → place < 8 → is_reset (state_in (machine_at w place).phase) ≡ false → (header : Header) (value : ℕ) → header.source ≡ id_for (terms past) 0 (suc (initiator_in w place)) → is_barred w.target (write_quadlet header ((agent_base place + 0x10) % 2 ^ 48) value) ≡ false

abbrev pub BellsFreeLaw : Type 0
BellsFreeLaw = Always AreBellsFree
