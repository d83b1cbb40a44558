-- How long an answer is while it is written (RBC; NCITS 325-1998, data buffers and page tables): it has as many bytes as the buffer of the ORB, and not all of them were written. Of each initiator
-- that injected no packets, at each place of a run before which lists were open as they should be.
use Rattle.std.specs.Prelude.{◌≡◌, ◌<◌, ℕ, List, length}
use Rattle.command_agent.specs.declared.phase.Phase.TheVariants as phases
use Rattle.page_table.specs.Buffer.{bytes_of}
use Rattle.sbp_journal.specs.Run.{Moment}
use Rattle.sbp_world.specs.Worlds.{WorldState}
use Rattle.sbp_world.specs.Lists.Closes.{Under}
use Rattle.sbp_world.specs.Lists.Needs.{IsCalm, initiator_in, machine_at}

abbrev pub AreWhole : List Moment → WorldState → Type 0
AreWhole past w =
    (place : ℕ) → place < 8 → IsCalm past (initiator_in w place) → (machine_at w place).phase ≡ phases.Answering → ((machine_at w place).written < length (machine_at w place).answer) × (length (machine_at w place).answer ≡ bytes_of (machine_at w place).segments)

abbrev pub AnswersWholeLaw : Type 0
AnswersWholeLaw = Under AreWhole
