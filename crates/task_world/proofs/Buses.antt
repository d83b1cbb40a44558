-- What the bus does is what the world does by it, whatever the node.
use Rattle.std.proofs.Common.{◌≡◌, ◌∙◌, ap, ℕ}
use Rattle.sbp_bus.specs.Buses.{BusState}
use Rattle.sbp_bus.specs.Packets as bus
use Rattle.sbp_world.specs.Packets.{refused}
use Rattle.sbp_world.specs.Worlds.{bus_of, with_bus}
use Rattle.task_world.specs.Worlds.{TaskWorldState, in_task_world}

pub refused_on : (line number : ℕ) (view old : TaskWorldState) (new : BusState) → view ≡ old → new ≡ bus.refused line number (bus_of view.world) → in_task_world (with_bus new) view ≡ in_task_world (refused line number) old
refused_on line number view old new v e =
    ap (λ (b : BusState). in_task_world (with_bus b) view) e ∙ ap (λ (w : TaskWorldState). in_task_world (refused line number) w) v
