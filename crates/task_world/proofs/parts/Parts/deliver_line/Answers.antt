use Rattle.std.proofs.Common.{◌≡◌, true, false}
use Rattle.sbp_world.proofs.Words.Std.{rules}
use Rattle.sbp_world.specs.Packets.{is_in_flight}
use Rattle.sbp_world.proofs.Delivered.{on_ok}
use Rattle.task_world.proofs.Delivered.{line_delivers, line_refused}
use Rattle.task_world.proofs.Buses.{refused_on}
use Rattle.task_world.proofs.parts.Parts.deliver_line.Goals as goal

pub returns-then-is_in_flight-clause-delivered : goal.returns-then-is_in_flight-clause-delivered
returns-then-is_in_flight-clause-delivered g c =
    let t : is_in_flight c.args.serial c.args.self.now.world ≡ true = search rules in
    on_ok c.deliver.result _ _ (λ d. line_delivers _ _ _ _ t d) c.deliver.ensures.delivers

pub returns-else-is_in_flight-clause-delivered : goal.returns-else-is_in_flight-clause-delivered
returns-else-is_in_flight-clause-delivered g c =
    let t : is_in_flight c.args.serial c.args.self.now.world ≡ false = search rules in
    on_ok c.refuse_packet.result _ _ (λ e. line_refused _ _ _ _ _ _ t (refused_on _ _ _ _ _ c.self.view_is e)) c.refuse_packet.ensures.step
