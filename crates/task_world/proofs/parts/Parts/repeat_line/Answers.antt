use Rattle.std.proofs.Common.{◌≡◌, true, false}
use Rattle.sbp_world.proofs.Words.Std.{rules}
use Rattle.sbp_world.specs.Packets.{may_repeat}
use Rattle.sbp_world.proofs.Delivered.{on_ok}
use Rattle.task_world.proofs.Delivered.{line_repeats, repeat_refused}
use Rattle.task_world.proofs.Buses.{refused_on}
use Rattle.task_world.proofs.parts.Parts.repeat_line.Goals as goal

pub returns-then-may_repeat-clause-repeated : goal.returns-then-may_repeat-clause-repeated
returns-then-may_repeat-clause-repeated g c =
    let t : may_repeat c.args.serial c.args.self.now.world ≡ true = search rules in
    on_ok c.deliver.result _ _ (λ d. line_repeats _ _ _ _ t d) c.deliver.ensures.delivers

pub returns-else-may_repeat-clause-repeated : goal.returns-else-may_repeat-clause-repeated
returns-else-may_repeat-clause-repeated g c =
    let t : may_repeat c.args.serial c.args.self.now.world ≡ false = search rules in
    on_ok c.refuse_packet.result _ _ (λ e. repeat_refused _ _ _ _ _ _ t (refused_on _ _ _ _ _ c.self.view_is e)) c.refuse_packet.ensures.step
