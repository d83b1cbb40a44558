-- The words bring what they are to bring.
use Rattle.sbp_command.proofs.Drilling.{serves_decode, serves_drill, serves_queue, serves_rom, serves_run, serves_tasks}
use Rattle.sbp_command.proofs.top.sbp2.Goals as goal

pub returns-then-is_alone : goal.returns-then-is_alone
returns-then-is_alone g c = serves_run _ c.run_script.result _ _ (c.is_alone.ensures.0 c.if-is_alone.true) c.run_script.ensures

pub returns-then-is_alone-2 : goal.returns-then-is_alone-2
returns-then-is_alone-2 g c = serves_decode _ c.list_packets.result _ _ (c.is_alone-else-is_alone.ensures.0 c.if-is_alone-2.true) c.list_packets.ensures

pub returns-then-is_alone-3 : goal.returns-then-is_alone-3
returns-then-is_alone-3 g c = serves_rom _ c.list_rom.result _ _ (c.is_alone-else-is_alone-2.ensures.0 c.if-is_alone-3.true) c.list_rom.ensures

pub returns-then-is_alone-4 : goal.returns-then-is_alone-4
returns-then-is_alone-4 g c = serves_tasks _ c.run_tasks.result _ _ (c.is_alone-else-is_alone-3.ensures.0 c.if-is_alone-4.true) c.run_tasks.ensures

pub returns-then-is_alone-5 : goal.returns-then-is_alone-5
returns-then-is_alone-5 g c = serves_queue _ c.run_queue.result _ _ (c.is_alone-else-is_alone-4.ensures.0 c.if-is_alone-5.true) c.run_queue.ensures

pub returns-in-Some : goal.returns-in-Some
returns-in-Some g c = serves_drill _ c.in-Some.drill.seed c.in-Some.drill.count c.run_drill.result _ _ c.in-Some.ensures.some (c.run_drill.ensures (g.S.Source.left c.args.source.now) (g.S.Source.faults c.args.source.now))
