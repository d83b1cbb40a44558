-- As the target is called its operation, and one that it starts, is of a place of the initiator whose node it is for: in a run in which no initiator injected packets.
use Rattle.sbp_world.proofs.Words.Std.{arith, ◌∙◌, sym, ◌<◌}
use Rattle.sbp_world.proofs.Agents.Management.Still.{hist}
use Rattle.sbp_world.proofs.Lists.KeptTurns.{id_is, operation_is}
use Rattle.sbp_world.proofs.Lists.LiveJoined.{PlacedTurns}
use Rattle.sbp_world.proofs.Lists.LiveRuns.{goes_beside}
use Rattle.sbp_world.proofs.Lists.PlacedOps.{Written, asked_placed}

pub placed_turns : PlacedTurns
placed_turns units ready start past s later t lines more has g h h_now q q_now p i inside beside was bus told =
    let w = s.world in
    let calm = (goes_beside past s later t g i beside).0 in
    let wrote = q.more.wrote in
    let based = (p i inside).grown.based (goes_beside past s later t g i beside) in
    let known : Written (hist past w) i = record { asks = wrote.asks i inside; rings = wrote.rings i inside; wrote = wrote.wrote i inside; based = based } in
    let few : i < 8 = (let few = wrote.few in omega (arith, inside, few)) in
    record {
      placed = λ op is source. q.more.placed i inside calm based op (operation_is units ready has start w h i inside ∙ is) (source ∙ sym (id_is units ready has start w h i inside));
      asked = λ serial sent comes op a source. asked_placed units ready start w h i inside few calm (wrote.none i inside) known serial sent comes.found comes.to_is op a source;
    }
