-- In each turn of every run the effects stand in order, and the packets behind them.
use Rattle.std.proofs.Common.{arith, subst, ℕ, suc, ◌<◌, ◌≤◌, Bool, List, [], Result}
use Rattle.label_table.specs.declared.reply.Stale.{Stale}
use Rattle.rbc_disk.specs.Disk.{Disk}
use Rattle.sbp_bus.specs.Generations.{id_of}
use Rattle.sbp_bus.specs.Packets.{end_note, judged_note}
use Rattle.sbp_initiator.specs.Effects.{Turn as Called}
use Rattle.sbp_journal.specs.Run.{Moment, said}
use Rattle.sbp_journal.specs.declared.cause.Judged.{Judged}
use Rattle.sbp_journal.specs.declared.note.Note.TheVariants as notes
use Rattle.sbp_journal.specs.Outgoings.{OutboxState}
use Rattle.sbp_laws.specs.ActionLaw.{Ordered}
use Rattle.sbp_laws.specs.Turns.{turn}
use Rattle.sbp_target.specs.Nodes as target
use Rattle.sbp_world.specs.Worlds.{Scene, WorldState, initiator_at}
use Rattle.sbp_target.proofs.Histories.Calling.{Good}
use Rattle.sbp_world.proofs.Agents.Management.Holding.{good_of}
use Rattle.sbp_world.proofs.Agents.Management.Still.{hist}
use Rattle.turn_laws.specs.Ordered.{OrderedLaw}
use Rattle.turn_laws.proofs.Calls.{Cases}
use Rattle.turn_laws.proofs.Handed.{handed}
use Rattle.turn_laws.proofs.OrderHanded.{InRanks, handed_in_order}
use Rattle.turn_laws.proofs.OrderOwn.{expire_in_ranks, hears_in_ranks, sees_in_ranks}
use Rattle.turn_laws.proofs.OrderRanks.{rises_in_order}
use Rattle.turn_laws.proofs.OrderSides.{delivery_in_ranks, lapse_in_ranks, second_in_ranks, sight_in_ranks}
use Rattle.turn_laws.proofs.Pass.{of_every_run}
use Rattle.turn_laws.proofs.Places.{Place}

-- a turn that a packet begins, however it was judged
judged_ordered : (past : List Moment) (serial node : ℕ) (outbox : OutboxState) (w : WorldState) (top : ℕ) → top ≤ 11 → InRanks 0 outbox.sides top → (judged : Judged) → Ordered (turn past (said (judged_note serial judged)) (handed node 0 outbox w))
judged_ordered past serial node outbox w top few h judged = handed_in_order past (said (judged_note serial judged)) node 0 outbox w top few h

ends_ordered : (past : List Moment) (done : Bool) → Ordered (turn past (said (end_note done)) [])
ends_ordered past done = rises_in_order past (said (end_note done)) [] (omega arith)

seven : 7 ≤ 11
seven = omega arith

ten : 10 ≤ 11
ten = omega arith

module _ (units ready : ℕ) (has : 0 < units) (start : List Disk) where
  good : (past : List Moment) (s : Scene) → Place units ready start past s → Good s.world.target
  good past s here = good_of units ready here.holds.calls s.world.target has here.holds.made

  ordered_cases : Cases units ready start Ordered
  ordered_cases = record {
    heard = λ past s serial again run one found zero_to may told here behind judged.
        judged_ordered (hist past s.world) serial 0 _ _ 7 seven (delivery_in_ranks s.world.target (good past s here) one run s.media may) _;
    heard_own = λ past s serial again one i found to_is inside told here behind judged.
        let own = here.calls i inside in
        judged_ordered (hist past s.world) serial (suc i) _ _ 10 ten (hears_in_ranks own.ready i (initiator_at s.world i) own.called one.generation one.bytes) _;
    late = λ past s serial request done t found node_is e told here behind judged.
        handed_in_order (hist past s.world) (said (notes.TimedOut serial)) 0 0 t.outbox _ 7 seven
        (subst (λ (x : Result (Unit {0}) Stale × target.Scene). InRanks 0 x.1.outbox.sides 7) e (lapse_in_ranks s.world.target (good past s here) request.peer request.label));
    late_own = λ past s serial request i outbox state found node_is inside e told here behind judged.
        let own = here.calls i inside in
        handed_in_order (hist past s.world) (said (notes.TimedOut serial)) (suc i) 0 outbox _ 10 ten
        (subst (λ (x : Bool × Called). InRanks 0 x.1.0.sides 10) e (expire_in_ranks own.ready i (initiator_at s.world i) own.called request.label));
    sees = λ past s told here behind judged.
        let g = s.world.generations.latest in
        handed_in_order (hist past s.world) (said (notes.Seen 0 g.generation)) 0 0 _ _ 7 seven (sight_in_ranks g.generation (id_of g 0) s.world.target);
    sees_own = λ past s i inside told here behind judged.
        let g = s.world.generations.latest in
        handed_in_order (hist past s.world) (said (notes.Seen (suc i) g.generation)) (suc i) 0 _ _ 10 ten (sees_in_ranks g.generation (id_of g (suc i)) (id_of g 0) (initiator_at s.world i));
    ticks = λ past s told here behind judged. handed_in_order (hist past s.world) (said notes.Tick) 0 0 _ _ 7 seven (second_in_ranks s.world.target);
    ends = λ past s done here behind. ends_ordered (hist past s.world) done;
    acts = λ past s line i action outbox state inside e told here behind. tt;
    lines = λ past s line event rest behind brings fresh here there. tt;
    begins = λ line initiators is_ready. tt;
  }

pub ordered_law : OrderedLaw
ordered_law = of_every_run (λ start. Ordered) (λ units ready start has. ordered_cases units ready has start)
