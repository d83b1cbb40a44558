-- What a step of the target's management tells stands in order: what its effect cuts, clears and moves, then its decision, then its failure.
use Rattle.std.proofs.Common.{arith, refl, ℕ, zero, suc, ◌+◌, ◌≤◌, nat_lt, Bool, true, false, cond, List, [], ◌∷◌, ◌++◌, length, Option, Some, None, Result, Ok, Err}
use Rattle.async_packet.specs.Packet.{Packet, header_in}
use Rattle.label_table.specs.declared.judgement.Asked.{Asked}
use Rattle.label_table.specs.Bodies.{Body}
use Rattle.label_table.specs.Layer.{Layer, asking_step}
use Rattle.login_table.specs.Table.{Table}
use Rattle.mgmt_agent.specs.declared.decision.Decision.{Decision}
use Rattle.mgmt_agent.specs.declared.decision.Effect.{Effect}
use Rattle.mgmt_agent.specs.declared.decision.Effect.TheVariants as effects
use Rattle.mgmt_agent.specs.declared.decision.ManagerStep.{ManagerStep}
use Rattle.mgmt_agent.specs.declared.operation.Busy.{Busy}
use Rattle.mgmt_agent.specs.Machine as management
use Rattle.orb_layout.specs.declared.ask.Ask.{Ask}
use Rattle.orb_layout.specs.declared.ask.FailCause.{FailCause}
use Rattle.orb_layout.specs.Replies.{Answer, NoLabel}
use Rattle.sbp_journal.specs.declared.cause.CutCause.{CutCause}
use Rattle.sbp_journal.specs.declared.cause.CutCause.TheVariants as cuts
use Rattle.sbp_journal.specs.declared.side.Side.{Side}
use Rattle.sbp_journal.specs.declared.side.Side.TheVariants as sides
use Rattle.sbp_journal.specs.Outgoings.{OutboxState, empty_outbox}
use Rattle.sbp_target.specs.declared.purpose.Purpose.{Purpose}
use Rattle.sbp_target.specs.declared.purpose.Purpose.TheVariants as purposes
use Rattle.sbp_target.specs.Management.{ask_manager, cut_placed, decided_by, effect_by, failed_by, lose_operation, lost_in, manage, managed_in, managed_with, manager_asked, manager_body, manager_lost, manager_sent, place_in, tell_failed, with_manager}
use Rattle.sbp_target.specs.Nodes.{NodeState, Scene, scene}
use Rattle.sbp_target.specs.Sending.{sent_by}
use Rattle.sbp_target.specs.Sending as sending
use Rattle.sbp_target.specs.Serving.{answered, start, started_by}
use Rattle.sbp_target.specs.Units.{clear_from, clear_unit, cut_all}
use Rattle.sbp_world.proofs.Agents.UnitsKept.{In, KeepsCuts, cuts_all, cuts_placed}
use Rattle.turn_laws.proofs.OrderHanded.{InRanks, side_rank}
use Rattle.turn_laws.proofs.OrderRanks.{rises_above, rises_more, same_rank}

-- ---- an effect
-- cuts alone; units that are cleared, behind them
abbrev Cuts : List Side → Type 0
Cuts told = InRanks 0 told 0

abbrev Clears : Scene → Type 0
Clears s = InRanks 0 s.outbox.sides 1

keeps : KeepsCuts Cuts
keeps = record { tells = λ told place cause h. rises_more side_rank told (sides.Cut place cause) 0 0 h (same_rank 0) }

with_cuts : (s : Scene) → Cuts s.outbox.sides → Clears s
with_cuts s h = rises_above side_rank s.outbox.sides 0 0 1 (omega arith) h

clears : (unit : ℕ) (s : Scene) → Clears s → Clears (clear_unit unit s)
unfolding clear_unit
clears unit s h = rises_more side_rank s.outbox.sides (sides.Cleared unit) 0 1 h (same_rank 1)

clears_from : (left unit : ℕ) (s : Scene) → Clears s → Clears (clear_from left unit s)
unfolding clear_from
clears_from zero unit s h = h
clears_from (suc left) unit s h = clears_from left (unit + 1) (clear_unit unit s) (clears unit s h)

clears_if : (b : Bool) (unit : ℕ) (s : Scene) → Clears s → Clears (cond b (clear_unit unit s) s)
clears_if true unit s h = clears unit s h
clears_if false unit s h = h

-- up to the logins that it moves
abbrev Moves : Scene → Type 0
Moves s = InRanks 0 s.outbox.sides 2

moved : (m : ℕ) (s : Scene) → m ≤ 2 → InRanks 0 s.outbox.sides m → Moves s
moved m s e h = rises_above side_rank s.outbox.sides 0 m 2 e h

low : 0 ≤ 2
low = omega arith

module _ (node : NodeState) where
  abbrev here : Scene
  here = scene node empty_outbox

  nothing_told : In Cuts node.units node.logins here
  nothing_told = record { told = same_rank 0; units_are = refl; logins = refl }

  cut_every : (cause : CutCause) (unit : Option ℕ) → Cuts (cut_all cause unit here).outbox.sides
  cut_every cause unit = (cuts_all Cuts node.units node.logins keeps cause unit here nothing_told).told

  cut_one : (cause : CutCause) (place : Option ℕ) → Cuts (cut_placed place cause here).outbox.sides
  cut_one cause place = (cuts_placed Cuts node.units node.logins keeps place cause here nothing_told).told

  effect_moves : (effect : Effect) (subject : ℕ) → Moves (effect_by effect subject here)
  effect_moves effects.Nothing subject = low
  effect_moves (effects.Entered place None) subject = low
  effect_moves (effects.Entered place (Some login)) subject = (low, same_rank 2)
  effect_moves (effects.Back place) subject = (low, same_rank 2)
  effect_moves (effects.Left place) subject =
      let t = cut_placed (place_in place) cuts.Logout here in rises_more side_rank t.outbox.sides (sides.Left subject) 0 0 (cut_one cuts.Logout (place_in place)) low
  effect_moves (effects.Abort place orb) subject = low
  effect_moves (effects.AbortSet place) subject = moved 0 (cut_placed (place_in place) cuts.AbortSet here) low (cut_one cuts.AbortSet (place_in place))
  effect_moves (effects.UnitReset unit) subject =
      let t = cut_all cuts.UnitReset (Some unit) here in
      let b = nat_lt unit (length t.node.units) in
      moved 1 (cond b (clear_unit unit t) t) (omega arith) (clears_if b unit t (with_cuts t (cut_every cuts.UnitReset (Some unit))))
  effect_moves effects.TargetReset subject =
      let t = cut_all cuts.TargetReset None here in
      let left = length t.node.units in moved 1 (clear_from left 0 t) (omega arith) (clears_from left 0 t (with_cuts t (cut_every cuts.TargetReset None)))

  -- ---- its decision
  decided : (d : Option Decision) (effect : Effect) (source : ℕ) → InRanks 0 (decided_by d effect source here).outbox.sides 4
  unfolding decided_by
  decided None effect source = omega arith
  decided (Some d) effect source =
      let t = effect_by effect d.subject here in
      let side = sides.Managed source d.function d.subject d.status d.login in
      rises_above side_rank (t.outbox.sides ++ side ∷ []) 0 3 4 (omega arith) (rises_more side_rank t.outbox.sides side 0 2 (effect_moves effect d.subject) (omega arith))

-- ---- its failure, and that of a request that finds no label
abbrev pub Manages : OutboxState → Type 0
Manages o = InRanks 0 o.sides 4

fails : (source : ℕ) (cause : Option FailCause) (o : OutboxState) → Manages o → Manages (tell_failed source cause o)
fails source None o h = h
fails source (Some cause) o h = rises_more side_rank o.sides (sides.ManageFailed source cause) 0 4 h (same_rank 4)

lost_with : (source : ℕ) (s : Scene) (r : ManagerStep × (management.Machine × Table)) → Manages s.outbox → Manages (manager_lost source s r).outbox
lost_with source s (step, (m, t)) h = fails source step.failed s.outbox h

lost : (source : Option ℕ) (s : Scene) → Manages s.outbox → Manages (lost_in source s).outbox
lost None s h = h
lost (Some source) s h = lost_with source s (management.reply_step s.node.manager s.node.logins s.node.keys NoLabel) h

sent : (s : Scene) (source : ℕ) (r : Option Asked × Layer Purpose) → Manages s.outbox → Manages (manager_sent s.node (sent_by r s.outbox source)).outbox
unfolding lose_operation
sent s source (Some asked, layer) h = h
sent s source (None, layer) h = let t = scene (record s.node { layer = layer }) s.outbox in lost (management.source_in t.node.manager.operation) t h

asked : (body : Option Body) (source : ℕ) (s : Scene) → Manages s.outbox → Manages (manager_asked body source s).outbox
unfolding sending.request_step
asked None source s h = h
asked (Some body) source s h = sent s source (asking_step s.node.layer source body purposes.Management) h

asks : (source : ℕ) (ask : Ask) (s : Scene) → Manages s.outbox → Manages (ask_manager source ask s).outbox
unfolding ask_manager
asks source ask s h = asked (manager_body ask s.node.manager.outgoing) source s h

-- ---- a reply to the operation, and its start
managed_by : (node : NodeState) (source : ℕ) (r : ManagerStep × (management.Machine × Table)) → Manages (managed_with source (scene node empty_outbox) r).outbox
managed_by node source (step, (m, t)) =
    let d = decided_by step.decided step.effect source (scene (with_manager node (m, t)) empty_outbox) in
    asks source step.ask (failed_by source step.failed d) (fails source step.failed d.outbox (decided (with_manager node (m, t)) step.decided step.effect source))

manages_in : (node : NodeState) (source : Option ℕ) (answer : Answer) → Manages (managed_in source answer (scene node empty_outbox)).outbox
manages_in node None answer = omega arith
manages_in node (Some source) answer = managed_by node source (management.reply_step node.manager node.logins node.keys answer)

pub manages : (node : NodeState) (answer : Answer) → Manages (manage answer (scene node empty_outbox)).outbox
unfolding manage
manages node answer = manages_in node (management.source_in node.manager.operation) answer

started : (node : NodeState) (source : ℕ) (p : Packet) (bytes : List ℕ) (r : Result Ask Busy × management.Machine) → Manages (started_by source p bytes r (scene node empty_outbox)).outbox
unfolding sending.answer_step
started node source p bytes (Ok ask, m) = asks source ask (answered p bytes 0 [] (scene (record node { manager = m }) empty_outbox)) (let low : 0 ≤ 4 = omega arith in low)
started node source p bytes (Err busy, m) = omega arith

pub starts : (node : NodeState) (orb : ℕ) (p : Packet) (bytes : List ℕ) → Manages (start orb p bytes (scene node empty_outbox)).outbox
unfolding start
starts node orb p bytes = started node (header_in p).source p bytes (management.start_step node.manager (header_in p).source orb)
