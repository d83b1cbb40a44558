-- What follows a step of an agent, a cut and a decision leave agents sound.
use Rattle.std.proofs.Common.{arith, ◌≡◌, sym, ap, ◌∙◌, subst, ℕ, zero, suc, ◌+◌, nat_eq, nat_lt, Bool, true, false, cond, List, length, slice_index_or, Option, Some, None}
use Rattle.std.proofs.lemmas.Bool.Decides.{nat_tests}
use Rattle.std.proofs.lemmas.List.{set_past}
use Rattle.async_packet.specs.Labels.{LabelParts}
use Rattle.label_table.specs.Layer.{Layer}
use Rattle.login_table.specs.declared.login.Login.{Login}
use Rattle.mgmt_agent.specs.declared.decision.Decision.{Decision}
use Rattle.mgmt_agent.specs.declared.decision.Effect.{Effect}
use Rattle.mgmt_agent.specs.declared.decision.Effect.TheVariants as effects
use Rattle.orb_layout.specs.declared.ask.FailCause.{FailCause}
use Rattle.orb_layout.specs.declared.ask.FailCause.TheVariants as causes
use Rattle.command_agent.specs.declared.step.AgentStep.{AgentStep}
use Rattle.command_agent.specs.Machine as machines
use Rattle.command_agent.specs.Machine.{Machine}
use Rattle.command_agent.specs.Steps.{abort_step, lost_step}
use Rattle.command_agent.proofs.Sound.{calls_keep_sound}
use Rattle.sbp_journal.specs.declared.cause.CutCause.{CutCause}
use Rattle.sbp_journal.specs.declared.cause.CutCause.TheVariants as cuts
use Rattle.sbp_journal.specs.Outgoings.{OutboxState}
use Rattle.sbp_target.specs.declared.desk.Desk.{Desk}
use Rattle.sbp_target.specs.declared.purpose.Purpose.{Purpose}
use Rattle.sbp_target.specs.declared.purpose.Purpose.TheVariants as purposes
use Rattle.sbp_target.specs.Agents.{ahead_sent, cut, dropped_by, follow, main_sent, noted, promoted_by, sent_to, without_ahead}
use Rattle.sbp_target.specs.Desks.{new_desk, promoted_desk, reset_desk}
use Rattle.sbp_target.specs.Management.{cut_placed, decided_by, effect_by, place_in}
use Rattle.sbp_target.specs.Nodes.{NodeState, Scene, scene, desk_at, with_agent, with_desk}
use Rattle.sbp_target.specs.Replies.{announced_by}
use Rattle.sbp_target.specs.Sending.{request_step}
use Rattle.sbp_target.specs.SoundAgents.{AgentsAreSound}
use Rattle.sbp_target.specs.Units.{clear_from, clear_unit, cut_all, unsolicited_by}
use Rattle.sbp_target.specs.Histories.Moves.{Announced, Behind, asks_ahead, asks_main, loses, pushes, stay, withholds}
use Rattle.sbp_target.proofs.Histories.Following.{other_place, same_place}
use Rattle.sbp_target.proofs.Histories.Moved.{announced_moves, behind_moves}
use Rattle.sbp_target.proofs.Histories.Seats.{split}
use Rattle.sbp_target.proofs.Histories.Views.{cuts_keep, kept, placed_keep}
use Rattle.sbp_target.proofs.Requests.Frames.{desk_here, desk_there}

abbrev pub At : Scene → Type 0
At s = AgentsAreSound s.node

-- ---- another desk stands in a place
pub seats : (node : NodeState) (place : ℕ) (d : Desk) → machines.IsSound d.agent → AgentsAreSound node → AgentsAreSound (with_desk node place d)
seats node place d sound h p = split (nat_lt place (length node.desks)) (machines.IsSound (desk_at (with_desk node place d) p).agent) inside beyond
  where
    inside : nat_lt place (length node.desks) ≡ true → machines.IsSound (desk_at (with_desk node place d) p).agent
    inside e =
        split (nat_eq p place) (machines.IsSound (desk_at (with_desk node place d) p).agent)
        (λ f.
        let same = same_place p place f in
        let here = ap (λ (k : ℕ). desk_at (with_desk node place d) k) same ∙ desk_here node place d (grind (arith, nat_tests, e)) in
        subst (λ (x : Desk). machines.IsSound x.agent) (sym here) sound)
        (λ f. subst (λ (x : Desk). machines.IsSound x.agent) (sym (desk_there node place d p (other_place p place f))) (h p))

    beyond : nat_lt place (length node.desks) ≡ false → machines.IsSound (desk_at (with_desk node place d) p).agent
    beyond e =
        let same = set_past node.desks place d (grind (arith, nat_tests, e)) in
        subst (λ (all : List Desk). machines.IsSound (slice_index_or all p new_desk).agent) (sym same) (h p)

-- ---- what follows a step of an agent
drops : (dead : Option FailCause) (place : ℕ) (node : NodeState) → AgentsAreSound node → AgentsAreSound (dropped_by dead place node)
unfolding without_ahead
drops None place node h = h
drops (Some cause) place node h = seats node place (record (desk_at node place) { ahead = None }) (h place) h

promotes : (b : Bool) (place : ℕ) (node : NodeState) → AgentsAreSound node → AgentsAreSound (promoted_by b place node)
promotes false place node h = h
promotes true place node h = seats node place (promoted_desk (desk_at node place)) (h place) h

notes : (place : ℕ) (step : AgentStep) (s : Scene) → At s → At (noted place step s)
unfolding noted
notes place step s h = promotes step.promoted place (dropped_by step.dead place s.node) (drops step.dead place s.node h)

main_left : (place peer : ℕ) (node : NodeState) (r : Option LabelParts × (Layer Purpose × OutboxState)) → AgentsAreSound node → At (main_sent place peer node r).1
main_left place peer node (Some label, (layer, outbox)) h = seats node place (record (desk_at node place) { main = Some (sent_to peer label) }) (h place) h
main_left place peer node (None, (layer, outbox)) h = h

ahead_left : (place peer : ℕ) (node : NodeState) (r : Option LabelParts × (Layer Purpose × OutboxState)) → AgentsAreSound node → At (ahead_sent place peer node r).1
ahead_left place peer node (Some label, (layer, outbox)) h = seats node place (record (desk_at node place) { ahead = Some (sent_to peer label) }) (h place) h
ahead_left place peer node (None, (layer, outbox)) h = h

behind : (place : ℕ) (login : Login) (s t : Scene) → Behind place login s t → At s → At t
behind place login _ _ (loses which s e) h =
    let m = (desk_at s.node place).agent in
    let r = lost_step m which causes.Label in
    notes place r.0 (scene (with_agent s.node place r.1) s.outbox) (seats s.node place (record (desk_at s.node place) { agent = r.1 }) ((calls_keep_sound m (h place)).losses which causes.Label) h)
behind place login _ _ (asks_main ask is_status body s e) h = main_left place login.node s.node (request_step s.node.layer s.outbox login.node body (purposes.Agent place)) h
behind place login _ _ (asks_ahead ask body s e) h = ahead_left place login.node s.node (request_step s.node.layer s.outbox login.node body (purposes.Agent place)) h

pub follows : (place : ℕ) (login : Login) (step : AgentStep) (s : Scene) → At s → At (follow place login step s)
follows place login step s h =
    let t = noted place step s in kept (Behind place login) At (behind place login) t _ (behind_moves (Behind place login) place login (λ x y m. m) t step s (stay t)) (notes place step s h)

-- ---- a disc
pushed : (place peer : ℕ) (node : NodeState) (r : Option LabelParts × (Layer Purpose × OutboxState)) → AgentsAreSound node → At (unsolicited_by place peer node r)
pushed place peer node (Some label, (layer, outbox)) h = seats node place (record (desk_at node place) { is_enabled = false }) (h place) h
pushed place peer node (None, (layer, outbox)) h = h

announces : (unit from : ℕ) (s t : Scene) → Announced unit from s t → At s → At t
announces unit from _ _ (pushes place login s e) h = pushed place login.node s.node _ h
announces unit from _ _ (withholds place login s e) h = h

pub discs : (b : Bool) (unit from : ℕ) (s : Scene) → At s → At (announced_by b unit from s)
discs b unit from s h = kept (Announced unit from) At (announces unit from) s _ (announced_moves (Announced unit from) unit from (λ x y m. m) s b s (stay s)) h

-- ---- cuts and decisions
pub cuts_one : (cause : CutCause) (place : ℕ) (s : Scene) → At s → At (cut cause place s)
unfolding cut
cuts_one cause place s h = seats s.node place (reset_desk (desk_at s.node place)) (calls_keep_sound (desk_at s.node place).agent (h place)).resets h

clears : (unit : ℕ) (s : Scene) → At s → At (clear_unit unit s)
unfolding clear_unit
clears unit s h = h

clears_from : (left unit : ℕ) (s : Scene) → At s → At (clear_from left unit s)
unfolding clear_from
clears_from zero unit s h = h
clears_from (suc left) unit s h = clears_from left (unit + 1) (clear_unit unit s) (clears unit s h)

either : (b : Bool) (s t : Scene) → At s → At t → At (cond b s t)
either true s t f g = f
either false s t f g = g

affects : (effect : Effect) (login : ℕ) (s : Scene) → At s → At (effect_by effect login s)
affects effects.Nothing login s h = h
affects (effects.Entered place replaced) login s h = seats s.node place (record (desk_at s.node place) { pointer = None; is_enabled = false }) (h place) h
affects (effects.Back place) login s h = h
affects (effects.Left place) login s h =
    let t = cut_placed (place_in place) cuts.Logout s in
    let k = placed_keep At cuts_one (place_in place) cuts.Logout s h in
    seats t.node place (record (desk_at t.node place) { is_enabled = false }) (k place) k
affects (effects.Abort place orb) login s h =
    let m = (desk_at s.node place).agent in seats s.node place (record (desk_at s.node place) { agent = abort_step m orb }) ((calls_keep_sound m (h place)).aborts orb) h
affects (effects.AbortSet place) login s h = placed_keep At cuts_one (place_in place) cuts.AbortSet s h
affects (effects.UnitReset unit) login s h =
    let t = cut_all cuts.UnitReset (Some unit) s in
    let k = cuts_keep At cuts_one cuts.UnitReset (Some unit) s h in
    either (nat_lt unit (length t.node.units)) (clear_unit unit t) t (clears unit t k) k
affects effects.TargetReset login s h = let t = cut_all cuts.TargetReset None s in clears_from (length t.node.units) 0 t (cuts_keep At cuts_one cuts.TargetReset None s h)

pub decides : (d : Option Decision) (effect : Effect) (source : ℕ) (s : Scene) → At s → At (decided_by d effect source s)
unfolding decided_by
decides None effect source s h = h
decides (Some d) effect source s h = affects effect d.subject s h
