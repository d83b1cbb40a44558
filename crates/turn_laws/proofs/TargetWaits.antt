-- Behind each turn of every run an ACTIVE agent waits for its main request, a SUSPENDED one rests, and an operation of the management waits for its one request.
use Rattle.std.proofs.Common.{arith, ◌≡◌, ◌∙◌, refl, sym, ap, subst, ℕ, suc, ◌+◌, ◌<◌, ◌==◌, ◌&&◌, is_some, true, false, List, [], ◌∷◌, length, slice_index_or, Option, Some, None}
use Rattle.bus_transactions.specs.Reached.{IsAwaited}
use Rattle.bus_transactions.specs.Wire.{transaction}
use Rattle.bus_transactions.proofs.Reaches.{goes_on}
use Rattle.command_agent.specs.Machine.{is_sent, state_in}
use Rattle.command_agent.specs.declared.phase.Phase.{Phase}
use Rattle.command_agent.specs.declared.phase.Phase.TheVariants as phases
use Rattle.mgmt_agent.specs.Machine as manager
use Rattle.mgmt_agent.specs.Machine.{source_in}
use Rattle.mgmt_agent.specs.declared.operation.Operation.{Operation}
use Rattle.rbc_disk.specs.Disk.{Disk}
use Rattle.sbp_journal.specs.Run.{Moment}
use Rattle.sbp_journal.specs.Transactions.{Transaction}
use Rattle.sbp_journal.specs.Wire.{Held, Terms, terms}
use Rattle.sbp_laws.specs.Packets.{begun_in, is_of_now, is_under_way, is_waiting_for, waits_for}
use Rattle.sbp_laws.specs.SentLaw.{AgentsRun, IsAtRest, ManagerRuns, Runs, RunsBy}
use Rattle.sbp_laws.specs.Targets.{Agent, Target, agent_at, new_agent, over, target_at}
use Rattle.sbp_world.specs.Agents.Crews.{IsOf}
use Rattle.sbp_world.specs.Agents.Management.Terms.{Awaits, HasRequest}
use Rattle.sbp_world.specs.Worlds.{Scene}
use Rattle.sbp_target.specs.Nodes.{desk_at}
use Rattle.sbp_world.proofs.Agents.Management.Holding.{past_terms}
use Rattle.sbp_world.proofs.Agents.Management.Still.{hist}
use Rattle.sbp_world.proofs.Common.{itself, untrue}
use Rattle.turn_laws.specs.UnderWay.{TargetWaits, TargetWaitsLaw}
use Rattle.turn_laws.proofs.AgentHere.{desk_fits}
use Rattle.turn_laws.proofs.BehindTurns.{behind_every_turn}
use Rattle.turn_laws.proofs.DeathAnswers.{asked_here}
use Rattle.sbp_world.proofs.Wire.Starts.{laws_of}
use Rattle.turn_laws.proofs.Places.{Place}
use Rattle.turn_laws.proofs.RequestWrites.{no_some}
use Rattle.turn_laws.proofs.RestSteps.{is_suspended}
use Rattle.turn_laws.proofs.Rests.{rests_before}

-- an ACTIVE agent has sent a main request, and a SUSPENDED one has none, and rests
by_phase : (phase : Phase) (start : List Disk) (past : List Moment) (place : ℕ) (a : Agent) → (is_sent phase ≡ true → Runs (terms past) a.main) → (is_suspended phase ≡ true → IsAtRest start past place a) → RunsBy (state_in phase) start past place a
by_phase phases.Reset start past place a h k = tt
by_phase phases.Suspended start past place a h k = k refl
by_phase phases.WritingLastStatus start past place a h k = tt
by_phase phases.Dead start past place a h k = tt
by_phase phases.Fetching start past place a h k = h refl
by_phase phases.ReadingTable start past place a h k = h refl
by_phase (phases.ReadingData wanted) start past place a h k = h refl
by_phase phases.Answering start past place a h k = h refl
by_phase phases.WritingStatus start past place a h k = h refl
by_phase phases.ReadingNext start past place a h k = h refl

unsent : (phase : Phase) → is_suspended phase ≡ true → is_sent phase ≡ false
unsent phases.Suspended e = refl
unsent phase e = untrue e

runs_by : (wire : Terms) (main : Option ℕ) → is_some main ≡ true → ((serial : ℕ) → main ≡ Some serial → is_under_way wire serial ≡ true) → Runs wire main
runs_by wire None some h = untrue some
runs_by wire (Some serial) some h = h serial refl

module _ (units ready : ℕ) (has : 0 < units) (start : List Disk) (past : List Moment) (s : Scene) (here : Place units ready start past s) where
  abbrev ms : List Moment
  ms = hist past s.world

  abbrev t : Terms
  t = terms ms

  abbrev manages : Option ℕ
  manages = (target_at start ms).manages

  abbrev T : Target
  T = over (target_at start ms)

  -- each agent of a list
  abbrev Goes : ℕ → Agent → Type 0
  Goes place a = RunsBy (state_in a.machine.phase) start ms place a

  each_goes : (from : ℕ) (agents : List Agent) → ((k : ℕ) → k < length agents → Goes (from + k) (slice_index_or agents k new_agent)) → AgentsRun start ms from agents
  each_goes from [] h = tt
  each_goes from (a ∷ agents) h = (
    subst (λ n. Goes n a) (let e : from + 0 ≡ from = omega arith in e) (h 0 (omega arith)),
    each_goes (from + 1) agents (λ k b. subst (λ n. Goes n (slice_index_or agents k new_agent)) (let e : from + suc k ≡ from + 1 + k = omega arith in e) (h (suc k) (omega (arith, b)))),
  )

  -- ---- an agent
  agent_waits : (place : ℕ) → place < 8 → Goes place (agent_at T place)
  agent_waits place b =
      let a = agent_at T place in
      let of : IsOf here.agents.requests a (desk_at s.world.target place) = here.agents.are.each place b in
      let sent_is : is_some a.main ≡ is_sent a.machine.phase = of.main ∙ (desk_fits units ready has start past s here place b).main ∙ sym (ap is_sent of.machine.phase) in
      by_phase a.machine.phase start ms place a
      (λ sent. runs_by t a.main (sent_is ∙ sent) (λ serial e. (((asked_here units ready has start past s here).all place b).main serial e).under_way))
      (λ rests.
      let r = rests_before start ms (laws_of past s.world here.holds.sound.stands).serials place rests in
      record { ended = no_some a.main (sent_is ∙ unsent a.machine.phase rests); answered = r.0; ends = r.1.0; unrung = r.1.1 })

  -- ---- the operation
  under_way : (source : ℕ) (r : HasRequest t s.world.target.layer source manages) → is_under_way t r.serial ≡ true
  under_way source r =
      let stands = here.holds.sound.stands in
      let u : Transaction = transaction (t.generation 0) 0 r.peer r.number in
      let same = past_terms s.world stands in
      let held = ap (λ (x : Terms). x.held u) same ∙ r.waits_for in
      let w : IsAwaited t u r.kind r.serial = subst (λ (x : Terms). IsAwaited x u r.kind r.serial) same (goes_on.awaited stands.wire u r.kind r.serial stands.reached held) in
      ap (λ o. waits_for t (begun_in o) r.serial) w.sent
      ∙ (ap (λ o. waits_for t o r.serial) w.begun
      ∙ (ap (λ (h : Held). is_of_now t u && is_waiting_for h r.serial) r.waits_for
      ∙ (ap (λ b. b && (r.serial == r.serial)) (itself (t.generation 0)) ∙ itself r.serial)))

  operation_waits : (operation : Option Operation) → (target_at start ms).manager.operation ≡ operation → ManagerRuns operation t manages
  operation_waits None e = tt
  operation_waits (Some operation) e =
      let at = here.holds.at in
      let own : s.world.target.manager.operation ≡ Some operation = ap (λ (m : manager.Machine). m.operation) (sym at.agrees.manager) ∙ e in
      let r : HasRequest t s.world.target.layer operation.source manages = subst (λ o. Awaits t s.world.target.layer (source_in o) manages) own at.awaits in
      subst (Runs t) (sym r.manages_is) (under_way operation.source r)

  target_waits : TargetWaits start ms
  target_waits = record {
    agents = each_goes 0 T.agents (λ k b. subst (λ n. Goes n (slice_index_or T.agents k new_agent)) (let e : k ≡ 0 + k = omega arith in e) (agent_waits k (omega (arith, b, here.agents.are.size))));
    management = operation_waits (target_at start ms).manager.operation refl;
  }

pub target_waits_law : TargetWaitsLaw
target_waits_law =
    behind_every_turn TargetWaits (λ units ready start has past s here. target_waits units ready has start past s here)
    (λ start line initiators is_ready. record { agents = (tt, (tt, (tt, (tt, (tt, (tt, (tt, (tt, tt)))))))); management = tt })
