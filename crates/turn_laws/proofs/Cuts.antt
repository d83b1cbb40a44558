-- In each turn of every run exactly the lists are cut whose agents AGENT_RESET, the decision of the turn or a reset that the target sees puts into RESET.
use Rattle.std.proofs.Common.{arith, ◌≡◌, ◌∙◌, refl, sym, ap, subst, ℕ, zero, suc, ◌+◌, ◌-◌, ◌<◌, ◌≤◌, ◌==◌, ◌&&◌, ◌||◌, not, nat_eq, nat_lt, is_some, Bool, true, false, cond, List, [], ◌∷◌, ◌++◌, length, Option, Some, None, Ok}
use Rattle.std.proofs.lemmas.Bool.Decides.{nat_tests}
use Rattle.async_packet.specs.Labels.{LabelParts}
use Rattle.async_packet.specs.Packet.{Packet}
use Rattle.async_packet.specs.Reading.{reading}
use Rattle.bus_transactions.specs.Judging.{AreJudged}
use Rattle.command_agent.specs.Machine.{state_in}
use Rattle.command_agent.specs.Steps.{is_reset}
use Rattle.command_agent.specs.declared.phase.Phase.{Phase}
use Rattle.command_agent.specs.declared.step.AgentState.{AgentState}
use Rattle.command_agent.specs.declared.step.AgentState.TheVariants as states
use Rattle.label_table.specs.History as wire_calls
use Rattle.label_table.specs.Layer.{Finding, Layer, judging_step, of_again, of_generation, of_grammar, of_label, of_request, of_response}
use Rattle.label_table.specs.Requests.{reply_kind}
use Rattle.login_table.specs.Table.{Table, expired_ids, place_at}
use Rattle.login_table.specs.declared.login.Login.{Login}
use Rattle.mgmt_agent.specs.Machine.{Machine, reply_step, source_in}
use Rattle.mgmt_agent.specs.declared.decision.Decision.{Decision}
use Rattle.mgmt_agent.specs.declared.decision.Effect.{Effect}
use Rattle.mgmt_agent.specs.declared.decision.Effect.TheVariants as effects
use Rattle.mgmt_agent.specs.declared.decision.ManagerStep.{ManagerStep}
use Rattle.orb_layout.specs.Pointers.{offset_at, pointer_at}
use Rattle.orb_layout.specs.Replies.{Answer, Expired}
use Rattle.packet_store.specs.Kept.{found_sent, is_flying}
use Rattle.packet_store.specs.Stored.{deliver_step}
use Rattle.packet_store.specs.declared.sent.Sent.{Sent}
use Rattle.rbc_disk.specs.Disk.{Disk}
use Rattle.rbc_disk.specs.Runs.{Told}
use Rattle.sbp_bus.specs.Generations.{id_of}
use Rattle.sbp_bus.specs.Packets.{end_note, judged_note}
use Rattle.sbp_bus.specs.declared.places.Holder.{Holder}
use Rattle.sbp_journal.specs.Addresses.{Access, Register, Start, access_of, agent_reset, agent_state, begins_in_rom, doorbell, is_start, lies_in_rom, management_agent, no_start, orb_pointer, register, rom_base, rom_start, start_at, start_serves, unsolicited_enable}
use Rattle.sbp_journal.specs.Outgoings.{OutboxState, empty_outbox}
use Rattle.sbp_journal.specs.Run.{Moment, asked, said}
use Rattle.sbp_journal.specs.Wire.{Terms, terms}
use Rattle.sbp_journal.specs.declared.cause.Cause.TheVariants as causes
use Rattle.sbp_journal.specs.declared.cause.CutCause.{CutCause}
use Rattle.sbp_journal.specs.declared.cause.CutCause.TheVariants as cuts
use Rattle.sbp_journal.specs.declared.cause.Judged.{Judged}
use Rattle.sbp_journal.specs.declared.cause.Judged.TheVariants as judgements
use Rattle.sbp_journal.specs.declared.event.Event.{Event as LineEvent}
use Rattle.sbp_journal.specs.declared.note.Note.{Note}
use Rattle.sbp_journal.specs.declared.note.Note.TheVariants as notes
use Rattle.sbp_journal.specs.declared.side.Side.{Side}
use Rattle.sbp_journal.specs.declared.side.Side.TheVariants as sides
use Rattle.sbp_laws.specs.Agents.{Event, event_by, got_in, list_taken, nothing, reply_to, write_in, write_of, writes}
use Rattle.sbp_laws.specs.Management.{Call, call_by, cut_note, cuts_by_effect, cuts_by_event, cuts_due, cuts_from, cuts_where, no_call}
use Rattle.sbp_laws.specs.Management as laws
use Rattle.sbp_laws.specs.NoteKinds.{is_cut_note, of_kind}
use Rattle.sbp_laws.specs.Packets.{access_at, answer_in as term_answer, answered_at, packet_at, sender_in}
use Rattle.sbp_laws.specs.Targets.{Agent, Purpose as TermPurpose, Target, agent_at, for_agent, for_manager, for_nobody, initiator_at, is_serial, on_unit, over, purpose_of, target_at}
use Rattle.sbp_laws.specs.Turns.{turn}
use Rattle.sbp_target.specs.Calls.{receives}
use Rattle.sbp_target.specs.Histories.Judgements.{asked_at, asked_of}
use Rattle.sbp_target.specs.Histories.Layers.{first_of}
use Rattle.sbp_target.specs.Histories.Sides.{by_place, cleared_of, cut_for, cut_in, cut_of, decision_changes, delivery_tells, demand_changes, effect_changes, held_of, of_place, of_unit, opened_in, operation_tells, reply_tells, request_changes, reset_changes, told_from}
use Rattle.sbp_target.specs.Management.{with_manager}
use Rattle.sbp_target.specs.Nodes.{NodeState, Scene as TargetScene, desk_at, scene}
use Rattle.sbp_target.specs.Receiving.{answer_in, judged_scene, received, received_as, with_layer}
use Rattle.sbp_target.specs.Replies.{Whole, served_login}
use Rattle.sbp_target.specs.Serving.{answered, is_barred, request_step, serve}
use Rattle.sbp_target.specs.declared.purpose.Purpose.{Purpose}
use Rattle.sbp_target.specs.declared.purpose.Purpose.TheVariants as purposes
use Rattle.target_base.specs.Addresses.{address_error, demand_of, or_nowhere}
use Rattle.target_base.specs.declared.address.Access as base
use Rattle.target_base.specs.declared.address.Access.TheVariants as accesses
use Rattle.target_base.specs.declared.address.Demand.{Demand}
use Rattle.target_base.specs.declared.address.Demand.TheVariants as demands
use Rattle.sbp_world.specs.Agents.Management.Offices.{Agrees, office_of}
use Rattle.sbp_world.specs.Delivering.{marked, whole_of}
use Rattle.sbp_world.specs.Lines.{weight_in}
use Rattle.sbp_world.specs.Telling.{holder}
use Rattle.sbp_world.specs.Worlds.{Scene, WorldState, with_note, with_target}
use Rattle.sbp_target.proofs.Histories.Asked.{Rows, demand_is, serves_is}
use Rattle.sbp_target.proofs.Histories.Calling.{Good, not_eight}
use Rattle.sbp_target.proofs.Histories.Found.{IsFound, found as found_as}
use Rattle.sbp_target.proofs.Histories.Settled.{reaches}
use Rattle.sbp_target.proofs.Histories.Told.{side_law}
use Rattle.sbp_world.proofs.Agents.CrewFirsts.{access_there, agrees}
use Rattle.sbp_world.proofs.Agents.Hiring.{reply_hires}
use Rattle.sbp_world.proofs.Agents.Management.Holding.{good_of}
use Rattle.sbp_world.proofs.Formed.{AreOwn, IsNoRun}
use Rattle.sbp_world.proofs.Agents.Management.Sights.{ages}
use Rattle.sbp_world.proofs.Agents.Management.Still.{hist}
use Rattle.sbp_world.proofs.Lists.OpenOwners.{served_initiator}
use Rattle.sbp_world.proofs.Lists.SendsLeave.{beyond_down}
use Rattle.sbp_world.proofs.Lists.TakenTerms.{response_access}
use Rattle.turn_laws.specs.Cuts.{CutsLaw, CutsWhereDue}
use Rattle.turn_laws.proofs.Calls.{Brings, Cases, calls, injects, loses, refuses, refuses_action, resets, sets_key}
use Rattle.turn_laws.proofs.CutNotes.{CutsFirst, NoCuts, agent_none, changes_first, cleared_all_none, cleared_none, cuts_before, cuts_both, cuts_in, cuts_of_changes, decision_first, expired_none, held_all_none, lapse_none, no_cuts_in, is_told, none, opened_none, request_first, sight_first, target_cuts}
use Rattle.turn_laws.proofs.Effects.{EffectOf, idle_effect, start_effect, step_same, timed_out_effect}
use Rattle.turn_laws.proofs.Gots.{access_is, agent_calls, got_brings, manager_calls, no_kind, nobody_calls, own_brings_nothing, own_calls_nothing, request_calls, request_brings, unsolicited_calls}
use Rattle.turn_laws.proofs.Handed.{handed}
use Rattle.turn_laws.proofs.KindNotes.{none_behind, own_handed}
use Rattle.turn_laws.proofs.Pass.{of_every_run}
use Rattle.turn_laws.proofs.Places.{Place}
use Rattle.turn_laws.proofs.RequestEvents.{quadlet_writes}
use Rattle.sbp_world.proofs.Agents.Demands.{none_some}
use Rattle.sbp_world.proofs.Hosts.Knows.{seen_test}

no_own : (note : Note) → IsNoRun note → is_cut_note note ≡ false
no_own (notes.Cut i list cause) h = absurd h
no_own note h = refl

-- ---- what the law has for a packet that the target got, by the terms
module _ (start : List Disk) (ms : List Moment) (wire : Terms) (T : Target) where
  abbrev pub LawCut : CutCause → ℕ → List Note
  LawCut cause place = cut_note start ms wire T cause place

  abbrev pub ByEvent : Event → List Note
  ByEvent event = cuts_by_event start event ms wire T

  abbrev pub ByEffect : Effect → List Note
  ByEffect effect = cuts_by_effect start ms wire T effect

  abbrev access_cuts : (place : ℕ) → base.Access → List Note
  access_cuts place accesses.Reset = LawCut cuts.AgentReset place
  access_cuts place access = []

  abbrev pub demand_cuts : Demand → List Note
  demand_cuts (demands.Agent place access) = access_cuts place access
  demand_cuts demand = []

  either : (b : Bool) (event : Event) → ByEvent event ≡ [] → ByEvent (cond b event nothing) ≡ []
  either true event e = e
  either false event e = refl

  pointer_cuts : (w : Bool) (place : ℕ) (access : Access) → access_cuts place (cond w (accesses.Point (pointer_at access.payload 0)) accesses.Pointer) ≡ []
  pointer_cuts true place access = refl
  pointer_cuts false place access = refl

  register_cuts : (name : Register) (place : ℕ) (access : Access) → start_serves (register place name) access ≡ true → ByEvent (write_of (register place name) access) ≡ access_cuts place (asked_of name access)
  register_cuts agent_state place access s = either (access.is_write && start_serves (register place agent_state) access) (writes agent_state place access) refl
  register_cuts agent_reset place access s =
      ap (λ b. ByEvent (cond b (writes agent_reset place access) nothing))
      (ap (λ w. w && start_serves (register place agent_reset) access) (quadlet_writes access.is_lock access.is_write access.is_block s) ∙ s)
  register_cuts orb_pointer place access s =
      either (access.is_write && start_serves (register place orb_pointer) access) (writes orb_pointer place access) refl ∙ sym (pointer_cuts access.is_write place access)
  register_cuts doorbell place access s = either (access.is_write && start_serves (register place doorbell) access) (writes doorbell place access) refl
  register_cuts unsolicited_enable place access s = either (access.is_write && start_serves (register place unsolicited_enable) access) (writes unsolicited_enable place access) refl

  start_cuts : (at : Start) (access : Access) (d : Demand) → start_serves at access ≡ true → Some d ≡ asked_at at access → ByEvent (write_of at access) ≡ demand_cuts d
  start_cuts management_agent access d s e =
      let same : d ≡ demands.Manage (offset_at access.payload 0) = cc in subst (λ (x : Demand). [] ≡ demand_cuts x) (sym same) refl
  start_cuts (register place name) access d s e =
      let same : d ≡ demands.Agent place (asked_of name access) = cc in subst (λ (x : Demand). ByEvent (write_of (register place name) access) ≡ demand_cuts x) (sym same) (register_cuts name place access s)
  start_cuts rom_start access d s e = absurd (none_some d e)
  start_cuts no_start access d s e = absurd (none_some d e)

  register_unserved : (w : Bool) (name : Register) (place : ℕ) (access : Access) → start_serves (register place name) access ≡ false → ByEvent (cond (w && start_serves (register place name) access) (writes name place access) nothing) ≡ []
  register_unserved true name place access s = ap (λ b. ByEvent (cond b (writes name place access) nothing)) s
  register_unserved false name place access s = refl

  start_unserved : (at : Start) (access : Access) → start_serves at access ≡ false → ByEvent (write_of at access) ≡ []
  start_unserved management_agent access s = refl
  start_unserved (register place name) access s = register_unserved access.is_write name place access s
  start_unserved rom_start access s = refl
  start_unserved no_start access s = refl

  rows_cut : (l e w r a : Bool) (at len : ℕ) (wanted : Demand) → demand_cuts (Rows l e w r false a (demands.Rom at len) wanted) ≡ []
  rows_cut true e w r a at len wanted = refl
  rows_cut false true w r a at len wanted = refl
  rows_cut false false true r a at len wanted = refl
  rows_cut false false false true a at len wanted = refl
  rows_cut false false false false true at len wanted = refl
  rows_cut false false false false false at len wanted = refl

  abbrev Asks : Bool → ℕ → Access → Demand
  Asks serves size access =
      Rows access.is_lock (access.count == 0) (access.is_write && begins_in_rom size access) (not access.is_write && lies_in_rom size access) serves (is_start (start_at access.offset)) (demands.Rom (access.offset - rom_base) access.count) (or_nowhere (asked_at (start_at access.offset) access))

  served_cuts : (b : Bool) (size : ℕ) (p : Packet) (access : Access) → size ≤ 1024 → access_of p ≡ Some access → start_serves (start_at access.offset) access ≡ b → ByEvent (write_of (start_at access.offset) access) ≡ demand_cuts (demand_of size p)
  served_cuts true size p access small a s = start_cuts (start_at access.offset) access (demand_of size p) s (serves_is p access a size small s)
  served_cuts false size p access small a s =
      start_unserved (start_at access.offset) access s
      ∙ sym (ap demand_cuts (demand_is size p access a ∙ ap (λ (b : Bool). Asks b size access) s)
      ∙ rows_cut access.is_lock (access.count == 0) (access.is_write && begins_in_rom size access) (not access.is_write && lies_in_rom size access) (is_start (start_at access.offset)) (access.offset - rom_base) access.count (or_nowhere (asked_at (start_at access.offset) access)))

  pub write_cuts : (size : ℕ) (p : Packet) (access : Access) → size ≤ 1024 → access_of p ≡ Some access → ByEvent (write_in (Some access)) ≡ demand_cuts (demand_of size p)
  write_cuts size p access small a = served_cuts (start_serves (start_at access.offset) access) size p access small a refl

  reply_cuts : (purpose : TermPurpose) (answer : Answer) → ByEvent (reply_to purpose answer) ≡ []
  reply_cuts (for_agent place which) answer = refl
  reply_cuts for_manager answer = refl
  reply_cuts for_nobody answer = refl

  pub answer_cuts : (own : Option ℕ) (serial : ℕ) → access_at wire serial ≡ None → ByEvent (got_in own T wire serial) ≡ []
  answer_cuts None serial e = ap (λ a. ByEvent (write_in a)) e
  answer_cuts (Some own) serial e = reply_cuts (purpose_of T own) (term_answer (packet_at wire serial))

  pub late_cuts : (b : Bool) (serial : ℕ) → ByEvent (cond b (reply_to (purpose_of T serial) Expired) nothing) ≡ []
  late_cuts b serial = either b (reply_to (purpose_of T serial) Expired) (reply_cuts (purpose_of T serial) Expired)

-- of the agents of a unit, by its place
unit_test : (H : ℕ → Holder) (unit : ℕ) (told : List Side) (places : List (Option Login)) (place : ℕ) → cuts_in H (of_unit unit (place_at places place) told) ≡ cond (on_unit unit places place) (cuts_in H told) []
unit_test H unit told [] place = refl
unit_test H unit told (None ∷ places) zero = refl
unit_test H unit told (Some login ∷ places) zero = by (login.unit == unit)
  where
    by : (b : Bool) → cuts_in H (cond b told []) ≡ cond b (cuts_in H told) []
    by true = refl
    by false = refl
unit_test H unit told (login ∷ places) (suc place) = unit_test H unit told places place

-- ---- at a place
module _ (units ready : ℕ) (has : 0 < units) (start : List Disk) (past : List Moment) (s : Scene) (here : Place units ready start past s) where
  abbrev w : WorldState
  w = s.world

  abbrev node : NodeState
  node = w.target

  abbrev ms : List Moment
  ms = hist past w

  abbrev wire : Terms
  wire = terms ms

  abbrev T : Target
  T = over (target_at start ms)

  abbrev H : ℕ → Holder
  H p = holder w p

  abbrev L : CutCause → ℕ → List Note
  L = LawCut start ms wire T

  good : Good node
  good = good_of units ready here.holds.calls node has here.holds.made

  agreed : Agrees (office_of T) node
  agreed = agrees units ready has start w here.holds

  phase_same : (p : ℕ) → p < 8 → (agent_at T p).machine.phase ≡ (desk_at node p).agent.phase
  phase_same p b = (here.agents.are.each p b).machine.phase

  -- the cut of one place
  up_place : (cause : CutCause) (p : ℕ) → p < 8 → (state : AgentState) → state_in (desk_at node p).agent.phase ≡ state → is_reset state ≡ false → laws.is_reset state ≡ false → notes.Cut (H p).initiator (H p).list cause ∷ [] ≡ L cause p
  up_place cause p b state e up open_by_law =
      let down = ap is_reset e ∙ up in
      let who = served_initiator units ready start w here.holds here.held (good.mid.served p b (not_eight p b) down) in
      ap (λ i. notes.Cut i (H p).list cause ∷ []) (sym who) ∙ ap (λ list. notes.Cut (initiator_at T wire p) list cause ∷ []) (sym (here.taken p b down))
      ∙ sym (ap (λ x. cond (not x) (notes.Cut (initiator_at T wire p) (list_taken start ms p) cause ∷ []) []) (ap (λ (x : Phase). laws.is_reset (state_in x)) (phase_same p b) ∙ ap laws.is_reset e ∙ open_by_law))

  one_place : (cause : CutCause) (p : ℕ) → p < 8 → cuts_in H (cut_of cause node p) ≡ L cause p
  one_place cause p b = by (state_in (desk_at node p).agent.phase) refl
    where
      by : (state : AgentState) → state_in (desk_at node p).agent.phase ≡ state → cuts_in H (cut_in state cause p) ≡ L cause p
      by states.Reset e = sym (ap (λ x. cond (not x) (notes.Cut (initiator_at T wire p) (list_taken start ms p) cause ∷ []) []) (ap (λ (x : Phase). laws.is_reset (state_in x)) (phase_same p b) ∙ ap laws.is_reset e))
      by states.Active e = up_place cause p b states.Active e refl refl
      by states.Suspended e = up_place cause p b states.Suspended e refl refl
      by states.Dead e = up_place cause p b states.Dead e refl refl

  beyond_place : (cause : CutCause) (p : ℕ) → 8 ≤ p → [] ≡ L cause p
  beyond_place cause p far = by (state_in (agent_at T p).machine.phase) refl
    where
      up : (state : AgentState) → state_in (agent_at T p).machine.phase ≡ state → is_reset state ≡ false → [] ≡ L cause p
      up state e f = beyond_down T.agents p ([] ≡ L cause p) (let z = here.agents.are.size in omega (arith, z, far)) (ap (λ x. not (is_reset x)) e ∙ ap not f)

      by : (state : AgentState) → state_in (agent_at T p).machine.phase ≡ state → [] ≡ L cause p
      by states.Reset e = sym (ap (λ x. cond (not (laws.is_reset x)) (notes.Cut (initiator_at T wire p) (list_taken start ms p) cause ∷ []) []) e)
      by states.Active e = up states.Active e refl
      by states.Suspended e = up states.Suspended e refl
      by states.Dead e = up states.Dead e refl

  placed : (cause : CutCause) (p : ℕ) → cuts_in H (of_place p (cut_of cause node p)) ≡ L cause p
  placed cause p = by (nat_lt p 8) refl
    where
      by : (b : Bool) → nat_lt p 8 ≡ b → cuts_in H (cond b (cut_of cause node p) []) ≡ L cause p
      by true e = one_place cause p (grind (arith, nat_tests))
      by false e = beyond_place cause p (grind (arith, nat_tests))

  -- those of all places that pass a test
  walk : (tells : ℕ → List Side) (cut : ℕ → List Note) (test : ℕ → Bool) → ((p : ℕ) → p < 8 → cuts_in H (tells p) ≡ cond (test p) (cut p) []) → (agents : List Agent) (left n : ℕ) → length agents ≡ left → n + left ≡ 8 → cuts_in H (told_from tells left n) ≡ cuts_from n agents cut test
  walk tells cut test f [] zero n e at = refl
  walk tells cut test f [] (suc left) n e at = absurd (omega (arith, e))
  walk tells cut test f (a ∷ agents) zero n e at = absurd (omega (arith, e))
  walk tells cut test f (a ∷ agents) (suc left) n e at =
      cuts_both H (tells n) (told_from tells left (n + 1))
      ∙ (ap (λ ns. ns ++ cuts_in H (told_from tells left (n + 1))) (f n (omega (arith, at)))
      ∙ ap (λ ns. cond (test n) (cut n) [] ++ ns) (walk tells cut test f agents left (n + 1) (let g : suc (length agents) ≡ suc left = e in omega (arith, g)) (omega (arith, at))))

  all_places : (cause : CutCause) → cuts_in H (by_place (cut_of cause node)) ≡ cuts_where start ms wire T cause (λ place. true)
  all_places cause = walk (cut_of cause node) (cut_note start ms wire T cause) (λ place. true) (one_place cause) T.agents 8 0 here.agents.are.size refl

  unit_places : (cause : CutCause) (unit : ℕ) (m : Machine) (table : Table) → table ≡ node.logins → cuts_in H (by_place (cut_for cause unit (with_manager node (m, table)))) ≡ cuts_where start ms wire T cause (on_unit unit T.table.places)
  unit_places cause unit m table same = walk (cut_for cause unit (with_manager node (m, table))) (cut_note start ms wire T cause) (on_unit unit T.table.places) each T.agents 8 0 here.agents.are.size refl
    where
      each : (p : ℕ) → p < 8 → cuts_in H (cut_for cause unit (with_manager node (m, table)) p) ≡ cond (on_unit unit T.table.places p) (L cause p) []
      each p b =
          unit_test H unit (cut_of cause node p) table.places p
          ∙ (ap (λ (t : Table). cond (on_unit unit t.places p) (cuts_in H (cut_of cause node p)) []) (same ∙ sym agreed.table)
          ∙ ap (λ ns. cond (on_unit unit T.table.places p) ns []) (one_place cause p b))

  -- ---- the effect of a decision
  module _ (m : Machine) (table : Table) where
    abbrev after : NodeState
    after = with_manager node (m, table)

    effect_cuts : (effect : Effect) (subject : ℕ) → ((unit : ℕ) → effect ≡ effects.UnitReset unit → table ≡ node.logins) → cuts_in H (effect_changes effect subject after) ≡ ByEffect start ms wire T effect
    effect_cuts effects.Nothing subject keeps = refl
    effect_cuts (effects.Entered place None) subject keeps = refl
    effect_cuts (effects.Entered place (Some login)) subject keeps = refl
    effect_cuts (effects.Back place) subject keeps = refl
    effect_cuts (effects.Left place) subject keeps = cuts_before H (of_place place (cut_of cuts.Logout node place)) (sides.Left subject ∷ []) (tt, tt) ∙ placed cuts.Logout place
    effect_cuts (effects.Abort place orb) subject keeps = refl
    effect_cuts (effects.AbortSet place) subject keeps = placed cuts.AbortSet place
    effect_cuts (effects.UnitReset unit) subject keeps =
        cuts_before H (by_place (cut_for cuts.UnitReset unit after)) (cond (nat_lt unit (length node.units)) (cleared_of unit) []) (cleared_none (nat_lt unit (length node.units)) unit) ∙ unit_places cuts.UnitReset unit m table (keeps unit refl)
    effect_cuts effects.TargetReset subject keeps =
        cuts_before H (by_place (cut_of cuts.TargetReset node)) (told_from cleared_of (length node.units) 0) (cleared_all_none (length node.units)) ∙ all_places cuts.TargetReset

    decision_cuts : (decided : Option Decision) (effect : Effect) → (decided ≡ None → effect ≡ effects.Nothing) → ((unit : ℕ) → effect ≡ effects.UnitReset unit → table ≡ node.logins) → cuts_in H (decision_changes decided effect after) ≡ ByEffect start ms wire T effect
    decision_cuts None effect none_so keeps = ap (ByEffect start ms wire T) (sym (none_so refl))
    decision_cuts (Some decision) effect none_so keeps = effect_cuts effect decision.subject keeps

  replies_cut : (answer : Answer) → (let r = reply_step node.manager node.logins node.keys answer in cuts_in H (decision_changes r.0.decided r.0.effect (with_manager node (r.1.0, r.1.1))) ≡ ByEffect start ms wire T r.0.effect)
  replies_cut answer =
      let r = reply_step node.manager node.logins node.keys answer in
      let h = reply_hires node.logins good.table.sound node.manager node.keys answer in
      decision_cuts r.1.0 r.1.1 r.0.decided r.0.effect h.none h.keeps

  -- ---- a packet comes to the target
  module _ (serial : ℕ) (one : Sent) (found : found_sent serial w.store.kept ≡ Some one) where
    abbrev Called : Judged → Call
    Called judged = call_by (said (judged_note serial judged)) T wire

    abbrev Due : Judged → List Note
    Due judged = ByEvent start ms wire T (event_by (said (judged_note serial judged)) T wire) ++ ByEffect start ms wire T (EffectOf T (Called judged))

    -- what stands in the turn of the note
    due_is : (judged : Judged) (rest : List Note) → cuts_due start T (turn ms (said (judged_note serial judged)) rest) ≡ Due judged
    due_is judgements.Got rest = refl
    due_is (judgements.Ignored cause) rest = refl

    own_due : (i : ℕ) → one.to ≡ suc i → (judged : Judged) → Due judged ≡ []
    own_due i to_is judgements.Got =
        ap (λ event. ByEvent start ms wire T event ++ ByEffect start ms wire T (EffectOf T (Called judgements.Got))) (own_brings_nothing units ready has start past s here serial one found i to_is)
        ∙ ap (λ call. ByEffect start ms wire T (EffectOf T call)) (own_calls_nothing units ready has start past s here serial one found i to_is judgements.Got)
    own_due i to_is (judgements.Ignored cause) = refl

    module _ (zero_to : one.to ≡ 0) where
      abbrev Fits : Judged → List Side → Type 0
      Fits judged later = cuts_in H later ≡ Due judged

      -- for an agent nothing, and a call with this effect
      got_as : (event_part : ByEvent start ms wire T (event_by (said (notes.Got serial)) T wire) ≡ []) (call : Call) → Called judgements.Got ≡ call → Due judgements.Got ≡ ByEffect start ms wire T (EffectOf T call)
      got_as event_part call is =
          ap (λ ns. ns ++ ByEffect start ms wire T (EffectOf T (Called judgements.Got))) event_part ∙ ap (λ c. ByEffect start ms wire T (EffectOf T c)) is

      -- ---- a request
      module _ (p : Packet) (read : reading one.bytes ≡ Ok p) (kind : reply_kind p ≡ None) where
        module _ (bar : is_barred node p ≡ false) where
          access_cut : (place : ℕ) (access : base.Access) → demand_of (length node.rom) p ≡ demands.Agent place access → cuts_in H (demand_changes (demands.Agent place access) node) ≡ demand_cuts start ms wire T (demands.Agent place access)
          access_cut place accesses.Reset d = one_place cuts.AgentReset place (reaches node good p place accesses.Reset bar d).small
          access_cut place (accesses.Point pointer) d = let state = state_in (desk_at node place).agent.phase in no_cuts_in H (opened_in state place pointer) (opened_none state place pointer)
          access_cut place accesses.State d = refl
          access_cut place accesses.Pointer d = refl
          access_cut place accesses.Ring d = refl
          access_cut place accesses.Enable d = refl

          demand_cut : (demand : Demand) → demand_of (length node.rom) p ≡ demand → cuts_in H (demand_changes demand node) ≡ demand_cuts start ms wire T demand
          demand_cut (demands.Agent place access) d = access_cut place access d
          demand_cut (demands.Refused rcode) d = refl
          demand_cut (demands.Rom at len) d = refl
          demand_cut (demands.Manage orb) d = refl

        request_due : Due judgements.Got ≡ demand_cuts start ms wire T (demand_of (length node.rom) p)
        request_due =
            let there = access_there p kind in
            ap (λ event. ByEvent start ms wire T event ++ ByEffect start ms wire T (EffectOf T (Called judgements.Got))) (request_brings units ready has start past s here serial one found zero_to p read kind ∙ ap write_in there.is)
            ∙ (ap (λ call. ByEvent start ms wire T (write_in (Some there.access)) ++ ByEffect start ms wire T (EffectOf T call)) (request_calls units ready has start past s here serial one found zero_to p read kind)
            ∙ (ap (λ effect. ByEvent start ms wire T (write_in (Some there.access)) ++ ByEffect start ms wire T effect) (start_effect T _ _)
            ∙ (none_behind (ByEvent start ms wire T (write_in (Some there.access)))
            ∙ write_cuts start ms wire T (length node.rom) p there.access here.holds.rom there.is)))

        bar_fits : (b : Bool) (other served : TargetScene) (all : Whole) → is_barred node p ≡ b → cuts_in H (request_changes b p node) ≡ Due (judged_scene (cond b (judgements.Ignored causes.Login, other) (judgements.Got, served)) all).0
        bar_fits true other served all e = refl
        bar_fits false other served all e = demand_cut e (demand_of (length node.rom) p) refl ∙ sym request_due

      -- ---- a response
      module _ (judged : AreJudged (said (notes.Got serial) ∷ ms)) (p : Packet) (read : reading one.bytes ≡ Ok p) (some : is_some (reply_kind p) ≡ true) (label : LabelParts) (layer : Layer Purpose) where
        abbrev Is : Option Purpose → Type 0
        Is purpose = judging_step node.layer one.generation one.bytes ≡ (of_response p label purpose, layer)

        event_none : ByEvent start ms wire T (event_by (said (notes.Got serial)) T wire) ≡ []
        event_none =
            ap (ByEvent start ms wire T) (got_brings units ready has start past s here serial one found zero_to)
            ∙ answer_cuts start ms wire T (answered_at wire serial) serial (access_is units ready has start past s here serial one found zero_to p read ∙ response_access p some)

        nothing_told : (later : List Side) → NoCuts later → (call : Call) → Called judgements.Got ≡ call → ByEffect start ms wire T (EffectOf T call) ≡ [] → Fits judgements.Got later
        nothing_told later n call is e = no_cuts_in H later n ∙ sym (got_as event_none call is ∙ e)

        operation_fits : (source : Option ℕ) → source_in node.manager.operation ≡ source → (later : List Side) → operation_tells source (answer_in p) node later → cuts_in H later ≡ ByEffect start ms wire T (reply_step node.manager node.logins node.keys (answer_in p)).0.effect
        operation_fits None e later tells = ap (cuts_in H) tells ∙ sym (ap (ByEffect start ms wire T) (idle_effect node.manager node.logins node.keys (answer_in p) e))
        operation_fits (Some source) e later tells =
            let r = reply_step node.manager node.logins node.keys (answer_in p) in
            cuts_of_changes H (decision_changes r.0.decided r.0.effect (with_manager node (r.1.0, r.1.1))) later tells ∙ replies_cut (answer_in p)

        response_fits : (purpose : Option Purpose) → Is purpose → (first : List (wire_calls.Call Purpose)) (disks left : List Disk) (outbox : OutboxState) → reply_tells purpose (answer_in p) node first disks left outbox → Fits judgements.Got outbox.sides
        response_fits None e first disks left outbox tells = nothing_told outbox.sides (subst NoCuts (sym tells) tt) no_call (nobody_calls units ready has start past s here serial one found zero_to judged p read some label layer None e refl) refl
        response_fits (Some purposes.Unsolicited) e first disks left outbox tells =
            nothing_told outbox.sides (subst NoCuts (sym tells) tt) no_call (unsolicited_calls units ready has start past s here serial one found zero_to judged p read some label layer (Some purposes.Unsolicited) e refl) refl
        response_fits (Some purposes.Management) e first disks left outbox tells =
            operation_fits (source_in node.manager.operation) refl outbox.sides tells
            ∙ sym (got_as event_none (laws.answers (answer_in p)) (manager_calls units ready has start past s here serial one found zero_to judged p read some label layer (Some purposes.Management) e refl)
            ∙ ap (λ (r : ManagerStep × (Machine × Table)). ByEffect start ms wire T r.0.effect) (step_same T node agreed (answer_in p)))
        response_fits (Some (purposes.Agent place)) e first disks left outbox tells =
            nothing_told outbox.sides (agent_none (served_login node place) place node first disks left outbox tells) no_call
            (agent_calls units ready has start past s here serial one found zero_to judged p read some label layer (Some (purposes.Agent place)) e place refl) refl

      -- the cuts stand first
      operation_first : (source : Option ℕ) (answer : Answer) (later : List Side) → operation_tells source answer node later → CutsFirst later
      operation_first None answer later tells = none later (subst NoCuts (sym tells) tt)
      operation_first (Some source) answer later tells =
          let r = reply_step node.manager node.logins node.keys answer in
          let after = with_manager node (r.1.0, r.1.1) in
          changes_first (decision_changes r.0.decided r.0.effect after) later tells (decision_first r.0.decided r.0.effect after)

      reply_first : (purpose : Option Purpose) (answer : Answer) (first : List (wire_calls.Call Purpose)) (disks left : List Disk) (outbox : OutboxState) → reply_tells purpose answer node first disks left outbox → CutsFirst outbox.sides
      reply_first None answer first disks left outbox tells = none outbox.sides (subst NoCuts (sym tells) tt)
      reply_first (Some purposes.Unsolicited) answer first disks left outbox tells = none outbox.sides (subst NoCuts (sym tells) tt)
      reply_first (Some purposes.Management) answer first disks left outbox tells = operation_first _ answer outbox.sides tells
      reply_first (Some (purposes.Agent place)) answer first disks left outbox tells = none outbox.sides (agent_none (served_login node place) place node first disks left outbox tells)

      pub delivery_first : (f : Finding Purpose) (first : List (wire_calls.Call Purpose)) (disks left : List Disk) (outbox : OutboxState) → delivery_tells f node first disks left outbox → CutsFirst outbox.sides
      delivery_first of_generation first disks left outbox tells = none outbox.sides (subst NoCuts (sym tells) tt)
      delivery_first of_grammar first disks left outbox tells = none outbox.sides (subst NoCuts (sym tells) tt)
      delivery_first of_label first disks left outbox tells = none outbox.sides (subst NoCuts (sym tells) tt)
      delivery_first (of_again p rcode) first disks left outbox tells = none outbox.sides (subst NoCuts (sym tells) tt)
      delivery_first (of_response p label purpose) first disks left outbox tells = reply_first purpose (answer_in p) first disks left outbox tells
      delivery_first (of_request p) first disks left outbox tells = changes_first _ outbox.sides tells (request_first _ p node)

      -- ---- whatever it is found to be
      abbrev Given : Finding Purpose → Layer Purpose → Option Told → Judged × Whole
      Given f layer run = received_as run one.bytes f (with_layer layer (whole_of node s.media))

      abbrev IsCut : Finding Purpose → Judged → OutboxState → Type 0
      IsCut f judged outbox = (first : List (wire_calls.Call Purpose)) (disks left : List Disk) → delivery_tells f node first disks left outbox → Fits judged outbox.sides

      by_finding : (run : Option Told) (f : Finding Purpose) (layer : Layer Purpose) (outbox : OutboxState) → judging_step node.layer one.generation one.bytes ≡ (f, layer) → IsFound f node.layer layer one.bytes
          → AreJudged (said (judged_note serial (Given f layer run).0) ∷ ms) → IsCut f (Given f layer run).0 outbox
      unfolding request_step is_barred
      by_finding run of_generation layer outbox e f j first disks left tells = ap (cuts_in H) tells
      by_finding run of_grammar layer outbox e f j first disks left tells = ap (cuts_in H) tells
      by_finding run of_label layer outbox e f j first disks left tells = ap (cuts_in H) tells
      by_finding run (of_again p rcode) layer outbox e f j first disks left tells = ap (cuts_in H) tells
      by_finding run (of_response p label purpose) layer outbox e f j first disks left tells = response_fits j p f.read f.kind label layer purpose e first disks left outbox tells
      by_finding run (of_request p) layer outbox e f j first disks left tells =
          let at = scene (record node { layer = layer }) empty_outbox in
          cuts_of_changes H _ outbox.sides tells
          ∙ bar_fits p f.1.read (no_kind (reply_kind p) f.1.kind) (is_barred node p) (answered p one.bytes address_error [] at) (serve p one.bytes at) (with_layer layer (whole_of node s.media)) refl

      pub target_due : (run : Option Told) → (let x = received run one.generation one.bytes (whole_of node s.media) in AreJudged (said (judged_note serial x.0) ∷ ms) → Fits x.0 x.1.outbox.sides)
      unfolding received
      target_due run j =
          let f = judging_step node.layer one.generation one.bytes in
          let x = received run one.generation one.bytes (whole_of node s.media) in
          by_finding run f.0 f.1 x.1.outbox refl (found_as node.layer one.generation one.bytes) j (first_of (receives run s.media.disks one.generation one.bytes)) s.media.disks x.1.disks (side_law.deliveries run s.media.disks one.generation one.bytes node)

      pub target_first : (run : Option Told) → CutsFirst (received run one.generation one.bytes (whole_of node s.media)).1.outbox.sides
      target_first run =
          let f = judging_step node.layer one.generation one.bytes in
          let x = received run one.generation one.bytes (whole_of node s.media) in
          delivery_first f.0 (first_of (receives run s.media.disks one.generation one.bytes)) s.media.disks x.1.disks x.1.outbox (side_law.deliveries run s.media.disks one.generation one.bytes node)

  -- ---- the other calls
  pub late_due : (serial : ℕ) (rest : List Note) → cuts_due start T (turn ms (said (notes.TimedOut serial)) rest) ≡ []
  late_due serial rest =
      ap (λ ns. ns ++ ByEffect start ms wire T (EffectOf T (call_by (said (notes.TimedOut serial)) T wire))) (late_cuts start ms wire T (is_serial (sender_in (wire.sent serial)) 0) serial)
      ∙ ap (ByEffect start ms wire T) (timed_out_effect T wire serial)

  -- a sight of a generation that is new to the target
  abbrev g : ℕ
  g = w.generations.latest.generation

  sights_due : (b : Bool) → cuts_in H (cond b (reset_changes node) []) ≡ cond b (cuts_where start ms wire T cuts.Reset (λ place. true)) []
  sights_due true = cuts_before H (by_place (cut_of cuts.Reset node)) (by_place (held_of node)) (held_all_none node) ∙ all_places cuts.Reset
  sights_due false = refl

  pub sight_due : cuts_in H (cond (nat_lt node.layer.generation g) (reset_changes node) []) ≡ cond (not (nat_eq g (wire.generation 0))) (cuts_where start ms wire T cuts.Reset (λ place. true)) []
  sight_due =
      let a = ages units ready has start w here.holds in
      sights_due (nat_lt node.layer.generation g) ∙ ap (λ b. cond b (cuts_where start ms wire T cuts.Reset (λ place. true)) []) (sym (seen_test node.layer.generation g (wire.generation 0) a.below a.same))

-- ---- the turns of the calls
line_cuts : (start : List Disk) (line : ℕ) (s : Scene) (past : List Moment) (event : LineEvent) (rest : List Note) → Brings line s event rest → CutsWhereDue start (turn past (asked line event) rest)
line_cuts start line s past event rest (calls is_event c) = refl
line_cuts start line s past event rest (refuses is_event number) = refl
line_cuts start line s past event rest (refuses_action i action number e) = refl
line_cuts start line s past event rest (resets physical generation e) = refl
line_cuts start line s past event rest (loses serial) = refl
line_cuts start line s past event rest (sets_key unit key) = refl
line_cuts start line s past event rest (injects i bytes serial generation from to) = refl

end_cuts : (start : List Disk) (past : List Moment) (done : Bool) → CutsWhereDue start (turn past (said (end_note done)) [])
end_cuts start past true = refl
end_cuts start past false = refl

-- the places are as before the call
pub marked_holder : (serial : ℕ) (again : Bool) (v : WorldState) (p : ℕ) → holder (marked serial again v) p ≡ holder v p
marked_holder serial again v p = by (again || not (is_flying serial v.store.kept))
  where
    by : (b : Bool) → holder (cond b v (record v { store = deliver_step v.store serial })) p ≡ holder v p
    by true = refl
    by false = refl

-- an initiator sees a generation
away : (i : ℕ) (b : Bool) (ns : List Note) → cond (nat_eq (suc i) 0 && b) ns [] ≡ []
away i b ns = let other : nat_eq (suc i) 0 ≡ false = grind arith in ap (λ x. cond (x && b) ns []) other

module _ (units ready : ℕ) (has : 0 < units) (start : List Disk) where
  abbrev of_own : (node weight : ℕ) (outbox : OutboxState) (w : WorldState) → AreOwn outbox.sides → of_kind is_cut_note (handed node weight outbox w) ≡ []
  of_own = own_handed is_cut_note is_told no_own

  pub cuts_cases : Cases units ready start (CutsWhereDue start)
  cuts_cases = record {
    heard = λ past s serial again run one found zero_to may others here behind noted.
        let x = received run one.generation one.bytes (whole_of s.world.target s.media) in
        target_cuts (holder s.world) x.1.outbox (with_note (judged_note serial x.0) (marked serial again (with_target x.1.node s.world))) (λ p. marked_holder serial again (with_target x.1.node s.world) p) others
        (target_first units ready has start past s here serial one found zero_to run)
        ∙ target_due units ready has start past s here serial one found zero_to run noted.judged ∙ sym (due_is units ready has start past s here serial one found x.0 []);
    heard_own = λ past s serial again one i found to_is inside own here behind judged.
        of_own (suc i) 0 _ _ own ∙ sym (due_is units ready has start past s here serial one found _ [] ∙ own_due units ready has start past s here serial one found i to_is _);
    late = λ past s serial request done t found node_is e others here behind judged.
        let none_told = lapse_none request.peer request.label s.world.target done t e in
        target_cuts (holder s.world) t.outbox (with_note (notes.TimedOut serial) (with_target t.node s.world)) (λ p. refl) others (none t.outbox.sides none_told) ∙ no_cuts_in (holder s.world) t.outbox.sides none_told
        ∙ sym (late_due units ready has start past s here serial []);
    late_own = λ past s serial request i outbox state found node_is inside e own here behind judged. of_own (suc i) 0 outbox _ own ∙ sym (late_due units ready has start past s here serial []);
    sees = λ past s others here behind judged.
        let g = s.world.generations.latest in
        let told = side_law.sights g.generation (id_of g 0) s.world.target in
        target_cuts (holder s.world) _ _ (λ p. refl) others (subst CutsFirst (sym told) (sight_first g.generation s.world.target)) ∙ ap (cuts_in (holder s.world)) told ∙ sight_due units ready has start past s here;
    sees_own = λ past s i inside own here behind judged.
        let ms = hist past s.world in
        of_own (suc i) 0 _ _ own
        ∙ sym (away i (not (nat_eq s.world.generations.latest.generation ((terms ms).generation 0))) (cuts_where start ms (terms ms) (over (target_at start ms)) cuts.Reset (λ place. true)));
    ticks = λ past s others here behind judged.
        let told = side_law.seconds s.world.target in
        let none_told = expired_none (expired_ids s.world.target.logins.places) in
        target_cuts (holder s.world) _ _ (λ p. refl) others (subst CutsFirst (sym told) (none _ none_told)) ∙ ap (cuts_in (holder s.world)) told ∙ no_cuts_in (holder s.world) _ none_told;
    ends = λ past s done here behind. end_cuts start (hist past s.world) done;
    acts = λ past s line i action outbox state inside e own here behind. of_own (i + 1) (weight_in action) outbox _ own;
    lines = λ past s line event rest behind brings fresh here there. line_cuts start line s (hist past s.world) event rest brings;
    begins = λ line initiators is_ready. refl;
  }

pub cuts_law : CutsLaw
cuts_law = of_every_run CutsWhereDue (λ units ready start has. cuts_cases units ready has start)
