-- Requests that a target serves, and its other calls, change its agents as its notes do.
use Rattle.sbp_world.proofs.Words.Std.{arith, ◌≡◌, ◌∙◌, refl, sym, ap, subst, ℕ, zero, suc, ◌+◌, ◌<◌, nat_eq, Bool, true, false, cond, List, [], length, map, Option, Some, None, Result, Ok, Err, slice_index_or, slice_set, nat_tests, length-map}
use Rattle.sbp_world.proofs.Words.Wire.{Packet, header_in, Asked, Body, Layer, asking_step, seeing_step, OutboxState, empty_outbox}
use Rattle.sbp_world.proofs.Words.Target.{Login, Table, expired_ids, is_live, place_at, ManagerStep, Busy, Access, Demand, Desk, Purpose, cut, disabled, new_desk, ask_manager, lose_operation, lost_in, manager_asked, manager_body, manager_lost, manager_sent, tell_failed, NodeState, Scene, desk_at, scene, with_desk, cleared_node, expired_from, held_from, reset_by, target_seen, tell_held, target_ticked, answer_step, request_step, sent_by, with_side, accessed_by, answered, enabled, served_as, start, started_by, cut_all}
use Rattle.sbp_world.proofs.Words.Initiator.{Ask, FailCause, NoLabel}
use Rattle.sbp_world.proofs.Words.Laws.{Agent, cut_agent}
use Rattle.sbp_world.proofs.Words.World.{Office, AreOf, accessed, Request, agent_in, crew_sides}
use Rattle.std.proofs.lemmas.List.{get_or-map}
use Rattle.label_table.proofs.Owned.{set_at}
use Rattle.mgmt_agent.specs.Machine as management
use Rattle.sbp_journal.specs.declared.cause.CutCause.TheVariants as cuts
use Rattle.sbp_journal.specs.declared.side.Side.TheVariants as sides
use Rattle.target_base.specs.declared.address.Access.TheVariants as accesses
use Rattle.target_base.specs.declared.address.Demand.TheVariants as demands
use Rattle.sbp_target.specs.declared.purpose.Purpose.TheVariants as purposes
use Rattle.sbp_target.proofs.Histories.Calling.{Good}
use Rattle.sbp_target.proofs.Histories.Following.{IsServed}
use Rattle.sbp_world.proofs.Agents.Management.Calm.{AreQuiet, Calm, From, accesses_by, answers, cuts_all}
use Rattle.sbp_world.specs.Agents.Calls.{demanded, seen}
use Rattle.sbp_world.proofs.Agents.Calls.{AllSettled, Behind, IsUnmoved, all_terms_cut, cut_all_settled, idle_behind, one_term_cut, same_desks, settled_of, turned_behind, unmoved_settled}
use Rattle.sbp_world.proofs.Agents.Cuts.{AreCut, IsKept, all_cut, kept_self, place_cut}
use Rattle.sbp_world.proofs.Agents.Lists.{AreNoEntries, crew_more, entries_more, quiet_entries}
use Rattle.sbp_world.proofs.Agents.Registers.{points, rings_turn}

-- ---- a register of an agent
module _ {requests : List Request} (node : NodeState) (g : Good node) (agents : List Agent) (is : AreOf requests agents node) (o : Office) (layer : Layer Purpose) (from : From g.lives layer) (p : Packet) (bytes : List ℕ) where
  abbrev over_layer : NodeState
  over_layer = record node { layer = layer }

  abbrev begun : Scene
  begun = scene over_layer empty_outbox

  own : AllSettled requests agents node
  own = settled_of agents node g is

  calm : Calm g.lives node begun
  calm = record { logins = refl; keys = refl; manager = refl; rom = refl; quiet = tt; from = from }

  quiet_access : (access : Access) (place : ℕ) → AreQuiet (accessed_by access place p bytes begun).outbox.sides
  quiet_access access place = (accesses_by g.lives node access place p bytes begun calm).quiet

  unmoved_behind : (s : Scene) → s.node.desks ≡ node.desks → AreNoEntries s.outbox.sides → Behind requests o agents s
  unmoved_behind s e none = idle_behind o agents s none (unmoved_settled agents node s.node (same_desks node s.node e) own)

  enabled_unmoved : (place : ℕ) → place < 8 → IsUnmoved node (enabled place begun).node
  enabled_unmoved place b =
      let d : Desk = record (desk_at node place) { is_enabled = true } in
      let at : (k : ℕ) → desk_at (with_desk over_layer place d) k ≡ cond (nat_eq k place) d (desk_at node k) = λ k. set_at node.desks place k d new_desk (let s = g.mid.size in omega arith) in
      record {
        agent = λ k l. ap (λ (x : Desk). x.agent) (at k) ∙ agent_by (nat_eq k place) k refl;
        pointer = λ k l. ap (λ (x : Desk). x.pointer) (at k) ∙ pointer_by (nat_eq k place) k refl;
        kept = λ k l. subst (λ (x : Desk). IsKept (desk_at node k) x) (sym (at k)) (kept_by (nat_eq k place) k refl);
      }
    where
      kept_by : (x : Bool) (k : ℕ) → nat_eq k place ≡ x → IsKept (desk_at node k) (cond x (record (desk_at node place) { is_enabled = true }) (desk_at node k))
      kept_by true k f = let same : k ≡ place = grind (arith, nat_tests) in subst (λ (i : ℕ). IsKept (desk_at node i) (record (desk_at node place) { is_enabled = true })) (sym same) (record { main = refl; ahead = refl })
      kept_by false k f = kept_self (desk_at node k)

      agent_by : (x : Bool) (k : ℕ) → nat_eq k place ≡ x → (cond x (record (desk_at node place) { is_enabled = true }) (desk_at node k)).agent ≡ (desk_at node k).agent
      agent_by true k f = let same : k ≡ place = grind (arith, nat_tests) in ap (λ (i : ℕ). (desk_at node i).agent) (sym same)
      agent_by false k f = refl

      pointer_by : (x : Bool) (k : ℕ) → nat_eq k place ≡ x → (cond x (record (desk_at node place) { is_enabled = true }) (desk_at node k)).pointer ≡ (desk_at node k).pointer
      pointer_by true k f = let same : k ≡ place = grind (arith, nat_tests) in ap (λ (i : ℕ). (desk_at node i).pointer) (sym same)
      pointer_by false k f = refl

  reset_behind : (place : ℕ) → place < 8 → Behind requests o (slice_set agents place (cut_agent (agent_in agents place))) (answered p bytes 0 [] (cut cuts.AgentReset place begun))
  reset_behind place b =
      let c = place_cut cuts.AgentReset place begun b g.mid.size in
      let s = answered p bytes 0 [] (cut cuts.AgentReset place begun) in
      let later : AreCut (λ k. nat_eq k place) over_layer s.node = record { size = c.size; logins = c.logins; agent = c.agent; pointer = c.pointer; kept = c.kept } in
      idle_behind o (slice_set agents place (cut_agent (agent_in agents place))) s (quiet_entries s.outbox.sides (quiet_access accesses.Reset place))
      (cut_all_settled (λ k. nat_eq k place) agents (slice_set agents place (cut_agent (agent_in agents place))) over_layer s.node later (one_term_cut agents place is.size b)
      (unmoved_settled agents node over_layer (same_desks node over_layer refl) own))

  access_behind : (access : Access) (place : ℕ) → place < 8 → IsServed node place → Behind requests o (accessed access place agents) (accessed_by access place p bytes begun)
  access_behind accesses.State place b i = unmoved_behind (accessed_by accesses.State place p bytes begun) refl (quiet_entries _ (quiet_access accesses.State place))
  access_behind accesses.Reset place b i = reset_behind place b
  access_behind (accesses.Point pointer) place b i =
      turned_behind agents node own place b o _ _ (quiet_access (accesses.Point pointer) place) (points node g place b (agent_in agents place) (is.each place b) layer i.login p bytes pointer i.is)
  access_behind accesses.Pointer place b i = unmoved_behind (accessed_by accesses.Pointer place p bytes begun) refl (quiet_entries _ (quiet_access accesses.Pointer place))
  access_behind accesses.Ring place b i =
      turned_behind agents node own place b o _ _ (quiet_access accesses.Ring place) (rings_turn node g place b (agent_in agents place) (is.each place b) layer i.login p bytes i.is)
  access_behind accesses.Enable place b i =
      let s = accessed_by accesses.Enable place p bytes begun in
      let u = enabled_unmoved place b in
      idle_behind o agents s (quiet_entries _ (quiet_access accesses.Enable place)) (unmoved_settled agents node s.node (record { agent = u.agent; pointer = u.pointer; kept = u.kept }) own)

-- ---- what the management operation asks for leaves the agents alone
pub record Keeps (before s : Scene) : Type 0 where
  pub desks : s.node.desks ≡ before.node.desks
  pub entries : AreNoEntries before.outbox.sides → AreNoEntries s.outbox.sides
  pub crew : (o : Office) (agents now : List Agent) → crew_sides before.outbox.sides o agents ≡ now → crew_sides s.outbox.sides o agents ≡ now

failed_entries : (source : ℕ) (cause : Option FailCause) (o : OutboxState) → AreNoEntries o.sides → AreNoEntries (tell_failed source cause o).sides
failed_entries source None o h = h
failed_entries source (Some cause) o h = entries_more o.sides (sides.ManageFailed source cause) h tt

pub failed_crew : (source : ℕ) (cause : Option FailCause) (b : OutboxState) (o : Office) (agents now : List Agent) → crew_sides b.sides o agents ≡ now → crew_sides (tell_failed source cause b).sides o agents ≡ now
failed_crew source None b o agents now h = h
failed_crew source (Some cause) b o agents now h = crew_more b.sides (sides.ManageFailed source cause) o agents ∙ h

lost_with : (source : ℕ) (s : Scene) (r : ManagerStep × (management.Machine × Table)) → Keeps s (manager_lost source s r)
lost_with source s (step, (m, t)) = record { desks = refl; entries = failed_entries source step.failed s.outbox; crew = failed_crew source step.failed s.outbox }

lost_keeps : (source : Option ℕ) (s : Scene) → Keeps s (lost_in source s)
lost_keeps None s = record { desks = refl; entries = λ h. h; crew = λ o agents now h. h }
lost_keeps (Some source) s = lost_with source s (management.reply_step s.node.manager s.node.logins s.node.keys NoLabel)

sent_keeps : (s : Scene) (source : ℕ) (r : Option Asked × Layer Purpose) → Keeps s (manager_sent s.node (sent_by r s.outbox source))
unfolding lose_operation
sent_keeps s source (Some asked, layer) = record { desks = refl; entries = λ h. h; crew = λ o agents now h. h }
sent_keeps s source (None, layer) =
    let t = scene (record s.node { layer = layer }) s.outbox in
    let k = lost_keeps (management.source_in t.node.manager.operation) t in record { desks = k.desks; entries = k.entries; crew = k.crew }

asked_keeps : (body : Option Body) (source : ℕ) (s : Scene) → Keeps s (manager_asked body source s)
unfolding request_step
asked_keeps None source s = record { desks = refl; entries = λ h. h; crew = λ o agents now h. h }
asked_keeps (Some body) source s = sent_keeps s source (asking_step s.node.layer source body purposes.Management)

pub ask_keeps : (source : ℕ) (ask : Ask) (s : Scene) → Keeps s (ask_manager source ask s)
unfolding ask_manager
ask_keeps source ask s = asked_keeps (manager_body ask s.node.manager.outgoing) source s

started_keeps : (source : ℕ) (request : Packet) (bytes : List ℕ) (r : Result Ask Busy × management.Machine) (s : Scene) → Keeps s (started_by source request bytes r s)
unfolding answer_step
started_keeps source request bytes (Ok ask, m) s =
    let k = ask_keeps source ask (answered request bytes 0 [] (scene (record s.node { manager = m }) s.outbox)) in record { desks = k.desks; entries = k.entries; crew = k.crew }
started_keeps source request bytes (Err busy, m) s = record { desks = refl; entries = λ h. h; crew = λ o agents now h. h }

pub start_keeps : (orb : ℕ) (request : Packet) (bytes : List ℕ) (s : Scene) → Keeps s (start orb request bytes s)
unfolding start
start_keeps orb request bytes s = started_keeps (header_in request).source request bytes (management.start_step s.node.manager (header_in request).source orb) s

-- ---- what is asked of the target
module _ {requests : List Request} (node : NodeState) (g : Good node) (agents : List Agent) (is : AreOf requests agents node) (o : Office) (layer : Layer Purpose) (from : From g.lives layer) (p : Packet) (bytes : List ℕ) where
  answered_quiet : (rcode : ℕ) (given : List ℕ) → AreNoEntries (answered p bytes rcode given (scene (record node { layer = layer }) empty_outbox)).outbox.sides
  answered_quiet rcode given =
      quiet_entries _ (answers g.lives node p bytes rcode given (scene (record node { layer = layer }) empty_outbox) (calm node g agents is o layer from p bytes)).quiet

  pub answer_behind : (rcode : ℕ) (given : List ℕ) → Behind requests o agents (answered p bytes rcode given (scene (record node { layer = layer }) empty_outbox))
  answer_behind rcode given = unmoved_behind node g agents is o layer from p bytes (answered p bytes rcode given (scene (record node { layer = layer }) empty_outbox)) refl (answered_quiet rcode given)

  pub demand_behind : (demand : Demand) → ((place : ℕ) (access : Access) → demand ≡ demands.Agent place access → (place < 8) × IsServed node place) → Behind requests o (demanded demand agents) (served_as demand p bytes (scene (record node { layer = layer }) empty_outbox))
  demand_behind (demands.Refused rcode) r = answer_behind rcode []
  demand_behind (demands.Rom at len) r = answer_behind 0 _
  demand_behind (demands.Manage orb) r =
      let k = start_keeps orb p bytes (scene (record node { layer = layer }) empty_outbox) in
      unmoved_behind node g agents is o layer from p bytes (start orb p bytes (scene (record node { layer = layer }) empty_outbox)) k.desks (k.entries tt)
  demand_behind (demands.Agent place access) r = let s = r place access refl in access_behind node g agents is o layer from p bytes access place s.0 s.1

-- ---- a reset is seen, a second passes
pub held_entries : (left place : ℕ) (places : List (Option Login)) (o : OutboxState) → AreNoEntries o.sides → AreNoEntries (held_from left place places o).sides
unfolding held_from
held_entries zero place places o h = h
held_entries (suc left) place places o h = held_entries left (place + 1) places (tell_held (place_at places place) o) (one (place_at places place))
  where
    live : (b : Bool) (login : Login) → AreNoEntries (cond b (with_side o (sides.Held login.login)) o).sides
    live true login = entries_more o.sides (sides.Held login.login) h tt
    live false login = h

    one : (x : Option Login) → AreNoEntries (tell_held x o).sides
    one None = h
    one (Some login) = live (is_live login) login

pub expired_entries : (left at : ℕ) (logins : List ℕ) (o : OutboxState) → AreNoEntries o.sides → AreNoEntries (expired_from left at logins o).sides
unfolding expired_from
expired_entries zero at logins o h = h
expired_entries (suc left) at logins o h =
    let side = sides.Expired (slice_index_or logins at 0) in expired_entries left (at + 1) logins (with_side o side) (entries_more o.sides side h tt)

disabled_at : (desks : List Desk) (p : ℕ) → p < length desks → slice_index_or (map disabled desks) p new_desk ≡ disabled (slice_index_or desks p new_desk)
disabled_at desks p b = get_or-map disabled desks p new_desk new_desk b

module _ {requests : List Request} (node : NodeState) (g : Good node) (agents : List Agent) (is : AreOf requests agents node) (o : Office) where
  still_behind : (s : Scene) → s.node.desks ≡ node.desks → AreNoEntries s.outbox.sides → Behind requests o agents s
  still_behind s e none = idle_behind o agents s none (unmoved_settled agents node s.node (same_desks node s.node e) (settled_of agents node g is))

  sight_by : (r : Bool × Layer Purpose) → From g.lives r.1 → Behind requests o (seen r.0 agents) (reset_by r (scene node empty_outbox)).1
  sight_by (false, layer) f = still_behind (reset_by (false, layer) (scene node empty_outbox)).1 refl tt
  sight_by (true, layer) f =
      let begun = scene (cleared_node layer node) empty_outbox in
      let begun_calm : Calm g.lives (cleared_node layer node) begun = record { logins = refl; keys = refl; manager = refl; rom = refl; quiet = tt; from = f } in
      let t = cut_all cuts.Reset None begun in
      let c = all_cut cuts.Reset None begun g.mid.size in
      let s = (reset_by (true, layer) (scene node empty_outbox)).1 in
      let size : length s.node.desks ≡ 8 = length-map t.node.desks disabled ∙ c.size in
      let at : (k : ℕ) → k < 8 → desk_at s.node k ≡ disabled (desk_at t.node k) = λ k l. disabled_at t.node.desks k (let z = c.size in omega arith) in
      let later : AllSettled requests (map cut_agent agents) t.node = cut_all_settled (λ k. true) agents (map cut_agent agents) (cleared_node layer node) t.node (record { size = c.size; logins = c.logins; agent = c.agent; pointer = c.pointer; kept = c.kept }) (all_terms_cut agents is.size)
      (unmoved_settled agents node (cleared_node layer node) (same_desks node (cleared_node layer node) refl) (settled_of agents node g is)) in
      idle_behind o (map cut_agent agents) s (held_entries 8 0 t.node.logins.places t.outbox (quiet_entries _ (cuts_all g.lives (cleared_node layer node) cuts.Reset None begun begun_calm).quiet))
      (unmoved_settled (map cut_agent agents) t.node s.node (record { agent = λ k l. ap (λ (d : Desk). d.agent) (at k l); pointer = λ k l. ap (λ (d : Desk). d.pointer) (at k l); kept = λ k l. subst (λ (d : Desk). IsKept (desk_at t.node k) d) (sym (at k l)) (record { main = refl; ahead = refl }) }) later)

  pub sight_behind : (generation id : ℕ) → From g.lives (seeing_step node.layer generation id).1 → Behind requests o (seen (seeing_step node.layer generation id).0 agents) (target_seen generation id (scene node empty_outbox)).1
  unfolding target_seen
  sight_behind generation id f = sight_by (seeing_step node.layer generation id) f

  pub second_behind : Behind requests o agents (target_ticked (scene node empty_outbox))
  unfolding target_ticked
  second_behind = still_behind (target_ticked (scene node empty_outbox)) refl (expired_entries (length (expired_ids node.logins.places)) 0 (expired_ids node.logins.places) empty_outbox tt)

  pub call_behind : (s : Scene) → s.node.desks ≡ node.desks → AreNoEntries s.outbox.sides → Behind requests o agents s
  call_behind s e none = still_behind s e none
