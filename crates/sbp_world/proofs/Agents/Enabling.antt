-- Each call of a target leaves each desk whose register is enabled a live login.
use Rattle.sbp_world.proofs.Words.Std.{arith, ◌≡◌, ◌≢◌, ◌∙◌, refl, sym, ap, subst, ℕ, ◌<◌, ◌≤◌, nat_eq, nat_lt, Bool, true, false, cond, List, [], ◌∷◌, length, map, replicate, Option, Some, None, Result, Ok, Err, slice_index_or, get_or-map, nat_tests, common_steps, set_past, false≢true}
use Rattle.sbp_world.proofs.Words.Wire.{LabelParts, Packet, header_in, Stale, Finding, Layer, expiring_step, judging_step, of_again, of_generation, of_grammar, of_label, of_request, of_response, seeing_step, Judged, empty_outbox}
use Rattle.sbp_world.proofs.Words.Target.{Login, Table, is_last, is_live, one_less, login_ticked, Decision, Effect, ManagerStep, Busy, Disk, Told, Access, Demand, demand_of, Desk, Purpose, Call, after, alone, lets_expire, receives, sees, sets_key, ticks, disabled, new_desk, ask_manager, cut_placed, decided_by, effect_by, failed_by, manage, managed_in, managed_with, place_in, with_manager, NodeState, Scene, desk_at, scene, with_desk, answer_in, concluded, expire_agent, expired, expired_in, judged_scene, new_node, received, received_as, reset_by, seen, ticked, timed_out, with_layer, Whole, replied_to, scene_of, whole, accessed_by, answered, is_barred, serve, served_as, start, target_started, cut_all, abort_step, stay, still}
use Rattle.sbp_world.proofs.Words.Initiator.{Ask, Nothing, Answer, Expired}
use Rattle.sbp_world.proofs.Words.World.{ready_logins, after_run, beginning, begun_scene, Office, AreLive, EnabledBetweenLaw, EnabledLaw, HasLive}
use Rattle.label_table.specs.History as wire
use Rattle.label_table.proofs.Owned.{set_at}
use Rattle.mgmt_agent.specs.declared.decision.Effect.TheVariants as effects
use Rattle.mgmt_agent.specs.Machine as management
use Rattle.sbp_journal.specs.declared.cause.CutCause.TheVariants as cuts
use Rattle.sbp_journal.specs.declared.cause.Judged.TheVariants as judgements
use Rattle.sbp_journal.specs.declared.cause.Cause.TheVariants as ignored
use Rattle.target_base.specs.declared.address.Demand.TheVariants as demands
use Rattle.sbp_target.specs.declared.purpose.Purpose.TheVariants as purposes
use Rattle.sbp_target.specs.Serving.{request_step}
use Rattle.sbp_target.proofs.Histories.Calling.{Good}
use Rattle.sbp_target.proofs.Histories.Found.{IsFound, found}
use Rattle.sbp_target.proofs.Histories.Primitives.{Known, closing_known, expiring_known, live_on}
use Rattle.sbp_target.proofs.Histories.Seats.{Lives}
use Rattle.sbp_target.proofs.Histories.Settled.{all_good, reaches}
use Rattle.sbp_world.proofs.Agents.Management.Calls.{barred_same, from_self}
use Rattle.sbp_world.proofs.Agents.Management.Calm as calm
use Rattle.sbp_world.proofs.Agents.Management.Calm.{Calm, From}
use Rattle.sbp_world.proofs.Agents.Management.Managing.{decision_stands}
use Rattle.sbp_world.proofs.Agents.Management.Lines.{all_heard, opens}
use Rattle.sbp_world.proofs.Agents.Management.Runs.{holds_after, no_repeats, not_reset}
use Rattle.sbp_world.proofs.Agents.Management.Still.{hist}
use Rattle.sbp_world.proofs.Agents.Enabled.{Enabled, accesses_by, clears_from, clears_one, cuts_all, cuts_placed, lapses, replies, set_enabled}
use Rattle.sbp_world.proofs.Agents.Hiring.{reply_hires}
use Rattle.sbp_world.proofs.Agents.Serves.{ask_keeps, start_keeps}
use Rattle.sbp_world.proofs.Agents.Sparing.{Spares, reply_spares}
use Rattle.sbp_world.proofs.Hosts.Runs.{are_told}
use Rattle.sbp_target.proofs.Histories.Moved.{ask_manager_moves}
use Rattle.sbp_target.proofs.Histories.Views.{node_left}

same_desks : (Live : ℕ → Type 0) (node now : NodeState) → now.desks ≡ node.desks → Enabled Live node → Enabled Live now
same_desks Live node now e h = subst (λ (ds : List Desk). (place : ℕ) → (slice_index_or ds place new_desk).is_enabled ≡ true → Live place) (sym e) h

-- with these logins
record Kept (logins : Table) (x : Scene) : Type 0 where
  enabled : Enabled (HasLive logins.places) x.node
  logins_are : x.node.logins ≡ logins

live_of : (logins : Table) (x : Scene) → Kept logins x → AreLive x.node
live_of logins x k = subst (λ (t : Table). Enabled (HasLive t.places) x.node) (sym k.logins_are) k.enabled

-- ---- what the operation asks for leaves the logins
pub ask_logins : (source : ℕ) (ask : Ask) (s : Scene) → (ask_manager source ask s).node.logins ≡ s.node.logins
ask_logins source ask s = (node_left still s _ (ask_manager_moves still s tt tt source ask s (stay s))).logins (λ never. never)

asks_kept : (logins : Table) (source : ℕ) (ask : Ask) (s : Scene) → Kept logins s → Kept logins (ask_manager source ask s)
asks_kept logins source ask s k = record {
  enabled = same_desks (HasLive logins.places) s.node (ask_manager source ask s).node (ask_keeps source ask s).desks k.enabled;
  logins_are = ask_logins source ask s ∙ k.logins_are;
}

pub start_logins : (source : ℕ) (p : Packet) (bytes : List ℕ) (r : Result Ask Busy × management.Machine) (s : Scene) → (target_started source p bytes r s).node.logins ≡ s.node.logins
start_logins source p bytes (Ok ask, m) s = ask_logins source ask (answered p bytes 0 [] (scene (record s.node { manager = m }) s.outbox))
start_logins source p bytes (Err busy, m) s = refl

-- ---- an effect, where the logins are others
module _ (old t : Table) where
  widen : (node : NodeState) → ((p : ℕ) → HasLive old.places p → HasLive t.places p) → Enabled (HasLive old.places) node → Enabled (HasLive t.places) node
  widen node f h p e = f p (h p e)

  -- the register of a place is disabled
  off_at : (node : NodeState) (place : ℕ) → (desk_at (with_desk node place (record (desk_at node place) { is_enabled = false })) place).is_enabled ≡ true → ⊥
  off_at node place e = by (nat_lt place (length node.desks)) refl
    where
      d : Desk
      d = record (desk_at node place) { is_enabled = false }

      same : nat_eq place place ≡ true
      same = grind (arith, nat_tests)

      by : (b : Bool) → nat_lt place (length node.desks) ≡ b → ⊥
      by true l =
          let below : place < length node.desks = grind (arith, nat_tests) in
          false≢true (ap (λ (c : Bool). (cond c d (desk_at node place)).is_enabled) (sym same) ∙ sym (ap (λ (x : Desk). x.is_enabled) (set_at node.desks place place d new_desk below)) ∙ e)
      by false l =
          let beyond : length node.desks ≤ place = grind (arith, nat_tests) in
          let none : slice_index_or node.desks place new_desk ≡ new_desk = grind (arith, common_steps) in
          false≢true (sym (ap (λ (x : Desk). x.is_enabled) none) ∙ sym (ap (λ (ds : List Desk). (slice_index_or ds place new_desk).is_enabled) (set_past node.desks place d beyond)) ∙ e)

  off : (node : NodeState) (place : ℕ) → ((p : ℕ) → p ≢ place → HasLive old.places p → HasLive t.places p) → Enabled (HasLive old.places) node → Enabled (HasLive t.places) (with_desk node place (record (desk_at node place) { is_enabled = false }))
  off node place f h p e = by (nat_eq p place) refl
    where
      by : (b : Bool) → nat_eq p place ≡ b → HasLive t.places p
      by true q =
          let same : p ≡ place = grind (arith, nat_tests) in
          absurd (off_at node place (subst (λ k. (desk_at (with_desk node place (record (desk_at node place) { is_enabled = false })) k).is_enabled ≡ true) same e))
      by false q =
          let apart : p ≢ place = λ same. let yes : nat_eq p place ≡ true = grind (arith, nat_tests) in false≢true (sym q ∙ yes) in
          set_enabled (λ k. k ≢ place → HasLive t.places k) node place (record (desk_at node place) { is_enabled = false }) (λ g. absurd (false≢true g)) (λ k g d. f k d (h k g)) p e apart

  effect_keeps : (effect : Effect) (subject : ℕ) (s : Scene) → Spares effect old t → Enabled (HasLive old.places) s.node → Enabled (HasLive t.places) (effect_by effect subject s).node
  effect_keeps effects.Nothing subject s f h = widen s.node f h
  effect_keeps (effects.Entered place replaced) subject s f h =
      set_enabled (HasLive t.places) s.node place (record (desk_at s.node place) { pointer = None; is_enabled = false }) (λ g. absurd (false≢true g)) (widen s.node f.0 h)
  effect_keeps (effects.Back place) subject s f h = widen s.node f h
  effect_keeps (effects.Left place) subject s f h =
      let c = cut_placed (place_in place) cuts.Logout s in
      off c.node place f.0 (cuts_placed (HasLive old.places) (place_in place) cuts.Logout s h)
  effect_keeps (effects.Abort place orb) subject s f h =
      let w = widen s.node f h in
      set_enabled (HasLive t.places) s.node place (record (desk_at s.node place) { agent = abort_step (desk_at s.node place).agent orb }) (λ g. w place g) w
  effect_keeps (effects.AbortSet place) subject s f h = cuts_placed (HasLive t.places) (place_in place) cuts.AbortSet s (widen s.node f h)
  effect_keeps (effects.UnitReset unit) subject s f h =
      clears_one (HasLive t.places) unit (cut_all cuts.UnitReset (Some unit) s) (cuts_all (HasLive t.places) cuts.UnitReset (Some unit) s (widen s.node f h))
  effect_keeps effects.TargetReset subject s f h =
      let c = cut_all cuts.TargetReset None s in
      clears_from (HasLive t.places) (length c.node.units) 0 c (cuts_all (HasLive t.places) cuts.TargetReset None s (widen s.node f h))

-- ---- calls
module _ (node : NodeState) (g : Good node) (h : AreLive node) where
  abbrev Live : ℕ → Type 0
  Live = HasLive node.logins.places

  abbrev office : Office
  office = record { table = node.logins; keys = node.keys; manager = node.manager; manages = None; asks = Nothing; decided = None }

  from_same : (layer : Layer Purpose) → layer ≡ node.layer → From g.lives layer
  from_same layer same = from_self layer g.lives (subst (λ (l : Layer Purpose). Known l g.lives) (sym same) g.mid.known)

  begins : (layer : Layer Purpose) (lives : Lives) → From lives layer → Calm lives (record node { layer = layer }) (scene (record node { layer = layer }) empty_outbox)
  begins layer lives f = record { logins = refl; keys = refl; manager = refl; rom = refl; quiet = tt; from = f }

  decided_enabled : (begun : NodeState) (t : Table) (source : ℕ) (effect : Effect) → Spares effect node.logins t → Enabled Live begun → (decided : Option Decision) → (decided ≡ None → effect ≡ effects.Nothing) → Enabled (HasLive t.places) (decided_by decided effect source (scene begun empty_outbox)).node
  unfolding decided_by
  decided_enabled begun t source effect f e None none = widen node.logins t begun (subst (λ (x : Effect). Spares x node.logins t) (none refl) f) e
  decided_enabled begun t source effect f e (Some d) none = effect_keeps node.logins t effect d.subject (scene begun empty_outbox) f e

  with_live : (source : ℕ) (layer : Layer Purpose) (lives : Lives) → From lives layer → (r : ManagerStep × (management.Machine × Table)) → Spares r.0.effect node.logins r.1.1 → (r.0.decided ≡ None → r.0.effect ≡ effects.Nothing) → AreLive (managed_with source (scene (record node { layer = layer }) empty_outbox) r).node
  with_live source layer lives f (step, (m, t)) spares none =
      let begun = with_manager (record node { layer = layer }) (m, t) in
      let d = decided_by step.decided step.effect source (scene begun empty_outbox) in
      let last = failed_by source step.failed d in
      live_of t (ask_manager source step.ask last) (asks_kept t source step.ask last (record {
        enabled = decided_enabled begun t source step.effect spares h step.decided none;
        logins_are = (decision_stands office lives begun empty_outbox refl f step.decided step.effect source).logins;
      }))

  manage_live : (answer : Answer) (layer : Layer Purpose) (lives : Lives) → From lives layer → AreLive (manage answer (scene (record node { layer = layer }) empty_outbox)).node
  unfolding manage
  manage_live answer layer lives f = by (management.source_in node.manager.operation)
    where
      by : (source : Option ℕ) → AreLive (managed_in source answer (scene (record node { layer = layer }) empty_outbox)).node
      by None = h
      by (Some source) =
          with_live source layer lives f (management.reply_step node.manager node.logins node.keys answer) (reply_spares node.logins node.manager node.keys answer)
          (λ e. (reply_hires node.logins g.table.sound node.manager node.keys answer).none e)

  concluded_live : (run : Option Told) (peer : ℕ) (label : LabelParts) (answer : Answer) (disks : List Disk) (layer : Layer Purpose) (lives : Lives) → From lives layer → (purpose : Option Purpose) → AreLive (concluded run purpose peer label answer (whole (scene (record node { layer = layer }) empty_outbox) disks)).node
  unfolding concluded
  concluded_live run peer label answer disks layer lives f None = h
  concluded_live run peer label answer disks layer lives f (Some (purposes.Agent place)) =
      let w = whole (scene (record node { layer = layer }) empty_outbox) disks in
      live_of node.logins (scene_of (replied_to run place peer label answer w)) (record {
        enabled = replies Live run place peer label answer w h;
        logins_are = (calm.replies lives (record node { layer = layer }) run place peer label answer w (begins layer lives f)).logins;
      })
  concluded_live run peer label answer disks layer lives f (Some purposes.Management) = manage_live answer layer lives f
  concluded_live run peer label answer disks layer lives f (Some purposes.Unsolicited) = h

  -- ---- a request
  module _ (p : Packet) (bytes : List ℕ) (layer : Layer Purpose) (same : layer ≡ node.layer) where
    abbrev begun : Scene
    begun = scene (record node { layer = layer }) empty_outbox

    start_live : (orb : ℕ) → AreLive (start orb p bytes begun).node
    unfolding start
    start_live orb =
        live_of node.logins (start orb p bytes begun) (record {
          enabled = same_desks Live node (start orb p bytes begun).node (start_keeps orb p bytes begun).desks h;
          logins_are = start_logins (header_in p).source p bytes (management.start_step node.manager (header_in p).source orb) begun;
        })

    demand_live : (demand : Demand) → ((place : ℕ) (access : Access) → demand ≡ demands.Agent place access → Live place) → AreLive (served_as demand p bytes begun).node
    demand_live (demands.Refused rcode) l = h
    demand_live (demands.Rom at len) l = h
    demand_live (demands.Manage orb) l = start_live orb
    demand_live (demands.Agent place access) l =
        live_of node.logins (accessed_by access place p bytes begun) (record {
          enabled = accesses_by Live access place p bytes begun (l place access refl) h;
          logins_are = (calm.accesses_by g.lives (record node { layer = layer }) access place p bytes begun (begins layer g.lives (from_same layer same))).logins;
        })

    serve_live : is_barred node p ≡ false → AreLive (serve p bytes begun).node
    unfolding serve
    serve_live b = demand_live (demand_of (length node.rom) p) (λ place access e. let r = reaches node g p place access b e in record { login = r.served.login; is = r.served.is; live = r.served.live })

    request_live : AreLive (request_step p bytes begun).1.node
    unfolding request_step
    request_live = by (is_barred (record node { layer = layer }) p) refl
      where
        by : (b : Bool) → is_barred (record node { layer = layer }) p ≡ b → AreLive (cond {A = Judged × Scene} b (judgements.Ignored ignored.Login, answered p bytes 7 [] begun) (judgements.Got, serve p bytes begun)).1.node
        by true e = h
        by false e = serve_live (sym (barred_same node g office (record { table = refl; keys = refl; manager = refl }) p bytes layer same) ∙ e)

  as_judged : (r : Judged × Scene) (w : Whole) → AreLive r.1.node → AreLive (judged_scene r w).1.node
  as_judged (judged, s) w l = l

  found_live : (run : Option Told) (disks : List Disk) (generation : ℕ) (bytes : List ℕ) (f : Finding Purpose) (layer : Layer Purpose) → judging_step node.layer generation bytes ≡ (f, layer) → IsFound f node.layer layer bytes → AreLive (received_as run bytes f (with_layer layer (whole (scene node empty_outbox) disks))).1.node
  found_live run disks generation bytes of_generation layer e f = h
  found_live run disks generation bytes of_grammar layer e f = h
  found_live run disks generation bytes of_label layer e f = h
  found_live run disks generation bytes (of_response p label purpose) layer e f =
      let c = closing_known node.layer layer g.lives generation bytes p label purpose g.mid.known e f.kind in
      let lives = live_on (wire.closed (header_in p).source label c.kind purpose) g.lives in
      concluded_live run (header_in p).source label (answer_in p) disks layer lives (from_self layer lives c.known) purpose
  found_live run disks generation bytes (of_again p rcode) layer e f = h
  found_live run disks generation bytes (of_request p) layer e f =
      as_judged (request_step p bytes (scene (record node { layer = layer }) empty_outbox)) (with_layer layer (whole (scene node empty_outbox) disks)) (request_live p bytes layer f.0)

  delivery_live : (run : Option Told) (disks : List Disk) (generation : ℕ) (bytes : List ℕ) → AreLive (received run generation bytes (whole (scene node empty_outbox) disks)).1.node
  unfolding received
  delivery_live run disks generation bytes = found_live run disks generation bytes (judging_step node.layer generation bytes).0 (judging_step node.layer generation bytes).1 refl (found node.layer generation bytes)

  -- ---- a time-out
  lapse_for : (peer : ℕ) (label : LabelParts) (layer : Layer Purpose) (lives : Lives) → From lives layer → (purpose : Option Purpose) → AreLive (timed_out purpose peer label (scene (record node { layer = layer }) empty_outbox)).node
  lapse_for peer label layer lives f None = h
  lapse_for peer label layer lives f (Some (purposes.Agent place)) =
      let s = scene (record node { layer = layer }) empty_outbox in
      live_of node.logins (expire_agent place peer label s) (record { enabled = lapses Live place peer label s h; logins_are = (calm.expires_agent lives (record node { layer = layer }) place peer label s (begins layer lives f)).logins })
  lapse_for peer label layer lives f (Some purposes.Management) = manage_live Expired layer lives f
  lapse_for peer label layer lives f (Some purposes.Unsolicited) = h

  lapse_by : (r : Result (Option Purpose) Stale × Layer Purpose) (peer : ℕ) (label : LabelParts) → expiring_step node.layer peer label ≡ r → AreLive (expired_in r peer label (scene node empty_outbox)).1.node
  lapse_by (Ok purpose, layer) peer label e =
      let x = expiring_known node.layer layer g.lives peer label purpose g.mid.known e in
      let lives = live_on (wire.expired peer label purpose) g.lives in
      lapse_for peer label layer lives (from_self layer lives x.known) purpose
  lapse_by (Err stale, layer) peer label e = h

  lapse_live : (peer : ℕ) (label : LabelParts) → AreLive (alone (lets_expire peer label) node).node
  unfolding expired
  lapse_live peer label = lapse_by (expiring_step node.layer peer label) peer label refl

  -- ---- a sight, and a second
  sight_by : (r : Bool × Layer Purpose) → AreLive (reset_by r (scene node empty_outbox)).1.node
  sight_by (false, layer) = h
  sight_by (true, layer) = λ place e. absurd (false≢true (sym (all_off _ place) ∙ e))
    where
      all_off : (ds : List Desk) (place : ℕ) → (slice_index_or (map disabled ds) place new_desk).is_enabled ≡ false
      all_off ds place = ap (λ (d : Desk). d.is_enabled) (get_or-map disabled ds place new_desk)

  sight_live : (generation id : ℕ) → AreLive (alone (sees generation id) node).node
  unfolding seen
  sight_live generation id = sight_by (seeing_step node.layer generation id)

  ticks_live : (login : Login) → is_live login ≡ true → login_ticked (Some login) ≡ Some login
  ticks_live login e = by login.remaining refl e
    where
      by : (left : Option ℕ) → login.remaining ≡ left → is_live login ≡ true → login_ticked (Some login) ≡ Some login
      by None q l =
          ap (λ (x : Option ℕ). cond (is_last x) None (Some (record login { remaining = one_less x }))) q ∙ ap (λ (x : Option ℕ). Some (record login { remaining = x })) (sym q)
      by (Some seconds) q l = absurd (let x : is_live login ≡ false = rw q refl in false≢true (sym x ∙ l))

  second_live : AreLive (alone ticks node).node
  unfolding ticked
  second_live place e =
      let l = h place e in
      record { login = l.login; is = get_or-map login_ticked node.logins.places place None ∙ ap login_ticked l.is ∙ ticks_live l.login l.live; live = l.live }

-- ---- after every list of calls
none_enabled : (units ready : ℕ) → AreLive (new_node units ready)
none_enabled units ready place e = absurd (false≢true (sym (ap (λ (d : Desk). d.is_enabled) (all_new place)) ∙ e))
  where
    all_new : (place : ℕ) → slice_index_or (replicate 8 new_desk) place new_desk ≡ new_desk
    all_new place = grind (arith, common_steps)

pub all_live : (units ready : ℕ) → 0 < units → (calls : List Call) → AreLive (after units ready calls)
all_live units ready has [] = none_enabled units ready
all_live units ready has (receives run disks generation bytes ∷ calls) = delivery_live (after units ready calls) (all_good units ready calls has) (all_live units ready has calls) run disks generation bytes
all_live units ready has (lets_expire peer label ∷ calls) = lapse_live (after units ready calls) (all_good units ready calls has) (all_live units ready has calls) peer label
all_live units ready has (sees generation id ∷ calls) = sight_live (after units ready calls) (all_good units ready calls has) (all_live units ready has calls) generation id
all_live units ready has (ticks ∷ calls) = second_live (after units ready calls) (all_good units ready calls has) (all_live units ready has calls)
all_live units ready has (sets_key unit key ∷ calls) = all_live units ready has calls

pub enabled_law : EnabledLaw
enabled_law run few has small size short all fit =
    let r = holds_after 0 run run.entries few has small size short all fit in
    subst AreLive r.holds.made (all_live run.units (ready_logins run.initiators run.ready) has r.holds.calls)

pub enabled_between_law : EnabledBetweenLaw
enabled_between_law run few has small size short all fit next event d told may =
    let r = holds_after 0 run run.entries few has small size short all fit in
    let s = after_run (beginning run) run.entries in
    let logins = ready_logins run.initiators run.ready in
    let opened = opens run.units logins has run.start.disks next event s.world (not_reset event d) r.holds in
    let h = all_heard run.units logins has run.start.disks told (are_told told s may) (begun_scene s) opened (no_repeats event (hist r.past s.world) next d) in
    subst AreLive h.made (all_live run.units logins has h.calls)
