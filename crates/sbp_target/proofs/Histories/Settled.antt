-- After each call of a target all is at rest.
use Rattle.std.proofs.Common.{arith, ◌≡◌, ◌≢◌, refl, sym, ap, ◌∙◌, subst, ℕ, zero, suc, ◌+◌, ◌-◌, ◌*◌, ◌/◌, ◌%◌, ◌==◌, ◌<◌, ◌≤◌, ◌&&◌, ◌||◌, not, nat_eq, nat_lt, nat_le, is_some, is_none, Bool, true, false, cond, List, [], ◌∷◌, length, replicate, Option, Some, None, Result, Ok, Err}
use Rattle.std.proofs.lemmas.Bool.Decides.{nat_tests}
use Rattle.std.proofs.lemmas.Grind.{common_steps}
use Rattle.std.proofs.Math.ListN.{length-set}
use Rattle.std.proofs.lemmas.List.{length-map}
use Rattle.std.proofs.Math.ListN.{get_or-map}
use Rattle.byteorder.specs.Endian.{big_bytes}
use Rattle.async_packet.specs.Labels.{LabelParts}
use Rattle.async_packet.specs.Packet.{Packet, header_in}
use Rattle.label_table.specs.declared.reply.ReplyKind.{ReplyKind}
use Rattle.label_table.specs.declared.reply.Stale.{Stale}
use Rattle.label_table.specs.Layer.{Layer, Finding, of_generation, of_grammar, of_label, of_response, of_again, of_request, answering_step, judging_step, expiring_step, seeing_step, seen_in_generation}
use Rattle.label_table.specs.History as wire
use Rattle.label_table.specs.History.{under_way, closed, expired as timed, forgotten}
use Rattle.login_table.specs.declared.login.Login.{Login}
use Rattle.login_table.specs.Sound.{IsTable}
use Rattle.login_table.specs.Laws.{UnitsBelow}
use Rattle.login_table.specs.Laws as logins
use Rattle.label_table.proofs.Owned.{set_at}
use Rattle.label_table.proofs.Sources.{default_in}
use Rattle.login_table.specs.Table.{Table, new_table, is_live, if_of_node, tick_step}
use Rattle.login_table.proofs.Kept.{after_kept, always}
use Rattle.login_table.proofs.Units.{own_unit, units_stay_below}
use Rattle.login_table.proofs.Holding.{live_until_it_leaves}
use Rattle.orb_layout.specs.declared.ask.Ask.TheVariants.{Read}
use Rattle.orb_layout.specs.declared.management.ManagementOrb.{ManagementOrb}
use Rattle.orb_layout.specs.Replies.{Answer, Expired}
use Rattle.rbc_disk.specs.Disk.{Disk}
use Rattle.rbc_disk.specs.Runs.{Told}
use Rattle.rbc_disk.specs.Units.{new_unit}
use Rattle.mgmt_agent.specs.declared.decision.Decision.{Decision}
use Rattle.mgmt_agent.specs.declared.decision.Effect.{Effect}
use Rattle.mgmt_agent.specs.declared.operation.Operation.{Operation}
use Rattle.mgmt_agent.specs.declared.operation.Phase.TheVariants as steps
use Rattle.mgmt_agent.specs.Effects.{PlaceBelow, calls_on}
use Rattle.mgmt_agent.specs.Decisions.{decide}
use Rattle.mgmt_agent.specs.Machine.{Asks, source_in}
use Rattle.mgmt_agent.specs.Machine as management
use Rattle.mgmt_agent.proofs.Asking.{asks_one_request}
use Rattle.mgmt_agent.proofs.Effects.{decisions_call, replies_call}
use Rattle.mgmt_agent.proofs.Places.{places_of_effects, units_of_effects}
use Rattle.command_agent.specs.Machine.{state_in}
use Rattle.command_agent.specs.Steps.{is_reset, reset_step}
use Rattle.sbp_journal.specs.declared.cause.CutCause.TheVariants as cuts
use Rattle.sbp_journal.specs.declared.cause.Judged.{Judged}
use Rattle.sbp_journal.specs.declared.cause.Judged.TheVariants as judged
use Rattle.sbp_journal.specs.declared.cause.Cause.TheVariants as ignored
use Rattle.sbp_journal.specs.Outgoings.{OutboxState, empty_outbox}
use Rattle.target_base.specs.declared.address.Access.{Access}
use Rattle.target_base.specs.declared.address.Access.TheVariants as accesses
use Rattle.target_base.specs.declared.address.AgentRegister.{AgentRegister}
use Rattle.target_base.specs.declared.address.Register.{Register}
use Rattle.target_base.specs.declared.address.Demand.{Demand}
use Rattle.target_base.specs.declared.address.Demand.TheVariants as demands
use Rattle.sbp_target.specs.declared.purpose.Purpose.{Purpose}
use Rattle.sbp_target.specs.declared.purpose.Purpose.TheVariants as purposes
use Rattle.sbp_target.specs.declared.purpose.Sent.{Sent}
use Rattle.target_base.specs.Addresses.{complete, conflict_error, address_error, agents_start, agent_register, register_by, register_at, offset_in, is_lock, row_of, reached, demand_of}
use Rattle.sbp_target.specs.declared.desk.Desk.{Desk}
use Rattle.sbp_target.specs.Desks.{disabled, new_desk, reset_desk}
use Rattle.sbp_target.specs.Sending.{answer_step}
use Rattle.sbp_target.specs.Nodes.{NodeState, Scene, scene, desk_at, login_at}
use Rattle.sbp_target.specs.Agents.{disowned as given_up, sent_to, cut, cut_node}
use Rattle.sbp_target.specs.Units.{cut_at, cut_from, cut_all}
use Rattle.sbp_target.specs.Replies.{Whole, whole}
use Rattle.sbp_target.specs.Management.{managed_with, managed_in, manage}
use Rattle.target_base.specs.Logins.{is_barred_at}
use Rattle.sbp_target.specs.Serving.{answered, enabled, accessed_by, started_by, start, served_as, serve, is_barred, state_number, last_pointer, pointer_bytes}
use Rattle.sbp_target.specs.Serving as serving
use Rattle.sbp_target.specs.Receiving.{answer_in, concluded, judged_scene, with_layer, received_as, received, timed_out, expired_in, expired, after_reset, cleared_node, reset_by, seen, ticked, with_key, new_node}
use Rattle.target_base.specs.Beginning.{ready_from}
use Rattle.target_base.specs.Beginning.{ready_login}
use Rattle.sbp_target.specs.Calls.{Call, receives, lets_expire, sees, ticks, sets_key, done, after}
use Rattle.sbp_target.proofs.Histories.Found.{IsFound, found}
use Rattle.sbp_target.proofs.Histories.Seats.{was as changed, Lives, IsFor, IsNot, Seat, Hand, split, seat_kept, seat_empty, hand_ends, hand_empty}
use Rattle.sbp_target.proofs.Histories.Primitives.{Known, live_on, closed_off, closed_at, expired_off, expired_at, forgotten_at, nobody_is, disowns_known, seeing_known, new_known, Closing, closing_known, expiring_known, stale_known}
use Rattle.sbp_target.proofs.Histories.Following.{node_of, IsServed, Fits, Mid}
use Rattle.sbp_target.proofs.Histories.Calling.{Good, peer_of, with_layer_good, answer_known, answered_good, cut_scene}
use Rattle.sbp_target.proofs.Histories.Rested.{Ends, some_that, enabled_good, pending_good, foreign_good, replied_good}
use Rattle.sbp_target.proofs.Histories.Answering.{late_good, point_good, ring_good}
use Rattle.sbp_target.proofs.Histories.Managing.{Stays, with_rest, asks_good, reply_stays}
use Rattle.sbp_target.proofs.Histories.Effecting.{effect_in, reply_moves}
use Rattle.sbp_target.proofs.Histories.Managed.{no_request, relogin, Calm, managed_good}
use Rattle.sbp_target.proofs.Reached.{demand_place}

-- ---- a reply to the management operation
table_kept : (calls : List logins.Call) (table : Table) → IsTable table → IsTable (logins.all_after calls table)
table_kept [] table t = t
table_kept (call ∷ calls) table t = after_kept call (logins.all_after calls table) (table_kept calls table t)

place_in_effect : (d : Option Decision) (effect : Effect) → PlaceBelow effect → PlaceBelow (effect_in d effect)
place_in_effect None effect p = tt
place_in_effect (Some d) effect p = p

record IsUnder (operation : Option Operation) (source : ℕ) : Type 0 where
  own : Operation
  is : operation ≡ Some own
  of : own.source ≡ source

under_source : (operation : Option Operation) (source : ℕ) → source_in operation ≡ Some source → IsUnder operation source
under_source None source e = absurd (nothing e)
  where
    nothing : {s : ℕ} → None ≡ Some s → ⊥
    nothing f = cc
under_source (Some operation) source e = record { own = operation; is = refl; of = same e }
  where
    same : {s : ℕ} → Some operation.source ≡ Some s → operation.source ≡ s
    same f = cc

replied_step : (source : ℕ) (answer : Answer) (s : Scene) → Calm s.node → IsTable s.node.logins → UnitsBelow (length s.node.keys) s.node.logins → source_in s.node.manager.operation ≡ Some source → Good (managed_with source s (management.reply_step s.node.manager s.node.logins s.node.keys answer)).node
replied_step source answer s g t u e =
    let m = s.node.manager in
    let table = s.node.logins in
    let keys = s.node.keys in
    let r = management.reply_step m table keys answer in
    let c = replies_call m table keys answer in
    let under = under_source m.operation source e in
    let few = λ (orb : ManagementOrb) (eui : ℕ). few_of (decide orb under.own.source eui table keys).1 (subst (λ (x : Table). IsTable x) (sym (decisions_call orb under.own.source eui table keys)) (table_kept (calls_on orb under.own.source eui keys) table t)) in
    managed_good source s r g
    (record {
      place = place_in_effect r.0.decided r.0.effect (places_of_effects m table keys answer t);
      moves = reply_moves m table keys answer;
      table = subst (λ (x : Table). IsTable x) c.made (table_kept c.calls table t);
      below = units_of_effects.kept m table keys answer u;
    })
    (asks_one_request.reply m table keys answer (ap (λ (x : Option ℕ). is_some x) e))
    (subst (λ (n : ℕ). Stays n (r.0, r.1.0)) under.of (reply_stays m table keys under.own few answer under.is))
  where
    few_of : (x : Table) → IsTable x → length x.places ≤ 8
    few_of x t = let z = t.sound.size in omega arith

-- the request of the operation is over
module _ (node : NodeState) (g : Good node) (x : Sent) (new : Lives) (layer : Layer Purpose) (e : Ends x g.lives new layer) (f : IsFor g.lives purposes.Management x) where
  hand_is : g.request ≡ Some x
  hand_is = some_that g.request x.peer x.label (g.mid.hand.own x.peer x.label f.kind f.life)

  other_agent : (p : ℕ) → IsNot (purposes.Agent p) (g.lives x.peer x.label)
  other_agent p kind h = unlike (sym f.life ∙ h)
    where
      unlike : {k kind : ReplyKind} → under_way k (Some purposes.Management) ≡ under_way kind (Some (purposes.Agent p)) → ⊥
      unlike z = cc

  calm_over : Calm (record node { layer = layer })
  calm_over = record {
    lives = new;
    request = None;
    mid = record {
      known = e.known;
      size = g.mid.size;
      seats = λ p s. seat_kept p (node_of (login_at node p)) g.lives new x.peer x.label e.off (desk_at node p).main (desk_at node p).ahead (g.mid.seats p s) (other_agent p) (e.none (purposes.Agent p));
      fits = g.mid.fits;
      served = λ p s n r. let i = g.mid.served p s n r in record { login = i.login; is = i.is; live = i.live; on_unit = i.on_unit };
      hand = hand_ends g.lives new x e.off (subst (λ (r : Option Sent). Hand r g.lives) hand_is g.mid.hand) (e.none purposes.Management);
      beyond = λ p s r l kind h. let c = changed g.lives new (purposes.Agent p) x.peer x.label r l kind e.off (e.none (purposes.Agent p)) h in g.mid.beyond p s r l kind c.1;
    };
    keys = g.keys;
    source = refl;
    table = g.table;
    below = g.below;
  }

  pub manage_good : (answer : Answer) (o : OutboxState) → Good (manage answer (scene (record node { layer = layer }) o)).node
  unfolding manage
  manage_good answer o =
      let under : source_in node.manager.operation ≡ Some x.peer = g.source ∙ ap (λ (r : Option Sent). peer_of r) hand_is in
      subst (λ (z : Option ℕ). Good (managed_in z answer (scene (record node { layer = layer }) o)).node) (sym under)
      (replied_step x.peer answer (scene (record node { layer = layer }) o) calm_over g.table g.below under)

-- ---- a transaction that is over, whatever it was for
module _ (node : NodeState) (g : Good node) (x : Sent) (new : Lives) (layer : Layer Purpose) (e : Ends x g.lives new layer) where
  place_of : (q : ℕ) → IsFor g.lives (purposes.Agent q) x → q < 8
  place_of q f =
      split (nat_lt q 8) (q < 8) (λ h. grind (arith, nat_tests)) (λ h. absurd (g.mid.beyond q (grind (arith, nat_tests)) x.peer x.label f.kind f.life))

  foreign : (purpose : Option Purpose) (kind : ReplyKind) → g.lives x.peer x.label ≡ under_way kind purpose → ((p : ℕ) → purpose ≢ Some (purposes.Agent p)) → purpose ≢ Some purposes.Management → Good (record node { layer = layer })
  foreign purpose kind l na nm =
      foreign_good node layer new x.peer x.label g e.known e.off (λ p k h. na p (same (sym l ∙ h))) (λ k h. nm (same (sym l ∙ h))) (λ p. e.none (purposes.Agent p)) (e.none purposes.Management)
    where
      same : {a b : ReplyKind} {q r : Option Purpose} → under_way a q ≡ under_way b r → q ≡ r
      same z = cc

  pub response_good : (told : Option Told) (purpose : Option Purpose) (kind : ReplyKind) (answer : Answer) (disks : List Disk) (o : OutboxState) → g.lives x.peer x.label ≡ under_way kind purpose → Good (concluded told purpose x.peer x.label answer (whole (scene (record node { layer = layer }) o) disks)).node
  unfolding concluded
  response_good told None kind answer disks o l = foreign None kind l (λ p. none_not) none_not_2
    where
      none_not : {p : ℕ} → None ≢ Some (purposes.Agent p)
      none_not z = cc

      none_not_2 : None ≢ Some purposes.Management
      none_not_2 z = cc
  response_good told (Some (purposes.Agent q)) kind answer disks o l =
      let f : IsFor g.lives (purposes.Agent q) x = record { kind = kind; life = l } in
      replied_good told answer disks q node g (place_of q f) x new layer f e o
  response_good told (Some purposes.Management) kind answer disks o l = manage_good node g x new layer e (record { kind = kind; life = l }) answer o
  response_good told (Some purposes.Unsolicited) kind answer disks o l =
      pending_good (record node { layer = layer }) _ (foreign (Some purposes.Unsolicited) kind l (λ p. some_not) some_not_2)
    where
      some_not : {p : ℕ} → Some purposes.Unsolicited ≢ Some (purposes.Agent p)
      some_not z = cc

      some_not_2 : Some purposes.Unsolicited ≢ Some purposes.Management
      some_not_2 z = cc

  pub late_all : (purpose : Option Purpose) (kind : ReplyKind) (o : OutboxState) → g.lives x.peer x.label ≡ under_way kind purpose → Good (timed_out purpose x.peer x.label (scene (record node { layer = layer }) o)).node
  late_all None kind o l = foreign None kind l (λ p. none_not) none_not_2
    where
      none_not : {p : ℕ} → None ≢ Some (purposes.Agent p)
      none_not z = cc

      none_not_2 : None ≢ Some purposes.Management
      none_not_2 z = cc
  late_all (Some (purposes.Agent q)) kind o l =
      let f : IsFor g.lives (purposes.Agent q) x = record { kind = kind; life = l } in late_good q node g (place_of q f) x new layer f e o
  late_all (Some purposes.Management) kind o l = manage_good node g x new layer e (record { kind = kind; life = l }) Expired o
  late_all (Some purposes.Unsolicited) kind o l = foreign (Some purposes.Unsolicited) kind l (λ p. some_not) some_not_2
    where
      some_not : {p : ℕ} → Some purposes.Unsolicited ≢ Some (purposes.Agent p)
      some_not z = cc

      some_not_2 : Some purposes.Unsolicited ≢ Some purposes.Management
      some_not_2 z = cc

-- ---- a request: which agent it reaches
pub record Reaches (node : NodeState) (place : ℕ) : Type 0 where
  pub small : place < 8
  pub served : IsServed node place

inside : (offset : ℕ) → (nat_lt offset agents_start || nat_le (agents_start + 8 * 0x20) offset) ≡ false → offset - agents_start < 256
inside offset e = grind (arith, nat_tests)

eighth : (n : ℕ) → n < 256 → n / 0x20 < 8
eighth n h = omega arith

pub small_place : (offset : ℕ) (found : AgentRegister) → register_at offset ≡ Some found → found.place < 8
unfolding register_at
small_place offset found e = by (nat_lt offset agents_start || nat_le (agents_start + 8 * 0x20) offset) refl e
  where
    of : (r : Option Register) → agent_register ((offset - agents_start) / 0x20) r ≡ Some found → found.place ≡ (offset - agents_start) / 0x20
    of None f = absurd (nothing f)
      where
        nothing : None ≡ Some found → ⊥
        nothing z = cc
    of (Some register) f = place_is f
      where
        place_is : Some (let x : AgentRegister = record { place = (offset - agents_start) / 0x20; register = register } in x) ≡ Some found → found.place ≡ (offset - agents_start) / 0x20
        place_is z = cc

    by : (b : Bool) → (nat_lt offset agents_start || nat_le (agents_start + 8 * 0x20) offset) ≡ b → cond b None (agent_register ((offset - agents_start) / 0x20) (register_by ((offset - agents_start) % 0x20))) ≡ Some found → found.place < 8
    by true g f = absurd (nothing f)
      where
        nothing : None ≡ Some found → ⊥
        nothing z = cc
    by false g f = subst (λ (n : ℕ). n < 8) (sym (of (register_by ((offset - agents_start) % 0x20)) f)) (eighth (offset - agents_start) (inside offset g))

-- the login of an agent that is not barred
unbarred : (node : NodeState) (g : Good node) (place source : ℕ) (login : Option Login) → login_at node place ≡ login → is_none (if_of_node source login) ≡ false → IsServed node place
unbarred node g place source None e b = absurd (nothing b)
  where
    nothing : true ≡ false → ⊥
    nothing z = cc
unbarred node g place source (Some login) e b = record {
  login = login;
  is = e;
  live = live (is_live login) (login.node == source) b;
  on_unit = let u = own_unit (length node.keys) node.logins.places place login g.below e in let k = g.keys in omega arith;
}
  where
    live : (x y : Bool) → is_none (cond (x && y) (Some login) None) ≡ false → x ≡ true
    live true y h = refl
    live false y h = cc

pub reaches : (node : NodeState) (g : Good node) (p : Packet) (place : ℕ) (access : Access) → is_barred node p ≡ false → demand_of (length node.rom) p ≡ demands.Agent place access → Reaches node place
unfolding demand_of is_barred
reaches node g p place access b e =
    let a = demand_place (row_of (reached (length node.rom) p)) (length node.rom) p place access refl e in
    let n : is_barred_at (register_at (offset_in p)) node.logins (header_in p).source ≡ false = unlocked_bar (is_lock p) (is_barred_at (register_at (offset_in p)) node.logins (header_in p).source) a.unlocked b in
    let m : is_none (if_of_node (header_in p).source (login_at node a.found.place)) ≡ false = sym (ap (λ (f : Option AgentRegister). is_barred_at f node.logins (header_in p).source) a.at) ∙ n in
    record {
      small = subst (λ (k : ℕ). k < 8) a.own (small_place (offset_in p) a.found a.at);
      served = subst (λ (k : ℕ). IsServed node k) a.own (unbarred node g a.found.place (header_in p).source (login_at node a.found.place) refl m);
    }
  where
    unlocked_bar : (l x : Bool) → l ≡ false → (not l && x) ≡ false → x ≡ false
    unlocked_bar true x f h = cc
    unlocked_bar false x f h = h

-- ---- MANAGEMENT_AGENT
starts_by : (p : Packet) (bytes : List ℕ) (orb : ℕ) (node : NodeState) (g : Good node) (o : OutboxState) (operation : Option Operation) → node.manager.operation ≡ operation → Good (started_by (header_in p).source p bytes (management.start_with operation node.manager (header_in p).source orb) (scene node o)).node
unfolding answer_step
starts_by p bytes orb node g o None e =
    let source = (header_in p).source in
    let m = record node.manager { operation = Some (record { source = source; orb = orb; phase = steps.Orb }) } in
    let s = answered p bytes complete [] (scene (record node { manager = m }) o) in
    let none = no_request g.request (sym (ap (λ (x : Option Operation). source_in x) e) ∙ g.source) in
    asks_good source (Read orb 32) s (omega arith) refl
    (record {
      lives = g.lives;
      mid = with_rest node (answering_step node.layer p bytes complete []).1 m node.logins g.lives None (subst (λ (r : Option Sent). Mid 8 node g.lives r) none g.mid) refl (answer_known node.layer g.lives p bytes complete [] g.mid.known);
      op = refl;
      keys = g.keys;
      table = g.table;
      below = g.below;
    })
starts_by p bytes orb node g o (Some operation) e = answered_good p bytes conflict_error [] (scene node o) g

-- ---- what a request asks for
module _ (p : Packet) (bytes : List ℕ) (node : NodeState) (g : Good node) (o : OutboxState) where
  access_good : (access : Access) (place : ℕ) → Reaches node place → Good (accessed_by access place p bytes (scene node o)).node
  access_good accesses.State place r = answered_good p bytes complete (big_bytes 4 (state_number (state_in (desk_at node place).agent.phase))) (scene node o) g
  access_good accesses.Reset place r = answered_good p bytes complete [] (cut cuts.AgentReset place (scene node o)) (cut_scene cuts.AgentReset place (scene node o) r.small g)
  access_good (accesses.Point pointer) place r = point_good place node g r.small r.served p bytes pointer o
  access_good accesses.Pointer place r = answered_good p bytes complete (pointer_bytes (last_pointer (desk_at node place).pointer)) (scene node o) g
  access_good accesses.Ring place r = ring_good place node g r.small r.served p bytes o
  access_good accesses.Enable place r = answered_good p bytes complete [] (enabled place (scene node o)) (enabled_good place node r.small g true)

  start_good : (orb : ℕ) → Good (start orb p bytes (scene node o)).node
  unfolding start management.start_step
  start_good orb = starts_by p bytes orb node g o node.manager.operation refl

  demand_good : (demand : Demand) → ((place : ℕ) (access : Access) → demand ≡ demands.Agent place access → Reaches node place) → Good (served_as demand p bytes (scene node o)).node
  demand_good (demands.Refused rcode) r = answered_good p bytes rcode [] (scene node o) g
  demand_good (demands.Rom at len) r = answered_good p bytes complete _ (scene node o) g
  demand_good (demands.Manage orb) r = start_good orb
  demand_good (demands.Agent place access) r = access_good access place (r place access refl)

  serve_good : is_barred node p ≡ false → Good (serve p bytes (scene node o)).node
  unfolding serve
  serve_good b = demand_good (demand_of (length node.rom) p) (λ place access e. reaches node g p place access b e)

  request_if : (b : Bool) (x y : Judged) → is_barred node p ≡ b → Good (cond {A = Judged × Scene} b (x, answered p bytes address_error [] (scene node o)) (y, serve p bytes (scene node o))).1.node
  request_if true x y e = answered_good p bytes address_error [] (scene node o) g
  request_if false x y e = serve_good e

  pub request_good : Good (serving.request_step p bytes (scene node o)).1.node
  unfolding serving.request_step
  request_good = request_if (is_barred node p) (judged.Ignored ignored.Login) judged.Got refl

-- ---- a delivery
closed_ends : (layer after : Layer Purpose) (p : Packet) (label : LabelParts) (purpose : Option Purpose) (lives : Lives) (c : Closing layer after p label purpose lives) → Ends (sent_to (header_in p).source label) lives (live_on (closed (header_in p).source label c.kind purpose) lives) after
closed_ends layer after p label purpose lives c = record {
  off = closed_off (header_in p).source label c.kind purpose lives;
  none = closed_at (header_in p).source label c.kind purpose lives;
  known = c.known;
}

judged_good : (r : Judged × Scene) (disks : List Disk) (w : Whole) → Good r.1.node → Good (judged_scene r w).1.node
judged_good (judged, s) disks w g = g

received_good : (told : Option Told) (generation : ℕ) (bytes : List ℕ) (f : Finding Purpose) (node : NodeState) (g : Good node) (disks : List Disk) (o : OutboxState) (layer : Layer Purpose) → judging_step node.layer generation bytes ≡ (f, layer) → IsFound f node.layer layer bytes → Good (received_as told bytes f (with_layer layer (whole (scene node o) disks))).1.node
received_good told generation bytes of_generation node g disks o layer e f = subst (λ (l : Layer Purpose). Good (record node { layer = l })) (sym f) g
received_good told generation bytes of_grammar node g disks o layer e f = subst (λ (l : Layer Purpose). Good (record node { layer = l })) (sym f) g
received_good told generation bytes of_label node g disks o layer e f = subst (λ (l : Layer Purpose). Good (record node { layer = l })) (sym f) g
received_good told generation bytes (of_response p label purpose) node g disks o layer e f =
    let c = closing_known node.layer layer g.lives generation bytes p label purpose g.mid.known e f.kind in
    response_good node g (sent_to (header_in p).source label) (live_on (closed (header_in p).source label c.kind purpose) g.lives) layer (closed_ends node.layer layer p label purpose g.lives c) told purpose c.kind (answer_in p) disks o c.life
received_good told generation bytes (of_again p rcode) node g disks o layer e f =
    answered_good p bytes rcode [] (scene (record node { layer = layer }) o) (subst (λ (l : Layer Purpose). Good (record node { layer = l })) (sym f.0) g)
received_good told generation bytes (of_request p) node g disks o layer e f =
    judged_good (serving.request_step p bytes (scene (record node { layer = layer }) o)) disks (with_layer layer (whole (scene node o) disks))
    (request_good p bytes (record node { layer = layer }) (subst (λ (l : Layer Purpose). Good (record node { layer = l })) (sym f.0) g) o)

pub delivery_good : (told : Option Told) (disks : List Disk) (generation : ℕ) (bytes : List ℕ) (s : Scene) → Good s.node → Good (received told generation bytes (whole s disks)).1.node
unfolding received
delivery_good told disks generation bytes s g =
    received_good told generation bytes (judging_step s.node.layer generation bytes).0 s.node g disks s.outbox (judging_step s.node.layer generation bytes).1 refl (found s.node.layer generation bytes)

-- ---- a time-out
expired_ends : (after : Layer Purpose) (peer : ℕ) (label : LabelParts) (purpose : Option Purpose) (lives : Lives) → Known after (live_on (timed peer label purpose) lives) → Ends (sent_to peer label) lives (live_on (timed peer label purpose) lives) after
expired_ends after peer label purpose lives k = record { off = expired_off peer label purpose lives; none = expired_at peer label purpose lives; known = k }

expired_by_good : (r : Result (Option Purpose) Stale × Layer Purpose) (peer : ℕ) (label : LabelParts) (s : Scene) (g : Good s.node) → expiring_step s.node.layer peer label ≡ r → Good (expired_in r peer label s).1.node
expired_by_good (Ok purpose, layer) peer label s g e =
    let x = expiring_known s.node.layer layer g.lives peer label purpose g.mid.known e in
    late_all s.node g (sent_to peer label) (live_on (timed peer label purpose) g.lives) layer (expired_ends layer peer label purpose g.lives x.known) purpose x.kind s.outbox x.life
expired_by_good (Err stale, layer) peer label s g e = with_layer_good s.node layer g (stale_known s.node.layer layer g.lives peer label stale g.mid.known e)

pub expiry_good : (peer : ℕ) (label : LabelParts) (s : Scene) → Good s.node → Good (expired peer label s).1.node
unfolding expired
expiry_good peer label s g = expired_by_good (expiring_step s.node.layer peer label) peer label s g refl

-- ---- a later generation is seen: nothing is under way, and the agents are reset one by one
record Swept (from : ℕ) (node : NodeState) : Type 0 where
  lives : Lives
  known : Known node.layer lives
  none : (purpose : Purpose) (p : ℕ) (l : LabelParts) → IsNot purpose (lives p l)
  size : length node.desks ≡ 8
  idle : (p : ℕ) → p < from → (desk_at node p).main ≡ None
  calm : (p : ℕ) → p < from → (desk_at node p).ahead ≡ None
  fits : (p : ℕ) → p < from → Fits (desk_at node p)
  reset : (p : ℕ) → p < from → is_reset (state_in (desk_at node p).agent.phase) ≡ true
  keys : length node.keys ≡ length node.units
  source : source_in node.manager.operation ≡ None
  table : IsTable node.logins
  below : UnitsBelow (length node.keys) node.logins

record Given (sent : Option Sent) (layer : Layer Purpose) : Type 0 where
  lives : Lives
  known : Known (given_up sent layer) lives
  none : (purpose : Purpose) (p : ℕ) (l : LabelParts) → IsNot purpose (lives p l)

nobody_still : (b : Bool) (life : wire.Life Purpose) (purpose : Purpose) → IsNot purpose life → IsNot purpose (cond b (wire.for_nobody life) life)
nobody_still true life purpose h kind e = nobody_is life purpose kind e
nobody_still false life purpose h kind e = h kind e

gives : (sent : Option Sent) (layer : Layer Purpose) (lives : Lives) → Known layer lives → ((purpose : Purpose) (p : ℕ) (l : LabelParts) → IsNot purpose (lives p l)) → Given sent layer
gives None layer lives k n = record { lives = lives; known = k; none = n }
gives (Some x) layer lives k n = record {
  lives = live_on (wire.disowned x.peer x.label) lives;
  known = disowns_known layer lives x.peer x.label k;
  none = λ purpose p l. nobody_still (wire.is_same x.peer x.label p l) (lives p l) purpose (n purpose p l);
}

sweeps : (place : ℕ) (node : NodeState) → place < 8 → Swept place node → Swept (place + 1) (cut_node place node)
unfolding reset_step
sweeps place node b w =
    let was = desk_at node place in
    let d = reset_desk was in
    let one = gives was.main node.layer w.lives w.known w.none in
    let two = gives was.ahead (given_up was.main node.layer) one.lives one.known one.none in
    let here = λ (p : ℕ). set_at node.desks place p d new_desk (let z = w.size in omega arith) in
    let fits : Fits d = record { agent = record { bare = λ e. refl; next = λ e. absurd (untrue e); limit = λ e. absurd (untrue e) }; main = refl; ahead = refl } in
    record {
      lives = two.lives;
      known = two.known;
      none = two.none;
      size = length-set node.desks place d ∙ w.size;
      idle = λ p s. ap (λ (x : Desk). x.main) (here p) ∙ split (nat_eq p place) ((cond (nat_eq p place) d (desk_at node p)).main ≡ None) (λ e. ap (λ (c : Bool). (cond c d (desk_at node p)).main) e) (λ e. ap (λ (c : Bool). (cond c d (desk_at node p)).main) e ∙ w.idle p (before p place s e));
      calm = λ p s. ap (λ (x : Desk). x.ahead) (here p) ∙ split (nat_eq p place) ((cond (nat_eq p place) d (desk_at node p)).ahead ≡ None) (λ e. ap (λ (c : Bool). (cond c d (desk_at node p)).ahead) e) (λ e. ap (λ (c : Bool). (cond c d (desk_at node p)).ahead) e ∙ w.calm p (before p place s e));
      fits = λ p s. subst (λ (x : Desk). Fits x) (sym (here p)) (split (nat_eq p place) (Fits (cond (nat_eq p place) d (desk_at node p))) (λ e. subst (λ (c : Bool). Fits (cond c d (desk_at node p))) (sym e) fits) (λ e. subst (λ (c : Bool). Fits (cond c d (desk_at node p))) (sym e) (w.fits p (before p place s e))));
      reset = λ p s. ap (λ (x : Desk). is_reset (state_in x.agent.phase)) (here p) ∙ split (nat_eq p place) (is_reset (state_in (cond (nat_eq p place) d (desk_at node p)).agent.phase) ≡ true) (λ e. ap (λ (c : Bool). is_reset (state_in (cond c d (desk_at node p)).agent.phase)) e) (λ e. ap (λ (c : Bool). is_reset (state_in (cond c d (desk_at node p)).agent.phase)) e ∙ w.reset p (before p place s e));
      keys = w.keys;
      source = w.source;
      table = w.table;
      below = w.below;
    }
  where
    untrue : false ≡ true → ⊥
    untrue e = cc

    before : (p place : ℕ) → p < place + 1 → nat_eq p place ≡ false → p < place
    before p place s f = grind (arith, nat_tests)

sweep_cut : (place : ℕ) (s : Scene) → place < 8 → Swept place s.node → Swept (place + 1) (cut_at cuts.Reset None place s).node
unfolding cut_at cut
sweep_cut place s b w = sweeps place s.node b w

sweep_from : (left place : ℕ) (s : Scene) → place + left ≡ 8 → Swept place s.node → Swept 8 (cut_from left place cuts.Reset None s).node
unfolding cut_from
sweep_from zero place s e w = subst (λ (n : ℕ). Swept n s.node) (let i : place ≡ 8 = omega arith in i) w
sweep_from (suc left) place s e w = sweep_from left (place + 1) (cut_at cuts.Reset None place s) (omega arith) (sweep_cut place s (omega arith) w)

none_seat : (p : ℕ) (main ahead : Option Sent) (to : Option ℕ) (lives : Lives) → main ≡ None → ahead ≡ None → ((q : ℕ) (l : LabelParts) → IsNot (purposes.Agent p) (lives q l)) → Seat p main ahead to lives
none_seat p main ahead to lives em ea n =
    subst (λ (y : Option Sent). Seat p y ahead to lives) (sym em) (subst (λ (y : Option Sent). Seat p None y to lives) (sym ea) (seat_empty p lives to n))

swept_good : (node : NodeState) → Swept 8 node → Good (after_reset node)
swept_good node w =
    let off = λ (p : ℕ). get_or-map disabled node.desks p new_desk in
    record {
      lives = w.lives;
      request = None;
      mid = record {
        known = w.known;
        size = length-map node.desks disabled ∙ w.size;
        seats = λ p s. none_seat p (desk_at (after_reset node) p).main (desk_at (after_reset node) p).ahead (node_of (login_at (after_reset node) p)) w.lives (ap (λ (x : Desk). x.main) (off p) ∙ w.idle p s) (ap (λ (x : Desk). x.ahead) (off p) ∙ w.calm p s) (w.none (purposes.Agent p));
        fits = λ p s n. subst (λ (x : Desk). Fits x) (sym (off p)) (let f = w.fits p s in record { agent = f.agent; main = f.main; ahead = f.ahead });
        served = λ p s n r. absurd (untrue (sym (ap (λ (x : Desk). is_reset (state_in x.agent.phase)) (off p) ∙ w.reset p s) ∙ r));
        hand = hand_empty w.lives (w.none purposes.Management);
        beyond = λ p s. w.none (purposes.Agent p);
      };
      keys = w.keys;
      source = w.source;
      table = after_kept logins.hold node.logins w.table;
      below = units_stay_below.kept (length node.keys) (logins.hold ∷ []) node.logins (tt, tt) w.below;
    }
  where
    untrue : true ≡ false → ⊥
    untrue e = cc

reset_good : (b : Bool) (generation id : ℕ) (s : Scene) (g : Good s.node) → nat_lt s.node.layer.generation generation ≡ b → Good (reset_by (cond b (true, seen_in_generation s.node.layer generation id) (false, s.node.layer)) s).1.node
unfolding seeing_step
reset_good false generation id s g e = g
reset_good true generation id s g e =
    let layer = seen_in_generation s.node.layer generation id in
    let known = seeing_known s.node.layer g.lives generation id g.mid.known e in
    let is : (seeing_step s.node.layer generation id).1 ≡ layer = ap (λ (b : Bool). (cond {A = Bool × Layer Purpose} b (true, layer) (false, s.node.layer)).1) e in
    let start : Swept 0 (cleared_node layer s.node) = record {
      lives = live_on forgotten g.lives;
      known = subst (λ (l : Layer Purpose). Known l (live_on forgotten g.lives)) is known;
      none = λ purpose p l. forgotten_at g.lives p l purpose;
      size = g.mid.size;
      idle = λ p h. absurd (nothing p h);
      calm = λ p h. absurd (nothing p h);
      fits = λ p h. absurd (nothing p h);
      reset = λ p h. absurd (nothing p h);
      keys = g.keys;
      source = refl;
      table = g.table;
      below = g.below;
    } in
    swept_good (cut_all cuts.Reset None (scene (cleared_node layer s.node) s.outbox)).node (sweep_from 8 0 (scene (cleared_node layer s.node) s.outbox) refl start)
  where
    nothing : (p : ℕ) → p < 0 → ⊥
    nothing p h = omega arith

pub sight_good : (generation id : ℕ) (s : Scene) → Good s.node → Good (seen generation id s).1.node
unfolding seen seeing_step
sight_good generation id s g = reset_good (nat_lt s.node.layer.generation generation) generation id s g refl

-- ---- a second, and a key
pub second_good : (s : Scene) → Good s.node → Good (ticked s).node
unfolding ticked
second_good s g =
    relogin s.node (tick_step s.node.logins).1 g (after_kept logins.tick s.node.logins g.table) (units_stay_below.kept (length s.node.keys) (logins.tick ∷ []) s.node.logins (tt, tt) g.below)
    (λ p b r login e l. live_until_it_leaves s.node.logins p login (logins.tick ∷ []) e l (tt, tt))

pub key_good : (unit : ℕ) (key : List ℕ) (node : NodeState) → Good node → Good (with_key unit key node)
key_good unit key node g = record {
  lives = g.lives;
  request = g.request;
  mid = record {
    known = g.mid.known;
    size = g.mid.size;
    seats = g.mid.seats;
    fits = g.mid.fits;
    served = λ p s n r. let i = g.mid.served p s n r in record { login = i.login; is = i.is; live = i.live; on_unit = i.on_unit };
    hand = g.mid.hand;
    beyond = g.mid.beyond;
  };
  keys = length-set node.keys unit key ∙ g.keys;
  source = g.source;
  table = g.table;
  below = subst (λ (n : ℕ). UnitsBelow n node.logins) (sym (length-set node.keys unit key)) g.below;
}

-- ---- a new target
ready_table : (left initiator : ℕ) (table : Table) → IsTable table → IsTable (ready_from left initiator table)
unfolding ready_from
ready_table zero initiator table t = t
ready_table (suc left) initiator table t = ready_table left (initiator + 1) _ (after_kept (logins.enter (ready_login initiator)) table t)

ready_below : (left initiator units : ℕ) (table : Table) → 0 < units → UnitsBelow units table → UnitsBelow units (ready_from left initiator table)
unfolding ready_from
ready_below zero initiator units table h u = u
ready_below (suc left) initiator units table h u = ready_below left (initiator + 1) units _ h (units_stay_below.kept units (logins.enter (ready_login initiator) ∷ []) table (h, tt) u)

pub new_good : (units ready : ℕ) → 0 < units → Good (new_node units ready)
new_good units ready h =
    let lives : Lives = λ peer label. wire.not_begun in
    let desk = λ (p : ℕ). default_in 8 p new_desk in
    let fits : Fits new_desk = record { agent = record { bare = λ e. refl; next = λ e. absurd (untrue e); limit = λ e. absurd (untrue e) }; main = refl; ahead = refl } in
    let none : (purpose : Purpose) (p : ℕ) (l : LabelParts) → IsNot purpose (lives p l) = λ purpose p l kind e. absurd (never e) in
    record {
      lives = lives;
      request = None;
      mid = record {
        known = new_known;
        size = refl;
        seats = λ p s. none_seat p (desk_at (new_node units ready) p).main (desk_at (new_node units ready) p).ahead (node_of (login_at (new_node units ready) p)) lives (ap (λ (x : Desk). x.main) (desk p)) (ap (λ (x : Desk). x.ahead) (desk p)) (none (purposes.Agent p));
        fits = λ p s n. subst (λ (x : Desk). Fits x) (sym (desk p)) fits;
        served = λ p s n r. absurd (untrue_2 (sym (ap (λ (x : Desk). is_reset (state_in x.agent.phase)) (desk p)) ∙ r));
        hand = hand_empty lives (none purposes.Management);
        beyond = λ p s. none (purposes.Agent p);
      };
      keys = sized units ∙ sym (sized_units units);
      source = refl;
      table = ready_table ready 0 new_table (always []);
      below = ready_below ready 0 (length (new_node units ready).keys) new_table (subst (λ (n : ℕ). 0 < n) (sym (sized units)) h) (units_stay_below.begins (length (new_node units ready).keys));
    }
  where
    untrue : false ≡ true → ⊥
    untrue e = cc

    untrue_2 : true ≡ false → ⊥
    untrue_2 e = cc

    never : {kind : ReplyKind} {purpose : Purpose} → wire.not_begun ≡ under_way kind (Some purpose) → ⊥
    never e = cc

    sized : (n : ℕ) → length (replicate n (replicate {A = ℕ} 8 0)) ≡ n
    sized n = grind (arith, common_steps)

    sized_units : (n : ℕ) → length (replicate n new_unit) ≡ n
    sized_units n = grind (arith, common_steps)

pub call_good : (call : Call) (s : Scene) → Good s.node → Good (done call s).node
call_good (receives told disks generation bytes) s g = delivery_good told disks generation bytes s g
call_good (lets_expire peer label) s g = expiry_good peer label s g
call_good (sees generation id) s g = sight_good generation id s g
call_good ticks s g = second_good s g
call_good (sets_key unit key) s g = key_good unit key s.node g

pub all_good : (units ready : ℕ) (calls : List Call) → 0 < units → Good (after units ready calls)
all_good units ready [] h = new_good units ready h
all_good units ready (call ∷ calls) h = call_good call (scene (after units ready calls) empty_outbox) (all_good units ready calls h)
