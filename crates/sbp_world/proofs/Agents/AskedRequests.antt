-- A request that the target gets leaves all desks waiting for what left.
use Rattle.sbp_world.proofs.Words.Std.{◌≡◌, refl, sym, ap, subst, ℕ, ◌<◌, ◌∙◌, Bool, true, false, cond, List, [], length, Option, Result, Ok, Err, slice_index_or}
use Rattle.sbp_world.proofs.Words.Wire.{Packet, header_in, Body, Layer, Judged, OutboxState}
use Rattle.sbp_world.proofs.Words.Target.{Table, place_at, Busy, Access, Demand, address_error, complete, conflict_error, demand_of, Desk, Purpose, Sent, after, new_desk, ask_manager, NodeState, Scene, desk_at, scene, answered, is_barred, serve, served_as, start, started_by}
use Rattle.sbp_world.proofs.Words.Initiator.{Ask}
use Rattle.sbp_world.proofs.Words.World.{AllAsk, AsksReally, Left, RequestsAskLaw}
use Rattle.mgmt_agent.specs.Machine as management
use Rattle.sbp_journal.specs.declared.cause.Cause.TheVariants as ignored
use Rattle.sbp_journal.specs.declared.cause.Judged.TheVariants as judged
use Rattle.target_base.specs.declared.address.Demand.TheVariants as demands
use Rattle.sbp_target.specs.Serving.{request_step}
use Rattle.sbp_target.proofs.Histories.Calling.{Good}
use Rattle.sbp_target.proofs.Histories.Pass as pass
use Rattle.sbp_target.proofs.Histories.Settled.{all_good, reaches}
use Rattle.sbp_world.proofs.Agents.AskedAccesses.{accesses_fine, answered_fine}
use Rattle.sbp_world.proofs.Agents.AskedLate.{asks_more, keeps_left}
use Rattle.sbp_world.proofs.Agents.AskedReplies.{Fine}
use Rattle.sbp_world.proofs.Agents.Enabling.{ask_logins}
use Rattle.sbp_world.proofs.Agents.Serves.{ask_keeps}

-- the same desks and logins, and more packets
pub same_fine : (before now : Scene) → now.node.desks ≡ before.node.desks → now.node.logins ≡ before.node.logins → ((sent : Sent) (body : Option Body) → Left before.outbox.packets sent body → Left now.outbox.packets sent body) → Fine before → Fine now
same_fine before now desks logins more h =
    let at : (p : ℕ) → desk_at now.node p ≡ desk_at before.node p = λ p. ap (λ ds. slice_index_or ds p new_desk) desks in
    record {
      desks = ap (λ ds. length ds) desks ∙ h.desks;
      all = record {
        all = λ p login l e.
            subst (λ (d : Desk). AsksReally now.outbox.packets login.fifo d) (sym (at p))
            (asks_more before.outbox.packets now.outbox.packets more login.fifo (desk_at before.node p) (h.all.all p login l (ap (λ (t : Table). place_at t.places p) (sym logins) ∙ e)));
      };
    }

pub manager_fine : (source : ℕ) (ask : Ask) (s : Scene) → Fine s → Fine (ask_manager source ask s)
manager_fine source ask s h =
    same_fine s (ask_manager source ask s) (ask_keeps source ask s).desks (ask_logins source ask s)
    (λ sent body k. pass.asks_manager (λ layer packets. Left packets sent body) (keeps_left sent body) source ask s k) h

start_by : (source : ℕ) (p : Packet) (bytes : List ℕ) (r : Result Ask Busy × management.Machine) (s : Scene) → Fine s → Fine (started_by source p bytes r s)
start_by source p bytes (Ok ask, m) s h =
    let t = scene (record s.node { manager = m }) s.outbox in
    manager_fine source ask (answered p bytes complete [] t) (answered_fine p bytes complete [] t (same_fine s t refl refl (λ sent body k. k) h))
start_by source p bytes (Err busy, m) s h =
    let t = scene (record s.node { manager = m }) s.outbox in
    answered_fine p bytes conflict_error [] t (same_fine s t refl refl (λ sent body k. k) h)

start_fine : (orb : ℕ) (p : Packet) (bytes : List ℕ) (s : Scene) → Fine s → Fine (start orb p bytes s)
unfolding start
start_fine orb p bytes s h = start_by (header_in p).source p bytes (management.start_step s.node.manager (header_in p).source orb) s h

module _ (node : NodeState) (g : Good node) (layer : Layer Purpose) (outbox : OutboxState) (a : AllAsk outbox.packets node) (p : Packet) (bytes : List ℕ) where
  abbrev Begun : Scene
  Begun = scene (record node { layer = layer }) outbox

  begun : Fine Begun
  begun = record { desks = g.mid.size; all = record { all = λ q login l e. a.all q login l e } }

  demand_fine : (demand : Demand) → ((place : ℕ) (access : Access) → demand ≡ demands.Agent place access → place < 8) → Fine (served_as demand p bytes Begun)
  demand_fine (demands.Refused rcode) h = answered_fine p bytes rcode [] Begun begun
  demand_fine (demands.Rom at len) h = answered_fine p bytes complete _ Begun begun
  demand_fine (demands.Manage orb) h = start_fine orb p bytes Begun begun
  demand_fine (demands.Agent place access) h = accesses_fine node g layer outbox place (h place access refl) a p bytes access

  serve_fine : is_barred node p ≡ false → Fine (serve p bytes Begun)
  unfolding serve
  serve_fine e = demand_fine (demand_of (length node.rom) p) (λ place access f. (reaches node g p place access e f).small)

  request_by : (b : Bool) → is_barred node p ≡ b → Fine (cond {A = Judged × Scene} b (judged.Ignored ignored.Login, answered p bytes address_error [] Begun) (judged.Got, serve p bytes Begun)).1
  request_by true e = answered_fine p bytes address_error [] Begun begun
  request_by false e = serve_fine e

  barred_same : is_barred (record node { layer = layer }) p ≡ is_barred node p
  unfolding is_barred
  barred_same = refl

  pub requests : Fine (request_step p bytes Begun).1
  unfolding request_step
  requests = request_by (is_barred (record node { layer = layer }) p) (sym barred_same)

pub requests_law : RequestsAskLaw
requests_law units ready calls has =
    let node = after units ready calls in
    let g = all_good units ready calls has in
    record { requests = λ layer outbox p bytes a. (requests node g layer outbox a p bytes).all }
