-- Each call of a target leaves its agents and its management operation with what they wait for.
use Rattle.std.proofs.Common.{arith, ◌≡◌, ◌≢◌, refl, sym, ap, ◌∙◌, subst, ℕ, ◌<◌, nat_eq, true, false, List, ◌∷◌, length, Option, Some, None}
use Rattle.async_packet.specs.Packet.{Packet}
use Rattle.label_table.specs.Layer.{Layer, answering_step}
use Rattle.label_table.specs.History as wire
use Rattle.login_table.specs.Sound.{IsTable}
use Rattle.login_table.specs.Laws.{UnitsBelow}
use Rattle.login_table.specs.Table.{Table, place_at}
use Rattle.command_agent.specs.Machine.{Machine, state_in, is_sent, is_ahead}
use Rattle.command_agent.specs.Steps.{is_reset, reset_step}
use Rattle.mgmt_agent.specs.Machine as management
use Rattle.sbp_journal.specs.declared.cause.CutCause.{CutCause}
use Rattle.sbp_target.specs.declared.desk.Desk.{Desk}
use Rattle.sbp_target.specs.declared.purpose.Purpose.{Purpose}
use Rattle.sbp_target.specs.declared.purpose.Sent.{Sent}
use Rattle.sbp_target.specs.Desks.{reset_desk}
use Rattle.sbp_target.specs.Sending.{answer_step}
use Rattle.sbp_target.specs.Nodes.{NodeState, Scene, desk_at, login_at}
use Rattle.sbp_target.specs.Agents.{disowned as given_up, cut_node, cut}
use Rattle.sbp_target.specs.Serving.{answered}
use Rattle.sbp_target.proofs.Histories.Stepped.{Fit}
use Rattle.sbp_target.proofs.Histories.Seats.{Lives, split}
use Rattle.sbp_target.proofs.Histories.Primitives.{Known}
use Rattle.sbp_target.proofs.Histories.Following.{node_of, IsServed, Fits, Mid, Frame, Rest, spares_both, gives_main, gives_ahead, mid_step, desk_here, same_place, other_place}

abbrev pub peer_of : Option Sent → Option ℕ
peer_of None = None
peer_of (Some sent) = Some sent.peer

-- All agents are at rest, and the management operation has its request where one is under way.
pub record Good (node : NodeState) : Type 0 where
  pub lives : Lives
  pub request : Option Sent
  pub mid : Mid 8 node lives request
  pub keys : length node.keys ≡ length node.units
  pub source : management.source_in node.manager.operation ≡ peer_of request
  pub table : IsTable node.logins
  pub below : UnitsBelow (length node.keys) node.logins

pub not_eight : (p : ℕ) → p < 8 → p ≢ 8
not_eight p b e = omega arith

-- all but one agent at rest
pub leave_out : (q : ℕ) (node : NodeState) (lives : Lives) (request : Option Sent) → Mid 8 node lives request → Mid q node lives request
leave_out q node lives request m = record {
  known = m.known;
  size = m.size;
  seats = m.seats;
  fits = λ p s n. m.fits p s (not_eight p s);
  served = λ p s n. m.served p s (not_eight p s);
  hand = m.hand;
  beyond = m.beyond;
}

-- the one left out is at rest too
pub take_in : (q : ℕ) (node : NodeState) (lives : Lives) (request : Option Sent) → q < 8 → Mid q node lives request → Fits (desk_at node q) → (is_reset (state_in (desk_at node q).agent.phase) ≡ false → IsServed node q) → Mid 8 node lives request
take_in q node lives request b m f i = record {
  known = m.known;
  size = m.size;
  seats = m.seats;
  fits = λ p s n. split (nat_eq p q) (Fits (desk_at node p)) (λ e. subst (λ (k : ℕ). Fits (desk_at node k)) (sym (same_place p q e)) f) (λ e. m.fits p s (other_place p q e));
  served = λ p s n r.
      split (nat_eq p q) (IsServed node p)
      (λ e. let k = same_place p q e in subst (λ (k : ℕ). IsServed node k) (sym k) (i (sym (ap (λ (k : ℕ). is_reset (state_in (desk_at node k).agent.phase)) k) ∙ r)))
      (λ e. m.served p s (other_place p q e) r);
  hand = m.hand;
  beyond = m.beyond;
}

fits_rest : (q : ℕ) (before node : NodeState) (request : Option Sent) (r : Rest q before request node) → Fits (desk_at node q)
fits_rest q before node request r = record {
  agent = subst (λ (m : Machine). Fit m) (sym r.place.agent_is) r.fit;
  main = r.place.main_is ∙ ap (λ (m : Machine). is_sent m.phase) (sym r.place.agent_is);
  ahead = r.place.ahead_is ∙ ap (λ (m : Machine). is_ahead m.ahead) (sym r.place.agent_is);
}

served_framed : (q : ℕ) (before node : NodeState) → Frame before node → IsServed before q → IsServed node q
served_framed q before node f i = record {
  login = i.login;
  is = ap (λ (t : Table). place_at t.places q) f.0 ∙ i.is;
  live = i.live;
  on_unit = subst (λ us. i.login.unit < length us) (sym f.2) i.on_unit;
}

-- what stands beside the layer and the desks
pub record Beside (node : NodeState) (request : Option Sent) : Type 0 where
  pub keys : length node.keys ≡ length node.units
  pub source : management.source_in node.manager.operation ≡ peer_of request
  pub table : IsTable node.logins
  pub below : UnitsBelow (length node.keys) node.logins

pub beside : (node : NodeState) (g : Good node) → Beside node g.request
beside node g = record { keys = g.keys; source = g.source; table = g.table; below = g.below }

pub rest_good : (q : ℕ) (before node : NodeState) (request : Option Sent) → q < 8 → IsServed before q → Beside before request → Rest q before request node → Good node
rest_good q before node request b i s r =
    let f = r.place.frame in
    record {
      lives = r.place.lives;
      request = request;
      mid = take_in q node r.place.lives request b r.place.mid (fits_rest q before node request r) (λ e. served_framed q before node f i);
      keys = ap (λ ks. length ks) f.3 ∙ s.keys ∙ ap (λ us. length us) (sym f.2);
      source = ap (λ (m : management.Machine). management.source_in m.operation) f.1 ∙ s.source;
      table = subst (λ (t : Table). IsTable t) (sym f.0) s.table;
      below = subst (λ (t : Table). UnitsBelow (length node.keys) t) (sym f.0) (subst (λ (n : ℕ). UnitsBelow n before.logins) (ap (λ ks. length ks) (sym f.3)) s.below);
    }

-- ---- a list is cut
pub cut_good : (q : ℕ) (node : NodeState) → q < 8 → Good node → Good (cut_node q node)
unfolding reset_step
cut_good q node b g =
    let d = reset_desk (desk_at node q) in
    let to = node_of (login_at node q) in
    let was = desk_at node q in
    let one = gives_main q was.main was.ahead to g.lives node.layer g.mid.known (g.mid.seats q b) in
    let two = gives_ahead q None was.ahead to one.new (given_up was.main node.layer) one.known one.seat in
    let layer = given_up was.ahead (given_up was.main node.layer) in
    let m = leave_out q node g.lives g.request g.mid in
    let now = mid_step q node g.lives g.request m b layer d two.new two.known (spares_both q g.lives one.new two.new one.spares two.spares) two.seat in
    let here = desk_here q node g.lives g.request m b layer d in
    let fits : Fits d = record {
      agent = record { bare = λ e. refl; next = λ e. absurd (untrue e); limit = λ e. absurd (untrue e) };
      main = refl;
      ahead = refl;
    } in
    record {
      lives = two.new;
      request = g.request;
      mid = take_in q (cut_node q node) two.new g.request b now (subst (λ (x : Desk). Fits x) (sym here) fits) (λ e. absurd (untrue_2 (ap (λ (x : Desk). is_reset (state_in x.agent.phase)) (sym here) ∙ e)));
      keys = g.keys;
      source = g.source;
      table = g.table;
      below = g.below;
    }
  where
    untrue : false ≡ true → ⊥
    untrue e = cc

    untrue_2 : true ≡ false → ⊥
    untrue_2 e = cc

pub cut_scene : (cause : CutCause) (q : ℕ) (s : Scene) → q < 8 → Good s.node → Good (cut cause q s).node
unfolding cut
cut_scene cause q s b g = cut_good q s.node b g

-- ---- an answer
pub answer_known : (layer : Layer Purpose) (lives : Lives) (p : Packet) (bytes : List ℕ) (rcode : ℕ) (given : List ℕ) → Known layer lives → Known (answering_step layer p bytes rcode given).1 lives
answer_known layer lives p bytes rcode given k = record {
  steps = wire.answers p bytes rcode given ∷ k.steps;
  layer_is = ap (λ (l : Layer Purpose). (answering_step l p bytes rcode given).1) k.layer_is;
  lives_are = k.lives_are;
}

pub with_layer_good : (node : NodeState) (layer : Layer Purpose) (g : Good node) → Known layer g.lives → Good (record node { layer = layer })
with_layer_good node layer g k = record {
  lives = g.lives;
  request = g.request;
  mid = record {
    known = k;
    size = g.mid.size;
    seats = g.mid.seats;
    fits = g.mid.fits;
    served = λ p s n r. let i = g.mid.served p s n r in record { login = i.login; is = i.is; live = i.live; on_unit = i.on_unit };
    hand = g.mid.hand;
    beyond = g.mid.beyond;
  };
  keys = g.keys;
  source = g.source;
  table = g.table;
  below = g.below;
}

pub answered_good : (p : Packet) (bytes : List ℕ) (rcode : ℕ) (given : List ℕ) (s : Scene) → Good s.node → Good (answered p bytes rcode given s).node
unfolding answer_step
answered_good p bytes rcode given s g =
    with_layer_good s.node (answering_step s.node.layer p bytes rcode given).1 g (answer_known s.node.layer g.lives p bytes rcode given g.mid.known)
