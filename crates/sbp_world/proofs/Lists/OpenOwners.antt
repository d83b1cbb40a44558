-- Who wrote ORB_POINTER: a packet of a node that asks for a register of an agent, and is not barred, is of the initiator of the login of its place, whom the terms have there too.
use Rattle.sbp_world.proofs.Words.Std.{◌≡◌, ◌∙◌, refl, sym, ap, subst, ◌<◌, ◌&&◌, not, nat_eq, ℕ, suc, ◌+◌, Bool, true, false, cond, List, length, Option, Some, None, Ok, arith, nat_tests}
use Rattle.sbp_world.proofs.Words.Wire.{Packet, header_in, reading, Node, judging_step, of_request, Sent, found_sent, Moment, Terms, terms, Holder, or_nobody}
use Rattle.sbp_world.proofs.Words.Target.{Login, Table, if_of_node, is_live, place_at, Disk, Access, AgentRegister, demand_of, is_lock, offset_in, reached, register_at, row_of, is_barred_at, NodeState, login_at, is_barred}
use Rattle.sbp_world.proofs.Words.Laws.{term_initiator, initiator_with, node_in, over, target_at}
use Rattle.sbp_world.proofs.Words.World.{holder, WorldState, Stands, Office, AreHeldAt}
use Rattle.std.proofs.Common.{is_none}
use Rattle.bus_transactions.proofs.FitJudged.{IsFoundAs, found_as}
use Rattle.target_base.specs.declared.address.Demand.TheVariants as demands
use Rattle.sbp_target.proofs.Histories.Following.{IsServed}
use Rattle.sbp_target.proofs.Reached.{demand_place}
use Rattle.sbp_world.proofs.Agents.Management.Offices.{over_keeps}
use Rattle.sbp_world.proofs.Agents.Management.Holding.{Holding, is_of, same_id, target_generation}
use Rattle.sbp_world.proofs.Agents.Management.Still.{hist}

-- the live login of a node in a place
pub record IsOwner (node : NodeState) (place source : ℕ) : Type 0 where
  pub login : Login
  pub is : login_at node place ≡ Some login
  pub live : is_live login ≡ true
  pub node_is : login.node ≡ source

owned : (node : NodeState) (place source : ℕ) (login : Option Login) → login_at node place ≡ login → is_none (if_of_node source login) ≡ false → IsOwner node place source
owned node place source None e b = absurd (let z : true ≡ false = b in cc)
owned node place source (Some login) e b = by (is_live login) (nat_eq login.node source) refl refl b
  where
    by : (x y : Bool) → is_live login ≡ x → nat_eq login.node source ≡ y → is_none (cond (x && y) (Some login) None) ≡ false → IsOwner node place source
    by true true p q h = record { login = login; is = e; live = p; node_is = grind (arith, nat_tests) }
    by true false p q h = absurd (let z : true ≡ false = h in cc)
    by false y p q h = absurd (let z : true ≡ false = h in cc)

pub owner : (node : NodeState) (p : Packet) (place : ℕ) (access : Access) → is_barred node p ≡ false → demand_of (length node.rom) p ≡ demands.Agent place access → IsOwner node place (header_in p).source
unfolding demand_of is_barred
owner node p place access b e =
    let a = demand_place (row_of (reached (length node.rom) p)) (length node.rom) p place access refl e in
    let n : is_barred_at (register_at (offset_in p)) node.logins (header_in p).source ≡ false = unlocked_bar (is_lock p) (is_barred_at (register_at (offset_in p)) node.logins (header_in p).source) a.unlocked b in
    let m : is_none (if_of_node (header_in p).source (login_at node a.found.place)) ≡ false = sym (ap (λ (f : Option AgentRegister). is_barred_at f node.logins (header_in p).source) a.at) ∙ n in
    subst (λ (k : ℕ). IsOwner node k (header_in p).source) a.own (owned node a.found.place (header_in p).source (login_at node a.found.place) refl m)
  where
    unlocked_bar : (l x : Bool) → l ≡ false → (not l && x) ≡ false → x ≡ false
    unlocked_bar true x f h = absurd (let z : true ≡ false = f in cc)
    unlocked_bar false x f h = h

-- ---- it came from that initiator's node
module _ (units logins : ℕ) (start : List Disk) {past : List Moment} {lines : ℕ} (w : WorldState) (h : Holding units logins start past lines w) (held : AreHeldAt start (hist past w) w) where
  abbrev stands : Stands past w
  stands = h.sound.stands

  abbrev t : Terms
  t = terms (hist past w)

  pub record CameFrom (sent : Sent) (p : Packet) (place : ℕ) : Type 0 where
    pub read : reading sent.bytes ≡ Ok p
    pub from_is : sent.from ≡ suc (holder w place).initiator
    pub inside : (holder w place).initiator < length w.initiators
    pub current : sent.generation ≡ t.generation 0

  pub came_from : (serial : ℕ) (sent : Sent) → found_sent serial w.store.kept ≡ Some sent → (p : Packet) (place : ℕ) (access : Access) → (judging_step w.target.layer sent.generation sent.bytes).0 ≡ of_request p → is_barred w.target p ≡ false → demand_of (length w.target.rom) p ≡ demands.Agent place access → CameFrom sent p place
  came_from serial sent found p place access f b e =
      let o = owner w.target p place access b e in
      let k = held.held place o.login o.is in
      let of = (k.live o.live).of in
      let r = subst (IsFoundAs w.target.layer sent.generation sent.bytes) f (found_as w.target.layer sent.generation sent.bytes h.sound.nodes.target_holds.layer.filter) in
      let now : sent.generation ≡ t.generation 0 = r.current ∙ layer_is in
      let source : (header_in p).source ≡ t.ids sent.generation sent.from = (is_of w stands serial sent found).source p r.read in
      let next : k.holder.initiator + 1 ≡ suc k.holder.initiator = omega arith in
      let id_is : t.ids (t.generation 0) (suc k.holder.initiator) ≡ o.login.node = ap (λ n. t.ids (t.generation 0) n) (sym next) ∙ of.node_is in
      let one : sent.from ≡ suc k.holder.initiator = same_id w stands sent.from (suc k.holder.initiator) (ap (λ n. t.ids n sent.from) (sym now) ∙ sym source ∙ sym o.node_is ∙ sym id_is) in
      let is : holder w place ≡ k.holder = ap or_nobody k.there in
      record {
        read = r.read;
        from_is = one ∙ ap (λ (x : Holder). suc x.initiator) (sym is);
        inside = subst (λ (x : Holder). x.initiator < length w.initiators) (sym is) of.small;
        current = now;
      }
    where
      layer_is : w.target.layer.generation ≡ t.generation 0
      layer_is = sym (ap (λ (l : Node). l.generation) (stands.is.layers_are 0 (omega arith))) ∙ stands.is.sights 0 (omega arith) ∙ sym (target_generation w stands)

  -- the place of a live login is its initiator's by the terms
  pub served_initiator : {place : ℕ} → IsServed w.target place → term_initiator (over (target_at start (hist past w))) t place ≡ (holder w place).initiator
  served_initiator {place} served =
      let k = held.held place served.login served.is in
      ap (λ (x : Table). initiator_with t (node_in (place_at x.places place))) (ap (λ (o : Office). o.table) (over_keeps (target_at start (hist past w))))
      ∙ ((k.live served.live).terms_are ∙ ap (λ o. (or_nobody o).initiator) (sym k.there))
