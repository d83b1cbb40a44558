-- Whose place an agent has that acts: where the login is live, and packets to its node are an initiator's, it is a place of that initiator. And the address of an operation's ORB
-- has 48 bits, for it was read off the bytes of a packet.
use Rattle.sbp_world.proofs.Words.Std.{arith, ◌≡◌, ◌∙◌, ◌⊎◌, inl, inr, sym, ap, subst, ◌<◌, ◌+◌, ◌^◌, ℕ, suc, true, false, List, length, Some, same_Some}
use Rattle.sbp_world.proofs.Words.Wire.{Packet, Finding, judging_step, Sent, found_sent, Holder, node_of, topology_at, or_nobody, Moment, Note, Terms, terms}
use Rattle.sbp_world.proofs.Words.Target.{Login, is_live, Operation, Disk, Purpose, NodeState, login_at, is_barred, Access, demand_of}
use Rattle.sbp_world.proofs.Words.World.{holder, Stands, WorldState, has_list, AreHeldAt, GoesOn, IsAsked, OperationsStart, machine_at, AreOpened}
use Rattle.bus_transactions.proofs.FitJudged.{bytes_of, spelled}
use Rattle.bus_transactions.proofs.Reaches.{goes_on}
use Rattle.mgmt_agent.specs.Machine.{Machine}
use Rattle.sbp_world.proofs.FitTarget.Demands.{FitsDemand, demand_fits}
use Rattle.sbp_world.proofs.Wire.Bus.{holds, node_has}
use Rattle.target_base.specs.declared.address.Demand.TheVariants as demands
use Rattle.sbp_target.proofs.Histories.Calling.{Good}
use Rattle.sbp_target.proofs.Histories.Found.{IsFound, found as found_as}
use Rattle.sbp_target.proofs.Histories.Settled.{reaches}
use Rattle.sbp_world.proofs.Agents.Management.Holding.{Holding, ours}
use Rattle.sbp_world.proofs.Agents.Management.Still.{hist}
use Rattle.sbp_world.proofs.Sessions.Starting.{starting_law}
use Rattle.sbp_world.proofs.Lists.LiveTurns.{TargetCall, TurnOf, by_clearing, by_own, by_sight, by_target, delivers, still}
use Rattle.sbp_world.proofs.Lists.OpenTurns.{listing_up}
use Rattle.sbp_world.proofs.Hosts.Cores.{not_so as up_state}

-- ---- a place whose login is live
-- what goes to the node of its login, and to the initiator, is of its place, and the login is live
abbrev pub IsMine : ℕ → WorldState → ℕ → Type 0
IsMine i w q = (login : Login) → login_at w.target q ≡ Some login → node_of w.generations 0 login.node ≡ Some (suc i) → ((holder w q).initiator ≡ i) × (is_live login ≡ true)

module _ (i : ℕ) (start : List Disk) (past : List Moment) (w : WorldState) (inside : i < length w.initiators) (h : Stands past w) (held : AreHeldAt start (hist past w) w) where
  abbrev t : Terms
  t = terms (hist past w)

  abbrev gen : ℕ
  gen = (topology_at w.generations 0).generation

  same_terms : terms h.wire.past ≡ t
  same_terms = ap terms h.is.past_is

  pub gen_is : gen ≡ t.generation 0
  gen_is = sym (h.is.sights 0 (omega arith)) ∙ (((holds h.wire h.reached).nodes 0).generation ∙ ap (λ (x : Terms). x.generation 0) same_terms)

  module _ (q : ℕ) (login : Login) (e : login_at w.target q ≡ Some login) (live : is_live login ≡ true) where
    abbrev j : ℕ
    j = (held.held q login e).holder.initiator

    holder_is : (holder w q).initiator ≡ j
    holder_is = ap (λ (x : Holder). x.initiator) (ap or_nobody (held.held q login e).there)

    id_here : t.ids (t.generation 0) (j + 1) ≡ login.node
    id_here = ((held.held q login e).live live).of.node_is

    id_there : node_of w.generations 0 login.node ≡ Some (suc i) → t.ids (t.generation 0) (suc i) ≡ login.node
    id_there n =
        ap (λ g. t.ids g (suc i)) (sym gen_is)
        ∙ (ap (λ (x : Terms). x.ids gen (suc i)) (sym same_terms) ∙ (h.is.known_ids 0 (suc i) (omega arith) (omega (arith, inside)) ∙ (node_has (topology_at w.generations 0) login.node (suc i) n).id_is))

    mine : node_of w.generations 0 login.node ≡ Some (suc i) → (holder w q).initiator ≡ i
    mine n =
        let both : t.ids (t.generation 0) (suc i) ≡ t.ids (t.generation 0) (j + 1) = id_there n ∙ sym id_here in
        let wire = subst (λ (x : Terms). x.ids (t.generation 0) (suc i) ≡ x.ids (t.generation 0) (j + 1)) (sym same_terms) both in
        let same : suc i ≡ j + 1 = goes_on.apart h.wire (t.generation 0) (suc i) (j + 1) h.reached wire in
        holder_is ∙ (let z : j ≡ i = omega (arith, same) in z)

    of_live : IsMine i w q
    of_live other f n = let same = same_Some other login (sym f ∙ e) in (mine (subst (λ (x : Login). node_of w.generations 0 x.node ≡ Some (suc i)) same n), ap is_live same ∙ live)

  -- of an agent that has a list
  pub open_mine : AreOpened (hist past w) w → (q : ℕ) → q < 8 → has_list (machine_at w q).phase ≡ true → IsMine i w q
  open_mine opens q b l = let o = opens q b (up_state _ (listing_up (machine_at w q).phase l)) in of_live q o.login o.is o.live

  -- and of one whose register a request reached
  pub access_mine : Good w.target → (p : Packet) → is_barred w.target p ≡ false → (q : ℕ) (access : Access) → demand_of (length w.target.rom) p ≡ demands.Agent q access → IsMine i w q
  access_mine g p bar q access d = let s = (reaches w.target g p q access bar d).served in of_live q s.login s.is s.live

-- ---- the address of an operation's ORB
abbrev pub IsShort : NodeState → Type 0
IsShort node = (op : Operation) → node.manager.operation ≡ Some op → op.orb < 2 ^ 48

goes_short : (node : NodeState) (op : Operation) → IsShort node → GoesOn node.manager.operation op → op.orb < 2 ^ 48
goes_short node op s g = subst (λ n. n < 2 ^ 48) g.orb (s g.was g.is)

asked_fits : (size : ℕ) (p : Packet) (orb : ℕ) → FitsDemand size p (demand_of size p) → demand_of size p ≡ demands.Manage orb → orb < 2 ^ 48
asked_fits size p orb f e = (subst (FitsDemand size p) e f).1

module _ (units ready : ℕ) (has : 0 < units) (start : List Disk) {past : List Moment} {lines : ℕ} (w : WorldState) (h : Holding units ready start past lines w) (short : IsShort w.target) where
  -- a request that begins one
  begins_short : (serial : ℕ) (sent : Sent) → found_sent serial w.store.kept ≡ Some sent → (op : Operation) → IsAsked w.target sent.generation sent.bytes op → op.orb < 2 ^ 48
  begins_short serial sent found op a =
      let own = ours w h.sound.stands serial sent found in
      let f = subst (λ (x : Finding Purpose). IsFound x w.target.layer (judging_step w.target.layer sent.generation sent.bytes).1 sent.bytes) a.found (found_as w.target.layer sent.generation sent.bytes) in
      asked_fits (length w.target.rom) a.packet op.orb (demand_fits (length w.target.rom) a.packet (bytes_of a.packet sent.bytes (spelled sent.bytes a.packet f.1.read) own.bytes)) a.asks

  -- a turn from it, whatever was told before
  module _ (before : List Note) where
    abbrev at : WorldState
    at = record w { fresh = before }

    -- the target is called
    called_short : {base fresh : List Note} (now : NodeState) → TargetCall at base fresh now → IsShort now
    called_short now (delivers serial sent found to told disks e t first) op is =
        by (starts.deliveries told disks sent.generation sent.bytes op (ap (λ (n : NodeState). n.manager.operation) (sym e) ∙ is))
      where
        starts : OperationsStart w.target
        starts = subst OperationsStart h.made (starting_law units ready h.calls has)

        by : GoesOn w.target.manager.operation op ⊎ IsAsked w.target sent.generation sent.bytes op → op.orb < 2 ^ 48
        by (inl g) = goes_short w.target op short g
        by (inr a) = begins_short serial sent found op a
    called_short now (still s t) op is = short op (ap (λ (m : Machine). m.operation) (sym (s.operation op is)) ∙ is)

    pub turn_short : (i : ℕ) (base : List Note) (v : WorldState) → TurnOf i at base v → IsShort v.target
    turn_short i base v (by_target bus own call) = λ op is. called_short v.target call op is
    turn_short i base v (by_clearing c own told) = λ op is. absurd (c.none op is)
    turn_short i base v (by_own bus same call away) = subst IsShort (sym same) short
    turn_short i base v (by_sight s same away) = subst IsShort (sym same) short
