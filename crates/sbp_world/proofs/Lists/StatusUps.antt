-- The agent of a place whose login is live: where packets that leave to its node are one initiator's, this has the place, and is in the target's generation or ahead.
use Rattle.sbp_world.proofs.Words.Std.{arith, ◌≡◌, ◌∙◌, sym, ap, subst, ◌<◌, ◌≤◌, ◌+◌, ℕ, suc, Bool, true, false, List, length, Some, same_Some}
use Rattle.sbp_world.proofs.Words.Wire.{Packet, Holder, node_of, topology_at, or_nobody, Moment, Terms, terms}
use Rattle.sbp_world.proofs.Words.Target.{Login, is_live, Disk, state_in, is_reset, login_at, is_barred, demand_of, Access}
use Rattle.sbp_world.proofs.Words.Laws.{present_list}
use Rattle.sbp_world.proofs.Words.World.{holder, Stands, WorldState, AreHeldAt, HasCaught, machine_at, AreOpened}
use Rattle.bus_transactions.proofs.Reaches.{goes_on}
use Rattle.target_base.specs.declared.address.Demand.TheVariants as demands
use Rattle.sbp_target.proofs.Histories.Calling.{Good}
use Rattle.sbp_target.proofs.Histories.Settled.{reaches}
use Rattle.sbp_world.proofs.Wire.Bus.{holds, node_has}
use Rattle.sbp_world.proofs.Agents.Management.Still.{hist}
use Rattle.sbp_world.proofs.Lists.StatusTurn.{Up}

-- the initiator of each live login is in the target's generation or ahead
abbrev pub AllCaught : List Moment → WorldState → Type 0
AllCaught ms w = (place : ℕ) (login : Login) → login_at w.target place ≡ Some login → is_live login ≡ true → HasCaught (terms ms) (length w.initiators) login.node

module _ (wild : ℕ → Bool) (i : ℕ) (own : wild i ≡ false) (start : List Disk) (past : List Moment) (w : WorldState) (inside : i < length w.initiators) (h : Stands past w) (held : AreHeldAt start (hist past w) w) (caught : AllCaught (hist past w) w) where
  abbrev t : Terms
  t = terms (hist past w)

  abbrev gen : ℕ
  gen = (topology_at w.generations 0).generation

  same_terms : terms h.wire.past ≡ t
  same_terms = ap terms h.is.past_is

  pub generation_is : gen ≡ t.generation 0
  generation_is = sym (h.is.sights 0 (omega arith)) ∙ (((holds h.wire h.reached).nodes 0).generation ∙ ap (λ (x : Terms). x.generation 0) same_terms)

  module _ (q : ℕ) (login : Login) (e : login_at w.target q ≡ Some login) (live : is_live login ≡ true) (present : (holder w q).initiator ≡ i → gen ≡ t.generation (suc i) → (n : ℕ) × (present_list (hist past w) i ≡ Some n)) where
    abbrev j : ℕ
    j = (held.held q login e).holder.initiator

    holder_is : (holder w q).initiator ≡ j
    holder_is = ap (λ (x : Holder). x.initiator) (ap or_nobody (held.held q login e).there)

    id_here : t.ids (t.generation 0) (j + 1) ≡ login.node
    id_here = ((held.held q login e).live live).of.node_is

    id_there : node_of w.generations 0 login.node ≡ Some (suc i) → t.ids (t.generation 0) (suc i) ≡ login.node
    id_there n =
        ap (λ g. t.ids g (suc i)) (sym generation_is)
        ∙ (ap (λ (x : Terms). x.ids gen (suc i)) (sym same_terms) ∙ (h.is.known_ids 0 (suc i) (omega arith) (omega (arith, inside)) ∙ (node_has (topology_at w.generations 0) login.node (suc i) n).id_is))

    mine : node_of w.generations 0 login.node ≡ Some (suc i) → (holder w q).initiator ≡ i
    mine n =
        let both : t.ids (t.generation 0) (suc i) ≡ t.ids (t.generation 0) (j + 1) = id_there n ∙ sym id_here in
        let wire = subst (λ (x : Terms). x.ids (t.generation 0) (suc i) ≡ x.ids (t.generation 0) (j + 1)) (sym same_terms) both in
        let same : suc i ≡ j + 1 = goes_on.apart h.wire (t.generation 0) (suc i) (j + 1) h.reached wire in
        holder_is ∙ (let z : j ≡ i = omega (arith, same) in z)

    ahead : (holder w q).initiator ≡ i → gen ≤ t.generation (suc i)
    ahead m =
        let c = caught q login e live j ((held.held q login e).live live).of in
        let same : j + 1 ≡ suc i = (let y : j ≡ i = sym holder_is ∙ m in omega (arith, y)) in
        let g = generation_is in
        let there : t.generation (j + 1) ≡ t.generation (suc i) = ap t.generation same in
        omega (arith, c, g, there)

    pub up_of : Up wild i own past w q
    up_of = record {
      mine = λ other f n. mine (subst (λ (x : Login). node_of w.generations 0 x.node ≡ Some (suc i)) (same_Some other login (sym f ∙ e)) n);
      caught = ahead;
      present = present;
    }

  -- of an agent that is not in RESET
  pub up_open : AreOpened (hist past w) w → (q : ℕ) → q < 8 → is_reset (state_in (machine_at w q).phase) ≡ false → ((holder w q).initiator ≡ i → gen ≡ t.generation (suc i) → (n : ℕ) × (present_list (hist past w) i ≡ Some n)) → Up wild i own past w q
  up_open opens q b up present = let o = opens q b up in up_of q o.login o.is o.live present

  -- and of one whose register a request reached
  pub up_access : Good w.target → (p : Packet) → is_barred w.target p ≡ false → (q : ℕ) (access : Access) → demand_of (length w.target.rom) p ≡ demands.Agent q access → ((holder w q).initiator ≡ i → gen ≡ t.generation (suc i) → (n : ℕ) × (present_list (hist past w) i ≡ Some n)) → Up wild i own past w q
  up_access g p bar q access d present = let s = (reaches w.target g p q access bar d).served in up_of q s.login s.is s.live present

-- ---- whose login is live
abbrev Lives : WorldState → ℕ → Type 0
Lives w q = (login : Login) → login_at w.target q ≡ Some login → is_live login ≡ true

lives_by : (w : WorldState) (q : ℕ) (login : Login) → login_at w.target q ≡ Some login → is_live login ≡ true → Lives w q
lives_by w q login e live other f = ap is_live (same_Some other login (sym f ∙ e)) ∙ live

pub lives_open : (ms : List Moment) (w : WorldState) → AreOpened ms w → (q : ℕ) → q < 8 → is_reset (state_in (machine_at w q).phase) ≡ false → Lives w q
lives_open ms w opens q b up = let o = opens q b up in lives_by w q o.login o.is o.live

pub lives_access : (w : WorldState) → Good w.target → (p : Packet) → is_barred w.target p ≡ false → (q : ℕ) (access : Access) → demand_of (length w.target.rom) p ≡ demands.Agent q access → Lives w q
lives_access w g p bar q access d = let s = (reaches w.target g p q access bar d).served in lives_by w q s.login s.is s.live
