-- Each call of a target but a reply to its management operation changes its agents as its notes do.
use Rattle.sbp_world.proofs.Words.Std.{arith, ◌≡◌, ◌≢◌, ◌∙◌, refl, sym, ap, subst, ℕ, ◌<◌, nat_eq, nat_lt, Bool, true, false, cond, List, [], length, map, Option, Some, None, slice_index_or, slice_set, nat_tests, length-set, length-map}
use Rattle.sbp_world.proofs.Words.Wire.{LabelParts, ReplyKind, under_way, Layer, empty_outbox}
use Rattle.sbp_world.proofs.Words.Target.{Login, Disk, Told, Which, Machine, reset_step, Desk, Purpose, sent_to, new_desk, which_in, NodeState, Scene, desk_at, login_at, scene, expired_by, TellsBy, plain_in, replied_by, scene_of, served_login, stage, whole}
use Rattle.sbp_world.proofs.Words.Initiator.{Answer, Expired}
use Rattle.sbp_world.proofs.Words.Laws.{Agent, agent_over, cut_agent, new_agent}
use Rattle.sbp_world.proofs.Words.World.{Office, AreOf, Follow, Request, ToldAlike, agent_in, crew_over, crew_packets, crew_sides, with_requests}
use Rattle.std.proofs.lemmas.List.{get_or-map}
use Rattle.sbp_target.specs.declared.purpose.Purpose.TheVariants as purposes
use Rattle.sbp_target.proofs.Histories.Calling.{Good, not_eight}
use Rattle.sbp_target.proofs.Histories.Rested.{Came, came_for, for_ahead, for_main}
use Rattle.sbp_target.proofs.Histories.Seats.{split}
use Rattle.sbp_world.proofs.Agents.Management.Calm.{AreQuiet}
use Rattle.sbp_world.specs.Agents.Calls.{replied}
use Rattle.sbp_world.proofs.Agents.Cuts.{AreCut, IsKept, cut_settled, kept_self}
use Rattle.sbp_world.proofs.Agents.Follows.{Settled}
use Rattle.sbp_world.proofs.Agents.Lists.{AreIdle, AreNoEntries, all_over, at_other, at_own, idle_packets, idle_sides, turn_over, turn_packets, turn_sides}
use Rattle.sbp_world.proofs.Agents.Mild.{IsGiven}
use Rattle.sbp_world.proofs.Agents.Serials.{Paired, Within, one_none, paired_at, paired_more, requests_within}
use Rattle.sbp_world.proofs.Agents.Registers.{Turned, ahead_lapses, beside_self, ended_turned, main_lapses}
use Rattle.sbp_world.proofs.Agents.Rounds.{ahead_advances, main_advances}
use Rattle.sbp_world.proofs.Agents.CrewSeats.{served_there}

-- ---- all agents are settled
pub record AllSettled (requests : List Request) (agents : List Agent) (node : NodeState) : Type 0 where
  pub size : length agents ≡ 8
  pub each : (p : ℕ) → p < 8 → Settled (desk_at node p).agent (desk_at node p).pointer (agent_in agents p)
  pub paired : (p : ℕ) → p < 8 → Paired requests (desk_at node p) (agent_in agents p)

pub settled_of : {requests : List Request} (agents : List Agent) (node : NodeState) → Good node → AreOf requests agents node → AllSettled requests agents node
settled_of agents node g a = record {
  size = a.size;
  each = λ p b.
      let i = a.each p b in
      let f = g.mid.fits p b (not_eight p b) in
      record { machine = i.machine; main = i.main ∙ f.main; ahead = i.ahead ∙ f.ahead; pointer_is = i.pointer; asks = i.asks; asks_ahead = i.asks_ahead };
  paired = λ p b. record { main = (a.each p b).main_is; ahead = (a.each p b).ahead_is };
}

pub of_settled : {requests : List Request} (agents : List Agent) (node : NodeState) → Good node → AllSettled requests agents node → AreOf requests agents node
of_settled agents node g a = record {
  size = a.size;
  each = λ p b.
      let i = a.each p b in
      let f = g.mid.fits p b (not_eight p b) in
      record { machine = i.machine; pointer = i.pointer_is; main = i.main ∙ sym f.main; ahead = i.ahead ∙ sym f.ahead; main_is = (a.paired p b).main; ahead_is = (a.paired p b).ahead; asks = i.asks; asks_ahead = i.asks_ahead };
}

pub settled_more : (before now : List Request) → Within before now → (agents : List Agent) (node : NodeState) → AllSettled before agents node → AllSettled now agents node
settled_more before now w agents node a = record { size = a.size; each = a.each; paired = λ p b. paired_more before now w (desk_at node p) (agent_in agents p) (a.paired p b) }

pub settled_idle : {requests : List Request} (agents : List Agent) (node : NodeState) → AllSettled requests agents node → AreIdle agents
settled_idle agents node a = record { size = a.size; each = λ p b. record { asks = (a.each p b).asks; asks_ahead = (a.each p b).asks_ahead } }

-- what was told and sent leaves them settled
pub record Behind (requests : List Request) (o : Office) (agents : List Agent) (s : Scene) : Type 0 where
  pub all : (last : ℕ) → AllSettled (with_requests last s.outbox.packets requests) (crew_over (crew_packets last s.outbox.packets (crew_sides s.outbox.sides o agents))) s.node

pub behind_follow : {requests : List Request} (o : Office) (agents : List Agent) (s : Scene) → Good s.node → Behind requests o agents s → Follow requests o agents s
behind_follow o agents s g h = λ last. of_settled _ s.node g (h.all last)

-- ---- nothing more is done than is told
pub idle_behind : {requests : List Request} (o : Office) (agents : List Agent) (s : Scene) → AreNoEntries s.outbox.sides → AllSettled requests agents s.node → Behind requests o agents s
idle_behind {requests} o agents s none a =
    let idle = settled_idle agents s.node a in
    record {
      all = λ last.
          let now = with_requests last s.outbox.packets requests in
          subst (λ (xs : List Agent). AllSettled now xs s.node)
          (sym (ap (λ (xs : List Agent). crew_over (crew_packets last s.outbox.packets xs)) (idle_sides agents idle s.outbox.sides o none) ∙ ap crew_over (idle_packets agents idle last s.outbox.packets) ∙ all_over agents idle))
          (settled_more requests now (requests_within last s.outbox.packets requests) agents s.node a);
    }

-- the agents of the desks are as before
pub record IsUnmoved (before now : NodeState) : Type 0 where
  pub agent : (p : ℕ) → p < 8 → (desk_at now p).agent ≡ (desk_at before p).agent
  pub pointer : (p : ℕ) → p < 8 → (desk_at now p).pointer ≡ (desk_at before p).pointer
  pub kept : (p : ℕ) → p < 8 → IsKept (desk_at before p) (desk_at now p)

pub unmoved_settled : {requests : List Request} (agents : List Agent) (before now : NodeState) → IsUnmoved before now → AllSettled requests agents before → AllSettled requests agents now
unmoved_settled {requests} agents before now u a = record {
  size = a.size;
  each = λ p b.
      subst (λ (m : Machine). Settled m (desk_at now p).pointer (agent_in agents p)) (sym (u.agent p b))
      (subst (λ (x : Option ℕ). Settled (desk_at before p).agent x (agent_in agents p)) (sym (u.pointer p b)) (a.each p b));
  paired = λ p b. paired_at requests (desk_at before p) (desk_at now p) (agent_in agents p) (u.kept p b).main (u.kept p b).ahead (a.paired p b);
}

pub same_desks : (before now : NodeState) → now.desks ≡ before.desks → IsUnmoved before now
same_desks before now e =
    let at : (p : ℕ) → desk_at now p ≡ desk_at before p = λ p. ap (λ ds. slice_index_or ds p new_desk) e in
    record { agent = λ p b. ap (λ (d : Desk). d.agent) (at p); pointer = λ p b. ap (λ (d : Desk). d.pointer) (at p); kept = λ p b. subst (λ (d : Desk). IsKept (desk_at before p) d) (sym (at p)) (kept_self (desk_at before p)) }

-- ---- lists are cut
pub record TermsCut (test : ℕ → Bool) (before now : List Agent) : Type 0 where
  pub size : length now ≡ 8
  pub each : (p : ℕ) → p < 8 → agent_in now p ≡ cond (test p) (cut_agent (agent_in before p)) (agent_in before p)

pub cut_all_settled : {requests : List Request} (test : ℕ → Bool) (agents now : List Agent) (before later : NodeState) → AreCut test before later → TermsCut test agents now → AllSettled requests agents before → AllSettled requests now later
cut_all_settled {requests} test agents now before later c t a = record {
  size = t.size;
  each = λ p b.
      subst (λ (m : Machine). Settled m (desk_at later p).pointer (agent_in now p)) (sym (c.agent p b))
      (subst (λ (x : Option ℕ). Settled (cond (test p) (reset_step (desk_at before p).agent) (desk_at before p).agent) x (agent_in now p)) (sym (c.pointer p b))
      (subst (λ (x : Agent). Settled (cond (test p) (reset_step (desk_at before p).agent) (desk_at before p).agent) (desk_at before p).pointer x) (sym (t.each p b))
      (by (test p) p b)));
  paired = λ p b. subst (λ (x : Agent). Paired requests (desk_at later p) x) (sym (t.each p b)) (pair_by (test p) p b refl);
}
  where
    pair_by : (x : Bool) (p : ℕ) → p < 8 → test p ≡ x → Paired requests (desk_at later p) (cond x (cut_agent (agent_in agents p)) (agent_in agents p))
    pair_by true p b e = record { main = one_none requests (desk_at later p).main; ahead = one_none requests (desk_at later p).ahead }
    pair_by false p b e = let k = c.kept p b e in paired_at requests (desk_at before p) (desk_at later p) (agent_in agents p) k.main k.ahead (a.paired p b)

    by : (x : Bool) (p : ℕ) → p < 8 → Settled (cond x (reset_step (desk_at before p).agent) (desk_at before p).agent) (desk_at before p).pointer (cond x (cut_agent (agent_in agents p)) (agent_in agents p))
    by true p b = let i = a.each p b in cut_settled (desk_at before p).agent (desk_at before p).pointer (agent_in agents p) i.pointer_is
    by false p b = a.each p b

pub one_term_cut : (agents : List Agent) (q : ℕ) → length agents ≡ 8 → q < 8 → TermsCut (λ p. nat_eq p q) agents (slice_set agents q (cut_agent (agent_in agents q)))
one_term_cut agents q size b = record {
  size = length-set agents q (cut_agent (agent_in agents q)) ∙ size;
  each = λ p l. by (nat_eq p q) p refl;
}
  where
    by : (x : Bool) (p : ℕ) → nat_eq p q ≡ x → agent_in (slice_set agents q (cut_agent (agent_in agents q))) p ≡ cond x (cut_agent (agent_in agents p)) (agent_in agents p)
    by true p e =
        let same : p ≡ q = grind (arith, nat_tests) in
        subst (λ (k : ℕ). agent_in (slice_set agents q (cut_agent (agent_in agents q))) k ≡ cut_agent (agent_in agents k)) (sym same) (at_own agents q (cut_agent (agent_in agents q)) size b)
    by false p e = let n : p ≢ q = λ s. (let yes : nat_eq p q ≡ true = grind (arith, nat_tests) in absurd (let no : true ≡ false = sym yes ∙ e in cc)) in at_other agents q p (cut_agent (agent_in agents q)) size b n

pub all_terms_cut : (agents : List Agent) → length agents ≡ 8 → TermsCut (λ p. true) agents (map cut_agent agents)
all_terms_cut agents size = record {
  size = length-map agents cut_agent ∙ size;
  each = λ p b. get_or-map cut_agent agents p new_agent new_agent (omega arith);
}

-- ---- one agent has its turn
module _ {requests : List Request} (agents : List Agent) (node : NodeState) (a : AllSettled requests agents node) (q : ℕ) (b : q < 8) where
  pub turned_behind : (o : Office) (first : Agent) (s : Scene) → AreQuiet s.outbox.sides → Turned requests q node first s → Behind requests o (slice_set agents q first) s
  turned_behind o first s quiet t =
      let idle = settled_idle agents node a in
      let is : (last : ℕ) → crew_over (crew_packets last s.outbox.packets (crew_sides s.outbox.sides o (slice_set agents q first))) ≡ slice_set agents q (agent_over (t.now last))
      = λ last.
      ap (λ (xs : List Agent). crew_over (crew_packets last s.outbox.packets xs)) (turn_sides agents idle q b s.outbox.sides o first quiet)
      ∙ ap crew_over (turn_packets agents idle q b last s.outbox.packets _)
      ∙ turn_over agents idle q b _
      ∙ ap (λ (x : Agent). slice_set agents q (agent_over x)) (t.out.is last) in
      record {
        all = λ last.
            let now = with_requests last s.outbox.packets requests in
            subst (λ (xs : List Agent). AllSettled now xs s.node) (sym (is last)) (settled_now now (requests_within last s.outbox.packets requests) (agent_over (t.now last)) (t.settled last) (t.paired last));
      }
    where
      settled_now : (now : List Request) → Within requests now → (x : Agent) → Settled (desk_at s.node q).agent (desk_at s.node q).pointer x → Paired now (desk_at s.node q) x → AllSettled now (slice_set agents q x) s.node
      settled_now now w x h k = record {
        size = length-set agents q x ∙ a.size;
        each = λ p l. by (nat_eq p q) p l refl;
        paired = λ p l. pair_by (nat_eq p q) p l refl;
      }
        where
          pair_by : (y : Bool) (p : ℕ) → p < 8 → nat_eq p q ≡ y → Paired now (desk_at s.node p) (agent_in (slice_set agents q x) p)
          pair_by true p l e =
              let same : p ≡ q = grind (arith, nat_tests) in
              subst (λ (i : ℕ). Paired now (desk_at s.node i) (agent_in (slice_set agents q x) i)) (sym same) (subst (λ (y : Agent). Paired now (desk_at s.node q) y) (sym (at_own agents q x a.size b)) k)
          pair_by false p l e =
              let n : p ≢ q = λ z. (let yes : nat_eq p q ≡ true = grind (arith, nat_tests) in absurd (let no : true ≡ false = sym yes ∙ e in cc)) in
              let o = t.kept p n in
              subst (λ (y : Agent). Paired now (desk_at s.node p) y) (sym (at_other agents q p x a.size b n))
              (paired_at now (desk_at node p) (desk_at s.node p) (agent_in agents p) o.0 o.1 (paired_more requests now w (desk_at node p) (agent_in agents p) (a.paired p l)))

          by : (y : Bool) (p : ℕ) → p < 8 → nat_eq p q ≡ y → Settled (desk_at s.node p).agent (desk_at s.node p).pointer (agent_in (slice_set agents q x) p)
          by true p l e =
              let same : p ≡ q = grind (arith, nat_tests) in
              subst (λ (k : ℕ). Settled (desk_at s.node k).agent (desk_at s.node k).pointer (agent_in (slice_set agents q x) k)) (sym same)
              (subst (λ (y : Agent). Settled (desk_at s.node q).agent (desk_at s.node q).pointer y) (sym (at_own agents q x a.size b)) h)
          by false p l e =
              let n : p ≢ q = λ z. (let yes : nat_eq p q ≡ true = grind (arith, nat_tests) in absurd (let no : true ≡ false = sym yes ∙ e in cc)) in
              let o = t.others p n in
              subst (λ (y : Agent). Settled (desk_at s.node p).agent (desk_at s.node p).pointer y) (sym (at_other agents q p x a.size b n))
              (subst (λ (m : Machine). Settled m (desk_at s.node p).pointer (agent_in agents p)) (sym o.0)
              (subst (λ (z : Option ℕ). Settled (desk_at node p).agent z (agent_in agents p)) (sym o.1) (a.each p l)))

-- ---- a reply to an agent, and a time-out

module _ {requests : List Request} (node : NodeState) (g : Good node) (agents : List Agent) (is : AreOf requests agents node) where
  abbrev own : AllSettled requests agents node
  own = settled_of agents node g is

  small : (place peer : ℕ) (label : LabelParts) (kind : ReplyKind) → g.lives peer label ≡ under_way kind (Some (purposes.Agent place)) → place < 8
  small place peer label kind e =
      split (nat_lt place 8) (place < 8) (λ h. grind (arith, nat_tests)) (λ h. absurd (g.mid.beyond place (grind (arith, nat_tests)) peer label kind e))

  module _ (o : Office) (layer : Layer Purpose) (place peer : ℕ) (label : LabelParts) (kind : ReplyKind) (e : g.lives peer label ≡ under_way kind (Some (purposes.Agent place))) where
    abbrev over_layer : NodeState
    over_layer = record node { layer = layer }

    b : place < 8
    b = small place peer label kind e

    came : Came place node (sent_to peer label)
    came = came_for place node g b (sent_to peer label) (record { kind = kind; life = e })

    module _ (ta tm : Option Told) (v : Bool) (t : ToldAlike v ta tm) (answer : Answer) (given : IsGiven answer) (disks : List Disk) (before now : List ℕ) where
      abbrev Replied : Option Login → Option Which → Type 0
      Replied login which =
          TellsBy tm place answer login which (stage over_layer disks) before now → (let w = replied_by tm place answer login which (whole (scene over_layer empty_outbox) disks) in AreQuiet w.outbox.sides → Behind requests o (replied ta v place answer node disks login which agents) (scene_of w))

      replied_as : Came place node (sent_to peer label) → Replied (served_login over_layer place) (which_in (desk_at over_layer place) peer label)
      replied_as (for_main m w i s) =
          subst (λ (l : Option Login). Replied l (which_in (desk_at node place) peer label)) (sym (served_there node place i))
          (subst (λ (k : Option Which). Replied (Some i.login) k) (sym w)
          (λ tells quiet.
          turned_behind agents node own place b o _ _ quiet
          (ended_turned place node node _ (desk_at node place).pointer _ (beside_self place node) refl
          (main_advances node g place b (agent_in agents place) (is.each place b) layer i.login v ta tm answer disks t given tells.so tells.may))))
      replied_as (for_ahead m w i s) =
          subst (λ (l : Option Login). Replied l (which_in (desk_at node place) peer label)) (sym (served_there node place i))
          (subst (λ (k : Option Which). Replied (Some i.login) k) (sym w)
          (λ tells quiet.
          turned_behind agents node own place b o _ _ quiet
          (ended_turned place node node _ (desk_at node place).pointer _ (beside_self place node) refl
          (ahead_advances node g place b (agent_in agents place) (is.each place b) layer i.login v ta tm answer disks t given s tells.so tells.may))))

      pub replies_behind : Replied (served_login over_layer place) (which_in (desk_at over_layer place) peer label)
      replies_behind = replied_as came

    -- a time-out
    abbrev Lapsed : Option Login → Option Which → Type 0
    Lapsed login which =
        (let s = expired_by place login which (scene over_layer empty_outbox) in AreQuiet s.outbox.sides → Behind requests o (replied None false place Expired node [] login which agents) s)

    lapsed_as : Came place node (sent_to peer label) → Lapsed (login_at over_layer place) (which_in (desk_at over_layer place) peer label)
    lapsed_as (for_main m w i s) =
        subst (λ (l : Option Login). Lapsed l (which_in (desk_at node place) peer label)) (sym i.is)
        (subst (λ (k : Option Which). Lapsed (Some i.login) k) (sym w)
        (λ quiet.
        turned_behind agents node own place b o _ _ quiet
        (main_lapses node g place b (agent_in agents place) (is.each place b) layer i.login (plain_in node.units [] i.login.unit) s)))
    lapsed_as (for_ahead m w i s) =
        subst (λ (l : Option Login). Lapsed l (which_in (desk_at node place) peer label)) (sym i.is)
        (subst (λ (k : Option Which). Lapsed (Some i.login) k) (sym w)
        (λ quiet.
        turned_behind agents node own place b o _ _ quiet
        (ahead_lapses node g place b (agent_in agents place) (is.each place b) layer i.login (plain_in node.units [] i.login.unit) s)))

    pub lapses_behind : Lapsed (login_at over_layer place) (which_in (desk_at over_layer place) peer label)
    lapses_behind = lapsed_as came
