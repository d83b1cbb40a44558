-- What is under way after each call.
use Rattle.std.proofs.Common.{arith, ◌≡◌, ◌≢◌, ◌⊎◌, inl, inr, refl, sym, ap, ◌∙◌, subst, ℕ, ◌<◌, nat_lt, is_some, true, false, Option, Some, None}
use Rattle.std.proofs.lemmas.Bool.Decides.{nat_tests}
use Rattle.async_packet.specs.Labels.{LabelParts}
use Rattle.label_table.specs.declared.reply.ReplyKind.{ReplyKind}
use Rattle.label_table.specs.Layer.{Layer}
use Rattle.label_table.specs.Peers.{state_for, purpose_for}
use Rattle.label_table.specs.History as wire
use Rattle.label_table.specs.History.{under_way}
use Rattle.label_table.proofs.Calls.{after_kept}
use Rattle.login_table.specs.declared.login.Login.{Login}
use Rattle.mgmt_agent.specs.Machine.{source_in}
use Rattle.command_agent.specs.declared.phase.Phase.{Phase}
use Rattle.command_agent.specs.declared.phase.Phase.TheVariants as phases
use Rattle.command_agent.specs.declared.step.AgentState.TheVariants as agents
use Rattle.command_agent.specs.Machine.{state_in, is_sent}
use Rattle.sbp_target.specs.declared.purpose.Purpose.{Purpose}
use Rattle.sbp_target.specs.declared.purpose.Purpose.TheVariants as purposes
use Rattle.sbp_target.specs.declared.purpose.Sent.{Sent}
use Rattle.sbp_target.specs.Agents.{sent_to}
use Rattle.sbp_target.specs.Desks.{is_that}
use Rattle.sbp_target.specs.Nodes.{NodeState, desk_at, login_at}
use Rattle.sbp_target.specs.Calls.{after}
use Rattle.sbp_target.specs.Histories.Transactions.{IsUnderWay, IsOwn, HasMain, IsThat, AgentLaw, HasOne, TransactionLaw, UnderWayLaw}
use Rattle.sbp_target.proofs.Histories.Stepped.{is_bare}
use Rattle.sbp_target.proofs.Histories.Seats.{Lives, IsFor, split, behind_that}
use Rattle.sbp_target.proofs.Histories.Primitives.{Known}
use Rattle.sbp_target.proofs.Histories.Following.{node_of, some_true}
use Rattle.sbp_target.proofs.Histories.Calling.{not_eight, Good, peer_of}
use Rattle.sbp_target.proofs.Histories.Rested.{some_that}
use Rattle.sbp_target.proofs.Histories.Settled.{all_good}

-- what the lives say of a label, and a label of a life
under_of : (layer : Layer Purpose) (lives : Lives) (purpose : Option Purpose) (peer : ℕ) (label : LabelParts) (kind : ReplyKind) → Known layer lives → lives peer label ≡ under_way kind purpose → IsUnderWay layer purpose peer label.number
under_of layer lives purpose peer label kind k e =
    let a = (after_kept 0xffc0 k.steps).agree in
    let l = sym (k.lives_are peer label) ∙ e in
    record {
      kind = kind;
      serial = label.serial;
      waits = ap (λ (x : Layer Purpose). state_for x.peers peer label.number) (sym k.layer_is) ∙ a.stands peer label kind purpose l;
      is_for = ap (λ (x : Layer Purpose). purpose_for x.peers peer label.number) (sym k.layer_is) ∙ a.is_for peer label kind purpose l;
    }

record Lived (lives : Lives) (purpose : Option Purpose) (peer number : ℕ) : Type 0 where
  label : LabelParts
  kind : ReplyKind
  numbered : label.number ≡ number
  life : lives peer label ≡ under_way kind purpose

life_of : (layer : Layer Purpose) (lives : Lives) (purpose : Option Purpose) (peer number : ℕ) → Known layer lives → IsUnderWay layer purpose peer number → Lived lives purpose peer number
life_of layer lives purpose peer number k u =
    let a = (after_kept 0xffc0 k.steps).agree in
    let label : LabelParts = record { number = number; generation = (wire.after 0xffc0 k.steps).generation; serial = u.serial } in
    let w = ap (λ (x : Layer Purpose). state_for x.peers peer number) k.layer_is ∙ u.waits in
    let f = ap (λ (x : Layer Purpose). purpose_for x.peers peer number) k.layer_is ∙ u.is_for in
    record {
      label = label;
      kind = u.kind;
      numbered = refl;
      life = k.lives_are peer label ∙ a.waits peer label u.kind refl w ∙ ap (λ (q : Option Purpose). under_way u.kind q) f;
    }

-- ---- an agent
record IsLogin (login : Option Login) (peer : ℕ) : Type 0 where
  own : Login
  is : login ≡ Some own
  to : peer ≡ own.node

login_of : (login : Option Login) (peer : ℕ) → node_of login ≡ Some peer → IsLogin login peer
login_of None peer e = absurd (nothing e)
  where
    nothing : None ≡ Some peer → ⊥
    nothing z = cc
login_of (Some login) peer e = record { own = login; is = refl; to = same e }
  where
    same : Some login.node ≡ Some peer → peer ≡ login.node
    same z = cc

own_of : (node : NodeState) (g : Good node) (place : ℕ) (sent : Sent) → IsFor g.lives (purposes.Agent place) sent × (node_of (login_at node place) ≡ Some sent.peer) → IsOwn node place sent
own_of node g place sent f =
    let l = login_of (login_at node place) sent.peer f.1 in
    record {
      under_way = under_of node.layer g.lives (Some (purposes.Agent place)) sent.peer sent.label f.0.kind g.mid.known f.0.life;
      login = l.own;
      stands = l.is;
      to = l.to;
    }

record There (x : Option Sent) : Type 0 where
  sent : Sent
  is : x ≡ Some sent

there : (x : Option Sent) → is_some x ≡ true → There x
there None e = absurd (untrue e)
  where
    untrue : false ≡ true → ⊥
    untrue z = cc
there (Some sent) e = record { sent = sent; is = refl }

active_sent : (phase : Phase) → state_in phase ≡ agents.Active → is_sent phase ≡ true
active_sent phases.Reset e = cc
active_sent phases.Suspended e = cc
active_sent phases.WritingLastStatus e = refl
active_sent phases.Dead e = cc
active_sent phases.Fetching e = refl
active_sent phases.ReadingTable e = refl
active_sent (phases.ReadingData wanted) e = refl
active_sent phases.Answering e = refl
active_sent phases.WritingStatus e = refl
active_sent phases.ReadingNext e = refl

record Idles (phase : Phase) : Type 0 where
  sent : phase ≢ phases.WritingLastStatus → is_sent phase ≡ false
  bare : is_bare phase ≡ true

inactive : (phase : Phase) → state_in phase ≢ agents.Active → Idles phase
inactive phases.Reset n = record { sent = λ l. refl; bare = refl }
inactive phases.Suspended n = record { sent = λ l. refl; bare = refl }
inactive phases.WritingLastStatus n = record { sent = λ l. absurd (l refl); bare = refl }
inactive phases.Dead n = record { sent = λ l. refl; bare = refl }
inactive phases.Fetching n = absurd (n refl)
inactive phases.ReadingTable n = absurd (n refl)
inactive (phases.ReadingData wanted) n = absurd (n refl)
inactive phases.Answering n = absurd (n refl)
inactive phases.WritingStatus n = absurd (n refl)
inactive phases.ReadingNext n = absurd (n refl)

that_is : (x : Option Sent) (peer number : ℕ) (label : LabelParts) → label.number ≡ number → is_that x peer label ≡ true → IsThat x peer number
that_is x peer number label n e = record { sent = sent_to peer label; is = some_that x peer label e; peer_is = refl; number_is = n }

main_of : (node : NodeState) (g : Good node) (place : ℕ) → place < 8 → is_sent (desk_at node place).agent.phase ≡ true → HasMain node place
main_of node g place b s =
    let f = g.mid.fits place b (not_eight place b) in
    let t = there (desk_at node place).main (f.main ∙ s) in
    record { sent = t.sent; kept = t.is; own = own_of node g place t.sent ((g.mid.seats place b).main_for t.sent t.is) }

agent_law : (node : NodeState) (g : Good node) (place : ℕ) → place < 8 → AgentLaw node place
agent_law node g place b =
    let d = desk_at node place in
    let f = g.mid.fits place b (not_eight place b) in
    let s = g.mid.seats place b in
    record {
      active = λ e. main_of node g place b (active_sent d.agent.phase e);
      last = λ e. main_of node g place b (ap (λ (p : Phase). is_sent p) e);
      others = λ n l. some_true d.main (f.main ∙ (inactive d.agent.phase n).sent l);
      ahead = λ sent e. own_of node g place sent (s.ahead_for sent e);
      alone = λ n. some_true d.ahead (f.ahead ∙ f.agent.bare (inactive d.agent.phase n).bare);
      no_more = λ peer number u.
          let l = life_of node.layer g.lives (Some (purposes.Agent place)) peer number g.mid.known u in
          split (is_that d.main peer l.label) (IsThat d.main peer number ⊎ IsThat d.ahead peer number)
          (λ e. inl (that_is d.main peer number l.label l.numbered e))
          (λ e. inr (that_is d.ahead peer number l.label l.numbered (behind_that (is_that d.main peer l.label) (is_that d.ahead peer l.label) (s.own peer l.label l.kind l.life) e)));
    }

-- ---- the management operation
record Requested (request : Option Sent) (source : ℕ) : Type 0 where
  sent : Sent
  is : request ≡ Some sent
  from : sent.peer ≡ source

requested : (request : Option Sent) (source : ℕ) → peer_of request ≡ Some source → Requested request source
requested None source e = absurd (nothing e)
  where
    nothing : None ≡ Some source → ⊥
    nothing z = cc
requested (Some sent) source e = record { sent = sent; is = refl; from = same e }
  where
    same : Some sent.peer ≡ Some source → sent.peer ≡ source
    same z = cc

parts_of : (a b : Sent) → Some a ≡ Some b → (b.peer ≡ a.peer) × (b.label.number ≡ a.label.number)
parts_of a b e = let s : a ≡ b = cc in (ap (λ (x : Sent). x.peer) (sym s), ap (λ (x : Sent). x.label.number) (sym s))

one_of : (node : NodeState) (g : Good node) (source : ℕ) → source_in node.manager.operation ≡ Some source → HasOne node source
one_of node g source e =
    let r = requested g.request source (sym g.source ∙ e) in
    let f = g.mid.hand.is_for r.sent r.is in
    record {
      number = r.sent.label.number;
      under_way = subst (λ (p : ℕ). IsUnderWay node.layer (Some purposes.Management) p r.sent.label.number) r.from (under_of node.layer g.lives (Some purposes.Management) r.sent.peer r.sent.label f.kind g.mid.known f.life);
      only = λ peer other u.
          let l = life_of node.layer g.lives (Some purposes.Management) peer other g.mid.known u in
          let s = parts_of r.sent (sent_to peer l.label) (sym r.is ∙ some_that g.request peer l.label (g.mid.hand.own peer l.label l.kind l.life)) in
          (s.0 ∙ r.from, sym l.numbered ∙ s.1);
    }

no_request : (request : Option Sent) (peer : ℕ) (label : LabelParts) → peer_of request ≡ None → is_that request peer label ≡ true → ⊥
no_request None peer label e f = absurd (untrue f)
  where
    untrue : false ≡ true → ⊥
    untrue z = cc
no_request (Some sent) peer label e f = absurd (nothing e)
  where
    nothing : Some sent.peer ≡ None → ⊥
    nothing z = cc

law_of : (node : NodeState) (g : Good node) → TransactionLaw node
law_of node g = record {
  agents_have = λ place b. agent_law node g place b;
  operation_has = λ source e. one_of node g source e;
  none_has = λ e peer number u.
      let l = life_of node.layer g.lives (Some purposes.Management) peer number g.mid.known u in
      no_request g.request peer l.label (sym g.source ∙ e) (g.mid.hand.own peer l.label l.kind l.life);
  places = λ place peer number u.
      let l = life_of node.layer g.lives (Some (purposes.Agent place)) peer number g.mid.known u in
      split (nat_lt place 8) (place < 8) (λ h. grind (arith, nat_tests)) (λ h. absurd (g.mid.beyond place (grind (arith, nat_tests)) peer l.label l.kind l.life));
}

pub under_way_law : UnderWayLaw
under_way_law units ready calls h = law_of (after units ready calls) (all_good units ready calls h)
