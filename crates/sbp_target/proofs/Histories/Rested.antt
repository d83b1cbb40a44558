-- A reply to an agent, a time-out of its transaction, and what is asked of it leave all agents at rest.
use Rattle.std.proofs.Common.{arith, ◌≡◌, ◌≢◌, refl, sym, ap, ◌∙◌, subst, ℕ, zero, suc, ◌+◌, ◌<◌, ◌≤◌, ◌&&◌, nat_lt, is_some, Bool, true, false, cond, List, [], ◌∷◌, ◌++◌, length, Option, Some, None}
use Rattle.std.proofs.lemmas.Bool.Decides.{nat_tests}
use Rattle.std.proofs.Math.ListN.{length-set}
use Rattle.async_packet.specs.Labels.{LabelParts}
use Rattle.label_table.specs.declared.judgement.Asked.{Asked}
use Rattle.label_table.specs.declared.reply.ReplyKind.{ReplyKind}
use Rattle.label_table.specs.Bodies.{Body, block_write}
use Rattle.label_table.specs.Layer.{Layer, asking_step}
use Rattle.label_table.specs.History.{not_begun, under_way, began}
use Rattle.login_table.specs.declared.login.Login.{Login}
use Rattle.media_bay.specs.Unsolicited.{block}
use Rattle.orb_layout.specs.Replies.{Answer}
use Rattle.rbc_disk.specs.Disk.{Disk}
use Rattle.rbc_disk.specs.Units.{UnitState}
use Rattle.rbc_disk.specs.Runs.{Told}
use Rattle.command_agent.specs.declared.phase.Phase.{Phase}
use Rattle.command_agent.specs.declared.phase.Phase.TheVariants as phases
use Rattle.command_agent.specs.declared.step.AgentStep.{AgentStep}
use Rattle.command_agent.specs.declared.step.Which.{Which}
use Rattle.command_agent.specs.declared.step.Which.TheVariants.{Main, Ahead}
use Rattle.command_agent.specs.Machine.{Machine, state_in, is_sent, is_ahead, is_under_way}
use Rattle.command_agent.specs.Steps.{quiet, is_reset, reply_step}
use Rattle.sbp_journal.specs.declared.side.Side.TheVariants as sides
use Rattle.sbp_journal.specs.Outgoings.{OutboxState}
use Rattle.sbp_target.specs.declared.desk.Desk.{Desk}
use Rattle.sbp_target.specs.declared.purpose.Purpose.{Purpose}
use Rattle.sbp_target.specs.declared.purpose.Purpose.TheVariants as purposes
use Rattle.sbp_target.specs.declared.purpose.Sent.{Sent}
use Rattle.sbp_target.specs.Desks.{is_that, taken, which_in}
use Rattle.sbp_target.specs.Sending.{request_step, sent_by, with_side}
use Rattle.sbp_target.specs.Nodes.{NodeState, Scene, scene, desk_at, login_at, with_desk}
use Rattle.sbp_target.specs.Agents.{sent_to, noted, ask_main, send_ahead, follow}
use Rattle.sbp_target.specs.Units.{is_pending, unsolicited_by, announce_to, announce_in, announce_at, announce_from, hears}
use Rattle.target_base.specs.Logins.{if_served}
use Rattle.sbp_target.specs.Replies.{stage, whole, plain_at, changed_by, announced_by, follow_all, replied_with, replied, advanced_with, advance, served_login, replied_by, replied_to}
use Rattle.sbp_target.proofs.Histories.Stepped.{is_bare, Fit, Behind, Over, main_replied, ahead_replied}
use Rattle.sbp_target.proofs.Histories.Seats.{behind_that, sent_same, Lives, IsFor, IsNot, OffOne, Seat, was as changed, split, seat_kept, hand_kept, main_ends, ahead_ends}
use Rattle.sbp_target.proofs.Histories.Primitives.{Known, live_on, began_off, began_at, asks_known, none_known}
use Rattle.sbp_target.proofs.Histories.Following.{node_of, IsServed, Fits, Place, Rest, Spares, spares_one, our_under, our_none, mid_step, desk_here, as_flags, follow_rest}
use Rattle.sbp_target.proofs.Histories.Calling.{not_eight, Good, leave_out, take_in, rest_good, with_layer_good}

-- ---- a transaction that is over
pub record Ends (x : Sent) (old new : Lives) (layer : Layer Purpose) : Type 0 where
  pub off : OffOne x.peer x.label old new
  pub none : (purpose : Purpose) → IsNot purpose (new x.peer x.label)
  pub known : Known layer new

module _ (q : ℕ) (node : NodeState) (g : Good node) (b : q < 8) (x : Sent) (new : Lives) (layer : Layer Purpose) (e : Ends x g.lives new layer) (agent : Machine) where
  spares_x : IsFor g.lives (purposes.Agent q) x → Spares q g.lives new
  spares_x f = spares_one q g.lives new x.peer x.label e.off (our_under q g.lives x.peer x.label f.kind f.life) (our_none q new x.peer x.label e.none)

  pub main_over : (desk_at node q).main ≡ Some x → Place q agent false (is_some (desk_at node q).ahead) node g.request (with_desk (record node { layer = layer }) q (record (taken Main (desk_at node q)) { agent = agent }))
  main_over is =
      let was = subst (λ (y : Option Sent). Seat q y (desk_at node q).ahead (node_of (login_at node q)) g.lives) is (g.mid.seats q b) in
      let d : Desk = record (taken Main (desk_at node q)) { agent = agent } in
      let m = leave_out q node g.lives g.request g.mid in
      let here = desk_here q node g.lives g.request m b layer d in
      record {
        lives = new;
        mid = mid_step q node g.lives g.request m b layer d new e.known (spares_x (was.main_for x refl).0) (main_ends q (node_of (login_at node q)) g.lives new x e.off (desk_at node q).ahead was (e.none (purposes.Agent q)));
        agent_is = ap (λ (y : Desk). y.agent) here;
        main_is = ap (λ (y : Desk). is_some y.main) here;
        ahead_is = ap (λ (y : Desk). is_some y.ahead) here;
        frame = (refl, refl, refl, refl);
      }

  pub ahead_over : (desk_at node q).ahead ≡ Some x → Place q agent (is_some (desk_at node q).main) false node g.request (with_desk (record node { layer = layer }) q (record (taken Ahead (desk_at node q)) { agent = agent }))
  ahead_over is =
      let was = subst (λ (y : Option Sent). Seat q (desk_at node q).main y (node_of (login_at node q)) g.lives) is (g.mid.seats q b) in
      let d : Desk = record (taken Ahead (desk_at node q)) { agent = agent } in
      let m = leave_out q node g.lives g.request g.mid in
      let here = desk_here q node g.lives g.request m b layer d in
      record {
        lives = new;
        mid = mid_step q node g.lives g.request m b layer d new e.known (spares_x (was.ahead_for x refl).0) (ahead_ends q (node_of (login_at node q)) g.lives new x e.off (desk_at node q).main was (e.none (purposes.Agent q)));
        agent_is = ap (λ (y : Desk). y.agent) here;
        main_is = ap (λ (y : Desk). is_some y.main) here;
        ahead_is = ap (λ (y : Desk). is_some y.ahead) here;
        frame = (refl, refl, refl, refl);
      }

-- the units change, and not their number
pub with_units : (q : ℕ) (agent : Machine) (main ahead : Bool) (before : NodeState) (request : Option Sent) (node : NodeState) (us : List UnitState) → length us ≡ length node.units → Place q agent main ahead before request node → Place q agent main ahead (record node { units = us }) request (record node { units = us })
with_units q agent main ahead before request node us e p = record {
  lives = p.lives;
  mid = record {
    known = p.mid.known;
    size = p.mid.size;
    seats = p.mid.seats;
    fits = p.mid.fits;
    served = λ r s n f. let i = p.mid.served r s n f in record { login = i.login; is = i.is; live = i.live; on_unit = subst (λ (k : ℕ). i.login.unit < k) (sym e) i.on_unit };
    hand = p.mid.hand;
    beyond = p.mid.beyond;
  };
  agent_is = p.agent_is;
  main_is = p.main_is;
  ahead_is = p.ahead_is;
  frame = (refl, refl, refl, refl);
}

-- ---- an unsolicited status leaves
pub enabled_good : (q : ℕ) (node : NodeState) → q < 8 → Good node → (x : Bool) → Good (with_desk node q (record (desk_at node q) { is_enabled = x }))
enabled_good q node b g x =
    let d : Desk = record (desk_at node q) { is_enabled = x } in
    let m = leave_out q node g.lives g.request g.mid in
    let here = desk_here q node g.lives g.request m b node.layer d in
    let f = g.mid.fits q b (let n : q ≢ 8 = omega arith in n) in
    let fits : Fits d = record { agent = f.agent; main = f.main; ahead = f.ahead } in
    let now = with_desk node q d in
    record {
      lives = g.lives;
      request = g.request;
      mid = take_in q now g.lives g.request b
          (mid_step q node g.lives g.request m b node.layer d g.lives g.mid.known (record { seats = λ p to main ahead n s. s; hand = λ request h. h; beyond = λ p peer label n h. h peer label }) (g.mid.seats q b))
          (subst (λ (y : Desk). Fits y) (sym here) fits)
          (λ e. let i = g.mid.served q b (let n : q ≢ 8 = omega arith in n) (sym (ap (λ (y : Desk). is_reset (state_in y.agent.phase)) here) ∙ e) in record { login = i.login; is = i.is; live = i.live; on_unit = i.on_unit });
      keys = g.keys;
      source = g.source;
      table = g.table;
      below = g.below;
    }

pub pending_good : (node : NodeState) (nodes : List ℕ) → Good node → Good (record node { pending = nodes })
pending_good node nodes g = record {
  lives = g.lives;
  request = g.request;
  mid = record {
    known = g.mid.known;
    size = g.mid.size;
    seats = g.mid.seats;
    fits = g.mid.fits;
    served = λ p s n r. let i = g.mid.served p s n r in record { login = i.login; is = i.is; live = i.live; on_unit = i.on_unit };
    hand = g.mid.hand;
    beyond = g.mid.beyond;
  };
  keys = g.keys;
  source = g.source;
  table = g.table;
  below = g.below;
}

-- a transaction begins or ends that is no agent's and not the operation's
pub foreign_good : (node : NodeState) (layer : Layer Purpose) (new : Lives) (peer : ℕ) (label : LabelParts) (g : Good node) → Known layer new → OffOne peer label g.lives new → ((p : ℕ) → IsNot (purposes.Agent p) (g.lives peer label)) → IsNot purposes.Management (g.lives peer label) → ((p : ℕ) → IsNot (purposes.Agent p) (new peer label)) → IsNot purposes.Management (new peer label) → Good (record node { layer = layer })
foreign_good node layer new peer label g k o n nm i im = record {
  lives = new;
  request = g.request;
  mid = record {
    known = k;
    size = g.mid.size;
    seats = λ p s. seat_kept p (node_of (login_at node p)) g.lives new peer label o (desk_at node p).main (desk_at node p).ahead (g.mid.seats p s) (n p) (i p);
    fits = g.mid.fits;
    served = λ p s n r. let h = g.mid.served p s n r in record { login = h.login; is = h.is; live = h.live; on_unit = h.on_unit };
    hand = hand_kept g.lives new peer label g.request o g.mid.hand nm im;
    beyond = λ p s r l kind e. let c = changed g.lives new (purposes.Agent p) peer label r l kind o (i p) e in g.mid.beyond p s r l kind c.1;
  };
  keys = g.keys;
  source = g.source;
  table = g.table;
  below = g.below;
}

announce_sent : (q : ℕ) (login : Login) (body : Body) (node : NodeState) (o : OutboxState) (r : Option Asked × Layer Purpose) → asking_step node.layer login.node body purposes.Unsolicited ≡ r → q < 8 → Good node → Good (unsolicited_by q login.node node (sent_by r o login.node)).node
announce_sent q login body node o (None, layer) e b g = with_layer_good node layer g (none_known node.layer layer g.lives login.node body purposes.Unsolicited g.mid.known e)
announce_sent q login body node o (Some asked, layer) e b g =
    let begun = asks_known node.layer layer g.lives login.node body purposes.Unsolicited asked g.mid.known e in
    let new = live_on (began login.node asked.label begun.kind purposes.Unsolicited) g.lives in
    let at = began_at login.node asked.label begun.kind purposes.Unsolicited g.lives in
    let now = foreign_good node layer new login.node asked.label g begun.known (began_off login.node asked.label begun.kind purposes.Unsolicited g.lives)
    (λ p kind f. fresh (sym begun.fresh ∙ f)) (λ kind f. fresh_2 (sym begun.fresh ∙ f)) (λ p kind f. unlike (sym at ∙ f)) (λ kind f. unlike_2 (sym at ∙ f)) in
    pending_good (with_desk (record node { layer = layer }) q (record (desk_at node q) { is_enabled = false })) (node.pending ++ login.node ∷ []) (enabled_good q (record node { layer = layer }) b now false)
  where
    fresh : {kind : ReplyKind} {p : ℕ} → not_begun ≡ under_way kind (Some (purposes.Agent p)) → ⊥
    fresh f = cc

    fresh_2 : {kind : ReplyKind} → not_begun ≡ under_way kind (Some purposes.Management) → ⊥
    fresh_2 f = cc

    unlike : {k kind : ReplyKind} {p : ℕ} → under_way k (Some purposes.Unsolicited) ≡ under_way kind (Some (purposes.Agent p)) → ⊥
    unlike f = cc

    unlike_2 : {k kind : ReplyKind} → under_way k (Some purposes.Unsolicited) ≡ under_way kind (Some purposes.Management) → ⊥
    unlike_2 f = cc

announce_if : (x : Bool) (y z : Scene) → Good y.node → Good z.node → Good (cond x y z).node
announce_if true y z g h = g
announce_if false y z g h = h

announce_to_good : (q : ℕ) (login : Login) (s : Scene) → q < 8 → Good s.node → Good (announce_to q login s).node
unfolding announce_to request_step
announce_to_good q login s b g =
    let body = block_write login.fifo block in
    let r = asking_step s.node.layer login.node body purposes.Unsolicited in
    announce_if (is_pending login.node s.node.pending) (scene s.node (with_side s.outbox (sides.Unsent q))) (unsolicited_by q login.node s.node (sent_by r s.outbox login.node)) g
    (announce_sent q login body s.node s.outbox r refl b g)

announce_in_good : (unit from q : ℕ) (login : Option Login) (s : Scene) → q < 8 → Good s.node → Good (announce_in unit from q login s).node
announce_in_good unit from q None s b g = g
announce_in_good unit from q (Some login) s b g = announce_if (hears unit from q (desk_at s.node q) login) (announce_to q login s) s (announce_to_good q login s b g) g

announces_good : (left place unit from : ℕ) (s : Scene) → place + left ≤ 8 → Good s.node → Good (announce_from left place unit from s).node
unfolding announce_from announce_at
announces_good zero place unit from s b g = g
announces_good (suc left) place unit from s b g =
    announces_good left (place + 1) unit from (announce_at unit from place s) (omega arith) (announce_in_good unit from place (login_at s.node place) s (omega arith) g)

announced_good : (x : Bool) (unit place : ℕ) (s : Scene) → Good s.node → Good (announced_by x unit place s).node
announced_good false unit place s g = g
announced_good true unit place s g = announces_good 8 0 unit place s (omega arith) g

-- ---- a step of the agent of a place, and what follows it
changed_units : (x : Bool) (unit place : ℕ) (node : NodeState) → (us : List UnitState) × ((length us ≡ length node.units) × (changed_by x unit place node ≡ record node { units = us }))
changed_units false unit place node = (node.units, (refl, refl))
changed_units true unit place node = (_, (length-set node.units unit _, refl))

-- a step that is silent
pub quiet_follow : (q : ℕ) (login : Login) (step : AgentStep) (s : Scene) → step ≡ quiet → (follow q login step s).node ≡ s.node
unfolding follow noted ask_main send_ahead
quiet_follow q login step s e = subst (λ (x : AgentStep). (follow q login x s).node ≡ s.node) (sym e) refl

-- an agent whose read ahead is over
pub over_rest : (q : ℕ) (m : Machine) (s : AgentStep × Machine) (before node : NodeState) (request : Option Sent) (main : Bool) → Over m s → main ≡ is_sent m.phase → Place q s.1 main false before request node → Rest q before request node
over_rest q m s before node request main o e p = record {
  agent = s.1;
  fit = o.fit;
  place = record { lives = p.lives; mid = p.mid; agent_is = p.agent_is; main_is = p.main_is ∙ e ∙ ap (λ (x : Phase). is_sent x) (sym o.phase); ahead_is = p.ahead_is ∙ sym o.idle; frame = p.frame };
}

-- ---- which transaction it was
sent_unreset : (phase : Phase) → is_sent phase ≡ true → is_reset (state_in phase) ≡ false
sent_unreset phases.Reset e = cc
sent_unreset phases.Fetching e = refl
sent_unreset phases.ReadingTable e = refl
sent_unreset (phases.ReadingData wanted) e = refl
sent_unreset phases.Answering e = refl
sent_unreset phases.WritingStatus e = refl
sent_unreset phases.WritingLastStatus e = refl
sent_unreset phases.ReadingNext e = refl
sent_unreset phases.Suspended e = cc
sent_unreset phases.Dead e = cc

ahead_unreset : (m : Machine) (phase : Phase) → m.phase ≡ phase → Fit m → is_ahead m.ahead ≡ true → is_reset (state_in phase) ≡ false
ahead_unreset m phases.Reset e f a = absurd (off (sym (f.bare (ap (λ (p : Phase). is_bare p) e)) ∙ a))
  where
    off : false ≡ true → ⊥
    off x = cc
ahead_unreset m phases.Fetching e f a = refl
ahead_unreset m phases.ReadingTable e f a = refl
ahead_unreset m (phases.ReadingData wanted) e f a = refl
ahead_unreset m phases.Answering e f a = refl
ahead_unreset m phases.WritingStatus e f a = refl
ahead_unreset m phases.WritingLastStatus e f a = refl
ahead_unreset m phases.ReadingNext e f a = refl
ahead_unreset m phases.Suspended e f a = refl
ahead_unreset m phases.Dead e f a = refl

pub some_that : (x : Option Sent) (peer : ℕ) (label : LabelParts) → is_that x peer label ≡ true → x ≡ Some (sent_to peer label)
some_that None peer label e = cc
some_that (Some sent) peer label e = ap (λ (s : Sent). Some s) (sent_same sent (sent_to peer label) e)

-- what came for an agent's transaction
pub data Came (q : ℕ) (node : NodeState) (x : Sent) : Type 0 where
  for_main : (desk_at node q).main ≡ Some x → which_in (desk_at node q) x.peer x.label ≡ Some Main → IsServed node q → is_sent (desk_at node q).agent.phase ≡ true → Came q node x
  for_ahead : (desk_at node q).ahead ≡ Some x → which_in (desk_at node q) x.peer x.label ≡ Some Ahead → IsServed node q → is_ahead (desk_at node q).agent.ahead ≡ true → Came q node x

main_which : (d : Desk) (peer : ℕ) (label : LabelParts) → is_that d.main peer label ≡ true → is_under_way Main d.agent ≡ true → which_in d peer label ≡ Some Main
main_which d peer label e f = by (is_that d.main peer label) (is_under_way Main d.agent) e f
  where
    by : (a c : Bool) → a ≡ true → c ≡ true → cond (a && c) (Some Main) (cond (is_that d.ahead peer label && is_under_way Ahead d.agent) (Some Ahead) None) ≡ Some Main
    by true true e f = refl
    by true false e f = cc
    by false c e f = cc

ahead_which : (d : Desk) (peer : ℕ) (label : LabelParts) → is_that d.main peer label ≡ false → is_that d.ahead peer label ≡ true → is_under_way Ahead d.agent ≡ true → which_in d peer label ≡ Some Ahead
ahead_which d peer label n e f = by (is_that d.main peer label) (is_that d.ahead peer label) (is_under_way Ahead d.agent) n e f
  where
    by : (z a c : Bool) → z ≡ false → a ≡ true → c ≡ true → cond (z && is_under_way Main d.agent) (Some Main) (cond (a && c) (Some Ahead) None) ≡ Some Ahead
    by true a c n e f = cc
    by false true true n e f = refl
    by false true false n e f = cc
    by false false c n e f = cc

is_here : {A : Type 0} (x : Option A) (y : A) → x ≡ Some y → is_some x ≡ true
is_here {A = A} x y e = ap (λ (z : Option A). is_some z) e

pub came_for : (q : ℕ) (node : NodeState) (g : Good node) → q < 8 → (x : Sent) → IsFor g.lives (purposes.Agent q) x → Came q node x
came_for q node g b x f =
    let d = desk_at node q in
    let s = g.mid.seats q b in
    let n : q ≢ 8 = not_eight q b in
    let fit = g.mid.fits q b n in
    split (is_that d.main x.peer x.label) (Came q node x)
    (λ e.
    let is = some_that d.main x.peer x.label e in
    let sent : is_sent d.agent.phase ≡ true = sym fit.main ∙ is_here d.main x is in
    for_main is (main_which d x.peer x.label e sent) (g.mid.served q b n (sent_unreset d.agent.phase sent)) sent)
    (λ e.
    let h = behind_that (is_that d.main x.peer x.label) (is_that d.ahead x.peer x.label) (s.own x.peer x.label f.kind f.life) e in
    let is = some_that d.ahead x.peer x.label h in
    let under : is_ahead d.agent.ahead ≡ true = sym fit.ahead ∙ is_here d.ahead x is in
    for_ahead is (ahead_which d x.peer x.label e h under) (g.mid.served q b n (ahead_unreset d.agent d.agent.phase refl fit.agent under)) under)

served_is : (node : NodeState) (q : ℕ) (i : IsServed node q) → served_login node q ≡ Some i.login
served_is node q i = ap (λ (l : Option Login). if_served (length node.units) l) i.is ∙ on_unit (nat_lt i.login.unit (length node.units)) (let u = i.on_unit in grind (arith, nat_tests))
  where
    on_unit : (x : Bool) → x ≡ true → cond x (Some i.login) None ≡ Some i.login
    on_unit true e = refl
    on_unit false e = cc

-- ---- a reply
module _ (q : ℕ) (node : NodeState) (g : Good node) (b : q < 8) (x : Sent) (new : Lives) (layer : Layer Purpose) (e : Ends x g.lives new layer) (i : IsServed node q) (o : OutboxState) where
  abbrev Closed : NodeState
  Closed = record node { layer = layer }

  main_followed : (loaded : Bool) (r : AgentStep × Machine) (us : List UnitState) → length us ≡ length node.units → (desk_at node q).main ≡ Some x → Behind (is_ahead (desk_at node q).agent.ahead) r → Good (follow_all loaded q i.login r.0 (scene (record (with_desk Closed q (record (taken Main (desk_at node q)) { agent = r.1 })) { units = us }) o)).node
  unfolding follow_all
  main_followed loaded r us l is h =
      let n = not_eight q b in
      let two = record (with_desk Closed q (record (taken Main (desk_at node q)) { agent = r.1 })) { units = us } in
      let c = changed_units loaded i.login.unit q two in
      let three = record two { units = c.0 } in
      let l3 : length c.0 ≡ length node.units = c.1.0 ∙ l in
      let p0 = as_flags q r.1 false (is_some (desk_at node q).ahead) false (is_ahead (desk_at node q).agent.ahead) node g.request (with_desk Closed q (record (taken Main (desk_at node q)) { agent = r.1 })) refl (g.mid.fits q b n).ahead
      (main_over q node g b x new layer e r.1 is) in
      let p = with_units q r.1 false (is_ahead (desk_at node q).agent.ahead) node g.request (with_desk Closed q (record (taken Main (desk_at node q)) { agent = r.1 })) c.0 l3 p0 in
      let rest = follow_rest q r.1 (is_ahead (desk_at node q).agent.ahead) three g.request i.login r.0 (scene three o) b i.is h p in
      let good = rest_good q three (follow q i.login r.0 (scene three o)).node g.request b (record { login = i.login; is = i.is; live = i.live; on_unit = subst (λ (k : ℕ). i.login.unit < k) (sym l3) i.on_unit }) (record { keys = g.keys ∙ sym l3; source = g.source; table = g.table; below = g.below }) rest in
      announced_good loaded i.login.unit q (follow q i.login r.0 (scene (changed_by loaded i.login.unit q two) o))
      (subst (λ (k : NodeState). Good (follow q i.login r.0 (scene k o)).node) (sym c.1.1) good)

  ahead_followed : (loaded : Bool) (r : AgentStep × Machine) (us : List UnitState) → length us ≡ length node.units → (desk_at node q).ahead ≡ Some x → Over (desk_at node q).agent r → Good (follow_all loaded q i.login r.0 (scene (record (with_desk Closed q (record (taken Ahead (desk_at node q)) { agent = r.1 })) { units = us }) o)).node
  unfolding follow_all
  ahead_followed loaded r us l is h =
      let n = not_eight q b in
      let two = record (with_desk Closed q (record (taken Ahead (desk_at node q)) { agent = r.1 })) { units = us } in
      let c = changed_units loaded i.login.unit q two in
      let three = record two { units = c.0 } in
      let l3 : length c.0 ≡ length node.units = c.1.0 ∙ l in
      let p0 = ahead_over q node g b x new layer e r.1 is in
      let p = with_units q r.1 (is_some (desk_at node q).main) false node g.request (with_desk Closed q (record (taken Ahead (desk_at node q)) { agent = r.1 })) c.0 l3 p0 in
      let rest = over_rest q (desk_at node q).agent r three three g.request (is_some (desk_at node q).main) h (g.mid.fits q b n).main p in
      let good = rest_good q three three g.request b (record { login = i.login; is = i.is; live = i.live; on_unit = subst (λ (k : ℕ). i.login.unit < k) (sym l3) i.on_unit }) (record { keys = g.keys ∙ sym l3; source = g.source; table = g.table; below = g.below }) rest in
      announced_good loaded i.login.unit q (follow q i.login r.0 (scene (changed_by loaded i.login.unit q two) o))
      (subst (λ (k : NodeState). Good k) (sym (quiet_follow q i.login r.0 (scene (changed_by loaded i.login.unit q two) o) h.silent ∙ c.1.1)) good)

  advanced_main : (disks : List Disk) (r : AgentStep × Machine) → (desk_at node q).main ≡ Some x → Behind (is_ahead (desk_at node q).agent.ahead) r → Good (advanced_with q i.login (replied_with q i.login.unit Main r (stage Closed disks)) (whole (scene Closed o) disks)).node
  advanced_main disks (step, m) is h = main_followed _ (step, m) _ (length-set node.units i.login.unit _) is h

  advanced_ahead : (disks : List Disk) (r : AgentStep × Machine) → (desk_at node q).ahead ≡ Some x → Over (desk_at node q).agent r → Good (advanced_with q i.login (replied_with q i.login.unit Ahead r (stage Closed disks)) (whole (scene Closed o) disks)).node
  advanced_ahead disks (step, m) is h = ahead_followed _ (step, m) _ (length-set node.units i.login.unit _) is h

  advance_main : (told : Option Told) (answer : Answer) (disks : List Disk) → (desk_at node q).main ≡ Some x → Good (advance told q i.login Main answer (whole (scene Closed o) disks)).node
  unfolding advance replied
  advance_main told answer disks is =
      let n = not_eight q b in
      advanced_main disks (reply_step (desk_at node q).agent q (plain_at (stage Closed disks) i.login.unit) told Main answer) is
      (main_replied (desk_at node q).agent q (plain_at (stage Closed disks) i.login.unit) told answer (g.mid.fits q b n).agent)

  advance_ahead : (told : Option Told) (answer : Answer) (disks : List Disk) → (desk_at node q).ahead ≡ Some x → is_ahead (desk_at node q).agent.ahead ≡ true → Good (advance told q i.login Ahead answer (whole (scene Closed o) disks)).node
  unfolding advance replied
  advance_ahead told answer disks is a =
      let n = not_eight q b in
      advanced_ahead disks (reply_step (desk_at node q).agent q (plain_at (stage Closed disks) i.login.unit) told Ahead answer) is
      (ahead_replied (desk_at node q).agent q (plain_at (stage Closed disks) i.login.unit) told answer a (g.mid.fits q b n).agent)

replied_came : (told : Option Told) (answer : Answer) (disks : List Disk) (q : ℕ) (node : NodeState) (g : Good node) → q < 8 → (x : Sent) (new : Lives) (layer : Layer Purpose) → Ends x g.lives new layer → (o : OutboxState) → Came q node x → Good (replied_by told q answer (served_login node q) (which_in (desk_at node q) x.peer x.label) (whole (scene (record node { layer = layer }) o) disks)).node
replied_came told answer disks q node g b x new layer e o (for_main is w i s) =
    subst (λ (l : Option Login). Good (replied_by told q answer l (which_in (desk_at node q) x.peer x.label) (whole (scene (record node { layer = layer }) o) disks)).node) (sym (served_is node q i))
    (subst (λ (k : Option Which). Good (replied_by told q answer (Some i.login) k (whole (scene (record node { layer = layer }) o) disks)).node) (sym w) (advance_main q node g b x new layer e i o told answer disks is))
replied_came told answer disks q node g b x new layer e o (for_ahead is w i s) =
    subst (λ (l : Option Login). Good (replied_by told q answer l (which_in (desk_at node q) x.peer x.label) (whole (scene (record node { layer = layer }) o) disks)).node) (sym (served_is node q i))
    (subst (λ (k : Option Which). Good (replied_by told q answer (Some i.login) k (whole (scene (record node { layer = layer }) o) disks)).node) (sym w) (advance_ahead q node g b x new layer e i o told answer disks is s))

pub replied_good : (told : Option Told) (answer : Answer) (disks : List Disk) (q : ℕ) (node : NodeState) (g : Good node) → q < 8 → (x : Sent) (new : Lives) (layer : Layer Purpose) → IsFor g.lives (purposes.Agent q) x → Ends x g.lives new layer → (o : OutboxState) → Good (replied_to told q x.peer x.label answer (whole (scene (record node { layer = layer }) o) disks)).node
unfolding replied_to
replied_good told answer disks q node g b x new layer f e o = replied_came told answer disks q node g b x new layer e o (came_for q node g b x f)
