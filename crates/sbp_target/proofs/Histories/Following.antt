-- What follows a step of an agent leaves it with the transactions that it waits for, and all other agents as they were.
use Rattle.std.proofs.Common.{arith, ◌≡◌, ◌≢◌, refl, sym, ap, ◌∙◌, subst, ℕ, ◌<◌, ◌≤◌, ◌&&◌, ◌||◌, not, nat_eq, nat_lt, nat_le, is_some, Bool, true, false, cond, List, length, Option, Some, None}
use Rattle.std.proofs.lemmas.Bool.Decides.{nat_tests}
use Rattle.std.proofs.Math.ListN.{length-set}
use Rattle.async_packet.specs.Fields.{largest}
use Rattle.async_packet.specs.Labels.{LabelParts}
use Rattle.label_table.specs.declared.judgement.Asked.{Asked}
use Rattle.label_table.specs.declared.reply.ReplyKind.{ReplyKind}
use Rattle.label_table.specs.Bodies.{Body, block_read, block_write}
use Rattle.label_table.specs.Layer.{Layer, asking_step, free_labels}
use Rattle.label_table.specs.History.{not_begun, under_way, began, disowned}
use Rattle.label_table.proofs.Owned.{set_at}
use Rattle.login_table.specs.declared.login.Login.{Login}
use Rattle.login_table.specs.Table.{Table, is_live, place_at}
use Rattle.orb_layout.specs.declared.ask.Ask.{Ask}
use Rattle.orb_layout.specs.declared.ask.Ask.TheVariants.{Read, Write, Nothing}
use Rattle.orb_layout.specs.declared.ask.FailCause.{FailCause}
use Rattle.orb_layout.specs.declared.ask.FailCause.TheVariants as causes
use Rattle.command_agent.specs.declared.phase.Phase.{Phase}
use Rattle.command_agent.specs.declared.phase.Phase.TheVariants as phases
use Rattle.command_agent.specs.declared.step.AgentStep.{AgentStep}
use Rattle.command_agent.specs.declared.step.Which.TheVariants.{Main, Ahead}
use Rattle.command_agent.specs.Machine.{Machine, state_in, is_sent, is_ahead, is_under_way}
use Rattle.command_agent.specs.Steps.{quiet, is_reset, lost_step}
use Rattle.sbp_journal.specs.Outgoings.{OutboxState}
use Rattle.sbp_target.specs.declared.desk.Desk.{Desk}
use Rattle.sbp_target.specs.declared.purpose.Purpose.{Purpose}
use Rattle.sbp_target.specs.declared.purpose.Purpose.TheVariants as purposes
use Rattle.sbp_target.specs.declared.purpose.Sent.{Sent}
use Rattle.sbp_target.specs.Desks.{new_desk, promoted_desk}
use Rattle.sbp_target.specs.Sending.{request_step, sent_by}
use Rattle.sbp_target.specs.Nodes.{NodeState, Scene, scene, desk_at, login_at, with_desk, with_agent}
use Rattle.sbp_target.specs.Agents.{agent_body, sent_to, disowned as given_up, without_ahead, dropped_by, promoted, promoted_by, noted, main_sent, main_asked, ask_main, lost_by, lose, ahead_sent, ahead_asked, after_ahead, send_ahead, ask_ahead, after_loss, lose_main, after_main, follow}
use Rattle.sbp_target.proofs.Histories.Stepped.{is_asked, Carries, Fit, Behind, main_loses, last_loses, ahead_loses}
use Rattle.sbp_target.proofs.Histories.Seats.{was as changed, Lives, IsNot, OffOne, Seat, Hand, seat_kept, seat_promoted, main_begins, ahead_begins, main_ends, ahead_ends, hand_kept}
use Rattle.sbp_target.proofs.Histories.Primitives.{Known, live_on, began_off, began_at, disowned_off, disowned_at, asks_known, none_known, disowns_known}

abbrev pub node_of : Option Login → Option ℕ
node_of None = None
node_of (Some login) = Some login.node

-- the login of a place is live, on a unit that exists
pub record IsServed (node : NodeState) (place : ℕ) : Type 0 where
  pub login : Login
  pub is : login_at node place ≡ Some login
  pub live : is_live login ≡ true
  pub on_unit : login.unit < length node.units

-- what an agent waits for is under way
pub record Fits (desk : Desk) : Type 0 where
  pub agent : Fit desk.agent
  pub main : is_some desk.main ≡ is_sent desk.agent.phase
  pub ahead : is_some desk.ahead ≡ is_ahead desk.agent.ahead

-- all agents but one are at rest
pub record Mid (q : ℕ) (node : NodeState) (lives : Lives) (request : Option Sent) : Type 0 where
  pub known : Known node.layer lives
  pub size : length node.desks ≡ 8
  pub seats : (p : ℕ) → p < 8 → Seat p (desk_at node p).main (desk_at node p).ahead (node_of (login_at node p)) lives
  pub fits : (p : ℕ) → p < 8 → p ≢ q → Fits (desk_at node p)
  pub served : (p : ℕ) → p < 8 → p ≢ q → is_reset (state_in (desk_at node p).agent.phase) ≡ false → IsServed node p
  pub hand : Hand request lives
  pub beyond : (p : ℕ) → 8 ≤ p → (peer : ℕ) (label : LabelParts) → IsNot (purposes.Agent p) (lives peer label)

-- the same but for the layer and the desks
abbrev pub Frame : NodeState → NodeState → Type 0
Frame before now = (now.logins ≡ before.logins) × (now.manager ≡ before.manager) × (now.units ≡ before.units) × (now.keys ≡ before.keys)

-- a life is none of another agent's, nor of the management operation's
pub record IsOurs (q : ℕ) (lives : Lives) (peer : ℕ) (label : LabelParts) : Type 0 where
  pub others : (p : ℕ) → p ≢ q → IsNot (purposes.Agent p) (lives peer label)
  pub manager : IsNot purposes.Management (lives peer label)

pub same_place : (p q : ℕ) → nat_eq p q ≡ true → p ≡ q
same_place p q e = grind (arith, nat_tests)

pub other_place : (p q : ℕ) → nat_eq p q ≡ false → p ≢ q
other_place p q e = grind (arith, nat_tests)

pub far : (p q : ℕ) → 8 ≤ p → q < 8 → p ≢ q
far p q s b e = omega arith

-- ---- lives that differ for the agent of place q alone
pub record Spares (q : ℕ) (old new : Lives) : Type 0 where
  pub seats : (p : ℕ) (to : Option ℕ) (main ahead : Option Sent) → p ≢ q → Seat p main ahead to old → Seat p main ahead to new
  pub hand : (request : Option Sent) → Hand request old → Hand request new
  pub beyond : (p : ℕ) (peer : ℕ) (label : LabelParts) → p ≢ q → ((peer : ℕ) (label : LabelParts) → IsNot (purposes.Agent p) (old peer label)) → IsNot (purposes.Agent p) (new peer label)

pub spares_self : (q : ℕ) (lives : Lives) → Spares q lives lives
spares_self q lives = record { seats = λ p to main ahead n s. s; hand = λ request h. h; beyond = λ p peer label n h. h peer label }

pub spares_both : (q : ℕ) (one two three : Lives) → Spares q one two → Spares q two three → Spares q one three
spares_both q one two three a b = record {
  seats = λ p to main ahead n s. b.seats p to main ahead n (a.seats p to main ahead n s);
  hand = λ request h. b.hand request (a.hand request h);
  beyond = λ p peer label n h. b.beyond p peer label n (λ r l. a.beyond p r l n h);
}

pub spares_one : (q : ℕ) (old new : Lives) (peer : ℕ) (label : LabelParts) → OffOne peer label old new → IsOurs q old peer label → IsOurs q new peer label → Spares q old new
spares_one q old new peer label o w i = record {
  seats = λ p to main ahead n s. seat_kept p to old new peer label o main ahead s (w.others p n) (i.others p n);
  hand = λ request h. hand_kept old new peer label request o h w.manager i.manager;
  beyond = λ p r l n h kind e. let c = changed old new (purposes.Agent p) peer label r l kind o (i.others p n) e in h r l kind c.1;
}

-- ---- a step of the agent of place q
module _ (q : ℕ) (node : NodeState) (lives : Lives) (request : Option Sent) (m : Mid q node lives request) (b : q < 8) (layer : Layer Purpose) (d : Desk) where
  abbrev Now : NodeState
  Now = with_desk (record node { layer = layer }) q d

  desk_is : (p : ℕ) → desk_at Now p ≡ cond (nat_eq p q) d (desk_at node p)
  desk_is p = set_at node.desks q p d new_desk (let s = m.size in omega arith)

  pub desk_here : desk_at Now q ≡ d
  desk_here = let e : nat_eq q q ≡ true = grind (arith, nat_tests) in desk_is q ∙ ap (λ (x : Bool). cond x d (desk_at node q)) e

  module _ (new : Lives) (known : Known layer new) (k : Spares q lives new) (seat : Seat q d.main d.ahead (node_of (login_at node q)) new) where
    seat_at : (x : Bool) (p : ℕ) → p < 8 → nat_eq p q ≡ x → Seat p (cond x d (desk_at node p)).main (cond x d (desk_at node p)).ahead (node_of (login_at node p)) new
    seat_at true p s e = subst (λ (n : ℕ). Seat n d.main d.ahead (node_of (login_at node n)) new) (sym (same_place p q e)) seat
    seat_at false p s e = k.seats p (node_of (login_at node p)) (desk_at node p).main (desk_at node p).ahead (other_place p q e) (m.seats p s)

    fits_at : (x : Bool) (p : ℕ) → p < 8 → p ≢ q → nat_eq p q ≡ x → Fits (cond x d (desk_at node p))
    fits_at true p s n e = absurd (n (same_place p q e))
    fits_at false p s n e = m.fits p s n

    served_at : (x : Bool) (p : ℕ) → p < 8 → p ≢ q → nat_eq p q ≡ x → is_reset (state_in (cond x d (desk_at node p)).agent.phase) ≡ false → IsServed Now p
    served_at true p s n e r = absurd (n (same_place p q e))
    served_at false p s n e r = let i = m.served p s n r in record { login = i.login; is = i.is; live = i.live; on_unit = i.on_unit }

    pub mid_step : Mid q Now new request
    mid_step = record {
      known = known;
      size = length-set node.desks q d ∙ m.size;
      seats = λ p s. subst (λ (x : Desk). Seat p x.main x.ahead (node_of (login_at node p)) new) (sym (desk_is p)) (seat_at (nat_eq p q) p s refl);
      fits = λ p s n. subst (λ (x : Desk). Fits x) (sym (desk_is p)) (fits_at (nat_eq p q) p s n refl);
      served = λ p s n r. served_at (nat_eq p q) p s n refl (ap (λ (x : Desk). is_reset (state_in x.agent.phase)) (sym (desk_is p)) ∙ r);
      hand = k.hand request m.hand;
      beyond = λ p s peer label. k.beyond p peer label (far p q s b) (m.beyond p s);
    }

-- What the agent of place q is, and which transactions it has under way.
pub record Place (q : ℕ) (agent : Machine) (main ahead : Bool) (before : NodeState) (request : Option Sent) (node : NodeState) : Type 0 where
  pub lives : Lives
  pub mid : Mid q node lives request
  pub agent_is : (desk_at node q).agent ≡ agent
  pub main_is : is_some (desk_at node q).main ≡ main
  pub ahead_is : is_some (desk_at node q).ahead ≡ ahead
  pub frame : Frame before node

-- of the agent's own
pub our_begun : (q : ℕ) (lives : Lives) (peer : ℕ) (label : LabelParts) → lives peer label ≡ not_begun → IsOurs q lives peer label
our_begun q lives peer label e = record { others = λ p n kind f. unlike (sym e ∙ f); manager = λ kind f. unlike_2 (sym e ∙ f) }
  where
    unlike : {kind : ReplyKind} {p : ℕ} → not_begun ≡ under_way kind (Some (purposes.Agent p)) → ⊥
    unlike e = cc

    unlike_2 : {kind : ReplyKind} → not_begun ≡ under_way kind (Some purposes.Management) → ⊥
    unlike_2 e = cc

pub our_under : (q : ℕ) (lives : Lives) (peer : ℕ) (label : LabelParts) (kind : ReplyKind) → lives peer label ≡ under_way kind (Some (purposes.Agent q)) → IsOurs q lives peer label
our_under q lives peer label kind e = record { others = λ p n k f. n (agents p (sym e ∙ f)); manager = λ k f. unlike (sym e ∙ f) }
  where
    agents : (p : ℕ) {k : ReplyKind} → under_way kind (Some (purposes.Agent q)) ≡ under_way k (Some (purposes.Agent p)) → p ≡ q
    agents p e = cc

    unlike : {k : ReplyKind} → under_way kind (Some (purposes.Agent q)) ≡ under_way k (Some purposes.Management) → ⊥
    unlike e = cc

pub our_none : (q : ℕ) (lives : Lives) (peer : ℕ) (label : LabelParts) → ((purpose : Purpose) → IsNot purpose (lives peer label)) → IsOurs q lives peer label
our_none q lives peer label h = record { others = λ p n. h (purposes.Agent p); manager = h purposes.Management }

pub some_true : (x : Option Sent) → is_some x ≡ false → x ≡ None
some_true None e = refl
some_true (Some sent) e = cc

-- ---- a transaction is given up
pub record GivesUp (q : ℕ) (main ahead : Option Sent) (to : Option ℕ) (lives : Lives) (layer : Layer Purpose) : Type 0 where
  pub new : Lives
  pub known : Known layer new
  pub spares : Spares q lives new
  pub seat : Seat q main ahead to new

pub gives_ahead : (q : ℕ) (main ahead : Option Sent) (to : Option ℕ) (lives : Lives) (layer : Layer Purpose) → Known layer lives → Seat q main ahead to lives → GivesUp q main None to lives (given_up ahead layer)
gives_ahead q main None to lives layer k s = record { new = lives; known = k; spares = spares_self q lives; seat = s }
gives_ahead q main (Some x) to lives layer k s =
    let new = live_on (disowned x.peer x.label) lives in
    let life = (s.ahead_for x refl).0 in
    record {
      new = new;
      known = disowns_known layer lives x.peer x.label k;
      spares = spares_one q lives new x.peer x.label (disowned_off x.peer x.label lives) (our_under q lives x.peer x.label life.kind life.life) (our_none q new x.peer x.label (disowned_at x.peer x.label lives));
      seat = ahead_ends q to lives new x (disowned_off x.peer x.label lives) main s (disowned_at x.peer x.label lives (purposes.Agent q));
    }

pub gives_main : (q : ℕ) (main ahead : Option Sent) (to : Option ℕ) (lives : Lives) (layer : Layer Purpose) → Known layer lives → Seat q main ahead to lives → GivesUp q None ahead to lives (given_up main layer)
gives_main q None ahead to lives layer k s = record { new = lives; known = k; spares = spares_self q lives; seat = s }
gives_main q (Some x) ahead to lives layer k s =
    let new = live_on (disowned x.peer x.label) lives in
    let life = (s.main_for x refl).0 in
    record {
      new = new;
      known = disowns_known layer lives x.peer x.label k;
      spares = spares_one q lives new x.peer x.label (disowned_off x.peer x.label lives) (our_under q lives x.peer x.label life.kind life.life) (our_none q new x.peer x.label (disowned_at x.peer x.label lives));
      seat = main_ends q to lives new x (disowned_off x.peer x.label lives) ahead s (disowned_at x.peer x.label lives (purposes.Agent q));
    }

pub drops : (q : ℕ) (agent : Machine) (a : Bool) (before : NodeState) (request : Option Sent) (node : NodeState) → q < 8 → Place q agent false a before request node → Place q agent false false before request (without_ahead q node)
unfolding without_ahead
drops q agent a before request node b p =
    let d = record (desk_at node q) { ahead = None } in
    let layer = given_up (desk_at node q).ahead node.layer in
    let g = gives_ahead q (desk_at node q).main (desk_at node q).ahead (node_of (login_at node q)) p.lives node.layer p.mid.known (p.mid.seats q b) in
    record {
      lives = g.new;
      mid = mid_step q node p.lives request p.mid b layer d g.new g.known g.spares g.seat;
      agent_is = ap (λ (y : Desk). y.agent) (desk_here q node p.lives request p.mid b layer d) ∙ p.agent_is;
      main_is = ap (λ (y : Desk). is_some y.main) (desk_here q node p.lives request p.mid b layer d) ∙ p.main_is;
      ahead_is = ap (λ (y : Desk). is_some y.ahead) (desk_here q node p.lives request p.mid b layer d);
      frame = p.frame;
    }

kept_true : (b : Bool) → b ≡ (b && not false)
kept_true true = refl
kept_true false = refl

kept_false : (b : Bool) → false ≡ (b && not true)
kept_false true = refl
kept_false false = refl

drops_if : (dead : Option FailCause) (q : ℕ) (agent : Machine) (a : Bool) (before : NodeState) (request : Option Sent) (node : NodeState) → q < 8 → Place q agent false a before request node → Place q agent false (a && not (is_some dead)) before request (dropped_by dead q node)
drops_if None q agent a before request node b p = subst (λ (x : Bool). Place q agent false x before request node) (kept_true a) p
drops_if (Some cause) q agent a before request node b p = subst (λ (x : Bool). Place q agent false x before request (without_ahead q node)) (kept_false a) (drops q agent a before request node b p)

-- ---- the read ahead becomes the main transaction
promote : (q : ℕ) (agent : Machine) (a : Bool) (before : NodeState) (request : Option Sent) (node : NodeState) → q < 8 → Place q agent false a before request node → Place q agent a false before request (promoted q node)
promote q agent a before request node b p =
    let d = promoted_desk (desk_at node q) in
    let none = some_true (desk_at node q).main p.main_is in
    let was = subst (λ (y : Option Sent). Seat q y (desk_at node q).ahead (node_of (login_at node q)) p.lives) none (p.mid.seats q b) in
    record {
      lives = p.lives;
      mid = mid_step q node p.lives request p.mid b node.layer d p.lives p.mid.known (spares_self q p.lives) (seat_promoted q p.lives (node_of (login_at node q)) (desk_at node q).ahead was);
      agent_is = ap (λ (y : Desk). y.agent) (desk_here q node p.lives request p.mid b node.layer d) ∙ p.agent_is;
      main_is = ap (λ (y : Desk). is_some y.main) (desk_here q node p.lives request p.mid b node.layer d) ∙ p.ahead_is;
      ahead_is = ap (λ (y : Desk). is_some y.ahead) (desk_here q node p.lives request p.mid b node.layer d);
      frame = p.frame;
    }

promotes_if : (x : Bool) (q : ℕ) (agent : Machine) (a : Bool) (before : NodeState) (request : Option Sent) (node : NodeState) → q < 8 → Place q agent false a before request node → Place q agent (cond x a false) (cond x false a) before request (promoted_by x q node)
promotes_if true q agent a before request node b p = promote q agent a before request node b p
promotes_if false q agent a before request node b p = p

pub notes_place : (q : ℕ) (agent : Machine) (a : Bool) (before : NodeState) (request : Option Sent) (step : AgentStep) (s : Scene) → q < 8 → Place q agent false a before request s.node → Place q agent (cond step.promoted (a && not (is_some step.dead)) false) (cond step.promoted false (a && not (is_some step.dead))) before request (noted q step s).node
unfolding noted
notes_place q agent a before request step s b p =
    promotes_if step.promoted q agent (a && not (is_some step.dead)) before request (dropped_by step.dead q s.node) b (drops_if step.dead q agent a before request s.node b p)

-- ---- the agent is another
pub becomes : (q : ℕ) (agent other : Machine) (x a : Bool) (before : NodeState) (request : Option Sent) (node : NodeState) → q < 8 → Place q agent x a before request node → Place q other x a before request (with_agent node q other)
becomes q agent other x a before request node b p =
    let d = record (desk_at node q) { agent = other } in
    record {
      lives = p.lives;
      mid = mid_step q node p.lives request p.mid b node.layer d p.lives p.mid.known (spares_self q p.lives) (p.mid.seats q b);
      agent_is = ap (λ (y : Desk). y.agent) (desk_here q node p.lives request p.mid b node.layer d);
      main_is = ap (λ (y : Desk). is_some y.main) (desk_here q node p.lives request p.mid b node.layer d) ∙ p.main_is;
      ahead_is = ap (λ (y : Desk). is_some y.ahead) (desk_here q node p.lives request p.mid b node.layer d) ∙ p.ahead_is;
      frame = p.frame;
    }

-- ---- a request of the agent
body_some : (ask : Ask) (fin : Bool) (fifo : ℕ) (outgoing : List ℕ) → Carries ask outgoing → is_asked ask ≡ true → is_some (agent_body ask fin fifo outgoing) ≡ true
body_some Nothing fin fifo outgoing c e = cc
body_some (Read offset size) fin fifo outgoing c e = small (nat_le size largest) (grind (arith, nat_tests))
  where
    small : (b : Bool) → b ≡ true → is_some (cond b (Some (block_read offset size)) None) ≡ true
    small true e = refl
    small false e = cc
body_some (Write offset size) fin fifo outgoing c e = small (nat_le (length outgoing) largest) (grind (arith, nat_tests))
  where
    small : (b : Bool) → b ≡ true → is_some (cond b (Some (block_write (cond fin fifo offset) outgoing)) None) ≡ true
    small true e = refl
    small false e = cc

body_none : (ask : Ask) (fin : Bool) (fifo : ℕ) (outgoing : List ℕ) → is_asked ask ≡ false → agent_body ask fin fifo outgoing ≡ None
body_none Nothing fin fifo outgoing e = refl
body_none (Read offset size) fin fifo outgoing e = cc
body_none (Write offset size) fin fifo outgoing e = cc

-- sent, or no label was found
abbrev Asked_for : ℕ → Machine → Bool → Bool → Bool → Bool → NodeState → Option Sent → Bool × Scene → Type 0
Asked_for q agent main ahead main' ahead' before request r =
    (r.0 ≡ true → Place q agent main' ahead' before request r.1.node) × (r.0 ≡ false → Place q agent main ahead before request r.1.node)

no : true ≡ false → ⊥
no e = cc

no_2 : false ≡ true → ⊥
no_2 e = cc

to_login : (node : NodeState) (q : ℕ) (login : Login) → login_at node q ≡ Some login → node_of (login_at node q) ≡ Some login.node
to_login node q login e = ap (λ (l : Option Login). node_of l) e

module _ (q : ℕ) (agent : Machine) (before : NodeState) (request : Option Sent) (login : Login) (body : Body) (node : NodeState) (b : q < 8) (l : login_at node q ≡ Some login) where
  -- a label was not found: the layer is as before
  unlabelled_place : (main ahead : Bool) (layer : Layer Purpose) (p : Place q agent main ahead before request node) → Known layer p.lives → Place q agent main ahead before request (record node { layer = layer })
  unlabelled_place main ahead layer p k = record {
    lives = p.lives;
    mid = record {
      known = k;
      size = p.mid.size;
      seats = p.mid.seats;
      fits = p.mid.fits;
      served = λ r s n e. let i = p.mid.served r s n e in record { login = i.login; is = i.is; live = i.live; on_unit = i.on_unit };
      hand = p.mid.hand;
      beyond = p.mid.beyond;
    };
    agent_is = p.agent_is;
    main_is = p.main_is;
    ahead_is = p.ahead_is;
    frame = p.frame;
  }

  main_by : (ahead : Bool) (r : Option Asked × Layer Purpose) (o : OutboxState) → asking_step node.layer login.node body (purposes.Agent q) ≡ r → Place q agent false ahead before request node → Asked_for q agent false ahead true ahead before request (main_sent q login.node node (sent_by r o login.node))
  main_by ahead (None, layer) o e p = (
    λ f. absurd (no_2 f),
    λ f. unlabelled_place false ahead layer p (none_known node.layer layer p.lives login.node body (purposes.Agent q) p.mid.known e),
  )
  main_by ahead (Some asked, layer) o e p =
      let begun = asks_known node.layer layer p.lives login.node body (purposes.Agent q) asked p.mid.known e in
      let x = sent_to login.node asked.label in
      let d = record (desk_at node q) { main = Some x } in
      let new = live_on (began login.node asked.label begun.kind (purposes.Agent q)) p.lives in
      let off = began_off login.node asked.label begun.kind (purposes.Agent q) p.lives in
      let at = began_at login.node asked.label begun.kind (purposes.Agent q) p.lives in
      let none = some_true (desk_at node q).main p.main_is in
      let was = subst (λ (y : Option Sent). Seat q y (desk_at node q).ahead (node_of (login_at node q)) p.lives) none (p.mid.seats q b) in
      let seat = main_begins q (node_of (login_at node q)) p.lives new x off (desk_at node q).ahead begun.kind was begun.fresh at (to_login node q login l) in (
        λ f. record {
          lives = new;
          mid = mid_step q node p.lives request p.mid b layer d new begun.known (spares_one q p.lives new login.node asked.label off (our_begun q p.lives login.node asked.label begun.fresh) (our_under q new login.node asked.label begun.kind at)) seat;
          agent_is = ap (λ (y : Desk). y.agent) (desk_here q node p.lives request p.mid b layer d) ∙ p.agent_is;
          main_is = ap (λ (y : Desk). is_some y.main) (desk_here q node p.lives request p.mid b layer d);
          ahead_is = ap (λ (y : Desk). is_some y.ahead) (desk_here q node p.lives request p.mid b layer d) ∙ p.ahead_is;
          frame = p.frame;
        },
        λ f. absurd (no f),
      )

  ahead_by : (main : Bool) (r : Option Asked × Layer Purpose) (o : OutboxState) → asking_step node.layer login.node body (purposes.Agent q) ≡ r → Place q agent main false before request node → Asked_for q agent main false main true before request (ahead_sent q login.node node (sent_by r o login.node))
  ahead_by main (None, layer) o e p = (
    λ f. absurd (no_2 f),
    λ f. unlabelled_place main false layer p (none_known node.layer layer p.lives login.node body (purposes.Agent q) p.mid.known e),
  )
  ahead_by main (Some asked, layer) o e p =
      let begun = asks_known node.layer layer p.lives login.node body (purposes.Agent q) asked p.mid.known e in
      let x = sent_to login.node asked.label in
      let d = record (desk_at node q) { ahead = Some x } in
      let new = live_on (began login.node asked.label begun.kind (purposes.Agent q)) p.lives in
      let off = began_off login.node asked.label begun.kind (purposes.Agent q) p.lives in
      let at = began_at login.node asked.label begun.kind (purposes.Agent q) p.lives in
      let none = some_true (desk_at node q).ahead p.ahead_is in
      let was = subst (λ (y : Option Sent). Seat q (desk_at node q).main y (node_of (login_at node q)) p.lives) none (p.mid.seats q b) in
      let seat = ahead_begins q (node_of (login_at node q)) p.lives new x off (desk_at node q).main begun.kind was begun.fresh at (to_login node q login l) in (
        λ f. record {
          lives = new;
          mid = mid_step q node p.lives request p.mid b layer d new begun.known (spares_one q p.lives new login.node asked.label off (our_begun q p.lives login.node asked.label begun.fresh) (our_under q new login.node asked.label begun.kind at)) seat;
          agent_is = ap (λ (y : Desk). y.agent) (desk_here q node p.lives request p.mid b layer d) ∙ p.agent_is;
          main_is = ap (λ (y : Desk). is_some y.main) (desk_here q node p.lives request p.mid b layer d) ∙ p.main_is;
          ahead_is = ap (λ (y : Desk). is_some y.ahead) (desk_here q node p.lives request p.mid b layer d);
          frame = p.frame;
        },
        λ f. absurd (no f),
      )

module _ (q : ℕ) (agent : Machine) (before : NodeState) (request : Option Sent) (login : Login) (s : Scene) (b : q < 8) (l : login_at s.node q ≡ Some login) where
  main_in : (ahead : Bool) (body : Option Body) → is_some body ≡ true → Place q agent false ahead before request s.node → Asked_for q agent false ahead true ahead before request (main_asked body q login s)
  unfolding request_step
  main_in ahead None e p = cc
  main_in ahead (Some body) e p = main_by q agent before request login body s.node b l ahead (asking_step s.node.layer login.node body (purposes.Agent q)) s.outbox refl p

  same_main : (body : Option Body) → body ≡ None → main_asked body q login s ≡ (true, s)
  same_main None e = refl
  same_main (Some body) e = cc

  ahead_if : (x : Bool) (main : Bool) (body : Body) → Place q agent main false before request s.node → Asked_for q agent main false main true before request (cond x (false, s) (ahead_sent q login.node s.node (request_step s.node.layer s.outbox login.node body (purposes.Agent q))))
  unfolding request_step
  ahead_if true main body p = (λ f. absurd (no_2 f), λ f. p)
  ahead_if false main body p = ahead_by q agent before request login body s.node b l main (asking_step s.node.layer login.node body (purposes.Agent q)) s.outbox refl p

  ahead_in : (main : Bool) (body : Option Body) → is_some body ≡ true → Place q agent main false before request s.node → Asked_for q agent main false main true before request (ahead_asked body q login s)
  ahead_in main None e p = cc
  ahead_in main (Some body) e p = ahead_if (nat_lt (free_labels s.node.layer login.node) 16) main body p

  same_ahead : (body : Option Body) → body ≡ None → ahead_asked body q login s ≡ (true, s)
  same_ahead None e = refl
  same_ahead (Some body) e = cc

-- ---- what the main request of a step leaves
main_left : (x : Bool) (q : ℕ) (agent : Machine) (a : Bool) (before : NodeState) (request : Option Sent) (login : Login) (step : AgentStep) (s : Scene) → is_asked step.ask ≡ x → q < 8 → login_at s.node q ≡ Some login → Carries step.ask agent.outgoing → Place q agent false a before request s.node → Asked_for q agent false a x a before request (ask_main q login step s) × ((ask_main q login step s).0 ≡ false → x ≡ true)
unfolding ask_main
main_left true q agent a before request login step s e b l c p =
    let outgoing = (desk_at s.node q).agent.outgoing in
    let c' = subst (λ (m : Machine). Carries step.ask m.outgoing) (sym p.agent_is) c in
    (main_in q agent before request login s b l a (agent_body step.ask (is_some step.ended) login.fifo outgoing) (body_some step.ask (is_some step.ended) login.fifo outgoing c' e) p, λ f. refl)
main_left false q agent a before request login step s e b l c p =
    let outgoing = (desk_at s.node q).agent.outgoing in
    let same = same_main q agent before request login s b l (agent_body step.ask (is_some step.ended) login.fifo outgoing) (body_none step.ask (is_some step.ended) login.fifo outgoing e) in
    subst (λ (r : Bool × Scene). Asked_for q agent false a false a before request r × (r.0 ≡ false → false ≡ true)) (sym same) ((λ f. p, λ f. absurd (no f)), λ f. absurd (no f))

-- ---- a step that is silent changes nothing
silent : (q : ℕ) (login : Login) (step : AgentStep) (t : Scene) → step ≡ quiet → (ask_main q login step (noted q step t)).1.node ≡ t.node
unfolding ask_main noted
silent q login step t e = subst (λ (x : AgentStep). (ask_main q login x (noted q x t)).1.node ≡ t.node) (sym e) refl

-- at rest: the agent has what it waits for
pub record Rest (q : ℕ) (before : NodeState) (request : Option Sent) (node : NodeState) : Type 0 where
  pub agent : Machine
  pub fit : Fit agent
  pub place : Place q agent (is_sent agent.phase) (is_ahead agent.ahead) before request node

rest_as : (q : ℕ) (agent : Machine) (main ahead : Bool) (before : NodeState) (request : Option Sent) (node : NodeState) → Fit agent → Place q agent main ahead before request node → main ≡ is_sent agent.phase → ahead ≡ is_ahead agent.ahead → Rest q before request node
rest_as q agent main ahead before request node f p e g = record {
  agent = agent;
  fit = f;
  place = record { lives = p.lives; mid = p.mid; agent_is = p.agent_is; main_is = p.main_is ∙ e; ahead_is = p.ahead_is ∙ g; frame = p.frame };
}

-- ---- the read ahead found no label
lose_ahead_by : (x : Bool) (q : ℕ) (agent : Machine) (before : NodeState) (request : Option Sent) (login : Login) (s : Scene) → x ≡ true → q < 8 → Fit agent → is_ahead agent.ahead ≡ true → Place q agent (is_sent agent.phase) false before request s.node → Rest q before request (lost_by x q login Ahead s).1.node
lose_ahead_by false q agent before request login s e b f h p = absurd (no_2 e)
lose_ahead_by true q agent before request login s e b f h p =
    let l = lost_step (desk_at s.node q).agent Ahead causes.Label in
    let own = (desk_at s.node q).agent in
    let o = ahead_loses own causes.Label (ap (λ (m : Machine). is_ahead m.ahead) p.agent_is ∙ h) (subst (λ (m : Machine). Fit m) (sym p.agent_is) f) in
    let t = scene (with_agent s.node q l.1) s.outbox in
    let r = rest_as q l.1 (is_sent agent.phase) false before request (with_agent s.node q l.1) o.fit (becomes q agent l.1 (is_sent agent.phase) false before request s.node b p)
    (ap (λ (m : Machine). is_sent m.phase) (sym p.agent_is) ∙ sym (ap (λ (x : Phase). is_sent x) o.phase)) (sym o.idle) in
    subst (λ (n : NodeState). Rest q before request n) (sym (silent q login l.0 t o.silent)) r

lose_ahead : (q : ℕ) (agent : Machine) (before : NodeState) (request : Option Sent) (login : Login) (s : Scene) → q < 8 → Fit agent → is_ahead agent.ahead ≡ true → Place q agent (is_sent agent.phase) false before request s.node → Rest q before request (lose q login Ahead s).1.node
unfolding lose
lose_ahead q agent before request login s b f h p =
    lose_ahead_by (is_under_way Ahead (desk_at s.node q).agent) q agent before request login s (ap (λ (m : Machine). is_ahead m.ahead) p.agent_is ∙ h) b f h p

-- ---- a main request found no label
last_lost : (x : Bool) (q : ℕ) (agent : Machine) (before : NodeState) (request : Option Sent) (login : Login) (s : Scene) → x ≡ true → q < 8 → agent.phase ≡ phases.WritingLastStatus → is_ahead agent.ahead ≡ false → Fit agent → Place q agent false false before request s.node → Rest q before request (lost_by x q login Main s).1.node
last_lost false q agent before request login s e b ph i f p = absurd (no_2 e)
last_lost true q agent before request login s e b ph i f p =
    let own = (desk_at s.node q).agent in
    let l = lost_step own Main causes.Label in
    let is : l ≡ (quiet, record own { phase = phases.Dead }) = last_loses own causes.Label (ap (λ (m : Machine). m.phase) p.agent_is ∙ ph) in
    let t = scene (with_agent s.node q l.1) s.outbox in
    let dead : Machine = record agent { phase = phases.Dead } in
    let l1 : l.1 ≡ dead = ap (λ (r : AgentStep × Machine). r.1) is ∙ ap (λ (m : Machine). record m { phase = phases.Dead }) p.agent_is in
    let fit : Fit dead = record { bare = λ e. i; next = λ e. absurd (no_2 (sym i ∙ e)); limit = λ e. absurd (no_2 e) } in
    let r = rest_as q dead false false before request (with_agent s.node q dead) fit (becomes q agent dead false false before request s.node b p) refl (sym i) in
    subst (λ (n : NodeState). Rest q before request n) (sym (silent q login l.0 t (ap (λ (r : AgentStep × Machine). r.0) is)))
    (subst (λ (m : Machine). Rest q before request (with_agent s.node q m)) (sym l1) r)

dropped_flag : (a h d t u i : Bool) → i ≡ (u || (h && not (d || t))) → i ≡ false → t ≡ false → (a ≡ true → h ≡ true) → (a && not d) ≡ false
dropped_flag false h d t u i e f g k = refl
dropped_flag true h true t u i e f g k = refl
dropped_flag true false false t u i e f g k = absurd (no_2 (k refl))
dropped_flag true true false true u i e f g k = absurd (no g)
dropped_flag true true false false true i e f g k = absurd (no (sym e ∙ f))
dropped_flag true true false false false i e f g k = absurd (no (sym e ∙ f))

unturned_main : (t x : Bool) → t ≡ false → cond t x false ≡ false
unturned_main true x e = absurd (no e)
unturned_main false x e = refl

unturned_ahead : (t x : Bool) → t ≡ false → cond t false x ≡ x
unturned_ahead true x e = absurd (no e)
unturned_ahead false x e = refl

only_asked : (s x t : Bool) → s ≡ (x || t) → t ≡ false → x ≡ s
only_asked s true t e f = sym e
only_asked s false true e f = absurd (no f)
only_asked s false false e f = sym e

pub as_flags : (q : ℕ) (agent : Machine) (main ahead main' ahead' : Bool) (before : NodeState) (request : Option Sent) (node : NodeState) → main ≡ main' → ahead ≡ ahead' → Place q agent main ahead before request node → Place q agent main' ahead' before request node
as_flags q agent main ahead main' ahead' before request node e f p =
    record { lives = p.lives; mid = p.mid; agent_is = p.agent_is; main_is = p.main_is ∙ e; ahead_is = p.ahead_is ∙ f; frame = p.frame }

login_now : (q : ℕ) (before node : NodeState) (login : Login) → Frame before node → login_at before q ≡ Some login → login_at node q ≡ Some login
login_now q before node login f l = ap (λ (t : Table). place_at t.places q) f.0 ∙ l

-- the last status write found no label
record Falls (q : ℕ) (before : NodeState) (request : Option Sent) (node : NodeState) : Type 0 where
  agent : Machine
  phase : agent.phase ≡ phases.WritingLastStatus
  idle : is_ahead agent.ahead ≡ false
  fit : Fit agent
  place : Place q agent false false before request node

abbrev Lands : ℕ → NodeState → Option Sent → Bool × Scene → Type 0
Lands q before request r = (r.0 ≡ true → Rest q before request r.1.node) × (r.0 ≡ false → Falls q before request r.1.node)

lose_first : (x : Bool) (q : ℕ) (agent : Machine) (a : Bool) (before : NodeState) (request : Option Sent) (login : Login) (s : Scene) → x ≡ true → q < 8 → login_at before q ≡ Some login → Fit agent → is_sent agent.phase ≡ true → (a ≡ true → is_ahead agent.ahead ≡ true) → Place q agent false a before request s.node → Lands q before request (lost_by x q login Main s)
lose_first false q agent a before request login s e b lb f h k p = absurd (no_2 e)
lose_first true q agent a before request login s e b lb f h k p =
    let own = (desk_at s.node q).agent in
    let l = lost_step own Main causes.Label in
    let lost = main_loses own causes.Label (ap (λ (m : Machine). is_sent m.phase) p.agent_is ∙ h) (subst (λ (m : Machine). Fit m) (sym p.agent_is) f) in
    let t = scene (with_agent s.node q l.1) s.outbox in
    let u = noted q l.0 t in
    let flag = dropped_flag a (is_ahead own.ahead) (is_some l.0.dead) l.0.promoted (is_asked l.0.ahead) (is_ahead l.1.ahead) lost.behind.ahead lost.idle lost.unturned (λ g. ap (λ (m : Machine). is_ahead m.ahead) p.agent_is ∙ k g) in
    let told = notes_place q l.1 a before request l.0 t b (becomes q agent l.1 false a before request s.node b p) in
    let place = as_flags q l.1 _ _ false false before request u.node (unturned_main l.0.promoted (a && not (is_some l.0.dead)) lost.unturned) (unturned_ahead l.0.promoted (a && not (is_some l.0.dead)) lost.unturned ∙ flag) told in
    let r = main_left (is_asked l.0.ask) q l.1 false before request login l.0 u refl b (login_now q before u.node login place.frame lb) lost.behind.carried place in (
      λ g. rest_as q l.1 (is_asked l.0.ask) false before request (ask_main q login l.0 u).1.node lost.behind.fit (r.0.0 g) (only_asked (is_sent l.1.phase) (is_asked l.0.ask) l.0.promoted lost.behind.main lost.unturned) (sym lost.idle),
      λ g. record { agent = l.1; phase = lost.last (r.1 g); idle = lost.idle; fit = lost.behind.fit; place = r.0.1 g },
    )

loses_twice : (q : ℕ) (before : NodeState) (request : Option Sent) (login : Login) (r : Bool × Scene) → q < 8 → Lands q before request r → Rest q before request (after_loss q login r).node
unfolding lose
loses_twice q before request login (true, s) b l = l.0 refl
loses_twice q before request login (false, s) b l =
    let f = l.1 refl in
    last_lost (is_under_way Main (desk_at s.node q).agent) q f.agent before request login s (ap (λ (m : Machine). is_sent m.phase) f.place.agent_is ∙ ap (λ (p : Phase). is_sent p) f.phase) b f.phase f.idle f.fit f.place

lose_rest : (q : ℕ) (agent : Machine) (a : Bool) (before : NodeState) (request : Option Sent) (login : Login) (s : Scene) → q < 8 → login_at before q ≡ Some login → Fit agent → is_sent agent.phase ≡ true → (a ≡ true → is_ahead agent.ahead ≡ true) → Place q agent false a before request s.node → Rest q before request (lose_main q login s).node
unfolding lose_main lose
lose_rest q agent a before request login s b lb f h k p =
    loses_twice q before request login (lost_by (is_under_way Main (desk_at s.node q).agent) q login Main s) b
    (lose_first (is_under_way Main (desk_at s.node q).agent) q agent a before request login s (ap (λ (m : Machine). is_sent m.phase) p.agent_is ∙ h) b lb f h k p)

-- ---- the read ahead of a step
sent_ahead_rest : (q : ℕ) (agent : Machine) (before : NodeState) (request : Option Sent) (login : Login) (r : Bool × Scene) → q < 8 → Fit agent → is_ahead agent.ahead ≡ true → Asked_for q agent (is_sent agent.phase) false (is_sent agent.phase) true before request r → Rest q before request (after_ahead q login r).node
sent_ahead_rest q agent before request login (true, s) b f h p = rest_as q agent (is_sent agent.phase) true before request s.node f (p.0 refl) refl (sym h)
sent_ahead_rest q agent before request login (false, s) b f h p = lose_ahead q agent before request login s b f h (p.1 refl)

ahead_rest : (y : Bool) (q : ℕ) (agent : Machine) (a : Bool) (before : NodeState) (request : Option Sent) (login : Login) (ask : Ask) (s : Scene) → is_asked ask ≡ y → (y ≡ true → a ≡ false) → is_ahead agent.ahead ≡ (y || a) → q < 8 → login_at before q ≡ Some login → Fit agent → Carries ask agent.outgoing → Place q agent (is_sent agent.phase) a before request s.node → Rest q before request (ask_ahead q login ask s).node
unfolding send_ahead
ahead_rest true q agent a before request login ask s e n h b lb f c p =
    let outgoing = (desk_at s.node q).agent.outgoing in
    let c' = subst (λ (m : Machine). Carries ask m.outgoing) (sym p.agent_is) c in
    let p' = as_flags q agent (is_sent agent.phase) a (is_sent agent.phase) false before request s.node refl (n refl) p in
    sent_ahead_rest q agent before request login (ahead_asked (agent_body ask false login.fifo outgoing) q login s) b f h
    (ahead_in q agent before request login s b (login_now q before s.node login p.frame lb) (is_sent agent.phase) (agent_body ask false login.fifo outgoing) (body_some ask false login.fifo outgoing c' e) p')
ahead_rest false q agent a before request login ask s e n h b lb f c p =
    let outgoing = (desk_at s.node q).agent.outgoing in
    let same = same_ahead q agent before request login s b (login_now q before s.node login p.frame lb) (agent_body ask false login.fifo outgoing) (body_none ask false login.fifo outgoing e) in
    subst (λ (r : Bool × Scene). Rest q before request (after_ahead q login r).node) (sym same) (rest_as q agent (is_sent agent.phase) a before request s.node f p refl (sym h))

-- ---- all that follows a step
after_rest : (q : ℕ) (agent : Machine) (a x : Bool) (before : NodeState) (request : Option Sent) (login : Login) (step : AgentStep) (r : Bool × Scene) → q < 8 → login_at before q ≡ Some login → Fit agent → x ≡ is_sent agent.phase → (r.0 ≡ false → x ≡ true) → (is_asked step.ahead ≡ true → a ≡ false) → is_ahead agent.ahead ≡ (is_asked step.ahead || a) → Carries step.ahead agent.outgoing → Asked_for q agent false a x a before request r → Rest q before request (after_main q login step r).node
after_rest q agent a x before request login step (true, s) b lb f e g n h c p =
    ahead_rest (is_asked step.ahead) q agent a before request login step.ahead s refl n h b lb f c (as_flags q agent x a (is_sent agent.phase) a before request s.node e refl (p.0 refl))
after_rest q agent a x before request login step (false, s) b lb f e g n h c p =
    lose_rest q agent a before request login s b lb f (sym e ∙ g refl) (λ i. h ∙ or_true (is_asked step.ahead) a i) (p.1 refl)
  where
    or_true : (u v : Bool) → v ≡ true → (u || v) ≡ true
    or_true true v i = refl
    or_true false v i = i

follow_turned : (q : ℕ) (agent : Machine) (had : Bool) (before : NodeState) (request : Option Sent) (login : Login) (step : AgentStep) (u : Scene) → step.promoted ≡ true → q < 8 → login_at before q ≡ Some login → Behind had (step, agent) → is_asked step.ask ≡ false → is_asked step.ahead ≡ false → Place q agent (is_sent agent.phase) false before request u.node → is_ahead agent.ahead ≡ false → Rest q before request (after_main q login step (ask_main q login step u)).node
unfolding ask_main
follow_turned q agent had before request login step u e b lb h unasked unahead place idle =
    let outgoing = (desk_at u.node q).agent.outgoing in
    let same = same_main q agent before request login u b (login_now q before u.node login place.frame lb) (agent_body step.ask (is_some step.ended) login.fifo outgoing) (body_none step.ask (is_some step.ended) login.fifo outgoing unasked) in
    subst (λ (r : Bool × Scene). Rest q before request (after_main q login step r).node) (sym same)
    (ahead_rest false q agent false before request login step.ahead u unahead (λ i. refl) idle b lb h.fit h.carried_ahead place)

follow_by : (t : Bool) (q : ℕ) (agent : Machine) (had : Bool) (before : NodeState) (request : Option Sent) (login : Login) (step : AgentStep) (s : Scene) → step.promoted ≡ t → q < 8 → login_at before q ≡ Some login → Behind had (step, agent) → Place q agent false had before request s.node → Rest q before request (after_main q login step (ask_main q login step (noted q step s))).node
follow_by false q agent had before request login step s e b lb h p =
    let u = noted q step s in
    let a = had && not (is_some step.dead) in
    let place = as_flags q agent _ _ false a before request u.node (unturned_main step.promoted a e) (unturned_ahead step.promoted a e) (notes_place q agent had before request step s b p) in
    let r = main_left (is_asked step.ask) q agent a before request login step u refl b (login_now q before u.node login place.frame lb) h.carried place in
    after_rest q agent a (is_asked step.ask) before request login step (ask_main q login step u) b lb h.fit (only_asked (is_sent agent.phase) (is_asked step.ask) step.promoted h.main e) r.1
    (λ i. none_had had (is_some step.dead) ((h.alone i).0)) (h.ahead ∙ ap (λ (x : Bool). is_asked step.ahead || (had && not (is_some step.dead || x))) e ∙ ap (λ (x : Bool). is_asked step.ahead || (had && not x)) (or_false (is_some step.dead))) h.carried_ahead r.0
  where
    none_had : (x d : Bool) → x ≡ false → (x && not d) ≡ false
    none_had true d i = absurd (no i)
    none_had false d i = refl

    or_false : (d : Bool) → (d || false) ≡ d
    or_false true = refl
    or_false false = refl
follow_by true q agent had before request login step s e b lb h p =
    let u = noted q step s in
    let t = h.turns e in
    let a = had && not (is_some step.dead) in
    let a_is : a ≡ true = both had (is_some step.dead) t.0 t.2 in
    let place = as_flags q agent _ _ true false before request u.node (turned_main step.promoted a e a_is) (turned_ahead step.promoted a e) (notes_place q agent had before request step s b p) in
    let outgoing = (desk_at u.node q).agent.outgoing in
    let unasked : is_asked step.ahead ≡ false = never (is_asked step.ahead) (λ i. no (sym t.0 ∙ (h.alone i).0)) in
    let sent : true ≡ is_sent agent.phase = sym (h.main ∙ ap (λ (x : Bool). x || step.promoted) t.1 ∙ e) in
    let idle : is_ahead agent.ahead ≡ false = h.ahead ∙ ap (λ (x : Bool). x || (had && not (is_some step.dead || step.promoted))) unasked ∙ ap (λ (x : Bool). had && not (is_some step.dead || x)) e ∙ last had (is_some step.dead) in
    follow_turned q agent had before request login step u e b lb h t.1 unasked (as_flags q agent true false (is_sent agent.phase) false before request u.node sent refl place) idle
  where
    both : (x d : Bool) → x ≡ true → d ≡ false → (x && not d) ≡ true
    both true true i j = absurd (no j)
    both true false i j = refl
    both false d i j = i

    turned_main : (x y : Bool) → x ≡ true → y ≡ true → cond x y false ≡ true
    turned_main true y i j = j
    turned_main false y i j = absurd (no_2 i)

    turned_ahead : (x y : Bool) → x ≡ true → cond x false y ≡ false
    turned_ahead true y i = refl
    turned_ahead false y i = absurd (no_2 i)

    never : (x : Bool) → (x ≡ true → ⊥) → x ≡ false
    never true i = absurd (i refl)
    never false i = refl

    last : (x d : Bool) → (x && not (d || true)) ≡ false
    last true true = refl
    last true false = refl
    last false d = refl

pub follow_rest : (q : ℕ) (agent : Machine) (had : Bool) (before : NodeState) (request : Option Sent) (login : Login) (step : AgentStep) (s : Scene) → q < 8 → login_at before q ≡ Some login → Behind had (step, agent) → Place q agent false had before request s.node → Rest q before request (follow q login step s).node
unfolding follow
follow_rest q agent had before request login step s b lb h p = follow_by step.promoted q agent had before request login step s refl b lb h p
