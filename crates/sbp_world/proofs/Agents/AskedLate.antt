-- A time-out of a transaction of an agent, and a cut of its list, leave all desks waiting for what left.
use Rattle.sbp_world.proofs.Words.Std.{arith, ◌≡◌, ◌≢◌, ◌∙◌, refl, sym, ap, subst, ℕ, ◌<◌, ◌&&◌, nat_eq, Bool, true, false, cond, List, Option, Some, None, length-set, nat_tests}
use Rattle.sbp_world.proofs.Words.Wire.{LabelParts, Asked, Body, Layer, CutCause, Outgoing, OutboxState}
use Rattle.sbp_world.proofs.Words.Target.{Login, Table, place_at, AgentStep, Which, Ahead, Main, Machine, is_ahead, is_sent, state_in, is_reset, lost_step, quiet, reset_step, Desk, Purpose, Sent, ask_main, cut, cut_node, follow, noted, send_ahead, told_cut, after, is_that, reset_desk, taken, which_in, NodeState, Scene, desk_at, login_at, scene, with_desk, expire_agent, expired_by, tell_step, request, with_asked}
use Rattle.sbp_world.proofs.Words.World.{AllAsk, AsksReally, LateLaw, Left, ahead_body, main_body}
use Rattle.orb_layout.specs.declared.ask.FailCause.TheVariants as causes
use Rattle.sbp_target.proofs.Histories.Calling.{Good, not_eight}
use Rattle.sbp_target.proofs.Histories.Following.{Fits}
use Rattle.sbp_target.proofs.Histories.Framed as framed
use Rattle.sbp_target.proofs.Histories.Pass as pass
use Rattle.sbp_target.proofs.Histories.Settled.{all_good}
use Rattle.sbp_target.proofs.Histories.Stepped.{ahead_loses, main_loses}
use Rattle.sbp_world.proofs.Agents.AskedFollows.{Followed, bare_of, desk_other, followed, left_as, left_more, still_body}
use Rattle.sbp_world.proofs.Agents.AskedSteps.{under_law}
use Rattle.sbp_world.proofs.Agents.Sized.{nothing_sized, still_sized}
use Rattle.sbp_world.proofs.Agents.Walk.{desk_set}

pub none_sent : (sent : Sent) → None ≡ Some sent → ⊥
none_sent sent e = cc

pub same_login : (x y : Login) → Some x ≡ Some y → x ≡ y
same_login x y e = cc

-- ---- what left stays so
kept_with : (r : Option Asked) (peer : ℕ) (packets : List Outgoing) (sent : Sent) (body : Option Body) → Left packets sent body → Left (with_asked peer r packets) sent body
kept_with None peer packets sent body h = h
kept_with (Some asked) peer packets sent body h = left_more packets (request peer asked) sent body h

pub keeps_left : (sent : Sent) (body : Option Body) → pass.Keeps (λ layer packets. Left packets sent body)
keeps_left sent body = record {
  leaves = record { disowns = λ layer packets peer label h. h };
  asks = λ layer packets peer asked purpose h. kept_with _ peer packets sent body h;
}

pub follow_keeps : (q : ℕ) (login : Login) (step : AgentStep) (s : Scene) (sent : Sent) (body : Option Body) → Left s.outbox.packets sent body → Left (follow q login step s).outbox.packets sent body
follow_keeps q login step s sent body h = pass.follows (λ layer packets. Left packets sent body) (keeps_left sent body) q login step s h

keeps_logins : (logins : Table) → framed.Keeps (λ node. node.logins ≡ logins)
keeps_logins logins = record { layers = λ node layer h. h; desks = λ node place d e h. h }

pub follow_logins : (q : ℕ) (login : Login) (step : AgentStep) (s : Scene) → (follow q login step s).node.logins ≡ s.node.logins
follow_logins q login step s = framed.follows_at (λ node. node.logins ≡ s.node.logins) (keeps_logins s.node.logins) q login step s refl

pub asks_more : (before now : List Outgoing) → ((sent : Sent) (body : Option Body) → Left before sent body → Left now sent body) → (fifo : ℕ) (d : Desk) → AsksReally before fifo d → AsksReally now fifo d
asks_more before now more fifo d a = record { main = λ sent e p. more sent (main_body fifo d.agent) (a.main sent e p); ahead = λ sent e p. more sent (ahead_body d.agent) (a.ahead sent e p); sized = a.sized }

-- ---- one desk of all changes
pub all_by : (q : ℕ) (before packets : List Outgoing) (node now : NodeState) → now.logins ≡ node.logins → ((k : ℕ) → k ≢ q → desk_at now k ≡ desk_at node k) → ((sent : Sent) (body : Option Body) → Left before sent body → Left packets sent body) → ((login : Login) → login_at node q ≡ Some login → AsksReally packets login.fifo (desk_at now q)) → AllAsk before node → AllAsk packets now
all_by q before packets node now logins others more here a = record { all = λ p login l e. by (nat_eq p q) p login l (ap (λ (t : Table). place_at t.places p) (sym logins) ∙ e) refl }
  where
    by : (x : Bool) (p : ℕ) (login : Login) → p < 8 → login_at node p ≡ Some login → nat_eq p q ≡ x → AsksReally packets login.fifo (desk_at now p)
    by true p login l e y =
        let same : p ≡ q = grind (arith, nat_tests) in
        subst (λ (k : ℕ). AsksReally packets login.fifo (desk_at now k)) (sym same) (here login (ap (λ (k : ℕ). login_at node k) (sym same) ∙ e))
    by false p login l e y =
        let n : p ≢ q = λ z. (let yes : nat_eq p q ≡ true = grind (arith, nat_tests) in absurd (let off : true ≡ false = sym yes ∙ y in cc)) in
        subst (λ (d : Desk). AsksReally packets login.fifo d) (sym (others p n)) (asks_more before packets more login.fifo (desk_at node p) (a.all p login l e))

-- ---- which transaction it is
pub main_of : (a u c v : Bool) → cond {A = Option Which} (a && u) (Some Main) (cond (c && v) (Some Ahead) None) ≡ Some Main → u ≡ true
main_of true true c v e = refl
main_of true false true true e = absurd (let f : Some Ahead ≡ Some Main = e in cc)
main_of true false true false e = absurd (let f : None ≡ Some Main = e in cc)
main_of true false false v e = absurd (let f : None ≡ Some Main = e in cc)
main_of false u true true e = absurd (let f : Some Ahead ≡ Some Main = e in cc)
main_of false u true false e = absurd (let f : None ≡ Some Main = e in cc)
main_of false u false v e = absurd (let f : None ≡ Some Main = e in cc)

pub ahead_of : (a u c v : Bool) → cond {A = Option Which} (a && u) (Some Main) (cond (c && v) (Some Ahead) None) ≡ Some Ahead → v ≡ true
ahead_of true true c v e = absurd (let f : Some Main ≡ Some Ahead = e in cc)
ahead_of true false true true e = refl
ahead_of true false true false e = absurd (let f : None ≡ Some Ahead = e in cc)
ahead_of true false false v e = absurd (let f : None ≡ Some Ahead = e in cc)
ahead_of false u true true e = refl
ahead_of false u true false e = absurd (let f : None ≡ Some Ahead = e in cc)
ahead_of false u false v e = absurd (let f : None ≡ Some Ahead = e in cc)

pub quiet_follow : (q : ℕ) (login : Login) (step : AgentStep) (s : Scene) → step ≡ quiet → follow q login step s ≡ s
unfolding follow ask_main noted tell_step send_ahead
quiet_follow q login step s e = subst (λ (x : AgentStep). follow q login x s ≡ s) (sym e) refl

module _ (node : NodeState) (g : Good node) (layer : Layer Purpose) (outbox : OutboxState) (q : ℕ) (b : q < 8) (a : AllAsk outbox.packets node) where
  abbrev Here : Desk
  Here = desk_at node q

  abbrev m : Machine
  m = Here.agent

  fits : Fits Here
  fits = g.mid.fits q b (not_eight q b)

  abbrev Later : Desk → NodeState
  Later d = with_desk (record node { layer = layer }) q d

  here_is : (d : Desk) → desk_at (Later d) q ≡ d
  here_is d = desk_set q node (Later d) d b g.mid.size refl

  others_are : (d : Desk) (k : ℕ) → k ≢ q → desk_at (Later d) k ≡ desk_at node k
  others_are d k n = desk_other q k node (Later d) d b g.mid.size n refl

  -- ---- a time-out
  main_late : (login : Login) → login_at node q ≡ Some login → is_sent m.phase ≡ true → (let s = expired_by q (Some login) (Some Main) (scene (record node { layer = layer }) outbox) in AllAsk s.outbox.packets s.node)
  main_late login there k =
      let l = lost_step m Main causes.Timeout in
      let d : Desk = record (taken Main Here) { agent = l.1 } in
      let t = scene (Later d) outbox in
      let f : Followed q login (Later d) (follow q login l.0 t)
      = followed q b login (is_ahead m.ahead) l.0 m l.1 t (main_loses m causes.Timeout k fits.agent).behind (under_law.losses m causes.Timeout (bare_of m fits.agent)) (λ e. e)
      (record {
        desks = length-set node.desks q d ∙ g.mid.size;
        agent = ap (λ (x : Desk). x.agent) (here_is d);
        ahead = λ sent e i. (a.all q login b there).ahead sent (sym (ap (λ (x : Desk). x.ahead) (here_is d)) ∙ e) i;
      }) in
      all_by q outbox.packets (follow q login l.0 t).outbox.packets node (follow q login l.0 t).node (follow_logins q login l.0 t)
      (λ p n. f.others p n ∙ others_are d p n)
      (follow_keeps q login l.0 t)
      (λ other e. subst (λ (x : Login). AsksReally (follow q login l.0 t).outbox.packets x.fifo (desk_at (follow q login l.0 t).node q)) (same_login login other (sym there ∙ e)) f.asks)
      a

  ahead_late : (login : Login) → login_at node q ≡ Some login → is_ahead m.ahead ≡ true → (let s = expired_by q (Some login) (Some Ahead) (scene (record node { layer = layer }) outbox) in AllAsk s.outbox.packets s.node)
  ahead_late login there k =
      let l = lost_step m Ahead causes.Timeout in
      let d : Desk = record (taken Ahead Here) { agent = l.1 } in
      let t = scene (Later d) outbox in
      let over = ahead_loses m causes.Timeout k fits.agent in
      let still = under_law.ahead_losses m causes.Timeout in
      subst (λ (s : Scene). AllAsk s.outbox.packets s.node) (sym (quiet_follow q login l.0 t over.silent))
      (all_by q outbox.packets outbox.packets node (Later d) refl (others_are d) (λ sent body h. h)
      (λ other e.
      subst (λ (x : Desk). AsksReally outbox.packets other.fifo x) (sym (here_is d)) (record {
        main = λ sent f p. left_as outbox.packets sent (main_body other.fifo m) (main_body other.fifo l.1) (sym (still_body other.fifo m l.1 still)) ((a.all q other b e).main sent f (ap is_sent (sym still.phase) ∙ p));
        ahead = λ sent f p. absurd (none_sent sent f);
        sized = still_sized m l.1 still (a.all q other b e).sized;
      }))
      a)

  same_layer : AllAsk outbox.packets (record node { layer = layer })
  same_layer = record { all = λ p login l e. a.all p login l e }

  late_by : (there : Option Login) (which : Option Which) → login_at node q ≡ there → (which ≡ Some Main → is_sent m.phase ≡ true) → (which ≡ Some Ahead → is_ahead m.ahead ≡ true) → (let s = expired_by q there which (scene (record node { layer = layer }) outbox) in AllAsk s.outbox.packets s.node)
  late_by None which e h i = same_layer
  late_by (Some login) None e h i = same_layer
  late_by (Some login) (Some Main) e h i = main_late login e (h refl)
  late_by (Some login) (Some Ahead) e h i = ahead_late login e (i refl)

  pub lates : (peer : ℕ) (label : LabelParts) → (let s = expire_agent q peer label (scene (record node { layer = layer }) outbox) in AllAsk s.outbox.packets s.node)
  unfolding expire_agent
  lates peer label =
      late_by (login_at node q) (which_in Here peer label) refl
      (main_of (is_that Here.main peer label) (is_sent m.phase) (is_that Here.ahead peer label) (is_ahead m.ahead))
      (ahead_of (is_that Here.main peer label) (is_sent m.phase) (is_that Here.ahead peer label) (is_ahead m.ahead))

  -- ---- a cut
  told_same : (x : Bool) (cause : CutCause) → (told_cut x q cause outbox).packets ≡ outbox.packets
  told_same true cause = refl
  told_same false cause = refl

  reset_all : AllAsk outbox.packets (cut_node q (record node { layer = layer }))
  unfolding reset_step
  reset_all =
      let now = cut_node q (record node { layer = layer }) in
      let d = reset_desk Here in
      all_by q outbox.packets outbox.packets node now refl (λ k n. desk_other q k node now d b g.mid.size n refl) (λ sent body h. h)
      (λ other e.
      subst (λ (x : Desk). AsksReally outbox.packets other.fifo x) (sym (desk_set q node now d b g.mid.size refl)) (record {
        main = λ sent f p. absurd (none_sent sent f);
        ahead = λ sent f p. absurd (none_sent sent f);
        sized = nothing_sized d.agent refl;
      }))
      a

  pub cut_keeps : (cause : CutCause) → (let s = cut cause q (scene (record node { layer = layer }) outbox) in AllAsk s.outbox.packets s.node)
  unfolding cut
  cut_keeps cause =
      subst (λ (ps : List Outgoing). AllAsk ps (cut_node q (record node { layer = layer }))) (sym (told_same (is_reset (state_in m.phase)) cause)) reset_all

pub late_law : LateLaw
late_law units ready calls has =
    let node = after units ready calls in
    let g = all_good units ready calls has in
    record { expiries = λ layer outbox place peer label b a. lates node g layer outbox place b a peer label; cuts = λ layer outbox place cause b a. cut_keeps node g layer outbox place b a cause }
