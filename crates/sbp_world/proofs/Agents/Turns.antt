-- Each turn of an agent: a reply, a time-out, a write of ORB_POINTER or of DOORBELL.
use Rattle.sbp_world.proofs.Words.Std.{◌≡◌, ◌∙◌, refl, sym, ap, subst, ℕ, ◌<◌, ◌&&◌, ◌||◌, not, is_some, Bool, true, false, cond, List, Option, None, slice_set, false≢true, true≢false}
use Rattle.sbp_world.proofs.Words.Wire.{Layer, empty_outbox}
use Rattle.sbp_world.proofs.Words.Target.{Login, Disk, disk_at, Told, Phase, AgentStep, Which, Ahead, Main, Machine, is_ahead, is_sent, quiet, Desk, follow, taken, NodeState, Scene, desk_at, scene, with_desk, expired_with, Stage, advanced_with, came, changed_by, follow_all, replied_with, scene_of, stage, whole}
use Rattle.sbp_world.proofs.Words.Initiator.{Ask}
use Rattle.sbp_world.proofs.Words.Laws.{Agent, agent_over, closed, moved, wants}
use Rattle.sbp_world.proofs.Words.World.{Alike, AreOne, IsOf, Request, with_requests}
use Rattle.command_agent.specs.declared.phase.Phase.TheVariants as phases
use Rattle.sbp_target.proofs.Histories.Calling.{Good, not_eight}
use Rattle.sbp_target.proofs.Histories.Following.{Fits}
use Rattle.sbp_target.proofs.Histories.Stepped.{Behind, Over, is_asked}
use Rattle.sbp_world.proofs.Agents.Announces.{Ended, announces, done_ended}
use Rattle.sbp_world.proofs.Agents.Follows.{Done, Settled, Stepped, follows, over_idle}
use Rattle.sbp_world.proofs.Agents.Mild.{Mild}
use Rattle.sbp_world.proofs.Agents.Serials.{Paired, Turning, one_unless, paired_as, paired_more, requests_within}
use Rattle.sbp_world.proofs.Agents.Walk.{Holds, Told as Tells, desk_set, holds_set, holds_still, told_out}
use Rattle.sbp_world.proofs.Agents.AskedLate.{quiet_follow}

-- ---- a step that asks for nothing and tells nothing

pub settled_done : {Calm : Type 0} (requests : List Request) (q : ℕ) (before : NodeState) (first : Agent) (pointer : Option ℕ) (m : Machine) (s : Scene) → Settled m pointer first → Tells first first s.outbox → Holds q before m s.node → Paired requests (desk_at s.node q) first → Done requests q before first pointer Calm s
settled_done requests q before first pointer m s st t h p = record {
  now = λ last. first;
  machine = m;
  out = told_out first first s.outbox t;
  holds = h;
  settled = λ last. subst (λ (x : Agent). Settled m pointer x) (sym (over_idle first st.asks st.asks_ahead)) st;
  paired = λ last.
      let now = with_requests last s.outbox.packets requests in
      paired_as now (desk_at s.node q) (agent_over first) first (over_idle first st.asks st.asks_ahead) (paired_more requests now (requests_within last s.outbox.packets requests) (desk_at s.node q) first p);
  calm = λ c last. record { asks = ap (λ (x : Ask). wants x true) st.asks; asks_ahead = ap (λ (x : Ask). wants x true) st.asks_ahead };
}

pub quiet_done : {Calm : Type 0} (requests : List Request) (q : ℕ) (before : NodeState) (first : Agent) (pointer : Option ℕ) (login : Login) (step : AgentStep) (m : Machine) (s : Scene) → step ≡ quiet → Settled m pointer first → Tells first first s.outbox → Holds q before m s.node → Paired requests (desk_at s.node q) first → Done requests q before first pointer Calm (follow q login step s)
quiet_done {Calm} requests q before first pointer login step m s e st t h p =
    subst (λ (x : Scene). Done requests q before first pointer Calm x) (sym (quiet_follow q login step s e)) (settled_done requests q before first pointer m s st t h p)

begun : (first : Agent) → Tells first first empty_outbox
begun first = record { is = refl; silent = tt }

-- ---- flags of what is under way
promoted_flag : (p had : Bool) (x : Option ℕ) → (p ≡ true → had ≡ true) → is_some x ≡ had → is_some (cond p x None) ≡ p
promoted_flag true had x t e = e ∙ t refl
promoted_flag false had x t e = refl

ahead_flag : (p i k had d : Bool) (x : Option ℕ) → i ≡ (k || (had && not (d || p))) → (k ≡ true → had ≡ false) → is_some x ≡ had → is_some (cond (p || not i) None x) ≡ (had && not (d || p))
ahead_flag true i k had d x e a f = turned had d
  where
    turned : (h c : Bool) → false ≡ (h && not (c || true))
    turned true true = refl
    turned true false = refl
    turned false c = refl
ahead_flag false true true had d x e a f = f ∙ a refl ∙ ap (λ (h : Bool). h && not (d || false)) (sym (a refl))
ahead_flag false true false true d x e a f = f ∙ e
ahead_flag false true false false d x e a f = absurd (true≢false e)
ahead_flag false false true had d x e a f = absurd (false≢true e)
ahead_flag false false false had d x e a f = e

module _ {requests : List Request} (node : NodeState) (g : Good node) (q : ℕ) (b : q < 8) (a : Agent) (is : IsOf requests a (desk_at node q)) where
  abbrev pub m0 : Machine
  m0 = (desk_at node q).agent

  abbrev pub pointer : Option ℕ
  pointer = (desk_at node q).pointer

  pub fits : Fits (desk_at node q)
  fits = g.mid.fits q b (not_eight q b)

  pub main_is : is_some a.main ≡ is_sent m0.phase
  main_is = is.main ∙ fits.main

  pub ahead_is : is_some a.ahead ≡ is_ahead m0.ahead
  ahead_is = is.ahead ∙ fits.ahead

  holds_now : Holds q node m0 node
  holds_now = record { size = g.mid.size; agent = refl; pointer = λ p. refl; enabled = λ p. refl; others = λ p n. refl; kept = λ p n. (refl, refl) }

  abbrev pub blank : (v : Bool) → Option Told → Bool
  blank v told = cond (is_some told) v a.untold

  -- a step of the main transaction
  pub main_stepped : (v : Bool) (told : Option Told) (ra r : AgentStep × Machine) → Behind (is_ahead m0.ahead) r → ra.0 ≡ r.0 → Alike (blank v told) ra.1 r.1 → Stepped (is_ahead m0.ahead) r.0 r.1 pointer (moved ra (closed Main (record a { untold = blank v told })))
  main_stepped v told ra r behind e al = record {
    machine = al;
    main =
        promoted_flag ra.0.promoted (is_ahead m0.ahead) a.ahead (λ f. (behind.turns (sym (ap (λ (x : AgentStep). x.promoted) e) ∙ f)).0) ahead_is
        ∙ ap (λ (x : AgentStep). x.promoted) e;
    ahead =
        ap (λ (x : AgentStep). is_some (cond (x.promoted || not (is_ahead ra.1.ahead)) None a.ahead)) e
        ∙ ap (λ (x : Bool). is_some (cond (r.0.promoted || not x) None a.ahead)) al.flag
        ∙ ahead_flag r.0.promoted (is_ahead r.1.ahead) (is_asked r.0.ahead) (is_ahead m0.ahead) (is_some r.0.dead) a.ahead behind.ahead (λ f. (behind.alone f).0) ahead_is;
    pointer_is = is.pointer;
    asks = ap (λ (x : AgentStep). x.ask) e;
    asks_ahead = ap (λ (x : AgentStep). x.ahead) e;
  }

  -- a step of the read ahead
  none_flag : (x : Bool) → is_some (cond {A = Option ℕ} x None None) ≡ false
  none_flag true = refl
  none_flag false = refl

  pub ahead_settled : (v : Bool) (told : Option Told) (ra r : AgentStep × Machine) → Over m0 r → ra.0 ≡ r.0 → Alike (blank v told) ra.1 r.1 → Settled r.1 pointer (moved ra (closed Ahead (record a { untold = blank v told })))
  ahead_settled v told ra r over e al =
      let silent = e ∙ over.silent in
      record {
        machine = al;
        main = ap (λ (x : AgentStep). is_some (cond x.promoted None a.main)) silent ∙ main_is ∙ ap (λ (p : Phase). is_sent p) (sym over.phase);
        ahead = none_flag (ra.0.promoted || not (is_ahead ra.1.ahead)) ∙ sym over.idle;
        pointer_is = is.pointer;
        asks = ap (λ (x : AgentStep). x.ask) silent;
        asks_ahead = ap (λ (x : AgentStep). x.ahead) silent;
      }

  -- what it waits for then is what the desk keeps
  pub main_turns : (v : Bool) (told : Option Told) (ra r : AgentStep × Machine) → ra.0 ≡ r.0 → Turning requests r.0.promoted (taken Main (desk_at node q)) (moved ra (closed Main (record a { untold = blank v told })))
  main_turns v told ra r e = record {
    main = subst (λ (x : AgentStep). AreOne requests (cond x.promoted (desk_at node q).ahead None) (cond ra.0.promoted a.ahead None)) e (turned ra.0.promoted);
    ahead = dropped (ra.0.promoted || not (is_ahead ra.1.ahead));
  }
    where
      turned : (x : Bool) → AreOne requests (cond x (desk_at node q).ahead None) (cond x a.ahead None)
      turned true = is.ahead_is
      turned false = tt

      dropped : (x : Bool) → AreOne requests (desk_at node q).ahead (cond x None a.ahead)
      dropped true = one_unless requests (desk_at node q).ahead None refl
      dropped false = is.ahead_is

  pub ahead_turns : (v : Bool) (told : Option Told) (ra r : AgentStep × Machine) → ra.0 ≡ r.0 → Turning requests r.0.promoted (taken Ahead (desk_at node q)) (moved ra (closed Ahead (record a { untold = blank v told })))
  ahead_turns v told ra r e = record {
    main = subst (λ (x : AgentStep). AreOne requests (cond x.promoted None (desk_at node q).main) (cond ra.0.promoted None a.main)) e (turned ra.0.promoted);
    ahead = tt;
  }
    where
      turned : (x : Bool) → AreOne requests (cond x None (desk_at node q).main) (cond x None a.main)
      turned true = tt
      turned false = is.main_is

  -- ---- a step over the unit of a login, and what follows it
  module _ (layer : Layer Rattle.sbp_target.specs.declared.purpose.Purpose.Purpose) (login : Login) where
    abbrev pub Closed : NodeState
    Closed = record node { layer = layer }

    taken_same : (which : Which) (d : Desk) → ((taken which d).pointer ≡ d.pointer) × ((taken which d).is_enabled ≡ d.is_enabled)
    taken_same Main d = (refl, refl)
    taken_same Ahead d = (refl, refl)

    holds_taken : (which : Which) (m : Machine) (later : NodeState) → later.desks ≡ slice_set node.desks q (record (taken which (desk_at node q)) { agent = m }) → Holds q node m later
    holds_taken which m later e =
        let t = taken_same which (desk_at node q) in
        holds_set q node m0 m node later (record (taken which (desk_at node q)) { agent = m }) b holds_now e refl t.0 t.1

    abbrev pub Follows : Agent → AgentStep × Machine → Type 1
    Follows first r = (Calm : Type 0) → (Calm → r.1.phase ≡ phases.WritingStatus) → (s : Scene) → Tells first first s.outbox → Holds q node r.1 s.node → Turning requests r.0.promoted (desk_at s.node q) first → Done requests q node first pointer Calm (follow q login r.0 s)

    pub main_follows : (first : Agent) (had : Bool) (r : AgentStep × Machine) → Behind had r → Mild r → Stepped had r.0 r.1 pointer first → Follows first r
    main_follows first had r behind mild st Calm c s t h p = follows requests q b node first pointer login Calm had r.0 r.1 first behind st mild.reads s mild.other c t h p

    pub ahead_follows : (first : Agent) (r : AgentStep × Machine) → r.0 ≡ quiet → Settled r.1 pointer first → Follows first r
    ahead_follows first r e st Calm c s t h p =
        quiet_done requests q node first pointer login r.0 r.1 s e st t h
        (record { main = subst (λ (x : AgentStep). AreOne requests (cond x.promoted (desk_at s.node q).ahead (desk_at s.node q).main) first.main) e p.main; ahead = p.ahead })

    changed_still : (loaded : Bool) (unit place : ℕ) (m : Machine) (later : NodeState) → Holds q node m later → Holds q node m (changed_by loaded unit place later)
    changed_still false unit place m later h = h
    changed_still true unit place m later h = holds_still q node m later (changed_by true unit place later) h refl

    turning_taken : (which : Which) (m : Machine) (later : NodeState) (turned : Bool) (first : Agent) → later.desks ≡ slice_set node.desks q (record (taken which (desk_at node q)) { agent = m }) → Turning requests turned (taken which (desk_at node q)) first → Turning requests turned (desk_at later q) first
    turning_taken which m later turned first e p =
        let d : Desk = record (taken which (desk_at node q)) { agent = m } in
        subst (λ (x : Desk). Turning requests turned x first) (sym (desk_set q node later d b g.mid.size e)) (record { main = p.main; ahead = p.ahead })

    turning_changed : (loaded : Bool) (unit place : ℕ) (turned : Bool) (first : Agent) (later : NodeState) → Turning requests turned (desk_at later q) first → Turning requests turned (desk_at (changed_by loaded unit place later) q) first
    turning_changed false unit place turned first later p = p
    turning_changed true unit place turned first later p = record { main = p.main; ahead = p.ahead }

    all_follows : (loaded : Bool) (first : Agent) (r : AgentStep × Machine) → Follows first r → (loaded ≡ true → r.1.phase ≡ phases.WritingStatus) → (s : Scene) → Tells first first s.outbox → Holds q node r.1 s.node → Turning requests r.0.promoted (desk_at s.node q) first → Ended requests q node first pointer (follow_all loaded q login r.0 s)
    unfolding follow_all
    all_follows loaded first r f c s t h p =
        announces loaded requests q node first pointer login.unit q (follow q login r.0 (scene (changed_by loaded login.unit q s.node) s.outbox))
        (f (loaded ≡ true) c (scene (changed_by loaded login.unit q s.node) s.outbox) t (changed_still loaded login.unit q r.1 s.node h) (turning_changed loaded login.unit q r.0.promoted first s.node p))

    abbrev pub Left : List Disk → (which : Which) → AgentStep × Machine → Stage
    Left disks which r = (replied_with q login.unit which r (stage Closed disks)).1

    abbrev pub CameBy : List Disk → (which : Which) → AgentStep × Machine → Bool
    CameBy disks which r = came (disk_at disks login.unit) (disk_at (Left disks which r).disks login.unit)

    pub reply_ends : (which : Which) (disks : List Disk) (first : Agent) (r : AgentStep × Machine) → Follows first r → Turning requests r.0.promoted (taken which (desk_at node q)) first → (CameBy disks which r ≡ true → r.1.phase ≡ phases.WritingStatus) → Ended requests q node first pointer (scene_of (advanced_with q login (replied_with q login.unit which r (stage Closed disks)) (whole (scene Closed empty_outbox) disks)))
    reply_ends which disks first (step, m) f p c =
        all_follows (CameBy disks which (step, m)) first (step, m) f c (scene (Left disks which (step, m)).node empty_outbox) (begun first) (holds_taken which m (Left disks which (step, m)).node refl) (turning_taken which m (Left disks which (step, m)).node step.promoted first refl p)

    pub lapse_ends : (which : Which) (first : Agent) (r : AgentStep × Machine) → Follows first r → Turning requests r.0.promoted (taken which (desk_at node q)) first → Ended requests q node first pointer (expired_with q login (r.0, record (taken which (desk_at node q)) { agent = r.1 }) (scene Closed empty_outbox))
    lapse_ends which first (step, m) f p =
        done_ended {Calm = ⊥} requests q node first pointer (follow q login step (scene (with_desk Closed q (record (taken which (desk_at node q)) { agent = m })) empty_outbox))
        (f ⊥ (λ z. absurd z) (scene (with_desk Closed q (record (taken which (desk_at node q)) { agent = m })) empty_outbox) (begun first) (holds_taken which m (with_desk Closed q (record (taken which (desk_at node q)) { agent = m })) refl) (turning_taken which m (with_desk Closed q (record (taken which (desk_at node q)) { agent = m })) step.promoted first refl p))
