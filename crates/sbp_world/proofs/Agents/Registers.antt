-- A time-out of a transaction of an agent, and a write of its registers, to its term.
use Rattle.sbp_world.proofs.Words.Std.{arith, ◌≡◌, ◌≢◌, ◌∙◌, refl, sym, ap, subst, ℕ, ◌<◌, nat_eq, is_some, Bool, true, false, cond, List, [], length, Option, Some, None, Ok, length-set}
use Rattle.sbp_world.proofs.Words.Wire.{Packet, Layer, empty_outbox}
use Rattle.sbp_world.proofs.Words.Target.{Login, PlainDisk, Outcome, Phase, AgentState, AgentStep, Which, Ahead, Main, Machine, aligned, is_ahead, is_sent, present_of, state_in, asks, doorbell_in, doorbell_step, fetch_step, lost_step, point_in, point_step, reply_step, reread_step, Desk, Purpose, Sent, follow, expired_desk, new_desk, pointed_desk, NodeState, Scene, desk_at, login_at, scene, with_desk, expired_with, answer_step, with_side, answered, asked_in, point, pointed_by, ring, rung_by, orb_of}
use Rattle.sbp_world.proofs.Words.Initiator.{Ask, Nothing, OrbPointer, At, Null, Expired}
use Rattle.sbp_world.proofs.Words.Laws.{Agent, agent_over, term_pointed, rings}
use Rattle.sbp_world.proofs.Words.World.{Alike, StepsAlike, AreOne, IsOf, Request, ToldAlike, address, term_answered, pointed, with_requests}
use Rattle.label_table.proofs.Owned.{set_at}
use Rattle.orb_layout.specs.declared.ask.FailCause.TheVariants as causes
use Rattle.command_agent.specs.declared.phase.Phase.TheVariants as phases
use Rattle.command_agent.specs.declared.step.AgentState.TheVariants as states
use Rattle.command_agent.proofs.Losing.{losses_silent, reply_lost}
use Rattle.sbp_journal.specs.declared.side.Side.TheVariants as sides
use Rattle.sbp_target.proofs.Histories.Calling.{Good}
use Rattle.sbp_target.proofs.Histories.Stepped.{ahead_loses, behind_fetch, behind_reread, is_bare, main_loses}
use Rattle.sbp_world.proofs.Agents.Announces.{Ended, done_ended}
use Rattle.sbp_world.proofs.Agents.Follows.{Settled, Stepped, follows}
use Rattle.sbp_world.proofs.Agents.Mild.{Mild, reply_mild}
use Rattle.sbp_world.proofs.Agents.Rounds.{alike_told, blank_now}
use Rattle.sbp_world.proofs.Agents.Steps.{doorbell_alike, fetch_same}
use Rattle.sbp_world.proofs.Agents.Serials.{Paired, turning_unless}
use Rattle.sbp_world.proofs.Agents.Turns.{ahead_follows, ahead_is, ahead_settled, ahead_turns, fits, lapse_ends, main_follows, main_is, main_stepped, main_turns, quiet_done, settled_done}
use Rattle.sbp_world.proofs.Agents.Walk.{Holds, Out, Told as Tells, holds_still, silent_more}
use Rattle.sbp_world.proofs.Agents.Management.Places.{other_id}
use Rattle.sbp_world.proofs.Common.{itself as same_id}

-- ---- what a turn makes of the agent of a place, however its packets are numbered
pub record Turned (requests : List Request) (q : ℕ) (node : NodeState) (first : Agent) (s : Scene) : Type 0 where
  pub now : ℕ → Agent
  pub out : Out first now s.outbox
  pub size : length s.node.desks ≡ 8
  pub settled : (last : ℕ) → Settled (desk_at s.node q).agent (desk_at s.node q).pointer (agent_over (now last))
  pub paired : (last : ℕ) → Paired (with_requests last s.outbox.packets requests) (desk_at s.node q) (agent_over (now last))
  pub others : (p : ℕ) → p ≢ q → ((desk_at s.node p).agent ≡ (desk_at node p).agent) × ((desk_at s.node p).pointer ≡ (desk_at node p).pointer)
  pub kept : (p : ℕ) → p ≢ q → ((desk_at s.node p).main ≡ (desk_at node p).main) × ((desk_at s.node p).ahead ≡ (desk_at node p).ahead)

-- all desks but one are those of a node
pub record IsBeside (q : ℕ) (node before : NodeState) : Type 0 where
  pub others : (p : ℕ) → p ≢ q → ((desk_at before p).agent ≡ (desk_at node p).agent) × ((desk_at before p).pointer ≡ (desk_at node p).pointer)
  pub kept : (p : ℕ) → p ≢ q → ((desk_at before p).main ≡ (desk_at node p).main) × ((desk_at before p).ahead ≡ (desk_at node p).ahead)

pub beside_self : (q : ℕ) (node : NodeState) → IsBeside q node node
beside_self q node = record { others = λ p n. (refl, refl); kept = λ p n. (refl, refl) }

pub ended_turned : {requests : List Request} (q : ℕ) (node before : NodeState) (first : Agent) (pointer : Option ℕ) (s : Scene) → IsBeside q node before → pointer ≡ (desk_at before q).pointer → Ended requests q before first pointer s → Turned requests q node first s
ended_turned q node before first pointer s beside e d = record {
  now = d.now;
  out = d.out;
  size = d.stands.size;
  settled = λ last.
      subst (λ (m : Machine). Settled m (desk_at s.node q).pointer (agent_over (d.now last))) (sym d.stands.agent)
      (subst (λ (x : Option ℕ). Settled d.machine x (agent_over (d.now last))) (e ∙ sym (d.stands.pointer q)) (d.settled last));
  paired = d.paired;
  others = λ p n. let o = beside.others p n in (d.stands.others p n ∙ o.0, d.stands.pointer p ∙ o.1);
  kept = λ p n.
      let o = beside.kept p n in
      let k = d.stands.kept p n in
      (k.0 ∙ o.0, k.1 ∙ o.1);
}

-- ---- a request is answered
answered_told : (first a : Agent) (request : Packet) (bytes : List ℕ) (rcode : ℕ) (given : List ℕ) (s : Scene) → Tells first a s.outbox → Tells first a (answered request bytes rcode given s).outbox
unfolding answer_step
answered_told first a request bytes rcode given s t = record { is = t.is; silent = silent_more s.outbox.packets _ t.silent refl }

unsent : (phase : Phase) → state_in phase ≡ states.Reset → is_sent phase ≡ false
unsent phases.Reset e = refl
unsent phases.Suspended e = cc
unsent phases.WritingLastStatus e = cc
unsent phases.Dead e = cc
unsent phases.Fetching e = cc
unsent phases.ReadingTable e = cc
unsent (phases.ReadingData wanted) e = cc
unsent phases.Answering e = cc
unsent phases.WritingStatus e = cc
unsent phases.ReadingNext e = cc

unsent_2 : (phase : Phase) → state_in phase ≡ states.Suspended → (is_sent phase ≡ false) × (is_bare phase ≡ true)
unsent_2 phases.Reset e = cc
unsent_2 phases.Suspended e = (refl, refl)
unsent_2 phases.WritingLastStatus e = cc
unsent_2 phases.Dead e = cc
unsent_2 phases.Fetching e = cc
unsent_2 phases.ReadingTable e = cc
unsent_2 (phases.ReadingData wanted) e = cc
unsent_2 phases.Answering e = cc
unsent_2 phases.WritingStatus e = cc
unsent_2 phases.ReadingNext e = cc

module _ {requests : List Request} (node : NodeState) (g : Good node) (q : ℕ) (b : q < 8) (a : Agent) (is : IsOf requests a (desk_at node q)) (layer : Layer Purpose) (login : Login) where
  abbrev own : Machine
  own = (desk_at node q).agent

  abbrev over_layer : NodeState
  over_layer = record node { layer = layer }

  none_told : ToldAlike a.untold None None
  none_told = record { both = refl; alike = record { outcome = refl; size = refl; answer = λ e. refl } }

  -- ---- a time-out
  module _ (plain : PlainDisk) where
    lost_is : (which : Which) → reply_step own q plain None which Expired ≡ lost_step own which causes.Timeout
    lost_is which = reply_lost own q plain None which Expired causes.Timeout refl

    ran_not : (which : Which) → false ≡ is_some (reply_step own q plain None which Expired).0.ran
    ran_not which = sym (ap (λ (r : AgentStep × Machine). is_some r.0.ran) (lost_is which) ∙ ap (λ (o : Option Outcome). is_some o) (losses which))
      where
        losses : (which : Which) → (lost_step own which causes.Timeout).0.ran ≡ None
        losses which = losses_silent own which causes.Timeout

    pub main_lapses : is_sent own.phase ≡ true → Turned requests q node (term_answered None a.untold q plain Main Expired a) (expired_with q login (expired_desk Main (desk_at node q)) (scene over_layer empty_outbox))
    main_lapses sent =
        let ra = reply_step a.machine q plain None Main Expired in
        let r = lost_step own Main causes.Timeout in
        let first = term_answered None a.untold q plain Main Expired a in
        let same : StepsAlike a.untold a.untold ra r = subst (λ (x : AgentStep × Machine). StepsAlike a.untold a.untold ra x) (lost_is Main) (alike_told node g q b a is layer login a.untold None None plain Main Expired none_told (ran_not Main)) in
        let blank : Alike a.untold ra.1 r.1 = subst (λ (x : AgentStep × Machine). Alike a.untold ra.1 x.1) (lost_is Main) (blank_now node g q b a is layer login a.untold None None plain Main Expired none_told (ran_not Main)) in
        let behind = (main_loses own causes.Timeout sent (fits node g q b a is).agent).behind in
        let mild : Mild r = subst (λ (x : AgentStep × Machine). Mild x) (lost_is Main) (reply_mild own q plain None Main Expired tt) in
        let st = main_stepped node g q b a is a.untold None ra r behind same.step blank in
        ended_turned q node node first (desk_at node q).pointer _ (beside_self q node) refl
        (lapse_ends node g q b a is layer login Main first r (main_follows node g q b a is layer login first (is_ahead own.ahead) r behind mild st) (main_turns node g q b a is a.untold None ra r same.step))

    pub ahead_lapses : is_ahead own.ahead ≡ true → Turned requests q node (term_answered None a.untold q plain Ahead Expired a) (expired_with q login (expired_desk Ahead (desk_at node q)) (scene over_layer empty_outbox))
    ahead_lapses under =
        let ra = reply_step a.machine q plain None Ahead Expired in
        let r = lost_step own Ahead causes.Timeout in
        let first = term_answered None a.untold q plain Ahead Expired a in
        let same : StepsAlike a.untold a.untold ra r = subst (λ (x : AgentStep × Machine). StepsAlike a.untold a.untold ra x) (lost_is Ahead) (alike_told node g q b a is layer login a.untold None None plain Ahead Expired none_told (ran_not Ahead)) in
        let blank : Alike a.untold ra.1 r.1 = subst (λ (x : AgentStep × Machine). Alike a.untold ra.1 x.1) (lost_is Ahead) (blank_now node g q b a is layer login a.untold None None plain Ahead Expired none_told (ran_not Ahead)) in
        let over = ahead_loses own causes.Timeout under (fits node g q b a is).agent in
        let st = ahead_settled node g q b a is a.untold None ra r over same.step blank in
        ended_turned q node node first (desk_at node q).pointer _ (beside_self q node) refl
        (lapse_ends node g q b a is layer login Ahead first r (ahead_follows node g q b a is layer login first r over.silent st) (ahead_turns node g q b a is a.untold None ra r same.step))

  -- ---- an agent as it stands
  settled_now : Settled own (desk_at node q).pointer a
  settled_now = record {
    machine = is.machine;
    main = main_is node g q b a is;
    ahead = ahead_is node g q b a is;
    pointer_is = is.pointer;
    asks = is.asks;
    asks_ahead = is.asks_ahead;
  }

  -- a node whose desk of this place is another
  module _ (d : Desk) where
    abbrev with_it : NodeState
    with_it = with_desk over_layer q d

    at : (k : ℕ) → desk_at with_it k ≡ cond (nat_eq k q) d (desk_at node k)
    at k = set_at node.desks q k d new_desk (let s = g.mid.size in omega arith)

    here : desk_at with_it q ≡ d
    here = at q ∙ ap (λ (x : Bool). cond x d (desk_at node q)) (same_id q)

    off : (k : ℕ) → k ≢ q → desk_at with_it k ≡ desk_at node k
    off k f = at k ∙ ap (λ (x : Bool). cond x d (desk_at node k)) (other_id k q f)

    beside : IsBeside q node with_it
    beside = record {
      others = λ k f. (ap (λ (x : Desk). x.agent) (off k f), ap (λ (x : Desk). x.pointer) (off k f));
      kept = λ k f. (ap (λ (x : Desk). x.main) (off k f), ap (λ (x : Desk). x.ahead) (off k f));
    }

    -- what it waits for is the same
    pair_it : (x : Agent) → d.main ≡ (desk_at node q).main → d.ahead ≡ (desk_at node q).ahead → x.main ≡ a.main → x.ahead ≡ a.ahead → Paired requests (desk_at with_it q) x
    pair_it x m f n e =
        subst (λ (y : Desk). Paired requests y x) (sym here) (record {
          main = subst (λ (y : Option ℕ). AreOne requests d.main y) (sym n) (subst (λ (y : Option Sent). AreOne requests y a.main) (sym m) is.main_is);
          ahead = subst (λ (y : Option ℕ). AreOne requests d.ahead y) (sym e) (subst (λ (y : Option Sent). AreOne requests y a.ahead) (sym f) is.ahead_is);
        })

    holds_it : (later : NodeState) → later.desks ≡ with_it.desks → Holds q with_it d.agent later
    holds_it later e =
        holds_still q with_it d.agent with_it later
        (record { size = length-set node.desks q d ∙ g.mid.size; agent = ap (λ (x : Desk). x.agent) here; pointer = λ p. refl; enabled = λ p. refl; others = λ p n. refl; kept = λ p n. (refl, refl) })
        e

  module _ (request : Packet) (bytes : List ℕ) where
    asked_login : (ask : Ask) (s : Scene) (l : Option Login) → l ≡ Some login → asked_in q ask l s ≡ follow q login (asks ask) s
    asked_login ask s None e = absurd (let none : None ≡ Some login = e in cc)
    asked_login ask s (Some other) e = let same : other ≡ login = cc in ap (λ (l : Login). follow q l (asks ask) s) same

    -- ---- ORB_POINTER
    opens : (next : ℕ) → login_at node q ≡ Some login → is_sent own.phase ≡ false → Turned requests q node (term_pointed (Ok (fetch_step a.machine next).0.ask, (fetch_step a.machine next).1) next a) (pointed_by q request bytes (pointed_desk (desk_at node q) (Ok (fetch_step own next).0.ask, (fetch_step own next).1)) (scene over_layer empty_outbox))
    opens next l unsent =
        let m = (fetch_step own next).1 in
        let d : Desk = record (desk_at node q) { agent = m; pointer = present_of m } in
        let ask = (fetch_step own next).0.ask in
        let first = term_pointed (Ok (fetch_step a.machine next).0.ask, (fetch_step a.machine next).1) next a in
        let opened = scene (with_it d) (with_side empty_outbox (sides.Opened q (orb_of m))) in
        let t = answered request bytes 0 [] opened in
        let told = answered_told first first request bytes 0 [] opened (record { is = refl; silent = tt }) in
        let st : Stepped false (fetch_step own next).0 m (Some (aligned next)) first = record {
          machine = (fetch_same a.untold a.untold a.machine own next).alike;
          main = main_is node g q b a is ∙ unsent;
          ahead = refl;
          pointer_is = refl;
          asks = refl;
          asks_ahead = refl;
        } in
        let done = follows requests q b (with_it d) first (Some (aligned next)) login ⊥ false (fetch_step own next).0 m first (behind_fetch own next) st refl t tt (λ z. absurd z) told (holds_it d t.node refl) (turning_unless requests false (desk_at t.node q) first st.main st.ahead) in
        subst (λ (s : Scene). Turned requests q node first s) (sym (asked_login ask t (login_at node q) l))
        (ended_turned q node (with_it d) first (Some (aligned next)) (follow q login (asks ask) t) (beside d) (sym (ap (λ (x : Desk). x.pointer) (here d))) (done_ended requests q (with_it d) first (Some (aligned next)) (follow q login (asks ask) t) done))

    refuses : (rcode : ℕ) → Turned requests q node a (answered request bytes rcode [] (scene (with_desk over_layer q (record (desk_at node q) { agent = own })) empty_outbox))
    refuses rcode =
        let d : Desk = record (desk_at node q) { agent = own } in
        let s = scene (with_it d) empty_outbox in
        let t = answered request bytes rcode [] s in
        ended_turned q node (with_it d) a (desk_at node q).pointer t (beside d) (sym (ap (λ (x : Desk). x.pointer) (here d)))
        (done_ended {Calm = ⊥} requests q (with_it d) a (desk_at node q).pointer t
        (settled_done requests q (with_it d) a (desk_at node q).pointer own t settled_now (answered_told a a request bytes rcode [] s (record { is = refl; silent = tt })) (holds_it d t.node refl) (pair_it d a refl refl refl refl)))

    point_by : (state : AgentState) (pointer : OrbPointer) → state_in own.phase ≡ state → login_at node q ≡ Some login → Turned requests q node (term_pointed (point_in state a.machine pointer) (address pointer) a) (pointed_by q request bytes (pointed_desk (desk_at node q) (point_in state own pointer)) (scene over_layer empty_outbox))
    point_by states.Reset Null e l = refuses _
    point_by states.Reset (At next) e l = opens next l (unsent own.phase e)
    point_by states.Suspended Null e l = refuses _
    point_by states.Suspended (At next) e l = opens next l (unsent_2 own.phase e).0
    point_by states.Active Null e l = refuses _
    point_by states.Active (At next) e l = refuses _
    point_by states.Dead Null e l = refuses _
    point_by states.Dead (At next) e l = refuses _

    pub points : (pointer : OrbPointer) → login_at node q ≡ Some login → Turned requests q node (pointed pointer a) (point q pointer request bytes (scene over_layer empty_outbox))
    unfolding point point_step
    points pointer l =
        subst (λ (p : Phase). Turned requests q node (term_pointed (point_in (state_in p) a.machine pointer) (address pointer) a) (pointed_by q request bytes (pointed_desk (desk_at node q) (point_in (state_in own.phase) own pointer)) (scene over_layer empty_outbox))) (sym is.machine.phase)
        (point_by (state_in own.phase) pointer refl l)

    -- ---- DOORBELL
    abbrev rung_term : Ask × Machine → Agent
    rung_term s = record a { machine = s.1; asks = s.0 }

    -- one that asks for nothing
    rests : (m n : Machine) → Alike a.untold n m → is_sent m.phase ≡ is_sent own.phase → is_ahead m.ahead ≡ is_ahead own.ahead → login_at node q ≡ Some login → Turned requests q node (rung_term (Nothing, n)) (rung_by q request bytes (Nothing, m) (scene over_layer empty_outbox))
    rests m n al sent ahead l =
        let d : Desk = record (desk_at node q) { agent = m } in
        let first = rung_term (Nothing, n) in
        let s = scene (with_it d) empty_outbox in
        let t = answered request bytes 0 [] s in
        let st : Settled m (desk_at node q).pointer first = record {
          machine = al;
          main = main_is node g q b a is ∙ sym sent;
          ahead = ahead_is node g q b a is ∙ sym ahead;
          pointer_is = is.pointer;
          asks = refl;
          asks_ahead = is.asks_ahead;
        } in
        subst (λ (x : Scene). Turned requests q node first x) (sym (asked_login Nothing t (login_at node q) l))
        (ended_turned q node (with_it d) first (desk_at node q).pointer (follow q login (asks Nothing) t) (beside d) (sym (ap (λ (x : Desk). x.pointer) (here d)))
        (done_ended {Calm = ⊥} requests q (with_it d) first (desk_at node q).pointer (follow q login (asks Nothing) t)
        (quiet_done requests q (with_it d) first (desk_at node q).pointer login (asks Nothing) m t refl st (answered_told first first request bytes 0 [] s (record { is = refl; silent = tt })) (holds_it d t.node refl) (pair_it d first refl refl refl refl))))

    -- one that reads the next pointer again
    rereads : is_sent own.phase ≡ false → is_ahead own.ahead ≡ false → (s : Ask × Machine) → s.0 ≡ (reread_step own).0.ask → Alike a.untold s.1 (reread_step own).1 → login_at node q ≡ Some login → Turned requests q node (rung_term s) (rung_by q request bytes ((reread_step own).0.ask, (reread_step own).1) (scene over_layer empty_outbox))
    rereads sent idle r e al l =
        let m = (reread_step own).1 in
        let ask = (reread_step own).0.ask in
        let d : Desk = record (desk_at node q) { agent = m } in
        let first = rung_term r in
        let s = scene (with_it d) empty_outbox in
        let t = answered request bytes 0 [] s in
        let st : Stepped false (reread_step own).0 m (desk_at node q).pointer first = record {
          machine = al;
          main = main_is node g q b a is ∙ sent;
          ahead = ahead_is node g q b a is ∙ idle;
          pointer_is = is.pointer;
          asks = e;
          asks_ahead = is.asks_ahead;
        } in
        let done = follows requests q b (with_it d) first (desk_at node q).pointer login ⊥ false (reread_step own).0 m first (behind_reread own idle) st refl t tt (λ z. absurd z) (answered_told first first request bytes 0 [] s (record { is = refl; silent = tt })) (holds_it d t.node refl) (turning_unless requests false (desk_at t.node q) first st.main st.ahead) in
        subst (λ (x : Scene). Turned requests q node first x) (sym (asked_login ask t (login_at node q) l))
        (ended_turned q node (with_it d) first (desk_at node q).pointer (follow q login (asks ask) t) (beside d) (sym (ap (λ (x : Desk). x.pointer) (here d))) (done_ended requests q (with_it d) first (desk_at node q).pointer (follow q login (asks ask) t) done))

    rung_as : (state : AgentState) → state_in own.phase ≡ state → (s : Ask × Machine) → s.0 ≡ (doorbell_in state own).0 → Alike a.untold s.1 (doorbell_in state own).1 → login_at node q ≡ Some login → Turned requests q node (rung_term s) (rung_by q request bytes (doorbell_in state own) (scene over_layer empty_outbox))
    rung_as states.Active e s f al l = subst (λ (x : Ask). Turned requests q node (rung_term (x, s.1)) (rung_by q request bytes (Nothing, record own { doorbell = true }) (scene over_layer empty_outbox))) (sym f) (rests (record own { doorbell = true }) s.1 al refl refl l)
    rung_as states.Suspended e s f al l =
        let u = unsent_2 own.phase e in rereads u.0 ((fits node g q b a is).agent.bare u.1) s f al l
    rung_as states.Reset e s f al l = subst (λ (x : Ask). Turned requests q node (rung_term (x, s.1)) (rung_by q request bytes (Nothing, own) (scene over_layer empty_outbox))) (sym f) (rests own s.1 al refl refl l)
    rung_as states.Dead e s f al l = subst (λ (x : Ask). Turned requests q node (rung_term (x, s.1)) (rung_by q request bytes (Nothing, own) (scene over_layer empty_outbox))) (sym f) (rests own s.1 al refl refl l)

    pub rings_turn : login_at node q ≡ Some login → Turned requests q node (rings a) (ring q request bytes (scene over_layer empty_outbox))
    unfolding ring doorbell_step
    rings_turn l =
        let same = doorbell_alike a.untold a.machine own is.machine in rung_as (state_in own.phase) refl (doorbell_step a.machine) same.0 same.1 l
