-- What is told and sent of an agent's step makes of its term what it makes of the agent.
use Rattle.sbp_world.proofs.Words.Std.{arith, ◌≡◌, ◌≢◌, ◌∙◌, refl, sym, ap, subst, ℕ, suc, ◌+◌, ◌<◌, nat_eq, is_some, Bool, true, false, cond, List, [], ◌∷◌, ◌++◌, length, Option, Some, None, slice_index_or, slice_set, length-set, nat_tests}
use Rattle.sbp_world.proofs.Words.Wire.{LabelParts, Asked, Body, Layer, asking_step, is_write, Outgoing, Side, OutboxState}
use Rattle.sbp_world.proofs.Words.Target.{Login, Outcome, AgentStep, Machine, Desk, Purpose, agent_body, ask_main, dropped_by, main_asked, main_sent, noted, promoted_by, without_ahead, new_desk, NodeState, Scene, desk_at, with_desk, request_step, sent_by, with_packet, with_side, orb_of, tell_dead, tell_ended, tell_ran, tell_step}
use Rattle.sbp_world.proofs.Words.Initiator.{Ask, Nothing, FailCause, StatusKind}
use Rattle.sbp_world.proofs.Words.Laws.{Agent, main_lost, sends_of, wants}
use Rattle.sbp_world.proofs.Words.World.{AreOne, Request, by_packet, by_packets, with_requests}
use Rattle.label_table.proofs.Owned.{set_at}
use Rattle.orb_layout.specs.declared.ask.FailCause.TheVariants as causes
use Rattle.sbp_journal.specs.declared.side.Side.TheVariants as sides
use Rattle.sbp_target.specs.declared.purpose.Purpose.TheVariants as purposes
use Rattle.sbp_target.proofs.Histories.Stepped.{Carries, is_asked}
use Rattle.sbp_world.specs.Agents.Crews.{by_side, by_sides}
use Rattle.sbp_world.proofs.Agents.Serials.{Paired, Turning, more_has, number_after, one_more, sent_within}
use Rattle.sbp_world.proofs.Agents.Writes.{HasBody, asked_writes, has_body, no_body}
use Rattle.sbp_world.proofs.Agents.Management.Requests.{writes_body}
use Rattle.sbp_world.proofs.Agents.Management.Places.{other_id}
use Rattle.sbp_world.proofs.Common.{itself}

-- ---- desks

-- The agent of place q is this machine; the registers of its desk, and the other desks, are as before but for what is under way.
pub record Holds (q : ℕ) (before : NodeState) (m : Machine) (node : NodeState) : Type 0 where
  pub size : length node.desks ≡ 8
  pub agent : (desk_at node q).agent ≡ m
  pub pointer : (p : ℕ) → (desk_at node p).pointer ≡ (desk_at before p).pointer
  pub enabled : (p : ℕ) → (desk_at node p).is_enabled ≡ (desk_at before p).is_enabled
  pub others : (p : ℕ) → p ≢ q → (desk_at node p).agent ≡ (desk_at before p).agent
  pub kept : (p : ℕ) → p ≢ q → ((desk_at node p).main ≡ (desk_at before p).main) × ((desk_at node p).ahead ≡ (desk_at before p).ahead)

-- the desk that is set
pub desk_set : (q : ℕ) (node later : NodeState) (d : Desk) → q < 8 → length node.desks ≡ 8 → later.desks ≡ slice_set node.desks q d → desk_at later q ≡ d
desk_set q node later d b size e =
    let inside : q < length node.desks = omega arith in
    ap (λ ds. slice_index_or ds q new_desk) e ∙ set_at node.desks q q d new_desk inside ∙ ap (λ (x : Bool). cond x d (desk_at node q)) (itself q)

pub holds_set : (q : ℕ) (before : NodeState) (m now : Machine) (node later : NodeState) (d : Desk) → q < 8 → Holds q before m node → later.desks ≡ slice_set node.desks q d → d.agent ≡ now → d.pointer ≡ (desk_at node q).pointer → d.is_enabled ≡ (desk_at node q).is_enabled → Holds q before now later
holds_set q before m now node later d b h e a p n =
    let size = h.size in
    let inside : q < length node.desks = omega arith in
    let at : (k : ℕ) → desk_at later k ≡ cond (nat_eq k q) d (desk_at node k) = λ k. ap (λ ds. slice_index_or ds k new_desk) e ∙ set_at node.desks q k d new_desk inside in
    let here : desk_at later q ≡ d = at q ∙ ap (λ (x : Bool). cond x d (desk_at node q)) (itself q) in
    let off : (k : ℕ) → k ≢ q → desk_at later k ≡ desk_at node k = λ k f. at k ∙ ap (λ (x : Bool). cond x d (desk_at node k)) (other_id k q f) in
    record {
      size = ap (λ ds. length ds) e ∙ length-set node.desks q d ∙ h.size;
      agent = ap (λ (x : Desk). x.agent) here ∙ a;
      pointer = λ k. ap (λ (x : Desk). x.pointer) (at k) ∙ pointer_by (nat_eq k q) k refl ∙ h.pointer k;
      enabled = λ k. ap (λ (x : Desk). x.is_enabled) (at k) ∙ enabled_by (nat_eq k q) k refl ∙ h.enabled k;
      others = λ k f. ap (λ (x : Desk). x.agent) (off k f) ∙ h.others k f;
      kept = λ k f. (ap (λ (x : Desk). x.main) (off k f) ∙ (h.kept k f).0, ap (λ (x : Desk). x.ahead) (off k f) ∙ (h.kept k f).1);
    }
  where
    place_is : (k : ℕ) → nat_eq k q ≡ true → k ≡ q
    place_is k f = grind (arith, nat_tests)

    pointer_by : (x : Bool) (k : ℕ) → nat_eq k q ≡ x → (cond x d (desk_at node k)).pointer ≡ (desk_at node k).pointer
    pointer_by true k f = p ∙ ap (λ (i : ℕ). (desk_at node i).pointer) (sym (place_is k f))
    pointer_by false k f = refl

    enabled_by : (x : Bool) (k : ℕ) → nat_eq k q ≡ x → (cond x d (desk_at node k)).is_enabled ≡ (desk_at node k).is_enabled
    enabled_by true k f = n ∙ ap (λ (i : ℕ). (desk_at node i).is_enabled) (sym (place_is k f))
    enabled_by false k f = refl

-- nothing of the desks changes
pub holds_still : (q : ℕ) (before : NodeState) (m : Machine) (node later : NodeState) → Holds q before m node → later.desks ≡ node.desks → Holds q before m later
holds_still q before m node later h e =
    let at : (k : ℕ) → desk_at later k ≡ desk_at node k = λ k. ap (λ ds. slice_index_or ds k new_desk) e in
    record {
      size = ap (λ ds. length ds) e ∙ h.size;
      agent = ap (λ (x : Desk). x.agent) (at q) ∙ h.agent;
      pointer = λ k. ap (λ (x : Desk). x.pointer) (at k) ∙ h.pointer k;
      enabled = λ k. ap (λ (x : Desk). x.is_enabled) (at k) ∙ h.enabled k;
      others = λ k f. ap (λ (x : Desk). x.agent) (at k) ∙ h.others k f;
      kept = λ k f. (ap (λ (x : Desk). x.main) (at k) ∙ (h.kept k f).0, ap (λ (x : Desk). x.ahead) (at k) ∙ (h.kept k f).1);
    }

-- ---- what was told and sent

pub sides_more : (told : List Side) (side : Side) (a : Agent) → by_sides (told ++ side ∷ []) a ≡ by_side side (by_sides told a)
sides_more [] side a = refl
sides_more (first ∷ told) side a = sides_more told side (by_side first a)

pub packets_more : (last : ℕ) (packets : List Outgoing) (packet : Outgoing) (a : Agent) → by_packets last (packets ++ packet ∷ []) a ≡ by_packet packet.label (is_write packet.bytes) (number_after last packets) (by_packets last packets a)
packets_more last [] packet a = let same : last + 1 ≡ last + 0 + 1 = omega arith in ap (λ n. by_packet packet.label (is_write packet.bytes) n a) same
packets_more last (first ∷ packets) packet a =
    let same : last + 1 + length packets + 1 ≡ last + suc (length packets) + 1 = omega arith in
    let b = by_packet first.label (is_write first.bytes) (last + 1) a in
    packets_more (last + 1) packets packet b ∙ ap (λ n. by_packet packet.label (is_write packet.bytes) n (by_packets (last + 1) packets b)) same

-- no request
abbrev pub AreSilent : List Outgoing → Type 0
AreSilent [] = Unit {0}
AreSilent (packet ∷ later) = (packet.label ≡ None) × AreSilent later

pub silent_more : (packets : List Outgoing) (packet : Outgoing) → AreSilent packets → packet.label ≡ None → AreSilent (packets ++ packet ∷ [])
silent_more [] packet s e = (e, tt)
silent_more (first ∷ packets) packet s e = (s.0, silent_more packets packet s.1 e)

pub silent_keeps : (last : ℕ) (packets : List Outgoing) (a : Agent) → AreSilent packets → by_packets last packets a ≡ a
silent_keeps last [] a s = refl
silent_keeps last (packet ∷ packets) a s =
    ap (λ (l : Option LabelParts). by_packets (last + 1) packets (by_packet l (is_write packet.bytes) (last + 1) a)) s.0 ∙ silent_keeps (last + 1) packets a s.1

-- From the term `first` what was told made this one, and no request left.
pub record Told (first a : Agent) (o : OutboxState) : Type 0 where
  pub is : by_sides o.sides first ≡ a
  pub silent : AreSilent o.packets

-- With what left it is this one, however the packets are numbered.
pub record Out (first : Agent) (now : ℕ → Agent) (o : OutboxState) : Type 0 where
  pub is : (last : ℕ) → by_packets last o.packets (by_sides o.sides first) ≡ now last

pub told_out : (first a : Agent) (o : OutboxState) → Told first a o → Out first (λ last. a) o
told_out first a o t = record { is = λ last. silent_keeps last o.packets (by_sides o.sides first) t.silent ∙ t.is }

pub out_more : (first : Agent) (now : ℕ → Agent) (o : OutboxState) (packet : Outgoing) → Out first now o → Out first (λ last. by_packet packet.label (is_write packet.bytes) (number_after last o.packets) (now last)) (with_packet o packet)
out_more first now o packet t = record {
  is = λ last. packets_more last o.packets packet (by_sides o.sides first) ∙ ap (λ a. by_packet packet.label (is_write packet.bytes) (number_after last o.packets) a) (t.is last);
}

pub told_more : (first a : Agent) (o : OutboxState) (side : Side) → Told first a o → Told first (by_side side a) (with_side o side)
told_more first a o side t = record { is = sides_more o.sides side first ∙ ap (by_side side) t.is; silent = t.silent }

pub told_as : (first a b : Agent) (o : OutboxState) → a ≡ b → Told first a o → Told first b o
told_as first a b o e t = record { is = t.is ∙ e; silent = t.silent }

pub out_as : (first : Agent) (now later : ℕ → Agent) (o : OutboxState) → ((last : ℕ) → now last ≡ later last) → Out first now o → Out first later o
out_as first now later o e t = record { is = λ last. t.is last ∙ e last }

-- ---- a step is told

-- the note of a death for want of a label
abbrev pub dead_on : Option FailCause → Agent → Agent
dead_on (Some causes.Label) a = main_lost a
dead_on _ a = a

abbrev pub IsOther : Option FailCause → Type 0
IsOther (Some causes.Label) = ⊥
IsOther _ = Unit {0}

pub other_on : (dead : Option FailCause) (a : Agent) → IsOther dead → dead_on dead a ≡ a
other_on None a o = refl
other_on (Some causes.Timeout) a o = refl
other_on (Some causes.Label) a o = absurd o
other_on (Some causes.Refused) a o = refl
other_on (Some causes.Grammar) a o = refl

cause_on : (place : ℕ) (cause : FailCause) (a : Agent) → by_side (sides.Dead place cause) a ≡ dead_on (Some cause) a
cause_on place causes.Timeout a = refl
cause_on place causes.Label a = refl
cause_on place causes.Refused a = refl
cause_on place causes.Grammar a = refl

ran_told : (first a : Agent) (place : ℕ) (m : Machine) (x : Option Outcome) (o : OutboxState) → Told first a o → Told first a (tell_ran place m x o)
ran_told first a place m None o t = t
ran_told first a place m (Some outcome) o t = told_more first a o (sides.Ran place (orb_of m) m.orb.cdb m.payload outcome) t

ended_told : (first a : Agent) (place : ℕ) (m : Machine) (x : Option StatusKind) (o : OutboxState) → Told first a o → Told first a (tell_ended place m x o)
ended_told first a place m None o t = t
ended_told first a place m (Some status) o t = told_more first a o (sides.Ended place (orb_of m) status) t

dead_told : (first a : Agent) (place : ℕ) (x : Option FailCause) (o : OutboxState) → Told first a o → Told first (dead_on x a) (tell_dead place x o)
dead_told first a place None o t = t
dead_told first a place (Some cause) o t = told_as first (by_side (sides.Dead place cause) a) (dead_on (Some cause) a) (with_side o (sides.Dead place cause)) (cause_on place cause a) (told_more first a o (sides.Dead place cause) t)

step_told : (first a : Agent) (place : ℕ) (m : Machine) (step : AgentStep) (o : OutboxState) → Told first a o → Told first (dead_on step.dead a) (tell_step place m step o)
unfolding tell_step
step_told first a place m step o t =
    let x = tell_ran place m step.ran o in
    let y = tell_dead place step.dead x in
    ended_told first (dead_on step.dead a) place m step.ended y (dead_told first a place step.dead x (ran_told first a place m step.ran o t))

module _ (requests : List Request) (q : ℕ) (b : q < 8) (before : NodeState) (first : Agent) where
  dropped : (m : Machine) (dead : Option FailCause) (node : NodeState) → Holds q before m node → Holds q before m (dropped_by dead q node)
  unfolding without_ahead
  dropped m None node h = h
  dropped m (Some cause) node h = holds_set q before m m node (without_ahead q node) (record (desk_at node q) { ahead = None }) b h refl h.agent refl refl

  promotes : (m : Machine) (x : Bool) (node : NodeState) → Holds q before m node → Holds q before m (promoted_by x q node)
  promotes m false node h = h
  promotes m true node h = holds_set q before m m node (promoted_by true q node) (record (desk_at node q) { main = (desk_at node q).ahead; ahead = None }) b h refl h.agent refl refl

  pub notes_hold : (m : Machine) (step : AgentStep) (s : Scene) → Holds q before m s.node → Holds q before m (noted q step s).node
  unfolding noted
  notes_hold m step s h = promotes m step.promoted (dropped_by step.dead q s.node) (dropped m step.dead s.node h)

  -- a read ahead is dropped, or becomes the main transaction
  drops : (a : Agent) (turned : Bool) (m : Machine) (dead : Option FailCause) (node : NodeState) → Holds q before m node → Turning requests turned (desk_at node q) a → Turning requests turned (desk_at (dropped_by dead q node) q) a
  unfolding without_ahead
  drops a turned m None node h p = p
  drops a turned m (Some cause) node h p =
      subst (λ (d : Desk). Turning requests turned d a) (sym (desk_set q node (without_ahead q node) (record (desk_at node q) { ahead = None }) b h.size refl)) (record { main = by turned p.main; ahead = tt })
    where
      by : (x : Bool) → AreOne requests (cond x (desk_at node q).ahead (desk_at node q).main) a.main → AreOne requests (cond x None (desk_at node q).main) a.main
      by true w = tt
      by false w = w

  turns : (a : Agent) (turned : Bool) (m : Machine) (node : NodeState) → Holds q before m node → Turning requests turned (desk_at node q) a → Paired requests (desk_at (promoted_by turned q node) q) a
  turns a false m node h p = record { main = p.main; ahead = p.ahead }
  turns a true m node h p =
      subst (λ (d : Desk). Paired requests d a) (sym (desk_set q node (promoted_by true q node) (record (desk_at node q) { main = (desk_at node q).ahead; ahead = None }) b h.size refl)) (record { main = p.main; ahead = tt })

  pub notes_pair : (a : Agent) (m : Machine) (step : AgentStep) (s : Scene) → Holds q before m s.node → Turning requests step.promoted (desk_at s.node q) a → Paired requests (desk_at (noted q step s).node q) a
  unfolding noted
  notes_pair a m step s h p = turns a step.promoted m (dropped_by step.dead q s.node) (dropped m step.dead s.node h) (drops a step.promoted m step.dead s.node h p)

  pub notes_told : (a : Agent) (step : AgentStep) (s : Scene) → Told first a s.outbox → Told first (dead_on step.dead a) (noted q step s).outbox
  unfolding noted
  notes_told a step s t = step_told first a q (desk_at s.node q).agent step s.outbox t

  -- ---- the main request

  pub record Gone (m : Machine) (a : Agent) (s : Scene) : Type 0 where
    pub serial : ℕ → ℕ
    pub out : Out first (λ last. record a { main = Some (serial last); asks = Nothing }) s.outbox
    pub holds : Holds q before m s.node
    pub paired : (last : ℕ) → Paired (with_requests last s.outbox.packets requests) (desk_at s.node q) (record a { main = Some (serial last); asks = Nothing })

  pub record Stuck (m : Machine) (a : Agent) (s : Scene) : Type 0 where
    pub told : Told first a s.outbox
    pub holds : Holds q before m s.node

  abbrev pub Left : Machine → Agent → Bool × Scene → Type 0
  Left m a (true, s) = Gone m a s
  Left m a (false, s) = Stuck m a s

  sends_main : (a : Agent) (serial : ℕ) (w x : Bool) → x ≡ w → wants a.asks w ≡ true → sends_of x serial a ≡ record a { main = Some serial; asks = Nothing }
  sends_main a serial w x e f =
      ap (λ y. sends_of y serial a) e
      ∙ ap (λ (y : Bool). cond y (record a { main = Some serial; asks = Nothing }) (cond (wants a.asks_ahead w) (record a { ahead = Some serial; asks_ahead = Nothing }) a)) f

  main_by : (m : Machine) (a : Agent) (login : Login) (body : Body) (s : Scene) (r : Option Asked × Layer Purpose) → asking_step s.node.layer login.node body (purposes.Agent q) ≡ r → wants a.asks (writes_body body) ≡ true → Told first a s.outbox → Holds q before m s.node → Paired requests (desk_at s.node q) a → Left m a (main_sent q login.node s.node (sent_by r s.outbox login.node))
  main_by m a login body s (None, layer) e w t h p = record { told = t; holds = holds_still q before m s.node (record s.node { layer = layer }) h refl }
  main_by m a login body s (Some asked, layer) e w t h p =
      let packet : Outgoing = record { to = login.node; label = Some asked.label; bytes = asked.bytes } in
      let serial : ℕ → ℕ = λ last. number_after last s.outbox.packets in
      let writes = asked_writes s.node.layer layer login.node body (purposes.Agent q) asked e in
      let d : Desk = record (desk_at s.node q) { main = Some (record { peer = login.node; label = asked.label }) } in
      let later = with_desk (record s.node { layer = layer }) q d in
      record {
        serial = serial;
        out = out_as first _ (λ last. record a { main = Some (serial last); asks = Nothing }) (with_packet s.outbox packet) (λ last. sends_main a (serial last) (writes_body body) (is_write asked.bytes) writes w) (out_more first (λ last. a) s.outbox packet (told_out first a s.outbox t));
        holds = holds_set q before m m s.node later d b h refl h.agent refl refl;
        paired = λ last.
            let now = with_requests last (with_packet s.outbox packet).packets requests in
            subst (λ (x : Desk). Paired now x (record a { main = Some (serial last); asks = Nothing })) (sym (desk_set q s.node later d b h.size refl)) (record {
              main = more_has last s.outbox.packets login.node asked.label asked.bytes requests;
              ahead = one_more requests now (sent_within last s.outbox.packets packet requests) (desk_at s.node q).ahead a.ahead p.ahead;
            });
      }

  main_in : (m : Machine) (a : Agent) (login : Login) (ask : Ask) (body : Option Body) (s : Scene) → HasBody ask body → a.asks ≡ ask → Told first a s.outbox → Holds q before m s.node → Paired requests (desk_at s.node q) a → Left m a (main_asked body q login s)
  unfolding request_step
  main_in m a login ask None s hb e t h p = absurd (let no : None ≡ Some hb.body = hb.is in cc)
  main_in m a login ask (Some body) s hb e t h p =
      let same : body ≡ hb.body = let f : Some body ≡ Some hb.body = hb.is in cc in
      main_by m a login body s (asking_step s.node.layer login.node body (purposes.Agent q)) refl (ap (λ x. wants x (writes_body body)) e ∙ ap (λ x. wants ask (writes_body x)) same ∙ hb.wanted) t h p

  pub main_leaves : (m : Machine) (a : Agent) (login : Login) (step : AgentStep) (s : Scene) → is_asked step.ask ≡ true → Carries step.ask m.outgoing → a.asks ≡ step.ask → Told first a s.outbox → Holds q before m s.node → Paired requests (desk_at s.node q) a → Left m a (ask_main q login step s)
  unfolding ask_main
  main_leaves m a login step s x c e t h p =
      let outgoing = (desk_at s.node q).agent.outgoing in
      let carried = subst (λ (n : Machine). Carries step.ask n.outgoing) (sym h.agent) c in
      main_in m a login step.ask (agent_body step.ask (is_some step.ended) login.fifo outgoing) s (has_body step.ask (is_some step.ended) login.fifo outgoing carried x) e t h p

  none_asked : (login : Login) (body : Option Body) (s : Scene) → body ≡ None → main_asked body q login s ≡ (true, s)
  none_asked login None s e = refl
  none_asked login (Some body) s e = absurd (let no : Some body ≡ None = e in cc)

  pub main_none : (login : Login) (step : AgentStep) (s : Scene) → is_asked step.ask ≡ false → ask_main q login step s ≡ (true, s)
  unfolding ask_main
  main_none login step s x =
      none_asked login (agent_body step.ask (is_some step.ended) login.fifo (desk_at s.node q).agent.outgoing) s (no_body step.ask (is_some step.ended) login.fifo (desk_at s.node q).agent.outgoing x)
