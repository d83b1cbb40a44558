-- What a call of the target tells of deaths: none, where the step of an agent does not make it dead, and what it asks for finds a label. Nothing but a step of an agent tells of a death.
use Rattle.sbp_world.proofs.Words.Std.{arith, ◌≡◌, refl, sym, subst, ℕ, ◌<◌, nat_le, is_some, Bool, true, false, cond, List, [], ◌∷◌, ◌++◌, length, Option, Some, None, Result, Ok, Err, slice_set, get_or-set_same, length-set}
use Rattle.sbp_world.proofs.Words.Wire.{Body, block_read, LabelParts, Packet, header_in, Finding, Layer, answering_step, judging_step, of_again, of_generation, of_grammar, of_label, of_request, of_response, CutCause, Judged, Side, OutboxState, empty_outbox}
use Rattle.sbp_world.proofs.Words.Target.{Login, Outcome, Disk, disk_at, Told, left_by, PlainDisk, AgentStep, PointRefusal, Which, Machine, aligned, state_in, asks, doorbell_in, doorbell_step, is_reset, point_in, point_step, pointed, reply_step, Access, Demand, demand_of, Desk, Kind, Moves, Purpose, Tells, agent_body, announced, ask_main, back, cleared, cut, decided_by, departed, died, ended, failed, failed_by, follow, lapsed, main_asked, main_sent, managed, managed_in, noted, opened, plain, ran, stay, told_cut, unsent, was_cut, new_desk, point_desk, taken, which_in, manage, NodeState, Scene, desk_at, login_at, scene, with_agent, with_desk, with_manager, answer_in, concluded, judged_scene, received, received_as, seen, Whole, advance, advanced_with, announced_by, came, changed_by, follow_all, plain_in, step_replied, replied_by, replied_to, replied_with, served_login, stage, whole, answer_step, answered_by, request_step, send_ahead, ahead_asked, ahead_sent, with_side, accessed_by, address_error, answered, asked_in, enabled, is_barred, point, pointed_by, serving_step, ring, rung_by, serve, served_as, start, started_by, orb_of, tell_dead, tell_ended, tell_ran, tell_step}
use Rattle.sbp_world.proofs.Words.Initiator.{Ask, FailCause, OrbPointer, StatusKind, Answer}
use Rattle.label_table.specs.Layer.{free_labels, seeing_step}
use Rattle.mgmt_agent.specs.Machine as management
use Rattle.mgmt_agent.specs.declared.operation.Busy.{Busy}
use Rattle.orb_layout.specs.declared.ask.Ask.TheVariants as orb_asks
use Rattle.orb_layout.specs.declared.pointer.OrbPointer.TheVariants.{At, Null}
use Rattle.command_agent.specs.declared.step.AgentState.{AgentState}
use Rattle.command_agent.specs.declared.step.AgentState.TheVariants as agent_states
use Rattle.sbp_journal.specs.declared.cause.Cause.TheVariants as causes
use Rattle.sbp_journal.specs.declared.cause.CutCause.TheVariants as cuts
use Rattle.sbp_journal.specs.declared.cause.Judged.TheVariants as judgements
use Rattle.sbp_journal.specs.declared.side.Side.TheVariants as sides
use Rattle.target_base.specs.Logins.{is_below_reserve}
use Rattle.target_base.specs.declared.address.Access.TheVariants as accesses
use Rattle.target_base.specs.declared.address.Demand.TheVariants as demands
use Rattle.sbp_target.specs.declared.purpose.Purpose.TheVariants as purposes
use Rattle.sbp_target.specs.Histories.Moves.{held}
use Rattle.sbp_target.specs.Desks.{pointed_desk}
use Rattle.sbp_target.proofs.Histories.Followed.{TellsDiscs, announces_by}
use Rattle.sbp_target.proofs.Histories.Moved.{ask_manager_moves, decided_moves, reset_moves, tick_moves}
use Rattle.sbp_target.proofs.Histories.Views.{requests, sides_kept}
use Rattle.sbp_world.specs.Completing.Deaths.{AreLiving, DeliveriesLive, DeliveryGoesOn, GoesOn, IsLiving, OthersLive}
use Rattle.sbp_world.specs.Completing.LabelsAsked.{Follows, IsNoWrite, MayAsk, nothing, read}
use Rattle.sbp_world.specs.Completing.LabelsFound.{FindsLabels}
use Rattle.sbp_world.specs.Completing.LabelsFound as found
use Rattle.sbp_world.proofs.Completing.LabelsAsked.{asked_law}

living_more : (told : List Side) (side : Side) → AreLiving told → IsLiving side → AreLiving (told ++ side ∷ [])
living_more [] side h f = (f, tt)
living_more (first ∷ told) side h f = (h.0, living_more told side h.1 f)

abbrev Living : Scene → Type 0
Living s = AreLiving s.outbox.sides

-- ---- what is no step of an agent
abbrev stepless : Kind
stepless = record { Fits = λ step. ⊥; MayAsk = Unit {0}; MayCut = Unit {0}; MayAnnounce = Unit {0}; MayManage = Unit {0}; MayChange = Unit {0}; MayDecide = Unit {0}; MayAnswer = Unit {0}; MayTurn = Unit {0} }

stepless_side : (side : Side) → Tells stepless side → IsLiving side
stepless_side _ (ran place m step outcome f e) = absurd f
stepless_side _ (died place step cause f e) = absurd f
stepless_side _ (ended place m step status f e) = absurd f
stepless_side _ (plain _ (was_cut place cause t)) = tt
stepless_side _ (plain _ (opened place orb t)) = tt
stepless_side _ (plain _ (announced place t)) = tt
stepless_side _ (plain _ (unsent place t)) = tt
stepless_side _ (plain _ (failed source cause t)) = tt
stepless_side _ (plain _ (managed source function subject status login t)) = tt
stepless_side _ (plain _ (cleared unit t)) = tt
stepless_side _ (plain _ (back login t)) = tt
stepless_side _ (plain _ (departed login t)) = tt
stepless_side _ (plain _ (held login t)) = tt
stepless_side _ (plain _ (lapsed login t)) = tt

goes : (x y : Scene) → Moves stepless x y → Living x → Living y
goes x y m h = sides_kept stepless AreLiving (λ told side t i. living_more told side i (stepless_side side t)) x y m h

-- the management
managed_living : (source : Option ℕ) (answer : Answer) (s : Scene) → Living s → Living (managed_in source answer s)
managed_living None answer s h = h
managed_living (Some source) answer s h =
    let r = management.reply_step s.node.manager s.node.logins s.node.keys answer in
    let t = scene (with_manager s.node r.1) s.outbox in
    let u = decided_by r.0.decided r.0.effect source t in
    goes _ _ (ask_manager_moves stepless (failed_by source r.0.failed u) tt tt source r.0.ask (failed_by source r.0.failed u) (stay (failed_by source r.0.failed u)))
    (failed_living source r.0.failed u (goes t u (decided_moves stepless t tt tt tt r.0.decided r.0.effect source t (stay t)) h))
  where
    failed_living : (source : ℕ) (x : Option FailCause) (s : Scene) → Living s → Living (failed_by source x s)
    failed_living source None s h = h
    failed_living source (Some cause) s h = living_more s.outbox.sides (sides.ManageFailed source cause) h tt

manages : (answer : Answer) (s : Scene) → Living s → Living (manage answer s)
unfolding manage
manages answer s h = managed_living (management.source_in s.node.manager.operation) answer s h

answers_by : (r : List ℕ × Layer Purpose) (o : OutboxState) (source : ℕ) → AreLiving o.sides → AreLiving (answered_by r o source).1.sides
answers_by (bytes, layer) o source h = h

answers : (request : Packet) (bytes : List ℕ) (rcode : ℕ) (given : List ℕ) (s : Scene) → Living s → Living (answered request bytes rcode given s)
unfolding answer_step
answers request bytes rcode given s h = answers_by (answering_step s.node.layer request bytes rcode given) s.outbox (header_in request).source h

starts_by : (source : ℕ) (request : Packet) (bytes : List ℕ) (r : Result Ask Busy × management.Machine) (s : Scene) → Living s → Living (started_by source request bytes r s)
starts_by source request bytes (Ok ask, m) s h =
    let t = answered request bytes 0 [] (scene (record s.node { manager = m }) s.outbox) in
    goes t _ (ask_manager_moves stepless t tt tt source ask t (stay t)) (answers request bytes 0 [] (scene (record s.node { manager = m }) s.outbox) h)
starts_by source request bytes (Err busy, m) s h = answers request bytes 4 [] (scene (record s.node { manager = m }) s.outbox) h

starts : (orb : ℕ) (request : Packet) (bytes : List ℕ) (s : Scene) → Living s → Living (start orb request bytes s)
unfolding start
starts orb request bytes s h = starts_by (header_in request).source request bytes (management.start_step s.node.manager (header_in request).source orb) s h

-- a list is cut
cut_living : (b : Bool) (place : ℕ) (cause : CutCause) (o : OutboxState) → AreLiving o.sides → AreLiving (told_cut b place cause o).sides
cut_living true place cause o h = h
cut_living false place cause o h = living_more o.sides (sides.Cut place cause) h tt

cuts_at : (cause : CutCause) (place : ℕ) (s : Scene) → Living s → Living (cut cause place s)
unfolding cut
cuts_at cause place s h = cut_living (is_reset (state_in (desk_at s.node place).agent.phase)) place cause s.outbox h

-- a disc is announced
discs : TellsDiscs AreLiving
discs = record { pushed = λ told place h. living_more told (sides.Unsolicited place) h tt; unsent = λ told place h. living_more told (sides.Unsent place) h tt }

-- ---- a step of an agent that does not make it dead
ran_living : (place : ℕ) (m : Machine) (x : Option Outcome) (o : OutboxState) → AreLiving o.sides → AreLiving (tell_ran place m x o).sides
ran_living place m None o h = h
ran_living place m (Some outcome) o h = living_more o.sides (sides.Ran place (orb_of m) m.orb.cdb m.payload outcome) h tt

dead_living : (place : ℕ) (x : Option FailCause) (o : OutboxState) → x ≡ None → AreLiving o.sides → AreLiving (tell_dead place x o).sides
dead_living place None o e h = h
dead_living place (Some cause) o e h = cc e

ended_living : (place : ℕ) (m : Machine) (x : Option StatusKind) (o : OutboxState) → AreLiving o.sides → AreLiving (tell_ended place m x o).sides
ended_living place m None o h = h
ended_living place m (Some status) o h = living_more o.sides (sides.Ended place (orb_of m) status) h tt

noted_living : (place : ℕ) (step : AgentStep) (s : Scene) → step.dead ≡ None → Living s → Living (noted place step s)
unfolding noted tell_step
noted_living place step s e h =
    let m = (desk_at s.node place).agent in
    let a = tell_ran place m step.ran s.outbox in
    ended_living place m step.ended (tell_dead place step.dead a) (dead_living place step.dead a e (ran_living place m step.ran s.outbox h))

-- its requests tell nothing
main_living : (place peer : ℕ) (node : NodeState) (r : Option LabelParts × (Layer Purpose × OutboxState)) → AreLiving r.1.1.sides → Living (main_sent place peer node r).1
main_living place peer node (Some label, (layer, outbox)) h = h
main_living place peer node (None, (layer, outbox)) h = h

ahead_living : (place peer : ℕ) (node : NodeState) (r : Option LabelParts × (Layer Purpose × OutboxState)) → AreLiving r.1.1.sides → Living (ahead_sent place peer node r).1
ahead_living place peer node (Some label, (layer, outbox)) h = h
ahead_living place peer node (None, (layer, outbox)) h = h

asked_living : (body : Option Body) (place : ℕ) (login : Login) (s : Scene) → Living s → Living (main_asked body place login s).1
asked_living None place login s h = h
asked_living (Some body) place login s h = main_living place login.node s.node _ (requests AreLiving s login.node body (purposes.Agent place) h)

asks_main : (place : ℕ) (login : Login) (step : AgentStep) (s : Scene) → Living s → Living (ask_main place login step s).1
unfolding ask_main
asks_main place login step s h = asked_living (agent_body step.ask (is_some step.ended) login.fifo (desk_at s.node place).agent.outgoing) place login s h

later_living : (body : Option Body) (place : ℕ) (login : Login) (s : Scene) → Living s → Living (ahead_asked body place login s).1
later_living None place login s h = h
later_living (Some body) place login s h = by (is_below_reserve (free_labels s.node.layer login.node))
  where
    by : (b : Bool) → Living (cond b (false, s) (ahead_sent place login.node s.node (request_step s.node.layer s.outbox login.node body (purposes.Agent place)))).1
    by true = h
    by false = ahead_living place login.node s.node _ (requests AreLiving s login.node body (purposes.Agent place) h)

asks_ahead : (place : ℕ) (login : Login) (ask : Ask) (s : Scene) → Living s → Living (send_ahead place login ask s).1
unfolding send_ahead
asks_ahead place login ask s h = later_living (agent_body ask false login.fifo (desk_at s.node place).agent.outgoing) place login s h

follows : (place : ℕ) (login : Login) (step : AgentStep) (s : Scene) → Follows place login step s → step.dead ≡ None → Living s → Living (follow place login step s)
follows place login step s f e h =
    let t = noted place step s in subst Living (sym f.is) (asks_ahead place login step.ahead (ask_main place login step t).1 (asks_main place login step t (noted_living place step s e h)))

-- what is no write finds a label
pub read_asks : (l : Layer Purpose) (peer : ℕ) (is_status : Bool) (fifo : ℕ) (outgoing : List ℕ) (ask : Ask) → IsNoWrite ask → MayAsk l peer (agent_body ask is_status fifo outgoing)
read_asks l peer is_status fifo outgoing orb_asks.Nothing n = nothing
read_asks l peer is_status fifo outgoing (orb_asks.Read offset len) n = by (nat_le len 2048)
  where
    by : (b : Bool) → MayAsk l peer (cond b (Some (block_read offset len)) None)
    by true = read offset len
    by false = nothing
read_asks l peer is_status fifo outgoing (orb_asks.Write offset len) n = absurd n

-- ---- a packet that the target gets
module _ (run : Option Told) (generation : ℕ) (bytes : List ℕ) (node : NodeState) (disks : List Disk) (g : DeliveryGoesOn run generation bytes node disks) where
  abbrev layer : Layer Purpose
  layer = (judging_step node.layer generation bytes).1

  abbrev node_there : NodeState
  node_there = record node { layer = layer }

  abbrev here : Scene
  here = scene node_there empty_outbox

  abbrev all : Whole
  all = whole here disks

  abbrev Found : Finding Purpose → Type 0
  Found f = (judging_step node.layer generation bytes).0 ≡ f

  judged : (peer : ℕ) → found.Behind node.layer peer 0 layer
  judged peer = found.judges 0 node.layer generation bytes found.begins

  -- ---- a response to an agent
  module _ (place : ℕ) (login : Login) where
    abbrev unit : ℕ
    unit = login.unit

    abbrev plain_now : PlainDisk
    plain_now = plain_in node.units disks unit

    abbrev left_node : Desk → PlainDisk → NodeState
    left_node d p = record (with_desk node_there place d) { units = slice_set node.units unit p.unit }

    abbrev changed : Bool → Desk → PlainDisk → NodeState
    changed b d p = changed_by b unit place (left_node d p)

    record Changed (d : Desk) (n : NodeState) : Type 0 where
      desk : desk_at n place ≡ d
      layer_is : n.layer ≡ layer
      desks : length n.desks ≡ length node.desks

    changes : (b : Bool) (d : Desk) (p : PlainDisk) → place < length node.desks → Changed d (changed b d p)
    changes false d p b = record { desk = get_or-set_same node.desks place d new_desk b; layer_is = refl; desks = length-set node.desks place d }
    changes true d p b = record { desk = get_or-set_same node.desks place d new_desk b; layer_is = refl; desks = length-set node.desks place d }

    step_living : (d : Desk) (step : AgentStep) (n : NodeState) → Changed d n → GoesOn node layer place login (step, d.agent) → Living (follow place login step (scene n empty_outbox))
    step_living d step n c o =
        let s = scene n empty_outbox in
        let size = c.desks in
        let there = o.there in
        let body = λ (m : Machine). agent_body step.ask (is_some step.ended) login.fifo m.outgoing in
        follows place login step s
        (asked_law.agents node.layer login.node o.finds 0 place login step s refl (record {
          there = omega (arith, size, there);
          behind = subst (found.Behind node.layer login.node 0) (sym c.layer_is) (judged login.node);
          few = omega arith;
          alive = o.alive;
          asks = subst (λ (x : Layer Purpose). MayAsk x login.node (body (desk_at n place).agent)) (sym c.layer_is) (subst (λ (x : Desk). MayAsk layer login.node (body x.agent)) (sym c.desk) o.asks);
          ahead = o.ahead;
        }))
        o.alive tt

    abbrev loaded : PlainDisk → Bool
    loaded p = came (disk_at disks unit) (disk_at (slice_set disks unit p.medium) unit)

    ran_on : (d : Desk) (step : AgentStep) → GoesOn node layer place login (step, d.agent) → (let p = left_by step.ran d.agent.orb.cdb d.agent.payload place plain_now in Living (announced_by (loaded p) unit place (follow place login step (scene (changed (loaded p) d p) empty_outbox))))
    ran_on d step o =
        let p = left_by step.ran d.agent.orb.cdb d.agent.payload place plain_now in
        let n = changed (loaded p) d p in
        announces_by AreLiving discs (loaded p) unit place (follow place login step (scene n empty_outbox)) (step_living d step n (changes (loaded p) d p o.there) o)

    advanced_living : (which : Which) (r : AgentStep × Machine) → GoesOn node layer place login r → AreLiving (advanced_with place login (replied_with place unit which r (stage node_there disks)) all).outbox.sides
    unfolding follow_all
    advanced_living which (step, a) o = ran_on (record (taken which (desk_at node place)) { agent = a }) step o

    advance_living : (which : Which) (answer : Answer) → GoesOn node layer place login (reply_step (desk_at node place).agent place plain_now run which answer) → AreLiving (advance run place login which answer all).outbox.sides
    unfolding advance step_replied
    advance_living which answer o = advanced_living which (reply_step (desk_at node place).agent place plain_now run which answer) o

  replies : (packet : Packet) (label : LabelParts) (place : ℕ) → Found (of_response packet label (Some (purposes.Agent place))) → (there : Option Login) → served_login node place ≡ there → (which : Option Which) → which_in (desk_at node place) (header_in packet).source label ≡ which → AreLiving (replied_by run place (answer_in packet) there which all).outbox.sides
  replies packet label place f None e which h = tt
  replies packet label place f (Some login) e None h = tt
  replies packet label place f (Some login) e (Some which) h = advance_living place login which (answer_in packet) (g.replies packet label place f login e which h)

  concludes : (packet : Packet) (label : LabelParts) (purpose : Option Purpose) → Found (of_response packet label purpose) → AreLiving (concluded run purpose (header_in packet).source label (answer_in packet) all).outbox.sides
  unfolding concluded replied_to
  concludes packet label None f = tt
  concludes packet label (Some (purposes.Agent place)) f = replies packet label place f (served_login node place) refl (which_in (desk_at node place) (header_in packet).source label) refl
  concludes packet label (Some purposes.Management) f = manages (answer_in packet) here tt
  concludes packet label (Some purposes.Unsolicited) f = tt

  -- ---- a request for a register of an agent: it asks for no write
  pointed_reads : (m : Machine) (pointer : OrbPointer) → (ask : Ask) → (pointed m pointer).0 ≡ Ok ask → IsNoWrite ask
  pointed_reads m Null ask e = cc e
  pointed_reads m (At next) ask e = let z : orb_asks.Read (aligned next) 32 ≡ ask = cc in subst IsNoWrite z tt

  point_reads : (m : Machine) (pointer : OrbPointer) (ask : Ask) → (point_step m pointer).0 ≡ Ok ask → IsNoWrite ask
  unfolding point_step
  point_reads m pointer ask e = by (state_in m.phase) e
    where
      by : (state : AgentState) → (point_in state m pointer).0 ≡ Ok ask → IsNoWrite ask
      by agent_states.Reset e = pointed_reads m pointer ask e
      by agent_states.Suspended e = pointed_reads m pointer ask e
      by agent_states.Active e = cc e
      by agent_states.Dead e = cc e

  ring_reads : (m : Machine) → IsNoWrite (doorbell_step m).0
  unfolding doorbell_step
  ring_reads m = by (state_in m.phase)
    where
      by : (state : AgentState) → IsNoWrite (doorbell_in state m).0
      by agent_states.Reset = tt
      by agent_states.Suspended = tt
      by agent_states.Active = tt
      by agent_states.Dead = tt

  -- the agent of a place asks, behind the answer
  record Asking (place : ℕ) (s : Scene) : Type 0 where
    there : place < length s.node.desks
    finds : (login : Login) → login_at s.node place ≡ Some login → FindsLabels node.layer login.node
    behind : (peer : ℕ) → found.Behind node.layer peer 0 s.node.layer

  asks_in : (place : ℕ) (ask : Ask) (s : Scene) → IsNoWrite ask → Asking place s → (login : Option Login) → login_at s.node place ≡ login → Living s → Living (asked_in place ask login s)
  asks_in place ask s n a None e h = h
  asks_in place ask s n a (Some login) e h =
      follows place login (asks ask) s
      (asked_law.agents node.layer login.node (a.finds login e) 0 place login (asks ask) s refl (record {
        there = a.there;
        behind = a.behind login.node;
        few = omega arith;
        alive = refl;
        asks = read_asks s.node.layer login.node false login.fifo (desk_at s.node place).agent.outgoing ask n;
        ahead = tt;
      }))
      refl h

  answer_layer : (r : List ℕ × Layer Purpose) (o : OutboxState) (source : ℕ) → (answered_by r o source).0 ≡ r.1
  answer_layer (given, l) o source = refl

  answered_asking : (place : ℕ) (request : Packet) (rcode : ℕ) (given : List ℕ) (s : Scene) → Asking place s → Asking place (answered request bytes rcode given s)
  unfolding answer_step
  answered_asking place request rcode given s a = record {
    there = a.there;
    finds = a.finds;
    behind = λ peer. subst (found.Behind node.layer peer 0) (sym (answer_layer (answering_step s.node.layer request bytes rcode given) s.outbox (header_in request).source)) (found.answers 0 s.node.layer request bytes rcode given (a.behind peer));
  }

  -- at the register of a place
  module _ (place : ℕ) (small : place < length node.desks) (finds : (login : Login) → login_at node place ≡ Some login → FindsLabels node.layer login.node) (request : Packet) where
    with_asking : (d : Desk) (o : OutboxState) → Asking place (scene (with_desk node_there place d) o)
    with_asking d o = record { there = (let size = length-set node.desks place d in omega (arith, size, small)); finds = finds; behind = judged }

    points_by : (r : Result Ask PointRefusal × Desk) → ((ask : Ask) → r.0 ≡ Ok ask → IsNoWrite ask) → Living (pointed_by place request bytes r here)
    points_by (Ok ask, desk) n =
        let t = scene (with_desk node_there place desk) (with_side empty_outbox (sides.Opened place (orb_of desk.agent))) in
        let u = answered request bytes 0 [] t in
        asks_in place ask u (n ask refl) (answered_asking place request 0 [] t (with_asking desk t.outbox)) (login_at u.node place) refl (answers request bytes 0 [] t (tt, tt))
    points_by (Err refusal, desk) n = answers request bytes _ [] (scene (with_desk node_there place desk) empty_outbox) tt

    points : (pointer : OrbPointer) → Living (point place pointer request bytes here)
    unfolding point
    points pointer = points_by (point_desk (desk_at node place) pointer) (λ ask e. point_reads (desk_at node place).agent pointer ask (desk_ask (point_step (desk_at node place).agent pointer) ask e))
      where
        desk_ask : (r : Result Ask PointRefusal × Machine) (ask : Ask) → (pointed_desk (desk_at node place) r).0 ≡ Ok ask → r.0 ≡ Ok ask
        desk_ask (Ok other, m) ask e = e
        desk_ask (Err refusal, m) ask e = cc e

    rings_by : (r : Ask × Machine) → IsNoWrite r.0 → Living (rung_by place request bytes r here)
    rings_by (ask, m) n =
        let t = scene (with_agent node_there place m) empty_outbox in
        let u = answered request bytes 0 [] t in
        asks_in place ask u n (answered_asking place request 0 [] t (with_asking (record (desk_at node place) { agent = m }) empty_outbox)) (login_at u.node place) refl (answers request bytes 0 [] t tt)

    rings : Living (ring place request bytes here)
    unfolding ring
    rings = rings_by (doorbell_step (desk_at node place).agent) (ring_reads (desk_at node place).agent)

    accesses_live : (access : Access) → Living (accessed_by access place request bytes here)
    accesses_live accesses.State = answers request bytes 0 _ here tt
    accesses_live accesses.Reset = answers request bytes 0 [] (cut cuts.AgentReset place here) (cuts_at cuts.AgentReset place here tt)
    accesses_live (accesses.Point pointer) = points pointer
    accesses_live accesses.Pointer = answers request bytes 0 _ here tt
    accesses_live accesses.Ring = rings
    accesses_live accesses.Enable = answers request bytes 0 [] (enabled place here) tt

  -- ---- a request
  serves_as : (p : Packet) (demand : Demand) → Found (of_request p) → is_barred node p ≡ false → demand_of (length node.rom) p ≡ demand → Living (served_as demand p bytes here)
  serves_as p (demands.Refused rcode) f b d = answers p bytes rcode [] here tt
  serves_as p (demands.Rom at len) f b d = answers p bytes 0 _ here tt
  serves_as p (demands.Manage orb) f b d = starts orb p bytes here tt
  serves_as p (demands.Agent place access) f b d = let r = g.registers p place access f b d in accesses_live place r.0 r.1 p access

  serves : (p : Packet) → Found (of_request p) → is_barred node p ≡ false → Living (serve p bytes here)
  unfolding serve
  serves p f b = serves_as p (demand_of (length node.rom) p) f b refl

  abbrev Done : Judged × Whole → Type 0
  Done x = AreLiving x.1.outbox.sides

  by_bar : (p : Packet) → Found (of_request p) → (b : Bool) → is_barred node p ≡ b → Done (judged_scene (cond b (judgements.Ignored causes.Login, answered p bytes address_error [] here) (judgements.Got, serve p bytes here)) all)
  by_bar p f true e = answers p bytes address_error [] here tt
  by_bar p f false e = serves p f e

  by_found : (f : Finding Purpose) → Found f → Done (received_as run bytes f all)
  unfolding serving_step is_barred
  by_found of_generation f = tt
  by_found of_grammar f = tt
  by_found of_label f = tt
  by_found (of_again p rcode) f = answers p bytes rcode [] here tt
  by_found (of_response p label purpose) f = concludes p label purpose f
  by_found (of_request p) f = by_bar p f (is_barred node p) refl

  delivery_lives : Done (received run generation bytes (whole (scene node empty_outbox) disks))
  unfolding received
  delivery_lives = by_found (judging_step node.layer generation bytes).0 refl

pub deliveries_live : DeliveriesLive
deliveries_live run generation bytes node disks g = delivery_lives run generation bytes node disks g

pub others_live : OthersLive
unfolding seen
others_live = record {
  sights = λ generation id node.
      let s = scene node empty_outbox in
      let r = seeing_step node.layer generation id in
      let t = scene (record node { layer = r.1 }) empty_outbox in
      goes t _ (reset_moves stepless t tt tt r s (stay t)) tt;
  ticks = λ node. let s = scene node empty_outbox in goes s _ (tick_moves stepless s tt s (stay s)) tt;
}
