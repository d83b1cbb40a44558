-- What moves of a target keep: of all that is told, where each side that may be told keeps it; of the layer and the packets, where each request and
-- answer does; and what they leave of the ROM, the units and the logins.
use Rattle.std.proofs.Common.{◌≡◌, refl, ◌∙◌, ap, ℕ, ◌&&◌, Bool, true, false, List, [], ◌∷◌, ◌++◌, length, Option, Some, None}
use Rattle.std.proofs.lemmas.List.{length-set}
use Rattle.async_packet.specs.Labels.{LabelParts}
use Rattle.async_packet.specs.Packet.{Packet}
use Rattle.label_table.specs.declared.judgement.Asked.{Asked}
use Rattle.label_table.specs.Bodies.{Body, block_write}
use Rattle.label_table.specs.Layer.{Layer, answering_step, asking_step, disowning_step, expiring_step, judging_step, seeing_step}
use Rattle.login_table.specs.declared.login.Login.{Login}
use Rattle.login_table.specs.Table.{Table, is_live}
use Rattle.media_bay.specs.Unsolicited.{block}
use Rattle.mgmt_agent.specs.declared.operation.Operation.{Operation}
use Rattle.mgmt_agent.specs.declared.operation.Phase.{Phase}
use Rattle.mgmt_agent.specs.declared.operation.Phase.TheVariants as phases
use Rattle.mgmt_agent.specs.Machine as management
use Rattle.orb_layout.specs.declared.ask.Ask.{Ask}
use Rattle.orb_layout.specs.declared.ask.FailCause.{FailCause}
use Rattle.orb_layout.specs.declared.ask.FailCause.TheVariants as causes
use Rattle.orb_layout.specs.declared.status.StatusKind.{StatusKind}
use Rattle.orb_layout.specs.Replies.{NoLabel}
use Rattle.rbc_disk.specs.declared.command.Outcome.{Outcome}
use Rattle.rbc_disk.specs.Runs.{Told}
use Rattle.command_agent.specs.declared.step.AgentStep.{AgentStep}
use Rattle.command_agent.specs.declared.step.Which.{Which}
use Rattle.command_agent.specs.Machine.{Machine, state_in}
use Rattle.command_agent.specs.Steps.{asks, is_reset, lost_step}
use Rattle.sbp_journal.specs.declared.cause.CutCause.{CutCause}
use Rattle.sbp_journal.specs.declared.outbox.Outgoing.{Outgoing}
use Rattle.sbp_journal.specs.declared.side.Side.{Side}
use Rattle.sbp_journal.specs.declared.side.Side.TheVariants as sides
use Rattle.sbp_journal.specs.Outgoings.{OutboxState}
use Rattle.sbp_target.specs.declared.purpose.Purpose.{Purpose}
use Rattle.sbp_target.specs.declared.purpose.Purpose.TheVariants as purposes
use Rattle.sbp_target.specs.declared.purpose.Sent.{Sent}
use Rattle.sbp_target.specs.Agents.{ahead_sent, cut, disowned, dropped_by, main_sent, noted, promoted_by, told_cut, without_ahead}
use Rattle.sbp_target.specs.Desks.{expired_desk}
use Rattle.sbp_target.specs.Histories.Layers.{response, with_asked}
use Rattle.sbp_target.specs.Histories.Moves.{Announced, Asks, Behind, Chain, FitsCall, Heard, Kind, Lost, MayAct, MayAll, MayEnd, Move, Moves, Plain, Tells, fitting, free, go_on, lost_at, stay, still}
use Rattle.sbp_target.specs.Histories.Moves as moves
use Rattle.sbp_target.specs.Management.{cut_placed, tell_left}
use Rattle.sbp_target.specs.Nodes.{NodeState, Scene, scene, desk_at, with_agent, with_desk}
use Rattle.sbp_target.specs.Receiving.{expired, received, seen, ticked, with_layer}
use Rattle.sbp_target.specs.Replies.{Whole, replied, scene_of}
use Rattle.sbp_target.specs.Sending.{answer_step, request_step, sent_by}
use Rattle.sbp_target.specs.Telling.{orb_of, tell_dead, tell_ended, tell_ran, tell_step}
use Rattle.sbp_target.specs.Units.{clear_unit, cut_all, unsolicited_by}
use Rattle.sbp_target.proofs.Histories.Moved.{cut_all_moves, cut_placed_moves, expire_moves, fits_in, receive_moves, see_moves, tick_moves}

-- a request of the management operation that finds no label leaves the logins
lost_phase : (phase : Phase) (m : management.Machine) (operation : Operation) (logins : Table) (keys : List (List ℕ)) → (management.reply_in phase m operation logins keys NoLabel).1.1 ≡ logins
lost_phase phases.Orb m operation logins keys = refl
lost_phase (phases.HighEui orb) m operation logins keys = refl
lost_phase (phases.LowEui orb high) m operation logins keys = refl
lost_phase (phases.Response fifo) m operation logins keys = refl
lost_phase phases.Status m operation logins keys = refl

lost_operation : (operation : Option Operation) (m : management.Machine) (logins : Table) (keys : List (List ℕ)) → (management.reply_to operation m logins keys NoLabel).1.1 ≡ logins
lost_operation None m logins keys = refl
lost_operation (Some operation) m logins keys = lost_phase operation.phase m operation logins keys

pub lost_logins : (m : management.Machine) (logins : Table) (keys : List (List ℕ)) → (management.reply_step m logins keys NoLabel).1.1 ≡ logins
unfolding management.reply_step
lost_logins m logins keys = lost_operation m.operation m logins keys

-- as the node was
pub record Leaves (k : Kind) (x y : NodeState) : Type 0 where
  pub rom : y.rom ≡ x.rom
  pub keys : y.keys ≡ x.keys
  pub count : length y.units ≡ length x.units
  pub units_are : (k.MayChange → ⊥) → y.units ≡ x.units
  pub logins : (k.MayDecide → ⊥) → y.logins ≡ x.logins
  pub manager : (k.MayManage → ⊥) → (k.MayDecide → ⊥) → y.manager ≡ x.manager

-- what each request and each answer keeps, and each turn of the layer
pub record Sends (k : Kind) (P : Layer Purpose → List Outgoing → Type 0) : Type 0 where
  pub disowns : (layer : Layer Purpose) (packets : List Outgoing) (peer : ℕ) (label : LabelParts) → P layer packets → P (disowning_step layer peer label) packets
  pub asks_for : k.MayAsk → (layer : Layer Purpose) (packets : List Outgoing) (peer : ℕ) (body : Body) (purpose : Purpose) → Asks k body purpose → P layer packets → P (asking_step layer peer body purpose).1 (with_asked peer (asking_step layer peer body purpose).0 packets)
  pub answers : k.MayAnswer → (layer : Layer Purpose) (packets : List Outgoing) (p : Packet) (bytes : List ℕ) (rcode : ℕ) (given : List ℕ) → P layer packets → P (answering_step layer p bytes rcode given).1 (packets ++ response p (answering_step layer p bytes rcode given).0 ∷ [])
  pub judges : k.MayTurn → (layer : Layer Purpose) (packets : List Outgoing) (generation : ℕ) (bytes : List ℕ) → P layer packets → P (judging_step layer generation bytes).1 packets
  pub expires : k.MayTurn → (layer : Layer Purpose) (packets : List Outgoing) (peer : ℕ) (label : LabelParts) → P layer packets → P (expiring_step layer peer label).1 packets
  pub sees : k.MayTurn → (layer : Layer Purpose) (packets : List Outgoing) (generation id : ℕ) → P layer packets → P (seeing_step layer generation id).1 packets

pub kept : (M : Scene → Scene → Type 0) (P : Scene → Type 0) → ((x y : Scene) → M x y → P x → P y) → (x y : Scene) → Chain M x y → P x → P y
kept M P f _ _ (stay s) h = h
kept M P f _ _ (go_on x y z m n) h = f y z n (kept M P f x y m h)

-- who hears of a disc has a live login
pub heard_live : (unit from place : ℕ) (login : Login) (s : Scene) → Heard unit from place login s → is_live login ≡ true
heard_live unit from place login s e = both _ (is_live login) _ e.heard
  where
    both : (a b c : Bool) → (a && (b && c)) ≡ true → b ≡ true
    both true true c f = refl
    both true false c f = cc
    both false b c f = cc

-- by steps that keep it themselves
pub carried : (P : Scene → Type 0) (x y : Scene) → Chain (λ s t. P s → P t) x y → P x → P y
carried P x y m h = kept (λ s t. P s → P t) P (λ s t f i. f i) x y m h

-- what is kept as a list is cut
pub cuts_keep : (P : Scene → Type 0) → ((cause : CutCause) (place : ℕ) (s : Scene) → P s → P (cut cause place s)) → (cause : CutCause) (unit : Option ℕ) (s : Scene) → P s → P (cut_all cause unit s)
cuts_keep P f cause unit s h = carried P s _ (cut_all_moves (λ x y. P x → P y) f s cause unit s (stay s)) h

pub placed_keep : (P : Scene → Type 0) → ((cause : CutCause) (place : ℕ) (s : Scene) → P s → P (cut cause place s)) → (place : Option ℕ) (cause : CutCause) (s : Scene) → P s → P (cut_placed place cause s)
placed_keep P f place cause s h = carried P s _ (cut_placed_moves (λ x y. P x → P y) f s place cause s (stay s)) h

-- ---- what is told where an agent asks and a disc is announced
-- a transaction of an agent that finds no label
abbrev pub Loses : (List Side → Type 0) → Type 0
Loses Q = (place : ℕ) (which : Which) (s : Scene) → Q s.outbox.sides → Q (lost_at place which s).outbox.sides

module _ (Q : List Side → Type 0) where
  sends : (peer : ℕ) (r : Option Asked × Layer Purpose) (o : OutboxState) → Q o.sides → Q (sent_by r o peer).1.1.sides
  sends peer (Some asked, layer) o h = h
  sends peer (None, layer) o h = h

  pub requests : (s : Scene) (peer : ℕ) (body : Body) (purpose : Purpose) → Q s.outbox.sides → Q (request_step s.node.layer s.outbox peer body purpose).1.1.sides
  unfolding request_step
  requests s peer body purpose h = sends peer (asking_step s.node.layer peer body purpose) s.outbox h

  main_tells : (place peer : ℕ) (node : NodeState) (r : Option LabelParts × (Layer Purpose × OutboxState)) → Q r.1.1.sides → Q (main_sent place peer node r).1.outbox.sides
  main_tells place peer node (Some label, (layer, outbox)) h = h
  main_tells place peer node (None, (layer, outbox)) h = h

  ahead_tells : (place peer : ℕ) (node : NodeState) (r : Option LabelParts × (Layer Purpose × OutboxState)) → Q r.1.1.sides → Q (ahead_sent place peer node r).1.outbox.sides
  ahead_tells place peer node (Some label, (layer, outbox)) h = h
  ahead_tells place peer node (None, (layer, outbox)) h = h

  pub behind_sides : Loses Q → (place : ℕ) (login : Login) (x y : Scene) → Behind place login x y → Q x.outbox.sides → Q y.outbox.sides
  behind_sides lose place login _ _ (moves.loses which s e) h = lose place which s h
  behind_sides lose place login _ _ (moves.asks_main ask b body s e) h = main_tells place login.node s.node _ (requests s login.node body (purposes.Agent place) h)
  behind_sides lose place login _ _ (moves.asks_ahead ask body s e) h = ahead_tells place login.node s.node _ (requests s login.node body (purposes.Agent place) h)

  module _
      (sent : (told : List Side) (place : ℕ) → Q told → Q (told ++ sides.Unsolicited place ∷ []))
      (unsent : (told : List Side) (place : ℕ) → Q told → Q (told ++ sides.Unsent place ∷ []))
    where
      disc_tells : (place peer : ℕ) (node : NodeState) (r : Option LabelParts × (Layer Purpose × OutboxState)) → Q r.1.1.sides → Q (unsolicited_by place peer node r).outbox.sides
      disc_tells place peer node (Some label, (layer, outbox)) h = sent outbox.sides place h
      disc_tells place peer node (None, (layer, outbox)) h = unsent outbox.sides place h

      pub announced_sides : (unit from : ℕ) (x y : Scene) → Announced unit from x y → Q x.outbox.sides → Q y.outbox.sides
      announced_sides unit from _ _ (moves.pushes place login s e) h = disc_tells place login.node s.node _ (requests s login.node (block_write login.fifo block) purposes.Unsolicited h)
      announced_sides unit from _ _ (moves.withholds place login s e) h = unsent s.outbox.sides place h

module _ (k : Kind) where
  -- ---- what is told: each step whole
  module _
      (Q : List Side → Type 0)
      (notes_tell : (place : ℕ) (step : AgentStep) (s : Scene) → k.Fits step → Q s.outbox.sides → Q (noted place step s).outbox.sides)
      (f : (told : List Side) (side : Side) → Plain k side → Q told → Q (told ++ side ∷ []))
    where
      cut_tells : (b : Bool) (place : ℕ) (cause : CutCause) (o : OutboxState) → k.MayCut → Q o.sides → Q (told_cut b place cause o).sides
      cut_tells true place cause o c h = h
      cut_tells false place cause o c h = f o.sides _ (moves.was_cut place cause c) h

      left_tells : (x : Option ℕ) (o : OutboxState) → k.MayDecide → Q o.sides → Q (tell_left x o).sides
      left_tells None o a h = h
      left_tells (Some login) o a h = f o.sides _ (moves.departed login a) h

      behind_tells : Lost k → (place : ℕ) (login : Login) (x y : Scene) → Behind place login x y → Q x.outbox.sides → Q y.outbox.sides
      behind_tells l place login x y m h =
          behind_sides Q (λ place which s i.
          let m = (desk_at s.node place).agent in
          let r = lost_step m which causes.Label in notes_tell place r.0 (scene (with_agent s.node place r.1) s.outbox) (l m which causes.Label) i) place login x y m h

      move_tells : (x y : Scene) → Move k x y → Q x.outbox.sides → Q y.outbox.sides
      unfolding cut clear_unit answer_step
      move_tells _ _ (moves.notes place step s g) h = notes_tell place step s g h
      move_tells _ _ (moves.lapses place which s l) h =
          let r = expired_desk which (desk_at s.node place) in notes_tell place r.0 (scene (with_desk s.node place r.1) s.outbox) (l (desk_at s.node place).agent which causes.Timeout) h
      move_tells _ _ (moves.follows place login x y l q m) h = behind_tells l place login x y m h
      move_tells _ _ (moves.replies told place unit which answer disks s a) h = h
      move_tells _ _ (moves.cuts cause place s c) h = cut_tells (is_reset (state_in (desk_at s.node place).agent.phase)) place cause s.outbox c h
      move_tells _ _ (moves.opens place pointer ask desk s t e) h = f s.outbox.sides _ (moves.opened place (orb_of desk.agent) t) h
      move_tells _ _ (moves.refuses place pointer refusal desk s e) h = h
      move_tells _ _ (moves.rings place s) h = h
      move_tells _ _ (moves.enables place s) h = h
      move_tells _ _ (moves.comes unit place s a) h = h
      move_tells _ _ (moves.announces unit from x y q t m) h =
          announced_sides Q (λ told place i. f told _ (moves.announced place t) i) (λ told place i. f told _ (moves.unsent place t) i) unit from x y m h
      move_tells _ _ (moves.settles peer s) h = h
      move_tells _ _ (moves.starts source orb s t) h = h
      move_tells _ _ (moves.decides answer s a) h = h
      move_tells _ _ (moves.gives_up s t) h = h
      move_tells _ _ (moves.stops s t) h = h
      move_tells _ _ (moves.asks_for source ask body s q t e) h = requests Q s source body purposes.Management h
      move_tells _ _ (moves.enters place replaced s a) h = left_tells replaced s.outbox a h
      move_tells _ _ (moves.leaves place login s a) h = f s.outbox.sides _ (moves.departed login a) h
      move_tells _ _ (moves.aborts place orb s) h = h
      move_tells _ _ (moves.clears unit s a) h = f s.outbox.sides _ (moves.cleared unit a) h
      move_tells _ _ (moves.judges generation bytes s t) h = h
      move_tells _ _ (moves.expires peer label s t) h = h
      move_tells _ _ (moves.sees generation id s t) h = h
      move_tells _ _ (moves.answers p bytes rcode given s t) h = h
      move_tells _ _ (moves.tells side s t i) h = f s.outbox.sides side t h
      move_tells _ _ (moves.rests s a) h = h
      move_tells _ _ (moves.ages s a) h = h

      pub steps_kept : (x y : Scene) → Moves k x y → Q x.outbox.sides → Q y.outbox.sides
      steps_kept x y m h = kept (Move k) (λ s. Q s.outbox.sides) move_tells x y m h

  -- ---- and each side of it
  module _ (Q : List Side → Type 0) (f : (told : List Side) (side : Side) → Tells k side → Q told → Q (told ++ side ∷ [])) where
    ran_tells : (place : ℕ) (m : Machine) (step : AgentStep) (x : Option Outcome) (o : OutboxState) → k.Fits step → step.ran ≡ x → Q o.sides → Q (tell_ran place m x o).sides
    ran_tells place m step None o g e h = h
    ran_tells place m step (Some outcome) o g e h = f o.sides _ (moves.ran place m step outcome g e) h

    dead_tells : (place : ℕ) (step : AgentStep) (x : Option FailCause) (o : OutboxState) → k.Fits step → step.dead ≡ x → Q o.sides → Q (tell_dead place x o).sides
    dead_tells place step None o g e h = h
    dead_tells place step (Some cause) o g e h = f o.sides _ (moves.died place step cause g e) h

    ended_tells : (place : ℕ) (m : Machine) (step : AgentStep) (x : Option StatusKind) (o : OutboxState) → k.Fits step → step.ended ≡ x → Q o.sides → Q (tell_ended place m x o).sides
    ended_tells place m step None o g e h = h
    ended_tells place m step (Some status) o g e h = f o.sides _ (moves.ended place m step status g e) h

    notes_tell : (place : ℕ) (step : AgentStep) (s : Scene) → k.Fits step → Q s.outbox.sides → Q (noted place step s).outbox.sides
    unfolding noted tell_step
    notes_tell place step s g h =
        let m = (desk_at s.node place).agent in
        let a = tell_ran place m step.ran s.outbox in
        ended_tells place m step step.ended (tell_dead place step.dead a) g refl (dead_tells place step step.dead a g refl (ran_tells place m step step.ran s.outbox g refl h))

    pub sides_kept : (x y : Scene) → Moves k x y → Q x.outbox.sides → Q y.outbox.sides
    sides_kept x y m h = steps_kept Q notes_tell (λ told side p i. f told side (moves.plain side p) i) x y m h

  -- ---- the layer and the packets
  module _ (P : Layer Purpose → List Outgoing → Type 0) (f : Sends k P) where
    ran_sends : (l : Layer Purpose) (place : ℕ) (m : Machine) (x : Option Outcome) (o : OutboxState) → P l o.packets → P l (tell_ran place m x o).packets
    ran_sends l place m None o h = h
    ran_sends l place m (Some outcome) o h = h

    dead_sends : (l : Layer Purpose) (place : ℕ) (x : Option FailCause) (o : OutboxState) → P l o.packets → P l (tell_dead place x o).packets
    dead_sends l place None o h = h
    dead_sends l place (Some cause) o h = h

    ended_sends : (l : Layer Purpose) (place : ℕ) (m : Machine) (x : Option StatusKind) (o : OutboxState) → P l o.packets → P l (tell_ended place m x o).packets
    ended_sends l place m None o h = h
    ended_sends l place m (Some status) o h = h

    step_sends : (l : Layer Purpose) (place : ℕ) (m : Machine) (step : AgentStep) (o : OutboxState) → P l o.packets → P l (tell_step place m step o).packets
    unfolding tell_step
    step_sends l place m step o h =
        let a = tell_ran place m step.ran o in
        ended_sends l place m step.ended (tell_dead place step.dead a) (dead_sends l place step.dead a (ran_sends l place m step.ran o h))

    pub gives_up : (sent : Option Sent) (l : Layer Purpose) (packets : List Outgoing) → P l packets → P (disowned sent l) packets
    gives_up None l packets h = h
    gives_up (Some sent) l packets h = f.disowns l packets sent.peer sent.label h

    drops : (dead : Option FailCause) (place : ℕ) (node : NodeState) (packets : List Outgoing) → P node.layer packets → P (dropped_by dead place node).layer packets
    unfolding without_ahead
    drops None place node packets h = h
    drops (Some cause) place node packets h = gives_up (desk_at node place).ahead node.layer packets h

    promotes : (b : Bool) (place : ℕ) (node : NodeState) (packets : List Outgoing) → P node.layer packets → P (promoted_by b place node).layer packets
    promotes false place node packets h = h
    promotes true place node packets h = h

    notes_send : (place : ℕ) (step : AgentStep) (s : Scene) → P s.node.layer s.outbox.packets → P (noted place step s).node.layer (noted place step s).outbox.packets
    unfolding noted
    notes_send place step s h =
        let d = dropped_by step.dead place s.node in
        step_sends (promoted_by step.promoted place d).layer place (desk_at s.node place).agent step s.outbox
        (promotes step.promoted place d s.outbox.packets (drops step.dead place s.node s.outbox.packets h))

    cut_sends : (l : Layer Purpose) (b : Bool) (place : ℕ) (cause : CutCause) (o : OutboxState) → P l o.packets → P l (told_cut b place cause o).packets
    cut_sends l true place cause o h = h
    cut_sends l false place cause o h = h

    cuts_send : (cause : CutCause) (place : ℕ) (s : Scene) → P s.node.layer s.outbox.packets → P (cut cause place s).node.layer (cut cause place s).outbox.packets
    unfolding cut
    cuts_send cause place s h =
        let d = desk_at s.node place in
        cut_sends (disowned d.ahead (disowned d.main s.node.layer)) (is_reset (state_in d.agent.phase)) place cause s.outbox
        (gives_up d.ahead (disowned d.main s.node.layer) s.outbox.packets (gives_up d.main s.node.layer s.outbox.packets h))

    left_sends : (l : Layer Purpose) (x : Option ℕ) (o : OutboxState) → P l o.packets → P l (tell_left x o).packets
    left_sends l None o h = h
    left_sends l (Some login) o h = h

    sends_by : (peer : ℕ) (r : Option Asked × Layer Purpose) (o : OutboxState) → P r.1 (with_asked peer r.0 o.packets) → P (sent_by r o peer).1.0 (sent_by r o peer).1.1.packets
    sends_by peer (Some asked, layer) o h = h
    sends_by peer (None, layer) o h = h

    request_sends : k.MayAsk → (s : Scene) (peer : ℕ) (body : Body) (purpose : Purpose) → Asks k body purpose → P s.node.layer s.outbox.packets → P (request_step s.node.layer s.outbox peer body purpose).1.0 (request_step s.node.layer s.outbox peer body purpose).1.1.packets
    unfolding request_step
    request_sends q s peer body purpose a h =
        sends_by peer (asking_step s.node.layer peer body purpose) s.outbox (f.asks_for q s.node.layer s.outbox.packets peer body purpose a h)

    abbrev AtScene : Scene → Type 0
    AtScene s = P s.node.layer s.outbox.packets

    main_sends : (place peer : ℕ) (node : NodeState) (r : Option LabelParts × (Layer Purpose × OutboxState)) → P r.1.0 r.1.1.packets → AtScene (main_sent place peer node r).1
    main_sends place peer node (Some label, (layer, outbox)) h = h
    main_sends place peer node (None, (layer, outbox)) h = h

    ahead_sends : (place peer : ℕ) (node : NodeState) (r : Option LabelParts × (Layer Purpose × OutboxState)) → P r.1.0 r.1.1.packets → AtScene (ahead_sent place peer node r).1
    ahead_sends place peer node (Some label, (layer, outbox)) h = h
    ahead_sends place peer node (None, (layer, outbox)) h = h

    disc_sends : (place peer : ℕ) (node : NodeState) (r : Option LabelParts × (Layer Purpose × OutboxState)) → P r.1.0 r.1.1.packets → AtScene (unsolicited_by place peer node r)
    disc_sends place peer node (Some label, (layer, outbox)) h = h
    disc_sends place peer node (None, (layer, outbox)) h = h

    behind_sends : k.MayAsk → (place : ℕ) (login : Login) (x y : Scene) → Behind place login x y → P x.node.layer x.outbox.packets → P y.node.layer y.outbox.packets
    behind_sends q place login _ _ (moves.loses which s e) h =
        let r = lost_step (desk_at s.node place).agent which causes.Label in notes_send place r.0 (scene (with_agent s.node place r.1) s.outbox) h
    behind_sends q place login _ _ (moves.asks_main ask b body s e) h =
        let a = moves.by_agent place ask b login.fifo (desk_at s.node place).agent.outgoing body e in
        main_sends place login.node s.node _ (request_sends q s login.node body (purposes.Agent place) a h)
    behind_sends q place login _ _ (moves.asks_ahead ask body s e) h =
        let a = moves.by_agent place ask false login.fifo (desk_at s.node place).agent.outgoing body e in
        ahead_sends place login.node s.node _ (request_sends q s login.node body (purposes.Agent place) a h)

    announced_sends : k.MayAsk → (unit from : ℕ) (x y : Scene) → Announced unit from x y → P x.node.layer x.outbox.packets → P y.node.layer y.outbox.packets
    announced_sends q unit from _ _ (moves.pushes place login s e) h =
        disc_sends place login.node s.node _ (request_sends q s login.node (block_write login.fifo block) purposes.Unsolicited (moves.by_disc login.fifo) h)
    announced_sends q unit from _ _ (moves.withholds place login s e) h = h

    move_sends : (x y : Scene) → Move k x y → P x.node.layer x.outbox.packets → P y.node.layer y.outbox.packets
    unfolding clear_unit answer_step replied
    move_sends _ _ (moves.notes place step s g) h = notes_send place step s h
    move_sends _ _ (moves.lapses place which s l) h =
        let r = expired_desk which (desk_at s.node place) in notes_send place r.0 (scene (with_desk s.node place r.1) s.outbox) h
    move_sends _ _ (moves.follows place login x y l q m) h = behind_sends q place login x y m h
    move_sends _ _ (moves.replies told place unit which answer disks s a) h = h
    move_sends _ _ (moves.cuts cause place s c) h = cuts_send cause place s h
    move_sends _ _ (moves.opens place pointer ask desk s t e) h = h
    move_sends _ _ (moves.refuses place pointer refusal desk s e) h = h
    move_sends _ _ (moves.rings place s) h = h
    move_sends _ _ (moves.enables place s) h = h
    move_sends _ _ (moves.comes unit place s a) h = h
    move_sends _ _ (moves.announces unit from x y q t m) h = announced_sends q unit from x y m h
    move_sends _ _ (moves.settles peer s) h = h
    move_sends _ _ (moves.starts source orb s t) h = h
    move_sends _ _ (moves.decides answer s a) h = h
    move_sends _ _ (moves.gives_up s t) h = h
    move_sends _ _ (moves.stops s t) h = h
    move_sends _ _ (moves.asks_for source ask body s q t e) h = request_sends q s source body purposes.Management (moves.by_manager ask s.node.manager.outgoing body t e) h
    move_sends _ _ (moves.enters place replaced s a) h = left_sends s.node.layer replaced s.outbox h
    move_sends _ _ (moves.leaves place login s a) h = h
    move_sends _ _ (moves.aborts place orb s) h = h
    move_sends _ _ (moves.clears unit s a) h = h
    move_sends _ _ (moves.judges generation bytes s t) h = f.judges t s.node.layer s.outbox.packets generation bytes h
    move_sends _ _ (moves.expires peer label s t) h = f.expires t s.node.layer s.outbox.packets peer label h
    move_sends _ _ (moves.sees generation id s t) h = f.sees t s.node.layer s.outbox.packets generation id h
    move_sends _ _ (moves.answers p bytes rcode given s t) h = f.answers t s.node.layer s.outbox.packets p bytes rcode given h
    move_sends _ _ (moves.tells side s t i) h = h
    move_sends _ _ (moves.rests s a) h = h
    move_sends _ _ (moves.ages s a) h = h

    pub packets_kept : (x y : Scene) → Moves k x y → P x.node.layer x.outbox.packets → P y.node.layer y.outbox.packets
    packets_kept x y m h = kept (Move k) AtScene move_sends x y m h

  -- ---- the node
  same : (x y : NodeState) → y.rom ≡ x.rom → y.keys ≡ x.keys → y.units ≡ x.units → y.logins ≡ x.logins → y.manager ≡ x.manager → Leaves k x y
  same x y e f g h i = record { rom = e; keys = f; count = ap length g; units_are = λ n. g; logins = λ n. h; manager = λ n o. i }

  changes : (x y : NodeState) → y.rom ≡ x.rom → y.keys ≡ x.keys → length y.units ≡ length x.units → y.logins ≡ x.logins → y.manager ≡ x.manager → k.MayChange → Leaves k x y
  changes x y e f g h i a = record { rom = e; keys = f; count = g; units_are = λ n. absurd (n a); logins = λ n. h; manager = λ n o. i }

  decides : (x y : NodeState) → y.rom ≡ x.rom → y.keys ≡ x.keys → y.units ≡ x.units → k.MayDecide → Leaves k x y
  decides x y e f g a = record { rom = e; keys = f; count = ap length g; units_are = λ n. g; logins = λ n. absurd (n a); manager = λ n o. absurd (o a) }

  manages : (x y : NodeState) → y.rom ≡ x.rom → y.keys ≡ x.keys → y.units ≡ x.units → y.logins ≡ x.logins → k.MayManage → Leaves k x y
  manages x y e f g h a = record { rom = e; keys = f; count = ap length g; units_are = λ n. g; logins = λ n. h; manager = λ n o. absurd (n a) }

  then : (x y z : NodeState) → Leaves k x y → Leaves k y z → Leaves k x z
  then x y z h i = record {
    rom = i.rom ∙ h.rom;
    keys = i.keys ∙ h.keys;
    count = i.count ∙ h.count;
    units_are = λ n. i.units_are n ∙ h.units_are n;
    logins = λ n. i.logins n ∙ h.logins n;
    manager = λ n o. i.manager n o ∙ h.manager n o;
  }

  dropped_leaves : (x : Option FailCause) (place : ℕ) (node : NodeState) → Leaves k node (dropped_by x place node)
  unfolding without_ahead
  dropped_leaves None place node = same node node refl refl refl refl refl
  dropped_leaves (Some cause) place node = same node _ refl refl refl refl refl

  promoted_leaves : (b : Bool) (place : ℕ) (node : NodeState) → Leaves k node (promoted_by b place node)
  promoted_leaves false place node = same node node refl refl refl refl refl
  promoted_leaves true place node = same node _ refl refl refl refl refl

  notes_leave : (place : ℕ) (step : AgentStep) (s : Scene) → Leaves k s.node (noted place step s).node
  unfolding noted
  notes_leave place step s =
      let d = dropped_by step.dead place s.node in then s.node d _ (dropped_leaves step.dead place s.node) (promoted_leaves step.promoted place d)

  main_leaves : (place peer : ℕ) (node : NodeState) (r : Option LabelParts × (Layer Purpose × OutboxState)) → Leaves k node (main_sent place peer node r).1.node
  main_leaves place peer node (Some label, (layer, outbox)) = same node _ refl refl refl refl refl
  main_leaves place peer node (None, (layer, outbox)) = same node _ refl refl refl refl refl

  ahead_leaves : (place peer : ℕ) (node : NodeState) (r : Option LabelParts × (Layer Purpose × OutboxState)) → Leaves k node (ahead_sent place peer node r).1.node
  ahead_leaves place peer node (Some label, (layer, outbox)) = same node _ refl refl refl refl refl
  ahead_leaves place peer node (None, (layer, outbox)) = same node _ refl refl refl refl refl

  disc_leaves : (place peer : ℕ) (node : NodeState) (r : Option LabelParts × (Layer Purpose × OutboxState)) → Leaves k node (unsolicited_by place peer node r).node
  disc_leaves place peer node (Some label, (layer, outbox)) = same node _ refl refl refl refl refl
  disc_leaves place peer node (None, (layer, outbox)) = same node _ refl refl refl refl refl

  behind_leaves : (place : ℕ) (login : Login) (x y : Scene) → Behind place login x y → Leaves k x.node y.node
  behind_leaves place login _ _ (moves.loses which s e) =
      let r = lost_step (desk_at s.node place).agent which causes.Label in
      let n = with_agent s.node place r.1 in then s.node n _ (same s.node n refl refl refl refl refl) (notes_leave place r.0 (scene n s.outbox))
  behind_leaves place login _ _ (moves.asks_main ask b body s e) = main_leaves place login.node s.node (request_step s.node.layer s.outbox login.node body (purposes.Agent place))
  behind_leaves place login _ _ (moves.asks_ahead ask body s e) = ahead_leaves place login.node s.node (request_step s.node.layer s.outbox login.node body (purposes.Agent place))

  announced_leaves : (unit from : ℕ) (x y : Scene) → Announced unit from x y → Leaves k x.node y.node
  announced_leaves unit from _ _ (moves.pushes place login s e) =
      disc_leaves place login.node s.node (request_step s.node.layer s.outbox login.node (block_write login.fifo block) purposes.Unsolicited)
  announced_leaves unit from _ _ (moves.withholds place login s e) = same s.node s.node refl refl refl refl refl

  move_leaves : (x y : Scene) → Move k x y → Leaves k x.node y.node
  unfolding cut clear_unit answer_step replied
  move_leaves _ _ (moves.notes place step s g) = notes_leave place step s
  move_leaves _ _ (moves.lapses place which s l) =
      let r = expired_desk which (desk_at s.node place) in
      let n = with_desk s.node place r.1 in then s.node n _ (same s.node n refl refl refl refl refl) (notes_leave place r.0 (scene n s.outbox))
  move_leaves _ _ (moves.follows place login x y l q m) = behind_leaves place login x y m
  move_leaves _ _ (moves.replies told place unit which answer disks s a) = changes s.node _ refl refl (length-set s.node.units unit _) refl refl a
  move_leaves _ _ (moves.cuts cause place s c) = same s.node _ refl refl refl refl refl
  move_leaves _ _ (moves.opens place pointer ask desk s t e) = same s.node _ refl refl refl refl refl
  move_leaves _ _ (moves.refuses place pointer refusal desk s e) = same s.node _ refl refl refl refl refl
  move_leaves _ _ (moves.rings place s) = same s.node _ refl refl refl refl refl
  move_leaves _ _ (moves.enables place s) = same s.node _ refl refl refl refl refl
  move_leaves _ _ (moves.comes unit place s a) = changes s.node _ refl refl (length-set s.node.units unit _) refl refl a
  move_leaves _ _ (moves.announces unit from x y q t m) = announced_leaves unit from x y m
  move_leaves _ _ (moves.settles peer s) = same s.node _ refl refl refl refl refl
  move_leaves _ _ (moves.starts source orb s a) = manages s.node _ refl refl refl refl a
  move_leaves _ _ (moves.decides answer s a) = decides s.node _ refl refl refl a
  move_leaves _ _ (moves.gives_up s a) = manages s.node _ refl refl refl (lost_logins s.node.manager s.node.logins s.node.keys) a
  move_leaves _ _ (moves.stops s a) = decides s.node _ refl refl refl a
  move_leaves _ _ (moves.asks_for source ask body s q a e) = same s.node _ refl refl refl refl refl
  move_leaves _ _ (moves.enters place replaced s a) = same s.node _ refl refl refl refl refl
  move_leaves _ _ (moves.leaves place login s a) = same s.node _ refl refl refl refl refl
  move_leaves _ _ (moves.aborts place orb s) = same s.node _ refl refl refl refl refl
  move_leaves _ _ (moves.clears unit s a) = changes s.node _ refl refl (length-set s.node.units unit _) refl refl a
  move_leaves _ _ (moves.judges generation bytes s t) = same s.node _ refl refl refl refl refl
  move_leaves _ _ (moves.expires peer label s t) = same s.node _ refl refl refl refl refl
  move_leaves _ _ (moves.sees generation id s t) = same s.node _ refl refl refl refl refl
  move_leaves _ _ (moves.answers p bytes rcode given s t) = same s.node _ refl refl refl refl refl
  move_leaves _ _ (moves.tells side s t i) = same s.node _ refl refl refl refl refl
  move_leaves _ _ (moves.rests s a) = decides s.node _ refl refl refl a
  move_leaves _ _ (moves.ages s a) = decides s.node _ refl refl refl a

  pub node_left : (x y : Scene) → Moves k x y → Leaves k x.node y.node
  node_left x y m = kept (Move k) (λ s. Leaves k x.node s.node) (λ s t n h. then x.node s.node t.node h (move_leaves s t n)) x y m (same x.node x.node refl refl refl refl refl)

-- ---- each call, where the steps that are asked for and lost fit
module _ (F : AgentStep → Type 0) (asked : (ask : Ask) → F (asks ask)) (lost : Lost (fitting F)) where
  abbrev may : MayAll (fitting F)
  may = record {
    end = record { act = record { lost = lost; asking = tt; cutting = tt }; announcing = tt; managing = tt; changing = tt; deciding = tt };
    asked = asked;
    answering = tt;
    turning = tt;
  }

  pub received_by : (told : Option Told) (generation : ℕ) (bytes : List ℕ) (w : Whole) → FitsCall (fitting F) told generation bytes w → Moves (fitting F) (scene_of w) (scene_of (received told generation bytes w).1)
  received_by told generation bytes w f = receive_moves (fitting F) (scene_of w) may told generation bytes w f (stay (scene_of w))

  pub expired_by : (peer : ℕ) (label : LabelParts) (s : Scene) → Moves (fitting F) s (expired peer label s).1
  expired_by peer label s = expire_moves (fitting F) s may peer label s (stay s)

  pub seen_by : (generation id : ℕ) (s : Scene) → Moves (fitting F) s (seen generation id s).1
  seen_by generation id s = see_moves (fitting F) s may generation id s (stay s)

  pub ticked_by : (s : Scene) → Moves (fitting F) s (ticked s)
  ticked_by s = tick_moves (fitting F) s tt s (stay s)

-- what ends a transaction and what a request does, where nothing is to be known of the steps
pub ends : MayEnd free
ends = record { act = record { lost = λ m which cause. tt; asking = tt; cutting = tt }; announcing = tt; managing = tt; changing = tt; deciding = tt }

pub acts : MayAct still
acts = record { lost = λ m which cause. tt; asking = tt; cutting = tt }

pub asked : (ask : Ask) → Unit {0}
asked ask = tt

-- where nothing is to be known of them
pub receives : (told : Option Told) (generation : ℕ) (bytes : List ℕ) (w : Whole) → Moves free (scene_of w) (scene_of (received told generation bytes w).1)
receives told generation bytes w =
    let found = judging_step w.node.layer generation bytes in
    received_by (λ step. Unit {0}) (λ ask. tt) (λ m which cause. tt) told generation bytes w (fits_in free (λ run place unit which answer s. tt) told found.0 (with_layer found.1 w))

pub expires : (peer : ℕ) (label : LabelParts) (s : Scene) → Moves free s (expired peer label s).1
expires peer label s = expired_by (λ step. Unit {0}) (λ ask. tt) (λ m which cause. tt) peer label s

pub sees : (generation id : ℕ) (s : Scene) → Moves free s (seen generation id s).1
sees generation id s = seen_by (λ step. Unit {0}) (λ ask. tt) (λ m which cause. tt) generation id s

pub ticks : (s : Scene) → Moves free s (ticked s)
ticks s = ticked_by (λ step. Unit {0}) (λ ask. tt) (λ m which cause. tt) s
