-- Every call of a target is moves.
use Rattle.std.proofs.Common.{arith, ◌≡◌, refl, ℕ, zero, suc, ◌+◌, ◌<◌, ◌≤◌, nat_lt, is_some, Bool, true, false, cond, List, [], length, slice_index_or, Option, Some, None, Result, Ok, Err}
use Rattle.async_packet.specs.Labels.{LabelParts}
use Rattle.async_packet.specs.Packet.{Packet, header_in}
use Rattle.label_table.specs.declared.reply.Stale.{Stale}
use Rattle.label_table.specs.Bodies.{Body}
use Rattle.label_table.specs.Layer.{Finding, Layer, expiring_step, free_labels, judging_step, of_again, of_generation, of_grammar, of_label, of_request, of_response, seeing_step}
use Rattle.login_table.specs.declared.login.Login.{Login}
use Rattle.login_table.specs.Table.{is_live, place_at, tick_step}
use Rattle.mgmt_agent.specs.declared.decision.Decision.{Decision}
use Rattle.mgmt_agent.specs.declared.decision.Effect.{Effect}
use Rattle.mgmt_agent.specs.declared.decision.Effect.TheVariants as effects
use Rattle.mgmt_agent.specs.declared.operation.Busy.{Busy}
use Rattle.mgmt_agent.specs.Machine as management
use Rattle.orb_layout.specs.declared.ask.Ask.{Ask}
use Rattle.orb_layout.specs.declared.ask.FailCause.{FailCause}
use Rattle.orb_layout.specs.declared.ask.FailCause.TheVariants as causes
use Rattle.orb_layout.specs.declared.pointer.OrbPointer.{OrbPointer}
use Rattle.orb_layout.specs.Replies.{Answer, Expired, NoLabel}
use Rattle.rbc_disk.specs.Disk.{disk_at}
use Rattle.rbc_disk.specs.Runs.{Told}
use Rattle.command_agent.specs.declared.step.AgentStep.{AgentStep}
use Rattle.command_agent.specs.declared.step.PointRefusal.{PointRefusal}
use Rattle.command_agent.specs.declared.step.Which.{Which}
use Rattle.command_agent.specs.declared.step.Which.TheVariants.{Ahead, Main}
use Rattle.command_agent.specs.Machine.{is_under_way}
use Rattle.command_agent.specs.Steps.{asks, doorbell_step, lost_step}
use Rattle.sbp_journal.specs.declared.cause.CutCause.{CutCause}
use Rattle.sbp_journal.specs.declared.cause.CutCause.TheVariants as cuts
use Rattle.sbp_journal.specs.declared.cause.Judged.{Judged}
use Rattle.sbp_journal.specs.declared.side.Side.TheVariants as sides
use Rattle.sbp_journal.specs.Outgoings.{OutboxState}
use Rattle.target_base.specs.declared.address.Access.{Access}
use Rattle.target_base.specs.declared.address.Access.TheVariants as accesses
use Rattle.target_base.specs.declared.address.Demand.{Demand}
use Rattle.target_base.specs.declared.address.Demand.TheVariants as demands
use Rattle.target_base.specs.Addresses.{demand_of}
use Rattle.sbp_target.specs.declared.desk.Desk.{Desk}
use Rattle.sbp_target.specs.declared.purpose.Purpose.{Purpose}
use Rattle.sbp_target.specs.declared.purpose.Purpose.TheVariants as purposes
use Rattle.sbp_target.specs.Agents.{after_ahead, after_loss, after_main, ahead_asked, ask_main, cut, follow, lose, lose_main, lost_by, main_asked, noted, send_ahead}
use Rattle.sbp_target.specs.Desks.{expired_desk, point_desk, which_in}
use Rattle.sbp_target.specs.Management.{ask_manager, clear_one, cut_placed, decided_by, effect_by, failed_by, lose_operation, lost_in, manage, managed_in, manager_asked, manager_body, manager_sent, place_in, with_manager}
use Rattle.sbp_target.specs.Nodes.{Scene, scene, desk_at, login_at, with_agent, with_desk}
use Rattle.sbp_target.specs.Receiving.{answer_in, cleared_node, concluded, expire_agent, expired, expired_by, expired_from, expired_in, held_from, judged_scene, received, received_as, reset_by, seen, tell_held, ticked, timed_out, with_layer}
use Rattle.sbp_target.specs.Replies.{Stage, Whole, advance, advanced_with, agent_step, announced_by, came, changed_by, follow_all, replied, replied_by, replied_to, scene_of, served_login, stage}
use Rattle.sbp_target.specs.Sending.{request_step, with_side}
use Rattle.sbp_target.specs.Serving.{accessed_by, answered, asked_in, enabled, is_barred, point, pointed_by, request_step as served_step, ring, serve, served_as, start, started_by}
use Rattle.sbp_target.specs.Telling.{orb_of}
use Rattle.sbp_target.specs.Units.{announce_at, announce_from, announce_in, announce_to, clear_from, clear_unit, cut_all, cut_at, cut_from, hears, is_cut, is_pending}
use Rattle.sbp_target.specs.Histories.Moves.{Announced, Behind, Chain, FitsAt, FitsBy, FitsCall, FitsIn, Heard, Kind, Lost, MayAct, MayAll, MayEnd, Move, Moves, body_at, go_on, lost_at, pushing, sending_ahead, turned}
use Rattle.sbp_target.specs.Histories.Moves as moves

-- one of two scenes
pick : (M : Scene → Scene → Type 0) (z : Scene) (b : Bool) (x y : Scene) → Chain M z x → Chain M z y → Chain M z (cond b x y)
pick M z true x y h i = h
pick M z false x y h i = i

-- ---- what follows a step of an agent, behind what is told of it
module _ (M : Scene → Scene → Type 0) (place : ℕ) (login : Login) (by : (x y : Scene) → Behind place login x y → M x y) (z : Scene) where
  main_asks : (found : Option Body) (ask : Ask) (is_status : Bool) (s : Scene) → body_at place login ask is_status s ≡ found → Chain M z s → Chain M z (main_asked found place login s).1
  main_asks None ask is_status s e h = h
  main_asks (Some body) ask is_status s e h = go_on z s _ h (by s _ (moves.asks_main ask is_status body s e))

  asks_main : (step : AgentStep) (s : Scene) → Chain M z s → Chain M z (ask_main place login step s).1
  unfolding ask_main
  asks_main step s h = main_asks (body_at place login step.ask (is_some step.ended) s) step.ask (is_some step.ended) s refl h

  loses_if : (b : Bool) (which : Which) (s : Scene) → is_under_way which (desk_at s.node place).agent ≡ b → Chain M z s → Chain M z (lost_by b place login which s).1
  loses_if false which s e h = h
  loses_if true which s e h =
      let l = lost_step (desk_at s.node place).agent which causes.Label in
      let t = lost_at place which s in asks_main l.0 t (go_on z s t h (by s t (moves.loses which s e)))

  loses : (which : Which) (s : Scene) → Chain M z s → Chain M z (lose place login which s).1
  unfolding lose
  loses which s h = loses_if (is_under_way which (desk_at s.node place).agent) which s refl h

  ahead_if : (b : Bool) (body : Body) (ask : Ask) (s : Scene) → body_at place login ask false s ≡ Some body → Chain M z s → Chain M z (cond b (false, s) (sending_ahead place login body s)).1
  ahead_if true body ask s e h = h
  ahead_if false body ask s e h = go_on z s _ h (by s _ (moves.asks_ahead ask body s e))

  ahead_asks : (found : Option Body) (ask : Ask) (s : Scene) → body_at place login ask false s ≡ found → Chain M z s → Chain M z (ahead_asked found place login s).1
  ahead_asks None ask s e h = h
  ahead_asks (Some body) ask s e h = ahead_if (nat_lt (free_labels s.node.layer login.node) 16) body ask s e h

  sends_ahead : (ask : Ask) (s : Scene) → Chain M z s → Chain M z (send_ahead place login ask s).1
  unfolding send_ahead
  sends_ahead ask s h = ahead_asks (body_at place login ask false s) ask s refl h

  behind_ahead : (r : Bool × Scene) → Chain M z r.1 → Chain M z (after_ahead place login r)
  behind_ahead (true, s) h = h
  behind_ahead (false, s) h = loses Ahead s h

  behind_loss : (r : Bool × Scene) → Chain M z r.1 → Chain M z (after_loss place login r)
  behind_loss (true, s) h = h
  behind_loss (false, s) h = loses Main s h

  loses_main : (s : Scene) → Chain M z s → Chain M z (lose_main place login s)
  unfolding lose_main
  loses_main s h = behind_loss (lose place login Main s) (loses Main s h)

  behind_main : (step : AgentStep) (r : Bool × Scene) → Chain M z r.1 → Chain M z (after_main place login step r)
  behind_main step (true, s) h = behind_ahead (send_ahead place login step.ahead s) (sends_ahead step.ahead s h)
  behind_main step (false, s) h = loses_main s h

  pub behind_moves : (step : AgentStep) (s : Scene) → Chain M z (noted place step s) → Chain M z (follow place login step s)
  unfolding follow
  behind_moves step s h = let t = noted place step s in behind_main step (ask_main place login step t) (asks_main step t h)

-- ---- a disc
module _ (M : Scene → Scene → Type 0) (unit from : ℕ) (by : (x y : Scene) → Announced unit from x y → M x y) (z : Scene) where
  announces_to : (place : ℕ) (login : Login) (s : Scene) → Heard unit from place login s → Chain M z s → Chain M z (announce_to place login s)
  unfolding announce_to
  announces_to place login s e h =
      pick M z (is_pending login.node s.node.pending) (scene s.node (with_side s.outbox (sides.Unsent place))) (pushing place login s)
      (go_on z s _ h (by s _ (moves.withholds place login s e)))
      (go_on z s _ h (by s _ (moves.pushes place login s e)))

  announces_if : (b : Bool) (place : ℕ) (login : Login) (s : Scene) → place < 8 → login_at s.node place ≡ Some login → hears unit from place (desk_at s.node place) login ≡ b → Chain M z s → Chain M z (cond b (announce_to place login s) s)
  announces_if true place login s c e f h = announces_to place login s (record { small = c; is = e; heard = f }) h
  announces_if false place login s c e f h = h

  announces_in : (found : Option Login) (place : ℕ) (s : Scene) → place < 8 → login_at s.node place ≡ found → Chain M z s → Chain M z (announce_in unit from place found s)
  announces_in None place s c e h = h
  announces_in (Some login) place s c e h = announces_if (hears unit from place (desk_at s.node place) login) place login s c e refl h

  announces_at : (place : ℕ) (s : Scene) → place < 8 → Chain M z s → Chain M z (announce_at unit from place s)
  unfolding announce_at
  announces_at place s c h = announces_in (login_at s.node place) place s c refl h

  pub announce_from_moves : (left place : ℕ) (s : Scene) → left + place ≤ 8 → Chain M z s → Chain M z (announce_from left place unit from s)
  unfolding announce_from
  announce_from_moves zero place s c h = h
  announce_from_moves (suc left) place s c h = announce_from_moves left (place + 1) (announce_at unit from place s) (omega arith) (announces_at place s (omega arith) h)

  pub announced_moves : (b : Bool) (s : Scene) → Chain M z s → Chain M z (announced_by b unit from s)
  announced_moves false s h = h
  announced_moves true s h = announce_from_moves 8 0 s (omega arith) h

-- ---- lists are cut
module _ (M : Scene → Scene → Type 0) (by : (cause : CutCause) (place : ℕ) (s : Scene) → M s (cut cause place s)) (z : Scene) where
  cuts_one : (cause : CutCause) (unit : Option ℕ) (place : ℕ) (s : Scene) → Chain M z s → Chain M z (cut_at cause unit place s)
  unfolding cut_at
  cuts_one cause unit place s h = pick M z (is_cut unit (login_at s.node place)) (cut cause place s) s (go_on z s _ h (by cause place s)) h

  cuts_from : (left place : ℕ) (cause : CutCause) (unit : Option ℕ) (s : Scene) → Chain M z s → Chain M z (cut_from left place cause unit s)
  unfolding cut_from
  cuts_from zero place cause unit s h = h
  cuts_from (suc left) place cause unit s h = cuts_from left (place + 1) cause unit (cut_at cause unit place s) (cuts_one cause unit place s h)

  pub cut_all_moves : (cause : CutCause) (unit : Option ℕ) (s : Scene) → Chain M z s → Chain M z (cut_all cause unit s)
  cut_all_moves cause unit s h = cuts_from 8 0 cause unit s h

  pub cut_placed_moves : (place : Option ℕ) (cause : CutCause) (s : Scene) → Chain M z s → Chain M z (cut_placed place cause s)
  cut_placed_moves None cause s h = h
  cut_placed_moves (Some place) cause s h = go_on z s _ h (by cause place s)

module _ (k : Kind) (z : Scene) where
  -- ---- a step of an agent, and a transaction of it that times out
  module _ (lost : Lost k) (ask : k.MayAsk) where
    behind : (place : ℕ) (login : Login) (step : AgentStep) (s : Scene) → Moves k z (noted place step s) → Moves k z (follow place login step s)
    behind place login step s h = behind_moves (Move k) place login (λ x y m. moves.follows place login x y lost ask m) z step s h

    pub follow_moves : (place : ℕ) (login : Login) (step : AgentStep) (s : Scene) → k.Fits step → Moves k z s → Moves k z (follow place login step s)
    follow_moves place login step s f h = behind place login step s (go_on z s _ h (moves.notes place step s f))

    expires_by : (place : ℕ) (login : Option Login) (which : Option Which) (s : Scene) → Moves k z s → Moves k z (expired_by place login which s)
    expires_by place (Some login) (Some which) s h =
        let r = expired_desk which (desk_at s.node place) in
        behind place login r.0 (scene (with_desk s.node place r.1) s.outbox) (go_on z s _ h (moves.lapses place which s lost))
    expires_by place None which s h = h
    expires_by place (Some login) None s h = h

    pub expire_agent_moves : (place peer : ℕ) (label : LabelParts) (s : Scene) → Moves k z s → Moves k z (expire_agent place peer label s)
    unfolding expire_agent
    expire_agent_moves place peer label s h = expires_by place (login_at s.node place) (which_in (desk_at s.node place) peer label) s h

  -- ---- units are reset
  module _ (change : k.MayChange) where
    clears : (unit : ℕ) (s : Scene) → Moves k z s → Moves k z (clear_unit unit s)
    clears unit s h = go_on z s _ h (moves.clears unit s change)

    pub clear_from_moves : (left unit : ℕ) (s : Scene) → Moves k z s → Moves k z (clear_from left unit s)
    unfolding clear_from
    clear_from_moves zero unit s h = h
    clear_from_moves (suc left) unit s h = clear_from_moves left (unit + 1) (clear_unit unit s) (clears unit s h)

    pub clear_one_moves : (unit : ℕ) (s : Scene) → Moves k z s → Moves k z (clear_one unit s)
    clear_one_moves unit s h = pick (Move k) z (nat_lt unit (length s.node.units)) (clear_unit unit s) s (clears unit s h) h

  -- ---- a decision, and a reset
  module _ (may : k.MayCut) (decide : k.MayDecide) where
    cuts_all : (cause : CutCause) (unit : Option ℕ) (s : Scene) → Moves k z s → Moves k z (cut_all cause unit s)
    cuts_all cause unit s h = cut_all_moves (Move k) (λ c place t. moves.cuts c place t may) z cause unit s h

    cuts_placed : (place : Option ℕ) (cause : CutCause) (s : Scene) → Moves k z s → Moves k z (cut_placed place cause s)
    cuts_placed place cause s h = cut_placed_moves (Move k) (λ c at t. moves.cuts c at t may) z place cause s h

    module _ (change : k.MayChange) where
      affects : (effect : Effect) (login : ℕ) (s : Scene) → Moves k z s → Moves k z (effect_by effect login s)
      affects effects.Nothing login s h = h
      affects (effects.Entered place replaced) login s h = go_on z s _ h (moves.enters place replaced s decide)
      affects (effects.Back place) login s h = go_on z s _ h (moves.tells (sides.Back login) s (moves.back login decide) tt)
      affects (effects.Left place) login s h =
          let t = cut_placed (place_in place) cuts.Logout s in go_on z t _ (cuts_placed (place_in place) cuts.Logout s h) (moves.leaves place login t decide)
      affects (effects.Abort place orb) login s h = go_on z s _ h (moves.aborts place orb s)
      affects (effects.AbortSet place) login s h = cuts_placed (place_in place) cuts.AbortSet s h
      affects (effects.UnitReset unit) login s h = clear_one_moves change unit (cut_all cuts.UnitReset (Some unit) s) (cuts_all cuts.UnitReset (Some unit) s h)
      affects effects.TargetReset login s h =
          let t = cut_all cuts.TargetReset None s in clear_from_moves change (length t.node.units) 0 t (cuts_all cuts.TargetReset None s h)

      pub decided_moves : (d : Option Decision) (effect : Effect) (source : ℕ) (s : Scene) → Moves k z s → Moves k z (decided_by d effect source s)
      unfolding decided_by
      decided_moves None effect source s h = h
      decided_moves (Some d) effect source s h =
          let t = effect_by effect d.subject s in
          go_on z t _ (affects effect d.subject s h) (moves.tells (sides.Managed source d.function d.subject d.status d.login) t (moves.managed source d.function d.subject d.status d.login decide) tt)

    -- a sight of a generation, behind that of the layer
    held_if : (b : Bool) (login : Login) (s : Scene) → Moves k z s → Moves k z (scene s.node (cond b (with_side s.outbox (sides.Held login.login)) s.outbox))
    held_if true login s h = go_on z s _ h (moves.tells (sides.Held login.login) s (moves.held login.login decide) tt)
    held_if false login s h = h

    held_one : (login : Option Login) (s : Scene) → Moves k z s → Moves k z (scene s.node (tell_held login s.outbox))
    held_one None s h = h
    held_one (Some login) s h = held_if (is_live login) login s h

    holds_from : (left place : ℕ) (places : List (Option Login)) (s : Scene) → Moves k z s → Moves k z (scene s.node (held_from left place places s.outbox))
    unfolding held_from
    holds_from zero place places s h = h
    holds_from (suc left) place places s h =
        holds_from left (place + 1) places (scene s.node (tell_held (place_at places place) s.outbox)) (held_one (place_at places place) s h)

    pub reset_moves : (r : Bool × Layer Purpose) (s : Scene) → Moves k z (turned r.1 s) → Moves k z (reset_by r s).1
    reset_moves (false, layer) s h = h
    reset_moves (true, layer) s h =
        let u = scene (cleared_node layer s.node) s.outbox in
        let t = cut_all cuts.Reset None u in
        go_on z (scene t.node (held_from 8 0 t.node.logins.places t.outbox)) _
        (holds_from 8 0 t.node.logins.places t (cuts_all cuts.Reset None u (go_on z (turned layer s) u h (moves.stops (turned layer s) decide))))
        (moves.rests (scene t.node (held_from 8 0 t.node.logins.places t.outbox)) decide)

  -- ---- a second
  module _ (decide : k.MayDecide) where
    lapses_from : (left at : ℕ) (logins : List ℕ) (s : Scene) → Moves k z s → Moves k z (scene s.node (expired_from left at logins s.outbox))
    unfolding expired_from
    lapses_from zero at logins s h = h
    lapses_from (suc left) at logins s h =
        let login = slice_index_or logins at 0 in
        lapses_from left (at + 1) logins (scene s.node (with_side s.outbox (sides.Expired login))) (go_on z s _ h (moves.tells (sides.Expired login) s (moves.lapsed login decide) tt))

    pub tick_moves : (s : Scene) → Moves k z s → Moves k z (ticked s)
    unfolding ticked
    tick_moves s h =
        let r = tick_step s.node.logins in
        lapses_from (length r.0) 0 r.0 (scene (record s.node { logins = r.1 }) s.outbox) (go_on z s _ h (moves.ages s decide))

  -- ---- the management agent asks
  module _ (ask : k.MayAsk) (manage : k.MayManage) where
    fails : (source : ℕ) (x : Option FailCause) (s : Scene) → Moves k z s → Moves k z (failed_by source x s)
    fails source None s h = h
    fails source (Some cause) s h = go_on z s _ h (moves.tells (sides.ManageFailed source cause) s (moves.failed source cause manage) tt)

    loses_in : (source : Option ℕ) (s : Scene) → Moves k z s → Moves k z (lost_in source s)
    loses_in None s h = h
    loses_in (Some source) s h =
        let r = management.reply_step s.node.manager s.node.logins s.node.keys NoLabel in
        fails source r.0.failed (scene (with_manager s.node r.1) s.outbox) (go_on z s _ h (moves.gives_up s manage))

    loses_operation : (s : Scene) → Moves k z s → Moves k z (lose_operation s)
    unfolding lose_operation
    loses_operation s h = loses_in (management.source_in s.node.manager.operation) s h

    manager_leaves : (s : Scene) (r : Option LabelParts × (Layer Purpose × OutboxState)) → Moves k z (scene (record s.node { layer = r.1.0 }) r.1.1) → Moves k z (manager_sent s.node r)
    manager_leaves s (Some label, (layer, outbox)) h = h
    manager_leaves s (None, (layer, outbox)) h = loses_operation (scene (record s.node { layer = layer }) outbox) h

    manager_asks : (found : Option Body) (source : ℕ) (asked : Ask) (s : Scene) → manager_body asked s.node.manager.outgoing ≡ found → Moves k z s → Moves k z (manager_asked found source s)
    manager_asks None source asked s e h = h
    manager_asks (Some body) source asked s e h =
        manager_leaves s (request_step s.node.layer s.outbox source body purposes.Management) (go_on z s _ h (moves.asks_for source asked body s ask manage e))

    pub ask_manager_moves : (source : ℕ) (asked : Ask) (s : Scene) → Moves k z s → Moves k z (ask_manager source asked s)
    unfolding ask_manager
    ask_manager_moves source asked s h = manager_asks (manager_body asked s.node.manager.outgoing) source asked s refl h

  -- ---- a reply to an agent
  module _ (may : MayAct k) (announce : k.MayAnnounce) (change : k.MayChange) where
    changes : (b : Bool) (unit place : ℕ) (s : Scene) → Moves k z s → Moves k z (scene (changed_by b unit place s.node) s.outbox)
    changes false unit place s h = h
    changes true unit place s h = go_on z s _ h (moves.comes unit place s change)

    follows_all : (b : Bool) (place : ℕ) (login : Login) (step : AgentStep) (s : Scene) → k.Fits step → Moves k z s → Moves k z (follow_all b place login step s)
    unfolding follow_all
    follows_all b place login step s f h =
        let t = scene (changed_by b login.unit place s.node) s.outbox in
        announced_moves (Move k) login.unit place (λ x y m. moves.announces login.unit place x y may.asking announce m) z b (follow place login step t)
        (follow_moves may.lost may.asking place login step t f (changes b login.unit place s h))

    advances_with : (place : ℕ) (login : Login) (r : AgentStep × Stage) (w : Whole) → k.Fits r.0 → Moves k z (scene r.1.node w.outbox) → Moves k z (scene_of (advanced_with place login r w))
    advances_with place login (step, st) w f h = follows_all (came (disk_at w.disks login.unit) (disk_at st.disks login.unit)) place login step (scene st.node w.outbox) f h

    replies_by : (told : Option Told) (place : ℕ) (answer : Answer) (login : Option Login) (which : Option Which) (w : Whole) → FitsBy k told place answer login which (stage w.node w.disks) → Moves k z (scene_of w) → Moves k z (scene_of (replied_by told place answer login which w))
    unfolding advance replied
    replies_by told place answer (Some login) (Some which) w f h =
        advances_with place login (replied told place login.unit which answer (stage w.node w.disks)) w f (go_on z (scene_of w) _ h (moves.replies told place login.unit which answer w.disks (scene_of w) change))
    replies_by told place answer None which w f h = h
    replies_by told place answer (Some login) None w f h = h

    pub replied_moves : (told : Option Told) (place peer : ℕ) (label : LabelParts) (answer : Answer) (w : Whole) → FitsAt k told (Some (purposes.Agent place)) peer label answer w → Moves k z (scene_of w) → Moves k z (scene_of (replied_to told place peer label answer w))
    unfolding replied_to
    replied_moves told place peer label answer w f h = replies_by told place answer (served_login w.node place) (which_in (desk_at w.node place) peer label) w f h

  -- ---- a request
  module _ (may : MayAct k) (asked : (ask : Ask) → k.Fits (asks ask)) (answer : k.MayAnswer) (p : Packet) (bytes : List ℕ) where
    answer_moves : (rcode : ℕ) (given : List ℕ) (s : Scene) → Moves k z s → Moves k z (answered p bytes rcode given s)
    answer_moves rcode given s h = go_on z s _ h (moves.answers p bytes rcode given s answer)

    asks_in : (place : ℕ) (ask : Ask) (login : Option Login) (s : Scene) → Moves k z s → Moves k z (asked_in place ask login s)
    asks_in place ask None s h = h
    asks_in place ask (Some login) s h = follow_moves may.lost may.asking place login (asks ask) s (asked ask) h

    points_by : (place : ℕ) (pointer : OrbPointer) (r : Result Ask PointRefusal × Desk) (s : Scene) → point_desk (desk_at s.node place) pointer ≡ r → Moves k z s → Moves k z (pointed_by place p bytes r s)
    points_by place pointer (Ok ask, desk) s e h =
        let t = scene (with_desk s.node place desk) (with_side s.outbox (sides.Opened place (orb_of desk.agent))) in
        let u = answered p bytes 0 [] t in
        asks_in place ask (login_at u.node place) u (answer_moves 0 [] t (go_on z s t h (moves.opens place pointer ask desk s answer e)))
    points_by place pointer (Err refusal, desk) s e h =
        answer_moves _ [] (scene (with_desk s.node place desk) s.outbox) (go_on z s _ h (moves.refuses place pointer refusal desk s e))

    points : (place : ℕ) (pointer : OrbPointer) (s : Scene) → Moves k z s → Moves k z (point place pointer p bytes s)
    unfolding point
    points place pointer s h = points_by place pointer (point_desk (desk_at s.node place) pointer) s refl h

    rings : (place : ℕ) (s : Scene) → Moves k z s → Moves k z (ring place p bytes s)
    unfolding ring
    rings place s h =
        let r = doorbell_step (desk_at s.node place).agent in
        let t = scene (with_agent s.node place r.1) s.outbox in
        let u = answered p bytes 0 [] t in
        asks_in place r.0 (login_at u.node place) u (answer_moves 0 [] t (go_on z s t h (moves.rings place s)))

    pub access_moves : (access : Access) (place : ℕ) (s : Scene) → Moves k z s → Moves k z (accessed_by access place p bytes s)
    access_moves accesses.State place s h = answer_moves 0 _ s h
    access_moves accesses.Reset place s h = answer_moves 0 [] (cut cuts.AgentReset place s) (go_on z s _ h (moves.cuts cuts.AgentReset place s may.cutting))
    access_moves (accesses.Point pointer) place s h = points place pointer s h
    access_moves accesses.Pointer place s h = answer_moves 0 _ s h
    access_moves accesses.Ring place s h = rings place s h
    access_moves accesses.Enable place s h = answer_moves 0 [] (enabled place s) (go_on z s _ h (moves.enables place s))

    module _ (manage : k.MayManage) where
      starts_by : (source : ℕ) (r : Result Ask Busy × management.Machine) (s : Scene) → Moves k z (scene (record s.node { manager = r.1 }) s.outbox) → Moves k z (started_by source p bytes r s)
      starts_by source (Ok ask, m) s h =
          let t = scene (record s.node { manager = m }) s.outbox in ask_manager_moves may.asking manage source ask (answered p bytes 0 [] t) (answer_moves 0 [] t h)
      starts_by source (Err busy, m) s h = answer_moves 4 [] (scene (record s.node { manager = m }) s.outbox) h

      pub start_moves : (orb : ℕ) (s : Scene) → Moves k z s → Moves k z (start orb p bytes s)
      unfolding start
      start_moves orb s h =
          let source = (header_in p).source in
          starts_by source (management.start_step s.node.manager source orb) s (go_on z s _ h (moves.starts source orb s manage))

      serves_as : (demand : Demand) (s : Scene) → Moves k z s → Moves k z (served_as demand p bytes s)
      serves_as (demands.Refused rcode) s h = answer_moves rcode [] s h
      serves_as (demands.Rom at len) s h = answer_moves 0 _ s h
      serves_as (demands.Manage orb) s h = start_moves orb s h
      serves_as (demands.Agent place access) s h = access_moves access place s h

      serves : (s : Scene) → Moves k z s → Moves k z (serve p bytes s)
      unfolding serve
      serves s h = serves_as (demand_of (length s.node.rom) p) s h

      pick_judged : (b : Bool) (x y : Judged × Scene) → Moves k z x.1 → Moves k z y.1 → Moves k z (cond b x y).1
      pick_judged true x y h i = h
      pick_judged false x y h i = i

      pub request_moves : (s : Scene) → Moves k z s → Moves k z (served_step p bytes s).1
      unfolding served_step
      request_moves s h = pick_judged (is_barred s.node p) _ _ (answer_moves 7 [] s h) (serves s h)

  -- ---- what came of a transaction
  module _ (may : MayEnd k) where
    manages_in : (source : Option ℕ) (answer : Answer) (s : Scene) → Moves k z s → Moves k z (managed_in source answer s)
    manages_in None answer s h = h
    manages_in (Some source) answer s h =
        let r = management.reply_step s.node.manager s.node.logins s.node.keys answer in
        let t = scene (with_manager s.node r.1) s.outbox in
        let u = decided_by r.0.decided r.0.effect source t in
        ask_manager_moves may.act.asking may.managing source r.0.ask (failed_by source r.0.failed u)
        (fails may.act.asking may.managing source r.0.failed u (decided_moves may.act.cutting may.deciding may.changing r.0.decided r.0.effect source t (go_on z s t h (moves.decides answer s may.deciding))))

    pub manage_moves : (answer : Answer) (s : Scene) → Moves k z s → Moves k z (manage answer s)
    unfolding manage
    manage_moves answer s h = manages_in (management.source_in s.node.manager.operation) answer s h

    pub concluded_moves : (told : Option Told) (purpose : Option Purpose) (peer : ℕ) (label : LabelParts) (answer : Answer) (w : Whole) → FitsAt k told purpose peer label answer w → Moves k z (scene_of w) → Moves k z (scene_of (concluded told purpose peer label answer w))
    unfolding concluded
    concluded_moves told None peer label answer w f h = h
    concluded_moves told (Some (purposes.Agent place)) peer label answer w f h = replied_moves may.act may.announcing may.changing told place peer label answer w f h
    concluded_moves told (Some purposes.Management) peer label answer w f h = manage_moves answer (scene_of w) h
    concluded_moves told (Some purposes.Unsolicited) peer label answer w f h = go_on z (scene_of w) _ h (moves.settles peer (scene_of w))

    times_out : (purpose : Option Purpose) (peer : ℕ) (label : LabelParts) (s : Scene) → Moves k z s → Moves k z (timed_out purpose peer label s)
    times_out None peer label s h = h
    times_out (Some (purposes.Agent place)) peer label s h = expire_agent_moves may.act.lost may.act.asking place peer label s h
    times_out (Some purposes.Management) peer label s h = manage_moves Expired s h
    times_out (Some purposes.Unsolicited) peer label s h = h

    pub expired_in_moves : (r : Result (Option Purpose) Stale × Layer Purpose) (peer : ℕ) (label : LabelParts) (s : Scene) → Moves k z (turned r.1 s) → Moves k z (expired_in r peer label s).1
    expired_in_moves (Ok purpose, layer) peer label s h = times_out purpose peer label (turned layer s) h
    expired_in_moves (Err stale, layer) peer label s h = h

  -- ---- each call
  module _ (may : MayAll k) where
    scene_moves : (r : Judged × Scene) (w : Whole) → Moves k z r.1 → Moves k z (scene_of (judged_scene r w).1)
    scene_moves (judged, s) w h = h

    receives_as : (told : Option Told) (bytes : List ℕ) (found : Finding Purpose) (w : Whole) → FitsIn k told found w → Moves k z (scene_of w) → Moves k z (scene_of (received_as told bytes found w).1)
    receives_as told bytes of_generation w f h = h
    receives_as told bytes of_grammar w f h = h
    receives_as told bytes of_label w f h = h
    receives_as told bytes (of_response p label purpose) w f h = concluded_moves may.end told purpose (header_in p).source label (answer_in p) w f h
    receives_as told bytes (of_again p rcode) w f h = answer_moves may.end.act may.asked may.answering p bytes rcode [] (scene_of w) h
    receives_as told bytes (of_request p) w f h = scene_moves (served_step p bytes (scene_of w)) w (request_moves may.end.act may.asked may.answering p bytes may.end.managing (scene_of w) h)

    pub receive_moves : (told : Option Told) (generation : ℕ) (bytes : List ℕ) (w : Whole) → FitsCall k told generation bytes w → Moves k z (scene_of w) → Moves k z (scene_of (received told generation bytes w).1)
    unfolding received
    receive_moves told generation bytes w f h =
        let found = judging_step w.node.layer generation bytes in
        receives_as told bytes found.0 (with_layer found.1 w) f (go_on z (scene_of w) _ h (moves.judges generation bytes (scene_of w) may.turning))

    pub expire_moves : (peer : ℕ) (label : LabelParts) (s : Scene) → Moves k z s → Moves k z (expired peer label s).1
    unfolding expired
    expire_moves peer label s h = expired_in_moves may.end (expiring_step s.node.layer peer label) peer label s (go_on z s _ h (moves.expires peer label s may.turning))

    pub see_moves : (generation id : ℕ) (s : Scene) → Moves k z s → Moves k z (seen generation id s).1
    unfolding seen
    see_moves generation id s h = reset_moves may.end.act.cutting may.end.deciding (seeing_step s.node.layer generation id) s (go_on z s _ h (moves.sees generation id s may.turning))

-- ---- the step of a delivery fits where those of all replies do
module _ (k : Kind) (all : (told : Option Told) (place unit : ℕ) (which : Which) (answer : Answer) (s : Stage) → k.Fits (agent_step told place unit which answer s).0) where
  fits_by : (told : Option Told) (place : ℕ) (answer : Answer) (login : Option Login) (which : Option Which) (s : Stage) → FitsBy k told place answer login which s
  fits_by told place answer (Some login) (Some which) s = all told place login.unit which answer s
  fits_by told place answer None which s = tt
  fits_by told place answer (Some login) None s = tt

  pub fits_at : (told : Option Told) (purpose : Option Purpose) (peer : ℕ) (label : LabelParts) (answer : Answer) (w : Whole) → FitsAt k told purpose peer label answer w
  fits_at told (Some (purposes.Agent place)) peer label answer w = fits_by told place answer (served_login w.node place) (which_in (desk_at w.node place) peer label) (stage w.node w.disks)
  fits_at told (Some purposes.Management) peer label answer w = tt
  fits_at told (Some purposes.Unsolicited) peer label answer w = tt
  fits_at told None peer label answer w = tt

  pub fits_in : (told : Option Told) (found : Finding Purpose) (w : Whole) → FitsIn k told found w
  fits_in told (of_response p label purpose) w = fits_at told purpose (header_in p).source label (answer_in p) w
  fits_in told of_generation w = tt
  fits_in told of_grammar w = tt
  fits_in told of_label w = tt
  fits_in told (of_again p rcode) w = tt
  fits_in told (of_request p) w = tt
