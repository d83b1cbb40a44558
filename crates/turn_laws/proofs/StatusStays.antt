-- While a call of the target goes on, its unsolicited statuses stay under way as they are: what it gives up is an agent's, and what an agent or the operation asks for is none of them. The
-- nodes that one is under way to are the same until a disc comes.
use Rattle.std.proofs.Common.{◌≡◌, ◌≢◌, ◌∙◌, refl, sym, ap, subst, ℕ, zero, suc, ◌+◌, nat_lt, is_some, Bool, true, false, cond, List, [], ◌∷◌, length, Option, Some, None}
use Rattle.std.specs.Prelude.{slice_index_or, slice_set}
use Rattle.std.proofs.lemmas.Option.{same_Some}
use Rattle.async_packet.specs.Labels.{LabelParts}
use Rattle.async_packet.specs.Packet.{Packet}
use Rattle.command_agent.specs.Machine.{Machine, is_under_way}
use Rattle.command_agent.specs.Steps.{lost_step}
use Rattle.command_agent.specs.Steps as steps
use Rattle.command_agent.specs.declared.step.AgentStep.{AgentStep}
use Rattle.command_agent.specs.declared.step.Which.{Which}
use Rattle.command_agent.specs.declared.step.Which.TheVariants.{Ahead, Main}
use Rattle.label_table.specs.Bodies.{Body}
use Rattle.label_table.specs.History as wire
use Rattle.label_table.specs.History.{Life, for_nobody, is_same, not_begun, under_way}
use Rattle.label_table.specs.Layer.{Layer, answering_step, asking_step, free_labels}
use Rattle.label_table.specs.declared.judgement.Asked.{Asked}
use Rattle.label_table.specs.declared.reply.ReplyKind.{ReplyKind}
use Rattle.login_table.specs.Table.{Table}
use Rattle.login_table.specs.declared.login.Login.{Login}
use Rattle.mgmt_agent.specs.Machine as management
use Rattle.mgmt_agent.specs.declared.decision.Decision.{Decision}
use Rattle.mgmt_agent.specs.declared.decision.Effect.{Effect}
use Rattle.mgmt_agent.specs.declared.decision.Effect.TheVariants as effects
use Rattle.mgmt_agent.specs.declared.decision.ManagerStep.{ManagerStep}
use Rattle.orb_layout.specs.Replies.{Answer, NoLabel}
use Rattle.orb_layout.specs.declared.ask.Ask.{Ask}
use Rattle.orb_layout.specs.declared.ask.FailCause.{FailCause}
use Rattle.orb_layout.specs.declared.ask.FailCause.TheVariants as causes
use Rattle.sbp_journal.specs.declared.cause.CutCause.{CutCause}
use Rattle.sbp_journal.specs.declared.cause.CutCause.TheVariants as cuts
use Rattle.sbp_target.specs.Agents.{after_ahead, after_loss, after_main, agent_body, ahead_asked, ahead_sent, ask_main, cut, disowned, dropped_by, follow, lose, lose_main, lost_by, main_asked, main_sent, noted, promoted_by, send_ahead, sent_to, without_ahead}
use Rattle.sbp_target.specs.Desks.{new_desk, reset_desk}
use Rattle.sbp_target.specs.Management.{ask_manager, clear_one, cut_placed, decided_by, effect_by, lose_operation, lost_in, manage, managed_in, managed_with, manager_asked, manager_body, manager_lost, manager_sent, place_in, tell_failed, with_manager}
use Rattle.sbp_target.specs.Nodes.{NodeState, Scene, desk_at, login_at, scene, with_agent, with_desk}
use Rattle.sbp_target.specs.Sending.{request_step, sent_by}
use Rattle.sbp_target.specs.Units.{clear_from, clear_unit, cut_all, cut_at, cut_from, is_cut}
use Rattle.sbp_target.specs.declared.desk.Desk.{Desk}
use Rattle.sbp_target.specs.declared.purpose.Purpose.{Purpose}
use Rattle.sbp_target.specs.declared.purpose.Purpose.TheVariants as purposes
use Rattle.sbp_target.specs.declared.purpose.Sent.{Sent}
use Rattle.sbp_target.proofs.Histories.Calling.{answer_known}
use Rattle.sbp_target.proofs.Histories.Primitives.{Known, asks_known, began_off, disowned_off, disowns_known, live_on, nobody_is, none_known}
use Rattle.sbp_target.proofs.Histories.Seats.{Lives, OffOne, same_is, split}

-- ---- the transactions
abbrev pub IsStatus : Lives → ℕ → LabelParts → ReplyKind → Type 0
IsStatus lives peer label kind = lives peer label ≡ under_way kind (Some purposes.Unsolicited)

agent_no : (place : ℕ) → purposes.Agent place ≢ purposes.Unsolicited
agent_no place e = cc

manager_no : purposes.Management ≢ purposes.Unsolicited
manager_no e = cc

pub not_under : {kind : ReplyKind} {purpose : Option Purpose} → not_begun ≡ under_way kind purpose → ⊥
not_under e = cc

-- what is under way, whoever it is for
pub record IsLive (life : Life Purpose) : Type 0 where
  pub kind : ReplyKind
  pub purpose : Option Purpose
  pub is : life ≡ under_way kind purpose

pub live_left : (b : Bool) (life : Life Purpose) → IsLive life → IsLive (cond b (for_nobody life) life)
live_left true life h = record { kind = h.kind; purpose = None; is = ap for_nobody h.is }
live_left false life h = h

pub live_began : (b : Bool) (kind : ReplyKind) (purpose : Purpose) (life : Life Purpose) → IsLive life → IsLive (cond b (under_way kind (Some purpose)) life)
live_began true kind purpose life h = record { kind = kind; purpose = Some purpose; is = refl }
live_began false kind purpose life h = h

pub left_if : (b : Bool) (kind : ReplyKind) (life : Life Purpose) → cond b (for_nobody life) life ≡ under_way kind (Some purposes.Unsolicited) → life ≡ under_way kind (Some purposes.Unsolicited)
left_if true kind life e = absurd (nobody_is life purposes.Unsolicited kind e)
left_if false kind life e = e

began_if : (b : Bool) (own kind : ReplyKind) (purpose : Purpose) (life : Life Purpose) → purpose ≢ purposes.Unsolicited → cond b (under_way own (Some purpose)) life ≡ under_way kind (Some purposes.Unsolicited) → life ≡ under_way kind (Some purposes.Unsolicited)
began_if true own kind purpose life n e = absurd (n (same e))
  where
    same : under_way own (Some purpose) ≡ under_way kind (Some purposes.Unsolicited) → purpose ≡ purposes.Unsolicited
    same e = cc
began_if false own kind purpose life n e = e

-- the transaction of two names is one
pub same_life : (lives : Lives) (p : ℕ) (l : LabelParts) (q : ℕ) (m : LabelParts) → is_same p l q m ≡ true → lives p l ≡ lives q m
same_life lives p l q m e = let s = same_is p l q m e in let a = s.peer in let b = s.label in ap (λ (x : ℕ). lives x l) a ∙ ap (λ (x : LabelParts). lives q x) b

-- what is under way stays so where another transaction begins
pub life_stays : (old new : Lives) (peer : ℕ) (label : LabelParts) → OffOne peer label old new → old peer label ≡ not_begun → (p : ℕ) (l : LabelParts) (kind : ReplyKind) → IsStatus old p l kind → IsStatus new p l kind
life_stays old new peer label off fresh p l kind e =
    split (is_same peer label p l) (IsStatus new p l kind) (λ same. absurd (not_under (sym fresh ∙ (same_life old peer label p l same ∙ e)))) (λ other. off.off p l other ∙ e)

pub none_some : {A : Type 0} (x : Sent) → None ≡ Some x → A
none_some x e = absurd (let f : None ≡ Some x = e in cc)

set_each : (P : Desk → Type 0) (ds : List Desk) (k : ℕ) (x : Desk) → P x → ((p : ℕ) → P (slice_index_or ds p new_desk)) → (p : ℕ) → P (slice_index_or (slice_set ds k x) p new_desk)
set_each P [] k x h all p = all p
set_each P (d ∷ ds) zero x h all zero = h
set_each P (d ∷ ds) zero x h all (suc p) = all (suc p)
set_each P (d ∷ ds) (suc k) x h all zero = all zero
set_each P (d ∷ ds) (suc k) x h all (suc p) = set_each P ds k x h (λ q. all (suc q)) p

module _ (old : Lives) where
  -- a transaction is no unsolicited status
  abbrev pub IsOther : Sent → Type 0
  IsOther x = (kind : ReplyKind) → IsStatus old x.peer x.label kind → ⊥

  -- a layer that has the same unsolicited statuses under way
  pub record Lines (layer : Layer Purpose) : Type 0 where
    pub lives : Lives
    pub known : Known layer lives
    pub stays : (peer : ℕ) (label : LabelParts) (kind : ReplyKind) → IsStatus old peer label kind → IsStatus lives peer label kind
    pub before : (peer : ℕ) (label : LabelParts) (kind : ReplyKind) → IsStatus lives peer label kind → IsStatus old peer label kind
    pub goes : (peer : ℕ) (label : LabelParts) → IsLive (old peer label) → IsLive (lives peer label)

  lines_disown : (sent : Option Sent) → ((x : Sent) → sent ≡ Some x → IsOther x) → (layer : Layer Purpose) → Lines layer → Lines (disowned sent layer)
  lines_disown None o layer f = f
  lines_disown (Some x) o layer f =
      let new = live_on (wire.disowned x.peer x.label) f.lives in
      let off = disowned_off x.peer x.label f.lives in
      record {
        lives = new;
        known = disowns_known layer f.lives x.peer x.label f.known;
        stays = λ p l kind s.
            split (is_same x.peer x.label p l) (IsStatus new p l kind)
            (λ same. absurd (o x refl kind (same_life old x.peer x.label p l same ∙ s)))
            (λ other. off.off p l other ∙ f.stays p l kind s);
        before = λ p l kind h. f.before p l kind (left_if (is_same x.peer x.label p l) kind (f.lives p l) h);
        goes = λ p l h. live_left (is_same x.peer x.label p l) (f.lives p l) (f.goes p l h);
      }

  lines_ask : (layer : Layer Purpose) (peer : ℕ) (body : Body) (purpose : Purpose) (r : Option Asked × Layer Purpose) → purpose ≢ purposes.Unsolicited → asking_step layer peer body purpose ≡ r → Lines layer → Lines r.1
  lines_ask layer peer body purpose (Some asked, now) n e f =
      let b = asks_known layer now f.lives peer body purpose asked f.known e in
      let new = live_on (wire.began peer asked.label b.kind purpose) f.lives in
      record {
        lives = new;
        known = b.known;
        stays = λ p l kind s. life_stays f.lives new peer asked.label (began_off peer asked.label b.kind purpose f.lives) b.fresh p l kind (f.stays p l kind s);
        before = λ p l kind h. f.before p l kind (began_if (is_same peer asked.label p l) b.kind kind purpose (f.lives p l) n h);
        goes = λ p l h. live_began (is_same peer asked.label p l) b.kind purpose (f.lives p l) (f.goes p l h);
      }
  lines_ask layer peer body purpose (None, now) n e f =
      record { lives = f.lives; known = none_known layer now f.lives peer body purpose f.known e; stays = f.stays; before = f.before; goes = f.goes }

  -- what begins is another transaction
  fresh_other : (layer : Layer Purpose) (peer : ℕ) (body : Body) (purpose : Purpose) (asked : Asked) (now : Layer Purpose) → asking_step layer peer body purpose ≡ (Some asked, now) → Lines layer → IsOther (sent_to peer asked.label)
  fresh_other layer peer body purpose asked now e f kind s =
      let b = asks_known layer now f.lives peer body purpose asked f.known e in not_under (sym b.fresh ∙ f.stays peer asked.label kind s)

  pub lines_answer : (layer : Layer Purpose) (p : Packet) (bytes : List ℕ) (rcode : ℕ) (given : List ℕ) → Lines layer → Lines (answering_step layer p bytes rcode given).1
  lines_answer layer p bytes rcode given f =
      record { lives = f.lives; known = answer_known layer f.lives p bytes rcode given f.known; stays = f.stays; before = f.before; goes = f.goes }

  -- ---- the node: what its desks wait for is no unsolicited status
  abbrev pub Seated : Desk → Type 0
  Seated d = ((x : Sent) → d.main ≡ Some x → IsOther x) × ((x : Sent) → d.ahead ≡ Some x → IsOther x)

  module _ (first : List ℕ) where
    pub record Still (node : NodeState) : Type 0 where
      pub lines : Lines node.layer
      pub seated : (place : ℕ) → Seated (desk_at node place)
      pub pending : node.pending ≡ first

    pub desk_set : (node : NodeState) (place : ℕ) (d : Desk) → Seated d → Still node → Still (with_desk node place d)
    desk_set node place d s h = record { lines = h.lines; seated = set_each Seated node.desks place d s h.seated; pending = h.pending }

    pub layer_set : (node : NodeState) (layer : Layer Purpose) → Lines layer → Still node → Still (record node { layer = layer })
    layer_set node layer l h = record { lines = l; seated = h.seated; pending = h.pending }

    none_of : (x : Sent) → None ≡ Some x → IsOther x
    none_of x e = none_some x e

    -- ---- an agent
    drops : (place : ℕ) (node : NodeState) → Still node → Still (without_ahead place node)
    unfolding without_ahead
    drops place node h =
        let d = desk_at node place in
        let s = h.seated place in
        desk_set (record node { layer = disowned d.ahead node.layer }) place (record d { ahead = None }) (s.0, none_of) (layer_set node (disowned d.ahead node.layer) (lines_disown d.ahead s.1 node.layer h.lines) h)

    dropped : (dead : Option FailCause) (place : ℕ) (node : NodeState) → Still node → Still (dropped_by dead place node)
    dropped None place node h = h
    dropped (Some cause) place node h = drops place node h

    promotes : (b : Bool) (place : ℕ) (node : NodeState) → Still node → Still (promoted_by b place node)
    promotes false place node h = h
    promotes true place node h = let d = desk_at node place in desk_set node place (record d { main = d.ahead; ahead = None }) ((h.seated place).1, none_of) h

    notes : (place : ℕ) (step : AgentStep) (s : Scene) → Still s.node → Still (noted place step s).node
    unfolding noted
    notes place step s h = promotes step.promoted place (dropped_by step.dead place s.node) (dropped step.dead place s.node h)

    pub agent_set : (place : ℕ) (m : Machine) (node : NodeState) → Still node → Still (with_agent node place m)
    agent_set place m node h = desk_set node place (record (desk_at node place) { agent = m }) (h.seated place) h

    main_out : (place peer : ℕ) (s : Scene) (body : Body) (r : Option Asked × Layer Purpose) → asking_step s.node.layer peer body (purposes.Agent place) ≡ r → Still s.node → Still (main_sent place peer s.node (sent_by r s.outbox peer)).1.node
    main_out place peer s body (None, layer) e h = layer_set s.node layer (lines_ask s.node.layer peer body (purposes.Agent place) (None, layer) (agent_no place) e h.lines) h
    main_out place peer s body (Some asked, layer) e h =
        let fresh = fresh_other s.node.layer peer body (purposes.Agent place) asked layer e h.lines in
        desk_set (record s.node { layer = layer }) place (record (desk_at s.node place) { main = Some (sent_to peer asked.label) })
        (λ x f. subst IsOther (same_Some (sent_to peer asked.label) x f) fresh, (h.seated place).1)
        (layer_set s.node layer (lines_ask s.node.layer peer body (purposes.Agent place) (Some asked, layer) (agent_no place) e h.lines) h)

    main_by : (body : Option Body) (place : ℕ) (login : Login) (s : Scene) → Still s.node → Still (main_asked body place login s).1.node
    unfolding request_step
    main_by None place login s h = h
    main_by (Some body) place login s h = main_out place login.node s body (asking_step s.node.layer login.node body (purposes.Agent place)) refl h

    asks_main : (place : ℕ) (login : Login) (step : AgentStep) (s : Scene) → Still s.node → Still (ask_main place login step s).1.node
    unfolding ask_main
    asks_main place login step s h = main_by (agent_body step.ask (is_some step.ended) login.fifo (desk_at s.node place).agent.outgoing) place login s h

    lost_if : (b : Bool) (place : ℕ) (login : Login) (which : Which) (s : Scene) → Still s.node → Still (lost_by b place login which s).1.node
    lost_if false place login which s h = h
    lost_if true place login which s h =
        let l = lost_step (desk_at s.node place).agent which causes.Label in
        let t = scene (with_agent s.node place l.1) s.outbox in
        asks_main place login l.0 (noted place l.0 t) (notes place l.0 t (agent_set place l.1 s.node h))

    loses : (place : ℕ) (login : Login) (which : Which) (s : Scene) → Still s.node → Still (lose place login which s).1.node
    unfolding lose
    loses place login which s h = lost_if (is_under_way which (desk_at s.node place).agent) place login which s h

    ahead_out : (place peer : ℕ) (s : Scene) (body : Body) (r : Option Asked × Layer Purpose) → asking_step s.node.layer peer body (purposes.Agent place) ≡ r → Still s.node → Still (ahead_sent place peer s.node (sent_by r s.outbox peer)).1.node
    ahead_out place peer s body (None, layer) e h = layer_set s.node layer (lines_ask s.node.layer peer body (purposes.Agent place) (None, layer) (agent_no place) e h.lines) h
    ahead_out place peer s body (Some asked, layer) e h =
        let fresh = fresh_other s.node.layer peer body (purposes.Agent place) asked layer e h.lines in
        desk_set (record s.node { layer = layer }) place (record (desk_at s.node place) { ahead = Some (sent_to peer asked.label) })
        ((h.seated place).0, λ x f. subst IsOther (same_Some (sent_to peer asked.label) x f) fresh)
        (layer_set s.node layer (lines_ask s.node.layer peer body (purposes.Agent place) (Some asked, layer) (agent_no place) e h.lines) h)

    ahead_if : (b : Bool) (body : Body) (place : ℕ) (login : Login) (s : Scene) → Still s.node → Still (cond b (false, s) (ahead_sent place login.node s.node (request_step s.node.layer s.outbox login.node body (purposes.Agent place)))).1.node
    unfolding request_step
    ahead_if true body place login s h = h
    ahead_if false body place login s h = ahead_out place login.node s body (asking_step s.node.layer login.node body (purposes.Agent place)) refl h

    ahead_by : (body : Option Body) (place : ℕ) (login : Login) (s : Scene) → Still s.node → Still (ahead_asked body place login s).1.node
    ahead_by None place login s h = h
    ahead_by (Some body) place login s h = ahead_if (nat_lt (free_labels s.node.layer login.node) 16) body place login s h

    sends_ahead : (place : ℕ) (login : Login) (ask : Ask) (s : Scene) → Still s.node → Still (send_ahead place login ask s).1.node
    unfolding send_ahead
    sends_ahead place login ask s h = ahead_by (agent_body ask false login.fifo (desk_at s.node place).agent.outgoing) place login s h

    behind_ahead : (place : ℕ) (login : Login) (r : Bool × Scene) → Still r.1.node → Still (after_ahead place login r).node
    behind_ahead place login (true, s) h = h
    behind_ahead place login (false, s) h = loses place login Ahead s h

    behind_loss : (place : ℕ) (login : Login) (r : Bool × Scene) → Still r.1.node → Still (after_loss place login r).node
    behind_loss place login (true, s) h = h
    behind_loss place login (false, s) h = loses place login Main s h

    loses_main : (place : ℕ) (login : Login) (s : Scene) → Still s.node → Still (lose_main place login s).node
    unfolding lose_main
    loses_main place login s h = behind_loss place login (lose place login Main s) (loses place login Main s h)

    behind_main : (place : ℕ) (login : Login) (step : AgentStep) (r : Bool × Scene) → Still r.1.node → Still (after_main place login step r).node
    behind_main place login step (true, s) h = behind_ahead place login (send_ahead place login step.ahead s) (sends_ahead place login step.ahead s h)
    behind_main place login step (false, s) h = loses_main place login s h

    pub follows : (place : ℕ) (login : Login) (step : AgentStep) (s : Scene) → Still s.node → Still (follow place login step s).node
    unfolding follow
    follows place login step s h = let t = noted place step s in behind_main place login step (ask_main place login step t) (asks_main place login step t (notes place step s h))

    -- ---- lists are cut, and units cleared
    pub cuts_one : (cause : CutCause) (place : ℕ) (s : Scene) → Still s.node → Still (cut cause place s).node
    unfolding cut
    cuts_one cause place s h =
        let d = desk_at s.node place in
        let q = h.seated place in
        let layer = disowned d.ahead (disowned d.main s.node.layer) in
        desk_set (record s.node { layer = layer }) place (reset_desk d) (none_of, none_of)
        (layer_set s.node layer (lines_disown d.ahead q.1 (disowned d.main s.node.layer) (lines_disown d.main q.0 s.node.layer h.lines)) h)

    cuts_placed : (place : Option ℕ) (cause : CutCause) (s : Scene) → Still s.node → Still (cut_placed place cause s).node
    cuts_placed None cause s h = h
    cuts_placed (Some place) cause s h = cuts_one cause place s h

    pick : (b : Bool) (x y : Scene) → Still x.node → Still y.node → Still (cond b x y).node
    pick true x y h g = h
    pick false x y h g = g

    cuts_at : (cause : CutCause) (unit : Option ℕ) (place : ℕ) (s : Scene) → Still s.node → Still (cut_at cause unit place s).node
    unfolding cut_at
    cuts_at cause unit place s h = pick (is_cut unit (login_at s.node place)) (cut cause place s) s (cuts_one cause place s h) h

    cuts_from : (left place : ℕ) (cause : CutCause) (unit : Option ℕ) (s : Scene) → Still s.node → Still (cut_from left place cause unit s).node
    unfolding cut_from
    cuts_from zero place cause unit s h = h
    cuts_from (suc left) place cause unit s h = cuts_from left (place + 1) cause unit (cut_at cause unit place s) (cuts_at cause unit place s h)

    pub cuts_all : (cause : CutCause) (unit : Option ℕ) (s : Scene) → Still s.node → Still (cut_all cause unit s).node
    cuts_all cause unit s h = cuts_from 8 0 cause unit s h

    clears : (unit : ℕ) (s : Scene) → Still s.node → Still (clear_unit unit s).node
    unfolding clear_unit
    clears unit s h = record { lines = h.lines; seated = h.seated; pending = h.pending }

    clears_one : (unit : ℕ) (s : Scene) → Still s.node → Still (clear_one unit s).node
    clears_one unit s h = pick (nat_lt unit (length s.node.units)) (clear_unit unit s) s (clears unit s h) h

    clears_from : (left unit : ℕ) (s : Scene) → Still s.node → Still (clear_from left unit s).node
    unfolding clear_from
    clears_from zero unit s h = h
    clears_from (suc left) unit s h = clears_from left (unit + 1) (clear_unit unit s) (clears unit s h)

    -- ---- the management agent
    affects : (effect : Effect) (login : ℕ) (s : Scene) → Still s.node → Still (effect_by effect login s).node
    affects effects.Nothing login s h = h
    affects (effects.Entered place replaced) login s h = desk_set s.node place (record (desk_at s.node place) { pointer = None; is_enabled = false }) (h.seated place) h
    affects (effects.Back place) login s h = h
    affects (effects.Left place) login s h =
        let c = cut_placed (place_in place) cuts.Logout s in
        let k = cuts_placed (place_in place) cuts.Logout s h in
        desk_set c.node place (record (desk_at c.node place) { is_enabled = false }) (k.seated place) k
    affects (effects.Abort place orb) login s h = agent_set place (steps.abort_step (desk_at s.node place).agent orb) s.node h
    affects (effects.AbortSet place) login s h = cuts_placed (place_in place) cuts.AbortSet s h
    affects (effects.UnitReset unit) login s h = clears_one unit (cut_all cuts.UnitReset (Some unit) s) (cuts_all cuts.UnitReset (Some unit) s h)
    affects effects.TargetReset login s h =
        let t = cut_all cuts.TargetReset None s in clears_from (length t.node.units) 0 t (cuts_all cuts.TargetReset None s h)

    decides : (d : Option Decision) (effect : Effect) (source : ℕ) (s : Scene) → Still s.node → Still (decided_by d effect source s).node
    unfolding decided_by
    decides None effect source s h = h
    decides (Some d) effect source s h = affects effect d.subject s h

    manages : (node : NodeState) (r : management.Machine × Table) → Still node → Still (with_manager node r)
    manages node (m, t) h = record { lines = h.lines; seated = h.seated; pending = h.pending }

    lost_with : (source : ℕ) (s : Scene) (r : ManagerStep × (management.Machine × Table)) → Still s.node → Still (manager_lost source s r).node
    lost_with source s (step, r) h = manages s.node r h

    loses_in : (source : Option ℕ) (s : Scene) → Still s.node → Still (lost_in source s).node
    loses_in None s h = h
    loses_in (Some source) s h = lost_with source s (management.reply_step s.node.manager s.node.logins s.node.keys NoLabel) h

    loses_operation : (s : Scene) → Still s.node → Still (lose_operation s).node
    unfolding lose_operation
    loses_operation s h = loses_in (management.source_in s.node.manager.operation) s h

    manager_out : (source : ℕ) (s : Scene) (body : Body) (r : Option Asked × Layer Purpose) → asking_step s.node.layer source body purposes.Management ≡ r → Still s.node → Still (manager_sent s.node (sent_by r s.outbox source)).node
    manager_out source s body (None, layer) e h =
        let t = scene (record s.node { layer = layer }) s.outbox in
        loses_operation t (layer_set s.node layer (lines_ask s.node.layer source body purposes.Management (None, layer) manager_no e h.lines) h)
    manager_out source s body (Some asked, layer) e h = layer_set s.node layer (lines_ask s.node.layer source body purposes.Management (Some asked, layer) manager_no e h.lines) h

    manager_by : (body : Option Body) (source : ℕ) (s : Scene) → Still s.node → Still (manager_asked body source s).node
    unfolding request_step
    manager_by None source s h = h
    manager_by (Some body) source s h = manager_out source s body (asking_step s.node.layer source body purposes.Management) refl h

    pub manager_asks : (source : ℕ) (ask : Ask) (s : Scene) → Still s.node → Still (ask_manager source ask s).node
    unfolding ask_manager
    manager_asks source ask s h = manager_by (manager_body ask s.node.manager.outgoing) source s h

    managed_by : (source : ℕ) (s : Scene) (r : ManagerStep × (management.Machine × Table)) → Still s.node → Still (managed_with source s r).node
    managed_by source s (step, r) h =
        let u = scene (with_manager s.node r) s.outbox in
        let t = decided_by step.decided step.effect source u in
        manager_asks source step.ask (scene t.node (tell_failed source step.failed t.outbox)) (decides step.decided step.effect source u (manages s.node r h))

    managed_at : (source : Option ℕ) (answer : Answer) (s : Scene) → Still s.node → Still (managed_in source answer s).node
    managed_at None answer s h = h
    managed_at (Some source) answer s h = managed_by source s (management.reply_step s.node.manager s.node.logins s.node.keys answer) h

    pub manage_still : (answer : Answer) (s : Scene) → Still s.node → Still (manage answer s).node
    unfolding manage
    manage_still answer s h = managed_at (management.source_in s.node.manager.operation) answer s h
