-- What follows a step of an agent, a step of the management agent, and a disc that came: before the first request of a call transactions may be given up, behind it none is.
use Rattle.sbp_world.proofs.Words.Std.{arith, ◌≡◌, refl, sym, subst, ◌+◌, ◌&&◌, ℕ, zero, suc, nat_lt, is_some, Bool, true, false, cond, Option, Some, None}
use Rattle.sbp_world.proofs.Words.Wire.{Asked, Body, block_write, Layer, asking_step, free_labels, OutboxState}
use Rattle.sbp_world.proofs.Words.Target.{Login, Table, is_live, place_at, block, AgentStep, Ahead, Main, is_under_way, lost_step, quiet, ManagerStep, Purpose, after_ahead, after_loss, after_main, agent_body, ahead_asked, ahead_sent, ask_main, follow, lose, lose_main, lost_by, main_asked, main_sent, noted, send_ahead, ask_manager, decided_by, lose_operation, lost_in, manage, managed_in, managed_with, manager_asked, manager_body, manager_lost, manager_sent, tell_failed, with_manager, NodeState, Scene, desk_at, login_at, scene, with_agent, announced_by, request_step, sent_by, with_side, tell_step, announce_at, announce_from, announce_in, announce_to, hears, is_pending, unsolicited_by}
use Rattle.sbp_world.proofs.Words.Initiator.{Ask, FailCause, Answer, NoLabel}
use Rattle.sbp_world.proofs.Words.Laws.{access_in_bytes}
use Rattle.orb_layout.specs.declared.ask.FailCause.TheVariants as causes
use Rattle.mgmt_agent.specs.Machine as management
use Rattle.sbp_journal.specs.declared.side.Side.TheVariants as sides
use Rattle.sbp_target.specs.declared.purpose.Purpose.TheVariants as purposes
use Rattle.sbp_target.proofs.Histories.Pass.{At, decides, notes_at}
use Rattle.sbp_world.proofs.Lists.SentOwnedLives.{IsTellable, Owning, Unasked, agent_tells, finds_none, manager_tells, owning_of, sends, unasked_leaves}
use Rattle.sbp_world.proofs.Lists.StatusBytes.{written_at, wrote}
use Rattle.sbp_world.proofs.Lists.StatusLosses.{quiet_ahead}
use Rattle.sbp_world.proofs.Lists.StatusPackets.{unsolicited_small}

-- the FIFOs of the live logins of a table, by the addresses that are written to
abbrev pub AreWritten : (ℕ → ℕ → Type 0) → Table → Type 0
AreWritten Fifo table = (place : ℕ) (other : Login) → place_at table.places place ≡ Some other → is_live other ≡ true → Fifo other.node (written_at other.fifo)

module _ (Fifo : ℕ → ℕ → Type 0) where
  -- no request left yet
  abbrev pub Before : Scene → Type 0
  Before s = At Unasked s

  -- and whatever left belongs to somebody
  abbrev pub Behind : Scene → Type 0
  Behind s = At (Owning Fifo) s

  pub behind_of : (s : Scene) → Before s → Behind s
  behind_of s h = owning_of Fifo s.node.layer s.outbox.packets h

  -- where a request finds no label, none left before it
  abbrev Out : Bool × Scene → Type 0
  Out (true, s) = Behind s
  Out (false, s) = Before s

  -- ---- the main request
  main_out : (place : ℕ) (login : Login) (s : Scene) → Before s → (body : Body) → (r : Option Asked × Layer Purpose) → asking_step s.node.layer login.node body (purposes.Agent place) ≡ r → Out (main_sent place login.node s.node (sent_by r s.outbox login.node))
  main_out place login s h body (None, layer) e = finds_none Fifo s.node.layer login.node body (purposes.Agent place) s.outbox.packets layer e h
  main_out place login s h body (Some asked, layer) e =
      sends Fifo s.node.layer login.node body (purposes.Agent place) s.outbox.packets (Some asked, layer) e (agent_tells Fifo s.node.layer login.node body place) (behind_of s h)

  main_by : (body : Option Body) (place : ℕ) (login : Login) (s : Scene) → Before s → Out (main_asked body place login s)
  unfolding request_step
  main_by None place login s h = behind_of s h
  main_by (Some body) place login s h = main_out place login s h body (asking_step s.node.layer login.node body (purposes.Agent place)) refl

  asks_main : (place : ℕ) (login : Login) (step : AgentStep) (s : Scene) → Before s → Out (ask_main place login step s)
  unfolding ask_main
  asks_main place login step s h = main_by (agent_body step.ask (is_some step.ended) login.fifo (desk_at s.node place).agent.outgoing) place login s h

  -- ---- it finds no label
  lost_main : (b : Bool) (place : ℕ) (login : Login) (s : Scene) → Before s → Out (lost_by b place login Main s)
  lost_main false place login s h = behind_of s h
  lost_main true place login s h =
      let l = lost_step (desk_at s.node place).agent Main causes.Label in
      let t = scene (with_agent s.node place l.1) s.outbox in
      asks_main place login l.0 (noted place l.0 t) (notes_at Unasked unasked_leaves place l.0 t h)

  loses_once : (place : ℕ) (login : Login) (s : Scene) → Before s → Out (lose place login Main s)
  unfolding lose
  loses_once place login s h = lost_main (is_under_way Main (desk_at s.node place).agent) place login s h

  out_behind : (r : Bool × Scene) → Out r → Behind r.1
  out_behind (true, s) h = h
  out_behind (false, s) h = behind_of s h

  behind_loss : (place : ℕ) (login : Login) (r : Bool × Scene) → Out r → Behind (after_loss place login r)
  behind_loss place login (true, s) h = h
  behind_loss place login (false, s) h = out_behind (lose place login Main s) (loses_once place login s h)

  loses_main : (place : ℕ) (login : Login) (s : Scene) → Before s → Behind (lose_main place login s)
  unfolding lose_main
  loses_main place login s h = behind_loss place login (lose place login Main s) (loses_once place login s h)

  -- ---- the read ahead, which does nothing where it finds no label
  quiet_asked : (place : ℕ) (login : Login) (s : Scene) (step : AgentStep) → step ≡ quiet → Behind s → Behind (ask_main place login step (noted place step s)).1
  unfolding ask_main noted tell_step
  quiet_asked place login s step e h = subst (λ (x : AgentStep). Behind (ask_main place login x (noted place x s)).1) (sym e) h

  lost_ahead : (b : Bool) (place : ℕ) (login : Login) (s : Scene) → Behind s → Behind (lost_by b place login Ahead s).1
  lost_ahead false place login s h = h
  lost_ahead true place login s h =
      let l = lost_step (desk_at s.node place).agent Ahead causes.Label in
      quiet_asked place login (scene (with_agent s.node place l.1) s.outbox) l.0 (quiet_ahead (desk_at s.node place).agent causes.Label) h

  loses_ahead : (place : ℕ) (login : Login) (s : Scene) → Behind s → Behind (lose place login Ahead s).1
  unfolding lose
  loses_ahead place login s h = lost_ahead (is_under_way Ahead (desk_at s.node place).agent) place login s h

  behind_ahead : (place : ℕ) (login : Login) (r : Bool × Scene) → Behind r.1 → Behind (after_ahead place login r)
  behind_ahead place login (true, s) h = h
  behind_ahead place login (false, s) h = loses_ahead place login s h

  ahead_out : (place : ℕ) (login : Login) (s : Scene) → Behind s → (body : Body) → (r : Option Asked × Layer Purpose) → asking_step s.node.layer login.node body (purposes.Agent place) ≡ r → Behind (ahead_sent place login.node s.node (sent_by r s.outbox login.node)).1
  ahead_out place login s h body (None, layer) e =
      sends Fifo s.node.layer login.node body (purposes.Agent place) s.outbox.packets (None, layer) e (agent_tells Fifo s.node.layer login.node body place) h
  ahead_out place login s h body (Some asked, layer) e =
      sends Fifo s.node.layer login.node body (purposes.Agent place) s.outbox.packets (Some asked, layer) e (agent_tells Fifo s.node.layer login.node body place) h

  ahead_if : (b : Bool) (body : Body) (place : ℕ) (login : Login) (s : Scene) → Behind s → Behind (cond b (false, s) (ahead_sent place login.node s.node (request_step s.node.layer s.outbox login.node body (purposes.Agent place)))).1
  unfolding request_step
  ahead_if true body place login s h = h
  ahead_if false body place login s h = ahead_out place login s h body (asking_step s.node.layer login.node body (purposes.Agent place)) refl

  ahead_by : (body : Option Body) (place : ℕ) (login : Login) (s : Scene) → Behind s → Behind (ahead_asked body place login s).1
  ahead_by None place login s h = h
  ahead_by (Some body) place login s h = ahead_if (nat_lt (free_labels s.node.layer login.node) 16) body place login s h

  sends_ahead : (place : ℕ) (login : Login) (ask : Ask) (s : Scene) → Behind s → Behind (send_ahead place login ask s).1
  unfolding send_ahead
  sends_ahead place login ask s h = ahead_by (agent_body ask false login.fifo (desk_at s.node place).agent.outgoing) place login s h

  behind_main : (place : ℕ) (login : Login) (step : AgentStep) (r : Bool × Scene) → Out r → Behind (after_main place login step r)
  behind_main place login step (true, s) h = behind_ahead place login (send_ahead place login step.ahead s) (sends_ahead place login step.ahead s h)
  behind_main place login step (false, s) h = loses_main place login s h

  pub follow_owned : (place : ℕ) (login : Login) (step : AgentStep) (s : Scene) → Before s → Behind (follow place login step s)
  unfolding follow
  follow_owned place login step s h =
      let t = noted place step s in
      behind_main place login step (ask_main place login step t) (asks_main place login step t (notes_at Unasked unasked_leaves place step s h))

  -- ---- the management agent
  failed_before : (source : ℕ) (cause : Option FailCause) (node : NodeState) (o : OutboxState) → Before (scene node o) → Before (scene node (tell_failed source cause o))
  failed_before source None node o h = h
  failed_before source (Some cause) node o h = h

  failed_behind : (source : ℕ) (cause : Option FailCause) (node : NodeState) (o : OutboxState) → Behind (scene node o) → Behind (scene node (tell_failed source cause o))
  failed_behind source None node o h = h
  failed_behind source (Some cause) node o h = h

  lost_with : (source : ℕ) (s : Scene) (r : ManagerStep × (management.Machine × Table)) → Behind s → Behind (manager_lost source s r)
  lost_with source s (step, r) h = failed_behind source step.failed (with_manager s.node r) s.outbox h

  loses_in : (source : Option ℕ) (s : Scene) → Behind s → Behind (lost_in source s)
  loses_in None s h = h
  loses_in (Some source) s h = lost_with source s (management.reply_step s.node.manager s.node.logins s.node.keys NoLabel) h

  loses_operation : (s : Scene) → Behind s → Behind (lose_operation s)
  unfolding lose_operation
  loses_operation s h = loses_in (management.source_in s.node.manager.operation) s h

  manager_out : (source : ℕ) (s : Scene) → Before s → (body : Body) → (r : Option Asked × Layer Purpose) → asking_step s.node.layer source body purposes.Management ≡ r → Behind (manager_sent s.node (sent_by r s.outbox source))
  manager_out source s h body (None, layer) e =
      let t = scene (record s.node { layer = layer }) s.outbox in
      loses_operation t (behind_of t (finds_none Fifo s.node.layer source body purposes.Management s.outbox.packets layer e h))
  manager_out source s h body (Some asked, layer) e =
      sends Fifo s.node.layer source body purposes.Management s.outbox.packets (Some asked, layer) e (manager_tells Fifo s.node.layer source body) (behind_of s h)

  manager_by : (body : Option Body) (source : ℕ) (s : Scene) → Before s → Behind (manager_asked body source s)
  unfolding request_step
  manager_by None source s h = behind_of s h
  manager_by (Some body) source s h = manager_out source s h body (asking_step s.node.layer source body purposes.Management) refl

  pub manager_owned : (source : ℕ) (ask : Ask) (s : Scene) → Before s → Behind (ask_manager source ask s)
  unfolding ask_manager
  manager_owned source ask s h = manager_by (manager_body ask s.node.manager.outgoing) source s h

  managed_by : (source : ℕ) (s : Scene) (r : ManagerStep × (management.Machine × Table)) → Before s → Behind (managed_with source s r)
  managed_by source s (step, r) h =
      let u = scene (with_manager s.node r) s.outbox in
      let t = decided_by step.decided step.effect source u in
      manager_owned source step.ask (scene t.node (tell_failed source step.failed t.outbox))
      (failed_before source step.failed t.node t.outbox (decides Unasked unasked_leaves step.decided step.effect source u h))

  managed_at : (source : Option ℕ) (answer : Answer) (s : Scene) → Before s → Behind (managed_in source answer s)
  managed_at None answer s h = behind_of s h
  managed_at (Some source) answer s h = managed_by source s (management.reply_step s.node.manager s.node.logins s.node.keys answer) h

  pub manage_owned : (answer : Answer) (s : Scene) → Before s → Behind (manage answer s)
  unfolding manage
  manage_owned answer s h = managed_at (management.source_in s.node.manager.operation) answer s h

  -- ---- a disc came: other logins are told, at their FIFOs
  record Announced (s : Scene) : Type 0 where
    fifos : AreWritten Fifo s.node.logins
    owned : Behind s

  fifo_tells : (layer : Layer Purpose) (other : Login) → Fifo other.node (written_at other.fifo) → IsTellable Fifo layer other.node (block_write other.fifo block) purposes.Unsolicited
  fifo_tells layer other f asked of e access is =
      let x = wrote asked.label.number layer.node other.node other.fifo block (let n = unsolicited_small in omega (arith, n)) access (subst (λ bytes. access_in_bytes bytes ≡ Some access) of is) in
      (subst (Fifo other.node) (sym x.offset_is) f, x.payload_is)

  told_out : (place : ℕ) (s : Scene) (other : Login) → Fifo other.node (written_at other.fifo) → (r : Option Asked × Layer Purpose) → asking_step s.node.layer other.node (block_write other.fifo block) purposes.Unsolicited ≡ r → Announced s → Announced (unsolicited_by place other.node s.node (sent_by r s.outbox other.node))
  told_out place s other f (None, layer) e a =
      let o : Owning Fifo layer s.outbox.packets
      = sends Fifo s.node.layer other.node (block_write other.fifo block) purposes.Unsolicited s.outbox.packets (None, layer) e (fifo_tells s.node.layer other f) a.owned in
      record { fifos = a.fifos; owned = o }
  told_out place s other f (Some asked, layer) e a = record {
    fifos = a.fifos;
    owned = sends Fifo s.node.layer other.node (block_write other.fifo block) purposes.Unsolicited s.outbox.packets (Some asked, layer) e (fifo_tells s.node.layer other f) a.owned;
  }

  unsent : (s : Scene) (place : ℕ) → Announced s → Announced (scene s.node (with_side s.outbox (sides.Unsent place)))
  unsent s place a = record { fifos = a.fifos; owned = a.owned }

  choose : (b : Bool) (s t : Scene) → Announced s → Announced t → Announced (cond b s t)
  choose true s t h k = h
  choose false s t h k = k

  announces_to : (place : ℕ) (other : Login) (s : Scene) → Fifo other.node (written_at other.fifo) → Announced s → Announced (announce_to place other s)
  unfolding announce_to request_step
  announces_to place other s f a =
      choose (is_pending other.node s.node.pending) (scene s.node (with_side s.outbox (sides.Unsent place)))
      (unsolicited_by place other.node s.node (request_step s.node.layer s.outbox other.node (block_write other.fifo block) purposes.Unsolicited)) (unsent s place a)
      (told_out place s other f (asking_step s.node.layer other.node (block_write other.fifo block) purposes.Unsolicited) refl a)

  -- who hears of a disc has a live login
  heard_live : (here live rest : Bool) → (here && (live && rest)) ≡ true → live ≡ true
  heard_live true true rest e = refl
  heard_live true false rest e = absurd (let no : false ≡ true = e in cc)
  heard_live false live rest e = absurd (let no : false ≡ true = e in cc)

  announces_if : (b : Bool) (unit from place : ℕ) (other : Login) (s : Scene) → hears unit from place (desk_at s.node place) other ≡ b → login_at s.node place ≡ Some other → Announced s → Announced (cond b (announce_to place other s) s)
  announces_if true unit from place other s e is a = announces_to place other s (a.fifos place other is (heard_live _ (is_live other) _ e)) a
  announces_if false unit from place other s e is a = a

  announces_in : (unit from place : ℕ) (other : Option Login) (s : Scene) → login_at s.node place ≡ other → Announced s → Announced (announce_in unit from place other s)
  announces_in unit from place None s is a = a
  announces_in unit from place (Some other) s is a = announces_if (hears unit from place (desk_at s.node place) other) unit from place other s refl is a

  announces_at : (unit from place : ℕ) (s : Scene) → Announced s → Announced (announce_at unit from place s)
  unfolding announce_at
  announces_at unit from place s a = announces_in unit from place (login_at s.node place) s refl a

  announces_from : (left place unit from : ℕ) (s : Scene) → Announced s → Announced (announce_from left place unit from s)
  unfolding announce_from
  announces_from zero place unit from s a = a
  announces_from (suc left) place unit from s a = announces_from left (place + 1) unit from (announce_at unit from place s) (announces_at unit from place s a)

  pub announced_owned : (b : Bool) (unit place : ℕ) (s : Scene) → AreWritten Fifo s.node.logins → Behind s → Behind (announced_by b unit place s)
  announced_owned true unit place s fifos h = (announces_from 8 0 unit place s (record { fifos = fifos; owned = h })).owned
  announced_owned false unit place s fifos h = h
