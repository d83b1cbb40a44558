-- What follows a step of the agent of a place, as far as its writes go: the first one may be that which the step asks for, to the node of the login, with the bytes
-- that the agent has to write behind it; all others go to FIFOs.
use Rattle.sbp_world.proofs.Words.Std.{arith, ◌≡◌, ◌∙◌, refl, sym, ap, subst, ◌<◌, ◌≤◌, nat_le, is_some, ℕ, Bool, true, false, cond, List, [], ◌∷◌, ◌++◌, length, Option, Some, None, nat_tests, false≢true, same_Some, none-some}
use Rattle.sbp_world.proofs.Words.Wire.{Asked, Body, block_read, block_write, quadlet_read, quadlet_write, Layer, asking_step, Access, Outgoing, OutboxState}
use Rattle.sbp_world.proofs.Words.Target.{AgentStep, Which, Ahead, Main, Machine, is_under_way, new_machine, lost_step, quiet, Login, Purpose, after_ahead, after_loss, after_main, agent_body, ahead_asked, ahead_sent, ask_main, follow, lose, lose_main, lost_by, main_asked, main_sent, noted, send_ahead, Scene, desk_at, scene, with_agent, request_step, sent_by}
use Rattle.sbp_world.proofs.Words.Initiator.{Ask, StatusKind}
use Rattle.sbp_world.proofs.Words.Laws.{is_write_in, access_in_bytes}
use Rattle.orb_layout.specs.declared.ask.Ask.TheVariants as asks
use Rattle.orb_layout.specs.declared.ask.FailCause.TheVariants as causes
use Rattle.sbp_target.specs.declared.purpose.Purpose.TheVariants as purposes
use Rattle.sbp_world.proofs.Lists.SameAgents.{noted_outbox}
use Rattle.sbp_world.proofs.Lists.StatusBytes.{written_at, wrote}
use Rattle.sbp_world.proofs.Lists.StatusFollows.{noted_same}
use Rattle.sbp_world.proofs.Lists.StatusLosses.{lost_asks, quiet_ahead}
use Rattle.sbp_world.proofs.Lists.StatusPackets.{step_packets}
use Rattle.sbp_world.proofs.Lists.StatusReads.{IsOfBody, IsRead, asked_body, body_reads, reads_body}
use Rattle.sbp_world.proofs.Lists.StatusSteps.{none_wrote}

-- ---- what a packet writes: to a FIFO; or what a step of an agent asks for
pub data IsBy (Fifo : ℕ → ℕ → Type 0) (step : AgentStep) (m : Machine) (node to offset : ℕ) (payload : List ℕ) : Type 0 where
  to_fifo : (fifo : ℕ) → Fifo to fifo → offset ≡ written_at fifo → IsBy Fifo step m node to offset payload
  of_step : (at size : ℕ) → step.ended ≡ None → step.ask ≡ asks.Write at size → to ≡ node → offset ≡ written_at at → payload ≡ m.outgoing → IsBy Fifo step m node to offset payload

module _ (Fifo : ℕ → ℕ → Type 0) (step : AgentStep) (m : Machine) (node : ℕ) where
  abbrev pub By : ℕ → ℕ → List ℕ → Type 0
  By to offset payload = IsBy Fifo step m node to offset payload

  abbrev pub IsSo : Outgoing → Type 0
  IsSo packet = (access : Access) → access_in_bytes packet.bytes ≡ Some access → access.is_write ≡ true → By packet.to access.offset access.payload

  abbrev pub AllBy : List Outgoing → Type 0
  AllBy [] = Unit {0}
  AllBy (packet ∷ later) = IsSo packet × AllBy later

  pub read_so : (packet : Outgoing) → IsRead packet.bytes → IsSo packet
  read_so packet r access e w = absurd (false≢true (sym r ∙ (ap is_write_in e ∙ w)))

-- packets write to FIFOs alone
abbrev pub AllFifo : (ℕ → ℕ → Type 0) → List Outgoing → Type 0
AllFifo Fifo packets = AllBy Fifo quiet new_machine 0 packets

-- and the first one may be that of a step
abbrev pub AllSo : (Fifo : ℕ → ℕ → Type 0) → AgentStep → Machine → ℕ → List Outgoing → Type 0
AllSo Fifo step m node [] = Unit {0}
AllSo Fifo step m node (packet ∷ later) = IsSo Fifo step m node packet × AllFifo Fifo later

module _ (Fifo : ℕ → ℕ → Type 0) where
  pub more_fifo : (packets : List Outgoing) (packet : Outgoing) → AllFifo Fifo packets → IsSo Fifo quiet new_machine 0 packet → AllFifo Fifo (packets ++ packet ∷ [])
  more_fifo [] packet h p = (p, tt)
  more_fifo (one ∷ later) packet h p = (h.0, more_fifo later packet h.1 p)

  quiet_by : (step : AgentStep) (m : Machine) (node to offset : ℕ) (payload : List ℕ) → IsBy Fifo quiet new_machine 0 to offset payload → IsBy Fifo step m node to offset payload
  quiet_by step m node to offset payload (to_fifo fifo own e) = to_fifo fifo own e
  quiet_by step m node to offset payload (of_step at size none ask to_is offset_is payload_is) = absurd (none_wrote at size ask)

  quiet_to : (node to offset : ℕ) (payload : List ℕ) → IsBy Fifo quiet new_machine node to offset payload → IsBy Fifo quiet new_machine 0 to offset payload
  quiet_to node to offset payload (to_fifo fifo own e) = to_fifo fifo own e
  quiet_to node to offset payload (of_step at size none ask to_is offset_is payload_is) = absurd (none_wrote at size ask)

  pub more_so : (step : AgentStep) (m : Machine) (node : ℕ) (packets : List Outgoing) (packet : Outgoing) → AllSo Fifo step m node packets → IsSo Fifo quiet new_machine 0 packet → AllSo Fifo step m node (packets ++ packet ∷ [])
  more_so step m node [] packet h p = ((λ access e w. quiet_by step m node packet.to access.offset access.payload (p access e w)), tt)
  more_so step m node (one ∷ later) packet h p = (h.0, more_fifo later packet h.1 p)

  first_more : (step : AgentStep) (m : Machine) (node : ℕ) (packets : List Outgoing) (packet : Outgoing) → packets ≡ [] → IsSo Fifo step m node packet → AllSo Fifo step m node (packets ++ packet ∷ [])
  first_more step m node packets packet none p = subst (λ xs. AllSo Fifo step m node (xs ++ packet ∷ [])) (sym none) (p, tt)

-- ---- at a place
-- a step asks: where packets were so, they are so behind what it asks for
module _ (q : ℕ) (b : q < 8) (login : Login) (Fifo : ℕ → ℕ → Type 0) (own : Fifo login.node login.fifo) (step : AgentStep) (m : Machine) (In Out : List Outgoing → Type 0) (more : (packets : List Outgoing) (packet : Outgoing) → In packets → IsSo Fifo step m login.node packet → Out (packets ++ packet ∷ [])) (keep : (packets : List Outgoing) → In packets → Out packets) where
  abbrev S : Scene → Type 0
  S s = In s.outbox.packets

  abbrev T : Scene → Type 0
  T s = Out s.outbox.packets

  abbrev Fine : Option Body → Type 0
  Fine None = Unit {0}
  Fine (Some (quadlet_write at value)) = ⊥
  Fine (Some (block_write at payload)) = (length payload ≤ 2048) × IsBy Fifo step m login.node login.node (written_at at) payload
  Fine (Some (quadlet_read at)) = Unit {0}
  Fine (Some (block_read at asked)) = Unit {0}

  -- ---- a request
  read_of : (s : Scene) (body : Body) → reads_body body ≡ true → (asked : Asked) → IsOfBody s.node.layer login.node body (Some asked) → IsSo Fifo step m login.node (record { to = login.node; label = Some asked.label; bytes = asked.bytes })
  read_of s body e asked of = read_so Fifo step m login.node (record { to = login.node; label = Some asked.label; bytes = asked.bytes }) (subst IsRead (sym of) (body_reads asked.label.number s.node.layer.node login.node body e))

  write_of : (s : Scene) (at : ℕ) (payload : List ℕ) → length payload ≤ 2048 → IsBy Fifo step m login.node login.node (written_at at) payload → (asked : Asked) → IsOfBody s.node.layer login.node (block_write at payload) (Some asked) → IsSo Fifo step m login.node (record { to = login.node; label = Some asked.label; bytes = asked.bytes })
  write_of s at payload small by asked of access e w =
      let x = wrote asked.label.number s.node.layer.node login.node at payload small access (subst (λ bytes. access_in_bytes bytes ≡ Some access) of e) in
      subst (λ o. IsBy Fifo step m login.node login.node o access.payload) (sym x.offset_is) (subst (λ p. IsBy Fifo step m login.node login.node (written_at at) p) (sym x.payload_is) by)

  sent_so : (s : Scene) → S s → (body : Body) → ((asked : Asked) → IsOfBody s.node.layer login.node body (Some asked) → IsSo Fifo step m login.node (record { to = login.node; label = Some asked.label; bytes = asked.bytes })) → (r : Option Asked × Layer Purpose) → IsOfBody s.node.layer login.node body r.0 → T (main_sent q login.node s.node (sent_by r s.outbox login.node)).1
  sent_so s h body f (None, layer) of = keep s.outbox.packets h
  sent_so s h body f (Some asked, layer) of = more s.outbox.packets (record { to = login.node; label = Some asked.label; bytes = asked.bytes }) h (f asked of)

  main_so : (s : Scene) → S s → (body : Option Body) → Fine body → T (main_asked body q login s).1
  unfolding request_step
  main_so s h None f = keep s.outbox.packets h
  main_so s h (Some (quadlet_write at value)) f = absurd f
  main_so s h (Some (block_write at payload)) f =
      sent_so s h (block_write at payload) (write_of s at payload f.0 f.1) (asking_step s.node.layer login.node (block_write at payload) (purposes.Agent q)) (asked_body s.node.layer login.node (block_write at payload) (purposes.Agent q))
  main_so s h (Some (quadlet_read at)) f =
      sent_so s h (quadlet_read at) (read_of s (quadlet_read at) refl) (asking_step s.node.layer login.node (quadlet_read at) (purposes.Agent q)) (asked_body s.node.layer login.node (quadlet_read at) (purposes.Agent q))
  main_so s h (Some (block_read at asked)) f =
      sent_so s h (block_read at asked) (read_of s (block_read at asked) refl) (asking_step s.node.layer login.node (block_read at asked) (purposes.Agent q)) (asked_body s.node.layer login.node (block_read at asked) (purposes.Agent q))

  pick_fine : (x : Bool) (body : Option Body) → (x ≡ true → Fine body) → Fine (cond x body None)
  pick_fine true body f = f refl
  pick_fine false body f = tt

  -- a step, whose write goes to the FIFO or is that of the step
  fine_of : (ask : Ask) (ended : Option StatusKind) (outgoing : List ℕ) → ((offset size : ℕ) → ask ≡ asks.Write offset size → ended ≡ None → IsBy Fifo step m login.node login.node (written_at offset) outgoing) → Fine (agent_body ask (is_some ended) login.fifo outgoing)
  fine_of asks.Nothing ended outgoing f = tt
  fine_of (asks.Read offset len) ended outgoing f = pick_fine (nat_le len 2048) (Some (block_read offset len)) (λ e. tt)
  fine_of (asks.Write offset size) None outgoing f =
      pick_fine (nat_le (length outgoing) 2048) (Some (block_write offset outgoing)) (λ e. ((let z : length outgoing ≤ 2048 = grind (arith, nat_tests) in z), f offset size refl refl))
  fine_of (asks.Write offset size) (Some kind) outgoing f =
      pick_fine (nat_le (length outgoing) 2048) (Some (block_write login.fifo outgoing)) (λ e. ((let z : length outgoing ≤ 2048 = grind (arith, nat_tests) in z), to_fifo login.fifo own refl))

  abbrev A : Scene → Machine
  A s = (desk_at s.node q).agent

  asks_so : (one : AgentStep) (s : Scene) → S s → ((offset size : ℕ) → one.ask ≡ asks.Write offset size → one.ended ≡ None → IsBy Fifo step m login.node login.node (written_at offset) (A s).outgoing) → T (ask_main q login one s).1
  unfolding ask_main
  asks_so one s h f = main_so s h (agent_body one.ask (is_some one.ended) login.fifo (A s).outgoing) (fine_of one.ask one.ended (A s).outgoing f)

  told_so : (one : AgentStep) (s : Scene) → S s → S (noted q one s)
  told_so one s h =
      subst In (sym (ap (λ (o : OutboxState). o.packets) (noted_outbox q one s) ∙ step_packets q (A s) one s.outbox)) h

-- ---- what follows what a step asked for: it is of no write of data
module _ (q : ℕ) (b : q < 8) (login : Login) (Fifo : ℕ → ℕ → Type 0) (own : Fifo login.node login.fifo) (step : AgentStep) (P : List Outgoing → Type 0) (more : (packets : List Outgoing) (packet : Outgoing) → P packets → IsSo Fifo quiet new_machine 0 packet → P (packets ++ packet ∷ [])) where
  abbrev Kept : Scene → Type 0
  Kept s = P s.outbox.packets

  abbrev Agent : Scene → Machine
  Agent s = (desk_at s.node q).agent

  more_of : (packets : List Outgoing) (packet : Outgoing) → P packets → IsSo Fifo quiet new_machine login.node packet → P (packets ++ packet ∷ [])
  more_of packets packet h p = more packets packet h (λ access e w. quiet_to Fifo login.node packet.to access.offset access.payload (p access e w))

  asks_more : (one : AgentStep) (s : Scene) → Kept s → ((offset size : ℕ) → one.ask ≡ asks.Write offset size → one.ended ≡ None → ⊥) → Kept (ask_main q login one s).1
  asks_more one s h f = asks_so q b login Fifo own quiet new_machine P P more_of (λ packets x. x) one s h (λ offset size e none. absurd (f offset size e none))

  told_more : (one : AgentStep) (s : Scene) → Kept s → Kept (noted q one s)
  told_more one s h = told_so q b login Fifo own quiet new_machine P P more_of (λ packets x. x) one s h

  -- ---- a request finds no label
  lost_none : (which : Which) (n : Machine) → (lost_step n which causes.Label).0.ended ≡ None → (lost_step n which causes.Label).0.ask ≡ asks.Nothing
  lost_none Main n e = lost_asks n causes.Label e
  lost_none Ahead n e = ap (λ (x : AgentStep). x.ask) (quiet_ahead n causes.Label)

  lost_so : (which : Which) (x : Bool) (s : Scene) → Kept s → Kept (lost_by x q login which s).1
  lost_so which false s h = h
  lost_so which true s h =
      let l = lost_step (Agent s) which causes.Label in
      let t = scene (with_agent s.node q l.1) s.outbox in
      asks_more l.0 (noted q l.0 t) (told_more l.0 t h) (λ offset size e none. none_wrote offset size (sym (lost_none which (Agent s) none) ∙ e))

  lose_so : (which : Which) (s : Scene) → Kept s → Kept (lose q login which s).1
  unfolding lose
  lose_so which s h = lost_so which (is_under_way which (desk_at s.node q).agent) s h

  after_loss_so : (r : Bool × Scene) → Kept r.1 → Kept (after_loss q login r)
  after_loss_so (true, s) h = h
  after_loss_so (false, s) h = lose_so Main s h

  lose_main_so : (s : Scene) → Kept s → Kept (lose_main q login s)
  unfolding lose_main
  lose_main_so s h = after_loss_so (lose q login Main s) (lose_so Main s h)

  after_ahead_so : (r : Bool × Scene) → Kept r.1 → Kept (after_ahead q login r)
  after_ahead_so (true, s) h = h
  after_ahead_so (false, s) h = lose_so Ahead s h

  -- ---- the read ahead
  ahead_out : (s : Scene) → Kept s → (body : Body) → reads_body body ≡ true → (r : Option Asked × Layer Purpose) → IsOfBody s.node.layer login.node body r.0 → Kept (ahead_sent q login.node s.node (sent_by r s.outbox login.node)).1
  ahead_out s h body e (None, layer) of = h
  ahead_out s h body e (Some asked, layer) of = more_of s.outbox.packets (record { to = login.node; label = Some asked.label; bytes = asked.bytes }) h (read_of q b login Fifo own quiet new_machine P P more_of (λ packets x. x) s body e asked of)

  pick_so : (x : Bool) (r t : Bool × Scene) → Kept r.1 → Kept t.1 → Kept (cond x r t).1
  pick_so true r t h k = h
  pick_so false r t h k = k

  ahead_by : (s : Scene) → Kept s → (body : Option Body) → ((one : Body) → body ≡ Some one → reads_body one ≡ true) → Kept (ahead_asked body q login s).1
  unfolding request_step
  ahead_by s h None f = h
  ahead_by s h (Some body) f =
      pick_so _ (false, s) (ahead_sent q login.node s.node (request_step s.node.layer s.outbox login.node body (purposes.Agent q))) h
      (ahead_out s h body (f body refl) (asking_step s.node.layer login.node body (purposes.Agent q)) (asked_body s.node.layer login.node body (purposes.Agent q)))

  picked_reads : (x : Bool) (offset len : ℕ) (one : Body) → cond x (Some (block_read offset len)) None ≡ Some one → reads_body one ≡ true
  picked_reads true offset len one e = ap reads_body (sym (same_Some (block_read offset len) one e))
  picked_reads false offset len one e = absurd (none-some one e)

  ahead_reads : (ask : Ask) (outgoing : List ℕ) → ((offset size : ℕ) → ask ≡ asks.Write offset size → ⊥) → (one : Body) → agent_body ask false login.fifo outgoing ≡ Some one → reads_body one ≡ true
  ahead_reads asks.Nothing outgoing f one e = absurd (none-some one e)
  ahead_reads (asks.Read offset len) outgoing f one e = picked_reads (nat_le len 2048) offset len one e
  ahead_reads (asks.Write offset size) outgoing f one e = absurd (f offset size refl)

  sends_so : (ask : Ask) (s : Scene) → ((offset size : ℕ) → ask ≡ asks.Write offset size → ⊥) → Kept s → Kept (send_ahead q login ask s).1
  unfolding send_ahead
  sends_so ask s f h = ahead_by s h (agent_body ask false login.fifo (Agent s).outgoing) (ahead_reads ask (Agent s).outgoing f)

  main_then : ((offset size : ℕ) → step.ahead ≡ asks.Write offset size → ⊥) → (r : Bool × Scene) → Kept r.1 → Kept (after_main q login step r)
  main_then f (true, s) h = after_ahead_so (send_ahead q login step.ahead s) (sends_so step.ahead s f h)
  main_then f (false, s) h = lose_main_so s h

  -- ---- what follows a step
  pub follows_by : (s : Scene) → ((offset size : ℕ) → step.ahead ≡ asks.Write offset size → ⊥) → Kept (ask_main q login step (noted q step s)).1 → Kept (follow q login step s)
  unfolding follow
  follows_by s f h = main_then f (ask_main q login step (noted q step s)) h

  -- a step that asks for no write
  pub follows_quiet : (s : Scene) → ((offset size : ℕ) → step.ahead ≡ asks.Write offset size → ⊥) → ((offset size : ℕ) → step.ask ≡ asks.Write offset size → ⊥) → Kept s → Kept (follow q login step s)
  follows_quiet s f g h = follows_by s f (asks_more step (noted q step s) (told_more step s h) (λ offset size e none. g offset size e))

-- a step whose packets are the first ones: its write leaves before all that follows
module _ (q : ℕ) (b : q < 8) (login : Login) (Fifo : ℕ → ℕ → Type 0) (own : Fifo login.node login.fifo) (step : AgentStep) (m : Machine) where
  pub follows_so : (s : Scene) → length s.node.desks ≡ 8 → (desk_at s.node q).agent ≡ m → ((offset size : ℕ) → step.ahead ≡ asks.Write offset size → ⊥) → s.outbox.packets ≡ [] → AllSo Fifo step m login.node (follow q login step s).outbox.packets
  follows_so s desks agent f none =
      let same = (noted_same q b login (Unit {0}) (λ p. m) step s desks).agents q in
      let all = AllSo Fifo step m login.node in
      let empty : List Outgoing → Type 0 = λ xs. xs ≡ [] in
      let first = first_more Fifo step m login.node in
      let kept : (packets : List Outgoing) → packets ≡ [] → AllSo Fifo step m login.node packets = λ packets is. subst (AllSo Fifo step m login.node) (sym is) tt in
      follows_by q b login Fifo own step all (more_so Fifo step m login.node) s f
      (asks_so q b login Fifo own step m empty all first kept step (noted q step s) (told_so q b login Fifo own step m empty all first kept step s none)
      (λ offset size e none. of_step offset size none e refl refl (ap (λ (x : Machine). x.outgoing) (same ∙ agent))))
