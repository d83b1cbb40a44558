-- What follows a step of the agent of a place, as far as status blocks go: where the step ends an ORB its status block is the first packet that writes; where the
-- step's request finds no label, the ORB ends, and its status block is it; and what an agent writes else is no status block.
use Rattle.sbp_world.proofs.Words.Std.{arith, ◌≡◌, ◌∙◌, ◌⊎◌, inl, inr, refl, sym, ap, subst, ◌<◌, ◌≤◌, ◌^◌, nat_le, is_some, ℕ, Bool, true, false, cond, List, [], ◌∷◌, ◌++◌, length, Option, Some, None, IfSome, Ok, nat_tests, length-set, false≢true, same_Some, none-some}
use Rattle.sbp_world.proofs.Words.Wire.{LabelParts, Asked, Body, block_read, block_write, quadlet_read, quadlet_write, Layer, asking_step, Access, Outgoing, OutboxState}
use Rattle.sbp_world.proofs.Words.Target.{AgentStep, Ahead, Main, Machine, is_sent, is_under_way, lost_step, quiet, Login, Desk, Purpose, after_ahead, after_loss, after_main, agent_body, ahead_asked, ahead_sent, ask_main, follow, lose, lose_main, lost_by, main_asked, main_sent, noted, send_ahead, NodeState, Scene, desk_at, scene, with_agent, with_desk, request_step, sent_by, orb_of, tell_step}
use Rattle.sbp_world.proofs.Words.Initiator.{window_at, Ask, StatusBlock, StatusKind, read_block}
use Rattle.sbp_world.proofs.Words.Laws.{access_in_bytes}
use Rattle.sbp_world.proofs.Words.World.{has_list, IsFifo, IsStatusWrite}
use Rattle.bus_memory.specs.declared.window.Window.TheVariants as windows
use Rattle.orb_layout.specs.declared.ask.Ask.TheVariants as asks
use Rattle.orb_layout.specs.declared.ask.FailCause.TheVariants as causes
use Rattle.sbp_target.specs.declared.purpose.Purpose.TheVariants as purposes
use Rattle.sbp_world.proofs.Lists.SameAgents.{AreSame, noted_same as told_same, set_here, set_there, with_same, noted_outbox}
use Rattle.sbp_world.proofs.Lists.StatusBytes.{Wrote, written_at, wrote}
use Rattle.sbp_world.proofs.Lists.StatusLosses.{block_ends, lost_asks, lost_present, place_ends, quiet_ahead, sent_has}
use Rattle.sbp_world.proofs.Lists.StatusPackets.{AllFed, AllLogged, IsLogged, all_logged, logged_more, plain_logged, AllNamed, AllRead, AreOf, EndSide, IsEnd, IsEndOf, IsFed, IsFedBy, IsInbox, IsNamed, IsOfEnd, Spelled, ToldSo, all_fed, all_named, all_reads, apart_named, at_own, end_of, fed_more, named_more, of_another, of_buffer, of_fifo, one_plain, one_writes, or_before, read_apart, read_fed, read_plain, reads_more, spelled_as, step_end, step_of, step_packets, told_end}
use Rattle.sbp_world.proofs.Lists.StatusReads.{IsOfBody, IsRead, asked_body, body_reads, reads_body}
use Rattle.sbp_world.proofs.Lists.StatusSteps.{EndsSo, Leaves, lost_leaves, rests, none_wrote}

-- ---- at a place
module _ (q : ℕ) (b : q < 8) (login : Login) (Ours : Type 0) (machines : ℕ → Machine) where
  abbrev A : Scene → Machine
  A s = (desk_at s.node q).agent

  -- so far nothing was written
  pub record Quiet (told : Option EndSide) (m : Machine) (s : Scene) : Type 0 where
    pub desks : length s.node.desks ≡ 8
    pub same : (p : ℕ) → (p ≡ q → ⊥) → (desk_at s.node p).agent ≡ machines p
    pub agent : A s ≡ m
    pub told_is : ToldSo q s.outbox.sides told
    pub read : AllRead s.outbox.packets

  pub record Done (told : Option EndSide) (m : Machine) (s : Scene) : Type 0 where
    pub desks : length s.node.desks ≡ 8
    pub same : (p : ℕ) → (p ≡ q → ⊥) → (desk_at s.node p).agent ≡ machines p
    pub agent : A s ≡ m
    pub told_is : ToldSo q s.outbox.sides told
    pub spelled : Spelled q login.node Ours told m s.outbox.packets
    pub named : AllNamed login.node Ours told s.outbox.packets
    pub fed : AllFed s.node.logins login Ours s.outbox.packets
    pub logged : AllLogged login Ours s.outbox.packets

  done : (told : Option EndSide) (m : Machine) (s : Scene) → Quiet told m s → Done told m s
  done told m s k = record { desks = k.desks; same = k.same; agent = k.agent; told_is = k.told_is; spelled = all_reads q login.node Ours told m s.outbox.packets k.read; named = all_named login.node Ours told s.outbox.packets k.read; fed = all_fed s.node.logins login Ours s.outbox.packets k.read; logged = all_logged login Ours s.outbox.packets k.read }

  inside : (node : NodeState) → length node.desks ≡ 8 → q < length node.desks
  inside node e = omega (arith, e)

  -- ---- a step is told
  pub noted_same : (step : AgentStep) (s : Scene) → length s.node.desks ≡ 8 → AreSame s.node (noted q step s).node
  noted_same step s e = told_same q b step s e

  noted_quiet : (step : AgentStep) (told : Option EndSide) (m : Machine) (s : Scene) → Quiet told m s → Quiet (or_before (end_of q m step.ended) told) m (noted q step s)
  noted_quiet step told m s k =
      let a = noted_same step s k.desks in
      let o = noted_outbox q step s in
      record {
        desks = a.desks ∙ k.desks;
        same = λ p f. a.agents p ∙ k.same p f;
        agent = a.agents q ∙ k.agent;
        told_is = record {
          end = ap (λ (x : OutboxState). told_end x.sides) o ∙ (step_end q (A s) step s.outbox ∙ (ap (λ (x : Machine). or_before (end_of q x step.ended) (told_end s.outbox.sides)) k.agent ∙ ap (λ x. or_before (end_of q m step.ended) x) k.told_is.end));
          of = subst (λ (x : OutboxState). AreOf q x.sides) (sym o) (step_of q (A s) step s.outbox k.told_is.of);
        };
        read = subst AllRead (sym (ap (λ (x : OutboxState). x.packets) o ∙ step_packets q (A s) step s.outbox)) k.read;
      }

  -- ---- a request
  pub record Asks (told : Option EndSide) (m : Machine) (r : Bool × Scene) : Type 0 where
    pub sent : Done told m r.1
    pub unsent : r.0 ≡ false → Quiet told m r.1

  -- what is written there is a status block of the end that was told, if it is one
  abbrev Claim : Option EndSide → Machine → ℕ → List ℕ → Type 0
  Claim told m at payload = Ours → (offset : ℕ) → offset ≡ written_at at → IsFifo offset → (block : StatusBlock) → read_block false payload ≡ Ok block → IsOfEnd q told m block

  -- and if it names a management ORB, of that
  abbrev PlaceClaim : Option EndSide → ℕ → List ℕ → Type 0
  PlaceClaim told at payload = Ours → (offset : ℕ) → offset ≡ written_at at → IsFifo offset → (block : StatusBlock) → read_block true payload ≡ Ok block → IsEndOf told block.orb

  -- and if it is written into a response buffer, that is where the FIFO of the login is
  abbrev FedClaim : ℕ → Type 0
  FedClaim at = (place : ℕ) → window_at (written_at at) ≡ Some (windows.Response place) → (at ≡ login.fifo) ⊎ (Ours → ⊥)

  -- and a status block is written to the FIFO of the login
  abbrev LoggedClaim : ℕ → Type 0
  LoggedClaim at = Ours → (offset : ℕ) → offset ≡ written_at at → IsFifo offset → offset ≡ written_at login.fifo

  abbrev Fine : Option EndSide → Machine → Option Body → Type 0
  Fine told m None = Unit {0}
  Fine told m (Some (quadlet_write at value)) = ⊥
  Fine told m (Some (block_write at payload)) = (length payload ≤ 2048) × Claim told m at payload × PlaceClaim told at payload × FedClaim at × LoggedClaim at
  Fine told m (Some (quadlet_read at)) = Unit {0}
  Fine told m (Some (block_read at asked)) = Unit {0}

  module _ (told : Option EndSide) (m : Machine) (s : Scene) (k : Quiet told m s) where
    abbrev with_main : (layer : Layer Purpose) (peer : ℕ) (label : LabelParts) → NodeState
    with_main layer peer label = with_desk (record s.node { layer = layer }) q (record (desk_at s.node q) { main = Some (record { peer = peer; label = label }) })

    main_same : (layer : Layer Purpose) (peer : ℕ) (label : LabelParts) → AreSame s.node (with_main layer peer label)
    main_same layer peer label =
        let w = with_same (record s.node { layer = layer }) q (record (desk_at s.node q) { main = Some (record { peer = peer; label = label }) }) (inside s.node k.desks) refl in
        record { desks = w.desks; agents = w.agents }

    none_sent : (layer : Layer Purpose) → Asks told m (false, scene (record s.node { layer = layer }) s.outbox)
    none_sent layer =
        let t : Quiet told m (scene (record s.node { layer = layer }) s.outbox) = record { desks = k.desks; same = k.same; agent = k.agent; told_is = k.told_is; read = k.read } in
        record { sent = done told m _ t; unsent = λ e. t }

    read_sent : (body : Body) → reads_body body ≡ true → (r : Option Asked × Layer Purpose) → IsOfBody s.node.layer login.node body r.0 → Asks told m (main_sent q login.node s.node (sent_by r s.outbox login.node))
    read_sent body e (None, layer) of = none_sent layer
    read_sent body e (Some asked, layer) of =
        let a = main_same layer login.node asked.label in
        let packet : Outgoing = record { to = login.node; label = Some asked.label; bytes = asked.bytes } in
        let is_read : IsRead asked.bytes = subst IsRead (sym of) (body_reads asked.label.number s.node.layer.node login.node body e) in
        let t = scene (with_main layer login.node asked.label) (record s.outbox { packets = s.outbox.packets ++ packet ∷ [] }) in
        let so : Quiet told m t = record {
          desks = a.desks ∙ k.desks;
          same = λ p f. a.agents p ∙ k.same p f;
          agent = a.agents q ∙ k.agent;
          told_is = k.told_is;
          read = reads_more s.outbox.packets packet k.read is_read;
        } in
        record { sent = done told m t so; unsent = λ e. so }

    write_sent : (at : ℕ) (payload : List ℕ) → length payload ≤ 2048 → Claim told m at payload → PlaceClaim told at payload → FedClaim at → LoggedClaim at → (r : Option Asked × Layer Purpose) → IsOfBody s.node.layer login.node (block_write at payload) r.0 → Asks told m (main_sent q login.node s.node (sent_by r s.outbox login.node))
    write_sent at payload small claim named fed logged (None, layer) of = none_sent layer
    write_sent at payload small claim named fed logged (Some asked, layer) of =
        let a = main_same layer login.node asked.label in
        let packet : Outgoing = record { to = login.node; label = Some asked.label; bytes = asked.bytes } in
        let t = scene (with_main layer login.node asked.label) (record s.outbox { packets = s.outbox.packets ++ packet ∷ [] }) in
        record {
          sent = record {
            desks = a.desks ∙ k.desks;
            same = λ p f. a.agents p ∙ k.same p f;
            agent = a.agents q ∙ k.agent;
            told_is = k.told_is;
            spelled = one_writes q login.node Ours told m s.outbox.packets packet (λ slot block w. of_write packet refl slot block w) k.read;
            named = named_more login.node Ours told s.outbox.packets packet (all_named login.node Ours told s.outbox.packets k.read) (λ place w. of_place packet refl place w);
            fed = fed_more s.node.logins login Ours s.outbox.packets packet (all_fed s.node.logins login Ours s.outbox.packets k.read) (λ x. of_buffers packet refl x);
            logged = logged_more login Ours s.outbox.packets packet (all_logged login Ours s.outbox.packets k.read) (of_logged packet refl);
          };
          unsent = λ e. absurd (let z : true ≡ false = e in cc);
        }
      where
        of_write : (packet : Outgoing) → packet ≡ record { to = login.node; label = Some asked.label; bytes = asked.bytes } → (slot : ℕ) (block : StatusBlock) → IsStatusWrite packet.bytes slot block → IsEnd q login.node Ours told m packet block
        of_write packet is slot block w =
            let bytes_are = ap (λ (p : Outgoing). p.bytes) is ∙ of in
            let x : Wrote w.access at payload = wrote asked.label.number s.node.layer.node login.node at payload small w.access (subst (λ bytes. access_in_bytes bytes ≡ Some w.access) bytes_are w.is) in
            record {
              to_is = ap (λ (p : Outgoing). p.to) is;
              of = λ ours. claim ours w.access.offset x.offset_is w.goes block (ap (λ xs. read_block false xs) (sym x.payload_is) ∙ w.reads);
            }

        of_place : (packet : Outgoing) → packet ≡ record { to = login.node; label = Some asked.label; bytes = asked.bytes } → IsNamed login.node Ours told packet
        of_place packet is place w =
            let bytes_are = ap (λ (p : Outgoing). p.bytes) is ∙ of in
            let x : Wrote w.access at payload = wrote asked.label.number s.node.layer.node login.node at payload small w.access (subst (λ bytes. access_in_bytes bytes ≡ Some w.access) bytes_are w.is) in (
              ap (λ (p : Outgoing). p.to) is,
              λ ours. (let e = named ours w.access.offset x.offset_is w.goes w.block (ap (λ xs. read_block true xs) (sym x.payload_is) ∙ w.reads) in record { one = e.one; is = e.is; orb_is = e.orb_is ∙ w.names }),
            )

        of_logged : (packet : Outgoing) → packet ≡ record { to = login.node; label = Some asked.label; bytes = asked.bytes } → IsLogged login Ours packet
        of_logged packet is ours slot block w access e =
            let bytes_are = ap (λ (p : Outgoing). p.bytes) is ∙ of in
            let x : Wrote access at payload = wrote asked.label.number s.node.layer.node login.node at payload small access (subst (λ bytes. access_in_bytes bytes ≡ Some access) bytes_are e) in
            logged ours access.offset x.offset_is (subst (λ (a : Access). IsFifo a.offset) (same_Some w.access access (sym w.is ∙ e)) w.goes)

        of_buffers : (packet : Outgoing) → packet ≡ record { to = login.node; label = Some asked.label; bytes = asked.bytes } → IsFed s.node.logins login Ours packet
        of_buffers packet is y =
            let bytes_are = ap (λ (p : Outgoing). p.bytes) is ∙ of in
            let x : Wrote y.access at payload = wrote asked.label.number s.node.layer.node login.node at payload small y.access (subst (λ bytes. access_in_bytes bytes ≡ Some y.access) bytes_are y.is) in
            by (ap (λ (p : Outgoing). p.to) is) x.offset_is (fed y.place (ap window_at (sym x.offset_is) ∙ y.goes))
          where
            by : {to offset : ℕ} → to ≡ login.node → offset ≡ written_at at → (at ≡ login.fifo) ⊎ (Ours → ⊥) → IsFedBy s.node.logins login Ours to offset
            by to_is offset_is (inl e) = at_own to_is (offset_is ∙ ap written_at e)
            by to_is offset_is (inr f) = of_another to_is f

    main_asks : (body : Option Body) → Fine told m body → Asks told m (main_asked body q login s)
    unfolding request_step
    main_asks None f = record { sent = done told m s k; unsent = λ e. k }
    main_asks (Some (quadlet_write at value)) f = absurd f
    main_asks (Some (block_write at payload)) f =
        let body = block_write at payload in
        write_sent at payload f.0 f.1 f.2 f.3 f.4 (asking_step s.node.layer login.node body (purposes.Agent q)) (asked_body s.node.layer login.node body (purposes.Agent q))
    main_asks (Some (quadlet_read at)) f = let body = quadlet_read at in read_sent body refl (asking_step s.node.layer login.node body (purposes.Agent q)) (asked_body s.node.layer login.node body (purposes.Agent q))
    main_asks (Some (block_read at asked)) f = let body = block_read at asked in read_sent body refl (asking_step s.node.layer login.node body (purposes.Agent q)) (asked_body s.node.layer login.node body (purposes.Agent q))

  -- ---- what a step asks for
  -- What is written behind a step that ended no ORB goes to no FIFO, and into no response buffer.
  pub record Mild (step : AgentStep) (m : Machine) : Type 0 where
    pub ends : IfSome step.ended (λ kind. EndsSo kind m)
    pub small : Ours → is_some step.ended ≡ true → m.present < 2 ^ 48
    pub apart : Ours → step.ended ≡ None → (offset size : ℕ) → step.ask ≡ asks.Write offset size → IsInbox (written_at offset) → ⊥

  pick_fine : (told : Option EndSide) (m : Machine) (x : Bool) (body : Option Body) → (x ≡ true → Fine told m body) → Fine told m (cond x body None)
  pick_fine told m true body f = f refl
  pick_fine told m false body f = tt

  claims : (early : Option EndSide) (m : Machine) (ended : Option StatusKind) (at offset : ℕ) → at ≡ cond (is_some ended) login.fifo offset → IfSome ended (λ kind. EndsSo kind m) → (Ours → is_some ended ≡ true → m.present < 2 ^ 48) → (Ours → ended ≡ None → IsInbox (written_at offset) → ⊥) → Claim (or_before (end_of q m ended) early) m at m.outgoing
  claims early m None at offset is ends small apart ours other w fifo block e = absurd (apart ours refl (of_fifo (subst IsFifo (w ∙ ap written_at is) fifo)))
  claims early m (Some kind) at offset is ends small apart ours other w fifo block e = block_ends q kind m early ends (small ours refl) block e

  place_claims : (early : Option EndSide) (m : Machine) (ended : Option StatusKind) (at offset : ℕ) → at ≡ cond (is_some ended) login.fifo offset → IfSome ended (λ kind. EndsSo kind m) → (Ours → is_some ended ≡ true → m.present < 2 ^ 48) → (Ours → ended ≡ None → IsInbox (written_at offset) → ⊥) → PlaceClaim (or_before (end_of q m ended) early) at m.outgoing
  place_claims early m None at offset is ends small apart ours other w fifo block e = absurd (apart ours refl (of_fifo (subst IsFifo (w ∙ ap written_at is) fifo)))
  place_claims early m (Some kind) at offset is ends small apart ours other w fifo block e = place_ends q kind m early ends (small ours refl) block e

  fed_claims : (ended : Option StatusKind) (at offset : ℕ) → at ≡ cond (is_some ended) login.fifo offset → (Ours → ended ≡ None → IsInbox (written_at offset) → ⊥) → FedClaim at
  fed_claims None at offset is apart place goes = inr (λ ours. apart ours refl (of_buffer place (ap (λ n. window_at (written_at n)) (sym is) ∙ goes)))
  fed_claims (Some kind) at offset is apart place goes = inl is

  logged_claims : (ended : Option StatusKind) (at offset : ℕ) → at ≡ cond (is_some ended) login.fifo offset → (Ours → ended ≡ None → IsInbox (written_at offset) → ⊥) → LoggedClaim at
  logged_claims None at offset is apart ours other w fifo = absurd (apart ours refl (of_fifo (subst IsFifo (w ∙ ap written_at is) fifo)))
  logged_claims (Some kind) at offset is apart ours other w fifo = w ∙ ap written_at is

  fine_of : (early : Option EndSide) (m : Machine) (step : AgentStep) → Mild step m → (ask : Ask) → step.ask ≡ ask → Fine (or_before (end_of q m step.ended) early) m (agent_body ask (is_some step.ended) login.fifo m.outgoing)
  fine_of early m step mild asks.Nothing e = tt
  fine_of early m step mild (asks.Read offset len) e = pick_fine _ m (nat_le len 2048) (Some (block_read offset len)) (λ f. tt)
  fine_of early m step mild (asks.Write offset size) e =
      pick_fine _ m (nat_le (length m.outgoing) 2048) (Some (block_write (cond (is_some step.ended) login.fifo offset) m.outgoing)) (λ f. (
        (let z : length m.outgoing ≤ 2048 = grind (arith, nat_tests) in z),
        claims early m step.ended (cond (is_some step.ended) login.fifo offset) offset refl mild.ends mild.small (λ ours none. mild.apart ours none offset size e),
        place_claims early m step.ended (cond (is_some step.ended) login.fifo offset) offset refl mild.ends mild.small (λ ours none. mild.apart ours none offset size e),
        fed_claims step.ended (cond (is_some step.ended) login.fifo offset) offset refl (λ ours none. mild.apart ours none offset size e),
        logged_claims step.ended (cond (is_some step.ended) login.fifo offset) offset refl (λ ours none. mild.apart ours none offset size e),
      ))

  step_asks : (early : Option EndSide) (m : Machine) (step : AgentStep) → Mild step m → (s : Scene) → Quiet (or_before (end_of q m step.ended) early) m s → Asks (or_before (end_of q m step.ended) early) m (ask_main q login step s)
  unfolding ask_main
  step_asks early m step mild s k =
      main_asks (or_before (end_of q m step.ended) early) m s k (agent_body step.ask (is_some step.ended) login.fifo (A s).outgoing)
      (subst (λ (x : Machine). Fine (or_before (end_of q m step.ended) early) m (agent_body step.ask (is_some step.ended) login.fifo x.outgoing)) (sym k.agent) (fine_of early m step mild step.ask refl))

  -- ---- the main request finds no label
  abbrev Loss : Machine → AgentStep × Machine
  Loss m = lost_step m Main causes.Label

  agent_set : (node : NodeState) (m : Machine) → length node.desks ≡ 8 → (desk_at (with_agent node q m) q).agent ≡ m
  agent_set node m e = ap (λ (x : Desk). x.agent) (set_here node q (record (desk_at node q) { agent = m }) (inside node e))

  other_set : (node : NodeState) (m : Machine) (p : ℕ) → length node.desks ≡ 8 → (p ≡ q → ⊥) → (desk_at (with_agent node q m) p).agent ≡ (desk_at node p).agent
  other_set node m p e f = ap (λ (x : Desk). x.agent) (set_there node q p (record (desk_at node q) { agent = m }) (inside node e) f)

  loss_mild : (m : Machine) → (Ours → m.present < 2 ^ 48) → Mild (Loss m).0 (Loss m).1
  loss_mild m small = record {
    ends = (lost_leaves m Main causes.Label).ends;
    small = λ ours e. subst (λ n. n < 2 ^ 48) (sym (lost_present m causes.Label)) (small ours);
    apart = λ ours e offset size w f. none_wrote offset size (sym (lost_asks m causes.Label e) ∙ w);
  }

  -- behind it
  pub record Lost (told : Option EndSide) (m : Machine) (r : Bool × Scene) : Type 0 where
    pub now_told : Option EndSide
    pub now : Machine
    pub asks_so : Asks now_told now r
    pub small : (Ours → m.present < 2 ^ 48) → Ours → now.present < 2 ^ 48
    pub rest : now_told ≡ None → rests now ≡ true → rests m ≡ true
    pub early : now_told ≡ None → told ≡ None

  late_none : (x : Option StatusKind) (m : Machine) (told : Option EndSide) → or_before (end_of q m x) told ≡ None → x ≡ None
  late_none None m told e = refl
  late_none (Some kind) m told e = absurd (let z : Some (record { place = q; orb = orb_of m; kind = kind }) ≡ None = e in cc)

  early_none : (x : Option StatusKind) (m : Machine) (told : Option EndSide) → or_before (end_of q m x) told ≡ None → told ≡ None
  early_none None m told e = e
  early_none (Some kind) m told e = absurd (let z : Some (record { place = q; orb = orb_of m; kind = kind }) ≡ None = e in cc)

  lost_quiet : (x : Bool) (told : Option EndSide) (m : Machine) (s : Scene) → is_sent (A s).phase ≡ x → (Ours → has_list m.phase ≡ true → m.present < 2 ^ 48) → Quiet told m s → Lost told m (lost_by x q login Main s)
  lost_quiet false told m s e small k = record {
    now_told = told;
    now = m;
    asks_so = record { sent = done told m s k; unsent = λ f. k };
    small = λ f. f;
    rest = λ f r. r;
    early = λ f. f;
  }
  lost_quiet true told m s e small k =
      let l = lost_step (A s) Main causes.Label in
      let here : Loss m ≡ l = ap (λ (x : Machine). Loss x) (sym k.agent) in
      let has : has_list m.phase ≡ true = sent_has m.phase (ap (λ (x : Machine). is_sent x.phase) (sym k.agent) ∙ e) in
      let t = scene (with_agent s.node q l.1) s.outbox in
      let first : Quiet told l.1 t = record {
        desks = length-set s.node.desks q (record (desk_at s.node q) { agent = l.1 }) ∙ k.desks;
        same = λ p f. other_set s.node l.1 p k.desks f ∙ k.same p f;
        agent = agent_set s.node l.1 k.desks;
        told_is = k.told_is;
        read = k.read;
      } in
      let mild : Mild l.0 l.1 = subst (λ (x : AgentStep × Machine). Mild x.0 x.1) here (loss_mild m (λ ours. small ours has)) in
      let stays = subst (λ (x : AgentStep × Machine). Leaves m x) here (lost_leaves m Main causes.Label) in
      let present : l.1.present ≡ m.present = ap (λ (x : AgentStep × Machine). x.1.present) (sym here) ∙ lost_present m causes.Label in
      record {
        now_told = or_before (end_of q l.1 l.0.ended) told;
        now = l.1;
        asks_so = step_asks told l.1 l.0 mild (noted q l.0 t) (noted_quiet l.0 told l.1 t first);
        small = λ f ours. subst (λ n. n < 2 ^ 48) (sym present) (small ours has);
        rest = λ f r. stays.stays (late_none l.0.ended l.1 told f) r;
        early = λ f. early_none l.0.ended l.1 told f;
      }

  -- ---- behind all of it
  pub record Followed (first : Option EndSide) (m : Machine) (s : Scene) : Type 0 where
    pub told : Option EndSide
    pub now : Machine
    pub so : Done told now s
    pub rest : told ≡ None → rests now ≡ true → rests m ≡ true
    pub early : told ≡ None → first ≡ None

  losing : (told : Option EndSide) (m : Machine) (s : Scene) → (Ours → has_list m.phase ≡ true → m.present < 2 ^ 48) → Quiet told m s → Lost told m (lose q login Main s)
  unfolding lose
  losing told m s small k = lost_quiet (is_under_way Main (desk_at s.node q).agent) told m s refl small k

  behind_loss : (told : Option EndSide) (m : Machine) (small : Ours → m.present < 2 ^ 48) (r : Bool × Scene) → Lost told m r → Followed told m (after_loss q login r)
  behind_loss told m small (true, s) l = record { told = l.now_told; now = l.now; so = l.asks_so.sent; rest = l.rest; early = l.early }
  behind_loss told m small (false, s) l =
      let k = l.asks_so.unsent refl in
      let again = losing l.now_told l.now s (λ ours h. l.small small ours) k in
      record { told = again.now_told; now = again.now; so = again.asks_so.sent; rest = λ e r. l.rest (again.early e) (again.rest e r); early = λ e. l.early (again.early e) }

  idle_main : (told : Option EndSide) (m : Machine) (s : Scene) → Quiet told m s → is_sent (A s).phase ≡ false → Followed told m (after_loss q login (lose q login Main s))
  unfolding lose
  idle_main told m s k unsent =
      subst (λ y. Followed told m (after_loss q login (lost_by y q login Main s))) (sym unsent)
      (record { told = told; now = m; so = done told m s k; rest = λ f r. r; early = λ f. f })

  unsent_by : (told : Option EndSide) (m : Machine) (s : Scene) → Quiet told m s → has_list m.phase ≡ false → (y : Bool) → is_sent (A s).phase ≡ y → is_sent (A s).phase ≡ false
  unsent_by told m s k e false f = f
  unsent_by told m s k e true f = absurd (false≢true (sym e ∙ sent_has m.phase (ap (λ (x : Machine). is_sent x.phase) (sym k.agent) ∙ f)))

  loses_main : (told : Option EndSide) (m : Machine) (s : Scene) → (Ours → has_list m.phase ≡ true → m.present < 2 ^ 48) → Quiet told m s → Followed told m (lose_main q login s)
  unfolding lose_main
  loses_main told m s small k = by (has_list m.phase) refl
    where
      by : (x : Bool) → has_list m.phase ≡ x → Followed told m (after_loss q login (lose q login Main s))
      by true e = behind_loss told m (λ ours. small ours e) (lose q login Main s) (losing told m s small k)
      by false e = idle_main told m s k (unsent_by told m s k e (is_sent (A s).phase) refl)

  -- ---- the read ahead
  ahead_same : (s : Scene) (layer : Layer Purpose) (label : LabelParts) → length s.node.desks ≡ 8 → AreSame s.node (with_desk (record s.node { layer = layer }) q (record (desk_at s.node q) { ahead = Some (record { peer = login.node; label = label }) }))
  ahead_same s layer label e =
      let w = with_same (record s.node { layer = layer }) q (record (desk_at s.node q) { ahead = Some (record { peer = login.node; label = label }) }) (inside s.node e) refl in
      record { desks = w.desks; agents = w.agents }

  module _ (told : Option EndSide) (m : Machine) (s : Scene) (d : Done told m s) where
    one_more : (body : Body) → reads_body body ≡ true → (r : Option Asked × Layer Purpose) → IsOfBody s.node.layer login.node body r.0 → Done told m (ahead_sent q login.node s.node (sent_by r s.outbox login.node)).1
    one_more body e (None, layer) of = record { desks = d.desks; same = d.same; agent = d.agent; told_is = d.told_is; spelled = d.spelled; named = d.named; fed = d.fed; logged = d.logged }
    one_more body e (Some asked, layer) of =
        let a = ahead_same s layer asked.label d.desks in
        let packet : Outgoing = record { to = login.node; label = Some asked.label; bytes = asked.bytes } in
        let is_read : IsRead asked.bytes = subst IsRead (sym of) (body_reads asked.label.number s.node.layer.node login.node body e) in
        record {
          desks = a.desks ∙ d.desks;
          same = λ p f. a.agents p ∙ d.same p f;
          agent = a.agents q ∙ d.agent;
          told_is = d.told_is;
          spelled = one_plain q login.node Ours told m s.outbox.packets packet (read_plain packet is_read) d.spelled;
          named = named_more login.node Ours told s.outbox.packets packet d.named (apart_named login.node Ours told packet (read_apart packet is_read));
          fed = fed_more s.node.logins login Ours s.outbox.packets packet d.fed (read_fed s.node.logins login Ours packet is_read);
          logged = logged_more login Ours s.outbox.packets packet d.logged (plain_logged login Ours packet (read_plain packet is_read));
        }

    pick_done : (x : Bool) (r t : Bool × Scene) → Done told m r.1 → Done told m t.1 → Done told m (cond x r t).1
    pick_done true r t h k = h
    pick_done false r t h k = k

    ahead_by : (body : Option Body) → ((one : Body) → body ≡ Some one → reads_body one ≡ true) → Done told m (ahead_asked body q login s).1
    unfolding request_step
    ahead_by None f = d
    ahead_by (Some body) f =
        pick_done _ (false, s) (ahead_sent q login.node s.node (request_step s.node.layer s.outbox login.node body (purposes.Agent q))) d
        (one_more body (f body refl) (asking_step s.node.layer login.node body (purposes.Agent q)) (asked_body s.node.layer login.node body (purposes.Agent q)))

    picked_reads : (x : Bool) (offset len : ℕ) (one : Body) → cond x (Some (block_read offset len)) None ≡ Some one → reads_body one ≡ true
    picked_reads true offset len one e = ap reads_body (sym (same_Some (block_read offset len) one e))
    picked_reads false offset len one e = absurd (none-some one e)

    ahead_reads : (ask : Ask) (outgoing : List ℕ) → ((offset size : ℕ) → ask ≡ asks.Write offset size → ⊥) → (one : Body) → agent_body ask false login.fifo outgoing ≡ Some one → reads_body one ≡ true
    ahead_reads asks.Nothing outgoing f one e = absurd (none-some one e)
    ahead_reads (asks.Read offset len) outgoing f one e = picked_reads (nat_le len 2048) offset len one e
    ahead_reads (asks.Write offset size) outgoing f one e = absurd (f offset size refl)

    sends_ahead : (ask : Ask) → ((offset size : ℕ) → ask ≡ asks.Write offset size → ⊥) → Done told m (send_ahead q login ask s).1
    unfolding send_ahead
    sends_ahead ask f = ahead_by (agent_body ask false login.fifo (desk_at s.node q).agent.outgoing) (ahead_reads ask (desk_at s.node q).agent.outgoing f)

  -- it finds no label
  quiet_noted : (s : Scene) → noted q quiet s ≡ s
  unfolding noted tell_step
  quiet_noted s = refl

  quiet_asks : (s : Scene) → ask_main q login quiet s ≡ (true, s)
  unfolding ask_main
  quiet_asks s = refl

  ahead_lose_by : (x : Bool) (told : Option EndSide) (m : Machine) (s : Scene) → Done told m s → (n : Machine) × (Done told n (lost_by x q login Ahead s).1 × (rests n ≡ true → rests m ≡ true))
  ahead_lose_by false told m s d = (m, (d, λ r. r))
  ahead_lose_by true told m s d =
      let l = lost_step (A s) Ahead causes.Label in
      let none : l.0 ≡ quiet = quiet_ahead (A s) causes.Label in
      let t = scene (with_agent s.node q l.1) s.outbox in
      let is : ask_main q login l.0 (noted q l.0 t) ≡ (true, t) = ap (λ x. ask_main q login x (noted q x t)) none ∙ (ap (λ x. ask_main q login quiet x) (quiet_noted t) ∙ quiet_asks t) in
      let stays : rests l.1 ≡ true → rests m ≡ true = λ r. ap (λ (x : Machine). rests x) (sym d.agent) ∙ (lost_leaves (A s) Ahead causes.Label).stays (ap (λ (x : AgentStep). x.ended) none) r in
      let there : Done told l.1 t = record {
        desks = length-set s.node.desks q (record (desk_at s.node q) { agent = l.1 }) ∙ d.desks;
        same = λ p f. other_set s.node l.1 p d.desks f ∙ d.same p f;
        agent = agent_set s.node l.1 d.desks;
        told_is = d.told_is;
        spelled = spelled_as q login.node Ours told m l.1 stays s.outbox.packets d.spelled;
        named = d.named;
        fed = d.fed;
        logged = d.logged;
      } in
      (l.1, (subst (λ (x : Bool × Scene). Done told l.1 x.1) (sym is) there, stays))

  ahead_loses : (told : Option EndSide) (m : Machine) (s : Scene) → Done told m s → (n : Machine) × (Done told n (lose q login Ahead s).1 × (rests n ≡ true → rests m ≡ true))
  unfolding lose
  ahead_loses told m s d = ahead_lose_by (is_under_way Ahead (desk_at s.node q).agent) told m s d

  behind_ahead : (told : Option EndSide) (m base : Machine) → (told ≡ None → rests m ≡ true → rests base ≡ true) → (r : Bool × Scene) → Done told m r.1 → Followed told base (after_ahead q login r)
  behind_ahead told m base h (true, s) d = record { told = told; now = m; so = d; rest = h; early = λ e. e }
  behind_ahead told m base h (false, s) d =
      let x = ahead_loses told m s d in record { told = told; now = x.0; so = x.1.0; rest = λ e r. h e (x.1.1 r); early = λ e. e }

  -- ---- what follows a step
  pub record Step (step : AgentStep) (m : Machine) : Type 0 where
    pub mild : Mild step m
    pub small : Ours → has_list m.phase ≡ true → m.present < 2 ^ 48
    pub ahead : (offset size : ℕ) → step.ahead ≡ asks.Write offset size → ⊥

  behind_main : (base : Machine) (m : Machine) (step : AgentStep) → Step step m → (step.ended ≡ None → rests m ≡ true → rests base ≡ true) → (r : Bool × Scene) → Asks (or_before (end_of q m step.ended) None) m r → Followed (or_before (end_of q m step.ended) None) base (after_main q login step r)
  behind_main base m step ok h (true, s) a =
      behind_ahead (or_before (end_of q m step.ended) None) m base (λ e. h (late_none step.ended m None e)) (send_ahead q login step.ahead s) (sends_ahead (or_before (end_of q m step.ended) None) m s a.sent step.ahead ok.ahead)
  behind_main base m step ok h (false, s) a =
      let f = loses_main (or_before (end_of q m step.ended) None) m s ok.small (a.unsent refl) in
      record { told = f.told; now = f.now; so = f.so; rest = λ e r. h (late_none step.ended m None (f.early e)) (f.rest e r); early = f.early }

  pub follows : (base m : Machine) (step : AgentStep) (s : Scene) → Step step m → (step.ended ≡ None → rests m ≡ true → rests base ≡ true) → Quiet None m s → Followed (or_before (end_of q m step.ended) None) base (follow q login step s)
  unfolding follow
  follows base m step s ok h k =
      let t = noted q step s in
      behind_main base m step ok h (ask_main q login step t) (step_asks None m step ok.mild t (noted_quiet step None m s k))
