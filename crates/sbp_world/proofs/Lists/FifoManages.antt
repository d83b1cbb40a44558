-- A turn of the target's management as a reply takes its operation on: the one packet that it sends is that of the operation; and where it is a block that names a
-- management ORB, it is the status block with which this operation ends, for the node that it is of.
use Rattle.sbp_world.proofs.Words.Std.{◌≡◌, ◌∙◌, ◌⊎◌, inl, inr, refl, sym, ap, subst, ◌<◌, ◌+◌, ◌^◌, ◌&&◌, not, nat_eq, nat_le, ℕ, suc, Bool, true, false, cond, List, [], length, Option, Some, None, Ok, arith, nat_tests, same_Some}
use Rattle.sbp_world.proofs.Words.Wire.{largest, AreBytes, FitsRequest, Asked, Body, block_read, block_write, quadlet_read, quadlet_write, Layer, GenerationsState, node_of, topology_at, Access, OutboxState, Moment, Terms, terms}
use Rattle.sbp_world.proofs.Words.Target.{Operation, status_block, Disk, Purpose, manager_body, NodeState, scene, request_packet}
use Rattle.sbp_world.proofs.Words.Initiator.{start_of, window_at, Ask, ManagementOrb, StatusBlock, read_block}
use Rattle.sbp_world.proofs.Words.Laws.{access_in_bytes, Target, is_nothing, is_serial, wants, EachMoment}
use Rattle.sbp_world.proofs.Words.World.{handed_out, posted, sent, sent_all, sent_to, told_all, WorldState, Office, by_sides, IsClearFifo, access_for, IsPlaceWrite, is_its_packet, IsBufferWrite, is_responding}
use Rattle.bus_memory.specs.declared.window.Window.TheVariants as windows
use Rattle.mgmt_agent.specs.declared.operation.Phase.{Phase}
use Rattle.mgmt_agent.specs.declared.operation.Phase.TheVariants as phases
use Rattle.mgmt_agent.specs.Machine as management
use Rattle.orb_layout.specs.declared.ask.Ask.TheVariants as asks
use Rattle.sbp_target.specs.declared.purpose.Purpose.TheVariants as purposes
use Rattle.sbp_world.proofs.FitTarget.Agents.{FitsAsk}
use Rattle.sbp_world.proofs.FitTarget.Nodes.{IfBody, manager_body_fits}
use Rattle.sbp_world.proofs.Wire.Alike.{told_alike}
use Rattle.sbp_target.proofs.Histories.Seats.{Lives}
use Rattle.sbp_world.proofs.Agents.AskedBytes.{reads_back}
use Rattle.sbp_world.proofs.Agents.Management.Asking.{Leaves, MayLeave, Turned, leaves, silent}
use Rattle.sbp_world.proofs.Agents.Management.Idle.{IsIdle}
use Rattle.sbp_world.proofs.Agents.Management.Managed.{IsReady, one_sent}
use Rattle.sbp_world.proofs.Agents.Management.Outs.{request_office, requested, sides_idle, told_terms}
use Rattle.sbp_world.proofs.Agents.Management.Requests.{IsRequestFor, asked_labelled, asks_as, body_wants, writes_body}
use Rattle.sbp_world.proofs.Agents.Management.Still.{hist}
use Rattle.sbp_world.proofs.Agents.Management.Told.{all_sides, office_in, term_in}
use Rattle.sbp_world.proofs.Agents.Management.Turning.{asks_id}
use Rattle.sbp_world.proofs.Lists.ContentPhases.{AskOf, sits}
use Rattle.sbp_world.proofs.Lists.ContentTurns.{body_access}
use Rattle.sbp_world.proofs.Lists.FifoLines.{IsWatched, WatchedSo, WriteSo}
use Rattle.sbp_world.proofs.Lists.FifoReplies.{sides_same}
use Rattle.sbp_world.proofs.Lists.StatusBytes.{reads_as}
use Rattle.sbp_world.proofs.Lists.StatusManaged.{Unread, named_orb}
use Rattle.sbp_world.proofs.Common.{untrue}

none_body : {A : Type 0} (body : Body) → None ≡ Some body → A
none_body body e = absurd (let no : None ≡ Some body = e in cc)

-- ---- something is asked for
asks_some : (ask : Ask) (out : List ℕ) (body : Body) → manager_body ask out ≡ Some body → is_nothing ask ≡ false
asks_some asks.Nothing out body e = none_body body e
asks_some (asks.Read offset size) out body e = refl
asks_some (asks.Write offset size) out body e = refl

-- an operation stands, as something is asked for
has_operation : (ask : Ask) (operation : Option Operation) → (operation ≡ None → ask ≡ asks.Nothing) → is_nothing ask ≡ false → (op : Operation) × (operation ≡ Some op)
has_operation ask (Some op) f e = (op, refl)
has_operation ask None f e = untrue (sym e ∙ ap is_nothing (f refl))

serial_itself : (serial : ℕ) → is_serial (Some serial) serial ≡ true
serial_itself serial = let z : nat_eq serial serial ≡ true = grind (arith, nat_tests) in z

-- it is the packet of the operation
its_by : (before now : Target) (serial : ℕ) → is_nothing before.manager_asks ≡ false → now.manager_asks ≡ asks.Nothing → now.manages ≡ Some serial → is_its_packet before now serial ≡ true
its_by before now serial e f g =
    ap (λ b. not b && (is_nothing now.manager_asks && is_serial now.manages serial)) e
    ∙ ap (λ (a : Ask). is_nothing a && is_serial now.manages serial) f
    ∙ ap (λ (m : Option ℕ). is_serial m serial) g
    ∙ serial_itself serial

-- ---- what is written
-- a write was asked for
ask_write : (ask : Ask) → wants ask true ≡ true → (at : ℕ) × ((len : ℕ) × (ask ≡ asks.Write at len))
ask_write asks.Nothing e = untrue e
ask_write (asks.Read offset size) e = untrue e
ask_write (asks.Write offset size) e = (offset, (size, refl))

access_writes : (body : Body) → (access_for body).is_write ≡ true → writes_body body ≡ true
access_writes (quadlet_write offset value) e = refl
access_writes (block_write offset payload) e = refl
access_writes (quadlet_read offset) e = untrue e
access_writes (block_read offset count) e = untrue e

written_by : (b : Bool) (at : ℕ) (out : List ℕ) (body : Body) → cond b (Some (block_write at out)) None ≡ Some body → (access_for body).payload ≡ out
written_by true at out body e = let is : block_write at out ≡ body = cc in ap (λ (x : Body). (access_for x).payload) (sym is)
written_by false at out body e = none_body body e

-- its bytes are those that there were
written_out : (ask : Ask) (at len : ℕ) (out : List ℕ) (body : Body) → ask ≡ asks.Write at len → manager_body ask out ≡ Some body → (access_for body).payload ≡ out
written_out ask at len out body e f = written_by (nat_le (length out) largest) at out body (sym (ap (λ a. manager_body a out) e) ∙ f)

written_where : (b : Bool) (at : ℕ) (out : List ℕ) (body : Body) → cond b (Some (block_write at out)) None ≡ Some body → (access_for body).offset ≡ at
written_where true at out body e = let is : block_write at out ≡ body = cc in ap (λ (x : Body). (access_for x).offset) (sym is)
written_where false at out body e = none_body body e

-- and it goes where that asks
written_to : (ask : Ask) (at len : ℕ) (out : List ℕ) (body : Body) → ask ≡ asks.Write at len → manager_body ask out ≡ Some body → (access_for body).offset ≡ at
written_to ask at len out body e f = written_where (nat_le (length out) largest) at out body (sym (ap (λ a. manager_body a out) e) ∙ f)

pub orb_status : phases.Orb ≡ phases.Status → ⊥
orb_status e = cc

high_status : (orb : ManagementOrb) → phases.HighEui orb ≡ phases.Status → ⊥
high_status orb e = cc

low_status : (orb : ManagementOrb) (high : ℕ) → phases.LowEui orb high ≡ phases.Status → ⊥
low_status orb high e = cc

response_status : (fifo : ℕ) → phases.Response fifo ≡ phases.Status → ⊥
response_status fifo e = cc

status_or : (phase : Phase) → (phase ≡ phases.Status) ⊎ (phase ≡ phases.Status → ⊥)
status_or phases.Orb = inr orb_status
status_or (phases.HighEui orb) = inr (high_status orb)
status_or (phases.LowEui orb high) = inr (low_status orb high)
status_or (phases.Response fifo) = inr (response_status fifo)
status_or phases.Status = inl refl

-- the operation names the ORB
names_orb : (phase : Phase) (op : Operation) (ask : Ask) (out : List ℕ) (block : StatusBlock) → phase ≡ phases.Status → op.orb < 2 ^ 48 → AskOf phase op ask out → read_block true out ≡ Ok block → op.orb ≡ block.orb
names_orb phase op ask out block e small a r = by (subst (λ p. AskOf p op ask out) e a)
  where
    by : AskOf phases.Status op ask out → op.orb ≡ block.orb
    by (status, (fifo, (f, o))) =
        sym ((reads_as true (status_block op.orb status) block (ap (λ xs. read_block true xs) (sym o) ∙ r)).orb_is ∙ named_orb op.orb status small)

-- what is known of an operation as the turn goes on
pub record IsOwn (given : Type 0) (source : ℕ) (first : Office) (op : Operation) : Type 0 where
  pub source_is : op.source ≡ source
  pub small : op.orb < 2 ^ 48
  pub unread : (op.phase ≡ phases.Status → ⊥) → (at len : ℕ) → first.asks ≡ asks.Write at len → Unread first.manager.outgoing × (is_responding op.phase ≡ true)
  pub clear : given → op.phase ≡ phases.Status → (at len : ℕ) → first.asks ≡ asks.Write at len → IsClearFifo at

none_sent : (v : WorldState) → sent_all 0 [] v ≡ v
unfolding sent_all
none_sent v = refl

module _ (given : Type 0) (start : List Disk) (past : List Moment) (i : ℕ) where
  abbrev pub F : WorldState → Type 0
  F w = EachMoment (WriteSo given start i) (hist past w)

module _ (given : Type 0) (start : List Disk) (past : List Moment) (i : ℕ) (now : NodeState) (w : WorldState) (outbox : OutboxState) (first : Office) (old : Lives) (source : ℕ) (turned : Turned first old source [] (scene now outbox)) (idle : IsIdle (term_in start past w)) (office : office_in start past w ≡ first) (ready : IsReady past w source) (gen_is : (topology_at w.generations 0).generation ≡ (terms (hist past w)).generation 0) (id_small : now.layer.node < 2 ^ 16) (ask_fits : FitsAsk first.asks) (bytes : AreBytes now.manager.outgoing) (known : (op : Operation) → first.manager.operation ≡ Some op → IsOwn (given × (ready.to ≡ suc i)) source first op) (told_so : F given start past i (told_all 0 outbox.sides w)) where
  abbrev told_world : WorldState
  told_world = told_all 0 outbox.sides w

  abbrev before : List Moment
  before = hist past told_world

  abbrev t : Target
  t = term_in start past told_world

  told_idle : IsIdle t
  told_idle = sides_idle start past 0 outbox.sides w turned.says.behind idle

  told_office : office_in start past told_world ≡ turned.now
  told_office = all_sides start past 0 outbox.sides w turned.says.behind ∙ ap (λ o. by_sides outbox.sides o) office ∙ turned.says.is

  same_generations : told_world.generations ≡ w.generations
  same_generations = (told_alike 0 outbox.sides w).generations

  module _ (l : Leaves first old source turned.now now [] outbox.packets) where
    last_is : handed_out 0 0 outbox w ≡ sent 0 (request_packet source l.asked) told_world
    last_is = ap (λ ps. sent_all 0 ps told_world) l.packets_are ∙ one_sent (request_packet source l.asked) told_world

    body_fits : FitsRequest l.body
    body_fits =
        subst IfBody l.body_is
        (manager_body_fits turned.now.asks turned.now.manager.outgoing (subst FitsAsk (sym l.asks_are) ask_fits) (subst (λ (m : management.Machine). AreBytes m.outgoing) (sym turned.agrees.manager) bytes))

    is_request : IsRequestFor l.asked.label.number l.body l.asked.bytes
    is_request =
        let same : now.layer.node ≡ l.layer.node = sym (ap (λ (r : Option Asked × Layer Purpose). r.1.node) l.step) ∙ asks_id l.layer source l.body purposes.Management in
        asks_as l.layer.node source l.body l.asked (subst (λ n. n < 2 ^ 16) same id_small) ready.small body_fits
        (asked_labelled l.layer now.layer l.from.lives source l.body purposes.Management l.asked l.from.known l.step)

    reads : access_in_bytes l.asked.bytes ≡ Some (access_for l.body)
    reads =
        let labelled = asked_labelled l.layer now.layer l.from.lives source l.body purposes.Management l.asked l.from.known l.step in
        reads_back l.layer.node source l.asked.label.number l.body l.asked.bytes ready.small labelled.small body_fits labelled.bytes_are ∙ body_access l.asked.label.number l.layer.node source l.body

    there : node_of told_world.generations 0 source ≡ Some ready.to
    there = ap (λ (g : GenerationsState). node_of g 0 source) same_generations ∙ ready.there

    body_here : manager_body t.manager_asks t.manager.outgoing ≡ Some l.body
    body_here = ap (λ (o : Office). manager_body o.asks o.manager.outgoing) told_office ∙ l.body_is

    asks_here : is_nothing t.manager_asks ≡ false
    asks_here = asks_some t.manager_asks t.manager.outgoing l.body body_here

    first_asks : t.manager_asks ≡ first.asks
    first_asks = ap (λ (o : Office). o.asks) told_office ∙ l.asks_are

    abbrev serial : ℕ
    serial = told_world.store.last + 1

    abbrev generation : ℕ
    generation = (topology_at told_world.generations 0).generation

    abbrev posted_world : WorldState
    posted_world = posted 0 ready.to false l.asked.bytes told_world

    wanted : wants t.manager_asks (writes_body l.body) ≡ true
    wanted = body_wants t.manager_asks t.manager.outgoing l.body body_here

    after_office : office_in start past posted_world ≡ requested serial (office_in start past told_world)
    unfolding sent
    after_office =
        ap (λ (o : Option ℕ). office_in start past (sent_to o 0 (request_packet source l.asked) told_world)) (sym there)
        ∙ request_office start past told_world told_idle source ready.to l.body l.asked there is_request wanted

    its : is_its_packet t (term_in start past posted_world) serial ≡ true
    its = its_by t (term_in start past posted_world) serial asks_here (ap (λ (o : Office). o.asks) after_office) (ap (λ (o : Office). o.manages) after_office)

    abbrev has : (op : Operation) × (t.manager.operation ≡ Some op)
    has = has_operation t.manager_asks t.manager.operation (sits start before).1 asks_here

    abbrev op : Operation
    op = has.0

    first_is : t.manager ≡ first.manager
    first_is =
        let e : (by_sides outbox.sides first).manager.operation ≡ Some op = ap (λ (o : Office). o.manager.operation) (turned.says.is ∙ sym told_office) ∙ has.1 in
        ap (λ (o : Office). o.manager) (told_office ∙ sym turned.says.is) ∙ sides_same outbox.sides first op e

    own : IsOwn (given × (ready.to ≡ suc i)) source first op
    own = known op (ap (λ (m : management.Machine). m.operation) (sym first_is) ∙ has.1)

    source_here : ready.to ≡ suc i → op.source ≡ (terms before).ids generation (suc i)
    source_here to_is =
        let wire = told_terms past 0 outbox.sides w turned.says.behind in
        let gen : generation ≡ (terms (hist past w)).generation 0 = ap (λ (g : GenerationsState). (topology_at g 0).generation) same_generations ∙ gen_is in
        own.source_is
        ∙ sym (ap (λ (x : Terms). x.ids generation (suc i)) wire ∙ ap (λ g. (terms (hist past w)).ids g (suc i)) gen ∙ ap (λ n. (terms (hist past w)).ids ((terms (hist past w)).generation 0) n) (sym to_is) ∙ ready.id_is)

    -- a write is the status block
    module _ (place : ℕ) (x : IsPlaceWrite l.asked.bytes place) where
      access_is : x.access ≡ access_for l.body
      access_is = same_Some x.access (access_for l.body) (sym x.is ∙ reads)

      writes : writes_body l.body ≡ true
      writes = access_writes l.body (ap (λ (a : Access). a.is_write) (sym access_is) ∙ x.writes)

      abbrev asked_write : (at : ℕ) × ((len : ℕ) × (t.manager_asks ≡ asks.Write at len))
      asked_write = ask_write t.manager_asks (sym (ap (λ b. wants t.manager_asks b) writes) ∙ wanted)

      out_read : read_block true t.manager.outgoing ≡ Ok x.block
      out_read =
          ap (λ xs. read_block true xs) (sym (ap (λ (a : Access). a.payload) access_is ∙ written_out t.manager_asks asked_write.0 asked_write.1.0 t.manager.outgoing l.body asked_write.1.1 body_here))
          ∙ x.reads

      ends_so : op.phase ≡ phases.Status
      ends_so = by (status_or op.phase)
        where
          by : (op.phase ≡ phases.Status) ⊎ (op.phase ≡ phases.Status → ⊥) → op.phase ≡ phases.Status
          by (inl e) = e
          by (inr f) =
              absurd ((own.unread f asked_write.0 asked_write.1.0 (sym first_asks ∙ asked_write.1.1)).0 true x.block (ap (λ (m : management.Machine). read_block true m.outgoing) (sym first_is) ∙ out_read))

      orb_here : op.orb ≡ start_of (windows.Management place)
      orb_here = names_orb op.phase op t.manager_asks t.manager.outgoing x.block ends_so own.small ((sits start before).0 op has.1 asks_here) out_read ∙ x.names

    -- and one into a response buffer is the response
    module _ (x : IsBufferWrite l.asked.bytes) where
      buffer_access : x.access ≡ access_for l.body
      buffer_access = same_Some x.access (access_for l.body) (sym x.is ∙ reads)

      abbrev asked_buffer : (at : ℕ) × ((len : ℕ) × (t.manager_asks ≡ asks.Write at len))
      asked_buffer = ask_write t.manager_asks (sym (ap (λ b. wants t.manager_asks b) (access_writes l.body (ap (λ (a : Access). a.is_write) (sym buffer_access) ∙ x.writes))) ∙ wanted)

      goes_there : x.access.offset ≡ asked_buffer.0
      goes_there = ap (λ (a : Access). a.offset) buffer_access ∙ written_to t.manager_asks asked_buffer.0 asked_buffer.1.0 t.manager.outgoing l.body asked_buffer.1.1 body_here

      responds_in : given × (ready.to ≡ suc i) → is_responding op.phase ≡ true
      responds_in g = by (status_or op.phase)
        where
          by : (op.phase ≡ phases.Status) ⊎ (op.phase ≡ phases.Status → ⊥) → is_responding op.phase ≡ true
          by (inl e) = absurd (own.clear g e asked_buffer.0 asked_buffer.1.0 (sym first_asks ∙ asked_buffer.1.1) x.place (ap window_at (sym goes_there) ∙ x.goes))
          by (inr f) = (own.unread f asked_buffer.0 asked_buffer.1.0 (sym first_asks ∙ asked_buffer.1.1)).1

    watched_so : ready.to ≡ suc i → (kind : Option ℕ) (x : IsWatched given l.asked.bytes kind) → WatchedSo given start before i serial generation ready.to l.asked.bytes kind x
    unfolding posted
    watched_so to_is (Some place) x = record {
      its = its;
      op = op;
      operation = has.1;
      status = ends_so place x;
      orb = orb_here place x;
      source = source_here to_is;
    }
    watched_so to_is None x = record {
      its = its;
      op = op;
      operation = has.1;
      responds = responds_in x.1 (x.0, to_is);
      source = source_here to_is;
    }

    posted_so : F given start past i posted_world
    unfolding posted
    posted_so = (λ to_is kind x. watched_so to_is kind x, told_so)

    sent_so : F given start past i (sent 0 (request_packet source l.asked) told_world)
    unfolding sent
    sent_so = subst (λ o. F given start past i (sent_to o 0 (request_packet source l.asked) told_world)) (sym there) posted_so

  turn_by : MayLeave first old source turned.now now [] outbox.packets → F given start past i (handed_out 0 0 outbox w)
  turn_by (silent f p) = subst (λ ps. F given start past i (sent_all 0 ps told_world)) (sym p) (subst (F given start past i) (sym (none_sent told_world)) told_so)
  turn_by (leaves l) = subst (F given start past i) (sym (last_is l)) (sent_so l)

  pub managing_so : F given start past i (handed_out 0 0 outbox w)
  managing_so = turn_by turned.sends
