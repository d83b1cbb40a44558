-- A delivery to the target, and a time-out of its own: each block that it writes then to a FIFO of an initiator that injected no packets, in the name of a place of management, is
-- of its operation. An agent that makes a step writes none, for the ORB that ended is in a slot.
use Rattle.sbp_world.proofs.Words.Std.{◌≡◌, ◌∙◌, refl, sym, ap, subst, ◌<◌, ◌+◌, ℕ, suc, nat_lt, Bool, true, false, cond, List, [], ◌∷◌, ◌++◌, map, length, Option, Some, None, Ok}
use Rattle.sbp_world.proofs.Words.Wire.{LabelParts, Packet, header_in, Layer, judging_step, of_request, of_response, Sent, GenerationsState, node_of, judged_note, holder_at, list_in, Judged, Note, Outgoing, OutboxState, Moment, said}
use Rattle.sbp_world.proofs.Words.Target.{AgentStep, Which, Ahead, Main, lost_step, point_step, reply_step, Login, Table, is_live, place_at, ManagerStep, Operation, Disk, Held, Told, Purpose, which_in, ask_manager, decided_by, manage, managed_in, managed_with, tell_failed, with_manager, Scene, desk_at, login_at, scene, answer_in, received, timed_out, Whole, plain_in, is_barred, demand_of}
use Rattle.sbp_world.proofs.Words.Initiator.{slot_of, start_of, window_at, Ask, OrbPointer, FailCause, Expired, last_in, TicketParts}
use Rattle.sbp_world.proofs.Words.Laws.{EachMoment}
use Rattle.sbp_world.proofs.Words.World.{whole_of, handed_out, under_way, posted, leaving, sent_all, sent_to, holder, ticket_of, told_all, WorldState, initiator_at, has_list, AreOthers, IsFor, machine_at}
use Rattle.bus_memory.specs.declared.window.Window.TheVariants as windows
use Rattle.mgmt_agent.specs.declared.operation.Phase.{Phase}
use Rattle.mgmt_agent.specs.declared.operation.Phase.TheVariants as operating
use Rattle.mgmt_agent.specs.Machine as management
use Rattle.orb_layout.specs.declared.ask.Ask.TheVariants as asks
use Rattle.orb_layout.specs.declared.ask.FailCause.TheVariants as causes
use Rattle.sbp_journal.specs.declared.note.Note.TheVariants as notes
use Rattle.sbp_target.specs.declared.purpose.Purpose.TheVariants as purposes
use Rattle.sbp_world.proofs.Wire.Alike.{all_alike, told_alike}
use Rattle.target_base.specs.declared.address.Access.TheVariants as accesses
use Rattle.target_base.specs.declared.address.Demand.TheVariants as demands
use Rattle.sbp_target.proofs.Histories.Pass.{Leaves, Said, decides}
use Rattle.sbp_world.proofs.Agents.Management.Still.{hist}
use Rattle.sbp_world.proofs.Lists.Adds.{all_stay}
use Rattle.sbp_world.proofs.Lists.FifoLines.{IsAside, IsWatched, WriteSo, all_aside, is_plain, plain_on, target_hands}
use Rattle.sbp_world.proofs.Lists.FifoManages.{F}
use Rattle.sbp_world.proofs.Lists.Passing.{PassLaw}
use Rattle.sbp_world.proofs.Lists.StatusActs.{M, first}
use Rattle.sbp_world.proofs.Lists.StatusBytes.{written_at}
use Rattle.sbp_world.proofs.Lists.StatusCalls.{Called, acts, delivery_called, goes_on, idles, lapse_called}
use Rattle.sbp_world.proofs.Lists.StatusDue.{Ours, late_step_of, point_small, reply_step_of, ring_small}
use Rattle.sbp_world.proofs.Lists.StatusFollows.{Followed}
use Rattle.sbp_world.proofs.Lists.StatusLosses.{lost_asks, quiet_ahead}
use Rattle.sbp_world.proofs.Lists.StatusManaged.{place_free}
use Rattle.sbp_world.proofs.Lists.StatusPackets.{AllFed, AllNamed, AllRead, EndSide, IsEndOf, IsFed, IsFedBy, IsInbox, IsNamed, ToldSo, at_other, at_own, of_another}
use Rattle.sbp_world.proofs.Lists.StatusTold.{law_before, told_due}
use Rattle.sbp_world.proofs.Lists.StatusTurn.{Behind, IsFirst, got_first, ignored_first, judged_first, late_first}
use Rattle.sbp_world.proofs.Lists.Turns.{Ready}
use Rattle.sbp_world.proofs.Lists.StatusSteps.{none_wrote}
use Rattle.sbp_world.proofs.Agents.Management.Managed.{one_sent}

none_list : (n : ℕ) → list_in None ≡ Some n → ⊥
none_list n e = cc

-- ---- a place of management is no slot
no_slot : (place : ℕ) → place < 2 → slot_of (start_of (windows.Management place)) ≡ None
no_slot place small = by (slot_of (start_of (windows.Management place))) refl
  where
    by : (o : Option ℕ) → slot_of (start_of (windows.Management place)) ≡ o → o ≡ None
    by None e = refl
    by (Some slot) e = absurd (place_free place small slot e)

pick_none : (b : Bool) → cond {A = Option TicketParts} b None None ≡ None
pick_none true = refl
pick_none false = refl

no_ticket : (u : WorldState) (i at : ℕ) → slot_of at ≡ None → ticket_of u i at ≡ None
no_ticket u i at e =
    ap (λ s. cond (nat_lt i (length u.initiators)) (last_in (initiator_at u i).lists s) None) e ∙ pick_none (nat_lt i (length u.initiators))

first_plain : (note : Note) → IsFirst note → is_plain note ≡ true
first_plain _ (got_first serial) = refl
first_plain _ (ignored_first serial cause) = refl
first_plain _ (late_first serial) = refl

-- ---- packets that leave
module _ (given : Type 0) (start : List Disk) (i : ℕ) (past : List Moment) where
  -- those that are for the initiator write no such block
  abbrev IsKept : WorldState → Outgoing → Type 0
  IsKept w packet = node_of w.generations 0 packet.to ≡ Some (suc i) → IsAside given packet

  abbrev AllKept : WorldState → List Outgoing → Type 0
  AllKept w [] = Unit {0}
  AllKept w (packet ∷ later) = IsKept w packet × AllKept w later

  asked_keeps : (serial to node peer : ℕ) (label : Option LabelParts) (v : WorldState) → F given start past i v → F given start past i (under_way serial to node peer label v)
  asked_keeps serial to node peer None v h = h
  asked_keeps serial to node peer (Some label) v h = h

  posted_keeps : (to : ℕ) (bytes : List ℕ) (v : WorldState) → (to ≡ suc i → (kind : Option ℕ) → IsWatched given bytes kind → ⊥) → F given start past i v → F given start past i (posted 0 to false bytes v)
  unfolding posted
  posted_keeps to bytes v f h = ((λ e kind x. absurd (f e kind x)), h)

  to_keeps : (to : Option ℕ) (packet : Outgoing) (v : WorldState) → (to ≡ Some (suc i) → IsAside given packet) → F given start past i v → F given start past i (sent_to to 0 packet v)
  to_keeps None packet v f h = h
  to_keeps (Some to) packet v f h = asked_keeps (v.store.last + 1) to 0 packet.to packet.label (posted 0 to false packet.bytes v) (posted_keeps to packet.bytes v (λ e. f (ap (λ n. Some n) e)) h)

  leaving_keeps : (packet : Outgoing) (v : WorldState) → (node_of v.generations 0 packet.to ≡ Some (suc i) → IsAside given packet) → F given start past i v → F given start past i (leaving 0 packet v)
  unfolding leaving
  leaving_keeps packet v f h = to_keeps (node_of v.generations 0 packet.to) packet v f h

  all_keep : (w : WorldState) (packets : List Outgoing) (v : WorldState) → v.generations ≡ w.generations → AllKept w packets → F given start past i v → F given start past i (sent_all 0 packets v)
  unfolding sent_all
  all_keep w [] v g k h = h
  all_keep w (packet ∷ later) v g k h =
      let u = leaving 0 packet v in
      all_keep w later u (ap (λ (x : WorldState). x.generations) (sym (one_sent packet v)) ∙ (all_alike 0 (packet ∷ []) v).generations ∙ g) k.1
      (leaving_keeps packet v (λ e. k.0 (ap (λ (x : GenerationsState). node_of x 0 packet.to) (sym g) ∙ e)) h)

-- ---- a time-out of the management's transaction: nothing leaves that writes
expired_asks : (m : management.Machine) (table : Table) (keys : List (List ℕ)) → (management.reply_step m table keys Expired).0.ask ≡ asks.Nothing
unfolding management.reply_step
expired_asks m table keys = by m.operation
  where
    in_phase : (phase : Phase) (op : Operation) → op.phase ≡ phase → (management.reply_to (Some op) m table keys Expired).0.ask ≡ asks.Nothing
    in_phase operating.Orb op e = rw e refl
    in_phase (operating.HighEui orb) op e = rw e refl
    in_phase (operating.LowEui orb high) op e = rw e refl
    in_phase (operating.Response fifo) op e = rw e refl
    in_phase operating.Status op e = rw e refl

    by : (o : Option Operation) → (management.reply_to o m table keys Expired).0.ask ≡ asks.Nothing
    by None = refl
    by (Some op) = in_phase op.phase op refl

abbrev P : Said
P = λ layer packets. AllRead packets

leaves : Leaves P
leaves = record { disowns = λ layer packets peer label h. h }

failed_reads : (source : ℕ) (failed : Option FailCause) (o : OutboxState) → AllRead o.packets → AllRead (tell_failed source failed o).packets
failed_reads source None o h = h
failed_reads source (Some cause) o h = h

managed_reads : (source : ℕ) (s : Scene) (r : ManagerStep × (management.Machine × Table)) → r.0.ask ≡ asks.Nothing → AllRead s.outbox.packets → AllRead (managed_with source s r).outbox.packets
unfolding ask_manager
managed_reads source s (step, (m, t)) e h =
    let d = decided_by step.decided step.effect source (scene (with_manager s.node (m, t)) s.outbox) in
    subst (λ a. AllRead (ask_manager source a (scene d.node (tell_failed source step.failed d.outbox))).outbox.packets) (sym e)
    (failed_reads source step.failed d.outbox (decides P leaves step.decided step.effect source (scene (with_manager s.node (m, t)) s.outbox) h))

late_reads : (s : Scene) → AllRead s.outbox.packets → AllRead (manage Expired s).outbox.packets
unfolding manage
late_reads s h = by (management.source_in s.node.manager.operation)
  where
    by : (source : Option ℕ) → AllRead (managed_in source Expired s).outbox.packets
    by None = h
    by (Some source) = managed_reads source s (management.reply_step s.node.manager s.node.logins s.node.keys Expired) (expired_asks s.node.manager s.node.logins s.node.keys) h

-- ---- a call of the target

-- no live login of the target for the node of the initiator has its FIFO in a response buffer
abbrev pub IsClear : GenerationsState → ℕ → Table → Type 0
IsClear generations i table = (place : ℕ) (login : Login) → place_at table.places place ≡ Some login → is_live login ≡ true → node_of generations 0 login.node ≡ Some (suc i) → (other : ℕ) → window_at (written_at login.fifo) ≡ Some (windows.Response other) → ⊥

module _ (given : Type 0) (wild : ℕ → Bool) (i : ℕ) (own : wild i ≡ false) (start : List Disk) (past : List Moment) (w : WorldState) (r : Ready wild past w) (each : F given start past i w) (clear : given → IsClear w.generations i w.target.logins) where
  -- what goes to the node of the login of a place, and to the initiator, is of its place, and the login is live
  abbrev pub Mine : ℕ → Type 0
  Mine q = (login : Login) → login_at w.target q ≡ Some login → node_of w.generations 0 login.node ≡ Some (suc i) → ((holder w q).initiator ≡ i) × (is_live login ≡ true)

  abbrev C : Layer Purpose → Scene → Type 0
  C layer s = Called w r.good (Ours wild past w r) Mine ⊥ layer s

  module _ (s : Scene) (note : Note) (f : IsFirst note) (u : WorldState) (b : Behind note w u) (others : AreOthers s.outbox.sides) where
    abbrev x : WorldState
    x = told_all 0 s.outbox.sides u

    start_so : F given start past i u
    start_so = subst (λ ns. EachMoment (WriteSo given start i) (map said ns ++ past)) (sym b.fresh) (plain_on given start i note (hist past w) (first_plain note f) each)

    pub told_so : F given start past i x
    unfolding sent_all
    told_so = target_hands given start i past 0 (record s.outbox { packets = [] }) u others tt start_so

    pub reads_so : AllRead s.outbox.packets → F given start past i (handed_out 0 0 s.outbox u)
    reads_so k = target_hands given start i past 0 s.outbox u others (all_aside given s.outbox.packets k) start_so

    generations_are : x.generations ≡ w.generations
    generations_are = (told_alike 0 s.outbox.sides u).generations ∙ b.generations

    module _ (law : PassLaw wild (hist past (handed_out 0 0 s.outbox u))) (clear_then : given → IsClear w.generations i s.node.logins) where
      law_there : (q : ℕ) → PassLaw wild (hist past x)
      law_there q = let a = (all_stay wild past 0 s.outbox.packets x).adds in law_before past q wild i own a.later (hist past x) (subst (PassLaw wild) (sym a.is) law)

      no_end : (q : ℕ) (told : Option EndSide) → ToldSo q s.outbox.sides told → (holder w q).initiator ≡ i → (place : ℕ) → place < 2 → IsEndOf told (start_of (windows.Management place)) → ⊥
      no_end q told so mine place small e =
          let owner : (holder u q).initiator ≡ i = ap (λ ps. (holder_at ps q).initiator) b.places ∙ mine in
          let d = told_due past q wild i own s.outbox.sides u so.of e.one (so.end ∙ e.is) owner (law_there q) in
          none_list d.list (sym (ap list_in (no_ticket u i e.one.orb (ap slot_of e.orb_is ∙ no_slot place small))) ∙ d.list_is)

      acting : (layer : Layer Purpose) (q : ℕ) (c : q < 8) (login : Login) → login_at w.target q ≡ Some login → Mine q → (early : Option EndSide) (y : Followed q c login (Ours wild past w r q) (M w r.good layer) early (M w r.good layer q) s) → F given start past i (handed_out 0 0 s.outbox u)
      acting layer q c login is up early y = all_keep given start i past w s.outbox.packets x generations_are (kept s.outbox.packets y.so.named y.so.fed) told_so
        where
          at_node : {to : ℕ} (node : ℕ) → to ≡ node → node_of w.generations 0 to ≡ Some (suc i) → node_of w.generations 0 node ≡ Some (suc i)
          at_node node e n = ap (λ a. node_of w.generations 0 a) (sym e) ∙ n

          none_fed : {to offset : ℕ} → given → (place : ℕ) → node_of w.generations 0 to ≡ Some (suc i) → window_at offset ≡ Some (windows.Response place) → IsFedBy s.node.logins login (Ours wild past w r q) to offset → ⊥
          none_fed g place n goes (at_own to_is offset_is) = let of = at_node login.node to_is n in clear g q login is (up login is of).1 of place (ap window_at (sym offset_is) ∙ goes)
          none_fed g place n goes (at_other other one there live to_is offset_is) = clear_then g other one there live (at_node one.node to_is n) place (ap window_at (sym offset_is) ∙ goes)
          none_fed g place n goes (of_another to_is f) = f (ap wild (up login is (at_node login.node to_is n)).0 ∙ own)

          kept_one : (packet : Outgoing) → IsNamed login.node (Ours wild past w r q) y.told packet → IsFed s.node.logins login (Ours wild past w r q) packet → IsKept given start i past w packet
          kept_one packet h f n (Some place) p =
              let e = h place p in
              let mine = (up login is (at_node login.node e.0 n)).0 in
              no_end q y.told y.so.told_is mine place p.small (e.1 (ap wild mine ∙ own))
          kept_one packet h f n None p = none_fed p.0 p.1.place n p.1.goes (f p.1)

          kept : (packets : List Outgoing) → AllNamed login.node (Ours wild past w r q) y.told packets → AllFed s.node.logins login (Ours wild past w r q) packets → AllKept given start i past w packets
          kept [] h f = tt
          kept (packet ∷ later) h f = (kept_one packet h.0 f.0, kept later h.1 f.1)

      pub hands : (layer : Layer Purpose) → C layer s → F given start past i (handed_out 0 0 s.outbox u)
      hands layer (idles k) = reads_so k.read
      hands layer (acts q c login is up early y) = acting layer q c login is up early y
      hands layer (goes_on answer its m) = absurd its

  -- ---- a packet that it gets
  module _ (sent : Sent) (is_for : IsFor w sent) (run : Option Told) (media : Held) where
    abbrev got : Judged × Whole
    got = received run sent.generation sent.bytes (whole_of w.target media)

    abbrev then : Layer Purpose
    then = (judging_step w.target.layer sent.generation sent.bytes).1

    -- the bytes of an answer go to no FIFO
    abbrev pub Answers : Type 0
    Answers =
        (p : Packet) (label : LabelParts) (place : ℕ) → (judging_step w.target.layer sent.generation sent.bytes).0 ≡ of_response p label (Some (purposes.Agent place)) → place < 8 → (login : Login) (which : Which) → which_in (desk_at w.target place) (header_in p).source label ≡ Some which → (let step = (reply_step (machine_at w place) place (plain_in w.target.units media.disks login.unit) run which (answer_in p)).0 in Ours wild past w r place → step.ended ≡ None → (offset size : ℕ) → step.ask ≡ asks.Write offset size → IsInbox (written_at offset) → ⊥)

    module _ (serial : ℕ) (u : WorldState) (b : Behind (judged_note serial got.0) w u) (others : AreOthers got.1.outbox.sides) where
      pub delivery_told : F given start past i (told_all 0 got.1.outbox.sides u)
      delivery_told = told_so (scene got.1.node got.1.outbox) (judged_note serial got.0) (judged_first serial got.0) u b others

      -- it is no answer to the management
      pub delivery_so : PassLaw wild (hist past (handed_out 0 0 got.1.outbox u)) → (given → IsClear w.generations i got.1.node.logins) → Answers → ((peer : ℕ) (label : LabelParts) (place : ℕ) → place < 8 → (which : Which) → which_in (desk_at w.target place) peer label ≡ Some which → Mine place) → ((p : Packet) → (judging_step w.target.layer sent.generation sent.bytes).0 ≡ of_request p → is_barred w.target p ≡ false → (q : ℕ) → q < 8 → demand_of (length w.target.rom) p ≡ demands.Agent q accesses.Ring → has_list (machine_at w q).phase ≡ true → Mine q) → ((p : Packet) → (judging_step w.target.layer sent.generation sent.bytes).0 ≡ of_request p → is_barred w.target p ≡ false → (q : ℕ) → q < 8 → (pointer : OrbPointer) → demand_of (length w.target.rom) p ≡ demands.Agent q (accesses.Point pointer) → (ask : Ask) → (point_step (machine_at w q) pointer).0 ≡ Ok ask → Mine q) → ((p : Packet) (label : LabelParts) → (judging_step w.target.layer sent.generation sent.bytes).0 ≡ of_response p label (Some purposes.Management) → ⊥) → F given start past i (handed_out 0 0 got.1.outbox u)
      delivery_so law clear_then answers reply_up ring_up point_up other =
          hands (scene got.1.node got.1.outbox) (judged_note serial got.0) (judged_first serial got.0) u b others law clear_then then
          (delivery_called w r.good (Ours wild past w r) Mine ⊥ sent run media
          (λ p label place f c login which e. reply_step_of wild past w r sent is_for run media.disks then p label place f c login which e (answers p label place f c login which e))
          (λ q c ours h. ring_small wild past w r q c ours h)
          (λ p f bar q c pointer d ask e ours. point_small wild past w r sent is_for p f bar q c pointer d ask e ours)
          reply_up ring_up point_up other)

  -- ---- a transaction of it times out
  late_apart : (q : ℕ) (which : Which) → (lost_step (machine_at w q) which causes.Timeout).0.ended ≡ None → (offset size : ℕ) → (lost_step (machine_at w q) which causes.Timeout).0.ask ≡ asks.Write offset size → ⊥
  late_apart q Main none offset size e = none_wrote offset size (sym (lost_asks (machine_at w q) causes.Timeout none) ∙ e)
  late_apart q Ahead none offset size e = none_wrote offset size (sym (ap (λ (step : AgentStep). step.ask) (quiet_ahead (machine_at w q) causes.Timeout)) ∙ e)

  module _ (layer : Layer Purpose) (peer : ℕ) (label : LabelParts) (serial : ℕ) where
    abbrev y : Option Purpose → Scene
    y purpose = timed_out purpose peer label (first w r.good layer)

    abbrev Goes : Option Purpose → WorldState → Type 0
    Goes purpose u = Behind (notes.TimedOut serial) w u → AreOthers (y purpose).outbox.sides → PassLaw wild (hist past (handed_out 0 0 (y purpose).outbox u)) → (given → IsClear w.generations i (y purpose).node.logins) → ((place : ℕ) → place < 8 → (which : Which) → which_in (desk_at w.target place) peer label ≡ Some which → Mine place) → F given start past i (handed_out 0 0 (y purpose).outbox u)

    late_by : (purpose : Option Purpose) → (purpose ≡ Some purposes.Management → ⊥) → (u : WorldState) → Goes purpose u
    late_by purpose other u b others law clear_then late_up =
        hands (y purpose) (notes.TimedOut serial) (late_first serial) u b others law clear_then layer
        (lapse_called w r.good (Ours wild past w r) Mine ⊥ layer peer label
        (λ place c login which e. late_step_of wild past w r peer label layer place c login which e (λ ours none offset size wrote fifo. late_apart place which none offset size wrote))
        late_up purpose other)

    agent_other : (place : ℕ) → Some (purposes.Agent place) ≡ Some purposes.Management → ⊥
    agent_other place e = cc

    unsolicited_other : Some purposes.Unsolicited ≡ Some purposes.Management → ⊥
    unsolicited_other e = cc

    none_other : None ≡ Some purposes.Management → ⊥
    none_other e = cc

    pub lapse_so : (purpose : Option Purpose) (u : WorldState) → Goes purpose u
    lapse_so None u b others law clear_then late_up = late_by None none_other u b others law clear_then late_up
    lapse_so (Some (purposes.Agent place)) u b others law clear_then late_up = late_by (Some (purposes.Agent place)) (agent_other place) u b others law clear_then late_up
    lapse_so (Some purposes.Unsolicited) u b others law clear_then late_up = late_by (Some purposes.Unsolicited) unsolicited_other u b others law clear_then late_up
    lapse_so (Some purposes.Management) u b others law clear_then late_up =
        reads_so (y (Some purposes.Management)) (notes.TimedOut serial) (late_first serial) u b others (late_reads (first w r.good layer) tt)
