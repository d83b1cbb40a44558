-- What is carried of the target's unsolicited statuses is kept by each call of the target: each packet that it hands out has its row, and a row that is new is to a node that had none pending.
use Rattle.std.proofs.Common.{arith, ◌≡◌, ◌∙◌, refl, sym, ap, subst, inl, inr, ◌⊎◌, ℕ, suc, ◌<◌, ◌≤◌, true, false, List, [], ◌∷◌, length, Some}
use Rattle.bus_transactions.specs.Rows.{awaits, kind_as, shape, shape_of}
use Rattle.bus_transactions.specs.Wire.{transaction}
use Rattle.bus_transactions.proofs.Facts.{AskedBy, asked_is, begun_asked}
use Rattle.bus_transactions.proofs.Reaches.{goes_on}
use Rattle.label_table.specs.Layer.{Layer, seeing_step}
use Rattle.label_table.specs.Peers.{state_for}
use Rattle.label_table.specs.declared.reply.ReplyKind.{ReplyKind}
use Rattle.label_table.specs.declared.reply.ReplyKind.TheVariants as kinds
use Rattle.command_agent.specs.declared.step.Which.{Which}
use Rattle.media_bay.specs.Unsolicited.{block}
use Rattle.rbc_disk.specs.Disk.{Disk}
use Rattle.rbc_disk.specs.Held.{Held as Media}
use Rattle.sbp_bus.specs.Generations.{GenerationsState, id_of, node_of, topology_at}
use Rattle.sbp_journal.specs.Addresses.{Access}
use Rattle.sbp_journal.specs.Outgoings.{OutboxState, empty_outbox}
use Rattle.sbp_journal.specs.Run.{Moment, said}
use Rattle.sbp_journal.specs.Transactions.{Kind, Transaction, locking, part_of, reading_block, reading_quadlet, request, writing}
use Rattle.sbp_journal.specs.Wire.{Terms, terms, waits}
use Rattle.sbp_journal.specs.declared.note.Note.{Note}
use Rattle.sbp_journal.specs.declared.outbox.Outgoing.{Outgoing}
use Rattle.sbp_laws.specs.Packets.{access_in_bytes, receiver_in}
use Rattle.sbp_laws.specs.Targets.{for_agent, for_manager, for_nobody, over, purpose_of, target_at}
use Rattle.sbp_target.specs.Calls.{Call, alone, sees}
use Rattle.sbp_target.specs.Histories.Transactions.{IsUnderWay}
use Rattle.sbp_target.specs.Nodes.{NodeState, scene}
use Rattle.sbp_target.specs.Receiving.{seen}
use Rattle.sbp_target.specs.Units.{is_pending as is_listed}
use Rattle.sbp_target.specs.declared.purpose.Purpose.{Purpose}
use Rattle.sbp_target.specs.declared.purpose.Purpose.TheVariants as purposes
use Rattle.sbp_world.specs.Agents.Serials.{IsHanded}
use Rattle.sbp_world.specs.Handing.{handed_out}
use Rattle.sbp_target.proofs.Histories.Pass.{sees_by}
use Rattle.sbp_world.specs.Hosts.Handing.{AreOthers}
use Rattle.sbp_world.specs.Lists.FewLogins.{IsCalmBeside}
use Rattle.sbp_world.specs.Lists.OwnLogins.{IsLoginFifo}
use Rattle.sbp_world.specs.Worlds.{Scene, WorldState}
use Rattle.sbp_world.proofs.Agents.Handed.{are_handed}
use Rattle.sbp_world.proofs.Agents.Management.Holding.{known_id, past_terms}
use Rattle.sbp_world.proofs.Agents.Management.Still.{hist}
use Rattle.sbp_world.specs.Wire.Wires.{Stands}
use Rattle.sbp_world.proofs.Agents.Purposes.{labels}
use Rattle.sbp_world.proofs.Hosts.SentMoments.{sent_below}
use Rattle.sbp_world.proofs.Lists.SentOwned.{AllOwned, owned_here}
use Rattle.sbp_world.proofs.Wire.Bus.{node_has}
use Rattle.sbp_world.proofs.Wire.Nodes.{handed_alike}
use Rattle.sbp_world.proofs.Wire.Starts.{laws_of}
use Rattle.turn_laws.proofs.Handed.{handed}
use Rattle.turn_laws.proofs.LaterNotes.{AllLeave, ArePlain, others_handed}
use Rattle.turn_laws.proofs.LaterTerms.{Clean, Later, New, Own, Pushes, free_waits}
use Rattle.turn_laws.proofs.PendingKept.{AreSent, Id, Pending, Rows, Ties}
use Rattle.turn_laws.proofs.PendingTurns.{Kept, small, turn_kept, turn_later}
use Rattle.turn_laws.proofs.Places.{Place}
use Rattle.turn_laws.proofs.PushBlocks.{AreBlocks, IsBlock, calm_by, calm_now, handed_blocks, request_access}
use Rattle.turn_laws.proofs.PushOwners.{IsWrite, access_writes, nobodys_pushed, turn_before}
use Rattle.turn_laws.proofs.PushSerials.{Has, pushes_are_nobodys}
use Rattle.turn_laws.proofs.StatusRows.{Row}

-- whom a packet is for
agent_not : {A : Type 0} (place : ℕ) (which : Which) → for_agent place which ≡ for_nobody → A
agent_not place which e = absurd (let x : for_agent place which ≡ for_nobody = e in cc)

manager_not : {A : Type 0} → for_manager ≡ for_nobody → A
manager_not e = absurd (let x : for_manager ≡ for_nobody = e in cc)

same_awaits : (a b : ReplyKind) → awaits a ≡ awaits b → a ≡ b
same_awaits a b e = cc

writing_is : (kind : Kind) → kinds.Write ≡ kind_as kind → kind ≡ writing
writing_is writing e = refl
writing_is reading_quadlet e = cc
writing_is reading_block e = cc
writing_is locking e = cc

-- a packet goes to a node that comes to be among those that one is pending to
pub record Joins (t u : Terms) (nodes : ℕ) (before later : List ℕ) (r : ℕ) : Type 0 where
  pub to : ℕ
  pub there : receiver_in (u.sent r) ≡ Some to
  pub inside : to ≤ nodes
  pub not_before : is_listed (Id t to) before ≡ false
  pub is_later : is_listed (Id t to) later ≡ true

-- of an initiator that injected nothing, the FIFO of a login
abbrev pub Fifos : List Moment → ℕ → GenerationsState → ℕ → ℕ → Type 0
Fifos past nodes g to offset = (i : ℕ) → i < nodes → IsCalmBeside past i → node_of g 0 to ≡ Some (suc i) → IsLoginFifo offset

-- an unsolicited status is the block, and goes to such a FIFO
abbrev GoesTo : List Moment → ℕ → ℕ → Access → Type 0
GoesTo past nodes to access = (i : ℕ) → i < nodes → IsCalmBeside past i → to ≡ suc i → IsLoginFifo access.offset

abbrev Pays : List Moment → ℕ → ℕ → Purpose → List ℕ → Type 0
Pays past nodes to p bytes =
    p ≡ purposes.Unsolicited → (access : Access) → access_in_bytes bytes ≡ Some access → GoesTo past nodes to access × (access.payload ≡ block)

-- each request has a row that belongs to somebody
abbrev Owner : List Moment → ℕ → Layer Purpose → GenerationsState → ℕ → List ℕ → Type 0
Owner past nodes layer g to bytes = (number : ℕ) (kind : Kind) → part_of bytes ≡ request number kind → (p : Purpose) × (IsUnderWay layer (Some p) (id_of (topology_at g 0) to) number × Pays past nodes to p bytes)

owner_of : (past : List Moment) (nodes : ℕ) (layer : Layer Purpose) (g : GenerationsState) (packet : Outgoing) → AllOwned (Fifos past nodes g) layer (packet ∷ []) → (to : ℕ) → node_of g 0 packet.to ≡ Some to → Owner past nodes layer g to packet.bytes
owner_of past nodes layer g packet a to e number kind f =
    let o = a.0 number kind f in
    let row = subst (λ id. IsUnderWay layer (Some o.purpose) id number) (sym (node_has (topology_at g 0) packet.to to e).id_is) o.row in
    (o.purpose, (row, λ u access is. let told = o.told u access is in (λ i l c same. told.0 i l c (e ∙ ap (λ n. Some n) same), told.1)))

leave_all : (past : List Moment) (nodes : ℕ) (layer : Layer Purpose) (g : GenerationsState) (packets : List Outgoing) → AllOwned (Fifos past nodes g) layer packets → AllLeave (Owner past nodes layer g) 0 g packets
leave_all past nodes layer g [] a = tt
leave_all past nodes layer g (packet ∷ later) a = (owner_of past nodes layer g packet (a.0, tt), leave_all past nodes layer g later a.1)

-- as a generation is seen, no packet is handed out
sight_none : (generation id : ℕ) (node : NodeState) → (alone (sees generation id) node).outbox.packets ≡ []
unfolding seen
sight_none generation id node = sees_by (λ layer packets. packets ≡ []) (record { disowns = λ layer packets peer label h. h }) (seeing_step node.layer generation id) (scene node empty_outbox) refl

module _ (units ready : ℕ) (has : 0 < units) (start : List Disk) (past : List Moment) (s : Scene) (here : Place units ready start past s) where
  abbrev w : WorldState
  w = s.world

  abbrev ms : List Moment
  ms = hist past w

  abbrev node : NodeState
  node = w.target

  abbrev nodes : ℕ
  nodes = length w.initiators

  abbrev CallOwned : GenerationsState → Call → Type 0
  CallOwned g call = AllOwned (Fifos ms nodes g) (alone call node).node.layer (alone call node).outbox.packets

  pub all_owned : (g : GenerationsState) → g ≡ w.generations → (call : Call) → CallOwned g call
  all_owned g same call =
      subst (λ g. CallOwned g call) (sym same)
      (owned_here w here.holds has (Fifos ms nodes w.generations) (λ place login is live i l c to. here.owned i l c place login is live to) call)

  pub sight_owned : (g : GenerationsState) (generation id : ℕ) → CallOwned g (sees generation id)
  sight_owned g generation id =
      let layer = (alone (sees generation id) node).node.layer in
      subst (λ packets. AllOwned (Fifos ms nodes g) layer packets) (sym (sight_none generation id node)) tt

  -- ---- behind what a call of the target hands out
  module _ (note : Note) (outbox : OutboxState) (v : WorldState) (media : Media) (fresh_is : v.fresh ≡ note ∷ w.fresh) (there : Place units ready start past (record { world = handed_out 0 0 outbox v; media = media })) (others : AreOthers outbox.sides) (owned : AllOwned (Fifos ms nodes v.generations) v.target.layer outbox.packets) (clean : Clean (terms (said note ∷ ms))) where
    abbrev behind : WorldState
    behind = handed_out 0 0 outbox v

    abbrev base : List Moment
    base = said note ∷ ms

    abbrev now : List Moment
    now = hist past behind

    abbrev Q : ℕ → List ℕ → Type 0
    Q to bytes = Owner ms nodes v.target.layer v.generations to bytes

    plain : ArePlain Q 0 (handed 0 0 outbox v)
    plain = others_handed Q 0 0 outbox v others (leave_all ms nodes v.target.layer v.generations outbox.packets owned)

    nobodys : (r : ℕ) → Has (Pushes start now) r → purpose_of (over (target_at start now)) r ≡ for_nobody
    nobodys r h = pushes_are_nobodys start now (laws_of past behind there.holds.sound.stands).serials r h

    module _ (r : ℕ) (h : Has (Pushes start now) r) (x : New Q (terms base) (terms now) r) where
      to_there : x.packet.to ≤ length behind.initiators
      to_there = (there.holds.sound.stands.is.knows.ours r x.packet (ap (λ (y : Terms). y.sent r) (past_terms behind there.holds.sound.stands) ∙ x.sent)).to

      generation : (terms now).generation 0 ≡ (terms base).generation 0
      generation = (turn_later units ready has start past (note ∷ w.fresh) 0 0 outbox v media fresh_is there Q plain clean).generation 0

      asks : AskedBy x.packet (Own (terms base) x.packet.to x.label)
      asks = asked_is x.packet (Own (terms base) x.packet.to x.label) (begun_asked x.packet (Own (terms base) x.packet.to x.label) x.begun).1

      label_is : x.label ≡ asks.label
      label_is = ap (λ (y : Transaction). y.label) asks.is

      its : (p : Purpose) × (IsUnderWay v.target.layer (Some p) (id_of (topology_at v.generations 0) x.packet.to) asks.label × Pays ms nodes x.packet.to p x.packet.bytes)
      its = x.one asks.label asks.kind asks.part

      id_is : id_of (topology_at v.generations 0) x.packet.to ≡ Id (terms now) x.packet.to
      id_is =
          sym (ap (λ g. id_of (topology_at g 0) x.packet.to) (handed_alike 0 0 outbox v).generations)
          ∙ sym (known_id behind there.holds.sound.stands x.packet.to to_there)

      under : IsUnderWay behind.target.layer (Some its.0) (Id (terms now) x.packet.to) x.label
      under =
          subst (λ (n : NodeState). IsUnderWay n.layer (Some its.0) (Id (terms now) x.packet.to) x.label) (sym (handed_alike 0 0 outbox v).target)
          (subst (λ id. IsUnderWay v.target.layer (Some its.0) id x.label) id_is
          (subst (λ n. IsUnderWay v.target.layer (Some its.0) (id_of (topology_at v.generations 0) x.packet.to) n) (sym label_is) its.1.0))

      waiting : (terms now).held (Own (terms now) x.packet.to x.label) ≡ waits x.kind r
      waiting = ap (λ g. (terms now).held (transaction g 0 x.packet.to x.label)) generation ∙ x.held

      handed_so : (p : Purpose) → IsUnderWay behind.target.layer (Some p) (Id (terms now) x.packet.to) x.label → IsHanded (over (target_at start now)) behind.target (Some p) (Id (terms now) x.packet.to) x.label r
      handed_so p u =
          let a = there.agents in
          (are_handed units ready has start behind there.holds).all a.requests x.packet.to x.label x.kind r (Some p) a.are a.known waiting u

      row_by : (p : Purpose) → IsUnderWay behind.target.layer (Some p) (Id (terms now) x.packet.to) x.label → Row behind.target.layer (Id (terms now) x.packet.to) x.label
      row_by purposes.Unsolicited u = u
      row_by purposes.Management u = manager_not (sym ((handed_so purposes.Management u).operation refl) ∙ nobodys r h)
      row_by (purposes.Agent place) u = let f = (handed_so (purposes.Agent place) u).agent place refl in agent_not place f.which (sym f.is ∙ nobodys r h)

      new_row : Row behind.target.layer (Id (terms now) x.packet.to) x.label
      new_row = row_by its.0 under

      pays_by : (p : Purpose) → IsUnderWay behind.target.layer (Some p) (Id (terms now) x.packet.to) x.label → Pays ms nodes x.packet.to p x.packet.bytes → (access : Access) → access_in_bytes x.packet.bytes ≡ Some access → GoesTo ms nodes x.packet.to access × (access.payload ≡ block)
      pays_by purposes.Unsolicited u pays access e = pays refl access e
      pays_by purposes.Management u pays access e = manager_not (sym ((handed_so purposes.Management u).operation refl) ∙ nobodys r h)
      pays_by (purposes.Agent place) u pays access e = let f = (handed_so (purposes.Agent place) u).agent place refl in agent_not place f.which (sym f.is ∙ nobodys r h)

      new_block : length v.initiators ≡ nodes → IsBlock now ((terms now).sent r)
      new_block count =
          let a = request_access x.packet.bytes asks.label asks.kind asks.part in
          let pays = pays_by its.0 under its.1.1 a.access a.is in
          let top = subst (λ n. x.packet.to ≤ n) (ap (λ xs. length xs) (handed_alike 0 0 outbox v).initiators ∙ count) to_there in record {
            packet = x.packet;
            is = x.sent;
            access = a.access;
            asks = a.is;
            payload = pays.1;
            fifo = λ i c to. pays.0 i (subst (λ n. n ≤ nodes) to top) (calm_by (said note ∷ []) ms i (calm_now units ready has start past (note ∷ w.fresh) 0 0 outbox v media fresh_is there Q plain clean i c)) to;
          }

    -- so each unsolicited status is the block
    pub blocks_kept : length v.initiators ≡ nodes → AreBlocks start base → AreBlocks start now
    blocks_kept count b = handed_blocks units ready has start past (note ∷ w.fresh) 0 0 outbox v media fresh_is there Q plain clean b (λ r h z x. new_block r h x count)

    -- what waits under a new row of one is an unsolicited status of the terms
    module _ (layer : Layer Purpose) where
      later : Later start 0 Q base now
      later = turn_later units ready has start past (note ∷ w.fresh) 0 0 outbox v media fresh_is there Q plain clean

      abbrev stands : Stands past behind
      stands = there.holds.sound.stands

      all_sent : AreSent nodes start base now layer behind.target.layer
      all_sent n number kind r l row fresh writes young e =
          let t = terms now in
          let id_same : Id t n ≡ Id (terms base) n = ap (λ g. t.ids g n) (later.generation 0) ∙ later.ids ((terms base).generation 0) n in
          let own_same : Own t n number ≡ Own (terms base) n number = ap (λ g. transaction g 0 n number) (later.generation 0) in
          let u = Own t n number in
          let waiting : t.held u ≡ waits kind r = ap t.held own_same ∙ e in
          let row_now = subst (λ i. Row behind.target.layer i number) (sym id_same) row in
          let a = there.agents in
          let nobodys = ((are_handed units ready has start behind there.holds).all a.requests n number kind r (Some purposes.Unsolicited) a.are a.known waiting row_now).unsolicited refl in
          let x = goes_on.awaited stands.wire u kind r stands.reached (ap (λ (y : Terms). y.held u) (past_terms behind stands) ∙ waiting) in
          let asks = asked_is x.packet u (begun_asked x.packet u x.begun).1 in
          let tied = labels units ready has start behind there.holds n number in
          let kind_is : kinds.Write ≡ kind_as kind = same_awaits kinds.Write (kind_as kind) (ap awaits (sym writes) ∙ (sym (ap shape row.waits) ∙ (ap (λ i. shape (state_for behind.target.layer.peers i number)) (sym id_same) ∙ (tied ∙ ap shape_of waiting)))) in
          let sent : t.sent r ≡ Some x.packet = ap (λ (y : Terms). y.sent r) (sym (past_terms behind stands)) ∙ x.sent in
          let write : IsWrite (t.sent r) = record {
            packet = x.packet;
            is = sent;
            from = ap (λ (y : Transaction). y.requester) (sym asks.is);
            label = number;
            kind = kind;
            part = x.part;
            writes = access_writes x.packet.bytes number (x.part ∙ ap (λ k. request number k) (writing_is kind kind_is));
          } in
          nobodys_pushed start now (laws_of past behind stands).serials r (turn_before past 0 0 outbox v (note ∷ w.fresh) fresh_is others r young) (sent_below now r x.packet (laws_of past behind stands).serials sent) write nobodys

    pub target_kept : length v.initiators ≡ nodes → (layer : Layer Purpose) (pending : List ℕ) → Pending nodes (terms base) (Pushes start base) layer pending → Ties nodes (terms base) layer → Rows layer v.target.layer pending v.target.pending → Kept start now (record { world = behind; media = media })
    target_kept count layer pending k ties rows =
        let alike = handed_alike 0 0 outbox v in
        let count_there : length behind.initiators ≡ nodes = ap (λ xs. length xs) alike.initiators ∙ count in
        turn_kept units ready has start past (note ∷ w.fresh) 0 0 outbox v media fresh_is there Q plain clean nodes count_there layer pending k ties
        (subst (λ (x : NodeState). Rows layer x.layer pending x.pending) (sym alike.target) rows)
        (λ z r h x. (subst (λ n. x.packet.to ≤ n) count_there (to_there r h x), new_row r h x))
        (all_sent layer)

    -- and goes to a node that comes to be among those that one is pending to
    module _ (count : length v.initiators ≡ nodes) (layer : Layer Purpose) (pending : List ℕ) (ties : Ties nodes (terms base) layer) (rows : Rows layer v.target.layer pending v.target.pending) (r : ℕ) (h : Has (Pushes start now) r) (young : (terms base).count < r) where
      more : Later start 0 Q base now
      more = turn_later units ready has start past (note ∷ w.fresh) 0 0 outbox v media fresh_is there Q plain clean

      abbrev Goes : Type 0
      Goes = Joins (terms base) (terms now) nodes pending v.target.pending r

      joined : (x : New Q (terms base) (terms now) r) → Goes
      joined x =
          let n = x.packet.to in
          let alike = handed_alike 0 0 outbox v in
          let id_same : Id (terms now) n ≡ Id (terms base) n = ap (λ g. (terms now).ids g n) (more.generation 0) ∙ more.ids ((terms base).generation 0) n in
          let own = subst (λ i. Row v.target.layer i x.label) id_same (subst (λ (y : NodeState). Row y.layer (Id (terms now) n) x.label) alike.target (new_row r h x)) in
          let inside = subst (λ m. n ≤ m) (ap (λ xs. length xs) alike.initiators ∙ count) (to_there r h x) in
          by x inside (rows.new (Id (terms base) n) x.label own)
        where
          by : (x : New Q (terms base) (terms now) r) → x.packet.to ≤ nodes → Row layer (Id (terms base) x.packet.to) x.label ⊎ ((is_listed (Id (terms base) x.packet.to) pending ≡ false) × (is_listed (Id (terms base) x.packet.to) v.target.pending ≡ true)) → Goes
          by x inside (inl o) =
              let z = ties.waiting x.packet.to x.label inside o in
              free_waits ((terms base).held (Own (terms base) x.packet.to x.label)) z.kind z.serial x.none z.is
          by x inside (inr j) = record { to = x.packet.to; there = ap receiver_in x.sent; inside = inside; not_before = j.0; is_later = j.1 }

      pub target_joins : Goes
      target_joins = by (more.more r h)
        where
          by : Has (Pushes start base) r ⊎ ((◌≡◌ {A = ℕ} 0 0) × New Q (terms base) (terms now) r) → Goes
          by (inl old) = let low = small units ready has start past (note ∷ w.fresh) 0 0 outbox v media fresh_is there Q plain clean r old in absurd (omega (arith, low, young))
          by (inr x) = joined x.1
