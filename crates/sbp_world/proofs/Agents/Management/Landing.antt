-- A packet is delivered to the target: behind the whole turn its terms are again its state.
use Rattle.sbp_world.proofs.Words.Std.{arith, ◌≡◌, ◌≢◌, ◌∙◌, refl, sym, ap, subst, ℕ, ◌^◌, ◌<◌, ◌≤◌, not, is_some, Bool, true, false, cond, List, [], ◌∷◌, ◌++◌, length, Option, Some, None, Result, Ok, Err, unwrap_or, nat_tests}
use Rattle.sbp_world.proofs.Words.Wire.{PacketFault, LabelParts, Packet, header_in, lock, lock_response, read_block, read_block_response, read_quadlet, read_quadlet_response, write_block, write_quadlet, write_response, reading, AreBytes, AreJudged, as_sending, ReplyKind, Layer, judging_step, of_response, reply_kind, Sent, found_sent, Access, access_of, Moment, said, Kind, Sending, between, part_in, part_of, request, response, Terms, terms, Cause, Judged, Outgoing, empty_outbox, canon, kind_as, Gives, response_to, answering_step, start_at, start_serves, judged_note}
use Rattle.sbp_world.proofs.Words.Target.{Table, ManagerStep, source_in, Disk, Busy, Demand, demand_of, answer_step, answered, Purpose, NodeState, Scene, scene, answer_in, Whole, TransactionLaw}
use Rattle.sbp_world.proofs.Words.Initiator.{Ask}
use Rattle.sbp_world.proofs.Words.Laws.{start_got, Target, got_by, is_serial, over, laws_replied, request_got, target_at}
use Rattle.sbp_world.proofs.Words.World.{sent_all, marked, handed_out, WorldState, with_note, with_target, FitsManager, IsOfWire, Stands, demanded, Office, at_rest, office_of, replied, started, started_by, Awaits, IsManagementAt}
use Rattle.bus_transactions.proofs.PacketParts.{PartOf, asks, part_case, part_read, replies}
use Rattle.mgmt_agent.specs.Machine as management
use Rattle.sbp_journal.specs.declared.cause.Judged.TheVariants as judgements
use Rattle.async_packet.proofs.RoundTrip.{canon_spells}
use Rattle.async_packet.proofs.Spelled.{reading_spelled}
use Rattle.bus_transactions.specs.Judging.{facts_of}
use Rattle.bus_transactions.proofs.FitJudged.{bytes_of, source_fits, spelled}
use Rattle.bus_transactions.proofs.Fits.{answer_fits}
use Rattle.bus_transactions.proofs.MoveAnswer.{answer_packet}
use Rattle.sbp_laws.specs.Packets as laws
use Rattle.target_base.specs.declared.address.Demand.TheVariants as demands
use Rattle.sbp_world.proofs.FitTarget.Demands.{FitsDemand, demand_fits}
use Rattle.sbp_world.proofs.Agents.Management.Demands.{demand_is, starts_at}
use Rattle.sbp_target.specs.declared.purpose.Purpose.TheVariants as purposes
use Rattle.sbp_target.proofs.Histories.Calling.{Good}
use Rattle.sbp_world.proofs.FitTarget.Agents.{BytesIn, FitsAsk}
use Rattle.sbp_world.proofs.FitTarget.Manager.{managed_fits}
use Rattle.sbp_target.proofs.Histories.Primitives.{closing_known}
use Rattle.sbp_target.proofs.Histories.Seats.{Lives}
use Rattle.sbp_world.proofs.Agents.Management.Asking.{Turned}
use Rattle.sbp_world.proofs.Agents.Management.Calls.{ForDemand, IsStart}
use Rattle.sbp_world.proofs.Agents.Management.Calm.{Calm, ForManager}
use Rattle.sbp_world.proofs.Agents.Management.Delivering.{answer_is, answers_own, is_other, keeps_others}
use Rattle.sbp_world.proofs.Agents.Management.Firsts.{got_here, ignored_office, manage_idle, other_reply, own_idle, own_reply, request_keeps}
use Rattle.sbp_world.proofs.Agents.Management.Hearing.{IsAnswer, answers, answers_none, label_number}
use Rattle.sbp_world.proofs.Agents.Management.Holding.{handed_judged, is_of, marked_hist, was_sent}
use Rattle.sbp_world.proofs.Agents.Management.Idle.{IsIdle, over_idle}
use Rattle.sbp_world.proofs.Agents.Management.Managed.{IsReady, PassedOver, managing_turn, none_passed}
use Rattle.sbp_world.proofs.Agents.Management.Managing.{quiet_says}
use Rattle.sbp_world.proofs.Agents.Management.Offices.{over_keeps}
use Rattle.sbp_world.proofs.Agents.Management.Outs.{response_term}
use Rattle.sbp_world.proofs.Agents.Management.Still.{ClosesOnly, gets_but, hist, ignores_still, requests_still}
use Rattle.sbp_world.proofs.Agents.Management.Told.{office_in, term_in}
use Rattle.sbp_world.proofs.Agents.Management.Turning.{KeepsWire, calm_turn, wire_still}
use Rattle.sbp_world.proofs.Agents.CrewFirsts.{current_by}

-- what a request asks for
pub record AccessIs (p : Packet) : Type 0 where
  pub access : Access
  pub is : access_of p ≡ Some access

pub access_there : (p : Packet) → reply_kind p ≡ None → AccessIs p
access_there (write_quadlet header offset value) e = record { access = record { is_lock = false; is_write = true; is_block = false; offset = offset; count = 4; payload = [] }; is = refl }
access_there (write_block header offset payload) e = record { access = record { is_lock = false; is_write = true; is_block = true; offset = offset; count = length payload; payload = payload }; is = refl }
access_there (write_response header rcode) e = absurd (some_not e)
  where
    some_not : {k : ReplyKind} → Some k ≡ None → ⊥
    some_not e = cc
access_there (read_quadlet header offset) e = record { access = record { is_lock = false; is_write = false; is_block = false; offset = offset; count = 4; payload = [] }; is = refl }
access_there (read_block header offset asked) e = record { access = record { is_lock = false; is_write = false; is_block = true; offset = offset; count = asked; payload = [] }; is = refl }
access_there (read_quadlet_response header rcode value) e = absurd (some_not e)
  where
    some_not : {k : ReplyKind} → Some k ≡ None → ⊥
    some_not e = cc
access_there (read_block_response header rcode payload) e = absurd (some_not e)
  where
    some_not : {k : ReplyKind} → Some k ≡ None → ⊥
    some_not e = cc
access_there (lock header offset extended payload) e = record { access = record { is_lock = true; is_write = false; is_block = true; offset = offset; count = length payload; payload = [] }; is = refl }
access_there (lock_response header rcode extended payload) e = absurd (some_not e)
  where
    some_not : {k : ReplyKind} → Some k ≡ None → ⊥
    some_not e = cc

-- which demand starts an operation
pub record IsManage (d : Demand) (node : NodeState) (p : Packet) (bytes : List ℕ) (layer : Layer Purpose) (source : ℕ) (before : List Outgoing) : Type 0 where
  pub orb : ℕ
  pub is : d ≡ demands.Manage orb
  pub start : IsStart node p bytes layer source before

pub manage_of : (d : Demand) (node : NodeState) (p : Packet) (bytes : List ℕ) (layer : Layer Purpose) (source : ℕ) (before : List Outgoing) → ForDemand d node p bytes layer source before → IsManage d node p bytes layer source before
manage_of (demands.Manage orb) node p bytes layer source before m = record { orb = orb; is = refl; start = m }
manage_of (demands.Refused rcode) node p bytes layer source before m = absurd m
manage_of (demands.Rom at len) node p bytes layer source before m = absurd m
manage_of (demands.Agent place access) node p bytes layer source before m = absurd m

-- an operation that is started keeps what the terms have of a request
started_manages : (r : Result Ask Busy × management.Machine) (o : Office) → (started_by r o).manages ≡ o.manages
started_manages (Ok ask, m) o = refl
started_manages (Err busy, m) o = refl

-- and asks for the ORB
pub started_asks : (m : management.Machine) (source orb : ℕ) (o : Office) → m.operation ≡ None → orb < 2 ^ 48 → FitsAsk (started_by (management.start_with m.operation m source orb) o).asks
started_asks m source orb o e small = subst (λ x. FitsAsk (started_by (management.start_with x m source orb) o).asks) (sym e) small

pub start_asks : (o : Office) (source orb : ℕ) → o.manager.operation ≡ None → orb < 2 ^ 48 → FitsAsk (started source orb o).asks
unfolding management.start_step
start_asks o source orb e small = started_asks o.manager source orb o e small

pub one_passed : (start : List Disk) (past : List Moment) (packet : Outgoing) (number : ℕ) (kind : Kind) → part_of packet.bytes ≡ response number kind → PassedOver start past (packet ∷ [])
unfolding sent_all
one_passed start past packet number kind e v i = response_term start past v i packet number kind e

-- the response that leaves first
pub answer_is_one : (p : Packet) (bytes : List ℕ) (s : Scene) → s.outbox.packets ≡ [] → (answered p bytes 0 [] s).outbox.packets ≡ record { to = (header_in p).source; label = None; bytes = canon (response_to s.node.layer.node p 0 []) } ∷ []
unfolding answer_step answering_step
answer_is_one p bytes s e = ap (λ ps. ps ++ record { to = (header_in p).source; label = None; bytes = canon (response_to s.node.layer.node p 0 []) } ∷ []) e

pub response_part : (node : ℕ) (p : Packet) (bytes : List ℕ) (label : ℕ) (kind : Kind) → reading bytes ≡ Ok p → AreBytes bytes → node < 2 ^ 16 → reply_kind p ≡ None → part_in p ≡ request label kind → ((rcode : ℕ) (given : List ℕ) → Gives p rcode given) → part_of (canon (response_to node p 0 [])) ≡ response (header_in p).label kind
response_part node p bytes label kind read small n none part gives =
    let v = answer_fits node p bytes 0 [] n (source_fits bytes p read small) (record { spelled = spelled bytes p read; asks = ap (λ (x : Option ReplyKind). not (is_some x)) none }) (record { small = omega arith; bytes = λ k. omega arith; gives = gives 0 [] }) in
    part_read (canon (response_to node p 0 [])) (response_to node p 0 []) (reading_spelled (canon (response_to node p 0 [])) (response_to node p 0 []) (canon_spells (response_to node p 0 []) v))
    ∙ (answer_packet node p 0 label kind [] part).part

module _ {past : List Moment} (start : List Disk) (w : WorldState) (h : Stands past w) (g : Good w.target) (law : TransactionLaw w.target) (at : IsManagementAt start (hist past w) w.target) (serial : ℕ) (again : Bool) (sent : Sent) (found : found_sent serial w.store.kept ≡ Some sent) (zero_to : sent.to ≡ 0) where
  abbrev t : Terms
  t = terms (hist past w)

  abbrev q : Sending
  q = as_sending sent

  abbrev T : Target
  T = target_at start (hist past w)

  abbrev pub rested : Office
  rested = at_rest (office_in start past w)

  -- the world with the first note of the delivery
  abbrev pub noted_world : Judged → NodeState → WorldState
  noted_world judged now = with_note (judged_note serial judged) (marked serial again (with_target now w))

  abbrev pub handed_world : Judged → Whole → WorldState
  handed_world judged x = handed_out 0 0 x.outbox (noted_world judged x.node)

  -- what is known behind it
  pub record Later (judged : Judged) (x : Whole) : Type 0 where
    pub wire : IsOfWire (hist past (handed_world judged x))
    pub law_now : TransactionLaw x.node
    pub id_small : x.node.layer.node < 2 ^ 16
    pub bytes : AreBytes x.node.manager.outgoing

  abbrev pub Ends : Judged → Whole → Type 0
  Ends judged x = Later judged x → IsManagementAt start (hist past (handed_world judged x)) x.node

  note_hist : (judged : Judged) (now : NodeState) → hist past (noted_world judged now) ≡ said (judged_note serial judged) ∷ hist past w
  note_hist judged now = ap (λ ms. said (judged_note serial judged) ∷ ms) (marked_hist past serial again (with_target now w))

  was : t.sent serial ≡ Some q
  was = was_sent w h serial sent found

  over_manages : (over T).manages ≡ (office_in start past w).manages
  over_manages = ap (λ (o : Office). o.manages) (over_keeps T)

  -- ---- what is ignored
  pub ignored_ends : (cause : Cause) (x : Whole) → Calm g.lives w.target (scene x.node x.outbox) → Ends (judgements.Ignored cause) x
  ignored_ends cause x c l =
      let v = noted_world (judgements.Ignored cause) x.node in
      let e = note_hist (judgements.Ignored cause) x.node in
      calm_turn start past w.target x.node g law l.law_now w v x.outbox at c
      (ap (λ ms. office_of (target_at start ms)) e ∙ ignored_office start (hist past w) serial cause)
      (subst (λ ms. KeepsWire t (terms ms) w.target.layer (source_in w.target.manager.operation) (office_in start past w).manages) (sym e)
      (wire_still t _ w.target.layer (source_in w.target.manager.operation) (office_in start past w).manages (ignores_still (t.sent serial) cause serial t)))
      l.wire.sent

  -- ---- a response
  module _ (p : Packet) (read : reading sent.bytes ≡ Ok p) (some : is_some (reply_kind p) ≡ true) (label : LabelParts) (purpose : Option Purpose) (layer : Layer Purpose) (e : judging_step w.target.layer sent.generation sent.bytes ≡ (of_response p label purpose, layer)) where
    number : label.number ≡ (header_in p).label
    number = label_number w.target.layer layer sent.generation sent.bytes p label purpose e

    answer_for : (now : NodeState) → AreJudged (hist past (noted_world judgements.Got now)) → IsAnswer t serial q p
    answer_for now j = answers t serial q p was read some ((subst AreJudged (note_hist judgements.Got now) j).0 q was)

    got_is : (now : NodeState) (a : IsAnswer t serial q p) → term_in start past (noted_world judgements.Got now) ≡ laws_replied a.own (laws.answer_in (laws.packet_at t serial)) (over T)
    got_is now a = ap (target_at start) (note_hist judgements.Got now) ∙ got_here start (hist past w) serial q was zero_to ∙ ap (λ own. got_by own t serial (over T)) a.answered

    pub other_ends : purpose ≢ Some purposes.Management → (x : Whole) → Calm g.lives w.target (scene x.node x.outbox) → Ends judgements.Got x
    other_ends n x c l =
        let v = noted_world judgements.Got x.node in
        let k = closing_known w.target.layer layer g.lives sent.generation sent.bytes p label purpose g.mid.known e some in
        let a = answer_for x.node (handed_judged past 0 0 x.outbox v (quiet_says x.outbox.sides (office_in start past v) c.quiet).behind l.wire.judged) in
        let other = is_other start w h g law at serial sent found zero_to p read a label purpose k.kind k.life number n in
        calm_turn start past w.target x.node g law l.law_now w v x.outbox at c
        (ap office_of (got_is x.node a) ∙ other_reply a.own (laws.answer_in (laws.packet_at t serial)) (over T) (ap (λ m. is_serial m a.own) over_manages ∙ other) ∙ over_keeps T)
        (subst (λ ms. KeepsWire t (terms ms) w.target.layer (source_in w.target.manager.operation) (office_in start past w).manages) (sym (note_hist judgements.Got x.node))
        (keeps_others start w h g law at serial sent found zero_to p read a label purpose k.kind k.life number n _
        (gets_but serial q t (between q q.to q.from (header_in p).label) was (subst (λ part. ClosesOnly (between q q.to q.from (header_in p).label) part q) (sym a.part) refl))))
        l.wire.sent

    pub own_ends : {known : ℕ → Type 0} → purpose ≡ Some purposes.Management → BytesIn (answer_in p) → FitsManager known w.target.manager → (x : Whole) (source : ℕ) (old : Lives) → ((n : ℕ) (m : LabelParts) (kind : ReplyKind) → ForManager old n m kind → ⊥) → IsReady past (noted_world judgements.Got x.node) source → Turned (replied (answer_in p) rested) old source [] (scene x.node x.outbox) → Ends judgements.Got x
    own_ends {known} m small fits x source old none ready turned l =
        let v = noted_world judgements.Got x.node in
        let k = closing_known w.target.layer layer g.lives sent.generation sent.bytes p label purpose g.mid.known e some in
        let a = answer_for x.node (handed_judged past 0 0 x.outbox v turned.says.behind l.wire.judged) in
        let own = answers_own start w h g law at serial sent found zero_to p read a label purpose k.kind k.life number m in
        let is_own : is_serial (over T).manages a.own ≡ true = ap (λ n. is_serial n a.own) over_manages ∙ own.own in
        let answer = answer_is start w h g law at serial sent found zero_to p read a label purpose k.kind k.life number own.no_lock in
        let office : office_in start past v ≡ replied (answer_in p) rested =
        ap office_of (got_is x.node a) ∙ own_reply a.own (laws.answer_in (laws.packet_at t serial)) (over T) is_own
        ∙ ap (λ y. replied y (office_of (over T))) answer ∙ ap (λ y. replied (answer_in p) y) (over_keeps T) in
        let idle : IsIdle (term_in start past v) = subst IsIdle (sym (got_is x.node a)) (own_idle a.own (laws.answer_in (laws.packet_at t serial)) (over T) is_own (over_idle T)) in
        let same : management.reply_step w.target.manager w.target.logins w.target.keys (answer_in p) ≡ management.reply_step rested.manager rested.table rested.keys (answer_in p) =
        ap (λ y. management.reply_step y w.target.logins w.target.keys (answer_in p)) (sym at.agrees.manager)
        ∙ ap (λ y. management.reply_step rested.manager y w.target.keys (answer_in p)) (sym at.agrees.table)
        ∙ ap (λ y. management.reply_step rested.manager rested.table y (answer_in p)) (sym at.agrees.keys) in
        let ask : FitsAsk (replied (answer_in p) rested).asks = subst (λ (r : ManagerStep × (management.Machine × Table)). FitsAsk r.0.ask) same (managed_fits known w.target.manager w.target.logins w.target.keys (answer_in p) small fits).ask in
        managing_turn start past x.node l.law_now v x.outbox (replied (answer_in p) rested) old none source [] turned idle office refl (none_passed start past) ready l.id_small ask l.bytes l.wire.sent l.wire.serials

  -- ---- a request

  module _ (p : Packet) (read : reading sent.bytes ≡ Ok p) (none : reply_kind p ≡ None) where
    record Asks : Type 0 where
      label : ℕ
      kind : Kind
      inside : part_in p ≡ request label kind
      part : part_of sent.bytes ≡ request label kind

    asks_part : Asks
    asks_part = by_case (part_case p)
      where
        by_case : PartOf p → Asks
        by_case (asks l k part is) = record { label = l; kind = k; inside = part; part = part_read sent.bytes p read ∙ part }
        by_case (replies l k part is) = absurd (let no : None ≡ Some (kind_as k) = sym none ∙ is in cc)

    there : AccessIs p
    there = access_there p none

    got_request : (now : NodeState) → AreJudged (hist past (noted_world judgements.Got now)) → term_in start past (noted_world judgements.Got now) ≡ request_got (Some there.access) (header_in p).source (over T)
    got_request now j =
        let may = (subst AreJudged (note_hist judgements.Got now) j).0 q was in
        let f = facts_of t q in
        let current = current_by f.is_current f.is_for_node f.is_response f.is_awaited f.is_repeated may in
        let generation : sent.generation ≡ t.generation 0 = (let z : sent.generation ≡ t.generation sent.to = grind (arith, nat_tests) in z) ∙ ap t.generation zero_to in
        let source_is : t.ids (t.generation 0) sent.from ≡ (header_in p).source = ap (λ x. t.ids x sent.from) (sym generation) ∙ sym ((is_of w h serial sent found).source p read) in
        ap (target_at start) (note_hist judgements.Got now) ∙ got_here start (hist past w) serial q was zero_to
        ∙ ap (λ own. got_by own t serial (over T)) (answers_none t serial q asks_part.label asks_part.kind was asks_part.part)
        ∙ ap (λ a. request_got a (t.ids (t.generation 0) (unwrap_or (laws.sender_in (t.sent serial)) 0)) (over T)) (ap (λ so. laws.access_in (laws.packet_in so)) was ∙ ap (λ (r : Result Packet PacketFault). laws.access_in (laws.spelled_by r)) read ∙ there.is)
        ∙ ap (λ so. request_got (Some there.access) (t.ids (t.generation 0) (unwrap_or (laws.sender_in so) 0)) (over T)) was
        ∙ ap (λ x. request_got (Some there.access) x (over T)) source_is

    module _ (rom : length w.target.rom ≤ 1024) where
      abbrev pub demand : Demand
      demand = demand_of (length w.target.rom) p

      request_office : (now : NodeState) → AreJudged (hist past (noted_world judgements.Got now)) → office_in start past (noted_world judgements.Got now) ≡ demanded demand (header_in p).source rested
      request_office now j =
          ap office_of (got_request now j) ∙ request_keeps there.access (header_in p).source (over T)
          ∙ sym (demand_is (header_in p).source (office_of (over T)) (length w.target.rom) p there.access there.is rom)
          ∙ ap (demanded demand (header_in p).source) (over_keeps T)

      pub calm_request : (x : Whole) → demanded demand (header_in p).source rested ≡ rested → Calm g.lives w.target (scene x.node x.outbox) → Ends judgements.Got x
      calm_request x same c l =
          let v = noted_world judgements.Got x.node in
          let j = handed_judged past 0 0 x.outbox v (quiet_says x.outbox.sides (office_in start past v) c.quiet).behind l.wire.judged in
          calm_turn start past w.target x.node g law l.law_now w v x.outbox at c (request_office x.node j ∙ same)
          (subst (λ ms. KeepsWire t (terms ms) w.target.layer (source_in w.target.manager.operation) (office_in start past w).manages) (sym (note_hist judgements.Got x.node))
          (wire_still t _ w.target.layer (source_in w.target.manager.operation) (office_in start past w).manages (requests_still serial asks_part.label asks_part.kind q t was asks_part.part)))
          l.wire.sent

      idle_if : (b : Bool) → start_serves (start_at there.access.offset) there.access ≡ b → (orb : ℕ) → demand ≡ demands.Manage orb → IsIdle (request_got (Some there.access) (header_in p).source (over T))
      idle_if true e orb d = manage_idle there.access (header_in p).source (over T) (starts_at (length w.target.rom) orb p there.access there.is rom e d) (over_idle T)
      idle_if false e orb d = subst (λ b. IsIdle (cond b (start_got (start_at there.access.offset) (header_in p).source there.access (over T)) (over T))) (sym e) (over_idle T)

      pub starting_request : (small : AreBytes sent.bytes) (id_small : w.target.layer.node < 2 ^ 16) (layer : Layer Purpose) (same : layer ≡ w.target.layer) (x : Whole) (source : ℕ) (before : List Outgoing) (old : Lives) → IsManage demand w.target p sent.bytes layer source before → ((n : ℕ) (m : LabelParts) (kind : ReplyKind) → ForManager old n m kind → ⊥) → IsReady past (noted_world judgements.Got x.node) source → Turned (demanded demand (header_in p).source rested) old source before (scene x.node x.outbox) → Ends judgements.Got x
      starting_request small id_small layer same x source before old m nothing ready turned l =
          let v = noted_world judgements.Got x.node in
          let j = handed_judged past 0 0 x.outbox v turned.says.behind l.wire.judged in
          let first = demanded demand (header_in p).source rested in
          let fits : FitsDemand (length w.target.rom) p (demands.Manage m.orb) = subst (FitsDemand (length w.target.rom) p) m.is (demand_fits (length w.target.rom) p (bytes_of p sent.bytes (spelled sent.bytes p read) small)) in
          let first_is : first ≡ started (header_in p).source m.orb rested = ap (λ d. demanded d (header_in p).source rested) m.is in
          let operation : rested.manager.operation ≡ None = ap (λ (y : management.Machine). y.operation) at.agrees.manager ∙ m.start.none in
          let empty : first.manages ≡ None = ap (λ (o : Office). o.manages) first_is ∙ started_manages (management.start_step rested.manager (header_in p).source m.orb) rested ∙ subst (λ y. Awaits t w.target.layer y (office_in start past w).manages) (ap source_in m.start.none) at.awaits in
          let ask : FitsAsk first.asks = subst (λ (o : Office). FitsAsk o.asks) (sym first_is) (start_asks rested (header_in p).source m.orb operation fits.1) in
          let packet : Outgoing = record { to = (header_in p).source; label = None; bytes = canon (response_to layer.node p 0 []) } in
          let before_is : before ≡ packet ∷ [] = m.start.before_is ∙ answer_is_one p sent.bytes (scene (record w.target { layer = layer }) empty_outbox) refl in
          let part : part_of packet.bytes ≡ response (header_in p).label asks_part.kind = response_part layer.node p sent.bytes asks_part.label asks_part.kind read small (subst (λ (y : Layer Purpose). y.node < 2 ^ 16) (sym same) id_small) none asks_part.inside fits.0 in
          managing_turn start past x.node l.law_now v x.outbox first old nothing source before turned
          (subst IsIdle (sym (got_request x.node j)) (idle_if (start_serves (start_at there.access.offset) there.access) refl m.orb m.is))
          (request_office x.node j) empty
          (subst (PassedOver start past) (sym before_is) (one_passed start past packet (header_in p).label asks_part.kind part))
          ready l.id_small ask l.bytes l.wire.sent l.wire.serials
