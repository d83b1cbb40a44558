-- A packet is delivered to the target: behind the whole turn each packet of an operation asks for what the operation asked for.
use Rattle.sbp_world.proofs.Words.Std.{arith, ◌≡◌, ◌≢◌, ◌∙◌, refl, sym, ap, subst, ℕ, ◌^◌, ◌<◌, ◌≤◌, is_some, Bool, true, false, cond, List, [], ◌∷◌, length, Option, Some, None, Result, Ok, unwrap_or, nat_tests}
use Rattle.sbp_world.proofs.Words.Wire.{PacketFault, LabelParts, Packet, header_in, reading, AreBytes, AreJudged, as_sending, ReplyKind, Layer, judging_step, of_response, reply_kind, Sent, found_sent, Moment, said, Kind, Sending, part_in, part_of, request, response, Terms, terms, Cause, Judged, Outgoing, empty_outbox, canon, kind_as, response_to, start_at, start_serves, judged_note}
use Rattle.sbp_world.proofs.Words.Target.{Table, ManagerStep, Disk, Demand, demand_of, Purpose, NodeState, scene, answer_in, Whole, TransactionLaw}
use Rattle.sbp_world.proofs.Words.Laws.{start_got, Target, got_by, is_serial, over, laws_replied, request_got, target_at}
use Rattle.sbp_world.proofs.Words.World.{marked, handed_out, WorldState, with_note, with_target, FitsManager, IsOfWire, Stands, demanded, Office, at_rest, office_of, replied, started, IsManagementAt, AreContents}
use Rattle.bus_transactions.proofs.PacketParts.{PartOf, asks, part_case, part_read, replies}
use Rattle.mgmt_agent.specs.Machine as management
use Rattle.sbp_journal.specs.declared.cause.Judged.TheVariants as judgements
use Rattle.bus_transactions.specs.Judging.{facts_of}
use Rattle.bus_transactions.proofs.FitJudged.{bytes_of, spelled}
use Rattle.sbp_laws.specs.Packets as laws
use Rattle.target_base.specs.declared.address.Demand.TheVariants as demands
use Rattle.sbp_world.proofs.FitTarget.Demands.{FitsDemand, demand_fits}
use Rattle.sbp_world.proofs.Agents.Management.Demands.{demand_is, starts_at}
use Rattle.sbp_target.specs.declared.purpose.Purpose.TheVariants as purposes
use Rattle.sbp_target.proofs.Histories.Calling.{Good}
use Rattle.sbp_world.proofs.FitTarget.Agents.{BytesIn, FitsAsk}
use Rattle.sbp_world.proofs.FitTarget.Manager.{managed_fits}
use Rattle.sbp_target.proofs.Histories.Primitives.{closing_known}
use Rattle.sbp_target.proofs.Histories.Seats.{Lives}
use Rattle.sbp_world.proofs.Agents.Management.Asking.{Turned}
use Rattle.sbp_world.proofs.Agents.Management.Calm.{Calm, ForManager}
use Rattle.sbp_world.proofs.Agents.Management.Delivering.{answer_is, answers_own, is_other}
use Rattle.sbp_world.proofs.Agents.Management.Firsts.{got_here, ignored_office, manage_idle, other_reply, own_idle, own_reply, request_keeps}
use Rattle.sbp_world.proofs.Agents.Management.Hearing.{IsAnswer, answers, answers_none, label_number}
use Rattle.sbp_world.proofs.Agents.Management.Holding.{handed_judged, is_of, marked_hist, was_sent}
use Rattle.sbp_world.proofs.Agents.Management.Idle.{IsIdle, over_idle}
use Rattle.sbp_world.proofs.Agents.Management.Managed.{IsReady, PassedOver, none_passed}
use Rattle.sbp_world.proofs.Agents.Management.Managing.{quiet_says}
use Rattle.sbp_world.proofs.Agents.Management.Offices.{over_keeps}
use Rattle.sbp_world.proofs.Agents.Management.Still.{hist}
use Rattle.sbp_world.proofs.Agents.Management.Told.{office_in, term_in}
use Rattle.sbp_world.proofs.Lists.ContentTurns.{Passes, calm_contents, managing_contents, none_passes, one_passes}
use Rattle.sbp_world.proofs.Agents.Management.Landing.{response_part, start_asks, answer_is_one, AccessIs, access_there, one_passed, IsManage}
use Rattle.sbp_world.proofs.Agents.CrewFirsts.{current_by}

module _ {past : List Moment} (start : List Disk) (w : WorldState) (h : Stands past w) (g : Good w.target) (law : TransactionLaw w.target) (at : IsManagementAt start (hist past w) w.target) (serial : ℕ) (again : Bool) (sent : Sent) (found : found_sent serial w.store.kept ≡ Some sent) (zero_to : sent.to ≡ 0) (were : AreContents start (hist past w)) where
  abbrev t : Terms
  t = terms (hist past w)

  abbrev q : Sending
  q = as_sending sent

  abbrev T : Target
  T = target_at start (hist past w)

  abbrev pub rested : Office
  rested = at_rest (office_in start past w)

  -- the world with the first note of the delivery
  abbrev pub noted_world : Judged → NodeState → WorldState
  noted_world judged now = with_note (judged_note serial judged) (marked serial again (with_target now w))

  abbrev pub handed_world : Judged → Whole → WorldState
  handed_world judged x = handed_out 0 0 x.outbox (noted_world judged x.node)

  -- what is known behind it
  pub record Later (judged : Judged) (x : Whole) : Type 0 where
    pub wire : IsOfWire (hist past (handed_world judged x))
    pub law_now : TransactionLaw x.node
    pub id_small : x.node.layer.node < 2 ^ 16
    pub bytes : AreBytes x.node.manager.outgoing

  abbrev pub Ends : Judged → Whole → Type 0
  Ends judged x = Later judged x → AreContents start (hist past (handed_world judged x))

  note_hist : (judged : Judged) (now : NodeState) → hist past (noted_world judged now) ≡ said (judged_note serial judged) ∷ hist past w
  note_hist judged now = ap (λ ms. said (judged_note serial judged) ∷ ms) (marked_hist past serial again (with_target now w))

  -- what was told first is no packet
  noted_contents : (judged : Judged) (now : NodeState) → AreContents start (hist past (noted_world judged now))
  noted_contents judgements.Got now = subst (AreContents start) (sym (note_hist judgements.Got now)) (tt, were)
  noted_contents (judgements.Ignored cause) now = subst (AreContents start) (sym (note_hist (judgements.Ignored cause) now)) (tt, were)

  was : t.sent serial ≡ Some q
  was = was_sent w h serial sent found

  over_manages : (over T).manages ≡ (office_in start past w).manages
  over_manages = ap (λ (o : Office). o.manages) (over_keeps T)

  -- ---- what is ignored
  pub ignored_ends : (cause : Cause) (x : Whole) → Calm g.lives w.target (scene x.node x.outbox) → Ends (judgements.Ignored cause) x
  ignored_ends cause x c l =
      let v = noted_world (judgements.Ignored cause) x.node in
      let e = note_hist (judgements.Ignored cause) x.node in
      calm_contents start past 0 x.outbox v (quiet_says x.outbox.sides (office_in start past v) c.quiet).behind
      (ap (λ (o : Office). o.asks) (ap (λ ms. office_of (target_at start ms)) e ∙ ignored_office start (hist past w) serial cause))
      (noted_contents (judgements.Ignored cause) x.node)

  -- ---- a response
  module _ (p : Packet) (read : reading sent.bytes ≡ Ok p) (some : is_some (reply_kind p) ≡ true) (label : LabelParts) (purpose : Option Purpose) (layer : Layer Purpose) (e : judging_step w.target.layer sent.generation sent.bytes ≡ (of_response p label purpose, layer)) where
    number : label.number ≡ (header_in p).label
    number = label_number w.target.layer layer sent.generation sent.bytes p label purpose e

    answer_for : (now : NodeState) → AreJudged (hist past (noted_world judgements.Got now)) → IsAnswer t serial q p
    answer_for now j = answers t serial q p was read some ((subst AreJudged (note_hist judgements.Got now) j).0 q was)

    got_is : (now : NodeState) (a : IsAnswer t serial q p) → term_in start past (noted_world judgements.Got now) ≡ laws_replied a.own (laws.answer_in (laws.packet_at t serial)) (over T)
    got_is now a = ap (target_at start) (note_hist judgements.Got now) ∙ got_here start (hist past w) serial q was zero_to ∙ ap (λ own. got_by own t serial (over T)) a.answered

    pub other_ends : purpose ≢ Some purposes.Management → (x : Whole) → Calm g.lives w.target (scene x.node x.outbox) → Ends judgements.Got x
    other_ends n x c l =
        let v = noted_world judgements.Got x.node in
        let k = closing_known w.target.layer layer g.lives sent.generation sent.bytes p label purpose g.mid.known e some in
        let a = answer_for x.node (handed_judged past 0 0 x.outbox v (quiet_says x.outbox.sides (office_in start past v) c.quiet).behind l.wire.judged) in
        let other = is_other start w h g law at serial sent found zero_to p read a label purpose k.kind k.life number n in
        calm_contents start past 0 x.outbox v (quiet_says x.outbox.sides (office_in start past v) c.quiet).behind
        (ap (λ (o : Office). o.asks) (ap office_of (got_is x.node a) ∙ other_reply a.own (laws.answer_in (laws.packet_at t serial)) (over T) (ap (λ m. is_serial m a.own) over_manages ∙ other) ∙ over_keeps T))
        (noted_contents judgements.Got x.node)

    pub own_ends : {known : ℕ → Type 0} → purpose ≡ Some purposes.Management → BytesIn (answer_in p) → FitsManager known w.target.manager → (x : Whole) (source : ℕ) (old : Lives) → ((n : ℕ) (m : LabelParts) (kind : ReplyKind) → ForManager old n m kind → ⊥) → IsReady past (noted_world judgements.Got x.node) source → Turned (replied (answer_in p) rested) old source [] (scene x.node x.outbox) → Ends judgements.Got x
    own_ends {known} m small fits x source old none ready turned l =
        let v = noted_world judgements.Got x.node in
        let k = closing_known w.target.layer layer g.lives sent.generation sent.bytes p label purpose g.mid.known e some in
        let a = answer_for x.node (handed_judged past 0 0 x.outbox v turned.says.behind l.wire.judged) in
        let own = answers_own start w h g law at serial sent found zero_to p read a label purpose k.kind k.life number m in
        let is_own : is_serial (over T).manages a.own ≡ true = ap (λ n. is_serial n a.own) over_manages ∙ own.own in
        let answer = answer_is start w h g law at serial sent found zero_to p read a label purpose k.kind k.life number own.no_lock in
        let office : office_in start past v ≡ replied (answer_in p) rested =
        ap office_of (got_is x.node a) ∙ own_reply a.own (laws.answer_in (laws.packet_at t serial)) (over T) is_own
        ∙ ap (λ y. replied y (office_of (over T))) answer ∙ ap (λ y. replied (answer_in p) y) (over_keeps T) in
        let idle : IsIdle (term_in start past v) = subst IsIdle (sym (got_is x.node a)) (own_idle a.own (laws.answer_in (laws.packet_at t serial)) (over T) is_own (over_idle T)) in
        let same : management.reply_step w.target.manager w.target.logins w.target.keys (answer_in p) ≡ management.reply_step rested.manager rested.table rested.keys (answer_in p) =
        ap (λ y. management.reply_step y w.target.logins w.target.keys (answer_in p)) (sym at.agrees.manager)
        ∙ ap (λ y. management.reply_step rested.manager y w.target.keys (answer_in p)) (sym at.agrees.table)
        ∙ ap (λ y. management.reply_step rested.manager rested.table y (answer_in p)) (sym at.agrees.keys) in
        let ask : FitsAsk (replied (answer_in p) rested).asks = subst (λ (r : ManagerStep × (management.Machine × Table)). FitsAsk r.0.ask) same (managed_fits known w.target.manager w.target.logins w.target.keys (answer_in p) small fits).ask in
        managing_contents start past x.node v x.outbox (replied (answer_in p) rested) old source [] turned idle office (none_passed start past) (none_passes start past) ready ask l.bytes (noted_contents judgements.Got x.node)

  -- ---- a request

  module _ (p : Packet) (read : reading sent.bytes ≡ Ok p) (none : reply_kind p ≡ None) where
    record Asks : Type 0 where
      label : ℕ
      kind : Kind
      inside : part_in p ≡ request label kind
      part : part_of sent.bytes ≡ request label kind

    asks_part : Asks
    asks_part = by_case (part_case p)
      where
        by_case : PartOf p → Asks
        by_case (asks l k part is) = record { label = l; kind = k; inside = part; part = part_read sent.bytes p read ∙ part }
        by_case (replies l k part is) = absurd (let no : None ≡ Some (kind_as k) = sym none ∙ is in cc)

    there : AccessIs p
    there = access_there p none

    got_request : (now : NodeState) → AreJudged (hist past (noted_world judgements.Got now)) → term_in start past (noted_world judgements.Got now) ≡ request_got (Some there.access) (header_in p).source (over T)
    got_request now j =
        let may = (subst AreJudged (note_hist judgements.Got now) j).0 q was in
        let f = facts_of t q in
        let current = current_by f.is_current f.is_for_node f.is_response f.is_awaited f.is_repeated may in
        let generation : sent.generation ≡ t.generation 0 = (let z : sent.generation ≡ t.generation sent.to = grind (arith, nat_tests) in z) ∙ ap t.generation zero_to in
        let source_is : t.ids (t.generation 0) sent.from ≡ (header_in p).source = ap (λ x. t.ids x sent.from) (sym generation) ∙ sym ((is_of w h serial sent found).source p read) in
        ap (target_at start) (note_hist judgements.Got now) ∙ got_here start (hist past w) serial q was zero_to
        ∙ ap (λ own. got_by own t serial (over T)) (answers_none t serial q asks_part.label asks_part.kind was asks_part.part)
        ∙ ap (λ a. request_got a (t.ids (t.generation 0) (unwrap_or (laws.sender_in (t.sent serial)) 0)) (over T)) (ap (λ so. laws.access_in (laws.packet_in so)) was ∙ ap (λ (r : Result Packet PacketFault). laws.access_in (laws.spelled_by r)) read ∙ there.is)
        ∙ ap (λ so. request_got (Some there.access) (t.ids (t.generation 0) (unwrap_or (laws.sender_in so) 0)) (over T)) was
        ∙ ap (λ x. request_got (Some there.access) x (over T)) source_is

    module _ (rom : length w.target.rom ≤ 1024) where
      abbrev pub demand : Demand
      demand = demand_of (length w.target.rom) p

      request_office : (now : NodeState) → AreJudged (hist past (noted_world judgements.Got now)) → office_in start past (noted_world judgements.Got now) ≡ demanded demand (header_in p).source rested
      request_office now j =
          ap office_of (got_request now j) ∙ request_keeps there.access (header_in p).source (over T)
          ∙ sym (demand_is (header_in p).source (office_of (over T)) (length w.target.rom) p there.access there.is rom)
          ∙ ap (demanded demand (header_in p).source) (over_keeps T)

      pub calm_request : (x : Whole) → demanded demand (header_in p).source rested ≡ rested → Calm g.lives w.target (scene x.node x.outbox) → Ends judgements.Got x
      calm_request x same c l =
          let v = noted_world judgements.Got x.node in
          let j = handed_judged past 0 0 x.outbox v (quiet_says x.outbox.sides (office_in start past v) c.quiet).behind l.wire.judged in
          calm_contents start past 0 x.outbox v (quiet_says x.outbox.sides (office_in start past v) c.quiet).behind (ap (λ (o : Office). o.asks) (request_office x.node j ∙ same)) (noted_contents judgements.Got x.node)

      idle_if : (b : Bool) → start_serves (start_at there.access.offset) there.access ≡ b → (orb : ℕ) → demand ≡ demands.Manage orb → IsIdle (request_got (Some there.access) (header_in p).source (over T))
      idle_if true e orb d = manage_idle there.access (header_in p).source (over T) (starts_at (length w.target.rom) orb p there.access there.is rom e d) (over_idle T)
      idle_if false e orb d = subst (λ b. IsIdle (cond b (start_got (start_at there.access.offset) (header_in p).source there.access (over T)) (over T))) (sym e) (over_idle T)

      pub starting_request : (small : AreBytes sent.bytes) (id_small : w.target.layer.node < 2 ^ 16) (layer : Layer Purpose) (same : layer ≡ w.target.layer) (x : Whole) (source : ℕ) (before : List Outgoing) (old : Lives) → IsManage demand w.target p sent.bytes layer source before → ((n : ℕ) (m : LabelParts) (kind : ReplyKind) → ForManager old n m kind → ⊥) → IsReady past (noted_world judgements.Got x.node) source → Turned (demanded demand (header_in p).source rested) old source before (scene x.node x.outbox) → Ends judgements.Got x
      starting_request small id_small layer same x source before old m nothing ready turned l =
          let v = noted_world judgements.Got x.node in
          let j = handed_judged past 0 0 x.outbox v turned.says.behind l.wire.judged in
          let first = demanded demand (header_in p).source rested in
          let fits : FitsDemand (length w.target.rom) p (demands.Manage m.orb) = subst (FitsDemand (length w.target.rom) p) m.is (demand_fits (length w.target.rom) p (bytes_of p sent.bytes (spelled sent.bytes p read) small)) in
          let first_is : first ≡ started (header_in p).source m.orb rested = ap (λ d. demanded d (header_in p).source rested) m.is in
          let operation : rested.manager.operation ≡ None = ap (λ (y : management.Machine). y.operation) at.agrees.manager ∙ m.start.none in
          let ask : FitsAsk first.asks = subst (λ (o : Office). FitsAsk o.asks) (sym first_is) (start_asks rested (header_in p).source m.orb operation fits.1) in
          let packet : Outgoing = record { to = (header_in p).source; label = None; bytes = canon (response_to layer.node p 0 []) } in
          let before_is : before ≡ packet ∷ [] = m.start.before_is ∙ answer_is_one p sent.bytes (scene (record w.target { layer = layer }) empty_outbox) refl in
          let part : part_of packet.bytes ≡ response (header_in p).label asks_part.kind = response_part layer.node p sent.bytes asks_part.label asks_part.kind read small (subst (λ (y : Layer Purpose). y.node < 2 ^ 16) (sym same) id_small) none asks_part.inside fits.0 in
          managing_contents start past x.node v x.outbox first old source before turned
          (subst IsIdle (sym (got_request x.node j)) (idle_if (start_serves (start_at there.access.offset) there.access) refl m.orb m.is))
          (request_office x.node j)
          (subst (PassedOver start past) (sym before_is) (one_passed start past packet (header_in p).label asks_part.kind part))
          (subst (Passes start past) (sym before_is) (one_passes start past packet (header_in p).label asks_part.kind part))
          ready ask l.bytes (noted_contents judgements.Got x.node)
