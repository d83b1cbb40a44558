-- As the target sends the status block 00 of an operation that ends lists no agent of its initiator is out of RESET: the ORB was decided in that turn, by a reply, and
-- the decision put the agent of the one live login of that node into RESET.
use Rattle.sbp_world.proofs.Words.Std.{arith, ◌≡◌, ◌∙◌, ◌⊎◌, inl, inr, refl, sym, ap, subst, ◌<◌, ℕ, suc, ◌+◌, Bool, true, false, List, ◌∷◌, ◌++◌, length, map, Option, Some, None, Ok, nat_tests}
use Rattle.sbp_world.proofs.Words.Wire.{LabelParts, Packet, SerialsCount, as_sending, Finding, judging_step, of_response, Sent, found_sent, Holder, GenerationsState, id_of, topology_at, judged_note, empty_outbox, Moment, said, terms, Judged, Word}
use Rattle.sbp_world.proofs.Words.Target.{Login, Table, is_live, place_at, ManagerStep, Function, Operation, Status, decide, Does, status_block, function_of, number_of, Disk, Told, Purpose, manage, NodeState, TargetScene, scene, answer_in, concluded, received, received_as, with_layer, Whole, is_cut}
use Rattle.sbp_world.proofs.Words.Initiator.{start_of, ManagementOrb, Payload, status_in}
use Rattle.sbp_world.proofs.Words.Laws.{cuts_list, running_operation, Underway, host_at, is_management, id_for, Decided, decided_by, is_nothing, target_at}
use Rattle.sbp_world.proofs.Words.World.{whole_of, holder, Scene, WorldState, AreHeldAt, Office, AreOthers, is_written, HasOne, managed_for, IsCalm, IsToldDone, IsUp, View, view}
use Rattle.bus_memory.specs.declared.window.Window.TheVariants as windows
use Rattle.mgmt_agent.specs.declared.decision.Outcome.{Outcome}
use Rattle.mgmt_agent.specs.declared.function.Function.TheVariants as functions
use Rattle.mgmt_agent.specs.declared.operation.Phase.TheVariants as phases
use Rattle.mgmt_agent.specs.declared.status.Status.TheVariants as statuses
use Rattle.mgmt_agent.specs.Decisions.{told as told_of}
use Rattle.mgmt_agent.specs.Machine.{Machine, reply_step}
use Rattle.mgmt_agent.proofs.Doing.{effects_of_decisions}
use Rattle.orb_layout.specs.declared.ask.Ask.TheVariants as asks
use Rattle.sbp_journal.specs.declared.cause.Judged.TheVariants as judgements
use Rattle.sbp_target.specs.declared.purpose.Purpose.TheVariants as purposes
use Rattle.sbp_world.proofs.Wire.Nodes.{handed_alike}
use Rattle.sbp_world.proofs.Wire.Starts.{laws_of}
use Rattle.sbp_target.proofs.Histories.Calling.{Good}
use Rattle.sbp_world.specs.Agents.Management.Calls.{delivered}
use Rattle.sbp_world.proofs.Agents.Management.Holding.{Holding, known_id, was_sent}
use Rattle.sbp_world.proofs.Agents.Management.Still.{hist}
use Rattle.sbp_world.proofs.Sessions.Writing.{behind}
use Rattle.sbp_world.proofs.Lists.LiveBlocks.{tells_block}
use Rattle.sbp_world.proofs.Lists.LiveCalls.{HasOperation, delivery_operation, replies, starts, stays}
use Rattle.sbp_world.proofs.Lists.LiveDecides.{decided_kept, keeps_logins}
use Rattle.sbp_world.proofs.Lists.LiveSteps.{id_in}
use Rattle.sbp_world.proofs.Lists.LiveTurns.{keeps}
use Rattle.sbp_world.proofs.Lists.ManageOffices.{office_at}
use Rattle.sbp_world.proofs.Lists.ManageTerms.{none_is, same_some}
use Rattle.sbp_world.proofs.Lists.OpenCuts.{Listing}
use Rattle.sbp_world.proofs.Lists.OpenTurns.{HasSeat, listing_seat}
use Rattle.sbp_world.proofs.Lists.OpenedCuts.{Hits, manage_down}
use Rattle.sbp_world.proofs.Lists.OpenedDelivers.{delivery_up, end, good, marks, seats, told, turn}
use Rattle.sbp_world.proofs.Lists.OpenedFirst.{generation_same, operation_same}
use Rattle.sbp_world.proofs.Lists.OpenedHosts.{IsSame}
use Rattle.sbp_world.proofs.Lists.OpenedMoments.{of_target}
use Rattle.sbp_world.proofs.Lists.OpenedNotes.{Behind, target_handed}
use Rattle.sbp_world.proofs.Lists.OpenedOffices.{FirstAsks, begins, hears, idles, judged_asks}
use Rattle.sbp_world.proofs.Lists.OpenedOrbs.{EndsLists, ends_lists}
use Rattle.sbp_world.proofs.Lists.OpenedReplied.{IsResolved, Wrote, reply_wrote, resolved, responded, status_over}
use Rattle.sbp_world.proofs.Lists.OpenedSends.{IsWritten, Tells, telling, written}
use Rattle.sbp_world.proofs.Lists.OpenedTurns.{NoneUp, Opens, WasUp}
use Rattle.sbp_world.proofs.Lists.OpenedWorlds.{Here, turn_is}
use Rattle.sbp_world.proofs.Lists.OpenedTelling.{judged_first, judged_still}
use Rattle.sbp_world.proofs.Common.{untrue}

-- ---- what is known of the management of an initiator, before a turn
pub record Manages (x : View) (w : WorldState) (i : ℕ) : Type 0 where
  -- what is decided for its operation, which ends lists, is an ORB that does
  pub decides : x.target ≡ x.own → (serial : ℕ) (sent : Sent) → found_sent serial w.store.kept ≡ Some sent → sent.to ≡ 0 → (p : Packet) (label : LabelParts) → (judging_step w.target.layer sent.generation sent.bytes).0 ≡ of_response p label (Some purposes.Management) → (was : Operation) (on : Decided) (bytes : List ℕ) → w.target.manager.operation ≡ Some was → decided_by (Some was) (answer_in p) ≡ Some on → answer_in p ≡ Payload bytes → is_written was.phase ≡ false → on.source ≡ was.source → was.source ≡ id_in w i → (underway : Underway) → x.operation ≡ Some underway → is_management underway.operation ≡ true → cuts_list (Some underway.operation) ≡ true → was.orb ≡ start_of (windows.Management underway.place) → EndsLists on.orb
  -- its node has one live login at most
  pub one : x.target ≡ x.own → (underway : Underway) → x.operation ≡ Some underway → is_management underway.operation ≡ true → HasOne w.target.logins.places (id_in w i)
  -- such an operation writes no response
  pub answers : x.target ≡ x.own → (was : Operation) (fifo : ℕ) → w.target.manager.operation ≡ Some was → was.phase ≡ phases.Response fifo → was.source ≡ id_in w i → (underway : Underway) → x.operation ≡ Some underway → is_management underway.operation ≡ true → cuts_list (Some underway.operation) ≡ true → was.orb ≡ start_of (windows.Management underway.place) → ⊥

-- ---- small ones
none_zero : (status : Status) → 0 ≡ number_of status → status ≡ statuses.NoFault
none_zero statuses.NoFault e = refl
none_zero statuses.RequestType e = absurd (omega (arith, e))
none_zero statuses.AccessDenied e = absurd (omega (arith, e))
none_zero statuses.LogicalUnit e = absurd (omega (arith, e))
none_zero statuses.Resources e = absurd (omega (arith, e))
none_zero statuses.FunctionRejected e = absurd (omega (arith, e))
none_zero statuses.LoginId e = absurd (omega (arith, e))

not_orb : {A : Type 0} (op other : Operation) → Some other ≡ Some op → other.phase ≡ phases.Orb → op.phase ≡ phases.Status → A
not_orb op other e f g = absurd (differ (sym f ∙ (ap (λ (x : Operation). x.phase) (same_some other op e) ∙ g)))
  where
    differ : phases.Orb ≡ phases.Status → ⊥
    differ e = cc

judged_for : (start : List Disk) (serial : ℕ) (judged : Judged) (past : List Moment) (s : ℕ) → managed_for start (said (judged_note serial judged) ∷ past) s ≡ managed_for start past s
judged_for start serial judgements.Got past s = refl
judged_for start serial (judgements.Ignored cause) past s = refl

-- a decision with status 00 on an ORB that ends lists hits the place of the login
module _ (p : ℕ) (b : p < 8) (orb : ManagementOrb) (source eui : ℕ) (table : Table) (keys : List (List ℕ)) (own : Login) (there : place_at table.places p ≡ Some own) (only : (place : ℕ) (login : Login) → place_at table.places place ≡ Some login → is_live login ≡ true → login.node ≡ source → place ≡ p) where
  abbrev x : Outcome × Table
  x = decide orb source eui table keys

  same_unit : (login : Login) → Some login ≡ Some own → is_cut (Some login.unit) (Some own) ≡ true
  same_unit login e = let same : login.unit ≡ own.unit = ap (λ (l : Login). l.unit) (same_some login own e) in grind (arith, nat_tests)

  hits_by : (f : Function) → ends_lists f ≡ true → function_of orb.function ≡ Some f → Does f orb source eui table x.0 x.1 → Hits p b x.0.effect x.1.places
  hits_by functions.Logout e is d = subst (λ f. Hits p b f x.1.places) (sym d.effect) (only d.place d.stood.login d.stood.stands d.stood.live d.stood.of_node)
  hits_by functions.AbortSet e is d = subst (λ f. Hits p b f x.1.places) (sym d.does) (only d.place d.stands.login d.stands.stands d.stands.live d.stands.of_node)
  hits_by functions.UnitReset e is d =
      let at = only d.place d.stands.login d.stands.stands d.stands.live d.stands.of_node in
      let one : Some d.stands.login ≡ Some own = sym d.stands.stands ∙ (ap (place_at table.places) at ∙ there) in
      let kept : x.1 ≡ table = decided_kept orb source eui table keys (ap (λ f. keeps_logins f) is ∙ refl) in
      subst (λ f. Hits p b f x.1.places) (sym d.does)
      (ap (λ (t : Table). is_cut (Some d.stands.login.unit) (place_at t.places p)) kept ∙ (ap (λ l. is_cut (Some d.stands.login.unit) l) there ∙ same_unit d.stands.login one))
  hits_by functions.TargetReset e is d = subst (λ f. Hits p b f x.1.places) (sym d.does) tt
  hits_by functions.Login e is d = untrue e
  hits_by functions.Query e is d = untrue e
  hits_by functions.Reconnect e is d = untrue e
  hits_by functions.Abort e is d = untrue e

-- ---- a delivery to the target
module _ (units logins : ℕ) (has : 0 < units) (start : List Disk) {past : List Moment} {lines : ℕ} (w : WorldState) (h : Holding units logins start past lines w) (held : AreHeldAt start (hist past w) w) (i : ℕ) (calm : IsCalm (hist past w) i) (here : Here (hist past w) w i) (mine : Manages (view (hist past w) i) w i) (serial : ℕ) (sent : Sent) (found : found_sent serial w.store.kept ≡ Some sent) (zero_to : sent.to ≡ 0) (run : Option Told) (s : Scene) (again : Bool) (others : AreOthers (turn units logins has start w h held serial sent found zero_to run s again).1.outbox.sides) {lines_now : ℕ} (h_now : Holding units logins start past lines_now (end units logins has start w h held serial sent found zero_to run s again)) (k : Tells start (hist past (end units logins has start w h held serial sent found zero_to run s again)) i) (r : IsToldDone (view (hist past (end units logins has start w h held serial sent found zero_to run s again)) i) i) (l : (terms (hist past w)).count < r.serial) where
  abbrev H : List Moment
  H = hist past w

  abbrev T : Judged × Whole
  T = turn units logins has start w h held serial sent found zero_to run s again

  abbrev u : WorldState
  u = told units logins has start w h held serial sent found zero_to run s again

  abbrev D : WorldState
  D = end units logins has start w h held serial sent found zero_to run s again

  abbrev E : List Moment
  E = hist past D

  abbrev g : Good w.target
  g = good units logins has start w h held

  -- ---- the notes of the turn
  b : Behind of_target u.fresh D.fresh
  b = target_handed 0 T.1.outbox u others

  abbrev m : Moment
  m = said (judged_note serial T.0)

  abbrev now : List Moment
  now = map said b.more ++ m ∷ H

  first : u.fresh ≡ judged_note serial T.0 ∷ w.fresh
  first = (marks units logins has start w h held serial sent found zero_to run s again).fresh

  same : now ≡ E
  same = turn_is b.more (judged_note serial T.0) w.fresh D.fresh past (ap (λ ns. b.more ++ ns) (sym first) ∙ b.is)

  generation : (node : ℕ) → (terms E).generation node ≡ (terms H).generation node
  generation node = ap (λ ms. (terms ms).generation node) (sym same) ∙ generation_same i b.more m H b.all (judged_first serial T.0) node (judged_still serial node T.0)

  same_nodes : (view H i).target ≡ (view H i).own
  same_nodes = sym (generation 0) ∙ (r.same ∙ generation (suc i))

  was : IsSame (view H i).operation r.underway
  was = operation_same i b.more m H b.all (judged_first serial T.0) r.underway (ap (λ ms. (host_at ms i).operation) same ∙ r.is)

  manages : is_management was.was.operation ≡ true
  manages = ap is_management was.operation ∙ r.manages

  ends : cuts_list (Some was.was.operation) ≡ true
  ends = ap (λ (o : Word). cuts_list (Some o)) was.operation ∙ r.cuts

  -- ---- the operation of the target
  abbrev op : Operation
  op = (telling start E i k r).op

  status : op.phase ≡ phases.Status
  status = (telling start E i k r).status

  orb_is : op.orb ≡ start_of (windows.Management was.was.place)
  orb_is = (telling start E i k r).orb ∙ ap (λ n. start_of (windows.Management n)) (sym was.place)

  serials : SerialsCount H
  serials = (laws_of past w h.sound.stands).serials

  wrote : IsWritten start past w u T.1.outbox others (judged_note serial T.0) first serials (judged_for start serial T.0 H) i k r l
  wrote = written start past w u T.1.outbox others (judged_note serial T.0) first serials (judged_for start serial T.0 H) i k r l

  manager_now : (target_at start E).manager ≡ T.1.node.manager
  manager_now = h_now.at.agrees.manager ∙ ap (λ (n : NodeState). n.manager) ((handed_alike 0 0 T.1.outbox u).target ∙ (marks units logins has start w h held serial sent found zero_to run s again).target)

  now_op : T.1.node.manager.operation ≡ Some op
  now_op = ap (λ (y : Machine). y.operation) (sym manager_now) ∙ wrote.operation

  -- ---- of one place
  module _ (p : ℕ) (c : p < 8) (up : IsUp D i p) where
    -- its agent was out of RESET before
    cutting : cuts_list (running_operation (view H i).operation) ≡ true
    cutting = ap (λ (q : Option Underway). cuts_list (running_operation q)) was.is ∙ ends

    before_by : WasUp w D i p ⊎ Opens (view H i) (view E i) i p (holder D p).list → IsUp w i p
    before_by (inl old) = old.was
    before_by (inr new) =
        let f = here.known.first new.serial new.packet p new.address new.sent new.at in
        let q = here.known.waits f.list new.serial new.packet f.pointed new.sent (new.current ∙ same_nodes) new.fresh in
        untrue (sym q.uncut ∙ cutting)

    before : IsUp w i p
    before =
        before_by (delivery_up units logins has start w h held serial sent found zero_to run s again i calm here.rows
        (λ place address q. here.written serial (as_sending sent) place address (was_sent w h.sound.stands serial sent found) q) b.more same p c up)

    -- its login is that of the node
    seat : HasSeat w p
    seat = listing_seat w g (seats units logins has start w h held) p c before.up

    owned : (holder w p).initiator ≡ i
    owned = before.own

    abbrev Owner : Type 0
    Owner = (i < length w.initiators) × (id_for (terms H) 0 (i + 1) ≡ seat.login.node)

    owner : Owner
    owner =
        let x = held.held p seat.login seat.is in
        let is : x.holder ≡ holder w p = same_some x.holder (holder w p) (sym x.there ∙ seat.there) in
        let n : x.holder.initiator ≡ i = ap (λ (y : Holder). y.initiator) is ∙ owned in
        let of = (x.live seat.live).of in
        (subst (λ j. j < length w.initiators) n of.small, ap (λ j. id_for (terms H) 0 (j + 1)) (sym n) ∙ of.node_is)

    next : i + 1 ≡ suc i
    next = omega arith

    id_is : id_for (terms H) 0 (suc i) ≡ id_in w i
    id_is = known_id w h.sound.stands (suc i) (let x = owner.0 in omega (arith, x))

    node_is : seat.login.node ≡ id_in w i
    node_is = sym owner.1 ∙ (ap (λ j. id_for (terms H) 0 j) next ∙ id_is)

    -- the operation is of that node
    source_is : op.source ≡ id_in w i
    source_is =
        let t = telling start E i k r in
        let current : t.packet.generation ≡ (terms E).generation 0 = t.current ∙ sym r.same in
        let ids : id_in D i ≡ id_in w i = ap (λ n. id_by n) ((handed_alike 0 0 T.1.outbox u).generations ∙ (marks units logins has start w h held serial sent found zero_to run s again).generations) in
        t.source ∙ (ap (λ n. (terms E).ids n (suc i)) current ∙ (known_id D h_now.sound.stands (suc i) (let x = inside_now in omega (arith, x)) ∙ ids))
      where
        inside_now : i < length D.initiators
        inside_now =
            let e : D.initiators ≡ w.initiators = (handed_alike 0 0 T.1.outbox u).initiators ∙ (marks units logins has start w h held serial sent found zero_to run s again).initiators in
            subst (λ is. i < length is) (sym e) owner.0

        id_by : GenerationsState → ℕ
        id_by n = id_of (topology_at n 0) (suc i)

    -- ---- what the turn did
    module _ (q : Packet) (label : LabelParts) (f : (judging_step w.target.layer sent.generation sent.bytes).0 ≡ of_response q label (Some purposes.Management)) where
      abbrev left : TargetScene
      left = scene (record w.target { layer = (judging_step w.target.layer sent.generation sent.bytes).1 }) empty_outbox

      -- the call is that of a reply
      managed : Listing T.1.node p → Listing (manage (answer_in q) left).node p
      unfolding received concluded
      managed on = subst (λ (x : Finding Purpose). Listing (received_as run sent.bytes x (with_layer (judging_step w.target.layer sent.generation sent.bytes).1 (whole_of w.target s.media))).1.node p) f on

      listing : Listing T.1.node p
      listing = subst (λ (n : NodeState). Listing n p) ((handed_alike 0 0 T.1.outbox u).target ∙ (marks units logins has start w h held serial sent found zero_to run s again).target) up.up

      abbrev step : ManagerStep × (Machine × Table)
      step = reply_step w.target.manager w.target.logins w.target.keys (answer_in q)

      module _ (reply : T.1.node.manager ≡ step.1.0) where
        -- its ORB was decided
        module _ (x : IsResolved w.target.manager w.target.logins w.target.keys (answer_in q) step op) where
          abbrev made : Outcome × Table
          made = decide x.on.orb x.on.source x.on.eui w.target.logins w.target.keys

          ended : EndsLists x.on.orb
          ended =
              mine.decides same_nodes serial sent found zero_to q label f x.was x.on x.bytes x.is (ap (λ o. decided_by o (answer_in q)) (sym x.is) ∙ x.brought) x.pays x.unwritten x.on_source (x.source ∙ source_is) was.was was.is manages ends (x.orb ∙ orb_is)

          payload : r.done.payload ≡ status_block (start_of (windows.Management was.was.place)) made.0.status
          payload = wrote.payload ∙ (ap (λ (y : Machine). y.outgoing) (manager_now ∙ reply) ∙ (x.status status ∙ ap (λ n. status_block n made.0.status) orb_is))

          good_status : made.0.status ≡ statuses.NoFault
          good_status =
              let read : status_in (status_block (start_of (windows.Management was.was.place)) made.0.status) ≡ Ok r.done.block = ap status_in (sym payload) ∙ r.done.read in
              none_zero made.0.status ((tells_block was.was.place small made.0.status r.done.block 0 read r.done.kind).number_is)
            where
              small : was.was.place < 2
              small = subst (λ n. n < 2) (sym was.place) (k.small r.underway r.is)

          only : (place : ℕ) (login : Login) → place_at w.target.logins.places place ≡ Some login → is_live login ≡ true → login.node ≡ x.on.source → place ≡ p
          only place login is live of_node =
              (mine.one same_nodes was.was was.is manages).one place p login seat.login is seat.is live seat.live (of_node ∙ (x.on_source ∙ (x.source ∙ source_is))) node_is

          hits : Hits p c step.0.effect step.1.1.places
          hits =
              let d = effects_of_decisions ended.function x.on.orb x.on.source x.on.eui w.target.logins w.target.keys g.table ended.is good_status in
              subst (λ e. Hits p c e step.1.1.places) (sym x.effect)
              (subst (λ (t : Table). Hits p c made.0.effect t.places) (sym x.logins)
              (hits_by p c x.on.orb x.on.source x.on.eui w.target.logins w.target.keys seat.login seat.is only ended.function ended.ends ended.is d))

          resolved_none : ⊥
          resolved_none = manage_down p c (answer_in q) left x.was x.is (told_of x.on.orb made.0) x.decided g.mid.size hits (managed listing)

        wrote_none : Wrote w.target.manager w.target.logins w.target.keys (answer_in q) step op → ⊥
        wrote_none (responded old is fifo phase source orb now_status) = mine.answers same_nodes old fifo is phase (source ∙ source_is) was.was was.is manages ends (orb ∙ orb_is)
        wrote_none (resolved x) = resolved_none x

        reply_none : ⊥
        reply_none = wrote_none (reply_wrote w.target.manager w.target.logins w.target.keys (answer_in q) op (ap (λ (y : Machine). y.operation) (sym reply) ∙ now_op) (ap is_written status))

    -- its operation is not as it was
    stays_none : T.1.node.manager ≡ w.target.manager → ⊥
    stays_none e = by (judged_asks start serial T.0 H)
      where
        old_op : (target_at start H).manager.operation ≡ Some op
        old_op = ap (λ (y : Machine). y.operation) (h.at.agrees.manager ∙ sym e) ∙ now_op

        by : FirstAsks (office_at start H) (office_at start (said (judged_note serial T.0) ∷ H)) → ⊥
        by (idles q) = untrue (sym wrote.asked ∙ ap (λ a. is_nothing a) q)
        by (hears answer q) =
            none_is op (sym (status_over (office_at start H).manager (office_at start H).table (office_at start H).keys answer op old_op status) ∙ (ap (λ (y : Machine). y.operation) (sym q) ∙ (ap (λ (y : Machine). y.operation) (sym wrote.manager) ∙ wrote.operation)))
        by (begins other is phase) = not_orb op other (sym is ∙ (ap (λ (y : Machine). y.operation) (sym wrote.manager) ∙ wrote.operation)) phase status

    turn_none : HasOperation w.target sent.generation sent.bytes T.1.node op → ⊥
    turn_none (stays e logins_same) = stays_none e
    turn_none (starts a logins_same) = not_orb op op refl a.phase status
    turn_none (replies q label f goes) =
        let office = behind w.target g (keeps units logins has start w h) T.1.outbox.sides (delivered (judging_step w.target.layer sent.generation sent.bytes).0 w.target old) T.1.node ((keeps units logins has start w h).deliveries run s.media.disks sent.generation sent.bytes) op now_op in
        reply_none q label f (office ∙ ap (λ (y : Finding Purpose). (delivered y w.target old).manager) f)
      where
        old : Office
        old = record { table = w.target.logins; keys = w.target.keys; manager = w.target.manager; manages = None; asks = asks.Nothing; decided = None }

    ended_none : ⊥
    ended_none = turn_none (delivery_operation w.target g (keeps units logins has start w h) sent.generation sent.bytes run s.media.disks op now_op)

  pub delivery_cuts : NoneUp D i
  delivery_cuts p c up = ended_none p c up
