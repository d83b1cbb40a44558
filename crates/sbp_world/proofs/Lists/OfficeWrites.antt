-- At each place of a run the management of the target, in an operation of an initiator that injected no packets, asks to write into no page table, and waits for no such write.
use Rattle.sbp_world.proofs.Words.Std.{arith, ◌≡◌, ◌∙◌, refl, sym, ap, subst, ◌<◌, ℕ, suc, List, [], ◌∷◌, ◌++◌, map, length, Option, Some, None, Ok, Bool, true, false}
use Rattle.sbp_world.proofs.Words.Wire.{SerialsCount, IsAwaited, Moment, asked, said, Kind, Part, Sending, Transaction, asked_as, asked_by, begun_by, begun_if, between, Terms, terms, opened, Note, transaction, Event}
use Rattle.sbp_world.proofs.Words.Target.{Operation, source_in, Disk}
use Rattle.sbp_world.proofs.Words.Initiator.{IfShare, window_at, management_orb, Payload, payload_of, Nothing}
use Rattle.sbp_world.proofs.Words.Laws.{answer_in, answered_at, id_for, packet_at, receiver_in, sender_in, packet_in, target_at, EachMoment}
use Rattle.sbp_world.proofs.Words.World.{WorldState, Stands, Awaits, HasRequest, AreContents, ContentAt, AnswersAt, IsAside, IsGoodOrb, IsItsFifo, in_front, of_login, of_place, of_response, IsInAPlace, BasedAt, Office, moments_behind, ready_logins, Run, beginning, more_deliveries, AreShort, IsCalm}
use Rattle.bus_memory.specs.declared.window.Window.TheVariants as windows
use Rattle.bus_memory.proofs.Found.{window_share}
use Rattle.bus_transactions.proofs.Reaches.{goes_on}
use Rattle.mgmt_agent.specs.declared.operation.Phase.TheVariants as phases
use Rattle.mgmt_agent.specs.Machine.{Machine}
use Rattle.sbp_journal.specs.declared.note.Note.TheVariants as notes
use Rattle.sbp_world.proofs.Agents.Management.Holding.{Holding, past_terms, same_id}
use Rattle.sbp_world.proofs.Agents.Management.Still.{hist}
use Rattle.sbp_world.specs.Lists.ReadOrbs.{IsAnswered}
use Rattle.sbp_world.proofs.Lists.BufferClears.{Ground, few_of, ground_everywhere, own_at, place_window}
use Rattle.sbp_world.proofs.Lists.BegunBy.{IsHeld, held_by}
use Rattle.sbp_world.proofs.Lists.FedOnce.{IsReply, reply_by}
use Rattle.sbp_world.proofs.Lists.Heard.{awaited_to}
use Rattle.sbp_world.proofs.Lists.ManageTerms.{none_is, same_some}
use Rattle.sbp_world.proofs.Lists.OfficeAsks.{GotGood, HasOpOf, OfficeSo, asked_so, front_so, got_so, note_so}
use Rattle.sbp_world.proofs.Lists.OwnFifos.{fifo_no_window}
use Rattle.sbp_world.proofs.Lists.OwnOps.{IsOwnOp, answer_good, short_from}
use Rattle.sbp_world.proofs.Lists.StoredMoments.{window_there}
use Rattle.orb_layout.specs.declared.ask.Ask.TheVariants as asks
use Rattle.sbp_journal.specs.declared.event.Event.TheVariants as events
use Rattle.sbp_world.proofs.Agents.Management.Offices.{over_keeps}
use Rattle.sbp_world.proofs.Hosts.SentMoments.{serials_from}
use Rattle.sbp_world.proofs.Lists.ContentRuns.{contents_after, contents_between}
use Rattle.sbp_world.proofs.Lists.Courses.{EveryPlace, Keeps, at_between, at_lines, more_than_one}
use Rattle.sbp_world.proofs.Lists.Fair.{Told, told_everywhere}
use Rattle.sbp_world.proofs.Lists.Gots.{Next, next, next_line, same_still}
use Rattle.sbp_world.proofs.Lists.Judging.{Grown, goes_next, grown}
use Rattle.sbp_world.proofs.Lists.LiveRuns.{base_of, goes_calm, goes_size, goes_turned}
use Rattle.sbp_world.proofs.Lists.KeptTurns.{id_is}
use Rattle.sbp_world.proofs.Lists.LiveSteps.{id_in}
use Rattle.sbp_world.proofs.Lists.LiveTurns.{TurnOf, by_clearing, by_own, by_sight, by_target}
use Rattle.sbp_world.proofs.Lists.ManageSends.{opened_terms}
use Rattle.sbp_world.proofs.Lists.OwnGots.{answered_same}
use Rattle.sbp_world.proofs.Lists.Quiet.{AllQuiet}
use Rattle.sbp_world.proofs.Lists.StatusLogins.{each_there as each_at}
use Rattle.sbp_world.proofs.Lists.OpenedReplied.{pays_as as payload_is}
use Rattle.sbp_world.proofs.Lists.StatusKnown.{each_from}

-- an address stands in no page table
abbrev pub IsOffTables : ℕ → Type 0
IsOffTables at = (slot : ℕ) → window_at at ≡ Some (windows.Table slot) → ⊥

no_table : (at slot : ℕ) → window_at at ≡ None → window_at at ≡ Some (windows.Table slot) → ⊥
no_table at slot e f = none_is (windows.Table slot) (sym e ∙ f)

pub its_off : (fifo : ℕ) → IsItsFifo fifo → IsOffTables fifo
its_off fifo (of_login own) slot e = no_table fifo slot (fifo_no_window fifo own) e
its_off fifo (of_place place small is) slot e = no_table fifo slot (ap window_at is ∙ place_window place small) e

pub aside_off : (at : ℕ) → IsAside at → IsOffTables at
aside_off at (in_front low) slot e = let share = (subst (IfShare at) e (window_share at)).1 in omega (arith, share, low)
aside_off at (of_response place small is) slot e =
    let both : Some (windows.Response place) ≡ Some (windows.Table slot) = sym (window_there place small) ∙ (ap window_at (sym is) ∙ e) in cc

-- the node that asks is the one that its request comes from
from_if : (b : Bool) (packet : Sending) (label : ℕ) (u : Transaction) → begun_if b (Some (between packet packet.from packet.to label)) ≡ Some u → packet.from ≡ u.requester
from_if true packet label u e = none_is u e
from_if false packet label u e = let same : between packet packet.from packet.to label ≡ u = cc in ap (λ (x : Transaction). x.requester) same

pub awaited_from : (x : Terms) (u : Transaction) (kind : Kind) (serial : ℕ) (a : IsAwaited x u kind serial) → a.packet.from ≡ u.requester
unfolding begun_by asked_by
awaited_from x u kind serial a = from_if a.packet.injected a.packet u.label u (sym (ap (λ (p : Part). begun_if a.packet.injected (asked_as p a.packet)) a.part) ∙ a.begun)

-- ---- the operation of an initiator that injected no packets, at a place
module _ (units ready : ℕ) (more_units : 0 < units) (start : List Disk) {past : List Moment} {lines : ℕ} (w : WorldState) (h : Holding units ready start past lines w) (g : Ground start (hist past w) w) (i : ℕ) (inside : i < length w.initiators) where
  abbrev before : List Moment
  before = hist past w

  abbrev t : Terms
  t = terms before

  abbrev stands : Stands past w
  stands = h.sound.stands

  module _ (op : Operation) (is : (target_at start before).manager.operation ≡ Some op) (of : op.source ≡ id_in w i) where
    there : w.target.manager.operation ≡ Some op
    there = ap (λ (m : Machine). m.operation) (sym h.at.agrees.manager) ∙ is

    source : op.source ≡ id_for t 0 (suc i)
    source = of ∙ sym (id_is units ready more_units start w h i inside)

    module _ (calm : IsCalm (hist past w) i) (shorts : AreShort (hist past w)) (based : EachMoment (BasedAt i) (hist past w)) where
      pub own_op : IsOwnOp start before i op
      own_op = own_at units ready more_units start w h g i inside calm shorts based op there of

      -- it stands in a place
      pub op_placed : IsInAPlace op
      op_placed = record { place = own_op.place; small = own_op.small; orb = own_op.orb }

    -- its request goes to the initiator
    module _ (own : ℕ) (manages : (target_at start before).manages ≡ Some own) where
      request : HasRequest t w.target.layer op.source (target_at start before).manages
      request = subst (λ (s : Option ℕ). Awaits t w.target.layer s (target_at start before).manages) (ap source_in there) h.at.awaits

      request_is : request.serial ≡ own
      request_is = same_some request.serial own (sym request.manages_is ∙ manages)

      abbrev v : Transaction
      v = transaction (t.generation 0) 0 request.peer request.number

      awaited_there : IsAwaited (terms stands.wire.past) v request.kind request.serial
      awaited_there = goes_on.awaited stands.wire v request.kind request.serial stands.reached (ap (λ (y : Terms). y.held v) (past_terms w stands) ∙ request.waits_for)

      goes_there : receiver_in (t.sent own) ≡ Some request.peer
      goes_there =
          let same = past_terms w stands in
          let a : IsAwaited (terms stands.wire.past) v request.kind request.serial = goes_on.awaited stands.wire v request.kind request.serial stands.reached (ap (λ (y : Terms). y.held v) same ∙ request.waits_for) in
          subst (λ r. receiver_in (t.sent r) ≡ Some request.peer) request_is (ap (λ (y : Terms). receiver_in (y.sent request.serial)) (sym same) ∙ awaited_to (terms stands.wire.past) v request.kind request.serial a)

      peer_is : request.peer ≡ suc i
      peer_is = same_id w stands request.peer (suc i) (request.peer_is ∙ source)

      pub goes_of : receiver_in (t.sent own) ≡ Some (suc i)
      goes_of = goes_there ∙ ap (λ n. Some n) peer_is

    -- what answers its request comes of the initiator
    module _ (serial : ℕ) (own : ℕ) (closed : answered_at t serial ≡ Some own) (manages : (target_at start before).manages ≡ Some own) where
      reply : IsReply t serial own
      reply = reply_by t serial own (t.sent serial) refl closed

      abbrev q : Sending
      q = reply.packet

      abbrev u : Transaction
      u = between q q.to q.from reply.label

      held : IsHeld (t.held u) own
      held = held_by (t.held u) reply.kind own reply.closes

      awaited : IsAwaited (terms stands.wire.past) u held.kind own
      awaited = goes_on.awaited stands.wire u held.kind own stands.reached (ap (λ (y : Terms). y.held u) (past_terms w stands) ∙ held.is)

      abbrev asking : Sending
      asking = awaited.packet

      asking_sent : t.sent own ≡ Some asking
      asking_sent = ap (λ (y : Terms). y.sent own) (sym (past_terms w stands)) ∙ awaited.sent

      goes_to : receiver_in (t.sent own) ≡ Some q.from
      goes_to = ap (λ (y : Terms). receiver_in (y.sent own)) (sym (past_terms w stands)) ∙ awaited_to (terms stands.wire.past) u held.kind own awaited

      asked_from : asking.from ≡ 0
      asked_from =
          let sent : t.sent own ≡ Some (awaited_there own manages).packet = subst (λ r. t.sent r ≡ Some (awaited_there own manages).packet) (request_is own manages) (ap (λ (y : Terms). y.sent (request own manages).serial) (sym (past_terms w stands)) ∙ (awaited_there own manages).sent) in
          ap (λ (x : Sending). x.from) (same_some asking (awaited_there own manages).packet (sym asking_sent ∙ sent)) ∙ awaited_from (terms stands.wire.past) (v own manages) (request own manages).kind (request own manages).serial (awaited_there own manages)

      comes_from : q.from ≡ suc i
      comes_from = same_some q.from (suc i) (sym goes_to ∙ goes_of own manages)

      asked_to : asking.to ≡ suc i
      asked_to = same_some asking.to q.from (sym (ap receiver_in asking_sent) ∙ goes_to) ∙ comes_from

      pub comes_of : sender_in (t.sent serial) ≡ Some (suc i)
      comes_of = ap sender_in reply.sent ∙ ap (λ n. Some n) comes_from

      module _ (calm : IsCalm (hist past w) i) (shorts : AreShort (hist past w)) (based : EachMoment (BasedAt i) (hist past w)) where
        -- what it brings is good
        pub answered : (fair : t.injects 0 ≡ false) → AnswersAt (said (notes.Got serial)) before → (bytes : List ℕ) → answer_in (packet_at t serial) ≡ Payload bytes → IsAnswered before i serial own bytes
        answered fair answers bytes pays = record {
          own = λ packet sent.
              let same : packet ≡ q = same_some packet q (sym sent ∙ reply.sent) in
              g.known.wrote.none i inside calm serial packet sent (ap (λ (x : Sending). x.from) same ∙ comes_from);
          answers = answers own closed asking asking_sent (subst (λ n. t.injects n ≡ false) (sym asked_from) fair) (subst (λ n. t.injects n ≡ false) (sym asked_to) calm);
          of_initiator = goes_to ∙ ap (λ n. Some n) comes_from;
          tells = pays;
        }

        brings : t.injects 0 ≡ false → AnswersAt (said (notes.Got serial)) before → op.phase ≡ phases.Orb → (bytes : List ℕ) → payload_of (answer_in (packet_at t serial)) 32 ≡ Ok bytes → IsGoodOrb (management_orb bytes)
        brings fair answers phase bytes pays =
            answer_good units ready more_units start w h i inside (few_of units ready more_units start w h g i inside calm shorts based) calm (g.known.wrote.none i inside) g.known.counts g.known.are (g.known.places i inside) shorts (g.known.logins i inside)
            op is (own_op calm shorts based) own manages phase serial bytes (answered fair answers bytes (payload_is (answer_in (packet_at t serial)) 32 bytes pays))

  pub good_there : (calm : IsCalm (hist past w) i) (shorts : AreShort (hist past w)) (based : EachMoment (BasedAt i) (hist past w)) → t.injects 0 ≡ false → (serial : ℕ) → AnswersAt (said (notes.Got serial)) before → GotGood (id_in w i) IsOffTables start before serial
  good_there calm shorts based fair serial answers own closed manages op is of = ((own_op op is of calm shorts based).good, brings op is of serial own closed manages calm shorts based fair answers)

-- ---- as a line begins
answers_open : (event : Event) (x : Terms) → (opened event x).answers ≡ x.answers
answers_open (events.Reset physical) x = refl
answers_open (events.Repeat serial) x = refl
answers_open _ x = refl

injects_open : (event : Event) (x : Terms) → (opened event x).injects ≡ x.injects
injects_open (events.Reset physical) x = refl
injects_open (events.Repeat serial) x = refl
injects_open _ x = refl

module _ (start : List Disk) (line : ℕ) (event : Event) (past : List Moment) (serial : ℕ) where
  abbrev here : List Moment
  here = asked line event ∷ past

  pub answers_before : AnswersAt (said (notes.Got serial)) here → AnswersAt (said (notes.Got serial)) past
  answers_before a request closed asking sent from to =
      let x = terms past in
      let same : (terms here).sent ≡ x.sent = (opened_terms event x).sent in
      ap (λ (f : ℕ → Option ℕ). f serial) (sym (answers_open event x))
      ∙ a request (answered_same start line event past serial ∙ closed) asking (ap (λ (f : ℕ → Option Sending). f request) same ∙ sent) (ap (λ (f : ℕ → Bool). f asking.from) (injects_open event x) ∙ from) (ap (λ (f : ℕ → Bool). f asking.to) (injects_open event x) ∙ to)

  good_here : (whose : ℕ) → GotGood whose IsOffTables start past serial → GotGood whose IsOffTables start here serial
  good_here whose g own closed manages op is of =
      let office = over_keeps (target_at start past) in
      let same : (terms here).sent ≡ (terms past).sent = (opened_terms event (terms past)).sent in
      let x = g own (sym (answered_same start line event past serial) ∙ closed) (sym (ap (λ (o : Office). o.manages) office) ∙ manages) op (sym (ap (λ (o : Office). o.manager.operation) office) ∙ is) of in (
        x.0,
        λ phase xs pays. x.1 phase xs (ap (λ (f : ℕ → Option Sending). payload_of (answer_in (packet_in (f serial))) 32) (sym same) ∙ pays),
      )

-- ---- a turn
module _ (whose : ℕ) (start : List Disk) (before now : List Moment) (counts : SerialsCount now) (contents : EachMoment (ContentAt start) now) (answers : EachMoment AnswersAt now) (good : (serial : ℕ) → AnswersAt (said (notes.Got serial)) before → GotGood whose IsOffTables start before serial) (o : OfficeSo whose IsOffTables start before) where
  abbrev So : List Moment → Type 0
  So past = OfficeSo whose IsOffTables start past

  -- by the first note of it
  first_note : (front : List Note) (note : Note) (past : List Moment) → map said front ++ said note ∷ past ≡ now → ((serial : ℕ) → AnswersAt (said (notes.Got serial)) past → GotGood whose IsOffTables start past serial) → So past → So (said note ∷ past)
  first_note front note past is good o = by note is
    where
      by : (note : Note) → map said front ++ said note ∷ past ≡ now → So (said note ∷ past)
      by (notes.Got serial) is =
          let c = serials_from (map said front) (said (notes.Got serial) ∷ past) (subst SerialsCount (sym is) counts) in
          let a = each_at AnswersAt (map said front) (said (notes.Got serial)) past (subst (EachMoment AnswersAt) (sym is) answers) in
          got_so whose IsOffTables start its_off aside_off past serial (good serial a) c o
      by note is =
          note_so whose IsOffTables start note past tt (serials_from (map said front) (said note ∷ past) (subst SerialsCount (sym is) counts))
          (each_at (ContentAt start) (map said front) (said note) past (subst (EachMoment (ContentAt start)) (sym is) contents)) o

  behind : (front : List Note) (past : List Moment) → AllQuiet front → map said front ++ past ≡ now → So past → So now
  behind front past q is o = subst So is (front_so whose IsOffTables start front past q (subst SerialsCount (sym is) counts) (subst (EachMoment (ContentAt start)) (sym is) contents) o)

  begins : (line : ℕ) (event : Event) (later : List Moment) → later ++ asked line event ∷ before ≡ now → So (asked line event ∷ before)
  begins line event later is = asked_so whose IsOffTables start line event before (serials_from later (asked line event ∷ before) (subst SerialsCount (sym is) counts)) o

  pub office_turn : Next before now → So now
  office_turn (same_still e) = subst So (sym e) o
  office_turn (next front q (said note) is) = behind front (said note ∷ before) q is (first_note front note before is good o)
  office_turn (next front q (asked line event) is) = behind front (asked line event ∷ before) q is (begins line event (map said front) is)
  office_turn (next_line front q note line event is) =
      let past = asked line event ∷ before in
      let first = begins line event (map said front ++ said note ∷ []) (split front note past ∙ is) in
      behind front (said note ∷ past) q is (first_note front note past is (λ serial a. good_here start line event before serial whose (good serial (answers_before start line event before serial a))) first)
    where
      split : (front : List Note) (note : Note) (past : List Moment) → (map said front ++ said note ∷ []) ++ past ≡ map said front ++ said note ∷ past
      split [] note past = refl
      split (n ∷ front) note past = ap (λ ms. said n ∷ ms) (split front note past)

-- ---- at each place of a run
record Kit (start : List Disk) (past : List Moment) (w : WorldState) : Type 0 where
  ground : Ground start past w
  told : Told past
  contents : AreContents start past

kit_everywhere : EveryPlace Kit
kit_everywhere = record {
  after_lines = λ line run r has small size so_far. record { ground = ground_everywhere.after_lines line run r has small size so_far; told = told_everywhere.after_lines line run r has small size so_far; contents = contents_after line run r has small size };
  between = λ line run r has small size next most told m so_far. record {
    ground = ground_everywhere.between line run r has small size next most told m so_far;
    told = told_everywhere.between line run r has small size next most told m so_far;
    contents = contents_between line run r has small size next (more_deliveries most) (more_than_one most) told m;
  };
}

abbrev pub OfficeSoAt : List Disk → List Moment → WorldState → Type 0
OfficeSoAt start past w = (i : ℕ) → i < length w.initiators → IsCalm past i → AreShort past → EachMoment (BasedAt i) past → OfficeSo (id_in w i) IsOffTables start past

all_office : (units ready : ℕ) → 0 < units → (start : List Disk) → Keeps units ready start (Kit start) (OfficeSoAt start)
all_office units ready has start past s later t lines more g h h_now q q_now o i within calm shorts based =
    let inside : i < length s.world.initiators = subst (λ n. i < n) (goes_size past s later t g) within in
    by_turn inside (goes_turned units ready has start past s later t g h i inside)
  where
    before : List Moment
    before = hist past s.world

    now : List Moment
    now = hist later t.world

    x : Grown before now
    x = grown before now (goes_next past s later t g)

    same_id_then : i < length s.world.initiators → id_in t.world i ≡ id_in s.world i → OfficeSo (id_in t.world i) IsOffTables start now
    same_id_then inside id =
        let calm_old = goes_calm past s later t g i calm in
        let shorts_old : AreShort before = short_from x.new before (subst AreShort (sym x.is) shorts) in
        let based_old : EachMoment (BasedAt i) before = each_from (BasedAt i) x.new before (subst (EachMoment (BasedAt i)) (sym x.is) based) in
        subst (λ n. OfficeSo n IsOffTables start now) (sym id)
        (office_turn (id_in s.world i) start before now q_now.ground.known.counts q_now.contents q_now.told.answers (λ serial a. good_there units ready has start s.world h q.ground i inside calm_old shorts_old based_old q.told.fair serial a) (o i inside calm_old shorts_old based_old) (goes_next past s later t g))

    none_now : ((op : Operation) → t.world.target.manager.operation ≡ Some op → ⊥) → HasOpOf (id_in t.world i) (target_at start now).manager → ⊥
    none_now none own = none own.op (ap (λ (m : Machine). m.operation) (sym h_now.at.agrees.manager) ∙ own.is)

    by_turn : i < length s.world.initiators → TurnOf i s.world (base_of g) t.world → OfficeSo (id_in t.world i) IsOffTables start now
    by_turn inside (by_target bus same call) = same_id_then inside bus.id
    by_turn inside (by_clearing c same told) = record { asks_may = λ own. absurd (none_now c.none own); waits_may = λ own. absurd (none_now c.none own) }
    by_turn inside (by_own bus same call away) = same_id_then inside bus.id
    by_turn inside (by_sight c same away) = same_id_then inside c.id

first_office : (start : List Disk) (line : ℕ) (run : Run) → OfficeSoAt start (moments_behind line run []) (beginning run).world
first_office start line run i inside calm shorts based = record {
  asks_may = λ own at len e. absurd (let no : Nothing ≡ asks.Write at len = e in cc);
  waits_may = λ own r e. none_is r e;
}

pub office_everywhere : EveryPlace OfficeSoAt
office_everywhere = record {
  after_lines = λ line run r has small size so_far.
      at_lines Kit (OfficeSoAt run.start.disks) kit_everywhere line run r.few has small size (all_office run.units (ready_logins run.initiators run.ready) has run.start.disks) (first_office run.start.disks line run) r so_far;
  between = λ line run r has small size next most told m so_far.
      at_between Kit (OfficeSoAt run.start.disks) kit_everywhere line run r.few has small size (all_office run.units (ready_logins run.initiators run.ready) has run.start.disks) (first_office run.start.disks line run) r next most told m so_far;
}
