-- No response of conflict_error ends the operation of an initiator whose write started an operation of the target: such a response answers that write, and was given to it.
use Rattle.sbp_world.proofs.Words.Std.{arith, ◌≡◌, ◌∙◌, refl, sym, ap, subst, ℕ, suc, ◌<◌, Bool, true, false, cond, List, ◌∷◌, ◌++◌, map, length, Option, Some, None, Result, Ok, Err, nat_tests}
use Rattle.sbp_world.proofs.Words.Wire.{PacketFault, rcode_of, LabelParts, Packet, header_in, reading, AreJudged, is_awaited, is_response, may_get, waits_for, as_sending, transaction, LabelState, ReplyKind, Facts, Row, by_again, by_generation, by_grammar, by_label, by_request, by_response, row_of, Finding, Layer, closed_at, closed_by, closing_in, closing_step, layer_facts, judged_by, judging_step, of_response, peer_at, peer_place, responded, PeerPlace, close_place, closed_for, reply_kind, Table, close_in, close_step, handle, place_at, Sent, found_sent, judged_note, empty_outbox, Moment, said, Kind, Sending, Transaction, between, is_same_kind, part_of, response, Terms, arrives, closes, closes_if, free, gets, gets_as, is_news, is_served, opened, terms, waits, Event, Note}
use Rattle.sbp_world.proofs.Words.Target.{Disk}
use Rattle.sbp_world.proofs.Words.Initiator.{Purpose, Running, InitiatorState, receive_step}
use Rattle.sbp_world.proofs.Words.Laws.{Underway, host_at, is_management}
use Rattle.sbp_world.proofs.Words.World.{after, beginning, Scene, WorldState, initiator_at, more_deliveries, IsAccepted, IsTaken}
use Rattle.std.specs.Option.{IfSome}
use Rattle.bus_transactions.specs.Judging.{facts_of}
use Rattle.bus_transactions.proofs.PacketParts.{part_read, same_refl}
use Rattle.bus_transactions.proofs.Reaches.{goes_on}
use Rattle.label_table.specs.declared.place.LabelState.TheVariants as states
use Rattle.sbp_initiator.proofs.Histories.Purposes.{kind_in}
use Rattle.sbp_initiator.specs.declared.purpose.Purpose.TheVariants as purposes
use Rattle.sbp_journal.specs.declared.cause.Judged.TheVariants as judgements
use Rattle.sbp_journal.specs.declared.note.Note.TheVariants as notes
use Rattle.sbp_world.proofs.Agents.Management.Holding.{Holding, is_of, past_terms, was_sent}
use Rattle.sbp_world.proofs.Agents.Management.Still.{hist}
use Rattle.sbp_world.proofs.Hosts.Aimed.{IsAimed}
use Rattle.sbp_world.proofs.Hosts.Carried.{between_runs, of_runs}
use Rattle.sbp_world.proofs.Hosts.Hosted.{Cored}
use Rattle.sbp_world.proofs.Hosts.Lives.{At}
use Rattle.sbp_world.proofs.Hosts.Pointing.{called_of}
use Rattle.sbp_world.proofs.Hosts.Runs.{count_after, count_between}
use Rattle.sbp_world.proofs.Hosts.Shows.{shown_now}
use Rattle.sbp_world.proofs.Lists.Courses.{EveryPlace, Goes, by_delivery, by_end, by_line, by_start}
use Rattle.sbp_world.proofs.Lists.Heard.{spells}
use Rattle.sbp_world.proofs.Lists.LiveHears.{IsUndone}
use Rattle.sbp_world.proofs.Lists.LiveRuns.{base_of}
use Rattle.sbp_world.proofs.Lists.LiveTogether.{turn_begins}
use Rattle.sbp_world.proofs.Lists.LiveTold.{HeardFirst}
use Rattle.sbp_world.proofs.Lists.ManageFinds.{refused_rcode}
use Rattle.sbp_world.proofs.Lists.ManageHand.{InHand, Own}
use Rattle.sbp_world.proofs.Lists.ManageLabels.{AskedFor}
use Rattle.sbp_world.proofs.Lists.ManageMoments.{Hands, IsAnswer, MayHand, TakeFacts}
use Rattle.sbp_world.proofs.Lists.ManageNotes.{none_taken}
use Rattle.sbp_world.proofs.Lists.ManageOwn.{AtHost, at_host, conflict_is}
use Rattle.sbp_world.proofs.Lists.ManageRuns.{Managed, first_managed, managed_carried}
use Rattle.sbp_world.proofs.Lists.ManageSends.{opened_terms}
use Rattle.sbp_world.proofs.Lists.ManageTerms.{same_some}
use Rattle.sbp_world.proofs.Lists.StatusKnown.{each_from}
use Rattle.sbp_world.proofs.Lists.BufferGets.{judged_from}
use Rattle.sbp_world.proofs.Pointers.Ending.{read_in}
use Rattle.sbp_world.proofs.Pointers.Finds.{closes_at}
use Rattle.sbp_world.proofs.Pointers.Guarded.{receive_got as response_got}
use Rattle.sbp_world.proofs.Common.{untrue, said_split as split}

-- ---- the label that a response closes has the number in its header

abbrev HasNumber : ℕ → LabelParts × Option Purpose → Type 0
HasNumber n closed = closed.0.number ≡ n

closed_if : (b : Bool) (table : Table) (n serial : ℕ) (other : Table) → IfSome (cond {A = Option LabelParts × Table} b (Some (handle table n serial), other) (None, table)).0 (λ label. label.number ≡ n)
closed_if true table n serial other = refl
closed_if false table n serial other = tt

closes_number : (state : LabelState) (kind : ReplyKind) (table : Table) (n : ℕ) → IfSome (close_in state kind table n).0 (λ label. label.number ≡ n)
closes_number (states.UnderWay own serial) kind table n = closed_if _ table n serial _
closes_number states.Free kind table n = tt
closes_number states.Resting kind table n = tt

place_number : (place : PeerPlace Purpose) (n : ℕ) (r : Option LabelParts × Table) → IfSome r.0 (λ label. label.number ≡ n) → IfSome (closed_for place r).0 (HasNumber n)
place_number place n (Some label, table) h = h
place_number place n (None, table) h = tt

at_number : (k : ℕ) (layer : Layer Purpose) (n : ℕ) (r : Option (LabelParts × Option Purpose) × PeerPlace Purpose) → IfSome r.0 (HasNumber n) → IfSome (closed_at k layer r).0 (HasNumber n)
at_number k layer n (Some closed, place) h = h
at_number k layer n (None, place) h = tt

in_number : (k : Option ℕ) (layer : Layer Purpose) (n : ℕ) (kind : ReplyKind) → IfSome (closing_in k layer n kind).0 (HasNumber n)
unfolding close_step
in_number None layer n kind = tt
in_number (Some k) layer n kind =
    at_number k layer n (close_place (peer_at layer k) n kind) (place_number (peer_at layer k) n (close_step (peer_at layer k).table n kind) (closes_number (place_at (peer_at layer k).table n).state kind (peer_at layer k).table n))

step_number : (layer : Layer Purpose) (peer n : ℕ) (kind : ReplyKind) → IfSome (closing_step layer peer n kind).0 (HasNumber n)
unfolding closing_step
step_number layer peer n kind = in_number (peer_place peer layer) layer n kind

abbrev Numbered : Finding Purpose → Type 0
Numbered (of_response p label purpose) = label.number ≡ (header_in p).label
Numbered finding = Unit {0}

responded_number : (p : Packet) (r : Option (LabelParts × Option Purpose) × Layer Purpose) → IfSome r.0 (HasNumber (header_in p).label) → Numbered (responded p r).0
responded_number p (Some (label, purpose), layer) h = h
responded_number p (None, layer) h = tt

by_kind : (kind : Option ReplyKind) (layer : Layer Purpose) (p : Packet) → Numbered (responded p (closed_by kind layer p)).0
by_kind None layer p = tt
by_kind (Some kind) layer p = responded_number p (closing_step layer (header_in p).source (header_in p).label kind) (step_number layer (header_in p).source (header_in p).label kind)

judged_number : (row : Row) (layer : Layer Purpose) (bytes : List ℕ) (read : Result Packet PacketFault) → Numbered (judged_by row layer bytes read).0
judged_number by_generation layer bytes read = tt
judged_number by_grammar layer bytes read = tt
judged_number by_label layer bytes read = tt
judged_number by_response layer bytes (Ok p) = by_kind (reply_kind p) layer p
judged_number by_again layer bytes (Ok p) = tt
judged_number by_request layer bytes (Ok p) = tt
judged_number by_response layer bytes (Err fault) = tt
judged_number by_again layer bytes (Err fault) = tt
judged_number by_request layer bytes (Err fault) = tt

pub label_number : (layer : Layer Purpose) (generation : ℕ) (bytes : List ℕ) (p : Packet) (label : LabelParts) (purpose : Option Purpose) → (judging_step layer generation bytes).0 ≡ of_response p label purpose → label.number ≡ (header_in p).label
unfolding judging_step
label_number layer generation bytes p label purpose e = subst Numbered e (judged_number (row_of (layer_facts layer generation bytes)) layer bytes (reading bytes))

-- ---- a response that is got closes its transaction

awaited_by : (c n a p : Bool) → may_get (row_of (record { is_current = c; is_for_node = n; is_response = true; is_awaited = a; is_repeated = p })) ≡ true → a ≡ true
awaited_by true true true p e = refl
awaited_by true true false p e = untrue e
awaited_by true false a p e = untrue e
awaited_by false n a p e = untrue e

awaited : (f : Facts) → f.is_response ≡ true → may_get (row_of f) ≡ true → f.is_awaited ≡ true
awaited f r e =
    awaited_by f.is_current f.is_for_node f.is_awaited f.is_repeated
    (subst (λ b. may_get (row_of (record { is_current = f.is_current; is_for_node = f.is_for_node; is_response = b; is_awaited = f.is_awaited; is_repeated = f.is_repeated })) ≡ true) r e)

module _ (serial : ℕ) (past : List Moment) (q : Sending) (sent : (terms past).sent serial ≡ Some q) (got : may_get (row_of (facts_of (terms past) q)) ≡ true) (label : ℕ) (kind : Kind) (part : part_of q.bytes ≡ response label kind) where
  abbrev t : Terms
  t = terms past

  abbrev v : Transaction
  v = between q q.to q.from label

  abbrev c : Terms
  c = is_served serial (is_news serial (arrives serial t))

  same_kind : (k : Kind) (own : ℕ) → t.held v ≡ waits k own → is_same_kind k kind ≡ true
  same_kind k own held =
      let r : (facts_of t q).is_response ≡ true = ap is_response part in
      let a : is_awaited t (part_of q.bytes) q ≡ true = awaited (facts_of t q) r got in
      sym (ap (λ h. waits_for h kind) held) ∙ (sym (ap (λ p. is_awaited t p q) part) ∙ a)

  pub closed_then : (k : Kind) (own : ℕ) → t.held v ≡ waits k own → (terms (said (notes.Got serial) ∷ past)).held v ≡ waits k own → ⊥
  closed_then k own held after =
      let is : (terms (said (notes.Got serial) ∷ past)).held v ≡ free =
      ap (λ (found : Option Sending). (gets found serial t).held v) sent
      ∙ (ap (λ p. (gets_as p serial q c).held v) part
      ∙ (ap (λ h. (closes h v kind (rcode_of q.bytes) c).held v) held
      ∙ (ap (λ b. (closes_if b own v (rcode_of q.bytes) c).held v) (same_kind k own held)
      ∙ ap (λ b. cond b free (t.held v)) (same_refl v)))) in
      absurd (let no : free ≡ waits k own = sym is ∙ after in cc)

-- ---- the response is to the write of the operation

module _ (ready : Bool) (start : List Disk) (serial generation : ℕ) (bytes : List ℕ) (past : List Moment) (i : ℕ) (s : InitiatorState) (cored : Cored ready past i s) (aimed : IsAimed ready i s) (h : InHand start past i s) (f : TakeFacts start past i serial) (got : may_get (row_of (facts_of (terms past) f.packet)) ≡ true) (from_is : f.packet.from ≡ 0) (to_is : f.packet.to ≡ suc i) (bytes_are : f.packet.bytes ≡ bytes) (own_generation : s.layer.generation ≡ (terms past).generation (suc i)) (r : Running) (undone : IsUndone s generation bytes r) (known : (u : Underway) → (host_at past i).operation ≡ Some u → (is_management u.operation ≡ true) × IsAccepted start past u.first) where
  abbrev p : Packet
  p = undone.packet

  abbrev n : ℕ
  n = undone.label.number

  at_it : AtHost past i r
  at_it = at_host past i s r cored.core undone.under_way

  manages : is_management r.operation ≡ true
  manages = ap is_management (sym at_it.same) ∙ (known at_it.u at_it.is).0

  closes_it : At s.layer (header_in p).source n (Some (purposes.Management undone.act))
  closes_it = closes_at s.layer generation bytes p undone.label (Some (purposes.Management undone.act)) (called_of cored) undone.found

  peer : (header_in p).source ≡ s.target
  peer = aimed.aims (header_in p).source n (Some (purposes.Management undone.act)) closes_it

  asked_for : AskedFor past i s.layer.generation n undone.act (Own past i s)
  asked_for = h.labels.waits_for n undone.act (subst (λ x. At s.layer x n (Some (purposes.Management undone.act))) peer closes_it)

  first_is : at_it.u.first ≡ asked_for.serial
  first_is = asked_for.own r undone.under_way (let e = undone.own in grind (arith, nat_tests)) manages at_it.u at_it.is

  abbrev own_write : Transaction
  own_write = transaction ((terms past).generation (suc i)) (suc i) 0 n

  held : (terms past).held own_write ≡ waits asked_for.kind asked_for.serial
  held = ap (λ g. (terms past).held (transaction g (suc i) 0 n)) (sym own_generation) ∙ asked_for.held

  spelled : reading bytes ≡ Ok p
  spelled = read_in s.layer generation bytes p undone.label (Some (purposes.Management undone.act)) undone.found

  over : (terms (said (notes.Got serial) ∷ past)).held own_write ≡ waits asked_for.kind asked_for.serial → ⊥
  over =
      let k = spells p (kind_in s.layer generation bytes p undone.label (Some (purposes.Management undone.act)) undone.found) in
      let part : part_of f.packet.bytes ≡ response (header_in p).label k.kind = ap part_of bytes_are ∙ (part_read bytes p spelled ∙ k.part) in
      let label : (header_in p).label ≡ n = sym (label_number s.layer generation bytes p undone.label (Some (purposes.Management undone.act)) undone.found) in
      let same : between f.packet f.packet.to f.packet.from (header_in p).label ≡ own_write =
      ap (λ g. transaction g f.packet.to f.packet.from (header_in p).label) (f.facts.current ∙ ap (terms past).generation to_is)
      ∙ (ap (λ x. transaction ((terms past).generation (suc i)) x f.packet.from (header_in p).label) to_is
      ∙ (ap (λ x. transaction ((terms past).generation (suc i)) (suc i) x (header_in p).label) from_is
      ∙ ap (λ x. transaction ((terms past).generation (suc i)) (suc i) 0 x) label)) in
      subst (λ (u : Transaction). (terms past).held u ≡ waits asked_for.kind asked_for.serial → (terms (said (notes.Got serial) ∷ past)).held u ≡ waits asked_for.kind asked_for.serial → ⊥) same
      (closed_then serial past f.packet f.facts.sent got (header_in p).label k.kind part asked_for.kind asked_for.serial) held

  answer : IsAnswer past i n asked_for.serial 4
  answer =
      let b = (h.busy at_it.u at_it.is (ap is_management at_it.same ∙ manages)).own in
      f.answers to_is from_is n asked_for.kind asked_for.serial b.packet b.label (ap (terms past).sent (sym first_is) ∙ b.sent) b.part held over
      4 (ap rcode_of bytes_are ∙ (refused_rcode bytes undone.rcode p spelled undone.refused ∙ conflict_is undone.rcode undone.conflict))

  pub not_refused : ⊥
  not_refused =
      (known at_it.u at_it.is).1.given answer.packet own_write (ap (terms past).sent first_is ∙ answer.sent) answer.begun (answer.current ∙ sym first_is) (none_taken past f.facts.none at_it.u.first) answer.given

-- ---- in a turn of a run

-- what is carried of an initiator
pub record IsManagedBy (start : List Disk) (past : List Moment) (i : ℕ) (s : InitiatorState) : Type 0 where
  pub ready : Bool
  pub managed : Managed ready start past i s

abbrev pub AreManagedBy : List Disk → List Moment → WorldState → Type 0
AreManagedBy start past w = (i : ℕ) → i < length w.initiators → IsManagedBy start past i (initiator_at w i)

pub managed_everywhere : EveryPlace AreManagedBy
managed_everywhere = record {
  after_lines = λ line run r has small size so_far i l.
      let inside : i < run.initiators = subst (λ n. i < n) (count_after run run.entries) l in
      record {
        ready = run.ready;
        managed = of_runs (Managed run.ready run.start.disks) (managed_carried run.ready run.start.disks) line run (λ entries few short all fit j c. tt) (λ j c. first_managed run.start.disks line run.initiators run.ready j c) r i inside;
      };
  between = λ line run r has small size next most told m so_far i l.
      let inside : i < run.initiators = subst (λ n. i < n) (count_between told (after (beginning run) run.entries) ∙ count_after run run.entries) l in
      record {
        ready = run.ready;
        managed = between_runs (Managed run.ready run.start.disks) (managed_carried run.ready run.start.disks) line run (λ entries few short all fit j c. tt) (λ j c. first_managed run.start.disks line run.initiators run.ready j c) r next most told m i inside;
      };
}

-- where the turn begins
at_base : {past : List Moment} {s : Scene} {later : List Moment} {t : Scene} (g : Goes past s later t) (ready : Bool) (start : List Disk) (i : ℕ) (x : InitiatorState) → Managed ready start (hist past s.world) i x → Managed ready start (map said (base_of g) ++ later) i x
at_base (by_line past s line event told one fit may) ready start i x h = (managed_carried ready start).asked line event (hist past s.world) i x h
at_base (by_start past s line most) ready start i x h = (managed_carried ready start).asked line (more_deliveries most) (hist past s.world) i x h
at_base (by_delivery past s one may no_act) ready start i x h = h
at_base (by_end past s done) ready start i x h = h

hands_back : {past : List Moment} {s : Scene} {later : List Moment} {t : Scene} (g : Goes past s later t) (start : List Disk) (i : ℕ) → Hands start i (map said (base_of g) ++ later) → Hands start i (hist past s.world)
hands_back (by_line past s line event told one fit may) start i h = h.1
hands_back (by_start past s line most) start i h = h.1
hands_back (by_delivery past s one may no_act) start i h = h
hands_back (by_end past s done) start i h = h

record SameBase (t u : Terms) : Type 0 where
  sent : u.sent ≡ t.sent
  generation : u.generation ≡ t.generation

opened_base : (event : Event) (t : Terms) → SameBase t (opened event t)
opened_base event t = let o = opened_terms event t in record { sent = o.sent; generation = o.generation }

terms_base : {past : List Moment} {s : Scene} {later : List Moment} {t : Scene} (g : Goes past s later t) → SameBase (terms (hist past s.world)) (terms (map said (base_of g) ++ later))
terms_base (by_line past s line event told one fit may) = opened_base event (terms (hist past s.world))
terms_base (by_start past s line most) = opened_base (more_deliveries most) (terms (hist past s.world))
terms_base (by_delivery past s one may no_act) = record { sent = refl; generation = refl }
terms_base (by_end past s done) = record { sent = refl; generation = refl }

module _ (units ready : ℕ) (start : List Disk) {past : List Moment} {s : Scene} {later : List Moment} {t : Scene} {lines : ℕ} (g : Goes past s later t) (h : Holding units ready start past lines s.world) (i : ℕ) (inside : i < length s.world.initiators) (hands : Hands start i (hist later t.world)) (judged : AreJudged (hist later t.world)) (m : IsManagedBy start (hist past s.world) i (initiator_at s.world i)) (serial : ℕ) (sent : Sent) (found : found_sent serial s.world.store.kept ≡ Some sent) (to_is : sent.to ≡ suc i) (heard : HeardFirst serial (receive_step sent.generation sent.bytes empty_outbox (initiator_at s.world i)).0 (base_of g) t.world.fresh) (r : Running) (undone : IsUndone (initiator_at s.world i) sent.generation sent.bytes r) (taken : IsTaken start (hist past s.world) i) where
  abbrev w : WorldState
  w = s.world

  abbrev x : InitiatorState
  x = initiator_at w i

  abbrev before : List Moment
  before = hist past w

  abbrev base : List Moment
  base = map said (base_of g) ++ later

  abbrev got_now : List Moment
  got_now = said (notes.Got serial) ∷ base

  judged_is : (receive_step sent.generation sent.bytes empty_outbox x).0 ≡ judgements.Got
  judged_is = response_got sent.generation sent.bytes undone.packet undone.label (Some (purposes.Management undone.act)) x undone.found

  now_is : hist later t.world ≡ map said heard.more ++ got_now
  now_is =
      ap (λ (ns : List Note). map said ns ++ later) heard.is
      ∙ (split heard.more (judged_note serial (receive_step sent.generation sent.bytes empty_outbox x).0 ∷ base_of g) later
      ∙ ap (λ j. map said heard.more ++ said (judged_note serial j) ∷ base) judged_is)

  hands_here : Hands start i got_now
  hands_here = each_from (MayHand start i) (map said heard.more) got_now (subst (Hands start i) now_is hands)

  judged_here : AreJudged got_now
  judged_here = judged_from (map said heard.more) got_now (subst AreJudged now_is judged)

  abbrev f : TakeFacts start base i serial
  f = hands_here.0

  same : SameBase (terms before) (terms base)
  same = terms_base g

  packet_is : f.packet ≡ as_sending sent
  packet_is = same_some f.packet (as_sending sent) (sym f.facts.sent ∙ (ap (λ (n : ℕ → Option Sending). n serial) same.sent ∙ was_sent w h.sound.stands serial sent found))

  to_own : f.packet.to ≡ suc i
  to_own = ap (λ (q : Sending). q.to) packet_is ∙ to_is

  own_generation : x.layer.generation ≡ (terms base).generation (suc i)
  own_generation = (shown_now w h.sound.stands h.sound.nodes i inside).generation ∙ sym (ap (λ (n : ℕ → ℕ). n (suc i)) same.generation)

  managed : Managed m.ready start base i x
  managed = at_base g m.ready start i x m.managed

  -- it is of the target
  from_is : f.packet.from ≡ 0
  from_is =
      let k = shown_now w h.sound.stands h.sound.nodes i inside in
      let p = undone.packet in
      let read = read_in x.layer sent.generation sent.bytes p undone.label (Some (purposes.Management undone.act)) undone.found in
      let peer : (header_in p).source ≡ x.target = managed.aimed.aims (header_in p).source undone.label.number (Some (purposes.Management undone.act)) (closes_at x.layer sent.generation sent.bytes p undone.label (Some (purposes.Management undone.act)) (called_of managed.cored) undone.found) in
      let current : sent.generation ≡ x.layer.generation = ap (λ (q : Sending). q.generation) (sym packet_is) ∙ (f.facts.current ∙ (ap (terms base).generation to_own ∙ sym own_generation)) in
      let ids : (terms before).ids x.layer.generation sent.from ≡ (terms before).ids x.layer.generation 0 =
      ap (λ n. (terms before).ids n sent.from) (sym current) ∙ (sym ((is_of w h.sound.stands serial sent found).source p read) ∙ (peer ∙ sym k.named)) in
      let wired = past_terms w h.sound.stands in
      ap (λ (q : Sending). q.from) packet_is
      ∙ goes_on.apart h.sound.stands.wire x.layer.generation sent.from 0 h.sound.stands.reached
      (ap (λ (n : Terms). n.ids x.layer.generation sent.from) wired ∙ (ids ∙ sym (ap (λ (n : Terms). n.ids x.layer.generation 0) wired)))

  known : (u : Underway) → (host_at base i).operation ≡ Some u → (is_management u.operation ≡ true) × IsAccepted start base u.first
  known u e =
      let b = turn_begins start i past s later t g hands_here.1 in
      let o = b.host.on u e in
      let is : o.was ≡ taken.underway = same_some o.was taken.underway (sym o.is ∙ taken.is) in
      let busy = (m.managed.kept (hands_back g start i hands_here.1)).busy taken.underway taken.is taken.manages in
      let accepted : IsAccepted start base taken.underway.first = b.calm.accepted taken.underway.first busy.own taken.judged taken.accepted in
      let first : taken.underway.first ≡ u.first = ap (λ (y : Underway). y.first) (sym is) ∙ o.first in (
        ap is_management (sym o.operation) ∙ (ap (λ (y : Underway). is_management y.operation) is ∙ taken.manages),
        subst (IsAccepted start base) first accepted,
      )

  pub refused : ⊥
  refused =
      not_refused m.ready start serial sent.generation sent.bytes base i x managed.cored managed.aimed (managed.kept hands_here.1) f (judged_here.0 f.packet f.facts.sent) from_is to_own (ap (λ (q : Sending). q.bytes) packet_is) own_generation r undone known
