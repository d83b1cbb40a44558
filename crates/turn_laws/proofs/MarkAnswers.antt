-- What a response that an initiator got says of its present list: whether its ORB_POINTER write was answered, and whether it is dead, is the same by the terms and by the transaction that the response closes.
use Rattle.std.proofs.Common.{◌≡◌, inl, inr, ◌⊎◌, refl, sym, ◌∙◌, ap, subst, ℕ, suc, ◌==◌, ◌&&◌, ◌||◌, Bool, true, false, cond, List, [], ◌∷◌, Option, Some, None, Ok}
use Rattle.std.proofs.lemmas.Option.{same_Some}
use Rattle.async_packet.specs.Labels.{LabelParts}
use Rattle.async_packet.specs.Packet.{Packet, header_in}
use Rattle.async_packet.specs.Reading.{reading}
use Rattle.bus_transactions.specs.Fitting.{AreBytes}
use Rattle.bus_transactions.specs.Rows.{kind_as, shape, shape_of}
use Rattle.bus_transactions.specs.Wire.{transaction}
use Rattle.bus_transactions.proofs.PacketParts.{part_read}
use Rattle.label_table.specs.Layer.{Finding, Layer, judging_step, of_again, of_generation, of_grammar, of_label, of_request, of_response}
use Rattle.label_table.specs.Peers.{purpose_for, state_for}
use Rattle.orb_layout.specs.Replies.{Answer, Done, Expired, NoLabel, Payload, Refused}
use Rattle.orb_list.specs.declared.list.PresentList.{PresentList}
use Rattle.sbp_base.specs.Quadlets.{quad}
use Rattle.sbp_bus.specs.Packets.{judged_note}
use Rattle.sbp_initiator.specs.Histories.Marks.{answers_pointer, finding_answers, finds_dead, has_read, read_purpose}
use Rattle.sbp_initiator.specs.Receiving.{receive_step}
use Rattle.sbp_initiator.specs.States.{counts_for, ending_of, is_list}
use Rattle.sbp_initiator.specs.declared.purpose.Ending.{Ending}
use Rattle.sbp_initiator.specs.declared.purpose.Ending.TheVariants as endings
use Rattle.sbp_initiator.specs.declared.purpose.Purpose.{Purpose}
use Rattle.sbp_initiator.specs.declared.purpose.Purpose.TheVariants as purposes
use Rattle.sbp_initiator.specs.declared.state.InitiatorState.{InitiatorState}
use Rattle.sbp_journal.specs.Outgoings.{empty_outbox}
use Rattle.sbp_journal.specs.Run.{Moment, said}
use Rattle.sbp_journal.specs.Transactions.{Kind, Part, Sending, Transaction, between, is_same_kind, no_packet, part_in, part_of, request, response, writing}
use Rattle.sbp_journal.specs.Wire.{Terms, terms, waits}
use Rattle.sbp_journal.specs.declared.cause.Judged.TheVariants as judgements
use Rattle.sbp_journal.specs.declared.note.Note.TheVariants as notes
use Rattle.sbp_laws.specs.Hosts.{StateRead, host_at, is_present, is_serial, says_dead}
use Rattle.sbp_laws.specs.Lists.{present_list}
use Rattle.sbp_laws.specs.Packets.{answer_in, answer_of, answered_as, answered_at, answered_in, closed_by, packet_at, packet_in, spelled_by}
use Rattle.sbp_world.proofs.Common.{equal, itself, untrue}
use Rattle.sbp_world.proofs.Hosts.Lives.{At, Called}
use Rattle.sbp_world.proofs.Hosts.PointerNotes.{Fit, pointer}
use Rattle.sbp_world.proofs.Hosts.Pointing.{called_of, pointing_of, under_way_now}
use Rattle.sbp_world.proofs.Hosts.Shown.{IsHeard, IsShown}
use Rattle.sbp_world.proofs.Lists.BegunBy.{IsHeld, begun_of, held_by, transaction_of}
use Rattle.sbp_world.proofs.Pointers.Ages.{serial_is}
use Rattle.sbp_world.proofs.Pointers.Ending.{read_in}
use Rattle.sbp_world.proofs.Pointers.Finds.{closed_over, closes_at}
use Rattle.sbp_world.proofs.Pointers.Guarded.{Guarded}
use Rattle.sbp_world.proofs.Wire.Deliver.{judging_stays}
use Rattle.sbp_world.proofs.Wire.Kept.{and_false}
use Rattle.sbp_world.specs.Hosts.Rows.{present_in}
use Rattle.sbp_world.proofs.Pointers.Leaving.{ClosedFor, judge_goes}
use Rattle.turn_laws.proofs.HostMarks.{dead_at, dead_by, is_done, points_at, points_by}
use Rattle.sbp_world.proofs.Hosts.HostReads.{Reads, is_gone}
use Rattle.turn_laws.proofs.OwnAnswers.{IsEndOf, IsRead, gives, lapses, of_write, packet_ends, quad_read, read_small, refuses, write_answer}
use Rattle.turn_laws.proofs.OwnCalls.{lives_of}
use Rattle.turn_laws.proofs.ReadPairs.{AreZipped, zipped_map}
use Rattle.turn_laws.proofs.ReadsUnderWay.{IsPair, Waiting, WaitsAt, ended_by, got_off, got_on, one_transaction, waits_now}
use Rattle.turn_laws.proofs.RequestKinds.{Kinds, kind_for}
use Rattle.turn_laws.proofs.RomEnds.{is_plain}

-- ---- what a response says, by the kind of its request
abbrev is_complete : Ending → Bool
is_complete (endings.Complete value) = true
is_complete ending = false

-- of a write
wrote : (ending : Ending) (answer : Answer) → IsEndOf writing ending answer → is_done answer ≡ is_complete ending
wrote _ _ (of_write ending) = by ending
  where
    by : (e : Ending) → is_done (write_answer e) ≡ is_complete e
    by (endings.Complete value) = refl
    by (endings.Refused rcode) = refl
    by endings.Expired = refl

-- ---- whether some reads under way say that the list is dead
-- the read is that of the action, and then of this list
record IsTied (n act : ℕ) (list : Option ℕ) (one : StateRead) (a : ℕ) : Type 0 where
  same : (one.serial == n) ≡ (a == act)
  listed : (one.serial == n) ≡ true → one.list ≡ list

absorbs : (h y : Bool) → (y || (h && y)) ≡ y
absorbs h true = refl
absorbs true false = refl
absorbs false false = refl

pair_says : (b a p x t h : Bool) → b ≡ a → (b ≡ true → p ≡ x) → (((b && p) && t) || (h && (x && t))) ≡ ((a || h) && (x && t))
pair_says true true p x t h e f = ap (λ y. (y && t) || (h && (x && t))) (f refl) ∙ absorbs h (x && t)
pair_says false false p x t h e f = refl
pair_says true false p x t h e f = untrue (sym e)
pair_says false true p x t h e f = untrue e

says_tied : (bytes : List ℕ) (n : ℕ) (present : Option ℕ) (act : ℕ) (list : Option ℕ) (reads : List StateRead) (acts : List ℕ) → AreZipped (IsTied n act list) reads acts
    → says_dead (Payload bytes) n present reads ≡ (has_read act acts && (is_present list present && (quad bytes 0 == 3)))
says_tied bytes n present act list [] [] z = refl
says_tied bytes n present act list (one ∷ reads) (a ∷ acts) z =
    ap (λ b. (((one.serial == n) && is_present one.list present) && (quad bytes 0 == 3)) || b) (says_tied bytes n present act list reads acts z.1)
    ∙ pair_says (one.serial == n) (a == act) (is_present one.list present) (is_present list present) (quad bytes 0 == 3) (has_read act acts) z.0.same (λ e. ap (λ l. is_present l present) (z.0.listed e))
says_tied bytes n present act list [] (a ∷ acts) z = absurd z
says_tied bytes n present act list (one ∷ reads) [] z = absurd z

abbrev IsOther : ℕ → StateRead → ℕ → Type 0
IsOther n one a = (one.serial == n) ≡ false

says_none : (answer : Answer) (n : ℕ) (present : Option ℕ) (reads : List StateRead) (acts : List ℕ) → AreZipped (IsOther n) reads acts → says_dead answer n present reads ≡ false
says_none (Payload bytes) n present [] [] z = refl
says_none (Payload bytes) n present (one ∷ reads) (a ∷ acts) z =
    ap (λ b. ((b && is_present one.list present) && (quad bytes 0 == 3)) || says_dead (Payload bytes) n present reads) z.0 ∙ says_none (Payload bytes) n present reads acts z.1
says_none (Payload bytes) n present [] (a ∷ acts) z = absurd z
says_none (Payload bytes) n present (one ∷ reads) [] z = absurd z
says_none Done n present reads acts z = refl
says_none (Refused rcode) n present reads acts z = refl
says_none Expired n present reads acts z = refl
says_none NoLabel n present reads acts z = refl

-- the list that a read counts for
pub counts_same : (list : Option ℕ) (present : Option PresentList) → is_present list (present_in present) ≡ counts_for present list
counts_same None present = refl
counts_same (Some n) None = refl
counts_same (Some n) (Some list) = refl

read_says : (ending : Ending) (answer : Answer) → IsRead ending answer → (n : ℕ) (present : Option PresentList) (act : ℕ) (list : Option ℕ) (reads : List StateRead) (acts : List ℕ) → AreZipped (IsTied n act list) reads acts
    → has_read act acts ≡ true → says_dead answer n (present_in present) reads ≡ finds_dead (purposes.State act list) ending present
read_says _ _ (gives value bytes q) n present act list reads acts z there =
    says_tied bytes n (present_in present) act list reads acts z ∙ ap (λ b. b && (is_present list (present_in present) && (quad bytes 0 == 3))) there
    ∙ ap (λ b. b && (quad bytes 0 == 3)) (counts_same list present) ∙ ap (λ v. counts_for present list && (v == 3)) q
read_says _ _ (refuses rcode) n present act list reads acts z there = refl
read_says _ _ lapses n present act list reads acts z there = refl

-- ---- the request that a packet answers
record Answered (t : Terms) (q : Sending) (own : ℕ) : Type 0 where
  number : ℕ
  kind : Kind
  part : part_of q.bytes ≡ response number kind
  closes : closed_by (t.held (between q q.to q.from number)) kind ≡ Some own

answered_part : (t : Terms) (serial : ℕ) (q : Sending) → t.sent serial ≡ Some q → (own : ℕ) → answered_at t serial ≡ Some own → Answered t q own
answered_part t serial q sent own e = by (part_of q.bytes) refl (sym (ap (λ so. answered_in t so) sent) ∙ e)
  where
    by : (part : Part) → part_of q.bytes ≡ part → answered_as part t q ≡ Some own → Answered t q own
    by (response number kind) p f = record { number = number; kind = kind; part = p; closes = f }
    by (request number kind) p f = absurd (let no : None ≡ Some own = f in cc)
    by no_packet p f = absurd (let no : None ≡ Some own = f in cc)

closes_alike : (k : Kind) (n : ℕ) (kind : Kind) (own : ℕ) → closed_by (waits k n) kind ≡ Some own → is_same_kind k kind ≡ true
closes_alike k n kind own e = by (is_same_kind k kind) refl e
  where
    by : (b : Bool) → is_same_kind k kind ≡ b → cond b (Some n) None ≡ Some own → is_same_kind k kind ≡ true
    by true f g = f
    by false f g = absurd (let no : None ≡ Some own = g in cc)

kinds_same : (k m : Kind) (n l : ℕ) → waits k n ≡ waits m l → k ≡ m
kinds_same k m n l e = cc

gone_some : (found : Option ℕ) (n : ℕ) → is_gone found n ≡ true → found ≡ Some n
gone_some None n e = untrue e
gone_some (Some own) n e = ap Some (sym (equal n own e))

-- what a response says that its list is dead
abbrev pub response_dead : Finding Purpose → InitiatorState → Bool
response_dead (of_response p label purpose) s = read_purpose purpose (λ x. finds_dead x (ending_of p) s.lists.slots.present)
response_dead finding s = false

abbrev points_finding : Finding Purpose → Bool
points_finding (of_response p label (Some (purposes.Pointer list))) = true
points_finding finding = false

abbrev states_finding : Finding Purpose → Bool
states_finding (of_response p label (Some (purposes.State act list))) = true
states_finding finding = false

closed_points : (f : Finding Purpose) (list : ℕ) → ClosedFor f (Some (purposes.Pointer list)) → points_finding f ≡ true
closed_points (of_response p label other) list e = ap (λ x. points_finding (of_response p label x)) e
closed_points of_generation list e = absurd e
closed_points of_grammar list e = absurd e
closed_points of_label list e = absurd e
closed_points (of_again p rcode) list e = absurd e
closed_points (of_request p) list e = absurd e

closed_states : (f : Finding Purpose) (act : ℕ) (list : Option ℕ) → ClosedFor f (Some (purposes.State act list)) → states_finding f ≡ true
closed_states (of_response p label other) act list e = ap (λ x. states_finding (of_response p label x)) e
closed_states of_generation act list e = absurd e
closed_states of_grammar act list e = absurd e
closed_states of_label act list e = absurd e
closed_states (of_again p rcode) act list e = absurd e
closed_states (of_request p) act list e = absurd e

state_same : (a b : ℕ) (x y : Option ℕ) → Some (purposes.State a x) ≡ Some (purposes.State b y) → (a ≡ b) × (x ≡ y)
state_same a b x y e = (cc, cc)

pointed_if : (list : ℕ) (ending : Ending) (present : Option PresentList) → is_list present list ≡ true → is_complete ending ≡ answers_pointer (purposes.Pointer list) ending present
pointed_if list (endings.Complete value) present e = sym e
pointed_if list (endings.Refused rcode) present e = refl
pointed_if list endings.Expired present e = refl

-- ---- at an initiator
module _ (ready : Bool) (serial generation : ℕ) (bytes : List ℕ) (past : List Moment) (i : ℕ) (s : InitiatorState) (heard : IsHeard past i serial generation bytes) (shown : IsShown past i s.target s.layer) (after_it : IsShown (said (judged_note serial (receive_step generation bytes empty_outbox s).0) ∷ past) i s.target (judging_step s.layer generation bytes).1) (h : Guarded ready past i s) (fit : Fit past) (kinds : Kinds past i s.target s.layer) (are : AreBytes heard.packet.bytes) (listed : present_list past i ≡ present_in s.lists.slots.present) (got : (receive_step generation bytes empty_outbox s).0 ≡ judgements.Got) where
  abbrev T : Terms
  T = terms past

  abbrev finding : Finding Purpose
  finding = (judging_step s.layer generation bytes).0

  abbrev l : Layer Purpose
  l = (judging_step s.layer generation bytes).1

  abbrev now : List Moment
  now = said (notes.Got serial) ∷ past

  abbrev v : ℕ → Transaction
  v m = transaction s.layer.generation (suc i) 0 m

  called : Called s.layer
  called = called_of h.pointed.cored

  now_shown : IsShown now i s.target l
  now_shown = subst (λ j. IsShown (said (judged_note serial j) ∷ past) i s.target l) got after_it

  stays : l.generation ≡ s.layer.generation
  stays = judging_stays s.layer generation bytes

  -- what waits then is under way in the layer
  left_there : (m : ℕ) (k : Kind) (n : ℕ) → WaitsAt now i s.layer m k n → At l s.target m (purpose_for l.peers s.target m)
  left_there m k n e =
      let u = under_way_now (state_for l.peers s.target m) (kind_as k) (now_shown.states m ∙ ap (λ x. shape_of ((terms now).held (transaction x (suc i) 0 m))) stays ∙ ap shape_of e) in
      record { kind = u.kind; serial = u.serial; state = u.is; is_for = refl }

  -- a request that is answered is what was closed
  closes_own : (m : ℕ) (purpose : Option Purpose) → At s.layer s.target m purpose → (k : Kind) (n : ℕ) → WaitsAt past i s.layer m k n → answered_at T serial ≡ Some n → ClosedFor finding purpose
  closes_own m purpose a k n w e = by (judge_goes s.layer s.target m purpose called a generation bytes)
    where
      by : At l s.target m purpose ⊎ ClosedFor finding purpose → ClosedFor finding purpose
      by (inr c) = c
      by (inl b) =
          let x = waits_now ((terms now).held (transaction l.generation (suc i) 0 m)) b.kind (sym (now_shown.states m) ∙ ap shape b.state) in
          absurd (got_off past fit.serials serial heard.packet heard.sent (v m) k n w (ap (λ o. is_gone o n) e ∙ itself n) x.kind x.serial
          (ap (λ g. (terms now).held (transaction g (suc i) 0 m)) (sym stays) ∙ x.is))

  -- and what is closed is the request that is answered
  record IsClosed (p : Packet) (number : ℕ) (purpose : Option Purpose) : Type 0 where
    at : At s.layer s.target number purpose
    kind : Kind
    own : ℕ
    held : WaitsAt past i s.layer number kind own
    answered : answered_at T serial ≡ Some own
    packet : packet_at T serial ≡ Some p
    read : reading heard.packet.bytes ≡ Ok p
    label : ℕ
    answer : Kind
    part : part_in p ≡ response label answer
    alike : is_same_kind kind answer ≡ true

  module _ (p : Packet) (label : LabelParts) (purpose : Option Purpose) (f : finding ≡ of_response p label purpose) where
    from_source : At s.layer (header_in p).source label.number purpose
    from_source = closes_at s.layer generation bytes p label purpose called f

    of_target : (header_in p).source ≡ s.target
    of_target = h.aimed.aims (header_in p).source label.number purpose from_source

    was_there : At s.layer s.target label.number purpose
    was_there = subst (λ x. At s.layer x label.number purpose) of_target from_source

    waited : Waiting (T.held (v label.number))
    waited = waits_now (T.held (v label.number)) was_there.kind (sym (shown.states label.number) ∙ ap shape was_there.state)

    none_left : (k : Kind) (m : ℕ) → WaitsAt now i s.layer label.number k m → ⊥
    none_left k m e =
        closed_over s.layer generation bytes p label purpose called f (purpose_for l.peers s.target label.number)
        (subst (λ x. At l x label.number (purpose_for l.peers s.target label.number)) (sym of_target) (left_there label.number k m e))

    answered_is : answered_at T serial ≡ Some waited.serial
    answered_is = gone_some (answered_at T serial) waited.serial (by (is_gone (answered_at T serial) waited.serial) refl)
      where
        by : (b : Bool) → is_gone (answered_at T serial) waited.serial ≡ b → is_gone (answered_at T serial) waited.serial ≡ true
        by true e = e
        by false e = absurd (none_left waited.kind waited.serial (got_on past fit.serials serial heard.packet heard.sent (v label.number) waited.kind waited.serial waited.is e))

    response_is : Answered T heard.packet waited.serial
    response_is = answered_part T serial heard.packet heard.sent waited.serial answered_is

    abbrev its : Transaction
    its = between heard.packet heard.packet.to heard.packet.from response_is.number

    its_held : IsHeld (T.held its) waited.serial
    its_held = held_by (T.held its) response_is.kind waited.serial response_is.closes

    its_is : its ≡ v label.number
    its_is = one_transaction past fit.serials its (v label.number) its_held.kind waited.kind waited.serial its_held.is waited.is

    read_is : reading heard.packet.bytes ≡ Ok p
    read_is = ap reading heard.bytes_are ∙ read_in s.layer generation bytes p label purpose f

    alike_is : is_same_kind waited.kind response_is.kind ≡ true
    alike_is =
        closes_alike waited.kind waited.serial response_is.kind waited.serial
        (ap (λ z. closed_by z response_is.kind) (sym waited.is) ∙ ap (λ u. closed_by (T.held u) response_is.kind) (sym its_is) ∙ response_is.closes)

    closing : IsClosed p label.number purpose
    closing = record {
      at = was_there;
      kind = waited.kind;
      own = waited.serial;
      held = waited.is;
      answered = answered_is;
      packet = ap packet_in heard.sent ∙ ap spelled_by read_is;
      read = read_is;
      label = response_is.number;
      answer = response_is.kind;
      part = sym (part_read heard.packet.bytes p read_is) ∙ response_is.part;
      alike = alike_is;
    }

  -- its kind is that of what it was for
  kind_is : (p : Packet) (number : ℕ) (purpose : Purpose) → is_plain purpose ≡ true → (c : IsClosed p number (Some purpose)) → c.kind ≡ kind_for purpose
  kind_is p number purpose plain c = (let w = kinds number purpose plain c.at in kinds_same c.kind (kind_for purpose) c.own w.serial (sym c.held ∙ w.held))

  -- so it ends
  closed_ends : (p : Packet) (number : ℕ) (purpose : Purpose) → is_plain purpose ≡ true → (c : IsClosed p number (Some purpose)) → IsEndOf (kind_for purpose) (ending_of p) (answer_of p)
  closed_ends p number purpose plain c =
      packet_ends p (read_small heard.packet.bytes are p c.read) c.label c.answer (kind_for purpose) c.part (ap (λ k. is_same_kind k c.answer) (sym (kind_is p number purpose plain c)) ∙ c.alike)

  -- ---- the write of ORB_POINTER
  -- where the one that is named is answered
  named_closed : (n : ℕ) → pointer past i ≡ Some n → answered_at T serial ≡ Some n → points_finding finding ≡ true
  named_closed n named e =
      let x = answered_part T serial heard.packet heard.sent n e in
      let u = between heard.packet heard.packet.to heard.packet.from x.number in
      let y = held_by (T.held u) x.kind n x.closes in
      let b = begun_of past fit.serials u y.kind n y.is in
      let t = transaction_of b.packet u b.begun in
      let points = h.pointed.points fit in
      let asked = points.asks n named in
      let same : asked.packet ≡ b.packet = same_Some asked.packet b.packet (sym asked.sent ∙ b.sent) in
      let age : u.generation ≡ s.layer.generation = t.generation ∙ (h.kept fit).current n b.packet named b.sent ∙ sym h.generation in
      let from : u.requester ≡ suc i = t.requester ∙ ap (λ (p : Sending). p.from) (sym same) ∙ asked.from in
      let to : u.responder ≡ 0 = t.responder ∙ ap (λ (p : Sending). p.to) (sym same) ∙ asked.to in
      let is : u ≡ v u.label =
      ap (λ g. transaction g u.requester u.responder u.label) age ∙ ap (λ m. transaction s.layer.generation m u.responder u.label) from ∙ ap (λ m. transaction s.layer.generation (suc i) m u.label) to in
      let held : WaitsAt past i s.layer u.label y.kind n = ap (λ z. T.held z) (sym is) ∙ y.is in
      let list = points.named u.label y.kind n held named in
      let w = under_way_now (state_for s.layer.peers s.target u.label) (kind_as y.kind) (shown.states u.label ∙ ap shape_of held) in
      closed_points finding list.list
      (closes_own u.label (Some (purposes.Pointer list.list)) (record { kind = w.kind; serial = w.serial; state = w.is; is_for = list.is }) y.kind n held e)

  abbrev answer : Answer
  answer = answer_in (packet_at T serial)

  not_pointing : (points_finding finding ≡ true → ⊥) → points_at past serial i ≡ false
  not_pointing never = by (answered_at T serial) refl (host_at past i).pointer refl
    where
      by_number : (m n : ℕ) → pointer past i ≡ Some m → answered_at T serial ≡ Some n → (b : Bool) → (m == n) ≡ b → (is_done answer && b) ≡ false
      by_number m n p e true f = absurd (never (named_closed n (p ∙ ap Some (equal m n f)) e))
      by_number m n p e false f = and_false (is_done answer)

      by : (found : Option ℕ) → answered_at T serial ≡ found → (named : Option ℕ) → (host_at past i).pointer ≡ named → points_by found answer (host_at past i) ≡ false
      by None e named p = refl
      by (Some n) e None p = ap (λ o. is_done answer && is_serial o n) p ∙ and_false (is_done answer)
      by (Some n) e (Some m) p = ap (λ o. is_done answer && is_serial o n) p ∙ by_number m n p e (m == n) refl

  pointed_so : (p : Packet) (label : LabelParts) (list : ℕ) → finding ≡ of_response p label (Some (purposes.Pointer list)) → points_at past serial i ≡ answers_pointer (purposes.Pointer list) (ending_of p) s.lists.slots.present
  pointed_so p label list f =
      let c = closing p label (Some (purposes.Pointer list)) f in
      let w = (h.pointed.points fit).waits_for label.number list c.at in
      let same : w.serial ≡ c.own = serial_is c.kind w.kind c.own w.serial (sym c.held ∙ w.held) in
      let present : is_list s.lists.slots.present list ≡ true = (pointing_of h.pointed.cored).present (record { list = list; write = record { peer = s.target; number = label.number; serial = c.at.serial; kind = c.at.kind; state = c.at.state; is_for = c.at.is_for } }) in
      ap (λ found. points_by found answer (host_at past i)) c.answered
      ∙ ap (λ o. is_done answer && is_serial o c.own) (w.pointer_is ∙ ap Some same)
      ∙ ap (λ b. is_done answer && b) (itself c.own)
      ∙ and_true (is_done answer)
      ∙ ap (λ o. is_done (answer_in o)) c.packet
      ∙ wrote (ending_of p) (answer_of p) (closed_ends p label.number (purposes.Pointer list) refl c)
      ∙ pointed_if list (ending_of p) s.lists.slots.present present
    where
      and_true : (b : Bool) → (b && true) ≡ b
      and_true true = refl
      and_true false = refl

  pub points_same : points_at past serial i ≡ finding_answers finding s
  points_same = by finding refl
    where
      none : (f : Finding Purpose) → finding ≡ f → points_finding f ≡ false → points_at past serial i ≡ false
      none f e off = not_pointing (λ on. untrue (sym off ∙ ap points_finding (sym e) ∙ on))

      by : (f : Finding Purpose) → finding ≡ f → points_at past serial i ≡ finding_answers f s
      by (of_response p label (Some (purposes.Pointer list))) e = pointed_so p label list e
      by (of_response p label (Some purposes.Doorbell)) e = none _ e refl
      by (of_response p label (Some (purposes.AgentReset act))) e = none _ e refl
      by (of_response p label (Some (purposes.Enable act))) e = none _ e refl
      by (of_response p label (Some (purposes.Management act))) e = none _ e refl
      by (of_response p label (Some (purposes.Rom act))) e = none _ e refl
      by (of_response p label (Some (purposes.State act list))) e = none _ e refl
      by (of_response p label None) e = none _ e refl
      by of_generation e = none _ e refl
      by of_grammar e = none _ e refl
      by of_label e = none _ e refl
      by (of_again p rcode) e = none _ e refl
      by (of_request p) e = none _ e refl

  -- ---- the reads of AGENT_STATE
  abbrev P : StateRead → ℕ → Type 0
  P one a = IsPair past i s one a

  module _ (gone : (one : StateRead) (a : ℕ) → P one a → ended_by finding ≡ Some a → is_gone (answered_at T serial) one.serial ≡ true) (pairs : AreZipped P (Reads past i) s.states) where
    -- a read that is answered is what was closed
    state_closed : (n : ℕ) → answered_at T serial ≡ Some n → (one : StateRead) (a : ℕ) (p : P one a) → (one.serial == n) ≡ true → ClosedFor finding (Some (purposes.State a p.list))
    state_closed n e one a p f =
        closes_own p.number (Some (purposes.State a p.list)) p.at p.kind n (p.held ∙ ap (waits p.kind) (equal one.serial n f)) e

    not_state : (states_finding finding ≡ true → ⊥) → dead_at past serial i ≡ false
    not_state never = by (answered_at T serial) refl
      where
        other : (n : ℕ) → answered_at T serial ≡ Some n → (one : StateRead) (a : ℕ) → P one a → (one.serial == n) ≡ false
        other n e one a p = by_test (one.serial == n) refl
          where
            by_test : (b : Bool) → (one.serial == n) ≡ b → (one.serial == n) ≡ false
            by_test false f = f
            by_test true f = absurd (never (closed_states finding a p.list (state_closed n e one a p f)))

        by : (found : Option ℕ) → answered_at T serial ≡ found → dead_by found answer (present_list past i) (host_at past i) ≡ false
        by None e = refl
        by (Some n) e = says_none answer n (present_list past i) (Reads past i) s.states (zipped_map P (IsOther n) (other n e) (Reads past i) s.states pairs)

    dead_so : (p : Packet) (label : LabelParts) (act : ℕ) (list : Option ℕ) → finding ≡ of_response p label (Some (purposes.State act list)) → dead_at past serial i ≡ finds_dead (purposes.State act list) (ending_of p) s.lists.slots.present
    dead_so p label act list f =
        let c = closing p label (Some (purposes.State act list)) f in
        ap (λ found. dead_by found answer (present_list past i) (host_at past i)) c.answered
        ∙ ap (λ o. says_dead (answer_in o) c.own (present_list past i) (Reads past i)) c.packet
        ∙ ap (λ o. says_dead (answer_of p) c.own o (Reads past i)) listed
        ∙ read_says (ending_of p) (answer_of p) (quad_read (ending_of p) (answer_of p) (closed_ends p label.number (purposes.State act list) refl c)) c.own s.lists.slots.present act list (Reads past i) s.states
        (zipped_map P (IsTied c.own act list) (tied c) (Reads past i) s.states pairs)
        (lives_of ready i s h.pointed.cored.own.called s.target label.number (Some (purposes.State act list)) c.at act list refl)
      where
        same_of : (one : StateRead) (a : ℕ) (q : P one a) → ClosedFor finding (Some (purposes.State a q.list)) → (act ≡ a) × (list ≡ q.list)
        same_of one a q c = state_same act a list q.list (subst (λ x. ClosedFor x (Some (purposes.State a q.list))) f c)

        tied : (c : IsClosed p label.number (Some (purposes.State act list))) (one : StateRead) (a : ℕ) → P one a → IsTied c.own act list one a
        tied c one a q = record {
          same = by (one.serial == c.own) refl (a == act) refl;
          listed = λ e. q.named ∙ sym (same_of one a q (state_closed c.own c.answered one a q e)).1;
        }
          where
            by : (x : Bool) → (one.serial == c.own) ≡ x → (y : Bool) → (a == act) ≡ y → (one.serial == c.own) ≡ (a == act)
            by true e true g = e ∙ sym g
            by false e false g = e ∙ sym g
            by true e false g = (let k = (same_of one a q (state_closed c.own c.answered one a q e)).0 in untrue (sym g ∙ ap (λ m. a == m) k ∙ itself a))
            by false e true g =
                let ended : ended_by finding ≡ Some a = ap ended_by f ∙ ap Some (sym (equal a act g)) in
                untrue (sym e ∙ (ap (λ o. is_gone o one.serial) (sym c.answered) ∙ gone one a q ended))

    pub dead_same : dead_at past serial i ≡ response_dead finding s
    dead_same = by finding refl
      where
        none : (f : Finding Purpose) → finding ≡ f → states_finding f ≡ false → dead_at past serial i ≡ false
        none f e off = not_state (λ on. untrue (sym off ∙ ap states_finding (sym e) ∙ on))

        by : (f : Finding Purpose) → finding ≡ f → dead_at past serial i ≡ response_dead f s
        by (of_response p label (Some (purposes.State act list))) e = dead_so p label act list e
        by (of_response p label (Some (purposes.Pointer list))) e = none _ e refl
        by (of_response p label (Some purposes.Doorbell)) e = none _ e refl
        by (of_response p label (Some (purposes.AgentReset act))) e = none _ e refl
        by (of_response p label (Some (purposes.Enable act))) e = none _ e refl
        by (of_response p label (Some (purposes.Management act))) e = none _ e refl
        by (of_response p label (Some (purposes.Rom act))) e = none _ e refl
        by (of_response p label None) e = none _ e refl
        by of_generation e = none _ e refl
        by of_grammar e = none _ e refl
        by of_label e = none _ e refl
        by (of_again p rcode) e = none _ e refl
        by (of_request p) e = none _ e refl
