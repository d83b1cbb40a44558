-- What is known of each moment for the management of an initiator that injected no packets, by the wire.
use Rattle.sbp_world.proofs.Words.Std.{arith, ◌≡◌, ◌∙◌, refl, sym, ap, subst, ℕ, suc, ◌<◌, ◌&&◌, not, nat_eq, Bool, true, false, cond, List, [], ◌∷◌, Option, Some, None, Ok, nat_tests}
use Rattle.sbp_world.proofs.Words.Wire.{Header, rcode_of, write_block, reading, AreAnswered, IsSentFor, AreJudged, may_get, SerialsCount, AreSent, is_stated, transaction, RowFacts, Row, by_generation, row_of, is_write, Moment, asked, said, Kind, Part, Sending, Transaction, asked_by, between, is_same, is_same_kind, part_of, request, response, writing, Held, Owed, Terms, arrives, asked_in, closes, closes_if, free, gets, gets_as, is_news, is_served, judges, rests, terms, waits, Action}
use Rattle.sbp_world.proofs.Words.Target.{Disk}
use Rattle.sbp_world.proofs.Words.Initiator.{start_of, fifo_at, StatusBlock, status_in}
use Rattle.sbp_world.proofs.Words.Laws.{operation_of, answered_as, answered_at, answered_in, closed_by, EachMoment, event_of}
use Rattle.sbp_world.proofs.Words.World.{manages, is_open, IsAsking, IsAtAgent, IsFree, IsTelling, IsCalm}
use Rattle.bus_memory.specs.declared.window.Window.TheVariants as windows
use Rattle.bus_transactions.specs.Judging.{facts_of}
use Rattle.bus_transactions.proofs.Facts.{Facts, asked_begun, asked_is, begun_asked, both, fair, request_asked}
use Rattle.bus_transactions.proofs.PacketParts.{asking_read, part_read, request_read, same_is}
use Rattle.orb_layout.specs.declared.status.StatusKind.TheVariants as kinds
use Rattle.sbp_journal.specs.Transactions.{no_packet}
use Rattle.sbp_journal.specs.declared.event.Event.TheVariants as events
use Rattle.sbp_journal.specs.declared.note.Note.TheVariants as notes
use Rattle.sbp_world.proofs.Lists.Calm.{injects_before}
use Rattle.sbp_world.proofs.Lists.ManageGot.{IsWriting}
use Rattle.sbp_world.proofs.Lists.ManageMoments.{Hands, IsActing, IsAnswer, LineFacts, SendFacts, TakeFacts}
use Rattle.sbp_world.proofs.Lists.ManageSent.{IsRefusing}
use Rattle.sbp_world.proofs.Lists.ManageTerms.{got_more, got_rests, none_is, same_some}
use Rattle.sbp_world.proofs.Lists.ManageWire.{IsGetting, IsSending, WireMoments}
use Rattle.sbp_world.proofs.Common.{untrue}

-- ---- what the wire does not tell

pub record RestSent (start : List Disk) (past : List Moment) (i serial generation from to : ℕ) (bytes : List ℕ) : Type 0 where
  pub refused : (owed : Owed) → (terms past).owes ≡ Some owed → owed.cause ≡ None → IsAtAgent past owed.serial → (asking : Sending) → (terms past).sent owed.serial ≡ Some asking → asking.to ≡ 0 → rcode_of bytes ≡ 4 → IsRefusing start past
  pub acts : (place : ℕ) → IsAsking (said (notes.Sent serial generation from to bytes) ∷ past) i serial place → IsActing past i place
  pub written : from ≡ suc i → (terms past).injected serial ≡ false → (action : Action) → event_of past ≡ Some (events.Act i action) → manages (operation_of action) ≡ true → IsWriting bytes

-- a status block for a management ORB, that an initiator gets in an open FIFO, is one that the target tells
abbrev pub RestGot : List Disk → List Moment → (i serial : ℕ) → Type 0
RestGot start past i serial = (packet : Sending) → (terms past).sent serial ≡ Some packet → packet.to ≡ suc i → packet.from ≡ 0 → packet.generation ≡ (terms past).generation (suc i) → (header : Header) (offset : ℕ) (payload : List ℕ) → reading packet.bytes ≡ Ok (write_block header offset payload) → (logins : ℕ) (is_out : Bool) → is_open (fifo_at logins is_out offset) ≡ true → (block : StatusBlock) → status_in payload ≡ Ok block → (status : ℕ) → block.kind ≡ kinds.Management status → (place : ℕ) → place < 2 → block.orb ≡ start_of (windows.Management place) → (terms past).news serial ≡ 0 → IsTelling start past i serial place

abbrev pub RestAt : List Disk → ℕ → Moment → List Moment → Type 0
RestAt start i (said (notes.Sent serial generation from to bytes)) past = RestSent start past i serial generation from to bytes
RestAt start i (said (notes.Got serial)) past = RestGot start past i serial
RestAt start i (said (notes.Seen node generation)) past = node ≡ suc i → nat_eq generation ((terms past).generation (suc i)) ≡ false → IsFree start (said (notes.Seen node generation) ∷ past) i
RestAt start i (said notes.Tick) past = (terms past).owes ≡ None
RestAt start i moment past = Unit {0}

-- ---- small ones

pub write_of : (bytes : List ℕ) (l : ℕ) → part_of bytes ≡ request l writing → is_write bytes ≡ true
write_of bytes l e = let r = request_read bytes l writing e in (asking_read bytes r.packet l writing r.read r.is).writes

-- a write that is got was not judged before
module _ (serial : ℕ) (earlier : List Moment) (p : Sending) (later : Facts (terms (said (notes.Got serial) ∷ earlier))) (sent : (terms earlier).sent serial ≡ Some p) (honest : p.injected ≡ false) (calm : (terms (said (notes.Got serial) ∷ earlier)).injects p.from ≡ false) (label : ℕ) (part : part_of p.bytes ≡ request label writing) where
  sent_later : (terms (said (notes.Got serial) ∷ earlier)).sent serial ≡ Some p
  sent_later = ap (λ (f : ℕ → Option Sending). f serial) (got_rests serial earlier).sent ∙ sent

  pub not_judged : (terms earlier).news serial ≡ 0
  not_judged =
      let v = between p p.from p.to label in
      let b = asked_begun p v honest (request_asked p label writing part) in
      let most = (later.counts serial p sent_later).most v b (write_of p.bytes label part) (ap not calm) in
      let more = got_more serial earlier p sent in
      omega (arith, most, more)

-- what is got is of its receiver's generation
generation_not : (b : Bool) (x : Row) → may_get (cond (not b) by_generation x) ≡ true → b ≡ true
generation_not true x e = refl
generation_not false x e = untrue e

current_by : (f : RowFacts) → may_get (row_of f) ≡ true → f.is_current ≡ true
current_by f e = generation_not f.is_current _ e

pub current_of : (past : List Moment) (q : Sending) → may_get (row_of (facts_of (terms past) q)) ≡ true → q.generation ≡ (terms past).generation q.to
current_of past q e = let x = current_by (facts_of (terms past) q) e in grind (arith, nat_tests)

-- what becomes of the label of a transaction as a packet is got
pub record Closes (q : Sending) (v : Transaction) : Type 0 where
  pub label : ℕ
  pub kind : Kind
  pub part : part_of q.bytes ≡ response label kind
  pub is : between q q.to q.from label ≡ v

judges_held : (u : Option Transaction) (s : ℕ) (q : Sending) (t : Terms) → (judges u None s q t).held ≡ t.held
judges_held None s q t = refl
judges_held (Some u) s q t = refl

closes_if_other : (b : Bool) (s : ℕ) (u v : Transaction) (rcode : ℕ) (t : Terms) → is_same v u ≡ false → (closes_if b s u rcode t).held v ≡ t.held v
closes_if_other true s u v rcode t e = ap (λ b. cond b free (t.held v)) e
closes_if_other false s u v rcode t e = refl

closes_other : (held : Held) (u v : Transaction) (kind : Kind) (rcode : ℕ) (t : Terms) → is_same v u ≡ false → (closes held u kind rcode t).held v ≡ t.held v
closes_other (waits k s) u v kind rcode t e = closes_if_other (is_same_kind k kind) s u v rcode t e
closes_other free u v kind rcode t e = refl
closes_other rests u v kind rcode t e = refl

module _ (serial : ℕ) (past : List Moment) (q : Sending) (sent : (terms past).sent serial ≡ Some q) (v : Transaction) (kind : Kind) (own : ℕ) (held : (terms past).held v ≡ waits kind own) (over : (terms (said (notes.Got serial) ∷ past)).held v ≡ waits kind own → ⊥) where
  abbrev t : Terms
  t = terms past

  abbrev c : Terms
  c = is_served serial (is_news serial (arrives serial t))

  now_is : (terms (said (notes.Got serial) ∷ past)).held v ≡ (gets_as (part_of q.bytes) serial q c).held v
  now_is = ap (λ (found : Option Sending). (gets found serial t).held v) sent

  closed : (part : Part) → part_of q.bytes ≡ part → Closes q v
  closed (request label k) e = absurd (over (now_is ∙ ap (λ p. (gets_as p serial q c).held v) e ∙ ap (λ (h : Transaction → Held). h v) (judges_held (asked_by q) serial q c) ∙ held))
  closed no_packet e = absurd (over (now_is ∙ ap (λ p. (gets_as p serial q c).held v) e ∙ held))
  closed (response label k) e = by (is_same v u) refl
    where
      u : Transaction
      u = between q q.to q.from label

      by : (b : Bool) → is_same v (between q q.to q.from label) ≡ b → Closes q v
      by true f = record { label = label; kind = k; part = e; is = sym (same_is v (between q q.to q.from label) f) }
      by false f = absurd (over (now_is ∙ ap (λ p. (gets_as p serial q c).held v) e ∙ closes_other (t.held (between q q.to q.from label)) (between q q.to q.from label) v k (rcode_of q.bytes) c f ∙ held))

  pub it_closes : Closes q v
  it_closes = closed (part_of q.bytes) refl

-- ---- by the wire

module _ (start : List Disk) (past : List Moment) (i : ℕ) (calm : IsCalm past i) (fair_target : (terms past).injects 0 ≡ false) where
  -- the initiator and the target injected nothing
  own_fair : (v : Transaction) → v.requester ≡ suc i → fair (terms past).injects v ≡ true
  own_fair v e = ap (λ n. not ((terms past).injects n)) e ∙ ap not calm

  both_fair : (v : Transaction) → v.requester ≡ suc i → v.responder ≡ 0 → both (terms past).injects v ≡ true
  both_fair v e f =
      ap (λ n. not ((terms past).injects n) && not ((terms past).injects v.responder)) e
      ∙ ap (λ n. not ((terms past).injects (suc i)) && not ((terms past).injects n)) f
      ∙ ap (λ b. not b && not ((terms past).injects 0)) calm
      ∙ ap not fair_target

  -- ---- a packet is sent
  module _ (serial generation from to : ℕ) (bytes : List ℕ) (count : SerialsCount (said (notes.Sent serial generation from to bytes) ∷ past)) (sent : AreSent (said (notes.Sent serial generation from to bytes) ∷ past)) (answered : AreAnswered (said (notes.Sent serial generation from to bytes) ∷ past)) (w : IsSending past generation from) (r : RestSent start past i serial generation from to bytes) where
    abbrev q : Sending
    q = record { generation = generation; from = from; to = to; bytes = bytes; injected = (terms past).injected serial }

    stated_by : (owes : Option Owed) → (terms past).owes ≡ owes → (owed : Owed) → owes ≡ Some owed → IsSentFor owes (terms past) q → (v : Transaction) → asked_in ((terms past).sent owed.serial) ≡ Some v → is_stated owed.cause ((terms past).given v) (rcode_of bytes) ≡ true
    stated_by None e owed f x v g = none_is owed f
    stated_by (Some o) e owed f x v g =
        let same : o ≡ owed = same_some o owed f in
        let own = request_asked x.asking x.responds.label x.responds.kind x.responds.asks in
        let v_is : between x.asking x.asking.from x.asking.to x.responds.label ≡ v = same_some _ v (sym own ∙ ap asked_in (sym x.sent) ∙ ap (λ (z : Owed). asked_in ((terms past).sent z.serial)) same ∙ g) in
        subst (λ (z : Owed). is_stated z.cause ((terms past).given v) (rcode_of bytes) ≡ true) same (subst (λ z. is_stated o.cause ((terms past).given z) (rcode_of bytes) ≡ true) v_is x.stated)

    sending_known : SendFacts start past i serial generation from to bytes
    sending_known = record {
      facts = record {
        serials = count.1;
        next = count.0;
        own = λ e. w.now ∙ ap (terms past).generation e;
        present = λ owed v e f g h. w.present owed v e f (own_fair v g);
        stated = λ owed v e f. stated_by (terms past).owes refl owed e answered.0 v f;
        refused = r.refused;
      };
      fit = record { serials = count; sent = sent };
      acts = r.acts;
      unjudged = (let l = count.0 in w.unjudged serial (omega (arith, l)));
      written = r.written;
    }

  -- ---- a packet is got
  module _ (serial : ℕ) (judged : AreJudged (said (notes.Got serial) ∷ past)) (answered : AreAnswered (said (notes.Got serial) ∷ past)) (g : IsGetting past serial) (later_fair : (terms (said (notes.Got serial) ∷ past)).injects (suc i) ≡ false) (later_target : (terms (said (notes.Got serial) ∷ past)).injects 0 ≡ false) (r : RestGot start past i serial) where
    abbrev p : Sending
    p = g.packet

    current : p.generation ≡ (terms past).generation p.to
    current = current_of past p (judged.0 p g.sent)

    honest_by : (b : Bool) → p.injected ≡ b → (n : ℕ) → p.from ≡ n → (terms past).injects n ≡ false → b ≡ false
    honest_by false e n f x = refl
    honest_by true e n f x = untrue (sym x ∙ ap (terms past).injects (sym f) ∙ (g.facts.honest serial p g.sent).bold e)

    honest : (n : ℕ) → p.from ≡ n → (terms past).injects n ≡ false → p.injected ≡ false
    honest n f x = honest_by p.injected refl n f x

    fresh : (n : ℕ) → p.from ≡ n → (terms past).injects n ≡ false → (terms (said (notes.Got serial) ∷ past)).injects n ≡ false → (label : ℕ) → part_of p.bytes ≡ request label writing → (terms past).news serial ≡ 0
    fresh n e before later label part =
        not_judged serial past p g.later g.sent (honest n e before) (ap (terms (said (notes.Got serial) ∷ past)).injects e ∙ later) label part

    answers : p.to ≡ suc i → p.from ≡ 0 → (label : ℕ) (kind : Kind) (own : ℕ) (asking : Sending) (l : ℕ) → (terms past).sent own ≡ Some asking → part_of asking.bytes ≡ request l writing → (let v = transaction ((terms past).generation (suc i)) (suc i) 0 label in (terms past).held v ≡ waits kind own → ((terms (said (notes.Got serial) ∷ past)).held v ≡ waits kind own → ⊥) → (rcode : ℕ) → rcode_of p.bytes ≡ rcode → IsAnswer past i label own rcode)
    answers to from label kind own asking l there part held over rcode code =
        let v = transaction ((terms past).generation (suc i)) (suc i) 0 label in
        let c = it_closes serial past p g.sent v kind own held over in
        let tie = g.facts.tie v in
        let w = tie.waiting kind own held in
        let positive : 0 < (terms past).current v = (let x = w.0 in let y = w.1 in omega (arith, x, y)) in
        let a = g.facts.asked v positive in
        let packet_is : a.packet ≡ asking = same_some a.packet asking (sym a.sent_is ∙ ap (terms past).sent (sym w.0) ∙ there) in
        let writes : is_write asking.bytes ≡ true = write_of asking.bytes l part in
        let last : (terms past).last v ≡ Some asking.bytes = a.last_is ∙ ap (λ (x : Sending). Some x.bytes) packet_is in
        let both_v = both_fair v refl refl in
        let h = honest 0 from fair_target in
        let f = (g.facts.flies serial p g.sent).replies c.label c.kind c.part h g.live (ap (fair (terms past).injects) c.is ∙ own_fair v refl) in
        let given = g.codes.replies v serial (record { fairly = both_v; bytes = asking.bytes; last = last; writes = writes }) refl (record { packet = p; sent = g.sent; label = c.label; kind = c.kind; part = c.part; honest = h; live = g.live; is = c.is }) in
        let seen : 0 < (terms past).judged ((terms past).current v) = subst (λ (x : Transaction). 0 < (terms past).judged ((terms past).current x)) c.is f.1 in
        let once = tie.once both_v seen asking.bytes last writes in
        record {
          given = sym given ∙ code;
          news = (let x = ap (terms past).news w.0 in omega (arith, x, once));
          current = sym w.0;
          packet = a.packet;
          sent = ap (terms past).sent w.0 ∙ a.sent_is;
          begun = a.begun;
        }

    -- the kind of a response that closes a transaction
    closed_waits : (h : Held) (kind : Kind) (own : ℕ) → closed_by h kind ≡ Some own → (other : Kind) × (h ≡ waits other own)
    closed_waits free kind own e = none_is own e
    closed_waits rests kind own e = none_is own e
    closed_waits (waits k s) kind own e = by (is_same_kind k kind) e
      where
        by : (b : Bool) → cond b (Some s) None ≡ Some own → (other : Kind) × (waits k s ≡ waits other own)
        by true f = (k, ap (λ n. waits k n) (same_some s own f))
        by false f = none_is own f

    replied_as : p.to ≡ 0 → (own : ℕ) (part : Part) → part_of p.bytes ≡ part → answered_as part (terms past) p ≡ Some own → (asking : Sending) → (terms past).sent own ≡ Some asking → asking.to ≡ suc i → (l : ℕ) → part_of asking.bytes ≡ request l writing → 0 < (terms past).news own
    replied_as to own (request label kind) e a asking there goes l part = none_is own a
    replied_as to own no_packet e a asking there goes l part = none_is own a
    replied_as to own (response label kind) e a asking there goes l part =
        let v = between p p.to p.from label in
        let c = closed_waits ((terms past).held v) kind own a in
        let tie = g.facts.tie v in
        let w = tie.waiting c.0 own c.1 in
        let positive : 0 < (terms past).current v = (let x = w.0 in let y = w.1 in omega (arith, x, y)) in
        let q = g.facts.asked v positive in
        let packet_is : q.packet ≡ asking = same_some q.packet asking (sym q.sent_is ∙ ap (terms past).sent (sym w.0) ∙ there) in
        let ends = asked_is q.packet v (begun_asked q.packet v q.begun).1 in
        let from : p.from ≡ suc i = ap (λ (x : Transaction). x.responder) ends.is ∙ ap (λ (x : Sending). x.to) packet_is ∙ goes in
        let writes : is_write asking.bytes ≡ true = write_of asking.bytes l part in
        let last : (terms past).last v ≡ Some asking.bytes = q.last_is ∙ ap (λ (x : Sending). Some x.bytes) packet_is in
        let own_fair_v : fair (terms past).injects v ≡ true = ap (λ n. not ((terms past).injects n)) to ∙ ap not fair_target in
        let both_v : both (terms past).injects v ≡ true =
        ap (λ n. not ((terms past).injects n) && not ((terms past).injects p.from)) to ∙ ap (λ n. not ((terms past).injects 0) && not ((terms past).injects n)) from ∙ ap (λ b. not b && not ((terms past).injects (suc i))) fair_target ∙ ap not calm in
        let h = honest (suc i) from calm in
        let f = (g.facts.flies serial p g.sent).replies label kind e h g.live own_fair_v in
        let once = tie.once both_v f.1 asking.bytes last writes in
        let x = ap (terms past).news w.0 in
        omega (arith, x, once)

    replied : p.to ≡ 0 → (own : ℕ) → answered_at (terms past) serial ≡ Some own → (asking : Sending) → (terms past).sent own ≡ Some asking → asking.to ≡ suc i → (l : ℕ) → part_of asking.bytes ≡ request l writing → 0 < (terms past).news own
    replied to own a asking there goes l part = replied_as to own (part_of p.bytes) refl (sym (ap (λ (found : Option Sending). answered_in (terms past) found) g.sent) ∙ a) asking there goes l part

    getting_known : TakeFacts start past i serial
    getting_known = record {
      packet = p;
      facts = record {
        sent = g.sent;
        none = answered.0;
        current = current;
        apart = g.facts.apart;
        honest = λ e. honest (suc i) e calm;
        fresh = λ e label part. fresh (suc i) e calm later_fair label part;
      };
      answers = answers;
      replied = replied;
      tells = λ to from header offset payload read logins is_out opens block spelled status kind place small orb.
          r p g.sent to from (current ∙ ap (terms past).generation to) header offset payload read logins is_out opens block spelled status kind place small orb (fresh 0 from fair_target later_target header.label (part_read p.bytes (write_block header offset payload) read));
    }

-- ---- every moment

line_known : (past : List Moment) → (terms past).owes ≡ None → Facts (terms past) → LineFacts past
line_known past none f = record {
  none = none;
  here = f.aged;
  packets = λ s q e. (let a = (f.honest s q e).past in let b = f.aged q.from in omega (arith, a, b));
}

pub record OfWire (past : List Moment) : Type 0 where
  pub serials : SerialsCount past
  pub judged : AreJudged past
  pub answered : AreAnswered past
  pub sent : AreSent past
  pub moments : WireMoments past
  pub fair : (terms past).injects 0 ≡ false

-- and before it
pub before_it : (m : Moment) (past : List Moment) → OfWire (m ∷ past) → OfWire past
before_it (asked line event) past w = record { serials = w.serials; judged = w.judged; answered = w.answered.1; sent = w.sent; moments = w.moments.1; fair = injects_before (asked line event) past 0 w.fair }
before_it (said (notes.Sent serial generation from to bytes)) past w = record { serials = w.serials.1; judged = w.judged; answered = w.answered.1; sent = w.sent.1; moments = w.moments.1; fair = injects_before (said (notes.Sent serial generation from to bytes)) past 0 w.fair }
before_it (said (notes.Got serial)) past w = record { serials = w.serials; judged = w.judged.1; answered = w.answered.1; sent = w.sent; moments = w.moments.1; fair = injects_before (said (notes.Got serial)) past 0 w.fair }
before_it (said (notes.Ignored serial cause)) past w = record { serials = w.serials; judged = w.judged.1; answered = w.answered.1; sent = w.sent; moments = w.moments.1; fair = injects_before (said (notes.Ignored serial cause)) past 0 w.fair }
before_it (said (notes.TimedOut serial)) past w = record { serials = w.serials; judged = w.judged; answered = w.answered.1; sent = w.sent; moments = w.moments.1; fair = injects_before (said (notes.TimedOut serial)) past 0 w.fair }
before_it (said (notes.Seen node generation)) past w = record { serials = w.serials; judged = w.judged; answered = w.answered.1; sent = w.sent; moments = w.moments.1; fair = injects_before (said (notes.Seen node generation)) past 0 w.fair }
before_it (said (notes.Injected serial)) past w = record { serials = w.serials; judged = w.judged; answered = w.answered.1; sent = w.sent; moments = w.moments.1; fair = injects_before (said (notes.Injected serial)) past 0 w.fair }
before_it (said (notes.Lost serial)) past w = record { serials = w.serials; judged = w.judged; answered = w.answered.1; sent = w.sent; moments = w.moments.1; fair = injects_before (said (notes.Lost serial)) past 0 w.fair }
before_it (said (notes.Reset generation)) past w = record { serials = w.serials; judged = w.judged; answered = w.answered.1; sent = w.sent; moments = w.moments.1; fair = injects_before (said (notes.Reset generation)) past 0 w.fair }
before_it (said note) past w = record { serials = w.serials; judged = w.judged; answered = w.answered; sent = w.sent; moments = w.moments.1; fair = injects_before (said note) past 0 w.fair }

module _ (start : List Disk) (i : ℕ) where
  pub hands_known : (past : List Moment) → IsCalm past i → OfWire past → EachMoment (RestAt start i) past → Hands start i past
  hands_known [] calm w r = tt
  hands_known (asked line event ∷ past) calm w r =
      let c = injects_before (asked line event) past (suc i) calm in
      let f = injects_before (asked line event) past 0 w.fair in
      (line_known past w.answered.0 w.moments.0, hands_known past c (record { serials = w.serials; judged = w.judged; answered = w.answered.1; sent = w.sent; moments = w.moments.1; fair = f }) r.1)
  hands_known (said (notes.Sent serial generation from to bytes) ∷ past) calm w r =
      let m = said (notes.Sent serial generation from to bytes) in
      let c = injects_before m past (suc i) calm in
      let f = injects_before m past 0 w.fair in
      (sending_known start past i c f serial generation from to bytes w.serials w.sent w.answered w.moments.0 r.0, hands_known past c (record { serials = w.serials.1; judged = w.judged; answered = w.answered.1; sent = w.sent.1; moments = w.moments.1; fair = f }) r.1)
  hands_known (said (notes.Got serial) ∷ past) calm w r =
      let m = said (notes.Got serial) in
      let c = injects_before m past (suc i) calm in
      let f = injects_before m past 0 w.fair in
      (getting_known start past i c f serial w.judged w.answered w.moments.0 calm w.fair r.0, hands_known past c (record { serials = w.serials; judged = w.judged.1; answered = w.answered.1; sent = w.sent; moments = w.moments.1; fair = f }) r.1)
  hands_known (said (notes.Ignored serial cause) ∷ past) calm w r =
      let m = said (notes.Ignored serial cause) in
      let c = injects_before m past (suc i) calm in
      let f = injects_before m past 0 w.fair in
      (w.answered.0, hands_known past c (record { serials = w.serials; judged = w.judged.1; answered = w.answered.1; sent = w.sent; moments = w.moments.1; fair = f }) r.1)
  hands_known (said (notes.TimedOut serial) ∷ past) calm w r =
      let m = said (notes.TimedOut serial) in
      let c = injects_before m past (suc i) calm in
      let f = injects_before m past 0 w.fair in
      let l = w.moments.0 in
      (record { none = w.answered.0; packet = l.packet; sent = l.sent }, hands_known past c (record { serials = w.serials; judged = w.judged; answered = w.answered.1; sent = w.sent; moments = w.moments.1; fair = f }) r.1)
  hands_known (said (notes.Seen node generation) ∷ past) calm w r =
      let m = said (notes.Seen node generation) in
      let c = injects_before m past (suc i) calm in
      let f = injects_before m past 0 w.fair in
      (record { none = w.answered.0; new = r.0 }, hands_known past c (record { serials = w.serials; judged = w.judged; answered = w.answered.1; sent = w.sent; moments = w.moments.1; fair = f }) r.1)
  hands_known (said notes.Tick ∷ past) calm w r =
      let m = said notes.Tick in
      let c = injects_before m past (suc i) calm in
      let f = injects_before m past 0 w.fair in
      (r.0, hands_known past c (record { serials = w.serials; judged = w.judged; answered = w.answered; sent = w.sent; moments = w.moments.1; fair = f }) r.1)
  hands_known (said (notes.Injected serial) ∷ past) calm w r =
      let m = said (notes.Injected serial) in
      let c = injects_before m past (suc i) calm in
      let f = injects_before m past 0 w.fair in
      (tt, hands_known past c (record { serials = w.serials; judged = w.judged; answered = w.answered.1; sent = w.sent; moments = w.moments.1; fair = f }) r.1)
  hands_known (said (notes.Lost serial) ∷ past) calm w r =
      let m = said (notes.Lost serial) in
      let c = injects_before m past (suc i) calm in
      let f = injects_before m past 0 w.fair in
      (tt, hands_known past c (record { serials = w.serials; judged = w.judged; answered = w.answered.1; sent = w.sent; moments = w.moments.1; fair = f }) r.1)
  hands_known (said (notes.Reset generation) ∷ past) calm w r =
      let m = said (notes.Reset generation) in
      let c = injects_before m past (suc i) calm in
      let f = injects_before m past 0 w.fair in
      (tt, hands_known past c (record { serials = w.serials; judged = w.judged; answered = w.answered.1; sent = w.sent; moments = w.moments.1; fair = f }) r.1)
  hands_known (said note ∷ past) calm w r =
      let c = injects_before (said note) past (suc i) calm in
      let f = injects_before (said note) past 0 w.fair in
      (tt, hands_known past c (record { serials = w.serials; judged = w.judged; answered = w.answered; sent = w.sent; moments = w.moments.1; fair = f }) r.1)
