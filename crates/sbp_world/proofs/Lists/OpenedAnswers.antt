-- A response behind which a transaction of an initiator with the target waits no more answers its request; and where this was a write, and the response is
-- complete, the target had served it: neither had injected a packet.
use Rattle.sbp_world.proofs.Words.Std.{arith, ◌≡◌, ◌∙◌, refl, sym, ap, subst, ◌<◌, ◌==◌, ◌&&◌, ℕ, suc, not, Bool, true, false, cond, List, ◌∷◌, Option, Some, None, Ok, nat_tests, false≢true}
use Rattle.sbp_world.proofs.Words.Wire.{rcode_of, Packet, lock, lock_response, read_block, read_block_response, read_quadlet, read_quadlet_response, write_block, write_quadlet, write_response, reading, Spells, AnswerLaw, AnswersWaiting, IsAwaited, Due, as_sending, transaction, is_write, Sent, Kept, find_kept, found_sent, is_flying, Stored, Moment, said, Kind, Part, Sending, Transaction, asked_by, between, is_same, is_same_kind, part_of, request, response, Held, Terms, arrives, closes, closes_if, free, gets, gets_as, is_news, is_served, judges, rests, terms, waits, Cause}
use Rattle.sbp_world.proofs.Words.Initiator.{ending_of}
use Rattle.sbp_world.proofs.Words.Laws.{receiver_in}
use Rattle.sbp_world.proofs.Words.World.{WorldState, Stands}
use Rattle.bus_transactions.proofs.AnswerLaws.{answers_always}
use Rattle.bus_transactions.proofs.Facts.{IsAsked}
use Rattle.bus_transactions.proofs.FitJudged.{spelled}
use Rattle.bus_transactions.proofs.Follows.{IsKept, found_kept}
use Rattle.bus_transactions.proofs.PacketParts.{same_is}
use Rattle.bus_transactions.proofs.Reaches.{goes_on}
use Rattle.bus_transactions.proofs.ServedFacts.{Comes, IsWrite, Served}
use Rattle.bus_transactions.proofs.Stands.{On, due_transaction}
use Rattle.sbp_initiator.specs.declared.purpose.Ending.TheVariants as endings
use Rattle.sbp_journal.specs.Transactions.{no_packet}
use Rattle.sbp_journal.specs.declared.note.Note.TheVariants as notes
use Rattle.sbp_world.proofs.Wire.Bus.{holds}
use Rattle.sbp_world.proofs.Agents.Management.Holding.{past_terms, was_sent}
use Rattle.sbp_world.proofs.Agents.Management.Still.{hist}
use Rattle.sbp_world.proofs.Lists.Heard.{awaited_to}

-- ---- which transaction ends
pub record EndsAs (packet : Sending) (v : Transaction) : Type 0 where
  pub label : ℕ
  pub kind : Kind
  pub part : part_of packet.bytes ≡ response label kind
  pub is : v ≡ between packet packet.to packet.from label

module _ (v : Transaction) (kind : Kind) (n serial : ℕ) (q : Sending) where
  abbrev Over : Terms → Type 0
  Over u = u.held v ≡ waits kind n → ⊥

  judged_on : (u : Option Transaction) (cause : Option Cause) (t : Terms) → t.held v ≡ waits kind n → (judges u cause serial q t).held v ≡ waits kind n
  judged_on None cause t w = w
  judged_on (Some u) cause t w = w

  closed_as : (b c : Bool) (s : ℕ) (u : Transaction) (rcode : ℕ) (t : Terms) → is_same v u ≡ c → t.held v ≡ waits kind n → Over (closes_if b s u rcode t) → v ≡ u
  closed_as false c s u rcode t e w f = absurd (f w)
  closed_as true false s u rcode t e w f = absurd (f (ap (λ b. cond b free (t.held v)) e ∙ w))
  closed_as true true s u rcode t e w f = same_is v u e

  closed_held : (held : Held) (u : Transaction) (other : Kind) (rcode : ℕ) (t : Terms) → t.held v ≡ waits kind n → Over (closes held u other rcode t) → v ≡ u
  closed_held free u other rcode t w f = absurd (f w)
  closed_held rests u other rcode t w f = absurd (f w)
  closed_held (waits own s) u other rcode t w f = closed_as (is_same_kind own other) (is_same v u) s u rcode t refl w f

  ends_part : (part : Part) (t : Terms) → part_of q.bytes ≡ part → t.held v ≡ waits kind n → Over (gets_as part serial q t) → EndsAs q v
  ends_part (request label other) t e w f = absurd (f (judged_on (asked_by q) None t w))
  ends_part (response label other) t e w f = record { label = label; kind = other; part = e; is = closed_held (t.held (between q q.to q.from label)) (between q q.to q.from label) other (rcode_of q.bytes) t w f }
  ends_part no_packet t e w f = absurd (f w)

  pub ends_as : (t : Terms) → t.held v ≡ waits kind n → Over (gets (Some q) serial t) → EndsAs q v
  ends_as t w f = ends_part (part_of q.bytes) (is_served serial (is_news serial (arrives serial t))) refl w f

-- ---- a complete response has rcode 0
zero_by : (b : Bool) (rcode value told : ℕ) → (rcode == 0) ≡ b → cond b (endings.Complete value) (endings.Refused rcode) ≡ endings.Complete told → rcode ≡ 0
zero_by true rcode value told e f = grind (arith, nat_tests)
zero_by false rcode value told e f = absurd (differ f)
  where
    differ : endings.Refused rcode ≡ endings.Complete told → ⊥
    differ g = cc

complete_spelled : (bytes : List ℕ) (p : Packet) (told : ℕ) → Spells bytes p → ending_of p ≡ endings.Complete told → rcode_of bytes ≡ 0
complete_spelled bytes (read_quadlet_response header rcode value) told s e = sym s.1 ∙ zero_by (rcode == 0) rcode value told refl e
complete_spelled bytes (read_block_response header rcode payload) told s e = sym s.1 ∙ zero_by (rcode == 0) rcode 0 told refl e
complete_spelled bytes (write_response header rcode) told s e = sym s.1 ∙ zero_by (rcode == 0) rcode 0 told refl e
complete_spelled bytes (lock_response header rcode extended payload) told s e = sym s.1 ∙ zero_by (rcode == 0) rcode 0 told refl e
complete_spelled bytes (write_quadlet header offset value) told s e = cc
complete_spelled bytes (write_block header offset payload) told s e = cc
complete_spelled bytes (read_quadlet header offset) told s e = cc
complete_spelled bytes (read_block header offset count) told s e = cc
complete_spelled bytes (lock header offset extended payload) told s e = cc

pub complete_rcode : (bytes : List ℕ) (p : Packet) (told : ℕ) → reading bytes ≡ Ok p → ending_of p ≡ endings.Complete told → rcode_of bytes ≡ 0
complete_rcode bytes p told r e = complete_spelled bytes p told (spelled bytes p r) e

-- ---- the request that is answered
module _ {past : List Moment} (w : WorldState) (h : Stands past w) (i serial : ℕ) (sent : Sent) (found : found_sent serial w.store.kept ≡ Some sent) (calm : (terms (hist past w)).injects (suc i) ≡ false) (label asking : ℕ) (kind : Kind) (waited : (terms (hist past w)).held (transaction ((terms (hist past w)).generation (suc i)) (suc i) 0 label) ≡ waits kind asking) (over : (terms (said (notes.Got serial) ∷ hist past w)).held (transaction ((terms (hist past w)).generation (suc i)) (suc i) 0 label) ≡ waits kind asking → ⊥) where
  abbrev T : Terms
  T = terms (hist past w)

  abbrev t : Terms
  t = terms h.wire.past

  abbrev q : Sending
  q = as_sending sent

  abbrev v : Transaction
  v = transaction (T.generation (suc i)) (suc i) 0 label

  same : t ≡ T
  same = past_terms w h

  was : T.sent serial ≡ Some q
  was = was_sent w h serial sent found

  pub ended : EndsAs q v
  ended = ends_as v kind asking serial q T waited (subst (λ (o : Option Sending). (gets o serial T).held v ≡ waits kind asking → ⊥) was over)

  pub to_own : q.to ≡ suc i
  to_own = ap (λ (x : Transaction). x.requester) (sym ended.is)

  pub from_target : q.from ≡ 0
  from_target = ap (λ (x : Transaction). x.responder) (sym ended.is)

  fair_target : t.injects 0 ≡ false
  fair_target = h.is.fair

  calm_there : t.injects (suc i) ≡ false
  calm_there = ap (λ (x : Terms). x.injects (suc i)) same ∙ calm

  from_fair : t.injects q.from ≡ false
  from_fair = ap t.injects from_target ∙ fair_target

  to_fair : t.injects q.to ≡ false
  to_fair = ap t.injects to_own ∙ calm_there

  waited_there : t.held (between q q.to q.from ended.label) ≡ waits kind asking
  waited_there = ap t.held (sym ended.is) ∙ (ap (λ (x : Terms). x.held v) same ∙ waited)

  answer_law : AnswerLaw h.wire
  answer_law = subst AnswerLaw (sym h.reached.is) (answers_always h.reached.moves h.reached.may)

  abbrev kept : Kept
  kept = record { serial = serial; in_flight = is_flying serial h.wire.store.kept; sent = sent }

  kept_is : find_kept serial h.wire.store.kept ≡ Some kept
  kept_is = goes_on.finds h.wire serial sent h.reached (ap (λ (st : Stored). found_sent serial st.kept) h.is.store_is ∙ found)

  law : AnswersWaiting t serial asking ended.kind kind
  law = answer_law.waiting serial asking ended.label ended.kind kind kept kept_is ended.part from_fair to_fair waited_there

  pub answers : T.answers serial ≡ Some asking
  answers = ap (λ (x : Terms). x.answers serial) (sym same) ∙ law.answers

  awaited : IsAwaited t v kind asking
  awaited = goes_on.awaited h.wire v kind asking h.reached (ap (λ (x : Terms). x.held v) same ∙ waited)

  -- it went to the target
  pub record WasAsked : Type 0 where
    pub packet : Sending
    pub sent_is : T.sent asking ≡ Some packet
    pub to_target : packet.to ≡ 0

  pub was_asked : WasAsked
  was_asked =
      let a = awaited in
      let to : Some a.packet.to ≡ Some 0 = ap receiver_in (sym a.sent) ∙ awaited_to t v kind asking a in
      record {
        packet = a.packet;
        sent_is = ap (λ (x : Terms). x.sent asking) (sym same) ∙ a.sent;
        to_target = (let x : a.packet.to ≡ 0 = cc in x);
      }

  -- ---- a write that is answered complete was served
  module _ (packet : Sending) (asking_is : T.sent asking ≡ Some packet) (writes : is_write packet.bytes ≡ true) (zero_code : rcode_of q.bytes ≡ 0) where
    on : On t h.wire.store h.wire.layer h.wire.bus h.wire.ids h.wire.due
    on = holds h.wire h.reached

    served_law : Served t None
    served_law = subst (λ (d : Option Due). Served t (due_transaction d)) h.is.due_is on.codes

    asked_one : IsAsked (t.last v) (t.sent (t.current v)) v
    asked_one = on.facts.asked v (let x = (on.facts.tie v).waiting kind asking (ap (λ (z : Terms). z.held v) same ∙ waited) in let y = x.0 in let z = x.1 in omega (arith, y, z))

    packet_is : asked_one.packet ≡ packet
    packet_is =
        let one : Some asked_one.packet ≡ Some packet = sym asked_one.sent_is ∙ (ap t.sent (sym awaited.current) ∙ (ap (λ (x : Terms). x.sent asking) same ∙ asking_is)) in
        let x : asked_one.packet ≡ packet = cc in x

    write : IsWrite t v
    write = record {
      fairly = ap (λ b. not b && not (t.injects 0)) calm_there ∙ ap not fair_target;
      bytes = packet.bytes;
      last = asked_one.last_is ∙ ap (λ (x : Sending). Some x.bytes) packet_is;
      writes = writes;
    }

    flies : IsKept (t.sent serial) (t.flight serial) kept serial
    flies = found_kept on.follows serial kept kept_is

    sent_there : t.sent serial ≡ Some q
    sent_there = ap (λ (x : Terms). x.sent serial) same ∙ was

    honest : q.injected ≡ false
    honest = by q.injected refl
      where
        by : (b : Bool) → q.injected ≡ b → b ≡ false
        by true e = absurd (false≢true (sym from_fair ∙ (on.facts.honest serial q sent_there).bold e))
        by false e = refl

    comes : Comes t v serial
    comes = record {
      packet = q;
      sent = sent_there;
      label = ended.label;
      kind = ended.kind;
      part = ended.part;
      honest = honest;
      live = flies.live;
      is = sym ended.is;
    }

    given_is : t.given v ≡ 0
    unfolding comes
    given_is = sym (served_law.replies v serial write refl comes) ∙ zero_code

    judged : 0 < t.judged (t.current v)
    judged =
        let f = (on.facts.flies serial q sent_there).replies ended.label ended.kind ended.part honest flies.live (ap not (ap t.injects to_own ∙ calm_there)) in
        subst (λ (u : Transaction). 0 < t.judged (t.current u)) (sym ended.is) f.1

    pub served_once : T.served asking ≡ 1
    served_once = ap (λ (x : Terms). x.served asking) (sym same) ∙ (ap t.served awaited.current ∙ served_law.done v write refl judged given_is)
