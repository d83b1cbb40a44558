-- What the transactions of a drill are in: a label that waits does so for the kind of the request that it was given to, and what the target gave to its requests is complete (IEEE 1394-1995, split transactions).
use Rattle.std.proofs.Common.{◌≡◌, ◌∙◌, refl, sym, ap, subst, ℕ, ◌+◌, ◌≤◌, ◌==◌, ◌&&◌, Bool, true, false, cond, nat_eq, List, Option, Some, None, Result, Ok, Err, arith}
use Rattle.std.proofs.lemmas.Bool.Decides.{nat_tests}
use Rattle.async_packet.specs.declared.fault.PacketFault.{PacketFault}
use Rattle.async_packet.specs.Fields.{rcode_of}
use Rattle.async_packet.specs.Packet.{Packet, lock, lock_response, read_block, read_block_response, read_quadlet, read_quadlet_response, write_block, write_quadlet, write_response}
use Rattle.async_packet.specs.Reading.{reading}
use Rattle.sbp_base.specs.Update.{upd}
use Rattle.sbp_journal.specs.Addresses.{Access}
use Rattle.sbp_journal.specs.Transactions.{Kind, Part, Sending, Transaction, asked_as, asked_by, begun_by, begun_if, between, is_same, is_same_kind, is_to, no_packet, part_by, part_of, request, response, writing}
use Rattle.sbp_journal.specs.Wire.{Held, Owed, Terms, arrives, asked_in, begins, closes, closes_if, free, gets, gets_as, gives, ignores, ignores_that, is_news, is_served, judges, judges_if, kind_in, pays, puts, rests, sends, waits}
use Rattle.sbp_journal.specs.declared.cause.Cause.{Cause}
use Rattle.sbp_journal.specs.declared.cause.Cause.TheVariants as causes
use Rattle.sbp_laws.specs.Packets.{access_in, access_in_bytes, spelled_by}

-- ---- transactions
pub same_responder : (t u : Transaction) → is_same t u ≡ true → t.responder ≡ u.responder
unfolding is_same
same_responder t u e = by (t.generation == u.generation) (t.requester == u.requester) (t.responder == u.responder) refl (t.label == u.label) e
  where
    by : (a b c : Bool) → (t.responder == u.responder) ≡ c → (d : Bool) → ((a && b) && (c && d)) ≡ true → t.responder ≡ u.responder
    by true true true f d e = grind (arith, nat_tests)
    by true true false f d e = absurd (cc e)
    by true false c f d e = absurd (cc e)
    by false b c f d e = absurd (cc e)

same_requester : (t u : Transaction) → is_same t u ≡ true → t.requester ≡ u.requester
unfolding is_same
same_requester t u e = by (t.generation == u.generation) (t.requester == u.requester) refl (t.responder == u.responder) (t.label == u.label) e
  where
    by : (a b : Bool) → (t.requester == u.requester) ≡ b → (c d : Bool) → ((a && b) && (c && d)) ≡ true → t.requester ≡ u.requester
    by true true f c d e = grind (arith, nat_tests)
    by true false f c d e = absurd (cc e)
    by false b f c d e = absurd (cc e)

-- a packet that asks for nothing, by its part
pub response_asks_none : (bytes : List ℕ) (label : ℕ) (kind : Kind) → part_of bytes ≡ response label kind → access_in_bytes bytes ≡ None
unfolding part_of
response_asks_none bytes label kind e = by (reading bytes) e
  where
    by : (r : Result Packet PacketFault) → part_by r ≡ response label kind → access_in (spelled_by r) ≡ None
    by (Err fault) e = refl
    by (Ok (write_response header rcode)) e = refl
    by (Ok (read_quadlet_response header rcode value)) e = refl
    by (Ok (read_block_response header rcode payload)) e = refl
    by (Ok (lock_response header rcode extended payload)) e = refl
    by (Ok (write_quadlet header offset value)) e = absurd (cc e)
    by (Ok (write_block header offset payload)) e = absurd (cc e)
    by (Ok (read_quadlet header offset)) e = absurd (cc e)
    by (Ok (read_block header offset asked)) e = absurd (cc e)
    by (Ok (lock header offset extended payload)) e = absurd (cc e)

pub request_asks : (bytes : List ℕ) (label : ℕ) (kind : Kind) → part_of bytes ≡ request label kind → access_in_bytes bytes ≡ None → ⊥
unfolding part_of
request_asks bytes label kind e none = by (reading bytes) e none
  where
    by : (r : Result Packet PacketFault) → part_by r ≡ request label kind → access_in (spelled_by r) ≡ None → ⊥
    by (Err fault) e none = absurd (cc e)
    by (Ok (write_response header rcode)) e none = absurd (cc e)
    by (Ok (read_quadlet_response header rcode value)) e none = absurd (cc e)
    by (Ok (read_block_response header rcode payload)) e none = absurd (cc e)
    by (Ok (lock_response header rcode extended payload)) e none = absurd (cc e)
    by (Ok (write_quadlet header offset value)) e none = absurd (cc none)
    by (Ok (write_block header offset payload)) e none = absurd (cc none)
    by (Ok (read_quadlet header offset)) e none = absurd (cc none)
    by (Ok (read_block header offset asked)) e none = absurd (cc none)
    by (Ok (lock header offset extended payload)) e none = absurd (cc none)

-- a write is a request of its kind
pub writes_ask : (bytes : List ℕ) (label : ℕ) (kind : Kind) (access : Access) → part_of bytes ≡ request label kind → access_in_bytes bytes ≡ Some access → access.is_write ≡ true → kind ≡ writing
unfolding part_of
writes_ask bytes label kind access e is w = by (reading bytes) e is
  where
    no_write : {A : Type 0} (other : Access) → other.is_write ≡ false → Some other ≡ Some access → A
    no_write other f g = absurd (let no : false ≡ true = sym f ∙ ap (λ (x : Access). x.is_write) (let same : other ≡ access = cc g in same) ∙ w in cc no)

    by : (r : Result Packet PacketFault) → part_by r ≡ request label kind → access_in (spelled_by r) ≡ Some access → kind ≡ writing
    by (Err fault) e is = absurd (cc e)
    by (Ok (write_response header rcode)) e is = absurd (cc e)
    by (Ok (read_quadlet_response header rcode value)) e is = absurd (cc e)
    by (Ok (read_block_response header rcode payload)) e is = absurd (cc e)
    by (Ok (lock_response header rcode extended payload)) e is = absurd (cc e)
    by (Ok (write_quadlet header offset value)) e is = cc e
    by (Ok (write_block header offset payload)) e is = cc e
    by (Ok (read_quadlet header offset)) e is = no_write _ refl is
    by (Ok (read_block header offset asked)) e is = no_write _ refl is
    by (Ok (lock header offset extended payload)) e is = no_write _ refl is

-- ---- what is known of the terms
pub record IsHeldFor (u : Transaction) (found : Option Sending) (kind : Kind) : Type 0 where
  pub packet : Sending
  pub requester : packet.from ≡ u.requester
  pub responder : packet.to ≡ u.responder
  pub is : found ≡ Some packet
  pub label : ℕ
  pub part : part_of packet.bytes ≡ request label kind

pub record IsWired (t : Terms) : Type 0 where
  pub held : (u : Transaction) (kind : Kind) (s : ℕ) → t.held u ≡ waits kind s → IsHeldFor u (t.sent s) kind
  pub count : (s : ℕ) (q : Sending) → t.sent s ≡ Some q → s ≤ t.count
  pub given : (u : Transaction) → u.responder ≡ 0 → t.given u ≡ 0
  pub repeats : t.repeats ≡ false

held_as : (u v : Transaction) (found : Option Sending) (kind : Kind) → is_same u v ≡ true → IsHeldFor v found kind → IsHeldFor u found kind
held_as u v found kind e h = record { packet = h.packet; requester = h.requester ∙ sym (same_requester u v e); responder = h.responder ∙ sym (same_responder u v e); is = h.is; label = h.label; part = h.part }

-- ---- a packet is sent
-- a response that the target gives is complete
abbrev pub PaysWell : Option Owed → (ℕ → Option Sending) → Sending → Type 0
PaysWell None sent q = Unit {0}
PaysWell (Some owed) sent q = (u : Transaction) → asked_in (sent owed.serial) ≡ Some u → u.responder ≡ 0 → rcode_of q.bytes ≡ 0

begun_part : (q : Sending) (u : Transaction) → begun_by q ≡ Some u → IsHeldFor u (Some q) (kind_in (part_of q.bytes))
unfolding begun_by asked_by
begun_part q u e = by q.injected (part_of q.bytes) refl e
  where
    by : (b : Bool) (part : Part) → part_of q.bytes ≡ part → begun_if b (asked_as part q) ≡ Some u → IsHeldFor u (Some q) (kind_in (part_of q.bytes))
    by true part f e = absurd (let no : None ≡ Some u = e in cc no)
    by false (request label kind) f e = record { packet = q; requester = (let same : between q q.from q.to label ≡ u = cc e in ap (λ v. v.requester) same); responder = (let same : between q q.from q.to label ≡ u = cc e in ap (λ v. v.responder) same); is = refl; label = label; part = f ∙ ap (request label) (sym (ap kind_in f)) }
    by false (response label kind) f e = absurd (let no : None ≡ Some u = e in cc no)
    by false no_packet f e = absurd (let no : None ≡ Some u = e in cc no)

sends_begun : (begun : Option Transaction) → (s : ℕ) (q : Sending) (t : Terms) → begun_by q ≡ begun → s ≡ t.count + 1 → IsWired t → IsWired (begins begun s q (puts begun s q t))
sends_begun begun s q t e next w = record {
  held = λ u kind o h. by_begun begun e u kind o h;
  count = λ o p f. by_count (nat_eq o s) o refl p f;
  given = λ u r. by_given begun u r;
  repeats = by_repeats begun;
}
  where
    old_held : (u : Transaction) (o : ℕ) (kind : Kind) → IsHeldFor u (t.sent o) kind → IsHeldFor u (upd t.sent s (Some q) o) kind
    old_held u o kind h = by (nat_eq o s) refl
      where
        by : (b : Bool) → nat_eq o s ≡ b → IsHeldFor u (cond b (Some q) (t.sent o)) kind
        by true f = absurd (let is : o ≡ s = grind (arith, nat_tests) in let low = w.count o h.packet h.is in omega (arith, low, next, is))
        by false f = h

    new_held : (u : Transaction) → begun_by q ≡ Some u → IsHeldFor u (upd t.sent s (Some q) s) (kind_in (part_of q.bytes))
    new_held u f = by (nat_eq s s) refl
      where
        by : (b : Bool) → nat_eq s s ≡ b → IsHeldFor u (cond b (Some q) (t.sent s)) (kind_in (part_of q.bytes))
        by true g = begun_part q u f
        by false g = absurd (grind (arith, nat_tests))

    by_begun : (begun : Option Transaction) → begun_by q ≡ begun → (u : Transaction) (kind : Kind) (o : ℕ) → (begins begun s q (puts begun s q t)).held u ≡ waits kind o → IsHeldFor u ((begins begun s q (puts begun s q t)).sent o) kind
    by_begun None f u kind o h = old_held u o kind (w.held u kind o h)
    by_begun (Some v) f u kind o h = by_same (is_same u v) refl h
      where
        by_same : (b : Bool) → is_same u v ≡ b → cond b (waits (kind_in (part_of q.bytes)) s) (t.held u) ≡ waits kind o → IsHeldFor u (upd t.sent s (Some q) o) kind
        by_same true g h =
            let same_kind : kind_in (part_of q.bytes) ≡ kind = cc h in
            let same : s ≡ o = cc h in
            subst (λ x. IsHeldFor u (upd t.sent s (Some q) x) kind) same (subst (λ k. IsHeldFor u (upd t.sent s (Some q) s) k) same_kind (held_as u v _ _ g (new_held v f)))
        by_same false g h = old_held u o kind (w.held u kind o h)

    count_is : (begun : Option Transaction) → (begins begun s q (puts begun s q t)).count ≡ t.count + 1
    count_is None = refl
    count_is (Some v) = refl

    sent_is : (begun : Option Transaction) → (begins begun s q (puts begun s q t)).sent ≡ upd t.sent s (Some q)
    sent_is None = refl
    sent_is (Some v) = refl

    by_count : (b : Bool) (o : ℕ) → nat_eq o s ≡ b → (p : Sending) → (begins begun s q (puts begun s q t)).sent o ≡ Some p → o ≤ (begins begun s q (puts begun s q t)).count
    by_count true o f p g = let same : o ≡ s = grind (arith, nat_tests) in let many = count_is begun in omega (arith, same, next, many)
    by_count false o f p g =
        let there : t.sent o ≡ Some p = sym (ap (λ b. cond b (Some q) (t.sent o)) f) ∙ sym (ap (λ (x : ℕ → Option Sending). x o) (sent_is begun)) ∙ g in
        let low = w.count o p there in
        let many = count_is begun in
        omega (arith, low, many)

    by_given : (begun : Option Transaction) (u : Transaction) → u.responder ≡ 0 → (begins begun s q (puts begun s q t)).given u ≡ 0
    by_given None u r = w.given u r
    by_given (Some v) u r = w.given u r

    by_repeats : (begun : Option Transaction) → (begins begun s q (puts begun s q t)).repeats ≡ false
    by_repeats None = w.repeats
    by_repeats (Some v) = w.repeats

pays_wired : (owes : Option Owed) (sent : ℕ → Option Sending) (s : ℕ) (q : Sending) (t : Terms) → PaysWell owes sent q → IsWired t → IsWired (pays owes sent s q t)
pays_wired None sent s q t well w = w
pays_wired (Some owed) sent s q t well w = by (asked_in (sent owed.serial)) refl
  where
    by : (u : Option Transaction) → asked_in (sent owed.serial) ≡ u → IsWired (record (gives u (rcode_of q.bytes) t) { owes = None; answers = upd t.answers s (Some owed.serial) })
    by None e = record { held = w.held; count = w.count; given = w.given; repeats = w.repeats }
    by (Some u) e = record { held = w.held; count = w.count; given = λ v r. by_same v (is_same v u) refl r; repeats = w.repeats }
      where
        by_same : (v : Transaction) (b : Bool) → is_same v u ≡ b → v.responder ≡ 0 → cond b (rcode_of q.bytes) (t.given v) ≡ 0
        by_same v true f r = well u e (sym (same_responder v u f) ∙ r)
        by_same v false f r = w.given v r

pub sends_wired : (s : ℕ) (q : Sending) (t : Terms) → s ≡ t.count + 1 → PaysWell t.owes t.sent q → IsWired t → IsWired (sends s q t)
sends_wired s q t next well w = pays_wired t.owes t.sent s q (begins (begun_by q) s q (puts (begun_by q) s q t)) well (sends_begun (begun_by q) s q t refl next w)

-- ---- a packet arrives
abbrev StaysWired : Terms → Terms → Type 0
StaysWired t u = IsWired t → IsWired u

judges_wired : (v : Option Transaction) (cause : Option Cause) (s : ℕ) (q : Sending) (t : Terms) → StaysWired t (judges v cause s q t)
judges_wired None cause s q t w = w
judges_wired (Some v) cause s q t w = record { held = w.held; count = w.count; given = w.given; repeats = w.repeats }

arrives_wired : (s : ℕ) (t : Terms) → StaysWired t (arrives s t)
arrives_wired s t w = record { held = w.held; count = w.count; given = w.given; repeats = w.repeats }

news_wired : (s : ℕ) (t : Terms) → StaysWired t (is_news s t)
news_wired s t w = record { held = w.held; count = w.count; given = w.given; repeats = w.repeats }

served_wired : (s : ℕ) (t : Terms) → StaysWired t (is_served s t)
served_wired s t w = record { held = w.held; count = w.count; given = w.given; repeats = w.repeats }

closes_wired : (held : Held) (u : Transaction) (other : Kind) (rcode : ℕ) (t : Terms) → StaysWired t (closes held u other rcode t)
closes_wired free u other rcode t w = w
closes_wired rests u other rcode t w = w
closes_wired (waits kind s) u other rcode t w = by (is_same_kind kind other)
  where
    by : (b : Bool) → IsWired (closes_if b s u rcode t)
    by false = w
    by true = record { held = λ v k o h. by_same (is_same v u) v k o h; count = w.count; given = w.given; repeats = w.repeats }
      where
        by_same : (b : Bool) (v : Transaction) (k : Kind) (o : ℕ) → cond b free (t.held v) ≡ waits k o → IsHeldFor v (t.sent o) k
        by_same true v k o h = absurd (let no : free ≡ waits k o = h in cc no)
        by_same false v k o h = w.held v k o h

gets_wired_as : (part : Part) (s : ℕ) (q : Sending) (t : Terms) → StaysWired t (gets_as part s q t)
gets_wired_as (request label kind) s q t w = judges_wired (asked_by q) None s q t w
gets_wired_as (response label kind) s q t w = closes_wired (t.held (between q q.to q.from label)) (between q q.to q.from label) kind (rcode_of q.bytes) t w
gets_wired_as no_packet s q t w = w

pub gets_wired : (found : Option Sending) (s : ℕ) (t : Terms) → StaysWired t (gets found s t)
gets_wired None s t w = w
gets_wired (Some q) s t w = gets_wired_as (part_of q.bytes) s q _ (served_wired s _ (news_wired s _ (arrives_wired s t w)))

judges_if_wired : (b : Bool) (v : Option Transaction) (s : ℕ) (q : Sending) (t : Terms) → StaysWired t (judges_if b v s q t)
judges_if_wired true v s q t w = judges_wired v (Some causes.Grammar) s q t w
judges_if_wired false v s q t w = w

ignores_wired_as : (cause : Cause) (s : ℕ) (q : Sending) (t : Terms) → StaysWired t (ignores cause s q t)
ignores_wired_as causes.Generation s q t w = w
ignores_wired_as causes.Grammar s q t w = judges_if_wired (is_to q.bytes (t.ids q.generation q.to)) (asked_by q) s q _ (news_wired s t w)
ignores_wired_as causes.Label s q t w = news_wired s t w
ignores_wired_as causes.Again s q t w = judges_wired (asked_by q) (Some causes.Again) s q t w
ignores_wired_as causes.Source s q t w = judges_wired (asked_by q) (Some causes.Source) s q _ (news_wired s t w)
ignores_wired_as causes.Login s q t w = judges_wired (asked_by q) (Some causes.Login) s q _ (news_wired s t w)
ignores_wired_as causes.Slot s q t w = judges_wired (asked_by q) (Some causes.Slot) s q _ (served_wired s _ (news_wired s t w))

pub ignores_wired : (found : Option Sending) (cause : Cause) (s : ℕ) (t : Terms) → StaysWired t (ignores_that found cause s t)
ignores_wired None cause s t w = w
ignores_wired (Some q) cause s t w = ignores_wired_as cause s q (arrives s t) (arrives_wired s t w)
