-- The requests to write that initiators sent and that are in flight: how many there are, as packets are sent, delivered and lost.
use Rattle.sbp_world.proofs.Words.Std.{arith, ◌≡◌, ◌∙◌, refl, ap, ℕ, ◌+◌, ◌-◌, ◌≤◌, ◌==◌, ◌&&◌, ◌||◌, not, nat_eq, nat_lt, Bool, true, false, cond, List, [], ◌∷◌, ◌++◌, Option, Some, None, filter}
use Rattle.sbp_world.proofs.Words.Wire.{LabelParts, Kept, Sent, found, is_flying, with_delivered, without, Stored, by_bus_rule, deliver_step, newest, stays, with_sent, node_of, Outgoing, OutboxState}
use Rattle.sbp_world.proofs.Words.Laws.{access_in_bytes}
use Rattle.sbp_world.proofs.Words.World.{marked, handed_out, asked, posted, sent, sent_all, sent_to, told_all, WorldState}
use Rattle.packet_store.specs.declared.transaction.Transaction.{Transaction}
use Rattle.packet_store.specs.Transactions.{begun_by}
use Rattle.sbp_world.proofs.Agents.Peers.{all_told_store}
use Rattle.sbp_world.proofs.Pointers.Quiet.{AreQuiet, writes_in}

-- a request to write, of a node other than the target
unfoldable pub is_out : ℕ → List ℕ → Bool
is_out from bytes = not (nat_eq from 0) && writes_in (access_in_bytes bytes)

abbrev one_if : Bool → ℕ
one_if b = cond b 1 0

abbrev pub out_of : ℕ → List ℕ → ℕ
out_of from bytes = cond (is_out from bytes) 1 0

abbrev pub pending_at : Kept → ℕ
pending_at k = cond k.in_flight (out_of k.sent.from k.sent.bytes) 0

abbrev pub pending : List Kept → ℕ
pending [] = 0
pending (k ∷ kept) = pending_at k + pending kept

pub out_one : (from : ℕ) (bytes : List ℕ) → out_of from bytes ≤ 1
out_one from bytes = by (is_out from bytes)
  where
    by : (b : Bool) → cond b 1 0 ≤ 1
    by true = omega arith
    by false = omega arith

-- ---- some packets stay
filter_most : (test : Kept → Bool) (kept : List Kept) → pending (filter test kept) ≤ pending kept
filter_most test [] = omega arith
filter_most test (k ∷ kept) = by (test k) (filter_most test kept)
  where
    by : (b : Bool) → pending (filter test kept) ≤ pending kept → pending (cond b (k ∷ filter test kept) (filter test kept)) ≤ pending_at k + pending kept
    by true l = omega (arith, l)
    by false l = omega (arith, l)

more : (kept : List Kept) (k : Kept) → pending (kept ++ k ∷ []) ≡ pending kept + pending_at k
more [] k = omega arith
more (first ∷ kept) k = let rest = more kept k in omega (arith, rest)

ruled_most : (t : Option Transaction) (last : ℕ) (kept : List Kept) → pending (by_bus_rule t last kept) ≤ pending kept
ruled_most None last kept = omega arith
ruled_most (Some t) last kept = filter_most _ kept

sent_most : (q : Sent) (last : ℕ) (kept : List Kept) → pending (with_sent q last kept) ≤ pending kept + out_of q.from q.bytes
sent_most q last kept =
    let all = kept ++ newest last q ∷ [] in
    let a = filter_most (stays (last - 1024)) (by_bus_rule (begun_by q) last all) in
    let b = ruled_most (begun_by q) last all in
    let c = more kept (newest last q) in
    omega (arith, a, b, c)

-- ---- one is delivered
delivered_most : (serial : ℕ) (kept : List Kept) → pending (with_delivered serial kept) ≤ pending kept
delivered_most serial [] = omega arith
delivered_most serial (k ∷ kept) = by (nat_eq serial k.serial) (delivered_most serial kept)
  where
    by : (b : Bool) → pending (with_delivered serial kept) ≤ pending kept → pending_at (cond b (record k { in_flight = false }) k) + pending (with_delivered serial kept) ≤ pending_at k + pending kept
    by true l = omega (arith, l)
    by false l = omega (arith, l)

-- it was one of them
pub record IsPending (k : Kept) : Type 0 where
  pub flies : k.in_flight ≡ true
  pub out : is_out k.sent.from k.sent.bytes ≡ true

is_one : (k : Kept) → IsPending k → pending_at k ≡ 1
is_one k h = ap (λ b. cond b (out_of k.sent.from k.sent.bytes) 0) h.flies ∙ ap (λ b. cond b 1 0) h.out

delivered_less : (serial : ℕ) (kept : List Kept) (k : Kept) → found serial kept ≡ Some k → IsPending k → pending (with_delivered serial kept) + 1 ≤ pending kept
delivered_less serial [] k e h = absurd (let no : None ≡ Some k = e in cc)
delivered_less serial (first ∷ kept) k e h = by (nat_eq serial first.serial) e (λ f. delivered_less serial kept k f h)
  where
    by : (b : Bool) → cond b (Some first) (found serial kept) ≡ Some k → (found serial kept ≡ Some k → pending (with_delivered serial kept) + 1 ≤ pending kept) → pending_at (cond b (record first { in_flight = false }) first) + pending (with_delivered serial kept) + 1 ≤ pending_at first + pending kept
    by true f again = (let same : first ≡ k = cc in let one : pending_at first ≡ 1 = ap pending_at same ∙ is_one k h in let rest = delivered_most serial kept in omega (arith, one, rest))
    by false f again = (let rest = again f in omega (arith, rest))

without_less : (serial : ℕ) (kept : List Kept) (k : Kept) → found serial kept ≡ Some k → IsPending k → pending (without serial kept) + 1 ≤ pending kept
without_less serial [] k e h = absurd (let no : None ≡ Some k = e in cc)
without_less serial (first ∷ kept) k e h = by (nat_eq serial first.serial) e (λ f. without_less serial kept k f h)
  where
    by : (b : Bool) → cond b (Some first) (found serial kept) ≡ Some k → (found serial kept ≡ Some k → pending (without serial kept) + 1 ≤ pending kept) → pending (cond (not b) (first ∷ without serial kept) (without serial kept)) + 1 ≤ pending_at first + pending kept
    by true f again = (let same : first ≡ k = cc in let one : pending_at first ≡ 1 = ap pending_at same ∙ is_one k h in let rest = filter_most (λ x. not (serial == x.serial)) kept in omega (arith, one, rest))
    by false f again = (let rest = again f in omega (arith, rest))

pub step_most : (s : Stored) (serial : ℕ) → pending (deliver_step s serial).kept ≤ pending s.kept
step_most s serial = by (nat_lt (s.last - 1024) serial)
  where
    by : (b : Bool) → pending (cond b (with_delivered serial s.kept) (without serial s.kept)) ≤ pending s.kept
    by true = delivered_most serial s.kept
    by false = filter_most (λ x. not (serial == x.serial)) s.kept

pub step_less : (s : Stored) (serial : ℕ) (k : Kept) → found serial s.kept ≡ Some k → IsPending k → pending (deliver_step s serial).kept + 1 ≤ pending s.kept
step_less s serial k e h = by (nat_lt (s.last - 1024) serial)
  where
    by : (b : Bool) → pending (cond b (with_delivered serial s.kept) (without serial s.kept)) + 1 ≤ pending s.kept
    by true = delivered_less serial s.kept k e h
    by false = without_less serial s.kept k e h

pub lost_most : (serial : ℕ) (kept : List Kept) → pending (without serial kept) ≤ pending kept
lost_most serial kept = filter_most (λ x. not (serial == x.serial)) kept

-- ---- what nodes send
abbrev pub outs : ℕ → List Outgoing → ℕ
outs from [] = 0
outs from (packet ∷ later) = out_of from packet.bytes + outs from later

pub posted_most : (from to : ℕ) (injected : Bool) (bytes : List ℕ) (w : WorldState) → pending (posted from to injected bytes w).store.kept ≤ pending w.store.kept + out_of from bytes
unfolding posted
posted_most from to injected bytes w = sent_most _ (w.store.last + 1) w.store.kept

asked_same : (serial to node peer : ℕ) (label : Option LabelParts) (w : WorldState) → (asked serial to node peer label w).store ≡ w.store
asked_same serial to node peer None w = refl
asked_same serial to node peer (Some label) w = refl

to_most : (to : Option ℕ) (from : ℕ) (packet : Outgoing) (w : WorldState) → pending (sent_to to from packet w).store.kept ≤ pending w.store.kept + out_of from packet.bytes
to_most None from packet w = omega arith
to_most (Some to) from packet w =
    let v = posted from to false packet.bytes w in
    let p = posted_most from to false packet.bytes w in
    let e = ap (λ (s : Stored). pending s.kept) (asked_same (w.store.last + 1) to from packet.to packet.label v) in
    omega (arith, p, e)

all_most : (from : ℕ) (packets : List Outgoing) (w : WorldState) → pending (sent_all from packets w).store.kept ≤ pending w.store.kept + outs from packets
unfolding sent_all sent
all_most from [] w = omega arith
all_most from (packet ∷ later) w =
    let v = sent from packet w in
    let one = to_most (node_of w.generations from packet.to) from packet w in
    let rest = all_most from later v in
    omega (arith, one, rest)

pub handed_most : (node weight : ℕ) (outbox : OutboxState) (w : WorldState) → pending (handed_out node weight outbox w).store.kept ≤ pending w.store.kept + outs node outbox.packets
handed_most node weight outbox w =
    let all = all_most node outbox.packets (told_all weight outbox.sides w) in
    let e = ap (λ (s : Stored). pending s.kept) (all_told_store weight outbox.sides w) in
    omega (arith, all, e)

-- the target sends none
pub none_out : (packets : List Outgoing) → outs 0 packets ≡ 0
unfolding is_out
none_out [] = refl
none_out (packet ∷ later) = let rest = none_out later in omega (arith, rest)

-- nor does an initiator that asks for no write
quiet_out : (from : ℕ) (bytes : List ℕ) → writes_in (access_in_bytes bytes) ≡ false → out_of from bytes ≡ 0
unfolding is_out
quiet_out from bytes e = by (not (nat_eq from 0)) (writes_in (access_in_bytes bytes)) e
  where
    by : (a b : Bool) → b ≡ false → one_if (a && b) ≡ 0
    by true b f = ap one_if f
    by false b f = refl

pub quiet_outs : (from : ℕ) (packets : List Outgoing) → AreQuiet packets → outs from packets ≡ 0
quiet_outs from [] h = refl
quiet_outs from (packet ∷ later) h = let one = quiet_out from packet.bytes h.0 in let rest = quiet_outs from later h.1 in omega (arith, one, rest)

-- one packet is one at most
abbrev pub IsOneAtMost : List Outgoing → Type 0
IsOneAtMost [] = Unit {0}
IsOneAtMost (packet ∷ []) = Unit {0}
IsOneAtMost (packet ∷ other ∷ later) = ⊥

pub one_out : (from : ℕ) (packets : List Outgoing) → IsOneAtMost packets → outs from packets ≤ 1
one_out from [] h = omega arith
one_out from (packet ∷ []) h = let one = out_one from packet.bytes in omega (arith, one)
one_out from (packet ∷ other ∷ later) h = absurd h

-- ---- a packet is marked as delivered
pub marked_most : (serial : ℕ) (again : Bool) (w : WorldState) → pending (marked serial again w).store.kept ≤ pending w.store.kept
marked_most serial again w = by (again || not (is_flying serial w.store.kept))
  where
    by : (b : Bool) → pending (cond b w (record w { store = deliver_step w.store serial })).store.kept ≤ pending w.store.kept
    by true = omega arith
    by false = step_most w.store serial

pub marked_less : (serial : ℕ) (w : WorldState) (k : Kept) → found serial w.store.kept ≡ Some k → IsPending k → is_flying serial w.store.kept ≡ true → pending (marked serial false w).store.kept + 1 ≤ pending w.store.kept
marked_less serial w k e h f = by (is_flying serial w.store.kept) f
  where
    by : (b : Bool) → b ≡ true → pending (cond (false || not b) w (record w { store = deliver_step w.store serial })).store.kept + 1 ≤ pending w.store.kept
    by true g = step_less w.store serial k e h
    by false g = absurd (let no : false ≡ true = g in cc)
