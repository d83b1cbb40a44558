-- What notes make of an initiator's operation under way and of the latest requests under its labels: only its own requests change a label's, and only they make a request the latest one of
-- an operation; each other note leaves the operation, or ends it.
use Rattle.std.proofs.Common.{arith, ◌≡◌, ◌∙◌, inl, inr, ◌⊎◌, refl, sym, ap, ℕ, zero, suc, ◌+◌, ◌*◌, ◌^◌, ◌<◌, ◌==◌, ◌&&◌, nat_eq, not, Bool, true, false, cond, List, [], ◌∷◌, ◌++◌, map, Option, Some, None}
use Rattle.async_packet.specs.Canon.{canon, four, three}
use Rattle.async_packet.specs.Faults.{fault_of}
use Rattle.async_packet.specs.Fields.{rcode_of, tcode_of}
use Rattle.async_packet.specs.Packet.{Packet, lock, lock_response, read_block, read_block_response, read_quadlet, read_quadlet_response, write_block, write_quadlet, write_response}
use Rattle.async_packet.specs.Reading.{packet_in, reading, unless_fault}
use Rattle.async_packet.specs.declared.fault.PacketFault.{PacketFault}
use Rattle.bus_transactions.specs.Rows.{awaits, kind_as, shape_of}
use Rattle.bus_transactions.specs.Wire.{transaction}
use Rattle.bus_transactions.proofs.Facts.{none_begun}
use Rattle.bus_transactions.proofs.PacketParts.{same_is}
use Rattle.byteorder.specs.Endian.{big_bytes}
use Rattle.label_table.specs.Bodies.{response_to}
use Rattle.label_table.specs.declared.reply.ReplyKind.{ReplyKind}
use Rattle.sbp_journal.specs.Run.{Moment, asked, said}
use Rattle.sbp_journal.specs.Transactions.{Kind, Part, Sending, Transaction, asked_as, asked_by, begun_by, between, is_same, is_same_kind, no_packet, part_by, part_in, part_of, request, response}
use Rattle.sbp_journal.specs.Wire.{Held, Owed, Terms, arrives, asked_in, begins, closes, closes_if, free, gets, gets_as, gives, ignores, ignores_that, is_news, is_served, judges, judges_if, noted, opened, pays, puts, rests, sends, terms, times_out, waits}
use Rattle.sbp_journal.specs.declared.cause.Cause.{Cause}
use Rattle.sbp_journal.specs.declared.cause.Cause.TheVariants as causes
use Rattle.sbp_journal.specs.declared.event.Event.{Event}
use Rattle.sbp_journal.specs.declared.event.Event.TheVariants as events
use Rattle.sbp_journal.specs.declared.note.Note.{Note}
use Rattle.sbp_journal.specs.declared.note.Note.TheVariants as notes
use Rattle.sbp_journal.specs.declared.operation.Operation.{Operation}
use Rattle.sbp_journal.specs.declared.operation.Operation.TheVariants as operations
use Rattle.sbp_journal.specs.declared.operation.OpWord.{OpWord}
use Rattle.sbp_laws.specs.Hosts.{Host, Underway, goes_on, got_by, host_at, is_serial, known_host, list_begins, op_ended, reset_seen, sent_as, sent_in}
use Rattle.sbp_laws.specs.Lists.{present_list}
use Rattle.sbp_laws.specs.Packets.{answered_at, receiver_in, sender_in}
use Rattle.sbp_laws.specs.Turns.{event_of}
use Rattle.sbp_world.proofs.Common.{none_is, same_number, untrue, turned}
use Rattle.sbp_world.proofs.Hosts.Carries.{IsNoAct}
use Rattle.sbp_world.proofs.Hosts.Cores.{wire_is}
use Rattle.sbp_world.proofs.Hosts.Held.{got_waits, ignored_quiet, sent_apart, timed_waits}
use Rattle.sbp_world.proofs.Hosts.Mild.{quad_tcode}
use Rattle.sbp_world.proofs.Lists.BegunBy.{transaction_of}
use Rattle.sbp_world.proofs.Lists.FedHeld.{same_self}
use Rattle.turn_laws.proofs.Handed.{onto}
use Rattle.sbp_world.proofs.Lists.ManageFirsts.{got_operation}
use Rattle.sbp_world.proofs.Pointers.Sending.{off as and_off}

-- ---- a response is no request, by its tcode
abbrev pub is_asking : Part → Bool
is_asking (request label kind) = true
is_asking part = false

abbrev pub IsReply : List ℕ → Type 0
IsReply bytes = is_asking (part_of bytes) ≡ false

abbrev Replies : Packet → Type 0
Replies p = is_asking (part_in p) ≡ false

other_packet : (b : Bool) (p q : Packet) → b ≡ false → Replies q → Replies (cond b p q)
other_packet true p q e h = untrue (sym e)
other_packet false p q e h = h

pick_packet : (b : Bool) (p q : Packet) → Replies p → Replies q → Replies (cond b p q)
pick_packet true p q h k = h
pick_packet false p q h k = k

abbrev IsReplyCode : ℕ → Type 0
IsReplyCode code = (nat_eq code 0 ≡ false) × ((nat_eq code 1 ≡ false) × ((nat_eq code 4 ≡ false) × ((nat_eq code 5 ≡ false) × (nat_eq code 9 ≡ false))))

code_replies : (bytes : List ℕ) (code : ℕ) → tcode_of bytes ≡ code → IsReplyCode code → IsReply bytes
unfolding part_of reading
code_replies bytes code e c = by (fault_of bytes)
  where
    tested : (k : ℕ) → nat_eq code k ≡ false → nat_eq (tcode_of bytes) k ≡ false
    tested k f = ap (λ n. nat_eq n k) e ∙ f

    by : (fault : Option PacketFault) → is_asking (part_by (unless_fault fault (packet_in bytes (tcode_of bytes)))) ≡ false
    by (Some fault) = refl
    by None =
        other_packet (nat_eq (tcode_of bytes) 0) _ _ (tested 0 c.0)
        (other_packet (nat_eq (tcode_of bytes) 1) _ _ (tested 1 c.1.0)
        (pick_packet (nat_eq (tcode_of bytes) 2) _ _ refl
        (other_packet (nat_eq (tcode_of bytes) 4) _ _ (tested 4 c.1.1.0)
        (other_packet (nat_eq (tcode_of bytes) 5) _ _ (tested 5 c.1.1.1.0)
        (pick_packet (nat_eq (tcode_of bytes) 6) _ _ refl
        (pick_packet (nat_eq (tcode_of bytes) 7) _ _ refl
        (other_packet (nat_eq (tcode_of bytes) 9) _ _ (tested 9 c.1.1.1.1) refl)))))))

coded : (peer label tcode : ℕ) (bytes rest : List ℕ) → tcode < 16 → IsReplyCode tcode → bytes ≡ big_bytes 4 (peer * 2 ^ 16 + label * 2 ^ 10 + 1 * 2 ^ 8 + tcode * 2 ^ 4 + 0) ++ rest → IsReply bytes
coded peer label tcode bytes rest small c e = code_replies bytes tcode (quad_tcode peer label tcode bytes rest small e) c

abbrev plain : IsReplyCode 2
plain = (refl, (refl, (refl, (refl, refl))))

pub response_replies : (node : ℕ) (p : Packet) (rcode : ℕ) (given : List ℕ) → IsReply (canon (response_to node p rcode given))
unfolding three four
response_replies node (read_quadlet header offset) rcode given = coded header.source header.label 6 (canon (response_to node (read_quadlet header offset) rcode given)) _ (omega arith) (refl, (refl, (refl, (refl, refl)))) refl
response_replies node (read_block header offset count) rcode given = coded header.source header.label 7 (canon (response_to node (read_block header offset count) rcode given)) _ (omega arith) (refl, (refl, (refl, (refl, refl)))) refl
response_replies node (lock header offset extended payload) rcode given = coded header.source header.label 11 (canon (response_to node (lock header offset extended payload) rcode given)) _ (omega arith) (refl, (refl, (refl, (refl, refl)))) refl
response_replies node (write_quadlet header offset value) rcode given = coded header.source header.label 2 (canon (response_to node (write_quadlet header offset value) rcode given)) _ (omega arith) plain refl
response_replies node (write_block header offset payload) rcode given = coded header.source header.label 2 (canon (response_to node (write_block header offset payload) rcode given)) _ (omega arith) plain refl
response_replies node (write_response header code) rcode given = coded header.source header.label 2 (canon (response_to node (write_response header code) rcode given)) _ (omega arith) plain refl
response_replies node (read_quadlet_response header code value) rcode given = coded header.source header.label 2 (canon (response_to node (read_quadlet_response header code value) rcode given)) _ (omega arith) plain refl
response_replies node (read_block_response header code payload) rcode given = coded header.source header.label 2 (canon (response_to node (read_block_response header code payload) rcode given)) _ (omega arith) plain refl
response_replies node (lock_response header code extended payload) rcode given = coded header.source header.label 2 (canon (response_to node (lock_response header code extended payload) rcode given)) _ (omega arith) plain refl

-- ---- the latest request under a label
judges_current : (u : Option Transaction) (cause : Option Cause) (s : ℕ) (q : Sending) (t : Terms) → (judges u cause s q t).current ≡ t.current
judges_current None cause s q t = refl
judges_current (Some u) cause s q t = refl

closed_current : (b : Bool) (s : ℕ) (u : Transaction) (rcode : ℕ) (t : Terms) → (closes_if b s u rcode t).current ≡ t.current
closed_current true s u rcode t = refl
closed_current false s u rcode t = refl

closes_current : (h : Held) (u : Transaction) (kind : Kind) (rcode : ℕ) (t : Terms) → (closes h u kind rcode t).current ≡ t.current
closes_current free u kind rcode t = refl
closes_current rests u kind rcode t = refl
closes_current (waits own s) u kind rcode t = closed_current (is_same_kind own kind) s u rcode t

gets_as_current : (part : Part) (s : ℕ) (q : Sending) (t : Terms) → (gets_as part s q t).current ≡ t.current
gets_as_current (request label kind) s q t = judges_current (asked_by q) None s q t
gets_as_current (response label kind) s q t = let u = between q q.to q.from label in closes_current (t.held u) u kind (rcode_of q.bytes) t
gets_as_current no_packet s q t = refl

gets_current : (q : Option Sending) (s : ℕ) (t : Terms) → (gets q s t).current ≡ t.current
gets_current None s t = refl
gets_current (Some q) s t = gets_as_current (part_of q.bytes) s q (is_served s (is_news s (arrives s t)))

judged_if : (b : Bool) (u : Option Transaction) (s : ℕ) (q : Sending) (t : Terms) → (judges_if b u s q t).current ≡ t.current
judged_if true u s q t = judges_current u (Some causes.Grammar) s q t
judged_if false u s q t = refl

ignores_current : (cause : Cause) (s : ℕ) (q : Sending) (t : Terms) → (ignores cause s q t).current ≡ t.current
ignores_current causes.Generation s q t = refl
ignores_current causes.Grammar s q t = judged_if _ _ s q (is_news s t)
ignores_current causes.Label s q t = refl
ignores_current causes.Again s q t = judges_current _ (Some causes.Again) s q t
ignores_current causes.Source s q t = judges_current _ (Some causes.Source) s q (is_news s t)
ignores_current causes.Login s q t = judges_current _ (Some causes.Login) s q (is_news s t)
ignores_current causes.Slot s q t = judges_current _ (Some causes.Slot) s q (is_served s (is_news s t))

ignored_current : (q : Option Sending) (cause : Cause) (s : ℕ) (t : Terms) → (ignores_that q cause s t).current ≡ t.current
ignored_current None cause s t = refl
ignored_current (Some q) cause s t = ignores_current cause s q (arrives s t)

late_current : (u : Option Transaction) (t : Terms) → (times_out u t).current ≡ t.current
late_current None t = refl
late_current (Some u) t = refl

pays_current : (owed : Option Owed) (sent : ℕ → Option Sending) (s : ℕ) (q : Sending) (t : Terms) → (pays owed sent s q t).current ≡ t.current
pays_current None sent s q t = refl
pays_current (Some owed) sent s q t = by (asked_in (sent owed.serial))
  where
    by : (u : Option Transaction) → (gives u (rcode_of q.bytes) t).current ≡ t.current
    by None = refl
    by (Some u) = refl

begins_current : (u : Option Transaction) (s : ℕ) (q : Sending) (t : Terms) (v : Transaction) → ((w : Transaction) → u ≡ Some w → is_same v w ≡ false) → (begins u s q t).current v ≡ t.current v
begins_current None s q t v f = refl
begins_current (Some w) s q t v f = ap (λ b. cond b s (t.current v)) (f w refl)

pub sent_current : (s : ℕ) (q : Sending) (t : Terms) (v : Transaction) → ((w : Transaction) → begun_by q ≡ Some w → is_same v w ≡ false) → (sends s q t).current v ≡ t.current v
sent_current s q t v f =
    ap (λ (c : Transaction → ℕ). c v) (pays_current t.owes t.sent s q (begins (begun_by q) s q (puts (begun_by q) s q t)))
    ∙ begins_current (begun_by q) s q (puts (begun_by q) s q t) v f

-- and where it begins this one
pub begun_current : (s : ℕ) (q : Sending) (t : Terms) (v : Transaction) → begun_by q ≡ Some v → (sends s q t).current v ≡ s
begun_current s q t v e =
    ap (λ (c : Transaction → ℕ). c v) (pays_current t.owes t.sent s q (begins (begun_by q) s q (puts (begun_by q) s q t)))
    ∙ (ap (λ u. (begins u s q (puts (begun_by q) s q t)).current v) e ∙ ap (λ b. cond b s (t.current v)) (same_self v))

-- ---- a note that is no packet of an initiator
abbrev pub is_mine : ℕ → Note → Bool
is_mine i (notes.Begin initiators ready) = true
is_mine i (notes.Sent serial generation from to bytes) = from == suc i
is_mine i note = false

abbrev mine_of : (g i n : ℕ) → Transaction
mine_of g i n = transaction g (suc i) 0 n

apart_requester : (g i n : ℕ) (packet : Sending) → (packet.from == suc i) ≡ false → (w : Transaction) → begun_by packet ≡ Some w → is_same (mine_of g i n) w ≡ false
apart_requester g i n packet away w e = by (is_same (mine_of g i n) w) refl
  where
    by : (b : Bool) → is_same (mine_of g i n) w ≡ b → is_same (mine_of g i n) w ≡ false
    by false f = f
    by true f =
        let same : suc i ≡ packet.from = ap (λ (y : Transaction). y.requester) (same_is (mine_of g i n) w f) ∙ (transaction_of packet w e).requester in
        untrue (sym away ∙ ap (λ m. m == suc i) (sym same) ∙ same_number (suc i))

note_current : (note : Note) (t : Terms) (g i n : ℕ) → is_mine i note ≡ false → (noted note t).current (mine_of g i n) ≡ t.current (mine_of g i n)
note_current (notes.Sent serial generation from to bytes) t g i n e =
    let packet : Sending = record { generation = generation; from = from; to = to; bytes = bytes; injected = t.injected serial } in
    sent_current serial packet t (mine_of g i n) (apart_requester g i n packet e)
note_current (notes.Got s) t g i n e = ap (λ (c : Transaction → ℕ). c (mine_of g i n)) (gets_current (t.sent s) s t)
note_current (notes.Ignored s cause) t g i n e = ap (λ (c : Transaction → ℕ). c (mine_of g i n)) (ignored_current (t.sent s) cause s t)
note_current (notes.TimedOut s) t g i n e = ap (λ (c : Transaction → ℕ). c (mine_of g i n)) (late_current _ t)
note_current note t g i n e = refl

-- what waits then under a label of the initiator waited before
abbrev pub Waited : Terms → Terms → (g i n : ℕ) → Type 0
Waited old new g i n = (kind : Kind) (serial : ℕ) → new.held (mine_of g i n) ≡ waits kind serial → old.held (mine_of g i n) ≡ waits kind serial

awaits_still : (old new : Held) (kind : Kind) (serial : ℕ) → ((k : ReplyKind) → shape_of new ≡ awaits k → new ≡ old) → new ≡ waits kind serial → old ≡ waits kind serial
awaits_still old new kind serial f e = sym (f (kind_as kind) (ap shape_of e)) ∙ e

note_waits : (note : Note) (t : Terms) (g i n : ℕ) → is_mine i note ≡ false → Waited t (noted note t) g i n
note_waits (notes.Sent serial generation from to bytes) t g i n e kind s w =
    let packet : Sending = record { generation = generation; from = from; to = to; bytes = bytes; injected = t.injected serial } in
    sym (sent_apart serial packet t (mine_of g i n) (apart_requester g i n packet e)) ∙ w
note_waits (notes.Got s) t g i n e kind serial w = awaits_still _ _ kind serial (got_waits (t.sent s) s t (mine_of g i n)) w
note_waits (notes.Ignored s cause) t g i n e kind serial w = ap (λ (h : Transaction → Held). h (mine_of g i n)) (sym (ignored_quiet (t.sent s) cause s t).held) ∙ w
note_waits (notes.TimedOut s) t g i n e kind serial w = awaits_still _ _ kind serial (timed_waits (t.sent s) t (mine_of g i n)) w
note_waits note t g i n e kind serial w = w

-- ---- the operation under way
abbrev pub Stays : Host → Host → Type 0
Stays old new = (new.operation ≡ old.operation) ⊎ (new.operation ≡ None)

picks : (b : Bool) (old x : Host) → Stays old x → Stays old (cond b x old)
picks true old x h = h
picks false old x h = inl refl

list_stays : (k : ℕ) (host : Host) → Stays host (list_begins k host)
list_stays zero host = inl refl
list_stays (suc k) host = inl refl

ended_stays : (operation : Operation) (word : OpWord) (host : Host) → Stays host (op_ended operation word host)
ended_stays operations.State word host = inl refl
ended_stays operations.Rom word host = inr refl
ended_stays operations.Login word host = inr refl
ended_stays operations.Query word host = inr refl
ended_stays operations.Reconnect word host = inr refl
ended_stays operations.Logout word host = inr refl
ended_stays operations.Abort word host = inr refl
ended_stays operations.AbortSet word host = inr refl
ended_stays operations.UnitReset word host = inr refl
ended_stays operations.TargetReset word host = inr refl
ended_stays operations.AgentReset word host = inr refl
ended_stays operations.Enable word host = inr refl

seen_stays : (b : Bool) (host : Host) → Stays host (reset_seen b host)
seen_stays true host = inr refl
seen_stays false host = inl refl

off : (b : Bool) (old x : Host) → b ≡ false → Stays old (cond b x old)
off true old x e = untrue (sym e)
off false old x e = inl refl

note_stays : (note : Note) (past : List Moment) (i : ℕ) → is_mine i note ≡ false → Stays (host_at past i) (host_at (said note ∷ past) i)
note_stays (notes.Begin initiators ready) past i e = untrue (sym e)
note_stays (notes.Sent serial generation from to bytes) past i e =
    off ((nat_eq from (suc i)) && not ((known_host past i).wire.injected serial)) (host_at past i) _ (and_off (nat_eq from (suc i)) _ e)
note_stays (notes.Append j n k cdb buffer) past i e = picks (nat_eq j i) (host_at past i) (list_begins k (host_at past i)) (list_stays k (host_at past i))
note_stays (notes.Got serial) past i e =
    let t = (known_host past i).wire in
    picks (is_serial (receiver_in (t.sent serial)) (suc i)) (host_at past i) (got_by (answered_at t serial) t serial (present_list past i) (host_at past i))
    (inl (got_operation (answered_at t serial) t serial (present_list past i) (host_at past i)))
note_stays (notes.TimedOut serial) past i e = picks (is_serial (sender_in ((known_host past i).wire.sent serial)) (suc i)) (host_at past i) _ (inl refl)
note_stays (notes.Taken j n k status answer) past i e = picks (nat_eq j i) (host_at past i) _ (inl refl)
note_stays (notes.Drop j n) past i e = picks (nat_eq j i) (host_at past i) (list_begins zero (host_at past i)) (list_stays zero (host_at past i))
note_stays (notes.Op j operation word) past i e = picks (nat_eq j i) (host_at past i) (op_ended operation word (host_at past i)) (ended_stays operation word (host_at past i))
note_stays (notes.Stuck j) past i e = picks (nat_eq j i) (host_at past i) _ (inl refl)
note_stays (notes.Seen node generation) past i e = picks (nat_eq node (suc i)) (host_at past i) _ (seen_stays _ (host_at past i))
note_stays _ past i e = inl refl

-- ---- both, over notes
pub record Keeps (i : ℕ) (past now : List Moment) : Type 0 where
  pub current : (g n : ℕ) → (terms now).current (transaction g (suc i) 0 n) ≡ (terms past).current (transaction g (suc i) 0 n)
  pub waited : (g n : ℕ) → Waited (terms past) (terms now) g i n
  pub operation : Stays (host_at past i) (host_at now i)

pub keeps_self : (i : ℕ) (past : List Moment) → Keeps i past past
keeps_self i past = record { current = λ g n. refl; waited = λ g n k s w. w; operation = inl refl }

stays_then : (a b c : Host) → Stays a b → Stays b c → Stays a c
stays_then a b c (inl e) (inl f) = inl (f ∙ e)
stays_then a b c (inr e) (inl f) = inr (f ∙ e)
stays_then a b c x (inr f) = inr f

pub keeps_then : (i : ℕ) (a b c : List Moment) → Keeps i a b → Keeps i b c → Keeps i a c
keeps_then i a b c x y = record { current = λ g n. y.current g n ∙ x.current g n; waited = λ g n k s w. x.waited g n k s (y.waited g n k s w); operation = stays_then (host_at a i) (host_at b i) (host_at c i) x.operation y.operation }

pub keeps_note : (i : ℕ) (note : Note) (past : List Moment) → is_mine i note ≡ false → Keeps i past (said note ∷ past)
keeps_note i note past e = record { current = λ g n. note_current note (terms past) g i n e; waited = λ g n. note_waits note (terms past) g i n e; operation = note_stays note past i e }

pub keeps_line : (i line : ℕ) (event : Event) (past : List Moment) → Keeps i past (asked line event ∷ past)
keeps_line i line event past = record { current = λ g n. ap (λ (c : Transaction → ℕ). c (mine_of g i n)) (by event); waited = λ g n k s w. ap (λ (h : Transaction → Held). h (mine_of g i n)) (sym (held event)) ∙ w; operation = inl refl }
  where
    held : (event : Event) → (opened event (terms past)).held ≡ (terms past).held
    held (events.Reset physical) = refl
    held (events.Repeat s) = refl
    held event = refl

    by : (event : Event) → (opened event (terms past)).current ≡ (terms past).current
    by (events.Reset physical) = refl
    by (events.Repeat s) = refl
    by event = refl

abbrev pub NoneMine : ℕ → List Note → Type 0
NoneMine i [] = Unit {0}
NoneMine i (note ∷ rest) = (is_mine i note ≡ false) × NoneMine i rest

pub none_both : (i : ℕ) (a b : List Note) → NoneMine i a → NoneMine i b → NoneMine i (a ++ b)
none_both i [] b h k = k
none_both i (note ∷ a) b h k = (h.0, none_both i a b h.1 k)

pub keeps_rest : (i : ℕ) (rest old : List Note) (past : List Moment) → NoneMine i rest → Keeps i (map said old ++ past) (map said (onto rest old) ++ past)
keeps_rest i [] old past h = keeps_self i (map said old ++ past)
keeps_rest i (note ∷ rest) old past h =
    keeps_then i (map said old ++ past) (map said (note ∷ old) ++ past) (map said (onto rest (note ∷ old)) ++ past) (keeps_note i note (map said old ++ past) h.0) (keeps_rest i rest (note ∷ old) past h.1)

-- ---- a packet of an initiator
asked_none : (part : Part) → is_asking part ≡ false → (q : Sending) → asked_as part q ≡ None
asked_none (request label kind) e q = untrue (sym e)
asked_none (response label kind) e q = refl
asked_none no_packet e q = refl

reply_asked : (q : Sending) → IsReply q.bytes → asked_by q ≡ None
unfolding asked_by
reply_asked q e = asked_none (part_of q.bytes) e q

-- a response of it
pub keeps_reply : (i serial generation to : ℕ) (bytes : List ℕ) (past : List Moment) → IsReply bytes → Keeps i past (said (notes.Sent serial generation (suc i) to bytes) ∷ past)
keeps_reply i serial generation to bytes past reply = record {
  current = λ g n. sent_current serial packet (terms past) (mine_of g i n) (λ w e. none_is w (sym none ∙ e));
  waited = λ g n k s w. sym (sent_apart serial packet (terms past) (mine_of g i n) (λ v e. none_is v (sym none ∙ e))) ∙ w;
  operation = picks ((nat_eq (suc i) (suc i)) && not ((known_host past i).wire.injected serial)) (host_at past i) _ (inl (by (part_of bytes) reply));
}
  where
    packet : Sending
    packet = record { generation = generation; from = suc i; to = to; bytes = bytes; injected = (terms past).injected serial }

    none : begun_by packet ≡ None
    none = none_begun packet (reply_asked packet reply)

    by : (part : Part) → is_asking part ≡ false → (sent_as part (event_of past) i (present_list past i) serial (host_at past i)).operation ≡ (host_at past i).operation
    by (request label kind) e = untrue (sym e)
    by (response label kind) e = refl
    by no_packet e = refl

-- a request, in a line that is no action of it: it is the latest of an operation
goes_latest : (found : Option Underway) (serial : ℕ) (host : Host) → host.operation ≡ found → (u : Underway) → (goes_on found serial host).operation ≡ Some u → u.latest ≡ serial
goes_latest None serial host e u f = none_is u (sym e ∙ f)
goes_latest (Some underway) serial host e u f = ap latest_in (sym f)
  where
    latest_in : Option Underway → ℕ
    latest_in None = serial
    latest_in (Some x) = x.latest

acts_not : (b : Bool) (x y : Host) → b ≡ false → cond b x y ≡ y
acts_not true x y e = untrue (sym e)
acts_not false x y e = refl

no_act : (event : Option Event) (i : ℕ) (list : Option ℕ) (serial : ℕ) (host : Host) → IsNoAct i event → sent_in event i list serial host ≡ goes_on host.operation serial host
no_act None i list serial host n = refl
no_act (Some (events.Act j action)) i list serial host n = acts_not (nat_eq j i) _ _ (turned i j n)
no_act (Some (events.Begin initiators ready)) i list serial host n = refl
no_act (Some (events.Reset physical)) i list serial host n = refl
no_act (Some (events.See node)) i list serial host n = refl
no_act (Some (events.Deliver packet)) i list serial host n = refl
no_act (Some (events.Repeat packet)) i list serial host n = refl
no_act (Some (events.Lose packet)) i list serial host n = refl
no_act (Some (events.Timeout packet)) i list serial host n = refl
no_act (Some (events.Step count)) i list serial host n = refl
no_act (Some events.Settle) i list serial host n = refl
no_act (Some events.Tick) i list serial host n = refl
no_act (Some (events.Inject initiator bytes)) i list serial host n = refl
no_act (Some (events.Key unit key)) i list serial host n = refl

pub asked_latest : (i serial generation to label : ℕ) (kind : Kind) (bytes : List ℕ) (past : List Moment) → part_of bytes ≡ request label kind → (terms past).injected serial ≡ false → IsNoAct i (event_of past)
    → (u : Underway) → (host_at (said (notes.Sent serial generation (suc i) to bytes) ∷ past) i).operation ≡ Some u → u.latest ≡ serial
asked_latest i serial generation to label kind bytes past part honest n u e = goes_latest host.operation serial host refl u (sym (ap (λ (h : Host). h.operation) is) ∙ e)
  where
    host : Host
    host = host_at past i

    own : (known_host past i).wire.injected serial ≡ false
    own = ap (λ (t : Terms). t.injected serial) (wire_is past i) ∙ honest

    so : (b : Bool) (x y : Host) → b ≡ true → cond b x y ≡ x
    so true x y f = refl
    so false x y f = untrue f

    is : host_at (said (notes.Sent serial generation (suc i) to bytes) ∷ past) i ≡ goes_on host.operation serial host
    is =
        so ((nat_eq (suc i) (suc i)) && not ((known_host past i).wire.injected serial)) (sent_as (part_of bytes) (event_of past) i (present_list past i) serial host) host
        (ap (λ b. b && not ((known_host past i).wire.injected serial)) (same_number (suc i)) ∙ ap not own)
        ∙ (ap (λ x. sent_as x (event_of past) i (present_list past i) serial host) part ∙ no_act (event_of past) i (present_list past i) serial host n)
