-- What bytes are, as the layers below and the history read it.
use Rattle.std.specs.Prelude.{◌≡◌, ◌⊎◌, ℕ, ◌<◌, ◌&&◌, nat_eq, Bool, true, false, List, Option, Some, None, Result, Ok, Err, refl}
use Rattle.std.specs.List.{All}
use Rattle.std.proofs.Common.{arith, sym, ◌∙◌, ap, inl, inr, ⊎_elim}
use Rattle.async_packet.specs.declared.fault.PacketFault.{PacketFault}
use Rattle.async_packet.specs.declared.packet.Header.{Header}
use Rattle.async_packet.specs.Packet.{Packet, header_in, write_quadlet, write_block, write_response, read_quadlet, read_block, read_quadlet_response, read_block_response, lock, lock_response}
use Rattle.async_packet.specs.Reading.{reading}
use Rattle.async_packet.specs.Spells.{Spells}
use Rattle.async_packet.proofs.Headers.{header_spelled}
use Rattle.async_packet.proofs.Spelled.{reads_spelling}
use Rattle.label_table.specs.Requests.{reply_kind, kind_of, label_of, is_write}
use Rattle.label_table.proofs.Requests.{least_spelled}
use Rattle.label_table.proofs.Laws.{label_law}
use Rattle.packet_store.specs.declared.role.Role.{Role}
use Rattle.packet_store.specs.declared.role.Role.TheVariants as roles
use Rattle.packet_store.specs.declared.transaction.Transaction.{Transaction as Key}
use Rattle.packet_store.specs.Roles.{role_in, role_by, role_of}
use Rattle.packet_store.specs.Transactions.{transaction_by, begun_as}
use Rattle.packet_store.specs.Transactions as stored
use Rattle.sbp_journal.specs.Transactions.{Kind, writing, reading_quadlet, reading_block, locking, is_same_kind, Part, request, response, no_packet, part_in, part_by, part_of, is_to, is_to_by, Transaction, is_same, Sending, asked_as, asked_by, begun_if, begun_by, belongs_as, is_that, belongs}
use Rattle.bus_transactions.specs.Wire.{as_sent}
use Rattle.bus_transactions.specs.Rows.{kind_as}

-- ---- tests of transactions
pub same_refl : (t : Transaction) → is_same t t ≡ true
unfolding is_same
same_refl t = grind arith

abbrev made : ℕ → ℕ → ℕ → ℕ → Transaction
made g r p l = record { generation = g; requester = r; responder = p; label = l }

built : (t u : Transaction) → t.generation ≡ u.generation → t.requester ≡ u.requester → t.responder ≡ u.responder → t.label ≡ u.label → t ≡ u
built t u a b c d =
    ap (λ x. made x t.requester t.responder t.label) a
    ∙ ap (λ x. made u.generation x t.responder t.label) b
    ∙ ap (λ x. made u.generation u.requester x t.label) c
    ∙ ap (λ x. made u.generation u.requester u.responder x) d

pub same_is : (t u : Transaction) → is_same t u ≡ true → t ≡ u
unfolding is_same
same_is t u e = built t u (grind arith) (grind arith) (grind arith) (grind arith)

-- those of one requester in one generation are told apart by the responder and the label
pub same_asked : (g n p l q m : ℕ) → is_same (record { generation = g; requester = n; responder = p; label = l }) (record { generation = g; requester = n; responder = q; label = m }) ≡ (nat_eq p q && nat_eq l m)
unfolding is_same
same_asked g n p l q m = grind arith

pub same_heard : (g n p l q m : ℕ) → is_same (record { generation = g; requester = p; responder = n; label = l }) (record { generation = g; requester = q; responder = n; label = m }) ≡ (nat_eq p q && nat_eq l m)
unfolding is_same
same_heard g n p l q m = grind arith

pub other_requester : (t u : Transaction) → nat_eq t.requester u.requester ≡ false → is_same t u ≡ false
unfolding is_same
other_requester t u e = grind arith

pub other_responder : (t u : Transaction) → nat_eq t.responder u.responder ≡ false → is_same t u ≡ false
unfolding is_same
other_responder t u e = grind arith

-- ---- the store's words
abbrev pub key : Transaction → Key
key t = record { generation = t.generation; requester = t.requester; responder = t.responder; label = t.label }

abbrev pub key_in : Option Transaction → Option Key
key_in None = None
key_in (Some t) = Some (key t)

abbrev pub role_as : Part → Role
role_as (request label kind) = roles.Request label
role_as (response label kind) = roles.Response label
role_as no_packet = roles.NoPacket

role_packet : (p : Packet) → role_in p ≡ role_as (part_in p)
role_packet (write_quadlet header offset value) = refl
role_packet (write_block header offset payload) = refl
role_packet (write_response header rcode) = refl
role_packet (read_quadlet header offset) = refl
role_packet (read_block header offset asked) = refl
role_packet (read_quadlet_response header rcode value) = refl
role_packet (read_block_response header rcode payload) = refl
role_packet (lock header offset extended payload) = refl
role_packet (lock_response header rcode extended payload) = refl

role_read : (r : Result Packet PacketFault) → role_by r ≡ role_as (part_by r)
role_read (Ok p) = role_packet p
role_read (Err fault) = refl

role_is : (bytes : List ℕ) → role_of bytes ≡ role_as (part_of bytes)
unfolding role_of part_of
role_is bytes = role_read (reading bytes)

belongs_part : (part : Part) (injected : Bool) (q : Sending) → q.injected ≡ injected → transaction_by (role_as part) (as_sent q) ≡ key_in (belongs_as part q)
belongs_part (request label kind) true q e = rw e refl
belongs_part (request label kind) false q e = rw e refl
belongs_part (response label kind) injected q e = refl
belongs_part no_packet true q e = rw e refl
belongs_part no_packet false q e = rw e refl

store_belongs_to : (q : Sending) → stored.transaction_of (as_sent q) ≡ key_in (belongs_as (part_of q.bytes) q)
unfolding stored.transaction_of
store_belongs_to q = ap (λ role. transaction_by role (as_sent q)) (role_is q.bytes) ∙ belongs_part (part_of q.bytes) q.injected q refl

begun_part : (part : Part) (injected : Bool) (q : Sending) → q.injected ≡ injected → begun_as (role_as part) (key_in (belongs_as part q)) ≡ key_in (begun_if q.injected (asked_as part q))
begun_part (request label kind) injected q e = refl
begun_part (response label kind) true q e = rw e refl
begun_part (response label kind) false q e = rw e refl
begun_part no_packet true q e = rw e refl
begun_part no_packet false q e = rw e refl

pub store_begun : (q : Sending) → stored.begun_by (as_sent q) ≡ key_in (begun_by q)
unfolding stored.begun_by begun_by asked_by
store_begun q =
    ap (λ role. begun_as role (transaction_by role (as_sent q))) (role_is q.bytes)
    ∙ ap (begun_as (role_as (part_of q.bytes))) (belongs_part (part_of q.bytes) q.injected q refl)
    ∙ begun_part (part_of q.bytes) q.injected q refl

grouped : (a b c d : Bool) → (a && (b && (c && d))) ≡ ((a && b) && (c && d))
grouped true b c d = refl
grouped false b c d = refl

same_key : (t u : Transaction) → stored.is_same (key u) (key t) ≡ is_same u t
unfolding is_same
same_key t u = grouped (nat_eq u.generation t.generation) (nat_eq u.requester t.requester) (nat_eq u.responder t.responder) (nat_eq u.label t.label)

that_key : (u : Option Transaction) (t : Transaction) → stored.is_that (key t) (key_in u) ≡ is_that u t
that_key None t = refl
that_key (Some u) t = same_key t u

pub store_belongs : (t : Transaction) (q : Sending) → stored.belongs (key t) (as_sent q) ≡ belongs q t
unfolding stored.belongs belongs
store_belongs t q = ap (stored.is_that (key t)) (store_belongs_to q) ∙ that_key (belongs_as (part_of q.bytes) q) t

-- ---- the parts of packets
pub part_read : (bytes : List ℕ) (p : Packet) → reading bytes ≡ Ok p → part_of bytes ≡ part_in p
unfolding part_of
part_read bytes p e = ap part_by e

pub to_read : (bytes : List ℕ) (p : Packet) (id : ℕ) → reading bytes ≡ Ok p → is_to bytes id ≡ nat_eq (header_in p).destination id
unfolding is_to
to_read bytes p id e = ap (λ r. is_to_by r id) e

pub to_fault : (bytes : List ℕ) (f : PacketFault) (id : ℕ) → reading bytes ≡ Err f → is_to bytes id ≡ false
unfolding is_to
to_fault bytes f id e = ap (λ r. is_to_by r id) e

pub part_fault : (bytes : List ℕ) (f : PacketFault) → reading bytes ≡ Err f → part_of bytes ≡ no_packet
unfolding part_of
part_fault bytes f e = ap part_by e

-- what bytes of a part are
pub record Is (bytes : List ℕ) (part : Part) : Type 0 where
  pub packet : Packet
  pub read : reading bytes ≡ Ok packet
  pub spelled : Spells bytes packet
  pub is : part_in packet ≡ part

packet_of : (bytes : List ℕ) (part : Part) (r : Result Packet PacketFault) → reading bytes ≡ r → part_by r ≡ part → part_by r ≡ no_packet ⊎ Is bytes part
packet_of bytes part (Ok p) e i = inr (record { packet = p; read = e; spelled = (reads_spelling.packets bytes p).0 e; is = i })
packet_of bytes part (Err f) e i = inl refl

pub request_read : (bytes : List ℕ) (l : ℕ) (k : Kind) → part_of bytes ≡ request l k → Is bytes (request l k)
unfolding part_of
request_read bytes l k e = ⊎_elim (λ n. absurd (apart (sym n ∙ e))) (λ i. i) (packet_of bytes (request l k) (reading bytes) refl e)
  where
    apart : {l : ℕ} {k : Kind} → no_packet ≡ request l k → ⊥
    apart e = cc

-- a request's kind, its label, and that it is none of a response
pub record Asking (bytes : List ℕ) (p : Packet) (l : ℕ) (k : Kind) : Type 0 where
  pub kind : kind_of bytes ≡ kind_as k
  pub label : (header_in p).label ≡ l
  pub asks : reply_kind p ≡ None
  pub writes : is_write bytes ≡ is_same_kind k writing

asking_by : (bytes : List ℕ) (p : Packet) (l : ℕ) (k : Kind) → Spells bytes p → part_in p ≡ request l k → Asking bytes p l k
unfolding kind_of is_write
asking_by bytes (write_quadlet header offset value) l k s e = let i : k ≡ writing = cc in record { kind = rw (s.0.kind, i) refl; label = cc; asks = refl; writes = rw (s.0.kind, i) refl }
asking_by bytes (write_block header offset payload) l k s e = let i : k ≡ writing = cc in record { kind = rw (s.0.kind, i) refl; label = cc; asks = refl; writes = rw (s.0.kind, i) refl }
asking_by bytes (write_response header rcode) l k s e = cc
asking_by bytes (read_quadlet header offset) l k s e = let i : k ≡ reading_quadlet = cc in record { kind = rw (s.0.kind, i) refl; label = cc; asks = refl; writes = rw (s.0.kind, i) refl }
asking_by bytes (read_block header offset asked) l k s e = let i : k ≡ reading_block = cc in record { kind = rw (s.0.kind, i) refl; label = cc; asks = refl; writes = rw (s.0.kind, i) refl }
asking_by bytes (read_quadlet_response header rcode value) l k s e = cc
asking_by bytes (read_block_response header rcode payload) l k s e = cc
asking_by bytes (lock header offset extended payload) l k s e = let i : k ≡ locking = cc in record { kind = rw (s.0.kind, i) refl; label = cc; asks = refl; writes = rw (s.0.kind, i) refl }
asking_by bytes (lock_response header rcode extended payload) l k s e = cc

pub asking_read : (bytes : List ℕ) (p : Packet) (l : ℕ) (k : Kind) → reading bytes ≡ Ok p → part_in p ≡ request l k → Asking bytes p l k
asking_read bytes p l k e i = asking_by bytes p l k ((reads_spelling.packets bytes p).0 e) i

-- a response's kind and label
pub record Answering (bytes : List ℕ) (p : Packet) (l : ℕ) (k : Kind) : Type 0 where
  pub kind : reply_kind p ≡ Some (kind_as k)
  pub label : (header_in p).label ≡ l
  pub no_write : is_write bytes ≡ false

answering_by : (bytes : List ℕ) (p : Packet) (l : ℕ) (k : Kind) → Spells bytes p → part_in p ≡ response l k → Answering bytes p l k
unfolding is_write
answering_by bytes (write_quadlet header offset value) l k s e = cc
answering_by bytes (write_block header offset payload) l k s e = cc
answering_by bytes (write_response header rcode) l k s e = let i : k ≡ writing = cc in record { kind = rw i refl; label = cc; no_write = rw s.0.kind refl }
answering_by bytes (read_quadlet header offset) l k s e = cc
answering_by bytes (read_block header offset asked) l k s e = cc
answering_by bytes (read_quadlet_response header rcode value) l k s e = let i : k ≡ reading_quadlet = cc in record { kind = rw i refl; label = cc; no_write = rw s.0.kind refl }
answering_by bytes (read_block_response header rcode payload) l k s e = let i : k ≡ reading_block = cc in record { kind = rw i refl; label = cc; no_write = rw s.0.kind refl }
answering_by bytes (lock header offset extended payload) l k s e = cc
answering_by bytes (lock_response header rcode extended payload) l k s e = let i : k ≡ locking = cc in record { kind = rw i refl; label = cc; no_write = rw s.0.kind refl }

pub answering_read : (bytes : List ℕ) (p : Packet) (l : ℕ) (k : Kind) → reading bytes ≡ Ok p → part_in p ≡ response l k → Answering bytes p l k
answering_read bytes p l k e i = answering_by bytes p l k ((reads_spelling.packets bytes p).0 e) i

-- a packet is a request or a response
pub data PartOf (p : Packet) : Type 0 where
  asks : (l : ℕ) (k : Kind) → part_in p ≡ request l k → reply_kind p ≡ None → PartOf p
  replies : (l : ℕ) (k : Kind) → part_in p ≡ response l k → reply_kind p ≡ Some (kind_as k) → PartOf p

pub part_case : (p : Packet) → PartOf p
part_case (write_quadlet header offset value) = asks _ _ refl refl
part_case (write_block header offset payload) = asks _ _ refl refl
part_case (write_response header rcode) = replies _ _ refl refl
part_case (read_quadlet header offset) = asks _ _ refl refl
part_case (read_block header offset asked) = asks _ _ refl refl
part_case (read_quadlet_response header rcode value) = replies _ _ refl refl
part_case (read_block_response header rcode payload) = replies _ _ refl refl
part_case (lock header offset extended payload) = asks _ _ refl refl
part_case (lock_response header rcode extended payload) = replies _ _ refl refl

-- the label that the tables read in bytes is that of the header
pub label_read : (bytes : List ℕ) (p : Packet) → All (λ byte. byte < 256) bytes → reading bytes ≡ Ok p → label_of bytes ≡ (header_in p).label
label_read bytes p all e =
    let s = (reads_spelling.packets bytes p).0 e in
    label_law bytes all (least_spelled bytes p s) ∙ ap (λ (h : Header). h.label) (sym (header_spelled bytes p s))

-- bytes are one packet
packet_or : Packet → Result Packet PacketFault → Packet
packet_or d (Ok p) = p
packet_or d (Err fault) = d

pub read_once : (bytes : List ℕ) (p q : Packet) → reading bytes ≡ Ok p → reading bytes ≡ Ok q → p ≡ q
unfolding packet_or
read_once bytes p q e f = ap (packet_or p) (sym e ∙ f)
