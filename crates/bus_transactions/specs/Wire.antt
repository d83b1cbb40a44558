-- The bus with the transaction layers of its nodes, whatever the nodes do (IEEE 1394-1995): the store of packets, each node's layer, the
-- bus generation with its IDs, the request that is to be answered, and the history. Nodes are numbered as in notes.
use Rattle.std.specs.Prelude.{ℕ, ◌+◌, ◌==◌, Bool, true, false, List, [], ◌∷◌, Option, Some, None}
use Rattle.async_packet.specs.Packet.{Packet}
use Rattle.label_table.specs.Layer.{Layer, Finding, of_generation, of_grammar, of_label, of_response, of_again, of_request, new_layer}
use Rattle.packet_store.specs.declared.sent.Sent.{Sent}
use Rattle.packet_store.specs.Stored.{Stored, empty, send_step}
use Rattle.sbp_journal.specs.Run.{Moment, said}
use Rattle.sbp_journal.specs.Transactions.{Sending, Transaction}
use Rattle.sbp_journal.specs.Wire.{terms, local_id}
use Rattle.sbp_journal.specs.declared.cause.Cause.{Cause}
use Rattle.sbp_journal.specs.declared.cause.Cause.TheVariants as causes
use Rattle.sbp_journal.specs.declared.note.Note.{Note}
use Rattle.sbp_journal.specs.declared.note.Note.TheVariants as notes

-- a node's transaction layer, without what its transactions are for
abbrev pub Node : Type 0
Node = Layer (Unit {0})

-- how a judged request is answered: as the first time, or as the node decides, which took it or ignored it for a cause
pub data Reply : Type 0 where
  as_before : (rcode : ℕ) → Reply
  as_decided : Option Cause → Reply

-- The rcodes that answer a request that is ignored for a cause: 0 complete, 5 data_error, 7 address_error; and as the first time where it
-- comes again. A request that is got is answered as its receiver decides.
abbrev pub is_stated : Option Cause → (given rcode : ℕ) → Bool
is_stated None given rcode = true
is_stated (Some causes.Slot) given rcode = rcode == 0
is_stated (Some causes.Grammar) given rcode = rcode == 5
is_stated (Some causes.Source) given rcode = rcode == 7
is_stated (Some causes.Login) given rcode = rcode == 7
is_stated (Some causes.Again) given rcode = rcode == given
is_stated (Some _) given rcode = false

abbrev pub is_reply : Reply → (rcode : ℕ) → Bool
is_reply (as_before before) rcode = is_stated (Some causes.Again) before rcode
is_reply (as_decided cause) rcode = is_stated cause 0 rcode

-- a request that its receiver has judged and not answered yet
pub record Due : Type 0 where
  pub serial : ℕ
  pub request : Sending
  pub packet : Packet
  pub reply : Reply

pub record Wire : Type 0 where
  pub store : Stored
  pub layer : ℕ → Node
  pub bus : ℕ
  pub ids : ℕ → ℕ
  pub due : Option Due
  pub past : List Moment

-- a run begins in generation 0, in which node n has the physical ID n
abbrev pub beginning : Wire
beginning = record {
  store = empty;
  layer = λ node. new_layer (local_id node);
  bus = 0;
  ids = local_id;
  due = None;
  past = [];
}

-- a packet as the store has it, and as the history has it
abbrev pub as_sent : Sending → Sent
as_sent q = record { generation = q.generation; from = q.from; to = q.to; bytes = q.bytes; injected = q.injected }

abbrev pub as_sending : Sent → Sending
as_sending q = record { generation = q.generation; from = q.from; to = q.to; bytes = q.bytes; injected = q.injected }

-- the transaction of a requester with a responder under a label, in a generation
abbrev pub transaction : (generation requester responder label : ℕ) → Transaction
transaction generation requester responder label =
    record { generation = generation; requester = requester; responder = responder; label = label }

-- the ID of another node in the generation that a node is in
abbrev pub id_for : Wire → (node peer : ℕ) → ℕ
id_for w node peer = (terms w.past).ids (w.layer node).generation peer

-- what a node sends to another, in its generation
abbrev pub outgoing : Wire → (node peer : ℕ) → (bytes : List ℕ) → (injected : Bool) → Sending
outgoing w node peer bytes injected =
    record { generation = (w.layer node).generation; from = node; to = peer; bytes = bytes; injected = injected }

-- a packet is sent, under the next serial
abbrev pub next_serial : Wire → ℕ
next_serial w = w.store.last + 1

abbrev pub sent_note : ℕ → Sending → Moment
sent_note s q = said (notes.Sent s q.generation q.from q.to q.bytes)

abbrev pub sending : Sending → Wire → Wire
sending q w = record w { store = send_step w.store (as_sent q); past = sent_note (next_serial w) q ∷ w.past }

-- the first note of a delivery, by what the packet is found to be; a request is the node's to decide on
abbrev pub decided : Option Cause → ℕ → Note
decided None s = notes.Got s
decided (Some cause) s = notes.Ignored s cause

abbrev pub first_note : Finding (Unit {0}) → Option Cause → ℕ → Note
first_note of_generation cause s = notes.Ignored s causes.Generation
first_note of_grammar cause s = notes.Ignored s causes.Grammar
first_note of_label cause s = notes.Ignored s causes.Label
first_note (of_response packet label purpose) cause s = notes.Got s
first_note (of_again packet rcode) cause s = notes.Ignored s causes.Again
first_note (of_request packet) cause s = decided cause s

-- what is to be answered then
abbrev pub due_for : Finding (Unit {0}) → Option Cause → ℕ → Sending → Option Due
due_for (of_again packet rcode) cause s q = Some (record { serial = s; request = q; packet = packet; reply = as_before rcode })
due_for (of_request packet) cause s q = Some (record { serial = s; request = q; packet = packet; reply = as_decided cause })
due_for _ cause s q = None
