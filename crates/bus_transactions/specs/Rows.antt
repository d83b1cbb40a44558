-- Labels and filters: what each node's transaction layer has, for every peer and label, is what the history says of that transaction in
-- the generation that the node is in: whether it waits, for which kind, or rests; the last request of its requester; and the last request
-- of its responder with the rcode given to it. So a reset that a node sees moves it to transactions of which nothing is said yet.
use Rattle.std.specs.Prelude.{◌≡◌, ℕ, Option, None}
use Rattle.label_table.specs.declared.reply.ReplyKind.{ReplyKind}
use Rattle.label_table.specs.declared.reply.ReplyKind.TheVariants as kinds
use Rattle.label_table.specs.declared.place.LabelState.{LabelState}
use Rattle.label_table.specs.declared.place.LabelState.TheVariants as states
use Rattle.label_table.specs.Peers.{state_for, last_for}
use Rattle.label_table.specs.Filter.{seen_at}
use Rattle.sbp_journal.specs.Transactions.{Kind, writing, reading_quadlet, reading_block, locking}
use Rattle.sbp_journal.specs.Wire.{Terms, terms, Held, free, waits, rests}
use Rattle.bus_transactions.specs.Wire.{Node, Due, Wire, transaction}

-- a label's state, without the number by which its table tells transactions apart
pub data Shape : Type 0 where
  idle : Shape
  awaits : ReplyKind → Shape
  resting : Shape

abbrev pub kind_as : Kind → ReplyKind
kind_as writing = kinds.Write
kind_as reading_quadlet = kinds.ReadQuadlet
kind_as reading_block = kinds.ReadBlock
kind_as locking = kinds.Lock

abbrev pub shape : LabelState → Shape
shape states.Free = idle
shape (states.UnderWay kind serial) = awaits kind
shape states.Resting = resting

abbrev pub shape_of : Held → Shape
shape_of free = idle
shape_of (waits kind serial) = awaits (kind_as kind)
shape_of rests = resting

-- the labels of a node in a generation, in which nodes have these IDs
pub record HasLabels (ids : ℕ → ℕ) (generation node : ℕ) (t : Terms) (layer : Node) : Type 0 where
  pub states_are : (peer label : ℕ) → shape (state_for layer.peers (ids peer) label) ≡ shape_of (t.held (transaction generation node peer label))
  pub requests : (peer label : ℕ) → last_for layer.peers (ids peer) label ≡ t.last (transaction generation node peer label)

-- and the requests that it judged last
pub record HasRequests (ids : ℕ → ℕ) (generation node : ℕ) (t : Terms) (layer : Node) : Type 0 where
  pub requests : (peer label : ℕ) → (seen_at (ids peer) layer.filter label).last ≡ t.seen (transaction generation peer node label)
  pub rcodes : (peer label : ℕ) → (seen_at (ids peer) layer.filter label).rcode ≡ t.given (transaction generation peer node label)

-- where a request was judged and is not answered yet, its receiver does not remember it yet
pub record IsLayerOf (t : Terms) (due : Option Due) (node : ℕ) (layer : Node) : Type 0 where
  pub generation : layer.generation ≡ t.generation node
  pub id : layer.node ≡ t.ids (t.generation node) node
  pub labels : HasLabels (t.ids (t.generation node)) (t.generation node) node t layer
  pub filter : due ≡ None → HasRequests (t.ids (t.generation node)) (t.generation node) node t layer

pub record RowsLaw (w : Wire) : Type 0 where
  pub bus : w.bus ≡ (terms w.past).bus
  pub ids : (node : ℕ) → w.ids node ≡ (terms w.past).ids (terms w.past).bus node
  pub layers : (node : ℕ) → IsLayerOf (terms w.past) w.due node (w.layer node)
