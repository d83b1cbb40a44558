-- When each move may be made: what the node or the bus checks, and what its types say. While a request is to be answered nothing else
-- may happen but what tells nothing of the wire.
use Rattle.std.specs.Prelude.{◌≡◌, ◌<◌, ℕ, Bool, true, false, is_ok, List, [], ◌∷◌, Option, Some, None, length, slice_index_or, ◌≤◌}
use Rattle.std.specs.List.{All}
use Rattle.async_packet.specs.Canon.{IsValid}
use Rattle.async_packet.specs.Fields.{header_of}
use Rattle.async_packet.specs.Labels.{LabelParts}
use Rattle.label_table.specs.Bodies.{Body, Gives, header_to, request_with, response_to}
use Rattle.label_table.specs.Layer.{expiring_step}
use Rattle.packet_store.specs.declared.sent.Kept.{Kept}
use Rattle.packet_store.specs.Kept.{found, is_flying}
use Rattle.sbp_journal.specs.Wire.{terms}
use Rattle.sbp_journal.specs.declared.event.Event.{Event}
use Rattle.sbp_journal.specs.declared.event.Event.TheVariants as events
use Rattle.sbp_journal.specs.declared.cause.Cause.{Cause}
use Rattle.sbp_journal.specs.declared.cause.Cause.TheVariants as causes
use Rattle.sbp_journal.specs.declared.note.Note.{Note}
use Rattle.sbp_journal.specs.declared.note.Note.TheVariants as notes
use Rattle.bus_transactions.specs.Wire.{is_reply, Due, Wire, id_for}
use Rattle.bus_transactions.specs.Moves.{Move, ask, answer, inject, deliver, lose, expire, disown, reset, see, start, tell, after}

-- a body that fits its fields; the bus has five nodes at most
pub record MayAsk (w : Wire) (node peer : ℕ) (body : Body) : Type 0 where
  pub free : w.due ≡ None
  pub node_small : node < 5
  pub peer_small : peer < 5
  pub valid : IsValid (request_with (header_to (w.layer node).node (id_for w node peer) 0) body)

-- the request that is to be answered, with an rcode that its judgement states; a read that is complete gives as many bytes as were
-- asked for
pub record MayAnswer (w : Wire) (rcode : ℕ) (given : List ℕ) : Type 0 where
  pub due : Due
  pub owed : w.due ≡ Some due
  pub stated : is_reply due.reply rcode ≡ true
  pub gives : Gives due.packet rcode given
  pub valid : IsValid (response_to (w.layer due.request.to).node due.packet rcode given)

-- bytes from the node's own ID to that of the other node, both in its generation
pub record MayInject (w : Wire) (node peer : ℕ) (bytes : List ℕ) : Type 0 where
  pub free : w.due ≡ None
  pub node_small : node < 5
  pub peer_small : peer < 5
  pub bytes_fit : All (λ byte. byte < 256) bytes
  pub source : (header_of bytes).source ≡ id_for w node node
  pub destination : (header_of bytes).destination ≡ id_for w node peer

-- the causes for which a node ignores a request that it answers
abbrev pub may_ignore : Option Cause → Bool
may_ignore None = true
may_ignore (Some causes.Grammar) = true
may_ignore (Some causes.Source) = true
may_ignore (Some causes.Login) = true
may_ignore (Some causes.Slot) = true
may_ignore (Some _) = false

-- a packet that the store has, and has in flight unless the line is a repeat
pub record MayDeliver (w : Wire) (kept : Kept) (cause : Option Cause) : Type 0 where
  pub free : w.due ≡ None
  pub kept_is : found kept.serial w.store.kept ≡ Some kept
  pub flies : (terms w.past).repeats ≡ false → is_flying kept.serial w.store.kept ≡ true
  pub known : may_ignore cause ≡ true

pub record MayLose (w : Wire) (s : ℕ) : Type 0 where
  pub free : w.due ≡ None
  pub flies : is_flying s w.store.kept ≡ true

-- the transaction is the one under way
pub record MayExpire (w : Wire) (node peer : ℕ) (label : LabelParts) : Type 0 where
  pub free : w.due ≡ None
  pub current : is_ok (expiring_step (w.layer node) (id_for w node peer) label).0 ≡ true

-- each node gets a physical ID from 0 to 62, and no two the same
pub record MayReset (w : Wire) (physical : List ℕ) : Type 0 where
  pub free : w.due ≡ None
  pub small : (i : ℕ) → i < length physical → slice_index_or physical i 0 ≤ 62
  pub apart : (i j : ℕ) → i < length physical → j < length physical → slice_index_or physical i 0 ≡ slice_index_or physical j 0 → i ≡ j

abbrev pub is_reset : Event → Bool
is_reset (events.Reset physical) = true
is_reset _ = false

-- any line but a reset, which is a move of its own
pub record MayStart (w : Wire) (event : Event) : Type 0 where
  pub free : w.due ≡ None
  pub other : is_reset event ≡ false

-- notes that tell nothing of the wire
unfoldable pub is_plain : Note → Bool
is_plain (notes.Sent s generation from to bytes) = false
is_plain (notes.Injected s) = false
is_plain (notes.Got s) = false
is_plain (notes.Ignored s cause) = false
is_plain (notes.Lost s) = false
is_plain (notes.TimedOut s) = false
is_plain (notes.Reset generation) = false
is_plain (notes.Seen node generation) = false
is_plain _ = true

abbrev pub May : Move → Wire → Type 0
May (ask node peer body) w = MayAsk w node peer body
May (answer rcode given) w = MayAnswer w rcode given
May (inject node peer bytes) w = MayInject w node peer bytes
May (deliver kept cause) w = MayDeliver w kept cause
May (lose s) w = MayLose w s
May (expire node peer label) w = MayExpire w node peer label
May (disown node peer label) w = Unit {0}
May (reset line physical) w = MayReset w physical
May (see node) w = w.due ≡ None
May (start line event) w = MayStart w event
May (tell note) w = is_plain note ≡ true

abbrev pub MayAll : List Move → Type 0
MayAll [] = Unit {0}
MayAll (move ∷ moves) = May move (after moves) × MayAll moves

-- a law of every wire that such moves lead to
abbrev pub Always : (Wire → Type 0) → Type 0
Always Law = (moves : List Move) → MayAll moves → Law (after moves)
