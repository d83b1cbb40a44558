-- What may happen to the wire: each move is a primitive of the transaction layer of a node, or of the bus.
use Rattle.std.specs.Prelude.{ℕ, ◌+◌, Bool, true, false, List, [], ◌∷◌, Option, Some, None, Result, Ok, Err}
use Rattle.sbp_base.specs.Update.{upd}
use Rattle.async_packet.specs.Labels.{LabelParts}
use Rattle.label_table.specs.declared.judgement.Asked.{Asked}
use Rattle.label_table.specs.declared.reply.Stale.{Stale}
use Rattle.label_table.specs.Bodies.{Body}
use Rattle.label_table.specs.Layer.{Finding, judging_step, answering_step, asking_step, expiring_step, disowning_step, seeing_step}
use Rattle.packet_store.specs.declared.sent.Kept.{Kept}
use Rattle.packet_store.specs.Stored.{Stored, deliver_step, lose_step}
use Rattle.sbp_journal.specs.Run.{asked, said}
use Rattle.sbp_journal.specs.Transactions.{Sending}
use Rattle.sbp_journal.specs.Wire.{terms, ids_of}
use Rattle.sbp_journal.specs.declared.event.Event.{Event}
use Rattle.sbp_journal.specs.declared.event.Event.TheVariants as events
use Rattle.sbp_journal.specs.declared.cause.Cause.{Cause}
use Rattle.sbp_journal.specs.declared.note.Note.{Note}
use Rattle.sbp_journal.specs.declared.note.Note.TheVariants as notes
use Rattle.bus_transactions.specs.Wire.{Node, Due, Wire, beginning, transaction, id_for, outgoing, next_serial, sending, first_note, due_for, as_sending}

-- A node asks another; answers the request that it has just judged; injects bytes; a packet is delivered, once or once more, and where
-- it is a request its receiver decides on it; a packet is lost; a transaction times out, or is left to nobody; the bus is reset; a node
-- sees the latest reset; a line is begun; or a note is said that tells nothing of the wire.
pub data Move : Type 0 where
  ask : (node peer : ℕ) → Body → Move
  answer : (rcode : ℕ) → (given : List ℕ) → Move
  inject : (node peer : ℕ) → (bytes : List ℕ) → Move
  deliver : Kept → Option Cause → Move
  lose : (serial : ℕ) → Move
  expire : (node peer : ℕ) → LabelParts → Move
  disown : (node peer : ℕ) → LabelParts → Move
  reset : (line : ℕ) → (physical : List ℕ) → Move
  see : (node : ℕ) → Move
  start : (line : ℕ) → Event → Move
  tell : Note → Move

-- a node's layer afterwards
abbrev pub with_layer : ℕ → Node → Wire → Wire
with_layer node layer w = record w { layer = upd w.layer node layer }

-- a request that finds no label is not sent
abbrev pub asking : Option Asked × Node → (node peer : ℕ) → Wire → Wire
asking (Some found, layer) node peer w = sending (outgoing w node peer found.bytes false) (with_layer node layer w)
asking (None, layer) node peer w = w

abbrev pub answered : List ℕ × Node → Due → Wire → Wire
answered (bytes, layer) due w =
    sending (outgoing w due.request.to due.request.from bytes false) (record (with_layer due.request.to layer w) { due = None })

abbrev pub answering : Option Due → (rcode : ℕ) → (given : List ℕ) → Wire → Wire
answering None rcode given w = w
answering (Some due) rcode given w = answered (answering_step (w.layer due.request.to) due.packet due.request.bytes rcode given) due w

-- a packet that is delivered once more stays as it is
abbrev pub arrived : (repeats : Bool) → ℕ → Stored → Stored
arrived true s store = store
arrived false s store = deliver_step store s

abbrev pub judging : Finding (Unit {0}) × Node → Option Cause → ℕ → Sending → Wire → Wire
judging (finding, layer) cause s q w = record (with_layer q.to layer w) {
  due = due_for finding cause s q;
  past = said (first_note finding cause s) ∷ w.past;
}

abbrev pub delivering : ℕ → Sending → Option Cause → Wire → Wire
delivering s q cause w =
    judging (judging_step (w.layer q.to) q.generation q.bytes) cause s q (record w { store = arrived (terms w.past).repeats s w.store })

-- the request whose time ran out is the present one of the transaction
abbrev pub expiring : Result (Option (Unit {0})) Stale × Node → (node peer label : ℕ) → Wire → Wire
expiring (Ok purpose, layer) node peer label w = record (with_layer node layer w) {
  past = said (notes.TimedOut ((terms w.past).current (transaction (w.layer node).generation node peer label))) ∷ w.past;
}
expiring (Err stale, layer) node peer label w = w

abbrev pub injecting : Sending → Wire → Wire
injecting q w = sending q (record w { past = said (notes.Injected (next_serial w)) ∷ w.past })

abbrev pub moved : Move → Wire → Wire
moved (ask node peer body) w = asking (asking_step (w.layer node) (id_for w node peer) body tt) node peer w
moved (answer rcode given) w = answering w.due rcode given w
moved (inject node peer bytes) w = injecting (outgoing w node peer bytes true) w
moved (deliver kept cause) w = delivering kept.serial (as_sending kept.sent) cause w
moved (lose s) w = record w { store = lose_step w.store s; past = said (notes.Lost s) ∷ w.past }
moved (expire node peer label) w = expiring (expiring_step (w.layer node) (id_for w node peer) label) node peer label.number w
moved (disown node peer label) w = with_layer node (disowning_step (w.layer node) (id_for w node peer) label) w
moved (reset line physical) w = record w {
  bus = w.bus + 1;
  ids = ids_of physical;
  past = said (notes.Reset (w.bus + 1)) ∷ asked line (events.Reset physical) ∷ w.past;
}
moved (see node) w = record (with_layer node (seeing_step (w.layer node) w.bus (w.ids node)).1 w) {
  past = said (notes.Seen node w.bus) ∷ w.past;
}
moved (start line event) w = record w { past = asked line event ∷ w.past }
moved (tell note) w = record w { past = said note ∷ w.past }

-- the wire after some moves, the latest of them first
abbrev pub after : List Move → Wire
after [] = beginning
after (move ∷ moves) = moved move (after moves)
