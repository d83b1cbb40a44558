-- The labels of the transactions of one node with one peer (IEEE 1394-1995, transaction layer).
use Rattle.std.specs.Prelude.{ℕ, ◌+◌, ◌==◌, ◌&&◌, ◌||◌, not, Bool, true, false, if◌then◌else◌, List, [], ◌∷◌, count_by, replicate, slice_set, slice_index_or, Option, Some, None, Result, Ok, Err}
use Rattle.async_packet.specs.Labels.{LabelParts}
use Rattle.label_table.specs.declared.reply.ReplyKind.{ReplyKind}
use Rattle.label_table.specs.declared.place.LabelState.{LabelState}
use Rattle.label_table.specs.declared.place.LabelState.TheVariants as states
use Rattle.label_table.specs.declared.place.Place.{Place}
use Rattle.label_table.specs.declared.reply.NoLabel.{NoLabel}
use Rattle.label_table.specs.declared.reply.Stale.{Stale}
use Rattle.label_table.specs.Requests.{with_label, is_write, kind_of, is_kind, is_last}

-- the generation that the node is in, the calls that changed the table, and the 64 labels by number
pub record Table : Type 0 where
  pub generation : ℕ
  pub calls : ℕ
  pub places : List Place

abbrev pub is_free : LabelState → Bool
is_free states.Free = true
is_free (states.UnderWay kind serial) = false
is_free states.Resting = false

-- a free label without a last request
abbrev pub unused : Place
unused = record { state = states.Free; last = None }

abbrev pub new_table : Table
new_table = record { generation = 0; calls = 0; places = replicate 64 unused }

abbrev pub place_at : Table → ℕ → Place
place_at table number = slice_index_or table.places number unused

-- the table after one more call that changes it, with this place for a label
abbrev pub with_place : Table → ℕ → Place → Table
with_place table number place = record table { calls = table.calls + 1; places = slice_set table.places number place }

-- the handle of the transaction with this serial under a label
abbrev pub handle : Table → ℕ → ℕ → LabelParts
handle table number serial = record { number = number; generation = table.generation; serial = serial }

-- a request may take a label that is free and, for a write, whose last request differs from it
abbrev pub serves : ℕ → List ℕ → Place → Bool
serves number bytes place = is_free place.state && (not (is_write bytes) || not (is_last place.last (with_label number bytes)))

-- the lowest label from a number on that a request may take
unfoldable pub lowest_from : ℕ → List ℕ → List Place → Option ℕ
lowest_from number bytes [] = None
lowest_from number bytes (place ∷ places) =
    if serves number bytes place then Some number else lowest_from (number + 1) bytes places

-- A transaction begins: its serial is the number of the changes before it.
abbrev pub begun : Table → List ℕ → ℕ → Table
begun table bytes number =
    with_place table number (record { state = states.UnderWay (kind_of bytes) table.calls; last = Some (with_label number bytes) })

abbrev pub begin_at : Option ℕ → Table → List ℕ → Result LabelParts NoLabel × (Table × List ℕ)
begin_at None table bytes = (Err (record {}), (table, bytes))
begin_at (Some number) table bytes = (Ok (handle table number table.calls), (begun table bytes number, with_label number bytes))

unfoldable pub begin_step : Table → List ℕ → Result LabelParts NoLabel × (Table × List ℕ)
begin_step table bytes = begin_at (lowest_from 0 bytes table.places) table bytes

-- a label's state changes, and its last request stays
abbrev pub with_state : Table → ℕ → LabelState → Table
with_state table number state = with_place table number (record (place_at table number) { state = state })

-- A response closes the transaction of its label and kind.
abbrev pub close_in : LabelState → ReplyKind → Table → ℕ → Option LabelParts × Table
close_in (states.UnderWay kind serial) asked table number =
    if is_kind kind asked then (Some (handle table number serial), with_state table number states.Free) else (None, table)
close_in states.Free asked table number = (None, table)
close_in states.Resting asked table number = (None, table)

unfoldable pub close_step : Table → ℕ → ReplyKind → Option LabelParts × Table
close_step table number kind = close_in (place_at table number).state kind table number

-- whether this transaction is the one under way
abbrev pub has_serial : LabelState → ℕ → Bool
has_serial (states.UnderWay kind serial) asked = serial == asked
has_serial states.Free asked = false
has_serial states.Resting asked = false

unfoldable pub is_current : Table → LabelParts → Bool
is_current table label = (table.generation == label.generation) && has_serial (place_at table label.number).state label.serial

-- A transaction times out, and its label rests.
abbrev pub expire_in : Bool → Table → LabelParts → Result (Unit {0}) Stale × Table
expire_in true table label = (Ok tt, with_state table label.number states.Resting)
expire_in false table label = (Err (record {}), table)

unfoldable pub expire_step : Table → LabelParts → Result (Unit {0}) Stale × Table
expire_step table label = expire_in (is_current table label) table label

-- the number of free labels
abbrev pub count_free : List Place → ℕ
count_free places = count_by (λ place. is_free place.state) places

-- A reset frees each label and forgets each last request.
abbrev pub clear_step : Table → ℕ → Table
clear_step table generation = record { generation = generation; calls = table.calls + 1; places = replicate 64 unused }
