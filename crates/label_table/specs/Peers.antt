-- A peer's place: its labels, and what the transaction under each is for.
use Rattle.std.specs.Prelude.{ℕ, if◌then◌else◌, List, replicate, slice_set, slice_index_or, Option, Some, None, Result, Ok, Err}
use Rattle.async_packet.specs.Labels.{LabelParts}
use Rattle.label_table.specs.declared.reply.ReplyKind.{ReplyKind}
use Rattle.label_table.specs.declared.reply.NoLabel.{NoLabel}
use Rattle.label_table.specs.declared.reply.Stale.{Stale}
use Rattle.label_table.specs.declared.place.LabelState.{LabelState}
use Rattle.label_table.specs.declared.place.LabelState.TheVariants as states
use Rattle.label_table.specs.Owned.{shown}
use Rattle.label_table.specs.Table.{Table, new_table, place_at, begin_step, close_step, expire_step, is_current, clear_step}

-- The peer that has the place; its table; and, by label, what the transaction under way is for, or
-- nothing where it is for nobody.
pub record PeerPlace (P : Type 0) : Type 0 where
  pub peer : Option ℕ
  pub table : Table
  pub purposes : List (Option P)

module _ {P : Type 0} where
  abbrev pub peer_of : PeerPlace P → Option ℕ
  peer_of place = place.peer

  -- a place that no peer has
  abbrev pub no_peer : PeerPlace P
  no_peer = record { peer = None; table = new_table; purposes = replicate 64 None }

  abbrev pub purpose_at : PeerPlace P → ℕ → Option P
  purpose_at place number = slice_index_or place.purposes number None

  -- the place with this table, and with this purpose under a label
  abbrev pub with_purpose : PeerPlace P → Table → ℕ → Option P → PeerPlace P
  with_purpose place table number purpose =
      record place { table = table; purposes = slice_set place.purposes number purpose }

  -- A request to the peer begins, for something.
  abbrev pub begun_for : PeerPlace P → ℕ → P → Result LabelParts NoLabel × (Table × List ℕ) → Result LabelParts NoLabel × (PeerPlace P × List ℕ)
  begun_for place peer purpose (Ok label, (table, bytes)) =
      (Ok label, (with_purpose (record place { peer = Some peer }) table label.number (Some purpose), bytes))
  begun_for place peer purpose (Err none, (table, bytes)) = (Err none, (place, bytes))

  abbrev pub ask_place : PeerPlace P → ℕ → List ℕ → P → Result LabelParts NoLabel × (PeerPlace P × List ℕ)
  ask_place place peer bytes purpose = begun_for place peer purpose (begin_step place.table bytes)

  -- A response closes the transaction of its label and kind, which tells what it was for.
  abbrev pub closed_for : PeerPlace P → Option LabelParts × Table → Option (LabelParts × Option P) × PeerPlace P
  closed_for place (Some label, table) =
      (Some (label, purpose_at place label.number), with_purpose place table label.number None)
  closed_for place (None, table) = (None, place)

  abbrev pub close_place : PeerPlace P → ℕ → ReplyKind → Option (LabelParts × Option P) × PeerPlace P
  close_place place number kind = closed_for place (close_step place.table number kind)

  -- A transaction times out and tells what it was for.
  abbrev pub expired_for : PeerPlace P → LabelParts → Result (Unit {0}) Stale × Table → Result (Option P) Stale × PeerPlace P
  expired_for place label (Ok done, table) =
      (Ok (purpose_at place label.number), with_purpose place table label.number None)
  expired_for place label (Err stale, table) = (Err stale, place)

  abbrev pub expire_place : PeerPlace P → LabelParts → Result (Option P) Stale × PeerPlace P
  expire_place place label = expired_for place label (expire_step place.table label)

  -- The transaction under way is for nobody from now on.
  abbrev pub disown_place : PeerPlace P → LabelParts → PeerPlace P
  disown_place place label =
      if is_current place.table label then with_purpose place place.table label.number None else place

  -- A reset takes the place from its peer, and frees each label.
  abbrev pub clear_place : ℕ → PeerPlace P → PeerPlace P
  clear_place generation place = record {
    peer = None;
    table = clear_step place.table generation;
    purposes = replicate 64 None;
  }

  -- by peer and label: its state, its last request, and what its transaction under way is for
  abbrev pub state_for : List (PeerPlace P) → ℕ → ℕ → LabelState
  state_for places peer number = shown peer_of (λ place. (place_at place.table number).state) no_peer states.Free peer places

  abbrev pub last_for : List (PeerPlace P) → ℕ → ℕ → Option (List ℕ)
  last_for places peer number = shown peer_of (λ place. (place_at place.table number).last) no_peer None peer places

  abbrev pub purpose_for : List (PeerPlace P) → ℕ → ℕ → Option P
  purpose_for places peer number = shown peer_of (λ place. purpose_at place number) no_peer None peer places
