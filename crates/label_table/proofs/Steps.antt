-- What a call does to the place of each label.
use Rattle.std.specs.Prelude.{◌≡◌, ◌≢◌, ℕ, suc, ◌+◌, ◌*◌, ◌%◌, ◌^◌, ◌<◌, ◌≤◌, Bool, true, false, cond, List, [], ◌∷◌, length, slice_set, slice_index_or, nat_eq, Some, refl}
use Rattle.std.proofs.Common.{arith, sym, ap, subst}
use Rattle.std.proofs.lemmas.Grind.{common_steps}
use Rattle.std.proofs.lemmas.List.{get_or_past}
use Rattle.label_table.specs.declared.place.Place.{Place}
use Rattle.async_packet.specs.Labels.{LabelParts}
use Rattle.label_table.specs.declared.place.LabelState.{LabelState}
use Rattle.label_table.specs.declared.place.LabelState.TheVariants as states
use Rattle.label_table.specs.declared.reply.ReplyKind.{ReplyKind}
use Rattle.label_table.specs.Requests.{label_of, with_label, is_write}
use Rattle.label_table.specs.Table.{Table, serves, lowest_from, unused, place_at, with_place, has_serial, is_current, handle}
use Rattle.label_table.specs.Once.{upd}
use Rattle.async_packet.specs.Fields.{tcode_of}

-- a place that the search finds
pub record Found (n k : ℕ) (bytes : List ℕ) (places : List Place) : Type 0 where
  pub at : ℕ
  pub is : k ≡ n + at
  pub below : at < length places
  pub fits : serves k bytes (slice_index_or places at unused) ≡ true

found_in : (b : Bool) (n k : ℕ) (bytes : List ℕ) (place : Place) (places : List Place) → serves n bytes place ≡ b → (lowest_from (n + 1) bytes places ≡ Some k → Found (n + 1) k bytes places) → cond b (Some n) (lowest_from (n + 1) bytes places) ≡ Some k → Found n k bytes (place ∷ places)
found_in true n k bytes place places s rest e = let i : n ≡ k = cc in record { at = 0; is = omega arith; below = omega arith; fits = rw (← i) s }
found_in false n k bytes place places s rest e = let f = rest e in record { at = suc f.at; is = let i = f.is in omega arith; below = let i = f.below in omega arith; fits = f.fits }

pub lowest_found : (n k : ℕ) (bytes : List ℕ) (places : List Place) → lowest_from n bytes places ≡ Some k → Found n k bytes places
unfolding lowest_from
lowest_found n k bytes [] e = cc
lowest_found n k bytes (place ∷ places) e = found_in (serves n bytes place) n k bytes place places refl (lowest_found (n + 1) k bytes places) e

pub lowest_below : (k : ℕ) (bytes : List ℕ) (places : List Place) → lowest_from 0 bytes places ≡ Some k → k < length places
lowest_below k bytes places e = let f = lowest_found 0 k bytes places e in let i = f.is in let b = f.below in omega arith

pub lowest_serves : (k : ℕ) (bytes : List ℕ) (places : List Place) → lowest_from 0 bytes places ≡ Some k → serves k bytes (slice_index_or places k unused) ≡ true
lowest_serves k bytes places e = let f = lowest_found 0 k bytes places e in let i : f.at ≡ k = let j = f.is in omega arith in subst (λ at. serves k bytes (slice_index_or places at unused) ≡ true) i f.fits

pub place_set : (table : Table) (k l : ℕ) (place : Place) → k < length table.places → place_at (with_place table k place) l ≡ upd (place_at table) k place l
place_set table k l place h = grind (arith, common_steps)

under_way_in : (place : Place) (kind : ReplyKind) (s : ℕ) → place ≡ unused → place.state ≢ states.UnderWay kind s
under_way_in place kind s e f = cc

pub under_way_below : (table : Table) (k : ℕ) (kind : ReplyKind) (s : ℕ) → (place_at table k).state ≡ states.UnderWay kind s → k < length table.places
under_way_below table k kind s e =
    let past : length table.places ≤ k → ⊥ = λ h. under_way_in (place_at table k) kind s (get_or_past table.places k unused h) e in grind arith

pub label_with : (number : ℕ) (bytes : List ℕ) → number < 64 → 12 ≤ length bytes → label_of (with_label number bytes) ≡ number
unfolding label_of with_label
label_with number bytes small h =
    let e : slice_index_or (slice_set bytes 2 (number * 2 ^ 2 + slice_index_or bytes 2 0 % 2 ^ 2)) 2 0 ≡ number * 2 ^ 2 + slice_index_or bytes 2 0 % 2 ^ 2 = grind (arith, common_steps) in
    rw e (omega arith)

pub tcode_with : (number : ℕ) (bytes : List ℕ) → 12 ≤ length bytes → tcode_of (with_label number bytes) ≡ tcode_of bytes
unfolding with_label tcode_of
tcode_with number bytes h =
    let x = number * 2 ^ 2 + slice_index_or bytes 2 0 % 2 ^ 2 in
    let e : slice_index_or (slice_set bytes 2 x) 3 0 ≡ slice_index_or bytes 3 0 = grind (arith, common_steps) in
    rw e (omega arith)

pub write_with : (number : ℕ) (bytes : List ℕ) → 12 ≤ length bytes → is_write (with_label number bytes) ≡ is_write bytes
unfolding is_write
write_with number bytes h = rw (tcode_with number bytes h)

-- a place's state changes
pub state_placed : (table : Table) (n m : ℕ) (place : Place) → n < length table.places → (place_at (with_place table n place) m).state ≡ cond (nat_eq m n) place.state (place_at table m).state
state_placed table n m place h = let p = place_set table n m place h in grind arith

-- the transaction of a handle that is current
pub record Current (table : Table) (label : LabelParts) : Type 0 where
  pub kind : ReplyKind
  pub waits : (place_at table label.number).state ≡ states.UnderWay kind label.serial
  pub same : label ≡ handle table label.number label.serial

has_serial_is : (state : LabelState) (serial : ℕ) → has_serial state serial ≡ true → (kind : ReplyKind) × (state ≡ states.UnderWay kind serial)
has_serial_is states.Free serial e = cc
has_serial_is states.Resting serial e = cc
has_serial_is (states.UnderWay kind r) serial e = let i : r ≡ serial = grind arith in (kind, ap (states.UnderWay kind) i)

pub current_is : (table : Table) (label : LabelParts) → is_current table label ≡ true → Current table label
unfolding is_current
current_is table label e =
    let h = has_serial_is (place_at table label.number).state label.serial (grind arith) in
    let g : table.generation ≡ label.generation = grind arith in
    record { kind = h.0; waits = h.1; same = ap (λ n. record { number = label.number; generation = n; serial = label.serial }) (sym g) }

serial_self : (kind : ReplyKind) (r : ℕ) → has_serial (states.UnderWay kind r) r ≡ true
serial_self kind r = grind arith

pub current_not : (table : Table) (label : LabelParts) (kind : ReplyKind) → is_current table label ≡ false → table.generation ≡ label.generation → (place_at table label.number).state ≢ states.UnderWay kind label.serial
unfolding is_current
current_not table label kind e g w =
    let h : has_serial (place_at table label.number).state label.serial ≡ true = rw w (serial_self kind label.serial) in grind arith
