-- Handles are told apart, and a stale one stays stale.
use Rattle.std.specs.Prelude.{◌≡◌, ◌≢◌, ℕ, ◌+◌, ◌<◌, ◌≤◌, Bool, true, false, List, [], ◌∷◌, ◌++◌, length, Option, Some, None, refl}
use Rattle.std.specs.List.{All}
use Rattle.std.proofs.Common.{arith, sym, ap}
use Rattle.std.proofs.lemmas.List.Elements.{All-contains, All-cons, All-nil}
use Rattle.async_packet.specs.Labels.{LabelParts}
use Rattle.label_table.specs.declared.reply.ReplyKind.{ReplyKind}
use Rattle.label_table.specs.declared.place.LabelState.{LabelState}
use Rattle.label_table.specs.declared.place.LabelState.TheVariants as states
use Rattle.label_table.specs.Requests.{with_label, kind_of, is_kind}
use Rattle.label_table.specs.Table.{Table, unused, place_at, with_state, begin_at, begin_step, lowest_from, close_in, close_step, expire_in, expire_step, is_current, clear_step, handle}
use Rattle.label_table.specs.Handles.{Change, begins, closes, expires, clears, changed, table_after, and_given, handles, AreApart, HandleLaw}
use Rattle.label_table.proofs.Sources.{default_in}
use Rattle.label_table.proofs.Steps.{lowest_below, under_way_below, state_placed, current_is, current_not}

-- a handle that was given, and is not the one under way
record IsStale (table : Table) (label : LabelParts) : Type 0 where
  given : label.serial < table.calls
  over : (kind : ReplyKind) → table.generation ≡ label.generation → (place_at table label.number).state ≢ states.UnderWay kind label.serial

-- a table whose label changed to a state that is not that of the handle
stale_with : (table : Table) (n : ℕ) (state : LabelState) (label : LabelParts) → IsStale table label → n < length table.places → ((kind : ReplyKind) → state ≢ states.UnderWay kind label.serial) → IsStale (with_state table n state) label
stale_with table n state label s h not = record {
  given = let g = s.given in omega arith;
  over = λ kind e w. let p = state_placed table n label.number (record (place_at table n) { state = state }) h in let o = s.over kind e in let f = not kind in grind arith;
}

begin_stale : (table : Table) (bytes : List ℕ) (label : LabelParts) (found : Option ℕ) → IsStale table label → lowest_from 0 bytes table.places ≡ found → IsStale (begin_at found table bytes).1.0 label
begin_stale table bytes label None s e = s
begin_stale table bytes label (Some n) s e = record {
  given = let g = s.given in omega arith;
  over = λ kind g w.
      let p = state_placed table n label.number (record { state = states.UnderWay (kind_of bytes) table.calls; last = Some (with_label n bytes) }) (lowest_below n bytes table.places e) in
      let o = s.over kind g in
      let l = s.given in
      let f : states.UnderWay (kind_of bytes) table.calls ≡ states.UnderWay kind label.serial → table.calls ≡ label.serial = λ i. cc in
      grind arith;
}

not_free : (kind : ReplyKind) (r : ℕ) → states.Free ≢ states.UnderWay kind r
not_free kind r e = cc

close_by : (table : Table) (n r : ℕ) (kind asked : ReplyKind) (label : LabelParts) (same : Bool) → IsStale table label → (place_at table n).state ≡ states.UnderWay kind r → is_kind kind asked ≡ same → IsStale (close_in (states.UnderWay kind r) asked table n).1 label
close_by table n r kind asked label true s e same = rw same (stale_with table n states.Free label s (under_way_below table n kind r e) (λ k. not_free k label.serial))
close_by table n r kind asked label false s e same = rw same s

close_stale : (table : Table) (n : ℕ) (asked : ReplyKind) (label : LabelParts) (state : LabelState) → IsStale table label → (place_at table n).state ≡ state → IsStale (close_in state asked table n).1 label
close_stale table n asked label states.Free s e = s
close_stale table n asked label states.Resting s e = s
close_stale table n asked label (states.UnderWay kind r) s e = close_by table n r kind asked label _ s e refl

expire_stale : (table : Table) (other label : LabelParts) (now : Bool) → IsStale table label → is_current table other ≡ now → IsStale (expire_in now table other).1 label
expire_stale table other label true s e =
    let c = current_is table other e in
    stale_with table other.number states.Resting label s (under_way_below table other.number c.kind other.serial c.waits) (λ k i. cc)
expire_stale table other label false s e = s

clear_stale : (table : Table) (generation : ℕ) (label : LabelParts) → IsStale table label → IsStale (clear_step table generation) label
clear_stale table generation label s = record {
  given = let g = s.given in omega arith;
  over = λ kind e w. let f : (place_at (clear_step table generation) label.number).state ≡ states.Free = ap (λ p. p.state) (default_in 64 label.number unused) in cc;
}

changed_stale : (change : Change) (table : Table) (label : LabelParts) → IsStale table label → IsStale (changed change table) label
unfolding begin_step close_step expire_step
changed_stale (begins bytes) table label s = begin_stale table bytes label _ s refl
changed_stale (closes number kind) table label s = close_stale table number kind label _ s refl
changed_stale (expires other) table label s = expire_stale table other label _ s refl
changed_stale (clears generation) table label s = clear_stale table generation label s

all_stale : (changes more : List Change) (label : LabelParts) → IsStale (table_after changes) label → IsStale (table_after (more ++ changes)) label
all_stale changes [] label s = s
all_stale changes (change ∷ more) label s = changed_stale change (table_after (more ++ changes)) label (all_stale changes more label s)

is_stale : (table : Table) (label : LabelParts) (now : Bool) → IsStale table label → is_current table label ≡ now → now ≡ false
is_stale table label true s e = let c = current_is table label e in absurd (s.over c.kind (sym (ap (λ l. l.generation) c.same)) c.waits)
is_stale table label false s e = refl

-- the count of calls does not fall
abbrev Below : ℕ → List LabelParts → Type 0
Below calls labels = All (λ label. label.serial < calls) labels

rises : (a b : ℕ) (labels : List LabelParts) → a ≤ b → Below a labels → Below b labels
rises a b labels h l = λ k d small. let i = l k d small in omega arith

begun_apart : (table : Table) (bytes : List ℕ) (labels : List LabelParts) (found : Option ℕ) → Below table.calls labels → AreApart labels → Below (begin_at found table bytes).1.0.calls (and_given (begin_at found table bytes).0 labels) × AreApart (and_given (begin_at found table bytes).0 labels)
begun_apart table bytes labels None b a = (b, a)
begun_apart table bytes labels (Some n) b a =
    (All-cons (λ label. label.serial < table.calls + 1) (handle table n table.calls) labels (omega arith) (rises table.calls (table.calls + 1) labels (omega arith) b), (b, a))

close_count : (table : Table) (n : ℕ) (asked : ReplyKind) (state : LabelState) → table.calls ≤ (close_in state asked table n).1.calls
close_count table n asked states.Free = omega arith
close_count table n asked states.Resting = omega arith
close_count table n asked (states.UnderWay kind r) = grind arith

expire_count : (table : Table) (label : LabelParts) (now : Bool) → table.calls ≤ (expire_in now table label).1.calls
expire_count table label true = omega arith
expire_count table label false = omega arith

apart_after : (changes : List Change) → Below (table_after changes).calls (handles changes) × AreApart (handles changes)
unfolding begin_step close_step expire_step
apart_after [] = (All-nil (λ label. label.serial < 0), tt)
apart_after (begins bytes ∷ changes) = let i = apart_after changes in begun_apart (table_after changes) bytes (handles changes) _ i.0 i.1
apart_after (closes number kind ∷ changes) =
    let i = apart_after changes in (rises (table_after changes).calls _ (handles changes) (close_count (table_after changes) number kind _) i.0, i.1)
apart_after (expires label ∷ changes) =
    let i = apart_after changes in (rises (table_after changes).calls _ (handles changes) (expire_count (table_after changes) label _) i.0, i.1)
apart_after (clears generation ∷ changes) =
    let i = apart_after changes in (rises (table_after changes).calls _ (handles changes) (omega arith) i.0, i.1)

pub handle_law : HandleLaw
handle_law = record {
  apart = λ changes. (apart_after changes).1;
  stale = λ changes more label given e.
      let s : IsStale (table_after changes) label = record {
        given = All-contains (λ label. label.serial < (table_after changes).calls) (handles changes) label (apart_after changes).0 given;
        over = λ kind g. current_not (table_after changes) label kind e g;
      } in is_stale (table_after (more ++ changes)) label _ (all_stale changes more label s) refl;
}
