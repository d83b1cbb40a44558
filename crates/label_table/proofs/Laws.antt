-- What the definitions of the labels and the filter say in other words.
use Rattle.std.specs.Prelude.{◌≡◌, ◌≢◌, ℕ, zero, suc, ◌+◌, ◌*◌, ◌%◌, ◌^◌, ◌<◌, ◌≤◌, Bool, true, false, cond, List, [], ◌∷◌, length, position, slice_set, slice_index, slice_index_or, Option, Some, None, refl}
use Rattle.std.proofs.Common.{arith, subst}
use Rattle.std.proofs.lemmas.Grind.{common_steps}
use Rattle.std.proofs.lemmas.List.{drop-set-lt}
use Rattle.std.proofs.lemmas.List.Quantifiers.{position-Some}
use Rattle.async_packet.specs.declared.packet.Header.{Header}
use Rattle.async_packet.specs.Fields.{header_of}
use Rattle.label_table.specs.declared.place.Place.{Place}
use Rattle.label_table.specs.declared.reply.Verdict.TheVariants as verdicts
use Rattle.label_table.specs.Requests.{label_of, with_label}
use Rattle.label_table.specs.Table.{serves, unused, lowest_from}
use Rattle.label_table.specs.Owned.{or_else, owned_place}
use Rattle.label_table.specs.Filter.{SourcePlace, no_source, is_of, judged, judge_at, judge_step}
use Rattle.label_table.specs.Laws.{IsLowest, LowestLaw, HasOthers, CrowdedLaw, LabelLaw, HeaderLaw}
use Rattle.label_table.proofs.Steps.{lowest_below, lowest_serves}
use Rattle.label_table.proofs.Owned.{position_none}

lower_in : (b : Bool) (n m k : ℕ) (bytes : List ℕ) (place : Place) (places : List Place) → serves n bytes place ≡ b → ((j : ℕ) → lowest_from (n + 1) bytes places ≡ Some m → n + 1 + j < m → serves (n + 1 + j) bytes (slice_index_or places j unused) ≡ false) → cond b (Some n) (lowest_from (n + 1) bytes places) ≡ Some m → n + k < m → serves (n + k) bytes (slice_index_or (place ∷ places) k unused) ≡ false
lower_in true n m k bytes place places s rest e h = let i : n ≡ m = cc in absurd (omega arith)
lower_in false n m zero bytes place places s rest e h =
    let i : n ≡ n + 0 = omega arith in subst (λ number. serves number bytes place ≡ false) i s
lower_in false n m (suc j) bytes place places s rest e h =
    let i : n + 1 + j ≡ n + suc j = omega arith in
    subst (λ number. serves number bytes (slice_index_or places j unused) ≡ false) i (rest j e (omega arith))

lower_fails : (n m k : ℕ) (bytes : List ℕ) (places : List Place) → lowest_from n bytes places ≡ Some m → n + k < m → serves (n + k) bytes (slice_index_or places k unused) ≡ false
unfolding lowest_from
lower_fails n m k bytes [] e h = cc
lower_fails n m k bytes (place ∷ places) e h =
    lower_in (serves n bytes place) n m k bytes place places refl (λ j. lower_fails (n + 1) m j bytes places) e h

none_in : (b : Bool) (n k : ℕ) (bytes : List ℕ) (place : Place) (places : List Place) → serves n bytes place ≡ b → ((j : ℕ) → lowest_from (n + 1) bytes places ≡ None → j < length places → serves (n + 1 + j) bytes (slice_index_or places j unused) ≡ false) → cond b (Some n) (lowest_from (n + 1) bytes places) ≡ None → k < length (place ∷ places) → serves (n + k) bytes (slice_index_or (place ∷ places) k unused) ≡ false
none_in true n k bytes place places s rest e h = cc
none_in false n zero bytes place places s rest e h =
    let i : n ≡ n + 0 = omega arith in subst (λ number. serves number bytes place ≡ false) i s
none_in false n (suc j) bytes place places s rest e h =
    let i : n + 1 + j ≡ n + suc j = omega arith in
    subst (λ number. serves number bytes (slice_index_or places j unused) ≡ false) i (rest j e (omega arith))

none_serves : (n k : ℕ) (bytes : List ℕ) (places : List Place) → lowest_from n bytes places ≡ None → k < length places → serves (n + k) bytes (slice_index_or places k unused) ≡ false
unfolding lowest_from
none_serves n k bytes [] e h = absurd (omega arith)
none_serves n k bytes (place ∷ places) e h =
    none_in (serves n bytes place) n k bytes place places refl (λ j. none_serves (n + 1) j bytes places) e h

from_zero : (k : ℕ) (bytes : List ℕ) (place : Place) → serves (0 + k) bytes place ≡ false → serves k bytes place ≡ false
from_zero k bytes place s = let i : 0 + k ≡ k = omega arith in subst (λ number. serves number bytes place ≡ false) i s

lowest_case : (bytes : List ℕ) (places : List Place) (found : Option ℕ) → lowest_from 0 bytes places ≡ found → IsLowest bytes places found
lowest_case bytes places None e = λ k h. from_zero k bytes _ (none_serves 0 k bytes places e h)
lowest_case bytes places (Some n) e =
    (lowest_below n bytes places e, lowest_serves n bytes places e, λ k h. from_zero k bytes _ (lower_fails 0 n k bytes places e (omega arith)))

pub lowest_law : LowestLaw
lowest_law bytes places = lowest_case bytes places _ refl

pub judged_not : (place : SourcePlace) (bytes : List ℕ) → judged place bytes ≢ verdicts.Crowded
unfolding judged
judged_not place bytes e = grind arith

crowded_none : (known free : Option ℕ) (places : List SourcePlace) (bytes : List ℕ) → judge_at (or_else known free) places bytes ≡ verdicts.Crowded → (known ≡ None) × (free ≡ None)
crowded_none (Some k) free places bytes e = absurd (judged_not _ bytes e)
crowded_none None (Some k) places bytes e = absurd (judged_not _ bytes e)
crowded_none None None places bytes e = (refl, refl)

crowded_only : (places : List SourcePlace) (source : ℕ) (bytes : List ℕ) → judge_step places source bytes ≡ verdicts.Crowded → HasOthers places source
unfolding owned_place
crowded_only places source bytes e k h =
    let n = crowded_none (position (is_of (Some source)) places) (position (is_of None) places) places bytes e in
    (position_none (is_of (Some source)) places k no_source n.0 h, position_none (is_of None) places k no_source n.1 h)

all_fail : {A : Type 0} (p : A → Bool) (xs : List A) (d : A) → ((k : ℕ) → k < length xs → p (slice_index_or xs k d) ≡ false) → (found : Option ℕ) → position p xs ≡ found → found ≡ None
all_fail p xs d fails None e = refl
all_fail p xs d fails (Some k) e = let s = position-Some p xs k d e in let f = fails k s.0 in cc

crowded_where : (places : List SourcePlace) (source : ℕ) (bytes : List ℕ) → HasOthers places source → judge_step places source bytes ≡ verdicts.Crowded
unfolding owned_place
crowded_where places source bytes others =
    rw (all_fail (is_of (Some source)) places no_source (λ k h. (others k h).0) _ refl, all_fail (is_of None) places no_source (λ k h. (others k h).1) _ refl)

pub crowded_law : CrowdedLaw
crowded_law places source bytes = (crowded_only places source bytes, crowded_where places source bytes)

pub label_law : LabelLaw
unfolding label_of header_of
label_law bytes all h =
    let a = all 2 0 (omega arith) in
    let b = all 3 0 (omega arith) in
    omega arith

abbrev header : ℕ → ℕ → ℕ → ℕ → ℕ → Header
header d l r p s = record { destination = d; label = l; retry = r; priority = p; source = s }

same_header : (d l r p s d' l' r' p' : ℕ) → d ≡ d' → l ≡ l' → r ≡ r' → p ≡ p' → header d l r p s ≡ header d' l' r' p' s
same_header d l r p s d' l' r' p' e f g h = cc

byte_kept : (bytes : List ℕ) (i x : ℕ) → i ≢ 2 → slice_index (slice_set bytes 2 x) i ≡ slice_index bytes i
byte_kept bytes i x n = grind (arith, common_steps)

byte_set : (bytes : List ℕ) (x : ℕ) → 12 ≤ length bytes → slice_index (slice_set bytes 2 x) 2 ≡ x
byte_set bytes x h = grind (arith, common_steps)

pub header_law : HeaderLaw
unfolding with_label header_of
header_law bytes number all h small =
    let a : slice_index bytes 2 < 256 = all 2 0 (omega arith) in
    let b : slice_index bytes 3 < 256 = all 3 0 (omega arith) in
    let x = number * 2 ^ 2 + slice_index_or bytes 2 0 % 2 ^ 2 in
    rw (byte_kept bytes 0 x (λ e. cc), byte_kept bytes 1 x (λ e. cc), byte_set bytes x h, byte_kept bytes 3 x (λ e. cc), drop-set-lt 4 bytes 2 x (omega arith))
    (same_header _ _ _ _ _ _ _ _ _ (omega arith) (omega arith) (omega arith) (omega arith))
