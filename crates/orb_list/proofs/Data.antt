-- The data of a request stand in its segments.
use Rattle.std.proofs.Common.{arith, ◌≡◌, refl, sym, ◌∙◌, ap, ℕ, ◌+◌, ◌-◌, ◌*◌, ◌<◌, ◌≤◌, nat_le, nat_eq, Bool, true, false, cond, sum, List, [], ◌∷◌, ◌++◌, length, take, drop, length-take, length-drop, length-append}
use Rattle.std.proofs.Math.Seq.{take-append_seam, take-append-add, drop-append_seam}
use Rattle.std.proofs.lemmas.Bool.Decides.{nat_tests}
use Rattle.std.proofs.lemmas.List.{take_all, take-take, take-append-le, take-append-drop, drop-take}
use Rattle.std.proofs.lemmas.List.Sums.{sum_by-cons}
use Rattle.bus_memory.specs.declared.window.Window.TheVariants as windows
use Rattle.bus_memory.specs.Windows.{start}
use Rattle.bus_memory.specs.Memory.{Memory, slot_at, with_armed, with_bytes, patch}
use Rattle.bus_memory.specs.Laws.{IsWhole}
use Rattle.bus_memory.proofs.Written.{patch_length, window_set, whole_set}
use Rattle.orb_layout.specs.CommandOrbs.{command_bytes}
use Rattle.orb_list.specs.Requests.{Asked, IsRequest}
use Rattle.orb_list.specs.Layout.{behind, orb_of, table_bytes, data_in_segments, data_written, written}
use Rattle.orb_list.specs.Tables.{segments_of}
use Rattle.orb_list.specs.Data.{lengths_of, request_segments, joined, AreApart, DataLaw}
use Rattle.orb_list.proofs.Spelled.{parts}

total : (count : ℕ) (rest : List ℕ) → sum (count ∷ rest) ≡ count + sum rest
total count rest = sum_by-cons (λ v. v) count rest

-- The segments do not overlap.
apart_from : (slot from at : ℕ) (segments : List ℕ) → from ≤ start (windows.Buffer slot) + at → at + sum segments + 19 * length segments ≤ 32768 → AreApart from (start (windows.Buffer slot) + 32768) (segments_of slot at segments)
apart_from slot from at [] b h = tt
apart_from slot from at (count ∷ rest) b h =
    let e = total count rest in
    (omega arith, omega arith, apart_from slot (start (windows.Buffer slot) + at + count) (behind at count) rest (omega arith) (omega arith))

-- the bytes of a buffer with data in its segments
abbrev filled : List ℕ → ℕ → List ℕ → List ℕ → List ℕ
filled old at [] payload = old
filled old at (count ∷ rest) payload = filled (patch old at (take count payload)) (behind at count) rest (drop count payload)

buffer_set : (m : Memory) (slot at : ℕ) (bytes : List ℕ) → IsWhole m → slot < 32 → (slot_at (with_bytes m (windows.Buffer slot) at bytes) slot).buffer ≡ patch (slot_at m slot).buffer at bytes
buffer_set m slot at bytes whole s =
    let same : nat_eq slot slot ≡ true = grind (arith, nat_tests) in
    window_set m (windows.Buffer slot) at bytes (windows.Buffer slot) whole.slots whole.places s
    ∙ ap (λ (b : Bool). cond b (patch (slot_at m slot).buffer at bytes) (slot_at m slot).buffer) same

buffer_filled : (m : Memory) (slot at : ℕ) (segments payload : List ℕ) → IsWhole m → slot < 32 → at + sum segments + 19 * length segments ≤ 32768 → (slot_at (data_in_segments m slot at segments payload) slot).buffer ≡ filled (slot_at m slot).buffer at segments payload
buffer_filled m slot at [] payload whole s h = refl
buffer_filled m slot at (count ∷ rest) payload whole s h =
    let e = total count rest in
    let l : length (take count payload) ≤ count = simp length-take (omega arith) in
    buffer_filled (with_bytes m (windows.Buffer slot) at (take count payload)) slot (behind at count) rest (drop count payload) (whole_set m (windows.Buffer slot) at (take count payload) whole s (omega arith)) s (omega arith)
    ∙ ap (λ (old : List ℕ). filled old (behind at count) rest (drop count payload)) (buffer_set m slot at (take count payload) whole s)

-- What stands before the segments stays.
patch_front : (old : List ℕ) (n at : ℕ) (bytes : List ℕ) → n ≤ at → at ≤ length old → take n (patch old at bytes) ≡ take n old
patch_front old n at bytes b h =
    let l : length (take at old) ≡ at = simp length-take (omega arith) in
    take-append-le n (take at old) (bytes ++ drop (at + length bytes) old) (omega arith) ∙ take-take n at old b

front_stays : (old : List ℕ) (n at : ℕ) (segments payload : List ℕ) → n ≤ at → at + sum segments + 19 * length segments ≤ length old → take n (filled old at segments payload) ≡ take n old
front_stays old n at [] payload b h = refl
front_stays old n at (count ∷ rest) payload b h =
    let e = total count rest in
    let l : length (take count payload) ≤ count = simp length-take (omega arith) in
    let z = patch_length old at (take count payload) (omega arith) in
    front_stays (patch old at (take count payload)) n (behind at count) rest (drop count payload) (omega arith) (omega arith) ∙ patch_front old n at (take count payload) b (omega arith)

part_same : (xs ys : List ℕ) (at count : ℕ) → take (at + count) xs ≡ take (at + count) ys → take count (drop at xs) ≡ take count (drop at ys)
part_same xs ys at count e = sym (drop-take at count xs) ∙ ap (λ (l : List ℕ). drop at l) e ∙ drop-take at count ys

part_set : (old : List ℕ) (at : ℕ) (bytes : List ℕ) → at ≤ length old → drop at (patch old at bytes) ≡ bytes ++ drop (at + length bytes) old
part_set old at bytes h =
    let l : length (take at old) ≡ at = simp length-take (omega arith) in
    ap (λ (n : ℕ). drop n (patch old at bytes)) (sym l) ∙ drop-append_seam (take at old) (bytes ++ drop (at + length bytes) old)

-- Data in a segment and those behind it are the data.
split_when : (count : ℕ) (payload more others : List ℕ) (whole : Bool) → nat_le count (length payload) ≡ whole → take (length (drop count payload)) others ≡ drop count payload → take (length payload) (take count (take count payload ++ more) ++ others) ≡ payload
split_when count payload more others true w e =
    let fits : count ≤ length payload = grind (arith, nat_tests) in
    let l : length (take count payload) ≡ count = simp length-take (omega arith) in
    let d : length (drop count payload) ≡ length payload - count = length-drop count payload in
    let z : length payload ≡ length (take count payload) + length (drop count payload) = omega arith in
    ap (λ (n : ℕ). take (length payload) (take n (take count payload ++ more) ++ others)) (sym l)
    ∙ ap (λ (xs : List ℕ). take (length payload) (xs ++ others)) (take-append_seam (take count payload) more)
    ∙ ap (λ (n : ℕ). take n (take count payload ++ others)) z
    ∙ take-append-add (take count payload) others (length (drop count payload))
    ∙ ap (λ (xs : List ℕ). take count payload ++ xs) e
    ∙ take-append-drop count payload
split_when count payload more others false w e =
    let short : length payload ≤ count = grind (arith, nat_tests) in
    let all : take count payload ≡ payload = take_all count payload short in
    let l : length payload ≤ length (take count (payload ++ more)) = simp (length-take, length-append) (omega arith) in
    ap (λ (xs : List ℕ). take (length payload) (take count (xs ++ more) ++ others)) all
    ∙ take-append-le (length payload) (take count (payload ++ more)) others l
    ∙ take-take (length payload) count (payload ++ more) short
    ∙ take-append_seam payload more

none_left : (payload : List ℕ) → length payload ≤ 0 → take (length payload) [] ≡ payload
none_left [] h = refl
none_left (x ∷ rest) h = absurd (omega arith)

holds : (slot : ℕ) (old : List ℕ) (at : ℕ) (segments payload : List ℕ) → at + sum segments + 19 * length segments ≤ length old → length payload ≤ sum segments → take (length payload) (joined slot (filled old at segments payload) (segments_of slot at segments)) ≡ payload
holds slot old at [] payload h p = none_left payload p
holds slot old at (count ∷ rest) payload h p =
    let e = total count rest in
    let new = patch old at (take count payload) in
    let end = filled new (behind at count) rest (drop count payload) in
    let l : length (take count payload) ≤ count = simp length-take (omega arith) in
    let z = patch_length old at (take count payload) (omega arith) in
    let d : length (drop count payload) ≡ length payload - count = length-drop count payload in
    let n : start (windows.Buffer slot) + at - start (windows.Buffer slot) ≡ at = omega arith in
    let part : take count (drop at end) ≡ take count (take count payload ++ drop (at + length (take count payload)) old) =
    part_same end new at count (front_stays new (at + count) (behind at count) rest (drop count payload) (omega arith) (omega arith))
    ∙ ap (λ (xs : List ℕ). take count xs) (part_set old at (take count payload) (omega arith)) in
    ap (λ (k : ℕ). take (length payload) (take count (drop k end) ++ joined slot end (segments_of slot (behind at count) rest))) n
    ∙ ap (λ (xs : List ℕ). take (length payload) (xs ++ joined slot end (segments_of slot (behind at count) rest))) part
    ∙ split_when count payload (drop (at + length (take count payload)) old) (joined slot end (segments_of slot (behind at count) rest)) _ refl
    (holds slot new (behind at count) rest (drop count payload) (omega arith) (omega arith))

-- What a request leaves.
lengths_fit : (count : ℕ) (segments : List ℕ) → count ≤ 16384 → sum segments ≤ count → length segments ≤ 64 → 0 + sum (lengths_of count segments) + 19 * length (lengths_of count segments) ≤ 32768
lengths_fit count [] c s l = let e = total count [] in omega arith
lengths_fit count (first ∷ rest) c s l = omega arith

data_filled : (m : Memory) (slot count : ℕ) (segments payload : List ℕ) → IsWhole m → slot < 32 → count ≤ 16384 → length payload ≤ count → sum segments ≤ count → length segments ≤ 64 → (slot_at (data_written m slot segments payload) slot).buffer ≡ filled (slot_at m slot).buffer 0 (lengths_of count segments) payload
data_filled m slot count [] payload whole s c p t l =
    buffer_set m slot 0 payload whole s ∙ ap (λ (xs : List ℕ). patch (slot_at m slot).buffer 0 xs) (sym (take_all count payload p))
data_filled m slot count (first ∷ rest) payload whole s c p t l = buffer_filled m slot 0 (first ∷ rest) payload whole s (omega arith)

data_stands : (m : Memory) (slot : ℕ) (asked : Asked) → IsWhole m → slot < 32 → IsRequest asked → length asked.payload ≤ sum (lengths_of asked.length asked.segments) → take (length asked.payload) (joined slot (slot_at (written m slot asked) slot).buffer (request_segments slot asked)) ≡ asked.payload
data_stands m slot asked whole s r p =
    let orb = with_bytes (with_armed m slot true) (windows.Orb slot) 0 (command_bytes (orb_of asked slot)) in
    let table = with_bytes orb (windows.Table slot) 0 (table_bytes slot 0 asked.segments) in
    let w = (parts m slot asked whole s r).table_whole in
    let size = w.sizes (windows.Buffer slot) in
    let fit = lengths_fit asked.length asked.segments r.short r.whole r.segments in
    ap (λ (buffer : List ℕ). take (length asked.payload) (joined slot buffer (request_segments slot asked))) (data_filled table slot asked.length asked.segments asked.payload w s r.short r.payload r.whole r.segments)
    ∙ holds slot (slot_at table slot).buffer 0 (lengths_of asked.length asked.segments) asked.payload (omega arith) p

pub data_law : DataLaw
data_law = record {
  apart = λ slot asked r. apart_from slot (start (windows.Buffer slot)) 0 (lengths_of asked.length asked.segments) (omega arith) (lengths_fit asked.length asked.segments r.short r.whole r.segments);
  stands = data_stands;
}
