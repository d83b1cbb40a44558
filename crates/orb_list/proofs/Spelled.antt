-- The image and the notes of a run, tied.
use Rattle.std.proofs.Common.{arith, ◌≡◌, refl, sym, ◌∙◌, ap, subst, ℕ, ◌+◌, ◌*◌, ◌/◌, ◌^◌, ◌<◌, ◌≤◌, ◌==◌, nat_eq, Bool, true, false, cond, List, [], ◌∷◌, ◌++◌, sum, length, take, drop, Option, Some, None, length-take}
use Rattle.std.proofs.lemmas.List.Sums.{sum_by-cons}
use Rattle.std.proofs.lemmas.Bool.Decides.{nat_tests}
use Rattle.std.proofs.lemmas.List.{append-nil, drop_all}
use Rattle.std.proofs.Math.Seq.{take-append_seam}
use Rattle.byteorder.specs.Endian.{big_bytes, big_number}
use Rattle.sbp_base.specs.Quadlets.{quad, with_quad}
use Rattle.bus_memory.specs.declared.slot.SlotMemory.{SlotMemory}
use Rattle.bus_memory.specs.declared.window.Window.{Window}
use Rattle.bus_memory.specs.declared.window.Window.TheVariants as windows
use Rattle.bus_memory.specs.Windows.{IsWindow}
use Rattle.bus_memory.specs.Memory.{Memory, slot_at, with_slot, with_armed, with_bytes, patch}
use Rattle.bus_memory.specs.Laws.{IsWhole}
use Rattle.bus_memory.proofs.Written.{slot_set, window_set, whole_set, whole_armed, armed_keeps}
use Rattle.orb_layout.specs.declared.pointer.OrbPointer.{OrbPointer}
use Rattle.orb_layout.specs.declared.pointer.OrbPointer.TheVariants.{Null, At}
use Rattle.orb_layout.specs.CommandOrbs.{command_bytes, command_options}
use Rattle.orb_layout.specs.Pointers.{bit, pointer_at, pointer_high, offset_at}
use Rattle.orb_list.specs.declared.slot.Slot.{Slot}
use Rattle.orb_list.specs.Tickets.{TicketParts}
use Rattle.orb_list.specs.Requests.{Asked, IsRequest}
use Rattle.orb_list.specs.Layout.{behind, data_size, orb_of, table_bytes, data_in_segments, data_written, written}
use Rattle.orb_list.specs.Table.{closed, low_of, high_of, as_dummy}
use Rattle.orb_list.specs.Kept.{Kept, new_kept, in_slot, next_is, low_is, is_dummy, orb_now, HoldsOrb, IfHoldsOrb}
use Rattle.orb_list.proofs.Closed.{closed_keeps}
use Rattle.orb_list.proofs.Held.{table_length}

-- The bytes of the ORB in a slot, from its pointer on.
abbrev pub LowFits : OrbPointer → ℕ → Type 0
LowFits Null low = Unit {0}
LowFits (At offset) low = (offset < 2 ^ 32) × (low ≡ offset)

pub record IsSpelled (o : Kept) (memory : SlotMemory) : Type 0 where
  pub orb : memory.orb ≡ big_bytes 4 (pointer_high o.next) ++ (big_bytes 4 o.low ++ drop 8 (command_bytes (orb_now o)))
  pub low : LowFits o.next o.low
  pub table : take (8 * length o.asked.segments) memory.table ≡ table_bytes o.ticket.slot 0 o.asked.segments
  pub format : o.format < 4
  pub max_payload : o.asked.max_payload < 2 ^ 4
  pub size : data_size o.asked.length o.asked.segments < 2 ^ 16

abbrev pub IfSpelled : Option Kept → SlotMemory → Type 0
IfSpelled None memory = Unit {0}
IfSpelled (Some o) memory = IsSpelled o memory

pointer_read : (next : OrbPointer) (low : ℕ) (rest : List ℕ) → LowFits next low → pointer_at (big_bytes 4 (pointer_high next) ++ (big_bytes 4 low ++ rest)) 0 ≡ next
pointer_read Null low rest f = refl
pointer_read (At offset) low rest f =
    let small : offset < 2 ^ 32 = f.0 in
    let same : low ≡ offset = f.1 in
    let bytes = big_bytes 4 (pointer_high (At offset)) ++ (big_bytes 4 low ++ rest) in
    let some : (quad bytes 0 / 2 ^ 31 == 1) ≡ false = grind (arith, nat_tests) in
    let place : offset_at bytes 0 ≡ offset = omega arith in
    rw some (ap (λ (n : ℕ). At n) place)

served_of : (o : Kept) (memory : SlotMemory) → IsSpelled o memory → HoldsOrb o memory
served_of o memory s = record {
  pointer = ap (λ (l : List ℕ). pointer_at l 0) s.orb ∙ pointer_read o.next o.low (drop 8 (command_bytes (orb_now o))) s.low;
  orb = s.orb;
  table = s.table;
}

pub if_served : (found : Option Kept) (memory : SlotMemory) → IfSpelled found memory → IfHoldsOrb found memory
if_served None memory s = tt
if_served (Some o) memory s = served_of o memory s

-- What leaves the ORB and the page table leaves the spelling.
pub spelled_same : (found : Option Kept) (a b : SlotMemory) → b.orb ≡ a.orb → b.table ≡ a.table → IfSpelled found a → IfSpelled found b
spelled_same None a b e f s = tt
spelled_same (Some o) a b e f s = record { orb = e ∙ s.orb; low = s.low; table = ap (λ (l : List ℕ). take (8 * length o.asked.segments) l) f ∙ s.table; format = s.format; max_payload = s.max_payload; size = s.size }

-- The low quadlet of a link is written, then the high one.
pub spelled_low : (o : Kept) (memory : SlotMemory) (t : TicketParts) → o.next ≡ Null → IsSpelled o memory → IsSpelled (low_is t o) (record memory { orb = with_quad memory.orb 4 (low_of t) })
spelled_low o memory t n s = record {
  orb = ap (λ (l : List ℕ). with_quad l 4 (low_of t)) s.orb;
  low = subst (λ (p : OrbPointer). LowFits p (low_of t)) (sym n) tt;
  table = s.table;
  format = s.format;
  max_payload = s.max_payload;
  size = s.size;
}

pub spelled_high : (o : Kept) (memory : SlotMemory) (t : TicketParts) → t.slot < 32 → o.low ≡ low_of t → IsSpelled o memory → IsSpelled (next_is t o) (record memory { orb = with_quad memory.orb 0 (high_of t) })
spelled_high o memory t b e s = record {
  orb = ap (λ (l : List ℕ). with_quad l 0 (high_of t)) s.orb;
  low = (omega arith, omega arith);
  table = s.table;
  format = s.format;
  max_payload = s.max_payload;
  size = s.size;
}

-- An ORB becomes a dummy.
bit_most : (b : Bool) → bit b ≤ 1
bit_most true = omega arith
bit_most false = omega arith

dummy_options : (o : Kept) → o.format < 4 → o.asked.max_payload < 2 ^ 4 → data_size o.asked.length o.asked.segments < 2 ^ 16 → as_dummy (command_options (orb_now o)) ≡ command_options (orb_now (is_dummy o))
dummy_options o f p z =
    let a = bit_most (orb_now o).to_initiator in
    let b = bit_most (orb_now o).has_table in
    omega arith

options_small : (o : Kept) → o.format < 4 → o.asked.max_payload < 2 ^ 4 → data_size o.asked.length o.asked.segments < 2 ^ 16 → command_options (orb_now o) < 2 ^ 32
options_small o f p z =
    let a = bit_most (orb_now o).to_initiator in
    let b = bit_most (orb_now o).has_table in
    omega arith

quad_back : (n : ℕ) (rest : List ℕ) → n < 2 ^ 32 → big_number 4 (big_bytes 4 n ++ rest) ≡ n
quad_back n rest h = omega arith

pub spelled_dummy : (o : Kept) (memory : SlotMemory) → IsSpelled o memory → IsSpelled (is_dummy o) (record memory { orb = with_quad memory.orb 16 (as_dummy (quad memory.orb 16)) })
spelled_dummy o memory s =
    let q : quad memory.orb 16 ≡ command_options (orb_now o) =
    ap (λ (l : List ℕ). quad l 16) s.orb ∙ quad_back (command_options (orb_now o)) (orb_now o).cdb (options_small o s.format s.max_payload s.size) in
    let d : as_dummy (quad memory.orb 16) ≡ command_options (orb_now (is_dummy o)) = ap as_dummy q ∙ dummy_options o s.format s.max_payload s.size in
    record {
      orb = ap (λ (l : List ℕ). with_quad l 16 (as_dummy (quad memory.orb 16))) s.orb
          ∙ ap (λ (n : ℕ). with_quad (big_bytes 4 (pointer_high o.next) ++ (big_bytes 4 o.low ++ drop 8 (command_bytes (orb_now o)))) 16 n) d;
      low = s.low;
      table = s.table;
      format = omega arith;
      max_payload = s.max_payload;
      size = s.size;
    }

-- A change of the ORB in one slot.
pub spelled_slot : (m : Memory) (b j : ℕ) (x : SlotMemory) (f : Kept → Kept) (found : Option Kept) (same : Bool) → nat_eq j b ≡ same → b < length m.slots → ((o : Kept) → found ≡ Some o → j ≡ b → IsSpelled o (slot_at m j) → IsSpelled (f o) x) → IfSpelled found (slot_at m j) → IfSpelled (in_slot b j f found) (slot_at (with_slot m b x) j)
spelled_slot m b j x f None same e l g s = tt
spelled_slot m b j x f (Some o) true e l g s =
    let n : j ≡ b = grind (arith, nat_tests) in
    let at : slot_at (with_slot m b x) j ≡ x = slot_set m b j x l ∙ rw e refl in
    let t : cond (nat_eq j b) (f o) o ≡ f o = rw e refl in
    subst (λ (p : Kept). IsSpelled p (slot_at (with_slot m b x) j)) (sym t) (subst (λ (y : SlotMemory). IsSpelled (f o) y) (sym at) (g o refl n s))
spelled_slot m b j x f (Some o) false e l g s =
    let at : slot_at (with_slot m b x) j ≡ slot_at m j = slot_set m b j x l ∙ rw e refl in
    let t : cond (nat_eq j b) (f o) o ≡ o = rw e refl in
    subst (λ (p : Kept). IsSpelled p (slot_at (with_slot m b x) j)) (sym t) (subst (λ (y : SlotMemory). IsSpelled o y) (sym at) s)

-- Closing leaves the ORBs and the page tables.
pub spelled_closed : (slots : List Slot) (m : Memory) (j : ℕ) (found : Option Kept) → IfSpelled found (slot_at m j) → IfSpelled found (slot_at (closed slots m) j)
spelled_closed slots m j found s =
    spelled_same found (slot_at m j) (slot_at (closed slots m) j) (closed_keeps slots m (windows.Orb j)) (closed_keeps slots m (windows.Table j)) s

-- Writes to buffers, responses and places of management leave them too.
abbrev pub IsData : Window → Type 0
IsData windows.Rom = ⊥
IsData (windows.Orb k) = ⊥
IsData (windows.Table k) = ⊥
IsData (windows.Buffer k) = Unit {0}
IsData (windows.Management p) = Unit {0}
IsData (windows.Response p) = Unit {0}

pub data_orb : (m : Memory) (w : Window) (at : ℕ) (bytes : List ℕ) (j : ℕ) → IsData w → IsWhole m → IsWindow w → (slot_at (with_bytes m w at bytes) j).orb ≡ (slot_at m j).orb
data_orb m (windows.Buffer k) at bytes j d h w = window_set m (windows.Buffer k) at bytes (windows.Orb j) h.slots h.places w
data_orb m (windows.Response p) at bytes j d h w = refl
data_orb m windows.Rom at bytes j d h w = absurd d
data_orb m (windows.Orb k) at bytes j d h w = absurd d
data_orb m (windows.Table k) at bytes j d h w = absurd d
data_orb m (windows.Management p) at bytes j d h w = refl

pub data_table : (m : Memory) (w : Window) (at : ℕ) (bytes : List ℕ) (j : ℕ) → IsData w → IsWhole m → IsWindow w → (slot_at (with_bytes m w at bytes) j).table ≡ (slot_at m j).table
data_table m (windows.Buffer k) at bytes j d h w = window_set m (windows.Buffer k) at bytes (windows.Table j) h.slots h.places w
data_table m (windows.Response p) at bytes j d h w = refl
data_table m windows.Rom at bytes j d h w = absurd d
data_table m (windows.Orb k) at bytes j d h w = absurd d
data_table m (windows.Table k) at bytes j d h w = absurd d
data_table m (windows.Management p) at bytes j d h w = refl

pub spelled_data : (m : Memory) (w : Window) (at : ℕ) (bytes : List ℕ) (j : ℕ) (found : Option Kept) → IsData w → IsWhole m → IsWindow w → IfSpelled found (slot_at m j) → IfSpelled found (slot_at (with_bytes m w at bytes) j)
spelled_data m w at bytes j found d h x s =
    spelled_same found (slot_at m j) (slot_at (with_bytes m w at bytes) j) (data_orb m w at bytes j d h x) (data_table m w at bytes j d h x) s

-- What a request leaves in a slot.
record SameOrbs (m n : Memory) : Type 0 where
  whole : IsWhole n
  orb : (j : ℕ) → (slot_at n j).orb ≡ (slot_at m j).orb
  table : (j : ℕ) → (slot_at n j).table ≡ (slot_at m j).table

same_more : (m n : Memory) (slot at : ℕ) (bytes : List ℕ) → SameOrbs m n → slot < 32 → at + length bytes ≤ 32768 → SameOrbs m (with_bytes n (windows.Buffer slot) at bytes)
same_more m n slot at bytes i s h = record {
  whole = whole_set n (windows.Buffer slot) at bytes i.whole s h;
  orb = λ j. data_orb n (windows.Buffer slot) at bytes j tt i.whole s ∙ i.orb j;
  table = λ j. data_table n (windows.Buffer slot) at bytes j tt i.whole s ∙ i.table j;
}

same_segments : (m n : Memory) (slot at : ℕ) (segments payload : List ℕ) → SameOrbs m n → slot < 32 → at + sum segments + 19 * length segments ≤ 32768 → SameOrbs m (data_in_segments n slot at segments payload)
same_segments m n slot at [] payload i s h = i
same_segments m n slot at (count ∷ rest) payload i s h =
    let l : length (take count payload) ≤ count = simp length-take (omega arith) in
    let e : sum (count ∷ rest) ≡ count + sum rest = sum_by-cons (λ x. x) count rest in
    same_segments m (with_bytes n (windows.Buffer slot) at (take count payload)) slot (behind at count) rest (drop count payload)
    (same_more m n slot at (take count payload) i s (omega arith)) s (omega arith)

same_data : (m : Memory) (slot : ℕ) (segments payload : List ℕ) → IsWhole m → slot < 32 → length payload ≤ 16384 → sum segments ≤ 16384 → length segments ≤ 64 → SameOrbs m (data_written m slot segments payload)
same_data m slot [] payload w s p h l = same_more m m slot 0 payload (record { whole = w; orb = λ j. refl; table = λ j. refl }) s (omega arith)
same_data m slot (first ∷ rest) payload w s p h l = same_segments m m slot 0 (first ∷ rest) payload (record { whole = w; orb = λ j. refl; table = λ j. refl }) s (omega arith)

-- What a request that is written leaves in each slot.
pub record Parts (m : Memory) (k : ℕ) (asked : Asked) : Type 0 where
  pub orb_whole : IsWhole (with_bytes (with_armed m k true) (windows.Orb k) 0 (command_bytes (orb_of asked k)))
  pub table_whole : IsWhole (with_bytes (with_bytes (with_armed m k true) (windows.Orb k) 0 (command_bytes (orb_of asked k))) (windows.Table k) 0 (table_bytes k 0 asked.segments))

pub parts : (m : Memory) (k : ℕ) (asked : Asked) → IsWhole m → k < 32 → IsRequest asked → Parts m k asked
parts m k asked whole s r =
    let armed = with_armed m k true in
    let orb = with_bytes armed (windows.Orb k) 0 (command_bytes (orb_of asked k)) in
    let c = r.cdb in
    let n = r.segments in
    let t = table_length k 0 asked.segments in
    let a = whole_set armed (windows.Orb k) 0 (command_bytes (orb_of asked k)) (whole_armed m k true whole s) s (omega arith) in
    record { orb_whole = a; table_whole = whole_set orb (windows.Table k) 0 (table_bytes k 0 asked.segments) a s (omega arith) }

written_same : (m : Memory) (k : ℕ) (asked : Asked) → IsWhole m → k < 32 → IsRequest asked → SameOrbs (with_bytes (with_bytes (with_armed m k true) (windows.Orb k) 0 (command_bytes (orb_of asked k))) (windows.Table k) 0 (table_bytes k 0 asked.segments)) (written m k asked)
written_same m k asked whole s r =
    let p = parts m k asked whole s r in
    let n = r.segments in
    let q = r.payload in
    let h = r.short in
    let w = r.whole in
    same_data (with_bytes (with_bytes (with_armed m k true) (windows.Orb k) 0 (command_bytes (orb_of asked k))) (windows.Table k) 0 (table_bytes k 0 asked.segments)) k asked.segments asked.payload p.table_whole s (omega arith) (omega arith) n

written_orb : (m : Memory) (k j : ℕ) (asked : Asked) → IsWhole m → k < 32 → IsRequest asked → (slot_at (written m k asked) j).orb ≡ cond (nat_eq k j) (patch (slot_at m j).orb 0 (command_bytes (orb_of asked k))) (slot_at m j).orb
written_orb m k j asked whole s r =
    let armed = with_armed m k true in
    let a = whole_armed m k true whole s in
    let p = parts m k asked whole s r in
    (written_same m k asked whole s r).orb j
    ∙ window_set (with_bytes armed (windows.Orb k) 0 (command_bytes (orb_of asked k))) (windows.Table k) 0 (table_bytes k 0 asked.segments) (windows.Orb j) p.orb_whole.slots p.orb_whole.places s
    ∙ window_set armed (windows.Orb k) 0 (command_bytes (orb_of asked k)) (windows.Orb j) a.slots a.places s
    ∙ ap (λ (l : List ℕ). cond (nat_eq k j) (patch l 0 (command_bytes (orb_of asked k))) l) (armed_keeps m k true (windows.Orb j) whole.slots s)

written_table : (m : Memory) (k j : ℕ) (asked : Asked) → IsWhole m → k < 32 → IsRequest asked → (slot_at (written m k asked) j).table ≡ cond (nat_eq k j) (patch (slot_at m j).table 0 (table_bytes k 0 asked.segments)) (slot_at m j).table
written_table m k j asked whole s r =
    let armed = with_armed m k true in
    let a = whole_armed m k true whole s in
    let p = parts m k asked whole s r in
    (written_same m k asked whole s r).table j
    ∙ window_set (with_bytes armed (windows.Orb k) 0 (command_bytes (orb_of asked k))) (windows.Table k) 0 (table_bytes k 0 asked.segments) (windows.Table j) p.orb_whole.slots p.orb_whole.places s
    ∙ ap (λ (l : List ℕ). cond (nat_eq k j) (patch l 0 (table_bytes k 0 asked.segments)) l)
    (window_set armed (windows.Orb k) 0 (command_bytes (orb_of asked k)) (windows.Table j) a.slots a.places s ∙ armed_keeps m k true (windows.Table j) whole.slots s)

whole_patch : (old bytes : List ℕ) → length bytes ≡ length old → patch old 0 bytes ≡ bytes
whole_patch old bytes l =
    ap (λ (r : List ℕ). bytes ++ r) (drop_all (0 + length bytes) old (omega arith)) ∙ append-nil bytes

front_patch : (old bytes : List ℕ) (n : ℕ) → length bytes ≡ n → take n (patch old 0 bytes) ≡ bytes
front_patch old bytes n l = ap (λ (k : ℕ). take k (patch old 0 bytes)) (sym l) ∙ take-append_seam bytes (drop (0 + length bytes) old)

size_small : (count : ℕ) (segments : List ℕ) → count ≤ 16384 → length segments ≤ 64 → data_size count segments < 2 ^ 16
size_small count [] c s = omega arith
size_small count (first ∷ rest) c s = omega arith

spelled_here : (m : Memory) (k j : ℕ) (t : TicketParts) (asked : Asked) → IsWhole m → k < 32 → IsRequest asked → t.slot ≡ k → j ≡ k → IsSpelled (new_kept t asked) (slot_at (written m k asked) j)
spelled_here m k j t asked whole s r e f =
    let same : nat_eq k j ≡ true = grind (arith, nat_tests) in
    let c = r.cdb in
    let old = whole.sizes (windows.Orb j) in
    let size : length (command_bytes (orb_of asked k)) ≡ length (slot_at m j).orb = omega arith in
    let orb = written_orb m k j asked whole s r ∙ ap (λ (b : Bool). cond b (patch (slot_at m j).orb 0 (command_bytes (orb_of asked k))) (slot_at m j).orb) same ∙ whole_patch (slot_at m j).orb (command_bytes (orb_of asked k)) size in
    let table = written_table m k j asked whole s r ∙ ap (λ (b : Bool). cond b (patch (slot_at m j).table 0 (table_bytes k 0 asked.segments)) (slot_at m j).table) same in
    record {
      orb = orb ∙ ap (λ (n : ℕ). command_bytes (orb_of asked n)) (sym e);
      low = tt;
      table =
          ap (λ (l : List ℕ). take (8 * length asked.segments) l) table
          ∙ front_patch (slot_at m j).table (table_bytes k 0 asked.segments) (8 * length asked.segments) (table_length k 0 asked.segments)
          ∙ ap (λ (n : ℕ). table_bytes n 0 asked.segments) (sym e);
      format = omega arith;
      max_payload = r.max_payload;
      size = size_small asked.length asked.segments r.short r.segments;
    }

spelled_other : (m : Memory) (k j : ℕ) (asked : Asked) (found : Option Kept) → IsWhole m → k < 32 → IsRequest asked → nat_eq j k ≡ false → IfSpelled found (slot_at m j) → IfSpelled found (slot_at (written m k asked) j)
spelled_other m k j asked found whole s r e i =
    let other : nat_eq k j ≡ false = grind (arith, nat_tests) in
    spelled_same found (slot_at m j) (slot_at (written m k asked) j)
    (written_orb m k j asked whole s r ∙ ap (λ (b : Bool). cond b (patch (slot_at m j).orb 0 (command_bytes (orb_of asked k))) (slot_at m j).orb) other)
    (written_table m k j asked whole s r ∙ ap (λ (b : Bool). cond b (patch (slot_at m j).table 0 (table_bytes k 0 asked.segments)) (slot_at m j).table) other)
    i

pub spelled_written : (m : Memory) (k j : ℕ) (t : TicketParts) (asked : Asked) (found : Option Kept) (b : Bool) → nat_eq j k ≡ b → IsWhole m → k < 32 → IsRequest asked → t.slot ≡ k → IfSpelled found (slot_at m j) → IfSpelled (cond b (Some (new_kept t asked)) found) (slot_at (written m k asked) j)
spelled_written m k j t asked found true e whole s r f i = spelled_here m k j t asked whole s r f (grind (arith, nat_tests))
spelled_written m k j t asked found false e whole s r f i = spelled_other m k j asked found whole s r e i
