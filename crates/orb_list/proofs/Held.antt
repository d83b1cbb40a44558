-- That a memory holds its slots, step by step.
use Rattle.std.proofs.Common.{arith, ◌≡◌, refl, sym, ◌∙◌, ap, subst, ℕ, ◌+◌, ◌*◌, ◌<◌, ◌≤◌, ◌&&◌, not, nat_eq, Bool, true, false, cond, sum, List, [], ◌∷◌, length, map, take, drop, replicate, slice_set, Option, Some, None, length-take}
use Rattle.std.proofs.lemmas.Bool.Decides.{nat_tests}
use Rattle.std.proofs.lemmas.List.{get_or-map, length-map}
use Rattle.std.proofs.lemmas.List.Sums.{sum_by-cons}
use Rattle.byteorder.specs.Endian.{big_bytes}
use Rattle.bus_memory.specs.declared.slot.SlotMemory.{SlotMemory}
use Rattle.bus_memory.specs.declared.window.Window.{Window}
use Rattle.bus_memory.specs.declared.window.Window.TheVariants as windows
use Rattle.bus_memory.specs.Windows.{IsWindow}
use Rattle.bus_memory.specs.Memory.{Memory, new_memory, slot_at, with_slot, with_armed, with_bytes}
use Rattle.bus_memory.specs.Laws.{IsWhole, size}
use Rattle.bus_memory.proofs.Written.{replicated, last_set_law, parts_law, slot_set, whole_set, whole_armed}
use Rattle.orb_layout.specs.CommandOrbs.{command_bytes}
use Rattle.orb_list.specs.declared.list.Link.{Link}
use Rattle.orb_list.specs.declared.list.Link.TheVariants as links
use Rattle.orb_list.specs.declared.list.Linking.{Linking}
use Rattle.orb_list.specs.declared.list.PresentList.{PresentList}
use Rattle.orb_list.specs.declared.slot.SlotState.{SlotState}
use Rattle.orb_list.specs.declared.slot.SlotState.TheVariants as states
use Rattle.orb_list.specs.declared.slot.Slot.{Slot}
use Rattle.orb_list.specs.Tickets.{TicketParts}
use Rattle.orb_list.specs.Requests.{Asked, IsRequest}
use Rattle.orb_list.specs.Layout.{behind, table_bytes, orb_of, data_in_segments, data_written, written}
use Rattle.orb_list.specs.Table.{unused, slot_in, is_free, free_state, is_over, released, freed, closed, low_in, high_in, waits_low, waits_high, waits_in, waiting, state_after, with_orb_quad}
use Rattle.orb_list.specs.Holds.{IsBefore, HoldsLink, KeepsLink, HoldsPresent, HoldsSlots}
use Rattle.orb_list.proofs.Closed.{closed_at, closed_whole}
use Rattle.orb_layout.specs.declared.status.StatusBlock.{StatusBlock}
use Rattle.orb_list.proofs.Sound.{slot_after, state_held}

abbrev linking_of : ℕ → TicketParts → Linking
linking_of before tail = record { before = before; tail = tail }

-- The ORB before the one that is linked.
low_before_in : (slots : List Slot) (tail : TicketParts) (link : Link) (linking : Linking) → HoldsLink slots tail link → low_in link tail ≡ Some linking → IsBefore slots linking.tail linking.before
low_before_in slots tail links.Done linking h e = cc
low_before_in slots tail (links.High b) linking h e = cc
low_before_in slots tail (links.Low b) linking h e =
    let f : Some (linking_of b tail) ≡ Some linking = e in
    let g : linking_of b tail ≡ linking = cc in
    subst (λ (l : Linking). IsBefore slots l.tail l.before) g h

high_before_in : (slots : List Slot) (tail : TicketParts) (link : Link) (linking : Linking) → HoldsLink slots tail link → high_in link tail ≡ Some linking → IsBefore slots linking.tail linking.before
high_before_in slots tail links.Done linking h e = cc
high_before_in slots tail (links.Low b) linking h e = cc
high_before_in slots tail (links.High b) linking h e =
    let f : Some (linking_of b tail) ≡ Some linking = e in
    let g : linking_of b tail ≡ linking = cc in
    subst (λ (l : Linking). IsBefore slots l.tail l.before) g h

pub low_before : (slots : List Slot) (acts : ℕ) (present : Option PresentList) (linking : Linking) → HoldsPresent slots acts present → waits_low present ≡ Some linking → IsBefore slots linking.tail linking.before
low_before slots acts None linking h e = cc
low_before slots acts (Some list) linking h e = low_before_in slots list.tail list.link linking h.link e

pub high_before : (slots : List Slot) (acts : ℕ) (present : Option PresentList) (linking : Linking) → HoldsPresent slots acts present → waits_high present ≡ Some linking → IsBefore slots linking.tail linking.before
high_before slots acts None linking h e = cc
high_before slots acts (Some list) linking h e = high_before_in slots list.tail list.link linking h.link e

low_keeps_in : (slots : List Slot) (tail : TicketParts) (link : Link) (linking : Linking) → low_in link tail ≡ Some linking → IsBefore slots linking.tail linking.before → IsBefore slots tail linking.before
low_keeps_in slots tail links.Done linking e b = cc
low_keeps_in slots tail (links.High n) linking e b = cc
low_keeps_in slots tail (links.Low n) linking e b =
    let f : Some (linking_of n tail) ≡ Some linking = e in
    let g : linking.tail ≡ tail = let k : linking_of n tail ≡ linking = cc in sym (ap (λ (l : Linking). l.tail) k) in
    subst (λ (t : TicketParts). IsBefore slots t linking.before) g b

pub keeps_high : (slots : List Slot) (present : Option PresentList) (linking : Linking) → waits_low present ≡ Some linking → IsBefore slots linking.tail linking.before → KeepsLink slots present (links.High linking.before)
keeps_high slots None linking e b = cc
keeps_high slots (Some list) linking e b = low_keeps_in slots list.tail list.link linking e b

pub before_small : (slots : List Slot) (tail : TicketParts) (number : ℕ) → IsBefore slots tail number → number < 32
before_small slots tail number b = b.in_slot.below

pub armed_held : (slots : List Slot) (m : Memory) (number : ℕ) → HoldsSlots slots m → number < 32 → is_free (slot_in slots number) ≡ false → (slot_at m number).is_armed ≡ true
armed_held slots m number h s f = h.armed number s ∙ ap not f

pub before_armed : (slots : List Slot) (m : Memory) (tail : TicketParts) (number : ℕ) → HoldsSlots slots m → IsBefore slots tail number → (slot_at m number).is_armed ≡ true
before_armed slots m tail number h b = armed_held slots m number h b.in_slot.below b.in_slot.held

-- Bytes that are written leave what is armed.
armed_at : (m : Memory) (k t : ℕ) (x : SlotMemory) (b : Bool) → nat_eq t k ≡ b → k < length m.slots → x.is_armed ≡ (slot_at m k).is_armed → (slot_at (with_slot m k x) t).is_armed ≡ (slot_at m t).is_armed
armed_at m k t x true e h a =
    let n : t ≡ k = grind (arith, nat_tests) in
    ap (λ (s : SlotMemory). s.is_armed) (slot_set m k t x h) ∙ rw e refl ∙ a ∙ ap (λ (j : ℕ). (slot_at m j).is_armed) (sym n)
armed_at m k t x false e h a = ap (λ (s : SlotMemory). s.is_armed) (slot_set m k t x h) ∙ rw e refl

pub armed_stays : (m : Memory) (window : Window) (at : ℕ) (bytes : List ℕ) (t : ℕ) → length m.slots ≡ 32 → IsWindow window → (slot_at (with_bytes m window at bytes) t).is_armed ≡ (slot_at m t).is_armed
armed_stays m windows.Rom at bytes t l w = refl
armed_stays m (windows.Management p) at bytes t l w = refl
armed_stays m (windows.Response p) at bytes t l w = refl
armed_stays m (windows.Orb k) at bytes t l w = armed_at m k t _ _ refl (omega arith) refl
armed_stays m (windows.Table k) at bytes t l w = armed_at m k t _ _ refl (omega arith) refl
armed_stays m (windows.Buffer k) at bytes t l w = armed_at m k t _ _ refl (omega arith) refl

pub held_quad : (slots : List Slot) (m : Memory) (k at value : ℕ) → HoldsSlots slots m → k < 32 → at + 4 ≤ 32 → HoldsSlots slots (with_orb_quad m k at value)
held_quad slots m k at value h s i = record {
  whole = whole_set m (windows.Orb k) at (big_bytes 4 value) h.whole s i;
  armed = λ number b. armed_stays m (windows.Orb k) at (big_bytes 4 value) number h.whole.slots s ∙ h.armed number b;
}

-- Slots that are freed are closed.
free_both : (a b : Bool) → (a ≡ true → b ≡ true) → (not a && not b) ≡ not b
free_both true b f = let e = f refl in rw e refl
free_both false b f = refl

held_closed : (slots others : List Slot) (m : Memory) → HoldsSlots slots m → length others ≡ 32 → ((k : ℕ) → k < 32 → is_free (slot_in slots k) ≡ true → is_free (slot_in others k) ≡ true) → HoldsSlots others (closed others m)
held_closed slots others m h l f = record {
  whole = closed_whole others m h.whole;
  armed = λ number b.
      let w = h.whole.slots in
      ap (λ (s : SlotMemory). s.is_armed) (closed_at others m number (omega arith) (omega arith))
      ∙ ap (λ (a : Bool). a && not (is_free (slot_in others number))) (h.armed number b)
      ∙ free_both (is_free (slot_in slots number)) (is_free (slot_in others number)) (f number b);
}

over_free : (b : Bool) (slot : Slot) → is_free slot ≡ true → is_free (cond b (freed slot) slot) ≡ true
over_free true slot f = refl
over_free false slot f = f

released_free : (present : Option PresentList) (pinned : Option TicketParts) (slot : Slot) → is_free slot ≡ true → is_free (released present pinned slot) ≡ true
unfolding released
released_free None pinned slot f = f
released_free (Some list) pinned slot f = over_free (is_over list pinned slot) slot f

pub held_released : (slots : List Slot) (present : Option PresentList) (pinned : Option TicketParts) (m : Memory) → length slots ≡ 32 → HoldsSlots slots m → HoldsSlots (map (released present pinned) slots) (closed (map (released present pinned) slots) m)
held_released slots present pinned m l h =
    held_closed slots (map (released present pinned) slots) m h (length-map slots (released present pinned) ∙ l)
    (λ k b f. ap (λ (s : Slot). is_free s) (get_or-map (released present pinned) slots k unused unused (omega arith)) ∙ released_free present pinned (slot_in slots k) f)

pub held_freed : (slots : List Slot) (m : Memory) → length slots ≡ 32 → HoldsSlots slots m → HoldsSlots (map freed slots) (closed (map freed slots) m)
held_freed slots m l h =
    held_closed slots (map freed slots) m h (length-map slots freed ∙ l)
    (λ k b f. ap (λ (s : Slot). is_free s) (get_or-map freed slots k unused unused (omega arith)))

-- A slot in use goes on to be held.
held_at : (slots : List Slot) (k t : ℕ) (x : Slot) (b : Bool) → nat_eq t k ≡ b → k < length slots → is_free x ≡ is_free (slot_in slots k) → is_free (slot_in (slice_set slots k x) t) ≡ is_free (slot_in slots t)
held_at slots k t x true e h f =
    let n : t ≡ k = grind (arith, nat_tests) in
    ap (λ (s : Slot). is_free s) (slot_after slots k t x h) ∙ rw e refl ∙ f ∙ ap (λ (j : ℕ). is_free (slot_in slots j)) (sym n)
held_at slots k t x false e h f = ap (λ (s : Slot). is_free s) (slot_after slots k t x h) ∙ rw e refl

pub held_set : (slots : List Slot) (m : Memory) (k : ℕ) (x : Slot) → k < length slots → is_free x ≡ is_free (slot_in slots k) → HoldsSlots slots m → HoldsSlots (slice_set slots k x) m
held_set slots m k x l f h = record { whole = h.whole; armed = λ number b. h.armed number b ∙ ap not (sym (held_at slots k number x _ refl l f)) }

sum-cons : (count : ℕ) (rest : List ℕ) → sum (count ∷ rest) ≡ count + sum rest
sum-cons count rest = sum_by-cons (λ x. x) count rest

waits_held : (state : SlotState) (last : Option TicketParts) (t : TicketParts) → waits_in state last ≡ Some t → free_state state ≡ false
waits_held states.Free last t e = cc
waits_held states.Waiting last t e = refl
waits_held (states.Taken had_next) last t e = refl
waits_held states.Resting last t e = refl

-- What a request that is written keeps.
pub record Keeps (m n : Memory) : Type 0 where
  pub whole : IsWhole n
  pub armed : (t : ℕ) → (slot_at n t).is_armed ≡ (slot_at m t).is_armed

keeps_bytes : (m n : Memory) (window : Window) (at : ℕ) (bytes : List ℕ) → Keeps m n → IsWindow window → at + length bytes ≤ size n window → Keeps m (with_bytes n window at bytes)
keeps_bytes m n window at bytes k w h = record {
  whole = whole_set n window at bytes k.whole w h;
  armed = λ t. armed_stays n window at bytes t k.whole.slots w ∙ k.armed t;
}

keeps_segments : (m n : Memory) (slot at : ℕ) (segments payload : List ℕ) → Keeps m n → slot < 32 → at + sum segments + 19 * length segments ≤ 32768 → Keeps m (data_in_segments n slot at segments payload)
keeps_segments m n slot at [] payload k s h = k
keeps_segments m n slot at (count ∷ rest) payload k s h =
    let l : length (take count payload) ≤ count = simp length-take (omega arith) in
    let e : sum (count ∷ rest) ≡ count + sum rest = sum-cons count rest in
    keeps_segments m (with_bytes n (windows.Buffer slot) at (take count payload)) slot (behind at count) rest (drop count payload)
    (keeps_bytes m n (windows.Buffer slot) at (take count payload) k s (omega arith)) s (omega arith)

keeps_data : (m n : Memory) (slot : ℕ) (segments payload : List ℕ) → Keeps m n → slot < 32 → length payload ≤ 16384 → sum segments ≤ 16384 → length segments ≤ 64 → Keeps m (data_written n slot segments payload)
keeps_data m n slot [] payload k s p h l = keeps_bytes m n (windows.Buffer slot) 0 payload k s (omega arith)
keeps_data m n slot (first ∷ rest) payload k s p h l = keeps_segments m n slot 0 (first ∷ rest) payload k s (omega arith)

pub table_length : (slot at : ℕ) (segments : List ℕ) → length (table_bytes slot at segments) ≡ 8 * length segments
table_length slot at [] = refl
table_length slot at (count ∷ rest) = let e = table_length slot (behind at count) rest in omega arith

pub keeps_written : (m : Memory) (slot : ℕ) (asked : Asked) → IsWhole m → slot < 32 → IsRequest asked → Keeps (with_armed m slot true) (written m slot asked)
keeps_written m slot asked whole s r =
    let armed = with_armed m slot true in
    let orb = with_bytes armed (windows.Orb slot) 0 (command_bytes (orb_of asked slot)) in
    let a : Keeps armed armed = record { whole = whole_armed m slot true whole s; armed = λ t. refl } in
    let c = r.cdb in
    let b : Keeps armed orb = keeps_bytes armed armed (windows.Orb slot) 0 (command_bytes (orb_of asked slot)) a s (omega arith) in
    let t = table_length slot 0 asked.segments in
    let n = r.segments in
    let p = r.payload in
    let q = r.short in
    let w = r.whole in
    keeps_data armed (with_bytes orb (windows.Table slot) 0 (table_bytes slot 0 asked.segments)) slot asked.segments asked.payload
    (keeps_bytes armed orb (windows.Table slot) 0 (table_bytes slot 0 asked.segments) b s (omega arith)) s (omega arith) (omega arith) n

armed_here : (m : Memory) (slot t : ℕ) (b : Bool) → nat_eq t slot ≡ b → slot < length m.slots → (slot_at (with_armed m slot true) t).is_armed ≡ cond b true (slot_at m t).is_armed
armed_here m slot t true e h = ap (λ (s : SlotMemory). s.is_armed) (slot_set m slot t _ h) ∙ rw e refl
armed_here m slot t false e h = ap (λ (s : SlotMemory). s.is_armed) (slot_set m slot t _ h) ∙ rw e refl

held_here : (slots : List Slot) (slot t : ℕ) (x : Slot) (b a : Bool) → nat_eq t slot ≡ b → slot < length slots → is_free x ≡ false → a ≡ not (is_free (slot_in slots t)) → cond b true a ≡ not (is_free (slot_in (slice_set slots slot x) t))
held_here slots slot t x true a e h f i = sym (ap (λ (s : Slot). not (is_free s)) (slot_after slots slot t x h) ∙ rw e (ap not f))
held_here slots slot t x false a e h f i = i ∙ sym (ap (λ (s : Slot). not (is_free s)) (slot_after slots slot t x h) ∙ rw e refl)

pub held_written : (slots : List Slot) (m : Memory) (slot : ℕ) (x : Slot) (asked : Asked) → length slots ≡ 32 → HoldsSlots slots m → slot < 32 → is_free x ≡ false → IsRequest asked → HoldsSlots (slice_set slots slot x) (written m slot asked)
held_written slots m slot x asked l h s f r =
    let k = keeps_written m slot asked h.whole s r in
    let w = h.whole.slots in
    record {
      whole = k.whole;
      armed = λ number b.
          k.armed number ∙ armed_here m slot number _ refl (omega arith)
          ∙ held_here slots slot number x _ _ refl (omega arith) f (h.armed number b);
    }

pub waiting_held : (slot : Slot) (t : TicketParts) → waiting slot ≡ Some t → is_free slot ≡ false
waiting_held slot t e = waits_held slot.state slot.last t e

pub held_status : (slots : List Slot) (m : Memory) (k : ℕ) (block : StatusBlock) → length slots ≡ 32 → k < 32 → is_free (slot_in slots k) ≡ false → HoldsSlots slots m → HoldsSlots (slice_set slots k (record (slot_in slots k) { state = state_after block })) m
held_status slots m k block l s f h =
    held_set slots m k (record (slot_in slots k) { state = state_after block }) (omega arith) (state_held block ∙ sym f) h

new_free : (k : ℕ) → slot_in (replicate 32 unused) k ≡ unused
new_free k = replicated 32 k unused

new_memory_slot : (quads : List ℕ) (k : ℕ) → (slot_at (new_memory quads) k).is_armed ≡ false
new_memory_slot quads k = ap (λ (s : SlotMemory). s.is_armed) (parts_law.new quads k) ∙ parts_law.free

-- A new memory holds new slots.
pub held_new : (quads : List ℕ) → HoldsSlots (replicate 32 unused) (new_memory quads)
held_new quads = record {
  whole = last_set_law.new quads;
  armed = λ number b. new_memory_slot quads number ∙ sym (ap (λ (s : Slot). not (is_free s)) (new_free number));
}
