-- A packet that an initiator gets, and the buffer of a slot: it brings bytes of the buffer, and is one of the writes of the target to its pieces, only where it writes into the window of this buffer; and a write of a
-- piece of the buffer is complete while the slot has an ORB whose data go to the initiator.
use Rattle.sbp_world.proofs.Words.Std.{arith, ◌≡◌, ◌∙◌, refl, sym, ap, ◌<◌, ◌≤◌, ◌+◌, ◌-◌, ◌^◌, ◌==◌, ◌&&◌, not, nat_le, nat_lt, nat_eq, ℕ, suc, zero, Bool, true, false, cond, List, [], ◌∷◌, length, Option, Some, None, filter, nat_tests, Any-from_list_any, list_any_at, false≢true, same_Some, big_bytes}
use Rattle.sbp_world.proofs.Words.Wire.{Packet, lock, lock_response, read_block, read_block_response, read_quadlet, read_quadlet_response, write_block, write_quadlet, write_response, Access, access_of, first_or, Moment, Cmd}
use Rattle.sbp_world.proofs.Words.Initiator.{Window, IfShare, IsWindow, is_fifo, start, window_at, Chunk, buffer_addresses, chunks}
use Rattle.sbp_world.proofs.Words.Laws.{Moved, begins_one, laid_out, pieces_of, written_in, rom_size, orb, prepared_in, command_at, access_in, direction_of, goes_in, has_direction, is_complete_at, is_open, lies_inside, size_of}
use Rattle.sbp_world.proofs.Words.World.{Follows, touches, touching, write_in, HasSlot}
use Rattle.std.proofs.Common.{slice_index_or}
use Rattle.bus_memory.specs.declared.window.Window.TheVariants as windows
use Rattle.bus_memory.proofs.Found.{window_share}
use Rattle.sbp_world.proofs.Hosts.BytePlaces.{address_at, laid_at, laid_room, place_of}
use Rattle.sbp_world.proofs.Hosts.ByteReads.{part_at}
use Rattle.sbp_world.proofs.Hosts.ResponseTells.{code_zero, inside_by}
use Rattle.sbp_world.proofs.Lists.AnswersCarriedChunks.{all_in_turn}
use Rattle.sbp_world.proofs.Lists.FedWindows.{taken_stands}
use Rattle.sbp_world.proofs.Lists.Slots.{IsFilled, data_window, inside}
use Rattle.sbp_world.proofs.Lists.SlotsHeld.{slot_opened}
use Rattle.sbp_world.proofs.Agents.CrewSeats.{not_both}
use Rattle.sbp_world.proofs.Common.{and_second, and_first, none_is}

-- the window of the buffer of a slot
abbrev pub is_buffer : ℕ → Option Window → Bool
is_buffer slot (Some (windows.Buffer other)) = nat_eq other slot
is_buffer slot found = false

pub buffer_is : (slot : ℕ) (found : Option Window) → is_buffer slot found ≡ true → found ≡ Some (windows.Buffer slot)
buffer_is slot (Some (windows.Buffer other)) e = ap (λ n. Some (windows.Buffer n)) (let same : other ≡ slot = grind (arith, nat_tests, e) in same)
buffer_is slot found e = absurd (false≢true e)

pub is_buffer_there : (slot : ℕ) (found : Option Window) → found ≡ Some (windows.Buffer slot) → is_buffer slot found ≡ true
is_buffer_there slot found e = ap (is_buffer slot) e ∙ (let same : nat_eq slot slot ≡ true = grind (arith, nat_tests) in same)

-- a write into it
abbrev pub writes_here : ℕ → Option Access → Bool
writes_here slot None = false
writes_here slot (Some access) = access.is_write && is_buffer slot (window_at access.offset)

abbrev pub moved_by : Access → Moved
moved_by access = record { offset = access.offset; bytes = access.payload }

pub power : (n : ℕ) → 0 < 2 ^ n
power zero = omega arith
power (suc n) = let h = power n in omega arith

index_same : (xs : List ℕ) (k d e : ℕ) → k < length xs → slice_index_or xs k d ≡ slice_index_or xs k e
index_same [] k d e b = absurd (omega arith)
index_same (x ∷ xs) zero d e b = refl
index_same (x ∷ xs) (suc k) d e b = index_same xs k d e (omega arith)

pub low_fifo : (offset : ℕ) → offset < 0x12002000 → is_fifo offset ≡ false
unfolding is_fifo
low_fifo offset b = grind (arith, nat_tests)

module _ (slot : ℕ) (small : slot < 32) (cmd : Cmd) (filled : IsFilled slot cmd) where
  abbrev pub pieces : List Chunk
  pieces = pieces_of slot cmd

  abbrev pub limit : ℕ
  limit = 2 ^ (cmd.max_payload + 2)

  abbrev pub places : List ℕ
  places = buffer_addresses (laid_out slot cmd cmd.segments)

  abbrev pub base : ℕ
  base = start (windows.Buffer slot)

  pub positive : 0 < limit
  positive = power (cmd.max_payload + 2)

  -- a piece begins in the window
  pub begins_there : (one : Moved) → begins_one pieces one ≡ true → window_at one.offset ≡ Some (windows.Buffer slot)
  begins_there one e =
      let many = length (chunks limit (laid_out slot cmd cmd.segments)) in
      taken_stands slot small cmd filled limit positive one many 0 (ap (λ xs. begins_one xs one) (all_in_turn limit many (laid_out slot cmd cmd.segments) positive (omega arith)) ∙ e)

  -- ---- one that is written elsewhere
  pub target_by : (from_target to_it : Bool) (found : Option Access) → to_it && writes_here slot found ≡ false → filter (begins_one pieces) (cond (from_target && to_it) (written_in found) []) ≡ []
  target_by false to_it found e = refl
  target_by true false found e = refl
  target_by true true None e = refl
  target_by true true (Some access) e = by_write access.is_write e
    where
      by_begin : (b : Bool) → begins_one pieces (moved_by access) ≡ b → is_buffer slot (window_at access.offset) ≡ false → cond b (moved_by access ∷ []) [] ≡ []
      by_begin true f g = absurd (not_both (is_buffer slot (window_at access.offset)) (is_buffer_there slot (window_at access.offset) (begins_there (moved_by access) f)) g)
      by_begin false f g = refl

      by_write : (w : Bool) → w && is_buffer slot (window_at access.offset) ≡ false → filter (begins_one pieces) (cond w (moved_by access ∷ []) []) ≡ []
      by_write true f = by_begin (begins_one pieces (moved_by access)) refl f
      by_write false f = refl

  record Reaches (one : Moved) : Type 0 where
    at : ℕ
    low : base ≤ at
    high : at < base + 32768
    from : one.offset ≤ at
    to : at < one.offset + length one.bytes

  reaches : (one : Moved) → touches places one ≡ true → Reaches one
  reaches one e =
      let found = Any-from_list_any (λ address. nat_le one.offset address && nat_lt address (one.offset + length one.bytes)) places e in
      let k = found.0 in
      let at = found.1 in
      let size = filled.length_is in
      let below : k < length places = found.2 in
      let less : k < cmd.length = omega (arith, size, below) in
      let stands : at ≡ base + place_of cmd.segments k = sym found.3 ∙ (index_same places k at 0 below ∙ laid_at slot cmd cmd.segments filled.fills k less) in
      let room = laid_room slot cmd cmd.segments filled.fills k less in
      let first : nat_le one.offset at ≡ true = and_first (nat_le one.offset at) (nat_lt at (one.offset + length one.bytes)) found.4 in
      let last : nat_lt at (one.offset + length one.bytes) ≡ true = and_second (nat_le one.offset at) (nat_lt at (one.offset + length one.bytes)) found.4 in
      record {
        at = at;
        low = omega (arith, stands);
        high = omega (arith, stands, room);
        from = (let z : one.offset ≤ at = grind (arith, nat_tests, first) in z);
        to = (let z : at < one.offset + length one.bytes = grind (arith, nat_tests, last) in z);
      }

  module _ (past : List Moment) (i : ℕ) where
    abbrev pub rom : ℕ
    rom = rom_size (suc i) 0

    window_by : (window : Window) (offset count at : ℕ) → IsWindow window → start window ≤ offset → offset - start window + count ≤ size_of rom window → base ≤ at → at < base + 32768 → offset ≤ at → at < offset + count → Some window ≡ Some (windows.Buffer slot)
    window_by windows.Rom offset count at w s r low high from to = absurd (omega (arith, s, high, from, small))
    window_by (windows.Orb other) offset count at w s r low high from to = absurd (omega (arith, s, r, low, to, w))
    window_by (windows.Table other) offset count at w s r low high from to = absurd (omega (arith, s, r, low, to, w))
    window_by (windows.Buffer other) offset count at w s r low high from to = ap (λ n. Some (windows.Buffer n)) (let same : other ≡ slot = omega (arith, s, r, low, high, from, to) in same)
    window_by (windows.Management place) offset count at w s r low high from to = absurd (omega (arith, s, high, from, small))
    window_by (windows.Response place) offset count at w s r low high from to = absurd (omega (arith, s, high, from, small))

    inside_window : (access : Access) (found : Option Window) → lies_inside past i rom access found ≡ true → IfShare access.offset found → (at : ℕ) → base ≤ at → at < base + 32768 → access.offset ≤ at → at < access.offset + access.count → found ≡ Some (windows.Buffer slot)
    inside_window access None e share at low high from to = absurd (false≢true e)
    inside_window access (Some window) e share at low high from to =
        let room : nat_le (access.offset - start window + access.count) (size_of rom window) ≡ true = and_second (is_open past i window) (nat_le (access.offset - start window + access.count) (size_of rom window)) e in
        window_by window access.offset access.count at share.0 share.1 (let z : access.offset - start window + access.count ≤ size_of rom window = grind (arith, nat_tests, room) in z) low high from to

    complete_inside : (access : Access) → is_complete_at past i (Some access) ≡ true → lies_inside past i rom access (window_at access.offset) ≡ true
    complete_inside access e =
        let zero_row : ◌≡◌ {A = ℕ} (first_or 0 ((access.is_lock, 6) ∷ (access.count == 0, 6) ∷ (is_fifo access.offset, 6) ∷ (not (lies_inside past i rom access (window_at access.offset)), 7) ∷ (not (has_direction past i access (window_at access.offset)), 6) ∷ [])) 0 = grind (arith, nat_tests, e) in
        inside_by access.is_lock (access.count == 0) (is_fifo access.offset) (lies_inside past i rom access (window_at access.offset)) (has_direction past i access (window_at access.offset)) zero_row

    reach : (access : Access) (one : Moved) → access.is_write ≡ true → one.offset ≡ access.offset → length one.bytes ≡ access.count → writes_here slot (Some access) ≡ false → touching places (cond (is_complete_at past i (Some access)) (Some one) None) ≡ []
    reach access one write at size e = by (is_complete_at past i (Some access)) refl
      where
        by_touch : is_complete_at past i (Some access) ≡ true → (c : Bool) → touches places one ≡ c → cond c (one ∷ []) [] ≡ []
        by_touch f true g =
            let r = reaches one g in
            let low = r.low in
            let high = r.high in
            let from = r.from in
            let to = r.to in
            let window = inside_window access (window_at access.offset) (complete_inside access f) (window_share access.offset) r.at low high (omega (arith, from, at)) (omega (arith, to, at, size)) in
            let here : writes_here slot (Some access) ≡ true = ap (λ b. b && is_buffer slot (window_at access.offset)) write ∙ is_buffer_there slot (window_at access.offset) window in
            absurd (not_both (writes_here slot (Some access)) here e)
        by_touch f false g = refl

        by : (c : Bool) → is_complete_at past i (Some access) ≡ c → touching places (cond c (Some one) None) ≡ []
        by true f = by_touch f (touches places one) refl
        by false f = refl

    none_if : (c : Bool) → touching places (cond c None None) ≡ []
    none_if true = refl
    none_if false = refl

    packet_by : (p : Packet) → writes_here slot (access_of p) ≡ false → touching places (cond (is_complete_at past i (access_of p)) (write_in (Some p)) None) ≡ []
    packet_by (write_quadlet header offset value) e =
        reach (record { is_lock = false; is_write = true; is_block = false; offset = offset; count = 4; payload = [] }) (record { offset = offset; bytes = big_bytes 4 value }) refl refl refl e
    packet_by (write_block header offset payload) e =
        reach (record { is_lock = false; is_write = true; is_block = true; offset = offset; count = length payload; payload = payload }) (record { offset = offset; bytes = payload }) refl refl refl e
    packet_by p e = none_if (is_complete_at past i (access_of p))

    pub buffer_by : (to_it : Bool) (packet : Option Packet) → to_it && writes_here slot (access_in packet) ≡ false → touching places (cond (to_it && is_complete_at past i (access_in packet)) (write_in packet) None) ≡ []
    buffer_by false packet e = refl
    buffer_by true None e = refl
    buffer_by true (Some p) e = packet_by p e

  -- ---- bytes of the buffer
  module _ (access : Access) (some : 0 < access.count) (at : ℕ) (follow : Follows access slot cmd at) where
    stands : (p : ℕ) → p < access.count → access.offset + p ≡ base + place_of cmd.segments (at + p)
    stands p b =
        let more = inside slot small cmd filled access at some follow in
        sym (address_at access.offset access.count p b)
        ∙ (ap (λ xs. slice_index_or xs p 0) follow ∙ (part_at access.count at p places b ∙ laid_at slot cmd cmd.segments filled.fills (at + p) (omega (arith, more, b))))

    -- they end in its window, and begin there
    pub buffer_ends : access.offset + access.count ≤ base + 32768
    buffer_ends =
        let last = access.count - 1 in
        let more = inside slot small cmd filled access at some follow in
        let e = stands last (omega (arith, some)) in
        let room = laid_room slot cmd cmd.segments filled.fills (at + last) (omega (arith, more, some)) in
        omega (arith, e, room, some)

    pub buffer_begins : base ≤ access.offset
    buffer_begins = let e = stands 0 some in omega (arith, e)

  -- ---- a write of them
  module _ (past : List Moment) (i n k : ℕ) (has : HasSlot past i slot (orb n k)) (command : command_at past i n k ≡ Some cmd) (inward : cmd.to_initiator ≡ true) (access : Access) (lock : access.is_lock ≡ false) (write : access.is_write ≡ true) (some : 0 < access.count) (at : ℕ) (follow : Follows access slot cmd at) where
    pub window : window_at access.offset ≡ Some (windows.Buffer slot)
    window = data_window slot small cmd filled access at some follow

    long : 0 < cmd.length
    long = let more = inside slot small cmd filled access at some follow in omega (arith, more, some)

    directed : direction_of past i (prepared_in past i slot) ≡ true
    directed =
        ap (λ o. direction_of past i o) has.there
        ∙ (ap goes_in command ∙ (ap (λ b. b && nat_lt 0 cmd.length) inward ∙ (let z : nat_lt 0 cmd.length ≡ true = grind (arith, nat_tests, long) in z)))

    lies : lies_inside past i (rom_size (suc i) 0) access (window_at access.offset) ≡ true
    lies =
        let low = buffer_begins access some at follow in
        let high = buffer_ends access some at follow in
        let room : nat_le (access.offset - base + access.count) 32768 ≡ true = grind (arith, nat_tests, low, high) in
        ap (λ w. lies_inside past i (rom_size (suc i) 0) access w) window
        ∙ (ap (λ b. b && nat_le (access.offset - base + access.count) 32768) (slot_opened past i slot (orb n k) has) ∙ room)

    has_way : has_direction past i access (window_at access.offset) ≡ true
    has_way =
        ap (λ w. has_direction past i access w) window
        ∙ (ap (λ b. has_direction past i (record access { is_write = b }) (Some (windows.Buffer slot))) write ∙ directed)

    pub complete : is_complete_at past i (Some access) ≡ true
    complete =
        let high = buffer_ends access some at follow in
        let empty : (access.count == 0) ≡ false = grind (arith, nat_tests, some) in
        ap (λ x. x == 0) (code_zero access.is_lock (access.count == 0) (is_fifo access.offset) _ _ lock empty (low_fifo access.offset (omega (arith, high, some, small))) lies has_way)

    -- and it brings bytes of the buffer
    pub touched : (bytes : List ℕ) → length bytes ≡ access.count → touches places (record { offset = access.offset; bytes = bytes }) ≡ true
    touched bytes size =
        let more = inside slot small cmd filled access at some follow in
        let count = filled.length_is in
        let e = stands access some at follow 0 some in
        let less : at < cmd.length = omega (arith, more, some) in
        let there : slice_index_or places at 0 ≡ access.offset = laid_at slot cmd cmd.segments filled.fills at less ∙ (let z : base + place_of cmd.segments at ≡ access.offset = (let same : at + 0 ≡ at = omega arith in ap (λ x. base + place_of cmd.segments x) (sym same) ∙ (sym e ∙ (let y : access.offset + 0 ≡ access.offset = omega arith in y))) in z) in
        let first : nat_le access.offset access.offset ≡ true = grind (arith, nat_tests) in
        let second : nat_lt access.offset (access.offset + length bytes) ≡ true = grind (arith, nat_tests, some, size) in
        list_any_at (λ address. nat_le access.offset address && nat_lt address (access.offset + length bytes)) places at 0 (omega (arith, count, less))
        (ap (λ address. nat_le access.offset address && nat_lt address (access.offset + length bytes)) there ∙ (ap (λ b. b && nat_lt access.offset (access.offset + length bytes)) first ∙ second))

-- ---- a write that has bytes is of a block
pub record IsBlockWrite (packet : Packet) (access : Access) : Type 0 where
  pub lock : access.is_lock ≡ false
  pub count : access.count ≡ length access.payload
  pub brings : write_in (Some packet) ≡ Some (record { offset = access.offset; bytes = access.payload })

empty_none : {A : Type 0} (a access : Access) → Some a ≡ Some access → a.payload ≡ [] → 0 < length access.payload → A
empty_none a access e none some =
    let size : length a.payload ≡ length access.payload = ap (λ (x : Access). length x.payload) (same_Some a access e) in
    let zero_there : length a.payload ≡ 0 = ap length none in
    absurd (omega (arith, size, zero_there, some))

pub block_write : (p : Packet) (access : Access) → access_of p ≡ Some access → 0 < length access.payload → IsBlockWrite p access
block_write (write_block header offset payload) access e some =
    let same = same_Some (record { is_lock = false; is_write = true; is_block = true; offset = offset; count = length payload; payload = payload }) access e in
    record {
      lock = sym (ap (λ (x : Access). x.is_lock) same);
      count = sym (ap (λ (x : Access). x.count) same) ∙ ap (λ (x : Access). length x.payload) same;
      brings = ap (λ (x : Access). Some (record { offset = x.offset; bytes = x.payload })) same;
    }
block_write (write_quadlet header offset value) access e some = empty_none (record { is_lock = false; is_write = true; is_block = false; offset = offset; count = 4; payload = [] }) access e refl some
block_write (read_quadlet header offset) access e some = empty_none (record { is_lock = false; is_write = false; is_block = false; offset = offset; count = 4; payload = [] }) access e refl some
block_write (read_block header offset asked) access e some = empty_none (record { is_lock = false; is_write = false; is_block = true; offset = offset; count = asked; payload = [] }) access e refl some
block_write (lock header offset extended payload) access e some = empty_none (record { is_lock = true; is_write = false; is_block = true; offset = offset; count = length payload; payload = [] }) access e refl some
block_write (write_response header rcode) access e some = none_is access e
block_write (read_quadlet_response header rcode value) access e some = none_is access e
block_write (read_block_response header rcode payload) access e some = none_is access e
block_write (lock_response header rcode extended payload) access e some = none_is access e
