-- In every run the target reads the data of an ORB as they were appended.
use Rattle.sbp_world.proofs.Words.Std.{arith, ◌≡◌, refl, sym, ◌∙◌, ap, subst, ℕ, suc, ◌+◌, ◌-◌, ◌<◌, ◌≤◌, ◌==◌, ◌&&◌, ◌||◌, nat_lt, min, Bool, true, false, cond, List, [], length, take, drop, Option, Some, None, IfSome, Err, nat_tests, ext_get_or, get_or-drop, get_or-take}
use Rattle.sbp_world.proofs.Words.Wire.{Moment, Cmd}
use Rattle.sbp_world.proofs.Words.Initiator.{judged, judged_at, read_at, read_step, spot_of, Memory, slot_at, is_fifo, start, window_at, TypeError, Kept, kept_in, run, slot_in, addresses, buffer_addresses, chunk_from, Chunk, own_rom, InitiatorState}
use Rattle.sbp_world.proofs.Words.Laws.{laid_out, rom_size, Orb, command_at, prepared_in, byte_of, goes_in}
use Rattle.sbp_world.proofs.Words.World.{AllSend, DataLaw, SendsData, name}
use Rattle.std.proofs.Common.{slice_index_or, length-drop, length-take}
use Rattle.bus_memory.specs.declared.access.Access.TheVariants.{Read}
use Rattle.bus_memory.specs.declared.window.Window.TheVariants as windows
use Rattle.bus_memory.proofs.Found.{window_here}
use Rattle.page_table.proofs.Places.{chunk_in_place}
use Rattle.sbp_world.proofs.Hosts.ByteLists.{data_laid}
use Rattle.sbp_world.proofs.Hosts.BytePlaces.{FillsSegments, address_at, addresses_length, buffer_length, laid_at, laid_data, laid_room, place_of}
use Rattle.sbp_world.proofs.Hosts.ByteRuns.{Bytes, bytes_between, bytes_of_runs}
use Rattle.sbp_world.proofs.Hosts.Chains.{chained_run}
use Rattle.sbp_world.proofs.Hosts.MemoryRcodes.{read_bytes}
use Rattle.sbp_world.proofs.Hosts.OrbFits.{IfFits, IsFull}
use Rattle.sbp_world.proofs.Hosts.OrbTables.{whole_bytes}
use Rattle.sbp_world.proofs.Hosts.OrbTerms.{orb_terms}
use Rattle.sbp_world.proofs.Hosts.Orbs.{calls, found_kept, rows_of, whole}

-- a read that is served has a byte
served_some : (m : Memory) (offset : ℕ) (out : List ℕ) → (read_step m offset out).0 ≡ 0 → 0 < length out
unfolding judged
served_some m offset out = by_length (length out == 0) refl
  where
    by_length : (b : Bool) → (length out == 0) ≡ b → (read_at m out (cond (b || is_fifo offset) (Err TypeError) (judged_at m Read (spot_of m offset (length out))))).0 ≡ 0 → 0 < length out
    by_length true e z = absurd (omega arith)
    by_length false e z = grind (arith, nat_tests)

-- a part of a list that has its length lies in it
pub part_inside : (n at : ℕ) (xs : List ℕ) → length (take n (drop at xs)) ≡ n → 0 < n → at + n ≤ length xs
part_inside n at xs e b =
    let l : length (take n (drop at xs)) ≡ min n (length xs - at) = length-take n (drop at xs) ∙ ap (min n) (length-drop at xs) in
    omega arith

pub part_length : (n at : ℕ) (xs : List ℕ) → at + n ≤ length xs → length (take n (drop at xs)) ≡ n
part_length n at xs h = length-take n (drop at xs) ∙ (ap (min n) (length-drop at xs) ∙ omega arith)

pub part_at : (n at x : ℕ) (xs : List ℕ) → x < n → slice_index_or (take n (drop at xs)) x 0 ≡ slice_index_or xs (at + x) 0
part_at n at x xs b = get_or-take n (drop at xs) x 0 b ∙ get_or-drop at xs x 0

module _ (ready : Bool) (past : List Moment) (i : ℕ) (s : InitiatorState) (h : Bytes ready past i s) (slot : ℕ) (one : Orb) (cmd : Cmd) (small : slot < 32) (prepared : prepared_in past i slot ≡ Some one) (command : command_at past i one.list one.number ≡ Some cmd) where
  abbrev m : Memory
  m = s.lists.memory

  -- the command is one of a line
  fits_of : (found : Option Kept) → IfFits (orb_terms past i) found → (o : Kept) → found ≡ Some o → name o.ticket ≡ one → IsFull cmd
  fits_of None f o e n = absurd (cc e)
  fits_of (Some p) f o e n =
      let same : p ≡ o = cc in
      let named : name p.ticket ≡ one = ap (λ (x : Kept). name x.ticket) same ∙ n in
      let found : Some f.cmd ≡ Some cmd = sym f.command ∙ (ap (λ (x : Orb). command_at past i x.list x.number) named ∙ command) in
      let is : f.cmd ≡ cmd = cc in
      subst IsFull is (f.fits, f.fills)

  pub full_of : IsFull cmd
  full_of =
      let rows = h.host.rows in
      let own = run (calls ready past i s rows h.orbs) (own_rom i) in
      let q = found_kept (slot_in own.table.slots slot).last (kept_in own.notes slot) one ((chained_run (calls ready past i s rows h.orbs) (own_rom i)).same slot small) (sym ((rows_of ready past i s rows h.orbs).fits.prepared slot small) ∙ prepared) in
      fits_of (kept_in own.notes slot) (h.orbs.kept slot small) q.0 q.1.0 q.1.1

  pub filled : FillsSegments cmd cmd.segments
  filled =
      let q = full_of.0 0 0 in
      record { whole = full_of.1.segments; short = q.short; few = q.segments }

  abbrev places : List ℕ
  places = buffer_addresses (laid_out slot cmd cmd.segments)

  pub places_length : length places ≡ cmd.length
  places_length = buffer_length (laid_out slot cmd cmd.segments) ∙ whole_bytes slot cmd full_of.1.segments

  module _ (to_target : cmd.to_initiator ≡ false) where
    goes : goes_in (Some cmd) ≡ false
    goes = ap (λ b. b && nat_lt 0 cmd.length) to_target

    data_byte : (p : ℕ) → p < cmd.length → slice_index_or (slot_at m slot).buffer (place_of cmd.segments p) 0 ≡ slice_index_or cmd.payload p 0
    data_byte p b =
        let j = place_of cmd.segments p in
        let full : length cmd.payload ≡ cmd.length = full_of.1.payload to_target in
        let there : nat_lt p (length cmd.payload) ≡ true = grind (arith, nat_tests) in
        let is : byte_of slot (start (windows.Buffer slot) + j) (Some cmd) ≡ Some (slice_index_or cmd.payload p 0) = data_laid slot cmd cmd.segments cmd.payload j (omega arith)
        ∙ (laid_data slot cmd cmd.segments cmd.payload filled p b ∙ ap (λ c. cond c (Some (slice_index_or cmd.payload p 0)) None) there) in
        h.slots.sends slot one cmd small prepared command goes j (slice_index_or cmd.payload p 0) (laid_room slot cmd cmd.segments filled p b) is

    module _ (at offset : ℕ) (out : List ℕ) (follow : addresses offset (length out) ≡ take (length out) (drop at places)) (complete : (read_step m offset out).0 ≡ 0) where
      abbrev n : ℕ
      n = length out

      some : 0 < n
      some = served_some m offset out complete

      inside : at + n ≤ cmd.length
      inside =
          let l : length (take n (drop at places)) ≡ n = ap length (sym follow) ∙ addresses_length offset n in
          let p = part_inside n at places l some in
          let q = places_length in
          omega arith

      stands_at : (x : ℕ) → x < n → offset + x ≡ start (windows.Buffer slot) + place_of cmd.segments (at + x)
      stands_at x b =
          let i = inside in
          sym (address_at offset n x b)
          ∙ (ap (λ xs. slice_index_or xs x 0) follow
          ∙ (part_at n at x places b ∙ laid_at slot cmd cmd.segments filled (at + x) (omega arith)))

      abbrev from : ℕ
      from = offset - start (windows.Buffer slot)

      place_is : (x : ℕ) → x < n → from + x ≡ place_of cmd.segments (at + x)
      place_is x b =
          let first = stands_at 0 some in
          let e = stands_at x b in
          omega arith

      room : from + n ≤ 32768
      room =
          let l = inside in
          let z = some in
          let e = place_is (n - 1) (omega arith) in
          let r = laid_room slot cmd cmd.segments filled (at + (n - 1)) (omega arith) in
          omega arith

      window : window_at offset ≡ Some (windows.Buffer slot)
      window =
          let first = stands_at 0 some in
          let z = some in
          let r = room in
          window_here m offset (windows.Buffer slot) small (omega arith) (omega arith)

      given : (read_step m offset out).1 ≡ take n (drop from (slot_at m slot).buffer)
      given = read_bytes past i (rom_size (suc i) 0) m (record { is_lock = false; is_write = false; is_block = true; offset = offset; count = length out; payload = [] }) out (record { lock = refl; write = refl; size = refl }) complete (windows.Buffer slot) window

      gives : (read_step m offset out).1 ≡ take n (drop at cmd.payload)
      gives =
          let size : length (slot_at m slot).buffer ≡ 32768 = (whole ready past i s h.host.rows h.orbs).sizes (windows.Buffer slot) in
          let r = room in
          let l = inside in
          let full : length cmd.payload ≡ cmd.length = full_of.1.payload to_target in
          let left : length (take n (drop from (slot_at m slot).buffer)) ≡ n = part_length n from (slot_at m slot).buffer (omega arith) in
          let right : length (take n (drop at cmd.payload)) ≡ n = part_length n at cmd.payload (omega arith) in
          given
          ∙ ext_get_or 0 (take n (drop from (slot_at m slot).buffer)) (take n (drop at cmd.payload)) (left ∙ sym right)
          (λ x b.
          let c : x < n = omega arith in
          part_at n from x (slot_at m slot).buffer c
          ∙ (ap (λ j. slice_index_or (slot_at m slot).buffer j 0) (place_is x c)
          ∙ (data_byte (at + x) (omega arith) ∙ sym (part_at n at x cmd.payload c))))

    in_place : (at : ℕ) (found : Option Chunk) (piece : Chunk) → found ≡ Some piece → IfSome found (λ (x : Chunk). addresses x.offset x.length ≡ take x.length (drop at places)) → addresses piece.offset piece.length ≡ take piece.length (drop at places)
    in_place at None piece e f = absurd (cc e)
    in_place at (Some other) piece e f = let same : other ≡ piece = cc in subst (λ (x : Chunk). addresses x.offset x.length ≡ take x.length (drop at places)) same f

    pub sends_data : SendsData m slot cmd
    sends_data = record {
      gives = gives;
      chunk = λ at limit piece out e l z.
          let there = in_place at (chunk_from (laid_out slot cmd cmd.segments) at limit) piece e (chunk_in_place (laid_out slot cmd cmd.segments) at limit) in
          gives at piece.offset out (subst (λ k. addresses piece.offset k ≡ take k (drop at places)) (sym l) there) z ∙ ap (λ k. take k (drop at cmd.payload)) l;
    }

pub all_send : (ready : Bool) (past : List Moment) (i : ℕ) (s : InitiatorState) → Bytes ready past i s → AllSend past i s.lists.memory
all_send ready past i s h slot one cmd b e c d = sends_data ready past i s h slot one cmd b e c d

pub data_law : DataLaw
data_law = record {
  sends = λ line r q i b. all_send r.ready _ i _ (bytes_of_runs line r q i b);
  between = λ line r q next most told m i b. all_send r.ready _ i _ (bytes_between line r q next most told m i b);
}
