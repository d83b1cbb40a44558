-- Where a read of an agent along a list reads: in the ORB, the page table or the buffer of the slot of the ORB that it is about. And what a response to it
-- brings is of that ORB, where the slot has it still and had it as the read was sent.
use Rattle.sbp_world.proofs.Words.Std.{arith, ◌≡◌, ◌∙◌, refl, sym, ap, subst, ◌<◌, ◌≤◌, ◌&&◌, ℕ, suc, ◌+◌, not, nat_lt, Bool, true, false, cond, List, [], ◌∷◌, ◌++◌, length, take, drop, append_assoc, Option, Some, None, nat_tests, not-true}
use Rattle.sbp_world.proofs.Words.Wire.{SerialsCount, Access, first_or, Moment, said, Sending, terms, Cmd}
use Rattle.sbp_world.proofs.Words.Initiator.{new_memory, is_fifo, start, window_at, Answer, Payload, buffer_addresses}
use Rattle.sbp_world.proofs.Words.Laws.{IsRead, before_sent, laid_out, rom_size, Orb, command_at, orb, prepared_in, slot_at, receiver_in, direction_of, goes_in, has_direction, host_reply, takes_writes, window_facts, appends}
use Rattle.sbp_world.proofs.Words.World.{AllBring, Brings, Follows, IsResponse, slot_in}
use Rattle.std.proofs.Common.{slice_index_or}
use Rattle.bus_memory.specs.declared.window.Window.TheVariants as windows
use Rattle.bus_memory.proofs.Found.{window_here}
use Rattle.sbp_journal.specs.declared.note.Note.TheVariants as notes
use Rattle.sbp_world.proofs.Hosts.BytePlaces.{FillsSegments, address_at, addresses_length, laid_at, laid_room, place_of}
use Rattle.sbp_world.proofs.Hosts.Lasting.{from_moment}
use Rattle.sbp_world.proofs.Hosts.LastingTerms.{AllLast}
use Rattle.sbp_world.proofs.Hosts.PreparedLasts.{prepared_then}
use Rattle.sbp_world.proofs.Hosts.Remaining.{remains}
use Rattle.sbp_world.proofs.Hosts.SentMoments.{sent_begins, sent_below, serials_from}
use Rattle.sbp_world.proofs.Lists.Brought.{Comes}
use Rattle.sbp_world.proofs.Hosts.ByteReads.{part_at, part_inside}

-- ---- windows
pub orb_slot : (access : Access) (slot count : ℕ) → slot < 32 → IsRead access (start (windows.Orb slot)) count → slot_in (window_at access.offset) ≡ Some slot
orb_slot access slot count b r = ap slot_in (ap window_at r.from ∙ window_here (new_memory []) (start (windows.Orb slot)) (windows.Orb slot) b (omega arith) (omega arith))

pub table_slot : (access : Access) (slot : ℕ) → slot < 32 → access.offset ≡ start (windows.Table slot) → slot_in (window_at access.offset) ≡ Some slot
table_slot access slot b e = ap slot_in (ap window_at e ∙ window_here (new_memory []) (start (windows.Table slot)) (windows.Table slot) b (omega arith) (omega arith))

-- a command whose buffer is filled
pub record IsFilled (slot : ℕ) (cmd : Cmd) : Type 0 where
  pub fills : FillsSegments cmd cmd.segments
  pub length_is : length (buffer_addresses (laid_out slot cmd cmd.segments)) ≡ cmd.length

module _ (slot : ℕ) (b : slot < 32) (cmd : Cmd) (f : IsFilled slot cmd) (access : Access) (at : ℕ) (some : 0 < access.count) (follow : Follows access slot cmd at) where
  abbrev n : ℕ
  n = access.count

  abbrev places : List ℕ
  places = buffer_addresses (laid_out slot cmd cmd.segments)

  pub inside : at + n ≤ cmd.length
  inside =
      let l : length (take n (drop at places)) ≡ n = ap length (sym follow) ∙ addresses_length access.offset n in
      let p = part_inside n at places l some in
      let q = f.length_is in
      omega arith

  first : access.offset + 0 ≡ start (windows.Buffer slot) + place_of cmd.segments (at + 0)
  first =
      let i = inside in
      sym (address_at access.offset n 0 some)
      ∙ (ap (λ xs. slice_index_or xs 0 0) follow ∙ (part_at n at 0 places some ∙ laid_at slot cmd cmd.segments f.fills (at + 0) (omega arith)))

  pub data_window : window_at access.offset ≡ Some (windows.Buffer slot)
  data_window =
      let i = inside in
      let e = first in
      let r = laid_room slot cmd cmd.segments f.fills (at + 0) (omega arith) in
      window_here (new_memory []) access.offset (windows.Buffer slot) b (omega arith) (omega arith)

-- ---- data are read where they go to the target
rows_say : (a b c d e : Bool) → ◌≡◌ {A = ℕ} (first_or 0 ((a, 6) ∷ (b, 6) ∷ (c, 6) ∷ (not d, 7) ∷ (not e, 6) ∷ [])) 0 → e ≡ true
rows_say true b c d e h = absurd (omega arith)
rows_say false true c d e h = absurd (omega arith)
rows_say false false true d e h = absurd (omega arith)
rows_say false false false false e h = absurd (omega arith)
rows_say false false false true false h = absurd (omega arith)
rows_say false false false true true h = refl

pub not_both : (a : Bool) → (a && true) ≡ false → a ≡ false
not_both false e = refl
not_both true e = absurd (let no : true ≡ false = e in cc)

read_direction : (past : List Moment) (i slot : ℕ) (access : Access) → (host_reply past i access).rcode ≡ 0 → access.is_write ≡ false → window_at access.offset ≡ Some (windows.Buffer slot) → direction_of past i (prepared_in past i slot) ≡ false
read_direction past i slot access z r e =
    let facts = window_facts past i (rom_size (suc i) 0) access in
    let own : ◌≡◌ {A = ℕ} (first_or 0 ((facts.is_lock, 6) ∷ (facts.is_empty, 6) ∷ (facts.is_fifo, 6) ∷ (not facts.is_inside, 7) ∷ (not facts.has_direction, 6) ∷ [])) 0 =
    sym (ap (λ w. cond (w && access.is_block && is_fifo access.offset) 0 (first_or 0 ((facts.is_lock, 6) ∷ (facts.is_empty, 6) ∷ (facts.is_fifo, 6) ∷ (not facts.is_inside, 7) ∷ (not facts.has_direction, 6) ∷ []))) r) ∙ z in
    let found : has_direction past i access (window_at access.offset) ≡ true = rows_say facts.is_lock facts.is_empty facts.is_fifo facts.is_inside facts.has_direction own in
    not-true (takes_writes past i (windows.Buffer slot))
    (sym (ap (λ b. has_direction past i (record access { is_write = b }) (Some (windows.Buffer slot))) r) ∙ (sym (ap (has_direction past i access) e) ∙ found))

-- ---- a response
module _ (past : List Moment) (i n k : ℕ) (serials : SerialsCount past) (last : AllLast past i) (bring : AllBring past i) (response request : ℕ) (access : Access) (answer : Answer) where
  abbrev slot : ℕ
  slot = slot_at past i n k

  module _ (small : slot < 32) (there : prepared_in past i slot ≡ Some (orb n k)) (early : k < appends (before_sent past request) i n) (filled : (cmd : Cmd) → command_at past i n k ≡ Some cmd → IsFilled slot cmd) (responds : (bytes : List ℕ) → answer ≡ Payload bytes → IsResponse past i response request access bytes) where
    module _ (bytes : List ℕ) (r : IsResponse past i response request access bytes) where
      brought : Brings past i response request access bytes
      brought = bring response request access bytes r

      abbrev before : List Moment
      before = brought.before

      abbrev later : List Moment
      later = brought.later ++ said (notes.Got request) ∷ []

      behind : later ++ before ≡ past
      behind = append_assoc brought.later (said (notes.Got request) ∷ []) before ∙ brought.is

      last_behind : AllLast (later ++ before) i
      last_behind = subst (λ ms. AllLast ms i) (sym behind) last

      serials_behind : SerialsCount (later ++ before)
      serials_behind = subst SerialsCount (sym behind) serials

      packet_by : (so : Option Sending) → (terms past).sent request ≡ so → receiver_in so ≡ Some (suc i) → request ≤ (terms before).count
      packet_by None e f = absurd (let no : None ≡ Some (suc i) = f in cc)
      packet_by (Some packet) e f = sent_below before request packet (serials_from later before serials_behind) (brought.asked ∙ e)

      -- it was appended before the read was got
      below : k < appends before i n
      below =
          let front = before_sent before request in
          let begins = sent_begins before request in
          let within : request ≤ (terms before).count = packet_by ((terms past).sent request) refl r.of_initiator in
          let more : appends front i n ≤ appends before i n = (from_moment begins.later front before i begins.is (last_from later before last_behind)).appended n in
          let same : before_sent past request ≡ front = ap (λ ms. before_sent ms request) (sym behind) ∙ (remains later before serials_behind).before_it request within in
          let begun : k < appends front i n = subst (λ ms. k < appends ms i n) same early in
          omega arith
        where
          last_from : (later before : List Moment) → AllLast (later ++ before) i → AllLast before i
          last_from [] before h = h
          last_from (m ∷ later) before h = last_from later before h.1

      prepared_there : prepared_in before i slot ≡ Some (orb n k)
      prepared_there = prepared_then i slot n k later before last_behind below (subst (λ ms. prepared_in ms i slot ≡ Some (orb n k)) (sym behind) there)

      goes_out : (cmd : Cmd) (at : ℕ) → command_at past i n k ≡ Some cmd → 0 < access.count → Follows access slot cmd at → cmd.to_initiator ≡ false
      goes_out cmd at command some follow =
          let f = filled cmd command in
          let room = inside slot small cmd f access at some follow in
          let window = data_window slot small cmd f access at some follow in
          let own : command_at before i n k ≡ Some cmd = sym (brought.lasts.command n k below) ∙ command in
          let long : nat_lt 0 cmd.length ≡ true = grind (arith, nat_tests) in
          let out : goes_in (Some cmd) ≡ false =
          ap goes_in (sym own) ∙ (ap (λ (o : Option Orb). direction_of before i o) (sym prepared_there) ∙ read_direction before i slot access brought.served.complete r.reads window) in
          not_both cmd.to_initiator (ap (λ b. cmd.to_initiator && b) (sym long) ∙ out)

    pub comes : Comes past i n k access answer
    comes = record {
      of_orb = λ bytes e. ((brought bytes (responds bytes e)).now n k slot small there early).1;
      out = λ bytes e cmd at command some follow. goes_out bytes (responds bytes e) cmd at command some follow;
    }
