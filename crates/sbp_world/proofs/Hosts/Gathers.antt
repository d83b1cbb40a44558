-- The bytes that stand at the addresses of writes that came in turn are those of the writes, joined.
use Rattle.sbp_world.proofs.Words.Std.{arith, ◌≡◌, refl, sym, ◌∙◌, ap, subst, ℕ, ◌+◌, ◌-◌, ◌<◌, ◌≤◌, ◌==◌, nat_le, nat_lt, ◌&&◌, ◌||◌, Bool, true, false, cond, List, [], ◌∷◌, ◌++◌, length, map, Option, Some, None, nat_tests, flat_map-append, append-nil, ext_get_or, length-map, map-append, AllByRecursion, flat_map}
use Rattle.sbp_world.proofs.Words.Wire.{Packet, lock, lock_response, read_block, read_block_response, read_quadlet, read_quadlet_response, write_block, write_quadlet, write_response, Moment, said, terms}
use Rattle.sbp_world.proofs.Words.Initiator.{addresses, chunk_addresses}
use Rattle.sbp_world.proofs.Words.Laws.{Moved, command_at, slot_at, packet_at, byte_of, data_at, or_byte}
use Rattle.sbp_world.proofs.Words.World.{byte_brought, byte_from, byte_held, is_got_by, bytes_of, piece_of, touches, touching, write_in, written_at}
use Rattle.std.proofs.Common.{slice_index_or}
use Rattle.std.proofs.lemmas.List.{append_assoc, get_or-map}
use Rattle.sbp_journal.specs.declared.note.Note.TheVariants as notes
use Rattle.sbp_world.proofs.Hosts.BytePlaces.{address_at, addresses_length}
use Rattle.sbp_world.proofs.Hosts.GatherPlaces.{Rising, in_front_of}

-- the addresses of the bytes of writes
abbrev pub spread : List Moved → List ℕ
spread moved = flat_map (λ one. addresses one.offset (length one.bytes)) moved

pub spread_pieces : (moved : List Moved) → chunk_addresses (map piece_of moved) ≡ spread moved
spread_pieces [] = refl
spread_pieces (one ∷ moved) = ap (λ xs. addresses one.offset (length one.bytes) ++ xs) (spread_pieces moved)

-- ---- lists

map_same : (f g : ℕ → ℕ) (xs : List ℕ) → AllByRecursion (λ x. f x ≡ g x) xs → map f xs ≡ map g xs
map_same f g [] h = refl
map_same f g (x ∷ xs) h = ap (λ y. y ∷ map f xs) h.0 ∙ ap (λ ys. g x ∷ ys) (map_same f g xs h.1)

all_first : (P : ℕ → Type 0) (xs ys : List ℕ) → AllByRecursion P (xs ++ ys) → AllByRecursion P xs
all_first P [] ys h = tt
all_first P (x ∷ xs) ys h = (h.0, all_first P xs ys h.1)

all_more : (P Q : ℕ → Type 0) (xs : List ℕ) → ((x : ℕ) → P x → Q x) → AllByRecursion P xs → AllByRecursion Q xs
all_more P Q [] f h = tt
all_more P Q (x ∷ xs) f h = (f x h.0, all_more P Q xs f h.1)

-- ---- one write

-- its byte at an address
abbrev pub byte_by : ℕ → Option Moved → Option ℕ
byte_by address None = None
byte_by address (Some one) = byte_from address one.offset one.bytes

pub brought_by : (address : ℕ) (packet : Option Packet) → byte_brought address packet ≡ byte_by address (write_in packet)
brought_by address None = refl
brought_by address (Some (write_quadlet header offset value)) = refl
brought_by address (Some (write_block header offset payload)) = refl
brought_by address (Some (write_response header rcode)) = refl
brought_by address (Some (read_quadlet header offset)) = refl
brought_by address (Some (read_block header offset asked)) = refl
brought_by address (Some (read_quadlet_response header rcode value)) = refl
brought_by address (Some (read_block_response header rcode payload)) = refl
brought_by address (Some (lock header offset extended payload)) = refl
brought_by address (Some (lock_response header rcode extended payload)) = refl

abbrev Lacks : (offset : ℕ) → List ℕ → ℕ → Type 0
Lacks offset bytes address = byte_from address offset bytes ≡ None

lacks_before : (offset : ℕ) (bytes : List ℕ) (address : ℕ) → address < offset → Lacks offset bytes address
lacks_before offset bytes address b =
    let away : nat_le offset address ≡ false = grind (arith, nat_tests) in
    ap (λ c. cond c (data_at (Some (address - offset)) bytes) None) away

lacks_behind : (offset : ℕ) (bytes : List ℕ) (address : ℕ) → offset + length bytes ≤ address → Lacks offset bytes address
lacks_behind offset bytes address b =
    let there : nat_le offset address ≡ true = grind (arith, nat_tests) in
    let out : nat_lt (address - offset) (length bytes) ≡ false = grind (arith, nat_tests) in
    ap (λ c. cond c (data_at (Some (address - offset)) bytes) None) there
    ∙ ap (λ c. cond c (Some (slice_index_or bytes (address - offset) 0)) None) out

lacks_none : (offset address : ℕ) → Lacks offset [] address
lacks_none offset address = by_place (nat_le offset address)
  where
    by_place : (c : Bool) → cond c (data_at (Some (address - offset)) []) None ≡ None
    by_place true = let out : nat_lt (address - offset) 0 ≡ false = grind (arith, nat_tests) in ap (λ c. cond c (Some (slice_index_or [] (address - offset) 0)) None) out
    by_place false = refl

-- one that touches no address has no byte there
lacks_apart : (one : Moved) (address : ℕ) → (nat_le one.offset address && nat_lt address (one.offset + length one.bytes)) ≡ false → Lacks one.offset one.bytes address
lacks_apart one address e = by_start (nat_le one.offset address) refl
  where
    by_end : one.offset ≤ address → (c : Bool) → nat_lt address (one.offset + length one.bytes) ≡ c → nat_le one.offset address ≡ true → Lacks one.offset one.bytes address
    by_end b true f g =
        let both : (nat_le one.offset address && nat_lt address (one.offset + length one.bytes)) ≡ true = ap (λ x. x && nat_lt address (one.offset + length one.bytes)) g ∙ f in
        absurd (let both_are : true ≡ false = sym both ∙ e in cc)
    by_end b false f g = lacks_behind one.offset one.bytes address (grind (arith, nat_tests))

    by_start : (c : Bool) → nat_le one.offset address ≡ c → Lacks one.offset one.bytes address
    by_start true f = by_end (grind (arith, nat_tests)) (nat_lt address (one.offset + length one.bytes)) refl f
    by_start false f = lacks_before one.offset one.bytes address (grind (arith, nat_tests))

first_off : (a b : Bool) → (a || b) ≡ false → a ≡ false
first_off true b e = e
first_off false b e = refl

second_off : (a b : Bool) → (a || b) ≡ false → b ≡ false
second_off true b e = absurd (cc e)
second_off false b e = e

lacks_all : (one : Moved) (places : List ℕ) → touches places one ≡ false → AllByRecursion (Lacks one.offset one.bytes) places
lacks_all one [] e = tt
lacks_all one (address ∷ places) e =
    let here = nat_le one.offset address && nat_lt address (one.offset + length one.bytes) in
    (lacks_apart one address (first_off here (touches places one) e), lacks_all one places (second_off here (touches places one) e))

-- nor where it stands behind
lacks_ahead : (from offset : ℕ) (bytes : List ℕ) (xs more : List ℕ) → Rising from (xs ++ (addresses offset (length bytes) ++ more)) → AllByRecursion (Lacks offset bytes) xs
lacks_ahead from offset [] xs more h = every xs
  where
    every : (xs : List ℕ) → AllByRecursion (Lacks offset []) xs
    every [] = tt
    every (x ∷ xs) = (lacks_none offset x, every xs)
lacks_ahead from offset (byte ∷ bytes) xs more h =
    all_more (λ x. x < offset) (Lacks offset (byte ∷ bytes)) xs (λ x b. lacks_before offset (byte ∷ bytes) x b)
    (in_front_of from xs offset (addresses (offset + 1) (length bytes) ++ more) h)

module _ (held : ℕ → ℕ) where
  -- the bytes that stand behind a write
  abbrev over : Option Moved → ℕ → ℕ
  over found address = or_byte (byte_by address found) (held address)

  over_others : (one : Moved) (xs : List ℕ) → AllByRecursion (Lacks one.offset one.bytes) xs → map (over (Some one)) xs ≡ map held xs
  over_others one xs h =
      map_same (over (Some one)) held xs (all_more (Lacks one.offset one.bytes) (λ x. over (Some one) x ≡ held x) xs (λ x e. ap (λ o. or_byte o (held x)) e) h)

  over_own : (one : Moved) → map (over (Some one)) (addresses one.offset (length one.bytes)) ≡ one.bytes
  over_own one =
      let l = addresses_length one.offset (length one.bytes) in
      let m = length-map (addresses one.offset (length one.bytes)) (over (Some one)) in
      ext_get_or 0 (map (over (Some one)) (addresses one.offset (length one.bytes))) one.bytes (m ∙ l)
      (λ p b.
      let c : p < length one.bytes = omega arith in
      let there : nat_le one.offset (one.offset + p) ≡ true = grind (arith, nat_tests) in
      let inside : nat_lt p (length one.bytes) ≡ true = grind (arith, nat_tests) in
      let place : one.offset + p - one.offset ≡ p = omega arith in
      get_or-map (over (Some one)) (addresses one.offset (length one.bytes)) p 0 0 (omega arith)
      ∙ (ap (over (Some one)) (address_at one.offset (length one.bytes) p c)
      ∙ (ap (λ x. or_byte (cond x (data_at (Some (one.offset + p - one.offset)) one.bytes) None) (held (one.offset + p))) there
      ∙ (ap (λ n. or_byte (data_at (Some n) one.bytes) (held (one.offset + p))) place
      ∙ ap (λ x. or_byte (cond x (Some (slice_index_or one.bytes p 0)) None) (held (one.offset + p))) inside))))

-- ---- writes in turn

module _ (from : ℕ) (places : List ℕ) (rising : Rising from places) where
  -- the bytes at the addresses of writes are theirs, where these addresses are the first ones
  abbrev Stand : List Moved → (ℕ → ℕ) → Type 0
  Stand moved held = (more : List ℕ) → spread moved ++ more ≡ places → map held (spread moved) ≡ bytes_of moved

  module _ (moved : List Moved) (held : ℕ → ℕ) (stand : Stand moved held) where
    -- one that brings nothing
    stand_same : (now : ℕ → ℕ) → ((more : List ℕ) → spread moved ++ more ≡ places → map now (spread moved) ≡ map held (spread moved)) → Stand (moved ++ []) now
    stand_same now same = subst (λ x. Stand x now) (sym (append-nil moved)) (λ more e. same more e ∙ stand more e)

    module _ (one : Moved) where
      abbrev own : List ℕ
      own = addresses one.offset (length one.bytes)

      abbrev now : ℕ → ℕ
      now = over held (Some one)

      spread_on : spread (moved ++ one ∷ []) ≡ spread moved ++ own
      spread_on = flat_map-append (λ (x : Moved). addresses x.offset (length x.bytes)) moved (one ∷ []) ∙ ap (λ xs. spread moved ++ xs) (append-nil own)

      bytes_on : bytes_of (moved ++ one ∷ []) ≡ bytes_of moved ++ one.bytes
      bytes_on = flat_map-append (λ (x : Moved). x.bytes) moved (one ∷ []) ∙ ap (λ xs. bytes_of moved ++ xs) (append-nil one.bytes)

      stand_on : Stand (moved ++ one ∷ []) now
      stand_on more e =
          let there : spread moved ++ (own ++ more) ≡ places = sym (append_assoc (spread moved) own more) ∙ (ap (λ xs. xs ++ more) (sym spread_on) ∙ e) in
          let lacks : AllByRecursion (Lacks one.offset one.bytes) (spread moved) = lacks_ahead from one.offset one.bytes (spread moved) more (subst (Rising from) (sym there) rising) in
          ap (map now) spread_on
          ∙ (map-append now (spread moved) own
          ∙ (ap (λ xs. xs ++ map now own) (over_others held one (spread moved) lacks ∙ stand (own ++ more) there)
          ∙ (ap (λ xs. bytes_of moved ++ xs) (over_own held one) ∙ sym bytes_on)))

      by_touch : (b : Bool) → touches places one ≡ b → Stand (moved ++ cond b (one ∷ []) []) now
      by_touch true f = stand_on
      by_touch false f = stand_same now (λ more e. over_others held one (spread moved) (all_first (Lacks one.offset one.bytes) (spread moved) more (subst (AllByRecursion (Lacks one.offset one.bytes)) (sym e) (lacks_all one places f))))

    by_write : (found : Option Moved) → Stand (moved ++ touching places found) (over held found)
    by_write None = stand_same (over held None) (λ more e. map_same (over held None) held (spread moved) (every (spread moved)))
      where
        every : (xs : List ℕ) → AllByRecursion (λ x. held x ≡ held x) xs
        every [] = tt
        every (x ∷ xs) = (refl, every xs)
    by_write (Some one) = by_touch one (touches places one) refl

    -- what a packet brings
    abbrev bringing : Bool → Option Packet → ℕ → ℕ
    bringing b packet address = or_byte (cond b (byte_brought address packet) None) (held address)

    brought_is : (b : Bool) (packet : Option Packet) (address : ℕ) → bringing b packet address ≡ over held (cond b (write_in packet) None) address
    brought_is true packet address = ap (λ o. or_byte o (held address)) (brought_by address packet)
    brought_is false packet address = refl

    by_packet : (b : Bool) (packet : Option Packet) → Stand (moved ++ touching places (cond b (write_in packet) None)) (bringing b packet)
    by_packet b packet more e =
        let found = cond b (write_in packet) None in
        let there = spread (moved ++ touching places found) in
        map_same (bringing b packet) (over held found) there (every there) ∙ by_write found more e
      where
        every : (xs : List ℕ) → AllByRecursion (λ x. bringing b packet x ≡ over held (cond b (write_in packet) None) x) xs
        every [] = tt
        every (x ∷ xs) = (brought_is b packet x, every xs)

  module _ (i slot : ℕ) where
    abbrev Stands : List Moment → Type 0
    Stands past = Stand (written_at past i slot places) (byte_held past i slot)

    none_stand : (held : ℕ → ℕ) → Stand [] held
    none_stand held more e = refl

    by_append : (b : Bool) (moved : List Moved) (held : ℕ → ℕ) (brings : ℕ → Option ℕ) → Stand moved held → Stand (cond b [] moved) (λ address. or_byte (cond b (brings address) None) (held address))
    by_append true moved held brings h more e = refl
    by_append false moved held brings h more e = h more e

    pub written_stand : (past : List Moment) → Stands past
    written_stand [] = none_stand (byte_held [] i slot)
    written_stand (said (notes.Append j n k cdb buffer) ∷ past) =
        let now = said (notes.Append j n k cdb buffer) ∷ past in
        by_append ((j == i) && (slot_at now i n k == slot)) (written_at past i slot places) (byte_held past i slot) (λ address. byte_of slot address (command_at now i n k)) (written_stand past)
    written_stand (said (notes.Got serial) ∷ past) =
        by_packet (written_at past i slot places) (byte_held past i slot) (written_stand past) (is_got_by past i serial) (packet_at (terms past) serial)
    written_stand (moment ∷ past) = written_stand past
