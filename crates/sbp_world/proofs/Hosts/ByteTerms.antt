-- What the history says of the page tables and the buffers of an initiator, and the notes that leave it.
use Rattle.sbp_world.proofs.Words.Std.{arith, ◌≡◌, refl, sym, ap, subst, ◌∙◌, ℕ, suc, ◌+◌, ◌<◌, ◌==◌, ◌&&◌, nat_eq, not, Bool, true, false, cond, List, [], ◌∷◌, Option, Some, None, nat_tests, not-true}
use Rattle.sbp_world.proofs.Words.Wire.{Moment, said, Sending, terms, Cmd, Note, NoteBuffer}
use Rattle.sbp_world.proofs.Words.Initiator.{Memory, slot_at, start, table_bytes}
use Rattle.sbp_world.proofs.Words.Laws.{Orb, cmd_of, command_at, lowest_vacant, orb, prepared_in, slots, access_at, packet_at, receiver_in, byte_of, goes_in, in_front, is_complete_at, or_byte, table_held, table_in_slot, tables_before, tables_in_slot, is_serial, event_of}
use Rattle.sbp_world.proofs.Words.World.{byte_brought, byte_held, is_got_by}
use Rattle.std.proofs.Common.{slice_index_or}
use Rattle.bus_memory.specs.declared.window.Window.TheVariants as windows
use Rattle.sbp_journal.specs.declared.note.Note.TheVariants as notes
use Rattle.sbp_laws.specs.Lists as lists
use Rattle.sbp_world.proofs.Hosts.ByteCalls.{KeepsBytes}
use Rattle.sbp_world.proofs.Hosts.Shown.{NotTo}
use Rattle.sbp_world.proofs.Common.{turned as other_way, itself}

pub record ByteTerms : Type 0 where
  pub command : ℕ → ℕ → Option Cmd
  pub prepared : ℕ → Option Orb
  pub before : ℕ → List ℕ
  pub held : ℕ → ℕ → ℕ

abbrev pub byte_terms : List Moment → ℕ → ByteTerms
byte_terms past i = record { command = command_at past i; prepared = prepared_in past i; before = tables_before past i; held = byte_held past i }

abbrev pub table_by : ℕ → (ℕ → ℕ → Option Cmd) → Option Orb → List ℕ
table_by slot command None = []
table_by slot command (Some one) = table_held slot (command one.list one.number)

abbrev pub table_of : ByteTerms → ℕ → List ℕ
table_of t slot = in_front (table_by slot t.command (t.prepared slot)) (t.before slot)

-- the page table of a slot as the history says it
table_in : (past : List Moment) (i slot : ℕ) (found : Option Orb) → table_in_slot past i slot found ≡ table_by slot (command_at past i) found
table_in past i slot None = refl
table_in past i slot (Some one) = refl

pub tables_are : (past : List Moment) (i slot : ℕ) → tables_in_slot past i slot ≡ table_of (byte_terms past i) slot
tables_are past i slot = ap (λ x. in_front x (tables_before past i slot)) (table_in past i slot (prepared_in past i slot))

-- ---- a memory that holds them

pub record SlotBytes (t : ByteTerms) (m : Memory) : Type 0 where
  pub tables : (k : ℕ) → k < 32 → (slot_at m k).table ≡ table_of t k
  pub buffers : (k j : ℕ) → k < 32 → j < 32768 → slice_index_or (slot_at m k).buffer j 0 ≡ t.held k (start (windows.Buffer k) + j)
  pub sends : (k : ℕ) (one : Orb) (cmd : Cmd) → k < 32 → t.prepared k ≡ Some one → t.command one.list one.number ≡ Some cmd → goes_in (Some cmd) ≡ false → (j byte : ℕ) → j < 32768 → byte_of k (start (windows.Buffer k) + j) (Some cmd) ≡ Some byte → slice_index_or (slot_at m k).buffer j 0 ≡ byte

pub kept_bytes : (t : ByteTerms) (m n : Memory) → KeepsBytes m n → SlotBytes t m → SlotBytes t n
kept_bytes t m n k h = record {
  tables = λ x b. k.tables x ∙ h.tables x b;
  buffers = λ x j b c. ap (λ xs. slice_index_or xs j 0) (k.buffers x) ∙ h.buffers x j b c;
  sends = λ x one cmd b p c g j byte d e. ap (λ xs. slice_index_or xs j 0) (k.buffers x) ∙ h.sends x one cmd b p c g j byte d e;
}

-- ---- notes that say nothing of them

abbrev pub is_kept : ℕ → Note → Bool
is_kept i (notes.Append j n k cdb buffer) = not (i == j)
is_kept i (notes.Got serial) = false
is_kept i _ = true

-- an ORB that is appended
abbrev with_append : (b same : Bool) → (i n k : ℕ) → List Moment → Option Cmd → (low other place : ℕ) → Option Cmd → ByteTerms → ByteTerms
with_append b same i n k past command low other place now t = record {
  command = λ m l. cond b (cond (nat_eq m n) (cond (nat_eq l k) command (t.command m l)) (t.command m l)) (t.command m l);
  prepared = λ x. cond b (cond (nat_eq x other) (Some (orb n k)) (t.prepared x)) (t.prepared x);
  before = λ x. cond (same && nat_eq low x) (in_front (table_in_slot past i x (prepared_in past i x)) (t.before x)) (t.before x);
  held = λ x a. or_byte (cond (same && nat_eq place x) (byte_of x a now) None) (t.held x a);
}

append_other : (past : List Moment) (i j n k : ℕ) (cdb : List ℕ) (buffer : NoteBuffer) → nat_eq i j ≡ false → byte_terms (said (notes.Append j n k cdb buffer) ∷ past) i ≡ byte_terms past i
append_other past i j n k cdb buffer e =
    let now = said (notes.Append j n k cdb buffer) ∷ past in
    let with = λ (b same : Bool). with_append b same i n k past (cmd_of (event_of past)) (lowest_vacant (slots past i)) (lowest_vacant (slots past j)) (lists.slot_at now i n k) (command_at now i n k) (byte_terms past i) in
    ap (λ b. with b (nat_eq j i)) e ∙ ap (with false) (other_way i j e)

pub bytes_kept : (note : Note) (past : List Moment) (i : ℕ) → is_kept i note ≡ true → byte_terms (said note ∷ past) i ≡ byte_terms past i
bytes_kept (notes.Append j n k cdb buffer) past i e = append_other past i j n k cdb buffer (not-true (nat_eq i j) e)
bytes_kept (notes.Linked j n k) past i e = refl
bytes_kept (notes.Dummied j n k) past i e = refl
bytes_kept (notes.Low j n k) past i e = refl
bytes_kept (notes.Taken j n k status answer) past i e = refl
bytes_kept (notes.Drop j n) past i e = refl
bytes_kept (notes.Op j operation word) past i e = refl
bytes_kept (notes.Sent serial generation from to bytes) past i e = refl
bytes_kept (notes.Seen node generation) past i e = refl
bytes_kept (notes.Begin initiators ready) past i e = refl
bytes_kept (notes.Rung j n k) past i e = refl
bytes_kept (notes.Injected serial) past i e = refl
bytes_kept (notes.Got serial) past i e = absurd (differ e)
  where
    differ : false ≡ true → ⊥
    differ e = cc
bytes_kept (notes.Ignored serial cause) past i e = refl
bytes_kept (notes.Lost serial) past i e = refl
bytes_kept (notes.TimedOut serial) past i e = refl
bytes_kept (notes.Ran j n k at cdb bytes check) past i e = refl
bytes_kept (notes.Ended j n k status) past i e = refl
bytes_kept (notes.Cut j n cause) past i e = refl
bytes_kept (notes.Dead j n cause) past i e = refl
bytes_kept (notes.Managed j word subject status login) past i e = refl
bytes_kept (notes.ManageFailed j cause) past i e = refl
bytes_kept (notes.Held id) past i e = refl
bytes_kept (notes.Expired id) past i e = refl
bytes_kept (notes.Back id) past i e = refl
bytes_kept (notes.Left id) past i e = refl
bytes_kept (notes.Cleared at) past i e = refl
bytes_kept (notes.Stuck j) past i e = refl
bytes_kept (notes.Reset generation) past i e = refl
bytes_kept notes.Tick past i e = refl
bytes_kept (notes.Refused line number) past i e = refl
bytes_kept notes.Settled past i e = refl
bytes_kept notes.Stopped past i e = refl
bytes_kept (notes.Key at) past i e = refl
bytes_kept (notes.Unsolicited j) past i e = refl
bytes_kept (notes.Unsent j) past i e = refl
bytes_kept (notes.Told j) past i e = refl

-- ---- a packet that is got

-- elsewhere
away : (i serial : ℕ) (past : List Moment) → NotTo past i serial → is_serial (receiver_in ((terms past).sent serial)) (suc i) ≡ false
away i serial past n = by_sent ((terms past).sent serial) refl
  where
    by_sent : (found : Option Sending) → (terms past).sent serial ≡ found → is_serial (receiver_in found) (suc i) ≡ false
    by_sent None e = refl
    by_sent (Some packet) e = n packet e

pub got_away : (i serial : ℕ) (past : List Moment) → NotTo past i serial → is_got_by past i serial ≡ false
got_away i serial past n = ap (λ b. b && is_complete_at past i (access_at (terms past) serial)) (away i serial past n)

pub got_else : (serial : ℕ) (past : List Moment) (i : ℕ) → NotTo past i serial → byte_terms (said (notes.Got serial) ∷ past) i ≡ byte_terms past i
got_else serial past i n =
    ap (λ c. record (byte_terms past i) { held = λ x a. or_byte (cond c (byte_brought a (packet_at (terms past) serial)) None) (byte_held past i x a) }) (got_away i serial past n)

-- one that brings no byte
pub got_nothing : (serial : ℕ) (past : List Moment) (i : ℕ) (m : Memory) → ((k j : ℕ) → k < 32 → j < 32768 → cond (is_got_by past i serial) (byte_brought (start (windows.Buffer k) + j) (packet_at (terms past) serial)) None ≡ None) → SlotBytes (byte_terms past i) m → SlotBytes (byte_terms (said (notes.Got serial) ∷ past) i) m
got_nothing serial past i m none h = record {
  tables = h.tables;
  buffers = λ k j b c. h.buffers k j b c ∙ sym (ap (λ x. or_byte x (byte_held past i k (start (windows.Buffer k) + j))) (none k j b c));
  sends = h.sends;
}

-- ---- an ORB that this initiator appends

-- what a memory has of it, and what stays
pub record Fills (m n : Memory) (slot : ℕ) (cmd : Cmd) : Type 0 where
  pub table : (slot_at n slot).table ≡ in_front (table_bytes slot 0 cmd.segments) (slot_at m slot).table
  pub byte : (j : ℕ) → slice_index_or (slot_at n slot).buffer j 0 ≡ or_byte (byte_of slot (start (windows.Buffer slot) + j) (Some cmd)) (slice_index_or (slot_at m slot).buffer j 0)
  pub tables : (k : ℕ) → (slot == k) ≡ false → (slot_at n k).table ≡ (slot_at m k).table
  pub buffers : (k : ℕ) → (slot == k) ≡ false → (slot_at n k).buffer ≡ (slot_at m k).buffer

pick3 : {A : Type 0} (a b c : Bool) (x y z w : A) → a ≡ true → b ≡ true → c ≡ true → cond a (cond b (cond c x y) z) w ≡ x
pick3 true true true x y z w e f g = refl
pick3 true true false x y z w e f g = absurd (cc g)
pick3 true false c x y z w e f g = absurd (cc f)
pick3 false b c x y z w e f g = absurd (cc e)

module _ (past : List Moment) (i n k slot : ℕ) (cdb : List ℕ) (buffer : NoteBuffer) (cmd : Cmd) (line : cmd_of (event_of past) ≡ Some cmd) (low : lowest_vacant (slots past i) ≡ slot) (fresh : (x : ℕ) (one : Orb) → x < 32 → prepared_in past i x ≡ Some one → one.list ≡ n → one.number ≡ k → ⊥) where
  abbrev pub now : List Moment
  now = said (notes.Append i n k cdb buffer) ∷ past

  slot_now : lists.slot_at now i n k ≡ slot
  slot_now = pick3 (nat_eq i i) (nat_eq n n) (nat_eq k k) (lowest_vacant (slots past i)) _ _ _ (itself i) (itself n) (itself k) ∙ low

  pub command_now : command_at now i n k ≡ Some cmd
  command_now = pick3 (nat_eq i i) (nat_eq n n) (nat_eq k k) (cmd_of (event_of past)) _ _ _ (itself i) (itself n) (itself k) ∙ line

  held_now : (x a : ℕ) (c : Bool) → nat_eq slot x ≡ c → byte_held now i x a ≡ or_byte (cond c (byte_of x a (Some cmd)) None) (byte_held past i x a)
  held_now x a c e =
      ap (λ b. or_byte (cond (b && nat_eq (lists.slot_at now i n k) x) (byte_of x a (command_at now i n k)) None) (byte_held past i x a)) (itself i)
      ∙ (ap (λ p. or_byte (cond (nat_eq p x) (byte_of x a (command_at now i n k)) None) (byte_held past i x a)) slot_now
      ∙ (ap (λ y. or_byte (cond (nat_eq slot x) (byte_of x a y) None) (byte_held past i x a)) command_now
      ∙ ap (λ b. or_byte (cond b (byte_of x a (Some cmd)) None) (byte_held past i x a)) e))

  turned : (x : ℕ) (c : Bool) → nat_eq slot x ≡ c → nat_eq x slot ≡ c
  turned x true e = grind (arith, nat_tests)
  turned x false e = grind (arith, nat_tests)

  pub prepared_now : (x : ℕ) (c : Bool) → nat_eq slot x ≡ c → prepared_in now i x ≡ cond c (Some (orb n k)) (prepared_in past i x)
  prepared_now x c e =
      ap (λ b. cond b (cond (nat_eq x (lowest_vacant (slots past i))) (Some (orb n k)) (prepared_in past i x)) (prepared_in past i x)) (itself i)
      ∙ (ap (λ p. cond (nat_eq x p) (Some (orb n k)) (prepared_in past i x)) low
      ∙ ap (λ b. cond b (Some (orb n k)) (prepared_in past i x)) (turned x c e))

  before_now : (x : ℕ) (c : Bool) → nat_eq slot x ≡ c → tables_before now i x ≡ cond c (table_of (byte_terms past i) x) (tables_before past i x)
  before_now x c e =
      ap (λ b. cond (b && nat_eq (lowest_vacant (slots past i)) x) (tables_in_slot past i x) (tables_before past i x)) (itself i)
      ∙ (ap (λ p. cond (nat_eq p x) (tables_in_slot past i x) (tables_before past i x)) low
      ∙ (ap (λ b. cond b (tables_in_slot past i x) (tables_before past i x)) e
      ∙ ap (λ xs. cond c xs (tables_before past i x)) (tables_are past i x)))

  -- an ORB of another name keeps its command
  pub command_there : (m l : ℕ) → (m ≡ n → l ≡ k → ⊥) → command_at now i m l ≡ command_at past i m l
  command_there m l other = by_list (nat_eq i i) (nat_eq m n) refl (nat_eq l k) refl
    where
      by_list : (a b : Bool) → nat_eq m n ≡ b → (c : Bool) → nat_eq l k ≡ c → cond a (cond b (cond c (cmd_of (event_of past)) (command_at past i m l)) (command_at past i m l)) (command_at past i m l) ≡ command_at past i m l
      by_list false b e c f = refl
      by_list true false e c f = refl
      by_list true true e false f = refl
      by_list true true e true f = absurd (other (grind (arith, nat_tests)) (grind (arith, nat_tests)))

  table_there : (x : ℕ) → x < 32 → (found : Option Orb) → prepared_in past i x ≡ found → table_by x (command_at now i) found ≡ table_by x (command_at past i) found
  table_there x b None e = refl
  table_there x b (Some one) e = ap (table_held x) (command_there one.list one.number (fresh x one b e))

  -- the page table of a slot
  table_now : (x : ℕ) → x < 32 → (c : Bool) → nat_eq slot x ≡ c → table_of (byte_terms now i) x ≡ cond c (in_front (table_bytes x 0 cmd.segments) (table_of (byte_terms past i) x)) (table_of (byte_terms past i) x)
  table_now x b true e =
      ap (λ y. in_front (table_by x (command_at now i) y) (tables_before now i x)) (prepared_now x true e)
      ∙ (ap (λ y. in_front (table_held x y) (tables_before now i x)) command_now
      ∙ ap (in_front (table_bytes x 0 cmd.segments)) (before_now x true e))
  table_now x b false e =
      ap (λ y. in_front (table_by x (command_at now i) y) (tables_before now i x)) (prepared_now x false e)
      ∙ (ap (λ xs. in_front xs (tables_before now i x)) (table_there x b (prepared_in past i x) refl)
      ∙ ap (in_front (table_by x (command_at past i) (prepared_in past i x))) (before_now x false e))

  module _ (m left : Memory) (f : Fills m left slot cmd) (h : SlotBytes (byte_terms past i) m) where
    tables_then : (x : ℕ) → x < 32 → (c : Bool) → nat_eq slot x ≡ c → (slot_at left x).table ≡ table_of (byte_terms now i) x
    tables_then x b true e =
        let same : slot ≡ x = grind (arith, nat_tests) in
        subst (λ y. (slot_at left y).table ≡ in_front (table_bytes y 0 cmd.segments) (slot_at m y).table) same f.table
        ∙ (ap (in_front (table_bytes x 0 cmd.segments)) (h.tables x b) ∙ sym (table_now x b true e))
    tables_then x b false e = f.tables x e ∙ (h.tables x b ∙ sym (table_now x b false e))

    byte_then : (x j : ℕ) → (c : Bool) → nat_eq slot x ≡ c → slice_index_or (slot_at left x).buffer j 0 ≡ or_byte (cond c (byte_of x (start (windows.Buffer x) + j) (Some cmd)) None) (slice_index_or (slot_at m x).buffer j 0)
    byte_then x j true e =
        let same : slot ≡ x = grind (arith, nat_tests) in
        subst (λ y. slice_index_or (slot_at left y).buffer j 0 ≡ or_byte (byte_of y (start (windows.Buffer y) + j) (Some cmd)) (slice_index_or (slot_at m y).buffer j 0)) same (f.byte j)
    byte_then x j false e = ap (λ xs. slice_index_or xs j 0) (f.buffers x e)

    sends_then : (x : ℕ) (one : Orb) (other : Cmd) → x < 32 → prepared_in now i x ≡ Some one → command_at now i one.list one.number ≡ Some other → goes_in (Some other) ≡ false → (j byte : ℕ) → j < 32768 → byte_of x (start (windows.Buffer x) + j) (Some other) ≡ Some byte → (c : Bool) → nat_eq slot x ≡ c → slice_index_or (slot_at left x).buffer j 0 ≡ byte
    sends_then x one other b p q g j byte d e true t =
        let named : orb n k ≡ one = let u = sym (prepared_now x true t) ∙ p in cc in
        let is : Some cmd ≡ Some other = sym command_now ∙ (ap (λ (y : Orb). command_at now i y.list y.number) named ∙ q) in
        byte_then x j true t
        ∙ (ap (λ y. or_byte (byte_of x (start (windows.Buffer x) + j) y) (slice_index_or (slot_at m x).buffer j 0)) is
        ∙ ap (λ y. or_byte y (slice_index_or (slot_at m x).buffer j 0)) e)
    sends_then x one other b p q g j byte d e false t =
        let before : prepared_in past i x ≡ Some one = sym (prepared_now x false t) ∙ p in
        let command : command_at past i one.list one.number ≡ Some other = sym (command_there one.list one.number (fresh x one b before)) ∙ q in
        byte_then x j false t ∙ h.sends x one other b before command g j byte d e

    pub appended_bytes : SlotBytes (byte_terms now i) left
    appended_bytes = record {
      tables = λ x b. tables_then x b (nat_eq slot x) refl;
      buffers = λ x j b c.
          byte_then x j (nat_eq slot x) refl
          ∙ (ap (or_byte (cond (nat_eq slot x) (byte_of x (start (windows.Buffer x) + j) (Some cmd)) None)) (h.buffers x j b c)
          ∙ sym (held_now x (start (windows.Buffer x) + j) (nat_eq slot x) refl));
      sends = λ x one other b p q g j byte d e. sends_then x one other b p q g j byte d e (nat_eq slot x) refl;
    }
