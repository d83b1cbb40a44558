-- The bytes of an ORB in a slot are read as that ORB.
use Rattle.sbp_world.proofs.Words.Std.{arith, ◌≡◌, refl, sym, ap, subst, ◌∙◌, ℕ, ◌+◌, ◌*◌, ◌/◌, ◌%◌, ◌^◌, ◌<◌, ◌≤◌, ◌==◌, ◌&&◌, nat_lt, Bool, true, false, cond, List, [], ◌∷◌, ◌++◌, length, take, drop, nat_tests, take_all, big_bytes, quad}
use Rattle.sbp_world.proofs.Words.Wire.{buffer_of, in_buffer, out_buffer, Cmd, In, Nothing}
use Rattle.sbp_world.proofs.Words.Initiator.{SlotMemory, CommandOrb, OrbPointer, CommandFits, command_bytes, command_options, command_orb, bit, flag, node_at, offset_at, pointer_at, pointer_high, HoldsOrb, Kept, orb_now, data_size, data_start, orb_of, Asked, IsRequest, asked_by}
use Rattle.sbp_world.proofs.Words.Laws.{plan_of}
use Rattle.sbp_world.proofs.Words.World.{orb_for}
use Rattle.sbp_world.proofs.Hosts.OrbFits.{OrbFits, format_in, next_in}
use Rattle.sbp_world.proofs.Hosts.OrbTerms.{OrbTerms}

-- ---- bytes that spell an ORB but for its next pointer

pub record Spellable (orb : CommandOrb) : Type 0 where
  pub descriptor : orb.descriptor < 2 ^ 48
  pub narrow : CommandFits orb
  pub data_size : orb.data_size < 2 ^ 16
  pub cdb : length orb.cdb ≡ 12

pub bit_small : (word : Bool) → bit word ≤ 1
bit_small true = omega arith
bit_small false = omega arith

flag_back : (quadlet place : ℕ) (word : Bool) → quadlet / 2 ^ place % 2 ≡ bit word → flag quadlet place ≡ word
flag_back quadlet place true h = rw h refl
flag_back quadlet place false h = rw h refl

-- quadlet 4 of a command ORB, taken apart
record Options (q n f t s m e p d : ℕ) : Type 0 where
  notify : q / 2 ^ 31 % 2 ≡ n
  format : q / 2 ^ 29 % 2 ^ 2 ≡ f
  direction : q / 2 ^ 27 % 2 ≡ t
  speed : q / 2 ^ 24 % 2 ^ 3 ≡ s
  payload : q / 2 ^ 20 % 2 ^ 4 ≡ m
  table : q / 2 ^ 19 % 2 ≡ e
  size : q / 2 ^ 16 % 2 ^ 3 ≡ p
  count : q % 2 ^ 16 ≡ d

taken_apart : (q n f t s m e p d : ℕ) → n ≤ 1 → f < 2 ^ 2 → t ≤ 1 → s < 2 ^ 3 → m < 2 ^ 4 → e ≤ 1 → p < 2 ^ 3 → d < 2 ^ 16 → q ≡ n * 2 ^ 31 + f * 2 ^ 29 + t * 2 ^ 27 + s * 2 ^ 24 + m * 2 ^ 20 + e * 2 ^ 19 + p * 2 ^ 16 + d → Options q n f t s m e p d
taken_apart q n f t s m e p d hn hf ht hs hm he hp hd h = record {
  notify = omega arith;
  format = omega arith;
  direction = omega arith;
  speed = omega arith;
  payload = omega arith;
  table = omega arith;
  size = omega arith;
  count = omega arith;
}

command_of : OrbPointer → ℕ → ℕ → ℕ → Bool → Bool → ℕ → ℕ → Bool → ℕ → ℕ → List ℕ → CommandOrb
command_of next descriptor node format notify to_initiator speed payload has_table size count cdb = record {
  next = next;
  descriptor = descriptor;
  descriptor_node = node;
  format = format;
  notify = notify;
  to_initiator = to_initiator;
  speed = speed;
  max_payload = payload;
  has_table = has_table;
  page_size = size;
  data_size = count;
  cdb = cdb;
}

abbrev pub spelled : CommandOrb → ℕ → ℕ → List ℕ
spelled orb high low = big_bytes 4 high ++ (big_bytes 4 low ++ drop 8 (command_bytes orb))

pub reads_spelled : (orb : CommandOrb) (high low : ℕ) → Spellable orb → command_orb (spelled orb high low) ≡ record orb { next = pointer_at (spelled orb high low) 0; descriptor_node = node_at (spelled orb high low) 8 }
unfolding command_of
reads_spelled orb high low h =
    let n : bit orb.notify ≤ 1 = bit_small orb.notify in
    let t : bit orb.to_initiator ≤ 1 = bit_small orb.to_initiator in
    let e : bit orb.has_table ≤ 1 = bit_small orb.has_table in
    let fits = h.narrow in
    let size = h.data_size in
    let small = h.descriptor in
    let descriptor : offset_at (spelled orb high low) 8 ≡ orb.descriptor = omega arith in
    let q16 : quad (spelled orb high low) 16 ≡ command_options orb = omega arith in
    let o : Options (quad (spelled orb high low) 16) (bit orb.notify) orb.format (bit orb.to_initiator) orb.speed orb.max_payload (bit orb.has_table) orb.page_size orb.data_size =
    taken_apart (quad (spelled orb high low) 16) (bit orb.notify) orb.format (bit orb.to_initiator) orb.speed orb.max_payload (bit orb.has_table) orb.page_size orb.data_size
    n h.narrow.format t h.narrow.speed h.narrow.max_payload e h.narrow.page_size h.data_size q16 in
    let notify : flag (quad (spelled orb high low) 16) 31 ≡ orb.notify = flag_back (quad (spelled orb high low) 16) 31 orb.notify o.notify in
    let direction : flag (quad (spelled orb high low) 16) 27 ≡ orb.to_initiator = flag_back (quad (spelled orb high low) 16) 27 orb.to_initiator o.direction in
    let table : flag (quad (spelled orb high low) 16) 19 ≡ orb.has_table = flag_back (quad (spelled orb high low) 16) 19 orb.has_table o.table in
    let long = h.cdb in
    let cdb : take 12 (drop 20 (spelled orb high low)) ≡ orb.cdb = take_all 12 orb.cdb (omega arith) in
    let same : command_orb (spelled orb high low) ≡ command_of (pointer_at (spelled orb high low) 0) orb.descriptor (node_at (spelled orb high low) 8) orb.format orb.notify orb.to_initiator orb.speed orb.max_payload orb.has_table orb.page_size orb.data_size orb.cdb = cc (o.format, o.speed, o.payload, o.size, o.count) in
    same

-- ---- the ORB of a request

size_small : (count : ℕ) (segments : List ℕ) → count ≤ 16384 → length segments ≤ 64 → data_size count segments < 2 ^ 16
size_small count [] a b = omega arith
size_small count (first ∷ rest) a b = omega arith

start_small : (slot : ℕ) (segments : List ℕ) → slot < 32 → data_start slot segments < 2 ^ 48
start_small slot [] b = omega arith
start_small slot (first ∷ rest) b = omega arith

pick_small : (b : Bool) (x : ℕ) → x < 2 ^ 48 → cond b x 0 < 2 ^ 48
pick_small true x h = h
pick_small false x h = omega arith

three_small : (b : Bool) → cond b 3 0 < 2 ^ 2
three_small true = omega arith
three_small false = omega arith

module _ (t : OrbTerms) (o : Kept) (f : OrbFits t o) (small : o.ticket.slot < 32) where
  requests : IsRequest o.asked
  requests = subst IsRequest (sym f.asked) (f.fits f.node f.login)

  spellable : Spellable (orb_now o)
  spellable =
      let q = requests in
      record {
        descriptor = pick_small (nat_lt 0 (data_size o.asked.length o.asked.segments)) (data_start o.ticket.slot o.asked.segments) (start_small o.ticket.slot o.asked.segments small);
        narrow = record { format = subst (λ x. x < 2 ^ 2) (sym f.format) (three_small (t.dummy o.ticket.list o.ticket.number)); speed = omega arith; max_payload = q.max_payload; page_size = omega arith };
        data_size = size_small o.asked.length o.asked.segments q.short q.segments;
        cdb = q.cdb;
      }

  -- as its slot holds it
  module _ (m : SlotMemory) (h : HoldsOrb o m) where
    abbrev named : Asked → ℕ → OrbPointer → ℕ → CommandOrb
    named asked slot next format = record (orb_of asked slot) { next = next; descriptor_node = node_at m.orb 8; format = format }

    read_now : command_orb m.orb ≡ named o.asked o.ticket.slot (pointer_at m.orb 0) o.format
    read_now =
        subst (λ bytes. command_orb bytes ≡ record (orb_now o) { next = pointer_at bytes 0; descriptor_node = node_at bytes 8 }) (sym h.orb)
        (reads_spelled (orb_now o) (pointer_high o.next) o.low spellable)

    pub reads_orb : command_orb m.orb ≡ orb_for f.cmd (node_at m.orb 8) o.ticket.slot (next_in t o.ticket.list o.ticket.number) (format_in t o.ticket.list o.ticket.number)
    reads_orb =
        read_now
        ∙ (ap (λ x. named x o.ticket.slot (pointer_at m.orb 0) o.format) f.asked
        ∙ (ap (λ x. named (asked_by f.cmd f.node f.login) o.ticket.slot x o.format) (h.pointer ∙ f.next)
        ∙ ap (λ x. named (asked_by f.cmd f.node f.login) o.ticket.slot (next_in t o.ticket.list o.ticket.number) x) f.format))

-- ---- the buffer of an append

direction_of : (b : Bool) (len : ℕ) (payload : List ℕ) → b && nat_lt 0 len ≡ (plan_of (cond b (in_buffer len) (out_buffer (take len payload)))).to_initiator
direction_of true len payload = by_length (len == 0) refl
  where
    by_length : (c : Bool) → (len == 0) ≡ c → nat_lt 0 len ≡ (plan_of (cond c Nothing (In len))).to_initiator
    by_length true e = grind (arith, nat_tests)
    by_length false e = grind (arith, nat_tests)
direction_of false len payload = out_direction (take len payload)
  where
    out_direction : (bytes : List ℕ) → false ≡ (plan_of (out_buffer bytes)).to_initiator
    out_direction [] = refl
    out_direction (byte ∷ bytes) = refl

pub same_direction : (cmd : Cmd) → cmd.to_initiator && nat_lt 0 cmd.length ≡ (plan_of (buffer_of cmd)).to_initiator
same_direction cmd = direction_of cmd.to_initiator cmd.length cmd.payload

out_bytes : (bytes : List ℕ) → (plan_of (out_buffer bytes)).bytes ≡ length bytes
out_bytes [] = refl
out_bytes (byte ∷ bytes) = refl

bytes_of : (b : Bool) (len : ℕ) (payload : List ℕ) → (b ≡ false → length payload ≡ len) → (plan_of (cond b (in_buffer len) (out_buffer (take len payload)))).bytes ≡ len
bytes_of true len payload h = by_length (len == 0) refl
  where
    by_length : (c : Bool) → (len == 0) ≡ c → (plan_of (cond c Nothing (In len))).bytes ≡ len
    by_length true e = grind (arith, nat_tests)
    by_length false e = refl
bytes_of false len payload h =
    let e = h refl in
    out_bytes (take len payload) ∙ (ap length (take_all len payload (omega arith)) ∙ e)

pub same_bytes : (cmd : Cmd) → (cmd.to_initiator ≡ false → length cmd.payload ≡ cmd.length) → (plan_of (buffer_of cmd)).bytes ≡ cmd.length
same_bytes cmd h = bytes_of cmd.to_initiator cmd.length cmd.payload h
