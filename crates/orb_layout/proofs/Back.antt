-- Reading what was written.
use Rattle.std.proofs.Common.{arith, ◌≡◌, refl, sym, ◌∙◌, ap, ℕ, ◌+◌, ◌*◌, ◌/◌, ◌%◌, ◌^◌, ◌==◌, ◌<◌, ◌≤◌, Bool, true, false, List, ◌++◌, length, nat_lt, Ok}
use Rattle.std.proofs.lemmas.Bool.{le-ltb}
use Rattle.sbp_base.specs.Quadlets.{quad}
use Rattle.orb_layout.specs.declared.pointer.OrbPointer.{OrbPointer}
use Rattle.orb_layout.specs.declared.pointer.OrbPointer.TheVariants.{Null, At}
use Rattle.orb_layout.specs.declared.login.LoginResponse.{LoginResponse}
use Rattle.orb_layout.specs.Pointers.{bit, flag, offset_at, node_at, pointer_at, pointer_high, pointer_low, IsPointer}
use Rattle.orb_layout.specs.LoginResponses.{login_bytes, login_response}
use Rattle.std.proofs.Common.{take, length-append}
use Rattle.std.proofs.Math.Seq.{take-append_seam}
use Rattle.std.proofs.lemmas.Bool.Decides.{nat_tests}
use Rattle.orb_layout.specs.declared.command.CommandOrb.{CommandOrb}
use Rattle.orb_layout.specs.CommandOrbs.{command_orb, command_options, command_bytes}
use Rattle.orb_layout.specs.ReadBack.{LoginReadsBack, CommandReadsBack}

-- Bytes that are long enough are read.
long_enough : (bytes : List ℕ) (need : ℕ) → need ≤ length bytes → nat_lt (length bytes) need ≡ false
long_enough bytes need h = le-ltb (length bytes) need h

login_of : ℕ → ℕ → ℕ → LoginResponse
login_of login agent hold = record { login = login; agent = agent; hold = hold }

pub login_back : LoginReadsBack
unfolding login_of
login_back response rest h =
    let long : nat_lt (length (login_bytes response ++ rest)) 16 ≡ false = long_enough (login_bytes response ++ rest) 16 (omega arith) in
    let login : quad (login_bytes response ++ rest) 0 % 2 ^ 16 ≡ response.login = omega arith in
    let agent : offset_at (login_bytes response ++ rest) 4 ≡ response.agent = omega arith in
    let hold : quad (login_bytes response ++ rest) 12 % 2 ^ 16 ≡ response.hold = omega arith in
    let same : login_response (login_bytes response ++ rest) ≡ login_of response.login response.agent response.hold = cc in
    rw long (ap (λ (r : LoginResponse). Ok r) same)

high_small : (pointer : OrbPointer) → IsPointer pointer → pointer_high pointer < 2 ^ 32
high_small Null h = omega arith
high_small (At offset) h = omega arith

low_small : (pointer : OrbPointer) → IsPointer pointer → pointer_low pointer < 2 ^ 32
low_small Null h = omega arith
low_small (At offset) h = omega arith

pointer_back : (pointer : OrbPointer) (bytes : List ℕ) → IsPointer pointer → quad bytes 0 ≡ pointer_high pointer → quad bytes 4 ≡ pointer_low pointer → pointer_at bytes 0 ≡ pointer
pointer_back Null bytes h high low = rw high refl
pointer_back (At offset) bytes h high low =
    let some : (quad bytes 0 / 2 ^ 31 == 1) ≡ false = grind (arith, nat_tests) in
    let place : offset_at bytes 0 ≡ offset = omega arith in
    rw some (ap (λ (n : ℕ). At n) place)

bit_small : (word : Bool) → bit word ≤ 1
bit_small true = omega arith
bit_small false = omega arith

flag_back : (quadlet place : ℕ) (word : Bool) → quadlet / 2 ^ place % 2 ≡ bit word → flag quadlet place ≡ word
flag_back quadlet place true h = rw h refl
flag_back quadlet place false h = rw h refl

-- Quadlet 4 of a command ORB, taken apart.
record Options (q n f t s m e p d : ℕ) : Type 0 where
  notify : q / 2 ^ 31 % 2 ≡ n
  format : q / 2 ^ 29 % 2 ^ 2 ≡ f
  direction : q / 2 ^ 27 % 2 ≡ t
  speed : q / 2 ^ 24 % 2 ^ 3 ≡ s
  payload : q / 2 ^ 20 % 2 ^ 4 ≡ m
  table : q / 2 ^ 19 % 2 ≡ e
  size : q / 2 ^ 16 % 2 ^ 3 ≡ p
  count : q % 2 ^ 16 ≡ d

command_of : OrbPointer → ℕ → ℕ → ℕ → Bool → Bool → ℕ → ℕ → Bool → ℕ → ℕ → List ℕ → CommandOrb
command_of next descriptor node format notify to_initiator speed payload has_table size count cdb = record {
  next = next;
  descriptor = descriptor;
  descriptor_node = node;
  format = format;
  notify = notify;
  to_initiator = to_initiator;
  speed = speed;
  max_payload = payload;
  has_table = has_table;
  page_size = size;
  data_size = count;
  cdb = cdb;
}

apart : (q n f t s m e p d : ℕ) → n ≤ 1 → f < 2 ^ 2 → t ≤ 1 → s < 2 ^ 3 → m < 2 ^ 4 → e ≤ 1 → p < 2 ^ 3 → d < 2 ^ 16
    → q ≡ n * 2 ^ 31 + f * 2 ^ 29 + t * 2 ^ 27 + s * 2 ^ 24 + m * 2 ^ 20 + e * 2 ^ 19 + p * 2 ^ 16 + d → Options q n f t s m e p d
apart q n f t s m e p d hn hf ht hs hm he hp hd h = record {
  notify = omega arith;
  format = omega arith;
  direction = omega arith;
  speed = omega arith;
  payload = omega arith;
  table = omega arith;
  size = omega arith;
  count = omega arith;
}

pub command_back : CommandReadsBack
unfolding command_of
command_back orb rest h =
    let high : pointer_high orb.next < 2 ^ 32 = high_small orb.next h.next in
    let low : pointer_low orb.next < 2 ^ 32 = low_small orb.next h.next in
    let n : bit orb.notify ≤ 1 = bit_small orb.notify in
    let t : bit orb.to_initiator ≤ 1 = bit_small orb.to_initiator in
    let e : bit orb.has_table ≤ 1 = bit_small orb.has_table in
    let long : nat_lt (length (command_bytes orb ++ rest)) 32 ≡ false = long_enough (command_bytes orb ++ rest) 32 (omega (arith, length-append orb.cdb rest)) in
    let q0 : quad (command_bytes orb ++ rest) 0 ≡ pointer_high orb.next = omega arith in
    let q4 : quad (command_bytes orb ++ rest) 4 ≡ pointer_low orb.next = omega arith in
    let next : pointer_at (command_bytes orb ++ rest) 0 ≡ orb.next = pointer_back orb.next (command_bytes orb ++ rest) h.next q0 q4 in
    let descriptor : offset_at (command_bytes orb ++ rest) 8 ≡ orb.descriptor = omega arith in
    let node : node_at (command_bytes orb ++ rest) 8 ≡ orb.descriptor_node = omega arith in
    let q16 : quad (command_bytes orb ++ rest) 16 ≡ command_options orb = omega arith in
    let o : Options (quad (command_bytes orb ++ rest) 16) (bit orb.notify) orb.format (bit orb.to_initiator) orb.speed orb.max_payload (bit orb.has_table) orb.page_size orb.data_size =
    apart (quad (command_bytes orb ++ rest) 16) (bit orb.notify) orb.format (bit orb.to_initiator) orb.speed orb.max_payload (bit orb.has_table) orb.page_size orb.data_size
    n h.narrow.format t h.narrow.speed h.narrow.max_payload e h.narrow.page_size h.data_size q16 in
    let notify : flag (quad (command_bytes orb ++ rest) 16) 31 ≡ orb.notify = flag_back (quad (command_bytes orb ++ rest) 16) 31 orb.notify o.notify in
    let direction : flag (quad (command_bytes orb ++ rest) 16) 27 ≡ orb.to_initiator = flag_back (quad (command_bytes orb ++ rest) 16) 27 orb.to_initiator o.direction in
    let table : flag (quad (command_bytes orb ++ rest) 16) 19 ≡ orb.has_table = flag_back (quad (command_bytes orb ++ rest) 16) 19 orb.has_table o.table in
    let cdb : take 12 (orb.cdb ++ rest) ≡ orb.cdb = ap (λ (k : ℕ). take k (orb.cdb ++ rest)) (sym h.cdb) ∙ take-append_seam orb.cdb rest in
    let same : command_orb (command_bytes orb ++ rest) ≡ command_of orb.next orb.descriptor orb.descriptor_node orb.format orb.notify orb.to_initiator orb.speed orb.max_payload orb.has_table orb.page_size orb.data_size orb.cdb = cc (o.format, o.speed, o.payload, o.size, o.count) in
    rw long (ap (λ (r : CommandOrb). Ok r) same)
