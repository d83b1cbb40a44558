-- Of the writes of MANAGEMENT_AGENT that are in flight and wait to be judged, in the generation of the target, there is one of each initiator at most, where all nodes have seen the latest
-- reset and nobody injected packets: each asks for an operation with the ORB in a place of management of its initiator.
use Rattle.sbp_world.proofs.Words.Std.{arith, ◌≡◌, ◌∙◌, refl, ◌-◌, ◌/◌, ◌%◌, ◌<◌, ◌≤◌, ◌==◌, ◌&&◌, not, ℕ, suc, nat_eq, nat_le, nat_lt, Bool, true, false, cond, List, length, Option, Some, None, nat_tests}
use Rattle.sbp_world.proofs.Words.Wire.{Access, Moment, Rise, Sending, Sent, Start, as_sending, found_sent, management_agent, management_address, no_start, register, rom_base, rom_start, start_at, agent_reset, agent_state, doorbell, orb_pointer, unsolicited_enable, terms}
use Rattle.sbp_world.proofs.Words.Target.{management_start}
use Rattle.sbp_world.proofs.Words.Laws.{access_in_bytes}
use Rattle.sbp_world.proofs.Words.World.{IsAsking, IsTame, NoneInjected, WorldState}
use Rattle.packet_store.specs.Weights.{weight}
use Rattle.sbp_journal.specs.Addresses.{base_of, register_at, registers_base, writes_pointer}
use Rattle.sbp_world.specs.Counting.Asking.{AsksOnce}
use Rattle.sbp_world.specs.Counting.Wire.{is_unjudged, manages_at, manages_by, manages_of, managing}
use Rattle.sbp_world.proofs.Common.{and_first, and_second, equal_numbers, untrue}
use Rattle.sbp_world.proofs.Counting.StartSums.{AreSame, Test, each_found, one_of_each}
use Rattle.sbp_world.proofs.Lists.PlacedOps.{Written, names_held}

-- ---- where MANAGEMENT_AGENT is
register_apart : (place distance : ℕ) → register_at place distance ≡ management_agent → ⊥
register_apart place distance e = by (distance == 0x00) (distance == 0x04) (distance == 0x08) (distance == 0x10) (distance == 0x14) e
  where
    by : (a b c d f : Bool) → cond a (register place agent_state) (cond b (register place agent_reset) (cond c (register place orb_pointer) (cond d (register place doorbell) (cond f (register place unsolicited_enable) no_start)))) ≡ management_agent → ⊥
    by true b c d f e = absurd (let no : register place agent_state ≡ management_agent = e in cc)
    by false true c d f e = absurd (let no : register place agent_reset ≡ management_agent = e in cc)
    by false false true d f e = absurd (let no : register place orb_pointer ≡ management_agent = e in cc)
    by false false false true f e = absurd (let no : register place doorbell ≡ management_agent = e in cc)
    by false false false false true e = absurd (let no : register place unsolicited_enable ≡ management_agent = e in cc)
    by false false false false false e = absurd (let no : no_start ≡ management_agent = e in cc)

pub at_management : (offset : ℕ) → start_at offset ≡ management_agent → offset ≡ management_start
unfolding start_at
at_management offset e =
    let place = (offset - registers_base) / 0x20 in
    let distance = (offset - registers_base) % 0x20 in
    by (offset == rom_base) (offset == management_address) (nat_le registers_base offset && nat_lt offset (base_of 8)) refl (register_at place distance) (register_apart place distance) e
  where
    by : (a b c : Bool) → (offset == management_address) ≡ b → (x : Start) → (x ≡ management_agent → ⊥) → cond a rom_start (cond b management_agent (cond c x no_start)) ≡ management_agent → offset ≡ management_start
    by true b c f x apart e = absurd (let no : rom_start ≡ management_agent = e in cc)
    by false true c f x apart e = equal_numbers offset management_start f
    by false false true f x apart e = absurd (apart e)
    by false false false f x apart e = absurd (let no : no_start ≡ management_agent = e in cc)

-- ---- a packet that counts
record Manages (counts : Bool) (from : ℕ) (bytes : List ℕ) : Type 0 where
  apart : 0 < from
  counted : counts ≡ true
  access : Access
  spelled : access_in_bytes bytes ≡ Some access
  at : access.offset ≡ management_start
  writes : access.is_write ≡ true
  block : access.is_block ≡ true

module _ (counts : Bool) (from : ℕ) (bytes : List ℕ) (apart : 0 < from) where
  by_start : (access : Access) → access_in_bytes bytes ≡ Some access → (start : Start) → start_at access.offset ≡ start → manages_at counts start access ≡ true → Manages counts from bytes
  by_start access spelled management_agent at e =
      let writes : writes_pointer access ≡ true = and_second counts (writes_pointer access) e in
      let both = and_first (not access.is_lock && access.is_write && access.is_block) (access.count == 8) writes in
      record {
        apart = apart;
        counted = and_first counts (writes_pointer access) e;
        access = access;
        spelled = spelled;
        at = at_management access.offset at;
        writes = and_second (not access.is_lock) access.is_write (and_first (not access.is_lock && access.is_write) access.is_block both);
        block = and_second (not access.is_lock && access.is_write) access.is_block both;
      }
  by_start access spelled (register place name) at e = untrue e
  by_start access spelled rom_start at e = untrue e
  by_start access spelled no_start at e = untrue e

  by_access : (asks : Option Access) → access_in_bytes bytes ≡ asks → manages_by counts asks ≡ true → Manages counts from bytes
  by_access None spelled e = untrue e
  by_access (Some access) spelled e = by_start access spelled (start_at access.offset) refl e

manages_is : (counts : Bool) (from : ℕ) (bytes : List ℕ) → manages_of counts from bytes ≡ true → Manages counts from bytes
manages_is counts from bytes e = by (nat_eq from 0) refl e
  where
    by : (b : Bool) → nat_eq from 0 ≡ b → cond b false (manages_by counts (access_in_bytes bytes)) ≡ true → Manages counts from bytes
    by true f g = untrue g
    by false f g = by_access counts from bytes (grind (arith, nat_tests)) (access_in_bytes bytes) refl g

-- ---- at a place of a run
-- what is known of the packets that the store has
pub record AreKept (now : List Moment) (w : WorldState) : Type 0 where
  pub sent : (serial : ℕ) (sent : Sent) → found_sent serial w.store.kept ≡ Some sent → (terms now).sent serial ≡ Some (as_sending sent)
  pub from : (serial : ℕ) (sent : Sent) → found_sent serial w.store.kept ≡ Some sent → sent.from ≤ length w.initiators
  pub rises : Rise 0 w.store.last w.store.kept

-- and of the initiators, where nobody injected packets
pub record AreAsking (now : List Moment) (w : WorldState) : Type 0 where
  pub few : length w.initiators ≤ 4
  pub tame : IsTame now
  pub none : (i : ℕ) → i < length w.initiators → NoneInjected now i
  pub wrote : (i : ℕ) → i < length w.initiators → Written now i
  pub once : (i : ℕ) → i < length w.initiators → AsksOnce now i

-- every node is in one generation
abbrev pub AreSeen : List Moment → WorldState → Type 0
AreSeen now w = (i : ℕ) → i < length w.initiators → (terms now).generation 0 ≡ (terms now).generation (suc i)

module _ (now : List Moment) (w : WorldState) (kept : AreKept now w) (asking : AreAsking now w) (seen : AreSeen now w) where
  abbrev Found : ℕ → Sent → Type 0
  Found serial sent = found_sent serial w.store.kept ≡ Some sent

  abbrev counts : ℕ → Sent → Bool
  counts = is_unjudged (terms now)

  abbrev is_managing : Test
  is_managing serial sent = manages_of (counts serial sent) sent.from sent.bytes

  record Asks (i serial : ℕ) : Type 0 where
    place : ℕ
    is : IsAsking now i serial place

  asks : (i : ℕ) → i < length w.initiators → (serial : ℕ) (sent : Sent) → Found serial sent → is_managing serial sent ≡ true → sent.from ≡ suc i → Asks i serial
  asks i l serial sent found e own =
      let m = manages_is (counts serial sent) sent.from sent.bytes e in
      let few = asking.few in
      let packet : Sending = as_sending sent in
      let is = kept.sent serial sent found in
      let honest = asking.none i l (asking.tame i) serial packet is own in
      let named = (names_held now i (omega (arith, few, l)) (asking.wrote i l) serial packet is own honest m.access m.spelled m.writes m.block m.at).named in
      let unjudged : nat_eq ((terms now).news serial) 0 ≡ true = and_first ((terms now).news serial == 0) (sent.generation == (terms now).generation 0) m.counted in
      let current : nat_eq sent.generation ((terms now).generation 0) ≡ true = and_second ((terms now).news serial == 0) (sent.generation == (terms now).generation 0) m.counted in
      record {
        place = named.place;
        is = record {
          packet = packet;
          sent = is;
          from_is = own;
          honest = honest;
          current = equal_numbers sent.generation ((terms now).generation 0) current ∙ seen i l;
          access = m.access;
          spelled = m.spelled;
          writes = m.writes;
          block = m.block;
          small = named.small;
          names = named.names;
          unjudged = equal_numbers ((terms now).news serial) 0 unjudged;
        };
      }

  same_asking : (i : ℕ) → i < length w.initiators → AreSame Found is_managing i
  same_asking i l serial other sent next p q e f own its =
      let one = asks i l serial sent p e own in
      let two = asks i l other next q f its in
      asking.once i l serial other one.place two.place one.is two.is

  pub managing_most : weight (managing (is_unjudged (terms now))) w.store.kept ≤ length w.initiators
  managing_most =
      one_of_each Found is_managing (length w.initiators)
      (λ serial sent found e. record { apart = (manages_is (counts serial sent) sent.from sent.bytes e).apart; small = kept.from serial sent found })
      same_asking w.store.last w.store.kept kept.rises
      (each_found Found w.store.last 0 w.store.kept kept.rises (λ serial sent low e. e))
