-- What a line of a drill that appends rings: ORB_POINTER, with the address of an ORB, where its initiator wrote none, and else DOORBELL.
use Rattle.std.proofs.Common.{◌≡◌, ◌∙◌, refl, sym, ap, subst, ℕ, suc, ◌+◌, ◌/◌, ◌%◌, ◌^◌, ◌<◌, ◌≤◌, ◌==◌, ◌&&◌, not, Bool, true, false, cond, nat_eq, List, [], ◌∷◌, ◌++◌, length, Option, Some, None, Result, Ok, Err, arith}
use Rattle.std.proofs.lemmas.Bool.Decides.{nat_tests}
use Rattle.std.proofs.lemmas.List.{length-map, length-set}
use Rattle.byteorder.specs.Endian.{big_bytes}
use Rattle.byteorder.specs.Numbers.{big_number-reads_back}
use Rattle.async_packet.specs.declared.fault.PacketFault.{PacketFault}
use Rattle.async_packet.specs.Canon.{canon}
use Rattle.async_packet.specs.Packet.{Packet, lock, lock_response, read_block, read_block_response, read_quadlet, read_quadlet_response, write_block, write_quadlet, write_response}
use Rattle.async_packet.specs.Reading.{reading}
use Rattle.bus_memory.specs.declared.window.Window.TheVariants as windows
use Rattle.bus_memory.specs.Windows.{start}
use Rattle.bus_transactions.specs.Answers.{IsSentFor}
use Rattle.label_table.specs.Bodies.{header_to, request_with}
use Rattle.label_table.specs.Requests.{label_of}
use Rattle.orb_layout.specs.Pointers.{offset_at, pointer_at}
use Rattle.orb_layout.specs.declared.pointer.OrbPointer.TheVariants.{At, Null}
use Rattle.rbc_disk.specs.Disk.{Disk}
use Rattle.sbp_base.specs.Quadlets.{quad}
use Rattle.sbp_journal.specs.Addresses.{Access, base_of, doorbell, orb_pointer}
use Rattle.sbp_journal.specs.Run.{Moment, asked, said}
use Rattle.sbp_journal.specs.Transactions.{Kind, part_by, part_of, request, response}
use Rattle.sbp_journal.specs.Wire.{Owed, Terms, terms}
use Rattle.sbp_journal.specs.declared.event.Cmd.{Cmd}
use Rattle.sbp_journal.specs.declared.event.Event.TheVariants as events
use Rattle.sbp_journal.specs.declared.event.Action.TheVariants as actions
use Rattle.sbp_journal.specs.declared.note.Note.{Note}
use Rattle.sbp_journal.specs.declared.note.Note.TheVariants as notes
use Rattle.sbp_laws.specs.Actions.{address_bytes, first_slot, pointer_for, register_of, ring_body}
use Rattle.sbp_laws.specs.Hosts.{goes_on, host_at, known_host, ring, sent_as}
use Rattle.sbp_laws.specs.Lists.{SlotState, is_vacant, lowest_vacant, new_slots, present_list, slot_at, slots, slots_by, freed}
use Rattle.sbp_laws.specs.Packets.{access_in, access_in_bytes, spelled_by}
use Rattle.sbp_laws.specs.Served.{taken_rcode}
use Rattle.sbp_laws.specs.Terms.{appends}
use Rattle.sbp_laws.specs.Turns.{event_of}
use Rattle.drill_laws.proofs.DrillActs.{IsRingPacket}
use Rattle.drill_laws.proofs.DrillPackets.{PaysWell}
use Rattle.drill_laws.proofs.DrillRingReplies.{IsRingOf, bells, belling, pointing, points}
use Rattle.drill_laws.proofs.DrillRings.{bell_asks, pointer_asks}
use Rattle.drill_laws.proofs.DrillServes.{IsPointed, IsSentBy, Serves, rung, same_pointed}
use Rattle.drill_laws.proofs.DrillSends.{packet, sent_serves}
use Rattle.drill_laws.proofs.DrillTurns.{IsCalm}
use Rattle.drill_laws.proofs.DrillWire.{Parts, sends_keeps}
use Rattle.drill_laws.proofs.DrillFresh.{host_wire}

-- ---- slots are few
either_many : (b : Bool) (xs ys : List SlotState) → length xs ≡ 32 → length ys ≡ 32 → length (cond b xs ys) ≡ 32
either_many true xs ys e f = e
either_many false xs ys e f = f

slots_by_many : (note : Note) (past : List Moment) (i : ℕ) (xs : List SlotState) → length xs ≡ 32 → length (slots_by note past i xs) ≡ 32
slots_by_many (notes.Append j n k cdb buffer) past i xs e = either_many (j == i) _ xs (length-set xs _ _ ∙ e) e
slots_by_many (notes.Taken j n k status answer) past i xs e = either_many _ _ xs (length-map xs _ ∙ e) e
slots_by_many (notes.Drop j n) past i xs e = either_many (j == i) _ xs (length-map xs _ ∙ e) e
slots_by_many (notes.Seen node generation) past i xs e = either_many _ new_slots xs refl e
slots_by_many _ past i xs e = e

slots_many : (past : List Moment) (i : ℕ) → length (slots past i) ≡ 32
slots_many [] i = refl
slots_many (asked line event ∷ past) i = slots_many past i
slots_many (said note ∷ past) i = length-map (slots_by note past i (slots past i)) (freed (said note ∷ past) i) ∙ slots_by_many note past i (slots past i) (slots_many past i)

lowest_low : (xs : List SlotState) → lowest_vacant xs ≤ length xs
lowest_low [] = omega arith
lowest_low (x ∷ xs) = by (is_vacant x) (lowest_low xs)
  where
    by : (b : Bool) → lowest_vacant xs ≤ length xs → cond b 0 (suc (lowest_vacant xs)) ≤ suc (length xs)
    by true l = omega arith
    by false l = omega (arith, l)

vacant_low : (past : List Moment) (i : ℕ) → lowest_vacant (slots past i) ≤ 32
vacant_low past i = let l = lowest_low (slots past i) in let many = slots_many past i in omega (arith, l, many)

slot_low : (past : List Moment) (i n k : ℕ) → slot_at past i n k ≤ 32
slot_low [] i n k = omega arith
slot_low (said (notes.Append j m l cdb buffer) ∷ past) i n k = by (nat_eq i j) (nat_eq n m) (nat_eq k l) (slot_low past i n k) (vacant_low past j)
  where
    by : (a b c : Bool) → slot_at past i n k ≤ 32 → lowest_vacant (slots past j) ≤ 32 → cond a (cond b (cond c (lowest_vacant (slots past j)) (slot_at past i n k)) (slot_at past i n k)) (slot_at past i n k) ≤ 32
    by true true true old new = new
    by true true false old new = old
    by true false c old new = old
    by false b c old new = old
slot_low (asked line event ∷ past) i n k = slot_low past i n k
slot_low (said _ ∷ past) i n k = slot_low past i n k

first_low : (past : List Moment) (i : ℕ) (present : Option ℕ) → first_slot past i present ≤ 32
first_low past i None = vacant_low past i
first_low past i (Some n) = slot_low past i n 0

points_there : (address : ℕ) → address < 2 ^ 32 → taken_rcode (pointer_at (address_bytes address) 0) ≡ 0
points_there address small =
    let bytes : List ℕ = address_bytes address in
    let is : quad bytes 0 ≡ address / 2 ^ 32 = big_number-reads_back 4 (address / 2 ^ 32) (big_bytes 4 (address % 2 ^ 32) ++ []) (omega (arith, small)) in
    let zeros : quad bytes 0 ≡ 0 = omega (arith, is, small) in
    ap (λ n. taken_rcode (cond (n / 2 ^ 31 == 1) Null (At (offset_at bytes 0)))) zeros

-- ---- what it asks for
pub data RingKind (pointer : Option ℕ) (i : ℕ) (access : Access) : Type 0 where
  first : (payload : List ℕ) → pointer ≡ None → access ≡ pointing i payload → taken_rcode (pointer_at payload 0) ≡ 0 → RingKind pointer i access
  more : (p : ℕ) → pointer ≡ Some p → access ≡ belling i → RingKind pointer i access

pub record RingAsks (pointer : Option ℕ) (i : ℕ) (bytes : List ℕ) : Type 0 where
  pub access : Access
  pub is : access_in_bytes bytes ≡ Some access
  pub kind : RingKind pointer i access

-- the pointer of an initiator counts for its present list
abbrev pub PointsFor : List Moment → ℕ → Option ℕ → Type 0
PointsFor past i pointer = (host_at past i).pointer ≡ pointer → pointer_for (present_list past i) (host_at past i) ≡ pointer

pub ring_asks : (past : List Moment) (i from to : ℕ) (bytes : List ℕ) → (host_at past i).login.agent ≡ base_of i → ((p : ℕ) → PointsFor past i (Some p)) → PointsFor past i None
    → IsRingPacket past i from to bytes → RingAsks (host_at past i).pointer i bytes
ring_asks past i from to bytes agent some none r = by (host_at past i).pointer refl
  where
    address : ℕ
    address = start (windows.Orb (first_slot past i (present_list past i)))

    by : (pointer : Option ℕ) → (host_at past i).pointer ≡ pointer → RingAsks pointer i bytes
    by None e =
        let spelled = r.spelled ∙ ap (λ p. canon (request_with (header_to r.source r.destination (label_of bytes)) (ring_body past i (host_at past i) p))) (none e) in
        record {
          access = pointing i (address_bytes address);
          is = pointer_asks bytes (address_bytes address) r.source r.destination (register_of (host_at past i) orb_pointer) r.source_small r.destination_small (omega arith) (omega arith) spelled
              ∙ ap (λ a. Some (record { is_lock = false; is_write = true; is_block = true; offset = (a + 0x08) % 2 ^ 48; count = 8; payload = address_bytes address })) agent;
          kind = first (address_bytes address) refl refl (points_there address (let low = first_low past i (present_list past i) in omega (arith, low)));
        }
    by (Some p) e =
        let spelled = r.spelled ∙ ap (λ p. canon (request_with (header_to r.source r.destination (label_of bytes)) (ring_body past i (host_at past i) p))) (some p e) in
        record {
          access = belling i;
          is = bell_asks bytes r.source r.destination (register_of (host_at past i) doorbell) (host_at past i).running r.source_small r.destination_small (omega arith) spelled
              ∙ ap (λ a. Some (record { is_lock = false; is_write = true; is_block = false; offset = (a + 0x10) % 2 ^ 48; count = 4; payload = [] })) agent;
          kind = more p refl refl;
        }

record AsksPart (bytes : List ℕ) : Type 0 where
  label : ℕ
  kind : Kind
  part : part_of bytes ≡ request label kind

asks_part : (bytes : List ℕ) (access : Access) → access_in_bytes bytes ≡ Some access → AsksPart bytes
unfolding part_of
asks_part bytes access e = by (reading bytes) refl e
  where
    as_is : (r : Result Packet PacketFault) (label : ℕ) (kind : Kind) → reading bytes ≡ r → part_by r ≡ request label kind → AsksPart bytes
    as_is r label kind e f = record { label = label; kind = kind; part = ap part_by e ∙ f }

    by : (r : Result Packet PacketFault) → reading bytes ≡ r → access_in (spelled_by r) ≡ Some access → AsksPart bytes
    by (Err fault) e f = absurd (let no : None ≡ Some access = f in cc no)
    by (Ok (write_quadlet header offset value)) e f = as_is _ _ _ e refl
    by (Ok (write_block header offset payload)) e f = as_is _ _ _ e refl
    by (Ok (read_quadlet header offset)) e f = as_is _ _ _ e refl
    by (Ok (read_block header offset count)) e f = as_is _ _ _ e refl
    by (Ok (lock header offset extended payload)) e f = as_is _ _ _ e refl
    by (Ok (write_response header rcode)) e f = absurd (let no : None ≡ Some access = f in cc no)
    by (Ok (read_quadlet_response header rcode value)) e f = absurd (let no : None ≡ Some access = f in cc no)
    by (Ok (read_block_response header rcode payload)) e f = absurd (let no : None ≡ Some access = f in cc no)
    by (Ok (lock_response header rcode extended payload)) e f = absurd (let no : None ≡ Some access = f in cc no)

-- ---- the ring is sent
pub record RingHere (past : List Moment) (i : ℕ) (from to : ℕ) (bytes : List ℕ) : Type 0 where
  pub small : i < 2
  pub sender : from ≡ suc i
  pub receiver : to ≡ 0
  pub cmd : Cmd
  pub line : event_of past ≡ Some (events.Act i (actions.Append cmd))
  pub asks : RingAsks (host_at past i).pointer i bytes
  pub list : ℕ
  pub present : present_list past i ≡ Some list
  pub some : appends past i list ≡ 0 → ⊥

module _ (start_disks : List Disk) (past : List Moment) (i s generation from to : ℕ) (bytes : List ℕ) (h : Serves start_disks past) (r : RingHere past i from to bytes) (free : (terms past).injected s ≡ false) where
  abbrev sent : List Moment
  sent = said (notes.Sent s generation from to bytes) ∷ past

  -- its host
  own_host : (host_at sent i).pointer ≡ (ring (host_at past i).pointer s (host_at past i)).pointer
  own_host =
      let a = asks_part bytes r.asks.access r.asks.is in
      ap (λ (w : Terms). (cond ((from == suc i) && not (w.injected s)) (sent_as (part_of bytes) (event_of past) i (present_list past i) s (host_at past i)) (host_at past i)).pointer) (host_wire past i)
      ∙ ap (λ b. (cond b (sent_as (part_of bytes) (event_of past) i (present_list past i) s (host_at past i)) (host_at past i)).pointer) mine
      ∙ ap (λ part. (sent_as part (event_of past) i (present_list past i) s (host_at past i)).pointer) a.part
      ∙ ap (λ event. (sent_as (request a.label a.kind) event i (present_list past i) s (host_at past i)).pointer) r.line
      ∙ ap (λ b. (cond b (ring (host_at past i).pointer s (host_at past i)) (goes_on (host_at past i).operation s (host_at past i))).pointer) (let one : (i == i) ≡ true = grind (arith, nat_tests) in one)
    where
      both : (a b : Bool) → a ≡ true → b ≡ false → (a && not b) ≡ true
      both true false e f = refl
      both true true e f = absurd (cc f)
      both false b e f = absurd (cc e)

      mine : ((from == suc i) && not ((terms past).injected s)) ≡ true
      mine = both (from == suc i) ((terms past).injected s) (let e = r.sender in grind (arith, nat_tests)) free

  other_host : (j : ℕ) → (j ≡ i → ⊥) → (host_at sent j).pointer ≡ (host_at past j).pointer
  other_host j apart = ap (λ b. (cond (b && not ((known_host past j).wire.injected s)) (sent_as (part_of bytes) (event_of past) j (present_list past j) s (host_at past j)) (host_at past j)).pointer) (by (from == suc j) refl)
    where
      by : (b : Bool) → (from == suc j) ≡ b → b ≡ false
      by true e = absurd (apart (let f = r.sender in let same : suc j ≡ suc i = grind (arith, nat_tests) in omega (arith, same)))
      by false e = refl

  keeps : (j p : ℕ) → (host_at past j).pointer ≡ Some p → (host_at sent j).pointer ≡ Some p
  keeps j p e = by (nat_eq j i) refl
    where
      by : (b : Bool) → nat_eq j i ≡ b → (host_at sent j).pointer ≡ Some p
      by false f = other_host j (λ g. grind (arith, nat_tests)) ∙ e
      by true f =
          let same : j ≡ i = grind (arith, nat_tests) in
          let here : (host_at past i).pointer ≡ Some p = subst (λ n. (host_at past n).pointer ≡ Some p) same e in
          subst (λ n. (host_at sent n).pointer ≡ Some p) (sym same) (own_host ∙ ap (λ o. (ring o s (host_at past i)).pointer) here ∙ here)

  count_is : (terms sent).count ≡ (terms past).count + 1
  count_is = ap (λ (x : Parts). x.count) (sends_keeps s (packet start_disks past s generation from to bytes h) (terms past))

  hosts : s ≡ (terms past).count + 1 → (j p : ℕ) → j < 2 → (host_at sent j).pointer ≡ Some p → IsPointed sent j p
  hosts next j p small e = by (nat_eq j i) refl
    where
      old : (host_at past j).pointer ≡ Some p → IsPointed sent j p
      old f = same_pointed past sent j p (record { present = refl; appended = refl }) (let c = count_is in omega (arith, c)) (h.hosts j p small f)

      by : (b : Bool) → nat_eq j i ≡ b → IsPointed sent j p
      by false f = old (sym (other_host j (λ g. grind (arith, nat_tests))) ∙ e)
      by true f = by_pointer (host_at past i).pointer refl
        where
          same : j ≡ i
          same = grind (arith, nat_tests)

          by_pointer : (o : Option ℕ) → (host_at past i).pointer ≡ o → IsPointed sent j p
          by_pointer (Some p') g =
              let here : (host_at sent i).pointer ≡ Some p' = own_host ∙ ap (λ o. (ring o s (host_at past i)).pointer) g ∙ g in
              let one : Some p' ≡ Some p = sym here ∙ subst (λ n. (host_at sent n).pointer ≡ Some p) same e in
              old (subst (λ n. (host_at past n).pointer ≡ Some p) (sym same) (g ∙ one))
          by_pointer None g =
              let here : (host_at sent i).pointer ≡ Some s = own_host ∙ ap (λ o. (ring o s (host_at past i)).pointer) g in
              let one : Some s ≡ Some p = sym here ∙ subst (λ n. (host_at sent n).pointer ≡ Some p) same e in
              let is : s ≡ p = cc one in
              subst (λ n. IsPointed sent n p) (sym same) (record { low = (let c = count_is in omega (arith, c, next, is)); list = r.list; present = r.present; some = r.some })

  ring_of : IsRingOf i r.asks.access ((host_at sent i).pointer ≡ Some s)
  ring_of = by r.asks.kind
    where
      by : RingKind (host_at past i).pointer i r.asks.access → IsRingOf i r.asks.access ((host_at sent i).pointer ≡ Some s)
      by (first payload none is at) = points payload is at (own_host ∙ ap (λ o. (ring o s (host_at past i)).pointer) none)
      by (more p some is) = bells is

  pub ring_serves : IsCalm start_disks sent → s ≡ (terms past).count + 1 → IsSentFor (terms past).owes (terms past) (packet start_disks past s generation from to bytes h) → Serves start_disks sent
  ring_serves calm next due =
      let a = asks_part bytes r.asks.access r.asks.is in
      sent_serves start_disks past s generation from to bytes h calm next (pays (terms past).owes refl due) keeps
      (λ j e. (let same : i ≡ j = (let f = r.sender in omega (arith, e, f)) in subst (λ n. IsSentBy sent n s (packet start_disks past s generation from to bytes h)) same (rung r.small r.receiver r.asks.access r.asks.is ring_of)))
      (λ e. absurd (let f = r.sender in omega (arith, e, f))) (hosts next)
    where
      pays : (o : Option Owed) → (terms past).owes ≡ o → IsSentFor o (terms past) (packet start_disks past s generation from to bytes h) → PaysWell o (terms past).sent (packet start_disks past s generation from to bytes h)
      pays None e due = tt
      pays (Some owed) e due = absurd (let b = asks_part bytes r.asks.access r.asks.is in let no : request b.label b.kind ≡ response due.responds.label due.responds.kind = sym b.part ∙ due.responds.replies in cc no)
