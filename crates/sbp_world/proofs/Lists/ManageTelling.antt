-- A status block of a management ORB that an initiator gets in an open FIFO is one that the target tells, where each one that is written to a FIFO of that initiator is the packet of the operation
-- of the target, which ends with it.
use Rattle.sbp_world.proofs.Words.Std.{arith, ◌≡◌, ◌∙◌, refl, sym, ap, subst, ℕ, zero, suc, ◌-◌, ◌≤◌, ◌<◌, ◌==◌, ◌&&◌, ◌||◌, nat_eq, nat_le, nat_lt, Bool, true, false, cond, List, [], ◌∷◌, ◌++◌, map, length, Option, Some, None, Result, Ok, Err, nat_tests, upd}
use Rattle.sbp_world.proofs.Words.Wire.{PacketFault, Header, Packet, write_block, reading, Access, Moment, asked, said, Sending, terms, Event, Note}
use Rattle.sbp_world.proofs.Words.Target.{Operation, Disk, Told}
use Rattle.sbp_world.proofs.Words.Initiator.{start_of, fifo_at, is_login_fifo, is_open_login, is_managed_orb, names_place, place_fifo, OrbFault, StatusBlock, StatusKind, offset_at, in_row, kind_of, read_block, src_of, whole_length, status_in}
use Rattle.sbp_world.proofs.Words.Laws.{access_in, spelled_by, target_at, EachMoment}
use Rattle.sbp_world.proofs.Words.World.{history_of, Run, after, beginning, MayAll, after_all, begun, IsRun, more_deliveries, is_open, FifoWritesLaw, IsPlaceWrite, PlaceSo, is_its_packet, managed_for, operation_if, IsCalm, OpenBefore, OpenBetween, IsFifo}
use Rattle.bus_memory.specs.declared.window.Window.TheVariants as windows
use Rattle.bus_transactions.proofs.Facts.{Facts}
use Rattle.initiator_base.specs.declared.fifos.Fifo.TheVariants as fifos
use Rattle.mgmt_agent.specs.declared.operation.Phase.TheVariants as phases
use Rattle.sbp_journal.specs.declared.note.Note.TheVariants as notes
use Rattle.sbp_world.specs.Lists.Statuses.{of_login, of_place}
use Rattle.sbp_world.proofs.Lists.ManageKnown.{OfWire, RestGot, before_it}
use Rattle.sbp_world.proofs.Lists.ManageLaws.{known_after, known_between}
use Rattle.sbp_world.proofs.Lists.ManageOpen.{GotAt, GotLaw}
use Rattle.sbp_world.proofs.Lists.ManageSends.{opened_terms, sent_is, sent_other, sent_terms}
use Rattle.sbp_world.proofs.Lists.ManageTerms.{got_rests, ignored_rests, none_is, timed_rests}
use Rattle.sbp_world.proofs.Common.{untrue}

-- ---- what a status block of a management ORB reads

wrong_block : {A : Type 0} (fault : OrbFault) (block : StatusBlock) → Err fault ≡ Ok block → A
wrong_block fault block e = absurd (let no : Err fault ≡ Ok block = e in cc)

row_orb : (bytes : List ℕ) (kind : Option StatusKind) (block : StatusBlock) → in_row bytes kind ≡ Ok block → offset_at bytes 0 ≡ block.orb
row_orb bytes None block e = wrong_block _ block e
row_orb bytes (Some kind) block e =
    let new : StatusBlock = record { src = src_of bytes; kind = kind; orb = offset_at bytes 0 } in
    ap (λ (x : StatusBlock). x.orb) (let same : new ≡ block = cc in same)

-- the block is whole
by_length : (short less more : Bool) (a b c : OrbFault) (r : Result StatusBlock OrbFault) (block : StatusBlock) → cond short (Err a) (cond less (Err b) (cond more (Err c) r)) ≡ Ok block → (short ≡ false) × (r ≡ Ok block)
by_length true less more a b c r block e = wrong_block a block e
by_length false true more a b c r block e = wrong_block b block e
by_length false false true a b c r block e = wrong_block c block e
by_length false false false a b c r block e = (refl, e)

named_place : (payload : List ℕ) (place : ℕ) → place < 2 → nat_lt (length payload) 8 ≡ false → offset_at payload 0 ≡ start_of (windows.Management place) → names_place payload ≡ true
named_place payload place small long e =
    let at : (is_managed_orb (offset_at payload 0)) ≡ true = ap is_managed_orb e ∙ is_one place small in
    let whole : nat_le 8 (length payload) ≡ true = grind (arith, nat_tests) in
    ap (λ b. b && is_managed_orb (offset_at payload 0)) whole ∙ at
  where
    is_one : (place : ℕ) → place < 2 → is_managed_orb (start_of (windows.Management place)) ≡ true
    is_one zero small = refl
    is_one (suc zero) small = refl
    is_one (suc (suc more)) small = absurd (omega (arith, small))

-- ---- an open FIFO is one

fifo_by : (offset : ℕ) (placed open_login closed : Bool) → (placed ≡ true → IsFifo offset) → (open_login ≡ true → IsFifo offset) → is_open (cond placed (Some fifos.Place) (cond open_login (Some fifos.Login) (cond closed (Some fifos.Closed) None))) ≡ true → IsFifo offset
fifo_by offset true open_login closed h k e = h refl
fifo_by offset false true closed h k e = k refl
fifo_by offset false false true h k e = untrue e
fifo_by offset false false false h k e = untrue e

open_login_at : (logins : ℕ) (is_out : Bool) (offset : ℕ) → is_open_login logins is_out offset ≡ true → IsFifo offset
open_login_at logins is_out offset e = of_login (logins - 1) (grind (arith, nat_tests))

open_fifo : (logins : ℕ) (is_out : Bool) (offset : ℕ) → is_open (fifo_at logins is_out offset) ≡ true → IsFifo offset
unfolding fifo_at
open_fifo logins is_out offset e =
    fifo_by offset (offset == place_fifo 0 || offset == place_fifo 1) (is_open_login logins is_out offset) (is_login_fifo offset) (λ f. of_place f) (open_login_at logins is_out offset) e

-- the write that is got
abbrev block_write : (offset : ℕ) (payload : List ℕ) → Access
block_write offset payload = record { is_lock = false; is_write = true; is_block = true; offset = offset; count = length payload; payload = payload }

place_write : (bytes : List ℕ) (header : Header) (offset : ℕ) (payload : List ℕ) → reading bytes ≡ Ok (write_block header offset payload) → (logins : ℕ) (is_out : Bool) → is_open (fifo_at logins is_out offset) ≡ true → (block : StatusBlock) → status_in payload ≡ Ok block → (place : ℕ) → place < 2 → block.orb ≡ start_of (windows.Management place) → IsPlaceWrite bytes place
place_write bytes header offset payload read logins is_out opened block reads place small names =
    let k = by_length (nat_lt (length payload) 8) (nat_lt (length payload) (whole_length payload)) (nat_lt (whole_length payload) (length payload)) _ _ _ (in_row payload (kind_of (names_place payload) payload)) block reads in
    let named : names_place payload ≡ true = named_place payload place small k.0 (row_orb payload (kind_of (names_place payload) payload) block k.1 ∙ names) in
    record {
      access = block_write offset payload;
      is = ap (λ (r : Result Packet PacketFault). access_in (spelled_by r)) read;
      writes = refl;
      goes = open_fifo logins is_out offset opened;
      block = block;
      reads = ap (λ b. read_block b payload) (sym named) ∙ reads;
      small = small;
      names = names;
    }

-- ---- whose packet it is, by the history

record IsFor (start : List Disk) (past : List Moment) (i serial : ℕ) (q : Sending) (place : ℕ) : Type 0 where
  op : Operation
  is_for : managed_for start past serial ≡ Some op
  status : op.phase ≡ phases.Status
  source : op.source ≡ (terms past).ids q.generation (suc i)
  orb : op.orb ≡ start_of (windows.Management place)

module _ (start : List Disk) (i : ℕ) where
  abbrev AreFor : List Moment → Type 0
  AreFor past = (serial : ℕ) (q : Sending) → (terms past).sent serial ≡ Some q → q.from ≡ 0 → q.to ≡ suc i → (place : ℕ) → IsPlaceWrite q.bytes place → IsFor start past i serial q place

  -- a moment by which nothing is sent
  stays : (past now : List Moment) → ((serial : ℕ) → managed_for start now serial ≡ managed_for start past serial) → (terms now).sent ≡ (terms past).sent → ((serial : ℕ) (q : Sending) → (terms past).sent serial ≡ Some q → (terms now).ids q.generation (suc i) ≡ (terms past).ids q.generation (suc i)) → AreFor past → AreFor now
  stays past now for_same sent_same ids_same h serial q sent from to place w =
      let before = ap (λ (f : ℕ → Option Sending). f serial) (sym sent_same) ∙ sent in
      let f = h serial q before from to place w in
      record { op = f.op; is_for = for_same serial ∙ f.is_for; status = f.status; source = f.source ∙ sym (ids_same serial q before); orb = f.orb }

  line_stays : (past : List Moment) (line : ℕ) (event : Event) → Facts (terms past) → AreFor past → AreFor (asked line event ∷ past)
  line_stays past line event f h =
      let o = opened_terms event (terms past) in
      stays past (asked line event ∷ past) (λ s. refl) o.sent
      (λ serial q e. o.ids q.generation (suc i) (let a = (f.honest serial q e).past in let b = f.aged q.from in omega (arith, a, b))) h

  -- the terms of the wire are the same, but for what a packet that comes leaves
  record Same (past : List Moment) (note : Note) : Type 0 where
    packets : (serial : ℕ) → managed_for start (said note ∷ past) serial ≡ managed_for start past serial
    sent : (terms (said note ∷ past)).sent ≡ (terms past).sent
    ids : (terms (said note ∷ past)).ids ≡ (terms past).ids

  abbrev is_other : Note → Bool
  is_other (notes.Sent serial generation from to bytes) = false
  is_other note = true

  note_same : (note : Note) (past : List Moment) → is_other note ≡ true → Same past note
  note_same (notes.Sent serial generation from to bytes) past e = untrue e
  note_same (notes.Got serial) past e = let r = got_rests serial past in record { packets = λ s. refl; sent = r.sent; ids = r.ids }
  note_same (notes.Ignored serial cause) past e = let r = ignored_rests serial cause past in record { packets = λ s. refl; sent = r.sent; ids = r.ids }
  note_same (notes.TimedOut serial) past e = let r = timed_rests serial past in record { packets = λ s. refl; sent = r.sent; ids = r.ids }
  note_same note past e = record { packets = λ s. refl; sent = refl; ids = refl }

  note_stays : (note : Note) (past : List Moment) → is_other note ≡ true → AreFor past → AreFor (said note ∷ past)
  note_stays note past e h =
      let s = note_same note past e in
      stays past (said note ∷ past) s.packets s.sent (λ serial q f. ap (λ (g : ℕ → ℕ → ℕ). g q.generation (suc i)) s.ids) h

  -- a packet is sent
  module _ (past : List Moment) (serial generation from to : ℕ) (bytes : List ℕ) (h : AreFor past) where
    abbrev p : Sending
    p = record { generation = generation; from = from; to = to; bytes = bytes; injected = (terms past).injected serial }

    abbrev now : List Moment
    now = said (notes.Sent serial generation from to bytes) ∷ past

    ids_now : (g : ℕ) → (terms now).ids g (suc i) ≡ (terms past).ids g (suc i)
    ids_now g = ap (λ (f : ℕ → ℕ → ℕ). f g (suc i)) (sent_terms serial p (terms past)).ids

    sent_now : (terms now).sent ≡ upd (terms past).sent serial (Some p)
    sent_now = (sent_terms serial p (terms past)).sent

    -- another one
    other_for : (r : ℕ) (q : Sending) → nat_eq r serial ≡ false → managed_for start now r ≡ managed_for start past r → (terms now).sent r ≡ Some q → q.from ≡ 0 → q.to ≡ suc i → (place : ℕ) → IsPlaceWrite q.bytes place → IsFor start now i r q place
    other_for r q apart same sent from_is to_is place w =
        let before = sym (sent_other serial r p (terms past).sent apart) ∙ (ap (λ (f : ℕ → Option Sending). f r) (sym sent_now) ∙ sent) in
        let f = h r q before from_is to_is place w in
        record { op = f.op; is_for = same ∙ f.is_for; status = f.status; source = f.source ∙ sym (ids_now q.generation); orb = f.orb }

    this_is : (r : ℕ) (q : Sending) → nat_eq r serial ≡ true → (terms now).sent r ≡ Some q → p ≡ q
    this_is r q same sent =
        let is : r ≡ serial = grind (arith, nat_tests) in
        sent_is serial p q (terms past).sent (ap (λ (f : ℕ → Option Sending). f serial) (sym sent_now) ∙ (ap (terms now).sent (sym is) ∙ sent))

  -- that of the operation
  operation_is : (its : Bool) (operation : Option Operation) (op : Operation) → its ≡ true → operation ≡ Some op → operation_if its operation ≡ Some op
  operation_is true operation op e f = f
  operation_is false operation op e f = untrue e

  abbrev sent_by : (past : List Moment) (serial generation to : ℕ) (bytes : List ℕ) → List Moment
  sent_by past serial generation to bytes = said (notes.Sent serial generation zero to bytes) ∷ past

  target_sends : (past : List Moment) (serial generation to : ℕ) (bytes : List ℕ) → PlaceSo start i (said (notes.Sent serial generation zero to bytes)) past → AreFor past → AreFor (said (notes.Sent serial generation zero to bytes) ∷ past)
  target_sends past serial generation to bytes so h r q sent from_is to_is place w = by (nat_eq r serial) refl
    where
      by : (b : Bool) → nat_eq r serial ≡ b → IsFor start (sent_by past serial generation to bytes) i r q place
      by true e =
          let same = this_is past serial generation zero to bytes h r q e sent in
          let o = so (ap (λ (x : Sending). x.to) same ∙ to_is) place (subst (λ (x : Sending). IsPlaceWrite x.bytes place) (sym same) w) in
          record {
            op = o.op;
            is_for = ap (λ b. cond b (operation_if (is_its_packet (target_at start past) (target_at start (sent_by past serial generation to bytes)) serial) (target_at start past).manager.operation) (managed_for start past r)) e
                ∙ operation_is (is_its_packet (target_at start past) (target_at start (sent_by past serial generation to bytes)) serial) (target_at start past).manager.operation o.op o.its o.operation;
            status = o.status;
            source = o.source ∙ sym (ids_now past serial generation zero to bytes h generation) ∙ ap (λ (x : Sending). (terms (sent_by past serial generation to bytes)).ids x.generation (suc i)) same;
            orb = o.orb;
          }
      by false e =
          other_for past serial generation zero to bytes h r q e
          (ap (λ b. cond b (operation_if (is_its_packet (target_at start past) (target_at start (sent_by past serial generation to bytes)) serial) (target_at start past).manager.operation) (managed_for start past r)) e)
          sent from_is to_is place w

  other_sends : (past : List Moment) (serial generation j to : ℕ) (bytes : List ℕ) → AreFor past → AreFor (said (notes.Sent serial generation (suc j) to bytes) ∷ past)
  other_sends past serial generation j to bytes h r q sent from_is to_is place w = by (nat_eq r serial) refl
    where
      by : (b : Bool) → nat_eq r serial ≡ b → IsFor start (said (notes.Sent serial generation (suc j) to bytes) ∷ past) i r q place
      by true e =
          let same = this_is past serial generation (suc j) to bytes h r q e sent in
          let none : suc j ≡ 0 = ap (λ (x : Sending). x.from) same ∙ from_is in
          absurd (omega (arith, none))
      by false e = other_for past serial generation (suc j) to bytes h r q e refl sent from_is to_is place w

  -- ---- each moment

  are_for : (past : List Moment) → OfWire past → EachMoment (PlaceSo start i) past → AreFor past
  are_for [] w so = λ serial q sent from to place written. none_is q sent
  are_for (asked line event ∷ past) w so = line_stays past line event w.moments.0 (are_for past (before_it (asked line event) past w) so.1)
  are_for (said (notes.Sent serial generation zero to bytes) ∷ past) w so = target_sends past serial generation to bytes so.0 (are_for past (before_it (said (notes.Sent serial generation zero to bytes)) past w) so.1)
  are_for (said (notes.Sent serial generation (suc j) to bytes) ∷ past) w so = other_sends past serial generation j to bytes (are_for past (before_it (said (notes.Sent serial generation (suc j) to bytes)) past w) so.1)
  are_for (said note ∷ past) w so = note_stays note past refl (are_for past (before_it (said note) past w) so.1)

  -- at each place
  pub rest_got : (past : List Moment) → OfWire past → EachMoment (PlaceSo start i) past → (serial : ℕ) → RestGot start past i serial
  rest_got past w so serial packet sent to from current header offset payload read logins is_out opened block reads status kind place small names unjudged =
      let f = are_for past w so serial packet sent from to place (place_write packet.bytes header offset payload read logins is_out opened block reads place small names) in
      record {
        packet = packet;
        sent = sent;
        current = current;
        op = f.op;
        is_for = f.is_for;
        status = f.status;
        source = f.source;
        small = small;
        orb = f.orb;
        unjudged = unjudged;
      }

  got_moments : (past : List Moment) → OfWire past → EachMoment (PlaceSo start i) past → EachMoment (GotAt start i) past
  got_moments [] w so = tt
  got_moments (said (notes.Got serial) ∷ past) w so = let b = before_it (said (notes.Got serial)) past w in (rest_got past b so.1 serial, got_moments past b so.1)
  got_moments (asked line event ∷ past) w so = (tt, got_moments past (before_it (asked line event) past w) so.1)
  got_moments (said note ∷ past) w so = (tt, got_moments past (before_it (said note) past w) so.1)

-- ---- of every run

-- at each place
pub record PlaceGotLaw : Type 0 where
  pub after_lines : (line : ℕ) (run : Run) → IsRun run → 0 < run.units → run.units ≤ 4 → length run.start.disks ≡ run.units → OpenBefore line run run.entries → (i : ℕ) → i < run.initiators → IsCalm (history_of line run) i → (serial : ℕ) → RestGot run.start.disks (history_of line run) i serial
  pub between : (line : ℕ) (run : Run) → IsRun run → 0 < run.units → run.units ≤ 4 → length run.start.disks ≡ run.units → (next : ℕ) (most : Option ℕ) (told : List (Option Told)) → MayAll told (begun (after (beginning run) run.entries)) → OpenBetween line run next (more_deliveries most) told → (i : ℕ) → i < run.initiators → (let w = (after_all told (begun (after (beginning run) run.entries))).world in let now = map said w.fresh ++ asked next (more_deliveries most) ∷ history_of line run in IsCalm now i → (serial : ℕ) → RestGot run.start.disks now i serial)

pub place_got_law : FifoWritesLaw → PlaceGotLaw
place_got_law law = record {
  after_lines = λ line run r u v d o i b calm serial. rest_got run.start.disks i (history_of line run) (known_after line run r).wire (law.after_lines line run r u v d o i b calm) serial;
  between = λ line run r u v d next most told m o i b calm serial.
      let now = map said (after_all told (begun (after (beginning run) run.entries))).world.fresh ++ asked next (more_deliveries most) ∷ history_of line run in
      rest_got run.start.disks i now (known_between line run r next most told m).wire (law.between line run r u v d next most told m o i b calm) serial;
}

pub got_law : FifoWritesLaw → GotLaw
got_law law = record {
  after_lines = λ line run r u v d o i b calm. got_moments run.start.disks i (history_of line run) (known_after line run r).wire (law.after_lines line run r u v d o i b calm);
  between = λ line run r u v d next most told m o i b calm.
      let now = map said (after_all told (begun (after (beginning run) run.entries))).world.fresh ++ asked next (more_deliveries most) ∷ history_of line run in
      got_moments run.start.disks i now (known_between line run r next most told m).wire (law.between line run r u v d next most told m o i b calm);
}
