-- What a request tells that is delivered.
use Rattle.std.proofs.Common.{◌≡◌, refl, sym, ap, subst, ◌∙◌, ℕ, zero, suc, ◌++◌, append-nil, nat_eq, ◌&&◌, ◌||◌, is_some, Bool, true, false, cond, List, [], ◌∷◌, length, replicate, slice_index_or, slice_set, Option, Some, None, Result, Ok, Err}
use Rattle.byteorder.specs.Endian.{big_bytes}
use Rattle.async_packet.specs.declared.packet.Header.{Header}
use Rattle.async_packet.specs.Packet.{Packet, write_quadlet, write_block, write_response, read_quadlet, read_block, read_quadlet_response, read_block_response, lock, lock_response}
use Rattle.label_table.specs.Layer.{Layer, answering_step}
use Rattle.bus_memory.specs.declared.access.Access.TheVariants.{Write}
use Rattle.bus_memory.specs.declared.access.Rcode.TheVariants.{TypeError}
use Rattle.bus_memory.specs.declared.access.Spot.{Spot}
use Rattle.bus_memory.specs.declared.slot.PlaceMemory.{PlaceMemory}
use Rattle.bus_memory.specs.declared.window.Window.{Window}
use Rattle.bus_memory.specs.declared.window.Window.TheVariants as windows
use Rattle.bus_memory.specs.Memory.{Memory, empty_place, patch, place_at, with_bytes}
use Rattle.bus_memory.specs.Access.{judged, judged_at, read_step, spot_of, takes_writes, write_at, write_step}
use Rattle.bus_memory.specs.Windows.{is_fifo, slot_of}
use Rattle.media_bay.specs.Unsolicited.{is_block}
use Rattle.orb_layout.specs.declared.fault.OrbFault.{OrbFault}
use Rattle.orb_layout.specs.declared.status.StatusBlock.{StatusBlock}
use Rattle.orb_layout.specs.declared.status.StatusKind.{StatusKind}
use Rattle.orb_layout.specs.declared.status.StatusKind.TheVariants as kinds
use Rattle.orb_list.specs.declared.list.PresentList.{PresentList}
use Rattle.orb_list.specs.Tickets.{TicketParts}
use Rattle.orb_list.specs.Table.{SlotTable, closed, passed_for, slot_in, status_at, status_for, status_step as slot_step, waiting}
use Rattle.sbp_journal.specs.declared.cause.Cause.TheVariants as causes
use Rattle.sbp_journal.specs.declared.note.Note.{Note}
use Rattle.sbp_journal.specs.declared.note.Note.TheVariants as notes
use Rattle.sbp_journal.specs.declared.outbox.Outgoing.{Outgoing}
use Rattle.sbp_journal.specs.Outgoings.{OutboxState}
use Rattle.sbp_journal.specs.Addresses.{Access}
use Rattle.sbp_journal.specs.Rows.{RequestFacts}
use Rattle.initiator_base.specs.declared.fifos.Fifo.{Fifo}
use Rattle.initiator_base.specs.declared.fifos.Fifo.TheVariants as fifos
use Rattle.sbp_initiator.specs.declared.purpose.Purpose.{Purpose}
use Rattle.sbp_initiator.specs.declared.purpose.Pointing.{Pointing}
use Rattle.sbp_initiator.specs.declared.purpose.Running.{Running}
use Rattle.sbp_initiator.specs.declared.state.Counts.{Counts}
use Rattle.sbp_initiator.specs.declared.state.InitiatorState.{InitiatorState}
use Rattle.sbp_initiator.specs.Refusals.{ends_list}
use Rattle.orb_list.specs.Lists.{ListState, stepped, take_lists, write_lists}
use Rattle.sbp_initiator.specs.Histories.Moves.{response}
use Rattle.sbp_initiator.specs.States.{is_orb_of, status_in}
use Rattle.sbp_initiator.specs.Effects.{Turn, managed_step, told, with_dead}
use Rattle.initiator_base.specs.Fifos.{is_dead_kind}
use Rattle.sbp_initiator.specs.Receiving.{address_error, addressed, answer_of, block_at, block_by, block_step, called, fifo_of, got_step, ignored_step, is_foreign, managed_for, present_for, quadlet_at, read_as as served_as, request_step, respond_step, serve_step, taken_as, taken_by as takes_by, type_error, written_as}
use Rattle.sbp_initiator.specs.Histories.Drops.{IfGone, drop_if}
use Rattle.sbp_initiator.specs.Histories.Ends.{own, OpEnd, notes_of, is_managed, OpMove}
use Rattle.sbp_initiator.specs.Histories.Judging.{facts_at}
use Rattle.sbp_initiator.specs.Histories.Taking.{Brought, nothing, unsolicited, read_as, brought, waiting_at, taken_of, taken_by, block_note, good_drops, kind_drops, block_drops, block_notes}
use Rattle.sbp_initiator.proofs.Histories.Effects.{Begun, HasMarks, Holds, KeepsMarks, Past, managed_does}

-- ---- small facts

found_at : (t : Option TicketParts) (slot : ℕ) (block : StatusBlock) (lists : ListState) → (stepped (status_at t slot lists.slots lists.memory block) lists).0 ≡ t
found_at None slot block lists = refl
found_at (Some t) slot block lists = refl

found_for : (slot : Option ℕ) (block : StatusBlock) (lists : ListState) → (stepped (status_for slot lists.slots lists.memory block) lists).0 ≡ waiting_at lists.slots.slots slot
found_for None block lists = refl
found_for (Some slot) block lists = found_at (waiting (slot_in lists.slots.slots slot)) slot block lists

-- the status that is taken is that of the ORB that waits in the slot
pub take_found : (lists : ListState) (block : StatusBlock) → (take_lists lists block).0 ≡ waiting_at lists.slots.slots (slot_of block.orb)
unfolding take_lists slot_step
take_found lists block = found_for (slot_of block.orb) block lists

-- a status and a write keep what holds while there is no list
passed_marks : (present : Option PresentList) (number : ℕ) (pointing : Pointing) → HasMarks present pointing → HasMarks (passed_for present number) pointing
passed_marks None number pointing h = h
passed_marks (Some list) number pointing h = tt

status_marks : (t : Option TicketParts) (slot : ℕ) (block : StatusBlock) (pointing : Pointing) (lists : ListState) → HasMarks lists.slots.present pointing → HasMarks (stepped (status_at t slot lists.slots lists.memory block) lists).1.slots.present pointing
status_marks None slot block pointing lists h = h
status_marks (Some t) slot block pointing lists h = passed_marks lists.slots.present t.number pointing h

for_marks : (slot : Option ℕ) (block : StatusBlock) (pointing : Pointing) (lists : ListState) → HasMarks lists.slots.present pointing → HasMarks (stepped (status_for slot lists.slots lists.memory block) lists).1.slots.present pointing
for_marks None block pointing lists h = h
for_marks (Some slot) block pointing lists h = status_marks (waiting (slot_in lists.slots.slots slot)) slot block pointing lists h

take_marks : (pointing : Pointing) (lists : ListState) (block : StatusBlock) → HasMarks lists.slots.present pointing → HasMarks (take_lists lists block).1.slots.present pointing
unfolding take_lists slot_step
take_marks pointing lists block h = for_marks (slot_of block.orb) block pointing lists h

-- and what is known of the lists that were begun
passed_begun : (pointed : ℕ → Bool) (present : Option PresentList) (number lists : ℕ) (pointing : Pointing) → Begun pointed present lists pointing → Begun pointed (passed_for present number) lists pointing
passed_begun pointed None number lists pointing h = h
passed_begun pointed (Some list) number lists pointing h = record { list = h.list; below = h.below; written = λ n e f. h.written n e f }

status_begun : (t : Option TicketParts) (slot : ℕ) (block : StatusBlock) (pointed : ℕ → Bool) (pointing : Pointing) (lists : ListState) → Begun pointed lists.slots.present lists.slots.lists pointing → (let new = (stepped (status_at t slot lists.slots lists.memory block) lists).1.slots in Begun pointed new.present new.lists pointing)
status_begun None slot block pointed pointing lists h = h
status_begun (Some t) slot block pointed pointing lists h = passed_begun pointed lists.slots.present t.number lists.slots.lists pointing h

for_begun : (slot : Option ℕ) (block : StatusBlock) (pointed : ℕ → Bool) (pointing : Pointing) (lists : ListState) → Begun pointed lists.slots.present lists.slots.lists pointing → (let new = (stepped (status_for slot lists.slots lists.memory block) lists).1.slots in Begun pointed new.present new.lists pointing)
for_begun None block pointed pointing lists h = h
for_begun (Some slot) block pointed pointing lists h = status_begun (waiting (slot_in lists.slots.slots slot)) slot block pointed pointing lists h

take_begun : (pointed : ℕ → Bool) (pointing : Pointing) (lists : ListState) (block : StatusBlock) → Begun pointed lists.slots.present lists.slots.lists pointing → (let new = (take_lists lists block).1.slots in Begun pointed new.present new.lists pointing)
unfolding take_lists slot_step
take_begun pointed pointing lists block h = for_begun (slot_of block.orb) block pointed pointing lists h

taken_memory : (t : Option TicketParts) (slot : ℕ) (block : StatusBlock) (s : SlotTable) (m : Memory) → (status_at t slot s m block).1.1.places ≡ m.places
unfolding closed
taken_memory None slot block s m = refl
taken_memory (Some t) slot block s m = refl

for_memory : (slot : Option ℕ) (block : StatusBlock) (s : SlotTable) (m : Memory) → (status_for slot s m block).1.1.places ≡ m.places
for_memory None block s m = refl
for_memory (Some slot) block s m = taken_memory (waiting (slot_in s.slots slot)) slot block s m

take_memory : (lists : ListState) (block : StatusBlock) → (take_lists lists block).1.memory.places ≡ lists.memory.places
unfolding take_lists slot_step
take_memory lists block = for_memory (slot_of block.orb) block lists.slots lists.memory

take_keeps : (pointing : Pointing) (lists : ListState) (block : StatusBlock) (x : Past) → Holds x lists pointing → Holds x (take_lists lists block).1 pointing
take_keeps pointing lists block x h = record {
  marks = take_marks pointing lists block h.marks;
  orbs = λ m. ap (λ (l : List PlaceMemory). (slice_index_or l m empty_place).orb) (take_memory lists block) ∙ h.orbs m;
  places = ap length (take_memory lists block) ∙ h.places;
  pointed = take_begun x.pointed pointing lists block h.pointed;
}

-- a response that is written leaves the ORB of each place
response_orb : (l : List PlaceMemory) (p k : ℕ) (r : List ℕ) → (slice_index_or (slice_set l p (record (slice_index_or l p empty_place) { response = r })) k empty_place).orb ≡ (slice_index_or l k empty_place).orb
response_orb [] p k r = refl
response_orb (y ∷ l) zero zero r = refl
response_orb (y ∷ l) zero (suc k) r = refl
response_orb (y ∷ l) (suc p) zero r = refl
response_orb (y ∷ l) (suc p) (suc k) r = response_orb l p k r

set_length : (l : List PlaceMemory) (p : ℕ) (y : PlaceMemory) → length (slice_set l p y) ≡ length l
set_length [] p y = refl
set_length (z ∷ l) zero y = refl
set_length (z ∷ l) (suc p) y = ap suc (set_length l p y)

-- a memory whose places have the same ORBs
record SameOrbs (m new : Memory) : Type 0 where
  orbs : (k : ℕ) → (place_at new k).orb ≡ (place_at m k).orb
  places : length new.places ≡ length m.places

not_taken : false ≡ true → ⊥
not_taken e = cc

into_orbs : (window : Window) (m : Memory) (at : ℕ) (bytes : List ℕ) → takes_writes m window ≡ true → SameOrbs m (with_bytes m window at bytes)
into_orbs windows.Rom m at bytes e = record { orbs = λ k. refl; places = refl }
into_orbs (windows.Orb slot) m at bytes e = record { orbs = λ k. refl; places = refl }
into_orbs (windows.Table slot) m at bytes e = record { orbs = λ k. refl; places = refl }
into_orbs (windows.Buffer slot) m at bytes e = record { orbs = λ k. refl; places = refl }
into_orbs (windows.Management place) m at bytes e = absurd (not_taken e)
into_orbs (windows.Response place) m at bytes e = record {
  orbs = λ k. response_orb m.places place k (patch (place_at m place).response at bytes);
  places = set_length m.places place _;
}

same_orbs : (m : Memory) → SameOrbs m m
same_orbs m = record { orbs = λ k. refl; places = refl }

spot_orbs : (c : Bool) (spot : Spot) (m : Memory) (bytes : List ℕ) → takes_writes m spot.window ≡ c → SameOrbs m (write_at m bytes (cond c (Ok spot) (Err TypeError))).1
spot_orbs true spot m bytes e = into_orbs spot.window m spot.at bytes e
spot_orbs false spot m bytes e = same_orbs m

found_orbs : (spot : Option Spot) (m : Memory) (bytes : List ℕ) → SameOrbs m (write_at m bytes (judged_at m Write spot)).1
found_orbs None m bytes = same_orbs m
found_orbs (Some spot) m bytes = spot_orbs (takes_writes m spot.window) spot m bytes refl

row_orbs : (c : Bool) (spot : Option Spot) (m : Memory) (bytes : List ℕ) → SameOrbs m (write_at m bytes (cond c (Err TypeError) (judged_at m Write spot))).1
row_orbs true spot m bytes = same_orbs m
row_orbs false spot m bytes = found_orbs spot m bytes

write_orbs : (m : Memory) (offset : ℕ) (bytes : List ℕ) → SameOrbs m (write_step m offset bytes).1
unfolding judged
write_orbs m offset bytes = row_orbs (nat_eq (length bytes) 0 || is_fifo offset) (spot_of m offset (length bytes)) m bytes

write_keeps : (pointing : Pointing) (lists : ListState) (offset : ℕ) (bytes : List ℕ) (x : Past) → Holds x lists pointing → Holds x (write_lists lists offset bytes).1 pointing
unfolding write_lists
write_keeps pointing lists offset bytes x h =
    let k = write_orbs lists.memory offset bytes in
    record { marks = h.marks; orbs = λ m. k.orbs m ∙ h.orbs m; places = k.places ∙ h.places; pointed = h.pointed }

-- a write of a block, and of a quadlet
abbrev pub block_write_of : ℕ → List ℕ → Access
block_write_of offset payload = record { is_lock = false; is_write = true; is_block = true; offset = offset; count = length payload; payload = payload }

abbrev pub quadlet_write_of : ℕ → Access
quadlet_write_of offset = record { is_lock = false; is_write = true; is_block = false; offset = offset; count = 4; payload = [] }

-- the rows behind the first one
abbrev pub behind_row : RequestFacts → Result StatusBlock OrbFault → Brought
behind_row facts read =
    cond (facts.of_other_login || facts.to_closed_fifo) nothing (cond (facts.is_status && facts.is_unsolicited) unsolicited (cond facts.is_status (read_as read) nothing))

-- ---- what a request tells

-- the operation under way has a management ORB where one is named
pub record HasOrb (operation : Option Running) : Type 0 where
  pub managed : (running : Running) → operation ≡ Some running → is_some running.managed ≡ true → is_managed running.operation ≡ true

-- What a delivery tells before its answer, with what a block tells and the list that is dropped, and what it leaves.
pub record Handles (o : OutboxState) (s : InitiatorState) (first : Option Note) (drop : Option ℕ) (t : Turn) : Type 0 where
  pub op : Option OpEnd
  pub sides : t.0.sides ≡ o.sides ++ own (block_notes first ++ notes_of s.number drop op None false)
  pub move : OpMove s.operation op t.1.operation
  pub layer : t.1.layer ≡ s.layer
  pub packets : t.0.packets ≡ o.packets
  pub running : t.1.counts.running ≡ s.counts.running
  pub acts : t.1.counts.acts ≡ s.counts.acts
  pub number : t.1.number ≡ s.number
  pub marks : KeepsMarks s t.1
  pub gone : IfGone drop t.1.lists.slots.present

-- And with its answer.
pub record Answers (p : Packet) (bytes : List ℕ) (o : OutboxState) (s : InitiatorState) (first : Option Note) (drop : Option ℕ) (t : Turn) : Type 0 where
  pub op : Option OpEnd
  pub sides : t.0.sides ≡ o.sides ++ own (block_notes first ++ notes_of s.number drop op None false)
  pub move : OpMove s.operation op t.1.operation
  pub rcode : ℕ
  pub given : List ℕ
  pub layer : t.1.layer ≡ (answering_step s.layer p bytes rcode given).1
  pub packets : t.0.packets ≡ o.packets ++ response p (answering_step s.layer p bytes rcode given).0 ∷ []
  pub running : t.1.counts.running ≡ s.counts.running
  pub acts : t.1.counts.acts ≡ s.counts.acts
  pub number : t.1.number ≡ s.number
  pub marks : KeepsMarks s t.1
  pub gone : IfGone drop t.1.lists.slots.present

module _ (p : Packet) (bytes : List ℕ) (o : OutboxState) (s : InitiatorState) where
  answered : (rcode : ℕ) (given : List ℕ) (first : Option Note) (drop : Option ℕ) (t : Turn) → Handles o s first drop t → Answers p bytes o s first drop (respond_step p bytes rcode given t)
  answered rcode given first drop t h = record {
    op = h.op;
    sides = h.sides;
    move = h.move;
    rcode = rcode;
    given = given;
    layer = ap (λ (l : Layer Purpose). (answering_step l p bytes rcode given).1) h.layer;
    packets = ap (λ (l : Layer Purpose). t.0.packets ++ response p (answering_step l p bytes rcode given).0 ∷ []) h.layer
        ∙ ap (λ (ps : List Outgoing). ps ++ response p (answering_step s.layer p bytes rcode given).0 ∷ []) h.packets;
    running = h.running;
    acts = h.acts;
    number = h.number;
    marks = h.marks;
    gone = h.gone;
  }

module _ (o : OutboxState) (s : InitiatorState) where
  -- nothing is told
  quiet : (t : InitiatorState) → t.operation ≡ s.operation → t.layer ≡ s.layer → t.counts.running ≡ s.counts.running → t.counts.acts ≡ s.counts.acts → t.number ≡ s.number → KeepsMarks s t → Handles o s None None (o, t)
  quiet t op layer running acts number marks = record {
    op = None;
    sides = sym (append-nil o.sides);
    move = op;
    layer = layer;
    packets = refl;
    running = running;
    acts = acts;
    number = number;
    marks = marks;
    gone = tt;
  }

  -- a block alone is told
  tells : (note : Note) (t : InitiatorState) → t.operation ≡ s.operation → t.layer ≡ s.layer → t.counts.running ≡ s.counts.running → t.counts.acts ≡ s.counts.acts → t.number ≡ s.number → KeepsMarks s t → Handles o s (Some note) None (told o note, t)
  tells note t op layer running acts number marks = record {
    op = None;
    sides = refl;
    move = op;
    layer = layer;
    packets = refl;
    running = running;
    acts = acts;
    number = number;
    marks = marks;
    gone = tt;
  }

pub ignored_again : (p : Packet) (bytes : List ℕ) (o : OutboxState) (s : InitiatorState) (rcode : ℕ) → Answers p bytes o s None None (respond_step p bytes rcode [] (o, s))
ignored_again p bytes o s rcode = answered p bytes o s rcode [] None None (o, s) (quiet o s s refl refl refl refl refl (λ x h. h))

module _ (p : Packet) (bytes : List ℕ) (o : OutboxState) (s : InitiatorState) (has : HasOrb s.operation) where
  ignored_answers : (rcode : ℕ) → Answers p bytes o s None None (respond_step p bytes rcode [] (o, s))
  ignored_answers rcode = answered p bytes o s rcode [] None None (o, s) (quiet o s s refl refl refl refl refl (λ x h. h))

  -- ---- a status block

  managed_answers : (running : Running) (code : ℕ) → s.operation ≡ Some running → is_managed running.operation ≡ true → Answers p bytes o s None (drop_if (nat_eq code 0 && ends_list (Some running.operation)) s.lists.slots.present) (respond_step p bytes 0 [] (managed_step running code o (called s)))
  managed_answers running code e m =
      let d = managed_does running code o (called s) e m in
      let drop = drop_if (nat_eq code 0 && ends_list (Some running.operation)) s.lists.slots.present in
      answered p bytes o s 0 [] None drop (managed_step running code o (called s))
      (record {
        op = d.op;
        sides = d.sides;
        move = d.move;
        layer = d.wire.0;
        packets = d.wire.1;
        running = ap (λ (c : Counts). c.running) d.counts;
        acts = ap (λ (c : Counts). c.acts) d.counts;
        number = d.number;
        marks = d.marks;
        gone = d.gone;
      })

  present_answers : (c : Bool) (running : Running) (code : ℕ) → s.operation ≡ Some running → (c ≡ true → is_managed running.operation ≡ true) → Answers p bytes o s None (drop_if (good_drops (cond c (Some running) None) code) s.lists.slots.present) (managed_for (cond c (Some running) None) code p bytes o s).1
  present_answers true running code e m = managed_answers running code e (m refl)
  present_answers false running code e m = ignored_answers 0

  named_orb : (managed : Option ℕ) (orb : ℕ) → is_orb_of managed orb ≡ true → is_some managed ≡ true
  named_orb None orb e = cc
  named_orb (Some number) orb e = refl

  operation_answers : (operation : Option Running) (code orb : ℕ) → s.operation ≡ operation → Answers p bytes o s None (drop_if (good_drops (present_for orb operation) code) s.lists.slots.present) (managed_for (present_for orb operation) code p bytes o s).1
  operation_answers None code orb e = ignored_answers 0
  operation_answers (Some running) code orb e =
      present_answers (is_orb_of running.managed orb) running code e (λ c. has.managed running e (named_orb running.managed orb c))

  dead_answers : (dead : Bool) (t : TicketParts) (lists : ListState) (kind : StatusKind) → KeepsMarks s (record s { lists = lists }) → Handles o s (Some (notes.Taken s.number t.list t.number kind (answer_of kind lists t.slot))) None (told o (notes.Taken s.number t.list t.number kind (answer_of kind lists t.slot)), cond dead (with_dead (record (called s) { lists = lists })) (record (called s) { lists = lists }))
  dead_answers true t lists kind k = tells o s (notes.Taken s.number t.list t.number kind (answer_of kind lists t.slot)) (with_dead (record (called s) { lists = lists })) refl refl refl refl refl k
  dead_answers false t lists kind k = tells o s (notes.Taken s.number t.list t.number kind (answer_of kind lists t.slot)) (record (called s) { lists = lists }) refl refl refl refl refl k

  takes_answers : (t : Option TicketParts) (lists : ListState) (kind : StatusKind) → KeepsMarks s (record s { lists = lists }) → Answers p bytes o s (taken_of t kind lists s.number) None (taken_as (t, lists) kind p bytes o s).1
  takes_answers None lists kind k =
      answered p bytes o s 0 [] None None (o, record s { lists = lists }) (quiet o s (record s { lists = lists }) refl refl refl refl refl k)
  takes_answers (Some t) lists kind k =
      answered p bytes o s 0 [] _ None (takes_by t lists kind o (called s)) (dead_answers (is_dead_kind kind) t lists kind k)

  taken_answers : (kind : StatusKind) (block : StatusBlock) → Answers p bytes o s (taken_of (waiting_at s.lists.slots.slots (slot_of block.orb)) kind (take_lists s.lists block).1 s.number) None (taken_as (take_lists s.lists block) kind p bytes o s).1
  taken_answers kind block =
      subst (λ (t : Option TicketParts). Answers p bytes o s (taken_of t kind (take_lists s.lists block).1 s.number) None (taken_as (take_lists s.lists block) kind p bytes o s).1) (take_found s.lists block)
      (takes_answers (take_lists s.lists block).0 (take_lists s.lists block).1 kind (take_keeps s.marks.pointing s.lists block))

  kind_answers : (kind : StatusKind) (block : StatusBlock) → Answers p bytes o s (taken_by kind block s) (drop_if (kind_drops kind block.orb s) s.lists.slots.present) (block_by kind block p bytes o s).1
  kind_answers (kinds.Management code) block = operation_answers s.operation code block.orb refl
  kind_answers kinds.Good block = taken_answers kinds.Good block
  kind_answers (kinds.Check sense) block = taken_answers (kinds.Check sense) block
  kind_answers kinds.Dummy block = taken_answers kinds.Dummy block
  kind_answers kinds.Aborted block = taken_answers kinds.Aborted block
  kind_answers (kinds.Illegal meaning) block = taken_answers (kinds.Illegal meaning) block
  kind_answers kinds.Failed block = taken_answers kinds.Failed block

  -- a request by what it brings
  abbrev Does1 : Brought → Turn → Type 0
  Does1 b t = Answers p bytes o s (block_note b s) (drop_if (block_drops b s) s.lists.slots.present) t

  block_answers : (r : Result StatusBlock OrbFault) → Does1 (read_as r) (block_step r p bytes o s).1
  block_answers (Err fault) = ignored_answers 5
  block_answers (Ok block) = kind_answers block.kind block

  told_answers : (c : Bool) (r : Result StatusBlock OrbFault) → Does1 (cond c unsolicited (read_as r)) (cond c (got_step p bytes (told o (notes.Told s.number), called s)) (block_step r p bytes o s)).1
  told_answers true r =
      answered p bytes o s 0 [] (Some (notes.Told s.number)) None (told o (notes.Told s.number), called s) (tells o s (notes.Told s.number) (called s) refl refl refl refl refl (λ x h. h))
  told_answers false r = block_answers r

  source_answers : (c : Bool) (b : Brought) → Does1 b (addressed p bytes o s).1 → Does1 (cond c nothing b) (cond c (ignored_step causes.Source address_error p bytes (o, s)) (addressed p bytes o s)).1
  source_answers true b h = ignored_answers 7
  source_answers false b h = h

  either_answers : (c : Bool) → Does1 nothing (addressed p bytes o s).1 → Does1 nothing (cond c (ignored_step causes.Source address_error p bytes (o, s)) (addressed p bytes o s)).1
  either_answers true h = ignored_answers 7
  either_answers false h = h

  -- ---- the memory

  read_answers : (r : ℕ × List ℕ) → Does1 nothing (served_as r p bytes o s).1
  read_answers (rcode, out) = answered p bytes o s rcode out None None (o, called s) (quiet o s (called s) refl refl refl refl refl (λ x h. h))

  written_answers : (r : ℕ × ListState) → KeepsMarks s (record s { lists = r.1 }) → Does1 nothing (written_as r p bytes o s).1
  written_answers (rcode, lists) k =
      answered p bytes o s rcode [] None None (o, record (called s) { lists = lists }) (quiet o s (record (called s) { lists = lists }) refl refl refl refl refl k)

  refused_answers : Does1 nothing (respond_step p bytes type_error [] (o, called s))
  refused_answers = answered p bytes o s type_error [] None None (o, called s) (quiet o s (called s) refl refl refl refl refl (λ x h. h))

module _ (bytes : List ℕ) (o : OutboxState) (s : InitiatorState) (has : HasOrb s.operation) where
  serve_answers : (p : Packet) → Answers p bytes o s None None (serve_step p bytes o s).1
  serve_answers (read_quadlet header offset) = read_answers (read_quadlet header offset) bytes o s has (read_step s.lists.memory offset (replicate 4 0))
  serve_answers (read_block header offset asked) = read_answers (read_block header offset asked) bytes o s has (read_step s.lists.memory offset (replicate asked 0))
  serve_answers (write_quadlet header offset value) = written_answers (write_quadlet header offset value) bytes o s has (write_lists s.lists offset (big_bytes 4 value)) (write_keeps s.marks.pointing s.lists offset (big_bytes 4 value))
  serve_answers (write_block header offset payload) = written_answers (write_block header offset payload) bytes o s has (write_lists s.lists offset payload) (write_keeps s.marks.pointing s.lists offset payload)
  serve_answers (write_response header rcode) = refused_answers (write_response header rcode) bytes o s has
  serve_answers (read_quadlet_response header rcode value) = refused_answers (read_quadlet_response header rcode value) bytes o s has
  serve_answers (read_block_response header rcode payload) = refused_answers (read_block_response header rcode payload) bytes o s has
  serve_answers (lock header offset extended payload) = refused_answers (lock header offset extended payload) bytes o s has
  serve_answers (lock_response header rcode extended payload) = refused_answers (lock_response header rcode extended payload) bytes o s has

  abbrev behind_source : Option Fifo → Access → ℕ → Brought
  behind_source fifo access source = behind_row (facts_at fifo access source s) (status_in access.payload)

  write_answers : (fifo : Option Fifo) (header : Header) (offset : ℕ) (payload : List ℕ) → Does1 (write_block header offset payload) bytes o s has (behind_source fifo (block_write_of offset payload) header.source) (block_at fifo payload (write_block header offset payload) bytes o s).1
  write_answers None header offset payload = serve_answers (write_block header offset payload)
  write_answers (Some fifos.Closed) header offset payload = ignored_answers (write_block header offset payload) bytes o s has 7
  write_answers (Some fifos.Login) header offset payload = told_answers (write_block header offset payload) bytes o s has (is_block payload) (status_in payload)
  write_answers (Some fifos.Place) header offset payload = block_answers (write_block header offset payload) bytes o s has (status_in payload)

  quadlet_answers : (fifo : Option Fifo) (header : Header) (offset value : ℕ) → Does1 (write_quadlet header offset value) bytes o s has (behind_source fifo (quadlet_write_of offset) header.source) (quadlet_at fifo (write_quadlet header offset value) bytes o s).1
  quadlet_answers None header offset value = serve_answers (write_quadlet header offset value)
  quadlet_answers (Some fifos.Closed) header offset value = ignored_answers (write_quadlet header offset value) bytes o s has 7
  quadlet_answers (Some fifos.Login) header offset value = serve_answers (write_quadlet header offset value)
  quadlet_answers (Some fifos.Place) header offset value = serve_answers (write_quadlet header offset value)

  pub request_answers : (p : Packet) → Does1 p bytes o s has (brought p s) (request_step p bytes o s).1
  request_answers (write_quadlet header offset value) =
      let p = write_quadlet header offset value in
      source_answers p bytes o s has (is_foreign p s) (behind_source (fifo_of s offset) (quadlet_write_of offset) header.source) (quadlet_answers (fifo_of s offset) header offset value)
  request_answers (write_block header offset payload) =
      let p = write_block header offset payload in
      source_answers p bytes o s has (is_foreign p s) (behind_source (fifo_of s offset) (block_write_of offset payload) header.source) (write_answers (fifo_of s offset) header offset payload)
  request_answers (read_quadlet header offset) =
      let p = read_quadlet header offset in source_answers p bytes o s has (is_foreign p s) nothing (serve_answers p)
  request_answers (read_block header offset asked) =
      let p = read_block header offset asked in source_answers p bytes o s has (is_foreign p s) nothing (serve_answers p)
  request_answers (lock header offset extended payload) =
      let p = lock header offset extended payload in source_answers p bytes o s has (is_foreign p s) nothing (serve_answers p)
  request_answers (write_response header rcode) =
      let p = write_response header rcode in either_answers p bytes o s has (is_foreign p s) (serve_answers p)
  request_answers (read_quadlet_response header rcode value) =
      let p = read_quadlet_response header rcode value in either_answers p bytes o s has (is_foreign p s) (serve_answers p)
  request_answers (read_block_response header rcode payload) =
      let p = read_block_response header rcode payload in either_answers p bytes o s has (is_foreign p s) (serve_answers p)
  request_answers (lock_response header rcode extended payload) =
      let p = lock_response header rcode extended payload in either_answers p bytes o s has (is_foreign p s) (serve_answers p)
