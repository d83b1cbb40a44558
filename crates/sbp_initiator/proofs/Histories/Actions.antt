-- What an action that is done tells, begins and counts.
use Rattle.std.proofs.Common.{arith, ◌≡◌, refl, sym, ap, subst, ◌∙◌, ℕ, zero, suc, ◌+◌, ◌%◌, ◌<◌, ◌≤◌, ◌++◌, append-nil, nat_eq, ◌&&◌, ◌||◌, not, is_some, Bool, true, false, cond, List, [], ◌∷◌, length, take, drop, slice_index_or, slice_set, Option, Some, None, Result, Ok, Err}
use Rattle.std.proofs.lemmas.List.{drop_all}
use Rattle.bus_memory.specs.declared.slot.PlaceMemory.{PlaceMemory}
use Rattle.bus_memory.specs.declared.window.Window.TheVariants as windows
use Rattle.bus_memory.specs.Memory.{Memory, empty_place, patch, place_at, with_bytes}
use Rattle.orb_layout.specs.ManagementOrbs.{management_bytes}
use Rattle.orb_list.specs.Layout.{behind, data_in_segments, data_written, written}
use Rattle.orb_layout.specs.declared.management.ManagementOrb.{ManagementOrb}
use Rattle.label_table.specs.Layer.{Layer}
use Rattle.orb_list.specs.declared.fault.ListFault.{ListFault}
use Rattle.orb_list.specs.declared.fault.ListFault.TheVariants as list_faults
use Rattle.orb_list.specs.declared.list.Link.{Link}
use Rattle.orb_list.specs.declared.list.Linking.{Linking}
use Rattle.orb_list.specs.declared.list.PresentList.{PresentList}
use Rattle.orb_list.specs.Tickets.{TicketParts}
use Rattle.orb_list.specs.Requests.{Asked}
use Rattle.orb_list.specs.Table.{SlotTable, checked, closed, dummy_at, dummy_step, extended, find_in, free_slot, high_for, high_step, is_mid_link, link_set, list_number, lists_begun, low_for, low_step as slot_low, lowest, may_prepare, next_ticket, orb_number, pin_at, pin_step, prepare_at, prepare_step, waits_high, waits_low}
use Rattle.sbp_session.specs.Moves.{pointing, goes}
use Rattle.sbp_session.specs.Seats.{points}
use Rattle.sbp_journal.specs.declared.event.Action.{Action}
use Rattle.sbp_journal.specs.declared.event.Action.TheVariants as actions
use Rattle.sbp_journal.specs.declared.event.Cmd.{Cmd}
use Rattle.sbp_journal.specs.declared.note.Note.{Note}
use Rattle.sbp_journal.specs.declared.note.Note.TheVariants as notes
use Rattle.sbp_journal.specs.declared.operation.Operation.{Operation}
use Rattle.sbp_journal.specs.declared.operation.Operation.TheVariants as operations
use Rattle.sbp_journal.specs.Buffers.{buffer_of}
use Rattle.sbp_journal.specs.Outgoings.{OutboxState}
use Rattle.sbp_journal.specs.Rows.{Refusals, refusal_of}
use Rattle.sbp_initiator.specs.declared.purpose.Demand.{Demand}
use Rattle.sbp_initiator.specs.declared.purpose.Pointing.{Pointing}
use Rattle.sbp_initiator.specs.declared.purpose.Pointing.TheVariants as pointings
use Rattle.sbp_initiator.specs.declared.purpose.Purpose.{Purpose}
use Rattle.sbp_initiator.specs.declared.purpose.Purpose.TheVariants as purposes
use Rattle.sbp_initiator.specs.declared.purpose.Running.{Running}
use Rattle.sbp_initiator.specs.declared.state.InitiatorState.{InitiatorState}
use Rattle.sbp_initiator.specs.declared.purpose.ListMarks.{ListMarks}
use Rattle.sbp_initiator.specs.declared.state.Counts.{Counts}
use Rattle.sbp_initiator.specs.Refusals.{ActionFacts, ends_list, fits_session, is_list_step, lacks_orb, operation_of, prepares, refusal, rows_of}
use Rattle.orb_list.specs.Lists.{ListState, dummy_lists, high_lists, low_lists, manage_lists, pin_lists, stepped}
use Rattle.sbp_initiator.specs.Commands.{asked_by, prepared_as, put_lists}
use Rattle.sbp_initiator.specs.States.{is_list, is_unwritten, last_linked, no_marks, operation_in, place_of, session_of}
use Rattle.sbp_initiator.specs.Effects.{Turn, told}
use Rattle.sbp_initiator.specs.Acting.{demand_of, facts_with, dummy_for, done_step, link_as, link_step, login_id, login_orb, low_as, low_step, manage_start, managed_by, orb_by, pinned_for, put_as, put_step, register_start, ring_demand, ring_for, ring_step, append_step, with_running}
use Rattle.sbp_initiator.specs.Histories.Begins.{AreSteps, begun_as, after_by, IsFree}
use Rattle.sbp_initiator.specs.Steps.{is_step}
use Rattle.sbp_initiator.specs.Histories.Ends.{own, is_managed}
use Rattle.sbp_initiator.specs.Histories.Numbers.{is_numbered}
use Rattle.sbp_initiator.specs.Histories.Served.{with_orb}
use Rattle.sbp_initiator.specs.Histories.Slots.{orb_in}
use Rattle.sbp_initiator.proofs.Histories.Effects.{Begun, HasMarks, Holds, IsBegunList, KeepsMarks, Past, relisted, told_twice}

none_below : (p : ℕ) → p < 0 → ⊥
none_below p h = omega arith

below_next : (p n : ℕ) → suc p < suc n → p < n
below_next p n h = omega arith

eq_next : (p m : ℕ) → nat_eq p m ≡ nat_eq (suc p) (suc m)
eq_next p m = grind arith

within : (a b : ℕ) → a ≡ 32 → b ≡ 32 → a ≤ 0 + b
within a b e f = omega arith

steps_append : (xs ys : List Note) → AreSteps xs → AreSteps ys → AreSteps (xs ++ ys)
steps_append [] ys a b = b
steps_append (x ∷ xs) ys a b = (a.0, steps_append xs ys a.1 b)

-- a step of a list: what it tells, and what it leaves as it was
pub record Steps (o : OutboxState) (s : InitiatorState) (t : Turn) : Type 0 where
  pub news : List Note
  pub sides : t.0.sides ≡ o.sides ++ own news
  pub steps : AreSteps news
  pub seat : t.1.seat ≡ s.seat
  pub operation : t.1.operation ≡ s.operation
  pub layer : t.1.layer ≡ s.layer
  pub packets : t.0.packets ≡ o.packets
  pub counts : t.1.counts ≡ s.counts
  pub number : t.1.number ≡ s.number
  pub target : t.1.target ≡ s.target
  pub unwritten : is_unwritten t.1.marks.pointing ≡ is_unwritten s.marks.pointing
  pub present : (n : ℕ) → is_list s.lists.slots.present n ≡ true → is_list t.1.lists.slots.present n ≡ true
  pub marks : KeepsMarks s t.1

pub step_then : (o : OutboxState) (s : InitiatorState) (t u : Turn) → Steps o s t → Steps t.0 t.1 u → Steps o s u
step_then o s t u a b = record {
  news = a.news ++ b.news;
  sides = told_twice o.sides t.0.sides u.0.sides a.news b.news a.sides b.sides;
  steps = steps_append a.news b.news a.steps b.steps;
  seat = b.seat ∙ a.seat;
  operation = b.operation ∙ a.operation;
  layer = b.layer ∙ a.layer;
  packets = b.packets ∙ a.packets;
  counts = b.counts ∙ a.counts;
  number = b.number ∙ a.number;
  target = b.target ∙ a.target;
  unwritten = b.unwritten ∙ a.unwritten;
  present = λ n h. b.present n (a.present n h);
  marks = λ x h. b.marks x (a.marks x h);
}

-- ---- an ORB is prepared

abbrev pub is_ok : {A B : Type 0} → Result A B → Bool
is_ok (Ok x) = true
is_ok (Err e) = false

untrue : false ≡ true → ⊥
untrue e = cc

some_marks : (present : Option PresentList) (x : Pointing) → is_some present ≡ true → HasMarks present x
some_marks None x e = absurd (untrue e)
some_marks (Some list) x e = tt

-- the first ORB of a list has number 0, and only it
first_unwritten : (present : Option PresentList) (x : Pointing) → HasMarks present x → nat_eq (orb_number present) 0 ≡ true → true ≡ is_unwritten x
first_unwritten None x h e = sym h
first_unwritten (Some list) x h e = absurd (above list.tail.number e)
  where
    above : (n : ℕ) → nat_eq (n + 1) 0 ≡ true → ⊥
    above n e = grind arith

first_as : (c : Bool) (note : Note) (first : ℕ) (o : OutboxState) (s : InitiatorState) (lists : ListState) → is_step note ≡ true → is_some lists.slots.present ≡ true → ((n : ℕ) → is_list s.lists.slots.present n ≡ true → is_list lists.slots.present n ≡ true) → KeepsMarks s (record s { lists = lists }) → (c ≡ true → true ≡ is_unwritten s.marks.pointing) → Steps o s (told o note, cond c (record s { lists = lists; marks = record no_marks { first = first } }) (record s { lists = lists }))
first_as true note first o s lists w p q k f = record {
  news = note ∷ [];
  sides = refl;
  steps = (w, tt);
  seat = refl;
  operation = refl;
  layer = refl;
  packets = refl;
  counts = refl;
  number = refl;
  target = refl;
  unwritten = f refl;
  present = q;
  marks = λ x h.
      let b = (k x h).pointed in
      record {
        marks = some_marks lists.slots.present pointings.Unwritten p;
        orbs = (k x h).orbs;
        places = (k x h).places;
        pointed = record { list = b.list; below = b.below; written = λ n e g. f refl ∙ b.written n e g };
      };
}
first_as false note first o s lists w p q k f = record {
  news = note ∷ [];
  sides = refl;
  steps = (w, tt);
  seat = refl;
  operation = refl;
  layer = refl;
  packets = refl;
  counts = refl;
  number = refl;
  target = refl;
  unwritten = refl;
  present = q;
  marks = k;
}

segments_places : (m : Memory) (slot at : ℕ) (counts data_left : List ℕ) → (data_in_segments m slot at counts data_left).places ≡ m.places
segments_places m slot at [] data_left = refl
segments_places m slot at (count ∷ rest) data_left =
    segments_places (with_bytes m (windows.Buffer slot) at (take count data_left)) slot (behind at count) rest (drop count data_left)

data_places : (m : Memory) (slot : ℕ) (segments payload : List ℕ) → (data_written m slot segments payload).places ≡ m.places
data_places m slot [] payload = refl
data_places m slot (first ∷ rest) payload = segments_places m slot 0 (first ∷ rest) payload

written_places : (m : Memory) (slot : ℕ) (asked : Asked) → (written m slot asked).places ≡ m.places
written_places m slot asked = data_places _ slot asked.segments asked.payload

-- the ORB that is prepared is of the present list, or begins the next one
pub tail_is : (present : Option PresentList) (t : TicketParts) → (extended present t).tail ≡ t
tail_is None t = refl
tail_is (Some list) t = refl

own_list : (n : ℕ) → nat_eq n n ≡ true
own_list n = grind arith

pub list_same : (m n : ℕ) → nat_eq m n ≡ true → m ≡ n
list_same m n e = grind arith

pub below_more : (n lists : ℕ) → n < lists → n < lists + 1
below_more n lists h = omega arith

below_own : (n lists : ℕ) → n ≡ lists → n < lists + 1
below_own n lists e = omega arith

below_same : (m n lists : ℕ) → m ≡ n → n < lists → m < lists
below_same m n lists e h = omega arith

none_new : (m n lists : ℕ) → m ≡ lists → m ≡ n → n < lists → ⊥
none_new m n lists e f h = omega arith

put_begun : (pointed : ℕ → Bool) (present : Option PresentList) (lists : ℕ) (mark : Pointing) (t : TicketParts) → t.list ≡ list_number present lists → Begun pointed present lists mark → Begun pointed (Some (extended present t)) (lists_begun present lists) mark
put_begun pointed None lists mark t e b = record {
  list = below_own t.list lists e;
  below = λ n f. below_more n lists (b.below n f);
  written = λ n f g. absurd (none_new t.list n lists e (list_same t.list n g) (b.below n f));
}
put_begun pointed (Some list) lists mark t e b = record {
  list = below_same t.list list.tail.list lists e b.list;
  below = b.below;
  written = λ n f g. b.written n f (ap (λ (m : ℕ). nat_eq m n) (sym e) ∙ g);
}

put_lists_same : (present : Option PresentList) (lists : ℕ) (t : TicketParts) (n : ℕ) → t.list ≡ list_number present lists → is_list present n ≡ true → is_list (Some (extended present t)) n ≡ true
put_lists_same None lists t n e h = absurd (untrue h)
put_lists_same (Some list) lists t n e h = ap (λ (m : ℕ). nat_eq m n) e ∙ h

put_keeps : (slot : ℕ) (cmd : Cmd) (s : InitiatorState) → KeepsMarks s (record s { lists = (prepared_as (prepare_at (Ok slot) s.lists.slots s.lists.memory (asked_by cmd s.layer.node (login_id s))) s.lists cmd).1 })
put_keeps slot cmd s x h =
    let e = written_places s.lists.memory slot (asked_by cmd s.layer.node (login_id s)) in
    record {
      marks = tt;
      orbs = λ m. ap (λ (l : List PlaceMemory). (slice_index_or l m empty_place).orb) e ∙ h.orbs m;
      places = ap length e ∙ h.places;
      pointed = put_begun x.pointed s.lists.slots.present s.lists.slots.lists s.marks.pointing (next_ticket s.lists.slots slot (login_id s)) refl h.pointed;
    }

put_as_does : (r : Result ℕ ListFault) (cmd : Cmd) (o : OutboxState) (s : InitiatorState) → is_ok r ≡ true → HasMarks s.lists.slots.present s.marks.pointing → Steps o s (put_as (prepared_as (prepare_at r s.lists.slots s.lists.memory (asked_by cmd s.layer.node (login_id s))) s.lists cmd) cmd o s)
put_as_does (Err fault) cmd o s e h = absurd (untrue e)
put_as_does (Ok slot) cmd o s e h =
    let t = next_ticket s.lists.slots slot (login_id s) in
    first_as (nat_eq t.number 0) (notes.Append s.number t.list t.number cmd.cdb (buffer_of cmd)) t.slot o s
    (prepared_as (prepare_at (Ok slot) s.lists.slots s.lists.memory (asked_by cmd s.layer.node (login_id s))) s.lists cmd).1
    refl refl (λ n. put_lists_same s.lists.slots.present s.lists.slots.lists t n refl) (put_keeps slot cmd s) (first_unwritten s.lists.slots.present s.marks.pointing h)

pub put_does : (cmd : Cmd) (o : OutboxState) (s : InitiatorState) → is_ok (may_prepare s.lists.slots) ≡ true → HasMarks s.lists.slots.present s.marks.pointing → Steps o s (put_step cmd o s)
unfolding put_lists prepare_step
put_does cmd o s e h = put_as_does (may_prepare s.lists.slots) cmd o s e h

-- ---- an ORB is linked

link_set_marks : (present : Option PresentList) (link : Link) (x : Pointing) → HasMarks present x → HasMarks (link_set present link) x
link_set_marks None link x h = h
link_set_marks (Some list) link x h = tt

pub link_set_list : (present : Option PresentList) (link : Link) (n : ℕ) → is_list present n ≡ true → is_list (link_set present link) n ≡ true
link_set_list None link n e = e
link_set_list (Some list) link n e = e

link_set_begun : (pointed : ℕ → Bool) (present : Option PresentList) (link : Link) (lists : ℕ) (mark : Pointing) → Begun pointed present lists mark → Begun pointed (link_set present link) lists mark
link_set_begun pointed None link lists mark b = b
link_set_begun pointed (Some list) link lists mark b = record { list = b.list; below = b.below; written = λ n e f. b.written n e f }

-- nothing is done
still : (o : OutboxState) (s : InitiatorState) → Steps o s (o, s)
still o s = record {
  news = [];
  sides = sym (append-nil o.sides);
  steps = tt;
  seat = refl;
  operation = refl;
  layer = refl;
  packets = refl;
  counts = refl;
  number = refl;
  target = refl;
  unwritten = refl;
  present = λ n h. h;
  marks = λ x h. h;
}

-- a note is told, and the lists change
noted : (note : Note) (o : OutboxState) (s : InitiatorState) (lists : ListState) → is_step note ≡ true → ((n : ℕ) → is_list s.lists.slots.present n ≡ true → is_list lists.slots.present n ≡ true) → KeepsMarks s (record s { lists = lists }) → Steps o s (told o note, record s { lists = lists })
noted note o s lists w p k = record {
  news = note ∷ [];
  sides = refl;
  steps = (w, tt);
  seat = refl;
  operation = refl;
  layer = refl;
  packets = refl;
  counts = refl;
  number = refl;
  target = refl;
  unwritten = refl;
  present = p;
  marks = k;
}

low_for_does : (linking : Option Linking) (o : OutboxState) (s : InitiatorState) → Steps o s (low_as (stepped (low_for linking s.lists.slots s.lists.memory) s.lists) o s)
low_for_does None o s = still o s
low_for_does (Some linking) o s =
    noted (notes.Low s.number linking.tail.list linking.tail.number) o s (stepped (low_for (Some linking) s.lists.slots s.lists.memory) s.lists).1 refl
    (link_set_list s.lists.slots.present _) (λ x h. record { marks = link_set_marks s.lists.slots.present _ s.marks.pointing h.marks; orbs = h.orbs; places = h.places; pointed = link_set_begun x.pointed s.lists.slots.present _ s.lists.slots.lists s.marks.pointing h.pointed })

pub low_does : (o : OutboxState) (s : InitiatorState) → Steps o s (low_step o s)
unfolding low_lists slot_low
low_does o s = low_for_does (waits_low s.lists.slots.present) o s

high_for_does : (linking : Option Linking) (o : OutboxState) (s : InitiatorState) → Steps o s (link_as (stepped (high_for linking s.lists.slots s.lists.memory) s.lists) o s)
unfolding closed
high_for_does None o s = still o s
high_for_does (Some linking) o s =
    noted (notes.Linked s.number linking.tail.list linking.tail.number) o s (stepped (high_for (Some linking) s.lists.slots s.lists.memory) s.lists).1 refl
    (link_set_list s.lists.slots.present _) (λ x h. record { marks = link_set_marks s.lists.slots.present _ s.marks.pointing h.marks; orbs = h.orbs; places = h.places; pointed = link_set_begun x.pointed s.lists.slots.present _ s.lists.slots.lists s.marks.pointing h.pointed })

pub link_does : (o : OutboxState) (s : InitiatorState) → Steps o s (link_step o s)
unfolding high_lists high_step
link_does o s = high_for_does (waits_high s.lists.slots.present) o s

-- ---- an action that is done

-- the running number after a request: one more where the request carried it
abbrev pub used : Option Demand → ℕ → ℕ
used None running = running
used (Some demand) running = cond (is_numbered demand.purpose) (running + 1) running

-- an ORB_POINTER of a list is asked for
abbrev pub pointed_by : Purpose → (ℕ → Bool) → ℕ → Bool
pointed_by (purposes.Pointer list) pointed n = nat_eq list n || pointed n
pointed_by _ pointed n = pointed n

abbrev pub pointed_after : Option Demand → (ℕ → Bool) → ℕ → Bool
pointed_after None pointed n = pointed n
pointed_after (Some demand) pointed n = pointed_by demand.purpose pointed n

-- what is remembered behind an action
abbrev pub remembered : Option ManagementOrb → ℕ → Option Demand → Past → Past
remembered orb place demand held = record { places = with_orb orb place held.places; pointed = pointed_after demand held.pointed }

-- it may be that less was asked for
repointed : (x : Past) (pointed : ℕ → Bool) (lists : ListState) (mark : Pointing) → ((n : ℕ) → pointed n ≡ true → x.pointed n ≡ true) → Holds x lists mark → Holds (record { places = x.places; pointed = pointed }) lists mark
repointed x pointed lists mark f h = record {
  marks = h.marks;
  orbs = h.orbs;
  places = h.places;
  pointed = record { list = h.pointed.list; below = λ n e. h.pointed.below n (f n e); written = λ n e. h.pointed.written n (f n e) };
}

-- What an action that is done tells, begins and counts, and what it leaves.
pub record Done (demand : Option Demand) (begins : Option Operation) (orb : Option ManagementOrb) (o : OutboxState) (s : InitiatorState) (t : Turn) : Type 0 where
  pub news : List Note
  pub sides : t.0.sides ≡ o.sides ++ own news
  pub steps : AreSteps news
  pub operation : t.1.operation ≡ after_by begins s
  pub layer : t.1.layer ≡ s.layer
  pub packets : t.0.packets ≡ o.packets
  pub acts : t.1.counts.acts ≡ s.counts.acts
  pub running : t.1.counts.running ≡ used demand s.counts.running
  pub number : t.1.number ≡ s.number
  pub target : t.1.target ≡ s.target
  pub marks : (held : Past) → ((m : ℕ) → length (held.places m) ≡ 32) → Holds held s.lists s.marks.pointing → Holds (remembered orb (place_of s.counts.managed) demand held) t.1.lists t.1.marks.pointing

step_done : (o : OutboxState) (s : InitiatorState) (t : Turn) → Steps o s t → Done None None None o s t
step_done o s t a = record {
  news = a.news;
  sides = a.sides;
  steps = a.steps;
  operation = a.operation;
  layer = a.layer;
  packets = a.packets;
  acts = ap (λ (c : Counts). c.acts) a.counts;
  running = ap (λ (c : Counts). c.running) a.counts;
  number = a.number;
  target = a.target;
  marks = λ held z h. a.marks held h;
}

-- what a ring is for
abbrev pub ring_purpose : Bool → ℕ → Purpose
ring_purpose true list = purposes.Pointer list
ring_purpose false list = purposes.Doorbell

list_below : (present : Option PresentList) (list : PresentList) (lists : ℕ) → present ≡ Some list → IsBegunList present lists → list.tail.list < lists
list_below present list lists e h = subst (λ (p : Option PresentList). IsBegunList p lists) e h

ring_below : (c : Bool) (list n lists : ℕ) (b : Bool) → nat_eq list n ≡ c → (c || b) ≡ true → list < lists → (b ≡ true → n < lists) → n < lists
ring_below true list n lists b e f h k = below_same n list lists (sym (list_same list n e)) h
ring_below false list n lists b e f h k = k f

-- the ORB_POINTER of the present list is asked for
rung_holds : (x : Past) (s : InitiatorState) (list : PresentList) → s.lists.slots.present ≡ Some list → Holds x s.lists s.marks.pointing → Holds (record { places = x.places; pointed = pointed_by (purposes.Pointer list.tail.list) x.pointed }) s.lists pointings.Written
rung_holds x s list p h = record {
  marks = some_marks s.lists.slots.present pointings.Written (ap is_some p);
  orbs = h.orbs;
  places = h.places;
  pointed = record {
    list = h.pointed.list;
    below = λ n e. ring_below (nat_eq list.tail.list n) list.tail.list n s.lists.slots.lists (x.pointed n) refl e (list_below s.lists.slots.present list s.lists.slots.lists p h.pointed.list) (h.pointed.below n);
    written = λ n e f. refl;
  };
}

ring_as : (c : Bool) (demand : Demand) (list : PresentList) (o : OutboxState) (s : InitiatorState) → is_unwritten s.marks.pointing ≡ c → demand.purpose ≡ ring_purpose c list.tail.list → s.lists.slots.present ≡ Some list → Done (Some demand) None None o s (told o (notes.Rung s.number list.tail.list (last_linked list)), cond c (record s { marks = record s.marks { pointing = pointings.Written }; seat = goes pointing s.seat }) (with_running s))
ring_as true demand list o s e d p = record {
  news = notes.Rung s.number list.tail.list (last_linked list) ∷ [];
  sides = refl;
  steps = (refl, tt);
  operation = refl;
  layer = refl;
  packets = refl;
  acts = refl;
  running = ap (λ (x : Purpose). cond (is_numbered x) (s.counts.running + 1) s.counts.running) (sym d);
  number = refl;
  target = refl;
  marks = λ held z h.
      subst (λ (x : Purpose). Holds (record { places = held.places; pointed = pointed_by x held.pointed }) s.lists pointings.Written) (sym d) (rung_holds held s list p h);
}
ring_as false demand list o s e d p = record {
  news = notes.Rung s.number list.tail.list (last_linked list) ∷ [];
  sides = refl;
  steps = (refl, tt);
  operation = refl;
  layer = refl;
  packets = refl;
  acts = refl;
  running = ap (λ (x : Purpose). cond (is_numbered x) (s.counts.running + 1) s.counts.running) (sym d);
  number = refl;
  target = refl;
  marks = λ held z h.
      subst (λ (x : Purpose). Holds (record { places = held.places; pointed = pointed_by x held.pointed }) s.lists s.marks.pointing) (sym d) h;
}

ring_for_does : (present : Option PresentList) (demand : Demand) (n : ℕ) (o : OutboxState) (s : InitiatorState) → s.lists.slots.present ≡ present → is_list present n ≡ true → demand.purpose ≡ ring_purpose (is_unwritten s.marks.pointing) n → Done (Some demand) None None o s (ring_for present o s)
ring_for_does None demand n o s e p d = absurd (untrue p)
ring_for_does (Some list) demand n o s e p d =
    ring_as (is_unwritten s.marks.pointing) demand list o s refl (d ∙ ap (ring_purpose (is_unwritten s.marks.pointing)) (sym (list_same list.tail.list n p))) e

ring_number : (c : Bool) (x y : Demand) (n : ℕ) → x.purpose ≡ purposes.Pointer n → y.purpose ≡ purposes.Doorbell → (cond c x y).purpose ≡ ring_purpose c n
ring_number true x y n e f = e
ring_number false x y n e f = f

pub demand_number : (s : InitiatorState) → (ring_demand s).purpose ≡ ring_purpose (is_unwritten s.marks.pointing) (list_number s.lists.slots.present s.lists.slots.lists)
demand_number s =
    ring_number (is_unwritten s.marks.pointing) _ _ (list_number s.lists.slots.present s.lists.slots.lists) refl refl

ring_does : (demand : Demand) (n : ℕ) (o : OutboxState) (s : InitiatorState) → is_list s.lists.slots.present n ≡ true → demand.purpose ≡ ring_purpose (is_unwritten s.marks.pointing) n → Done (Some demand) None None o s (ring_step o s)
ring_does demand n o s p d = ring_for_does s.lists.slots.present demand n o s refl p d

-- the list of a ring is the present one
pub present_named : (present : Option PresentList) (lists : ℕ) → is_some present ≡ true → is_list present (list_number present lists) ≡ true
present_named None lists e = absurd (untrue e)
present_named (Some list) lists e = own_list list.tail.list

-- steps of a list and then a ring
steps_ring : (demand : Demand) (o : OutboxState) (s : InitiatorState) (t u : Turn) → Steps o s t → Done (Some demand) None None t.0 t.1 u → Done (Some demand) None None o s u
steps_ring demand o s t u a b = record {
  news = a.news ++ b.news;
  sides = told_twice o.sides t.0.sides u.0.sides a.news b.news a.sides b.sides;
  steps = steps_append a.news b.news a.steps b.steps;
  operation = b.operation ∙ a.operation;
  layer = b.layer ∙ a.layer;
  packets = b.packets ∙ a.packets;
  acts = b.acts ∙ ap (λ (c : Counts). c.acts) a.counts;
  running = b.running ∙ ap (λ (c : Counts). used (Some demand) c.running) a.counts;
  number = b.number ∙ a.number;
  target = b.target ∙ a.target;
  marks = λ held z h. b.marks held z (a.marks held h);
}

put_named : (r : Result ℕ ListFault) (cmd : Cmd) (o : OutboxState) (s : InitiatorState) → is_ok r ≡ true → is_list (put_as (prepared_as (prepare_at r s.lists.slots s.lists.memory (asked_by cmd s.layer.node (login_id s))) s.lists cmd) cmd o s).1.lists.slots.present (list_number s.lists.slots.present s.lists.slots.lists) ≡ true
put_named (Err fault) cmd o s e = absurd (untrue e)
put_named (Ok slot) cmd o s e =
    let t = next_ticket s.lists.slots slot (login_id s) in
    let n = list_number s.lists.slots.present s.lists.slots.lists in
    first_named (nat_eq t.number 0) t.slot n s (prepared_as (prepare_at (Ok slot) s.lists.slots s.lists.memory (asked_by cmd s.layer.node (login_id s))) s.lists cmd).1
    (ap (λ (k : TicketParts). nat_eq k.list n) (tail_is s.lists.slots.present t) ∙ own_list n)
  where
    first_named : (c : Bool) (first n : ℕ) (s : InitiatorState) (lists : ListState) → is_list lists.slots.present n ≡ true → is_list (cond c (record s { lists = lists; marks = record no_marks { first = first } }) (record s { lists = lists })).lists.slots.present n ≡ true
    first_named true first n s lists e = e
    first_named false first n s lists e = e

put_some : (cmd : Cmd) (o : OutboxState) (s : InitiatorState) → is_ok (may_prepare s.lists.slots) ≡ true → is_list (put_step cmd o s).1.lists.slots.present (list_number s.lists.slots.present s.lists.slots.lists) ≡ true
unfolding put_lists prepare_step
put_some cmd o s e = put_named (may_prepare s.lists.slots) cmd o s e

-- after the steps of an append the present list is that of its ORB
pub append_named : (cmd : Cmd) (o : OutboxState) (s : InitiatorState) → is_ok (may_prepare s.lists.slots) ≡ true → (let x = put_step cmd o s in let y = low_step x.0 x.1 in is_list (link_step y.0 y.1).1.lists.slots.present (list_number s.lists.slots.present s.lists.slots.lists) ≡ true)
append_named cmd o s e =
    let x = put_step cmd o s in
    let y = low_step x.0 x.1 in
    let n = list_number s.lists.slots.present s.lists.slots.lists in
    (link_does y.0 y.1).present n ((low_does x.0 x.1).present n (put_some cmd o s e))

append_does : (cmd : Cmd) (o : OutboxState) (s : InitiatorState) → is_ok (may_prepare s.lists.slots) ≡ true → HasMarks s.lists.slots.present s.marks.pointing → Done (Some (ring_demand s)) None None o s (append_step cmd o s)
append_does cmd o s e h =
    let x = put_step cmd o s in
    let y = low_step x.0 x.1 in
    let w = link_step y.0 y.1 in
    let a : Steps o s x = put_does cmd o s e h in
    let b : Steps o s y = step_then o s x y a (low_does x.0 x.1) in
    let c : Steps o s w = step_then o s y w b (link_does y.0 y.1) in
    let n = list_number s.lists.slots.present s.lists.slots.lists in
    steps_ring (ring_demand s) o s w (ring_step w.0 w.1) c
    (ring_does (ring_demand s) n w.0 w.1 (append_named cmd o s e) (demand_number s ∙ ap (λ (b : Bool). ring_purpose b n) (sym c.unwritten)))

-- ---- a dummy, and a pin

dummied_present : (r : Result (Unit {0}) ListFault) (slots : SlotTable) (m : Memory) (t : TicketParts) → (dummy_at r slots m t).1.0.present ≡ slots.present
dummied_present (Err fault) slots m t = refl
dummied_present (Ok done) slots m t = refl

pub dummy_present : (lists : ListState) (t : TicketParts) → (dummy_lists lists t).slots.present ≡ lists.slots.present
unfolding dummy_lists dummy_step
dummy_present lists t = dummied_present (checked lists.slots t) lists.slots lists.memory t

dummied_count : (r : Result (Unit {0}) ListFault) (slots : SlotTable) (m : Memory) (t : TicketParts) → (dummy_at r slots m t).1.0.lists ≡ slots.lists
dummied_count (Err fault) slots m t = refl
dummied_count (Ok done) slots m t = refl

pub dummy_count : (lists : ListState) (t : TicketParts) → (dummy_lists lists t).slots.lists ≡ lists.slots.lists
unfolding dummy_lists dummy_step
dummy_count lists t = dummied_count (checked lists.slots t) lists.slots lists.memory t

dummied_memory : (r : Result (Unit {0}) ListFault) (slots : SlotTable) (m : Memory) (t : TicketParts) → (dummy_at r slots m t).1.1.places ≡ m.places
dummied_memory (Err fault) slots m t = refl
dummied_memory (Ok done) slots m t = refl

dummy_memory : (lists : ListState) (t : TicketParts) → (dummy_lists lists t).memory.places ≡ lists.memory.places
unfolding dummy_lists dummy_step
dummy_memory lists t = dummied_memory (checked lists.slots t) lists.slots lists.memory t

pick_memory : (c : Bool) (k l : ListState) → l.memory ≡ k.memory → (cond c k l).memory ≡ k.memory
pick_memory true k l e = refl
pick_memory false k l e = e

pin_memory : (lists : ListState) (t : TicketParts) → (pin_lists lists t).memory ≡ lists.memory
unfolding pin_lists
pin_memory lists t = pick_memory (is_some lists.slots.pinned) lists (record lists { slots = (pin_step lists.slots t).1 }) refl

dummy_does : (t : Option TicketParts) (o : OutboxState) (s : InitiatorState) → Steps o s (dummy_for t o s)
dummy_does None o s = still o s
dummy_does (Some t) o s =
    noted (notes.Dummied s.number t.list t.number) o s (dummy_lists s.lists t) refl (λ n h. ap (λ (p : Option PresentList). is_list p n) (dummy_present s.lists t) ∙ h)
    (relisted s.lists (dummy_lists s.lists t) s.marks.pointing (dummy_present s.lists t) (dummy_count s.lists t) (λ m. ap (λ (l : List PlaceMemory). (slice_index_or l m empty_place).orb) (dummy_memory s.lists t)) (ap length (dummy_memory s.lists t)))

pinned_present : (r : Result (Unit {0}) ListFault) (slots : SlotTable) (t : TicketParts) → (pin_at r slots t).1.present ≡ slots.present
pinned_present (Err fault) slots t = refl
pinned_present (Ok done) slots t = refl

pin_present : (slots : SlotTable) (t : TicketParts) → (pin_step slots t).1.present ≡ slots.present
unfolding pin_step
pin_present slots t = pinned_present (checked slots t) slots t

pick_present : (c : Bool) (k l : ListState) → l.slots.present ≡ k.slots.present → (cond c k l).slots.present ≡ k.slots.present
pick_present true k l e = refl
pick_present false k l e = e

pub pins_present : (lists : ListState) (t : TicketParts) → (pin_lists lists t).slots.present ≡ lists.slots.present
unfolding pin_lists
pins_present lists t = pick_present (is_some lists.slots.pinned) lists (record lists { slots = (pin_step lists.slots t).1 }) (pin_present lists.slots t)

pinned_count : (r : Result (Unit {0}) ListFault) (slots : SlotTable) (t : TicketParts) → (pin_at r slots t).1.lists ≡ slots.lists
pinned_count (Err fault) slots t = refl
pinned_count (Ok done) slots t = refl

pin_count : (slots : SlotTable) (t : TicketParts) → (pin_step slots t).1.lists ≡ slots.lists
unfolding pin_step
pin_count slots t = pinned_count (checked slots t) slots t

pick_count : (c : Bool) (k l : ListState) → l.slots.lists ≡ k.slots.lists → (cond c k l).slots.lists ≡ k.slots.lists
pick_count true k l e = refl
pick_count false k l e = e

pub pins_count : (lists : ListState) (t : TicketParts) → (pin_lists lists t).slots.lists ≡ lists.slots.lists
unfolding pin_lists
pins_count lists t = pick_count (is_some lists.slots.pinned) lists (record lists { slots = (pin_step lists.slots t).1 }) (pin_count lists.slots t)

pub manage_slots : (lists : ListState) (place : ℕ) (orb : ManagementOrb) → (manage_lists lists place orb).slots ≡ lists.slots
unfolding manage_lists
manage_slots lists place orb = refl

manage_present : (lists : ListState) (place : ℕ) (orb : ManagementOrb) → (manage_lists lists place orb).slots.present ≡ lists.slots.present
unfolding manage_lists
manage_present lists place orb = refl

-- ---- operations

-- an operation begins, and nothing is told
begins_does : (begins : Option Operation) (orb : Option ManagementOrb) (demand : Demand) (o : OutboxState) (s t : InitiatorState) → t.operation ≡ after_by begins s → t.layer ≡ s.layer → t.counts.acts ≡ s.counts.acts → t.counts.running ≡ used (Some demand) s.counts.running → t.number ≡ s.number → t.target ≡ s.target → ((held : Past) → ((m : ℕ) → length (held.places m) ≡ 32) → Holds held s.lists s.marks.pointing → Holds (remembered orb (place_of s.counts.managed) (Some demand) held) t.lists t.marks.pointing) → Done (Some demand) begins orb o s (o, t)
begins_does begins orb demand o s t operation layer acts running number target marks = record {
  news = [];
  sides = sym (append-nil o.sides);
  steps = tt;
  operation = operation;
  layer = layer;
  packets = refl;
  acts = acts;
  running = running;
  number = number;
  target = target;
  marks = marks;
}

zero_next : (m : ℕ) → nat_eq 0 (suc m) ≡ false
zero_next m = grind arith

next_zero : (p : ℕ) → nat_eq (suc p) 0 ≡ false
next_zero p = grind arith

place_set : (l : List PlaceMemory) (p m : ℕ) (y : PlaceMemory) → p < length l → (slice_index_or (slice_set l p y) m empty_place).orb ≡ cond (nat_eq p m) y.orb (slice_index_or l m empty_place).orb
place_set [] p m y h = absurd (none_below p h)
place_set (z ∷ l) zero zero y h = refl
place_set (z ∷ l) zero (suc m) y h = ap (λ (b : Bool). cond b y.orb (slice_index_or l m empty_place).orb) (sym (zero_next m))
place_set (z ∷ l) (suc p) zero y h = ap (λ (b : Bool). cond b y.orb z.orb) (sym (next_zero p))
place_set (z ∷ l) (suc p) (suc m) y h =
    place_set l p m y (below_next p (length l) h) ∙ ap (λ (b : Bool). cond b y.orb (slice_index_or l m empty_place).orb) (eq_next p m)

set_length : (l : List PlaceMemory) (p : ℕ) (y : PlaceMemory) → length (slice_set l p y) ≡ length l
set_length [] p y = refl
set_length (z ∷ l) zero y = refl
set_length (z ∷ l) (suc p) y = ap suc (set_length l p y)

take_none : (xs : List ℕ) → take 0 xs ≡ []
take_none [] = refl
take_none (x ∷ xs) = refl

-- bytes over all the old ones
patch_whole : (old bytes : List ℕ) → length old ≡ 32 → length bytes ≡ 32 → patch old 0 bytes ≡ bytes
patch_whole old bytes e f =
    ap (λ (first : List ℕ). first ++ (bytes ++ drop (0 + length bytes) old)) (take_none old)
    ∙ ap (λ (rest : List ℕ). bytes ++ rest) (drop_all (0 + length bytes) old (within (length old) (length bytes) e f)) ∙ append-nil bytes

place_below : (n size : ℕ) → size ≡ 2 → n % 2 < size
place_below n size e = omega arith

manage_orbs : (lists : ListState) (place : ℕ) (orb : ManagementOrb) (m : ℕ) → place < length lists.memory.places → length (place_at lists.memory place).orb ≡ 32 → (place_at (manage_lists lists place orb).memory m).orb ≡ cond (nat_eq place m) (management_bytes orb) (place_at lists.memory m).orb
unfolding manage_lists
manage_orbs lists place orb m h e =
    let old = place_at lists.memory place in
    place_set lists.memory.places place m (record old { orb = patch old.orb 0 (management_bytes orb) }) h
    ∙ ap (λ (b : List ℕ). cond (nat_eq place m) b (place_at lists.memory m).orb) (patch_whole old.orb (management_bytes orb) e refl)

manage_places : (lists : ListState) (place : ℕ) (orb : ManagementOrb) → length (manage_lists lists place orb).memory.places ≡ length lists.memory.places
unfolding manage_lists
manage_places lists place orb = set_length lists.memory.places place _

managed_holds : (orb : ManagementOrb) (s : InitiatorState) (held : Past) → ((m : ℕ) → length (held.places m) ≡ 32) → Holds held s.lists s.marks.pointing → Holds (record { places = with_orb (Some orb) (place_of s.counts.managed) held.places; pointed = held.pointed }) (manage_lists s.lists (place_of s.counts.managed) orb) s.marks.pointing
managed_holds orb s held z h =
    let place = place_of s.counts.managed in
    record {
      marks = subst (λ (p : Option PresentList). HasMarks p s.marks.pointing) (sym (manage_present s.lists place orb)) h.marks;
      orbs = λ m. manage_orbs s.lists place orb m (place_below s.counts.managed (length s.lists.memory.places) h.places) (ap length (h.orbs place) ∙ z place)
          ∙ ap (λ (b : List ℕ). cond (nat_eq place m) (management_bytes orb) b) (h.orbs m);
      places = manage_places s.lists place orb ∙ h.places;
      pointed = subst (λ (x : SlotTable). Begun held.pointed x.present x.lists s.marks.pointing) (sym (manage_slots s.lists place orb)) h.pointed;
    }

-- what an abort pins
pinned_does : (t : Option TicketParts) (orb : Option ManagementOrb) (demand : Demand) (o : OutboxState) (s u : InitiatorState) → Done (Some demand) (Some operations.Abort) orb o s (o, u) → Done (Some demand) (Some operations.Abort) orb o s (o, pinned_for t u)
pinned_does None orb demand o s u d = d
pinned_does (Some t) orb demand o s u d = record {
  news = d.news;
  sides = d.sides;
  steps = d.steps;
  operation = d.operation;
  layer = d.layer;
  packets = d.packets;
  acts = d.acts;
  running = d.running;
  number = d.number;
  target = d.target;
  marks = λ held z h. relisted u.lists (pin_lists u.lists t) u.marks.pointing (pins_present u.lists t) (pins_count u.lists t) (λ m. ap (λ (x : Memory). (place_at x m).orb) (pin_memory u.lists t)) (ap (λ (x : Memory). length x.places) (pin_memory u.lists t)) _ (d.marks held z h);
}

-- the action that rings alone
abbrev pub is_ring : Action → Bool
is_ring actions.Ring = true
is_ring _ = false

abbrev mid_link : Result ℕ ListFault
mid_link = Err list_faults.MidLink

-- what an action needs of the slots, as no row stands against it
pub record Ready (action : Action) (s : InitiatorState) : Type 0 where
  pub prepares : prepares action ≡ true → is_ok (may_prepare s.lists.slots) ≡ true
  pub rings : is_ring action ≡ true → is_some s.lists.slots.present ≡ true
  pub marks : HasMarks s.lists.slots.present s.marks.pointing

manage_does : (begins : Operation) (orb : ManagementOrb) (demand : Demand) (o : OutboxState) (s t : InitiatorState) → is_managed begins ≡ true → is_numbered demand.purpose ≡ false → ((pointed : ℕ → Bool) (n : ℕ) → pointed_by demand.purpose pointed n ≡ pointed n) → t.operation ≡ (managed_by orb begins s).operation → t.layer ≡ s.layer → t.counts.acts ≡ s.counts.acts → t.counts.running ≡ s.counts.running → t.number ≡ s.number → t.target ≡ s.target → t.lists ≡ manage_lists s.lists (place_of s.counts.managed) orb → t.marks ≡ s.marks → Done (Some demand) (Some begins) (Some orb) o s (o, t)
manage_does begins orb demand o s t m d same operation layer acts running number target lists marks =
    begins_does (Some begins) (Some orb) demand o s t
    (operation ∙ ap (λ (b : Bool). Some (begun_as b begins s)) (sym m))
    layer acts
    (running ∙ ap (λ (b : Bool). cond b (s.counts.running + 1) s.counts.running) (sym d))
    number target
    (λ held z h.
    let x : Past = record { places = with_orb (Some orb) (place_of s.counts.managed) held.places; pointed = held.pointed } in
    repointed x (pointed_by demand.purpose held.pointed) t.lists t.marks.pointing (λ n e. sym (same held.pointed n) ∙ e)
    (subst (λ (l : ListState). Holds x l t.marks.pointing) (sym lists)
    (subst (λ (k : ListMarks). Holds x (manage_lists s.lists (place_of s.counts.managed) orb) k.pointing) (sym marks) (managed_holds orb s held z h))))

pub done_does : (action : Action) (o : OutboxState) (s : InitiatorState) → Ready action s → Done (demand_of action s) (operation_of action) (orb_in (operation_of action) action s) o s (done_step action o s)
unfolding done_step
done_does (actions.Put cmd) o s r = step_done o s (put_step cmd o s) (put_does cmd o s (r.prepares refl) r.marks)
done_does (actions.Append cmd) o s r = append_does cmd o s (r.prepares refl) r.marks
done_does actions.Low o s r = step_done o s (low_step o s) (low_does o s)
done_does actions.Link o s r = step_done o s (link_step o s) (link_does o s)
done_does actions.Ring o s r =
    ring_does (ring_demand s) (list_number s.lists.slots.present s.lists.slots.lists) o s (present_named s.lists.slots.present s.lists.slots.lists (r.rings refl)) (demand_number s)
done_does (actions.Dummy orb) o s r = step_done o s _ (dummy_does (find_in s.lists.slots.slots orb) o s)
done_does actions.Rom o s r = begins_does (Some operations.Rom) None _ o s (register_start actions.Rom s) refl refl refl refl refl refl (λ held z h. h)
done_does actions.AgentReset o s r =
    begins_does (Some operations.AgentReset) None _ o s (register_start actions.AgentReset s) refl refl refl refl refl refl (λ held z h. h)
done_does actions.State o s r = begins_does None None _ o s (register_start actions.State s) refl refl refl refl refl refl (λ held z h. h)
done_does actions.Enable o s r =
    begins_does (Some operations.Enable) None _ o s (register_start actions.Enable s) refl refl refl refl refl refl (λ held z h. h)
done_does (actions.Login unit reconnect exclusive password) o s r =
    manage_does operations.Login (login_orb s unit reconnect exclusive password) _ o s (manage_start (actions.Login unit reconnect exclusive password) s) refl refl (λ pointed n. refl) refl refl refl refl refl refl refl refl
done_does (actions.Query unit) o s r =
    manage_does operations.Query (orb_by (actions.Query unit) s) _ o s (manage_start (actions.Query unit) s) refl refl (λ pointed n. refl) refl refl refl refl refl refl refl refl
done_does actions.Reconnect o s r =
    manage_does operations.Reconnect (orb_by actions.Reconnect s) _ o s (manage_start actions.Reconnect s) refl refl (λ pointed n. refl) refl refl refl refl refl refl refl refl
done_does actions.Logout o s r =
    manage_does operations.Logout (orb_by actions.Logout s) _ o s (manage_start actions.Logout s) refl refl (λ pointed n. refl) refl refl refl refl refl refl refl refl
done_does (actions.Abort orb) o s r =
    let t = managed_by (orb_by (actions.Abort orb) s) operations.Abort s in
    pinned_does (find_in t.lists.slots.slots orb) _ _ o s t
    (manage_does operations.Abort (orb_by (actions.Abort orb) s) _ o s t refl refl (λ pointed n. refl) refl refl refl refl refl refl refl refl)
done_does actions.AbortSet o s r =
    manage_does operations.AbortSet (orb_by actions.AbortSet s) _ o s (manage_start actions.AbortSet s) refl refl (λ pointed n. refl) refl refl refl refl refl refl refl refl
done_does actions.UnitReset o s r =
    manage_does operations.UnitReset (orb_by actions.UnitReset s) _ o s (manage_start actions.UnitReset s) refl refl (λ pointed n. refl) refl refl refl refl refl refl refl refl
done_does actions.TargetReset o s r =
    manage_does operations.TargetReset (orb_by actions.TargetReset s) _ o s (manage_start actions.TargetReset s) refl refl (λ pointed n. refl) refl refl refl refl refl refl refl refl

-- ---- what the rows of refusals leave open

some_is_none : (n : ℕ) → Some n ≡ None → ⊥
some_is_none n e = cc

-- the first of some rows does not hold, and none of the others
row_free : (b : Bool) (n : ℕ) (rest : Option ℕ) → cond b (Some n) rest ≡ None → (b ≡ false) × (rest ≡ None)
row_free true n rest e = absurd (some_is_none n e)
row_free false n rest e = (refl, e)

and_free : (a b : Bool) → (a && b) ≡ false → a ≡ true → b ≡ false
and_free true b e f = e
and_free false b e f = cc

or_free : (a b : Bool) → (a || b) ≡ false → (a ≡ false) × (b ≡ false)
or_free true b e = absurd (not_both e)
  where
    not_both : true ≡ false → ⊥
    not_both e = cc
or_free false b e = (refl, e)

not_free : (b : Bool) → not b ≡ false → b ≡ true
not_free true e = refl
not_free false e = cc

prepare_free : (mid : Bool) (slot : Option ℕ) → mid ≡ false → is_some slot ≡ true → is_ok (cond mid mid_link (free_slot slot)) ≡ true
prepare_free false None e f = absurd (untrue f)
prepare_free false (Some k) e f = refl
prepare_free true slot e f = cc

ring_row : (action : Action) (facts : ActionFacts) → is_ring action ≡ true → lacks_orb action facts ≡ not facts.has_list
ring_row actions.Ring facts e = refl
ring_row _ facts e = absurd (untrue e)

-- an action that no row refuses
pub record Allowed (action : Action) (s : InitiatorState) : Type 0 where
  pub free : IsFree (operation_of action) s
  pub prepares : prepares action ≡ true → is_ok (may_prepare s.lists.slots) ≡ true
  pub rings : is_ring action ≡ true → is_some s.lists.slots.present ≡ true
  pub session : fits_session action (session_of s.seat) ≡ true
  pub closes : ends_list (operation_of action) ≡ true → points s.seat ≡ false
  pub steps : is_list_step action ≡ true → ends_list (operation_in s.operation) ≡ false

free_layer : (begins : Option Operation) (s : InitiatorState) (layer : Layer Purpose) → IsFree begins s → IsFree begins (record s { layer = layer })
free_layer None s layer f = tt
free_layer (Some operation) s layer f = f

-- no row reads the layer
pub allowed_layer : (action : Action) (s : InitiatorState) (layer : Layer Purpose) → Allowed action s → Allowed action (record s { layer = layer })
allowed_layer action s layer a = record {
  free = free_layer (operation_of action) s layer a.free;
  prepares = a.prepares;
  rings = a.rings;
  session = a.session;
  closes = a.closes;
  steps = a.steps;
}

free_as : (begins : Option Operation) (s : InitiatorState) → (is_some begins && is_some (operation_in s.operation)) ≡ false → IsFree begins s
free_as None s e = tt
free_as (Some operation) s e = no_operation s.operation e
  where
    no_operation : (r : Option Running) → is_some (operation_in r) ≡ false → r ≡ None
    no_operation None e = refl
    no_operation (Some running) e = cc

-- the rows from each one on
abbrev from_10 : Refusals → Option ℕ
from_10 r = cond r.no_label (Some 10) None

abbrev from_9 : Refusals → Option ℕ
from_9 r = cond r.no_slot (Some 9) (from_10 r)

abbrev from_8 : Refusals → Option ℕ
from_8 r = cond r.no_orb (Some 8) (from_9 r)

abbrev from_7 : Refusals → Option ℕ
from_7 r = cond r.dead_seen (Some 7) (from_8 r)

abbrev from_6 : Refusals → Option ℕ
from_6 r = cond r.not_linking (Some 6) (from_7 r)

abbrev from_5 : Refusals → Option ℕ
from_5 r = cond r.mid_link (Some 5) (from_6 r)

abbrev from_4 : Refusals → Option ℕ
from_4 r = cond r.waiting (Some 4) (from_5 r)

abbrev from_3 : Refusals → Option ℕ
from_3 r = cond r.no_rom (Some 3) (from_4 r)

abbrev from_2 : Refusals → Option ℕ
from_2 r = cond r.wrong_state (Some 2) (from_3 r)

abbrev from_1 : Refusals → Option ℕ
from_1 r = cond r.stuck (Some 1) (from_2 r)

-- no row holds
record NoRow (r : Refusals) : Type 0 where
  right : r.wrong_state ≡ false
  waits : r.waiting ≡ false
  mid : r.mid_link ≡ false
  orb : r.no_orb ≡ false
  slot : r.no_slot ≡ false

no_row : (r : Refusals) → refusal_of r ≡ None → NoRow r
no_row r e =
    let e2 : from_2 r ≡ None = (row_free r.stuck 1 (from_2 r) e).1 in
    let state = row_free r.wrong_state 2 (from_3 r) e2 in
    let e3 : from_3 r ≡ None = state.1 in
    let e4 : from_4 r ≡ None = (row_free r.no_rom 3 (from_4 r) e3).1 in
    let w = row_free r.waiting 4 (from_5 r) e4 in
    let m = row_free r.mid_link 5 (from_6 r) w.1 in
    let e7 : from_7 r ≡ None = (row_free r.not_linking 6 (from_7 r) m.1).1 in
    let e8 : from_8 r ≡ None = (row_free r.dead_seen 7 (from_8 r) e7).1 in
    let o = row_free r.no_orb 8 (from_9 r) e8 in
    let s = row_free r.no_slot 9 (from_10 r) o.1 in
    record { right = state.0; waits = w.0; mid = m.0; orb = o.0; slot = s.0 }

pub allowed : (action : Action) (s : InitiatorState) → refusal action (facts_with true s action) ≡ None → Allowed action s
unfolding refusal
allowed action s e =
    let facts = facts_with true s action in
    let n = no_row (rows_of action facts) e in
    let waits = or_free ((is_some (operation_of action) && is_some facts.under_way) || (ends_list (operation_of action) && facts.is_pointing)) (is_list_step action && ends_list facts.under_way) n.waits in
    let own_wait = or_free (is_some (operation_of action) && is_some facts.under_way) (ends_list (operation_of action) && facts.is_pointing) waits.0 in
    record {
      free = free_as (operation_of action) s own_wait.0;
      prepares = λ p. prepare_free (is_mid_link s.lists.slots.present) (lowest s.lists.slots.slots) (and_free (prepares action) (is_mid_link s.lists.slots.present) n.mid p) (not_free (is_some (lowest s.lists.slots.slots)) (and_free (prepares action) (not (is_some (lowest s.lists.slots.slots))) n.slot p));
      rings = λ r. not_free (is_some s.lists.slots.present) (sym (ring_row action facts r) ∙ n.orb);
      session = not_free (fits_session action facts.session) n.right;
      closes = λ c. and_free (ends_list (operation_of action)) facts.is_pointing own_wait.1 c;
      steps = λ c. and_free (is_list_step action) (ends_list facts.under_way) waits.1 c;
    }
