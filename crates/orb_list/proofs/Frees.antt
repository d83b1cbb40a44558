-- When a slot is free, by the notes.
use Rattle.std.proofs.Common.{arith, ◌≡◌, refl, sym, ◌∙◌, ap, subst, ℕ, ◌+◌, ◌<◌, ◌≤◌, ◌==◌, ◌&&◌, ◌||◌, not, nat_eq, nat_lt, Bool, true, false, cond, List, [], ◌∷◌, length, map, slice_set, max, Option, Some, None, Result, Ok, Err}
use Rattle.std.proofs.Math.ListN.{length-set}
use Rattle.std.proofs.lemmas.Bool.Decides.{nat_tests}
use Rattle.std.proofs.lemmas.List.{get_or-map}
use Rattle.std.proofs.lemmas.List.Quantifiers.{position-Some}
use Rattle.std.specs.Prelude.{unwrap_or}
use Rattle.bus_memory.specs.Windows.{slot_of}
use Rattle.bus_memory.specs.Memory.{Memory}
use Rattle.bus_memory.proofs.Written.{replicated}
use Rattle.orb_layout.specs.declared.status.StatusBlock.{StatusBlock}
use Rattle.orb_layout.specs.StatusBlocks.{row_of}
use Rattle.orb_list.specs.declared.fault.ListFault.{ListFault}
use Rattle.orb_list.specs.declared.fault.ListFault.TheVariants as faults
use Rattle.orb_list.specs.declared.list.Link.{Link}
use Rattle.orb_list.specs.declared.list.Link.TheVariants as links
use Rattle.orb_list.specs.declared.list.PresentList.{PresentList}
use Rattle.orb_list.specs.declared.slot.SlotState.{SlotState}
use Rattle.orb_list.specs.declared.slot.SlotState.TheVariants as states
use Rattle.orb_list.specs.declared.slot.Slot.{Slot}
use Rattle.orb_list.specs.Tickets.{TicketParts, is_ticket}
use Rattle.orb_list.specs.Requests.{Asked}
use Rattle.orb_list.specs.Table as table
use Rattle.orb_list.specs.Table.{SlotTable, unused, slot_in, free_state, is_free, is_done, next_is_linked, is_pinned, over_for, over_in, is_over, released, freed, rested, state_after, extended, list_number, orb_number, lists_begun, next_ticket, may_prepare, is_mid_link, free_slot, lowest, link_set, with_link, low_in, high_in, low_for, high_for, waits_low, waits_high, passed_for, waits_in, waiting, is_the, is_present}
use Rattle.orb_list.specs.Runs.{Call, Prepare, LinkLow, LinkHigh, MakeDummy, TakeStatus, DropList, FreeAll, Pin, Unpin, TryWrite, Fill, SetQuad, Note, Prepared, LowWritten, Linked, Dummied, Taken, Dropped, Freed, Pinned, Unpinned, if_ok, if_some, left_by, noted_by, run}
use Rattle.orb_list.specs.Frees.{prepared_in, status_of, is_linked, is_passed, pinned_by, dropped_at, over_by, is_over_by, free_by, IsLonePin, PinsAlone, FreeLaw}
use Rattle.orb_list.proofs.Tied.{Tied, same_ticket, ticket_itself, set_here, set_there, may_lowest, past_slots, tied_run, waits_last, free_waits, rested_last}
use Rattle.orb_list.proofs.Imaged.{is_the_some, checked_waits}

-- What the notes say of the ORB that was prepared last in a slot.
pub record Ended (ns : List Note) (t : TicketParts) (had_next : Bool) : Type 0 where
  pub block : StatusBlock
  pub is : status_of ns t ≡ Some block
  pub resp : ((row_of block.kind).resp == 0) ≡ true
  pub src : had_next ≡ (block.src == 0)

pub record Failed (ns : List Note) (t : TicketParts) : Type 0 where
  pub block : StatusBlock
  pub is : status_of ns t ≡ Some block
  pub resp : ((row_of block.kind).resp == 0) ≡ false

abbrev pub StateFits : List Note → TicketParts → SlotState → Type 0
StateFits ns t states.Free = is_over_by ns t ≡ true
StateFits ns t states.Waiting = status_of ns t ≡ None
StateFits ns t (states.Taken had_next) = Ended ns t had_next
StateFits ns t states.Resting = Failed ns t

abbrev pub Settled : SlotState → Type 0
Settled states.Free = Unit {0}
Settled states.Waiting = ⊥
Settled (states.Taken had_next) = ⊥
Settled states.Resting = Unit {0}

abbrev pub IsOf : Option PresentList → TicketParts → Type 0
IsOf None t = ⊥
IsOf (Some list) t = list.tail.list ≡ t.list

abbrev pub PlaceFits : Option PresentList → List Note → TicketParts → SlotState → Option (List Note) → Type 0
PlaceFits present ns t state None = IsOf present t × StateFits ns t state
PlaceFits present ns t state (Some before) = Settled state × (free_state state ≡ is_over_by before t)

pub record OrbFits (present : Option PresentList) (lists calls : ℕ) (ns : List Note) (t : TicketParts) (slot : Slot) : Type 0 where
  pub last : slot.last ≡ Some t
  pub list : t.list < lists
  pub serial : t.serial < calls
  pub fits : PlaceFits present ns t slot.state (dropped_at ns t.list)

abbrev pub SlotFits : Option PresentList → ℕ → ℕ → List Note → Option TicketParts → Slot → Type 0
SlotFits present lists calls ns None slot = is_free slot ≡ true
SlotFits present lists calls ns (Some t) slot = OrbFits present lists calls ns t slot

-- What they say of the present list, and of lists and ORBs that are to come.
pub record ListIs (list : PresentList) (lists : ℕ) (ns : List Note) : Type 0 where
  pub below : list.tail.list < lists
  pub open_yet : dropped_at ns list.tail.list ≡ None
  pub linked : (n : ℕ) → next_is_linked list n ≡ is_linked ns list.tail.list (n + 1)
  pub passed : (n : ℕ) → nat_lt n list.passed ≡ is_passed ns list.tail.list n

abbrev pub PresentIs : Option PresentList → ℕ → List Note → Type 0
PresentIs None lists ns = Unit {0}
PresentIs (Some list) lists ns = ListIs list lists ns

pub record Unseen (lists calls : ℕ) (ns : List Note) : Type 0 where
  pub link : (list number : ℕ) → lists ≤ list → is_linked ns list number ≡ false
  pub pass : (list number : ℕ) → lists ≤ list → is_passed ns list number ≡ false
  pub drop : (list : ℕ) → lists ≤ list → dropped_at ns list ≡ None
  pub status : (t : TicketParts) → calls ≤ t.serial → status_of ns t ≡ None

abbrev pub Fits : Option PresentList → ℕ → ℕ → List Note → List Slot → Type 0
Fits present lists calls ns slots = (k : ℕ) → k < 32 → SlotFits present lists calls ns (prepared_in ns k) (slot_in slots k)

pub record Loose (s : SlotTable) (ns : List Note) : Type 0 where
  pub pinned : s.pinned ≡ pinned_by ns
  pub unseen : Unseen s.lists s.calls ns
  pub present : PresentIs s.present s.lists ns
  pub slots : Fits s.present s.lists s.calls ns s.slots

-- No ORB that is over keeps its slot.
abbrev pub over_now : Option PresentList → Option TicketParts → Slot → Bool
over_now None pinned slot = false
over_now (Some list) pinned slot = is_over list pinned slot

abbrev pub Swept : SlotTable → Type 0
Swept s = (k : ℕ) → k < 32 → over_now s.present s.pinned (slot_in s.slots k) ≡ false

-- The rule of the slots is that of the notes.
same_rule : (r a b c d e f q : Bool) → r ≡ true → a ≡ b → c ≡ d → e ≡ f → r && a && (c || e) && q ≡ b && (d || f) && q
same_rule true a b c d e f q x y z w = cc
same_rule false a b c d e f q x y z w = cc

over_same : (list : PresentList) (lists : ℕ) (ns : List Note) (pinned : Option TicketParts) (t : TicketParts) (had_next : Bool) → ListIs list lists ns → pinned ≡ pinned_by ns → list.tail.list ≡ t.list → Ended ns t had_next → is_over_by ns t ≡ over_for list pinned had_next (Some t)
over_same list lists ns pinned t had_next l p o e =
    ap (λ (found : Option StatusBlock). over_by found ns t) e.is
    ∙ ap (λ (q : Option TicketParts). ((row_of e.block.kind).resp == 0) && is_linked ns t.list (t.number + 1) && ((e.block.src == 0) || is_passed ns t.list t.number) && not (is_pinned q t)) (sym p)
    ∙ same_rule ((row_of e.block.kind).resp == 0) (is_linked ns t.list (t.number + 1)) (next_is_linked list t.number) (e.block.src == 0) had_next (is_passed ns t.list t.number) (nat_lt t.number list.passed) (not (is_pinned pinned t))
    e.resp
    (sym (l.linked t.number ∙ ap (λ (n : ℕ). is_linked ns n (t.number + 1)) o))
    (sym e.src)
    (sym (l.passed t.number ∙ ap (λ (n : ℕ). is_passed ns n t.number) o))

over_place : (list : PresentList) (lists : ℕ) (ns : List Note) (pinned : Option TicketParts) (t : TicketParts) (state : SlotState) (dropped : Option (List Note)) → ListIs list lists ns → pinned ≡ pinned_by ns → over_in list pinned state (Some t) ≡ true → PlaceFits (Some list) ns t state dropped → PlaceFits (Some list) ns t states.Free dropped
over_place list lists ns pinned t states.Free dropped l p e f = f
over_place list lists ns pinned t states.Waiting dropped l p e f = cc
over_place list lists ns pinned t states.Resting dropped l p e f = cc
over_place list lists ns pinned t (states.Taken h) (Some before) l p e f = absurd f.0
over_place list lists ns pinned t (states.Taken h) None l p e f = (f.0, over_same list lists ns pinned t h l p f.0 f.1 ∙ e)

over_fits : (list : PresentList) (lists calls : ℕ) (ns : List Note) (pinned : Option TicketParts) (found : Option TicketParts) (slot : Slot) (b : Bool) → is_over list pinned slot ≡ b → ListIs list lists ns → pinned ≡ pinned_by ns → SlotFits (Some list) lists calls ns found slot → SlotFits (Some list) lists calls ns found (cond b (freed slot) slot)
over_fits list lists calls ns pinned found slot false e l p f = f
over_fits list lists calls ns pinned None slot true e l p f = refl
over_fits list lists calls ns pinned (Some t) slot true e l p f =
    let over : over_in list pinned slot.state (Some t) ≡ true = ap (λ (u : Option TicketParts). over_in list pinned slot.state u) (sym f.last) ∙ e in
    record { last = f.last; list = f.list; serial = f.serial; fits = over_place list lists ns pinned t slot.state (dropped_at ns t.list) l p over f.fits }

released_fits : (present : Option PresentList) (lists calls : ℕ) (ns : List Note) (pinned : Option TicketParts) (found : Option TicketParts) (slot : Slot) → PresentIs present lists ns → pinned ≡ pinned_by ns → SlotFits present lists calls ns found slot → SlotFits present lists calls ns found (released present pinned slot)
unfolding released
released_fits None lists calls ns pinned found slot l p f = f
released_fits (Some list) lists calls ns pinned found slot l p f = over_fits list lists calls ns pinned found slot (is_over list pinned slot) refl l p f

over_gone : (list : PresentList) (pinned : Option TicketParts) (slot : Slot) (b : Bool) → is_over list pinned slot ≡ b → is_over list pinned (cond b (freed slot) slot) ≡ false
over_gone list pinned slot true e = refl
over_gone list pinned slot false e = e

released_over : (present : Option PresentList) (pinned : Option TicketParts) (slot : Slot) → over_now present pinned (released present pinned slot) ≡ false
unfolding released
released_over None pinned slot = refl
released_over (Some list) pinned slot = over_gone list pinned slot (is_over list pinned slot) refl

pub record Exact (s : SlotTable) (ns : List Note) : Type 0 where
  pub loose : Loose s ns
  pub swept : Swept s

map_at : (f : Slot → Slot) (slots : List Slot) (k : ℕ) → length slots ≡ 32 → k < 32 → slot_in (map f slots) k ≡ f (slot_in slots k)
map_at f slots k l b = get_or-map f slots k unused unused (omega arith)

exact_swept : (s : SlotTable) (ns : List Note) → length s.slots ≡ 32 → Loose s ns → Exact (table.swept s) ns
exact_swept s ns l i = record {
  loose = record {
    pinned = i.pinned;
    unseen = i.unseen;
    present = i.present;
    slots = λ k b.
        subst (λ (x : Slot). SlotFits s.present s.lists s.calls ns (prepared_in ns k) x) (sym (map_at (released s.present s.pinned) s.slots k l b))
        (released_fits s.present s.lists s.calls ns s.pinned (prepared_in ns k) (slot_in s.slots k) i.present i.pinned (i.slots k b));
  };
  swept = λ k b. ap (λ (x : Slot). over_now s.present s.pinned x) (map_at (released s.present s.pinned) s.slots k l b) ∙ released_over s.present s.pinned (slot_in s.slots k);
}

-- What a note keeps.
state_keeps : (ns ms : List Note) (t : TicketParts) (state : SlotState) → status_of ms t ≡ status_of ns t → (is_over_by ns t ≡ true → is_over_by ms t ≡ true) → StateFits ns t state → StateFits ms t state
state_keeps ns ms t states.Free e o f = o f
state_keeps ns ms t states.Waiting e o f = e ∙ f
state_keeps ns ms t (states.Taken h) e o f = record { block = f.block; is = e ∙ f.is; resp = f.resp; src = f.src }
state_keeps ns ms t states.Resting e o f = record { block = f.block; is = e ∙ f.is; resp = f.resp }

place_keeps : (p q : Option PresentList) (ns ms : List Note) (t : TicketParts) (state : SlotState) (dropped : Option (List Note)) → (IsOf p t → IsOf q t) → (StateFits ns t state → StateFits ms t state) → PlaceFits p ns t state dropped → PlaceFits q ms t state dropped
place_keeps p q ns ms t state None g h f = (g f.0, h f.1)
place_keeps p q ns ms t state (Some before) g h f = f

slot_keeps : (p q : Option PresentList) (lists more calls later : ℕ) (ns ms : List Note) (found : Option TicketParts) (slot : Slot) → lists ≤ more → calls ≤ later → ((n : ℕ) → dropped_at ms n ≡ dropped_at ns n) → ((t : TicketParts) → IsOf p t → IsOf q t) → ((t : TicketParts) → slot.last ≡ Some t → StateFits ns t slot.state → StateFits ms t slot.state) → SlotFits p lists calls ns found slot → SlotFits q more later ms found slot
slot_keeps p q lists more calls later ns ms None slot a b d g h f = f
slot_keeps p q lists more calls later ns ms (Some t) slot a b d g h f =
    let l = f.list in
    let s = f.serial in
    record {
      last = f.last;
      list = omega arith;
      serial = omega arith;
      fits = subst (λ (x : Option (List Note)). PlaceFits q ms t slot.state x) (sym (d t.list)) (place_keeps p q ns ms t slot.state (dropped_at ns t.list) (g t) (h t f.last) f.fits);
    }

-- Where more is linked, more statuses are taken and nothing more is pinned, what is over stays over.
more_over : (r a b c d e p q : Bool) → (a ≡ true → b ≡ true) → (d ≡ true → e ≡ true) → (p ≡ false → q ≡ false) → r && a && (c || d) && not p ≡ true → r && b && (c || e) && not q ≡ true
more_over true true b true d e false q f g h i = let x = f refl in let y = h refl in rw (x, y) refl
more_over true true b false true e false q f g h i = let x = f refl in let y = g refl in let z = h refl in rw (x, y, z) refl
more_over true true b false false e p q f g h i = cc
more_over true true b true d e true q f g h i = cc
more_over true true b false true e true q f g h i = cc
more_over true false b c d e p q f g h i = cc
more_over false a b c d e p q f g h i = cc

over_by_more : (found : Option StatusBlock) (ns ms : List Note) (t : TicketParts) → (is_linked ns t.list (t.number + 1) ≡ true → is_linked ms t.list (t.number + 1) ≡ true) → (is_passed ns t.list t.number ≡ true → is_passed ms t.list t.number ≡ true) → (is_pinned (pinned_by ns) t ≡ false → is_pinned (pinned_by ms) t ≡ false) → over_by found ns t ≡ true → over_by found ms t ≡ true
over_by_more None ns ms t f g h i = cc
over_by_more (Some block) ns ms t f g h i =
    more_over ((row_of block.kind).resp == 0) (is_linked ns t.list (t.number + 1)) (is_linked ms t.list (t.number + 1)) (block.src == 0) (is_passed ns t.list t.number) (is_passed ms t.list t.number) (is_pinned (pinned_by ns) t) (is_pinned (pinned_by ms) t) f g h i

pub over_more : (ns ms : List Note) (t : TicketParts) → status_of ms t ≡ status_of ns t → (is_linked ns t.list (t.number + 1) ≡ true → is_linked ms t.list (t.number + 1) ≡ true) → (is_passed ns t.list t.number ≡ true → is_passed ms t.list t.number ≡ true) → (is_pinned (pinned_by ns) t ≡ false → is_pinned (pinned_by ms) t ≡ false) → is_over_by ns t ≡ true → is_over_by ms t ≡ true
over_more ns ms t e f g h i = ap (λ (found : Option StatusBlock). over_by found ms t) e ∙ over_by_more (status_of ns t) ns ms t f g h i

pub or_right : (a b : Bool) → b ≡ true → a || b ≡ true
or_right true b e = refl
or_right false b e = e

-- An ORB is prepared.
abbrev fresh : TicketParts → Slot
fresh t = record { state = states.Waiting; last = Some t }

abbrev now_in : Option PresentList → TicketParts → Option PresentList
now_in present t = Some (extended present t)

lists_grow : (present : Option PresentList) (lists : ℕ) → lists ≤ lists_begun present lists
lists_grow None lists = omega arith
lists_grow (Some list) lists = omega arith

none_below : (n : ℕ) → nat_lt n 0 ≡ false
none_below n = grind (arith, nat_tests)

and_none : (a b : Bool) → b ≡ false → a && (false || b) ≡ false
and_none true b e = e
and_none false b e = refl

link_more : (n tail : ℕ) (b : Bool) → nat_lt n tail ≡ b → nat_lt n (tail + 1) && (false || nat_lt (n + 1) (tail + 1)) ≡ b && true
link_more n tail true e =
    let a : nat_lt n (tail + 1) ≡ true = grind (arith, nat_tests) in
    let c : nat_lt (n + 1) (tail + 1) ≡ true = grind (arith, nat_tests) in
    rw (a, c) refl
link_more n tail false e =
    let c : nat_lt (n + 1) (tail + 1) ≡ false = grind (arith, nat_tests) in
    and_none (nat_lt n (tail + 1)) (nat_lt (n + 1) (tail + 1)) c

next_added : (list : PresentList) (t : TicketParts) (n : ℕ) → is_done list.link ≡ true → t.number ≡ list.tail.number + 1 → next_is_linked (extended (Some list) t) n ≡ next_is_linked list n
next_added list t n d e =
    ap (λ (k : ℕ). nat_lt n k && (false || nat_lt (n + 1) k)) e
    ∙ link_more n list.tail.number (nat_lt n list.tail.number) refl
    ∙ ap (λ (b : Bool). nat_lt n list.tail.number && (b || nat_lt (n + 1) list.tail.number)) (sym d)

present_prepared : (present : Option PresentList) (lists calls : ℕ) (ns : List Note) (t : TicketParts) (asked : Asked) → is_mid_link present ≡ false → t.list ≡ list_number present lists → t.number ≡ orb_number present → Unseen lists calls ns → PresentIs present lists ns → PresentIs (now_in present t) (lists_begun present lists) (Prepared t asked ∷ ns)
present_prepared None lists calls ns t asked d l e u p = record {
  below = omega arith;
  open_yet = u.drop t.list (omega arith);
  linked = λ n. ap (λ (k : ℕ). nat_lt n k && (true || nat_lt (n + 1) k)) e ∙ ap (λ (b : Bool). b && (true || nat_lt (n + 1) 0)) (none_below n) ∙ sym (u.link t.list (n + 1) (omega arith));
  passed = λ n. none_below n ∙ sym (u.pass t.list n (omega arith));
}
present_prepared (Some list) lists calls ns t asked d l e u p =
    let done : is_done list.link ≡ true = grind (arith, nat_tests) in
    let b = p.below in
    record {
      below = omega arith;
      open_yet = ap (λ (n : ℕ). dropped_at ns n) l ∙ p.open_yet;
      linked = λ n. next_added list t n done e ∙ p.linked n ∙ ap (λ (k : ℕ). is_linked ns k (n + 1)) (sym l);
      passed = λ n. p.passed n ∙ ap (λ (k : ℕ). is_passed ns k n) (sym l);
    }

new_tail : (present : Option PresentList) (t : TicketParts) → (extended present t).tail ≡ t
new_tail None t = refl
new_tail (Some list) t = refl

of_prepared : (present : Option PresentList) (lists : ℕ) (t u : TicketParts) → t.list ≡ list_number present lists → IsOf present u → IsOf (now_in present t) u
of_prepared None lists t u l i = absurd i
of_prepared (Some list) lists t u l i = l ∙ i

slot_prepared : (present : Option PresentList) (lists calls : ℕ) (ns : List Note) (slots : List Slot) (t : TicketParts) (asked : Asked) (k : ℕ) (b : Bool) → (k == t.slot) ≡ b → length slots ≡ 32 → t.slot < 32 → t.list ≡ list_number present lists → t.serial ≡ calls → Unseen lists calls ns → PresentIs (now_in present t) (lists_begun present lists) (Prepared t asked ∷ ns) → SlotFits present lists calls ns (prepared_in ns k) (slot_in slots k)
    → SlotFits (now_in present t) (lists_begun present lists) (calls + 1) (Prepared t asked ∷ ns) (cond b (Some t) (prepared_in ns k)) (slot_in (slice_set slots t.slot (fresh t)) k)
slot_prepared present lists calls ns slots t asked k true e z s l c u p f =
    let tail = new_tail present t in
    let below : t.list < lists_begun present lists = subst (λ (u : TicketParts). u.list < lists_begun present lists) tail p.below in
    let still : dropped_at ns t.list ≡ None = ap (λ (u : TicketParts). dropped_at ns u.list) (sym tail) ∙ p.open_yet in
    let new : OrbFits (now_in present t) (lists_begun present lists) (calls + 1) (Prepared t asked ∷ ns) t (fresh t) =
    record {
      last = refl;
      list = below;
      serial = omega arith;
      fits = subst (λ (x : Option (List Note)). PlaceFits (now_in present t) (Prepared t asked ∷ ns) t states.Waiting x) (sym still) (ap (λ (v : TicketParts). v.list) tail, u.status t (omega arith));
    } in
    subst (λ (x : Slot). OrbFits (now_in present t) (lists_begun present lists) (calls + 1) (Prepared t asked ∷ ns) t x) (sym (set_here slots t.slot k (fresh t) e (omega arith))) new
slot_prepared present lists calls ns slots t asked k false e z s l c u p f =
    subst (λ (x : Slot). SlotFits (now_in present t) (lists_begun present lists) (calls + 1) (Prepared t asked ∷ ns) (prepared_in ns k) x) (sym (set_there slots t.slot k (fresh t) e (omega arith)))
    (slot_keeps present (now_in present t) lists (lists_begun present lists) calls (calls + 1) ns (Prepared t asked ∷ ns) (prepared_in ns k) (slot_in slots k) (lists_grow present lists) (omega arith) (λ n. refl) (λ v i. of_prepared present lists t v l i) (λ v e x. state_keeps ns (Prepared t asked ∷ ns) v (slot_in slots k).state refl (over_more ns (Prepared t asked ∷ ns) v refl (λ o. o) (λ o. o) (λ o. o)) x) f)

-- No slot is over without a list, and with one more ORB none is that was not.
settled_over : (list : PresentList) (pinned : Option TicketParts) (state : SlotState) (last : Option TicketParts) → Settled state → over_in list pinned state last ≡ false
settled_over list pinned states.Free last s = refl
settled_over list pinned states.Resting last s = refl
settled_over list pinned states.Waiting last s = absurd s
settled_over list pinned (states.Taken h) last s = absurd s

free_settled : (state : SlotState) → free_state state ≡ true → Settled state
free_settled states.Free e = tt
free_settled states.Resting e = tt
free_settled states.Waiting e = cc
free_settled (states.Taken h) e = cc

place_settled : (ns : List Note) (t : TicketParts) (state : SlotState) (dropped : Option (List Note)) → PlaceFits None ns t state dropped → Settled state
place_settled ns t state None f = absurd f.0
place_settled ns t state (Some before) f = f.0

slot_settled : (lists calls : ℕ) (ns : List Note) (found : Option TicketParts) (slot : Slot) → SlotFits None lists calls ns found slot → Settled slot.state
slot_settled lists calls ns None slot f = free_settled slot.state f
slot_settled lists calls ns (Some t) slot f = place_settled ns t slot.state (dropped_at ns t.list) f.fits

over_lists : (list other : PresentList) (pinned : Option TicketParts) (state : SlotState) (last : Option TicketParts) → ((n : ℕ) → next_is_linked other n ≡ next_is_linked list n) → other.passed ≡ list.passed → over_in other pinned state last ≡ over_in list pinned state last
over_lists list other pinned states.Free last n p = refl
over_lists list other pinned states.Waiting last n p = refl
over_lists list other pinned states.Resting last n p = refl
over_lists list other pinned (states.Taken h) None n p = refl
over_lists list other pinned (states.Taken h) (Some t) n p =
    ap (λ (b : Bool). b && (h || nat_lt t.number other.passed) && not (is_pinned pinned t)) (n t.number)
    ∙ ap (λ (k : ℕ). next_is_linked list t.number && (h || nat_lt t.number k) && not (is_pinned pinned t)) p

prepared_over : (present : Option PresentList) (lists calls : ℕ) (ns : List Note) (pinned : Option TicketParts) (t : TicketParts) (found : Option TicketParts) (slot : Slot) → is_mid_link present ≡ false → t.number ≡ orb_number present → SlotFits present lists calls ns found slot → over_now present pinned slot ≡ false → is_over (extended present t) pinned slot ≡ false
prepared_over None lists calls ns pinned t found slot d n f o = settled_over (extended None t) pinned slot.state slot.last (slot_settled lists calls ns found slot f)
prepared_over (Some list) lists calls ns pinned t found slot d n f o =
    let done : is_done list.link ≡ true = grind (arith, nat_tests) in
    over_lists list (extended (Some list) t) pinned slot.state slot.last (λ k. next_added list t k done n) refl ∙ o

swept_prepared : (present : Option PresentList) (lists calls : ℕ) (ns : List Note) (pinned : Option TicketParts) (slots : List Slot) (t : TicketParts) (k : ℕ) (b : Bool) → nat_eq k t.slot ≡ b → length slots ≡ 32 → t.slot < 32 → is_mid_link present ≡ false → t.number ≡ orb_number present → SlotFits present lists calls ns (prepared_in ns k) (slot_in slots k) → over_now present pinned (slot_in slots k) ≡ false → is_over (extended present t) pinned (slot_in (slice_set slots t.slot (fresh t)) k) ≡ false
swept_prepared present lists calls ns pinned slots t k true e z s d n f o = ap (λ (x : Slot). is_over (extended present t) pinned x) (set_here slots t.slot k (fresh t) e (omega arith))
swept_prepared present lists calls ns pinned slots t k false e z s d n f o =
    ap (λ (x : Slot). is_over (extended present t) pinned x) (set_there slots t.slot k (fresh t) e (omega arith))
    ∙ prepared_over present lists calls ns pinned t (prepared_in ns k) (slot_in slots k) d n f o

not_mid : (mid : Bool) (found : Option ℕ) (slot : ℕ) → cond mid (Err faults.MidLink) (free_slot found) ≡ Ok slot → mid ≡ false
not_mid true found slot e = cc
not_mid false found slot e = refl

exact_prepare : (s : SlotTable) (m : Memory) (asked : Asked) (ns : List Note) (found : Result ℕ ListFault) → may_prepare s ≡ found → length s.slots ≡ 32 → Exact s ns → Exact (table.prepare_at found s m asked).1.0 (if_ok (λ t. Prepared t asked) (table.prepare_at found s m asked).0 ns)
exact_prepare s m asked ns (Err fault) e z i = i
exact_prepare s m asked ns (Ok slot) e z i =
    let p = position-Some is_free s.slots slot unused (may_lowest s slot e) in
    let l : slot < length s.slots = p.0 in
    let small : slot < 32 = omega arith in
    let t = next_ticket s slot asked.login in
    let d = not_mid (is_mid_link s.present) (lowest s.slots) slot e in
    let u = i.loose.unseen in
    let grow = lists_grow s.present s.lists in
    let present = present_prepared s.present s.lists s.calls ns t asked d refl refl u i.loose.present in
    record {
      loose = record {
        pinned = i.loose.pinned;
        unseen = record {
          link = λ n number h. u.link n number (omega arith);
          pass = λ n number h. u.pass n number (omega arith);
          drop = λ n h. u.drop n (omega arith);
          status = λ v h. u.status v (omega arith);
        };
        present = present;
        slots = λ k b. slot_prepared s.present s.lists s.calls ns s.slots t asked k _ refl z small refl refl u present (i.loose.slots k b);
      };
      swept = λ k b. swept_prepared s.present s.lists s.calls ns s.pinned s.slots t k _ refl z small d refl (i.loose.slots k b) (i.swept k b);
    }

-- Notes that tell of no list's end, of no link and of no status.
record Quiet (ns ms : List Note) : Type 0 where
  link : (list number : ℕ) → is_linked ms list number ≡ is_linked ns list number
  pass : (list number : ℕ) → is_passed ms list number ≡ is_passed ns list number
  drop : (list : ℕ) → dropped_at ms list ≡ dropped_at ns list
  status : (t : TicketParts) → status_of ms t ≡ status_of ns t
  prepared : (k : ℕ) → prepared_in ms k ≡ prepared_in ns k

unseen_quiet : (lists calls later : ℕ) (ns ms : List Note) → calls ≤ later → Quiet ns ms → Unseen lists calls ns → Unseen lists later ms
unseen_quiet lists calls later ns ms c q u = record {
  link = λ n number h. q.link n number ∙ u.link n number h;
  pass = λ n number h. q.pass n number ∙ u.pass n number h;
  drop = λ n h. q.drop n ∙ u.drop n h;
  status = λ t h. q.status t ∙ u.status t (omega arith);
}

present_quiet : (p : Option PresentList) (lists : ℕ) (ns ms : List Note) → Quiet ns ms → PresentIs p lists ns → PresentIs p lists ms
present_quiet None lists ns ms q l = tt
present_quiet (Some list) lists ns ms q l = record {
  below = l.below;
  open_yet = q.drop list.tail.list ∙ l.open_yet;
  linked = λ n. l.linked n ∙ sym (q.link list.tail.list (n + 1));
  passed = λ n. l.passed n ∙ sym (q.pass list.tail.list n);
}

slots_quiet : (p r : Option PresentList) (lists calls later : ℕ) (ns ms : List Note) (slots : List Slot) → calls ≤ later → ((list : ℕ) → dropped_at ms list ≡ dropped_at ns list) → ((k : ℕ) → prepared_in ms k ≡ prepared_in ns k) → ((t : TicketParts) → IsOf p t → IsOf r t) → ((k : ℕ) → k < 32 → (t : TicketParts) → (slot_in slots k).last ≡ Some t → StateFits ns t (slot_in slots k).state → StateFits ms t (slot_in slots k).state) → Fits p lists calls ns slots → Fits r lists later ms slots
slots_quiet p r lists calls later ns ms slots c d n g h f = λ k b.
    subst (λ (found : Option TicketParts). SlotFits r lists later ms found (slot_in slots k)) (sym (n k))
    (slot_keeps p r lists lists calls later ns ms (prepared_in ns k) (slot_in slots k) (omega arith) c d g (h k b) (f k b))

-- A quadlet of a link is written.
of_link : (p : Option PresentList) (link : Link) (t : TicketParts) → IsOf p t → IsOf (link_set p link) t
of_link None link t i = i
of_link (Some list) link t i = i

present_link : (p : Option PresentList) (link : Link) (lists : ℕ) (ns ms : List Note) → ((list : PresentList) → p ≡ Some list → (n : ℕ) → next_is_linked list n ≡ is_linked ns list.tail.list (n + 1) → next_is_linked (record list { link = link }) n ≡ is_linked ms list.tail.list (n + 1)) → ((list number : ℕ) → is_passed ms list number ≡ is_passed ns list number) → ((list : ℕ) → dropped_at ms list ≡ dropped_at ns list) → PresentIs p lists ns → PresentIs (link_set p link) lists ms
present_link None link lists ns ms f g h l = tt
present_link (Some list) link lists ns ms f g h l = record {
  below = l.below;
  open_yet = h list.tail.list ∙ l.open_yet;
  linked = λ n. f list refl n (l.linked n);
  passed = λ n. l.passed n ∙ sym (g list.tail.list n);
}

half_linked : (list : PresentList) (b n : ℕ) → list.link ≡ links.Low b → next_is_linked (record list { link = links.High b }) n ≡ next_is_linked list n
half_linked list b n q = ap (λ (d : Bool). nat_lt n list.tail.number && (d || nat_lt (n + 1) list.tail.number)) (sym (ap is_done q))

same_list : (p : Option PresentList) (list other : PresentList) → p ≡ Some list → p ≡ Some other → list ≡ other
same_list p list other e f = let g : Some list ≡ Some other = sym e ∙ f in cc

half_over : (p : Option PresentList) (list : PresentList) (b : ℕ) (pinned : Option TicketParts) (slot : Slot) → p ≡ Some list → list.link ≡ links.Low b → over_now p pinned slot ≡ false → over_now (link_set p (links.High b)) pinned slot ≡ false
half_over None list b pinned slot e q o = refl
half_over (Some other) list b pinned slot e q o =
    let f : other.link ≡ links.Low b = ap (λ (l : PresentList). l.link) (same_list (Some other) other list refl e) ∙ q in
    over_lists other (record other { link = links.High b }) pinned slot.state slot.last (λ n. half_linked other b n f) refl ∙ o

exact_low_in : (s : SlotTable) (m : Memory) (ns : List Note) (list : PresentList) (link : Link) → s.present ≡ Some list → list.link ≡ link → Exact s ns → Exact (low_for (low_in link list.tail) s m).1.0 (if_some (λ linking. LowWritten linking.before linking.tail) (low_in link list.tail) ns)
exact_low_in s m ns list links.Done p q i = i
exact_low_in s m ns list (links.High b) p q i = i
exact_low_in s m ns list (links.Low b) p q i =
    let ms = LowWritten b list.tail ∷ ns in
    let quiet : Quiet ns ms = record { link = λ l n. refl; pass = λ l n. refl; drop = λ l. refl; status = λ t. refl; prepared = λ k. refl } in
    record {
      loose = record {
        pinned = i.loose.pinned;
        unseen = unseen_quiet s.lists s.calls (s.calls + 1) ns ms (omega arith) quiet i.loose.unseen;
        present = present_link s.present (links.High b) s.lists ns ms
            (λ other e n l. half_linked other b n (ap (λ (x : PresentList). x.link) (same_list s.present other list e p) ∙ q) ∙ l)
            (λ l n. refl) (λ l. refl) i.loose.present;
        slots = slots_quiet s.present (link_set s.present (links.High b)) s.lists s.calls (s.calls + 1) ns ms s.slots (omega arith) (λ l. refl) (λ k. refl) (of_link s.present (links.High b))
            (λ k c t e f. state_keeps ns ms t (slot_in s.slots k).state refl (over_more ns ms t refl (λ o. o) (λ o. o) (λ o. o)) f) i.loose.slots;
      };
      swept = λ k c. half_over s.present list b s.pinned (slot_in s.slots k) p q (i.swept k c);
    }

linked_when : (n tail : ℕ) (a b c : Bool) → nat_lt n tail ≡ a → nat_lt (n + 1) tail ≡ b → (tail == n + 1) ≡ c → a && true ≡ c || (a && (false || b))
linked_when n tail true true c e f g = sym (or_right c true refl)
linked_when n tail true false true e f g = refl
linked_when n tail true false false e f g = absurd (grind (arith, nat_tests))
linked_when n tail false b false e f g = refl
linked_when n tail false b true e f g = absurd (grind (arith, nat_tests))

itself : (n : ℕ) → (n == n) ≡ true
itself n = grind (arith, nat_tests)

whole_linked : (list : PresentList) (ns : List Note) (before b n : ℕ) → list.link ≡ links.High b → next_is_linked list n ≡ is_linked ns list.tail.list (n + 1) → next_is_linked (record list { link = links.Done }) n ≡ is_linked (Linked before list.tail ∷ ns) list.tail.list (n + 1)
whole_linked list ns before b n q l =
    linked_when n list.tail.number _ _ _ refl refl refl
    ∙ ap (λ (d : Bool). (list.tail.number == n + 1) || (nat_lt n list.tail.number && (d || nat_lt (n + 1) list.tail.number))) (sym (ap is_done q))
    ∙ ap (λ (x : Bool). (list.tail.number == n + 1) || x) l
    ∙ ap (λ (x : Bool). (x && (list.tail.number == n + 1)) || is_linked ns list.tail.list (n + 1)) (sym (itself list.tail.list))

exact_high_in : (s : SlotTable) (m : Memory) (ns : List Note) (list : PresentList) (link : Link) → length s.slots ≡ 32 → s.present ≡ Some list → list.link ≡ link → Exact s ns → Exact (high_for (high_in link list.tail) s m).1.0 (if_some (λ linking. Linked linking.before linking.tail) (high_in link list.tail) ns)
exact_high_in s m ns list links.Done z p q i = i
exact_high_in s m ns list (links.Low b) z p q i = i
exact_high_in s m ns list (links.High b) z p q i =
    let ms = Linked b list.tail ∷ ns in
    let u = i.loose.unseen in
    let l : ListIs list s.lists ns = subst (λ (x : Option PresentList). PresentIs x s.lists ns) p i.loose.present in
    let below = l.below in
    exact_swept (with_link s links.Done) ms z (record {
      pinned = i.loose.pinned;
      unseen = record {
        link = λ n number h. let d : (list.tail.list == n) ≡ false = grind (arith, nat_tests) in rw d (u.link n number h);
        pass = u.pass;
        drop = u.drop;
        status = λ t h. u.status t (omega arith);
      };
      present = present_link s.present links.Done s.lists ns ms
          (λ other e n x.
          let same = same_list s.present list other p e in
          subst (λ (y : PresentList). next_is_linked (record y { link = links.Done }) n ≡ is_linked ms y.tail.list (n + 1)) same
          (whole_linked list ns b b n q (l.linked n)))
          (λ l n. refl) (λ l. refl) i.loose.present;
      slots = slots_quiet s.present (link_set s.present links.Done) s.lists s.calls (s.calls + 1) ns ms s.slots (omega arith) (λ l. refl) (λ k. refl) (of_link s.present links.Done)
          (λ k c t e f. state_keeps ns ms t (slot_in s.slots k).state refl (over_more ns ms t refl (λ o. or_right ((list.tail.list == t.list) && (list.tail.number == t.number + 1)) (is_linked ns t.list (t.number + 1)) o) (λ o. o) (λ o. o)) f) i.loose.slots;
    })

exact_low : (s : SlotTable) (m : Memory) (ns : List Note) (present : Option PresentList) → s.present ≡ present → Exact s ns → Exact (low_for (waits_low present) s m).1.0 (if_some (λ linking. LowWritten linking.before linking.tail) (waits_low present) ns)
exact_low s m ns None p i = i
exact_low s m ns (Some list) p i = exact_low_in s m ns list list.link p refl i

exact_high : (s : SlotTable) (m : Memory) (ns : List Note) (present : Option PresentList) → length s.slots ≡ 32 → s.present ≡ present → Exact s ns → Exact (high_for (waits_high present) s m).1.0 (if_some (λ linking. Linked linking.before linking.tail) (waits_high present) ns)
exact_high s m ns None z p i = i
exact_high s m ns (Some list) z p i = exact_high_in s m ns list list.link z p refl i

-- An ORB becomes a dummy.
exact_dummy : (s : SlotTable) (m : Memory) (t : TicketParts) (ns : List Note) (found : Result (Unit {0}) ListFault) → Exact s ns → Exact (table.dummy_at found s m t).1.0 (if_ok (λ done. Dummied t) (table.dummy_at found s m t).0 ns)
exact_dummy s m t ns (Err fault) i = i
exact_dummy s m t ns (Ok done) i =
    let ms = Dummied t ∷ ns in
    let quiet : Quiet ns ms = record { link = λ l n. refl; pass = λ l n. refl; drop = λ l. refl; status = λ t. refl; prepared = λ k. refl } in
    record {
      loose = record {
        pinned = i.loose.pinned;
        unseen = unseen_quiet s.lists s.calls (s.calls + 1) ns ms (omega arith) quiet i.loose.unseen;
        present = present_quiet s.present s.lists ns ms quiet i.loose.present;
        slots = slots_quiet s.present s.present s.lists s.calls (s.calls + 1) ns ms s.slots (omega arith) (λ l. refl) (λ k. refl) (λ v o. o)
            (λ k c v e f. state_keeps ns ms v (slot_in s.slots k).state refl (over_more ns ms v refl (λ o. o) (λ o. o) (λ o. o)) f) i.loose.slots;
      };
      swept = i.swept;
    }

-- A status is taken.
place_waits : (p : Option PresentList) (ns : List Note) (t : TicketParts) (u : TicketParts) (state : SlotState) (last : Option TicketParts) (dropped : Option (List Note)) → waits_in state last ≡ Some u → PlaceFits p ns t state dropped → IsOf p t
place_waits p ns t u states.Waiting last None w f = f.0
place_waits p ns t u states.Waiting last (Some before) w f = absurd f.0
place_waits p ns t u states.Free last dropped w f = cc
place_waits p ns t u (states.Taken h) last dropped w f = cc
place_waits p ns t u states.Resting last dropped w f = cc

place_taken : (p q : Option PresentList) (ns ms : List Note) (t u : TicketParts) (state after : SlotState) (last : Option TicketParts) (dropped : Option (List Note)) → waits_in state last ≡ Some u → (IsOf p t → IsOf q t) → StateFits ms t after → PlaceFits p ns t state dropped → PlaceFits q ms t after dropped
place_taken p q ns ms t u states.Waiting after last None w g n f = (g f.0, n)
place_taken p q ns ms t u states.Waiting after last (Some before) w g n f = absurd f.0
place_taken p q ns ms t u states.Free after last dropped w g n f = cc
place_taken p q ns ms t u (states.Taken h) after last dropped w g n f = cc
place_taken p q ns ms t u states.Resting after last dropped w g n f = cc

-- The ORB that waits in a slot is the one that was prepared there last.
pub record WaitsHere (p : Option PresentList) (lists calls : ℕ) (ns : List Note) (found : Option TicketParts) (slot : Slot) (t : TicketParts) : Type 0 where
  pub is : found ≡ Some t
  pub of_list : IsOf p t
  pub list : t.list < lists
  pub serial : t.serial < calls

pub waits_here : (p : Option PresentList) (lists calls : ℕ) (ns : List Note) (found : Option TicketParts) (slot : Slot) (t : TicketParts) → waiting slot ≡ Some t → SlotFits p lists calls ns found slot → WaitsHere p lists calls ns found slot t
waits_here p lists calls ns None slot t w f = absurd (free_waits slot t f w)
waits_here p lists calls ns (Some v) slot t w f =
    let e : Some v ≡ Some t = sym f.last ∙ waits_last slot t w in
    let g : v ≡ t = cc in
    let o = place_waits p ns v t slot.state slot.last (dropped_at ns v.list) w f.fits in
    record {
      is = e;
      of_list = subst (λ (x : TicketParts). IsOf p x) g o;
      list = subst (λ (x : TicketParts). x.list < lists) g f.list;
      serial = subst (λ (x : TicketParts). x.serial < calls) g f.serial;
    }

of_passed : (p : Option PresentList) (number : ℕ) (t : TicketParts) → IsOf p t → IsOf (passed_for p number) t
of_passed None number t i = i
of_passed (Some list) number t i = i

below_when : (n a b : ℕ) (c d : Bool) → nat_lt n b ≡ c → nat_lt n a ≡ d → nat_lt n (max a b) ≡ c || d
below_when n a b true d e f = grind (arith, nat_tests)
below_when n a b false true e f = grind (arith, nat_tests)
below_when n a b false false e f = grind (arith, nat_tests)

and_last : (a b : Bool) → b ≡ false → a && b ≡ false
and_last true b e = e
and_last false b e = refl

below_max : (n a b : ℕ) → nat_lt n (max a b) ≡ nat_lt n b || nat_lt n a
below_max n a b = below_when n a b _ _ refl refl

present_taken : (p : Option PresentList) (lists : ℕ) (ns : List Note) (t : TicketParts) (block : StatusBlock) → IsOf p t → PresentIs p lists ns → PresentIs (passed_for p t.number) lists (Taken t block ∷ ns)
present_taken None lists ns t block o l = tt
present_taken (Some list) lists ns t block o l =
    let same : (t.list == list.tail.list) ≡ true = let e : list.tail.list ≡ t.list = o in grind (arith, nat_tests) in
    record {
      below = l.below;
      open_yet = l.open_yet;
      linked = l.linked;
      passed = λ n.
          below_max n list.passed t.number
          ∙ ap (λ (x : Bool). nat_lt n t.number || x) (l.passed n)
          ∙ ap (λ (x : Bool). (x && nat_lt n t.number) || is_passed ns list.tail.list n) (sym same);
    }

status_here : (ns : List Note) (t : TicketParts) (block : StatusBlock) → status_of (Taken t block ∷ ns) t ≡ Some block
status_here ns t block = ap (λ (b : Bool). cond b (Some block) (status_of ns t)) (ticket_itself t)

taken_state : (ns : List Note) (t : TicketParts) (block : StatusBlock) (r : Bool) → ((row_of block.kind).resp == 0) ≡ r → StateFits (Taken t block ∷ ns) t (cond r (states.Taken (block.src == 0)) states.Resting)
taken_state ns t block true e = record { block = block; is = status_here ns t block; resp = e; src = refl }
taken_state ns t block false e = record { block = block; is = status_here ns t block; resp = e }

status_other : (ns : List Note) (t v : TicketParts) (block : StatusBlock) → is_ticket t v ≡ false → status_of (Taken t block ∷ ns) v ≡ status_of ns v
status_other ns t v block e = ap (λ (b : Bool). cond b (Some block) (status_of ns v)) e

slot_taken : (p : Option PresentList) (lists calls : ℕ) (ns : List Note) (slots : List Slot) (number : ℕ) (t : TicketParts) (block : StatusBlock) (k : ℕ) (b : Bool) → nat_eq k number ≡ b → k < 32 → number < 32 → Tied slots ns → waiting (slot_in slots number) ≡ Some t → WaitsHere p lists calls ns (prepared_in ns number) (slot_in slots number) t → SlotFits p lists calls ns (prepared_in ns k) (slot_in slots k)
    → SlotFits (passed_for p t.number) lists (calls + 1) (Taken t block ∷ ns) (prepared_in ns k) (slot_in (slice_set slots number (record (slot_in slots number) { state = state_after block })) k)
slot_taken p lists calls ns slots number t block k true e c small tied w h f =
    let z = tied.size in
    let n : k ≡ number = grind (arith, nat_tests) in
    let found : prepared_in ns k ≡ Some t = ap (λ (j : ℕ). prepared_in ns j) n ∙ h.is in
    let here : OrbFits p lists calls ns t (slot_in slots number) =
    subst (λ (j : ℕ). OrbFits p lists calls ns t (slot_in slots j)) n (subst (λ (x : Option TicketParts). SlotFits p lists calls ns x (slot_in slots k)) found f) in
    let serial = here.serial in
    let new : OrbFits (passed_for p t.number) lists (calls + 1) (Taken t block ∷ ns) t (record (slot_in slots number) { state = state_after block }) =
    record {
      last = here.last;
      list = here.list;
      serial = omega arith;
      fits = place_taken p (passed_for p t.number) ns (Taken t block ∷ ns) t t (slot_in slots number).state (state_after block) (slot_in slots number).last (dropped_at ns t.list) w (of_passed p t.number t) (taken_state ns t block ((row_of block.kind).resp == 0) refl) here.fits;
    } in
    subst (λ (x : Option TicketParts). SlotFits (passed_for p t.number) lists (calls + 1) (Taken t block ∷ ns) x (slot_in (slice_set slots number (record (slot_in slots number) { state = state_after block })) k)) (sym found)
    (subst (λ (x : Slot). OrbFits (passed_for p t.number) lists (calls + 1) (Taken t block ∷ ns) t x) (sym (set_here slots number k (record (slot_in slots number) { state = state_after block }) e (omega arith))) new)
slot_taken p lists calls ns slots number t block k false e c small tied w h f =
    let z = tied.size in
    let ms = Taken t block ∷ ns in
    let own = tied.index number t small (waits_last (slot_in slots number) t w) in
    subst (λ (x : Slot). SlotFits (passed_for p t.number) lists (calls + 1) ms (prepared_in ns k) x) (sym (set_there slots number k (record (slot_in slots number) { state = state_after block }) e (omega arith)))
    (slot_keeps p (passed_for p t.number) lists lists calls (calls + 1) ns ms (prepared_in ns k) (slot_in slots k) (omega arith) (omega arith) (λ n. refl) (of_passed p t.number)
    (λ v l x.
    let there = tied.index k v c l in
    let d : (t.slot == v.slot) ≡ false = grind (arith, nat_tests) in
    let other : is_ticket t v ≡ false = grind (arith, nat_tests) in
    let same = status_other ns t v block other in
    state_keeps ns ms v (slot_in slots k).state same (over_more ns ms v same (λ o. o) (λ o. or_right ((t.list == v.list) && nat_lt v.number t.number) (is_passed ns v.list v.number) o) (λ o. o)) x)
    f)

exact_status_at : (s : SlotTable) (m : Memory) (block : StatusBlock) (ns : List Note) (number : ℕ) (found : Option TicketParts) → waiting (slot_in s.slots number) ≡ found → Tied s.slots ns → Exact s ns → Exact (table.status_at found number s m block).1.0 (if_ok (λ t. Taken t block) (table.status_at found number s m block).0 ns)
exact_status_at s m block ns number None e tied i = i
exact_status_at s m block ns number (Some t) e tied i =
    let ms = Taken t block ∷ ns in
    let z = tied.size in
    let small = past_slots s.slots number t z e in
    let h = waits_here s.present s.lists s.calls ns (prepared_in ns number) (slot_in s.slots number) t e (i.loose.slots number small) in
    let below = h.list in
    let serial = h.serial in
    let u = i.loose.unseen in
    exact_swept (table.with_status s number t block) ms (length-set s.slots number (record (slot_in s.slots number) { state = state_after block }) ∙ z) (record {
      pinned = i.loose.pinned;
      unseen = record {
        link = u.link;
        pass = λ n k b. let d : (t.list == n) ≡ false = grind (arith, nat_tests) in rw d (u.pass n k b);
        drop = u.drop;
        status = λ v b.
            let d : (t.serial == v.serial) ≡ false = grind (arith, nat_tests) in
            let other : is_ticket t v ≡ false = and_last ((t.login == v.login) && (t.list == v.list) && (t.number == v.number) && (t.slot == v.slot)) (t.serial == v.serial) d in
            status_other ns t v block other ∙ u.status v (omega arith);
      };
      present = present_taken s.present s.lists ns t block h.of_list i.loose.present;
      slots = λ k c. slot_taken s.present s.lists s.calls ns s.slots number t block k _ refl c small tied e h (i.loose.slots k c);
    })

exact_status : (s : SlotTable) (m : Memory) (block : StatusBlock) (ns : List Note) (found : Option ℕ) → Tied s.slots ns → Exact s ns → Exact (table.status_for found s m block).1.0 (if_ok (λ t. Taken t block) (table.status_for found s m block).0 ns)
exact_status s m block ns None tied i = i
exact_status s m block ns (Some number) tied i = exact_status_at s m block ns number (waiting (slot_in s.slots number)) refl tied i

-- A slot is free exactly where its ORB is over.
final_state : (list : PresentList) (lists : ℕ) (ns : List Note) (pinned : Option TicketParts) (t : TicketParts) (state : SlotState) → ListIs list lists ns → pinned ≡ pinned_by ns → list.tail.list ≡ t.list → over_in list pinned state (Some t) ≡ false → StateFits ns t state → free_state state ≡ is_over_by ns t
final_state list lists ns pinned t states.Free l p o e f = sym f
final_state list lists ns pinned t states.Waiting l p o e f = sym (ap (λ (found : Option StatusBlock). over_by found ns t) f)
final_state list lists ns pinned t (states.Taken h) l p o e f = sym (over_same list lists ns pinned t h l p o f ∙ e)
final_state list lists ns pinned t states.Resting l p o e f =
    sym (ap (λ (found : Option StatusBlock). over_by found ns t) f.is
    ∙ ap (λ (r : Bool). r && is_linked ns t.list (t.number + 1) && ((f.block.src == 0) || is_passed ns t.list t.number) && not (is_pinned (pinned_by ns) t)) f.resp)

final_place : (p : Option PresentList) (lists : ℕ) (ns : List Note) (pinned : Option TicketParts) (t : TicketParts) (slot : Slot) (dropped : Option (List Note)) → PresentIs p lists ns → pinned ≡ pinned_by ns → slot.last ≡ Some t → over_now p pinned slot ≡ false → PlaceFits p ns t slot.state dropped → free_state slot.state ≡ is_over_by (unwrap_or dropped ns) t
final_place p lists ns pinned t slot (Some before) l q e o f = f.1
final_place None lists ns pinned t slot None l q e o f = absurd f.0
final_place (Some list) lists ns pinned t slot None l q e o f =
    final_state list lists ns pinned t slot.state l q f.0 (ap (λ (u : Option TicketParts). over_in list pinned slot.state u) (sym e) ∙ o) f.1

pub final_slot : (p : Option PresentList) (lists calls : ℕ) (ns : List Note) (pinned : Option TicketParts) (found : Option TicketParts) (slot : Slot) → PresentIs p lists ns → pinned ≡ pinned_by ns → over_now p pinned slot ≡ false → SlotFits p lists calls ns found slot → is_free slot ≡ free_by ns found
final_slot p lists calls ns pinned None slot l q o f = f
final_slot p lists calls ns pinned (Some t) slot l q o f = final_place p lists ns pinned t slot (dropped_at ns t.list) l q f.last o f.fits

-- A list is dropped.
abbrev resting : Bool → Slot → Slot
resting b slot = cond b slot (record slot { state = states.Resting })

rest_free : (b : Bool) (slot : Slot) → is_free slot ≡ b → is_free (resting b slot) ≡ b
rest_free true slot e = e
rest_free false slot e = refl

rest_settled : (b : Bool) (slot : Slot) → is_free slot ≡ b → Settled (resting b slot).state
rest_settled true slot e = free_settled slot.state e
rest_settled false slot e = tt

place_dropped : (list : PresentList) (lists : ℕ) (ns : List Note) (pinned : Option TicketParts) (t : TicketParts) (slot : Slot) (same : Bool) (dropped : Option (List Note)) → (list.tail.list == t.list) ≡ same → dropped_at ns t.list ≡ dropped → ListIs list lists ns → pinned ≡ pinned_by ns → slot.last ≡ Some t → is_over list pinned slot ≡ false → PlaceFits (Some list) ns t slot.state dropped
    → PlaceFits None (Dropped list.tail.list ∷ ns) t (rested slot).state (cond same (Some ns) dropped)
place_dropped list lists ns pinned t slot true (Some before) d e l q k o f =
    let n : list.tail.list ≡ t.list = grind (arith, nat_tests) in
    let g : dropped_at ns t.list ≡ None = ap (λ (x : ℕ). dropped_at ns x) (sym n) ∙ l.open_yet in
    let c : Some before ≡ None = sym e ∙ g in
    cc
place_dropped list lists ns pinned t slot true None d e l q k o f =
    (rest_settled (is_free slot) slot refl, rest_free (is_free slot) slot refl ∙ final_place (Some list) lists ns pinned t slot None l q k o f)
place_dropped list lists ns pinned t slot false (Some before) d e l q k o f = (rest_settled (is_free slot) slot refl, rest_free (is_free slot) slot refl ∙ f.1)
place_dropped list lists ns pinned t slot false None d e l q k o f = let n : list.tail.list ≡ t.list = f.0 in absurd (grind (arith, nat_tests))

slot_dropped : (list : PresentList) (lists calls : ℕ) (ns : List Note) (pinned : Option TicketParts) (found : Option TicketParts) (slot : Slot) → ListIs list lists ns → pinned ≡ pinned_by ns → is_over list pinned slot ≡ false → SlotFits (Some list) lists calls ns found slot → SlotFits None lists (calls + 1) (Dropped list.tail.list ∷ ns) found (rested slot)
slot_dropped list lists calls ns pinned None slot l q o f = rest_free (is_free slot) slot refl ∙ f
slot_dropped list lists calls ns pinned (Some t) slot l q o f =
    let serial = f.serial in
    record {
      last = rested_last (is_free slot) slot ∙ f.last;
      list = f.list;
      serial = omega arith;
      fits = place_dropped list lists ns pinned t slot (list.tail.list == t.list) (dropped_at ns t.list) refl refl l q f.last o f.fits;
    }

exact_drop : (s : SlotTable) (ns : List Note) (found : Option PresentList) → s.present ≡ found → length s.slots ≡ 32 → Exact s ns → Exact (table.drop_for found s).1 (if_some (λ number. Dropped number) (table.drop_for found s).0 ns)
exact_drop s ns None p z i = i
exact_drop s ns (Some list) p z i =
    let ms = Dropped list.tail.list ∷ ns in
    let u = i.loose.unseen in
    let l : ListIs list s.lists ns = subst (λ (x : Option PresentList). PresentIs x s.lists ns) p i.loose.present in
    let below = l.below in
    record {
      loose = record {
        pinned = i.loose.pinned;
        unseen = record {
          link = u.link;
          pass = u.pass;
          drop = λ n h. let d : (list.tail.list == n) ≡ false = grind (arith, nat_tests) in rw d (u.drop n h);
          status = λ t h. u.status t (omega arith);
        };
        present = tt;
        slots = λ k b.
            subst (λ (x : Slot). SlotFits None s.lists (s.calls + 1) ms (prepared_in ns k) x) (sym (map_at rested s.slots k z b))
            (slot_dropped list s.lists s.calls ns s.pinned (prepared_in ns k) (slot_in s.slots k) l i.loose.pinned
            (subst (λ (x : Option PresentList). over_now x s.pinned (slot_in s.slots k) ≡ false) p (i.swept k b))
            (subst (λ (x : Option PresentList). SlotFits x s.lists s.calls ns (prepared_in ns k) (slot_in s.slots k)) p (i.loose.slots k b)));
      };
      swept = λ k b. refl;
    }

-- All slots are freed.
exact_freed : (s : SlotTable) (ns : List Note) → length s.slots ≡ 32 → Exact s ns → Exact (table.all_freed s) (Freed ∷ ns)
exact_freed s ns z i =
    let u = i.loose.unseen in
    record {
      loose = record {
        pinned = refl;
        unseen = record { link = u.link; pass = u.pass; drop = u.drop; status = λ t h. u.status t (omega arith) };
        present = tt;
        slots = λ k b. ap (λ (x : Slot). is_free x) (map_at freed s.slots k z b);
      };
      swept = λ k b. refl;
    }

-- The slot of an ORB that waits is pinned.
pin_state : (ns : List Note) (t v u : TicketParts) (state : SlotState) (last : Option TicketParts) → waits_in state last ≡ Some u → StateFits ns v state → StateFits (Pinned t ∷ ns) v state
pin_state ns t v u states.Waiting last w f = f
pin_state ns t v u states.Free last w f = cc
pin_state ns t v u (states.Taken h) last w f = cc
pin_state ns t v u states.Resting last w f = cc

pin_fits : (ns : List Note) (slots : List Slot) (t v u : TicketParts) (k : ℕ) (b : Bool) → is_ticket t v ≡ b → v.slot ≡ k → waiting (slot_in slots t.slot) ≡ Some u → StateFits ns v (slot_in slots k).state → StateFits (Pinned t ∷ ns) v (slot_in slots k).state
pin_fits ns slots t v u k true e n w f =
    let g : t ≡ v = same_ticket t v e in
    let at : t.slot ≡ k = ap (λ (x : TicketParts). x.slot) g ∙ n in
    pin_state ns t v u (slot_in slots k).state (slot_in slots k).last (ap (λ (j : ℕ). waiting (slot_in slots j)) (sym at) ∙ w) f
pin_fits ns slots t v u k false e n w f =
    state_keeps ns (Pinned t ∷ ns) v (slot_in slots k).state refl (over_more ns (Pinned t ∷ ns) v refl (λ o. o) (λ o. o) (λ o. e)) f

and_off : (x q : Bool) → x && true ≡ false → x && q ≡ false
and_off true q e = cc
and_off false q e = refl

pin_over : (list : PresentList) (t : TicketParts) (state : SlotState) (last : Option TicketParts) → over_in list None state last ≡ false → over_in list (Some t) state last ≡ false
pin_over list t states.Free last e = refl
pin_over list t states.Waiting last e = refl
pin_over list t states.Resting last e = refl
pin_over list t (states.Taken h) None e = refl
pin_over list t (states.Taken h) (Some v) e = and_off (next_is_linked list v.number && (h || nat_lt v.number list.passed)) (not (is_ticket t v)) e

pin_now : (p : Option PresentList) (t : TicketParts) (slot : Slot) → over_now p None slot ≡ false → over_now p (Some t) slot ≡ false
pin_now None t slot e = refl
pin_now (Some list) t slot e = pin_over list t slot.state slot.last e

checked_found : (s : SlotTable) (t : TicketParts) → table.checked s t ≡ Ok tt → (u : TicketParts) × (waiting (slot_in s.slots t.slot) ≡ Some u)
unfolding table.checked
checked_found s t e = is_the_some (waiting (slot_in s.slots t.slot)) t (checked_waits (is_present s.present t) (is_the (waiting (slot_in s.slots t.slot)) t) e)

exact_pin : (s : SlotTable) (t : TicketParts) (ns : List Note) (found : Result (Unit {0}) ListFault) → table.checked s t ≡ found → pinned_by ns ≡ None → Tied s.slots ns → Exact s ns → Exact (table.pin_at found s t).1 (if_ok (λ done. Pinned t) (table.pin_at found s t).0 ns)
exact_pin s t ns (Err fault) e n tied i = i
exact_pin s t ns (Ok done) e n tied i =
    let ms = Pinned t ∷ ns in
    let quiet : Quiet ns ms = record { link = λ l n. refl; pass = λ l n. refl; drop = λ l. refl; status = λ t. refl; prepared = λ k. refl } in
    let u = checked_found s t e in
    let none : s.pinned ≡ None = i.loose.pinned ∙ n in
    record {
      loose = record {
        pinned = refl;
        unseen = unseen_quiet s.lists s.calls (s.calls + 1) ns ms (omega arith) quiet i.loose.unseen;
        present = present_quiet s.present s.lists ns ms quiet i.loose.present;
        slots = slots_quiet s.present s.present s.lists s.calls (s.calls + 1) ns ms s.slots (omega arith) (λ l. refl) (λ k. refl) (λ v o. o)
            (λ k c v l f. pin_fits ns s.slots t v u.0 k _ refl (tied.index k v c l) u.1 f) i.loose.slots;
      };
      swept = λ k c. pin_now s.present t (slot_in s.slots k) (ap (λ (q : Option TicketParts). over_now s.present q (slot_in s.slots k)) (sym none) ∙ i.swept k c);
    }

-- A pin ends.
exact_unpin : (s : SlotTable) (m : Memory) (ns : List Note) (pinned : Option TicketParts) → length s.slots ≡ 32 → Exact s ns → Exact (table.unpin_for pinned s m).0 (if_some (λ t. Unpinned t) pinned ns)
exact_unpin s m ns None z i = i
exact_unpin s m ns (Some t) z i =
    let ms = Unpinned t ∷ ns in
    let quiet : Quiet ns ms = record { link = λ l n. refl; pass = λ l n. refl; drop = λ l. refl; status = λ t. refl; prepared = λ k. refl } in
    exact_swept (table.counted (record s { pinned = None })) ms z (record {
      pinned = refl;
      unseen = unseen_quiet s.lists s.calls (s.calls + 1) ns ms (omega arith) quiet i.loose.unseen;
      present = present_quiet s.present s.lists ns ms quiet i.loose.present;
      slots = slots_quiet s.present s.present s.lists s.calls (s.calls + 1) ns ms s.slots (omega arith) (λ l. refl) (λ k. refl) (λ v o. o)
          (λ k c v e f. state_keeps ns ms v (slot_in s.slots k).state refl (over_more ns ms v refl (λ o. o) (λ o. o) (λ o. refl)) f) i.loose.slots;
    })

-- Every call.
exact_call : (call : Call) (s : SlotTable) (m : Memory) (ns : List Note) → IsLonePin call ns → Tied s.slots ns → Exact s ns → Exact (left_by call s m).0 (noted_by call s m ns)
unfolding table.prepare_step table.low_step table.high_step table.dummy_step table.status_step table.drop_step table.free_all_step table.pin_step table.unpin_step
exact_call (Prepare asked) s m ns p tied i = exact_prepare s m asked ns (may_prepare s) refl tied.size i
exact_call LinkLow s m ns p tied i = exact_low s m ns s.present refl i
exact_call LinkHigh s m ns p tied i = exact_high s m ns s.present tied.size refl i
exact_call (MakeDummy t) s m ns p tied i = exact_dummy s m t ns (table.checked s t) i
exact_call (TakeStatus block) s m ns p tied i = exact_status s m block ns (slot_of block.orb) tied i
exact_call DropList s m ns p tied i = exact_drop s ns s.present refl tied.size i
exact_call FreeAll s m ns p tied i = exact_freed s ns tied.size i
exact_call (Pin t) s m ns p tied i = exact_pin s t ns (table.checked s t) refl p tied i
exact_call Unpin s m ns p tied i = exact_unpin s m ns s.pinned tied.size i
exact_call (TryWrite offset bytes) s m ns p tied i = i
exact_call (Fill slot at bytes) s m ns p tied i = i
exact_call (SetQuad offset value) s m ns p tied i = i

new_slot : (k : ℕ) → slot_in table.new_table.slots k ≡ unused
new_slot k = replicated 32 k unused

exact_new : Exact table.new_table []
exact_new = record {
  loose = record {
    pinned = refl;
    unseen = record { link = λ l n h. refl; pass = λ l n h. refl; drop = λ l h. refl; status = λ t h. refl };
    present = tt;
    slots = λ k b. ap (λ (x : Slot). is_free x) (new_slot k);
  };
  swept = λ k b. refl;
}

pub exact_run : (calls : List Call) (quads : List ℕ) → PinsAlone calls quads → Exact (run calls quads).table (run calls quads).notes
exact_run [] quads p = exact_new
exact_run (call ∷ earlier) quads p =
    exact_call call (run earlier quads).table (run earlier quads).memory (run earlier quads).notes p.0 (tied_run earlier quads) (exact_run earlier quads p.1)

pub free_law : FreeLaw
free_law calls quads k p b =
    let s = (run calls quads).table in
    let ns = (run calls quads).notes in
    let i = exact_run calls quads p in
    final_slot s.present s.lists s.calls ns s.pinned (prepared_in ns k) (slot_in s.slots k) i.loose.present i.loose.pinned (i.swept k b) (i.loose.slots k b)
