-- What the run terms of an initiator's lists say of its slots.
use Rattle.std.specs.Prelude.{◌≡◌, ℕ, suc, ◌-◌, ◌<◌, ◌≤◌, ◌==◌, Bool, true, false, cond, List, length, map, Option, Some, None}
use Rattle.orb_layout.specs.StatusBlocks.{row_of}
use Rattle.orb_list.specs.declared.list.Link.{Link}
use Rattle.orb_list.specs.declared.list.Link.TheVariants as links
use Rattle.orb_list.specs.declared.list.PresentList.{PresentList}
use Rattle.orb_list.specs.declared.slot.SlotState.{SlotState}
use Rattle.orb_list.specs.declared.slot.SlotState.TheVariants as states
use Rattle.orb_list.specs.declared.slot.Slot.{Slot}
use Rattle.orb_list.specs.Tickets.{TicketParts}
use Rattle.orb_list.specs.Table as table
use Rattle.orb_list.specs.Table.{SlotTable, slot_in, is_free, waiting}
use Rattle.sbp_journal.specs.Run.{Moment}
use Rattle.sbp_laws.specs.Terms.{lists, appends}
use Rattle.sbp_laws.specs.Lists as terms
use Rattle.sbp_laws.specs.Lists.{Orb, TakenStatus, SlotState as Row, vacant, used, resting, present_list, linked, lowered, passed, taken_at, slot_at, prepared_in, pinned_orb, is_over_by, is_pinned}
use Rattle.sbp_world.specs.Hosts.Rows.{name_in, row, present_in}

-- the terms of one initiator, but for its slots
pub record ListTerms : Type 0 where
  pub present : Option ℕ
  pub begun : ℕ
  pub appended : ℕ → ℕ
  pub linked : ℕ → ℕ
  pub lowered : ℕ → ℕ
  pub passed : ℕ → ℕ
  pub taken : ℕ → ℕ → Option TakenStatus
  pub place : ℕ → ℕ → ℕ
  pub prepared : ℕ → Option Orb
  pub pinned : Option Orb

abbrev pub terms_at : List Moment → ℕ → ListTerms
terms_at past i = record {
  present = present_list past i;
  begun = lists past i;
  appended = appends past i;
  linked = linked past i;
  lowered = lowered past i;
  passed = passed past i;
  taken = taken_at past i;
  place = slot_at past i;
  prepared = prepared_in past i;
  pinned = pinned_orb past i;
}

abbrev pub over_at : ListTerms → Orb → Bool
over_at t one =
    is_over_by (t.taken one.list one.number) (t.linked one.list) (t.passed one.list) one.number (is_pinned t.pinned one.list one.number)

-- ---- the ORB that was prepared last in a slot

pub record LastFits (begun : ℕ) (appended : ℕ → ℕ) (place : ℕ → ℕ → ℕ) (number : ℕ) (t : TicketParts) : Type 0 where
  pub slot : t.slot ≡ number
  pub list : t.list < begun
  pub below : t.number < appended t.list
  pub at : place t.list t.number ≡ number

abbrev pub IfLast : ℕ → (ℕ → ℕ) → (ℕ → ℕ → ℕ) → ℕ → Option TicketParts → Type 0
IfLast begun appended place number None = Unit {0}
IfLast begun appended place number (Some t) = LastFits begun appended place number t

-- ---- its state

abbrev pub IsOf : Option PresentList → TicketParts → Type 0
IsOf None t = ⊥
IsOf (Some list) t = list.tail.list ≡ t.list

pub record IsTaken (found : Option TakenStatus) (had_next : Bool) : Type 0 where
  pub taken : TakenStatus
  pub is : found ≡ Some taken
  pub resp : ((row_of taken.status).resp == 0) ≡ true
  pub src : (taken.src == 0) ≡ had_next

abbrev pub StateFits : Option PresentList → (ℕ → ℕ → Option TakenStatus) → SlotState → Option TicketParts → Type 0
StateFits present taken states.Free last = Unit {0}
StateFits present taken states.Resting last = Unit {0}
StateFits present taken states.Waiting None = ⊥
StateFits present taken states.Waiting (Some t) = IsOf present t × (taken t.list t.number ≡ None)
StateFits present taken (states.Taken had_next) None = ⊥
StateFits present taken (states.Taken had_next) (Some t) = IsOf present t × IsTaken (taken t.list t.number) had_next

-- ---- the present list

abbrev pub linked_by : Link → ℕ → ℕ
linked_by links.Done number = suc number
linked_by (links.Low before) number = number
linked_by (links.High before) number = number

abbrev pub LoweredFits : Link → ℕ → ℕ → Type 0
LoweredFits links.Done number lowered = lowered ≡ number
LoweredFits (links.Low before) number lowered = suc lowered ≡ number
LoweredFits (links.High before) number lowered = lowered ≡ number

-- an ORB of a list waits in its slot
pub record Waits (slots : List Slot) (list number : ℕ) : Type 0 where
  pub ticket : TicketParts
  pub of_list : ticket.list ≡ list
  pub numbered : ticket.number ≡ number
  pub small : ticket.slot < 32
  pub waits : waiting (slot_in slots ticket.slot) ≡ Some ticket

pub record ListFits (t : ListTerms) (slots : List Slot) (begun : ℕ) (list : PresentList) : Type 0 where
  pub below : list.tail.list < begun
  pub appended : t.appended list.tail.list ≡ suc list.tail.number
  pub linked : t.linked list.tail.list ≡ linked_by list.link list.tail.number
  pub lowered : LoweredFits list.link list.tail.number (t.lowered list.tail.list)
  pub passed : t.passed list.tail.list - 1 ≡ list.passed
  pub waits : (number : ℕ) → number < t.appended list.tail.list → t.taken list.tail.list number ≡ None → Waits slots list.tail.list number

abbrev pub IfList : ListTerms → List Slot → ℕ → Option PresentList → Type 0
IfList t slots begun None = Unit {0}
IfList t slots begun (Some list) = ListFits t slots begun list

-- ---- lists and ORBs to come

pub record ToCome (t : ListTerms) (begun : ℕ) : Type 0 where
  pub appended : (n : ℕ) → begun ≤ n → t.appended n ≡ 0
  pub linked : (n : ℕ) → begun ≤ n → t.linked n ≡ 0
  pub lowered : (n : ℕ) → begun ≤ n → t.lowered n ≡ 0
  pub passed : (n : ℕ) → begun ≤ n → t.passed n ≡ 0
  pub taken : (n k : ℕ) → t.appended n ≤ k → t.taken n k ≡ None

-- ---- the pinned slot

pub record IsHeld (slots : List Slot) (t : TicketParts) : Type 0 where
  pub small : t.slot < 32
  pub last : (slot_in slots t.slot).last ≡ Some t
  pub held : is_free (slot_in slots t.slot) ≡ false

abbrev pub IfHeld : List Slot → Option TicketParts → Type 0
IfHeld slots None = Unit {0}
IfHeld slots (Some t) = IsHeld slots t

-- ---- the slots

pub record Fits (t : ListTerms) (s : SlotTable) : Type 0 where
  pub size : length s.slots ≡ 32
  pub present : t.present ≡ present_in s.present
  pub begun : t.begun ≡ s.lists
  pub pinned : t.pinned ≡ name_in s.pinned
  pub held : IfHeld s.slots s.pinned
  pub prepared : (k : ℕ) → k < 32 → t.prepared k ≡ name_in (slot_in s.slots k).last
  pub last : (k : ℕ) → k < 32 → IfLast s.lists t.appended t.place k (slot_in s.slots k).last
  pub states : (k : ℕ) → k < 32 → StateFits s.present t.taken (slot_in s.slots k).state (slot_in s.slots k).last
  pub list : IfList t s.slots s.lists s.present
  pub to_come : ToCome t s.lists

-- No slot has an ORB that is over.
abbrev pub over_now : Option PresentList → Option TicketParts → Slot → Bool
over_now None pinned slot = false
over_now (Some list) pinned slot = table.is_over list pinned slot

abbrev pub Swept : SlotTable → Type 0
Swept s = (k : ℕ) → k < 32 → over_now s.present s.pinned (slot_in s.slots k) ≡ false

pub record Rows (t : ListTerms) (rows : List Row) (s : SlotTable) : Type 0 where
  pub fits : Fits t s
  pub rows_are : rows ≡ map row s.slots
  pub swept : Swept s

-- how the run terms free slots
pub record Frees (over : Orb → Bool) (f : Row → Row) : Type 0 where
  pub of_vacant : f vacant ≡ vacant
  pub of_resting : f resting ≡ resting
  pub of_used : (one : Orb) → f (used one) ≡ cond (over one) vacant (used one)

-- the run terms and slots of an initiator
abbrev pub AreRows : List Moment → ℕ → SlotTable → Type 0
AreRows past i s = Rows (terms_at past i) (terms.slots past i) s
