-- What the end of a transaction tells, and what it makes of the operation under way.
use Rattle.std.proofs.Common.{arith, ◌≡◌, refl, sym, ap, subst, ◌∙◌, ℕ, ◌<◌, ◌++◌, append_assoc, append-nil, nat_eq, ◌&&◌, not, Bool, true, false, cond, List, [], ◌∷◌, length, slice_index_or, Option, Some, None, Result, Ok, Err}
use Rattle.label_table.specs.declared.judgement.Asked.{Asked}
use Rattle.label_table.specs.Bodies.{Body}
use Rattle.label_table.specs.Layer.{Layer, asking_step}
use Rattle.config_rom.specs.declared.fault.RomFault.{RomFault}
use Rattle.config_rom.specs.declared.unit.SbpUnit.{SbpUnit}
use Rattle.config_rom.specs.Reading.{Tree, reading}
use Rattle.config_rom.specs.Unit.{sbp_unit_of}
use Rattle.orb_list.specs.declared.list.PresentList.{PresentList}
use Rattle.bus_memory.specs.declared.slot.PlaceMemory.{PlaceMemory}
use Rattle.bus_memory.specs.Memory.{Memory, empty_place, place_at}
use Rattle.orb_list.specs.Tickets.{TicketParts}
use Rattle.orb_list.specs.Table.{SlotTable, closed, drop_for, drop_step, unpin_for, unpin_step}
use Rattle.sbp_session.specs.Moves.{Event, bad, conflict, pointed, failed, goes}
use Rattle.sbp_journal.specs.declared.note.Note.{Note}
use Rattle.sbp_journal.specs.declared.note.Note.TheVariants as notes
use Rattle.sbp_journal.specs.declared.operation.Operation.{Operation}
use Rattle.sbp_journal.specs.declared.operation.Operation.TheVariants as operations
use Rattle.sbp_journal.specs.declared.operation.OpWord.{OpWord}
use Rattle.sbp_journal.specs.declared.operation.OpWord.TheVariants as words
use Rattle.sbp_journal.specs.declared.outbox.Outgoing.{Outgoing}
use Rattle.sbp_journal.specs.declared.side.Side.{Side}
use Rattle.sbp_journal.specs.declared.side.Side.TheVariants as sides
use Rattle.sbp_journal.specs.Outgoings.{OutboxState}
use Rattle.sbp_initiator.specs.Refusals.{ends_list}
use Rattle.sbp_initiator.specs.declared.purpose.Purpose.{Purpose}
use Rattle.sbp_initiator.specs.declared.purpose.Purpose.TheVariants as purposes
use Rattle.sbp_initiator.specs.declared.purpose.Ending.{Ending}
use Rattle.sbp_initiator.specs.declared.purpose.Ending.TheVariants as endings
use Rattle.sbp_initiator.specs.declared.purpose.Pointing.{Pointing}
use Rattle.sbp_initiator.specs.declared.purpose.Pointing.TheVariants as pointings
use Rattle.sbp_initiator.specs.declared.purpose.Running.{Running}
use Rattle.sbp_initiator.specs.declared.state.InitiatorState.{InitiatorState}
use Rattle.orb_list.specs.Lists.{ListState, drop_lists, unpin_lists}
use Rattle.sbp_initiator.specs.Histories.Moves.{outgoing}
use Rattle.initiator_base.specs.Quads.{with_quad}
use Rattle.sbp_initiator.specs.States.{counts_for, is_list, is_unwritten}
use Rattle.initiator_base.specs.Places.{management_at}
use Rattle.sbp_session.specs.Seats.{is_stuck_seat}
use Rattle.sbp_initiator.specs.Effects.{Turn, told, stick_step, dropped_as, drop_list_step, end_step, end_own_for, end_own_step, then_step, with_answered, pointer_ended, doorbell_ended, fail_step, reset_ended, enable_ended, moves_session, moved, conflict_for, conflict_step, is_conflict, management_ended, response_of, good_event, good_word, drop_where, good_end, managed_step, fault_number, with_unit, with_rom, finish_rom, next_quad, asked_quad, ask_quad, is_address, rom_ended, with_dead, known_where, state_told, state_ended, ended_step}
use Rattle.sbp_initiator.proofs.Asked.{none_asked}
use Rattle.sbp_initiator.specs.Histories.Drops.{IfGone, present_list, drop_if, state_drops, ends_the_list}
use Rattle.sbp_initiator.specs.Histories.Numbers.{is_numbered}
use Rattle.sbp_initiator.proofs.Histories.Busy.{busy_of, is_busy}
use Rattle.sbp_initiator.proofs.Histories.Lives.{read_act}
use Rattle.sbp_initiator.specs.Histories.Ends.{own, OpEnd, drops, notes_of, is_managed, is_word_of, read_ends, state_word, is_failed, is_managed_failed, fails_write, sticks_by, OpMove}

-- ---- lists of notes

pub own_append : (xs ys : List Note) → own (xs ++ ys) ≡ own xs ++ own ys
own_append [] ys = refl
own_append (x ∷ xs) ys = ap (λ (l : List Side). sides.Own x ∷ l) (own_append xs ys)

-- what one step tells and then another
pub told_twice : (a b c : List Side) (xs ys : List Note) → b ≡ a ++ own xs → c ≡ b ++ own ys → c ≡ a ++ own (xs ++ ys)
told_twice a b c xs ys e f =
    f ∙ ap (λ (l : List Side). l ++ own ys) e ∙ append_assoc a (own xs) (own ys) ∙ ap (λ (l : List Side). a ++ l) (sym (own_append xs ys))

pub nil_join : (xs ys : List Note) → (xs ++ []) ++ ys ≡ xs ++ ys
nil_join xs ys = ap (λ (l : List Note). l ++ ys) (append-nil xs)

-- numbers that are equal
pub nat_is : (m n : ℕ) → nat_eq m n ≡ true → m ≡ n
nat_is m n e = grind arith

-- ---- what a step does

-- a request that was asked for
pub record Asking : Type 0 where
  pub body : Body
  pub purpose : Purpose
  pub asked : Asked

-- The transaction layer and the packets are as before; or they are those of one request more.
abbrev pub Wired : Option Asking → Layer Purpose → List Outgoing → ℕ → Layer Purpose → List Outgoing → Type 0
Wired None layer packets target layer' packets' = (layer' ≡ layer) × (packets' ≡ packets)
Wired (Some a) layer packets target layer' packets' =
    (asking_step layer target a.body a.purpose ≡ (Some a.asked, layer')) × (packets' ≡ packets ++ outgoing target a.asked ∷ [])

-- While there is no list, no ORB_POINTER counts as written.
abbrev pub HasMarks : Option PresentList → Pointing → Type 0
HasMarks None pointing = is_unwritten pointing ≡ true
HasMarks (Some list) pointing = Unit {0}

-- the present list is one of those that were begun
abbrev pub IsBegunList : Option PresentList → ℕ → Type 0
IsBegunList None lists = Unit {0}
IsBegunList (Some list) lists = list.tail.list < lists

-- Each list whose ORB_POINTER was asked for was begun; and where it is the present one, this counts as written.
pub record Begun (pointed : ℕ → Bool) (present : Option PresentList) (lists : ℕ) (pointing : Pointing) : Type 0 where
  pub list : IsBegunList present lists
  pub below : (n : ℕ) → pointed n ≡ true → n < lists
  pub written : (n : ℕ) → pointed n ≡ true → is_list present n ≡ true → is_unwritten pointing ≡ false

-- what is remembered of actions: what each place of management holds, and the lists whose ORB_POINTER was asked for
pub record Past : Type 0 where
  pub places : ℕ → List ℕ
  pub pointed : ℕ → Bool

-- And what the two places of management hold.
pub record Holds (x : Past) (lists : ListState) (pointing : Pointing) : Type 0 where
  pub marks : HasMarks lists.slots.present pointing
  pub orbs : (m : ℕ) → (place_at lists.memory m).orb ≡ x.places m
  pub places : length lists.memory.places ≡ 2
  pub pointed : Begun x.pointed lists.slots.present lists.slots.lists pointing

abbrev pub KeepsMarks : InitiatorState → InitiatorState → Type 0
KeepsMarks s t = (x : Past) → Holds x s.lists s.marks.pointing → Holds x t.lists t.marks.pointing

-- the lists change, and with them neither this nor that
pub relisted : (lists new : ListState) (pointing : Pointing) → new.slots.present ≡ lists.slots.present → new.slots.lists ≡ lists.slots.lists → ((m : ℕ) → (place_at new.memory m).orb ≡ (place_at lists.memory m).orb) → length new.memory.places ≡ length lists.memory.places → (x : Past) → Holds x lists pointing → Holds x new pointing
relisted lists new pointing e c f g x h = record {
  marks = subst (λ (p : Option PresentList). HasMarks p pointing) (sym e) h.marks;
  orbs = λ m. f m ∙ h.orbs m;
  places = g ∙ h.places;
  pointed = subst (λ (p : Option PresentList). Begun x.pointed p new.slots.lists pointing) (sym e) (subst (λ (n : ℕ). Begun x.pointed lists.slots.present n pointing) (sym c) h.pointed);
}

-- What a step tells, with the list that it drops, the end of a read of AGENT_STATE and whether the session becomes Stuck; what it makes of the operation under way; and what it leaves as it was.
pub record Does (o : OutboxState) (s : InitiatorState) (drop : Option ℕ) (state : Option OpWord) (stuck : Bool) (asking : Option Asking) (t : Turn) : Type 0 where
  pub op : Option OpEnd
  pub sides : t.0.sides ≡ o.sides ++ own (notes_of s.number drop op state stuck)
  pub move : OpMove s.operation op t.1.operation
  pub wire : Wired asking s.layer o.packets s.target t.1.layer t.0.packets
  pub counts : t.1.counts ≡ s.counts
  pub number : t.1.number ≡ s.number
  pub target : t.1.target ≡ s.target
  pub marks : KeepsMarks s t.1
  pub gone : IfGone drop t.1.lists.slots.present

-- the operation that an action began, where it is under way, is one of these
pub record IsOwn (is_kind : Operation → Bool) (act : ℕ) (operation : Option Running) : Type 0 where
  pub kind : (running : Running) → operation ≡ Some running → running.act ≡ act → is_kind running.operation ≡ true

module _ (o : OutboxState) (s : InitiatorState) where
  -- nothing is told, and the operation, the layer and the counts are as they were
  pub idle : (t : InitiatorState) → t.operation ≡ s.operation → t.layer ≡ s.layer → t.counts ≡ s.counts → t.number ≡ s.number → t.target ≡ s.target → KeepsMarks s t → Does o s None None false None (o, t)
  idle t op layer counts number target marks = record {
    op = None;
    sides = sym (append-nil o.sides);
    move = op;
    wire = (layer, refl);
    counts = counts;
    number = number;
    target = target;
    marks = marks;
    gone = tt;
  }

  pub stays : Does o s None None false None (o, s)
  stays = idle s refl refl refl refl refl (λ x h. h)

  stuck_as : (c : Bool) → Does o s None None (not c) None (cond c o (told o (notes.Stuck s.number)), record s { seat = goes failed s.seat })
  stuck_as true = idle (record s { seat = goes failed s.seat }) refl refl refl refl refl (λ x h. h)
  stuck_as false = record {
    op = None;
    sides = refl;
    move = refl;
    wire = (refl, refl);
    counts = refl;
    number = refl;
    target = refl;
    marks = λ x h. h;
    gone = tt;
  }

  pub sticks_does : Does o s None None (not (is_stuck_seat s.seat)) None (stick_step o s)
  sticks_does = stuck_as (is_stuck_seat s.seat)

-- a pin that ends leaves the list
unpin_for_present : (t : Option TicketParts) (slots : SlotTable) (m : Memory) → (unpin_for t slots m).0.present ≡ slots.present
unpin_for_present None slots m = refl
unpin_for_present (Some t) slots m = refl

pub unpin_present : (lists : ListState) → (unpin_lists lists).slots.present ≡ lists.slots.present
unfolding unpin_lists unpin_step
unpin_present lists = unpin_for_present lists.slots.pinned lists.slots lists.memory

unpin_for_count : (t : Option TicketParts) (slots : SlotTable) (m : Memory) → (unpin_for t slots m).0.lists ≡ slots.lists
unpin_for_count None slots m = refl
unpin_for_count (Some t) slots m = refl

pub unpin_count : (lists : ListState) → (unpin_lists lists).slots.lists ≡ lists.slots.lists
unfolding unpin_lists unpin_step
unpin_count lists = unpin_for_count lists.slots.pinned lists.slots lists.memory

unpin_for_memory : (t : Option TicketParts) (slots : SlotTable) (m : Memory) → (unpin_for t slots m).1.places ≡ m.places
unfolding closed
unpin_for_memory None slots m = refl
unpin_for_memory (Some t) slots m = refl

unpin_memory : (lists : ListState) → (unpin_lists lists).memory.places ≡ lists.memory.places
unfolding unpin_lists unpin_step
unpin_memory lists = unpin_for_memory lists.slots.pinned lists.slots lists.memory

unpin_orbs : (lists : ListState) (m : ℕ) → (place_at (unpin_lists lists).memory m).orb ≡ (place_at lists.memory m).orb
unpin_orbs lists m = ap (λ (l : List PlaceMemory). (slice_index_or l m empty_place).orb) (unpin_memory lists)

unpin_places : (lists : ListState) → length (unpin_lists lists).memory.places ≡ length lists.memory.places
unpin_places lists = ap length (unpin_memory lists)

-- the operation under way ends
pub end_does : (running : Running) (word : OpWord) (o : OutboxState) (s t : InitiatorState) → s.operation ≡ Some running → is_word_of running.operation word ≡ true → t.layer ≡ s.layer → t.counts ≡ s.counts → t.number ≡ s.number → t.target ≡ s.target → KeepsMarks s t → Does o s None None false None (end_step running.operation word o t)
end_does running word o s t e w layer counts number target marks = record {
  op = Some (record { operation = running.operation; word = word });
  sides = ap (λ (n : ℕ). o.sides ++ own (notes.Op n running.operation word ∷ [])) number;
  move = (record { running = running; under_way = e; same = refl; word = w }, refl);
  wire = (layer, refl);
  counts = counts;
  number = number;
  target = target;
  marks = λ x h. relisted t.lists (unpin_lists t.lists) t.marks.pointing (unpin_present t.lists) (unpin_count t.lists) (unpin_orbs t.lists) (unpin_places t.lists) x (marks x h);
  gone = tt;
}

own_as : (c : Bool) (running : Running) (word : OpWord) (o : OutboxState) (s t : InitiatorState) → t.operation ≡ s.operation → s.operation ≡ Some running → (c ≡ true → is_word_of running.operation word ≡ true) → t.layer ≡ s.layer → t.counts ≡ s.counts → t.number ≡ s.number → t.target ≡ s.target → KeepsMarks s t → Does o s None None false None (cond c (end_step running.operation word o t) (o, t))
own_as true running word o s t op e w layer counts number target marks = end_does running word o s t e (w refl) layer counts number target marks
own_as false running word o s t op e w layer counts number target marks = idle o s t op layer counts number target marks

own_for : (r : Option Running) (act : ℕ) (word : OpWord) (o : OutboxState) (s t : InitiatorState) → s.operation ≡ r → t.operation ≡ s.operation → IsOwn (λ operation. is_word_of operation word) act s.operation → t.layer ≡ s.layer → t.counts ≡ s.counts → t.number ≡ s.number → t.target ≡ s.target → KeepsMarks s t → Does o s None None false None (end_own_for r act word o t)
own_for None act word o s t e op w layer counts number target marks = idle o s t op layer counts number target marks
own_for (Some running) act word o s t e op w layer counts number target marks =
    own_as (nat_eq running.act act) running word o s t op e (λ c. w.kind running e (nat_is running.act act c)) layer counts number target marks

-- the operation that an action began ends, with a state that differs in none of these
pub own_does : (act : ℕ) (word : OpWord) (o : OutboxState) (s t : InitiatorState) → t.operation ≡ s.operation → IsOwn (λ operation. is_word_of operation word) act s.operation → t.layer ≡ s.layer → t.counts ≡ s.counts → t.number ≡ s.number → t.target ≡ s.target → KeepsMarks s t → Does o s None None false None (end_own_step act word o t)
own_does act word o s t op w layer counts number target marks =
    own_for t.operation act word o s t (sym op) op w layer counts number target marks

-- every operation may end with an error
pub fails_own : (act : ℕ) (operation : Option Running) → IsOwn (λ op. is_word_of op words.Error) act operation
fails_own act operation = record { kind = λ running e f. refl }

-- ---- a list is dropped, or none, and then another step

-- at most a list is dropped
pub record Drops (o : OutboxState) (s : InitiatorState) (drop : Option ℕ) (t : Turn) : Type 0 where
  pub sides : t.0.sides ≡ o.sides ++ own (drops s.number drop)
  pub operation : t.1.operation ≡ s.operation
  pub layer : t.1.layer ≡ s.layer
  pub packets : t.0.packets ≡ o.packets
  pub counts : t.1.counts ≡ s.counts
  pub number : t.1.number ≡ s.number
  pub target : t.1.target ≡ s.target
  pub marks : KeepsMarks s t.1
  pub gone : IfGone drop t.1.lists.slots.present

-- no list is present
pub none_begun : (named : ℕ → Bool) (present : Option PresentList) (lists : ℕ) (pointing : Pointing) → Begun named present lists pointing → Begun named None lists pointings.Unwritten
none_begun named present lists pointing h = record { list = tt; below = h.below; written = λ n e f. absurd (untrue f) }
  where
    untrue : false ≡ true → ⊥
    untrue e = cc

none_drops : (o : OutboxState) (s : InitiatorState) → Drops o s None (o, s)
none_drops o s = record { sides = sym (append-nil o.sides); operation = refl; layer = refl; packets = refl; counts = refl; number = refl; target = refl; marks = λ x h. h; gone = tt }

drops_as : (present : Option PresentList) (o : OutboxState) (s : InitiatorState) → Drops o s (present_list present) (dropped_as ((drop_for present s.lists.slots).0, record s.lists { slots = (drop_for present s.lists.slots).1 }) o s)
drops_as None o s = record { sides = sym (append-nil o.sides); operation = refl; layer = refl; packets = refl; counts = refl; number = refl; target = refl; marks = λ x h. h; gone = tt }
drops_as (Some list) o s = record { sides = refl; operation = refl; layer = refl; packets = refl; counts = refl; number = refl; target = refl; marks = λ x h. record { marks = refl; orbs = h.orbs; places = h.places; pointed = none_begun x.pointed s.lists.slots.present s.lists.slots.lists s.marks.pointing h.pointed }; gone = refl }

pub list_drops : (o : OutboxState) (s : InitiatorState) → Drops o s (present_list s.lists.slots.present) (drop_list_step o s)
unfolding drop_lists drop_step
list_drops o s = drops_as s.lists.slots.present o s

gone_on : (drop : Option ℕ) (present new : Option PresentList) → new ≡ present → IfGone drop present → IfGone drop new
gone_on None present new e h = tt
gone_on (Some list) present new e h = e ∙ h

pub behind : (o : OutboxState) (s : InitiatorState) (drop : Option ℕ) (state : Option OpWord) (t u : Turn) → Drops o s drop t → u.1.lists.slots.present ≡ t.1.lists.slots.present → Does t.0 t.1 None state false None u → Does o s drop state false None u
behind o s drop state t u k e d = record {
  op = d.op;
  sides = told_twice o.sides t.0.sides u.0.sides (drops s.number drop) (notes_of s.number None d.op state false) k.sides
      (subst (λ (n : ℕ). u.0.sides ≡ t.0.sides ++ own (notes_of n None d.op state false)) k.number d.sides);
  move = subst (λ (r : Option Running). OpMove r d.op u.1.operation) k.operation d.move;
  wire = (d.wire.0 ∙ k.layer, d.wire.1 ∙ k.packets);
  counts = d.counts ∙ k.counts;
  number = d.number ∙ k.number;
  target = d.target ∙ k.target;
  marks = λ x h. d.marks x (k.marks x h);
  gone = gone_on drop t.1.lists.slots.present u.1.lists.slots.present e k.gone;
}

-- ---- an operation ends, and the session becomes Stuck

stuck_end : (c : Bool) (running : Running) (o : OutboxState) (s : InitiatorState) (lists : ListState) → s.operation ≡ Some running → KeepsMarks s (record s { lists = lists }) → Does o s None None (not c) None (cond c (told o (notes.Op s.number running.operation words.Error)) (told (told o (notes.Op s.number running.operation words.Error)) (notes.Stuck s.number)), record s { operation = None; lists = lists; seat = goes failed s.seat })
stuck_end true running o s lists e marks = record {
  op = Some (record { operation = running.operation; word = words.Error });
  sides = refl;
  move = (record { running = running; under_way = e; same = refl; word = refl }, refl);
  wire = (refl, refl);
  counts = refl;
  number = refl;
  target = refl;
  marks = marks;
  gone = tt;
}
stuck_end false running o s lists e marks = record {
  op = Some (record { operation = running.operation; word = words.Error });
  sides = append_assoc o.sides (own (notes.Op s.number running.operation words.Error ∷ [])) (own (notes.Stuck s.number ∷ []));
  move = (record { running = running; under_way = e; same = refl; word = refl }, refl);
  wire = (refl, refl);
  counts = refl;
  number = refl;
  target = refl;
  marks = marks;
  gone = tt;
}

fail_as : (c : Bool) (running : Running) (o : OutboxState) (s : InitiatorState) → s.operation ≡ Some running → Does o s None None (not (is_stuck_seat s.seat)) None (then_step stick_step (cond c (end_step running.operation words.Error o s) (o, s)))
fail_as true running o s e =
    stuck_end (is_stuck_seat s.seat) running o s (unpin_lists s.lists) e
    (relisted s.lists (unpin_lists s.lists) s.marks.pointing (unpin_present s.lists) (unpin_count s.lists) (unpin_orbs s.lists) (unpin_places s.lists))
fail_as false running o s e = sticks_does o s

fail_for : (r : Option Running) (act : ℕ) (o : OutboxState) (s : InitiatorState) → s.operation ≡ r → Does o s None None (not (is_stuck_seat s.seat)) None (then_step stick_step (end_own_for r act words.Error o s))
fail_for None act o s e = sticks_does o s
fail_for (Some running) act o s e = fail_as (nat_eq running.act act) running o s e

fail_does : (act : ℕ) (o : OutboxState) (s : InitiatorState) → Does o s None None (not (is_stuck_seat s.seat)) None (fail_step act o s)
fail_does act o s = fail_for s.operation act o s refl

-- an operation that ends leaves the list
own_present_as : (c : Bool) (operation : Operation) (word : OpWord) (o : OutboxState) (t : InitiatorState) → (cond c (end_step operation word o t) (o, t)).1.lists.slots.present ≡ t.lists.slots.present
own_present_as true operation word o t = unpin_present t.lists
own_present_as false operation word o t = refl

own_present : (r : Option Running) (act : ℕ) (word : OpWord) (o : OutboxState) (t : InitiatorState) → (end_own_for r act word o t).1.lists.slots.present ≡ t.lists.slots.present
own_present None act word o t = refl
own_present (Some running) act word o t = own_present_as (nat_eq running.act act) running.operation word o t

good_present : (c : Bool) (event : Event) (operation : Operation) (word : OpWord) (o : OutboxState) (t : InitiatorState) → (end_step operation word o (cond c (record t { seat = goes event t.seat }) t)).1.lists.slots.present ≡ t.lists.slots.present
good_present true event operation word o t = unpin_present t.lists
good_present false event operation word o t = unpin_present t.lists

-- ---- what a transaction was for, and the operation under way

-- the operation under way that an action began is this one
pub record IsFor (operation : Operation) (act : ℕ) (under_way : Option Running) : Type 0 where
  pub same : (running : Running) → under_way ≡ Some running → running.act ≡ act → running.operation ≡ operation

-- it has a management ORB
pub record IsForOrb (act : ℕ) (under_way : Option Running) : Type 0 where
  pub managed : (running : Running) → under_way ≡ Some running → running.act ≡ act → is_managed running.operation ≡ true

abbrev pub Fits : Purpose → Option Running → Type 0
Fits (purposes.AgentReset act) under_way = IsFor operations.AgentReset act under_way
Fits (purposes.Enable act) under_way = IsFor operations.Enable act under_way
Fits (purposes.Rom act) under_way = IsFor operations.Rom act under_way
Fits (purposes.Management act) under_way = IsForOrb act under_way
Fits (purposes.Pointer list) under_way = Unit {0}
Fits purposes.Doorbell under_way = Unit {0}
Fits (purposes.State act list) under_way = Unit {0}

own_word : (operation : Operation) (act : ℕ) (word : OpWord) (under_way : Option Running) → is_word_of operation word ≡ true → IsFor operation act under_way → IsOwn (λ (op : Operation). is_word_of op word) act under_way
own_word operation act word under_way w f = record {
  kind = λ running e h. subst (λ (op : Operation). is_word_of op word ≡ true) (sym (f.same running e h)) w;
}

-- ---- by what the transaction was for

answered_marks : (present : Option PresentList) (list : ℕ) → is_list present list ≡ true → HasMarks present pointings.Answered
answered_marks None list e = absurd (untrue e)
  where
    untrue : false ≡ true → ⊥
    untrue e = cc
answered_marks (Some known) list e = tt

pointed_as : (c : Bool) (list : ℕ) (o : OutboxState) (s : InitiatorState) → is_list s.lists.slots.present list ≡ c → Does o s None None false None (o, cond c (with_answered (record s { seat = goes pointed s.seat })) (record s { seat = goes pointed s.seat }))
pointed_as true list o s e =
    idle o s (with_answered (record s { seat = goes pointed s.seat })) refl refl refl refl refl (λ x h. record { marks = answered_marks s.lists.slots.present list e; orbs = h.orbs; places = h.places; pointed = record { list = h.pointed.list; below = h.pointed.below; written = λ n f g. refl } })
pointed_as false list o s e = idle o s (record s { seat = goes pointed s.seat }) refl refl refl refl refl (λ x h. h)

pointer_does : (list : ℕ) (ending : Ending) (o : OutboxState) (s : InitiatorState) → Does o s None None (sticks_by (is_failed ending) s.seat) None (pointer_ended list ending o s)
pointer_does list (endings.Complete value) o s = pointed_as (is_list s.lists.slots.present list) list o s refl
pointer_does list (endings.Refused rcode) o s = sticks_does o s
pointer_does list endings.Expired o s = sticks_does o s

doorbell_does : (ending : Ending) (o : OutboxState) (s : InitiatorState) → Does o s None None (sticks_by (is_failed ending) s.seat) None (doorbell_ended ending o s)
doorbell_does (endings.Complete value) o s = stays o s
doorbell_does (endings.Refused rcode) o s = sticks_does o s
doorbell_does endings.Expired o s = sticks_does o s

reset_does : (act value : ℕ) (o : OutboxState) (s : InitiatorState) → IsFor operations.AgentReset act s.operation → Does o s (present_list s.lists.slots.present) None false None (reset_ended act (endings.Complete value) o s)
reset_does act value o s f =
    let k = list_drops o s in
    let t = drop_list_step o s in
    behind o s (present_list s.lists.slots.present) None t (end_own_step act words.Done t.0 t.1) k (own_present t.1.operation act words.Done t.0 t.1)
    (own_does act words.Done t.0 t.1 t.1 refl (subst (λ (r : Option Running). IsOwn (λ (op : Operation). is_word_of op words.Done) act r) (sym k.operation) (own_word operations.AgentReset act words.Done s.operation refl f)) refl refl refl refl (λ x h. h))

enable_does : (act : ℕ) (ending : Ending) (o : OutboxState) (s : InitiatorState) → IsFor operations.Enable act s.operation → Does o s None None (sticks_by (is_failed ending) s.seat) None (enable_ended act ending o s)
enable_does act (endings.Complete value) o s f = own_does act words.Done o s s refl (own_word operations.Enable act words.Done s.operation refl f) refl refl refl refl (λ x h. h)
enable_does act (endings.Refused rcode) o s f = fail_does act o s
enable_does act endings.Expired o s f = fail_does act o s

-- an operation ends, as the session moves or not
pub moved_does : (c : Bool) (event : Event) (running : Running) (word : OpWord) (o : OutboxState) (s : InitiatorState) → s.operation ≡ Some running → is_word_of running.operation word ≡ true → Does o s None None false None (end_step running.operation word o (cond c (record s { seat = goes event s.seat }) s))
moved_does true event running word o s e w = end_does running word o s (record s { seat = goes event s.seat }) e w refl refl refl refl (λ x h. h)
moved_does false event running word o s e w = end_does running word o s s e w refl refl refl refl (λ x h. h)

conflict_as : (c : Bool) (running : Running) (o : OutboxState) (s : InitiatorState) → s.operation ≡ Some running → (c ≡ true → is_managed running.operation ≡ true) → Does o s None None false None (cond c (end_step running.operation words.Conflict o (moved running.operation conflict s)) (o, s))
conflict_as true running o s e w = moved_does (moves_session running.operation) conflict running words.Conflict o s e (w refl)
conflict_as false running o s e w = stays o s

conflicts : (r : Option Running) (act : ℕ) (o : OutboxState) (s : InitiatorState) → s.operation ≡ r → IsForOrb act s.operation → Does o s None None false None (conflict_for r act o s)
conflicts None act o s e f = stays o s
conflicts (Some running) act o s e f =
    conflict_as (nat_eq running.act act) running o s e (λ c. f.managed running e (nat_is running.act act c))

refused_as : (c : Bool) (act : ℕ) (o : OutboxState) (s : InitiatorState) → IsForOrb act s.operation → Does o s None None (sticks_by (not c) s.seat) None (cond c (conflict_step act o s) (fail_step act o s))
refused_as true act o s f = conflicts s.operation act o s refl f
refused_as false act o s f = fail_does act o s

management_does : (act : ℕ) (ending : Ending) (o : OutboxState) (s : InitiatorState) → IsForOrb act s.operation → Does o s None None (sticks_by (is_managed_failed ending) s.seat) None (management_ended act ending o s)
management_does act (endings.Complete value) o s f = stays o s
management_does act (endings.Refused rcode) o s f = refused_as (is_conflict rcode) act o s f
management_does act endings.Expired o s f = fail_does act o s

-- ---- a status of a management ORB

good_is_word : (operation : Operation) (response : List ℕ) → is_word_of operation (good_word operation response) ≡ true
good_is_word operations.Query response = refl
good_is_word operations.Rom response = refl
good_is_word operations.Login response = refl
good_is_word operations.Reconnect response = refl
good_is_word operations.Logout response = refl
good_is_word operations.Abort response = refl
good_is_word operations.AbortSet response = refl
good_is_word operations.UnitReset response = refl
good_is_word operations.TargetReset response = refl
good_is_word operations.AgentReset response = refl
good_is_word operations.State response = refl
good_is_word operations.Enable response = refl

where_drops : (c : Bool) (o : OutboxState) (s : InitiatorState) → Drops o s (drop_if c s.lists.slots.present) (drop_where c o s)
where_drops true o s = list_drops o s
where_drops false o s = none_drops o s

good_does : (running : Running) (o : OutboxState) (s : InitiatorState) → s.operation ≡ Some running → Does o s (drop_if (ends_list (Some running.operation)) s.lists.slots.present) None false None (then_step (good_end running) (drop_where (ends_list (Some running.operation)) o s))
good_does running o s e =
    let c = ends_list (Some running.operation) in
    let t = drop_where c o s in
    let k = where_drops c o s in
    behind o s (drop_if c s.lists.slots.present) None t (good_end running t.0 t.1) k (good_present (moves_session running.operation) (good_event running.operation (response_of running t.1)) running.operation (good_word running.operation (response_of running t.1)) t.0 t.1)
    (moved_does (moves_session running.operation) (good_event running.operation (response_of running t.1)) running (good_word running.operation (response_of running t.1)) t.0 t.1 (k.operation ∙ e) (good_is_word running.operation (response_of running t.1)))

refused_word : (managed is_zero : Bool) → managed ≡ true → is_zero ≡ false → (managed && not is_zero) ≡ true
refused_word true false h e = refl
refused_word true true h e = cc
refused_word false is_zero h e = cc

managed_as : (c : Bool) (running : Running) (status : ℕ) (o : OutboxState) (s : InitiatorState) → nat_eq status 0 ≡ c → s.operation ≡ Some running → is_managed running.operation ≡ true → Does o s (drop_if (c && ends_list (Some running.operation)) s.lists.slots.present) None false None (cond c (then_step (good_end running) (drop_where (ends_list (Some running.operation)) o s)) (end_step running.operation (words.Refused status) o (moved running.operation bad s)))
managed_as true running status o s z e m = good_does running o s e
managed_as false running status o s z e m =
    moved_does (moves_session running.operation) bad running (words.Refused status) o s e (refused_word (is_managed running.operation) (nat_eq status 0) m z)

pub managed_does : (running : Running) (status : ℕ) (o : OutboxState) (s : InitiatorState) → s.operation ≡ Some running → is_managed running.operation ≡ true → Does o s (drop_if (nat_eq status 0 && ends_list (Some running.operation)) s.lists.slots.present) None false None (managed_step running status o s)
managed_does running status o s e m = managed_as (nat_eq status 0) running status o s refl e m

-- ---- the target's ROM

unit_does : (unit : Option SbpUnit) (act : ℕ) (o : OutboxState) (s t : InitiatorState) → t.operation ≡ s.operation → IsFor operations.Rom act s.operation → t.layer ≡ s.layer → t.counts ≡ s.counts → t.number ≡ s.number → t.target ≡ s.target → KeepsMarks s t → Does o s None None false None (with_unit unit act o t)
unit_does None act o s t op f layer counts number target marks =
    own_does act words.NoUnit o s t op (own_word operations.Rom act words.NoUnit s.operation refl f) layer counts number target marks
unit_does (Some unit) act o s t op f layer counts number target marks =
    own_does act words.Done o s (record t { management = Some (management_at unit.management) }) op (own_word operations.Rom act words.Done s.operation refl f) layer counts number target marks

rom_does : (read : Result Tree RomFault) (act : ℕ) (o : OutboxState) (s t : InitiatorState) → t.operation ≡ s.operation → IsFor operations.Rom act s.operation → t.layer ≡ s.layer → t.counts ≡ s.counts → t.number ≡ s.number → t.target ≡ s.target → KeepsMarks s t → Does o s None None false None (with_rom read act o t)
rom_does (Ok tree) act o s t op f layer counts number target marks = unit_does (sbp_unit_of tree.blocks tree.entries) act o s t op f layer counts number target marks
rom_does (Err fault) act o s t op f layer counts number target marks =
    own_does act (words.Bad (fault_number fault)) o s t op (own_word operations.Rom act (words.Bad (fault_number fault)) s.operation refl f) layer counts number target marks

-- what a step does, with what it asks for: nothing, or the next quadlet of a ROM for the same action
pub record Ends (purpose : Purpose) (o : OutboxState) (s : InitiatorState) (drop : Option ℕ) (state : Option OpWord) (stuck : Bool) (t : Turn) : Type 0 where
  pub asking : Option Asking
  pub same : (a : Asking) → asking ≡ Some a → a.purpose ≡ purpose
  pub plain : (a : Asking) → asking ≡ Some a → is_numbered a.purpose ≡ false
  pub unread : (a : Asking) → asking ≡ Some a → read_act a.purpose ≡ None
  pub calm : (a : Asking) → asking ≡ Some a → is_busy (busy_of a.purpose) ≡ false
  pub does : Does o s drop state stuck asking t

none_some : {A B : Type 0} {a : A} → None ≡ Some a → B
none_some e = absurd (differ e)
  where
    differ : {A : Type 0} {a : A} → None ≡ Some a → ⊥
    differ e = cc

ends_plainly : (purpose : Purpose) (o : OutboxState) (s : InitiatorState) (drop : Option ℕ) (state : Option OpWord) (stuck : Bool) (t : Turn) → Does o s drop state stuck None t → Ends purpose o s drop state stuck t
ends_plainly purpose o s drop state stuck t d = record { asking = None; same = λ a e. none_some e; plain = λ a e. none_some e; unread = λ a e. none_some e; calm = λ a e. none_some e; does = d }

some_is : {A : Type 0} (a b : A) → Some a ≡ Some b → a ≡ b
some_is a b e = cc

asked_does : (r : Option Asked × Layer Purpose) (act : ℕ) (o : OutboxState) (s t : InitiatorState) → asking_step s.layer s.target (next_quad t.quads) (purposes.Rom act) ≡ r → IsFor operations.Rom act s.operation → t.operation ≡ s.operation → t.layer ≡ s.layer → t.counts ≡ s.counts → t.number ≡ s.number → t.target ≡ s.target → KeepsMarks s t → Ends (purposes.Rom act) o s None None false (asked_quad r act o t)
asked_does (None, layer) act o s t e f op same_layer counts number target marks =
    ends_plainly (purposes.Rom act) o s None None false (asked_quad (None, layer) act o t)
    (own_does act words.Error o s (record t { layer = layer }) op (fails_own act s.operation) (none_asked s.layer layer s.target (next_quad t.quads) (purposes.Rom act) (sym e)) counts number target marks)
asked_does (Some asked, layer) act o s t e f op same_layer counts number target marks =
    let a : Asking = record { body = next_quad t.quads; purpose = purposes.Rom act; asked = asked } in
    record {
      asking = Some a;
      same = λ b g. ap (λ (x : Asking). x.purpose) (sym (some_is a b g));
      plain = λ b g. ap (λ (x : Asking). is_numbered x.purpose) (sym (some_is a b g));
      unread = λ b g. ap (λ (x : Asking). read_act x.purpose) (sym (some_is a b g));
      calm = λ b g. ap (λ (x : Asking). is_busy (busy_of x.purpose)) (sym (some_is a b g));
      does = record {
        op = None;
        sides = sym (append-nil o.sides);
        move = op;
        wire = (e, ap (λ (n : ℕ). o.packets ++ outgoing n asked ∷ []) target);
        counts = counts;
        number = number;
        target = target;
        marks = marks;
        gone = tt;
      };
    }

asks_does : (act : ℕ) (o : OutboxState) (s t : InitiatorState) → IsFor operations.Rom act s.operation → t.operation ≡ s.operation → t.layer ≡ s.layer → t.counts ≡ s.counts → t.number ≡ s.number → t.target ≡ s.target → KeepsMarks s t → Ends (purposes.Rom act) o s None None false (ask_quad act o t)
asks_does act o s t f op layer counts number target marks =
    asked_does (asking_step t.layer t.target (next_quad t.quads) (purposes.Rom act)) act o s t
    (ap (λ (l : Layer Purpose). asking_step l s.target (next_quad t.quads) (purposes.Rom act)) (sym layer) ∙ ap (λ (n : ℕ). asking_step t.layer n (next_quad t.quads) (purposes.Rom act)) (sym target))
    f op layer counts number target marks

quad_as : (c : Bool) (act : ℕ) (o : OutboxState) (s t : InitiatorState) → IsFor operations.Rom act s.operation → t.operation ≡ s.operation → t.layer ≡ s.layer → t.counts ≡ s.counts → t.number ≡ s.number → t.target ≡ s.target → KeepsMarks s t → Ends (purposes.Rom act) o s None None false (cond c (finish_rom act o t) (ask_quad act o t))
quad_as true act o s t f op layer counts number target marks =
    ends_plainly (purposes.Rom act) o s None None false (finish_rom act o t) (rom_does (reading t.quads) act o s t op f layer counts number target marks)
quad_as false act o s t f op layer counts number target marks = asks_does act o s t f op layer counts number target marks

refused_rom : (c : Bool) (act : ℕ) (o : OutboxState) (s : InitiatorState) → IsFor operations.Rom act s.operation → Does o s None None false None (cond c (finish_rom act o s) (end_own_step act words.Error o s))
refused_rom true act o s f = rom_does (reading s.quads) act o s s refl f refl refl refl refl (λ x h. h)
refused_rom false act o s f = own_does act words.Error o s s refl (fails_own act s.operation) refl refl refl refl (λ x h. h)

rom_ends : (act : ℕ) (ending : Ending) (o : OutboxState) (s : InitiatorState) → IsFor operations.Rom act s.operation → Ends (purposes.Rom act) o s None None false (rom_ended act ending o s)
rom_ends act (endings.Complete value) o s f =
    let t = record s { quads = with_quad s.quads value } in
    quad_as (nat_eq (length t.quads) 256) act o s t f refl refl refl refl refl (λ x h. h)
rom_ends act (endings.Refused rcode) o s f = ends_plainly (purposes.Rom act) o s None None false _ (refused_rom (is_address rcode) act o s f)
rom_ends act endings.Expired o s f =
    ends_plainly (purposes.Rom act) o s None None false _ (own_does act words.Error o s s refl (fails_own act s.operation) refl refl refl refl (λ x h. h))

-- ---- the state of the agent

state_told_does : (act : ℕ) (word : OpWord) (o : OutboxState) (s : InitiatorState) → Does o s None (Some word) false None (state_told act word o s)
state_told_does act word o s = record {
  op = None;
  sides = refl;
  move = refl;
  wire = (refl, refl);
  counts = refl;
  number = refl;
  target = refl;
  marks = λ x h. h;
  gone = tt;
}

marked_drops : (c : Bool) (o : OutboxState) (s : InitiatorState) → Drops o s None (o, cond c (with_dead s) s)
marked_drops true o s = record { sides = sym (append-nil o.sides); operation = refl; layer = refl; packets = refl; counts = refl; number = refl; target = refl; marks = λ x h. h; gone = tt }
marked_drops false o s = none_drops o s

known_drops : (is_zero : Bool) (value : ℕ) (o : OutboxState) (s : InitiatorState) → Drops o s (drop_if is_zero s.lists.slots.present) (cond is_zero (drop_list_step o s) (o, cond (nat_eq value 3) (with_dead s) s))
known_drops true value o s = list_drops o s
known_drops false value o s = marked_drops (nat_eq value 3) o s

counted_drops : (counts : Bool) (value : ℕ) (o : OutboxState) (s : InitiatorState) → Drops o s (drop_if (counts && nat_eq value 0) s.lists.slots.present) (known_where counts value o s)
counted_drops true value o s = known_drops (nat_eq value 0) value o s
counted_drops false value o s = none_drops o s

state_does : (act : ℕ) (list : Option ℕ) (ending : Ending) (o : OutboxState) (s : InitiatorState) → Does o s (drop_if (state_drops list ending s.lists.slots.present) s.lists.slots.present) (Some (state_word ending)) false None (state_ended act list ending o s)
state_does act list (endings.Complete value) o s =
    let c = counts_for s.lists.slots.present list in
    let t = known_where c value o s in
    behind o s (drop_if (c && nat_eq value 0) s.lists.slots.present) (Some (words.State value)) t (state_told act (words.State value) t.0 t.1) (counted_drops c value o s) refl (state_told_does act (words.State value) t.0 t.1)
state_does act list (endings.Refused rcode) o s = state_told_does act words.Error o s
state_does act list endings.Expired o s = state_told_does act words.Error o s

-- ---- all of them

pub ended_does : (purpose : Purpose) (ending : Ending) (o : OutboxState) (s : InitiatorState) → Fits purpose s.operation → Ends purpose o s (drop_if (ends_the_list purpose ending s.lists.slots.present) s.lists.slots.present) (read_ends purpose ending) (sticks_by (fails_write purpose ending) s.seat) (ended_step purpose ending o s)
unfolding ended_step
ended_does (purposes.Pointer list) ending o s f = ends_plainly (purposes.Pointer list) o s None None _ _ (pointer_does list ending o s)
ended_does purposes.Doorbell ending o s f = ends_plainly purposes.Doorbell o s None None _ _ (doorbell_does ending o s)
ended_does (purposes.AgentReset act) (endings.Complete value) o s f =
    ends_plainly (purposes.AgentReset act) o s (present_list s.lists.slots.present) None false _ (reset_does act value o s f)
ended_does (purposes.AgentReset act) (endings.Refused rcode) o s f = ends_plainly (purposes.AgentReset act) o s None None _ _ (fail_does act o s)
ended_does (purposes.AgentReset act) endings.Expired o s f = ends_plainly (purposes.AgentReset act) o s None None _ _ (fail_does act o s)
ended_does (purposes.Enable act) ending o s f = ends_plainly (purposes.Enable act) o s None None _ _ (enable_does act ending o s f)
ended_does (purposes.Management act) ending o s f = ends_plainly (purposes.Management act) o s None None _ _ (management_does act ending o s f)
ended_does (purposes.Rom act) ending o s f = rom_ends act ending o s f
ended_does (purposes.State act list) ending o s f =
    ends_plainly (purposes.State act list) o s (drop_if (state_drops list ending s.lists.slots.present) s.lists.slots.present) (Some (state_word ending)) false _ (state_does act list ending o s)
