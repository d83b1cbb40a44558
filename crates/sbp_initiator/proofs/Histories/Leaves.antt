-- What the end of a transaction leaves of the slots, of what is known of the present list, and of the reads of AGENT_STATE.
use Rattle.std.proofs.Common.{◌≡◌, refl, sym, ap, ◌∙◌, ℕ, nat_eq, ◌&&◌, is_some, Bool, true, false, cond, List, [], ◌∷◌, ◌++◌, length, Option, Some, None, Result, Ok, Err}
use Rattle.label_table.specs.declared.judgement.Asked.{Asked}
use Rattle.label_table.specs.Layer.{Layer, asking_step}
use Rattle.config_rom.specs.declared.fault.RomFault.{RomFault}
use Rattle.config_rom.specs.declared.unit.SbpUnit.{SbpUnit}
use Rattle.config_rom.specs.Reading.{Tree, reading}
use Rattle.config_rom.specs.Unit.{sbp_unit_of}
use Rattle.bus_memory.specs.Memory.{Memory}
use Rattle.orb_list.specs.declared.list.PresentList.{PresentList}
use Rattle.orb_list.specs.Runs as slot_runs
use Rattle.orb_list.specs.Runs.{left_by}
use Rattle.orb_list.specs.Table.{SlotTable, drop_for, drop_step, unpin_step}
use Rattle.sbp_session.specs.declared.seat.Seat.{Seat}
use Rattle.sbp_session.specs.Moves.{Event, bad, conflict, pointed, failed, goes}
use Rattle.sbp_journal.specs.declared.operation.Operation.{Operation}
use Rattle.sbp_journal.specs.declared.operation.OpWord.{OpWord}
use Rattle.sbp_journal.specs.declared.operation.OpWord.TheVariants as words
use Rattle.sbp_journal.specs.Outgoings.{OutboxState}
use Rattle.sbp_initiator.specs.declared.purpose.Purpose.{Purpose}
use Rattle.sbp_initiator.specs.declared.purpose.Purpose.TheVariants as purposes
use Rattle.sbp_initiator.specs.declared.purpose.Ending.{Ending}
use Rattle.sbp_initiator.specs.declared.purpose.Ending.TheVariants as endings
use Rattle.sbp_initiator.specs.declared.purpose.ListMarks.{ListMarks}
use Rattle.sbp_initiator.specs.declared.purpose.Pointing.TheVariants as pointings
use Rattle.sbp_initiator.specs.declared.purpose.Running.{Running}
use Rattle.sbp_initiator.specs.declared.state.InitiatorState.{InitiatorState}
use Rattle.sbp_initiator.specs.Refusals.{ends_list}
use Rattle.orb_list.specs.Lists.{ListState, drop_lists, unpin_lists}
use Rattle.initiator_base.specs.Quads.{with_quad, without}
use Rattle.sbp_initiator.specs.States.{counts_for, is_list, no_marks}
use Rattle.initiator_base.specs.Places.{management_at}
use Rattle.sbp_initiator.specs.Effects.{stick_step, dropped_as, drop_list_step, end_step, end_own_for, end_own_step, then_step, with_answered, pointer_ended, doorbell_ended, fail_step, reset_ended, enable_ended, moves_session, moved, conflict_for, conflict_step, is_conflict, management_ended, response_of, good_event, good_word, drop_where, good_end, managed_step, fault_number, with_unit, with_rom, finish_rom, next_quad, asked_quad, ask_quad, is_address, rom_ended, with_dead, known_where, state_told, state_ended, ended_step, ended_for}
use Rattle.sbp_initiator.specs.Histories.Drops.{ends_the_list, state_drops}
use Rattle.sbp_initiator.specs.Histories.Marks.{read_over}
use Rattle.sbp_initiator.specs.Histories.Slots.{drop_calls, unpin_calls, has_ended}

-- ---- calls of the slots

abbrev pub Calls : Type 0
Calls = List slot_runs.Call

-- what they leave of slots and their memory, the latest first
abbrev pub left_all : Calls → SlotTable × Memory → SlotTable × Memory
left_all [] p = p
left_all (call ∷ calls) p = left_by call (left_all calls p).0 (left_all calls p).1

abbrev pub parts : ListState → SlotTable × Memory
parts lists = (lists.slots, lists.memory)

-- ---- what a step leaves

abbrev pub EndsOr : Bool → Option Running → Option Running → Type 0
EndsOr true before after = (is_some before ≡ true) × (after ≡ None)
EndsOr false before after = after ≡ before

-- The slots are as these calls leave them, and behind them the pin ended where the operation under way did.
pub record Leaves (calls : Calls) (known : ListMarks) (reads : List ℕ) (s t : InitiatorState) : Type 0 where
  pub ended : Bool
  pub operation : EndsOr ended s.operation t.operation
  pub table : t.lists.slots ≡ (left_all (unpin_calls ended ++ calls) (parts s.lists)).0
  pub memory : t.lists.memory ≡ (left_all (unpin_calls ended ++ calls) (parts s.lists)).1
  pub marks : t.marks ≡ known
  pub states : t.states ≡ reads

-- The same, and the operation stays.
pub record Keeps (calls : Calls) (known : ListMarks) (reads : List ℕ) (s t : InitiatorState) : Type 0 where
  pub operation : t.operation ≡ s.operation
  pub table : t.lists.slots ≡ (left_all calls (parts s.lists)).0
  pub memory : t.lists.memory ≡ (left_all calls (parts s.lists)).1
  pub marks : t.marks ≡ known
  pub states : t.states ≡ reads

module _ {calls : Calls} {known : ListMarks} {reads : List ℕ} {s t : InitiatorState} where
  pub kept : Keeps calls known reads s t → Leaves calls known reads s t
  kept k = record { ended = false; operation = k.operation; table = k.table; memory = k.memory; marks = k.marks; states = k.states }

  pub seated : (seat : Seat) → Leaves calls known reads s t → Leaves calls known reads s (record t { seat = seat })
  seated seat l = record { ended = l.ended; operation = l.operation; table = l.table; memory = l.memory; marks = l.marks; states = l.states }

  pub layered : (layer : Layer Purpose) → Leaves calls known reads s t → Leaves calls known reads s (record t { layer = layer })
  layered layer l = record { ended = l.ended; operation = l.operation; table = l.table; memory = l.memory; marks = l.marks; states = l.states }

-- a state that differs in nothing of these
pub same : (s t : InitiatorState) → t.operation ≡ s.operation → t.lists ≡ s.lists → t.marks ≡ s.marks → t.states ≡ s.states → Keeps [] s.marks s.states s t
same s t operation lists marks states = record {
  operation = operation;
  table = ap (λ (l : ListState). l.slots) lists;
  memory = ap (λ (l : ListState). l.memory) lists;
  marks = marks;
  states = states;
}

pub still : (s t : InitiatorState) → t.operation ≡ s.operation → t.lists ≡ s.lists → t.marks ≡ s.marks → t.states ≡ s.states → Leaves [] s.marks s.states s t
still s t operation lists marks states = kept (same s t operation lists marks states)

-- ---- an operation ends

pub end_leaves : (operation : Operation) (word : OpWord) (o : OutboxState) (s t : InitiatorState) → is_some s.operation ≡ true → t.lists ≡ s.lists → t.marks ≡ s.marks → t.states ≡ s.states → Leaves [] s.marks s.states s (end_step operation word o t).1
unfolding unpin_lists
end_leaves operation word o s t e lists marks states = record {
  ended = true;
  operation = (e, refl);
  table = ap (λ (l : ListState). (unpin_step l.slots l.memory).0) lists;
  memory = ap (λ (l : ListState). (unpin_step l.slots l.memory).1) lists;
  marks = marks;
  states = states;
}

own_as : (c : Bool) (running : Running) (word : OpWord) (o : OutboxState) (s t : InitiatorState) → t.operation ≡ s.operation → is_some s.operation ≡ true → t.lists ≡ s.lists → t.marks ≡ s.marks → t.states ≡ s.states → Leaves [] s.marks s.states s (cond c (end_step running.operation word o t) (o, t)).1
own_as true running word o s t operation e lists marks states = end_leaves running.operation word o s t e lists marks states
own_as false running word o s t operation e lists marks states = still s t operation lists marks states

own_for : (r : Option Running) (act : ℕ) (word : OpWord) (o : OutboxState) (s t : InitiatorState) → s.operation ≡ r → t.operation ≡ s.operation → t.lists ≡ s.lists → t.marks ≡ s.marks → t.states ≡ s.states → Leaves [] s.marks s.states s (end_own_for r act word o t).1
own_for None act word o s t e operation lists marks states = still s t operation lists marks states
own_for (Some running) act word o s t e operation lists marks states =
    own_as (nat_eq running.act act) running word o s t operation (ap is_some e) lists marks states

own_leaves : (act : ℕ) (word : OpWord) (o : OutboxState) (s t : InitiatorState) → t.operation ≡ s.operation → t.lists ≡ s.lists → t.marks ≡ s.marks → t.states ≡ s.states → Leaves [] s.marks s.states s (end_own_step act word o t).1
own_leaves act word o s t operation lists marks states = own_for t.operation act word o s t (sym operation) operation lists marks states

fail_leaves : (act : ℕ) (o : OutboxState) (s : InitiatorState) → Leaves [] s.marks s.states s (fail_step act o s).1
fail_leaves act o s =
    let t = (end_own_step act words.Error o s).1 in
    seated (goes failed t.seat) (own_leaves act words.Error o s s refl refl refl refl)

-- ---- a list is dropped, or none, and then another step

abbrev pub gone_marks : Bool → Option PresentList → ListMarks → ListMarks
gone_marks true (Some list) marks = no_marks
gone_marks true None marks = marks
gone_marks false present marks = marks

record Gone (present : Option PresentList) (s t : InitiatorState) : Type 0 where
  operation : t.operation ≡ s.operation
  table : t.lists.slots ≡ (drop_for present s.lists.slots).1
  memory : t.lists.memory ≡ s.lists.memory
  marks : t.marks ≡ gone_marks true present s.marks
  states : t.states ≡ s.states

gone_as : (present : Option PresentList) (o : OutboxState) (s : InitiatorState) → Gone present s (dropped_as ((drop_for present s.lists.slots).0, record s.lists { slots = (drop_for present s.lists.slots).1 }) o s).1
gone_as None o s = record { operation = refl; table = refl; memory = refl; marks = refl; states = refl }
gone_as (Some list) o s = record { operation = refl; table = refl; memory = refl; marks = refl; states = refl }

pub drops_keep : (o : OutboxState) (s : InitiatorState) → Keeps (slot_runs.DropList ∷ []) (gone_marks true s.lists.slots.present s.marks) s.states s (drop_list_step o s).1
unfolding drop_lists drop_step
drops_keep o s =
    let g = gone_as s.lists.slots.present o s in
    record { operation = g.operation; table = g.table; memory = g.memory; marks = g.marks; states = g.states }

where_keeps : (c : Bool) (o : OutboxState) (s : InitiatorState) → Keeps (drop_calls c) (gone_marks c s.lists.slots.present s.marks) s.states s (drop_where c o s).1
where_keeps true o s = drops_keep o s
where_keeps false o s = same s s refl refl refl refl

-- the pin, behind what was kept
unpinned : (ended : Bool) (calls : Calls) (p q : SlotTable × Memory) → q.0 ≡ (left_all calls p).0 → q.1 ≡ (left_all calls p).1 → left_all (unpin_calls ended ++ []) (q.0, q.1) ≡ left_all (unpin_calls ended ++ calls) p
unpinned true calls p q e f =
    ap (λ (t : SlotTable). unpin_step t q.1) e ∙ ap (λ (m : Memory). unpin_step (left_all calls p).0 m) f
unpinned false calls p q e f =
    ap (λ (t : SlotTable). (t, q.1)) e ∙ ap (λ (m : Memory). ((left_all calls p).0, m)) f

ends_on : (ended : Bool) (a b c : Option Running) → b ≡ a → EndsOr ended b c → EndsOr ended a c
ends_on true a b c e h = (ap is_some (sym e) ∙ h.0, h.1)
ends_on false a b c e h = h ∙ e

pub then_leaves : {calls : Calls} {known last : ListMarks} {reads over : List ℕ} {s t u : InitiatorState} → Keeps calls known reads s t → Leaves [] last over t u → Leaves calls last over s u
then_leaves {calls} {known} {last} {reads} {over} {s} {t} {u} k l =
    let e = unpinned l.ended calls (parts s.lists) (parts t.lists) k.table k.memory in
    record {
      ended = l.ended;
      operation = ends_on l.ended s.operation t.operation u.operation k.operation l.operation;
      table = l.table ∙ ap (λ (p : SlotTable × Memory). p.0) e;
      memory = l.memory ∙ ap (λ (p : SlotTable × Memory). p.1) e;
      marks = l.marks;
      states = l.states;
    }

-- with what is known put in other words
pub known_as : {calls : Calls} {a b : ListMarks} {x y : List ℕ} {s t : InitiatorState} → a ≡ b → x ≡ y → Leaves calls a x s t → Leaves calls b y s t
known_as e f l = record { ended = l.ended; operation = l.operation; table = l.table; memory = l.memory; marks = l.marks ∙ e; states = l.states ∙ f }

-- ---- by what the transaction was for

-- what is known of the present list behind it
abbrev pub answered_marks : Bool → ListMarks → ListMarks
answered_marks true marks = record marks { pointing = pointings.Answered }
answered_marks false marks = marks

abbrev pub dead_marks : Bool → ListMarks → ListMarks
dead_marks true marks = record marks { is_dead = true }
dead_marks false marks = marks

abbrev pub state_marks : (counts is_zero is_three : Bool) → Option PresentList → ListMarks → ListMarks
state_marks true true three present marks = gone_marks true present marks
state_marks true false three present marks = dead_marks three marks
state_marks false zero three present marks = marks

abbrev pub purpose_marks : Purpose → Ending → Option PresentList → ListMarks → ListMarks
purpose_marks (purposes.Pointer list) (endings.Complete value) present marks = answered_marks (is_list present list) marks
purpose_marks (purposes.AgentReset act) (endings.Complete value) present marks = gone_marks true present marks
purpose_marks (purposes.State act list) (endings.Complete value) present marks =
    state_marks (counts_for present list) (nat_eq value 0) (nat_eq value 3) present marks
purpose_marks _ ending present marks = marks

stick_leaves : (o : OutboxState) (s : InitiatorState) → Leaves [] s.marks s.states s (stick_step o s).1
stick_leaves o s = still s (stick_step o s).1 refl refl refl refl

pointed_as : (c : Bool) (s : InitiatorState) → Leaves [] (answered_marks c s.marks) s.states s (cond c (with_answered (record s { seat = goes pointed s.seat })) (record s { seat = goes pointed s.seat }))
pointed_as true s = record { ended = false; operation = refl; table = refl; memory = refl; marks = refl; states = refl }
pointed_as false s = record { ended = false; operation = refl; table = refl; memory = refl; marks = refl; states = refl }

pointer_leaves : (list : ℕ) (ending : Ending) (o : OutboxState) (s : InitiatorState) → Leaves [] (purpose_marks (purposes.Pointer list) ending s.lists.slots.present s.marks) s.states s (pointer_ended list ending o s).1
pointer_leaves list (endings.Complete value) o s = pointed_as (is_list s.lists.slots.present list) s
pointer_leaves list (endings.Refused rcode) o s = stick_leaves o s
pointer_leaves list endings.Expired o s = stick_leaves o s

doorbell_leaves : (ending : Ending) (o : OutboxState) (s : InitiatorState) → Leaves [] s.marks s.states s (doorbell_ended ending o s).1
doorbell_leaves (endings.Complete value) o s = still s s refl refl refl refl
doorbell_leaves (endings.Refused rcode) o s = stick_leaves o s
doorbell_leaves endings.Expired o s = stick_leaves o s

reset_leaves : (act value : ℕ) (o : OutboxState) (s : InitiatorState) → Leaves (slot_runs.DropList ∷ []) (gone_marks true s.lists.slots.present s.marks) s.states s (reset_ended act (endings.Complete value) o s).1
reset_leaves act value o s =
    let t = drop_list_step o s in
    let k = drops_keep o s in
    known_as k.marks k.states (then_leaves k (own_leaves act words.Done t.0 t.1 t.1 refl refl refl refl))

enable_leaves : (act : ℕ) (ending : Ending) (o : OutboxState) (s : InitiatorState) → Leaves [] s.marks s.states s (enable_ended act ending o s).1
enable_leaves act (endings.Complete value) o s = own_leaves act words.Done o s s refl refl refl refl
enable_leaves act (endings.Refused rcode) o s = fail_leaves act o s
enable_leaves act endings.Expired o s = fail_leaves act o s

-- an operation ends, as the session moves or not
moved_leaves : (c : Bool) (event : Event) (operation : Operation) (word : OpWord) (o : OutboxState) (s : InitiatorState) → is_some s.operation ≡ true → Leaves [] s.marks s.states s (end_step operation word o (cond c (record s { seat = goes event s.seat }) s)).1
moved_leaves true event operation word o s e = end_leaves operation word o s (record s { seat = goes event s.seat }) e refl refl refl
moved_leaves false event operation word o s e = end_leaves operation word o s s e refl refl refl

conflict_as : (c : Bool) (running : Running) (o : OutboxState) (s : InitiatorState) → is_some s.operation ≡ true → Leaves [] s.marks s.states s (cond c (end_step running.operation words.Conflict o (moved running.operation conflict s)) (o, s)).1
conflict_as true running o s e = moved_leaves (moves_session running.operation) conflict running.operation words.Conflict o s e
conflict_as false running o s e = still s s refl refl refl refl

conflict_leaves : (r : Option Running) (act : ℕ) (o : OutboxState) (s : InitiatorState) → s.operation ≡ r → Leaves [] s.marks s.states s (conflict_for r act o s).1
conflict_leaves None act o s e = still s s refl refl refl refl
conflict_leaves (Some running) act o s e = conflict_as (nat_eq running.act act) running o s (ap is_some e)

refused_leaves : (c : Bool) (act : ℕ) (o : OutboxState) (s : InitiatorState) → Leaves [] s.marks s.states s (cond c (conflict_step act o s) (fail_step act o s)).1
refused_leaves true act o s = conflict_leaves s.operation act o s refl
refused_leaves false act o s = fail_leaves act o s

management_leaves : (act : ℕ) (ending : Ending) (o : OutboxState) (s : InitiatorState) → Leaves [] s.marks s.states s (management_ended act ending o s).1
management_leaves act (endings.Complete value) o s = still s s refl refl refl refl
management_leaves act (endings.Refused rcode) o s = refused_leaves (is_conflict rcode) act o s
management_leaves act endings.Expired o s = fail_leaves act o s

-- ---- a status of a management ORB

good_leaves : (running : Running) (o : OutboxState) (s : InitiatorState) → is_some s.operation ≡ true → Leaves (drop_calls (ends_list (Some running.operation))) (gone_marks (ends_list (Some running.operation)) s.lists.slots.present s.marks) s.states s (then_step (good_end running) (drop_where (ends_list (Some running.operation)) o s)).1
good_leaves running o s e =
    let t = drop_where (ends_list (Some running.operation)) o s in
    let k = where_keeps (ends_list (Some running.operation)) o s in
    known_as k.marks k.states
    (then_leaves k (moved_leaves (moves_session running.operation) (good_event running.operation (response_of running t.1)) running.operation (good_word running.operation (response_of running t.1)) t.0 t.1 (ap is_some k.operation ∙ e)))

managed_as : (c : Bool) (running : Running) (status : ℕ) (o : OutboxState) (s : InitiatorState) → is_some s.operation ≡ true → Leaves (drop_calls (c && ends_list (Some running.operation))) (gone_marks (c && ends_list (Some running.operation)) s.lists.slots.present s.marks) s.states s (cond c (then_step (good_end running) (drop_where (ends_list (Some running.operation)) o s)) (end_step running.operation (words.Refused status) o (moved running.operation bad s))).1
managed_as true running status o s e = good_leaves running o s e
managed_as false running status o s e =
    moved_leaves (moves_session running.operation) bad running.operation (words.Refused status) o s e

pub managed_leaves : (running : Running) (status : ℕ) (o : OutboxState) (s : InitiatorState) → is_some s.operation ≡ true → Leaves (drop_calls (nat_eq status 0 && ends_list (Some running.operation))) (gone_marks (nat_eq status 0 && ends_list (Some running.operation)) s.lists.slots.present s.marks) s.states s (managed_step running status o s).1
managed_leaves running status o s e = managed_as (nat_eq status 0) running status o s e

-- ---- the target's ROM

unit_leaves : (unit : Option SbpUnit) (act : ℕ) (o : OutboxState) (s t : InitiatorState) → t.operation ≡ s.operation → t.lists ≡ s.lists → t.marks ≡ s.marks → t.states ≡ s.states → Leaves [] s.marks s.states s (with_unit unit act o t).1
unit_leaves None act o s t operation lists marks states = own_leaves act words.NoUnit o s t operation lists marks states
unit_leaves (Some unit) act o s t operation lists marks states =
    own_leaves act words.Done o s (record t { management = Some (management_at unit.management) }) operation lists marks states

rom_leaves : (read : Result Tree RomFault) (act : ℕ) (o : OutboxState) (s t : InitiatorState) → t.operation ≡ s.operation → t.lists ≡ s.lists → t.marks ≡ s.marks → t.states ≡ s.states → Leaves [] s.marks s.states s (with_rom read act o t).1
rom_leaves (Ok tree) act o s t operation lists marks states = unit_leaves (sbp_unit_of tree.blocks tree.entries) act o s t operation lists marks states
rom_leaves (Err fault) act o s t operation lists marks states =
    own_leaves act (words.Bad (fault_number fault)) o s t operation lists marks states

asked_leaves : (r : Option Asked × Layer Purpose) (act : ℕ) (o : OutboxState) (s t : InitiatorState) → t.operation ≡ s.operation → t.lists ≡ s.lists → t.marks ≡ s.marks → t.states ≡ s.states → Leaves [] s.marks s.states s (asked_quad r act o t).1
asked_leaves (None, layer) act o s t operation lists marks states =
    own_leaves act words.Error o s (record t { layer = layer }) operation lists marks states
asked_leaves (Some asked, layer) act o s t operation lists marks states =
    still s (record t { layer = layer }) operation lists marks states

quad_leaves : (c : Bool) (act : ℕ) (o : OutboxState) (s t : InitiatorState) → t.operation ≡ s.operation → t.lists ≡ s.lists → t.marks ≡ s.marks → t.states ≡ s.states → Leaves [] s.marks s.states s (cond c (finish_rom act o t) (ask_quad act o t)).1
quad_leaves true act o s t operation lists marks states = rom_leaves (reading t.quads) act o s t operation lists marks states
quad_leaves false act o s t operation lists marks states =
    asked_leaves (asking_step t.layer t.target (next_quad t.quads) (purposes.Rom act)) act o s t operation lists marks states

refused_rom : (c : Bool) (act : ℕ) (o : OutboxState) (s : InitiatorState) → Leaves [] s.marks s.states s (cond c (finish_rom act o s) (end_own_step act words.Error o s)).1
refused_rom true act o s = rom_leaves (reading s.quads) act o s s refl refl refl refl
refused_rom false act o s = own_leaves act words.Error o s s refl refl refl refl

rom_ends : (act : ℕ) (ending : Ending) (o : OutboxState) (s : InitiatorState) → Leaves [] s.marks s.states s (rom_ended act ending o s).1
rom_ends act (endings.Complete value) o s =
    let t = record s { quads = with_quad s.quads value } in quad_leaves (nat_eq (length t.quads) 256) act o s t refl refl refl refl
rom_ends act (endings.Refused rcode) o s = refused_rom (is_address rcode) act o s
rom_ends act endings.Expired o s = own_leaves act words.Error o s s refl refl refl refl

-- ---- the state of the agent

-- the read is over, behind what was kept
told_leaves : {calls : Calls} {known : ListMarks} (act : ℕ) (word : OpWord) (o : OutboxState) (s t : InitiatorState) → Keeps calls known s.states s t → Leaves calls known (without act s.states) s (state_told act word o t).1
told_leaves act word o s t k = record {
  ended = false;
  operation = k.operation;
  table = k.table;
  memory = k.memory;
  marks = k.marks;
  states = ap (λ (acts : List ℕ). without act acts) k.states;
}

dead_keeps : (three : Bool) (s : InitiatorState) → Keeps [] (dead_marks three s.marks) s.states s (cond three (with_dead s) s)
dead_keeps true s = record { operation = refl; table = refl; memory = refl; marks = refl; states = refl }
dead_keeps false s = same s s refl refl refl refl

known_keeps : (zero three : Bool) (o : OutboxState) (s : InitiatorState) → Keeps (drop_calls zero) (state_marks true zero three s.lists.slots.present s.marks) s.states s (cond zero (drop_list_step o s) (o, cond three (with_dead s) s)).1
known_keeps true three o s = drops_keep o s
known_keeps false three o s = dead_keeps three s

counted_keeps : (counts : Bool) (value : ℕ) (o : OutboxState) (s : InitiatorState) → Keeps (drop_calls (counts && nat_eq value 0)) (state_marks counts (nat_eq value 0) (nat_eq value 3) s.lists.slots.present s.marks) s.states s (known_where counts value o s).1
counted_keeps true value o s = known_keeps (nat_eq value 0) (nat_eq value 3) o s
counted_keeps false value o s = same s s refl refl refl refl

state_leaves : (act : ℕ) (list : Option ℕ) (ending : Ending) (o : OutboxState) (s : InitiatorState) → Leaves (drop_calls (state_drops list ending s.lists.slots.present)) (purpose_marks (purposes.State act list) ending s.lists.slots.present s.marks) (without act s.states) s (state_ended act list ending o s).1
state_leaves act list (endings.Complete value) o s =
    let c = counts_for s.lists.slots.present list in
    let t = known_where c value o s in
    told_leaves act (words.State value) t.0 s t.1 (counted_keeps c value o s)
state_leaves act list (endings.Refused rcode) o s = told_leaves act words.Error o s s (same s s refl refl refl refl)
state_leaves act list endings.Expired o s = told_leaves act words.Error o s s (same s s refl refl refl refl)

-- ---- all of them

ended_leaves : (purpose : Purpose) (ending : Ending) (o : OutboxState) (s : InitiatorState) → Leaves (drop_calls (ends_the_list purpose ending s.lists.slots.present)) (purpose_marks purpose ending s.lists.slots.present s.marks) (read_over (Some purpose) s.states) s (ended_step purpose ending o s).1
unfolding ended_step
ended_leaves (purposes.Pointer list) ending o s = pointer_leaves list ending o s
ended_leaves purposes.Doorbell ending o s = doorbell_leaves ending o s
ended_leaves (purposes.AgentReset act) (endings.Complete value) o s = reset_leaves act value o s
ended_leaves (purposes.AgentReset act) (endings.Refused rcode) o s = fail_leaves act o s
ended_leaves (purposes.AgentReset act) endings.Expired o s = fail_leaves act o s
ended_leaves (purposes.Enable act) ending o s = enable_leaves act ending o s
ended_leaves (purposes.Management act) ending o s = management_leaves act ending o s
ended_leaves (purposes.Rom act) ending o s = rom_ends act ending o s
ended_leaves (purposes.State act list) ending o s = state_leaves act list ending o s

-- a transaction that is for nobody leaves all
abbrev pub for_drops : Option Purpose → Ending → Option PresentList → Bool
for_drops None ending present = false
for_drops (Some purpose) ending present = ends_the_list purpose ending present

abbrev pub for_marks : Option Purpose → Ending → Option PresentList → ListMarks → ListMarks
for_marks None ending present marks = marks
for_marks (Some purpose) ending present marks = purpose_marks purpose ending present marks

pub for_leaves : (purpose : Option Purpose) (ending : Ending) (o : OutboxState) (s : InitiatorState) → Leaves (drop_calls (for_drops purpose ending s.lists.slots.present)) (for_marks purpose ending s.lists.slots.present s.marks) (read_over purpose s.states) s (ended_for purpose ending o s).1
for_leaves None ending o s = still s s refl refl refl refl
for_leaves (Some purpose) ending o s = ended_leaves purpose ending o s

-- ---- the operation that was under way

ended_is : (ended : Bool) (before after : Option Running) → EndsOr ended before after → has_ended before after ≡ ended
ended_is true None after h = absurd (untrue h.0)
  where
    untrue : false ≡ true → ⊥
    untrue e = cc
ended_is true (Some running) after h = ap (λ (r : Option Running). has_ended (Some running) r) h.1
ended_is false before after h = ap (λ (r : Option Running). has_ended before r) h ∙ not_ended before
  where
    not_ended : (r : Option Running) → has_ended r r ≡ false
    not_ended None = refl
    not_ended (Some running) = refl

-- by what the operation was and is
pub has_left : {calls : Calls} {known : ListMarks} {reads : List ℕ} {s t : InitiatorState} → Leaves calls known reads s t → parts t.lists ≡ left_all (unpin_calls (has_ended s.operation t.operation) ++ calls) (parts s.lists)
has_left {calls} {known} {reads} {s} {t} l =
    let p = left_all (unpin_calls l.ended ++ calls) (parts s.lists) in
    ap (λ (x : SlotTable). (x, t.lists.memory)) l.table ∙ ap (λ (m : Memory). (p.0, m)) l.memory
    ∙ ap (λ (c : Bool). left_all (unpin_calls c ++ calls) (parts s.lists)) (sym (ended_is l.ended s.operation t.operation l.operation))
