-- An action of an initiator.
use Rattle.sbp_world.proofs.Words.Std.{arith, ◌≡◌, refl, sym, ◌∙◌, ap, subst, ℕ, ◌+◌, ◌==◌, not, is_some, Bool, true, false, cond, List, [], ◌∷◌, Option, Some, None, Result, Ok, Err, nat_tests}
use Rattle.sbp_world.proofs.Words.Wire.{Label, Layer, Moment, said, OutboxState, buffer_of, Action, Cmd, Operation, Refusals, refusal_of}
use Rattle.sbp_world.proofs.Words.Initiator.{Memory, ManagementOrb, ListFault, Linking, PresentList, Slot, TicketParts, Asked, SlotTable, may_prepare, next_ticket, waits_low, waits_high, find_in, waiting, Demand, goes, pointing, Purpose, InitiatorState, ListState, dummy_lists, high_lists, low_lists, manage_lists, pin_lists, stepped, with_slots, asked_by, prepared_as, put_lists, refusal, rows_of, is_unwritten, last_linked, Turn, told, act_step, append_step, asked_as, asked_for, begun, demand_of, demanded_as, done_step, dummy_for, facts_with, judged_as, link_as, link_step, login_id, login_orb, low_as, low_step, manage_start, managed_by, orb_by, pinned_for, put_as, put_step, ring_for, ring_step}
use Rattle.sbp_world.proofs.Words.World.{AreRows, behind, Beside, Listed, Pinned, Pins}
use Rattle.orb_list.specs.Table as table
use Rattle.sbp_journal.specs.declared.event.Action.TheVariants as actions
use Rattle.sbp_journal.specs.declared.note.Note.TheVariants as notes
use Rattle.sbp_journal.specs.declared.operation.Operation.TheVariants as operations
use Rattle.sbp_initiator.specs.declared.purpose.Pointing.TheVariants as pointings
use Rattle.sbp_initiator.proofs.Histories.Actions.{Allowed, allowed, allowed_layer}
use Rattle.sbp_world.proofs.Hosts.Appends.{append_rows}
use Rattle.sbp_world.proofs.Hosts.Beside.{beside_rests}
use Rattle.sbp_world.proofs.Hosts.Told.{low_told, high_told}
use Rattle.sbp_world.specs.Hosts.Calls.{Left}
use Rattle.sbp_world.proofs.Hosts.Listed.{pin_of_none, tells, tells_beside, counted_rows}

module _ (past : List Moment) where
  -- ---- steps of a list

  first_listed : (b : Bool) (o : OutboxState) (s u : InitiatorState) → u.number ≡ s.number → u.lists ≡ s.lists → u.operation ≡ s.operation → Listed past (o, s) → Listed past (o, cond b u s)
  first_listed false o s u n l p h = h
  first_listed true o s u n l p h = record {
    rows = subst (λ i. AreRows (behind o.sides past) i u.lists.slots) (sym n) (subst (λ x. AreRows (behind o.sides past) s.number x.slots) (sym l) h.rows);
    pin = subst (λ x. Pins u.operation x.slots.pinned) (sym l) (subst (λ x. Pins x s.lists.slots.pinned) (sym p) h.pin);
    beside = subst (λ i. Beside past i o.sides) (sym n) h.beside;
  }

  put_cases : (cmd : Cmd) (asked : Asked) (o : OutboxState) (s : InitiatorState) (found : Result ℕ ListFault) → may_prepare s.lists.slots ≡ found → Listed past (o, s) → Listed past (put_as (prepared_as (table.prepare_at found s.lists.slots s.lists.memory asked) s.lists cmd) cmd o s)
  put_cases cmd asked o s (Err fault) e h = record { rows = h.rows; pin = h.pin; beside = h.beside }
  put_cases cmd asked o s (Ok slot) e h =
      let t = next_ticket s.lists.slots slot asked.login in
      let lists = (prepared_as (table.prepare_at (Ok slot) s.lists.slots s.lists.memory asked) s.lists cmd).1 in
      first_listed (t.number == 0) (told o (notes.Append s.number t.list t.number cmd.cdb (buffer_of cmd))) (record s { lists = lists }) _ refl refl refl
      (record {
        rows = tells past s.number (table.added s.lists.slots t) o (notes.Append s.number t.list t.number cmd.cdb (buffer_of cmd)) (append_rows (behind o.sides past) s.number cmd.cdb (buffer_of cmd) s.lists.slots slot asked.login h.rows e);
        pin = h.pin;
        beside = tells_beside past s.number o (notes.Append s.number t.list t.number cmd.cdb (buffer_of cmd)) (λ j e. ap not e) h.beside;
      })

  put_listed : (cmd : Cmd) (o : OutboxState) (s : InitiatorState) → Listed past (o, s) → Listed past (put_step cmd o s)
  unfolding put_lists table.prepare_step
  put_listed cmd o s h = put_cases cmd (asked_by cmd s.layer.node (login_id s)) o s (may_prepare s.lists.slots) refl h

  low_cases : (o : OutboxState) (s : InitiatorState) (found : Option Linking) → waits_low s.lists.slots.present ≡ found → Listed past (o, s) → Listed past (low_as (stepped (table.low_for found s.lists.slots s.lists.memory) s.lists) o s)
  unfolding table.low_step
  low_cases o s None e h = record { rows = h.rows; pin = h.pin; beside = h.beside }
  low_cases o s (Some linking) e h = record {
    rows = tells past s.number _ o (notes.Low s.number linking.tail.list linking.tail.number)
        (subst (λ x. AreRows (said (notes.Low s.number linking.tail.list linking.tail.number) ∷ behind o.sides past) s.number (table.low_for x s.lists.slots s.lists.memory).1.0) e (low_told (behind o.sides past) s.number s.lists.slots h.rows linking s.lists.memory e));
    pin = h.pin;
    beside = tells_beside past s.number o (notes.Low s.number linking.tail.list linking.tail.number) (λ j e. ap not e) h.beside;
  }

  low_listed : (o : OutboxState) (s : InitiatorState) → Listed past (o, s) → Listed past (low_step o s)
  unfolding low_lists table.low_step
  low_listed o s h = low_cases o s (waits_low s.lists.slots.present) refl h

  link_cases : (o : OutboxState) (s : InitiatorState) (found : Option Linking) → waits_high s.lists.slots.present ≡ found → Listed past (o, s) → Listed past (link_as (stepped (table.high_for found s.lists.slots s.lists.memory) s.lists) o s)
  unfolding table.high_step
  link_cases o s None e h = record { rows = h.rows; pin = h.pin; beside = h.beside }
  link_cases o s (Some linking) e h = record {
    rows = tells past s.number _ o (notes.Linked s.number linking.tail.list linking.tail.number)
        (subst (λ x. AreRows (said (notes.Linked s.number linking.tail.list linking.tail.number) ∷ behind o.sides past) s.number (table.high_for x s.lists.slots s.lists.memory).1.0) e (high_told (behind o.sides past) s.number s.lists.slots h.rows linking s.lists.memory e));
    pin = h.pin;
    beside = tells_beside past s.number o (notes.Linked s.number linking.tail.list linking.tail.number) (λ j e. ap not e) h.beside;
  }

  link_listed : (o : OutboxState) (s : InitiatorState) → Listed past (o, s) → Listed past (link_step o s)
  unfolding high_lists table.high_step
  link_listed o s h = link_cases o s (waits_high s.lists.slots.present) refl h

  ring_cases : (o : OutboxState) (s : InitiatorState) (found : Option PresentList) → Listed past (o, s) → Listed past (ring_for found o s)
  ring_cases o s None h = h
  ring_cases o s (Some list) h = rung (is_unwritten s.marks.pointing)
    where
      note_told : AreRows (behind (ring_for (Some list) o s).0.sides past) s.number s.lists.slots
      note_told = tells past s.number s.lists.slots o (notes.Rung s.number list.tail.list (last_linked list)) (beside_rests (behind o.sides past) s.number s.lists.slots h.rows (notes.Rung s.number list.tail.list (last_linked list)) refl)

      rung : (b : Bool) → Listed past ((ring_for (Some list) o s).0, cond b (record s { marks = record s.marks { pointing = pointings.Written }; seat = goes pointing s.seat }) (record s { counts = record s.counts { running = s.counts.running + 1 } }))
      rung true = record { rows = note_told; pin = h.pin; beside = tells_beside past s.number o (notes.Rung s.number list.tail.list (last_linked list)) (λ j e. refl) h.beside }
      rung false = record { rows = note_told; pin = h.pin; beside = tells_beside past s.number o (notes.Rung s.number list.tail.list (last_linked list)) (λ j e. refl) h.beside }

  ring_listed : (o : OutboxState) (s : InitiatorState) → Listed past (o, s) → Listed past (ring_step o s)
  ring_listed o s h = ring_cases o s s.lists.slots.present h

  append_listed : (cmd : Cmd) (o : OutboxState) (s : InitiatorState) → Listed past (o, s) → Listed past (append_step cmd o s)
  append_listed cmd o s h =
      let a = put_step cmd o s in
      let b = low_step a.0 a.1 in
      let c = link_step b.0 b.1 in
      ring_listed c.0 c.1 (link_listed b.0 b.1 (low_listed a.0 a.1 (put_listed cmd o s h)))

  dummy_rows : (t : TicketParts) (i : ℕ) (ms : List Moment) (s : SlotTable) (m : Memory) (found : Result (Unit {0}) ListFault) → AreRows ms i s → AreRows ms i (table.dummy_at found s m t).1.0
  dummy_rows t i ms s m (Err fault) r = r
  dummy_rows t i ms s m (Ok done) r = counted_rows ms i s (s.calls + 1) r

  dummy_pin : (t : TicketParts) (s : SlotTable) (m : Memory) (found : Result (Unit {0}) ListFault) → (table.dummy_at found s m t).1.0.pinned ≡ s.pinned
  dummy_pin t s m (Err fault) = refl
  dummy_pin t s m (Ok done) = refl

  dummy_listed : (o : OutboxState) (s : InitiatorState) (found : Option TicketParts) → Listed past (o, s) → Listed past (dummy_for found o s)
  unfolding dummy_lists table.dummy_step
  dummy_listed o s None h = h
  dummy_listed o s (Some t) h =
      let note = notes.Dummied s.number t.list t.number in
      let found = table.checked s.lists.slots t in
      record {
        rows = tells past s.number _ o note (dummy_rows t s.number (said note ∷ behind o.sides past) s.lists.slots s.lists.memory found (beside_rests (behind o.sides past) s.number s.lists.slots h.rows note refl));
        pin = subst (Pins s.operation) (sym (dummy_pin t s.lists.slots s.lists.memory found)) h.pin;
        beside = tells_beside past s.number o note (λ j e. refl) h.beside;
      }

  -- ---- an operation begins

  begun_listed : (operation : Operation) (managed : Option ℕ) (o : OutboxState) (s : InitiatorState) → s.operation ≡ None → Listed past (o, s) → Listed past (o, begun operation managed s)
  begun_listed operation managed o s free h = record {
    rows = h.rows;
    pin = pin_of_none operation s.lists.slots.pinned (subst (λ x. Pins x s.lists.slots.pinned) free h.pin);
    beside = h.beside;
  }

  managed_listed : (orb : ManagementOrb) (operation : Operation) (o : OutboxState) (s : InitiatorState) → s.operation ≡ None → Listed past (o, s) → Listed past (o, managed_by orb operation s)
  unfolding manage_lists
  managed_listed orb operation o s free h = record {
    rows = h.rows;
    pin = pin_of_none operation s.lists.slots.pinned (subst (λ x. Pins x s.lists.slots.pinned) free h.pin);
    beside = h.beside;
  }

-- ---- an abort waits for an ORB

row_free : (b : Bool) (n : ℕ) (rest : Option ℕ) → cond b (Some n) rest ≡ None → (b ≡ false) × (rest ≡ None)
row_free true n rest e = absurd (some_none e)
  where
    some_none : Some n ≡ None → ⊥
    some_none e = cc
row_free false n rest e = (refl, e)

-- no row of a refusal holds
pub record NoRow (r : Refusals) : Type 0 where
  pub stuck : r.stuck ≡ false
  pub wrong_state : r.wrong_state ≡ false
  pub no_rom : r.no_rom ≡ false
  pub waiting : r.waiting ≡ false
  pub mid_link : r.mid_link ≡ false
  pub not_linking : r.not_linking ≡ false
  pub dead_seen : r.dead_seen ≡ false
  pub no_orb : r.no_orb ≡ false
  pub no_slot : r.no_slot ≡ false

pub no_row : (r : Refusals) → refusal_of r ≡ None → NoRow r
no_row r e =
    let r10 = cond r.no_label (Some 10) None in
    let r9 = cond r.no_slot (Some 9) r10 in
    let r8 = cond r.no_orb (Some 8) r9 in
    let r7 = cond r.dead_seen (Some 7) r8 in
    let r6 = cond r.not_linking (Some 6) r7 in
    let r5 = cond r.mid_link (Some 5) r6 in
    let r4 = cond r.waiting (Some 4) r5 in
    let r3 = cond r.no_rom (Some 3) r4 in
    let r2 = cond r.wrong_state (Some 2) r3 in
    let e1 = row_free r.stuck 1 r2 e in
    let e2 = row_free r.wrong_state 2 r3 e1.1 in
    let e3 = row_free r.no_rom 3 r4 e2.1 in
    let e4 = row_free r.waiting 4 r5 e3.1 in
    let e5 = row_free r.mid_link 5 r6 e4.1 in
    let e6 = row_free r.not_linking 6 r7 e5.1 in
    let e7 = row_free r.dead_seen 7 r8 e6.1 in
    let e8 = row_free r.no_orb 8 r9 e7.1 in
    let e9 = row_free r.no_slot 9 r10 e8.1 in
    record { stuck = e1.0; wrong_state = e2.0; no_rom = e3.0; waiting = e4.0; mid_link = e5.0; not_linking = e6.0; dead_seen = e7.0; no_orb = e8.0; no_slot = e9.0 }

-- an action that no row refuses
pub record Goes (action : Action) (s : InitiatorState) : Type 0 where
  pub allowed : Allowed action s
  pub rows : NoRow (rows_of action (facts_with true s action))

pub goes_on : (action : Action) (s : InitiatorState) → refusal action (facts_with true s action) ≡ None → Goes action s
unfolding refusal
goes_on action s e = record { allowed = allowed action s e; rows = no_row (rows_of action (facts_with true s action)) e }

pub some_waits : (found : Option TicketParts) → not (is_some found) ≡ false → (u : TicketParts) × (found ≡ Some u)
some_waits None e = absurd (untrue e)
  where
    untrue : true ≡ false → ⊥
    untrue e = cc
some_waits (Some u) e = (u, refl)

-- the ORB that is found by a number has it
pub found_number : (slots : List Slot) (number : ℕ) (u : TicketParts) → find_in slots number ≡ Some u → u.number ≡ number
unfolding find_in
found_number [] number u e = absurd (none e)
  where
    none : None ≡ Some u → ⊥
    none e = cc
found_number (slot ∷ slots) number u e = by_test (found_number slots number u) (waiting slot) (table.has_number number (waiting slot)) refl e
  where
    by_test : (find_in slots number ≡ Some u → u.number ≡ number) → (found : Option TicketParts) (b : Bool) → table.has_number number found ≡ b → cond b found (find_in slots number) ≡ Some u → u.number ≡ number
    by_test behind found false h e = behind e
    by_test behind None true h e = absurd (untrue h)
      where
        untrue : false ≡ true → ⊥
        untrue e = cc
    by_test behind (Some v) true h e =
        let g : v ≡ u = cc in
        let n : v.number ≡ number = grind (arith, nat_tests) in
        ap (λ (x : TicketParts). x.number) (sym g) ∙ n

pin_cases : (number : ℕ) (o : OutboxState) (s v : InitiatorState) (found : Option TicketParts) (pinned : Option TicketParts) → find_in s.lists.slots.slots number ≡ found → is_some found ≡ true → s.lists.slots.pinned ≡ pinned → pinned ≡ None → v.lists.slots ≡ s.lists.slots → v.number ≡ s.number → ((x : Option TicketParts) → Pins v.operation x) → Pinned number o s (o, pinned_for found v)
unfolding pin_lists
pin_cases number o s v None pinned e f p n l i w = absurd (untrue f)
  where
    untrue : false ≡ true → ⊥
    untrue e = cc
pin_cases number o s v (Some u) pinned e f p n l i w = record {
  ticket = u;
  numbered = found_number s.lists.slots.slots number u e;
  found = e;
  none = p ∙ n;
  table_is = ap (λ b. (cond b v.lists (with_slots v.lists (table.pin_step v.lists.slots u).1)).slots) (ap (λ (x : SlotTable). is_some x.pinned) l ∙ ap is_some (p ∙ n)) ∙ ap (λ x. (table.pin_step x u).1) l;
  operation = w (pinned_for (Some u) v).lists.slots.pinned;
  same = i;
  silent = refl;
}

abort_pins : (number : ℕ) (past : List Moment) (o : OutboxState) (s : InitiatorState) → Goes (actions.Abort number) s → Listed past (o, s) → Pinned number o s (o, manage_start (actions.Abort number) s)
unfolding manage_lists
abort_pins number past o s g h =
    let found = find_in s.lists.slots.slots number in
    let f = some_waits found g.rows.no_orb in
    pin_cases number o s (managed_by (orb_by (actions.Abort number) s) operations.Abort s) found s.lists.slots.pinned refl (ap is_some f.1) refl (subst (λ x. Pins x s.lists.slots.pinned) g.allowed.free h.pin) refl refl (λ x. tt)

-- ---- every action

done_left : (past : List Moment) (action : Action) (o : OutboxState) (s : InitiatorState) → Goes action s → Listed past (o, s) → Left action past o s (done_step action o s)
unfolding done_step
done_left past (actions.Put cmd) o s g h = put_listed past cmd o s h
done_left past (actions.Append cmd) o s g h = append_listed past cmd o s h
done_left past actions.Low o s g h = low_listed past o s h
done_left past actions.Link o s g h = link_listed past o s h
done_left past actions.Ring o s g h = ring_listed past o s h
done_left past (actions.Dummy orb) o s g h = dummy_listed past o s (find_in s.lists.slots.slots orb) h
done_left past actions.Rom o s g h = let b = begun_listed past operations.Rom None o s g.allowed.free h in record { rows = b.rows; pin = b.pin; beside = b.beside }
done_left past actions.AgentReset o s g h = let b = begun_listed past operations.AgentReset None o s g.allowed.free h in record { rows = b.rows; pin = b.pin; beside = b.beside }
done_left past actions.State o s g h = record { rows = h.rows; pin = h.pin; beside = h.beside }
done_left past actions.Enable o s g h = begun_listed past operations.Enable None o s g.allowed.free h
done_left past (actions.Login unit reconnect exclusive password) o s g h =
    let b = managed_listed past (login_orb s unit reconnect exclusive password) operations.Login o s g.allowed.free h in record { rows = b.rows; pin = b.pin; beside = b.beside }
done_left past (actions.Query unit) o s g h = managed_listed past (orb_by (actions.Query unit) s) operations.Query o s g.allowed.free h
done_left past actions.Reconnect o s g h = let b = managed_listed past (orb_by actions.Reconnect s) operations.Reconnect o s g.allowed.free h in record { rows = b.rows; pin = b.pin; beside = b.beside }
done_left past actions.Logout o s g h = let b = managed_listed past (orb_by actions.Logout s) operations.Logout o s g.allowed.free h in record { rows = b.rows; pin = b.pin; beside = b.beside }
done_left past (actions.Abort number) o s g h = abort_pins number past o s g h
done_left past actions.AbortSet o s g h = managed_listed past (orb_by actions.AbortSet s) operations.AbortSet o s g.allowed.free h
done_left past actions.UnitReset o s g h = managed_listed past (orb_by actions.UnitReset s) operations.UnitReset o s g.allowed.free h
done_left past actions.TargetReset o s g h = managed_listed past (orb_by actions.TargetReset s) operations.TargetReset o s g.allowed.free h

-- counts, a request and the transaction layer are no part of it
pub same_listed : (past : List Moment) (t u : Turn) → u.0.sides ≡ t.0.sides → u.1.number ≡ t.1.number → u.1.lists ≡ t.1.lists → u.1.operation ≡ t.1.operation → Listed past t → Listed past u
same_listed past t u a b c d h = record {
  rows = subst (λ xs. AreRows (behind xs past) u.1.number u.1.lists.slots) (sym a) (subst (λ i. AreRows (behind t.0.sides past) i u.1.lists.slots) (sym b) (subst (λ (x : ListState). AreRows (behind t.0.sides past) t.1.number x.slots) (sym c) h.rows));
  pin = subst (λ x. Pins x u.1.lists.slots.pinned) (sym d) (subst (λ (x : ListState). Pins t.1.operation x.slots.pinned) (sym c) h.pin);
  beside = subst (λ i. Beside past i u.0.sides) (sym b) (subst (Beside past t.1.number) (sym a) h.beside);
}

left_counted : (action : Action) (past : List Moment) (o : OutboxState) (s : InitiatorState) (t u : Turn) → u.0.sides ≡ t.0.sides → u.1.number ≡ t.1.number → u.1.lists ≡ t.1.lists → u.1.operation ≡ t.1.operation → Left action past o s t → Left action past o s u
left_counted (actions.Abort number) past o s t u a b c d l = record {
  ticket = l.ticket;
  numbered = l.numbered;
  found = l.found;
  none = l.none;
  table_is = ap (λ (x : ListState). x.slots) c ∙ l.table_is;
  operation = subst (λ x. Pins x u.1.lists.slots.pinned) (sym d) (subst (λ (x : ListState). Pins t.1.operation x.slots.pinned) (sym c) l.operation);
  same = b ∙ l.same;
  silent = a ∙ l.silent;
}
left_counted (actions.Put cmd) past o s t u a b c d l = same_listed past t u a b c d l
left_counted (actions.Append cmd) past o s t u a b c d l = same_listed past t u a b c d l
left_counted actions.Low past o s t u a b c d l = same_listed past t u a b c d l
left_counted actions.Link past o s t u a b c d l = same_listed past t u a b c d l
left_counted actions.Ring past o s t u a b c d l = same_listed past t u a b c d l
left_counted (actions.Dummy orb) past o s t u a b c d l = same_listed past t u a b c d l
left_counted actions.Rom past o s t u a b c d l = same_listed past t u a b c d l
left_counted actions.AgentReset past o s t u a b c d l = same_listed past t u a b c d l
left_counted actions.State past o s t u a b c d l = same_listed past t u a b c d l
left_counted actions.Enable past o s t u a b c d l = same_listed past t u a b c d l
left_counted (actions.Login unit reconnect exclusive password) past o s t u a b c d l = same_listed past t u a b c d l
left_counted (actions.Query unit) past o s t u a b c d l = same_listed past t u a b c d l
left_counted actions.Reconnect past o s t u a b c d l = same_listed past t u a b c d l
left_counted actions.Logout past o s t u a b c d l = same_listed past t u a b c d l
left_counted actions.AbortSet past o s t u a b c d l = same_listed past t u a b c d l
left_counted actions.UnitReset past o s t u a b c d l = same_listed past t u a b c d l
left_counted actions.TargetReset past o s t u a b c d l = same_listed past t u a b c d l

-- the layer of an initiator is another
left_layer : (action : Action) (past : List Moment) (o : OutboxState) (s : InitiatorState) (layer : Layer Purpose) (t : Turn) → Left action past o (record s { layer = layer }) t → Left action past o s t
left_layer (actions.Abort number) past o s layer t l = record {
  ticket = l.ticket;
  numbered = l.numbered;
  found = l.found;
  none = l.none;
  table_is = l.table_is;
  operation = l.operation;
  same = l.same;
  silent = l.silent;
}
left_layer (actions.Put cmd) past o s layer t l = l
left_layer (actions.Append cmd) past o s layer t l = l
left_layer actions.Low past o s layer t l = l
left_layer actions.Link past o s layer t l = l
left_layer actions.Ring past o s layer t l = l
left_layer (actions.Dummy orb) past o s layer t l = l
left_layer actions.Rom past o s layer t l = l
left_layer actions.AgentReset past o s layer t l = l
left_layer actions.State past o s layer t l = l
left_layer actions.Enable past o s layer t l = l
left_layer (actions.Login unit reconnect exclusive password) past o s layer t l = l
left_layer (actions.Query unit) past o s layer t l = l
left_layer actions.Reconnect past o s layer t l = l
left_layer actions.Logout past o s layer t l = l
left_layer actions.AbortSet past o s layer t l = l
left_layer actions.UnitReset past o s layer t l = l
left_layer actions.TargetReset past o s layer t l = l

-- no row reads the layer
pub goes_layer : (action : Action) (s : InitiatorState) (layer : Layer Purpose) → Goes action s → Goes action (record s { layer = layer })
goes_layer action s layer g = record {
  allowed = allowed_layer action s layer g.allowed;
  rows = record { stuck = g.rows.stuck; wrong_state = g.rows.wrong_state; no_rom = g.rows.no_rom; waiting = g.rows.waiting; mid_link = g.rows.mid_link; not_linking = g.rows.not_linking; dead_seen = g.rows.dead_seen; no_orb = g.rows.no_orb; no_slot = g.rows.no_slot };
}

asked_left : (past : List Moment) (action : Action) (o : OutboxState) (s : InitiatorState) (r : Option Label × Layer Purpose) → (asked_as r action o s).0 ≡ None → Goes action s → Listed past (o, s) → Left action past o s (asked_as r action o s).1
asked_left past action o s (None, layer) e g h = absurd (some_none 10 e)
  where
    some_none : (n : ℕ) → Some n ≡ None → ⊥
    some_none n e = cc
asked_left past action o s (Some asked, layer) e g h =
    let t = done_step action o (record s { layer = layer }) in
    left_layer action past o s layer (asked_as (Some asked, layer) action o s).1
    (left_counted action past o (record s { layer = layer }) t (asked_as (Some asked, layer) action o s).1 refl refl refl refl
    (done_left past action o (record s { layer = layer }) (goes_layer action s layer g) (record { rows = h.rows; pin = h.pin; beside = h.beside })))

demanded_left : (past : List Moment) (action : Action) (o : OutboxState) (s : InitiatorState) (demand : Option Demand) → (demanded_as demand action o s).0 ≡ None → Goes action s → Listed past (o, s) → Left action past o s (demanded_as demand action o s).1
demanded_left past action o s None e g h =
    left_counted action past o s (done_step action o s) (demanded_as None action o s).1 refl refl refl refl (done_left past action o s g h)
demanded_left past action o s (Some demand) e g h = asked_left past action o s (asked_for demand s) e g h

judged_left : (past : List Moment) (action : Action) (o : OutboxState) (s : InitiatorState) (refused : Option ℕ) → refusal action (facts_with true s action) ≡ refused → (judged_as refused action o s).0 ≡ None → Listed past (o, s) → Left action past o s (judged_as refused action o s).1
judged_left past action o s (Some number) r e h = absurd (some_none e)
  where
    some_none : Some number ≡ None → ⊥
    some_none e = cc
judged_left past action o s None r e h = demanded_left past action o s (demand_of action s) e (goes_on action s r) h

-- What an action that is done leaves.
pub act_left : (past : List Moment) (action : Action) (o : OutboxState) (s : InitiatorState) → (act_step action o s).0 ≡ None → Listed past (o, s) → Left action past o s (act_step action o s).1
unfolding act_step
act_left past action o s e h = judged_left past action o s (refusal action (facts_with true s action)) refl e h
