-- The end of a transaction of an initiator.
use Rattle.sbp_world.proofs.Words.Std.{not, ◌≡◌, refl, sym, ◌∙◌, ap, subst, ℕ, ◌==◌, Bool, true, false, cond, List, ◌∷◌, length, Option, Some, None, Result, Ok, Err}
use Rattle.sbp_world.proofs.Words.Wire.{Asked, Layer, asking_step, Moment, said, OutboxState, Note, Operation, OpWord}
use Rattle.sbp_world.proofs.Words.Target.{RomFault, SbpUnit, Tree, reading, sbp_unit_of}
use Rattle.sbp_world.proofs.Words.Initiator.{Memory, PresentList, TicketParts, SlotTable, Event, bad, conflict, Ending, Purpose, Running, InitiatorState, ListState, drop_lists, unpin_lists, with_slots, with_quad, ends_list, counts_for, is_list, management_at, is_stuck_seat, Turn, asked_quad, ask_quad, conflict_for, conflict_step, doorbell_ended, drop_list_step, drop_where, dropped_as, enable_ended, end_own_for, end_own_step, end_step, ended_for, ended_step, fail_step, fault_number, finish_rom, good_end, good_event, good_word, is_address, is_conflict, known_step, known_where, managed_step, management_ended, moved, moves_session, next_quad, pointed_step, pointer_ended, quad_got, reset_ended, response_of, rom_ended, state_ended, state_told, stick_step, told, with_dead, with_rom, with_unit}
use Rattle.sbp_world.proofs.Words.World.{AreRows, is_beside, behind, Listed, PinOf, Pins}
use Rattle.orb_list.specs.Table as table
use Rattle.sbp_journal.specs.declared.note.Note.TheVariants as notes
use Rattle.sbp_journal.specs.declared.operation.Operation.TheVariants as operations
use Rattle.sbp_journal.specs.declared.operation.OpWord.TheVariants as words
use Rattle.sbp_initiator.specs.declared.purpose.Ending.TheVariants as endings
use Rattle.sbp_initiator.specs.declared.purpose.Purpose.TheVariants as purposes
use Rattle.sbp_world.proofs.Hosts.Beside.{beside_rests}
use Rattle.sbp_world.proofs.Hosts.Told.{dropped_told, unpins}
use Rattle.sbp_world.proofs.Hosts.Listed.{tells, tells_beside}
use Rattle.sbp_world.proofs.Hosts.Acts.{same_listed}
use Rattle.sbp_world.proofs.Lists.LiveMoves.{drop_operation as dropped_by}

module _ (past : List Moment) where
  pub pick : (b : Bool) (x y : Turn) → Listed past x → Listed past y → Listed past (cond b x y)
  pick true x y h i = h
  pick false x y h i = i

  -- what leaves the slots, the operation and what was told
  pub still : (o : OutboxState) (s u : InitiatorState) → u.number ≡ s.number → u.lists ≡ s.lists → u.operation ≡ s.operation → Listed past (o, s) → Listed past (o, u)
  still o s u n l p h = same_listed past (o, s) (o, u) refl n l p h

  pub still_if : (b : Bool) (o : OutboxState) (s u v : InitiatorState) → u.number ≡ s.number → u.lists ≡ s.lists → u.operation ≡ s.operation → v.number ≡ s.number → v.lists ≡ s.lists → v.operation ≡ s.operation → Listed past (o, s) → Listed past (o, cond b u v)
  still_if true o s u v n l p m k q h = still o s u n l p h
  still_if false o s u v n l p m k q h = still o s v m k q h

  -- a note that says nothing of the slots
  pub notes_it : (note : Note) (o : OutboxState) (s : InitiatorState) → ((j : ℕ) → is_beside j note ≡ true) → Listed past (o, s) → Listed past (told o note, s)
  notes_it note o s e h = record {
    rows = tells past s.number s.lists.slots o note (beside_rests (behind o.sides past) s.number s.lists.slots h.rows note (e s.number));
    pin = h.pin;
    beside = tells_beside past s.number o note (λ j f. e j) h.beside;
  }

  -- ---- a drop
  drop_cases : (o : OutboxState) (s : InitiatorState) (found : Option PresentList) → s.lists.slots.present ≡ found → Listed past (o, s) → Listed past (dropped_as ((table.drop_for found s.lists.slots).0, with_slots s.lists (table.drop_for found s.lists.slots).1) o s)
  unfolding table.drop_step
  drop_cases o s None e h = record { rows = h.rows; pin = h.pin; beside = h.beside }
  drop_cases o s (Some list) e h =
      let note = notes.Drop s.number list.tail.list in
      record {
        rows = tells past s.number _ o note
            (subst (λ x. AreRows (said note ∷ behind o.sides past) s.number (table.drop_for x s.lists.slots).1) e
            (dropped_told (behind o.sides past) s.number s.lists.slots h.rows list.tail.list (ap (λ x. (table.drop_for x s.lists.slots).0) e)));
        pin = h.pin;
        beside = tells_beside past s.number o note (λ j f. ap not f) h.beside;
      }

  pub drop_listed : (o : OutboxState) (s : InitiatorState) → Listed past (o, s) → Listed past (drop_list_step o s)
  unfolding drop_lists table.drop_step
  drop_listed o s h = drop_cases o s s.lists.slots.present refl h

  drop_operation : (o : OutboxState) (s : InitiatorState) → (drop_list_step o s).1.operation ≡ s.operation
  drop_operation o s = dropped_by (drop_lists s.lists) o s

  -- ---- an operation ends
  none_pinned : (s : SlotTable) (m : Memory) (pinned : Option TicketParts) → s.pinned ≡ pinned → (table.unpin_for pinned s m).0.pinned ≡ None
  none_pinned s m None e = e
  none_pinned s m (Some t) e = refl

  pub op_beside : (operation : Operation) (word : OpWord) (j i : ℕ) → (j == i) ≡ false → is_beside j (notes.Op i operation word) ≡ true
  op_beside operations.Abort word j i e = ap not e
  op_beside operations.Rom word j i e = refl
  op_beside operations.Login word j i e = refl
  op_beside operations.Query word j i e = refl
  op_beside operations.Reconnect word j i e = refl
  op_beside operations.Logout word j i e = refl
  op_beside operations.AbortSet word j i e = refl
  op_beside operations.UnitReset word j i e = refl
  op_beside operations.TargetReset word j i e = refl
  op_beside operations.AgentReset word j i e = refl
  op_beside operations.State word j i e = refl
  op_beside operations.Enable word j i e = refl

  over_listed : (operation : Operation) (word : OpWord) (o : OutboxState) (s : InitiatorState) → AreRows (said (notes.Op s.number operation word) ∷ behind o.sides past) s.number (table.unpin_step s.lists.slots s.lists.memory).0 → Listed past (o, s) → Listed past (end_step operation word o s)
  unfolding unpin_lists table.unpin_step
  over_listed operation word o s r h = record {
    rows = tells past s.number _ o (notes.Op s.number operation word) r;
    pin = none_pinned s.lists.slots s.lists.memory s.lists.slots.pinned refl;
    beside = tells_beside past s.number o (notes.Op s.number operation word) (λ j e. op_beside operation word j s.number e) h.beside;
  }

  unpinned_rows : (note : Note) (o : OutboxState) (s : InitiatorState) → s.lists.slots.pinned ≡ None → is_beside s.number note ≡ true → Listed past (o, s) → AreRows (said note ∷ behind o.sides past) s.number (table.unpin_step s.lists.slots s.lists.memory).0
  unfolding table.unpin_step
  unpinned_rows note o s n e h =
      subst (λ x. AreRows (said note ∷ behind o.sides past) s.number (table.unpin_for x s.lists.slots s.lists.memory).0) (sym n) (beside_rests (behind o.sides past) s.number s.lists.slots h.rows note e)

  pub end_listed : (operation : Operation) (word : OpWord) (o : OutboxState) (s : InitiatorState) → PinOf operation s.lists.slots.pinned → Listed past (o, s) → Listed past (end_step operation word o s)
  end_listed operations.Abort word o s n h = over_listed operations.Abort word o s (unpins (behind o.sides past) s.number s.lists.slots h.rows word s.lists.memory) h
  end_listed operations.Rom word o s n h = over_listed operations.Rom word o s (unpinned_rows (notes.Op s.number operations.Rom word) o s n refl h) h
  end_listed operations.Login word o s n h = over_listed operations.Login word o s (unpinned_rows (notes.Op s.number operations.Login word) o s n refl h) h
  end_listed operations.Query word o s n h = over_listed operations.Query word o s (unpinned_rows (notes.Op s.number operations.Query word) o s n refl h) h
  end_listed operations.Reconnect word o s n h = over_listed operations.Reconnect word o s (unpinned_rows (notes.Op s.number operations.Reconnect word) o s n refl h) h
  end_listed operations.Logout word o s n h = over_listed operations.Logout word o s (unpinned_rows (notes.Op s.number operations.Logout word) o s n refl h) h
  end_listed operations.AbortSet word o s n h = over_listed operations.AbortSet word o s (unpinned_rows (notes.Op s.number operations.AbortSet word) o s n refl h) h
  end_listed operations.UnitReset word o s n h = over_listed operations.UnitReset word o s (unpinned_rows (notes.Op s.number operations.UnitReset word) o s n refl h) h
  end_listed operations.TargetReset word o s n h = over_listed operations.TargetReset word o s (unpinned_rows (notes.Op s.number operations.TargetReset word) o s n refl h) h
  end_listed operations.AgentReset word o s n h = over_listed operations.AgentReset word o s (unpinned_rows (notes.Op s.number operations.AgentReset word) o s n refl h) h
  end_listed operations.State word o s n h = over_listed operations.State word o s (unpinned_rows (notes.Op s.number operations.State word) o s n refl h) h
  end_listed operations.Enable word o s n h = over_listed operations.Enable word o s (unpinned_rows (notes.Op s.number operations.Enable word) o s n refl h) h

  own_cases : (found : Option Running) (act : ℕ) (word : OpWord) (o : OutboxState) (s : InitiatorState) → Pins found s.lists.slots.pinned → Listed past (o, s) → Listed past (end_own_for found act word o s)
  own_cases None act word o s n h = h
  own_cases (Some running) act word o s n h =
      pick (running.act == act) (end_step running.operation word o s) (o, s) (end_listed running.operation word o s n h) h

  pub own_listed : (act : ℕ) (word : OpWord) (o : OutboxState) (s : InitiatorState) → Listed past (o, s) → Listed past (end_own_step act word o s)
  own_listed act word o s h = own_cases s.operation act word o s h.pin h

  -- ---- the session becomes Stuck
  stuck_cases : (b : Bool) (o : OutboxState) (s u : InitiatorState) → u.number ≡ s.number → u.lists ≡ s.lists → u.operation ≡ s.operation → Listed past (o, s) → Listed past (cond b o (told o (notes.Stuck s.number)), u)
  stuck_cases true o s u n l p h = still o s u n l p h
  stuck_cases false o s u n l p h = still (told o (notes.Stuck s.number)) s u n l p (notes_it (notes.Stuck s.number) o s (λ j. refl) h)

  pub stick_listed : (o : OutboxState) (s : InitiatorState) → Listed past (o, s) → Listed past (stick_step o s)
  stick_listed o s h = stuck_cases (is_stuck_seat s.seat) o s (stick_step o s).1 refl refl refl h

  pub fail_listed : (act : ℕ) (o : OutboxState) (s : InitiatorState) → Listed past (o, s) → Listed past (fail_step act o s)
  fail_listed act o s h =
      let t = end_own_step act words.Error o s in stick_listed t.0 t.1 (own_listed act words.Error o s h)

  -- ---- writes of registers
  pointed_listed : (list : ℕ) (o : OutboxState) (s : InitiatorState) → Listed past (o, s) → Listed past (o, pointed_step list s)
  pointed_listed list o s h = still_if (is_list s.lists.slots.present list) o s _ _ refl refl refl refl refl refl h

  pointer_listed : (list : ℕ) (ending : Ending) (o : OutboxState) (s : InitiatorState) → Listed past (o, s) → Listed past (pointer_ended list ending o s)
  pointer_listed list (endings.Complete value) o s h = pointed_listed list o s h
  pointer_listed list (endings.Refused rcode) o s h = stick_listed o s h
  pointer_listed list endings.Expired o s h = stick_listed o s h

  doorbell_listed : (ending : Ending) (o : OutboxState) (s : InitiatorState) → Listed past (o, s) → Listed past (doorbell_ended ending o s)
  doorbell_listed (endings.Complete value) o s h = h
  doorbell_listed (endings.Refused rcode) o s h = stick_listed o s h
  doorbell_listed endings.Expired o s h = stick_listed o s h

  reset_listed : (act : ℕ) (ending : Ending) (o : OutboxState) (s : InitiatorState) → Listed past (o, s) → Listed past (reset_ended act ending o s)
  reset_listed act (endings.Complete value) o s h =
      let t = drop_list_step o s in own_listed act words.Done t.0 t.1 (drop_listed o s h)
  reset_listed act (endings.Refused rcode) o s h = fail_listed act o s h
  reset_listed act endings.Expired o s h = fail_listed act o s h

  enable_listed : (act : ℕ) (ending : Ending) (o : OutboxState) (s : InitiatorState) → Listed past (o, s) → Listed past (enable_ended act ending o s)
  enable_listed act (endings.Complete value) o s h = own_listed act words.Done o s h
  enable_listed act (endings.Refused rcode) o s h = fail_listed act o s h
  enable_listed act endings.Expired o s h = fail_listed act o s h

  -- ---- management
  moved_listed : (operation : Operation) (event : Event) (o : OutboxState) (s : InitiatorState) → Listed past (o, s) → Listed past (o, moved operation event s)
  moved_listed operation event o s h = still_if (moves_session operation) o s _ s refl refl refl refl refl refl h

  moved_lists : (b : Bool) (s u : InitiatorState) → u.lists ≡ s.lists → (cond b u s).lists ≡ s.lists
  moved_lists true s u e = e
  moved_lists false s u e = refl

  moved_pin : (operation : Operation) (event : Event) (s : InitiatorState) → PinOf operation s.lists.slots.pinned → PinOf operation (moved operation event s).lists.slots.pinned
  moved_pin operation event s n = subst (λ (x : ListState). PinOf operation x.slots.pinned) (sym (moved_lists (moves_session operation) s _ refl)) n

  conflict_cases : (found : Option Running) (act : ℕ) (o : OutboxState) (s : InitiatorState) → Pins found s.lists.slots.pinned → Listed past (o, s) → Listed past (conflict_for found act o s)
  conflict_cases None act o s n h = h
  conflict_cases (Some running) act o s n h =
      pick (running.act == act) (end_step running.operation words.Conflict o (moved running.operation conflict s)) (o, s)
      (end_listed running.operation words.Conflict o (moved running.operation conflict s) (moved_pin running.operation conflict s n) (moved_listed running.operation conflict o s h)) h

  management_listed : (act : ℕ) (ending : Ending) (o : OutboxState) (s : InitiatorState) → Listed past (o, s) → Listed past (management_ended act ending o s)
  management_listed act (endings.Complete value) o s h = h
  management_listed act (endings.Refused rcode) o s h =
      pick (is_conflict rcode) (conflict_step act o s) (fail_step act o s) (conflict_cases s.operation act o s h.pin h) (fail_listed act o s h)
  management_listed act endings.Expired o s h = fail_listed act o s h

  drop_where_listed : (b : Bool) (o : OutboxState) (s : InitiatorState) → Listed past (o, s) → Listed past (drop_where b o s)
  drop_where_listed true o s h = drop_listed o s h
  drop_where_listed false o s h = h

  drop_where_operation : (b : Bool) (o : OutboxState) (s : InitiatorState) → (drop_where b o s).1.operation ≡ s.operation
  drop_where_operation true o s = drop_operation o s
  drop_where_operation false o s = refl

  good_listed : (running : Running) (o : OutboxState) (s : InitiatorState) → PinOf running.operation s.lists.slots.pinned → Listed past (o, s) → Listed past (good_end running o s)
  good_listed running o s n h =
      let event = good_event running.operation (response_of running s) in
      end_listed running.operation (good_word running.operation (response_of running s)) o (moved running.operation event s) (moved_pin running.operation event s n) (moved_listed running.operation event o s h)

  pub managed_listed : (running : Running) (status : ℕ) (o : OutboxState) (s : InitiatorState) → s.operation ≡ Some running → Listed past (o, s) → Listed past (managed_step running status o s)
  managed_listed running status o s e h =
      let t = drop_where (ends_list (Some running.operation)) o s in
      let d = drop_where_listed (ends_list (Some running.operation)) o s h in
      pick (status == 0) (good_end running t.0 t.1) (end_step running.operation (words.Refused status) o (moved running.operation bad s))
      (good_listed running t.0 t.1 (subst (λ x. Pins x t.1.lists.slots.pinned) (drop_where_operation (ends_list (Some running.operation)) o s ∙ e) d.pin) d)
      (end_listed running.operation (words.Refused status) o (moved running.operation bad s) (moved_pin running.operation bad s (subst (λ x. Pins x s.lists.slots.pinned) e h.pin)) (moved_listed running.operation bad o s h))

  -- ---- the target's ROM
  unit_listed : (unit : Option SbpUnit) (act : ℕ) (o : OutboxState) (s : InitiatorState) → Listed past (o, s) → Listed past (with_unit unit act o s)
  unit_listed None act o s h = own_listed act words.NoUnit o s h
  unit_listed (Some unit) act o s h =
      let u = record s { management = Some (management_at unit.management) } in own_listed act words.Done o u (still o s u refl refl refl h)

  rom_listed : (tree : Result Tree RomFault) (act : ℕ) (o : OutboxState) (s : InitiatorState) → Listed past (o, s) → Listed past (with_rom tree act o s)
  rom_listed (Ok tree) act o s h = unit_listed (sbp_unit_of tree.blocks tree.entries) act o s h
  rom_listed (Err fault) act o s h = own_listed act (words.Bad (fault_number fault)) o s h

  asked_listed : (r : Option Asked × Layer Purpose) (act : ℕ) (o : OutboxState) (s : InitiatorState) → Listed past (o, s) → Listed past (asked_quad r act o s)
  asked_listed (Some asked, layer) act o s h = record { rows = h.rows; pin = h.pin; beside = h.beside }
  asked_listed (None, layer) act o s h = own_listed act words.Error o (record s { layer = layer }) (still o s (record s { layer = layer }) refl refl refl h)

  quad_listed : (act : ℕ) (o : OutboxState) (s : InitiatorState) → Listed past (o, s) → Listed past (quad_got act o s)
  quad_listed act o s h =
      pick (length s.quads == 256) (finish_rom act o s) (ask_quad act o s) (rom_listed (reading s.quads) act o s h)
      (asked_listed (asking_step s.layer s.target (next_quad s.quads) (purposes.Rom act)) act o s h)

  rom_end_listed : (act : ℕ) (ending : Ending) (o : OutboxState) (s : InitiatorState) → Listed past (o, s) → Listed past (rom_ended act ending o s)
  rom_end_listed act (endings.Complete value) o s h =
      let u = record s { quads = with_quad s.quads value } in quad_listed act o u (still o s u refl refl refl h)
  rom_end_listed act (endings.Refused rcode) o s h =
      pick (is_address rcode) (finish_rom act o s) (end_own_step act words.Error o s) (rom_listed (reading s.quads) act o s h) (own_listed act words.Error o s h)
  rom_end_listed act endings.Expired o s h = own_listed act words.Error o s h

  -- ---- the state of the agent
  known_listed : (value : ℕ) (o : OutboxState) (s : InitiatorState) → Listed past (o, s) → Listed past (known_step value o s)
  known_listed value o s h =
      pick (value == 0) (drop_list_step o s) (o, cond (value == 3) (with_dead s) s) (drop_listed o s h) (still_if (value == 3) o s (with_dead s) s refl refl refl refl refl refl h)

  known_where_listed : (b : Bool) (value : ℕ) (o : OutboxState) (s : InitiatorState) → Listed past (o, s) → Listed past (known_where b value o s)
  known_where_listed true value o s h = known_listed value o s h
  known_where_listed false value o s h = h

  state_told_listed : (act : ℕ) (word : OpWord) (o : OutboxState) (s : InitiatorState) → Listed past (o, s) → Listed past (state_told act word o s)
  state_told_listed act word o s h =
      let note = notes.Op s.number operations.State word in still (told o note) s (state_told act word o s).1 refl refl refl (notes_it note o s (λ j. refl) h)

  state_listed : (act : ℕ) (list : Option ℕ) (ending : Ending) (o : OutboxState) (s : InitiatorState) → Listed past (o, s) → Listed past (state_ended act list ending o s)
  state_listed act list (endings.Complete value) o s h =
      let b = counts_for s.lists.slots.present list in
      let t = known_where b value o s in state_told_listed act (words.State value) t.0 t.1 (known_where_listed b value o s h)
  state_listed act list (endings.Refused rcode) o s h = state_told_listed act words.Error o s h
  state_listed act list endings.Expired o s h = state_told_listed act words.Error o s h

  -- ---- by what the transaction was for
  pub ended_listed : (purpose : Purpose) (ending : Ending) (o : OutboxState) (s : InitiatorState) → Listed past (o, s) → Listed past (ended_step purpose ending o s)
  unfolding ended_step
  ended_listed (purposes.Pointer list) ending o s h = pointer_listed list ending o s h
  ended_listed purposes.Doorbell ending o s h = doorbell_listed ending o s h
  ended_listed (purposes.AgentReset act) ending o s h = reset_listed act ending o s h
  ended_listed (purposes.Enable act) ending o s h = enable_listed act ending o s h
  ended_listed (purposes.Management act) ending o s h = management_listed act ending o s h
  ended_listed (purposes.Rom act) ending o s h = rom_end_listed act ending o s h
  ended_listed (purposes.State act list) ending o s h = state_listed act list ending o s h

  pub for_listed : (purpose : Option Purpose) (ending : Ending) (o : OutboxState) (s : InitiatorState) → Listed past (o, s) → Listed past (ended_for purpose ending o s)
  for_listed None ending o s h = h
  for_listed (Some purpose) ending o s h = ended_listed purpose ending o s h
