-- The steps of an initiator as moves of its parts: what ends a transaction, and what an action does.
use Rattle.std.proofs.Common.{◌≡◌, refl, ℕ, nat_eq, Bool, true, false, cond, List, [], length, Option, Some, None, Result, Ok, Err}
use Rattle.label_table.specs.declared.judgement.Asked.{Asked}
use Rattle.label_table.specs.Layer.{Layer, asking_step}
use Rattle.config_rom.specs.declared.fault.RomFault.{RomFault}
use Rattle.config_rom.specs.declared.unit.SbpUnit.{SbpUnit}
use Rattle.config_rom.specs.Reading.{Tree, reading}
use Rattle.config_rom.specs.Unit.{sbp_unit_of}
use Rattle.orb_list.specs.Runs as slot_runs
use Rattle.sbp_session.specs.Moves.{Event, bad, conflict, pointed, failed, goes}
use Rattle.sbp_journal.specs.declared.note.Note.TheVariants as notes
use Rattle.sbp_journal.specs.declared.operation.Operation.{Operation}
use Rattle.sbp_journal.specs.declared.operation.Operation.TheVariants as operations
use Rattle.sbp_journal.specs.declared.operation.OpWord.{OpWord}
use Rattle.sbp_journal.specs.declared.operation.OpWord.TheVariants as words
use Rattle.sbp_journal.specs.declared.outbox.Outgoing.{Outgoing}
use Rattle.sbp_journal.specs.Outgoings.{OutboxState}
use Rattle.sbp_initiator.specs.declared.purpose.Purpose.{Purpose}
use Rattle.sbp_initiator.specs.declared.purpose.Purpose.TheVariants as purposes
use Rattle.sbp_initiator.specs.declared.purpose.Ending.{Ending}
use Rattle.sbp_initiator.specs.declared.purpose.Ending.TheVariants as endings
use Rattle.sbp_initiator.specs.declared.purpose.Running.{Running}
use Rattle.sbp_initiator.specs.declared.purpose.Pointing.TheVariants as pointings
use Rattle.sbp_initiator.specs.declared.state.InitiatorState.{InitiatorState}
use Rattle.sbp_initiator.specs.Refusals.{ends_list}
use Rattle.orb_list.specs.Lists.{ListState, drop_lists, unpin_lists}
use Rattle.initiator_base.specs.Quads.{with_quad, without}
use Rattle.sbp_initiator.specs.States.{counts_for, is_list, no_marks}
use Rattle.initiator_base.specs.Places.{management_at}
use Rattle.sbp_session.specs.Seats.{is_stuck_seat}
use Rattle.sbp_initiator.specs.Effects.{Turn, told, stick_step, dropped_as, drop_list_step, end_step, end_own_for, end_own_step, pointer_ended, doorbell_ended, fail_step, reset_ended, enable_ended, moves_session, moved, conflict_for, is_conflict, management_ended, response_of, good_event, good_word, drop_where, good_end, managed_step, fault_number, with_unit, with_rom, next_quad, asked_quad, quad_got, is_address, rom_ended, with_dead, with_answered, known_step, known_where, state_told, state_ended, ended_step, ended_for}
use Rattle.sbp_initiator.specs.Histories.Moves.{Stage, stage, staged, by_call, is_reset, Moves, tells, sits, relists, marks_as, works_at, reads_on, holds, learns, asks, fails, sends, go_on}

module _ (b : Bool) (z : Stage) (a : List Outgoing) where
  -- one of two turns, and one of two states or outboxes
  pub pick : (c : Bool) (x y : Turn) → Moves b z (staged a x) → Moves b z (staged a y) → Moves b z (staged a (cond c x y))
  pick true x y m n = m
  pick false x y m n = n

  pub pick_state : (c : Bool) (o : OutboxState) (s t : InitiatorState) → Moves b z (stage a o s) → Moves b z (stage a o t) → Moves b z (stage a o (cond c s t))
  pick_state true o s t m n = m
  pick_state false o s t m n = n

  pub pick_outbox : (c : Bool) (o p : OutboxState) (s : InitiatorState) → Moves b z (stage a o s) → Moves b z (stage a p s) → Moves b z (stage a (cond c o p) s)
  pick_outbox true o p s m n = m
  pick_outbox false o p s m n = n

  pub stick_moves : (o : OutboxState) (s : InitiatorState) → Moves b z (stage a o s) → Moves b z (staged a (stick_step o s))
  stick_moves o s m =
      let p = pick_outbox (is_stuck_seat s.seat) o (told o (notes.Stuck s.number)) s m (go_on z _ _ m (tells (stage a o s) (notes.Stuck s.number))) in
      go_on z _ _ p (sits (stage a (cond (is_stuck_seat s.seat) o (told o (notes.Stuck s.number))) s) failed refl)

  dropped : (n : Option ℕ) (l : ListState) (o : OutboxState) (s : InitiatorState) → Moves b z (stage a o (record s { lists = l })) → Moves b z (staged a (dropped_as (n, l) o s))
  dropped None l o s m = m
  dropped (Some n) l o s m =
      let t = record s { lists = l } in
      go_on z _ _ (go_on z _ _ m (tells (stage a o t) (notes.Drop s.number n))) (marks_as (stage a (told o (notes.Drop s.number n)) t) no_marks)

  pub drop_moves : (o : OutboxState) (s : InitiatorState) → Moves b z (stage a o s) → Moves b z (staged a (drop_list_step o s))
  unfolding drop_lists
  drop_moves o s m = dropped (drop_lists s.lists).0 (drop_lists s.lists).1 o s (go_on z _ _ m (relists (stage a o s) (by_call slot_runs.DropList) tt))

  pub end_moves : (operation : Operation) (word : OpWord) (o : OutboxState) (s : InitiatorState) → Moves b z (stage a o s) → Moves b z (staged a (end_step operation word o s))
  unfolding unpin_lists
  end_moves operation word o s m =
      let p = told o (notes.Op s.number operation word) in
      let t = record s { operation = None } in
      go_on z _ _ (go_on z _ _ (go_on z _ _ m (tells (stage a o s) (notes.Op s.number operation word))) (works_at (stage a p s) None)) (relists (stage a p t) (by_call slot_runs.Unpin) tt)

  own : (r : Option Running) (act : ℕ) (word : OpWord) (o : OutboxState) (s : InitiatorState) → Moves b z (stage a o s) → Moves b z (staged a (end_own_for r act word o s))
  own None act word o s m = m
  own (Some r) act word o s m = pick (nat_eq r.act act) _ _ (end_moves r.operation word o s m) m

  pub own_moves : (act : ℕ) (word : OpWord) (o : OutboxState) (s : InitiatorState) → Moves b z (stage a o s) → Moves b z (staged a (end_own_step act word o s))
  own_moves act word o s m = own s.operation act word o s m

  pub fail_moves : (act : ℕ) (o : OutboxState) (s : InitiatorState) → Moves b z (stage a o s) → Moves b z (staged a (fail_step act o s))
  fail_moves act o s m = let t = end_own_step act words.Error o s in stick_moves t.0 t.1 (own_moves act words.Error o s m)

  pointer_moves : (n : ℕ) (ending : Ending) (o : OutboxState) (s : InitiatorState) → Moves b z (stage a o s) → Moves b z (staged a (pointer_ended n ending o s))
  pointer_moves n (endings.Complete value) o s m =
      let k = go_on z _ _ m (sits (stage a o s) pointed refl) in
      let t = record s { seat = goes pointed s.seat } in
      pick_state (is_list s.lists.slots.present n) o (with_answered t) t (go_on z _ _ k (marks_as (stage a o t) (record s.marks { pointing = pointings.Answered }))) k
  pointer_moves n (endings.Refused rcode) o s m = stick_moves o s m
  pointer_moves n endings.Expired o s m = stick_moves o s m

  doorbell_moves : (ending : Ending) (o : OutboxState) (s : InitiatorState) → Moves b z (stage a o s) → Moves b z (staged a (doorbell_ended ending o s))
  doorbell_moves (endings.Complete value) o s m = m
  doorbell_moves (endings.Refused rcode) o s m = stick_moves o s m
  doorbell_moves endings.Expired o s m = stick_moves o s m

  reset_moves : (act : ℕ) (ending : Ending) (o : OutboxState) (s : InitiatorState) → Moves b z (stage a o s) → Moves b z (staged a (reset_ended act ending o s))
  reset_moves act (endings.Complete value) o s m =
      let t = drop_list_step o s in own_moves act words.Done t.0 t.1 (drop_moves o s m)
  reset_moves act (endings.Refused rcode) o s m = fail_moves act o s m
  reset_moves act endings.Expired o s m = fail_moves act o s m

  enable_moves : (act : ℕ) (ending : Ending) (o : OutboxState) (s : InitiatorState) → Moves b z (stage a o s) → Moves b z (staged a (enable_ended act ending o s))
  enable_moves act (endings.Complete value) o s m = own_moves act words.Done o s m
  enable_moves act (endings.Refused rcode) o s m = fail_moves act o s m
  enable_moves act endings.Expired o s m = fail_moves act o s m

  seat_moves : (c : Bool) (event : Event) (o : OutboxState) (s : InitiatorState) → is_reset event ≡ false → Moves b z (stage a o s) → Moves b z (stage a o (cond c (record s { seat = goes event s.seat }) s))
  seat_moves c event o s e m = pick_state c o (record s { seat = goes event s.seat }) s (go_on z _ _ m (sits (stage a o s) event e)) m

  conflicts : (r : Option Running) (act : ℕ) (o : OutboxState) (s : InitiatorState) → Moves b z (stage a o s) → Moves b z (staged a (conflict_for r act o s))
  conflicts None act o s m = m
  conflicts (Some r) act o s m =
      pick (nat_eq r.act act) _ _ (end_moves r.operation words.Conflict o (moved r.operation conflict s) (seat_moves (moves_session r.operation) conflict o s refl m)) m

  management_moves : (act : ℕ) (ending : Ending) (o : OutboxState) (s : InitiatorState) → Moves b z (stage a o s) → Moves b z (staged a (management_ended act ending o s))
  management_moves act (endings.Complete value) o s m = m
  management_moves act (endings.Refused rcode) o s m = pick (is_conflict rcode) _ _ (conflicts s.operation act o s m) (fail_moves act o s m)
  management_moves act endings.Expired o s m = fail_moves act o s m

  where_moves : (c : Bool) (o : OutboxState) (s : InitiatorState) → Moves b z (stage a o s) → Moves b z (staged a (drop_where c o s))
  where_moves true o s m = drop_moves o s m
  where_moves false o s m = m

  calm : (operation : Operation) (bytes : List ℕ) → is_reset (good_event operation bytes) ≡ false
  calm operations.Login bytes = refl
  calm operations.Rom bytes = refl
  calm operations.Query bytes = refl
  calm operations.Reconnect bytes = refl
  calm operations.Logout bytes = refl
  calm operations.Abort bytes = refl
  calm operations.AbortSet bytes = refl
  calm operations.UnitReset bytes = refl
  calm operations.TargetReset bytes = refl
  calm operations.AgentReset bytes = refl
  calm operations.State bytes = refl
  calm operations.Enable bytes = refl

  good_moves : (r : Running) (o : OutboxState) (s : InitiatorState) → Moves b z (stage a o s) → Moves b z (staged a (good_end r o s))
  good_moves r o s m =
      end_moves r.operation (good_word r.operation (response_of r s)) o (moved r.operation (good_event r.operation (response_of r s)) s)
      (seat_moves (moves_session r.operation) (good_event r.operation (response_of r s)) o s (calm r.operation (response_of r s)) m)

  pub managed_moves : (r : Running) (status : ℕ) (o : OutboxState) (s : InitiatorState) → Moves b z (stage a o s) → Moves b z (staged a (managed_step r status o s))
  managed_moves r status o s m =
      let t = drop_where (ends_list (Some r.operation)) o s in
      pick (nat_eq status 0) _ _ (good_moves r t.0 t.1 (where_moves (ends_list (Some r.operation)) o s m))
      (end_moves r.operation (words.Refused status) o (moved r.operation bad s) (seat_moves (moves_session r.operation) bad o s refl m))

  unit_moves : (u : Option SbpUnit) (act : ℕ) (o : OutboxState) (s : InitiatorState) → Moves b z (stage a o s) → Moves b z (staged a (with_unit u act o s))
  unit_moves None act o s m = own_moves act words.NoUnit o s m
  unit_moves (Some u) act o s m =
      own_moves act words.Done o (record s { management = Some (management_at u.management) }) (go_on z _ _ m (learns (stage a o s) (Some (management_at u.management))))

  rom_moves : (r : Result Tree RomFault) (act : ℕ) (o : OutboxState) (s : InitiatorState) → Moves b z (stage a o s) → Moves b z (staged a (with_rom r act o s))
  rom_moves (Ok tree) act o s m = unit_moves (sbp_unit_of tree.blocks tree.entries) act o s m
  rom_moves (Err fault) act o s m = own_moves act (words.Bad (fault_number fault)) o s m

  known_moves : (value : ℕ) (o : OutboxState) (s : InitiatorState) → Moves b z (stage a o s) → Moves b z (staged a (known_step value o s))
  known_moves value o s m =
      pick (nat_eq value 0) _ _ (drop_moves o s m)
      (pick_state (nat_eq value 3) o (with_dead s) s (go_on z _ _ m (marks_as (stage a o s) (record s.marks { is_dead = true }))) m)

  known_where_moves : (c : Bool) (value : ℕ) (o : OutboxState) (s : InitiatorState) → Moves b z (stage a o s) → Moves b z (staged a (known_where c value o s))
  known_where_moves true value o s m = known_moves value o s m
  known_where_moves false value o s m = m

  told_moves : (act : ℕ) (word : OpWord) (o : OutboxState) (s : InitiatorState) → Moves b z (stage a o s) → Moves b z (staged a (state_told act word o s))
  told_moves act word o s m =
      let p = told o (notes.Op s.number operations.State word) in
      go_on z _ _ (go_on z _ _ m (tells (stage a o s) (notes.Op s.number operations.State word))) (reads_on (stage a p s) (without act s.states))

  state_moves : (act : ℕ) (n : Option ℕ) (ending : Ending) (o : OutboxState) (s : InitiatorState) → Moves b z (stage a o s) → Moves b z (staged a (state_ended act n ending o s))
  state_moves act n (endings.Complete value) o s m =
      let t = known_where (counts_for s.lists.slots.present n) value o s in
      told_moves act (words.State value) t.0 t.1 (known_where_moves (counts_for s.lists.slots.present n) value o s m)
  state_moves act n (endings.Refused rcode) o s m = told_moves act words.Error o s m
  state_moves act n endings.Expired o s m = told_moves act words.Error o s m

module _ (b : Bool) (z : Stage) where
  asked_moves : (r : Option Asked × Layer Purpose) (act : ℕ) (o : OutboxState) (s : InitiatorState) → asking_step s.layer s.target (next_quad s.quads) (purposes.Rom act) ≡ r → Moves b z (stage [] o s) → Moves b z (staged [] (asked_quad r act o s))
  asked_moves (Some asked, layer) act o s e m =
      go_on z _ _ (go_on z _ _ m (asks (stage [] o s) s.target (next_quad s.quads) (purposes.Rom act) asked layer e))
      (sends o (record s { layer = layer }) (record { to = s.target; label = Some asked.label; bytes = asked.bytes }) [])
  asked_moves (None, layer) act o s e m =
      own_moves b z [] act words.Error o (record s { layer = layer })
      (go_on z _ _ m (fails (stage [] o s) s.target (next_quad s.quads) (purposes.Rom act) layer e))

  quad_moves : (act : ℕ) (o : OutboxState) (s : InitiatorState) → Moves b z (stage [] o s) → Moves b z (staged [] (quad_got act o s))
  quad_moves act o s m =
      pick b z [] (nat_eq (length s.quads) 256) _ _ (rom_moves b z [] (reading s.quads) act o s m) (asked_moves (asking_step s.layer s.target (next_quad s.quads) (purposes.Rom act)) act o s refl m)

  rom_ended_moves : (act : ℕ) (ending : Ending) (o : OutboxState) (s : InitiatorState) → Moves b z (stage [] o s) → Moves b z (staged [] (rom_ended act ending o s))
  rom_ended_moves act (endings.Complete value) o s m =
      quad_moves act o (record s { quads = with_quad s.quads value }) (go_on z _ _ m (holds (stage [] o s) (with_quad s.quads value)))
  rom_ended_moves act (endings.Refused rcode) o s m =
      pick b z [] (is_address rcode) _ _ (rom_moves b z [] (reading s.quads) act o s m) (own_moves b z [] act words.Error o s m)
  rom_ended_moves act endings.Expired o s m = own_moves b z [] act words.Error o s m

  pub ended_moves : (purpose : Purpose) (ending : Ending) (o : OutboxState) (s : InitiatorState) → Moves b z (stage [] o s) → Moves b z (staged [] (ended_step purpose ending o s))
  unfolding ended_step
  ended_moves (purposes.Pointer n) ending o s m = pointer_moves b z [] n ending o s m
  ended_moves purposes.Doorbell ending o s m = doorbell_moves b z [] ending o s m
  ended_moves (purposes.AgentReset act) ending o s m = reset_moves b z [] act ending o s m
  ended_moves (purposes.Enable act) ending o s m = enable_moves b z [] act ending o s m
  ended_moves (purposes.Management act) ending o s m = management_moves b z [] act ending o s m
  ended_moves (purposes.Rom act) ending o s m = rom_ended_moves act ending o s m
  ended_moves (purposes.State act n) ending o s m = state_moves b z [] act n ending o s m

  pub ended_for_moves : (purpose : Option Purpose) (ending : Ending) (o : OutboxState) (s : InitiatorState) → Moves b z (stage [] o s) → Moves b z (staged [] (ended_for purpose ending o s))
  ended_for_moves None ending o s m = m
  ended_for_moves (Some purpose) ending o s m = ended_moves purpose ending o s m
