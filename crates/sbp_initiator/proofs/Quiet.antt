-- Steps of an initiator that hand out no packet to send and get no quadlet: the end of a transaction, but of a read of the target's ROM
-- that is complete, a time-out, and a sight of a reset.
use Rattle.std.proofs.Common.{◌≡◌, refl, ℕ, nat_eq, nat_lt, Bool, true, false, cond, List, [], ◌∷◌, Option, Some, None, Result, Ok, Err}
use Rattle.async_packet.specs.Labels.{LabelParts}
use Rattle.label_table.specs.declared.reply.Stale.{Stale}
use Rattle.label_table.specs.Layer.{Layer, expiring_step, seeing_step}
use Rattle.config_rom.specs.declared.fault.RomFault.{RomFault}
use Rattle.config_rom.specs.declared.unit.SbpUnit.{SbpUnit}
use Rattle.config_rom.specs.Reading.{Tree}
use Rattle.config_rom.specs.Unit.{sbp_unit_of}
use Rattle.orb_list.specs.Lists.{ListState, drop_lists}
use Rattle.sbp_session.specs.Moves.{Event, bad, conflict, goes, pointed}
use Rattle.sbp_session.specs.Seats.{is_stuck_seat}
use Rattle.sbp_journal.specs.declared.note.Note.TheVariants as notes
use Rattle.sbp_journal.specs.declared.operation.Operation.TheVariants as operations
use Rattle.sbp_journal.specs.declared.operation.OpWord.{OpWord}
use Rattle.sbp_journal.specs.declared.operation.OpWord.TheVariants as words
use Rattle.sbp_journal.specs.declared.outbox.Outgoing.{Outgoing}
use Rattle.sbp_journal.specs.Outgoings.{OutboxState}
use Rattle.initiator_base.specs.Places.{management_at}
use Rattle.sbp_initiator.specs.declared.purpose.Purpose.{Purpose}
use Rattle.sbp_initiator.specs.declared.purpose.Purpose.TheVariants as purposes
use Rattle.sbp_initiator.specs.declared.purpose.Ending.{Ending}
use Rattle.sbp_initiator.specs.declared.purpose.Ending.TheVariants as endings
use Rattle.sbp_initiator.specs.declared.purpose.Running.{Running}
use Rattle.sbp_initiator.specs.declared.state.InitiatorState.{InitiatorState}
use Rattle.sbp_initiator.specs.Refusals.{ends_list}
use Rattle.sbp_initiator.specs.States.{counts_for, is_list}
use Rattle.sbp_initiator.specs.Effects.{Turn, told, stick_step, dropped_as, drop_list_step, end_step, end_own_for, end_own_step, with_answered, pointer_ended, doorbell_ended, fail_step, reset_ended, enable_ended, moves_session, moved, conflict_for, is_conflict, management_ended, response_of, good_event, drop_where, good_end, managed_step, fault_number, with_unit, with_rom, rom_ended, with_dead, known_step, known_where, state_ended, ended_step}
use Rattle.sbp_initiator.specs.Receiving.{called, expired_as, expire_step}
use Rattle.sbp_initiator.specs.Seeing.{reset_told, states_end, all_end, resets_told, interrupted, seen_as, see_step}
use Rattle.sbp_initiator.specs.Handing.{IsQuiet}

module _ (packets : List Outgoing) (quads : List ℕ) (node : ℕ) where
  -- these packets and quadlets are there, at the node with this ID
  abbrev pub Has : Turn → Type 0
  Has turn = (turn.0.packets ≡ packets) × (turn.1.quads ≡ quads) × (turn.1.layer.node ≡ node)

  -- one of two turns, outboxes or initiators
  pub either : (b : Bool) (x y : Turn) → Has x → Has y → Has (cond b x y)
  either true x y h k = h
  either false x y h k = k

  either_box : (b : Bool) (o p : OutboxState) (s : InitiatorState) → Has (o, s) → Has (p, s) → Has (cond b o p, s)
  either_box true o p s h k = h
  either_box false o p s h k = k

  pub either_state : (b : Bool) (o : OutboxState) (s t : InitiatorState) → Has (o, s) → Has (o, t) → Has (o, cond b s t)
  either_state true o s t h k = h
  either_state false o s t h k = k

  sticks : (o : OutboxState) (s : InitiatorState) → Has (o, s) → Has (stick_step o s)
  sticks o s h = either_box (is_stuck_seat s.seat) o (told o (notes.Stuck s.number)) s h h

  dropped : (r : Option ℕ × ListState) (o : OutboxState) (s : InitiatorState) → Has (o, s) → Has (dropped_as r o s)
  dropped (None, lists) o s h = h
  dropped (Some n, lists) o s h = h

  drops : (o : OutboxState) (s : InitiatorState) → Has (o, s) → Has (drop_list_step o s)
  drops o s h = dropped (drop_lists s.lists) o s h

  ends_own : (r : Option Running) (act : ℕ) (word : OpWord) (o : OutboxState) (s : InitiatorState) → Has (o, s) → Has (end_own_for r act word o s)
  ends_own None act word o s h = h
  ends_own (Some r) act word o s h = either (nat_eq r.act act) (end_step r.operation word o s) (o, s) h h

  pub owns : (act : ℕ) (word : OpWord) (o : OutboxState) (s : InitiatorState) → Has (o, s) → Has (end_own_step act word o s)
  owns act word o s h = ends_own s.operation act word o s h

  fails : (act : ℕ) (o : OutboxState) (s : InitiatorState) → Has (o, s) → Has (fail_step act o s)
  fails act o s h = (let t = end_own_step act words.Error o s in sticks t.0 t.1 (owns act words.Error o s h))

  pub points : (n : ℕ) (ending : Ending) (o : OutboxState) (s : InitiatorState) → Has (o, s) → Has (pointer_ended n ending o s)
  points n (endings.Complete value) o s h = (let t = record s { seat = goes pointed s.seat } in either_state (is_list s.lists.slots.present n) o (with_answered t) t h h)
  points n (endings.Refused rcode) o s h = sticks o s h
  points n endings.Expired o s h = sticks o s h

  pub bells : (ending : Ending) (o : OutboxState) (s : InitiatorState) → Has (o, s) → Has (doorbell_ended ending o s)
  bells (endings.Complete value) o s h = h
  bells (endings.Refused rcode) o s h = sticks o s h
  bells endings.Expired o s h = sticks o s h

  pub resets : (act : ℕ) (ending : Ending) (o : OutboxState) (s : InitiatorState) → Has (o, s) → Has (reset_ended act ending o s)
  resets act (endings.Complete value) o s h = (let t = drop_list_step o s in owns act words.Done t.0 t.1 (drops o s h))
  resets act (endings.Refused rcode) o s h = fails act o s h
  resets act endings.Expired o s h = fails act o s h

  pub enables : (act : ℕ) (ending : Ending) (o : OutboxState) (s : InitiatorState) → Has (o, s) → Has (enable_ended act ending o s)
  enables act (endings.Complete value) o s h = owns act words.Done o s h
  enables act (endings.Refused rcode) o s h = fails act o s h
  enables act endings.Expired o s h = fails act o s h

  moves : (b : Bool) (event : Event) (o : OutboxState) (s : InitiatorState) → Has (o, s) → Has (o, cond b (record s { seat = goes event s.seat }) s)
  moves b event o s h = either_state b o (record s { seat = goes event s.seat }) s h h

  conflicts : (r : Option Running) (act : ℕ) (o : OutboxState) (s : InitiatorState) → Has (o, s) → Has (conflict_for r act o s)
  conflicts None act o s h = h
  conflicts (Some r) act o s h = either (nat_eq r.act act) (end_step r.operation words.Conflict o (moved r.operation conflict s)) (o, s) (moves (moves_session r.operation) conflict o s h) h

  pub manages : (act : ℕ) (ending : Ending) (o : OutboxState) (s : InitiatorState) → Has (o, s) → Has (management_ended act ending o s)
  manages act (endings.Complete value) o s h = h
  manages act (endings.Refused rcode) o s h = either (is_conflict rcode) (conflict_for s.operation act o s) (fail_step act o s) (conflicts s.operation act o s h) (fails act o s h)
  manages act endings.Expired o s h = fails act o s h

  drops_where : (b : Bool) (o : OutboxState) (s : InitiatorState) → Has (o, s) → Has (drop_where b o s)
  drops_where true o s h = drops o s h
  drops_where false o s h = h

  goods : (r : Running) (o : OutboxState) (s : InitiatorState) → Has (o, s) → Has (good_end r o s)
  goods r o s h = moves (moves_session r.operation) (good_event r.operation (response_of r s)) o s h

  pub managed : (r : Running) (status : ℕ) (o : OutboxState) (s : InitiatorState) → Has (o, s) → Has (managed_step r status o s)
  managed r status o s h =
      let t = drop_where (ends_list (Some r.operation)) o s in
      either (nat_eq status 0) (good_end r t.0 t.1) (end_step r.operation (words.Refused status) o (moved r.operation bad s))
      (goods r t.0 t.1 (drops_where (ends_list (Some r.operation)) o s h))
      (moves (moves_session r.operation) bad o s h)

  units : (u : Option SbpUnit) (act : ℕ) (o : OutboxState) (s : InitiatorState) → Has (o, s) → Has (with_unit u act o s)
  units None act o s h = owns act words.NoUnit o s h
  units (Some u) act o s h = owns act words.Done o (record s { management = Some (management_at u.management) }) h

  pub roms : (r : Result Tree RomFault) (act : ℕ) (o : OutboxState) (s : InitiatorState) → Has (o, s) → Has (with_rom r act o s)
  roms (Ok tree) act o s h = units (sbp_unit_of tree.blocks tree.entries) act o s h
  roms (Err fault) act o s h = owns act (words.Bad (fault_number fault)) o s h

  knows : (value : ℕ) (o : OutboxState) (s : InitiatorState) → Has (o, s) → Has (known_step value o s)
  knows value o s h =
      either (nat_eq value 0) (drop_list_step o s) (o, cond (nat_eq value 3) (with_dead s) s) (drops o s h) (either_state (nat_eq value 3) o (with_dead s) s h h)

  knows_where : (b : Bool) (value : ℕ) (o : OutboxState) (s : InitiatorState) → Has (o, s) → Has (known_where b value o s)
  knows_where true value o s h = knows value o s h
  knows_where false value o s h = h

  pub states : (act : ℕ) (n : Option ℕ) (ending : Ending) (o : OutboxState) (s : InitiatorState) → Has (o, s) → Has (state_ended act n ending o s)
  states act n (endings.Complete value) o s h = knows_where (counts_for s.lists.slots.present n) value o s h
  states act n (endings.Refused rcode) o s h = h
  states act n endings.Expired o s h = h

  -- a time-out
  rom_expires : (act : ℕ) (o : OutboxState) (s : InitiatorState) → Has (o, s) → Has (rom_ended act endings.Expired o s)
  rom_expires act o s h = owns act words.Error o s h

  expires : (purpose : Purpose) (o : OutboxState) (s : InitiatorState) → Has (o, s) → Has (ended_step purpose endings.Expired o s)
  unfolding ended_step
  expires (purposes.Pointer n) o s h = points n endings.Expired o s h
  expires purposes.Doorbell o s h = bells endings.Expired o s h
  expires (purposes.AgentReset act) o s h = resets act endings.Expired o s h
  expires (purposes.Enable act) o s h = enables act endings.Expired o s h
  expires (purposes.Management act) o s h = manages act endings.Expired o s h
  expires (purposes.Rom act) o s h = rom_expires act o s h
  expires (purposes.State act n) o s h = states act n endings.Expired o s h

  expires_as : (r : Result (Option Purpose) Stale × Layer Purpose) (o : OutboxState) (s : InitiatorState) → Has (o, record s { layer = r.1 }) → Has (expired_as r o s).1
  expires_as (Err stale, layer) o s h = h
  expires_as (Ok None, layer) o s h = h
  expires_as (Ok (Some purpose), layer) o s h = expires purpose o (called (record s { layer = layer })) h

  -- a sight of a reset
  ends_states : (number : ℕ) (acts : List ℕ) (o : OutboxState) (s : InitiatorState) → Has (o, s) → Has (states_end number acts o, s)
  ends_states number [] o s h = h
  ends_states number (act ∷ acts) o s h = ends_states number acts (reset_told number operations.State o) s h

  ends_all : (number : ℕ) (r : Running) (acts : List ℕ) (o : OutboxState) (s : InitiatorState) → Has (o, s) → Has (all_end number r acts o, s)
  ends_all number r [] o s h = h
  ends_all number r (act ∷ acts) o s h =
      either_box (nat_lt r.act act) (states_end number (act ∷ acts) (reset_told number r.operation o)) (all_end number r acts (reset_told number operations.State o)) s
      (ends_states number (act ∷ acts) (reset_told number r.operation o) s h)
      (ends_all number r acts (reset_told number operations.State o) s h)

  tells_resets : (r : Option Running) (number : ℕ) (acts : List ℕ) (o : OutboxState) (s : InitiatorState) → Has (o, s) → Has (resets_told number r acts o, s)
  tells_resets None number acts o s h = ends_states number acts o s h
  tells_resets (Some r) number acts o s h = ends_all number r acts o s h

  sees_as : (r : Bool × Layer Purpose) (target : ℕ) (o : OutboxState) (s : InitiatorState) → Has (o, record s { layer = r.1 }) → Has (seen_as r target o s)
  sees_as (false, layer) target o s h = h
  sees_as (true, layer) target o s h =
      let t = record s { layer = layer } in
      drops (resets_told t.number t.operation t.states o) (interrupted t target) (tells_resets t.operation t.number t.states o t h)

pub expire_quiet : (label : LabelParts) (o : OutboxState) (s : InitiatorState) → IsQuiet (o, s) (expire_step label o s).1
unfolding expire_step
expire_quiet label o s =
    let r = expiring_step s.layer s.target label in
    let h = expires_as o.packets s.quads r.1.node r o s (refl, refl, refl) in
    record { packets = h.0; quads = h.1 }

pub see_quiet : (generation id target : ℕ) (o : OutboxState) (s : InitiatorState) → IsQuiet (o, s) (see_step generation id target o s)
unfolding see_step
see_quiet generation id target o s =
    let r = seeing_step s.layer generation id in
    let h = sees_as o.packets s.quads r.1.node r target o s (refl, refl, refl) in
    record { packets = h.0; quads = h.1 }
