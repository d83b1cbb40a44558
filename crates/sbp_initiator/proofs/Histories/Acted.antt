-- An action as moves of an initiator's parts.
use Rattle.std.proofs.Common.{arith, ◌≡◌, refl, ℕ, ◌+◌, nat_eq, is_some, Bool, true, false, cond, List, [], ◌∷◌, ◌++◌, Option, Some, None, Result, Ok, Err}
use Rattle.label_table.specs.declared.judgement.Asked.{Asked}
use Rattle.label_table.specs.Layer.{Layer}
use Rattle.bus_memory.specs.Memory.{Memory}
use Rattle.orb_layout.specs.declared.management.ManagementOrb.{ManagementOrb}
use Rattle.orb_list.specs.declared.fault.ListFault.{ListFault}
use Rattle.orb_list.specs.declared.list.PresentList.{PresentList}
use Rattle.orb_list.specs.Runs as slot_runs
use Rattle.orb_list.specs.Tickets.{TicketParts}
use Rattle.orb_list.specs.Table.{SlotTable, find_in, prepare_step}
use Rattle.sbp_session.specs.Moves.{sent, pointing, goes}
use Rattle.sbp_journal.specs.declared.event.Action.{Action}
use Rattle.sbp_journal.specs.declared.event.Action.TheVariants as actions
use Rattle.sbp_journal.specs.declared.event.Cmd.{Cmd}
use Rattle.sbp_journal.specs.declared.note.Note.TheVariants as notes
use Rattle.sbp_journal.specs.declared.operation.Operation.{Operation}
use Rattle.sbp_journal.specs.declared.operation.Operation.TheVariants as operations
use Rattle.sbp_journal.specs.declared.outbox.Outgoing.{Outgoing}
use Rattle.sbp_journal.specs.Buffers.{buffer_of}
use Rattle.sbp_journal.specs.Outgoings.{OutboxState}
use Rattle.sbp_initiator.specs.declared.purpose.Purpose.{Purpose}
use Rattle.sbp_initiator.specs.declared.purpose.Demand.{Demand}
use Rattle.sbp_initiator.specs.declared.purpose.Pointing.TheVariants as pointings
use Rattle.sbp_initiator.specs.declared.state.InitiatorState.{InitiatorState}
use Rattle.sbp_initiator.specs.Refusals.{refusal}
use Rattle.orb_list.specs.Lists.{ListState, with_parts, low_lists, high_lists, dummy_lists, pin_lists}
use Rattle.sbp_initiator.specs.Commands.{IsCommand, asked_by, plan_of, prepared_as, put_lists}
use Rattle.sbp_initiator.specs.States.{is_unwritten, last_linked, no_marks, place_of, wanted_body}
use Rattle.sbp_initiator.specs.Effects.{told, with_request}
use Rattle.sbp_initiator.specs.Acting.{IsAction, facts_with, demand_of, asked_for, login_id, login_orb, orb_by, begun, managed_by, with_sent, with_login, with_running, pinned_for, with_first, put_as, put_step, low_as, low_step, link_as, link_step, with_ring, ring_for, ring_step, append_step, dummy_for, manage_start, register_start, done_step, counted, asked_as, demanded_as, judged_as, act_step}
use Rattle.sbp_initiator.specs.Histories.Moves.{Stage, stage, staged, by_call, by_orb, by_plan, outgoing, Moves, tells, sits, relists, marks_as, works_at, reads_on, holds, counts_up, asks, fails, sends, go_on}
use Rattle.sbp_initiator.proofs.Histories.Moved.{pick_state}

module _ (b : Bool) (z : Stage) (a : List Outgoing) where
  first_moves : (t : TicketParts) (o : OutboxState) (s : InitiatorState) → Moves b z (stage a o s) → Moves b z (stage a o (with_first t s))
  first_moves t o s m =
      pick_state b z a (nat_eq t.number 0) o (record s { marks = record no_marks { first = t.slot } }) s (go_on z _ _ m (marks_as (stage a o s) (record no_marks { first = t.slot }))) m

  prepared : (r : Result TicketParts ListFault × (SlotTable × Memory)) (cmd : Cmd) (o : OutboxState) (s : InitiatorState) → Moves b z (stage a o (record s { lists = with_parts s.lists r.1 })) → Moves b z (staged a (put_as (prepared_as r s.lists cmd) cmd o s))
  prepared (Ok t, parts) cmd o s m =
      let l = (prepared_as (Ok t, parts) s.lists cmd).1 in
      let n = notes.Append s.number t.list t.number cmd.cdb (buffer_of cmd) in
      first_moves t (told o n) (record s { lists = l })
      (go_on z _ _ (go_on z _ _ m (relists (stage a o (record s { lists = with_parts s.lists parts })) (by_plan t.slot (plan_of cmd)) tt)) (tells (stage a o (record s { lists = l })) n))
  prepared (Err fault, parts) cmd o s m = m

  put_moves : (cmd : Cmd) (o : OutboxState) (s : InitiatorState) → IsCommand cmd → Moves b z (stage a o s) → Moves b z (staged a (put_step cmd o s))
  unfolding put_lists
  put_moves cmd o s h m =
      prepared (prepare_step s.lists.slots s.lists.memory (asked_by cmd s.layer.node (login_id s))) cmd o s
      (go_on z _ _ m (relists (stage a o s) (by_call (slot_runs.Prepare (asked_by cmd s.layer.node (login_id s)))) (h s.layer.node (login_id s))))

  lowered : (t : Option TicketParts) (l : ListState) (o : OutboxState) (s : InitiatorState) → Moves b z (stage a o (record s { lists = l })) → Moves b z (staged a (low_as (t, l) o s))
  lowered None l o s m = m
  lowered (Some t) l o s m = go_on z _ _ m (tells (stage a o (record s { lists = l })) (notes.Low s.number t.list t.number))

  low_moves : (o : OutboxState) (s : InitiatorState) → Moves b z (stage a o s) → Moves b z (staged a (low_step o s))
  unfolding low_lists
  low_moves o s m = lowered (low_lists s.lists).0 (low_lists s.lists).1 o s (go_on z _ _ m (relists (stage a o s) (by_call slot_runs.LinkLow) tt))

  linked : (t : Option TicketParts) (l : ListState) (o : OutboxState) (s : InitiatorState) → Moves b z (stage a o (record s { lists = l })) → Moves b z (staged a (link_as (t, l) o s))
  linked None l o s m = m
  linked (Some t) l o s m = go_on z _ _ m (tells (stage a o (record s { lists = l })) (notes.Linked s.number t.list t.number))

  link_moves : (o : OutboxState) (s : InitiatorState) → Moves b z (stage a o s) → Moves b z (staged a (link_step o s))
  unfolding high_lists
  link_moves o s m = linked (high_lists s.lists).0 (high_lists s.lists).1 o s (go_on z _ _ m (relists (stage a o s) (by_call slot_runs.LinkHigh) tt))

  running_moves : (o : OutboxState) (s : InitiatorState) → Moves b z (stage a o s) → Moves b z (stage a o (with_running s))
  running_moves o s m =
      go_on z _ _ m
      (counts_up (stage a o s) (record s.counts { running = s.counts.running + 1 }) (record { managed = omega arith; logins = omega arith; running = omega arith; calls = omega arith; acts = omega arith }))

  rung_moves : (o : OutboxState) (s : InitiatorState) → Moves b z (stage a o s) → Moves b z (stage a o (with_ring s))
  rung_moves o s m =
      let w = record s { marks = record s.marks { pointing = pointings.Written } } in
      pick_state b z a (is_unwritten s.marks.pointing) o (record w { seat = goes pointing w.seat }) (with_running s)
      (go_on z _ _ (go_on z _ _ m (marks_as (stage a o s) (record s.marks { pointing = pointings.Written }))) (sits (stage a o w) pointing refl))
      (running_moves o s m)

  rings : (p : Option PresentList) (o : OutboxState) (s : InitiatorState) → Moves b z (stage a o s) → Moves b z (staged a (ring_for p o s))
  rings None o s m = m
  rings (Some list) o s m =
      let n = notes.Rung s.number list.tail.list (last_linked list) in rung_moves (told o n) s (go_on z _ _ m (tells (stage a o s) n))

  ring_moves : (o : OutboxState) (s : InitiatorState) → Moves b z (stage a o s) → Moves b z (staged a (ring_step o s))
  ring_moves o s m = rings s.lists.slots.present o s m

  append_moves : (cmd : Cmd) (o : OutboxState) (s : InitiatorState) → IsCommand cmd → Moves b z (stage a o s) → Moves b z (staged a (append_step cmd o s))
  append_moves cmd o s h m =
      let x = put_step cmd o s in
      let y = low_step x.0 x.1 in
      let w = link_step y.0 y.1 in
      ring_moves w.0 w.1 (link_moves y.0 y.1 (low_moves x.0 x.1 (put_moves cmd o s h m)))

  dummies : (t : Option TicketParts) (o : OutboxState) (s : InitiatorState) → Moves b z (stage a o s) → Moves b z (staged a (dummy_for t o s))
  unfolding dummy_lists
  dummies None o s m = m
  dummies (Some t) o s m =
      let n = notes.Dummied s.number t.list t.number in
      go_on z _ _ (go_on z _ _ m (tells (stage a o s) n)) (relists (stage a (told o n) s) (by_call (slot_runs.MakeDummy t)) tt)

  begun_moves : (operation : Operation) (managed : Option ℕ) (o : OutboxState) (s : InitiatorState) → Moves b z (stage a o s) → Moves b z (stage a o (begun operation managed s))
  begun_moves operation managed o s m =
      go_on z _ _ m (works_at (stage a o s) (Some (record { operation = operation; act = s.counts.acts; managed = managed })))

  managed_moves : (orb : ManagementOrb) (operation : Operation) (o : OutboxState) (s : InitiatorState) → Moves b z (stage a o s) → Moves b z (stage a o (managed_by orb operation s))
  managed_moves orb operation o s m =
      let t = begun operation (Some s.counts.managed) s in
      let k = go_on z _ _ (begun_moves operation (Some s.counts.managed) o s m) (relists (stage a o t) (by_orb (place_of s.counts.managed) orb) (omega arith)) in
      go_on z _ _ k
      (counts_up _ (record s.counts { managed = s.counts.managed + 1 }) (record { managed = omega arith; logins = omega arith; running = omega arith; calls = omega arith; acts = omega arith }))

  sent_moves : (o : OutboxState) (s : InitiatorState) → Moves b z (stage a o s) → Moves b z (stage a o (with_sent s))
  sent_moves o s m = go_on z _ _ m (sits (stage a o s) sent refl)

  login_moves : (o : OutboxState) (s : InitiatorState) → Moves b z (stage a o s) → Moves b z (stage a o (with_login s))
  login_moves o s m =
      go_on z _ _ m
      (counts_up (stage a o s) (record s.counts { logins = s.counts.logins + 1 }) (record { managed = omega arith; logins = omega arith; running = omega arith; calls = omega arith; acts = omega arith }))

  pick_lists : (c : Bool) (o : OutboxState) (s : InitiatorState) (k l : ListState) → Moves b z (stage a o (record s { lists = k })) → Moves b z (stage a o (record s { lists = l })) → Moves b z (stage a o (record s { lists = cond c k l }))
  pick_lists true o s k l m n = m
  pick_lists false o s k l m n = n

  pins : (t : Option TicketParts) (o : OutboxState) (s : InitiatorState) → Moves b z (stage a o s) → Moves b z (stage a o (pinned_for t s))
  unfolding pin_lists
  pins None o s m = m
  pins (Some t) o s m =
      pick_lists (is_some s.lists.slots.pinned) o s s.lists _ m (go_on z _ _ m (relists (stage a o s) (by_call (slot_runs.Pin t)) tt))

  manage_moves : (action : Action) (o : OutboxState) (s : InitiatorState) → Moves b z (stage a o s) → Moves b z (stage a o (manage_start action s))
  manage_moves (actions.Login unit reconnect exclusive password) o s m =
      let t = managed_by (login_orb s unit reconnect exclusive password) operations.Login s in
      sent_moves o (with_login t) (login_moves o t (managed_moves (login_orb s unit reconnect exclusive password) operations.Login o s m))
  manage_moves (actions.Query unit) o s m = managed_moves (orb_by (actions.Query unit) s) operations.Query o s m
  manage_moves actions.Reconnect o s m =
      sent_moves o (managed_by (orb_by actions.Reconnect s) operations.Reconnect s) (managed_moves (orb_by actions.Reconnect s) operations.Reconnect o s m)
  manage_moves actions.Logout o s m =
      sent_moves o (managed_by (orb_by actions.Logout s) operations.Logout s) (managed_moves (orb_by actions.Logout s) operations.Logout o s m)
  manage_moves (actions.Abort orb) o s m =
      let t = managed_by (orb_by (actions.Abort orb) s) operations.Abort s in
      pins (find_in t.lists.slots.slots orb) o t (managed_moves (orb_by (actions.Abort orb) s) operations.Abort o s m)
  manage_moves actions.AbortSet o s m = managed_moves (orb_by actions.AbortSet s) operations.AbortSet o s m
  manage_moves actions.UnitReset o s m = managed_moves (orb_by actions.UnitReset s) operations.UnitReset o s m
  manage_moves actions.TargetReset o s m = managed_moves (orb_by actions.TargetReset s) operations.TargetReset o s m
  manage_moves _ o s m = m

  register_moves : (action : Action) (o : OutboxState) (s : InitiatorState) → Moves b z (stage a o s) → Moves b z (stage a o (register_start action s))
  register_moves actions.Rom o s m =
      go_on z _ _ (begun_moves operations.Rom None o s m) (holds (stage a o (begun operations.Rom None s)) [])
  register_moves actions.AgentReset o s m =
      running_moves o (begun operations.AgentReset None s) (begun_moves operations.AgentReset None o s m)
  register_moves actions.State o s m = go_on z _ _ m (reads_on (stage a o s) (s.states ++ s.counts.acts ∷ []))
  register_moves actions.Enable o s m = begun_moves operations.Enable None o s m
  register_moves _ o s m = m

  pub done_moves : (action : Action) (o : OutboxState) (s : InitiatorState) → IsAction action → Moves b z (stage a o s) → Moves b z (staged a (done_step action o s))
  unfolding done_step
  done_moves (actions.Put cmd) o s h m = put_moves cmd o s h m
  done_moves (actions.Append cmd) o s h m = append_moves cmd o s h m
  done_moves actions.Low o s h m = low_moves o s m
  done_moves actions.Link o s h m = link_moves o s m
  done_moves actions.Ring o s h m = ring_moves o s m
  done_moves (actions.Dummy orb) o s h m = dummies (find_in s.lists.slots.slots orb) o s m
  done_moves actions.Rom o s h m = register_moves actions.Rom o s m
  done_moves actions.AgentReset o s h m = register_moves actions.AgentReset o s m
  done_moves actions.State o s h m = register_moves actions.State o s m
  done_moves actions.Enable o s h m = register_moves actions.Enable o s m
  done_moves action o s h m = manage_moves action o s m

  counted_moves : (o : OutboxState) (s : InitiatorState) → Moves b z (stage a o s) → Moves b z (stage a o (counted s))
  counted_moves o s m =
      go_on z _ _ m
      (counts_up (stage a o s) (record s.counts { calls = s.counts.calls + 1; acts = s.counts.acts + 1 }) (record { managed = omega arith; logins = omega arith; running = omega arith; calls = omega arith; acts = omega arith }))

module _ (b : Bool) (z : Stage) where
  asked_act : (r : Option Asked × Layer Purpose) (demand : Demand) (action : Action) (o : OutboxState) (s : InitiatorState) → IsAction action → asked_for demand s ≡ r → Moves b z (stage [] o s) → Moves b z (staged [] (asked_as r action o s).1)
  asked_act (None, layer) demand action o s h e m =
      go_on z _ _ m (fails (stage [] o s) s.target (wanted_body demand.wanted) demand.purpose layer e)
  asked_act (Some asked, layer) demand action o s h e m =
      let p = outgoing s.target asked in
      let x = done_step action o (record s { layer = layer }) in
      let k = done_moves b z (p ∷ []) action o (record s { layer = layer }) h (go_on z _ _ m (asks (stage [] o s) s.target (wanted_body demand.wanted) demand.purpose asked layer e)) in
      counted_moves b z [] (with_request x.0 s.target asked) x.1 (go_on z _ _ k (sends x.0 x.1 p []))

  demanded : (d : Option Demand) (action : Action) (o : OutboxState) (s : InitiatorState) → IsAction action → Moves b z (stage [] o s) → Moves b z (staged [] (demanded_as d action o s).1)
  demanded None action o s h m =
      let x = done_step action o s in counted_moves b z [] x.0 x.1 (done_moves b z [] action o s h m)
  demanded (Some demand) action o s h m = asked_act (asked_for demand s) demand action o s h refl m

  judged : (r : Option ℕ) (action : Action) (o : OutboxState) (s : InitiatorState) → IsAction action → Moves b z (stage [] o s) → Moves b z (staged [] (judged_as r action o s).1)
  judged (Some number) action o s h m = m
  judged None action o s h m = demanded (demand_of action s) action o s h m

  pub act_moves : (action : Action) (o : OutboxState) (s : InitiatorState) → IsAction action → Moves b z (stage [] o s) → Moves b z (staged [] (act_step action o s).1)
  unfolding act_step
  act_moves action o s h m = judged (refusal action (facts_with true s action)) action o s h m
