-- An action of an initiator ends no operation, drops no list and makes no session stuck: it tells the steps of its list alone.
use Rattle.std.proofs.Common.{[], List, None, Option, Some, ap, cond, false, refl, true, ℕ, ◌++◌, ◌∙◌, ◌∷◌, ◌≡◌}
use Rattle.label_table.specs.Layer.{Layer}
use Rattle.label_table.specs.declared.judgement.Asked.{Asked}
use Rattle.orb_list.specs.Lists.{ListState, high_lists, low_lists}
use Rattle.orb_list.specs.Table.{find_in}
use Rattle.orb_list.specs.Tickets.{TicketParts}
use Rattle.orb_list.specs.declared.list.PresentList.{PresentList}
use Rattle.sbp_initiator.specs.Acting.{act_step, asked_as, asked_for, demand_of, demanded_as, done_step, dummy_for, facts_with, judged_as, link_as, link_step, login_id, low_as, low_step, put_as, put_step, ring_for}
use Rattle.sbp_initiator.specs.Commands.{put_lists}
use Rattle.sbp_initiator.specs.Refusals.{refusal}
use Rattle.sbp_initiator.specs.declared.purpose.Demand.{Demand}
use Rattle.sbp_initiator.specs.declared.purpose.Purpose.{Purpose}
use Rattle.sbp_initiator.specs.declared.state.InitiatorState.{InitiatorState}
use Rattle.sbp_journal.specs.Outgoings.{OutboxState, empty_outbox}
use Rattle.sbp_journal.specs.declared.event.Action.{Action}
use Rattle.sbp_journal.specs.declared.event.Action.TheVariants as actions
use Rattle.sbp_journal.specs.declared.event.Cmd.{Cmd}
use Rattle.sbp_journal.specs.declared.note.Note.{Note}
use Rattle.sbp_journal.specs.declared.note.Note.TheVariants as notes
use Rattle.sbp_journal.specs.declared.side.Side.{Side}
use Rattle.sbp_journal.specs.declared.side.Side.TheVariants as sides
use Rattle.sbp_laws.specs.NoteKinds.{is_operation_note}
use Rattle.sbp_world.specs.Telling.{told as told_one}
use Rattle.sbp_world.specs.Worlds.{WorldState}
use Rattle.turn_laws.proofs.Handed.{handed, notes_told}
use Rattle.turn_laws.proofs.KindNotes.{kind_handed}
use Rattle.turn_laws.proofs.OwnNotes.{Ops, is_told}

-- what is told is none of these
abbrev pub AreQuiet : List Side → Type 0
AreQuiet [] = Unit {0}
AreQuiet (sides.Own note ∷ later) = (is_operation_note note ≡ false) × AreQuiet later
AreQuiet (_ ∷ later) = ⊥

quiet_told : (weight : ℕ) (later : List Side) (w : WorldState) → AreQuiet later → Ops (notes_told weight later w) ≡ []
quiet_told weight [] w q = refl
quiet_told weight (sides.Own note ∷ later) w q =
    let rest = Ops (notes_told weight later (told_one weight (sides.Own note) w)) in
    ap (λ b. cond b (note ∷ rest) rest) q.0 ∙ quiet_told weight later (told_one weight (sides.Own note) w) q.1
quiet_told weight (_ ∷ later) w q = absurd q

pub quiet_none : (node weight : ℕ) (outbox : OutboxState) (w : WorldState) → AreQuiet outbox.sides → Ops (handed node weight outbox w) ≡ []
quiet_none node weight outbox w q = kind_handed is_operation_note is_told node weight outbox w ∙ quiet_told weight outbox.sides w q

one_more : (before : List Side) (note : Note) → AreQuiet before → is_operation_note note ≡ false → AreQuiet (before ++ (sides.Own note ∷ []))
one_more [] note h f = (f, tt)
one_more (sides.Own first ∷ before) note h f = (h.0, one_more before note h.1 f)
one_more (_ ∷ before) note h f = absurd h

-- ---- the steps of a list
put_quiet : (r : Option TicketParts × ListState) (cmd : Cmd) (o : OutboxState) (s : InitiatorState) → AreQuiet o.sides → AreQuiet (put_as r cmd o s).0.sides
put_quiet (None, lists) cmd o s h = h
put_quiet (Some t, lists) cmd o s h = one_more o.sides _ h refl

low_quiet : (r : Option TicketParts × ListState) (o : OutboxState) (s : InitiatorState) → AreQuiet o.sides → AreQuiet (low_as r o s).0.sides
low_quiet (None, lists) o s h = h
low_quiet (Some t, lists) o s h = one_more o.sides (notes.Low s.number t.list t.number) h refl

link_quiet : (r : Option TicketParts × ListState) (o : OutboxState) (s : InitiatorState) → AreQuiet o.sides → AreQuiet (link_as r o s).0.sides
link_quiet (None, lists) o s h = h
link_quiet (Some t, lists) o s h = one_more o.sides (notes.Linked s.number t.list t.number) h refl

ring_quiet : (list : Option PresentList) (o : OutboxState) (s : InitiatorState) → AreQuiet o.sides → AreQuiet (ring_for list o s).0.sides
ring_quiet None o s h = h
ring_quiet (Some list) o s h = one_more o.sides _ h refl

dummy_quiet : (t : Option TicketParts) (o : OutboxState) (s : InitiatorState) → AreQuiet o.sides → AreQuiet (dummy_for t o s).0.sides
dummy_quiet None o s h = h
dummy_quiet (Some t) o s h = one_more o.sides (notes.Dummied s.number t.list t.number) h refl

done_quiet : (action : Action) (s : InitiatorState) → AreQuiet (done_step action empty_outbox s).0.sides
unfolding done_step
done_quiet (actions.Append cmd) s =
    let a = put_step cmd empty_outbox s in
    let b = low_step a.0 a.1 in
    let c = link_step b.0 b.1 in
    ring_quiet c.1.lists.slots.present c.0 c.1
    (link_quiet (high_lists b.1.lists) b.0 b.1 (low_quiet (low_lists a.1.lists) a.0 a.1 (put_quiet (put_lists s.lists cmd s.layer.node (login_id s)) cmd empty_outbox s tt)))
done_quiet (actions.Put cmd) s = put_quiet (put_lists s.lists cmd s.layer.node (login_id s)) cmd empty_outbox s tt
done_quiet actions.Low s = low_quiet (low_lists s.lists) empty_outbox s tt
done_quiet actions.Link s = link_quiet (high_lists s.lists) empty_outbox s tt
done_quiet actions.Ring s = ring_quiet s.lists.slots.present empty_outbox s tt
done_quiet (actions.Dummy orb) s = dummy_quiet (find_in s.lists.slots.slots orb) empty_outbox s tt
done_quiet actions.Rom s = tt
done_quiet actions.AgentReset s = tt
done_quiet actions.State s = tt
done_quiet actions.Enable s = tt
done_quiet (actions.Login unit reconnect exclusive password) s = tt
done_quiet (actions.Query unit) s = tt
done_quiet actions.Reconnect s = tt
done_quiet actions.Logout s = tt
done_quiet (actions.Abort orb) s = tt
done_quiet actions.AbortSet s = tt
done_quiet actions.UnitReset s = tt
done_quiet actions.TargetReset s = tt

module _ (action : Action) (s : InitiatorState) where
  asked_quiet : (r : Option Asked × Layer Purpose) → AreQuiet (asked_as r action empty_outbox s).1.0.sides
  asked_quiet (None, layer) = tt
  asked_quiet (Some request, layer) = done_quiet action (record s { layer = layer })

  demanded_quiet : (demand : Option Demand) → AreQuiet (demanded_as demand action empty_outbox s).1.0.sides
  demanded_quiet None = done_quiet action s
  demanded_quiet (Some demand) = asked_quiet (asked_for demand s)

  judged_quiet : (r : Option ℕ) → AreQuiet (judged_as r action empty_outbox s).1.0.sides
  judged_quiet (Some number) = tt
  judged_quiet None = demanded_quiet (demand_of action s)

  pub act_quiet : AreQuiet (act_step action empty_outbox s).1.0.sides
  unfolding act_step
  act_quiet = judged_quiet (refusal action (facts_with true s action))
