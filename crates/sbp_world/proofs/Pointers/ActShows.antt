-- What an action leaves: the list that its initiator has is the present one by the run.
use Rattle.sbp_world.proofs.Words.Std.{arith, ◌≡◌, refl, sym, ◌∙◌, ap, subst, ℕ, true, List, Option, Some, None, Result, Ok, Err, nat_tests}
use Rattle.sbp_world.proofs.Words.Wire.{empty_outbox, Moment, Action, Side}
use Rattle.sbp_world.proofs.Words.Initiator.{ListFault, PresentList, SlotTable, checked, pin_at, pin_step, TicketParts, InitiatorState, IsAction, act_step, Turn, is_list, acts}
use Rattle.sbp_world.proofs.Words.Laws.{present_list}
use Rattle.sbp_world.proofs.Words.World.{behind, AreRows, present_in, IsHost}
use Rattle.sbp_journal.specs.declared.event.Action.TheVariants as actions
use Rattle.sbp_world.specs.Hosts.Calls.{Left}
use Rattle.sbp_world.proofs.Hosts.Acts.{act_left}
use Rattle.sbp_world.proofs.Hosts.Liners.{host_listed, number_call}
use Rattle.sbp_world.proofs.Pointers.Showing.{IsShowing}
use Rattle.sbp_world.proofs.Common.{untrue}

pinned_by : (r : Result (Unit {0}) ListFault) (slots : SlotTable) (t : TicketParts) → (pin_at r slots t).1.present ≡ slots.present
pinned_by (Err fault) slots t = refl
pinned_by (Ok done) slots t = refl

pin_same : (slots : SlotTable) (t : TicketParts) → (pin_step slots t).1.present ≡ slots.present
unfolding pin_step
pin_same slots t = pinned_by (checked slots t) slots t

left_present : (action : Action) (past : List Moment) (s : InitiatorState) (t : Turn) → Left action past empty_outbox s t → AreRows past s.number s.lists.slots → present_list (behind t.0.sides past) t.1.number ≡ present_in t.1.lists.slots.present
left_present (actions.Abort k) past s t l r =
    ap (λ (told : List Side). present_list (behind told past) t.1.number) l.silent
    ∙ ap (present_list past) l.same
    ∙ r.fits.present
    ∙ ap present_in (sym (ap (λ (x : SlotTable). x.present) l.table_is ∙ pin_same s.lists.slots l.ticket))
left_present _ past s t l r = l.rows.fits.present

present_some : (present : Option PresentList) (n : ℕ) → is_list present n ≡ true → present_in present ≡ Some n
present_some None n e = untrue e
present_some (Some list) n e = let same : list.tail.list ≡ n = grind (arith, nat_tests) in ap Some same

pub act_showing : (action : Action) (past : List Moment) (i : ℕ) (s : InitiatorState) → IsAction action → (act_step action empty_outbox s).0 ≡ None → IsHost past i s → (let t = (act_step action empty_outbox s).1 in IsShowing (behind t.0.sides past) i t.1)
act_showing action past i s fit done h =
    let t = (act_step action empty_outbox s).1 in
    let number : t.1.number ≡ i = number_call (acts action) (empty_outbox, s) fit ∙ h.number in
    λ n e.
    ap (present_list (behind t.0.sides past)) (sym number)
    ∙ left_present action past s t (act_left past action empty_outbox s done (host_listed past i s h)) (subst (λ j. AreRows past j s.lists.slots) (sym h.number) h.rows)
    ∙ present_some t.1.lists.slots.present n e
