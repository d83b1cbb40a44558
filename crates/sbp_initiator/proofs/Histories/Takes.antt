-- Whose status is taken.
use Rattle.std.proofs.Common.{◌≡◌, refl, sym, ap, ◌∙◌, ℕ, List, Some, Result, Ok, Err}
use Rattle.bus_memory.specs.Memory.{Memory}
use Rattle.bus_memory.specs.Windows.{slot_of}
use Rattle.orb_layout.specs.declared.status.StatusBlock.{StatusBlock}
use Rattle.orb_list.specs.declared.fault.ListFault.{ListFault}
use Rattle.orb_list.specs.Tickets.{TicketParts}
use Rattle.orb_list.specs.Table.{SlotTable, status_step}
use Rattle.orb_list.specs.Runs.{Call, run}
use Rattle.orb_list.proofs.Named.{named_law}
use Rattle.sbp_initiator.specs.Initiators.{own_rom}
use Rattle.sbp_initiator.specs.Histories.Laws.{after}
use Rattle.sbp_initiator.specs.Histories.Slots.{slot_calls_after, AreSlotsOf}
use Rattle.orb_list.specs.Lists.{ListState, take_lists, ticket_in}
use Rattle.sbp_initiator.proofs.Histories.Slotted.{slot_law}
use Rattle.sbp_initiator.specs.Histories.Taking.{waiting_at}
use Rattle.sbp_initiator.specs.Histories.Tells.{TakesLaw}
use Rattle.sbp_initiator.proofs.Histories.Requests.{take_found}

take_is : (lists : ListState) (block : StatusBlock) → (take_lists lists block).0 ≡ ticket_in (status_step lists.slots lists.memory block).0
unfolding take_lists
take_is lists block = refl

ok_of : (r : Result TicketParts ListFault) (t : TicketParts) → ticket_in r ≡ Some t → r ≡ Ok t
ok_of (Ok u) t e = cc
ok_of (Err fault) t e = cc

-- the step by the calls of the slots is that of the slots themselves
step_is : (quads : List ℕ) (calls : List Call) (lists : ListState) (w : AreSlotsOf quads calls lists) (block : StatusBlock) → (status_step (run calls quads).table (run calls quads).memory block).0 ≡ (status_step lists.slots lists.memory block).0
step_is quads calls lists w block =
    ap (λ (x : SlotTable). (status_step x (run calls quads).memory block).0) w.table
    ∙ ap (λ (m : Memory). (status_step lists.slots m block).0) w.memory

waiting_is : (lists : ListState) (block : StatusBlock) → waiting_at lists.slots.slots (slot_of block.orb) ≡ ticket_in (status_step lists.slots lists.memory block).0
waiting_is lists block = sym (take_found lists block) ∙ take_is lists block

pub takes_law : TakesLaw
takes_law number ready calls h block t =
    let w = slot_law number ready calls h in
    let done = slot_calls_after number ready calls in
    let lists = (after number ready calls).1.lists in (
      λ e. named_law.named done (own_rom number) block t
          (step_is (own_rom number) done lists w block ∙ ok_of (status_step lists.slots lists.memory block).0 t (sym (waiting_is lists block) ∙ e)),
      λ p. waiting_is lists block
          ∙ ap ticket_in (sym (step_is (own_rom number) done lists w block) ∙ named_law.taken done (own_rom number) block t p.0 p.1),
    )
