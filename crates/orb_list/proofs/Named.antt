-- A status that is taken is that of the ORB that its block names.
use Rattle.std.proofs.Common.{◌≡◌, refl, sym, ◌∙◌, ap, ℕ, true, List, Option, Some, None, Ok}
use Rattle.bus_memory.specs.declared.window.Window.TheVariants as windows
use Rattle.bus_memory.specs.Windows.{start, slot_of}
use Rattle.bus_memory.specs.Memory.{Memory}
use Rattle.bus_memory.proofs.Found.{slot_of_law}
use Rattle.orb_layout.specs.declared.status.StatusBlock.{StatusBlock}
use Rattle.orb_list.specs.Tickets.{TicketParts}
use Rattle.orb_list.specs.Table.{SlotTable, slot_in, waiting, status_at, status_for, status_step}
use Rattle.orb_list.specs.Runs.{Note, run, waits}
use Rattle.orb_list.specs.Named.{NamedLaw}
use Rattle.orb_list.proofs.Tied.{Tied, past_slots, tied_run, waits_last}

abbrev IsNamed : List Note → StatusBlock → TicketParts → Type 0
IsNamed ns block t = (waits ns t ≡ true) × (block.orb ≡ start (windows.Orb t.slot))

named_at : (s : SlotTable) (m : Memory) (block : StatusBlock) (t : TicketParts) (ns : List Note) (number : ℕ) (found : Option TicketParts) → slot_of block.orb ≡ Some number → waiting (slot_in s.slots number) ≡ found → Tied s.slots ns → (status_at found number s m block).0 ≡ Ok t → IsNamed ns block t
named_at s m block t ns number None p w i e = cc
named_at s m block t ns number (Some u) p w i e =
    let f : u ≡ t = cc in
    let here : waiting (slot_in s.slots number) ≡ Some t = w ∙ ap (λ (x : TicketParts). Some x) f in
    let small = past_slots s.slots number t i.size here in
    let own : t.slot ≡ number = i.index number t small (waits_last (slot_in s.slots number) t here) in
    (i.back number t small here, (slot_of_law.begins block.orb number p).1 ∙ ap (λ (k : ℕ). start (windows.Orb k)) (sym own))

named_for : (s : SlotTable) (m : Memory) (block : StatusBlock) (t : TicketParts) (ns : List Note) (found : Option ℕ) → slot_of block.orb ≡ found → Tied s.slots ns → (status_for found s m block).0 ≡ Ok t → IsNamed ns block t
named_for s m block t ns None p i e = cc
named_for s m block t ns (Some number) p i e = named_at s m block t ns number (waiting (slot_in s.slots number)) p refl i e

named_status : (s : SlotTable) (m : Memory) (block : StatusBlock) (t : TicketParts) (ns : List Note) → Tied s.slots ns → (status_step s m block).0 ≡ Ok t → IsNamed ns block t
unfolding status_step
named_status s m block t ns i e = named_for s m block t ns (slot_of block.orb) refl i e

taken_status : (s : SlotTable) (m : Memory) (block : StatusBlock) (t : TicketParts) (ns : List Note) → Tied s.slots ns → waits ns t ≡ true → block.orb ≡ start (windows.Orb t.slot) → (status_step s m block).0 ≡ Ok t
unfolding status_step
taken_status s m block t ns i w e =
    let here = i.keeps t w in
    let found : slot_of block.orb ≡ Some t.slot = ap (λ (n : ℕ). slot_of n) e ∙ slot_of_law.found t.slot (past_slots s.slots t.slot t i.size here) in
    ap (λ (n : Option ℕ). (status_for n s m block).0) found ∙ ap (λ (u : Option TicketParts). (status_at u t.slot s m block).0) here

pub named_law : NamedLaw
named_law = record {
  named = λ calls quads block t e. named_status (run calls quads).table (run calls quads).memory block t (run calls quads).notes (tied_run calls quads) e;
  taken = λ calls quads block t w e. taken_status (run calls quads).table (run calls quads).memory block t (run calls quads).notes (tied_run calls quads) w e;
}
