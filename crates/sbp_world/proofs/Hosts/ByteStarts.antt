-- What the page tables and the buffers in an initiator's memory hold as a run begins.
use Rattle.sbp_world.proofs.Words.Std.{◌≡◌, refl, ◌∙◌, ap, ℕ, zero, suc, Bool, [], ◌∷◌, replicate}
use Rattle.sbp_world.proofs.Words.Wire.{asked, said}
use Rattle.sbp_world.proofs.Words.Initiator.{empty_slot, SlotMemory, new_state, own_rom}
use Rattle.std.proofs.Common.{slice_index_or}
use Rattle.bus_memory.proofs.Written.{parts_law}
use Rattle.sbp_journal.specs.declared.event.Event.TheVariants as events
use Rattle.sbp_journal.specs.declared.note.Note.TheVariants as notes
use Rattle.sbp_world.proofs.Hosts.ByteTerms.{SlotBytes, byte_terms}

zeros : (n j : ℕ) → ◌≡◌ {A = ℕ} (slice_index_or (replicate n 0) j 0) 0
zeros zero j = refl
zeros (suc n) zero = refl
zeros (suc n) (suc j) = zeros n j

empty_table : empty_slot.table ≡ replicate 512 0
unfolding empty_slot
empty_table = refl

empty_byte : (j : ℕ) → ◌≡◌ {A = ℕ} (slice_index_or empty_slot.buffer j 0) 0
unfolding empty_slot
empty_byte j = zeros 32768 j

pub first_bytes : (line i initiators : ℕ) (ready : Bool) → SlotBytes (byte_terms (said (notes.Begin initiators ready) ∷ asked line (events.Begin initiators ready) ∷ []) i) (new_state i ready).lists.memory
unfolding new_state
first_bytes line i initiators ready = record {
  tables = λ k b. ap (λ (slot : SlotMemory). slot.table) (parts_law.new (own_rom i) k) ∙ empty_table;
  buffers = λ k j b c. ap (λ (slot : SlotMemory). slice_index_or slot.buffer j 0) (parts_law.new (own_rom i) k) ∙ empty_byte j;
  sends = λ k one cmd b e c g j byte d q. absurd (cc e);
}
