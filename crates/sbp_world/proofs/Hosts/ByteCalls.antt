-- The calls of an initiator's slots that leave the page tables and the buffers of its memory.
use Rattle.sbp_world.proofs.Words.Std.{◌≡◌, refl, ap, ◌∙◌, ℕ, zero, suc, List, [], ◌∷◌, ◌++◌, Option, Some, None, Result, Ok, Err}
use Rattle.sbp_world.proofs.Words.Initiator.{set_step, IsInside, IsWhole, Memory, empty_slot, slot_at, with_slot, slot_of, SlotMemory, StatusBlock, ListFault, Linking, Slot, AreProper, IsManaged, IsProper, Prepare, LinkLow, LinkHigh, MakeDummy, TakeStatus, DropList, FreeAll, Pin, Unpin, TryWrite, Fill, SetQuad, left_by, run, SlotTable, closed, high_for, low_for, slot_in, waiting, waits_high, waits_low, TicketParts}
use Rattle.std.proofs.Common.{slice_index_or, slice_set}
use Rattle.bus_memory.specs.declared.window.Window.TheVariants as windows
use Rattle.bus_memory.proofs.Found.{own_law}
use Rattle.orb_list.specs.Runs.{Call}
use Rattle.orb_list.specs.Table as table
use Rattle.orb_list.proofs.Closed.{closed_keeps}
use Rattle.orb_list.proofs.Steps.{held_law}

pub record KeepsBytes (m n : Memory) : Type 0 where
  pub tables : (k : ℕ) → (slot_at n k).table ≡ (slot_at m k).table
  pub buffers : (k : ℕ) → (slot_at n k).buffer ≡ (slot_at m k).buffer

pub keeps_same : (m n : Memory) → n ≡ m → KeepsBytes m n
keeps_same m n e = record { tables = λ k. ap (λ (x : Memory). (slot_at x k).table) e; buffers = λ k. ap (λ (x : Memory). (slot_at x k).buffer) e }

pub keeps_both : (m n o : Memory) → KeepsBytes m n → KeepsBytes n o → KeepsBytes m o
keeps_both m n o h k = record { tables = λ j. k.tables j ∙ h.tables j; buffers = λ j. k.buffers j ∙ h.buffers j }

field_set : (f : SlotMemory → List ℕ) (slots : List SlotMemory) (b k : ℕ) (x : SlotMemory) → f x ≡ f (slice_index_or slots b empty_slot) → f (slice_index_or (slice_set slots b x) k empty_slot) ≡ f (slice_index_or slots k empty_slot)
field_set f [] b k x e = refl
field_set f (slot ∷ slots) zero zero x e = e
field_set f (slot ∷ slots) zero (suc k) x e = refl
field_set f (slot ∷ slots) (suc b) zero x e = refl
field_set f (slot ∷ slots) (suc b) (suc k) x e = field_set f slots b k x e

-- another part of a slot is set, and slots are closed
slot_keeps : (m : Memory) (b : ℕ) (x : SlotMemory) → x.table ≡ (slot_at m b).table → x.buffer ≡ (slot_at m b).buffer → KeepsBytes m (with_slot m b x)
slot_keeps m b x e f = record { tables = λ k. field_set (λ slot. slot.table) m.slots b k x e; buffers = λ k. field_set (λ slot. slot.buffer) m.slots b k x f }

closing_keeps : (slots : List Slot) (m : Memory) → KeepsBytes m (closed slots m)
closing_keeps slots m = record { tables = λ k. closed_keeps slots m (windows.Table k); buffers = λ k. closed_keeps slots m (windows.Buffer k) }

-- ---- single calls

abbrev pub IsCalm : Call → Type 0
IsCalm (Prepare asked) = ⊥
IsCalm (TryWrite offset bytes) = ⊥
IsCalm (Fill slot at bytes) = ⊥
IsCalm _ = Unit {0}

module _ (s : SlotTable) (m : Memory) where
  stays : KeepsBytes m m
  stays = keeps_same m m refl

  low_keeps : (found : Option Linking) → KeepsBytes m (low_for found s m).1.1
  low_keeps None = stays
  low_keeps (Some linking) = slot_keeps m linking.before _ refl refl

  high_keeps : (found : Option Linking) → KeepsBytes m (high_for found s m).1.1
  high_keeps None = stays
  high_keeps (Some linking) = keeps_both m _ _ (slot_keeps m linking.before _ refl refl) (closing_keeps _ _)

  dummy_keeps : (found : Result (Unit {0}) ListFault) (t : TicketParts) → KeepsBytes m (table.dummy_at found s m t).1.1
  dummy_keeps (Err fault) t = stays
  dummy_keeps (Ok done) t = slot_keeps m t.slot _ refl refl

  taken_keeps : (found : Option TicketParts) (number : ℕ) (block : StatusBlock) → KeepsBytes m (table.status_at found number s m block).1.1
  taken_keeps None number block = stays
  taken_keeps (Some t) number block = closing_keeps _ m

  status_keeps : (found : Option ℕ) (block : StatusBlock) → KeepsBytes m (table.status_for found s m block).1.1
  status_keeps None block = stays
  status_keeps (Some number) block = taken_keeps (waiting (slot_in s.slots number)) number block

  unpin_keeps : (pinned : Option TicketParts) → KeepsBytes m (table.unpin_for pinned s m).1
  unpin_keeps None = stays
  unpin_keeps (Some t) = closing_keeps _ m

  quad_keeps : (offset value : ℕ) → IsWhole m → IsManaged offset → KeepsBytes m (set_step m offset value)
  quad_keeps offset value whole q =
      let inside : IsInside m offset 4 (windows.Management q.place) = record { exists = q.exists; begins = q.begins; ends = q.ends } in
      let is = own_law.set m offset q.place value whole inside in
      record {
        tables = λ k. ap (λ (x : Memory). (slot_at x k).table) is;
        buffers = λ k. ap (λ (x : Memory). (slot_at x k).buffer) is;
      }

  pub call_keeps : (call : Call) → IsCalm call → IsProper call → IsWhole m → KeepsBytes m (left_by call s m).1
  unfolding table.low_step table.high_step table.dummy_step table.status_step table.free_all_step table.unpin_step
  call_keeps (Prepare asked) q p whole = absurd q
  call_keeps LinkLow q p whole = low_keeps (waits_low s.present)
  call_keeps LinkHigh q p whole = high_keeps (waits_high s.present)
  call_keeps (MakeDummy t) q p whole = dummy_keeps (table.checked s t) t
  call_keeps (TakeStatus block) q p whole = status_keeps (slot_of block.orb) block
  call_keeps DropList q p whole = stays
  call_keeps FreeAll q p whole = closing_keeps (table.all_freed s).slots m
  call_keeps (Pin t) q p whole = stays
  call_keeps Unpin q p whole = unpin_keeps s.pinned
  call_keeps (TryWrite offset bytes) q p whole = absurd q
  call_keeps (Fill slot at bytes) q p whole = absurd q
  call_keeps (SetQuad offset value) q p whole = quad_keeps offset value whole p

-- ---- lists of calls

abbrev pub AreCalm : List Call → Type 0
AreCalm [] = Unit {0}
AreCalm (call ∷ calls) = IsCalm call × AreCalm calls

pub calm_append : (xs ys : List Call) → AreCalm xs → AreCalm ys → AreCalm (xs ++ ys)
calm_append [] ys a b = b
calm_append (x ∷ xs) ys a b = (a.0, calm_append xs ys a.1 b)

-- later ones that are calm
pub calm_keeps : (later calls : List Call) (quads : List ℕ) → AreProper (later ++ calls) → AreCalm later → KeepsBytes (run calls quads).memory (run (later ++ calls) quads).memory
calm_keeps [] calls quads p q = keeps_same (run calls quads).memory (run calls quads).memory refl
calm_keeps (call ∷ later) calls quads p q =
    let r = run (later ++ calls) quads in
    keeps_both (run calls quads).memory r.memory (left_by call r.table r.memory).1 (calm_keeps later calls quads p.1 q.1)
    (call_keeps r.table r.memory call q.0 p.0 (held_law.run_held (later ++ calls) quads p.1).whole)
