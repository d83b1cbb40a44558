-- What an initiator's memory has of its slots, and the rcodes of a read and of a write of it, are as the run terms say.
use Rattle.sbp_world.proofs.Words.Std.{arith, ◌≡◌, refl, sym, ap, subst, ◌∙◌, ℕ, suc, ◌+◌, ◌-◌, ◌*◌, ◌<◌, not, Bool, true, false, List, length, take, drop, Option, Some, None, take_all}
use Rattle.sbp_world.proofs.Words.Wire.{Access, window_rcode, Moment}
use Rattle.sbp_world.proofs.Words.Target.{made}
use Rattle.sbp_world.proofs.Words.Initiator.{read_step, write_step, IsWhole, Memory, slot_at, IfShare, IsWindow, start, window_at, Window, CommandOrb, SlotState, HoldsSlots, IfHoldsOrb, Kept, kept_in, table_bytes, run, free_state, is_free, slot_in, unused, TicketParts, own_rom, InitiatorState}
use Rattle.sbp_world.proofs.Words.Laws.{rom_size, Orb, prepared_in, vacant, direction_of, goes_in, is_used, orb_in_slot, rom_bytes, slot_is_open, table_held, table_in_slot, window_facts, window_gives}
use Rattle.sbp_world.proofs.Words.World.{AreRows, IsReadOf, IsWriteOf, name, name_in, row, row_by}
use Rattle.std.proofs.Common.{slice_index_or}
use Rattle.std.proofs.lemmas.List.{get_or-map}
use Rattle.bus_memory.specs.Memory as memories
use Rattle.bus_memory.specs.declared.window.Window.TheVariants as windows
use Rattle.bus_memory.proofs.Found.{window_here, window_share}
use Rattle.orb_list.specs.declared.slot.SlotState.TheVariants as states
use Rattle.orb_list.proofs.Steps.{held_law}
use Rattle.sbp_world.specs.Hosts.Reads.{IsHeld}
use Rattle.sbp_world.proofs.Hosts.Chains.{chained_run}
use Rattle.sbp_world.proofs.Hosts.MemoryOrbs.{orb_is, table_size}
use Rattle.sbp_world.proofs.Hosts.MemoryRcodes.{Agrees, IfAgrees, read_code, write_code}
use Rattle.sbp_world.proofs.Hosts.OrbAppends.{kept_last}
use Rattle.sbp_world.proofs.Hosts.OrbFits.{IfFits}
use Rattle.sbp_world.proofs.Hosts.OrbRuns.{Orbs}
use Rattle.sbp_world.proofs.Hosts.OrbSlots.{AllLast, HasLast, all_at, run_last}
use Rattle.sbp_world.proofs.Hosts.OrbTerms.{orb_terms}
use Rattle.sbp_world.proofs.Hosts.Orbs.{calls, found_kept, holds, reads, rows_of, slots_of, stands, whole}

-- what is known of a memory without the bytes of its buffers
pub record IsCoded (past : List Moment) (i : ℕ) (s : InitiatorState) : Type 0 where
  pub armed : (k : ℕ) → k < 32 → slot_is_open past i k ≡ (memories.slot_at s.lists.memory k).is_armed
  pub prepared : (k : ℕ) → k < 32 → slot_is_open past i k ≡ true → (one : Orb) × (prepared_in past i k ≡ Some one)
  pub held : (k : ℕ) (one : Orb) → k < 32 → prepared_in past i k ≡ Some one → IsHeld past i s.lists.memory k
  pub rom : s.lists.memory.rom ≡ rom_bytes (suc i) 0
  pub read_rcode : (access : Access) (out : List ℕ) → IsReadOf access out → (read_step s.lists.memory access.offset out).0 ≡ window_rcode (window_facts past i (rom_size (suc i) 0) access)
  pub write_rcode : (access : Access) (bytes : List ℕ) → IsWriteOf access bytes → (write_step s.lists.memory access.offset bytes).0 ≡ window_rcode (window_facts past i (rom_size (suc i) 0) access)
  pub carries : (access : Access) (k : ℕ) (one : Orb) → k < 32 → prepared_in past i k ≡ Some one → access.offset ≡ start (windows.Orb k) → access.count ≡ 32 → window_gives past i access (window_at access.offset) ≡ orb_in_slot past i k (prepared_in past i k)

-- ---- a row of a slot

used_row : (state : SlotState) (last : Option TicketParts) → is_used (row_by state last) ≡ not (free_state state)
used_row states.Free last = refl
used_row states.Waiting None = refl
used_row states.Waiting (Some t) = refl
used_row (states.Taken had_next) None = refl
used_row (states.Taken had_next) (Some t) = refl
used_row states.Resting last = refl

-- the ROM of a node without units
rom_length : (eui : ℕ) → length (memories.rom_bytes (made eui 0)) ≡ 32
unfolding made
rom_length eui = refl

module _ (ready : Bool) (past : List Moment) (i : ℕ) (s : InitiatorState) (rows : AreRows past i s.lists.slots) (h : Orbs ready past i s) where
  abbrev m : Memory
  m = s.lists.memory

  whole_here : IsWhole m
  whole_here = whole ready past i s rows h

  held_slots : HoldsSlots s.lists.slots.slots m
  held_slots =
      let made = slots_of ready past i s rows h in
      subst (λ x. HoldsSlots s.lists.slots.slots x) made.memory
      (subst (λ x. HoldsSlots x.slots (run (calls ready past i s rows h) (own_rom i)).memory) made.table
      (held_law.run_held (calls ready past i s rows h) (own_rom i) made.proper))

  -- ---- whether a slot is armed

  armed : (k : ℕ) → k < 32 → slot_is_open past i k ≡ (slot_at m k).is_armed
  armed k b =
      let z = rows.fits.size in
      let slot = slot_in s.lists.slots.slots k in
      ap (λ xs. is_used (slice_index_or xs k vacant)) rows.rows_are
      ∙ (ap is_used (get_or-map row s.lists.slots.slots k unused vacant (omega arith))
      ∙ (used_row slot.state slot.last ∙ sym (held_slots.armed k b)))

  -- one that is has an ORB
  has_last : (k : ℕ) → HasLast (slot_in s.lists.slots.slots k)
  has_last k =
      all_at s.lists.slots.slots k
      (subst (λ x. AllLast x.slots) (slots_of ready past i s rows h).table (run_last (calls ready past i s rows h) (own_rom i)))

  some_last : (last : Option TicketParts) → (last ≡ None → ⊥) → (t : TicketParts) × (last ≡ Some t)
  some_last None f = absurd (f refl)
  some_last (Some t) f = (t, refl)

  prepared : (k : ℕ) → k < 32 → slot_is_open past i k ≡ true → (one : Orb) × (prepared_in past i k ≡ Some one)
  prepared k b e =
      let slot = slot_in s.lists.slots.slots k in
      let held : not (is_free slot) ≡ true = sym (held_slots.armed k b) ∙ (sym (armed k b) ∙ e) in
      let t = some_last slot.last (λ l. absurd (differ (ap not (sym (has_last k l)) ∙ held))) in
      (name t.0, rows.fits.prepared k b ∙ ap name_in t.1)
    where
      differ : false ≡ true → ⊥
      differ e = cc

  -- ---- the bytes of a slot

  found_orb : (k : ℕ) (found : Option Kept) → k < 32 → kept_in (run (calls ready past i s rows h) (own_rom i)).notes k ≡ found → IfFits (orb_terms past i) found → IfHoldsOrb found (slot_at m k) → (o : Kept) → found ≡ Some o → (slot_at m k).orb ≡ orb_in_slot past i k (Some (name o.ticket))
  found_orb k None b e f g o is = absurd (differ is)
    where
      differ : None ≡ Some o → ⊥
      differ e = cc
  found_orb k (Some p) b e f g o is =
      let l = kept_last past i (calls ready past i s rows h) (own_rom i) (rows_of ready past i s rows h) k p b e in
      let same : p ≡ o = cc in
      subst (λ (x : Kept). (slot_at m k).orb ≡ orb_in_slot past i k (Some (name x.ticket))) same
      (orb_is past i p f (slot_at m k) g (l.at ∙ sym l.slot))

  orb_here : (k : ℕ) (one : Orb) → k < 32 → prepared_in past i k ≡ Some one → (slot_at m k).orb ≡ orb_in_slot past i k (prepared_in past i k)
  orb_here k one b e =
      let own = run (calls ready past i s rows h) (own_rom i) in
      let found = kept_in own.notes k in
      let r : AreRows past i own.table = rows_of ready past i s rows h in
      let q = found_kept (slot_in own.table.slots k).last found one ((chained_run (calls ready past i s rows h) (own_rom i)).same k b) (sym (r.fits.prepared k b) ∙ e) in
      found_orb k found b refl (h.kept k b) (holds ready past i s rows h k b) q.0 q.1.0
      ∙ ap (λ x. orb_in_slot past i k x) (ap (λ x. Some x) q.1.1 ∙ sym e)

  held_here : (k : ℕ) (one : Orb) → k < 32 → prepared_in past i k ≡ Some one → IsHeld past i m k
  held_here k one b e =
      let stand = stands ready past i s rows h k one b e in
      let table_is : table_in_slot past i k (prepared_in past i k) ≡ table_bytes k 0 stand.cmd.segments = ap (λ x. table_in_slot past i k x) e ∙ ap (table_held k) stand.command in
      let size : length (table_in_slot past i k (prepared_in past i k)) ≡ 8 * length stand.cmd.segments = ap length table_is ∙ table_size k 0 stand.cmd.segments in
      record {
        orb = orb_here k one b e;
        table = ap (λ n. take n (slot_at m k).table) size ∙ (stand.table ∙ sym table_is);
        direction = ap (λ (x : CommandOrb). x.to_initiator) stand.orb ∙ sym (ap (direction_of past i) e ∙ ap goes_in stand.command);
      }

  -- ---- the windows

  rom_here : m.rom ≡ rom_bytes (suc i) 0
  rom_here = subst (λ (x : InitiatorState). x.lists.memory.rom ≡ memories.rom_bytes (own_rom i)) h.is (reads ready past i s rows h).rom

  agrees : (window : Window) → IsWindow window → Agrees past i (rom_size (suc i) 0) m window
  agrees windows.Rom w = record { open_as = refl; size = sym (ap length rom_here ∙ rom_length (0x0200000000000001 + i)); direction = λ o. refl }
  agrees (windows.Orb slot) w = record { open_as = armed slot w; size = sym (whole_here.sizes (windows.Orb slot)); direction = λ o. refl }
  agrees (windows.Table slot) w = record { open_as = armed slot w; size = sym (whole_here.sizes (windows.Table slot)); direction = λ o. refl }
  agrees (windows.Buffer slot) w = record {
    open_as = armed slot w;
    size = sym (whole_here.sizes (windows.Buffer slot));
    direction = λ o. let one = prepared slot w (armed slot w ∙ o) in sym (held_here slot one.0 w one.1).direction;
  }
  agrees (windows.Management place) w = record { open_as = refl; size = sym (whole_here.sizes (windows.Management place)); direction = λ o. refl }
  agrees (windows.Response place) w = record { open_as = refl; size = sym (whole_here.sizes (windows.Response place)); direction = λ o. refl }

  if_agrees : (offset : ℕ) (found : Option Window) → IfShare offset found → IfAgrees past i (rom_size (suc i) 0) m found
  if_agrees offset None w = tt
  if_agrees offset (Some window) w = agrees window w.0

  -- a whole ORB
  carries : (access : Access) (k : ℕ) (one : Orb) → k < 32 → prepared_in past i k ≡ Some one → access.offset ≡ start (windows.Orb k) → access.count ≡ 32 → window_gives past i access (window_at access.offset) ≡ orb_in_slot past i k (prepared_in past i k)
  carries access k one b e at count =
      let held = orb_in_slot past i k (prepared_in past i k) in
      let window : window_at access.offset ≡ Some (windows.Orb k) = ap window_at at ∙ window_here m (start (windows.Orb k)) (windows.Orb k) b (omega arith) (omega arith) in
      let zero : access.offset - start (windows.Orb k) ≡ 0 = omega arith in
      let size : length held ≡ 32 = ap length (sym (orb_here k one b e)) ∙ whole_here.sizes (windows.Orb k) in
      ap (window_gives past i access) window
      ∙ (ap (λ n. take n (drop (access.offset - start (windows.Orb k)) held)) count
      ∙ (ap (λ n. take 32 (drop n held)) zero ∙ take_all 32 held (omega arith)))

  pub memory_coded : IsCoded past i s
  memory_coded = record {
    armed = armed;
    prepared = prepared;
    held = held_here;
    rom = rom_here;
    read_rcode = λ access out r. read_code past i (rom_size (suc i) 0) m access out r (if_agrees access.offset (window_at access.offset) (window_share access.offset));
    write_rcode = λ access bytes r. write_code past i (rom_size (suc i) 0) m access bytes r (if_agrees access.offset (window_at access.offset) (window_share access.offset));
    carries = carries;
  }
