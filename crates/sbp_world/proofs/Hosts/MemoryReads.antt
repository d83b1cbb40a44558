-- What an initiator's memory gives and refuses is as the run terms say, in every run.
use Rattle.sbp_world.proofs.Words.Std.{arith, ◌≡◌, refl, sym, ap, ◌∙◌, ℕ, zero, suc, ◌+◌, ◌-◌, ◌<◌, ◌≤◌, ◌==◌, nat_le, drop-cons, ◌∷◌, Bool, true, false, List, length, take, drop, Option, Some, None, nat_tests}
use Rattle.sbp_world.proofs.Words.Wire.{Access, Moment}
use Rattle.sbp_world.proofs.Words.Initiator.{memory_open, read_step, IsWhole, Memory, bytes_in, slot_at, IfShare, is_fifo, start, window_at, Window, InitiatorState}
use Rattle.sbp_world.proofs.Words.Laws.{rom_size, Orb, prepared_in, byte_in, bytes_from, cut, lies_inside, slot_is_open, window_gives}
use Rattle.sbp_world.proofs.Words.World.{HoldsBytes, took_quadlet, IsReadBy, IsReadOf, IsSaid, MemoryLaw}
use Rattle.std.proofs.Common.{slice_index_or}
use Rattle.bus_memory.specs.declared.window.Window.TheVariants as windows
use Rattle.bus_memory.proofs.Found.{window_share}
use Rattle.sbp_world.proofs.Hosts.ByteRuns.{Bytes, bytes_between, bytes_of_runs, holds_bytes}
use Rattle.sbp_world.proofs.Hosts.ResponseTells.{inside_by}
use Rattle.sbp_world.proofs.Hosts.Fair.{fair_between, fair_of_runs}
use Rattle.sbp_world.proofs.Hosts.MemoryHolds.{IsCoded, memory_coded}
use Rattle.sbp_world.proofs.Hosts.MemoryRcodes.{read_bytes, read_direction, read_open}
use Rattle.sbp_world.proofs.Hosts.Orbs.{whole}
use Rattle.sbp_world.proofs.Common.{and_second}

-- ---- the bytes of a buffer

-- bytes of a list, one by one
bytes_cut : (xs : List ℕ) (byte : ℕ → ℕ) (base d count : ℕ) → ((j : ℕ) → j < length xs → slice_index_or xs j 0 ≡ byte (base + j)) → d + count ≤ length xs → take count (drop d xs) ≡ bytes_from count byte (base + d)
bytes_cut xs byte base d zero h room = refl
bytes_cut xs byte base d (suc count) h room =
    ap (take (suc count)) (drop-cons xs d 0 (omega arith))
    ∙ (ap (λ x. x ∷ take count (drop (suc d) xs)) (h d (omega arith))
    ∙ ap (λ ys. byte (base + d) ∷ ys) (bytes_cut xs byte base (suc d) count h (omega arith) ∙ ap (bytes_from count byte) (let e : base + suc d ≡ base + d + 1 = omega arith in e)))

module _ (past : List Moment) (i : ℕ) (s : InitiatorState) (coded : IsCoded past i s) (holds : HoldsBytes past i s.lists.memory) (whole_here : IsWhole s.lists.memory) where
  abbrev m : Memory
  m = s.lists.memory

  -- ---- the bytes of a read

  module _ (access : Access) (out : List ℕ) (is_read : IsReadOf access out) (complete : (read_step m access.offset out).0 ≡ 0) where
    abbrev given : List ℕ
    given = (read_step m access.offset out).1

    of_window : (window : Window) → window_at access.offset ≡ Some window → given ≡ take access.count (drop (access.offset - start window) (bytes_in m window))
    of_window window e = read_bytes past i (rom_size (suc i) 0) m access out is_read complete window e

    -- an ORB was prepared in a slot that is read
    slot_prepared : (slot : ℕ) (window : Window) → slot < 32 → memory_open m window ≡ (slot_at m slot).is_armed → window_at access.offset ≡ Some window → (one : Orb) × (prepared_in past i slot ≡ Some one)
    slot_prepared slot window w o e = coded.prepared slot w (coded.armed slot w ∙ (sym o ∙ read_open past i (rom_size (suc i) 0) m access out is_read complete window e))

    gives_in : (found : Option Window) → window_at access.offset ≡ found → IfShare access.offset found → IsSaid past i access found → given ≡ window_gives past i access found
    gives_in None e w q = absurd q
    gives_in (Some windows.Rom) e w q = of_window windows.Rom e ∙ ap (λ xs. take access.count (drop (access.offset - start windows.Rom) xs)) coded.rom
    gives_in (Some (windows.Orb slot)) e w q =
        let one = slot_prepared slot (windows.Orb slot) w.0 refl e in
        of_window (windows.Orb slot) e ∙ ap (cut access (start (windows.Orb slot))) (coded.held slot one.0 w.0 one.1).orb
    gives_in (Some (windows.Table slot)) e w q = of_window (windows.Table slot) e ∙ ap (cut access (start (windows.Table slot))) (holds.tables slot w.0)
    gives_in (Some (windows.Buffer slot)) e w q =
        let inside : lies_inside past i (rom_size (suc i) 0) access (window_at access.offset) ≡ true = inside_by access.is_lock (access.count == 0) (is_fifo access.offset) _ _ (sym (coded.read_rcode access out is_read) ∙ complete) in
        let room : nat_le (access.offset - start (windows.Buffer slot) + access.count) 0x8000 ≡ true = and_second (slot_is_open past i slot) (nat_le (access.offset - start (windows.Buffer slot) + access.count) 0x8000) (sym (ap (lies_inside past i (rom_size (suc i) 0) access) e) ∙ inside) in
        let size : length (slot_at m slot).buffer ≡ 32768 = whole_here.sizes (windows.Buffer slot) in
        let from : start (windows.Buffer slot) ≤ access.offset = w.1 in
        let short : access.offset - start (windows.Buffer slot) + access.count ≤ 32768 = grind (arith, nat_tests) in
        of_window (windows.Buffer slot) e
        ∙ (bytes_cut (slot_at m slot).buffer (byte_in past i slot) (start (windows.Buffer slot)) (access.offset - start (windows.Buffer slot)) access.count (λ j b. holds.as_answered slot j w.0 (omega arith)) (omega arith)
        ∙ ap (bytes_from access.count (byte_in past i slot)) (let k : start (windows.Buffer slot) + (access.offset - start (windows.Buffer slot)) ≡ access.offset = omega arith in k))
    gives_in (Some (windows.Management place)) e w q = absurd q
    gives_in (Some (windows.Response place)) e w q =
        absurd (differ (read_direction past i (rom_size (suc i) 0) m access out is_read complete (windows.Response place) e))
      where
        differ : true ≡ false → ⊥
        differ e = cc

  pub read_by : IsReadBy past i s
  read_by = record {
    armed = coded.armed;
    prepared = coded.prepared;
    held = coded.held;
    rom = coded.rom;
    read_rcode = coded.read_rcode;
    write_rcode = coded.write_rcode;
    gives = λ access out r q z. gives_in access out r z (window_at access.offset) refl (window_share access.offset) q;
    carries = coded.carries;
  }

pub memory_read : (ready : Bool) (past : List Moment) (i : ℕ) (s : InitiatorState) → Bytes ready past i s → took_quadlet past i ≡ false → IsReadBy past i s
memory_read ready past i s h none = read_by past i s (memory_coded ready past i s h.host.rows h.orbs) (holds_bytes ready past i s h none) (whole ready past i s h.host.rows h.orbs)

pub memory_law : MemoryLaw
memory_law = record {
  reads = λ line r q i b. memory_read r.ready _ i _ (bytes_of_runs line r q i b) (fair_of_runs line r q i b).none;
  between = λ line r q next most told m i b. memory_read r.ready _ i _ (bytes_between line r q next most told m i b) (fair_between line r q next most told m i b).none;
}
