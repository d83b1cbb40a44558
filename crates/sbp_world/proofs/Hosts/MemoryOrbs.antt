-- The bytes of an ORB and of a page table in a slot, as the run terms have them.
use Rattle.sbp_world.proofs.Words.Std.{◌≡◌, refl, sym, ap, ◌∙◌, ℕ, suc, ◌*◌, nat_le, nat_lt, Bool, true, false, cond, List, ◌++◌, length, drop, big_bytes}
use Rattle.sbp_world.proofs.Words.Wire.{Moment, Cmd}
use Rattle.sbp_world.proofs.Words.Initiator.{SlotMemory, start, command_bytes, pointer_high, Null, At, HoldsOrb, Kept, orb_of, table_bytes, Asked}
use Rattle.sbp_world.proofs.Words.Laws.{command_at, is_dummy, place_at, asked_for, id_as_prepared, next_high, next_low, orb_held, with_format}
use Rattle.bus_memory.specs.declared.window.Window.TheVariants as windows
use Rattle.orb_list.proofs.Held.{table_length}
use Rattle.sbp_world.proofs.Hosts.OrbFits.{OrbFits, low_to}
use Rattle.sbp_world.proofs.Hosts.OrbTerms.{OrbTerms, orb_terms}

-- ---- an ORB

abbrev spelled : (high low : ℕ) → Asked → (slot format : ℕ) → List ℕ
spelled high low asked slot format =
    big_bytes 4 high ++ (big_bytes 4 low ++ drop 8 (command_bytes (record (orb_of asked slot) { format = format })))

high_as : (b : Bool) (address : ℕ) → pointer_high (cond b (At address) Null) ≡ next_high b address
high_as true address = refl
high_as false address = refl

low_as : (b : Bool) (slot : ℕ) → cond b (low_to slot) 0 ≡ next_low b (start (windows.Orb slot))
low_as true slot = refl
low_as false slot = refl

format_as : (b : Bool) (high low : ℕ) (cmd : Cmd) (node slot : ℕ) → spelled high low (asked_for cmd node) slot (cond b 3 0) ≡ big_bytes 4 high ++ (big_bytes 4 low ++ drop 8 (command_bytes (with_format b (orb_of (asked_for cmd node) slot))))
format_as true high low cmd node slot = refl
format_as false high low cmd node slot = refl

module _ (past : List Moment) (i : ℕ) (o : Kept) (f : OrbFits (orb_terms past i) o) (m : SlotMemory) (h : HoldsOrb o m) (placed : place_at past i o.ticket.list o.ticket.number ≡ o.ticket.slot) where
  abbrev n : ℕ
  n = o.ticket.list

  abbrev k : ℕ
  k = o.ticket.number

  abbrev t : OrbTerms
  t = orb_terms past i

  abbrev behind : ℕ
  behind = place_at past i n (suc k)

  pub orb_is : m.orb ≡ orb_held past i n k (command_at past i n k)
  orb_is =
      h.orb
      ∙ (ap (λ x. spelled (pointer_high x) o.low o.asked o.ticket.slot o.format) f.next
      ∙ (ap (λ x. spelled x o.low o.asked o.ticket.slot o.format) (high_as (nat_lt (suc k) (t.linked n)) (start (windows.Orb behind)))
      ∙ (ap (λ x. spelled (next_high (nat_lt (suc k) (t.linked n)) (start (windows.Orb behind))) x o.asked o.ticket.slot o.format) (f.low ∙ low_as (nat_le (suc k) (t.lowered n)) behind)
      ∙ (ap (λ x. spelled (next_high (nat_lt (suc k) (t.linked n)) (start (windows.Orb behind))) (next_low (nat_le (suc k) (t.lowered n)) (start (windows.Orb behind))) x o.ticket.slot o.format) f.asked
      ∙ (ap (λ x. spelled (next_high (nat_lt (suc k) (t.linked n)) (start (windows.Orb behind))) (next_low (nat_le (suc k) (t.lowered n)) (start (windows.Orb behind))) (asked_for f.cmd x) o.ticket.slot o.format) f.at
      ∙ (ap (λ x. spelled (next_high (nat_lt (suc k) (t.linked n)) (start (windows.Orb behind))) (next_low (nat_le (suc k) (t.lowered n)) (start (windows.Orb behind))) (asked_for f.cmd (id_as_prepared past i n k)) x o.format) (sym placed)
      ∙ (ap (λ x. spelled (next_high (nat_lt (suc k) (t.linked n)) (start (windows.Orb behind))) (next_low (nat_le (suc k) (t.lowered n)) (start (windows.Orb behind))) (asked_for f.cmd (id_as_prepared past i n k)) (place_at past i n k) x) f.format
      ∙ (format_as (is_dummy past i n k) (next_high (nat_lt (suc k) (t.linked n)) (start (windows.Orb behind))) (next_low (nat_le (suc k) (t.lowered n)) (start (windows.Orb behind))) f.cmd (id_as_prepared past i n k) (place_at past i n k)
      ∙ ap (λ x. orb_held past i n k x) (sym f.command)))))))))

-- ---- a page table

pub table_size : (slot at : ℕ) (segments : List ℕ) → length (table_bytes slot at segments) ≡ 8 * length segments
table_size slot at segments = table_length slot at segments
