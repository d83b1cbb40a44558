-- The lists of the run terms are laid out, and grow.
use Rattle.sbp_world.proofs.Words.Std.{◌≡◌, ◌∙◌, refl, sym, ap, subst, ◌<◌, ◌==◌, ◌&&◌, ℕ, not, nat_lt, Bool, true, false, cond, List, [], ◌∷◌, Option, arith, nat_tests}
use Rattle.sbp_world.proofs.Words.Wire.{Moment, Cmd}
use Rattle.sbp_world.proofs.Words.Target.{reads_table, unread_buffer, Grows, IsLaid}
use Rattle.sbp_world.proofs.Words.Initiator.{start, CommandOrb, data_size, data_start, has_table, single}
use Rattle.sbp_world.proofs.Words.Laws.{laid_out, command_at, linked, slot_at, appends}
use Rattle.sbp_world.proofs.Words.World.{Lasts, GrowingLaw, IsBufferOf, IsOrbOf, orbs}
use Rattle.bus_memory.specs.declared.window.Window.TheVariants as windows
use Rattle.sbp_world.proofs.Hosts.Lasting.{lasting_law}
use Rattle.sbp_world.specs.Lists.Lists.{IsDataOf}

-- ---- a list is laid out

one_segment : (base len : ℕ) → single (cond (nat_lt 0 len) base 0) len ≡ single base len
one_segment base len = by (nat_lt 0 len) refl
  where
    by : (b : Bool) → nat_lt 0 len ≡ b → single (cond b base 0) len ≡ single base len
    by true e = refl
    by false e =
        let z : len ≡ 0 = grind (arith, nat_tests) in
        subst (λ n. single 0 n ≡ single base n) (sym z) refl

-- the buffer of an ORB whose page table is not read
unread_by : (segments : List ℕ) (slot : ℕ) (cmd : Cmd) → has_table segments && not (data_size cmd.length segments == 0) ≡ false → single (cond (nat_lt 0 (data_size cmd.length segments)) (data_start slot segments) 0) (cond (has_table segments) 0 (data_size cmd.length segments)) ≡ laid_out slot cmd segments
unread_by [] slot cmd e = one_segment (start (windows.Buffer slot)) cmd.length
unread_by (first ∷ rest) slot cmd e =
    let some : (data_size cmd.length (first ∷ rest) == 0) ≡ false = grind (arith, nat_tests) in
    absurd (differ (sym (ap not some) ∙ e))
  where
    differ : true ≡ false → ⊥
    differ e = cc

buffer_laid : (found : Option Cmd) (slot : ℕ) (orb : CommandOrb) → IsOrbOf found slot orb → reads_table orb ≡ false → IsBufferOf found slot (unread_buffer orb)
buffer_laid found slot orb o e =
    subst (λ f. IsBufferOf f slot (unread_buffer orb)) (sym o.command)
    (ap (λ (x : CommandOrb). unread_buffer x) o.orb ∙ unread_by o.cmd.segments slot o.cmd (sym (ap (λ (x : CommandOrb). reads_table x) o.orb) ∙ e))

empty_data : (found : Option Cmd) (slot : ℕ) (orb : CommandOrb) → IsOrbOf found slot orb → IsDataOf found []
empty_data found slot orb o = subst (λ f. IsDataOf f []) (sym o.command) (record { first = refl; outward = λ b. absurd (omega (arith, b)) })

pub laid : (past : List Moment) (i n : ℕ) → IsLaid (orbs past i n)
laid past i n = record {
  buffer = λ k orb o e. buffer_laid (command_at past i n k) (slot_at past i n k) orb o e;
  empty = λ k orb segments o b. empty_data (command_at past i n k) (slot_at past i n k) orb o;
}

-- ---- it grows

module _ (before past : List Moment) (i n : ℕ) (l : Lasts before past i) where
  below : (k : ℕ) → k < linked before i n → k < appends before i n
  below k b = let in_it = l.linked_in n in omega arith

  slot_same : (k : ℕ) → k < linked before i n → slot_at before i n k ≡ slot_at past i n k
  slot_same k b = sym (l.slot n k (below k b))

  command_same : (k : ℕ) → k < linked before i n → command_at before i n k ≡ command_at past i n k
  command_same k b = sym (l.command n k (below k b))

  pub grows_by : Grows (orbs before i n) (orbs past i n)
  grows_by = record {
    linked = l.linked_on n;
    address = λ k b. ap (λ s. start (windows.Orb s)) (slot_same k b);
    orb = λ k b orb o. subst (λ s. IsOrbOf (command_at past i n k) s orb) (slot_same k b) (subst (λ c. IsOrbOf c (slot_at before i n k) orb) (command_same k b) o);
    buffer = λ k b orb segments o. subst (λ s. IsBufferOf (command_at past i n k) s segments) (slot_same k b) (subst (λ c. IsBufferOf c (slot_at before i n k) segments) (command_same k b) o);
    part = λ k b orb segments bytes o. subst (λ c. IsDataOf c bytes) (command_same k b) o;
  }

pub growing_law : GrowingLaw
growing_law = record {
  laid = laid;
  grows = λ line run r i b later before e n. grows_by before _ i n (lasting_law.lasts line run r i b later before e);
  between = λ line run r next most told m i b later before e n. grows_by before _ i n (lasting_law.between line run r next most told m i b later before e);
}
