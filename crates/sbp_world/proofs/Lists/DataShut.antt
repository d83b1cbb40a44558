-- A write into a data buffer that was served was got: what an initiator ignores for its slot is written to a FIFO.
use Rattle.sbp_world.proofs.Words.Std.{arith, ◌≡◌, ◌∙◌, sym, ap, subst, ◌<◌, ◌≤◌, ℕ, suc, nat_le, Bool, true, false, cond, List, [], ◌∷◌, ◌++◌, Some, None, nat_tests, none-some}
use Rattle.sbp_world.proofs.Words.Wire.{SerialsCount, reading, Moment, said, Sending, terms}
use Rattle.sbp_world.proofs.Words.Initiator.{Window, window_at, within}
use Rattle.sbp_world.proofs.Words.World.{WasGot, IsDataWrite}
use Rattle.bus_memory.specs.declared.window.Window.TheVariants as windows
use Rattle.sbp_journal.specs.declared.cause.Cause.TheVariants as causes
use Rattle.sbp_journal.specs.declared.note.Note.TheVariants as notes
use Rattle.sbp_world.proofs.Hosts.Remaining.{remains}
use Rattle.sbp_world.proofs.Hosts.SentMoments.{sent_below, serials_from}
use Rattle.sbp_world.proofs.Lists.ServedGots.{NotShut, served_got}
use Rattle.sbp_world.proofs.Lists.SlotShut.{AllApart, IsApartTo, apart_there}
use Rattle.sbp_world.proofs.Lists.StatusKnown.{spelled}
use Rattle.sbp_world.proofs.Common.{moments_split}

-- ---- a data buffer stands before the FIFOs

same_window : (v w : Window) → Some v ≡ Some w → v ≡ w
same_window v w e = cc

window_by : (a b c d r x : Bool) (orb table buffer management answer : Window) (slot : ℕ) → a ≡ false → b ≡ false → c ≡ false → d ≡ false → r ≡ false → cond a (Some orb) (cond b (Some table) (cond c (Some buffer) (cond d (Some management) (cond r (Some answer) (cond x (Some windows.Rom) None))))) ≡ Some (windows.Buffer slot) → ⊥
window_by false false false false false true orb table buffer management answer slot f g h j k e = let z : windows.Rom ≡ windows.Buffer slot = same_window windows.Rom (windows.Buffer slot) e in cc
window_by false false false false false false orb table buffer management answer slot f g h j k e = none-some (windows.Buffer slot) e
window_by true b c d r x orb table buffer management answer slot f g h j k e = absurd (let z : true ≡ false = f in cc)
window_by false true c d r x orb table buffer management answer slot f g h j k e = absurd (let z : true ≡ false = g in cc)
window_by false false true d r x orb table buffer management answer slot f g h j k e = absurd (let z : true ≡ false = h in cc)
window_by false false false true r x orb table buffer management answer slot f g h j k e = absurd (let z : true ≡ false = j in cc)
window_by false false false false true x orb table buffer management answer slot f g h j k e = absurd (let z : true ≡ false = k in cc)

pub low_buffer : (offset : ℕ) → 0x12002000 ≤ offset → (slot : ℕ) → window_at offset ≡ Some (windows.Buffer slot) → ⊥
unfolding window_at
low_buffer offset high slot e =
    window_by (within 0x1000_0000 0x1000_0800 offset) (within 0x1010_0000 0x1010_4000 offset) (within 0x1100_0000 0x1110_0000 offset) (within 0x1200_0000 0x1200_0040 offset) (within 0x1200_1000 0x1200_1200 offset) (nat_le 0xffff_f000_0400 offset) _ _ _ _ _ slot
    (grind (arith, nat_tests)) (grind (arith, nat_tests)) (grind (arith, nat_tests)) (grind (arith, nat_tests)) (grind (arith, nat_tests)) e

-- ---- where it was got
module _ (i serial slot : ℕ) (packet : Sending) (to : packet.to ≡ suc i) (x : IsDataWrite packet.bytes slot) where
  -- what was sent with this serial is this packet
  abbrev pub IsIt : List Moment → Type 0
  IsIt past = (q : Sending) → (terms past).sent serial ≡ Some q → q ≡ packet

  it_before : (later past : List Moment) → SerialsCount (later ++ past) → IsIt (later ++ past) → IsIt past
  it_before later past c it q e = it q ((remains later past c).sent serial (sent_below past serial q (serials_from later past c) e) ∙ e)

  not_apart : (past : List Moment) → IsIt past → (q : Sending) → (terms past).sent serial ≡ Some q → IsApartTo past i serial → ⊥
  not_apart past it q e apart =
      let there : (terms past).sent serial ≡ Some packet = e ∙ ap (λ y. Some y) (it q e) in
      let p = spelled (reading packet.bytes) x.access x.is in
      low_buffer x.access.offset (apart packet there to p.packet p.is x.access p.asks) slot x.goes

  not_shut : (past : List Moment) → SerialsCount past → IsIt past → AllApart past i → NotShut serial past
  not_shut past c it a later before is q e =
      let m = said (notes.Ignored serial causes.Slot) in
      let at : (later ++ m ∷ []) ++ before ≡ past = sym (moments_split later (m ∷ []) before) ∙ is in
      not_apart before (it_before (later ++ m ∷ []) before (subst SerialsCount (sym at) c) (subst IsIt (sym at) it)) q e (apart_there later before i serial (subst (λ h. AllApart h i) (sym is) a))

  pub was_got : (past : List Moment) → SerialsCount past → IsIt past → AllApart past i → 0 < (terms past).served serial → WasGot past serial
  was_got past c it a l = let g = served_got serial past (not_shut past c it a) l in record { later = g.later; before = g.before; is = g.is }
