-- The FIFO of a management ORB is one of its place or of a login, and in no response buffer.
use Rattle.sbp_world.proofs.Words.Std.{arith, ◌≡◌, ℕ, ◌^◌, ◌≤◌, nat_le, Bool, true, false, cond, List, Some, None, nat_tests}
use Rattle.sbp_world.proofs.Words.Wire.{SerialsCount, Moment, Sending, terms}
use Rattle.sbp_world.proofs.Words.Initiator.{Window, window_at, within, ManagementOrb}
use Rattle.sbp_world.proofs.Words.Laws.{Underway, host_at, is_management}
use Rattle.sbp_world.proofs.Words.World.{OperationsLast, underway_orb}
use Rattle.bus_memory.specs.declared.window.Window.TheVariants as windows
use Rattle.sbp_world.proofs.Lists.ManageTerms.{none_is}

-- ---- the FIFO of an ORB

-- and that is no response buffer
not_response : (place : ℕ) (window : Window) → Some window ≡ Some (windows.Response place) → window ≡ windows.Response place
not_response place window e = cc

rom_apart : (place : ℕ) → windows.Rom ≡ windows.Response place → ⊥
rom_apart place e = cc

window_by : (a b c d r x : Bool) (orb table buffer management answer : Window) (place : ℕ) → a ≡ false → b ≡ false → c ≡ false → d ≡ false → r ≡ false → cond a (Some orb) (cond b (Some table) (cond c (Some buffer) (cond d (Some management) (cond r (Some answer) (cond x (Some windows.Rom) None))))) ≡ Some (windows.Response place) → ⊥
window_by false false false false false true orb table buffer management answer place f g h j k e = rom_apart place (not_response place windows.Rom e)
window_by false false false false false false orb table buffer management answer place f g h j k e = none_is (windows.Response place) e
window_by true b c d r x orb table buffer management answer place f g h j k e = absurd (let no : true ≡ false = f in cc)
window_by false true c d r x orb table buffer management answer place f g h j k e = absurd (let no : true ≡ false = g in cc)
window_by false false true d r x orb table buffer management answer place f g h j k e = absurd (let no : true ≡ false = h in cc)
window_by false false false true r x orb table buffer management answer place f g h j k e = absurd (let no : true ≡ false = j in cc)
window_by false false false false true x orb table buffer management answer place f g h j k e = absurd (let no : true ≡ false = k in cc)

pub high_window : (offset : ℕ) → 0x12002000 ≤ offset → (place : ℕ) → window_at offset ≡ Some (windows.Response place) → ⊥
unfolding window_at
high_window offset high place e =
    window_by (within 0x1000_0000 0x1000_0800 offset) (within 0x1010_0000 0x1010_4000 offset) (within 0x1100_0000 0x1110_0000 offset) (within 0x1200_0000 0x1200_0040 offset) (within 0x1200_1000 0x1200_1200 offset) (nat_le 0xffff_f000_0400 offset) _ _ _ _ _ place
    (grind (arith, nat_tests)) (grind (arith, nat_tests)) (grind (arith, nat_tests)) (grind (arith, nat_tests)) (grind (arith, nat_tests)) e

-- ---- of the operation under way
module _ (past : List Moment) (i : ℕ) (counts : SerialsCount past) (lasts : OperationsLast past i) (underway : Underway) (has : (host_at past i).operation ≡ Some underway) (packet : Sending) (sent : (terms past).sent underway.first ≡ Some packet) where
  module _ (few : (host_at past i).logins ≤ 2 ^ 32) (manages : is_management underway.operation ≡ true) where
    abbrev orb : ManagementOrb
    orb = underway_orb past i underway
