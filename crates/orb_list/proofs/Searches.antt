-- The search for a waiting ORB, slot by slot.
use Rattle.std.specs.Prelude.{◌≡◌, ℕ, ◌+◌, ◌<◌, ◌≤◌, true, false, List, length, drop, None}
use Rattle.std.proofs.Common.{arith, get_or, add-one}
use Rattle.std.proofs.Math.Seq.{drop-cons}
use Rattle.std.proofs.lemmas.Grind.{common_steps}
use Rattle.orb_list.specs.declared.slot.Slot.{Slot}
use Rattle.orb_list.specs.Table.{find_in, has_number, waiting}

pub find_none : (n number : ℕ) (slots : List Slot) → length slots ≤ n → find_in (drop n slots) number ≡ None
unfolding find_in
find_none n number slots h = grind (arith, common_steps)

pub find_here : (n number : ℕ) (slots : List Slot) (d : Slot) → n < length slots → has_number number (waiting (get_or slots n d)) ≡ true → find_in (drop n slots) number ≡ waiting (get_or slots n d)
unfolding find_in
find_here n number slots d h e = rw (drop-cons slots n d) (rw e)

pub find_next : (n number : ℕ) (slots : List Slot) (d : Slot) → n < length slots → has_number number (waiting (get_or slots n d)) ≡ false → find_in (drop n slots) number ≡ find_in (drop (n + 1) slots) number
unfolding find_in
find_next n number slots d h e = rw (drop-cons slots n d) (rw (e, add-one))

pub ruleset finding = (find_none, find_here, find_next)
