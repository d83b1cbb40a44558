-- The search for the lowest label, place by place.
use Rattle.std.specs.Prelude.{◌≡◌, ℕ, ◌+◌, ◌<◌, ◌≤◌, true, false, List, length, drop, Some, None}
use Rattle.std.proofs.Common.{arith, get_or, add-one}
use Rattle.std.proofs.Math.Seq.{drop-cons}
use Rattle.std.proofs.lemmas.Grind.{common_steps}
use Rattle.label_table.specs.declared.place.Place.{Place}
use Rattle.label_table.specs.Table.{serves, lowest_from}

pub lowest_none : (n k : ℕ) (bytes : List ℕ) (places : List Place) → length places ≤ n → lowest_from k bytes (drop n places) ≡ None
unfolding lowest_from
lowest_none n k bytes places h = grind (arith, common_steps)

pub lowest_here : (n : ℕ) (bytes : List ℕ) (places : List Place) (d : Place) → n < length places → serves n bytes (get_or places n d) ≡ true → lowest_from n bytes (drop n places) ≡ Some n
unfolding lowest_from
lowest_here n bytes places d h e = rw (drop-cons places n d) (rw e)

pub lowest_next : (n : ℕ) (bytes : List ℕ) (places : List Place) (d : Place) → n < length places → serves n bytes (get_or places n d) ≡ false → lowest_from n bytes (drop n places) ≡ lowest_from (n + 1) bytes (drop (n + 1) places)
unfolding lowest_from
lowest_next n bytes places d h e = rw (drop-cons places n d) (rw (e, add-one))

pub ruleset searching = (lowest_none, lowest_here, lowest_next)
