-- The digits of the whole blocks stand before those of the other bytes.
use Rattle.std.proofs.Common.{arith, ◌∙◌, ◌*◌, ◌-◌, ◌%◌, length, ◌≤◌, ◌≡◌, ℕ, List, length-take, drop, take}
use Rattle.line_text.proofs.Hexadecimal.{blocks_and_rest, both_written}
use Rattle.line_text.proofs.words.put_digits.Goals as goal

take_count : (n : ℕ) (xs : List ℕ) → n ≤ length xs → length (take n xs) ≡ n
take_count n xs h = simp length-take (omega arith)

pub returns : goal.returns
returns c =
    let bytes = c.args.bytes.now in
    let whole = length bytes - length bytes % 8 in
    let size : length c.make_digits.new.digits ≡ 2 * whole =
    c.make_digits.auto.digits ∙ take_count (2 * whole) c.args.digits.now (omega (arith, c.requires)) in
    both_written c.make_digits.new.digits (drop (2 * whole) c.args.digits.now) c.copy_digits.new.digits (2 * whole) size
    ∙ blocks_and_rest bytes _ _ whole c.make_digits.ensures c.copy_digits.ensures
