-- Bytes whose blocks are equal are equal.
use Rattle.std.proofs.Common.{◌≡◌, ℕ, zero, suc, ◌+◌, ◌*◌, ◌<◌, ◌≤◌, List, ◌++◌, length, take, drop, refl, sym, ap, ◌∙◌, arith}
use Rattle.std.proofs.Math.Seq.{take-add}
use Rattle.rbc_disk.specs.Disk.{blocks_at}
use Rattle.retry_queue.proofs.Cases.{take_whole}

module _ (count : ℕ) (xs ys : List ℕ) (same : (block : ℕ) → block < count → blocks_at block 1 xs ≡ blocks_at block 1 ys) where
  fronts : (n : ℕ) → n ≤ count → take (512 * n) xs ≡ take (512 * n) ys
  fronts zero few = refl
  fronts (suc n) few =
      let more : 512 * suc n ≡ 512 * n + 512 * 1 = omega arith in
      ap (λ m. take m xs) more ∙ take-add (512 * n) (512 * 1) xs
      ∙ ap (λ front. front ++ take (512 * 1) (drop (512 * n) xs)) (fronts n (omega (arith, few)))
      ∙ ap (λ block. take (512 * n) ys ++ block) (same n (omega (arith, few)))
      ∙ sym (take-add (512 * n) (512 * 1) ys) ∙ ap (λ m. take m ys) (sym more)

pub equal_blocks : (count : ℕ) (xs ys : List ℕ) → length xs ≡ 512 * count → length ys ≡ 512 * count → ((block : ℕ) → block < count → blocks_at block 1 xs ≡ blocks_at block 1 ys) → xs ≡ ys
equal_blocks count xs ys long as_long same =
    sym (take_whole xs) ∙ ap (λ n. take n xs) long ∙ fronts count xs ys same count (omega arith) ∙ ap (λ n. take n ys) (sym as_long) ∙ take_whole ys
