-- The sum over the blocks of a disk, piece by piece.
use Rattle.std.proofs.Common.{◌≡◌, ◌∙◌, refl, sym, ap, subst, ℕ, ◌+◌, ◌*◌, ◌%◌, ◌≤◌, List, length, take, drop, Option, Some, None, arith}
use Rattle.std.specs.Prelude.{IfSome}
use Rattle.std.proofs.lemmas.List.{length-take-le, take_all}
use Rattle.std.proofs.Math.Seq.{take-add}
use Rattle.config_rom.specs.Sum.{quad_bits, register_after, sum_of}
use Rattle.rbc_disk.specs.Disk.{Disk, IsSound}
use Rattle.drill_text.specs.Sums.{quads_of, sum_of_bytes}
use Rattle.drill_text.proofs.Quads.{quads-append, sum-goes-on}

-- the sum over so many blocks, where the disk tells its bytes
abbrev pub SummedTo : Option (List ℕ) → ℕ → ℕ → Type 0
SummedTo bytes lba sum = IfSome bytes (λ bytes. sum ≡ sum_of_bytes (take (512 * lba) bytes))

-- what goes on over more of them
abbrev pub GoesOver : Option (List ℕ) → ℕ → ℕ → ℕ → ℕ → Type 0
GoesOver bytes lba len sum next = IfSome bytes (λ bytes. next ≡ register_after sum (quad_bits (quads_of (take len (drop (512 * lba) bytes)))))

pub summed_none : (bytes : Option (List ℕ)) → SummedTo bytes 0 0
unfolding sum_of
summed_none None = tt
summed_none (Some bytes) = refl

piece-more : (bytes : List ℕ) (lba count len sum next : ℕ) → len ≡ 512 * count → 512 * (lba + count) ≤ length bytes → sum ≡ sum_of_bytes (take (512 * lba) bytes)
    → next ≡ register_after sum (quad_bits (quads_of (take len (drop (512 * lba) bytes)))) → next ≡ sum_of_bytes (take (512 * (lba + count)) bytes)
piece-more bytes lba count len sum next l few s n =
    let front : 512 * lba ≤ length bytes = omega arith in
    let size : length (take (512 * lba) bytes) ≡ 512 * lba = length-take-le (512 * lba) bytes front in
    let whole : length (take (512 * lba) bytes) % 4 ≡ 0 = ap (λ k. k % 4) size ∙ omega arith in
    let both : 512 * (lba + count) ≡ 512 * lba + len = omega arith in
    sum-goes-on sum next (quads_of (take (512 * lba) bytes)) (quads_of (take len (drop (512 * lba) bytes))) n s
    ∙ ap (λ qs. sum_of qs) (sym (quads-append (take (512 * lba) bytes) (take len (drop (512 * lba) bytes)) whole))
    ∙ ap sum_of_bytes (sym (take-add (512 * lba) len bytes) ∙ ap (λ k. take k bytes) (sym both))

pub summed_more : (disk : Disk) (lba count len sum next : ℕ) → IsSound disk → len ≡ 512 * count → lba + count ≤ disk.blocks → SummedTo disk.bytes lba sum → GoesOver disk.bytes lba len sum next → SummedTo disk.bytes (lba + count) next
summed_more disk lba count len sum next sound l few s n =
    by_bytes disk.bytes sound.whole s n
  where
    by_bytes : (bytes : Option (List ℕ)) → IfSome bytes (λ bs. length bs ≡ 512 * disk.blocks) → SummedTo bytes lba sum → GoesOver bytes lba len sum next → SummedTo bytes (lba + count) next
    by_bytes None w s n = tt
    by_bytes (Some bytes) w s n = piece-more bytes lba count len sum next l (omega arith) s n

-- the same of a disk that is as it was, and by another name of the length
pub goes_over : (old new : Disk) (lba n len sum next : ℕ) → new ≡ old → n ≡ len → GoesOver new.bytes lba n sum next → GoesOver old.bytes lba len sum next
goes_over old new lba n len sum next d e h = subst (λ k. GoesOver k.bytes lba len sum next) d (subst (λ k. GoesOver new.bytes lba k sum next) e h)

-- all blocks are all bytes
pub summed_all : (disk : Disk) (lba sum : ℕ) → IsSound disk → lba ≡ disk.blocks → SummedTo disk.bytes lba sum → IfSome disk.bytes (λ bytes. sum ≡ sum_of_bytes bytes)
summed_all disk lba sum sound e s =
    by_bytes disk.bytes sound.whole s
  where
    by_bytes : (bytes : Option (List ℕ)) → IfSome bytes (λ bs. length bs ≡ 512 * disk.blocks) → SummedTo bytes lba sum → IfSome bytes (λ bytes. sum ≡ sum_of_bytes bytes)
    by_bytes None w s = tt
    by_bytes (Some bytes) w s = s ∙ ap sum_of_bytes (take_all (512 * lba) bytes (omega arith))
