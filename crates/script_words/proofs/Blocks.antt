-- Equal bytes, a block at a time.
use Rattle.std.proofs.Common.{◌≡◌, ◌+◌, ◌*◌, ◌/◌, ◌%◌, ◌++◌, ℕ, List, replicate, take, append_assoc, ap, ◌∙◌, arith}
use Rattle.std.proofs.lemmas.List.{replicate-append-replicate, take-replicate}
use Rattle.std.proofs.Math.Nat.{mod-lt}
use Rattle.std.proofs.lemmas.Nat.{div-add-mod'}

next_block : (n : ℕ) → n * 512 + 512 ≡ (n + 1) * 512
next_block n = omega arith

pub block_more : (before : List ℕ) (n : ℕ) (byte : ℕ) → (before ++ replicate (n * 512) byte) ++ replicate 512 byte ≡ before ++ replicate ((n + 1) * 512) byte
block_more before n byte =
    append_assoc before (replicate (n * 512) byte) (replicate 512 byte)
    ∙ ap (λ more. before ++ more) (replicate-append-replicate (n * 512) 512 byte ∙ ap (λ k. replicate k byte) (next_block n))

pub blocks_all : (before : List ℕ) (n : ℕ) (byte : ℕ) → (before ++ replicate (n / 512 * 512) byte) ++ take (n % 512) (replicate 512 byte) ≡ before ++ replicate n byte
blocks_all before n byte =
    ap (λ more. (before ++ replicate (n / 512 * 512) byte) ++ more) (take-replicate (n % 512) 512 byte (omega (arith, mod-lt n {m = 512} (omega arith))))
    ∙ append_assoc before (replicate (n / 512 * 512) byte) (replicate (n % 512) byte)
    ∙ ap (λ more. before ++ more) (replicate-append-replicate (n / 512 * 512) (n % 512) byte ∙ ap (λ k. replicate k byte) (div-add-mod' n 512))
