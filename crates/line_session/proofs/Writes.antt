-- What a sink gains by one write after the other.
use Rattle.std.proofs.Common.{◌≡◌, ◌∙◌, sym, ap, subst, ℕ, ◌+◌, ◌-◌, ◌≤◌, List, ◌++◌, take, drop, length, Option, arith, take_all, length-drop}
use Rattle.std.specs.Io.KnownBytes.{Appends}
use Rattle.std.proofs.KnownBytes.{Appends-trans}
use Rattle.std.proofs.Math.Seq.{take-add}

pub rest_slice : (at : ℕ) (bytes : List ℕ) → at ≤ length bytes → take (length bytes - at) (drop at bytes) ≡ drop at bytes
rest_slice at bytes h = take_all (length bytes - at) (drop at bytes) (omega (arith, length-drop at bytes))

pub front-more : (old mid new : Option (List ℕ)) (bytes : List ℕ) (at taken : ℕ) → at ≤ length bytes → Appends old mid (take at bytes) → Appends mid new (take taken (take (length bytes - at) (drop at bytes))) → Appends old new (take (at + taken) bytes)
front-more old mid new bytes at taken h first second =
    subst (Appends old new) (ap (λ rest. take at bytes ++ take taken rest) (rest_slice at bytes h) ∙ sym (take-add at taken bytes)) (Appends-trans old mid new _ _ first second)

pub rest_room : (at taken : ℕ) (bytes : List ℕ) → at ≤ length bytes → taken ≤ length (take (length bytes - at) (drop at bytes)) → at + taken ≤ length bytes
rest_room at taken bytes h k = omega (arith, length-drop at bytes, ap length (rest_slice at bytes h))
