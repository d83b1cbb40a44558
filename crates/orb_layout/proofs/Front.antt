-- What stands at the front of bytes is read of the front alone.
use Rattle.std.proofs.Common.{◌≡◌, ap, ◌∙◌, ℕ, ◌+◌, ◌-◌, ◌≤◌, List, take, drop, subst, arith}
use Rattle.std.specs.Prelude.{slice_index}
use Rattle.std.proofs.lemmas.List.{drop-take, get_or-take, take-take}
use Rattle.byteorder.specs.Endian.{big_number}
use Rattle.sbp_base.specs.Quadlets.{quad}
use Rattle.orb_layout.specs.ReadBack.{CommandStandsInFront, PointerStandsInFront}

-- a number of 4 bytes
number_front : (bytes : List ℕ) (kept : ℕ) → 4 ≤ kept → big_number 4 (take kept bytes) ≡ big_number 4 bytes
number_front bytes kept h =
    let a : slice_index (take kept bytes) 0 ≡ slice_index bytes 0 = get_or-take kept bytes 0 _ (omega arith) in
    let b : slice_index (take kept bytes) 1 ≡ slice_index bytes 1 = get_or-take kept bytes 1 _ (omega arith) in
    let c : slice_index (take kept bytes) 2 ≡ slice_index bytes 2 = get_or-take kept bytes 2 _ (omega arith) in
    let d : slice_index (take kept bytes) 3 ≡ slice_index bytes 3 = get_or-take kept bytes 3 _ (omega arith) in
    omega arith

-- a quadlet
quad_front : (bytes : List ℕ) (kept at : ℕ) → at + 4 ≤ kept → quad (take kept bytes) at ≡ quad bytes at
quad_front bytes kept at h =
    let spot : at + (kept - at) ≡ kept = omega arith in
    let cut : drop at (take kept bytes) ≡ take (kept - at) (drop at bytes) = subst (λ (n : ℕ). drop at (take n bytes) ≡ take (kept - at) (drop at bytes)) spot (drop-take at (kept - at) bytes) in
    ap (λ (rest : List ℕ). big_number 4 rest) cut ∙ number_front (drop at bytes) (kept - at) (omega arith)

-- the command block
cdb_front : (bytes : List ℕ) (kept : ℕ) → 32 ≤ kept → take 12 (drop 20 (take kept bytes)) ≡ take 12 (drop 20 bytes)
cdb_front bytes kept h =
    let spot : 20 + (kept - 20) ≡ kept = omega arith in
    let cut : drop 20 (take kept bytes) ≡ take (kept - 20) (drop 20 bytes) = subst (λ (n : ℕ). drop 20 (take n bytes) ≡ take (kept - 20) (drop 20 bytes)) spot (drop-take 20 (kept - 20) bytes) in
    ap (λ (rest : List ℕ). take 12 rest) cut ∙ take-take 12 (kept - 20) (drop 20 bytes) (omega arith)

pub pointer_front : PointerStandsInFront
pointer_front bytes kept h =
    let a : quad (take kept bytes) 0 ≡ quad bytes 0 = quad_front bytes kept 0 (omega arith) in
    let b : quad (take kept bytes) 4 ≡ quad bytes 4 = quad_front bytes kept 4 (omega arith) in
    cc

pub command_front : CommandStandsInFront
command_front bytes kept h =
    let a : quad (take kept bytes) 0 ≡ quad bytes 0 = quad_front bytes kept 0 (omega arith) in
    let b : quad (take kept bytes) 4 ≡ quad bytes 4 = quad_front bytes kept 4 (omega arith) in
    let c : quad (take kept bytes) 8 ≡ quad bytes 8 = quad_front bytes kept 8 (omega arith) in
    let d : quad (take kept bytes) 12 ≡ quad bytes 12 = quad_front bytes kept 12 (omega arith) in
    let e : quad (take kept bytes) 16 ≡ quad bytes 16 = quad_front bytes kept 16 (omega arith) in
    let f : take 12 (drop 20 (take kept bytes)) ≡ take 12 (drop 20 bytes) = cdb_front bytes kept h in
    cc
