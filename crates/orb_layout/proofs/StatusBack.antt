-- Reading the status block that was written.
use Rattle.std.proofs.Common.{arith, ◌≡◌, refl, sym, ◌∙◌, ap, ℕ, ◌+◌, ◌*◌, ◌/◌, ◌%◌, ◌^◌, ◌==◌, ◌||◌, ◌<◌, Bool, true, false, List, [], ◌∷◌, ◌++◌, length, nat_lt, Ok}
use Rattle.std.proofs.lemmas.Bool.{lt-ltb, eqb-true}
use Rattle.std.specs.List.{AllByRecursion}
use Rattle.std.proofs.lemmas.Bool.Decides.{nat_tests}
use Rattle.sbp_base.specs.Quadlets.{quad}
use Rattle.rbc_command.specs.SenseData.{sense}
use Rattle.orb_layout.specs.declared.status.StatusBlock.{StatusBlock}
use Rattle.orb_layout.specs.declared.status.StatusKind.{StatusKind}
use Rattle.orb_layout.specs.declared.status.StatusKind.TheVariants.{Good, Check, Dummy, Aborted, Illegal, Failed, Management}
use Rattle.orb_layout.specs.Pointers.{quad_bytes, offset_at}
use Rattle.orb_layout.specs.StatusBlocks.{src_of, resp_of, dead_of, len_of, sbp_status_of, is_among, illegal_meanings, management_meanings, is_management, status_bytes, check_quads, read_block, command_kind, IsKind}
use Rattle.orb_layout.specs.ReadBack.{StatusReadsBack}

-- The fields of quadlets 0 and 1.
record Head (bytes : List ℕ) (s r d l v o : ℕ) : Type 0 where
  src : src_of bytes ≡ s
  resp : resp_of bytes ≡ r
  dead : dead_of bytes ≡ d
  len : len_of bytes ≡ l
  status : sbp_status_of bytes ≡ v
  orb : offset_at bytes 0 ≡ o

head_back : (s r d l v o : ℕ) (rest : List ℕ) → s < 2 → r < 2 ^ 2 → d < 2 → l < 2 ^ 3 → v < 2 ^ 8 → o < 2 ^ 48
    → Head (quad_bytes ((s * 2 ^ 30 + r * 2 ^ 28 + d * 2 ^ 27 + l * 2 ^ 24 + v * 2 ^ 16 + o / 2 ^ 32) ∷ (o % 2 ^ 32) ∷ []) ++ rest) s r d l v o
head_back s r d l v o rest hs hr hd hl hv ho = record {
  src = omega arith;
  resp = omega arith;
  dead = omega arith;
  len = omega arith;
  status = omega arith;
  orb = omega arith;
}

block_of : ℕ → StatusKind → ℕ → StatusBlock
block_of src kind orb = record { src = src; kind = kind; orb = orb }

-- A meaning of a list of bytes is a byte.
among_small : (values : List ℕ) (v : ℕ) → AllByRecursion (λ value. value < 2 ^ 8) values → is_among values v ≡ true → v < 2 ^ 8
among_small [] v all h = absurd (cc h)
among_small (value ∷ values) v all h =
    let P : Bool → Type 0 = λ b. (v == value) ≡ b → (b || is_among values v) ≡ true → v < 2 ^ 8 in
    let here : P true = λ e _. let same : v ≡ value = eqb-true v value e in omega (arith, all.0) in
    let later : P false = λ _ g. among_small values v all.1 g in
    let both : (b : Bool) → P b = λ b. elim b as P [ true ↦ here | false ↦ later ] in
    both (v == value) refl h

good_read : (bytes : List ℕ) (s o : ℕ) → Head bytes s 0 0 1 0x00 o → length bytes ≡ 8 → s < 2 → read_block false bytes ≡ Ok (block_of s Good o)
unfolding command_kind block_of
good_read bytes s o h size small =
    let above : nat_lt s 2 ≡ true = lt-ltb s 2 small in
    rw (size, h.len, h.src, above, h.resp, h.dead, h.status, h.src, h.orb) refl

dummy_read : (bytes : List ℕ) (s o : ℕ) → Head bytes s 0 0 1 0x0b o → length bytes ≡ 8 → s < 2 → read_block false bytes ≡ Ok (block_of s Dummy o)
unfolding command_kind block_of
dummy_read bytes s o h size small =
    let above : nat_lt s 2 ≡ true = lt-ltb s 2 small in
    rw (size, h.len, h.src, above, h.resp, h.dead, h.status, h.src, h.orb) refl

aborted_read : (bytes : List ℕ) (s o : ℕ) → Head bytes s 0 0 1 0x0c o → length bytes ≡ 8 → s < 2 → read_block false bytes ≡ Ok (block_of s Aborted o)
unfolding command_kind block_of
aborted_read bytes s o h size small =
    let above : nat_lt s 2 ≡ true = lt-ltb s 2 small in
    rw (size, h.len, h.src, above, h.resp, h.dead, h.status, h.src, h.orb) refl

failed_read : (bytes : List ℕ) (s o : ℕ) → Head bytes s 1 1 1 0xff o → length bytes ≡ 8 → s < 2 → read_block false bytes ≡ Ok (block_of s Failed o)
unfolding command_kind block_of
failed_read bytes s o h size small =
    let above : nat_lt s 2 ≡ true = lt-ltb s 2 small in
    rw (size, h.len, h.src, above, h.resp, h.dead, h.status, h.src, h.orb) refl

illegal_read : (bytes : List ℕ) (s v o : ℕ) → Head bytes s 2 1 1 v o → length bytes ≡ 8 → s < 2 → is_among illegal_meanings v ≡ true → read_block false bytes ≡ Ok (block_of s (Illegal v) o)
unfolding command_kind block_of
illegal_read bytes s v o h size small among =
    let above : nat_lt s 2 ≡ true = lt-ltb s 2 small in
    let own : (v == v) ≡ true = grind (arith, nat_tests) in
    rw (size, h.len, h.src, above, h.resp, h.dead, h.status, own, among, h.src, h.orb) refl

managed_read : (bytes : List ℕ) (v o : ℕ) → Head bytes 0 0 0 1 v o → length bytes ≡ 8 → is_among management_meanings v ≡ true → read_block true bytes ≡ Ok (block_of 0 (Management v) o)
unfolding block_of
managed_read bytes v o h size among =
    let own : (v == v) ≡ true = grind (arith, nat_tests) in
    rw (size, h.len, h.resp, h.dead, h.status, own, among, h.src, h.src, h.orb) refl

-- The check part, taken apart.
record Part (bytes : List ℕ) (k c q : ℕ) : Type 0 where
  first : quad bytes 8 / 2 ^ 24 ≡ 2
  key : quad bytes 8 / 2 ^ 16 % 2 ^ 8 ≡ k
  code : quad bytes 8 / 2 ^ 8 % 2 ^ 8 ≡ c
  qualifier : quad bytes 8 % 2 ^ 8 ≡ q
  second : quad bytes 12 ≡ 0
  third : quad bytes 16 ≡ 0
  fourth : quad bytes 20 ≡ 0

part_back : (high low k c q : ℕ) → k < 16 → c < 2 ^ 8 → q < 2 ^ 8 → Part (quad_bytes (high ∷ low ∷ []) ++ quad_bytes ((2 * 2 ^ 24 + k * 2 ^ 16 + c * 2 ^ 8 + q) ∷ 0 ∷ 0 ∷ 0 ∷ [])) k c q
part_back high low k c q hk hc hq = record {
  first = omega arith;
  key = omega arith;
  code = omega arith;
  qualifier = omega arith;
  second = refl;
  third = refl;
  fourth = refl;
}

check_read : (bytes : List ℕ) (s k c q o : ℕ) → Head bytes s 0 0 5 0x00 o → Part bytes k c q → length bytes ≡ 24 → s < 2 → k < 16 → read_block false bytes ≡ Ok (block_of s (Check (sense k c q)) o)
unfolding command_kind block_of
check_read bytes s k c q o h part size small key =
    let above : nat_lt s 2 ≡ true = lt-ltb s 2 small in
    let low : nat_lt k 16 ≡ true = lt-ltb k 16 key in
    rw (size, h.len, h.src, above, h.resp, h.dead, h.status, part.first, part.key, low, part.second, part.third, part.fourth, h.src, part.code, part.qualifier, h.orb) refl

read_back : (s : ℕ) (kind : StatusKind) (o : ℕ) → s < 2 → (is_management kind ≡ true → s ≡ 0) → IsKind kind → o < 2 ^ 48 → read_block (is_management kind) (status_bytes (block_of s kind o)) ≡ Ok (block_of s kind o)
unfolding block_of
read_back s Good o small managed h place = good_read (status_bytes (block_of s Good o)) s o (head_back s 0 0 1 0 o [] small (omega arith) (omega arith) (omega arith) (omega arith) place) refl small
read_back s (Check told) o small managed h place =
    check_read (status_bytes (block_of s (Check told) o)) s told.key told.code told.qualifier o
    (head_back s 0 0 5 0 o (quad_bytes (check_quads (Check told))) small (omega arith) (omega arith) (omega arith) (omega arith) place)
    (part_back _ _ told.key told.code told.qualifier h.0 h.1 h.2) refl small h.0
read_back s Dummy o small managed h place = dummy_read (status_bytes (block_of s Dummy o)) s o (head_back s 0 0 1 0x0b o [] small (omega arith) (omega arith) (omega arith) (omega arith) place) refl small
read_back s Aborted o small managed h place = aborted_read (status_bytes (block_of s Aborted o)) s o (head_back s 0 0 1 0x0c o [] small (omega arith) (omega arith) (omega arith) (omega arith) place) refl small
read_back s (Illegal v) o small managed h place =
    illegal_read (status_bytes (block_of s (Illegal v) o)) s v o (head_back s 2 1 1 v o [] small (omega arith) (omega arith) (omega arith) (among_small illegal_meanings v (omega arith, (omega arith, (omega arith, (omega arith, (omega arith, tt))))) h) place) refl small h
read_back s Failed o small managed h place = failed_read (status_bytes (block_of s Failed o)) s o (head_back s 1 1 1 0xff o [] small (omega arith) (omega arith) (omega arith) (omega arith) place) refl small
read_back s (Management v) o small managed h place =
    let zero_src : s ≡ 0 = managed refl in
    let e : StatusBlock = block_of 0 (Management v) o in
    let same : block_of s (Management v) o ≡ e = ap (λ (n : ℕ). block_of n (Management v) o) zero_src in
    let below : v < 2 ^ 8 = among_small management_meanings v (omega arith, (omega arith, (omega arith, (omega arith, (omega arith, (omega arith, (omega arith, tt))))))) h in
    ap (λ (b : StatusBlock). read_block true (status_bytes b)) same
    ∙ managed_read (status_bytes e) v o (head_back 0 0 0 1 v o [] (omega arith) (omega arith) (omega arith) (omega arith) below place) refl h
    ∙ ap (λ (b : StatusBlock). Ok b) (sym same)

pub status_back : StatusReadsBack
unfolding block_of
status_back block h = read_back block.src block.kind block.orb h.src h.managed h.kind h.orb
