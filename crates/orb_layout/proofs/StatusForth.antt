-- A status block that was read is written as the bytes it was read from.
use Rattle.std.proofs.Common.{arith, ◌≡◌, refl, sym, ◌∙◌, ap, subst, ℕ, suc, ◌+◌, ◌*◌, ◌/◌, ◌%◌, ◌^◌, ◌==◌, ◌&&◌, ◌<◌, ◌≤◌, Bool, true, false, if◌then◌else◌, List, [], ◌∷◌, ◌++◌, length, get_or, nat_lt, Option, Some, None, Result, Ok, Err}
use Rattle.std.proofs.lemmas.Bool.{and_parts, eqb-true, ltb-true, ltb-false}
use Rattle.sbp_base.specs.Quadlets.{quad}
use Rattle.orb_layout.specs.declared.fault.OrbFault.{OrbFault}
use Rattle.orb_layout.specs.declared.status.StatusBlock.{StatusBlock}
use Rattle.orb_layout.specs.declared.status.StatusKind.{StatusKind}
use Rattle.orb_layout.specs.declared.status.StatusKind.TheVariants.{Good, Check, Dummy, Aborted, Illegal, Failed, Management}
use Rattle.orb_layout.specs.Pointers.{quad_bytes, offset_at}
use Rattle.orb_layout.specs.StatusBlocks.{has, src_of, resp_of, dead_of, len_of, sbp_status_of, is_among, is_check_part, sense_of, illegal_meanings, management_meanings, is_management, status_bytes, status_head, row_of, check_quads, whole_length, in_row, kind_of, command_kind, management_kind, IsKind}
use Rattle.orb_layout.specs.ReadBack.{StatusWritesBack}
use Rattle.orb_layout.proofs.Spelled.{small_anywhere, quads_from, quads_spelled, quad_small}

-- The fields of a row, each by itself.
record Fields (bytes : List ℕ) (r d l v : ℕ) : Type 0 where
  resp : resp_of bytes ≡ r
  dead : dead_of bytes ≡ d
  len : len_of bytes ≡ l
  status : sbp_status_of bytes ≡ v

fields_of : (bytes : List ℕ) (r d l v : ℕ) → has bytes r d l v ≡ true → Fields bytes r d l v
fields_of bytes r d l v h =
    let one : ((resp_of bytes == r && dead_of bytes == d && len_of bytes == l) ≡ true) × ((sbp_status_of bytes == v) ≡ true) = and_parts _ _ h in
    let two : ((resp_of bytes == r && dead_of bytes == d) ≡ true) × ((len_of bytes == l) ≡ true) = and_parts _ _ one.0 in
    let three : ((resp_of bytes == r) ≡ true) × ((dead_of bytes == d) ≡ true) = and_parts _ _ two.0 in
    record { resp = eqb-true _ _ three.0; dead = eqb-true _ _ three.1; len = eqb-true _ _ two.1; status = eqb-true _ _ one.1 }

-- What the row of a kind says of a block's bytes.
record InRow (bytes : List ℕ) (management : Bool) (told : StatusKind) : Type 0 where
  fields : Fields bytes (row_of told).resp (row_of told).dead (row_of told).len (row_of told).status
  size : (row_of told).len ≡ suc (length (check_quads told))
  check : check_quads told ≡ quads_from 8 (length (check_quads told)) bytes
  values : IsKind told
  asked : is_management told ≡ management

good_row : (bytes : List ℕ) → has bytes 0 0 1 0x00 ≡ true → InRow bytes false Good
good_row bytes h = record { fields = fields_of bytes 0 0 1 0x00 h; size = refl; check = refl; values = tt; asked = refl }

dummy_row : (bytes : List ℕ) → has bytes 0 0 1 0x0b ≡ true → InRow bytes false Dummy
dummy_row bytes h = record { fields = fields_of bytes 0 0 1 0x0b h; size = refl; check = refl; values = tt; asked = refl }

aborted_row : (bytes : List ℕ) → has bytes 0 0 1 0x0c ≡ true → InRow bytes false Aborted
aborted_row bytes h = record { fields = fields_of bytes 0 0 1 0x0c h; size = refl; check = refl; values = tt; asked = refl }

failed_row : (bytes : List ℕ) → has bytes 1 1 1 0xff ≡ true → InRow bytes false Failed
failed_row bytes h = record { fields = fields_of bytes 1 1 1 0xff h; size = refl; check = refl; values = tt; asked = refl }

illegal_row : (bytes : List ℕ) (v : ℕ) → (has bytes 2 1 1 v && is_among illegal_meanings v) ≡ true → InRow bytes false (Illegal v)
illegal_row bytes v h =
    let parts : (has bytes 2 1 1 v ≡ true) × (is_among illegal_meanings v ≡ true) = and_parts _ _ h in
    record { fields = fields_of bytes 2 1 1 v parts.0; size = refl; check = refl; values = parts.1; asked = refl }

managed_row : (bytes : List ℕ) (v : ℕ) → has bytes 0 0 1 v ≡ true → is_among management_meanings v ≡ true → InRow bytes true (Management v)
managed_row bytes v h among = record { fields = fields_of bytes 0 0 1 v h; size = refl; check = refl; values = among; asked = refl }

-- The check part, quadlet by quadlet.
record Part (bytes : List ℕ) : Type 0 where
  first : quad bytes 8 / 2 ^ 24 ≡ 2
  key : quad bytes 8 / 2 ^ 16 % 2 ^ 8 < 16
  second : quad bytes 12 ≡ 0
  third : quad bytes 16 ≡ 0
  fourth : quad bytes 20 ≡ 0

part_of : (bytes : List ℕ) → is_check_part bytes ≡ true → Part bytes
part_of bytes h =
    let one : ((quad bytes 8 / 2 ^ 24 == 2 && nat_lt (quad bytes 8 / 2 ^ 16 % 2 ^ 8) 16 && quad bytes 12 == 0 && quad bytes 16 == 0) ≡ true) × ((quad bytes 20 == 0) ≡ true) = and_parts _ _ h in
    let two : ((quad bytes 8 / 2 ^ 24 == 2 && nat_lt (quad bytes 8 / 2 ^ 16 % 2 ^ 8) 16 && quad bytes 12 == 0) ≡ true) × ((quad bytes 16 == 0) ≡ true) = and_parts _ _ one.0 in
    let three : ((quad bytes 8 / 2 ^ 24 == 2 && nat_lt (quad bytes 8 / 2 ^ 16 % 2 ^ 8) 16) ≡ true) × ((quad bytes 12 == 0) ≡ true) = and_parts _ _ two.0 in
    let four : ((quad bytes 8 / 2 ^ 24 == 2) ≡ true) × (nat_lt (quad bytes 8 / 2 ^ 16 % 2 ^ 8) 16 ≡ true) = and_parts _ _ three.0 in
    record { first = eqb-true _ _ four.0; key = ltb-true _ _ four.1; second = eqb-true _ _ three.1; third = eqb-true _ _ two.1; fourth = eqb-true _ _ one.1 }

check_row : (bytes : List ℕ) → (has bytes 0 0 5 0x00 && is_check_part bytes) ≡ true → InRow bytes false (Check (sense_of bytes))
check_row bytes h =
    let parts : (has bytes 0 0 5 0x00 ≡ true) × (is_check_part bytes ≡ true) = and_parts _ _ h in
    let p : Part bytes = part_of bytes parts.1 in
    let first : 2 * 2 ^ 24 + quad bytes 8 / 2 ^ 16 % 2 ^ 8 * 2 ^ 16 + quad bytes 8 / 2 ^ 8 % 2 ^ 8 * 2 ^ 8 + quad bytes 8 % 2 ^ 8 ≡ quad bytes 8 = omega (arith, p.first) in
    let quads : check_quads (Check (sense_of bytes)) ≡ quads_from 8 4 bytes = rw (first, p.second, p.third, p.fourth) refl in
    record { fields = fields_of bytes 0 0 5 0x00 parts.0; size = refl; check = quads; values = (p.key, omega arith, omega arith); asked = refl }

-- A row that answers is the first that holds.
first_row : (b : Bool) (kind : StatusKind) (other : Option StatusKind) (told : StatusKind) (P : StatusKind → Type 0) → (b ≡ true → P kind) → (other ≡ Some told → P told) → (if b then Some kind else other) ≡ Some told → P told
first_row true kind other told P now later h =
    let same : kind ≡ told = cc in
    subst P same (now refl)
first_row false kind other told P now later h = later h

in_command : (bytes : List ℕ) (told : StatusKind) → command_kind bytes ≡ Some told → InRow bytes false told
unfolding command_kind
in_command bytes told h =
    let P : StatusKind → Type 0 = InRow bytes false in
    first_row (has bytes 0 0 1 0x00) Good _ told P (good_row bytes) (λ h1.
    first_row (has bytes 0 0 5 0x00 && is_check_part bytes) (Check (sense_of bytes)) _ told P (check_row bytes) (λ h2.
    first_row (has bytes 0 0 1 0x0b) Dummy _ told P (dummy_row bytes) (λ h3.
    first_row (has bytes 0 0 1 0x0c) Aborted _ told P (aborted_row bytes) (λ h4.
    first_row (has bytes 2 1 1 (sbp_status_of bytes) && is_among illegal_meanings (sbp_status_of bytes)) (Illegal (sbp_status_of bytes)) _ told P (illegal_row bytes (sbp_status_of bytes)) (λ h5.
    first_row (has bytes 1 1 1 0xff) Failed None told P (failed_row bytes) (λ none. absurd (cc none)) h5) h4) h3) h2) h1) h

-- src, which is 0 in the row management
record Source (bytes : List ℕ) (management : Bool) : Type 0 where
  small : src_of bytes < 2
  managed : management ≡ true → src_of bytes ≡ 0

record Read (bytes : List ℕ) (management : Bool) (told : StatusKind) : Type 0 where
  row : InRow bytes management told
  source : Source bytes management

in_management : (bytes : List ℕ) (told : StatusKind) → management_kind bytes ≡ Some told → Read bytes true told
in_management bytes told h =
    first_row (has bytes 0 0 1 (sbp_status_of bytes) && is_among management_meanings (sbp_status_of bytes) && src_of bytes == 0) (Management (sbp_status_of bytes)) None told (Read bytes true)
    (λ holds.
    let one : ((has bytes 0 0 1 (sbp_status_of bytes) && is_among management_meanings (sbp_status_of bytes)) ≡ true) × ((src_of bytes == 0) ≡ true) = and_parts _ _ holds in
    let two : (has bytes 0 0 1 (sbp_status_of bytes) ≡ true) × (is_among management_meanings (sbp_status_of bytes) ≡ true) = and_parts _ _ one.0 in
    let src : src_of bytes ≡ 0 = eqb-true _ _ one.1 in
    record { row = managed_row bytes (sbp_status_of bytes) two.0 two.1; source = record { small = omega arith; managed = λ _. src } })
    (λ none. absurd (cc none)) h

in_other : (b : Bool) (bytes : List ℕ) (told : StatusKind) → nat_lt (src_of bytes) 2 ≡ b → (if b then command_kind bytes else None) ≡ Some told → Read bytes false told
in_other true bytes told src h = record { row = in_command bytes told h; source = record { small = ltb-true _ _ src; managed = λ e. absurd (cc e) } }
in_other false bytes told src h = absurd (cc h)

read_of : (management : Bool) (bytes : List ℕ) (told : StatusKind) → kind_of management bytes ≡ Some told → Read bytes management told
read_of true bytes told h = in_management bytes told h
read_of false bytes told h = in_other (nat_lt (src_of bytes) 2) bytes told refl h

-- A block that is read has its length, and a row.
passed : (b : Bool) (fault : OrbFault) (other : Result StatusBlock OrbFault) (block : StatusBlock) → (if b then Err fault else other) ≡ Ok block → (b ≡ false) × (other ≡ Ok block)
passed true fault other block h = absurd (cc h)
passed false fault other block h = (refl, h)

block_of : ℕ → StatusKind → ℕ → StatusBlock
block_of src kind orb = record { src = src; kind = kind; orb = orb }

IsThat : List ℕ → Option StatusKind → StatusBlock → Type 0
IsThat bytes kind block = (kind ≡ Some block.kind) × (block.src ≡ src_of bytes) × (block.orb ≡ offset_at bytes 0)

row_told : (bytes : List ℕ) (kind : Option StatusKind) (block : StatusBlock) → in_row bytes kind ≡ Ok block → IsThat bytes kind block
unfolding block_of IsThat
row_told bytes None block h = absurd (cc h)
row_told bytes (Some kind) block h =
    let same : block_of (src_of bytes) kind (offset_at bytes 0) ≡ block = cc in
    subst (IsThat bytes (Some kind)) same (refl, refl, refl)

-- Quadlets 0 and 1 from their fields.
head_forth : (bytes : List ℕ) (r d l v : ℕ) → ((k : ℕ) → get_or bytes k 0 < 256) → Fields bytes r d l v
    → src_of bytes * 2 ^ 30 + r * 2 ^ 28 + d * 2 ^ 27 + l * 2 ^ 24 + v * 2 ^ 16 + offset_at bytes 0 / 2 ^ 32 ≡ quad bytes 0
head_forth bytes r d l v small f =
    let low : quad bytes 4 < 2 ^ 32 = quad_small bytes 4 small in
    omega (arith, f.resp, f.dead, f.len, f.status)

low_forth : (bytes : List ℕ) → ((k : ℕ) → get_or bytes k 0 < 256) → offset_at bytes 0 % 2 ^ 32 ≡ quad bytes 4
low_forth bytes small =
    let low : quad bytes 4 < 2 ^ 32 = quad_small bytes 4 small in
    omega arith

written_as : (bytes : List ℕ) (told : StatusKind) (management : Bool) → ((k : ℕ) → get_or bytes k 0 < 256) → length bytes ≡ whole_length bytes → InRow bytes management told → status_bytes (block_of (src_of bytes) told (offset_at bytes 0)) ≡ bytes
unfolding block_of
written_as bytes told management small size row =
    let n : ℕ = length (check_quads told) in
    let high : status_head (block_of (src_of bytes) told (offset_at bytes 0)) (row_of told) ≡ quad bytes 0 = head_forth bytes _ _ _ _ small row.fields in
    let low : offset_at bytes 0 % 2 ^ 32 ≡ quad bytes 4 = low_forth bytes small in
    let whole : length bytes ≡ 0 + 4 * suc (suc n) = omega (arith, row.fields.len, row.size) in
    ap (λ (q : ℕ). quad_bytes (q ∷ (offset_at bytes 0 % 2 ^ 32) ∷ []) ++ quad_bytes (check_quads told)) high
    ∙ ap (λ (q : ℕ). quad_bytes (quad bytes 0 ∷ q ∷ []) ++ quad_bytes (check_quads told)) low
    ∙ ap (λ (l : List ℕ). quad_bytes (quad bytes 0 ∷ quad bytes 4 ∷ []) ++ quad_bytes l) row.check
    ∙ quads_spelled bytes 0 (suc (suc n)) whole small

pub status_forth : StatusWritesBack
unfolding block_of IsThat
status_forth management bytes block all h =
    let small : (k : ℕ) → get_or bytes k 0 < 256 = small_anywhere bytes all in
    let one : (nat_lt (length bytes) 8 ≡ false) × ((if nat_lt (length bytes) (whole_length bytes) then Err _ else if nat_lt (whole_length bytes) (length bytes) then Err _ else in_row bytes (kind_of management bytes)) ≡ Ok block) = passed _ _ _ block h in
    let two : (nat_lt (length bytes) (whole_length bytes) ≡ false) × ((if nat_lt (whole_length bytes) (length bytes) then Err _ else in_row bytes (kind_of management bytes)) ≡ Ok block) = passed _ _ _ block one.1 in
    let three : (nat_lt (whole_length bytes) (length bytes) ≡ false) × (in_row bytes (kind_of management bytes) ≡ Ok block) = passed _ _ _ block two.1 in
    let least : whole_length bytes ≤ length bytes = ltb-false _ _ two.0 in
    let most : length bytes ≤ whole_length bytes = ltb-false _ _ three.0 in
    let told : IsThat bytes (kind_of management bytes) block = row_told bytes (kind_of management bytes) block three.1 in
    let read : Read bytes management block.kind = read_of management bytes block.kind told.0 in
    let same : block_of (src_of bytes) block.kind (offset_at bytes 0) ≡ block = cc in
    let low : quad bytes 4 < 2 ^ 32 = quad_small bytes 4 small in
    record {
      row = record {
        src = subst (λ (n : ℕ). n < 2) (sym told.1) read.source.small;
        managed = λ e. told.1 ∙ read.source.managed (sym read.row.asked ∙ e);
        kind = read.row.values;
        orb = rw told.2 (omega arith);
      };
      asked = read.row.asked;
      written = ap status_bytes (sym same) ∙ written_as bytes block.kind management small (omega arith) read.row;
    }
