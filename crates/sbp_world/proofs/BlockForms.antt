-- A status block that is read: a check has a sense key of four bits.
use Rattle.sbp_world.proofs.Words.Std.{◌≡◌, refl, ℕ, ◌/◌, ◌%◌, ◌^◌, ◌<◌, ◌==◌, ◌&&◌, nat_lt, Bool, true, false, cond, List, length, Option, Some, None, Result, Ok, Err, and_parts, ltb-true, quad}
use Rattle.sbp_world.proofs.Words.Wire.{IsSense}
use Rattle.sbp_world.proofs.Words.Initiator.{OrbFault, StatusBlock, StatusKind, command_kind, has, in_row, illegal_meanings, is_among, is_check_part, kind_of, management_meanings, read_block, sbp_status_of, sense_of, src_of, whole_length}
use Rattle.orb_layout.specs.declared.fault.OrbFault.TheVariants as faults
use Rattle.orb_layout.specs.declared.status.StatusKind.TheVariants as kinds

-- a check has a sense key of four bits
abbrev pub IsKeyed : StatusKind → Type 0
IsKeyed (kinds.Check sense) = IsSense sense
IsKeyed _ = Unit {0}

abbrev KindKeyed : Option StatusKind → Type 0
KindKeyed None = Unit {0}
KindKeyed (Some kind) = IsKeyed kind

record Keyed (kind : Option StatusKind) : Type 0 where
  is : KindKeyed kind

keyed_if : (b : Bool) (x y : Option StatusKind) → (b ≡ true → Keyed x) → Keyed y → Keyed (cond b x y)
keyed_if true x y h i = h refl
keyed_if false x y h i = i

part_keyed : (bytes : List ℕ) → is_check_part bytes ≡ true → quad bytes 8 / 2 ^ 16 % 2 ^ 8 < 16
part_keyed bytes h =
    let one : ((quad bytes 8 / 2 ^ 24 == 2 && nat_lt (quad bytes 8 / 2 ^ 16 % 2 ^ 8) 16 && quad bytes 12 == 0 && quad bytes 16 == 0) ≡ true) × ((quad bytes 20 == 0) ≡ true) = and_parts _ _ h in
    let two : ((quad bytes 8 / 2 ^ 24 == 2 && nat_lt (quad bytes 8 / 2 ^ 16 % 2 ^ 8) 16 && quad bytes 12 == 0) ≡ true) × ((quad bytes 16 == 0) ≡ true) = and_parts _ _ one.0 in
    let three : ((quad bytes 8 / 2 ^ 24 == 2 && nat_lt (quad bytes 8 / 2 ^ 16 % 2 ^ 8) 16) ≡ true) × ((quad bytes 12 == 0) ≡ true) = and_parts _ _ two.0 in
    let four : ((quad bytes 8 / 2 ^ 24 == 2) ≡ true) × (nat_lt (quad bytes 8 / 2 ^ 16 % 2 ^ 8) 16 ≡ true) = and_parts _ _ three.0 in
    ltb-true _ _ four.1

check_keyed : (bytes : List ℕ) → (has bytes 0 0 5 0x00 && is_check_part bytes) ≡ true → Keyed (Some (kinds.Check (sense_of bytes)))
check_keyed bytes h =
    let parts : (has bytes 0 0 5 0x00 ≡ true) × (is_check_part bytes ≡ true) = and_parts _ _ h in
    record { is = part_keyed bytes parts.1 }

command_keyed : (bytes : List ℕ) → Keyed (command_kind bytes)
unfolding command_kind
command_keyed bytes =
    keyed_if (has bytes 0 0 1 0x00) (Some kinds.Good) _ (λ e. record { is = tt })
    (keyed_if (has bytes 0 0 5 0x00 && is_check_part bytes) (Some (kinds.Check (sense_of bytes))) _ (check_keyed bytes)
    (keyed_if (has bytes 0 0 1 0x0b) (Some kinds.Dummy) _ (λ e. record { is = tt })
    (keyed_if (has bytes 0 0 1 0x0c) (Some kinds.Aborted) _ (λ e. record { is = tt })
    (keyed_if (has bytes 2 1 1 (sbp_status_of bytes) && is_among illegal_meanings (sbp_status_of bytes)) (Some (kinds.Illegal (sbp_status_of bytes))) _ (λ e. record { is = tt })
    (keyed_if (has bytes 1 1 1 0xff) (Some kinds.Failed) None (λ e. record { is = tt }) (record { is = tt }))))))

kind_keyed : (management : Bool) (bytes : List ℕ) → Keyed (kind_of management bytes)
kind_keyed true bytes =
    keyed_if (has bytes 0 0 1 (sbp_status_of bytes) && is_among management_meanings (sbp_status_of bytes) && src_of bytes == 0) (Some (kinds.Management (sbp_status_of bytes))) None (λ e. record { is = tt }) (record { is = tt })
kind_keyed false bytes = keyed_if (nat_lt (src_of bytes) 2) (command_kind bytes) None (λ e. command_keyed bytes) (record { is = tt })

abbrev BlockKeyed : Result StatusBlock OrbFault → Type 0
BlockKeyed (Err fault) = Unit {0}
BlockKeyed (Ok block) = IsKeyed block.kind

pub record IsRead (r : Result StatusBlock OrbFault) : Type 0 where
  is : BlockKeyed r

read_if : (b : Bool) (x y : Result StatusBlock OrbFault) → IsRead x → IsRead y → IsRead (cond b x y)
read_if true x y h i = h
read_if false x y h i = i

row_keyed : (bytes : List ℕ) (kind : Option StatusKind) → Keyed kind → IsRead (in_row bytes kind)
row_keyed bytes None k = record { is = tt }
row_keyed bytes (Some kind) k = record { is = k.is }

pub block_keyed : (management : Bool) (bytes : List ℕ) → IsRead (read_block management bytes)
block_keyed management bytes =
    read_if (nat_lt (length bytes) 8) (Err (faults.Length 8)) _ (record { is = tt })
    (read_if (nat_lt (length bytes) (whole_length bytes)) (Err (faults.Length (whole_length bytes))) _ (record { is = tt })
    (read_if (nat_lt (whole_length bytes) (length bytes)) (Err faults.Form) _ (record { is = tt }) (row_keyed bytes (kind_of management bytes) (kind_keyed management bytes))))

pub ok_keyed : (block : StatusBlock) → IsRead (Ok block) → IsKeyed block.kind
ok_keyed block k = k.is
