-- Management ORBs, 32 bytes (NCITS 325-1998, management ORB).
use Rattle.std.specs.Prelude.{ℕ, ◌+◌, ◌*◌, ◌/◌, ◌%◌, ◌^◌, ◌<◌, nat_lt, if◌then◌else◌, List, [], ◌∷◌, length, Result, Ok, Err}
use Rattle.sbp_base.specs.Quadlets.{quad}
use Rattle.orb_layout.specs.declared.management.ManagementOrb.{ManagementOrb}
use Rattle.orb_layout.specs.declared.fault.OrbFault.{OrbFault}
use Rattle.orb_layout.specs.declared.fault.OrbFault.TheVariants.{Length}
use Rattle.orb_layout.specs.Pointers.{bit, flag, quad_bytes, offset_at}

-- the fields, each by its place; the node IDs of the two addresses are not looked at
abbrev pub management_orb : List ℕ → ManagementOrb
management_orb bytes = record {
  first = quad bytes 0 * 2 ^ 32 + quad bytes 4;
  second = offset_at bytes 8;
  notify = flag (quad bytes 16) 31;
  format = quad bytes 16 / 2 ^ 29 % 2 ^ 2;
  exclusive = flag (quad bytes 16) 28;
  reconnect = quad bytes 16 / 2 ^ 20 % 2 ^ 4;
  function = quad bytes 16 / 2 ^ 16 % 2 ^ 4;
  subject = quad bytes 16 % 2 ^ 16;
  password_length = quad bytes 20 / 2 ^ 16;
  response_length = quad bytes 20 % 2 ^ 16;
  fifo = offset_at bytes 24;
}

abbrev pub read_management : List ℕ → Result ManagementOrb OrbFault
read_management bytes = if nat_lt (length bytes) 32 then Err (Length 32) else Ok (management_orb bytes)

-- quadlet 4; its bits 27 to 24 are reserved
abbrev pub management_options : ManagementOrb → ℕ
management_options orb =
    bit orb.notify * 2 ^ 31 + orb.format * 2 ^ 29 + bit orb.exclusive * 2 ^ 28
    + orb.reconnect * 2 ^ 20 + orb.function * 2 ^ 16 + orb.subject

-- the eight quadlets; the node IDs of the two addresses are zero
abbrev pub management_quads : ManagementOrb → List ℕ
management_quads orb =
    (orb.first / 2 ^ 32) ∷ (orb.first % 2 ^ 32)
    ∷ (orb.second / 2 ^ 32) ∷ (orb.second % 2 ^ 32)
    ∷ management_options orb
    ∷ (orb.password_length * 2 ^ 16 + orb.response_length)
    ∷ (orb.fifo / 2 ^ 32) ∷ (orb.fifo % 2 ^ 32) ∷ []

abbrev pub management_bytes : ManagementOrb → List ℕ
management_bytes orb = quad_bytes (management_quads orb)

-- The fields that are narrower than their types fit their places.
pub record ManagementFits (orb : ManagementOrb) : Type 0 where
  pub format : orb.format < 2 ^ 2
  pub reconnect : orb.reconnect < 2 ^ 4
  pub function : orb.function < 2 ^ 4

-- Every field fits its place.
pub record IsManagementOrb (orb : ManagementOrb) : Type 0 where
  pub first : orb.first < 2 ^ 64
  pub second : orb.second < 2 ^ 48
  pub narrow : ManagementFits orb
  pub subject : orb.subject < 2 ^ 16
  pub password_length : orb.password_length < 2 ^ 16
  pub response_length : orb.response_length < 2 ^ 16
  pub fifo : orb.fifo < 2 ^ 48
