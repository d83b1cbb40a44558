-- Command ORBs, 32 bytes (NCITS 325-1998, command block ORB).
use Rattle.std.specs.Prelude.{◌≡◌, ℕ, ◌+◌, ◌*◌, ◌/◌, ◌%◌, ◌^◌, ◌<◌, nat_lt, if◌then◌else◌, List, [], ◌∷◌, ◌++◌, length, take, drop, Result, Ok, Err}
use Rattle.sbp_base.specs.Quadlets.{quad}
use Rattle.orb_layout.specs.declared.command.CommandOrb.{CommandOrb}
use Rattle.orb_layout.specs.declared.fault.OrbFault.{OrbFault}
use Rattle.orb_layout.specs.declared.fault.OrbFault.TheVariants.{Length}
use Rattle.orb_layout.specs.Pointers.{bit, flag, quad_bytes, offset_at, node_at, pointer_at, pointer_high, pointer_low, IsPointer}

-- the fields, each by its place
abbrev pub command_orb : List ℕ → CommandOrb
command_orb bytes = record {
  next = pointer_at bytes 0;
  descriptor = offset_at bytes 8;
  descriptor_node = node_at bytes 8;
  format = quad bytes 16 / 2 ^ 29 % 2 ^ 2;
  notify = flag (quad bytes 16) 31;
  to_initiator = flag (quad bytes 16) 27;
  speed = quad bytes 16 / 2 ^ 24 % 2 ^ 3;
  max_payload = quad bytes 16 / 2 ^ 20 % 2 ^ 4;
  has_table = flag (quad bytes 16) 19;
  page_size = quad bytes 16 / 2 ^ 16 % 2 ^ 3;
  data_size = quad bytes 16 % 2 ^ 16;
  cdb = take 12 (drop 20 bytes);
}

abbrev pub read_command : List ℕ → Result CommandOrb OrbFault
read_command bytes = if nat_lt (length bytes) 32 then Err (Length 32) else Ok (command_orb bytes)

-- quadlet 4; its bit 28 is reserved
abbrev pub command_options : CommandOrb → ℕ
command_options orb =
    bit orb.notify * 2 ^ 31 + orb.format * 2 ^ 29 + bit orb.to_initiator * 2 ^ 27 + orb.speed * 2 ^ 24
    + orb.max_payload * 2 ^ 20 + bit orb.has_table * 2 ^ 19 + orb.page_size * 2 ^ 16 + orb.data_size

-- the quadlets before the command block
abbrev pub command_quads : CommandOrb → List ℕ
command_quads orb =
    pointer_high orb.next ∷ pointer_low orb.next
    ∷ (orb.descriptor_node * 2 ^ 16 + orb.descriptor / 2 ^ 32) ∷ (orb.descriptor % 2 ^ 32)
    ∷ command_options orb ∷ []

abbrev pub command_bytes : CommandOrb → List ℕ
command_bytes orb = quad_bytes (command_quads orb) ++ orb.cdb

-- The fields that are narrower than their types fit their places.
pub record CommandFits (orb : CommandOrb) : Type 0 where
  pub format : orb.format < 2 ^ 2
  pub speed : orb.speed < 2 ^ 3
  pub max_payload : orb.max_payload < 2 ^ 4
  pub page_size : orb.page_size < 2 ^ 3

-- Every field fits its place.
pub record IsCommandOrb (orb : CommandOrb) : Type 0 where
  pub next : IsPointer orb.next
  pub descriptor : orb.descriptor < 2 ^ 48
  pub descriptor_node : orb.descriptor_node < 2 ^ 16
  pub narrow : CommandFits orb
  pub data_size : orb.data_size < 2 ^ 16
  pub cdb : length orb.cdb ≡ 12
