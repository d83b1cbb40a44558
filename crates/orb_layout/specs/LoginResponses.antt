-- Login responses, 16 bytes (NCITS 325-1998, login response).
use Rattle.std.specs.Prelude.{ℕ, ◌+◌, ◌*◌, ◌/◌, ◌%◌, ◌^◌, ◌<◌, nat_lt, if◌then◌else◌, List, [], ◌∷◌, length, Result, Ok, Err}
use Rattle.sbp_base.specs.Quadlets.{quad}
use Rattle.orb_layout.specs.declared.login.LoginResponse.{LoginResponse}
use Rattle.orb_layout.specs.declared.fault.OrbFault.{OrbFault}
use Rattle.orb_layout.specs.declared.fault.OrbFault.TheVariants.{Length}
use Rattle.orb_layout.specs.Pointers.{quad_bytes, offset_at}

-- the fields, each by its place; the length, the node ID of the address and the high half of the last quadlet are not looked at
abbrev pub login_response : List ℕ → LoginResponse
login_response bytes = record {
  login = quad bytes 0 % 2 ^ 16;
  agent = offset_at bytes 4;
  hold = quad bytes 12 % 2 ^ 16;
}

abbrev pub read_login : List ℕ → Result LoginResponse OrbFault
read_login bytes = if nat_lt (length bytes) 16 then Err (Length 16) else Ok (login_response bytes)

-- the four quadlets; the length is 16
abbrev pub login_quads : LoginResponse → List ℕ
login_quads response =
    (16 * 2 ^ 16 + response.login) ∷ (response.agent / 2 ^ 32) ∷ (response.agent % 2 ^ 32) ∷ response.hold ∷ []

abbrev pub login_bytes : LoginResponse → List ℕ
login_bytes response = quad_bytes (login_quads response)

-- Every field fits its place.
pub record IsLoginResponse (response : LoginResponse) : Type 0 where
  pub login : response.login < 2 ^ 16
  pub agent : response.agent < 2 ^ 48
  pub hold : response.hold < 2 ^ 16
