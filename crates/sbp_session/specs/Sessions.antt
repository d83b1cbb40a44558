-- A session that is logged in (NCITS 325-1998, login).
use Rattle.std.specs.Prelude.{Bool, false}
use Rattle.orb_layout.specs.declared.login.LoginResponse.{LoginResponse}

-- the response of its login, and whether an ORB_POINTER write is under way
pub record LiveSession : Type 0 where
  pub response : LoginResponse
  pub pointing : Bool

-- no ORB_POINTER write is under way
abbrev pub live_with : LoginResponse → LiveSession
live_with response = record { response = response; pointing = false }
