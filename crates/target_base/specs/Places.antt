-- Which places of the table of logins a mask is of.
use Rattle.std.specs.Prelude.{ℕ, ◌+◌, ◌^◌, ◌==◌, ◌&&◌, not, Bool, false, if◌then◌else◌, List, Option, Some, None}
use Rattle.login_table.specs.declared.login.Login.{Login}
use Rattle.login_table.specs.Table.{place_at}

-- the login of a place is one of the unit
abbrev pub is_of_unit : ℕ → Option Login → Bool
is_of_unit unit None = false
is_of_unit unit (Some login) = login.unit == unit

abbrev pub is_place : Option ℕ → ℕ → Bool
is_place None place = false
is_place (Some other) place = other == place

-- bit p of a mask stands for place p
abbrev pub mask_bit : ℕ → Option ℕ → List (Option Login) → ℕ → ℕ
mask_bit unit except places place =
    if is_of_unit unit (place_at places place) && not (is_place except place) then 2 ^ place else 0

-- the places of the logins of a unit, live and held, but for one
unfoldable pub mask_of : ℕ → Option ℕ → List (Option Login) → ℕ
mask_of unit except places =
    mask_bit unit except places 0 + mask_bit unit except places 1 + mask_bit unit except places 2 + mask_bit unit except places 3 + mask_bit unit except places 4 + mask_bit unit except places 5 + mask_bit unit except places 6 + mask_bit unit except places 7
