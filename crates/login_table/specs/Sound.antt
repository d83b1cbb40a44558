-- What holds between the logins of a table, and of each (NCITS 325-1998, access).
use Rattle.std.specs.Prelude.{◌≡◌, ◌≢◌, ℕ, ◌+◌, ◌<◌, ◌≤◌, true, false, List, length, Option, Some, None}
use Rattle.login_table.specs.declared.login.Login.{Login}
use Rattle.login_table.specs.Table.{Table, place_at, is_live}

-- A login carries the number of its place, one of eight, and an ID from 1 to 65535.
pub record IsNumbered (place : ℕ) (login : Login) : Type 0 where
  pub own : login.place ≡ place
  pub below : place < 8
  pub least : 1 ≤ login.login
  pub most : login.login ≤ 65535

-- A held login has from 1 to hold + 1 seconds left, and no seconds of a live one run.
abbrev pub SecondsWithin : Option ℕ → ℕ → Type 0
SecondsWithin None hold = Unit {0}
SecondsWithin (Some seconds) hold = (1 ≤ seconds) × (seconds ≤ hold + 1)

-- two logins of one table
pub record Apart (a b : Login) : Type 0 where
  pub euis : a.unit ≡ b.unit → a.eui ≢ b.eui
  pub nodes : a.unit ≡ b.unit → is_live a ≡ true → is_live b ≡ true → a.node ≢ b.node
  pub first : a.unit ≡ b.unit → a.exclusive ≡ false
  pub second : a.unit ≡ b.unit → b.exclusive ≡ false
  pub ids : a.login ≢ b.login

pub record IsSound (places : List (Option Login)) : Type 0 where
  pub size : length places ≡ 8
  pub apart : (i j : ℕ) (a b : Login) → i ≢ j → place_at places i ≡ Some a → place_at places j ≡ Some b → Apart a b
  pub numbered : (i : ℕ) (a : Login) → place_at places i ≡ Some a → IsNumbered i a
  pub seconds : (i : ℕ) (a : Login) → place_at places i ≡ Some a → SecondsWithin a.remaining a.hold

-- what holds of each table of logins
pub record IsTable (table : Table) : Type 0 where
  pub last : table.last ≤ 65535
  pub sound : IsSound table.places
