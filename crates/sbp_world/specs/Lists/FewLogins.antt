-- Few logins (NCITS 325-1998, login): fewer IDs of logins were given than there are, so that none was given twice. Each initiator that is ready at the start has one, and
-- each login that the target granted.
use Rattle.std.specs.Prelude.{◌≡◌, ◌⊎◌, ◌<◌, ◌≤◌, ◌+◌, ℕ, List, [], ◌∷◌, Some}
use Rattle.login_table.specs.declared.login.Login.{Login}
use Rattle.login_table.specs.Table.{Table, place_at}
use Rattle.sbp_journal.specs.Run.{Moment, asked, said}
use Rattle.sbp_journal.specs.declared.note.Note.{Note}
use Rattle.sbp_journal.specs.declared.note.Note.TheVariants as notes
use Rattle.sbp_journal.specs.declared.operation.FunctionWord.TheVariants as functions
use Rattle.sbp_world.specs.Making.{ready_logins}
use Rattle.sbp_world.specs.Lists.Needs.{IsCalm}
use Rattle.sbp_world.specs.Lists.OwnLogins.{IsTame}

-- how many logins a note says that the target has more
abbrev pub entries_of : Note → ℕ
entries_of (notes.Begin initiators ready) = ready_logins initiators ready
entries_of (notes.Managed i functions.Login subject status (Some login)) = 1
entries_of note = 0

abbrev pub entries : List Moment → ℕ
entries [] = 0
entries (said note ∷ past) = entries_of note + entries past
entries (asked line event ∷ past) = entries past

abbrev pub FewLogins : List Moment → Type 0
FewLogins past = entries past < 65535

-- an initiator injected no packets, and few logins were given
abbrev pub IsTameOf : List Moment → ℕ → Type 0
IsTameOf past i = IsCalm past i × FewLogins past

-- no initiator injected packets, or few logins were given
abbrev pub IsTameOrFew : List Moment → Type 0
IsTameOrFew past = IsTame past ⊎ FewLogins past

-- an initiator injected none, beside others that did only where few logins were given
abbrev pub IsCalmBeside : List Moment → ℕ → Type 0
IsCalmBeside past i = IsCalm past i × IsTameOrFew past

-- ---- the IDs of a table
-- no login has an ID behind the one that was entered last
abbrev pub AreRising : Table → Type 0
AreRising table = (place : ℕ) (login : Login) → place_at table.places place ≡ Some login → login.login ≤ table.last

-- and that one is no greater than the number of logins that were entered
pub record HasFewIds (past : List Moment) (table : Table) : Type 0 where
  pub last : table.last ≤ entries past
  pub rising : AreRising table
