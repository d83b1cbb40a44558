-- Whose the ID of a login is (NCITS 325-1998, login): an initiator's whose node had a live login with it at the end of a turn. Where few logins were given, no later login
-- has it, and a login that has it is the one that this node had.
use Rattle.std.specs.Prelude.{◌≡◌, ◌⊎◌, ◌==◌, ℕ, suc, true, List, [], ◌∷◌, Some}
use Rattle.login_table.specs.declared.login.Login.{Login}
use Rattle.login_table.specs.Table.{Table, is_live, place_at}
use Rattle.orb_layout.specs.declared.login.LoginResponse.{LoginResponse}
use Rattle.orb_layout.specs.LoginResponses.{login_response}
use Rattle.rbc_disk.specs.Disk.{Disk}
use Rattle.sbp_journal.specs.Run.{Moment, asked, said}
use Rattle.sbp_journal.specs.Wire.{terms}
use Rattle.sbp_journal.specs.declared.note.Note.TheVariants as notes
use Rattle.sbp_journal.specs.declared.operation.Operation.TheVariants as operations
use Rattle.sbp_journal.specs.declared.operation.OpWord.TheVariants as words
use Rattle.sbp_laws.specs.Hosts.{host_at, response_of}
use Rattle.sbp_laws.specs.Packets.{id_for}
use Rattle.sbp_laws.specs.Targets.{login_at, target_at}
use Rattle.sbp_world.specs.Lists.LoginAnswers.{IsAnswerTo}
use Rattle.sbp_world.specs.Lists.OwnLogins.{IsLoginFifo}

-- a live login of the initiator's node has the ID
pub record LivesWith (start : List Disk) (past : List Moment) (i id : ℕ) : Type 0 where
  pub place : ℕ
  pub login : Login
  pub there : login_at (target_at start past) place ≡ Some login
  pub live : is_live login ≡ true
  pub node : login.node ≡ id_for (terms past) 0 (suc i)
  pub own : login.login ≡ id

-- a turn begins with it: a line, or a packet that is judged
abbrev pub BeginsTurn : Moment → Type 0
BeginsTurn (asked line event) = Unit {0}
BeginsTurn (said (notes.Got serial)) = Unit {0}
BeginsTurn (said (notes.Ignored serial cause)) = Unit {0}
BeginsTurn moment = ⊥

-- it was so as a turn began
abbrev pub HadBy : List Disk → List Moment → (i id : ℕ) → Type 0
HadBy start [] i id = ⊥
HadBy start (moment ∷ past) i id = (BeginsTurn moment × LivesWith start past i id) ⊎ HadBy start past i id

abbrev pub OwnBy : List Disk → List Moment → (i id : ℕ) → Type 0
OwnBy start past i id = LivesWith start past i id ⊎ HadBy start past i id

-- a login of the initiator is done: the ID that it is told then is one of the initiator
abbrev pub OwnedAt : List Disk → ℕ → Moment → List Moment → Type 0
OwnedAt start i (said (notes.Op j operations.Login words.Done)) past = (j == i) ≡ true → HadBy start past i (login_response (response_of (host_at past i))).login
OwnedAt start i moment past = Unit {0}

-- as a status of 00 is got for a login, the response in its buffer names such an ID
abbrev pub OursAt : List Disk → ℕ → Moment → List Moment → Type 0
OursAt start i (said (notes.Got serial)) past = IsAnswerTo past i serial operations.Login 0 → OwnBy start past i (login_response (response_of (host_at past i))).login
OursAt start i moment past = Unit {0}

-- the login that a host has, where it has one
abbrev pub HasOwn : List Disk → List Moment → ℕ → LoginResponse → Type 0
HasOwn start past i response = OwnBy start past i response.login ⊎ (response.login ≡ 0)

-- ---- the logins of an initiator's node
-- A login that has an ID of the initiator has the FIFO of a login; and each live login of the node with an ID has one.
pub record AreOwnIds (start : List Disk) (past : List Moment) (i node : ℕ) (table : Table) : Type 0 where
  pub fifo : (place : ℕ) (login : Login) → place_at table.places place ≡ Some login → OwnBy start past i login.login → IsLoginFifo login.fifo
  pub own : (place : ℕ) (login : Login) → place_at table.places place ≡ Some login → is_live login ≡ true → login.node ≡ node → OwnBy start past i login.login
