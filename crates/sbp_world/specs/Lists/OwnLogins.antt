-- The logins that the target has, where no initiator injected packets (NCITS 325-1998, login): each has a FIFO of a login, which is in no window of its initiator and
-- no FIFO of a place of management.
use Rattle.std.specs.Prelude.{◌≡◌, ◌<◌, ◌+◌, ◌*◌, ◌^◌, ℕ, true, List, Some}
use Rattle.bus_memory.specs.declared.window.Window.TheVariants as windows
use Rattle.bus_memory.specs.Windows.{start}
use Rattle.login_table.specs.declared.login.Login.{Login}
use Rattle.login_table.specs.Table.{is_live}
use Rattle.mgmt_agent.specs.declared.function.Function.TheVariants as functions
use Rattle.mgmt_agent.specs.declared.operation.Phase.{Phase}
use Rattle.mgmt_agent.specs.declared.operation.Phase.TheVariants as phases
use Rattle.mgmt_agent.specs.Statuses.{function_of}
use Rattle.orb_layout.specs.declared.management.ManagementOrb.{ManagementOrb}
use Rattle.sbp_journal.specs.Run.{Moment}
use Rattle.sbp_laws.specs.Targets.{login_fifo}
use Rattle.sbp_target.specs.Nodes.{login_at}
use Rattle.sbp_world.specs.Telling.{holder}
use Rattle.sbp_world.specs.Worlds.{WorldState}
use Rattle.sbp_world.specs.Lists.Needs.{IsCalm}

-- no initiator injected packets
abbrev pub IsTame : List Moment → Type 0
IsTame past = (i : ℕ) → IsCalm past i

-- the FIFO of a login number
pub record IsLoginFifo (fifo : ℕ) : Type 0 where
  pub number : ℕ
  pub few : number < 2 ^ 32
  pub is : fifo ≡ login_fifo number

-- each login
abbrev pub AreOwn : WorldState → Type 0
AreOwn w = (place : ℕ) (login : Login) → login_at w.target place ≡ Some login → IsLoginFifo login.fifo

-- each live login of an initiator
abbrev pub AreOwnOf : WorldState → ℕ → Type 0
AreOwnOf w i = (place : ℕ) (login : Login) → login_at w.target place ≡ Some login → is_live login ≡ true → (holder w place).initiator ≡ i → IsLoginFifo login.fifo

-- ---- the management ORBs that the target reads

-- the FIFO of a login number, or that of a place of management
pub data IsItsFifo (fifo : ℕ) : Type 0 where
  of_login : IsLoginFifo fifo → IsItsFifo fifo
  of_place : (place : ℕ) → place < 2 → fifo ≡ 0x12002000 + 0x20 * place → IsItsFifo fifo

-- the place of a response, or an address in front of the slots
pub data IsAside (at : ℕ) : Type 0 where
  in_front : at < 0x1000_0000 → IsAside at
  of_response : (place : ℕ) → place < 2 → at ≡ start (windows.Response place) → IsAside at

-- an ORB names such a FIFO, and that of a login where it asks for one; and its response goes to no slot
pub record IsGoodOrb (orb : ManagementOrb) : Type 0 where
  pub aside : IsAside orb.second
  pub its : IsItsFifo orb.fifo
  pub login : function_of orb.function ≡ Some functions.Login → IsLoginFifo orb.fifo

-- what a phase keeps is so
abbrev pub GoodIn : Phase → Type 0
GoodIn (phases.HighEui orb) = IsGoodOrb orb
GoodIn (phases.LowEui orb high) = IsGoodOrb orb
GoodIn (phases.Response fifo) = IsItsFifo fifo
GoodIn phase = Unit {0}
