-- Which live logins the target has of an initiator's node, at each place of a history between two turns (NCITS 325-1998, login, reconnect and logout). Of each initiator
-- that injected no packets, beside others that did only where few logins were given, while it is in the target's generation: it has one live login at most, on whatever unit. Where its session is live, or is
-- being left, that has the ID which the session carries: of a live session the target has it, of one that is being left it has it still, or no more.
-- Where the session is out or held, it has none. Of an initiator whose session is stuck with no operation under way this is not said: what it gave up
-- may be done still.
use Rattle.std.specs.Prelude.{◌≡◌, ◌⊎◌, ◌≤◌, ◌<◌, ℕ, suc, Bool, true, false, List, ◌∷◌, ◌++◌, map, length, Option, Some}
use Rattle.login_table.specs.declared.login.Login.{Login}
use Rattle.login_table.specs.Table.{is_live, place_at}
use Rattle.orb_layout.specs.declared.login.LoginResponse.{LoginResponse}
use Rattle.sbp_session.specs.Sessions.{LiveSession}
use Rattle.sbp_session.specs.declared.seat.Seat.{Seat}
use Rattle.sbp_session.specs.declared.seat.Seat.TheVariants as seats
use Rattle.rbc_disk.specs.Runs.{Told}
use Rattle.sbp_journal.specs.Run.{Moment, asked, said}
use Rattle.sbp_journal.specs.Wire.{terms}
use Rattle.sbp_laws.specs.Hosts.{Underway, host_at, is_management, is_stuck}
use Rattle.sbp_laws.specs.Packets.{id_for}
use Rattle.sbp_world.specs.Histories.{history_of}
use Rattle.sbp_world.specs.Runs.{Run, after, beginning}
use Rattle.sbp_world.specs.Settling.{MayAll, after_all}
use Rattle.sbp_world.specs.Worlds.{WorldState, begun, initiator_at}
use Rattle.sbp_world.specs.Hosts.Runs.{IsRun, more_deliveries}
use Rattle.sbp_world.specs.Sessions.Entering.{joined_with}
use Rattle.sbp_world.specs.Lists.FewLogins.{IsCalmBeside}
use Rattle.sbp_world.specs.Lists.Needs.{OpenBefore, OpenBetween}

-- the node with an ID has no live login
pub record HasNone (places : List (Option Login)) (id : ℕ) : Type 0 where
  pub none : (place : ℕ) (login : Login) → place_at places place ≡ Some login → is_live login ≡ true → login.node ≡ id → ⊥

-- it has one at most
pub record HasOne (places : List (Option Login)) (id : ℕ) : Type 0 where
  pub one : (place other : ℕ) (a b : Login) → place_at places place ≡ Some a → place_at places other ≡ Some b → is_live a ≡ true → is_live b ≡ true → a.node ≡ id → b.node ≡ id → place ≡ other

-- each that it has is of this number
pub record AreNamed (places : List (Option Login)) (id number : ℕ) : Type 0 where
  pub named : (place : ℕ) (login : Login) → place_at places place ≡ Some login → is_live login ≡ true → login.node ≡ id → login.login ≡ number

-- it has the one of this number
pub record HasLogin (places : List (Option Login)) (id number : ℕ) : Type 0 where
  pub place : ℕ
  pub login : Login
  pub there : place_at places place ≡ Some login
  pub live : is_live login ≡ true
  pub of_node : login.node ≡ id
  pub own : login.login ≡ number

-- a session that is out or held
abbrev pub is_apart : Seat → Bool
is_apart (seats.Out out) = true
is_apart (seats.Held response) = true
is_apart _ = false

-- of an initiator whose node has an ID, as the target knows the nodes, by its session and the logins of the target
pub record IsLive (places : List (Option Login)) (id : ℕ) (seat : Seat) : Type 0 where
  pub one : HasOne places id
  pub named : (response : LoginResponse) → joined_with seat ≡ Some response → AreNamed places id response.login
  pub live : (session : LiveSession) → seat ≡ seats.Live session → HasLogin places id session.response.login
  pub leaving : (response : LoginResponse) → seat ≡ seats.Leaving response → HasLogin places id response.login ⊎ HasNone places id
  pub apart : is_apart seat ≡ true → HasNone places id

-- An initiator has given up where its session is stuck and it has no management operation under way.
pub record HasGivenUp (past : List Moment) (i : ℕ) : Type 0 where
  pub stuck : is_stuck (host_at past i).session ≡ true
  pub none : (underway : Underway) → (host_at past i).operation ≡ Some underway → is_management underway.operation ≡ false

-- of each initiator that injected no packets, beside others that did only where few logins were given, while it is in the target's generation
pub record AreLive (past : List Moment) (w : WorldState) : Type 0 where
  pub live : (i : ℕ) → i < length w.initiators → IsCalmBeside past i → (terms past).generation 0 ≡ (terms past).generation (suc i) → HasGivenUp past i ⊎ IsLive w.target.logins.places (id_for (terms past) 0 (suc i)) (initiator_at w i).seat

-- After every line of every run of a machine with a unit, at most four, and a medium for each; and behind each delivery of a line that delivers one packet
-- after the other: where lists were open as they should be before.
pub record LiveLaw : Type 0 where
  pub after_lines : (line : ℕ) (run : Run) → IsRun run → 0 < run.units → run.units ≤ 4 → length run.start.disks ≡ run.units → OpenBefore line run run.entries → AreLive (history_of line run) (after (beginning run) run.entries).world
  pub between : (line : ℕ) (run : Run) → IsRun run → 0 < run.units → run.units ≤ 4 → length run.start.disks ≡ run.units → (next : ℕ) (most : Option ℕ) (told : List (Option Told)) → MayAll told (begun (after (beginning run) run.entries)) → OpenBetween line run next (more_deliveries most) told → (let w = (after_all told (begun (after (beginning run) run.entries))).world in AreLive (map said w.fresh ++ asked next (more_deliveries most) ∷ history_of line run) w)
