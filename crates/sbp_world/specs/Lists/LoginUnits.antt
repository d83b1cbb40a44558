-- On which unit an initiator is logged in (NCITS 325-1998, login): a live login of an initiator that injected no packets is on a unit that a `login` line of it asked for, or on unit 0 where
-- the initiators begin logged in.
use Rattle.std.specs.Prelude.{◌≡◌, ◌≤◌, ◌<◌, ◌==◌, ◌&&◌, ◌||◌, nat_lt, ℕ, Bool, true, false, List, [], ◌∷◌, ◌++◌, map, length, Option, Some}
use Rattle.login_table.specs.declared.login.Login.{Login}
use Rattle.login_table.specs.Table.{is_live}
use Rattle.rbc_disk.specs.Runs.{Told}
use Rattle.sbp_journal.specs.declared.event.Action.TheVariants as actions
use Rattle.sbp_journal.specs.declared.event.Event.TheVariants as events
use Rattle.sbp_journal.specs.declared.note.Note.TheVariants as notes
use Rattle.sbp_journal.specs.Run.{Moment, asked, said}
use Rattle.sbp_laws.specs.Turns.{EachMoment}
use Rattle.sbp_target.specs.Nodes.{login_at}
use Rattle.sbp_world.specs.Histories.{history_of}
use Rattle.sbp_world.specs.Runs.{Run, after, beginning}
use Rattle.sbp_world.specs.Settling.{MayAll, after_all}
use Rattle.sbp_world.specs.Telling.{holder}
use Rattle.sbp_world.specs.Worlds.{WorldState, begun}
use Rattle.sbp_world.specs.Hosts.Runs.{IsRun, more_deliveries}
use Rattle.sbp_world.specs.Lists.FewLogins.{IsTameOf, IsTameOrFew}
use Rattle.sbp_world.specs.Lists.OwnLogins.{IsTame}

-- a line of an initiator asks for a login on a unit; at the start each that is ready has one on unit 0
abbrev pub asks_unit : Moment → (i unit : ℕ) → Bool
asks_unit (asked line (events.Act j (actions.Login own reconnect exclusive password))) i unit = (j == i) && (own == unit)
asks_unit (said (notes.Begin initiators ready)) i unit = (ready && nat_lt i initiators) && (unit == 0)
asks_unit moment i unit = false

-- one was asked for
abbrev pub is_asked_unit : List Moment → (i unit : ℕ) → Bool
is_asked_unit [] i unit = false
is_asked_unit (moment ∷ past) i unit = asks_unit moment i unit || is_asked_unit past i unit

-- one of so many initiators asked for it
pub record IsAskedUnit (past : List Moment) (n unit : ℕ) : Type 0 where
  pub i : ℕ
  pub inside : i < n
  pub asked : is_asked_unit past i unit ≡ true

-- Where no initiator injected packets, each login of the target is on a unit that one of them asked for. Where few logins were given, so that no ID of a login comes twice, each live login of an
-- initiator that injected none is on a unit that this one asked for.
pub record AreOnUnits (past : List Moment) (w : WorldState) : Type 0 where
  pub all : IsTame past → 0 < length w.initiators → (place : ℕ) (login : Login) → login_at w.target place ≡ Some login → IsAskedUnit past (length w.initiators) login.unit
  pub own : (i : ℕ) → i < length w.initiators → IsTameOf past i → (place : ℕ) (login : Login) → login_at w.target place ≡ Some login → is_live login ≡ true → (holder w place).initiator ≡ i → is_asked_unit past i login.unit ≡ true

-- So it is of each command that ran, of an initiator.
pub record IsRunOnUnit (past : List Moment) (n i unit : ℕ) : Type 0 where
  pub all : IsTame past → IsAskedUnit past n unit
  pub own : IsTameOf past i → is_asked_unit past i unit ≡ true

abbrev pub RunUnitAt : ℕ → Moment → List Moment → Type 0
RunUnitAt n (said (notes.Ran i list number unit cdb bytes check)) past = i < n → IsRunOnUnit past n i unit
RunUnitAt n moment past = Unit {0}

abbrev pub RunsOnUnits : ℕ → List Moment → Type 0
RunsOnUnits n past = EachMoment (RunUnitAt n) past

-- After every line of every run of a machine with a unit, at most four, and a medium for each; and behind each delivery of a line that delivers one packet after the other.
pub record LoginUnitsLaw : Type 0 where
  pub after_lines : (line : ℕ) (run : Run) → IsRun run → 0 < run.units → run.units ≤ 4 → length run.start.disks ≡ run.units → IsTameOrFew (history_of line run) → AreOnUnits (history_of line run) (after (beginning run) run.entries).world
  pub between : (line : ℕ) (run : Run) → IsRun run → 0 < run.units → run.units ≤ 4 → length run.start.disks ≡ run.units → (next : ℕ) (most : Option ℕ) (told : List (Option Told)) → MayAll told (begun (after (beginning run) run.entries)) → (let w = (after_all told (begun (after (beginning run) run.entries))).world in let now = map said w.fresh ++ asked next (more_deliveries most) ∷ history_of line run in IsTameOrFew now → AreOnUnits now w)

-- And so it is of the runs of commands.
pub record RunUnitsLaw : Type 0 where
  pub after_lines : (line : ℕ) (run : Run) → IsRun run → 0 < run.units → run.units ≤ 4 → length run.start.disks ≡ run.units → IsTameOrFew (history_of line run) → RunsOnUnits (length (after (beginning run) run.entries).world.initiators) (history_of line run)
  pub between : (line : ℕ) (run : Run) → IsRun run → 0 < run.units → run.units ≤ 4 → length run.start.disks ≡ run.units → (next : ℕ) (most : Option ℕ) (told : List (Option Told)) → MayAll told (begun (after (beginning run) run.entries)) → (let w = (after_all told (begun (after (beginning run) run.entries))).world in let now = map said w.fresh ++ asked next (more_deliveries most) ∷ history_of line run in IsTameOrFew now → RunsOnUnits (length w.initiators) now)
