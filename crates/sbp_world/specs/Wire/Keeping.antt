-- What each line of a world keeps: the run that the world stands for has the laws of the wire, those of the lines of the bus, and those of lists.
use Rattle.std.specs.Prelude.{◌≡◌, ◌≤◌, ◌<◌, ℕ, ◌+◌, ◌^◌, Bool, true, List, [], ◌∷◌, ◌++◌, map, length, Option}
use Rattle.std.specs.List.{AllByRecursion}
use Rattle.rbc_disk.specs.Held.{Held}
use Rattle.rbc_disk.specs.Runs.{Told}
use Rattle.sbp_journal.specs.declared.event.Event.{Event}
use Rattle.sbp_journal.specs.Run.{asked, said}
use Rattle.sbp_journal.specs.declared.event.Event.TheVariants as events
use Rattle.sbp_laws.specs.Budget.{Lossless, budget, most_deliveries}
use Rattle.sbp_laws.specs.CarriedLaw.{RunsWhereDue}
use Rattle.sbp_laws.specs.Completion.{CompletesByCount}
use Rattle.sbp_laws.specs.Lawful.{injectors}
use Rattle.sbp_laws.specs.OnTheBus.{FormedOnTheBus, LawfulOnTheBus}
use Rattle.sbp_laws.specs.Turns.{EachTurn}
use Rattle.sbp_world.specs.Completing.Deaths.{AreLegal}
use Rattle.sbp_world.specs.Completing.Done.{AllRungComplete}
use Rattle.sbp_world.specs.Forms.{AreTyped}
use Rattle.sbp_world.specs.Histories.{history_of}
use Rattle.sbp_world.specs.Lists.ListLaws.{HasListLaws}
use Rattle.sbp_world.specs.Lists.FewLogins.{FewLogins, IsTameOrFew}
use Rattle.sbp_world.specs.Lists.OwnLogins.{IsTame}
use Rattle.sbp_world.specs.Runs.{Run, StandsFor, entry, with_entry}
use Rattle.sbp_world.specs.Wire.History.{IsOfWire}
use Rattle.sbp_world.specs.Wire.Journal.{journal_run}
use Rattle.sbp_world.specs.Wire.Lines.{AreLines}
use Rattle.sbp_world.specs.Wire.States.{AreOpenLists, AreStates}
use Rattle.sbp_world.specs.Worlds.{Scene, WorldState}

-- A run is such as a script's: it has at most four initiators, a medium for each unit, fewer than 2^32 - 2 lines, and the lines have the
-- fields of a script's.
pub record IsLikeAScripts (run : Run) : Type 0 where
  pub few : run.initiators ≤ 4
  pub media : run.units ≡ length run.start.disks
  pub count : length run.entries + 2 < 2 ^ 32
  pub lines : AreLines run run.entries

-- The laws of a run whose first line has this number: its history has those of the wire, its journal those of the lines of the bus, and where
-- its notes are inside their types, as each line's are, each is determined by its text; where it
-- has one to four units, commands run in each turn exactly where they are due, those of any initiators; and where then no initiator injected packets or few logins were
-- given, its history has the laws of lists; and where no initiator injected packets, and there is one, it completes by a count. In up to 65,536 lines behind the first, few logins are given; and then, where besides the commands of the lines are
-- legal and no initiator injected packets, each rung ORB completes, behind each line.
pub record HasLaws (first : ℕ) (run : Run) : Type 0 where
  pub of_wire : IsOfWire (history_of first run)
  pub on_the_bus : FormedOnTheBus (injectors (history_of first run)) (journal_run first run)
  pub written : AllByRecursion AreTyped run.entries → LawfulOnTheBus (injectors (history_of first run)) (journal_run first run)
  pub due : 0 < run.units → run.units ≤ 4 → (wild : ℕ → Bool) → EachTurn (RunsWhereDue wild run.start.disks) (history_of first run)
  pub few_logins : 0 < run.units → run.units ≤ 4 → length run.entries ≤ 65536 → FewLogins (history_of first run)
  pub lists : 0 < run.units → run.units ≤ 4 → IsTameOrFew (history_of first run) → HasListLaws run.initiators run.start.disks (history_of first run)
  pub completes : 0 < run.initiators → 0 < run.units → run.units ≤ 4 → IsTame (history_of first run) → CompletesByCount (journal_run first run).entries
  pub rung : 0 < run.units → run.units ≤ 4 → IsTame (history_of first run) → FewLogins (history_of first run) → AreLegal (history_of first run) → AllRungComplete run.start.disks (journal_run first run).entries

-- A world and its media stand for a run, which has the laws where it is such as a script's. Where it has then one to four units, the terms of its journal are the states of the two ends of
-- this world; and where besides no initiator injected packets or few logins were given, the lists that are open are those of the places.
pub record StandsLawfully (run : Run) (s : Scene) : Type 0 where
  pub stands : StandsFor run s
  pub has_laws : (first : ℕ) → IsLikeAScripts run → HasLaws first run
  pub states : (first : ℕ) → IsLikeAScripts run → 0 < run.units → run.units ≤ 4 → AreStates run.start.disks (history_of first run) s
  pub open_lists : (first : ℕ) → IsLikeAScripts run → 0 < run.units → run.units ≤ 4 → IsTameOrFew (history_of first run) → AreOpenLists run.start.disks (history_of first run) s.world

-- A new world does so for the run before any line after `begin`, over any media.
abbrev pub BeginsLawfully : ℕ → Bool → ℕ → WorldState → Type 0
BeginsLawfully initiators ready units world =
    (start : Held) → StandsLawfully (record { initiators = initiators; ready = ready; units = units; start = start; entries = [] }) (record { world = world; media = start })

-- A run has one entry more, of this line and event, and the world stands for it.
pub record GoesOn (run : Run) (line : ℕ) (event : Event) (s : Scene) : Type 0 where
  pub told : List (Option Told)
  pub keeps : StandsLawfully (with_entry run (entry line event told s.world.fresh)) s

-- Each run that the world stood for goes on so by a line.
abbrev pub KeepsLaws : ℕ → Event → Scene → Scene → Type 0
KeepsLaws line event old new = (run : Run) → StandsFor run old → GoesOn run line event new

-- a `settle` is a line like the others
abbrev pub SettlesLawfully : ℕ → Scene → Scene → Type 0
SettlesLawfully line old new = KeepsLaws line events.Settle old new

-- ---- what a `settle` answers
-- A run may settle: it is such as a script's with a line more, of an initiator at least and one to four units; nobody injected packets in it, this line among its lines; it is lossless; and its budget is one that a line may deliver.
pub record MaySettle (first line : ℕ) (run : Run) (new : Scene) : Type 0 where
  pub like : IsLikeAScripts run
  pub count : length run.entries + 3 < 2 ^ 32
  pub some : 0 < run.initiators
  pub unit : 0 < run.units
  pub units : run.units ≤ 4
  pub tame : IsTame (map said new.world.fresh ++ asked line events.Settle ∷ history_of first run)
  pub lossless : Lossless (history_of first run)
  pub small : budget (history_of first run) ≤ most_deliveries

-- It answers true, behind each such run that the world stood for.
abbrev pub SettlesWhereItMay : ℕ → Bool → Scene → Scene → Type 0
SettlesWhereItMay line is_done old new = (run : Run) (first : ℕ) → StandsFor run old → MaySettle first line run new → is_done ≡ true
