-- How the ORBs of the lists of initiators run and end, by the notes of a history (NCITS 325-1998, ordered execution). An ORB runs behind the end of the ORB
-- before it and before its own, with the command of its append, and with no data, or with as many of the first bytes of its data as its command asks
-- for. It runs at most once; and it ends good or with a check behind its run with that outcome alone, and as dummy, aborted or illegal without a run.
-- So it is of each initiator that injected no packets.
use Rattle.std.specs.Prelude.{◌≡◌, ◌⊎◌, ◌<◌, ◌≤◌, ℕ, Bool, true, false, List, [], ◌∷◌, ◌++◌, length, map, take, Option, Some}
use Rattle.rbc_disk.specs.Runs.{Told, data_length_of}
use Rattle.sbp_journal.specs.Run.{Moment, asked, said}
use Rattle.sbp_journal.specs.declared.event.Cmd.{Cmd}
use Rattle.sbp_journal.specs.declared.event.Event.{Event}
use Rattle.sbp_journal.specs.declared.note.Note.TheVariants.{Ended, Ran}
use Rattle.sbp_laws.specs.ExecutionLaw.{MayEndWith}
use Rattle.sbp_laws.specs.Lawful.{injectors}
use Rattle.sbp_laws.specs.Lists.{command_at}
use Rattle.sbp_laws.specs.OrderLaw.{IsNextEnd, IsOpen}
use Rattle.sbp_laws.specs.Terms.{ends, ran_status, runs}
use Rattle.sbp_laws.specs.Turns.{EachMoment}
use Rattle.sbp_world.specs.Histories.{history_of}
use Rattle.sbp_world.specs.Runs.{Run, after, beginning}
use Rattle.sbp_world.specs.Settling.{MayAll, after_all}
use Rattle.sbp_world.specs.Worlds.{WorldState, begun}
use Rattle.sbp_world.specs.Agents.Management.Terms.{DeliversMore}
use Rattle.sbp_world.specs.Hosts.Runs.{IsRun}
use Rattle.sbp_world.specs.Lists.Needs.{IsCalm, OpenBefore, OpenBetween, initiator_in, is_open_at}

-- ---- runs and ends in order
-- The ORB that runs is the next one of its list.
pub record IsNextRun (past : List Moment) (i n k : ℕ) (cdb bytes : List ℕ) : Type 0 where
  pub turn : IsNextEnd past i n k
  pub cmd : Cmd
  pub command : command_at past i n k ≡ Some cmd
  pub cdb_is : cdb ≡ cmd.cdb
  pub carried : bytes ≡ take (length bytes) cmd.payload
  pub whole : (bytes ≡ []) ⊎ (length bytes ≡ data_length_of false cdb)

abbrev pub ListsAt : (ℕ → Bool) → Moment → List Moment → Type 0
ListsAt wild (said (Ran i (Some n) (Some k) unit cdb bytes check)) past = wild i ≡ false → IsNextRun past i n k cdb bytes
ListsAt wild (said (Ended i (Some n) (Some k) status)) past = wild i ≡ false → IsNextEnd past i n k
ListsAt wild moment past = Unit {0}

abbrev pub ListsLaw : (ℕ → Bool) → List Moment → Type 0
ListsLaw wild past = EachMoment (ListsAt wild) past

-- After every line of every run, and behind each delivery of a line that may follow, where lists were open as they should be before in this run.
pub record ListsRunLaw : Type 0 where
  pub after_lines : (line : ℕ) (run : Run) → IsRun run → 0 < run.units → run.units ≤ 4 → length run.start.disks ≡ run.units → OpenBefore line run run.entries → ListsLaw (injectors (history_of line run)) (history_of line run)
  pub between : (line : ℕ) (run : Run) → IsRun run → 0 < run.units → run.units ≤ 4 → length run.start.disks ≡ run.units → (next : ℕ) (event : Event) → DeliversMore event → (told : List (Option Told)) → MayAll told (begun (after (beginning run) run.entries)) → OpenBetween line run next event told → (let w = (after_all told (begun (after (beginning run) run.entries))).world in let now = map said w.fresh ++ asked next event ∷ history_of line run in ListsLaw (injectors now) now)

-- ---- runs once, and ends by how it ran
abbrev pub RunsAt : (ℕ → Bool) → Moment → List Moment → Type 0
RunsAt wild (said (Ran i (Some n) (Some k) unit cdb bytes check)) past = wild i ≡ false → runs past i n k ≡ 0
RunsAt wild (said (Ended i (Some n) (Some k) status)) past = wild i ≡ false → MayEndWith status (ran_status past i n k)
RunsAt wild moment past = Unit {0}

abbrev pub RunsLaw : (ℕ → Bool) → List Moment → Type 0
RunsLaw wild past = EachMoment (RunsAt wild) past

-- It stands on this: an ORB that ran, of a list that was not cut and of which none has ended, is at an agent that has the list open.
pub record Unrun (past : List Moment) (w : WorldState) : Type 0 where
  pub held : (i n : ℕ) → IsCalm past i → IsOpen past i n → ends past i n ≡ 0 → ((place : ℕ) → place < 8 → is_open_at w place ≡ true → initiator_in w place ≡ i → ⊥) → runs past i n 0 ≡ 0

pub record UnrunLaw : Type 0 where
  pub after_lines : (line : ℕ) (run : Run) → IsRun run → 0 < run.units → run.units ≤ 4 → length run.start.disks ≡ run.units → OpenBefore line run run.entries → Unrun (history_of line run) (after (beginning run) run.entries).world
  pub between : (line : ℕ) (run : Run) → IsRun run → 0 < run.units → run.units ≤ 4 → length run.start.disks ≡ run.units → (next : ℕ) (event : Event) → DeliversMore event → (told : List (Option Told)) → MayAll told (begun (after (beginning run) run.entries)) → OpenBetween line run next event told → (let w = (after_all told (begun (after (beginning run) run.entries))).world in Unrun (map said w.fresh ++ asked next event ∷ history_of line run) w)

pub record RunsRunLaw : Type 0 where
  pub after_lines : (line : ℕ) (run : Run) → IsRun run → 0 < run.units → run.units ≤ 4 → length run.start.disks ≡ run.units → OpenBefore line run run.entries → RunsLaw (injectors (history_of line run)) (history_of line run)
  pub between : (line : ℕ) (run : Run) → IsRun run → 0 < run.units → run.units ≤ 4 → length run.start.disks ≡ run.units → (next : ℕ) (event : Event) → DeliversMore event → (told : List (Option Told)) → MayAll told (begun (after (beginning run) run.entries)) → OpenBetween line run next event told → (let w = (after_all told (begun (after (beginning run) run.entries))).world in let now = map said w.fresh ++ asked next event ∷ history_of line run in RunsLaw (injectors now) now)
