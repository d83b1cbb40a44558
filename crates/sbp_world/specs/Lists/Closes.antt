-- How lists come to be open as they should be in every run in which no initiator injected packets, or few logins were given, from place to place (NCITS 325-1998, command
-- block agents and linked lists of ORBs). It is enough that, at each place of such a run before which lists were so, an open list is the present one, or the latest one while its initiator
-- is ahead of the target; that no status is taken of an ORB that has not ended; and that an ORB whose next pointer is read again stands in its slot. That a write of
-- ORB_POINTER that was got was named for a list whose slot held its first ORB then, and that a list whose write waits has no end, is shown with these.
use Rattle.std.specs.Prelude.{◌≡◌, ◌<◌, ◌≤◌, ℕ, suc, true, List, ◌∷◌, ◌++◌, length, map, Option, Some, None}
use Rattle.command_agent.specs.declared.phase.Phase.TheVariants as phases
use Rattle.rbc_disk.specs.Disk.{Disk}
use Rattle.rbc_disk.specs.Runs.{Told}
use Rattle.sbp_journal.specs.Run.{Moment, asked, said}
use Rattle.sbp_journal.specs.Transactions.{Sending}
use Rattle.sbp_journal.specs.Wire.{terms}
use Rattle.sbp_journal.specs.declared.event.Event.{Event}
use Rattle.sbp_laws.specs.Lists.{present_list, taken_at}
use Rattle.sbp_laws.specs.Terms.{ends, lists}
use Rattle.sbp_world.specs.Histories.{history_of}
use Rattle.sbp_world.specs.Runs.{Run, after, beginning}
use Rattle.sbp_world.specs.Settling.{MayAll, after_all}
use Rattle.sbp_world.specs.Telling.{holder}
use Rattle.sbp_world.specs.Worlds.{WorldState, begun}
use Rattle.sbp_world.specs.Agents.Management.Terms.{DeliversMore}
use Rattle.sbp_world.specs.Hosts.Runs.{IsRun, more_deliveries}
use Rattle.sbp_world.specs.Lists.FewLogins.{IsTameOrFew}
use Rattle.sbp_world.specs.Lists.Needs.{IsCalm, IsNamed, OpenBefore, OpenBetween, OpenLists, initiator_in, is_open_at, machine_at}
use Rattle.sbp_world.specs.Lists.Opens.{IsPointedBy}
use Rattle.sbp_world.specs.Lists.Places.{AreNamedFor, IsFirst}

-- ---- the places of a run: after every line, and behind each delivery of a line that delivers one packet after the other
-- what holds at every place of every run
pub record Always (Q : List Moment → WorldState → Type 0) : Type 0 where
  pub after_lines : (line : ℕ) (run : Run) → IsRun run → 0 < run.units → run.units ≤ 4 → length run.start.disks ≡ run.units → Q (history_of line run) (after (beginning run) run.entries).world
  pub between : (line : ℕ) (run : Run) → IsRun run → 0 < run.units → run.units ≤ 4 → length run.start.disks ≡ run.units → (next : ℕ) (most : Option ℕ) (told : List (Option Told)) → MayAll told (begun (after (beginning run) run.entries)) → (let w = (after_all told (begun (after (beginning run) run.entries))).world in Q (map said w.fresh ++ asked next (more_deliveries most) ∷ history_of line run) w)

-- what holds at every place of a run before which lists were open as they should be
pub record Under (U : List Moment → WorldState → Type 0) : Type 0 where
  pub after_lines : (line : ℕ) (run : Run) → IsRun run → 0 < run.units → run.units ≤ 4 → length run.start.disks ≡ run.units → OpenBefore line run run.entries → U (history_of line run) (after (beginning run) run.entries).world
  pub between : (line : ℕ) (run : Run) → IsRun run → 0 < run.units → run.units ≤ 4 → length run.start.disks ≡ run.units → (next : ℕ) (most : Option ℕ) (told : List (Option Told)) → MayAll told (begun (after (beginning run) run.entries)) → OpenBetween line run next (more_deliveries most) told → (let w = (after_all told (begun (after (beginning run) run.entries))).world in U (map said w.fresh ++ asked next (more_deliveries most) ∷ history_of line run) w)

-- what holds at every such place, by what each unit's medium held at the start
pub record UnderFrom (U : List Disk → List Moment → WorldState → Type 0) : Type 0 where
  pub after_lines : (line : ℕ) (run : Run) → IsRun run → 0 < run.units → run.units ≤ 4 → length run.start.disks ≡ run.units → OpenBefore line run run.entries → U run.start.disks (history_of line run) (after (beginning run) run.entries).world
  pub between : (line : ℕ) (run : Run) → IsRun run → 0 < run.units → run.units ≤ 4 → length run.start.disks ≡ run.units → (next : ℕ) (most : Option ℕ) (told : List (Option Told)) → MayAll told (begun (after (beginning run) run.entries)) → OpenBetween line run next (more_deliveries most) told → (let w = (after_all told (begun (after (beginning run) run.entries))).world in U run.start.disks (map said w.fresh ++ asked next (more_deliveries most) ∷ history_of line run) w)

-- where no initiator injected packets, or few logins were given
abbrev pub WhereTameOrFew : (List Moment → WorldState → Type 0) → List Moment → WorldState → Type 0
WhereTameOrFew U past w = IsTameOrFew past → U past w

-- ---- what is needed at a place
-- a write of ORB_POINTER has the address of the first ORB of its list
abbrev pub AreFirsts : List Moment → WorldState → Type 0
AreFirsts past w = (i : ℕ) → i < length w.initiators → IsCalm past i → (serial : ℕ) (sent : Sending) (place address : ℕ) → (terms past).sent serial ≡ Some sent → IsPointedBy sent i place address → IsFirst past i serial address

-- where the writes that were got were named for lists, a list that is open is the present one, or the latest one while its initiator is ahead of the target
pub record IsHere (past : List Moment) (w : WorldState) (i : ℕ) : Type 0 where
  pub present : (place : ℕ) → place < 8 → is_open_at w place ≡ true → initiator_in w place ≡ i → (terms past).generation 0 ≡ (terms past).generation (suc i) → present_list past i ≡ (holder w place).list
  pub ahead : (place n : ℕ) → place < 8 → is_open_at w place ≡ true → initiator_in w place ≡ i → (terms past).generation 0 < (terms past).generation (suc i) → (holder w place).list ≡ Some n → suc n ≡ lists past i

abbrev pub AreHere : List Moment → WorldState → Type 0
AreHere past w = (i : ℕ) → i < length w.initiators → IsCalm past i → AreNamedFor past i → IsHere past w i

-- no status is taken of an ORB that has not ended
abbrev pub AreUntaken : List Moment → WorldState → Type 0
AreUntaken past w = (i : ℕ) → i < length w.initiators → IsCalm past i → (n k : ℕ) → ends past i n ≤ k → taken_at past i n k ≡ None

-- an ORB whose next pointer is read again stands in its slot
abbrev pub AreBehind : List Moment → WorldState → Type 0
AreBehind past w = (place : ℕ) → place < 8 → (machine_at w place).phase ≡ phases.ReadingNext → IsCalm past (initiator_in w place) → (n k : ℕ) → (holder w place).list ≡ Some n → ends past (initiator_in w place) n ≡ suc k → IsNamed past w place n k

pub record PlacesLaw : Type 0 where
  pub here : Under (WhereTameOrFew AreHere)
  pub untaken : Under (WhereTameOrFew AreUntaken)
  pub behind : Under (WhereTameOrFew AreBehind)

-- ---- lists are open as they should be
-- after every line of every run, and behind each delivery of a line that may follow, where no initiator injected packets, or few logins were given
pub record OpenListsLaw : Type 0 where
  pub after_lines : (line : ℕ) (run : Run) → IsRun run → 0 < run.units → run.units ≤ 4 → length run.start.disks ≡ run.units → IsTameOrFew (history_of line run) → OpenLists (history_of line run) (after (beginning run) run.entries).world
  pub between : (line : ℕ) (run : Run) → IsRun run → 0 < run.units → run.units ≤ 4 → length run.start.disks ≡ run.units → (next : ℕ) (event : Event) → DeliversMore event → (told : List (Option Told)) → MayAll told (begun (after (beginning run) run.entries)) → (let w = (after_all told (begun (after (beginning run) run.entries))).world in let now = map said w.fresh ++ asked next event ∷ history_of line run in IsTameOrFew now → OpenLists now w)

-- They are so in every such run, where each place has what it needs; and where they are so in every such run, they were so before each place of it.
pub record ClosingLaw : Type 0 where
  pub closes : PlacesLaw → OpenListsLaw
  pub before : OpenListsLaw → (line : ℕ) (run : Run) → IsRun run → 0 < run.units → run.units ≤ 4 → length run.start.disks ≡ run.units → IsTameOrFew (history_of line run) → OpenBefore line run run.entries
  pub between : OpenListsLaw → (line : ℕ) (run : Run) → IsRun run → 0 < run.units → run.units ≤ 4 → length run.start.disks ≡ run.units → (next : ℕ) (event : Event) → DeliversMore event → (told : List (Option Told)) → MayAll told (begun (after (beginning run) run.entries)) → IsTameOrFew (map said (after_all told (begun (after (beginning run) run.entries))).world.fresh ++ asked next event ∷ history_of line run) → OpenBetween line run next event told
