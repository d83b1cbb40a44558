-- With which statuses the ORBs of an initiator end where no line aborts an ORB and none makes one a dummy (NCITS 325-1998, task management and dummy ORBs): where no initiator injected packets, none ends as
-- aborted; and where an initiator that injected none made no dummy, none of its ORBs ends as dummy.
use Rattle.std.specs.Prelude.{◌≡◌, ◌≤◌, ◌<◌, ℕ, false, List, [], ◌∷◌, ◌++◌, map, length, Option, Some}
use Rattle.orb_layout.specs.declared.status.StatusKind.TheVariants as kinds
use Rattle.rbc_disk.specs.Runs.{Told}
use Rattle.sbp_journal.specs.declared.event.Action.TheVariants as actions
use Rattle.sbp_journal.specs.declared.event.Event.{Event}
use Rattle.sbp_journal.specs.declared.event.Event.TheVariants as events
use Rattle.sbp_journal.specs.declared.note.Note.TheVariants as notes
use Rattle.sbp_journal.specs.Run.{Moment, asked, said}
use Rattle.sbp_laws.specs.Lists.{is_dummy}
use Rattle.sbp_laws.specs.Turns.{EachMoment}
use Rattle.sbp_world.specs.Histories.{history_of}
use Rattle.sbp_world.specs.Runs.{Run, after, beginning}
use Rattle.sbp_world.specs.Settling.{MayAll, after_all}
use Rattle.sbp_world.specs.Worlds.{begun}
use Rattle.sbp_world.specs.Hosts.Runs.{IsRun, more_deliveries}
use Rattle.sbp_world.specs.Lists.FewLogins.{IsTameOrFew}
use Rattle.sbp_world.specs.Lists.Needs.{IsCalm}
use Rattle.sbp_world.specs.Lists.OwnLogins.{IsTame}

-- ---- lines that abort no ORB
abbrev pub AbortsNone : Event → Type 0
AbortsNone (events.Act i (actions.Abort k)) = ⊥
AbortsNone event = Unit {0}

abbrev pub NoneAborts : List Moment → Type 0
NoneAborts [] = Unit {0}
NoneAborts (asked line event ∷ past) = AbortsNone event × NoneAborts past
NoneAborts (said note ∷ past) = NoneAborts past

-- ---- an ORB that ends
abbrev pub NotAbortedAt : Moment → List Moment → Type 0
NotAbortedAt (said (notes.Ended i list number kinds.Aborted)) past = ⊥
NotAbortedAt moment past = Unit {0}

abbrev pub NoneAborted : List Moment → Type 0
NoneAborted past = EachMoment NotAbortedAt past

-- After every line of every run of a machine with a unit, at most four, and a medium for each; and behind each delivery of a line that delivers one packet after the other.
pub record NoneAbortedLaw : Type 0 where
  pub after_lines : (line : ℕ) (run : Run) → IsRun run → 0 < run.units → run.units ≤ 4 → length run.start.disks ≡ run.units → IsTame (history_of line run) → NoneAborts (history_of line run) → NoneAborted (history_of line run)
  pub between : (line : ℕ) (run : Run) → IsRun run → 0 < run.units → run.units ≤ 4 → length run.start.disks ≡ run.units → (next : ℕ) (most : Option ℕ) (told : List (Option Told)) → MayAll told (begun (after (beginning run) run.entries)) → (let now = map said (after_all told (begun (after (beginning run) run.entries))).world.fresh ++ asked next (more_deliveries most) ∷ history_of line run in IsTame now → NoneAborts now → NoneAborted now)

-- ---- dummies
-- an initiator made none of its ORBs a dummy
abbrev pub NoneDummied : List Moment → ℕ → Type 0
NoneDummied past i = (n k : ℕ) → is_dummy past i n k ≡ false

abbrev pub NotDummyAt : ℕ → Moment → List Moment → Type 0
NotDummyAt i (said (notes.Ended j (Some n) (Some k) kinds.Dummy)) past = j ≡ i → ⊥
NotDummyAt i moment past = Unit {0}

-- none of its ORBs ended as one
abbrev pub NoneEndsDummy : List Moment → ℕ → Type 0
NoneEndsDummy past i = EachMoment (NotDummyAt i) past

-- of an initiator that injected no packets
pub record NoneDummyLaw : Type 0 where
  pub after_lines : (line : ℕ) (run : Run) → IsRun run → 0 < run.units → run.units ≤ 4 → length run.start.disks ≡ run.units → IsTameOrFew (history_of line run) → (i : ℕ) → i < run.initiators → IsCalm (history_of line run) i → NoneDummied (history_of line run) i → NoneEndsDummy (history_of line run) i
  pub between : (line : ℕ) (run : Run) → IsRun run → 0 < run.units → run.units ≤ 4 → length run.start.disks ≡ run.units → (next : ℕ) (most : Option ℕ) (told : List (Option Told)) → MayAll told (begun (after (beginning run) run.entries)) → (let now = map said (after_all told (begun (after (beginning run) run.entries))).world.fresh ++ asked next (more_deliveries most) ∷ history_of line run in IsTameOrFew now → (i : ℕ) → i < run.initiators → IsCalm now i → NoneDummied now i → NoneEndsDummy now i)
