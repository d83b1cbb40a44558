-- No status of a list is taken behind one that is failed or illegal (NCITS 325-1998, status block), by an initiator that injected no packets: the agent of the list is dead behind the ORB of that one.
use Rattle.std.specs.Prelude.{◌≡◌, ◌==◌, ◌<◌, ◌≤◌, ℕ, Bool, true, false, List, length}
use Rattle.sbp_journal.specs.Run.{Moment, said}
use Rattle.sbp_journal.specs.declared.note.Note.TheVariants as notes
use Rattle.sbp_laws.specs.OrderLaw.{OrderLaw}
use Rattle.sbp_laws.specs.StatusLaw.{TakenAt}
use Rattle.sbp_laws.specs.Turns.{EachMoment}
use Rattle.sbp_world.specs.Histories.{history_of}
use Rattle.sbp_world.specs.Runs.{Run}
use Rattle.sbp_world.specs.Hosts.Runs.{IsRun}
use Rattle.sbp_world.specs.Lists.Faults.{EndsAlive}
use Rattle.sbp_world.specs.Lists.FewLogins.{IsTameOrFew}
use Rattle.sbp_world.specs.Lists.Needs.{IsCalm}
use Rattle.sbp_world.specs.Lists.TakenTurns.{TakesInOrder, is_failed}

-- each status that initiator i takes is of a list of which none that it took was failed or illegal
abbrev pub TakesAlive : ℕ → Moment → List Moment → Type 0
TakesAlive i (said (notes.Taken j n k status answer)) past = (i == j) ≡ true → is_failed past i n ≡ false
TakesAlive i moment past = Unit {0}

-- So it is in a history of which the laws of lists hold, where no ORB ends behind one that ended so, and the statuses of a list are taken in the order of its ORBs.
abbrev pub TakesAliveLaw : Type 0
TakesAliveLaw =
    (wild : ℕ → Bool) (i : ℕ) → wild i ≡ false → (past : List Moment) → OrderLaw wild past → EachMoment (TakenAt wild) past → EachMoment (EndsAlive i) past → EachMoment (TakesInOrder i) past → EachMoment (TakesAlive i) past

-- So it is after the lines of every run in which no initiator injected packets, or few logins were given, of the initiators that injected none.
pub record AliveTakesLaw : Type 0 where
  pub takes : (line : ℕ) (run : Run) → IsRun run → 0 < run.units → run.units ≤ 4 → length run.start.disks ≡ run.units → IsTameOrFew (history_of line run) → (i : ℕ) → i < run.initiators → IsCalm (history_of line run) i → EachMoment (TakesInOrder i) (history_of line run) → EachMoment (TakesAlive i) (history_of line run)

-- ---- both
-- An initiator takes the statuses of a list in the order of its ORBs, without a gap, and none behind one that is failed or illegal.
pub record TakesInTurn (past : List Moment) (i : ℕ) : Type 0 where
  pub number : EachMoment (TakesInOrder i) past
  pub alive : EachMoment (TakesAlive i) past
