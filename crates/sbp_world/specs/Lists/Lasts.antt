-- What the lists that are open stand on beside what is shown of them, as in Places, but for what is shown of every run: while an initiator is ahead of the
-- target, it is enough that an open list of it is the latest one, whose ORBs that have not ended stand in their slots then (Names). And a list whose write of
-- ORB_POINTER waits, in the target's generation, is the latest one: the next one would have begun in a later generation, which the target has not seen.
use Rattle.std.specs.Prelude.{◌≡◌, ◌<◌, ◌≤◌, ℕ, suc, true, List, ◌∷◌, ◌++◌, length, map, Option, Some, None}
use Rattle.rbc_disk.specs.Runs.{Told}
use Rattle.sbp_journal.specs.Run.{Moment, asked, said}
use Rattle.sbp_journal.specs.Transactions.{Sending}
use Rattle.sbp_journal.specs.Wire.{terms}
use Rattle.sbp_journal.specs.declared.note.Note.TheVariants as notes
use Rattle.sbp_laws.specs.Lists.{present_list, taken_at}
use Rattle.sbp_laws.specs.Terms.{ends, lists}
use Rattle.sbp_world.specs.Histories.{history_of}
use Rattle.sbp_world.specs.Runs.{Run, after, beginning}
use Rattle.sbp_world.specs.Settling.{MayAll, after_all}
use Rattle.sbp_world.specs.Telling.{holder}
use Rattle.sbp_world.specs.Worlds.{WorldState, begun}
use Rattle.sbp_world.specs.Hosts.Runs.{IsRun, more_deliveries}
use Rattle.sbp_world.specs.Pointers.Pointers.{pointed_list}
use Rattle.sbp_world.specs.Lists.Needs.{IsCalm, initiator_in, is_open_at}
use Rattle.sbp_world.specs.Lists.Opens.{IsPointedBy}
use Rattle.sbp_world.specs.Lists.Places.{AreListed, IsFirst, IsNamedFor}

pub record IsLast (past : List Moment) (w : WorldState) (i : ℕ) : Type 0 where
  pub named : (later earlier : List Moment) (serial : ℕ) (sent : Sending) (place address : ℕ) → later ++ said (notes.Got serial) ∷ earlier ≡ past → (terms earlier).sent serial ≡ Some sent → IsPointedBy sent i place address → IsNamedFor past earlier i serial address
  pub present : (place : ℕ) → place < 8 → is_open_at w place ≡ true → initiator_in w place ≡ i → (terms past).generation 0 ≡ (terms past).generation (suc i) → present_list past i ≡ (holder w place).list
  pub ahead : (place n : ℕ) → place < 8 → is_open_at w place ≡ true → initiator_in w place ≡ i → (terms past).generation 0 < (terms past).generation (suc i) → (holder w place).list ≡ Some n → suc n ≡ lists past i
  pub taken : (n k : ℕ) → ends past i n ≤ k → taken_at past i n k ≡ None

-- a list whose write waits: none of its ORBs ended
pub record IsStill (past : List Moment) (i n : ℕ) : Type 0 where
  pub none : ends past i n ≡ 0

pub record AreStill (past : List Moment) (i : ℕ) : Type 0 where
  pub first : (serial : ℕ) (sent : Sending) (place address : ℕ) → (terms past).sent serial ≡ Some sent → IsPointedBy sent i place address → IsFirst past i serial address
  pub waiting : (serial n : ℕ) (sent : Sending) → (terms past).sent serial ≡ Some sent → pointed_list past serial i ≡ Some n → sent.generation ≡ (terms past).generation 0 → (terms past).news serial ≡ 0 → IsStill past i n

abbrev pub AreLast : List Moment → WorldState → Type 0
AreLast past w = (i : ℕ) → i < length w.initiators → IsCalm past i → IsLast past w i × AreStill past i

-- So open lists are as the laws of lists need them: after every line of every run, and behind each delivery of a line that delivers one packet after the other.
pub record LastLaw : Type 0 where
  pub after_lines : (line : ℕ) (run : Run) → IsRun run → 0 < run.units → run.units ≤ 4 → length run.start.disks ≡ run.units → (let w = (after (beginning run) run.entries).world in AreLast (history_of line run) w → AreListed (history_of line run) w)
  pub between : (line : ℕ) (run : Run) → IsRun run → 0 < run.units → run.units ≤ 4 → length run.start.disks ≡ run.units → (next : ℕ) (most : Option ℕ) (told : List (Option Told)) → MayAll told (begun (after (beginning run) run.entries)) → (let w = (after_all told (begun (after (beginning run) run.entries))).world in let now = map said w.fresh ++ asked next (more_deliveries most) ∷ history_of line run in AreLast now w → AreListed now w)
