-- Where an ORB of an initiator stands, in every run (NCITS 325-1998, ORBs in the memory of the initiator): an ORB of its latest list of which no status was
-- taken is the one that was prepared last in its slot, one of 32; and it is the one that the bus has for its address at a place of that initiator.
use Rattle.std.specs.Prelude.{◌≡◌, ◌<◌, ◌≤◌, ℕ, suc, List, ◌∷◌, ◌++◌, length, map, Option, Some, None}
use Rattle.rbc_disk.specs.Runs.{Told}
use Rattle.sbp_journal.specs.Run.{Moment, asked, said}
use Rattle.sbp_journal.specs.declared.event.Event.{Event}
use Rattle.sbp_laws.specs.Lists.{orb, prepared_in, slot_at, taken_at}
use Rattle.sbp_laws.specs.Terms.{appends, lists}
use Rattle.sbp_world.specs.Histories.{history_of}
use Rattle.sbp_world.specs.Runs.{Run, after, beginning}
use Rattle.sbp_world.specs.Settling.{MayAll, after_all}
use Rattle.sbp_world.specs.Worlds.{WorldState, begun}
use Rattle.sbp_world.specs.Agents.Management.Terms.{DeliversMore}
use Rattle.sbp_world.specs.Hosts.Runs.{IsRun}
use Rattle.sbp_world.specs.Lists.Needs.{IsNamed, initiator_in}

pub record Stands (past : List Moment) (i n k : ℕ) : Type 0 where
  pub last : prepared_in past i (slot_at past i n k) ≡ Some (orb n k)
  pub small : slot_at past i n k < 32

pub record AreNamed (past : List Moment) (w : WorldState) : Type 0 where
  pub stands : (i n k : ℕ) → suc n ≡ lists past i → k < appends past i n → taken_at past i n k ≡ None → Stands past i n k
  pub named : (place n k : ℕ) → initiator_in w place < length w.initiators → suc n ≡ lists past (initiator_in w place) → k < appends past (initiator_in w place) n → taken_at past (initiator_in w place) n k ≡ None → IsNamed past w place n k

-- After every line of every run, and behind each delivery of a line that may follow.
pub record NamesLaw : Type 0 where
  pub after_lines : (line : ℕ) (run : Run) → IsRun run → 0 < run.units → run.units ≤ 4 → length run.start.disks ≡ run.units → AreNamed (history_of line run) (after (beginning run) run.entries).world
  pub between : (line : ℕ) (run : Run) → IsRun run → 0 < run.units → run.units ≤ 4 → length run.start.disks ≡ run.units → (next : ℕ) (event : Event) → DeliversMore event → (told : List (Option Told)) → MayAll told (begun (after (beginning run) run.entries)) → (let w = (after_all told (begun (after (beginning run) run.entries))).world in AreNamed (map said w.fresh ++ asked next event ∷ history_of line run) w)
