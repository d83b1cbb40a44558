-- What stays true of the ORBs of an initiator, in every run (NCITS 325-1998, ORBs in the memory of the initiator). An ORB that was appended keeps
-- its slot, its command, what it asks for and the node ID of its append for good, and one that was made a dummy stays one. Of no list fewer ORBs
-- are appended or linked later. So a next pointer that was the address of the ORB behind one is so for good.
use Rattle.std.specs.Prelude.{◌≡◌, ◌<◌, ◌≤◌, ℕ, true, List, ◌∷◌, ◌++◌, map, Option}
use Rattle.orb_layout.specs.declared.pointer.OrbPointer.TheVariants.{At}
use Rattle.rbc_disk.specs.Runs.{Told}
use Rattle.sbp_journal.specs.Run.{Moment, asked, said}
use Rattle.sbp_laws.specs.Lists.{command_at, is_dummy, linked, slot_at}
use Rattle.sbp_laws.specs.Served.{id_as_prepared}
use Rattle.sbp_laws.specs.Terms.{appends, request_at}
use Rattle.sbp_world.specs.Histories.{history_of}
use Rattle.sbp_world.specs.Runs.{Run, after, beginning}
use Rattle.sbp_world.specs.Settling.{MayAll, after_all}
use Rattle.sbp_world.specs.Worlds.{begun}
use Rattle.sbp_world.specs.Hosts.Orbs.{next_of}
use Rattle.sbp_world.specs.Hosts.Runs.{IsRun, more_deliveries}

-- What a history says of the ORBs of an initiator stands in another one.
pub record Lasts (before past : List Moment) (i : ℕ) : Type 0 where
  pub appended : (n : ℕ) → appends before i n ≤ appends past i n
  pub linked_on : (n : ℕ) → linked before i n ≤ linked past i n
  -- no ORB is linked that was not appended
  pub linked_in : (n : ℕ) → linked before i n ≤ appends before i n
  pub slot : (n k : ℕ) → k < appends before i n → slot_at past i n k ≡ slot_at before i n k
  pub request : (n k : ℕ) → k < appends before i n → request_at past i n k ≡ request_at before i n k
  pub command : (n k : ℕ) → k < appends before i n → command_at past i n k ≡ command_at before i n k
  pub node : (n k : ℕ) → k < appends before i n → id_as_prepared past i n k ≡ id_as_prepared before i n k
  pub dummy : (n k : ℕ) → is_dummy before i n k ≡ true → is_dummy past i n k ≡ true
  pub next : (n k address : ℕ) → next_of before i n k ≡ At address → next_of past i n k ≡ At address

-- From each moment of a run on, to the end of its lines, and to the end of each delivery of a line that delivers one packet after the other.
pub record LastingLaw : Type 0 where
  pub lasts : (line : ℕ) (run : Run) → IsRun run → (i : ℕ) → i < run.initiators → (later before : List Moment) → later ++ before ≡ history_of line run → Lasts before (history_of line run) i
  pub between : (line : ℕ) (run : Run) → IsRun run → (next : ℕ) (most : Option ℕ) (told : List (Option Told)) → MayAll told (begun (after (beginning run) run.entries)) → (i : ℕ) → i < run.initiators → (later before : List Moment) → (let w = (after_all told (begun (after (beginning run) run.entries))).world in later ++ before ≡ map said w.fresh ++ asked next (more_deliveries most) ∷ history_of line run → Lasts before (map said w.fresh ++ asked next (more_deliveries most) ∷ history_of line run) i)
