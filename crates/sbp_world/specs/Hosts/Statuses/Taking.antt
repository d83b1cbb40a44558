-- Which statuses an initiator takes, in every run (NCITS 325-1998, status block). As it gets a block write to a FIFO that spells a status block for one of
-- its ORBs that waits, the status is taken in that delivery, and no status is taken otherwise. So the ORB whose status is taken waited, and
-- of no ORB a status is taken twice.
use Rattle.std.specs.Prelude.{◌≡◌, ◌<◌, ◌≤◌, ◌⊎◌, ℕ, suc, ◌==◌, ◌||◌, Bool, true, false, List, ◌∷◌, ◌++◌, map, Option, Some, IsSomeAnd, Ok}
use Rattle.std.specs.List.{filter}
use Rattle.bus_memory.specs.declared.window.Window.TheVariants as windows
use Rattle.bus_memory.specs.Windows.{start}
use Rattle.orb_layout.specs.declared.status.StatusKind.{StatusKind}
use Rattle.orb_layout.specs.StatusBlocks.{read_block}
use Rattle.rbc_disk.specs.Runs.{Told}
use Rattle.sbp_journal.specs.Addresses.{Access}
use Rattle.sbp_journal.specs.Run.{Moment, asked, said}
use Rattle.sbp_journal.specs.Wire.{terms}
use Rattle.sbp_journal.specs.declared.note.Note.TheVariants as notes
use Rattle.sbp_laws.specs.Hosts.{Host, host_at}
use Rattle.sbp_laws.specs.Lists.{last_got, slot_at, waits_in}
use Rattle.sbp_laws.specs.Packets.{access_at, receiver_in}
use Rattle.sbp_laws.specs.StatusLaw.{Taking, fifo_of, takings_due, takings_in}
use Rattle.sbp_laws.specs.Terms.{takes}
use Rattle.sbp_laws.specs.Turns.{EachMoment, EachTurn, Turn}
use Rattle.sbp_world.specs.Histories.{history_of}
use Rattle.sbp_world.specs.Runs.{Run, after, beginning}
use Rattle.sbp_world.specs.Settling.{MayAll, after_all}
use Rattle.sbp_world.specs.Worlds.{begun}
use Rattle.sbp_world.specs.Hosts.Runs.{IsRun, more_deliveries}

-- ---- each status block for an ORB that waits is taken

-- the takings of one initiator
abbrev pub of_one : ℕ → List Taking → List Taking
of_one i takings = filter (λ taking. i == taking.initiator) takings

-- In a turn an initiator takes exactly the statuses that are due: none where the turn does not begin with a packet that it got.
abbrev pub TakesDue : ℕ → Turn → Type 0
TakesDue i t = of_one i (takings_in t.rest) ≡ of_one i (takings_due t t.start)

-- ---- a status that is taken

-- the FIFO of a place of management
abbrev pub is_place_fifo : ℕ → Bool
is_place_fifo offset = (offset == 0x12002000) || (offset == 0x12002020)

-- A block write to the FIFO of an initiator's latest login, or to that of a place of management, whose bytes spell a status with the address of an ORB.
pub record Spells (access : Access) (host : Host) (address : ℕ) (status : StatusKind) : Type 0 where
  pub is_write : access.is_write ≡ true
  pub is_block : access.is_block ≡ true
  pub goes : (access.offset ≡ fifo_of host) ⊎ (is_place_fifo access.offset ≡ true)
  pub src : ℕ
  pub spells : read_block false access.payload ≡ Ok (record { src = src; kind = status; orb = address })

-- The status of an ORB is taken right behind the note that its initiator got a packet: it waits, none of it was taken before, and that packet spells the
-- status with the address of its slot.
pub record IsTakenBy (past : List Moment) (i n k : ℕ) (status : StatusKind) : Type 0 where
  pub before : List Moment
  pub behind : past ≡ said (notes.Got (last_got past)) ∷ before
  pub to_it : receiver_in ((terms past).sent (last_got past)) ≡ Some (suc i)
  pub once : takes past i n k ≡ 0
  pub waits : waits_in past i n k ≡ true
  pub written : IsSomeAnd (access_at (terms past) (last_got past)) (λ access. Spells access (host_at past i) (start (windows.Orb (slot_at past i n k))) status)

abbrev pub TakenOf : ℕ → Moment → List Moment → Type 0
TakenOf i (said (notes.Taken j n k status answer)) past = (i == j) ≡ true → IsTakenBy past i n k status
TakenOf i moment past = Unit {0}

-- ---- the law

-- What a history says of the statuses that an initiator takes.
pub record Takings (past : List Moment) (i : ℕ) : Type 0 where
  pub each : EachTurn (TakesDue i) past
  pub taken : EachMoment (TakenOf i) past
  pub once : (n k : ℕ) → takes past i n k ≤ 1

-- After each line of a run, and behind each delivery of a line that delivers one packet after the other; of an initiator that injects packets, too.
pub record TakingLaw : Type 0 where
  pub takings : (line : ℕ) (run : Run) → IsRun run → (i : ℕ) → i < run.initiators → Takings (history_of line run) i
  pub between : (line : ℕ) (run : Run) → IsRun run → (next : ℕ) (most : Option ℕ) (told : List (Option Told)) → MayAll told (begun (after (beginning run) run.entries)) → (i : ℕ) → i < run.initiators → (let w = (after_all told (begun (after (beginning run) run.entries))).world in Takings (map said w.fresh ++ asked next (more_deliveries most) ∷ history_of line run) i)
