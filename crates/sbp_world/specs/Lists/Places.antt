-- What the lists that are open stand on beside what is shown of them (Opens), at each place of a history between two turns, of an initiator that injected no
-- packets (NCITS 325-1998, ORB_POINTER, status block, bus reset). A write of ORB_POINTER of such an initiator is one that its host named for a list, and the
-- slot of its first ORB holds that ORB still as the target gets it. While the initiator is in the target's generation an open list is its present one;
-- and while it is ahead of the target, its latest one, whose ORBs that have not ended stand where they stood. No status is taken of an ORB that has not
-- ended. A write of ORB_POINTER has the address of the first ORB of its list; and while it was not taken as new, in the target's generation, its list has
-- no end. That an open list was not cut, nor one whose write waits, is shown: a list that is cut was open before (CutLists), and a write is got once.
use Rattle.std.specs.Prelude.{◌≡◌, ◌<◌, ◌≤◌, ℕ, suc, true, false, List, ◌∷◌, ◌++◌, length, map, Option, Some, None, Ok}
use Rattle.async_packet.specs.Packet.{Packet}
use Rattle.bus_memory.specs.Windows.{slot_of}
use Rattle.command_agent.specs.Steps.{point_step}
use Rattle.label_table.specs.Layer.{judging_step, of_request}
use Rattle.orb_layout.specs.declared.ask.Ask.{Ask}
use Rattle.orb_layout.specs.declared.pointer.OrbPointer.{OrbPointer}
use Rattle.packet_store.specs.declared.sent.Sent.{Sent}
use Rattle.rbc_disk.specs.Runs.{Told}
use Rattle.sbp_journal.specs.Run.{Moment, asked, said}
use Rattle.sbp_journal.specs.Transactions.{Sending}
use Rattle.sbp_journal.specs.Wire.{terms}
use Rattle.sbp_journal.specs.declared.note.Note.TheVariants as notes
use Rattle.sbp_laws.specs.CarriedBytes.{address_of}
use Rattle.sbp_laws.specs.Lists.{linked, named_in, orb, prepared_in, present_list, slot_at, taken_at}
use Rattle.sbp_laws.specs.Terms.{ends, lists}
use Rattle.sbp_target.specs.Serving.{is_barred}
use Rattle.target_base.specs.declared.address.Access.TheVariants as accesses
use Rattle.target_base.specs.declared.address.Demand.TheVariants as demands
use Rattle.target_base.specs.Addresses.{demand_of}
use Rattle.sbp_world.specs.Histories.{history_of}
use Rattle.sbp_world.specs.Runs.{Run, after, beginning}
use Rattle.sbp_world.specs.Settling.{MayAll, after_all}
use Rattle.sbp_world.specs.Telling.{holder}
use Rattle.sbp_world.specs.Worlds.{WorldState, begun}
use Rattle.sbp_world.specs.Hosts.Runs.{IsRun, more_deliveries}
use Rattle.sbp_world.specs.Pointers.Pointers.{pointed_list}
use Rattle.sbp_world.specs.Lists.Needs.{IsCalm, IsFor, IsOpenAt, IsPointed, initiator_in, is_open_at, machine_at}
use Rattle.sbp_world.specs.Lists.Opens.{IsPointedBy}

-- the list for which a write was named, whose first ORB it names as it is got
pub record IsNamedFor (past earlier : List Moment) (i serial address : ℕ) : Type 0 where
  pub list : ℕ
  pub pointed : pointed_list past serial i ≡ Some list
  pub there : named_in earlier i (slot_of address) ≡ Some (orb list 0)

-- so it is of each of its writes that was got
abbrev pub AreNamedFor : List Moment → ℕ → Type 0
AreNamedFor past i = (later earlier : List Moment) (serial : ℕ) (sent : Sending) (place address : ℕ) → later ++ said (notes.Got serial) ∷ earlier ≡ past → (terms earlier).sent serial ≡ Some sent → IsPointedBy sent i place address → IsNamedFor past earlier i serial address

-- an ORB stands in its slot
pub record StandsThere (past : List Moment) (i n k : ℕ) : Type 0 where
  pub small : slot_at past i n k < 32
  pub is : prepared_in past i (slot_at past i n k) ≡ Some (orb n k)

-- the latest list of an initiator, of which the ORBs stand that have not ended
pub record IsStanding (past : List Moment) (i n : ℕ) : Type 0 where
  pub latest : suc n ≡ lists past i
  pub stands : (k : ℕ) → ends past i n ≤ k → k < linked past i n → StandsThere past i n k

pub record IsPlaced (past : List Moment) (w : WorldState) (i : ℕ) : Type 0 where
  pub named : (later earlier : List Moment) (serial : ℕ) (sent : Sending) (place address : ℕ) → later ++ said (notes.Got serial) ∷ earlier ≡ past → (terms earlier).sent serial ≡ Some sent → IsPointedBy sent i place address → IsNamedFor past earlier i serial address
  pub present : (place : ℕ) → place < 8 → is_open_at w place ≡ true → initiator_in w place ≡ i → (terms past).generation 0 ≡ (terms past).generation (suc i) → present_list past i ≡ (holder w place).list
  pub ahead : (place n : ℕ) → place < 8 → is_open_at w place ≡ true → initiator_in w place ≡ i → (terms past).generation 0 < (terms past).generation (suc i) → (holder w place).list ≡ Some n → IsStanding past i n
  pub taken : (n k : ℕ) → ends past i n ≤ k → taken_at past i n k ≡ None

-- the list for which a write was named, whose first ORB has this address
pub record IsFirst (past : List Moment) (i serial address : ℕ) : Type 0 where
  pub list : ℕ
  pub pointed : pointed_list past serial i ≡ Some list
  pub address_is : address ≡ address_of past i list 0

-- a list whose write waits: none of its ORBs ended
pub record IsWaiting (past : List Moment) (i n : ℕ) : Type 0 where
  pub none : ends past i n ≡ 0
  pub ahead : (terms past).generation 0 < (terms past).generation (suc i) → IsStanding past i n

pub record AreWaiting (past : List Moment) (i : ℕ) : Type 0 where
  pub first : (serial : ℕ) (sent : Sending) (place address : ℕ) → (terms past).sent serial ≡ Some sent → IsPointedBy sent i place address → IsFirst past i serial address
  pub waiting : (serial n : ℕ) (sent : Sending) → (terms past).sent serial ≡ Some sent → pointed_list past serial i ≡ Some n → sent.generation ≡ (terms past).generation 0 → (terms past).news serial ≡ 0 → IsWaiting past i n

abbrev pub ArePlaced : List Moment → WorldState → Type 0
ArePlaced past w = (i : ℕ) → i < length w.initiators → IsCalm past i → IsPlaced past w i × AreWaiting past i

-- ---- so it is as the laws of lists need it
pub record AreListed (past : List Moment) (w : WorldState) : Type 0 where
  pub listed : (place : ℕ) → place < 8 → is_open_at w place ≡ true → IsCalm past (initiator_in w place) → IsOpenAt past w place
  pub one : (place other : ℕ) → place < 8 → other < 8 → is_open_at w place ≡ true → is_open_at w other ≡ true → IsCalm past (initiator_in w place) → initiator_in w other ≡ initiator_in w place → other ≡ place
  pub points : (sent : Sent) → IsFor w sent → (packet : Packet) → (judging_step w.target.layer sent.generation sent.bytes).0 ≡ of_request packet → is_barred w.target packet ≡ false → (place : ℕ) (pointer : OrbPointer) (ask : Ask) → demand_of (length w.target.rom) packet ≡ demands.Agent place (accesses.Point pointer) → (point_step (machine_at w place) pointer).0 ≡ Ok ask → IsCalm past (initiator_in w place) → IsPointed past w place pointer

-- After every line of every run of a machine with a unit, at most four, and a medium for each; and behind each delivery of a line that delivers one packet
-- after the other.
pub record ListedLaw : Type 0 where
  pub after_lines : (line : ℕ) (run : Run) → IsRun run → 0 < run.units → run.units ≤ 4 → length run.start.disks ≡ run.units → (let w = (after (beginning run) run.entries).world in ArePlaced (history_of line run) w → AreListed (history_of line run) w)
  pub between : (line : ℕ) (run : Run) → IsRun run → 0 < run.units → run.units ≤ 4 → length run.start.disks ≡ run.units → (next : ℕ) (most : Option ℕ) (told : List (Option Told)) → MayAll told (begun (after (beginning run) run.entries)) → (let w = (after_all told (begun (after (beginning run) run.entries))).world in let now = map said w.fresh ++ asked next (more_deliveries most) ∷ history_of line run in ArePlaced now w → AreListed now w)
