-- On which buffer and with which data a command runs (NCITS 325-1998, command block agents, command block ORB and page tables), of an initiator that injected no packets. Behind the
-- response that brought the ORB the agent of its place turned to it, and has read since, one read behind the other: its page table, where the ORB has one, and its data. The
-- buffer by that table has the length of the append's; and the bytes with which the command runs are the payloads of those reads, joined in order; so they are too by all reads of the target, where the others begin
-- elsewhere than in the page table and the buffer of the ORB's slot.
use Rattle.std.specs.Prelude.{◌≡◌, ◌⊎◌, ◌<◌, ◌≤◌, ◌==◌, ℕ, Bool, false, if◌then◌else◌, List, [], ◌∷◌, ◌++◌, length, map, Option, Some, None, IsSomeAnd}
use Rattle.bus_memory.specs.declared.window.Window.TheVariants as windows
use Rattle.bus_memory.specs.Windows.{window_at}
use Rattle.command_agent.specs.Machine as agent
use Rattle.command_agent.specs.declared.step.Which.TheVariants.{Ahead, Main}
use Rattle.orb_layout.specs.declared.command.CommandOrb.{CommandOrb}
use Rattle.page_table.specs.Buffer.{bytes_of, chunks}
use Rattle.rbc_disk.specs.Disk.{Disk}
use Rattle.rbc_disk.specs.Runs.{Told}
use Rattle.sbp_journal.specs.Run.{Moment, asked, said}
use Rattle.sbp_journal.specs.Wire.{Terms, terms}
use Rattle.sbp_journal.specs.declared.event.Event.{Event}
use Rattle.sbp_journal.specs.declared.note.Note.TheVariants as notes
use Rattle.sbp_laws.specs.CarriedBytes.{Moved, address_of, buffer_in, joined, moved_by, orb_read, payload_at, read_by, reads_since}
use Rattle.sbp_laws.specs.Lawful.{injectors}
use Rattle.sbp_laws.specs.Lists.{slot_at}
use Rattle.sbp_laws.specs.Packets.{access_at, answered_at, receiver_in}
use Rattle.sbp_laws.specs.Targets.{Purpose, Target, for_agent, for_manager, for_nobody, is_serial, over, purpose_of, target_at}
use Rattle.sbp_laws.specs.Terms.{plan_of, request_at}
use Rattle.sbp_laws.specs.Turns.{EachMoment}
use Rattle.sbp_world.specs.Histories.{history_of}
use Rattle.sbp_world.specs.Runs.{Run, after, beginning}
use Rattle.sbp_world.specs.Settling.{MayAll, after_all}
use Rattle.sbp_world.specs.Worlds.{begun}
use Rattle.sbp_world.specs.Agents.Management.Terms.{DeliversMore}
use Rattle.sbp_world.specs.Hosts.Runs.{IsRun, more_deliveries}
use Rattle.sbp_world.specs.Lists.FewLogins.{IsTameOrFew}
use Rattle.sbp_world.specs.Lists.GotOnce.{NoneAgain}
use Rattle.sbp_world.specs.Lists.Needs.{OpenBefore, OpenBetween}
use Rattle.sbp_world.specs.Lists.OrbReads.{IsBrought}

-- ---- what the main transactions of the agent of a place brought
abbrev pub is_main_of : Purpose → ℕ → Bool
is_main_of (for_agent place Main) own = place == own
is_main_of (for_agent place Ahead) own = false
is_main_of for_manager own = false
is_main_of for_nobody own = false

abbrev pub main_moved : Terms → Target → (place serial : ℕ) → Option ℕ → List Moved
main_moved wire target place serial None = []
main_moved wire target place serial (Some request) =
    if is_main_of (purpose_of target request) place then moved_by (access_at wire request) (payload_at wire serial) else []

-- by a packet that is got behind this
abbrev pub main_read : List Disk → List Moment → (place serial : ℕ) → List Moved
main_read start past place serial =
    if is_serial (receiver_in ((terms past).sent serial)) 0
    then main_moved (terms past) (over (target_at start past)) place serial (answered_at (terms past) serial)
    else []

-- in later moments, behind those before, in order
abbrev pub own_reads : List Disk → (place : ℕ) → (later before : List Moment) → List Moved
own_reads start place [] before = []
own_reads start place (said (notes.Got serial) ∷ later) before = own_reads start place later before ++ main_read start (later ++ before) place serial
own_reads start place (moment ∷ later) before = own_reads start place later before

-- ---- other reads
-- what was moved begins not in the page table of a slot; and where it begins in its buffer, it is no bytes, as what is moved in answer to a write
pub record IsElsewhere (slot : ℕ) (one : Moved) : Type 0 where
  pub table : window_at one.offset ≡ Some (windows.Table slot) → ⊥
  pub buffer : window_at one.offset ≡ Some (windows.Buffer slot) → one.bytes ≡ []

-- all reads are an agent's own and others that begin elsewhere than in the slot of its ORB, in order
pub data AreBeside (slot : ℕ) : List Moved → List Moved → Type 0 where
  no_more : AreBeside slot [] []
  own_read : (one : Moved) (all own : List Moved) → AreBeside slot all own → AreBeside slot (one ∷ all) (one ∷ own)
  other_read : (one : Moved) (all own : List Moved) → IsElsewhere slot one → AreBeside slot all own → AreBeside slot (one ∷ all) own

-- all of them do
abbrev pub AllElsewhere : (slot : ℕ) → List Moved → Type 0
AllElsewhere slot [] = Unit {0}
AllElsewhere slot (one ∷ more) = IsElsewhere slot one × AllElsewhere slot more

-- what the target gets of an initiator by packets begins elsewhere
abbrev pub AreOthers : (i slot : ℕ) → (between before : List Moment) → Type 0
AreOthers i slot [] before = Unit {0}
AreOthers i slot (said (notes.Got serial) ∷ between) before =
    AllElsewhere slot (read_by (terms (between ++ before)) i serial (answered_at (terms (between ++ before)) serial)) × AreOthers i slot between before
AreOthers i slot (moment ∷ between) before = AreOthers i slot between before

-- or the main transaction of the agent of a place brought it
abbrev pub IsOwnOrOther : List Disk → List Moment → (i place slot serial : ℕ) → Type 0
IsOwnOrOther start past i place slot serial =
    (read_by (terms past) i serial (answered_at (terms past) serial) ≡ main_read start past place serial) ⊎ ((main_read start past place serial ≡ []) × AllElsewhere slot (read_by (terms past) i serial (answered_at (terms past) serial)))

abbrev pub AreOwnOrOthers : List Disk → (i place slot : ℕ) → (later before : List Moment) → Type 0
AreOwnOrOthers start i place slot [] before = Unit {0}
AreOwnOrOthers start i place slot (said (notes.Got serial) ∷ later) before =
    IsOwnOrOther start (later ++ before) i place slot serial × AreOwnOrOthers start i place slot later before
AreOwnOrOthers start i place slot (moment ∷ later) before = AreOwnOrOthers start i place slot later before

-- Then, where a response is not got again, what the target got of the initiator since is what the agent read, and others.
abbrev pub BesideLaw : Type 0
BesideLaw =
    (start : List Disk) (i place slot response : ℕ) (later between earlier : List Moment) → NoneAgain response later → NoneAgain response between → (let behind = said (notes.Got response) ∷ earlier in AreOthers i slot between behind → AreOwnOrOthers start i place slot later (between ++ behind) → AreBeside slot (reads_since (later ++ (between ++ behind)) i response) (own_reads start place later (between ++ behind)))

-- ---- a run
-- since the agent turned to the ORB, behind the response that brought it
pub record RunIsFed (start : List Disk) (past : List Moment) (i n k : ℕ) (bytes : List ℕ) : Type 0 where
  pub place : ℕ
  pub orb : CommandOrb
  pub brought : IsBrought start past place (address_of past i n k) orb
  pub later : List Moment
  pub between : List Moment
  pub is : later ++ (between ++ said (notes.Got brought.response) ∷ brought.earlier) ≡ past
  pub reads : List Moved
  pub reads_are : reads ≡ own_reads start place later (between ++ said (notes.Got brought.response) ∷ brought.earlier)
  pub size : IsSomeAnd (request_at past i n k) (λ request. bytes_of (buffer_in orb reads) ≡ (plan_of request.buffer).bytes)
  pub payloads : bytes ≡ joined (chunks (agent.limit_of orb) (buffer_in orb reads)) reads
  -- and so it is by all reads, where the others begin elsewhere
  pub size_beside : (all : List Moved) → AreBeside (slot_at past i n k) all reads → IsSomeAnd (request_at past i n k) (λ request. bytes_of (buffer_in orb all) ≡ (plan_of request.buffer).bytes)
  pub payloads_beside : (all : List Moved) → AreBeside (slot_at past i n k) all reads → bytes ≡ joined (chunks (agent.limit_of orb) (buffer_in orb all)) all

abbrev pub FedAt : (ℕ → Bool) → List Disk → Moment → List Moment → Type 0
FedAt wild start (said (notes.Ran i (Some n) (Some k) unit cdb bytes check)) past = wild i ≡ false → RunIsFed start past i n k bytes
FedAt wild start moment past = Unit {0}

abbrev pub RunsAreFed : (ℕ → Bool) → List Disk → List Moment → Type 0
RunsAreFed wild start past = EachMoment (FedAt wild start) past

-- After every line of every run, and behind each delivery of a line that may follow, where lists were open as they should be before in this run.
pub record RunsFedLaw : Type 0 where
  pub after_lines : (line : ℕ) (run : Run) → IsRun run → 0 < run.units → run.units ≤ 4 → length run.start.disks ≡ run.units → OpenBefore line run run.entries → RunsAreFed (injectors (history_of line run)) run.start.disks (history_of line run)
  pub between : (line : ℕ) (run : Run) → IsRun run → 0 < run.units → run.units ≤ 4 → length run.start.disks ≡ run.units → (next : ℕ) (event : Event) → DeliversMore event → (told : List (Option Told)) → MayAll told (begun (after (beginning run) run.entries)) → OpenBetween line run next event told → (let w = (after_all told (begun (after (beginning run) run.entries))).world in let now = map said w.fresh ++ asked next event ∷ history_of line run in RunsAreFed (injectors now) run.start.disks now)

-- ---- a run, by all that was got since the response
-- Where the others begin elsewhere, the buffer and the data are those by all that the target got of the initiator since. Whatever was got, the buffer of an ORB without a page table has the length of
-- the append's, and a command without a buffer runs with no data.
pub record RunIsSince (start : List Disk) (past : List Moment) (i n k : ℕ) (bytes : List ℕ) : Type 0 where
  pub fed : RunIsFed start past i n k bytes
  pub whole : (let behind = said (notes.Got fed.brought.response) ∷ fed.brought.earlier in let since = reads_since past i fed.brought.response in let orb = orb_read past fed.brought.response in AreOthers i (slot_at past i n k) fed.between behind → AreOwnOrOthers start i fed.place (slot_at past i n k) fed.later (fed.between ++ behind) → IsSomeAnd (request_at past i n k) (λ request. bytes_of (buffer_in orb since) ≡ (plan_of request.buffer).bytes) × (bytes ≡ joined (chunks (agent.limit_of orb) (buffer_in orb since)) since))
  pub plain : (let since = reads_since past i fed.brought.response in let orb = orb_read past fed.brought.response in orb.has_table ≡ false → IsSomeAnd (request_at past i n k) (λ request. bytes_of (buffer_in orb since) ≡ (plan_of request.buffer).bytes))
  pub empty : (let since = reads_since past i fed.brought.response in let orb = orb_read past fed.brought.response in orb.has_table ≡ false → orb.data_size ≡ 0 → bytes ≡ joined (chunks (agent.limit_of orb) (buffer_in orb since)) since)

-- of each initiator that is not among these
abbrev pub SinceAt : (ℕ → Bool) → List Disk → Moment → List Moment → Type 0
SinceAt wild start (said (notes.Ran i (Some n) (Some k) unit cdb bytes check)) past = wild i ≡ false → RunIsSince start past i n k bytes
SinceAt wild start moment past = Unit {0}

-- After every line of every run, and behind each delivery of a line that may follow, where no initiator injected packets, or few logins were given, and lists were open as they should be before in this run:
-- of each initiator that injected none.
pub record RunsSinceLaw : Type 0 where
  pub after_lines : (line : ℕ) (run : Run) → IsRun run → 0 < run.units → run.units ≤ 4 → length run.start.disks ≡ run.units → OpenBefore line run run.entries → IsTameOrFew (history_of line run) → EachMoment (SinceAt (injectors (history_of line run)) run.start.disks) (history_of line run)
  pub between : (line : ℕ) (run : Run) → IsRun run → 0 < run.units → run.units ≤ 4 → length run.start.disks ≡ run.units → (next : ℕ) (most : Option ℕ) (told : List (Option Told)) → MayAll told (begun (after (beginning run) run.entries)) → OpenBetween line run next (more_deliveries most) told → (let w = (after_all told (begun (after (beginning run) run.entries))).world in let now = map said w.fresh ++ asked next (more_deliveries most) ∷ history_of line run in IsTameOrFew now → EachMoment (SinceAt (injectors now) run.start.disks) now)
