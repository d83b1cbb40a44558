-- The disk fold of the laws holds, medium by medium, what the notes of the runs leave.
use Rattle.std.proofs.Common.{◌≡◌, ◌∙◌, refl, sym, ap, ℕ, ◌==◌, not, Bool, true, false, cond, List, [], ◌∷◌, ◌++◌, set, Option, Some, None, Result, Ok, Err}
use Rattle.std.proofs.Math.ListN.{get_or-map}
use Rattle.std.proofs.Math.Seq.{map-set_same}
use Rattle.std.proofs.lemmas.List.{map-set}
use Rattle.login_table.specs.declared.login.Login.{Login}
use Rattle.mgmt_agent.specs.declared.decision.Effect.{Effect}
use Rattle.mgmt_agent.specs.declared.decision.Effect.TheVariants as effects
use Rattle.mgmt_agent.specs.declared.decision.ManagerStep.{ManagerStep}
use Rattle.mgmt_agent.specs.declared.operation.Busy.{Busy}
use Rattle.mgmt_agent.specs.Machine as manager
use Rattle.login_table.specs.Table.{Table}
use Rattle.orb_layout.specs.declared.ask.Ask.{Ask}
use Rattle.orb_layout.specs.declared.ask.FailCause.TheVariants as causes
use Rattle.orb_layout.specs.Replies.{Answer, Expired}
use Rattle.rbc_command.specs.declared.sense.Sense.{Sense}
use Rattle.rbc_disk.specs.Disk.{Disk, disk_at}
use Rattle.rbc_disk.specs.Held.{Held, held as holding}
use Rattle.rbc_disk.specs.Runs.{Told, medium_after}
use Rattle.rbc_disk.specs.Units.{PlainDisk, new_unit, plain_disk}
use Rattle.sbp_journal.specs.Addresses.{Access, Register, agent_state, agent_reset, orb_pointer, doorbell, unsolicited_enable, Start, rom_start, management_agent, register, no_start, start_at, start_serves}
use Rattle.sbp_journal.specs.Run.{Moment, asked, said}
use Rattle.sbp_journal.specs.Transactions.{Part, part_of, request, response, no_packet}
use Rattle.sbp_journal.specs.Wire.{Terms}
use Rattle.sbp_journal.specs.declared.event.Event.{Event}
use Rattle.sbp_journal.specs.declared.event.Event.TheVariants as events
use Rattle.sbp_journal.specs.declared.operation.FunctionWord.TheVariants as words
use Rattle.sbp_journal.specs.declared.note.Note.{Note}
use Rattle.sbp_journal.specs.declared.note.Note.TheVariants as notes
use Rattle.sbp_laws.specs.DiskFold.{first_units, left_by_reset, left_by_run, marked, moves_disc, unit_at}
use Rattle.sbp_laws.specs.Packets.{answered_at}
use Rattle.sbp_laws.specs.Turns.{event_of}
use Rattle.sbp_laws.specs.Targets.{Decided, Purpose, Reply, Target, effect_on, enters_in, entered_by, for_agent, for_manager, for_nobody, going_on, got_by, key_by, known_at, managed_by, manager_step, over, register_got, replied_to, request_got, reset_seen, sent_as, sent_for, start_got, started_by, taken_on, target_at, target_by, is_own_run, ran_on}
use Rattle.sbp_laws.proofs.Going.{going_alone, run_alone, taken_alone}
use Rattle.media_terms.specs.Media.{MediaFoldLaw, left_by_note, media_after, media_of, notes_in}

-- the notes of one stretch of a history behind those of another
pub after_both : (later before : List Note) (media : Held) → media_after (later ++ before) media ≡ media_after later (media_after before media)
after_both [] before media = refl
after_both (note ∷ later) before media = ap (left_by_note note) (after_both later before media)

-- ---- what leaves the units

abbrev Same : Target → Target → Type 0
Same x y = y.units ≡ x.units

same_if : (b : Bool) (x y z : Target) → Same x y → Same x z → Same x (cond b y z)
same_if true x y z h i = h
same_if false x y z h i = i

takes_on : (told : Option Told) (reply : Option Reply) (x : Target) → Same x (taken_on told reply x)
takes_on told reply x = ap (λ (y : Target). y.units) (taken_alone told reply x)

goes_on : (note : Note) (x : Target) → Same x (going_on note x)
goes_on note x = ap (λ (y : Target). y.units) (going_alone note x)

is_over : (x : Target) → Same x (over x)
is_over x = takes_on None x.reply x

affects : (effect : Effect) (x : Target) → Same x (effect_on effect x)
affects effects.Nothing x = refl
affects (effects.Entered place replaced) x = refl
affects (effects.Back place) x = refl
affects (effects.Left place) x = refl
affects (effects.Abort place orb) x = refl
affects (effects.AbortSet place) x = refl
affects (effects.UnitReset unit) x = refl
affects effects.TargetReset x = refl

manages : (r : ManagerStep × (manager.Machine × Table)) (answer : Answer) (x : Target) → Same x (managed_by r answer x)
manages (step, (machine, table)) answer x = affects step.effect _

replies_to : (purpose : Purpose) (answer : Answer) (x : Target) → Same x (replied_to purpose answer x)
replies_to (for_agent place which) answer x = refl
replies_to for_manager answer x = manages (manager_step x answer) answer x
replies_to for_nobody answer x = refl

registers : (name : Register) (place : ℕ) (access : Access) (x : Target) → Same x (register_got name place access x)
registers agent_reset place access x = refl
registers orb_pointer place access x = same_if access.is_write x _ x refl refl
registers doorbell place access x = refl
registers unsolicited_enable place access x = refl
registers agent_state place access x = refl

starts_by : (r : Result Ask Busy × manager.Machine) (x : Target) → Same x (started_by r x)
starts_by (Err busy, machine) x = refl
starts_by (Ok ask, machine) x = refl

starts : (start : Start) (source : ℕ) (access : Access) (x : Target) → Same x (start_got start source access x)
starts (register place name) source access x = registers name place access x
starts management_agent source access x = starts_by _ x
starts rom_start source access x = refl
starts no_start source access x = refl

requests : (access : Option Access) (source : ℕ) (x : Target) → Same x (request_got access source x)
requests None source x = refl
requests (Some access) source x = same_if (start_serves (start_at access.offset) access) x _ x (starts (start_at access.offset) source access x) refl

gets_by : (own : Option ℕ) (wire : Terms) (serial : ℕ) (x : Target) → Same x (got_by own wire serial x)
gets_by (Some own) wire serial x = replies_to _ _ x
gets_by None wire serial x = requests _ _ x

resets : (b : Bool) (x : Target) → Same x (reset_seen b x)
resets true x = refl
resets false x = refl

sends_for : (place : Option ℕ) (is_write : Bool) (serial : ℕ) (x : Target) → Same x (sent_for place is_write serial x)
sends_for (Some place) is_write serial x = refl
sends_for None is_write serial x = same_if _ x _ _ refl refl

sends_as : (part : Part) (is_write : Bool) (serial : ℕ) (x : Target) → Same x (sent_as part is_write serial x)
sends_as (request label kind) is_write serial x = sends_for _ is_write serial x
sends_as (response label kind) is_write serial x = refl
sends_as no_packet is_write serial x = refl

enters : (place : Option ℕ) (decided : Option Decided) (id : ℕ) (x : Target) → Same x (enters_in place decided id x)
enters None decided id x = refl
enters (Some place) None id x = refl
enters (Some place) (Some decided) id x = refl

entries : (id : Option ℕ) (x : Target) → Same x (entered_by id x)
entries None x = refl
entries (Some id) x = enters _ x.decided id x

keys : (event : Option Event) (unit : ℕ) (x : Target) → Same x (key_by event unit x)
keys None unit x = refl
keys (Some (events.Begin initiators ready)) unit x = refl
keys (Some (events.Act initiator action)) unit x = refl
keys (Some (events.Reset ids)) unit x = refl
keys (Some (events.See node)) unit x = refl
keys (Some (events.Deliver serial)) unit x = refl
keys (Some (events.Repeat serial)) unit x = refl
keys (Some (events.Lose serial)) unit x = refl
keys (Some (events.Timeout serial)) unit x = refl
keys (Some (events.Step count)) unit x = refl
keys (Some events.Settle) unit x = refl
keys (Some events.Tick) unit x = refl
keys (Some (events.Inject initiator bytes)) unit x = refl
keys (Some (events.Key other key)) unit x = refl

-- ---- a note, by the media of the units

pub medium_at : (units : List PlainDisk) (unit : ℕ) → disk_at (media_of units) unit ≡ (unit_at units unit).medium
medium_at units unit = get_or-map (λ (p : PlainDisk). p.medium) units unit (plain_disk new_unit (disk_at [] 0))

marked_medium : (b : Bool) (others : ℕ) (plain : PlainDisk) → (marked b others plain).medium ≡ plain.medium
marked_medium false others plain = refl
marked_medium true others plain = refl

runs : (cdb bytes : List ℕ) (check : Option Sense) (place unit : ℕ) (places : List (Option Login)) (units : List PlainDisk)
    → media_of (set units unit (left_by_run cdb bytes check place unit places (unit_at units unit))) ≡ set (media_of units) unit (medium_after cdb bytes check (disk_at (media_of units) unit))
runs cdb bytes check place unit places units =
    map-set (λ (p : PlainDisk). p.medium) units unit (left_by_run cdb bytes check place unit places (unit_at units unit))
    ∙ ap (set (media_of units) unit) (marked_medium (moves_disc cdb check (unit_at units unit)) _ _ ∙ ap (medium_after cdb bytes check) (sym (medium_at units unit)))

clears : (unit : ℕ) (places : List (Option Login)) (units : List PlainDisk) → media_of (set units unit (left_by_reset unit places (unit_at units unit))) ≡ media_of units
clears unit places units = map-set_same (λ (p : PlainDisk). p.medium) units unit (left_by_reset unit places (unit_at units unit)) (plain_disk new_unit (disk_at [] 0)) refl

-- the disks that a note leaves
abbrev pub disks_by : Note → List Disk → List Disk
disks_by note disks = (left_by_note note (holding disks [])).disks

abbrev Noted : Note → Target → Target → Type 0
Noted note x y = media_of y.units ≡ disks_by note (media_of x.units)

-- each note of the fold
said_leaves : (note : Note) (past : List Moment) (wire : Terms) (x : Target) → Noted note x (target_by note past wire x)
said_leaves (notes.Begin initiators ready) past wire x = refl
said_leaves (notes.Got serial) past wire x = ap media_of (same_if _ x _ _ (gets_by (answered_at wire serial) wire serial (over x) ∙ is_over x) (is_over x))
said_leaves (notes.Ignored serial cause) past wire x = ap media_of (is_over x)
said_leaves (notes.TimedOut serial) past wire x = ap media_of (same_if _ x _ _ (replies_to _ Expired (over x) ∙ is_over x) (is_over x))
said_leaves (notes.Seen node generation) past wire x = ap media_of (same_if (node == 0) x _ _ (resets (not (generation == wire.generation 0)) (over x) ∙ is_over x) (is_over x))
said_leaves notes.Tick past wire x = ap media_of (is_over x)
said_leaves (notes.Ran i n k unit cdb bytes check) past wire x =
    let own = is_own_run x.reply i wire x in
    let y = ran_on own (notes.Ran i n k unit cdb bytes check) x in
    runs cdb bytes check _ unit y.table.places y.units ∙ ap (λ (units : List PlainDisk). set (media_of units) unit (medium_after cdb bytes check (disk_at (media_of units) unit))) (ap (λ (z : Target). z.units) (run_alone own (notes.Ran i n k unit cdb bytes check) x))
said_leaves (notes.Sent serial generation from to bytes) past wire x =
    let settled = taken_on None x.reply x in
    ap media_of (same_if (from == 0) x _ settled (sends_as (part_of bytes) _ serial settled ∙ takes_on None x.reply x) (takes_on None x.reply x))
said_leaves (notes.Dead i n causes.Label) past wire x = ap media_of (takes_on None x.reply x)
said_leaves (notes.ManageFailed i cause) past wire x = refl
said_leaves (notes.Managed i words.Login subject status login) past wire x = ap media_of (entries login x)
said_leaves (notes.Held id) past wire x = refl
said_leaves (notes.Back id) past wire x = refl
said_leaves (notes.Left id) past wire x = refl
said_leaves (notes.Expired id) past wire x = refl
said_leaves (notes.Cleared unit) past wire x = clears unit x.table.places x.units
said_leaves (notes.Key unit) past wire x = ap media_of (keys (event_of past) unit x)
said_leaves (notes.Unsolicited i) past wire x = refl
said_leaves (notes.Append i list orb cdb buffer) past wire x = ap media_of (goes_on (notes.Append i list orb cdb buffer) x)
said_leaves (notes.Low i list orb) past wire x = ap media_of (goes_on (notes.Low i list orb) x)
said_leaves (notes.Linked i list orb) past wire x = ap media_of (goes_on (notes.Linked i list orb) x)
said_leaves (notes.Rung i list orb) past wire x = ap media_of (goes_on (notes.Rung i list orb) x)
said_leaves (notes.Dummied i list orb) past wire x = ap media_of (goes_on (notes.Dummied i list orb) x)
said_leaves (notes.Injected serial) past wire x = ap media_of (goes_on (notes.Injected serial) x)
said_leaves (notes.Lost serial) past wire x = ap media_of (goes_on (notes.Lost serial) x)
said_leaves (notes.Ended i n k status) past wire x = ap media_of (goes_on (notes.Ended i n k status) x)
said_leaves (notes.Taken i n k status answer) past wire x = ap media_of (goes_on (notes.Taken i n k status answer) x)
said_leaves (notes.Cut i n cause) past wire x = ap media_of (goes_on (notes.Cut i n cause) x)
said_leaves (notes.Dead i n causes.Timeout) past wire x = ap media_of (goes_on (notes.Dead i n causes.Timeout) x)
said_leaves (notes.Dead i n causes.Refused) past wire x = ap media_of (goes_on (notes.Dead i n causes.Refused) x)
said_leaves (notes.Dead i n causes.Grammar) past wire x = ap media_of (goes_on (notes.Dead i n causes.Grammar) x)
said_leaves (notes.Drop i list) past wire x = ap media_of (goes_on (notes.Drop i list) x)
said_leaves (notes.Managed i words.Query subject status login) past wire x = ap media_of (goes_on (notes.Managed i words.Query subject status login) x)
said_leaves (notes.Managed i words.Reconnect subject status login) past wire x = ap media_of (goes_on (notes.Managed i words.Reconnect subject status login) x)
said_leaves (notes.Managed i words.Logout subject status login) past wire x = ap media_of (goes_on (notes.Managed i words.Logout subject status login) x)
said_leaves (notes.Managed i words.Abort subject status login) past wire x = ap media_of (goes_on (notes.Managed i words.Abort subject status login) x)
said_leaves (notes.Managed i words.AbortSet subject status login) past wire x = ap media_of (goes_on (notes.Managed i words.AbortSet subject status login) x)
said_leaves (notes.Managed i words.UnitReset subject status login) past wire x = ap media_of (goes_on (notes.Managed i words.UnitReset subject status login) x)
said_leaves (notes.Managed i words.TargetReset subject status login) past wire x = ap media_of (goes_on (notes.Managed i words.TargetReset subject status login) x)
said_leaves (notes.Managed i words.Other subject status login) past wire x = ap media_of (goes_on (notes.Managed i words.Other subject status login) x)
said_leaves (notes.Op i operation word) past wire x = ap media_of (goes_on (notes.Op i operation word) x)
said_leaves (notes.Stuck i) past wire x = ap media_of (goes_on (notes.Stuck i) x)
said_leaves (notes.Reset generation) past wire x = ap media_of (goes_on (notes.Reset generation) x)
said_leaves (notes.Refused line number) past wire x = ap media_of (goes_on (notes.Refused line number) x)
said_leaves (notes.Unsent i) past wire x = ap media_of (goes_on (notes.Unsent i) x)
said_leaves (notes.Told i) past wire x = ap media_of (goes_on (notes.Told i) x)
said_leaves notes.Settled past wire x = ap media_of (goes_on notes.Settled x)
said_leaves notes.Stopped past wire x = ap media_of (goes_on notes.Stopped x)

-- ---- histories

disks_alone : (note : Note) (media : Held) → (left_by_note note media).disks ≡ disks_by note media.disks
disks_alone note media = alone note
  where
    alone : (x : Note) → (left_by_note x media).disks ≡ disks_by x media.disks
    alone (notes.Begin initiators ready) = refl
    alone (notes.Append i list orb cdb buffer) = refl
    alone (notes.Low i list orb) = refl
    alone (notes.Linked i list orb) = refl
    alone (notes.Rung i list orb) = refl
    alone (notes.Dummied i list orb) = refl
    alone (notes.Sent serial generation from to bytes) = refl
    alone (notes.Injected serial) = refl
    alone (notes.Got serial) = refl
    alone (notes.Ignored serial cause) = refl
    alone (notes.Lost serial) = refl
    alone (notes.TimedOut serial) = refl
    alone (notes.Ran i n k unit cdb bytes check) = refl
    alone (notes.Ended i n k status) = refl
    alone (notes.Taken i n k status answer) = refl
    alone (notes.Cut i n cause) = refl
    alone (notes.Dead i n cause) = refl
    alone (notes.Drop i list) = refl
    alone (notes.Managed i word subject status login) = refl
    alone (notes.ManageFailed i cause) = refl
    alone (notes.Held id) = refl
    alone (notes.Expired id) = refl
    alone (notes.Back id) = refl
    alone (notes.Left id) = refl
    alone (notes.Cleared unit) = refl
    alone (notes.Op i operation word) = refl
    alone (notes.Stuck i) = refl
    alone (notes.Reset generation) = refl
    alone (notes.Seen node generation) = refl
    alone notes.Tick = refl
    alone (notes.Refused line number) = refl
    alone notes.Settled = refl
    alone notes.Stopped = refl
    alone (notes.Key unit) = refl
    alone (notes.Unsolicited i) = refl
    alone (notes.Unsent i) = refl
    alone (notes.Told i) = refl

pub known_disks : MediaFoldLaw
known_disks start faults [] = first_media start
  where
    first_media : (disks : List Disk) → media_of (first_units disks) ≡ disks
    first_media [] = refl
    first_media (disk ∷ disks) = ap (λ ds. disk ∷ ds) (first_media disks)
known_disks start faults (asked line event ∷ past) = ap media_of (is_over (target_at start past)) ∙ known_disks start faults past
known_disks start faults (said note ∷ past) =
    said_leaves note past (known_at start past).wire (target_at start past)
    ∙ (ap (disks_by note) (known_disks start faults past) ∙ sym (disks_alone note (media_after (notes_in past) (holding start faults))))
