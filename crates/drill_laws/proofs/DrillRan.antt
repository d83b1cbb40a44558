-- Each command of a drill runs well over a first unit that is as it needs it.
use Rattle.std.proofs.Common.{◌≡◌, ◌∙◌, refl, sym, ap, subst, ℕ, zero, suc, Bool, true, false, cond, nat_eq, List, [], ◌∷◌, ◌++◌, map, reverse, Option, Some, None, slice_set}
use Rattle.std.specs.List.{AllByRecursion}
use Rattle.std.specs.Prelude.{IsSomeAnd}
use Rattle.std.proofs.lemmas.List.{reverse-reverse}
use Rattle.login_table.specs.declared.login.Login.{Login}
use Rattle.rbc_command.specs.declared.sense.Sense.{Sense}
use Rattle.rbc_disk.specs.Checks.{check_of}
use Rattle.rbc_disk.specs.Disk.{Disk}
use Rattle.rbc_disk.specs.Runs.{MayEnd, failure_of, is_failure}
use Rattle.rbc_disk.specs.Units.{PlainDisk, new_unit, plain_disk}
use Rattle.sbp_journal.proofs.Each.{all_append}
use Rattle.sbp_journal.specs.Run.{Entry, Moment, asked, history, said}
use Rattle.sbp_journal.specs.declared.event.Cmd.{Cmd}
use Rattle.sbp_journal.specs.declared.event.Event.{Event}
use Rattle.sbp_journal.specs.declared.event.Event.TheVariants as events
use Rattle.sbp_journal.specs.declared.event.Action.TheVariants as actions
use Rattle.sbp_journal.specs.declared.note.NoteBuffer.{NoteBuffer}
use Rattle.sbp_journal.specs.declared.note.Note.{Note}
use Rattle.sbp_journal.specs.declared.note.Note.TheVariants as notes
use Rattle.sbp_laws.specs.ActionLaw.{ActsOr, Brings, BringsEach}
use Rattle.sbp_laws.specs.Actions.{append_notes, buffer_of, link_notes, new_list, new_number, refusal_at}
use Rattle.sbp_laws.specs.Budget.{settle_deliveries}
use Rattle.sbp_laws.specs.Deliveries.{AreLowest, EndsSettle, is_effect}
use Rattle.sbp_laws.specs.DiskFold.{left_by_run, marked, moves_disc, unit_at}
use Rattle.sbp_laws.specs.ExecutionLaw.{ExecutionLaw, RunsOn}
use Rattle.sbp_laws.specs.Lawful.{nobody}
use Rattle.sbp_laws.specs.OnLists.{LawfulOnLists}
use Rattle.sbp_laws.specs.OrderLaw.{OrderLaw}
use Rattle.sbp_laws.specs.Targets.{Target, is_own_run, known_at, ran_on, target_at}
use Rattle.sbp_laws.specs.Terms.{Request, plan_of, request_at}
use Rattle.sbp_laws.specs.Turns.{EachMoment, effects_of, sends_of}
use Rattle.drill_laws.specs.DrillCalm.{IsCalmAt, IsLawfulDrill}
use Rattle.drill_laws.specs.DrillDisk.{IsHealthy}
use Rattle.drill_laws.specs.DrillLines.{AreDrillLines, IsDrillCommand, IsDrillLine}
use Rattle.drill_laws.specs.DrillRan.{DrillsRunWell, IsUncheckedAt, RanThereAt, RunsWell}
use Rattle.drill_laws.proofs.DrillAir.{all_reverse}
use Rattle.drill_laws.proofs.DrillCalm.{drills_are_calm}
use Rattle.drill_laws.proofs.DrillDisk.{commands_pass}
use Rattle.drill_laws.proofs.DrillUnits.{LeavesUnits, note_keeps, over_keeps, ran_keeps}

-- ---- what ORBs ask for; and none is made a dummy
pub record IsCommandOf (cdb : List ℕ) (buffer : NoteBuffer) : Type 0 where
  pub cmd : Cmd
  pub is : IsDrillCommand cmd
  pub cdb_is : cdb ≡ cmd.cdb
  pub buffer_is : buffer ≡ buffer_of cmd

abbrev pub CommandNote : Note → Type 0
CommandNote (notes.Append i n k cdb buffer) = IsCommandOf cdb buffer
CommandNote (notes.Dummied i n k) = ⊥
CommandNote note = Unit {0}

abbrev AreCommands : List Note → Type 0
AreCommands told = AllByRecursion CommandNote told

abbrev pub CommandAt : Moment → List Moment → Type 0
CommandAt (said note) past = CommandNote note
CommandAt (asked line event) past = Unit {0}

sends_commands : (told : List Note) → AreCommands (sends_of told)
sends_commands [] = tt
sends_commands (notes.Sent serial generation from to bytes ∷ rest) = (tt, sends_commands rest)
sends_commands (_ ∷ rest) = sends_commands rest

links_commands : (i n k : ℕ) → AreCommands (link_notes i n k)
links_commands i n zero = tt
links_commands i n (suc k) = (tt, (tt, tt))

append_commands : (i n k : ℕ) (cmd : Cmd) → IsDrillCommand cmd → AreCommands (append_notes i n k cmd)
append_commands i n k cmd is = (record { cmd = cmd; is = is; cdb_is = refl; buffer_is = refl }, all_append CommandNote (link_notes i n k) (notes.Rung i n k ∷ []) (links_commands i n k) (tt, tt))

effect_command : (note : Note) → is_effect note ≡ true → CommandNote note
effect_command (notes.Append i n k cdb buffer) e = absurd (cc e)
effect_command (notes.Dummied i n k) e = absurd (cc e)
effect_command _ e = tt

lowest_commands : (past : List Moment) (told : List Note) → AreLowest past told → AreCommands told
lowest_commands past [] h = tt
lowest_commands past (notes.Got serial ∷ rest) h = (tt, lowest_commands _ rest h.1)
lowest_commands past (notes.Ignored serial cause ∷ rest) h = (tt, lowest_commands _ rest h.1)
lowest_commands past (note ∷ rest) h = (effect_command note h.0, lowest_commands _ rest h.1)

line_commands : (disks : List Disk) (past : List Moment) (line : ℕ) (event : Event) (told : List Note) → IsDrillLine event → Brings disks past line event told → AreCommands told
line_commands disks past line (events.Act i (actions.Append cmd)) told is h = by (refusal_at past i (actions.Append cmd)) h
  where
    by : (refusal : Option ℕ) → ActsOr refusal past line i (actions.Append cmd) told → AreCommands told
    by (Some number) e = subst AreCommands (sym e) (tt, tt)
    by None acts =
        subst AreCommands (sym acts.first)
        (all_append CommandNote (effects_of told) (sends_of told) (subst AreCommands (sym acts.effects) (append_commands i (new_list past i) (new_number past i) cmd is.1)) (sends_commands told))
line_commands disks past line events.Settle told is h =
    subst AreCommands (sym h.is) (all_append CommandNote h.before (h.last ∷ []) (lowest_commands _ h.before h.delivers.lowest) (last_command (asked line events.Settle ∷ past) (settle_deliveries (asked line events.Settle ∷ past)) h.before h.last h.ends, tt))
  where
    last_command : (earlier : List Moment) (most : ℕ) (ns : List Note) (note : Note) → EndsSettle earlier most ns note → CommandNote note
    last_command earlier most ns notes.Settled h = tt
    last_command earlier most ns notes.Stopped h = tt
    last_command earlier most ns _ h = absurd h
line_commands disks past line _ told is h = absurd is

each_told : (told : List Note) (past : List Moment) → AreCommands told → EachMoment CommandAt past → EachMoment CommandAt (map said told ++ past)
each_told [] past all each = each
each_told (note ∷ told) past all each = (all.0, each_told told past all.1 each)

latest_commands : (told : List Note) → AreCommands (reverse told) → AreCommands told
latest_commands told all = subst AreCommands (reverse-reverse told) (all_reverse CommandNote (reverse told) all)

pub all_commands : (disks : List Disk) (entries : List Entry) → BringsEach disks entries → AreDrillLines entries → EachMoment CommandAt (history entries)
all_commands disks [] h are = absurd are
all_commands disks (entry ∷ []) h are =
    let told : reverse entry.notes ≡ notes.Begin 2 true ∷ [] = subst (λ e. Brings disks [] entry.line e (reverse entry.notes)) are h.0 in
    each_told entry.notes (asked entry.line entry.event ∷ []) (latest_commands entry.notes (subst AreCommands (sym told) (tt, tt))) (tt, tt)
all_commands disks (entry ∷ next ∷ before) h are =
    each_told entry.notes (asked entry.line entry.event ∷ history (next ∷ before)) (latest_commands entry.notes (line_commands disks (history (next ∷ before)) entry.line entry.event (reverse entry.notes) are.0 h.0)) (tt, all_commands disks (next ∷ before) h.1 are.1)

pub request_is : (past : List Moment) → EachMoment CommandAt past → (i n k : ℕ) (r : Request) → request_at past i n k ≡ Some r → IsCommandOf r.cdb r.buffer
request_is [] each i n k r e = absurd (let no : None ≡ Some r = e in cc no)
request_is (said (notes.Append j m l cdb buffer) ∷ past) each i n k r e = by (request_is past each.1 i n k r) (nat_eq i j) (nat_eq n m) (nat_eq k l) e
  where
    by : (request_at past i n k ≡ Some r → IsCommandOf r.cdb r.buffer) → (b c d : Bool) → cond b (cond c (cond d (Some (record { cdb = cdb; buffer = buffer })) (request_at past i n k)) (request_at past i n k)) (request_at past i n k) ≡ Some r → IsCommandOf r.cdb r.buffer
    by old true true true e =
        let one : Request = record { cdb = cdb; buffer = buffer } in
        let same : one ≡ r = cc e in subst (λ x. IsCommandOf x.cdb x.buffer) same each.0
    by old true true false e = old e
    by old true false d e = old e
    by old false c d e = old e
request_is (_ ∷ past) each i n k r e = request_is past each.1 i n k r e

-- ---- the first unit
pub record HasFirst (units : List PlainDisk) : Type 0 where
  pub plain : PlainDisk
  pub rest : List PlainDisk
  pub is : units ≡ plain ∷ rest
  pub healthy : IsHealthy plain

pub first_is : (units : List PlainDisk) (h : HasFirst units) → unit_at units 0 ≡ h.plain
first_is units h = ap (λ us. unit_at us 0) h.is

pub moved_none : (b : Bool) (others : ℕ) (plain : PlainDisk) → b ≡ false → marked b others plain ≡ plain
moved_none true others plain e = absurd (cc e)
moved_none false others plain e = refl

after_first : (units : List PlainDisk) → HasFirst units → (cmd : Cmd) → IsDrillCommand cmd → (cdb bytes : List ℕ) → cdb ≡ cmd.cdb → (place unit : ℕ) (places : List (Option Login)) → unit ≡ 0 → HasFirst (slice_set units unit (left_by_run cdb bytes None place unit places (unit_at units unit)))
after_first units h cmd is cdb bytes e place unit places z =
    subst (λ u. HasFirst (slice_set units u (left_by_run cdb bytes None place u places (unit_at units u)))) (sym z)
    (subst (λ us. HasFirst (slice_set us 0 (left_by_run cdb bytes None place 0 places (unit_at us 0)))) (sym h.is)
    (subst (λ c. HasFirst (left_by_run c bytes None place 0 places h.plain ∷ h.rest)) (sym e) (record {
      plain = left_by_run cmd.cdb bytes None place 0 places h.plain;
      rest = h.rest;
      is = refl;
      healthy = subst IsHealthy (sym (moved_none (moves_disc cmd.cdb None h.plain) _ _ (commands_pass.moves_none cmd h.plain is))) (commands_pass.leaves cmd h.plain place bytes is h.healthy);
    })))

-- no check holds for it there
pub passes_there : (r : Request) (plain : PlainDisk) (place : ℕ) (cdb bytes : List ℕ) (check : Option Sense) → RunsOn r plain place cdb bytes check → IsCommandOf r.cdb r.buffer → IsHealthy plain → check_of cdb (plan_of r.buffer) plain place ≡ None
passes_there r plain place cdb bytes check runs c h =
    ap (λ x. check_of x (plan_of r.buffer) plain place) (runs.command ∙ c.cdb_is) ∙ ap (λ b. check_of c.cmd.cdb (plan_of b) plain place) c.buffer_is ∙ commands_pass.unchecked c.cmd plain place c.is h

-- a run there ends without a check
unchecked_run : (r : Request) (plain : PlainDisk) (place : ℕ) (cdb bytes : List ℕ) (check : Option Sense) → RunsOn r plain place cdb bytes check → IsCommandOf r.cdb r.buffer → IsHealthy plain → is_failure check ≡ false → check ≡ None
unchecked_run r plain place cdb bytes check runs c h none =
    let passes = passes_there r plain place cdb bytes check runs c h in
    by check (subst (λ o. MayEnd o (failure_of plain.medium.is_bay cdb) check) passes runs.ended) none
  where
    by : (check : Option Sense) → MayEnd None (failure_of plain.medium.is_bay cdb) check → is_failure check ≡ false → check ≡ None
    by None may none = refl
    by (Some sense) may none = absurd (let fails = commands_pass.fails c.cmd plain.medium.is_bay sense c.is (ap (failure_of plain.medium.is_bay) (sym (runs.command ∙ c.cdb_is)) ∙ may) in let no : true ≡ false = sym fails ∙ none in cc no)

-- ---- all moments
pub record GoesWell (start : List Disk) (past : List Moment) : Type 0 where
  pub first : HasFirst (target_at start past).units
  pub each : EachMoment IsUncheckedAt past

leaves_well : (start : List Disk) (note : Note) (past : List Moment) → LeavesUnits note → IsUncheckedAt (said note) past → GoesWell start past → GoesWell start (said note ∷ past)
leaves_well start note past leaves fine g = record { first = subst HasFirst (sym (note_keeps note past (known_at start past).wire (target_at start past) leaves)) g.first; each = (fine, g.each) }

ran_well : (start : List Disk) (past : List Moment) (i n k unit : ℕ) (cdb bytes : List ℕ) (check : Option Sense) (place : ℕ) → (unit ≡ 0) × (is_failure check ≡ false) → (found : Option Request) → request_at past i n k ≡ found → IsSomeAnd found (λ r. RunsOn r (unit_at (target_at start past).units unit) place cdb bytes check) → EachMoment CommandAt past → GoesWell start past
    → GoesWell start (said (notes.Ran i (Some n) (Some k) unit cdb bytes check) ∷ past)
ran_well start past i n k unit cdb bytes check place there None e runs commands g = absurd runs
ran_well start past i n k unit cdb bytes check place there (Some r) e runs commands g =
    let c = request_is past commands i n k r e in
    let units = (target_at start past).units in
    let plain_is : unit_at units unit ≡ g.first.plain = ap (unit_at units) there.0 ∙ first_is units g.first in
    let none = unchecked_run r (unit_at units unit) place cdb bytes check runs c (subst IsHealthy (sym plain_is) g.first.healthy) there.1 in
    subst (λ o. GoesWell start (said (notes.Ran i (Some n) (Some k) unit cdb bytes o) ∷ past)) (sym none) (record {
      first =
          let wire = (known_at start past).wire in
          let note = notes.Ran i (Some n) (Some k) unit cdb bytes None in
          let before : Target = target_at start past in
          let target : Target = ran_on (is_own_run before.reply i wire before) note before in
          let same : target.units ≡ before.units = ran_keeps (is_own_run before.reply i wire before) note before in
          after_first target.units (subst HasFirst (sym same) g.first) c.cmd c.is cdb bytes (runs.command ∙ c.cdb_is) _ unit target.table.places there.0;
      each = (tt, g.each);
    })

module _ (first : Disk) (others : List Disk) (healthy : IsHealthy (plain_disk new_unit first)) where
  abbrev start : List Disk
  start = first ∷ others

  pub goes_well : (past : List Moment) → OrderLaw nobody past → ExecutionLaw nobody start past → EachMoment IsCalmAt past → EachMoment CommandAt past → EachMoment RanThereAt past → GoesWell start past
  goes_well [] order run calm commands there = record { first = record { plain = plain_disk new_unit first; rest = map (plain_disk new_unit) others; is = refl; healthy = healthy }; each = tt }
  goes_well (asked line event ∷ past) order run calm commands there =
      let g = goes_well past order.1 run.1 calm.1 commands.1 there.1 in
      record { first = subst HasFirst (sym (over_keeps (target_at start past))) g.first; each = (tt, g.each) }
  goes_well (said (notes.Ran i (Some n) (Some k) unit cdb bytes check) ∷ past) order run calm commands there =
      ran_well start past i n k unit cdb bytes check _ there.0 (request_at past i n k) refl (run.0 refl).1 commands.1 (goes_well past order.1 run.1 calm.1 commands.1 there.1)
  goes_well (said (notes.Ran i None k unit cdb bytes check) ∷ past) order run calm commands there = absurd (let no : false ≡ true = order.0 in cc no)
  goes_well (said (notes.Ran i (Some n) None unit cdb bytes check) ∷ past) order run calm commands there = absurd (let no : false ≡ true = order.0 in cc no)
  goes_well (said (notes.Cleared unit) ∷ past) order run calm commands there = absurd calm.0
  goes_well (said note ∷ past) order run calm commands there = leaves_well start note past tt tt (goes_well past order.1 run.1 calm.1 commands.1 there.1)

runs_well : (first : Disk) (others : List Disk) (entries : List Entry) → IsLawfulDrill (first ∷ others) entries → LawfulOnLists nobody (first ∷ others) (history entries) → IsHealthy (plain_disk new_unit first) → EachMoment RanThereAt (history entries) → RunsWell (first ∷ others) (history entries)
runs_well first others entries lawful lists healthy there =
    let past = history entries in
    let commands = all_commands (first ∷ others) entries lawful.run.brings lawful.run.lines in
    let g = goes_well first others healthy past lists.order lists.execution (drills_are_calm (first ∷ others) entries lawful).calm commands there in
    record { unchecked = g.each; healthy = subst IsHealthy (sym (first_is (target_at (first ∷ others) past).units g.first)) g.first.healthy }

pub drills_run_well : DrillsRunWell
drills_run_well = record { well = runs_well }
