-- Each status of a drill is good, where nothing died and each command ran well.
use Rattle.std.proofs.Common.{◌≡◌, ◌∙◌, refl, sym, ap, ℕ, Bool, true, false, cond, nat_eq, List, [], ◌∷◌, ◌++◌, map, Option, Some, None, arith}
use Rattle.std.specs.List.{AllByRecursion, count_by}
use Rattle.orb_layout.specs.declared.status.StatusKind.{StatusKind}
use Rattle.orb_layout.specs.declared.status.StatusKind.TheVariants as kinds
use Rattle.rbc_disk.specs.Disk.{Disk}
use Rattle.sbp_journal.specs.Run.{Entry, Moment, asked, history, notes_of, said}
use Rattle.sbp_journal.specs.Form.{IsStatus}
use Rattle.sbp_journal.specs.declared.event.Event.{Event}
use Rattle.sbp_journal.specs.declared.note.Note.{Note}
use Rattle.sbp_journal.specs.declared.note.Note.TheVariants as notes
use Rattle.sbp_laws.specs.CauseLaw.{AbortedAt, HasCauses, is_marked}
use Rattle.sbp_laws.specs.Deaths.{FaultsFollowDeaths, FollowsDeath}
use Rattle.sbp_laws.specs.ExecutionLaw.{ExecutionLaw, MayEndWith}
use Rattle.sbp_laws.specs.Lawful.{FormAt, nobody}
use Rattle.sbp_laws.specs.OnLists.{LawfulOnLists}
use Rattle.sbp_laws.specs.StatusLaw.{TakenAt}
use Rattle.sbp_laws.specs.Terms.{ended_status, ran_status}
use Rattle.sbp_laws.specs.Turns.{EachMoment, EachTurnBefore, turn}
use Rattle.drill_text.specs.Tally.{is_good, is_good_status, is_taken}
use Rattle.drill_laws.specs.DrillCalm.{IsCalmAt, IsLawfulDrill}
use Rattle.drill_laws.specs.DrillGood.{DrillsAreGood, IsDeathlessAt, IsWellAt, RanWell}
use Rattle.drill_laws.specs.DrillLines.{AreDrillLines}
use Rattle.drill_laws.specs.DrillTakings.{told_in}
use Rattle.drill_laws.proofs.DrillCalm.{drills_are_calm}
use Rattle.drill_laws.proofs.DrillCounts.{told_is}

-- ---- ORBs that fail
abbrev pub IsFault : Note → Bool
IsFault (notes.Ended i list number kinds.Failed) = true
IsFault (notes.Ended i list number (kinds.Illegal meaning)) = true
IsFault _ = false

abbrev pub IsDeath : Note → Bool
IsDeath (notes.Dead i list cause) = true
IsDeath _ = false

abbrev IsDeathOf : Option Note → Bool
IsDeathOf None = false
IsDeathOf (Some note) = IsDeath note

abbrev pub AreFaultless : List Note → Type 0
AreFaultless rest = AllByRecursion (λ note. IsFault note ≡ false) rest

abbrev pub NoDeath : List Note → Type 0
NoDeath rest = AllByRecursion (λ note. IsDeath note ≡ false) rest

not_dead : {A : Type 0} (before : Option Note) (i : ℕ) → IsDeathOf before ≡ false → FollowsDeath before i → A
not_dead None i none f = absurd f
not_dead (Some (notes.Dead j list cause)) i none f = absurd (let no : true ≡ false = none in cc no)
not_dead (Some _) i none f = absurd f

faultless : (before : Option Note) (rest : List Note) → IsDeathOf before ≡ false → NoDeath rest → FaultsFollowDeaths before rest → AreFaultless rest
faultless before [] none dead f = tt
faultless before (notes.Ended i list number kinds.Failed ∷ rest) none dead f = not_dead before i none f.0
faultless before (notes.Ended i list number (kinds.Illegal meaning) ∷ rest) none dead f = not_dead before i none f.0
faultless before (note ∷ rest) none dead f = (refl, faultless (Some note) rest dead.0 dead.1 f)

-- a history begins with a line
abbrev pub Begins : List Moment → Type 0
Begins [] = ⊥
Begins (asked line event ∷ []) = Unit {0}
Begins (said note ∷ []) = ⊥
Begins (moment ∷ next ∷ past) = Begins (next ∷ past)

begins_more : (moment : Moment) (past : List Moment) → Begins past → Begins (moment ∷ past)
begins_more moment [] b = absurd b
begins_more moment (next ∷ past) b = b

lines_begin : (told : List Note) (line : ℕ) (event : Event) (past : List Moment) → Begins (asked line event ∷ past) → Begins (map said told ++ asked line event ∷ past)
lines_begin [] line event past b = b
lines_begin (note ∷ told) line event past b = begins_more (said note) (map said told ++ asked line event ∷ past) (lines_begin told line event past b)

begins_entries : (entry : Entry) (before : List Entry) → Begins (history (entry ∷ before))
begins_entries entry [] = lines_begin entry.notes entry.line entry.event [] tt
begins_entries entry (next ∷ before) = lines_begin entry.notes entry.line entry.event (history (next ∷ before)) (begins_more (asked entry.line entry.event) (history (next ∷ before)) (begins_entries next before))

abbrev pub FaultlessAt : Moment → List Moment → Type 0
FaultlessAt (said note) past = IsFault note ≡ false
FaultlessAt (asked line event) past = Unit {0}

pub record Faultless (past : List Moment) (rest : List Note) : Type 0 where
  pub each : EachMoment FaultlessAt past
  pub behind : AreFaultless rest

no_death : (note : Note) (past : List Moment) → IsDeathlessAt (said note) past → IsDeath note ≡ false
no_death (notes.Dead i list cause) past w = absurd w
no_death _ past w = refl

-- where each command ran well none died
pub deathless : (past : List Moment) → RanWell past → EachMoment IsDeathlessAt past
deathless [] well = tt
deathless (said (notes.Dead i list cause) ∷ past) well = absurd well.0
deathless (_ ∷ past) well = (tt, deathless past well.1)

-- those of a turn
turn_faultless : (start : List Disk) (past : List Moment) (moment : Moment) (rest : List Note) → HasCauses start (turn past moment rest) → NoDeath rest → AreFaultless rest
turn_faultless start past moment rest causes dead = faultless None rest refl dead causes.faults

module _ (start : List Disk) where
  abbrev pub Each : List Moment → List Note → Type 0
  Each past rest = EachTurnBefore (HasCauses start) past rest

  -- a note that begins a turn
  first_of_turn : (note : Note) (past : List Moment) (rest : List Note) → IsFault note ≡ false → HasCauses start (turn past (said note) rest) → NoDeath rest → Faultless past [] → Faultless (said note ∷ past) rest
  first_of_turn note past rest fine causes dead was = record { each = (fine, was.each); behind = turn_faultless start past (said note) rest causes dead }

  pub all_faultless : (past : List Moment) (rest : List Note) → Begins past → EachMoment IsDeathlessAt past → NoDeath rest → Each past rest → Faultless past rest
  all_faultless [] rest b well dead each = absurd b
  all_faultless (asked line event ∷ []) rest b well dead each = record { each = (tt, tt); behind = turn_faultless start [] (asked line event) rest each.0 dead }
  all_faultless (asked line event ∷ next ∷ past) rest b well dead each = record { each = (tt, (all_faultless (next ∷ past) [] b well.1 tt each.1).each); behind = turn_faultless start (next ∷ past) (asked line event) rest each.0 dead }
  all_faultless (said note ∷ []) rest b well dead each = absurd b
  all_faultless (said (notes.Got s) ∷ next ∷ past) rest b well dead each = first_of_turn (notes.Got s) (next ∷ past) rest refl each.0 dead (all_faultless (next ∷ past) [] b well.1 tt each.1)
  all_faultless (said (notes.Ignored s cause) ∷ next ∷ past) rest b well dead each = first_of_turn (notes.Ignored s cause) (next ∷ past) rest refl each.0 dead (all_faultless (next ∷ past) [] b well.1 tt each.1)
  all_faultless (said (notes.TimedOut s) ∷ next ∷ past) rest b well dead each = first_of_turn (notes.TimedOut s) (next ∷ past) rest refl each.0 dead (all_faultless (next ∷ past) [] b well.1 tt each.1)
  all_faultless (said (notes.Seen node generation) ∷ next ∷ past) rest b well dead each = first_of_turn (notes.Seen node generation) (next ∷ past) rest refl each.0 dead (all_faultless (next ∷ past) [] b well.1 tt each.1)
  all_faultless (said notes.Tick ∷ next ∷ past) rest b well dead each = first_of_turn notes.Tick (next ∷ past) rest refl each.0 dead (all_faultless (next ∷ past) [] b well.1 tt each.1)
  all_faultless (said notes.Settled ∷ next ∷ past) rest b well dead each = first_of_turn notes.Settled (next ∷ past) rest refl each.0 dead (all_faultless (next ∷ past) [] b well.1 tt each.1)
  all_faultless (said notes.Stopped ∷ next ∷ past) rest b well dead each = first_of_turn notes.Stopped (next ∷ past) rest refl each.0 dead (all_faultless (next ∷ past) [] b well.1 tt each.1)
  all_faultless (said note ∷ next ∷ past) rest b well dead each =
      let more = all_faultless (next ∷ past) (note ∷ rest) b well.1 (no_death note (next ∷ past) well.0, dead) each in record { each = (more.behind.0, more.each); behind = more.behind.1 }

-- ---- ORBs that are aborted
none_marked : (disks : List Disk) (past : List Moment) → EachMoment IsCalmAt past → (i n k : ℕ) → is_marked disks past i n k ≡ false
none_marked disks [] calm i n k = refl
none_marked disks (said (notes.Managed j function subject status login) ∷ past) calm i n k = absurd calm.0
none_marked disks (asked line event ∷ past) calm i n k = none_marked disks past calm.1 i n k
none_marked disks (said _ ∷ past) calm i n k = none_marked disks past calm.1 i n k

-- ---- how ORBs end
-- what ran, ran well
ran_good : (past : List Moment) → RanWell past → (i n k : ℕ) (status : StatusKind) → ran_status past i n k ≡ Some status → status ≡ kinds.Good
ran_good [] well i n k status e = absurd (let no : None ≡ Some status = e in cc no)
ran_good (said (notes.Ran j (Some m) (Some l) unit cdb bytes None) ∷ past) well i n k status e = by (ran_good past well.1 i n k status) (nat_eq i j) (nat_eq n m) (nat_eq k l) e
  where
    by : (ran_status past i n k ≡ Some status → status ≡ kinds.Good) → (b c d : Bool) → cond b (cond c (cond d (Some kinds.Good) (ran_status past i n k)) (ran_status past i n k)) (ran_status past i n k) ≡ Some status → status ≡ kinds.Good
    by old true true true e = cc e
    by old true true false e = old e
    by old true false d e = old e
    by old false c d e = old e
ran_good (said (notes.Ran j (Some m) (Some l) unit cdb bytes (Some sense)) ∷ past) well i n k status e = absurd well.0
ran_good (_ ∷ past) well i n k status e = ran_good past well.1 i n k status e

same_status : (a b : StatusKind) → Some a ≡ Some b → a ≡ b
same_status a b e = cc e

-- so it ends well
pub end_good : (disks : List Disk) (past : List Moment) (i n k : ℕ) (status : StatusKind) → RanWell past → IsWellAt (said (notes.Ended i (Some n) (Some k) status)) past → IsFault (notes.Ended i (Some n) (Some k) status) ≡ false → MayEndWith status (ran_status past i n k)
    → AbortedAt disks (said (notes.Ended i (Some n) (Some k) status)) past → IsStatus status → EachMoment IsCalmAt past → status ≡ kinds.Good
end_good disks past i n k kinds.Good well own fault may aborted form calm = refl
end_good disks past i n k (kinds.Check sense) well own fault may aborted form calm = ran_good past well i n k (kinds.Check sense) may
end_good disks past i n k kinds.Failed well own fault may aborted form calm = absurd (let no : true ≡ false = fault in cc no)
end_good disks past i n k (kinds.Illegal meaning) well own fault may aborted form calm = absurd (let no : true ≡ false = fault in cc no)
end_good disks past i n k kinds.Dummy well own fault may aborted form calm = absurd own
end_good disks past i n k kinds.Aborted well own fault may aborted form calm = absurd (let no : false ≡ true = sym (none_marked disks past calm i n k) ∙ aborted in cc no)
end_good disks past i n k (kinds.Management meaning) well own fault may aborted form calm = absurd form

pub ended_good : (disks : List Disk) (past : List Moment) → RanWell past → EachMoment FaultlessAt past → ExecutionLaw nobody disks past → EachMoment (AbortedAt disks) past → EachMoment FormAt past → EachMoment IsCalmAt past → (i n k : ℕ) (status : StatusKind) → ended_status past i n k ≡ Some status → status ≡ kinds.Good
ended_good disks [] well fault run aborted form calm i n k status e = absurd (let no : None ≡ Some status = e in cc no)
ended_good disks (said (notes.Ended j (Some m) (Some l) with_status) ∷ past) well fault run aborted form calm i n k status e =
    by (ended_good disks past well.1 fault.1 run.1 aborted.1 form.1 calm.1 i n k status) (end_good disks past j m l with_status well.1 well.0 fault.0 (run.0 refl) aborted.0 form.0.0 calm.1) (nat_eq i j) (nat_eq n m) (nat_eq k l) e
  where
    by : (ended_status past i n k ≡ Some status → status ≡ kinds.Good) → with_status ≡ kinds.Good → (b c d : Bool) → cond b (cond c (cond d (Some with_status) (ended_status past i n k)) (ended_status past i n k)) (ended_status past i n k) ≡ Some status → status ≡ kinds.Good
    by old here true true true e = sym (same_status with_status status e) ∙ here
    by old here true true false e = old e
    by old here true false d e = old e
    by old here false c d e = old e
ended_good disks (_ ∷ past) well fault run aborted form calm i n k status e = ended_good disks past well.1 fault.1 run.1 aborted.1 form.1 calm.1 i n k status e

-- ---- what is taken
taken_good : (disks : List Disk) (past : List Moment) → RanWell past → EachMoment FaultlessAt past → ExecutionLaw nobody disks past → EachMoment (AbortedAt disks) past → EachMoment FormAt past → EachMoment IsCalmAt past → EachMoment (TakenAt nobody) past → told_in is_good past ≡ told_in is_taken past
taken_good disks [] well fault run aborted form calm taken = refl
taken_good disks (said (notes.Taken i n k status answer) ∷ past) well fault run aborted form calm taken =
    let rest = taken_good disks past well.1 fault.1 run.1 aborted.1 form.1 calm.1 taken.1 in
    let good = ended_good disks past well.1 fault.1 run.1 aborted.1 form.1 calm.1 i n k status (taken.0 refl).ended in
    let one : cond {A = ℕ} (is_good_status status) 1 0 ≡ 1 = ap {B = ℕ} (λ s. cond (is_good_status s) 1 0) good in
    omega (arith, rest, one)
taken_good disks (asked line event ∷ past) well fault run aborted form calm taken = taken_good disks past well.1 fault.1 run.1 aborted.1 form.1 calm.1 taken.1
taken_good disks (said _ ∷ past) well fault run aborted form calm taken = let rest = taken_good disks past well.1 fault.1 run.1 aborted.1 form.1 calm.1 taken.1 in omega (arith, rest)

pub begins_history : (entries : List Entry) → AreDrillLines entries → Begins (history entries)
begins_history [] lines = absurd lines
begins_history (entry ∷ before) lines = begins_entries entry before

all_good : (disks : List Disk) (entries : List Entry) → IsLawfulDrill disks entries → LawfulOnLists nobody disks (history entries) → EachMoment FormAt (history entries) → EachMoment (AbortedAt disks) (history entries) → RanWell (history entries) → count_by is_good (notes_of entries) ≡ count_by is_taken (notes_of entries)
all_good disks entries lawful lists form aborted well =
    let past = history entries in
    let fault = (all_faultless disks past [] (begins_history entries lawful.run.lines) (deathless past well) tt lawful.causes).each in
    let calm = (drills_are_calm disks entries lawful).calm in
    sym (told_is is_good entries) ∙ taken_good disks past well fault lists.execution aborted form calm lists.status.taken ∙ told_is is_taken entries

pub drills_are_good : DrillsAreGood
drills_are_good = record { good = λ disks entries lawful keeps well. all_good disks entries lawful keeps.lists keeps.form keeps.aborted well }
