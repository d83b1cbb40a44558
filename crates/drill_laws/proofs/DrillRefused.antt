-- What may lack as a line of a drill appends.
use Rattle.std.proofs.Common.{◌≡◌, ◌∙◌, refl, sym, ap, subst, ℕ, zero, suc, ◌<◌, ◌==◌, not, nat_lt, Bool, true, false, cond, nat_eq, List, [], ◌∷◌, ◌++◌, map, reverse, Option, Some, None, arith}
use Rattle.std.specs.List.{AllByRecursion}
use Rattle.std.proofs.lemmas.Bool.Decides.{nat_tests}
use Rattle.std.proofs.lemmas.List.{reverse-reverse}
use Rattle.orb_layout.specs.StatusBlocks.{row_of}
use Rattle.orb_layout.specs.declared.status.StatusKind.{StatusKind}
use Rattle.orb_layout.specs.declared.status.StatusKind.TheVariants as kinds
use Rattle.rbc_disk.specs.Disk.{Disk}
use Rattle.sbp_base.specs.Update.{upd2}
use Rattle.sbp_journal.proofs.Each.{all_append}
use Rattle.sbp_journal.specs.Rows.{refusal_of}
use Rattle.sbp_journal.specs.Run.{Entry, Moment, asked, history, said}
use Rattle.sbp_journal.specs.Wire.{terms}
use Rattle.sbp_journal.specs.declared.event.Cmd.{Cmd}
use Rattle.sbp_journal.specs.declared.event.Event.{Event}
use Rattle.sbp_journal.specs.declared.event.Event.TheVariants as events
use Rattle.sbp_journal.specs.declared.event.Action.TheVariants as actions
use Rattle.sbp_journal.specs.declared.note.Note.{Note}
use Rattle.sbp_journal.specs.declared.note.Note.TheVariants as notes
use Rattle.sbp_laws.specs.ActionLaw.{ActsOr, Brings, BringsEach}
use Rattle.sbp_laws.specs.Actions.{action_body, append_notes, cuts_list, is_mid_link, is_right_state, is_waiting, lacks_label, new_list, new_number, refusal_at, running_operation}
use Rattle.sbp_laws.specs.Budget.{settle_deliveries}
use Rattle.sbp_laws.specs.Deliveries.{AreLowest, EndsSettle, is_effect}
use Rattle.sbp_laws.specs.Hosts.{host_at, is_stuck}
use Rattle.sbp_laws.specs.Lawful.{nobody}
use Rattle.sbp_laws.specs.Lists.{linked, lowest_vacant, present_list, slots}
use Rattle.sbp_laws.specs.StatusLaw.{TakenAt}
use Rattle.sbp_laws.specs.Terms.{appends, ended_status}
use Rattle.sbp_laws.specs.Turns.{EachMoment, effects_of, sends_of}
use Rattle.drill_laws.specs.DrillLines.{AreDrillLines, IsDrillLine}
use Rattle.drill_laws.specs.DrillCalm.{IsCalmAt}
use Rattle.drill_laws.specs.DrillRefused.{DrillsRefuseLittle, IsAliveAt, IsReadyFor, IsUnstuckAt, lack_at, refused_for}
use Rattle.drill_laws.proofs.DrillCalm.{drills_are_calm}
use Rattle.drill_laws.proofs.DrillGood.{FaultlessAt, IsFault, all_faultless, begins_history}
use Rattle.drill_laws.proofs.DrillMoments.{DrillAt, drill_moments}
use Rattle.drill_laws.proofs.DrillReady.{all_stand}
use Rattle.drill_laws.proofs.DrillRung.{behind, behind-append, behind_latest}

-- ---- what is appended is linked
abbrev pub is_other : Note → Bool
is_other (notes.Append i n k cdb buffer) = false
is_other (notes.Linked i n k) = false
is_other _ = true

abbrev pub AreOther : List Note → Type 0
AreOther told = AllByRecursion (λ note. is_other note ≡ true) told

record IsSame (past later : List Moment) : Type 0 where
  appended : appends later ≡ appends past
  linked_is : linked later ≡ linked past

one_other : (note : Note) (past : List Moment) → is_other note ≡ true → IsSame past (said note ∷ past)
one_other (notes.Append i n k cdb buffer) past e = absurd (cc e)
one_other (notes.Linked i n k) past e = absurd (cc e)
one_other _ past e = record { appended = refl; linked_is = refl }

all_other : (past : List Moment) (told : List Note) → AreOther told → IsSame past (behind past told)
all_other past [] b = record { appended = refl; linked_is = refl }
all_other past (note ∷ told) b =
    let one = one_other note past b.0 in
    let rest = all_other (said note ∷ past) told b.1 in
    record { appended = rest.appended ∙ one.appended; linked_is = rest.linked_is ∙ one.linked_is }

sends_other : (told : List Note) → AreOther (sends_of told)
sends_other [] = tt
sends_other (notes.Sent serial generation from to bytes ∷ rest) = (refl, sends_other rest)
sends_other (_ ∷ rest) = sends_other rest

effect_other : (note : Note) → is_effect note ≡ true → is_other note ≡ true
effect_other (notes.Append i n k cdb buffer) e = absurd (cc e)
effect_other (notes.Linked i n k) e = absurd (cc e)
effect_other _ e = refl

pub lowest_other : (past : List Moment) (told : List Note) → AreLowest past told → AreOther told
lowest_other past [] h = tt
lowest_other past (notes.Got serial ∷ rest) h = (refl, lowest_other _ rest h.1)
lowest_other past (notes.Ignored serial cause ∷ rest) h = (refl, lowest_other _ rest h.1)
lowest_other past (note ∷ rest) h = (effect_other note h.0, lowest_other _ rest h.1)

-- a settle tells of no append
pub settle_other : (disks : List Disk) (past : List Moment) (line : ℕ) (told : List Note) → Brings disks past line events.Settle told → AreOther told
settle_other disks past line told h = subst AreOther (sym h.is) (all_append (λ note. is_other note ≡ true) h.before (h.last ∷ []) (lowest_other _ h.before h.delivers.lowest) (last_other (asked line events.Settle ∷ past) (settle_deliveries (asked line events.Settle ∷ past)) h.before h.last h.ends, tt))
  where
    last_other : (earlier : List Moment) (most : ℕ) (ns : List Note) (note : Note) → EndsSettle earlier most ns note → is_other note ≡ true
    last_other earlier most ns notes.Settled h = refl
    last_other earlier most ns notes.Stopped h = refl
    last_other earlier most ns _ h = absurd h

abbrev AreLinked : List Moment → Type 0
AreLinked past = (i n : ℕ) → linked past i n ≡ appends past i n

stay_linked : (past later : List Moment) → IsSame past later → AreLinked past → AreLinked later
stay_linked past later s all i n = ap (λ (f : ℕ → ℕ → ℕ). f i n) s.linked_is ∙ all i n ∙ sym (ap (λ (f : ℕ → ℕ → ℕ). f i n) s.appended)

one_linked : (f g : ℕ → ℕ → ℕ) (i n v w : ℕ) → v ≡ w → ((j m : ℕ) → f j m ≡ g j m) → (j m : ℕ) → upd2 f i n v j m ≡ upd2 g i n w j m
one_linked f g i n v w e all j m = by (nat_eq j i) (nat_eq m n)
  where
    by : (b c : Bool) → cond b (cond c v (f j m)) (f j m) ≡ cond b (cond c w (g j m)) (g j m)
    by true true = e
    by true false = all j m
    by false c = all j m

append_linked : (past : List Moment) (i n k : ℕ) (cmd : Cmd) (line : ℕ) (event : Event) → k ≡ appends past i n → AreLinked past → AreLinked (behind (asked line event ∷ past) (append_notes i n k cmd))
append_linked past i n zero cmd line event next all j m = one_linked (linked past) (appends past) i n 1 (suc (appends past i n)) (ap suc next) all j m
append_linked past i n (suc k) cmd line event next all j m = one_linked (linked past) (appends past) i n (suc (suc k)) (suc (appends past i n)) (ap suc next) all j m

line_linked : (disks : List Disk) (past : List Moment) (line : ℕ) (event : Event) (told : List Note) → IsDrillLine event → Brings disks past line event told → AreLinked past → AreLinked (behind (asked line event ∷ past) told)
line_linked disks past line (events.Act i (actions.Append cmd)) told is h all = by (refusal_at past i (actions.Append cmd)) h
  where
    there : List Moment
    there = asked line (events.Act i (actions.Append cmd)) ∷ past

    by : (refusal : Option ℕ) → ActsOr refusal past line i (actions.Append cmd) told → AreLinked (behind there told)
    by (Some number) e = subst (λ ns. AreLinked (behind there ns)) (sym e) all
    by None acts =
        let split : behind there told ≡ behind (behind there (append_notes i (new_list past i) (new_number past i) cmd)) (sends_of told)
        = ap (behind there) acts.first ∙ behind-append there (effects_of told) (sends_of told) ∙ ap (λ ns. behind (behind there ns) (sends_of told)) acts.effects in
        subst AreLinked (sym split)
        (stay_linked _ _ (all_other _ (sends_of told) (sends_other told)) (append_linked past i (new_list past i) (new_number past i) cmd line (events.Act i (actions.Append cmd)) refl all))
line_linked disks past line events.Settle told is h all = stay_linked (asked line events.Settle ∷ past) _ (all_other (asked line events.Settle ∷ past) told (settle_other disks past line told h)) all
line_linked disks past line _ told is h all = absurd is

pub all_linked : (disks : List Disk) (entries : List Entry) → BringsEach disks entries → AreDrillLines entries → AreLinked (history entries)
all_linked disks [] h are = absurd are
all_linked disks (entry ∷ []) h are =
    let told : reverse entry.notes ≡ notes.Begin 2 true ∷ [] = subst (λ e. Brings disks [] entry.line e (reverse entry.notes)) are h.0 in
    let is : entry.notes ≡ notes.Begin 2 true ∷ [] = sym (reverse-reverse entry.notes) ∙ ap reverse told in
    subst (λ ns. AreLinked (map said ns ++ asked entry.line entry.event ∷ [])) (sym is) (λ i n. refl)
all_linked disks (entry ∷ next ∷ before) h are =
    subst AreLinked (behind_latest (asked entry.line entry.event ∷ history (next ∷ before)) entry.notes)
    (line_linked disks (history (next ∷ before)) entry.line entry.event (reverse entry.notes) are.0 h.0 (all_linked disks (next ∷ before) h.1 are.1))

-- ---- the rows
mid_none : (past : List Moment) (i : ℕ) → ((n : ℕ) → linked past i n ≡ appends past i n) → (present : Option ℕ) → is_mid_link past i present ≡ false
mid_none past i all None = refl
mid_none past i all (Some n) = (let e = all n in by (nat_lt (linked past i n) (appends past i n)) refl e)
  where
    by : (b : Bool) → nat_lt (linked past i n) (appends past i n) ≡ b → linked past i n ≡ appends past i n → b ≡ false
    by true f e = absurd (grind (arith, nat_tests))
    by false f e = refl

rows : (stuck wrong waiting mid dead slot label : Bool) → stuck ≡ false → wrong ≡ false → waiting ≡ false → mid ≡ false → dead ≡ false
    → refusal_of (record { stuck = stuck; wrong_state = wrong; no_rom = false; waiting = waiting; mid_link = mid; not_linking = false; dead_seen = dead; no_orb = false; no_slot = slot; no_label = label }) ≡ refused_for slot label
rows true wrong waiting mid dead slot label a b c d e = cc a
rows false true waiting mid dead slot label a b c d e = cc b
rows false false true mid dead slot label a b c d e = cc c
rows false false false true dead slot label a b c d e = cc d
rows false false false false true slot label a b c d e = cc e
rows false false false false false slot label a b c d e = refl

pub refusal_is : (past : List Moment) (i : ℕ) (cmd : Cmd) → IsReadyFor past i → refusal_at past i (actions.Append cmd) ≡ lack_at past i cmd
refusal_is past i cmd ready =
    let host = host_at past i in
    let free : is_waiting (actions.Append cmd) (terms past) host ≡ false = ap (λ o. cuts_list (running_operation o)) ready.idle in
    rows (is_stuck host.session) (not (is_right_state (actions.Append cmd) host.session)) (is_waiting (actions.Append cmd) (terms past) host) (is_mid_link past i (present_list past i)) host.marked_dead
    (lowest_vacant (slots past i) == 32) (lacks_label (terms past) i (action_body (actions.Append cmd) past i host))
    (ap is_stuck ready.is_live) (ap (λ s. not (is_right_state (actions.Append cmd) s)) ready.is_live) free (mid_none past i ready.linked_all (present_list past i)) ready.unmarked

pub ready_of : (disks : List Disk) (entries : List Entry) → BringsEach disks entries → AreDrillLines entries → EachMoment DrillAt (history entries) → EachMoment IsCalmAt (history entries) → EachMoment IsAliveAt (history entries) → (i : ℕ) → i < 2 → IsReadyFor (history entries) i
ready_of disks entries brings lines d calm alive i small =
    let stands = all_stand disks entries brings lines d calm alive in
    record { is_live = (stands.lives i small).session; idle = (stands.idle i small).operation; unmarked = (stands.lives i small).unmarked; linked_all = all_linked disks entries brings lines i }

-- ---- no status tells of a dead agent: an ORB that does ends behind a death alone
plain_row : (i : ℕ) (list number : Option ℕ) (status : StatusKind) → IsFault (notes.Ended i list number status) ≡ false → ((row_of status).dead == 1) ≡ false
plain_row i list number kinds.Failed fault = absurd (cc fault)
plain_row i list number (kinds.Illegal meaning) fault = absurd (cc fault)
plain_row i list number _ fault = refl

ended_plain : (past : List Moment) → EachMoment FaultlessAt past → (i n k : ℕ) (status : StatusKind) → ended_status past i n k ≡ Some status → ((row_of status).dead == 1) ≡ false
ended_plain [] fault i n k status e = absurd (let no : None ≡ Some status = e in cc no)
ended_plain (said (notes.Ended j (Some m) (Some l) own) ∷ past) fault i n k status e = by (ended_plain past fault.1 i n k status) (plain_row j (Some m) (Some l) own fault.0) (nat_eq i j) (nat_eq n m) (nat_eq k l) e
  where
    by : (ended_status past i n k ≡ Some status → ((row_of status).dead == 1) ≡ false) → ((row_of own).dead == 1) ≡ false → (b c d : Bool) → cond b (cond c (cond d (Some own) (ended_status past i n k)) (ended_status past i n k)) (ended_status past i n k) ≡ Some status → ((row_of status).dead == 1) ≡ false
    by old here true true true e = (let same : own ≡ status = cc e in subst (λ s. ((row_of s).dead == 1) ≡ false) same here)
    by old here true true false e = old e
    by old here true false d e = old e
    by old here false c d e = old e
ended_plain (_ ∷ past) fault i n k status e = ended_plain past fault.1 i n k status e

each_alive : (past : List Moment) → EachMoment FaultlessAt past → EachMoment (TakenAt nobody) past → EachMoment IsUnstuckAt past → EachMoment IsAliveAt past
each_alive [] fault taken free = tt
each_alive (said (notes.Taken i n k status answer) ∷ past) fault taken free = (ended_plain past fault.1 i n k status (taken.0 refl).ended, each_alive past fault.1 taken.1 free.1)
each_alive (said (notes.Stuck i) ∷ past) fault taken free = absurd free.0
each_alive (asked line event ∷ past) fault taken free = (tt, each_alive past fault.1 taken.1 free.1)
each_alive (said note ∷ past) fault taken free = (tt, each_alive past fault.1 taken.1 free.1)

pub drills_refuse_little : DrillsRefuseLittle
drills_refuse_little = record {
  alive = λ disks entries lawful lists living free.
      let past : List Moment = history entries in
      let fault = (all_faultless disks past [] (begins_history entries lawful.run.lines) living tt lawful.causes).each in
      each_alive past fault lists.status.taken free;
  ready = λ disks entries lawful alive i small.
      let run = lawful.run in
      ready_of disks entries run.brings run.lines (drill_moments disks entries run.brings run.lines) (drills_are_calm disks entries lawful).calm alive i small;
  refusal = refusal_is;
}
