-- A drill comes to rest behind each settle.
use Rattle.std.proofs.Common.{◌≡◌, ◌∙◌, refl, sym, ap, subst, ℕ, zero, suc, ◌+◌, ◌≤◌, true, cond, List, [], ◌∷◌, ◌++◌, map, reverse, Option, Some, None, arith}
use Rattle.std.proofs.lemmas.List.{map-append, reverse-append, reverse-reverse}
use Rattle.bus_transactions.specs.Judging.{AreJudged}
use Rattle.rbc_disk.specs.Disk.{Disk}
use Rattle.sbp_journal.proofs.Each.{all_append}
use Rattle.sbp_journal.specs.Run.{Entry, Moment, asked, events_in, history, said}
use Rattle.sbp_journal.specs.declared.event.Cmd.{Cmd}
use Rattle.sbp_journal.specs.declared.event.Event.{Event}
use Rattle.sbp_journal.specs.declared.event.Event.TheVariants as events
use Rattle.sbp_journal.specs.declared.event.Action.TheVariants as actions
use Rattle.sbp_journal.specs.declared.note.Note.{Note}
use Rattle.sbp_journal.specs.declared.note.Note.TheVariants as notes
use Rattle.sbp_laws.specs.ActionLaw.{ActsOr, Brings}
use Rattle.sbp_laws.specs.Actions.{append_notes, link_notes, new_list, new_number, refusal_at}
use Rattle.sbp_laws.specs.Budget.{count_flying}
use Rattle.sbp_laws.specs.Completion.{EndsSettled, SettlesAt, in_the_air}
use Rattle.sbp_laws.specs.Deliveries.{EndsSettle, Settles, once_told}
use Rattle.sbp_laws.specs.SentRequests.{RequestsLaw}
use Rattle.sbp_laws.specs.SentPackets.{SentAt}
use Rattle.sbp_laws.specs.Turns.{EachMoment, EachTurnBefore, effects_of, sends_of}
use Rattle.drill_text.specs.Tally.{is_append}
use Rattle.drill_laws.specs.DrillLines.{IsDrillLine, append_lines, is_append_line}
use Rattle.drill_laws.specs.DrillSettles.{AreSettled, DrillsSettle, IsDrillRun, IsSettledAt, RestsBehind, events_said}
use Rattle.drill_laws.proofs.DrillAir.{AreActing, acting_air, acting_latest, is_acting, line_turn, none_in_the_air, one_sent, turns_before}
use Rattle.drill_laws.proofs.DrillBudget.{drill_budget}
use Rattle.drill_laws.proofs.DrillCounts.{appended_or_refused, append_lines-append, told_is}
use Rattle.drill_laws.proofs.DrillMoments.{drill_moments}
use Rattle.drill_laws.proofs.DrillWire.{is_quiet}

-- ---- a run without its last line
pub each_before : (At : Moment → List Moment → Type 0) (later earlier : List Moment) → EachMoment At (later ++ earlier) → EachMoment At earlier
each_before At [] earlier each = each
each_before At (moment ∷ later) earlier each = each_before At later earlier each.1

judged_before : (later earlier : List Moment) → AreJudged (later ++ earlier) → AreJudged earlier
judged_before [] earlier j = j
judged_before (said (notes.Got s) ∷ later) earlier j = judged_before later earlier j.1
judged_before (said (notes.Ignored s cause) ∷ later) earlier j = judged_before later earlier j.1
judged_before (_ ∷ later) earlier j = judged_before later earlier j

pub lines_split : (entry : Entry) (before : List Entry) → append_lines (events_said (entry ∷ before)) ≡ append_lines (events_said before) + cond (is_append_line entry.event) 1 0
lines_split entry before =
    let split = ap append_lines (map-append (λ one. one.1) (events_in before) ((entry.line, entry.event) ∷ [])) ∙ append_lines-append (events_said before) (entry.event ∷ []) in
    let one : append_lines (entry.event ∷ []) ≡ cond (is_append_line entry.event) 1 0 = omega arith in
    omega (arith, split, one)

pub before_last : (disks : List Disk) (entry next : Entry) (before : List Entry) → IsDrillRun disks (entry ∷ next ∷ before) → IsDrillRun disks (next ∷ before)
before_last disks entry next before r = record {
  lines = r.lines.1;
  few = let split = lines_split entry (next ∷ before) in let few = r.few in omega (arith, split, few);
  brings = r.brings.1;
  packets = (each_before SentAt (map said entry.notes) (asked entry.line entry.event ∷ history (next ∷ before)) r.packets).1;
  requests = turns_before (RequestsLaw disks) entry.notes [] (history (next ∷ before)) entry.line entry.event r.requests;
  judged = judged_before (map said entry.notes) (asked entry.line entry.event ∷ history (next ∷ before)) r.judged;
  settles = r.settles.1;
}

-- ---- a line that appends
sends_acting : (told : List Note) → AreActing (sends_of told)
sends_acting [] = tt
sends_acting (notes.Sent serial generation from to bytes ∷ rest) = (refl, sends_acting rest)
sends_acting (_ ∷ rest) = sends_acting rest

links_acting : (i n k : ℕ) → AreActing (link_notes i n k)
links_acting i n zero = tt
links_acting i n (suc k) = (refl, (refl, tt))

append_acting : (i n k : ℕ) (cmd : Cmd) → AreActing (append_notes i n k cmd)
append_acting i n k cmd = (refl, all_append (λ note. is_acting note ≡ true) (link_notes i n k) (notes.Rung i n k ∷ []) (links_acting i n k) (refl, tt))

pub line_acting : (disks : List Disk) (past : List Moment) (line i : ℕ) (cmd : Cmd) (told : List Note) → Brings disks past line (events.Act i (actions.Append cmd)) told → AreActing told
line_acting disks past line i cmd told h = by (refusal_at past i (actions.Append cmd)) h
  where
    by : (refusal : Option ℕ) → ActsOr refusal past line i (actions.Append cmd) told → AreActing told
    by (Some number) e = subst AreActing (sym e) (refl, tt)
    by None acts =
        subst AreActing (sym acts.first)
        (all_append (λ note. is_acting note ≡ true) (effects_of told) (sends_of told) (subst AreActing (sym acts.effects) (append_acting i (new_list past i) (new_number past i) cmd)) (sends_acting told))

append_air : (disks : List Disk) (past : List Moment) (line i : ℕ) (cmd : Cmd) (told : List Note) → Brings disks past line (events.Act i (actions.Append cmd)) (reverse told)
    → EachMoment SentAt (map said told ++ asked line (events.Act i (actions.Append cmd)) ∷ past) → EachTurnBefore (RequestsLaw disks) (map said told ++ asked line (events.Act i (actions.Append cmd)) ∷ past) []
    → in_the_air (map said told ++ asked line (events.Act i (actions.Append cmd)) ∷ past) ≤ 1 + in_the_air past
append_air disks past line i cmd told brings own each =
    let acting = acting_latest told (line_acting disks past line i cmd (reverse told) brings) in
    let most = acting_air told (asked line (events.Act i (actions.Append cmd)) ∷ past) acting own in
    let one = one_sent disks told past line i cmd (line_turn (RequestsLaw disks) told [] past line (events.Act i (actions.Append cmd)) acting each) in
    omega (arith, most, one)

-- ---- a settle
settle_rests : (past : List Moment) (line : ℕ) (told : List Note) → Settles (asked line events.Settle ∷ past) (reverse told) → EndsSettled told → in_the_air (map said told ++ asked line events.Settle ∷ past) ≡ 0
settle_rests past line told h ends =
    let is : told ≡ h.last ∷ reverse h.before = sym (reverse-reverse told) ∙ ap reverse h.is ∙ reverse-append h.before (h.last ∷ []) in
    subst (λ ns. in_the_air (map said ns ++ asked line events.Settle ∷ past) ≡ 0) (sym is) (by _ h.last h.ends (subst EndsSettled is ends))
  where
    by : (most : ℕ) (last : Note) → EndsSettle (asked line events.Settle ∷ past) most h.before last → EndsSettled (last ∷ reverse h.before) → in_the_air (said last ∷ once_told (asked line events.Settle ∷ past) h.before) ≡ 0
    by most notes.Settled none ends = none_in_the_air (once_told (asked line events.Settle ∷ past) h.before) none
    by most notes.Stopped none ends = absurd ends
    by most _ none ends = absurd none

-- ---- all lines
pub record AtRest (entries : List Entry) : Type 0 where
  pub air : in_the_air (history entries) ≤ append_lines (events_said entries)
  pub settled : AreSettled entries
  pub rests : RestsBehind entries

first_air : (entry : Entry) → entry.event ≡ events.Begin 2 true → reverse entry.notes ≡ notes.Begin 2 true ∷ [] → in_the_air (history (entry ∷ [])) ≡ 0
unfolding count_flying
first_air entry e told =
    let is : entry.notes ≡ notes.Begin 2 true ∷ [] = sym (reverse-reverse entry.notes) ∙ ap reverse told in
    ap (λ ns. in_the_air (map said ns ++ asked entry.line entry.event ∷ [])) is ∙ ap (λ v. in_the_air (said (notes.Begin 2 true) ∷ asked entry.line v ∷ [])) e

line_rests : (disks : List Disk) (entry next : Entry) (before : List Entry) (event : Event) → entry.event ≡ event → IsDrillLine event → IsDrillRun disks (entry ∷ next ∷ before) → AtRest (next ∷ before) → AtRest (entry ∷ next ∷ before)
line_rests disks entry next before (events.Act i (actions.Append cmd)) e is r was =
    let past = history (next ∷ before) in
    let brings = subst (λ v. Brings disks past entry.line v (reverse entry.notes)) e r.brings.0 in
    let own = subst (λ v. EachMoment SentAt (map said entry.notes ++ asked entry.line v ∷ past)) e r.packets in
    let each = subst (λ v. EachTurnBefore (RequestsLaw disks) (map said entry.notes ++ asked entry.line v ∷ past) []) e r.requests in
    let more = append_air disks past entry.line i cmd entry.notes brings own each in
    let split = lines_split entry (next ∷ before) in
    let one : cond {A = ℕ} (is_append_line entry.event) 1 0 ≡ 1 = ap {B = ℕ} (λ v. cond (is_append_line v) 1 0) e in
    let now : in_the_air (history (entry ∷ next ∷ before)) ≤ 1 + in_the_air past = subst (λ v. in_the_air (map said entry.notes ++ asked entry.line v ∷ past) ≤ 1 + in_the_air past) (sym e) more in
    let air = was.air in
    record {
      air = omega (arith, now, split, one, air);
      settled = (subst (λ v. IsSettledAt v entry.notes) (sym e) tt, was.settled);
      rests = λ settles. (let no : events.Act i (actions.Append cmd) ≡ events.Settle = sym e ∙ settles in absurd (cc no));
    }
line_rests disks entry next before events.Settle e is r was =
    let past = history (next ∷ before) in
    let run = before_last disks entry next before r in
    let d = drill_moments disks (next ∷ before) run.brings run.lines in
    let quiet = is_quiet past d run.packets run.judged in
    let appended = appended_or_refused disks (next ∷ before) run.brings run.lines in
    let same = told_is is_append (next ∷ before) in
    let few = run.few in
    let low = drill_budget past (append_lines (events_said (next ∷ before))) d was.air (omega (arith, appended, same)) in
    let ends : EndsSettled entry.notes = subst (λ v. SettlesAt v entry.notes past) e r.settles.0 quiet.lossless (omega (arith, low, few)) in
    let brings = subst (λ v. Brings disks past entry.line v (reverse entry.notes)) e r.brings.0 in
    let none : in_the_air (history (entry ∷ next ∷ before)) ≡ 0 = subst (λ v. in_the_air (map said entry.notes ++ asked entry.line v ∷ past) ≡ 0) (sym e) (settle_rests past entry.line entry.notes brings ends) in
    record {
      air = omega (arith, none);
      settled = (subst (λ v. IsSettledAt v entry.notes) (sym e) ends, was.settled);
      rests = λ settles. none;
    }
line_rests disks entry next before _ e is r was = absurd is

all_rest : (disks : List Disk) (entries : List Entry) → IsDrillRun disks entries → AtRest entries
all_rest disks [] r = absurd r.lines
all_rest disks (entry ∷ []) r =
    let told : reverse entry.notes ≡ notes.Begin 2 true ∷ [] = subst (λ v. Brings disks [] entry.line v (reverse entry.notes)) r.lines r.brings.0 in
    record {
      air = let none = first_air entry r.lines told in omega (arith, none);
      settled = (subst (λ v. IsSettledAt v entry.notes) (sym r.lines) tt, tt);
      rests = λ settles. (let no : events.Begin 2 true ≡ events.Settle = sym r.lines ∙ settles in absurd (cc no));
    }
all_rest disks (entry ∷ next ∷ before) r = line_rests disks entry next before entry.event refl r.lines.0 r (all_rest disks (next ∷ before) (before_last disks entry next before r))

pub drills_settle : DrillsSettle
drills_settle disks entries r =
    let rest = all_rest disks entries r in
    record {
      quiet = is_quiet (history entries) (drill_moments disks entries r.brings r.lines) r.packets r.judged;
      settled = rest.settled;
      at_rest = rest.rests;
    }
