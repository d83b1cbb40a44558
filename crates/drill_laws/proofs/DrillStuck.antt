-- No session of a drill gets stuck: over its lines, by what is known of the rings before each.
use Rattle.std.proofs.Common.{◌≡◌, ◌∙◌, refl, sym, ap, subst, ℕ, zero, suc, ◌<◌, ◌≤◌, true, List, [], ◌∷◌, ◌++◌, length, map, reverse, Some, None, arith}
use Rattle.std.specs.List.{AllByRecursion}
use Rattle.std.proofs.lemmas.List.{reverse-reverse}
use Rattle.bus_transactions.specs.Answers.{AreAnswered}
use Rattle.bus_transactions.specs.Sent.{AreSent}
use Rattle.rbc_disk.specs.Disk.{Disk}
use Rattle.sbp_journal.specs.Run.{Entry, Moment, asked, history, said}
use Rattle.sbp_journal.specs.Wire.{free, waits}
use Rattle.sbp_journal.specs.declared.event.Event.{Event}
use Rattle.sbp_journal.specs.declared.event.Event.TheVariants as events
use Rattle.sbp_journal.specs.declared.event.Action.TheVariants as actions
use Rattle.sbp_journal.specs.declared.note.Note.{Note}
use Rattle.sbp_journal.specs.declared.note.Note.TheVariants as notes
use Rattle.sbp_journal.proofs.Each.{all_append}
use Rattle.sbp_laws.specs.ActionLaw.{Brings}
use Rattle.sbp_laws.specs.Budget.{settle_deliveries}
use Rattle.sbp_laws.specs.Deliveries.{EndsSettle}
use Rattle.sbp_laws.specs.SentRequests.{RequestsLaw}
use Rattle.sbp_laws.specs.Targets.{new_target, over, target_at}
use Rattle.sbp_world.proofs.Lists.AgentFolds.{AreSo, new_there, over_still, so, stand_still}
use Rattle.drill_laws.specs.DrillLines.{IsDrillLine}
use Rattle.drill_laws.proofs.DrillActs.{act_fine}
use Rattle.drill_laws.proofs.DrillAir.{acting_latest, all_reverse, line_turn, onto}
use Rattle.drill_laws.proofs.DrillAgentsFresh.{IsFresh, IsFreshAt, fresh_kept, new_fresh}
use Rattle.drill_laws.proofs.DrillSettles.{before_last, line_acting}
use Rattle.sbp_laws.specs.Hosts.{host_at}
use Rattle.sbp_laws.specs.SentPackets.{SentAt}
use Rattle.sbp_laws.specs.Turns.{EachMoment, EachTurnBefore}
use Rattle.drill_laws.specs.DrillCalm.{IsLawfulDrill}
use Rattle.drill_laws.specs.DrillRefused.{IsUnstuckAt}
use Rattle.drill_laws.specs.DrillStuck.{DrillsStayUnstuck}
use Rattle.drill_laws.proofs.DrillCalm.{TurnLaws, acting_onto, fine_onto, first_calm, lawful_before, together}
use Rattle.drill_laws.proofs.DrillRefused.{AreOther, is_other, lowest_other}
use Rattle.drill_laws.proofs.DrillMoments.{DrillAt, drill_moments}
use Rattle.drill_laws.proofs.DrillServes.{IsPointed, Serves}
use Rattle.drill_laws.proofs.DrillSends.{asked_serves}
use Rattle.drill_laws.proofs.DrillServed.{IsFree}
use Rattle.drill_laws.proofs.DrillActing.{acting_free, acting_walk, line_acts}
use Rattle.drill_laws.proofs.DrillSettling.{settle_walk}
use Rattle.drill_laws.proofs.DrillWire.{young}

-- ---- all lines
record AllServe (start : List Disk) (past : List Moment) : Type 0 where
  here : Serves start past
  each : EachMoment IsUnstuckAt past

free_unstuck : (note : Note) (past : List Moment) → IsFree note → IsUnstuckAt (said note) past
free_unstuck (notes.Stuck i) past f = absurd f
free_unstuck _ past f = tt

each_unstuck : (told : List Note) (past : List Moment) → AllByRecursion IsFree told → EachMoment IsUnstuckAt past → EachMoment IsUnstuckAt (map said told ++ past)
each_unstuck [] past all each = each
each_unstuck (note ∷ told) past all each = (free_unstuck note (map said told ++ past) all.0, each_unstuck told past all.1 each)

last_other : (earlier : List Moment) (most : ℕ) (ns : List Note) (note : Note) → EndsSettle earlier most ns note → is_other note ≡ true
last_other earlier most ns notes.Settled h = refl
last_other earlier most ns notes.Stopped h = refl
last_other earlier most ns _ h = absurd h

settle_other : (disks : List Disk) (past : List Moment) (line : ℕ) (told : List Note) → Brings disks past line events.Settle (reverse told) → AreOther told
settle_other disks past line told h =
    let fwd = subst AreOther (sym h.is) (all_append (λ note. is_other note ≡ true) h.before (h.last ∷ []) (lowest_other _ h.before h.delivers.lowest) (last_other (asked line events.Settle ∷ past) (settle_deliveries (asked line events.Settle ∷ past)) h.before h.last h.ends, tt)) in
    subst AreOther (reverse-reverse told) (all_reverse (λ note. is_other note ≡ true) (reverse told) fwd)

answered_before : (told : List Note) (past : List Moment) → AreAnswered (map said told ++ past) → AreAnswered past
answered_before [] past a = a
answered_before (notes.Sent s generation from to bytes ∷ told) past a = answered_before told past a.1
answered_before (notes.Injected s ∷ told) past a = answered_before told past a.1
answered_before (notes.Got s ∷ told) past a = answered_before told past a.1
answered_before (notes.Ignored s cause ∷ told) past a = answered_before told past a.1
answered_before (notes.Lost s ∷ told) past a = answered_before told past a.1
answered_before (notes.TimedOut s ∷ told) past a = answered_before told past a.1
answered_before (notes.Reset generation ∷ told) past a = answered_before told past a.1
answered_before (notes.Seen node generation ∷ told) past a = answered_before told past a.1
answered_before (_ ∷ told) past a = answered_before told past a

first_fresh : (start : List Disk) (line i : ℕ) → AreSo (IsFreshAt i) (target_at start (said (notes.Begin 2 true) ∷ asked line (events.Begin 2 true) ∷ []))
first_fresh start line i =
    let base : AreSo (IsFreshAt i) (new_target start) = record { agents = λ q e f. subst IsFresh (sym (new_there 8 q)) new_fresh; pending = λ reply e. absurd (let bad : None ≡ Some reply = e in cc bad) } in
    so (IsFreshAt i) _ (stand_still (IsFreshAt i) _ (over (new_target start)) refl refl (over_still (IsFreshAt i) (fresh_kept i).lasting (new_target start) base))

first_serves : (start : List Disk) (line : ℕ) → Serves start (said (notes.Begin 2 true) ∷ asked line (events.Begin 2 true) ∷ [])
first_serves start line = record {
  calm = first_calm start line;
  wired = record { held = λ u kind s e. absurd (let bad : free ≡ waits kind s = e in cc bad); count = λ s q e. absurd (let bad : None ≡ Some q = e in cc bad); given = λ u r. refl; repeats = refl };
  rings = λ s i q e f. absurd (let bad : None ≡ Some q = e in cc bad);
  answers = λ s q e. absurd (let bad : None ≡ Some q = e in cc bad);
  table = refl;
  hosts = unpointed;
  fresh = λ i small a. first_fresh start line i;
}
  where
    unpointed : (i p : ℕ) → i < 2 → (host_at (said (notes.Begin 2 true) ∷ asked line (events.Begin 2 true) ∷ []) i).pointer ≡ Some p → IsPointed (said (notes.Begin 2 true) ∷ asked line (events.Begin 2 true) ∷ []) i p
    unpointed zero p small e = absurd (let bad : None ≡ Some p = e in cc bad)
    unpointed (suc zero) p small e = absurd (let bad : None ≡ Some p = e in cc bad)
    unpointed (suc (suc i)) p small e = absurd (omega (arith, small))

abbrev ServesOn : List Disk → Entry → Entry → List Entry → Type 0
ServesOn disks entry next before = AllServe disks (history (next ∷ before)) → AllServe disks (history (entry ∷ next ∷ before))

line_serves : (disks : List Disk) (entry next : Entry) (before : List Entry) (event : Event) → length disks ≤ 4 → entry.event ≡ event → IsDrillLine event → IsLawfulDrill disks (entry ∷ next ∷ before) → AreAnswered (history (entry ∷ next ∷ before)) → ServesOn disks entry next before
line_serves disks entry next before (events.Act i (actions.Append cmd)) few e is l answered was =
    let past = history (next ∷ before) in
    let run = before_last disks entry next before l.run in
    let brings = subst (λ v. Brings disks past entry.line v (reverse entry.notes)) e l.run.brings.0 in
    let acting = acting_latest entry.notes (line_acting disks past entry.line i cmd (reverse entry.notes) brings) in
    let d = drill_moments disks (entry ∷ next ∷ before) l.run.brings l.run.lines in
    let requests = line_turn (RequestsLaw disks) entry.notes [] past entry.line (events.Act i (actions.Append cmd)) acting (subst (λ v. EachTurnBefore (RequestsLaw disks) (map said entry.notes ++ asked entry.line v ∷ past) []) e l.run.requests) in
    let y = young past (drill_moments disks (next ∷ before) run.brings run.lines) run.packets in
    let fine = (fine_onto entry.notes [] (act_fine disks past entry.line i cmd is.0 was.here.calm y (onto entry.notes []) (acting_onto entry.notes [] acting tt) requests)).0 in
    let there = asked_serves disks entry.line (events.Act i (actions.Append cmd)) past is was.here in
    let acts = line_acts disks past entry.line i cmd is.0 was.here entry.notes y acting brings requests in
    let now = acting_walk disks entry.notes (asked entry.line (events.Act i (actions.Append cmd)) ∷ past) acting fine acts (subst (λ v. EachMoment DrillAt (map said entry.notes ++ asked entry.line v ∷ past)) e d) (subst (λ v. EachMoment SentAt (map said entry.notes ++ asked entry.line v ∷ past)) e l.run.packets) (subst (λ v. AreSent (map said entry.notes ++ asked entry.line v ∷ past)) e l.sent) (subst (λ v. AreAnswered (map said entry.notes ++ asked entry.line v ∷ past)) e answered) there in
    record {
      here = subst (λ v. Serves disks (map said entry.notes ++ asked entry.line v ∷ past)) (sym e) now;
      each = each_unstuck entry.notes (asked entry.line entry.event ∷ past) (acting_free entry.notes acting) (tt, was.each);
    }
line_serves disks entry next before events.Settle few e is l answered was =
    let past = history (next ∷ before) in
    let d = drill_moments disks (entry ∷ next ∷ before) l.run.brings l.run.lines in
    let all = together disks (history (entry ∷ next ∷ before)) [] l.causes l.logins l.answers l.run.requests l.judges in
    let other = settle_other disks past entry.line entry.notes (subst (λ v. Brings disks past entry.line v (reverse entry.notes)) e l.run.brings.0) in
    let c = settle_walk disks few entry.line past was.here entry.notes [] other (subst (λ v. EachMoment DrillAt (map said entry.notes ++ asked entry.line v ∷ past)) e d) (subst (λ v. EachMoment SentAt (map said entry.notes ++ asked entry.line v ∷ past)) e l.run.packets) (subst (λ v. AreSent (map said entry.notes ++ asked entry.line v ∷ past)) e l.sent) (subst (λ v. AreAnswered (map said entry.notes ++ asked entry.line v ∷ past)) e answered) (subst (λ v. EachTurnBefore (TurnLaws disks) (map said entry.notes ++ asked entry.line v ∷ past) []) e all) in
    record {
      here = subst (λ v. Serves disks (map said entry.notes ++ asked entry.line v ∷ past)) (sym e) c.serves;
      each = each_unstuck entry.notes (asked entry.line entry.event ∷ past) c.each (tt, was.each);
    }
line_serves disks entry next before _ few e is l answered was = absurd is

all_serve : (disks : List Disk) (entries : List Entry) → length disks ≤ 4 → IsLawfulDrill disks entries → AreAnswered (history entries) → AllServe disks (history entries)
all_serve disks [] few l answered = absurd l.run.lines
all_serve disks (entry ∷ []) few l answered =
    let told : reverse entry.notes ≡ notes.Begin 2 true ∷ [] = subst (λ v. Brings disks [] entry.line v (reverse entry.notes)) l.run.lines l.run.brings.0 in
    let is : entry.notes ≡ notes.Begin 2 true ∷ [] = sym (reverse-reverse entry.notes) ∙ ap reverse told in
    subst (λ ns. AllServe disks (map said ns ++ asked entry.line entry.event ∷ [])) (sym is)
    (subst (λ v. AllServe disks (said (notes.Begin 2 true) ∷ asked entry.line v ∷ [])) (sym l.run.lines) (record { here = first_serves disks entry.line; each = (tt, (tt, tt)) }))
all_serve disks (entry ∷ next ∷ before) few l answered =
    line_serves disks entry next before entry.event few refl l.run.lines.0 l answered (all_serve disks (next ∷ before) few (lawful_before disks entry next before l) (answered_before entry.notes (asked entry.line entry.event ∷ history (next ∷ before)) answered).1)

pub drills_stay_unstuck : DrillsStayUnstuck
drills_stay_unstuck disks entries l k = (all_serve disks entries k.few l k.answered).each
