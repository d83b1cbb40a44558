-- In every run a node sees a reset right behind the line that asks for it.
use Rattle.sbp_world.proofs.Words.Std.{sym, subst, ℕ, Bool, true, false, List, [], ◌∷◌, ◌++◌, map, Option, Some, None}
use Rattle.sbp_world.proofs.Words.Wire.{Judged, end_note, judged_note, Moment, asked, said, Event, Note}
use Rattle.sbp_world.proofs.Words.Target.{Told}
use Rattle.sbp_world.proofs.Words.Laws.{EachMoment}
use Rattle.sbp_world.proofs.Words.World.{IsRun, more_deliveries, history_of, moments_behind, MayHappen, happens, is_in_flight, may_repeat, AreEntries, Entry, Run, after, beginning, MayAll, MayNext, after_all, delivered_at, delivered_next, is_settled, lowest, AreLines, IsLine, Scene, begun, without_notes}
use Rattle.sbp_journal.specs.declared.cause.Judged.TheVariants as judgements
use Rattle.sbp_journal.specs.declared.event.Event.TheVariants as events
use Rattle.sbp_journal.specs.declared.note.Note.TheVariants as notes
use Rattle.sbp_world.specs.Settling.{MayAt}
use Rattle.sbp_world.proofs.Lists.SendsLast.{AllEffects, AllSends, Hands, Hears, IsEffect, IsSend, Shaped, acts, begins, delivery_hears, goes, hears, injects, keys, late, led, loses, one_comes, resets, sights, ticks, unheard}
use Rattle.sbp_world.proofs.Common.{said_split}

-- a node sees a reset right behind the line that asks for it
abbrev pub BeginsLine : List Moment → Type 0
BeginsLine (asked line event ∷ past) = Unit {0}
BeginsLine past = ⊥

abbrev pub SightAt : Moment → List Moment → Type 0
SightAt (said (notes.Seen node generation)) past = BeginsLine past
SightAt moment past = Unit {0}

abbrev E : List Moment → Type 0
E past = EachMoment SightAt past

effect_on : (note : Note) (past : List Moment) → IsEffect note → E past → E (said note ∷ past)
effect_on (notes.Seen node generation) past q e = absurd q
effect_on note past q e = (tt, e)

send_on : (note : Note) (past : List Moment) → IsSend note → E past → E (said note ∷ past)
send_on (notes.Sent serial generation from to bytes) past q e = (tt, e)
send_on note past q e = absurd q

line_start : (note : Note) (line : ℕ) (event : Event) (past : List Moment) → E past → E (said note ∷ asked line event ∷ past)
line_start (notes.Seen node generation) line event past e = (tt, (tt, e))
line_start note line event past e = (tt, (tt, e))

judged_on : (serial : ℕ) (judged : Judged) (past : List Moment) → E past → E (said (judged_note serial judged) ∷ past)
judged_on serial judgements.Got past e = (tt, e)
judged_on serial (judgements.Ignored cause) past e = (tt, e)

ended_on : (done : Bool) (past : List Moment) → E past → E (said (end_note done) ∷ past)
ended_on true past e = (tt, e)
ended_on false past e = (tt, e)

more_effects : (more : List Note) (past : List Moment) → AllEffects more → E past → E (map said more ++ past)
more_effects [] past q e = e
more_effects (note ∷ more) past q e = effect_on note (map said more ++ past) q.0 (more_effects more past q.1 e)

more_sends : (more : List Note) (past : List Moment) → AllSends more → E past → E (map said more ++ past)
more_sends [] past q e = e
more_sends (note ∷ more) past q e = send_on note (map said more ++ past) q.0 (more_sends more past q.1 e)

hands_on : (old new : List Note) (past : List Moment) → Hands old new → E (map said old ++ past) → E (map said new ++ past)
hands_on old new past h base =
    let sends = h.sent.more in
    let told = h.told.more in
    let middle : E (map said h.middle ++ past) =
    subst (λ ns. E (map said ns ++ past)) h.told.is (subst E (sym (said_split told old past)) (more_effects told (map said old ++ past) h.told.effects base)) in
    subst (λ ns. E (map said ns ++ past)) h.sent.is (subst E (sym (said_split sends h.middle past)) (more_sends sends (map said h.middle ++ past) h.sent.sends middle))

hears_on : (old new : List Note) (past : List Moment) → Hears old new → E (map said old ++ past) → E (map said new ++ past)
hears_on old new past (unheard e) h = subst (λ ns. E (map said ns ++ past)) (sym e) h
hears_on old new past (hears serial judged x) h = hands_on (judged_note serial judged ∷ old) new past x (judged_on serial judged (map said old ++ past) h)

-- ---- deliveries, one after the other
lowest_on : (past : List Moment) (s : Scene) (one : Option Told) (o : Option ℕ) → MayAt o one s → E (map said s.world.fresh ++ past) → E (map said (delivered_at o one s).world.fresh ++ past)
lowest_on past s one None m h = absurd m
lowest_on past s one (Some serial) m h = hears_on s.world.fresh _ past (delivery_hears s serial false one m) h

next_on : (past : List Moment) (s : Scene) (one : Option Told) → MayNext one s → E (map said s.world.fresh ++ past) → E (map said (delivered_next one s).world.fresh ++ past)
unfolding delivered_next MayNext
next_on past s one m h = lowest_on past s one (lowest s.world) m h

all_on : (past : List Moment) (told : List (Option Told)) (s : Scene) → MayAll told s → E (map said s.world.fresh ++ past) → E (map said (after_all told s).world.fresh ++ past)
all_on past [] s m h = h
all_on past (one ∷ told) s m h = next_on past (after_all told s) one m.0 (all_on past told s m.1 h)

-- ---- a line
module _ (past : List Moment) (h : E past) (line : ℕ) (s : Scene) where
  shaped_line : (event : Event) (new : List Note) → Shaped [] new → E (map said new ++ asked line event ∷ past)
  shaped_line event new (goes x) = hands_on [] new (asked line event ∷ past) x (tt, h)
  shaped_line event new (begins note q x) = hands_on (note ∷ []) new (asked line event ∷ past) x (line_start note line event past h)

  line_on : (event : Event) (told : List (Option Told)) (initiators : ℕ) → IsLine event initiators → MayHappen event told s → E (map said (happens line event told s).world.fresh ++ asked line event ∷ past)
  unfolding happens MayHappen
  line_on (events.Begin initiators is_ready) told few q m = absurd q
  line_on (events.Act i action) told few q m = shaped_line (events.Act i action) _ (led (acts (without_notes s.world) line i action))
  line_on (events.Reset physical) told few q m = shaped_line (events.Reset physical) _ (led (resets (without_notes s.world) physical))
  line_on (events.See node) told few q m = shaped_line (events.See node) _ (led (sights (without_notes s.world) node))
  line_on (events.Deliver serial) told few q m = shaped_line (events.Deliver serial) _ (one_comes (begun s) line serial false (is_in_flight serial (begun s).world) told m)
  line_on (events.Repeat serial) told few q m = shaped_line (events.Repeat serial) _ (one_comes (begun s) line serial true (may_repeat serial (begun s).world) told m)
  line_on (events.Lose serial) told few q m = shaped_line (events.Lose serial) _ (led (loses (without_notes s.world) line serial))
  line_on (events.Timeout serial) told few q m = shaped_line (events.Timeout serial) _ (led (late (without_notes s.world) line serial))
  line_on (events.Step count) told few q m = all_on (asked line (events.Step count) ∷ past) told (begun s) m.may (tt, h)
  line_on events.Settle told few q m =
      let now = asked line events.Settle ∷ past in
      let t = after_all told (begun s) in
      ended_on (is_settled t.world) (map said t.world.fresh ++ now) (all_on now told (begun s) m.may (tt, h))
  line_on events.Tick told few q m = shaped_line events.Tick _ (led (ticks (without_notes s.world)))
  line_on (events.Inject i bytes) told few q m = shaped_line (events.Inject i bytes) _ (led (injects (without_notes s.world) line i bytes))
  line_on (events.Key unit key) told few q m = shaped_line (events.Key unit key) _ (led (keys (without_notes s.world) line unit key))

-- ---- a run
lines_on : (line : ℕ) (run : Run) (entries : List Entry) → AreEntries (beginning run) entries → AreLines run entries → E (moments_behind line run entries)
lines_on line run [] every fit = (tt, (tt, tt))
lines_on line run (e ∷ before) every fit =
    subst (λ ns. E (map said ns ++ asked e.line e.event ∷ moments_behind line run before)) (sym every.0.notes_are)
    (line_on (moments_behind line run before) (lines_on line run before every.1 fit.1) e.line (after (beginning run) before) e.event e.told _ fit.0 every.0.may)

pub sights_after : (line : ℕ) (run : Run) → IsRun run → EachMoment SightAt (history_of line run)
sights_after line run r = lines_on line run run.entries r.entries r.lines

pub sights_between : (line : ℕ) (run : Run) → IsRun run → (next : ℕ) (most : Option ℕ) (told : List (Option Told)) → MayAll told (begun (after (beginning run) run.entries)) → EachMoment SightAt (map said (after_all told (begun (after (beginning run) run.entries))).world.fresh ++ asked next (more_deliveries most) ∷ history_of line run)
sights_between line run r next most told m = all_on (asked next (more_deliveries most) ∷ history_of line run) told (begun (after (beginning run) run.entries)) m (tt, lines_on line run run.entries r.entries r.lines)
