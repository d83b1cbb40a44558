-- What is said of the ORBs of agents stays so over a turn, where it is so of what the packet brings that the target gets in it.
use Rattle.sbp_world.proofs.Words.Std.{◌≡◌, refl, sym, ap, subst, ℕ, true, false, cond, List, [], ◌∷◌, ◌++◌, map, Option, Some, None}
use Rattle.sbp_world.proofs.Words.Wire.{judged_note, Moment, asked, said, Terms, terms, Judged, Event, Note}
use Rattle.sbp_world.proofs.Words.Target.{Disk, Told}
use Rattle.sbp_world.proofs.Words.Initiator.{CommandOrb}
use Rattle.sbp_world.proofs.Words.Laws.{answered_at, receiver_in, Target, got_by, is_serial, known_at, over, target_at, EachMoment}
use Rattle.sbp_world.proofs.Words.World.{AreAskedAt, MayHappen, happens, is_in_flight, may_repeat, MayNext, delivered_at, delivered_next, lowest, Scene, begun, without_notes, AreLed, LedAsGot, AskedAsGot}
use Rattle.sbp_world.proofs.Lists.FedFolds.{so}
use Rattle.sbp_world.proofs.Agents.Management.Firsts.{wire_is}
use Rattle.sbp_world.proofs.Agents.Management.Still.{hist}
use Rattle.sbp_journal.specs.declared.cause.Judged.TheVariants as judgements
use Rattle.sbp_journal.specs.declared.event.Event.TheVariants as events
use Rattle.sbp_journal.specs.declared.note.Note.TheVariants as notes
use Rattle.sbp_world.specs.Settling.{MayAt}
use Rattle.sbp_world.proofs.Lists.OrbFolds.{AreReading, Has, over_reads}
use Rattle.sbp_world.proofs.Lists.OrbNotes.{GotBrings, IfGot, note_reads}
use Rattle.sbp_world.proofs.Lists.OrbWaits.{over_twice}
use Rattle.sbp_world.proofs.Lists.Quiet.{AllQuiet, Comes, Hears, IsQuiet, Quietly, acts, comes, delivery_hears, hears, injects, keys, late, loses, nothing, one_comes, quiet_none, resets, sights, ticks, unheard}
use Rattle.sbp_world.proofs.Lists.Turned.{IsOne}
use Rattle.sbp_world.proofs.Common.{said_split}
use Rattle.sbp_world.proofs.Lists.StatusLogins.{each_there as each_at}

-- ---- a turn, by its first moments
pub data Course (before now : List Moment) : Type 0 where
  as_it_was : now ≡ before → Course before now
  by_asked : (front : List Note) → AllQuiet front → (line : ℕ) (event : Event) → map said front ++ asked line event ∷ before ≡ now → Course before now
  by_noted : (front : List Note) → AllQuiet front → (note : Note) (line : ℕ) (event : Event) → map said front ++ said note ∷ asked line event ∷ before ≡ now → Course before now
  by_judged : (front : List Note) → AllQuiet front → (serial : ℕ) (judged : Judged) → map said front ++ said (judged_note serial judged) ∷ before ≡ now → Course before now

pub none_behind : (a : List Note) → a ++ [] ≡ a
none_behind [] = refl
none_behind (n ∷ a) = ap (λ ns. n ∷ ns) (none_behind a)

of_hears : (past : List Moment) (old new : List Note) → Hears old new → Course (map said old ++ past) (map said new ++ past)
of_hears past old new (unheard e) = as_it_was (ap (λ ns. map said ns ++ past) e)
of_hears past old new (hears serial judged q) =
    by_judged q.more q.quiet serial judged
    (subst (λ ms. ms ≡ map said new ++ past) (said_split q.more (judged_note serial judged ∷ old) past) (ap (λ ns. map said ns ++ past) q.is))

module _ (line : ℕ) (event : Event) (past : List Moment) (new : List Note) where
  abbrev now : List Moment
  now = map said new ++ asked line event ∷ past

  line_quiet : Quietly [] new → Course past now
  line_quiet q =
      by_asked q.more q.quiet line event
      (ap (λ ns. map said ns ++ asked line event ∷ past) (subst (λ ns. ns ≡ new) (none_behind q.more) q.is))

  line_comes : Comes [] new → Course past now
  line_comes (nothing e) = by_asked [] tt line event (ap (λ ns. map said ns ++ asked line event ∷ past) (sym e))
  line_comes (comes note q) =
      by_noted q.more q.quiet note line event
      (subst (λ ms. ms ≡ now) (said_split q.more (note ∷ []) (asked line event ∷ past)) (ap (λ ns. map said ns ++ asked line event ∷ past) q.is))

pub line_course : (past : List Moment) (s : Scene) (line : ℕ) (event : Event) (told : List (Option Told)) → IsOne event → MayHappen event told s → Course (hist past s.world) (hist (asked line event ∷ hist past s.world) (happens line event told s).world)
unfolding happens MayHappen
line_course past s line (events.Begin initiators is_ready) told o m = line_quiet line (events.Begin initiators is_ready) (hist past s.world) [] (quiet_none [])
line_course past s line (events.Act i action) told o m = line_quiet line (events.Act i action) (hist past s.world) _ (acts (without_notes s.world) line i action)
line_course past s line (events.Reset physical) told o m = line_quiet line (events.Reset physical) (hist past s.world) _ (resets (without_notes s.world) physical)
line_course past s line (events.See node) told o m = line_quiet line (events.See node) (hist past s.world) _ (sights (without_notes s.world) node)
line_course past s line (events.Deliver serial) told o m = line_comes line (events.Deliver serial) (hist past s.world) _ (one_comes (begun s) line serial false (is_in_flight serial (begun s).world) told m)
line_course past s line (events.Repeat serial) told o m = line_comes line (events.Repeat serial) (hist past s.world) _ (one_comes (begun s) line serial true (may_repeat serial (begun s).world) told m)
line_course past s line (events.Lose serial) told o m = line_quiet line (events.Lose serial) (hist past s.world) _ (loses (without_notes s.world) line serial)
line_course past s line (events.Timeout serial) told o m = line_quiet line (events.Timeout serial) (hist past s.world) _ (late (without_notes s.world) line serial)
line_course past s line (events.Step count) told o m = absurd o
line_course past s line events.Settle told o m = absurd o
line_course past s line events.Tick told o m = line_quiet line events.Tick (hist past s.world) _ (ticks (without_notes s.world))
line_course past s line (events.Inject i bytes) told o m = line_quiet line (events.Inject i bytes) (hist past s.world) _ (injects (without_notes s.world) line i bytes)
line_course past s line (events.Key unit key) told o m = line_quiet line (events.Key unit key) (hist past s.world) _ (keys (without_notes s.world) line unit key)

lowest_course : (past : List Moment) (s : Scene) (one : Option Told) (o : Option ℕ) → MayAt o one s → Course (hist past s.world) (hist past (delivered_at o one s).world)
lowest_course past s one None m = absurd m
lowest_course past s one (Some serial) m = of_hears past s.world.fresh _ (delivery_hears s serial false one m)

pub delivery_course : (past : List Moment) (s : Scene) (one : Option Told) → MayNext one s → Course (hist past s.world) (hist past (delivered_next one s).world)
unfolding delivered_next MayNext
delivery_course past s one m = lowest_course past s one (lowest s.world) m

-- ---- what is said of the ORBs of agents
module _ (start : List Disk) (R : ℕ → ℕ → CommandOrb → Type 0) (now : List Moment) where
  abbrev Is : List Moment → Type 0
  Is past = AreReading R (target_at start past)

  abbrev Over : List Moment → Type 0
  Over past = AreReading R (over (target_at start past))

  -- what a packet brings that is got in this turn
  abbrev pub Gets : List Moment → Type 0
  Gets past =
      (serial : ℕ) (later : List Moment) → later ++ said (notes.Got serial) ∷ past ≡ now → AreAskedAt start past → AreLed start past → is_serial (receiver_in ((terms past).sent serial)) 0 ≡ true → GotBrings R (terms past) serial (over (target_at start past))

  quiet_got : (note : Note) (past : List Moment) → IsQuiet note → IfGot R note (terms past) (target_at start past)
  quiet_got (notes.Got serial) past q = absurd q
  quiet_got note past q = tt

  if_gets : (note : Note) (past later : List Moment) → later ++ said note ∷ past ≡ now → AskedAsGot start (said note) past → LedAsGot start (said note) past → Gets past → IfGot R note (terms past) (target_at start past)
  if_gets (notes.Got serial) past later e a l g = g serial later e a l
  if_gets note past later e a l g = tt

  note_on : (note : Note) (past : List Moment) → IfGot R note (terms past) (target_at start past) → Is past → Is (said note ∷ past)
  note_on note past g h = note_reads R note past (known_at start past).wire (target_at start past) h (subst (λ (wire : Terms). IfGot R note wire (target_at start past)) (sym (wire_is start past)) g)

  quiet_on : (front : List Note) (past : List Moment) → AllQuiet front → Is past → Is (map said front ++ past)
  quiet_on [] past q h = h
  quiet_on (note ∷ front) past q h = note_on note (map said front ++ past) (quiet_got note (map said front ++ past) q.0) (quiet_on front past q.1 h)

  -- a packet that is got, or ignored
  judged_on : (serial : ℕ) (judged : Judged) (past later : List Moment) → later ++ said (judged_note serial judged) ∷ past ≡ now → AskedAsGot start (said (judged_note serial judged)) past → LedAsGot start (said (judged_note serial judged)) past → Gets past → Over past → Is (said (judged_note serial judged) ∷ past)
  judged_on serial (judgements.Ignored cause) past later e a l g h = h
  judged_on serial judgements.Got past later e a l g h =
      let wire = (known_at start past).wire in
      let T = target_at start past in
      let twice = over_twice T in
      let brings : IfGot R (notes.Got serial) wire (over T) =
      subst (λ (y : Terms). IfGot R (notes.Got serial) y (over T)) (sym (wire_is start past))
      (λ f. subst (λ x. GotBrings R (terms past) serial x) (sym twice) (g serial later e a l f)) in
      subst (λ (x : Target). AreReading R (cond (is_serial (receiver_in (wire.sent serial)) 0) (got_by (answered_at wire serial) wire serial x) x)) twice
      (note_reads R (notes.Got serial) past wire (over T) h brings)

  over_now : (past : List Moment) → Is past → Over past
  over_now past h = so (Has R) (over (target_at start past)) (over_reads R (target_at start past) h)

  pub turn_over : (before : List Moment) → Course before now → EachMoment (AskedAsGot start) now → EachMoment (LedAsGot start) now → Gets before → ((line : ℕ) (event : Event) → Gets (asked line event ∷ before)) → AreReading R (over (target_at start before)) → AreReading R (over (target_at start now))
  turn_over before (as_it_was e) a l g g_line h = subst Over (sym e) h
  turn_over before (by_asked front q line event is) a l g g_line h =
      subst Over is (over_now (map said front ++ asked line event ∷ before) (quiet_on front (asked line event ∷ before) q h))
  turn_over before (by_noted front q note line event is) a l g g_line h =
      let past = asked line event ∷ before in
      let a_then = each_at (AskedAsGot start) (map said front) (said note) past (subst (EachMoment (AskedAsGot start)) (sym is) a) in
      let l_then = each_at (LedAsGot start) (map said front) (said note) past (subst (EachMoment (LedAsGot start)) (sym is) l) in
      subst Over is (over_now (map said front ++ said note ∷ past) (quiet_on front (said note ∷ past) q (note_on note past (if_gets note past (map said front) is a_then l_then (g_line line event)) h)))
  turn_over before (by_judged front q serial judged is) a l g g_line h =
      let note = judged_note serial judged in
      let a_then = each_at (AskedAsGot start) (map said front) (said note) before (subst (EachMoment (AskedAsGot start)) (sym is) a) in
      let l_then = each_at (LedAsGot start) (map said front) (said note) before (subst (EachMoment (LedAsGot start)) (sym is) l) in
      subst Over is (over_now (map said front ++ said note ∷ before) (quiet_on front (said note ∷ before) q (judged_on serial judged before (map said front) is a_then l_then g h)))
