-- In each turn of every run the effects stand before the packets.
use Rattle.sbp_world.proofs.Words.Std.{◌≡◌, ◌∙◌, refl, sym, ap, subst, ℕ, Bool, true, false, cond, List, [], ◌∷◌, ◌++◌, map, Option, Some, None}
use Rattle.sbp_world.proofs.Words.Wire.{end_note, judged_note, Moment, asked, said, Event, Note}
use Rattle.sbp_world.proofs.Words.Target.{Told}
use Rattle.sbp_world.proofs.Words.Laws.{EachTurnBefore, effects_of, is_sent}
use Rattle.sbp_world.proofs.Words.World.{history_of, moments_behind, MayHappen, happens, is_in_flight, may_repeat, AreEntries, Entry, Run, after, beginning, MayAll, MayNext, after_all, delivered_at, delivered_next, is_settled, lowest, AreLines, IsLine, Scene, begun, without_notes, more_deliveries, SendsLast, SendsLastLaw}
use Rattle.sbp_journal.specs.declared.event.Event.TheVariants as events
use Rattle.sbp_journal.specs.declared.note.Note.TheVariants as notes
use Rattle.sbp_laws.specs.Turns.{sends_of}
use Rattle.sbp_world.specs.Settling.{MayAt}
use Rattle.sbp_world.proofs.Lists.SendsLast.{AllEffects, AllSends, Hands, Hears, IsEffect, IsSend, IsStart, Shaped, acts, begins, delivery_hears, goes, hears, injects, judged_starts, keys, late, led, loses, one_comes, resets, sights, ticks, unheard}
use Rattle.sbp_world.proofs.Common.{said_split}

-- ---- notes, the latest one first, in the order of time
abbrev behind : List Note → List Note → List Note
behind [] rest = rest
behind (note ∷ more) rest = behind more (note ∷ rest)

abbrev IsGood : List Note → Type 0
IsGood rest = rest ≡ effects_of rest ++ sends_of rest

sent_is : (note : Note) → IsSend note → is_sent note ≡ true
sent_is (notes.Sent serial generation from to bytes) q = refl
sent_is note q = absurd q

effect_is : (note : Note) → IsEffect note → is_sent note ≡ false
effect_is (notes.Sent serial generation from to bytes) q = absurd q
effect_is note q = refl

no_effects : (rest : List Note) → AllSends rest → effects_of rest ≡ []
no_effects [] q = refl
no_effects (note ∷ rest) q = ap (λ b. cond b (effects_of rest) (note ∷ effects_of rest)) (sent_is note q.0) ∙ no_effects rest q.1

all_sent : (rest : List Note) → AllSends rest → sends_of rest ≡ rest
all_sent [] q = refl
all_sent (note ∷ rest) q = ap (λ b. cond b (note ∷ sends_of rest) (sends_of rest)) (sent_is note q.0) ∙ ap (λ xs. note ∷ xs) (all_sent rest q.1)

sends_good : (rest : List Note) → AllSends rest → IsGood rest
sends_good rest q = sym (ap (λ xs. xs ++ sends_of rest) (no_effects rest q) ∙ all_sent rest q)

effect_good : (note : Note) (rest : List Note) → IsEffect note → IsGood rest → IsGood (note ∷ rest)
effect_good note rest q g =
    subst (λ b. note ∷ rest ≡ cond b (effects_of rest) (note ∷ effects_of rest) ++ cond b (note ∷ sends_of rest) (sends_of rest)) (sym (effect_is note q)) (ap (λ xs. note ∷ xs) g)

behind_sends : (more rest : List Note) → AllSends more → AllSends rest → AllSends (behind more rest)
behind_sends [] rest q r = r
behind_sends (note ∷ more) rest q r = behind_sends more (note ∷ rest) q.1 (q.0, r)

behind_effects : (more rest : List Note) → AllEffects more → IsGood rest → IsGood (behind more rest)
behind_effects [] rest q g = g
behind_effects (note ∷ more) rest q g = behind_effects more (note ∷ rest) q.1 (effect_good note rest q.0 g)

-- ---- the turns of a history
abbrev E : List Moment → List Note → Type 0
E past rest = EachTurnBefore SendsLast past rest

effect_on : (note : Note) (past : List Moment) (rest : List Note) → IsEffect note → E past (note ∷ rest) → E (said note ∷ past) rest
effect_on (notes.Sent serial generation from to bytes) past rest q e = absurd q
effect_on (notes.Got serial) past rest q e = absurd q
effect_on (notes.Ignored serial cause) past rest q e = absurd q
effect_on (notes.TimedOut serial) past rest q e = absurd q
effect_on (notes.Seen node generation) past rest q e = absurd q
effect_on notes.Tick past rest q e = absurd q
effect_on notes.Settled past rest q e = absurd q
effect_on notes.Stopped past rest q e = absurd q
effect_on note past rest q e = e

send_on : (note : Note) (past : List Moment) (rest : List Note) → IsSend note → E past (note ∷ rest) → E (said note ∷ past) rest
send_on (notes.Sent serial generation from to bytes) past rest q e = e
send_on note past rest q e = absurd q

start_on : (note : Note) → IsStart note → (past : List Moment) (rest : List Note) → IsGood rest → E past [] → E (said note ∷ past) rest
start_on (notes.Got serial) q past rest g e = (g, e)
start_on (notes.Ignored serial cause) q past rest g e = (g, e)
start_on (notes.TimedOut serial) q past rest g e = (g, e)
start_on (notes.Seen node generation) q past rest g e = (g, e)
start_on notes.Tick q past rest g e = (g, e)
start_on notes.Settled q past rest g e = (g, e)
start_on notes.Stopped q past rest g e = (g, e)
start_on note q past rest g e = absurd q

more_effects : (more : List Note) (past : List Moment) (rest : List Note) → AllEffects more → E past (behind more rest) → E (map said more ++ past) rest
more_effects [] past rest q e = e
more_effects (note ∷ more) past rest q e = effect_on note (map said more ++ past) rest q.0 (more_effects more past (note ∷ rest) q.1 e)

more_sends : (more : List Note) (past : List Moment) (rest : List Note) → AllSends more → E past (behind more rest) → E (map said more ++ past) rest
more_sends [] past rest q e = e
more_sends (note ∷ more) past rest q e = send_on note (map said more ++ past) rest q.0 (more_sends more past (note ∷ rest) q.1 e)

hands_on : (old new : List Note) (past : List Moment) → Hands old new → ((rest : List Note) → IsGood rest → E (map said old ++ past) rest) → E (map said new ++ past) []
hands_on old new past h base =
    let sends = h.sent.more in
    let told = h.told.more in
    let last = behind sends [] in
    let good = behind_effects told last h.told.effects (sends_good last (behind_sends sends [] h.sent.sends tt)) in
    let middle : E (map said h.middle ++ past) last =
    subst (λ ns. E (map said ns ++ past) last) h.told.is (subst (λ ms. E ms last) (sym (said_split told old past)) (more_effects told (map said old ++ past) last h.told.effects (base (behind told last) good))) in
    subst (λ ns. E (map said ns ++ past) []) h.sent.is (subst (λ ms. E ms []) (sym (said_split sends h.middle past)) (more_sends sends (map said h.middle ++ past) [] h.sent.sends middle))

shaped_on : (old new : List Note) (past : List Moment) → Shaped old new → ((rest : List Note) → IsGood rest → E (map said old ++ past) rest) → E (map said new ++ past) []
shaped_on old new past (goes h) base = hands_on old new past h base
shaped_on old new past (begins note q h) base = hands_on (note ∷ old) new past h (λ rest g. start_on note q (map said old ++ past) rest g (base [] refl))

hears_on : (old new : List Note) (past : List Moment) → Hears old new → E (map said old ++ past) [] → E (map said new ++ past) []
hears_on old new past (unheard e) h = subst (λ ns. E (map said ns ++ past) []) (sym e) h
hears_on old new past (hears serial judged x) h =
    let note = judged_note serial judged in hands_on (note ∷ old) new past x (λ rest g. start_on note (judged_starts serial judged) (map said old ++ past) rest g h)

-- ---- deliveries, one after the other
lowest_on : (past : List Moment) (s : Scene) (one : Option Told) (o : Option ℕ) → MayAt o one s → E (map said s.world.fresh ++ past) [] → E (map said (delivered_at o one s).world.fresh ++ past) []
lowest_on past s one None m h = absurd m
lowest_on past s one (Some serial) m h = hears_on s.world.fresh _ past (delivery_hears s serial false one m) h

next_on : (past : List Moment) (s : Scene) (one : Option Told) → MayNext one s → E (map said s.world.fresh ++ past) [] → E (map said (delivered_next one s).world.fresh ++ past) []
unfolding delivered_next MayNext
next_on past s one m h = lowest_on past s one (lowest s.world) m h

all_on : (past : List Moment) (told : List (Option Told)) (s : Scene) → MayAll told s → E (map said s.world.fresh ++ past) [] → E (map said (after_all told s).world.fresh ++ past) []
all_on past [] s m h = h
all_on past (one ∷ told) s m h = next_on past (after_all told s) one m.0 (all_on past told s m.1 h)

end_starts : (done : Bool) → IsStart (end_note done)
end_starts true = tt
end_starts false = tt

-- ---- a line
module _ (past : List Moment) (h : E past []) (line : ℕ) (s : Scene) where
  shaped_line : (event : Event) (new : List Note) → Shaped [] new → E (map said new ++ asked line event ∷ past) []
  shaped_line event new x = shaped_on [] new (asked line event ∷ past) x (λ rest g. (g, h))

  line_on : (event : Event) (told : List (Option Told)) (initiators : ℕ) → IsLine event initiators → MayHappen event told s → E (map said (happens line event told s).world.fresh ++ asked line event ∷ past) []
  unfolding happens MayHappen
  line_on (events.Begin initiators is_ready) told few q m = absurd q
  line_on (events.Act i action) told few q m = shaped_line (events.Act i action) _ (led (acts (without_notes s.world) line i action))
  line_on (events.Reset physical) told few q m = shaped_line (events.Reset physical) _ (led (resets (without_notes s.world) physical))
  line_on (events.See node) told few q m = shaped_line (events.See node) _ (led (sights (without_notes s.world) node))
  line_on (events.Deliver serial) told few q m = shaped_line (events.Deliver serial) _ (one_comes (begun s) line serial false (is_in_flight serial (begun s).world) told m)
  line_on (events.Repeat serial) told few q m = shaped_line (events.Repeat serial) _ (one_comes (begun s) line serial true (may_repeat serial (begun s).world) told m)
  line_on (events.Lose serial) told few q m = shaped_line (events.Lose serial) _ (led (loses (without_notes s.world) line serial))
  line_on (events.Timeout serial) told few q m = shaped_line (events.Timeout serial) _ (led (late (without_notes s.world) line serial))
  line_on (events.Step count) told few q m = all_on (asked line (events.Step count) ∷ past) told (begun s) m.may (refl, h)
  line_on events.Settle told few q m =
      let now = asked line events.Settle ∷ past in
      let t = after_all told (begun s) in
      start_on (end_note (is_settled t.world)) (end_starts (is_settled t.world)) (map said t.world.fresh ++ now) [] refl (all_on now told (begun s) m.may (refl, h))
  line_on events.Tick told few q m = shaped_line events.Tick _ (led (ticks (without_notes s.world)))
  line_on (events.Inject i bytes) told few q m = shaped_line (events.Inject i bytes) _ (led (injects (without_notes s.world) line i bytes))
  line_on (events.Key unit key) told few q m = shaped_line (events.Key unit key) _ (led (keys (without_notes s.world) line unit key))

-- ---- a run
lines_on : (line : ℕ) (run : Run) (entries : List Entry) → AreEntries (beginning run) entries → AreLines run entries → E (moments_behind line run entries) []
lines_on line run [] every fit = (refl, tt)
lines_on line run (e ∷ before) every fit =
    subst (λ ns. E (map said ns ++ asked e.line e.event ∷ moments_behind line run before) []) (sym every.0.notes_are)
    (line_on (moments_behind line run before) (lines_on line run before every.1 fit.1) e.line (after (beginning run) before) e.event e.told _ fit.0 every.0.may)

pub sends_last_law : SendsLastLaw
sends_last_law = record {
  after_lines = λ line run r. lines_on line run run.entries r.entries r.lines;
  between = λ line run r next most told m.
      all_on (asked next (more_deliveries most) ∷ history_of line run) told (begun (after (beginning run) run.entries)) m (refl, lines_on line run run.entries r.entries r.lines);
}
