-- The history of a turn: its first moments, its effects, and then the packets that are sent in it.
use Rattle.sbp_world.proofs.Words.Std.{◌≡◌, ◌∙◌, refl, sym, ap, ℕ, Bool, true, false, List, [], ◌∷◌, ◌++◌, map, Option, Some, None}
use Rattle.sbp_world.proofs.Words.Wire.{end_note, judged_note, Moment, asked, said, Judged, Event, Note}
use Rattle.sbp_world.proofs.Words.Target.{Told}
use Rattle.sbp_world.proofs.Words.World.{MayHappen, happens, is_in_flight, may_repeat, MayNext, delivered_at, delivered_next, lowest, Scene, begun, without_notes, more_deliveries}
use Rattle.sbp_journal.specs.declared.event.Event.TheVariants as events
use Rattle.sbp_world.specs.Settling.{MayAt}
use Rattle.sbp_world.proofs.Agents.Management.Still.{hist}
use Rattle.sbp_world.proofs.Lists.Courses.{Goes, by_delivery, by_end, by_line, by_start}
use Rattle.sbp_world.proofs.Lists.SendsLast.{AllEffects, AllSends, Hands, Hears, IsStart, Shaped, acts, begins, delivery_hears, goes, hears, injects, keys, late, led, loses, one_comes, resets, sights, ticks, unheard}
use Rattle.sbp_world.proofs.Lists.Turned.{IsOne}
use Rattle.sbp_world.proofs.Common.{said_split as split}

-- effects and packets behind some moments
pub record Behind (base now : List Moment) : Type 0 where
  pub effects : List Note
  pub sends : List Note
  pub are_effects : AllEffects effects
  pub are_sends : AllSends sends
  pub is : map said sends ++ (map said effects ++ base) ≡ now

pub data Shape (before now : List Moment) : Type 0 where
  as_before : now ≡ before → Shape before now
  by_asked : (line : ℕ) (event : Event) → Behind (asked line event ∷ before) now → Shape before now
  by_noted : (note : Note) → IsStart note → (line : ℕ) (event : Event) → Behind (said note ∷ asked line event ∷ before) now → Shape before now
  by_judged : (serial : ℕ) (judged : Judged) → Behind (said (judged_note serial judged) ∷ before) now → Shape before now
  by_ended : (done : Bool) → said (end_note done) ∷ before ≡ now → Shape before now

behind_old : (old new : List Note) (past : List Moment) → Hands old new → Behind (map said old ++ past) (map said new ++ past)
behind_old old new past h = record {
  effects = h.told.more;
  sends = h.sent.more;
  are_effects = h.told.effects;
  are_sends = h.sent.sends;
  is =
      ap (λ ms. map said h.sent.more ++ ms) (sym (split h.told.more old past) ∙ ap (λ ns. map said ns ++ past) h.told.is)
      ∙ (sym (split h.sent.more h.middle past) ∙ ap (λ ns. map said ns ++ past) h.sent.is);
}

of_hears : (old new : List Note) (past : List Moment) → Hears old new → Shape (map said old ++ past) (map said new ++ past)
of_hears old new past (unheard e) = as_before (ap (λ ns. map said ns ++ past) e)
of_hears old new past (hears serial judged h) = by_judged serial judged (behind_old (judged_note serial judged ∷ old) new past h)

of_shaped : (line : ℕ) (event : Event) (past : List Moment) (new : List Note) → Shaped [] new → Shape past (map said new ++ asked line event ∷ past)
of_shaped line event past new (goes h) = by_asked line event (behind_old [] new (asked line event ∷ past) h)
of_shaped line event past new (begins note q h) = by_noted note q line event (behind_old (note ∷ []) new (asked line event ∷ past) h)

line_shape : (past : List Moment) (s : Scene) (line : ℕ) (event : Event) (told : List (Option Told)) → IsOne event → MayHappen event told s → Shape (hist past s.world) (hist (asked line event ∷ hist past s.world) (happens line event told s).world)
unfolding happens MayHappen
line_shape past s line (events.Begin initiators is_ready) told o m = of_shaped line (events.Begin initiators is_ready) (hist past s.world) [] (goes (record { middle = []; told = record { more = []; is = refl; effects = tt }; sent = record { more = []; is = refl; sends = tt } }))
line_shape past s line (events.Act i action) told o m = of_shaped line (events.Act i action) (hist past s.world) _ (led (acts (without_notes s.world) line i action))
line_shape past s line (events.Reset physical) told o m = of_shaped line (events.Reset physical) (hist past s.world) _ (led (resets (without_notes s.world) physical))
line_shape past s line (events.See node) told o m = of_shaped line (events.See node) (hist past s.world) _ (led (sights (without_notes s.world) node))
line_shape past s line (events.Deliver serial) told o m = of_shaped line (events.Deliver serial) (hist past s.world) _ (one_comes (begun s) line serial false (is_in_flight serial (begun s).world) told m)
line_shape past s line (events.Repeat serial) told o m = of_shaped line (events.Repeat serial) (hist past s.world) _ (one_comes (begun s) line serial true (may_repeat serial (begun s).world) told m)
line_shape past s line (events.Lose serial) told o m = of_shaped line (events.Lose serial) (hist past s.world) _ (led (loses (without_notes s.world) line serial))
line_shape past s line (events.Timeout serial) told o m = of_shaped line (events.Timeout serial) (hist past s.world) _ (led (late (without_notes s.world) line serial))
line_shape past s line (events.Step count) told o m = absurd o
line_shape past s line events.Settle told o m = absurd o
line_shape past s line events.Tick told o m = of_shaped line events.Tick (hist past s.world) _ (led (ticks (without_notes s.world)))
line_shape past s line (events.Inject i bytes) told o m = of_shaped line (events.Inject i bytes) (hist past s.world) _ (led (injects (without_notes s.world) line i bytes))
line_shape past s line (events.Key unit key) told o m = of_shaped line (events.Key unit key) (hist past s.world) _ (led (keys (without_notes s.world) line unit key))

lowest_shape : (past : List Moment) (s : Scene) (one : Option Told) (o : Option ℕ) → MayAt o one s → Shape (hist past s.world) (hist past (delivered_at o one s).world)
lowest_shape past s one None m = absurd m
lowest_shape past s one (Some serial) m = of_hears s.world.fresh _ past (delivery_hears s serial false one m)

delivery_shape : (past : List Moment) (s : Scene) (one : Option Told) → MayNext one s → Shape (hist past s.world) (hist past (delivered_next one s).world)
unfolding delivered_next MayNext
delivery_shape past s one m = lowest_shape past s one (lowest s.world) m

pub goes_shape : (past : List Moment) (s : Scene) (later : List Moment) (t : Scene) → Goes past s later t → Shape (hist past s.world) (hist later t.world)
goes_shape _ _ _ _ (by_line past s line event told one fit may) = line_shape past s line event told one may
goes_shape _ _ _ _ (by_start past s line most) = by_asked line (more_deliveries most) (record { effects = []; sends = []; are_effects = tt; are_sends = tt; is = refl })
goes_shape _ _ _ _ (by_delivery past s one may no_act) = delivery_shape past s one may
goes_shape _ _ _ _ (by_end past s done) = by_ended done refl
