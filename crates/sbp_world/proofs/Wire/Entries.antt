-- The lines of the bus, over every run.
use Rattle.sbp_world.proofs.Words.Std.{if◌then◌else◌, reverse, arith, sym, ◌∙◌, ap, subst, reverse-reverse, AllByRecursion}
use Rattle.sbp_world.proofs.Words.Wire.{flying, Stored, Moment, asked, said, history, Terms, terms, OutboxState, empty_outbox, Action, Event, Note, Side, HasForm, lists_weight}
use Rattle.sbp_world.proofs.Words.Target.{Disk, Told}
use Rattle.sbp_world.proofs.Words.Initiator.{act_step, InitiatorState}
use Rattle.sbp_world.proofs.Words.Laws.{count_flying, flies, initiators, most_deliveries, settle_deliveries, shares, injectors, OnceLaw, is_wild, HasFormAt, FormedOnTheBus, is_under_way, EachMoment, AreLowest, EndsSettle, IsDelivery, IsTurnOf, SettlesWithin, BringsLine, Either, LineLaw, law_injected, may_inject, law_repeats, law_refused}
use Rattle.sbp_world.proofs.Words.World.{AreForms, history_of, moments_behind, MayHappen, MayTellIn, acted, acted_by, happens, happens_to, weight_in, AreEntries, Entry, Run, after, beginning, budget, told, told_all, Scene, WorldState, begun, initiator_at, with_initiator, without_notes, OwnFittingLaw, FittingLaw, journal_entries, journal_run, AreLines, BusLaw, IsLine, Stands}
use Rattle.std.specs.Prelude.{◌≡◌, ◌≤◌, ◌<◌, ℕ, zero, suc, ◌+◌, ◌*◌, ◌^◌, min, nat_lt, Bool, true, false, List, [], ◌∷◌, ◌++◌, length, map, Option, Some, None, refl}
use Rattle.sbp_journal.specs.declared.event.Event.TheVariants as events
use Rattle.sbp_journal.specs.declared.note.Note.TheVariants as notes
use Rattle.sbp_journal.specs.declared.side.Side.TheVariants as sides
use Rattle.sbp_world.proofs.LineForms.{form_law}
use Rattle.sbp_world.proofs.FitInitiator.Law.{fitting_law as own_fitting_law}
use Rattle.sbp_world.proofs.FitTarget.Law.{fitting_law}
use Rattle.sbp_world.proofs.Wire.Begun.{NoneBegins, delivered_none, effects_none, none_append, same_initiators, step_none}
use Rattle.sbp_world.proofs.Wire.Bus.{holds}
use Rattle.sbp_world.proofs.Wire.Brings.{deliver_brings, inject_brings, key_brings, lose_brings, repeat_brings, reset_brings, see_brings, settle_brings, tick_brings, timeout_brings, up_to_brings}
use Rattle.sbp_world.proofs.Wire.Flown.{flown_are}
use Rattle.sbp_world.proofs.Wire.Gains.{all_sent}
use Rattle.sbp_world.proofs.Wire.Holding.{OwnSound, Sound, own_has, own_sound, to_target}
use Rattle.sbp_world.proofs.Wire.Lowest.{reversed}
use Rattle.sbp_world.proofs.Wire.OnceHere.{once_here}
use Rattle.sbp_world.proofs.Wire.OwnActs.{AreStepSides, IsStepSide, acts}
use Rattle.sbp_world.proofs.Wire.Arrivals.{IsTarget}
use Rattle.sbp_world.proofs.Wire.Runs.{sound_after}
use Rattle.sbp_world.proofs.Wire.Sizes.{Sizes, happens_keeps, new_sizes, sizes}
use Rattle.sbp_world.proofs.Wire.Sound.{opens}
use Rattle.sbp_world.proofs.Wire.Spent.{weighs_after}
use Rattle.sbp_world.proofs.Wire.ToldBytes.{happened_fits}
use Rattle.sbp_world.proofs.Wire.CommandBytes.{AreTold}

-- ---- notes of the lines of the bus begin no run
none_reversed : (ns : List Note) → NoneBegins ns → NoneBegins (reverse ns)
none_reversed [] n = tt
none_reversed (note ∷ ns) n = subst NoneBegins (sym (reversed note ns)) (none_append (reverse ns) (note ∷ []) (none_reversed ns n.1) (n.0, tt))

pub none_back : (ns : List Note) → NoneBegins (reverse ns) → NoneBegins ns
none_back ns n = subst NoneBegins (reverse-reverse ns) (none_reversed (reverse ns) n)

none_refused : (line number : ℕ) (told : List Note) → told ≡ law_refused line number → NoneBegins told
none_refused line number told e = subst NoneBegins (sym e) (refl, tt)

none_delivery : (serial : ℕ) (told : List Note) → IsDelivery serial told → NoneBegins told
none_delivery serial [] d = absurd d
none_delivery serial (note ∷ rest) d = (delivered_none note serial d.0, effects_none rest d.1)

none_either : (b : Bool) (line serial : ℕ) (told : List Note) → Either b (IsDelivery serial told) (told ≡ law_refused line 11) → NoneBegins told
none_either true line serial told d = none_delivery serial told d
none_either false line serial told d = none_refused line 11 told d

none_turn : (first : Note) (told : List Note) → NoneBegins (first ∷ []) → IsTurnOf first told → NoneBegins told
none_turn first [] n d = absurd d
none_turn first (note ∷ rest) n d = ((subst (λ x. NoneBegins (x ∷ [])) (sym d.0) n).0, effects_none rest d.1)

none_timed : (b : Bool) (line serial : ℕ) (told : List Note) → Either b (IsTurnOf (notes.TimedOut serial) told) (told ≡ law_refused line 11) → NoneBegins told
none_timed true line serial told t = none_turn (notes.TimedOut serial) told (refl, tt) t
none_timed false line serial told e = none_refused line 11 told e

none_lowest : (past : List Moment) (ns : List Note) → AreLowest past ns → NoneBegins ns
none_lowest past [] l = tt
none_lowest past (notes.Got serial ∷ ns) l = (refl, none_lowest (said (notes.Got serial) ∷ past) ns l.1)
none_lowest past (notes.Ignored serial cause ∷ ns) l = (refl, none_lowest (said (notes.Ignored serial cause) ∷ past) ns l.1)
none_lowest past (note ∷ ns) l = ((effects_none (note ∷ []) (l.0, tt)).0, none_lowest (said note ∷ past) ns l.1)

none_end : (past : List Moment) (most : ℕ) (told : List Note) (last : Note) → EndsSettle past most told last → NoneBegins (last ∷ [])
none_end past most told notes.Settled e = (refl, tt)
none_end past most told notes.Stopped e = (refl, tt)
none_end past most told last e = absurd e

none_settled : (most : ℕ) (past : List Moment) (told : List Note) → SettlesWithin most past told → NoneBegins told
none_settled most past told s =
    subst NoneBegins (sym s.is) (none_append s.before (s.last ∷ []) (none_lowest past s.before s.delivers.lowest) (none_end past most s.before s.last s.ends))

none_lost : (b : Bool) (line serial : ℕ) (told : List Note) → told ≡ (if b then notes.Lost serial ∷ [] else law_refused line 11) → NoneBegins told
none_lost true line serial told e = subst NoneBegins (sym e) (refl, tt)
none_lost false line serial told e = none_refused line 11 told e

none_injected : (b : Bool) (t : Terms) (line i n : ℕ) (bytes : List ℕ) (told : List Note) → told ≡ (if b then law_injected t i n bytes else law_refused line 12) → NoneBegins told
none_injected true t line i n bytes told e = subst NoneBegins (sym e) (refl, (refl, tt))
none_injected false t line i n bytes told e = none_refused line 12 told e

none_keyed : (b : Bool) (line unit : ℕ) (told : List Note) → told ≡ (if b then notes.Key unit ∷ [] else law_refused line 13) → NoneBegins told
none_keyed true line unit told e = subst NoneBegins (sym e) (refl, tt)
none_keyed false line unit told e = none_refused line 13 told e

-- an action
abbrev pub IsOfBus : Event → Type 0
IsOfBus (events.Begin initiators ready) = ⊥
IsOfBus (events.Act i action) = ⊥
IsOfBus _ = Unit {0}

pub none_by : (disks : List Disk) (past : List Moment) (line : ℕ) (event : Event) (told : List Note) → IsOfBus event → BringsLine disks past line event told → NoneBegins told
none_by disks past line (events.Begin initiators ready) told o b = absurd o
none_by disks past line (events.Act i action) told o b = absurd o
none_by disks past line (events.Deliver serial) told o b = none_either (flies ((terms past).flight serial)) line serial told b
none_by disks past line (events.Repeat serial) told o b = none_either (law_repeats (terms past) serial) line serial told b
none_by disks past line (events.Lose serial) told o b = none_lost (flies ((terms past).flight serial)) line serial told b
none_by disks past line (events.Timeout serial) told o b = none_timed (is_under_way (terms past) serial) line serial told b
none_by disks past line (events.Step count) told o b = none_lowest (asked line (events.Step count) ∷ past) told b.lowest
none_by disks past line events.Settle told o b = none_settled (settle_deliveries (asked line events.Settle ∷ past)) (asked line events.Settle ∷ past) told b
none_by disks past line (events.Reset physical) told o b = subst NoneBegins (sym b) (refl, tt)
none_by disks past line (events.See node) told o b = none_turn (notes.Seen node (terms past).bus) told (refl, tt) b
none_by disks past line events.Tick told o b = none_turn notes.Tick told (refl, tt) b
none_by disks past line (events.Inject i bytes) told o b =
    none_injected (may_inject (terms past) i (suc (initiators past)) bytes) (terms past) line i (suc (initiators past)) bytes told b
none_by disks past line (events.Key unit key) told o b = none_keyed (nat_lt unit (length disks)) line unit told b

-- ---- an action
one_step : (weight : ℕ) (side : Side) (w : WorldState) → IsStepSide side → NoneBegins w.fresh → NoneBegins (told weight side w).fresh
unfolding told
one_step weight (sides.Own note) w e n = (step_none note e, n)
one_step weight (sides.Opened place orb) w e n = absurd e
one_step weight (sides.Ran place orb cdb payload outcome) w e n = absurd e
one_step weight (sides.Ended place orb status) w e n = absurd e
one_step weight (sides.Dead place cause) w e n = absurd e
one_step weight (sides.Cut place cause) w e n = absurd e
one_step weight (sides.Managed node function subject status login) w e n = absurd e
one_step weight (sides.ManageFailed node cause) w e n = absurd e
one_step weight (sides.Held login) w e n = absurd e
one_step weight (sides.Expired login) w e n = absurd e
one_step weight (sides.Back login) w e n = absurd e
one_step weight (sides.Left login) w e n = absurd e
one_step weight (sides.Cleared unit) w e n = absurd e
one_step weight (sides.Unsolicited place) w e n = absurd e
one_step weight (sides.Unsent place) w e n = absurd e

all_steps : (weight : ℕ) (told_now : List Side) (w : WorldState) → AreStepSides told_now → NoneBegins w.fresh → NoneBegins (told_all weight told_now w).fresh
unfolding told_all
all_steps weight [] w e n = n
all_steps weight (side ∷ later) w e n = all_steps weight later (told weight side w) e.1 (one_step weight side w e.0 n)

act_by : (r : Option ℕ × (OutboxState × InitiatorState)) (line i : ℕ) (action : Action) (w : WorldState) → AreStepSides r.1.0.sides → w.fresh ≡ [] → NoneBegins (acted_by r line i action w).fresh
act_by (Some number, (outbox, state)) line i action w e none = (refl, subst NoneBegins (sym none) tt)
act_by (None, (outbox, state)) line i action w e none =
    let v = with_initiator i state w in
    let told_now = told_all (weight_in action) outbox.sides v in
    let n = all_steps (weight_in action) outbox.sides v e (subst NoneBegins (sym none) tt) in
    let g = all_sent (i + 1) outbox.packets told_now in
    subst NoneBegins (sym g.is) (none_append g.more told_now.fresh (effects_none g.more g.effects) n)

pub act_none : (line i : ℕ) (action : Action) (w : WorldState) → w.fresh ≡ [] → NoneBegins (acted line i action w).fresh
unfolding acted
act_none line i action w none = act_by (act_step action empty_outbox (initiator_at w i)) line i action w (acts action empty_outbox (initiator_at w i) tt) none

-- the histories are one
tie_all : (line : ℕ) (run : Run) (entries : List Entry) → history (journal_entries line run entries) ≡ moments_behind line run entries
tie_all line run [] = refl
tie_all line run (e ∷ before) = ap (λ ms. map said e.notes ++ asked e.line e.event ∷ ms) (tie_all line run before)

-- ---- a line
-- an initiator asks the target
pub own_aims : OwnFittingLaw → {past : List Moment} {lines : ℕ} (w : WorldState) → OwnSound past lines w → (i : ℕ) → i < length w.initiators → IsTarget w (suc i) (initiator_at w i).target
own_aims own_fits w sound i inside =
    to_target w.generations.seen i (initiator_at w i).target
    ((own_fits (own_has w.generations.seen i) (own_has w.generations.seen i)).target_there (initiator_at w i) (sound.own.holds i inside))

-- what a world counts for a settle is what the law says
pub counts_settle : {past : List Moment} (w : WorldState) → Stands past w → length w.initiators ≡ initiators (map said w.fresh ++ past) → lists_weight w.loads ≡ shares (map said w.fresh ++ past) (map said w.fresh ++ past) → (line : ℕ) → budget (without_notes w) ≡ settle_deliveries (asked line events.Settle ∷ (map said w.fresh ++ past))
unfolding budget
counts_settle {past} w h counted weighs line =
    let before : List Moment = map said w.fresh ++ past in
    let flown : length (flying w.store.kept) ≡ count_flying (terms before).flight (terms before).count =
    ap (λ (st : Stored). length (flying st.kept)) (sym h.is.store_is)
    ∙ (sym (flown_are (holds h.wire h.reached).follows) ∙ ap (λ p. count_flying (terms p).flight (terms p).count) h.is.past_is) in
    ap (λ x. min (4 * x + lists_weight w.loads + 600 * length w.initiators) most_deliveries) flown
    ∙ (ap (λ x. min (4 * count_flying (terms before).flight (terms before).count + x + 600 * length w.initiators) most_deliveries) weighs
    ∙ ap (λ x. min (4 * count_flying (terms before).flight (terms before).count + shares before before + 600 * x) most_deliveries) counted)

module _ (targets : FittingLaw) (own_fits : OwnFittingLaw) where
  aims : {past : List Moment} {lines : ℕ} (w : WorldState) → Sound past lines w → (i : ℕ) → i < length w.initiators → IsTarget w (suc i) (initiator_at w i).target
  aims w sound i inside = own_aims own_fits w (own_sound sound) i inside

  module _ {past : List Moment} {lines : ℕ} (disks : List Disk) (s : Scene) (sound : Sound past lines s.world) (units : length s.world.target.units ≡ length disks) (counted : length s.world.initiators ≡ initiators (map said s.world.fresh ++ past)) (weighs : lists_weight s.world.loads ≡ shares (map said s.world.fresh ++ past) (map said s.world.fresh ++ past)) where
    abbrev before : List Moment
    before = map said s.world.fresh ++ past

    brings_line : (line : ℕ) (event : Event) (told_now : List (Option Told)) → IsLine event (length s.world.initiators) → AreTold told_now → MayTellIn event told_now (begun s) → BringsLine disks before line event (reverse (happens_to line event told_now (begun s)).world.fresh)
    brings_line line (events.Begin n ready) told_now q t may = absurd q
    brings_line line (events.Act i action) told_now q t may = tt
    brings_line line (events.Deliver serial) told_now q t may =
        let o = opens line (events.Deliver serial) s.world refl sound in
        let new = reverse (happens_to line (events.Deliver serial) told_now (begun s)).world.fresh in
        subst (λ p. Either (flies ((terms p).flight serial)) (IsDelivery serial new) (new ≡ law_refused line 11)) o.stands.is.past_is
        (deliver_brings (begun s) o.stands line serial told_now refl)
    brings_line line (events.Repeat serial) told_now q t may =
        let o = opens line (events.Repeat serial) s.world refl sound in
        let new = reverse (happens_to line (events.Repeat serial) told_now (begun s)).world.fresh in
        subst (λ p. Either (law_repeats (terms p) serial) (IsDelivery serial new) (new ≡ law_refused line 11)) o.stands.is.past_is
        (repeat_brings (begun s) o.stands line serial told_now refl)
    brings_line line (events.Lose serial) told_now q t may =
        let o = opens line (events.Lose serial) s.world refl sound in
        let new = reverse (happens_to line (events.Lose serial) told_now (begun s)).world.fresh in
        subst (λ p. new ≡ (if flies ((terms p).flight serial) then notes.Lost serial ∷ [] else law_refused line 11)) o.stands.is.past_is
        (lose_brings (without_notes s.world) o.stands line serial refl)
    brings_line line (events.Timeout serial) told_now q t may =
        let o = opens line (events.Timeout serial) s.world refl sound in
        let new = reverse (happens_to line (events.Timeout serial) told_now (begun s)).world.fresh in
        subst (λ p. Either (is_under_way (terms p) serial) (IsTurnOf (notes.TimedOut serial) new) (new ≡ law_refused line 11)) o.stands.is.past_is
        (timeout_brings (without_notes s.world) o.stands line serial (aims (without_notes s.world) o) refl)
    brings_line line (events.Step count) told_now q t may =
        up_to_brings targets own_fits (begun s) (opens line (events.Step count) s.world refl sound) refl refl count told_now t may
    brings_line line events.Settle told_now q t may =
        subst (λ most. SettlesWithin most (asked line events.Settle ∷ before) (reverse (happens_to line events.Settle told_now (begun s)).world.fresh)) (counts_settle s.world sound.stands counted weighs line)
        (settle_brings targets own_fits (begun s) (opens line events.Settle s.world refl sound) refl refl (budget (begun s).world) told_now t may)
    brings_line line (events.Reset physical) told_now q t may =
        reset_brings s.world sound.stands physical ∙ ap (λ p. notes.Reset ((terms p).bus + 1) ∷ []) sound.stands.is.past_is
    brings_line line (events.See node) told_now q t may =
        let o = opens line (events.See node) s.world refl sound in
        let new = reverse (happens_to line (events.See node) told_now (begun s)).world.fresh in
        subst (λ p. IsTurnOf (notes.Seen node (terms p).bus) new) o.stands.is.past_is (see_brings (without_notes s.world) o.stands refl node)
    brings_line line events.Tick told_now q t may =
        tick_brings (without_notes s.world) (opens line events.Tick s.world refl sound).stands refl
    brings_line line (events.Inject i bytes) told_now q t may =
        let o = opens line (events.Inject i bytes) s.world refl sound in
        let new = reverse (happens_to line (events.Inject i bytes) told_now (begun s)).world.fresh in
        subst (λ n. new ≡ (if may_inject (terms before) i (suc n) bytes then law_injected (terms before) i (suc n) bytes else law_refused line 12)) counted
        (subst (λ p. new ≡ (if may_inject (terms p) i (suc (length s.world.initiators)) bytes then law_injected (terms p) i (suc (length s.world.initiators)) bytes else law_refused line 12)) o.stands.is.past_is
        (inject_brings (without_notes s.world) o.stands line i q.0 bytes refl))
    brings_line line (events.Key unit key) told_now q t may =
        let o = opens line (events.Key unit key) s.world refl sound in
        key_brings (without_notes s.world) o.stands refl line unit key (length disks) units

    begins_none : (line : ℕ) (event : Event) (told_now : List (Option Told)) → IsLine event (length s.world.initiators) → AreTold told_now → MayTellIn event told_now (begun s) → NoneBegins (happens_to line event told_now (begun s)).world.fresh
    begins_none line (events.Act i action) told_now q t may = act_none line i action (without_notes s.world) refl
    begins_none line (events.Begin n ready) told_now q t may = absurd q
    begins_none line event told_now q t may =
        none_back (happens_to line event told_now (begun s)).world.fresh
        (none_by disks before line event (reverse (happens_to line event told_now (begun s)).world.fresh) tt (brings_line line event told_now q t may))

  -- ---- a run
  after_sizes : (run : Run) (entries : List Entry) → sizes (after (beginning run) entries).world ≡ (run.initiators, run.units)
  after_sizes run [] = new_sizes run.initiators run.ready run.units
  after_sizes run (e ∷ before) = happens_keeps e.line e.event e.told (after (beginning run) before) ∙ after_sizes run before

  record BringsAll (line : ℕ) (run : Run) (entries : List Entry) : Type 0 where
    lines : LineLaw run.start.disks (journal_entries line run entries)
    counted : initiators (moments_behind line run entries) ≡ run.initiators

  run_brings : (line : ℕ) (run : Run) (entries : List Entry) → run.initiators ≤ 4 → run.units ≡ length run.start.disks → length entries + 2 < 2 ^ 32 → AreEntries (beginning run) entries → AreLines run entries → BringsAll line run entries
  unfolding happens MayHappen
  run_brings line run [] few units most all fit = record { lines = (refl, tt); counted = refl }
  run_brings line run (e ∷ before) few units most all fit =
      let so_far = run_brings line run before few units (omega arith) all.1 fit.1 in
      let b = sound_after targets own_fits line run before few (omega arith) all.1 fit.1 in
      let s = after (beginning run) before in
      let size = after_sizes run before in
      let fits = happened_fits e.event e.told s all.0.may in
      let weighs : lists_weight s.world.loads ≡ shares (map said s.world.fresh ++ b.past) (map said s.world.fresh ++ b.past) =
      subst (λ p. lists_weight s.world.loads ≡ shares p p) (sym b.is) (weighs_after line run before (omega arith) all.1 fit.1) in
      let same_units : length s.world.target.units ≡ length run.start.disks = ap (λ (z : Sizes). z.1) size ∙ units in
      let same_count : length s.world.initiators ≡ initiators (map said s.world.fresh ++ b.past) = ap (λ (z : Sizes). z.0) size ∙ sym so_far.counted ∙ ap initiators (sym b.is) in
      let brings = brings_line run.start.disks s b.sound same_units same_count weighs e.line e.event e.told fit.0 fits all.0.may in
      let none = begins_none run.start.disks s b.sound same_units same_count weighs e.line e.event e.told fit.0 fits all.0.may in
      record {
        lines = (
          subst (λ ns. BringsLine run.start.disks (history (journal_entries line run before)) e.line e.event (reverse ns)) (sym all.0.notes_are)
              (subst (λ p. BringsLine run.start.disks p e.line e.event (reverse (happens e.line e.event e.told s).world.fresh)) (b.is ∙ sym (tie_all line run before)) brings),
          so_far.lines,
        );
        counted = same_initiators e.notes (asked e.line e.event ∷ moments_behind line run before) (subst NoneBegins (sym all.0.notes_are) none) ∙ so_far.counted;
      }

-- ---- each note has its form
pub forms_of : (notes_now : List Note) (past : List Moment) → AllByRecursion HasForm notes_now → EachMoment HasFormAt past → EachMoment HasFormAt (map said notes_now ++ past)
forms_of [] past f e = e
forms_of (note ∷ ns) past f e = (f.0, forms_of ns past f.1 e)

all_forms : (line : ℕ) (run : Run) (entries : List Entry) → AllByRecursion AreForms entries → EachMoment HasFormAt (moments_behind line run entries)
all_forms line run [] f = (tt, (tt, tt))
all_forms line run (e ∷ before) f = forms_of e.notes (asked e.line e.event ∷ moments_behind line run before) f.0 (tt, all_forms line run before f.1)

-- ---- a write is taken as new once
covers : (past : List Moment) → (terms past).injects 0 ≡ false → (n : ℕ) → (terms past).injects n ≡ true → is_wild (injectors past) n ≡ true
covers past fair zero e = cc
covers past fair (suc i) e = e

pub once_behind : {past : List Moment} (w : WorldState) (h : Stands past w) (now : List Moment) → map said w.fresh ++ past ≡ now → OnceLaw (injectors now) now
once_behind w h now e =
    let is = h.is.past_is ∙ e in
    subst (λ p. OnceLaw (injectors p) p) is (once_here (injectors h.wire.past) h.wire h.reached (covers h.wire.past h.is.fair))

run_lawful : (line : ℕ) (run : Run) → run.initiators ≤ 4 → run.units ≡ length run.start.disks → length run.entries + 2 < 2 ^ 32 → AreEntries (beginning run) run.entries → AreLines run run.entries → FormedOnTheBus (injectors (history_of line run)) (journal_run line run)
run_lawful line run few units most all fit =
    let tie = tie_all line run run.entries in
    let b = sound_after fitting_law own_fitting_law line run run.entries few most all fit in
    record {
      form = subst (λ p. EachMoment HasFormAt p) (sym tie) (all_forms line run run.entries (form_law.runs run (after (beginning run) run.entries) (record { state = refl; lines = all })));
      once = subst (λ p. OnceLaw (injectors (history_of line run)) p) (sym tie) (once_behind (after (beginning run) run.entries).world b.sound.stands (history_of line run) b.is);
      lines = (run_brings fitting_law own_fitting_law line run run.entries few units most all fit).lines;
    }

pub bus_law : BusLaw
bus_law = record { tie = λ line run. tie_all line run run.entries; lawful = run_lawful }
