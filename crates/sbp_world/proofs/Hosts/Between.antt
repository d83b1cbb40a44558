-- How the world of a run stands behind some deliveries of its next line, whichever line it is that delivers them, and what its lines carry on.
use Rattle.sbp_world.proofs.Words.Std.{◌≡◌, refl, sym, ◌∙◌, ap, subst, ℕ, ◌<◌, false, List, [], ◌∷◌, ◌++◌, length, map, Option, Some, None}
use Rattle.sbp_world.proofs.Words.Wire.{is_reset, Moment, asked, said, terms, Event}
use Rattle.sbp_world.proofs.Words.Target.{Told}
use Rattle.sbp_world.proofs.Words.Initiator.{new_state, InitiatorState}
use Rattle.sbp_world.proofs.Words.World.{history_of, moments_behind, Run, after, beginning, MayAll, after_all, Scene, begun, initiator_at, IsOfWire, Stands, WorldState, IsDelivering, history, IsRun}
use Rattle.bus_transactions.proofs.Facts.{Facts}
use Rattle.sbp_journal.specs.declared.event.Event.TheVariants as events
use Rattle.sbp_world.proofs.FitInitiator.Law.{fitting_law as own_fitting_law}
use Rattle.sbp_world.proofs.FitTarget.Law.{fitting_law}
use Rattle.sbp_world.proofs.Wire.Bus.{holds}
use Rattle.sbp_world.proofs.Wire.Holding.{Sound}
use Rattle.sbp_world.proofs.Wire.Runs.{SoundAfter, sound_after}
use Rattle.sbp_world.proofs.Wire.Sound.{opens}
use Rattle.sbp_world.proofs.Wire.Starts.{laws_of}
use Rattle.sbp_world.proofs.Hosts.AnsweringLines.{all_sound}
use Rattle.sbp_world.proofs.Hosts.Carried.{Knows, StandsBetween, sent_between_runs, sent_of_runs}
use Rattle.sbp_world.proofs.Hosts.Carries.{CarriesSent}
use Rattle.sbp_world.proofs.Hosts.Runs.{are_told, count_after, count_between}

-- ---- the laws of the wire

-- what the laws of the wire say of a history, and the facts that they rest on
pub record OfWire (past : List Moment) : Type 0 where
  pub laws : IsOfWire past
  pub facts : Facts (terms past)

pub of_world : {past : List Moment} (w : WorldState) (ms : List Moment) → Stands past w → history w past ≡ ms → OfWire ms
of_world {past} w ms h e = record {
  laws = subst IsOfWire e (laws_of past w h);
  facts = subst (λ x. Facts (terms x)) (h.is.past_is ∙ e) (holds h.wire h.reached).facts;
}

pub of_wire : (line : ℕ) (run : Run) → IsRun run → OfWire (history_of line run)
of_wire line run q =
    let b = sound_after fitting_law own_fitting_law line run run.entries q.few q.short q.entries q.lines in
    of_world (after (beginning run) run.entries).world (history_of line run) b.sound.stands b.is

-- ---- behind some deliveries

module _ (line : ℕ) (run : Run) (q : IsRun run) (next : ℕ) where
  abbrev start : Scene
  start = after (beginning run) run.entries

  abbrev pub there : List (Option Told) → Scene
  there told = after_all told (begun start)

  -- the history there
  abbrev pub between : Event → List (Option Told) → List Moment
  between event told = map said (there told).world.fresh ++ asked next event ∷ history_of line run

  before : SoundAfter line run run.entries start.world
  before = sound_after fitting_law own_fitting_law line run run.entries q.few q.short q.entries q.lines

  stands_by : (event : Event) (told : List (Option Told)) → Sound (asked next event ∷ history start.world before.past) (length run.entries) (there told).world → StandsBetween line run next event (there told).world
  stands_by event told sound = record {
    past = asked next event ∷ history start.world before.past;
    lines = length run.entries;
    sound = sound;
    is = ap (λ ms. map said (there told).world.fresh ++ asked next event ∷ ms) before.is;
    size = count_between told start ∙ count_after run run.entries;
  }

  begins : (event : Event) → is_reset event ≡ false → Sound (asked next event ∷ history start.world before.past) (length run.entries) (begun start).world
  begins event e = opens next event start.world e before.sound

  more : (event : Event) → is_reset event ≡ false → ((ms : List Moment) → (terms (asked next event ∷ ms)).repeats ≡ false) → (told : List (Option Told)) → MayAll told (begun start) → StandsBetween line run next event (there told).world
  more event e repeats told m = stands_by event told (all_sound told (are_told told start m) (begun start) (begins event e) (repeats (history start.world before.past)))

  pub stands_there : (event : Event) (told : List (Option Told)) → IsDelivering event told → MayAll told (begun start) → StandsBetween line run next event (there told).world
  stands_there (events.Step count) told d m = more (events.Step count) refl (λ ms. refl) told m
  stands_there events.Settle told d m = more events.Settle refl (λ ms. refl) told m
  stands_there (events.Deliver n) told d m = subst (λ xs. StandsBetween line run next (events.Deliver n) (there xs).world) (sym d) (stands_by (events.Deliver n) [] (begins (events.Deliver n) refl))
  stands_there (events.Repeat n) told d m = subst (λ xs. StandsBetween line run next (events.Repeat n) (there xs).world) (sym d) (stands_by (events.Repeat n) [] (begins (events.Repeat n) refl))
  stands_there (events.Begin initiators ready) told d m = absurd d
  stands_there (events.Act j action) told d m = absurd d
  stands_there (events.Reset physical) told d m = absurd d
  stands_there (events.See node) told d m = absurd d
  stands_there (events.Lose n) told d m = absurd d
  stands_there (events.Timeout n) told d m = absurd d
  stands_there events.Tick told d m = absurd d
  stands_there (events.Inject initiator bytes) told d m = absurd d
  stands_there (events.Key unit key) told d m = absurd d

  pub of_wire_there : (event : Event) (told : List (Option Told)) → IsDelivering event told → MayAll told (begun start) → OfWire (between event told)
  of_wire_there event told d m =
      let b = stands_there event told d m in
      of_world (there told).world (between event told) b.sound.stands b.is

  -- ---- what is carried on

  module _ {Q : List Moment → ℕ → InitiatorState → Type 0} (P : List Moment → ℕ → InitiatorState → Type 0) (law : CarriesSent Q P) (known : Knows Q line run) (first : (i : ℕ) → i < run.initiators → P (moments_behind line run []) i (new_state i run.ready)) (i : ℕ) (b : i < run.initiators) where
    abbrev Holds : Event → List (Option Told) → Type 0
    Holds event told = P (between event told) i (initiator_at (there told).world i)

    opened : (event : Event) → Holds event []
    opened event = law.asked next event (history_of line run) i (initiator_at start.world i) (sent_of_runs P law line run known first q i b)

    pub carried_there : (event : Event) (told : List (Option Told)) → IsDelivering event told → MayAll told (begun start) → Holds event told
    carried_there (events.Step count) told d m = sent_between_runs P law line run known first q next (Some count) told m i b
    carried_there events.Settle told d m = sent_between_runs P law line run known first q next None told m i b
    carried_there (events.Deliver n) told d m = subst (λ xs. Holds (events.Deliver n) xs) (sym d) (opened (events.Deliver n))
    carried_there (events.Repeat n) told d m = subst (λ xs. Holds (events.Repeat n) xs) (sym d) (opened (events.Repeat n))
    carried_there (events.Begin initiators ready) told d m = absurd d
    carried_there (events.Act j action) told d m = absurd d
    carried_there (events.Reset physical) told d m = absurd d
    carried_there (events.See node) told d m = absurd d
    carried_there (events.Lose n) told d m = absurd d
    carried_there (events.Timeout n) told d m = absurd d
    carried_there events.Tick told d m = absurd d
    carried_there (events.Inject initiator bytes) told d m = absurd d
    carried_there (events.Key unit key) told d m = absurd d
