-- What may stand in the history of a drill, moment by moment: its lines, and notes that lose nothing; each packet that arrives was in flight.
use Rattle.std.proofs.Common.{◌≡◌, ◌∙◌, refl, sym, ap, subst, ℕ, zero, suc, ◌+◌, Bool, true, false, cond, List, [], ◌∷◌, ◌++◌, map, reverse, Option, Some, None, append_assoc}
use Rattle.std.specs.List.{AllByRecursion}
use Rattle.std.proofs.lemmas.List.{map-append, reverse-append, reverse-reverse}
use Rattle.rbc_disk.specs.Disk.{Disk}
use Rattle.sbp_journal.proofs.Each.{all_append}
use Rattle.sbp_journal.specs.Run.{Entry, Moment, asked, history, said}
use Rattle.sbp_journal.specs.Wire.{Flight, terms}
use Rattle.sbp_journal.specs.declared.event.Cmd.{Cmd}
use Rattle.sbp_journal.specs.declared.event.Event.{Event}
use Rattle.sbp_journal.specs.declared.event.Event.TheVariants as events
use Rattle.sbp_journal.specs.declared.event.Action.TheVariants as actions
use Rattle.sbp_journal.specs.declared.note.Note.{Note}
use Rattle.sbp_journal.specs.declared.note.Note.TheVariants as notes
use Rattle.sbp_laws.specs.ActionLaw.{Acts, ActsOr, Brings, BringsEach}
use Rattle.sbp_laws.specs.Actions.{append_notes, link_notes, new_list, new_number, refusal_at}
use Rattle.sbp_laws.specs.Budget.{flies, lowest_flying, settle_deliveries}
use Rattle.sbp_laws.specs.Deliveries.{AreLowest, EndsSettle, is_effect}
use Rattle.sbp_laws.specs.Turns.{EachMoment, effects_of, sends_of}
use Rattle.drill_laws.specs.DrillLines.{AreDrillLines, IsDrillLine}

-- ---- notes of a drill, but for those of its first line and of packets that arrive
abbrev pub is_plain : Note → Bool
is_plain (notes.Begin initiators ready) = false
is_plain (notes.Got serial) = false
is_plain (notes.Ignored serial cause) = false
is_plain (notes.Lost serial) = false
is_plain (notes.TimedOut serial) = false
is_plain (notes.Injected serial) = false
is_plain (notes.Reset generation) = false
is_plain (notes.Seen node generation) = false
is_plain notes.Tick = false
is_plain (notes.Key unit) = false
is_plain _ = true

-- a line that may stand there
abbrev pub MayAsk : List Moment → Event → Type 0
MayAsk [] event = event ≡ events.Begin 2 true
MayAsk (moment ∷ past) event = IsDrillLine event

-- the note of the first line
pub record IsFirst (past : List Moment) (initiators : ℕ) : Type 0 where
  pub line : ℕ
  pub past_is : past ≡ asked line (events.Begin 2 true) ∷ []
  pub two : initiators ≡ 2

abbrev pub Flies : List Moment → ℕ → Type 0
Flies past serial = flies ((terms past).flight serial) ≡ true

abbrev pub DrillAt : Moment → List Moment → Type 0
DrillAt (asked line event) past = MayAsk past event
DrillAt (said (notes.Begin initiators ready)) past = IsFirst past initiators
DrillAt (said (notes.Got serial)) past = Flies past serial
DrillAt (said (notes.Ignored serial cause)) past = Flies past serial
DrillAt (said note) past = is_plain note ≡ true

-- ---- notes in the order of time
module _ (At : Moment → List Moment → Type 0) where
  abbrev pub Forward : List Moment → List Note → Type 0
  Forward past [] = Unit {0}
  Forward past (note ∷ rest) = At (said note) past × Forward (said note ∷ past) rest

  pub forward_last : (past : List Moment) (told : List Note) (note : Note) → ((past : List Moment) → At (said note) past) → Forward past told → Forward past (told ++ note ∷ [])
  forward_last past [] note last f = (last past, tt)
  forward_last past (first ∷ rest) note last f = (f.0, forward_last (said first ∷ past) rest note last f.1)

  pub each_forward : (past : List Moment) (told : List Note) → EachMoment At past → Forward past told → EachMoment At (map said (reverse told) ++ past)
  each_forward past [] each f = each
  each_forward past (note ∷ rest) each f =
      let whole : map said (reverse rest) ++ (said note ∷ past) ≡ map said (reverse (note ∷ rest)) ++ past
      = sym (append_assoc (map said (reverse rest)) (said note ∷ []) past) ∙ ap (λ ms. ms ++ past) (sym (map-append said (reverse rest) (note ∷ [])) ∙ ap (map said) (sym (reverse-append (note ∷ []) rest))) in
      subst (EachMoment At) whole (each_forward (said note ∷ past) rest (f.0, each) f.1)

  -- the notes of a line, the latest one first
  pub each_line : (past : List Moment) (told : List Note) → EachMoment At past → Forward past (reverse told) → EachMoment At (map said told ++ past)
  each_line past told each f = subst (λ ns. EachMoment At (map said ns ++ past)) (reverse-reverse told) (each_forward past (reverse told) each f)

-- ---- plain notes
abbrev ArePlain : List Note → Type 0
ArePlain told = AllByRecursion (λ note. is_plain note ≡ true) told

plain_at : (note : Note) (past : List Moment) → is_plain note ≡ true → DrillAt (said note) past
plain_at (notes.Begin initiators ready) past e = absurd (cc e)
plain_at (notes.Got serial) past e = absurd (cc e)
plain_at (notes.Ignored serial cause) past e = absurd (cc e)
plain_at _ past e = e

plain_forward : (past : List Moment) (told : List Note) → ArePlain told → Forward DrillAt past told
plain_forward past [] p = tt
plain_forward past (note ∷ rest) p = (plain_at note past p.0, plain_forward (said note ∷ past) rest p.1)

effect_plain : (note : Note) → is_effect note ≡ true → is_plain note ≡ true
effect_plain (notes.Begin initiators ready) e = absurd (cc e)
effect_plain (notes.Got serial) e = absurd (cc e)
effect_plain (notes.Ignored serial cause) e = absurd (cc e)
effect_plain (notes.Lost serial) e = absurd (cc e)
effect_plain (notes.TimedOut serial) e = absurd (cc e)
effect_plain (notes.Injected serial) e = absurd (cc e)
effect_plain (notes.Reset generation) e = absurd (cc e)
effect_plain (notes.Seen node generation) e = absurd (cc e)
effect_plain notes.Tick e = absurd (cc e)
effect_plain (notes.Key unit) e = absurd (cc e)
effect_plain _ e = refl

-- ---- the lines
lowest_flies : (flight : ℕ → Flight) (tries from serial : ℕ) → lowest_flying flight tries from ≡ Some serial → flies (flight serial) ≡ true
unfolding lowest_flying
lowest_flies flight zero from serial e = let no : None ≡ Some serial = e in absurd (cc no)
lowest_flies flight (suc tries) from serial e = by (flies (flight from)) refl (lowest_flies flight tries (from + 1) serial) e
  where
    by : (b : Bool) → flies (flight from) ≡ b → (lowest_flying flight tries (from + 1) ≡ Some serial → flies (flight serial) ≡ true) → cond b (Some from) (lowest_flying flight tries (from + 1)) ≡ Some serial → flies (flight serial) ≡ true
    by true f later e = let same : from ≡ serial = cc e in ap (λ s. flies (flight s)) (sym same) ∙ f
    by false f later e = later e

lowest_forward : (past : List Moment) (told : List Note) → AreLowest past told → Forward DrillAt past told
lowest_forward past [] h = tt
lowest_forward past (notes.Got serial ∷ rest) h = (lowest_flies (terms past).flight (terms past).count 1 serial h.0, lowest_forward _ rest h.1)
lowest_forward past (notes.Ignored serial cause ∷ rest) h = (lowest_flies (terms past).flight (terms past).count 1 serial h.0, lowest_forward _ rest h.1)
lowest_forward past (note ∷ rest) h = (plain_at note past (effect_plain note h.0), lowest_forward _ rest h.1)

sends_plain : (told : List Note) → ArePlain (sends_of told)
sends_plain [] = tt
sends_plain (notes.Sent serial generation from to bytes ∷ rest) = (refl, sends_plain rest)
sends_plain (_ ∷ rest) = sends_plain rest

links_plain : (i n k : ℕ) → ArePlain (link_notes i n k)
links_plain i n zero = tt
links_plain i n (suc k) = (refl, (refl, tt))

append_plain : (i n k : ℕ) (cmd : Cmd) → ArePlain (append_notes i n k cmd)
append_plain i n k cmd = (refl, all_append (λ note. is_plain note ≡ true) (link_notes i n k) (notes.Rung i n k ∷ []) (links_plain i n k) (refl, tt))

acts_plain : (past : List Moment) (i : ℕ) (cmd : Cmd) (told : List Note) → Acts past i (actions.Append cmd) told → ArePlain told
acts_plain past i cmd told h =
    subst ArePlain (sym h.first)
    (all_append (λ note. is_plain note ≡ true) (effects_of told) (sends_of told) (subst ArePlain (sym h.effects) (append_plain i (new_list past i) (new_number past i) cmd)) (sends_plain told))

line_forward : (disks : List Disk) (past : List Moment) (line : ℕ) (event : Event) (told : List Note) → IsDrillLine event → Brings disks past line event told → Forward DrillAt (asked line event ∷ past) told
line_forward disks past line (events.Act i (actions.Append cmd)) told is h = by (refusal_at past i (actions.Append cmd)) h
  where
    by : (refusal : Option ℕ) → ActsOr refusal past line i (actions.Append cmd) told → Forward DrillAt (asked line (events.Act i (actions.Append cmd)) ∷ past) told
    by (Some number) e = subst (Forward DrillAt (asked line (events.Act i (actions.Append cmd)) ∷ past)) (sym e) (refl, tt)
    by None acts = plain_forward _ told (acts_plain past i cmd told acts)
line_forward disks past line events.Settle told is h =
    subst (Forward DrillAt (asked line events.Settle ∷ past)) (sym h.is) (forward_last DrillAt _ h.before h.last (last_at (asked line events.Settle ∷ past) (settle_deliveries (asked line events.Settle ∷ past)) h.before h.last h.ends) (lowest_forward _ h.before h.delivers.lowest))
  where
    last_at : (earlier : List Moment) (most : ℕ) (ns : List Note) (note : Note) → EndsSettle earlier most ns note → (past : List Moment) → DrillAt (said note) past
    last_at earlier most ns notes.Settled h past = refl
    last_at earlier most ns notes.Stopped h past = refl
    last_at earlier most ns _ h past = absurd h
line_forward disks past line _ told is h = absurd is

-- ---- the history
asked_behind : (entry : Entry) (before : List Entry) (event : Event) → IsDrillLine event → MayAsk (history (entry ∷ before)) event
asked_behind entry before event is = by (map said entry.notes) is
  where
    by : (told : List Moment) → IsDrillLine event → MayAsk (told ++ asked entry.line entry.event ∷ history before) event
    by [] is = is
    by (moment ∷ told) is = is

pub drill_moments : (disks : List Disk) (entries : List Entry) → BringsEach disks entries → AreDrillLines entries → EachMoment DrillAt (history entries)
drill_moments disks [] h are = absurd are
drill_moments disks (entry ∷ []) h are =
    let told : reverse entry.notes ≡ notes.Begin 2 true ∷ [] = subst (λ e. Brings disks [] entry.line e (reverse entry.notes)) are h.0 in
    each_line DrillAt (asked entry.line entry.event ∷ []) entry.notes (are, tt)
    (subst (Forward DrillAt (asked entry.line entry.event ∷ [])) (sym told) (record { line = entry.line; past_is = ap (λ e. asked entry.line e ∷ []) are; two = refl }, tt))
drill_moments disks (entry ∷ next ∷ before) h are =
    each_line DrillAt (asked entry.line entry.event ∷ history (next ∷ before)) entry.notes (asked_behind next before entry.event are.0, drill_moments disks (next ∷ before) h.1 are.1)
    (line_forward disks (history (next ∷ before)) entry.line entry.event (reverse entry.notes) are.0 h.0)
