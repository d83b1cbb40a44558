-- What was said while the target was in the latest generation was said since it first saw the latest reset.
use Rattle.sbp_world.proofs.Words.Std.{arith, nat_tests, ◌≡◌, ◌∙◌, refl, ap, ◌<◌, ◌≤◌, ◌==◌, ◌||◌, ℕ, Bool, true, false, List, [], ◌∷◌, ◌++◌}
use Rattle.sbp_world.proofs.Words.Wire.{Moment, Note, asked, begun_in, said, terms}
use Rattle.sbp_world.proofs.Words.Laws.{EachMoment}
use Rattle.bus_transactions.specs.Carried.{AreKept}
use Rattle.sbp_journal.specs.declared.note.Note.TheVariants as notes
use Rattle.sbp_laws.specs.Budget.{since_reset}
use Rattle.sbp_world.specs.Completing.EndsLevels.{AreRisen, RisesAt}
use Rattle.sbp_world.specs.Completing.Sights.{has_seen, since_sight}
use Rattle.sbp_world.proofs.Completing.DeathsHistory.{Follows, is_open, note_bus, opens, sight_on}
use Rattle.sbp_world.proofs.Completing.EndsBecame.{kept_back}
use Rattle.sbp_world.proofs.Completing.EndsLevels.{aged, bus_grows, late_bus}
use Rattle.sbp_world.proofs.Completing.RestLosses.{BeginsFirst, NothingSaid}
use Rattle.sbp_world.proofs.Lists.Generations.{moment_generation}

-- ---- one more moment of the same generation
or_on : (b c d : Bool) → (c ≡ true → d ≡ true) → (b || c) ≡ true → (b || d) ≡ true
or_on true c d k o = refl
or_on false c d k o = k o

has_more : (m : Moment) (ms : List Moment) → has_seen 0 ms ≡ true → has_seen 0 (m ∷ ms) ≡ true
has_more (said (notes.Seen node generation)) ms e = ap (λ b. (node == 0) || b) e ∙ either (node == 0)
  where
    either : (b : Bool) → (b || true) ≡ true
    either true = refl
    either false = refl
has_more m ms e = e

open_on : (m : Moment) (past : List Moment) → Follows m past → is_open past ≡ true → is_open (m ∷ past) ≡ true
open_on m past f o =
    ap (λ (n : ℕ). (n == 0) || has_seen 0 (since_reset (m ∷ past))) f.bus
    ∙ (ap (λ ms. ((terms past).bus == 0) || has_seen 0 ms) f.since
    ∙ or_on ((terms past).bus == 0) (has_seen 0 (since_reset past)) (has_seen 0 (m ∷ since_reset past)) (has_more m (since_reset past)) o)

follows : (m : Moment) (past : List Moment) → RisesAt m past → (NothingSaid past → ⊥) → BeginsFirst m past → (terms (m ∷ past)).bus ≤ (terms past).bus → Follows m past
follows (asked line event) past rises some first low = record { bus = opens event (terms past); since = refl }
follows (said (notes.Reset generation)) past rises some first low = absurd (omega (arith, rises, low))
follows (said (notes.Begin initiators ready)) past rises some first low = absurd (some first)
follows (said (notes.Sent serial generation from to bytes)) past rises some first low = record { bus = note_bus (notes.Sent serial generation from to bytes) past tt; since = refl }
follows (said (notes.Got serial)) past rises some first low = record { bus = note_bus (notes.Got serial) past tt; since = refl }
follows (said (notes.Ignored serial cause)) past rises some first low = record { bus = note_bus (notes.Ignored serial cause) past tt; since = refl }
follows (said (notes.TimedOut serial)) past rises some first low = record { bus = late_bus (begun_in ((terms past).sent serial)) (terms past); since = refl }
follows (said note) past rises some first low = record { bus = refl; since = refl }

-- ---- the target is in the latest generation where it saw the latest reset alone
none_bus : (past : List Moment) → NothingSaid past → (terms past).bus ≡ 0
none_bus [] none = refl
none_bus (asked line event ∷ past) none = opens event (terms past) ∙ none_bus past none
none_bus (said note ∷ past) none = absurd none

abbrev IsLevel : List Moment → Type 0
IsLevel past = (terms past).generation 0 ≡ (terms past).bus

saw : (past : List Moment) → AreRisen past → EachMoment BeginsFirst past → IsLevel past → 0 < (terms past).bus → has_seen 0 (since_reset past) ≡ true
saw [] rises first level some = absurd (omega (arith, some))
saw (asked line event ∷ past) rises first level some =
    let b = opens event (terms past) in
    let g = moment_generation 0 (asked line event) past refl in
    saw past rises.1 first.1 (omega (arith, b, g, level)) (omega (arith, b, some))
saw (said (notes.Reset generation) ∷ past) rises first level some =
    let old = aged past rises.1 0 in
    let up = rises.0 in
    absurd (omega (arith, old, up, level))
saw (said (notes.Seen node generation) ∷ past) rises first level some = by (λ same. saw past rises.1 first.1 same some) (node == 0) refl
  where
    by : (IsLevel past → has_seen 0 (since_reset past) ≡ true) → (b : Bool) → (node == 0) ≡ b → has_seen 0 (since_reset (said (notes.Seen node generation) ∷ past)) ≡ true
    by before true e = ap (λ b. b || has_seen 0 (since_reset past)) e
    by before false e =
        let g = moment_generation 0 (said (notes.Seen node generation)) past e in
        ap (λ b. b || has_seen 0 (since_reset past)) e ∙ before (omega (arith, g, level))
saw (said (notes.Begin initiators ready) ∷ past) rises first level some = let b = none_bus past first.0 in absurd (omega (arith, b, some))
saw (said (notes.Sent serial generation from to bytes) ∷ past) rises first level some =
    let b = note_bus (notes.Sent serial generation from to bytes) past tt in
    let g = moment_generation 0 (said (notes.Sent serial generation from to bytes)) past refl in
    saw past rises.1 first.1 (omega (arith, b, g, level)) (omega (arith, b, some))
saw (said (notes.Got serial) ∷ past) rises first level some =
    let b = note_bus (notes.Got serial) past tt in
    let g = moment_generation 0 (said (notes.Got serial)) past refl in
    saw past rises.1 first.1 (omega (arith, b, g, level)) (omega (arith, b, some))
saw (said (notes.Ignored serial cause) ∷ past) rises first level some =
    let b = note_bus (notes.Ignored serial cause) past tt in
    let g = moment_generation 0 (said (notes.Ignored serial cause)) past refl in
    saw past rises.1 first.1 (omega (arith, b, g, level)) (omega (arith, b, some))
saw (said (notes.TimedOut serial) ∷ past) rises first level some =
    let b = late_bus (begun_in ((terms past).sent serial)) (terms past) in
    let g = moment_generation 0 (said (notes.TimedOut serial)) past refl in
    saw past rises.1 first.1 (omega (arith, b, g, level)) (omega (arith, b, some))
saw (said note ∷ past) rises first level some = saw past rises.1 first.1 level some

open_there : (past : List Moment) → AreRisen past → EachMoment BeginsFirst past → IsLevel past → is_open past ≡ true
open_there past rises first level = by ((terms past).bus == 0) refl
  where
    by : (b : Bool) → ((terms past).bus == 0) ≡ b → is_open past ≡ true
    by true e = ap (λ b. b || has_seen 0 (since_reset past)) e
    by false e = ap (λ b. b || has_seen 0 (since_reset past)) e ∙ saw past rises first level (grind (arith, nat_tests, e))

-- ---- the generation of the bus does not fall
bus_up : (later before : List Moment) → AreRisen (later ++ before) → (terms before).bus ≤ (terms (later ++ before)).bus
bus_up [] before rises = omega arith
bus_up (m ∷ later) before rises =
    let up = bus_up later before rises.1 in
    let grow = bus_grows m (later ++ before) rises.0 in
    omega (arith, up, grow)

risen_from : (later before : List Moment) → AreRisen (later ++ before) → AreRisen before
risen_from [] before rises = rises
risen_from (m ∷ later) before rises = risen_from later before rises.1

first_from : (later before : List Moment) → EachMoment BeginsFirst (later ++ before) → EachMoment BeginsFirst before
first_from [] before first = first
first_from (m ∷ later) before first = first_from later before first.1

said_in : (later : List Moment) (note : Note) (before : List Moment) → NothingSaid (later ++ said note ∷ before) → ⊥
said_in [] note before none = none
said_in (asked line event ∷ later) note before none = said_in later note before none
said_in (said other ∷ later) note before none = absurd none

-- ---- nothing was lost before, in that generation
kept_down : (later before : List Moment) → AreRisen (later ++ before) → (latest : ℕ) → (terms (later ++ before)).bus ≤ latest → ((terms (later ++ before)).bus ≡ latest → AreKept (later ++ before)) → (terms before).bus ≡ latest → AreKept before
kept_down [] before rises latest low kept e = kept e
kept_down (m ∷ later) before rises latest low kept e =
    let grow = bus_grows m (later ++ before) rises.0 in
    kept_down later before rises.1 latest (omega (arith, grow, low)) (kept_back m (later ++ before) rises.0 latest low kept) e

-- ---- a note that was said while the target was in the latest generation
module _ (note : Note) (before : List Moment) (own : Follows (said note) before) where
  -- it stands since the sight
  abbrev IsSince : List Moment → Type 0
  IsSince later = (let past = later ++ said note ∷ before in (is_open past ≡ true) × (since_sight 0 past ≡ later ++ said note ∷ since_sight 0 before))

  sight_from : (later : List Moment) → AreRisen (later ++ said note ∷ before) → EachMoment BeginsFirst (later ++ said note ∷ before) → (terms (later ++ said note ∷ before)).bus ≤ (terms before).bus → is_open before ≡ true → IsSince later
  sight_from [] rises first low o = (open_on (said note) before own o, sight_on (said note) before own o)
  sight_from (m ∷ later) rises first low o =
      let past = later ++ said note ∷ before in
      let grow = bus_grows m past rises.0 in
      let rest = sight_from later rises.1 first.1 (omega (arith, low, grow)) o in
      let up = bus_up later (said note ∷ before) rises.1 in
      let one = own.bus in
      let f = follows m past rises.0 (said_in later note before) first.0 (omega (arith, low, up, one)) in
      (open_on m past f rest.0, sight_on m past f rest.0 ∙ ap (λ ms. m ∷ ms) rest.1)

  module _ (later : List Moment) (rises : AreRisen (later ++ said note ∷ before)) (first : EachMoment BeginsFirst (later ++ said note ∷ before)) (level : (terms before).generation 0 ≡ (terms (later ++ said note ∷ before)).bus) where
    behind : AreRisen before
    behind = (risen_from later (said note ∷ before) rises).1

    pub same_bus : (terms before).bus ≡ (terms (later ++ said note ∷ before)).bus
    same_bus =
        let old = aged before behind 0 in
        let up = bus_up later (said note ∷ before) rises in
        let one = own.bus in
        omega (arith, old, up, one, level)

    pub in_sight : since_sight 0 (later ++ said note ∷ before) ≡ later ++ said note ∷ since_sight 0 before
    in_sight =
        let same = same_bus in
        (sight_from later rises first (omega (arith, same)) (open_there before behind (first_from later (said note ∷ before) first).1 (omega (arith, same, level)))).1

    pub kept_then : AreKept (later ++ said note ∷ before) → AreKept before
    kept_then kept =
        let latest = (terms (later ++ said note ∷ before)).bus in
        let same = same_bus in
        let one = own.bus in
        let here = kept_down later (said note ∷ before) rises latest (omega arith) (λ e. kept) (omega (arith, same, one)) in
        kept_back (said note) before (risen_from later (said note ∷ before) rises).0 latest (omega (arith, same, one)) (λ e. here) same
