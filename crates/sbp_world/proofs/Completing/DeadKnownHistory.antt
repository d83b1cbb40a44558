-- Where no death stands among what was said since the target first saw the latest reset, none of its agents is dead, or about to be: turn by turn.
use Rattle.sbp_world.proofs.Words.Std.{arith, ◌≡◌, ◌∙◌, refl, sym, ap, subst, ℕ, suc, ◌+◌, ◌<◌, ◌≤◌, ◌==◌, ◌||◌, nat_lt, nat_tests, Bool, true, false, List, [], ◌∷◌, ◌++◌, length, map, false≢true}
use Rattle.sbp_world.proofs.Words.Wire.{Event, Moment, Note, asked, said, terms}
use Rattle.sbp_world.proofs.Words.Target.{NodeState}
use Rattle.sbp_world.proofs.Words.World.{WorldState}
use Rattle.sbp_journal.specs.declared.note.Note.TheVariants as notes
use Rattle.sbp_laws.specs.Budget.{since_reset}
use Rattle.sbp_world.specs.Completing.Deaths.{NoneDies}
use Rattle.sbp_world.specs.Completing.Sights.{has_seen, since_sight}
use Rattle.sbp_world.proofs.Common.{said_joined}
use Rattle.sbp_world.proofs.Completing.DeadKnownCalls.{AreAlive}
use Rattle.sbp_world.proofs.Completing.DeadKnownSays.{Lives, Says}
use Rattle.sbp_world.proofs.Completing.DeadKnownTurns.{Leads, TurnLeads, asks, goes, lapses, passes, resets, sees, sees_own}
use Rattle.sbp_world.proofs.Completing.DeathsHistory.{Follows, asked_follows, is_open, note_bus, note_follows, note_generation, open_same, opens, sight_on, timed}
use Rattle.sbp_world.proofs.Completing.DeathsTurns.{AllMid, IsMid, any, deathless}
use Rattle.sbp_world.proofs.Lists.Generations.{moment_generation}
use Rattle.sbp_world.proofs.Pointers.Ages.{other_node}

-- the target saw the latest reset, and none is dead that no death was told of; or it did not, and is in an earlier generation
pub record Knows (past : List Moment) (x : NodeState) : Type 0 where
  pub alive : is_open past ≡ true → NoneDies (since_sight 0 past) → AreAlive x.desks
  pub early : is_open past ≡ false → (terms past).generation 0 < (terms past).bus

-- ---- one more moment that is no sight of the target, no reset and no death
abbrev IsAside : Moment → Type 0
IsAside (said (notes.Dead i list cause)) = ⊥
IsAside moment = Unit {0}

record Still (moment : Moment) (past : List Moment) : Type 0 where
  follows : Follows moment past
  open_is : is_open (moment ∷ past) ≡ is_open past
  generation : (terms (moment ∷ past)).generation 0 ≡ (terms past).generation 0

rest_dies : (moment : Moment) (ms : List Moment) → IsAside moment → NoneDies (moment ∷ ms) → NoneDies ms
rest_dies (said (notes.Dead i list cause)) ms q n = absurd q
rest_dies moment ms q n = n

still_knows : (moment : Moment) (past : List Moment) (x : NodeState) → IsAside moment → Still moment past → Knows past x → Knows (moment ∷ past) x
still_knows moment past x q s p = record {
  alive = λ o n. let was = sym s.open_is ∙ o in p.alive was (rest_dies moment (since_sight 0 past) q (subst NoneDies (sight_on moment past s.follows was) n));
  early = λ o. let l = p.early (sym s.open_is ∙ o) in let g = s.generation in let b = s.follows.bus in omega (arith, l, g, b);
}

-- ---- notes of no reset, sight or time-out
module _ (past : List Moment) where
  more_open : (more : List Note) → AllMid any more → is_open (map said more ++ past) ≡ is_open past
  more_open [] m = refl
  more_open (note ∷ more) m = open_same any (λ ms. Unit {0}) note (map said more ++ past) m.0 ∙ more_open more m.1

  more_bus : (more : List Note) → AllMid any more → (terms (map said more ++ past)).bus ≡ (terms past).bus
  more_bus [] m = refl
  more_bus (note ∷ more) m = note_bus note (map said more ++ past) m.0 ∙ more_bus more m.1

  more_generation : (more : List Note) → AllMid any more → (terms (map said more ++ past)).generation 0 ≡ (terms past).generation 0
  more_generation [] m = refl
  more_generation (note ∷ more) m = note_generation note (map said more ++ past) m.0 ∙ more_generation more m.1

  more_since : (more : List Note) → AllMid any more → is_open past ≡ true → since_sight 0 (map said more ++ past) ≡ map said more ++ since_sight 0 past
  more_since [] m o = refl
  more_since (note ∷ more) m o =
      let now = map said more ++ past in sight_on (said note) now (note_follows note now m.0) (more_open more m.1 ∙ o) ∙ ap (λ ms. said note ∷ ms) (more_since more m.1 o)

one_mid : (note : Note) (ms : List Moment) → IsMid any note → NoneDies (said note ∷ ms) → IsMid deathless note × NoneDies ms
one_mid (notes.Begin initiators ready) ms m n = absurd m
one_mid (notes.Reset generation) ms m n = absurd m
one_mid (notes.Seen node generation) ms m n = absurd m
one_mid (notes.TimedOut serial) ms m n = absurd m
one_mid (notes.Dead i list cause) ms m n = absurd n
one_mid (notes.ManageFailed i cause) ms m n = (refl, n)
one_mid note ms m n = (tt, n)

all_mid : (more : List Note) (ms : List Moment) → AllMid any more → NoneDies (map said more ++ ms) → AllMid deathless more × NoneDies ms
all_mid [] ms m n = (tt, n)
all_mid (note ∷ more) ms m n =
    let x = one_mid note (map said more ++ ms) m.0 n in
    let y = all_mid more ms m.1 x.1 in
    ((x.0, y.0), y.1)

-- ---- a turn
module _ (old : List Note) (base : List Moment) (x : NodeState) (v : WorldState) where
  abbrev before : List Moment
  before = map said old ++ base

  abbrev now : List Moment
  now = map said v.fresh ++ base

  passes_on : Says old v.fresh (Lives x v) → Knows before x → Knows now v.target
  passes_on s p = subst (λ ms. Knows ms v.target) (said_joined s.more old base ∙ ap (λ ns. map said ns ++ base) s.is) there
    where
      there : Knows (map said s.more ++ before) v.target
      there = record {
        alive = λ o n.
            let was = sym (more_open before s.more s.mid) ∙ o in
            let y = all_mid s.more (since_sight 0 before) s.mid (subst NoneDies (more_since before s.more s.mid was) n) in
            s.back y.0 (p.alive was y.1);
        early = λ o.
            let l = p.early (sym (more_open before s.more s.mid) ∙ o) in
            let g = more_generation before s.more s.mid in
            let b = more_bus before s.more s.mid in
            omega (arith, l, g, b);
      }

module _ (latest : ℕ) (old : List Note) (base : List Moment) (x : NodeState) (v : WorldState) (bus : (terms (map said old ++ base)).bus ≡ latest) (aged : (terms (map said old ++ base)).generation 0 ≤ latest) (p : Knows (map said old ++ base) x) where
  abbrev here : List Moment
  here = map said old ++ base

  lapses_on : (serial : ℕ) → Says (notes.TimedOut serial ∷ old) v.fresh (Lives x v) → Knows (map said v.fresh ++ base) v.target
  lapses_on serial s =
      passes_on (notes.TimedOut serial ∷ old) base x v s
      (still_knows (said (notes.TimedOut serial)) here x tt (record {
        follows = record { bus = timed _ (terms here); since = refl };
        open_is = ap (λ (n : ℕ). (n == 0) || has_seen 0 (since_reset here)) (timed _ (terms here));
        generation = moment_generation 0 (said (notes.TimedOut serial)) here refl;
      }) p)

  resets_on : v.fresh ≡ notes.Reset (latest + 1) ∷ old → Knows (map said v.fresh ++ base) v.target
  resets_on e =
      subst (λ ns. Knows (map said ns ++ base) v.target) (sym e)
      (record {
        alive = λ o n. absurd (false≢true (sym (shut latest) ∙ o));
        early = λ o. let g = moment_generation 0 (said (notes.Reset (latest + 1))) here refl in omega (arith, g, aged);
      })
    where
      shut : (n : ℕ) → ((n + 1) == 0) || false ≡ false
      shut n = let z : ((n + 1) == 0) ≡ false = grind (arith, nat_tests) in ap (λ b. b || false) z

  sees_own_on : (i : ℕ) → Says (notes.Seen (suc i) latest ∷ old) v.fresh (Lives x v) → Knows (map said v.fresh ++ base) v.target
  sees_own_on i s =
      passes_on (notes.Seen (suc i) latest ∷ old) base x v s
      (still_knows (said (notes.Seen (suc i) latest)) here x tt (record {
        follows = record { bus = refl; since = refl };
        open_is = ap (λ b. ((terms here).bus == 0) || (b || has_seen 0 (since_reset here))) other;
        generation = other_node 0 (suc i) latest (terms here).generation other;
      }) p)
    where
      other : (suc i == 0) ≡ false
      other = grind (arith, nat_tests)

  -- the target sees it: it saw the latest reset then
  sees_on : length x.desks ≡ 8 → x.layer.generation ≡ (terms here).generation 0 → Says (notes.Seen 0 latest ∷ old) v.fresh (Lives x v) → (length x.desks ≡ 8 → nat_lt x.layer.generation latest ≡ true → AreAlive v.target.desks) → Knows (map said v.fresh ++ base) v.target
  sees_on size level s new = by (nat_lt x.layer.generation latest) refl
    where
      q : List Moment
      q = said (notes.Seen 0 latest) ∷ here

      is : map said s.more ++ q ≡ map said v.fresh ++ base
      is = said_joined s.more (notes.Seen 0 latest ∷ old) base ∙ ap (λ ns. map said ns ++ base) s.is

      either : (b : Bool) → b || true ≡ true
      either true = refl
      either false = refl

      saw : is_open q ≡ true
      saw = either ((terms here).bus == 0)

      never : (A : Type 0) → is_open (map said s.more ++ q) ≡ false → A
      never A o = absurd (false≢true (sym o ∙ (more_open q s.more s.mid ∙ saw)))

      was_by : (b : Bool) → is_open here ≡ b → nat_lt x.layer.generation latest ≡ false → is_open here ≡ true
      was_by true o e = o
      was_by false o e = absurd (let l = p.early o in let n : latest ≤ x.layer.generation = grind (arith, nat_tests, e) in omega (arith, l, n, bus, level))

      by : (b : Bool) → nat_lt x.layer.generation latest ≡ b → Knows (map said v.fresh ++ base) v.target
      by true e = subst (λ ms. Knows ms v.target) is (record { alive = λ o n. new size e; early = λ o. never _ o })
      by false e =
          let was = was_by (is_open here) refl e in
          subst (λ ms. Knows ms v.target) is
          (record {
            alive = λ o n.
                let y = all_mid s.more (since_sight 0 q) s.mid (subst NoneDies (more_since q s.more s.mid saw) n) in
                s.back y.0 (p.alive was (subst NoneDies (sight_on (said (notes.Seen 0 latest)) here (record { bus = refl; since = refl }) was) y.1));
            early = λ o. never _ o;
          })

  leads_on : length x.desks ≡ 8 → x.layer.generation ≡ (terms here).generation 0 → Leads latest old x v → Knows (map said v.fresh ++ base) v.target
  leads_on size level (passes s) = passes_on old base x v s p
  leads_on size level (lapses serial s) = lapses_on serial s
  leads_on size level (resets e) = resets_on e
  leads_on size level (sees_own i s) = sees_own_on i s
  leads_on size level (sees s new) = sees_on size level s new

-- a line is asked for
asked_knows : (line : ℕ) (event : Event) (past : List Moment) (x : NodeState) → Knows past x → Knows (asked line event ∷ past) x
asked_knows line event past x p =
    still_knows (asked line event) past x tt (record {
      follows = asked_follows any (λ ms. Unit {0}) line event past;
      open_is = ap (λ (n : ℕ). (n == 0) || has_seen 0 (since_reset past)) (opens event (terms past));
      generation = moment_generation 0 (asked line event) past refl;
    }) p

-- ---- each turn
-- what is known of the place before
pub record IsBefore (latest : ℕ) (past : List Moment) (x : NodeState) : Type 0 where
  pub bus : (terms past).bus ≡ latest
  pub aged : (terms past).generation 0 ≤ latest
  pub size : length x.desks ≡ 8
  pub level : x.layer.generation ≡ (terms past).generation 0

pub turn_knows : (latest : ℕ) (past now : List Moment) (x : NodeState) (v : WorldState) → TurnLeads latest past x now v → IsBefore latest past x → Knows past x → Knows now v.target
turn_knows latest past now x v (goes old below is ends l) b p =
    subst (λ ms. Knows ms v.target) ends
    (leads_on latest old below x v (subst (λ ms. (terms ms).bus ≡ latest) (sym is) b.bus) (subst (λ ms. (terms ms).generation 0 ≤ latest) (sym is) b.aged) (subst (λ ms. Knows ms x) (sym is) p) b.size
    (subst (λ ms. x.layer.generation ≡ (terms ms).generation 0) (sym is) b.level) l)
turn_knows latest past now x v (asks line event ends l) b p =
    let same = opens event (terms past) in
    let g = moment_generation 0 (asked line event) past refl in
    let aged = b.aged in
    subst (λ ms. Knows ms v.target) ends
    (leads_on latest [] (asked line event ∷ past) x v (same ∙ b.bus) (omega (arith, g, aged)) (asked_knows line event past x p) b.size (b.level ∙ sym g) l)
