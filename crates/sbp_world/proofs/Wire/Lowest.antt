-- Deliveries one after the other, as notes: what stands behind deliveries of the lowest packets, and one delivery more.
use Rattle.sbp_world.proofs.Words.Std.{◌≡◌, refl, sym, ◌∙◌, ap, subst, ℕ, suc, ◌+◌, true, List, [], ◌∷◌, ◌++◌, map, Some, append_assoc, arith, reverse-append, reverse-reverse}
use Rattle.sbp_world.proofs.Words.Wire.{Moment, said, terms, Note}
use Rattle.sbp_world.proofs.Words.Laws.{lowest_in_flight, AreEffects, AreLowest, BeginsDelivery, IsDelivery, IsTurnOf, deliveries, delivered_by, is_effect, once_told}
use Rattle.std.proofs.Common.{reverse}
use Rattle.sbp_journal.specs.declared.note.Note.TheVariants as notes
use Rattle.sbp_world.proofs.Wire.Gains.{effects_append}
use Rattle.sbp_world.proofs.Wire.Turns.{Delivered, Turned}

-- ---- in the order of time
pub reversed : (note : Note) (ns : List Note) → reverse (note ∷ ns) ≡ reverse ns ++ note ∷ []
reversed note ns = reverse-append (note ∷ []) ns

effects_reversed : (ns : List Note) → AreEffects ns → AreEffects (reverse ns)
effects_reversed [] e = tt
effects_reversed (note ∷ ns) e = subst AreEffects (sym (reversed note ns)) (effects_append (reverse ns) (note ∷ []) (effects_reversed ns e.1) (e.0, tt))

-- a turn behind what was told before
turned_in_time : (first : Note) (more old : List Note) → reverse (more ++ first ∷ old) ≡ reverse old ++ first ∷ reverse more
turned_in_time first more old =
    reverse-append more (first ∷ old)
    ∙ ap (λ ns. ns ++ reverse more) (reversed first old)
    ∙ append_assoc (reverse old) (first ∷ []) (reverse more)

-- the notes of a turn in a line that told nothing before
pub turn_alone : (first : Note) (new : List Note) → Turned first [] new → IsTurnOf first (reverse new)
turn_alone first new t = subst (IsTurnOf first) (sym (ap reverse t.is ∙ turned_in_time first t.more [])) (refl, effects_reversed t.more t.effects)

pub delivery_alone : (serial : ℕ) (new : List Note) → Delivered serial [] new → IsDelivery serial (reverse new)
delivery_alone serial new d =
    let t = d.turned in
    subst (IsDelivery serial) (sym (ap reverse t.is ∙ turned_in_time d.first t.more [])) (d.by, effects_reversed t.more t.effects)

-- ---- what stood before, with notes in the order of time
abbrev over : List Moment → List Note → List Moment
over past [] = past
over past (note ∷ ns) = over (said note ∷ past) ns

over_is : (past : List Moment) (ns : List Note) → over past ns ≡ once_told past ns
over_is past [] = refl
over_is past (note ∷ ns) =
    over_is (said note ∷ past) ns
    ∙ sym (ap (λ xs. map said xs ++ past) (reversed note ns)
    ∙ said_more (reverse ns) note past)
  where
    said_more : (xs : List Note) (note : Note) (past : List Moment) → map said (xs ++ note ∷ []) ++ past ≡ map said xs ++ said note ∷ past
    said_more [] note past = refl
    said_more (x ∷ xs) note past = ap (λ ms. said x ∷ ms) (said_more xs note past)

pub told_once : (past : List Moment) (fresh : List Note) → once_told past (reverse fresh) ≡ map said fresh ++ past
told_once past fresh = ap (λ xs. map said xs ++ past) (reverse-reverse fresh)

-- ---- effects are no deliveries
one_lowest : (past : List Moment) (note : Note) (rest : List Note) → is_effect note ≡ true → AreLowest (said note ∷ past) rest → AreLowest past (note ∷ rest)
one_lowest past (notes.Got serial) rest e l = cc
one_lowest past (notes.Ignored serial cause) rest e l = cc
one_lowest past note rest e l = (e, l)

effects_lowest : (past : List Moment) (ns : List Note) → AreEffects ns → AreLowest past ns
effects_lowest past [] e = tt
effects_lowest past (note ∷ ns) e = one_lowest past note ns e.0 (effects_lowest (said note ∷ past) ns e.1)

one_counts : (note : Note) (rest : List Note) → is_effect note ≡ true → deliveries (note ∷ rest) ≡ deliveries rest
one_counts (notes.Got serial) rest e = cc
one_counts (notes.Ignored serial cause) rest e = cc
one_counts note rest e = refl

effects_count : (ns : List Note) → AreEffects ns → deliveries ns ≡ 0
effects_count [] e = refl
effects_count (note ∷ ns) e = one_counts note ns e.0 ∙ effects_count ns e.1

-- ---- one delivery

first_lowest : (past : List Moment) (serial : ℕ) (note : Note) (rest : List Note) → delivered_by note ≡ Some serial → lowest_in_flight (terms past) ≡ Some serial → AreEffects rest → AreLowest past (note ∷ rest)
first_lowest past serial (notes.Got s) rest e l f = (l ∙ sym e, effects_lowest (said (notes.Got s) ∷ past) rest f)
first_lowest past serial (notes.Ignored s cause) rest e l f = (l ∙ sym e, effects_lowest (said (notes.Ignored s cause) ∷ past) rest f)
first_lowest past serial note rest e l f = cc

first_counts : (serial : ℕ) (note : Note) (rest : List Note) → delivered_by note ≡ Some serial → deliveries (note ∷ rest) ≡ suc (deliveries rest)
first_counts serial (notes.Got s) rest e = refl
first_counts serial (notes.Ignored s cause) rest e = refl
first_counts serial note rest e = cc

first_begins : (serial : ℕ) (note : Note) (rest : List Note) → delivered_by note ≡ Some serial → BeginsDelivery (note ∷ rest)
first_begins serial (notes.Got s) rest e = tt
first_begins serial (notes.Ignored s cause) rest e = tt
first_begins serial note rest e = cc

-- ---- one after the other
lowest_append : (past : List Moment) (one two : List Note) → AreLowest past one → AreLowest (over past one) two → AreLowest past (one ++ two)
lowest_append past [] two l m = m
lowest_append past (notes.Got serial ∷ one) two l m = (l.0, lowest_append (said (notes.Got serial) ∷ past) one two l.1 m)
lowest_append past (notes.Ignored serial cause ∷ one) two l m = (l.0, lowest_append (said (notes.Ignored serial cause) ∷ past) one two l.1 m)
lowest_append past (note ∷ one) two l m = (l.0, lowest_append (said note ∷ past) one two l.1 m)

pub counts_append : (one two : List Note) → deliveries (one ++ two) ≡ deliveries one + deliveries two
counts_append [] two = omega arith
counts_append (notes.Got serial ∷ one) two = let e = counts_append one two in omega (arith, e)
counts_append (notes.Ignored serial cause ∷ one) two = let e = counts_append one two in omega (arith, e)
counts_append (note ∷ one) two = counts_append one two

begins_append : (one two : List Note) → BeginsDelivery one → BeginsDelivery two → BeginsDelivery (one ++ two)
begins_append [] two b c = c
begins_append (notes.Got serial ∷ one) two b c = tt
begins_append (notes.Ignored serial cause ∷ one) two b c = tt
begins_append (note ∷ one) two b c = absurd b

-- So many deliveries of the lowest packets were told, the latest note first.
pub record AreMany (past : List Moment) (many : ℕ) (fresh : List Note) : Type 0 where
  pub begins : BeginsDelivery (reverse fresh)
  pub lowest : AreLowest past (reverse fresh)
  pub count : deliveries (reverse fresh) ≡ many

pub none_yet : (past : List Moment) (fresh : List Note) → fresh ≡ [] → AreMany past 0 fresh
none_yet past fresh e = subst (AreMany past 0) (sym e) (record { begins = tt; lowest = tt; count = refl })

pub one_more : (past : List Moment) (many serial : ℕ) (old new : List Note) → AreMany past many old → lowest_in_flight (terms (map said old ++ past)) ≡ Some serial → Delivered serial old new → AreMany past (suc many) new
one_more past many serial old new a low d =
    let t = d.turned in
    let after = reverse t.more in
    let effects = effects_reversed t.more t.effects in
    let is : reverse new ≡ reverse old ++ d.first ∷ after = ap reverse t.is ∙ turned_in_time d.first t.more old in
    let now : over past (reverse old) ≡ map said old ++ past = over_is past (reverse old) ∙ told_once past old in
    record {
      begins = subst BeginsDelivery (sym is) (begins_append (reverse old) (d.first ∷ after) a.begins (first_begins serial d.first after d.by));
      lowest = subst (AreLowest past) (sym is)
          (lowest_append past (reverse old) (d.first ∷ after) a.lowest
          (first_lowest (over past (reverse old)) serial d.first after d.by (ap (λ p. lowest_in_flight (terms p)) now ∙ low) effects));
      count = ap deliveries is ∙ counts_append (reverse old) (d.first ∷ after)
          ∙ (let x = a.count in let y = first_counts serial d.first after d.by in let z = effects_count after effects in omega (arith, x, y, z));
    }
