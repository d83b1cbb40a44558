-- Deliveries one after the other are determined: each by the lowest packet in flight, and how many there are.
use Rattle.std.proofs.Common.{◌≡◌, ◌∙◌, ℕ, suc, ◌+◌, ◌≤◌, ◌⊎◌, Bool, List, [], ◌∷◌, Some, None, true≢false, refl, sym, ap, subst, inl, inr, arith}
use Rattle.rbc_disk.specs.Disk.{Disk}
use Rattle.sbp_journal.specs.Run.{Moment, said}
use Rattle.sbp_journal.specs.Wire.{terms}
use Rattle.sbp_journal.specs.declared.note.Note.{Note}
use Rattle.sbp_journal.specs.declared.note.Note.TheVariants as notes
use Rattle.sbp_laws.specs.Budget.{lowest_in_flight}
use Rattle.sbp_laws.specs.Deliveries.{AreLowest, NoneFlies, delivered_by, deliveries}
use Rattle.sbp_laws.specs.JudgementLaw.{verdict_of}
use Rattle.sbp_laws.specs.Turns.{EachMoment, EachTurn, EachTurnBefore, turn}
use Rattle.lawful_journal.specs.Telling.{Telling}
use Rattle.lawful_journal.proofs.Histories.{front, moments_front, put, turns_before}
use Rattle.lawful_journal.proofs.Takings.{HoldsAt}
use Rattle.lawful_journal.proofs.Turned.{Holds, same_rest, same_verdict}

-- the note that a delivery of a packet begins with
abbrev pub first_note : List Disk → List Moment → ℕ → Note
first_note disks past serial = (verdict_of disks (turn past (said notes.Tick) []) serial).note

pub is_first : (telling : Telling) (disks : List Disk) (past : List Moment) (note : Note) (rest : List Note) (serial : ℕ) → delivered_by note ≡ Some serial → Holds telling disks (turn past (said note) rest) → note ≡ first_note disks past serial
is_first telling disks past (notes.Got other) rest serial e h =
    sym h.judges ∙ ap (λ v. v.note) (same_verdict disks past (said (notes.Got other)) (said notes.Tick) rest [] other) ∙ ap (first_note disks past) (let same : other ≡ serial = cc e in same)
is_first telling disks past (notes.Ignored other cause) rest serial e h =
    sym h.judges.0 ∙ ap (λ v. v.note) (same_verdict disks past (said (notes.Ignored other cause)) (said notes.Tick) rest [] other) ∙ ap (first_note disks past) (let same : other ≡ serial = cc e in same)
is_first telling disks past note rest serial e h = absurd (let no : None ≡ Some serial = e in cc)

-- this note begins a turn
abbrev pub Begins : Telling → List Disk → List Moment → Note → Type 0
Begins telling disks past first = (rest : List Note) → EachTurnBefore (Holds telling disks) (said first ∷ past) rest → Holds telling disks (turn past (said first) rest)

module _ (wild : ℕ → Bool) (telling : Telling) (disks : List Disk) where
  -- what the laws say of a history that goes on by these notes
  abbrev pub Stands : List Moment → List Note → Type 0
  Stands past told = EachTurn (Holds telling disks) (put past told) × EachMoment (HoldsAt wild telling disks) (put past told)

  -- the same rest of a turn
  pub same_front : (past : List Moment) (first : Note) (rest other : List Note)
      → Begins telling disks past first → Stands (said first ∷ past) rest → Stands (said first ∷ past) other → front rest ≡ front other
  same_front past first rest other begins stands also =
      same_rest wild telling disks past first (front rest) (front other)
      (begins (front rest) (turns_before (Holds telling disks) rest (said first ∷ past) stands.0), moments_front (HoldsAt wild telling disks) rest (said first ∷ past) stands.1)
      (begins (front other) (turns_before (Holds telling disks) other (said first ∷ past) also.0), moments_front (HoldsAt wild telling disks) other (said first ∷ past) also.1)

  -- a delivery of the lowest packet, with what follows
  record Next (past : List Moment) (told : List Note) : Type 0 where
    first : Note
    serial : ℕ
    rest : List Note
    is : told ≡ first ∷ rest
    by : delivered_by first ≡ Some serial
    flies : lowest_in_flight (terms past) ≡ Some serial
    lowest : AreLowest (said first ∷ past) rest
    counts : deliveries told ≡ suc (deliveries rest)
    begins : Begins telling disks past first
    stands : Stands (said first ∷ past) rest

  next_of : (past : List Moment) (told : List Note) → front told ≡ [] → AreLowest past told → Stands past told → (told ≡ []) ⊎ Next past told
  next_of past [] e lowest stands = inl refl
  next_of past (notes.Got serial ∷ rest) e lowest stands =
      inr (record { first = notes.Got serial; serial = serial; rest = rest; is = refl; by = refl; flies = lowest.0; lowest = lowest.1; counts = refl; begins = λ l each. each.0; stands = stands })
  next_of past (notes.Ignored serial cause ∷ rest) e lowest stands =
      inr (record { first = notes.Ignored serial cause; serial = serial; rest = rest; is = refl; by = refl; flies = lowest.0; lowest = lowest.1; counts = refl; begins = λ l each. each.0; stands = stands })
  next_of past (notes.TimedOut serial ∷ rest) e lowest stands = absurd (true≢false (sym lowest.0))
  next_of past (notes.Seen node generation ∷ rest) e lowest stands = absurd (true≢false (sym lowest.0))
  next_of past (notes.Tick ∷ rest) e lowest stands = absurd (true≢false (sym lowest.0))
  next_of past (notes.Settled ∷ rest) e lowest stands = absurd (true≢false (sym lowest.0))
  next_of past (notes.Stopped ∷ rest) e lowest stands = absurd (true≢false (sym lowest.0))
  next_of past (note ∷ rest) e lowest stands = absurd (let no : note ∷ front rest ≡ [] = e in cc)

  -- notes that go on within their turn
  record Within (told : List Note) (first : Note) (ahead : List Note) : Type 0 where
    rest : List Note
    is : told ≡ first ∷ rest
    goes : front rest ≡ ahead

  abbrev head_of : Note → List Note → Note
  head_of other [] = other
  head_of other (note ∷ rest) = note

  abbrev rest_of : List Note → List Note
  rest_of [] = []
  rest_of (note ∷ rest) = rest

  within_of : (told : List Note) (first : Note) (ahead : List Note) → front told ≡ first ∷ ahead → Within told first ahead
  within_of [] first ahead e = absurd (let no : [] ≡ first ∷ ahead = e in cc)
  within_of (notes.Got serial ∷ rest) first ahead e = absurd (let no : [] ≡ first ∷ ahead = e in cc)
  within_of (notes.Ignored serial cause ∷ rest) first ahead e = absurd (let no : [] ≡ first ∷ ahead = e in cc)
  within_of (notes.TimedOut serial ∷ rest) first ahead e = absurd (let no : [] ≡ first ∷ ahead = e in cc)
  within_of (notes.Seen node generation ∷ rest) first ahead e = absurd (let no : [] ≡ first ∷ ahead = e in cc)
  within_of (notes.Tick ∷ rest) first ahead e = absurd (let no : [] ≡ first ∷ ahead = e in cc)
  within_of (notes.Settled ∷ rest) first ahead e = absurd (let no : [] ≡ first ∷ ahead = e in cc)
  within_of (notes.Stopped ∷ rest) first ahead e = absurd (let no : [] ≡ first ∷ ahead = e in cc)
  within_of (note ∷ rest) first ahead e = record { rest = rest; is = ap (λ n. n ∷ rest) (ap (head_of first) e); goes = ap rest_of e }

  -- so many deliveries, with those before, or until none flies
  pub record Goes (most before : ℕ) (past : List Moment) (told : List Note) : Type 0 where
    pub lowest : AreLowest past told
    pub few : deliveries told + before ≤ most
    pub all : (deliveries told + before ≡ most) ⊎ NoneFlies (put past told)

  -- one of them is over, and the other has one more
  not_over : (most before : ℕ) (past : List Moment) (told : List Note) (serial count : ℕ) → told ≡ [] → Goes most before past told → lowest_in_flight (terms past) ≡ Some serial → suc count + before ≤ most → ⊥
  not_over most before past told serial count none goes flies few = by_end (subst (λ l. (deliveries l + before ≡ most) ⊎ NoneFlies (put past l)) none goes.all)
    where
      by_end : (0 + before ≡ most) ⊎ NoneFlies past → ⊥
      by_end (inl all) = omega (arith, all, few)
      by_end (inr none) = let no : None ≡ Some serial = sym none ∙ flies in cc

  module _ (most : ℕ) where
    -- what a delivery leaves, of each
    goes_on : (before : ℕ) (past : List Moment) (first : Note) (told rest : List Note) → told ≡ first ∷ rest → deliveries told ≡ suc (deliveries rest) → AreLowest (said first ∷ past) rest
        → Goes most before past told → Goes most (suc before) (said first ∷ past) rest
    goes_on before past first told rest is counts lowest goes = record {
      lowest = lowest;
      few = (let few = goes.few in omega (arith, few, counts));
      all = by_end goes.all;
    }
      where
        by_end : (deliveries told + before ≡ most) ⊎ NoneFlies (put past told) → (deliveries rest + suc before ≡ most) ⊎ NoneFlies (put (said first ∷ past) rest)
        by_end (inl all) = inl (omega (arith, all, counts))
        by_end (inr none) = inr (subst (λ l. NoneFlies (put past l)) is none)

    -- a delivery, and what follows from the same one
    record Delivers (before : ℕ) (past : List Moment) (first : Note) (rest : List Note) (serial : ℕ) : Type 0 where
      by : delivered_by first ≡ Some serial
      flies : lowest_in_flight (terms past) ≡ Some serial
      begins : Begins telling disks past first
      stands : Stands (said first ∷ past) rest
      few : suc (deliveries rest) + before ≤ most

    abbrev GoOn : ℕ → List Moment → Note → List Note → Type 0
    GoOn before past first rest = (other : List Note) → front rest ≡ front other → Stands (said first ∷ past) other → Goes most (suc before) (said first ∷ past) other → rest ≡ other

    step : (before : ℕ) (past : List Moment) (first : Note) (rest told : List Note) (serial : ℕ) → Delivers before past first rest serial → GoOn before past first rest
        → front told ≡ [] → Stands past told → Goes most before past told → first ∷ rest ≡ told
    step before past first rest told serial here go e also goes = by_next (next_of past told e goes.lowest also)
      where
        by_next : (told ≡ []) ⊎ Next past told → first ∷ rest ≡ told
        by_next (inl none) = absurd (not_over most before past told serial (deliveries rest) none goes here.flies here.few)
        by_next (inr next) =
            ap (λ l. first ∷ l) (go next.rest (same_front past first rest next.rest here.begins here.stands there) there going)
            ∙ ap (λ n. n ∷ next.rest) same ∙ sym next.is
          where
            serials : next.serial ≡ serial
            serials = cc (sym next.flies ∙ here.flies)

            same : first ≡ next.first
            same =
                is_first telling disks past first (front rest) serial here.by (here.begins (front rest) (turns_before (Holds telling disks) rest (said first ∷ past) here.stands.0))
                ∙ sym (is_first telling disks past next.first (front next.rest) serial (next.by ∙ ap Some serials) (next.begins (front next.rest) (turns_before (Holds telling disks) next.rest (said next.first ∷ past) next.stands.0)))

            there : Stands (said first ∷ past) next.rest
            there = subst (λ n. Stands (said n ∷ past) next.rest) (sym same) next.stands

            going : Goes most (suc before) (said first ∷ past) next.rest
            going = subst (λ n. Goes most (suc before) (said n ∷ past) next.rest) (sym same) (goes_on before past next.first told next.rest next.is next.counts next.lowest goes)

    pub same_deliveries : (rest other : List Note) (before : ℕ) (past : List Moment) → front rest ≡ front other → Stands past rest → Stands past other → Goes most before past rest → Goes most before past other → rest ≡ other
    same_deliveries [] other before past e stands also goes going = by_next (next_of past other (sym e) going.lowest also)
      where
        by_next : (other ≡ []) ⊎ Next past other → [] ≡ other
        by_next (inl none) = sym none
        by_next (inr next) = absurd (not_over most before past [] next.serial (deliveries next.rest) refl goes next.flies (let few = going.few in let counts = next.counts in omega (arith, few, counts)))
    same_deliveries (notes.Got serial ∷ rest) other before past e stands also goes going =
        step before past (notes.Got serial) rest other serial (record { by = refl; flies = goes.lowest.0; begins = λ l each. each.0; stands = stands; few = goes.few })
        (λ more same there on. same_deliveries rest more (suc before) (said (notes.Got serial) ∷ past) same stands there
        (goes_on before past (notes.Got serial) (notes.Got serial ∷ rest) rest refl refl goes.lowest.1 goes) on)
        (sym e) also going
    same_deliveries (notes.Ignored serial cause ∷ rest) other before past e stands also goes going =
        step before past (notes.Ignored serial cause) rest other serial (record { by = refl; flies = goes.lowest.0; begins = λ l each. each.0; stands = stands; few = goes.few })
        (λ more same there on. same_deliveries rest more (suc before) (said (notes.Ignored serial cause) ∷ past) same stands there
        (goes_on before past (notes.Ignored serial cause) (notes.Ignored serial cause ∷ rest) rest refl refl goes.lowest.1 goes) on)
        (sym e) also going
    same_deliveries (notes.TimedOut serial ∷ rest) other before past e stands also goes going = absurd (true≢false (sym goes.lowest.0))
    same_deliveries (notes.Seen node generation ∷ rest) other before past e stands also goes going = absurd (true≢false (sym goes.lowest.0))
    same_deliveries (notes.Tick ∷ rest) other before past e stands also goes going = absurd (true≢false (sym goes.lowest.0))
    same_deliveries (notes.Settled ∷ rest) other before past e stands also goes going = absurd (true≢false (sym goes.lowest.0))
    same_deliveries (notes.Stopped ∷ rest) other before past e stands also goes going = absurd (true≢false (sym goes.lowest.0))
    same_deliveries (note ∷ rest) other before past e stands also goes going =
        let within = within_of other note (front rest) (sym e) in
        let there : Stands (said note ∷ past) within.rest = subst (Stands past) within.is also in
        let on : Goes most before past (note ∷ within.rest) = subst (Goes most before past) within.is going in
        ap (λ l. note ∷ l) (same_deliveries rest within.rest before (said note ∷ past) (sym within.goes) stands there
        (record { lowest = goes.lowest.1; few = goes.few; all = goes.all }) (record { lowest = on.lowest.1; few = on.few; all = on.all })) ∙ sym within.is
