-- At a place of a run: what each ring wrote for a list that is present was got. Either it had been sent as the ORB_POINTER of the list was got, whose agent was in RESET then; or it is a DOORBELL that was got later.
use Rattle.sbp_world.proofs.Words.Std.{◌≡◌, ◌∙◌, sym, ap, subst, inl, inr, ◌<◌, ◌≤◌, not, ℕ, suc, List, [], ◌∷◌, ◌++◌, length, arith, refl, zero}
use Rattle.sbp_world.proofs.Words.Wire.{Moment, said}
use Rattle.sbp_world.proofs.Words.Target.{Disk, is_reset, state_in}
use Rattle.sbp_world.proofs.Words.Laws.{ends, lists, injectors}
use Rattle.sbp_world.proofs.Words.World.{AreApart, IsCalm, IsUp, WorldState}
use Rattle.sbp_journal.specs.declared.note.Note.TheVariants as notes
use Rattle.sbp_world.specs.Completing.Bells.{AllRungEnded, AreBellsGot, HasListThen, IsBellGot, KeepsList, WasBelled}
use Rattle.sbp_world.specs.Completing.BellsGot.{AreBellsTaken, IsBellTaken}
use Rattle.sbp_world.specs.Completing.BellsOpened.{HasOpening, AreOpenings}
use Rattle.sbp_world.specs.Completing.Present.{IsPresent, WasPointed}
use Rattle.sbp_world.specs.Completing.Sights.{IsFresh, rung}
use Rattle.sbp_world.proofs.Common.{moment_joined, moments_joined}

-- ---- two moments of a history
-- which of them stands behind the other
pub data Behind (m : Moment) (past : List Moment) (other : Moment) (before : List Moment) : Type 0 where
  first_in : (c : List Moment) → c ++ m ∷ past ≡ before → Behind m past other before
  other_in : (c : List Moment) → c ++ other ∷ before ≡ past → Behind m past other before

pub behind : (a b : List Moment) (m : Moment) (past : List Moment) (other : Moment) (before : List Moment) → (m ≡ other → ⊥) → a ++ m ∷ past ≡ b ++ other ∷ before → Behind m past other before
behind [] [] m past other before apart e = absurd (apart (let z : m ∷ past ≡ other ∷ before = e in cc))
behind [] (z ∷ b) m past other before apart e = other_in b (let y : m ∷ past ≡ z ∷ (b ++ other ∷ before) = e in cc)
behind (z ∷ a) [] m past other before apart e = first_in a (let y : z ∷ (a ++ m ∷ past) ≡ other ∷ before = e in cc)
behind (z ∷ a) (u ∷ b) m past other before apart e = behind a b m past other before apart (let y : z ∷ (a ++ m ∷ past) ≡ u ∷ (b ++ other ∷ before) = e in cc)

module _ (start : List Disk) (now : List Moment) (w : WorldState) (i n : ℕ) (inside : i < length w.initiators) (fresh : IsFresh now i n) (pointed : WasPointed now i n) (o : HasOpening start now w i n pointed.serial) (taken : AreBellsTaken start now w) where
  module _ (k : ℕ) (written : WasBelled now i n k) where
    abbrev sent : Moment
    sent = said (notes.Sent written.serial written.generation (suc i) written.to written.bytes)

    abbrev got : Moment
    got = said (notes.Got pointed.serial)

    apart : sent ≡ got → ⊥
    apart e = cc

    -- the ring wrote before
    by_pointer : (c : List Moment) → c ++ sent ∷ written.back ≡ o.before → IsBellGot start now o.place i n k written
    by_pointer c e = record {
      bell = record { later = o.later; serial = pointed.serial; past = o.before; is = o.is; begins = inr o.reset; keeps = o.keeps };
      front = c ++ sent ∷ [];
      is = moment_joined c sent written.back ∙ e;
    }

    -- and later
    module _ (c : List Moment) (e : c ++ got ∷ o.before ≡ written.back) where
      x : IsBellTaken now o.place i n k written
      x = taken i n k inside fresh written (record { pointed = pointed; opening = o; since = c; is = e })

      past_is : (x.front ++ c) ++ got ∷ o.before ≡ x.past
      past_is = moments_joined x.front c (got ∷ o.before) ∙ (ap (λ ms. x.front ++ ms) e ∙ x.behind)

      keeps : KeepsList start now (said (notes.Got written.serial) ∷ x.past) o.place i n
      keeps front serial back f =
          let rang = said (notes.Got written.serial) in
          let all : (back ++ rang ∷ (x.front ++ c)) ++ got ∷ o.before ≡ back ++ rang ∷ x.past = moments_joined back (rang ∷ (x.front ++ c)) (got ∷ o.before) ∙ ap (λ ms. back ++ rang ∷ ms) past_is in
          subst (λ ms. HasListThen start ms o.place i n) all (o.keeps front serial (back ++ rang ∷ (x.front ++ c)) (ap (λ ms. front ++ said (notes.Got serial) ∷ ms) all ∙ f))

      by_bell : IsBellGot start now o.place i n k written
      by_bell = record {
        bell = record { later = x.later; serial = written.serial; past = x.past; is = x.is; begins = inl x.rung; keeps = keeps };
        front = x.front;
        is = x.behind;
      }

    is_got : IsBellGot start now o.place i n k written
    is_got = by (behind written.front o.later sent written.back got o.before apart (written.is ∙ sym o.is))
      where
        by : Behind sent written.back got o.before → IsBellGot start now o.place i n k written
        by (first_in c e) = by_pointer c e
        by (other_in c e) = by_bell c e

  are_got : AreBellsGot start now o.place i n
  are_got k written = is_got k written

  -- ---- and so each rung ORB of it has ended
  module _ (calm : IsCalm now i) (apart : AreApart now w) (p : IsPresent now w i n) (ended : AllRungEnded start now w) where
    up : IsUp w i p.place
    up = record { up = ap (λ phase. not (is_reset (state_in phase))) p.suspended; own = p.own }

    same : o.place ≡ p.place
    same = apart i p.place o.place calm p.small o.small up o.up

    pub have_ended : rung now i n ≤ ends now i n
    have_ended =
        subst (λ j. j < length w.initiators → IsCalm now j → suc n ≡ lists now j → AreBellsGot start now p.place j n → rung now j n ≤ ends now j n) p.own
        (λ within quiet latest bells. ended p.place n p.small within quiet p.list latest p.suspended bells) inside calm p.latest (subst (λ q. AreBellsGot start now q i n) same are_got)

-- ---- at a place
pub at_rest : (start : List Disk) (now : List Moment) (w : WorldState) → AreOpenings (injectors now) start now w → AreBellsTaken start now w → AreApart now w → AllRungEnded start now w → (i n : ℕ) → i < length w.initiators → IsCalm now i → IsFresh now i n → IsPresent now w i n → (0 < rung now i n → WasPointed now i n) → rung now i n ≤ ends now i n
at_rest start now w openings taken apart ended i n inside calm fresh present pointed = by (rung now i n) refl
  where
    by : (count : ℕ) → rung now i n ≡ count → rung now i n ≤ ends now i n
    by zero e = omega (arith, e)
    by (suc k) e =
        let x = pointed (omega (arith, e)) in
        have_ended start now w i n inside fresh x (openings i n inside calm x fresh.uncut) taken calm apart present ended
