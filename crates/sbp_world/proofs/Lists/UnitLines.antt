-- Where each `login` line asks for one unit, no other unit was asked for.
use Rattle.sbp_world.proofs.Words.Std.{◌≡◌, ◌∙◌, ◌⊎◌, inl, inr, refl, sym, ℕ, ◌==◌, ◌&&◌, ◌||◌, nat_lt, Bool, true, false, [], ◌∷◌}
use Rattle.sbp_world.proofs.Words.Wire.{asked, said}
use Rattle.sbp_journal.specs.declared.event.Action.TheVariants as actions
use Rattle.sbp_journal.specs.declared.event.Event.TheVariants as events
use Rattle.sbp_journal.specs.declared.note.Note.TheVariants as notes
use Rattle.sbp_world.proofs.Common.{and_second, equal, untrue}
use Rattle.sbp_world.specs.Lists.LoginUnits.{is_asked_unit}
use Rattle.sbp_world.specs.Lists.UnitLines.{OneUnitLaw}

either : (a b : Bool) → (a || b) ≡ true → (a ≡ true) ⊎ (b ≡ true)
either true b e = inl refl
either false b e = inr e

module _ (only i unit : ℕ) where
  asked_here : (a : Bool) (own : ℕ) (rest : Bool) → own ≡ only → ((a && (own == unit)) || rest) ≡ true → (rest ≡ true → unit ≡ only) → unit ≡ only
  asked_here a own rest is e f = by (either (a && (own == unit)) rest e)
    where
      by : ((a && (own == unit)) ≡ true) ⊎ (rest ≡ true) → unit ≡ only
      by (inl x) = sym (equal own unit (and_second a (own == unit) x)) ∙ is
      by (inr y) = f y

  begun_here : (a : Bool) (rest : Bool) → only ≡ 0 → ((a && (unit == 0)) || rest) ≡ true → (rest ≡ true → unit ≡ only) → unit ≡ only
  begun_here a rest is e f = by (either (a && (unit == 0)) rest e)
    where
      by : ((a && (unit == 0)) ≡ true) ⊎ (rest ≡ true) → unit ≡ only
      by (inl x) = equal unit 0 (and_second a (unit == 0) x) ∙ sym is
      by (inr y) = f y

pub one_unit_law : OneUnitLaw
one_unit_law only [] o i unit e = untrue e
one_unit_law only (asked line (events.Act j (actions.Login own reconnect exclusive password)) ∷ past) o i unit e = asked_here only i unit (j == i) own (is_asked_unit past i unit) o.0 e (λ f. one_unit_law only past o.1 i unit f)
one_unit_law only (said (notes.Begin initiators true) ∷ past) o i unit e = begun_here only i unit (nat_lt i initiators) (is_asked_unit past i unit) o.0 e (λ f. one_unit_law only past o.1 i unit f)
one_unit_law only (moment ∷ past) o i unit e = one_unit_law only past o i unit e
