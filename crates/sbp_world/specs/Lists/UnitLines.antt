-- Where each `login` line of a run asks for one unit, and it is unit 0 where the initiators begin logged in, no other unit was asked for.
use Rattle.std.specs.Prelude.{◌≡◌, ℕ, true, List, [], ◌∷◌}
use Rattle.sbp_journal.specs.declared.event.Action.TheVariants as actions
use Rattle.sbp_journal.specs.declared.event.Event.TheVariants as events
use Rattle.sbp_journal.specs.declared.note.Note.TheVariants as notes
use Rattle.sbp_journal.specs.Run.{Moment, asked, said}
use Rattle.sbp_world.specs.Lists.LoginUnits.{is_asked_unit}

abbrev pub AsksOnly : ℕ → List Moment → Type 0
AsksOnly unit [] = Unit {0}
AsksOnly unit (asked line (events.Act i (actions.Login own reconnect exclusive password)) ∷ past) = (own ≡ unit) × AsksOnly unit past
AsksOnly unit (said (notes.Begin initiators true) ∷ past) = (unit ≡ 0) × AsksOnly unit past
AsksOnly unit (moment ∷ past) = AsksOnly unit past

-- of every history
abbrev pub OneUnitLaw : Type 0
OneUnitLaw = (only : ℕ) (past : List Moment) → AsksOnly only past → (i unit : ℕ) → is_asked_unit past i unit ≡ true → unit ≡ only
