-- What was open at an agent by a history was so by the history that goes on from it.
use Rattle.sbp_world.proofs.Words.Std.{◌≡◌, ◌∙◌, refl, ap, ℕ, List, [], ◌∷◌, ◌++◌, Option, Some}
use Rattle.sbp_world.proofs.Words.Wire.{Moment, said}
use Rattle.sbp_world.proofs.Words.World.{WasHad, WasOpened}
use Rattle.sbp_journal.specs.declared.note.Note.TheVariants as notes
use Rattle.sbp_world.proofs.Common.{moments_joined}

unfoldable pub was_later : (more past now : List Moment) (i place : ℕ) (list : Option ℕ) → more ++ past ≡ now → WasOpened past i place list → WasOpened now i place list
was_later more past now i place list e o = record {
  later = more ++ o.later;
  earlier = o.earlier;
  serial = o.serial;
  is = moments_joined more o.later (said (notes.Got o.serial) ∷ o.earlier) ∙ ap (λ ms. more ++ ms) o.is ∙ e;
  sent = o.sent;
  sent_is = o.sent_is;
  address = o.address;
  pointed = o.pointed;
  list_is = o.list_is;
}

unfoldable pub had_later : (more past now : List Moment) (i n : ℕ) → more ++ past ≡ now → WasHad past i n → WasHad now i n
had_later more past now i n e h = record { place = h.place; opened = was_later more past now i h.place (Some n) e h.opened }

-- by one moment more
pub had_next : (moment : Moment) (past : List Moment) (i n : ℕ) → WasHad past i n → WasHad (moment ∷ past) i n
had_next moment past i n h = had_later (moment ∷ []) past (moment ∷ past) i n refl h
