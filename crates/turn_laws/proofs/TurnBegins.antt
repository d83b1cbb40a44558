-- A turn of a run begins at a place of it, or behind the line that begins there: what the terms have as it begins is what they have at the place.
use Rattle.std.proofs.Common.{◌≡◌, ◌∙◌, refl, sym, ap, ◌≤◌, ℕ, Bool, true, List, ◌∷◌, Option}
use Rattle.rbc_disk.specs.Disk.{Disk}
use Rattle.sbp_journal.specs.Run.{Moment, asked, said}
use Rattle.sbp_journal.specs.Transactions.{Sending}
use Rattle.sbp_journal.specs.Wire.{Terms, opened, terms}
use Rattle.sbp_journal.specs.declared.event.Event.{Event}
use Rattle.sbp_journal.specs.declared.event.Event.TheVariants as events
use Rattle.sbp_journal.specs.declared.note.Note.TheVariants as notes
use Rattle.sbp_laws.specs.Aborts.{is_aborted}
use Rattle.sbp_laws.specs.Deliveries.{once_told}
use Rattle.sbp_laws.specs.Packets.{answered_at, id_for}
use Rattle.sbp_laws.specs.Lists.{prepared_in}
use Rattle.sbp_laws.specs.Targets.{initiator_with, over, target_at}
use Rattle.sbp_laws.specs.Turns.{Turn}
use Rattle.sbp_laws.proofs.Going.{initiators_same}
use Rattle.sbp_world.specs.Lists.OrbReads.{AnswersAt}
use Rattle.sbp_world.proofs.Common.{and_first}
use Rattle.sbp_world.proofs.Lists.ManageSends.{opened_terms}
use Rattle.sbp_world.proofs.Lists.OrbWaits.{over_twice}
use Rattle.sbp_world.proofs.Lists.OwnGots.{answered_same}
use Rattle.turn_laws.proofs.AbortTurns.{IsFirst}

pub data BeginsAt (before : List Moment) : List Moment → Type 0 where
  at_place : BeginsAt before before
  behind_line : (line : ℕ) (event : Event) → BeginsAt before (asked line event ∷ before)

-- the last turn of a history that went on from one place to the next
pub record IsLast (before behind : List Moment) (t : Turn) : Type 0 where
  pub begins : BeginsAt before t.past
  pub first : IsFirst t.start
  pub is : once_told (t.start ∷ t.past) t.rest ≡ behind

-- ---- of a target
module _ (start : List Disk) (before : List Moment) where
  pub over_there : (past : List Moment) → BeginsAt before past → over (target_at start past) ≡ over (target_at start before)
  over_there _ at_place = refl
  over_there _ (behind_line line event) = over_twice (target_at start before)

  pub aborted_there : (past : List Moment) → BeginsAt before past → (p address : ℕ) → is_aborted start past p address ≡ true → is_aborted start before p address ≡ true
  aborted_there _ at_place p address e = e
  aborted_there _ (behind_line line event) p address e = and_first (is_aborted start before p address) _ e

-- ---- of the wire
module _ (before : List Moment) where
  pub sent_there : (past : List Moment) → BeginsAt before past → (terms past).sent ≡ (terms before).sent
  sent_there _ at_place = refl
  sent_there _ (behind_line line event) = (opened_terms event (terms before)).sent

  module _ (start : List Disk) where
    pub answered_there : (past : List Moment) → BeginsAt before past → (serial : ℕ) → answered_at (terms past) serial ≡ answered_at (terms before) serial
    answered_there _ at_place serial = refl
    answered_there _ (behind_line line event) serial = answered_same start line event before serial

  module _ (aged : (terms before).generation 0 ≤ (terms before).bus) where
    line_ids : (line : ℕ) (event : Event) (node : ℕ) → id_for (terms (asked line event ∷ before)) 0 node ≡ id_for (terms before) 0 node
    line_ids line event node =
        let o = opened_terms event (terms before) in ap (λ (generation : ℕ → ℕ). (terms (asked line event ∷ before)).ids (generation 0) node) o.generation ∙ o.ids ((terms before).generation 0) node aged

    pub initiator_there : (past : List Moment) → BeginsAt before past → (id : ℕ) → initiator_with (terms past) id ≡ initiator_with (terms before) id
    initiator_there _ at_place id = refl
    initiator_there _ (behind_line line event) id = initiators_same (terms before) (terms (asked line event ∷ before)) id (line_ids line event)

-- ---- of what a response answers
answers_open : (event : Event) (x : Terms) → (opened event x).answers ≡ x.answers
answers_open (events.Reset physical) x = refl
answers_open (events.Repeat serial) x = refl
answers_open _ x = refl

injects_open : (event : Event) (x : Terms) → (opened event x).injects ≡ x.injects
injects_open (events.Reset physical) x = refl
injects_open (events.Repeat serial) x = refl
injects_open _ x = refl

module _ (start : List Disk) (before : List Moment) (serial : ℕ) where
  pub answers_there : (past : List Moment) → BeginsAt before past → AnswersAt (said (notes.Got serial)) past → AnswersAt (said (notes.Got serial)) before
  answers_there _ at_place a request closed asking sent from to = a request closed asking sent from to
  answers_there _ (behind_line line event) a request closed asking sent from to =
      let x = terms before in
      let same = (opened_terms event x).sent in
      let injects = injects_open event x in
      ap (λ (f : ℕ → Option ℕ). f serial) (sym (answers_open event x))
      ∙ a request (answered_same start line event before serial ∙ closed) asking (ap (λ (f : ℕ → Option Sending). f request) same ∙ sent) (ap (λ (f : ℕ → Bool). f asking.from) injects ∙ from) (ap (λ (f : ℕ → Bool). f asking.to) injects ∙ to)

-- ---- of what is prepared
module _ (i slot : ℕ) where
  first_prepared : (moment : Moment) (past : List Moment) → IsFirst moment → prepared_in (moment ∷ past) i slot ≡ prepared_in past i slot
  first_prepared (asked line event) past f = refl
  first_prepared (said (notes.Append j n k cdb buffer)) past f = absurd f
  first_prepared (said note) past f = refl

  pub prepared_there : (before past : List Moment) → BeginsAt before past → prepared_in past i slot ≡ prepared_in before i slot
  prepared_there before _ at_place = refl
  prepared_there before _ (behind_line line event) = refl

  pub prepared_behind : (before past : List Moment) → BeginsAt before past → (moment : Moment) → IsFirst moment → prepared_in (moment ∷ past) i slot ≡ prepared_in before i slot
  prepared_behind before past b moment f = first_prepared moment past f ∙ prepared_there before past b
