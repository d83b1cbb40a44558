-- How long a slot of an initiator has its ORB (NCITS 325-1998, ORBs in an initiator's memory): from its append on, used or at rest, until the ORB is over, or the
-- initiator sees another generation. Until then no other ORB is prepared there. By every history, and so in every run.
use Rattle.std.specs.Prelude.{◌≡◌, ◌⊎◌, ◌<◌, ◌==◌, ℕ, suc, true, false, List, ◌∷◌, ◌++◌, length, slice_index_or, Some}
use Rattle.sbp_journal.specs.Run.{Moment, said}
use Rattle.sbp_journal.specs.Wire.{terms}
use Rattle.sbp_journal.specs.declared.note.Note.TheVariants as notes
use Rattle.sbp_journal.specs.declared.note.NoteBuffer.{NoteBuffer}
use Rattle.sbp_laws.specs.Lists.{Orb, is_over, lowest_vacant, orb, prepared_in, resting, slots, used, vacant}

-- it is the one that was prepared last there, and uses the slot or lets it rest
pub record HasSlot (past : List Moment) (i slot : ℕ) (one : Orb) : Type 0 where
  pub there : prepared_in past i slot ≡ Some one
  pub held : (slice_index_or (slots past i) slot vacant ≡ used one) ⊎ (slice_index_or (slots past i) slot vacant ≡ resting)

-- since a moment it was over, or another generation was seen
pub data IsGone (later before : List Moment) (i : ℕ) (one : Orb) : Type 0 where
  was_over : (front back : List Moment) → front ++ back ≡ later → is_over (back ++ before) i one ≡ true → IsGone later before i one
  saw : (front back : List Moment) (generation : ℕ) → front ++ said (notes.Seen (suc i) generation) ∷ back ≡ later → (generation == (terms (back ++ before)).generation (suc i)) ≡ false → IsGone later before i one

pub record SlotsStayLaw : Type 0 where
  pub begins : (past : List Moment) (i n k : ℕ) (cdb : List ℕ) (buffer : NoteBuffer) → (let slot = lowest_vacant (slots past i) in let now = said (notes.Append i n k cdb buffer) ∷ past in slot < length (slots past i) → HasSlot now i slot (orb n k) ⊎ (is_over now i (orb n k) ≡ true))
  pub stays : (later before : List Moment) (i slot : ℕ) (one : Orb) → HasSlot before i slot one → HasSlot (later ++ before) i slot one ⊎ IsGone later before i one
