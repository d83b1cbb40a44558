-- What `decode` does with lines: nothing but list them.
use Rattle.std.specs.Prelude.{◌≡◌, refl, ℕ, ◌+◌, List, ◌++◌, length, None, Result, Ok, Err}
use Rattle.rbc_disk.specs.Held.{Held}
use Rattle.line_session.specs.Meaning.{Meaning}
use Rattle.line_session.specs.declared.serve.LineError.{LineError}
use Rattle.line_session.specs.declared.serve.LineError.TheVariants.{Fault, NoMemory}
use Rattle.line_text.specs.Digits.{spelled}
use Rattle.packet_listing.specs.Listing.{listing_from, line_listing, of_digits}

-- The lines have no fault and this listing, and the media are as they were.
pub record ListedSo (start : Held) (served : List (List ℕ)) (text : List ℕ) (media : Held) : Type 0 where
  pub listed : listing_from 1 served ≡ record { text = text; fault = None }
  pub kept : media ≡ start

abbrev pub list_meaning : {S : Type 0} → Meaning S
list_meaning = record {
  ready = λ number state media. Unit {0};
  ran = λ start served text state media. ListedSo start served text media;
  refuses = λ served line fault. line_listing (1 + length served) line ≡ Err fault;
  closed = λ served text start media. ListedSo start served text media;
  stays = λ old new. new ≡ old;
  stays_same = λ media. refl;
}

-- what a line within the limits brings was added, or its fault was found, or memory was wanting
abbrev pub ListsLine : Result (Unit {0}) LineError → List ℕ → List ℕ → List ℕ → Type 0
ListsLine (Ok done) line before after = (brought : List ℕ) × (of_digits (spelled line) ≡ Ok brought) × (after ≡ before ++ brought)
ListsLine (Err (Fault fault)) line before after = (of_digits (spelled line) ≡ Err fault) × (after ≡ before)
ListsLine (Err NoMemory) line before after = Unit {0}
