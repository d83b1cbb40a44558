-- What `rom` does with lines: it gathers their quadlets, and lists them at the end.
use Rattle.std.specs.Prelude.{◌≡◌, refl, ℕ, ◌+◌, List, [], length, Result, Ok, Err}
use Rattle.rbc_disk.specs.Held.{Held}
use Rattle.line_session.specs.Meaning.{Meaning}
use Rattle.line_session.specs.declared.serve.LineError.{LineError}
use Rattle.line_session.specs.declared.serve.LineError.TheVariants.{Fault, NoMemory}
use Rattle.rom_listing.specs.RomListing.{rom_from, with_line, rom_listing}

-- The lines have no fault and these quadlets, nothing is said of them yet, and the media are as they were.
pub record GatheredSo (start : Held) (served : List (List ℕ)) (text quads : List ℕ) (media : Held) : Type 0 where
  pub read : rom_from 1 served [] ≡ Ok quads
  pub silent : text ≡ []
  pub kept : media ≡ start

-- The lines have no fault, and the text is the listing of their quadlets.
pub record ListedSo (served : List (List ℕ)) (text : List ℕ) (start media : Held) : Type 0 where
  pub quads : List ℕ
  pub read : rom_from 1 served [] ≡ Ok quads
  pub text_is : text ≡ rom_listing quads
  pub kept : media ≡ start

-- behind these lines this line has this fault
abbrev pub RefusedSo : List (List ℕ) → List ℕ → ℕ → Type 0
RefusedSo served line fault = (quads : List ℕ) → rom_from 1 served [] ≡ Ok quads → with_line (1 + length served) quads line ≡ Err fault

abbrev pub rom_meaning : Meaning (List ℕ)
rom_meaning = record {
  ready = λ n state media. Unit {0};
  ran = λ start served text state media. GatheredSo start served text state media;
  refuses = RefusedSo;
  closed = ListedSo;
  stays = λ old new. new ≡ old;
  stays_same = λ media. refl;
}

-- the quadlets have those of a line within the limits behind them, or its fault was found, or memory was wanting
abbrev pub Gathers : {A : Type 0} → Result A LineError → Result (List ℕ) ℕ → List ℕ → Type 0
Gathers (Ok done) read quads = read ≡ Ok quads
Gathers (Err (Fault fault)) read quads = read ≡ Err fault
Gathers (Err NoMemory) read quads = Unit {0}
