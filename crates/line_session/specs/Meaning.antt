-- What serves the lines of an input, as relations over the lines served so far.
use Rattle.std.specs.Prelude.{◌≡◌, ℕ, ◌+◌, List, [], ◌∷◌, ◌++◌, length, codes, Option, Some, None, Result, Ok, Err}
use Rattle.std.specs.Fmt.{decimal}
use Rattle.rbc_disk.specs.Held.{Held}
use Rattle.sbp_base.specs.declared.outside.NoMemory.{NoMemory as WantOfMemory}
use Rattle.line_session.specs.Lines.{limit_fault}
use Rattle.line_session.specs.declared.serve.LineError.{LineError}
use Rattle.line_session.specs.declared.serve.LineError.TheVariants.{Fault, NoMemory}

-- What a server with the state `S` does with lines. All lines are counted from 1.
pub record Meaning (S : Type 0) : Type 1 where
  pub ready : ℕ → S → Held → Type 0  -- it can serve a line of this number
  pub ran : Held → List (List ℕ) → List ℕ → S → Held → Type 0  -- from these media these lines gave this text, this state and these media
  pub refuses : List (List ℕ) → List ℕ → ℕ → Type 0  -- behind these lines this line has the fault of this number
  pub closed : List (List ℕ) → List ℕ → Held → Held → Type 0  -- these lines gave this text, from the first media and with the second, what is said at the end with it
  pub stays : Held → Held → Type 0  -- what a line that memory was wanting for may leave of the media
  pub stays_same : (media : Held) → stays media media

-- the line that tells the number of a line and that of its fault
abbrev pub fault_text : ℕ → ℕ → List ℕ
fault_text number fault = codes "script " ++ (decimal number ++ 32 ∷ (decimal fault ++ 10 ∷ []))

-- a line's fault is that of its limits, or else its own
abbrev pub RefusedFor : Option ℕ → Type 0 → ℕ → Type 0
RefusedFor None own fault = own
RefusedFor (Some limit) own fault = fault ≡ limit

abbrev pub Refused : {S : Type 0} → Meaning S → List (List ℕ) → List ℕ → ℕ → Type 0
Refused meaning before line fault = RefusedFor (limit_fault (1 + length before) line) (meaning.refuses before line fault) fault

-- some state of the server goes with these lines
abbrev pub Ran : {S : Type 0} → Meaning S → Held → List (List ℕ) → List ℕ → Held → Type 0
Ran {S = S} meaning start served text media = (state : S) × meaning.ran start served text state media

-- a line was served, or refused, or memory was wanting
abbrev pub Serves : {S : Type 0} → Meaning S → (ℕ → Type 0) → Result (Unit {0}) LineError → Held → List (List ℕ) → List ℕ → List ℕ → S → Held → Held → Type 0
Serves meaning refused (Ok done) start before line text state old new = meaning.ran start (before ++ line ∷ []) text state new
Serves meaning refused (Err (Fault fault)) start before line text state old new = refused fault × Ran meaning start before text new
Serves meaning refused (Err NoMemory) start before line text state old new = meaning.stays old new

-- the end was said, unless memory was wanting
abbrev pub Closes : {S : Type 0} → Meaning S → Result (Unit {0}) WantOfMemory → Held → List (List ℕ) → List ℕ → Held → Type 0
Closes meaning (Ok done) start served text media = meaning.closed served text start media
Closes meaning (Err wanting) start served text media = Unit {0}
