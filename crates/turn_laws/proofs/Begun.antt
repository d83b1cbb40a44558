-- The first moment of a run's history is a line; so what each turn keeps holds before each turn.
use Rattle.std.proofs.Common.{subst, ℕ, List, [], ◌∷◌, ◌++◌, map}
use Rattle.rbc_disk.specs.Disk.{Disk}
use Rattle.sbp_journal.specs.Run.{Moment, asked, said}
use Rattle.sbp_journal.specs.declared.note.Note.{Note}
use Rattle.sbp_journal.specs.declared.note.Note.TheVariants as notes
use Rattle.sbp_laws.specs.Deliveries.{once_told}
use Rattle.sbp_laws.specs.SentLaw.{end_of}
use Rattle.sbp_laws.specs.Turns.{EachTurn, EachTurnBefore, Turn, turn}
use Rattle.sbp_world.specs.Histories.{history_of, moments_behind}
use Rattle.sbp_world.specs.Runs.{Entry, Run}
use Rattle.turn_laws.specs.Runs.{OfEveryRun, history_between}
use Rattle.turn_laws.proofs.PresentOrbs.{told_one}
use Rattle.turn_laws.proofs.SerialsStay.{IsNoSent}

-- ---- a history's first moment is a line
abbrev pub HasMore : List Moment → Type 0
HasMore [] = ⊥
HasMore (moment ∷ past) = Unit {0}

abbrev pub IsBegun : List Moment → Type 0
IsBegun [] = Unit {0}
IsBegun (asked line event ∷ past) = IsBegun past
IsBegun (said note ∷ past) = HasMore past × IsBegun past

pub told_begun : (told : List Note) (past : List Moment) → HasMore past → IsBegun past → IsBegun (map said told ++ past) × HasMore (map said told ++ past)
told_begun [] past h b = (b, h)
told_begun (note ∷ told) past h b = let k = told_begun told past h b in ((k.1, k.0), tt)

pub moments_begun : (line : ℕ) (run : Run) (entries : List Entry) → IsBegun (moments_behind line run entries)
moments_begun line run [] = (tt, tt)
moments_begun line run (e ∷ before) = (told_begun e.notes (asked e.line e.event ∷ moments_behind line run before) tt (moments_begun line run before)).0

-- so notes stand behind some moment
abbrev pub IsReady : List Moment → List Note → Type 0
IsReady [] [] = Unit {0}
IsReady [] (note ∷ rest) = ⊥
IsReady (moment ∷ past) rest = Unit {0}

pub ready_none : (past : List Moment) → IsReady past []
ready_none [] = tt
ready_none (moment ∷ past) = tt

pub ready_more : (past : List Moment) (rest : List Note) → HasMore past → IsReady past rest
ready_more [] rest h = absurd h
ready_more (moment ∷ past) rest h = tt

-- ---- what holds before a turn
-- a turn begins with no packet
abbrev pub IsStart : Moment → Type 0
IsStart (asked line event) = Unit {0}
IsStart (said note) = IsNoSent note

module _ (L : Turn → Type 0) (K : List Moment → Type 0) (none : K []) (goes : (t : Turn) → IsStart t.start → K t.past → L t → K (end_of t)) where
  abbrev Before : Turn → Type 0
  Before t = K t.past

  abbrev Walked : List Moment → List Note → Type 0
  Walked past rest = EachTurnBefore Before past rest × K (once_told past rest)

  begins : (start : Moment) (past : List Moment) (rest : List Note) → IsStart start → EachTurn Before past × K past → L (turn past start rest) → (K past × EachTurn Before past) × K (once_told (start ∷ past) rest)
  begins start past rest quiet before law = ((before.1, before.0), goes (turn past start rest) quiet before.1 law)

  walks : (past : List Moment) (rest : List Note) → IsBegun past → IsReady past rest → EachTurnBefore L past rest → Walked past rest
  walks [] [] b r h = (tt, none)
  walks [] (note ∷ rest) b r h = absurd r
  walks (asked line event ∷ past) rest b r h = begins (asked line event) past rest tt (walks past [] b (ready_none past) h.1) h.0
  walks (said (notes.Got serial) ∷ past) rest b r h = begins (said (notes.Got serial)) past rest tt (walks past [] b.1 (ready_none past) h.1) h.0
  walks (said (notes.Ignored serial cause) ∷ past) rest b r h = begins (said (notes.Ignored serial cause)) past rest tt (walks past [] b.1 (ready_none past) h.1) h.0
  walks (said (notes.TimedOut serial) ∷ past) rest b r h = begins (said (notes.TimedOut serial)) past rest tt (walks past [] b.1 (ready_none past) h.1) h.0
  walks (said (notes.Seen node generation) ∷ past) rest b r h = begins (said (notes.Seen node generation)) past rest tt (walks past [] b.1 (ready_none past) h.1) h.0
  walks (said notes.Tick ∷ past) rest b r h = begins (said notes.Tick) past rest tt (walks past [] b.1 (ready_none past) h.1) h.0
  walks (said notes.Settled ∷ past) rest b r h = begins (said notes.Settled) past rest tt (walks past [] b.1 (ready_none past) h.1) h.0
  walks (said notes.Stopped ∷ past) rest b r h = begins (said notes.Stopped) past rest tt (walks past [] b.1 (ready_none past) h.1) h.0
  walks (said note ∷ past) rest b r h = let k = walks past (note ∷ rest) b.1 (ready_more past (note ∷ rest) b.0) h in (k.0, subst K (told_one note rest past) k.1)

  pub before_turns : (past : List Moment) → IsBegun past → EachTurn L past → EachTurn Before past
  before_turns past b h = (walks past [] b (ready_none past) h).0

-- of every run
abbrev OfTurns : (List Disk → Turn → Type 0) → Type 0
OfTurns L = OfEveryRun (λ start past. EachTurn (L start) past)

abbrev Keeps : (List Disk → Turn → Type 0) → (List Disk → List Moment → Type 0) → Type 0
Keeps L K = (start : List Disk) (t : Turn) → IsStart t.start → K start t.past → L start t → K start (end_of t)

pub carried_law : (L : List Disk → Turn → Type 0) (K : List Disk → List Moment → Type 0) → ((start : List Disk) → K start []) → Keeps L K → OfTurns L → OfTurns (λ start t. K start t.past)
carried_law L K none goes law = record {
  after_lines = λ line run is some most size.
      let start = run.start.disks in
      before_turns (L start) (K start) (none start) (goes start) (history_of line run) (moments_begun line run run.entries) (law.after_lines line run is some most size);
  between = λ line run is some most size next deliveries told may.
      let start = run.start.disks in
      let begun = (told_begun _ (asked next _ ∷ history_of line run) tt (moments_begun line run run.entries)).0 in
      before_turns (L start) (K start) (none start) (goes start) (history_between line run next deliveries told) begun (law.between line run is some most size next deliveries told may);
}
