-- A lawful run: the laws together. Each is a condition on an entry and on what stands before the end of that entry. Lawful for the others
-- has a set of initiators, those that injected packets: the once law, the order law, the execution law, the status law, the answer law and the
-- carried law are of those outside it. All other laws are of every initiator and of the target, whole.
use Rattle.std.specs.Prelude.{ℕ, suc, Bool, false, List}
use Rattle.rbc_disk.specs.Disk.{Disk}
use Rattle.sbp_journal.specs.Run.{Run, Moment, asked, said, history}
use Rattle.sbp_journal.specs.Written.{IsWritten}
use Rattle.sbp_journal.specs.Wire.{terms}
use Rattle.sbp_laws.specs.Turns.{EachMoment, EachTurn}
use Rattle.sbp_laws.specs.OnceLaw.{OnceLaw}
use Rattle.sbp_laws.specs.OrderLaw.{OrderLaw}
use Rattle.sbp_laws.specs.ExecutionLaw.{ExecutionLaw}
use Rattle.sbp_laws.specs.StatusLaw.{StatusLaw, TakesEach}
use Rattle.sbp_laws.specs.AnswerLaw.{AnswerLaw}
use Rattle.sbp_laws.specs.CarriedLaw.{CarriedLaw, EndsAsRead}
use Rattle.sbp_laws.specs.CauseLaw.{CauseLaw}
use Rattle.sbp_laws.specs.JudgementLaw.{JudgementLaw}
use Rattle.sbp_laws.specs.LoginLaw.{LoginLaw}
use Rattle.sbp_laws.specs.SentLaw.{SentLaw}
use Rattle.sbp_laws.specs.MediaLaw.{MediaLaw}
use Rattle.sbp_laws.specs.ActionLaw.{ActionLaw}

-- a note of a run has its form, and is determined by its text
abbrev pub FormAt : Moment → List Moment → Type 0
FormAt (asked line event) past = Unit {0}
FormAt (said note) past = IsWritten note

-- no initiator
abbrev pub nobody : ℕ → Bool
nobody i = false

-- the laws over what was asked and what was said; six of them for the initiators outside a set. Where a command runs, how it ends by the ORB
-- that was read, and which status blocks are taken, is of everyone.
pub record AreLawful (wild : ℕ → Bool) (start : List Disk) (past : List Moment) : Type 0 where
  pub form : EachMoment FormAt past
  pub once : OnceLaw wild past
  pub order : OrderLaw wild past
  pub execution : ExecutionLaw wild start past
  pub status : StatusLaw wild past
  pub answer : AnswerLaw wild start past
  pub carried : CarriedLaw wild start past
  pub runs_end : EachTurn (EndsAsRead start) past
  pub takes : EachTurn (TakesEach nobody) past
  pub cause : CauseLaw start past
  pub judgement : JudgementLaw start past
  pub login : LoginLaw start past
  pub sent : SentLaw start past
  pub media : MediaLaw start past

-- with the law over whole entries
pub record LawfulBut (wild : ℕ → Bool) (run : Run) : Type 0 where
  pub moments : AreLawful wild run.start (history run.entries)
  pub action : ActionLaw run.start run.entries

abbrev pub Lawful : Run → Type 0
Lawful run = LawfulBut nobody run

-- the initiators that injected packets
abbrev pub injectors : List Moment → ℕ → Bool
injectors past i = (terms past).injects (suc i)

abbrev pub LawfulForOthers : Run → Type 0
LawfulForOthers run = LawfulBut (injectors (history run.entries)) run
