-- A drill manages nothing: no line of it asks for an operation, so no list is cut or dropped, no login comes or goes, no unit is cleared, and nothing is decided (NCITS 325-1998, management agent, AGENT_RESET).
use Rattle.std.specs.Prelude.{◌≡◌, ℕ, false, List}
use Rattle.bus_transactions.specs.Sent.{AreSent}
use Rattle.rbc_disk.specs.Disk.{Disk}
use Rattle.sbp_journal.specs.Run.{Entry, Moment, asked, history, said}
use Rattle.sbp_journal.specs.declared.note.Note.{Note}
use Rattle.sbp_journal.specs.declared.note.Note.TheVariants as notes
use Rattle.sbp_laws.specs.CauseLaw.{HasCauses}
use Rattle.sbp_laws.specs.JudgementLaw.{Judges}
use Rattle.sbp_laws.specs.LoginLaw.{HasLogins}
use Rattle.sbp_laws.specs.MediaLaw.{HasPushes}
use Rattle.sbp_laws.specs.OrderLaw.{is_cut}
use Rattle.sbp_laws.specs.SentAnswers.{AnswersLaw}
use Rattle.sbp_laws.specs.Turns.{EachMoment, EachTurn}
use Rattle.sbp_laws.specs.Unasked.{NoneUnasked}
use Rattle.drill_laws.specs.DrillSettles.{IsDrillRun}

-- a note that tells of no operation, at either end
abbrev pub IsCalmNote : Note → Type 0
IsCalmNote (notes.Cut i list cause) = ⊥
IsCalmNote (notes.Cleared unit) = ⊥
IsCalmNote (notes.Held id) = ⊥
IsCalmNote (notes.Expired id) = ⊥
IsCalmNote (notes.Back id) = ⊥
IsCalmNote (notes.Left id) = ⊥
IsCalmNote (notes.Managed i function subject status login) = ⊥
IsCalmNote (notes.ManageFailed i cause) = ⊥
IsCalmNote (notes.Op i operation word) = ⊥
IsCalmNote (notes.Drop i n) = ⊥
IsCalmNote note = Unit {0}

-- the other laws of a run that are asked of it here
pub record IsLawfulDrill (disks : List Disk) (entries : List Entry) : Type 0 where
  pub run : IsDrillRun disks entries
  pub sent : AreSent (history entries)
  pub answers : EachTurn (AnswersLaw disks) (history entries)
  pub causes : EachTurn (HasCauses disks) (history entries)
  pub logins : EachTurn (HasLogins disks) (history entries)
  pub judges : EachTurn (Judges disks) (history entries)
  pub asked : EachMoment (NoneUnasked disks) (history entries)
  pub pushes : EachTurn (HasPushes disks) (history entries)

-- what was said up to a moment
abbrev pub IsCalmAt : Moment → List Moment → Type 0
IsCalmAt (said note) past = IsCalmNote note
IsCalmAt (asked line event) past = Unit {0}

pub record ManagesNothing (past : List Moment) : Type 0 where
  pub calm : EachMoment IsCalmAt past
  pub uncut : (i n : ℕ) → is_cut past i n ≡ false

abbrev pub DrillsAreCalm : Type 0
DrillsAreCalm = (disks : List Disk) (entries : List Entry) → IsLawfulDrill disks entries → ManagesNothing (history entries)
