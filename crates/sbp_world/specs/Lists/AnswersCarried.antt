-- Whose bytes the answer of a good status is (NCITS 325-1998, data buffers and status block). Where the data of an ORB go to its initiator, what brought bytes of its buffer since the append, as a good status of the ORB is taken, are
-- the writes of the chunks of the buffer, each once and in order; and these are the target's writes to these chunks that the initiator got since the run. Where the data do not go there, it got none since. So the answer is the payloads
-- of these writes, joined. At each place of a run in which no initiator injected packets, or few logins were given, before which lists were open as they should be.
use Rattle.std.specs.Prelude.{◌≡◌, ◌<◌, ℕ, true, List, length, Some}
use Rattle.orb_layout.specs.declared.status.StatusKind.TheVariants as kinds
use Rattle.sbp_journal.specs.declared.event.Cmd.{Cmd}
use Rattle.sbp_journal.specs.declared.note.Note.TheVariants as notes
use Rattle.sbp_journal.specs.Run.{Moment, said}
use Rattle.sbp_laws.specs.CarriedLaw.{AnswerIsCarried}
use Rattle.sbp_laws.specs.Lists.{command_at, slot_at}
use Rattle.sbp_laws.specs.Turns.{EachMoment}
use Rattle.sbp_world.specs.Hosts.Gathered.{AreInTurn, AreOfTarget}
use Rattle.sbp_world.specs.Worlds.{WorldState}
use Rattle.sbp_world.specs.Lists.Closes.{Under, WhereTameOrFew}
use Rattle.sbp_world.specs.Lists.Needs.{IsCalm}

-- The answer is what the target's writes of data brought.
pub record IsBroughtAnswer (past : List Moment) (i n k : ℕ) (answer : List ℕ) : Type 0 where
  pub cmd : Cmd
  pub command : command_at past i n k ≡ Some cmd
  pub in_turn : cmd.to_initiator ≡ true → AreInTurn past i (slot_at past i n k) cmd
  pub of_target : AreOfTarget past i n k cmd
  pub carried : AnswerIsCarried past i n k answer

abbrev pub BroughtOf : ℕ → Moment → List Moment → Type 0
BroughtOf i (said (notes.Taken j n k kinds.Good answer)) past = j ≡ i → IsBroughtAnswer past i n k answer
BroughtOf i moment past = Unit {0}

-- each one that an initiator takes which injected no packets
abbrev pub AllBrought : List Moment → WorldState → Type 0
AllBrought past w = (i : ℕ) → i < length w.initiators → IsCalm past i → EachMoment (BroughtOf i) past

abbrev pub AnswersBroughtLaw : Type 0
AnswersBroughtLaw = Under (WhereTameOrFew AllBrought)
