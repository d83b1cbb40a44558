-- What an initiator is told was sent as an unsolicited status (NCITS 325-1998, unsolicited status): in each turn in which one that injected nothing gets a packet, `told` stands exactly where the target sent this packet as such a status.
use Rattle.std.specs.Prelude.{◌≡◌, ℕ, suc, List, Some}
use Rattle.rbc_disk.specs.Disk.{Disk}
use Rattle.sbp_journal.specs.Run.{said}
use Rattle.sbp_journal.specs.Wire.{terms}
use Rattle.sbp_journal.specs.declared.note.Note.TheVariants as notes
use Rattle.sbp_laws.specs.Agents.{target_before}
use Rattle.sbp_laws.specs.MediaLaw.{is_told_note, told_due}
use Rattle.sbp_laws.specs.NoteKinds.{of_kind}
use Rattle.sbp_laws.specs.Packets.{receiver_in}
use Rattle.sbp_laws.specs.Turns.{EachTurn, Turn}
use Rattle.sbp_world.specs.Lists.FewLogins.{IsCalmBeside}
use Rattle.turn_laws.specs.Runs.{OfEveryRun}

-- initiator i gets a packet: it injected no packets, nor did others, or few logins were given
pub record GetsCalmly (t : Turn) (serial i : ℕ) : Type 0 where
  pub gets : t.start ≡ said (notes.Got serial)
  pub receiver : receiver_in ((terms t.past).sent serial) ≡ Some (suc i)
  pub calm : IsCalmBeside t.past i

-- `told` of the media law
abbrev pub TellsWhatWasSent : List Disk → Turn → Type 0
TellsWhatWasSent start t = of_kind is_told_note t.rest ≡ told_due (target_before start t) t t.start

abbrev pub TellsTheCalm : List Disk → Turn → Type 0
TellsTheCalm start t = (serial i : ℕ) → GetsCalmly t serial i → TellsWhatWasSent start t

abbrev pub ToldSentLaw : Type 0
ToldSentLaw = OfEveryRun (λ start past. EachTurn (TellsTheCalm start) past)
