-- An unsolicited status that is got is told (NCITS 325-1998, unsolicited status): in each turn in which an initiator gets a packet that the target sent as one, `told` stands, once: where it injected nothing, or at the FIFO of a login.
use Rattle.std.specs.Prelude.{◌≡◌, ◌⊎◌, ℕ, suc, ◌==◌, Bool, true, false, List, [], ◌∷◌, Option, Some, None}
use Rattle.std.specs.List.{list_any}
use Rattle.rbc_disk.specs.Disk.{Disk}
use Rattle.sbp_journal.specs.Addresses.{Access}
use Rattle.sbp_journal.specs.Run.{said}
use Rattle.sbp_journal.specs.Wire.{terms}
use Rattle.sbp_journal.specs.declared.note.Note.TheVariants as notes
use Rattle.sbp_laws.specs.Agents.{target_before}
use Rattle.sbp_laws.specs.JudgementLaw.{is_login_fifo}
use Rattle.sbp_laws.specs.MediaLaw.{is_told_note}
use Rattle.sbp_laws.specs.NoteKinds.{of_kind}
use Rattle.sbp_laws.specs.Packets.{access_at, receiver_in}
use Rattle.sbp_laws.specs.Turns.{EachTurn, Turn}
use Rattle.sbp_world.specs.Lists.FewLogins.{IsCalmBeside}
use Rattle.turn_laws.specs.Runs.{OfEveryRun}

-- a request is for the FIFO of a login
abbrev pub is_at_login : Option Access → Bool
is_at_login None = false
is_at_login (Some access) = is_login_fifo access.offset

-- initiator i gets an unsolicited status: it injected no packets (nor did others, or few logins were given), or it is for the FIFO of a login
pub record GetsPush (start : List Disk) (t : Turn) (serial i : ℕ) : Type 0 where
  pub gets : t.start ≡ said (notes.Got serial)
  pub receiver : receiver_in ((terms t.past).sent serial) ≡ Some (suc i)
  pub is_push : list_any (λ push. push == serial) (target_before start t).pushes ≡ true
  pub welcome : IsCalmBeside t.past i ⊎ (is_at_login (access_at (terms t.past) serial) ≡ true)

abbrev pub TellsPushes : List Disk → Turn → Type 0
TellsPushes start t = (serial i : ℕ) → GetsPush start t serial i → of_kind is_told_note t.rest ≡ notes.Told i ∷ []

abbrev pub PushToldLaw : Type 0
PushToldLaw = OfEveryRun (λ start past. EachTurn (TellsPushes start) past)
