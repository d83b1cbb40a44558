-- A turn that nobody is to ask in sends nothing behind its response: a reset that a node sees, a second, the time-out of an initiator's transaction, the end of a settle, and a line that is no action.
use Rattle.std.specs.Prelude.{◌≡◌, false, List, None}
use Rattle.rbc_disk.specs.Disk.{Disk}
use Rattle.sbp_journal.specs.Run.{Moment, asked, said}
use Rattle.sbp_journal.specs.Wire.{Terms, terms}
use Rattle.sbp_journal.specs.declared.event.Event.TheVariants as events
use Rattle.sbp_journal.specs.declared.note.Note.TheVariants as notes
use Rattle.sbp_laws.specs.Packets.{receiver_in, sender_in}
use Rattle.sbp_laws.specs.SentRequests.{RequestsLaw}
use Rattle.sbp_laws.specs.Targets.{is_serial}
use Rattle.sbp_laws.specs.Turns.{EachTurn, Turn}
use Rattle.turn_laws.specs.Runs.{OfEveryRun}

-- nobody is to ask for anything: no node gets a packet, no transaction of the target times out, and no initiator acts
abbrev pub AsksNobody : Terms → Moment → Type 0
AsksNobody wire (said (notes.Got serial)) = receiver_in (wire.sent serial) ≡ None
AsksNobody wire (said (notes.TimedOut serial)) = is_serial (sender_in (wire.sent serial)) 0 ≡ false
AsksNobody wire (asked line (events.Act i action)) = ⊥
AsksNobody wire moment = Unit {0}

abbrev pub OtherAsks : List Disk → Turn → Type 0
OtherAsks start t = AsksNobody (terms t.past) t.start → RequestsLaw start t

abbrev pub OtherRequestsLaw : Type 0
OtherRequestsLaw = OfEveryRun (λ start past. EachTurn (OtherAsks start) past)
