-- Which requests an initiator sends as it gets a packet: behind the answer to the latest read of a ROM the read of the next quadlet, where fewer than 256 were read, and nothing else; behind its response to
-- a request nothing. It is `requests` of the sent law, of the turns that begin so.
use Rattle.std.specs.Prelude.{Bool, false, List}
use Rattle.rbc_disk.specs.Disk.{Disk}
use Rattle.sbp_journal.specs.Run.{Moment, said}
use Rattle.sbp_journal.specs.Wire.{Terms, terms}
use Rattle.sbp_journal.specs.declared.note.Note.TheVariants as notes
use Rattle.sbp_laws.specs.Packets.{receiver_in}
use Rattle.sbp_laws.specs.SentRequests.{RequestsLaw}
use Rattle.sbp_laws.specs.Turns.{EachTurn, Turn, Where}
use Rattle.turn_laws.specs.Operations.{of_initiator}
use Rattle.turn_laws.specs.Runs.{OfEveryRun}

-- an initiator gets a packet
abbrev pub got_by_host : Moment → Terms → Bool
got_by_host (said (notes.Got serial)) wire = of_initiator (receiver_in (wire.sent serial))
got_by_host moment wire = false

abbrev pub HostAsks : List Disk → Turn → Type 0
HostAsks start t = Where (got_by_host t.start (terms t.past)) (RequestsLaw start t)

abbrev pub HostRequestsLaw : Type 0
HostRequestsLaw = OfEveryRun (λ start past. EachTurn (HostAsks start) past)
