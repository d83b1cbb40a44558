-- Which requests an action sends, in each turn that begins with an action of an initiator: where no row refuses it exactly its own, to the target, with its address, its length and its value, under the
-- lowest label that serves it; and none where a row does.
use Rattle.std.specs.Prelude.{List}
use Rattle.rbc_disk.specs.Disk.{Disk}
use Rattle.sbp_journal.specs.Run.{Moment, asked}
use Rattle.sbp_journal.specs.declared.event.Event.TheVariants as events
use Rattle.sbp_laws.specs.SentRequests.{RequestsLaw}
use Rattle.sbp_laws.specs.Turns.{EachTurn, Turn}
use Rattle.turn_laws.specs.Runs.{OfEveryRun}

abbrev pub AsksIn : List Disk → Moment → Turn → Type 0
AsksIn start (asked line (events.Act i action)) t = RequestsLaw start t
AsksIn start moment t = Unit {0}

abbrev pub ActsByRequests : List Disk → Turn → Type 0
ActsByRequests start t = AsksIn start t.start t

abbrev pub ActRequestsLaw : Type 0
ActRequestsLaw = OfEveryRun (λ start past. EachTurn (ActsByRequests start) past)
