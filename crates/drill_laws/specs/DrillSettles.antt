-- A drill comes to rest: each of its settles is `settled`, and behind one nothing is in flight.
use Rattle.std.specs.Prelude.{◌≡◌, ◌≤◌, List, [], ◌∷◌, map}
use Rattle.bus_transactions.specs.Judging.{AreJudged}
use Rattle.rbc_disk.specs.Disk.{Disk}
use Rattle.sbp_journal.specs.Run.{Entry, events_in, history}
use Rattle.sbp_journal.specs.declared.event.Event.{Event}
use Rattle.sbp_journal.specs.declared.event.Event.TheVariants as events
use Rattle.sbp_journal.specs.declared.note.Note.{Note}
use Rattle.sbp_laws.specs.ActionLaw.{BringsEach}
use Rattle.sbp_laws.specs.Completion.{EndsSettled, SettleSettles, in_the_air}
use Rattle.sbp_laws.specs.SentPackets.{SentAt}
use Rattle.sbp_laws.specs.SentRequests.{RequestsLaw}
use Rattle.sbp_laws.specs.Turns.{EachMoment, EachTurn}
use Rattle.drill_laws.specs.DrillLines.{AreDrillLines, append_lines}
use Rattle.drill_laws.specs.DrillQuiet.{IsQuiet}

-- the events of a run, in the order of time
abbrev pub events_said : List Entry → List Event
events_said entries = map (λ one. one.1) (events_in entries)

-- a run over the lines of a drill, at most 10,000 of which append, by the laws that are asked of it here
pub record IsDrillRun (disks : List Disk) (entries : List Entry) : Type 0 where
  pub lines : AreDrillLines entries
  pub few : append_lines (events_said entries) ≤ 10000
  pub brings : BringsEach disks entries
  pub packets : EachMoment SentAt (history entries)
  pub requests : EachTurn (RequestsLaw disks) (history entries)
  pub judged : AreJudged (history entries)
  pub settles : SettleSettles entries

-- each settle ends so
abbrev pub IsSettledAt : Event → List Note → Type 0
IsSettledAt events.Settle told = EndsSettled told
IsSettledAt event told = Unit {0}

abbrev pub AreSettled : List Entry → Type 0
AreSettled [] = Unit {0}
AreSettled (entry ∷ before) = IsSettledAt entry.event entry.notes × AreSettled before

-- nothing is in flight behind a settle
abbrev pub RestsBehind : List Entry → Type 0
RestsBehind [] = Unit {0}
RestsBehind (entry ∷ before) = entry.event ≡ events.Settle → in_the_air (history (entry ∷ before)) ≡ 0

pub record SettlesDrill (entries : List Entry) : Type 0 where
  pub quiet : IsQuiet (history entries)
  pub settled : AreSettled entries
  pub at_rest : RestsBehind entries

abbrev pub DrillsSettle : Type 0
DrillsSettle = (disks : List Disk) (entries : List Entry) → IsDrillRun disks entries → SettlesDrill entries
