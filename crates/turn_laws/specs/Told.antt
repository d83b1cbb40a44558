-- What an initiator is told (NCITS 325-1998, unsolicited status): in each turn `told` stands exactly where an initiator got a write whose row says so, that of the unsolicited status block to its open login FIFO, and nowhere else.
use Rattle.std.specs.Prelude.{◌≡◌, ℕ, suc, Bool, true, false, List, [], ◌∷◌, Option, Some, None}
use Rattle.label_table.specs.Judging.{Row, by_request, row_of}
use Rattle.rbc_disk.specs.Disk.{Disk}
use Rattle.sbp_journal.specs.Rows.{Judging, RequestFacts, judging_of, telling}
use Rattle.sbp_journal.specs.Run.{Moment, said}
use Rattle.sbp_journal.specs.Transactions.{Sending}
use Rattle.sbp_journal.specs.Wire.{terms}
use Rattle.sbp_journal.specs.declared.note.Note.{Note}
use Rattle.sbp_journal.specs.declared.note.Note.TheVariants as notes
use Rattle.sbp_laws.specs.Agents.{target_before}
use Rattle.sbp_laws.specs.JudgementLaw.{facts_at, facts_of}
use Rattle.sbp_laws.specs.MediaLaw.{is_told_note}
use Rattle.sbp_laws.specs.NoteKinds.{of_kind}
use Rattle.sbp_laws.specs.Packets.{access_in, packet_in}
use Rattle.sbp_laws.specs.Turns.{EachTurn, Turn}
use Rattle.turn_laws.specs.Runs.{OfEveryRun}

-- the row of a request tells of a changed medium
abbrev pub is_telling : Judging → Bool
is_telling telling = true
is_telling judging = false

abbrev pub tells_by : Option RequestFacts → Bool
tells_by None = false
tells_by (Some facts) = is_telling (judging_of facts)

-- and of a packet that is no request none does
abbrev pub row_tells : Row → Option RequestFacts → Bool
row_tells by_request facts = tells_by facts
row_tells row facts = false

abbrev pub packet_tells : List Disk → Turn → Sending → Bool
packet_tells start t sending =
    row_tells (row_of (facts_of (terms t.past) sending)) (facts_at start t.past (target_before start t) (terms t.past) sending (access_in (packet_in (Some sending))))

abbrev pub told_to : (receiver : ℕ) → Bool → List Note
told_to (suc i) true = notes.Told i ∷ []
told_to receiver tells = []

abbrev pub told_by : List Disk → Turn → Option Sending → List Note
told_by start t None = []
told_by start t (Some sending) = told_to sending.to (packet_tells start t sending)

abbrev pub told_of : List Disk → Turn → Moment → List Note
told_of start t (said (notes.Got serial)) = told_by start t ((terms t.past).sent serial)
told_of start t moment = []

abbrev pub TellsByRow : List Disk → Turn → Type 0
TellsByRow start t = of_kind is_told_note t.rest ≡ told_of start t t.start

abbrev pub ToldLaw : Type 0
ToldLaw = OfEveryRun (λ start past. EachTurn (TellsByRow start) past)
