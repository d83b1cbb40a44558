-- What a lawful run has of the bus.
use Rattle.std.proofs.Common.{ℕ, List, [], ◌∷◌, reverse}
use Rattle.rbc_disk.specs.Disk.{Disk}
use Rattle.sbp_journal.specs.Run.{Entry, Moment, asked, said, history}
use Rattle.sbp_journal.specs.declared.event.Event.{Event}
use Rattle.sbp_journal.specs.declared.event.Event.TheVariants as events
use Rattle.sbp_journal.specs.declared.note.Note.{Note}
use Rattle.sbp_laws.specs.ActionLaw.{Brings, BringsEach}
use Rattle.sbp_laws.specs.Lawful.{FormAt}
use Rattle.sbp_laws.specs.LineLaw.{BringsLine, LineLaw}
use Rattle.sbp_laws.specs.OnTheBus.{HasFormAt, IsPartOfLawful, IsTypedAt}
use Rattle.sbp_laws.specs.Turns.{EachMoment}

each_written : (past : List Moment) → EachMoment HasFormAt past → EachMoment IsTypedAt past → EachMoment FormAt past
each_written [] f t = tt
each_written (asked line event ∷ past) f t = (tt, each_written past f.1 t.1)
each_written (said note ∷ past) f t = ((f.0, t.0), each_written past f.1 t.1)

brings_line : (disks : List Disk) (past : List Moment) (line : ℕ) (event : Event) (told : List Note) → Brings disks past line event told → BringsLine disks past line event told
brings_line disks past line (events.Act i action) told b = tt
brings_line disks past line event told b = b

brings_lines : (disks : List Disk) (entries : List Entry) → BringsEach disks entries → LineLaw disks entries
brings_lines disks [] b = tt
brings_lines disks (entry ∷ before) b = (brings_line disks (history before) entry.line entry.event (reverse entry.notes) b.0, brings_lines disks before b.1)

pub part_of_lawful : IsPartOfLawful
part_of_lawful = record {
  lawful = λ wild run law. record { form = law.moments.form; once = law.moments.once; lines = brings_lines run.start run.entries law.action.brings };
  typed = λ wild run law typed. record { form = each_written (history run.entries) law.form typed; once = law.once; lines = law.lines };
}
