-- The commands of a drill are legal.
use Rattle.std.proofs.Common.{sym, subst, ℕ, List, [], ◌∷◌, arith}
use Rattle.sbp_journal.specs.Run.{Moment, asked, said}
use Rattle.sbp_journal.specs.declared.event.Cmd.{Cmd}
use Rattle.sbp_journal.specs.declared.event.Event.{Event}
use Rattle.sbp_journal.specs.declared.event.Event.TheVariants as events
use Rattle.sbp_journal.specs.declared.event.Action.TheVariants as actions
use Rattle.sbp_laws.specs.Turns.{EachMoment}
use Rattle.script_text.specs.Draws.{block_read, block_write}
use Rattle.sbp_world.specs.Completing.Deaths.{AreLegal, IsLegal, IsLegalAt}
use Rattle.drill_laws.specs.DrillLines.{IsDrillCommand, IsDrillLine, reads, writes}
use Rattle.drill_laws.proofs.DrillMoments.{DrillAt, MayAsk}

write_legal : (lba byte : ℕ) → IsLegal (block_write lba byte)
unfolding block_write
write_legal lba byte = record { limit = omega arith; some = tt }

read_legal : (lba : ℕ) → IsLegal (block_read lba)
unfolding block_read
read_legal lba = record { limit = omega arith; some = tt }

command_legal : (cmd : Cmd) → IsDrillCommand cmd → IsLegal cmd
command_legal cmd (writes lba byte l b e) = subst IsLegal (sym e) (write_legal lba byte)
command_legal cmd (reads lba l e) = subst IsLegal (sym e) (read_legal lba)

line_legal : (line : ℕ) (event : Event) (past : List Moment) → IsDrillLine event → IsLegalAt (asked line event) past
line_legal line (events.Act i (actions.Append cmd)) past is = command_legal cmd is.1
line_legal line events.Settle past is = tt
line_legal line _ past is = absurd is

asked_legal : (line : ℕ) (event : Event) (past : List Moment) → MayAsk past event → IsLegalAt (asked line event) past
asked_legal line event [] may = subst (λ e. IsLegalAt (asked line e) []) (sym may) tt
asked_legal line event (moment ∷ past) may = line_legal line event (moment ∷ past) may

pub all_legal : (past : List Moment) → EachMoment DrillAt past → AreLegal past
all_legal [] d = tt
all_legal (asked line event ∷ past) d = (asked_legal line event past d.0, all_legal past d.1)
all_legal (said note ∷ past) d = (tt, all_legal past d.1)
