-- The six lines are those of the run and of unit 0.
use Rattle.sbp_command.proofs.Drilling.{drill_summed}
use Rattle.sbp_command.proofs.drill.summary.Goals as goal

pub returns : goal.returns
returns g c =
    drill_summed c.args.words.seed c.args.words.count c.requires.asked c.requires.commands _ _ _ c.tally_drill.new.tally c.in_ok-disk.disk c.new-lines.result c.push_summary.new.out c.in_ok-tally_drill.ensures.ran (record { disks = c.in_ok-disk.ensures.kept; others = c.in_ok-disk.ensures.counts; first = c.in_ok-disk.ensures.told })
    c.new-lines.ensures c.in_ok-push_summary.ensures
