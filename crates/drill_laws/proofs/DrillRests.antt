-- A run is quiet where it is still, behind each of its lines: each front of it is a run.
use Rattle.std.proofs.Common.{◌≡◌, ◌∙◌, sym, subst, ℕ, ◌+◌, ◌^◌, ◌<◌, ◌≤◌, List, [], ◌∷◌, length, arith}
use Rattle.sbp_journal.specs.Run.{history}
use Rattle.sbp_world.specs.Wire.Lines.{AreLines}
use Rattle.sbp_world.specs.Runs.{AreEntries, Entry, Run, beginning}
use Rattle.sbp_world.specs.Wire.Journal.{journal_entries}
use Rattle.sbp_world.proofs.Completing.RestRuns.{rest_law}
use Rattle.sbp_world.proofs.Counting.CompletionRuns.{entries_same}
use Rattle.sbp_world.proofs.Lists.JoinLaws.{lines_same}
use Rattle.sbp_world.proofs.Wire.Entries.{bus_law}
use Rattle.drill_laws.specs.DrillRoom.{IsQuietWhereStill, RestsWhereStill, RunsRest}

module _ (line : ℕ) (run : Run) (few : run.initiators ≤ 4) (has : 0 < run.units) (small : run.units ≤ 4) (size : length run.start.disks ≡ run.units) where
  abbrev front : List Entry → Run
  front entries = record run { entries = entries }

  quiet_front : (entries : List Entry) → length entries + 2 < 2 ^ 32 → AreEntries (beginning run) entries → AreLines run entries → IsQuietWhereStill (history (journal_entries line run entries))
  quiet_front entries short every fit =
      subst IsQuietWhereStill (sym (entries_same line run entries entries ∙ bus_law.tie line (front entries)))
      (λ lossless calm. (rest_law.after_lines line (front entries) (record { few = few; short = short; entries = every; lines = lines_same run entries entries fit }) has small size lossless calm).by_terms.requests)

  rests : (entries : List Entry) → length entries + 2 < 2 ^ 32 → AreEntries (beginning run) entries → AreLines run entries → RestsWhereStill (journal_entries line run entries)
  rests [] short every fit = (quiet_front [] short every fit, tt)
  rests (e ∷ before) short every fit = (quiet_front (e ∷ before) short every fit, rests before (omega (arith, short)) every.1 fit.1)

pub runs_rest : RunsRest
runs_rest = record { rests = λ line run r has small size. rests line run r.few has small size run.entries r.short r.entries r.lines }
