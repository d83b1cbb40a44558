-- So it is behind each line of a run: each front of it is a run.
use Rattle.sbp_world.proofs.Words.Std.{arith, ◌∙◌, sym, subst, ℕ, ◌≡◌, ◌+◌, ◌^◌, ◌<◌, ◌≤◌, List, [], ◌∷◌, ◌++◌, map, length}
use Rattle.sbp_world.proofs.Words.Wire.{Moment, asked, said}
use Rattle.sbp_world.proofs.Words.World.{AreEntries, AreLines, Entry, FewLogins, IsTame, Run, beginning, history_of, moments_behind}
use Rattle.sbp_journal.specs.Run.{history}
use Rattle.sbp_world.specs.Completing.Deaths.{AreLegal, IsLegalAt}
use Rattle.sbp_world.specs.Completing.Done.{AllRungComplete, AllRungCompleteLaw, RungOrbsComplete}
use Rattle.sbp_world.specs.Wire.Journal.{journal_entries}
use Rattle.sbp_world.proofs.Completing.Done.{rung_orbs_complete_law}
use Rattle.sbp_world.proofs.Counting.CompletionRuns.{entries_same}
use Rattle.sbp_world.proofs.Lists.Beside.{few_back}
use Rattle.sbp_world.proofs.Lists.Calm.{calm_before}
use Rattle.sbp_world.proofs.Lists.JoinLaws.{lines_same, moments_same}
use Rattle.sbp_world.proofs.Lists.StatusKnown.{each_from}
use Rattle.sbp_world.proofs.Wire.Entries.{bus_law}

-- what is asked of a history
record IsSuch (past : List Moment) : Type 0 where
  tame : IsTame past
  few : FewLogins past
  legal : AreLegal past

such_before : (later past : List Moment) → IsSuch (later ++ past) → IsSuch past
such_before later past such = record {
  tame = λ i. calm_before later past i (such.tame i);
  few = few_back later past such.few;
  legal = each_from IsLegalAt later past such.legal;
}

module _ (line : ℕ) (run : Run) (few : run.initiators ≤ 4) (has : 0 < run.units) (small : run.units ≤ 4) (size : length run.start.disks ≡ run.units) where
  abbrev front : List Entry → Run
  front entries = record run { entries = entries }

  history_is : (entries : List Entry) → history (journal_entries line run entries) ≡ history_of line (front entries)
  history_is entries = entries_same line run entries entries ∙ bus_law.tie line (front entries)

  rung_front : (entries : List Entry) → length entries + 2 < 2 ^ 32 → AreEntries (beginning run) entries → AreLines run entries → IsSuch (moments_behind line run entries) → RungOrbsComplete run.start.disks (history (journal_entries line run entries))
  rung_front entries short every fit such =
      let so : IsSuch (history_of line (front entries)) = subst IsSuch (sym (moments_same line run entries entries)) such in
      subst (RungOrbsComplete run.start.disks) (sym (history_is entries))
      (rung_orbs_complete_law.after_lines line (front entries) (record { few = few; short = short; entries = every; lines = lines_same run entries entries fit }) has small size so.tame so.few so.legal)

  all_rung : (entries : List Entry) → length entries + 2 < 2 ^ 32 → AreEntries (beginning run) entries → AreLines run entries → IsSuch (moments_behind line run entries) → AllRungComplete run.start.disks (journal_entries line run entries)
  all_rung [] short every fit such = (rung_front [] short every fit such, tt)
  all_rung (e ∷ before) short every fit such = (
    rung_front (e ∷ before) short every fit such,
    all_rung before (omega arith) every.1 fit.1 (such_before (asked e.line e.event ∷ []) (moments_behind line run before) (such_before (map said e.notes) (asked e.line e.event ∷ moments_behind line run before) such)),
  )

pub all_rung_complete_law : AllRungCompleteLaw
all_rung_complete_law line run r has small size tame few legal = all_rung line run r.few has small size run.entries r.short r.entries r.lines (record { tame = tame; few = few; legal = legal })
