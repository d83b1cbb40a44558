-- The disk fold of the laws holds of unit 0 what the runs on it leave, in the words of a queue.
use Rattle.std.proofs.Common.{arith, ◌≡◌, ◌∙◌, refl, sym, ap, zero, suc, ◌<◌, List, [], ◌∷◌, length}
use Rattle.std.proofs.Math.ListN.{length-set}
use Rattle.std.proofs.lemmas.List.{get_or-set_same}
use Rattle.rbc_disk.specs.Disk.{Disk, disk_at, no_disk}
use Rattle.rbc_disk.specs.Held.{held as holding}
use Rattle.rbc_disk.specs.Runs.{medium_after}
use Rattle.sbp_journal.specs.Run.{said}
use Rattle.sbp_journal.specs.declared.note.Note.TheVariants as notes
use Rattle.sbp_laws.specs.Targets.{disk_of, target_at}
use Rattle.media_terms.specs.Media.{media_after, notes_in}
use Rattle.media_terms.proofs.Folds.{known_disks, medium_at}
use Rattle.retry_queue.specs.Steps.{Step, of_world, world}
use Rattle.retry_queue.specs.Journals.{IsJournal, medium}
use Rattle.retry_queue.proofs.Cases.{not_own}
use Rattle.retry_queue.proofs.Order.{journal_before}

module _ (start : List Disk) (some : 0 < length start) where
  -- the media by the notes
  abbrev disks : List Step → List Disk
  disks past = (media_after (notes_in (world past)) (holding start [])).disks

  record Follows (past : List Step) : Type 0 where
    size : length (disks past) ≡ length start
    is : disk_at (disks past) 0 ≡ medium (disk_at start 0) past

  follows : (past : List Step) → IsJournal past → Follows past
  follows [] j = record { size = refl; is = refl }
  follows (of_world (said (notes.Ran i n k zero cdb bytes check)) ∷ past) j =
      let before = follows past (journal_before _ past j) in
      let size = before.size in
      let left = medium_after cdb bytes check (disk_at (disks past) 0) in
      record {
        size = length-set (disks past) 0 left ∙ before.size;
        is = get_or-set_same (disks past) 0 left no_disk (omega (arith, size, some)) ∙ ap (medium_after cdb bytes check) before.is;
      }
  follows (of_world (said (notes.Ran i n k (suc u) cdb bytes check)) ∷ past) j = absurd (not_own u j.plain.0)
  follows (_ ∷ past) j = let before = follows past (journal_before _ past j) in record { size = before.size; is = before.is }

  pub fold_is : (past : List Step) → IsJournal past → disk_of start (world past) 0 ≡ medium (disk_at start 0) past
  fold_is past j = sym (medium_at (target_at start (world past)).units 0) ∙ ap (λ disks. disk_at disks 0) (known_disks start [] (world past)) ∙ (follows past j).is
