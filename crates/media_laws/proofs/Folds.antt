-- The disk fold of the laws holds, medium by medium, what the notes of the runs leave; and each count rises by the failing runs.
use Rattle.std.proofs.Common.{◌≡◌, ◌≢◌, ◌∙◌, refl, sym, ap, subst, ℕ, suc, ◌<◌, nat_eq, Bool, true, false, cond, List, [], ◌∷◌, length, Option, arith}
use Rattle.std.specs.Prelude.{slice_index, slice_set}
use Rattle.std.proofs.Math.ListN.{length-set}
use Rattle.std.proofs.lemmas.Bool.Decides.{nat_tests}
use Rattle.std.proofs.lemmas.List.{get_or-set_same, get_or-set_other}
use Rattle.rbc_command.specs.declared.sense.Sense.{Sense}
use Rattle.rbc_disk.specs.Disk.{Disk, disk_at}
use Rattle.rbc_disk.specs.Held.{Held}
use Rattle.rbc_disk.specs.Runs.{count_after_run, is_failure}
use Rattle.sbp_base.specs.Faults.{count_up}
use Rattle.sbp_journal.specs.Run.{Moment, asked, said}
use Rattle.sbp_journal.specs.declared.note.Note.{Note}
use Rattle.sbp_journal.specs.declared.note.Note.TheVariants as notes
use Rattle.sbp_laws.specs.DiskFold.{failed_runs}
use Rattle.sbp_laws.specs.Targets.{target_at}
use Rattle.media_terms.specs.Media.{notes_in}
use Rattle.media_terms.proofs.Folds.{known_disks, medium_at}
use Rattle.media_laws.specs.Media.{LeavesMedia, left_by_note, media_after}

-- a note leaves as many media and counts
note_count : (note : Note) (media : Held) → (length (left_by_note note media).disks ≡ length media.disks) × (length (left_by_note note media).faults ≡ length media.faults)
note_count (notes.Begin initiators ready) media = (refl, refl)
note_count (notes.Append i list orb cdb buffer) media = (refl, refl)
note_count (notes.Low i list orb) media = (refl, refl)
note_count (notes.Linked i list orb) media = (refl, refl)
note_count (notes.Rung i list orb) media = (refl, refl)
note_count (notes.Dummied i list orb) media = (refl, refl)
note_count (notes.Sent serial generation from to bytes) media = (refl, refl)
note_count (notes.Injected serial) media = (refl, refl)
note_count (notes.Got serial) media = (refl, refl)
note_count (notes.Ignored serial cause) media = (refl, refl)
note_count (notes.Lost serial) media = (refl, refl)
note_count (notes.TimedOut serial) media = (refl, refl)
note_count (notes.Ran i n k unit cdb bytes check) media = (length-set media.disks unit _, length-set media.faults unit _)
note_count (notes.Ended i n k status) media = (refl, refl)
note_count (notes.Taken i n k status answer) media = (refl, refl)
note_count (notes.Cut i n cause) media = (refl, refl)
note_count (notes.Dead i n cause) media = (refl, refl)
note_count (notes.Drop i list) media = (refl, refl)
note_count (notes.Managed i word subject status login) media = (refl, refl)
note_count (notes.ManageFailed i cause) media = (refl, refl)
note_count (notes.Held id) media = (refl, refl)
note_count (notes.Expired id) media = (refl, refl)
note_count (notes.Back id) media = (refl, refl)
note_count (notes.Left id) media = (refl, refl)
note_count (notes.Cleared unit) media = (refl, refl)
note_count (notes.Op i operation word) media = (refl, refl)
note_count (notes.Stuck i) media = (refl, refl)
note_count (notes.Reset generation) media = (refl, refl)
note_count (notes.Seen node generation) media = (refl, refl)
note_count notes.Tick media = (refl, refl)
note_count (notes.Refused line number) media = (refl, refl)
note_count notes.Settled media = (refl, refl)
note_count notes.Stopped media = (refl, refl)
note_count (notes.Key unit) media = (refl, refl)
note_count (notes.Unsolicited i) media = (refl, refl)
note_count (notes.Unsent i) media = (refl, refl)
note_count (notes.Told i) media = (refl, refl)

counts_stay : (told : List Note) (media : Held) → (length (media_after told media).disks ≡ length media.disks) × (length (media_after told media).faults ≡ length media.faults)
counts_stay [] media = (refl, refl)
counts_stay (note ∷ before) media =
    let h = note_count note (media_after before media) in
    let k = counts_stay before media in (h.0 ∙ k.0, h.1 ∙ k.1)

-- ---- the counts of faults

counted_more : (failed : Bool) (before n : ℕ) → cond failed (count_up (count_up before n) 1) (count_up before n) ≡ count_up before (cond failed (suc n) n)
counted_more true before n = omega arith
counted_more false before n = refl

run_here : (at : ℕ) (faults : List ℕ) (check : Option Sense) (first n : ℕ) → at < length faults → slice_index faults at ≡ count_up first n
    → slice_index (slice_set faults at (count_after_run check (slice_index faults at))) at ≡ count_up first (cond (is_failure check) (suc n) n)
run_here at faults check first n below e =
    get_or-set_same faults at (count_after_run check (slice_index faults at)) 0 below
    ∙ (ap (λ x. cond (is_failure check) (count_up x 1) x) e ∙ counted_more (is_failure check) first n)

run_counts : (b : Bool) (unit at : ℕ) (faults : List ℕ) (check : Option Sense) (first : ℕ) (failed : ℕ → ℕ) → nat_eq unit at ≡ b → unit < length faults → slice_index faults unit ≡ count_up first (failed unit)
    → slice_index (slice_set faults at (count_after_run check (slice_index faults at))) unit ≡ count_up first (cond b (cond (is_failure check) (suc (failed at)) (failed at)) (failed unit))
run_counts true unit at faults check first failed t below e =
    let same : unit ≡ at = grind (arith, nat_tests) in
    subst (λ u. slice_index (slice_set faults at (count_after_run check (slice_index faults at))) u ≡ count_up first (cond (is_failure check) (suc (failed at)) (failed at))) (sym same)
    (run_here at faults check first (failed at) (subst (λ u. u < length faults) same below) (subst (λ u. slice_index faults u ≡ count_up first (failed u)) same e))
run_counts false unit at faults check first failed t below e =
    let d : unit ≢ at = grind (arith, nat_tests) in get_or-set_other faults at unit (count_after_run check (slice_index faults at)) 0 d ∙ e

note_faults : (note : Note) (past : List Moment) (now : Held) (first unit : ℕ) → unit < length now.faults → slice_index now.faults unit ≡ count_up first (failed_runs past unit)
    → slice_index (left_by_note note now).faults unit ≡ count_up first (failed_runs (said note ∷ past) unit)
note_faults (notes.Begin initiators ready) past now first unit below e = e
note_faults (notes.Append i list orb cdb buffer) past now first unit below e = e
note_faults (notes.Low i list orb) past now first unit below e = e
note_faults (notes.Linked i list orb) past now first unit below e = e
note_faults (notes.Rung i list orb) past now first unit below e = e
note_faults (notes.Dummied i list orb) past now first unit below e = e
note_faults (notes.Sent serial generation from to bytes) past now first unit below e = e
note_faults (notes.Injected serial) past now first unit below e = e
note_faults (notes.Got serial) past now first unit below e = e
note_faults (notes.Ignored serial cause) past now first unit below e = e
note_faults (notes.Lost serial) past now first unit below e = e
note_faults (notes.TimedOut serial) past now first unit below e = e
note_faults (notes.Ran i n k at cdb bytes check) past now first unit below e = run_counts (nat_eq unit at) unit at now.faults check first (failed_runs past) refl below e
note_faults (notes.Ended i n k status) past now first unit below e = e
note_faults (notes.Taken i n k status answer) past now first unit below e = e
note_faults (notes.Cut i n cause) past now first unit below e = e
note_faults (notes.Dead i n cause) past now first unit below e = e
note_faults (notes.Drop i list) past now first unit below e = e
note_faults (notes.Managed i word subject status login) past now first unit below e = e
note_faults (notes.ManageFailed i cause) past now first unit below e = e
note_faults (notes.Held id) past now first unit below e = e
note_faults (notes.Expired id) past now first unit below e = e
note_faults (notes.Back id) past now first unit below e = e
note_faults (notes.Left id) past now first unit below e = e
note_faults (notes.Cleared at) past now first unit below e = e
note_faults (notes.Op i operation word) past now first unit below e = e
note_faults (notes.Stuck i) past now first unit below e = e
note_faults (notes.Reset generation) past now first unit below e = e
note_faults (notes.Seen node generation) past now first unit below e = e
note_faults notes.Tick past now first unit below e = e
note_faults (notes.Refused line number) past now first unit below e = e
note_faults notes.Settled past now first unit below e = e
note_faults notes.Stopped past now first unit below e = e
note_faults (notes.Key at) past now first unit below e = e
note_faults (notes.Unsolicited i) past now first unit below e = e
note_faults (notes.Unsent i) past now first unit below e = e
note_faults (notes.Told i) past now first unit below e = e

known_faults : (start : Held) (past : List Moment) (unit : ℕ) → unit < length start.faults → slice_index (media_after (notes_in past) start).faults unit ≡ count_up (slice_index start.faults unit) (failed_runs past unit)
known_faults start [] unit below = omega arith
known_faults start (asked line event ∷ past) unit below = known_faults start past unit below
known_faults start (said note ∷ past) unit below =
    let now = media_after (notes_in past) start in
    note_faults note past now (slice_index start.faults unit) unit (subst (λ n. unit < n) (sym (counts_stay (notes_in past) start).1) below) (known_faults start past unit below)

-- What the notes of a history leave is what its disk fold and its failing runs say.
pub leaves_media : (start : Held) (past : List Moment) → LeavesMedia start past (media_after (notes_in past) start)
leaves_media start past =
    let now = media_after (notes_in past) start in
    let is = known_disks start.disks start.faults past in
    record {
      disks = record {
        count = (counts_stay (notes_in past) start).0;
        each = λ unit below. ap (λ (ds : List Disk). disk_at ds unit) (sym is) ∙ medium_at (target_at start.disks past).units unit;
      };
      failures = record { count = (counts_stay (notes_in past) start).1; each = λ unit below. known_faults start past unit below };
    }
