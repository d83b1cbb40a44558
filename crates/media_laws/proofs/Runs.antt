-- The media of a run of the machine are those of its notes.
use Rattle.std.proofs.Common.{◌≡◌, ◌∙◌, refl, sym, ap, subst, ℕ, zero, suc, ◌+◌, ◌≤◌, Bool, true, false, List, [], ◌∷◌, ◌++◌, map, arith}
use Rattle.login_table.specs.Laws.{enter}
use Rattle.login_table.specs.Sound.{IsTable}
use Rattle.login_table.specs.Table.{Table, enter_step, fresh_id, left_for, new_table}
use Rattle.login_table.proofs.Kept.{after_kept, always}
use Rattle.rbc_disk.specs.Held.{Held}
use Rattle.sbp_journal.specs.Run.{Moment, asked, said}
use Rattle.sbp_journal.specs.declared.note.Note.{Note}
use Rattle.target_base.specs.Beginning.{ready_from, ready_login}
use Rattle.sbp_world.specs.Histories.{history_of, moments_behind, notes_behind}
use Rattle.sbp_world.specs.Making.{new_world, notes_begin, ready_logins}
use Rattle.sbp_bus.specs.Places.{new_places}
use Rattle.sbp_world.specs.Runs.{AreEntries, Entry, Run, after, beginning, first_scene}
use Rattle.sbp_world.specs.Worlds.{Scene}
use Rattle.media_terms.specs.Media.{notes_in}
use Rattle.media_laws.specs.Media.{LeavesMedia, media_after}
use Rattle.media_laws.specs.Runs.{DisksLaw}
use Rattle.media_laws.proofs.Folds.{leaves_media}
use Rattle.media_laws.proofs.Ledgers.{ledger, seats_in}
use Rattle.media_laws.proofs.Lines.{Agrees, line_agrees, media_is}
use Rattle.media_laws.proofs.Tables.{seats_of}
pub use Rattle.media_terms.proofs.Folds.{after_both}

-- ---- how a run begins

ready_kept : (left i : ℕ) (t : Table) → IsTable t → IsTable (ready_from left i t)
unfolding ready_from
ready_kept zero i t h = h
ready_kept (suc left) i t h = ready_kept left (i + 1) (enter_step t (ready_login i)).1 (after_kept (enter (ready_login i)) t h)

ready_seats : (n : ℕ) → n ≤ 4 → seats_in (new_places n) ≡ seats_of (ready_from n 0 new_table).places
unfolding ready_from enter_step left_for fresh_id
ready_seats zero h = refl
ready_seats (suc zero) h = refl
ready_seats (suc (suc zero)) h = refl
ready_seats (suc (suc (suc zero))) h = refl
ready_seats (suc (suc (suc (suc zero)))) h = refl
ready_seats (suc (suc (suc (suc (suc n))))) h = absurd (omega arith)

few_ready : (initiators : ℕ) (ready : Bool) → initiators ≤ 4 → ready_logins initiators ready ≤ 4
few_ready initiators true h = h
few_ready initiators false h = omega arith

begins : (initiators : ℕ) (ready : Bool) (units : ℕ) (start : Held) → initiators ≤ 4 → Agrees start (first_scene initiators ready units start)
unfolding new_world
begins initiators ready units start few = record {
  told = ap (λ seats. ledger seats start) (ready_seats (ready_logins initiators ready) (few_ready initiators ready few));
  sound = ready_kept (ready_logins initiators ready) 0 new_table (always []);
  desks = refl;
}

-- ---- the lines

-- the scene after some lines, beside what the media held before its last line
record Stands (first : Scene) (entries : List Entry) : Type 0 where
  start : Held
  agrees : Agrees start (after first entries)
  media : (after first entries).media ≡ media_after (notes_behind entries) first.media

stands : (first : Scene) (start : Held) → Agrees start first → (entries : List Entry) → AreEntries first entries → Stands first entries
stands first start h [] a = record { start = start; agrees = h; media = refl }
stands first start h (e ∷ before) a =
    let s = stands first start h before a.1 in
    let i = line_agrees s.start e.line e.event e.told (after first before) s.agrees in
    record {
      start = (after first before).media;
      agrees = i;
      media = media_is (after first before).media (after first (e ∷ before)) i
          ∙ (ap (λ told. media_after told (after first before).media) (sym a.0.notes_are)
          ∙ (ap (media_after e.notes) s.media ∙ sym (after_both e.notes (notes_behind before) first.media)));
    }

run_media : (run : Run) → run.initiators ≤ 4 → AreEntries (beginning run) run.entries → (after (beginning run) run.entries).media ≡ media_after (notes_behind run.entries) run.start
run_media run few a = (stands (beginning run) run.start (begins run.initiators run.ready run.units run.start few) run.entries a).media

-- ---- in the words of the laws

notes_said : (told : List Note) (past : List Moment) → notes_in (map said told ++ past) ≡ told ++ notes_in past
notes_said [] past = refl
notes_said (note ∷ told) past = ap (λ ns. note ∷ ns) (notes_said told past)

pub history_notes : (line : ℕ) (run : Run) (entries : List Entry) → notes_in (moments_behind line run entries) ≡ notes_behind entries ++ notes_begin run.initiators run.ready ∷ []
history_notes line run [] = refl
history_notes line run (e ∷ before) =
    notes_said e.notes (asked e.line e.event ∷ moments_behind line run before)
    ∙ (ap (λ ns. e.notes ++ ns) (history_notes line run before) ∙ append_same e.notes (notes_behind before) (notes_begin run.initiators run.ready ∷ []))
  where
    append_same : (xs ys zs : List Note) → xs ++ (ys ++ zs) ≡ (xs ++ ys) ++ zs
    append_same [] ys zs = refl
    append_same (x ∷ xs) ys zs = ap (λ ns. x ∷ ns) (append_same xs ys zs)

run_leaves : (line : ℕ) (run : Run) → run.initiators ≤ 4 → AreEntries (beginning run) run.entries → LeavesMedia run.start (history_of line run) (after (beginning run) run.entries).media
run_leaves line run few a =
    let same : media_after (notes_in (history_of line run)) run.start ≡ (after (beginning run) run.entries).media
    = ap (λ told. media_after told run.start) (history_notes line run run.entries) ∙ (after_both (notes_behind run.entries) (notes_begin run.initiators run.ready ∷ []) run.start ∙ sym (run_media run few a)) in
    subst (LeavesMedia run.start (history_of line run)) same (leaves_media run.start (history_of line run))

pub disks_law : DisksLaw
disks_law = record { notes = run_media; leaves = run_leaves }
