-- What stands since a node saw the latest reset: lists that an initiator began since then, and how far they are rung (NCITS 325-1998, command block agents); and how many requests of lists
-- that were cut are under way.
use Rattle.std.specs.Prelude.{◌≡◌, ◌≤◌, ◌<◌, ℕ, zero, suc, ◌==◌, ◌||◌, max, Bool, true, false, if◌then◌else◌, List, [], ◌∷◌, ◌++◌, length}
use Rattle.sbp_base.specs.Update.{upd2}
use Rattle.rbc_disk.specs.Disk.{Disk}
use Rattle.sbp_journal.specs.Run.{Moment, said}
use Rattle.sbp_journal.specs.Wire.{terms}
use Rattle.sbp_journal.specs.declared.note.Note.TheVariants as notes
use Rattle.sbp_laws.specs.Budget.{initiators, since_reset}
use Rattle.sbp_laws.specs.OrderLaw.{is_cut}
use Rattle.sbp_world.specs.Completing.Labels.{of_cut_lists}

-- ---- since a node saw the latest reset
-- a node saw a reset among these moments
abbrev pub has_seen : ℕ → List Moment → Bool
has_seen node [] = false
has_seen node (said (notes.Seen other generation) ∷ past) = (other == node) || has_seen node past
has_seen node (_ ∷ past) = has_seen node past

-- what stands behind the first time that it did
abbrev pub behind_sight : ℕ → List Moment → List Moment
behind_sight node [] = []
behind_sight node (moment ∷ past) = if has_seen node past then moment ∷ behind_sight node past else []

-- what stands since a node first saw the latest reset; since the run began, where there was no reset
abbrev pub since_sight : ℕ → List Moment → List Moment
since_sight node past = if (terms past).bus == 0 then since_reset past else behind_sight node (since_reset past)

-- ---- lists
-- a list was begun among these moments
abbrev pub has_begun : List Moment → ℕ → ℕ → Bool
has_begun [] = λ i n. false
has_begun (said (notes.Append i n zero cdb buffer) ∷ past) = upd2 (has_begun past) i n true
has_begun (_ ∷ past) = has_begun past

-- how many of its ORBs are rung: those up to the highest one that was
abbrev pub rung : List Moment → ℕ → ℕ → ℕ
rung [] = λ i n. 0
rung (said (notes.Rung i n k) ∷ past) = upd2 (rung past) i n (max (rung past i n) (suc k))
rung (_ ∷ past) = rung past

-- a list of an initiator that it began since it first saw the latest reset, and that was not cut
pub record IsFresh (past : List Moment) (i n : ℕ) : Type 0 where
  pub inside : i < initiators past
  pub begun : has_begun (since_sight (suc i) past) i n ≡ true
  pub uncut : is_cut past i n ≡ false

-- ---- requests of lists that were cut
-- At each moment since the target first saw the latest reset few requests of lists that were cut are under way.
abbrev pub AreFewOfCutLists : List Disk → List Moment → Type 0
AreFewOfCutLists start past =
    (later earlier : List Moment) → later ++ earlier ≡ past → length later ≤ length (since_sight 0 past) → (i : ℕ) → i < initiators past → of_cut_lists start earlier i ≤ 40
