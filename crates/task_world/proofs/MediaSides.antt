-- What the nodes of a task world tell, and what it says of the medium of the unit.
use Rattle.std.proofs.Common.{◌≡◌, ◌∙◌, refl, ap, ℕ, List, [], ◌∷◌, ◌++◌}
use Rattle.std.specs.List.{AllByRecursion}
use Rattle.rbc_disk.specs.Disk.{Disk}
use Rattle.rbc_disk.specs.Held.{Held, held}
use Rattle.rbc_disk.specs.Runs.{check_in}
use Rattle.sbp_journal.specs.declared.note.Note.{Note}
use Rattle.sbp_journal.specs.declared.note.Note.TheVariants as notes
use Rattle.sbp_journal.specs.declared.side.Side.{Side}
use Rattle.sbp_journal.specs.declared.side.Side.TheVariants as sides
use Rattle.sbp_journal.specs.Form.{HasForm, IsCheck, IsStatus}
use Rattle.sbp_world.proofs.Formed.{AreFormed, AreOwn, IsFormed, IsNoRun, IsOwn}
use Rattle.media_terms.specs.Media.{left_by_note, run_on}

-- ---- what is told

-- what the nodes of a task world tell: an initiator notes of its own, the task node of its agent, which has place 0
abbrev pub IsTold : Side → Type 0
IsTold (sides.Own note) = HasForm note × IsNoRun note
IsTold (sides.Opened place orb) = place ≡ 0
IsTold (sides.Ran place orb cdb payload outcome) = (place ≡ 0) × IsCheck (check_in outcome)
IsTold (sides.Ended place orb status) = IsStatus status
IsTold (sides.Dead place cause) = Unit {0}
IsTold (sides.Cut place cause) = Unit {0}
IsTold _ = ⊥

abbrev pub AreTold : List Side → Type 0
AreTold told = AllByRecursion IsTold told

told_more : (told : List Side) (side : Side) → AreTold told → IsTold side → AreTold (told ++ side ∷ [])
told_more [] side h f = (f, tt)
told_more (first ∷ told) side h f = (h.0, told_more told side h.1 f)

-- its notes have the form of a journal
told_form : (side : Side) → IsTold side → IsFormed side
told_form (sides.Own note) h = h.0
told_form (sides.Ran place orb cdb payload outcome) h = h.1
told_form (sides.Ended place orb status) h = h
told_form (sides.Opened place orb) h = tt
told_form (sides.Dead place cause) h = tt
told_form (sides.Cut place cause) h = tt
told_form _ h = absurd h

pub told_formed : (told : List Side) → AreTold told → AreFormed told
told_formed [] h = tt
told_formed (side ∷ told) h = (told_form side h.0, told_formed told h.1)

own_is_told : (side : Side) → IsOwn side → IsTold side
own_is_told (sides.Own note) h = h
own_is_told _ h = absurd h

own_told : (told : List Side) → AreOwn told → AreTold told
own_told [] h = tt
own_told (side ∷ told) h = (own_is_told side h.0, own_told told h.1)

-- ---- what it leaves of the media, of which the first is the unit's

abbrev pub by_side : Side → Held → Held
by_side (sides.Own note) media = left_by_note note media
by_side (sides.Ran place orb cdb payload outcome) media = run_on cdb payload (check_in outcome) 0 media
by_side _ media = media

abbrev pub after_sides : List Side → Held → Held
after_sides [] media = media
after_sides (side ∷ later) media = after_sides later (by_side side media)

after_more : (told : List Side) (side : Side) (media : Held) → after_sides (told ++ side ∷ []) media ≡ by_side side (after_sides told media)
after_more [] side media = refl
after_more (first ∷ told) side media = after_more told side (by_side first media)

-- an initiator's note is of no run
note_leaves : (note : Note) (media : Held) → IsNoRun note → left_by_note note media ≡ media
note_leaves (notes.Ran i n k at cdb bytes check) media h = absurd h
note_leaves _ media h = refl

side_leaves : (side : Side) (media : Held) → IsOwn side → by_side side media ≡ media
side_leaves (sides.Own note) media h = note_leaves note media h.1
side_leaves _ media h = absurd h

own_leave : (told : List Side) (media : Held) → AreOwn told → after_sides told media ≡ media
own_leave [] media h = refl
own_leave (side ∷ later) media h = ap (after_sides later) (side_leaves side media h.0) ∙ own_leave later media h.1

-- ---- both

-- the media, of which the first holds this, with this count of faults, beside these others
abbrev pub beside : List Disk → List ℕ → Disk → ℕ → Held
beside disks faults disk count = held (disk ∷ disks) (count ∷ faults)

-- Of what was told, which makes this of the unit's medium and its count of faults.
pub record Tells (disk : Disk) (count : ℕ) (left : Disk) (now : ℕ) (told : List Side) : Type 0 where
  pub are : AreTold told
  pub media : (disks : List Disk) (faults : List ℕ) → after_sides told (beside disks faults disk count) ≡ beside disks faults left now

pub nothing : (disk : Disk) (count : ℕ) → Tells disk count disk count []
nothing disk count = record { are = tt; media = λ disks faults. refl }

-- what is told of no run
pub tells_more : (disk : Disk) (count : ℕ) (left : Disk) (now : ℕ) (told : List Side) (side : Side) → Tells disk count left now told → IsTold side → ((media : Held) → by_side side media ≡ media) → Tells disk count left now (told ++ side ∷ [])
tells_more disk count left now told side t f still = record {
  are = told_more told side t.are f;
  media = λ disks faults. after_more told side (beside disks faults disk count) ∙ still (after_sides told (beside disks faults disk count)) ∙ t.media disks faults;
}

-- what is told of a run makes this of the unit's medium
abbrev pub Makes : Side → Disk → ℕ → Disk → ℕ → Type 0
Makes side disk count left now = (disks : List Disk) (faults : List ℕ) → by_side side (beside disks faults disk count) ≡ beside disks faults left now

pub tells_run : (disk : Disk) (count : ℕ) (left last : Disk) (now then : ℕ) (told : List Side) (side : Side) → Tells disk count left now told → IsTold side → Makes side left now last then → Tells disk count last then (told ++ side ∷ [])
tells_run disk count left last now then told side t f runs = record {
  are = told_more told side t.are f;
  media = λ disks faults. after_more told side (beside disks faults disk count) ∙ ap (by_side side) (t.media disks faults) ∙ runs disks faults;
}

-- an initiator's notes
pub own_tells : (disk : Disk) (count : ℕ) (told : List Side) → AreOwn told → Tells disk count disk count told
own_tells disk count told h = record { are = own_told told h; media = λ disks faults. own_leave told (beside disks faults disk count) h }
