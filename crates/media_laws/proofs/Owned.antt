-- What an initiator tells changes neither the places nor the media.
use Rattle.std.proofs.Common.{◌≡◌, ◌∙◌, refl, ap, List, [], ◌∷◌}
use Rattle.rbc_disk.specs.Held.{Held}
use Rattle.sbp_journal.specs.declared.note.Note.{Note}
use Rattle.sbp_journal.specs.declared.note.Note.TheVariants as notes
use Rattle.sbp_journal.specs.declared.side.Side.{Side}
use Rattle.sbp_journal.specs.declared.side.Side.TheVariants as sides
use Rattle.sbp_world.proofs.Formed.{AreOwn, IsNoRun, IsOwn}
use Rattle.media_laws.specs.Media.{left_by_note}
use Rattle.media_laws.proofs.Ledgers.{Ledger, after_sides, by_side, ledger}

pub note_leaves : (note : Note) (media : Held) → IsNoRun note → left_by_note note media ≡ media
note_leaves (notes.Ran i n k at cdb bytes check) media h = absurd h
note_leaves _ media h = refl

one_leaves : (side : Side) (l : Ledger) → IsOwn side → by_side side l ≡ l
one_leaves (sides.Own note) l h = ap (ledger l.seats) (note_leaves note l.media h.1)
one_leaves _ l h = absurd h

pub own_leave : (told : List Side) (l : Ledger) → AreOwn told → after_sides told l ≡ l
own_leave [] l h = refl
own_leave (side ∷ later) l h = ap (after_sides later) (one_leaves side l h.0) ∙ own_leave later l h.1
