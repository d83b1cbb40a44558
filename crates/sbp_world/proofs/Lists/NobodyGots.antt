-- What answers no agent begins elsewhere, where what answers nobody does: what answers the management operation begins elsewhere as each packet is got.
use Rattle.sbp_world.proofs.Words.Std.{Bool, false, ◌≡◌, refl, ℕ, List, [], ◌∷◌, ◌++◌, Option, Some, None}
use Rattle.sbp_world.proofs.Words.Wire.{Moment, asked, said, terms, Note}
use Rattle.sbp_world.proofs.Words.Target.{Disk}
use Rattle.sbp_world.proofs.Words.Laws.{read_by, answered_at, Purpose, for_agent, for_manager, for_nobody, over, purpose_of, target_at, EachMoment}
use Rattle.sbp_world.proofs.Words.World.{AllElsewhere, IsManagedElsewhere, ManagedAsGot, AllNobodyElsewhere, IsNobodyElsewhere, AllElsewhereBut, IsElsewhereBut, by_purpose}
use Rattle.sbp_journal.specs.declared.note.Note.TheVariants as notes

module _ (wild : ℕ → Bool) (start : List Disk) (i slot : ℕ) (own : wild i ≡ false) where
  module _ (past : List Moment) (serial : ℕ) (managed : IsManagedElsewhere wild start past serial) where
    module _ (request : ℕ) (closed : answered_at (terms past) serial ≡ Some request) (nobody : IsNobodyElsewhere start past i slot serial (Some request)) where
      by_kind : (p : Purpose) → purpose_of (over (target_at start past)) request ≡ p → by_purpose p (AllElsewhere slot (read_by (terms past) i serial (Some request)))
      by_kind (for_agent place which) e = tt
      by_kind for_manager e = managed i slot request own closed e
      by_kind for_nobody e = nobody e

    by_own : (own : Option ℕ) → answered_at (terms past) serial ≡ own → IsNobodyElsewhere start past i slot serial own → IsElsewhereBut start past i slot serial own
    by_own None closed nobody = tt
    by_own (Some request) closed nobody = by_kind request closed nobody (purpose_of (over (target_at start past)) request) refl

  pub but_nobody : (later before : List Moment) → EachMoment (ManagedAsGot wild start) (later ++ before) → AllNobodyElsewhere start i slot later before → AllElsewhereBut start i slot later before
  but_nobody [] before g e = tt
  but_nobody (asked line event ∷ later) before g e = but_nobody later before g.1 e
  but_nobody (said note ∷ later) before g e = by_note note g.0 e (but_nobody later before g.1)
    where
      by_note : (note : Note) → ManagedAsGot wild start (said note) (later ++ before) → AllNobodyElsewhere start i slot (said note ∷ later) before → (AllNobodyElsewhere start i slot later before → AllElsewhereBut start i slot later before) → AllElsewhereBut start i slot (said note ∷ later) before
      by_note (notes.Got serial) g e more = (by_own (later ++ before) serial g (answered_at (terms (later ++ before)) serial) refl e.0, more e.1)
      by_note note g e more = more e
