-- Each note that is told of others leaves what is in hand of an initiator's management: one that tells nothing of the wire, a packet that is ignored, a time-out.
use Rattle.sbp_world.proofs.Words.Std.{◌≡◌, ◌∙◌, ◌⊎◌, inl, inr, refl, sym, ap, ℕ, List, ◌∷◌, Some, None}
use Rattle.sbp_world.proofs.Words.Wire.{Moment, said, Sending, Owed, terms, Cause, Note}
use Rattle.sbp_world.proofs.Words.Target.{Operation, Disk}
use Rattle.sbp_world.proofs.Words.Laws.{is_nothing}
use Rattle.sbp_world.proofs.Words.World.{managed_for, IsBeginning, IsHandling, IsTaking, asks, failed}
use Rattle.sbp_journal.specs.declared.note.Note.TheVariants as notes
use Rattle.sbp_world.proofs.Lists.ManageOffices.{Lingers, fails, ignored_settles, lasts, office_at, timed_by}
use Rattle.sbp_world.proofs.Lists.ManageStays.{Calms, Had, replies_handling, rests_accepted, rests_calm, rests_handling}
use Rattle.sbp_world.proofs.Lists.ManageTerms.{HasCause, ignored_owes, ignored_rests, none_is, timed_owes, timed_rests}

-- nothing is to be answered, so no write is being taken
pub none_taken : (past : List Moment) → (terms past).owes ≡ None → (write : ℕ) (owed : Owed) → IsTaking past write owed → ⊥
none_taken past e write owed t = none_is owed (sym e ∙ t.owes)

-- ---- a note that tells nothing of the wire

pub begins_on : (start : List Disk) (past now : List Moment) → Lingers (office_at start past) (office_at start now) → IsBeginning start past → IsBeginning start now
begins_on start past now (lasts e f) (asks g) = asks (ap (λ a. is_nothing a) f ∙ g)
begins_on start past now (lasts e f) (failed g) = failed (ap (λ m. m.operation) e ∙ g)
begins_on start past now (fails e f) b = failed e

module _ (start : List Disk) (past : List Moment) (i : ℕ) (note : Note) (wire : terms (said note ∷ past) ≡ terms past) (for_same : (s : ℕ) → managed_for start (said note ∷ past) s ≡ managed_for start past s) (l : Lingers (office_at start past) (office_at start (said note ∷ past))) where
  abbrev now : List Moment
  now = said note ∷ past

-- ---- a packet that is ignored, and a time-out, where nothing was to be answered

module _ (start : List Disk) (past : List Moment) (i serial : ℕ) (none : (terms past).owes ≡ None) where
  pub ignored_calm : (cause : Cause) → Calms start past (said (notes.Ignored serial cause) ∷ past) i
  ignored_calm cause =
      let now = said (notes.Ignored serial cause) ∷ past in
      let r = ignored_rests serial cause past in
      rests_calm start past now i serial r (λ s. refl) (rests_handling start past now i serial r (λ s. refl) (ignored_settles start serial cause past))
      (λ write o m a. rests_accepted start past now i serial r (λ s. refl) write (λ n owed t. none_taken past none write owed t) (λ owed t. absurd (untaken write owed t (ignored_owes serial cause past owed t.owes))) a)
    where
      untaken : (write : ℕ) (owed : Owed) → IsTaking (said (notes.Ignored serial cause) ∷ past) write owed → ((terms past).owes ≡ Some owed) ⊎ HasCause owed → ⊥
      untaken write owed t (inl e) = none_is owed (sym none ∙ e)
      untaken write owed t (inr c) = c t.first

  pub timed_calm : (q : Sending) → (terms past).sent serial ≡ Some q → Calms start past (said (notes.TimedOut serial) ∷ past) i
  timed_calm q e =
      let now = said (notes.TimedOut serial) ∷ past in
      let r = timed_rests serial past in
      rests_calm start past now i serial r (λ s. refl)
      (timed_by start serial past q e ((place : ℕ) (op : Operation) → IsHandling start now i place op → Had start past now i place op) (rests_handling start past now i serial r (λ s. refl)) (replies_handling start past now i serial r (λ s. refl)))
      (λ write o m a. rests_accepted start past now i serial r (λ s. refl) write (λ n owed t. none_taken past none write owed t) (λ owed t. absurd (none_is owed (sym (timed_owes serial past ∙ none) ∙ t.owes))) a)
