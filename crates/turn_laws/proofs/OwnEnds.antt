-- What the end of a transaction tells at an initiator is what the laws say of its operation, its list and its session, where the terms are tied to what it has: one lemma for each
-- purpose of a transaction.
use Rattle.std.proofs.Common.{[], Bool, List, None, Option, Some, ap, false, refl, sym, true, ℕ, ◌++◌, ◌∙◌, ◌∷◌, ◌≡◌}
use Rattle.orb_list.specs.Lists.{ListState, drop_lists}
use Rattle.sbp_initiator.specs.Effects.{Turn, drop_list_step, drop_where, dropped_as}
use Rattle.sbp_initiator.specs.declared.state.InitiatorState.{InitiatorState}
use Rattle.sbp_journal.specs.Outgoings.{OutboxState}
use Rattle.sbp_journal.specs.declared.note.Note.{Note}
use Rattle.sbp_journal.specs.declared.side.Side.{Side}
use Rattle.sbp_journal.specs.declared.side.Side.TheVariants as sides
use Rattle.sbp_laws.specs.Operations.{drop_note}
use Rattle.turn_laws.proofs.KindNotes.{join_same, none_behind}

-- ---- what is told, behind what was

abbrev pub own : List Note → List Side
own [] = []
own (note ∷ later) = sides.Own note ∷ own later

-- a call tells these notes behind those of the outbox
abbrev pub Says : OutboxState → Turn → List Note → Type 0
Says o t told_notes = t.0.sides ≡ o.sides ++ own told_notes

pub own_both : (a b : List Note) → own (a ++ b) ≡ own a ++ own b
own_both [] b = refl
own_both (note ∷ a) b = ap (λ xs. sides.Own note ∷ xs) (own_both a b)

-- two steps tell in their order
pub then_says : (o : OutboxState) (t u : Turn) (a b : List Note) → Says o t a → Says t.0 u b → Says o u (a ++ b)
then_says o t u a b e f =
    f ∙ ap (λ xs. xs ++ own b) e ∙ sym (join_same o.sides (own a) (own b)) ∙ ap (λ xs. o.sides ++ xs) (sym (own_both a b))

pub says_as : (o : OutboxState) (t : Turn) (a b : List Note) → a ≡ b → Says o t a → Says o t b
says_as o t a b e h = h ∙ ap (λ xs. o.sides ++ own xs) e

-- ---- the steps

-- a list that is dropped: the present one
dropped_says : (r : Option ℕ × ListState) (o : OutboxState) (s : InitiatorState) → Says o (dropped_as r o s) (drop_note s.number true r.0)
dropped_says (None, lists) o s = sym (none_behind o.sides)
dropped_says (Some n, lists) o s = refl

pub dropped_number : (r : Option ℕ × ListState) (o : OutboxState) (s : InitiatorState) → (dropped_as r o s).1.number ≡ s.number
dropped_number (None, lists) o s = refl
dropped_number (Some n, lists) o s = refl

module _ (present : Option ℕ) (s : InitiatorState) (drops : (drop_lists s.lists).0 ≡ present) (o : OutboxState) where
  pub drop_says : Says o (drop_list_step o s) (drop_note s.number true present)
  drop_says = says_as o (drop_list_step o s) _ _ (ap (drop_note s.number true) drops) (dropped_says (drop_lists s.lists) o s)

  pub drop_where_says : (b : Bool) → Says o (drop_where b o s) (drop_note s.number b present)
  drop_where_says true = drop_says
  drop_where_says false = sym (none_behind o.sides)

  pub where_number : (b : Bool) → (drop_where b o s).1.number ≡ s.number
  where_number true = dropped_number (drop_lists s.lists) o s
  where_number false = refl
