-- The notes of a turn by their kinds: where the kinds and the packets of two turns are the same, the turns are.
use Rattle.std.proofs.Common.{◌≡◌, ◌∙◌, ℕ, Bool, false, if◌then◌else◌, List, [], ◌∷◌, ◌++◌, refl, sym, ap, ap₂}
use Rattle.sbp_journal.specs.declared.note.Note.{Note}
use Rattle.sbp_journal.specs.declared.note.Note.TheVariants as notes
use Rattle.sbp_laws.specs.ActionLaw.{InOrder, in_order}
use Rattle.sbp_laws.specs.Deliveries.{is_run_note, is_taken_note}
use Rattle.sbp_laws.specs.LoginLaw.{is_login_note, is_decision_note}
use Rattle.sbp_laws.specs.MediaLaw.{is_push_note, is_told_note}
use Rattle.sbp_laws.specs.NoteKinds.{is_cut_note, is_cleared_note, is_failure_note, is_end_note, is_operation_note, of_kind}
use Rattle.sbp_laws.specs.Turns.{Turn, effects_of, sends_of}

abbrev IsNoPacket : (Note → Bool) → Type 0
IsNoPacket kind = (serial generation from to : ℕ) (bytes : List ℕ) → kind (notes.Sent serial generation from to bytes) ≡ false

of_effects : (kind : Note → Bool) → IsNoPacket kind → (rest : List Note) → of_kind kind (effects_of rest) ≡ of_kind kind rest
of_effects kind never [] = refl
of_effects kind never (notes.Sent serial generation from to bytes ∷ rest) =
    of_effects kind never rest ∙ ap (λ b. if b then notes.Sent serial generation from to bytes ∷ of_kind kind rest else of_kind kind rest) (sym (never serial generation from to bytes))
of_effects kind never (note ∷ rest) = ap (λ l. if kind note then note ∷ l else l) (of_effects kind never rest)

-- what stands before the statuses that are taken
abbrev pub before_takings : List Note → List Note
before_takings rest =
    of_kind is_cut_note rest ++ of_kind is_cleared_note rest ++ of_kind is_login_note rest ++ of_kind is_decision_note rest ++ of_kind is_failure_note rest
    ++ of_kind is_run_note rest ++ of_kind is_end_note rest ++ of_kind is_push_note rest ++ of_kind is_told_note rest

-- the same notes of each kind but of those that are taken
pub record SameKinds (rest other : List Note) : Type 0 where
  pub cuts : of_kind is_cut_note rest ≡ of_kind is_cut_note other
  pub cleared : of_kind is_cleared_note rest ≡ of_kind is_cleared_note other
  pub logins : of_kind is_login_note rest ≡ of_kind is_login_note other
  pub decisions : of_kind is_decision_note rest ≡ of_kind is_decision_note other
  pub failures : of_kind is_failure_note rest ≡ of_kind is_failure_note other
  pub runs : of_kind is_run_note rest ≡ of_kind is_run_note other
  pub ends : of_kind is_end_note rest ≡ of_kind is_end_note other
  pub pushes : of_kind is_push_note rest ≡ of_kind is_push_note other
  pub told : of_kind is_told_note rest ≡ of_kind is_told_note other
  pub operations : of_kind is_operation_note rest ≡ of_kind is_operation_note other

join : (a b c d : List Note) → a ≡ c → b ≡ d → a ++ b ≡ c ++ d
join a b c d e f = ap₂ (λ x y. x ++ y) e f

pub same_before : (rest other : List Note) → SameKinds rest other → before_takings rest ≡ before_takings other
same_before rest other same =
    join _ _ _ _ (join _ _ _ _ (join _ _ _ _ (join _ _ _ _ (join _ _ _ _ (join _ _ _ _ (join _ _ _ _ (join _ _ _ _ same.cuts same.cleared) same.logins) same.decisions) same.failures) same.runs) same.ends) same.pushes) same.told

-- the effects of a turn in their order
abbrev pub ordered_effects : List Note → List Note
ordered_effects rest = before_takings rest ++ of_kind is_taken_note rest ++ of_kind is_operation_note rest

in_order_effects : (rest : List Note) → in_order (effects_of rest) ≡ ordered_effects rest
in_order_effects rest =
    join _ _ _ _ (join _ _ _ _ (same_before (effects_of rest) rest kinds) (of_effects is_taken_note (λ serial generation from to bytes. refl) rest)) kinds.operations
  where
    kinds : SameKinds (effects_of rest) rest
    kinds = record {
      cuts = of_effects is_cut_note (λ serial generation from to bytes. refl) rest;
      cleared = of_effects is_cleared_note (λ serial generation from to bytes. refl) rest;
      logins = of_effects is_login_note (λ serial generation from to bytes. refl) rest;
      decisions = of_effects is_decision_note (λ serial generation from to bytes. refl) rest;
      failures = of_effects is_failure_note (λ serial generation from to bytes. refl) rest;
      runs = of_effects is_run_note (λ serial generation from to bytes. refl) rest;
      ends = of_effects is_end_note (λ serial generation from to bytes. refl) rest;
      pushes = of_effects is_push_note (λ serial generation from to bytes. refl) rest;
      told = of_effects is_told_note (λ serial generation from to bytes. refl) rest;
      operations = of_effects is_operation_note (λ serial generation from to bytes. refl) rest;
    }

pub effects_ordered : (t : Turn) → InOrder t → effects_of t.rest ≡ ordered_effects t.rest
effects_ordered t ordered = ordered.effects ∙ in_order_effects t.rest

pub rest_ordered : (t : Turn) → InOrder t → t.rest ≡ ordered_effects t.rest ++ sends_of t.rest
rest_ordered t ordered = ordered.first ∙ ap (λ l. l ++ sends_of t.rest) (effects_ordered t ordered)

pub same_effects : (rest other : List Note) → SameKinds rest other → of_kind is_taken_note rest ≡ of_kind is_taken_note other → ordered_effects rest ≡ ordered_effects other
same_effects rest other same taken = join _ _ _ _ (join _ _ _ _ (same_before rest other same) taken) same.operations
