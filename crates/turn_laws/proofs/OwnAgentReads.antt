-- What the end of a read of AGENT_STATE tells at an initiator is what the laws say of it: the state that was read, or an error, and the list that it drops.
use Rattle.std.proofs.Common.{[], ◌&&◌, ◌==◌, Bool, List, None, Option, Some, ap, cond, false, not, refl, sym, true, ℕ, ◌++◌, ◌∙◌, ◌∷◌, ◌≡◌}
use Rattle.orb_layout.specs.Replies.{Answer, Expired, Payload, Refused}
use Rattle.orb_list.specs.Lists.{drop_lists}
use Rattle.sbp_base.specs.Quadlets.{quad}
use Rattle.sbp_initiator.specs.Effects.{Turn, drop_list_step, known_where, state_ended, state_told, with_dead}
use Rattle.sbp_initiator.specs.States.{counts_for}
use Rattle.sbp_initiator.specs.declared.purpose.Ending.{Ending}
use Rattle.sbp_initiator.specs.declared.purpose.Ending.TheVariants as endings
use Rattle.sbp_initiator.specs.declared.state.InitiatorState.{InitiatorState}
use Rattle.sbp_journal.specs.Addresses.{Access}
use Rattle.sbp_journal.specs.Outgoings.{OutboxState}
use Rattle.sbp_journal.specs.declared.note.Note.TheVariants as notes
use Rattle.sbp_journal.specs.declared.operation.OpWord.{OpWord}
use Rattle.sbp_journal.specs.declared.operation.OpWord.TheVariants as words
use Rattle.sbp_journal.specs.declared.operation.Operation.TheVariants as operations
use Rattle.sbp_laws.specs.Hosts.{Host, StateRead, Underway, is_latest, is_present, is_stuck}
use Rattle.sbp_laws.specs.OnceLaw.{is_write_in}
use Rattle.sbp_laws.specs.Operations.{End, drop_note, end_notes, ends_as, gets_stuck, is_failure, is_management_write, operation_answered, or_end, read_ends, reply_notes, request_answered, says_reset, state_word, stuck_note}
use Rattle.turn_laws.proofs.KindNotes.{none_behind}
use Rattle.turn_laws.proofs.OwnAnswers.{IsRead, gives, lapses, refuses}
use Rattle.turn_laws.proofs.OwnEnds.{Says, drop_says, dropped_number, own, says_as, then_says}

-- by the terms it is under way, and says something of this list
pub data IsListed (serial : ℕ) (list : Option ℕ) : List StateRead → Type 0 where
  here : (read : StateRead) (reads : List StateRead) → (read.serial == serial) ≡ true → read.list ≡ list → IsListed serial list (read ∷ reads)
  later : (read : StateRead) (reads : List StateRead) → (read.serial == serial) ≡ false → IsListed serial list reads → IsListed serial list (read ∷ reads)

abbrev state_end : Option ℕ → Answer → Option ℕ → Option End
state_end list answer present = ends_as operations.State (state_word answer) (says_reset answer && is_present list present)

listed_ends : (serial : ℕ) (list : Option ℕ) (reads : List StateRead) (answer : Answer) (present : Option ℕ) → IsListed serial list reads → read_ends reads serial answer present ≡ state_end list answer present
listed_ends serial list _ answer present (here read reads e f) =
    ap (λ b. cond b (state_end read.list answer present) (read_ends reads serial answer present)) e ∙ ap (λ l. state_end l answer present) f
listed_ends serial list _ answer present (later read reads e h) =
    ap (λ b. cond b (state_end read.list answer present) (read_ends reads serial answer present)) e ∙ listed_ends serial list reads answer present h

pub none_answered : (operation : Option Underway) (serial : ℕ) (answer : Answer) (host : Host) → is_latest operation serial ≡ false → operation_answered operation serial answer host ≡ None
none_answered None serial answer host e = refl
none_answered (Some underway) serial answer host e = ap (λ b. cond b (request_answered underway.operation answer host) None) e

module _ (serial : ℕ) (s : InitiatorState) (host : Host) (present : Option ℕ) (access : Option Access) (o : OutboxState) (act : ℕ) (list : Option ℕ) (listed : IsListed serial list host.reads) (other : is_latest host.operation serial ≡ false) (reads_it : is_write_in access ≡ false) (drops : (drop_lists s.lists).0 ≡ present) (counts : counts_for s.lists.slots.present list ≡ is_present list present) where
  abbrev StateDue : Answer → Turn → Type 0
  StateDue answer t = Says o t (reply_notes s.number host present access serial answer)

  notes_are : (answer : Answer) → reply_notes s.number host present access serial answer ≡ drop_note s.number (says_reset answer && is_present list present) present ++ (notes.Op s.number operations.State (state_word answer) ∷ [])
  notes_are answer =
      ap (λ x. end_notes s.number (or_end x (read_ends host.reads serial answer present)) present ++ stuck_note s.number (gets_stuck host access answer)) (none_answered host.operation serial answer host other)
      ∙ ap (λ x. end_notes s.number x present ++ stuck_note s.number (gets_stuck host access answer)) (listed_ends serial list host.reads answer present listed)
      ∙ ap (λ b. end_notes s.number (state_end list answer present) present ++ stuck_note s.number b) (ap (λ b. b && is_failure answer (is_management_write host access) && not (is_stuck host.session)) reads_it)
      ∙ none_behind _

  told_op : (t : Turn) (word : OpWord) → t.1.number ≡ s.number → Says t.0 (state_told act word t.0 t.1) (notes.Op s.number operations.State word ∷ [])
  told_op t word e = ap (λ n. t.0.sides ++ own (notes.Op n operations.State word ∷ [])) e

  known_says : (b c : Bool) (value : ℕ) → (value == 0) ≡ c → Says o (known_where b value o s) (drop_note s.number (c && b) present)
  known_says true true value e = ap (λ x. (cond x (drop_list_step o s) (o, cond (value == 3) (with_dead s) s)).0.sides) e ∙ drop_says present s drops o
  known_says true false value e = ap (λ x. (cond x (drop_list_step o s) (o, cond (value == 3) (with_dead s) s)).0.sides) e ∙ sym (none_behind o.sides)
  known_says false true value e = sym (none_behind o.sides)
  known_says false false value e = sym (none_behind o.sides)

  dead_number : (b : Bool) → (cond b (with_dead s) s).number ≡ s.number
  dead_number true = refl
  dead_number false = refl

  step_number : (b : Bool) (value : ℕ) → (cond b (drop_list_step o s) (o, cond (value == 3) (with_dead s) s)).1.number ≡ s.number
  step_number true value = dropped_number (drop_lists s.lists) o s
  step_number false value = dead_number (value == 3)

  known_number : (b : Bool) (value : ℕ) → (known_where b value o s).1.number ≡ s.number
  known_number true value = step_number (value == 0) value
  known_number false value = refl

  given_due : (value : ℕ) (bytes : List ℕ) → quad bytes 0 ≡ value → StateDue (Payload bytes) (state_ended act list (endings.Complete value) o s)
  given_due value bytes e =
      let b = counts_for s.lists.slots.present list in
      let t = known_where b value o s in
      says_as o (state_ended act list (endings.Complete value) o s) (drop_note s.number ((value == 0) && b) present ++ (notes.Op s.number operations.State (words.State value) ∷ [])) _
      (ap (λ v. drop_note s.number ((v == 0) && b) present ++ (notes.Op s.number operations.State (words.State v) ∷ [])) (sym e)
      ∙ ap (λ c. drop_note s.number ((quad bytes 0 == 0) && c) present ++ (notes.Op s.number operations.State (words.State (quad bytes 0)) ∷ [])) counts
      ∙ sym (notes_are (Payload bytes)))
      (then_says o t (state_told act (words.State value) t.0 t.1) (drop_note s.number ((value == 0) && b) present) (notes.Op s.number operations.State (words.State value) ∷ [])
      (known_says b (value == 0) value refl) (told_op t (words.State value) (known_number b value)))

  pub state_due : (ending : Ending) (answer : Answer) → IsRead ending answer → Says o (state_ended act list ending o s) (reply_notes s.number host present access serial answer)
  state_due _ _ (gives value bytes e) = given_due value bytes e
  state_due _ _ (refuses rcode) = says_as o (state_ended act list (endings.Refused rcode) o s) (notes.Op s.number operations.State words.Error ∷ []) _ (sym (notes_are (Refused rcode))) (told_op (o, s) words.Error refl)
  state_due _ _ lapses = says_as o (state_ended act list endings.Expired o s) (notes.Op s.number operations.State words.Error ∷ []) _ (sym (notes_are Expired)) (told_op (o, s) words.Error refl)
