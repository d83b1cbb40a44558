-- What an initiator tells as the status of its management ORB comes, and as it sees a reset, is what the laws say of its operation, its reads and its list, where the
-- terms are tied to what it has.
use Rattle.std.proofs.Common.{[], ◌==◌, Bool, List, None, Option, Some, ap, cond, false, refl, sym, true, ℕ, ◌++◌, ◌∙◌, ◌∷◌, ◌≡◌, nat_lt}
use Rattle.bus_memory.specs.Memory.{Memory, place_at}
use Rattle.orb_list.specs.Lists.{ListState, drop_lists}
use Rattle.sbp_initiator.specs.Effects.{drop_list_step, drop_where, dropped_as, end_step, good_end, good_event, good_word, managed_step, moved, moves_session, response_of, then_step}
use Rattle.sbp_initiator.specs.Refusals as own_refusals
use Rattle.sbp_initiator.specs.Seeing.{all_end, interrupted, reset_step, reset_told, resets_told, states_end}
use Rattle.sbp_initiator.specs.States.{place_in}
use Rattle.sbp_initiator.specs.declared.purpose.Running.{Running}
use Rattle.sbp_initiator.specs.declared.state.InitiatorState.{InitiatorState}
use Rattle.sbp_session.specs.Moves.{Event, goes}
use Rattle.sbp_session.specs.Moves as moves
use Rattle.sbp_journal.specs.Outgoings.{OutboxState}
use Rattle.sbp_journal.specs.declared.note.Note.{Note}
use Rattle.sbp_journal.specs.declared.note.Note.TheVariants as notes
use Rattle.sbp_journal.specs.declared.operation.OpWord.TheVariants as words
use Rattle.sbp_journal.specs.declared.operation.Operation.{Operation}
use Rattle.sbp_journal.specs.declared.operation.Operation.TheVariants as operations
use Rattle.sbp_journal.specs.declared.side.Side.{Side}
use Rattle.sbp_laws.specs.Hosts.{Host, StateRead, Underway, is_management}
use Rattle.sbp_laws.specs.Operations as law
use Rattle.sbp_laws.specs.Operations.{done_word, drop_note, end_notes, ends_as, reset_op, reset_ops, reset_reads, status_ends}
use Rattle.sbp_world.proofs.Common.{untrue}
use Rattle.turn_laws.proofs.KindNotes.{join_same, none_behind}
use Rattle.turn_laws.proofs.OwnEnds.{Says, drop_says, drop_where_says, own, says_as, then_says, where_number}

-- ---- the status of a management ORB

word_same : (operation : Operation) (response : List ℕ) → good_word operation response ≡ done_word operation response
word_same operations.Query response = refl
word_same operations.Rom response = refl
word_same operations.Login response = refl
word_same operations.Reconnect response = refl
word_same operations.Logout response = refl
word_same operations.Abort response = refl
word_same operations.AbortSet response = refl
word_same operations.UnitReset response = refl
word_same operations.TargetReset response = refl
word_same operations.AgentReset response = refl
word_same operations.State response = refl
word_same operations.Enable response = refl

list_same : (operation : Operation) → is_management operation ≡ true → own_refusals.ends_list (Some operation) ≡ law.ends_list operation
list_same operations.Rom e = untrue e
list_same operations.AgentReset e = untrue e
list_same operations.State e = untrue e
list_same operations.Enable e = untrue e
list_same operations.Login e = refl
list_same operations.Query e = refl
list_same operations.Reconnect e = refl
list_same operations.Logout e = refl
list_same operations.Abort e = refl
list_same operations.AbortSet e = refl
list_same operations.UnitReset e = refl
list_same operations.TargetReset e = refl

moved_number : (operation : Operation) (event : Event) (s : InitiatorState) → (moved operation event s).number ≡ s.number
moved_number operation event s = by (moves_session operation)
  where
    by : (b : Bool) → (cond b (record s { seat = goes event s.seat }) s).number ≡ s.number
    by true = refl
    by false = refl

dropped_memory : (o : OutboxState) (s : InitiatorState) → (drop_list_step o s).1.lists.memory ≡ s.lists.memory
unfolding drop_lists
dropped_memory o s = by (drop_lists s.lists) refl
  where
    by : (r : Option ℕ × ListState) → r.1.memory ≡ s.lists.memory → (dropped_as r o s).1.lists.memory ≡ s.lists.memory
    by (None, lists) e = e
    by (Some n, lists) e = e

module _ (running : Running) (s : InitiatorState) (present : Option ℕ) (o : OutboxState) (drops : (drop_lists s.lists).0 ≡ present) (manages : is_management running.operation ≡ true) where
  abbrev operation : Operation
  operation = running.operation

  where_memory : (b : Bool) → (drop_where b o s).1.lists.memory ≡ s.lists.memory
  where_memory true = dropped_memory o s
  where_memory false = refl

  good_due : (b : Bool) → own_refusals.ends_list (Some operation) ≡ b → Says o (then_step (good_end running) (drop_where b o s)) (end_notes s.number (ends_as operation (done_word operation (response_of running s)) (law.ends_list operation)) present)
  good_due b e =
      let t = drop_where b o s in
      let word = good_word operation (response_of running t.1) in
      let response_is : response_of running t.1 ≡ response_of running s = ap (λ m. response_in m) (where_memory b) in
      says_as o (then_step (good_end running) t) (drop_note s.number b present ++ (notes.Op (moved operation (good_event operation (response_of running t.1)) t.1).number operation word ∷ [])) _
      (ap (λ n. drop_note s.number b present ++ (notes.Op n operation word ∷ [])) (moved_number operation (good_event operation (response_of running t.1)) t.1 ∙ where_number present s drops o b)
      ∙ ap (λ r. drop_note s.number b present ++ (notes.Op s.number operation (good_word operation r) ∷ [])) response_is
      ∙ ap (λ x. drop_note s.number b present ++ (notes.Op s.number operation x ∷ [])) (word_same operation (response_of running s))
      ∙ ap (λ c. drop_note s.number c present ++ (notes.Op s.number operation (done_word operation (response_of running s)) ∷ [])) (sym e ∙ list_same operation manages))
      (then_says o t (good_end running t.0 t.1) (drop_note s.number b present) _ (drop_where_says present s drops o b) refl)
    where
      response_in : Memory → List ℕ
      response_in m = (place_at m (place_in running)).response

  -- a status with 00, and another
  abbrev SaysSo : (status : ℕ) → Bool → Type 0
  SaysSo status b =
      Says o (cond b (then_step (good_end running) (drop_where (own_refusals.ends_list (Some operation)) o s)) (end_step operation (words.Refused status) o (moved operation moves.bad s)))
      (end_notes s.number (cond b (ends_as operation (done_word operation (response_of running s)) (law.ends_list operation)) (ends_as operation (words.Refused status) false)) present)

  pub status_due : (status : ℕ) → Says o (managed_step running status o s) (end_notes s.number (status_ends operation status (response_of running s)) present)
  status_due status = by (status == 0)
    where
      by : (b : Bool) → SaysSo status b
      by true = good_due (own_refusals.ends_list (Some operation)) refl
      by false = ap (λ n. o.sides ++ own (notes.Op n operation (words.Refused status) ∷ [])) (moved_number operation moves.bad s)

-- ---- a reset that is seen

-- for each read of the terms one of the initiator, and both stand behind the operation, or before it
abbrev pub AreInOrder : (first act : ℕ) → List StateRead → List ℕ → Type 0
AreInOrder first act [] [] = Unit {0}
AreInOrder first act (read ∷ reads) (other ∷ acts) = (nat_lt first read.serial ≡ nat_lt act other) × AreInOrder first act reads acts
AreInOrder first act [] (other ∷ acts) = ⊥
AreInOrder first act (read ∷ reads) [] = ⊥

abbrev pub AreAsMany : List StateRead → List ℕ → Type 0
AreAsMany [] [] = Unit {0}
AreAsMany (read ∷ reads) (other ∷ acts) = AreAsMany reads acts
AreAsMany [] (other ∷ acts) = ⊥
AreAsMany (read ∷ reads) [] = ⊥

as_many : (first act : ℕ) (reads : List StateRead) (acts : List ℕ) → AreInOrder first act reads acts → AreAsMany reads acts
as_many first act [] [] e = tt
as_many first act (read ∷ reads) (other ∷ acts) e = as_many first act reads acts e.1
as_many first act [] (other ∷ acts) e = absurd e
as_many first act (read ∷ reads) [] e = absurd e

-- the operations under way are the same
pub data AreReset : Option Underway → Option Running → List StateRead → List ℕ → Type 0 where
  none : (reads : List StateRead) (acts : List ℕ) → AreAsMany reads acts → AreReset None None reads acts
  both : (underway : Underway) (running : Running) (reads : List StateRead) (acts : List ℕ) → underway.operation ≡ running.operation → AreInOrder underway.first running.act reads acts → AreReset (Some underway) (Some running) reads acts

module _ (number : ℕ) where
  one_more : (o : OutboxState) (sides_now : List Side) (note : Note) (more : List Note) → sides_now ≡ (o.sides ++ own (note ∷ [])) ++ own more → sides_now ≡ o.sides ++ own (note ∷ more)
  one_more o sides_now note more e = e ∙ sym (join_same o.sides (own (note ∷ [])) (own more))

  states_say : (reads : List StateRead) (acts : List ℕ) (o : OutboxState) → AreAsMany reads acts → (states_end number acts o).sides ≡ o.sides ++ own (reset_reads number reads)
  states_say [] [] o e = sym (none_behind o.sides)
  states_say (read ∷ reads) (act ∷ acts) o e = one_more o _ (reset_op number operations.State) (reset_reads number reads) (states_say reads acts (reset_told number operations.State o) e)
  states_say [] (act ∷ acts) o e = absurd e
  states_say (read ∷ reads) [] o e = absurd e

  module _ (underway : Underway) (running : Running) (read : StateRead) (reads : List StateRead) (act : ℕ) (acts : List ℕ) (o : OutboxState) (same : underway.operation ≡ running.operation) (many : AreAsMany reads acts) (rest : (all_end number running acts (reset_told number operations.State o)).sides ≡ (o.sides ++ own (reset_op number operations.State ∷ [])) ++ own (reset_ops number (Some underway) reads)) where
    -- the operation first, or the read
    abbrev FirstSays : Bool → Type 0
    FirstSays b = (cond b (states_end number (act ∷ acts) (reset_told number running.operation o)) (all_end number running acts (reset_told number operations.State o))).sides
        ≡ o.sides ++ own (cond b (reset_op number underway.operation ∷ reset_reads number (read ∷ reads)) (reset_op number operations.State ∷ reset_ops number (Some underway) reads))

    first_says : (b : Bool) → FirstSays b
    first_says true =
        one_more o _ (reset_op number running.operation) (reset_reads number (read ∷ reads)) (states_say (read ∷ reads) (act ∷ acts) (reset_told number running.operation o) many)
        ∙ ap (λ x. o.sides ++ own (reset_op number x ∷ reset_reads number (read ∷ reads))) (sym same)
    first_says false = one_more o _ (reset_op number operations.State) (reset_ops number (Some underway) reads) rest

  all_say : (underway : Underway) (running : Running) (reads : List StateRead) (acts : List ℕ) (o : OutboxState) → underway.operation ≡ running.operation → AreInOrder underway.first running.act reads acts → (all_end number running acts o).sides ≡ o.sides ++ own (reset_ops number (Some underway) reads)
  all_say underway running [] [] o same e = ap (λ x. o.sides ++ own (reset_op number x ∷ [])) (sym same)
  all_say underway running (read ∷ reads) (act ∷ acts) o same e =
      ap (λ b. (cond b (states_end number (act ∷ acts) (reset_told number running.operation o)) (all_end number running acts (reset_told number operations.State o))).sides) (sym e.0)
      ∙ first_says underway running read reads act acts o same (as_many underway.first running.act reads acts e.1) (all_say underway running reads acts (reset_told number operations.State o) same e.1) (nat_lt underway.first read.serial)
  all_say underway running [] (act ∷ acts) o same e = absurd e
  all_say underway running (read ∷ reads) [] o same e = absurd e

  pub all_reset : (u : Option Underway) (r : Option Running) (reads : List StateRead) (acts : List ℕ) (o : OutboxState) → AreReset u r reads acts → (resets_told number r acts o).sides ≡ o.sides ++ own (reset_ops number u reads)
  all_reset _ _ _ _ o (none reads acts e) = states_say reads acts o e
  all_reset _ _ _ _ o (both underway running reads acts same e) = all_say underway running reads acts o same e

pub sight_due : (target : ℕ) (o : OutboxState) (s : InitiatorState) (host : Host) (present : Option ℕ) → (drop_lists s.lists).0 ≡ present → AreReset host.operation s.operation host.reads s.states → Says o (reset_step target o s) (reset_ops s.number host.operation host.reads ++ drop_note s.number true present)
sight_due target o s host present drops resets =
    let told_now = resets_told s.number s.operation s.states o in
    then_says o (told_now, s) (drop_list_step told_now (interrupted s target)) (reset_ops s.number host.operation host.reads) (drop_note s.number true present)
    (all_reset s.number host.operation s.operation host.reads s.states o resets) (drop_says present (interrupted s target) drops told_now)
