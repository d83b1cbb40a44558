-- What the decision of a turn does by the terms is what its note says: the lists that are cut, the units that are cleared, and the login that comes back or leaves.
use Rattle.std.proofs.Common.{arith, ◌≡◌, ◌≢◌, ◌∙◌, refl, sym, ap, subst, ℕ, ◌+◌, nat_eq, not, Bool, true, false, cond, List, [], ◌∷◌, ◌++◌, Option, Some, None, Result, Ok, Err}
use Rattle.std.specs.Prelude.{position, unwrap_or}
use Rattle.std.proofs.lemmas.Bool.Decides.{nat_tests}
use Rattle.std.proofs.lemmas.List.Quantifiers.{position-Some}
use Rattle.login_table.specs.Sound.{IsSound}
use Rattle.login_table.specs.declared.login.Login.{Login}
use Rattle.login_table.specs.Table.{id_of, place_at}
use Rattle.login_table.proofs.Searching.{position_none, within}
use Rattle.mgmt_agent.specs.Machine.{Machine, reply_step, start_step}
use Rattle.mgmt_agent.specs.Statuses.{function_of}
use Rattle.mgmt_agent.specs.declared.decision.Decision.{Decision}
use Rattle.mgmt_agent.specs.declared.decision.Effect.{Effect}
use Rattle.mgmt_agent.specs.declared.decision.Effect.TheVariants as effects
use Rattle.mgmt_agent.specs.declared.decision.ManagerStep.{ManagerStep}
use Rattle.mgmt_agent.specs.declared.operation.Busy.{Busy}
use Rattle.orb_layout.specs.declared.ask.Ask.{Ask}
use Rattle.rbc_disk.specs.Disk.{Disk}
use Rattle.sbp_journal.specs.Addresses.{agent_reset}
use Rattle.sbp_journal.specs.Run.{Moment, said}
use Rattle.sbp_journal.specs.Wire.{Terms}
use Rattle.sbp_journal.specs.declared.cause.CutCause.{CutCause}
use Rattle.sbp_journal.specs.declared.cause.CutCause.TheVariants as cuts
use Rattle.sbp_journal.specs.declared.note.Note.{Note}
use Rattle.sbp_journal.specs.declared.note.Note.TheVariants as notes
use Rattle.sbp_journal.specs.declared.operation.FunctionWord.{FunctionWord}
use Rattle.sbp_journal.specs.declared.operation.FunctionWord.TheVariants as words
use Rattle.sbp_laws.specs.Agents.{Event, agent_event, list_taken, target_before, wire_before, writes}
use Rattle.sbp_laws.specs.Decided.{Cutting, DecisionStands, cleared_by_word, cut_by_word, cut_by_write, cutting_at, cuttings_from, cuttings_in, decision_in, good_word, is_login_word, moved_by_word, moves_by_word, place_with, subject_in}
use Rattle.sbp_laws.specs.Decided as decided
use Rattle.sbp_laws.specs.LoginLaw.{is_decision_note}
use Rattle.sbp_laws.specs.Management.{Call, answers, back_note, call_by, cleared_by, cut_note, cuts_by_effect, cuts_by_event, cuts_from, cuts_where, decided_in, decided_note, effect_in, effect_of, is_open, left_note, logins_due, manager_turn, moved_logins, no_call, operator_for, sees_reset, started, starts, word_by}
use Rattle.sbp_laws.specs.NoteKinds.{is_cut_note, of_kind}
use Rattle.sbp_laws.specs.Targets.{Agent, Target, agent_at, has_id, initiator_at, on_unit, unit_in, unit_of}
use Rattle.sbp_laws.specs.Turns.{Turn}
use Rattle.turn_laws.specs.Cleared.{ClearsWhereDue}
use Rattle.turn_laws.specs.Cuts.{CutsWhereDue}
use Rattle.turn_laws.specs.Decisions.{DecidesWhereDue}
use Rattle.turn_laws.specs.Logins.{LoginsWhereDue}
use Rattle.turn_laws.proofs.DecisionEffects.{Fits, FitsBy, IsAt, IsIdle, OnUnit, good_by, reply_fits}
use Rattle.turn_laws.proofs.Subjects.{NamedStep, Names, reply_named}
use Rattle.sbp_world.proofs.Common.{itself}

-- ---- the login with an ID stands in one place
pub record Standing (places : List (Option Login)) (place id : ℕ) : Type 0 where
  pub login : Login
  pub stands : place_at places place ≡ Some login
  pub id_is : login.login ≡ id

module _ (places : List (Option Login)) (sound : IsSound places) (id : ℕ) where
  standing_as : (place : ℕ) (x : Option Login) → place_at places place ≡ x → id_of x ≡ Some id → Standing places place id
  standing_as place None e f = absurd (let no : None ≡ Some id = f in cc)
  standing_as place (Some login) e f = record { login = login; stands = e; id_is = (let z : Some login.login ≡ Some id = f in cc) }

  found_as : (place : ℕ) (x : Option Login) → place_at places place ≡ x → has_id id x ≡ true → Standing places place id
  found_as place None e f = absurd (let no : false ≡ true = f in cc)
  found_as place (Some login) e f = record { login = login; stands = e; id_is = (let z : nat_eq login.login id ≡ true = f in grind (arith, nat_tests)) }

  same_place : (a b : ℕ) → Standing places a id → Standing places b id → a ≡ b
  same_place a b x y = by (nat_eq a b) refl
    where
      by : (c : Bool) → nat_eq a b ≡ c → a ≡ b
      by true e = grind (arith, nat_tests)
      by false e =
          let other : a ≢ b = λ f. absurd (let no : true ≡ false = sym (itself a) ∙ ap (nat_eq a) f ∙ e in cc) in
          absurd ((sound.apart a b x.login y.login other x.stands y.stands).ids (x.id_is ∙ sym y.id_is))

  has_it : (place : ℕ) → Standing places place id → has_id id (place_at places place) ≡ true
  has_it place x = ap (has_id id) x.stands ∙ (let e = x.id_is in let z : nat_eq x.login.login id ≡ true = grind (arith, nat_tests) in z)

  first_place : (place : ℕ) → Standing places place id → (k : Option ℕ) → position (has_id id) places ≡ k → k ≡ Some place
  first_place place x None e =
      let none = position_none (has_id id) places place None e (within places place x.login x.stands) in absurd (let no : true ≡ false = sym (has_it place x) ∙ none in cc)
  first_place place x (Some k) e =
      let p = position-Some (has_id id) places k None e in ap Some (same_place k place (found_as k (place_at places k) refl p.1) x)

module _ (T : Target) (sound : IsSound T.table.places) where
  abbrev places : List (Option Login)
  places = T.table.places

  stands_there : (place id : ℕ) → Standing places place id → place_with T id ≡ place
  stands_there place id x = ap (λ k. unwrap_or k 8) (first_place places sound id place x (position (has_id id) places) refl)

  pub place_is : (place id : ℕ) → IsAt places place id → place_with T id ≡ place
  place_is place id e = stands_there place id (standing_as places sound id place (place_at places place) refl e)

  unit_is : (unit id : ℕ) → OnUnit places unit id → unit_of T (place_with T id) ≡ unit
  unit_is unit id o =
      ap (λ place. unit_in (place_at places place)) (stands_there o.place id (record { login = o.login; stands = o.stands; id_is = o.id_is })) ∙ ap unit_in o.stands ∙ o.unit_is

  -- ---- cuts
  module _ (start : List Disk) (past : List Moment) (wire : Terms) where
    abbrev noted : CutCause → ℕ → List Note
    noted cause place = cut_note start past wire T cause place

    cutting_noted : (cause : CutCause) (place : ℕ) → cuttings_in (noted cause place) ≡ cutting_at wire T cause place
    cutting_noted cause place = by (is_open (agent_at T place))
      where
        by : (b : Bool) → cuttings_in (cond b (notes.Cut (initiator_at T wire place) (list_taken start past place) cause ∷ []) []) ≡ cond b (record { initiator = initiator_at T wire place; cause = cause } ∷ []) []
        by true = refl
        by false = refl

    both_cuttings : (a b : List Note) → cuttings_in (a ++ b) ≡ cuttings_in a ++ cuttings_in b
    both_cuttings [] b = refl
    both_cuttings (notes.Cut i list cause ∷ a) b = ap (λ xs. record { initiator = i; cause = cause } ∷ xs) (both_cuttings a b)
    both_cuttings (note ∷ a) b = both_cuttings a b

    one_cutting : (cause : CutCause) (place : ℕ) (b : Bool) → cuttings_in (cond b (noted cause place) []) ≡ cond b (cutting_at wire T cause place) []
    one_cutting cause place true = cutting_noted cause place
    one_cutting cause place false = refl

    from_cuttings : (cause : CutCause) (test : ℕ → Bool) (place : ℕ) (agents : List Agent) → cuttings_in (cuts_from place agents (noted cause) test) ≡ cuttings_from wire T cause place agents test
    from_cuttings cause test place [] = refl
    from_cuttings cause test place (a ∷ agents) =
        both_cuttings (cond (test place) (noted cause place) []) (cuts_from (place + 1) agents (noted cause) test)
        ∙ ap (λ xs. xs ++ cuttings_in (cuts_from (place + 1) agents (noted cause) test)) (one_cutting cause place (test place))
        ∙ ap (λ xs. cond (test place) (cutting_at wire T cause place) [] ++ xs) (from_cuttings cause test (place + 1) agents)

    write_cuttings : (event : Event) → cuttings_in (cuts_by_event start event past wire T) ≡ cut_by_write wire T event
    write_cuttings (writes agent_reset place access) = cutting_noted cuts.AgentReset place
    write_cuttings event = refl

    module _ (subject : ℕ) where
      abbrev ByWord : FunctionWord → List Cutting
      ByWord word = cut_by_word wire T word subject

      idle_cuts : (word : FunctionWord) → IsIdle word → [] ≡ ByWord word
      idle_cuts words.Query h = refl
      idle_cuts words.Other h = refl
      idle_cuts word h = absurd h

      effect_cuttings : (word : FunctionWord) (effect : Effect) → Fits places word subject effect → Names places subject effect → cuttings_in (cuts_by_effect start past wire T effect) ≡ ByWord word
      effect_cuttings word effects.Nothing f n = idle_cuts word f
      effect_cuttings word (effects.Entered place replaced) f n = sym (ap ByWord f)
      effect_cuttings word (effects.Back place) f n = sym (ap ByWord f)
      effect_cuttings word (effects.Left place) f n = cutting_noted cuts.Logout place ∙ ap (cutting_at wire T cuts.Logout) (sym (place_is place subject n)) ∙ sym (ap ByWord f)
      effect_cuttings word (effects.Abort place orb) f n = sym (ap ByWord f)
      effect_cuttings word (effects.AbortSet place) f n = cutting_noted cuts.AbortSet place ∙ ap (cutting_at wire T cuts.AbortSet) (sym (place_is place subject f.1)) ∙ sym (ap ByWord f.0)
      effect_cuttings word (effects.UnitReset unit) f n =
          from_cuttings cuts.UnitReset (on_unit unit places) 0 T.agents
          ∙ ap (λ u. cuttings_from wire T cuts.UnitReset 0 T.agents (on_unit u places)) (sym (unit_is unit subject f.1)) ∙ sym (ap ByWord f.0)
      effect_cuttings word effects.TargetReset f n = from_cuttings cuts.TargetReset (λ place. true) 0 T.agents ∙ sym (ap ByWord f)

    -- ---- units
    module _ (subject : ℕ) where
      abbrev ClearedBy : FunctionWord → List Note
      ClearedBy word = cleared_by_word T word subject

      idle_clears : (word : FunctionWord) → IsIdle word → [] ≡ ClearedBy word
      idle_clears words.Query h = refl
      idle_clears words.Other h = refl
      idle_clears word h = absurd h

      effect_clears : (word : FunctionWord) (effect : Effect) → Fits places word subject effect → cleared_by T effect ≡ ClearedBy word
      effect_clears word effects.Nothing f = idle_clears word f
      effect_clears word (effects.Entered place replaced) f = sym (ap ClearedBy f)
      effect_clears word (effects.Back place) f = sym (ap ClearedBy f)
      effect_clears word (effects.Left place) f = sym (ap ClearedBy f)
      effect_clears word (effects.Abort place orb) f = sym (ap ClearedBy f)
      effect_clears word (effects.AbortSet place) f = sym (ap ClearedBy f.0)
      effect_clears word (effects.UnitReset unit) f = ap (λ u. notes.Cleared u ∷ []) (sym (unit_is unit subject f.1)) ∙ sym (ap ClearedBy f.0)
      effect_clears word effects.TargetReset f = sym (ap ClearedBy f)

    -- ---- logins
    module _ (subject : ℕ) where
      abbrev MovedBy : FunctionWord → List Note
      MovedBy word = moved_by_word word subject

      idle_moves : (word : FunctionWord) → IsIdle word → [] ≡ MovedBy word
      idle_moves words.Query h = refl
      idle_moves words.Other h = refl
      idle_moves word h = absurd h

      effect_moves : (word : FunctionWord) (effect : Effect) → Fits places word subject effect → Names places subject effect → is_login_word word ≡ false → moved_logins T effect ≡ MovedBy word
      effect_moves word effects.Nothing f n e = idle_moves word f
      effect_moves word (effects.Entered place replaced) f n e = absurd (let no : true ≡ false = sym (ap is_login_word f) ∙ e in cc)
      effect_moves word (effects.Back place) f n e = ap back_note n ∙ sym (ap MovedBy f)
      effect_moves word (effects.Left place) f n e = ap left_note n ∙ sym (ap MovedBy f)
      effect_moves word (effects.Abort place orb) f n e = sym (ap MovedBy f)
      effect_moves word (effects.AbortSet place) f n e = sym (ap MovedBy f.0)
      effect_moves word (effects.UnitReset unit) f n e = sym (ap MovedBy f.0)
      effect_moves word effects.TargetReset f n e = sym (ap MovedBy f)

    -- ---- by the step of the operation
    abbrev NamesBy : Option Decision → Effect → Type 0
    NamesBy None effect = Unit {0}
    NamesBy (Some d) effect = Names places d.subject effect

    names_by : (step : ManagerStep) → NamedStep T.table step → NamesBy step.decided step.effect
    names_by step h = by step.decided refl
      where
        by : (d : Option Decision) → step.decided ≡ d → NamesBy d step.effect
        by None e = tt
        by (Some d) e = h d e

    abbrev StepFits : Option (ManagerStep × Machine) → Type 0
    StepFits None = Unit {0}
    StepFits (Some s) = FitsBy places s.0.decided s.0.effect × NamesBy s.0.decided s.0.effect

    started_fits : (r : Result Ask Busy × Machine) → StepFits (started r)
    started_fits (Err busy, machine) = tt
    started_fits (Ok ask, machine) = (refl, tt)

    call_fits : (call : Call) → StepFits (manager_turn call T)
    call_fits (answers answer) = (reply_fits T.manager T.table sound T.keys answer, names_by (reply_step T.manager T.table T.keys answer).0 (reply_named T.manager T.table T.keys answer))
    call_fits (starts source orb) = started_fits (start_step T.manager source orb)
    call_fits no_call = tt

    abbrev MovesSo : Option decided.Decision → List Note → Type 0
    MovesSo D told = cond (moves_by_word D) told [] ≡ cond (moves_by_word D) (moved_by_word (good_word D) (subject_in D)) []

    moves_if : (word : FunctionWord) (told moved : List Note) → (is_login_word word ≡ false → told ≡ moved) → (b : Bool) → is_login_word word ≡ b → cond (not (is_login_word word)) told [] ≡ cond (not (is_login_word word)) moved []
    moves_if word told moved h true e = ap (λ b. cond (not b) told []) e ∙ sym (ap (λ b. cond (not b) moved []) e)
    moves_if word told moved h false e = ap (λ b. cond (not b) told []) e ∙ h e ∙ sym (ap (λ b. cond (not b) moved []) e)

    -- what is cut, cleared and moved with an effect is what the decision says
    pub record Stands (D : Option decided.Decision) (effect : Effect) : Type 0 where
      pub cut : cuttings_in (cuts_by_effect start past wire T effect) ≡ cut_by_word wire T (good_word D) (subject_in D)
      pub cleared : cleared_by T effect ≡ cleared_by_word T (good_word D) (subject_in D)
      pub moved : MovesSo D (moved_logins T effect)

    decision_stands : (i : ℕ) (d : Option Decision) (effect : Effect) → FitsBy places d effect → NamesBy d effect → Stands (decision_in (decided_note i d)) effect
    decision_stands i None effect f n = subst (Stands None) (sym f) (record { cut = refl; cleared = refl; moved = refl })
    decision_stands i (Some d) effect f n =
        let word = good_by d.status (word_by (function_of d.function)) in
        record {
          cut = effect_cuttings d.subject word effect f n;
          cleared = effect_clears d.subject word effect f;
          moved = moves_if word (moved_logins T effect) (moved_by_word word d.subject) (effect_moves d.subject word effect f n) (is_login_word word) refl;
        }

    step_stands : (i : ℕ) (s : Option (ManagerStep × Machine)) → StepFits s → Stands (decision_in (decided_in i s)) (effect_in s)
    step_stands i None h = record { cut = refl; cleared = refl; moved = refl }
    step_stands i (Some s) h = decision_stands i s.0.decided s.0.effect h.0 h.1

    abbrev Turned : Moment → Option (ManagerStep × Machine)
    Turned moment = manager_turn (call_by moment T wire) T

    abbrev Told : Moment → Option decided.Decision
    Told moment = decision_in (decided_in (operator_for (call_by moment T wire) wire T) (Turned moment))

    moment_stands : (moment : Moment) → Stands (Told moment) (effect_in (Turned moment))
    moment_stands moment = step_stands (operator_for (call_by moment T wire) wire T) (Turned moment) (call_fits (call_by moment T wire))

    moment_moves : (moment : Moment) → MovesSo (Told moment) (logins_due moment wire T (effect_in (Turned moment)))
    moment_moves (said (notes.Seen node generation)) = refl
    moment_moves (said notes.Tick) = refl
    moment_moves moment = (moment_stands moment).moved

-- ---- the notes of a turn
pub noted_decision : (rest : List Note) → decision_in rest ≡ decision_in (of_kind is_decision_note rest)
noted_decision [] = refl
noted_decision (notes.Managed i word subject status login ∷ rest) = refl
noted_decision (note ∷ rest) = noted_decision rest

noted_cuttings : (rest : List Note) → cuttings_in rest ≡ cuttings_in (of_kind is_cut_note rest)
noted_cuttings [] = refl
noted_cuttings (notes.Cut i list cause ∷ rest) = ap (λ xs. record { initiator = i; cause = cause } ∷ xs) (noted_cuttings rest)
noted_cuttings (note ∷ rest) = noted_cuttings rest

module _ (start : List Disk) (t : Turn) (sound : IsSound (target_before start t).table.places) where
  abbrev before : Target
  before = target_before start t

  abbrev at : Terms
  at = wire_before t

  abbrev D : Option decided.Decision
  D = decision_in t.rest

  -- what is cut with the decision, by the terms and by its note
  abbrev by_effect : List Note
  by_effect = cuts_by_effect start t.past at before (effect_of before t)

  abbrev by_note : List Cutting
  by_note = cut_by_word at before (good_word D) (subject_in D)

  -- where the target sees a reset, or does not
  abbrev cuts_if : Bool → List Note
  cuts_if b = cond b (cuts_where start t.past at before cuts.Reset (λ place. true)) (cuts_by_event start (agent_event start t) t.past at before ++ by_effect)

  abbrev cuttings_if : Bool → List Cutting
  cuttings_if b = cond b (cuttings_from at before cuts.Reset 0 before.agents (λ place. true)) (cut_by_write at before (agent_event start t) ++ by_note)

  due_cuttings : (b : Bool) → by_note ≡ cuttings_in by_effect → cuttings_in (cuts_if b) ≡ cuttings_if b
  due_cuttings true e = from_cuttings before sound start t.past at cuts.Reset (λ place. true) 0 before.agents
  due_cuttings false e =
      both_cuttings before sound start t.past at (cuts_by_event start (agent_event start t) t.past at before) by_effect
      ∙ ap (λ xs. xs ++ cuttings_in by_effect) (write_cuttings before sound start t.past at (agent_event start t))
      ∙ ap (λ xs. cut_by_write at before (agent_event start t) ++ xs) (sym e)

  pub stands_as_told : CutsWhereDue start t → ClearsWhereDue start t → DecidesWhereDue start t → LoginsWhereDue start t → DecisionStands start t
  stands_as_told c k d l =
      let e = noted_decision t.rest ∙ ap decision_in d in
      let h = subst (λ x. Stands before sound start t.past at x (effect_of before t)) (sym e) (moment_stands before sound start t.past at t.start) in
      record {
        cut = noted_cuttings t.rest ∙ ap cuttings_in c ∙ due_cuttings (sees_reset t.start at) (sym h.cut);
        cleared = k ∙ h.cleared;
        moved = ap (λ told. cond (moves_by_word D) told []) l
            ∙ subst (λ x. MovesSo before sound start t.past at x (logins_due t.start at before (effect_of before t))) (sym e) (moment_moves before sound start t.past at t.start);
      }
