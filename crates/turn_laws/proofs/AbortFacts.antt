-- A reply that lets the management abort an ORB decides the management ORB that it has: with 00, on the login of its subject, which one place alone has, of the node that sent it, and on the ORB that it names.
use Rattle.std.proofs.Common.{◌≡◌, ◌∙◌, refl, sym, ap, subst, ℕ, ◌*◌, ◌+◌, ◌^◌, ◌%◌, ◌==◌, Bool, true, false, cond, List, Option, Some, None, Result, Ok, Err}
use Rattle.login_table.specs.Sound.{IsTable}
use Rattle.login_table.specs.Table.{Table, place_at}
use Rattle.login_table.specs.declared.login.Login.{Login}
use Rattle.mgmt_agent.specs.Decisions.{decide, reads_eui}
use Rattle.mgmt_agent.specs.Machine.{Machine, beside, decide_step, eui_step, high_eui_at, high_got, low_got, orb_got, reply_in, reply_step, reply_to, response_written, status_written}
use Rattle.mgmt_agent.specs.Statuses.{function_of, number_of}
use Rattle.mgmt_agent.specs.declared.decision.Decision.{Decision}
use Rattle.mgmt_agent.specs.declared.decision.Effect.{Effect}
use Rattle.mgmt_agent.specs.declared.decision.Effect.TheVariants as effects
use Rattle.mgmt_agent.specs.declared.decision.ManagerStep.{ManagerStep}
use Rattle.mgmt_agent.specs.declared.operation.Operation.{Operation}
use Rattle.mgmt_agent.specs.declared.operation.Phase.{Phase}
use Rattle.mgmt_agent.specs.declared.operation.Phase.TheVariants as phases
use Rattle.mgmt_agent.proofs.Doing.{effects_of_decisions}
use Rattle.orb_layout.specs.ManagementOrbs.{management_orb}
use Rattle.orb_layout.specs.Replies.{Answer, payload_of, write_failure}
use Rattle.orb_layout.specs.declared.ask.FailCause.{FailCause}
use Rattle.orb_layout.specs.declared.management.ManagementOrb.{ManagementOrb}
use Rattle.sbp_base.specs.Quadlets.{quad}
use Rattle.sbp_journal.specs.declared.operation.FunctionWord.{FunctionWord}
use Rattle.sbp_journal.specs.declared.operation.FunctionWord.TheVariants as words
use Rattle.sbp_journal.specs.Wire.{Terms}
use Rattle.sbp_laws.specs.Management.{operator, word_by}
use Rattle.sbp_laws.specs.Targets.{Decided, bytes_in, decided_by, decided_in, has_id, initiator_with, node_in}
use Rattle.sbp_world.proofs.Common.{equal, same_number, untrue}
use Rattle.turn_laws.proofs.DeathSteps.{read_bytes}
use Rattle.turn_laws.proofs.DecisionEffects.{Fits, decision_fits, good_by}
use Rattle.mgmt_agent.specs.declared.decision.Outcome.{Outcome}
use Rattle.mgmt_agent.specs.declared.function.Function.{Function}
use Rattle.mgmt_agent.specs.declared.function.Function.TheVariants as functions
use Rattle.mgmt_agent.specs.declared.status.Status.{Status}
use Rattle.mgmt_agent.specs.declared.status.Status.TheVariants as statuses

no_abort : {A : Type 0} (place a : ℕ) → effects.Nothing ≡ effects.Abort place a → A
no_abort place a e = absurd (let no : effects.Nothing ≡ effects.Abort place a = e in cc)

-- a word of an abort, with 00
record IsGood (status : ℕ) (word : FunctionWord) : Type 0 where
  zero_is : (status == 0) ≡ true
  word_is : word ≡ words.Abort

good_word : (status : ℕ) (word : FunctionWord) → good_by status word ≡ words.Abort → IsGood status word
good_word status word e = by (status == 0) refl e
  where
    by : (b : Bool) → (status == 0) ≡ b → cond b word words.Other ≡ words.Abort → IsGood status word
    by true f g = record { zero_is = f; word_is = g }
    by false f g = absurd (let no : words.Other ≡ words.Abort = g in cc)

pub abort_function : (function : Option Function) → word_by function ≡ words.Abort → function ≡ Some functions.Abort
abort_function None e = absurd (let no : words.Other ≡ words.Abort = e in cc)
abort_function (Some functions.Login) e = absurd (let no : words.Login ≡ words.Abort = e in cc)
abort_function (Some functions.Query) e = absurd (let no : words.Query ≡ words.Abort = e in cc)
abort_function (Some functions.Reconnect) e = absurd (let no : words.Reconnect ≡ words.Abort = e in cc)
abort_function (Some functions.Logout) e = absurd (let no : words.Logout ≡ words.Abort = e in cc)
abort_function (Some functions.Abort) e = refl
abort_function (Some functions.AbortSet) e = absurd (let no : words.AbortSet ≡ words.Abort = e in cc)
abort_function (Some functions.UnitReset) e = absurd (let no : words.UnitReset ≡ words.Abort = e in cc)
abort_function (Some functions.TargetReset) e = absurd (let no : words.TargetReset ≡ words.Abort = e in cc)

no_fault : (status : Status) → (number_of status == 0) ≡ true → status ≡ statuses.NoFault
no_fault statuses.NoFault e = refl
no_fault status e = untrue e

module _ (t : Table) (table : IsTable t) (keys : List (List ℕ)) where
  record OrbDone (orb : ManagementOrb) (source : ℕ) (x : Outcome) (place a : ℕ) : Type 0 where
    word_is : word_by (function_of orb.function) ≡ words.Abort
    zero_is : (number_of x.status == 0) ≡ true
    a_is : a ≡ orb.first % 2 ^ 48
    id_is : (q : ℕ) → has_id orb.subject (place_at t.places q) ≡ (place == q)
    node_is : (q : ℕ) → has_id orb.subject (place_at t.places q) ≡ true → node_in (place_at t.places q) ≡ source

  one_place : (id place : ℕ) (login : Login) → place_at t.places place ≡ Some login → login.login ≡ id → (q : ℕ) → has_id id (place_at t.places q) ≡ (place == q)
  one_place id place login there own q = by (place == q) refl
    where
      others : (place == q) ≡ false → (x : Option Login) → place_at t.places q ≡ x → has_id id x ≡ false
      others e None f = refl
      others e (Some other) f = differs (other.login == id) refl
        where
          differs : (b : Bool) → (other.login == id) ≡ b → b ≡ false
          differs false g = refl
          differs true g =
              let same : other.login ≡ login.login = equal other.login id g ∙ sym own in
              let away : q ≡ place → ⊥ = λ h. untrue (sym e ∙ (ap (λ n. place == n) h ∙ same_number place)) in
              absurd ((table.sound.apart q place other login away f there).ids same)

      by : (b : Bool) → (place == q) ≡ b → has_id id (place_at t.places q) ≡ b
      by true e = ap (has_id id) (ap (place_at t.places) (sym (equal place q e)) ∙ there) ∙ (ap (λ n. n == id) own ∙ same_number id)
      by false e = others e (place_at t.places q) refl

  one_node : (source place : ℕ) (login : Login) → place_at t.places place ≡ Some login → login.node ≡ source → (q : ℕ) → (place == q) ≡ true → node_in (place_at t.places q) ≡ source
  one_node source place login there of_node q e = ap node_in (ap (place_at t.places) (sym (equal place q e)) ∙ there) ∙ of_node

  orb_done : (orb : ManagementOrb) (source eui place a : ℕ) → (decide orb source eui t keys).0.effect ≡ effects.Abort place a → OrbDone orb source (decide orb source eui t keys).0 place a
  orb_done orb source eui place a e =
      let x = (decide orb source eui t keys).0 in
      let word = word_by (function_of orb.function) in
      let fits = decision_fits orb source eui t table.sound keys in
      let good = good_word (number_of x.status) word (subst (λ (y : Effect). Fits t.places (good_by (number_of x.status) word) orb.subject y) e fits) in
      let fault = no_fault x.status good.zero_is in
      let does = effects_of_decisions functions.Abort orb source eui t keys table (abort_function (function_of orb.function) good.word_is) fault in
      let same : effects.Abort place a ≡ effects.Abort does.place (orb.first % 2 ^ 48) = sym e ∙ does.does in
      let at : does.place ≡ place = cc in
      let ids = one_place orb.subject does.place does.stands.login does.stands.stands does.stands.own in
      record {
        word_is = good.word_is;
        zero_is = good.zero_is;
        a_is = cc;
        id_is = λ q. subst (λ n. has_id orb.subject (place_at t.places q) ≡ (n == q)) at (ids q);
        node_is = λ q h. one_node source does.place does.stands.login does.stands.stands does.stands.of_node q (sym (ids q) ∙ h);
      }

  -- ---- a reply
  pub record Done (operation : Option Operation) (answer : Answer) (step : ManagerStep) (place a : ℕ) : Type 0 where
    pub decided : Decided
    pub decision : Decision
    pub brought : decided_by operation answer ≡ Some decided
    pub told : step.decided ≡ Some decision
    pub function_is : decision.function ≡ decided.orb.function
    pub word_is : word_by (function_of decision.function) ≡ words.Abort
    pub zero_is : (decision.status == 0) ≡ true
    pub a_is : a ≡ decided.orb.first % 2 ^ 48
    pub id_is : (q : ℕ) → has_id decided.orb.subject (place_at t.places q) ≡ (place == q)
    pub owner : (q : ℕ) → has_id decided.orb.subject (place_at t.places q) ≡ true → (wire : Terms) → initiator_with wire (node_in (place_at t.places q)) ≡ operator wire operation

  module _ (m : Machine) (own : Operation) (answer : Answer) (place a : ℕ) where
    abbrev Is : ManagerStep → Type 0
    Is step = step.effect ≡ effects.Abort place a → Done (Some own) answer step place a

    decides : (orb : ManagementOrb) (eui : ℕ) (decided : Decided) → decided_by (Some own) answer ≡ Some decided → decided.orb ≡ orb → Is (decide_step m own orb eui t keys).0
    unfolding decide_step
    decides orb eui decided e f h =
        let d = orb_done orb own.source eui place a h in
        record {
          decided = decided;
          decision = record { function = orb.function; subject = orb.subject; status = number_of (decide orb own.source eui t keys).0.status; login = (decide orb own.source eui t keys).0.login };
          brought = e;
          told = refl;
          function_is = ap (λ (x : ManagementOrb). x.function) (sym f);
          word_is = d.word_is;
          zero_is = d.zero_is;
          a_is = d.a_is ∙ ap (λ (x : ManagementOrb). x.first % 2 ^ 48) (sym f);
          id_is = λ q. ap (λ (x : ManagementOrb). has_id x.subject (place_at t.places q)) f ∙ d.id_is q;
          owner = λ q g wire. ap (initiator_with wire) (d.node_is q (sym (ap (λ (x : ManagementOrb). has_id x.subject (place_at t.places q)) f) ∙ g));
        }

    orb_is : (r : Result (List ℕ) FailCause) → payload_of answer 32 ≡ r → own.phase ≡ phases.Orb → Is (orb_got r m own t keys).0
    orb_is (Err cause) e f h = no_abort place a h
    orb_is (Ok bytes) e f h = by (reads_eui (management_orb bytes)) h
      where
        brought_is : decided_by (Some own) answer ≡ Some (record { orb = management_orb (bytes_in answer); source = own.source; eui = 0 })
        brought_is = ap (λ p. decided_in p own.source answer) f

        by : (b : Bool) → Is (cond b (beside t (eui_step m own (phases.HighEui (management_orb bytes)) high_eui_at)) (decide_step m own (management_orb bytes) 0 t keys)).0
        by true k = no_abort place a k
        by false k = decides (management_orb bytes) 0 _ brought_is (ap (λ (x : Answer). management_orb (bytes_in x)) (read_bytes answer 32 bytes e).0) k

    low_is : (r : Result (List ℕ) FailCause) (orb : ManagementOrb) (high : ℕ) → own.phase ≡ phases.LowEui orb high → Is (low_got r m own orb high t keys).0
    low_is (Err cause) orb high f h = no_abort place a h
    low_is (Ok bytes) orb high f h = decides orb (high * 2 ^ 32 + quad bytes 0) _ (ap (λ p. decided_in p own.source answer) f) refl h

    high_is : (r : Result (List ℕ) FailCause) (orb : ManagementOrb) → Is (high_got r m own orb).0
    high_is (Err cause) orb h = no_abort place a h
    high_is (Ok bytes) orb h = no_abort place a h

    response_is : (failure : Option FailCause) (fifo : ℕ) → Is (response_written failure m own fifo).0
    response_is None fifo h = no_abort place a h
    response_is (Some cause) fifo h = no_abort place a h

    status_is : (failure : Option FailCause) → Is (status_written failure m).0
    status_is None h = no_abort place a h
    status_is (Some cause) h = no_abort place a h

    phase_is : (phase : Phase) → own.phase ≡ phase → Is (reply_in phase m own t keys answer).0
    phase_is phases.Orb f = orb_is (payload_of answer 32) refl f
    phase_is (phases.HighEui orb) f = high_is (payload_of answer 4) orb
    phase_is (phases.LowEui orb high) f = low_is (payload_of answer 4) orb high f
    phase_is (phases.Response fifo) f = response_is (write_failure answer) fifo
    phase_is phases.Status f = status_is (write_failure answer)

  operation_is : (operation : Option Operation) (m : Machine) (answer : Answer) (place a : ℕ) → (reply_to operation m t keys answer).0.effect ≡ effects.Abort place a
      → Done operation answer (reply_to operation m t keys answer).0 place a
  operation_is None m answer place a h = no_abort place a h
  operation_is (Some own) m answer place a h = phase_is m own answer place a own.phase refl h

  pub reply_is : (m : Machine) (answer : Answer) (place a : ℕ) → (reply_step m t keys answer).0.effect ≡ effects.Abort place a → Done m.operation answer (reply_step m t keys answer).0 place a
  unfolding reply_step
  reply_is m answer place a h = operation_is m.operation m answer place a h
