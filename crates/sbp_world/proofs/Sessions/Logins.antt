-- What a reply to the management operation leaves of the live logins of other nodes than its source.
use Rattle.sbp_world.proofs.Words.Std.{arith, ◌≡◌, ◌≢◌, ◌∙◌, refl, sym, ap, ℕ, ◌+◌, ◌*◌, ◌^◌, ◌<◌, ◌==◌, ◌&&◌, not, nat_eq, Bool, true, false, cond, List, length, set, Option, Some, None, Result, Ok, Err, is_none, position, nat_tests, get_or-set_at, get_or-set_other, position-Some, false≢true, quad}
use Rattle.sbp_world.proofs.Words.Target.{Entered, Login, LoginRefusal, LoginRequest, Table, back_step, enter_step, entered, find, id_at, is_held, is_live, is_live_of, is_old, leave_step, left_for, place_at, revived, ManagerStep, Operation, Function, asked_by, decide, decide_function, key_at, lacks_key, login_decided, reads_eui, unit_exists, with_status, beside, decide_step, decided_as, eui_step, high_eui_at, high_got, low_got, orb_got, reply_in, reply_to, response_written, source_in, status_written, function_of}
use Rattle.sbp_world.proofs.Words.Initiator.{FailCause, ManagementOrb, management_orb, Answer, payload_of, write_failure}
use Rattle.sbp_world.proofs.Words.World.{AreSame}
use Rattle.login_table.specs.declared.login.LoginRefusal.TheVariants as refusals
use Rattle.login_table.specs.Table as table
use Rattle.login_table.proofs.Searching.{found}
use Rattle.mgmt_agent.specs.declared.decision.Outcome.{Outcome}
use Rattle.mgmt_agent.specs.declared.operation.Phase.{Phase}
use Rattle.mgmt_agent.specs.declared.operation.Phase.TheVariants as phases
use Rattle.mgmt_agent.specs.declared.function.Function.TheVariants as functions
use Rattle.mgmt_agent.specs.declared.status.Status.TheVariants as statuses
use Rattle.mgmt_agent.specs.Machine.{Machine, reply_step}
use Rattle.sbp_world.proofs.Agents.Hiring.{not_old}
use Rattle.sbp_world.proofs.Common.{none_is}
use Rattle.sbp_world.proofs.Sessions.Decisions.{of_node}

not_held : (id : ℕ) (login : Login) → is_held id login ≡ true → is_live login ≡ false
not_held id login e = by (is_live login) (login.login == id) e
  where
    by : (a b : Bool) → (not a && b) ≡ true → a ≡ false
    by true b e = absurd (false≢true e)
    by false b e = refl

module _ (id : ℕ) where
  pub same : (places : List (Option Login)) → AreSame id places places
  same places = record { keeps = λ place login e l n. e; brings = λ place login e l n. e }

  then_same : (a b c : List (Option Login)) → AreSame id a b → AreSame id b c → AreSame id a c
  then_same a b c p q = record { keeps = λ place login e l n. q.keeps place login (p.keeps place login e l n) l n; brings = λ place login e l n. p.brings place login (q.brings place login e l n) l n }

  -- it is no live login of this node
  abbrev Foreign : Option Login → Type 0
  Foreign x = (login : Login) → x ≡ Some login → is_live login ≡ true → login.node ≡ id → ⊥

  set_same : (places : List (Option Login)) (k : ℕ) (x : Option Login) → k < length places → Foreign (place_at places k) → Foreign x → AreSame id places (set places k x)
  set_same places k x l was now = record { keeps = λ p login e live n. keeps_by p login e live n (nat_eq p k) refl; brings = λ p login e live n. brings_by p login e live n (nat_eq p k) refl }
    where
      apart : (p : ℕ) → nat_eq p k ≡ false → p ≢ k
      apart p q same = let yes : nat_eq p k ≡ true = grind (arith, nat_tests) in false≢true (sym q ∙ yes)

      keeps_by : (p : ℕ) (login : Login) → place_at places p ≡ Some login → is_live login ≡ true → login.node ≡ id → (b : Bool) → nat_eq p k ≡ b → place_at (set places k x) p ≡ Some login
      keeps_by p login e live n true q = let same : p ≡ k = grind (arith, nat_tests) in absurd (was login (sym (ap (place_at places) same) ∙ e) live n)
      keeps_by p login e live n false q = get_or-set_other places k p x None (apart p q) ∙ e

      brings_by : (p : ℕ) (login : Login) → place_at (set places k x) p ≡ Some login → is_live login ≡ true → login.node ≡ id → (b : Bool) → nat_eq p k ≡ b → place_at places p ≡ Some login
      brings_by p login e live n true q = let same : p ≡ k = grind (arith, nat_tests) in absurd (now login (sym (get_or-set_at places k p x None same l) ∙ e) live n)
      brings_by p login e live n false q = sym (get_or-set_other places k p x None (apart p q)) ∙ e

  not_live : (x : Option Login) (own : Login) → x ≡ Some own → is_live own ≡ false → Foreign x
  not_live x own e old login f live n =
      let same : Some own ≡ Some login = sym e ∙ f in
      let own_is : own ≡ login = cc in
      false≢true (sym (sym (ap is_live own_is) ∙ old) ∙ live)

  none_foreign : Foreign None
  none_foreign login e live n = none_is login e

  -- ---- the calls of the table
  without_same : (k : Option ℕ) (asked : LoginRequest) (places : List (Option Login)) → find (is_old asked) places ≡ k → AreSame id places (table.without k places)
  without_same None asked places e = same places
  without_same (Some k) asked places e =
      let f = found (is_old asked) places k e in
      set_same places k None f.below (not_live (place_at places k) f.login f.stands (not_old asked f.login f.passes)) none_foreign

  module _ (orb : ManagementOrb) (source eui : ℕ) (apart : source ≡ id → ⊥) (t : Table) (keys : List (List ℕ)) where
    abbrev Now : Outcome × Table → Type 0
    Now r = AreSame id t.places r.1.places

    pick : (b : Bool) (x y : Outcome × Table) → Now x → Now y → Now (cond b x y)
    pick true x y h g = h
    pick false x y h g = g

    abbrev AsLogin : Result Entered LoginRefusal × Table → Type 0
    AsLogin r = AreSame id t.places r.1.places

    pick_login : (b : Bool) (x y : Result Entered LoginRefusal × Table) → AsLogin x → AsLogin y → AsLogin (cond b x y)
    pick_login true x y h g = h
    pick_login false x y h g = g

    of_source : (x : Option Login) (own : Login) → x ≡ Some own → own.node ≡ source → Foreign x
    of_source x own e node login f live n =
        let both : Some own ≡ Some login = sym e ∙ f in
        let own_is : own ≡ login = cc in
        apart (sym node ∙ ap (λ (l : Login). l.node) own_is ∙ n)

    empty : (x : Option Login) → is_none x ≡ true → Foreign x
    empty None e = none_foreign
    empty (Some own) e = absurd (false≢true e)

    enters : (place : Option ℕ) (k : Option ℕ) → (let asked = asked_by orb source eui in find (is_old asked) t.places ≡ k → position is_none (table.without k t.places) ≡ place → AsLogin (table.enter_at place t (table.without k t.places) (id_at k t.places) asked))
    enters None k e f = same t.places
    enters (Some place) k e f =
        let asked = asked_by orb source eui in
        let left = table.without k t.places in
        let at = position-Some is_none left place None f in
        let own = entered asked place (table.fresh_id 8 (table.next_id t.last) left) in
        then_same t.places left (set left place (Some own)) (without_same k asked t.places e) (set_same left place (Some own) at.0 (empty (place_at left place) at.1) (of_source (Some own) own refl refl))

    logs_in : Now (decide_function (Some functions.Login) orb source eui t keys)
    unfolding enter_step left_for
    logs_in =
        let asked = asked_by orb source eui in
        let k = find (is_old asked) t.places in
        let left = table.without k t.places in
        let r = enter_step t asked in
        let last : Outcome × Table = (login_decided orb r.0, r.1) in
        pick (not (unit_exists orb.subject keys)) (with_status statuses.LogicalUnit, t) (cond (lacks_key (key_at orb.subject keys) orb) (with_status statuses.AccessDenied, t) last) (same t.places)
        (pick (lacks_key (key_at orb.subject keys) orb) (with_status statuses.AccessDenied, t) last (same t.places)
        (pick_login (table.is_denied asked t.places) (Err refusals.Denied, t) (table.enter_at (position is_none left) t left (id_at k t.places) asked) (same t.places) (enters (position is_none left) k refl refl)))

    abbrev AsBack : Result ℕ LoginRefusal × Table → Type 0
    AsBack r = AreSame id t.places r.1.places

    pick_back : (b : Bool) (x y : Result ℕ LoginRefusal × Table) → AsBack x → AsBack y → AsBack (cond b x y)
    pick_back true x y h g = h
    pick_back false x y h g = g

    backs_to : (x : Option Login) (place : ℕ) → place < length t.places → Foreign (place_at t.places place) → AsBack (table.back_to x t place source eui)
    backs_to None place l was = same t.places
    backs_to (Some login) place l was =
        pick_back (table.is_barred source eui login t.places) (Err refusals.OtherNode, t) (Ok place, record t { places = set t.places place (Some (revived source login)) }) (same t.places)
        (set_same t.places place (Some (revived source login)) l was (of_source (Some (revived source login)) (revived source login) refl refl))

    backs_at : (k : Option ℕ) → find (is_held orb.subject) t.places ≡ k → AsBack (table.back_at k t source eui)
    backs_at None e = same t.places
    backs_at (Some k) e =
        let f = found (is_held orb.subject) t.places k e in
        backs_to (place_at t.places k) k f.below (not_live (place_at t.places k) f.login f.stands (not_held orb.subject f.login f.passes))

    backs : AsBack (back_step t orb.subject source eui)
    unfolding back_step
    backs = backs_at (find (is_held orb.subject) t.places) refl

    leaves_at : (k : Option ℕ) → find (is_live_of orb.subject source) t.places ≡ k → AreSame id t.places (table.leave_at k t).1.places
    leaves_at None e = same t.places
    leaves_at (Some k) e =
        let f = found (is_live_of orb.subject source) t.places k e in
        set_same t.places k None f.below (of_source (place_at t.places k) f.login f.stands (of_node orb.subject source f.login f.passes)) none_foreign

    leaves : AreSame id t.places (leave_step t orb.subject source).1.places
    unfolding leave_step
    leaves = leaves_at (find (is_live_of orb.subject source) t.places) refl

    decides_function : (function : Option Function) → Now (decide_function function orb source eui t keys)
    decides_function None = same t.places
    decides_function (Some functions.Login) = logs_in
    decides_function (Some functions.Query) = same t.places
    decides_function (Some functions.Reconnect) = backs
    decides_function (Some functions.Logout) = leaves
    decides_function (Some functions.Abort) = same t.places
    decides_function (Some functions.AbortSet) = same t.places
    decides_function (Some functions.UnitReset) = same t.places
    decides_function (Some functions.TargetReset) = same t.places

    pub decides : Now (decide orb source eui t keys)
    unfolding decide
    decides = pick (orb.format == 0) (decide_function (function_of orb.function) orb source eui t keys) (with_status statuses.RequestType, t) (decides_function (function_of orb.function)) (same t.places)

  -- ---- a step of the management agent
  module _ (t : Table) (m : Machine) (keys : List (List ℕ)) where
    abbrev Step : ManagerStep × (Machine × Table) → Type 0
    Step r = AreSame id t.places r.1.1.places

    pick_step : (b : Bool) (x y : ManagerStep × (Machine × Table)) → Step x → Step y → Step (cond b x y)
    pick_step true x y h g = h
    pick_step false x y h g = g

    module _ (own : Operation) (other : own.source ≡ id → ⊥) where
      as_decided : (orb : ManagementOrb) (r : Outcome × Table) → AreSame id t.places r.1.places → Step (decided_as r m own orb)
      as_decided orb (outcome, now) h = h

      decides_on : (orb : ManagementOrb) (eui : ℕ) → Step (decide_step m own orb eui t keys)
      unfolding decide_step
      decides_on orb eui = as_decided orb (decide orb own.source eui t keys) (decides orb own.source eui other t keys)

      orb_same : (bytes : Result (List ℕ) FailCause) → Step (orb_got bytes m own t keys)
      orb_same (Err cause) = same t.places
      orb_same (Ok bytes) =
          let orb = management_orb bytes in
          pick_step (reads_eui orb) (beside t (eui_step m own (phases.HighEui orb) high_eui_at)) (decide_step m own orb 0 t keys) (same t.places) (decides_on orb 0)

      high_same : (bytes : Result (List ℕ) FailCause) (orb : ManagementOrb) → Step (beside t (high_got bytes m own orb))
      high_same (Err cause) orb = same t.places
      high_same (Ok bytes) orb = same t.places

      low_same : (bytes : Result (List ℕ) FailCause) (orb : ManagementOrb) (high : ℕ) → Step (low_got bytes m own orb high t keys)
      low_same (Err cause) orb high = same t.places
      low_same (Ok bytes) orb high = decides_on orb (high * 2 ^ 32 + quad bytes 0)

      response_same : (failure : Option FailCause) (fifo : ℕ) → Step (beside t (response_written failure m own fifo))
      response_same None fifo = same t.places
      response_same (Some cause) fifo = same t.places

      status_same : (failure : Option FailCause) → Step (beside t (status_written failure m))
      status_same None = same t.places
      status_same (Some cause) = same t.places

      phase_same : (phase : Phase) (answer : Answer) → Step (reply_in phase m own t keys answer)
      phase_same phases.Orb answer = orb_same (payload_of answer 32)
      phase_same (phases.HighEui orb) answer = high_same (payload_of answer 4) orb
      phase_same (phases.LowEui orb high) answer = low_same (payload_of answer 4) orb high
      phase_same (phases.Response fifo) answer = response_same (write_failure answer) fifo
      phase_same phases.Status answer = status_same (write_failure answer)

    operation_same : (operation : Option Operation) (answer : Answer) → (source_in operation ≡ Some id → ⊥) → Step (reply_to operation m t keys answer)
    operation_same None answer other = same t.places
    operation_same (Some own) answer other = phase_same own (λ e. other (ap Some e)) own.phase answer

    pub reply_same : (answer : Answer) → (source_in m.operation ≡ Some id → ⊥) → Step (reply_step m t keys answer)
    unfolding reply_step
    reply_same answer other = operation_same m.operation answer other
