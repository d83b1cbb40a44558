-- A decision of the management agent enters a login exactly where its note does, and its effect is that of a decision.
use Rattle.sbp_world.proofs.Words.Std.{arith, ◌≡◌, ◌≢◌, ◌∙◌, refl, sym, ap, subst, ℕ, ◌+◌, ◌*◌, ◌^◌, ◌<◌, ◌==◌, ◌&&◌, nat_eq, not, Bool, true, false, cond, List, length, Option, Some, None, Result, Ok, Err, is_none, position, slice_set, length-set, nat_tests, common_steps, position-Some, quad}
use Rattle.sbp_world.proofs.Words.Wire.{FunctionWord, function_word, login_if}
use Rattle.sbp_world.proofs.Words.Target.{Entered, Login, LoginRefusal, LoginRequest, IsSound, Table, back_step, enter_step, find, id_at, is_live, is_old, leave_step, left_for, place_at, Decision, Effect, ManagerStep, Function, Operation, asked_by, back_decided, decide, decide_function, effect_of, key_at, lacks_key, left_decided, live_login, login_decided, on_login, reads_eui, unit_exists, with_status, beside, decide_step, decided_as, eui_step, high_eui_at, high_got, low_got, orb_got, reply_in, reply_to, response_written, status_written, function_of, number_of, status_of}
use Rattle.sbp_world.proofs.Words.Initiator.{FailCause, ManagementOrb, management_orb, Answer, payload_of, write_failure}
use Rattle.sbp_world.proofs.Words.Laws.{Agent, Decided, decided_by, decided_in, new_agent}
use Rattle.sbp_world.proofs.Words.World.{Office, hired, hired_in}
use Rattle.login_table.specs.declared.login.LoginRefusal.TheVariants as refusals
use Rattle.login_table.specs.Table as table
use Rattle.login_table.proofs.Searching.{found}
use Rattle.mgmt_agent.specs.declared.decision.Effect.TheVariants as effects
use Rattle.mgmt_agent.specs.declared.decision.Outcome.{Outcome}
use Rattle.mgmt_agent.specs.declared.decision.Response.TheVariants as responses
use Rattle.mgmt_agent.specs.declared.function.Function.TheVariants as functions
use Rattle.mgmt_agent.specs.declared.operation.Phase.{Phase}
use Rattle.mgmt_agent.specs.declared.operation.Phase.TheVariants as phases
use Rattle.mgmt_agent.specs.declared.status.Status.TheVariants as statuses
use Rattle.mgmt_agent.specs.Machine.{Machine, reply_step}
use Rattle.sbp_journal.specs.declared.operation.FunctionWord.TheVariants as words
use Rattle.sbp_world.proofs.Agents.Management.Deciding.{Agrees, IsOther, agree, left_by, old_left}

-- the new login has this place, which no live login had
pub record IsEntry (word : FunctionWord) (t : Table) (o : Office) (place status login : ℕ) : Type 0 where
  pub hires : (agents : List Agent) → hired word (login_if word status login) o agents ≡ slice_set agents place new_agent
  pub free : (own : Login) → place_at t.places place ≡ Some own → is_live own ≡ false
  pub small : place < length t.places

abbrev pub HiresIn : FunctionWord → Table → Office → (status login : ℕ) → Effect → Type 0
HiresIn word t first status login (effects.Entered place replaced) = IsEntry word t (left_by replaced first) place status login
HiresIn word t first status login effect = (o : Office) (agents : List Agent) → hired word (login_if word status login) o agents ≡ agents

other_hires : (word : FunctionWord) (login : Option ℕ) (o : Office) (agents : List Agent) → IsOther word → hired word login o agents ≡ agents
other_hires words.Login login o agents h = absurd h
other_hires words.Query login o agents h = refl
other_hires words.Reconnect login o agents h = refl
other_hires words.Logout login o agents h = refl
other_hires words.Abort login o agents h = refl
other_hires words.AbortSet login o agents h = refl
other_hires words.UnitReset login o agents h = refl
other_hires words.TargetReset login o agents h = refl
other_hires words.Other login o agents h = refl

-- ---- an outcome, with the logins that it leaves
record Decides (word : FunctionWord) (t : Table) (r : Outcome × Table) : Type 0 where
  hires : (first : Office) (x : Decided) → first.decided ≡ Some x → first.table ≡ t → HiresIn word t first (number_of r.0.status) r.0.login r.0.effect
  keeps : (unit : ℕ) → r.0.effect ≡ effects.UnitReset unit → r.1 ≡ t

decides_if : (b : Bool) (word : FunctionWord) (t : Table) (x y : Outcome × Table) → Decides word t x → Decides word t y → Decides word t (cond b x y)
decides_if true word t x y p q = p
decides_if false word t x y p q = q

pub not_old : (asked : LoginRequest) (own : Login) → is_old asked own ≡ true → is_live own ≡ false
not_old asked own e = by (is_live own) (own.unit == asked.unit) (own.eui == asked.eui) e
  where
    by : (a b c : Bool) → (not a && b && c) ≡ true → a ≡ false
    by true b c e = absurd (let no : false ≡ true = e in cc)
    by false b c e = refl

-- the place that is empty once the old login is removed
left_free : (asked : LoginRequest) (k : Option ℕ) (places : List (Option Login)) (place : ℕ) → find (is_old asked) places ≡ k → is_none (place_at (table.without k places) place) ≡ true → (own : Login) → place_at places place ≡ Some own → is_live own ≡ false
left_free asked None places place e n own f = absurd (let no : false ≡ true = ap is_none (sym f) ∙ n in cc)
left_free asked (Some k) places place e n own f = by (nat_eq place k) refl
  where
    by : (b : Bool) → nat_eq place k ≡ b → is_live own ≡ false
    by true q =
        let same : place ≡ k = grind (arith, nat_tests) in
        let o = found (is_old asked) places k e in
        let is : Some own ≡ Some o.login = sym f ∙ ap (place_at places) same ∙ o.stands in
        let own_is : own ≡ o.login = cc in
        ap is_live own_is ∙ not_old asked o.login o.passes
    by false q =
        let apart : place ≢ k = grind (arith, nat_tests) in
        let there : place_at (slice_set places k None) place ≡ place_at places place = grind (arith, common_steps) in
        absurd (let no : false ≡ true = ap is_none (sym (there ∙ f)) ∙ n in cc)

left_size : (k : Option ℕ) (places : List (Option Login)) → length (table.without k places) ≡ length places
left_size None places = refl
left_size (Some k) places = length-set places k None

module _ (orb : ManagementOrb) (source eui : ℕ) (t : Table) (s : IsSound t.places) where
  plain : (word : FunctionWord) (x : Outcome) (now : Table) → x.effect ≡ effects.Nothing → ((o : Office) (agents : List Agent) → hired word (login_if word (number_of x.status) x.login) o agents ≡ agents) → Decides word t (x, now)
  plain word x now e h = record {
    hires = λ first d f g. subst (λ (y : Effect). HiresIn word t first (number_of x.status) x.login y) (sym e) h;
    keeps = λ unit f. absurd (let no : effects.Nothing ≡ effects.UnitReset unit = sym e ∙ f in cc);
  }

  refuses : (refusal : LoginRefusal) (now : Table) → Decides words.Login t (with_status (status_of refusal), now)
  refuses refusals.Denied now = plain words.Login (with_status (status_of refusals.Denied)) now refl (λ o agents. refl)
  refuses refusals.NoRoom now = plain words.Login (with_status (status_of refusals.NoRoom)) now refl (λ o agents. refl)
  refuses refusals.Unknown now = plain words.Login (with_status (status_of refusals.Unknown)) now refl (λ o agents. refl)
  refuses refusals.OtherNode now = plain words.Login (with_status (status_of refusals.OtherNode)) now refl (λ o agents. refl)

  abbrev AsLogin : Result Entered LoginRefusal × Table → Type 0
  AsLogin r = Decides words.Login t (login_decided orb r.0, r.1)

  login_if_denied : (b : Bool) (x y : Result Entered LoginRefusal × Table) → AsLogin x → AsLogin y → AsLogin (cond b x y)
  login_if_denied true x y p q = p
  login_if_denied false x y p q = q

  enters : (k place : Option ℕ) → (let asked = asked_by orb source eui in find (is_old asked) t.places ≡ k → position is_none (table.without k t.places) ≡ place → AsLogin (table.enter_at place t (table.without k t.places) (id_at k t.places) asked))
  enters k None e f = refuses refusals.NoRoom t
  enters k (Some place) e f =
      let asked = asked_by orb source eui in
      let left = table.without k t.places in
      let at = position-Some is_none left place None f in
      record {
        hires = λ first d g h.
            let o : Office = record first { table = record t { places = left } } in
            let is : left_by (id_at k t.places) first ≡ record o { decided = Some d } =
            ap (left_by (id_at k t.places)) (ap (λ (y : Table). record first { table = y }) h ∙ ap (λ (y : Option Decided). record first { table = t; decided = y }) g)
            ∙ old_left first d.orb d.source d.eui k t (is_old asked) s e in
            record {
              hires = λ agents.
                  ap (λ (x : Office). hired_in (position is_none x.table.places) x.decided agents) is
                  ∙ ap (λ (x : Option ℕ). hired_in x (Some d) agents) f;
              free = λ own q. left_free asked k t.places place e at.1 own q;
              small = let z = at.0 in let y = left_size k t.places in omega arith;
            };
        keeps = λ unit g. absurd (let no : effects.Entered place (id_at k t.places) ≡ effects.UnitReset unit = g in cc);
      }

  logs_in : (keys : List (List ℕ)) → Decides words.Login t (decide_function (Some functions.Login) orb source eui t keys)
  unfolding enter_step left_for
  logs_in keys =
      let asked = asked_by orb source eui in
      let k = find (is_old asked) t.places in
      let left = table.without k t.places in
      let r = enter_step t asked in
      let last : Outcome × Table = (login_decided orb r.0, r.1) in
      decides_if (not (unit_exists orb.subject keys)) words.Login t (with_status statuses.LogicalUnit, t) (cond (lacks_key (key_at orb.subject keys) orb) (with_status statuses.AccessDenied, t) last)
      (plain words.Login (with_status statuses.LogicalUnit) t refl (λ o agents. refl))
      (decides_if (lacks_key (key_at orb.subject keys) orb) words.Login t (with_status statuses.AccessDenied, t) last (plain words.Login (with_status statuses.AccessDenied) t refl (λ o agents. refl))
      (login_if_denied (table.is_denied asked t.places) (Err refusals.Denied, t) (table.enter_at (position is_none left) t left (id_at k t.places) asked) (refuses refusals.Denied t) (enters k (position is_none left) refl refl)))

  queries : (b : Bool) (word : FunctionWord) (x y : Outcome) → IsOther word → x.effect ≡ effects.Nothing → y.effect ≡ effects.Nothing → Decides word t (cond b x y, t)
  queries true word x y h e f = plain word x t e (λ o agents. other_hires word (login_if word (number_of x.status) x.login) o agents h)
  queries false word x y h e f = plain word y t f (λ o agents. other_hires word (login_if word (number_of y.status) y.login) o agents h)

  back_by : (r : Result ℕ LoginRefusal × Table) (word : FunctionWord) → IsOther word → Decides word t (back_decided r.0, r.1)
  back_by (Ok place, now) word h = record { hires = λ first d g e o agents. other_hires word _ o agents h; keeps = λ unit f. absurd (let no : effects.Back place ≡ effects.UnitReset unit = f in cc) }
  back_by (Err refusal, now) word h = plain word (with_status (status_of refusal)) now refl (λ o agents. other_hires word _ o agents h)

  left_as : (r : Result ℕ LoginRefusal × Table) (word : FunctionWord) → IsOther word → Decides word t (left_decided r.0, r.1)
  left_as (Ok place, now) word h = record { hires = λ first d g e o agents. other_hires word _ o agents h; keeps = λ unit f. absurd (let no : effects.Left place ≡ effects.UnitReset unit = f in cc) }
  left_as (Err refusal, now) word h = plain word (with_status (status_of refusal)) now refl (λ o agents. other_hires word _ o agents h)

  abbrev IsNoEntry : Effect → Type 0
  IsNoEntry (effects.Entered place replaced) = ⊥
  IsNoEntry effect = Unit {0}

  effect_hires : (effect : Effect) (word : FunctionWord) (first : Office) (status login : ℕ) → IsNoEntry effect → IsOther word → HiresIn word t first status login effect
  effect_hires effects.Nothing word first status login n h = λ o agents. other_hires word _ o agents h
  effect_hires (effects.Entered place replaced) word first status login n h = absurd n
  effect_hires (effects.Back place) word first status login n h = λ o agents. other_hires word _ o agents h
  effect_hires (effects.Left place) word first status login n h = λ o agents. other_hires word _ o agents h
  effect_hires (effects.Abort place pointer) word first status login n h = λ o agents. other_hires word _ o agents h
  effect_hires (effects.AbortSet place) word first status login n h = λ o agents. other_hires word _ o agents h
  effect_hires (effects.UnitReset unit) word first status login n h = λ o agents. other_hires word _ o agents h
  effect_hires effects.TargetReset word first status login n h = λ o agents. other_hires word _ o agents h

  effect_by : (x : Option Login) (effect : Login → Effect) (word : FunctionWord) → IsOther word → ((login : Login) → IsNoEntry (effect login)) → Decides word t (on_login effect x, t)
  effect_by None effect word h n = plain word (with_status statuses.LoginId) t refl (λ o agents. other_hires word _ o agents h)
  effect_by (Some login) effect word h n = record { hires = λ first d g e. effect_hires (effect login) word first _ _ (n login) h; keeps = λ unit f. refl }

  function_by : (function : Option Function) (word : FunctionWord) (keys : List (List ℕ)) → Agrees function word → Decides word t (decide_function function orb source eui t keys)
  function_by None word keys a = plain word (with_status statuses.FunctionRejected) t refl (λ o agents. other_hires word _ o agents a)
  function_by (Some functions.Login) word keys a = subst (λ w. Decides w t (decide_function (Some functions.Login) orb source eui t keys)) (sym a) (logs_in keys)
  function_by (Some functions.Query) word keys a =
      queries (unit_exists orb.subject keys) word (record { status = statuses.NoFault; login = 0; effect = effects.Nothing; response = responses.Query orb.subject }) (with_status statuses.LogicalUnit) a refl refl
  function_by (Some functions.Reconnect) word keys a = back_by (back_step t orb.subject source eui) word a
  function_by (Some functions.Logout) word keys a = left_as (leave_step t orb.subject source) word a
  function_by (Some functions.Abort) word keys a = effect_by (live_login t.places orb.subject source) (effect_of functions.Abort orb) word a (λ login. tt)
  function_by (Some functions.AbortSet) word keys a = effect_by (live_login t.places orb.subject source) (effect_of functions.AbortSet orb) word a (λ login. tt)
  function_by (Some functions.UnitReset) word keys a = effect_by (live_login t.places orb.subject source) (effect_of functions.UnitReset orb) word a (λ login. tt)
  function_by (Some functions.TargetReset) word keys a = effect_by (live_login t.places orb.subject source) (effect_of functions.TargetReset orb) word a (λ login. tt)

  refused_format : (word : FunctionWord) → Decides word t (with_status statuses.RequestType, t)
  refused_format words.Login = plain words.Login (with_status statuses.RequestType) t refl (λ o agents. refl)
  refused_format words.Query = plain words.Query (with_status statuses.RequestType) t refl (λ o agents. refl)
  refused_format words.Reconnect = plain words.Reconnect (with_status statuses.RequestType) t refl (λ o agents. refl)
  refused_format words.Logout = plain words.Logout (with_status statuses.RequestType) t refl (λ o agents. refl)
  refused_format words.Abort = plain words.Abort (with_status statuses.RequestType) t refl (λ o agents. refl)
  refused_format words.AbortSet = plain words.AbortSet (with_status statuses.RequestType) t refl (λ o agents. refl)
  refused_format words.UnitReset = plain words.UnitReset (with_status statuses.RequestType) t refl (λ o agents. refl)
  refused_format words.TargetReset = plain words.TargetReset (with_status statuses.RequestType) t refl (λ o agents. refl)
  refused_format words.Other = plain words.Other (with_status statuses.RequestType) t refl (λ o agents. refl)

  orb_decides : (keys : List (List ℕ)) → Decides (function_word orb.function) t (decide orb source eui t keys)
  unfolding decide
  orb_decides keys =
      decides_if (orb.format == 0) (function_word orb.function) t (decide_function (function_of orb.function) orb source eui t keys) (with_status statuses.RequestType, t)
      (function_by (function_of orb.function) (function_word orb.function) keys (agree orb.function)) (refused_format (function_word orb.function))

-- ---- a step of the management agent
pub record Hires (t : Table) (operation : Option Operation) (answer : Answer) (r : ManagerStep × (Machine × Table)) : Type 0 where
  pub none : r.0.decided ≡ None → r.0.effect ≡ effects.Nothing
  pub brings : (d : Decision) → r.0.decided ≡ Some d → (x : Decided) × (decided_by operation answer ≡ Some x)
  pub hires : (d : Decision) → r.0.decided ≡ Some d → (first : Office) (x : Decided) → first.decided ≡ Some x → first.table ≡ t → HiresIn (function_word d.function) t first d.status d.login r.0.effect
  pub keeps : (unit : ℕ) → r.0.effect ≡ effects.UnitReset unit → r.1.1 ≡ t

none_decided : (d : Decision) → None ≡ Some d → ⊥
none_decided d e = cc

nothing_not : (unit : ℕ) → effects.Nothing ≡ effects.UnitReset unit → ⊥
nothing_not unit e = cc

-- a step that decides nothing
undecided : (t : Table) (operation : Option Operation) (answer : Answer) (r : ManagerStep × (Machine × Table)) → r.0.decided ≡ None → r.0.effect ≡ effects.Nothing → Hires t operation answer r
undecided t operation answer r e f = record {
  none = λ g. f;
  brings = λ d g. absurd (none_decided d (sym e ∙ g));
  hires = λ d g. absurd (none_decided d (sym e ∙ g));
  keeps = λ unit g. absurd (nothing_not unit (sym f ∙ g));
}

hires_if : (b : Bool) (t : Table) (operation : Option Operation) (answer : Answer) (x y : ManagerStep × (Machine × Table)) → Hires t operation answer x → Hires t operation answer y → Hires t operation answer (cond b x y)
hires_if true t operation answer x y p q = p
hires_if false t operation answer x y p q = q

as_decided : (t : Table) (operation : Option Operation) (answer : Answer) (orb : ManagementOrb) (m : Machine) (own : Operation) (r : Outcome × Table) (x : Decided) → decided_by operation answer ≡ Some x → Decides (function_word orb.function) t r → Hires t operation answer (decided_as r m own orb)
as_decided t operation answer orb m own (outcome, now) x e h =
    let made : Decision = record { function = orb.function; subject = orb.subject; status = number_of outcome.status; login = outcome.login } in
    record {
      none = λ g. absurd (none_decided made (sym g));
      brings = λ d g. (x, e);
      hires = λ d g first y f k.
          let same : made ≡ d = let z : Some made ≡ Some d = g in cc in
          subst (λ (i : Decision). HiresIn (function_word i.function) t first i.status i.login outcome.effect) same (h.hires first y f k);
      keeps = h.keeps;
    }

module _ (t : Table) (s : IsSound t.places) (m : Machine) (own : Operation) (keys : List (List ℕ)) (answer : Answer) where
  decides_on : (orb : ManagementOrb) (eui : ℕ) (x : Decided) → decided_by (Some own) answer ≡ Some x → Hires t (Some own) answer (decide_step m own orb eui t keys)
  unfolding decide_step
  decides_on orb eui x e = as_decided t (Some own) answer orb m own (decide orb own.source eui t keys) x e (orb_decides orb own.source eui t s keys)

  orb_hires : (bytes : Result (List ℕ) FailCause) → own.phase ≡ phases.Orb → Hires t (Some own) answer (orb_got bytes m own t keys)
  orb_hires (Err cause) e = undecided t (Some own) answer _ refl refl
  orb_hires (Ok bytes) e =
      let orb = management_orb bytes in
      hires_if (reads_eui orb) t (Some own) answer (beside t (eui_step m own (phases.HighEui orb) high_eui_at)) (decide_step m own orb 0 t keys) (undecided t (Some own) answer _ refl refl)
      (decides_on orb 0 _ (ap (λ p. decided_in p own.source answer) e))

  high_hires : (bytes : Result (List ℕ) FailCause) (orb : ManagementOrb) → Hires t (Some own) answer (beside t (high_got bytes m own orb))
  high_hires (Err cause) orb = undecided t (Some own) answer _ refl refl
  high_hires (Ok bytes) orb = undecided t (Some own) answer _ refl refl

  low_hires : (bytes : Result (List ℕ) FailCause) (orb : ManagementOrb) (high : ℕ) → own.phase ≡ phases.LowEui orb high → Hires t (Some own) answer (low_got bytes m own orb high t keys)
  low_hires (Err cause) orb high e = undecided t (Some own) answer _ refl refl
  low_hires (Ok bytes) orb high e = decides_on orb (high * 2 ^ 32 + quad bytes 0) _ (ap (λ p. decided_in p own.source answer) e)

  response_hires : (failure : Option FailCause) (fifo : ℕ) → Hires t (Some own) answer (beside t (response_written failure m own fifo))
  response_hires None fifo = undecided t (Some own) answer _ refl refl
  response_hires (Some cause) fifo = undecided t (Some own) answer _ refl refl

  status_hires : (failure : Option FailCause) → Hires t (Some own) answer (beside t (status_written failure m))
  status_hires None = undecided t (Some own) answer _ refl refl
  status_hires (Some cause) = undecided t (Some own) answer _ refl refl

  phase_hires : (phase : Phase) → own.phase ≡ phase → Hires t (Some own) answer (reply_in phase m own t keys answer)
  phase_hires phases.Orb e = orb_hires (payload_of answer 32) e
  phase_hires (phases.HighEui orb) e = high_hires (payload_of answer 4) orb
  phase_hires (phases.LowEui orb high) e = low_hires (payload_of answer 4) orb high e
  phase_hires (phases.Response fifo) e = response_hires (write_failure answer) fifo
  phase_hires phases.Status e = status_hires (write_failure answer)

operation_hires : (t : Table) → IsSound t.places → (operation : Option Operation) (m : Machine) (keys : List (List ℕ)) (answer : Answer) → Hires t operation answer (reply_to operation m t keys answer)
operation_hires t s None m keys answer = undecided t None answer _ refl refl
operation_hires t s (Some own) m keys answer = phase_hires t s m own keys answer own.phase refl

pub reply_hires : (t : Table) → IsSound t.places → (m : Machine) (keys : List (List ℕ)) (answer : Answer) → Hires t m.operation answer (reply_step m t keys answer)
unfolding reply_step
reply_hires t s m keys answer = operation_hires t s m.operation m keys answer
