-- A decision of the management agent changes the table of logins as its notes do, by the ORB that it was made on.
use Rattle.sbp_world.proofs.Words.Std.{◌≡◌, ◌∙◌, refl, sym, ap, subst, ℕ, ◌+◌, ◌*◌, ◌^◌, ◌==◌, ◌&&◌, nat_eq, not, Bool, true, false, cond, List, map, set, Option, Some, None, Result, Ok, Err, arith, is_none, position, nat_tests, quad}
use Rattle.sbp_world.proofs.Words.Wire.{FunctionWord, function_word, login_if}
use Rattle.sbp_world.proofs.Words.Target.{Entered, Login, LoginRefusal, IsSound, Table, back_step, enter_step, find, id_at, id_of, is_held, is_live, is_live_of, is_old, leave_step, left_for, place_at, revived, Decision, Effect, ManagerStep, Function, Operation, asked_by, back_decided, decide, decide_function, effect_of, key_at, lacks_key, left_decided, live_login, login_decided, on_login, reads_eui, unit_exists, with_status, beside, decide_step, decided_as, eui_step, high_eui_at, high_got, low_got, orb_got, reply_in, reply_to, response_written, status_written, function_of, number_of, status_of}
use Rattle.sbp_world.proofs.Words.Initiator.{FailCause, ManagementOrb, management_orb, Answer, payload_of, write_failure}
use Rattle.sbp_world.proofs.Words.Laws.{Decided, at_id, decided_by, decided_in, keep_decided}
use Rattle.sbp_world.proofs.Words.World.{Office, by_managed, by_note, placed}
use Rattle.login_table.specs.declared.login.LoginRefusal.TheVariants as refusals
use Rattle.login_table.specs.Table as table
use Rattle.login_table.proofs.Searching.{found}
use Rattle.mgmt_agent.specs.declared.decision.Effect.TheVariants as effects
use Rattle.mgmt_agent.specs.declared.decision.Outcome.{Outcome}
use Rattle.mgmt_agent.specs.declared.decision.Response.TheVariants as responses
use Rattle.mgmt_agent.specs.declared.function.Function.TheVariants as functions
use Rattle.mgmt_agent.specs.declared.operation.Phase.{Phase}
use Rattle.mgmt_agent.specs.declared.operation.Phase.TheVariants as phases
use Rattle.mgmt_agent.specs.declared.status.Status.TheVariants as statuses
use Rattle.mgmt_agent.specs.Machine.{Machine, reply_step}
use Rattle.sbp_journal.specs.declared.note.Note.TheVariants as notes
use Rattle.sbp_journal.specs.declared.operation.FunctionWord.TheVariants as words
use Rattle.sbp_world.proofs.Agents.Management.Places.{one_changed, sound_apart}
use Rattle.sbp_world.proofs.Sessions.Decisions.{bytes_are}

-- ---- what the notes of a decision do

abbrev pub left_by : Option ℕ → Office → Office
left_by None o = o
left_by (Some id) o = by_note (notes.Left id) o

abbrev pub by_effect : Effect → (subject : ℕ) → Office → Office
by_effect (effects.Entered place replaced) subject o = left_by replaced o
by_effect (effects.Back place) subject o = by_note (notes.Back subject) o
by_effect (effects.Left place) subject o = by_note (notes.Left subject) o
by_effect _ subject o = o

abbrev pub by_decision : Option Decision → Effect → Office → Office
by_decision None effect o = o
by_decision (Some d) effect o =
    by_managed (function_word d.function) (login_if (function_word d.function) d.status d.login) (by_effect effect d.subject o)

-- ---- the words of the functions

abbrev pub IsOther : FunctionWord → Type 0
IsOther words.Login = ⊥
IsOther word = Unit {0}

abbrev pub Agrees : Option Function → FunctionWord → Type 0
Agrees (Some functions.Login) word = word ≡ words.Login
Agrees function word = IsOther word

agree_by : (a b c d e f g h : Bool) → Agrees (cond a (Some functions.Login) (cond b (Some functions.Query) (cond c (Some functions.Reconnect) (cond d (Some functions.Logout) (cond e (Some functions.Abort) (cond f (Some functions.AbortSet) (cond g (Some functions.UnitReset) (cond h (Some functions.TargetReset) None)))))))) (cond a words.Login (cond b words.Query (cond c words.Reconnect (cond d words.Logout (cond e words.Abort (cond f words.AbortSet (cond g words.UnitReset (cond h words.TargetReset words.Other))))))))
agree_by true b c d e f g h = refl
agree_by false true c d e f g h = tt
agree_by false false true d e f g h = tt
agree_by false false false true e f g h = tt
agree_by false false false false true f g h = tt
agree_by false false false false false true g h = tt
agree_by false false false false false false true h = tt
agree_by false false false false false false false true = tt
agree_by false false false false false false false false = tt

pub agree : (number : ℕ) → Agrees (function_of number) (function_word number)
agree number = agree_by (number == 0x0) (number == 0x1) (number == 0x3) (number == 0x7) (number == 0xb) (number == 0xc) (number == 0xe) (number == 0xf)

other_managed : (word : FunctionWord) (login : Option ℕ) (o : Office) → IsOther word → by_managed word login o ≡ o
other_managed words.Login login o h = absurd h
other_managed words.Query login o h = refl
other_managed words.Reconnect login o h = refl
other_managed words.Logout login o h = refl
other_managed words.Abort login o h = refl
other_managed words.AbortSet login o h = refl
other_managed words.UnitReset login o h = refl
other_managed words.TargetReset login o h = refl
other_managed words.Other login o h = refl

-- ---- the calls of the table

module _ (o : Office) (orb : ManagementOrb) (source eui : ℕ) where
  -- the office with this table, where the ORB is decided on
  abbrev deciding : Table → Office
  deciding t = record o { table = t; decided = Some (record { orb = orb; source = source; eui = eui }) }

  places_are : (last : ℕ) (xs ys : List (Option Login)) → xs ≡ ys → deciding (record { last = last; places = xs }) ≡ deciding (record { last = last; places = ys })
  places_are last xs ys e = ap (λ zs. deciding (record { last = last; places = zs })) e

  -- the old login of an initiator leaves
  old_found : (k : ℕ) (x : Option Login) (t : Table) → IsSound t.places → place_at t.places k ≡ x → (login : Login) → x ≡ Some login → left_by (id_of x) (deciding t) ≡ deciding (record t { places = set t.places k None })
  old_found k None t s e login f = absurd (let no : None ≡ Some login = f in cc)
  old_found k (Some own) t s e login f =
      places_are t.last (map (at_id own.login (λ login. None)) t.places) (set t.places k None) (one_changed (λ login. None) t.places k own (sound_apart t.places s) e)

  pub old_left : (k : Option ℕ) (t : Table) (test : Login → Bool) → IsSound t.places → find test t.places ≡ k → left_by (id_at k t.places) (deciding t) ≡ deciding (record t { places = table.without k t.places })
  old_left None t test s e = refl
  old_left (Some k) t test s e = let f = found test t.places k e in old_found k (place_at t.places k) t s refl f.login f.stands

  abbrev Enters : Table → Result Entered LoginRefusal × Table → Type 0
  Enters t (Err refusal, now) = now ≡ t
  Enters t (Ok new, now) = by_managed words.Login (Some new.login) (left_by new.replaced (deciding t)) ≡ deciding now

  enters_if : (b : Bool) (t : Table) (x y : Result Entered LoginRefusal × Table) → Enters t x → Enters t y → Enters t (cond b x y)
  enters_if true t x y p q = p
  enters_if false t x y p q = q

  enters_at : (k : Option ℕ) (t : Table) (left : List (Option Login)) (replaced : Option ℕ) → position is_none left ≡ k → left_by replaced (deciding t) ≡ deciding (record t { places = left }) → Enters t (table.enter_at k t left replaced (asked_by orb source eui))
  enters_at None t left replaced e h = refl
  enters_at (Some k) t left replaced e h =
      let id = table.fresh_id 8 (table.next_id t.last) left in
      ap (by_managed words.Login (Some id)) h ∙ ap (λ p. placed p (Some (record { orb = orb; source = source; eui = eui })) id (deciding (record t { places = left }))) e

  login_enters : (t : Table) → IsSound t.places → Enters t (enter_step t (asked_by orb source eui))
  unfolding enter_step left_for
  login_enters t s =
      let asked = asked_by orb source eui in
      let left = left_for asked t.places in
      let old = find (is_old asked) t.places in
      enters_if (table.is_denied asked t.places) t (Err refusals.Denied, t) (table.enter_at (position is_none left) t left (id_at old t.places) asked) refl
      (enters_at (position is_none left) t left (id_at old t.places) refl (old_left old t (is_old asked) s refl))

  -- a login comes back
  abbrev Backs : (id : ℕ) → Table → Result ℕ LoginRefusal × Table → Type 0
  Backs id t (Err refusal, now) = now ≡ t
  Backs id t (Ok place, now) = by_note (notes.Back id) (deciding t) ≡ deciding now

  backs_if : (b : Bool) (id : ℕ) (t : Table) (x y : Result ℕ LoginRefusal × Table) → Backs id t x → Backs id t y → Backs id t (cond b x y)
  backs_if true id t x y p q = p
  backs_if false id t x y p q = q

  held_own : (id : ℕ) (login : Login) → is_held id login ≡ true → login.login ≡ id
  held_own id login e = own_by (not (is_live login)) (nat_eq login.login id) e refl
    where
      own_by : (a b : Bool) → (a && b) ≡ true → nat_eq login.login id ≡ b → login.login ≡ id
      own_by true true e q = grind (arith, nat_tests)
      own_by true false e q = absurd (let no : false ≡ true = e in cc)
      own_by false b e q = absurd (let no : false ≡ true = e in cc)

  backs_to : (x : Option Login) (id place : ℕ) (t : Table) → IsSound t.places → place_at t.places place ≡ x → ((login : Login) → x ≡ Some login → login.login ≡ id) → Backs id t (table.back_to x t place source eui)
  backs_to None id place t s e own = refl
  backs_to (Some login) id place t s e own =
      let back : Login → Option Login = λ l. Some (revived source l) in
      backs_if (table.is_barred source eui login t.places) id t (Err refusals.OtherNode, t) (Ok place, record t { places = set t.places place (Some (revived source login)) }) refl
      (places_are t.last (map (at_id id back) t.places) (set t.places place (Some (revived source login)))
      (ap (λ n. map (at_id n back) t.places) (sym (own login refl)) ∙ one_changed back t.places place login (sound_apart t.places s) e))

  own_at : (x : Option Login) (id : ℕ) (own : Login) → x ≡ Some own → own.login ≡ id → (login : Login) → x ≡ Some login → login.login ≡ id
  own_at x id own e f login g = ap (λ (l : Login). l.login) (let s : Some login ≡ Some own = sym g ∙ e in let z : login ≡ own = cc in z) ∙ f

  backs_at : (k : Option ℕ) (id : ℕ) (t : Table) → IsSound t.places → find (is_held id) t.places ≡ k → Backs id t (table.back_at k t source eui)
  backs_at None id t s e = refl
  backs_at (Some k) id t s e =
      let f = found (is_held id) t.places k e in
      backs_to (place_at t.places k) id k t s refl (own_at (place_at t.places k) id f.login f.stands (held_own id f.login f.passes))

  login_back : (id : ℕ) (t : Table) → IsSound t.places → Backs id t (back_step t id source eui)
  unfolding back_step
  login_back id t s = backs_at (find (is_held id) t.places) id t s refl

  -- a login leaves
  abbrev Leaves : (id : ℕ) → Table → Result ℕ LoginRefusal × Table → Type 0
  Leaves id t (Err refusal, now) = now ≡ t
  Leaves id t (Ok place, now) = by_note (notes.Left id) (deciding t) ≡ deciding now

  live_own : (id : ℕ) (login : Login) → is_live_of id source login ≡ true → login.login ≡ id
  live_own id login e = own_by (is_live login) (nat_eq login.login id) (nat_eq login.node source) e refl
    where
      own_by : (live own node_is : Bool) → (live && own && node_is) ≡ true → nat_eq login.login id ≡ own → login.login ≡ id
      own_by true true node_is e q = grind (arith, nat_tests)
      own_by true false node_is e q = absurd (let no : false ≡ true = e in cc)
      own_by false own node_is e q = absurd (let no : false ≡ true = e in cc)

  leaves_at : (k : Option ℕ) (id : ℕ) (t : Table) → IsSound t.places → find (is_live_of id source) t.places ≡ k → Leaves id t (table.leave_at k t)
  leaves_at None id t s e = refl
  leaves_at (Some k) id t s e =
      let f = found (is_live_of id source) t.places k e in
      places_are t.last (map (at_id id (λ login. None)) t.places) (set t.places k None)
      (ap (λ n. map (at_id n (λ login. None)) t.places) (sym (live_own id f.login f.passes)) ∙ one_changed (λ login. None) t.places k f.login (sound_apart t.places s) f.stands)

  login_out : (id : ℕ) (t : Table) → IsSound t.places → Leaves id t (leave_step t id source)
  unfolding leave_step
  login_out id t s = leaves_at (find (is_live_of id source) t.places) id t s refl

  -- ---- the functions

  abbrev Decides : FunctionWord → Table → Outcome × Table → Type 0
  Decides word t r =
      by_managed word (login_if word (number_of r.0.status) r.0.login) (by_effect r.0.effect orb.subject (deciding t)) ≡ deciding r.1

  decides_if : (b : Bool) (word : FunctionWord) (t : Table) (x y : Outcome × Table) → Decides word t x → Decides word t y → Decides word t (cond b x y)
  decides_if true word t x y p q = p
  decides_if false word t x y p q = q

  refuses_login : (refusal : LoginRefusal) (t now : Table) → now ≡ t → Decides words.Login t (with_status (status_of refusal), now)
  refuses_login refusals.Denied t now e = ap deciding (sym e)
  refuses_login refusals.NoRoom t now e = ap deciding (sym e)
  refuses_login refusals.Unknown t now e = ap deciding (sym e)
  refuses_login refusals.OtherNode t now e = ap deciding (sym e)

  login_by : (t : Table) (r : Result Entered LoginRefusal × Table) → Enters t r → Decides words.Login t (login_decided orb r.0, r.1)
  login_by t (Err refusal, now) e = refuses_login refusal t now e
  login_by t (Ok new, now) e = e

  logs_in : (t : Table) (keys : List (List ℕ)) → IsSound t.places → Decides words.Login t (decide_function (Some functions.Login) orb source eui t keys)
  logs_in t keys s =
      let r = enter_step t (asked_by orb source eui) in
      let last : Outcome × Table = (login_decided orb r.0, r.1) in
      decides_if (not (unit_exists orb.subject keys)) words.Login t (with_status statuses.LogicalUnit, t) (cond (lacks_key (key_at orb.subject keys) orb) (with_status statuses.AccessDenied, t) last) refl
      (decides_if (lacks_key (key_at orb.subject keys) orb) words.Login t (with_status statuses.AccessDenied, t) last refl (login_by t r (login_enters t s)))

  -- a function that is no login
  other_by : (word : FunctionWord) (t : Table) (x : Outcome) (now : Table) → IsOther word → by_effect x.effect orb.subject (deciding t) ≡ deciding now → Decides word t (x, now)
  other_by word t x now h e = other_managed word (login_if word (number_of x.status) x.login) (by_effect x.effect orb.subject (deciding t)) h ∙ e

  queries : (b : Bool) (word : FunctionWord) (t : Table) (x y : Outcome) → IsOther word → by_effect x.effect orb.subject (deciding t) ≡ deciding t → by_effect y.effect orb.subject (deciding t) ≡ deciding t → Decides word t (cond b x y, t)
  queries true word t x y h e f = other_by word t x t h e
  queries false word t x y h e f = other_by word t y t h f

  back_by : (r : Result ℕ LoginRefusal × Table) (word : FunctionWord) (t : Table) → IsOther word → Backs orb.subject t r → Decides word t (back_decided r.0, r.1)
  back_by (Ok place, now) word t h e = other_by word t (back_decided (Ok place)) now h e
  back_by (Err refusal, now) word t h e = other_by word t (with_status (status_of refusal)) now h (ap deciding (sym e))

  left_as : (r : Result ℕ LoginRefusal × Table) (word : FunctionWord) (t : Table) → IsOther word → Leaves orb.subject t r → Decides word t (left_decided r.0, r.1)
  left_as (Ok place, now) word t h e = other_by word t (left_decided (Ok place)) now h e
  left_as (Err refusal, now) word t h e = other_by word t (with_status (status_of refusal)) now h (ap deciding (sym e))

  effect_by : (x : Option Login) (effect : Login → Effect) (word : FunctionWord) (t : Table) → IsOther word → ((login : Login) → by_effect (effect login) orb.subject (deciding t) ≡ deciding t) → Decides word t (on_login effect x, t)
  effect_by None effect word t h e = other_by word t (with_status statuses.LoginId) t h refl
  effect_by (Some login) effect word t h e = other_by word t (on_login effect (Some login)) t h (e login)

  function_by : (function : Option Function) (word : FunctionWord) (t : Table) (keys : List (List ℕ)) → IsSound t.places → Agrees function word → Decides word t (decide_function function orb source eui t keys)
  function_by None word t keys s a = other_by word t (with_status statuses.FunctionRejected) t a refl
  function_by (Some functions.Login) word t keys s a =
      subst (λ w. Decides w t (decide_function (Some functions.Login) orb source eui t keys)) (sym a) (logs_in t keys s)
  function_by (Some functions.Query) word t keys s a =
      queries (unit_exists orb.subject keys) word t (record { status = statuses.NoFault; login = 0; effect = effects.Nothing; response = responses.Query orb.subject }) (with_status statuses.LogicalUnit) a refl refl
  function_by (Some functions.Reconnect) word t keys s a = back_by (back_step t orb.subject source eui) word t a (login_back orb.subject t s)
  function_by (Some functions.Logout) word t keys s a = left_as (leave_step t orb.subject source) word t a (login_out orb.subject t s)
  function_by (Some functions.Abort) word t keys s a =
      effect_by (live_login t.places orb.subject source) (effect_of functions.Abort orb) word t a (λ login. refl)
  function_by (Some functions.AbortSet) word t keys s a =
      effect_by (live_login t.places orb.subject source) (effect_of functions.AbortSet orb) word t a (λ login. refl)
  function_by (Some functions.UnitReset) word t keys s a =
      effect_by (live_login t.places orb.subject source) (effect_of functions.UnitReset orb) word t a (λ login. refl)
  function_by (Some functions.TargetReset) word t keys s a =
      effect_by (live_login t.places orb.subject source) (effect_of functions.TargetReset orb) word t a (λ login. refl)

  -- an ORB of another request format is refused, whatever its function is
  refused_format : (word : FunctionWord) (t : Table) → Decides word t (with_status statuses.RequestType, t)
  refused_format words.Login t = refl
  refused_format words.Query t = refl
  refused_format words.Reconnect t = refl
  refused_format words.Logout t = refl
  refused_format words.Abort t = refl
  refused_format words.AbortSet t = refl
  refused_format words.UnitReset t = refl
  refused_format words.TargetReset t = refl
  refused_format words.Other t = refl

  orb_decides : (t : Table) (keys : List (List ℕ)) → IsSound t.places → Decides (function_word orb.function) t (decide orb source eui t keys)
  unfolding decide
  orb_decides t keys s =
      decides_if (orb.format == 0) (function_word orb.function) t (decide_function (function_of orb.function) orb source eui t keys) (with_status statuses.RequestType, t)
      (function_by (function_of orb.function) (function_word orb.function) t keys s (agree orb.function)) (refused_format (function_word orb.function) t)

-- ---- the steps of the management agent

-- what was decided on, once a step was made
abbrev pub deciding_by : ManagerStep → Option Operation → Answer → Office → Office
deciding_by step operation answer o = record o { decided = keep_decided step.decided (decided_by operation answer) o.decided }

abbrev pub Steps : Office → Option Operation → Answer → ManagerStep × (Machine × Table) → Type 0
Steps o operation answer r =
    by_decision r.0.decided r.0.effect (deciding_by r.0 operation answer o) ≡ record (deciding_by r.0 operation answer o) { table = r.1.1 }

steps_if : (b : Bool) (o : Office) (operation : Option Operation) (answer : Answer) (x y : ManagerStep × (Machine × Table)) → Steps o operation answer x → Steps o operation answer y → Steps o operation answer (cond b x y)
steps_if true o operation answer x y p q = p
steps_if false o operation answer x y p q = q

as_decided : (o : Office) (operation : Option Operation) (answer : Answer) (orb : ManagementOrb) (source eui : ℕ) (m : Machine) (own : Operation) (r : Outcome × Table) → decided_by operation answer ≡ Some (record { orb = orb; source = source; eui = eui }) → Decides o orb source eui (function_word orb.function) o.table r → Steps o operation answer (decided_as r m own orb)
as_decided o operation answer orb source eui m own (outcome, now) e h =
    let brought : (d : Option Decided) → Office = λ d. record o { decided = d } in
    ap (λ d. by_managed (function_word orb.function) (login_if (function_word orb.function) (number_of outcome.status) outcome.login) (by_effect outcome.effect orb.subject (brought d))) e
    ∙ h
    ∙ sym (ap (λ d. record (brought d) { table = now }) e)

decides_on : (o : Office) (operation : Option Operation) (answer : Answer) (orb : ManagementOrb) (eui : ℕ) (m : Machine) (own : Operation) (keys : List (List ℕ)) → IsSound o.table.places → decided_by operation answer ≡ Some (record { orb = orb; source = own.source; eui = eui }) → Steps o operation answer (decide_step m own orb eui o.table keys)
unfolding decide_step
decides_on o operation answer orb eui m own keys s e =
    as_decided o operation answer orb own.source eui m own (decide orb own.source eui o.table keys) e (orb_decides o orb own.source eui o.table keys s)

module _ (o : Office) (m : Machine) (own : Operation) (keys : List (List ℕ)) (answer : Answer) (s : IsSound o.table.places) where
  orb_steps : (bytes : Result (List ℕ) FailCause) (operation : Operation) → operation.source ≡ own.source → operation.phase ≡ phases.Orb → payload_of answer 32 ≡ bytes → Steps o (Some operation) answer (orb_got bytes m own o.table keys)
  orb_steps (Err cause) operation same phase e = refl
  orb_steps (Ok bytes) operation same phase e =
      let orb = management_orb bytes in
      let is : decided_by (Some operation) answer ≡ Some (record { orb = orb; source = own.source; eui = 0 }) =
      ap (λ p. decided_in p operation.source answer) phase
      ∙ ap (λ bs. Some (record { orb = management_orb bs; source = operation.source; eui = 0 })) (bytes_are answer 32 bytes e)
      ∙ ap (λ n. Some (record { orb = orb; source = n; eui = 0 })) same in
      steps_if (reads_eui orb) o (Some operation) answer (beside o.table (eui_step m own (phases.HighEui orb) high_eui_at)) (decide_step m own orb 0 o.table keys) refl
      (decides_on o (Some operation) answer orb 0 m own keys s is)

  high_steps : (bytes : Result (List ℕ) FailCause) (orb : ManagementOrb) (operation : Option Operation) → Steps o operation answer (beside o.table (high_got bytes m own orb))
  high_steps (Err cause) orb operation = refl
  high_steps (Ok bytes) orb operation = refl

  low_steps : (bytes : Result (List ℕ) FailCause) (orb : ManagementOrb) (high : ℕ) (operation : Operation) → operation.source ≡ own.source → operation.phase ≡ phases.LowEui orb high → payload_of answer 4 ≡ bytes → Steps o (Some operation) answer (low_got bytes m own orb high o.table keys)
  low_steps (Err cause) orb high operation same phase e = refl
  low_steps (Ok bytes) orb high operation same phase e =
      let eui : List ℕ → ℕ = λ bs. high * 2 ^ 32 + quad bs 0 in
      let is : decided_by (Some operation) answer ≡ Some (record { orb = orb; source = own.source; eui = eui bytes }) =
      ap (λ p. decided_in p operation.source answer) phase
      ∙ ap (λ bs. Some (record { orb = orb; source = operation.source; eui = eui bs })) (bytes_are answer 4 bytes e)
      ∙ ap (λ n. Some (record { orb = orb; source = n; eui = eui bytes })) same in
      decides_on o (Some operation) answer orb (eui bytes) m own keys s is

  response_steps : (failure : Option FailCause) (fifo : ℕ) (operation : Option Operation) → Steps o operation answer (beside o.table (response_written failure m own fifo))
  response_steps None fifo operation = refl
  response_steps (Some cause) fifo operation = refl

  status_steps : (failure : Option FailCause) (operation : Option Operation) → Steps o operation answer (beside o.table (status_written failure m))
  status_steps None operation = refl
  status_steps (Some cause) operation = refl

  phase_steps : (phase : Phase) → own.phase ≡ phase → Steps o (Some own) answer (reply_in phase m own o.table keys answer)
  phase_steps phases.Orb e = orb_steps (payload_of answer 32) own refl e refl
  phase_steps (phases.HighEui orb) e = high_steps (payload_of answer 4) orb (Some own)
  phase_steps (phases.LowEui orb high) e = low_steps (payload_of answer 4) orb high own refl e refl
  phase_steps (phases.Response fifo) e = response_steps (write_failure answer) fifo (Some own)
  phase_steps phases.Status e = status_steps (write_failure answer) (Some own)

operation_steps : (o : Office) (operation : Option Operation) (m : Machine) (keys : List (List ℕ)) (answer : Answer) → IsSound o.table.places → Steps o operation answer (reply_to operation m o.table keys answer)
operation_steps o None m keys answer s = refl
operation_steps o (Some own) m keys answer s = phase_steps o m own keys answer s own.phase refl

-- A reply to the operation changes the office as its notes say.
pub reply_steps : (o : Office) (m : Machine) (keys : List (List ℕ)) (answer : Answer) → IsSound o.table.places → Steps o m.operation answer (reply_step m o.table keys answer)
unfolding reply_step
reply_steps o m keys answer s = operation_steps o m.operation m keys answer s
