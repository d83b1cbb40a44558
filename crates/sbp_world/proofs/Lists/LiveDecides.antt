-- What a decision on a management ORB leaves of the live logins of its source: where that had none, it has one at most, and none where the status is not 00;
-- where each that it had is of the ID that a logout names, it has none; and a function that is about no login leaves them.
use Rattle.sbp_world.proofs.Common.{all_three}
use Rattle.sbp_world.proofs.Words.Std.{arith, ◌≡◌, ◌≢◌, ◌∙◌, refl, sym, subst, ℕ, ◌==◌, not, nat_eq, Bool, true, false, cond, List, set, Option, Some, None, Result, Ok, Err, is_none, position, nat_tests, get_or-set_at, get_or-set_other, false≢true}
use Rattle.sbp_world.proofs.Words.Target.{Entered, Login, LoginRefusal, IsTable, Table, back_step, enter_step, entered, find, id_at, is_held, is_live, is_live_of, is_old, leave_at, leave_step, left_for, place_at, revived, Function, asked_by, back_decided, decide, decide_function, key_at, lacks_key, left_decided, login_decided, unit_exists, with_status, function_of}
use Rattle.sbp_world.proofs.Words.Initiator.{ManagementOrb}
use Rattle.sbp_world.proofs.Words.World.{HasLogin, HasNone, HasOne}
use Rattle.login_table.specs.declared.login.LoginRefusal.TheVariants as refusals
use Rattle.login_table.specs.Table as table
use Rattle.login_table.proofs.Searching.{found, not_found}
use Rattle.mgmt_agent.specs.declared.decision.Outcome.{Outcome}
use Rattle.mgmt_agent.specs.declared.function.Function.TheVariants as functions
use Rattle.mgmt_agent.specs.declared.status.Status.TheVariants as statuses
use Rattle.sbp_world.specs.Lists.Live.{AreNamed}
use Rattle.sbp_world.proofs.Lists.LiveTables.{emptied_none, none_login, none_one, other_place, set_one}
use Rattle.sbp_world.proofs.Sessions.Decisions.{of_id}

-- a function that makes no login live and ends none
abbrev pub keeps_logins : Option Function → Bool
keeps_logins (Some functions.Login) = false
keeps_logins (Some functions.Reconnect) = false
keeps_logins (Some functions.Logout) = false
keeps_logins _ = true

pub equals : (a b : ℕ) → a ≡ b → (a == b) ≡ true
equals a b e = grind (arith, nat_tests)

-- what a decision leaves
pub record LeavesOne (source : ℕ) (r : Outcome × Table) : Type 0 where
  pub one : HasOne r.1.places source
  pub refused : r.0.status ≢ statuses.NoFault → HasNone r.1.places source

module _ (orb : ManagementOrb) (source eui : ℕ) (t : Table) (keys : List (List ℕ)) where
  -- ---- the node had none
  module _ (h : HasNone t.places source) where
    unchanged : (outcome : Outcome) → LeavesOne source (outcome, t)
    unchanged outcome = record { one = none_one source t.places h; refused = λ n. h }

    pick : (b : Bool) (x y : Outcome × Table) → LeavesOne source x → LeavesOne source y → LeavesOne source (cond b x y)
    pick true x y p q = p
    pick false x y p q = q

    -- a login
    abbrev AsLogin : Result Entered LoginRefusal × Table → Type 0
    AsLogin r = LeavesOne source (login_decided orb r.0, r.1)

    pick_login : (b : Bool) (x y : Result Entered LoginRefusal × Table) → AsLogin x → AsLogin y → AsLogin (cond b x y)
    pick_login true x y p q = p
    pick_login false x y p q = q

    without_none : (k : Option ℕ) → HasNone (table.without k t.places) source
    without_none None = h
    without_none (Some k) = emptied_none source t.places k h

    enters : (place k : Option ℕ) → AsLogin (table.enter_at place t (table.without k t.places) (id_at k t.places) (asked_by orb source eui))
    enters None k = unchanged (with_status statuses.Resources)
    enters (Some place) k =
        let left = table.without k t.places in
        let own = entered (asked_by orb source eui) place (table.fresh_id 8 (table.next_id t.last) left) in
        record { one = set_one source left place (Some own) (without_none k); refused = λ n. absurd (n refl) }

    logs_in : LeavesOne source (decide_function (Some functions.Login) orb source eui t keys)
    unfolding enter_step left_for
    logs_in =
        let asked = asked_by orb source eui in
        let k = find (is_old asked) t.places in
        let left = table.without k t.places in
        let r = enter_step t asked in
        let last : Outcome × Table = (login_decided orb r.0, r.1) in
        pick (not (unit_exists orb.subject keys)) (with_status statuses.LogicalUnit, t) (cond (lacks_key (key_at orb.subject keys) orb) (with_status statuses.AccessDenied, t) last) (unchanged (with_status statuses.LogicalUnit))
        (pick (lacks_key (key_at orb.subject keys) orb) (with_status statuses.AccessDenied, t) last (unchanged (with_status statuses.AccessDenied))
        (pick_login (table.is_denied asked t.places) (Err refusals.Denied, t) (table.enter_at (position is_none left) t left (id_at k t.places) asked) (unchanged (with_status statuses.AccessDenied)) (enters (position is_none left) k)))

    -- a reconnect
    abbrev AsBack : Result ℕ LoginRefusal × Table → Type 0
    AsBack r = LeavesOne source (back_decided r.0, r.1)

    pick_back : (b : Bool) (x y : Result ℕ LoginRefusal × Table) → AsBack x → AsBack y → AsBack (cond b x y)
    pick_back true x y p q = p
    pick_back false x y p q = q

    backs_to : (x : Option Login) (place : ℕ) → AsBack (table.back_to x t place source eui)
    backs_to None place = unchanged (with_status statuses.LoginId)
    backs_to (Some login) place =
        pick_back (table.is_barred source eui login t.places) (Err refusals.OtherNode, t) (Ok place, record t { places = set t.places place (Some (revived source login)) }) (unchanged (with_status statuses.AccessDenied))
        (record { one = set_one source t.places place (Some (revived source login)) h; refused = λ n. absurd (n refl) })

    backs_at : (k : Option ℕ) → AsBack (table.back_at k t source eui)
    backs_at None = unchanged (with_status statuses.LoginId)
    backs_at (Some k) = backs_to (place_at t.places k) k

    backs : LeavesOne source (decide_function (Some functions.Reconnect) orb source eui t keys)
    unfolding back_step
    backs = backs_at (find (is_held orb.subject) t.places)

    -- a logout
    leaves_at : (k : Option ℕ) → LeavesOne source (left_decided (leave_at k t).0, (leave_at k t).1)
    leaves_at None = unchanged (with_status statuses.LoginId)
    leaves_at (Some k) = let e = emptied_none source t.places k h in record { one = none_one source (set t.places k None) e; refused = λ n. e }

    leaves : LeavesOne source (decide_function (Some functions.Logout) orb source eui t keys)
    unfolding leave_step
    leaves = leaves_at (find (is_live_of orb.subject source) t.places)

    by_function : (function : Option Function) → LeavesOne source (decide_function function orb source eui t keys)
    by_function None = unchanged (with_status statuses.FunctionRejected)
    by_function (Some functions.Login) = logs_in
    by_function (Some functions.Query) = unchanged (decide_function (Some functions.Query) orb source eui t keys).0
    by_function (Some functions.Reconnect) = backs
    by_function (Some functions.Logout) = leaves
    by_function (Some functions.Abort) = unchanged (decide_function (Some functions.Abort) orb source eui t keys).0
    by_function (Some functions.AbortSet) = unchanged (decide_function (Some functions.AbortSet) orb source eui t keys).0
    by_function (Some functions.UnitReset) = unchanged (decide_function (Some functions.UnitReset) orb source eui t keys).0
    by_function (Some functions.TargetReset) = unchanged (decide_function (Some functions.TargetReset) orb source eui t keys).0

    pub decided_one : LeavesOne source (decide orb source eui t keys)
    unfolding decide
    decided_one = pick (orb.format == 0) (decide_function (function_of orb.function) orb source eui t keys) (with_status statuses.RequestType, t) (by_function (function_of orb.function)) (unchanged (with_status statuses.RequestType))

  -- ---- a logout of the only login that it had
  module _ (sound : IsTable t) (h : AreNamed t.places source orb.subject) where
    gone_at : (k : Option ℕ) → find (is_live_of orb.subject source) t.places ≡ k → HasNone (leave_at k t).1.places source
    gone_at None e = record {
      none = λ p login f live n.
          let passes : is_live_of orb.subject source login ≡ true =
          all_three (is_live login) (login.login == orb.subject) (login.node == source) live (equals login.login orb.subject (h.named p login f live n)) (equals login.node source n) in
          false≢true (sym (not_found (is_live_of orb.subject source) t.places p login f e) ∙ passes);
    }
    gone_at (Some k) e = record { none = λ p login f live n. by p login f live n (nat_eq p k) refl }
      where
        by : (p : ℕ) (login : Login) → place_at (set t.places k None) p ≡ Some login → is_live login ≡ true → login.node ≡ source → (b : Bool) → nat_eq p k ≡ b → ⊥
        by p login f live n true q =
            let g = found (is_live_of orb.subject source) t.places k e in
            let same : p ≡ k = grind (arith, nat_tests) in
            none_login login (sym (get_or-set_at t.places k p None None same g.below) ∙ f)
        by p login f live n false q =
            let g = found (is_live_of orb.subject source) t.places k e in
            let was : place_at t.places p ≡ Some login = sym (get_or-set_other t.places k p None None (other_place p k q)) ∙ f in
            (sound.sound.apart p k login g.login (other_place p k q) was g.stands).ids (h.named p login was live n ∙ sym (of_id orb.subject source g.login g.passes))

    gone : HasNone (leave_step t orb.subject source).1.places source
    unfolding leave_step
    gone = gone_at (find (is_live_of orb.subject source) t.places) refl

    abbrev None_in : Outcome × Table → Type 0
    None_in r = HasNone r.1.places source

    gone_if : (b : Bool) (x y : Outcome × Table) → b ≡ true → None_in x → None_in (cond b x y)
    gone_if true x y e p = p
    gone_if false x y e p = absurd (false≢true e)

    pub decided_out : (orb.format == 0) ≡ true → function_of orb.function ≡ Some functions.Logout → HasNone (decide orb source eui t keys).1.places source
    unfolding decide
    decided_out format e =
        gone_if (orb.format == 0) (decide_function (function_of orb.function) orb source eui t keys) (with_status statuses.RequestType, t) format
        (subst (λ (f : Option Function). None_in (decide_function f orb source eui t keys)) (sym e) gone)

  -- ---- a function that is about no login
  abbrev Keeps : Outcome × Table → Type 0
  Keeps r = r.1 ≡ t

  keeps_if : (b : Bool) (x y : Outcome × Table) → Keeps x → Keeps y → Keeps (cond b x y)
  keeps_if true x y p q = p
  keeps_if false x y p q = q

  kept_by : (function : Option Function) → keeps_logins function ≡ true → Keeps (decide_function function orb source eui t keys)
  kept_by None e = refl
  kept_by (Some functions.Login) e = absurd (false≢true e)
  kept_by (Some functions.Query) e = refl
  kept_by (Some functions.Reconnect) e = absurd (false≢true e)
  kept_by (Some functions.Logout) e = absurd (false≢true e)
  kept_by (Some functions.Abort) e = refl
  kept_by (Some functions.AbortSet) e = refl
  kept_by (Some functions.UnitReset) e = refl
  kept_by (Some functions.TargetReset) e = refl

  pub decided_kept : keeps_logins (function_of orb.function) ≡ true → (decide orb source eui t keys).1 ≡ t
  unfolding decide
  decided_kept e = keeps_if (orb.format == 0) (decide_function (function_of orb.function) orb source eui t keys) (with_status statuses.RequestType, t) (kept_by (function_of orb.function) e) refl

  -- ---- a logout of a login that the node has
  module _ (sound : IsTable t) (h : HasLogin t.places source orb.subject) where
    abbrev Good_in : Outcome × Table → Type 0
    Good_in r = r.0.status ≡ statuses.NoFault

    good_at : (k : Option ℕ) → find (is_live_of orb.subject source) t.places ≡ k → Good_in (left_decided (leave_at k t).0, (leave_at k t).1)
    good_at None e =
        let passes : is_live_of orb.subject source h.login ≡ true =
        all_three (is_live h.login) (h.login.login == orb.subject) (h.login.node == source) h.live (equals h.login.login orb.subject h.own) (equals h.login.node source h.of_node) in
        absurd (false≢true (sym (not_found (is_live_of orb.subject source) t.places h.place h.login h.there e) ∙ passes))
    good_at (Some k) e = refl

    good : Good_in (left_decided (leave_step t orb.subject source).0, (leave_step t orb.subject source).1)
    unfolding leave_step
    good = good_at (find (is_live_of orb.subject source) t.places) refl

    good_if : (b : Bool) (x y : Outcome × Table) → b ≡ true → Good_in x → Good_in (cond b x y)
    good_if true x y e p = p
    good_if false x y e p = absurd (false≢true e)

    pub decided_good : (orb.format == 0) ≡ true → function_of orb.function ≡ Some functions.Logout → (decide orb source eui t keys).0.status ≡ statuses.NoFault
    unfolding decide
    decided_good format e =
        good_if (orb.format == 0) (decide_function (function_of orb.function) orb source eui t keys) (with_status statuses.RequestType, t) format
        (subst (λ (f : Option Function). Good_in (decide_function f orb source eui t keys)) (sym e) good)
