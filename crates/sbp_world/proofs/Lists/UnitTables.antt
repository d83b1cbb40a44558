-- What each call of a table of logins makes of the units: a login that stays keeps its ID and its unit, and one that is entered is live, on the unit that its ORB names.
use Rattle.sbp_world.proofs.Words.Std.{◌≡◌, ◌∙◌, inl, inr, ◌⊎◌, refl, sym, ap, ℕ, ◌==◌, not, Bool, true, false, cond, List, map, Option, Some, None, Result, Ok, Err, slice_index_or, slice_set, get_or-map}
use Rattle.sbp_world.proofs.Words.Target.{Login, LoginRefusal, OtherNode, LoginRequest, Table, back_at, back_step, back_to, enter_at, enter_step, entered, fresh_id, held, held_for, is_last, is_live, leave_at, leave_step, left_for, next_id, one_less, place_at, revived, Function, asked_by, decide, decide_function, decide_login, key_at, lacks_key, unit_exists, with_status, function_of}
use Rattle.sbp_world.proofs.Words.Initiator.{ManagementOrb}
use Rattle.login_table.specs.Table.{is_barred, ticked}
use Rattle.login_table.proofs.Kept.{left_stood}
use Rattle.mgmt_agent.specs.declared.decision.Outcome.{Outcome}
use Rattle.mgmt_agent.specs.declared.function.Function.TheVariants as functions
use Rattle.mgmt_agent.specs.declared.status.Status.TheVariants as statuses
use Rattle.sbp_world.proofs.Lists.Kept.{set_either}
use Rattle.sbp_world.proofs.Common.{none_is}

-- a login that stays
pub record StaysOn (places : List (Option Login)) (now : Login) : Type 0 where
  pub from : ℕ
  pub before : Login
  pub there : place_at places from ≡ Some before
  pub login : now.login ≡ before.login
  pub unit : now.unit ≡ before.unit

-- one that is entered by an ORB
pub record EntersOn (orb : ManagementOrb) (last : ℕ) (now : Login) : Type 0 where
  pub function : function_of orb.function ≡ Some functions.Login
  pub login : now.login ≡ last
  pub unit : now.unit ≡ orb.subject
  pub live : is_live now ≡ true

-- each one stays, or is live
abbrev pub AllStay : (before now : List (Option Login)) → Type 0
AllStay before now = (place : ℕ) (login : Login) → place_at now place ≡ Some login → StaysOn before login ⊎ (is_live login ≡ true)

-- each one stays, or is entered by the ORB
abbrev pub AllOn : ManagementOrb → (t now : Table) → Type 0
AllOn orb t now = (place : ℕ) (login : Login) → place_at now.places place ≡ Some login → StaysOn t.places login ⊎ EntersOn orb now.last login

still_on : (places : List (Option Login)) (place : ℕ) (login : Login) → place_at places place ≡ Some login → StaysOn places login
still_on places place login e = record { from = place; before = login; there = e; login = refl; unit = refl }

pub same_stay : (before now : List (Option Login)) → now ≡ before → AllStay before now
same_stay before now e place login f = inl (still_on before place login (ap (λ ps. place_at ps place) (sym e) ∙ f))

-- ---- calls that decide nothing
held_on : (places : List (Option Login)) (place : ℕ) (x : Option Login) → place_at places place ≡ x → (login : Login) → held x ≡ Some login → StaysOn places login
held_on places place None e login f = none_is login f
held_on places place (Some own) e login f =
    let is : record own { remaining = Some (held_for own.remaining own.hold) } ≡ login = cc in
    record { from = place; before = own; there = e; login = sym (ap (λ (l : Login). l.login) is); unit = sym (ap (λ (l : Login). l.unit) is) }

pub held_stay : (places : List (Option Login)) → AllStay places (map held places)
held_stay places place login e = inl (held_on places place (place_at places place) refl login (sym (get_or-map held places place None) ∙ e))

ticked_on : (places : List (Option Login)) (place : ℕ) (x : Option Login) → place_at places place ≡ x → (login : Login) → ticked x ≡ Some login → StaysOn places login
ticked_on places place None e login f = none_is login f
ticked_on places place (Some own) e login f = by (is_last own.remaining) f
  where
    by : (b : Bool) → cond b None (Some (record own { remaining = one_less own.remaining })) ≡ Some login → StaysOn places login
    by true g = none_is login g
    by false g =
        let is : record own { remaining = one_less own.remaining } ≡ login = cc in
        record { from = place; before = own; there = e; login = sym (ap (λ (l : Login). l.login) is); unit = sym (ap (λ (l : Login). l.unit) is) }

pub ticked_stay : (places : List (Option Login)) → AllStay places (map ticked places)
ticked_stay places place login e = inl (ticked_on places place (place_at places place) refl login (sym (get_or-map ticked places place None) ∙ e))

-- ---- a decision
module _ (orb : ManagementOrb) (source eui : ℕ) (table : Table) (keys : List (List ℕ)) where
  abbrev Makes : Table → Type 0
  Makes now = AllOn orb table now

  nothing : Makes table
  nothing place login e = inl (still_on table.places place login e)

  pick : (b : Bool) (x y : Outcome × Table) → Makes x.1 → Makes y.1 → Makes (cond b x y).1
  pick true x y h k = h
  pick false x y h k = k

  pick_entered : {A : Type 0} (b : Bool) (x y : A × Table) → Makes x.1 → Makes y.1 → Makes (cond b x y).1
  pick_entered true x y h k = h
  pick_entered false x y h k = k

  module _ (f : function_of orb.function ≡ Some functions.Login) where
    abbrev request : LoginRequest
    request = asked_by orb source eui

    entered_on : (k : ℕ) (login : Login) → entered request k (fresh_id 8 (next_id table.last) (left_for request table.places)) ≡ login → EntersOn orb (fresh_id 8 (next_id table.last) (left_for request table.places)) login
    entered_on k login is = record {
      function = f;
      login = sym (ap (λ (l : Login). l.login) is);
      unit = sym (ap (λ (l : Login). l.unit) is);
      live = sym (ap is_live is);
    }

    enter_makes : (place replaced : Option ℕ) → Makes (enter_at place table (left_for request table.places) replaced request).1
    enter_makes None replaced place login e = nothing place login e
    enter_makes (Some k) replaced place login e = by (set_either left k place (Some new) None)
      where
        left : List (Option Login)
        left = left_for request table.places

        id : ℕ
        id = fresh_id 8 (next_id table.last) left

        new : Login
        new = entered request k id

        by : (slice_index_or (slice_set left k (Some new)) place None ≡ Some new) ⊎ (slice_index_or (slice_set left k (Some new)) place None ≡ slice_index_or left place None) → StaysOn table.places login ⊎ EntersOn orb id login
        by (inl g) = let both : Some new ≡ Some login = sym g ∙ e in let is : new ≡ login = cc in inr (entered_on k login is)
        by (inr g) = inl (still_on table.places place login (left_stood request table.places place login (sym g ∙ e)))

    login_makes : Makes (decide_login orb source eui table keys).1
    unfolding enter_step
    login_makes =
        pick (not (unit_exists orb.subject keys)) _ _ nothing
        (pick (lacks_key (key_at orb.subject keys) orb) _ _ nothing
        (pick_entered _ _ (enter_at _ table _ _ request) nothing (enter_makes _ _)))

  -- a held login comes back
  back_makes : (own : Login) (place : ℕ) → place_at table.places place ≡ Some own → Makes (back_to (Some own) table place source eui).1
  back_makes own place e = by (is_barred source eui own table.places)
    where
      set_makes : (p : ℕ) (login : Login) → place_at (slice_set table.places place (Some (revived source own))) p ≡ Some login → StaysOn table.places login ⊎ EntersOn orb table.last login
      set_makes p login g = at (set_either table.places place p (Some (revived source own)) None)
        where
          at : (slice_index_or (slice_set table.places place (Some (revived source own))) p None ≡ Some (revived source own)) ⊎ (slice_index_or (slice_set table.places place (Some (revived source own))) p None ≡ slice_index_or table.places p None) → StaysOn table.places login ⊎ EntersOn orb table.last login
          at (inl h) =
              let both : Some (revived source own) ≡ Some login = sym h ∙ g in
              let is : revived source own ≡ login = cc in
              inl (record { from = place; before = own; there = e; login = sym (ap (λ (l : Login). l.login) is); unit = sym (ap (λ (l : Login). l.unit) is) })
          at (inr h) = inl (still_on table.places p login (sym h ∙ g))

      by : (b : Bool) → Makes (cond {A = Result ℕ LoginRefusal × Table} b (Err OtherNode, table) (Ok place, record table { places = slice_set table.places place (Some (revived source own)) })).1
      by true = nothing
      by false = set_makes

  back_found : (found : Option Login) (place : ℕ) → place_at table.places place ≡ found → Makes (back_to found table place source eui).1
  back_found None place e = nothing
  back_found (Some own) place e = back_makes own place e

  back_at_makes : (place : Option ℕ) → Makes (back_at place table source eui).1
  back_at_makes None = nothing
  back_at_makes (Some place) = back_found (place_at table.places place) place refl

  reconnect_makes : Makes (back_step table orb.subject source eui).1
  unfolding back_step
  reconnect_makes = back_at_makes _

  leave_makes : (found : Option ℕ) → Makes (leave_at found table).1
  leave_makes None p login e = nothing p login e
  leave_makes (Some place) p login e = by (set_either table.places place p None None)
    where
      by : (slice_index_or (slice_set table.places place None) p None ≡ None) ⊎ (slice_index_or (slice_set table.places place None) p None ≡ slice_index_or table.places p None) → StaysOn table.places login ⊎ EntersOn orb table.last login
      by (inl h) = none_is login (sym h ∙ e)
      by (inr h) = inl (still_on table.places p login (sym h ∙ e))

  logout_makes : Makes (leave_step table orb.subject source).1
  unfolding leave_step
  logout_makes = leave_makes _

  function_makes : (function : Option Function) → function_of orb.function ≡ function → Makes (decide_function function orb source eui table keys).1
  function_makes None e = nothing
  function_makes (Some functions.Login) e = login_makes e
  function_makes (Some functions.Query) e = nothing
  function_makes (Some functions.Reconnect) e = reconnect_makes
  function_makes (Some functions.Logout) e = logout_makes
  function_makes (Some functions.Abort) e = nothing
  function_makes (Some functions.AbortSet) e = nothing
  function_makes (Some functions.UnitReset) e = nothing
  function_makes (Some functions.TargetReset) e = nothing

  pub decide_on : Makes (decide orb source eui table keys).1
  unfolding decide
  decide_on = pick (orb.format == 0) (decide_function (function_of orb.function) orb source eui table keys) (with_status statuses.RequestType, table) (function_makes (function_of orb.function) refl) nothing

-- by an ORB of a login or not, each login that it makes is live or stays
pub live_or_stays : (orb : ManagementOrb) (t now : Table) → AllOn orb t now → AllStay t.places now.places
live_or_stays orb t now h place login e = by (h place login e)
  where
    by : StaysOn t.places login ⊎ EntersOn orb now.last login → StaysOn t.places login ⊎ (is_live login ≡ true)
    by (inl x) = inl x
    by (inr y) = inr y.live
