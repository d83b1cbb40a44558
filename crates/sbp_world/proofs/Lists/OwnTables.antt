-- Each login of the target has a FIFO of a login, behind each decision on an ORB that asks for a login with such a FIFO.
use Rattle.sbp_world.proofs.Words.Std.{◌≡◌, inl, inr, ◌⊎◌, refl, sym, subst, ℕ, ◌==◌, not, Bool, true, false, cond, List, map, Option, Some, None, Result, Ok, Err, slice_index_or, slice_set, get_or-map}
use Rattle.sbp_world.proofs.Words.Target.{Login, LoginRefusal, OtherNode, LoginRequest, Table, back_at, back_step, back_to, enter_at, enter_step, held, is_last, leave_at, leave_step, left_for, one_less, place_at, revived, without, Function, asked_by, decide, decide_function, decide_login, key_at, lacks_key, unit_exists, with_status, function_of}
use Rattle.sbp_world.proofs.Words.Initiator.{ManagementOrb}
use Rattle.sbp_world.proofs.Words.World.{IsLoginFifo}
use Rattle.login_table.specs.Table.{is_barred, ticked}
use Rattle.mgmt_agent.specs.declared.decision.Outcome.{Outcome}
use Rattle.mgmt_agent.specs.declared.function.Function.TheVariants as functions
use Rattle.mgmt_agent.specs.declared.status.Status.TheVariants as statuses
use Rattle.sbp_world.proofs.Lists.Kept.{set_either}

abbrev pub IfOwn : Option Login → Type 0
IfOwn None = Unit {0}
IfOwn (Some login) = IsLoginFifo login.fifo

abbrev pub Owns : List (Option Login) → Type 0
Owns places = (place : ℕ) → IfOwn (place_at places place)

pub owned : (places : List (Option Login)) → Owns places → (place : ℕ) (login : Login) → place_at places place ≡ Some login → IsLoginFifo login.fifo
owned places h place login e = subst IfOwn e (h place)

set_owns : (places : List (Option Login)) (k : ℕ) (x : Option Login) → Owns places → IfOwn x → Owns (slice_set places k x)
set_owns places k x h own p = by (set_either places k p x None)
  where
    by : (slice_index_or (slice_set places k x) p None ≡ x) ⊎ (slice_index_or (slice_set places k x) p None ≡ slice_index_or places p None) → IfOwn (slice_index_or (slice_set places k x) p None)
    by (inl e) = subst IfOwn (sym e) own
    by (inr e) = subst IfOwn (sym e) (h p)

-- ---- calls that decide nothing
held_own : (x : Option Login) → IfOwn x → IfOwn (held x)
held_own None own = own
held_own (Some login) own = own

pub held_owns : (places : List (Option Login)) → Owns places → Owns (map held places)
held_owns places h place = subst IfOwn (sym (get_or-map held places place None)) (held_own (place_at places place) (h place))

ticked_own : (x : Option Login) → IfOwn x → IfOwn (ticked x)
ticked_own None own = own
ticked_own (Some login) own = by (is_last login.remaining)
  where
    by : (b : Bool) → IfOwn (cond b None (Some (record login { remaining = one_less login.remaining })))
    by true = tt
    by false = own

pub ticked_owns : (places : List (Option Login)) → Owns places → Owns (map ticked places)
ticked_owns places h place = subst IfOwn (sym (get_or-map ticked places place None)) (ticked_own (place_at places place) (h place))

-- ---- a decision
without_owns : (found : Option ℕ) (places : List (Option Login)) → Owns places → Owns (without found places)
without_owns None places h = h
without_owns (Some place) places h = set_owns places place None h tt

left_owns : (asked : LoginRequest) (places : List (Option Login)) → Owns places → Owns (left_for asked places)
unfolding left_for
left_owns asked places h = without_owns _ places h

entered_owns : (place : Option ℕ) (table : Table) (left : List (Option Login)) (replaced : Option ℕ) (asked : LoginRequest) → Owns table.places → Owns left → IsLoginFifo asked.fifo → Owns (enter_at place table left replaced asked).1.places
entered_owns None table left replaced asked h k own = h
entered_owns (Some place) table left replaced asked h k own = set_owns left place _ k own

back_owns : (found : Option Login) (table : Table) (place node eui : ℕ) → place_at table.places place ≡ found → Owns table.places → Owns (back_to found table place node eui).1.places
back_owns None table place node eui e h = h
back_owns (Some login) table place node eui e h = by (is_barred node eui login table.places)
  where
    by : (b : Bool) → Owns (cond {A = Result ℕ LoginRefusal × Table} b (Err OtherNode, table) (Ok place, record table { places = slice_set table.places place (Some (revived node login)) })).1.places
    by true = h
    by false = set_owns table.places place (Some (revived node login)) h (subst IfOwn e (h place))

back_at_owns : (found : Option ℕ) (table : Table) (node eui : ℕ) → Owns table.places → Owns (back_at found table node eui).1.places
back_at_owns None table node eui h = h
back_at_owns (Some place) table node eui h = back_owns (place_at table.places place) table place node eui refl h

leave_owns : (found : Option ℕ) (table : Table) → Owns table.places → Owns (leave_at found table).1.places
leave_owns None table h = h
leave_owns (Some place) table h = set_owns table.places place None h tt

abbrev Keeps : Outcome × Table → Type 0
Keeps x = Owns x.1.places

pick : (b : Bool) (x y : Outcome × Table) → Keeps x → Keeps y → Keeps (cond b x y)
pick true x y h k = h
pick false x y h k = k

pick_entered : {A : Type 0} (b : Bool) (x y : A × Table) → Owns x.1.places → Owns y.1.places → Owns (cond b x y).1.places
pick_entered true x y h k = h
pick_entered false x y h k = k

module _ (orb : ManagementOrb) (source eui : ℕ) (table : Table) (keys : List (List ℕ)) (h : Owns table.places) where
  login_owns : IsLoginFifo orb.fifo → Keeps (decide_login orb source eui table keys)
  unfolding enter_step
  login_owns own =
      pick (not (unit_exists orb.subject keys)) _ _ h
      (pick (lacks_key (key_at orb.subject keys) orb) _ _ h
      (pick_entered _ _ (enter_at _ table _ _ (asked_by orb source eui)) h (entered_owns _ table _ _ (asked_by orb source eui) h (left_owns (asked_by orb source eui) table.places h) own)))

  reconnect_owns : Owns (back_step table orb.subject source eui).1.places
  unfolding back_step
  reconnect_owns = back_at_owns _ table source eui h

  logout_owns : Owns (leave_step table orb.subject source).1.places
  unfolding leave_step
  logout_owns = leave_owns _ table h

  function_owns : (function : Option Function) → (function ≡ Some functions.Login → IsLoginFifo orb.fifo) → Keeps (decide_function function orb source eui table keys)
  function_owns None own = h
  function_owns (Some functions.Login) own = login_owns (own refl)
  function_owns (Some functions.Query) own = h
  function_owns (Some functions.Reconnect) own = reconnect_owns
  function_owns (Some functions.Logout) own = logout_owns
  function_owns (Some functions.Abort) own = h
  function_owns (Some functions.AbortSet) own = h
  function_owns (Some functions.UnitReset) own = h
  function_owns (Some functions.TargetReset) own = h

  pub decide_owns : (function_of orb.function ≡ Some functions.Login → IsLoginFifo orb.fifo) → Keeps (decide orb source eui table keys)
  unfolding decide
  decide_owns own = pick (orb.format == 0) (decide_function (function_of orb.function) orb source eui table keys) (with_status statuses.RequestType, table) (function_owns (function_of orb.function) own) h
