-- A turn keeps that the logins with an ID of an initiator are on units that it asked for: a login that is decided for it is on such a unit, and a reconnect that is decided for it is of an ID of it.
use Rattle.sbp_world.proofs.Words.Std.{arith, ◌≡◌, ◌∙◌, inl, inr, ◌⊎◌, sym, ap, subst, ℕ, ◌+◌, ◌<◌, ◌≤◌, true, false, List, length, Some}
use Rattle.sbp_world.proofs.Words.Wire.{Moment}
use Rattle.sbp_world.proofs.Words.Target.{Login, Table, is_live, place_at, asked_by, function_of, Disk}
use Rattle.sbp_world.proofs.Words.World.{Scene, WorldState, FewLogins, HasFewIds, AreOwnIds, LivesWith, OwnBy}
use Rattle.sbp_world.proofs.Agents.Management.Holding.{Holding, good_of}
use Rattle.sbp_world.proofs.Agents.Management.Still.{hist}
use Rattle.mgmt_agent.specs.declared.function.Function.TheVariants as functions
use Rattle.sbp_world.specs.Lists.LoginUnits.{is_asked_unit}
use Rattle.sbp_world.proofs.Lists.Courses.{Goes}
use Rattle.sbp_world.proofs.Lists.IdsOwned.{aged_at, own_back}
use Rattle.sbp_world.proofs.Lists.IdsRise.{Decides, IsEntered, IsNew, LivesStood, enters, entered_next, leaves, returns}
use Rattle.sbp_world.proofs.Lists.IdsRuns.{IsDecision, TableTurn, decides, decision_made, last_few, stays, table_turn}
use Rattle.sbp_world.proofs.Lists.Judging.{Grown, goes_next, grown}
use Rattle.sbp_world.proofs.Lists.KeptTurns.{id_is}
use Rattle.sbp_world.proofs.Lists.LiveRuns.{base_of, goes_turned}
use Rattle.sbp_world.proofs.Lists.LiveSteps.{id_in}
use Rattle.sbp_world.proofs.Lists.LiveTurns.{TurnOf, by_clearing, by_own, by_sight, by_target}
use Rattle.sbp_world.proofs.Lists.OrbsMade.{more_asked}
use Rattle.sbp_world.proofs.Lists.UnitMoves.{AreSeen, turn_stays}
use Rattle.sbp_world.proofs.Lists.UnitTables.{AllOn, EntersOn, StaysOn, decide_on}

-- each login with an ID of the initiator
abbrev pub OwnUnits : List Disk → List Moment → ℕ → Table → Type 0
OwnUnits start past i table = (place : ℕ) (login : Login) → place_at table.places place ≡ Some login → OwnBy start past i login.login → is_asked_unit past i login.unit ≡ true

-- what is to be known of a decision of the turn
pub record HelpsUnits (start : List Disk) (before : List Moment) (i : ℕ) (w v : WorldState) : Type 0 where
  pub unit : (d : IsDecision w v) → d.on.was.source ≡ id_in w i → function_of d.on.on.orb.function ≡ Some functions.Login → is_asked_unit before i d.on.on.orb.subject ≡ true
  pub back : (d : IsDecision w v) → d.on.was.source ≡ id_in w i → function_of d.on.on.orb.function ≡ Some functions.Reconnect → OwnBy start before i d.on.on.orb.subject ⊎ (d.on.on.orb.subject ≡ 0)

module _ (units ready : ℕ) (more_units : 0 < units) (start : List Disk) (past : List Moment) (s : Scene) (later : List Moment) (t : Scene) {lines more : ℕ} (g : Goes past s later t) (h : Holding units ready start past lines s.world) (h_now : Holding units ready start later more t.world) (i : ℕ) (inside : i < length s.world.initiators) (within : i < length t.world.initiators) (few : FewLogins (hist later t.world)) (ids : HasFewIds (hist past s.world) s.world.target.logins) (behind : (id : ℕ) → OwnBy start (hist past s.world) i id → id ≤ s.world.target.logins.last) (seen : AreSeen start (hist past s.world) s.world) (helps : HelpsUnits start (hist past s.world) i s.world t.world) (own : AreOwnIds start (hist past s.world) i (id_in s.world i) s.world.target.logins) (on : OwnUnits start (hist past s.world) i s.world.target.logins) where
  abbrev w : WorldState
  w = s.world

  abbrev v : WorldState
  v = t.world

  abbrev before : List Moment
  before = hist past w

  abbrev now : List Moment
  now = hist later v

  abbrev old : Table
  old = w.target.logins

  abbrev new : Table
  new = v.target.logins

  some : 0 < length w.initiators
  some = omega (arith, inside)

  made : (d : IsDecision w v) → Decides d.on.on.orb d.on.on.source d.on.on.eui old new
  made d = decision_made units ready more_units start past s later t g h some d

  next : (d : IsDecision w v) → IsEntered (asked_by d.on.on.orb d.on.on.source d.on.on.eui) old new → new.last ≡ old.last + 1
  next d x = entered_next (asked_by d.on.on.orb d.on.on.source d.on.on.eui) old new ids.rising (last_few units ready more_units start past s later t g h h_now some few ids) x

  -- where a login is live, the ID of the node is as it was
  id_by : TurnOf i w (base_of g) v → (place : ℕ) (login : Login) → place_at new.places place ≡ Some login → is_live login ≡ true → id_in v i ≡ id_in w i
  id_by (by_target bus same call) place login e live = bus.id
  id_by (by_clearing c same told) place login e live = absurd (let no : false ≡ true = sym (c.held place login e) ∙ live in cc)
  id_by (by_own bus same call away) place login e live = bus.id
  id_by (by_sight c same told) place login e live = c.id

  -- ---- an ID of the initiator
  -- it was one before; or it is of a login that was decided for the initiator
  data IsOf (id : ℕ) : Type 0 where
    was : OwnBy start before i id → IsOf id
    is_new : (d : IsDecision w v) → d.on.was.source ≡ id_in w i → function_of d.on.on.orb.function ≡ Some functions.Login → id ≡ new.last → new.last ≡ old.last + 1 → IsOf id

  -- a live login of the node
  module _ (id : ℕ) (x : LivesWith start now i id) where
    there : place_at new.places x.place ≡ Some x.login
    there = sym (ap (λ (y : Table). place_at y.places x.place) h_now.at.agrees.table) ∙ x.there

    node_then : x.login.node ≡ id_in w i
    node_then = x.node ∙ (id_is units ready more_units start v h_now i within ∙ id_by (goes_turned units ready more_units start past s later t g h i inside) x.place x.login there x.live)

    stood : place_at old.places x.place ≡ Some x.login → IsOf id
    stood f = was (subst (OwnBy start before i) x.own (own.own x.place x.login f x.live node_then))

    returned : (d : IsDecision w v) → function_of d.on.on.orb.function ≡ Some functions.Reconnect → (place_at old.places x.place ≡ Some x.login) ⊎ ((x.login.login ≡ d.on.on.orb.subject) × (x.login.node ≡ d.on.on.source)) → IsOf id
    returned d f (inl y) = stood y
    returned d f (inr y) = by (helps.back d (sym d.on.source_is ∙ (sym y.1 ∙ node_then)) f)
      where
        by : OwnBy start before i d.on.on.orb.subject ⊎ (d.on.on.orb.subject ≡ 0) → IsOf id
        by (inl o) = was (subst (OwnBy start before i) (sym y.0 ∙ x.own) o)
        by (inr z) =
            let least = ((good_of units ready h_now.calls v.target more_units h_now.made).table.sound.numbered x.place x.login there).least in
            let is = y.0 in
            absurd (omega (arith, least, is, z))

    entered : (d : IsDecision w v) → function_of d.on.on.orb.function ≡ Some functions.Login → IsEntered (asked_by d.on.on.orb d.on.on.source d.on.on.eui) old new → IsNew (asked_by d.on.on.orb d.on.on.source d.on.on.eui) new.last x.login ⊎ (place_at old.places x.place ≡ Some x.login) → IsOf id
    entered d f y (inl n) = is_new d (sym d.on.source_is ∙ (sym n.node ∙ node_then)) f (sym x.own ∙ n.login) (next d y)
    entered d f y (inr z) = stood z

    decided : (d : IsDecision w v) → Decides d.on.on.orb d.on.on.source d.on.on.eui old new → IsOf id
    decided d (leaves y lives) = stood (lives x.place x.login there x.live)
    decided d (returns f y lives) = returned d f (lives x.place x.login there x.live)
    decided d (enters f y) = entered d f y (y.come x.place x.login there)

    lives_of : TableTurn w v → IsOf id
    lives_of (stays y lives) = stood (lives x.place x.login there x.live)
    lives_of (decides d) = decided d (made d)

  turn : TableTurn w v
  turn = table_turn units ready more_units start past s later t g h some

  own_of : (id : ℕ) → OwnBy start now i id → IsOf id
  own_of id o = by (own_back start i id before now (goes_next past s later t g) (aged_at units ready start w h) o)
    where
      by : OwnBy start before i id ⊎ LivesWith start now i id → IsOf id
      by (inl b) = was b
      by (inr x) = lives_of id x turn

  -- ---- the unit of a login
  made_on : (d : IsDecision w v) → AllOn d.on.on.orb old new
  made_on d =
      let on = d.on.on in
      subst (AllOn on.orb old) (sym d.on.left_is) (decide_on on.orb on.source on.eui old w.target.keys)

  abbrev Asked : Login → Type 0
  Asked login = is_asked_unit before i login.unit ≡ true

  module _ (place : ℕ) (login : Login) (e : place_at new.places place ≡ Some login) where
    -- of an ID that the initiator had
    module _ (o : OwnBy start before i login.login) where
      stayed : StaysOn old.places login → Asked login
      stayed c = subst (λ k. is_asked_unit before i k ≡ true) (sym c.unit) (on c.from c.before c.there (subst (OwnBy start before i) c.login o))

      lived : LivesStood old new → is_live login ≡ true → Asked login
      lived lives live = on place login (lives place login e live) o

      still_by : LivesStood old new → StaysOn old.places login ⊎ (is_live login ≡ true) → Asked login
      still_by lives (inl c) = stayed c
      still_by lives (inr live) = lived lives live

      entered_by : (d : IsDecision w v) → EntersOn d.on.on.orb new.last login → Decides d.on.on.orb d.on.on.source d.on.on.eui old new → Asked login
      entered_by d y (leaves x lives) = lived lives y.live
      entered_by d y (returns f x lives) = absurd (let no : Some functions.Login ≡ Some functions.Reconnect = sym y.function ∙ f in cc)
      entered_by d y (enters f x) =
          let l = behind login.login o in
          let a = y.login in
          let b = next d x in
          absurd (omega (arith, l, a, b))

      decided_by : (d : IsDecision w v) → StaysOn old.places login ⊎ EntersOn d.on.on.orb new.last login → Asked login
      decided_by d (inl c) = stayed c
      decided_by d (inr y) = entered_by d y (made d)

      asked_by_turn : TableTurn w v → Asked login
      asked_by_turn (stays x lives) = still_by lives (turn_stays units ready more_units start past s later t g h seen place login e)
      asked_by_turn (decides d) = decided_by d (made_on d place login e)

    -- of one that is new
    new_unit : (d : IsDecision w v) → d.on.was.source ≡ id_in w i → function_of d.on.on.orb.function ≡ Some functions.Login → login.login ≡ new.last → new.last ≡ old.last + 1 → StaysOn old.places login ⊎ EntersOn d.on.on.orb new.last login → Asked login
    new_unit d source f id last (inl c) =
        let l = ids.rising c.from c.before c.there in
        let a = c.login in
        absurd (omega (arith, l, a, id, last))
    new_unit d source f id last (inr y) = subst (λ k. is_asked_unit before i k ≡ true) (sym y.unit) (helps.unit d source f)

    asked_of : IsOf login.login → Asked login
    asked_of (was o) = asked_by_turn o turn
    asked_of (is_new d source f id last) = new_unit d source f id last (made_on d place login e)

  x : Grown before now
  x = grown before now (goes_next past s later t g)

  pub units_turn : OwnUnits start now i new
  units_turn place login e o = subst (λ ms. is_asked_unit ms i login.unit ≡ true) x.is (more_asked x.new before i login.unit (asked_of place login e (own_of login.login o)))
