-- A turn keeps of the logins of an initiator's node: a login that has an ID of it has the FIFO of a login, and each live login of its node has one; where few logins were
-- given, a login that is decided for it has the FIFO of a login, and a reconnect that is decided for it is of such an ID.
use Rattle.sbp_world.proofs.Words.Std.{arith, ◌≡◌, ◌∙◌, inl, inr, ◌⊎◌, refl, sym, ap, subst, ℕ, ◌+◌, ◌<◌, ◌≤◌, true, false, List, length, Some}
use Rattle.sbp_world.proofs.Words.Wire.{Moment}
use Rattle.sbp_world.proofs.Words.Target.{Login, Table, is_live, place_at, function_of, Disk, asked_by}
use Rattle.sbp_world.proofs.Words.World.{Scene, WorldState, FewLogins, HasFewIds, IsLoginFifo, AreOwnIds, LivesWith, OwnBy}
use Rattle.sbp_world.proofs.Agents.Management.Holding.{Holding, good_of}
use Rattle.sbp_world.proofs.Agents.Management.Still.{hist}
use Rattle.mgmt_agent.specs.declared.function.Function.TheVariants as functions
use Rattle.sbp_world.proofs.Lists.Courses.{Goes}
use Rattle.sbp_world.proofs.Lists.IdsOwned.{aged_at, own_back, own_on}
use Rattle.sbp_world.proofs.Lists.IdsRise.{Came, Decides, IsEntered, IsNew, LivesStood, enters, entered_next, leaves, returns}
use Rattle.sbp_world.proofs.Lists.IdsRuns.{IsDecision, TableTurn, decides, decision_made, last_few, stays, table_turn}
use Rattle.sbp_world.proofs.Lists.Judging.{goes_next}
use Rattle.sbp_world.proofs.Lists.KeptTurns.{id_is}
use Rattle.sbp_world.proofs.Lists.LiveRuns.{base_of, goes_turned}
use Rattle.sbp_world.proofs.Lists.LiveSteps.{id_in}
use Rattle.sbp_world.proofs.Lists.LiveTurns.{TurnOf, by_clearing, by_own, by_sight, by_target}

-- what is to be known of a decision of the turn
pub record HelpsIds (start : List Disk) (before : List Moment) (i : ℕ) (w v : WorldState) : Type 0 where
  pub good : (d : IsDecision w v) → d.on.was.source ≡ id_in w i → function_of d.on.on.orb.function ≡ Some functions.Login → IsLoginFifo d.on.on.orb.fifo
  pub back : (d : IsDecision w v) → d.on.was.source ≡ id_in w i → function_of d.on.on.orb.function ≡ Some functions.Reconnect → OwnBy start before i d.on.on.orb.subject ⊎ (d.on.on.orb.subject ≡ 0)

module _ (units ready : ℕ) (more_units : 0 < units) (start : List Disk) (past : List Moment) (s : Scene) (later : List Moment) (t : Scene) {lines more : ℕ} (g : Goes past s later t) (h : Holding units ready start past lines s.world) (h_now : Holding units ready start later more t.world) (i : ℕ) (inside : i < length s.world.initiators) (within : i < length t.world.initiators) (few : FewLogins (hist later t.world)) (ids : HasFewIds (hist past s.world) s.world.target.logins) (behind : (id : ℕ) → OwnBy start (hist past s.world) i id → id ≤ s.world.target.logins.last) (helps : HelpsIds start (hist past s.world) i s.world t.world) (own : AreOwnIds start (hist past s.world) i (id_in s.world i) s.world.target.logins) where
  abbrev w : WorldState
  w = s.world

  abbrev v : WorldState
  v = t.world

  abbrev before : List Moment
  before = hist past w

  abbrev now : List Moment
  now = hist later v

  abbrev old : Table
  old = w.target.logins

  abbrev new : Table
  new = v.target.logins

  some : 0 < length w.initiators
  some = omega (arith, inside)

  on : (id : ℕ) → OwnBy start before i id → OwnBy start now i id
  on id o = own_on start i id past s later t g o

  made : (d : IsDecision w v) → Decides d.on.on.orb d.on.on.source d.on.on.eui old new
  made d = decision_made units ready more_units start past s later t g h some d

  next : (d : IsDecision w v) → IsEntered (asked_by d.on.on.orb d.on.on.source d.on.on.eui) old new → new.last ≡ old.last + 1
  next d x = entered_next (asked_by d.on.on.orb d.on.on.source d.on.on.eui) old new ids.rising (last_few units ready more_units start past s later t g h h_now some few ids) x

  -- where a login is live, the ID of the node is as it was
  id_by : TurnOf i w (base_of g) v → (place : ℕ) (login : Login) → place_at new.places place ≡ Some login → is_live login ≡ true → id_in v i ≡ id_in w i
  id_by (by_target bus same call) place login e live = bus.id
  id_by (by_clearing c same told) place login e live = absurd (let no : false ≡ true = sym (c.held place login e) ∙ live in cc)
  id_by (by_own bus same call away) place login e live = bus.id
  id_by (by_sight c same told) place login e live = c.id

  -- a live login of the node
  module _ (place : ℕ) (login : Login) (e : place_at new.places place ≡ Some login) (live : is_live login ≡ true) (node : login.node ≡ id_in v i) where
    node_then : login.node ≡ id_in w i
    node_then = node ∙ id_by (goes_turned units ready more_units start past s later t g h i inside) place login e live

    stood : place_at old.places place ≡ Some login → OwnBy start before i login.login
    stood f = own.own place login f live node_then

    returned : (d : IsDecision w v) → function_of d.on.on.orb.function ≡ Some functions.Reconnect → (place_at old.places place ≡ Some login) ⊎ ((login.login ≡ d.on.on.orb.subject) × (login.node ≡ d.on.on.source)) → OwnBy start before i login.login
    returned d f (inl x) = stood x
    returned d f (inr x) = by (helps.back d (sym d.on.source_is ∙ (sym x.1 ∙ node_then)) f)
      where
        by : OwnBy start before i d.on.on.orb.subject ⊎ (d.on.on.orb.subject ≡ 0) → OwnBy start before i login.login
        by (inl o) = subst (OwnBy start before i) (sym x.0) o
        by (inr z) =
            let least = ((good_of units ready h_now.calls v.target more_units h_now.made).table.sound.numbered place login e).least in
            let is = x.0 in
            absurd (omega (arith, least, is, z))

    -- it is the new one
    is_new : (d : IsDecision w v) → IsNew (asked_by d.on.on.orb d.on.on.source d.on.on.eui) new.last login → d.on.was.source ≡ id_in w i
    is_new d n = sym d.on.source_is ∙ (sym n.node ∙ node_then)

    new_own : (d : IsDecision w v) → IsNew (asked_by d.on.on.orb d.on.on.source d.on.on.eui) new.last login → OwnBy start now i login.login
    new_own d n = inl (record {
      place = place;
      login = login;
      there = ap (λ (x : Table). place_at x.places place) h_now.at.agrees.table ∙ e;
      live = live;
      node = node ∙ sym (id_is units ready more_units start v h_now i within);
      own = refl;
    })

    entered_own : (d : IsDecision w v) → IsNew (asked_by d.on.on.orb d.on.on.source d.on.on.eui) new.last login ⊎ (place_at old.places place ≡ Some login) → OwnBy start now i login.login
    entered_own d (inl n) = new_own d n
    entered_own d (inr f) = on login.login (stood f)

    decided_own : (d : IsDecision w v) → Decides d.on.on.orb d.on.on.source d.on.on.eui old new → OwnBy start now i login.login
    decided_own d (leaves x lives) = on login.login (stood (lives place login e live))
    decided_own d (returns f x lives) = on login.login (returned d f (lives place login e live))
    decided_own d (enters f x) = entered_own d (x.come place login e)

    live_own : TableTurn w v → OwnBy start now i login.login
    live_own (stays x lives) = on login.login (stood (lives place login e live))
    live_own (decides d) = decided_own d (made d)

  -- what its node had as the turn ended
  module _ (id : ℕ) (x : LivesWith start now i id) where
    there : place_at new.places x.place ≡ Some x.login
    there = sym (ap (λ (y : Table). place_at y.places x.place) h_now.at.agrees.table) ∙ x.there

    node_now : x.login.node ≡ id_in v i
    node_now = x.node ∙ id_is units ready more_units start v h_now i within

    was_so : OwnBy start before i x.login.login → OwnBy start before i id
    was_so o = subst (OwnBy start before i) x.own o

    stood_so : place_at old.places x.place ≡ Some x.login → OwnBy start before i id
    stood_so f = was_so (stood x.place x.login there x.live node_now f)

  -- ---- a login with an ID of the initiator
  module _ (place : ℕ) (login : Login) (e : place_at new.places place ≡ Some login) where
    kept : Came old.places place login → OwnBy start before i login.login → IsLoginFifo login.fifo
    kept c o = subst IsLoginFifo (sym c.fifo) (own.fifo place c.before c.there (subst (OwnBy start before i) c.login o))

    left_so : (lives : LivesStood old new) → OwnBy start before i login.login ⊎ LivesWith start now i login.login → OwnBy start before i login.login
    left_so lives (inl o) = o
    left_so lives (inr x) = stood_so login.login x (lives x.place x.login (there login.login x) x.live)

    back_so : (d : IsDecision w v) → function_of d.on.on.orb.function ≡ Some functions.Reconnect → ((p : ℕ) (y : Login) → place_at new.places p ≡ Some y → is_live y ≡ true → (place_at old.places p ≡ Some y) ⊎ ((y.login ≡ d.on.on.orb.subject) × (y.node ≡ d.on.on.source)))
        → OwnBy start before i login.login ⊎ LivesWith start now i login.login → OwnBy start before i login.login
    back_so d f lives (inl o) = o
    back_so d f lives (inr x) = was_so login.login x (returned x.place x.login (there login.login x) x.live (node_now login.login x) d f (lives x.place x.login (there login.login x) x.live))

    -- where one is entered
    module _ (d : IsDecision w v) (f : function_of d.on.on.orb.function ≡ Some functions.Login) (x : IsEntered (asked_by d.on.on.orb d.on.on.source d.on.on.eui) old new) where
      new_fifo : IsNew (asked_by d.on.on.orb d.on.on.source d.on.on.eui) new.last login → OwnBy start before i login.login ⊎ LivesWith start now i login.login → IsLoginFifo login.fifo
      new_fifo n (inl o) =
          let l = behind login.login o in
          let a = n.login in
          let b = next d x in
          absurd (omega (arith, l, a, b))
      new_fifo n (inr y) = by (x.come y.place y.login (there login.login y))
        where
          by : IsNew (asked_by d.on.on.orb d.on.on.source d.on.on.eui) new.last y.login ⊎ (place_at old.places y.place ≡ Some y.login) → IsLoginFifo login.fifo
          by (inl m) = subst IsLoginFifo (sym n.fifo) (helps.good d (is_new y.place y.login (there login.login y) y.live (node_now login.login y) d m) f)
          by (inr z) =
              let l = ids.rising y.place y.login z in
              let a = y.own in
              let b = n.login in
              let c = next d x in
              absurd (omega (arith, l, a, b, c))

      old_fifo : place_at old.places place ≡ Some login → OwnBy start before i login.login ⊎ LivesWith start now i login.login → IsLoginFifo login.fifo
      old_fifo z (inl o) = own.fifo place login z o
      old_fifo z (inr y) = by (x.come y.place y.login (there login.login y))
        where
          by : IsNew (asked_by d.on.on.orb d.on.on.source d.on.on.eui) new.last y.login ⊎ (place_at old.places y.place ≡ Some y.login) → IsLoginFifo login.fifo
          by (inl m) =
              let l = ids.rising place login z in
              let a = y.own in
              let b = m.login in
              let c = next d x in
              absurd (omega (arith, l, a, b, c))
          by (inr f) = own.fifo place login z (stood_so login.login y f)

      entered_fifo : OwnBy start before i login.login ⊎ LivesWith start now i login.login → IsNew (asked_by d.on.on.orb d.on.on.source d.on.on.eui) new.last login ⊎ (place_at old.places place ≡ Some login) → IsLoginFifo login.fifo
      entered_fifo o (inl n) = new_fifo n o
      entered_fifo o (inr z) = old_fifo z o

    decided_fifo : (d : IsDecision w v) → OwnBy start before i login.login ⊎ LivesWith start now i login.login → Decides d.on.on.orb d.on.on.source d.on.on.eui old new → IsLoginFifo login.fifo
    decided_fifo d o (leaves x lives) = kept (x.came place login e) (left_so lives o)
    decided_fifo d o (returns f x lives) = kept (x.came place login e) (back_so d f lives o)
    decided_fifo d o (enters f x) = entered_fifo d f x o (x.come place login e)

    fifo_by : OwnBy start before i login.login ⊎ LivesWith start now i login.login → TableTurn w v → IsLoginFifo login.fifo
    fifo_by o (stays x lives) = kept (x.came place login e) (left_so lives o)
    fifo_by o (decides d) = decided_fifo d o (made d)

  turn : TableTurn w v
  turn = table_turn units ready more_units start past s later t g h some

  pub own_ids_turn : AreOwnIds start now i (id_in v i) new
  own_ids_turn = record {
    fifo = λ place login e o. fifo_by place login e (own_back start i login.login before now (goes_next past s later t g) (aged_at units ready start w h) o) turn;
    own = λ place login e live node. live_own place login e live node turn;
  }
