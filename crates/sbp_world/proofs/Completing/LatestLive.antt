-- While a login is under way, each live login of its initiator's node has the FIFO of its ORB, in one generation: before the ORB is decided there is none, and the decision enters one with that FIFO.
use Rattle.sbp_world.proofs.Words.Std.{arith, ◌≡◌, ◌∙◌, refl, sym, ap, subst, inl, inr, ◌⊎◌, ℕ, ◌^◌, ◌<◌, nat_lt, Bool, true, false, List, length, Option, Some, None, nat_tests}
use Rattle.sbp_world.proofs.Words.Wire.{Action, LabelParts, Packet, Operation, judging_step, of_response, Sent, empty_outbox, Moment, terms}
use Rattle.sbp_world.proofs.Words.Target.{Login, Table, is_live, place_at, asked_by, function_of, Disk, NodeState, scene, answer_in, received, whole}
use Rattle.sbp_world.proofs.Words.Initiator.{start_of, management_orb, Running}
use Rattle.sbp_world.proofs.Words.Laws.{Underway, host_at, is_management, operation_of, management_orb_of, Host, place_bytes, place_held}
use Rattle.sbp_world.proofs.Words.World.{Core, operation_by, work_in, work_of, Scene, WorldState, initiator_at, HasNone, IsCalm, IsCalmBeside, IsTaken, IsUnderway, WasUnderway, underway_orb}
use Rattle.bus_memory.specs.declared.window.Window.TheVariants as windows
use Rattle.mgmt_agent.specs.declared.function.Function.TheVariants as functions
use Rattle.sbp_journal.specs.declared.event.Action.TheVariants as actions
use Rattle.sbp_journal.specs.declared.operation.Operation.TheVariants as operations
use Rattle.sbp_target.specs.declared.purpose.Purpose.TheVariants as purposes
use Rattle.sbp_world.proofs.Agents.Management.Holding.{Holding}
use Rattle.sbp_world.proofs.Agents.Management.Still.{hist}
use Rattle.sbp_world.proofs.Completing.PresentBased.{Kit}
use Rattle.sbp_world.proofs.Lists.Courses.{Goes}
use Rattle.sbp_world.proofs.Lists.IdsRise.{Decides, IsNew, decide_makes, enters, leaves, returns}
use Rattle.sbp_world.proofs.Lists.InBufferTurns.{has_not_given}
use Rattle.sbp_world.proofs.Lists.KeptTurns.{was_underway}
use Rattle.sbp_world.proofs.Lists.LiveCalls.{HasLogins, answered, delivery_logins, untouched}
use Rattle.sbp_world.proofs.Lists.LiveHandled.{own_handled}
use Rattle.sbp_world.proofs.Lists.LiveHelps.{ToTarget}
use Rattle.sbp_world.proofs.Lists.LiveJoined.{target_turn}
use Rattle.sbp_world.proofs.Lists.LiveOwn.{is_entry}
use Rattle.sbp_world.proofs.Lists.LiveOwn as own
use Rattle.sbp_world.proofs.Lists.LivePlaced.{placed_turns}
use Rattle.sbp_world.proofs.Lists.LiveReplies.{IsDecidedOn, Logged, granted, stands}
use Rattle.sbp_world.proofs.Lists.LiveRuns.{IsCored, base_of, goes_beside, goes_size, goes_turned}
use Rattle.sbp_world.proofs.Lists.LiveSteps.{ClaimsOf, Comes, GaveUpOf, id_in, own_of, zero_of}
use Rattle.sbp_world.proofs.Lists.LiveTurns.{SameBus, TargetCall, TurnOf, by_clearing, by_own, by_sight, by_target, delivers, good, keeps, still}
use Rattle.sbp_world.proofs.Lists.OwnPlaces.{function_back}

-- the FIFO that the ORB in the place of an operation names
abbrev pub placed_fifo : List Moment → ℕ → Underway → ℕ
placed_fifo past i underway = (management_orb (place_bytes (place_held past i underway.place))).fifo

abbrev pub HasItsFifo : List Moment → WorldState → ℕ → Type 0
HasItsFifo past w i =
    zero_of w ≡ own_of w i → (underway : Underway) → (host_at past i).operation ≡ Some underway → underway.operation ≡ operations.Login → (place : ℕ) (login : Login) → place_at w.target.logins.places place ≡ Some login → is_live login ≡ true → login.node ≡ id_in w i → login.fifo ≡ placed_fifo past i underway

-- the ORB of a login asks for one
login_function : (action : Action) (past : List Moment) (i : ℕ) (host : Host) (place : ℕ) → operation_of action ≡ Some operations.Login → (management_orb_of action past i host place).function ≡ 0
login_function (actions.Login unit reconnect exclusive password) past i host place e = refl
login_function (actions.Query unit) past i host place e = absurd (let no : Some operations.Query ≡ Some operations.Login = e in cc)
login_function actions.Reconnect past i host place e = absurd (let no : Some operations.Reconnect ≡ Some operations.Login = e in cc)
login_function actions.Logout past i host place e = absurd (let no : Some operations.Logout ≡ Some operations.Login = e in cc)
login_function action past i host place e = cc

asks_login : (past : List Moment) (i : ℕ) (underway : Underway) → IsUnderway past i underway → underway.operation ≡ operations.Login → (underway_orb past i underway).subject < 2 ^ 16 → function_of (management_orb (place_bytes (place_held past i underway.place))).function ≡ Some functions.Login
asks_login past i underway u login short =
    let o = underway_orb past i underway in
    let zero_function : o.function ≡ 0 = login_function underway.action _ i _ underway.place (u.action ∙ ap (λ x. Some x) login) in
    ap (λ held. function_of (management_orb (place_bytes held)).function) (u.held (ap is_management login)) ∙ (ap function_of (function_back o short (omega (arith, zero_function))) ∙ ap function_of zero_function)

entry_by : (kind : Operation) (operation : Option Running) → Some kind ≡ operation_by (work_in operation) → own.enters kind ≡ true → is_entry operation ≡ true
entry_by kind None e f = absurd (let no : Some kind ≡ None = e in cc)
entry_by kind (Some running) e f = let same : kind ≡ running.operation = cc in ap own.enters (sym same) ∙ f

-- ---- a turn
module _ (units ready : ℕ) (start : List Disk) (past : List Moment) (s : Scene) (later : List Moment) (t : Scene) {lines more : ℕ} (has : 0 < units) (g : Goes past s later t) (h : Holding units ready start past lines s.world) (h_now : Holding units ready start later more t.world) (q : Kit start (hist past s.world) s.world) (q_now : Kit start (hist later t.world) t.world) (i : ℕ) (inside : i < length s.world.initiators) (beside : IsCalmBeside (hist later t.world) i) (old : HasItsFifo (hist past s.world) s.world i) where
  abbrev w : WorldState
  w = s.world

  abbrev v : WorldState
  v = t.world

  abbrev before : List Moment
  before = hist past w

  abbrev now : List Moment
  now = hist later v

  within : i < length v.initiators
  within = subst (λ n. i < n) (sym (goes_size past s later t g)) inside

  calm : IsCalm before i
  calm = (goes_beside past s later t g i beside).0

  c : IsCored before i (initiator_at w i)
  c = q.with_held.known.cored i inside

  c_now : IsCored now i (initiator_at v i)
  c_now = q_now.with_held.known.cored i within

  module _ (together : zero_of v ≡ own_of v i) (u : Underway) (under : (host_at now i).operation ≡ Some u) (logs_in : u.operation ≡ operations.Login) (place : ℕ) (login : Login) (there : place_at v.target.logins.places place ≡ Some login) (live : is_live login ≡ true) (of : login.node ≡ id_in v i) where
    manages : is_management u.operation ≡ true
    manages = ap is_management logs_in

    running_is : Some u.operation ≡ operation_by (work_in (initiator_at v i).operation)
    running_is = sym (ap (λ (o : Option Underway). operation_by (work_of o)) under) ∙ ap (λ (x : Core). operation_by x.work) c_now.cored.core

    -- its write was not judged
    unjudged : (terms now).news u.first ≡ 0 → ⊥
    unjudged none = by ((q_now.live i within).lives.claims beside together)
      where
        by_early : IsTaken start now i ⊎ HasNone v.target.logins.places (id_in v i) → ⊥
        by_early (inl taken) =
            let same : taken.underway ≡ u = (let both : Some taken.underway ≡ Some u = sym taken.is ∙ under in cc) in
            let j = taken.judged in
            let f : (terms now).news taken.underway.first ≡ 0 = ap (λ (x : Underway). (terms now).news x.first) same ∙ none in
            omega (arith, j, f)
        by_early (inr n) = n.none place login there live of

        by : GaveUpOf v i ⊎ ClaimsOf start now v i → ⊥
        by (inl up) = has_not_given now v i c_now.cored u under manages up
        by (inr claims) = by_early (claims.early ((q_now.live i within).lives.aims.entry (entry_by u.operation (initiator_at v i).operation running_is (ap own.enters logs_in))))

    -- it was
    module _ (judged : 0 < (terms now).news u.first) where
      was : WasUnderway before now i u
      was = was_underway start past s later t g h i (q_now.with_held.more.given.laws.lasts i within) u under judged

      was_login : was.was.operation ≡ operations.Login
      was_login = sym was.same.operation ∙ logs_in

      fifo_same : placed_fifo now i u ≡ placed_fifo before i was.was
      fifo_same = ap (λ held. (management_orb (place_bytes held)).fifo) (was.places u.place) ∙ ap (λ p. (management_orb (place_bytes (place_held before i p))).fifo) was.same.place

      abbrev Goal : Type 0
      Goal = login.fifo ≡ placed_fifo now i u

      earlier : zero_of w ≡ own_of w i → id_in v i ≡ id_in w i → place_at w.target.logins.places place ≡ Some login → Goal
      earlier level id e = old level was.was was.is was_login place login e live (of ∙ id) ∙ sym fifo_same

      module _ (bus : SameBus i w v) (same : initiator_at v i ≡ initiator_at w i) where
        level : zero_of w ≡ own_of w i
        level = sym bus.zero ∙ (together ∙ bus.own)

        stood : place_at w.target.logins.places place ≡ Some login → Goal
        stood e = earlier level bus.id e

        module _ (serial : ℕ) (sent : Sent) (comes : Comes w (base_of g) v serial sent) (p : Packet) (label : LabelParts) (found : (judging_step w.target.layer sent.generation sent.bytes).0 ≡ of_response p label (Some purposes.Management)) (left : Table) (d : IsDecidedOn w.target.manager w.target.logins w.target.keys (answer_in p) left) (source : d.was.source ≡ id_in w i) where
          to : ToTarget start (base_of g) before now w v i
          to = target_turn units ready start past s later t has g h h_now q.with_held q_now.with_held q.live i inside beside placed_turns level bus same comes.notes

          up : GaveUpOf w i → ⊥
          up = has_not_given before w i c.cored was.was was.is (ap is_management was_login)

          mine : d.on.orb ≡ management_orb (place_bytes (place_held before i was.was.place))
          mine =
              let x = to.placed d.was d.is source in
              let taken = own_handled units ready start w h i inside level d.was d.is source x.place x.small x.orb (q.with_held.more.given.managed i inside calm) c.ready c.cored up d.unwritten in
              let same_op : taken.taken.underway ≡ was.was = (let both : Some taken.taken.underway ≡ Some was.was = sym taken.taken.is ∙ was.is in cc) in
              to.brings serial sent comes p label found left d source taken.taken.underway taken.taken.is taken.taken.manages (x.orb ∙ ap (λ n. start_of (windows.Management n)) taken.place_is)
              ∙ ap (λ (y : Underway). management_orb (place_bytes (place_held before i y.place))) same_op

          function_is : function_of d.on.orb.function ≡ Some functions.Login
          function_is = ap (λ o. function_of o.function) mine ∙ asks_login before i was.was (q.with_held.more.given.underway i inside was.was was.is) was_login (to.short was.was was.is (ap is_management was_login))

        -- a delivery
        module _ (serial : ℕ) (sent : Sent) (comes : Comes w (base_of g) v serial sent) where
          abbrev node : NodeState
          node = (received comes.told sent.generation sent.bytes (whole (scene w.target empty_outbox) comes.disks)).1.node

          then : place_at node.logins.places place ≡ Some login
          then = sym (ap (λ (n : NodeState). place_at n.logins.places place) comes.is) ∙ there

          module _ (p : Packet) (label : LabelParts) (found : (judging_step w.target.layer sent.generation sent.bytes).0 ≡ of_response p label (Some purposes.Management)) (d : IsDecidedOn w.target.manager w.target.logins w.target.keys (answer_in p) node.logins) where
            source_of : login.node ≡ d.on.source → d.was.source ≡ id_in w i
            source_of e = sym d.source_is ∙ (sym e ∙ (of ∙ bus.id))

            come : IsNew (asked_by d.on.orb d.on.source d.on.eui) node.logins.last login ⊎ (place_at w.target.logins.places place ≡ Some login) → Goal
            come (inl n) = n.fifo ∙ (ap (λ o. o.fifo) (mine serial sent comes p label found node.logins d (source_of n.node)) ∙ sym fifo_same)
            come (inr e) = stood e

            back : function_of d.on.orb.function ≡ Some functions.Reconnect → (place_at w.target.logins.places place ≡ Some login) ⊎ ((login.login ≡ d.on.orb.subject) × (login.node ≡ d.on.source)) → Goal
            back f (inl e) = stood e
            back f (inr y) =
                let l = function_is serial sent comes p label found node.logins d (source_of y.1) in
                absurd (let no : Some functions.Reconnect ≡ Some functions.Login = sym f ∙ l in cc)

            decided : Decides d.on.orb d.on.source d.on.eui w.target.logins node.logins → Goal
            decided (leaves x lives) = stood (lives place login then live)
            decided (returns f x lives) = back f (lives place login then live)
            decided (enters f x) = come (x.come place login then)

            by_decision : Goal
            by_decision = decided (subst (Decides d.on.orb d.on.source d.on.eui w.target.logins) (sym d.left_is) (decide_makes d.on.orb d.on.source d.on.eui w.target.logins w.target.keys))

          equal : node.logins ≡ w.target.logins → Goal
          equal e = stood (sym (ap (λ (x : Table). place_at x.places place) e) ∙ then)

          logged : (p : Packet) (label : LabelParts) → (judging_step w.target.layer sent.generation sent.bytes).0 ≡ of_response p label (Some purposes.Management) → Logged w.target.manager w.target.logins w.target.keys (answer_in p) node.logins → Goal
          logged p label found (stands e) = equal e
          logged p label found (granted d) = by_decision p label found d

          by_logins : HasLogins w.target sent.generation sent.bytes node.logins → Goal
          by_logins (untouched e) = equal e
          by_logins (answered p label found l) = logged p label found l

        by_call : TargetCall w (base_of g) v.fresh v.target → Goal
        by_call (still x told) = stood ((x.logins login.node).brings place login there live refl)
        by_call (delivers serial sent found to_is told disks node_is notes first) =
            by_logins serial sent (record { found = found; to_is = to_is; told = told; disks = disks; is = node_is; notes = notes; first = first })
            (delivery_logins w.target (good units ready has start w h) (keeps units ready has start w h) sent.generation sent.bytes told disks)

      by_turn : TurnOf i w (base_of g) v → Goal
      by_turn (by_target bus same call) = by_call bus same call
      by_turn (by_clearing x same told) = absurd (let no : false ≡ true = sym (x.held place login there) ∙ live in cc)
      by_turn (by_own bus same call away) = earlier (sym bus.zero ∙ (together ∙ bus.own)) bus.id (sym (ap (λ (n : NodeState). place_at n.logins.places place) same) ∙ there)
      by_turn (by_sight x same away) = absurd (let no : Some u.operation ≡ None = running_is ∙ ap (λ (o : Option Running). operation_by (work_in o)) x.reset.none in cc)

      pub when_judged : Goal
      when_judged = by_turn (goes_turned units ready has start past s later t g h i inside)

    by : (b : Bool) → nat_lt 0 ((terms now).news u.first) ≡ b → login.fifo ≡ placed_fifo now i u
    by true e = when_judged (grind (arith, nat_tests))
    by false e = absurd (unjudged (grind (arith, nat_tests)))

    has_it : login.fifo ≡ placed_fifo now i u
    has_it = by (nat_lt 0 ((terms now).news u.first)) refl

  pub turn_fifo : HasItsFifo now v i
  turn_fifo together u under logs_in place login there live of = has_it together u under logs_in place login there live of
