-- A reply to the management operation leaves all at rest.
use Rattle.std.proofs.Common.{arith, ◌≡◌, refl, sym, ap, ◌∙◌, subst, ℕ, zero, suc, ◌+◌, ◌<◌, ◌≤◌, nat_eq, nat_lt, Bool, true, false, cond, List, length, Option, Some, None}
use Rattle.std.proofs.lemmas.Bool.Decides.{nat_tests}
use Rattle.std.proofs.Math.ListN.{length-set}
use Rattle.login_table.specs.declared.login.Login.{Login}
use Rattle.login_table.specs.Sound.{IsTable}
use Rattle.login_table.specs.Laws.{UnitsBelow}
use Rattle.login_table.specs.Table.{Table, place_at, is_live}
use Rattle.orb_layout.specs.declared.ask.Ask.{Ask}
use Rattle.orb_layout.specs.declared.ask.Ask.TheVariants.{Read, Write, Nothing}
use Rattle.rbc_disk.specs.Units.{UnitState}
use Rattle.command_agent.specs.declared.phase.Phase.{Phase}
use Rattle.command_agent.specs.declared.phase.Phase.TheVariants as phases
use Rattle.command_agent.specs.Machine.{state_in, is_sent}
use Rattle.command_agent.specs.Steps.{is_reset, abort_step, reset_step}
use Rattle.mgmt_agent.specs.declared.decision.Decision.{Decision}
use Rattle.mgmt_agent.specs.declared.decision.Effect.{Effect}
use Rattle.mgmt_agent.specs.declared.decision.Effect.TheVariants as effects
use Rattle.mgmt_agent.specs.declared.decision.ManagerStep.{ManagerStep}
use Rattle.mgmt_agent.specs.declared.operation.Operation.{Operation}
use Rattle.mgmt_agent.specs.Effects.{PlaceBelow}
use Rattle.mgmt_agent.specs.Machine.{Asks, source_in}
use Rattle.mgmt_agent.specs.Machine as management
use Rattle.sbp_journal.specs.declared.cause.CutCause.{CutCause}
use Rattle.sbp_journal.specs.declared.cause.CutCause.TheVariants as cuts
use Rattle.sbp_journal.specs.Outgoings.{OutboxState}
use Rattle.sbp_target.specs.declared.desk.Desk.{Desk}
use Rattle.sbp_target.specs.declared.purpose.Sent.{Sent}
use Rattle.sbp_target.specs.Nodes.{NodeState, Scene, scene, desk_at, login_at, with_desk, with_agent}
use Rattle.sbp_target.specs.Agents.{disowned as given_up, cut, cut_node}
use Rattle.sbp_target.specs.Desks.{reset_desk}
use Rattle.sbp_target.specs.Units.{is_cut, cut_at, cut_from, cut_all, clear_unit, clear_from}
use Rattle.sbp_target.specs.Management.{place_in, cut_placed, left_desk, tell_failed, effect_by, decided_by, with_manager, ask_manager, managed_with}
use Rattle.sbp_target.proofs.Histories.Stepped.{is_asked, is_bare, Carries}
use Rattle.sbp_target.proofs.Histories.Seats.{Lives, Seat, split, seat_moved}
use Rattle.sbp_target.proofs.Histories.Following.{node_of, Fits, Mid, spares_self, mid_step, desk_here, some_true, same_place}
use Rattle.sbp_target.proofs.Histories.Calling.{not_eight, Good, peer_of, leave_out, take_in, cut_good}
use Rattle.sbp_target.proofs.Histories.Managing.{IsOf, Stays, Due, with_rest, asks_good, unasked_good}
use Rattle.sbp_target.proofs.Histories.Effecting.{effect_in, leaves, Moves}

-- ---- a desk changes, and not what its agent waits for
pub desk_good : (q : ℕ) (node : NodeState) → q < 8 → (g : Good node) → (d : Desk) → Fits d → d.main ≡ (desk_at node q).main → d.ahead ≡ (desk_at node q).ahead → (is_reset (state_in d.agent.phase) ≡ false → is_reset (state_in (desk_at node q).agent.phase) ≡ false) → Good (with_desk node q d)
desk_good q node b g d fits em ea r =
    let m = leave_out q node g.lives g.request g.mid in
    let here = desk_here q node g.lives g.request m b node.layer d in
    let seat = subst (λ (y : Option Sent). Seat q y d.ahead (node_of (login_at node q)) g.lives) (sym em) (subst (λ (y : Option Sent). Seat q (desk_at node q).main y (node_of (login_at node q)) g.lives) (sym ea) (g.mid.seats q b)) in
    record {
      lives = g.lives;
      request = g.request;
      mid = take_in q (with_desk node q d) g.lives g.request b (mid_step q node g.lives g.request m b node.layer d g.lives g.mid.known (spares_self q g.lives) seat)
          (subst (λ (y : Desk). Fits y) (sym here) fits)
          (λ e. let i = g.mid.served q b (not_eight q b) (r (sym (ap (λ (y : Desk). is_reset (state_in y.agent.phase)) here) ∙ e)) in record { login = i.login; is = i.is; live = i.live; on_unit = i.on_unit });
      keys = g.keys;
      source = g.source;
      table = g.table;
      below = g.below;
    }

fits_of : (q : ℕ) (node : NodeState) → q < 8 → Good node → Fits (desk_at node q)
fits_of q node b g = g.mid.fits q b (not_eight q b)

pub marked_good : (q : ℕ) (node : NodeState) → q < 8 → (g : Good node) → (pointer : Option ℕ) (x : Bool) → Good (with_desk node q (record (desk_at node q) { pointer = pointer; is_enabled = x }))
marked_good q node b g pointer x =
    let f = fits_of q node b g in
    desk_good q node b g (record (desk_at node q) { pointer = pointer; is_enabled = x }) (record { agent = f.agent; main = f.main; ahead = f.ahead }) refl refl (λ e. e)

abort_good : (q : ℕ) (node : NodeState) → q < 8 → (g : Good node) → (orb : ℕ) → Good (with_agent node q (abort_step (desk_at node q).agent orb))
unfolding abort_step
abort_good q node b g orb =
    let f = fits_of q node b g in
    desk_good q node b g (record (desk_at node q) { agent = abort_step (desk_at node q).agent orb }) (record { agent = record { bare = f.agent.bare; next = f.agent.next; limit = f.agent.limit }; main = f.main; ahead = f.ahead }) refl refl (λ e. e)

pub units_good : (node : NodeState) (us : List UnitState) → length us ≡ length node.units → Good node → Good (record node { units = us })
units_good node us e g = record {
  lives = g.lives;
  request = g.request;
  mid = record {
    known = g.mid.known;
    size = g.mid.size;
    seats = g.mid.seats;
    fits = g.mid.fits;
    served = λ p s n r. let i = g.mid.served p s n r in record { login = i.login; is = i.is; live = i.live; on_unit = subst (λ (k : ℕ). i.login.unit < k) (sym e) i.on_unit };
    hand = g.mid.hand;
    beyond = g.mid.beyond;
  };
  keys = g.keys ∙ sym e;
  source = g.source;
  table = g.table;
  below = g.below;
}

-- ---- other logins, among which each live one of an agent that is not in RESET stands as before
untrue : false ≡ true → ⊥
untrue x = cc

reset_idle : (phase : Phase) → is_reset (state_in phase) ≡ true → (is_sent phase ≡ false) × (phase ≡ phases.Reset)
reset_idle phases.Reset e = (refl, refl)
reset_idle phases.Fetching e = absurd (untrue e)
reset_idle phases.ReadingTable e = absurd (untrue e)
reset_idle (phases.ReadingData wanted) e = absurd (untrue e)
reset_idle phases.Answering e = absurd (untrue e)
reset_idle phases.WritingStatus e = absurd (untrue e)
reset_idle phases.WritingLastStatus e = absurd (untrue e)
reset_idle phases.ReadingNext e = absurd (untrue e)
reset_idle phases.Suspended e = absurd (untrue e)
reset_idle phases.Dead e = absurd (untrue e)

pub relogin : (node : NodeState) (table : Table) → (g : Good node) → IsTable table → UnitsBelow (length node.keys) table → ((p : ℕ) → p < 8 → is_reset (state_in (desk_at node p).agent.phase) ≡ false → (login : Login) → place_at node.logins.places p ≡ Some login → is_live login ≡ true → place_at table.places p ≡ Some login) → Good (record node { logins = table })
relogin node table g t u k = record {
  lives = g.lives;
  request = g.request;
  mid = record {
    known = g.mid.known;
    size = g.mid.size;
    seats = λ p s.
        split (is_reset (state_in (desk_at node p).agent.phase)) (Seat p (desk_at node p).main (desk_at node p).ahead (node_of (place_at table.places p)) g.lives)
        (λ r.
        let f = g.mid.fits p s (not_eight p s) in
        let idle = reset_idle (desk_at node p).agent.phase r in
        let main : (desk_at node p).main ≡ None = some_true (desk_at node p).main (f.main ∙ idle.0) in
        let ahead : (desk_at node p).ahead ≡ None = some_true (desk_at node p).ahead (f.ahead ∙ f.agent.bare (ap (λ (x : Phase). is_bare x) idle.1)) in
        moved_seat p (desk_at node p).main (desk_at node p).ahead (node_of (login_at node p)) (node_of (place_at table.places p)) g.lives main ahead (g.mid.seats p s))
        (λ r.
        let i = g.mid.served p s (not_eight p s) r in
        let same : login_at node p ≡ place_at table.places p = i.is ∙ sym (k p s r i.login i.is i.live) in
        subst (λ (l : Option Login). Seat p (desk_at node p).main (desk_at node p).ahead (node_of l) g.lives) same (g.mid.seats p s));
    fits = g.mid.fits;
    served = λ p s n r. let i = g.mid.served p s n r in record { login = i.login; is = k p s r i.login i.is i.live; live = i.live; on_unit = i.on_unit };
    hand = g.mid.hand;
    beyond = g.mid.beyond;
  };
  keys = g.keys;
  source = g.source;
  table = t;
  below = u;
}
  where
    moved_seat : (p : ℕ) (main ahead : Option Sent) (to other : Option ℕ) (lives : Lives) → main ≡ None → ahead ≡ None → Seat p main ahead to lives → Seat p main ahead other lives
    moved_seat p main ahead to other lives em ea s =
        let bare = subst (λ (y : Option Sent). Seat p None y to lives) ea (subst (λ (y : Option Sent). Seat p y ahead to lives) em s) in
        subst (λ (y : Option Sent). Seat p y ahead other lives) (sym em) (subst (λ (y : Option Sent). Seat p None y other lives) (sym ea) (seat_moved p lives to other bare))

-- ---- the effects, whatever the management agent is
abbrev pub Calm : NodeState → Type 0
Calm node = Good (record node { manager = management.new_machine })

calm_cut : (cause : CutCause) (q : ℕ) (s : Scene) → q < 8 → Calm s.node → Calm (cut cause q s).node
unfolding cut
calm_cut cause q s b c = cut_good q (record s.node { manager = management.new_machine }) b c

calm_if : (x : Bool) (y z : Scene) → Calm y.node → Calm z.node → Calm (cond x y z).node
calm_if true y z c d = c
calm_if false y z c d = d

calm_cuts : (left place : ℕ) (cause : CutCause) (unit : Option ℕ) (s : Scene) → place + left ≤ 8 → Calm s.node → Calm (cut_from left place cause unit s).node
unfolding cut_from cut_at
calm_cuts zero place cause unit s b c = c
calm_cuts (suc left) place cause unit s b c =
    calm_cuts left (place + 1) cause unit (cut_at cause unit place s) (omega arith) (calm_if (is_cut unit (login_at s.node place)) (cut cause place s) s (calm_cut cause place s (omega arith) c) c)

calm_clear : (unit : ℕ) (s : Scene) → Calm s.node → Calm (clear_unit unit s).node
unfolding clear_unit
calm_clear unit s c = units_good (record s.node { manager = management.new_machine }) _ (length-set s.node.units unit _) c

calm_clears : (left unit : ℕ) (s : Scene) → Calm s.node → Calm (clear_from left unit s).node
unfolding clear_from
calm_clears zero unit s c = c
calm_clears (suc left) unit s c = calm_clears left (unit + 1) (clear_unit unit s) (calm_clear unit s c)

-- the management agent stays
abbrev Manager : Scene → Scene → Type 0
Manager s t = t.node.manager ≡ s.node.manager

manager_cut : (cause : CutCause) (q : ℕ) (s : Scene) → Manager s (cut cause q s)
unfolding cut
manager_cut cause q s = refl

manager_if : (x : Bool) (s y z : Scene) → Manager s y → Manager s z → Manager s (cond x y z)
manager_if true s y z c d = c
manager_if false s y z c d = d

manager_cuts : (left place : ℕ) (cause : CutCause) (unit : Option ℕ) (s : Scene) → Manager s (cut_from left place cause unit s)
unfolding cut_from cut_at
manager_cuts zero place cause unit s = refl
manager_cuts (suc left) place cause unit s =
    manager_cuts left (place + 1) cause unit (cut_at cause unit place s) ∙ manager_if (is_cut unit (login_at s.node place)) s (cut cause place s) s (manager_cut cause place s) refl

manager_clear : (unit : ℕ) (s : Scene) → Manager s (clear_unit unit s)
unfolding clear_unit
manager_clear unit s = refl

manager_clears : (left unit : ℕ) (s : Scene) → Manager s (clear_from left unit s)
unfolding clear_from
manager_clears zero unit s = refl
manager_clears (suc left) unit s = manager_clears left (unit + 1) (clear_unit unit s) ∙ manager_clear unit s

manager_placed : (place : Option ℕ) (cause : CutCause) (s : Scene) → Manager s (cut_placed place cause s)
manager_placed None cause s = refl
manager_placed (Some place) cause s = manager_cut cause place s

manager_effect : (effect : Effect) (subject : ℕ) (s : Scene) → Manager s (effect_by effect subject s)
manager_effect effects.Nothing subject s = refl
manager_effect (effects.Entered place replaced) subject s = refl
manager_effect (effects.Back place) subject s = refl
manager_effect (effects.Left place) subject s = manager_placed (place_in place) cuts.Logout s
manager_effect (effects.Abort place orb) subject s = refl
manager_effect (effects.AbortSet place) subject s = manager_placed (place_in place) cuts.AbortSet s
manager_effect (effects.UnitReset unit) subject s =
    let t = cut_all cuts.UnitReset (Some unit) s in
    manager_if (nat_lt unit (length t.node.units)) s (clear_unit unit t) t (manager_clear unit t ∙ manager_cuts 8 0 cuts.UnitReset (Some unit) s) (manager_cuts 8 0 cuts.UnitReset (Some unit) s)
manager_effect effects.TargetReset subject s =
    let t = cut_all cuts.TargetReset None s in manager_clears (length t.node.units) 0 t ∙ manager_cuts 8 0 cuts.TargetReset None s

-- a place below 8 is one
in_place : (place : ℕ) → place < 8 → place_in place ≡ Some place
in_place place b = by (nat_lt place 8) (grind (arith, nat_tests))
  where
    by : (x : Bool) → x ≡ true → cond x (Some place) None ≡ Some place
    by true e = refl
    by false e = cc

-- what is known of the logins that a step leaves, and of its effect
pub record Decided (node : NodeState) (effect : Effect) (left : Table) : Type 0 where
  pub place : PlaceBelow effect
  pub moves : Moves node.logins effect left
  pub table : IsTable left
  pub below : UnitsBelow (length node.keys) left

other_than : (x y : Bool) → (x ≡ true → y ≡ true) → y ≡ false → x ≡ false
other_than true y h e = absurd (both y (h refl) e)
  where
    both : (y : Bool) → y ≡ true → y ≡ false → ⊥
    both true e f = cc
    both false e f = cc
other_than false y h e = refl

cut_reset : (place p : ℕ) (node : NodeState) → place < 8 → Good node → nat_eq p place ≡ true → is_reset (state_in (desk_at (cut_node place node) p).agent.phase) ≡ true
unfolding reset_step
cut_reset place p node b g e =
    let d = reset_desk (desk_at node place) in
    let layer = given_up (desk_at node place).ahead (given_up (desk_at node place).main node.layer) in
    let here = desk_here place node g.lives g.request (leave_out place node g.lives g.request g.mid) b layer d in
    ap (λ (k : ℕ). is_reset (state_in (desk_at (cut_node place node) k).agent.phase)) (same_place p place e) ∙ ap (λ (y : Desk). is_reset (state_in y.agent.phase)) here

module _ (node : NodeState) (manager : management.Machine) (logins : Table) (o : OutboxState) (g : Calm node) where
  abbrev Then : Scene
  Then = scene (with_manager node (manager, logins)) o

  entered : (effect : Effect) → Decided node effect logins → ((p : ℕ) → leaves effect p ≡ false) → Calm (with_manager node (manager, logins))
  entered effect d n = relogin (record node { manager = management.new_machine }) logins g d.table d.below (λ p s r login e l. d.moves.stays p login e l (n p))

  left_calm : (place : ℕ) → Decided node (effects.Left place) logins → Calm (left_desk place (cut cuts.Logout place Then).node)
  unfolding cut
  left_calm place d =
      let was = record node { manager = management.new_machine } in
      let c = cut_good place was d.place g in
      let r = relogin (cut_node place was) logins c d.table d.below (λ p s r login e l. d.moves.stays p login e l (other_than (nat_eq p place) (is_reset (state_in (desk_at (cut_node place was) p).agent.phase)) (cut_reset place p was d.place g) r)) in
      marked_good place (record (cut_node place was) { logins = logins }) d.place r (desk_at (cut_node place was) place).pointer false

  effect_calm : (effect : Effect) (subject : ℕ) → Decided node effect logins → Calm (effect_by effect subject Then).node
  effect_calm effects.Nothing subject d = entered effects.Nothing d (λ p. refl)
  effect_calm (effects.Entered place replaced) subject d =
      marked_good place (record (with_manager node (manager, logins)) { manager = management.new_machine }) d.place (entered (effects.Entered place replaced) d (λ p. refl)) None false
  effect_calm (effects.Back place) subject d = entered (effects.Back place) d (λ p. refl)
  effect_calm (effects.Abort place orb) subject d =
      abort_good place (record (with_manager node (manager, logins)) { manager = management.new_machine }) d.place (entered (effects.Abort place orb) d (λ p. refl)) orb
  effect_calm (effects.AbortSet place) subject d =
      subst (λ (x : Option ℕ). Calm (cut_placed x cuts.AbortSet Then).node) (sym (in_place place d.place)) (calm_cut cuts.AbortSet place Then d.place (entered (effects.AbortSet place) d (λ p. refl)))
  effect_calm (effects.UnitReset unit) subject d =
      let t = cut_all cuts.UnitReset (Some unit) Then in
      let c = calm_cuts 8 0 cuts.UnitReset (Some unit) Then (omega arith) (entered (effects.UnitReset unit) d (λ p. refl)) in
      calm_if (nat_lt unit (length t.node.units)) (clear_unit unit t) t (calm_clear unit t c) c
  effect_calm effects.TargetReset subject d =
      let t = cut_all cuts.TargetReset None Then in
      calm_clears (length t.node.units) 0 t (calm_cuts 8 0 cuts.TargetReset None Then (omega arith) (entered effects.TargetReset d (λ p. refl)))
  effect_calm (effects.Left place) subject d =
      subst (λ (x : Option ℕ). Calm (left_desk place (cut_placed x cuts.Logout Then).node)) (sym (in_place place d.place)) (left_calm place d)

-- ---- a step of the operation
pub no_request : (r : Option Sent) → None ≡ peer_of r → r ≡ None
no_request None e = refl
no_request (Some sent) e = cc

-- the node with its own management agent again, which has no request
mid_of : (node : NodeState) (g : Calm node) → Mid 8 node g.lives None
mid_of node g =
    with_rest (record node { manager = management.new_machine }) node.layer node.manager node.logins g.lives None
    (subst (λ (r : Option Sent). Mid 8 (record node { manager = management.new_machine }) g.lives r) (no_request g.request g.source) g.mid) refl g.mid.known

over_good : (node : NodeState) → Calm node → source_in node.manager.operation ≡ None → Good node
over_good node g e = record { lives = g.lives; request = None; mid = mid_of node g; keys = g.keys; source = e; table = g.table; below = g.below }

due : (source : ℕ) (node : NodeState) → Calm node → source_in node.manager.operation ≡ Some source → Due source node
due source node g e = record { lives = g.lives; mid = mid_of node g; op = e; keys = g.keys; table = g.table; below = g.below }

source_of : (operation : Option Operation) (source : ℕ) (ask : Ask) (outgoing : ℕ) → is_asked ask ≡ true → Asks ask operation outgoing → IsOf source operation → source_in operation ≡ Some source
source_of (Some operation) source ask outgoing e a i = ap (λ (s : ℕ). Some s) i
source_of None source Nothing outgoing e a i = cc
source_of None source (Read offset size) outgoing e a i = absurd a
source_of None source (Write offset size) outgoing e a i = absurd a

asked_by_step : (source : ℕ) (ask : Ask) (manager : management.Machine) (s : Scene) → Calm s.node → s.node.manager ≡ manager → Asks ask manager.operation (length manager.outgoing) → IsOf source manager.operation → Carries ask manager.outgoing → Good (ask_manager source ask s).node
asked_by_step source Nothing manager s c e a i k = unasked_good source s (over_good s.node c (ap (λ (m : management.Machine). source_in m.operation) e ∙ ap (λ (x : Option Operation). source_in x) a))
asked_by_step source (Read offset size) manager s c e a i k =
    asks_good source (Read offset size) s k refl (due source s.node c (ap (λ (m : management.Machine). source_in m.operation) e ∙ source_of manager.operation source (Read offset size) (length manager.outgoing) refl a i))
asked_by_step source (Write offset size) manager s c e a i k =
    asks_good source (Write offset size) s (subst (λ (m : management.Machine). length m.outgoing ≤ 2048) (sym e) k) refl (due source s.node c (ap (λ (m : management.Machine). source_in m.operation) e ∙ source_of manager.operation source (Write offset size) (length manager.outgoing) refl a i))

decided_calm : (d : Option Decision) (effect : Effect) (source : ℕ) (node : NodeState) (manager : management.Machine) (logins : Table) (o : OutboxState) → Calm node → Decided node (effect_in d effect) logins → Calm (decided_by d effect source (scene (with_manager node (manager, logins)) o)).node
unfolding decided_by
decided_calm None effect source node manager logins o g d = entered node manager logins o g effects.Nothing d (λ p. refl)
decided_calm (Some x) effect source node manager logins o g d = effect_calm node manager logins o g effect x.subject d

decided_manager : (d : Option Decision) (effect : Effect) (source : ℕ) (s : Scene) → Manager s (decided_by d effect source s)
unfolding decided_by
decided_manager None effect source s = refl
decided_manager (Some x) effect source s = manager_effect effect x.subject s

pub managed_good : (source : ℕ) (s : Scene) (r : ManagerStep × (management.Machine × Table)) → Calm s.node → Decided s.node (effect_in r.0.decided r.0.effect) r.1.1 → Asks r.0.ask r.1.0.operation (length r.1.0.outgoing) → Stays source (r.0, r.1.0) → Good (managed_with source s r).node
managed_good source s (step, (manager, logins)) g d a k =
    let t = decided_by step.decided step.effect source (scene (with_manager s.node (manager, logins)) s.outbox) in
    asked_by_step source step.ask manager (scene t.node (tell_failed source step.failed t.outbox)) (decided_calm step.decided step.effect source s.node manager logins s.outbox g d)
    (decided_manager step.decided step.effect source (scene (with_manager s.node (manager, logins)) s.outbox)) a k.of k.carried
