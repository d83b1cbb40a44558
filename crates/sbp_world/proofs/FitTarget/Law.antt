-- Each call of a target is what the wire takes a call of a node for.
use Rattle.sbp_world.proofs.Words.Std.{arith, ◌≡◌, refl, sym, ◌∙◌, subst, ℕ, zero, suc, ◌+◌, ◌^◌, ◌<◌, ◌≤◌, nat_eq, nat_lt, Bool, true, false, cond, List, [], ◌∷◌, length, map, get_or, set, Option, Some, None, Result, Ok, Err, get_or-eq_default, get_or-map, length-map, nat_tests}
use Rattle.sbp_world.proofs.Words.Wire.{LabelParts, Packet, header_in, AreSmall, IsLayer, ArePlainSides, IsDelivery, IsExpiry, as_before, as_decided, is_reply, Stale, Layer, Finding, of_generation, of_grammar, of_label, of_response, of_again, of_request, expiring_step, judging_step, seeing_step, seen_in_generation, CutCause, Judged, empty_outbox}
use Rattle.sbp_world.proofs.Words.Target.{Login, Table, enter_step, held, new_table, place_at, Operation, made, Disk, Told, Desk, Purpose, Sent, address_error, cut, disabled, new_desk, reset_desk, NodeState, Scene, scene, desk_at, login_at, Whole, whole, scene_of, answered, is_barred, serve, cut_all, cut_at, cut_from, after_reset, answer_in, cleared_node, expired, expired_in, judged_scene, new_node, received, received_as, reset_by, seen, ticked, with_layer, ready_from, target_eui, ready_login, sees, sets_key, ticks, alone}
use Rattle.sbp_world.proofs.Words.World.{FitsAgent, FitsLogin, FitsOperation, FitsSeat, Holds, IsOfKnown, FittingLaw, TargetFits}
use Rattle.bus_transactions.proofs.FitCalls.{Answering, Asking, Calm, no_ask, no_leaving}
use Rattle.bus_transactions.proofs.FitJudged.{IsFoundAs, bytes_of, found_as, no_gives, not_complete, source_fits, spelled}
use Rattle.bus_transactions.proofs.Fits.{no_bytes}
use Rattle.bus_transactions.proofs.FitSteps.{disowns_same, expires_same, goes, judges_same, new_goes, replicate_or, sees_goes}
use Rattle.label_table.specs.History as wire
use Rattle.mgmt_agent.specs.Machine as management
use Rattle.sbp_journal.specs.declared.cause.Cause.TheVariants as ignored
use Rattle.sbp_journal.specs.declared.cause.CutCause.TheVariants as cuts
use Rattle.sbp_journal.specs.declared.cause.Judged.TheVariants as judged
use Rattle.sbp_target.specs.Serving.{request_step}
use Rattle.sbp_world.specs.FitTarget.{AreIds, Expires, Fits, MayReceive, Receives}
use Rattle.sbp_world.proofs.FitTarget.Agents.{new_fits, quads_bytes}
use Rattle.sbp_world.proofs.FitTarget.Demands.{answer_small}
use Rattle.sbp_world.proofs.FitTarget.Made.{answering_keeps, answers_all, asking_keeps, calm_leaves}
use Rattle.sbp_world.proofs.FitTarget.Manager.{enters, ticks as turns_ticks}
use Rattle.sbp_world.proofs.FitTarget.Nodes.{fits_layer, seat_reset}
use Rattle.sbp_world.proofs.FitTarget.Pass.{In, Leaves, Said, cuts_all}
use Rattle.sbp_world.proofs.FitTarget.Replies.{concludes, times_out}
use Rattle.sbp_world.proofs.FitTarget.Served.{answers_at, empty_fits, serves}
use Rattle.sbp_world.proofs.Common.{same_number}

-- ---- a delivery
module _ (known : ℕ → Type 0) (ids : AreIds known) (told : Option Told) (disks : List Disk) (generation : ℕ) (bytes : List ℕ) (node : NodeState) (h : Holds known node) (may : MayReceive known told generation bytes node) where
  abbrev before : Layer Purpose
  before = (judging_step node.layer generation bytes).1

  abbrev start : Whole
  start = with_layer before (whole (scene node empty_outbox) disks)

  comes : IsLayer before
  comes = goes node.layer (wire.judges generation bytes) (judges_same node.layer generation bytes) h.layer

  start_fits : Fits known start.node
  start_fits = fits_layer known node before h.fits

  record Done (f : Finding Purpose) (r : Judged × Whole) : Type 0 where
    delivers : IsDelivery known f r.0 bytes before r.1.node.layer r.1.outbox.packets
    small : AreSmall r.1.outbox.packets
    plain : ArePlainSides r.1.outbox.sides
    fits : Fits known r.1.node
    layer : IsLayer r.1.node.layer

  calm : In known (Calm known ids before) (scene_of start)
  calm = record { made = no_leaving known ids before comes; fits = start_fits }

  serves_if : (b : Bool) (p : Packet) → is_barred start.node p ≡ b → IsFoundAs node.layer generation bytes (of_request p) → Done (of_request p) (judged_scene (cond b (judged.Ignored ignored.Login, answered p bytes address_error [] (scene_of start)) (judged.Got, serve p bytes (scene_of start))) start)
  serves_if true p e r =
      let reply = as_decided (Some ignored.Login) in
      let source = source_fits bytes p r.read may.bytes_fit in
      let g = answers_at known (Calm known ids before) (Answering known ids before reply p bytes) p bytes (is_reply reply) (answers_all known ids before reply p bytes source r.request) address_error [] (scene_of start) refl
      (empty_fits p address_error (no_gives p address_error [] (not_complete 6)) (omega arith)) calm in
      record {
        delivers = record { cause = Some ignored.Login; may = refl; judged_is = refl; answers = g.made.answers };
        small = g.made.beside.small;
        plain = g.made.beside.plain;
        fits = g.fits;
        layer = g.made.beside.comes;
      }
  serves_if false p e r =
      let reply = as_decided None in
      let source = source_fits bytes p r.read may.bytes_fit in
      let g = serves known (Calm known ids before) (Answering known ids before reply p bytes) p bytes (is_reply reply) (answers_all known ids before reply p bytes source r.request) (λ rcode. refl) (calm_leaves known ids before) (answering_keeps known ids before reply p bytes)
      (scene_of start) (bytes_of p bytes r.request.spelled may.bytes_fit) (may.source r.current p r.read) e calm in
      record {
        delivers = record { cause = None; may = refl; judged_is = refl; answers = g.made.answers };
        small = g.made.beside.small;
        plain = g.made.beside.plain;
        fits = g.fits;
        layer = g.made.beside.comes;
      }

  done_as : (f : Finding Purpose) → IsFoundAs node.layer generation bytes f → Done f (received_as told bytes f start)
  unfolding request_step
  done_as of_generation r = record { delivers = record { judged_is = refl; layer_is = refl; packets_are = refl }; small = tt; plain = tt; fits = start_fits; layer = comes }
  done_as of_grammar r = record { delivers = record { judged_is = refl; layer_is = refl; packets_are = refl }; small = tt; plain = tt; fits = start_fits; layer = comes }
  done_as of_label r = record { delivers = record { judged_is = refl; layer_is = refl; packets_are = refl }; small = tt; plain = tt; fits = start_fits; layer = comes }
  done_as (of_response p label purpose) r =
      let g = concludes known (Asking known ids before) (asking_keeps known ids before) told purpose (header_in p).source label (answer_in p) start may.told_fits
      (answer_small p (bytes_of p bytes (spelled bytes p r) may.bytes_fit)) (record { made = no_ask known ids before comes; fits = start_fits }) in
      record {
        delivers = record { judged_is = refl; asks = g.made.asks };
        small = g.made.beside.small;
        plain = g.made.beside.plain;
        fits = g.fits;
        layer = g.made.beside.comes;
      }
  done_as (of_again p rcode) r =
      let reply = as_before rcode in
      let source = source_fits bytes p r.0.read may.bytes_fit in
      let g = answers_at known (Calm known ids before) (Answering known ids before reply p bytes) p bytes (is_reply reply) (answers_all known ids before reply p bytes source r.0.request) rcode [] (scene_of start) (same_number rcode) r.1 calm in
      record {
        delivers = record { judged_is = refl; answers = g.made.answers };
        small = g.made.beside.small;
        plain = g.made.beside.plain;
        fits = g.fits;
        layer = g.made.beside.comes;
      }
  done_as (of_request p) r = serves_if (is_barred start.node p) p refl r

  delivered : Receives known told disks generation bytes node
  unfolding received
  delivered =
      let d = done_as (judging_step node.layer generation bytes).0 (found_as node.layer generation bytes h.layer.filter) in
      record { delivers = d.delivers; small = d.small; plain = d.plain; holds = record { fits = d.fits; layer = d.layer } }

-- ---- a time-out
module _ (known : ℕ → Type 0) (ids : AreIds known) (peer : ℕ) (label : LabelParts) (node : NodeState) (h : Holds known node) where
  record Late (r : Result (Option Purpose) Stale × Layer Purpose) (s : Scene) : Type 0 where
    expires : IsExpiry known r.0 r.1 s.node.layer s.outbox.packets
    small : AreSmall s.outbox.packets
    plain : ArePlainSides s.outbox.sides
    fits : Fits known s.node
    layer : IsLayer s.node.layer

  late_by : (r : Result (Option Purpose) Stale × Layer Purpose) → IsLayer r.1 → Late r (expired_in r peer label (scene node empty_outbox)).1
  late_by (Ok purpose, layer) c =
      let s = scene (record node { layer = layer }) empty_outbox in
      let g = times_out known (Asking known ids layer) (asking_keeps known ids layer) purpose peer label s (record { made = no_ask known ids layer c; fits = fits_layer known node layer h.fits }) in
      record { expires = g.made.asks; small = g.made.beside.small; plain = g.made.beside.plain; fits = g.fits; layer = g.made.beside.comes }
  late_by (Err stale, layer) c = record { expires = (refl, refl); small = tt; plain = tt; fits = fits_layer known node layer h.fits; layer = c }

  late : Expires known peer label node
  unfolding expired
  late =
      let d = late_by (expiring_step node.layer peer label) (goes node.layer (wire.lets_expire peer label) (expires_same node.layer peer label) h.layer) in
      record { expires = d.expires; small = d.small; plain = d.plain; holds = record { fits = d.fits; layer = d.layer } }

-- ---- a generation is seen
-- calls led to the layer
abbrev Comes : Said
Comes layer packets told = IsLayer layer

comes_on : (known : ℕ → Type 0) → Leaves known Comes
comes_on known = record {
  tells = λ layer packets told side p m. m;
  disowns = λ layer packets told peer label n m. goes layer (wire.disowns peer label) (disowns_same layer peer label) m;
}

abbrev IsIdle : Desk → Type 0
IsIdle d = (d.main ≡ None) × (d.ahead ≡ None)

put_here : {A : Type 0} (P : A → Type 0) (xs : List A) (q : ℕ) (y d : A) → P y → P d → P (get_or (set xs q y) q d)
put_here P [] q y d new none = none
put_here P (x ∷ xs) zero y d new none = new
put_here P (x ∷ xs) (suc q) y d new none = put_here P xs q y d new none

put_there : {A : Type 0} (P : A → Type 0) (xs : List A) (q p : ℕ) (y d : A) → P y → P (get_or xs p d) → P (get_or (set xs q y) p d)
put_there P [] q p y d new old = old
put_there P (x ∷ xs) zero zero y d new old = new
put_there P (x ∷ xs) zero (suc p) y d new old = old
put_there P (x ∷ xs) (suc q) zero y d new old = old
put_there P (x ∷ xs) (suc q) (suc p) y d new old = put_there P xs q p y d new old

cut_idle : (cause : CutCause) (q p : ℕ) (s : Scene) → ((p ≡ q → ⊥) → IsIdle (desk_at s.node p)) → IsIdle (desk_at (cut cause q s).node p)
unfolding cut
cut_idle cause q p s old = by (nat_eq p q) refl
  where
    same : nat_eq p q ≡ true → q ≡ p
    same e = grind (arith, nat_tests)

    other : nat_eq p q ≡ false → p ≡ q → ⊥
    other e f = grind (arith, nat_tests)

    by : (b : Bool) → nat_eq p q ≡ b → IsIdle (desk_at (cut cause q s).node p)
    by true e = subst (λ (n : ℕ). IsIdle (desk_at (cut cause q s).node n)) (same e) (put_here IsIdle s.node.desks q (reset_desk (desk_at s.node q)) new_desk (refl, refl) (refl, refl))
    by false e = put_there IsIdle s.node.desks q p (reset_desk (desk_at s.node q)) new_desk (refl, refl) (old (other e))

cuts_idle : (left place : ℕ) (cause : CutCause) (s : Scene) → ((p : ℕ) → p < place → IsIdle (desk_at s.node p)) → (p : ℕ) → p < place + left → IsIdle (desk_at (cut_from left place cause None s).node p)
unfolding cut_from cut_at
cuts_idle zero place cause s h p b = h p (omega arith)
cuts_idle (suc left) place cause s h p b =
    cuts_idle left (place + 1) cause (cut cause place s) (λ q c. cut_idle cause place q s (λ n. h q (below q c n))) p (omega arith)
  where
    below : (q : ℕ) → q < place + 1 → (q ≡ place → ⊥) → q < place
    below q c n = grind (arith, nat_tests)

cuts_manager : (left place : ℕ) (cause : CutCause) (s : Scene) → (cut_from left place cause None s).node.manager ≡ s.node.manager
unfolding cut_from cut_at cut
cuts_manager zero place cause s = refl
cuts_manager (suc left) place cause s = cuts_manager left (place + 1) cause (cut cause place s)

held_fits : (known other : ℕ → Type 0) (login : Option Login) → FitsLogin known login → FitsLogin other (held login)
held_fits known other None f = tt
held_fits known other (Some login) f = (f.0, λ e. absurd (off e))
  where
    off : false ≡ true → ⊥
    off e = cc

module _ (known other : ℕ → Type 0) (generation id : ℕ) (node : NodeState) (small : id < 2 ^ 16) (later : nat_lt node.layer.generation generation ≡ true) (h : Holds known node) where
  abbrev cleared : Scene
  cleared = scene (cleared_node (seen_in_generation node.layer generation id) node) empty_outbox

  cleared_fits : Fits known cleared.node
  cleared_fits = let f = h.fits in record { manager = record { operation = tt; outgoing = f.manager.outgoing }; logins = f.logins; size = f.size; agents = f.agents; seats = f.seats; rom = f.rom }

  cleared_layer : IsLayer cleared.node.layer
  unfolding seeing_step
  cleared_layer = subst (λ (b : Bool). IsLayer (cond {A = Bool × Layer Purpose} b (true, seen_in_generation node.layer generation id) (false, node.layer)).1) later (sees_goes node.layer generation id small h.layer)

  cut_cleared : In known Comes (cut_all cuts.Reset None cleared)
  cut_cleared = cuts_all known Comes (comes_on known) cuts.Reset None cleared (record { made = cleared_layer; fits = cleared_fits })

  idle_all : (p : ℕ) → IsIdle (desk_at (cut_all cuts.Reset None cleared).node p)
  idle_all p = by (nat_lt p 8) refl
    where
      size : length (cut_all cuts.Reset None cleared).node.desks ≡ 8
      size = cut_cleared.fits.size

      none : nat_lt p 8 ≡ false → length (cut_all cuts.Reset None cleared).node.desks ≤ p
      none e = let l = size in grind (arith, nat_tests)

      few : nat_lt p 8 ≡ true → p < 8
      few e = grind (arith, nat_tests)

      never : (q : ℕ) → q < 0 → IsIdle (desk_at cleared.node q)
      never q b = absurd (off b)
        where
          off : q < 0 → ⊥
          off c = omega arith

      by : (b : Bool) → nat_lt p 8 ≡ b → IsIdle (desk_at (cut_all cuts.Reset None cleared).node p)
      by true e = cuts_idle 8 0 cuts.Reset cleared never p (few e)
      by false e = subst (λ (d : Desk). IsIdle d) (sym (get_or-eq_default (cut_all cuts.Reset None cleared).node.desks new_desk (none e))) (refl, refl)

  seated : (d : Desk) (login : Option Login) → IsIdle d → FitsSeat other (disabled d).main (disabled d).ahead login
  seated d login i = record { main = λ sent e. absurd (off sent (sym i.0 ∙ e)); ahead = λ sent e. absurd (off sent (sym i.1 ∙ e)) }
    where
      off : (sent : Sent) → None ≡ Some sent → ⊥
      off sent e = cc

  after_fits : Fits other (after_reset (cut_all cuts.Reset None cleared).node)
  after_fits =
      let t = cut_all cuts.Reset None cleared in
      let f = cut_cleared.fits in
      record {
        manager = record { operation = subst (λ (m : management.Machine). FitsOperation other m.operation) (sym (cuts_manager 8 0 cuts.Reset cleared)) tt; outgoing = f.manager.outgoing };
        logins = λ p. subst (λ (x : Option Login). FitsLogin other x) (sym (get_or-map held t.node.logins.places p None)) (held_fits known other (login_at t.node p) (f.logins p));
        size = length-map t.node.desks disabled ∙ f.size;
        agents = λ p. subst (λ (d : Desk). FitsAgent d.agent) (sym (get_or-map disabled t.node.desks p new_desk)) (f.agents p);
        seats = λ p. subst (λ (d : Desk). FitsSeat other d.main d.ahead (place_at (map held t.node.logins.places) p)) (sym (get_or-map disabled t.node.desks p new_desk)) (seated (desk_at t.node p) (place_at (map held t.node.logins.places) p) (idle_all p));
        rom = f.rom;
      }

  sight : Holds other (alone (sees generation id) node).node
  unfolding seen seeing_step
  sight =
      subst (λ (b : Bool). Holds other (reset_by (cond {A = Bool × Layer Purpose} b (true, seen_in_generation node.layer generation id) (false, node.layer)) (scene node empty_outbox)).1.node) (sym later)
      (record { fits = after_fits; layer = cut_cleared.made })

old_sight : (known : ℕ → Type 0) (generation id : ℕ) (node : NodeState) → nat_lt node.layer.generation generation ≡ false → Holds known node → Holds known (alone (sees generation id) node).node
unfolding seen seeing_step
old_sight known generation id node old h =
    subst (λ (b : Bool). Holds known (reset_by (cond {A = Bool × Layer Purpose} b (true, seen_in_generation node.layer generation id) (false, node.layer)) (scene node empty_outbox)).1.node) (sym old)
    (record { fits = fits_layer known node node.layer h.fits; layer = h.layer })

-- ---- a second, and a key
second : (known : ℕ → Type 0) (node : NodeState) → Holds known node → Holds known (alone ticks node).node
unfolding ticked
second known node h =
    let f = h.fits in
    let t = turns_ticks known node.logins in
    record {
      fits = record {
        manager = f.manager;
        logins = λ p. (t p).fits (f.logins p);
        size = f.size;
        agents = f.agents;
        seats = λ p. let s = f.seats p in record {
          main = λ sent e. let m = s.main sent e in (m.0, (t p).of m.1);
          ahead = λ sent e. let m = s.ahead sent e in (m.0, (t p).of m.1);
        };
        rom = f.rom;
      };
      layer = h.layer;
    }

keyed : (known : ℕ → Type 0) (unit : ℕ) (key : List ℕ) (node : NodeState) → Holds known node → Holds known (alone (sets_key unit key) node).node
keyed known unit key node h =
    let f = h.fits in
    record { fits = record { manager = f.manager; logins = f.logins; size = f.size; agents = f.agents; seats = f.seats; rom = f.rom }; layer = h.layer }

-- ---- a new target
readies : (known : ℕ → Type 0) (ready left initiator : ℕ) (table : Table) → ((i : ℕ) → i < ready → known (0xffc1 + i)) → initiator + left ≡ ready → ((p : ℕ) → FitsLogin known (place_at table.places p)) → (p : ℕ) → FitsLogin known (place_at (ready_from left initiator table).places p)
unfolding ready_from
readies known ready zero initiator table k e f p = f p
readies known ready (suc left) initiator table k e f p =
    readies known ready left (initiator + 1) (enter_step table (ready_login initiator)).1 k (omega arith)
    (λ q. (enters known table (ready_login initiator) (k initiator (omega arith)) (omega arith) q).fits (f q)) p

new_fit : (known : ℕ → Type 0) (units ready : ℕ) → ((i : ℕ) → i < ready → known (0xffc1 + i)) → Holds known (new_node units ready)
new_fit known units ready k = record {
  fits = record {
    manager = record { operation = tt; outgoing = no_bytes };
    logins = readies known ready ready 0 new_table k (omega arith) (λ p. subst (λ (x : Option Login). FitsLogin known x) (sym (replicate_or 8 p None)) tt);
    size = refl;
    agents = λ p. subst (λ (d : Desk). FitsAgent d.agent) (sym (replicate_or 8 p new_desk)) new_fits;
    seats = λ p. subst (λ (d : Desk). FitsSeat known d.main d.ahead (login_at (new_node units ready) p)) (sym (replicate_or 8 p new_desk)) (seat_reset known (login_at (new_node units ready) p));
    rom = quads_bytes (made target_eui units);
  };
  layer = new_goes 0xffc0 (omega arith);
}

-- ---- more nodes are known
module _ (known other : ℕ → Type 0) (more : (id : ℕ) → known id → other id) where
  more_login : (login : Option Login) → FitsLogin known login → FitsLogin other login
  more_login None f = tt
  more_login (Some login) f = (f.0, λ e. more login.node (f.1 e))

  more_of : (login : Option Login) → IsOfKnown known login → IsOfKnown other login
  more_of None f = tt
  more_of (Some login) f = more login.node f

  more_operation : (operation : Option Operation) → FitsOperation known operation → FitsOperation other operation
  more_operation None f = tt
  more_operation (Some operation) f = (more operation.source f.0, f.1)

  widened : (node : NodeState) → Holds known node → Holds other node
  widened node h =
      let f = h.fits in
      record {
        fits = record {
          manager = record { operation = more_operation node.manager.operation f.manager.operation; outgoing = f.manager.outgoing };
          logins = λ p. more_login (login_at node p) (f.logins p);
          size = f.size;
          agents = f.agents;
          seats = λ p. let s = f.seats p in record {
            main = λ sent e. let m = s.main sent e in (more sent.peer m.0, more_of (login_at node p) m.1);
            ahead = λ sent e. let m = s.ahead sent e in (more sent.peer m.0, more_of (login_at node p) m.1);
          };
          rom = f.rom;
        };
        layer = h.layer;
      }

pub target_fits : (known other : ℕ → Type 0) → TargetFits known other
target_fits known other = record {
  begins = new_fit known;
  deliveries = λ told disks generation bytes node ids h may. delivered known ids told disks generation bytes node h may;
  expiries = λ peer label node ids h. late known ids peer label node h;
  sights = λ generation id node small later h. sight known other generation id node small later h;
  old_sights = old_sight known;
  seconds = second known;
  keys = keyed known;
  widens = λ node more h. widened known other more node h;
}

pub fitting_law : FittingLaw
fitting_law known other = target_fits (λ id. known id ≡ true) (λ id. other id ≡ true)
