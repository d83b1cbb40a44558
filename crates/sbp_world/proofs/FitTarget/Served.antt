-- A request that is served takes what is said before its answer to what is said behind it, by an answer that fits.
use Rattle.sbp_world.proofs.Words.Std.{arith, ◌≡◌, refl, sym, ap, ◌∙◌, subst, ℕ, ◌^◌, ◌<◌, ◌&&◌, not, Bool, true, false, cond, List, [], ◌∷◌, ◌++◌, length, take, drop, Option, Some, None, Result, Ok, Err, big_bytes}
use Rattle.sbp_world.proofs.Words.Wire.{Packet, header_in, AreBytes, FitsAnswer, answer_to, Gives, Layer, answering_step, Outgoing, Side, OutboxState}
use Rattle.sbp_world.proofs.Words.Target.{Login, if_of_node, is_live, Busy, PointRefusal, Machine, present_of, state_in, asks, doorbell_step, point_step, Access, AgentRegister, Demand, Desk, Purpose, complete, conflict_error, demand_of, is_lock, offset_in, reached, register_at, row_of, pointed_desk, answer_step, answered_by, with_side, NodeState, Scene, scene, desk_at, login_at, with_desk, with_agent, cut, orb_of, is_barred_at, answered, state_number, last_pointer, pointer_bytes, asked_in, pointed_by, point, rung_by, ring, enabled, accessed_by, started_by, start, served_as, serve, is_barred}
use Rattle.sbp_world.proofs.Words.Initiator.{Ask, OrbPointer, IsPointer, pointer_high, pointer_low}
use Rattle.sbp_world.proofs.Words.World.{FitsAgent, FitsLogin, IsOfKnown}
use Rattle.std.proofs.Common.{is_none}
use Rattle.bus_transactions.proofs.Fits.{bytes_append, bytes_drop, bytes_quad, bytes_take, no_bytes}
use Rattle.mgmt_agent.specs.Machine as management
use Rattle.command_agent.specs.declared.step.PointRefusal.TheVariants as refusals
use Rattle.sbp_journal.specs.declared.cause.CutCause.TheVariants as cuts
use Rattle.sbp_journal.specs.declared.side.Side.TheVariants as sides
use Rattle.target_base.specs.declared.address.Access.TheVariants as accesses
use Rattle.target_base.specs.declared.address.Demand.TheVariants as demands
use Rattle.sbp_world.specs.FitTarget.{Fits}
use Rattle.sbp_world.proofs.FitTarget.Agents.{FitsAsk, FitsPoint, FitsRing, point_fits, ring_fits}
use Rattle.bus_transactions.proofs.FitJudged.{BytesOf, no_gives}
use Rattle.sbp_world.proofs.FitTarget.Demands.{FitsAccess, FitsDemand, demand_fits}
use Rattle.sbp_world.proofs.FitTarget.Manager.{FitsStart, start_fits}
use Rattle.sbp_world.proofs.FitTarget.Nodes.{fits_desk, fits_layer}
use Rattle.sbp_world.proofs.FitTarget.Pass.{In, IsServed, Keeps, Leaves, Said, anywhere, cuts_at, follows}
use Rattle.sbp_world.proofs.FitTarget.Replies.{asks_manager}
use Rattle.sbp_target.proofs.Reached.{demand_place}
use Rattle.sbp_world.proofs.FitInitiator.Memory.{taken_length}

-- an answer to this request with such an rcode takes P to Q
pub record Answers (P Q : Said) (request : Packet) (bytes : List ℕ) (stated : ℕ → Bool) : Type 0 where
  pub answers : (layer : Layer Purpose) (packets : List Outgoing) (told : List Side) (rcode : ℕ) (given : List ℕ) → stated rcode ≡ true → FitsAnswer request rcode given → P layer packets told → Q (answering_step layer request bytes rcode given).1 (packets ++ answer_to request (answering_step layer request bytes rcode given).0 ∷ []) told

-- nothing is given
pub empty_fits : (p : Packet) (rcode : ℕ) → Gives p rcode [] → rcode < 2 ^ 4 → FitsAnswer p rcode []
empty_fits p rcode g s = record { small = s; bytes = no_bytes; gives = g }

module _ (known : ℕ → Type 0) (P Q : Said) (request : Packet) (bytes : List ℕ) (stated : ℕ → Bool) (a : Answers P Q request bytes stated) where
  answers_by : (r : List ℕ × Layer Purpose) (o : OutboxState) → Q r.1 (o.packets ++ answer_to request r.0 ∷ []) o.sides → (let x = answered_by r o (header_in request).source in Q x.0 x.1.packets x.1.sides)
  answers_by (bytes', layer) o h = h

  answers_layer : (r : List ℕ × Layer Purpose) (o : OutboxState) (node : NodeState) → Fits known node → Fits known (record node { layer = (answered_by r o (header_in request).source).0 })
  answers_layer (bytes', layer) o node f = fits_layer known node layer f

  pub answers_at : (rcode : ℕ) (given : List ℕ) (s : Scene) → stated rcode ≡ true → FitsAnswer request rcode given → In known P s → In known Q (answered request bytes rcode given s)
  unfolding answer_step
  answers_at rcode given s t f h = record {
    made = answers_by (answering_step s.node.layer request bytes rcode given) s.outbox (a.answers s.node.layer s.outbox.packets s.outbox.sides rcode given t f h.made);
    fits = answers_layer (answering_step s.node.layer request bytes rcode given) s.outbox s.node h.fits;
  }

  module _ (all : (rcode : ℕ) → stated rcode ≡ true) (l : Leaves known P) (k : Keeps known Q) where
    -- what an agent asks for behind the answer
    asks_in : (q : ℕ) (ask : Ask) (login : Option Login) (s : Scene) → login_at s.node q ≡ login → FitsAsk ask → ((x : Login) → login ≡ Some x → IsServed known x) → In known Q s → In known Q (asked_in q ask login s)
    asks_in q ask None s e f v h = h
    asks_in q ask (Some login) s e f v h =
        let w = v login refl in
        anywhere known Q q _
        (follows known Q k q login (asks ask) s f tt w (record { made = h.made; fits = h.fits; here = subst (λ (x : Option Login). IsOfKnown known x) (sym e) w.there }))

    abbrev IsReached : NodeState → ℕ → Type 0
    IsReached node q = (x : Login) → login_at node q ≡ Some x → IsServed known x

    desk_in : (R : Said) (q : ℕ) (d : Desk) (s : Scene) (o : OutboxState) → FitsAgent d.agent → d.main ≡ (desk_at s.node q).main → d.ahead ≡ (desk_at s.node q).ahead → R s.node.layer o.packets o.sides → Fits known s.node → In known R (scene (with_desk s.node q d) o)
    desk_in R q d s o g em eh m f = record {
      made = m;
      fits = fits_desk known q s.node d g (let t = f.seats q in record { main = λ x e. t.main x (sym em ∙ e); ahead = λ x e. t.ahead x (sym eh ∙ e) }) f;
    }

    points_by : (q : ℕ) (r : Result Ask PointRefusal × Machine) (s : Scene) → FitsPoint r → ((rcode : ℕ) (given : List ℕ) → Gives request rcode given) → IsReached s.node q → In known P s → In known Q (pointed_by q request bytes (pointed_desk (desk_at s.node q) r) s)
    points_by q (Ok ask, m) s f g v h =
        let d = record (desk_at s.node q) { agent = m; pointer = present_of m } in
        let t = scene (with_desk s.node q d) (with_side s.outbox (sides.Opened q (orb_of d.agent))) in
        let u = answered request bytes complete [] t in
        asks_in q ask (login_at u.node q) u refl (f.ask ask refl) v
        (answers_at complete [] t (all complete) (empty_fits request complete (g complete []) (omega arith))
        (desk_in P q d s t.outbox f.agent refl refl (l.tells s.node.layer s.outbox.packets s.outbox.sides _ tt h.made) h.fits))
    points_by q (Err refusals.Conflict, m) s f g v h =
        let d = record (desk_at s.node q) { agent = m } in
        answers_at 4 [] (scene (with_desk s.node q d) s.outbox) (all 4) (empty_fits request 4 (g 4 []) (omega arith)) (desk_in P q d s s.outbox f.agent refl refl h.made h.fits)
    points_by q (Err refusals.Null, m) s f g v h =
        let d = record (desk_at s.node q) { agent = m } in
        answers_at 5 [] (scene (with_desk s.node q d) s.outbox) (all 5) (empty_fits request 5 (g 5 []) (omega arith)) (desk_in P q d s s.outbox f.agent refl refl h.made h.fits)

    points : (q : ℕ) (pointer : OrbPointer) (s : Scene) → IsPointer pointer → ((rcode : ℕ) (given : List ℕ) → Gives request rcode given) → IsReached s.node q → In known P s → In known Q (point q pointer request bytes s)
    unfolding point
    points q pointer s f g v h =
        points_by q (point_step (desk_at s.node q).agent pointer) s (point_fits (desk_at s.node q).agent pointer f (h.fits.agents q)) g v h

    rings_by : (q : ℕ) (r : Ask × Machine) (s : Scene) → FitsRing r → ((rcode : ℕ) (given : List ℕ) → Gives request rcode given) → IsReached s.node q → In known P s → In known Q (rung_by q request bytes r s)
    rings_by q (ask, m) s f g v h =
        let d = record (desk_at s.node q) { agent = m } in
        let t = scene (with_agent s.node q m) s.outbox in
        let u = answered request bytes complete [] t in
        asks_in q ask (login_at u.node q) u refl f.ask v
        (answers_at complete [] t (all complete) (empty_fits request complete (g complete []) (omega arith)) (desk_in P q d s s.outbox f.agent refl refl h.made h.fits))

    rings : (q : ℕ) (s : Scene) → ((rcode : ℕ) (given : List ℕ) → Gives request rcode given) → IsReached s.node q → In known P s → In known Q (ring q request bytes s)
    unfolding ring
    rings q s g v h = rings_by q (doorbell_step (desk_at s.node q).agent) s (ring_fits (desk_at s.node q).agent (h.fits.agents q)) g v h

    pointer_small : (pointer : OrbPointer) → AreBytes (pointer_bytes pointer)
    pointer_small pointer =
        bytes_append (big_bytes 4 (pointer_high pointer)) (big_bytes 4 (pointer_low pointer)) (bytes_quad (pointer_high pointer)) (bytes_quad (pointer_low pointer))

    accesses_by : (access : Access) (q : ℕ) (s : Scene) → FitsAccess request access → IsReached s.node q → In known P s → In known Q (accessed_by access q request bytes s)
    accesses_by accesses.State q s f v h =
        let given = big_bytes 4 (state_number (state_in (desk_at s.node q).agent.phase)) in
        answers_at complete given s (all complete) (record { small = omega arith; bytes = bytes_quad _; gives = f given refl }) h
    accesses_by accesses.Reset q s f v h =
        answers_at complete [] (cut cuts.AgentReset q s) (all complete) (empty_fits request complete (f complete []) (omega arith)) (cuts_at known P l cuts.AgentReset q s h)
    accesses_by (accesses.Point pointer) q s f v h = points q pointer s f.1 f.0 v h
    accesses_by accesses.Pointer q s f v h =
        let given = pointer_bytes (last_pointer (desk_at s.node q).pointer) in
        answers_at complete given s (all complete) (record { small = omega arith; bytes = pointer_small (last_pointer (desk_at s.node q).pointer); gives = f given refl }) h
    accesses_by accesses.Ring q s f v h = rings q s f v h
    accesses_by accesses.Enable q s f v h =
        answers_at complete [] (enabled q s) (all complete) (empty_fits request complete (f complete []) (omega arith))
        (desk_in P q (record (desk_at s.node q) { is_enabled = true }) s s.outbox (h.fits.agents q) refl refl h.made h.fits)

    starts_by : (source : ℕ) (r : Result Ask Busy × management.Machine) (s : Scene) → FitsStart known r → known source → ((rcode : ℕ) (given : List ℕ) → Gives request rcode given) → In known P s → In known Q (started_by source request bytes r s)
    starts_by source (Ok ask, m) s f n g h =
        let t = scene (record s.node { manager = m }) s.outbox in
        let w = h.fits in
        asks_manager known Q k source ask (answered request bytes complete [] t) (f.ask ask refl) n
        (answers_at complete [] t (all complete) (empty_fits request complete (g complete []) (omega arith))
        (record { made = h.made; fits = record { manager = f.manager; logins = w.logins; size = w.size; agents = w.agents; seats = w.seats; rom = w.rom } }))
    starts_by source (Err busy, m) s f n g h =
        let w = h.fits in
        answers_at conflict_error [] (scene (record s.node { manager = m }) s.outbox) (all conflict_error) (empty_fits request conflict_error (g conflict_error []) (omega arith))
        (record { made = h.made; fits = record { manager = f.manager; logins = w.logins; size = w.size; agents = w.agents; seats = w.seats; rom = w.rom } })

    starts : (orb : ℕ) (s : Scene) → orb < 2 ^ 48 → known (header_in request).source → ((rcode : ℕ) (given : List ℕ) → Gives request rcode given) → In known P s → In known Q (start orb request bytes s)
    unfolding start
    starts orb s f n g h =
        starts_by (header_in request).source (management.start_step s.node.manager (header_in request).source orb) s
        (start_fits known s.node.manager (header_in request).source orb n f h.fits.manager) n g h

    serves_as : (demand : Demand) (s : Scene) → FitsDemand (length s.node.rom) request demand → known (header_in request).source → ((q : ℕ) (access : Access) → demand ≡ demands.Agent q access → IsReached s.node q) → In known P s → In known Q (served_as demand request bytes s)
    serves_as (demands.Refused rcode) s f n v h = answers_at rcode [] s (all rcode) (empty_fits request rcode (no_gives request rcode [] f.0) f.1) h
    serves_as (demands.Rom at len) s f n v h =
        let given = take len (drop at s.node.rom) in
        answers_at complete given s (all complete)
        (record { small = omega arith; bytes = bytes_take len (drop at s.node.rom) (bytes_drop at s.node.rom h.fits.rom); gives = f.1 given (taken_length at len s.node.rom f.0) }) h
    serves_as (demands.Manage orb) s f n v h = starts orb s f.1 n f.0 h
    serves_as (demands.Agent q access) s f n v h = accesses_by access q s f (v q access refl) h

    -- the login of a register that is not barred
    lives : (source : ℕ) (login : Login) → is_none (if_of_node source (Some login)) ≡ false → is_live login ≡ true
    lives source login e = by (is_live login) _ e
      where
        by : (x y : Bool) → is_none (cond (x && y) (Some login) None) ≡ false → x ≡ true
        by true y f = refl
        by false y f = cc

    reached_login : (node : NodeState) (q source : ℕ) → Fits known node → is_none (if_of_node source (login_at node q)) ≡ false → IsReached node q
    reached_login node q source f e login is =
        let g = subst (λ (x : Option Login). FitsLogin known x) is (f.logins q) in
        record { there = g.1 (lives source login (subst (λ (x : Option Login). is_none (if_of_node source x) ≡ false) is e)); fifo = g.0 }

    unlocked_bar : (x y : Bool) → x ≡ false → (not x && y) ≡ false → y ≡ false
    unlocked_bar true y f g = cc
    unlocked_bar false y f g = g

    reaches : (node : NodeState) (q : ℕ) (access : Access) → Fits known node → is_barred node request ≡ false → demand_of (length node.rom) request ≡ demands.Agent q access → IsReached node q
    unfolding demand_of is_barred
    reaches node q access f b e =
        let i = demand_place (row_of (reached (length node.rom) request)) (length node.rom) request q access refl e in
        let n : is_barred_at (register_at (offset_in request)) node.logins (header_in request).source ≡ false = unlocked_bar (is_lock request) (is_barred_at (register_at (offset_in request)) node.logins (header_in request).source) i.unlocked b in
        let m : is_none (if_of_node (header_in request).source (login_at node i.found.place)) ≡ false = sym (ap (λ (x : Option AgentRegister). is_barred_at x node.logins (header_in request).source) i.at) ∙ n in
        subst (λ (p : ℕ). IsReached node p) i.own (reached_login node i.found.place (header_in request).source f m)

    pub serves : (s : Scene) → BytesOf request → known (header_in request).source → is_barred s.node request ≡ false → In known P s → In known Q (serve request bytes s)
    unfolding serve
    serves s b n e h =
        serves_as (demand_of (length s.node.rom) request) s (demand_fits (length s.node.rom) request b) n (λ q access d. reaches s.node q access h.fits e d) h
