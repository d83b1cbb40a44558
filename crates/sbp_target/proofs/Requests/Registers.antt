-- A request that is served is counted: a pointer that is taken brings the share of its ORB, a doorbell and an enabled register one, and MANAGEMENT_AGENT an operation.
use Rattle.std.proofs.Common.{arith, ◌≡◌, refl, sym, ap, ◌∙◌, subst, ℕ, ◌+◌, ◌<◌, ◌≤◌, ◌||◌, Bool, true, false, cond, List, [], ◌∷◌, ◌++◌, length, Option, Some, None, Result, Ok, Err}
use Rattle.async_packet.specs.Packet.{Packet, header_in}
use Rattle.label_table.specs.Layer.{answering_step}
use Rattle.login_table.specs.declared.login.Login.{Login}
use Rattle.orb_layout.specs.declared.ask.Ask.{Ask}
use Rattle.orb_layout.specs.declared.pointer.OrbPointer.{OrbPointer}
use Rattle.orb_layout.specs.declared.pointer.OrbPointer.TheVariants.{Null, At}
use Rattle.mgmt_agent.specs.declared.operation.Operation.{Operation}
use Rattle.mgmt_agent.specs.Machine as management
use Rattle.command_agent.specs.declared.phase.Phase.{Phase}
use Rattle.command_agent.specs.declared.phase.Phase.TheVariants as phases
use Rattle.command_agent.specs.declared.step.PointRefusal.{PointRefusal}
use Rattle.command_agent.specs.Machine.{Machine, present_of, state_in}
use Rattle.command_agent.specs.Steps.{asks, doorbell_in, doorbell_step, point_in, point_step}
use Rattle.command_agent.specs.Counting.{is_made, left_of, mark}
use Rattle.command_agent.specs.Making.{is_at_work}
use Rattle.command_agent.proofs.Making.Registers.{doorbells_make_one}
use Rattle.sbp_journal.specs.declared.cause.Cause.TheVariants as ignored
use Rattle.sbp_journal.specs.declared.cause.CutCause.TheVariants as cuts
use Rattle.sbp_journal.specs.declared.cause.Judged.{Judged}
use Rattle.sbp_journal.specs.declared.cause.Judged.TheVariants as judged
use Rattle.sbp_journal.specs.declared.outbox.Outgoing.{Outgoing}
use Rattle.sbp_journal.specs.declared.side.Side.TheVariants as sides
use Rattle.sbp_journal.specs.Outgoings.{empty_outbox}
use Rattle.target_base.specs.declared.address.Access.{Access}
use Rattle.target_base.specs.declared.address.Access.TheVariants as accesses
use Rattle.target_base.specs.declared.address.Demand.{Demand}
use Rattle.target_base.specs.declared.address.Demand.TheVariants as demands
use Rattle.target_base.specs.Addresses.{complete, demand_of, reached, row_of}
use Rattle.sbp_target.specs.declared.desk.Desk.{Desk}
use Rattle.sbp_target.specs.Agents.{cut, follow}
use Rattle.sbp_target.specs.Desks.{pointed_desk}
use Rattle.sbp_target.specs.Nodes.{NodeState, Scene, scene, desk_at, login_at, with_agent, with_desk}
use Rattle.sbp_target.specs.Requests.{requests}
use Rattle.sbp_target.specs.RequestsLeft.{CountsRequests, access_due, demand_due, has_ended, node_left, operation_left, was_cut, works}
use Rattle.sbp_target.specs.Sending.{answer_step, with_side}
use Rattle.sbp_target.specs.Serving.{accessed_by, answered, asked_at, asked_in, enabled, is_barred, point, pointed_by, request_step, ring, rung_by, serve, served_as, start, started_by}
use Rattle.sbp_target.specs.Telling.{orb_of}
use Rattle.sbp_target.proofs.Reached.{demand_place}
use Rattle.sbp_target.proofs.Histories.Settled.{small_place}
use Rattle.sbp_target.proofs.Requests.Courses.{Along, follows_along}
use Rattle.sbp_target.proofs.Requests.Easing.{NoneBegins, beside, none_counts, none_more, none_then, seated}
use Rattle.sbp_target.proofs.Requests.Effects.{cut_eases}
use Rattle.sbp_target.proofs.Requests.Frames.{Frame, framed_left, same_desks, seated_agent, seats, sent_or_left}
use Rattle.sbp_target.proofs.Requests.Management.{asks_manager}
use Rattle.sbp_target.proofs.Requests.Telling.{or_left, silent}
use Rattle.sbp_target.proofs.Requests.Turning.{Works, follows_few, has_orb, share_if, works_counts}

-- ---- what the registers do to an agent
-- a pointer that is taken: the agent was not at work, and is
pub record Taken (tables chunks : ℕ) (phase : Phase) (m : Machine) (ask : Ask) (now : Machine) : Type 0 where
  pub was : is_at_work phase ≡ false
  pub work : is_at_work now.phase ≡ true
  pub few : is_made ask + (left_of tables chunks now + mark now) ≤ tables + chunks + 3

abbrev PointsSo : ℕ → ℕ → Phase → Machine → Result Ask PointRefusal × Machine → Type 0
PointsSo tables chunks phase m (Ok ask, now) = Taken tables chunks phase m ask now
PointsSo tables chunks phase m (Err refusal, now) = now ≡ m

points_in : (tables chunks : ℕ) (phase : Phase) (m : Machine) (pointer : OrbPointer) → PointsSo tables chunks phase m (point_in (state_in phase) m pointer)
points_in tables chunks phases.Reset m Null = refl
points_in tables chunks phases.Reset m (At next) = record { was = refl; work = refl; few = omega arith }
points_in tables chunks phases.Suspended m Null = refl
points_in tables chunks phases.Suspended m (At next) = record { was = refl; work = refl; few = omega arith }
points_in tables chunks phases.Fetching m pointer = refl
points_in tables chunks _ m pointer = refl

points_so : (tables chunks : ℕ) (m : Machine) (pointer : OrbPointer) → PointsSo tables chunks m.phase m (point_step m pointer)
unfolding point_step
points_so tables chunks m pointer = points_in tables chunks m.phase m pointer

-- a doorbell leaves it at work, or not
rings_in : (phase : Phase) (m : Machine) → m.phase ≡ phase → is_at_work (doorbell_in (state_in phase) m).1.phase ≡ is_at_work phase
rings_in phases.Suspended m e = refl
rings_in phases.Fetching m e = ap is_at_work e
rings_in _ m e = ap is_at_work e

rings_so : (m : Machine) → is_at_work (doorbell_step m).1.phase ≡ is_at_work m.phase
unfolding doorbell_step
rings_so m = rings_in m.phase m refl

-- ---- an answer is no request
one_response : (packets : List Outgoing) (to : ℕ) (bytes : List ℕ) → requests (packets ++ record { to = to; label = None; bytes = bytes } ∷ []) ≡ requests packets
one_response [] to bytes = refl
one_response (packet ∷ packets) to bytes = let rest = one_response packets to bytes in omega (arith, rest)

module _ (tables chunks : ℕ → ℕ) (p : Packet) (bytes : List ℕ) where
  pub answers : (rcode : ℕ) (given : List ℕ) (s : Scene) → length s.node.desks ≡ 8 → NoneBegins tables chunks 0 s (answered p bytes rcode given s)
  unfolding answer_step
  answers rcode given s size =
      let r = answering_step s.node.layer p bytes rcode given in
      let same = one_response s.outbox.packets (header_in p).source r.0 in
      beside tables chunks s (answered p bytes rcode given s) 0 size refl (omega (arith, same)) (record { ended = λ k. refl; cut = λ k e. e })

  -- behind a step that sends nothing
  answers_then : (x s : Scene) (more rcode : ℕ) (given : List ℕ) → NoneBegins tables chunks more x s → NoneBegins tables chunks more x (answered p bytes rcode given s)
  answers_then x s more rcode given f = none_more tables chunks x _ (more + 0) more (omega arith) (none_then tables chunks x s _ more 0 f (answers rcode given s f.size))

  module _ (node : NodeState) (size : length node.desks ≡ 8) where
    abbrev start_scene : Scene
    start_scene = scene node empty_outbox

    quiet : (due : ℕ) (s : Scene) → NoneBegins tables chunks due start_scene s → CountsRequests tables chunks due node s
    quiet due s f = none_counts tables chunks due start_scene s (λ k. refl) refl f

    answer_counts : (rcode : ℕ) (given : List ℕ) → NoneBegins tables chunks 0 start_scene (answered p bytes rcode given start_scene)
    answer_counts rcode given = answers rcode given start_scene size

    -- ---- the agent of a place asks behind the answer
    module _ (q : ℕ) (small : q < 8) (turned : Bool) (due : ℕ) (d : Desk) (ask : Ask) (s : Scene) where
      -- it was altered, and its request is to follow
      pub record Asking : Type 0 where
        pub desks : s.node.desks ≡ (with_desk node q d).desks
        pub manager : s.node.manager ≡ node.manager
        pub enabled_is : d.is_enabled ≡ (desk_at node q).is_enabled
        pub unended : (k : ℕ) → has_ended k s ≡ false
        pub unsent : requests s.outbox.packets ≡ 0
        pub is_new : turned ≡ true → works node q ≡ false
        pub work : has_orb node q turned ≡ true → is_at_work d.agent.phase ≡ true
        pub few : is_made ask + (left_of (tables q) (chunks q) d.agent + mark d.agent) ≤ left_of (tables q) (chunks q) (desk_at node q).agent + mark (desk_at node q).agent + due + share_if turned (tables q) (chunks q)

      module _ (a : Asking) where
        inside : q < length node.desks
        inside = omega (arith, small, size)

        framed : Frame q node s.node
        framed = seats q node s.node d inside a.desks a.manager a.enabled_is

        agent : (desk_at s.node q).agent ≡ d.agent
        agent = seated_agent q node s.node d inside a.desks

        sized : length s.node.desks ≡ 8
        sized = framed.size ∙ size

        begun : Along q (has_orb node q turned) false s s
        begun = record {
          frame = (same_desks q s.node s.node refl refl).frame;
          others = λ k n. refl;
          over = λ e. absurd (let never : false ≡ true = sym (ap (λ b. b || false) (a.unended q)) ∙ e in cc never);
          goes = λ e. or_left (works s.node q) (has_ended q s || false) (ap (λ (m : Machine). is_at_work m.phase) agent ∙ a.work e);
        }

        before : is_made ask + node_left tables chunks s.node ≤ node_left tables chunks node + due + share_if turned (tables q) (chunks q)
        before =
            let number = framed_left tables chunks q node s.node small framed in
            let mine = ap (λ (m : Machine). left_of (tables q) (chunks q) m + mark m) agent in
            let few = a.few in
            omega (arith, number, mine, few)

        works_by : (y : Scene) → Along q (has_orb node q turned) false s y → sent_or_left tables chunks y ≤ sent_or_left tables chunks s + (is_made ask + 0) → Works tables chunks q turned due node s y
        works_by y along few =
            let number = before in
            let none = a.unsent in
            record { small = small; frame = framed; unended = a.unended; is_new = a.is_new; along = along; few = omega (arith, few, number, none) }

        asks_in : (login : Option Login) → Works tables chunks q turned due node s (asked_in q ask login s)
        asks_in None = works_by s begun (omega arith)
        asks_in (Some login) =
            let along = follows_along q (has_orb node q turned) s (omega (arith, small, sized)) login (asks ask) s begun in
            works_by (follow q login (asks ask) s) along (follows_few tables chunks q (has_orb node q turned) s login (asks ask) small sized along)

        pub asks_count : CountsRequests tables chunks due node (asked_at q ask s)
        asks_count =
            let y = asked_at q ask s in
            let w = asks_in (login_at s.node q) in
            let along = w.along.frame.size in
            works_counts tables chunks q turned due node s y y w (record { size = along ∙ sized; few = omega arith; agents = λ k b. refl; told = λ k. refl })

    -- ---- the registers
    points_by : (place : ℕ) → place < 8 → (r : Result Ask PointRefusal × Machine) → PointsSo (tables place) (chunks place) (desk_at node place).agent.phase (desk_at node place).agent r
        → CountsRequests tables chunks 0 node (pointed_by place p bytes (pointed_desk (desk_at node place) r) start_scene)
    unfolding answer_step
    points_by place small (Ok ask, now) t =
        let d : Desk = record (desk_at node place) { agent = now; pointer = present_of now } in
        let opened = with_side empty_outbox (sides.Opened place (orb_of d.agent)) in
        let s = answered p bytes complete [] (scene (with_desk node place d) opened) in
        let none = one_response [] (header_in p).source (answering_step node.layer p bytes complete []).0 in
        let few = t.few in
        asks_count place small true 0 d ask s
        (record {
          desks = refl;
          manager = refl;
          enabled_is = refl;
          unended = λ k. refl;
          unsent = none;
          is_new = λ e. t.was;
          work = λ e. t.work;
          few = omega (arith, few);
        })
    points_by place small (Err refusal, now) same =
        let t = scene (with_desk node place (record (desk_at node place) { agent = now })) empty_outbox in
        let left = ap (λ (m : Machine). left_of (tables place) (chunks place) m + mark m) same in
        let work = ap (λ (m : Machine). is_at_work m.phase) same in
        quiet 0 _
        (answers_then start_scene t 0 _ []
        (seated tables chunks start_scene t place (record (desk_at node place) { agent = now }) 0 size refl (omega (arith, left)) (λ e. sym work ∙ e) (λ e. or_left (is_at_work now.phase) (was_cut place t) (work ∙ e)) (silent empty_outbox)))

    rings_by : (place : ℕ) → place < 8 → CountsRequests tables chunks 1 node (rung_by place p bytes (doorbell_step (desk_at node place).agent) start_scene)
    unfolding answer_step
    rings_by place small =
        let m = (desk_at node place).agent in
        let r = doorbell_step m in
        let d : Desk = record (desk_at node place) { agent = r.1 } in
        let s = answered p bytes complete [] (scene (with_agent node place r.1) empty_outbox) in
        let none = one_response [] (header_in p).source (answering_step node.layer p bytes complete []).0 in
        let few = doorbells_make_one (tables place) (chunks place) m in
        asks_count place small false 1 d r.0 s
        (record {
          desks = refl;
          manager = refl;
          enabled_is = refl;
          unended = λ k. refl;
          unsent = none;
          is_new = λ e. cc e;
          work = λ e. rings_so m ∙ worked (works node place) e;
          few = omega (arith, few);
        })
      where
        worked : (b : Bool) → (b || false) ≡ true → b ≡ true
        worked true e = refl
        worked false e = cc e

    enables : (place : ℕ) → NoneBegins tables chunks 1 start_scene (enabled place start_scene)
    enables place =
        let d : Desk = record (desk_at node place) { is_enabled = true } in
        seated tables chunks start_scene (enabled place start_scene) place d 1 size refl (omega arith) (λ e. e) (λ e. or_left (works node place) (was_cut place (enabled place start_scene)) e) (silent empty_outbox)

    accesses_count : (access : Access) (place : ℕ) → place < 8 → CountsRequests tables chunks (access_due access) node (accessed_by access place p bytes start_scene)
    unfolding point ring point_step
    accesses_count accesses.State place small = quiet 0 _ (answer_counts complete _)
    accesses_count accesses.Reset place small = quiet 0 _ (answers_then start_scene (cut cuts.AgentReset place start_scene) 0 complete [] (cut_eases tables chunks cuts.AgentReset place start_scene size))
    accesses_count (accesses.Point pointer) place small = points_by place small (point_step (desk_at node place).agent pointer) (points_so (tables place) (chunks place) (desk_at node place).agent pointer)
    accesses_count accesses.Pointer place small = quiet 0 _ (answer_counts complete _)
    accesses_count accesses.Ring place small = rings_by place small
    accesses_count accesses.Enable place small = quiet 1 _ (answers_then start_scene (enabled place start_scene) 1 complete [] (enables place))

    -- ---- MANAGEMENT_AGENT
    starts_by : (source orb : ℕ) (operation : Option Operation) → node.manager.operation ≡ operation → NoneBegins tables chunks 5 start_scene (started_by source p bytes (management.start_with operation node.manager source orb) start_scene)
    starts_by source orb None e =
        let r = management.start_with None node.manager source orb in
        let t = scene (record node { manager = r.1 }) empty_outbox in
        let u = answered p bytes complete [] t in
        let none = ap operation_left e in
        let begun = beside tables chunks start_scene t 4 size refl (omega (arith, none)) (silent empty_outbox) in
        let told = answers_then start_scene t 4 complete [] begun in
        none_then tables chunks start_scene u _ 4 1 told (asks_manager tables chunks source _ u told.size)
    starts_by source orb (Some operation) e = none_more tables chunks start_scene _ 0 5 (omega arith) (answer_counts _ [])

    starts : (orb : ℕ) → NoneBegins tables chunks 5 start_scene (start orb p bytes start_scene)
    unfolding start management.start_step
    starts orb = starts_by (header_in p).source orb node.manager.operation refl

    -- ---- all that is asked for
    demands_count : (demand : Demand) → ((place : ℕ) (access : Access) → demand ≡ demands.Agent place access → place < 8) → CountsRequests tables chunks (demand_due demand) node (served_as demand p bytes start_scene)
    demands_count (demands.Refused rcode) small = quiet 0 _ (answer_counts rcode [])
    demands_count (demands.Rom at len) small = quiet 0 _ (answer_counts complete _)
    demands_count (demands.Manage orb) small = quiet 5 _ (starts orb)
    demands_count (demands.Agent place access) small = accesses_count access place (small place access refl)

    small_at : (place : ℕ) (access : Access) → demand_of (length node.rom) p ≡ demands.Agent place access → place < 8
    unfolding demand_of
    small_at place access e =
        let a = demand_place (row_of (reached (length node.rom) p)) (length node.rom) p place access refl e in
        subst (λ (k : ℕ). k < 8) a.own (small_place _ a.found a.at)

    serves_count : CountsRequests tables chunks (demand_due (demand_of (length node.rom) p)) node (serve p bytes start_scene)
    unfolding serve
    serves_count = demands_count (demand_of (length node.rom) p) small_at

    pub requests_count : CountsRequests tables chunks (demand_due (demand_of (length node.rom) p)) node (request_step p bytes start_scene).1
    unfolding request_step
    requests_count = by (is_barred node p)
      where
        by : (b : Bool) → CountsRequests tables chunks (demand_due (demand_of (length node.rom) p)) node (cond {A = Judged × Scene} b (judged.Ignored ignored.Login, answered p bytes 7 [] start_scene) (judged.Got, serve p bytes start_scene)).1
        by true = quiet (demand_due (demand_of (length node.rom) p)) _ (none_more tables chunks start_scene _ 0 (demand_due (demand_of (length node.rom) p)) (omega arith) (answer_counts 7 []))
        by false = serves_count
