-- What each call of the target hands out, as far as status blocks go: nothing that writes, and no end is told; or the agent of one place made a step, and its
-- status block is the first packet that writes; or the management goes on.
use Rattle.sbp_world.proofs.Words.Std.{arith, ◌≡◌, ◌∙◌, refl, sym, ap, subst, ◌<◌, ◌≤◌, ◌^◌, nat_lt, nat_eq, ℕ, zero, suc, Bool, true, false, cond, List, [], ◌∷◌, length, Option, Some, None, Result, Ok, Err, slice_index_or, nat_tests, length-set, false≢true, none-some}
use Rattle.sbp_world.proofs.Words.Wire.{LabelParts, Packet, header_in, Asked, block_read, Finding, Layer, answering_step, asking_step, judging_step, of_again, of_generation, of_grammar, of_label, of_request, of_response, Sent, Judged, empty_outbox}
use Rattle.sbp_world.proofs.Words.Target.{Phase, AgentState, PointRefusal, Which, Machine, present_of, state_in, doorbell_step, is_reset, lost_step, point_in, point_step, reply_step, Login, Table, ManagerStep, Operation, Held, Told, address_error, complete, conflict_error, demand_of, if_served, Access, Demand, Desk, Purpose, ask_main, cut, follow, noted, send_ahead, told_cut, new_desk, pointed_desk, which_in, ask_manager, lose_operation, lost_in, manage, manager_lost, manager_sent, tell_failed, NodeState, Scene, desk_at, login_at, scene, with_agent, with_desk, answer_in, concluded, expire_agent, expired_by, received, received_as, timed_out, Whole, plain_in, replied_by, replied_to, served_login, whole, answer_step, answered_by, request_step, sent_by, with_side, accessed_by, answered, asked_in, enabled, is_barred, point, pointed_by, rcode_of, serving_step, ring, serve, served_as, start, started_by, orb_of, tell_step}
use Rattle.sbp_world.proofs.Words.Initiator.{Ask, FailCause, OrbPointer, Null, At, Answer, Expired, NoLabel}
use Rattle.sbp_world.proofs.Words.World.{whole_of, WorldState, has_list}
use Rattle.command_agent.specs.declared.phase.Phase.TheVariants as phases
use Rattle.command_agent.specs.declared.step.AgentState.TheVariants as states
use Rattle.command_agent.specs.Steps as steps
use Rattle.mgmt_agent.specs.declared.operation.Phase.TheVariants as operating
use Rattle.mgmt_agent.specs.Machine as management
use Rattle.orb_layout.specs.declared.ask.Ask.TheVariants as asks
use Rattle.orb_layout.specs.declared.ask.FailCause.TheVariants as causes
use Rattle.sbp_journal.specs.declared.cause.Cause.TheVariants as ignored
use Rattle.sbp_journal.specs.declared.cause.CutCause.TheVariants as cuts
use Rattle.sbp_journal.specs.declared.cause.Judged.TheVariants as judgements
use Rattle.sbp_journal.specs.declared.side.Side.TheVariants as sides
use Rattle.target_base.specs.declared.address.Access.TheVariants as accesses
use Rattle.target_base.specs.declared.address.Demand.TheVariants as demands
use Rattle.sbp_target.specs.declared.purpose.Purpose.TheVariants as purposes
use Rattle.sbp_target.proofs.Histories.Calling.{Good}
use Rattle.sbp_target.proofs.Histories.Settled.{reaches}
use Rattle.sbp_world.proofs.Lists.SameAgents.{set_here, set_there}
use Rattle.sbp_world.proofs.Lists.Pointers.{refused, not_taken}
use Rattle.sbp_world.proofs.Lists.StatusActs.{Acts, M, answered_quiet, asked_acts, first, late_acts, reply_acts, there}
use Rattle.sbp_world.proofs.Lists.StatusFollows.{Quiet, Step}
use Rattle.sbp_world.proofs.Lists.StatusPackets.{AllRead, EndSide, reads_more, told_end}
use Rattle.sbp_world.proofs.Lists.StatusReads.{IsOfBody, IsRead, answer_reads, asked_body, body_reads}
use Rattle.sbp_world.proofs.Lists.StatusRests.{Resting, answers, cuts_one, desk_more, manages, starts}
use Rattle.sbp_world.proofs.Lists.StatusSteps.{rests, none_wrote, read_wrote}

abbrev ok_of : Ask → Result Ask PointRefusal
ok_of ask = Ok ask

same_ask : (a b : Ask) → ok_of a ≡ ok_of b → a ≡ b
same_ask a b e = cc

no_login : Login
no_login = record { place = 0; login = 0; unit = 0; node = 0; eui = 0; fifo = 0; hold = 0; exclusive = false; remaining = None }

-- an agent with no list open leaves a doorbell
shut_asks : (phase : Phase) (m : Machine) → has_list phase ≡ false → (doorbell_step (record m { phase = phase })).0 ≡ asks.Nothing
unfolding doorbell_step
shut_asks phases.Reset m e = refl
shut_asks phases.Dead m e = refl
shut_asks _ m e = absurd (false≢true (sym e))

-- there are eight desks
pub none_beyond : (desks : List Desk) (k : ℕ) → length desks ≤ k → slice_index_or desks k new_desk ≡ new_desk
none_beyond [] k l = refl
none_beyond (d ∷ desks) zero l = absurd (omega (arith, l))
none_beyond (d ∷ desks) (suc k) l = none_beyond desks k (omega arith)

none_which : (which : Which) → None ≡ Some which → ⊥
none_which which e = cc

pub placed : (node : NodeState) → length node.desks ≡ 8 → (place peer : ℕ) (label : LabelParts) (which : Which) → which_in (desk_at node place) peer label ≡ Some which → place < 8
placed node size place peer label which e = by (nat_lt place 8) refl
  where
    by : (b : Bool) → nat_lt place 8 ≡ b → place < 8
    by true f = grind (arith, nat_tests)
    by false f =
        let far : 8 ≤ place = grind (arith, nat_tests) in
        let none : desk_at node place ≡ new_desk = none_beyond node.desks place (omega (arith, far, size)) in
        absurd (none_which which (sym (ap (λ (d : Desk). which_in d peer label) none) ∙ e))

-- ---- an operation that finds no label
lost_packets : (source : ℕ) (s : Scene) (r : ManagerStep × (management.Machine × Table)) → (manager_lost source s r).outbox.packets ≡ s.outbox.packets
lost_packets source s (step, r) = by step.failed
  where
    by : (x : Option FailCause) → (tell_failed source x s.outbox).packets ≡ s.outbox.packets
    by None = refl
    by (Some cause) = refl

pub lose_packets : (s : Scene) → (lose_operation s).outbox.packets ≡ s.outbox.packets
unfolding lose_operation
lose_packets s = by (management.source_in s.node.manager.operation)
  where
    by : (source : Option ℕ) → (lost_in source s).outbox.packets ≡ s.outbox.packets
    by None = refl
    by (Some source) = lost_packets source s (management.reply_step s.node.manager s.node.logins s.node.keys NoLabel)

-- it reads its ORB
manager_reads : (source orb : ℕ) (s : Scene) (r : Option Asked × Layer Purpose) → IsOfBody s.node.layer source (block_read orb 32) r.0 → AllRead s.outbox.packets → AllRead (manager_sent s.node (sent_by r s.outbox source)).outbox.packets
manager_reads source orb s (None, layer) of a = let t = scene (record s.node { layer = layer }) s.outbox in subst AllRead (sym (lose_packets t)) a
manager_reads source orb s (Some asked, layer) of a =
    reads_more s.outbox.packets (record { to = source; label = Some asked.label; bytes = asked.bytes }) a (subst IsRead (sym of) (body_reads asked.label.number s.node.layer.node source (block_read orb 32) refl))

asks_orb : (source orb : ℕ) (s : Scene) → AllRead s.outbox.packets → AllRead (ask_manager source (asks.Read orb 32) s).outbox.packets
unfolding ask_manager request_step
asks_orb source orb s a =
    manager_reads source orb s (asking_step s.node.layer source (block_read orb 32) purposes.Management) (asked_body s.node.layer source (block_read orb 32) purposes.Management) a

-- ---- a doorbell, and a pointer
rung_by_phase : (phase : Phase) (m : Machine) → rests (doorbell_step (record m { phase = phase })).1 ≡ true → rests (record m { phase = phase }) ≡ true
unfolding doorbell_step
rung_by_phase phases.Reset m r = r
rung_by_phase phases.Dead m r = r
rung_by_phase phases.Fetching m r = r
rung_by_phase phases.ReadingTable m r = r
rung_by_phase (phases.ReadingData wanted) m r = r
rung_by_phase phases.Answering m r = r
rung_by_phase phases.WritingStatus m r = r
rung_by_phase phases.WritingLastStatus m r = r
rung_by_phase phases.ReadingNext m r = r
rung_by_phase phases.Suspended m r = refl

rung_rests : (m : Machine) → rests (doorbell_step m).1 ≡ true → rests m ≡ true
rung_rests m r = rung_by_phase m.phase m r

pub rung_reads : (phase : Phase) (m : Machine) (offset size : ℕ) → (doorbell_step (record m { phase = phase })).0 ≡ asks.Write offset size → ⊥
unfolding doorbell_step
rung_reads phases.Reset m offset size e = none_wrote offset size e
rung_reads phases.Dead m offset size e = none_wrote offset size e
rung_reads phases.Fetching m offset size e = none_wrote offset size e
rung_reads phases.ReadingTable m offset size e = none_wrote offset size e
rung_reads (phases.ReadingData wanted) m offset size e = none_wrote offset size e
rung_reads phases.Answering m offset size e = none_wrote offset size e
rung_reads phases.WritingStatus m offset size e = none_wrote offset size e
rung_reads phases.WritingLastStatus m offset size e = none_wrote offset size e
rung_reads phases.ReadingNext m offset size e = none_wrote offset size e
rung_reads phases.Suspended m offset size e = read_wrote m.present 8 offset size e

pub record Points (m : Machine) (s : Result Ask PointRefusal × Machine) (ask : Ask) : Type 0 where
  off : rests s.1 ≡ false
  pub mild : (offset size : ℕ) → ask ≡ asks.Write offset size → ⊥

points_in : (state : AgentState) (m : Machine) (pointer : OrbPointer) (ask : Ask) → (point_in state m pointer).0 ≡ Ok ask → Points m (point_in state m pointer) ask
points_in states.Reset m Null ask e = absurd (not_taken _ ask e)
points_in states.Reset m (At next) ask e = record { off = refl; mild = λ offset size f. read_wrote _ 32 offset size (same_ask _ ask e ∙ f) }
points_in states.Suspended m Null ask e = absurd (not_taken _ ask e)
points_in states.Suspended m (At next) ask e = record { off = refl; mild = λ offset size f. read_wrote _ 32 offset size (same_ask _ ask e ∙ f) }
points_in states.Active m pointer ask e = absurd (not_taken _ ask e)
points_in states.Dead m pointer ask e = absurd (not_taken _ ask e)

pub points_at : (m : Machine) (pointer : OrbPointer) (ask : Ask) → (point_step m pointer).0 ≡ Ok ask → Points m (point_step m pointer) ask
unfolding point_step
points_at m pointer ask e = points_in (state_in m.phase) m pointer ask e

-- ---- what a call is
module _ (w : WorldState) (g : Good w.target) (Ours Up : ℕ → Type 0) (Its : Type 0) where
  abbrev N : Layer Purpose → ℕ → Machine
  N layer = M w g layer

  -- nothing is written, and no end is told
  pub record Idle (s : Scene) : Type 0 where
    pub told_is : told_end s.outbox.sides ≡ None
    pub read : AllRead s.outbox.packets
    pub stays : (p : ℕ) → rests (desk_at s.node p).agent ≡ true → rests (desk_at w.target p).agent ≡ true

  pub record Manages (layer : Layer Purpose) (answer : Answer) (s : Scene) : Type 0 where
    pub told_is : told_end s.outbox.sides ≡ None
    pub is : s ≡ manage answer (first w g layer)
    pub stays : (p : ℕ) → rests (desk_at s.node p).agent ≡ true → rests (desk_at w.target p).agent ≡ true

  pub data Called (layer : Layer Purpose) (s : Scene) : Type 0 where
    idles : Idle s → Called layer s
    acts : (q : ℕ) (b : q < 8) (login : Login) → login_at w.target q ≡ Some login → Up q → (early : Option EndSide) → Acts w g layer q b (Ours q) login early s → Called layer s
    goes_on : (answer : Answer) → Its → Manages layer answer s → Called layer s

  idle_of : (layer : Layer Purpose) (s : Scene) → Resting (N layer) s → AllRead s.outbox.packets → Called layer s
  idle_of layer s r a = idles (record { told_is = r.told_is; read = a; stays = r.stays })

  by_split : (p q : ℕ) (A : Type 0) → (p ≡ q → A) → ((p ≡ q → ⊥) → A) → A
  by_split p q A f h = by (nat_eq p q) refl
    where
      by : (x : Bool) → nat_eq p q ≡ x → A
      by true e = f (let z : p ≡ q = grind (arith, nat_tests) in z)
      by false e = h (λ same. false≢true (sym e ∙ (let z : nat_eq p q ≡ true = grind (arith, nat_tests) in z)))

  idle_quiet : (layer : Layer Purpose) (q : ℕ) (b : q < 8) (login : Login) (m : Machine) (s : Scene) → (rests m ≡ true → rests (N layer q) ≡ true) → Quiet q b login (Ours q) (N layer) None m s → Called layer s
  idle_quiet layer q b login m s h k = idles (record {
    told_is = k.told_is.end;
    read = k.read;
    stays = λ p r.
        by_split p q (rests (N layer p) ≡ true) (λ same. subst (λ j. rests (N layer j) ≡ true) (sym same) (h (ap (λ (x : Machine). rests x) (sym k.agent) ∙ subst (λ j. rests (desk_at s.node j).agent ≡ true) same r)))
        (λ f. ap (λ (x : Machine). rests x) (sym (k.same p f)) ∙ r);
  })

  -- ---- a request
  module _ (layer : Layer Purpose) (request : Packet) (bytes : List ℕ) where
    abbrev here : Scene
    here = first w g layer

    begins : Resting (N layer) here
    begins = record { desks = g.mid.size; told_is = refl; stays = λ p r. r }

    pub reads_answered : (rcode : ℕ) (given : List ℕ) (s : Scene) → AllRead s.outbox.packets → AllRead (answered request bytes rcode given s).outbox.packets
    unfolding answer_step
    reads_answered rcode given s a = by (answering_step s.node.layer request bytes rcode given) (answer_reads s.node.layer request bytes rcode given)
      where
        by : (r : List ℕ × Layer Purpose) → IsRead r.0 → AllRead (answered_by r s.outbox (header_in request).source).1.packets
        by (out, rest) e = reads_more s.outbox.packets (record { to = (header_in request).source; label = None; bytes = out }) a e

    pub answer_called : (rcode : ℕ) (given : List ℕ) (s : Scene) → Resting (N layer) s → AllRead s.outbox.packets → Called layer (answered request bytes rcode given s)
    answer_called rcode given s r a = idle_of layer (answered request bytes rcode given s) (answers (N layer) request bytes rcode given s r) (reads_answered rcode given s a)

    -- ---- the agent of a place
    module _ (q : ℕ) (b : q < 8) where
      there_is : q < length w.target.desks
      there_is = let e = g.mid.size in omega (arith, e)

      logins_same : (rcode : ℕ) (given : List ℕ) (s : Scene) → login_at (answered request bytes rcode given s).node q ≡ login_at s.node q
      unfolding answer_step
      logins_same rcode given s = refl

      -- nothing is asked for
      asks_nothing : (login : Option Login) (s : Scene) → asked_in q asks.Nothing login s ≡ s
      unfolding follow noted tell_step ask_main send_ahead
      asks_nothing None s = refl
      asks_nothing (Some login) s = refl

      asked_called : Up q → (m : Machine) (ask : Ask) (s : Scene) (login : Option Login) → login ≡ login_at w.target q → (rests m ≡ true → rests (N layer q) ≡ true) → ((one : Login) → Step q b one (Ours q) (N layer) (steps.asks ask) m) → ((one : Login) → Quiet q b one (Ours q) (N layer) None m s) → Called layer (asked_in q ask login s)
      asked_called up m ask s None e h ok k = idle_quiet layer q b no_login m s h (k no_login)
      asked_called up m ask s (Some login) e h ok k = acts q b login (sym e) up None (asked_acts w g layer q b (Ours q) request bytes login m ask s h (ok login) (k login))

      mild_asks : (one : Login) (m : Machine) (ask : Ask) → ((offset size : ℕ) → ask ≡ asks.Write offset size → ⊥) → (Ours q → has_list m.phase ≡ true → m.present < 2 ^ 48) → Step q b one (Ours q) (N layer) (steps.asks ask) m
      mild_asks one m ask mild small = record {
        mild = record { ends = tt; small = λ ours e. absurd (false≢true e); apart = λ ours e offset size f fifo. mild offset size f };
        small = small;
        ahead = λ offset size e. none_wrote offset size e;
      }

      abbrev rung : Machine
      rung = (doorbell_step (N layer q)).1

      abbrev ring_first : Scene
      ring_first = scene (with_agent here.node q rung) empty_outbox

      abbrev ring_scene : Scene
      ring_scene = answered request bytes complete [] ring_first

      ring_quiet : (one : Login) → Quiet q b one (Ours q) (N layer) None rung ring_first
      ring_quiet one =
          let d : Desk = record (desk_at here.node q) { agent = rung } in
          record {
            desks = length-set here.node.desks q d ∙ g.mid.size;
            same = λ p f. ap (λ (y : Desk). y.agent) (set_there here.node q p d there_is f);
            agent = ap (λ (y : Desk). y.agent) (set_here here.node q d there_is);
            told_is = record { end = refl; of = tt };
            read = tt;
          }

      pub ring_called : (has_list (N layer q).phase ≡ true → Up q) → (Ours q → has_list (doorbell_step (N layer q)).1.phase ≡ true → (doorbell_step (N layer q)).1.present < 2 ^ 48) → Called layer (ring q request bytes here)
      unfolding ring
      ring_called up small = by (has_list (N layer q).phase) refl
        where
          by : (y : Bool) → has_list (N layer q).phase ≡ y → Called layer (asked_in q (doorbell_step (N layer q)).0 (login_at ring_scene.node q) ring_scene)
          by true e =
              asked_called (up e) rung (doorbell_step (N layer q)).0 ring_scene (login_at ring_scene.node q) (logins_same complete [] ring_first) (rung_rests (N layer q))
              (λ one. mild_asks one rung (doorbell_step (N layer q)).0 (λ offset size wrote. rung_reads (N layer q).phase (N layer q) offset size wrote) small)
              (λ one. answered_quiet w g layer q b (Ours q) request bytes one complete [] rung ring_first (ring_quiet one))
          by false e =
              subst (λ ask. Called layer (asked_in q ask (login_at ring_scene.node q) ring_scene)) (sym (shut_asks (N layer q).phase (N layer q) e))
              (subst (Called layer) (sym (asks_nothing (login_at ring_scene.node q) ring_scene))
              (idle_quiet layer q b no_login rung ring_scene (rung_rests (N layer q))
              (answered_quiet w g layer q b (Ours q) request bytes no_login complete [] rung ring_first (ring_quiet no_login))))

      pub point_called : (pointer : OrbPointer) → ((ask : Ask) → (point_step (N layer q) pointer).0 ≡ Ok ask → Up q) → ((ask : Ask) → (point_step (N layer q) pointer).0 ≡ Ok ask → Ours q → (point_step (N layer q) pointer).1.present < 2 ^ 48) → Called layer (point q pointer request bytes here)
      unfolding point
      point_called pointer up small = by (point_step (N layer q) pointer).0 refl
        where
          by : (y : Result Ask PointRefusal) → (point_step (N layer q) pointer).0 ≡ y → Called layer (pointed_by q request bytes (pointed_desk (desk_at here.node q) (point_step (N layer q) pointer)) here)
          by (Ok ask) e =
              let now = (point_step (N layer q) pointer).1 in
              let d : Desk = record (desk_at here.node q) { agent = now; pointer = present_of now } in
              let t = scene (with_desk here.node q d) (with_side empty_outbox (sides.Opened q (orb_of now))) in
              let x = answered request bytes complete [] t in
              let is = points_at (N layer q) pointer ask e in
              let k : (one : Login) → Quiet q b one (Ours q) (N layer) None now t = λ one. record {
                desks = length-set here.node.desks q d ∙ g.mid.size;
                same = λ p f. ap (λ (y : Desk). y.agent) (set_there here.node q p d there_is f);
                agent = ap (λ (y : Desk). y.agent) (set_here here.node q d there_is);
                told_is = record { end = refl; of = (refl, tt) };
                read = tt;
              } in
              subst (λ y. Called layer (pointed_by q request bytes (pointed_desk (desk_at here.node q) (y, now)) here)) (sym e)
              (asked_called (up ask e) now ask x (login_at x.node q) (logins_same complete [] t) (λ r. absurd (false≢true (sym is.off ∙ r))) (λ one. mild_asks one now ask is.mild (λ ours h. small ask e ours)) (λ one. answered_quiet w g layer q b (Ours q) request bytes one complete [] now t (k one)))
          by (Err refusal) e =
              let now = (point_step (N layer q) pointer).1 in
              let d : Desk = record (desk_at here.node q) { agent = now } in
              let t = scene (with_desk here.node q d) empty_outbox in
              subst (λ y. Called layer (pointed_by q request bytes (pointed_desk (desk_at here.node q) (y, now)) here)) (sym e)
              (answer_called (rcode_of refusal) [] t (desk_more (N layer) here q d (λ r. subst (λ (m : Machine). rests m ≡ true) (refused (N layer q) pointer refusal e) r) begins) tt)

    -- ---- the management begins
    pub start_reads : (orb : ℕ) → AllRead (start orb request bytes here).outbox.packets
    unfolding start management.start_step
    start_reads orb = by w.target.manager.operation
      where
        by : (o : Option Operation) → AllRead (started_by (header_in request).source request bytes (management.start_with o w.target.manager (header_in request).source orb) here).outbox.packets
        by None =
            let t = scene (record here.node { manager = record w.target.manager { operation = Some (record { source = (header_in request).source; orb = orb; phase = operating.Orb }) } }) empty_outbox in
            asks_orb (header_in request).source orb (answered request bytes complete [] t) (reads_answered complete [] t tt)
        by (Some operation) = reads_answered conflict_error [] (scene (record here.node { manager = w.target.manager }) empty_outbox) tt

    pub start_called : (orb : ℕ) → Called layer (start orb request bytes here)
    start_called orb = idle_of layer (start orb request bytes here) (starts (N layer) orb request bytes here begins) (start_reads orb)

    pub cut_reads : (place : ℕ) → AllRead (cut cuts.AgentReset place here).outbox.packets
    unfolding cut
    cut_reads place = by (is_reset (state_in (desk_at here.node place).agent.phase))
      where
        by : (x : Bool) → AllRead (told_cut x place cuts.AgentReset here.outbox).packets
        by true = tt
        by false = tt

    -- ---- what is asked for
    module _ (ring_ok : (q : ℕ) → q < 8 → Ours q → has_list (doorbell_step (N layer q)).1.phase ≡ true → (doorbell_step (N layer q)).1.present < 2 ^ 48) (point_ok : is_barred w.target request ≡ false → (q : ℕ) → q < 8 → (pointer : OrbPointer) → demand_of (length w.target.rom) request ≡ demands.Agent q (accesses.Point pointer) → (ask : Ask) → (point_step (N layer q) pointer).0 ≡ Ok ask → Ours q → (point_step (N layer q) pointer).1.present < 2 ^ 48) (ring_up : is_barred w.target request ≡ false → (q : ℕ) → q < 8 → demand_of (length w.target.rom) request ≡ demands.Agent q accesses.Ring → has_list (N layer q).phase ≡ true → Up q) (point_up : is_barred w.target request ≡ false → (q : ℕ) → q < 8 → (pointer : OrbPointer) → demand_of (length w.target.rom) request ≡ demands.Agent q (accesses.Point pointer) → (ask : Ask) → (point_step (N layer q) pointer).0 ≡ Ok ask → Up q) where
      access_called : (place : ℕ) (access : Access) → is_barred w.target request ≡ false → demand_of (length w.target.rom) request ≡ demands.Agent place access → Called layer (accessed_by access place request bytes here)
      access_called place accesses.State n d = answer_called complete _ here begins tt
      access_called place accesses.Reset n d = answer_called complete [] (cut cuts.AgentReset place here) (cuts_one (N layer) cuts.AgentReset place here begins) (cut_reads place)
      access_called place (accesses.Point pointer) n d =
          let b = (reaches w.target g request place (accesses.Point pointer) n d).small in point_called place b pointer (λ ask e. point_up n place b pointer d ask e) (λ ask e ours. point_ok n place b pointer d ask e ours)
      access_called place accesses.Pointer n d = answer_called complete _ here begins tt
      access_called place accesses.Ring n d =
          let b = (reaches w.target g request place accesses.Ring n d).small in ring_called place b (λ h. ring_up n place b d h) (λ ours h. ring_ok place b ours h)
      access_called place accesses.Enable n d =
          answer_called complete [] (enabled place here) (desk_more (N layer) here place (record (desk_at here.node place) { is_enabled = true }) (λ r. r) begins) tt

      demand_called : (demand : Demand) → is_barred w.target request ≡ false → demand_of (length w.target.rom) request ≡ demand → Called layer (served_as demand request bytes here)
      demand_called (demands.Refused rcode) n d = answer_called rcode [] here begins tt
      demand_called (demands.Rom at len) n d = answer_called complete _ here begins tt
      demand_called (demands.Manage orb) n d = start_called orb
      demand_called (demands.Agent place access) n d = access_called place access n d

      serve_called : is_barred w.target request ≡ false → Called layer (serve request bytes here)
      unfolding serve
      serve_called n = demand_called (demand_of (length w.target.rom) request) n refl

      by_bar : (x : Bool) → is_barred w.target request ≡ x → Called layer (cond {A = Judged × Scene} x (judgements.Ignored ignored.Login, answered request bytes address_error [] here) (judgements.Got, serve request bytes here)).1
      by_bar true e = answer_called address_error [] here begins tt
      by_bar false e = serve_called e

      pub request_called : Called layer (serving_step request bytes here).1
      unfolding serving_step is_barred
      request_called = by_bar (is_barred w.target request) refl

  -- ---- a packet, and a time-out
  module _ (sent : Sent) (run : Option Told) (media : Held) where
    abbrev layer_then : Layer Purpose
    layer_then = (judging_step w.target.layer sent.generation sent.bytes).1

    abbrev all : Whole
    all = whole (first w g layer_then) media.disks

    abbrev Found : Finding Purpose → Type 0
    Found f = (judging_step w.target.layer sent.generation sent.bytes).0 ≡ f

    module _ (reply_ok : (p : Packet) (label : LabelParts) (place : ℕ) → Found (of_response p label (Some (purposes.Agent place))) → (b : place < 8) (login : Login) (which : Which) → which_in (desk_at w.target place) (header_in p).source label ≡ Some which → (let step = reply_step (N layer_then place) place (plain_in (there w g layer_then).units media.disks login.unit) run which (answer_in p) in Step place b login (Ours place) (N layer_then) step.0 step.1)) (ring_ok : (q : ℕ) → q < 8 → Ours q → has_list (doorbell_step (N layer_then q)).1.phase ≡ true → (doorbell_step (N layer_then q)).1.present < 2 ^ 48) (point_ok : (p : Packet) → Found (of_request p) → is_barred w.target p ≡ false → (q : ℕ) → q < 8 → (pointer : OrbPointer) → demand_of (length w.target.rom) p ≡ demands.Agent q (accesses.Point pointer) → (ask : Ask) → (point_step (N layer_then q) pointer).0 ≡ Ok ask → Ours q → (point_step (N layer_then q) pointer).1.present < 2 ^ 48) (reply_up : (peer : ℕ) (label : LabelParts) (place : ℕ) → place < 8 → (which : Which) → which_in (desk_at w.target place) peer label ≡ Some which → Up place) (ring_up : (p : Packet) → Found (of_request p) → is_barred w.target p ≡ false → (q : ℕ) → q < 8 → demand_of (length w.target.rom) p ≡ demands.Agent q accesses.Ring → has_list (N layer_then q).phase ≡ true → Up q) (point_up : (p : Packet) → Found (of_request p) → is_barred w.target p ≡ false → (q : ℕ) → q < 8 → (pointer : OrbPointer) → demand_of (length w.target.rom) p ≡ demands.Agent q (accesses.Point pointer) → (ask : Ask) → (point_step (N layer_then q) pointer).0 ≡ Ok ask → Up q) (its : (p : Packet) (label : LabelParts) → Found (of_response p label (Some purposes.Management)) → Its) where
      idle_here : Called layer_then (first w g layer_then)
      idle_here = idles (record { told_is = refl; read = tt; stays = λ p r. r })

      login_of : (place : ℕ) (login : Login) → served_login (there w g layer_then) place ≡ Some login → login_at w.target place ≡ Some login
      login_of place login e = served_is (login_at w.target place) e
        where
          is_served : (x : Bool) (one : Login) → cond x (Some one) None ≡ Some login → Some one ≡ Some login
          is_served true one f = f
          is_served false one f = absurd (none-some login f)

          served_is : (o : Option Login) → if_served (length w.target.units) o ≡ Some login → o ≡ Some login
          served_is None f = f
          served_is (Some one) f = is_served (nat_lt one.unit (length w.target.units)) one f

      reply_by : (p : Packet) (label : LabelParts) (place : ℕ) → Found (of_response p label (Some (purposes.Agent place))) → (login : Option Login) → served_login (there w g layer_then) place ≡ login → (which : Option Which) → which_in (desk_at w.target place) (header_in p).source label ≡ which → (let x = replied_by run place (answer_in p) login which all in Called layer_then (scene x.node x.outbox))
      reply_by p label place f None l which e = idle_here
      reply_by p label place f (Some login) l None e = idle_here
      reply_by p label place f (Some login) l (Some which) e =
          let b = placed w.target g.mid.size place (header_in p).source label which e in
          acts place b login (login_of place login l) (reply_up (header_in p).source label place b which e) _ (reply_acts w g layer_then place b (Ours place) login which run (answer_in p) media.disks (reply_ok p label place f b login which e))

      concludes : (p : Packet) (label : LabelParts) (purpose : Option Purpose) → Found (of_response p label purpose) → (let x = concluded run purpose (header_in p).source label (answer_in p) all in Called layer_then (scene x.node x.outbox))
      unfolding concluded replied_to
      concludes p label None f = idle_here
      concludes p label (Some (purposes.Agent place)) f = reply_by p label place f (served_login (there w g layer_then) place) refl (which_in (desk_at w.target place) (header_in p).source label) refl
      concludes p label (Some purposes.Management) f =
          let r = manages (N layer_then) (answer_in p) (first w g layer_then) (record { desks = g.mid.size; told_is = refl; stays = λ q h. h }) in
          goes_on (answer_in p) (its p label f) (record { told_is = r.told_is; is = refl; stays = r.stays })
      concludes p label (Some purposes.Unsolicited) f = idles (record { told_is = refl; read = tt; stays = λ q h. h })

      by_found : (f : Finding Purpose) → Found f → (let x = received_as run sent.bytes f all in Called layer_then (scene x.1.node x.1.outbox))
      by_found of_generation f = idle_here
      by_found of_grammar f = idle_here
      by_found of_label f = idle_here
      by_found (of_again p rcode) f = answer_called layer_then p sent.bytes rcode [] (first w g layer_then) (begins layer_then p sent.bytes) tt
      by_found (of_response p label purpose) f = concludes p label purpose f
      by_found (of_request p) f = request_called layer_then p sent.bytes ring_ok (point_ok p f) (ring_up p f) (point_up p f)

      pub delivery_called : (let x = received run sent.generation sent.bytes (whole_of w.target media) in Called layer_then (scene x.1.node x.1.outbox))
      unfolding received
      delivery_called = by_found (judging_step w.target.layer sent.generation sent.bytes).0 refl

  module _ (layer : Layer Purpose) (peer : ℕ) (label : LabelParts) (late_ok : (place : ℕ) (b : place < 8) (login : Login) (which : Which) → which_in (desk_at w.target place) peer label ≡ Some which → (let loss = lost_step (N layer place) which causes.Timeout in Step place b login (Ours place) (N layer) loss.0 loss.1)) (late_up : (place : ℕ) → place < 8 → (which : Which) → which_in (desk_at w.target place) peer label ≡ Some which → Up place) where
    idle_late : Called layer (first w g layer)
    idle_late = idles (record { told_is = refl; read = tt; stays = λ p r. r })

    late_by : (place : ℕ) (login : Option Login) → login_at w.target place ≡ login → (which : Option Which) → which_in (desk_at w.target place) peer label ≡ which → Called layer (expired_by place login which (first w g layer))
    late_by place None l which e = idle_late
    late_by place (Some login) l None e = idle_late
    late_by place (Some login) l (Some which) e =
        let b = placed w.target g.mid.size place peer label which e in acts place b login l (late_up place b which e) _ (late_acts w g layer place b (Ours place) login which (late_ok place b login which e))

    pub lapse_called : (purpose : Option Purpose) → (purpose ≡ Some purposes.Management → Its) → Called layer (timed_out purpose peer label (first w g layer))
    unfolding expire_agent
    lapse_called None its = idle_late
    lapse_called (Some (purposes.Agent place)) its = late_by place (login_at w.target place) refl (which_in (desk_at w.target place) peer label) refl
    lapse_called (Some purposes.Management) its =
        let r = manages (N layer) Expired (first w g layer) (record { desks = g.mid.size; told_is = refl; stays = λ q h. h }) in
        goes_on Expired (its refl) (record { told_is = r.told_is; is = refl; stays = r.stays })
    lapse_called (Some purposes.Unsolicited) its = idle_late
