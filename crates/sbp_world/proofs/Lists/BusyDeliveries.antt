-- A packet that the target gets, and a time-out: each agent stays in its phase or is cut; or the agent of one place makes a step, or is pointed to an ORB.
use Rattle.sbp_world.proofs.Words.Std.{◌≡◌, refl, sym, ap, subst, inl, ◌<◌, ℕ, Bool, true, false, cond, List, [], length, Option, Some, None, Result, Ok, Err}
use Rattle.sbp_world.proofs.Words.Wire.{LabelParts, Packet, header_in, Finding, Layer, judging_step, of_again, of_generation, of_grammar, of_label, of_request, of_response, Sent, Judged, empty_outbox}
use Rattle.sbp_world.proofs.Words.Target.{Login, Held, Told, PointRefusal, Which, point_step, reply_step, address_error, complete, demand_of, Access, Demand, Purpose, cut, which_in, Scene, desk_at, login_at, scene, answer_in, concluded, expire_agent, expired_by, judged_scene, received, received_as, settled, timed_out, Whole, replied_by, replied_to, served_login, whole, plain_in, accessed_by, answered, enabled, is_barred, point, serve, served_as, Machine, is_ahead, is_sent, Ahead, Main, is_that, pointed_desk, with_desk, pointed_by, rcode_of, ring, seen, ticked}
use Rattle.sbp_world.proofs.Words.Initiator.{Ask, OrbPointer, Expired}
use Rattle.sbp_world.proofs.Words.World.{whole_of, WorldState, has_list}
use Rattle.sbp_journal.specs.declared.cause.CutCause.TheVariants as cuts
use Rattle.sbp_journal.specs.declared.cause.Cause.TheVariants as ignored
use Rattle.sbp_journal.specs.declared.cause.Judged.TheVariants as judgements
use Rattle.target_base.specs.declared.address.Access.TheVariants as accesses
use Rattle.target_base.specs.declared.address.Demand.TheVariants as demands
use Rattle.sbp_target.specs.declared.purpose.Purpose.TheVariants as purposes
use Rattle.sbp_target.specs.Serving.{request_step}
use Rattle.sbp_target.proofs.Histories.Calling.{Good}
use Rattle.sbp_target.proofs.Histories.Settled.{reaches}
use Rattle.sbp_target.proofs.Histories.Calling.{not_eight}
use Rattle.sbp_world.proofs.Agents.AskedLate.{ahead_of, main_of}
use Rattle.sbp_world.proofs.Lists.BusyCuts.{Cutting, First, answers, cuts_one, desk_more, manages, same_desks, sees, starts, ticks}
use Rattle.sbp_world.proofs.Lists.BusyFollows.{Acts}
use Rattle.sbp_world.proofs.Lists.BusyTurns.{M, first, late_acts, reply_acts, rung_acts, silent_rests, taken_acts, there}
use Rattle.sbp_world.proofs.Lists.OpenTurns.{AreSeated, waits_place, ahead_lists}
use Rattle.sbp_world.proofs.Lists.Busy.{is_busy}
use Rattle.sbp_world.proofs.Lists.Full.{IsClosed}
use Rattle.sbp_world.proofs.Lists.Pointers.{refused}
use Rattle.sbp_world.proofs.Lists.StatusLosses.{sent_has}

module _ (w : WorldState) (g : Good w.target) (Given : Type 0) (F : ℕ → Machine → Type 0) (closed : IsClosed F) where
  -- what a call does
  pub data Called (layer : Layer Purpose) (s : Scene) : Type 0 where
    rests : Cutting F closed (M w g Given F closed layer) s → Called layer s
    acts : (q : ℕ) (b : q < 8) → has_list (M w g Given F closed layer q).phase ≡ true → Acts q b (is_busy (M w g Given F closed layer q).phase ≡ true) Given F closed (M w g Given F closed layer) s → Called layer s
    points : (q : ℕ) (b : q < 8) → Acts q b (Unit {0}) Given F closed (M w g Given F closed layer) s → Called layer s

  begins : (layer : Layer Purpose) → First F closed (M w g Given F closed layer) (first w g Given F closed layer)
  begins layer = record { cutting = record { desks = g.mid.size; beside = tt; stays = λ p. inl refl; full = λ p f. f }; plain = tt }

  starting : (layer : Layer Purpose) → Cutting F closed (M w g Given F closed layer) (first w g Given F closed layer)
  starting layer = (begins layer).cutting

  pub waits_has : (place : ℕ) → place < 8 → (peer : ℕ) (label : LabelParts) (which : Which) → which_in (desk_at w.target place) peer label ≡ Some which → has_list (desk_at w.target place).agent.phase ≡ true
  waits_has place b peer label Main e =
      let d = desk_at w.target place in
      sent_has d.agent.phase (main_of (is_that d.main peer label) (is_sent d.agent.phase) (is_that d.ahead peer label) (is_ahead d.agent.ahead) e)
  waits_has place b peer label Ahead e =
      let d = desk_at w.target place in
      ahead_lists d.agent.phase (is_ahead d.agent.ahead) (g.mid.fits place b (not_eight place b)).agent.bare
      (ahead_of (is_that d.main peer label) (is_sent d.agent.phase) (is_that d.ahead peer label) (is_ahead d.agent.ahead) e)

  module _ (seats : AreSeated w) (sent : Sent) (run : Option Told) (media : Held) (replies : (p : Packet) (label : LabelParts) (place : ℕ) → (judging_step w.target.layer sent.generation sent.bytes).0 ≡ of_response p label (Some (purposes.Agent place)) → place < 8 → (login : Login) → served_login w.target place ≡ Some login → (which : Which) → which_in (desk_at w.target place) (header_in p).source label ≡ Some which → Given → F place (desk_at w.target place).agent → F place (reply_step (desk_at w.target place).agent place (plain_in w.target.units media.disks login.unit) run which (answer_in p)).1) where
    abbrev layer : Layer Purpose
    layer = (judging_step w.target.layer sent.generation sent.bytes).1

    abbrev N : ℕ → Machine
    N = M w g Given F closed layer

    abbrev here : Scene
    here = first w g Given F closed layer

    abbrev all : Whole
    all = whole here media.disks

    abbrev Now : Scene → Type 0
    Now s = Called layer s

    answer : (p : Packet) (rcode : ℕ) (given : List ℕ) (s : Scene) → Cutting F closed N s → Now (answered p sent.bytes rcode given s)
    answer p rcode given s k = rests (answers F closed N p sent.bytes rcode given s k)

    reply_by : (p : Packet) (label : LabelParts) (place : ℕ) → (judging_step w.target.layer sent.generation sent.bytes).0 ≡ of_response p label (Some (purposes.Agent place)) → (login : Option Login) → served_login w.target place ≡ login → (which : Option Which) → which_in (desk_at w.target place) (header_in p).source label ≡ which → (let x = replied_by run place (answer_in p) login which all in Now (scene x.node x.outbox))
    reply_by p label place f None l which e = rests (starting layer)
    reply_by p label place f (Some login) l None e = rests (starting layer)
    reply_by p label place f (Some login) l (Some which) e =
        let b = waits_place w g seats place (header_in p).source label which e in
        acts place b (waits_has place b (header_in p).source label which e) (reply_acts w g Given F closed layer place b login which run (answer_in p) media.disks (replies p label place f b login l which e))

    concludes : (p : Packet) (label : LabelParts) (purpose : Option Purpose) → (judging_step w.target.layer sent.generation sent.bytes).0 ≡ of_response p label purpose → (let x = concluded run purpose (header_in p).source label (answer_in p) all in Now (scene x.node x.outbox))
    unfolding concluded replied_to
    concludes p label None f = rests (starting layer)
    concludes p label (Some (purposes.Agent place)) f = reply_by p label place f (served_login (there w g Given F closed layer) place) refl (which_in (desk_at w.target place) (header_in p).source label) refl
    concludes p label (Some purposes.Management) f = rests (manages F closed N (answer_in p) here (begins layer))
    concludes p label (Some purposes.Unsolicited) f = rests (same_desks F closed N here (settled (header_in p).source here.node) empty_outbox refl refl (starting layer))

    -- ---- a request
    point_by : (p : Packet) (place : ℕ) (pointer : OrbPointer) → place < 8 → (x : Result Ask PointRefusal) → (point_step (N place) pointer).0 ≡ x → Now (point place pointer p sent.bytes here)
    unfolding point
    point_by p place pointer small (Ok ask) e = points place small (taken_acts w g Given F closed layer place small p sent.bytes pointer ask e)
    point_by p place pointer small (Err refusal) e =
        let now = (point_step (N place) pointer).1 in
        let d = record (desk_at here.node place) { agent = now } in
        let t = scene (with_desk here.node place d) empty_outbox in
        subst (λ (x : Result Ask PointRefusal). Now (pointed_by place p sent.bytes (pointed_desk (desk_at here.node place) (x, now)) here)) (sym e)
        (answer p (rcode_of refusal) [] t (desk_more F closed N here place d (ap (λ (m : Machine). m.phase) (refused (N place) pointer refusal e)) (closed.point place (N place) pointer) (starting layer)))

    ring_by : (p : Packet) (place : ℕ) → place < 8 → (x : Bool) → has_list (N place).phase ≡ x → Now (ring place p sent.bytes here)
    ring_by p place small true e = acts place small e (rung_acts w g Given F closed layer place small p sent.bytes)
    ring_by p place small false e = rests (silent_rests w g Given F closed layer place small p sent.bytes e (starting layer))

    access_by : (p : Packet) (place : ℕ) (access : Access) → is_barred w.target p ≡ false → demand_of (length w.target.rom) p ≡ demands.Agent place access → Now (accessed_by access place p sent.bytes here)
    access_by p place accesses.State n d = answer p complete _ here (starting layer)
    access_by p place accesses.Reset n d = answer p complete [] (cut cuts.AgentReset place here) (cuts_one F closed N cuts.AgentReset place here (begins layer)).cutting
    access_by p place (accesses.Point pointer) n d = point_by p place pointer (reaches w.target g p place (accesses.Point pointer) n d).small (point_step (N place) pointer).0 refl
    access_by p place accesses.Pointer n d = answer p complete _ here (starting layer)
    access_by p place accesses.Ring n d = ring_by p place (reaches w.target g p place accesses.Ring n d).small (has_list (N place).phase) refl
    access_by p place accesses.Enable n d =
        answer p complete [] (enabled place here) (desk_more F closed N here place (record (desk_at here.node place) { is_enabled = true }) refl (λ f. f) (starting layer))

    demand_by : (p : Packet) (demand : Demand) → is_barred w.target p ≡ false → demand_of (length w.target.rom) p ≡ demand → Now (served_as demand p sent.bytes here)
    demand_by p (demands.Refused rcode) n d = answer p rcode [] here (starting layer)
    demand_by p (demands.Rom at len) n d = answer p complete _ here (starting layer)
    demand_by p (demands.Manage orb) n d = rests (starts F closed N orb p sent.bytes here (starting layer))
    demand_by p (demands.Agent place access) n d = access_by p place access n d

    serve_by : (p : Packet) → is_barred w.target p ≡ false → Now (serve p sent.bytes here)
    unfolding serve
    serve_by p n = demand_by p (demand_of (length w.target.rom) p) n refl

    -- ---- by what it is found to be
    abbrev Done : Judged × Whole → Type 0
    Done x = Now (scene x.1.node x.1.outbox)

    by_bar : (p : Packet) (b : Bool) → is_barred w.target p ≡ b → Done (judged_scene (cond b (judgements.Ignored ignored.Login, answered p sent.bytes address_error [] here) (judgements.Got, serve p sent.bytes here)) all)
    by_bar p true e = answer p address_error [] here (starting layer)
    by_bar p false e = serve_by p e

    by_found : (f : Finding Purpose) → (judging_step w.target.layer sent.generation sent.bytes).0 ≡ f → Done (received_as run sent.bytes f all)
    unfolding request_step is_barred
    by_found of_generation found = rests (starting layer)
    by_found of_grammar found = rests (starting layer)
    by_found of_label found = rests (starting layer)
    by_found (of_again p rcode) found = answer p rcode [] here (starting layer)
    by_found (of_response p label purpose) found = concludes p label purpose found
    by_found (of_request p) found = by_bar p (is_barred w.target p) refl

    pub delivery_called : Done (received run sent.generation sent.bytes (whole_of w.target media))
    unfolding received
    delivery_called = by_found (judging_step w.target.layer sent.generation sent.bytes).0 refl

  -- ---- a transaction that times out
  module _ (seats : AreSeated w) (layer : Layer Purpose) (peer : ℕ) (label : LabelParts) where
    late_by : (place : ℕ) (login : Option Login) (which : Option Which) → which_in (desk_at w.target place) peer label ≡ which → Called layer (expired_by place login which (first w g Given F closed layer))
    late_by place None which e = rests (starting layer)
    late_by place (Some login) None e = rests (starting layer)
    late_by place (Some login) (Some which) e =
        let b = waits_place w g seats place peer label which e in acts place b (waits_has place b peer label which e) (late_acts w g Given F closed layer place b login which)

    pub lapse_called : (purpose : Option Purpose) → Called layer (timed_out purpose peer label (first w g Given F closed layer))
    unfolding expire_agent
    lapse_called None = rests (starting layer)
    lapse_called (Some (purposes.Agent place)) = late_by place (login_at w.target place) (which_in (desk_at w.target place) peer label) refl
    lapse_called (Some purposes.Management) = rests (manages F closed (M w g Given F closed layer) Expired (first w g Given F closed layer) (begins layer))
    lapse_called (Some purposes.Unsolicited) = rests (starting layer)

  -- ---- a generation that it sees, and a second
  pub sight_called : (generation id : ℕ) → Called w.target.layer (seen generation id (first w g Given F closed w.target.layer)).1
  sight_called generation id = rests (sees F closed (M w g Given F closed w.target.layer) generation id (first w g Given F closed w.target.layer) (begins w.target.layer))

  pub tick_called : Called w.target.layer (ticked (first w g Given F closed w.target.layer))
  tick_called = rests (ticks F closed (M w g Given F closed w.target.layer) (first w g Given F closed w.target.layer) (starting w.target.layer))
