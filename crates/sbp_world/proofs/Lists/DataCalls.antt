-- What each call of the target writes: to FIFOs of logins alone; or what the step of an agent asks for as a reply comes, beside; or the management goes on.
use Rattle.sbp_world.proofs.Words.Std.{◌≡◌, ◌∙◌, refl, sym, ap, subst, ◌<◌, nat_lt, ℕ, Bool, true, false, cond, List, [], ◌∷◌, length, Option, Some, None, Result, Ok, Err, arith, ◌++◌, length-set, none-some}
use Rattle.sbp_world.proofs.Words.Wire.{LabelParts, Packet, header_in, Finding, Layer, judging_step, of_again, of_generation, of_grammar, of_label, of_request, of_response, Sent, Judged, Outgoing, empty_outbox, Side}
use Rattle.sbp_world.proofs.Words.Target.{AgentStep, PointRefusal, Which, Ahead, Main, Machine, new_machine, present_of, doorbell_step, lost_step, point_step, quiet, reply_step, Login, is_live, Held, Told, address_error, complete, demand_of, if_served, Access, Demand, Desk, Purpose, cut, pointed_desk, which_in, manage, Scene, desk_at, login_at, scene, with_agent, with_desk, answer_in, concluded, expire_agent, expired_by, received, received_as, timed_out, Whole, plain_in, replied_by, replied_to, served_login, whole, answer_step, with_side, accessed_by, answered, asked_in, enabled, is_barred, point, pointed_by, rcode_of, serving_step, ring, serve, served_as, start, orb_of, tell_ran, Outcome}
use Rattle.sbp_world.proofs.Words.Initiator.{Ask, OrbPointer, Answer, Expired}
use Rattle.sbp_world.proofs.Words.World.{whole_of, WorldState}
use Rattle.command_agent.specs.Steps as steps
use Rattle.orb_layout.specs.declared.ask.Ask.TheVariants as asks
use Rattle.orb_layout.specs.declared.ask.FailCause.TheVariants as causes
use Rattle.sbp_journal.specs.declared.cause.Cause.TheVariants as ignored
use Rattle.sbp_journal.specs.declared.cause.CutCause.TheVariants as cuts
use Rattle.sbp_journal.specs.declared.cause.Judged.TheVariants as judgements
use Rattle.sbp_journal.specs.declared.side.Side.TheVariants as sides
use Rattle.target_base.specs.declared.address.Access.TheVariants as accesses
use Rattle.target_base.specs.declared.address.Demand.TheVariants as demands
use Rattle.sbp_target.specs.declared.purpose.Purpose.TheVariants as purposes
use Rattle.sbp_target.proofs.Histories.Calling.{Good}
use Rattle.sbp_target.proofs.Histories.Settled.{reaches}
use Rattle.sbp_world.proofs.Lists.DataActs.{AreFifos, late_so, reply_so}
use Rattle.sbp_world.proofs.Lists.DataFollows.{AllFifo, AllSo, IsBy, follows_quiet, more_fifo, of_step, read_so, to_fifo}
use Rattle.sbp_world.proofs.Lists.StatusActs.{first, there}
use Rattle.sbp_world.proofs.Lists.StatusCalls.{cut_reads, placed, points_at, reads_answered, rung_reads, start_reads}
use Rattle.sbp_world.proofs.Lists.StatusLosses.{lost_asks, quiet_ahead}
use Rattle.sbp_world.proofs.Lists.StatusPackets.{AllRead}
use Rattle.sbp_world.proofs.Lists.StatusUps.{lives_access}
use Rattle.sbp_world.proofs.Agents.UnitsKept.{Keeps}
use Rattle.sbp_world.proofs.Lists.RunTells.{advance_tells}
use Rattle.sbp_world.proofs.Lists.StatusSteps.{none_wrote}

module _ (Fifo : ℕ → ℕ → Type 0) where
  reads_all : (packets : List Outgoing) → AllRead packets → AllFifo Fifo packets
  reads_all [] h = tt
  reads_all (packet ∷ later) h = (read_so Fifo quiet new_machine 0 packet h.0, reads_all later h.1)

  -- a step that asks for no write
  tame_by : (step : AgentStep) (m : Machine) (node to offset : ℕ) (payload : List ℕ) → ((at size : ℕ) → step.ended ≡ None → step.ask ≡ asks.Write at size → ⊥) → IsBy Fifo step m node to offset payload → IsBy Fifo quiet new_machine 0 to offset payload
  tame_by step m node to offset payload f (to_fifo fifo own e) = to_fifo fifo own e
  tame_by step m node to offset payload f (of_step at size none ask to_is offset_is payload_is) = absurd (f at size none ask)

  tame_all : (step : AgentStep) (m : Machine) (node : ℕ) → ((at size : ℕ) → step.ended ≡ None → step.ask ≡ asks.Write at size → ⊥) → (packets : List Outgoing) → AllSo Fifo step m node packets → AllFifo Fifo packets
  tame_all step m node f [] h = tt
  tame_all step m node f (packet ∷ later) h = ((λ access e w. tame_by step m node packet.to access.offset access.payload f (h.0 access e w)), h.1)

-- ---- what a call is
-- a run is told of first
pub record IsFirstRun (q : ℕ) (m : Machine) (outcome : Outcome) (told : List Side) : Type 0 where
  pub more : List Side
  pub is : told ≡ sides.Ran q (orb_of m) m.orb.cdb m.payload outcome ∷ more

first_keeps : (q : ℕ) (m : Machine) (outcome : Outcome) → Keeps (IsFirstRun q m outcome)
first_keeps q m outcome = record { tells = λ told side f h. record { more = h.more ++ side ∷ []; is = ap (λ xs. xs ++ side ∷ []) h.is } }

abbrev pub RunsFirst : ℕ → AgentStep × Machine → List Side → Type 0
RunsFirst q one told = (outcome : Outcome) → one.0.ran ≡ Some outcome → IsFirstRun q one.1 outcome told

module _ (w : WorldState) (g : Good w.target) (Fifo : ℕ → ℕ → Type 0) (fifos : AreFifos Fifo w.target.logins) (Steps : ℕ → AgentStep × Machine → Type 0) (Its : Answer → Type 0) where
  abbrev M : ℕ → Machine
  M p = (desk_at w.target p).agent

  pub data WroteSo (layer : Layer Purpose) (s : Scene) : Type 0 where
    to_logins : AllFifo Fifo s.outbox.packets → WroteSo layer s
    steps_so : (q : ℕ) (b : q < 8) (login : Login) → login_at w.target q ≡ Some login → (one : AgentStep × Machine) → Steps q one → RunsFirst q one s.outbox.sides → AllSo Fifo one.0 one.1 login.node s.outbox.packets → WroteSo layer s
    manages : (answer : Answer) → Its answer → s ≡ manage answer (first w g layer) → WroteSo layer s

  reads_only : (layer : Layer Purpose) (s : Scene) → AllRead s.outbox.packets → WroteSo layer s
  reads_only layer s a = to_logins (reads_all Fifo s.outbox.packets a)

  -- ---- a request
  module _ (layer : Layer Purpose) (request : Packet) (bytes : List ℕ) where
    abbrev here : Scene
    here = first w g layer

    answers_only : (rcode : ℕ) (given : List ℕ) (s : Scene) → AllRead s.outbox.packets → WroteSo layer (answered request bytes rcode given s)
    answers_only rcode given s a = reads_only layer (answered request bytes rcode given s) (reads_answered w g (λ q. Unit {0}) (λ q. Unit {0}) (Unit {0}) layer request bytes rcode given s a)

    module _ (q : ℕ) (b : q < 8) (lives : (login : Login) → login_at w.target q ≡ Some login → is_live login ≡ true) where
      asked_only : (ask : Ask) → ((offset size : ℕ) → ask ≡ asks.Write offset size → ⊥) → (login : Option Login) → login ≡ login_at w.target q → (s : Scene) → length s.node.desks ≡ 8 → AllRead s.outbox.packets → WroteSo layer (asked_in q ask login s)
      asked_only ask f None e s desks a = reads_only layer s a
      asked_only ask f (Some login) e s desks a =
          to_logins (follows_quiet q b login Fifo (fifos q login (sym e) (lives login (sym e))) (steps.asks ask) (AllFifo Fifo) (more_fifo Fifo) s (λ offset size z. none_wrote offset size z) f (reads_all Fifo s.outbox.packets a))

      logins_same : (rcode : ℕ) (given : List ℕ) (s : Scene) → login_at (answered request bytes rcode given s).node q ≡ login_at s.node q
      unfolding answer_step
      logins_same rcode given s = refl

      desks_same : (rcode : ℕ) (given : List ℕ) (s : Scene) → length (answered request bytes rcode given s).node.desks ≡ length s.node.desks
      unfolding answer_step
      desks_same rcode given s = refl

      set_size : (d : Desk) → length (with_desk here.node q d).desks ≡ 8
      set_size d = length-set here.node.desks q d ∙ g.mid.size

      behind : (ask : Ask) → ((offset size : ℕ) → ask ≡ asks.Write offset size → ⊥) → (t : Scene) → length t.node.desks ≡ 8 → login_at t.node q ≡ login_at w.target q → AllRead t.outbox.packets → (let x = answered request bytes complete [] t in WroteSo layer (asked_in q ask (login_at x.node q) x))
      behind ask f t size same a =
          let x = answered request bytes complete [] t in
          asked_only ask f (login_at x.node q) (logins_same complete [] t ∙ same) x (desks_same complete [] t ∙ size) (reads_answered w g (λ q. Unit {0}) (λ q. Unit {0}) (Unit {0}) layer request bytes complete [] t a)

      ring_so : WroteSo layer (ring q request bytes here)
      unfolding ring
      ring_so =
          behind (doorbell_step (M q)).0 (λ offset size wrote. rung_reads (M q).phase (M q) offset size wrote) (scene (with_agent here.node q (doorbell_step (M q)).1) empty_outbox)
          (set_size (record (desk_at here.node q) { agent = (doorbell_step (M q)).1 })) refl tt

      point_so : (pointer : OrbPointer) → WroteSo layer (point q pointer request bytes here)
      unfolding point
      point_so pointer = by (point_step (M q) pointer).0 refl
        where
          by : (y : Result Ask PointRefusal) → (point_step (M q) pointer).0 ≡ y → WroteSo layer (pointed_by q request bytes (pointed_desk (desk_at here.node q) (point_step (M q) pointer)) here)
          by (Ok ask) e =
              let now = (point_step (M q) pointer).1 in
              let d : Desk = record (desk_at here.node q) { agent = now; pointer = present_of now } in
              subst (λ y. WroteSo layer (pointed_by q request bytes (pointed_desk (desk_at here.node q) (y, now)) here)) (sym e)
              (behind ask (points_at (M q) pointer ask e).mild (scene (with_desk here.node q d) (with_side empty_outbox (sides.Opened q (orb_of now)))) (set_size d) refl tt)
          by (Err refusal) e =
              let now = (point_step (M q) pointer).1 in
              let d : Desk = record (desk_at here.node q) { agent = now } in
              subst (λ y. WroteSo layer (pointed_by q request bytes (pointed_desk (desk_at here.node q) (y, now)) here)) (sym e)
              (answers_only (rcode_of refusal) [] (scene (with_desk here.node q d) empty_outbox) tt)

    access_so : (place : ℕ) (access : Access) → is_barred w.target request ≡ false → demand_of (length w.target.rom) request ≡ demands.Agent place access → WroteSo layer (accessed_by access place request bytes here)
    access_so place accesses.State n d = answers_only complete _ here tt
    access_so place accesses.Reset n d = answers_only complete [] (cut cuts.AgentReset place here) (cut_reads w g (λ q. Unit {0}) (λ q. Unit {0}) (Unit {0}) layer request bytes place)
    access_so place (accesses.Point pointer) n d = point_so place (reaches w.target g request place (accesses.Point pointer) n d).small (lives_access w g request n place (accesses.Point pointer) d) pointer
    access_so place accesses.Pointer n d = answers_only complete _ here tt
    access_so place accesses.Ring n d = ring_so place (reaches w.target g request place accesses.Ring n d).small (lives_access w g request n place accesses.Ring d)
    access_so place accesses.Enable n d = answers_only complete [] (enabled place here) tt

    demand_so : (demand : Demand) → is_barred w.target request ≡ false → demand_of (length w.target.rom) request ≡ demand → WroteSo layer (served_as demand request bytes here)
    demand_so (demands.Refused rcode) n d = answers_only rcode [] here tt
    demand_so (demands.Rom at len) n d = answers_only complete _ here tt
    demand_so (demands.Manage orb) n d = reads_only layer (start orb request bytes here) (start_reads w g (λ q. Unit {0}) (λ q. Unit {0}) (Unit {0}) layer request bytes orb)
    demand_so (demands.Agent place access) n d = access_so place access n d

    serve_so : is_barred w.target request ≡ false → WroteSo layer (serve request bytes here)
    unfolding serve
    serve_so n = demand_so (demand_of (length w.target.rom) request) n refl

    by_bar : (x : Bool) → is_barred w.target request ≡ x → WroteSo layer (cond {A = Judged × Scene} x (judgements.Ignored ignored.Login, answered request bytes address_error [] here) (judgements.Got, serve request bytes here)).1
    by_bar true e = answers_only address_error [] here tt
    by_bar false e = serve_so e

    request_so : WroteSo layer (serving_step request bytes here).1
    unfolding serving_step is_barred
    request_so = by_bar (is_barred w.target request) refl

  -- ---- a packet
  module _ (sent : Sent) (run : Option Told) (media : Held) where
    abbrev then : Layer Purpose
    then = (judging_step w.target.layer sent.generation sent.bytes).1

    abbrev all : Whole
    all = whole (first w g then) media.disks

    abbrev Found : Finding Purpose → Type 0
    Found f = (judging_step w.target.layer sent.generation sent.bytes).0 ≡ f

    module _ (reply_ok : (p : Packet) (label : LabelParts) (place : ℕ) → Found (of_response p label (Some (purposes.Agent place))) → (b : place < 8) (login : Login) → served_login w.target place ≡ Some login → (which : Which) → which_in (desk_at w.target place) (header_in p).source label ≡ Some which → Steps place (reply_step (M place) place (plain_in (there w g then).units media.disks login.unit) run which (answer_in p))) (its : (p : Packet) (label : LabelParts) → Found (of_response p label (Some purposes.Management)) → Its (answer_in p)) (reply_live : (peer : ℕ) (label : LabelParts) (place : ℕ) → place < 8 → (which : Which) → which_in (desk_at w.target place) peer label ≡ Some which → (login : Login) → login_at w.target place ≡ Some login → is_live login ≡ true) where
      idle_here : WroteSo then (first w g then)
      idle_here = to_logins tt

      login_of : (place : ℕ) (login : Login) → served_login (there w g then) place ≡ Some login → login_at w.target place ≡ Some login
      login_of place login e = served_is (login_at w.target place) e
        where
          is_served : (x : Bool) (one : Login) → cond x (Some one) None ≡ Some login → Some one ≡ Some login
          is_served true one f = f
          is_served false one f = absurd (none-some login f)

          served_is : (o : Option Login) → if_served (length w.target.units) o ≡ Some login → o ≡ Some login
          served_is None f = f
          served_is (Some one) f = is_served (nat_lt one.unit (length w.target.units)) one f

      reply_by : (p : Packet) (label : LabelParts) (place : ℕ) → Found (of_response p label (Some (purposes.Agent place))) → (login : Option Login) → served_login (there w g then) place ≡ login → (which : Option Which) → which_in (desk_at w.target place) (header_in p).source label ≡ which → (let x = replied_by run place (answer_in p) login which all in WroteSo then (scene x.node x.outbox))
      reply_by p label place f None l which e = idle_here
      reply_by p label place f (Some login) l None e = idle_here
      reply_by p label place f (Some login) l (Some which) e =
          let b = placed w.target g.mid.size place (header_in p).source label which e in
          let is = login_of place login l in
          let step : AgentStep × Machine = reply_step (M place) place (plain_in (there w g then).units media.disks login.unit) run which (answer_in p) in
          let inside : place < length (there w g then).desks = (let z = g.mid.size in omega (arith, z, b)) in
          steps_so place b login is step (reply_ok p label place f b login l which e)
          (λ outcome ran.
          advance_tells (IsFirstRun place step.1 outcome) (first_keeps place step.1 outcome) (there w g then) place inside login media.disks run which (answer_in p)
          (subst (λ x. IsFirstRun place step.1 outcome (tell_ran place step.1 x empty_outbox).sides) (sym ran) (record { more = []; is = refl })))
          (reply_so w g then Fifo fifos place b login is (reply_live (header_in p).source label place b which e login is) which run (answer_in p) media.disks)

      concludes : (p : Packet) (label : LabelParts) (purpose : Option Purpose) → Found (of_response p label purpose) → (let x = concluded run purpose (header_in p).source label (answer_in p) all in WroteSo then (scene x.node x.outbox))
      unfolding concluded replied_to
      concludes p label None f = idle_here
      concludes p label (Some (purposes.Agent place)) f = reply_by p label place f (served_login (there w g then) place) refl (which_in (desk_at w.target place) (header_in p).source label) refl
      concludes p label (Some purposes.Management) f = manages (answer_in p) (its p label f) refl
      concludes p label (Some purposes.Unsolicited) f = to_logins tt

      by_found : (f : Finding Purpose) → Found f → (let x = received_as run sent.bytes f all in WroteSo then (scene x.1.node x.1.outbox))
      by_found of_generation f = idle_here
      by_found of_grammar f = idle_here
      by_found of_label f = idle_here
      by_found (of_again p rcode) f = answers_only then p sent.bytes rcode [] (first w g then) tt
      by_found (of_response p label purpose) f = concludes p label purpose f
      by_found (of_request p) f = request_so then p sent.bytes

      pub delivery_wrote : (let x = received run sent.generation sent.bytes (whole_of w.target media) in WroteSo then (scene x.1.node x.1.outbox))
      unfolding received
      delivery_wrote = by_found (judging_step w.target.layer sent.generation sent.bytes).0 refl

  -- ---- a time-out
  module _ (layer : Layer Purpose) (peer : ℕ) (label : LabelParts) (late_live : (place : ℕ) → place < 8 → (which : Which) → which_in (desk_at w.target place) peer label ≡ Some which → (login : Login) → login_at w.target place ≡ Some login → is_live login ≡ true) where
    lost_none : (which : Which) (n : Machine) (at size : ℕ) → (lost_step n which causes.Timeout).0.ended ≡ None → (lost_step n which causes.Timeout).0.ask ≡ asks.Write at size → ⊥
    lost_none Main n at size e ask = none_wrote at size (sym (lost_asks n causes.Timeout e) ∙ ask)
    lost_none Ahead n at size e ask = none_wrote at size (sym (ap (λ (x : AgentStep). x.ask) (quiet_ahead n causes.Timeout)) ∙ ask)

    late_by : (place : ℕ) (login : Option Login) → login_at w.target place ≡ login → (which : Option Which) → which_in (desk_at w.target place) peer label ≡ which → WroteSo layer (expired_by place login which (first w g layer))
    late_by place None l which e = to_logins tt
    late_by place (Some login) l None e = to_logins tt
    late_by place (Some login) l (Some which) e =
        let b = placed w.target g.mid.size place peer label which e in
        let loss = lost_step (M place) which causes.Timeout in
        to_logins (tame_all Fifo loss.0 loss.1 login.node (λ at size none ask. lost_none which (M place) at size none ask) _ (late_so w g layer Fifo fifos place b login l (late_live place b which e login l) which))

    pub lapse_wrote : (purpose : Option Purpose) → (purpose ≡ Some purposes.Management → Its Expired) → WroteSo layer (timed_out purpose peer label (first w g layer))
    unfolding expire_agent
    lapse_wrote None its = to_logins tt
    lapse_wrote (Some (purposes.Agent place)) its = late_by place (login_at w.target place) refl (which_in (desk_at w.target place) peer label) refl
    lapse_wrote (Some purposes.Management) its = manages Expired (its refl) refl
    lapse_wrote (Some purposes.Unsolicited) its = to_logins tt
