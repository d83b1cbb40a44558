-- In a call of the target no end is told, and each agent stays in its phase or is cut; or the agent of one place acts: one that writes a status block, or is dead, ends none and stays so, or the write of its
-- status block is answered with rcode 0; and where an end is told the agent writes the status block then, as it comes by a reply to its main transaction, or is dead.
use Rattle.std.proofs.Common.{◌≡◌, ◌∙◌, refl, sym, ap, subst, inl, ◌⊎◌, ◌<◌, ℕ, Bool, true, false, cond, List, [], length, Option, Some, None, Result, Ok, Err}
use Rattle.async_packet.specs.Labels.{LabelParts}
use Rattle.async_packet.specs.Packet.{Packet, header_in}
use Rattle.label_table.specs.Layer.{Finding, Layer, expiring_step, judging_step, of_again, of_generation, of_grammar, of_label, of_request, of_response}
use Rattle.login_table.specs.declared.login.Login.{Login}
use Rattle.orb_layout.specs.declared.ask.Ask.{Ask}
use Rattle.orb_layout.specs.declared.pointer.OrbPointer.{OrbPointer}
use Rattle.orb_layout.specs.Replies.{Expired, write_failure}
use Rattle.rbc_disk.specs.Runs.{Told}
use Rattle.command_agent.specs.declared.step.PointRefusal.{PointRefusal}
use Rattle.command_agent.specs.declared.step.Which.{Which}
use Rattle.command_agent.specs.declared.step.Which.TheVariants.{Main}
use Rattle.command_agent.specs.declared.phase.Phase.TheVariants as phases
use Rattle.command_agent.specs.Steps.{point_step}
use Rattle.sbp_journal.specs.declared.cause.CutCause.TheVariants as cuts
use Rattle.sbp_journal.specs.declared.cause.Cause.TheVariants as ignored
use Rattle.sbp_journal.specs.declared.cause.Judged.{Judged}
use Rattle.sbp_journal.specs.declared.cause.Judged.TheVariants as judgements
use Rattle.sbp_journal.specs.Outgoings.{empty_outbox}
use Rattle.target_base.specs.Addresses.{address_error, complete, demand_of}
use Rattle.target_base.specs.declared.address.Access.{Access}
use Rattle.target_base.specs.declared.address.Access.TheVariants as accesses
use Rattle.target_base.specs.declared.address.Demand.{Demand}
use Rattle.target_base.specs.declared.address.Demand.TheVariants as demands
use Rattle.sbp_target.specs.declared.purpose.Purpose.{Purpose}
use Rattle.sbp_target.specs.declared.purpose.Purpose.TheVariants as purposes
use Rattle.sbp_target.specs.Agents.{cut}
use Rattle.sbp_target.specs.Desks.{which_in}
use Rattle.sbp_target.specs.Nodes.{Scene, desk_at, login_at, scene}
use Rattle.sbp_target.specs.Receiving.{answer_in, concluded, expire_agent, expired, expired_by, expired_in, judged_scene, received, received_as, settled, timed_out}
use Rattle.sbp_target.specs.Replies.{Whole, replied_by, replied_to, served_login, whole}
use Rattle.sbp_target.specs.Serving.{accessed_by, answered, enabled, is_barred, point, request_step, serve, served_as}
use Rattle.sbp_world.specs.Worlds.{WorldState}
use Rattle.sbp_target.proofs.Histories.Calling.{Good}
use Rattle.sbp_target.proofs.Histories.Settled.{reaches}
use Rattle.command_agent.specs.Machine.{Machine}
use Rattle.sbp_target.specs.Nodes.{with_desk}
use Rattle.sbp_target.specs.Serving.{pointed_by, rcode_of}
use Rattle.sbp_world.proofs.Lists.BusyCuts.{AreBeside, Cutting, First, WasCut, answers, cuts_one, desk_more, manages, same_desks, sees, starts, ticks}
use Rattle.sbp_target.specs.Receiving.{seen, ticked}
use Rattle.sbp_world.proofs.Lists.Full.{IsClosed}
use Rattle.sbp_world.proofs.Lists.Pointers.{refused}
use Rattle.rbc_disk.specs.Disk.{Disk}
use Rattle.label_table.specs.declared.reply.Stale.{Stale}
use Rattle.sbp_target.specs.Calls.{Call, alone, lets_expire, receives, sees as sight, sets_key, ticks as second}
use Rattle.sbp_target.specs.Desks.{pointed_desk}
use Rattle.sbp_world.proofs.Lists.EndingFollows.{ends_in}
use Rattle.sbp_world.proofs.Lists.EndingCalls.{beside_ends}
use Rattle.sbp_world.proofs.Lists.OverFollows.{Acts}
use Rattle.sbp_world.proofs.Lists.OverSteps.{Keeps, keeps_closed, same_self}
use Rattle.sbp_world.proofs.Lists.EndingSteps.{is_over}
use Rattle.sbp_world.proofs.Lists.OverTurns.{first, late_acts, reply_acts, rung_acts, taken_acts, there}
use Rattle.sbp_world.proofs.Lists.StatusCalls.{placed}

-- a reply to the main transaction of the agent of a place comes
pub record ComesMain (w : WorldState) (call : Call) (q : ℕ) : Type 0 where
  pub run : Option Told
  pub disks : List Disk
  pub generation : ℕ
  pub bytes : List ℕ
  pub is : call ≡ receives run disks generation bytes
  pub packet : Packet
  pub label : LabelParts
  pub found : (judging_step w.target.layer generation bytes).0 ≡ of_response packet label (Some (purposes.Agent q))
  pub main : which_in (desk_at w.target q) (header_in packet).source label ≡ Some Main

-- and it is one with rcode 0 to the write of its status block
pub record GoesOn (w : WorldState) (call : Call) (q : ℕ) : Type 0 where
  pub comes : ComesMain w call q
  pub phase_is : (desk_at w.target q).agent.phase ≡ phases.WritingStatus
  pub done : write_failure (answer_in comes.packet) ≡ None

module _ (w : WorldState) (g : Good w.target) (On By : ℕ → Type 0) where
  -- what a call does
  pub data Called (s : Scene) : Type 0 where
    rests : ends_in s.outbox.sides ≡ [] → ((p : ℕ) → ((desk_at s.node p).agent.phase ≡ (desk_at w.target p).agent.phase) ⊎ WasCut p s.outbox.sides) → AreBeside s.outbox.sides → ((p : ℕ) → Keeps (desk_at w.target p).agent (desk_at s.node p).agent) → Called s
    acts : (q : ℕ) (b : q < 8) → Acts q b (λ p. (desk_at w.target p).agent) ((is_over (desk_at w.target q).agent.phase ≡ false) ⊎ On q) (By q) s → Called s

  abbrev Before : ℕ → Machine
  Before p = (desk_at w.target p).agent

  -- the status block that an agent writes stays
  abbrev Block : ℕ → Machine → Type 0
  Block p m = Keeps (Before p) m

  block_closed : IsClosed Block
  block_closed = keeps_closed Before

  abbrev Cuts : Scene → Type 0
  Cuts s = Cutting Block block_closed Before s

  cutting : (s : Scene) → Cuts s → Called s
  cutting s c = rests (beside_ends s.outbox.sides c.beside) c.stays c.beside (λ p. c.full p (λ e. same_self (Before p)))

  begins : (layer : Layer Purpose) → First Block block_closed Before (first w g layer)
  begins layer = record { cutting = record { desks = g.mid.size; beside = tt; stays = λ p. inl refl; full = λ p f. f }; plain = tt }

  starting : (layer : Layer Purpose) → Cuts (first w g layer)
  starting layer = (begins layer).cutting

  at_start : (layer : Layer Purpose) → Called (first w g layer)
  at_start layer = cutting _ (starting layer)

  module _ (generation : ℕ) (bytes : List ℕ) (run : Option Told) (disks : List Disk) (comes : (p : Packet) (label : LabelParts) (place : ℕ) → (judging_step w.target.layer generation bytes).0 ≡ of_response p label (Some (purposes.Agent place)) → which_in (desk_at w.target place) (header_in p).source label ≡ Some Main → By place) (goes : (p : Packet) (label : LabelParts) (place : ℕ) → (judging_step w.target.layer generation bytes).0 ≡ of_response p label (Some (purposes.Agent place)) → which_in (desk_at w.target place) (header_in p).source label ≡ Some Main → (desk_at w.target place).agent.phase ≡ phases.WritingStatus → write_failure (answer_in p) ≡ None → On place) where
    abbrev layer : Layer Purpose
    layer = (judging_step w.target.layer generation bytes).1

    abbrev here : Scene
    here = first w g layer

    abbrev all : Whole
    all = whole here disks

    abbrev Now : Scene → Type 0
    Now s = Called s

    answer : (p : Packet) (rcode : ℕ) (given : List ℕ) (s : Scene) → Cuts s → Now (answered p bytes rcode given s)
    answer p rcode given s k = cutting _ (answers Block block_closed Before p bytes rcode given s k)

    reply_by : (p : Packet) (label : LabelParts) (place : ℕ) → (judging_step w.target.layer generation bytes).0 ≡ of_response p label (Some (purposes.Agent place)) → (login : Option Login) → served_login w.target place ≡ login → (which : Option Which) → which_in (desk_at w.target place) (header_in p).source label ≡ which → (let x = replied_by run place (answer_in p) login which all in Now (scene x.node x.outbox))
    reply_by p label place f None l which e = at_start layer
    reply_by p label place f (Some login) l None e = at_start layer
    reply_by p label place f (Some login) l (Some which) e =
        let b = placed w.target g.mid.size place (header_in p).source label which e in
        acts place b
        (reply_acts w g layer place b (On place) (By place) login which run (answer_in p) disks
        (λ t. goes p label place f (e ∙ ap (λ x. Some x) t.main) t.phase_is t.done) (λ m. comes p label place f (e ∙ ap (λ x. Some x) m)))

    concludes : (p : Packet) (label : LabelParts) (purpose : Option Purpose) → (judging_step w.target.layer generation bytes).0 ≡ of_response p label purpose → (let x = concluded run purpose (header_in p).source label (answer_in p) all in Now (scene x.node x.outbox))
    unfolding concluded replied_to
    concludes p label None f = at_start layer
    concludes p label (Some (purposes.Agent place)) f = reply_by p label place f (served_login (there w g layer) place) refl (which_in (desk_at w.target place) (header_in p).source label) refl
    concludes p label (Some purposes.Management) f = cutting _ (manages Block block_closed Before (answer_in p) here (begins layer))
    concludes p label (Some purposes.Unsolicited) f = cutting _ (same_desks Block block_closed Before here (settled (header_in p).source here.node) empty_outbox refl refl (starting layer))

    -- ---- a request
    point_by : (p : Packet) (place : ℕ) (pointer : OrbPointer) → place < 8 → (x : Result Ask PointRefusal) → (point_step (Before place) pointer).0 ≡ x → Now (point place pointer p bytes here)
    unfolding point
    point_by p place pointer small (Ok ask) e = acts place small (taken_acts w g layer place small (On place) (By place) p bytes pointer ask e)
    point_by p place pointer small (Err refusal) e =
        let now = (point_step (Before place) pointer).1 in
        let d = record (desk_at here.node place) { agent = now } in
        let t = scene (with_desk here.node place d) empty_outbox in
        subst (λ (x : Result Ask PointRefusal). Now (pointed_by place p bytes (pointed_desk (desk_at here.node place) (x, now)) here)) (sym e)
        (answer p (rcode_of refusal) [] t (desk_more Block block_closed Before here place d (ap (λ (m : Machine). m.phase) (refused (Before place) pointer refusal e)) (block_closed.point place (Before place) pointer) (starting layer)))

    access_by : (p : Packet) (place : ℕ) (access : Access) → is_barred w.target p ≡ false → demand_of (length w.target.rom) p ≡ demands.Agent place access → Now (accessed_by access place p bytes here)
    access_by p place accesses.State n d = answer p complete _ here (starting layer)
    access_by p place accesses.Reset n d = answer p complete [] (cut cuts.AgentReset place here) (cuts_one Block block_closed Before cuts.AgentReset place here (begins layer)).cutting
    access_by p place (accesses.Point pointer) n d = point_by p place pointer (reaches w.target g p place (accesses.Point pointer) n d).small (point_step (Before place) pointer).0 refl
    access_by p place accesses.Pointer n d = answer p complete _ here (starting layer)
    access_by p place accesses.Ring n d = let b = (reaches w.target g p place accesses.Ring n d).small in acts place b (rung_acts w g layer place b (On place) (By place) p bytes)
    access_by p place accesses.Enable n d =
        answer p complete [] (enabled place here) (desk_more Block block_closed Before here place (record (desk_at here.node place) { is_enabled = true }) refl (λ f. f) (starting layer))

    demand_by : (p : Packet) (demand : Demand) → is_barred w.target p ≡ false → demand_of (length w.target.rom) p ≡ demand → Now (served_as demand p bytes here)
    demand_by p (demands.Refused rcode) n d = answer p rcode [] here (starting layer)
    demand_by p (demands.Rom at len) n d = answer p complete _ here (starting layer)
    demand_by p (demands.Manage orb) n d = cutting _ (starts Block block_closed Before orb p bytes here (starting layer))
    demand_by p (demands.Agent place access) n d = access_by p place access n d

    serve_by : (p : Packet) → is_barred w.target p ≡ false → Now (serve p bytes here)
    unfolding serve
    serve_by p n = demand_by p (demand_of (length w.target.rom) p) n refl

    -- ---- by what it is found to be
    abbrev Done : Judged × Whole → Type 0
    Done x = Now (scene x.1.node x.1.outbox)

    by_bar : (p : Packet) (b : Bool) → is_barred w.target p ≡ b → Done (judged_scene (cond b (judgements.Ignored ignored.Login, answered p bytes address_error [] here) (judgements.Got, serve p bytes here)) all)
    by_bar p true e = answer p address_error [] here (starting layer)
    by_bar p false e = serve_by p e

    by_found : (f : Finding Purpose) → (judging_step w.target.layer generation bytes).0 ≡ f → Done (received_as run bytes f all)
    unfolding request_step is_barred
    by_found of_generation found = at_start layer
    by_found of_grammar found = at_start layer
    by_found of_label found = at_start layer
    by_found (of_again p rcode) found = answer p rcode [] here (starting layer)
    by_found (of_response p label purpose) found = concludes p label purpose found
    by_found (of_request p) found = by_bar p (is_barred w.target p) refl

    pub delivery_called : Done (received run generation bytes (whole (scene w.target empty_outbox) disks))
    unfolding received
    delivery_called = by_found (judging_step w.target.layer generation bytes).0 refl

  -- ---- a transaction that times out
  module _ (layer : Layer Purpose) (peer : ℕ) (label : LabelParts) where
    late_by : (place : ℕ) (login : Option Login) (which : Option Which) → which_in (desk_at w.target place) peer label ≡ which → Called (expired_by place login which (first w g layer))
    late_by place None which e = at_start layer
    late_by place (Some login) None e = at_start layer
    late_by place (Some login) (Some which) e =
        let b = placed w.target g.mid.size place peer label which e in acts place b (late_acts w g layer place b (On place) (By place) login which)

    pub lapse_called : (purpose : Option Purpose) → Called (timed_out purpose peer label (first w g layer))
    unfolding expire_agent
    lapse_called None = at_start layer
    lapse_called (Some (purposes.Agent place)) = late_by place (login_at w.target place) (which_in (desk_at w.target place) peer label) refl
    lapse_called (Some purposes.Management) = cutting _ (manages Block block_closed Before Expired (first w g layer) (begins layer))
    lapse_called (Some purposes.Unsolicited) = at_start layer

  -- ---- a generation that it sees, and a second
  pub sight_called : (generation id : ℕ) → Called (seen generation id (first w g w.target.layer)).1
  sight_called generation id = cutting _ (sees Block block_closed Before generation id (first w g w.target.layer) (begins w.target.layer))

  pub tick_called : Called (ticked (first w g w.target.layer))
  tick_called = cutting _ (ticks Block block_closed Before (first w g w.target.layer) (starting w.target.layer))

  -- ---- any call
  lapse_by : (peer : ℕ) (label : LabelParts) (y : Result (Option Purpose) Stale × Layer Purpose) → Called (expired_in y peer label (scene w.target empty_outbox)).1
  lapse_by peer label (Ok purpose, layer) = lapse_called layer peer label purpose
  lapse_by peer label (Err stale, layer) = at_start layer

  pub lapses_called : (peer : ℕ) (label : LabelParts) → Called (expired peer label (scene w.target empty_outbox)).1
  unfolding expired
  lapses_called peer label = lapse_by peer label (expiring_step w.target.layer peer label)

  pub key_called : (unit : ℕ) (key : List ℕ) → Called (alone (sets_key unit key) w.target)
  key_called unit key = rests refl (λ p. inl refl) tt (λ p e. same_self (Before p))

abbrev pub CalledBy : (w : WorldState) → Good w.target → Call → Type 0
CalledBy w g call = Called w g (GoesOn w call) (ComesMain w call) (alone call w.target)

pub call_called : (w : WorldState) (g : Good w.target) (call : Call) → CalledBy w g call
call_called w g (receives run disks generation bytes) =
    let call = receives run disks generation bytes in
    let comes : (p : Packet) (label : LabelParts) (place : ℕ) → (judging_step w.target.layer generation bytes).0 ≡ of_response p label (Some (purposes.Agent place)) → which_in (desk_at w.target place) (header_in p).source label ≡ Some Main → ComesMain w call place =
    λ p label place f e. record { run = run; disks = disks; generation = generation; bytes = bytes; is = refl; packet = p; label = label; found = f; main = e } in
    delivery_called w g (GoesOn w call) (ComesMain w call) generation bytes run disks comes (λ p label place f e phase_is done. record { comes = comes p label place f e; phase_is = phase_is; done = done })
call_called w g (lets_expire peer label) = let call = lets_expire peer label in lapses_called w g (GoesOn w call) (ComesMain w call) peer label
call_called w g (sight generation id) = let call = sight generation id in sight_called w g (GoesOn w call) (ComesMain w call) generation id
call_called w g second = tick_called w g (GoesOn w second) (ComesMain w second)
call_called w g (sets_key unit key) = let call = sets_key unit key in key_called w g (GoesOn w call) (ComesMain w call) unit key
