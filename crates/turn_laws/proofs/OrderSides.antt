-- What the target tells in each call stands in order. By the laws of its calls: a sight cuts, then holds; a second has its expiries; a request cuts or opens, then ends; an answer to an agent has its run, then
-- ends, then the unsolicited statuses; and a step of the management is as OrderManaged has it.
use Rattle.std.proofs.Common.{arith, ◌≡◌, ◌∙◌, refl, sym, ap, subst, ℕ, zero, suc, ◌+◌, ◌≤◌, nat_lt, Bool, true, false, cond, List, [], ◌∷◌, ◌++◌, length, map, Option, Some, None, Result, Ok, Err}
use Rattle.async_packet.specs.Labels.{LabelParts}
use Rattle.async_packet.specs.Packet.{Packet, header_in}
use Rattle.command_agent.specs.declared.step.AgentState.{AgentState}
use Rattle.command_agent.specs.declared.step.AgentState.TheVariants as states
use Rattle.label_table.specs.declared.judgement.Asked.{Asked}
use Rattle.label_table.specs.declared.reply.Stale.{Stale}
use Rattle.label_table.specs.Bodies.{block_write}
use Rattle.label_table.specs.History as wire
use Rattle.label_table.specs.Layer.{Finding, Layer, asking_step, expiring_step, judging_step, of_again, of_generation, of_grammar, of_label, of_request, of_response}
use Rattle.login_table.specs.declared.login.Login.{Login}
use Rattle.login_table.specs.Table.{expired_ids, is_live}
use Rattle.media_bay.specs.Unsolicited.{block}
use Rattle.orb_layout.specs.declared.pointer.OrbPointer.{OrbPointer}
use Rattle.orb_layout.specs.declared.pointer.OrbPointer.TheVariants as pointers
use Rattle.orb_layout.specs.Replies.{Expired}
use Rattle.packet_store.specs.declared.sent.Sent.{Sent}
use Rattle.rbc_disk.specs.Disk.{Disk}
use Rattle.rbc_disk.specs.Held.{Held}
use Rattle.rbc_disk.specs.Runs.{Told}
use Rattle.rbc_disk.specs.declared.command.Outcome.{Outcome}
use Rattle.sbp_journal.specs.declared.cause.Cause.TheVariants as ignored
use Rattle.sbp_journal.specs.declared.cause.CutCause.{CutCause}
use Rattle.sbp_journal.specs.declared.cause.CutCause.TheVariants as cuts
use Rattle.sbp_journal.specs.declared.cause.Judged.{Judged}
use Rattle.sbp_journal.specs.declared.cause.Judged.TheVariants as judgements
use Rattle.sbp_journal.specs.declared.side.Side.{Side}
use Rattle.sbp_journal.specs.declared.side.Side.TheVariants as sides
use Rattle.sbp_journal.specs.Outgoings.{OutboxState, empty_outbox}
use Rattle.sbp_target.specs.Calls.{receives}
use Rattle.sbp_target.specs.declared.desk.Desk.{Desk}
use Rattle.sbp_target.specs.declared.purpose.Purpose.{Purpose}
use Rattle.sbp_target.specs.declared.purpose.Purpose.TheVariants as purposes
use Rattle.sbp_target.specs.Histories.Layers.{first_of}
use Rattle.sbp_target.specs.Histories.Sides.{AreFirst, AreLast, ArePlain, Announced, agent_tells, announced_as, announced_at, announced_from, announced_if, announced_to, by_place, cut_in, cut_of, delivery_tells, demand_changes, held_login, held_of, is_change, opened_at, opened_in, reply_tells, request_changes, reset_changes, told_from, unsent_then}
use Rattle.sbp_target.specs.Nodes.{NodeState, Scene, desk_at, login_at, scene}
use Rattle.sbp_target.specs.Receiving.{answer_in, concluded, expired, expired_in, judged_scene, received, received_as, seen, ticked, timed_out, with_layer}
use Rattle.sbp_target.specs.Replies.{Whole, served_login}
use Rattle.sbp_target.specs.Serving.{answered, is_barred, request_step, serve, served_as}
use Rattle.sbp_target.specs.Units.{hears, is_pending}
use Rattle.sbp_world.specs.Delivering.{MayTell, whole_of}
use Rattle.target_base.specs.Addresses.{demand_of}
use Rattle.target_base.specs.declared.address.Access.TheVariants as accesses
use Rattle.target_base.specs.declared.address.Demand.{Demand}
use Rattle.target_base.specs.declared.address.Demand.TheVariants as demands
use Rattle.sbp_target.proofs.Histories.Calling.{Good}
use Rattle.sbp_target.proofs.Histories.Found.{IsFound, found}
use Rattle.sbp_target.proofs.Histories.Primitives.{Known, closing_known, expiring_known, live_on}
use Rattle.sbp_target.proofs.Histories.Seats.{Lives}
use Rattle.sbp_target.proofs.Histories.Told.{side_law}
use Rattle.sbp_world.proofs.Agents.Management.Calm as calm
use Rattle.sbp_world.proofs.Agents.Management.Calm.{AreQuiet, Calm, From, IsQuiet}
use Rattle.sbp_world.proofs.Lists.RunTells.{AreRunless, IsRunless, NoneRan, RanBy, TellsRun, delivery_tells as runs_tell, lapse_runless, of_none, of_run}
use Rattle.turn_laws.proofs.ManagedSides.{begins, from_self}
use Rattle.turn_laws.proofs.OrderHanded.{InRanks, side_rank}
use Rattle.turn_laws.proofs.OrderManaged.{Manages, manages, starts}
use Rattle.turn_laws.proofs.OrderRanks.{rises_above, rises_below, rises_both, same_rank}
use Rattle.turn_laws.proofs.PushSides.{quiet_before}

-- ---- cuts, and what opens a list
cut_ranks : (state : AgentState) (cause : CutCause) (place : ℕ) → InRanks 0 (cut_in state cause place) 0
cut_ranks states.Reset cause place = same_rank 0
cut_ranks state cause place = (same_rank 0, same_rank 0)

opened_ranks : (place : ℕ) (pointer : OrbPointer) → InRanks 0 (opened_at place pointer) 0
opened_ranks place pointers.Null = same_rank 0
opened_ranks place (pointers.At orb) = (same_rank 0, same_rank 0)

points_ranks : (state : AgentState) (place : ℕ) (pointer : OrbPointer) → InRanks 0 (opened_in state place pointer) 0
points_ranks states.Reset place pointer = opened_ranks place pointer
points_ranks states.Suspended place pointer = opened_ranks place pointer
points_ranks state place pointer = same_rank 0

demand_ranks : (demand : Demand) (node : NodeState) → InRanks 0 (demand_changes demand node) 0
demand_ranks (demands.Agent place accesses.Reset) node = cut_ranks _ cuts.AgentReset place
demand_ranks (demands.Agent place (accesses.Point pointer)) node = points_ranks _ place pointer
demand_ranks (demands.Agent place access) node = same_rank 0
demand_ranks demand node = same_rank 0

request_ranks : (b : Bool) (p : Packet) (node : NodeState) → InRanks 0 (request_changes b p node) 0
request_ranks true p node = same_rank 0
request_ranks false p node = demand_ranks (demand_of (length node.rom) p) node

-- ---- a sight, and a second
from_ranks : (tells : ℕ → List Side) (r : ℕ) → ((n : ℕ) → InRanks r (tells n) r) → (left n : ℕ) → InRanks r (told_from tells left n) r
from_ranks tells r each zero n = same_rank r
from_ranks tells r each (suc left) n = rises_both side_rank (tells n) (told_from tells left (n + 1)) r r r (each n) (from_ranks tells r each left (n + 1))

held_ranks : (login : Option Login) → InRanks 2 (held_login login) 2
held_ranks None = same_rank 2
held_ranks (Some login) = by (is_live login)
  where
    by : (b : Bool) → InRanks 2 (cond b (sides.Held login.login ∷ []) []) 2
    by true = (same_rank 2, same_rank 2)
    by false = same_rank 2

pub reset_ranks : (b : Bool) (node : NodeState) → InRanks 0 (cond b (reset_changes node) []) 2
reset_ranks true node =
    rises_both side_rank (by_place (cut_of cuts.Reset node)) (by_place (held_of node)) 0 0 2 (from_ranks (cut_of cuts.Reset node) 0 (λ place. cut_ranks _ cuts.Reset place) 8 0)
    (rises_below side_rank (by_place (held_of node)) 0 2 2 (omega arith) (from_ranks (held_of node) 2 (λ place. held_ranks (login_at node place)) 8 0))
reset_ranks false node = omega arith

pub sight_in_ranks : (generation id : ℕ) (node : NodeState) → InRanks 0 (seen generation id (scene node empty_outbox)).1.outbox.sides 7
sight_in_ranks generation id node =
    let b = nat_lt node.layer.generation generation in
    rises_above side_rank (seen generation id (scene node empty_outbox)).1.outbox.sides 0 2 7 (omega arith) (subst (λ told. InRanks 0 told 2) (sym (side_law.sights generation id node)) (reset_ranks b node))

pub expired_ranks : (ids : List ℕ) → InRanks 2 (map (λ login. sides.Expired login) ids) 2
expired_ranks [] = same_rank 2
expired_ranks (id ∷ ids) = (same_rank 2, expired_ranks ids)

pub second_in_ranks : (node : NodeState) → InRanks 0 (ticked (scene node empty_outbox)).outbox.sides 7
second_in_ranks node =
    let told = map (λ login. sides.Expired login) (expired_ids node.logins.places) in
    let h = rises_below side_rank told 0 2 7 (omega arith) (rises_above side_rank told 2 2 7 (omega arith) (expired_ranks (expired_ids node.logins.places))) in
    subst (λ told. InRanks 0 told 7) (sym (side_law.seconds node)) h

-- ---- ends alone
end_rank : (side : Side) → is_change side ≡ false → IsQuiet side → IsRunless side → side_rank side ≡ 6
end_rank (sides.Ended place orb status) p q r = refl
end_rank (sides.Dead place cause) p q r = refl
end_rank (sides.Own note) p q r = absurd q
end_rank (sides.Managed node function subject status login) p q r = absurd q
end_rank (sides.ManageFailed node cause) p q r = absurd q
end_rank (sides.Held login) p q r = absurd q
end_rank (sides.Expired login) p q r = absurd q
end_rank (sides.Back login) p q r = absurd q
end_rank (sides.Left login) p q r = absurd q
end_rank (sides.Ran place orb cdb payload outcome) p q r = absurd r
end_rank side p q r = absurd (let no : true ≡ false = p in cc)

ends_ranks : (later : List Side) → ArePlain later → AreQuiet later → AreRunless later → InRanks 6 later 6
ends_ranks [] p q r = same_rank 6
ends_ranks (side ∷ later) p q r = subst (λ n. (6 ≤ n) × InRanks n later 6) (sym (end_rank side p.0 q.0 r.0)) (same_rank 6, ends_ranks later p.1 q.1 r.1)

-- ---- parts of what was told
quiet_back : (a b : List Side) → AreQuiet (a ++ b) → AreQuiet b
quiet_back [] b h = h
quiet_back (side ∷ a) b h = quiet_back a b h.1

runless_front : (a b : List Side) → AreRunless (a ++ b) → AreRunless a
runless_front [] b h = tt
runless_front (side ∷ a) b h = (h.0, runless_front a b h.1)

runless_back : (a b : List Side) → AreRunless (a ++ b) → AreRunless b
runless_back [] b h = h
runless_back (side ∷ a) b h = runless_back a b h.1

-- ---- changes, and ends behind them
first_ranks : (changes told : List Side) → InRanks 0 changes 0 → AreFirst changes told → AreQuiet told → AreRunless told → InRanks 0 told 7
first_ranks changes told c f q r =
    let ends = ends_ranks f.more f.plain (quiet_back changes f.more (subst AreQuiet f.told_is q)) (runless_back changes f.more (subst AreRunless f.told_is r)) in
    let up = rises_below side_rank f.more 0 6 7 (omega arith) (rises_above side_rank f.more 6 6 7 (omega arith) ends) in
    subst (λ told. InRanks 0 told 7) (sym f.told_is) (rises_both side_rank changes f.more 0 0 7 c up)

-- ---- unsolicited statuses alone
abbrev Pushes : Announced → Type 0
Pushes announced = InRanks 7 announced.0 7

abbrev More : Type 0
More = Layer Purpose → List ℕ → Announced

announced_at_ranks : (unit from place : ℕ) (desk : Desk) (login : Option Login) (layer : Layer Purpose) (pending : List ℕ) (more : More) → ((l : Layer Purpose) (p : List ℕ) → Pushes (more l p)) → Pushes (announced_at unit from place desk login layer pending more)
announced_at_ranks unit from place desk None layer pending more each = each layer pending
announced_at_ranks unit from place desk (Some login) layer pending more each = by (hears unit from place desk login)
  where
    asked_ranks : (a : Option Asked × Layer Purpose) → Pushes (announced_as place login.node pending more a)
    asked_ranks (Some asked, after) = (same_rank 7, each after (pending ++ login.node ∷ []))
    asked_ranks (None, after) = (same_rank 7, each after pending)

    by_pending : (b : Bool) (a : Option Asked × Layer Purpose) → Pushes (cond b (unsent_then place (more layer pending)) (announced_as place login.node pending more a))
    by_pending true a = (same_rank 7, each layer pending)
    by_pending false a = asked_ranks a

    by : (b : Bool) → Pushes (cond b (announced_to place login layer pending more) (more layer pending))
    by true = by_pending (is_pending login.node pending) (asking_step layer login.node (block_write login.fifo block) purposes.Unsolicited)
    by false = each layer pending

announced_ranks : (left place unit from : ℕ) (node : NodeState) (layer : Layer Purpose) (pending : List ℕ) → Pushes (announced_from left place unit from node layer pending)
announced_ranks zero place unit from node layer pending = same_rank 7
announced_ranks (suc left) place unit from node layer pending =
    announced_at_ranks unit from place (desk_at node place) (login_at node place) layer pending (announced_from left (place + 1) unit from node) (announced_ranks left (place + 1) unit from node)

pushes_ranks : (b : Bool) (unit from : ℕ) (node : NodeState) (layer : Layer Purpose) → Pushes (announced_if b unit from node layer)
pushes_ranks false unit from node layer = same_rank 7
pushes_ranks true unit from node layer = announced_ranks 8 0 unit from node layer node.pending

-- ---- one run, then ends
module _ (None_ran : Type 0) (Ran : (place orb : ℕ) → (cdb payload : List ℕ) → Outcome → Type 0) where
  after_run : (before pushes more : List Side) (place orb : ℕ) (cdb payload : List ℕ) (outcome : Outcome) → ArePlain before → AreQuiet before → AreRunless more → before ++ pushes ≡ sides.Ran place orb cdb payload outcome ∷ more → InRanks 0 before 7
  after_run [] pushes more place orb cdb payload outcome p q r e = omega arith
  after_run (side ∷ before) pushes more place orb cdb payload outcome p q r e =
      let ran : side ≡ sides.Ran place orb cdb payload outcome = cc in
      let rest : before ++ pushes ≡ more = cc in
      let ends = ends_ranks before p.1 q.1 (runless_front before pushes (subst AreRunless (sym rest) r)) in
      subst (λ x. (0 ≤ side_rank x) × InRanks (side_rank x) before 7) (sym ran)
      (omega arith, rises_below side_rank before 5 6 7 (omega arith) (rises_above side_rank before 6 6 7 (omega arith) ends))

  run_ranks : (before pushes told : List Side) → ArePlain before → AreQuiet before → told ≡ before ++ pushes → TellsRun None_ran Ran told → InRanks 0 before 7
  run_ranks before pushes told p q e (of_none n h) =
      let ends = ends_ranks before p q (runless_front before pushes (subst AreRunless e h)) in
      rises_below side_rank before 0 6 7 (omega arith) (rises_above side_rank before 6 6 7 (omega arith) ends)
  run_ranks before pushes told p q e (of_run place orb cdb payload outcome more ran h is) =
      after_run before pushes more place orb cdb payload outcome p q h (sym e ∙ is)

  last_ranks : (pushes told : List Side) → InRanks 7 pushes 7 → AreLast pushes told → AreQuiet told → TellsRun None_ran Ran told → InRanks 0 told 7
  last_ranks pushes told h f q t =
      subst (λ told. InRanks 0 told 7) (sym f.told_is)
      (rises_both side_rank f.before pushes 0 7 7 (run_ranks f.before pushes told f.plain (quiet_before f.before pushes (subst AreQuiet f.told_is q)) f.told_is t) h)

silent : (told : List Side) → told ≡ [] → InRanks 0 told 7
silent told e = subst (λ told. InRanks 0 told 7) (sym e) (let low : 0 ≤ 7 = omega arith in low)

managed : (o : OutboxState) → Manages o → InRanks 0 o.sides 7
managed o h = rises_above side_rank o.sides 0 4 7 (omega arith) h

-- quiet, or in order as a step of the management is
data Said (told : List Side) : Type 0 where
  is_quiet : AreQuiet told → Said told
  in_ranks : InRanks 0 told 7 → Said told

-- as a judgement goes with it
as_judged : (P : List Side → Type 0) (r : Judged × Scene) (w : Whole) → P r.1.outbox.sides → P (judged_scene r w).1.outbox.sides
as_judged P (judged, s) w h = h

differ : (p q : Packet) (label : LabelParts) (purpose : Option Purpose) → ◌≡◌ {A = Finding Purpose} (of_request p) (of_response q label purpose) → ⊥
differ p q label purpose e = cc

module _ (node : NodeState) (g : Good node) where
  -- the target with another transaction layer
  abbrev at : Layer Purpose → NodeState
  at layer = record node { layer = layer }

  abbrev here : Layer Purpose → Scene
  here layer = scene (at layer) empty_outbox

  -- ---- a time-out
  -- by what the laws say of it
  abbrev IfLate : Scene → Type 0
  IfLate s = ArePlain s.outbox.sides → AreRunless s.outbox.sides → InRanks 0 s.outbox.sides 7

  lapse_for : (layer : Layer Purpose) (lives : Lives) → From lives layer → (peer : ℕ) (label : LabelParts) (purpose : Option Purpose) → IfLate (timed_out purpose peer label (here layer))
  lapse_for layer lives f peer label None p r = omega arith
  lapse_for layer lives f peer label (Some (purposes.Agent place)) p r =
      let told = (timed_out (Some (purposes.Agent place)) peer label (here layer)).outbox.sides in
      let quiet = (calm.expires_agent lives (at layer) place peer label (here layer) (begins node g layer lives f)).quiet in
      rises_below side_rank told 0 6 7 (omega arith) (rises_above side_rank told 6 6 7 (omega arith) (ends_ranks told p quiet r))
  lapse_for layer lives f peer label (Some purposes.Management) p r = managed (timed_out (Some purposes.Management) peer label (here layer)).outbox (manages (at layer) Expired)
  lapse_for layer lives f peer label (Some purposes.Unsolicited) p r = omega arith

  lapse_by : (r : Result (Option Purpose) Stale × Layer Purpose) (peer : ℕ) (label : LabelParts) → expiring_step node.layer peer label ≡ r → IfLate (expired_in r peer label (scene node empty_outbox)).1
  lapse_by (Ok purpose, layer) peer label e p r =
      let x = expiring_known node.layer layer g.lives peer label purpose g.mid.known e in
      let lives = live_on (wire.expired peer label purpose) g.lives in
      lapse_for layer lives (from_self node g layer lives x.known) peer label purpose p r
  lapse_by (Err stale, layer) peer label e p r = omega arith

  pub lapse_in_ranks : (peer : ℕ) (label : LabelParts) → InRanks 0 (expired peer label (scene node empty_outbox)).1.outbox.sides 7
  unfolding expired
  lapse_in_ranks peer label = lapse_by (expiring_step node.layer peer label) peer label refl (side_law.expiries peer label node) (lapse_runless peer label node)

  -- ---- a request
  module _ (p : Packet) (bytes : List ℕ) (layer : Layer Purpose) (same_layer : layer ≡ node.layer) where
    calm_here : Calm g.lives (at layer) (here layer)
    calm_here = begins node g layer g.lives (from_self node g layer g.lives (subst (λ (l : Layer Purpose). Known l g.lives) (sym same_layer) g.mid.known))

    answer_quiet : (rcode : ℕ) (given : List ℕ) → AreQuiet (answered p bytes rcode given (here layer)).outbox.sides
    answer_quiet rcode given = (calm.answers g.lives (at layer) p bytes rcode given (here layer) calm_here).quiet

    demand_said : (demand : Demand) → Said (served_as demand p bytes (here layer)).outbox.sides
    demand_said (demands.Refused rcode) = is_quiet (answer_quiet rcode [])
    demand_said (demands.Rom at_offset len) = is_quiet (answer_quiet 0 _)
    demand_said (demands.Manage orb) = in_ranks (managed (served_as (demands.Manage orb) p bytes (here layer)).outbox (starts (at layer) orb p bytes))
    demand_said (demands.Agent place access) = is_quiet (calm.accesses_by g.lives (at layer) access place p bytes (here layer) calm_here).quiet

    serve_said : Said (serve p bytes (here layer)).outbox.sides
    unfolding serve
    serve_said = demand_said (demand_of (length node.rom) p)

    request_said : Said (request_step p bytes (here layer)).1.outbox.sides
    unfolding request_step
    request_said = by (is_barred (at layer) p)
      where
        by : (b : Bool) → Said (cond {A = Judged × Scene} b (judgements.Ignored ignored.Login, answered p bytes 7 [] (here layer)) (judgements.Got, serve p bytes (here layer))).1.outbox.sides
        by true = is_quiet (answer_quiet 7 [])
        by false = serve_said

    asked_ranks : (b : Bool) (told : List Side) → AreFirst (request_changes b p node) told → AreRunless told → Said told → InRanks 0 told 7
    asked_ranks b told f r (is_quiet q) = first_ranks (request_changes b p node) told (request_ranks b p node) f q r
    asked_ranks b told f r (in_ranks h) = h

  -- ---- a delivery
  module _ (sent : Sent) (run : Option Told) (media : Held) where
    abbrev Runs : List Side → Type 0
    Runs told = TellsRun (NoneRan node sent run media) (RanBy node sent run media) told

    abbrev Finds : Finding Purpose → Layer Purpose → Type 0
    Finds f layer = judging_step node.layer sent.generation sent.bytes ≡ (f, layer)

    -- what is told, by what the packet is found to be
    abbrev given : Finding Purpose → Layer Purpose → OutboxState
    given f layer = (received_as run sent.bytes f (with_layer layer (whole_of node media))).1.outbox

    no_run : (p : Packet) (layer : Layer Purpose) → Finds (of_request p) layer → (told : List Side) → Runs told → AreRunless told
    no_run p layer e told (of_none n h) = h
    no_run p layer e told (of_run place orb cdb payload outcome more ran h is) =
        absurd (differ p ran.packet ran.label (Some (purposes.Agent place)) (sym (ap (λ (x : Finding Purpose × Layer Purpose). x.0) e) ∙ ran.found))

    -- in order, by what the laws say of its first steps and of its runs
    module _ (first : List (wire.Call Purpose)) (left : List Disk) where
      abbrev IfRuns : OutboxState → Type 0
      IfRuns outbox = Runs outbox.sides → InRanks 0 outbox.sides 7

      agent_ranks : (login : Option Login) (place : ℕ) (outbox : OutboxState) → agent_tells login place node first media.disks left outbox → AreQuiet outbox.sides → IfRuns outbox
      agent_ranks None place outbox tells q r = silent outbox.sides tells
      agent_ranks (Some login) place outbox tells q r =
          last_ranks (NoneRan node sent run media) (RanBy node sent run media) _ outbox.sides (pushes_ranks _ login.unit place node _) tells.told q r

      agent_quiet : (p : Packet) (label : LabelParts) (place : ℕ) (layer : Layer Purpose) (lives : Lives) → From lives layer → AreQuiet (given (of_response p label (Some (purposes.Agent place))) layer).sides
      unfolding concluded
      agent_quiet p label place layer lives f =
          (calm.replies lives (at layer) run place (header_in p).source label (answer_in p) (with_layer layer (whole_of node media)) (begins node g layer lives f)).quiet

      answer_ranks : (p : Packet) (label : LabelParts) (layer : Layer Purpose) → Manages (given (of_response p label (Some purposes.Management)) layer)
      unfolding concluded
      answer_ranks p label layer = manages (at layer) (answer_in p)

      abbrev IfAnswers : Packet → Option Purpose → OutboxState → Type 0
      IfAnswers p purpose outbox = reply_tells purpose (answer_in p) node first media.disks left outbox → IfRuns outbox

      response_ranks : (p : Packet) (label : LabelParts) (layer : Layer Purpose) (lives : Lives) → From lives layer → (purpose : Option Purpose) → IfAnswers p purpose (given (of_response p label purpose) layer)
      response_ranks p label layer lives f None tells r = silent _ tells
      response_ranks p label layer lives f (Some purposes.Unsolicited) tells r = silent _ tells
      response_ranks p label layer lives f (Some purposes.Management) tells r =
          managed (given (of_response p label (Some purposes.Management)) layer) (answer_ranks p label layer)
      response_ranks p label layer lives f (Some (purposes.Agent place)) tells r =
          agent_ranks (served_login node place) place (given (of_response p label (Some (purposes.Agent place))) layer) tells (agent_quiet p label place layer lives f) r

      abbrev IfFound : Finding Purpose → OutboxState → Type 0
      IfFound f outbox = delivery_tells f node first media.disks left outbox → IfRuns outbox

      by_finding : (f : Finding Purpose) (layer : Layer Purpose) → Finds f layer → IsFound f node.layer layer sent.bytes → IfFound f (given f layer)
      by_finding of_generation layer e f tells r = silent _ tells
      by_finding of_grammar layer e f tells r = silent _ tells
      by_finding of_label layer e f tells r = silent _ tells
      by_finding (of_again p rcode) layer e f tells r = silent _ tells
      by_finding (of_response p label purpose) layer e f tells r =
          let c = closing_known node.layer layer g.lives sent.generation sent.bytes p label purpose g.mid.known e f.kind in
          let lives = live_on (wire.closed (header_in p).source label c.kind purpose) g.lives in
          response_ranks p label layer lives (from_self node g layer lives c.known) purpose tells r
      by_finding (of_request p) layer e f tells r =
          let told = (given (of_request p) layer).sides in
          asked_ranks p sent.bytes layer f.0 (is_barred node p) told tells (no_run p layer e told r)
          (as_judged Said (request_step p sent.bytes (here layer)) (with_layer layer (whole_of node media)) (request_said p sent.bytes layer f.0))

    pub delivery_in_ranks : MayTell run sent node media → InRanks 0 (received run sent.generation sent.bytes (whole_of node media)).1.outbox.sides 7
    unfolding received
    delivery_in_ranks may =
        let f = judging_step node.layer sent.generation sent.bytes in
        let x = received run sent.generation sent.bytes (whole_of node media) in
        by_finding (first_of (receives run media.disks sent.generation sent.bytes)) x.1.disks f.0 f.1 refl (found node.layer sent.generation sent.bytes)
        (side_law.deliveries run media.disks sent.generation sent.bytes node) (runs_tell node g.mid.size g.table.sound sent run media may)
