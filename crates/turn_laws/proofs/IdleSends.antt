-- In a turn of the target that is for no agent, and not for the management operation, nothing is sent but the response.
use Rattle.std.proofs.Common.{◌≡◌, ◌∙◌, refl, sym, ap, subst, ℕ, suc, ◌-◌, ◌<◌, ◌≤◌, ◌==◌, ◌&&◌, not, is_some, Bool, true, false, cond, List, [], ◌∷◌, ◌++◌, length, Option, Some, None, Result, Ok, Err}
use Rattle.async_packet.specs.Labels.{LabelParts}
use Rattle.async_packet.specs.Packet.{Packet, header_in}
use Rattle.async_packet.specs.Reading.{reading}
use Rattle.bus_transactions.specs.Judging.{AreJudged}
use Rattle.command_agent.specs.Machine.{Machine, state_in}
use Rattle.command_agent.specs.Steps.{doorbell_step, is_reset, point_step}
use Rattle.command_agent.specs.declared.step.PointRefusal.{PointRefusal}
use Rattle.label_table.specs.Layer.{Finding, Layer, answering_step, expiring_step, judging_step, of_again, of_generation, of_grammar, of_label, of_request, of_response}
use Rattle.label_table.specs.Requests.{reply_kind}
use Rattle.label_table.specs.declared.reply.Stale.{Stale}
use Rattle.orb_layout.specs.declared.ask.Ask.{Ask}
use Rattle.orb_layout.specs.declared.pointer.OrbPointer.{OrbPointer}
use Rattle.orb_layout.specs.Pointers.{offset_at}
use Rattle.orb_layout.specs.Replies.{Expired}
use Rattle.packet_store.specs.declared.sent.Sent.{Sent}
use Rattle.packet_store.specs.Kept.{found_sent}
use Rattle.rbc_disk.specs.Disk.{Disk}
use Rattle.rbc_disk.specs.Runs.{Told}
use Rattle.sbp_bus.specs.Packets.{end_note, judged_note}
use Rattle.sbp_bus.specs.Requests.{find}
use Rattle.sbp_bus.specs.declared.requests.Request.{Request}
use Rattle.sbp_journal.specs.Addresses.{Access, Start, access_of, begins_in_rom, is_start, lies_in_rom, management_agent, no_start, register, rom_base, rom_start, start_at, start_serves}
use Rattle.sbp_journal.specs.Outgoings.{OutboxState, empty_outbox}
use Rattle.sbp_journal.specs.Run.{Moment, said}
use Rattle.sbp_journal.specs.Wire.{terms}
use Rattle.sbp_journal.specs.declared.cause.Cause.TheVariants as causes
use Rattle.sbp_journal.specs.declared.cause.CutCause.TheVariants as cuts
use Rattle.sbp_journal.specs.declared.cause.Judged.{Judged}
use Rattle.sbp_journal.specs.declared.cause.Judged.TheVariants as judgements
use Rattle.sbp_journal.specs.declared.note.Note.{Note}
use Rattle.sbp_journal.specs.declared.note.Note.TheVariants as notes
use Rattle.sbp_laws.specs.Agents.{AgentTurn, Event, agent_turn, by_doorbell, by_pointer, by_reply, write_in}
use Rattle.sbp_laws.specs.Management.{answer_to, answers, call_of, no_call, source_node, start_in, start_of, starts}
use Rattle.sbp_laws.specs.Packets.{id_for, receiver_in, sender_in}
use Rattle.sbp_laws.specs.SentRequests.{behind_answer}
use Rattle.sbp_laws.specs.Targets.{Agent, Purpose as TermPurpose, Reply, Target, agent_at, for_agent, for_manager, is_serial, over, purpose_of, target_at}
use Rattle.sbp_laws.specs.Turns.{EachTurn, Turn, turn}
use Rattle.sbp_target.specs.declared.desk.Desk.{Desk}
use Rattle.sbp_target.specs.declared.purpose.Purpose.{Purpose}
use Rattle.sbp_target.specs.declared.purpose.Purpose.TheVariants as purposes
use Rattle.sbp_target.specs.Agents.{cut}
use Rattle.sbp_target.specs.Desks.{pointed_desk}
use Rattle.sbp_target.specs.Histories.Judgements.{asked_at}
use Rattle.sbp_target.specs.Nodes.{NodeState, Scene as TargetScene, desk_at, scene, with_desk}
use Rattle.sbp_target.specs.Receiving.{answer_in, concluded, expired, expired_in, judged_scene, received, received_as, timed_out, with_layer}
use Rattle.sbp_target.specs.Replies.{Whole}
use Rattle.sbp_target.specs.Serving.{accessed_by, answered, enabled, is_barred, point, pointed_by, request_step, ring, serve, served_as}
use Rattle.sbp_target.proofs.Histories.Asked.{Rows, demand_is, serves_is}
use Rattle.sbp_target.proofs.Histories.Found.{IsFound, found as found_as}
use Rattle.sbp_target.proofs.Histories.Settled.{reaches}
use Rattle.target_base.specs.Addresses.{demand_of, or_nowhere}
use Rattle.target_base.specs.declared.address.Access as base
use Rattle.target_base.specs.declared.address.Access.TheVariants as accesses
use Rattle.target_base.specs.declared.address.Demand.{Demand}
use Rattle.target_base.specs.declared.address.Demand.TheVariants as demands
use Rattle.sbp_world.specs.Delivering.{marked, whole_of}
use Rattle.sbp_world.specs.Hosts.Handing.{AreOthers}
use Rattle.sbp_world.specs.Worlds.{Scene, WorldState, with_note, with_target}
use Rattle.sbp_world.proofs.Agents.CrewFirsts.{access_there}
use Rattle.sbp_world.proofs.Agents.CrewLapse.{handed as handed_for}
use Rattle.sbp_world.proofs.Agents.Management.Holding.{was_sent}
use Rattle.sbp_world.proofs.Agents.Management.Still.{hist}
use Rattle.sbp_world.proofs.Agents.Steps.{point_alike}
use Rattle.sbp_world.proofs.Common.{some_none, untrue}
use Rattle.sbp_world.proofs.Lists.DueRuns.{event_for, its as its_of}
use Rattle.turn_laws.specs.Runs.{OfEveryRun}
use Rattle.turn_laws.specs.TargetRequests.{IsTargets, gets_it, times_out}
use Rattle.turn_laws.proofs.AgentDue.{turn_in}
use Rattle.turn_laws.proofs.AgentHere.{good}
use Rattle.turn_laws.proofs.Calls.{Cases}
use Rattle.turn_laws.proofs.Ends.{away}
use Rattle.turn_laws.proofs.Gots.{access_is, manager_calls, no_kind, request_brings, request_calls}
use Rattle.turn_laws.proofs.Handed.{handed, notes_sent}
use Rattle.turn_laws.proofs.LateEnds.{has_turn, sender}
use Rattle.turn_laws.proofs.OnlyAnswers.{answered_alone, answered_packets, got_nothing, response_to}
use Rattle.turn_laws.proofs.Pass.{of_every_run}
use Rattle.turn_laws.proofs.Places.{Place}
use Rattle.turn_laws.proofs.ReplyEnds.{site, still_bus}
use Rattle.turn_laws.proofs.RequestEvents.{Takes, demand_takes, request_takes}
use Rattle.turn_laws.proofs.TurnSends.{all_alone}
use Rattle.sbp_target.proofs.Requests.Effects.{cut_packets}

abbrev pub IsIdle : List Disk → Turn → Type 0
IsIdle start t = IsTargets t → turn_in start t ≡ None → call_of (over (target_at start t.past)) t ≡ no_call → behind_answer start t ≡ []

-- it begins with such a note
abbrev Starts : Moment → Type 0
Starts (said (notes.Got serial)) = Unit {0}
Starts (said (notes.TimedOut serial)) = Unit {0}
Starts m = ⊥

its_start : (t : Turn) → IsTargets t → Starts t.start
its_start t (gets_it serial e own) = subst Starts (sym e) tt
its_start t (times_out serial e own) = subst Starts (sym e) tt

got_same : (a b : ℕ) → said (notes.Got a) ≡ said (notes.Got b) → a ≡ b
got_same a b e = cc

late_same : (a b : ℕ) → said (notes.TimedOut a) ≡ said (notes.TimedOut b) → a ≡ b
late_same a b e = cc

-- ---- whose turn it is not
got_others : (ms : List Moment) (serial : ℕ) (rest : List Note) (i : ℕ) → receiver_in ((terms ms).sent serial) ≡ Some (suc i) → IsTargets (turn ms (said (notes.Got serial)) rest) → ⊥
got_others ms serial rest i other (gets_it s e own) =
    let same : receiver_in ((terms ms).sent serial) ≡ Some 0 = subst (λ n. receiver_in ((terms ms).sent n) ≡ Some 0) (sym (got_same serial s e)) own in
    let no : Some (suc i) ≡ Some 0 = sym other ∙ same in
    cc
got_others ms serial rest i other (times_out s e own) = let no : said (notes.Got serial) ≡ said (notes.TimedOut s) = e in cc

late_others : (ms : List Moment) (serial : ℕ) (rest : List Note) → is_serial (sender_in ((terms ms).sent serial)) 0 ≡ false → IsTargets (turn ms (said (notes.TimedOut serial)) rest) → ⊥
late_others ms serial rest other (gets_it s e own) = let no : said (notes.TimedOut serial) ≡ said (notes.Got s) = e in cc
late_others ms serial rest other (times_out s e own) =
    let same : sender_in ((terms ms).sent serial) ≡ Some 0 = subst (λ n. sender_in ((terms ms).sent n) ≡ Some 0) (sym (late_same serial s e)) own in
    untrue (sym other ∙ ap (λ o. is_serial o 0) same)

-- ---- what is for an agent
reply_some : (T : Target) (ms : List Moment) (reply : Reply) (rest : List Note) → by_reply T (terms ms) reply rest ≡ None → ⊥
reply_some T ms reply rest e = some_none _ e

ring_some : (place : ℕ) (a : Agent) (r : Ask × Machine) → by_doorbell place a r ≡ None → ⊥
ring_some place a (ask, m) e = some_none _ e

point_some : (place : ℕ) (a : Agent) (r : Result Ask PointRefusal × Machine) (ask : Ask) → r.0 ≡ Ok ask → by_pointer place a r ≡ None → ⊥
point_some place a (Ok other, m) ask e f = some_none _ f
point_some place a (Err refusal, m) ask e f = let no : Err refusal ≡ Ok ask = e in cc

-- ---- what is for the operation
starts_by : (at : Start) (access : Access) (source orb : ℕ) → start_serves at access ≡ true → Some (demands.Manage orb) ≡ asked_at at access → start_of at source access ≡ no_call → ⊥
starts_by management_agent access source orb s e f =
    let no : starts source (offset_at access.payload 0) ≡ no_call = sym (ap (λ b. cond b (starts source (offset_at access.payload 0)) no_call) s) ∙ f in
    cc
starts_by (register place name) access source orb s e f = cc
starts_by rom_start access source orb s e f = some_none _ e
starts_by no_start access source orb s e f = some_none _ e

rows_manage : (l e w r a : Bool) (at len : ℕ) (wanted : Demand) (orb : ℕ) → Rows l e w r false a (demands.Rom at len) wanted ≡ demands.Manage orb → ⊥
rows_manage true e w r a at len wanted orb f = cc
rows_manage false true w r a at len wanted orb f = cc
rows_manage false false true r a at len wanted orb f = cc
rows_manage false false false true a at len wanted orb f = cc
rows_manage false false false false true at len wanted orb f = cc
rows_manage false false false false false at len wanted orb f = cc

module _ (size : ℕ) (p : Packet) (access : Access) (small : size ≤ 1024) (is : access_of p ≡ Some access) (source orb : ℕ) (demand : demand_of size p ≡ demands.Manage orb) where
  abbrev Asks : Bool → Demand
  Asks serves =
      Rows access.is_lock (access.count == 0) (access.is_write && begins_in_rom size access) (not access.is_write && lies_in_rom size access) serves (is_start (start_at access.offset)) (demands.Rom (access.offset - rom_base) access.count) (or_nowhere (asked_at (start_at access.offset) access))

  served_calls : (b : Bool) → start_serves (start_at access.offset) access ≡ b → start_in (Some access) source ≡ no_call → ⊥
  served_calls true s f = starts_by (start_at access.offset) access source orb s (ap Some (sym demand) ∙ serves_is p access is size small s) f
  served_calls false s f =
      rows_manage access.is_lock (access.count == 0) (access.is_write && begins_in_rom size access) (not access.is_write && lies_in_rom size access) (is_start (start_at access.offset)) (access.offset - rom_base) access.count (or_nowhere (asked_at (start_at access.offset) access)) orb
      (sym (ap Asks s) ∙ (sym (demand_is size p access is) ∙ demand))

  manage_calls : start_in (Some access) source ≡ no_call → ⊥
  manage_calls = served_calls (start_serves (start_at access.offset) access) refl

-- ---- a time-out
module _ (units ready : ℕ) (has : 0 < units) (start : List Disk) (past : List Moment) (s : Scene) (here : Place units ready start past s) (serial : ℕ) (request : Request) (found : find s.world.requests serial ≡ Some request) (zero_is : request.node ≡ 0) where
  abbrev w : WorldState
  w = s.world

  abbrev node : NodeState
  node = w.target

  abbrev ms : List Moment
  ms = hist past w

  abbrev T : Target
  T = over (target_at start ms)

  abbrev after : NodeState → WorldState
  after x = with_note (notes.TimedOut serial) (with_target x w)

  abbrev t : List Note → Turn
  t rest = turn ms (said (notes.TimedOut serial)) rest

  module _ (purpose : Option Purpose) (new : Layer Purpose) (e : expiring_step node.layer request.peer request.label ≡ (Ok purpose, new)) (x : NodeState) (o : OutboxState) (others : AreOthers o.sides) where
    abbrev rest : List Note
    rest = handed 0 0 o (after x)

    sends_none : o.packets ≡ [] → behind_answer start (t rest) ≡ []
    sends_none packets =
        let all = all_alone start (t rest) w.generations o (after x) refl others refl refl in all.is ∙ ap (λ ps. notes_sent 0 ps all.world) packets

    call_is : (for : TermPurpose) → purpose_of T serial ≡ for → call_of T (t rest) ≡ answer_to for Expired
    call_is for f = ap (λ b. cond b (answer_to (purpose_of T serial) Expired) no_call) (sender units ready has start past s here serial request found zero_is purpose new e) ∙ ap (λ y. answer_to y Expired) f

    late_by : (own : Option Purpose) → purpose ≡ own → o ≡ (timed_out own request.peer request.label (scene (record node { layer = new }) empty_outbox)).outbox → IsIdle start (t rest)
    late_by None f is = λ its none calls. sends_none (ap (λ (y : OutboxState). y.packets) is)
    late_by (Some purposes.Unsolicited) f is = λ its none calls. sends_none (ap (λ (y : OutboxState). y.packets) is)
    late_by (Some purposes.Management) f is = λ its none calls.
        let no : answers Expired ≡ no_call =
        sym (call_is for_manager ((handed_for units ready has start w here.holds serial request found zero_is purpose new e here.agents.requests here.agents.are here.agents.known).operation f)) ∙ calls in
        cc
    late_by (Some (purposes.Agent q)) f is = λ its none calls. absurd (has_turn units ready has start past s here serial request found zero_is purpose new e q f rest none)

  abbrev IfExpires : Result (Unit {0}) Stale × TargetScene → Type 0
  IfExpires (Ok done, x) = AreOthers x.outbox.sides → IsIdle start (t (handed 0 0 x.outbox (after x.node)))
  IfExpires (Err stale, x) = Unit {0}

  by_layer : (r : Result (Option Purpose) Stale × Layer Purpose) → expiring_step node.layer request.peer request.label ≡ r → IfExpires (expired_in r request.peer request.label (scene node empty_outbox))
  by_layer (Err stale, layer) e = tt
  by_layer (Ok purpose, layer) e =
      let x = timed_out purpose request.peer request.label (scene (record node { layer = layer }) empty_outbox) in λ others. late_by purpose layer e x.node x.outbox others purpose refl refl

  late_idle : IfExpires (expired request.peer request.label (scene node empty_outbox))
  unfolding expired
  late_idle = by_layer (expiring_step node.layer request.peer request.label) refl

-- ---- a packet that the target gets
module _ (units ready : ℕ) (has : 0 < units) (start : List Disk) (past : List Moment) (s : Scene) (here : Place units ready start past s) (serial : ℕ) (again : Bool) (run : Option Told) (one : Sent) (found : found_sent serial s.world.store.kept ≡ Some one) (zero_to : one.to ≡ 0) where
  abbrev W : WorldState
  W = s.world

  abbrev Node : NodeState
  Node = W.target

  abbrev Ms : List Moment
  Ms = hist past W

  abbrev Of : Target
  Of = over (target_at start Ms)

  abbrev behind : Judged → NodeState → WorldState
  behind judged x = with_note (judged_note serial judged) (marked serial again (with_target x W))

  abbrev Turned : Judged → NodeState → OutboxState → Turn
  Turned judged x o = turn Ms (said (judged_note serial judged)) (handed 0 0 o (behind judged x))

  abbrev IfGot : Judged × Whole → Type 0
  IfGot (judged, x) = AreOthers x.outbox.sides → AreJudged (said (judged_note serial judged) ∷ Ms) → IsIdle start (Turned judged x.node x.outbox)

  -- ---- a request
  module _ (judged : AreJudged (said (notes.Got serial) ∷ Ms)) (p : Packet) (read : reading one.bytes ≡ Ok p) (none : reply_kind p ≡ None) (new : Layer Purpose) (same : new ≡ Node.layer) (bar : is_barred Node p ≡ false) (x : NodeState) (o : OutboxState) (others : AreOthers o.sides) where
    abbrev now : WorldState
    now = behind judgements.Got x

    abbrev its_turn : Turn
    its_turn = turn Ms (said (notes.Got serial)) (handed 0 0 o now)

    abbrev at : TargetScene
    at = scene (record Node { layer = new }) empty_outbox

    bus_same : now.generations ≡ W.generations
    bus_same = still_bus units ready has start past s here serial again one found zero_to judged (with_target x W)

    alone_by : (rcode : ℕ) (given : List ℕ) (y : TargetScene) → y.outbox.packets ≡ [] → o ≡ (answered p one.bytes rcode given y).outbox → behind_answer start its_turn ≡ []
    alone_by rcode given y empty is =
        let packet = response_to p (answering_step y.node.layer p one.bytes rcode given).0 in
        answered_alone units ready start past s here serial one found zero_to p read now bus_same o others judged none (answering_step y.node.layer p one.bytes rcode given).0
        (ap (λ (z : OutboxState). z.packets) is ∙ (answered_packets p one.bytes rcode given y ∙ ap (λ ps. ps ++ packet ∷ []) empty))

    abbrev its_rest : List Note
    its_rest = handed 0 0 o now

    abbrev F : Event → Option AgentTurn
    F event = agent_turn event Of (terms Ms) its_rest

    abbrev pointed : ℕ → OrbPointer → Option AgentTurn
    pointed q pointer = by_pointer q (agent_at Of q) (point_step (agent_at Of q).machine pointer)

    abbrev rung : ℕ → Option AgentTurn
    rung q = by_doorbell q (agent_at Of q) (doorbell_step (agent_at Of q).machine)

    takes : Takes F None pointed rung
    takes = record { none = refl; state = λ q a. refl; reset = λ q a. refl; enable = λ q a. refl; points = λ q a. refl; rings = λ q a. refl }

    turn_is : (demand : Demand) → demand_of (length Node.rom) p ≡ demand → turn_in start its_turn ≡ demand_takes F None pointed rung takes demand
    turn_is demand d =
        let there = access_there p none in
        ap F (request_brings units ready has start past s here serial one found zero_to p read none ∙ ap write_in there.is)
        ∙ (request_takes F None pointed rung takes (length Node.rom) p there.access here.holds.rom there.is ∙ ap (demand_takes F None pointed rung takes) d)

    -- a pointer that is refused; one that is taken is for its agent
    module _ (q : ℕ) (b : q < 8) (pointer : OrbPointer) (demand : demand_of (length Node.rom) p ≡ demands.Agent q (accesses.Point pointer)) where
      abbrev d : Desk
      d = desk_at Node q

      points : (r : Result Ask PointRefusal × Machine) → o ≡ (pointed_by q p one.bytes (pointed_desk d r) at).outbox → point_step d.agent pointer ≡ r → turn_in start its_turn ≡ None → behind_answer start its_turn ≡ []
      points (Err refusal, m) is e silent = alone_by _ [] (scene (with_desk at.node q (record d { agent = m })) empty_outbox) refl is
      points (Ok ask, m) is e silent =
          let A = agent_at Of q in
          let al = point_alike A.untold A.machine d.agent pointer (here.agents.are.each q b).machine in
          absurd (point_some q A (point_step A.machine pointer) ask (al.0 ∙ ap (λ (r : Result Ask PointRefusal × Machine). r.0) e) (sym (turn_is (demands.Agent q (accesses.Point pointer)) demand) ∙ silent))

    access_idle : (q : ℕ) (b : q < 8) (access : base.Access) → demand_of (length Node.rom) p ≡ demands.Agent q access → o ≡ (accessed_by access q p one.bytes at).outbox → turn_in start its_turn ≡ None → behind_answer start its_turn ≡ []
    unfolding point ring cut
    access_idle q b accesses.State e is silent = alone_by 0 _ at refl is
    access_idle q b accesses.Pointer e is silent = alone_by 0 _ at refl is
    access_idle q b accesses.Enable e is silent = alone_by 0 [] (enabled q at) refl is
    access_idle q b accesses.Reset e is silent = alone_by 0 [] (cut cuts.AgentReset q at) (cut_packets (is_reset (state_in (desk_at at.node q).agent.phase)) q cuts.AgentReset empty_outbox) is
    access_idle q b (accesses.Point pointer) e is silent = points q b pointer e (point_step (desk_at Node q).agent pointer) is refl silent
    access_idle q b accesses.Ring e is silent = absurd (ring_some q (agent_at Of q) (doorbell_step (agent_at Of q).machine) (sym (turn_is (demands.Agent q accesses.Ring) e) ∙ silent))

    demand_idle : (demand : Demand) → demand_of (length Node.rom) p ≡ demand → o ≡ (served_as demand p one.bytes at).outbox → IsIdle start its_turn
    demand_idle (demands.Refused rcode) e is = λ its silent calls. alone_by rcode [] at refl is
    demand_idle (demands.Rom offset len) e is = λ its silent calls. alone_by 0 _ at refl is
    demand_idle (demands.Manage orb) e is = λ its silent calls.
        let there = access_there p none in
        let wire = terms Ms in
        let source = id_for wire 0 (source_node (sender_in (wire.sent serial))) in
        absurd (manage_calls (length Node.rom) p there.access here.holds.rom there.is source orb e
        (sym (request_calls units ready has start past s here serial one found zero_to p read none ∙ ap (λ x. start_in x source) (access_is units ready has start past s here serial one found zero_to p read ∙ there.is)) ∙ calls))
    demand_idle (demands.Agent q access) e is = λ its silent calls. let r = reaches Node (good units ready has start past s here) p q access bar e in access_idle q r.small access e is silent

    serve_idle : o ≡ (serve p one.bytes at).outbox → IsIdle start its_turn
    unfolding serve
    serve_idle is = demand_idle (demand_of (length Node.rom) p) refl is

  bar_by : (p : Packet) → reading one.bytes ≡ Ok p → reply_kind p ≡ None → (new : Layer Purpose) → new ≡ Node.layer → (b : Bool) → is_barred Node p ≡ b
      → (let left = scene (record Node { layer = new }) empty_outbox in IfGot (judged_scene (cond {A = Judged × TargetScene} b (judgements.Ignored causes.Login, answered p one.bytes 7 [] left) (judgements.Got, serve p one.bytes left)) (with_layer new (whole_of Node s.media))))
  bar_by p read none new same true e = λ others judged its silent calls. absurd (its_start _ its)
  bar_by p read none new same false e = λ others judged. serve_idle judged p read none new same e _ _ others refl

  -- ---- a response
  module _ (judged : AreJudged (said (notes.Got serial) ∷ Ms)) (p : Packet) (read : reading one.bytes ≡ Ok p) (some : is_some (reply_kind p) ≡ true) (label : LabelParts) (new : Layer Purpose) (purpose : Option Purpose) (e : judging_step Node.layer one.generation one.bytes ≡ (of_response p label purpose, new)) (x : NodeState) (o : OutboxState) (others : AreOthers o.sides) where
    abbrev after_it : WorldState
    after_it = behind judgements.Got x

    abbrev response_turn : Turn
    response_turn = turn Ms (said (notes.Got serial)) (handed 0 0 o after_it)

    quiet_by : o.packets ≡ [] → behind_answer start response_turn ≡ []
    quiet_by = got_nothing units ready start past s here serial one found zero_to p read after_it (still_bus units ready has start past s here serial again one found zero_to judged (with_target x W)) o others some

    response_by : (own : Option Purpose) → purpose ≡ own → o ≡ (concluded run own (header_in p).source label (answer_in p) (with_layer new (whole_of Node s.media))).outbox → IsIdle start response_turn
    unfolding concluded
    response_by None f is = λ its silent calls. quiet_by (ap (λ (y : OutboxState). y.packets) is)
    response_by (Some purposes.Unsolicited) f is = λ its silent calls. quiet_by (ap (λ (y : OutboxState). y.packets) is)
    response_by (Some purposes.Management) f is = λ its silent calls.
        let no : answers (answer_in p) ≡ no_call = sym (manager_calls units ready has start past s here serial one found zero_to judged p read some label new purpose e f) ∙ calls in cc
    response_by (Some (purposes.Agent q)) f is = λ its silent calls.
        let rest = handed 0 0 o after_it in
        let at = site units ready has start past s here serial again one found zero_to judged in
        let agent = its_of units ready has start s here.holds at here.units_are.each serial judged rest one found zero_to p read some label new purpose e q f in
        let event = event_for units ready has start s here.holds at here.units_are.each serial judged rest one found zero_to p read some label new purpose e (for_agent q agent.which) agent.is in
        absurd (reply_some Of Ms (record { place = q; which = agent.which; answer = answer_in p }) rest (sym (ap (λ y. agent_turn y Of (terms Ms) rest) event) ∙ silent))

  -- ---- whatever it is found to be
  abbrev Given : Finding Purpose → Layer Purpose → Judged × Whole
  Given f layer = received_as run one.bytes f (with_layer layer (whole_of Node s.media))

  by_finding : (f : Finding Purpose) (layer : Layer Purpose) → judging_step Node.layer one.generation one.bytes ≡ (f, layer) → IsFound f Node.layer layer one.bytes → IfGot (Given f layer)
  unfolding request_step is_barred
  by_finding of_generation layer e f = λ others judged its silent calls. absurd (its_start _ its)
  by_finding of_grammar layer e f = λ others judged its silent calls. absurd (its_start _ its)
  by_finding of_label layer e f = λ others judged its silent calls. absurd (its_start _ its)
  by_finding (of_again p rcode) layer e f = λ others judged its silent calls. absurd (its_start _ its)
  by_finding (of_response p label purpose) layer e f = λ others judged. response_by judged p f.read f.kind label layer purpose e _ _ others purpose refl refl
  by_finding (of_request p) layer e f = bar_by p f.1.read (no_kind (reply_kind p) f.1.kind) layer f.0 (is_barred Node p) refl

  got_idle : IfGot (received run one.generation one.bytes (whole_of Node s.media))
  unfolding received
  got_idle = let f = judging_step Node.layer one.generation one.bytes in by_finding f.0 f.1 refl (found_as Node.layer one.generation one.bytes)

  pub heard_idle : (let x = received run one.generation one.bytes (whole_of Node s.media) in AreOthers x.1.outbox.sides → AreJudged (said (judged_note serial x.0) ∷ Ms) → IsIdle start (Turned x.0 x.1.node x.1.outbox))
  heard_idle = by_pair (received run one.generation one.bytes (whole_of Node s.media)) got_idle
    where
      by_pair : (x : Judged × Whole) → IfGot x → AreOthers x.1.outbox.sides → AreJudged (said (judged_note serial x.0) ∷ Ms) → IsIdle start (Turned x.0 x.1.node x.1.outbox)
      by_pair (judged, x) h = h

-- ---- the turns of the calls
module _ (units ready : ℕ) (has : 0 < units) (start : List Disk) where
  own_idle : (past : List Moment) (s : Scene) (here : Place units ready start past s) (serial : ℕ) (one : Sent) (found : found_sent serial s.world.store.kept ≡ Some one) (i : ℕ) → one.to ≡ suc i → (judged : Judged) (rest : List Note) → IsIdle start (turn (hist past s.world) (said (judged_note serial judged)) rest)
  own_idle past s here serial one found i to_is (judgements.Ignored cause) more = λ its silent calls. absurd (its_start _ its)
  own_idle past s here serial one found i to_is judgements.Got more = λ its silent calls.
      absurd (got_others (hist past s.world) serial more i (ap receiver_in (was_sent s.world here.holds.sound.stands serial one found) ∙ ap Some to_is) its)

  idle_cases : Cases units ready start (IsIdle start)
  idle_cases = record {
    heard = λ past s serial again run one found zero_to may others here behind noted. heard_idle units ready has start past s here serial again run one found zero_to others noted.judged;
    heard_own = λ past s serial again one i found to_is inside own here behind noted. own_idle past s here serial one found i to_is _ _;
    late = λ past s serial request done t found node_is e others here behind noted.
        subst (IfExpires units ready has start past s here serial request found node_is) e (late_idle units ready has start past s here serial request found node_is) others;
    late_own = λ past s serial request i outbox state found node_is inside e own here behind noted. λ its silent calls.
        absurd (late_others (hist past s.world) serial _ (away units ready has start past s here serial request found i node_is ((terms (hist past s.world)).sent serial) refl) its);
    sees = λ past s others here behind noted. λ its silent calls. absurd (its_start _ its);
    sees_own = λ past s i inside own here behind noted. λ its silent calls. absurd (its_start _ its);
    ticks = λ past s others here behind noted. λ its silent calls. absurd (its_start _ its);
    ends = λ past s done here behind. end_idle (hist past s.world) done;
    acts = λ past s line i action outbox state inside e own here behind. λ its silent calls. absurd (its_start _ its);
    lines = λ past s line event rest behind brings fresh here there. λ its silent calls. absurd (its_start _ its);
    begins = λ line initiators is_ready. λ its silent calls. absurd (its_start _ its);
  }
    where
      end_idle : (ms : List Moment) (done : Bool) → IsIdle start (turn ms (said (end_note done)) [])
      end_idle moments true = λ its silent calls. absurd (its_start _ its)
      end_idle moments false = λ its silent calls. absurd (its_start _ its)

pub idle_law : OfEveryRun (λ start past. EachTurn (IsIdle start) past)
idle_law = of_every_run IsIdle (λ units ready start has. idle_cases units ready has start)
