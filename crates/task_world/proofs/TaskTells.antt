-- What the task node tells in each call, and that what it leaves of the medium of its unit is what this says.
use Rattle.std.proofs.Common.{◌≡◌, refl, sym, subst, ℕ, Bool, true, false, cond, List, [], ◌∷◌, Option, Some, None, Result, Ok, Err}
use Rattle.async_packet.specs.Labels.{LabelParts}
use Rattle.async_packet.specs.Packet.{Packet, header_in}
use Rattle.label_table.specs.declared.judgement.Asked.{Asked}
use Rattle.label_table.specs.declared.reply.Stale.{Stale}
use Rattle.label_table.specs.Bodies.{Body}
use Rattle.label_table.specs.Layer.{Finding, Layer, answering_step, expiring_step, judging_step, of_again, of_generation, of_grammar, of_label, of_request, of_response}
use Rattle.login_table.specs.declared.login.Login.{Login}
use Rattle.orb_layout.specs.declared.ask.Ask.{Ask}
use Rattle.orb_layout.specs.declared.ask.FailCause.{FailCause}
use Rattle.orb_layout.specs.declared.pointer.OrbPointer.{OrbPointer}
use Rattle.orb_layout.specs.declared.status.StatusKind.{StatusKind}
use Rattle.orb_layout.specs.Replies.{Answer, Expired, NoLabel}
use Rattle.rbc_disk.specs.declared.command.Outcome.{Outcome}
use Rattle.rbc_disk.specs.Disk.{Disk}
use Rattle.rbc_disk.specs.Runs.{Told, left_by}
use Rattle.rbc_disk.specs.Units.{UnitState, plain_disk}
use Rattle.command_agent.specs.declared.step.PointRefusal.{PointRefusal}
use Rattle.command_agent.specs.Machine.{Machine}
use Rattle.command_agent.specs.Runs.{count_after}
use Rattle.command_agent.specs.Steps.{is_reset}
use Rattle.sbp_journal.specs.declared.cause.CutCause.TheVariants as cuts
use Rattle.sbp_journal.specs.declared.cause.Judged.{Judged}
use Rattle.sbp_journal.specs.declared.side.Side.TheVariants as sides
use Rattle.sbp_journal.specs.Outgoings.{OutboxState}
use Rattle.target_base.specs.declared.address.Access.{Access}
use Rattle.target_base.specs.declared.address.Access.TheVariants as accesses
use Rattle.target_base.specs.declared.address.Demand.{Demand}
use Rattle.target_base.specs.declared.address.Demand.TheVariants as demands
use Rattle.target_base.specs.Addresses.{demand_of}
use Rattle.target_base.specs.Logins.{is_barred}
use Rattle.sbp_world.proofs.AgentForms.{FitsEnd, FitsRun}
use Rattle.sbp_world.proofs.Common.{and_second}
use Rattle.unordered_agent.specs.declared.step.TaskStep.{TaskStep}
use Rattle.unordered_agent.specs.Machine.{TaskMachine, is_busy, state_in, task_at}
use Rattle.unordered_agent.specs.Steps.{doorbell_step, place_of, point_step}
use Rattle.task_target.specs.declared.purpose.TaskPurpose.{TaskPurpose}
use Rattle.task_target.specs.Following.{about, ask_place, asked_by, asks_sent, body_of_ask, cut, failed_step, fetch, fetch_sent, follow, lose, lost_at, noted, outgoing_of, place_sent, settled, stepped, told_cut, with_agent}
use Rattle.task_target.specs.Nodes.{Scene, TaskNode, scene, sent_at}
use Rattle.task_target.specs.Receiving.{TellsAt, TellsIn, answer_in, concluded, expire_place, expired, expired_by, expired_in, expired_with, judged_scene, received, received_as, timed_out, with_layer}
use Rattle.task_target.specs.Replies.{TellsBy, Whole, advance, advanced_with, agent_step, awaits, replied, replied_by, replied_to, replied_with, scene_of, served_login, stage, taken}
use Rattle.task_target.specs.Sending.{answer_step, answered_by, is_that, request_step, sent_by, with_side}
use Rattle.task_target.specs.Serving.{accessed_by, answered, fetched_for, first_orb, point, pointed_by, pointed_node, request_step as served_step, ring, rung_by, serve, served_as}
use Rattle.task_target.specs.Telling.{orb_at, tell_dead, tell_ended, tell_ran, tell_step}
use Rattle.task_target.proofs.Failing.{failed_silent}
use Rattle.task_world.proofs.MediaSides.{Tells, tells_more, tells_run}
use Rattle.task_world.proofs.TaskSteps.{IsFit, Names, failed_fits, reply_fits, reply_names}

-- ---- no run, and what waits

-- of a step that ran no command none is told
no_run : (place : Option ℕ) (m : TaskMachine) (ran : Option Outcome) (o : OutboxState) → ran ≡ None → tell_ran place m ran o ≡ o
no_run None m ran o e = refl
no_run (Some place) m None o e = refl
no_run (Some place) m (Some outcome) o e = absurd (let no : Some outcome ≡ None = e in cc)

module _ (disk : Disk) (count : ℕ) (left : Disk) (now : ℕ) where
  abbrev Says : OutboxState → Type 0
  Says o = Tells disk count left now o.sides

  abbrev Holds : Scene → Type 0
  Holds s = Tells disk count left now s.outbox.sides

  pick : (b : Bool) (x y : Option ℕ × Scene) → Holds x.1 → Holds y.1 → Holds (cond b x y).1
  pick true x y h i = h
  pick false x y h i = i

  pick_judged : (b : Bool) (x y : Judged × Scene) → Holds x.1 → Holds y.1 → Holds (cond b x y).1
  pick_judged true x y h i = h
  pick_judged false x y h i = i

  -- ---- what a step tells

  dead_tells : (x : Option FailCause) (o : OutboxState) → Says o → Says (tell_dead x o)
  dead_tells None o h = h
  dead_tells (Some cause) o h = tells_more disk count left now o.sides (sides.Dead 0 cause) h tt (λ media. refl)

  ended_tells : (place : Option ℕ) (m : TaskMachine) (x : Option StatusKind) (o : OutboxState) → FitsEnd x → Says o → Says (tell_ended place m x o)
  ended_tells None m x o f h = h
  ended_tells (Some place) m None o f h = h
  ended_tells (Some place) m (Some status) o f h = tells_more disk count left now o.sides (sides.Ended 0 (orb_at m place) status) h f (λ media. refl)

  step_tells : (place : Option ℕ) (m : TaskMachine) (step : TaskStep) (o : OutboxState) → FitsEnd step.ended → Says (tell_ran place m step.ran o) → Says (tell_step place m step o)
  unfolding tell_step
  step_tells place m step o f h =
      let a = tell_ran place m step.ran o in ended_tells place m step.ended (tell_dead step.dead a) f (dead_tells step.dead a h)

  quiet_tells : (place : Option ℕ) (step : TaskStep) (s : Scene) → step.ran ≡ None → FitsEnd step.ended → Holds s → Holds (noted place step s)
  quiet_tells place step s e f h =
      step_tells place s.node.agent step s.outbox f (subst Says (sym (no_run place s.node.agent step.ran s.outbox e)) h)

  -- ---- what is asked tells nothing

  sends : (r : Option Asked × Layer TaskPurpose) (o : OutboxState) (peer : ℕ) → Says o → Says (sent_by r o peer).1.1
  sends (Some asked, layer) o peer h = h
  sends (None, layer) o peer h = h

  place_sends : (place peer : ℕ) (node : TaskNode) (r : Option LabelParts × (Layer TaskPurpose × OutboxState)) → Says r.1.1 → Holds (place_sent place peer node r).1
  place_sends place peer node (Some label, (layer, outbox)) h = h
  place_sends place peer node (None, (layer, outbox)) h = h

  body_asks : (body : Option Body) (login : Login) (place : ℕ) (s : Scene) → Holds s → Holds (asked_by body login place s).1
  unfolding request_step
  body_asks None login place s h = h
  body_asks (Some body) login place s h =
      place_sends place login.node s.node (request_step s.node.layer s.outbox login.node body place) (sends _ s.outbox login.node h)

  asks : (login : Login) (is_status : Bool) (place : ℕ) (ask : Ask) (s : Scene) → Holds s → Holds (ask_place login is_status place ask s).1
  unfolding ask_place
  asks login is_status place ask s h = body_asks (body_of_ask ask is_status login.fifo (outgoing_of s.node.agent place)) login place s h

  all_asks : (login : Login) (is_status : Bool) (more : List (ℕ × Ask)) (s : Scene) → Holds s → Holds (asks_sent login is_status more s).1
  unfolding asks_sent
  all_asks login is_status [] s h = h
  all_asks login is_status ((place, ask) ∷ more) s h =
      let one = ask_place login is_status place ask s in
      let i = asks login is_status place ask s h in
      pick one.0 (asks_sent login is_status more one.1) (Some place, one.1) (all_asks login is_status more one.1 i) i

  steps : (login : Login) (place : Option ℕ) (step : TaskStep) (s : Scene) → Holds (noted place step s) → Holds (stepped login place step s).1
  unfolding stepped
  steps login place step s h = all_asks login _ step.asks (noted place step s) h

  -- ---- what follows a step

  loses_at : (login : Login) (place : ℕ) (s : Scene) → Holds s → Holds (lost_at login place s).1
  loses_at login place s h =
      let failed = failed_step s.node.agent place NoLabel in
      let t = scene (with_agent s.node failed.1) s.outbox in
      steps login (about s.node.agent place) failed.0 t
      (quiet_tells (about s.node.agent place) failed.0 t (failed_silent s.node.agent place NoLabel tt) (failed_fits s.node.agent place NoLabel tt).ended h)

  loses : (login : Login) (place : Option ℕ) (s : Scene) → Holds s → Holds (lose login place s).1
  unfolding lose
  loses login None s h = h
  loses login (Some place) s h = pick (is_busy place s.node.agent) (lost_at login place s) (None, s) (loses_at login place s h) h

  settles : (login : Login) (first : Option ℕ × Scene) → Holds first.1 → Holds (settled login first)
  settles login first h =
      let second = lose login first.0 first.1 in
      loses login second.0 second.1 (loses login first.0 first.1 h)

  follows : (login : Login) (place : Option ℕ) (step : TaskStep) (s : Scene) → Holds (noted place step s) → Holds (follow login place step s)
  unfolding follow
  follows login place step s h = settles login (stepped login place step s) (steps login place step s h)

  fetch_sends : (r : Bool × Scene) → Holds r.1 → Holds (fetch_sent r).1
  fetch_sends (true, s) h = h
  fetch_sends (false, s) h = h

  fetches : (login : Login) (ask : Ask) (s : Scene) → Holds s → Holds (fetch login ask s)
  unfolding fetch
  fetches login ask s h =
      let r = ask_place login false 8 ask s in settles login (fetch_sent r) (fetch_sends r (asks login false 8 ask s h))

  cut_tells : (b : Bool) (o : OutboxState) → Says o → Says (told_cut b o)
  cut_tells true o h = h
  cut_tells false o h = tells_more disk count left now o.sides (sides.Cut 0 cuts.AgentReset) h tt (λ media. refl)

  cuts_tell : (s : Scene) → Holds s → Holds (cut s)
  unfolding cut
  cuts_tell s h = cut_tells (is_reset (state_in s.node.agent.fetcher.phase)) s.outbox h

  -- ---- requests

  answers_by : (r : List ℕ × Layer TaskPurpose) (o : OutboxState) (source : ℕ) → Says o → Says (answered_by r o source).1
  answers_by (bytes, layer) o source h = h

  answers : (request : Packet) (bytes : List ℕ) (rcode : ℕ) (given : List ℕ) (s : Scene) → Holds s → Holds (answered request bytes rcode given s)
  unfolding answer_step
  answers request bytes rcode given s h = answers_by (answering_step s.node.layer request bytes rcode given) s.outbox (header_in request).source h

  fetches_for : (login : Option Login) (ask : Ask) (s : Scene) → Holds s → Holds (fetched_for login ask s)
  fetches_for None ask s h = h
  fetches_for (Some login) ask s h = fetches login ask s h

  points_by : (orb : ℕ) (request : Packet) (bytes : List ℕ) (r : Result Ask PointRefusal × TaskMachine) (s : Scene) → Holds s → Holds (pointed_by orb request bytes r s)
  points_by orb request bytes (Ok ask, m) s h =
      let t = scene (pointed_node orb m s.node) (with_side s.outbox (sides.Opened 0 orb)) in
      let u = answered request bytes 0 [] t in
      fetches_for (served_login u.node) ask u (answers request bytes 0 [] t (tells_more disk count left now s.outbox.sides (sides.Opened 0 orb) h refl (λ media. refl)))
  points_by orb request bytes (Err refusal, m) s h = answers request bytes _ [] (scene (with_agent s.node m) s.outbox) h

  points : (pointer : OrbPointer) (request : Packet) (bytes : List ℕ) (s : Scene) → Holds s → Holds (point pointer request bytes s)
  unfolding point
  points pointer request bytes s h = points_by (first_orb pointer) request bytes (point_step s.node.agent pointer) s h

  rings_by : (request : Packet) (bytes : List ℕ) (r : Ask × TaskMachine) (s : Scene) → Holds s → Holds (rung_by request bytes r s)
  rings_by request bytes (ask, m) s h =
      let u = answered request bytes 0 [] (scene (with_agent s.node m) s.outbox) in
      fetches_for (served_login u.node) ask u (answers request bytes 0 [] (scene (with_agent s.node m) s.outbox) h)

  rings : (request : Packet) (bytes : List ℕ) (s : Scene) → Holds s → Holds (ring request bytes s)
  unfolding ring
  rings request bytes s h = rings_by request bytes (doorbell_step s.node.agent) s h

  accesses_tell : (access : Access) (request : Packet) (bytes : List ℕ) (s : Scene) → Holds s → Holds (accessed_by access request bytes s)
  accesses_tell accesses.State request bytes s h = answers request bytes 0 _ s h
  accesses_tell accesses.Reset request bytes s h = answers request bytes 0 [] (cut s) (cuts_tell s h)
  accesses_tell (accesses.Point pointer) request bytes s h = points pointer request bytes s h
  accesses_tell accesses.Pointer request bytes s h = answers request bytes 0 _ s h
  accesses_tell accesses.Ring request bytes s h = rings request bytes s h
  accesses_tell accesses.Enable request bytes s h = answers request bytes 0 [] s h

  serves_as : (demand : Demand) (request : Packet) (bytes : List ℕ) (s : Scene) → Holds s → Holds (served_as demand request bytes s)
  serves_as (demands.Refused rcode) request bytes s h = answers request bytes rcode [] s h
  serves_as (demands.Rom at len) request bytes s h = answers request bytes 0 _ s h
  serves_as (demands.Manage orb) request bytes s h = answers request bytes 7 [] s h
  serves_as (demands.Agent place access) request bytes s h = accesses_tell access request bytes s h

  serves : (request : Packet) (bytes : List ℕ) (s : Scene) → Holds s → Holds (serve request bytes s)
  unfolding serve
  serves request bytes s h = serves_as (demand_of _ request) request bytes s h

  request_tells : (request : Packet) (bytes : List ℕ) (s : Scene) → Holds s → Holds (served_step request bytes s).1
  unfolding served_step
  request_tells request bytes s h = pick_judged (is_barred s.node.logins request) _ _ (answers request bytes 7 [] s h) (serves request bytes s h)

  -- ---- a time-out

  expires_with : (place : ℕ) (login : Login) (r : TaskStep × TaskMachine) (s : Scene) → r.0.ran ≡ None → FitsEnd r.0.ended → Holds s → Holds (expired_with place login r s)
  expires_with place login (step, m) s e f h =
      let t = scene (with_agent (taken place s.node) m) s.outbox in
      follows login (about s.node.agent place) step t (quiet_tells (about s.node.agent place) step t e f h)

  expires_by : (place : ℕ) (login : Option Login) (b : Bool) (s : Scene) → Holds s → Holds (expired_by place login b s)
  expires_by place (Some login) true s h =
      expires_with place login (failed_step s.node.agent place Expired) s (failed_silent s.node.agent place Expired tt) (failed_fits s.node.agent place Expired tt).ended h
  expires_by place (Some login) false s h = h
  expires_by place None b s h = h

  expires_place : (place peer : ℕ) (label : LabelParts) (s : Scene) → Holds s → Holds (expire_place place peer label s)
  unfolding expire_place
  expires_place place peer label s h =
      expires_by place (served_login s.node) (awaits s.node place peer label) s h

  times_out : (purpose : Option TaskPurpose) (peer : ℕ) (label : LabelParts) (s : Scene) → Holds s → Holds (timed_out purpose peer label s)
  times_out None peer label s h = h
  times_out (Some purpose) peer label s h = expires_place purpose.place peer label s h

  expires_in : (r : Result (Option TaskPurpose) Stale × Layer TaskPurpose) (peer : ℕ) (label : LabelParts) (s : Scene) → Holds s → Holds (expired_in r peer label s).1
  expires_in (Ok purpose, layer) peer label s h = times_out purpose peer label (scene (record s.node { layer = layer }) s.outbox) h
  expires_in (Err stale, layer) peer label s h = h

  pub expires : (peer : ℕ) (label : LabelParts) (s : Scene) → Holds s → Holds (expired peer label s).1
  unfolding expired
  expires peer label s h = expires_in (expiring_step s.node.layer peer label) peer label s h

-- ---- a reply

-- what a task leaves of the medium
abbrev left_of : Option Outcome → Machine → UnitState → Disk → Disk
left_of ran task unit disk = (left_by ran task.orb.cdb task.payload 0 (plain_disk unit disk)).medium

-- what was told makes of the medium what it holds, and of its count of faults this
abbrev pub Leaves : Disk → ℕ → ℕ → Whole → Type 0
Leaves disk count now w = Tells disk count w.disk now w.outbox.sides

-- what the agent makes of a reply, and what the node does then
abbrev advanced : ℕ → Login → TaskStep × TaskMachine → Whole → Whole
advanced place login made w = advanced_with place login (replied_with place made (stage w.node w.disk)) w

-- where a reply is and_second a transaction of the place is under way
abbrev Waits : Bool → ℕ → Whole → Type 0
Waits b place w = b ≡ true → is_busy place w.node.agent ≡ true

-- what may be told where a packet is received
abbrev pub MayTellOf : Option Told → ℕ → List ℕ → Whole → ℕ → ℕ → Type 0
MayTellOf told generation bytes w before now =
    let found = judging_step w.node.layer generation bytes in TellsIn told found.0 (with_layer found.1 w) before now

-- what may be told where a reply came to a place
abbrev MayReply : Option Told → ℕ → Answer → Option Login → Bool → Whole → ℕ → ℕ → Type 0
MayReply told place answer login b w before now = TellsBy told place answer login b (stage w.node w.disk) before now

module _ (disk : Disk) (count : ℕ) where
  -- the command of the ORB that the step is about ran, or none did
  abbrev RanTells : Option ℕ → ℕ → TaskMachine → Option Outcome → UnitState → Disk → ℕ → OutboxState → Type 0
  RanTells place at m ran unit left now o = Tells disk count (left_of ran (task_at m at) unit left) (count_after ran now) (tell_ran place m ran o).sides

  ran_tells : (left : Disk) (now : ℕ) (place : Option ℕ) (at : ℕ) (m : TaskMachine) (ran : Option Outcome) (unit : UnitState) (o : OutboxState) → Names place at ran → FitsRun ran → Tells disk count left now o.sides → RanTells place at m ran unit left now o
  ran_tells left now place at m None unit o n f h = subst (λ (x : OutboxState). Tells disk count left now x.sides) (sym (no_run place m None o refl)) h
  ran_tells left now None at m (Some outcome) unit o n f h = absurd (let no : None ≡ Some at = n in cc)
  ran_tells left now (Some place) at m (Some outcome) unit o n f h =
      let same : place ≡ at = cc in
      let task = task_at m place in
      subst (λ (n : ℕ). RanTells (Some place) n m (Some outcome) unit left now o) same
      (tells_run disk count left (left_of (Some outcome) task unit left) now (count_after (Some outcome) now) o.sides (sides.Ran 0 (orb_at m place) task.orb.cdb task.payload outcome) h (refl, f) (λ disks faults. refl))

  advances : (now place : ℕ) (login : Login) (w : Whole) (made : TaskStep × TaskMachine) → Names (about w.node.agent place) (place_of w.node.agent place) made.0.ran → IsFit made.0 → Leaves disk count now w
      → Leaves disk count (count_after made.0.ran now) (advanced place login made w)
  advances now place login w (step, m) n f h =
      let at = place_of w.node.agent place in
      let st = (replied_with place (step, m) (stage w.node w.disk)).1 in
      let then = count_after step.ran now in
      follows disk count st.disk then login (about w.node.agent place) step (scene st.node w.outbox)
      (step_tells disk count st.disk then (about w.node.agent place) m step w.outbox f.ended (ran_tells w.disk now (about w.node.agent place) at m step.ran w.node.unit w.outbox n f.ran h))

  replies_by : (told : Option Told) (place : ℕ) (answer : Answer) (login : Option Login) (b : Bool) (w : Whole) (before now : ℕ) → Waits b place w → MayReply told place answer login b w before now
      → Leaves disk count before w → Leaves disk count now (replied_by told place answer login b w)
  unfolding advance replied
  replies_by told place answer (Some login) true w before now busy t h =
      let made = agent_step told place answer (stage w.node w.disk) in
      let names = reply_names w.node.agent 0 (plain_disk w.node.unit w.disk) told place answer (busy refl) in
      let fits = reply_fits w.node.agent 0 (plain_disk w.node.unit w.disk) told place answer t.may in
      subst (λ (n : ℕ). Leaves disk count n (advanced place login made w)) (sym t.counted) (advances before place login w made names fits h)
  replies_by told place answer (Some login) false w before now busy t h = subst (λ (n : ℕ). Leaves disk count n w) (sym t.counted) h
  replies_by told place answer None b w before now busy t h = subst (λ (n : ℕ). Leaves disk count n w) (sym t.counted) h

  concludes : (told : Option Told) (purpose : Option TaskPurpose) (peer : ℕ) (label : LabelParts) (answer : Answer) (w : Whole) (before now : ℕ) → TellsAt told purpose peer label answer w before now → Leaves disk count before w → Leaves disk count now (concluded told purpose peer label answer w)
  unfolding concluded replied_to
  concludes told None peer label answer w before now t h = subst (λ (n : ℕ). Leaves disk count n w) (sym t.counted) h
  concludes told (Some purpose) peer label answer w before now t h =
      let place = purpose.place in
      replies_by told place answer (served_login w.node) (awaits w.node place peer label) w before now (and_second (is_that (sent_at w.node place) peer label) (is_busy place w.node.agent)) t h

  -- ---- a packet

  scene_leaves : (r : Judged × Scene) (w : Whole) (now : ℕ) → Tells disk count w.disk now r.1.outbox.sides → Leaves disk count now (judged_scene r w).1
  scene_leaves (judged, s) w now h = h

  receives_as : (told : Option Told) (bytes : List ℕ) (found : Finding TaskPurpose) (w : Whole) (before now : ℕ) → TellsIn told found w before now → Leaves disk count before w → Leaves disk count now (received_as told bytes found w).1
  receives_as told bytes of_generation w before now t h = subst (λ (n : ℕ). Leaves disk count n w) (sym t.counted) h
  receives_as told bytes of_grammar w before now t h = subst (λ (n : ℕ). Leaves disk count n w) (sym t.counted) h
  receives_as told bytes of_label w before now t h = subst (λ (n : ℕ). Leaves disk count n w) (sym t.counted) h
  receives_as told bytes (of_response p label purpose) w before now t h = concludes told purpose (header_in p).source label (answer_in p) w before now t h
  receives_as told bytes (of_again p rcode) w before now t h =
      answers disk count w.disk now p bytes rcode [] (scene_of w) (subst (λ (n : ℕ). Leaves disk count n w) (sym t.counted) h)
  receives_as told bytes (of_request p) w before now t h =
      scene_leaves (served_step p bytes (scene_of w)) w now (request_tells disk count w.disk now p bytes (scene_of w) (subst (λ (n : ℕ). Leaves disk count n w) (sym t.counted) h))

  pub receives : (told : Option Told) (generation : ℕ) (bytes : List ℕ) (w : Whole) (before now : ℕ) → MayTellOf told generation bytes w before now → Leaves disk count before w → Leaves disk count now (received told generation bytes w).1
  unfolding received
  receives told generation bytes w before now t h =
      let found = judging_step w.node.layer generation bytes in receives_as told bytes found.0 (with_layer found.1 w) before now t h
