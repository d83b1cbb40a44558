-- What the target tells in a call of the ends of ORBs: of those but with the status failed none; or, as it goes on by the answer to a transaction of an agent, one, that of
-- the agent's present ORB, behind the run and the death of this agent alone.
use Rattle.sbp_world.proofs.Words.Std.{arith, ◌≡◌, ◌∙◌, refl, sym, ap, subst, ℕ, ◌<◌, Bool, true, false, cond, List, [], ◌∷◌, ◌++◌, length, Option, Some, None, Result, Ok, Err, slice_set, get_or-set_same}
use Rattle.sbp_world.proofs.Words.Wire.{LabelParts, Packet, header_in, Stale, Finding, Layer, answering_step, expiring_step, judging_step, of_again, of_generation, of_grammar, of_label, of_request, of_response, Sent, CutCause, Judged, Side, OutboxState, empty_outbox}
use Rattle.sbp_world.proofs.Words.Target.{Login, IsSound, Outcome, Disk, disk_at, Held, Told, left_by, PlainDisk, Phase, AgentStep, PointRefusal, Which, Ahead, Main, Machine, is_ahead, state_in, ahead_lost, asks, doorbell_step, is_reset, lost_step, main_lost, quiet, reply_step, Access, Demand, demand_of, Desk, Purpose, cut, follow, noted, told_cut, expired_desk, new_desk, point_desk, taken, which_in, manage, NodeState, Scene, desk_at, login_at, scene, with_agent, with_desk, answer_in, concluded, expire_agent, expired, expired_by, expired_in, expired_with, judged_scene, received, received_as, timed_out, with_layer, Whole, advance, advanced_with, announced_by, came, changed_by, follow_all, plain_in, step_replied, replied_by, replied_to, replied_with, served_login, stage, whole, answer_step, answered_by, with_side, accessed_by, answered, asked_in, enabled, is_barred, point, pointed_by, served_step, ring, rung_by, serve, served_as, start, orb_of, tell_dead, tell_ended, tell_ran, tell_step}
use Rattle.sbp_world.proofs.Words.Initiator.{Ask, FailCause, OrbPointer, StatusKind, Answer, Expired}
use Rattle.sbp_world.proofs.Words.World.{whole_of}
use Rattle.login_table.proofs.Searching.{within}
use Rattle.orb_layout.specs.declared.ask.FailCause.TheVariants as causes
use Rattle.command_agent.specs.declared.phase.Phase.TheVariants as phases
use Rattle.sbp_journal.specs.declared.cause.CutCause.TheVariants as cuts
use Rattle.sbp_journal.specs.declared.cause.Judged.TheVariants as judgements
use Rattle.sbp_journal.specs.declared.side.Side.TheVariants as sides
use Rattle.target_base.specs.declared.address.Access.TheVariants as accesses
use Rattle.target_base.specs.declared.address.Demand.TheVariants as demands
use Rattle.sbp_target.specs.declared.purpose.Purpose.TheVariants as purposes
use Rattle.sbp_target.proofs.Histories.Followed.{TellsDiscs, announces_by, follows as follows_behind}
use Rattle.sbp_target.proofs.Histories.Views.{Loses}
use Rattle.sbp_world.proofs.Lists.OrbSteps.{ends_read}
use Rattle.sbp_world.proofs.Lists.RunTells.{served_there}
use Rattle.sbp_world.proofs.Lists.StatusPackets.{EndSide, one_end, or_before, told_end}
use Rattle.sbp_world.proofs.Lists.StatusRests.{Resting, manages, starts}
use Rattle.sbp_world.proofs.Lists.BusyCuts.{joined}

-- ---- of no end but with the status failed
abbrev pub IsMild : Side → Type 0
IsMild (sides.Ended place orb status) = ends_read (Some status) ≡ false
IsMild side = Unit {0}

abbrev pub AreMild : List Side → Type 0
AreMild [] = Unit {0}
AreMild (side ∷ later) = IsMild side × AreMild later

mild_more : (told : List Side) (side : Side) → AreMild told → IsMild side → AreMild (told ++ side ∷ [])
mild_more [] side h f = (f, tt)
mild_more (first ∷ told) side h f = (h.0, mild_more told side h.1 f)

-- of the run and the death of an agent alone
abbrev pub IsLight : Side → Type 0
IsLight (sides.Ran place orb cdb payload outcome) = Unit {0}
IsLight (sides.Dead place cause) = Unit {0}
IsLight side = ⊥

abbrev pub AreLight : List Side → Type 0
AreLight [] = Unit {0}
AreLight (side ∷ later) = IsLight side × AreLight later

light_side : (side : Side) → IsLight side → IsMild side
light_side (sides.Ended place orb status) h = absurd h
light_side side h = tt

light_mild : (told : List Side) → AreLight told → AreMild told
light_mild [] h = tt
light_mild (side ∷ later) h = (light_side side h.0, light_mild later h.1)

-- with no end told
some_end : {A : Type 0} (one : EndSide) → Some one ≡ None → A
some_end one e = absurd (let x : Some one ≡ None = e in cc)

end_none : (side : Side) → one_end side ≡ None → IsMild side
end_none (sides.Ended place orb status) e = some_end (record { place = place; orb = orb; kind = status }) e
end_none side e = tt

pub both_none : (x y : Option EndSide) → or_before x y ≡ None → (x ≡ None) × (y ≡ None)
both_none None y e = (refl, e)
both_none (Some x) y e = some_end x e

pub none_mild : (told : List Side) → told_end told ≡ None → AreMild told
none_mild [] e = tt
none_mild (side ∷ later) e = let b = both_none (told_end later) (one_end side) e in (end_none side b.1, none_mild later b.0)

-- ---- of one end
pub data TellsEnd (End : (place orb : ℕ) → StatusKind → Type 0) (told : List Side) : Type 0 where
  of_mild : AreMild told → TellsEnd End told
  of_end : (place orb : ℕ) (status : StatusKind) (early later : List Side) → End place orb status → AreLight early → AreMild later → early ++ sides.Ended place orb status ∷ later ≡ told → TellsEnd End told

-- a transaction that is lost ends an ORB as failed alone
loss_mild : (phase : Phase) (m : Machine) (cause : FailCause) → ends_read (main_lost phase m cause).0.ended ≡ false
loss_mild phases.Reset m cause = refl
loss_mild phases.Fetching m cause = refl
loss_mild phases.ReadingTable m cause = refl
loss_mild (phases.ReadingData wanted) m cause = refl
loss_mild phases.Answering m cause = refl
loss_mild phases.WritingStatus m cause = refl
loss_mild phases.ReadingNext m cause = refl
loss_mild phases.WritingLastStatus m cause = refl
loss_mild phases.Suspended m cause = refl
loss_mild phases.Dead m cause = refl

lost_mild : (m : Machine) (which : Which) (cause : FailCause) → ends_read (lost_step m which cause).0.ended ≡ false
unfolding lost_step
lost_mild m Main cause = loss_mild m.phase m cause
lost_mild m Ahead cause = by (is_ahead m.ahead)
  where
    by : (b : Bool) → ends_read (cond b (ahead_lost m cause) (quiet, m)).0.ended ≡ false
    by true = refl
    by false = refl

module _ (End : (place orb : ℕ) → StatusKind → Type 0) where
  abbrev P : List Side → Type 0
  P told = TellsEnd End told

  tells : (told : List Side) (side : Side) → IsMild side → P told → P (told ++ side ∷ [])
  tells told side f (of_mild h) = of_mild (mild_more told side h f)
  tells told side f (of_end place orb status early later x l h is) =
      of_end place orb status early (later ++ side ∷ []) x l (mild_more later side h f) (sym (joined early (sides.Ended place orb status ∷ later) (side ∷ [])) ∙ ap (λ xs. xs ++ side ∷ []) is)

  abbrev At : Scene → Type 0
  At s = P s.outbox.sides

  -- ---- a step is told
  ran_tells : (place : ℕ) (m : Machine) (x : Option Outcome) (o : OutboxState) → P o.sides → P (tell_ran place m x o).sides
  ran_tells place m None o h = h
  ran_tells place m (Some outcome) o h = tells o.sides (sides.Ran place (orb_of m) m.orb.cdb m.payload outcome) tt h

  dead_tells : (place : ℕ) (x : Option FailCause) (o : OutboxState) → P o.sides → P (tell_dead place x o).sides
  dead_tells place None o h = h
  dead_tells place (Some cause) o h = tells o.sides (sides.Dead place cause) tt h

  ended_tells : (place : ℕ) (m : Machine) (x : Option StatusKind) (o : OutboxState) → ends_read x ≡ false → P o.sides → P (tell_ended place m x o).sides
  ended_tells place m None o e h = h
  ended_tells place m (Some status) o e h = tells o.sides (sides.Ended place (orb_of m) status) e h

  -- one that ends no ORB but as failed
  mild_tells : (place : ℕ) (step : AgentStep) (s : Scene) → ends_read step.ended ≡ false → At s → At (noted place step s)
  unfolding noted tell_step
  mild_tells place step s e h =
      let m = (desk_at s.node place).agent in
      let a = tell_ran place m step.ran s.outbox in
      ended_tells place m step.ended (tell_dead place step.dead a) e (dead_tells place step.dead a (ran_tells place m step.ran s.outbox h))

  -- the first one
  light_more : (told : List Side) (side : Side) → AreLight told → IsLight side → AreLight (told ++ side ∷ [])
  light_more [] side h f = (f, tt)
  light_more (first ∷ told) side h f = (h.0, light_more told side h.1 f)

  ran_light : (place : ℕ) (m : Machine) (x : Option Outcome) → AreLight (tell_ran place m x empty_outbox).sides
  ran_light place m None = tt
  ran_light place m (Some outcome) = (tt, tt)

  dead_light : (place : ℕ) (x : Option FailCause) (o : OutboxState) → AreLight o.sides → AreLight (tell_dead place x o).sides
  dead_light place None o h = h
  dead_light place (Some cause) o h = light_more o.sides (sides.Dead place cause) h tt

  ended_first : (place : ℕ) (m : Machine) (x : Option StatusKind) (o : OutboxState) → ((status : StatusKind) → x ≡ Some status → ends_read (Some status) ≡ true → End place (orb_of m) status) → AreLight o.sides → P (tell_ended place m x o).sides
  ended_first place m None o f h = of_mild (light_mild o.sides h)
  ended_first place m (Some status) o f h = by (ends_read (Some status)) refl
    where
      by : (b : Bool) → ends_read (Some status) ≡ b → P (o.sides ++ sides.Ended place (orb_of m) status ∷ [])
      by true e = of_end place (orb_of m) status o.sides [] (f status refl e) h tt refl
      by false e = of_mild (mild_more o.sides (sides.Ended place (orb_of m) status) (light_mild o.sides h) e)

  step_first : (place : ℕ) (m : Machine) (step : AgentStep) → ((status : StatusKind) → step.ended ≡ Some status → ends_read (Some status) ≡ true → End place (orb_of m) status) → P (tell_step place m step empty_outbox).sides
  unfolding tell_step
  step_first place m step f =
      let a = tell_ran place m step.ran empty_outbox in
      ended_first place m step.ended (tell_dead place step.dead a) f (dead_light place step.dead a (ran_light place m step.ran))

  -- ---- what is answered tells nothing
  answers_by : (r : List ℕ × Layer Purpose) (o : OutboxState) (source : ℕ) → P o.sides → P (answered_by r o source).1.sides
  answers_by (bytes, layer) o source h = h

  answers : (request : Packet) (bytes : List ℕ) (rcode : ℕ) (given : List ℕ) (s : Scene) → At s → At (answered request bytes rcode given s)
  unfolding answer_step
  answers request bytes rcode given s h = answers_by (answering_step s.node.layer request bytes rcode given) s.outbox (header_in request).source h

  -- ---- what follows a step of an agent
  lost_tells : Loses P
  lost_tells place which s h =
      let m = (desk_at s.node place).agent in
      let x = lost_step m which causes.Label in
      mild_tells place x.0 (scene (with_agent s.node place x.1) s.outbox) (lost_mild m which causes.Label) h

  follows : (place : ℕ) (login : Login) (step : AgentStep) (s : Scene) → At (noted place step s) → At (follow place login step s)
  follows place login step s h = follows_behind P lost_tells place login step s h

  discs : TellsDiscs P
  discs = record { pushed = λ told place h. tells told (sides.Unsolicited place) tt h; unsent = λ told place h. tells told (sides.Unsent place) tt h }

  announces : (b : Bool) (unit place : ℕ) (s : Scene) → At s → At (announced_by b unit place s)
  announces b unit place s h = announces_by P discs b unit place s h

  -- ---- requests
  asked_tells : (place : ℕ) (ask : Ask) (login : Option Login) (s : Scene) → At s → At (asked_in place ask login s)
  asked_tells place ask None s h = h
  asked_tells place ask (Some login) s h = follows place login (asks ask) s (mild_tells place (asks ask) s refl h)

  points_by : (place : ℕ) (request : Packet) (bytes : List ℕ) (r : Result Ask PointRefusal × Desk) (s : Scene) → At s → At (pointed_by place request bytes r s)
  points_by place request bytes (Ok ask, desk) s h =
      let t = scene (with_desk s.node place desk) (with_side s.outbox (sides.Opened place (orb_of desk.agent))) in
      let u = answered request bytes 0 [] t in
      asked_tells place ask (login_at u.node place) u (answers request bytes 0 [] t (tells s.outbox.sides (sides.Opened place (orb_of desk.agent)) tt h))
  points_by place request bytes (Err refusal, desk) s h = answers request bytes _ [] (scene (with_desk s.node place desk) s.outbox) h

  points : (place : ℕ) (pointer : OrbPointer) (request : Packet) (bytes : List ℕ) (s : Scene) → At s → At (point place pointer request bytes s)
  unfolding point
  points place pointer request bytes s h = points_by place request bytes (point_desk (desk_at s.node place) pointer) s h

  rings_by : (place : ℕ) (request : Packet) (bytes : List ℕ) (r : Ask × Machine) (s : Scene) → At s → At (rung_by place request bytes r s)
  rings_by place request bytes (ask, m) s h =
      let t = scene (with_agent s.node place m) s.outbox in
      let u = answered request bytes 0 [] t in
      asked_tells place ask (login_at u.node place) u (answers request bytes 0 [] t h)

  rings : (place : ℕ) (request : Packet) (bytes : List ℕ) (s : Scene) → At s → At (ring place request bytes s)
  unfolding ring
  rings place request bytes s h = rings_by place request bytes (doorbell_step (desk_at s.node place).agent) s h

  cut_tells : (b : Bool) (place : ℕ) (cause : CutCause) (o : OutboxState) → P o.sides → P (told_cut b place cause o).sides
  cut_tells true place cause o h = h
  cut_tells false place cause o h = tells o.sides (sides.Cut place cause) tt h

  cuts_at : (cause : CutCause) (place : ℕ) (s : Scene) → At s → At (cut cause place s)
  unfolding cut
  cuts_at cause place s h = cut_tells (is_reset (state_in (desk_at s.node place).agent.phase)) place cause s.outbox h

  accesses_tell : (access : Access) (place : ℕ) (request : Packet) (bytes : List ℕ) (s : Scene) → At s → At (accessed_by access place request bytes s)
  accesses_tell accesses.State place request bytes s h = answers request bytes 0 _ s h
  accesses_tell accesses.Reset place request bytes s h = answers request bytes 0 [] (cut cuts.AgentReset place s) (cuts_at cuts.AgentReset place s h)
  accesses_tell (accesses.Point pointer) place request bytes s h = points place pointer request bytes s h
  accesses_tell accesses.Pointer place request bytes s h = answers request bytes 0 _ s h
  accesses_tell accesses.Ring place request bytes s h = rings place request bytes s h
  accesses_tell accesses.Enable place request bytes s h = answers request bytes 0 [] (enabled place s) h

  -- ---- a call
  module _ (node : NodeState) (size : length node.desks ≡ 8) where
    abbrev here : Scene
    here = scene node empty_outbox

    abbrev before : ℕ → Machine
    before p = (desk_at node p).agent

    rests : Resting before here
    rests = record { desks = size; told_is = refl; stays = λ p r. r }

    of_rest : (s : Scene) → Resting before s → At s
    of_rest s r = of_mild (none_mild s.outbox.sides r.told_is)

    none : At here
    none = of_mild tt

    manages_here : (answer : Answer) → At (manage answer here)
    manages_here answer = of_rest (manage answer here) (manages before answer here rests)

    serves_as : (demand : Demand) (request : Packet) (bytes : List ℕ) → At (served_as demand request bytes here)
    serves_as (demands.Refused rcode) request bytes = answers request bytes rcode [] here none
    serves_as (demands.Rom at len) request bytes = answers request bytes 0 _ here none
    serves_as (demands.Manage orb) request bytes = of_rest (start orb request bytes here) (starts before orb request bytes here rests)
    serves_as (demands.Agent place access) request bytes = accesses_tell access place request bytes here none

    serves : (request : Packet) (bytes : List ℕ) → At (serve request bytes here)
    unfolding serve
    serves request bytes = serves_as (demand_of (length node.rom) request) request bytes

    pick_judged : (b : Bool) (x y : Judged × Scene) → At x.1 → At y.1 → At (cond b x y).1
    pick_judged true x y h i = h
    pick_judged false x y h i = i

    request_tells : (request : Packet) (bytes : List ℕ) → At (served_step request bytes here).1
    unfolding served_step
    request_tells request bytes = pick_judged (is_barred node request) _ _ (answers request bytes 7 [] here none) (serves request bytes)

    -- a time-out
    expires_with : (place : ℕ) (login : Login) (r : AgentStep × Desk) → ends_read r.0.ended ≡ false → At (expired_with place login r here)
    expires_with place login (step, desk) e = let t = scene (with_desk node place desk) empty_outbox in follows place login step t (mild_tells place step t e none)

    expires_by : (place : ℕ) (login : Option Login) (which : Option Which) → At (expired_by place login which here)
    expires_by place (Some login) (Some which) = expires_with place login (expired_desk which (desk_at node place)) (lost_mild (desk_at node place).agent which causes.Timeout)
    expires_by place None which = none
    expires_by place (Some login) None = none

    expires_agent : (place peer : ℕ) (label : LabelParts) → At (expire_agent place peer label here)
    unfolding expire_agent
    expires_agent place peer label = expires_by place (login_at node place) (which_in (desk_at node place) peer label)

    lapse_for : (purpose : Option Purpose) (peer : ℕ) (label : LabelParts) → At (timed_out purpose peer label here)
    lapse_for None peer label = none
    lapse_for (Some (purposes.Agent place)) peer label = expires_agent place peer label
    lapse_for (Some purposes.Management) peer label = manages_here Expired
    lapse_for (Some purposes.Unsolicited) peer label = none

  -- ---- the step by an answer
  module _ (node : NodeState) (place : ℕ) (small : place < length node.desks) (login : Login) (disks : List Disk) where
    abbrev unit : ℕ
    unit = login.unit

    abbrev plain : PlainDisk
    plain = plain_in node.units disks unit

    abbrev left_node : Desk → PlainDisk → NodeState
    left_node d p = record (with_desk node place d) { units = slice_set node.units unit p.unit }

    abbrev changed : Bool → Desk → PlainDisk → NodeState
    changed b d p = changed_by b unit place (left_node d p)

    desk_left : (b : Bool) (d : Desk) (p : PlainDisk) → desk_at (changed b d p) place ≡ d
    desk_left false d p = get_or-set_same node.desks place d new_desk small
    desk_left true d p = get_or-set_same node.desks place d new_desk small

    noted_first : (step : AgentStep) (n : NodeState) → P (tell_step place (desk_at n place).agent step empty_outbox).sides → At (noted place step (scene n empty_outbox))
    unfolding noted
    noted_first step n h = h

    goes_on : (b : Bool) (d : Desk) (p : PlainDisk) (step : AgentStep) → P (tell_step place d.agent step empty_outbox).sides → At (announced_by b unit place (follow place login step (scene (changed b d p) empty_outbox)))
    goes_on b d p step h =
        let n = changed b d p in
        let s = scene n empty_outbox in
        let told = subst (λ (x : Desk). P (tell_step place x.agent step empty_outbox).sides) (sym (desk_left b d p)) h in
        announces b unit place (follow place login step s) (follows place login step s (noted_first step n told))

    abbrev loaded : PlainDisk → Bool
    loaded p = came (disk_at disks unit) (disk_at (slice_set disks unit p.medium) unit)

    ran_on : (d : Desk) (step : AgentStep) → P (tell_step place d.agent step empty_outbox).sides → (let p = left_by step.ran d.agent.orb.cdb d.agent.payload place plain in At (announced_by (loaded p) unit place (follow place login step (scene (changed (loaded p) d p) empty_outbox))))
    ran_on d step h = let p = left_by step.ran d.agent.orb.cdb d.agent.payload place plain in goes_on (loaded p) d p step h

    advanced_tells : (which : Which) (r : AgentStep × Machine) → P (tell_step place r.1 r.0 empty_outbox).sides → P (advanced_with place login (replied_with place unit which r (stage node disks)) (whole (scene node empty_outbox) disks)).outbox.sides
    unfolding follow_all
    advanced_tells which (step, a) h = ran_on (record (taken which (desk_at node place)) { agent = a }) step h

    advance_tells : (told : Option Told) (which : Which) (answer : Answer) → (let r = reply_step (desk_at node place).agent place plain told which answer in P (tell_step place r.1 r.0 empty_outbox).sides) → P (advance told place login which answer (whole (scene node empty_outbox) disks)).outbox.sides
    unfolding advance step_replied
    advance_tells told which answer h = advanced_tells which (reply_step (desk_at node place).agent place plain told which answer) h

-- ---- a time-out of the target tells of no end but as failed
nobody : {A : Type 0} → ⊥ → A
nobody e = absurd e

abbrev No : (place orb : ℕ) → StatusKind → Type 0
No place orb status = ⊥

mild_of : (told : List Side) → TellsEnd No told → AreMild told
mild_of told (of_mild h) = h
mild_of told (of_end place orb status early later x l h is) = nobody x

lapse_by : (node : NodeState) (size : length node.desks ≡ 8) (r : Result (Option Purpose) Stale × Layer Purpose) (peer : ℕ) (label : LabelParts) → TellsEnd No (expired_in r peer label (scene node empty_outbox)).1.outbox.sides
lapse_by node size (Ok purpose, layer) peer label = lapse_for No (record node { layer = layer }) size purpose peer label
lapse_by node size (Err stale, layer) peer label = of_mild tt

pub lapse_mild : (peer : ℕ) (label : LabelParts) (node : NodeState) → length node.desks ≡ 8 → AreMild (expired peer label (scene node empty_outbox)).1.outbox.sides
unfolding expired
lapse_mild peer label node size = mild_of _ (lapse_by node size (expiring_step node.layer peer label) peer label)

-- ---- a packet that the target gets
-- the present ORB of the agent of a place ends as an answer is delivered, and was read
pub record EndedBy (node : NodeState) (sent : Sent) (run : Option Told) (media : Held) (place orb : ℕ) (status : StatusKind) : Type 0 where
  pub login : Login
  pub served : served_login node place ≡ Some login
  pub packet : Packet
  pub label : LabelParts
  pub which : Which
  pub found : (judging_step node.layer sent.generation sent.bytes).0 ≡ of_response packet label (Some (purposes.Agent place))
  pub is_which : which_in (desk_at node place) (header_in packet).source label ≡ Some which
  pub ended : (reply_step (desk_at node place).agent place (plain_in node.units media.disks login.unit) run which (answer_in packet)).0.ended ≡ Some status
  pub orb_is : orb ≡ orb_of (reply_step (desk_at node place).agent place (plain_in node.units media.disks login.unit) run which (answer_in packet)).1
  pub read : ends_read (Some status) ≡ true

-- such a packet is got
pub ended_got : (node : NodeState) (sent : Sent) (run : Option Told) (media : Held) (place orb : ℕ) (status : StatusKind) → EndedBy node sent run media place orb status → (received run sent.generation sent.bytes (whole_of node media)).0 ≡ judgements.Got
unfolding received
ended_got node sent run media place orb status r =
    let found = judging_step node.layer sent.generation sent.bytes in ap (λ f. (received_as run sent.bytes f (with_layer found.1 (whole_of node media))).0) r.found

module _ (node : NodeState) (size : length node.desks ≡ 8) (sound : IsSound node.logins.places) (sent : Sent) (run : Option Told) (media : Held) where
  abbrev Ends : (place orb : ℕ) → StatusKind → Type 0
  Ends place orb status = EndedBy node sent run media place orb status

  abbrev Q : List Side → Type 0
  Q told = TellsEnd Ends told

  abbrev layer : Layer Purpose
  layer = (judging_step node.layer sent.generation sent.bytes).1

  abbrev node_there : NodeState
  node_there = record node { layer = layer }

  abbrev all : Whole
  all = whole (scene node_there empty_outbox) media.disks

  abbrev Found : Finding Purpose → Type 0
  Found f = (judging_step node.layer sent.generation sent.bytes).0 ≡ f

  -- an answer to a transaction of an agent
  module _ (packet : Packet) (label : LabelParts) (place : ℕ) (found : Found (of_response packet label (Some (purposes.Agent place)))) where
    module _ (login : Login) (served : served_login node place ≡ Some login) (which : Which) (is_which : which_in (desk_at node place) (header_in packet).source label ≡ Some which) where
      abbrev step : AgentStep × Machine
      step = reply_step (desk_at node place).agent place (plain_in node.units media.disks login.unit) run which (answer_in packet)

      one_ends : (status : StatusKind) → step.0.ended ≡ Some status → ends_read (Some status) ≡ true → Ends place (orb_of step.1) status
      one_ends status e read = record {
        login = login;
        served = served;
        packet = packet;
        label = label;
        which = which;
        found = found;
        is_which = is_which;
        ended = e;
        orb_is = refl;
        read = read;
      }

      steps : Q (advance run place login which (answer_in packet) all).outbox.sides
      steps =
          let there = served_there node place login served in
          let inside : place < length node.desks = (let l = within node.logins.places place login there in let c = sound.size in omega arith) in
          advance_tells Ends node_there place inside login media.disks run which (answer_in packet) (step_first Ends place step.1 step.0 one_ends)

    replies : (there : Option Login) → served_login node place ≡ there → (which : Option Which) → which_in (desk_at node place) (header_in packet).source label ≡ which → Q (replied_by run place (answer_in packet) there which all).outbox.sides
    replies None e which f = of_mild tt
    replies (Some login) e None f = of_mild tt
    replies (Some login) e (Some which) f = steps login e which f

  concludes : (packet : Packet) (label : LabelParts) (purpose : Option Purpose) → Found (of_response packet label purpose) → Q (concluded run purpose (header_in packet).source label (answer_in packet) all).outbox.sides
  unfolding concluded replied_to
  concludes packet label None f = of_mild tt
  concludes packet label (Some (purposes.Agent place)) f = replies packet label place f (served_login node place) refl (which_in (desk_at node place) (header_in packet).source label) refl
  concludes packet label (Some purposes.Management) f = manages_here Ends node_there size (answer_in packet)
  concludes packet label (Some purposes.Unsolicited) f = of_mild tt

  judged_told : (r : Judged × Scene) → Q r.1.outbox.sides → Q (judged_scene r all).1.outbox.sides
  judged_told (judged, s) h = h

  finds : (f : Finding Purpose) → Found f → Q (received_as run sent.bytes f all).1.outbox.sides
  finds of_generation f = of_mild tt
  finds of_grammar f = of_mild tt
  finds of_label f = of_mild tt
  finds (of_response packet label purpose) f = concludes packet label purpose f
  finds (of_again packet rcode) f = answers Ends packet sent.bytes rcode [] (scene node_there empty_outbox) (of_mild tt)
  finds (of_request packet) f = judged_told (served_step packet sent.bytes (scene node_there empty_outbox)) (request_tells Ends node_there size packet sent.bytes)

  pub delivery_ends : Q (received run sent.generation sent.bytes (whole_of node media)).1.outbox.sides
  unfolding received
  delivery_ends = finds (judging_step node.layer sent.generation sent.bytes).0 refl
