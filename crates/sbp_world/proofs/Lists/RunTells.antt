-- What the target tells in a call of a run: none; or, as it goes on by the answer to a transaction of an agent, first of all the one run of the command of that agent's
-- present ORB, as the medium may have told it, and of no run behind it.
use Rattle.sbp_world.proofs.Words.Std.{arith, ◌≡◌, ◌∙◌, refl, sym, ap, subst, ℕ, zero, suc, ◌+◌, ◌<◌, nat_lt, Bool, true, false, cond, List, [], ◌∷◌, ◌++◌, length, Option, Some, None, Result, Ok, Err, slice_set, get_or-set_same}
use Rattle.sbp_world.proofs.Words.Wire.{LabelParts, Packet, header_in, Stale, Finding, Layer, expiring_step, judging_step, of_again, of_generation, of_grammar, of_label, of_request, of_response, Sent, Judged, Side, empty_outbox}
use Rattle.sbp_world.proofs.Words.Target.{Login, IsSound, Table, Decision, Effect, ManagerStep, Outcome, Disk, disk_at, Held, Told, left_by, told_in, PlainDisk, AgentStep, Which, Machine, MayRun, MayTell, reply_step, if_served, Desk, Purpose, follow, new_desk, taken, which_in, cut_placed, decided_by, effect_by, failed_by, manage, managed_in, managed_with, place_in, tell_left, with_manager, NodeState, Scene, desk_at, login_at, scene, with_desk, TellsAt, TellsIn, answer_in, concluded, expired, expired_in, judged_scene, received, received_as, timed_out, with_layer, TellsBy, Whole, advance, advanced_with, announced_by, came, changed_by, follow_all, plain_in, step_replied, replied_by, replied_to, replied_with, served_login, stage, whole, orb_of, tell_ran, clear_from, clear_unit, cut_all}
use Rattle.sbp_world.proofs.Words.Initiator.{Answer, Expired}
use Rattle.sbp_world.proofs.Words.World.{faults_after, whole_of}
use Rattle.login_table.proofs.Searching.{within}
use Rattle.mgmt_agent.specs.declared.decision.Effect.TheVariants as effects
use Rattle.mgmt_agent.specs.Machine as management
use Rattle.sbp_journal.specs.declared.cause.CutCause.TheVariants as cuts
use Rattle.sbp_journal.specs.declared.cause.Judged.TheVariants as judgements
use Rattle.sbp_journal.specs.declared.side.Side.TheVariants as sides
use Rattle.sbp_target.specs.declared.purpose.Purpose.TheVariants as purposes
use Rattle.sbp_target.specs.Serving.{request_step}
use Rattle.sbp_world.specs.Delivering as delivering
use Rattle.sbp_world.proofs.Agents.UnitsKept.{In, Keeps, announces_by, answers, asks_manager, cuts_all, cuts_placed, expires_agent, failed_tells, follows, keeps_cuts, keeps_steps, notes_tell, request_tells}
use Rattle.sbp_world.proofs.Agents.UnitsTold.{AllSpare, Spares}

-- ---- of no run
abbrev pub IsRunless : Side → Type 0
IsRunless (sides.Own note) = ⊥
IsRunless (sides.Ran place orb cdb payload outcome) = ⊥
IsRunless side = Unit {0}

abbrev pub AreRunless : List Side → Type 0
AreRunless [] = Unit {0}
AreRunless (side ∷ later) = IsRunless side × AreRunless later

runless_more : (told : List Side) (side : Side) → AreRunless told → IsRunless side → AreRunless (told ++ side ∷ [])
runless_more [] side h f = (f, tt)
runless_more (first ∷ told) side h f = (h.0, runless_more told side h.1 f)

spared_runless : (side : Side) → Spares side → IsRunless side
spared_runless (sides.Own note) h = absurd h
spared_runless (sides.Ran place orb cdb payload outcome) h = absurd h
spared_runless (sides.Cleared unit) h = absurd h
spared_runless side h = tt

pub all_runless : (told : List Side) → AllSpare told → AreRunless told
all_runless [] h = tt
all_runless (side ∷ later) h = (spared_runless side h.0, all_runless later h.1)

k : Keeps AreRunless
k = record { tells = λ told side f h. runless_more told side h (spared_runless side f) }

-- with the units and the logins as they are
module _ (P : List Side → Type 0) where
  as_in : (s : Scene) → P s.outbox.sides → In P s.node.units s.node.logins s
  as_in s h = record { told = h; units_are = refl; logins = refl }

-- ---- the management
abbrev Quiet : Scene → Type 0
Quiet s = AreRunless s.outbox.sides

told_more : (s : Scene) (side : Side) → IsRunless side → Quiet s → AreRunless (s.outbox.sides ++ side ∷ [])
told_more s side f h = runless_more s.outbox.sides side h f

clears : (unit : ℕ) (s : Scene) → Quiet s → Quiet (clear_unit unit s)
unfolding clear_unit
clears unit s h = told_more s (sides.Cleared unit) tt h

clears_from : (left unit : ℕ) (s : Scene) → Quiet s → Quiet (clear_from left unit s)
unfolding clear_from
clears_from zero unit s h = h
clears_from (suc left) unit s h = clears_from left (unit + 1) (clear_unit unit s) (clears unit s h)

pick : (b : Bool) (x y : Scene) → Quiet x → Quiet y → Quiet (cond b x y)
pick true x y h i = h
pick false x y h i = i

cut_every : (s : Scene) → Quiet s → Quiet (cut_all cuts.TargetReset None s)
cut_every s h = (cuts_all AreRunless s.node.units s.node.logins (keeps_cuts AreRunless k) cuts.TargetReset None s (as_in AreRunless s h)).told

cut_unit : (unit : ℕ) (s : Scene) → Quiet s → Quiet (cut_all cuts.UnitReset (Some unit) s)
cut_unit unit s h = (cuts_all AreRunless s.node.units s.node.logins (keeps_cuts AreRunless k) cuts.UnitReset (Some unit) s (as_in AreRunless s h)).told

left_tells : (x : Option ℕ) (s : Scene) → Quiet s → AreRunless (tell_left x s.outbox).sides
left_tells None s h = h
left_tells (Some login) s h = told_more s (sides.Left login) tt h

effect_tells : (effect : Effect) (subject : ℕ) (s : Scene) → Quiet s → Quiet (effect_by effect subject s)
effect_tells effects.Nothing subject s h = h
effect_tells (effects.Entered place replaced) subject s h = left_tells replaced s h
effect_tells (effects.Back place) subject s h = told_more s (sides.Back subject) tt h
effect_tells (effects.Left place) subject s h =
    let t = cut_placed (place_in place) cuts.Logout s in
    told_more t (sides.Left subject) tt (cuts_placed AreRunless s.node.units s.node.logins (keeps_cuts AreRunless k) (place_in place) cuts.Logout s (as_in AreRunless s h)).told
effect_tells (effects.Abort place orb) subject s h = h
effect_tells (effects.AbortSet place) subject s h = (cuts_placed AreRunless s.node.units s.node.logins (keeps_cuts AreRunless k) (place_in place) cuts.AbortSet s (as_in AreRunless s h)).told
effect_tells (effects.UnitReset unit) subject s h =
    let t = cut_all cuts.UnitReset (Some unit) s in
    let i = cut_unit unit s h in pick (nat_lt unit (length t.node.units)) (clear_unit unit t) t (clears unit t i) i
effect_tells effects.TargetReset subject s h =
    let t = cut_all cuts.TargetReset None s in clears_from (length t.node.units) 0 t (cut_every s h)

decision_tells : (decided : Option Decision) (effect : Effect) (source : ℕ) (s : Scene) → Quiet s → Quiet (decided_by decided effect source s)
unfolding decided_by
decision_tells None effect source s h = h
decision_tells (Some d) effect source s h =
    let t = effect_by effect d.subject s in told_more t (sides.Managed source d.function d.subject d.status d.login) tt (effect_tells effect d.subject s h)

managed_tells : (source : ℕ) (r : ManagerStep × (management.Machine × Table)) (s : Scene) → Quiet s → Quiet (managed_with source s r)
managed_tells source (step, (machine, table)) s h =
    let n = scene (with_manager s.node (machine, table)) s.outbox in
    let d = decided_by step.decided step.effect source n in
    let t = failed_by source step.failed d in
    let failed : Quiet t = failed_tells AreRunless d.node.units d.node.logins k source step.failed d.outbox (decision_tells step.decided step.effect source n h) in
    (asks_manager AreRunless t.node.units t.node.logins k source step.ask t (as_in AreRunless t failed)).told

managed_by : (source : Option ℕ) (answer : Answer) (s : Scene) → Quiet s → Quiet (managed_in source answer s)
managed_by None answer s h = h
managed_by (Some source) answer s h = managed_tells source (management.reply_step s.node.manager s.node.logins s.node.keys answer) s h

manages : (answer : Answer) (s : Scene) → Quiet s → Quiet (manage answer s)
unfolding manage
manages answer s h = managed_by (management.source_in s.node.manager.operation) answer s h

-- ---- a time-out
lapse_for : (node : NodeState) (layer : Layer Purpose) (purpose : Option Purpose) (peer : ℕ) (label : LabelParts) → Quiet (timed_out purpose peer label (scene (record node { layer = layer }) empty_outbox))
lapse_for node layer None peer label = tt
lapse_for node layer (Some (purposes.Agent place)) peer label =
    let s = scene (record node { layer = layer }) empty_outbox in (expires_agent AreRunless s.node.units s.node.logins k place peer label s (as_in AreRunless s tt)).told
lapse_for node layer (Some purposes.Management) peer label = manages Expired (scene (record node { layer = layer }) empty_outbox) tt
lapse_for node layer (Some purposes.Unsolicited) peer label = tt

lapse_by : (node : NodeState) (r : Result (Option Purpose) Stale × Layer Purpose) (peer : ℕ) (label : LabelParts) → Quiet (expired_in r peer label (scene node empty_outbox)).1
lapse_by node (Ok purpose, layer) peer label = lapse_for node layer purpose peer label
lapse_by node (Err stale, layer) peer label = tt

pub lapse_runless : (peer : ℕ) (label : LabelParts) (node : NodeState) → AreRunless (expired peer label (scene node empty_outbox)).1.outbox.sides
unfolding expired
lapse_runless peer label node = lapse_by node (expiring_step node.layer peer label) peer label

-- ---- of one run, first of all; and of none where no command ran
pub data TellsRun (None_ran : Type 0) (Ran : (place orb : ℕ) → (cdb payload : List ℕ) → Outcome → Type 0) (told : List Side) : Type 0 where
  of_none : None_ran → AreRunless told → TellsRun None_ran Ran told
  of_run : (place orb : ℕ) (cdb payload : List ℕ) (outcome : Outcome) (more : List Side) → Ran place orb cdb payload outcome → AreRunless more → told ≡ sides.Ran place orb cdb payload outcome ∷ more → TellsRun None_ran Ran told

module _ (None_ran : Type 0) (Ran : (place orb : ℕ) → (cdb payload : List ℕ) → Outcome → Type 0) where
  run_more : (told : List Side) (side : Side) → IsRunless side → TellsRun None_ran Ran told → TellsRun None_ran Ran (told ++ side ∷ [])
  run_more told side f (of_none n h) = of_none n (runless_more told side h f)
  run_more told side f (of_run place orb cdb payload outcome more ran h is) =
      of_run place orb cdb payload outcome (more ++ side ∷ []) ran (runless_more more side h f) (ap (λ xs. xs ++ side ∷ []) is)

  run_keeps : Keeps (TellsRun None_ran Ran)
  run_keeps = record { tells = λ told side f h. run_more told side (spared_runless side f) h }

-- what follows a step of an agent keeps what is said of what is told, where its run does
module _ (P : List Side → Type 0) (keeps : Keeps P) (node : NodeState) (place : ℕ) (small : place < length node.desks) (login : Login) (disks : List Disk) where
  abbrev unit : ℕ
  unit = login.unit

  abbrev plain : PlainDisk
  plain = plain_in node.units disks unit

  abbrev left_node : Desk → PlainDisk → NodeState
  left_node d p = record (with_desk node place d) { units = slice_set node.units unit p.unit }

  abbrev changed : Bool → Desk → PlainDisk → NodeState
  changed b d p = changed_by b unit place (left_node d p)

  desk_left : (b : Bool) (d : Desk) (p : PlainDisk) → desk_at (changed b d p) place ≡ d
  desk_left false d p = get_or-set_same node.desks place d new_desk small
  desk_left true d p = get_or-set_same node.desks place d new_desk small

  goes_on : (b : Bool) (d : Desk) (p : PlainDisk) (step : AgentStep) → P (tell_ran place d.agent step.ran empty_outbox).sides → P (announced_by b unit place (follow place login step (scene (changed b d p) empty_outbox))).outbox.sides
  goes_on b d p step h =
      let steps = keeps_steps P keeps in
      let n = changed b d p in
      let s = scene n empty_outbox in
      let here = subst (λ (x : Desk). P (tell_ran place x.agent step.ran empty_outbox).sides) (sym (desk_left b d p)) h in
      (announces_by P n.units n.logins keeps b unit place (follow place login step s)
      (follows P n.units n.logins steps place login step s (notes_tell P n.units n.logins steps place step s here refl refl))).told

  abbrev loaded : PlainDisk → Bool
  loaded p = came (disk_at disks unit) (disk_at (slice_set disks unit p.medium) unit)

  ran_on : (d : Desk) (step : AgentStep) → P (tell_ran place d.agent step.ran empty_outbox).sides → (let p = left_by step.ran d.agent.orb.cdb d.agent.payload place plain in P (announced_by (loaded p) unit place (follow place login step (scene (changed (loaded p) d p) empty_outbox))).outbox.sides)
  ran_on d step h = let p = left_by step.ran d.agent.orb.cdb d.agent.payload place plain in goes_on (loaded p) d p step h

  advanced_tells : (which : Which) (r : AgentStep × Machine) → P (tell_ran place r.1 r.0.ran empty_outbox).sides → P (advanced_with place login (replied_with place unit which r (stage node disks)) (whole (scene node empty_outbox) disks)).outbox.sides
  unfolding follow_all
  advanced_tells which (step, a) h = ran_on (record (taken which (desk_at node place)) { agent = a }) step h

  pub advance_tells : (told : Option Told) (which : Which) (answer : Answer) → (let r = reply_step (desk_at node place).agent place plain told which answer in P (tell_ran place r.1 r.0.ran empty_outbox).sides) → P (advance told place login which answer (whole (scene node empty_outbox) disks)).outbox.sides
  unfolding advance step_replied
  advance_tells told which answer h = advanced_tells which (reply_step (desk_at node place).agent place plain told which answer) h

-- ---- a packet that the target gets
-- the agent of a place runs the command of its present ORB as an answer is delivered, as its unit may
pub record RanBy (node : NodeState) (sent : Sent) (run : Option Told) (media : Held) (place orb : ℕ) (cdb payload : List ℕ) (outcome : Outcome) : Type 0 where
  pub login : Login
  pub served : served_login node place ≡ Some login
  pub packet : Packet
  pub label : LabelParts
  pub which : Which
  pub found : (judging_step node.layer sent.generation sent.bytes).0 ≡ of_response packet label (Some (purposes.Agent place))
  pub is_which : which_in (desk_at node place) (header_in packet).source label ≡ Some which
  pub ran : (reply_step (desk_at node place).agent place (plain_in node.units media.disks login.unit) run which (answer_in packet)).0.ran ≡ Some outcome
  pub told_is : run ≡ Some (record { outcome = outcome; answer = (reply_step (desk_at node place).agent place (plain_in node.units media.disks login.unit) run which (answer_in packet)).1.answer })
  pub orb_is : orb ≡ orb_of (reply_step (desk_at node place).agent place (plain_in node.units media.disks login.unit) run which (answer_in packet)).1
  pub cdb_is : cdb ≡ (reply_step (desk_at node place).agent place (plain_in node.units media.disks login.unit) run which (answer_in packet)).1.orb.cdb
  pub payload_is : payload ≡ (reply_step (desk_at node place).agent place (plain_in node.units media.disks login.unit) run which (answer_in packet)).1.payload
  pub may : MayRun (reply_step (desk_at node place).agent place (plain_in node.units media.disks login.unit) run which (answer_in packet)).1 place outcome (plain_in node.units media.disks login.unit)

-- how the command ran that an agent runs as a packet is delivered, by what the packet is found to be; None where none runs
abbrev pub ran_for : NodeState → Option Told → List Disk → (place : ℕ) → Packet → Option Login → Option Which → Option Outcome
ran_for node run disks place packet None which = None
ran_for node run disks place packet (Some login) None = None
ran_for node run disks place packet (Some login) (Some which) = (reply_step (desk_at node place).agent place (plain_in node.units disks login.unit) run which (answer_in packet)).0.ran

abbrev pub ran_as : NodeState → Option Told → List Disk → Finding Purpose → Option Outcome
ran_as node run disks (of_response packet label (Some (purposes.Agent place))) =
    ran_for node run disks place packet (served_login node place) (which_in (desk_at node place) (header_in packet).source label)
ran_as node run disks _ = None

pub record NoneRan (node : NodeState) (sent : Sent) (run : Option Told) (media : Held) : Type 0 where
  pub ran : ran_as node run media.disks (judging_step node.layer sent.generation sent.bytes).0 ≡ None
  pub untold : run ≡ None

-- such a packet is got
pub is_got : (node : NodeState) (sent : Sent) (run : Option Told) (media : Held) (place orb : ℕ) (cdb payload : List ℕ) (outcome : Outcome) → RanBy node sent run media place orb cdb payload outcome → (received run sent.generation sent.bytes (whole_of node media)).0 ≡ judgements.Got
unfolding received
is_got node sent run media place orb cdb payload outcome r =
    let found = judging_step node.layer sent.generation sent.bytes in ap (λ f. (received_as run sent.bytes f (with_layer found.1 (whole_of node media))).0) r.found

-- the login that is served is in its place
pub served_there : (node : NodeState) (place : ℕ) (login : Login) → served_login node place ≡ Some login → login_at node place ≡ Some login
served_there node place login e = by (login_at node place) e
  where
    inside : (other : Login) (b : Bool) → cond b (Some other) None ≡ Some login → Some other ≡ Some login
    inside other true e = e
    inside other false e = absurd (let no : None ≡ Some login = e in cc)

    by : (x : Option Login) → if_served (length node.units) x ≡ Some login → x ≡ Some login
    by None e = absurd (let no : None ≡ Some login = e in cc)
    by (Some other) e = inside other (nat_lt other.unit (length node.units)) e

module _ (node : NodeState) (size : length node.desks ≡ 8) (sound : IsSound node.logins.places) (sent : Sent) (run : Option Told) (media : Held) where
  abbrev Ran : (place orb : ℕ) → (cdb payload : List ℕ) → Outcome → Type 0
  Ran place orb cdb payload outcome = RanBy node sent run media place orb cdb payload outcome

  abbrev None_ran : Type 0
  None_ran = NoneRan node sent run media

  abbrev P : List Side → Type 0
  P told = TellsRun None_ran Ran told

  abbrev layer : Layer Purpose
  layer = (judging_step node.layer sent.generation sent.bytes).1

  abbrev here : Scene
  here = scene (record node { layer = layer }) empty_outbox

  abbrev all : Whole
  all = whole here media.disks

  abbrev Found : Finding Purpose → Type 0
  Found f = (judging_step node.layer sent.generation sent.bytes).0 ≡ f

  keeps : Keeps P
  keeps = run_keeps None_ran Ran

  as_found : (f : Finding Purpose) → Found f → ran_as node run media.disks f ≡ None → run ≡ None → None_ran
  as_found f e none untold = record { ran = ap (λ (x : Finding Purpose). ran_as node run media.disks x) e ∙ none; untold = untold }

  -- an answer to a transaction of an agent
  module _ (packet : Packet) (label : LabelParts) (place : ℕ) (found : Found (of_response packet label (Some (purposes.Agent place)))) where
    module _ (login : Login) (served : served_login node place ≡ Some login) (which : Which) (is_which : which_in (desk_at node place) (header_in packet).source label ≡ Some which) where
      abbrev step : AgentStep × Machine
      step = reply_step (desk_at node place).agent place (plain_in node.units media.disks login.unit) run which (answer_in packet)

      first_told : run ≡ told_in step.0.ran step.1.answer → MayTell step.0.ran step.1 place (plain_in node.units media.disks login.unit) → (x : Option Outcome) → step.0.ran ≡ x → P (tell_ran place step.1 x empty_outbox).sides
      first_told so may None e =
          of_none (as_found (of_response packet label (Some (purposes.Agent place))) found
          (ap (λ (x : Option Login). ran_for node run media.disks place packet x (which_in (desk_at node place) (header_in packet).source label)) served
          ∙ ap (λ x. ran_for node run media.disks place packet (Some login) x) is_which ∙ e)
          (so ∙ ap (λ x. told_in x step.1.answer) e)) tt
      first_told so may (Some outcome) e =
          of_run place (orb_of step.1) step.1.orb.cdb step.1.payload outcome []
          (record {
            login = login;
            served = served;
            packet = packet;
            label = label;
            which = which;
            found = found;
            is_which = is_which;
            ran = e;
            told_is = so ∙ ap (λ x. told_in x step.1.answer) e;
            orb_is = refl;
            cdb_is = refl;
            payload_is = refl;
            may = subst (λ x. MayTell x step.1 place (plain_in node.units media.disks login.unit)) e may;
          }) tt refl

      steps : run ≡ told_in step.0.ran step.1.answer → MayTell step.0.ran step.1 place (plain_in node.units media.disks login.unit) → P (advance run place login which (answer_in packet) all).outbox.sides
      steps so may =
          let there = served_there node place login served in
          let inside : place < length node.desks = (let l = within node.logins.places place login there in let c = sound.size in omega arith) in
          advance_tells P keeps (record node { layer = layer }) place inside login media.disks run which (answer_in packet) (first_told so may step.0.ran refl)

    replies : (there : Option Login) → served_login node place ≡ there → (which : Option Which) → which_in (desk_at node place) (header_in packet).source label ≡ which → (before now : List ℕ) → TellsBy run place (answer_in packet) there which (stage (record node { layer = layer }) media.disks) before now → P (replied_by run place (answer_in packet) there which all).outbox.sides
    replies None e which f before now t =
        of_none (as_found (of_response packet label (Some (purposes.Agent place))) found
        (ap (λ (x : Option Login). ran_for node run media.disks place packet x (which_in (desk_at node place) (header_in packet).source label)) e) t.0) tt
    replies (Some login) e None f before now t =
        of_none (as_found (of_response packet label (Some (purposes.Agent place))) found
        (ap (λ (x : Option Login). ran_for node run media.disks place packet x (which_in (desk_at node place) (header_in packet).source label)) e
        ∙ ap (λ x. ran_for node run media.disks place packet (Some login) x) f) t.0) tt
    replies (Some login) e (Some which) f before now t = steps login e which f t.so t.may

  concludes : (packet : Packet) (label : LabelParts) (purpose : Option Purpose) → Found (of_response packet label purpose) → (before now : List ℕ) → TellsAt run purpose (header_in packet).source label (answer_in packet) all before now → P (concluded run purpose (header_in packet).source label (answer_in packet) all).outbox.sides
  unfolding concluded replied_to
  concludes packet label None f before now t = of_none (as_found (of_response packet label None) f refl t.0) tt
  concludes packet label (Some (purposes.Agent place)) f before now t =
      replies packet label place f (served_login node place) refl (which_in (desk_at node place) (header_in packet).source label) refl before now t
  concludes packet label (Some purposes.Management) f before now t = of_none (as_found (of_response packet label (Some purposes.Management)) f refl t.0) (manages (answer_in packet) here tt)
  concludes packet label (Some purposes.Unsolicited) f before now t = of_none (as_found (of_response packet label (Some purposes.Unsolicited)) f refl t.0) tt

  judged_told : (r : Judged × Scene) → None_ran → AreRunless r.1.outbox.sides → P (judged_scene r all).1.outbox.sides
  judged_told (judged, s) n h = of_none n h

  finds : (f : Finding Purpose) → Found f → (before now : List ℕ) → TellsIn run f all before now → P (received_as run sent.bytes f all).1.outbox.sides
  finds of_generation f before now t = of_none (as_found of_generation f refl t.0) tt
  finds of_grammar f before now t = of_none (as_found of_grammar f refl t.0) tt
  finds of_label f before now t = of_none (as_found of_label f refl t.0) tt
  finds (of_response packet label purpose) f before now t = concludes packet label purpose f before now t
  finds (of_again packet rcode) f before now t =
      of_none (as_found (of_again packet rcode) f refl t.0) (answers AreRunless here.node.units here.node.logins packet sent.bytes rcode [] here (as_in AreRunless here tt)).told
  finds (of_request packet) f before now t =
      judged_told (request_step packet sent.bytes here) (as_found (of_request packet) f refl t.0) (request_tells AreRunless here.node.units here.node.logins k packet sent.bytes here (as_in AreRunless here tt)).told

  pub delivery_tells : delivering.MayTell run sent node media → P (received run sent.generation sent.bytes (whole_of node media)).1.outbox.sides
  unfolding received delivering.MayTell
  delivery_tells may = finds (judging_step node.layer sent.generation sent.bytes).0 refl media.faults (faults_after run sent node media) may

  -- what a run tells that comes of it, it may tell
  pub delivery_may : delivering.MayTell run sent node media → (packet : Packet) (label : LabelParts) (place : ℕ) → Found (of_response packet label (Some (purposes.Agent place))) → (login : Login) → served_login node place ≡ Some login → (which : Which) → which_in (desk_at node place) (header_in packet).source label ≡ Some which → (let s = reply_step (desk_at node place).agent place (plain_in node.units media.disks login.unit) run which (answer_in packet) in MayTell s.0.ran s.1 place (plain_in node.units media.disks login.unit))
  unfolding delivering.MayTell
  delivery_may may packet label place found login served which is_which =
      let st = stage (record node { layer = layer }) media.disks in
      (subst (λ y. TellsBy run place (answer_in packet) (Some login) y st media.faults (faults_after run sent node media)) is_which
      (subst (λ l. TellsBy run place (answer_in packet) l (which_in (desk_at node place) (header_in packet).source label) st media.faults (faults_after run sent node media)) served
      (subst (λ f. TellsIn run f all media.faults (faults_after run sent node media)) found may))).may
