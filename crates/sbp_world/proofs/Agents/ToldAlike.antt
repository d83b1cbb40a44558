-- What the target tells of a run, and what was told to it: of one outcome and of as many bytes, and of the same bytes where the medium tells its bytes.
use Rattle.sbp_world.proofs.Words.Std.{arith, ◌≡◌, ◌∙◌, refl, sym, ap, subst, ℕ, ◌<◌, ◌&&◌, Bool, true, false, List, [], ◌∷◌, ◌++◌, length, Option, Some, None, Result, Ok, Err, is_some, is_none, slice_set, unwrap_or, get_or-set_same, length-replicate}
use Rattle.sbp_world.proofs.Words.Wire.{LabelParts, header_in, Stale, Finding, Layer, expiring_step, judging_step, of_again, of_generation, of_grammar, of_label, of_request, of_response, check_of, Side, empty_outbox}
use Rattle.sbp_world.proofs.Words.Target.{Login, Outcome, Disk, disk_at, Told, answer_length_of, answer_of, left_by, told_in, PlainDisk, AgentStep, Which, Machine, MayRun, MayTell, reply_step, Desk, Purpose, follow, alone, lets_expire, expired_desk, new_desk, taken, which_in, NodeState, desk_at, login_at, scene, with_desk, TellsIn, answer_in, concluded, expire_agent, expired, expired_by, expired_in, expired_with, received, received_as, with_layer, TellsBy, advance, advanced_with, announced_by, came, changed_by, follow_all, plain_in, step_replied, replied_by, replied_to, replied_with, served_login, stage, whole, orb_of, tell_ran}
use Rattle.sbp_world.proofs.Words.Initiator.{Answer}
use Rattle.sbp_world.proofs.Words.Laws.{Agent}
use Rattle.sbp_world.proofs.Words.World.{holder, WorldState, TellsAlike, ToldAlike, answered, IsOfStep, IsRunOf, run_told, run_untold}
use Rattle.std.specs.Prelude.{IfSome, replicate}
use Rattle.login_table.proofs.Searching.{within}
use Rattle.orb_layout.specs.declared.ask.FailCause.TheVariants as causes
use Rattle.rbc_disk.specs.declared.command.Outcome.TheVariants as outcomes
use Rattle.sbp_journal.specs.declared.side.Side.TheVariants as sides
use Rattle.sbp_laws.specs.Targets.{told_of}
use Rattle.sbp_target.specs.declared.purpose.Purpose.TheVariants as purposes
use Rattle.sbp_target.specs.Replies.{Tells}
use Rattle.sbp_target.proofs.Histories.Calling.{Good}
use Rattle.sbp_world.proofs.Agents.Loads.{came_there}
use Rattle.sbp_world.proofs.Agents.UnitsKept.{Keeps, KeepsSteps, announces_by, follows, keeps_steps, lost_runs, notes_tell}
use Rattle.sbp_world.proofs.Agents.UnitsMarked.{came_not}
use Rattle.sbp_world.proofs.Agents.AskedReplies.{served_is}

-- ---- a run

-- no bytes
empty : (xs : List ℕ) → length xs ≡ 0 → [] ≡ xs
empty [] e = refl
empty (x ∷ xs) e = absurd (omega (arith, e))

-- the answer of a good run, where the medium tells its bytes, and where it does not
good_alike : (told : Option (List ℕ)) (count len : ℕ) (answer : List ℕ) → len ≡ count → length answer ≡ len → IfSome told (λ bytes. answer ≡ bytes) → TellsAlike (is_none told) (record { outcome = outcomes.Good count; answer = unwrap_or told (replicate count 0) }) (record { outcome = outcomes.Good len; answer = answer })
good_alike None count len answer e size same = record {
  outcome = ap (λ n. outcomes.Good n) (sym e);
  size = length-replicate count 0 ∙ sym e ∙ sym size;
  answer = λ no. absurd (let clash : true ≡ false = no in cc);
}
good_alike (Some bytes) count len answer e size same = record {
  outcome = ap (λ n. outcomes.Good n) (sym e);
  size = ap (λ (xs : List ℕ). length xs) (sym same);
  answer = λ yes. sym same;
}

pub run_alike : (outcome : Outcome) (m : Machine) (place : ℕ) (plain : PlainDisk) → MayRun m place outcome plain → TellsAlike (is_none (check_of outcome) && is_none (answer_of m.orb.cdb plain.medium)) (told_of (check_of outcome) m.orb.cdb plain) (record { outcome = outcome; answer = m.answer })
run_alike (outcomes.Check check) m place plain may = record { outcome = refl; size = sym may.size; answer = λ yes. empty m.answer may.size }
run_alike (outcomes.Good len) m place plain may =
    good_alike (answer_of m.orb.cdb plain.medium) (answer_length_of plain.medium.is_bay m.orb.cdb) len m.answer (may.len refl) may.size (may.answered refl)

-- ---- what is told of a step
-- a run that is told first is at this place
abbrev pub IsRunAt : List Side → (place : ℕ) → Type 0
IsRunAt (sides.Ran q orb cdb payload outcome ∷ later) place = q ≡ place
IsRunAt told place = Unit {0}

-- and so it is of the initiator that has this place
pub run_of_place : (told : List Side) (plain : PlainDisk) (w : WorldState) (place initiator : ℕ) → IsRunAt told place → (is_some (run_told told plain) ≡ true → (holder w place).initiator ≡ initiator) → IsRunOf told w initiator
run_of_place [] plain w place initiator at own = tt
run_of_place (sides.Ran q orb cdb payload outcome ∷ later) plain w place initiator at own = ap (λ p. (holder w p).initiator) at ∙ own refl
run_of_place (sides.Own note ∷ later) plain w place initiator at own = tt
run_of_place (sides.Opened q orb ∷ later) plain w place initiator at own = tt
run_of_place (sides.Ended q orb status ∷ later) plain w place initiator at own = tt
run_of_place (sides.Dead q cause ∷ later) plain w place initiator at own = tt
run_of_place (sides.Cut q cause ∷ later) plain w place initiator at own = tt
run_of_place (sides.Managed node function subject status login ∷ later) plain w place initiator at own = tt
run_of_place (sides.ManageFailed node cause ∷ later) plain w place initiator at own = tt
run_of_place (sides.Held login ∷ later) plain w place initiator at own = tt
run_of_place (sides.Expired login ∷ later) plain w place initiator at own = tt
run_of_place (sides.Back login ∷ later) plain w place initiator at own = tt
run_of_place (sides.Left login ∷ later) plain w place initiator at own = tt
run_of_place (sides.Cleared unit ∷ later) plain w place initiator at own = tt
run_of_place (sides.Unsolicited q ∷ later) plain w place initiator at own = tt
run_of_place (sides.Unsent q ∷ later) plain w place initiator at own = tt

-- The sides are of a step, at this place; what they tell of a run is alike to what was told, and where they tell of none, none was; and the term of the
-- agent is the same whatever was told of the run before.
pub record IsToldOf (place : ℕ) (told_sides : List Side) (plain : PlainDisk) (told : Option Told) : Type 0 where
  pub of_step : IsOfStep told_sides
  pub at : IsRunAt told_sides place
  pub alike : (before : Bool) → ToldAlike (run_untold told_sides plain before) (run_told told_sides plain) told
  pub same : (before : Bool) (other : ℕ) (which : Which) (answer : Answer) (a : Agent) → answered (run_told told_sides plain) (run_untold told_sides plain a.untold) other plain which answer a ≡ answered (run_told told_sides plain) (run_untold told_sides plain before) other plain which answer a

-- ends and deaths
abbrev EndsStep : Side → Type 0
EndsStep (sides.Ended place orb status) = Unit {0}
EndsStep (sides.Dead place cause) = Unit {0}
EndsStep side = ⊥

abbrev AllEnd : List Side → Type 0
AllEnd [] = Unit {0}
AllEnd (side ∷ later) = EndsStep side × AllEnd later

end_more : (told : List Side) (side : Side) → AllEnd told → EndsStep side → AllEnd (told ++ side ∷ [])
end_more [] side h f = (f, tt)
end_more (first ∷ told) side h f = (h.0, end_more told side h.1 f)

ends_keep : KeepsSteps AllEnd
ends_keep = record {
  dead = λ told place cause h. end_more told (sides.Dead place cause) h tt;
  ended = λ told place orb status h. end_more told (sides.Ended place orb status) h tt;
}

-- nothing is told of a run
none_alike : (untold : Bool) → ToldAlike untold None None
none_alike untold = record { both = refl; alike = record { outcome = refl; size = refl; answer = λ yes. refl } }

ends_told : (place : ℕ) (told : List Side) (plain : PlainDisk) → AllEnd told → IsToldOf place told plain None
ends_told q [] plain h = record { of_step = tt; at = tt; alike = λ before. none_alike before; same = λ before other which answer a. refl }
ends_told q (sides.Own note ∷ later) plain h = absurd h.0
ends_told q (sides.Opened place orb ∷ later) plain h = absurd h.0
ends_told q (sides.Ran place orb cdb payload outcome ∷ later) plain h = absurd h.0
ends_told q (sides.Ended place orb status ∷ later) plain h = record { of_step = tt; at = tt; alike = λ before. none_alike before; same = λ before other which answer a. refl }
ends_told q (sides.Dead place cause ∷ later) plain h = record { of_step = tt; at = tt; alike = λ before. none_alike before; same = λ before other which answer a. refl }
ends_told q (sides.Cut place cause ∷ later) plain h = absurd h.0
ends_told q (sides.Managed node function subject status login ∷ later) plain h = absurd h.0
ends_told q (sides.ManageFailed node cause ∷ later) plain h = absurd h.0
ends_told q (sides.Held login ∷ later) plain h = absurd h.0
ends_told q (sides.Expired login ∷ later) plain h = absurd h.0
ends_told q (sides.Back login ∷ later) plain h = absurd h.0
ends_told q (sides.Left login ∷ later) plain h = absurd h.0
ends_told q (sides.Cleared unit ∷ later) plain h = absurd h.0
ends_told q (sides.Unsolicited place ∷ later) plain h = absurd h.0
ends_told q (sides.Unsent place ∷ later) plain h = absurd h.0

-- what follows a step that ran no command
end_follows : (node : NodeState) (place : ℕ) (login : Login) (step : AgentStep) → step.ran ≡ None → AllEnd (follow place login step (scene node empty_outbox)).outbox.sides
end_follows node place login step e =
    let s = scene node empty_outbox in
    let told = subst (λ x. AllEnd (tell_ran place (desk_at node place).agent x empty_outbox).sides) (sym e) tt in
    (follows AllEnd node.units node.logins ends_keep place login step s (notes_tell AllEnd node.units node.logins ends_keep place step s told refl refl)).told

-- a run is told first
record Begins (side : Side) (told : List Side) : Type 0 where
  more : List Side
  is : told ≡ side ∷ more

begins_keep : (first : Side) → Keeps (Begins first)
begins_keep first = record { tells = λ told side f h. record { more = h.more ++ side ∷ []; is = ap (λ xs. xs ++ side ∷ []) h.is } }

run_is_told : (place orb : ℕ) (m : Machine) (outcome : Outcome) (told : List Side) (plain : PlainDisk) → MayRun m place outcome plain → Begins (sides.Ran place orb m.orb.cdb m.payload outcome) told → IsToldOf place told plain (Some (record { outcome = outcome; answer = m.answer }))
run_is_told place orb m outcome told plain may b =
    subst (λ xs. IsToldOf place xs plain (Some (record { outcome = outcome; answer = m.answer }))) (sym b.is)
    (record { of_step = tt; at = refl; alike = λ before. record { both = refl; alike = run_alike outcome m place plain may }; same = λ before other which answer a. refl })

-- ---- a reply to the agent of a place
module _ (node : NodeState) (size : length node.desks ≡ 8) (disks : List Disk) (place : ℕ) (small : place < 8) (login : Login) where
  abbrev unit : ℕ
  unit = login.unit

  abbrev plain_now : PlainDisk
  plain_now = plain_in node.units disks unit

  abbrev left_node : Desk → PlainDisk → NodeState
  left_node d p = record (with_desk node place d) { units = slice_set node.units unit p.unit }

  abbrev changed_node : Bool → Desk → PlainDisk → NodeState
  changed_node b d p = changed_by b unit place (left_node d p)

  desk_left : (b : Bool) (d : Desk) (p : PlainDisk) → desk_at (changed_node b d p) place ≡ d
  desk_left false d p = get_or-set_same node.desks place d new_desk (omega arith)
  desk_left true d p = get_or-set_same node.desks place d new_desk (omega arith)

  -- where no command ran, no disc came
  none_came : (b : Bool) → came (disk_at disks unit) (disk_at (slice_set disks unit plain_now.medium) unit) ≡ b → b ≡ false
  none_came false e = refl
  none_came true e = absurd (let no : true ≡ false = sym (came_there disks unit plain_now.medium e) ∙ came_not (disk_at disks unit) in cc)

  ended_by : (b : Bool) (d : Desk) (step : AgentStep) → b ≡ false → step.ran ≡ None → IsToldOf place (announced_by b unit place (follow place login step (scene (changed_node b d plain_now) empty_outbox))).outbox.sides plain_now None
  ended_by true d step f e = absurd (let no : true ≡ false = f in cc)
  ended_by false d step f e =
      let n = changed_node false d plain_now in ends_told place (follow place login step (scene n empty_outbox)).outbox.sides plain_now (end_follows n place login step e)

  run_by : (b : Bool) (d : Desk) (p : PlainDisk) (step : AgentStep) (outcome : Outcome) → step.ran ≡ Some outcome → MayRun d.agent place outcome plain_now → IsToldOf place (announced_by b unit place (follow place login step (scene (changed_node b d p) empty_outbox))).outbox.sides plain_now (Some (record { outcome = outcome; answer = d.agent.answer }))
  run_by b d p step outcome e may =
      let n = changed_node b d p in
      let s = scene n empty_outbox in
      let m = d.agent in
      let first = sides.Ran place (orb_of m) m.orb.cdb m.payload outcome in
      let k = begins_keep first in
      let told : Begins first (tell_ran place (desk_at n place).agent step.ran empty_outbox).sides =
      subst (λ x. Begins first (tell_ran place (desk_at n place).agent x empty_outbox).sides) (sym e)
      (subst (λ (x : Desk). Begins first (tell_ran place x.agent (Some outcome) empty_outbox).sides) (sym (desk_left b d p)) (record { more = []; is = refl })) in
      let i = announces_by (Begins first) n.units n.logins k b unit place (follow place login step s)
      (follows (Begins first) n.units n.logins (keeps_steps (Begins first) k) place login step s (notes_tell (Begins first) n.units n.logins (keeps_steps (Begins first) k) place step s told refl refl)) in
      run_is_told place (orb_of m) m outcome (announced_by b unit place (follow place login step s)).outbox.sides plain_now may i.told

  abbrev loaded : PlainDisk → Bool
  loaded p = came (disk_at disks unit) (disk_at (slice_set disks unit p.medium) unit)

  step_told : (d : Desk) (step : AgentStep) (ran : Option Outcome) → step.ran ≡ ran → MayTell ran d.agent place plain_now → (let p = left_by ran d.agent.orb.cdb d.agent.payload place plain_now in IsToldOf place (announced_by (loaded p) unit place (follow place login step (scene (changed_node (loaded p) d p) empty_outbox))).outbox.sides plain_now (told_in ran d.agent.answer))
  step_told d step None e may = ended_by (loaded plain_now) d step (none_came (loaded plain_now) refl) e
  step_told d step (Some outcome) e may =
      let p = left_by (Some outcome) d.agent.orb.cdb d.agent.payload place plain_now in run_by (loaded p) d p step outcome e may

  advanced_told : (which : Which) (r : AgentStep × Machine) → MayTell r.0.ran r.1 place plain_now → IsToldOf place (advanced_with place login (replied_with place unit which r (stage node disks)) (whole (scene node empty_outbox) disks)).outbox.sides plain_now (told_in r.0.ran r.1.answer)
  unfolding follow_all
  advanced_told which (step, m) may = step_told (record (taken which (desk_at node place)) { agent = m }) step step.ran refl may

  advance_told : (told : Option Told) (which : Which) (answer : Answer) (before now : List ℕ) → Tells told place unit which answer (stage node disks) before now → IsToldOf place (advance told place login which answer (whole (scene node empty_outbox) disks)).outbox.sides plain_now told
  unfolding advance step_replied
  advance_told told which answer before now t =
      let r = reply_step (desk_at node place).agent place plain_now told which answer in
      subst (IsToldOf place (advanced_with place login (replied_with place unit which r (stage node disks)) (whole (scene node empty_outbox) disks)).outbox.sides plain_now) (sym t.so) (advanced_told which r t.may)

-- ---- a packet that the target receives

-- what is told of it: where it takes an agent on, as `IsToldOf` says over the unit of the login of its place; else no run was
abbrev pub ToldBy : (place : ℕ) → Option Login → Option Which → NodeState → List Disk → List Side → Option Told → Type 0
ToldBy place (Some login) (Some which) node disks told_sides told = IsToldOf place told_sides (plain_in node.units disks login.unit) told
ToldBy place None which node disks told_sides told = (told ≡ None) × (told_sides ≡ [])
ToldBy place (Some login) None node disks told_sides told = (told ≡ None) × (told_sides ≡ [])

abbrev pub ToldFor : Finding Purpose → NodeState → List Disk → List Side → Option Told → Type 0
ToldFor (of_response p label (Some (purposes.Agent place))) node disks told_sides told =
    ToldBy place (served_login node place) (which_in (desk_at node place) (header_in p).source label) node disks told_sides told
ToldFor finding node disks told_sides told = told ≡ None

module _ (node : NodeState) (g : Good node) (told : Option Told) (disks : List Disk) (before now : List ℕ) where
  abbrev layered : Layer Purpose → NodeState
  layered layer = record node { layer = layer }

  reply_told : (place : ℕ) (answer : Answer) (layer : Layer Purpose) (login : Option Login) (which : Option Which) → served_login node place ≡ login → TellsBy told place answer login which (stage (layered layer) disks) before now → ToldBy place login which node disks (replied_by told place answer login which (whole (scene (layered layer) empty_outbox) disks)).outbox.sides told
  reply_told place answer layer (Some login) (Some which) e t =
      let there = served_is (length node.units) (login_at node place) login e in
      let inside : place < 8 = (let l = within node.logins.places place login there in let c = g.table.sound.size in omega arith) in
      advance_told (layered layer) g.mid.size disks place inside login told which answer before now t
  reply_told place answer layer None which e t = (t.0, refl)
  reply_told place answer layer (Some login) None e t = (t.0, refl)

  found_told : (found : Finding Purpose) (layer : Layer Purpose) (bytes : List ℕ) → TellsIn told found (whole (scene (layered layer) empty_outbox) disks) before now → ToldFor found node disks (received_as told bytes found (whole (scene (layered layer) empty_outbox) disks)).1.outbox.sides told
  unfolding concluded replied_to
  found_told of_generation layer bytes t = t.0
  found_told of_grammar layer bytes t = t.0
  found_told of_label layer bytes t = t.0
  found_told (of_response p label None) layer bytes t = t.0
  found_told (of_response p label (Some (purposes.Agent place))) layer bytes t =
      reply_told place (answer_in p) layer (served_login node place) (which_in (desk_at node place) (header_in p).source label) refl t
  found_told (of_response p label (Some purposes.Management)) layer bytes t = t.0
  found_told (of_response p label (Some purposes.Unsolicited)) layer bytes t = t.0
  found_told (of_again p rcode) layer bytes t = t.0
  found_told (of_request p) layer bytes t = t.0

pub told_alike_received : (node : NodeState) (g : Good node) (told : Option Told) (disks : List Disk) (generation : ℕ) (bytes before now : List ℕ) → (let found = judging_step node.layer generation bytes in TellsIn told found.0 (with_layer found.1 (whole (scene node empty_outbox) disks)) before now → ToldFor found.0 node disks (received told generation bytes (whole (scene node empty_outbox) disks)).1.outbox.sides told)
unfolding received
told_alike_received node g told disks generation bytes before now t =
    let found = judging_step node.layer generation bytes in found_told node g told disks before now found.0 found.1 bytes t

-- ---- a transaction of an agent that times out: no command runs

lapse_ends : (node : NodeState) (place : ℕ) (login : Login) (r : AgentStep × Desk) → r.0.ran ≡ None → AllEnd (expired_with place login r (scene node empty_outbox)).outbox.sides
lapse_ends node place login (step, desk) e = end_follows (with_desk node place desk) place login step e

lapsed_ends : (node : NodeState) (place : ℕ) (login : Option Login) (which : Option Which) → AllEnd (expired_by place login which (scene node empty_outbox)).outbox.sides
lapsed_ends node place (Some login) (Some which) =
    lapse_ends node place login (expired_desk which (desk_at node place)) (lost_runs (desk_at node place).agent which causes.Timeout)
lapsed_ends node place None which = tt
lapsed_ends node place (Some login) None = tt

lapse_told : (node : NodeState) (place peer : ℕ) (label : LabelParts) (plain : PlainDisk) → IsToldOf place (expire_agent place peer label (scene node empty_outbox)).outbox.sides plain None
unfolding expire_agent
lapse_told node place peer label plain =
    let login = login_at node place in
    let which = which_in (desk_at node place) peer label in
    ends_told place (expired_by place login which (scene node empty_outbox)).outbox.sides plain (lapsed_ends node place login which)

no_agent : (place : ℕ) (r : Result (Option Purpose) Stale) → r ≡ Ok (Some purposes.Management) → r ≡ Ok (Some (purposes.Agent place)) → ⊥
no_agent place r e f = let same : Ok (Some purposes.Management) ≡ Ok (Some (purposes.Agent place)) = sym e ∙ f in cc

agent_of : (q place : ℕ) → (let r : Result (Option Purpose) Stale = Ok (Some (purposes.Agent q)) in r ≡ Ok (Some (purposes.Agent place))) → q ≡ place
agent_of q place e = cc

pub told_alike_expired : (node : NodeState) (peer : ℕ) (label : LabelParts) (place : ℕ) (plain : PlainDisk) → (expiring_step node.layer peer label).0 ≡ Ok (Some (purposes.Agent place)) → IsToldOf place (alone (lets_expire peer label) node).outbox.sides plain None
unfolding expired
told_alike_expired node peer label place plain e = by (expiring_step node.layer peer label) e
  where
    by : (r : Result (Option Purpose) Stale × Layer Purpose) → r.0 ≡ Ok (Some (purposes.Agent place)) → IsToldOf place (expired_in r peer label (scene node empty_outbox)).1.outbox.sides plain None
    by (Ok (Some (purposes.Agent q)), layer) f =
        let x = record node { layer = layer } in subst (λ p. IsToldOf p (expire_agent q peer label (scene x empty_outbox)).outbox.sides plain None) (agent_of q place f) (lapse_told x q peer label plain)
    by (Ok (Some purposes.Management), layer) f = absurd (no_agent place (Ok (Some purposes.Management)) refl f)
    by (Ok (Some purposes.Unsolicited), layer) f = ends_told place [] plain tt
    by (Ok None, layer) f = ends_told place [] plain tt
    by (Err stale, layer) f = ends_told place [] plain tt
