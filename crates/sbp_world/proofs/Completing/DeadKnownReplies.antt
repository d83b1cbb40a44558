-- A delivery to the target, a time-out, a sight of a generation and a second leave no agent dead, or about to be, that was not so before, where they tell of no death; and a sight of a new generation leaves none so at all.
use Rattle.sbp_world.proofs.Words.Std.{arith, ◌≡◌, refl, sym, subst, ◌≤◌, ℕ, nat_lt, nat_tests, Bool, true, false, cond, List, [], length, Option, Some, None, Result, Ok, Err, slice_set}
use Rattle.sbp_world.proofs.Words.Wire.{header_in, LabelParts, Stale, Finding, Layer, expiring_step, judging_step, of_again, of_generation, of_grammar, of_label, of_request, of_response, seeing_step, seen_in_generation, Judged, empty_outbox}
use Rattle.sbp_world.proofs.Words.Target.{Login, Disk, disk_at, Told, left_by, PlainDisk, AgentStep, Which, Machine, reply_step, Desk, Purpose, MayAct, NodeState, Scene, desk_at, scene, with_desk, answer_in, cleared_node, concluded, expired, expired_in, judged_scene, received, received_as, reset_by, seen, ticked, timed_out, Whole, advance, advanced_with, announced_by, came, changed_by, follow, follow_all, noted, plain_in, step_replied, replied_by, replied_to, replied_with, served_login, stage, whole, scene_of, serving_step, cut_all, stay, taken, which_in}
use Rattle.sbp_world.proofs.Words.Initiator.{Answer, Expired}
use Rattle.sbp_journal.specs.declared.cause.CutCause.TheVariants as cuts
use Rattle.sbp_target.specs.declared.purpose.Purpose.TheVariants as purposes
use Rattle.sbp_target.specs.Histories.Moves as moves
use Rattle.sbp_target.specs.Histories.Moves.{Lost, Move}
use Rattle.sbp_target.proofs.Histories.Moved.{announced_moves, behind_moves, expire_agent_moves, request_moves, reset_moves, tick_moves}
use Rattle.sbp_world.proofs.Common.{untrue}
use Rattle.sbp_world.proofs.Agents.Cuts.{all_cut}
use Rattle.sbp_world.proofs.Lists.StatusCalls.{none_beyond}
use Rattle.sbp_world.proofs.Completing.DeadKnownCalls.{AreAlive, Known, answers, goes, known, manages, noted_known, reset_desks, set_alive}
use Rattle.sbp_world.proofs.Completing.DeadKnownSteps.{IsAlive, reply_lives, reset_alive}

lost : Lost known
lost m which cause = tt

acts : MayAct known
acts = record { lost = lost; asking = tt; cutting = tt }

-- ---- a packet that the target gets
module _ (run : Option Told) (generation : ℕ) (bytes : List ℕ) (node : NodeState) (disks : List Disk) (a : AreAlive node.desks) where
  abbrev layer : Layer Purpose
  layer = (judging_step node.layer generation bytes).1

  abbrev node_there : NodeState
  node_there = record node { layer = layer }

  abbrev here : Scene
  here = scene node_there empty_outbox

  abbrev all : Whole
  all = whole here disks

  here_known : Known here
  here_known l = a

  -- ---- a response to an agent
  module _ (place : ℕ) (login : Login) where
    abbrev unit : ℕ
    unit = login.unit

    abbrev plain_now : PlainDisk
    plain_now = plain_in node.units disks unit

    abbrev left_node : Desk → PlainDisk → NodeState
    left_node d p = record (with_desk node_there place d) { units = slice_set node.units unit p.unit }

    abbrev changed : Bool → Desk → PlainDisk → NodeState
    changed b d p = changed_by b unit place (left_node d p)

    changed_desks : (b : Bool) (d : Desk) (p : PlainDisk) → (changed b d p).desks ≡ slice_set node.desks place d
    changed_desks false d p = refl
    changed_desks true d p = refl

    step_known : (d : Desk) (step : AgentStep) (n : NodeState) → n.desks ≡ slice_set node.desks place d → (step.dead ≡ None → IsAlive d.agent) → Known (follow place login step (scene n empty_outbox))
    step_known d step n e f =
        let s = scene n empty_outbox in
        let t = noted place step s in
        goes t _ (behind_moves (Move known) place login (λ x y m. moves.follows place login x y lost tt m) t step s (stay t))
        (noted_known place step s (λ l dead. subst AreAlive (sym e) (set_alive node.desks place d (f dead) a)))

    abbrev loaded : PlainDisk → Bool
    loaded p = came (disk_at disks unit) (disk_at (slice_set disks unit p.medium) unit)

    ran_on : (d : Desk) (step : AgentStep) → (step.dead ≡ None → IsAlive d.agent) → (let p = left_by step.ran d.agent.orb.cdb d.agent.payload place plain_now in Known (announced_by (loaded p) unit place (follow place login step (scene (changed (loaded p) d p) empty_outbox))))
    ran_on d step f =
        let p = left_by step.ran d.agent.orb.cdb d.agent.payload place plain_now in
        let n = changed (loaded p) d p in
        let s = follow place login step (scene n empty_outbox) in
        goes s _ (announced_moves (Move known) unit place (λ x y m. moves.announces unit place x y tt tt m) s (loaded p) s (stay s)) (step_known d step n (changed_desks (loaded p) d p) f)

    advanced_known : (which : Which) (r : AgentStep × Machine) → (r.0.dead ≡ None → IsAlive r.1) → Known (scene_of (advanced_with place login (replied_with place unit which r (stage node_there disks)) all))
    unfolding follow_all
    advanced_known which (step, m) f = ran_on (record (taken which (desk_at node place)) { agent = m }) step f

    advance_known : (which : Which) (answer : Answer) → Known (scene_of (advance run place login which answer all))
    unfolding advance step_replied
    advance_known which answer =
        let m = (desk_at node place).agent in advanced_known which (reply_step m place plain_now run which answer) (reply_lives m place plain_now run which answer (a place))

  replies_by : (place : ℕ) (answer : Answer) (there : Option Login) (which : Option Which) → Known (scene_of (replied_by run place answer there which all))
  replies_by place answer None which = here_known
  replies_by place answer (Some login) None = here_known
  replies_by place answer (Some login) (Some which) = advance_known place login which answer

  concludes : (peer : ℕ) (label : LabelParts) (answer : Answer) (purpose : Option Purpose) → Known (scene_of (concluded run purpose peer label answer all))
  unfolding concluded replied_to
  concludes peer label answer None = here_known
  concludes peer label answer (Some (purposes.Agent place)) = replies_by place answer (served_login node place) (which_in (desk_at node place) peer label)
  concludes peer label answer (Some purposes.Management) = manages answer here here_known
  concludes peer label answer (Some purposes.Unsolicited) = here_known

  abbrev Done : Judged × Whole → Type 0
  Done x = Known (scene_of x.1)

  of_scene : (x : Judged × Scene) → Known x.1 → Done (judged_scene x all)
  of_scene (judged, s) k = k

  by_found : (f : Finding Purpose) → Done (received_as run bytes f all)
  by_found of_generation = here_known
  by_found of_grammar = here_known
  by_found of_label = here_known
  by_found (of_again p rcode) = answers p bytes rcode [] here here_known
  by_found (of_response p label purpose) = concludes (header_in p).source label (answer_in p) purpose
  by_found (of_request p) = of_scene (serving_step p bytes here) (goes here _ (request_moves known here acts (λ ask. tt) tt p bytes tt here (stay here)) here_known)

  pub received_known : Done (received run generation bytes (whole (scene node empty_outbox) disks))
  unfolding received
  received_known = by_found (judging_step node.layer generation bytes).0

-- ---- a time-out
pub expires_known : (peer : ℕ) (label : LabelParts) (s : Scene) → Known s → Known (expired peer label s).1
unfolding expired
expires_known peer label s k = by (expiring_step s.node.layer peer label)
  where
    timed : (purpose : Option Purpose) (now : Layer Purpose) → Known (timed_out purpose peer label (scene (record s.node { layer = now }) s.outbox))
    timed None now = k
    timed (Some (purposes.Agent place)) now = let t = scene (record s.node { layer = now }) s.outbox in goes t _ (expire_agent_moves known t lost tt place peer label t (stay t)) k
    timed (Some purposes.Management) now = manages Expired (scene (record s.node { layer = now }) s.outbox) k
    timed (Some purposes.Unsolicited) now = k

    by : (r : Result (Option Purpose) Stale × Layer Purpose) → Known (expired_in r peer label s).1
    by (Ok purpose, now) = timed purpose now
    by (Err stale, now) = k

-- ---- a sight of a generation, and a second
pub sees_known : (generation id : ℕ) (s : Scene) → Known s → Known (seen generation id s).1
unfolding seen
sees_known generation id s k =
    let r = seeing_step s.node.layer generation id in
    let t = scene (record s.node { layer = r.1 }) s.outbox in
    goes t _ (reset_moves known t tt tt r s (stay t)) k

pub ticks_known : (s : Scene) → Known s → Known (ticked s)
ticks_known s k = goes s _ (tick_moves known s tt s (stay s)) k

-- where the generation is new
module _ (s : Scene) (size : length s.node.desks ≡ 8) where
  cut_alive : AreAlive (cut_all cuts.Reset None s).node.desks
  cut_alive p = by (nat_lt p 8) refl
    where
      c : length (cut_all cuts.Reset None s).node.desks ≡ 8
      c = (all_cut cuts.Reset None s size).size

      by : (b : Bool) → nat_lt p 8 ≡ b → IsAlive (desk_at (cut_all cuts.Reset None s).node p).agent
      by true e = subst IsAlive (sym ((all_cut cuts.Reset None s size).agent p (grind (arith, nat_tests, e)))) (reset_alive (desk_at s.node p).agent)
      by false e = subst (λ (d : Desk). IsAlive d.agent) (sym (none_beyond (cut_all cuts.Reset None s).node.desks p (let n : 8 ≤ p = grind (arith, nat_tests, e) in omega (arith, n, c)))) refl

pub sees_new : (generation id : ℕ) (s : Scene) → length s.node.desks ≡ 8 → nat_lt s.node.layer.generation generation ≡ true → AreAlive (seen generation id s).1.node.desks
unfolding seen seeing_step
sees_new generation id s size new = by (nat_lt s.node.layer.generation generation) new
  where
    by : (b : Bool) → b ≡ true → AreAlive (reset_by (cond b (true, seen_in_generation s.node.layer generation id) (false, s.node.layer)) s).1.node.desks
    by true e = reset_desks (cut_all cuts.Reset None (scene (cleared_node (seen_in_generation s.node.layer generation id) s.node) s.outbox)).node.desks (cut_alive (scene (cleared_node (seen_in_generation s.node.layer generation id) s.node) s.outbox) size)
    by false e = untrue e
