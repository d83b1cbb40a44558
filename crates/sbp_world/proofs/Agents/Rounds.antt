-- What each turn of an agent makes of its term.
use Rattle.sbp_world.proofs.Words.Std.{◌≡◌, ◌∙◌, refl, sym, ap, subst, ℕ, ◌<◌, is_some, Bool, true, cond, List, Option, Some, None}
use Rattle.sbp_world.proofs.Words.Wire.{Layer, empty_outbox}
use Rattle.sbp_world.proofs.Words.Target.{Login, Disk, disk_at, Told, left_by, told_in, PlainDisk, Outcome, AgentStep, Which, Ahead, Main, Machine, is_ahead, MayTell, reply_step, Purpose, NodeState, desk_at, scene, advance, came, plain_at, replied, replied_with, scene_of, stage, whole}
use Rattle.sbp_world.proofs.Words.Initiator.{Answer}
use Rattle.sbp_world.proofs.Words.Laws.{Agent}
use Rattle.sbp_world.proofs.Words.World.{Alike, StepsAlike, IsOf, Request, ToldAlike, answered}
use Rattle.command_agent.specs.declared.phase.Phase.TheVariants as phases
use Rattle.sbp_target.proofs.Histories.Calling.{Good}
use Rattle.sbp_target.proofs.Histories.Stepped.{ahead_replied, main_replied}
use Rattle.sbp_world.proofs.Agents.Announces.{Ended}
use Rattle.sbp_world.proofs.Agents.Loads.{came_there, ran_loads}
use Rattle.sbp_world.proofs.Agents.Mild.{IsGiven, reply_mild}
use Rattle.sbp_world.proofs.Agents.Steps.{reply_alike}
use Rattle.sbp_world.proofs.Agents.Turns.{ahead_follows, ahead_settled, ahead_turns, fits, main_follows, main_stepped, main_turns, reply_ends}

ran_told : (ran : Option Outcome) (answer : List ℕ) → is_some (told_in ran answer) ≡ is_some ran
ran_told None answer = refl
ran_told (Some outcome) answer = refl

module _ {requests : List Request} (node : NodeState) (g : Good node) (q : ℕ) (b : q < 8) (a : Agent) (is : IsOf requests a (desk_at node q)) (layer : Layer Purpose) (login : Login) (v : Bool) where
  abbrev own : Machine
  own = (desk_at node q).agent

  abbrev point_now : Option ℕ
  point_now = (desk_at node q).pointer

  abbrev over_layer : NodeState
  over_layer = record node { layer = layer }

  -- what was told and the node's own step are of one kind
  pub alike_told : (ta tm : Option Told) (plain : PlainDisk) (which : Which) (answer : Answer) → ToldAlike v ta tm → is_some tm ≡ is_some (reply_step own q plain tm which answer).0.ran → StepsAlike a.untold v (reply_step a.machine q plain ta which answer) (reply_step own q plain tm which answer)
  alike_told ta tm plain which answer t so = reply_alike a.untold v a.machine own q plain ta tm which answer is.machine t.alike

  pub blank_now : (ta tm : Option Told) (plain : PlainDisk) (which : Which) (answer : Answer) (t : ToldAlike v ta tm) → is_some tm ≡ is_some (reply_step own q plain tm which answer).0.ran → Alike (cond (is_some ta) v a.untold) (reply_step a.machine q plain ta which answer).1 (reply_step own q plain tm which answer).1
  blank_now ta tm plain which answer t so =
      subst (λ (x : Bool). Alike (cond x v a.untold) (reply_step a.machine q plain ta which answer).1 (reply_step own q plain tm which answer).1) (sym (t.both ∙ so)) (alike_told ta tm plain which answer t so).alike

  -- ---- a reply
  module _ (ta tm : Option Told) (answer : Answer) (disks : List Disk) (t : ToldAlike v ta tm) (given : IsGiven answer) where
    abbrev plain_now : PlainDisk
    plain_now = plain_at (stage over_layer disks) login.unit

    abbrev step_now : (which : Which) → AgentStep × Machine
    step_now which = reply_step own q plain_now tm which answer

    loads_end : (which : Which) → MayTell (step_now which).0.ran (step_now which).1 q plain_now → came (disk_at disks login.unit) (disk_at (replied_with q login.unit which (step_now which) (stage over_layer disks)).1.disks login.unit) ≡ true → (step_now which).1.phase ≡ phases.WritingStatus
    loads_end which may e =
        let r = step_now which in
        ran_loads r.0.ran r.1 q plain_now may (came_there disks login.unit (left_by r.0.ran r.1.orb.cdb r.1.payload q plain_now).medium e) (r.1.phase ≡ phases.WritingStatus)
        (λ o f z. (reply_mild own q plain_now tm which answer given).ends o f z)

    pub main_advances : tm ≡ told_in (step_now Main).0.ran (step_now Main).1.answer → MayTell (step_now Main).0.ran (step_now Main).1 q plain_now → Ended requests q node (answered ta v q plain_now Main answer a) point_now (scene_of (advance tm q login Main answer (whole (scene over_layer empty_outbox) disks)))
    unfolding advance replied
    main_advances so may =
        let ra = reply_step a.machine q plain_now ta Main answer in
        let r = step_now Main in
        let ran = ap is_some so ∙ ran_told r.0.ran r.1.answer in
        let behind = main_replied own q plain_now tm answer (fits node g q b a is).agent in
        let st = main_stepped node g q b a is v ta ra r behind (alike_told ta tm plain_now Main answer t ran).step (blank_now ta tm plain_now Main answer t ran) in
        let first = answered ta v q plain_now Main answer a in
        reply_ends node g q b a is layer login Main disks first r (main_follows node g q b a is layer login first (is_ahead own.ahead) r behind (reply_mild own q plain_now tm Main answer given) st)
        (main_turns node g q b a is v ta ra r (alike_told ta tm plain_now Main answer t ran).step) (loads_end Main may)

    pub ahead_advances : is_ahead own.ahead ≡ true → tm ≡ told_in (step_now Ahead).0.ran (step_now Ahead).1.answer → MayTell (step_now Ahead).0.ran (step_now Ahead).1 q plain_now → Ended requests q node (answered ta v q plain_now Ahead answer a) point_now (scene_of (advance tm q login Ahead answer (whole (scene over_layer empty_outbox) disks)))
    unfolding advance replied
    ahead_advances under so may =
        let ra = reply_step a.machine q plain_now ta Ahead answer in
        let r = step_now Ahead in
        let ran = ap is_some so ∙ ran_told r.0.ran r.1.answer in
        let over = ahead_replied own q plain_now tm answer under (fits node g q b a is).agent in
        let st = ahead_settled node g q b a is v ta ra r over (alike_told ta tm plain_now Ahead answer t ran).step (blank_now ta tm plain_now Ahead answer t ran) in
        let first = answered ta v q plain_now Ahead answer a in
        reply_ends node g q b a is layer login Ahead disks first r (ahead_follows node g q b a is layer login first r over.silent st)
        (ahead_turns node g q b a is v ta ra r (alike_told ta tm plain_now Ahead answer t ran).step) (loads_end Ahead may)
