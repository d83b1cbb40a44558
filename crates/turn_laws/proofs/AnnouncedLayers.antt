-- What is told and sent of a disc that came, with what is so of the layer there: all else is told and sent before, and the layer is as the steps of the agent's own requests left it.
use Rattle.std.proofs.Common.{◌≡◌, refl, sym, ap, ◌∙◌, subst, ℕ, Bool, true, false, List, ◌++◌, append-nil, Option, Some, None}
use Rattle.async_packet.specs.Labels.{LabelParts}
use Rattle.command_agent.specs.Machine.{Machine}
use Rattle.command_agent.specs.Steps.{reply_step}
use Rattle.command_agent.specs.declared.step.AgentStep.{AgentStep}
use Rattle.command_agent.specs.declared.step.Which.{Which}
use Rattle.command_agent.specs.declared.step.Which.TheVariants.{Ahead, Main}
use Rattle.label_table.specs.Bodies.{Body}
use Rattle.label_table.specs.Layer.{Layer, asking_step, disowning_step}
use Rattle.login_table.specs.declared.login.Login.{Login}
use Rattle.orb_layout.specs.Replies.{Answer}
use Rattle.rbc_disk.specs.Disk.{Disk, disk_at}
use Rattle.rbc_disk.specs.Runs.{Told}
use Rattle.sbp_journal.specs.declared.outbox.Outgoing.{Outgoing}
use Rattle.sbp_journal.specs.Outgoings.{OutboxState, empty_outbox}
use Rattle.sbp_target.specs.Agents.{follow}
use Rattle.sbp_target.specs.Desks.{taken, which_in}
use Rattle.sbp_target.specs.Histories.Sides.{Announced, AreLast, ArePlain, announced_from, announced_if}
use Rattle.sbp_target.specs.Nodes.{NodeState, Scene, desk_at, scene}
use Rattle.sbp_target.specs.Replies.{Stage, Whole, advance, advanced_with, announced_by, came, changed_by, follow_all, plain_at, replied, replied_by, replied_to, replied_with, served_login, stage, whole}
use Rattle.sbp_target.specs.declared.desk.Desk.{Desk}
use Rattle.sbp_target.specs.declared.purpose.Purpose.{Purpose}
use Rattle.sbp_target.specs.declared.purpose.Purpose.TheVariants as purposes
use Rattle.sbp_target.proofs.Histories.Framed as framed
use Rattle.sbp_target.proofs.Histories.Quiet.{follows_in}
use Rattle.sbp_target.proofs.Histories.Told.{Apart, from_adds, keeps_apart, plain_tells}
use Rattle.sbp_world.proofs.Agents.UnitsMarked.{came_not}
use Rattle.turn_laws.proofs.FollowLayers.{follows}

-- ---- what is told behind all that follows a step of an agent
-- what is so of the layer there
module _ (Z : Layer Purpose → Type 0) (node : NodeState) where
  pub record AnnouncesOn (disc_came : Bool) (unit from : ℕ) (outbox : OutboxState) : Type 0 where
    pub layer : Layer Purpose
    pub on : Z layer
    pub told : AreLast (announced_if disc_came unit from node layer).0 outbox.sides
    pub first : List Outgoing
    pub packets_are : outbox.packets ≡ first ++ (announced_if disc_came unit from node layer).1

  record Ready (s : Scene) : Type 0 where
    on : Z s.node.layer
    plain : ArePlain s.outbox.sides
    apart : Apart node s.node

  announces_ready : (b : Bool) (unit place : ℕ) (s : Scene) → Ready s → AnnouncesOn b unit place (announced_by b unit place s).outbox
  announces_ready false unit place s r = record {
    layer = s.node.layer;
    on = r.on;
    told = record { before = s.outbox.sides; plain = r.plain; told_is = sym (append-nil s.outbox.sides) };
    first = s.outbox.packets;
    packets_are = sym (append-nil s.outbox.packets);
  }
  announces_ready true unit place s r =
      let a = from_adds 8 0 unit place node s (record { logins = r.apart.logins; enabled = λ p b. r.apart.enabled p }) in
      let is : announced_from 8 0 unit place node s.node.layer s.node.pending ≡ announced_from 8 0 unit place node s.node.layer node.pending =
      ap (λ (p : List ℕ). announced_from 8 0 unit place node s.node.layer p) r.apart.pending in
      record {
        layer = s.node.layer;
        on = r.on;
        told = record { before = s.outbox.sides; plain = r.plain; told_is = a.told_is ∙ ap (λ (x : Announced). s.outbox.sides ++ x.0) is };
        first = s.outbox.packets;
        packets_are = a.packets_are ∙ ap (λ (x : Announced). s.outbox.packets ++ x.1) is;
      }

  module _ (place : ℕ) (login : Login) (asks : (layer : Layer Purpose) (body : Body) → Z layer → Z (asking_step layer login.node body (purposes.Agent place)).1) (disowns : (layer : Layer Purpose) (peer : ℕ) (label : LabelParts) → Z layer → Z (disowning_step layer peer label)) where
    changed_ready : (b : Bool) (unit : ℕ) (s : Scene) → Ready s → Ready (scene (changed_by b unit place s.node) s.outbox)
    changed_ready false unit s r = r
    changed_ready true unit s r = record { on = r.on; plain = r.plain; apart = record { logins = r.apart.logins; pending = r.apart.pending; enabled = r.apart.enabled } }

    follow_ready : (step : AgentStep) (s : Scene) → Ready s → Ready (follow place login step s)
    follow_ready step s r = record {
      on = follows Z place login asks disowns step s r.on;
      plain = follows_in ArePlain plain_tells place login step s r.plain;
      apart = framed.follows_at (Apart node) (keeps_apart node) place login step s r.apart;
    }

    follow_tells : (b : Bool) (step : AgentStep) (s : Scene) → Ready s → AnnouncesOn b login.unit place (follow_all b place login step s).outbox
    unfolding follow_all
    follow_tells b step s r =
        let t = scene (changed_by b login.unit place s.node) s.outbox in announces_ready b login.unit place (follow place login step t) (follow_ready step t (changed_ready b login.unit s r))

    abbrev TellsOn : List Disk → List Disk → OutboxState → Type 0
    TellsOn disks left outbox = AnnouncesOn (came (disk_at disks login.unit) (disk_at left login.unit)) login.unit place outbox

    advanced_tells : (r : AgentStep × Stage) (w : Whole) → Ready (scene r.1.node w.outbox) → TellsOn w.disks (advanced_with place login r w).disks (advanced_with place login r w).outbox
    advanced_tells (step, st) w r = follow_tells (came (disk_at w.disks login.unit) (disk_at st.disks login.unit)) step (scene st.node w.outbox) r

    replied_ready : (unit : ℕ) (which : Which) (r : AgentStep × Machine) (w : Whole) → Ready (scene w.node w.outbox) → Ready (scene (replied_with place unit which r (stage w.node w.disks)).1.node w.outbox)
    replied_ready unit which (step, m) w r = record {
      on = r.on;
      plain = r.plain;
      apart =
          let d = record (taken which (desk_at w.node place)) { agent = m } in
          let h = (keeps_apart node).desks w.node place d (taken_enabled which (desk_at w.node place)) r.apart in
          record { logins = h.logins; pending = h.pending; enabled = h.enabled };
    }
      where
        taken_enabled : (which : Which) (d : Desk) → (taken which d).is_enabled ≡ d.is_enabled
        taken_enabled Main d = refl
        taken_enabled Ahead d = refl

    advance_tells : (told : Option Told) (which : Which) (answer : Answer) (w : Whole) → Ready (scene w.node w.outbox) → TellsOn w.disks (advance told place login which answer w).disks (advance told place login which answer w).outbox
    unfolding advance replied
    advance_tells told which answer w r =
        let st = stage w.node w.disks in
        let s = reply_step (desk_at w.node place).agent place (plain_at st login.unit) told which answer in
        advanced_tells (replied_with place login.unit which s st) w (replied_ready login.unit which s w r)

    replies_tell : (told : Option Told) (answer : Answer) (which : Option Which) (w : Whole) → Ready (scene w.node w.outbox) → TellsOn w.disks (replied_by told place answer (Some login) which w).disks (replied_by told place answer (Some login) which w).outbox
    replies_tell told answer (Some which) w r = advance_tells told which answer w r
    replies_tell told answer None w r =
        subst (λ (b : Bool). AnnouncesOn b login.unit place w.outbox) (sym (came_not (disk_at w.disks login.unit))) (announces_ready false login.unit place (scene w.node w.outbox) r)

    pub reply_tells : (told : Option Told) (peer : ℕ) (label : LabelParts) (answer : Answer) (layer : Layer Purpose) (disks : List Disk) → served_login node place ≡ Some login → Z layer
        → (let w = whole (scene (record node { layer = layer }) empty_outbox) disks in TellsOn disks (replied_to told place peer label answer w).disks (replied_to told place peer label answer w).outbox)
    unfolding replied_to
    reply_tells told peer label answer layer disks served z =
        let w = whole (scene (record node { layer = layer }) empty_outbox) disks in
        let which = which_in (desk_at w.node place) peer label in
        subst (λ (l : Option Login). TellsOn disks (replied_by told place answer l which w).disks (replied_by told place answer l which w).outbox) (sym served)
        (replies_tell told answer which w (record { on = z; plain = tt; apart = record { logins = refl; pending = refl; enabled = λ p. refl } }))
