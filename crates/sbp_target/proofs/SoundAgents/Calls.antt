-- Each call of a target leaves its agents sound.
use Rattle.std.proofs.Common.{sym, subst, ℕ, zero, suc, Bool, true, false, List, [], map, replicate, slice_index_or, Option, Some, None, Result, Ok, Err}
use Rattle.std.proofs.Math.ListN.{get_or-map}
use Rattle.async_packet.specs.Labels.{LabelParts}
use Rattle.async_packet.specs.Packet.{header_in}
use Rattle.label_table.specs.declared.reply.Stale.{Stale}
use Rattle.label_table.specs.Layer.{Finding, Layer, expiring_step, judging_step, of_again, of_generation, of_grammar, of_label, of_request, of_response, seeing_step}
use Rattle.login_table.specs.declared.login.Login.{Login}
use Rattle.login_table.specs.Table.{Table, tick_step}
use Rattle.orb_layout.specs.declared.ask.FailCause.TheVariants as causes
use Rattle.orb_layout.specs.Replies.{Answer, Expired}
use Rattle.rbc_disk.specs.Disk.{disk_at}
use Rattle.rbc_disk.specs.Runs.{Told}
use Rattle.command_agent.specs.declared.step.AgentStep.{AgentStep}
use Rattle.command_agent.specs.declared.step.Which.{Which}
use Rattle.command_agent.specs.Machine as machines
use Rattle.command_agent.specs.Machine.{Machine}
use Rattle.command_agent.proofs.Sound.{calls_keep_sound}
use Rattle.sbp_journal.specs.declared.cause.CutCause.TheVariants as cuts
use Rattle.sbp_journal.specs.declared.cause.Judged.{Judged}
use Rattle.sbp_journal.specs.Outgoings.{empty_outbox}
use Rattle.sbp_target.specs.declared.desk.Desk.{Desk}
use Rattle.sbp_target.specs.declared.purpose.Purpose.{Purpose}
use Rattle.sbp_target.specs.declared.purpose.Purpose.TheVariants as purposes
use Rattle.sbp_target.specs.Agents.{follow}
use Rattle.sbp_target.specs.Calls.{Call, alone, lets_expire, receives, sees, sets_key, ticks}
use Rattle.sbp_target.specs.Desks.{disabled, expired_desk, new_desk, taken, which_in}
use Rattle.sbp_target.specs.Nodes.{NodeState, Scene, scene, desk_at, login_at, with_desk}
use Rattle.sbp_target.specs.Receiving.{TellsAt, TellsIn, answer_in, cleared_node, concluded, expire_agent, expired, expired_by, expired_in, judged_scene, received, received_as, reset_by, seen, ticked, ticked_by, timed_out, with_layer}
use Rattle.sbp_target.specs.Replies.{TellsBy, Whole, advance, advanced_with, agent_step, came, changed_by, follow_all, plain_at, replied, replied_by, replied_to, replied_with, scene_of, served_login, stage}
use Rattle.sbp_target.specs.RequestsLeft.{bare}
use Rattle.sbp_target.specs.Serving.{request_step as served_step}
use Rattle.sbp_target.specs.SoundAgents.{AgentsAreSound, CallsKeepSound, IsNoDelivery}
use Rattle.sbp_target.specs.Units.{cut_all}
use Rattle.sbp_target.proofs.Histories.Views.{cuts_keep}
use Rattle.sbp_target.proofs.SoundAgents.Steps.{At, seats, follows, discs, cuts_one}
use Rattle.sbp_target.proofs.SoundAgents.Serving.{answers, manages, requests_sound}

-- ---- a reply to an agent
loaded : (b : Bool) (unit place : ℕ) (node : NodeState) → AgentsAreSound node → AgentsAreSound (changed_by b unit place node)
loaded false unit place node h = h
loaded true unit place node h = h

advances : (place : ℕ) (login : Login) (which : Which) (r : AgentStep × Machine) (w : Whole) → machines.IsSound r.1 → At (scene_of w) → At (scene_of (advanced_with place login (replied_with place login.unit which r (stage w.node w.disks)) w))
unfolding follow_all
advances place login which (step, m) w sound h =
    let st = (replied_with place login.unit which (step, m) (stage w.node w.disks)).1 in
    let b = came (disk_at w.disks login.unit) (disk_at st.disks login.unit) in
    let t = scene (changed_by b login.unit place st.node) w.outbox in
    let d : Desk = record (taken which (desk_at w.node place)) { agent = m } in
    discs b login.unit place (follow place login step t) (follows place login step t (loaded b login.unit place st.node (seats w.node place d sound h)))

replies_by : (told : Option Told) (place : ℕ) (answer : Answer) (login : Option Login) (which : Option Which) (w : Whole) (before now : List ℕ) → TellsBy told place answer login which (stage w.node w.disks) before now → At (scene_of w) → At (scene_of (replied_by told place answer login which w))
unfolding advance replied
replies_by told place answer None which w before now t h = h
replies_by told place answer (Some login) None w before now t h = h
replies_by told place answer (Some login) (Some which) w before now t h =
    let m = (desk_at w.node place).agent in
    advances place login which (agent_step told place login.unit which answer (stage w.node w.disks)) w ((calls_keep_sound m (h place)).replies place (plain_at (stage w.node w.disks) login.unit) told which answer t.may) h

concludes : (told : Option Told) (purpose : Option Purpose) (peer : ℕ) (label : LabelParts) (answer : Answer) (w : Whole) (before now : List ℕ) → TellsAt told purpose peer label answer w before now → At (scene_of w) → At (scene_of (concluded told purpose peer label answer w))
unfolding concluded replied_to
concludes told None peer label answer w before now t h = h
concludes told (Some (purposes.Agent place)) peer label answer w before now t h = replies_by told place answer (served_login w.node place) (which_in (desk_at w.node place) peer label) w before now t h
concludes told (Some purposes.Management) peer label answer w before now t h = manages answer (scene_of w) h
concludes told (Some purposes.Unsolicited) peer label answer w before now t h = h

-- ---- the calls
as_judged : (r : Judged × Scene) (w : Whole) → At r.1 → At (scene_of (judged_scene r w).1)
as_judged (judged, s) w h = h

finds : (told : Option Told) (bytes : List ℕ) (found : Finding Purpose) (w : Whole) (before now : List ℕ) → TellsIn told found w before now → At (scene_of w) → At (scene_of (received_as told bytes found w).1)
finds told bytes of_generation w before now t h = h
finds told bytes of_grammar w before now t h = h
finds told bytes of_label w before now t h = h
finds told bytes (of_response p label purpose) w before now t h = concludes told purpose (header_in p).source label (answer_in p) w before now t h
finds told bytes (of_again p rcode) w before now t h = answers p bytes rcode [] (scene_of w) h
finds told bytes (of_request p) w before now t h = as_judged (served_step p bytes (scene_of w)) w (requests_sound p bytes (scene_of w) h)

expires_by : (place : ℕ) (login : Option Login) (which : Option Which) (s : Scene) → At s → At (expired_by place login which s)
expires_by place None which s h = h
expires_by place (Some login) None s h = h
expires_by place (Some login) (Some which) s h =
    let m = (desk_at s.node place).agent in
    let r = expired_desk which (desk_at s.node place) in
    follows place login r.0 (scene (with_desk s.node place r.1) s.outbox) (seats s.node place r.1 ((calls_keep_sound m (h place)).losses which causes.Timeout) h)

times_out : (purpose : Option Purpose) (peer : ℕ) (label : LabelParts) (s : Scene) → At s → At (timed_out purpose peer label s)
unfolding expire_agent
times_out None peer label s h = h
times_out (Some (purposes.Agent place)) peer label s h = expires_by place (login_at s.node place) (which_in (desk_at s.node place) peer label) s h
times_out (Some purposes.Management) peer label s h = manages Expired s h
times_out (Some purposes.Unsolicited) peer label s h = h

expires_in : (r : Result (Option Purpose) Stale × Layer Purpose) (peer : ℕ) (label : LabelParts) (s : Scene) → At s → At (expired_in r peer label s).1
expires_in (Ok purpose, layer) peer label s h = times_out purpose peer label (scene (record s.node { layer = layer }) s.outbox) h
expires_in (Err stale, layer) peer label s h = h

disables : (desks : List Desk) (p : ℕ) → machines.IsSound (slice_index_or desks p new_desk).agent → machines.IsSound (slice_index_or (map disabled desks) p new_desk).agent
disables desks p h = subst (λ (d : Desk). machines.IsSound d.agent) (sym (get_or-map disabled desks p new_desk)) h

resets_by : (r : Bool × Layer Purpose) (s : Scene) → At s → At (reset_by r s).1
resets_by (false, layer) s h = h
resets_by (true, layer) s h =
    let t = scene (cleared_node layer s.node) s.outbox in
    let k = cuts_keep At cuts_one cuts.Reset None t h in
    λ p. disables (cut_all cuts.Reset None t).node.desks p (k p)

ticks_by : (r : List ℕ × Table) (s : Scene) → At s → At (ticked_by r s)
ticks_by (logins, table) s h = h

other_calls : (call : Call) (node : NodeState) → IsNoDelivery call → AgentsAreSound node → AgentsAreSound (alone call node).node
unfolding expired seen ticked
other_calls (receives told disks generation bytes) node never h = absurd never
other_calls (lets_expire peer label) node n h = let s = scene node empty_outbox in expires_in (expiring_step node.layer peer label) peer label s h
other_calls (sees generation id) node n h = resets_by (seeing_step node.layer generation id) (scene node empty_outbox) h
other_calls ticks node n h = ticks_by (tick_step node.logins) (scene node empty_outbox) h
other_calls (sets_key unit key) node n h = h

fresh : (n p : ℕ) → machines.IsSound (slice_index_or (replicate n new_desk) p new_desk).agent
fresh zero p = record { holds = tt }
fresh (suc n) zero = record { holds = tt }
fresh (suc n) (suc p) = fresh n p

pub agents_stay_sound : CallsKeepSound
unfolding received
agents_stay_sound = record {
  deliveries = λ told disks generation bytes node before now h t. let found = judging_step node.layer generation bytes in finds told bytes found.0 (with_layer found.1 (bare node disks)) before now t h;
  others = other_calls;
  new = λ units ready p. fresh 8 p;
}
