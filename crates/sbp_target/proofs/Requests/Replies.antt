-- A reply to an agent is counted: what its step makes, and what follows it.
use Rattle.std.proofs.Common.{arith, ◌≡◌, refl, sym, ap, ◌∙◌, ℕ, ◌+◌, ◌<◌, ◌≤◌, ◌==◌, ◌||◌, is_some, nat_lt, Bool, true, false, cond, List, length, Option, Some, None}
use Rattle.std.proofs.lemmas.Bool.Decides.{nat_tests}
use Rattle.async_packet.specs.Labels.{LabelParts}
use Rattle.async_packet.specs.Packet.{Packet, header_in, lock_response, read_block_response, read_quadlet_response, write_response}
use Rattle.login_table.specs.declared.login.Login.{Login}
use Rattle.orb_layout.specs.declared.pointer.OrbPointer.{OrbPointer}
use Rattle.orb_layout.specs.declared.pointer.OrbPointer.TheVariants.{Null, At}
use Rattle.orb_layout.specs.Replies.{Answer, Refused}
use Rattle.rbc_disk.specs.Disk.{Disk, disk_at}
use Rattle.rbc_disk.specs.Runs.{Told}
use Rattle.rbc_disk.specs.Units.{PlainDisk}
use Rattle.command_agent.specs.declared.step.AgentStep.{AgentStep}
use Rattle.command_agent.specs.declared.step.Which.{Which}
use Rattle.command_agent.specs.declared.step.Which.TheVariants.{Main, Ahead}
use Rattle.command_agent.specs.Machine as machines
use Rattle.command_agent.specs.Machine.{Machine}
use Rattle.command_agent.specs.Steps.{reply_step}
use Rattle.command_agent.specs.Counting.{left_of, made, mark}
use Rattle.command_agent.specs.Making.{Brings, MayTellSo, followed, is_at_work, share, was_sent}
use Rattle.command_agent.specs.Working.{GoesOn, is_next}
use Rattle.command_agent.proofs.Making.Replies.{aheads_make_nothing, replies_make_no_more, turns_make_their_share}
use Rattle.command_agent.proofs.Making.Working.{aheads_begin_none, replies_go_on}
use Rattle.sbp_journal.specs.Outgoings.{empty_outbox}
use Rattle.sbp_target.specs.declared.desk.Desk.{Desk}
use Rattle.sbp_target.specs.Agents.{follow}
use Rattle.sbp_target.specs.Desks.{new_desk, taken, which_in}
use Rattle.sbp_target.specs.Nodes.{NodeState, Scene, scene, desk_at}
use Rattle.sbp_target.specs.Receiving.{answer_in}
use Rattle.sbp_target.specs.Replies.{TellsBy, advance, advanced_with, agent_step, announced_by, came, changed_by, follow_all, plain_at, replied, replied_by, replied_to, replied_with, scene_of, served_login, stage}
use Rattle.sbp_target.specs.RequestsLeft.{CountsRequests, bare, works}
use Rattle.sbp_target.proofs.Histories.Seats.{split}
use Rattle.sbp_target.proofs.Requests.Courses.{Along, follows_along}
use Rattle.sbp_target.proofs.Requests.Discs.{discs_leave_agents}
use Rattle.sbp_target.proofs.Requests.Easing.{no_desk, none_counts, same_scene}
use Rattle.sbp_target.proofs.Requests.Frames.{Frame, framed_left, framed_then, same_desks, seated_agent, seats}
use Rattle.sbp_target.proofs.Requests.Turning.{Works, follows_few, has_orb, share_if, works_counts}

-- ---- the agent's step
-- It makes what was left, with the share of the ORB whose turn came.
pub record Turns (tables chunks : ℕ) (m : Machine) (s : AgentStep × Machine) : Type 0 where
  pub turned : Bool
  pub is_new : turned ≡ true → is_at_work m.phase ≡ false
  pub few : made tables chunks s + mark s.1 ≤ left_of tables chunks m + mark m + share_if turned tables chunks
  pub on : GoesOn (is_at_work m.phase || turned) s

share_of : (tables chunks : ℕ) (next : OrbPointer) → share tables chunks next ≡ share_if (is_next next) tables chunks
share_of tables chunks Null = refl
share_of tables chunks (At next) = refl

working : (work more : Bool) (s : AgentStep × Machine) → GoesOn (work || more) s → GoesOn (work || false) s
working true more s g = g
working false more s g = record { over = g.over; goes = λ e. cc e }

module _ (tables chunks : ℕ) (m : Machine) (place : ℕ) (plain : PlainDisk) (told : Option Told) (answer : Answer) where
  main_turns : (work : Bool) → is_at_work m.phase ≡ work → machines.IsSound m → Brings tables chunks m answer → MayTellSo (reply_step m place plain told Main answer) place plain → Turns tables chunks m (reply_step m place plain told Main answer)
  main_turns true e sound brings may =
      let a = replies_make_no_more tables chunks m place plain told answer sound e brings may in
      let few = a.requests in
      let marked = a.marked in
      record {
        turned = false;
        is_new = λ f. cc f;
        few = omega (arith, few, marked);
        on = working (is_at_work m.phase) (is_next (followed m.phase m answer)) (reply_step m place plain told Main answer) (replies_go_on m place plain told answer);
      }
  main_turns false e sound brings may =
      let few = turns_make_their_share tables chunks m place plain told answer e brings may in
      let same = share_of tables chunks (followed m.phase m answer) in
      record {
        turned = is_next (followed m.phase m answer);
        is_new = λ f. e;
        few = omega (arith, few, same);
        on = replies_go_on m place plain told answer;
      }

  ahead_turns : was_sent answer ≡ true → Turns tables chunks m (reply_step m place plain told Ahead answer)
  ahead_turns sent =
      let a = aheads_make_nothing tables chunks m place plain told answer sent in
      let few = a.requests in
      let marked = a.marked in
      let on = (aheads_begin_none m place plain told answer).on in
      record {
        turned = false;
        is_new = λ f. cc f;
        few = omega (arith, few, marked);
        on = record { over = on.over; goes = λ f. on.goes (worked (is_at_work m.phase) f) };
      }
    where
      worked : (b : Bool) → (b || false) ≡ true → b ≡ true
      worked true e = refl
      worked false e = cc e

-- ---- an answer that came was sent for
answered_so : (b : Bool) (rcode : ℕ) (answer : Answer) → was_sent answer ≡ true → was_sent (cond b answer (Refused rcode)) ≡ true
answered_so true rcode answer e = e
answered_so false rcode answer e = refl

pub came_back : (p : Packet) → was_sent (answer_in p) ≡ true
came_back (read_quadlet_response header rcode value) = answered_so (rcode == 0) rcode _ refl
came_back (read_block_response header rcode payload) = answered_so (rcode == 0) rcode _ refl
came_back (write_response header rcode) = answered_so (rcode == 0) rcode _ refl
came_back (lock_response header rcode extended payload) = answered_so (rcode == 0) rcode _ refl
came_back request = refl

-- ---- the call
module _ (tables chunks : ℕ → ℕ) (node : NodeState) (size : length node.desks ≡ 8) (disks : List Disk) (q : ℕ) (small : q < 8) (login : Login) where
  abbrev agent : Machine
  agent = (desk_at node q).agent

  -- behind the step of the agent the unit and its medium may be altered, and the agent is
  pub record Steps (step : AgentStep × Machine) (s : NodeState) : Type 0 where
    pub frame : Frame q node s
    pub now : (desk_at s q).agent ≡ step.1

  replied_steps : (which : Which) (r : AgentStep × Machine) → Steps r (replied_with q login.unit which r (stage node disks)).1.node
  replied_steps Main (step, m) =
      let d : Desk = record (taken Main (desk_at node q)) { agent = m } in
      let s = (replied_with q login.unit Main (step, m) (stage node disks)).1.node in
      let inside : q < length node.desks = omega (arith, small, size) in
      record { frame = seats q node s d inside refl refl refl; now = seated_agent q node s d inside refl }
  replied_steps Ahead (step, m) =
      let d : Desk = record (taken Ahead (desk_at node q)) { agent = m } in
      let s = (replied_with q login.unit Ahead (step, m) (stage node disks)).1.node in
      let inside : q < length node.desks = omega (arith, small, size) in
      record { frame = seats q node s d inside refl refl refl; now = seated_agent q node s d inside refl }

  loaded_steps : (b : Bool) (r : AgentStep × Machine) (s : NodeState) → Steps r s → Steps r (changed_by b login.unit q s)
  loaded_steps false r s h = h
  loaded_steps true r s h =
      let t = changed_by true login.unit q s in
      let same = same_desks q s t refl refl in
      record { frame = framed_then q node s t h.frame same.frame; now = same.agent ∙ h.now }

  -- what follows
  module _ (r : AgentStep × Machine) (t : Turns (tables q) (chunks q) agent r) (s : NodeState) (h : Steps r s) where
    abbrev x : Scene
    x = scene s empty_outbox

    sized : length s.desks ≡ 8
    sized = h.frame.size ∙ size

    begun : Along q (has_orb node q t.turned) (is_some r.0.ended) x x
    begun =
        let work : works s q ≡ is_at_work r.1.phase = ap (λ (m : Machine). is_at_work m.phase) h.now in
        record {
          frame = (same_desks q s s refl refl).frame;
          others = λ k n. refl;
          over = λ e. work ∙ t.on.over e;
          goes = λ e. ap (λ b. b || is_some r.0.ended) work ∙ t.on.goes e;
        }

    follow_works : Works tables chunks q t.turned 0 node x (follow q login r.0 x)
    follow_works =
        let along = follows_along q (has_orb node q t.turned) x (omega (arith, small, sized)) login r.0 x begun in
        let number = framed_left tables chunks q node s small h.frame in
        let mine = ap (λ (m : Machine). left_of (tables q) (chunks q) m + mark m) h.now in
        let few = t.few in
        let follows = follows_few tables chunks q (has_orb node q t.turned) x login r.0 small sized along in
        record { small = small; frame = h.frame; unended = λ k. refl; is_new = t.is_new; along = along; few = omega (arith, number, mine, few, follows) }

    pub follows_count : (b : Bool) → CountsRequests tables chunks 0 node (announced_by b login.unit q (follow q login r.0 x))
    follows_count b =
        let y = follow q login r.0 x in
        let w = follow_works in
        let along = w.along.frame.size in
        works_counts tables chunks q t.turned 0 node x y (announced_by b login.unit q y) w (discs_leave_agents tables chunks y b login.unit q (along ∙ sized))

  advance_counts : (which : Which) (r : AgentStep × Machine) → Turns (tables q) (chunks q) agent r → CountsRequests tables chunks 0 node (scene_of (advanced_with q login (replied_with q login.unit which r (stage node disks)) (bare node disks)))
  unfolding follow_all
  advance_counts which (step, m) t =
      let st = (replied_with q login.unit which (step, m) (stage node disks)).1 in
      let loaded = came (disk_at disks login.unit) (disk_at st.disks login.unit) in
      follows_count (step, m) t (changed_by loaded login.unit q st.node) (loaded_steps loaded (step, m) st.node (replied_steps which (step, m))) loaded

  pub advances_count : (told : Option Told) (which : Which) (answer : Answer) → Turns (tables q) (chunks q) agent (agent_step told q login.unit which answer (stage node disks)) → CountsRequests tables chunks 0 node (scene_of (advance told q login which answer (bare node disks)))
  unfolding advance replied
  advances_count told which answer t = advance_counts which (agent_step told q login.unit which answer (stage node disks)) t

-- ---- a transaction that is for the agent of a place
module _ (tables chunks : ℕ → ℕ) (node : NodeState) (size : length node.desks ≡ 8) (disks : List Disk) (sound : (k : ℕ) → k < 8 → machines.IsSound (desk_at node k).agent) (told : Option Told) (p : Packet) (label : LabelParts) (place : ℕ) (before now : List ℕ) where
  idle : CountsRequests tables chunks 0 node (scene_of (bare node disks))
  idle = let s = scene node empty_outbox in none_counts tables chunks 0 s s (λ k. refl) refl (same_scene tables chunks s size)

  seat_small : (which : Which) → which_in (desk_at node place) (header_in p).source label ≡ Some which → place < 8
  seat_small which e = split (nat_lt place 8) (place < 8) (λ f. grind (arith, nat_tests, f)) (λ f. absurd (nothing (sym (ap (λ (d : Desk). which_in d (header_in p).source label) (no_desk node place size f)) ∙ e)))
    where
      nothing : which_in new_desk (header_in p).source label ≡ Some which → ⊥
      nothing f = let never : None ≡ Some which = f in cc never

  abbrev source : ℕ
  source = (header_in p).source

  -- what a run told; and what a main transaction brings
  abbrev TellsSo : Option Login → Option Which → Type 0
  TellsSo login which = TellsBy told place (answer_in p) login which (stage node disks) before now

  abbrev BringsSo : Option Login → Option Which → Type 0
  BringsSo login which = (own : Login) → login ≡ Some own → which ≡ Some Main → Brings (tables place) (chunks place) (desk_at node place).agent (answer_in p)

  turns_by : (login : Login) (which : Which) → place < 8 → TellsSo (Some login) (Some which) → BringsSo (Some login) (Some which)
      → Turns (tables place) (chunks place) (desk_at node place).agent (agent_step told place login.unit which (answer_in p) (stage node disks))
  turns_by login Main small tells brings =
      let m = (desk_at node place).agent in
      main_turns (tables place) (chunks place) m place (plain_at (stage node disks) login.unit) told (answer_in p) (is_at_work m.phase) refl (sound place small) (brings login refl refl) tells.may
  turns_by login Ahead small tells brings = ahead_turns (tables place) (chunks place) (desk_at node place).agent place (plain_at (stage node disks) login.unit) told (answer_in p) (came_back p)

  replies_by : (login : Option Login) (which : Option Which) → which_in (desk_at node place) source label ≡ which → TellsSo login which → BringsSo login which
      → CountsRequests tables chunks 0 node (scene_of (replied_by told place (answer_in p) login which (bare node disks)))
  replies_by None which e tells brings = idle
  replies_by (Some login) None e tells brings = idle
  replies_by (Some login) (Some which) e tells brings =
      let small = seat_small which e in advances_count tables chunks node size disks place small login told which (answer_in p) (turns_by login which small tells brings)

  pub replies_count : TellsSo (served_login node place) (which_in (desk_at node place) source label) → BringsSo (served_login node place) (which_in (desk_at node place) source label)
      → CountsRequests tables chunks 0 node (scene_of (replied_to told place source label (answer_in p) (bare node disks)))
  unfolding replied_to
  replies_count tells brings = replies_by (served_login node place) (which_in (desk_at node place) source label) refl tells brings
