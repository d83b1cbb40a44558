-- What the agent of a place writes in a call of the target, by a reply, a time-out and a request for a read: what its step asks for, or to FIFOs of logins; so do the
-- unsolicited status blocks for other logins.
use Rattle.sbp_world.proofs.Words.Std.{arith, ◌≡◌, ◌∙◌, refl, sym, ap, subst, ◌<◌, ℕ, Bool, true, false, cond, List, [], length, Option, Some, None, length-set}
use Rattle.sbp_world.proofs.Words.Wire.{Asked, block_write, Layer, asking_step, empty_outbox}
use Rattle.sbp_world.proofs.Words.Target.{AgentStep, Which, Machine, new_machine, lost_step, quiet, reply_step, Login, Table, is_live, place_at, block, Disk, disk_at, Told, Desk, Purpose, follow, taken, NodeState, Scene, desk_at, login_at, scene, with_desk, expired_by, Stage, advance, announced_by, came, changed_by, follow_all, plain_in, replied, stage, whole, request_step, sent_by, with_side, unsolicited_by, Announced, pushes, stay, withholds}
use Rattle.sbp_world.proofs.Words.Initiator.{Answer}
use Rattle.sbp_world.proofs.Words.Laws.{access_in_bytes}
use Rattle.sbp_world.proofs.Words.World.{WorldState}
use Rattle.orb_layout.specs.declared.ask.Ask.TheVariants as asks
use Rattle.orb_layout.specs.declared.ask.FailCause.TheVariants as causes
use Rattle.sbp_journal.specs.declared.side.Side.TheVariants as sides
use Rattle.sbp_target.specs.declared.purpose.Purpose.TheVariants as purposes
use Rattle.sbp_target.proofs.Histories.Calling.{Good}
use Rattle.sbp_world.proofs.Agents.AskedLate.{follow_logins}
use Rattle.sbp_world.proofs.Lists.DataFollows.{AllSo, IsSo, follows_so, more_so, to_fifo}
use Rattle.sbp_world.proofs.Lists.SameAgents.{AreSame, are_self, set_here}
use Rattle.sbp_world.proofs.Lists.StatusActs.{first, there}
use Rattle.sbp_world.proofs.Lists.StatusBytes.{wrote}
use Rattle.sbp_world.proofs.Lists.StatusPackets.{unsolicited_small}
use Rattle.sbp_world.proofs.Lists.StatusReads.{IsOfBody, asked_body}
use Rattle.sbp_world.proofs.Lists.StatusSteps.{lost_leaves, replied_leaves}
use Rattle.sbp_target.proofs.Histories.Moved.{announced_moves}
use Rattle.sbp_target.proofs.Histories.Views.{heard_live, kept}

-- these are the FIFOs of the live logins of a table, each at its node
abbrev pub AreFifos : (ℕ → ℕ → Type 0) → Table → Type 0
AreFifos Fifo table = (place : ℕ) (other : Login) → place_at table.places place ≡ Some other → is_live other ≡ true → Fifo other.node other.fifo

-- ---- other logins hear of a disc
module _ (Fifo : ℕ → ℕ → Type 0) (step : AgentStep) (m : Machine) (node : ℕ) where
  record Written (s : Scene) : Type 0 where
    fifos : AreFifos Fifo s.node.logins
    so : AllSo Fifo step m node s.outbox.packets

  heard : (s : Scene) (place : ℕ) (x : Bool) → Written s → Written (scene s.node (with_side s.outbox (cond x (sides.Unsolicited place) (sides.Unsent place))))
  heard s place x d = record { fifos = d.fifos; so = d.so }

  other_so : (layer : Layer Purpose) (other : Login) (asked : Asked) → Fifo other.node other.fifo → IsOfBody layer other.node (block_write other.fifo block) (Some asked) → IsSo Fifo quiet new_machine 0 (record { to = other.node; label = Some asked.label; bytes = asked.bytes })
  other_so layer other asked f of access e w =
      let x = wrote asked.label.number layer.node other.node other.fifo block (let n = unsolicited_small in omega (arith, n)) access (subst (λ bytes. access_in_bytes bytes ≡ Some access) of e) in
      to_fifo other.fifo f x.offset_is

  announced : (place : ℕ) (s : Scene) (other : Login) → Fifo other.node other.fifo → (r : Option Asked × Layer Purpose) → IsOfBody s.node.layer other.node (block_write other.fifo block) r.0 → Written s → Written (unsolicited_by place other.node s.node (sent_by r s.outbox other.node))
  announced place s other f (None, layer) of d = record { fifos = d.fifos; so = d.so }
  announced place s other f (Some asked, layer) of d = record {
    fifos = d.fifos;
    so = more_so Fifo step m node s.outbox.packets (record { to = other.node; label = Some asked.label; bytes = asked.bytes }) d.so (other_so s.node.layer other asked f of);
  }

  tells : (unit from : ℕ) (x y : Scene) → Announced unit from x y → Written x → Written y
  unfolding request_step
  tells unit from _ _ (pushes place other s e) d =
      let body = block_write other.fifo block in
      announced place s other (d.fifos place other e.is (heard_live unit from place other s e)) (asking_step s.node.layer other.node body purposes.Unsolicited) (asked_body s.node.layer other.node body purposes.Unsolicited) d
  tells unit from _ _ (withholds place other s e) d = heard s place false d

  announces_by : (q : ℕ) (x : Bool) (unit : ℕ) (s : Scene) → Written s → Written (announced_by x unit q s)
  announces_by q x unit s d = kept (Announced unit q) Written (tells unit q) s _ (announced_moves (Announced unit q) unit q (λ y z m. m) s x s (stay s)) d

-- ---- a call of the target
module _ (w : WorldState) (g : Good w.target) (layer : Layer Purpose) (Fifo : ℕ → ℕ → Type 0) (fifos : AreFifos Fifo w.target.logins) where
  abbrev M : ℕ → Machine
  M p = (desk_at w.target p).agent

  abbrev node_there : NodeState
  node_there = there w g layer

  module _ (q : ℕ) (b : q < 8) (login : Login) (is : login_at w.target q ≡ Some login) (live : is_live login ≡ true) where
    own : Fifo login.node login.fifo
    own = fifos q login is live

    is_set : (d : Desk) → (desk_at (with_desk node_there q d) q).agent ≡ d.agent
    is_set d = ap (λ (x : Desk). x.agent) (set_here node_there q d (let e = g.mid.size in omega (arith, e)))

    record Changed (one now : NodeState) : Type 0 where
      same : AreSame one now
      logins : now.logins ≡ one.logins

    changed : (x : Bool) (unit place : ℕ) (one : NodeState) → Changed one (changed_by x unit place one)
    changed true unit place one = record { same = record { desks = refl; agents = λ p. refl }; logins = refl }
    changed false unit place one = record { same = are_self one; logins = refl }

    behind : (step : AgentStep) (m : Machine) (s : Scene) → length s.node.desks ≡ 8 → (desk_at s.node q).agent ≡ m → s.node.logins ≡ w.target.logins → s.outbox.packets ≡ [] → ((offset size : ℕ) → step.ahead ≡ asks.Write offset size → ⊥) → Written Fifo step m login.node (follow q login step s)
    behind step m s desks agent logins none tame = record {
      fifos = subst (AreFifos Fifo) (sym (follow_logins q login step s ∙ logins)) fifos;
      so = follows_so q b login Fifo own step m s desks agent tame none;
    }

    -- ---- a reply
    pub reply_so : (which : Which) (run : Option Told) (answer : Answer) (disks : List Disk) → (let step = reply_step (M q) q (plain_in node_there.units disks login.unit) run which answer in let x = advance run q login which answer (whole (first w g layer) disks) in AllSo Fifo step.0 step.1 login.node x.outbox.packets)
    unfolding advance replied follow_all
    reply_so which run answer disks =
        let plain = plain_in node_there.units disks login.unit in
        let step : AgentStep × Machine = reply_step (M q) q plain run which answer in
        let d : Desk = record (taken which (desk_at w.target q)) { agent = step.1 } in
        let st : Stage = (replied run q login.unit which answer (stage node_there disks)).1 in
        let loaded = came (disk_at disks login.unit) (disk_at st.disks login.unit) in
        let c = changed loaded login.unit q st.node in
        let s = scene (changed_by loaded login.unit q st.node) empty_outbox in
        (announces_by Fifo step.0 step.1 login.node q loaded login.unit (follow q login step.0 s)
        (behind step.0 step.1 s (c.same.desks ∙ (length-set node_there.desks q d ∙ g.mid.size)) (c.same.agents q ∙ is_set d) c.logins refl
        (replied_leaves (M q) q plain run which answer).tame)).so

    -- ---- a time-out
    pub late_so : (which : Which) → (let loss = lost_step (M q) which causes.Timeout in AllSo Fifo loss.0 loss.1 login.node (expired_by q (Some login) (Some which) (first w g layer)).outbox.packets)
    late_so which =
        let loss = lost_step (M q) which causes.Timeout in
        let d : Desk = record (taken which (desk_at w.target q)) { agent = loss.1 } in
        let s = scene (with_desk node_there q d) empty_outbox in
        (behind loss.0 loss.1 s (length-set node_there.desks q d ∙ g.mid.size) (is_set d) refl refl (lost_leaves (M q) which causes.Timeout).tame).so
