-- What the management writes as it goes on: into no buffer, where its write is to none; and behind a time-out it writes nothing. So the data that are sent are as they are to
-- be.
use Rattle.sbp_world.proofs.Words.Std.{arith, ◌≡◌, ◌∙◌, refl, sym, ap, subst, ◌≤◌, ◌==◌, nat_le, ℕ, suc, Bool, true, false, cond, List, [], ◌∷◌, ◌++◌, length, Option, Some, None, nat_tests, false≢true}
use Rattle.sbp_world.proofs.Words.Wire.{Asked, Body, block_read, block_write, quadlet_read, quadlet_write, Layer, asking_step, node_of, Note, Outgoing, Moment, LabelParts, Packet, judging_step, of_response, Sent}
use Rattle.sbp_world.proofs.Words.Target.{Disk, Table, ManagerStep, Operation, Purpose, ask_manager, decided_by, failed_by, manage, managed_in, managed_with, manager_asked, manager_body, manager_sent, with_manager, Scene, scene, request_step, sent_by, answer_in}
use Rattle.sbp_world.proofs.Words.Initiator.{Ask, Answer, window_at, Expired}
use Rattle.sbp_world.proofs.Words.Laws.{access_in_bytes, EachMoment, is_write_in}
use Rattle.sbp_world.proofs.Words.World.{handed_out, WorldState, AreOthers, DataSo, IsDataWrite, IsFor, told_all}
use Rattle.bus_memory.specs.declared.window.Window.TheVariants as windows
use Rattle.mgmt_agent.specs.Machine as management
use Rattle.orb_layout.specs.declared.ask.Ask.TheVariants as asks
use Rattle.sbp_target.specs.declared.purpose.Purpose.TheVariants as purposes
use Rattle.sbp_world.proofs.Agents.Management.Still.{hist}
use Rattle.sbp_world.proofs.Lists.StatusActs.{first}
use Rattle.sbp_world.proofs.Lists.StatusBytes.{written_at, wrote}
use Rattle.sbp_world.proofs.Lists.StatusReads.{IsOfBody, IsRead, asked_body, body_reads}
use Rattle.mgmt_agent.specs.declared.operation.Phase.{Phase}
use Rattle.mgmt_agent.specs.declared.operation.Phase.TheVariants as phases
use Rattle.sbp_world.proofs.Lists.DataHeard.{AreOwnFor, Due, hands, HaveSlots}
use Rattle.sbp_world.proofs.Lists.DataWalk.{Given}
use Rattle.sbp_world.proofs.Lists.RunOutcomes.{AreAsked}
use Rattle.sbp_world.proofs.Lists.StatusOffice.{Kept, decided_kept, failed_kept}
use Rattle.sbp_world.proofs.Lists.StatusTurn.{Behind, IsFirst}
use Rattle.sbp_world.proofs.Lists.Turns.{Ready}
use Rattle.sbp_world.proofs.Lists.StatusSteps.{none_wrote}
use Rattle.sbp_world.proofs.Lists.StatusCalls.{lose_packets as lose_none}

-- an address is in no buffer
abbrev pub IsDryAt : ℕ → Type 0
IsDryAt at = (slot : ℕ) → window_at (written_at at) ≡ Some (windows.Buffer slot) → ⊥

abbrev IsDry : Outgoing → Type 0
IsDry packet = (slot : ℕ) → IsDataWrite packet.bytes slot → ⊥

-- ---- what leaves: nothing, or one packet to the node of the operation
module _ (source : ℕ) (Ours : Type 0) where
  data Leaves : List Outgoing → Type 0 where
    leaves_none : (packets : List Outgoing) → packets ≡ [] → Leaves packets
    leaves_one : (packets : List Outgoing) (packet : Outgoing) → packets ≡ packet ∷ [] → packet.to ≡ source → (Ours → IsDry packet) → Leaves packets

  abbrev Fine : Body → Type 0
  Fine (quadlet_write at value) = ⊥
  Fine (block_write at payload) = (length payload ≤ 2048) × (Ours → IsDryAt at)
  Fine (quadlet_read at) = Unit {0}
  Fine (block_read at asked) = Unit {0}

  read_dry : (bytes : List ℕ) → IsRead bytes → (slot : ℕ) → IsDataWrite bytes slot → ⊥
  read_dry bytes r slot w = false≢true (sym r ∙ (ap is_write_in w.is ∙ w.writes))

  dry_of : (layer : Layer Purpose) (body : Body) → Fine body → (asked : Asked) → IsOfBody layer source body (Some asked) → Ours → IsDry (record { to = source; label = Some asked.label; bytes = asked.bytes })
  dry_of layer (quadlet_write at value) f asked of ours slot w = absurd f
  dry_of layer (block_write at payload) f asked of ours slot w =
      let x = wrote asked.label.number layer.node source at payload f.0 w.access (subst (λ bytes. access_in_bytes bytes ≡ Some w.access) of w.is) in
      f.1 ours slot (ap window_at (sym x.offset_is) ∙ w.goes)
  dry_of layer (quadlet_read at) f asked of ours slot w = read_dry asked.bytes (subst IsRead (sym of) (body_reads asked.label.number layer.node source (quadlet_read at) refl)) slot w
  dry_of layer (block_read at count) f asked of ours slot w = read_dry asked.bytes (subst IsRead (sym of) (body_reads asked.label.number layer.node source (block_read at count) refl)) slot w

  sent_leaves : (body : Body) → Fine body → (s : Scene) → s.outbox.packets ≡ [] → (r : Option Asked × Layer Purpose) → IsOfBody s.node.layer source body r.0 → Leaves (manager_sent s.node (sent_by r s.outbox source)).outbox.packets
  sent_leaves body f s none (None, layer) of = let t = scene (record s.node { layer = layer }) s.outbox in leaves_none _ (lose_none t ∙ none)
  sent_leaves body f s none (Some asked, layer) of =
      let packet : Outgoing = record { to = source; label = Some asked.label; bytes = asked.bytes } in
      leaves_one _ packet (ap (λ ps. ps ++ packet ∷ []) none) refl (dry_of s.node.layer body f asked of)

  abbrev IfFine : Option Body → Type 0
  IfFine None = Unit {0}
  IfFine (Some body) = Fine body

  asked_leaves : (body : Option Body) → IfFine body → (s : Scene) → s.outbox.packets ≡ [] → Leaves (manager_asked body source s).outbox.packets
  unfolding request_step
  asked_leaves None f s none = leaves_none _ none
  asked_leaves (Some body) f s none = sent_leaves body f s none (asking_step s.node.layer source body purposes.Management) (asked_body s.node.layer source body purposes.Management)

  pick_fine : (b : Bool) (x y : Option Body) → (b ≡ true → IfFine x) → (b ≡ false → IfFine y) → IfFine (cond b x y)
  pick_fine true x y f g = f refl
  pick_fine false x y f g = g refl

  ask_fine : (ask : Ask) (outgoing : List ℕ) → (Ours → (at len : ℕ) → ask ≡ asks.Write at len → IsDryAt at) → IfFine (manager_body ask outgoing)
  ask_fine asks.Nothing outgoing f = tt
  ask_fine (asks.Read at len) outgoing f = pick_fine (len == 4) (Some (quadlet_read at)) _ (λ e. tt) (λ e. pick_fine (nat_le len 2048) (Some (block_read at len)) None (λ g. tt) (λ g. tt))
  ask_fine (asks.Write at len) outgoing f =
      pick_fine (nat_le (length outgoing) 2048) (Some (block_write at outgoing)) None (λ e. ((let z : length outgoing ≤ 2048 = grind (arith, nat_tests) in z), λ ours. f ours at len refl)) (λ e. tt)

  ask_leaves : (ask : Ask) (s : Scene) → s.outbox.packets ≡ [] → (Ours → (at len : ℕ) → ask ≡ asks.Write at len → IsDryAt at) → Leaves (ask_manager source ask s).outbox.packets
  unfolding ask_manager
  ask_leaves ask s none f = asked_leaves (manager_body ask s.node.manager.outgoing) (ask_fine ask s.node.manager.outgoing f) s none

  managed_leaves : (s : Scene) → s.outbox.packets ≡ [] → (r : ManagerStep × (management.Machine × Table)) → (Ours → (at len : ℕ) → r.0.ask ≡ asks.Write at len → IsDryAt at) → Leaves (managed_with source s r).outbox.packets
  managed_leaves s none (step, (m, t)) f =
      let start = scene (with_manager s.node (m, t)) s.outbox in
      let x = decided_by step.decided step.effect source start in
      let k : Kept m (failed_by source step.failed x) = failed_kept m source step.failed x (decided_kept m step.decided step.effect source start (record { packets = none; manager = refl })) in
      ask_leaves step.ask (failed_by source step.failed x) k.packets f

abbrev IfLeaves : (Ours : ℕ → Type 0) → Option ℕ → List Outgoing → Type 0
IfLeaves Ours None packets = packets ≡ []
IfLeaves Ours (Some source) packets = Leaves source (Ours source) packets

-- ---- a world
-- what the management asks to write, behind an answer, for an operation of the node of an initiator
abbrev pub AreAsksDry : WorldState → ℕ → Answer → Type 0
AreAsksDry w i answer = (op : Operation) → w.target.manager.operation ≡ Some op → node_of w.generations 0 op.source ≡ Some (suc i) → (at len : ℕ) → (management.reply_step w.target.manager w.target.logins w.target.keys answer).0.ask ≡ asks.Write at len → IsDryAt at

-- a time-out writes nothing
late_by : (op : Operation) (phase : Phase) (w : WorldState) (at len : ℕ) → (management.reply_in phase w.target.manager op w.target.logins w.target.keys Expired).0.ask ≡ asks.Write at len → ⊥
late_by op phases.Orb w at len e = none_wrote at len e
late_by op (phases.HighEui orb) w at len e = none_wrote at len e
late_by op (phases.LowEui orb high) w at len e = none_wrote at len e
late_by op (phases.Response fifo) w at len e = none_wrote at len e
late_by op phases.Status w at len e = none_wrote at len e

pub late_dry : (w : WorldState) (i : ℕ) → AreAsksDry w i Expired
unfolding management.reply_step
late_dry w i op is ours at len e slot goes =
    late_by op op.phase w at len (subst (λ (o : Option Operation). (management.reply_to o w.target.manager w.target.logins w.target.keys Expired).0.ask ≡ asks.Write at len) is e)

module _ (disks : List Disk) (wild : ℕ → Bool) (i : ℕ) (own : wild i ≡ false) (past : List Moment) (w : WorldState) (r : Ready wild past w) (asked : AreAsked wild (hist past w) w) (owned : AreOwnFor w i) (each : EachMoment (DataSo disks i) (hist past w)) (slots : HaveSlots (hist past w) i) where
  abbrev Ours : ℕ → Type 0
  Ours source = node_of w.generations 0 source ≡ Some (suc i)

  module _ (layer : Layer Purpose) (answer : Answer) (dry : AreAsksDry w i answer) where
    abbrev here : Scene
    here = first w r.good layer

    by_operation : (o : Option Operation) → w.target.manager.operation ≡ o → IfLeaves Ours (management.source_in o) (managed_in (management.source_in o) answer here).outbox.packets
    by_operation None e = refl
    by_operation (Some op) e = managed_leaves op.source (Ours op.source) here refl (management.reply_step w.target.manager w.target.logins w.target.keys answer) (λ ours at len x. dry op e ours at len x)

    manage_leaves : IfLeaves Ours (management.source_in w.target.manager.operation) (manage answer here).outbox.packets
    unfolding manage
    manage_leaves = by_operation w.target.manager.operation refl

  due_leaving : (note : Note) (start : List Moment) (source : ℕ) (packets : List Outgoing) → Leaves source (Ours source) packets → Due disks wild i own past w r asked owned each slots note start packets
  due_leaving note start source _ (leaves_none packets e) = subst (Due disks wild i own past w r asked owned each slots note start) (sym e) tt
  due_leaving note start source _ (leaves_one packets packet e to dry) =
      subst (Due disks wild i own past w r asked owned each slots note start) (sym e) ((λ there slot x. absurd (dry (ap (λ a. node_of w.generations 0 a) (sym to) ∙ there) slot x)), tt)

  due_of : (note : Note) (start : List Moment) (source : Option ℕ) (packets : List Outgoing) → IfLeaves Ours source packets → Due disks wild i own past w r asked owned each slots note start packets
  due_of note start None packets e = subst (Due disks wild i own past w r asked owned each slots note start) (sym e) tt
  due_of note start (Some source) packets l = due_leaving note start source packets l

  managed_data : (layer : Layer Purpose) (answer : Answer) → AreAsksDry w i answer → (s : Scene) (note : Note) → IsFirst note → (u : WorldState) → Behind note w u → AreOthers s.outbox.sides → s ≡ manage answer (first w r.good layer) → EachMoment (DataSo disks i) (hist past (handed_out 0 0 s.outbox u))
  managed_data layer answer dry s note f u b others e =
      hands disks wild i own past w r asked owned each slots note f u b s.outbox others
      (due_of note (hist past (told_all 0 s.outbox.sides u)) (management.source_in w.target.manager.operation) s.outbox.packets
      (subst (λ (y : Scene). IfLeaves Ours (management.source_in w.target.manager.operation) y.outbox.packets) (sym e) (manage_leaves layer answer dry)))

  -- so what is known of the management follows from where it asks to write
  pub given_data : ((sent : Sent) → IsFor w sent → (p : Packet) (label : LabelParts) → (judging_step w.target.layer sent.generation sent.bytes).0 ≡ of_response p label (Some purposes.Management) → AreAsksDry w i (answer_in p)) → Given disks wild i own past w r
  given_data dry = record {
    owned = owned;
    managed = λ sent is_for p label found s note f u b others e. managed_data (judging_step w.target.layer sent.generation sent.bytes).1 (answer_in p) (dry sent is_for p label found) s note f u b others e;
    lapsed = λ layer s note f u b others e. managed_data layer Expired (late_dry w i) s note f u b others e;
  }
