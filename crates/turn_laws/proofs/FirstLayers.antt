-- The layer behind the first request of an agent's step: what the step gives up is nobody's, and then the request is asked, where there is one. Its free labels are those of the history but for that of the request, and where one is free a read finds a label.
use Rattle.std.proofs.Common.{arith, ◌≡◌, ◌∙◌, refl, sym, ap, subst, ℕ, ◌+◌, ◌<◌, ◌≤◌, ◌^◌, is_some, Bool, true, false, cond, [], Option, Some, None}
use Rattle.std.proofs.lemmas.Option.{same_Some}
use Rattle.bus_transactions.specs.Bare.{bare, bare_after, same}
use Rattle.bus_transactions.specs.Wire.{Node}
use Rattle.bus_transactions.proofs.Bares.{takes_steps}
use Rattle.bus_transactions.proofs.FitSteps.{asks_same, disowns_same}
use Rattle.bus_transactions.proofs.Fits.{request_fits}
use Rattle.bus_transactions.proofs.Steps.{AskedAs, asks}
use Rattle.command_agent.specs.Machine.{Machine}
use Rattle.command_agent.specs.declared.step.AgentStep.{AgentStep}
use Rattle.label_table.specs.Bodies.{Body, block_read}
use Rattle.label_table.specs.Layer.{Layer, asking_step, free_labels, unlabelled}
use Rattle.label_table.specs.Requests.{with_label}
use Rattle.label_table.specs.declared.judgement.Asked.{Asked}
use Rattle.login_table.specs.declared.login.Login.{Login}
use Rattle.orb_layout.specs.declared.ask.FailCause.{FailCause}
use Rattle.sbp_journal.specs.Wire.{Terms}
use Rattle.sbp_laws.specs.Packets as packets
use Rattle.sbp_laws.specs.Targets.{new_agent}
use Rattle.sbp_target.specs.declared.purpose.Purpose.{Purpose}
use Rattle.sbp_target.specs.declared.purpose.Purpose.TheVariants as purposes
use Rattle.sbp_target.specs.declared.purpose.Sent.{Sent}
use Rattle.sbp_target.specs.Agents.{agent_body, ask_main, disowned, dropped_by, main_asked, main_sent, noted, promoted_by, without_ahead}
use Rattle.sbp_target.specs.Nodes.{NodeState, Scene, desk_at}
use Rattle.sbp_target.specs.Sending.{request_step, sent_by}
use Rattle.sbp_world.proofs.Agents.Walk.{Holds, notes_hold}
use Rattle.turn_laws.proofs.FoundLabels.{Spells}
use Rattle.sbp_world.proofs.Agents.FreeLabels.{KnowsLabels, asked_frees, dropped_frees, free_reads}
use Rattle.sbp_world.proofs.Agents.OtherLabels.{Roomy, room_asked, room_disowned}
use Rattle.turn_laws.proofs.StepLabels.{disowned_asks, finds_in}

-- what a step gives up
abbrev given_up : Option FailCause → Option Sent → Option Sent
given_up None ahead = None
given_up (Some cause) ahead = ahead

abbrev pub asked_layer : Option Body → ℕ → Login → Layer Purpose → Layer Purpose
asked_layer None q login layer = layer
asked_layer (Some body) q login layer = (asking_step layer login.node body (purposes.Agent q)).1

pub record IsBehind (q : ℕ) (login : Login) (body : Option Body) (layer behind : Layer Purpose) : Type 0 where
  pub left : Option Sent
  pub is : behind ≡ asked_layer body q login (disowned left layer)

-- ---- of a step
dropped_layer : (dead : Option FailCause) (q : ℕ) (node : NodeState) → (dropped_by dead q node).layer ≡ disowned (given_up dead (desk_at node q).ahead) node.layer
unfolding without_ahead
dropped_layer None q node = refl
dropped_layer (Some cause) q node = refl

promoted_layer : (b : Bool) (q : ℕ) (node : NodeState) → (promoted_by b q node).layer ≡ node.layer
promoted_layer true q node = refl
promoted_layer false q node = refl

noted_layer : (q : ℕ) (step : AgentStep) (s : Scene) → (noted q step s).node.layer ≡ disowned (given_up step.dead (desk_at s.node q).ahead) s.node.layer
unfolding noted
noted_layer q step s = promoted_layer step.promoted q (dropped_by step.dead q s.node) ∙ dropped_layer step.dead q s.node

sent_layer : (q : ℕ) (login : Login) (s : Scene) (r : Option Asked × Layer Purpose) → (main_sent q login.node s.node (sent_by r s.outbox login.node)).1.node.layer ≡ r.1
sent_layer q login s (Some asked, layer) = refl
sent_layer q login s (None, layer) = refl

main_layer : (body : Option Body) (q : ℕ) (login : Login) (s : Scene) → (main_asked body q login s).1.node.layer ≡ asked_layer body q login s.node.layer
unfolding request_step
main_layer None q login s = refl
main_layer (Some body) q login s = sent_layer q login s (asking_step s.node.layer login.node body (purposes.Agent q))

pub first_layer : (q : ℕ) (b : q < 8) (before : NodeState) (m : Machine) (login : Login) (step : AgentStep) (s : Scene) → Holds q before m s.node
    → IsBehind q login (agent_body step.ask (is_some step.ended) login.fifo m.outgoing) s.node.layer (ask_main q login step (noted q step s)).1.node.layer
unfolding ask_main
first_layer q b before m login step s h =
    let t = noted q step s in
    record {
      left = given_up step.dead (desk_at s.node q).ahead;
      is =
          main_layer (agent_body step.ask (is_some step.ended) login.fifo (desk_at t.node q).agent.outgoing) q login t
          ∙ (ap (λ (n : Machine). asked_layer (agent_body step.ask (is_some step.ended) login.fifo n.outgoing) q login t.node.layer) (notes_hold [] q b before new_agent m step s h).agent
          ∙ ap (asked_layer (agent_body step.ask (is_some step.ended) login.fifo m.outgoing) q login) (noted_layer q step s));
    }

-- the label that it takes
abbrev pub taken_at : ℕ → Layer Purpose → Login → Option Body → ℕ
taken_at q layer login None = 0
taken_at q layer login (Some body) = cond (finds_in q layer login body) 1 0

module _ (t : Terms) (q peer : ℕ) (login : Login) (layer : Layer Purpose) (k : KnowsLabels t 0 peer login.node layer) where
  abbrev Rooms : Layer Purpose → Type 0
  Rooms l = Roomy k.row (bare l)

  abbrev Frees : Layer Purpose → ℕ
  Frees l = free_labels l login.node

  record Left (l : Layer Purpose) : Type 0 where
    rooms : Rooms l
    frees : Frees l ≡ Frees layer
    node : l.node ≡ layer.node
    finds : (body : Body) → finds_in q l login body ≡ finds_in q layer login body

  left_by : (sent : Option Sent) → Left (disowned sent layer)
  left_by None = record { rooms = k.roomy; frees = refl; node = refl; finds = λ body. refl }
  left_by (Some sent) = record {
    rooms = room_disowned k.row layer sent.peer sent.label k.roomy;
    frees = subst (λ n. free_labels (disowned (Some sent) layer) n ≡ free_labels layer n) k.id_is (dropped_frees k.row peer k.few layer k.roomy sent.peer sent.label);
    node = (disowns_same layer sent.peer sent.label).node;
    finds = λ body. ap (λ o. is_some o) (disowned_asks layer sent.peer sent.label login.node body (purposes.Agent q));
  }

  record Behind (body : Option Body) (l : Layer Purpose) : Type 0 where
    rooms : Rooms l
    frees : Frees l + taken_at q layer login body ≡ Frees layer
    node : l.node ≡ layer.node

  asked_by : (body : Option Body) (l : Layer Purpose) → Left l → Behind body (asked_layer body q login l)
  asked_by None l a = record { rooms = a.rooms; frees = (let z : Frees l + 0 ≡ Frees l = omega arith in z) ∙ a.frees; node = a.node }
  asked_by (Some body) l a = record {
    rooms = subst (λ n. Rooms (asking_step l n body (purposes.Agent q)).1) k.id_is (room_asked k.row peer k.few l body (purposes.Agent q) a.rooms);
    frees =
        ap (λ b. Frees (asking_step l login.node body (purposes.Agent q)).1 + cond b 1 0) (sym (a.finds body))
        ∙ (subst (λ n. free_labels (asking_step l n body (purposes.Agent q)).1 n + cond (is_some (asking_step l n body (purposes.Agent q)).0) 1 0 ≡ free_labels l n) k.id_is (asked_frees k.row peer k.few l a.rooms body (purposes.Agent q)) ∙ a.frees);
    node = (asks_same l login.node body (purposes.Agent q)).node ∙ a.node;
  }

  module _ (body : Option Body) (behind : Layer Purpose) (b : IsBehind q login body layer behind) where
    its : Behind body behind
    its = subst (Behind body) (sym b.is) (asked_by body (disowned b.left layer) (left_by b.left))

    pub behind_frees : Frees behind + taken_at q layer login body ≡ packets.free_labels t 0 peer
    behind_frees = its.frees ∙ k.frees

    pub behind_reads : 1 ≤ Frees behind → (offset len : ℕ) → finds_in q behind login (block_read offset len) ≡ true
    behind_reads some offset len =
        subst (λ n. is_some (asking_step behind n (block_read offset len) (purposes.Agent q)).0 ≡ true) k.id_is
        (free_reads k.row peer k.few behind its.rooms (subst (λ n. 1 ≤ free_labels behind n) (sym k.id_is) some) offset len (purposes.Agent q))

    -- its bytes
    bare_first : (r : Option Asked × Layer Purpose) → (bare_after same r).0 ≡ r.0
    bare_first (asked, after) = refl

    spelled_by : (asking : Body) (asked : Asked) (r : Option Asked × Node) → AskedAs (bare behind) login.node (unlabelled (bare behind) login.node asking) r → r.0 ≡ Some asked
        → (asked.label.number < 64) × (asked.bytes ≡ with_label asked.label.number (unlabelled (bare behind) login.node asking))
    spelled_by asking asked (None, new) a e = absurd (let no : None ≡ Some asked = e in cc)
    spelled_by asking asked (Some other, new) a e =
        subst (λ (x : Asked). (x.label.number < 64) × (x.bytes ≡ with_label x.label.number (unlabelled (bare behind) login.node asking))) (same_Some other asked e) (a.small, a.labelled)

    pub behind_spells : Spells q behind login
    behind_spells asking fit asked e =
        let is = (takes_steps Purpose).asks behind login.node asking (purposes.Agent q) in
        let x = asking_step (bare behind) login.node asking tt in
        let s = spelled_by asking asked x (asks (bare behind) login.node asking its.rooms.places) (ap (λ (r : Option Asked × Node). r.0) is ∙ (bare_first (asking_step behind login.node asking (purposes.Agent q)) ∙ e)) in
        record {
          source = behind.node;
          destination = login.node;
          label = asked.label.number;
          valid = request_fits behind.node login.node asking (subst (λ n. n < 2 ^ 16) (sym its.node) k.small) k.small_peer fit;
          small = s.0;
          spelled = s.1;
        }
