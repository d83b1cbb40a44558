-- Unsolicited statuses that leave behind a step of an agent are none of its requests.
use Rattle.sbp_world.proofs.Words.Std.{arith, ◌≡◌, ◌≢◌, ◌∙◌, refl, sym, ap, ℕ, ◌<◌, nat_eq, Bool, true, false, cond, List, length, Option, Some, None, slice_index_or, slice_set, length-set, nat_tests}
use Rattle.sbp_world.proofs.Words.Wire.{Asked, block_write, Layer, asking_step, is_write, Outgoing, Side, OutboxState}
use Rattle.sbp_world.proofs.Words.Target.{Login, block, Machine, Desk, Purpose, new_desk, NodeState, Scene, desk_at, announced_by, request_step, sent_by, with_packet, with_side, announce_from, unsolicited_by, unsolicited_from, Announced, pushes, stay, withholds}
use Rattle.sbp_world.proofs.Words.Initiator.{Nothing}
use Rattle.sbp_world.proofs.Words.Laws.{Agent, agent_over, sends_of, wants}
use Rattle.sbp_world.proofs.Words.World.{Request, by_packets, with_requests}
use Rattle.label_table.proofs.Owned.{set_at}
use Rattle.sbp_journal.specs.declared.side.Side.TheVariants as sides
use Rattle.sbp_target.specs.declared.purpose.Purpose.TheVariants as purposes
use Rattle.sbp_world.specs.Agents.Crews.{by_side, by_sides}
use Rattle.sbp_world.proofs.Agents.Serials.{Paired, more_within, number_after, paired_at, paired_more}
use Rattle.sbp_world.proofs.Agents.Follows.{Done, Settled, Unwanting}
use Rattle.sbp_world.proofs.Agents.Walk.{Holds, Out, out_as, out_more, sides_more}
use Rattle.sbp_world.proofs.Agents.Writes.{asked_writes}
use Rattle.sbp_target.proofs.Histories.Moved.{announced_moves}
use Rattle.sbp_target.proofs.Histories.Views.{kept as moves_keep}

-- the agent of place q is this machine, and all else of agents is as before
pub record Stands (q : ℕ) (before : NodeState) (m : Machine) (node : NodeState) : Type 0 where
  pub size : length node.desks ≡ 8
  pub agent : (desk_at node q).agent ≡ m
  pub pointer : (p : ℕ) → (desk_at node p).pointer ≡ (desk_at before p).pointer
  pub others : (p : ℕ) → p ≢ q → (desk_at node p).agent ≡ (desk_at before p).agent
  pub kept : (p : ℕ) → p ≢ q → ((desk_at node p).main ≡ (desk_at before p).main) × ((desk_at node p).ahead ≡ (desk_at before p).ahead)

pub record Ended (requests : List Request) (q : ℕ) (before : NodeState) (first : Agent) (pointer : Option ℕ) (s : Scene) : Type 0 where
  pub now : ℕ → Agent
  pub machine : Machine
  pub out : Out first now s.outbox
  pub stands : Stands q before machine s.node
  pub settled : (last : ℕ) → Settled machine pointer (agent_over (now last))
  pub paired : (last : ℕ) → Paired (with_requests last s.outbox.packets requests) (desk_at s.node q) (agent_over (now last))

pub holds_stands : (q : ℕ) (before : NodeState) (m : Machine) (node : NodeState) → Holds q before m node → Stands q before m node
holds_stands q before m node h = record { size = h.size; agent = h.agent; pointer = h.pointer; others = h.others; kept = h.kept }

pub done_ended : {Calm : Type 0} (requests : List Request) (q : ℕ) (before : NodeState) (first : Agent) (pointer : Option ℕ) (s : Scene) → Done requests q before first pointer Calm s → Ended requests q before first pointer s
done_ended requests q before first pointer s d = record { now = d.now; machine = d.machine; out = d.out; stands = holds_stands q before d.machine s.node d.holds; settled = d.settled; paired = d.paired }

-- a register is disabled: all else of the desks stays
enabled_same : {A : Type 0} (f : Desk → A) → ((d : Desk) (x : Bool) → f (record d { is_enabled = x }) ≡ f d) → (node later : NodeState) (p : ℕ) (x : Bool) → p < length node.desks → later.desks ≡ slice_set node.desks p (record (desk_at node p) { is_enabled = x }) → (k : ℕ) → f (desk_at later k) ≡ f (desk_at node k)
enabled_same f same node later p x inside e k =
    ap (λ ds. f (slice_index_or ds k new_desk)) e
    ∙ ap f (set_at node.desks p k (record (desk_at node p) { is_enabled = x }) new_desk inside)
    ∙ by (nat_eq k p) refl
  where
    place_is : nat_eq k p ≡ true → k ≡ p
    place_is g = grind (arith, nat_tests)

    by : (y : Bool) → nat_eq k p ≡ y → f (cond y (record (desk_at node p) { is_enabled = x }) (desk_at node k)) ≡ f (desk_at node k)
    by true g = same (desk_at node p) x ∙ ap (λ (i : ℕ). f (desk_at node i)) (sym (place_is g))
    by false g = refl

stands_set : (q : ℕ) (before : NodeState) (m : Machine) (node later : NodeState) (p : ℕ) (x : Bool) → p < 8 → later.desks ≡ slice_set node.desks p (record (desk_at node p) { is_enabled = x }) → Stands q before m node → Stands q before m later
stands_set q before m node later p x b e h =
    let size = h.size in
    let inside : p < length node.desks = omega arith in
    record {
      size = ap (λ ds. length ds) e ∙ length-set node.desks p (record (desk_at node p) { is_enabled = x }) ∙ h.size;
      agent = enabled_same (λ (d : Desk). d.agent) (λ d y. refl) node later p x inside e q ∙ h.agent;
      pointer = λ k. enabled_same (λ (d : Desk). d.pointer) (λ d y. refl) node later p x inside e k ∙ h.pointer k;
      others = λ k n. enabled_same (λ (d : Desk). d.agent) (λ d y. refl) node later p x inside e k ∙ h.others k n;
      kept = λ k n. (enabled_same (λ (d : Desk). d.main) (λ d y. refl) node later p x inside e k ∙ (h.kept k n).0, enabled_same (λ (d : Desk). d.ahead) (λ d y. refl) node later p x inside e k ∙ (h.kept k n).1);
    }

pair_set : (requests : List Request) (q : ℕ) (a : Agent) (node later : NodeState) (p : ℕ) (x : Bool) → p < length node.desks → later.desks ≡ slice_set node.desks p (record (desk_at node p) { is_enabled = x }) → Paired requests (desk_at node q) a → Paired requests (desk_at later q) a
pair_set requests q a node later p x inside e h =
    paired_at requests (desk_at node q) (desk_at later q) a (enabled_same (λ (d : Desk). d.main) (λ d y. refl) node later p x inside e q) (enabled_same (λ (d : Desk). d.ahead) (λ d y. refl) node later p x inside e q) h

stands_still : (q : ℕ) (before : NodeState) (m : Machine) (node later : NodeState) → later.desks ≡ node.desks → Stands q before m node → Stands q before m later
stands_still q before m node later e h =
    let at : (k : ℕ) → desk_at later k ≡ desk_at node k = λ k. ap (λ ds. slice_index_or ds k new_desk) e in
    record {
      size = ap (λ ds. length ds) e ∙ h.size;
      agent = ap (λ (d : Desk). d.agent) (at q) ∙ h.agent;
      pointer = λ k. ap (λ (d : Desk). d.pointer) (at k) ∙ h.pointer k;
      others = λ k n. ap (λ (d : Desk). d.agent) (at k) ∙ h.others k n;
      kept = λ k n. (ap (λ (d : Desk). d.main) (at k) ∙ (h.kept k n).0, ap (λ (d : Desk). d.ahead) (at k) ∙ (h.kept k n).1);
    }

out_still : (first : Agent) (now : ℕ → Agent) (o : OutboxState) (side : Side) → ((a : Agent) → by_side side a ≡ a) → Out first now o → Out first now (with_side o side)
out_still first now o side f t = record { is = λ last. ap (by_packets last o.packets) (sides_more o.sides side first ∙ f (by_sides o.sides first)) ∙ t.is last }

module _ (requests : List Request) (q : ℕ) (before : NodeState) (first : Agent) (now : ℕ → Agent) (m : Machine) (calm : (last : ℕ) → Unwanting (now last)) where
  record Passed (s : Scene) : Type 0 where
    out : Out first now s.outbox
    stands : Stands q before m s.node
    paired : (last : ℕ) → Paired (with_requests last s.outbox.packets requests) (desk_at s.node q) (agent_over (now last))

  unwanted : (a : Agent) (serial : ℕ) (w : Bool) → w ≡ true → Unwanting a → sends_of w serial a ≡ a
  unwanted a serial w e u =
      ap (λ (x : Bool). sends_of x serial a) e
      ∙ ap (λ (x : Bool). cond x (record a { main = Some serial; asks = Nothing }) (cond (wants a.asks_ahead true) (record a { ahead = Some serial; asks_ahead = Nothing }) a)) u.asks
      ∙ ap (λ (x : Bool). cond x (record a { ahead = Some serial; asks_ahead = Nothing }) a) u.asks_ahead

  sent_past : (place : ℕ) (login : Login) (s : Scene) (r : Option Asked × Layer Purpose) → place < 8 → asking_step s.node.layer login.node (block_write login.fifo block) purposes.Unsolicited ≡ r → Passed s → Passed (unsolicited_by place login.node s.node (sent_by r s.outbox login.node))
  sent_past place login s (None, layer) b e h = record {
    out = out_still first now s.outbox (sides.Unsent place) (λ a. refl) h.out;
    stands = stands_still q before m s.node (record s.node { layer = layer }) refl h.stands;
    paired = λ last. h.paired last;
  }
  sent_past place login s (Some asked, layer) b e h =
      let packet : Outgoing = record { to = login.node; label = Some asked.label; bytes = asked.bytes } in
      let writes = asked_writes s.node.layer layer login.node (block_write login.fifo block) purposes.Unsolicited asked e in
      let later = unsolicited_from place login.node layer s.node in
      record {
        out = out_still first now (with_packet s.outbox packet) (sides.Unsolicited place) (λ a. refl)
            (out_as first _ now (with_packet s.outbox packet) (λ last. unwanted (now last) (number_after last s.outbox.packets) (is_write asked.bytes) writes (calm last)) (out_more first now s.outbox packet h.out));
        stands = stands_set q before m s.node later place false b refl h.stands;
        paired = λ last.
            let rs = with_requests last s.outbox.packets requests in
            let after = with_requests last (with_packet s.outbox packet).packets requests in
            let size = h.stands.size in
            pair_set after q (agent_over (now last)) s.node later place false (omega arith) refl
            (paired_more rs after (more_within last s.outbox.packets packet requests) (desk_at s.node q) (agent_over (now last)) (h.paired last));
      }

  tells : (unit from : ℕ) (x y : Scene) → Announced unit from x y → Passed x → Passed y
  unfolding request_step
  tells unit from _ _ (pushes place login s e) h = sent_past place login s (asking_step s.node.layer login.node (block_write login.fifo block) purposes.Unsolicited) e.small refl h
  tells unit from _ _ (withholds place login s e) h = record { out = out_still first now s.outbox (sides.Unsent place) (λ a. refl) h.out; stands = h.stands; paired = h.paired }

  passes : (unit from : ℕ) (s : Scene) → Passed s → Passed (announce_from 8 0 unit from s)
  passes unit from s h = moves_keep (Announced unit from) Passed (tells unit from) s _ (announced_moves (Announced unit from) unit from (λ x y m. m) s true s (stay s)) h

pub announces : (loaded : Bool) (requests : List Request) (q : ℕ) (before : NodeState) (first : Agent) (pointer : Option ℕ) (unit from : ℕ) (s : Scene) → Done requests q before first pointer (loaded ≡ true) s → Ended requests q before first pointer (announced_by loaded unit from s)
announces false requests q before first pointer unit from s d = done_ended requests q before first pointer s d
announces true requests q before first pointer unit from s d =
    let p = passes requests q before first d.now d.machine (d.calm refl) unit from s (record { out = d.out; stands = holds_stands q before d.machine s.node d.holds; paired = d.paired }) in
    record { now = d.now; machine = d.machine; out = p.out; stands = p.stands; settled = d.settled; paired = p.paired }
