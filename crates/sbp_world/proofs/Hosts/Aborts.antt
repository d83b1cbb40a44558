-- An abort that is done: its request leaves, and pins the slot of its ORB.
use Rattle.sbp_world.proofs.Words.Std.{arith, ◌≡◌, refl, sym, ◌∙◌, ap, subst, ℕ, suc, ◌+◌, ◌<◌, ◌==◌, not, Bool, true, false, List, [], ◌∷◌, length, Option, Some, None, nat_tests}
use Rattle.sbp_world.proofs.Words.Wire.{LabelParts, Asked, Layer, Moment, said, OutboxState, empty_outbox, Outgoing, node_of, topology_at}
use Rattle.sbp_world.proofs.Words.Initiator.{Purpose, InitiatorState, new_state, refusal, act_step, asked_as, asked_for, done_step, facts_with, judged_as, manage_demand, Turn}
use Rattle.sbp_world.proofs.Words.Laws.{event_of}
use Rattle.sbp_world.proofs.Words.World.{handed_out, acted, acted_by, asked, posted, sent, sent_all, sent_to, told_all, WorldState, initiator_at, with_initiator, Pinned, AreRows, history, AreHosts, IsHost}
use Rattle.std.proofs.lemmas.List.{length-set}
use Rattle.orb_list.specs.Table as table
use Rattle.sbp_journal.specs.declared.event.Action.TheVariants as actions
use Rattle.sbp_journal.specs.declared.event.Event.TheVariants as events
use Rattle.sbp_journal.specs.declared.note.Note.TheVariants as notes
use Rattle.sbp_world.proofs.Hosts.Acts.{act_left}
use Rattle.sbp_world.proofs.Hosts.Beside.{beside_rests, pin_told}
use Rattle.sbp_world.proofs.Hosts.Hosting.{hands_keep, hosts_are, state_here, state_there}
use Rattle.sbp_world.proofs.Hosts.Liners.{host_listed, refuses_act}
use Rattle.sbp_world.proofs.Common.{some_none}

-- ---- what it hands out

pub record Requests (s : InitiatorState) (outbox : OutboxState) : Type 0 where
  pub packet : Outgoing
  pub to : packet.to ≡ s.target
  pub is : outbox ≡ record { packets = packet ∷ []; sides = [] }

asked_requests : (number : ℕ) (s : InitiatorState) (r : Option Asked × Layer Purpose) → (asked_as r (actions.Abort number) empty_outbox s).0 ≡ None → Requests s (asked_as r (actions.Abort number) empty_outbox s).1.0
unfolding done_step
asked_requests number s (None, layer) e = some_none 10 e
asked_requests number s (Some asked, layer) e = record { packet = record { to = s.target; label = Some asked.label; bytes = asked.bytes }; to = refl; is = refl }

judged_requests : (number : ℕ) (s : InitiatorState) (refused : Option ℕ) → (judged_as refused (actions.Abort number) empty_outbox s).0 ≡ None → Requests s (judged_as refused (actions.Abort number) empty_outbox s).1.0
judged_requests number s (Some n) e = some_none n e
judged_requests number s None e = asked_requests number s (asked_for (manage_demand s) s) e

pub abort_requests : (number : ℕ) (s : InitiatorState) → (act_step (actions.Abort number) empty_outbox s).0 ≡ None → Requests s (act_step (actions.Abort number) empty_outbox s).1.0
unfolding act_step
abort_requests number s e = judged_requests number s (refusal (actions.Abort number) (facts_with true s (actions.Abort number))) e

-- ---- its request leaves

-- what is told of it
abbrev leaving : (i to : ℕ) → WorldState → Outgoing → Moment
leaving i to w packet = said (notes.Sent (w.store.last + 1) (topology_at w.generations (i + 1)).generation (suc i) to packet.bytes)

module _ (past : List Moment) (i to : ℕ) (w : WorldState) (inside : i < length w.initiators) (packet : Outgoing) (there : node_of w.generations (i + 1) packet.to ≡ Some to) where
  abbrev leaves : Moment
  leaves = leaving i to w packet

  abbrev alone : OutboxState
  alone = record { packets = packet ∷ []; sides = [] }

  by_label : (label : Option LabelParts) (v : WorldState) → history (asked (w.store.last + 1) to (i + 1) packet.to label v) past ≡ history v past
  by_label None v = refl
  by_label (Some label) v = refl

  told_leaving : (state : InitiatorState) → history (handed_out (i + 1) 0 alone (with_initiator i state w)) past ≡ leaves ∷ history w past
  unfolding told_all sent_all sent posted
  told_leaving state =
      let v = with_initiator i state w in
      ap (λ found. history (sent_to found (i + 1) packet v) past) there
      ∙ by_label packet.label (posted (i + 1) to false packet.bytes v)
      ∙ ap (λ n. said (notes.Sent (w.store.last + 1) (topology_at w.generations (i + 1)).generation n to packet.bytes) ∷ history w past) (let e : i + 1 ≡ suc i = omega arith in e)

  leaving_hosts : (state : InitiatorState) → IsHost (leaves ∷ history w past) i state → ((j : ℕ) → j < length w.initiators → (j == i) ≡ false → IsHost (leaves ∷ history w past) j (initiator_at w j)) → AreHosts past (handed_out (i + 1) 0 alone (with_initiator i state w))
  leaving_hosts state own others =
      let v = with_initiator i state w in
      hosts_are past v (handed_out (i + 1) 0 alone v) (hands_keep (i + 1) 0 alone v)
      (λ j b. subst (λ ms. IsHost ms j (initiator_at v j)) (sym (told_leaving state)) (each j (j == i) refl (subst (λ m. j < m) (length-set w.initiators i state) b)))
    where
      each : (j : ℕ) (c : Bool) → (j == i) ≡ c → j < length w.initiators → IsHost (leaves ∷ history w past) j (initiator_at (with_initiator i state w) j)
      each j true e b =
          let same : i ≡ j = grind (arith, nat_tests) in
          subst (λ m. IsHost (leaves ∷ history w past) m (initiator_at (with_initiator i state w) m)) same
          (subst (IsHost (leaves ∷ history w past) i) (sym (state_here w.initiators i state (new_state 0 false) inside)) own)
      each j false e b =
          subst (IsHost (leaves ∷ history w past) j) (sym (state_there w.initiators i j state (new_state 0 false) e inside)) (others j b e)

-- ---- the line

module _ (past : List Moment) (line i number to : ℕ) (w : WorldState) (inside : i < length w.initiators) (there : node_of w.generations (i + 1) (initiator_at w i).target ≡ Some to) (under : event_of (history w past) ≡ Some (events.Act i (actions.Abort number))) (h : AreHosts past w) where
  abbrev old : InitiatorState
  old = initiator_at w i

  -- its initiator
  own_pinned : (packet : Outgoing) (t : Turn) → Pinned number empty_outbox old t → IsHost (leaving i to w packet ∷ history w past) i t.1
  own_pinned packet t l = record {
    number = l.same ∙ (h i inside).number;
    rows = subst (AreRows (leaving i to w packet ∷ history w past) i) (sym l.table_is)
        (pin_told (history w past) i old.lists.slots (h i inside).rows (w.store.last + 1) (topology_at w.generations (i + 1)).generation to packet.bytes l.ticket
        (under ∙ ap (λ n. Some (events.Act i (actions.Abort n))) (sym l.numbered)) l.none (ap (table.find_in old.lists.slots.slots) l.numbered ∙ l.found));
    pin = l.operation;
  }

  other_left : (packet : Outgoing) (j : ℕ) → j < length w.initiators → (j == i) ≡ false → IsHost (leaving i to w packet ∷ history w past) j (initiator_at w j)
  other_left packet j b e =
      let apart : (suc i == suc j) ≡ false = grind (arith, nat_tests) in
      record {
        number = (h j b).number;
        rows = beside_rests (history w past) j (initiator_at w j).lists.slots (h j b).rows (notes.Sent (w.store.last + 1) (topology_at w.generations (i + 1)).generation (suc i) to packet.bytes) (ap not apart);
        pin = (h j b).pin;
      }

  done_hosts : (t : Turn) → Pinned number empty_outbox old t → Requests old t.0 → AreHosts past (handed_out (i + 1) 0 t.0 (with_initiator i t.1 w))
  done_hosts t l q =
      let found : node_of w.generations (i + 1) q.packet.to ≡ Some to = ap (node_of w.generations (i + 1)) q.to ∙ there in
      subst (λ o. AreHosts past (handed_out (i + 1) 0 o (with_initiator i t.1 w))) (sym q.is)
      (leaving_hosts past i to w inside q.packet found t.1 (own_pinned q.packet t l) (other_left q.packet))

  aborts_by : (r : Option ℕ × Turn) → act_step (actions.Abort number) empty_outbox old ≡ r → AreHosts past (acted_by r line i (actions.Abort number) w)
  aborts_by (Some n, (outbox, state)) e = refuses_act past line i (actions.Abort number) w h n (outbox, state) e
  aborts_by (None, t) e =
      let is_done : (act_step (actions.Abort number) empty_outbox old).0 ≡ None = ap (λ (x : Option ℕ × Turn). x.0) e in
      let turn : (act_step (actions.Abort number) empty_outbox old).1 ≡ t = ap (λ (x : Option ℕ × Turn). x.1) e in
      done_hosts t
      (subst (Pinned number empty_outbox old) turn (act_left (history w past) (actions.Abort number) empty_outbox old is_done (host_listed (history w past) i old (h i inside))))
      (subst (λ (x : Turn). Requests old x.0) turn (abort_requests number old is_done))

  pub line_aborts : AreHosts past (acted line i (actions.Abort number) w)
  unfolding acted
  line_aborts = aborts_by (act_step (actions.Abort number) empty_outbox old) refl
