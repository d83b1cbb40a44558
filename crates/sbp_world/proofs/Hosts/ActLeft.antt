-- What an action that is done leaves of an initiator's layer, tells and asks for.
use Rattle.sbp_world.proofs.Words.Std.{arith, ◌≡◌, refl, sym, ◌∙◌, ap, ℕ, zero, suc, ◌+◌, ◌==◌, nat_eq, is_some, Bool, true, false, cond, List, [], ◌∷◌, ◌++◌, Option, Some, None, Result, Ok, Err}
use Rattle.sbp_world.proofs.Words.Wire.{Asked, Layer, asking_step, buffer_of, OutboxState, empty_outbox, Moment, said, Action, Cmd, Note, Outgoing}
use Rattle.sbp_world.proofs.Words.Initiator.{ListFault, PresentList, ListState, dummy_lists, high_lists, low_lists, find_in, may_prepare, next_ticket, orb_number, prepare_at, prepare_step, TicketParts, Demand, Purpose, InitiatorState, act_step, asked_as, asked_for, demand_of, demanded_as, done_step, dummy_for, facts_with, judged_as, link_as, link_step, login_id, low_as, low_step, managed_by, orb_by, pinned_for, put_as, put_step, ring_for, with_running, asked_by, prepared_as, put_lists, Turn, told, refusal, rings, is_unwritten, last_linked, wanted_body}
use Rattle.sbp_world.proofs.Words.Laws.{Host, host_at, list_begins}
use Rattle.sbp_world.proofs.Words.World.{behind}
use Rattle.sbp_journal.specs.declared.event.Action.TheVariants as actions
use Rattle.sbp_journal.specs.declared.note.Note.TheVariants as notes
use Rattle.sbp_journal.specs.declared.operation.Operation.TheVariants as operations
use Rattle.sbp_journal.specs.declared.side.Side.TheVariants as sides
use Rattle.sbp_world.proofs.Hosts.Layered.{AreTame, is_tame, tame_more}
use Rattle.sbp_world.proofs.Hosts.Listed.{behind_more}
use Rattle.sbp_world.proofs.Hosts.PointerNotes.{pointer}
use Rattle.sbp_world.proofs.Hosts.Requested.{done_sends}
use Rattle.sbp_world.proofs.Pointers.Asks.{no_packet}
use Rattle.sbp_world.proofs.Common.{some_none, untrue}
use Rattle.sbp_world.proofs.Hosts.KnowActs.{no_packets}

-- ---- the steps of a list

record Kept (old : Layer Purpose) (target : ℕ) (t : Turn) : Type 0 where
  told : AreTame t.0.sides
  target_is : t.1.target ≡ target
  layer_is : t.1.layer ≡ old

module _ (old : Layer Purpose) (target : ℕ) where
  abbrev K : Turn → Type 0
  K t = Kept old target t

  tells : (note : Note) (o : OutboxState) (s u : InitiatorState) → is_tame note ≡ true → u.layer ≡ s.layer → u.target ≡ s.target → K (o, s) → K (told o note, u)
  tells note o s u e layer target k = record { told = tame_more o.sides (sides.Own note) k.told e; target_is = target ∙ k.target_is; layer_is = layer ∙ k.layer_is }

  still : (o : OutboxState) (s u : InitiatorState) → u.layer ≡ s.layer → u.target ≡ s.target → K (o, s) → K (o, u)
  still o s u layer target k = record { told = k.told; target_is = target ∙ k.target_is; layer_is = layer ∙ k.layer_is }

  pick_state : (b : Bool) (o : OutboxState) (u v : InitiatorState) → K (o, u) → K (o, v) → K (o, cond b u v)
  pick_state true o u v h i = h
  pick_state false o u v h i = i

  puts : (r : Option TicketParts × ListState) (cmd : Cmd) (o : OutboxState) (s : InitiatorState) → K (o, s) → K (put_as r cmd o s)
  puts (None, lists) cmd o s k = still o s (record s { lists = lists }) refl refl k
  puts (Some t, lists) cmd o s k =
      let note = notes.Append s.number t.list t.number cmd.cdb (buffer_of cmd) in
      pick_state (t.number == 0) (told o note) _ (record s { lists = lists }) (tells note o s _ refl refl refl k) (tells note o s _ refl refl refl k)

  lows : (r : Option TicketParts × ListState) (o : OutboxState) (s : InitiatorState) → K (o, s) → K (low_as r o s)
  lows (None, lists) o s k = still o s (record s { lists = lists }) refl refl k
  lows (Some t, lists) o s k = tells (notes.Low s.number t.list t.number) o s (record s { lists = lists }) refl refl refl k

  links : (r : Option TicketParts × ListState) (o : OutboxState) (s : InitiatorState) → K (o, s) → K (link_as r o s)
  links (None, lists) o s k = still o s (record s { lists = lists }) refl refl k
  links (Some t, lists) o s k = tells (notes.Linked s.number t.list t.number) o s (record s { lists = lists }) refl refl refl k

  rings_for : (found : Option PresentList) (o : OutboxState) (s : InitiatorState) → K (o, s) → K (ring_for found o s)
  rings_for None o s k = k
  rings_for (Some list) o s k =
      let note = notes.Rung s.number list.tail.list (last_linked list) in
      pick_state (is_unwritten s.marks.pointing) (told o note) _ (with_running s) (tells note o s _ refl refl refl k) (tells note o s (with_running s) refl refl refl k)

  dummies : (found : Option TicketParts) (o : OutboxState) (s : InitiatorState) → K (o, s) → K (dummy_for found o s)
  dummies None o s k = k
  dummies (Some t) o s k = tells (notes.Dummied s.number t.list t.number) o s (record s { lists = dummy_lists s.lists t }) refl refl refl k

  pins : (found : Option TicketParts) (o : OutboxState) (s : InitiatorState) → K (o, s) → K (o, pinned_for found s)
  pins None o s k = k
  pins (Some t) o s k = still o s (pinned_for (Some t) s) refl refl k

  dones : (action : Action) (o : OutboxState) (s : InitiatorState) → K (o, s) → K (done_step action o s)
  unfolding done_step
  dones (actions.Put cmd) o s k = puts (put_lists s.lists cmd s.layer.node (login_id s)) cmd o s k
  dones (actions.Append cmd) o s k =
      let a = put_step cmd o s in
      let b = low_step a.0 a.1 in
      let c = link_step b.0 b.1 in
      rings_for c.1.lists.slots.present c.0 c.1
      (links (high_lists b.1.lists) b.0 b.1 (lows (low_lists a.1.lists) a.0 a.1 (puts (put_lists s.lists cmd s.layer.node (login_id s)) cmd o s k)))
  dones actions.Low o s k = lows (low_lists s.lists) o s k
  dones actions.Link o s k = links (high_lists s.lists) o s k
  dones actions.Ring o s k = rings_for s.lists.slots.present o s k
  dones (actions.Dummy orb) o s k = dummies (find_in s.lists.slots.slots orb) o s k
  dones actions.Rom o s k = still o s _ refl refl k
  dones actions.AgentReset o s k = still o s _ refl refl k
  dones actions.State o s k = still o s _ refl refl k
  dones actions.Enable o s k = still o s _ refl refl k
  dones (actions.Login unit reconnect exclusive password) o s k = still o s _ refl refl k
  dones (actions.Query unit) o s k = still o s _ refl refl k
  dones actions.Reconnect o s k = still o s _ refl refl k
  dones actions.Logout o s k = still o s _ refl refl k
  dones (actions.Abort orb) o s k =
      let u = managed_by (orb_by (actions.Abort orb) s) operations.Abort s in
      pins (find_in u.lists.slots.slots orb) o u (still o s u refl refl k)
  dones actions.AbortSet o s k = still o s _ refl refl k
  dones actions.UnitReset o s k = still o s _ refl refl k
  dones actions.TargetReset o s k = still o s _ refl refl k

-- ---- a ring keeps the ORB_POINTER write that is named, where the list was begun before

-- with what is told so far the host names what it named
abbrev Names : List Moment → ℕ → OutboxState → Type 0
Names past i o = pointer (behind o.sides past) i ≡ pointer past i

module _ (past : List Moment) (i : ℕ) where
  one_more : (note : Note) (o : OutboxState) → ((ms : List Moment) → pointer (said note ∷ ms) i ≡ pointer ms i) → Names past i o → Names past i (told o note)
  one_more note o e k = ap (λ ms. pointer ms i) (behind_more o.sides (sides.Own note) past) ∙ e (behind o.sides past) ∙ k

  same_if : (b : Bool) (x y : Host) → x.pointer ≡ y.pointer → (cond b x y).pointer ≡ y.pointer
  same_if true x y e = e
  same_if false x y e = refl

  later_begins : (k : ℕ) (host : Host) → nat_eq k 0 ≡ false → (list_begins k host).pointer ≡ host.pointer
  later_begins zero host e = untrue (sym e)
  later_begins (suc k) host e = refl

  append_names : (j n k : ℕ) (cmd : Cmd) (o : OutboxState) → nat_eq k 0 ≡ false → Names past i o → Names past i (told o (notes.Append j n k cmd.cdb (buffer_of cmd)))
  append_names j n k cmd o e h =
      one_more (notes.Append j n k cmd.cdb (buffer_of cmd)) o (λ ms. same_if (nat_eq j i) (list_begins k (host_at ms i)) (host_at ms i) (later_begins k (host_at ms i) e)) h

  low_names : (r : Option TicketParts × ListState) (o : OutboxState) (s : InitiatorState) → Names past i o → Names past i (low_as r o s).0
  low_names (None, lists) o s h = h
  low_names (Some t, lists) o s h = one_more (notes.Low s.number t.list t.number) o (λ ms. refl) h

  link_names : (r : Option TicketParts × ListState) (o : OutboxState) (s : InitiatorState) → Names past i o → Names past i (link_as r o s).0
  link_names (None, lists) o s h = h
  link_names (Some t, lists) o s h = one_more (notes.Linked s.number t.list t.number) o (λ ms. refl) h

  ring_names : (found : Option PresentList) (o : OutboxState) (s : InitiatorState) → Names past i o → Names past i (ring_for found o s).0
  ring_names None o s h = h
  ring_names (Some list) o s h = one_more (notes.Rung s.number list.tail.list (last_linked list)) o (λ ms. refl) h

  later_number : (present : Option PresentList) → is_some present ≡ true → nat_eq (orb_number present) 0 ≡ false
  later_number None e = untrue e
  later_number (Some list) e = above list.tail.number
    where
      above : (n : ℕ) → nat_eq (n + 1) 0 ≡ false
      above n = grind arith

  put_by : (r : Result ℕ ListFault) (cmd : Cmd) (o : OutboxState) (s : InitiatorState) → is_some s.lists.slots.present ≡ true → Names past i o → Names past i (put_as (prepared_as (prepare_at r s.lists.slots s.lists.memory (asked_by cmd s.layer.node (login_id s))) s.lists cmd) cmd o s).0
  put_by (Err fault) cmd o s e h = h
  put_by (Ok slot) cmd o s e h =
      let t = next_ticket s.lists.slots slot (login_id s) in append_names s.number t.list t.number cmd o (later_number s.lists.slots.present e) h

  put_names : (cmd : Cmd) (o : OutboxState) (s : InitiatorState) → is_some s.lists.slots.present ≡ true → Names past i o → Names past i (put_step cmd o s).0
  unfolding put_lists prepare_step
  put_names cmd o s e h = put_by (may_prepare s.lists.slots) cmd o s e h

  -- a ring, with or without an ORB before it
  ring_keeps : (action : Action) (o : OutboxState) (s : InitiatorState) → rings action ≡ true → is_some s.lists.slots.present ≡ true → Names past i o → Names past i (done_step action o s).0
  unfolding done_step
  ring_keeps (actions.Append cmd) o s r e h =
      let a = put_step cmd o s in
      let b = low_step a.0 a.1 in
      let c = link_step b.0 b.1 in
      ring_names c.1.lists.slots.present c.0 c.1 (link_names (high_lists b.1.lists) b.0 b.1 (low_names (low_lists a.1.lists) a.0 a.1 (put_names cmd o s e h)))
  ring_keeps actions.Ring o s r e h = ring_names s.lists.slots.present o s h
  ring_keeps (actions.Put cmd) o s r e h = untrue r
  ring_keeps actions.Low o s r e h = untrue r
  ring_keeps actions.Link o s r e h = untrue r
  ring_keeps (actions.Dummy orb) o s r e h = untrue r
  ring_keeps actions.Rom o s r e h = untrue r
  ring_keeps actions.AgentReset o s r e h = untrue r
  ring_keeps actions.State o s r e h = untrue r
  ring_keeps actions.Enable o s r e h = untrue r
  ring_keeps (actions.Login unit reconnect exclusive password) o s r e h = untrue r
  ring_keeps (actions.Query unit) o s r e h = untrue r
  ring_keeps actions.Reconnect o s r e h = untrue r
  ring_keeps actions.Logout o s r e h = untrue r
  ring_keeps (actions.Abort orb) o s r e h = untrue r
  ring_keeps actions.AbortSet o s r e h = untrue r
  ring_keeps actions.UnitReset o s r e h = untrue r
  ring_keeps actions.TargetReset o s r e h = untrue r

-- ---- an action as a whole

-- what it asked for, and the layer then
pub record HasAsked (action : Action) (s : InitiatorState) (packet : Outgoing) (now : Layer Purpose) : Type 0 where
  pub demand : Demand
  pub is : demand_of action s ≡ Some demand
  pub asked : Asked
  pub step : asking_step s.layer s.target (wanted_body demand.wanted) demand.purpose ≡ (Some asked, now)
  pub label : packet.label ≡ Some asked.label

pub record ActLeft (action : Action) (s : InitiatorState) (t : Turn) : Type 0 where
  pub told : AreTame t.0.sides
  pub target_is : t.1.target ≡ s.target
  pub quiet : t.0.packets ≡ [] → t.1.layer ≡ s.layer
  pub asking : (packet : Outgoing) → t.0.packets ≡ packet ∷ [] → HasAsked action s packet t.1.layer
  pub names : rings action ≡ true → is_some s.lists.slots.present ≡ true → (past : List Moment) (i : ℕ) → pointer (behind t.0.sides past) i ≡ pointer past i

module _ (action : Action) (s : InitiatorState) where
  asked_left : (demand : Demand) → demand_of action s ≡ Some demand → (r : Option Asked × Layer Purpose) → asked_for demand s ≡ r → (asked_as r action empty_outbox s).0 ≡ None → ActLeft action s (asked_as r action empty_outbox s).1
  asked_left demand d (None, layer) step e = some_none 10 e
  asked_left demand d (Some asked, layer) step e =
      let u = record s { layer = layer } in
      let t = done_step action empty_outbox u in
      let packet : Outgoing = record { to = s.target; label = Some asked.label; bytes = asked.bytes } in
      let k = dones layer s.target action empty_outbox u (record { told = tt; target_is = refl; layer_is = refl }) in
      let sent : t.0.packets ++ packet ∷ [] ≡ packet ∷ [] = ap (λ ps. ps ++ packet ∷ []) (done_sends action empty_outbox u) in
      record {
        told = k.told;
        target_is = k.target_is;
        quiet = λ n. no_packets packet (sym sent ∙ n);
        asking = λ other n.
            let same : packet ≡ other = (let x = sym sent ∙ n in cc) in
            record { demand = demand; is = d; asked = asked; step = step ∙ ap (λ (l : Layer Purpose). (Some asked, l)) (sym k.layer_is); label = ap (λ (p : Outgoing). p.label) (sym same) };
        names = λ r p past i. ring_keeps past i action empty_outbox u r p refl;
      }

  demanded_left : (demand : Option Demand) → demand_of action s ≡ demand → (demanded_as demand action empty_outbox s).0 ≡ None → ActLeft action s (demanded_as demand action empty_outbox s).1
  demanded_left None d e =
      let k = dones s.layer s.target action empty_outbox s (record { told = tt; target_is = refl; layer_is = refl }) in
      record {
        told = k.told;
        target_is = k.target_is;
        quiet = λ n. k.layer_is;
        asking = λ packet n. no_packet packet (sym (done_sends action empty_outbox s) ∙ n);
        names = λ r p past i. ring_keeps past i action empty_outbox s r p refl;
      }
  demanded_left (Some demand) d e = asked_left demand d (asked_for demand s) refl e

  judged_left : (refused : Option ℕ) → (judged_as refused action empty_outbox s).0 ≡ None → ActLeft action s (judged_as refused action empty_outbox s).1
  judged_left (Some number) e = some_none number e
  judged_left None e = demanded_left (demand_of action s) refl e

  pub act_left : (act_step action empty_outbox s).0 ≡ None → ActLeft action s (act_step action empty_outbox s).1
  unfolding act_step
  act_left e = judged_left (refusal action (facts_with true s action)) e
