-- What an action asks for fits a packet, and what it does leaves what fits.
use Rattle.sbp_world.proofs.Words.Std.{arith, ◌≡◌, refl, sym, ap, subst, ℕ, zero, suc, ◌+◌, ◌^◌, ◌<◌, ◌≤◌, ◌==◌, Bool, true, false, List, [], ◌∷◌, ◌++◌, length, Option, Some, None, big_bytes}
use Rattle.sbp_world.proofs.Words.Wire.{AreBytes, AreSmall, FitsRequest, IsLayer, is_plain, ArePlainSides, IsAsking, request_to, with_asked, Asked, Layer, Action, Cmd, Note, NoteBuffer, Operation, Outgoing, buffer_of, OutboxState, empty_outbox}
use Rattle.sbp_world.proofs.Words.Initiator.{start, ManagementOrb, PresentList, find_in, TicketParts, Demand, Purpose, Wanted, InitiatorState, act_step, append_step, asked_as, asked_for, begun, counted, demand_of, demanded_as, done_step, dummy_for, facts_with, judged_as, link_as, link_step, login_id, login_orb, low_as, low_step, manage_demand, managed_by, orb_by, pinned_for, put_as, put_step, register_of, register_start, ring_demand, ring_for, with_first, with_pin, with_ring, with_running, Turn, told, with_request, ListState, dummy_lists, high_lists, low_lists, pin_lists, put_lists, refusal, is_unwritten, place_of, wanted_body}
use Rattle.sbp_world.proofs.Words.World.{AreIds, BytesAction, BytesCommand, FitsMemory, FitsState}
use Rattle.std.proofs.Common.{unwrap_or}
use Rattle.bus_memory.specs.declared.window.Window.TheVariants as windows
use Rattle.bus_transactions.proofs.FitCalls.{Asking, asking_asks, no_ask, plain_append}
use Rattle.sbp_initiator.specs.declared.purpose.Wanted.TheVariants as wants
use Rattle.sbp_journal.specs.declared.event.Action.TheVariants as actions
use Rattle.sbp_journal.specs.declared.note.Note.TheVariants as notes
use Rattle.sbp_journal.specs.declared.operation.Operation.TheVariants as operations
use Rattle.sbp_world.proofs.FitInitiator.Memory.{dummy_fits, high_fits, low_fits, manage_fits, pin_fits, put_fits}
use Rattle.sbp_world.proofs.FitInitiator.Turns.{At, Said, Tells, fits_memory}

-- ---- notes that tell nothing of the wire
plain_append_note : (number list orb : ℕ) (cdb : List ℕ) (buffer : NoteBuffer) → is_plain (notes.Append number list orb cdb buffer) ≡ true
unfolding is_plain
plain_append_note number list orb cdb buffer = refl

plain_low : (number list orb : ℕ) → is_plain (notes.Low number list orb) ≡ true
unfolding is_plain
plain_low number list orb = refl

plain_linked : (number list orb : ℕ) → is_plain (notes.Linked number list orb) ≡ true
unfolding is_plain
plain_linked number list orb = refl

plain_rung : (number list orb : ℕ) → is_plain (notes.Rung number list orb) ≡ true
unfolding is_plain
plain_rung number list orb = refl

plain_dummied : (number list orb : ℕ) → is_plain (notes.Dummied number list orb) ≡ true
unfolding is_plain
plain_dummied number list orb = refl

-- ---- what is asked for
eight_bytes : (x : ℕ) → AreBytes (big_bytes 8 x)
eight_bytes x zero = omega arith
eight_bytes x (suc zero) = omega arith
eight_bytes x (suc (suc zero)) = omega arith
eight_bytes x (suc (suc (suc zero))) = omega arith
eight_bytes x (suc (suc (suc (suc zero)))) = omega arith
eight_bytes x (suc (suc (suc (suc (suc zero))))) = omega arith
eight_bytes x (suc (suc (suc (suc (suc (suc zero)))))) = omega arith
eight_bytes x (suc (suc (suc (suc (suc (suc (suc zero))))))) = omega arith
eight_bytes x (suc (suc (suc (suc (suc (suc (suc (suc k)))))))) = omega arith

abbrev pub FitsWanted : Wanted → Type 0
FitsWanted wanted = FitsRequest (wanted_body wanted)

abbrev pub IfDemand : Option Demand → Type 0
IfDemand None = Unit {0}
IfDemand (Some demand) = FitsWanted demand.wanted

points_at : (offset orb : ℕ) → offset < 2 ^ 48 → FitsWanted (wants.Point offset orb)
points_at offset orb h = (h, eight_long, eight_bytes orb)
  where
    eight_long : length (big_bytes 8 orb) ≤ 2048
    eight_long = omega arith

register_fits : (s : InitiatorState) (distance : ℕ) → register_of s distance < 2 ^ 48
register_fits s distance = omega arith

agent_fits : (management : Option ℕ) → ((offset : ℕ) → management ≡ Some offset → offset < 2 ^ 48) → unwrap_or management 0 < 2 ^ 48
agent_fits None f = omega arith
agent_fits (Some offset) f = f offset refl

ring_fits : (s : InitiatorState) → s.counts.running < 2 ^ 32 → FitsWanted (ring_demand s).wanted
ring_fits s r = by (is_unwritten s.marks.pointing) refl
  where
    by : (b : Bool) → is_unwritten s.marks.pointing ≡ b → FitsWanted (ring_demand s).wanted
    by true e = rw e (points_at (register_of s 0x08) _ (register_fits s 0x08))
    by false e = rw e (register_fits s 0x10, r)

module _ (known : ℕ → Type 0) (acts most : ℕ) (s : InitiatorState) (f : FitsState known acts most s) (r : s.counts.running < 2 ^ 32) where
  manage_asks : IfDemand (Some (manage_demand s))
  manage_asks = points_at (unwrap_or s.management 0) (start (windows.Management (place_of s.counts.managed))) (agent_fits s.management f.management_fits)

  pub demand_fits : (action : Action) → IfDemand (demand_of action s)
  demand_fits actions.Rom = omega arith
  demand_fits (actions.Login unit reconnect exclusive password) = manage_asks
  demand_fits (actions.Query unit) = manage_asks
  demand_fits actions.Reconnect = manage_asks
  demand_fits actions.Logout = manage_asks
  demand_fits (actions.Abort orb) = manage_asks
  demand_fits actions.AbortSet = manage_asks
  demand_fits actions.UnitReset = manage_asks
  demand_fits actions.TargetReset = manage_asks
  demand_fits actions.AgentReset = (register_fits s 0x04, r)
  demand_fits actions.State = register_fits s 0x00
  demand_fits (actions.Dummy orb) = tt
  demand_fits (actions.Put cmd) = tt
  demand_fits (actions.Append cmd) = ring_fits s r
  demand_fits actions.Low = tt
  demand_fits actions.Link = tt
  demand_fits actions.Ring = ring_fits s r
  demand_fits actions.Enable = (register_fits s 0x14, omega arith)

-- ---- what is done
module _ (known : ℕ → Type 0) (acts most : ℕ) (P : Said) (k : Tells P) where
  abbrev Before : Turn → Type 0
  Before t = At known acts most P t

  -- the running number may be used up
  abbrev After : Turn → Type 0
  After t = At known acts (most + 1) P t

  more : (o : OutboxState) (s : InitiatorState) → Before (o, s) → After (o, s)
  more o s h =
      let f = h.1 in
      let r = f.running_fits in
      (h.0, record { target_known = f.target_known; management_fits = f.management_fits; counted = f.counted; running_fits = omega arith; memory_fits = f.memory_fits })

  uses : (o : OutboxState) (s : InitiatorState) → Before (o, s) → After (o, with_running s)
  uses o s h =
      let f = h.1 in
      let r = f.running_fits in
      (h.0, record { target_known = f.target_known; management_fits = f.management_fits; counted = f.counted; running_fits = omega arith; memory_fits = f.memory_fits })

  lists_are : (o : OutboxState) (s : InitiatorState) (lists : ListState) → FitsMemory lists.memory → Before (o, s) → Before (o, record s { lists = lists })
  lists_are o s lists m h = (h.0, fits_memory known acts most s.target s.management s.counts.running s.counts.acts s.lists.memory lists.memory m h.1)

  tells : (o : OutboxState) (s : InitiatorState) (note : Note) → is_plain note ≡ true → Before (o, s) → Before (told o note, s)
  tells o s note p h = (k.tells s.layer o.packets o.sides note p h.0, h.1)

  firsts : (b : Bool) (t : TicketParts) (o : OutboxState) (s : InitiatorState) → (t.number == 0) ≡ b → Before (o, s) → Before (o, with_first t s)
  firsts true t o s e h = rw e h
  firsts false t o s e h = rw e h

  puts_as : (r : Option TicketParts × ListState) (cmd : Cmd) (o : OutboxState) (s : InitiatorState) → FitsMemory r.1.memory → Before (o, s) → Before (put_as r cmd o s)
  puts_as (None, lists) cmd o s m h = lists_are o s lists m h
  puts_as (Some t, lists) cmd o s m h =
      let note = notes.Append s.number t.list t.number cmd.cdb (buffer_of cmd) in
      firsts (t.number == 0) t (told o note) (record s { lists = lists }) refl (lists_are (told o note) s lists m (tells o s note (plain_append_note s.number t.list t.number cmd.cdb (buffer_of cmd)) h))

  puts : (cmd : Cmd) (o : OutboxState) (s : InitiatorState) → BytesCommand cmd → Before (o, s) → Before (put_step cmd o s)
  puts cmd o s b h = puts_as (put_lists s.lists cmd s.layer.node (login_id s)) cmd o s (put_fits s.lists cmd s.layer.node (login_id s) b h.1.memory_fits) h

  lows_as : (r : Option TicketParts × ListState) (o : OutboxState) (s : InitiatorState) → FitsMemory r.1.memory → Before (o, s) → Before (low_as r o s)
  lows_as (None, lists) o s m h = lists_are o s lists m h
  lows_as (Some t, lists) o s m h =
      let note = notes.Low s.number t.list t.number in lists_are (told o note) s lists m (tells o s note (plain_low s.number t.list t.number) h)

  lows : (o : OutboxState) (s : InitiatorState) → Before (o, s) → Before (low_step o s)
  lows o s h = lows_as (low_lists s.lists) o s (low_fits s.lists h.1.memory_fits) h

  links_as : (r : Option TicketParts × ListState) (o : OutboxState) (s : InitiatorState) → FitsMemory r.1.memory → Before (o, s) → Before (link_as r o s)
  links_as (None, lists) o s m h = lists_are o s lists m h
  links_as (Some t, lists) o s m h =
      let note = notes.Linked s.number t.list t.number in lists_are (told o note) s lists m (tells o s note (plain_linked s.number t.list t.number) h)

  links : (o : OutboxState) (s : InitiatorState) → Before (o, s) → Before (link_step o s)
  links o s h = links_as (high_lists s.lists) o s (high_fits s.lists h.1.memory_fits) h

  rung : (b : Bool) (o : OutboxState) (s : InitiatorState) → is_unwritten s.marks.pointing ≡ b → Before (o, s) → After (o, with_ring s)
  rung true o s e h = rw e (more o s h)
  rung false o s e h = rw e (uses o s h)

  rings_for : (list : Option PresentList) (o : OutboxState) (s : InitiatorState) → Before (o, s) → After (ring_for list o s)
  rings_for None o s h = more o s h
  rings_for (Some list) o s h =
      let note = notes.Rung s.number list.tail.list _ in rung (is_unwritten s.marks.pointing) (told o note) s refl (tells o s note (plain_rung s.number list.tail.list _) h)

  dummies_for : (t : Option TicketParts) (o : OutboxState) (s : InitiatorState) → Before (o, s) → Before (dummy_for t o s)
  dummies_for None o s h = h
  dummies_for (Some t) o s h =
      let note = notes.Dummied s.number t.list t.number in lists_are (told o note) s (dummy_lists s.lists t) (dummy_fits s.lists t h.1.memory_fits) (tells o s note (plain_dummied s.number t.list t.number) h)

  appends : (cmd : Cmd) (o : OutboxState) (s : InitiatorState) → BytesCommand cmd → Before (o, s) → After (append_step cmd o s)
  appends cmd o s b h =
      let x = put_step cmd o s in
      let y = low_step x.0 x.1 in
      let z = link_step y.0 y.1 in
      rings_for z.1.lists.slots.present z.0 z.1 (links y.0 y.1 (lows x.0 x.1 (puts cmd o s b h)))

  managed : (orb : ManagementOrb) (operation : Operation) (o : OutboxState) (s : InitiatorState) → Before (o, s) → Before (o, managed_by orb operation s)
  managed orb operation o s h =
      (h.0, fits_memory known acts most s.target s.management s.counts.running s.counts.acts s.lists.memory _ (manage_fits s.lists (place_of s.counts.managed) orb h.1.memory_fits) h.1)

  pins : (t : Option TicketParts) (o : OutboxState) (s : InitiatorState) → Before (o, s) → Before (o, pinned_for t s)
  pins None o s h = h
  pins (Some t) o s h = lists_are o s (pin_lists s.lists t) (pin_fits s.lists t h.1.memory_fits) h

  does : (action : Action) (o : OutboxState) (s : InitiatorState) → BytesAction action → Before (o, s) → After (done_step action o s)
  unfolding done_step
  does (actions.Put cmd) o s b h = let t = put_step cmd o s in more t.0 t.1 (puts cmd o s b h)
  does (actions.Append cmd) o s b h = appends cmd o s b h
  does actions.Low o s b h = let t = low_step o s in more t.0 t.1 (lows o s h)
  does actions.Link o s b h = let t = link_step o s in more t.0 t.1 (links o s h)
  does actions.Ring o s b h = rings_for s.lists.slots.present o s h
  does (actions.Dummy orb) o s b h = let t = dummy_for (find_in s.lists.slots.slots orb) o s in more t.0 t.1 (dummies_for (find_in s.lists.slots.slots orb) o s h)
  does actions.Rom o s b h = more o (register_start actions.Rom s) h
  does actions.AgentReset o s b h = uses o (begun operations.AgentReset None s) h
  does actions.State o s b h = more o (register_start actions.State s) h
  does actions.Enable o s b h = more o (register_start actions.Enable s) h
  does (actions.Login unit reconnect exclusive password) o s b h =
      let orb = login_orb s unit reconnect exclusive password in more o (managed_by orb operations.Login s) (managed orb operations.Login o s h)
  does (actions.Query unit) o s b h = let orb = orb_by (actions.Query unit) s in more o (managed_by orb operations.Query s) (managed orb operations.Query o s h)
  does actions.Reconnect o s b h = let orb = orb_by actions.Reconnect s in more o (managed_by orb operations.Reconnect s) (managed orb operations.Reconnect o s h)
  does actions.Logout o s b h = let orb = orb_by actions.Logout s in more o (managed_by orb operations.Logout s) (managed orb operations.Logout o s h)
  does (actions.Abort number) o s b h =
      let orb = orb_by (actions.Abort number) s in
      let t = managed_by orb operations.Abort s in
      more o (with_pin number t) (pins (find_in t.lists.slots.slots number) o t (managed orb operations.Abort o s h))
  does actions.AbortSet o s b h = let orb = orb_by actions.AbortSet s in more o (managed_by orb operations.AbortSet s) (managed orb operations.AbortSet o s h)
  does actions.UnitReset o s b h = let orb = orb_by actions.UnitReset s in more o (managed_by orb operations.UnitReset s) (managed orb operations.UnitReset o s h)
  does actions.TargetReset o s b h = let orb = orb_by actions.TargetReset s in more o (managed_by orb operations.TargetReset s) (managed orb operations.TargetReset o s h)

-- ---- an action as a whole
-- nothing is sent, and the layer stays
abbrev Quiet : Layer Purpose → Said
Quiet first layer packets told = (layer ≡ first) × (packets ≡ []) × ArePlainSides told

quiet_tells : (first : Layer Purpose) → Tells (Quiet first)
quiet_tells first = record { tells = λ layer packets told note p q. (q.0, q.1, plain_append told _ q.2 (p, tt)) }

module _ (known : ℕ → Type 0) (ids : AreIds known) (action : Action) (s : InitiatorState) (c : IsLayer s.layer) (f : FitsState known s.counts.acts (s.counts.acts + 1) s) (b : BytesAction action) (r : s.counts.running < 2 ^ 32) where
  pub record Acted (t : Turn) : Type 0 where
    pub asks : IsAsking known s.layer t.1.layer t.0.packets
    pub small : AreSmall t.0.packets
    pub plain : ArePlainSides t.0.sides
    pub fits : FitsState known (s.counts.acts + 1) (s.counts.acts + 1 + 1) t.1
    pub layer : IsLayer t.1.layer

  abbrev IfActed : Option ℕ × Turn → Type 0
  IfActed (None, t) = Acted t
  IfActed (Some number, t) = Unit {0}

  counts_up : (u : InitiatorState) → FitsState known s.counts.acts (s.counts.acts + 1 + 1) u → FitsState known (s.counts.acts + 1) (s.counts.acts + 1 + 1) (counted u)
  counts_up u g = record { target_known = g.target_known; management_fits = g.management_fits; counted = ap (λ n. n + 1) g.counted; running_fits = g.running_fits; memory_fits = g.memory_fits }

  unasked : (t : Turn) → At known s.counts.acts (s.counts.acts + 1 + 1) (Quiet s.layer) t → Acted (t.0, counted t.1)
  unasked t h = record {
    asks = record { steps = []; may = tt; layer_is = sym h.0.0; packets_are = sym h.0.1 };
    small = subst AreSmall (sym h.0.1) tt;
    plain = h.0.2;
    fits = counts_up t.1 h.1;
    layer = subst (λ (l : Layer Purpose). IsLayer l) (sym h.0.0) c;
  }

  asked : (layer : Layer Purpose) (found : Asked) (t : Turn) → Asking known ids s.layer layer (request_to s.target found ∷ []) [] → At known s.counts.acts (s.counts.acts + 1 + 1) (Quiet layer) t → Acted (with_request t.0 s.target found, counted t.1)
  asked layer found t m h =
      let e : t.0.packets ++ request_to s.target found ∷ [] ≡ request_to s.target found ∷ [] = ap (λ (ps : List Outgoing). ps ++ request_to s.target found ∷ []) h.0.1 in
      record {
        asks = subst (λ (l : Layer Purpose). IsAsking known s.layer l (t.0.packets ++ request_to s.target found ∷ [])) (sym h.0.0) (subst (λ (ps : List Outgoing). IsAsking known s.layer layer ps) (sym e) m.asks);
        small = subst AreSmall (sym e) m.beside.small;
        plain = h.0.2;
        fits = counts_up t.1 h.1;
        layer = subst (λ (l : Layer Purpose). IsLayer l) (sym h.0.0) m.beside.comes;
      }

  asks_as : (x : Option Asked × Layer Purpose) → Asking known ids s.layer x.1 (with_asked s.target x.0 []) [] → IfActed (asked_as x action empty_outbox s)
  asks_as (None, layer) m = tt
  asks_as (Some found, layer) m =
      let u = record s { layer = layer } in
      asked layer found (done_step action empty_outbox u) m (does known s.counts.acts (s.counts.acts + 1) (Quiet layer) (quiet_tells layer) action empty_outbox u b ((refl, refl, tt), f))

  demands_as : (demand : Option Demand) → IfDemand demand → IfActed (demanded_as demand action empty_outbox s)
  demands_as None d =
      unasked (done_step action empty_outbox s) (does known s.counts.acts (s.counts.acts + 1) (Quiet s.layer) (quiet_tells s.layer) action empty_outbox s b ((refl, refl, tt), f))
  demands_as (Some demand) d =
      asks_as (asked_for demand s) (asking_asks known ids s.layer s.layer [] [] s.target (wanted_body demand.wanted) demand.purpose f.target_known d (no_ask known ids s.layer c))

  judges_as : (number : Option ℕ) → IfActed (judged_as number action empty_outbox s)
  judges_as (Some number) = tt
  judges_as None = demands_as (demand_of action s) (demand_fits known s.counts.acts (s.counts.acts + 1) s f r action)

  taken : (x : Option ℕ × Turn) → IfActed x → x.0 ≡ None → Acted x.1
  taken (None, t) h e = h
  taken (Some number, t) h e = absurd (off e)
    where
      off : Some number ≡ None → ⊥
      off z = cc

  pub acts_fit : (act_step action empty_outbox s).0 ≡ None → Acted (act_step action empty_outbox s).1
  unfolding act_step
  acts_fit e = taken (judged_as (refusal action (facts_with true s action)) action empty_outbox s) (judges_as (refusal action (facts_with true s action))) e
