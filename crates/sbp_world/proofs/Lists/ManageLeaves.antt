-- How an operation of management ends at an initiator whose session is not stuck: by a response of conflict_error to its own request, or by a status block for its ORB.
-- Else it goes on, or its session is stuck.
use Rattle.sbp_world.proofs.Words.Std.{arith, ◌≡◌, ◌∙◌, ◌⊎◌, inl, inr, refl, sym, ap, subst, ℕ, ◌==◌, Bool, true, false, cond, List, [], length, Option, Some, None, Result, Ok, Err, nat_tests, same_Some}
use Rattle.sbp_world.proofs.Words.Wire.{Packet, header_in, lock, lock_response, read_block, read_block_response, read_quadlet, read_quadlet_response, write_block, write_quadlet, write_response, Asked, Layer, answering_step, asking_step, OutboxState, Operation, OpWord}
use Rattle.sbp_world.proofs.Words.Target.{RomFault, SbpUnit, Tree, reading, sbp_unit_of}
use Rattle.sbp_world.proofs.Words.Initiator.{is_dead_kind, management_at, with_quad, StatusKind, ListState, drop_lists, write_lists, TicketParts, Ending, Purpose, Running, InitiatorState, Turn, ask_quad, asked_quad, conflict_for, conflict_step, drop_list_step, drop_where, dropped_as, end_own_for, end_own_step, end_step, ended_for, ended_step, fail_step, fault_number, finish_rom, good_end, good_event, good_word, is_address, is_conflict, known_where, managed_step, moved, moves_session, next_quad, pointed_step, quad_got, response_of, state_told, stick_step, then_step, with_answered, with_dead, with_rom, with_unit, called, read_as, respond_step, responded_as, serve_step, taken_as, taken_by, written_as, ends_list, counts_for, is_list, Event, bad, conflict, entered, failed, from_stuck, goes, good, pointed, pointing, reset, sent, is_stuck_seat, Origin, Seat}
use Rattle.sbp_world.proofs.Words.Laws.{is_management}
use Rattle.sbp_initiator.proofs.Histories.Effects.{Fits, IsFor}
use Rattle.sbp_initiator.proofs.Histories.Purposes.{IfFor}
use Rattle.sbp_initiator.specs.declared.purpose.Ending.TheVariants as endings
use Rattle.sbp_initiator.specs.declared.purpose.Purpose.TheVariants as purposes
use Rattle.sbp_journal.specs.declared.operation.Operation.TheVariants as operations
use Rattle.sbp_journal.specs.declared.operation.OpWord.TheVariants as words
use Rattle.sbp_session.specs.declared.seat.Seat.TheVariants as seats
use Rattle.sbp_world.proofs.Lists.ManageTerms.{none_is}
use Rattle.sbp_world.proofs.Lists.LiveMoves.{drop_operation}
use Rattle.sbp_world.proofs.Common.{untrue}

-- ---- a session that is stuck stays so, but for a reset

abbrev pub is_other : Event → Bool
is_other reset = false
is_other event = true

stays_stuck : (event : Event) (origin : Origin) → is_other event ≡ true → is_stuck_seat (from_stuck event origin) ≡ true
stays_stuck sent origin p = refl
stays_stuck (entered response) origin p = refl
stays_stuck good origin p = refl
stays_stuck bad origin p = refl
stays_stuck conflict origin p = refl
stays_stuck pointing origin p = refl
stays_stuck pointed origin p = refl
stays_stuck reset origin p = untrue p
stays_stuck failed origin p = refl

pub goes_unstuck : (event : Event) (seat : Seat) → is_other event ≡ true → is_stuck_seat (goes event seat) ≡ false → is_stuck_seat seat ≡ false
unfolding goes
goes_unstuck event (seats.Out out) p e = refl
goes_unstuck event (seats.Entering entering) p e = refl
goes_unstuck event (seats.Live live) p e = refl
goes_unstuck event (seats.Held response) p e = refl
goes_unstuck event (seats.Returning response) p e = refl
goes_unstuck event (seats.Leaving response) p e = refl
goes_unstuck event (seats.Stuck origin) p e = untrue (sym e ∙ stays_stuck event origin p)

failed_stuck : (seat : Seat) → is_stuck_seat (goes failed seat) ≡ true
unfolding goes
failed_stuck (seats.Out out) = refl
failed_stuck (seats.Entering entering) = refl
failed_stuck (seats.Live live) = refl
failed_stuck (seats.Held response) = refl
failed_stuck (seats.Returning response) = refl
failed_stuck (seats.Leaving response) = refl
failed_stuck (seats.Stuck origin) = refl

-- ---- what a call leaves of the operation

-- the operation is over, and why it may be so while the session is not stuck
pub record IsEnded (s : InitiatorState) (Why : Running → Type 0) (u : InitiatorState) : Type 0 where
  pub none : u.operation ≡ None
  pub why : (running : Running) → s.operation ≡ Some running → is_management running.operation ≡ true → is_stuck_seat u.seat ≡ false → Why running

pub record Left (s : InitiatorState) (Why : Running → Type 0) (u : InitiatorState) : Type 0 where
  pub operation : (u.operation ≡ s.operation) ⊎ IsEnded s Why u
  pub unstuck : is_stuck_seat u.seat ≡ false → is_stuck_seat s.seat ≡ false

pub left_self : (s : InitiatorState) (Why : Running → Type 0) → Left s Why s
left_self s Why = record { operation = inl refl; unstuck = λ e. e }

-- the operation is as before, or over
pub was_by : (s u : InitiatorState) (Why : Running → Type 0) → Left s Why u → (r : Running) → u.operation ≡ Some r → s.operation ≡ Some r
was_by s u Why left r e = by left.operation
  where
    by : (u.operation ≡ s.operation) ⊎ IsEnded s Why u → s.operation ≡ Some r
    by (inl f) = sym f ∙ e
    by (inr f) = none_is r (sym f.none ∙ e)

module _ (s : InitiatorState) (Why : Running → Type 0) where
  abbrev L : InitiatorState → Type 0
  L u = Left s Why u

  abbrev At : Turn → Type 0
  At t = L t.1

  -- another state with the same operation, whose session is not stuck only where this one's is not
  pub still : (u v : InitiatorState) → v.operation ≡ u.operation → (is_stuck_seat v.seat ≡ false → is_stuck_seat u.seat ≡ false) → Left s Why u → Left s Why v
  still u v e f h = record { operation = by h.operation; unstuck = λ g. h.unstuck (f g) }
    where
      by : (u.operation ≡ s.operation) ⊎ IsEnded s Why u → (v.operation ≡ s.operation) ⊎ IsEnded s Why v
      by (inl g) = inl (e ∙ g)
      by (inr k) = inr (record { none = e ∙ k.none; why = λ running is m g. k.why running is m (f g) })

  pick : (b : Bool) (x y : Turn) → At x → At y → At (cond b x y)
  pick true x y h k = h
  pick false x y h k = k

  pick_by : (b : Bool) (x y : Turn) → (b ≡ true → At x) → (b ≡ false → At y) → At (cond b x y)
  pick_by true x y h k = h refl
  pick_by false x y h k = k refl

  pick_state : (b : Bool) (u v : InitiatorState) → L u → L v → L (cond b u v)
  pick_state true u v h k = h
  pick_state false u v h k = k

  pub moves_on : (event : Event) (u : InitiatorState) → is_other event ≡ true → Left s Why u → Left s Why (record u { seat = goes event u.seat })
  moves_on event u p h = still u (record u { seat = goes event u.seat }) refl (goes_unstuck event u.seat p) h

  sticks : (o : OutboxState) (u : InitiatorState) → L u → At (stick_step o u)
  sticks o u h = moves_on failed u refl h

  drops_as : (r : Option ℕ × ListState) (o : OutboxState) (u : InitiatorState) → L u → At (dropped_as r o u)
  drops_as (None, lists) o u h = still u (record u { lists = lists }) refl (λ e. e) h
  drops_as (Some n, lists) o u h = still u (dropped_as (Some n, lists) o u).1 refl (λ e. e) h

  pub drops : (o : OutboxState) (u : InitiatorState) → Left s Why u → Left s Why (drop_list_step o u).1
  drops o u h = drops_as (drop_lists u.lists) o u h

  ends : (operation : Operation) (word : OpWord) (o : OutboxState) (u : InitiatorState) → ((running : Running) → s.operation ≡ Some running → is_management running.operation ≡ true → is_stuck_seat u.seat ≡ false → Why running) → L u → At (end_step operation word o u)
  ends operation word o u w h = record { operation = inr (record { none = refl; why = w }); unstuck = h.unstuck }

  -- where that of an action does, which is no management's
  owns_if : (running : Running) (b : Bool) (word : OpWord) (o : OutboxState) (u : InitiatorState) → (b ≡ true → (other : Running) → s.operation ≡ Some other → is_management other.operation ≡ true → is_stuck_seat u.seat ≡ false → Why other) → L u → At (cond b (end_step running.operation word o u) (o, u))
  owns_if running true word o u w h = ends running.operation word o u (w refl) h
  owns_if running false word o u w h = h

  -- the operation under way now is the one before
  same_running : (u : InitiatorState) (running : Running) → L u → u.operation ≡ Some running → s.operation ≡ Some running
  same_running u running h e = by h.operation
    where
      by : (u.operation ≡ s.operation) ⊎ IsEnded s Why u → s.operation ≡ Some running
      by (inl f) = sym f ∙ e
      by (inr k) = none_is running (sym k.none ∙ e)

  owns_for : (found : Option Running) (act : ℕ) (word : OpWord) (o : OutboxState) (u : InitiatorState) → u.operation ≡ found → ((running : Running) → u.operation ≡ Some running → running.act ≡ act → is_management running.operation ≡ false) → L u → At (end_own_for found act word o u)
  owns_for None act word o u e f h = h
  owns_for (Some running) act word o u e f h =
      owns_if running (running.act == act) word o u
      (λ g other is m n.
      let same : running ≡ other = same_Some running other (sym (same_running u running h e) ∙ is) in
      let own : running.act ≡ act = grind (arith, nat_tests) in
      untrue (sym (f running e own) ∙ ap (λ (x : Running). is_management x.operation) same ∙ m)) h

  owns : (act : ℕ) (word : OpWord) (o : OutboxState) (u : InitiatorState) → ((running : Running) → u.operation ≡ Some running → running.act ≡ act → is_management running.operation ≡ false) → L u → At (end_own_step act word o u)
  owns act word o u f h = owns_for u.operation act word o u refl f h

  none_of : (operation : Operation) (act : ℕ) (u : InitiatorState) → is_management operation ≡ false → IsFor operation act u.operation → (running : Running) → u.operation ≡ Some running → running.act ≡ act → is_management running.operation ≡ false
  none_of operation act u e f running is own = ap is_management (f.same running is own) ∙ e

  -- an operation whose write failed ends, and the session becomes stuck
  own_operation : (found : Option Running) (act : ℕ) (word : OpWord) (o : OutboxState) (u : InitiatorState) → ((end_own_for found act word o u).1.operation ≡ u.operation) ⊎ ((end_own_for found act word o u).1.operation ≡ None)
  own_operation None act word o u = inl refl
  own_operation (Some running) act word o u = by (running.act == act)
    where
      by : (b : Bool) → ((cond b (end_step running.operation word o u) (o, u)).1.operation ≡ u.operation) ⊎ ((cond b (end_step running.operation word o u) (o, u)).1.operation ≡ None)
      by true = inr refl
      by false = inl refl

  fails : (act : ℕ) (o : OutboxState) (u : InitiatorState) → L u → At (fail_step act o u)
  fails act o u h =
      let t = end_own_step act words.Error o u in
      record { operation = by (own_operation u.operation act words.Error o u) h.operation; unstuck = λ e. untrue (sym e ∙ failed_stuck t.1.seat) }
    where
      stuck_now : {A : Type 0} → is_stuck_seat (fail_step act o u).1.seat ≡ false → A
      stuck_now e = untrue (sym e ∙ failed_stuck (end_own_step act words.Error o u).1.seat)

      by : ((end_own_step act words.Error o u).1.operation ≡ u.operation) ⊎ ((end_own_step act words.Error o u).1.operation ≡ None) → (u.operation ≡ s.operation) ⊎ IsEnded s Why u → ((fail_step act o u).1.operation ≡ s.operation) ⊎ IsEnded s Why (fail_step act o u).1
      by (inl e) (inl f) = inl (e ∙ f)
      by (inl e) (inr k) = inr (record { none = e ∙ k.none; why = λ running is m g. stuck_now g })
      by (inr e) f = inr (record { none = e; why = λ running is m g. stuck_now g })

  points : (list : ℕ) (o : OutboxState) (u : InitiatorState) → L u → L (pointed_step list u)
  points list o u h =
      let v = record u { seat = goes pointed u.seat } in
      let k = moves_on pointed u refl h in pick_state (is_list u.lists.slots.present list) (with_answered v) v (still v (with_answered v) refl (λ e. e) k) k

  resets : (act : ℕ) (o : OutboxState) (u : InitiatorState) → IsFor operations.AgentReset act u.operation → L u → At (then_step (end_own_step act words.Done) (drop_list_step o u))
  resets act o u f h =
      let d = drop_list_step o u in
      owns act words.Done d.0 d.1 (none_of operations.AgentReset act d.1 refl (subst (λ (x : Option Running). IsFor operations.AgentReset act x) (sym (drop_operation (drop_lists u.lists) o u)) f)) (drops o u h)

  -- a session moves as its operation ends
  moves_if : (b : Bool) (event : Event) (u : InitiatorState) → is_other event ≡ true → L u → L (cond b (record u { seat = goes event u.seat }) u)
  moves_if true event u p h = moves_on event u p h
  moves_if false event u p h = h

  conflicts_for : (found : Option Running) (act : ℕ) (o : OutboxState) (u : InitiatorState) → u.operation ≡ found → ((running : Running) → s.operation ≡ Some running → running.act ≡ act → Why running) → L u → At (conflict_for found act o u)
  conflicts_for None act o u e w h = h
  conflicts_for (Some running) act o u e w h =
      pick_by (running.act == act) _ _
      (λ g. ends running.operation words.Conflict o (moved running.operation conflict u) (λ other is m n.
      let same : running ≡ other = same_Some running other (sym (same_running u running h e) ∙ is) in
      let own : running.act ≡ act = grind (arith, nat_tests) in
      w other is (ap (λ (x : Running). x.act) (sym same) ∙ own)) (moves_if (moves_session running.operation) conflict u refl h))
      (λ g. h)

  manages : (act : ℕ) (ending : Ending) (o : OutboxState) (u : InitiatorState) → ((rcode : ℕ) → ending ≡ endings.Refused rcode → is_conflict rcode ≡ true → (running : Running) → s.operation ≡ Some running → running.act ≡ act → Why running) → L u → At (ended_step (purposes.Management act) ending o u)
  unfolding ended_step
  manages act (endings.Complete value) o u w h = h
  manages act (endings.Refused rcode) o u w h =
      pick_by (is_conflict rcode) (conflict_step act o u) (fail_step act o u) (λ e. conflicts_for u.operation act o u refl (w rcode refl e) h) (λ e. fails act o u h)
  manages act endings.Expired o u w h = fails act o u h

  -- ---- the ROM and the state of the agent

  errs : (act : ℕ) (u : InitiatorState) → IsFor operations.Rom act u.operation → (running : Running) → u.operation ≡ Some running → running.act ≡ act → is_management running.operation ≡ false
  errs act u f = none_of operations.Rom act u refl f

  module _ (act : ℕ) where
    units : (unit : Option SbpUnit) (o : OutboxState) (u : InitiatorState) → IsFor operations.Rom act u.operation → L u → At (with_unit unit act o u)
    units None o u f h = owns act words.NoUnit o u (errs act u f) h
    units (Some unit) o u f h =
        let v = record u { management = Some (management_at unit.management) } in owns act words.Done o v (errs act v f) (still u v refl (λ e. e) h)

    roms : (r : Result Tree RomFault) (o : OutboxState) (u : InitiatorState) → IsFor operations.Rom act u.operation → L u → At (with_rom r act o u)
    roms (Ok tree) o u f h = units (sbp_unit_of tree.blocks tree.entries) o u f h
    roms (Err fault) o u f h = owns act (words.Bad (fault_number fault)) o u (errs act u f) h

    asks : (r : Option Asked × Layer Purpose) (o : OutboxState) (u : InitiatorState) → IsFor operations.Rom act u.operation → L u → At (asked_quad r act o u)
    asks (Some asked, layer) o u f h = still u (record u { layer = layer }) refl (λ e. e) h
    asks (None, layer) o u f h = let v = record u { layer = layer } in owns act words.Error o v (errs act v f) (still u v refl (λ e. e) h)

    quads : (o : OutboxState) (u : InitiatorState) → IsFor operations.Rom act u.operation → L u → At (quad_got act o u)
    quads o u f h =
        pick (length u.quads == 256) (finish_rom act o u) (ask_quad act o u) (roms (reading u.quads) o u f h) (asks (asking_step u.layer u.target (next_quad u.quads) (purposes.Rom act)) o u f h)

  state_tells : (act : ℕ) (word : OpWord) (o : OutboxState) (u : InitiatorState) → L u → At (state_told act word o u)
  state_tells act word o u h = still u (state_told act word o u).1 refl (λ e. e) h

  knows : (b : Bool) (value : ℕ) (o : OutboxState) (u : InitiatorState) → L u → At (known_where b value o u)
  knows true value o u h =
      pick (value == 0) (drop_list_step o u) (o, cond (value == 3) (with_dead u) u) (drops o u h) (pick_state (value == 3) (with_dead u) u (still u (with_dead u) refl (λ e. e) h) h)
  knows false value o u h = h

  -- ---- by what the transaction was for

  abbrev pub MayConflict : Option Purpose → Ending → Type 0
  MayConflict purpose ending = (act rcode : ℕ) → purpose ≡ Some (purposes.Management act) → ending ≡ endings.Refused rcode → is_conflict rcode ≡ true → (running : Running) → s.operation ≡ Some running → running.act ≡ act → Why running

  ended_left : (purpose : Purpose) (ending : Ending) (o : OutboxState) (u : InitiatorState) → Fits purpose u.operation → MayConflict (Some purpose) ending → L u → At (ended_step purpose ending o u)
  unfolding ended_step
  ended_left (purposes.Pointer list) (endings.Complete value) o u f w h = points list o u h
  ended_left (purposes.Pointer list) (endings.Refused rcode) o u f w h = sticks o u h
  ended_left (purposes.Pointer list) endings.Expired o u f w h = sticks o u h
  ended_left purposes.Doorbell (endings.Complete value) o u f w h = h
  ended_left purposes.Doorbell (endings.Refused rcode) o u f w h = sticks o u h
  ended_left purposes.Doorbell endings.Expired o u f w h = sticks o u h
  ended_left (purposes.AgentReset act) (endings.Complete value) o u f w h = resets act o u f h
  ended_left (purposes.AgentReset act) (endings.Refused rcode) o u f w h = fails act o u h
  ended_left (purposes.AgentReset act) endings.Expired o u f w h = fails act o u h
  ended_left (purposes.Enable act) (endings.Complete value) o u f w h = owns act words.Done o u (none_of operations.Enable act u refl f) h
  ended_left (purposes.Enable act) (endings.Refused rcode) o u f w h = fails act o u h
  ended_left (purposes.Enable act) endings.Expired o u f w h = fails act o u h
  ended_left (purposes.Management act) ending o u f w h = manages act ending o u (λ rcode e c. w act rcode refl e c) h
  ended_left (purposes.Rom act) (endings.Complete value) o u f w h =
      let v = record u { quads = with_quad u.quads value } in quads act o v f (still u v refl (λ e. e) h)
  ended_left (purposes.Rom act) (endings.Refused rcode) o u f w h =
      pick (is_address rcode) (finish_rom act o u) (end_own_step act words.Error o u) (roms act (reading u.quads) o u f h) (owns act words.Error o u (errs act u f) h)
  ended_left (purposes.Rom act) endings.Expired o u f w h = owns act words.Error o u (errs act u f) h
  ended_left (purposes.State act list) (endings.Complete value) o u f w h =
      let d = known_where (counts_for u.lists.slots.present list) value o u in
      state_tells act (words.State value) d.0 d.1 (knows (counts_for u.lists.slots.present list) value o u h)
  ended_left (purposes.State act list) (endings.Refused rcode) o u f w h = state_tells act words.Error o u h
  ended_left (purposes.State act list) endings.Expired o u f w h = state_tells act words.Error o u h

  pub ends_left : (purpose : Option Purpose) (ending : Ending) (o : OutboxState) (u : InitiatorState) → IfFor (λ p. Fits p u.operation) purpose → MayConflict purpose ending → Left s Why u → Left s Why (ended_for purpose ending o u).1
  ends_left None ending o u f w h = h
  ends_left (Some purpose) ending o u f w h = ended_left purpose ending o u f w h

  -- ---- answers, status blocks and the memory

  responds_as : (r : List ℕ × Layer Purpose) (source : ℕ) (o : OutboxState) (u : InitiatorState) → L u → At (responded_as r source o u)
  responds_as (response, layer) source o u h = still u (record u { layer = layer }) refl (λ e. e) h

  pub responds : (p : Packet) (bytes : List ℕ) (rcode : ℕ) (given : List ℕ) (t : Turn) → Left s Why t.1 → Left s Why (respond_step p bytes rcode given t).1
  responds p bytes rcode given t h = responds_as (answering_step t.1.layer p bytes rcode given) (header_in p).source t.0 t.1 h

  pub takes : (r : Option TicketParts × ListState) (kind : StatusKind) (p : Packet) (bytes : List ℕ) (o : OutboxState) (u : InitiatorState) → Left s Why u → Left s Why (taken_as r kind p bytes o u).1.1
  takes (None, lists) kind p bytes o u h = responds p bytes 0 [] (o, record u { lists = lists }) (still u (record u { lists = lists }) refl (λ e. e) h)
  takes (Some t, lists) kind p bytes o u h =
      let v = record (called u) { lists = lists } in
      let k = still u v refl (λ e. e) h in
      responds p bytes 0 [] (taken_by t lists kind o (called u)) (pick_state (is_dead_kind kind) (with_dead v) v (still v (with_dead v) refl (λ e. e) k) k)

  good_ends : (running : Running) (o : OutboxState) (u : InitiatorState) → ((other : Running) → s.operation ≡ Some other → Why other) → L u → At (then_step (good_end running) (drop_where (ends_list (Some running.operation)) o u))
  good_ends running o u w h =
      let d = drop_where (ends_list (Some running.operation)) o u in
      ends running.operation (good_word running.operation (response_of running d.1)) d.0 (moved running.operation (good_event running.operation (response_of running d.1)) d.1) (λ other is m n. w other is)
      (moves_if (moves_session running.operation) (good_event running.operation (response_of running d.1)) d.1 (other_good running.operation (response_of running d.1)) (dropped (ends_list (Some running.operation))))
    where
      dropped : (b : Bool) → At (drop_where b o u)
      dropped true = drops o u h
      dropped false = h

      other_good : (operation : Operation) (response : List ℕ) → is_other (good_event operation response) ≡ true
      other_good operations.Login response = refl
      other_good operations.Rom response = refl
      other_good operations.Query response = refl
      other_good operations.Reconnect response = refl
      other_good operations.Logout response = refl
      other_good operations.Abort response = refl
      other_good operations.AbortSet response = refl
      other_good operations.UnitReset response = refl
      other_good operations.TargetReset response = refl
      other_good operations.AgentReset response = refl
      other_good operations.State response = refl
      other_good operations.Enable response = refl

  pub managed : (running : Running) (status : ℕ) (o : OutboxState) (u : InitiatorState) → ((other : Running) → s.operation ≡ Some other → Why other) → Left s Why u → Left s Why (managed_step running status o u).1
  managed running status o u w h =
      pick (status == 0) _ _ (good_ends running o u w h)
      (ends running.operation (words.Refused status) o (moved running.operation bad u) (λ other is m n. w other is) (moves_if (moves_session running.operation) bad u refl h))

  read_left : (r : ℕ × List ℕ) (p : Packet) (bytes : List ℕ) (o : OutboxState) (u : InitiatorState) → L u → At (read_as r p bytes o u).1
  read_left (rcode, out) p bytes o u h = responds p bytes rcode out (o, called u) (still u (called u) refl (λ e. e) h)

  write_left : (r : ℕ × ListState) (p : Packet) (bytes : List ℕ) (o : OutboxState) (u : InitiatorState) → L u → At (written_as r p bytes o u).1
  write_left (rcode, lists) p bytes o u h = let v = record (called u) { lists = lists } in responds p bytes rcode [] (o, v) (still u v refl (λ e. e) h)

  plain_left : (p : Packet) (bytes : List ℕ) (o : OutboxState) (u : InitiatorState) → L u → At (respond_step p bytes 6 [] (o, called u))
  plain_left p bytes o u h = responds p bytes 6 [] (o, called u) (still u (called u) refl (λ e. e) h)

  pub serves : (p : Packet) (bytes : List ℕ) (o : OutboxState) (u : InitiatorState) → Left s Why u → Left s Why (serve_step p bytes o u).1.1
  serves (read_quadlet header offset) bytes o u h = read_left _ (read_quadlet header offset) bytes o u h
  serves (read_block header offset asked) bytes o u h = read_left _ (read_block header offset asked) bytes o u h
  serves (write_quadlet header offset value) bytes o u h = write_left _ (write_quadlet header offset value) bytes o u h
  serves (write_block header offset payload) bytes o u h = write_left (write_lists u.lists offset payload) (write_block header offset payload) bytes o u h
  serves (write_response header rcode) bytes o u h = plain_left (write_response header rcode) bytes o u h
  serves (read_quadlet_response header rcode value) bytes o u h = plain_left (read_quadlet_response header rcode value) bytes o u h
  serves (read_block_response header rcode payload) bytes o u h = plain_left (read_block_response header rcode payload) bytes o u h
  serves (lock header offset extended payload) bytes o u h = plain_left (lock header offset extended payload) bytes o u h
  serves (lock_response header rcode extended payload) bytes o u h = plain_left (lock_response header rcode extended payload) bytes o u h
