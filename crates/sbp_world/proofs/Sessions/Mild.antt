-- What a call of an initiator tells and leaves that brings it no login: the login that its host has by the run and its response buffers stay, its session carries no
-- other response, and the places of management stand.
use Rattle.sbp_world.proofs.Words.Std.{arith, ◌≡◌, ◌∙◌, refl, sym, ap, subst, ℕ, ◌==◌, nat_lt, Bool, true, false, cond, List, [], ◌∷◌, length, Option, Some, None, Result, Ok, Err, nat_tests}
use Rattle.sbp_world.proofs.Words.Wire.{Packet, header_in, Asked, Stale, Layer, answering_step, asking_step, OutboxState, empty_outbox, Moment, Note, Operation, OpWord}
use Rattle.sbp_world.proofs.Words.Target.{RomFault, SbpUnit, Tree, reading, sbp_unit_of}
use Rattle.sbp_world.proofs.Words.Initiator.{is_dead_kind, management_at, with_quad, LoginResponse, StatusKind, ListState, drop_lists, free_lists, TicketParts, Ending, Purpose, Running, InitiatorState, Turn, ask_quad, asked_quad, conflict_for, conflict_step, drop_list_step, dropped_as, end_own_for, end_own_step, end_step, ended_for, ended_step, fail_step, fault_number, finish_rom, is_address, is_conflict, known_where, moved, moves_session, next_quad, pointed_step, quad_got, state_told, stick_step, told, with_answered, with_dead, with_request, with_rom, with_unit, answer_of, called, expired_as, respond_step, responded_as, taken_as, taken_by, all_end, interrupted, reset_told, resets_told, seen_as, states_end, counts_for, is_list, no_marks, carried, carried_on, Event, bad, conflict, entered, failed, goes, good, pointed, pointing, reset, sent, is_stuck_seat, Seat}
use Rattle.sbp_world.proofs.Words.World.{behind}
use Rattle.sbp_world.proofs.Hosts.KnowHears.{IfExpires}
use Rattle.sbp_world.proofs.Hosts.Listed.{behind_more}
use Rattle.sbp_initiator.proofs.Histories.Effects.{Fits, IsFor}
use Rattle.sbp_initiator.proofs.Histories.Purposes.{IfFor}
use Rattle.sbp_initiator.specs.declared.purpose.Ending.TheVariants as endings
use Rattle.sbp_initiator.specs.declared.purpose.Purpose.TheVariants as purposes
use Rattle.sbp_journal.specs.declared.note.Note.TheVariants as notes
use Rattle.sbp_journal.specs.declared.operation.Operation.TheVariants as operations
use Rattle.sbp_journal.specs.declared.operation.OpWord.TheVariants as words
use Rattle.sbp_journal.specs.declared.side.Side.TheVariants as sides
use Rattle.sbp_session.proofs.Rows.{response_by_moves}
use Rattle.sbp_session.specs.declared.seat.Seat.TheVariants as seats
use Rattle.sbp_world.proofs.Sessions.Gears.{gear_at, is_mild, mild_gear}
use Rattle.sbp_world.proofs.Sessions.Places.{Stand, drop_places, free_places, unpin_places}
use Rattle.sbp_world.proofs.Common.{untrue, none_is}
use Rattle.sbp_world.proofs.Lists.LiveMoves.{drop_operation}

-- ---- a move that ends no login carries no other response

bad_on : (seat : Seat) (response : LoginResponse) → carried_on bad seat ≡ Some response → carried seat ≡ Some response
bad_on (seats.Out out) response e = e
bad_on (seats.Entering entering) response e = e
bad_on (seats.Live live) response e = e
bad_on (seats.Held own) response e = e
bad_on (seats.Returning own) response e = none_is response e
bad_on (seats.Leaving own) response e = none_is response e
bad_on (seats.Stuck origin) response e = e

good_on : (seat : Seat) (response : LoginResponse) → carried_on good seat ≡ Some response → carried seat ≡ Some response
good_on (seats.Out out) response e = e
good_on (seats.Entering entering) response e = e
good_on (seats.Live live) response e = e
good_on (seats.Held own) response e = e
good_on (seats.Returning own) response e = e
good_on (seats.Leaving own) response e = none_is response e
good_on (seats.Stuck origin) response e = e

abbrev pub is_old : Event → Bool
is_old (entered response) = false
is_old event = true

old_on : (event : Event) (seat : Seat) (response : LoginResponse) → is_old event ≡ true → carried_on event seat ≡ Some response → carried seat ≡ Some response
old_on sent seat response p e = e
old_on (entered other) seat response p e = untrue p
old_on good seat response p e = good_on seat response e
old_on bad seat response p e = bad_on seat response e
old_on conflict seat response p e = e
old_on pointing seat response p e = e
old_on pointed seat response p e = e
old_on reset seat response p e = e
old_on failed seat response p e = e

pub carries_old : (event : Event) (seat : Seat) (response : LoginResponse) → is_old event ≡ true → carried (goes event seat) ≡ Some response → carried seat ≡ Some response
carries_old event seat response p e = old_on event seat response p (sym (response_by_moves event seat) ∙ e)

-- ---- behind a state

pub record Mild (s : InitiatorState) (t : Turn) : Type 0 where
  pub gear : (ms : List Moment) (j : ℕ) → gear_at (behind t.0.sides ms) j ≡ gear_at ms j
  pub seat : (response : LoginResponse) → carried t.1.seat ≡ Some response → carried s.seat ≡ Some response
  pub places : Stand s.lists.memory t.1.lists.memory
  pub number : t.1.number ≡ s.number
  pub operation : (running : Running) → t.1.operation ≡ Some running → s.operation ≡ Some running

module _ (s : InitiatorState) where
  abbrev M : Turn → Type 0
  M t = Mild s t

  pick : (b : Bool) (x y : Turn) → M x → M y → M (cond b x y)
  pick true x y h k = h
  pick false x y h k = k

  pick_state : (b : Bool) (o : OutboxState) (u v : InitiatorState) → M (o, u) → M (o, v) → M (o, cond b u v)
  pick_state true o u v h k = h
  pick_state false o u v h k = k

  -- another state, and another outbox that tells the same
  pub still : (t : Turn) (p : OutboxState) (u : InitiatorState) → p.sides ≡ t.0.sides → ((response : LoginResponse) → carried u.seat ≡ Some response → carried t.1.seat ≡ Some response) → Stand t.1.lists.memory u.lists.memory → u.number ≡ t.1.number → ((running : Running) → u.operation ≡ Some running → t.1.operation ≡ Some running) → Mild s t → Mild s (p, u)
  still t p u e c m n r h = record {
    gear = λ ms j. ap (λ told. gear_at (behind told ms) j) e ∙ h.gear ms j;
    seat = λ response f. h.seat response (c response f);
    places = m ∙ h.places;
    number = n ∙ h.number;
    operation = λ running f. h.operation running (r running f);
  }

  -- a note that is told
  pub tells : (note : Note) (o : OutboxState) (u : InitiatorState) → is_mild note ≡ true → Mild s (o, u) → Mild s (told o note, u)
  tells note o u e h = record {
    gear = λ ms j. ap (λ xs. gear_at xs j) (behind_more o.sides (sides.Own note) ms) ∙ mild_gear note (behind o.sides ms) j e ∙ h.gear ms j;
    seat = h.seat;
    places = h.places;
    number = h.number;
    operation = h.operation;
  }

  moves_on : (event : Event) (o : OutboxState) (u : InitiatorState) → is_old event ≡ true → M (o, u) → M (o, record u { seat = goes event u.seat })
  moves_on event o u p h = still (o, u) o (record u { seat = goes event u.seat }) refl (λ response e. carries_old event u.seat response p e) refl refl (λ running e. e) h

  -- ---- the end of a transaction

  sticks_by : (b : Bool) (o : OutboxState) (u : InitiatorState) → M (o, u) → M (cond b o (told o (notes.Stuck u.number)), record u { seat = goes failed u.seat })
  sticks_by true o u h = moves_on failed o u refl h
  sticks_by false o u h = moves_on failed (told o (notes.Stuck u.number)) u refl (tells (notes.Stuck u.number) o u refl h)

  sticks : (o : OutboxState) (u : InitiatorState) → M (o, u) → M (stick_step o u)
  sticks o u h = sticks_by (is_stuck_seat u.seat) o u h

  drops_as : (r : Option ℕ × ListState) (o : OutboxState) (u : InitiatorState) → Stand u.lists.memory r.1.memory → M (o, u) → M (dropped_as r o u)
  drops_as (None, lists) o u m h = still (o, u) o (record u { lists = lists }) refl (λ response e. e) m refl (λ running e. e) h
  drops_as (Some n, lists) o u m h =
      still (told o (notes.Drop u.number n), u) (told o (notes.Drop u.number n)) (dropped_as (Some n, lists) o u).1 refl (λ response e. e) m refl (λ running e. e) (tells (notes.Drop u.number n) o u refl h)

  pub drops : (o : OutboxState) (u : InitiatorState) → Mild s (o, u) → Mild s (drop_list_step o u)
  drops o u h = drops_as (drop_lists u.lists) o u (drop_places u.lists) h

  none_runs : (running : Running) (other : Option Running) → None ≡ Some running → other ≡ Some running
  none_runs running other e = absurd (let no : None ≡ Some running = e in cc)

  ends : (operation : Operation) (word : OpWord) (o : OutboxState) (u : InitiatorState) → is_mild (notes.Op u.number operation word) ≡ true → M (o, u) → M (end_step operation word o u)
  ends operation word o u e h =
      let note = notes.Op u.number operation word in
      still (told o note, u) (told o note) (end_step operation word o u).1 refl (λ response f. f) (unpin_places u.lists) refl (λ running f. none_runs running u.operation f) (tells note o u e h)

  -- an end that is no login's
  abbrev Ends : ℕ → OpWord → InitiatorState → Type 0
  Ends act word u = (running : Running) → u.operation ≡ Some running → (running.act == act) ≡ true → is_mild (notes.Op u.number running.operation word) ≡ true

  owns_if : (running : Running) (b : Bool) (word : OpWord) (o : OutboxState) (u : InitiatorState) → (b ≡ true → is_mild (notes.Op u.number running.operation word) ≡ true) → M (o, u) → M (cond b (end_step running.operation word o u) (o, u))
  owns_if running true word o u e h = ends running.operation word o u (e refl) h
  owns_if running false word o u e h = h

  owns_for : (found : Option Running) (act : ℕ) (word : OpWord) (o : OutboxState) (u : InitiatorState) → u.operation ≡ found → Ends act word u → M (o, u) → M (end_own_for found act word o u)
  owns_for None act word o u f e h = h
  owns_for (Some running) act word o u f e h = owns_if running (running.act == act) word o u (λ x. e running f x) h

  owns : (act : ℕ) (word : OpWord) (o : OutboxState) (u : InitiatorState) → Ends act word u → M (o, u) → M (end_own_step act word o u)
  owns act word o u e h = owns_for u.operation act word o u refl e h

  error_mild : (i : ℕ) (operation : Operation) → is_mild (notes.Op i operation words.Error) ≡ true
  error_mild i operations.Rom = refl
  error_mild i operations.Login = refl
  error_mild i operations.Query = refl
  error_mild i operations.Reconnect = refl
  error_mild i operations.Logout = refl
  error_mild i operations.Abort = refl
  error_mild i operations.AbortSet = refl
  error_mild i operations.UnitReset = refl
  error_mild i operations.TargetReset = refl
  error_mild i operations.AgentReset = refl
  error_mild i operations.State = refl
  error_mild i operations.Enable = refl

  conflict_mild : (i : ℕ) (operation : Operation) → is_mild (notes.Op i operation words.Conflict) ≡ true
  conflict_mild i operations.Rom = refl
  conflict_mild i operations.Login = refl
  conflict_mild i operations.Query = refl
  conflict_mild i operations.Reconnect = refl
  conflict_mild i operations.Logout = refl
  conflict_mild i operations.Abort = refl
  conflict_mild i operations.AbortSet = refl
  conflict_mild i operations.UnitReset = refl
  conflict_mild i operations.TargetReset = refl
  conflict_mild i operations.AgentReset = refl
  conflict_mild i operations.State = refl
  conflict_mild i operations.Enable = refl

  pub refused_mild : (i : ℕ) (operation : Operation) (status : ℕ) → is_mild (notes.Op i operation (words.Refused status)) ≡ true
  refused_mild i operations.Rom status = refl
  refused_mild i operations.Login status = refl
  refused_mild i operations.Query status = refl
  refused_mild i operations.Reconnect status = refl
  refused_mild i operations.Logout status = refl
  refused_mild i operations.Abort status = refl
  refused_mild i operations.AbortSet status = refl
  refused_mild i operations.UnitReset status = refl
  refused_mild i operations.TargetReset status = refl
  refused_mild i operations.AgentReset status = refl
  refused_mild i operations.State status = refl
  refused_mild i operations.Enable status = refl

  reset_mild : (i : ℕ) (operation : Operation) → is_mild (notes.Op i operation words.Reset) ≡ true
  reset_mild i operations.Rom = refl
  reset_mild i operations.Login = refl
  reset_mild i operations.Query = refl
  reset_mild i operations.Reconnect = refl
  reset_mild i operations.Logout = refl
  reset_mild i operations.Abort = refl
  reset_mild i operations.AbortSet = refl
  reset_mild i operations.UnitReset = refl
  reset_mild i operations.TargetReset = refl
  reset_mild i operations.AgentReset = refl
  reset_mild i operations.State = refl
  reset_mild i operations.Enable = refl

  errs : (act : ℕ) (u : InitiatorState) → Ends act words.Error u
  errs act u running e f = error_mild u.number running.operation

  -- the operation of an action is one that a word of it is no login's
  ends_for : (operation : Operation) (act : ℕ) (word : OpWord) (u : InitiatorState) → is_mild (notes.Op u.number operation word) ≡ true → IsFor operation act u.operation → Ends act word u
  ends_for operation act word u e f running is same =
      let n : running.act ≡ act = grind (arith, nat_tests) in
      subst (λ (op : Operation). is_mild (notes.Op u.number op word) ≡ true) (sym (f.same running is n)) e

  fails : (act : ℕ) (o : OutboxState) (u : InitiatorState) → M (o, u) → M (fail_step act o u)
  fails act o u h =
      let t = end_own_step act words.Error o u in sticks t.0 t.1 (owns act words.Error o u (errs act u) h)

  points : (list : ℕ) (o : OutboxState) (u : InitiatorState) → M (o, u) → M (o, pointed_step list u)
  points list o u h =
      let v = record u { seat = goes pointed u.seat } in
      let p = moves_on pointed o u refl h in
      pick_state (is_list u.lists.slots.present list) o (with_answered v) v (still (o, v) o (with_answered v) refl (λ response e. e) refl refl (λ running e. e) p) p

  resets : (act : ℕ) (o : OutboxState) (u : InitiatorState) → IsFor operations.AgentReset act u.operation → M (o, u) → M (end_own_step act words.Done (drop_list_step o u).0 (drop_list_step o u).1)
  resets act o u f h =
      let d = drop_list_step o u in
      owns act words.Done d.0 d.1 (ends_for operations.AgentReset act words.Done d.1 refl (subst (λ (x : Option Running). IsFor operations.AgentReset act x) (sym (drop_operation (drop_lists u.lists) o u)) f)) (drops o u h)

  moves_if : (b : Bool) (event : Event) (o : OutboxState) (u : InitiatorState) → is_old event ≡ true → M (o, u) → M (o, cond b (record u { seat = goes event u.seat }) u)
  moves_if true event o u p h = moves_on event o u p h
  moves_if false event o u p h = h

  -- an operation ends, and moves the session
  pub ends_moved : (operation : Operation) (word : OpWord) (event : Event) (o : OutboxState) (u : InitiatorState) → is_old event ≡ true → ((i : ℕ) → is_mild (notes.Op i operation word) ≡ true) → Mild s (o, u) → Mild s (end_step operation word o (moved operation event u))
  ends_moved operation word event o u p e h = ends operation word o (moved operation event u) (e (moved operation event u).number) (moves_if (moves_session operation) event o u p h)

  conflicts_for : (found : Option Running) (act : ℕ) (o : OutboxState) (u : InitiatorState) → M (o, u) → M (conflict_for found act o u)
  conflicts_for None act o u h = h
  conflicts_for (Some running) act o u h =
      pick (running.act == act) _ _ (ends_moved running.operation words.Conflict conflict o u refl (λ i. conflict_mild i running.operation) h) h

  manages : (act : ℕ) (ending : Ending) (o : OutboxState) (u : InitiatorState) → M (o, u) → M (ended_step (purposes.Management act) ending o u)
  unfolding ended_step
  manages act (endings.Complete value) o u h = h
  manages act (endings.Refused rcode) o u h = pick (is_conflict rcode) (conflict_step act o u) (fail_step act o u) (conflicts_for u.operation act o u h) (fails act o u h)
  manages act endings.Expired o u h = fails act o u h

  -- ---- the ROM and the state of the agent

  module _ (act : ℕ) where
    units : (unit : Option SbpUnit) (o : OutboxState) (u : InitiatorState) → IsFor operations.Rom act u.operation → M (o, u) → M (with_unit unit act o u)
    units None o u f h = owns act words.NoUnit o u (ends_for operations.Rom act words.NoUnit u refl f) h
    units (Some unit) o u f h =
        let v = record u { management = Some (management_at unit.management) } in
        owns act words.Done o v (ends_for operations.Rom act words.Done v refl f) (still (o, u) o v refl (λ response e. e) refl refl (λ running e. e) h)

    roms : (r : Result Tree RomFault) (o : OutboxState) (u : InitiatorState) → IsFor operations.Rom act u.operation → M (o, u) → M (with_rom r act o u)
    roms (Ok tree) o u f h = units (sbp_unit_of tree.blocks tree.entries) o u f h
    roms (Err fault) o u f h = owns act (words.Bad (fault_number fault)) o u (ends_for operations.Rom act (words.Bad (fault_number fault)) u refl f) h

    asks : (r : Option Asked × Layer Purpose) (o : OutboxState) (u : InitiatorState) → M (o, u) → M (asked_quad r act o u)
    asks (Some asked, layer) o u h = still (o, u) (with_request o u.target asked) (record u { layer = layer }) refl (λ response e. e) refl refl (λ running e. e) h
    asks (None, layer) o u h =
        let v = record u { layer = layer } in
        owns act words.Error o v (errs act v) (still (o, u) o v refl (λ response e. e) refl refl (λ running e. e) h)

    quads : (o : OutboxState) (u : InitiatorState) → IsFor operations.Rom act u.operation → M (o, u) → M (quad_got act o u)
    quads o u f h =
        pick (length u.quads == 256) (finish_rom act o u) (ask_quad act o u) (roms (reading u.quads) o u f h) (asks (asking_step u.layer u.target (next_quad u.quads) (purposes.Rom act)) o u h)

  state_tells : (act : ℕ) (word : OpWord) (o : OutboxState) (u : InitiatorState) → M (o, u) → M (state_told act word o u)
  state_tells act word o u h =
      let note = notes.Op u.number operations.State word in
      still (told o note, u) (told o note) (state_told act word o u).1 refl (λ response e. e) refl refl (λ running e. e) (tells note o u refl h)

  knows : (b : Bool) (value : ℕ) (o : OutboxState) (u : InitiatorState) → M (o, u) → M (known_where b value o u)
  knows true value o u h =
      pick (value == 0) (drop_list_step o u) (o, cond (value == 3) (with_dead u) u) (drops o u h)
      (pick_state (value == 3) o (with_dead u) u (still (o, u) o (with_dead u) refl (λ response e. e) refl refl (λ running e. e) h) h)
  knows false value o u h = h

  -- ---- by what the transaction was for

  ended_mild : (purpose : Purpose) (ending : Ending) (o : OutboxState) (u : InitiatorState) → Fits purpose u.operation → M (o, u) → M (ended_step purpose ending o u)
  unfolding ended_step
  ended_mild (purposes.Pointer list) (endings.Complete value) o u f h = points list o u h
  ended_mild (purposes.Pointer list) (endings.Refused rcode) o u f h = sticks o u h
  ended_mild (purposes.Pointer list) endings.Expired o u f h = sticks o u h
  ended_mild purposes.Doorbell (endings.Complete value) o u f h = h
  ended_mild purposes.Doorbell (endings.Refused rcode) o u f h = sticks o u h
  ended_mild purposes.Doorbell endings.Expired o u f h = sticks o u h
  ended_mild (purposes.AgentReset act) (endings.Complete value) o u f h = resets act o u f h
  ended_mild (purposes.AgentReset act) (endings.Refused rcode) o u f h = fails act o u h
  ended_mild (purposes.AgentReset act) endings.Expired o u f h = fails act o u h
  ended_mild (purposes.Enable act) (endings.Complete value) o u f h = owns act words.Done o u (ends_for operations.Enable act words.Done u refl f) h
  ended_mild (purposes.Enable act) (endings.Refused rcode) o u f h = fails act o u h
  ended_mild (purposes.Enable act) endings.Expired o u f h = fails act o u h
  ended_mild (purposes.Management act) ending o u f h = manages act ending o u h
  ended_mild (purposes.Rom act) (endings.Complete value) o u f h =
      let v = record u { quads = with_quad u.quads value } in quads act o v f (still (o, u) o v refl (λ response e. e) refl refl (λ running e. e) h)
  ended_mild (purposes.Rom act) (endings.Refused rcode) o u f h =
      pick (is_address rcode) (finish_rom act o u) (end_own_step act words.Error o u) (roms act (reading u.quads) o u f h) (owns act words.Error o u (errs act u) h)
  ended_mild (purposes.Rom act) endings.Expired o u f h = owns act words.Error o u (errs act u) h
  ended_mild (purposes.State act list) (endings.Complete value) o u f h =
      let d = known_where (counts_for u.lists.slots.present list) value o u in
      state_tells act (words.State value) d.0 d.1 (knows (counts_for u.lists.slots.present list) value o u h)
  ended_mild (purposes.State act list) (endings.Refused rcode) o u f h = state_tells act words.Error o u h
  ended_mild (purposes.State act list) endings.Expired o u f h = state_tells act words.Error o u h

  pub ends_mild : (purpose : Option Purpose) (ending : Ending) (o : OutboxState) (u : InitiatorState) → IfFor (λ p. Fits p u.operation) purpose → Mild s (o, u) → Mild s (ended_for purpose ending o u)
  ends_mild None ending o u f h = h
  ends_mild (Some purpose) ending o u f h = ended_mild purpose ending o u f h

  -- ---- answers

  responds_as : (r : List ℕ × Layer Purpose) (source : ℕ) (o : OutboxState) (u : InitiatorState) → M (o, u) → M (responded_as r source o u)
  responds_as (response, layer) source o u h = still (o, u) _ (record u { layer = layer }) refl (λ response e. e) refl refl (λ running e. e) h

  pub responds : (p : Packet) (bytes : List ℕ) (rcode : ℕ) (given : List ℕ) (t : Turn) → Mild s t → Mild s (respond_step p bytes rcode given t)
  responds p bytes rcode given t h = responds_as (answering_step t.1.layer p bytes rcode given) (header_in p).source t.0 t.1 h

  pub calls : (o : OutboxState) (u : InitiatorState) → Mild s (o, u) → Mild s (o, called u)
  calls o u h = still (o, u) o (called u) refl (λ response e. e) refl refl (λ running e. e) h

  pub takes : (r : Option TicketParts × ListState) (kind : StatusKind) (p : Packet) (bytes : List ℕ) (o : OutboxState) (u : InitiatorState) → Stand u.lists.memory r.1.memory → Mild s (o, u) → Mild s (taken_as r kind p bytes o u).1
  takes (None, lists) kind p bytes o u m h = responds p bytes 0 [] (o, record u { lists = lists }) (still (o, u) o (record u { lists = lists }) refl (λ response e. e) m refl (λ running e. e) h)
  takes (Some t, lists) kind p bytes o u m h =
      let note = notes.Taken u.number t.list t.number kind (answer_of kind lists t.slot) in
      let v = record (called u) { lists = lists } in
      let k = still (told o note, u) (told o note) v refl (λ response e. e) m refl (λ running e. e) (tells note o u refl h) in
      responds p bytes 0 [] (taken_by t lists kind o (called u)) (pick_state (is_dead_kind kind) (told o note) (with_dead v) v (still (told o note, v) (told o note) (with_dead v) refl (λ response e. e) refl refl (λ running e. e) k) k)

  -- ---- a time-out

  pub expires_mild : (r : Result (Option Purpose) Stale) (layer : Layer Purpose) (o : OutboxState) (u : InitiatorState) → IfExpires r u → Mild s (o, u) → Mild s (expired_as (r, layer) o u).1
  expires_mild (Err stale) layer o u f h = still (o, u) o (record u { layer = layer }) refl (λ response e. e) refl refl (λ running e. e) h
  expires_mild (Ok purpose) layer o u f h =
      let v = called (record u { layer = layer }) in
      ends_mild purpose endings.Expired o v (fits_of purpose f) (still (o, u) o v refl (λ response e. e) refl refl (λ running e. e) h)
    where
      fits_of : (purpose : Option Purpose) → IfExpires (Ok purpose) u → IfFor (λ p. Fits p u.operation) purpose
      fits_of None f = tt
      fits_of (Some purpose) f = f.0

  -- ---- a generation is seen

  module _ (target : ℕ) (u : InitiatorState) where
    abbrev idle : InitiatorState
    idle = interrupted u target

    reset_tells : (operation : Operation) (o : OutboxState) → M (o, idle) → M (reset_told u.number operation o, idle)
    reset_tells operation o h = tells (notes.Op u.number operation words.Reset) o idle (reset_mild u.number operation) h

    states_tell : (acts : List ℕ) (o : OutboxState) → M (o, idle) → M (states_end u.number acts o, idle)
    states_tell [] o h = h
    states_tell (act ∷ acts) o h = states_tell acts (reset_told u.number operations.State o) (reset_tells operations.State o h)

    pick_outbox : (b : Bool) (o p : OutboxState) → M (o, idle) → M (p, idle) → M (cond b o p, idle)
    pick_outbox true o p h k = h
    pick_outbox false o p h k = k

    all_tell : (running : Running) (acts : List ℕ) (o : OutboxState) → M (o, idle) → M (all_end u.number running acts o, idle)
    all_tell running [] o h = reset_tells running.operation o h
    all_tell running (act ∷ acts) o h =
        pick_outbox (nat_lt running.act act) (states_end u.number (act ∷ acts) (reset_told u.number running.operation o)) (all_end u.number running acts (reset_told u.number operations.State o))
        (states_tell (act ∷ acts) (reset_told u.number running.operation o) (reset_tells running.operation o h))
        (all_tell running acts (reset_told u.number operations.State o) (reset_tells operations.State o h))

    resets_tell : (operation : Option Running) (acts : List ℕ) (o : OutboxState) → M (o, idle) → M (resets_told u.number operation acts o, idle)
    resets_tell None acts o h = states_tell acts o h
    resets_tell (Some running) acts o h = all_tell running acts o h

  pub sees_mild : (r : Bool × Layer Purpose) (target : ℕ) (u : InitiatorState) → Mild s (empty_outbox, u) → Mild s (seen_as r target empty_outbox u)
  sees_mild (false, layer) target u h = still (empty_outbox, u) empty_outbox (record u { layer = layer }) refl (λ response e. e) refl refl (λ running e. e) h
  sees_mild (true, layer) target u h =
      let v = record u { layer = layer } in
      let w = interrupted v target in
      let first = still (empty_outbox, u) empty_outbox w refl (λ response e. carries_old reset u.seat response refl e) refl refl (λ running e. none_runs running u.operation e) h in
      let o = resets_told v.number v.operation v.states empty_outbox in
      let d = drop_list_step o w in
      let k = drops o w (resets_tell target v v.operation v.states empty_outbox first) in
      still d d.0 (record d.1 { lists = free_lists d.1.lists; marks = no_marks }) refl (λ response e. e) (free_places d.1.lists) refl (λ running e. e) k
