-- When an initiator tells that its login is done, or that its logout is refused: as a status block of the target is delivered, for the management ORB of the operation
-- under way, with status 00 or with another; and in no other call.
use Rattle.sbp_world.proofs.Words.Std.{arith, ◌≡◌, ◌∙◌, refl, sym, ap, subst, ℕ, ◌==◌, ◌&&◌, nat_eq, nat_lt, Bool, true, false, cond, List, [], ◌∷◌, ◌++◌, replicate, Option, Some, None, Result, Ok, Err, nat_tests, big_bytes}
use Rattle.sbp_world.proofs.Words.Wire.{Header, LabelParts, Packet, header_in, lock, lock_response, read_block, read_block_response, read_quadlet, read_quadlet_response, write_block, write_quadlet, write_response, Asked, Stale, Finding, Layer, answering_step, asking_step, expiring_step, judging_step, of_again, of_generation, of_grammar, of_label, of_request, of_response, seeing_step, Judged, buffer_of, Action, Cmd, Operation, OpWord, Side, OutboxState, empty_outbox}
use Rattle.sbp_world.proofs.Words.Target.{RomFault, SbpUnit, Tree, reading, sbp_unit_of, is_block}
use Rattle.sbp_world.proofs.Words.Initiator.{read_step, Fifo, management_at, with_quad, OrbFault, StatusBlock, StatusKind, ListState, drop_lists, take_lists, write_lists, PresentList, TicketParts, act_step, append_step, asked_as, asked_for, demand_of, demanded_as, done_step, dummy_for, facts_with, judged_as, link_as, link_step, low_as, low_step, put_as, put_step, ring_for, Demand, Ending, Purpose, Running, InitiatorState, Turn, ask_quad, asked_quad, conflict_for, drop_list_step, drop_where, dropped_as, end_own_for, end_own_step, end_step, ended_for, ended_step, fail_step, fault_number, finish_rom, good_event, good_word, is_address, is_conflict, known_where, managed_step, moved, moves_session, next_quad, quad_got, response_of, state_told, stick_step, told, with_dead, with_rom, with_unit, addressed, block_at, block_by, block_step, called, expire_step, expired_as, fifo_of, got_step, ignored_step, is_foreign, managed_for, present_for, quadlet_at, read_as, receive_step, received, request_step, respond_step, responded_as, serve_step, status_step, taken_as, taken_by, written_as, ends_list, refusal, all_end, resets_told, see_step, seen_as, states_end, counts_for, ending_of, is_present_orb, last_linked, status_in, Event, bad, conflict, goes, is_stuck_seat}
use Rattle.sbp_world.proofs.Words.World.{is_open}
use Rattle.sbp_world.proofs.Hosts.KnowHears.{IfExpires, IfFits}
use Rattle.sbp_world.proofs.Hosts.PresentOrbs.{present_by, IsPresent}
use Rattle.initiator_base.specs.declared.fifos.Fifo.TheVariants as fifos
use Rattle.sbp_initiator.proofs.Histories.Effects.{Fits, IsFor}
use Rattle.sbp_initiator.proofs.Histories.Purposes.{IfFor}
use Rattle.orb_layout.specs.declared.status.StatusKind.TheVariants as kinds
use Rattle.sbp_initiator.specs.declared.purpose.Ending.TheVariants as endings
use Rattle.sbp_initiator.specs.declared.purpose.Purpose.TheVariants as purposes
use Rattle.sbp_journal.specs.declared.cause.Cause.TheVariants as ignored
use Rattle.sbp_journal.specs.declared.event.Action.TheVariants as actions
use Rattle.sbp_journal.specs.declared.note.Note.TheVariants as notes
use Rattle.sbp_journal.specs.declared.operation.Operation.TheVariants as operations
use Rattle.sbp_journal.specs.declared.operation.OpWord.TheVariants as words
use Rattle.sbp_journal.specs.declared.side.Side.TheVariants as sides
use Rattle.sbp_world.proofs.Sessions.Sessions.{own_write}
use Rattle.sbp_world.proofs.Lists.LiveHears.{IsAnswered}

-- ---- what is told of a login that is done, and of a logout that is refused
abbrev IfLogin : Type 0 → Operation → Type 0
IfLogin T operations.Login = T
IfLogin T operation = Unit {0}

abbrev IfLogout : Type 0 → Operation → Type 0
IfLogout R operations.Logout = R
IfLogout R operation = Unit {0}

abbrev IfWord : Type 0 → (ℕ → Type 0) → OpWord → Operation → Type 0
IfWord T R words.Done operation = IfLogin T operation
IfWord T R (words.Refused status) operation = IfLogout (R status) operation
IfWord T R word operation = Unit {0}

abbrev pub IfDone : (ℕ → Type 0) → (ℕ → ℕ → Type 0) → Side → Type 0
IfDone T R (sides.Own (notes.Op j operation word)) = IfWord (T j) (R j) word operation
IfDone T R side = Unit {0}

abbrev pub AllDone : (ℕ → Type 0) → (ℕ → ℕ → Type 0) → List Side → Type 0
AllDone T R [] = Unit {0}
AllDone T R (side ∷ later) = IfDone T R side × AllDone T R later

module _ (T : ℕ → Type 0) (R : ℕ → ℕ → Type 0) where
  more : (told : List Side) (side : Side) → AllDone T R told → IfDone T R side → AllDone T R (told ++ side ∷ [])
  more [] side h x = (x, tt)
  more (one ∷ told) side h x = (h.0, more told side h.1 x)

  abbrev Here : Turn → Type 0
  Here t = AllDone T R t.0.sides

  pick : (b : Bool) (x y : Turn) → (b ≡ true → Here x) → (b ≡ false → Here y) → Here (cond b x y)
  pick true x y h k = h refl
  pick false x y h k = k refl

  sticks : (o : OutboxState) (u : InitiatorState) → AllDone T R o.sides → Here (stick_step o u)
  sticks o u h = by (is_stuck_seat u.seat)
    where
      by : (b : Bool) → AllDone T R (cond b o (told o (notes.Stuck u.number))).sides
      by true = h
      by false = more o.sides (sides.Own (notes.Stuck u.number)) h tt

  dropped : (r : Option ℕ × ListState) (o : OutboxState) (u : InitiatorState) → AllDone T R o.sides → Here (dropped_as r o u)
  dropped (None, lists) o u h = h
  dropped (Some n, lists) o u h = more o.sides (sides.Own (notes.Drop u.number n)) h tt

  drops : (o : OutboxState) (u : InitiatorState) → AllDone T R o.sides → Here (drop_list_step o u)
  drops o u h = dropped (drop_lists u.lists) o u h

  drops_where : (b : Bool) (o : OutboxState) (u : InitiatorState) → AllDone T R o.sides → Here (drop_where b o u)
  drops_where true o u h = drops o u h
  drops_where false o u h = h

  ends : (operation : Operation) (word : OpWord) (o : OutboxState) (u : InitiatorState) → IfWord (T u.number) (R u.number) word operation → AllDone T R o.sides → Here (end_step operation word o u)
  ends operation word o u x h = more o.sides (sides.Own (notes.Op u.number operation word)) h x

  owns_for : (found : Option Running) (act : ℕ) (word : OpWord) (o : OutboxState) (u : InitiatorState) → ((running : Running) → found ≡ Some running → (running.act == act) ≡ true → IfWord (T u.number) (R u.number) word running.operation) → AllDone T R o.sides → Here (end_own_for found act word o u)
  owns_for None act word o u x h = h
  owns_for (Some running) act word o u x h = pick (running.act == act) (end_step running.operation word o u) (o, u) (λ b. ends running.operation word o u (x running refl b) h) (λ b. h)

  owns : (act : ℕ) (word : OpWord) (o : OutboxState) (u : InitiatorState) → ((running : Running) → u.operation ≡ Some running → (running.act == act) ≡ true → IfWord (T u.number) (R u.number) word running.operation) → AllDone T R o.sides → Here (end_own_step act word o u)
  owns act word o u x h = owns_for u.operation act word o u x h

  fails : (act : ℕ) (o : OutboxState) (u : InitiatorState) → AllDone T R o.sides → Here (fail_step act o u)
  fails act o u h = let t = end_own_step act words.Error o u in sticks t.0 t.1 (owns act words.Error o u (λ running is own. tt) h)

  conflicts : (found : Option Running) (act : ℕ) (o : OutboxState) (u : InitiatorState) → AllDone T R o.sides → Here (conflict_for found act o u)
  conflicts None act o u h = h
  conflicts (Some running) act o u h =
      pick (running.act == act) (end_step running.operation words.Conflict o (moved running.operation conflict u)) (o, u)
      (λ b. ends running.operation words.Conflict o (moved running.operation conflict u) tt h) (λ b. h)

  state_tells : (act : ℕ) (word : OpWord) (o : OutboxState) (u : InitiatorState) → IfWord (T u.number) (R u.number) word operations.State → AllDone T R o.sides → Here (state_told act word o u)
  state_tells act word o u x h = more o.sides (sides.Own (notes.Op u.number operations.State word)) h x

  known_tells : (b : Bool) (value : ℕ) (o : OutboxState) (u : InitiatorState) → AllDone T R o.sides → Here (known_where b value o u)
  known_tells true value o u h = pick (value == 0) (drop_list_step o u) (o, cond (value == 3) (with_dead u) u) (λ b. drops o u h) (λ b. h)
  known_tells false value o u h = h

  -- an operation of another kind
  other_done : (operation : Operation) (n act : ℕ) (under_way : Option Running) → IfLogin (T n) operation → IsFor operation act under_way → (running : Running) → under_way ≡ Some running → (running.act == act) ≡ true → IfWord (T n) (R n) words.Done running.operation
  other_done operation n act under_way x f running is own =
      subst (λ (op : Operation). IfLogin (T n) op) (sym (f.same running is (let z : running.act ≡ act = grind (arith, nat_tests) in z))) x

  module _ (act : ℕ) where
    unit_tells : (unit : Option SbpUnit) (o : OutboxState) (u : InitiatorState) → IsFor operations.Rom act u.operation → AllDone T R o.sides → Here (with_unit unit act o u)
    unit_tells None o u f h = owns act words.NoUnit o u (λ running is own. tt) h
    unit_tells (Some unit) o u f h =
        let v = record u { management = Some (management_at unit.management) } in
        owns act words.Done o v (λ running is own. other_done operations.Rom u.number act u.operation tt f running is own) h

    rom_tells : (r : Result Tree RomFault) (o : OutboxState) (u : InitiatorState) → IsFor operations.Rom act u.operation → AllDone T R o.sides → Here (with_rom r act o u)
    rom_tells (Ok tree) o u f h = unit_tells (sbp_unit_of tree.blocks tree.entries) o u f h
    rom_tells (Err fault) o u f h = owns act (words.Bad (fault_number fault)) o u (λ running is own. tt) h

    quad_asks : (r : Option Asked × Layer Purpose) (o : OutboxState) (u : InitiatorState) → AllDone T R o.sides → Here (asked_quad r act o u)
    quad_asks (Some asked, layer) o u h = h
    quad_asks (None, layer) o u h = owns act words.Error o (record u { layer = layer }) (λ running is own. tt) h

    quad_tells : (o : OutboxState) (u : InitiatorState) → IsFor operations.Rom act u.operation → AllDone T R o.sides → Here (quad_got act o u)
    quad_tells o u f h =
        pick (nat_eq _ 256) (finish_rom act o u) (ask_quad act o u) (λ b. rom_tells (reading u.quads) o u f h) (λ b. quad_asks (asking_step u.layer u.target (next_quad u.quads) (purposes.Rom act)) o u h)

  dropped_operation : (r : Option ℕ × ListState) (o : OutboxState) (u : InitiatorState) → (dropped_as r o u).1.operation ≡ u.operation
  dropped_operation (None, lists) o u = refl
  dropped_operation (Some n, lists) o u = refl

  ended_tells : (purpose : Purpose) (ending : Ending) (o : OutboxState) (u : InitiatorState) → Fits purpose u.operation → AllDone T R o.sides → Here (ended_step purpose ending o u)
  unfolding ended_step
  ended_tells (purposes.Pointer list) (endings.Complete value) o u f h = h
  ended_tells (purposes.Pointer list) (endings.Refused rcode) o u f h = sticks o u h
  ended_tells (purposes.Pointer list) endings.Expired o u f h = sticks o u h
  ended_tells purposes.Doorbell (endings.Complete value) o u f h = h
  ended_tells purposes.Doorbell (endings.Refused rcode) o u f h = sticks o u h
  ended_tells purposes.Doorbell endings.Expired o u f h = sticks o u h
  ended_tells (purposes.AgentReset act) (endings.Complete value) o u f h =
      let d = drop_list_step o u in
      owns act words.Done d.0 d.1 (λ running is own. other_done operations.AgentReset d.1.number act u.operation tt f running (sym (dropped_operation (drop_lists u.lists) o u) ∙ is) own) (drops o u h)
  ended_tells (purposes.AgentReset act) (endings.Refused rcode) o u f h = fails act o u h
  ended_tells (purposes.AgentReset act) endings.Expired o u f h = fails act o u h
  ended_tells (purposes.Enable act) (endings.Complete value) o u f h = owns act words.Done o u (λ running is own. other_done operations.Enable u.number act u.operation tt f running is own) h
  ended_tells (purposes.Enable act) (endings.Refused rcode) o u f h = fails act o u h
  ended_tells (purposes.Enable act) endings.Expired o u f h = fails act o u h
  ended_tells (purposes.Management act) (endings.Complete value) o u f h = h
  ended_tells (purposes.Management act) (endings.Refused rcode) o u f h = pick (is_conflict rcode) _ _ (λ b. conflicts u.operation act o u h) (λ b. fails act o u h)
  ended_tells (purposes.Management act) endings.Expired o u f h = fails act o u h
  ended_tells (purposes.Rom act) (endings.Complete value) o u f h = quad_tells act o (record u { quads = with_quad u.quads value }) f h
  ended_tells (purposes.Rom act) (endings.Refused rcode) o u f h = pick (is_address rcode) _ _ (λ b. rom_tells act (reading u.quads) o u f h) (λ b. owns act words.Error o u (λ running is own. tt) h)
  ended_tells (purposes.Rom act) endings.Expired o u f h = owns act words.Error o u (λ running is own. tt) h
  ended_tells (purposes.State act list) (endings.Complete value) o u f h =
      let b = counts_for u.lists.slots.present list in
      let d = known_where b value o u in state_tells act (words.State value) d.0 d.1 tt (known_tells b value o u h)
  ended_tells (purposes.State act list) (endings.Refused rcode) o u f h = state_tells act words.Error o u tt h
  ended_tells (purposes.State act list) endings.Expired o u f h = state_tells act words.Error o u tt h

  for_tells : (purpose : Option Purpose) (ending : Ending) (o : OutboxState) (u : InitiatorState) → IfFor (λ p. Fits p u.operation) purpose → AllDone T R o.sides → Here (ended_for purpose ending o u)
  for_tells None ending o u f h = h
  for_tells (Some purpose) ending o u f h = ended_tells purpose ending o u f h

  -- ---- a status block of an operation
  good_told : (operation : Operation) (response : List ℕ) (n : ℕ) → (operation ≡ operations.Login → T n) → IfWord (T n) (R n) (good_word operation response) operation
  good_told operations.Login response n x = x refl
  good_told operations.Rom response n x = tt
  good_told operations.Query response n x = tt
  good_told operations.Reconnect response n x = tt
  good_told operations.Logout response n x = tt
  good_told operations.Abort response n x = tt
  good_told operations.AbortSet response n x = tt
  good_told operations.UnitReset response n x = tt
  good_told operations.TargetReset response n x = tt
  good_told operations.AgentReset response n x = tt
  good_told operations.State response n x = tt
  good_told operations.Enable response n x = tt

  bad_told : (operation : Operation) (n status : ℕ) → (operation ≡ operations.Logout → R n status) → IfWord (T n) (R n) (words.Refused status) operation
  bad_told operations.Logout n status x = x refl
  bad_told operations.Login n status x = tt
  bad_told operations.Rom n status x = tt
  bad_told operations.Query n status x = tt
  bad_told operations.Reconnect n status x = tt
  bad_told operations.Abort n status x = tt
  bad_told operations.AbortSet n status x = tt
  bad_told operations.UnitReset n status x = tt
  bad_told operations.TargetReset n status x = tt
  bad_told operations.AgentReset n status x = tt
  bad_told operations.State n status x = tt
  bad_told operations.Enable n status x = tt

  moved_number : (operation : Operation) (event : Event) (u : InitiatorState) → (moved operation event u).number ≡ u.number
  moved_number operation event u = by (moves_session operation)
    where
      by : (b : Bool) → (cond b (record u { seat = goes event u.seat }) u).number ≡ u.number
      by true = refl
      by false = refl

  dropped_number : (r : Option ℕ × ListState) (o : OutboxState) (u : InitiatorState) → (dropped_as r o u).1.number ≡ u.number
  dropped_number (None, lists) o u = refl
  dropped_number (Some n, lists) o u = refl

  where_number : (b : Bool) (o : OutboxState) (u : InitiatorState) → (drop_where b o u).1.number ≡ u.number
  where_number true o u = dropped_number (drop_lists u.lists) o u
  where_number false o u = refl

  managed_tells : (running : Running) (status : ℕ) (o : OutboxState) (u : InitiatorState) → ((status == 0) ≡ true → running.operation ≡ operations.Login → T u.number) → ((status == 0) ≡ false → running.operation ≡ operations.Logout → R u.number status) → AllDone T R o.sides → Here (managed_step running status o u)
  managed_tells running status o u x y h =
      let b = ends_list (Some running.operation) in
      let d = drop_where b o u in
      let response = response_of running d.1 in
      let event = good_event running.operation response in
      pick (status == 0) _ _
      (λ z. ends running.operation (good_word running.operation response) d.0 (moved running.operation event d.1)
      (good_told running.operation response (moved running.operation event d.1).number (λ e. subst T (sym (moved_number running.operation event d.1 ∙ where_number b o u)) (x z e)))
      (drops_where b o u h))
      (λ z. ends running.operation (words.Refused status) o (moved running.operation bad u)
      (bad_told running.operation (moved running.operation bad u).number status (λ e. subst (λ n. R n status) (sym (moved_number running.operation bad u)) (y z e))) h)

-- ---- a packet is delivered
-- the login of initiator j is done by it
pub record IsLoggedIn (s : InitiatorState) (generation : ℕ) (bytes : List ℕ) (j : ℕ) : Type 0 where
  pub running : Running
  pub answered : IsAnswered s generation bytes running 0
  pub login : running.operation ≡ operations.Login
  pub number : j ≡ s.number

-- the logout of initiator j is refused by it
pub record IsRefused (s : InitiatorState) (generation : ℕ) (bytes : List ℕ) (j status : ℕ) : Type 0 where
  pub running : Running
  pub answered : IsAnswered s generation bytes running status
  pub bad : status ≡ 0 → ⊥
  pub logout : running.operation ≡ operations.Logout
  pub number : j ≡ s.number

fits_only : (purpose : Option Purpose) (s : InitiatorState) → (Q : Purpose → Type 0) → IfFor (λ p. Fits p s.operation × Q p) purpose → IfFor (λ p. Fits p s.operation) purpose
fits_only None s Q f = f
fits_only (Some purpose) s Q f = f.0

module _ (s : InitiatorState) (generation : ℕ) (bytes : List ℕ) (fits : IfFits (judging_step s.layer generation bytes).0 s) where
  abbrev L : ℕ → Type 0
  L = IsLoggedIn s generation bytes

  abbrev Q : ℕ → ℕ → Type 0
  Q = IsRefused s generation bytes

  abbrev At : Turn → Type 0
  At t = AllDone L Q t.0.sides

  pick_judged : (b : Bool) (x y : Judged × Turn) → At x.1 → At y.1 → At (cond b x y).1
  pick_judged true x y h k = h
  pick_judged false x y h k = k

  responds_as : (r : List ℕ × Layer Purpose) (source : ℕ) (o : OutboxState) (u : InitiatorState) → AllDone L Q o.sides → At (responded_as r source o u)
  responds_as (response, layer) source o u h = h

  responds : (p : Packet) (rcode : ℕ) (given : List ℕ) (t : Turn) → At t → At (respond_step p bytes rcode given t)
  responds p rcode given t h = responds_as (answering_step t.1.layer p bytes rcode given) (header_in p).source t.0 t.1 h

  reads : (r : ℕ × List ℕ) (p : Packet) (u : InitiatorState) → At (read_as r p bytes empty_outbox u).1
  reads (rcode, out) p u = responds p rcode out (empty_outbox, called u) tt

  writes : (r : ℕ × ListState) (p : Packet) (u : InitiatorState) → At (written_as r p bytes empty_outbox u).1
  writes (rcode, lists) p u = responds p rcode [] (empty_outbox, record (called u) { lists = lists }) tt

  serves : (p : Packet) (u : InitiatorState) → At (serve_step p bytes empty_outbox u).1
  serves (read_quadlet header offset) u = reads (read_step u.lists.memory offset (replicate 4 0)) (read_quadlet header offset) u
  serves (read_block header offset asked) u = reads (read_step u.lists.memory offset (replicate asked 0)) (read_block header offset asked) u
  serves (write_quadlet header offset value) u = writes (write_lists u.lists offset (big_bytes 4 value)) (write_quadlet header offset value) u
  serves (write_block header offset payload) u = writes (write_lists u.lists offset payload) (write_block header offset payload) u
  serves (write_response header rcode) u = responds (write_response header rcode) 6 [] (empty_outbox, called u) tt
  serves (read_quadlet_response header rcode value) u = responds (read_quadlet_response header rcode value) 6 [] (empty_outbox, called u) tt
  serves (read_block_response header rcode payload) u = responds (read_block_response header rcode payload) 6 [] (empty_outbox, called u) tt
  serves (lock header offset extended payload) u = responds (lock header offset extended payload) 6 [] (empty_outbox, called u) tt
  serves (lock_response header rcode extended payload) u = responds (lock_response header rcode extended payload) 6 [] (empty_outbox, called u) tt

  quadlets_at : (fifo : Option Fifo) (p : Packet) (u : InitiatorState) → At (quadlet_at fifo p bytes empty_outbox u).1
  quadlets_at None p u = serves p u
  quadlets_at (Some fifos.Closed) p u = responds p 7 [] (empty_outbox, u) tt
  quadlets_at (Some fifos.Login) p u = serves p u
  quadlets_at (Some fifos.Place) p u = serves p u

  module _ (layer : Layer Purpose) where
    abbrev u : InitiatorState
    u = record s { layer = layer }

    module _ (header : Header) (offset : ℕ) (payload : List ℕ) (found : (judging_step s.layer generation bytes).0 ≡ of_request (write_block header offset payload)) (source : header.source ≡ s.target) (opens : is_open (fifo_of s offset) ≡ true) where
      abbrev p : Packet
      p = write_block header offset payload

      answered_by : (block : StatusBlock) (status : ℕ) → status_in payload ≡ Ok block → block.kind ≡ kinds.Management status → (running : Running) → IsPresent block.orb s.operation running → IsAnswered s generation bytes running status
      answered_by block status read kind running i = record {
        header = header;
        offset = offset;
        payload = payload;
        found = found;
        source = source;
        opens = opens;
        block = block;
        read = read;
        kind = kind;
        under_way = i.is;
        names = i.named;
      }

      managed : (block : StatusBlock) (status : ℕ) → status_in payload ≡ Ok block → block.kind ≡ kinds.Management status → (x : Option Running) → present_for block.orb s.operation ≡ x → At (managed_for x status p bytes empty_outbox u).1
      managed block status read kind None e = responds p 0 [] (empty_outbox, u) tt
      managed block status read kind (Some running) e =
          let i = present_by block.orb s.operation running (is_present_orb block.orb s.operation) refl e in
          responds p 0 [] (managed_step running status empty_outbox (called u))
          (managed_tells L Q running status empty_outbox (called u)
          (λ z login. record { running = running; answered = answered_by block 0 read (kind ∙ ap (λ n. kinds.Management n) (let zero : status ≡ 0 = grind (arith, nat_tests) in zero)) running i; login = login; number = refl })
          (λ z logout. record { running = running; answered = answered_by block status read kind running i; bad = λ e. (let no : ⊥ = grind (arith, nat_tests) in no); logout = logout; number = refl }) tt)

      takes_as : (r : Option TicketParts × ListState) (kind : StatusKind) → At (taken_as r kind p bytes empty_outbox u).1
      takes_as (None, lists) kind = responds p 0 [] (empty_outbox, record u { lists = lists }) tt
      takes_as (Some t, lists) kind = responds p 0 [] (taken_by t lists kind empty_outbox (called u)) (tt, tt)

      takes : (block : StatusBlock) (kind : StatusKind) → At (taken_as (take_lists u.lists block) kind p bytes empty_outbox u).1
      takes block kind = takes_as (take_lists u.lists block) kind

      kinds_by : (block : StatusBlock) → status_in payload ≡ Ok block → (kind : StatusKind) → block.kind ≡ kind → At (block_by kind block p bytes empty_outbox u).1
      kinds_by block read (kinds.Management status) k = managed block status read k (present_for block.orb s.operation) refl
      kinds_by block read kinds.Good k = takes block kinds.Good
      kinds_by block read (kinds.Check sense) k = takes block (kinds.Check sense)
      kinds_by block read kinds.Dummy k = takes block kinds.Dummy
      kinds_by block read kinds.Aborted k = takes block kinds.Aborted
      kinds_by block read (kinds.Illegal meaning) k = takes block (kinds.Illegal meaning)
      kinds_by block read kinds.Failed k = takes block kinds.Failed

      blocks : (r : Result StatusBlock OrbFault) → status_in payload ≡ r → At (block_step r p bytes empty_outbox u).1
      blocks (Err fault) read = responds p 5 [] (empty_outbox, u) tt
      blocks (Ok block) read = kinds_by block read block.kind refl

      statuses : (is_login : Bool) → At (status_step is_login payload p bytes empty_outbox u).1
      statuses is_login =
          pick_judged (is_login && is_block payload) (got_step p bytes (told empty_outbox (notes.Told s.number), called u)) (block_step (status_in payload) p bytes empty_outbox u)
          (responds p 0 [] (told empty_outbox (notes.Told s.number), called u) (tt, tt)) (blocks (status_in payload) refl)

    fifos_by : (header : Header) (offset : ℕ) (payload : List ℕ) → (judging_step s.layer generation bytes).0 ≡ of_request (write_block header offset payload) → header.source ≡ s.target → (fifo : Option Fifo) → fifo_of s offset ≡ fifo → At (block_at fifo payload (write_block header offset payload) bytes empty_outbox u).1
    fifos_by header offset payload found source None e = serves (write_block header offset payload) u
    fifos_by header offset payload found source (Some fifos.Closed) e = responds (write_block header offset payload) 7 [] (empty_outbox, u) tt
    fifos_by header offset payload found source (Some fifos.Login) e = statuses header offset payload found source (ap is_open e) true
    fifos_by header offset payload found source (Some fifos.Place) e = statuses header offset payload found source (ap is_open e) false

    reaches : (p : Packet) → (judging_step s.layer generation bytes).0 ≡ of_request p → is_foreign p u ≡ false → At (addressed p bytes empty_outbox u).1
    reaches (read_quadlet header offset) found f = serves (read_quadlet header offset) u
    reaches (read_block header offset asked) found f = serves (read_block header offset asked) u
    reaches (write_quadlet header offset value) found f = quadlets_at (fifo_of u offset) (write_quadlet header offset value) u
    reaches (write_block header offset payload) found f = fifos_by header offset payload found (own_write header.source s.target f) (fifo_of s offset) refl
    reaches (write_response header rcode) found f = serves (write_response header rcode) u
    reaches (read_quadlet_response header rcode value) found f = serves (read_quadlet_response header rcode value) u
    reaches (read_block_response header rcode payload) found f = serves (read_block_response header rcode payload) u
    reaches (lock header offset extended payload) found f = serves (lock header offset extended payload) u
    reaches (lock_response header rcode extended payload) found f = serves (lock_response header rcode extended payload) u

    requests : (p : Packet) → (judging_step s.layer generation bytes).0 ≡ of_request p → At (request_step p bytes empty_outbox u).1
    requests p found = by (is_foreign p u) refl
      where
        by : (b : Bool) → is_foreign p u ≡ b → At (cond b (ignored_step ignored.Source 7 p bytes (empty_outbox, u)) (addressed p bytes empty_outbox u)).1
        by true e = responds p 7 [] (empty_outbox, u) tt
        by false e = reaches p found e

  received_as : (f : Finding Purpose) → (judging_step s.layer generation bytes).0 ≡ f → (layer : Layer Purpose) → At (received (f, layer) bytes empty_outbox s).1
  received_as of_generation found layer = tt
  received_as of_grammar found layer = tt
  received_as of_label found layer = tt
  received_as (of_response p label purpose) found layer =
      for_tells L Q purpose (ending_of p) empty_outbox (called (record s { layer = layer })) (fits_only purpose s _ (subst (λ (f : Finding Purpose). IfFits f s) found fits)) tt
  received_as (of_again p rcode) found layer = responds p rcode [] (empty_outbox, record s { layer = layer }) tt
  received_as (of_request p) found layer = requests layer p found

  -- each side that tells so is told of such a status block
  pub done_told : At (receive_step generation bytes empty_outbox s).1
  unfolding receive_step
  done_told = received_as (judging_step s.layer generation bytes).0 refl (judging_step s.layer generation bytes).1

-- ---- and in no other call
abbrev pub Nobody : ℕ → Type 0
Nobody j = ⊥

abbrev pub NoStatus : ℕ → ℕ → Type 0
NoStatus j status = ⊥

module _ (s : InitiatorState) where
  expired_none : (r : Result (Option Purpose) Stale × Layer Purpose) → IfExpires r.0 s → AllDone Nobody NoStatus (expired_as r empty_outbox s).1.0.sides
  expired_none (Err stale, layer) f = tt
  expired_none (Ok purpose, layer) f = for_tells Nobody NoStatus purpose endings.Expired empty_outbox (called (record s { layer = layer })) (fits_only purpose s _ f) tt

  pub lapse_none : (label : LabelParts) → IfExpires (expiring_step s.layer s.target label).0 s → AllDone Nobody NoStatus (expire_step label empty_outbox s).1.0.sides
  unfolding expire_step
  lapse_none label f = expired_none (expiring_step s.layer s.target label) f

  -- as a reset is seen
  states_none : (number : ℕ) (acts : List ℕ) (o : OutboxState) → AllDone Nobody NoStatus o.sides → AllDone Nobody NoStatus (states_end number acts o).sides
  states_none number [] o h = h
  states_none number (act ∷ acts) o h = states_none number acts (told o (notes.Op number operations.State words.Reset)) (more Nobody NoStatus o.sides (sides.Own (notes.Op number operations.State words.Reset)) h tt)

  all_none : (number : ℕ) (running : Running) (acts : List ℕ) (o : OutboxState) → AllDone Nobody NoStatus o.sides → AllDone Nobody NoStatus (all_end number running acts o).sides
  all_none number running [] o h = more Nobody NoStatus o.sides (sides.Own (notes.Op number running.operation words.Reset)) h tt
  all_none number running (act ∷ acts) o h =
      pick_none (nat_lt running.act act) (states_end number (act ∷ acts) (told o (notes.Op number running.operation words.Reset))) (all_end number running acts (told o (notes.Op number operations.State words.Reset)))
      (states_none number (act ∷ acts) (told o (notes.Op number running.operation words.Reset)) (more Nobody NoStatus o.sides (sides.Own (notes.Op number running.operation words.Reset)) h tt))
      (all_none number running acts (told o (notes.Op number operations.State words.Reset)) (more Nobody NoStatus o.sides (sides.Own (notes.Op number operations.State words.Reset)) h tt))
    where
      pick_none : (b : Bool) (x y : OutboxState) → AllDone Nobody NoStatus x.sides → AllDone Nobody NoStatus y.sides → AllDone Nobody NoStatus (cond b x y).sides
      pick_none true x y h k = h
      pick_none false x y h k = k

  resets_none : (operation : Option Running) (number : ℕ) (acts : List ℕ) (o : OutboxState) → AllDone Nobody NoStatus o.sides → AllDone Nobody NoStatus (resets_told number operation acts o).sides
  resets_none None number acts o h = states_none number acts o h
  resets_none (Some running) number acts o h = all_none number running acts o h

  seen_none : (r : Bool × Layer Purpose) (target : ℕ) → AllDone Nobody NoStatus (seen_as r target empty_outbox s).0.sides
  seen_none (false, layer) target = tt
  seen_none (true, layer) target = drops Nobody NoStatus (resets_told s.number s.operation s.states empty_outbox) _ (resets_none s.operation s.number s.states empty_outbox tt)

  pub sight_none : (generation id target : ℕ) → AllDone Nobody NoStatus (see_step generation id target empty_outbox s).0.sides
  unfolding see_step
  sight_none generation id target = seen_none (seeing_step s.layer generation id) target

-- ---- an action
module _ (o : OutboxState) (h : AllDone Nobody NoStatus o.sides) where
  put_none : (r : Option TicketParts × ListState) (cmd : Cmd) (s : InitiatorState) → AllDone Nobody NoStatus (put_as r cmd o s).0.sides
  put_none (None, lists) cmd s = h
  put_none (Some t, lists) cmd s = more Nobody NoStatus o.sides (sides.Own (notes.Append s.number t.list t.number cmd.cdb (buffer_of cmd))) h tt

  low_none : (r : Option TicketParts × ListState) (s : InitiatorState) → AllDone Nobody NoStatus (low_as r o s).0.sides
  low_none (None, lists) s = h
  low_none (Some t, lists) s = more Nobody NoStatus o.sides (sides.Own (notes.Low s.number t.list t.number)) h tt

  link_none : (r : Option TicketParts × ListState) (s : InitiatorState) → AllDone Nobody NoStatus (link_as r o s).0.sides
  link_none (None, lists) s = h
  link_none (Some t, lists) s = more Nobody NoStatus o.sides (sides.Own (notes.Linked s.number t.list t.number)) h tt

  ring_none : (present : Option PresentList) (s : InitiatorState) → AllDone Nobody NoStatus (ring_for present o s).0.sides
  ring_none None s = h
  ring_none (Some list) s = more Nobody NoStatus o.sides (sides.Own (notes.Rung s.number list.tail.list (last_linked list))) h tt

  dummy_none : (found : Option TicketParts) (s : InitiatorState) → AllDone Nobody NoStatus (dummy_for found o s).0.sides
  dummy_none None s = h
  dummy_none (Some t) s = more Nobody NoStatus o.sides (sides.Own (notes.Dummied s.number t.list t.number)) h tt

append_none : (cmd : Cmd) (s : InitiatorState) → AllDone Nobody NoStatus (append_step cmd empty_outbox s).0.sides
append_none cmd s =
    let a = put_step cmd empty_outbox s in
    let b = low_step a.0 a.1 in
    let c = link_step b.0 b.1 in
    ring_none c.0 (link_none b.0 (low_none a.0 (put_none empty_outbox tt _ cmd s) _ a.1) _ b.1) _ c.1

done_none : (action : Action) (s : InitiatorState) → AllDone Nobody NoStatus (done_step action empty_outbox s).0.sides
unfolding done_step
done_none (actions.Put cmd) s = put_none empty_outbox tt _ cmd s
done_none (actions.Append cmd) s = append_none cmd s
done_none actions.Low s = low_none empty_outbox tt _ s
done_none actions.Link s = link_none empty_outbox tt _ s
done_none actions.Ring s = ring_none empty_outbox tt _ s
done_none (actions.Dummy orb) s = dummy_none empty_outbox tt _ s
done_none actions.Rom s = tt
done_none actions.AgentReset s = tt
done_none actions.State s = tt
done_none actions.Enable s = tt
done_none (actions.Login unit reconnect exclusive password) s = tt
done_none (actions.Query unit) s = tt
done_none actions.Reconnect s = tt
done_none actions.Logout s = tt
done_none (actions.Abort orb) s = tt
done_none actions.AbortSet s = tt
done_none actions.UnitReset s = tt
done_none actions.TargetReset s = tt

asked_none : (r : Option Asked × Layer Purpose) (action : Action) (s : InitiatorState) → AllDone Nobody NoStatus (asked_as r action empty_outbox s).1.0.sides
asked_none (None, layer) action s = tt
asked_none (Some asked, layer) action s = done_none action (record s { layer = layer })

demanded_none : (demand : Option Demand) (action : Action) (s : InitiatorState) → AllDone Nobody NoStatus (demanded_as demand action empty_outbox s).1.0.sides
demanded_none None action s = done_none action s
demanded_none (Some demand) action s = asked_none (asked_for demand s) action s

judged_none : (r : Option ℕ) (action : Action) (s : InitiatorState) → AllDone Nobody NoStatus (judged_as r action empty_outbox s).1.0.sides
judged_none (Some number) action s = tt
judged_none None action s = demanded_none (demand_of action s) action s

pub act_none : (action : Action) (s : InitiatorState) → AllDone Nobody NoStatus (act_step action empty_outbox s).1.0.sides
unfolding act_step
act_none action s = judged_none (refusal action (facts_with true s action)) action s
