-- A session becomes live by a status block of its target alone.
use Rattle.sbp_world.proofs.Words.Std.{arith, ◌≡◌, ◌∙◌, refl, sym, ap, subst, ◌⊎◌, inl, inr, ℕ, ◌==◌, ◌&&◌, Bool, true, false, cond, List, [], Option, Some, None, Result, Ok, Err, nat_tests}
use Rattle.sbp_world.proofs.Words.Wire.{Header, Packet, lock, lock_response, read_block, read_block_response, read_quadlet, read_quadlet_response, write_block, write_quadlet, write_response, Finding, Layer, judging_step, of_again, of_generation, of_grammar, of_label, of_request, of_response, Judged, Operation, OutboxState, empty_outbox}
use Rattle.sbp_world.proofs.Words.Target.{is_block}
use Rattle.sbp_world.proofs.Words.Initiator.{Fifo, OrbFault, LoginResponse, StatusBlock, StatusKind, login_response, ListState, drop_lists, take_lists, Purpose, Running, InitiatorState, Turn, drop_where, good_end, managed_step, moved, moves_session, response_of, then_step, told, addressed, block_at, block_by, block_step, called, fifo_of, got_step, ignored_step, is_foreign, managed_for, present_for, receive_step, received, request_step, respond_step, serve_step, status_step, taken_as, ends_list, ending_of, is_present_orb, status_in, Origin, Seat, Event, bad, conflict, entered, failed, from_entering, from_held, from_live, from_out, from_returning, from_stuck, goes, good, pointed, pointing, reset, sent}
use Rattle.sbp_world.proofs.Words.World.{operation_by, own_core, session_in, work_in, after, beginning, after_all, begun, initiator_at, EnteringLaw, IsAdmitted, IsGranted, SessionsEnter, joined_with, is_open}
use Rattle.sbp_world.proofs.Hosts.Carried.{between_runs, of_runs}
use Rattle.sbp_world.proofs.Hosts.Hosted.{Cored, cored_carried, first_cored}
use Rattle.sbp_world.proofs.Hosts.Knowing.{Sits}
use Rattle.sbp_world.proofs.Hosts.PresentOrbs.{present_by}
use Rattle.initiator_base.specs.declared.fifos.Fifo.TheVariants as fifos
use Rattle.orb_layout.specs.declared.status.StatusKind.TheVariants as kinds
use Rattle.sbp_journal.specs.declared.cause.Cause.TheVariants as ignored
use Rattle.sbp_journal.specs.declared.note.Note.TheVariants as notes
use Rattle.sbp_journal.specs.declared.operation.Operation.TheVariants as operations
use Rattle.sbp_session.specs.declared.seat.Origin.TheVariants as origins
use Rattle.sbp_session.specs.declared.seat.Seat.TheVariants as seats
use Rattle.sbp_world.proofs.Sessions.Presents.{Fewer, take_fewer}
use Rattle.sbp_world.proofs.Sessions.Sessions.{acts as session_acts, drop_seat, expires as session_expires, is_plain, own_write, ends_for as session_ends, quadlets_at as session_quadlets, responds as session_responds, sees as session_sees, serves as session_serves, takes_as as session_takes}
use Rattle.sbp_world.proofs.Common.{untrue, none_is}

-- ---- the moves that end nothing with status 00

live_plain : (event : Event) (live : _) (response : LoginResponse) → is_plain event ≡ true → joined_with (from_live event live) ≡ Some response → joined_with (seats.Live live) ≡ Some response
live_plain sent live response p e = by live.pointing e
  where
    by : (b : Bool) → joined_with (cond b (seats.Live live) (seats.Leaving live.response)) ≡ Some response → joined_with (seats.Live live) ≡ Some response
    by true f = f
    by false f = f
live_plain (entered other) live response p e = untrue p
live_plain good live response p e = untrue p
live_plain bad live response p e = e
live_plain conflict live response p e = e
live_plain pointing live response p e = e
live_plain pointed live response p e = e
live_plain reset live response p e = none_is response e
live_plain failed live response p e = none_is response e

entering_plain : (event : Event) → is_plain event ≡ true → joined_with (from_entering event) ≡ None
entering_plain sent p = refl
entering_plain (entered other) p = untrue p
entering_plain good p = untrue p
entering_plain bad p = refl
entering_plain conflict p = refl
entering_plain pointing p = refl
entering_plain pointed p = refl
entering_plain reset p = refl
entering_plain failed p = refl

out_plain : (event : Event) → joined_with (from_out event) ≡ None
out_plain sent = refl
out_plain (entered other) = refl
out_plain good = refl
out_plain bad = refl
out_plain conflict = refl
out_plain pointing = refl
out_plain pointed = refl
out_plain reset = refl
out_plain failed = refl

held_plain : (event : Event) (own : LoginResponse) → joined_with (from_held event own) ≡ None
held_plain sent own = refl
held_plain (entered other) own = refl
held_plain good own = refl
held_plain bad own = refl
held_plain conflict own = refl
held_plain pointing own = refl
held_plain pointed own = refl
held_plain reset own = refl
held_plain failed own = refl

returning_plain : (event : Event) (own : LoginResponse) → is_plain event ≡ true → joined_with (from_returning event own) ≡ None
returning_plain sent own p = refl
returning_plain (entered other) own p = refl
returning_plain good own p = untrue p
returning_plain bad own p = refl
returning_plain conflict own p = refl
returning_plain pointing own p = refl
returning_plain pointed own p = refl
returning_plain reset own p = refl
returning_plain failed own p = refl

leaving_plain : (event : Event) (own response : LoginResponse) → is_plain event ≡ true → joined_with (goes event (seats.Leaving own)) ≡ Some response → joined_with (seats.Leaving own) ≡ Some response
unfolding goes
leaving_plain sent own response p e = e
leaving_plain (entered other) own response p e = untrue p
leaving_plain good own response p e = untrue p
leaving_plain bad own response p e = none_is response e
leaving_plain conflict own response p e = e
leaving_plain pointing own response p e = e
leaving_plain pointed own response p e = e
leaving_plain reset own response p e = none_is response e
leaving_plain failed own response p e = none_is response e

stuck_reset : (origin : Origin) → joined_with (from_stuck reset origin) ≡ None
stuck_reset (origins.Out out) = refl
stuck_reset (origins.Entering entering) = refl
stuck_reset (origins.Live live) = refl
stuck_reset (origins.Held own) = refl
stuck_reset (origins.Returning own) = refl
stuck_reset (origins.Leaving own) = refl

stuck_plain : (event : Event) (origin : Origin) → joined_with (from_stuck event origin) ≡ None
stuck_plain sent origin = refl
stuck_plain (entered other) origin = refl
stuck_plain good origin = refl
stuck_plain bad origin = refl
stuck_plain conflict origin = refl
stuck_plain pointing origin = refl
stuck_plain pointed origin = refl
stuck_plain reset origin = stuck_reset origin
stuck_plain failed origin = refl

plain_carried : (event : Event) (seat : Seat) (response : LoginResponse) → is_plain event ≡ true → joined_with (goes event seat) ≡ Some response → joined_with seat ≡ Some response
unfolding goes
plain_carried event (seats.Out out) response p e = none_is response (sym (out_plain event) ∙ e)
plain_carried event (seats.Entering entering) response p e = none_is response (sym (entering_plain event p) ∙ e)
plain_carried event (seats.Live live) response p e = live_plain event live response p e
plain_carried event (seats.Held own) response p e = none_is response (sym (held_plain event own) ∙ e)
plain_carried event (seats.Returning own) response p e = none_is response (sym (returning_plain event own p) ∙ e)
plain_carried event (seats.Leaving own) response p e = leaving_plain event own response p e
plain_carried event (seats.Stuck origin) response p e = none_is response (sym (stuck_plain event origin) ∙ e)

reset_carried : (seat : Seat) → joined_with (goes reset seat) ≡ None
unfolding goes
reset_carried (seats.Out out) = refl
reset_carried (seats.Entering entering) = refl
reset_carried (seats.Live live) = refl
reset_carried (seats.Held own) = refl
reset_carried (seats.Returning own) = refl
reset_carried (seats.Leaving own) = refl
reset_carried (seats.Stuck origin) = stuck_reset origin

-- ---- a status of 00

-- what it makes of the session of an operation that fits it
abbrev Ends : Operation → Seat → List ℕ → LoginResponse → Type 0
Ends operation seat buffer response =
    (joined_with seat ≡ Some response) ⊎ (((operation ≡ operations.Login) × ((seat ≡ seats.Entering tt) × (response ≡ login_response buffer))) ⊎ ((operation ≡ operations.Reconnect) × (seat ≡ seats.Returning response)))

logs_in : (seat : Seat) (buffer : List ℕ) (response : LoginResponse) → Sits (Some operations.Login) (session_in seat) → joined_with (goes (entered (login_response buffer)) seat) ≡ Some response → Ends operations.Login seat buffer response
unfolding goes
logs_in (seats.Entering entering) buffer response s e =
    let told : response ≡ login_response buffer = cc in
    inr (inl (refl, (refl, told)))
logs_in (seats.Stuck origin) buffer response s e = none_is response e
logs_in (seats.Out out) buffer response s e = absurd s
logs_in (seats.Live live) buffer response s e = absurd s
logs_in (seats.Held own) buffer response s e = absurd s
logs_in (seats.Returning own) buffer response s e = absurd s
logs_in (seats.Leaving own) buffer response s e = absurd s

comes_back : (seat : Seat) (buffer : List ℕ) (response : LoginResponse) → Sits (Some operations.Reconnect) (session_in seat) → joined_with (goes good seat) ≡ Some response → Ends operations.Reconnect seat buffer response
unfolding goes
comes_back (seats.Returning own) buffer response s e =
    let same : own ≡ response = cc in
    inr (inr (refl, ap seats.Returning same))
comes_back (seats.Stuck origin) buffer response s e = none_is response e
comes_back (seats.Out out) buffer response s e = absurd s
comes_back (seats.Entering entering) buffer response s e = absurd s
comes_back (seats.Live live) buffer response s e = absurd s
comes_back (seats.Held own) buffer response s e = absurd s
comes_back (seats.Leaving own) buffer response s e = absurd s

leaves : (seat : Seat) (response : LoginResponse) → Sits (Some operations.Logout) (session_in seat) → joined_with (goes good seat) ≡ Some response → joined_with seat ≡ Some response
unfolding goes
leaves (seats.Leaving own) response s e = none_is response e
leaves (seats.Stuck origin) response s e = none_is response e
leaves (seats.Out out) response s e = absurd s
leaves (seats.Entering entering) response s e = absurd s
leaves (seats.Live live) response s e = absurd s
leaves (seats.Held own) response s e = absurd s
leaves (seats.Returning own) response s e = absurd s

good_ends : (running : Running) (operation : Operation) (o : OutboxState) (u : InitiatorState) → (let run = record running { operation = operation } in Sits (Some operation) (session_in u.seat) → (response : LoginResponse) → joined_with (then_step (good_end run) (drop_where (ends_list (Some operation)) o u)).1.seat ≡ Some response → Ends operation u.seat (response_of run u) response)
good_ends running operations.Rom o u s response e = inl e
good_ends running operations.Login o u s response e = logs_in u.seat (response_of (record running { operation = operations.Login }) u) response s e
good_ends running operations.Query o u s response e = inl e
good_ends running operations.Reconnect o u s response e = comes_back u.seat (response_of (record running { operation = operations.Reconnect }) u) response s e
good_ends running operations.Logout o u s response e =
    inl (leaves u.seat response s (ap (λ (x : Seat). joined_with (goes good x)) (sym (drop_seat (drop_lists u.lists) o u)) ∙ e))
good_ends running operations.Abort o u s response e = inl e
good_ends running operations.AbortSet o u s response e = inl (ap joined_with (sym (drop_seat (drop_lists u.lists) o u)) ∙ e)
good_ends running operations.UnitReset o u s response e = inl (ap joined_with (sym (drop_seat (drop_lists u.lists) o u)) ∙ e)
good_ends running operations.TargetReset o u s response e = inl (ap joined_with (sym (drop_seat (drop_lists u.lists) o u)) ∙ e)
good_ends running operations.AgentReset o u s response e = inl (ap joined_with (sym (drop_seat (drop_lists u.lists) o u)) ∙ e)
good_ends running operations.State o u s response e = inl e
good_ends running operations.Enable o u s response e = inl e

-- ---- a delivery
module _ (s : InitiatorState) (fits : Sits (operation_by (own_core s).work) (own_core s).session) (generation : ℕ) (bytes : List ℕ) where
  abbrev Case : LoginResponse → Type 0
  Case response = (joined_with s.seat ≡ Some response) ⊎ IsAdmitted s generation bytes response

  abbrev Sit : Seat → ListState → Type 0
  Sit seat lists = (response : LoginResponse) → joined_with seat ≡ Some response → Case response

  plain : (event : Event) (seat : Seat) (lists : ListState) → is_plain event ≡ true → Sit seat lists → Sit (goes event seat) lists
  plain event seat lists p h = λ response e. h response (plain_carried event seat response p e)

  relist : (seat : Seat) (old new : ListState) → Fewer old new → Sit seat old → Sit seat new
  relist seat old new f h = h

  abbrev At : Turn → Type 0
  At t = Sit t.1.seat t.1.lists

  responds : (p : Packet) (rcode : ℕ) (given : List ℕ) (t : Turn) → At t → At (respond_step p bytes rcode given t)
  responds p rcode given t h = session_responds Sit plain relist p bytes rcode given t h

  pick_judged : (b : Bool) (x y : Judged × Turn) → At x.1 → At y.1 → At (cond b x y).1
  pick_judged true x y h i = h
  pick_judged false x y h i = i

  pick : (b : Bool) (x y : Turn) → (b ≡ true → At x) → (b ≡ false → At y) → At (cond b x y)
  pick true x y h i = h refl
  pick false x y h i = i refl

  admitted : (running : Running) (response : LoginResponse) → IsGranted s generation bytes running → Ends running.operation s.seat (response_of running s) response → Case response
  admitted running response g (inl e) = inl e
  admitted running response g (inr (inl (operation, (entering, told)))) = inr (record { running = running; granted = g; by = inl (record { operation = operation; entering = entering; told = told }) })
  admitted running response g (inr (inr (operation, returning))) = inr (record { running = running; granted = g; by = inr (record { operation = operation; returning = returning }) })

  -- what the packet is, as it is known so far
  module _ (layer : Layer Purpose) (o : OutboxState) where
    abbrev u : InitiatorState
    u = record s { layer = layer }

    here : Sit s.seat s.lists
    here response e = inl e

    moves_bad : (b : Bool) → Sit (cond b (goes bad s.seat) s.seat) s.lists
    moves_bad true = plain bad s.seat s.lists refl here
    moves_bad false = here

    bad_seat : (operation : Operation) → (moved operation bad (called u)).seat ≡ cond (moves_session operation) (goes bad s.seat) s.seat
    bad_seat operation = by (moves_session operation)
      where
        by : (b : Bool) → (cond b (record (called u) { seat = goes bad s.seat }) (called u)).seat ≡ cond b (goes bad s.seat) s.seat
        by true = refl
        by false = refl

    manages : (running : Running) (status : ℕ) → s.operation ≡ Some running → ((status == 0) ≡ true → IsGranted s generation bytes running) → At (managed_step running status o (called u))
    manages running status is g =
        let sits : Sits (Some running.operation) (session_in s.seat) = subst (λ (x : Option Running). Sits (operation_by (work_in x)) (session_in s.seat)) is fits in
        pick (status == 0) _ _
        (λ z response e. admitted running response (g z) (good_ends running running.operation o (called u) sits response e))
        (λ z response e. moves_bad (moves_session running.operation) response (ap joined_with (sym (bad_seat running.operation)) ∙ e))

    module _ (header : Header) (offset : ℕ) (payload : List ℕ) (found : (judging_step s.layer generation bytes).0 ≡ of_request (write_block header offset payload)) (source : header.source ≡ s.target) (opens : is_open (fifo_of s offset) ≡ true) where
      abbrev p : Packet
      p = write_block header offset payload

      managed : (block : StatusBlock) (status : ℕ) → status_in payload ≡ Ok block → block.kind ≡ kinds.Management status → (x : Option Running) → present_for block.orb s.operation ≡ x → At (managed_for x status p bytes o u).1
      managed block status read kind None e = responds p 0 [] (o, u) here
      managed block status read kind (Some running) e =
          let i = present_by block.orb s.operation running (is_present_orb block.orb s.operation) refl e in
          responds p 0 [] (managed_step running status o (called u)) (manages running status i.is (λ z.
          let zero : status ≡ 0 = grind (arith, nat_tests) in
          record {
            header = header;
            offset = offset;
            payload = payload;
            found = found;
            source = source;
            is_open_fifo = opens;
            block = block;
            read = read;
            kind = kind ∙ ap kinds.Management zero;
            under_way = i.is;
            names = i.named;
          }))

      takes : (block : StatusBlock) (kind : StatusKind) → At (taken_as (take_lists u.lists block) kind p bytes o u).1
      takes block kind = session_takes Sit plain relist (take_lists u.lists block) kind p bytes o u (take_fewer u.lists block) here

      kinds_by : (block : StatusBlock) → status_in payload ≡ Ok block → (kind : StatusKind) → block.kind ≡ kind → At (block_by kind block p bytes o u).1
      kinds_by block read (kinds.Management status) k = managed block status read k (present_for block.orb s.operation) refl
      kinds_by block read kinds.Good k = takes block kinds.Good
      kinds_by block read (kinds.Check sense) k = takes block (kinds.Check sense)
      kinds_by block read kinds.Dummy k = takes block kinds.Dummy
      kinds_by block read kinds.Aborted k = takes block kinds.Aborted
      kinds_by block read (kinds.Illegal meaning) k = takes block (kinds.Illegal meaning)
      kinds_by block read kinds.Failed k = takes block kinds.Failed

      blocks : (r : Result StatusBlock OrbFault) → status_in payload ≡ r → At (block_step r p bytes o u).1
      blocks (Err fault) read = responds p 5 [] (o, u) here
      blocks (Ok block) read = kinds_by block read block.kind refl

      statuses : (is_login : Bool) → At (status_step is_login payload p bytes o u).1
      statuses is_login =
          pick_judged (is_login && is_block payload) (got_step p bytes (told o (notes.Told s.number), called u)) (block_step (status_in payload) p bytes o u)
          (responds p 0 [] (told o (notes.Told s.number), called u) here) (blocks (status_in payload) refl)

    serves : (p : Packet) → At (serve_step p bytes o u).1
    serves p = session_serves Sit plain relist p bytes o u here

    fifos_by : (header : Header) (offset : ℕ) (payload : List ℕ) → (judging_step s.layer generation bytes).0 ≡ of_request (write_block header offset payload) → header.source ≡ s.target → (fifo : Option Fifo) → fifo_of s offset ≡ fifo → At (block_at fifo payload (write_block header offset payload) bytes o u).1
    fifos_by header offset payload found source None e = serves (write_block header offset payload)
    fifos_by header offset payload found source (Some fifos.Closed) e = responds (write_block header offset payload) 7 [] (o, u) here
    fifos_by header offset payload found source (Some fifos.Login) e = statuses header offset payload found source (ap is_open e) true
    fifos_by header offset payload found source (Some fifos.Place) e = statuses header offset payload found source (ap is_open e) false

    reaches : (p : Packet) → (judging_step s.layer generation bytes).0 ≡ of_request p → is_foreign p u ≡ false → At (addressed p bytes o u).1
    reaches (read_quadlet header offset) found f = serves (read_quadlet header offset)
    reaches (read_block header offset asked) found f = serves (read_block header offset asked)
    reaches (write_quadlet header offset value) found f = session_quadlets Sit plain relist (fifo_of u offset) (write_quadlet header offset value) bytes o u here
    reaches (write_block header offset payload) found f = fifos_by header offset payload found (own_write header.source s.target f) (fifo_of s offset) refl
    reaches (write_response header rcode) found f = serves (write_response header rcode)
    reaches (read_quadlet_response header rcode value) found f = serves (read_quadlet_response header rcode value)
    reaches (read_block_response header rcode payload) found f = serves (read_block_response header rcode payload)
    reaches (lock header offset extended payload) found f = serves (lock header offset extended payload)
    reaches (lock_response header rcode extended payload) found f = serves (lock_response header rcode extended payload)

    requests : (p : Packet) → (judging_step s.layer generation bytes).0 ≡ of_request p → At (request_step p bytes o u).1
    requests p found = by (is_foreign p u) refl
      where
        by : (b : Bool) → is_foreign p u ≡ b → At (cond b (ignored_step ignored.Source 7 p bytes (o, u)) (addressed p bytes o u)).1
        by true e = responds p 7 [] (o, u) here
        by false e = reaches p found e

  received_as : (f : Finding Purpose) → (judging_step s.layer generation bytes).0 ≡ f → (layer : Layer Purpose) → At (received (f, layer) bytes empty_outbox s).1
  received_as of_generation found layer = λ response e. inl e
  received_as of_grammar found layer = λ response e. inl e
  received_as of_label found layer = λ response e. inl e
  received_as (of_response p label purpose) found layer = session_ends Sit plain relist purpose (ending_of p) empty_outbox (called (record s { layer = layer })) (λ response e. inl e)
  received_as (of_again p rcode) found layer = responds p rcode [] (empty_outbox, record s { layer = layer }) (λ response e. inl e)
  received_as (of_request p) found layer = requests layer empty_outbox p found

  delivery_enters : At (receive_step generation bytes empty_outbox s).1
  unfolding receive_step
  delivery_enters = received_as (judging_step s.layer generation bytes).0 refl (judging_step s.layer generation bytes).1

-- ---- every other call
module _ (s : InitiatorState) where
  abbrev Was : Seat → ListState → Type 0
  Was seat lists = (response : LoginResponse) → joined_with seat ≡ Some response → joined_with s.seat ≡ Some response

  was_plain : (event : Event) (seat : Seat) (lists : ListState) → is_plain event ≡ true → Was seat lists → Was (goes event seat) lists
  was_plain event seat lists p h = λ response e. h response (plain_carried event seat response p e)

  was_relist : (seat : Seat) (old new : ListState) → Fewer old new → Was seat old → Was seat new
  was_relist seat old new f h = h

  was_here : Was s.seat s.lists
  was_here response e = e

  enters_by : Sits (operation_by (own_core s).work) (own_core s).session → SessionsEnter s
  enters_by fits = record {
    deliveries = λ generation bytes. delivery_enters s fits generation bytes;
    expiries = λ label. session_expires Was was_plain was_relist label empty_outbox s was_here;
    sights = λ generation id target. session_sees Was was_plain was_relist generation id target empty_outbox s (λ lists f response e. none_is response (sym (reset_carried s.seat) ∙ e)) (λ f. was_here);
    actions = λ action. session_acts Was was_plain was_relist action empty_outbox s (λ e p lists. was_here) was_here;
  }

pub entering_law : EnteringLaw
entering_law = record {
  after_lines = λ run r i b.
      enters_by (initiator_at (after (beginning run) run.entries).world i)
      (of_runs (Cored run.ready) (cored_carried run.ready) 0 run (λ entries few short all fit j c. tt) (λ j c. first_cored 0 j run.initiators run.ready c) r i b).sits;
  between = λ run r most told m i b.
      enters_by (initiator_at (after_all told (begun (after (beginning run) run.entries))).world i)
      (between_runs (Cored run.ready) (cored_carried run.ready) 0 run (λ entries few short all fit j c. tt) (λ j c. first_cored 0 j run.initiators run.ready c) r 0 most told m i b).sits;
}
