-- What a delivery leaves of what an initiator holds: a login that is done brings the response in its buffer, and a block that is written is stored there.
use Rattle.sbp_world.proofs.Words.Std.{arith, ◌≡◌, ◌∙◌, refl, sym, ap, subst, ℕ, suc, ◌<◌, ◌==◌, ◌&&◌, nat_eq, Bool, true, false, cond, List, [], ◌∷◌, length, Option, Some, None, Result, Ok, Err, slice_index_or, unwrap_or, nat_tests, big_bytes}
use Rattle.sbp_world.proofs.Words.Wire.{Header, PacketFault, Packet, header_in, lock, lock_response, read_block, read_block_response, read_quadlet, read_quadlet_response, write_block, write_quadlet, write_response, reading, Finding, Layer, answering_step, judging_step, of_again, of_generation, of_grammar, of_label, of_request, of_response, judged_note, Access, access_of, OutboxState, empty_outbox, Moment, said, Sending, part_of, writing, Terms, terms, Cause, Judged, Operation}
use Rattle.sbp_world.proofs.Words.Target.{is_block}
use Rattle.sbp_world.proofs.Words.Initiator.{read_step, write_step, window_at, Fifo, OrbFault, LoginResponse, StatusBlock, StatusKind, login_response, query_count, ListState, take_lists, unpin_lists, write_lists, Purpose, Running, InitiatorState, Turn, drop_list_step, drop_where, end_step, ended_for, good_end, managed_step, moved, response_of, then_step, told, addressed, block_at, block_by, block_step, called, fifo_of, got_step, ignored_step, is_foreign, managed_for, present_for, quadlet_at, read_as, receive_step, received, request_step, respond_step, responded_as, serve_step, status_step, taken_as, type_error, written_as, ends_list, ending_of, is_present_orb, place_in, place_of, status_in, carried, carried_on, Event, bad, entered, good, Seat}
use Rattle.sbp_world.proofs.Words.Laws.{Host, Underway, host_at, is_management, op_ended, stored, stored_in, access_at, access_in, answered_at, packet_in, receiver_in, spelled_by}
use Rattle.sbp_world.proofs.Words.World.{behind, Core, Work, work_in, work_of, IsBlockWrite, AreBuffers}
use Rattle.std.specs.Prelude.{replicate}
use Rattle.bus_transactions.proofs.PacketParts.{part_read}
use Rattle.sbp_world.proofs.Hosts.Answering.{request_of}
use Rattle.sbp_world.proofs.Hosts.Cores.{got_told}
use Rattle.sbp_world.proofs.Hosts.Hosted.{Cored, hears_fit}
use Rattle.sbp_world.proofs.Hosts.KnowHears.{IfFits}
use Rattle.sbp_world.proofs.Hosts.Shown.{IsHeard}
use Rattle.sbp_world.specs.Hosts.Core.{placed}
use Rattle.initiator_base.specs.declared.fifos.Fifo.TheVariants as fifos
use Rattle.sbp_initiator.proofs.Histories.Effects.{Fits}
use Rattle.sbp_initiator.proofs.Histories.Purposes.{IfFor}
use Rattle.orb_layout.specs.declared.status.StatusKind.TheVariants as kinds
use Rattle.sbp_journal.specs.declared.cause.Cause.TheVariants as causes
use Rattle.sbp_journal.specs.declared.cause.Judged.TheVariants as judgements
use Rattle.sbp_journal.specs.declared.note.Note.TheVariants as notes
use Rattle.sbp_journal.specs.declared.operation.Operation.TheVariants as operations
use Rattle.sbp_journal.specs.declared.operation.OpWord.TheVariants as words
use Rattle.sbp_laws.specs.Hosts.{is_serial}
use Rattle.sbp_laws.specs.Hosts as hosts
use Rattle.sbp_session.proofs.Rows.{response_by_moves}
use Rattle.sbp_session.specs.declared.seat.Seat.TheVariants as seats
use Rattle.sbp_world.proofs.Sessions.Buffers.{at_far, buffers_stand, stored_far, writes}
use Rattle.sbp_world.proofs.Sessions.Gears.{Gear, gear_at, gear_of, got_stays, got_stores, is_mild, stores}
use Rattle.sbp_world.proofs.Sessions.Mild.{Mild, calls, drops, ends_mild, ends_moved, is_old, refused_mild, responds, still, takes, tells}
use Rattle.sbp_world.proofs.Sessions.Places.{take_places, unpin_places}
use Rattle.sbp_world.proofs.Sessions.Holding.{Leaves, Own, leaves_mild, mild_self, none_is, own_gear, response_access, whole_of}
use Rattle.sbp_world.proofs.Agents.Management.Hearing.{answers_none}
use Rattle.sbp_world.proofs.Common.{untrue}

-- ---- the place of a login is the same one

pub same_login : (underway : Underway) (place : Option ℕ) → work_of (Some underway) ≡ Some (record { operation = operations.Login; place = place }) → Some underway.place ≡ place
same_login underway place e =
    let operation : underway.operation ≡ operations.Login = ap (λ (x : Option Work). operation_or underway.operation x) e in
    let own : cond (is_management underway.operation) (Some underway.place) None ≡ place = ap place_or e in
    ap (λ op. cond (is_management op) (Some underway.place) None) (sym operation) ∙ own
  where
    operation_or : Operation → Option Work → Operation
    operation_or other None = other
    operation_or other (Some work) = work.operation

    place_or : Option Work → Option ℕ
    place_or None = None
    place_or (Some work) = work.place

pub placed_same : (place : ℕ) (managed : Option ℕ) → Some place ≡ placed managed → place ≡ place_of (unwrap_or managed 0)
placed_same place (Some n) g = cc
placed_same place None g = absurd (let no : Some place ≡ None = g in cc)

same_place : (underway : Option Underway) (managed : Option ℕ) → work_of underway ≡ Some (record { operation = operations.Login; place = placed managed }) → hosts.place_in underway ≡ place_of (unwrap_or managed 0)
same_place None managed e = absurd (let no : None ≡ Some (record { operation = operations.Login; place = placed managed }) = e in cc)
same_place (Some underway) managed e = placed_same underway.place managed (same_login underway (placed managed) e)

-- ---- a delivery

module _ (ready : Bool) (past : List Moment) (i : ℕ) (s : InitiatorState) (c : Cored ready past i s) (serial generation : ℕ) (bytes : List ℕ) (heard : IsHeard past i serial generation bytes) (Case : Judged → Type 0) (h : (judged : Judged) → Case judged → Own past i s) (blocks : Case judgements.Got → is_serial (receiver_in ((terms past).sent serial)) (suc i) ≡ true → IsBlockWrite (access_at (terms past) serial)) where
  abbrev T : Terms
  T = terms past

  abbrev host : Host
  host = host_at past i

  -- what a judgement leaves
  abbrev Holds : Judged × Turn → Type 0
  Holds r = Leaves (Case r.0) (said (judged_note serial r.0) ∷ past) i r.1

  ignores : (cause : Cause) (t : Turn) → Mild s t → Holds (judgements.Ignored cause, t)
  ignores cause t m = leaves_mild (Case (judgements.Ignored cause)) (said (notes.Ignored serial cause) ∷ past) i s t m (λ x. own_gear past (said (notes.Ignored serial cause) ∷ past) i s refl (h (judgements.Ignored cause) x))

  gets : (t : Turn) → stored (access_at T serial) host.responses ≡ host.responses → Mild s t → Holds (judgements.Got, t)
  gets t e m = leaves_mild (Case judgements.Got) (said (notes.Got serial) ∷ past) i s t m (λ x. own_gear past (said (notes.Got serial) ∷ past) i s (got_stays past i serial generation bytes heard e) (h judgements.Got x))

  access_read : (p : Packet) → reading bytes ≡ Ok p → access_at T serial ≡ access_of p
  access_read p read =
      ap (λ (x : Option Sending). access_in (packet_in x)) heard.sent
      ∙ ap (λ xs. access_in (spelled_by (reading xs))) heard.bytes_are
      ∙ ap (λ (r : Result Packet PacketFault). access_in (spelled_by r)) read

  stored_is : (access : Option Access) → access_at T serial ≡ access → stored access host.responses ≡ host.responses → stored (access_at T serial) host.responses ≡ host.responses
  stored_is access e f = ap (λ (a : Option Access). stored a host.responses) e ∙ f

  pick : (b : Bool) (x y : Judged × Turn) → Holds x → Holds y → Holds (cond b x y)
  pick true x y k l = k
  pick false x y k l = l

  module _ (layer : Layer Purpose) where
    abbrev u : InitiatorState
    u = record s { layer = layer }

    here : Mild s (empty_outbox, u)
    here = still s (empty_outbox, s) empty_outbox u refl (λ response e. e) refl refl (λ running e. e) (mild_self s)

    ignored : (cause : Cause) (p : Packet) (rcode : ℕ) (given : List ℕ) → Holds (judgements.Ignored cause, respond_step p bytes rcode given (empty_outbox, u))
    ignored cause p rcode given = ignores cause (respond_step p bytes rcode given (empty_outbox, u)) (responds s p bytes rcode given (empty_outbox, u) here)

    -- a request that was found, whose access stores nothing
    module _ (p : Packet) (found : (judging_step s.layer generation bytes).0 ≡ of_request p) where
      read : reading bytes ≡ Ok p
      read = (request_of s.layer generation bytes p found).read

      access_is : access_at T serial ≡ access_of p
      access_is = access_read p read

      gives : stored (access_of p) host.responses ≡ host.responses → (rcode : ℕ) (given : List ℕ) → Holds (judgements.Got, respond_step p bytes rcode given (empty_outbox, called u))
      gives e rcode given =
          gets (respond_step p bytes rcode given (empty_outbox, called u)) (stored_is (access_of p) access_is e) (responds s p bytes rcode given (empty_outbox, called u) (calls s empty_outbox u here))

      reads : stored (access_of p) host.responses ≡ host.responses → (r : ℕ × List ℕ) → Holds (read_as r p bytes empty_outbox u)
      reads e (rcode, out) = gives e rcode out

    -- a block that is written into the memory
    module _ (header : Header) (offset : ℕ) (payload : List ℕ) (found : (judging_step s.layer generation bytes).0 ≡ of_request (write_block header offset payload)) where
      abbrev p : Packet
      p = write_block header offset payload

      abbrev access : Access
      access = record { is_lock = false; is_write = true; is_block = true; offset = offset; count = length payload; payload = payload }

      nobody : answered_at T serial ≡ None
      nobody =
          answers_none T serial heard.packet header.label writing heard.sent
          (ap part_of heard.bytes_are ∙ part_read bytes p (read p found))

      stores_write : (t : Turn) → t.0.sides ≡ [] → t.1.seat ≡ s.seat → t.1.operation ≡ s.operation → t.1.lists.memory ≡ (write_step s.lists.memory offset payload).1 → Holds (judgements.Got, t)
      stores_write t sides seat operation memory =
          let e : gear_at (said (notes.Got serial) ∷ past) i ≡ stores (gear_at past i) (stored_in (window_at offset) access host.responses) =
          got_stores past i serial generation bytes heard nobody ∙ ap (λ (a : Option Access). stores (gear_at past i) (stored a host.responses)) (access_is p found) in
          record {
            own = λ x. subst (λ told. Own (behind told (said (notes.Got serial) ∷ past)) i t.1) (sym sides) (record {
              login = λ response f. ap (λ (g : Gear). g.login) e ∙ (h judgements.Got x).login response (sym (ap carried seat) ∙ f);
              responses = subst (λ y. AreBuffers y t.1.lists.memory) (sym (ap (λ (g : Gear). g.responses) e))
                  (subst (λ m. AreBuffers (stored_in (window_at offset) access host.responses) m) (sym memory) (writes s.lists.memory (whole_of ready past i s c) offset payload host.responses (h judgements.Got x).responses));
              none = λ running f g. ap carried seat ∙ (h judgements.Got x).none running (sym operation ∙ f) g;
            });
            others = λ j f. ap (λ told. gear_at (behind told (said (notes.Got serial) ∷ past)) j) sides;
          }

      written : (r : ℕ × ListState) → r.1.memory ≡ (write_step s.lists.memory offset payload).1 → Holds (written_as r p bytes empty_outbox u)
      written (rcode, lists) e = stores_write (respond_step p bytes rcode [] (empty_outbox, record (called u) { lists = lists })) refl refl refl e

      lists_written : (write_lists s.lists offset payload).1.memory ≡ (write_step s.lists.memory offset payload).1
      unfolding write_lists
      lists_written = refl

      serves_block : Holds (serve_step p bytes empty_outbox u)
      serves_block = written (write_lists s.lists offset payload) lists_written

      -- one that is written to a FIFO stores nothing
      module _ (fifo : Fifo) (at : fifo_of s offset ≡ Some fifo) where
        far : stored (access_of p) host.responses ≡ host.responses
        far = stored_far access host.responses (at_far s.counts.logins _ offset fifo at)

        far_here : stored (access_at T serial) host.responses ≡ host.responses
        far_here = stored_is (access_of p) (access_is p found) far

        takes_status : (block : StatusBlock) (kind : StatusKind) → Holds (taken_as (take_lists u.lists block) kind p bytes empty_outbox u)
        takes_status block kind = by (take_lists u.lists block) (takes s (take_lists u.lists block) kind p bytes empty_outbox u (take_places u.lists block) here)
          where
            by : (r : _) → Mild s (taken_as r kind p bytes empty_outbox u).1 → Holds (taken_as r kind p bytes empty_outbox u)
            by (None, lists) m = ignores causes.Slot _ m
            by (Some t, lists) m = gets _ far_here m

        -- the operation ends with a status
        abbrev now : List Moment
        now = said (notes.Got serial) ∷ past

        got_same : gear_at now i ≡ gear_at past i
        got_same = got_stays past i serial generation bytes heard far_here

        module _ (running : Running) (is : s.operation ≡ Some running) where
          -- the place of the run's operation
          work_is : work_of (host_at now i).operation ≡ Some (record { operation = running.operation; place = placed running.managed })
          work_is = ap (λ (x : Core). x.work) (got_told serial past i ∙ c.core) ∙ ap work_in is

          two : place_in running < 2
          two = omega arith

          buffer_is : Case judgements.Got → running.operation ≡ operations.Login → hosts.response_of (host_at now i) ≡ response_of running u
          buffer_is x login =
              let w : work_of (host_at now i).operation ≡ Some (record { operation = operations.Login; place = placed running.managed }) = work_is ∙ ap (λ op. Some (record { operation = op; place = placed running.managed })) login in
              ap (λ (y : List (List ℕ)). slice_index_or y (hosts.place_in (host_at now i).operation) []) (ap (λ (g : Gear). g.responses) got_same)
              ∙ ap (λ n. slice_index_or host.responses n []) (same_place (host_at now i).operation running.managed w)
              ∙ (h judgements.Got x).responses.each (place_in running) two

        own_now : Case judgements.Got → Own now i s
        own_now x = own_gear past now i s got_same (h judgements.Got x)

        mild_called : Mild s (empty_outbox, called u)
        mild_called = calls s empty_outbox u here

        mild_dropped : Mild s (drop_list_step empty_outbox (called u))
        mild_dropped = drops s empty_outbox (called u) mild_called

        abbrev Left : Turn → Type 0
        Left t = Leaves (Case judgements.Got) now i t

        good_mild : (operation : Operation) (word : _) (event : Event) (t : Turn) → is_old event ≡ true → ((k : ℕ) → is_mild (notes.Op k operation word) ≡ true) → Mild s t → Left (end_step operation word t.0 (moved operation event t.1))
        good_mild operation word event t p e m = leaves_mild (Case judgements.Got) now i s (end_step operation word t.0 (moved operation event t.1)) (ends_moved s operation word event t.0 t.1 p e m) own_now

        entered_on : (r0 response : LoginResponse) (seat : Seat) → carried_on (entered r0) seat ≡ Some response → carried seat ≡ None → r0 ≡ response
        entered_on r0 response (seats.Entering entering) e n = cc
        entered_on r0 response (seats.Out out) e n = none_is response e
        entered_on r0 response (seats.Live live) e n = none_is response (sym n ∙ e)
        entered_on r0 response (seats.Held own) e n = none_is response (sym n ∙ e)
        entered_on r0 response (seats.Returning own) e n = none_is response (sym n ∙ e)
        entered_on r0 response (seats.Leaving own) e n = none_is response (sym n ∙ e)
        entered_on r0 response (seats.Stuck origin) e n = none_is response (sym n ∙ e)

        -- a login is done
        logs_in : (running : Running) → s.operation ≡ Some running → running.operation ≡ operations.Login → Left (end_step operations.Login words.Done empty_outbox (moved operations.Login (entered (login_response (response_of running u))) (called u)))
        logs_in running is login =
            let note = notes.Op s.number operations.Login words.Done in
            let r0 = login_response (response_of running u) in
            let itself : nat_eq s.number i ≡ true = (let n = c.own.number in grind (arith, nat_tests)) in
            let g : gear_at (said note ∷ now) i ≡ gear_of (op_ended operations.Login words.Done (host_at now i)) =
            ap (λ b. gear_of (cond b (op_ended operations.Login words.Done (host_at now i)) (host_at now i))) itself in
            record {
              own = λ x. record {
                login = λ response e.
                    ap (λ (y : Gear). y.login) g
                    ∙ ap login_response (buffer_is running is x login)
                    ∙ entered_on r0 response s.seat (sym (response_by_moves (entered r0) s.seat) ∙ e) ((h judgements.Got x).none running is login);
                responses = subst (λ y. AreBuffers y (unpin_lists u.lists).memory) (sym (ap (λ (y : Gear). y.responses) g)) (buffers_stand (host_at now i).responses s.lists.memory (unpin_lists u.lists).memory (unpin_places u.lists) (own_now x).responses);
                none = λ other e f. absurd (let no : None ≡ Some other = e in cc);
              };
              others = λ j e.
                  let apart : nat_eq s.number j ≡ false = (let n = c.own.number in grind (arith, nat_tests)) in
                  ap (λ b. gear_of (cond b (op_ended operations.Login words.Done (host_at now j)) (host_at now j))) apart;
            }

        good_left : (running : Running) (operation : Operation) → (let run = record running { operation = operation } in s.operation ≡ Some run → Left (then_step (good_end run) (drop_where (ends_list (Some operation)) empty_outbox (called u))))
        good_left running operations.Rom is = good_mild operations.Rom words.Done good (empty_outbox, called u) refl (λ k. refl) mild_called
        good_left running operations.Login is = logs_in (record running { operation = operations.Login }) is refl
        good_left running operations.Query is = good_mild operations.Query (words.Count (query_count (response_of running u))) good (empty_outbox, called u) refl (λ k. refl) mild_called
        good_left running operations.Reconnect is = good_mild operations.Reconnect words.Done good (empty_outbox, called u) refl (λ k. refl) mild_called
        good_left running operations.Logout is = good_mild operations.Logout words.Done good (drop_list_step empty_outbox (called u)) refl (λ k. refl) mild_dropped
        good_left running operations.Abort is = good_mild operations.Abort words.Done good (empty_outbox, called u) refl (λ k. refl) mild_called
        good_left running operations.AbortSet is = good_mild operations.AbortSet words.Done good (drop_list_step empty_outbox (called u)) refl (λ k. refl) mild_dropped
        good_left running operations.UnitReset is = good_mild operations.UnitReset words.Done good (drop_list_step empty_outbox (called u)) refl (λ k. refl) mild_dropped
        good_left running operations.TargetReset is = good_mild operations.TargetReset words.Done good (drop_list_step empty_outbox (called u)) refl (λ k. refl) mild_dropped
        good_left running operations.AgentReset is = good_mild operations.AgentReset words.Done good (drop_list_step empty_outbox (called u)) refl (λ k. refl) mild_dropped
        good_left running operations.State is = good_mild operations.State words.Done good (empty_outbox, called u) refl (λ k. refl) mild_called
        good_left running operations.Enable is = good_mild operations.Enable words.Done good (empty_outbox, called u) refl (λ k. refl) mild_called

        pick_left : (b : Bool) (x y : Turn) → Left x → Left y → Left (cond b x y)
        pick_left true x y k l = k
        pick_left false x y k l = l

        managed_left : (running : Running) (status : ℕ) → s.operation ≡ Some running → Left (managed_step running status empty_outbox (called u))
        managed_left running status is =
            pick_left (status == 0) _ _ (good_left running running.operation is)
            (good_mild running.operation (words.Refused status) bad (empty_outbox, called u) refl (λ k. refused_mild s k running.operation status) mild_called)

        answered_left : (r : List ℕ × Layer Purpose) (source : ℕ) (o : OutboxState) (v : InitiatorState) → Left (o, v) → Left (responded_as r source o v)
        answered_left (response, other) source o v l = record { own = λ x. record { login = (l.own x).login; responses = (l.own x).responses; none = (l.own x).none }; others = l.others }

        present_is : (orb : ℕ) (operation : Option Running) (running : Running) (b : Bool) → cond b operation None ≡ Some running → operation ≡ Some running
        present_is orb operation running true e = e
        present_is orb operation running false e = absurd (let no : None ≡ Some running = e in cc)

        managed_for_left : (block : StatusBlock) (status : ℕ) (found : Option Running) → present_for block.orb s.operation ≡ found → Holds (managed_for found status p bytes empty_outbox u)
        managed_for_left block status None e = ignored causes.Slot p 0 []
        managed_for_left block status (Some running) e =
            let t = managed_step running status empty_outbox (called u) in
            answered_left (answering_step t.1.layer p bytes 0 []) (header_in p).source t.0 t.1 (managed_left running status (present_is block.orb s.operation running (is_present_orb block.orb s.operation) e))

        kinds_left : (block : StatusBlock) (kind : StatusKind) → Holds (block_by kind block p bytes empty_outbox u)
        kinds_left block (kinds.Management status) = managed_for_left block status (present_for block.orb s.operation) refl
        kinds_left block kinds.Good = takes_status block kinds.Good
        kinds_left block (kinds.Check sense) = takes_status block (kinds.Check sense)
        kinds_left block kinds.Dummy = takes_status block kinds.Dummy
        kinds_left block kinds.Aborted = takes_status block kinds.Aborted
        kinds_left block (kinds.Illegal meaning) = takes_status block (kinds.Illegal meaning)
        kinds_left block kinds.Failed = takes_status block kinds.Failed

        block_left : (r : Result StatusBlock OrbFault) → Holds (block_step r p bytes empty_outbox u)
        block_left (Err fault) = ignored causes.Grammar p 5 []
        block_left (Ok block) = kinds_left block block.kind

        status_left : (is_login : Bool) → Holds (status_step is_login payload p bytes empty_outbox u)
        status_left is_login =
            let t : Turn = (told empty_outbox (notes.Told s.number), called u) in
            pick (is_login && is_block payload) (got_step p bytes t) (block_step (status_in payload) p bytes empty_outbox u)
            (gets (respond_step p bytes 0 [] t) far_here (responds s p bytes 0 [] t (tells s (notes.Told s.number) empty_outbox (called u) refl mild_called)))
            (block_left (status_in payload))

      fifos_by : (fifo : Option Fifo) → fifo_of s offset ≡ fifo → Holds (block_at fifo payload p bytes empty_outbox u)
      fifos_by None e = serves_block
      fifos_by (Some fifos.Closed) e = ignored causes.Login p 7 []
      fifos_by (Some fifos.Login) e = status_left fifos.Login e true
      fifos_by (Some fifos.Place) e = status_left fifos.Place e false

    -- a quadlet that is written was not got
    module _ (header : Header) (offset value : ℕ) (found : (judging_step s.layer generation bytes).0 ≡ of_request (write_quadlet header offset value)) where
      abbrev q : Packet
      q = write_quadlet header offset value

      to_it : is_serial (receiver_in (T.sent serial)) (suc i) ≡ true
      to_it =
          ap (λ (x : Option Sending). is_serial (receiver_in x) (suc i)) heard.sent
          ∙ (let to_is = heard.to_is in let e : nat_eq heard.packet.to (suc i) ≡ true = grind (arith, nat_tests) in e)

      no_quadlet : Case judgements.Got → false ≡ true
      no_quadlet x = subst IsBlockWrite (access_is q found) (blocks x to_it) refl

      unserved : (r : ℕ × ListState) → Holds (written_as r q bytes empty_outbox u)
      unserved (rcode, lists) = record { own = λ x. untrue (no_quadlet x); others = λ j e. refl }

      quadlets_by : (fifo : Option Fifo) → Holds (quadlet_at fifo q bytes empty_outbox u)
      quadlets_by None = unserved (write_lists u.lists offset (big_bytes 4 value))
      quadlets_by (Some fifos.Closed) = ignored causes.Login q 7 []
      quadlets_by (Some fifos.Login) = unserved (write_lists u.lists offset (big_bytes 4 value))
      quadlets_by (Some fifos.Place) = unserved (write_lists u.lists offset (big_bytes 4 value))

    reaches : (p : Packet) → (judging_step s.layer generation bytes).0 ≡ of_request p → Holds (addressed p bytes empty_outbox u)
    reaches (write_block header offset payload) found = fifos_by header offset payload found (fifo_of s offset) refl
    reaches (write_quadlet header offset value) found = quadlets_by header offset value found (fifo_of u offset)
    reaches (read_quadlet header offset) found = reads (read_quadlet header offset) found refl (read_step s.lists.memory offset (replicate 4 0))
    reaches (read_block header offset asked) found = reads (read_block header offset asked) found refl (read_step s.lists.memory offset (replicate asked 0))
    reaches (lock header offset extended payload) found = gives (lock header offset extended payload) found refl type_error []
    reaches (write_response header rcode) found = gives (write_response header rcode) found refl type_error []
    reaches (read_quadlet_response header rcode value) found = gives (read_quadlet_response header rcode value) found refl type_error []
    reaches (read_block_response header rcode payload) found = gives (read_block_response header rcode payload) found refl type_error []
    reaches (lock_response header rcode extended payload) found = gives (lock_response header rcode extended payload) found refl type_error []

    requests : (p : Packet) → (judging_step s.layer generation bytes).0 ≡ of_request p → Holds (request_step p bytes empty_outbox u)
    requests p found =
        pick (is_foreign p u) (ignored_step causes.Source 7 p bytes (empty_outbox, u)) (addressed p bytes empty_outbox u) (ignored causes.Source p 7 []) (reaches p found)

  received_as : (f : Finding Purpose) → (judging_step s.layer generation bytes).0 ≡ f → (layer : Layer Purpose) → IfFits f s → Holds (received (f, layer) bytes empty_outbox s)
  received_as of_generation found layer f = ignores causes.Generation (empty_outbox, record s { layer = layer }) (here layer)
  received_as of_grammar found layer f = ignores causes.Grammar (empty_outbox, record s { layer = layer }) (here layer)
  received_as of_label found layer f = ignores causes.Label (empty_outbox, record s { layer = layer }) (here layer)
  received_as (of_response p label purpose) found layer f =
      let v = called (record s { layer = layer }) in
      gets (ended_for purpose (ending_of p) empty_outbox v)
      (stored_is None (ap (λ (x : Option Sending). access_in (packet_in x)) heard.sent ∙ ap (λ xs. access_in (spelled_by (reading xs))) heard.bytes_are ∙ response_access s.layer bytes p label purpose generation found) refl)
      (ends_mild s purpose (ending_of p) empty_outbox v (fits_of purpose f) (calls s empty_outbox (record s { layer = layer }) (here layer)))
    where
      fits_of : (purpose : Option Purpose) → IfFits (of_response p label purpose) s → IfFor (λ x. Fits x s.operation) purpose
      fits_of None f = tt
      fits_of (Some purpose) f = f.0
  received_as (of_again p rcode) found layer f = ignored layer causes.Again p rcode []
  received_as (of_request p) found layer f = requests layer p found

  pub hears_own : Leaves (Case (receive_step generation bytes empty_outbox s).0) (said (judged_note serial (receive_step generation bytes empty_outbox s).0) ∷ past) i (receive_step generation bytes empty_outbox s).1
  unfolding receive_step
  hears_own = received_as (judging_step s.layer generation bytes).0 refl (judging_step s.layer generation bytes).1 (hears_fit ready i s c.own.called generation bytes)
