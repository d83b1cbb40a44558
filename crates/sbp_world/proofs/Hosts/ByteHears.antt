-- What an initiator that hears a packet leaves of its page tables and its buffers.
use Rattle.sbp_world.proofs.Words.Std.{arith, ◌≡◌, refl, sym, ◌∙◌, ap, subst, append_assoc, ℕ, suc, ◌+◌, ◌-◌, ◌*◌, ◌<◌, ◌≤◌, ◌==◌, ◌&&◌, ◌||◌, Bool, true, false, cond, List, [], ◌∷◌, ◌++◌, length, Option, Some, None, Result, Ok, Err, nat_tests, big_bytes}
use Rattle.sbp_world.proofs.Words.Wire.{Header, Packet, lock, lock_response, read_block, read_block_response, read_quadlet, read_quadlet_response, write_block, write_quadlet, write_response, reading, PacketFault, Finding, judging_step, of_again, of_generation, of_grammar, of_label, of_request, of_response, judged_note, Access, access_of, OutboxState, empty_outbox, Moment, said, terms, Judged, Cmd}
use Rattle.sbp_world.proofs.Words.Initiator.{write_step, Memory, is_written, slot_at, start, fifo_at, is_login_fifo, is_open_login, place_fifo, Fifo, AreCalls, Call, after, done, receives, block_calls, block_writes, drop_calls, has_ended, quadlet_writes, request_calls, slot_calls, slot_calls_after, unpin_calls, write_calls, written_by, brought, finding_drops, ListState, write_lists, run, Turn, own_rom, address_error, addressed, block_at, fifo_of, ignored_step, is_foreign, quadlet_at, receive_step, received, request_step, written_as, Purpose, InitiatorState}
use Rattle.sbp_world.proofs.Words.Laws.{Orb, command_at, prepared_in, access_in, packet_at, packet_in, receiver_in, spelled_by, direction_of, goes_in, is_complete_at, or_byte, is_serial}
use Rattle.sbp_world.proofs.Words.World.{byte_brought, byte_from, byte_held, is_got_by, IsWriteOf}
use Rattle.std.proofs.Common.{slice_index_or}
use Rattle.bus_memory.specs.declared.window.Window.TheVariants as windows
use Rattle.initiator_base.specs.declared.fifos.Fifo.TheVariants as fifos
use Rattle.orb_list.specs.Runs as slot_runs
use Rattle.sbp_journal.specs.declared.cause.Cause.TheVariants as causes
use Rattle.sbp_journal.specs.declared.cause.Judged.TheVariants as judgements
use Rattle.sbp_journal.specs.declared.note.Note.TheVariants as notes
use Rattle.sbp_world.proofs.Hosts.Answering.{IsRequestFound, request_of}
use Rattle.sbp_world.proofs.Hosts.ByteCalls.{AreCalm, KeepsBytes, calm_append}
use Rattle.sbp_world.proofs.Hosts.ByteTerms.{SlotBytes, byte_terms, bytes_kept, got_nothing, kept_bytes}
use Rattle.sbp_world.proofs.Hosts.ByteWrites.{Wrote, none_from, wrote}
use Rattle.sbp_world.proofs.Hosts.GotRequests.{request_got}
use Rattle.sbp_world.proofs.Hosts.MemoryHolds.{IsCoded}
use Rattle.sbp_world.proofs.Hosts.Shown.{IsHeard}
use Rattle.sbp_world.proofs.Hosts.ByteLeaves.{before, block_calm, calm_call, drop_calm, last_calls, unpin_calm, whole_before}
use Rattle.sbp_world.proofs.Hosts.AnsweringBlocks.{not_got}

-- ---- what is brought

abbrev none : Option ℕ
none = None

none_if : (b : Bool) → cond b none none ≡ none
none_if true = refl
none_if false = refl

-- a FIFO stands behind every buffer
pub fifo_high : (logins : ℕ) (out : Bool) (offset : ℕ) (f : Fifo) → fifo_at logins out offset ≡ Some f → 0x1200_2000 ≤ offset
unfolding fifo_at
fifo_high logins out offset f e = by_tests (offset == place_fifo 0) (offset == place_fifo 1) (is_open_login logins out offset) (is_login_fifo offset) refl refl refl refl e
  where
    by_tests : (a b c d : Bool) → (offset == place_fifo 0) ≡ a → (offset == place_fifo 1) ≡ b → is_open_login logins out offset ≡ c → is_login_fifo offset ≡ d → cond (a || b) (Some fifos.Place) (cond c (Some fifos.Login) (cond d (Some fifos.Closed) None)) ≡ Some f → 0x1200_2000 ≤ offset
    by_tests true b c d h g k l e = let at : offset ≡ 0x1200_2000 + 0x20 * 0 = grind (arith, nat_tests) in omega arith
    by_tests false true c d h g k l e = let at : offset ≡ 0x1200_2000 + 0x20 * 1 = grind (arith, nat_tests) in omega arith
    by_tests false false true d h g k l e = let at : offset ≡ 0x1300_0000 + 0x20 * (logins - 1) = grind (arith, nat_tests) in omega arith
    by_tests false false false true h g k l e = let low : 0x1300_0000 ≤ offset = grind (arith, nat_tests) in omega arith
    by_tests false false false false h g k l e = absurd (differ e)
      where
        differ : None ≡ Some f → ⊥
        differ e = cc

-- ---- what its judgement says

written_got : (x : ℕ × ListState) (p : Packet) (bytes : List ℕ) (o : OutboxState) (s : InitiatorState) → (written_as x p bytes o s).0 ≡ judgements.Got
written_got (rcode, lists) p bytes o s = refl

-- ---- a packet that it hears

module _ (ready : Bool) (i : ℕ) (calls : List Call) (called : AreCalls calls) where
  abbrev turn : Turn
  turn = after i ready calls

  abbrev pub state : InitiatorState
  state = (after i ready calls).1

  abbrev old : List slot_runs.Call
  old = slot_calls_after i ready calls

  abbrev m : Memory
  m = state.lists.memory

  module _ (past : List Moment) (serial generation : ℕ) (bytes : List ℕ) (heard : IsHeard past i serial generation bytes) (known : IsCoded past i state) (h : SlotBytes (byte_terms past i) m) where
    abbrev r : Judged × Turn
    r = receive_step generation bytes empty_outbox state

    abbrev then_is : Memory
    then_is = r.1.1.lists.memory

    abbrev Now : Type 0
    Now = SlotBytes (byte_terms (said (judged_note serial r.0) ∷ past) i) then_is

    abbrev call : Call
    call = receives generation bytes

    -- it brings no byte of a buffer
    abbrev pub NoneBrought : Type 0
    NoneBrought = (k j : ℕ) → k < 32 → j < 32768 → cond (is_got_by past i serial) (byte_brought (start (windows.Buffer k) + j) (packet_at (terms past) serial)) None ≡ None

    pub quiet_note : (judged : Judged) (x : Memory) → (judged ≡ judgements.Got → NoneBrought) → SlotBytes (byte_terms past i) x → SlotBytes (byte_terms (said (judged_note serial judged) ∷ past) i) x
    quiet_note judgements.Got x n k = got_nothing serial past i x (n refl) k
    quiet_note (judgements.Ignored cause) x n k = subst (λ t. SlotBytes t x) (sym (bytes_kept (notes.Ignored serial cause) past i refl)) k

    packet_is : (p : Packet) → reading bytes ≡ Ok p → packet_at (terms past) serial ≡ Some p
    packet_is p read = ap packet_in heard.sent ∙ ap spelled_by (ap reading heard.bytes_are ∙ read)

    got_is : (p : Packet) → reading bytes ≡ Ok p → is_got_by past i serial ≡ is_complete_at past i (access_of p)
    got_is p read =
        let to : (heard.packet.to == suc i) ≡ true = let e = heard.to_is in grind (arith, nat_tests) in
        ap (λ x. is_serial (receiver_in x) (suc i) && is_complete_at past i (access_in (packet_at (terms past) serial))) heard.sent
        ∙ (ap (λ b. b && is_complete_at past i (access_in (packet_at (terms past) serial))) to
        ∙ ap (λ x. is_complete_at past i (access_in x)) (packet_is p read))

    none_by : (p : Packet) → reading bytes ≡ Ok p → ((k j : ℕ) → k < 32 → j < 32768 → byte_brought (start (windows.Buffer k) + j) (Some p) ≡ None) → NoneBrought
    none_by p read n k j b c =
        ap (λ x. cond (is_got_by past i serial) (byte_brought (start (windows.Buffer k) + j) x) None) (packet_is p read)
        ∙ (ap (λ x. cond (is_got_by past i serial) x None) (n k j b c) ∙ none_if (is_got_by past i serial))

    -- one that is no request
    module _ (unasked : (p : Packet) → (judging_step state.layer generation bytes).0 ≡ of_request p → ⊥) (got : r.0 ≡ judgements.Got) where
      none_for : (p : Packet) → reading bytes ≡ Ok p → NoneBrought
      none_for (write_quadlet header offset value) read = absurd (unasked (write_quadlet header offset value) (request_got state generation bytes (write_quadlet header offset value) _ refl read got))
      none_for (write_block header offset payload) read = absurd (unasked (write_block header offset payload) (request_got state generation bytes (write_block header offset payload) _ refl read got))
      none_for (read_quadlet header offset) read = none_by (read_quadlet header offset) read (λ k j b c. refl)
      none_for (read_block header offset asked) read = none_by (read_block header offset asked) read (λ k j b c. refl)
      none_for (lock header offset extended payload) read = none_by (lock header offset extended payload) read (λ k j b c. refl)
      none_for (write_response header rcode) read = none_by (write_response header rcode) read (λ k j b c. refl)
      none_for (read_quadlet_response header rcode value) read = none_by (read_quadlet_response header rcode value) read (λ k j b c. refl)
      none_for (read_block_response header rcode payload) read = none_by (read_block_response header rcode payload) read (λ k j b c. refl)
      none_for (lock_response header rcode extended payload) read = none_by (lock_response header rcode extended payload) read (λ k j b c. refl)

      none_read : (read : Result Packet PacketFault) → reading bytes ≡ read → NoneBrought
      none_read (Ok p) e = none_for p e
      none_read (Err fault) e = λ k j b c.
          ap (λ x. cond (is_got_by past i serial) (byte_brought (start (windows.Buffer k) + j) x) None) (ap packet_in heard.sent ∙ ap spelled_by (ap reading heard.bytes_are ∙ e))
          ∙ none_if (is_got_by past i serial)

    quiet_found : AreCalm (slot_calls call turn) → ((p : Packet) → (judging_step state.layer generation bytes).0 ≡ of_request p → ⊥) → Now
    quiet_found q unasked =
        quiet_note r.0 then_is (λ got. none_read unasked got (reading bytes) refl) (kept_bytes (byte_terms past i) m then_is (calm_call ready i calls called call tt q) h)

    abbrev unpins : List slot_runs.Call
    unpins = unpin_calls (has_ended state.operation (done call turn).1.operation)

    abbrev drops : List slot_runs.Call
    drops = drop_calls (finding_drops (judging_step state.layer generation bytes).0 state)

    unpins_calm : AreCalm unpins
    unpins_calm = unpin_calm (has_ended state.operation (done call turn).1.operation)

    drops_calm : AreCalm drops
    drops_calm = drop_calm (finding_drops (judging_step state.layer generation bytes).0 state)

    -- its calls where it is no request
    no_request : (f : Finding Purpose) → (judging_step state.layer generation bytes).0 ≡ f → request_calls f state ≡ [] → ((p : Packet) → f ≡ of_request p → ⊥) → Now
    no_request f e none_of other =
        quiet_found
        (calm_append unpins (drops ++ request_calls (judging_step state.layer generation bytes).0 state) unpins_calm
        (calm_append drops (request_calls (judging_step state.layer generation bytes).0 state) drops_calm (subst AreCalm (sym (ap (λ x. request_calls x state) e ∙ none_of)) tt)))
        (λ p g. other p (sym e ∙ g))

    -- ---- a request

    module _ (p : Packet) (f : (judging_step state.layer generation bytes).0 ≡ of_request p) where
      found : IsRequestFound state.layer generation bytes p
      found = request_of state.layer generation bytes p f

      judged_is : r.0 ≡ (request_step p bytes empty_outbox state).0
      unfolding receive_step
      judged_is = ap (λ x. (received x bytes empty_outbox state).0) found.same

      abbrev blocks : List slot_runs.Call
      blocks = block_calls (brought p state)

      abbrev front : List slot_runs.Call
      front = unpins ++ (drops ++ blocks)

      calls_are : slot_calls call turn ≡ front ++ write_calls p state
      calls_are =
          ap (λ x. unpins ++ (drops ++ request_calls x state)) f
          ∙ (ap (λ xs. unpins ++ xs) (sym (append_assoc drops blocks (write_calls p state)))
          ∙ sym (append_assoc unpins (drops ++ blocks) (write_calls p state)))

      front_calm : AreCalm front
      front_calm = calm_append unpins (drops ++ blocks) unpins_calm (calm_append drops blocks drops_calm (block_calm (brought p state)))

      keeps_behind : (later : List slot_runs.Call) → write_calls p state ≡ later → KeepsBytes (run (later ++ old) (own_rom i)).memory then_is
      keeps_behind later e = subst (λ xs. KeepsBytes (run (xs ++ old) (own_rom i)).memory then_is) e (last_calls ready i calls called call tt front (write_calls p state) calls_are front_calm)

      -- that asks for no write
      no_write : write_calls p state ≡ [] → (r.0 ≡ judgements.Got → NoneBrought) → Now
      no_write e n = quiet_note r.0 then_is n (kept_bytes (byte_terms past i) m then_is (subst (λ x. KeepsBytes x then_is) (before ready i calls called).memory (keeps_behind [] e)) h)

      -- that asks for one, which is tried
      module _ (offset : ℕ) (written : List ℕ) (access : Access) (tries : write_calls p state ≡ slot_runs.TryWrite offset written ∷ []) (got : r.0 ≡ judgements.Got) (asks : access_of p ≡ Some access) (at : access.offset ≡ offset) (is_write : IsWriteOf access written) (brings : (address : ℕ) → byte_brought address (Some p) ≡ byte_from address offset written) where
        abbrev step : ℕ × Memory
        step = write_step m offset written

        w : Wrote m offset written step
        w = wrote m offset written (whole_before ready i calls called)

        keeps : KeepsBytes step.1 then_is
        keeps = subst (λ (x : Memory). KeepsBytes (write_step x offset written).1 then_is) (before ready i calls called).memory (keeps_behind (slot_runs.TryWrite offset written ∷ []) tries)

        complete : (step.0 == 0) ≡ is_got_by past i serial
        complete =
            ap (λ n. (write_step m n written).0 == 0) (sym at)
            ∙ (ap (λ n. n == 0) (known.write_rcode access written is_write)
            ∙ (sym (ap (is_complete_at past i) asks) ∙ sym (got_is p found.read)))

        held : (k a : ℕ) → byte_held (said (notes.Got serial) ∷ past) i k a ≡ or_byte (cond (step.0 == 0) (byte_from a offset written) None) (byte_held past i k a)
        held k a =
            ap (λ c. or_byte (cond c (byte_brought a (packet_at (terms past) serial)) None) (byte_held past i k a)) (sym complete)
            ∙ ap (λ x. or_byte (cond (step.0 == 0) x None) (byte_held past i k a)) (ap (byte_brought a) (packet_is p found.read) ∙ brings a)

        unread : (k : ℕ) (one : Orb) (cmd : Cmd) → k < 32 → prepared_in past i k ≡ Some one → command_at past i one.list one.number ≡ Some cmd → goes_in (Some cmd) ≡ false → is_written (slot_at m k) ≡ false
        unread k one cmd b e c g = (known.held k one b e).direction ∙ (ap (direction_of past i) e ∙ (ap goes_in c ∙ g))

        got_then : SlotBytes (byte_terms (said (notes.Got serial) ∷ past) i) then_is
        got_then = record {
          tables = λ k b. keeps.tables k ∙ (w.tables k ∙ h.tables k b);
          buffers = λ k j b c.
              ap (λ xs. slice_index_or xs j 0) (keeps.buffers k)
              ∙ (w.buffers k j b c
              ∙ (ap (or_byte (cond (step.0 == 0) (byte_from (start (windows.Buffer k) + j) offset written) None)) (h.buffers k j b c)
              ∙ sym (held k (start (windows.Buffer k) + j))));
          sends = λ k one cmd b e c g j byte d q.
              ap (λ xs. slice_index_or xs j 0) (keeps.buffers k)
              ∙ (w.reads k j b d (unread k one cmd b e c g) ∙ h.sends k one cmd b e c g j byte d q);
        }

        tried : Now
        tried = subst (λ judged. SlotBytes (byte_terms (said (judged_note serial judged) ∷ past) i) then_is) (sym got) got_then

      -- by its source
      foreign : is_foreign p state ≡ true → Now
      foreign e =
          no_write (ap (λ c. cond c [] (written_by p state)) e)
          (λ got. absurd (not_got causes.Source (sym (judged_is ∙ ap (λ c. (cond c (ignored_step causes.Source address_error p bytes (empty_outbox, state)) (addressed p bytes empty_outbox state)).0) e) ∙ got)))

      own_calls : is_foreign p state ≡ false → write_calls p state ≡ written_by p state
      own_calls e = ap (λ c. cond c [] (written_by p state)) e

      own_judged : is_foreign p state ≡ false → r.0 ≡ (addressed p bytes empty_outbox state).0
      own_judged e = judged_is ∙ ap (λ c. (cond c (ignored_step causes.Source address_error p bytes (empty_outbox, state)) (addressed p bytes empty_outbox state)).0) e

      by_source : (b : Bool) → is_foreign p state ≡ b → (is_foreign p state ≡ false → Now) → Now
      by_source true e n = foreign e
      by_source false e n = n e

      -- a FIFO is no buffer
      pub fifo_none : (offset : ℕ) (written : List ℕ) (fifo : Fifo) → fifo_of state offset ≡ Some fifo → ((address : ℕ) → byte_brought address (Some p) ≡ byte_from address offset written) → NoneBrought
      fifo_none offset written fifo e n =
          let high = fifo_high _ _ offset fifo e in
          none_by p found.read (λ k j b c. n (start (windows.Buffer k) + j) ∙ none_from (start (windows.Buffer k) + j) offset written (λ l. absurd (omega arith)))

    -- ---- by what it is

    module _ (header : Header) (offset : ℕ) (payload : List ℕ) (f : (judging_step state.layer generation bytes).0 ≡ of_request (write_block header offset payload)) where
      abbrev block : Packet
      block = write_block header offset payload

      by_fifo : is_foreign block state ≡ false → (fifo : Option Fifo) → fifo_of state offset ≡ fifo → Now
      by_fifo e None g =
          tried block f offset payload (record { is_lock = false; is_write = true; is_block = true; offset = offset; count = length payload; payload = payload })
          (own_calls block f e ∙ ap (λ x. block_writes x offset payload) g)
          (own_judged block f e ∙ (ap (λ x. (block_at x payload block bytes empty_outbox state).0) g ∙ written_got (write_lists state.lists offset payload) block bytes empty_outbox state))
          refl refl (record { lock = refl; write = refl; size = refl }) (λ a. refl)
      by_fifo e (Some fifo) g = no_write block f (own_calls block f e ∙ ap (λ x. block_writes x offset payload) g) (λ got. fifo_none block f offset payload fifo g (λ a. refl))

      block_heard : Now
      block_heard = by_source block f (is_foreign block state) refl (λ e. by_fifo e (fifo_of state offset) refl)

    module _ (header : Header) (offset value : ℕ) (f : (judging_step state.layer generation bytes).0 ≡ of_request (write_quadlet header offset value)) where
      abbrev quadlet : Packet
      quadlet = write_quadlet header offset value

      tried_by : is_foreign quadlet state ≡ false → (fifo : Option Fifo) → fifo_of state offset ≡ fifo → quadlet_writes fifo offset (big_bytes 4 value) ≡ slot_runs.TryWrite offset (big_bytes 4 value) ∷ [] → (quadlet_at fifo quadlet bytes empty_outbox state).0 ≡ judgements.Got → Now
      tried_by e fifo g calls judged =
          tried quadlet f offset (big_bytes 4 value) (record { is_lock = false; is_write = true; is_block = false; offset = offset; count = 4; payload = [] })
          (own_calls quadlet f e ∙ (ap (λ x. quadlet_writes x offset (big_bytes 4 value)) g ∙ calls))
          (own_judged quadlet f e ∙ (ap (λ x. (quadlet_at x quadlet bytes empty_outbox state).0) g ∙ judged))
          refl refl (record { lock = refl; write = refl; size = refl }) (λ a. refl)

      by_register : is_foreign quadlet state ≡ false → (fifo : Option Fifo) → fifo_of state offset ≡ fifo → Now
      by_register e None g = tried_by e None g refl (written_got (write_lists state.lists offset (big_bytes 4 value)) quadlet bytes empty_outbox state)
      by_register e (Some fifos.Closed) g = no_write quadlet f (own_calls quadlet f e ∙ ap (λ x. quadlet_writes x offset (big_bytes 4 value)) g) (λ got. fifo_none quadlet f offset (big_bytes 4 value) fifos.Closed g (λ a. refl))
      by_register e (Some fifos.Login) g = tried_by e (Some fifos.Login) g refl (written_got (write_lists state.lists offset (big_bytes 4 value)) quadlet bytes empty_outbox state)
      by_register e (Some fifos.Place) g = tried_by e (Some fifos.Place) g refl (written_got (write_lists state.lists offset (big_bytes 4 value)) quadlet bytes empty_outbox state)

      quadlet_heard : Now
      quadlet_heard = by_source quadlet f (is_foreign quadlet state) refl (λ e. by_register e (fifo_of state offset) refl)

    request_heard : (p : Packet) → (judging_step state.layer generation bytes).0 ≡ of_request p → Now
    request_heard (write_block header offset payload) f = block_heard header offset payload f
    request_heard (write_quadlet header offset value) f = quadlet_heard header offset value f
    request_heard (read_quadlet header offset) f = by_source (read_quadlet header offset) f (is_foreign (read_quadlet header offset) state) refl (λ e. no_write (read_quadlet header offset) f (own_calls (read_quadlet header offset) f e) (λ got. none_by (read_quadlet header offset) (found (read_quadlet header offset) f).read (λ k j b c. refl)))
    request_heard (read_block header offset asked) f = by_source (read_block header offset asked) f (is_foreign (read_block header offset asked) state) refl (λ e. no_write (read_block header offset asked) f (own_calls (read_block header offset asked) f e) (λ got. none_by (read_block header offset asked) (found (read_block header offset asked) f).read (λ k j b c. refl)))
    request_heard (lock header offset extended payload) f = by_source (lock header offset extended payload) f (is_foreign (lock header offset extended payload) state) refl (λ e. no_write (lock header offset extended payload) f (own_calls (lock header offset extended payload) f e) (λ got. none_by (lock header offset extended payload) (found (lock header offset extended payload) f).read (λ k j b c. refl)))
    request_heard (write_response header rcode) f = by_source (write_response header rcode) f (is_foreign (write_response header rcode) state) refl (λ e. no_write (write_response header rcode) f (own_calls (write_response header rcode) f e) (λ got. none_by (write_response header rcode) (found (write_response header rcode) f).read (λ k j b c. refl)))
    request_heard (read_quadlet_response header rcode value) f = by_source (read_quadlet_response header rcode value) f (is_foreign (read_quadlet_response header rcode value) state) refl (λ e. no_write (read_quadlet_response header rcode value) f (own_calls (read_quadlet_response header rcode value) f e) (λ got. none_by (read_quadlet_response header rcode value) (found (read_quadlet_response header rcode value) f).read (λ k j b c. refl)))
    request_heard (read_block_response header rcode payload) f = by_source (read_block_response header rcode payload) f (is_foreign (read_block_response header rcode payload) state) refl (λ e. no_write (read_block_response header rcode payload) f (own_calls (read_block_response header rcode payload) f e) (λ got. none_by (read_block_response header rcode payload) (found (read_block_response header rcode payload) f).read (λ k j b c. refl)))
    request_heard (lock_response header rcode extended payload) f = by_source (lock_response header rcode extended payload) f (is_foreign (lock_response header rcode extended payload) state) refl (λ e. no_write (lock_response header rcode extended payload) f (own_calls (lock_response header rcode extended payload) f e) (λ got. none_by (lock_response header rcode extended payload) (found (lock_response header rcode extended payload) f).read (λ k j b c. refl)))

    by_finding : (f : Finding Purpose) → (judging_step state.layer generation bytes).0 ≡ f → Now
    by_finding of_generation e = no_request of_generation e refl (λ p g. cc)
    by_finding of_grammar e = no_request of_grammar e refl (λ p g. cc)
    by_finding of_label e = no_request of_label e refl (λ p g. cc)
    by_finding (of_response q label purpose) e = no_request (of_response q label purpose) e refl (λ p g. cc)
    by_finding (of_again q rcode) e = no_request (of_again q rcode) e refl (λ p g. cc)
    by_finding (of_request p) e = request_heard p e

    pub heard_bytes : Now
    heard_bytes = by_finding (judging_step state.layer generation bytes).0 refl
