-- What an initiator answers to a request that it gets.
use Rattle.sbp_world.proofs.Words.Std.{arith, ◌≡◌, refl, sym, ap, subst, ◌∙◌, ℕ, suc, ◌+◌, ◌*◌, ◌-◌, ◌^◌, ◌%◌, ◌<◌, ◌≤◌, ◌==◌, ◌&&◌, ◌||◌, Bool, true, false, cond, List, [], ◌∷◌, ◌++◌, length, replicate, Option, Some, None, Result, Ok, Err, length-replicate, nat_tests, big_bytes, quad}
use Rattle.sbp_world.proofs.Words.Wire.{canon, Packet, header_in, write_quadlet, write_block, write_response, read_quadlet, read_block, read_quadlet_response, read_block_response, lock, lock_response, PacketFault, reading, header_to, response_to, LabelParts, judge_step, reply_kind, Row, by_again, by_generation, by_grammar, by_label, by_request, by_response, row_of, Finding, Layer, answering_step, closed_by, facts_in, facts_of, judged_by, judging_step, rcode_in, of_again, of_generation, of_grammar, of_label, of_request, of_response, responded, window_rcode, Access, access_of, OutboxState, empty_outbox, Moment, Outgoing}
use Rattle.sbp_world.proofs.Words.Initiator.{read_step, write_step, is_fifo, within, fifo_at, is_login_fifo, is_open_login, place_fifo, Fifo, ListState, write_lists, Purpose, InitiatorState, Turn, called, read_as, respond_step, serve_step, written_as}
use Rattle.sbp_world.proofs.Words.Laws.{rom_size, host_reply, is_fifo_write, window_facts}
use Rattle.sbp_world.proofs.Words.World.{IsReadBy, IsReadOf, IsWriteOf}
use Rattle.initiator_base.specs.declared.fifos.Fifo.TheVariants as fifos
use Rattle.sbp_laws.specs.Served.{Reply}

-- ---- the packet of an answer

abbrev pub answer : (node : ℕ) → Packet → (rcode : ℕ) → List ℕ → Outgoing
answer node p rcode given = record { to = (header_in p).source; label = None; bytes = canon (response_to node p rcode given) }

-- what a read gives counts only where it is complete
same_response : (node : ℕ) (p : Packet) (rcode : ℕ) (given other : List ℕ) → (rcode ≡ 0 → given ≡ other) → response_to node p rcode given ≡ response_to node p rcode other
same_response node (read_quadlet header offset) rcode given other h = by_zero (rcode == 0) refl
  where
    by_zero : (b : Bool) → (rcode == 0) ≡ b → read_quadlet_response (header_to node header.source header.label) rcode (cond b (quad given 0) 0) ≡ read_quadlet_response (header_to node header.source header.label) rcode (cond b (quad other 0) 0)
    by_zero true e = ap (λ xs. read_quadlet_response (header_to node header.source header.label) rcode (quad xs 0)) (h (grind (arith, nat_tests)))
    by_zero false e = refl
same_response node (read_block header offset asked) rcode given other h = by_zero (rcode == 0) refl
  where
    by_zero : (b : Bool) → (rcode == 0) ≡ b → read_block_response (header_to node header.source header.label) rcode (cond b given []) ≡ read_block_response (header_to node header.source header.label) rcode (cond b other [])
    by_zero true e = ap (λ xs. read_block_response (header_to node header.source header.label) rcode xs) (h (grind (arith, nat_tests)))
    by_zero false e = refl
same_response node (write_quadlet header offset value) rcode given other h = refl
same_response node (write_block header offset payload) rcode given other h = refl
same_response node (write_response header code) rcode given other h = refl
same_response node (read_quadlet_response header code value) rcode given other h = refl
same_response node (read_block_response header code payload) rcode given other h = refl
same_response node (lock header offset extended payload) rcode given other h = refl
same_response node (lock_response header code extended payload) rcode given other h = refl

pub same_answer : (node : ℕ) (p : Packet) (rcode code : ℕ) (given other : List ℕ) → rcode ≡ code → (rcode ≡ 0 → given ≡ other) → answer node p rcode given ≡ answer node p code other
same_answer node p rcode code given other e h =
    ap (λ (x : Packet). record { to = (header_in p).source; label = None; bytes = canon x }) (same_response node p rcode given other h)
    ∙ ap (λ n. answer node p n other) e

pub responds : (p : Packet) (bytes : List ℕ) (rcode : ℕ) (given : List ℕ) (t : Turn) → (respond_step p bytes rcode given t).0.packets ≡ t.0.packets ++ answer t.1.layer.node p rcode given ∷ []
unfolding answering_step
responds p bytes rcode given t = refl

-- ---- a packet that is found to be a request

request_row : (c n r a e : Bool) → row_of (record { is_current = c; is_for_node = n; is_response = r; is_awaited = a; is_repeated = e }) ≡ by_request → c ≡ true
request_row true n r a e m = refl
request_row false n r a e m = absurd (differ m)
  where
    differ : by_generation ≡ by_request → ⊥
    differ m = cc

module _ (layer : Layer Purpose) (bytes : List ℕ) (p : Packet) where
  -- the row, the packet, and the layer, which stays
  record IsFound (row : Row) (read : Result Packet PacketFault) : Type 0 where
    of_row : row ≡ by_request
    is : read ≡ Ok p
    same : judged_by row layer bytes read ≡ (of_request p, layer)

  none_responded : (q : Packet) (r : Option (LabelParts × Option Purpose) × Layer Purpose) → (responded q r).0 ≡ of_request p → ⊥
  none_responded q (Some (label, purpose), other) e = differ e
    where
      differ : ◌≡◌ {A = Finding Purpose} (of_response q label purpose) (of_request p) → ⊥
      differ e = cc
  none_responded q (None, other) e = differ e
    where
      differ : ◌≡◌ {A = Finding Purpose} of_label (of_request p) → ⊥
      differ e = cc

  no_grammar : ◌≡◌ {A = Finding Purpose} of_grammar (of_request p) → ⊥
  no_grammar e = cc

  found_by : (row : Row) (read : Result Packet PacketFault) → (judged_by row layer bytes read).0 ≡ of_request p → IsFound row read
  found_by by_generation read e = absurd (differ e)
    where
      differ : ◌≡◌ {A = Finding Purpose} of_generation (of_request p) → ⊥
      differ e = cc
  found_by by_grammar read e = absurd (no_grammar e)
  found_by by_label read e = absurd (differ e)
    where
      differ : ◌≡◌ {A = Finding Purpose} of_label (of_request p) → ⊥
      differ e = cc
  found_by by_response (Ok q) e = absurd (none_responded q (closed_by (reply_kind q) layer q) e)
  found_by by_response (Err fault) e = absurd (no_grammar e)
  found_by by_again (Ok q) e = absurd (differ e)
    where
      differ : ◌≡◌ {A = Finding Purpose} (of_again q (rcode_in (judge_step layer.filter (header_in q).source bytes))) (of_request p) → ⊥
      differ e = cc
  found_by by_again (Err fault) e = absurd (no_grammar e)
  found_by by_request (Ok q) e =
      let g : q ≡ p = cc in
      record { of_row = refl; is = ap (λ x. Ok x) g; same = ap (λ x. (of_request x, layer)) g }
  found_by by_request (Err fault) e = absurd (no_grammar e)

pub record IsRequestFound (layer : Layer Purpose) (generation : ℕ) (bytes : List ℕ) (p : Packet) : Type 0 where
  pub read : reading bytes ≡ Ok p
  pub current : generation ≡ layer.generation
  pub same : judging_step layer generation bytes ≡ (of_request p, layer)

current_in : (layer : Layer Purpose) (generation : ℕ) (bytes : List ℕ) (read : Result Packet PacketFault) → row_of (facts_in layer generation bytes read) ≡ by_request → generation ≡ layer.generation
current_in layer generation bytes (Ok p) e =
    let f = facts_in layer generation bytes (Ok p) in
    let c : (generation == layer.generation) ≡ true = request_row f.is_current f.is_for_node f.is_response f.is_awaited f.is_repeated e in
    grind (arith, nat_tests)
current_in layer generation bytes (Err fault) e =
    let c : (generation == layer.generation) ≡ true = request_row (generation == layer.generation) false false false false e in
    grind (arith, nat_tests)

pub request_of : (layer : Layer Purpose) (generation : ℕ) (bytes : List ℕ) (p : Packet) → (judging_step layer generation bytes).0 ≡ of_request p → IsRequestFound layer generation bytes p
unfolding judging_step
request_of layer generation bytes p e =
    let f = found_by layer bytes p (row_of (facts_of layer generation bytes)) (reading bytes) e in
    record { read = f.is; current = current_in layer generation bytes (reading bytes) f.of_row; same = f.same }

-- ---- what a FIFO takes

pub no_fifo : (logins : ℕ) (out : Bool) (offset : ℕ) → fifo_at logins out offset ≡ None → is_fifo offset ≡ false
unfolding fifo_at is_fifo
no_fifo logins out offset e = by_tests (offset == place_fifo 0) (offset == place_fifo 1) (is_open_login logins out offset) (is_login_fifo offset) refl refl refl e
  where
    none_found : (f : Fifo) → Some f ≡ None → ⊥
    none_found f e = cc

    by_tests : (a b c d : Bool) → (offset == place_fifo 0) ≡ a → (offset == place_fifo 1) ≡ b → is_login_fifo offset ≡ d → cond (a || b) (Some fifos.Place) (cond c (Some fifos.Login) (cond d (Some fifos.Closed) None)) ≡ None → (offset == 0x1200_2000) || (offset == 0x1200_2020) || (within 0x1300_0000 (0x1300_0000 + 0x20 * 2 ^ 32) offset && (offset % 0x20 == 0)) ≡ false
    by_tests true b c d f g l e = absurd (none_found fifos.Place e)
    by_tests false true c d f g l e = absurd (none_found fifos.Place e)
    by_tests false false true d f g l e = absurd (none_found fifos.Login e)
    by_tests false false false true f g l e = absurd (none_found fifos.Closed e)
    by_tests false false false false f g l e = grind (arith, nat_tests)

pub some_fifo : (logins : ℕ) (out : Bool) (offset : ℕ) (f : Fifo) → logins ≤ 2 ^ 32 → fifo_at logins out offset ≡ Some f → is_fifo offset ≡ true
unfolding fifo_at is_fifo
some_fifo logins out offset f few e = by_tests (offset == place_fifo 0) (offset == place_fifo 1) (is_open_login logins out offset) (is_login_fifo offset) refl refl refl refl e
  where
    by_tests : (a b c d : Bool) → (offset == place_fifo 0) ≡ a → (offset == place_fifo 1) ≡ b → is_open_login logins out offset ≡ c → is_login_fifo offset ≡ d → cond (a || b) (Some fifos.Place) (cond c (Some fifos.Login) (cond d (Some fifos.Closed) None)) ≡ Some f → (offset == 0x1200_2000) || (offset == 0x1200_2020) || (within 0x1300_0000 (0x1300_0000 + 0x20 * 2 ^ 32) offset && (offset % 0x20 == 0)) ≡ true
    by_tests true b c d h g k l e = grind (arith, nat_tests)
    by_tests false true c d h g k l e = grind (arith, nat_tests)
    by_tests false false true d h g k l e =
        let some : 0 < logins = grind (arith, nat_tests) in
        let at : offset ≡ 0x1300_0000 + 0x20 * (logins - 1) = grind (arith, nat_tests) in
        let low : 0x1300_0000 ≤ offset = omega arith in
        let high : offset < 0x1300_0000 + 0x20 * 2 ^ 32 = omega arith in
        let whole : offset % 0x20 ≡ 0 = omega arith in
        grind (arith, nat_tests)
    by_tests false false false true h g k l e = grind (arith, nat_tests)
    by_tests false false false false h g k l e = absurd (differ e)
      where
        differ : None ≡ Some f → ⊥
        differ e = cc

-- ---- a request is served from the memory

pub none_is : {access : Access} → None ≡ Some access → ⊥
none_is e = cc

pub reads_as : (r : ℕ × List ℕ) (p : Packet) (bytes : List ℕ) (o : OutboxState) (s : InitiatorState) → (read_as r p bytes o s).1.0.packets ≡ o.packets ++ answer s.layer.node p r.0 r.1 ∷ []
reads_as (rcode, out) p bytes o s = responds p bytes rcode out (o, called s)

writes_as : (r : ℕ × ListState) (p : Packet) (bytes : List ℕ) (o : OutboxState) (s : InitiatorState) → (written_as r p bytes o s).1.0.packets ≡ o.packets ++ answer s.layer.node p r.0 [] ∷ []
writes_as (rcode, lists) p bytes o s = responds p bytes rcode [] (o, record (called s) { lists = lists })

written_code : (lists : ListState) (offset : ℕ) (bytes : List ℕ) → (write_lists lists offset bytes).0 ≡ (write_step lists.memory offset bytes).0
unfolding write_lists
written_code lists offset bytes = refl

-- what is asked of each request's packet
abbrev pub asks_quadlet : (is_write : Bool) → ℕ → Access
asks_quadlet is_write offset = record { is_lock = false; is_write = is_write; is_block = false; offset = offset; count = 4; payload = [] }

abbrev pub asks_block : ℕ → ℕ → Access
asks_block offset count = record { is_lock = false; is_write = false; is_block = true; offset = offset; count = count; payload = [] }

abbrev pub writes_block : ℕ → List ℕ → Access
writes_block offset payload = record { is_lock = false; is_write = true; is_block = true; offset = offset; count = length payload; payload = payload }

abbrev pub locks : ℕ → ℕ → Access
locks offset count = record { is_lock = true; is_write = false; is_block = true; offset = offset; count = count; payload = [] }

module _ (past : List Moment) (i : ℕ) (s : InitiatorState) (known : IsReadBy past i s) where
  abbrev pub reply : Access → Reply
  reply access = host_reply past i access

  abbrev pub Answered : Packet → Access → List Outgoing → Type 0
  Answered p access packets = packets ≡ answer s.layer.node p (reply access).rcode (reply access).given ∷ []

  -- what is said of the bytes of a read that is complete
  abbrev pub IsTold : Access → Type 0
  IsTold access =
      (out : List ℕ) → IsReadOf access out → (read_step s.lists.memory access.offset out).0 ≡ 0 → (read_step s.lists.memory access.offset out).1 ≡ (reply access).given

  pub read_code : (access : Access) (out : List ℕ) → IsReadOf access out → (read_step s.lists.memory access.offset out).0 ≡ (reply access).rcode
  read_code access out r =
      let none : is_fifo_write access ≡ false = ap (λ b. b && access.is_block && is_fifo access.offset) r.write in
      known.read_rcode access out r ∙ sym (ap (λ b. cond b 0 (window_rcode (window_facts past i (rom_size (suc i) 0) access))) none)

  read_served : (p : Packet) (access : Access) (out : List ℕ) (bytes : List ℕ) → IsReadOf access out → IsTold access → Answered p access (read_as (read_step s.lists.memory access.offset out) p bytes empty_outbox s).1.0.packets
  read_served p access out bytes r told =
      let step = read_step s.lists.memory access.offset out in
      reads_as step p bytes empty_outbox s
      ∙ ap (λ x. x ∷ []) (same_answer s.layer.node p step.0 (reply access).rcode step.1 (reply access).given (read_code access out r) (told out r))

  -- a write, whose response has no bytes
  write_served : (p : Packet) (access : Access) (payload bytes : List ℕ) → IsWriteOf access payload → is_fifo_write access ≡ false → ((rcode : ℕ) (given other : List ℕ) → response_to s.layer.node p rcode given ≡ response_to s.layer.node p rcode other) → Answered p access (written_as (write_lists s.lists access.offset payload) p bytes empty_outbox s).1.0.packets
  write_served p access payload bytes r none same =
      let step = write_lists s.lists access.offset payload in
      let code : step.0 ≡ (reply access).rcode = written_code s.lists access.offset payload ∙ known.write_rcode access payload r ∙ sym (ap (λ b. cond b 0 (window_rcode (window_facts past i (rom_size (suc i) 0) access))) none) in
      writes_as step p bytes empty_outbox s
      ∙ ap (λ x. x ∷ []) (ap (λ (x : Packet). record { to = (header_in p).source; label = None; bytes = canon x }) (same step.0 [] (reply access).given) ∙ ap (λ n. answer s.layer.node p n (reply access).given) code)

  pub serves : (p : Packet) (access : Access) (bytes : List ℕ) → access_of p ≡ Some access → is_fifo_write access ≡ false → IsTold access → Answered p access (serve_step p bytes empty_outbox s).1.0.packets
  serves (read_quadlet header offset) access bytes e none told =
      let g : asks_quadlet false offset ≡ access = cc in
      subst (λ a. IsTold a → Answered (read_quadlet header offset) a (serve_step (read_quadlet header offset) bytes empty_outbox s).1.0.packets) g
      (read_served (read_quadlet header offset) (asks_quadlet false offset) (replicate 4 0) bytes (record { lock = refl; write = refl; size = refl })) told
  serves (read_block header offset asked) access bytes e none told =
      let g : asks_block offset asked ≡ access = cc in
      subst (λ a. IsTold a → Answered (read_block header offset asked) a (serve_step (read_block header offset asked) bytes empty_outbox s).1.0.packets) g
      (read_served (read_block header offset asked) (asks_block offset asked) (replicate asked 0) bytes (record { lock = refl; write = refl; size = length-replicate asked 0 })) told
  serves (write_quadlet header offset value) access bytes e none told =
      let g : asks_quadlet true offset ≡ access = cc in
      subst (λ a. Answered (write_quadlet header offset value) a (serve_step (write_quadlet header offset value) bytes empty_outbox s).1.0.packets) g
      (write_served (write_quadlet header offset value) (asks_quadlet true offset) (big_bytes 4 value) bytes (record { lock = refl; write = refl; size = refl }) refl (λ rcode given other. refl))
  serves (write_block header offset payload) access bytes e none told =
      let g : writes_block offset payload ≡ access = cc in
      subst (λ a. is_fifo_write a ≡ false → Answered (write_block header offset payload) a (serve_step (write_block header offset payload) bytes empty_outbox s).1.0.packets) g
      (λ n. write_served (write_block header offset payload) (writes_block offset payload) payload bytes (record { lock = refl; write = refl; size = refl }) n (λ rcode given other. refl)) none
  serves (lock header offset extended payload) access bytes e none told =
      let g : locks offset (length payload) ≡ access = cc in
      subst (λ a. Answered (lock header offset extended payload) a (serve_step (lock header offset extended payload) bytes empty_outbox s).1.0.packets) g
      (responds (lock header offset extended payload) bytes 6 [] (empty_outbox, called s))
  serves (write_response header rcode) access bytes e none told = absurd (none_is e)
  serves (read_quadlet_response header rcode value) access bytes e none told = absurd (none_is e)
  serves (read_block_response header rcode payload) access bytes e none told = absurd (none_is e)
  serves (lock_response header rcode extended payload) access bytes e none told = absurd (none_is e)
