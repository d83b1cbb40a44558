-- What an initiator answers to a block that is written to one of its FIFOs; and to every request that it gets.
use Rattle.sbp_world.proofs.Words.Std.{◌≡◌, refl, sym, ap, subst, ◌∙◌, ℕ, suc, ◌≤◌, ◌^◌, ◌==◌, ◌&&◌, Bool, true, false, cond, List, replicate, [], ◌∷◌, ◌++◌, length, Option, Some, None, Result, Ok, Err}
use Rattle.sbp_world.proofs.Words.Wire.{Header, Packet, lock, read_block, read_block_response, read_quadlet, read_quadlet_response, lock_response, write_block, write_quadlet, write_response, Layer, judging_step, of_request, Access, access_of, OutboxState, empty_outbox, window_rcode, Moment, Cause, Judged, Operation, Outgoing}
use Rattle.sbp_world.proofs.Words.Target.{is_block}
use Rattle.sbp_world.proofs.Words.Initiator.{read_step, is_dead_kind, Fifo, OrbFault, StatusBlock, StatusKind, ListState, drop_lists, take_lists, TicketParts, Event, bad, goes, is_out_seat, Purpose, Running, InitiatorState, Turn, drop_where, dropped_as, end_step, good_end, good_event, managed_step, moved, moves_session, response_of, then_step, told, with_dead, addressed, block_at, block_by, block_step, called, fifo_of, got_step, ignored_step, is_foreign, managed_for, present_for, quadlet_at, read_as, receive_step, received, request_step, status_step, taken_as, taken_by, ends_list, status_in}
use Rattle.sbp_world.proofs.Words.Laws.{rom_size, is_fifo_write, window_facts}
use Rattle.sbp_world.proofs.Words.World.{IsReadBy}
use Rattle.initiator_base.specs.declared.fifos.Fifo.TheVariants as fifos
use Rattle.orb_layout.specs.declared.status.StatusKind.TheVariants as kinds
use Rattle.sbp_journal.specs.declared.cause.Cause.TheVariants as causes
use Rattle.sbp_journal.specs.declared.cause.Judged.TheVariants as judgements
use Rattle.sbp_journal.specs.declared.note.Note.TheVariants as notes
use Rattle.sbp_journal.specs.declared.operation.OpWord.TheVariants as words
use Rattle.sbp_world.proofs.Hosts.Answering.{Answered, IsTold, IsRequestFound, answer, asks_block, asks_quadlet, locks, no_fifo, none_is, reply, reads_as, request_of, responds, serves, some_fifo, writes_block}

-- ---- what is sent and what the layer is stays

pub record Still (o : OutboxState) (s : InitiatorState) (t : Turn) : Type 0 where
  pub packets : t.0.packets ≡ o.packets
  pub layer : t.1.layer ≡ s.layer

pick : (o : OutboxState) (s : InitiatorState) (b : Bool) (x y : Turn) → Still o s x → Still o s y → Still o s (cond b x y)
pick o s true x y h g = h
pick o s false x y h g = g

moved_layer : (operation : Operation) (event : Event) (s : InitiatorState) → (moved operation event s).layer ≡ s.layer
moved_layer operation event s = by_session (moves_session operation)
  where
    by_session : (b : Bool) → (cond b (record s { seat = goes event s.seat }) s).layer ≡ s.layer
    by_session true = refl
    by_session false = refl

drops_as : (r : Option ℕ × ListState) (o : OutboxState) (s : InitiatorState) → Still o s (dropped_as r o s)
drops_as (None, lists) o s = record { packets = refl; layer = refl }
drops_as (Some n, lists) o s = record { packets = refl; layer = refl }

drops : (b : Bool) (o : OutboxState) (s : InitiatorState) → Still o s (drop_where b o s)
drops true o s = drops_as (drop_lists s.lists) o s
drops false o s = record { packets = refl; layer = refl }

ends_good : (running : Running) (o : OutboxState) (s : InitiatorState) → Still o s (good_end running o s)
ends_good running o s = record { packets = refl; layer = moved_layer running.operation (good_event running.operation (response_of running s)) s }

manages : (running : Running) (status : ℕ) (o : OutboxState) (s : InitiatorState) → Still o s (managed_step running status o s)
manages running status o s =
    let t = drop_where (ends_list (Some running.operation)) o s in
    let d = drops (ends_list (Some running.operation)) o s in
    let e = ends_good running t.0 t.1 in
    pick o s (status == 0) (then_step (good_end running) t) (end_step running.operation (words.Refused status) o (moved running.operation bad s))
    (record { packets = e.packets ∙ d.packets; layer = e.layer ∙ d.layer })
    (record { packets = refl; layer = moved_layer running.operation bad s })

-- ---- a status block

pub not_got : (cause : Cause) → judgements.Ignored cause ≡ judgements.Got → ⊥
not_got cause e = cc

-- where it is got, it is answered complete
abbrev Gets : Packet → InitiatorState → Judged × Turn → Type 0
Gets p s r = r.0 ≡ judgements.Got → r.1.0.packets ≡ answer s.layer.node p 0 [] ∷ []

pick_gets : (p : Packet) (s : InitiatorState) (b : Bool) (x y : Judged × Turn) → Gets p s x → Gets p s y → Gets p s (cond b x y)
pick_gets p s true x y h g = h
pick_gets p s false x y h g = g

module _ (p : Packet) (bytes : List ℕ) (s : InitiatorState) where
  gets : (t : Turn) → Still empty_outbox s t → Gets p s (got_step p bytes t)
  gets t h = λ e.
      responds p bytes 0 [] t
      ∙ (ap (λ xs. xs ++ answer t.1.layer.node p 0 [] ∷ []) h.packets
      ∙ ap (λ (l : Layer Purpose). answer l.node p 0 [] ∷ []) h.layer)

  ignores : (cause : Cause) (rcode : ℕ) (t : Turn) → Gets p s (ignored_step cause rcode p bytes t)
  ignores cause rcode t = λ e. absurd (not_got cause e)

  dead_layer : (b : Bool) (x : InitiatorState) → (cond b (with_dead x) x).layer ≡ x.layer
  dead_layer true x = refl
  dead_layer false x = refl

  takes : (r : Option TicketParts × ListState) (kind : StatusKind) → Gets p s (taken_as r kind p bytes empty_outbox s)
  takes (None, lists) kind = ignores causes.Slot 0 (empty_outbox, record s { lists = lists })
  takes (Some t, lists) kind =
      gets (taken_by t lists kind empty_outbox (called s))
      (record { packets = refl; layer = dead_layer (is_dead_kind kind) (record (called s) { lists = lists }) })

  manages_for : (running : Option Running) (status : ℕ) → Gets p s (managed_for running status p bytes empty_outbox s)
  manages_for None status = ignores causes.Slot 0 (empty_outbox, s)
  manages_for (Some running) status =
      let m = manages running status empty_outbox (called s) in
      gets (managed_step running status empty_outbox (called s)) (record { packets = m.packets; layer = m.layer })

  blocks_by : (kind : StatusKind) (block : StatusBlock) → Gets p s (block_by kind block p bytes empty_outbox s)
  blocks_by (kinds.Management status) block = manages_for (present_for block.orb s.operation) status
  blocks_by kinds.Good block = takes (take_lists s.lists block) kinds.Good
  blocks_by (kinds.Check sense) block = takes (take_lists s.lists block) (kinds.Check sense)
  blocks_by kinds.Dummy block = takes (take_lists s.lists block) kinds.Dummy
  blocks_by kinds.Aborted block = takes (take_lists s.lists block) kinds.Aborted
  blocks_by (kinds.Illegal meaning) block = takes (take_lists s.lists block) (kinds.Illegal meaning)
  blocks_by kinds.Failed block = takes (take_lists s.lists block) kinds.Failed

  blocks : (r : Result StatusBlock OrbFault) → Gets p s (block_step r p bytes empty_outbox s)
  blocks (Err fault) = ignores causes.Grammar 5 (empty_outbox, s)
  blocks (Ok block) = blocks_by block.kind block

  statuses : (is_login : Bool) (payload : List ℕ) → Gets p s (status_step is_login payload p bytes empty_outbox s)
  statuses is_login payload =
      pick_gets p s (is_login && is_block payload) (got_step p bytes (told empty_outbox (notes.Told s.number), called s)) (block_step (status_in payload) p bytes empty_outbox s)
      (gets (told empty_outbox (notes.Told s.number), called s) (record { packets = refl; layer = refl }))
      (blocks (status_in payload))

-- ---- every request

module _ (past : List Moment) (i : ℕ) (s : InitiatorState) (known : IsReadBy past i s) where
  abbrev Says : Packet → Access → Judged × Turn → Type 0
  Says p access r = r.0 ≡ judgements.Got → Answered past i s known p access r.1.0.packets

  pick_says : (p : Packet) (access : Access) (b : Bool) (x y : Judged × Turn) → Says p access x → Says p access y → Says p access (cond b x y)
  pick_says p access true x y h g = h
  pick_says p access false x y h g = g

  quadlets : (fifo : Option Fifo) (p : Packet) (access : Access) (bytes : List ℕ) → access_of p ≡ Some access → is_fifo_write access ≡ false → IsTold past i s known access → Says p access (quadlet_at fifo p bytes empty_outbox s)
  quadlets None p access bytes e none told = λ g. serves past i s known p access bytes e none told
  quadlets (Some fifos.Closed) p access bytes e none told = λ g. absurd (not_got causes.Login g)
  quadlets (Some fifos.Login) p access bytes e none told = λ g. serves past i s known p access bytes e none told
  quadlets (Some fifos.Place) p access bytes e none told = λ g. serves past i s known p access bytes e none told

  -- a block that a FIFO takes
  taken : s.counts.logins ≤ 2 ^ 32 → (offset : ℕ) (payload : List ℕ) (p : Packet) (packets : List Outgoing) (f : Fifo) → fifo_of s offset ≡ Some f → ((rcode : ℕ) (given other : List ℕ) → answer s.layer.node p rcode given ≡ answer s.layer.node p rcode other) → packets ≡ answer s.layer.node p 0 [] ∷ [] → Answered past i s known p (writes_block offset payload) packets
  taken few offset payload p packets f e same h =
      let access = writes_block offset payload in
      let fifo : is_fifo_write access ≡ true = some_fifo s.counts.logins (is_out_seat s.seat) offset f few e in
      let code : (reply past i s known access).rcode ≡ 0 = ap (λ b. cond b 0 (window_rcode (window_facts past i (rom_size (suc i) 0) access))) fifo in
      h ∙ ap (λ x. x ∷ []) (same 0 [] (reply past i s known access).given ∙ ap (λ n. answer s.layer.node p n (reply past i s known access).given) (sym code))

  blocks_at : s.counts.logins ≤ 2 ^ 32 → (fifo : Option Fifo) (header : Header) (offset : ℕ) (payload bytes : List ℕ) → fifo_of s offset ≡ fifo → IsTold past i s known (writes_block offset payload) → Says (write_block header offset payload) (writes_block offset payload) (block_at fifo payload (write_block header offset payload) bytes empty_outbox s)
  blocks_at few None header offset payload bytes e told = λ g.
      serves past i s known (write_block header offset payload) (writes_block offset payload) bytes refl (no_fifo s.counts.logins (is_out_seat s.seat) offset e) told
  blocks_at few (Some fifos.Closed) header offset payload bytes e told = λ g. absurd (not_got causes.Login g)
  blocks_at few (Some fifos.Login) header offset payload bytes e told = λ g.
      taken few offset payload (write_block header offset payload) _ fifos.Login e (λ rcode given other. refl) (statuses (write_block header offset payload) bytes s true payload g)
  blocks_at few (Some fifos.Place) header offset payload bytes e told = λ g.
      taken few offset payload (write_block header offset payload) _ fifos.Place e (λ rcode given other. refl) (statuses (write_block header offset payload) bytes s false payload g)

  abbrev IsFew : Access → Type 0
  IsFew access = access.is_write && access.is_block ≡ true → s.counts.logins ≤ 2 ^ 32

  reaches : (p : Packet) (access : Access) (bytes : List ℕ) → access_of p ≡ Some access → IsTold past i s known access → IsFew access → Says p access (addressed p bytes empty_outbox s)
  reaches (read_quadlet header offset) access bytes e told few = λ g.
      let is : asks_quadlet false offset ≡ access = cc in
      serves past i s known (read_quadlet header offset) access bytes e (ap is_fifo_write (sym is)) told
  reaches (read_block header offset asked) access bytes e told few = λ g.
      let is : asks_block offset asked ≡ access = cc in
      serves past i s known (read_block header offset asked) access bytes e (ap is_fifo_write (sym is)) told
  reaches (lock header offset extended payload) access bytes e told few = λ g.
      let is : locks offset (length payload) ≡ access = cc in
      serves past i s known (lock header offset extended payload) access bytes e (ap is_fifo_write (sym is)) told
  reaches (write_quadlet header offset value) access bytes e told few =
      let is : asks_quadlet true offset ≡ access = cc in
      quadlets (fifo_of s offset) (write_quadlet header offset value) access bytes e (ap is_fifo_write (sym is)) told
  reaches (write_block header offset payload) access bytes e told few =
      let is : writes_block offset payload ≡ access = cc in
      subst (λ a. IsTold past i s known a → IsFew a → Says (write_block header offset payload) a (addressed (write_block header offset payload) bytes empty_outbox s)) is
      (λ t f. blocks_at (f refl) (fifo_of s offset) header offset payload bytes refl t) told few
  reaches (write_response header rcode) access bytes e told few = absurd (none_is e)
  reaches (read_quadlet_response header rcode value) access bytes e told few = absurd (none_is e)
  reaches (read_block_response header rcode payload) access bytes e told few = absurd (none_is e)
  reaches (lock_response header rcode extended payload) access bytes e told few = absurd (none_is e)

  requests : (p : Packet) (access : Access) (bytes : List ℕ) → access_of p ≡ Some access → IsTold past i s known access → IsFew access → Says p access (request_step p bytes empty_outbox s)
  requests p access bytes e told few =
      pick_says p access (is_foreign p s) (ignored_step causes.Source 7 p bytes (empty_outbox, s)) (addressed p bytes empty_outbox s)
      (λ g. absurd (not_got causes.Source g)) (reaches p access bytes e told few)

  -- a packet that is found to be a request, and got
  pub answers : (generation : ℕ) (bytes : List ℕ) (p : Packet) (access : Access) → (judging_step s.layer generation bytes).0 ≡ of_request p → access_of p ≡ Some access → IsTold past i s known access → (access.is_write && access.is_block ≡ true → s.counts.logins ≤ 2 ^ 32) → (receive_step generation bytes empty_outbox s).0 ≡ judgements.Got → Answered past i s known p access (receive_step generation bytes empty_outbox s).1.0.packets
  unfolding receive_step
  answers generation bytes p access found e told few got =
      let f : IsRequestFound s.layer generation bytes p = request_of s.layer generation bytes p found in
      subst (λ x. Says p access (received x bytes empty_outbox s)) (sym f.same) (requests p access bytes e told few) got

-- ---- a block read

-- one that is got is answered with what the memory gives and its rcode
module _ (s : InitiatorState) (header : Header) (address count : ℕ) (bytes : List ℕ) where
  abbrev read : ℕ × List ℕ
  read = read_step s.lists.memory address (replicate count 0)

  abbrev Gives : Judged × Turn → Type 0
  Gives r = r.0 ≡ judgements.Got → r.1.0.packets ≡ answer s.layer.node (read_block header address count) read.0 read.1 ∷ []

  pick_gives : (b : Bool) → Gives (cond b (ignored_step causes.Source 7 (read_block header address count) bytes (empty_outbox, s)) (read_as read (read_block header address count) bytes empty_outbox s))
  pick_gives true = λ g. absurd (not_got causes.Source g)
  pick_gives false = λ g. reads_as read (read_block header address count) bytes empty_outbox s

  pub block_answered : (generation : ℕ) → (judging_step s.layer generation bytes).0 ≡ of_request (read_block header address count) → (receive_step generation bytes empty_outbox s).0 ≡ judgements.Got → (receive_step generation bytes empty_outbox s).1.0.packets ≡ answer s.layer.node (read_block header address count) read.0 read.1 ∷ []
  unfolding receive_step
  block_answered generation found got =
      let f : IsRequestFound s.layer generation bytes (read_block header address count) = request_of s.layer generation bytes (read_block header address count) found in
      subst (λ x. Gives (received x bytes empty_outbox s)) (sym f.same) (pick_gives (is_foreign (read_block header address count) s)) got
