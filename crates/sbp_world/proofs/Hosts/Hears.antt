-- A packet that comes to an initiator, and a request whose time runs out.
use Rattle.sbp_world.proofs.Words.Std.{not, ◌≡◌, refl, sym, ◌∙◌, ap, subst, ℕ, ◌&&◌, Bool, true, false, cond, List, [], ◌∷◌, ◌++◌, Option, Some, None, Result, Ok, Err, big_bytes}
use Rattle.sbp_world.proofs.Words.Wire.{LabelParts, Packet, header_in, write_quadlet, write_block, read_quadlet, read_block, write_response, read_quadlet_response, read_block_response, lock, lock_response, Stale, Layer, Finding, of_generation, of_grammar, of_label, of_response, of_again, of_request, answering_step, expiring_step, judging_step, Moment, said, OutboxState, Cause, Judged}
use Rattle.sbp_world.proofs.Words.Target.{is_block}
use Rattle.sbp_world.proofs.Words.Initiator.{OrbFault, StatusBlock, StatusKind, ListFault, TicketParts, SlotTable, slot_in, waiting, Memory, slot_of, Fifo, Purpose, Running, InitiatorState, stepped, take_lists, write_lists, ending_of, is_present_orb, status_in, Turn, told, with_dead, is_dead_kind, addressed, answer_of, block_at, block_by, block_step, called, expire_step, expired_as, fifo_of, got_step, ignored_step, is_foreign, managed_for, present_for, quadlet_at, read_as, receive_step, received, request_step, respond_step, responded_as, serve_step, status_step, taken_as, taken_by, written_as}
use Rattle.sbp_world.proofs.Words.World.{AreRows, MayTake, behind, Listed, MayBlock, MayFind, MayPacket, Pins}
use Rattle.orb_layout.specs.declared.status.StatusKind.TheVariants as kinds
use Rattle.orb_list.specs.Table as table
use Rattle.sbp_journal.specs.declared.cause.Cause.TheVariants as causes
use Rattle.sbp_journal.specs.declared.note.Note.TheVariants as notes
use Rattle.sbp_journal.specs.declared.side.Side.TheVariants as sides
use Rattle.initiator_base.specs.declared.fifos.Fifo.TheVariants as fifos
use Rattle.sbp_initiator.specs.declared.purpose.Ending.TheVariants as endings
use Rattle.sbp_world.proofs.Hosts.Told.{taken_told}
use Rattle.sbp_world.proofs.Hosts.Listed.{tells, tells_beside}
use Rattle.sbp_world.proofs.Hosts.Ends.{still, still_if, notes_it, managed_listed, for_listed}

-- a status that is refused changes no slot, and none moves the pin
refused_step : (s : SlotTable) (m : Memory) (block : StatusBlock) (fault : ListFault) (r : Result TicketParts ListFault × (SlotTable × Memory)) → table.status_step s m block ≡ r → r.0 ≡ Err fault → r.1.0 ≡ s
unfolding table.status_step
refused_step s m block fault r e f = subst (λ (x : Result TicketParts ListFault × (SlotTable × Memory)). x.0 ≡ Err fault → x.1.0 ≡ s) e (by_slot (slot_of block.orb)) f
  where
    by_orb : (found : Option TicketParts) (number : ℕ) → (table.status_at found number s m block).0 ≡ Err fault → (table.status_at found number s m block).1.0 ≡ s
    by_orb None number e = refl
    by_orb (Some u) number e = absurd (ok_err e)
      where
        ok_err : Ok u ≡ Err fault → ⊥
        ok_err e = cc

    by_slot : (found : Option ℕ) → (table.status_for found s m block).0 ≡ Err fault → (table.status_for found s m block).1.0 ≡ s
    by_slot None e = refl
    by_slot (Some number) e = by_orb (waiting (slot_in s.slots number)) number e

pinned_step : (s : SlotTable) (m : Memory) (block : StatusBlock) → (table.status_step s m block).1.0.pinned ≡ s.pinned
unfolding table.status_step
pinned_step s m block = by_slot (slot_of block.orb)
  where
    by_orb : (found : Option TicketParts) (number : ℕ) → (table.status_at found number s m block).1.0.pinned ≡ s.pinned
    by_orb None number = refl
    by_orb (Some u) number = refl

    by_slot : (found : Option ℕ) → (table.status_for found s m block).1.0.pinned ≡ s.pinned
    by_slot None = refl
    by_slot (Some number) = by_orb (waiting (slot_in s.slots number)) number

module _ (past : List Moment) where
  -- ---- answers
  responded_listed : (r : List ℕ × Layer Purpose) (source : ℕ) (o : OutboxState) (s : InitiatorState) → Listed past (o, s) → Listed past (responded_as r source o s)
  responded_listed (response, layer) source o s h = record { rows = h.rows; pin = h.pin; beside = h.beside }

  respond_listed : (p : Packet) (bytes : List ℕ) (rcode : ℕ) (given : List ℕ) (t : Turn) → Listed past t → Listed past (respond_step p bytes rcode given t)
  respond_listed p bytes rcode given t h = responded_listed (answering_step t.1.layer p bytes rcode given) (header_in p).source t.0 t.1 h

  ignored_listed : (cause : Cause) (rcode : ℕ) (p : Packet) (bytes : List ℕ) (t : Turn) → Listed past t → Listed past (ignored_step cause rcode p bytes t).1
  ignored_listed cause rcode p bytes t h = respond_listed p bytes rcode [] t h

  got_listed : (p : Packet) (bytes : List ℕ) (t : Turn) → Listed past t → Listed past (got_step p bytes t).1
  got_listed p bytes t h = respond_listed p bytes 0 [] t h

  pick_where : (b : Bool) (x y : Judged × Turn) → (b ≡ true → Listed past x.1) → (b ≡ false → Listed past y.1) → Listed past (cond b x y).1
  pick_where true x y h i = h refl
  pick_where false x y h i = i refl

  responded_sides : (r : List ℕ × Layer Purpose) (source : ℕ) (o : OutboxState) (s : InitiatorState) → (responded_as r source o s).0.sides ≡ o.sides
  responded_sides (response, layer) source o s = refl

  got_sides : (p : Packet) (bytes : List ℕ) (t : Turn) → (got_step p bytes t).1.0.sides ≡ t.0.sides
  got_sides p bytes t = responded_sides (answering_step t.1.layer p bytes 0 []) (header_in p).source t.0 t.1

  called_listed : (o : OutboxState) (s : InitiatorState) → Listed past (o, s) → Listed past (o, called s)
  called_listed o s h = still past o s (called s) refl refl refl h

  -- ---- status blocks
  dead_listed : (b : Bool) (o : OutboxState) (s : InitiatorState) → Listed past (o, s) → Listed past (o, cond b (with_dead s) s)
  dead_listed b o s h = still_if past b o s (with_dead s) s refl refl refl refl refl refl h

  -- a status is taken
  taken_cases : (kind : StatusKind) (block : StatusBlock) (p : Packet) (bytes : List ℕ) (o : OutboxState) (s : InitiatorState) (r : Result TicketParts ListFault × (SlotTable × Memory)) → table.status_step s.lists.slots s.lists.memory block ≡ r → kind ≡ block.kind → ((u : TicketParts) (answer : List ℕ) → r.0 ≡ Ok u → (taken_as (stepped r s.lists) kind p bytes o s).1.0.sides ≡ o.sides ++ sides.Own (notes.Taken s.number u.list u.number kind answer) ∷ [] → MayTake (behind o.sides past) block) → Listed past (o, s) → Listed past (taken_as (stepped r s.lists) kind p bytes o s).1
  taken_cases kind block p bytes o s (Err fault, parts) e k may h =
      ignored_listed causes.Slot 0 p bytes (o, record s { lists = (stepped (Err fault, parts) s.lists).1 }) (record { rows = same_rows; pin = same_pin; beside = h.beside })
    where
      refused : (r : Result TicketParts ListFault × (SlotTable × Memory)) → table.status_step s.lists.slots s.lists.memory block ≡ r → (fault : ListFault) → r.0 ≡ Err fault → r.1.0 ≡ s.lists.slots
      refused r e fault f = refused_step s.lists.slots s.lists.memory block fault r e f

      same_rows : AreRows (behind o.sides past) s.number parts.0
      same_rows = subst (AreRows (behind o.sides past) s.number) (sym (refused (Err fault, parts) e fault refl)) h.rows

      same_pin : Pins s.operation parts.0.pinned
      same_pin = subst (λ (x : SlotTable). Pins s.operation x.pinned) (sym (refused (Err fault, parts) e fault refl)) h.pin
  taken_cases kind block p bytes o s (Ok u, parts) e k may h =
      let lists = (stepped (Ok u, parts) s.lists).1 in
      let answer = answer_of kind lists u.slot in
      let note = notes.Taken s.number u.list u.number kind answer in
      let rows : AreRows (said note ∷ behind o.sides past) s.number parts.0 =
      subst (λ x. AreRows (said (notes.Taken s.number u.list u.number x answer) ∷ behind o.sides past) s.number parts.0) (sym k)
      (subst (λ (x : Result TicketParts ListFault × (SlotTable × Memory)). AreRows (said (notes.Taken s.number u.list u.number block.kind answer) ∷ behind o.sides past) s.number x.1.0) e
      (taken_told (behind o.sides past) s.number s.lists.slots h.rows u s.lists.memory block answer (ap (λ (x : Result TicketParts ListFault × (SlotTable × Memory)). x.0) e) (may u answer refl (got_sides p bytes (taken_by u lists kind o (called s)))))) in
      got_listed p bytes (taken_by u lists kind o (called s))
      (dead_listed (is_dead_kind kind) (told o note) (record (called s) { lists = lists })
      (record {
        rows = tells past s.number parts.0 o note rows;
        pin = subst (Pins s.operation) (sym (ap (λ (x : Result TicketParts ListFault × (SlotTable × Memory)). x.1.0.pinned) (sym e) ∙ pinned_step s.lists.slots s.lists.memory block)) h.pin;
        beside = tells_beside past s.number o note (λ j f. ap not f) h.beside;
      }))

  taken_listed : (kind : StatusKind) (block : StatusBlock) (p : Packet) (bytes : List ℕ) (o : OutboxState) (s : InitiatorState) → kind ≡ block.kind → ((u : TicketParts) (answer : List ℕ) → (table.status_step s.lists.slots s.lists.memory block).0 ≡ Ok u → (taken_as (take_lists s.lists block) kind p bytes o s).1.0.sides ≡ o.sides ++ sides.Own (notes.Taken s.number u.list u.number kind answer) ∷ [] → MayTake (behind o.sides past) block) → Listed past (o, s) → Listed past (taken_as (take_lists s.lists block) kind p bytes o s).1
  unfolding take_lists
  taken_listed kind block p bytes o s k may h = taken_cases kind block p bytes o s (table.status_step s.lists.slots s.lists.memory block) refl k may h

  managed_cases : (found : Option Running) (status : ℕ) (p : Packet) (bytes : List ℕ) (o : OutboxState) (s : InitiatorState) → ((running : Running) → found ≡ Some running → s.operation ≡ Some running) → Listed past (o, s) → Listed past (managed_for found status p bytes o s).1
  managed_cases None status p bytes o s e h = ignored_listed causes.Slot 0 p bytes (o, s) h
  managed_cases (Some running) status p bytes o s e h =
      got_listed p bytes _ (managed_listed past running status o (called s) (e running refl) (called_listed o s h))

  present_is : (b : Bool) (operation : Option Running) (running : Running) → cond b operation None ≡ Some running → operation ≡ Some running
  present_is true operation running e = e
  present_is false operation running e = absurd (none e)
    where
      none : None ≡ Some running → ⊥
      none e = cc

  block_cases : (kind : StatusKind) (block : StatusBlock) (p : Packet) (bytes : List ℕ) (o : OutboxState) (s : InitiatorState) → kind ≡ block.kind → ((u : TicketParts) (answer : List ℕ) → (table.status_step s.lists.slots s.lists.memory block).0 ≡ Ok u → (block_by kind block p bytes o s).1.0.sides ≡ o.sides ++ sides.Own (notes.Taken s.number u.list u.number kind answer) ∷ [] → MayTake (behind o.sides past) block) → Listed past (o, s) → Listed past (block_by kind block p bytes o s).1
  block_cases (kinds.Management status) block p bytes o s k may h =
      managed_cases (present_for block.orb s.operation) status p bytes o s (λ running e. present_is (is_present_orb block.orb s.operation) s.operation running e) h
  block_cases kinds.Good block p bytes o s k may h = taken_listed kinds.Good block p bytes o s k may h
  block_cases (kinds.Check sense) block p bytes o s k may h = taken_listed (kinds.Check sense) block p bytes o s k may h
  block_cases kinds.Dummy block p bytes o s k may h = taken_listed kinds.Dummy block p bytes o s k may h
  block_cases kinds.Aborted block p bytes o s k may h = taken_listed kinds.Aborted block p bytes o s k may h
  block_cases (kinds.Illegal meaning) block p bytes o s k may h = taken_listed (kinds.Illegal meaning) block p bytes o s k may h
  block_cases kinds.Failed block p bytes o s k may h = taken_listed kinds.Failed block p bytes o s k may h

  block_listed : (read : Result StatusBlock OrbFault) (p : Packet) (bytes : List ℕ) (o : OutboxState) (s : InitiatorState) → ((block : StatusBlock) (u : TicketParts) (answer : List ℕ) → read ≡ Ok block → (table.status_step s.lists.slots s.lists.memory block).0 ≡ Ok u → (block_step read p bytes o s).1.0.sides ≡ o.sides ++ sides.Own (notes.Taken s.number u.list u.number block.kind answer) ∷ [] → MayTake (behind o.sides past) block) → Listed past (o, s) → Listed past (block_step read p bytes o s).1
  block_listed (Err fault) p bytes o s may h = ignored_listed causes.Grammar 5 p bytes (o, s) h
  block_listed (Ok block) p bytes o s may h = block_cases block.kind block p bytes o s refl (λ u answer e f. may block u answer refl e f) h

  status_listed : (is_login : Bool) (payload : List ℕ) (p : Packet) (bytes : List ℕ) (o : OutboxState) (s : InitiatorState) → MayBlock past payload o s (status_step is_login payload p bytes o s).1 → Listed past (o, s) → Listed past (status_step is_login payload p bytes o s).1
  status_listed is_login payload p bytes o s may h =
      pick_where (is_login && is_block payload) (got_step p bytes (told o (notes.Told s.number), called s)) (block_step (status_in payload) p bytes o s)
      (λ e. got_listed p bytes (told o (notes.Told s.number), called s) (called_listed (told o (notes.Told s.number)) s (notes_it past (notes.Told s.number) o s (λ j. refl) h)))
      (λ e. block_listed (status_in payload) p bytes o s (λ block u answer f g i. may block u answer f g (ap (λ c. (cond c (got_step p bytes (told o (notes.Told s.number), called s)) (block_step (status_in payload) p bytes o s)).1.0.sides) e ∙ i)) h)

  -- ---- the memory
  read_listed : (r : ℕ × List ℕ) (p : Packet) (bytes : List ℕ) (o : OutboxState) (s : InitiatorState) → Listed past (o, s) → Listed past (read_as r p bytes o s).1
  read_listed (rcode, out) p bytes o s h = respond_listed p bytes rcode out (o, called s) (called_listed o s h)

  written_listed : (offset : ℕ) (payload : List ℕ) (p : Packet) (bytes : List ℕ) (o : OutboxState) (s : InitiatorState) → Listed past (o, s) → Listed past (written_as (write_lists s.lists offset payload) p bytes o s).1
  unfolding write_lists
  written_listed offset payload p bytes o s h =
      respond_listed p bytes (write_lists s.lists offset payload).0 [] (o, record (called s) { lists = (write_lists s.lists offset payload).1 }) (record { rows = h.rows; pin = h.pin; beside = h.beside })

  plain_listed : (p : Packet) (bytes : List ℕ) (rcode : ℕ) (o : OutboxState) (s : InitiatorState) → Listed past (o, s) → Listed past (respond_step p bytes rcode [] (o, called s))
  plain_listed p bytes rcode o s h = respond_listed p bytes rcode [] (o, called s) (called_listed o s h)

  serve_listed : (p : Packet) (bytes : List ℕ) (o : OutboxState) (s : InitiatorState) → Listed past (o, s) → Listed past (serve_step p bytes o s).1
  serve_listed (read_quadlet header offset) bytes o s h = read_listed _ (read_quadlet header offset) bytes o s h
  serve_listed (read_block header offset asked) bytes o s h = read_listed _ (read_block header offset asked) bytes o s h
  serve_listed (write_quadlet header offset value) bytes o s h = written_listed offset (big_bytes 4 value) (write_quadlet header offset value) bytes o s h
  serve_listed (write_block header offset payload) bytes o s h = written_listed offset payload (write_block header offset payload) bytes o s h
  serve_listed (lock header offset extended payload) bytes o s h = plain_listed (lock header offset extended payload) bytes 6 o s h
  serve_listed (write_response header rcode) bytes o s h = plain_listed (write_response header rcode) bytes 6 o s h
  serve_listed (read_quadlet_response header rcode value) bytes o s h = plain_listed (read_quadlet_response header rcode value) bytes 6 o s h
  serve_listed (read_block_response header rcode payload) bytes o s h = plain_listed (read_block_response header rcode payload) bytes 6 o s h
  serve_listed (lock_response header rcode extended payload) bytes o s h = plain_listed (lock_response header rcode extended payload) bytes 6 o s h

  -- ---- a request by its row
  block_at_listed : (fifo : Option Fifo) (payload : List ℕ) (p : Packet) (bytes : List ℕ) (o : OutboxState) (s : InitiatorState) → MayBlock past payload o s (block_at fifo payload p bytes o s).1 → Listed past (o, s) → Listed past (block_at fifo payload p bytes o s).1
  block_at_listed None payload p bytes o s may h = serve_listed p bytes o s h
  block_at_listed (Some fifos.Closed) payload p bytes o s may h = ignored_listed causes.Login 7 p bytes (o, s) h
  block_at_listed (Some fifos.Login) payload p bytes o s may h = status_listed true payload p bytes o s may h
  block_at_listed (Some fifos.Place) payload p bytes o s may h = status_listed false payload p bytes o s may h

  quadlet_at_listed : (fifo : Option Fifo) (p : Packet) (bytes : List ℕ) (o : OutboxState) (s : InitiatorState) → Listed past (o, s) → Listed past (quadlet_at fifo p bytes o s).1
  quadlet_at_listed None p bytes o s h = serve_listed p bytes o s h
  quadlet_at_listed (Some fifos.Closed) p bytes o s h = ignored_listed causes.Login 7 p bytes (o, s) h
  quadlet_at_listed (Some fifos.Login) p bytes o s h = serve_listed p bytes o s h
  quadlet_at_listed (Some fifos.Place) p bytes o s h = serve_listed p bytes o s h

  addressed_listed : (p : Packet) (bytes : List ℕ) (o : OutboxState) (s : InitiatorState) → MayPacket past p o s (addressed p bytes o s).1 → Listed past (o, s) → Listed past (addressed p bytes o s).1
  addressed_listed (write_block header offset payload) bytes o s may h = block_at_listed (fifo_of s offset) payload (write_block header offset payload) bytes o s may h
  addressed_listed (write_quadlet header offset value) bytes o s may h = quadlet_at_listed (fifo_of s offset) (write_quadlet header offset value) bytes o s h
  addressed_listed (read_quadlet header offset) bytes o s may h = serve_listed (read_quadlet header offset) bytes o s h
  addressed_listed (read_block header offset asked) bytes o s may h = serve_listed (read_block header offset asked) bytes o s h
  addressed_listed (lock header offset extended payload) bytes o s may h = serve_listed (lock header offset extended payload) bytes o s h
  addressed_listed (write_response header rcode) bytes o s may h = serve_listed (write_response header rcode) bytes o s h
  addressed_listed (read_quadlet_response header rcode value) bytes o s may h = serve_listed (read_quadlet_response header rcode value) bytes o s h
  addressed_listed (read_block_response header rcode payload) bytes o s may h = serve_listed (read_block_response header rcode payload) bytes o s h
  addressed_listed (lock_response header rcode extended payload) bytes o s may h = serve_listed (lock_response header rcode extended payload) bytes o s h

  -- where a call tells what another does, it may do what that may
  may_same : (p : Packet) (o : OutboxState) (s : InitiatorState) (t u : Turn) → t.0.sides ≡ u.0.sides → MayPacket past p o s t → MayPacket past p o s u
  may_same (write_block header offset payload) o s t u e m = λ block ticket answer f g i. m block ticket answer f g (e ∙ i)
  may_same (write_quadlet header offset value) o s t u e m = tt
  may_same (read_quadlet header offset) o s t u e m = tt
  may_same (read_block header offset asked) o s t u e m = tt
  may_same (lock header offset extended payload) o s t u e m = tt
  may_same (write_response header rcode) o s t u e m = tt
  may_same (read_quadlet_response header rcode value) o s t u e m = tt
  may_same (read_block_response header rcode payload) o s t u e m = tt
  may_same (lock_response header rcode extended payload) o s t u e m = tt

  request_listed : (p : Packet) (bytes : List ℕ) (o : OutboxState) (s : InitiatorState) → MayPacket past p o s (request_step p bytes o s).1 → Listed past (o, s) → Listed past (request_step p bytes o s).1
  request_listed p bytes o s may h =
      pick_where (is_foreign p s) (ignored_step causes.Source 7 p bytes (o, s)) (addressed p bytes o s) (λ e. ignored_listed causes.Source 7 p bytes (o, s) h)
      (λ e. addressed_listed p bytes o s (may_same p o s (request_step p bytes o s).1 (addressed p bytes o s).1 (ap (λ c. (cond c (ignored_step causes.Source 7 p bytes (o, s)) (addressed p bytes o s)).1.0.sides) e) may) h)

  -- ---- a packet as a whole
  may_layer : (p : Packet) (o : OutboxState) (s : InitiatorState) (layer : Layer Purpose) (t : Turn) → MayPacket past p o s t → MayPacket past p o (record s { layer = layer }) t
  may_layer (write_block header offset payload) o s layer t m = m
  may_layer (write_quadlet header offset value) o s layer t m = tt
  may_layer (read_quadlet header offset) o s layer t m = tt
  may_layer (read_block header offset asked) o s layer t m = tt
  may_layer (lock header offset extended payload) o s layer t m = tt
  may_layer (write_response header rcode) o s layer t m = tt
  may_layer (read_quadlet_response header rcode value) o s layer t m = tt
  may_layer (read_block_response header rcode payload) o s layer t m = tt
  may_layer (lock_response header rcode extended payload) o s layer t m = tt

  layer_listed : (o : OutboxState) (s : InitiatorState) (layer : Layer Purpose) → Listed past (o, s) → Listed past (o, record s { layer = layer })
  layer_listed o s layer h = still past o s (record s { layer = layer }) refl refl refl h

  received_listed : (found : Finding Purpose × Layer Purpose) (bytes : List ℕ) (o : OutboxState) (s : InitiatorState) → MayFind past found.0 o s (received found bytes o s).1 → Listed past (o, s) → Listed past (received found bytes o s).1
  received_listed (of_generation, layer) bytes o s may h = layer_listed o s layer h
  received_listed (of_grammar, layer) bytes o s may h = layer_listed o s layer h
  received_listed (of_label, layer) bytes o s may h = layer_listed o s layer h
  received_listed (of_response p label purpose, layer) bytes o s may h =
      for_listed past purpose (ending_of p) o (called (record s { layer = layer })) (called_listed o (record s { layer = layer }) (layer_listed o s layer h))
  received_listed (of_again p rcode, layer) bytes o s may h = ignored_listed causes.Again rcode p bytes (o, record s { layer = layer }) (layer_listed o s layer h)
  received_listed (of_request p, layer) bytes o s may h = request_listed p bytes o (record s { layer = layer }) (may_layer p o s layer (request_step p bytes o (record s { layer = layer })).1 may) (layer_listed o s layer h)

  pub receive_listed : (generation : ℕ) (bytes : List ℕ) (o : OutboxState) (s : InitiatorState) → MayFind past (judging_step s.layer generation bytes).0 o s (receive_step generation bytes o s).1 → Listed past (o, s) → Listed past (receive_step generation bytes o s).1
  unfolding receive_step
  receive_listed generation bytes o s may h = received_listed (judging_step s.layer generation bytes) bytes o s may h

  -- ---- a time-out
  expired_listed : (r : Result (Option Purpose) Stale × Layer Purpose) (o : OutboxState) (s : InitiatorState) → Listed past (o, s) → Listed past (expired_as r o s).1
  expired_listed (Err stale, layer) o s h = layer_listed o s layer h
  expired_listed (Ok purpose, layer) o s h =
      for_listed past purpose endings.Expired o (called (record s { layer = layer })) (called_listed o (record s { layer = layer }) (layer_listed o s layer h))

  pub expire_listed : (label : LabelParts) (o : OutboxState) (s : InitiatorState) → Listed past (o, s) → Listed past (expire_step label o s).1
  unfolding expire_step
  expire_listed label o s h = expired_listed (expiring_step s.layer s.target label) o s h
