-- A delivery and a time-out, and the core of the initiator's host.
use Rattle.sbp_world.proofs.Words.Std.{◌≡◌, refl, ℕ, Bool, true, false, cond, List, [], replicate, Option, Some, None, Result, Ok, Err, big_bytes}
use Rattle.sbp_world.proofs.Words.Wire.{LabelParts, Packet, header_in, lock, lock_response, read_block, read_block_response, read_quadlet, read_quadlet_response, write_block, write_quadlet, write_response, Stale, Finding, Layer, answering_step, expiring_step, judging_step, of_again, of_generation, of_grammar, of_label, of_request, of_response, Moment, OutboxState, Judged}
use Rattle.sbp_world.proofs.Words.Target.{is_block}
use Rattle.sbp_world.proofs.Words.Initiator.{read_step, OrbFault, StatusBlock, StatusKind, ListState, take_lists, write_lists, TicketParts, Fifo, Purpose, Running, InitiatorState, Turn, managed_step, told, with_dead, is_dead_kind, addressed, answer_of, block_at, block_by, block_step, called, expire_step, expired_as, fifo_of, is_foreign, managed_for, present_for, quadlet_at, read_as, receive_step, received, responded_as, respond_step, serve_step, status_step, taken_as, taken_by, type_error, written_as, ending_of, is_present_orb, status_in}
use Rattle.orb_layout.specs.declared.status.StatusKind.TheVariants as kinds
use Rattle.sbp_journal.specs.declared.note.Note.TheVariants as notes
use Rattle.initiator_base.specs.declared.fifos.Fifo.TheVariants as fifos
use Rattle.sbp_initiator.specs.declared.purpose.Ending.TheVariants as endings
use Rattle.sbp_initiator.proofs.Histories.Effects.{Fits}
use Rattle.sbp_initiator.proofs.Histories.Purposes.{IfFor}
use Rattle.sbp_world.proofs.Hosts.Cores.{taken_told}
use Rattle.sbp_world.proofs.Hosts.KnowEnds.{Points, for_known, managed_known}
use Rattle.sbp_world.proofs.Hosts.Knowing.{Known, pick_state, still_known, tell_plain}

-- what a response closes, or expires, is for the operation under way
abbrev pub IfFits : Finding Purpose → InitiatorState → Type 0
IfFits (of_response q label purpose) s = IfFor (λ p. Fits p s.operation × Points p s.lists.slots.present s.marks.pointing) purpose
IfFits _ s = Unit {0}

abbrev pub IfExpires : Result (Option Purpose) Stale → InitiatorState → Type 0
IfExpires (Ok purpose) s = IfFor (λ p. Fits p s.operation × Points p s.lists.slots.present s.marks.pointing) purpose
IfExpires (Err stale) s = Unit {0}

module _ (past : List Moment) where
  responded_known : (r : List ℕ × Layer Purpose) (source : ℕ) (o : OutboxState) (s : InitiatorState) → Known past (o, s) → Known past (responded_as r source o s)
  responded_known (response, layer) source o s k = still_known past o _ s (record s { layer = layer }) refl refl refl k

  answered_known : (q : Packet) (bytes : List ℕ) (rcode : ℕ) (given : List ℕ) (t : Turn) → Known past t → Known past (respond_step q bytes rcode given t)
  answered_known q bytes rcode given t k = responded_known (answering_step t.1.layer q bytes rcode given) (header_in q).source t.0 t.1 k

  called_known : (o : OutboxState) (s : InitiatorState) → Known past (o, s) → Known past (o, called s)
  called_known o s k = still_known past o o s (called s) refl refl refl k

  -- what two judgements leave
  pick_left : (b : Bool) (x y : Judged × Turn) → Known past x.1 → Known past y.1 → Known past (cond b x y).1
  pick_left true x y h k = h
  pick_left false x y h k = k

  -- ---- a status block

  module _ (bytes : List ℕ) (o : OutboxState) where
    took_known : (t : TicketParts) (lists : ListState) (kind : StatusKind) (s : InitiatorState) → Known past (o, s) → Known past (taken_by t lists kind o s)
    took_known t lists kind s k =
        let note = notes.Taken s.number t.list t.number kind (answer_of kind lists t.slot) in
        let u = record s { lists = lists } in
        let now : Known past (told o note, u) = tell_plain past note o s u refl refl (λ ms j. taken_told s.number t.list t.number kind (answer_of kind lists t.slot) ms j) (λ ms. refl) k in
        pick_state past (is_dead_kind kind) (told o note) (with_dead u) u (still_known past (told o note) (told o note) u (with_dead u) refl refl refl now) now

    taken_known : (r : Option TicketParts × ListState) (kind : StatusKind) (q : Packet) (s : InitiatorState) → Known past (o, s) → Known past (taken_as r kind q bytes o s).1
    taken_known (None, lists) kind q s k = answered_known q bytes 0 [] (o, record s { lists = lists }) (still_known past o o s (record s { lists = lists }) refl refl refl k)
    taken_known (Some t, lists) kind q s k = answered_known q bytes 0 [] (taken_by t lists kind o (called s)) (took_known t lists kind (called s) (called_known o s k))

    ended_for_known : (found : Option Running) (status : ℕ) (q : Packet) (s : InitiatorState) → ((running : Running) → found ≡ Some running → s.operation ≡ Some running) → Known past (o, s) → Known past (managed_for found status q bytes o s).1
    ended_for_known None status q s e k = answered_known q bytes 0 [] (o, s) k
    ended_for_known (Some running) status q s e k = answered_known q bytes 0 [] (managed_step running status o (called s)) (managed_known past running status o (called s) (e running refl) (called_known o s k))

    present_is : (b : Bool) (operation : Option Running) (running : Running) → cond b operation None ≡ Some running → operation ≡ Some running
    present_is true operation running e = e
    present_is false operation running e = absurd (differ e)
      where
        differ : None ≡ Some running → ⊥
        differ e = cc

    block_known : (kind : StatusKind) (block : StatusBlock) (q : Packet) (s : InitiatorState) → Known past (o, s) → Known past (block_by kind block q bytes o s).1
    block_known (kinds.Management status) block q s k =
        ended_for_known (present_for block.orb s.operation) status q s (λ running e. present_is (is_present_orb block.orb s.operation) s.operation running e) k
    block_known kinds.Good block q s k = taken_known (take_lists s.lists block) kinds.Good q s k
    block_known (kinds.Check sense) block q s k = taken_known (take_lists s.lists block) (kinds.Check sense) q s k
    block_known kinds.Dummy block q s k = taken_known (take_lists s.lists block) kinds.Dummy q s k
    block_known kinds.Aborted block q s k = taken_known (take_lists s.lists block) kinds.Aborted q s k
    block_known (kinds.Illegal meaning) block q s k = taken_known (take_lists s.lists block) (kinds.Illegal meaning) q s k
    block_known kinds.Failed block q s k = taken_known (take_lists s.lists block) kinds.Failed q s k

    read_known : (r : Result StatusBlock OrbFault) (q : Packet) (s : InitiatorState) → Known past (o, s) → Known past (block_step r q bytes o s).1
    read_known (Err fault) q s k = answered_known q bytes 5 [] (o, s) k
    read_known (Ok block) q s k = block_known block.kind block q s k

    status_known : (is_login : Bool) (payload : List ℕ) (q : Packet) (s : InitiatorState) → Known past (o, s) → Known past (status_step is_login payload q bytes o s).1
    status_known true payload q s k =
        pick_left (is_block payload) _ _
        (answered_known q bytes 0 [] (told o (notes.Told s.number), called s) (tell_plain past (notes.Told s.number) o s (called s) refl refl (λ ms j. refl) (λ ms. refl) k))
        (read_known (status_in payload) q s k)
    status_known false payload q s k = read_known (status_in payload) q s k

    -- ---- another request

    read_as_known : (r : ℕ × List ℕ) (q : Packet) (s : InitiatorState) → Known past (o, s) → Known past (read_as r q bytes o s).1
    read_as_known (rcode, out) q s k = answered_known q bytes rcode out (o, called s) (called_known o s k)

    written_known : (r : ℕ × ListState) (q : Packet) (s : InitiatorState) → Known past (o, s) → Known past (written_as r q bytes o s).1
    written_known (rcode, lists) q s k =
        let u = record (called s) { lists = lists } in answered_known q bytes rcode [] (o, u) (still_known past o o s u refl refl refl k)

    unserved_known : (q : Packet) (s : InitiatorState) → Known past (o, s) → Known past (respond_step q bytes type_error [] (o, called s))
    unserved_known q s k = answered_known q bytes type_error [] (o, called s) (called_known o s k)

    serve_known : (q : Packet) (s : InitiatorState) → Known past (o, s) → Known past (serve_step q bytes o s).1
    serve_known (read_quadlet header offset) s k = read_as_known (read_step s.lists.memory offset (replicate 4 0)) (read_quadlet header offset) s k
    serve_known (read_block header offset asked) s k = read_as_known (read_step s.lists.memory offset (replicate asked 0)) (read_block header offset asked) s k
    serve_known (write_quadlet header offset value) s k = written_known (write_lists s.lists offset (big_bytes 4 value)) (write_quadlet header offset value) s k
    serve_known (write_block header offset payload) s k = written_known (write_lists s.lists offset payload) (write_block header offset payload) s k
    serve_known (lock header offset extended payload) s k = unserved_known (lock header offset extended payload) s k
    serve_known (write_response header rcode) s k = unserved_known (write_response header rcode) s k
    serve_known (read_quadlet_response header rcode value) s k = unserved_known (read_quadlet_response header rcode value) s k
    serve_known (read_block_response header rcode payload) s k = unserved_known (read_block_response header rcode payload) s k
    serve_known (lock_response header rcode extended payload) s k = unserved_known (lock_response header rcode extended payload) s k

    block_at_known : (fifo : Option Fifo) (payload : List ℕ) (q : Packet) (s : InitiatorState) → Known past (o, s) → Known past (block_at fifo payload q bytes o s).1
    block_at_known None payload q s k = serve_known q s k
    block_at_known (Some fifos.Closed) payload q s k = answered_known q bytes 7 [] (o, s) k
    block_at_known (Some fifos.Login) payload q s k = status_known true payload q s k
    block_at_known (Some fifos.Place) payload q s k = status_known false payload q s k

    quadlet_known : (fifo : Option Fifo) (q : Packet) (s : InitiatorState) → Known past (o, s) → Known past (quadlet_at fifo q bytes o s).1
    quadlet_known None q s k = serve_known q s k
    quadlet_known (Some fifos.Closed) q s k = answered_known q bytes 7 [] (o, s) k
    quadlet_known (Some fifos.Login) q s k = serve_known q s k
    quadlet_known (Some fifos.Place) q s k = serve_known q s k

    addressed_known : (q : Packet) (s : InitiatorState) → Known past (o, s) → Known past (addressed q bytes o s).1
    addressed_known (write_block header offset payload) s k = block_at_known (fifo_of s offset) payload (write_block header offset payload) s k
    addressed_known (write_quadlet header offset value) s k = quadlet_known (fifo_of s offset) (write_quadlet header offset value) s k
    addressed_known (read_quadlet header offset) s k = serve_known (read_quadlet header offset) s k
    addressed_known (read_block header offset asked) s k = serve_known (read_block header offset asked) s k
    addressed_known (lock header offset extended payload) s k = serve_known (lock header offset extended payload) s k
    addressed_known (write_response header rcode) s k = serve_known (write_response header rcode) s k
    addressed_known (read_quadlet_response header rcode value) s k = serve_known (read_quadlet_response header rcode value) s k
    addressed_known (read_block_response header rcode payload) s k = serve_known (read_block_response header rcode payload) s k
    addressed_known (lock_response header rcode extended payload) s k = serve_known (lock_response header rcode extended payload) s k

    -- ---- a delivery

    received_known : (f : Finding Purpose) (layer : Layer Purpose) (s : InitiatorState) → IfFits f s → Known past (o, s) → Known past (received (f, layer) bytes o s).1
    received_known of_generation layer s f k = still_known past o o s (record s { layer = layer }) refl refl refl k
    received_known of_grammar layer s f k = still_known past o o s (record s { layer = layer }) refl refl refl k
    received_known of_label layer s f k = still_known past o o s (record s { layer = layer }) refl refl refl k
    received_known (of_response q label purpose) layer s f k =
        let u = called (record s { layer = layer }) in for_known past purpose (ending_of q) o u f (still_known past o o s u refl refl refl k)
    received_known (of_again q rcode) layer s f k =
        let u = record s { layer = layer } in answered_known q bytes rcode [] (o, u) (still_known past o o s u refl refl refl k)
    received_known (of_request q) layer s f k =
        let u = record s { layer = layer } in
        let now : Known past (o, u) = still_known past o o s u refl refl refl k in
        pick_left (is_foreign q u) _ _ (answered_known q bytes 7 [] (o, u) now) (addressed_known q u now)

    pub receive_known : (generation : ℕ) (s : InitiatorState) → IfFits (judging_step s.layer generation bytes).0 s → Known past (o, s) → Known past (receive_step generation bytes o s).1
    unfolding receive_step
    receive_known generation s f k = received_known (judging_step s.layer generation bytes).0 (judging_step s.layer generation bytes).1 s f k

  -- ---- a time-out

  expired_known : (r : Result (Option Purpose) Stale) (layer : Layer Purpose) (o : OutboxState) (s : InitiatorState) → IfExpires r s → Known past (o, s) → Known past (expired_as (r, layer) o s).1
  expired_known (Err stale) layer o s f k = still_known past o o s (record s { layer = layer }) refl refl refl k
  expired_known (Ok purpose) layer o s f k =
      let u = called (record s { layer = layer }) in for_known past purpose endings.Expired o u f (still_known past o o s u refl refl refl k)

  pub expire_known : (label : LabelParts) (o : OutboxState) (s : InitiatorState) → IfExpires (expiring_step s.layer s.target label).0 s → Known past (o, s) → Known past (expire_step label o s).1
  unfolding expire_step
  expire_known label o s f k = expired_known (expiring_step s.layer s.target label).0 (expiring_step s.layer s.target label).1 o s f k
