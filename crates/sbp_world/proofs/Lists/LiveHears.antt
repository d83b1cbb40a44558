-- What a packet that is delivered to an initiator, and a time-out of a transaction of it, make of its session and of its operation under way.
use Rattle.sbp_world.proofs.Words.Std.{◌≡◌, ◌∙◌, refl, sym, ap, subst, ℕ, ◌==◌, ◌&&◌, Bool, true, false, cond, List, [], replicate, Option, Some, None, Result, Ok, Err, big_bytes}
use Rattle.sbp_world.proofs.Words.Wire.{Header, LabelParts, Packet, header_in, lock, lock_response, read_block, read_block_response, read_quadlet, read_quadlet_response, write_block, write_quadlet, write_response, Stale, Finding, Layer, answering_step, expiring_step, judging_step, of_again, of_generation, of_grammar, of_label, of_request, of_response, Judged, OutboxState, empty_outbox}
use Rattle.sbp_world.proofs.Words.Target.{is_block}
use Rattle.sbp_world.proofs.Words.Initiator.{read_step, Fifo, is_dead_kind, OrbFault, StatusBlock, StatusKind, ListState, take_lists, write_lists, TicketParts, Purpose, Running, InitiatorState, Turn, is_conflict, managed_step, told, with_dead, addressed, block_at, block_by, block_step, called, expire_step, expired_as, fifo_of, got_step, ignored_step, is_foreign, managed_for, present_for, quadlet_at, read_as, receive_step, received, request_step, respond_step, responded_as, serve_step, status_step, taken_as, taken_by, written_as, ending_of, is_orb_of, is_present_orb, status_in}
use Rattle.sbp_world.proofs.Words.World.{is_open}
use Rattle.sbp_world.proofs.Hosts.KnowHears.{IfExpires, IfFits}
use Rattle.sbp_world.proofs.Hosts.PresentOrbs.{present_by}
use Rattle.initiator_base.specs.declared.fifos.Fifo.TheVariants as fifos
use Rattle.sbp_initiator.proofs.Histories.Effects.{Fits}
use Rattle.sbp_initiator.proofs.Histories.Purposes.{IfFor}
use Rattle.orb_layout.specs.declared.status.StatusKind.TheVariants as kinds
use Rattle.sbp_initiator.specs.declared.purpose.Ending.TheVariants as endings
use Rattle.sbp_initiator.specs.declared.purpose.Purpose.TheVariants as purposes
use Rattle.sbp_journal.specs.declared.cause.Cause.TheVariants as ignored
use Rattle.sbp_journal.specs.declared.note.Note.TheVariants as notes
use Rattle.sbp_world.proofs.Sessions.Sessions.{own_write}
use Rattle.sbp_world.proofs.Lists.LiveMoves.{At, IsLike, Moved, for_moved, like_self, manages as moves_managed, rests}

-- A status block is delivered, of the target, to an open FIFO, which names the management ORB of the operation under way.
pub record IsAnswered (s : InitiatorState) (generation : ℕ) (bytes : List ℕ) (running : Running) (status : ℕ) : Type 0 where
  pub header : Header
  pub offset : ℕ
  pub payload : List ℕ
  pub found : (judging_step s.layer generation bytes).0 ≡ of_request (write_block header offset payload)
  pub source : header.source ≡ s.target
  pub opens : is_open (fifo_of s offset) ≡ true
  pub block : StatusBlock
  pub read : status_in payload ≡ Ok block
  pub kind : block.kind ≡ kinds.Management status
  pub under_way : s.operation ≡ Some running
  pub names : is_orb_of running.managed block.orb ≡ true

-- The write of the operation under way is answered with conflict_error.
pub record IsUndone (s : InitiatorState) (generation : ℕ) (bytes : List ℕ) (running : Running) : Type 0 where
  pub packet : Packet
  pub label : LabelParts
  pub act : ℕ
  pub found : (judging_step s.layer generation bytes).0 ≡ of_response packet label (Some (purposes.Management act))
  pub rcode : ℕ
  pub refused : ending_of packet ≡ endings.Refused rcode
  pub conflict : is_conflict rcode ≡ true
  pub under_way : s.operation ≡ Some running
  pub own : (running.act == act) ≡ true

-- a transaction that fits an operation
fits_only : (purpose : Option Purpose) (s : InitiatorState) → (Q : Purpose → Type 0) → IfFor (λ p. Fits p s.operation × Q p) purpose → IfFor (λ p. Fits p s.operation) purpose
fits_only None s Q f = f
fits_only (Some purpose) s Q f = f.0

module _ (s : InitiatorState) (generation : ℕ) (bytes : List ℕ) (fits : IfFits (judging_step s.layer generation bytes).0 s) where
  abbrev A : Running → ℕ → Type 0
  A = IsAnswered s generation bytes

  abbrev U : Running → Type 0
  U = IsUndone s generation bytes

  abbrev Here : Turn → Type 0
  Here = At s A U

  quiet : (u : InitiatorState) → u.operation ≡ s.operation → u.seat ≡ s.seat → Moved s A U u.operation u.seat
  quiet u a b = rests a (subst (λ seat. IsLike s.seat seat) (sym b) (like_self s.seat))

  pick_judged : (b : Bool) (x y : Judged × Turn) → Here x.1 → Here y.1 → Here (cond b x y).1
  pick_judged true x y h k = h
  pick_judged false x y h k = k

  responds_as : (r : List ℕ × Layer Purpose) (source : ℕ) (o : OutboxState) (u : InitiatorState) → Moved s A U u.operation u.seat → Here (responded_as r source o u)
  responds_as (response, layer) source o u h = h

  responds : (p : Packet) (rcode : ℕ) (given : List ℕ) (t : Turn) → Here t → Here (respond_step p bytes rcode given t)
  responds p rcode given t h = responds_as (answering_step t.1.layer p bytes rcode given) (header_in p).source t.0 t.1 h

  -- ---- the memory
  reads : (r : ℕ × List ℕ) (p : Packet) (o : OutboxState) (u : InitiatorState) → Moved s A U u.operation u.seat → Here (read_as r p bytes o u).1
  reads (rcode, out) p o u h = responds p rcode out (o, called u) h

  writes : (r : ℕ × ListState) (p : Packet) (o : OutboxState) (u : InitiatorState) → Moved s A U u.operation u.seat → Here (written_as r p bytes o u).1
  writes (rcode, lists) p o u h = responds p rcode [] (o, record (called u) { lists = lists }) h

  serves : (p : Packet) (o : OutboxState) (u : InitiatorState) → Moved s A U u.operation u.seat → Here (serve_step p bytes o u).1
  serves (read_quadlet header offset) o u h = reads (read_step u.lists.memory offset (replicate 4 0)) (read_quadlet header offset) o u h
  serves (read_block header offset asked) o u h = reads (read_step u.lists.memory offset (replicate asked 0)) (read_block header offset asked) o u h
  serves (write_quadlet header offset value) o u h = writes (write_lists u.lists offset (big_bytes 4 value)) (write_quadlet header offset value) o u h
  serves (write_block header offset payload) o u h = writes (write_lists u.lists offset payload) (write_block header offset payload) o u h
  serves (write_response header rcode) o u h = responds (write_response header rcode) 6 [] (o, called u) h
  serves (read_quadlet_response header rcode value) o u h = responds (read_quadlet_response header rcode value) 6 [] (o, called u) h
  serves (read_block_response header rcode payload) o u h = responds (read_block_response header rcode payload) 6 [] (o, called u) h
  serves (lock header offset extended payload) o u h = responds (lock header offset extended payload) 6 [] (o, called u) h
  serves (lock_response header rcode extended payload) o u h = responds (lock_response header rcode extended payload) 6 [] (o, called u) h

  quadlets_at : (fifo : Option Fifo) (p : Packet) (o : OutboxState) (u : InitiatorState) → Moved s A U u.operation u.seat → Here (quadlet_at fifo p bytes o u).1
  quadlets_at None p o u h = serves p o u h
  quadlets_at (Some fifos.Closed) p o u h = responds p 7 [] (o, u) h
  quadlets_at (Some fifos.Login) p o u h = serves p o u h
  quadlets_at (Some fifos.Place) p o u h = serves p o u h

  -- ---- what the packet is, as it is known so far
  module _ (layer : Layer Purpose) (o : OutboxState) where
    abbrev u : InitiatorState
    u = record s { layer = layer }

    here : Moved s A U s.operation s.seat
    here = quiet s refl refl

    module _ (header : Header) (offset : ℕ) (payload : List ℕ) (found : (judging_step s.layer generation bytes).0 ≡ of_request (write_block header offset payload)) (source : header.source ≡ s.target) (opens : is_open (fifo_of s offset) ≡ true) where
      abbrev p : Packet
      p = write_block header offset payload

      managed : (block : StatusBlock) (status : ℕ) → status_in payload ≡ Ok block → block.kind ≡ kinds.Management status → (x : Option Running) → present_for block.orb s.operation ≡ x → Here (managed_for x status p bytes o u).1
      managed block status read kind None e = responds p 0 [] (o, u) here
      managed block status read kind (Some running) e =
          let i = present_by block.orb s.operation running (is_present_orb block.orb s.operation) refl e in
          responds p 0 [] (managed_step running status o (called u))
          (moves_managed s A U running status o (called u) i.is refl refl refl (record {
            header = header;
            offset = offset;
            payload = payload;
            found = found;
            source = source;
            opens = opens;
            block = block;
            read = read;
            kind = kind;
            under_way = i.is;
            names = i.named;
          }))

      dead_if : (b : Bool) (lists : ListState) → Moved s A U (cond b (with_dead (record (called u) { lists = lists })) (record (called u) { lists = lists })).operation (cond b (with_dead (record (called u) { lists = lists })) (record (called u) { lists = lists })).seat
      dead_if true lists = here
      dead_if false lists = here

      takes_as : (r : Option TicketParts × ListState) (kind : StatusKind) → Here (taken_as r kind p bytes o u).1
      takes_as (None, lists) kind = responds p 0 [] (o, record u { lists = lists }) here
      takes_as (Some t, lists) kind = responds p 0 [] (taken_by t lists kind o (called u)) (dead_if (is_dead_kind kind) lists)

      takes : (block : StatusBlock) (kind : StatusKind) → Here (taken_as (take_lists u.lists block) kind p bytes o u).1
      takes block kind = takes_as (take_lists u.lists block) kind

      kinds_by : (block : StatusBlock) → status_in payload ≡ Ok block → (kind : StatusKind) → block.kind ≡ kind → Here (block_by kind block p bytes o u).1
      kinds_by block read (kinds.Management status) k = managed block status read k (present_for block.orb s.operation) refl
      kinds_by block read kinds.Good k = takes block kinds.Good
      kinds_by block read (kinds.Check sense) k = takes block (kinds.Check sense)
      kinds_by block read kinds.Dummy k = takes block kinds.Dummy
      kinds_by block read kinds.Aborted k = takes block kinds.Aborted
      kinds_by block read (kinds.Illegal meaning) k = takes block (kinds.Illegal meaning)
      kinds_by block read kinds.Failed k = takes block kinds.Failed

      blocks : (r : Result StatusBlock OrbFault) → status_in payload ≡ r → Here (block_step r p bytes o u).1
      blocks (Err fault) read = responds p 5 [] (o, u) here
      blocks (Ok block) read = kinds_by block read block.kind refl

      statuses : (is_login : Bool) → Here (status_step is_login payload p bytes o u).1
      statuses is_login =
          pick_judged (is_login && is_block payload) (got_step p bytes (told o (notes.Told s.number), called u)) (block_step (status_in payload) p bytes o u)
          (responds p 0 [] (told o (notes.Told s.number), called u) here) (blocks (status_in payload) refl)

    fifos_by : (header : Header) (offset : ℕ) (payload : List ℕ) → (judging_step s.layer generation bytes).0 ≡ of_request (write_block header offset payload) → header.source ≡ s.target → (fifo : Option Fifo) → fifo_of s offset ≡ fifo → Here (block_at fifo payload (write_block header offset payload) bytes o u).1
    fifos_by header offset payload found source None e = serves (write_block header offset payload) o u here
    fifos_by header offset payload found source (Some fifos.Closed) e = responds (write_block header offset payload) 7 [] (o, u) here
    fifos_by header offset payload found source (Some fifos.Login) e = statuses header offset payload found source (ap is_open e) true
    fifos_by header offset payload found source (Some fifos.Place) e = statuses header offset payload found source (ap is_open e) false

    reaches : (p : Packet) → (judging_step s.layer generation bytes).0 ≡ of_request p → is_foreign p u ≡ false → Here (addressed p bytes o u).1
    reaches (read_quadlet header offset) found f = serves (read_quadlet header offset) o u here
    reaches (read_block header offset asked) found f = serves (read_block header offset asked) o u here
    reaches (write_quadlet header offset value) found f = quadlets_at (fifo_of u offset) (write_quadlet header offset value) o u here
    reaches (write_block header offset payload) found f = fifos_by header offset payload found (own_write header.source s.target f) (fifo_of s offset) refl
    reaches (write_response header rcode) found f = serves (write_response header rcode) o u here
    reaches (read_quadlet_response header rcode value) found f = serves (read_quadlet_response header rcode value) o u here
    reaches (read_block_response header rcode payload) found f = serves (read_block_response header rcode payload) o u here
    reaches (lock header offset extended payload) found f = serves (lock header offset extended payload) o u here
    reaches (lock_response header rcode extended payload) found f = serves (lock_response header rcode extended payload) o u here

    requests : (p : Packet) → (judging_step s.layer generation bytes).0 ≡ of_request p → Here (request_step p bytes o u).1
    requests p found = by (is_foreign p u) refl
      where
        by : (b : Bool) → is_foreign p u ≡ b → Here (cond b (ignored_step ignored.Source 7 p bytes (o, u)) (addressed p bytes o u)).1
        by true e = responds p 7 [] (o, u) here
        by false e = reaches p found e

  -- ---- a packet as a whole
  undone_of : (p : Packet) (label : LabelParts) (purpose : Option Purpose) → (judging_step s.layer generation bytes).0 ≡ of_response p label purpose → (act rcode : ℕ) → purpose ≡ Some (purposes.Management act) → ending_of p ≡ endings.Refused rcode → is_conflict rcode ≡ true → (running : Running) → s.operation ≡ Some running → (running.act == act) ≡ true → U running
  undone_of p label purpose found act rcode e f c running is own = record {
    packet = p;
    label = label;
    act = act;
    found = found ∙ ap (of_response p label) e;
    rcode = rcode;
    refused = f;
    conflict = c;
    under_way = is;
    own = own;
  }

  received_as : (f : Finding Purpose) → (judging_step s.layer generation bytes).0 ≡ f → (layer : Layer Purpose) → Here (received (f, layer) bytes empty_outbox s).1
  received_as of_generation found layer = quiet (record s { layer = layer }) refl refl
  received_as of_grammar found layer = quiet (record s { layer = layer }) refl refl
  received_as of_label found layer = quiet (record s { layer = layer }) refl refl
  received_as (of_response p label purpose) found layer =
      for_moved s A U purpose (ending_of p) empty_outbox (called (record s { layer = layer })) (fits_only purpose s _ (subst (λ (f : Finding Purpose). IfFits f s) found fits)) (undone_of p label purpose found) refl refl
  received_as (of_again p rcode) found layer = responds p rcode [] (empty_outbox, record s { layer = layer }) (quiet s refl refl)
  received_as (of_request p) found layer = requests layer empty_outbox p found

  pub delivery_moved : Here (receive_step generation bytes empty_outbox s).1
  unfolding receive_step
  delivery_moved = received_as (judging_step s.layer generation bytes).0 refl (judging_step s.layer generation bytes).1

-- ---- a time-out answers nothing and undoes nothing
module _ (s : InitiatorState) where
  abbrev pub Never : Running → ℕ → Type 0
  Never running status = ⊥

  abbrev pub Not : Running → Type 0
  Not running = ⊥

  expired_moved : (r : Result (Option Purpose) Stale × Layer Purpose) → IfExpires r.0 s → At s Never Not (expired_as r empty_outbox s).1
  expired_moved (Err stale, layer) f = rests refl (like_self s.seat)
  expired_moved (Ok purpose, layer) f =
      for_moved s Never Not purpose endings.Expired empty_outbox (called (record s { layer = layer })) (fits_only purpose s _ f) (λ act rcode e g. absurd (differ rcode g)) refl refl
    where
      differ : (rcode : ℕ) → endings.Expired ≡ endings.Refused rcode → ⊥
      differ rcode e = cc

  pub lapse_moved : (label : LabelParts) → IfExpires (expiring_step s.layer s.target label).0 s → At s Never Not (expire_step label empty_outbox s).1
  unfolding expire_step
  lapse_moved label f = expired_moved (expiring_step s.layer s.target label) f
