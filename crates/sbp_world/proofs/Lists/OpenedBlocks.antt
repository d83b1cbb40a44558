-- Which request drops the list of an initiator as it hears it: a status block 00 of its target alone, at an open FIFO, for the management ORB of its operation, which ends lists.
use Rattle.sbp_world.proofs.Words.Std.{arith, ◌≡◌, ◌∙◌, refl, sym, ap, subst, ℕ, ◌==◌, ◌&&◌, not, Bool, true, false, cond, List, Option, Some, None, Result, Ok, Err, nat_tests, not-false}
use Rattle.sbp_world.proofs.Words.Wire.{Header, Packet, lock, lock_response, read_block, read_block_response, read_quadlet, read_quadlet_response, write_block, write_quadlet, write_response, Finding, Layer, judging_step, of_request, empty_outbox, Judged}
use Rattle.sbp_world.proofs.Words.Target.{is_block}
use Rattle.sbp_world.proofs.Words.Initiator.{Fifo, OrbFault, StatusBlock, StatusKind, ListState, take_lists, TicketParts, Purpose, Running, InitiatorState, Turn, drop_where, end_step, good_end, moved, then_step, told, addressed, block_at, block_by, block_step, called, fifo_of, got_step, ignored_step, is_foreign, managed_for, present_for, quadlet_at, receive_step, received, request_step, serve_step, status_step, taken_as, ends_list, is_orb_of, is_present_orb, status_in, bad}
use Rattle.sbp_world.proofs.Words.World.{is_open}
use Rattle.initiator_base.specs.declared.fifos.Fifo.TheVariants as fifos
use Rattle.orb_layout.specs.declared.status.StatusKind.TheVariants as kinds
use Rattle.sbp_journal.specs.declared.cause.Cause.TheVariants as ignored
use Rattle.sbp_journal.specs.declared.cause.Judged.TheVariants as judgements
use Rattle.sbp_journal.specs.declared.note.Note.TheVariants as notes
use Rattle.sbp_journal.specs.declared.operation.OpWord.TheVariants as words
use Rattle.sbp_world.proofs.Pointers.Dropping.{drops_of}
use Rattle.sbp_world.proofs.Common.{untrue}
use Rattle.sbp_world.proofs.Hosts.PresentOrbs.{present_by}

pub record IsDoneFor (s : InitiatorState) (generation : ℕ) (bytes : List ℕ) : Type 0 where
  pub header : Header
  pub offset : ℕ
  pub payload : List ℕ
  pub found : (judging_step s.layer generation bytes).0 ≡ of_request (write_block header offset payload)
  pub source : header.source ≡ s.target
  pub opens : is_open (fifo_of s offset) ≡ true
  pub block : StatusBlock
  pub read : status_in payload ≡ Ok block
  pub kind : block.kind ≡ kinds.Management 0
  pub running : Running
  pub is : s.operation ≡ Some running
  pub names : is_orb_of running.managed block.orb ≡ true
  pub cuts : ends_list (Some running.operation) ≡ true

module _ (j : ℕ) (s : InitiatorState) (generation : ℕ) (bytes : List ℕ) where
  abbrev Done : Type 0
  Done = IsDoneFor s generation bytes

  -- a request that drops the list is that block, and is got
  abbrev Says : Judged × Turn → Type 0
  Says x = drops_of j x.1.0.sides ≡ true → Done × (x.0 ≡ judgements.Got)

  pick : (b : Bool) (x y : Judged × Turn) → Says x → Says y → Says (cond b x y)
  pick true x y h k = h
  pick false x y h k = k

  -- of the end of an operation
  good_drops : (running : Running) (status : ℕ) (x : InitiatorState) (b c : Bool) → drops_of j (cond b (then_step (good_end running) (drop_where c empty_outbox x)) (end_step running.operation (words.Refused status) empty_outbox (moved running.operation bad x))).0.sides ≡ true → (b ≡ true) × (c ≡ true)
  good_drops running status x true true d = (refl, refl)
  good_drops running status x true false d = untrue d
  good_drops running status x false c d = untrue d

  module _ (layer : Layer Purpose) where
    abbrev u : InitiatorState
    u = record s { layer = layer }

    module _ (header : Header) (offset : ℕ) (payload : List ℕ) (found : (judging_step s.layer generation bytes).0 ≡ of_request (write_block header offset payload)) (source : header.source ≡ s.target) (opens : is_open (fifo_of s offset) ≡ true) where
      abbrev p : Packet
      p = write_block header offset payload

      managed_by : (block : StatusBlock) (status : ℕ) → status_in payload ≡ Ok block → block.kind ≡ kinds.Management status → (x : Option Running) → present_for block.orb s.operation ≡ x → Says (managed_for x status p bytes empty_outbox u)
      managed_by block status read kind None e = λ d. untrue d
      managed_by block status read kind (Some running) e = λ d.
          let i = present_by block.orb s.operation running (is_present_orb block.orb s.operation) refl e in
          let k = good_drops running status (called u) (status == 0) (ends_list (Some running.operation)) d in
          let zero : status ≡ 0 = (let z = k.0 in grind (arith, nat_tests)) in (
            record {
              header = header;
              offset = offset;
              payload = payload;
              found = found;
              source = source;
              opens = opens;
              block = block;
              read = read;
              kind = kind ∙ ap kinds.Management zero;
              running = running;
              is = i.is;
              names = i.named;
              cuts = k.1;
            },
            refl,
          )

      taken_by : (r : Option TicketParts × ListState) (kind : StatusKind) → Says (taken_as r kind p bytes empty_outbox u)
      taken_by (None, lists) kind = λ d. untrue d
      taken_by (Some t, lists) kind = λ d. untrue d

      kinds_by : (block : StatusBlock) → status_in payload ≡ Ok block → (kind : StatusKind) → block.kind ≡ kind → Says (block_by kind block p bytes empty_outbox u)
      kinds_by block read (kinds.Management status) k = managed_by block status read k (present_for block.orb s.operation) refl
      kinds_by block read kinds.Good k = taken_by (take_lists u.lists block) kinds.Good
      kinds_by block read (kinds.Check sense) k = taken_by (take_lists u.lists block) (kinds.Check sense)
      kinds_by block read kinds.Dummy k = taken_by (take_lists u.lists block) kinds.Dummy
      kinds_by block read kinds.Aborted k = taken_by (take_lists u.lists block) kinds.Aborted
      kinds_by block read (kinds.Illegal meaning) k = taken_by (take_lists u.lists block) (kinds.Illegal meaning)
      kinds_by block read kinds.Failed k = taken_by (take_lists u.lists block) kinds.Failed

      blocks : (r : Result StatusBlock OrbFault) → status_in payload ≡ r → Says (block_step r p bytes empty_outbox u)
      blocks (Err fault) read = λ d. untrue d
      blocks (Ok block) read = kinds_by block read block.kind refl

      statuses : (is_login : Bool) → Says (status_step is_login payload p bytes empty_outbox u)
      statuses is_login =
          pick (is_login && is_block payload) (got_step p bytes (told empty_outbox (notes.Told s.number), called u)) (block_step (status_in payload) p bytes empty_outbox u)
          (λ d. untrue d) (blocks (status_in payload) refl)

    serves : (p : Packet) → Says (serve_step p bytes empty_outbox u)
    serves (read_quadlet header offset) = λ d. untrue d
    serves (read_block header offset asked) = λ d. untrue d
    serves (write_quadlet header offset value) = λ d. untrue d
    serves (write_block header offset payload) = λ d. untrue d
    serves (write_response header rcode) = λ d. untrue d
    serves (read_quadlet_response header rcode value) = λ d. untrue d
    serves (read_block_response header rcode payload) = λ d. untrue d
    serves (lock header offset extended payload) = λ d. untrue d
    serves (lock_response header rcode extended payload) = λ d. untrue d

    fifos_by : (header : Header) (offset : ℕ) (payload : List ℕ) → (judging_step s.layer generation bytes).0 ≡ of_request (write_block header offset payload) → header.source ≡ s.target → (fifo : Option Fifo) → fifo_of s offset ≡ fifo → Says (block_at fifo payload (write_block header offset payload) bytes empty_outbox u)
    fifos_by header offset payload found source None e = serves (write_block header offset payload)
    fifos_by header offset payload found source (Some fifos.Closed) e = λ d. untrue d
    fifos_by header offset payload found source (Some fifos.Login) e = statuses header offset payload found source (ap is_open e) true
    fifos_by header offset payload found source (Some fifos.Place) e = statuses header offset payload found source (ap is_open e) false

    quadlets_by : (fifo : Option Fifo) (p : Packet) → Says (quadlet_at fifo p bytes empty_outbox u)
    quadlets_by (Some fifos.Closed) p = λ d. untrue d
    quadlets_by (Some fifos.Login) p = serves p
    quadlets_by (Some fifos.Place) p = serves p
    quadlets_by None p = serves p

    -- of the target
    own_write : (source : ℕ) → not (source == s.target) ≡ false → source ≡ s.target
    own_write source e = let x = not-false (source == s.target) e in grind (arith, nat_tests)

    reaches : (p : Packet) → (judging_step s.layer generation bytes).0 ≡ of_request p → is_foreign p u ≡ false → Says (addressed p bytes empty_outbox u)
    reaches (read_quadlet header offset) found f = serves (read_quadlet header offset)
    reaches (read_block header offset asked) found f = serves (read_block header offset asked)
    reaches (write_quadlet header offset value) found f = quadlets_by (fifo_of u offset) (write_quadlet header offset value)
    reaches (write_block header offset payload) found f = fifos_by header offset payload found (own_write header.source f) (fifo_of s offset) refl
    reaches (write_response header rcode) found f = serves (write_response header rcode)
    reaches (read_quadlet_response header rcode value) found f = serves (read_quadlet_response header rcode value)
    reaches (read_block_response header rcode payload) found f = serves (read_block_response header rcode payload)
    reaches (lock header offset extended payload) found f = serves (lock header offset extended payload)
    reaches (lock_response header rcode extended payload) found f = serves (lock_response header rcode extended payload)

    requests : (p : Packet) → (judging_step s.layer generation bytes).0 ≡ of_request p → Says (request_step p bytes empty_outbox u)
    requests p found = by (is_foreign p u) refl
      where
        by : (b : Bool) → is_foreign p u ≡ b → Says (cond b (ignored_step ignored.Source 7 p bytes (empty_outbox, u)) (addressed p bytes empty_outbox u))
        by true e = λ d. untrue d
        by false e = reaches p found e

  pub request_drops : (p : Packet) → (judging_step s.layer generation bytes).0 ≡ of_request p → drops_of j (receive_step generation bytes empty_outbox s).1.0.sides ≡ true → Done × ((receive_step generation bytes empty_outbox s).0 ≡ judgements.Got)
  unfolding receive_step
  request_drops p f =
      let l = (judging_step s.layer generation bytes).1 in
      subst (λ (x : Finding Purpose). Says (received (x, l) bytes empty_outbox s)) (sym f) (requests l p f)
