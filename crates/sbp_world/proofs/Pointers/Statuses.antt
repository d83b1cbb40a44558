-- A request that drops a list is got.
use Rattle.sbp_world.proofs.Words.Std.{◌≡◌, refl, ℕ, ◌&&◌, Bool, true, false, cond, List, replicate, Option, Some, None, Result, Ok, Err, big_bytes}
use Rattle.sbp_world.proofs.Words.Wire.{Packet, lock, lock_response, read_block, read_block_response, read_quadlet, read_quadlet_response, write_block, write_quadlet, write_response, OutboxState, Judged}
use Rattle.sbp_world.proofs.Words.Target.{is_block}
use Rattle.sbp_world.proofs.Words.Initiator.{read_step, OrbFault, StatusBlock, StatusKind, ListState, take_lists, write_lists, TicketParts, Fifo, Running, InitiatorState, Turn, addressed, block_at, block_by, block_step, fifo_of, is_foreign, managed_for, present_for, quadlet_at, read_as, request_step, serve_step, status_step, taken_as, written_as, status_in}
use Rattle.orb_layout.specs.declared.status.StatusKind.TheVariants as kinds
use Rattle.sbp_journal.specs.declared.cause.Judged.TheVariants as judgements
use Rattle.initiator_base.specs.declared.fifos.Fifo.TheVariants as fifos
use Rattle.sbp_world.proofs.Pointers.Dropping.{drops_of}

-- it is got, or tells of no drop
pub data GotOr (j : ℕ) (o : OutboxState) (r : Judged × Turn) : Type 0 where
  was_got : r.0 ≡ judgements.Got → GotOr j o r
  no_drop : drops_of j r.1.0.sides ≡ drops_of j o.sides → GotOr j o r

module _ (j : ℕ) (bytes : List ℕ) (o : OutboxState) (s : InitiatorState) where
  pick_got : (b : Bool) (x y : Judged × Turn) → GotOr j o x → GotOr j o y → GotOr j o (cond b x y)
  pick_got true x y h k = h
  pick_got false x y h k = k

  module _ (p : Packet) where
    managed_got : (operation : Option Running) (code : ℕ) → GotOr j o (managed_for operation code p bytes o s)
    managed_got None code = no_drop refl
    managed_got (Some running) code = was_got refl

    taken_got : (r : Option TicketParts × ListState) (kind : StatusKind) → GotOr j o (taken_as r kind p bytes o s)
    taken_got (None, lists) kind = no_drop refl
    taken_got (Some t, lists) kind = was_got refl

    kind_got : (kind : StatusKind) (block : StatusBlock) → GotOr j o (block_by kind block p bytes o s)
    kind_got (kinds.Management code) block = managed_got (present_for block.orb s.operation) code
    kind_got kinds.Good block = taken_got (take_lists s.lists block) kinds.Good
    kind_got (kinds.Check sense) block = taken_got (take_lists s.lists block) (kinds.Check sense)
    kind_got kinds.Dummy block = taken_got (take_lists s.lists block) kinds.Dummy
    kind_got kinds.Aborted block = taken_got (take_lists s.lists block) kinds.Aborted
    kind_got (kinds.Illegal meaning) block = taken_got (take_lists s.lists block) (kinds.Illegal meaning)
    kind_got kinds.Failed block = taken_got (take_lists s.lists block) kinds.Failed

    block_got : (r : Result StatusBlock OrbFault) → GotOr j o (block_step r p bytes o s)
    block_got (Err fault) = no_drop refl
    block_got (Ok block) = kind_got block.kind block

    status_got : (is_login : Bool) (payload : List ℕ) → GotOr j o (status_step is_login payload p bytes o s)
    status_got is_login payload = pick_got (is_login && is_block payload) _ _ (was_got refl) (block_got (status_in payload))

    read_got : (r : ℕ × List ℕ) → GotOr j o (read_as r p bytes o s)
    read_got (rcode, out) = was_got refl

    written_got : (r : ℕ × ListState) → GotOr j o (written_as r p bytes o s)
    written_got (rcode, lists) = was_got refl

  serve_got : (p : Packet) → GotOr j o (serve_step p bytes o s)
  serve_got (read_quadlet header offset) = read_got (read_quadlet header offset) (read_step s.lists.memory offset (replicate 4 0))
  serve_got (read_block header offset count) = read_got (read_block header offset count) (read_step s.lists.memory offset (replicate count 0))
  serve_got (write_quadlet header offset value) = written_got (write_quadlet header offset value) (write_lists s.lists offset (big_bytes 4 value))
  serve_got (write_block header offset payload) = written_got (write_block header offset payload) (write_lists s.lists offset payload)
  serve_got (write_response header rcode) = was_got refl
  serve_got (read_quadlet_response header rcode value) = was_got refl
  serve_got (read_block_response header rcode payload) = was_got refl
  serve_got (lock header offset extended payload) = was_got refl
  serve_got (lock_response header rcode extended payload) = was_got refl

  quadlet_got : (fifo : Option Fifo) (p : Packet) → GotOr j o (quadlet_at fifo p bytes o s)
  quadlet_got None p = serve_got p
  quadlet_got (Some fifos.Closed) p = no_drop refl
  quadlet_got (Some fifos.Login) p = serve_got p
  quadlet_got (Some fifos.Place) p = serve_got p

  block_at_got : (fifo : Option Fifo) (payload : List ℕ) (p : Packet) → GotOr j o (block_at fifo payload p bytes o s)
  block_at_got None payload p = serve_got p
  block_at_got (Some fifos.Closed) payload p = no_drop refl
  block_at_got (Some fifos.Login) payload p = status_got p true payload
  block_at_got (Some fifos.Place) payload p = status_got p false payload

  addressed_got : (p : Packet) → GotOr j o (addressed p bytes o s)
  addressed_got (write_quadlet header offset value) = quadlet_got (fifo_of s offset) (write_quadlet header offset value)
  addressed_got (write_block header offset payload) = block_at_got (fifo_of s offset) payload (write_block header offset payload)
  addressed_got (read_quadlet header offset) = serve_got (read_quadlet header offset)
  addressed_got (read_block header offset count) = serve_got (read_block header offset count)
  addressed_got (lock header offset extended payload) = serve_got (lock header offset extended payload)
  addressed_got (write_response header rcode) = serve_got (write_response header rcode)
  addressed_got (read_quadlet_response header rcode value) = serve_got (read_quadlet_response header rcode value)
  addressed_got (read_block_response header rcode payload) = serve_got (read_block_response header rcode payload)
  addressed_got (lock_response header rcode extended payload) = serve_got (lock_response header rcode extended payload)

  pub request_got : (p : Packet) → GotOr j o (request_step p bytes o s)
  request_got p = pick_got (is_foreign p s) _ _ (no_drop refl) (addressed_got p)
