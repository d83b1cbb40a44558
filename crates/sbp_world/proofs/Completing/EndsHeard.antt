-- A status block of the target that an initiator hears at an open FIFO, which names the management ORB of the operation under way, is got, and ends that operation.
use Rattle.sbp_world.proofs.Words.Std.{arith, ◌≡◌, ◌∙◌, refl, sym, ap, subst, ℕ, ◌==◌, ◌&&◌, not, Bool, true, false, cond, List, [], length, Option, Some, None, nat_tests, quad}
use Rattle.sbp_world.proofs.Words.Wire.{Judged, Layer, OutboxState, Packet, answering_step, empty_outbox, judging_step, write_block}
use Rattle.sbp_world.proofs.Words.Target.{is_block}
use Rattle.sbp_world.proofs.Words.Initiator.{Fifo, InitiatorState, Purpose, Running, Turn, addressed, block_at, block_by, block_step, called, fifo_of, is_foreign, managed_for, managed_step, present_for, receive_step, received, request_step, responded_as, status_in, status_step}
use Rattle.sbp_world.proofs.Words.World.{is_open}
use Rattle.initiator_base.specs.declared.fifos.Fifo.TheVariants as fifos
use Rattle.sbp_journal.specs.declared.cause.Judged.TheVariants as judgements
use Rattle.sbp_world.specs.Completing.Ends.{BlocksEnd, EndsOperation}
use Rattle.sbp_world.proofs.Common.{untrue}

module _ (s : InitiatorState) (generation : ℕ) (bytes : List ℕ) (running : Running) (status : ℕ) (f : EndsOperation s generation bytes running status) where
  abbrev layer : Layer Purpose
  layer = (judging_step s.layer generation bytes).1

  abbrev u : InitiatorState
  u = record s { layer = layer }

  abbrev p : Packet
  p = write_block f.header f.offset f.payload

  abbrev Is : Judged × Turn → Type 0
  Is x = (x.0 ≡ judgements.Got) × (x.1.1.operation ≡ None)

  other : (b : Bool) (x y : Judged × Turn) → b ≡ false → Is y → Is (cond b x y)
  other true x y e k = untrue (sym e)
  other false x y e k = k

  responds_as : (r : List ℕ × Layer Purpose) (source : ℕ) (o : OutboxState) (v : InitiatorState) → v.operation ≡ None → (responded_as r source o v).1.operation ≡ None
  responds_as (response, now) source o v e = e

  -- the operation ends
  ended_if : (b : Bool) (x y : Turn) → x.1.operation ≡ None → y.1.operation ≡ None → (cond b x y).1.operation ≡ None
  ended_if true x y h k = h
  ended_if false x y h k = k

  ends : (o : OutboxState) (v : InitiatorState) → (managed_step running status o v).1.operation ≡ None
  ends o v = ended_if (status == 0) _ _ refl refl

  managed_ends : Is (managed_for (Some running) status p bytes empty_outbox u)
  managed_ends =
      let t = managed_step running status empty_outbox (called u) in
      (refl, responds_as (answering_step t.1.layer p bytes 0 []) f.header.source t.0 t.1 (ends empty_outbox (called u)))

  present : present_for f.block.orb s.operation ≡ Some running
  present = ap (present_for f.block.orb) f.under_way ∙ ap (λ b. cond b (Some running) None) f.names

  block_ends : Is (block_step (status_in f.payload) p bytes empty_outbox u)
  block_ends =
      subst (λ r. Is (block_step r p bytes empty_outbox u)) (sym f.read)
      (subst (λ k. Is (block_by k f.block p bytes empty_outbox u)) (sym f.kind)
      (subst (λ x. Is (managed_for x status p bytes empty_outbox u)) (sym present) managed_ends))

  -- it is no unsolicited status block
  no_block : is_block f.payload ≡ false
  no_block =
      let size = f.size in
      let apart : (length f.payload == 24) ≡ false = grind (arith, nat_tests) in
      ap (λ b. b && (quad f.payload 0 == 0x85000000) && (quad f.payload 4 == 0) && (quad f.payload 8 == 0x02062800)) apart

  no_and : (a b : Bool) → b ≡ false → (a && b) ≡ false
  no_and true b e = e
  no_and false b e = refl

  status_ends : (is_login : Bool) → Is (status_step is_login f.payload p bytes empty_outbox u)
  status_ends is_login = other (is_login && is_block f.payload) _ (block_step (status_in f.payload) p bytes empty_outbox u) (no_and is_login (is_block f.payload) no_block) block_ends

  at_ends : (fifo : Option Fifo) → is_open fifo ≡ true → Is (block_at fifo f.payload p bytes empty_outbox u)
  at_ends None e = untrue e
  at_ends (Some fifos.Closed) e = untrue e
  at_ends (Some fifos.Login) e = status_ends true
  at_ends (Some fifos.Place) e = status_ends false

  own_source : is_foreign p u ≡ false
  own_source = let e = f.source in let x : (f.header.source == s.target) ≡ true = grind (arith, nat_tests) in ap not x

  request_ends : Is (request_step p bytes empty_outbox u)
  request_ends = other (is_foreign p u) _ (addressed p bytes empty_outbox u) own_source (at_ends (fifo_of s f.offset) f.opens)

  heard : Is (receive_step generation bytes empty_outbox s)
  unfolding receive_step
  heard = subst (λ x. Is (received (x, layer) bytes empty_outbox s)) (sym f.found) request_ends

pub blocks_end : BlocksEnd
blocks_end = record { ends = λ s generation bytes running status f. heard s generation bytes running status f }
