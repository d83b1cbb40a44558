-- What a response that an initiator hears spells, and that a status block of its management is got.
use Rattle.sbp_world.proofs.Words.Std.{arith, ◌≡◌, refl, sym, ◌∙◌, ap, subst, ℕ, ◌==◌, ◌&&◌, not, Bool, true, false, cond, List, Option, Some, None, Result, Ok, Err, nat_tests}
use Rattle.sbp_world.proofs.Words.Wire.{PacketFault, fault_of, rcode_of, tcode_of, value_of, LabelParts, Packet, write_block, packet_in, reading, unless_fault, Layer, facts_of, judged_by, judging_step, of_request, responded, Row, by_again, by_generation, by_grammar, by_label, by_request, by_response, row_of, OutboxState, empty_outbox, Judged}
use Rattle.sbp_world.proofs.Words.Target.{is_block}
use Rattle.sbp_world.proofs.Words.Initiator.{Fifo, Purpose, Running, InitiatorState, addressed, block_at, block_by, block_step, fifo_of, is_foreign, managed_for, present_for, receive_step, received, request_step, status_step, ending_by, ending_of, status_in}
use Rattle.sbp_world.proofs.Words.World.{is_open}
use Rattle.initiator_base.specs.declared.fifos.Fifo.TheVariants as fifos
use Rattle.sbp_initiator.specs.declared.purpose.Ending.TheVariants as endings
use Rattle.sbp_journal.specs.declared.cause.Judged.TheVariants as judgements
use Rattle.sbp_world.proofs.Lists.ManageHears.{IsStatusFor}
use Rattle.sbp_world.proofs.Common.{untrue}

-- ---- what it spells

no_request : (p q : Packet) (found : Option (LabelParts × Option Purpose) × Layer Purpose) → (responded q found).0 ≡ of_request p → ⊥
no_request p q (None, layer) f = cc
no_request p q (Some (l, r), layer) f = cc

request_read : (row : Row) (layer : Layer Purpose) (bytes : List ℕ) (read : Result Packet PacketFault) (p : Packet) → (judged_by row layer bytes read).0 ≡ of_request p → read ≡ Ok p
request_read by_generation layer bytes read p f = cc
request_read by_grammar layer bytes read p f = cc
request_read by_label layer bytes read p f = cc
request_read by_response layer bytes (Ok q) p f = absurd (no_request p q _ f)
request_read by_again layer bytes (Ok q) p f = cc
request_read by_request layer bytes (Ok q) p f = cc
request_read by_response layer bytes (Err fault) p f = cc
request_read by_again layer bytes (Err fault) p f = cc
request_read by_request layer bytes (Err fault) p f = cc

pub read_request : (layer : Layer Purpose) (generation : ℕ) (bytes : List ℕ) (p : Packet) → (judging_step layer generation bytes).0 ≡ of_request p → reading bytes ≡ Ok p
unfolding judging_step
read_request layer generation bytes p f = request_read (row_of (facts_of layer generation bytes)) layer bytes (reading bytes) p f

-- the rcode of a refusal is that of the bytes
ends_by : (code value rcode : ℕ) → ending_by code value ≡ endings.Refused rcode → code ≡ rcode
ends_by code value rcode e = by (code == 0) e
  where
    by : (b : Bool) → cond b (endings.Complete value) (endings.Refused code) ≡ endings.Refused rcode → code ≡ rcode
    by true f = cc
    by false f = cc

no_refusal : {A : Type 0} (rcode : ℕ) → endings.Expired ≡ endings.Refused rcode → A
no_refusal rcode e = absurd (let no : endings.Expired ≡ endings.Refused rcode = e in cc)

module _ (bytes : List ℕ) (rcode : ℕ) where
  abbrev Refuses : Packet → Type 0
  Refuses p = ending_of p ≡ endings.Refused rcode → rcode_of bytes ≡ rcode

  if_refuses : (b : Bool) (x y : Packet) → Refuses x → Refuses y → Refuses (cond b x y)
  if_refuses true x y h k = h
  if_refuses false x y h k = k

  packet_refuses : (tcode : ℕ) → Refuses (packet_in bytes tcode)
  packet_refuses tcode =
      if_refuses (tcode == 0) _ _ (λ e. no_refusal rcode e)
      (if_refuses (tcode == 1) _ _ (λ e. no_refusal rcode e)
      (if_refuses (tcode == 2) _ _ (λ e. ends_by (rcode_of bytes) 0 rcode e)
      (if_refuses (tcode == 4) _ _ (λ e. no_refusal rcode e)
      (if_refuses (tcode == 5) _ _ (λ e. no_refusal rcode e)
      (if_refuses (tcode == 6) _ _ (λ e. ends_by (rcode_of bytes) (value_of bytes) rcode e)
      (if_refuses (tcode == 7) _ _ (λ e. ends_by (rcode_of bytes) 0 rcode e)
      (if_refuses (tcode == 9) _ _ (λ e. no_refusal rcode e) (λ e. ends_by (rcode_of bytes) 0 rcode e))))))))

  read_refuses : (fault : Option PacketFault) (p q : Packet) → unless_fault fault p ≡ Ok q → Refuses p → Refuses q
  read_refuses None p q e h = let same : p ≡ q = cc in subst (λ x. Refuses x) same h
  read_refuses (Some fault) p q e h = absurd (let no : Err fault ≡ Ok q = e in cc)

  pub refused_rcode : (p : Packet) → reading bytes ≡ Ok p → ending_of p ≡ endings.Refused rcode → rcode_of bytes ≡ rcode
  unfolding reading
  refused_rcode p e = read_refuses (fault_of bytes) (packet_in bytes (tcode_of bytes)) p e (packet_refuses (tcode_of bytes))

-- ---- what is got

module _ (s : InitiatorState) (generation : ℕ) (bytes : List ℕ) (running : Running) (f : IsStatusFor s generation bytes running) (under : s.operation ≡ Some running) where
  abbrev u : Layer Purpose → InitiatorState
  u layer = record s { layer = layer }

  abbrev w : Packet
  w = write_block f.header f.offset f.payload

  abbrev Is : Judged × (OutboxState × InitiatorState) → Type 0
  Is x = x.0 ≡ judgements.Got

  either : (b : Bool) (x y : Judged × (OutboxState × InitiatorState)) → Is x → Is y → Is (cond b x y)
  either true x y h k = h
  either false x y h k = k

  other : (b : Bool) (x y : Judged × (OutboxState × InitiatorState)) → b ≡ false → Is y → Is (cond b x y)
  other true x y e k = untrue (sym e)
  other false x y e k = k

  present : present_for f.block.orb s.operation ≡ Some running
  present = ap (present_for f.block.orb) under ∙ ap (λ b. cond b (Some running) None) f.names

  block_got : (layer : Layer Purpose) → Is (block_step (status_in f.payload) w bytes empty_outbox (u layer))
  block_got layer =
      ap (λ r. (block_step r w bytes empty_outbox (u layer)).0) f.read
      ∙ ap (λ k. (block_by k f.block w bytes empty_outbox (u layer)).0) f.kind
      ∙ ap (λ x. (managed_for x f.status w bytes empty_outbox (u layer)).0) present

  status_got : (layer : Layer Purpose) (is_login : Bool) → Is (status_step is_login f.payload w bytes empty_outbox (u layer))
  status_got layer is_login = either (is_login && is_block f.payload) _ (block_step (status_in f.payload) w bytes empty_outbox (u layer)) refl (block_got layer)

  at_got : (layer : Layer Purpose) (fifo : Option Fifo) → is_open fifo ≡ true → Is (block_at fifo f.payload w bytes empty_outbox (u layer))
  at_got layer None e = untrue e
  at_got layer (Some fifos.Closed) e = untrue e
  at_got layer (Some fifos.Login) e = status_got layer true
  at_got layer (Some fifos.Place) e = status_got layer false

  own_source : is_foreign w s ≡ false
  own_source = let e = f.source in let x : (f.header.source == s.target) ≡ true = grind (arith, nat_tests) in ap not x

  requested : (layer : Layer Purpose) → Is (request_step w bytes empty_outbox (u layer))
  requested layer = other (is_foreign w (u layer)) _ (addressed w bytes empty_outbox (u layer)) own_source (at_got layer (fifo_of s f.offset) f.is_open_fifo)

  pub block_is_got : (receive_step generation bytes empty_outbox s).0 ≡ judgements.Got
  unfolding receive_step
  block_is_got = ap (λ x. (received (x, (judging_step s.layer generation bytes).1) bytes empty_outbox s).0) f.found ∙ requested (judging_step s.layer generation bytes).1
