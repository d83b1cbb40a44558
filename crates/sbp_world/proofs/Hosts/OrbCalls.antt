-- The calls of an initiator's slots that prepare, link and dummy no ORB.
use Rattle.sbp_world.proofs.Words.Std.{ℕ, zero, suc, nat_lt, Bool, true, false, cond, List, [], ◌∷◌, Option, Some, None, big_bytes}
use Rattle.sbp_world.proofs.Words.Wire.{LabelParts, Packet, lock, lock_response, read_block, read_block_response, read_quadlet, read_quadlet_response, write_block, write_quadlet, write_response, Finding, judging_step, of_again, of_generation, of_grammar, of_label, of_request, of_response}
use Rattle.sbp_world.proofs.Words.Initiator.{ManagementOrb, StatusBlock, StatusKind, management_bytes, TicketParts, Fifo, Purpose, InitiatorState, Turn, fifo_of, is_foreign, done, lets_expire, receives, sees, block_calls, block_writes, drop_calls, has_ended, heard_calls, orb_calls, pin_calls, quad_calls, quadlet_writes, request_calls, slot_calls, status_calls, unpin_calls, write_calls, written_by, Brought, brought, finding_drops, nothing, status, unsolicited}
use Rattle.orb_layout.specs.declared.status.StatusKind.TheVariants as kinds
use Rattle.orb_list.specs.Runs as slot_runs
use Rattle.initiator_base.specs.declared.fifos.Fifo.TheVariants as fifos
use Rattle.sbp_world.proofs.Hosts.OrbFits.{AreQuiet, quiet_append}

-- ---- an action

quads_quiet : (place : ℕ) (bytes : List ℕ) (n : ℕ) → AreQuiet (quad_calls place bytes n)
unfolding quad_calls
quads_quiet place bytes zero = tt
quads_quiet place bytes (suc n) = (tt, quads_quiet place bytes n)

pub orb_quiet : (orb : Option ManagementOrb) (place : ℕ) → AreQuiet (orb_calls orb place)
orb_quiet None place = tt
orb_quiet (Some orb) place = quads_quiet place (management_bytes orb) 8

pub pin_quiet : (c : Bool) (t : Option TicketParts) → AreQuiet (pin_calls c t)
pin_quiet true t = tt
pin_quiet false None = tt
pin_quiet false (Some t) = (tt, tt)

-- ---- a delivery and a time-out

status_quiet : (kind : StatusKind) (block : StatusBlock) → AreQuiet (status_calls kind block)
status_quiet (kinds.Management code) block = tt
status_quiet kinds.Good block = (tt, tt)
status_quiet (kinds.Check sense) block = (tt, tt)
status_quiet kinds.Dummy block = (tt, tt)
status_quiet kinds.Aborted block = (tt, tt)
status_quiet (kinds.Illegal meaning) block = (tt, tt)
status_quiet kinds.Failed block = (tt, tt)

block_quiet : (b : Brought) → AreQuiet (block_calls b)
block_quiet nothing = tt
block_quiet unsolicited = tt
block_quiet (status block) = status_quiet block.kind block

block_writes_quiet : (fifo : Option Fifo) (offset : ℕ) (bytes : List ℕ) → AreQuiet (block_writes fifo offset bytes)
block_writes_quiet None offset bytes = (tt, tt)
block_writes_quiet (Some fifo) offset bytes = tt

quadlet_writes_quiet : (fifo : Option Fifo) (offset : ℕ) (bytes : List ℕ) → AreQuiet (quadlet_writes fifo offset bytes)
quadlet_writes_quiet None offset bytes = (tt, tt)
quadlet_writes_quiet (Some fifos.Closed) offset bytes = tt
quadlet_writes_quiet (Some fifos.Login) offset bytes = (tt, tt)
quadlet_writes_quiet (Some fifos.Place) offset bytes = (tt, tt)

written_quiet : (p : Packet) (s : InitiatorState) → AreQuiet (written_by p s)
written_quiet (write_block header offset payload) s = block_writes_quiet (fifo_of s offset) offset payload
written_quiet (write_quadlet header offset value) s = quadlet_writes_quiet (fifo_of s offset) offset (big_bytes 4 value)
written_quiet (read_quadlet header offset) s = tt
written_quiet (read_block header offset asked) s = tt
written_quiet (lock header offset extended payload) s = tt
written_quiet (write_response header rcode) s = tt
written_quiet (read_quadlet_response header rcode value) s = tt
written_quiet (read_block_response header rcode payload) s = tt
written_quiet (lock_response header rcode extended payload) s = tt

foreign_quiet : (c : Bool) (p : Packet) (s : InitiatorState) → AreQuiet (cond c [] (written_by p s))
foreign_quiet true p s = tt
foreign_quiet false p s = written_quiet p s

request_quiet : (finding : Finding Purpose) (s : InitiatorState) → AreQuiet (request_calls finding s)
request_quiet (of_request p) s =
    quiet_append (block_calls (brought p s)) (write_calls p s) (block_quiet (brought p s)) (foreign_quiet (is_foreign p s) p s)
request_quiet of_generation s = tt
request_quiet of_grammar s = tt
request_quiet of_label s = tt
request_quiet (of_response p label purpose) s = tt
request_quiet (of_again p rcode) s = tt

drop_quiet : (c : Bool) → AreQuiet (drop_calls c)
drop_quiet true = (tt, tt)
drop_quiet false = tt

unpin_quiet : (c : Bool) → AreQuiet (unpin_calls c)
unpin_quiet true = (tt, tt)
unpin_quiet false = tt

pub receives_quiet : (generation : ℕ) (bytes : List ℕ) (turn : Turn) → AreQuiet (slot_calls (receives generation bytes) turn)
receives_quiet generation bytes turn =
    let finding = (judging_step turn.1.layer generation bytes).0 in
    let ended = has_ended turn.1.operation (done (receives generation bytes) turn).1.operation in
    quiet_append (unpin_calls ended) (heard_calls finding turn.1) (unpin_quiet ended)
    (quiet_append (drop_calls (finding_drops finding turn.1)) (request_calls finding turn.1) (drop_quiet (finding_drops finding turn.1)) (request_quiet finding turn.1))

pub expires_quiet : (label : LabelParts) (turn : Turn) → AreQuiet (slot_calls (lets_expire label) turn)
expires_quiet label turn = unpin_quiet (has_ended turn.1.operation (done (lets_expire label) turn).1.operation)

-- ---- a generation is seen

pub sees_quiet : (generation id target : ℕ) (turn : Turn) → AreQuiet (slot_calls (sees generation id target) turn)
sees_quiet generation id target turn = later (nat_lt turn.1.layer.generation generation)
  where
    later : (c : Bool) → AreQuiet (cond c (slot_runs.FreeAll ∷ slot_runs.DropList ∷ []) [])
    later true = (tt, (tt, tt))
    later false = tt
