-- What an initiator sends in a call that is no action asks for no write: it is a response, or a read of a quadlet of the target's ROM.
use Rattle.sbp_world.proofs.Words.Std.{arith, ◌≡◌, refl, sym, ◌∙◌, ap, subst, ℕ, ◌<◌, ◌^◌, ◌==◌, ◌&&◌, nat_lt, Bool, true, false, cond, List, [], ◌∷◌, ◌++◌, length, replicate, Option, Some, None, Result, Ok, Err, big_bytes}
use Rattle.sbp_world.proofs.Words.Wire.{IsValid, LabelParts, Packet, lock, lock_response, read_block, read_block_response, read_quadlet, read_quadlet_response, write_block, write_quadlet, write_response, header_in, Asked, Stale, response_to, Layer, Finding, of_again, of_generation, of_grammar, of_label, of_request, of_response, answering_step, asking_step, expiring_step, judging_step, seeing_step, Access, access_of, OutboxState, empty_outbox, Judged, OpWord, Outgoing, IsLayer, IsAnswering, IsDelivery, Reply}
use Rattle.sbp_world.proofs.Words.Target.{RomFault, SbpUnit, Tree, rom_reading, sbp_unit_of, is_block}
use Rattle.sbp_world.proofs.Words.Initiator.{read_step, OrbFault, StatusBlock, StatusKind, ListState, drop_lists, take_lists, write_lists, TicketParts, is_stuck_seat, Fifo, with_quad, Ending, Purpose, Running, InitiatorState, Turn, ask_quad, asked_quad, conflict_for, drop_list_step, drop_where, dropped_as, enable_ended, end_own_for, end_own_step, ended_for, fail_step, fault_number, finish_rom, is_address, is_conflict, known_where, managed_step, management_ended, next_quad, pointer_ended, doorbell_ended, ended_step, quad_got, reset_ended, rom_ended, state_ended, stick_step, told, with_rom, with_unit, addressed, block_at, block_by, block_step, called, expire_step, expired_as, fifo_of, is_foreign, address_error, data_error, managed_for, present_for, quadlet_at, read_as, receive_step, received, request_step, respond_step, serve_step, status_step, taken_as, taken_by, type_error, written_as, ends_list, all_end, interrupted, reset_told, resets_told, see_step, seen_as, states_end, counts_for, ending_of, status_in}
use Rattle.sbp_world.proofs.Words.Laws.{access_in, access_in_bytes}
use Rattle.orb_layout.specs.declared.status.StatusKind.TheVariants as kinds
use Rattle.sbp_journal.specs.declared.note.Note.TheVariants as notes
use Rattle.sbp_journal.specs.declared.operation.Operation.TheVariants as operations
use Rattle.sbp_journal.specs.declared.operation.OpWord.TheVariants as words
use Rattle.initiator_base.specs.declared.fifos.Fifo.TheVariants as fifos
use Rattle.sbp_initiator.specs.declared.purpose.Ending.TheVariants as endings
use Rattle.sbp_initiator.specs.declared.purpose.Purpose.TheVariants as purposes
use Rattle.sbp_laws.specs.Packets.{spelled_by as read_by}
use Rattle.bus_transactions.proofs.Fits.{request_fits}
use Rattle.bus_transactions.proofs.FitSteps.{goes, judges_same}
use Rattle.label_table.specs.History as wire
use Rattle.sbp_world.proofs.Pointers.Spelled.{read_canon, spelled_by}
use Rattle.sbp_world.proofs.Common.{untrue}

abbrev pub writes_in : Option Access → Bool
writes_in None = false
writes_in (Some access) = access.is_write

abbrev pub IsQuiet : List ℕ → Type 0
IsQuiet bytes = writes_in (access_in_bytes bytes) ≡ false

abbrev pub AreQuiet : List Outgoing → Type 0
AreQuiet [] = Unit {0}
AreQuiet (packet ∷ packets) = IsQuiet packet.bytes × AreQuiet packets

-- ---- responses

pub response_access : (node : ℕ) (p : Packet) (rcode : ℕ) (given : List ℕ) → access_of (response_to node p rcode given) ≡ None
response_access node (read_quadlet header offset) rcode given = refl
response_access node (read_block header offset count) rcode given = refl
response_access node (write_quadlet header offset value) rcode given = refl
response_access node (write_block header offset payload) rcode given = refl
response_access node (lock header offset extended payload) rcode given = refl
response_access node (write_response header code) rcode given = refl
response_access node (read_quadlet_response header code value) rcode given = refl
response_access node (read_block_response header code payload) rcode given = refl
response_access node (lock_response header code extended payload) rcode given = refl

answer_quiet : (layer : Layer Purpose) (p : Packet) (bytes : List ℕ) (rcode : ℕ) (given : List ℕ) → IsValid (response_to layer.node p rcode given) → IsQuiet (answering_step layer p bytes rcode given).0
unfolding answering_step
answer_quiet layer p bytes rcode given v =
    ap (λ x. writes_in (access_in (read_by x))) (read_canon (response_to layer.node p rcode given) v) ∙ ap writes_in (response_access layer.node p rcode given)

-- one packet
abbrev is_one : List Outgoing → Bool
is_one (packet ∷ []) = true
is_one _ = false

one_quiet : (packets : List Outgoing) → is_one packets ≡ true → (first : Outgoing) (more : List Outgoing) → first ∷ more ≡ packets → IsQuiet first.bytes → AreQuiet packets
one_quiet [] o first more e q = untrue o
one_quiet (packet ∷ []) o first more e q = let f : first ≡ packet = cc in (subst (λ (x : Outgoing). IsQuiet x.bytes) f q, tt)
one_quiet (packet ∷ other ∷ packets) o first more e q = untrue o

answering_quiet : (known : ℕ → Type 0) (reply : Reply) (p : Packet) (bytes : List ℕ) (before now : Layer Purpose) (packets : List Outgoing) → is_one packets ≡ true → IsAnswering known reply p bytes before now packets → AreQuiet packets
answering_quiet known reply p bytes before now packets o a = one_quiet packets o _ a.more a.packets_are (answer_quiet _ p bytes a.rcode a.given a.valid)

-- ---- the end of a transaction sends nothing, but for that of a read of a ROM

abbrev Same : OutboxState → Turn → Type 0
Same o t = t.0.packets ≡ o.packets

pick_same : (b : Bool) (o : OutboxState) (x y : Turn) → Same o x → Same o y → Same o (cond b x y)
pick_same true o x y h k = h
pick_same false o x y h k = k

pick_out : (b : Bool) (o x y : OutboxState) → x.packets ≡ o.packets → y.packets ≡ o.packets → (cond b x y).packets ≡ o.packets
pick_out true o x y h k = h
pick_out false o x y h k = k

stick_same : (o : OutboxState) (s : InitiatorState) → Same o (stick_step o s)
stick_same o s = pick_out (is_stuck_seat s.seat) o _ _ refl refl

dropped_same : (r : Option ℕ × ListState) (o : OutboxState) (s : InitiatorState) → Same o (dropped_as r o s)
dropped_same (None, lists) o s = refl
dropped_same (Some n, lists) o s = refl

drop_same : (o : OutboxState) (s : InitiatorState) → Same o (drop_list_step o s)
drop_same o s = dropped_same (drop_lists s.lists) o s

end_own_same : (operation : Option Running) (act : ℕ) (word : OpWord) (o : OutboxState) (s : InitiatorState) → Same o (end_own_for operation act word o s)
end_own_same None act word o s = refl
end_own_same (Some running) act word o s = pick_same (running.act == act) o _ _ refl refl

fail_same : (act : ℕ) (o : OutboxState) (s : InitiatorState) → Same o (fail_step act o s)
fail_same act o s =
    let t = end_own_step act words.Error o s in
    stick_same t.0 t.1 ∙ end_own_same s.operation act words.Error o s

reset_same : (act : ℕ) (ending : Ending) (o : OutboxState) (s : InitiatorState) → Same o (reset_ended act ending o s)
reset_same act (endings.Complete value) o s = let t = drop_list_step o s in end_own_same t.1.operation act words.Done t.0 t.1 ∙ drop_same o s
reset_same act (endings.Refused rcode) o s = fail_same act o s
reset_same act endings.Expired o s = fail_same act o s

pointer_same : (list : ℕ) (ending : Ending) (o : OutboxState) (s : InitiatorState) → Same o (pointer_ended list ending o s)
pointer_same list (endings.Complete value) o s = refl
pointer_same list (endings.Refused rcode) o s = stick_same o s
pointer_same list endings.Expired o s = stick_same o s

doorbell_same : (ending : Ending) (o : OutboxState) (s : InitiatorState) → Same o (doorbell_ended ending o s)
doorbell_same (endings.Complete value) o s = refl
doorbell_same (endings.Refused rcode) o s = stick_same o s
doorbell_same endings.Expired o s = stick_same o s

enable_same : (act : ℕ) (ending : Ending) (o : OutboxState) (s : InitiatorState) → Same o (enable_ended act ending o s)
enable_same act (endings.Complete value) o s = end_own_same s.operation act words.Done o s
enable_same act (endings.Refused rcode) o s = fail_same act o s
enable_same act endings.Expired o s = fail_same act o s

conflict_same : (operation : Option Running) (act : ℕ) (o : OutboxState) (s : InitiatorState) → Same o (conflict_for operation act o s)
conflict_same None act o s = refl
conflict_same (Some running) act o s = pick_same (running.act == act) o _ _ refl refl

management_same : (act : ℕ) (ending : Ending) (o : OutboxState) (s : InitiatorState) → Same o (management_ended act ending o s)
management_same act (endings.Complete value) o s = refl
management_same act (endings.Refused rcode) o s = pick_same (is_conflict rcode) o _ _ (conflict_same s.operation act o s) (fail_same act o s)
management_same act endings.Expired o s = fail_same act o s

known_same : (b : Bool) (value : ℕ) (o : OutboxState) (s : InitiatorState) → Same o (known_where b value o s)
known_same true value o s = pick_same (value == 0) o _ _ (drop_same o s) refl
known_same false value o s = refl

state_same : (act : ℕ) (list : Option ℕ) (ending : Ending) (o : OutboxState) (s : InitiatorState) → Same o (state_ended act list ending o s)
state_same act list (endings.Complete value) o s = known_same (counts_for s.lists.slots.present list) value o s
state_same act list (endings.Refused rcode) o s = refl
state_same act list endings.Expired o s = refl

unit_same : (unit : Option SbpUnit) (act : ℕ) (o : OutboxState) (s : InitiatorState) → Same o (with_unit unit act o s)
unit_same None act o s = end_own_same s.operation act words.NoUnit o s
unit_same (Some unit) act o s = end_own_same s.operation act words.Done o (record s { management = _ })

rom_same : (tree : Result Tree RomFault) (act : ℕ) (o : OutboxState) (s : InitiatorState) → Same o (with_rom tree act o s)
rom_same (Ok tree) act o s = unit_same (sbp_unit_of tree.blocks tree.entries) act o s
rom_same (Err fault) act o s = end_own_same s.operation act (words.Bad (fault_number fault)) o s

-- a transaction that timed out
late_same : (purpose : Option Purpose) (o : OutboxState) (s : InitiatorState) → Same o (ended_for purpose endings.Expired o s)
unfolding ended_step
late_same None o s = refl
late_same (Some (purposes.Pointer list)) o s = pointer_same list endings.Expired o s
late_same (Some purposes.Doorbell) o s = doorbell_same endings.Expired o s
late_same (Some (purposes.AgentReset act)) o s = reset_same act endings.Expired o s
late_same (Some (purposes.Enable act)) o s = enable_same act endings.Expired o s
late_same (Some (purposes.Management act)) o s = management_same act endings.Expired o s
late_same (Some (purposes.Rom act)) o s = end_own_same s.operation act words.Error o s
late_same (Some (purposes.State act list)) o s = state_same act list endings.Expired o s

same_quiet : {before now : List Outgoing} → now ≡ before → AreQuiet before → AreQuiet now
same_quiet e q = subst AreQuiet (sym e) q

more_quiet : (packets : List Outgoing) (packet : Outgoing) → AreQuiet packets → IsQuiet packet.bytes → AreQuiet (packets ++ packet ∷ [])
more_quiet [] packet q p = (p, tt)
more_quiet (first ∷ packets) packet q p = (q.0, more_quiet packets packet q.1 p)

pick_quiet : (b : Bool) (x y : Turn) → AreQuiet x.0.packets → AreQuiet y.0.packets → AreQuiet (cond b x y).0.packets
pick_quiet true x y h k = h
pick_quiet false x y h k = k

module _ (o : OutboxState) (q : AreQuiet o.packets) where
  -- the next quadlet of the ROM
  asked_quiet : (act : ℕ) (s : InitiatorState) → IsLayer s.layer → s.target < 2 ^ 16 → (r : Option Asked × Layer Purpose) → asking_step s.layer s.target (next_quad s.quads) (purposes.Rom act) ≡ r → AreQuiet (asked_quad r act o s).0.packets
  asked_quiet act s c small (None, layer) e = same_quiet (end_own_same s.operation act words.Error o (record s { layer = layer })) q
  asked_quiet act s c small (Some asked, layer) e =
      let valid = request_fits s.layer.node s.target (next_quad s.quads) c.small small (omega arith) in
      more_quiet o.packets _ q
      (ap writes_in (spelled_by s.layer s.target (next_quad s.quads) (purposes.Rom act) c valid asked (ap (λ (x : Option Asked × Layer Purpose). x.0) e)))

  quad_quiet : (act : ℕ) (s : InitiatorState) → IsLayer s.layer → s.target < 2 ^ 16 → AreQuiet (quad_got act o s).0.packets
  quad_quiet act s c small =
      pick_quiet (length s.quads == 256) (finish_rom act o s) (ask_quad act o s)
      (same_quiet (rom_same (rom_reading s.quads) act o s) q)
      (asked_quiet act s c small (asking_step s.layer s.target (next_quad s.quads) (purposes.Rom act)) refl)

  rom_quiet : (act : ℕ) (ending : Ending) (s : InitiatorState) → IsLayer s.layer → s.target < 2 ^ 16 → AreQuiet (rom_ended act ending o s).0.packets
  rom_quiet act (endings.Complete value) s c small = quad_quiet act (record s { quads = with_quad s.quads value }) c small
  rom_quiet act (endings.Refused rcode) s c small =
      pick_quiet (is_address rcode) (finish_rom act o s) (end_own_step act words.Error o s)
      (same_quiet (rom_same (rom_reading s.quads) act o s) q)
      (same_quiet (end_own_same s.operation act words.Error o s) q)
  rom_quiet act endings.Expired s c small = same_quiet (end_own_same s.operation act words.Error o s) q

  ended_quiet : (purpose : Option Purpose) (ending : Ending) (s : InitiatorState) → IsLayer s.layer → s.target < 2 ^ 16 → AreQuiet (ended_for purpose ending o s).0.packets
  unfolding ended_step
  ended_quiet None ending s c small = q
  ended_quiet (Some (purposes.Pointer list)) ending s c small = same_quiet (pointer_same list ending o s) q
  ended_quiet (Some purposes.Doorbell) ending s c small = same_quiet (doorbell_same ending o s) q
  ended_quiet (Some (purposes.AgentReset act)) ending s c small = same_quiet (reset_same act ending o s) q
  ended_quiet (Some (purposes.Enable act)) ending s c small = same_quiet (enable_same act ending o s) q
  ended_quiet (Some (purposes.Management act)) ending s c small = same_quiet (management_same act ending o s) q
  ended_quiet (Some (purposes.Rom act)) ending s c small = rom_quiet act ending s c small
  ended_quiet (Some (purposes.State act list)) ending s c small = same_quiet (state_same act list ending o s) q

-- ---- a request has one answer

abbrev One : Judged × Turn → Type 0
One r = is_one r.1.0.packets ≡ true

module _ (p : Packet) (bytes : List ℕ) where
  responds_one : (rcode : ℕ) (given : List ℕ) (t : Turn) → t.0.packets ≡ [] → is_one (respond_step p bytes rcode given t).0.packets ≡ true
  responds_one rcode given t e = ap (λ (ps : List Outgoing). is_one (ps ++ record { to = (header_in p).source; label = None; bytes = (answering_step t.1.layer p bytes rcode given).0 } ∷ [])) e

  pick_one : (b : Bool) (x y : Judged × Turn) → One x → One y → One (cond b x y)
  pick_one true x y h k = h
  pick_one false x y h k = k

  module _ (o : OutboxState) (none : o.packets ≡ []) where
    managed_packets : (b : Bool) (running : Running) (code : ℕ) (s : InitiatorState) → Same o (drop_where b o s)
    managed_packets true running code s = drop_same o s
    managed_packets false running code s = refl

    managed_same : (running : Running) (code : ℕ) (s : InitiatorState) → Same o (managed_step running code o s)
    managed_same running code s = pick_same (code == 0) o _ _ (managed_packets (ends_list (Some running.operation)) running code s) refl

    present_one : (operation : Option Running) (code : ℕ) (s : InitiatorState) → One (managed_for operation code p bytes o s)
    present_one None code s = responds_one 0 [] (o, s) none
    present_one (Some running) code s = responds_one 0 [] (managed_step running code o (called s)) (managed_same running code (called s) ∙ none)

    taken_one : (r : Option TicketParts × ListState) (kind : StatusKind) (s : InitiatorState) → One (taken_as r kind p bytes o s)
    taken_one (None, lists) kind s = responds_one 0 [] (o, record s { lists = lists }) none
    taken_one (Some t, lists) kind s = responds_one 0 [] (taken_by t lists kind o (called s)) none

    kind_one : (kind : StatusKind) (block : StatusBlock) (s : InitiatorState) → One (block_by kind block p bytes o s)
    kind_one (kinds.Management code) block s = present_one (present_for block.orb s.operation) code s
    kind_one kinds.Good block s = taken_one (take_lists s.lists block) kinds.Good s
    kind_one (kinds.Check sense) block s = taken_one (take_lists s.lists block) (kinds.Check sense) s
    kind_one kinds.Dummy block s = taken_one (take_lists s.lists block) kinds.Dummy s
    kind_one kinds.Aborted block s = taken_one (take_lists s.lists block) kinds.Aborted s
    kind_one (kinds.Illegal meaning) block s = taken_one (take_lists s.lists block) (kinds.Illegal meaning) s
    kind_one kinds.Failed block s = taken_one (take_lists s.lists block) kinds.Failed s

    block_one : (r : Result StatusBlock OrbFault) (s : InitiatorState) → One (block_step r p bytes o s)
    block_one (Err fault) s = responds_one data_error [] (o, s) none
    block_one (Ok block) s = kind_one block.kind block s

    status_one : (is_login : Bool) (payload : List ℕ) (s : InitiatorState) → One (status_step is_login payload p bytes o s)
    status_one is_login payload s =
        pick_one (is_login && is_block payload) _ _ (responds_one 0 [] (told o (notes.Told s.number), called s) none) (block_one (status_in payload) s)

    read_one : (r : ℕ × List ℕ) (s : InitiatorState) → One (read_as r p bytes o s)
    read_one (rcode, out) s = responds_one rcode out (o, called s) none

    written_one : (r : ℕ × ListState) (s : InitiatorState) → One (written_as r p bytes o s)
    written_one (rcode, lists) s = responds_one rcode [] (o, record (called s) { lists = lists }) none

module _ (bytes : List ℕ) (o : OutboxState) (none : o.packets ≡ []) (s : InitiatorState) where
  serve_one : (p : Packet) → One (serve_step p bytes o s)
  serve_one (read_quadlet header offset) = read_one (read_quadlet header offset) bytes o none (read_step s.lists.memory offset (replicate 4 0)) s
  serve_one (read_block header offset count) = read_one (read_block header offset count) bytes o none (read_step s.lists.memory offset (replicate count 0)) s
  serve_one (write_quadlet header offset value) = written_one (write_quadlet header offset value) bytes o none (write_lists s.lists offset (big_bytes 4 value)) s
  serve_one (write_block header offset payload) = written_one (write_block header offset payload) bytes o none (write_lists s.lists offset payload) s
  serve_one (write_response header rcode) = responds_one (write_response header rcode) bytes type_error [] (o, called s) none
  serve_one (read_quadlet_response header rcode value) = responds_one (read_quadlet_response header rcode value) bytes type_error [] (o, called s) none
  serve_one (read_block_response header rcode payload) = responds_one (read_block_response header rcode payload) bytes type_error [] (o, called s) none
  serve_one (lock header offset extended payload) = responds_one (lock header offset extended payload) bytes type_error [] (o, called s) none
  serve_one (lock_response header rcode extended payload) = responds_one (lock_response header rcode extended payload) bytes type_error [] (o, called s) none

  quadlet_one : (fifo : Option Fifo) (p : Packet) → One (quadlet_at fifo p bytes o s)
  quadlet_one None p = serve_one p
  quadlet_one (Some fifos.Closed) p = responds_one p bytes address_error [] (o, s) none
  quadlet_one (Some fifos.Login) p = serve_one p
  quadlet_one (Some fifos.Place) p = serve_one p

  block_at_one : (fifo : Option Fifo) (payload : List ℕ) (p : Packet) → One (block_at fifo payload p bytes o s)
  block_at_one None payload p = serve_one p
  block_at_one (Some fifos.Closed) payload p = responds_one p bytes address_error [] (o, s) none
  block_at_one (Some fifos.Login) payload p = status_one p bytes o none true payload s
  block_at_one (Some fifos.Place) payload p = status_one p bytes o none false payload s

  addressed_one : (p : Packet) → One (addressed p bytes o s)
  addressed_one (write_quadlet header offset value) = quadlet_one (fifo_of s offset) (write_quadlet header offset value)
  addressed_one (write_block header offset payload) = block_at_one (fifo_of s offset) payload (write_block header offset payload)
  addressed_one (read_quadlet header offset) = serve_one (read_quadlet header offset)
  addressed_one (read_block header offset count) = serve_one (read_block header offset count)
  addressed_one (lock header offset extended payload) = serve_one (lock header offset extended payload)
  addressed_one (write_response header rcode) = serve_one (write_response header rcode)
  addressed_one (read_quadlet_response header rcode value) = serve_one (read_quadlet_response header rcode value)
  addressed_one (read_block_response header rcode payload) = serve_one (read_block_response header rcode payload)
  addressed_one (lock_response header rcode extended payload) = serve_one (lock_response header rcode extended payload)

  request_one : (p : Packet) → One (request_step p bytes o s)
  request_one p = pick_one p bytes (is_foreign p s) _ _ (responds_one p bytes address_error [] (o, s) none) (addressed_one p)

-- ---- a call

module _ (known : ℕ → Type 0) (bytes : List ℕ) (s : InitiatorState) (small : s.target < 2 ^ 16) where
  found_quiet : (f : Finding Purpose) (layer : Layer Purpose) → IsLayer layer → IsDelivery known f (received (f, layer) bytes empty_outbox s).0 bytes layer (received (f, layer) bytes empty_outbox s).1.1.layer (received (f, layer) bytes empty_outbox s).1.0.packets → AreQuiet (received (f, layer) bytes empty_outbox s).1.0.packets
  found_quiet of_generation layer c d = tt
  found_quiet of_grammar layer c d = tt
  found_quiet of_label layer c d = tt
  found_quiet (of_response p label purpose) layer c d = ended_quiet empty_outbox tt purpose (ending_of p) (called (record s { layer = layer })) c small
  found_quiet (of_again p rcode) layer c d = answering_quiet known _ p bytes layer _ _ refl d.answers
  found_quiet (of_request p) layer c d = answering_quiet known _ p bytes layer _ _ (request_one bytes empty_outbox refl (record s { layer = layer }) p) d.answers

pub receive_quiet : (known : ℕ → Type 0) (generation : ℕ) (bytes : List ℕ) (s : InitiatorState) → s.target < 2 ^ 16 → IsLayer s.layer → IsDelivery known (judging_step s.layer generation bytes).0 (receive_step generation bytes empty_outbox s).0 bytes (judging_step s.layer generation bytes).1 (receive_step generation bytes empty_outbox s).1.1.layer (receive_step generation bytes empty_outbox s).1.0.packets → AreQuiet (receive_step generation bytes empty_outbox s).1.0.packets
unfolding receive_step
receive_quiet known generation bytes s small c d =
    found_quiet known bytes s small (judging_step s.layer generation bytes).0 (judging_step s.layer generation bytes).1
    (goes s.layer (wire.judges generation bytes) (judges_same s.layer generation bytes) c) d

expired_quiet : (r : Result (Option Purpose) Stale × Layer Purpose) (s : InitiatorState) → AreQuiet (expired_as r empty_outbox s).1.0.packets
expired_quiet (Err stale, layer) s = tt
expired_quiet (Ok purpose, layer) s = same_quiet (late_same purpose empty_outbox (called (record s { layer = layer }))) tt

pub expire_quiet : (label : LabelParts) (s : InitiatorState) → AreQuiet (expire_step label empty_outbox s).1.0.packets
unfolding expire_step
expire_quiet label s = expired_quiet (expiring_step s.layer s.target label) s

-- ---- a generation is seen

states_same : (number : ℕ) (acts : List ℕ) (o : OutboxState) → (states_end number acts o).packets ≡ o.packets
states_same number [] o = refl
states_same number (act ∷ acts) o = states_same number acts (reset_told number operations.State o)

all_same : (number : ℕ) (running : Running) (acts : List ℕ) (o : OutboxState) → (all_end number running acts o).packets ≡ o.packets
all_same number running [] o = refl
all_same number running (act ∷ acts) o =
    pick_out (nat_lt running.act act) o _ _ (states_same number (act ∷ acts) (reset_told number running.operation o)) (all_same number running acts (reset_told number operations.State o))

resets_same : (number : ℕ) (operation : Option Running) (acts : List ℕ) (o : OutboxState) → (resets_told number operation acts o).packets ≡ o.packets
resets_same number None acts o = states_same number acts o
resets_same number (Some running) acts o = all_same number running acts o

seen_quiet : (r : Bool × Layer Purpose) (target : ℕ) (s : InitiatorState) → AreQuiet (seen_as r target empty_outbox s).0.packets
seen_quiet (false, layer) target s = tt
seen_quiet (true, layer) target s =
    let u = interrupted (record s { layer = layer }) target in
    let o = resets_told s.number s.operation s.states empty_outbox in
    same_quiet (drop_same o u) (subst AreQuiet (sym (resets_same s.number s.operation s.states empty_outbox)) tt)

pub see_quiet : (generation id target : ℕ) (s : InitiatorState) → AreQuiet (see_step generation id target empty_outbox s).0.packets
unfolding see_step
see_quiet generation id target s = seen_quiet (seeing_step s.layer generation id) target s
