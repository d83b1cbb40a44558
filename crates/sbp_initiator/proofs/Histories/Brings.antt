-- What a delivery and a time-out leave of the slots, of what is known of the present list, and of the reads of AGENT_STATE.
use Rattle.std.proofs.Common.{◌≡◌, refl, sym, ap, subst, ◌∙◌, ℕ, nat_eq, ◌&&◌, is_some, Bool, true, false, cond, List, [], ◌∷◌, ◌++◌, append-nil, replicate, Option, Some, None, Result, Ok, Err}
use Rattle.byteorder.specs.Endian.{big_bytes}
use Rattle.async_packet.specs.Labels.{LabelParts}
use Rattle.async_packet.specs.declared.packet.Header.{Header}
use Rattle.async_packet.specs.Packet.{Packet, write_quadlet, write_block, write_response, read_quadlet, read_block, read_quadlet_response, read_block_response, lock, lock_response}
use Rattle.label_table.specs.declared.reply.Stale.{Stale}
use Rattle.label_table.specs.Layer.{Layer, Finding, of_generation, of_grammar, of_label, of_response, of_again, of_request, expiring_step, judging_step}
use Rattle.bus_memory.specs.Access.{read_step, write_step}
use Rattle.bus_memory.specs.Windows.{slot_of}
use Rattle.media_bay.specs.Unsolicited.{is_block}
use Rattle.orb_layout.specs.declared.fault.OrbFault.{OrbFault}
use Rattle.orb_layout.specs.declared.status.StatusBlock.{StatusBlock}
use Rattle.orb_layout.specs.declared.status.StatusKind.{StatusKind}
use Rattle.orb_layout.specs.declared.status.StatusKind.TheVariants as kinds
use Rattle.orb_list.specs.Runs as slot_runs
use Rattle.orb_list.specs.Table.{status_step as slot_step}
use Rattle.orb_list.specs.Tickets.{TicketParts}
use Rattle.sbp_journal.specs.declared.cause.Cause.TheVariants as causes
use Rattle.sbp_journal.specs.declared.note.Note.TheVariants as notes
use Rattle.sbp_journal.specs.Outgoings.{OutboxState}
use Rattle.sbp_journal.specs.Addresses.{Access}
use Rattle.initiator_base.specs.declared.fifos.Fifo.{Fifo}
use Rattle.initiator_base.specs.declared.fifos.Fifo.TheVariants as fifos
use Rattle.sbp_initiator.specs.declared.purpose.Ending.TheVariants as endings
use Rattle.sbp_initiator.specs.declared.purpose.ListMarks.{ListMarks}
use Rattle.sbp_initiator.specs.declared.purpose.Purpose.{Purpose}
use Rattle.sbp_initiator.specs.declared.purpose.Purpose.TheVariants as purposes
use Rattle.sbp_initiator.specs.declared.purpose.Running.{Running}
use Rattle.sbp_initiator.specs.declared.state.InitiatorState.{InitiatorState}
use Rattle.sbp_initiator.specs.Refusals.{ends_list}
use Rattle.orb_list.specs.Lists.{ListState, take_lists, write_lists}
use Rattle.sbp_initiator.specs.States.{ending_of, is_orb_of, status_in}
use Rattle.sbp_initiator.specs.Effects.{Turn, ended_for, managed_step, told, with_dead}
use Rattle.initiator_base.specs.Fifos.{is_dead_kind}
use Rattle.sbp_initiator.specs.Receiving.{address_error, addressed, block_at, block_by, block_step, called, expire_step, expired_as, fifo_of, got_step, ignored_step, is_foreign, managed_for, present_for, quadlet_at, read_as as served_as, receive_step, received, request_step, respond_step, taken_as, written_as}
use Rattle.sbp_initiator.specs.Judged.{IsSame}
use Rattle.sbp_initiator.proofs.Layers.{judged_same}
use Rattle.sbp_initiator.specs.Histories.Judging.{facts_at}
use Rattle.sbp_initiator.specs.Histories.Taking.{Brought, nothing, unsolicited, read_as, brought, waiting_at, good_drops, kind_drops, block_drops}
use Rattle.sbp_initiator.specs.Histories.Marks.{has_dead_bit, takes_dead, read_over, finding_reads, expired_reads}
use Rattle.sbp_initiator.specs.Histories.Slots.{block_calls, block_writes, drop_calls, heard_calls, quadlet_writes, status_calls, write_calls}
use Rattle.sbp_initiator.proofs.Histories.Leaves.{Calls, Leaves, layered, still, gone_marks, dead_marks, for_drops, for_marks, for_leaves, managed_leaves}
use Rattle.sbp_initiator.proofs.Histories.Requests.{behind_row, block_write_of, quadlet_write_of, take_found}

-- what a request leaves that brings this, with the writes that are tried
abbrev pub Left : Brought → Calls → InitiatorState → Turn → Type 0
Left b writes s t =
    Leaves (drop_calls (block_drops b s) ++ (block_calls b ++ writes)) (gone_marks (block_drops b s) s.lists.slots.present (dead_marks (takes_dead b s) s.marks)) s.states s t.1

-- what one leaves that is answered alone, in a state that differs in its counts
quiet : (rcode : ℕ) (given : List ℕ) (p : Packet) (bytes : List ℕ) (o : OutboxState) (s t : InitiatorState) → t.operation ≡ s.operation → t.lists ≡ s.lists → t.marks ≡ s.marks → t.states ≡ s.states → Leaves [] s.marks s.states s (respond_step p bytes rcode given (o, t)).1
quiet rcode given p bytes o s t operation lists marks states =
    still s (respond_step p bytes rcode given (o, t)).1 operation lists marks states

module _ (p : Packet) (bytes : List ℕ) (o : OutboxState) (s : InitiatorState) where
  ignored : (rcode : ℕ) → Left nothing [] s (respond_step p bytes rcode [] (o, s))
  ignored rcode = quiet rcode [] p bytes o s s refl refl refl refl

  -- ---- a status block

  -- of the operation under way
  abbrev Ended : Bool → Turn → Type 0
  Ended c t = Leaves (drop_calls c) (gone_marks c s.lists.slots.present s.marks) s.states s t.1

  counted_left : (running : Running) (code : ℕ) → is_some s.operation ≡ true → Ended (nat_eq code 0 && ends_list (Some running.operation)) (managed_step running code o (called s))
  counted_left running code e =
      let l = managed_leaves running code o (called s) e in
      record { ended = l.ended; operation = l.operation; table = l.table; memory = l.memory; marks = l.marks; states = l.states }

  present_left : (c : Bool) (running : Running) (code : ℕ) → is_some s.operation ≡ true → Ended (good_drops (cond c (Some running) None) code) (managed_for (cond c (Some running) None) code p bytes o s).1
  present_left true running code e = layered _ (counted_left running code e)
  present_left false running code e = quiet 0 [] p bytes o s s refl refl refl refl

  operation_left : (operation : Option Running) (code orb : ℕ) → s.operation ≡ operation → Ended (good_drops (present_for orb operation) code) (managed_for (present_for orb operation) code p bytes o s).1
  operation_left None code orb e = quiet 0 [] p bytes o s s refl refl refl refl
  operation_left (Some running) code orb e = present_left (is_orb_of running.managed orb) running code (ap is_some e)

  -- of an ORB
  abbrev Taken : Bool → StatusBlock → Turn → Type 0
  Taken c block t = Leaves (slot_runs.TakeStatus block ∷ []) (dead_marks c s.marks) s.states s t.1

  dead_left : (c : Bool) (block : StatusBlock) (lists : ListState) → lists.slots ≡ (slot_step s.lists.slots s.lists.memory block).1.0 → lists.memory ≡ (slot_step s.lists.slots s.lists.memory block).1.1 → Leaves (slot_runs.TakeStatus block ∷ []) (dead_marks c s.marks) s.states s (cond c (with_dead (record (called s) { lists = lists })) (record (called s) { lists = lists }))
  dead_left true block lists e f = record { ended = false; operation = refl; table = e; memory = f; marks = refl; states = refl }
  dead_left false block lists e f = record { ended = false; operation = refl; table = e; memory = f; marks = refl; states = refl }

  takes_left : (t : Option TicketParts) (lists : ListState) (kind : StatusKind) (block : StatusBlock) → lists.slots ≡ (slot_step s.lists.slots s.lists.memory block).1.0 → lists.memory ≡ (slot_step s.lists.slots s.lists.memory block).1.1 → Taken (is_some t && is_dead_kind kind) block (taken_as (t, lists) kind p bytes o s).1
  takes_left None lists kind block e f = record { ended = false; operation = refl; table = e; memory = f; marks = refl; states = refl }
  takes_left (Some t) lists kind block e f = layered _ (dead_left (is_dead_kind kind) block lists e f)

  take_slots : (block : StatusBlock) → (take_lists s.lists block).1.slots ≡ (slot_step s.lists.slots s.lists.memory block).1.0
  unfolding take_lists
  take_slots block = refl

  take_memory : (block : StatusBlock) → (take_lists s.lists block).1.memory ≡ (slot_step s.lists.slots s.lists.memory block).1.1
  unfolding take_lists
  take_memory block = refl

  taken_left : (kind : StatusKind) (block : StatusBlock) → Taken (is_some (waiting_at s.lists.slots.slots (slot_of block.orb)) && is_dead_kind kind) block (taken_as (take_lists s.lists block) kind p bytes o s).1
  taken_left kind block =
      subst (λ (t : Option TicketParts). Taken (is_some t && is_dead_kind kind) block (taken_as (take_lists s.lists block) kind p bytes o s).1) (take_found s.lists block)
      (takes_left (take_lists s.lists block).0 (take_lists s.lists block).1 kind block (take_slots block) (take_memory block))

  -- by its kind
  abbrev ByKind : StatusKind → StatusBlock → Turn → Type 0
  ByKind kind block t =
      Leaves (drop_calls (kind_drops kind block.orb s) ++ (status_calls kind block ++ [])) (gone_marks (kind_drops kind block.orb s) s.lists.slots.present (dead_marks (is_some (waiting_at s.lists.slots.slots (slot_of block.orb)) && has_dead_bit kind) s.marks)) s.states s t.1

  and_false : (c : Bool) → (c && false) ≡ false
  and_false true = refl
  and_false false = refl

  managed_left : (code : ℕ) (block : StatusBlock) → ByKind (kinds.Management code) block (block_by (kinds.Management code) block p bytes o s).1
  managed_left code block =
      let c = kind_drops (kinds.Management code) block.orb s in
      subst (λ (x : Bool). Leaves (drop_calls c ++ []) (gone_marks c s.lists.slots.present (dead_marks x s.marks)) s.states s (block_by (kinds.Management code) block p bytes o s).1.1) (sym (and_false (is_some (waiting_at s.lists.slots.slots (slot_of block.orb)))))
      (subst (λ (x : Calls). Leaves x (gone_marks c s.lists.slots.present s.marks) s.states s (block_by (kinds.Management code) block p bytes o s).1.1) (sym (append-nil (drop_calls c))) (operation_left s.operation code block.orb refl))

  kind_left : (kind : StatusKind) (block : StatusBlock) → ByKind kind block (block_by kind block p bytes o s).1
  kind_left (kinds.Management code) block = managed_left code block
  kind_left kinds.Good block = taken_left kinds.Good block
  kind_left (kinds.Check sense) block = taken_left (kinds.Check sense) block
  kind_left kinds.Dummy block = taken_left kinds.Dummy block
  kind_left kinds.Aborted block = taken_left kinds.Aborted block
  kind_left (kinds.Illegal meaning) block = taken_left (kinds.Illegal meaning) block
  kind_left kinds.Failed block = taken_left kinds.Failed block

  block_left : (r : Result StatusBlock OrbFault) → Left (read_as r) [] s (block_step r p bytes o s).1
  block_left (Err fault) = ignored 5
  block_left (Ok block) = kind_left block.kind block

  told_left : (c : Bool) (r : Result StatusBlock OrbFault) → Left (cond c unsolicited (read_as r)) [] s (cond c (got_step p bytes (told o (notes.Told s.number), called s)) (block_step r p bytes o s)).1
  told_left true r = quiet 0 [] p bytes (told o (notes.Told s.number)) s (called s) refl refl refl refl
  told_left false r = block_left r

  -- one of another node than the target
  source_left : (c : Bool) (b : Brought) (writes : Calls) → Left b writes s (addressed p bytes o s).1 → Left (cond c nothing b) (cond c [] writes) s (cond c (ignored_step causes.Source address_error p bytes (o, s)) (addressed p bytes o s)).1
  source_left true b writes l = ignored 7
  source_left false b writes l = l

  either_left : (c : Bool) → Left nothing [] s (addressed p bytes o s).1 → Left nothing (cond c [] []) s (cond c (ignored_step causes.Source address_error p bytes (o, s)) (addressed p bytes o s)).1
  either_left true l = ignored 7
  either_left false l = l

  -- ---- the memory

  read_left : (r : ℕ × List ℕ) → Left nothing [] s (served_as r p bytes o s).1
  read_left (rcode, out) = quiet rcode out p bytes o s (called s) refl refl refl refl

  wrote_left : (r : ℕ × ListState) (offset : ℕ) (written : List ℕ) → r.1.slots ≡ s.lists.slots → r.1.memory ≡ (write_step s.lists.memory offset written).1 → Left nothing (slot_runs.TryWrite offset written ∷ []) s (written_as r p bytes o s).1
  wrote_left (rcode, lists) offset written e f = record { ended = false; operation = refl; table = e; memory = f; marks = refl; states = refl }

  write_left : (offset : ℕ) (written : List ℕ) → Left nothing (slot_runs.TryWrite offset written ∷ []) s (written_as (write_lists s.lists offset written) p bytes o s).1
  unfolding write_lists
  write_left offset written = wrote_left _ offset written refl refl

module _ (bytes : List ℕ) (o : OutboxState) (s : InitiatorState) where
  abbrev at_source : Option Fifo → Access → ℕ → Brought
  at_source fifo access source = behind_row (facts_at fifo access source s) (status_in access.payload)

  block_at_left : (fifo : Option Fifo) (header : Header) (offset : ℕ) (payload : List ℕ) → Left (at_source fifo (block_write_of offset payload) header.source) (block_writes fifo offset payload) s (block_at fifo payload (write_block header offset payload) bytes o s).1
  block_at_left None header offset payload = write_left (write_block header offset payload) bytes o s offset payload
  block_at_left (Some fifos.Closed) header offset payload = ignored (write_block header offset payload) bytes o s 7
  block_at_left (Some fifos.Login) header offset payload = told_left (write_block header offset payload) bytes o s (is_block payload) (status_in payload)
  block_at_left (Some fifos.Place) header offset payload = block_left (write_block header offset payload) bytes o s (status_in payload)

  quadlet_at_left : (fifo : Option Fifo) (header : Header) (offset value : ℕ) → Left (at_source fifo (quadlet_write_of offset) header.source) (quadlet_writes fifo offset (big_bytes 4 value)) s (quadlet_at fifo (write_quadlet header offset value) bytes o s).1
  quadlet_at_left None header offset value = write_left (write_quadlet header offset value) bytes o s offset (big_bytes 4 value)
  quadlet_at_left (Some fifos.Closed) header offset value = ignored (write_quadlet header offset value) bytes o s 7
  quadlet_at_left (Some fifos.Login) header offset value = write_left (write_quadlet header offset value) bytes o s offset (big_bytes 4 value)
  quadlet_at_left (Some fifos.Place) header offset value = write_left (write_quadlet header offset value) bytes o s offset (big_bytes 4 value)

  refused : (p : Packet) → Left nothing [] s (respond_step p bytes 6 [] (o, called s))
  refused p = quiet 6 [] p bytes o s (called s) refl refl refl refl

  pub request_left : (p : Packet) → Left (brought p s) (write_calls p s) s (request_step p bytes o s).1
  request_left (write_quadlet header offset value) =
      let p = write_quadlet header offset value in
      source_left p bytes o s (is_foreign p s) (at_source (fifo_of s offset) (quadlet_write_of offset) header.source) (quadlet_writes (fifo_of s offset) offset (big_bytes 4 value)) (quadlet_at_left (fifo_of s offset) header offset value)
  request_left (write_block header offset payload) =
      let p = write_block header offset payload in
      source_left p bytes o s (is_foreign p s) (at_source (fifo_of s offset) (block_write_of offset payload) header.source) (block_writes (fifo_of s offset) offset payload) (block_at_left (fifo_of s offset) header offset payload)
  request_left (read_quadlet header offset) =
      let p = read_quadlet header offset in
      source_left p bytes o s (is_foreign p s) nothing [] (read_left p bytes o s (read_step s.lists.memory offset (replicate 4 0)))
  request_left (read_block header offset asked) =
      let p = read_block header offset asked in
      source_left p bytes o s (is_foreign p s) nothing [] (read_left p bytes o s (read_step s.lists.memory offset (replicate asked 0)))
  request_left (lock header offset extended payload) =
      let p = lock header offset extended payload in source_left p bytes o s (is_foreign p s) nothing [] (refused p)
  request_left (write_response header rcode) =
      let p = write_response header rcode in either_left p bytes o s (is_foreign p s) (refused p)
  request_left (read_quadlet_response header rcode value) =
      let p = read_quadlet_response header rcode value in either_left p bytes o s (is_foreign p s) (refused p)
  request_left (read_block_response header rcode payload) =
      let p = read_block_response header rcode payload in either_left p bytes o s (is_foreign p s) (refused p)
  request_left (lock_response header rcode extended payload) =
      let p = lock_response header rcode extended payload in either_left p bytes o s (is_foreign p s) (refused p)

-- ---- a delivery

-- what is known behind it
abbrev pub finding_marks : Finding Purpose → InitiatorState → ListMarks
finding_marks (of_response p label purpose) s = for_marks purpose (ending_of p) s.lists.slots.present s.marks
finding_marks (of_request p) s =
    gone_marks (block_drops (brought p s) s) s.lists.slots.present (dead_marks (takes_dead (brought p s) s) s.marks)
finding_marks _ s = s.marks

-- in a state with another layer and other counts
abbrev Found : Finding Purpose → InitiatorState → InitiatorState → Type 0
Found finding s t = Leaves (heard_calls finding s) (finding_marks finding s) (finding_reads finding s.states) s t

purpose_is : (purpose : Option Purpose) (p : Packet) (label : LabelParts) (s : InitiatorState) → drop_calls (for_drops purpose (ending_of p) s.lists.slots.present) ≡ heard_calls (of_response p label purpose) s
purpose_is None p label s = refl
purpose_is (Some purpose) p label s = sym (append-nil _)

response_found : (p : Packet) (label : LabelParts) (purpose : Option Purpose) (layer : Layer Purpose) (o : OutboxState) (s : InitiatorState) → Found (of_response p label purpose) s (ended_for purpose (ending_of p) o (called (record s { layer = layer }))).1
response_found p label purpose layer o s =
    let u = called (record s { layer = layer }) in
    let l = for_leaves purpose (ending_of p) o u in
    subst (λ (x : Calls). Leaves x (finding_marks (of_response p label purpose) s) (read_over purpose s.states) s (ended_for purpose (ending_of p) o u).1) (purpose_is purpose p label s)
    (record { ended = l.ended; operation = l.operation; table = l.table; memory = l.memory; marks = l.marks; states = l.states })

received_found : (finding : Finding Purpose) (layer : Layer Purpose) (bytes : List ℕ) (o : OutboxState) (s : InitiatorState) → IsSame finding s.layer layer → Found finding s (received (finding, layer) bytes o s).1.1
received_found of_generation layer bytes o s same = still s (record s { layer = layer }) refl refl refl refl
received_found of_grammar layer bytes o s same = still s (record s { layer = layer }) refl refl refl refl
received_found of_label layer bytes o s same = still s (record s { layer = layer }) refl refl refl refl
received_found (of_response p label purpose) layer bytes o s same = response_found p label purpose layer o s
received_found (of_again p rcode) layer bytes o s same = quiet rcode [] p bytes o s (record s { layer = layer }) refl refl refl refl
received_found (of_request p) layer bytes o s same =
    subst (λ (l : Layer Purpose). Found (of_request p) s (received (of_request p, l) bytes o s).1.1) (sym same) (request_left bytes o s p)

pub receive_leaves : (generation : ℕ) (bytes : List ℕ) (o : OutboxState) (s : InitiatorState) → Found (judging_step s.layer generation bytes).0 s (receive_step generation bytes o s).1.1
unfolding receive_step
receive_leaves generation bytes o s =
    received_found (judging_step s.layer generation bytes).0 (judging_step s.layer generation bytes).1 bytes o s (judged_same (judging_step s.layer generation bytes).0 s.layer (judging_step s.layer generation bytes).1 generation bytes refl)

-- ---- a time-out

-- a time-out drops no list and says nothing of it
no_drops : (purpose : Purpose) (s : InitiatorState) → drop_calls (for_drops (Some purpose) endings.Expired s.lists.slots.present) ≡ []
no_drops (purposes.AgentReset act) s = refl
no_drops (purposes.Enable act) s = refl
no_drops (purposes.Rom act) s = refl
no_drops (purposes.Management act) s = refl
no_drops (purposes.State act list) s = refl
no_drops (purposes.Pointer list) s = refl
no_drops purposes.Doorbell s = refl

no_marks_of : (purpose : Purpose) (s : InitiatorState) → for_marks (Some purpose) endings.Expired s.lists.slots.present s.marks ≡ s.marks
no_marks_of (purposes.AgentReset act) s = refl
no_marks_of (purposes.Enable act) s = refl
no_marks_of (purposes.Rom act) s = refl
no_marks_of (purposes.Management act) s = refl
no_marks_of (purposes.State act list) s = refl
no_marks_of (purposes.Pointer list) s = refl
no_marks_of purposes.Doorbell s = refl

expired_left : (r : Result (Option Purpose) Stale) (layer : Layer Purpose) (o : OutboxState) (s : InitiatorState) → Leaves [] s.marks (expired_reads r s.states) s (expired_as (r, layer) o s).1.1
expired_left (Err stale) layer o s = still s (record s { layer = layer }) refl refl refl refl
expired_left (Ok None) layer o s = still s (called (record s { layer = layer })) refl refl refl refl
expired_left (Ok (Some purpose)) layer o s =
    let u = called (record s { layer = layer }) in
    let l = for_leaves (Some purpose) endings.Expired o u in
    subst (λ (x : Calls). Leaves x s.marks (read_over (Some purpose) s.states) s (expired_as (Ok (Some purpose), layer) o s).1.1) (no_drops purpose s)
    (record { ended = l.ended; operation = l.operation; table = l.table; memory = l.memory; marks = l.marks ∙ no_marks_of purpose s; states = l.states })

pub expire_leaves : (label : LabelParts) (o : OutboxState) (s : InitiatorState) → Leaves [] s.marks (expired_reads (expiring_step s.layer s.target label).0 s.states) s (expire_step label o s).1.1
unfolding expire_step
expire_leaves label o s = expired_left (expiring_step s.layer s.target label).0 (expiring_step s.layer s.target label).1 o s
