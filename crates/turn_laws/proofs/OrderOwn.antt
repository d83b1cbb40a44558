-- What an initiator tells as it hears, waits in vain and sees stands in order: what it takes or is told, and behind it what its operations, its list and its session come to.
use Rattle.std.proofs.Common.{sym, subst, ℕ, ◌≤◌, arith, Bool, true, false, List, [], ◌∷◌, ◌++◌, Option, Some, None}
use Rattle.async_packet.specs.Labels.{LabelParts}
use Rattle.bus_memory.specs.Windows.{slot_of}
use Rattle.label_table.specs.Layer.{Finding, Layer, judging_step, of_again, of_generation, of_grammar, of_label, of_request, of_response, seeing_step}
use Rattle.orb_layout.specs.declared.status.StatusBlock.{StatusBlock}
use Rattle.orb_layout.specs.declared.status.StatusKind.{StatusKind}
use Rattle.orb_layout.specs.declared.status.StatusKind.TheVariants as kinds
use Rattle.orb_list.specs.Lists.{ListState, drop_lists, take_lists}
use Rattle.orb_list.specs.Tickets.{TicketParts}
use Rattle.sbp_journal.specs.declared.note.Note.{Note}
use Rattle.sbp_journal.specs.declared.note.Note.TheVariants as notes
use Rattle.sbp_journal.specs.declared.operation.Operation.{Operation}
use Rattle.sbp_journal.specs.declared.operation.OpWord.{OpWord}
use Rattle.sbp_journal.specs.declared.operation.OpWord.TheVariants as words
use Rattle.sbp_journal.specs.declared.side.Side.TheVariants as sides
use Rattle.sbp_journal.specs.Outgoings.{OutboxState, empty_outbox}
use Rattle.sbp_initiator.specs.declared.purpose.Purpose.{Purpose}
use Rattle.sbp_initiator.specs.declared.state.InitiatorState.{InitiatorState}
use Rattle.sbp_initiator.specs.Effects.{Turn, dropped_as}
use Rattle.sbp_initiator.specs.Receiving.{expire_step, receive_step}
use Rattle.sbp_initiator.specs.Seeing.{interrupted, reset_told, resets_told, see_step, seen_as}
use Rattle.sbp_initiator.specs.Histories.Ends.{OpEnd, drops, notes_of, ops, own, state_ops, sticks}
use Rattle.sbp_initiator.specs.Histories.Taking.{Brought, block_note, block_notes, brought, finding_note, nothing, status, taken_by, taken_of, unsolicited, waiting_at}
use Rattle.sbp_world.specs.Hosts.Calling.{IsCalled}
use Rattle.turn_laws.proofs.HostTold.{IsTold, expire_told, receive_told, resets_keep}
use Rattle.turn_laws.proofs.OrderHanded.{InRanks, side_rank}
use Rattle.turn_laws.proofs.OrderRanks.{Rises, note_rank, rises_both, rises_more, same_rank}

abbrev Tells : Turn → Type 0
Tells t = InRanks 0 t.0.sides 10

own_rises : (ns : List Note) (r top : ℕ) → Rises note_rank r ns top → InRanks r (own ns) top
own_rises [] r top h = h
own_rises (note ∷ ns) r top h = (h.0, own_rises ns (note_rank note) top h.1)

at_ten : 0 ≤ 10
at_ten = omega arith

-- ---- what its operations, its list and its session come to
abbrev Works : List Note → Type 0
Works ns = Rises note_rank 10 ns 10

one_work : (10 ≤ 10) × (10 ≤ 10)
one_work = (same_rank 10, same_rank 10)

drops_work : (number : ℕ) (drop : Option ℕ) → Works (drops number drop)
drops_work number None = same_rank 10
drops_work number (Some list) = one_work

ops_work : (number : ℕ) (op : Option OpEnd) → Works (ops number op)
ops_work number None = same_rank 10
ops_work number (Some end) = one_work

states_work : (number : ℕ) (state : Option OpWord) → Works (state_ops number state)
states_work number None = same_rank 10
states_work number (Some word) = one_work

sticks_work : (number : ℕ) (stuck : Bool) → Works (sticks number stuck)
sticks_work number false = same_rank 10
sticks_work number true = one_work

both_work : (a b : List Note) → Works a → Works b → Works (a ++ b)
both_work a b g h = rises_both note_rank a b 10 10 10 g h

notes_work : (number : ℕ) (drop : Option ℕ) (op : Option OpEnd) (state : Option OpWord) (stuck : Bool) → Works (notes_of number drop op state stuck)
notes_work number drop op state stuck =
    both_work (drops number drop) (ops number op ++ (state_ops number state ++ sticks number stuck)) (drops_work number drop)
    (both_work (ops number op) (state_ops number state ++ sticks number stuck) (ops_work number op)
    (both_work (state_ops number state) (sticks number stuck) (states_work number state) (sticks_work number stuck)))

-- ---- a time-out, and a delivery
-- a block is taken or told before all else
abbrev Takes : Option Note → Type 0
Takes first = Rises note_rank 0 (block_notes first) 10

no_block : Takes None
no_block = at_ten

as_told : (s : InitiatorState) (first : Option Note) (drop : Option ℕ) (t : Turn) → Takes first → IsTold s first drop t → Tells t
as_told s first drop t h k =
    let more = notes_of s.number drop k.op k.state k.stuck in
    subst (λ told. InRanks 0 told 10) (sym k.sides)
    (own_rises (block_notes first ++ more) 0 10 (rises_both note_rank (block_notes first) more 0 10 10 h (notes_work s.number drop k.op k.state k.stuck)))

pub expire_in_ranks : (ready : Bool) (i : ℕ) (s : InitiatorState) → IsCalled ready i s → (label : LabelParts) → InRanks 0 (expire_step label empty_outbox s).1.0.sides 10
expire_in_ranks ready i s h label = as_told s None None (expire_step label empty_outbox s).1 no_block (expire_told ready i s h label)

module _ (s : InitiatorState) where
  taken_first : (found : Option TicketParts) (kind : StatusKind) (lists : ListState) → Takes (taken_of found kind lists s.number)
  taken_first None kind lists = at_ten
  taken_first (Some t) kind lists = (omega arith, omega arith)

  kind_first : (kind : StatusKind) (block : StatusBlock) → Takes (taken_by kind block s)
  kind_first (kinds.Management code) block = at_ten
  kind_first kind block = taken_first (waiting_at s.lists.slots.slots (slot_of block.orb)) kind (take_lists s.lists block).1

  brought_first : (b : Brought) → Takes (block_note b s)
  brought_first nothing = at_ten
  brought_first unsolicited = (omega arith, omega arith)
  brought_first (status block) = kind_first block.kind block

  found_first : (f : Finding Purpose) → Takes (finding_note f s)
  found_first (of_request p) = brought_first (brought p s)
  found_first of_generation = at_ten
  found_first of_grammar = at_ten
  found_first of_label = at_ten
  found_first (of_response p label purpose) = at_ten
  found_first (of_again p rcode) = at_ten

pub hears_in_ranks : (ready : Bool) (i : ℕ) (s : InitiatorState) → IsCalled ready i s → (generation : ℕ) (bytes : List ℕ) → InRanks 0 (receive_step generation bytes empty_outbox s).1.0.sides 10
hears_in_ranks ready i s h generation bytes =
    let finding = (judging_step s.layer generation bytes).0 in
    as_told s (finding_note finding s) _ (receive_step generation bytes empty_outbox s).1 (found_first s finding) (receive_told ready i s h generation bytes)

-- ---- a sight
abbrev Ended : OutboxState → Type 0
Ended o = InRanks 0 o.sides 10

reset_ends : (number : ℕ) (operation : Operation) (o : OutboxState) → Ended o → Ended (reset_told number operation o)
reset_ends number operation o h = rises_more side_rank o.sides (sides.Own (notes.Op number operation words.Reset)) 0 10 h (same_rank 10)

drop_ends : (r : Option ℕ × ListState) (o : OutboxState) (s : InitiatorState) → Ended o → Tells (dropped_as r o s)
drop_ends (None, lists) o s h = h
drop_ends (Some n, lists) o s h = rises_more side_rank o.sides (sides.Own (notes.Drop s.number n)) 0 10 h (same_rank 10)

sees_by : (r : Bool × Layer Purpose) (target : ℕ) (s : InitiatorState) → Tells (seen_as r target empty_outbox s)
sees_by (false, layer) target s = at_ten
sees_by (true, layer) target s =
    let u = record s { layer = layer } in
    let o = resets_told u.number u.operation u.states empty_outbox in
    drop_ends (drop_lists (interrupted u target).lists) o (interrupted u target) (resets_keep u.number Ended (reset_ends u.number) u.operation u.states empty_outbox at_ten)

pub sees_in_ranks : (generation id target : ℕ) (s : InitiatorState) → InRanks 0 (see_step generation id target empty_outbox s).0.sides 10
unfolding see_step
sees_in_ranks generation id target s = sees_by (seeing_step s.layer generation id) target s
