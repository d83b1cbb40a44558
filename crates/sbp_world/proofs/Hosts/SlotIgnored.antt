-- An initiator ignores no read for its slot, nor as one that comes again: only writes. And of the target's requests it ignores for their source, for a login and for their grammar those alone that write to a FIFO.
use Rattle.sbp_world.proofs.Words.Std.{arith, ◌≡◌, refl, sym, ◌∙◌, ap, ℕ, suc, ◌≤◌, ◌==◌, ◌&&◌, ◌||◌, not, Bool, true, false, List, [], ◌∷◌, ◌++◌, Option, Some, None, Result, Ok, Err, nat_tests, false≢true}
use Rattle.sbp_world.proofs.Words.Wire.{Packet, header_in, reading, PacketFault, Row, by_again, by_generation, by_grammar, by_label, by_request, by_response, row_of, facts_of, Access, access_of, empty_outbox, first_or, ignored_as, serving, telling, Moment, asked, said, Sending, terms, Cause, Judged, Note, Side, judged_note}
use Rattle.sbp_world.proofs.Words.Initiator.{InitiatorState, receive_step, is_step, facts_at, fifo_for, is_open, judging_by, note_by, note_of}
use Rattle.initiator_base.specs.declared.fifos.Fifo.{Fifo}
use Rattle.label_table.specs.Layer.{facts_in}
use Rattle.sbp_initiator.specs.Histories.Judging.{is_closed}
use Rattle.sbp_journal.specs.Rows.{RequestFacts}
use Rattle.sbp_journal.specs.Transactions.{is_to, is_to_by}
use Rattle.sbp_session.specs.Seats.{is_out_seat}
use Rattle.sbp_world.proofs.Words.Laws.{is_effect}
use Rattle.sbp_world.proofs.Words.World.{behind}
use Rattle.sbp_journal.specs.declared.cause.Cause.TheVariants as causes
use Rattle.sbp_journal.specs.declared.cause.Judged.TheVariants as judgements
use Rattle.sbp_journal.specs.declared.note.Note.TheVariants as notes
use Rattle.sbp_journal.specs.declared.side.Side.TheVariants as sides
use Rattle.sbp_world.proofs.Wire.Effects.{AreEffectSides, IsEffectSide}
use Rattle.sbp_world.proofs.Wire.OwnActs.{AreStepSides, IsStepSide}
use Rattle.sbp_initiator.proofs.Histories.Judging.{judging_law}
use Rattle.sbp_world.specs.Hosts.Calls.{by_side}
use Rattle.sbp_world.proofs.Hosts.ByteHears.{fifo_high}
use Rattle.sbp_world.proofs.Hosts.MemoryRcodes.{and_true}
use Rattle.sbp_world.proofs.Hosts.Shown.{IsElsewhere, IsHeard, IsShown}

-- ---- what an initiator ignores for its slot

status_writes : (lock write block wide : Bool) → (not lock && write) && block && wide ≡ true → write ≡ true
status_writes lock true block wide e = refl
status_writes true false block wide e = absurd (differ e)
  where
    differ : false ≡ true → ⊥
    differ e = cc
status_writes false false block wide e = absurd (differ e)
  where
    differ : false ≡ true → ⊥
    differ e = cc

-- of the rows of a request the last one says so
pub last_row : (a b c d e : Bool) → note_of (first_or serving ((a, ignored_as causes.Source 7) ∷ (b, ignored_as causes.Login 7) ∷ (c, telling) ∷ (d, ignored_as causes.Grammar 5) ∷ (e, ignored_as causes.Slot 0) ∷ [])) ≡ judgements.Ignored causes.Slot → e ≡ true
last_row true b c d e f = cc
last_row false true c d e f = cc
last_row false false true d e f = cc
last_row false false false true e f = cc
last_row false false false false true f = refl
last_row false false false false false f = cc

access_writes : (access : Access) (source : ℕ) (s : InitiatorState) → note_of (judging_by (Some access) source s) ≡ judgements.Ignored causes.Slot → access.is_write ≡ true
access_writes access source s e =
    let f = facts_at (fifo_for access s) access source s in
    let last : (f.is_status && not f.is_awaited) ≡ true = last_row (f.to_initiator && not f.reads_rom && not f.of_target) (f.of_other_login || f.to_closed_fifo) (f.is_status && f.is_unsolicited) (f.is_status && not f.is_read) (f.is_status && not f.is_awaited) e in
    status_writes access.is_lock access.is_write access.is_block (is_open (fifo_for access s)) (and_true f.is_status (not f.is_awaited) last)

abbrev IfRequest : Result Packet PacketFault → Type 0
IfRequest read = (p : Packet) → read ≡ Ok p → (access : Access) → access_of p ≡ Some access → access.is_write ≡ true

by_row : (row : Row) (read : Result Packet PacketFault) (s : InitiatorState) → note_by row read s ≡ judgements.Ignored causes.Slot → IfRequest read
by_row by_generation read s e p is access asks = cc
by_row by_grammar read s e p is access asks = cc
by_row by_label read s e p is access asks = cc
by_row by_response read s e p is access asks = cc
by_row by_again read s e p is access asks = cc
by_row by_request (Err fault) s e p is access asks = cc
by_row by_request (Ok q) s e p is access asks =
    let same : q ≡ p = cc in
    let found : access_of q ≡ Some access = ap access_of same ∙ asks in
    access_writes access (header_in q).source s (ap (λ o. note_of (judging_by o (header_in q).source s)) (sym found) ∙ e)

slot_writes : (generation : ℕ) (bytes : List ℕ) (s : InitiatorState) → (receive_step generation bytes empty_outbox s).0 ≡ judgements.Ignored causes.Slot → IfRequest (reading bytes)
slot_writes generation bytes s e =
    by_row (row_of (facts_of s.layer generation bytes)) (reading bytes) s (sym (judging_law.noted generation bytes empty_outbox s) ∙ e)

-- ---- what it refuses of the target

-- causes for which a node ignores a request, and answers it
abbrev pub is_refusal : Cause → Bool
is_refusal causes.Source = true
is_refusal causes.Login = true
is_refusal causes.Grammar = true
is_refusal causes.Slot = true
is_refusal _ = false

-- a write to a FIFO, which is behind the buffers of the slots
pub record IsFifoWrite (access : Access) : Type 0 where
  pub write : access.is_write ≡ true
  pub high : 0x1200_2000 ≤ access.offset

closed_some : (found : Option Fifo) → is_closed found ≡ true → (f : Fifo) × (found ≡ Some f)
closed_some None e = absurd (false≢true e)
closed_some (Some f) e = (f, refl)

open_some : (found : Option Fifo) → is_open found ≡ true → (f : Fifo) × (found ≡ Some f)
open_some None e = absurd (false≢true e)
open_some (Some f) e = (f, refl)

all_parts : (lock write rest : Bool) → (not lock && write) && rest ≡ true → (write ≡ true) × (rest ≡ true)
all_parts false true true e = (refl, refl)
all_parts false true false e = absurd (false≢true e)
all_parts false false rest e = absurd (false≢true e)
all_parts true write rest e = absurd (false≢true e)

status_parts : (lock write block wide : Bool) → (not lock && write) && block && wide ≡ true → (write ≡ true) × (wide ≡ true)
status_parts false true true true e = (refl, refl)
status_parts false true true false e = absurd (false≢true e)
status_parts false true false wide e = absurd (false≢true e)
status_parts false false block wide e = absurd (false≢true e)
status_parts true write block wide e = absurd (false≢true e)

-- the row for which it is ignored
data Refused (a b d e : Bool) : Type 0 where
  of_source : a ≡ true → Refused a b d e
  of_closed : b ≡ true → Refused a b d e
  of_read : d ≡ true → Refused a b d e
  of_awaited : e ≡ true → Refused a b d e

refused_row : (a b c d e : Bool) (cause : Cause) → note_of (first_or serving ((a, ignored_as causes.Source 7) ∷ (b, ignored_as causes.Login 7) ∷ (c, telling) ∷ (d, ignored_as causes.Grammar 5) ∷ (e, ignored_as causes.Slot 0) ∷ [])) ≡ judgements.Ignored cause → Refused a b d e
refused_row true b c d e cause f = of_source refl
refused_row false true c d e cause f = of_closed refl
refused_row false false true d e cause f = absurd (let no : judgements.Got ≡ judgements.Ignored cause = f in cc)
refused_row false false false true e cause f = of_read refl
refused_row false false false false true cause f = of_awaited refl
refused_row false false false false false cause f = absurd (let no : judgements.Got ≡ judgements.Ignored cause = f in cc)

-- a request of the target
access_refused : (access : Access) (source : ℕ) (s : InitiatorState) (cause : Cause) → source ≡ s.target → note_of (judging_by (Some access) source s) ≡ judgements.Ignored cause → IsFifoWrite access
access_refused access source s cause of_it e = by (refused_row (f.to_initiator && not f.reads_rom && not f.of_target) (f.of_other_login || f.to_closed_fifo) (f.is_status && f.is_unsolicited) (f.is_status && not f.is_read) (f.is_status && not f.is_awaited) cause e)
  where
    found : Option Fifo
    found = fifo_for access s

    f : RequestFacts
    f = facts_at found access source s

    high : (found_so : (g : Fifo) × (found ≡ Some g)) → 0x1200_2000 ≤ access.offset
    high x = fifo_high s.counts.logins (is_out_seat s.seat) access.offset x.0 x.1

    status : f.is_status ≡ true → IsFifoWrite access
    status g = let x = status_parts access.is_lock access.is_write access.is_block (is_open found) g in record { write = x.0; high = high (open_some found x.1) }

    by : Refused (f.to_initiator && not f.reads_rom && not f.of_target) (f.of_other_login || f.to_closed_fifo) (f.is_status && not f.is_read) (f.is_status && not f.is_awaited) → IsFifoWrite access
    by (of_source g) = absurd (no_source f.reads_rom f.of_target (let same : f.of_target ≡ true = grind (arith, nat_tests, of_it) in same) g)
      where
        no_source : (rom target : Bool) → target ≡ true → true && not rom && not target ≡ true → ⊥
        no_source true target h g = false≢true g
        no_source false true h g = false≢true g
        no_source false false h g = false≢true h
    by (of_closed g) = let x = all_parts access.is_lock access.is_write (is_closed found) g in record { write = x.0; high = high (closed_some found x.1) }
    by (of_read g) = status (and_true f.is_status (not f.is_read) g)
    by (of_awaited g) = status (and_true f.is_status (not f.is_awaited) g)

pub grammar_row : (c n r a e : Bool) → row_of (record { is_current = c; is_for_node = n; is_response = r; is_awaited = a; is_repeated = e }) ≡ by_grammar → (c ≡ true) × (n ≡ false)
grammar_row false n r a e g = cc
grammar_row true false r a e g = (refl, refl)
grammar_row true true true false e g = cc
grammar_row true true true true e g = cc
grammar_row true true false a true g = cc
grammar_row true true false a false g = cc

pub current_row : (c n r a e : Bool) → row_of (record { is_current = c; is_for_node = n; is_response = r; is_awaited = a; is_repeated = e }) ≡ by_request → c ≡ true
current_row false n r a e g = cc
current_row true n r a e g = refl

module _ (generation : ℕ) (bytes : List ℕ) (s : InitiatorState) (p : Packet) (read : reading bytes ≡ Ok p) (access : Access) (asks : access_of p ≡ Some access) (source : generation ≡ s.layer.generation → (header_in p).source ≡ s.target) (goes : generation ≡ s.layer.generation → (header_in p).destination ≡ s.layer.node) where
  of_row : (row : Row) → row_of (facts_of s.layer generation bytes) ≡ row → (cause : Cause) → is_refusal cause ≡ true → note_by row (reading bytes) s ≡ judgements.Ignored cause → IsFifoWrite access
  of_row by_generation e cause r n = absurd (false≢true (ap is_refusal (let same : causes.Generation ≡ cause = cc in same) ∙ r))
  of_row by_label e cause r n = absurd (false≢true (ap is_refusal (let same : causes.Label ≡ cause = cc in same) ∙ r))
  of_row by_again e cause r n = absurd (false≢true (ap is_refusal (let same : causes.Again ≡ cause = cc in same) ∙ r))
  of_row by_response e cause r n = absurd (let no : judgements.Got ≡ judgements.Ignored cause = n in cc)
  of_row by_grammar e cause r n =
      let f = facts_in s.layer generation bytes (Ok p) in
      let row = grammar_row f.is_current f.is_for_node f.is_response f.is_awaited f.is_repeated (sym (ap (λ x. row_of (facts_in s.layer generation bytes x)) read) ∙ e) in
      let current : generation ≡ s.layer.generation = (let c : (generation == s.layer.generation) ≡ true = row.0 in grind (arith, nat_tests)) in
      let there = goes current in
      absurd (false≢true (sym row.1 ∙ (let z : ((header_in p).destination == s.layer.node) ≡ true = grind (arith, nat_tests, there) in z)))
  of_row by_request e cause r n =
      let f = facts_in s.layer generation bytes (Ok p) in
      let current : generation ≡ s.layer.generation = (let c : (generation == s.layer.generation) ≡ true = current_row f.is_current f.is_for_node f.is_response f.is_awaited f.is_repeated (sym (ap (λ x. row_of (facts_in s.layer generation bytes x)) read) ∙ e) in grind (arith, nat_tests)) in
      access_refused access (header_in p).source s cause (source current)
      (ap (λ o. note_of (judging_by o (header_in p).source s)) (sym asks) ∙ (sym (ap (λ x. note_by by_request x s) read) ∙ n))

  refused_writes : (cause : Cause) → is_refusal cause ≡ true → (receive_step generation bytes empty_outbox s).0 ≡ judgements.Ignored cause → IsFifoWrite access
  refused_writes cause r e = of_row (row_of (facts_of s.layer generation bytes)) refl cause r (sym (judging_law.noted generation bytes empty_outbox s) ∙ e)

-- ---- a history

-- the packet of a serial writes to a FIFO, where it is a request of the target to an initiator
abbrev pub IsFifoWriteTo : List Moment → (i serial : ℕ) → Type 0
IsFifoWriteTo past i serial = (packet : Sending) → (terms past).sent serial ≡ Some packet → packet.to ≡ suc i → packet.from ≡ 0 → packet.injected ≡ false → (p : Packet) → reading packet.bytes ≡ Ok p → (access : Access) → access_of p ≡ Some access → IsFifoWrite access

-- the packet of a serial is a write, where it is a request to an initiator
abbrev pub IsWriteTo : List Moment → (i serial : ℕ) → Type 0
IsWriteTo past i serial = (packet : Sending) → (terms past).sent serial ≡ Some packet → packet.to ≡ suc i → IfRequest (reading packet.bytes)

-- an initiator ignored no other packet for its slot, and refused no other one of the target
abbrev pub Refuses : List Moment → (i serial : ℕ) → Cause → Type 0
Refuses past i serial cause = (cause ≡ causes.Slot → IsWriteTo past i serial) × (is_refusal cause ≡ true → IsFifoWriteTo past i serial)

abbrev pub AllWrites : List Moment → ℕ → Type 0
AllWrites [] i = Unit {0}
AllWrites (said (notes.Ignored serial cause) ∷ past) i = Refuses past i serial cause × AllWrites past i
AllWrites (_ ∷ past) i = AllWrites past i

pub refuses_there : (later past : List Moment) (i serial : ℕ) (cause : Cause) → AllWrites (later ++ said (notes.Ignored serial cause) ∷ past) i → Refuses past i serial cause
refuses_there [] past i serial cause h = h.0
refuses_there (said (notes.Ignored other reason) ∷ later) past i serial cause h = refuses_there later past i serial cause h.1
refuses_there (said note ∷ later) past i serial cause h = refuses_there later past i serial cause h
refuses_there (asked line event ∷ later) past i serial cause h = refuses_there later past i serial cause h

pub writes_there : (later past : List Moment) (i serial : ℕ) → AllWrites (later ++ said (notes.Ignored serial causes.Slot) ∷ past) i → IsWriteTo past i serial
writes_there later past i serial h = (refuses_there later past i serial causes.Slot h).0 refl

-- ---- one more note

abbrev is_ignored : Note → Bool
is_ignored (notes.Ignored serial cause) = true
is_ignored _ = false

quiet_writes : (note : Note) (past : List Moment) (i : ℕ) → is_ignored note ≡ false → AllWrites past i → AllWrites (said note ∷ past) i
quiet_writes (notes.Ignored serial cause) past i e h = absurd (differ e)
  where
    differ : true ≡ false → ⊥
    differ e = cc
quiet_writes note past i e h = h

effect_quiet : (note : Note) → is_effect note ≡ true → is_ignored note ≡ false
effect_quiet (notes.Ignored serial cause) e = absurd (differ e)
  where
    differ : false ≡ true → ⊥
    differ e = cc
effect_quiet note e = refl

step_quiet : (note : Note) → is_step note ≡ true → is_ignored note ≡ false
step_quiet (notes.Ignored serial cause) e = absurd (differ e)
  where
    differ : false ≡ true → ⊥
    differ e = cc
step_quiet note e = refl

pub not_there : (to i : ℕ) → (to == suc i) ≡ false → to ≡ suc i → ⊥
not_there to i e f = grind (arith, nat_tests)

-- a note of another one
pub apart_writes : (note : Note) (past : List Moment) (i : ℕ) → IsElsewhere past i note → AllWrites past i → AllWrites (said note ∷ past) i
apart_writes (notes.Ignored serial cause) past i away h = (
  (
    (λ slot packet was to. absurd (not_there packet.to i (away packet was) to)),
    λ refusal packet was to. absurd (not_there packet.to i (away packet was) to),
  ),
  h,
)
apart_writes note past i away h = h

-- what is told in a call
one_effect : (side : Side) (past : List Moment) (i : ℕ) → IsEffectSide side → AllWrites past i → AllWrites (by_side side past) i
one_effect (sides.Own note) past i e h = quiet_writes note past i (effect_quiet note e) h
one_effect side past i e h = h

pub effects_writes : (told : List Side) (past : List Moment) (i : ℕ) → AreEffectSides told → AllWrites past i → AllWrites (behind told past) i
effects_writes [] past i e h = h
effects_writes (side ∷ told) past i e h = effects_writes told (by_side side past) i e.1 (one_effect side past i e.0 h)

one_step : (side : Side) (past : List Moment) (i : ℕ) → IsStepSide side → AllWrites past i → AllWrites (by_side side past) i
one_step (sides.Own note) past i e h = quiet_writes note past i (step_quiet note e) h
one_step side past i e h = h

pub steps_writes : (told : List Side) (past : List Moment) (i : ℕ) → AreStepSides told → AllWrites past i → AllWrites (behind told past) i
steps_writes [] past i e h = h
steps_writes (side ∷ told) past i e h = steps_writes told (by_side side past) i e.1 (one_step side past i e.0 h)

-- ---- a packet that is heard

pub goes_to : (bytes : List ℕ) (p : Packet) (id : ℕ) → reading bytes ≡ Ok p → is_to bytes id ≡ true → (header_in p).destination ≡ id
unfolding is_to
goes_to bytes p id read e = let z : ((header_in p).destination == id) ≡ true = sym (ap (λ x. is_to_by x id) read) ∙ e in grind (arith, nat_tests)

pub some_bytes : (found : Option Sending) (one other : Sending) → found ≡ Some one → found ≡ Some other → one.bytes ≡ other.bytes
some_bytes found one other e f =
    let same : one ≡ other = cc in
    ap (λ (q : Sending). q.bytes) same

pub heard_writes : (serial generation : ℕ) (bytes : List ℕ) (past : List Moment) (i : ℕ) (s : InitiatorState) → IsHeard past i serial generation bytes → IsShown past i s.target s.layer → AllWrites past i → AllWrites (said (judged_note serial (receive_step generation bytes empty_outbox s).0) ∷ past) i
heard_writes serial generation bytes past i s heard shown h = by_judged (receive_step generation bytes empty_outbox s).0 refl
  where
    same_bytes : (packet : Sending) → (terms past).sent serial ≡ Some packet → bytes ≡ packet.bytes
    same_bytes packet was = sym heard.bytes_are ∙ sym (some_bytes ((terms past).sent serial) packet heard.packet was heard.sent)

    refusal : (cause : Cause) → (receive_step generation bytes empty_outbox s).0 ≡ judgements.Ignored cause → is_refusal cause ≡ true → IsFifoWriteTo past i serial
    refusal cause e refuses packet was to from unforged p read access asks =
        let one : heard.packet ≡ packet = (let both = sym heard.sent ∙ was in cc) in
        let spelled : reading heard.packet.bytes ≡ Ok p = ap (λ (q : Sending). reading q.bytes) one ∙ read in
        let sender : heard.packet.from ≡ 0 = ap (λ (q : Sending). q.from) one ∙ from in
        refused_writes generation bytes s p (ap reading (same_bytes packet was) ∙ read) access asks
        (λ current.
        let now : heard.packet.generation ≡ s.layer.generation = heard.generation_is ∙ current in
        heard.source p spelled ∙ (ap (λ g. (terms past).ids g heard.packet.from) now ∙ (ap ((terms past).ids s.layer.generation) sender ∙ shown.named)))
        (λ current.
        let now : heard.packet.generation ≡ s.layer.generation = heard.generation_is ∙ current in
        goes_to heard.packet.bytes p ((terms past).ids heard.packet.generation heard.packet.to) spelled (heard.goes (ap (λ (q : Sending). q.injected) one ∙ unforged))
        ∙ (ap (λ g. (terms past).ids g heard.packet.to) now ∙ (ap ((terms past).ids s.layer.generation) heard.to_is ∙ shown.own)))
        cause refuses e

    by_judged : (judged : Judged) → (receive_step generation bytes empty_outbox s).0 ≡ judged → AllWrites (said (judged_note serial judged) ∷ past) i
    by_judged judgements.Got e = h
    by_judged (judgements.Ignored cause) e = (
      (
        (λ slot packet was to p read access asks. slot_writes generation bytes s (e ∙ ap (λ c. judgements.Ignored c) slot) p (ap reading (same_bytes packet was) ∙ read) access asks),
        refusal cause e,
      ),
      h,
    )
