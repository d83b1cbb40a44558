-- Each call keeps what ties the manager to the notes, and its notes are lawful.
use Rattle.std.specs.Prelude.{◌≡◌, ℕ, suc, ◌+◌, ◌*◌, ◌^◌, ◌<◌, ◌==◌, ◌&&◌, ◌||◌, not, Bool, true, false, cond, List, [], ◌∷◌, length, Option, Some, None, refl}
use Rattle.std.proofs.Common.{arith, ap, sym, ◌∙◌, subst}
use Rattle.std.proofs.lemmas.Bool.Decides.{nat_tests}
use Rattle.std.proofs.lemmas.List.{take_all}
use Rattle.sbp_base.specs.Quadlets.{quad}
use Rattle.orb_layout.specs.declared.management.ManagementOrb.{ManagementOrb}
use Rattle.orb_layout.specs.declared.ask.FailCause.{FailCause}
use Rattle.orb_layout.specs.declared.ask.FailCause.TheVariants as causes
use Rattle.orb_layout.specs.ManagementOrbs.{management_orb}
use Rattle.login_table.specs.Table.{Table}
use Rattle.mgmt_agent.specs.declared.status.Status.{Status}
use Rattle.mgmt_agent.specs.declared.status.Status.TheVariants as statuses
use Rattle.mgmt_agent.specs.declared.decision.Outcome.{Outcome}
use Rattle.mgmt_agent.specs.declared.decision.ManagerStep.{ManagerStep}
use Rattle.mgmt_agent.specs.declared.operation.Operation.{Operation}
use Rattle.mgmt_agent.specs.declared.operation.Phase.{Phase}
use Rattle.mgmt_agent.specs.declared.operation.Phase.TheVariants as phases
use Rattle.mgmt_agent.specs.Statuses.{number_of}
use Rattle.mgmt_agent.specs.Statuses.{function_of}
use Rattle.mgmt_agent.specs.Decisions.{decide, known_wants_eui, reads_eui}
use Rattle.orb_layout.specs.Replies.{Answer, Payload, Done, Refused, Expired, NoLabel, payload_of, write_failure}
use Rattle.mgmt_agent.specs.Machine.{Machine, start_step, reply_step, reply_in, decide_step, decided_as, cut_response, status_block, orb_read, high_eui_at, low_eui_at, orb_got, high_got, low_got, beside, response_written, status_written}
use Rattle.mgmt_agent.specs.Laws.{Call, start, reply, clear, Note, reads, writes, got, decided, request, no_request, a_read, a_write, is_asked, Request, failed, note_step, note_reply, note_ask, note_decided, note_answer, note_start, after, noted, manager_after, notes_of, under_way, source_of, address_of, gots, decisions, written, orb_in, eui_in, outcome_on, outcome_of, response_after, reads_for, reads_known, read_at, write_at, writes_for, Lawful, OperationLaw}
use Rattle.mgmt_agent.proofs.Outcomes.{decide_fit, cut_speaks}

-- what was read so far of an operation that is not decided
record Reading (read : List (List ℕ)) (notes : List Note) : Type 0 where
  undecided : decisions notes ≡ 0
  unwritten : written notes ≡ 0
  gots_are : gots notes ≡ read

record High (orb : ManagementOrb) (notes : List Note) : Type 0 where
  bytes : List ℕ
  reading : Reading (bytes ∷ []) notes
  orb_is : management_orb bytes ≡ orb
  wanted : reads_eui orb ≡ true

record Low (orb : ManagementOrb) (high : ℕ) (notes : List Note) : Type 0 where
  bytes : List ℕ
  first : List ℕ
  reading : Reading (first ∷ bytes ∷ []) notes
  orb_is : management_orb bytes ≡ orb
  high_is : quad first 0 ≡ high
  wanted : reads_eui orb ≡ true

record Responding (fifo : ℕ) (notes : List Note) : Type 0 where
  once : decisions notes ≡ 1
  one : written notes ≡ 1
  fifo_is : (orb_in (gots notes)).fifo ≡ fifo
  good : (none : Outcome × Table) → (outcome_of notes none).0.status ≡ statuses.NoFault
  full : (none : Outcome × Table) → (length (response_after notes none) == 0) ≡ false

record Ending (notes : List Note) : Type 0 where
  once : decisions notes ≡ 1
  all : (none : Outcome × Table) → written notes ≡ writes_for notes none

abbrev InPhase : Phase → List Note → Type 0
InPhase phases.Orb notes = Reading [] notes
InPhase (phases.HighEui orb) notes = High orb notes
InPhase (phases.LowEui orb high) notes = Low orb high notes
InPhase (phases.Response fifo) notes = Responding fifo notes
InPhase phases.Status notes = Ending notes

-- the request that a phase waits for
abbrev request_of : Phase → Request
request_of phases.Orb = a_read 32
request_of (phases.HighEui orb) = a_read 4
request_of (phases.LowEui orb high) = a_read 4
request_of (phases.Response fifo) = a_write
request_of phases.Status = a_write

record Tied (operation : Operation) (notes : List Note) : Type 0 where
  under : under_way notes ≡ true
  asked : request notes ≡ request_of operation.phase
  source : source_of notes ≡ operation.source
  address : address_of notes ≡ operation.orb
  phase : InPhase operation.phase notes

abbrev TiedTo : Option Operation → List Note → Type 0
TiedTo None notes = under_way notes ≡ false
TiedTo (Some operation) notes = Tied operation notes

record Kept (operation : Option Operation) (notes : List Note) : Type 0 where
  tied : TiedTo operation notes
  lawful : Lawful notes

-- An operation fails or ends.
fail_kept : (cause : FailCause) (notes : List Note) → under_way notes ≡ true → is_asked (request notes) ≡ true → Lawful notes → Kept None (failed cause ∷ notes)
fail_kept cause notes u q l = record { tied = refl; lawful = (record { under = u; asked = q }, l) }

-- what a decision stands on
record Ready (notes : List Note) : Type 0 where
  under : under_way notes ≡ true
  alone : request notes ≡ no_request
  undecided : decisions notes ≡ 0
  unwritten : written notes ≡ 0
  read : length (gots notes) ≡ reads_for (orb_in (gots notes))
  lawful : Lawful notes

-- the operation that the notes tell of, in a phase
abbrev told_of : List Note → Phase → Operation
told_of notes phase = record { source = source_of notes; orb = address_of notes; phase = phase }

abbrev decided_from : Machine → Phase → Table → List (List ℕ) → List Note → ManagerStep × (Machine × Table)
decided_from m phase table keys notes = decided_as (outcome_on notes table keys) m (told_of notes phase) (orb_in (gots notes))

-- the note of a decision on what was read
abbrev decided_note : Table → List (List ℕ) → List Note → Note
decided_note table keys notes =
    decided table keys (record { function = (orb_in (gots notes)).function; subject = (orb_in (gots notes)).subject; status = number_of (outcome_on notes table keys).0.status; login = (outcome_on notes table keys).0.login }) (outcome_on notes table keys).0.effect (outcome_on notes table keys).1

decision_lawful : (table : Table) (keys : List (List ℕ)) (notes : List Note) → Ready notes → Lawful (decided_note table keys notes ∷ notes)
decision_lawful table keys notes r = (record { under = r.under; alone = r.alone; first = r.undecided; unwritten = r.unwritten; read = r.read; decision_is = refl; effect_is = refl; left_is = refl }, r.lawful)

-- Nothing of a response goes out: the status block is first.
first_status : (w : ℕ) (r : List ℕ) (x y : ℕ × List ℕ) → (length r == 0) ≡ true → y ≡ cond ((w == 0) && not (length r == 0)) x y
first_status w r x y e = grind arith

first_response : (w : ℕ) (r : List ℕ) (x y : ℕ × List ℕ) → w ≡ 0 → (length r == 0) ≡ false → x ≡ cond ((w == 0) && not (length r == 0)) x y
first_response w r x y z e = grind (arith, nat_tests)

second_status : (w : ℕ) (r : List ℕ) (x y : ℕ × List ℕ) → w ≡ 1 → y ≡ cond ((w == 0) && not (length r == 0)) x y
second_status w r x y z = grind (arith, nat_tests)

-- the response that goes out on what was read
abbrev cut_from : Table → List (List ℕ) → List Note → List ℕ
cut_from table keys notes = cut_response (orb_in (gots notes)) (outcome_on notes table keys).0 (outcome_on notes table keys).1

one_write : (r : List ℕ) → (length r == 0) ≡ true → ◌≡◌ {A = ℕ} 1 (cond (length r == 0) 1 2)
one_write r e = grind arith

first_write : (w : ℕ) (r : List ℕ) → w ≡ 0 → w < cond (length r == 0) 1 2
first_write w r e = grind arith

second_write : (w : ℕ) (r : List ℕ) → w ≡ 1 → (length r == 0) ≡ false → w < cond (length r == 0) 1 2
second_write w r e f = rw f (omega arith)

-- The functions that want the EUI-64, by their numbers.
wants_as : (n : ℕ) → known_wants_eui (function_of n) ≡ (n == 0x0 || n == 0x3)
wants_as n = grind (arith, nat_tests)

reads_as : (orb : ManagementOrb) → reads_eui orb ≡ (orb.format == 0 && (orb.function == 0x0 || orb.function == 0x3))
unfolding reads_eui
reads_as orb = ap (λ (b : Bool). orb.format == 0 && b) (wants_as orb.function)

one_read : (orb : ManagementOrb) → reads_eui orb ≡ false → reads_for orb ≡ 1
one_read orb e = rw (sym (reads_as orb) ∙ e) refl

three_reads : (orb : ManagementOrb) → reads_eui orb ≡ true → reads_for orb ≡ 3
three_reads orb e = rw (sym (reads_as orb) ∙ e) refl

two_writes : (r : List ℕ) → (length r == 0) ≡ false → ◌≡◌ {A = ℕ} 2 (cond (length r == 0) 1 2)
two_writes r e = grind arith

status_first : (m : Machine) (phase : Phase) (table : Table) (keys : List (List ℕ)) (notes : List Note) → Ready notes → (length (cut_from table keys notes) == 0) ≡ true
    → Kept (Some (told_of notes phases.Status)) (writes (orb_in (gots notes)).fifo (status_block (address_of notes) (outcome_on notes table keys).0.status) ∷ decided_note table keys notes ∷ notes)
status_first m phase table keys notes r e = record {
  tied = record {
    under = r.under;
    asked = refl;
    source = refl;
    address = refl;
    phase = record { once = ap suc r.undecided; all = λ none. ap suc r.unwritten ∙ one_write (cut_from table keys notes) e };
  };
  lawful = (record { under = r.under; alone = refl; decided_once = ap suc r.undecided; more = λ none. first_write (written notes) (cut_from table keys notes) r.unwritten; next = λ none. first_status (written notes) (cut_from table keys notes) _ _ e }, decision_lawful table keys notes r);
}

response_good : (table : Table) (keys : List (List ℕ)) (notes : List Note) → (length (cut_from table keys notes) == 0) ≡ false → (outcome_on notes table keys).0.status ≡ statuses.NoFault
response_good table keys notes e =
    let fit = decide_fit (orb_in (gots notes)) (source_of notes) (eui_in (gots notes)) table keys in
    fit.answered (cut_speaks (outcome_on notes table keys).0.response (outcome_on notes table keys).1.places (orb_in (gots notes)).response_length (λ z. grind (arith, nat_tests)))

response_first : (m : Machine) (phase : Phase) (table : Table) (keys : List (List ℕ)) (notes : List Note) → Ready notes → (length (cut_from table keys notes) == 0) ≡ false
    → Kept (Some (told_of notes (phases.Response (orb_in (gots notes)).fifo))) (writes (orb_in (gots notes)).second (cut_from table keys notes) ∷ decided_note table keys notes ∷ notes)
response_first m phase table keys notes r e = record {
  tied = record {
    under = r.under;
    asked = refl;
    source = refl;
    address = refl;
    phase = record { once = ap suc r.undecided; one = ap suc r.unwritten; fifo_is = refl; good = λ none. response_good table keys notes e; full = λ none. e };
  };
  lawful = (record { under = r.under; alone = refl; decided_once = ap suc r.undecided; more = λ none. first_write (written notes) (cut_from table keys notes) r.unwritten; next = λ none. first_response (written notes) (cut_from table keys notes) _ _ r.unwritten e }, decision_lawful table keys notes r);
}

-- what a decision makes of the manager and of the notes
abbrev KeptStep : ManagerStep × (Machine × Table) → Table → List (List ℕ) → List Note → Type 0
KeptStep s table keys notes = Kept s.1.0.operation (note_step s table keys Expired notes)

decided_by : (b : Bool) (m : Machine) (phase : Phase) (table : Table) (keys : List (List ℕ)) (notes : List Note) → Ready notes → (length (cut_from table keys notes) == 0) ≡ b → KeptStep (decided_from m phase table keys notes) table keys notes
decided_by true m phase table keys notes r e = rw e (status_first m phase table keys notes r e)
decided_by false m phase table keys notes r e =
    rw e (subst (λ (bytes : List ℕ). Kept (Some (told_of notes (phases.Response (orb_in (gots notes)).fifo))) (writes (orb_in (gots notes)).second bytes ∷ decided_note table keys notes ∷ notes)) (sym (take_all (length (cut_from table keys notes)) (cut_from table keys notes) (omega arith))) (response_first m phase table keys notes r e))

decided_kept : (m : Machine) (phase : Phase) (table : Table) (keys : List (List ℕ)) (notes : List Note) → Ready notes → KeptStep (decided_from m phase table keys notes) table keys notes
decided_kept m phase table keys notes r = decided_by _ m phase table keys notes r refl

-- the step that decides, of an operation and an ORB that are those of the notes
record Told (operation : Operation) (orb : ManagementOrb) (eui : ℕ) (notes : List Note) : Type 0 where
  source : source_of notes ≡ operation.source
  address : address_of notes ≡ operation.orb
  orb_is : orb_in (gots notes) ≡ orb
  eui_is : eui_in (gots notes) ≡ eui

abbrev decided_with : Machine → ℕ → ℕ → Phase → ManagementOrb → ℕ → Table → List (List ℕ) → ManagerStep × (Machine × Table)
decided_with m source address phase orb eui table keys = decided_as (decide orb source eui table keys) m (record { source = source; orb = address; phase = phase }) orb

decide_kept : (m : Machine) (operation : Operation) (orb : ManagementOrb) (eui : ℕ) (table : Table) (keys : List (List ℕ)) (notes : List Note) → Ready notes → Told operation orb eui notes → KeptStep (decide_step m operation orb eui table keys) table keys notes
unfolding decide_step
decide_kept m operation orb eui table keys notes r t =
    subst (λ (s : ℕ). KeptStep (decided_with m s operation.orb operation.phase orb eui table keys) table keys notes) t.source
    (subst (λ (a : ℕ). KeptStep (decided_with m (source_of notes) a operation.phase orb eui table keys) table keys notes) t.address
    (subst (λ (o : ManagementOrb). KeptStep (decided_with m (source_of notes) (address_of notes) operation.phase o eui table keys) table keys notes) t.orb_is
    (subst (λ (e : ℕ). KeptStep (decided_with m (source_of notes) (address_of notes) operation.phase (orb_in (gots notes)) e table keys) table keys notes) t.eui_is
    (decided_kept m operation.phase table keys notes r))))

-- the notes with one more payload
abbrev KeptReply : ManagerStep × (Machine × Table) → Table → List (List ℕ) → Answer → List Note → Type 0
KeptReply s table keys answer notes = Kept s.1.0.operation (note_step s table keys answer notes)

-- Where the EUI-64 is wanted more is to be read behind the ORB and its high quadlet.
known_three : (read : List (List ℕ)) (first : List ℕ) (before : List (List ℕ)) (orb : ManagementOrb) → read ≡ first ∷ before → orb_in read ≡ orb → reads_eui orb ≡ true → reads_known read ≡ 3
known_three read first before orb e f w =
    ap reads_known e ∙ ap (λ (r : List (List ℕ)). reads_for (orb_in r)) (sym e) ∙ ap reads_for f ∙ three_reads orb w

-- The ORB was read.
orb_by : (b : Bool) (m : Machine) (operation : Operation) (table : Table) (keys : List (List ℕ)) (bytes : List ℕ) (notes : List Note) → reads_eui (management_orb bytes) ≡ b → request notes ≡ a_read (length bytes) → Tied operation notes → Reading [] notes → Lawful notes
    → KeptStep (orb_read m operation (management_orb bytes) table keys) table keys (got bytes ∷ notes)
orb_by true m operation table keys bytes notes e g t r l =
    let read : gots (got bytes ∷ notes) ≡ bytes ∷ [] = ap (λ (g : List (List ℕ)). bytes ∷ g) r.gots_are in
    let more : length (gots (got bytes ∷ notes)) < reads_known (gots (got bytes ∷ notes)) = let n = known_three (gots (got bytes ∷ notes)) bytes [] (management_orb bytes) read (ap orb_in read) e in let size : length (gots (got bytes ∷ notes)) ≡ 1 = ap length read in omega arith in
    let k : Kept (Some (record operation { phase = phases.HighEui (management_orb bytes) })) (reads high_eui_at 4 ∷ got bytes ∷ notes) = record {
      tied = record { under = t.under; asked = refl; source = t.source; address = t.address; phase = record { bytes = bytes; reading = record { undecided = r.undecided; unwritten = r.unwritten; gots_are = read }; orb_is = refl; wanted = e } };
      lawful = (record { under = t.under; alone = refl; open_still = r.undecided; more = more; next = ap (λ (g : List (List ℕ)). read_at g (address_of notes)) (sym read) }, (record { under = t.under; own = g }, l));
    } in
    rw e k
orb_by false m operation table keys bytes notes e g t r l =
    let read : gots (got bytes ∷ notes) ≡ bytes ∷ [] = ap (λ (g : List (List ℕ)). bytes ∷ g) r.gots_are in
    let orb_is : orb_in (gots (got bytes ∷ notes)) ≡ management_orb bytes = ap orb_in read in
    let wants : reads_for (orb_in (gots (got bytes ∷ notes))) ≡ 1 = ap reads_for orb_is ∙ one_read (management_orb bytes) e in
    let ready : Ready (got bytes ∷ notes) = record { under = t.under; alone = refl; undecided = r.undecided; unwritten = r.unwritten; read = ap length read ∙ sym wants; lawful = (record { under = t.under; own = g }, l) } in
    let told : Told operation (management_orb bytes) 0 (got bytes ∷ notes) = record { source = t.source; address = t.address; orb_is = orb_is; eui_is = ap eui_in read } in
    rw e (decide_kept m operation (management_orb bytes) 0 table keys (got bytes ∷ notes) ready told)

-- A payload that was taken is noted before what comes of it.
noted_before : (s : ManagerStep × (Machine × Table)) (table : Table) (keys : List (List ℕ)) (bytes : List ℕ) (notes : List Note) → s.0.failed ≡ None → note_step s table keys Expired (got bytes ∷ notes) ≡ note_step s table keys (Payload bytes) notes
noted_before s table keys bytes notes e =
    ap (λ (f : Option FailCause). note_ask s.0.ask s.0.failed s.1.0.outgoing (note_decided s.0.decided s.0.effect table keys s.1.1 (note_answer (Payload bytes) f notes))) (sym e)

pub either_goes_on : (b : Bool) (x y : ManagerStep × Machine) → x.0.failed ≡ None → y.0.failed ≡ None → (cond b x y).0.failed ≡ None
either_goes_on true x y p q = p
either_goes_on false x y p q = q

decide_goes_on : (m : Machine) (operation : Operation) (orb : ManagementOrb) (eui : ℕ) (table : Table) (keys : List (List ℕ)) → (decide_step m operation orb eui table keys).0.failed ≡ None
unfolding decide_step
decide_goes_on m operation orb eui table keys = either_goes_on _ _ _ refl refl

pub either_read : (b : Bool) (x y : ManagerStep × (Machine × Table)) → x.0.failed ≡ None → y.0.failed ≡ None → (cond b x y).0.failed ≡ None
either_read true x y p q = p
either_read false x y p q = q

orb_goes_on : (m : Machine) (operation : Operation) (orb : ManagementOrb) (table : Table) (keys : List (List ℕ)) → (orb_read m operation orb table keys).0.failed ≡ None
orb_goes_on m operation orb table keys = either_read _ _ _ refl (decide_goes_on m operation orb 0 table keys)

taken : (s : ManagerStep × (Machine × Table)) (table : Table) (keys : List (List ℕ)) (bytes : List ℕ) (notes : List Note) → s.0.failed ≡ None → KeptStep s table keys (got bytes ∷ notes) → KeptReply s table keys (Payload bytes) notes
taken s table keys bytes notes e k = subst (λ (ns : List Note). Kept s.1.0.operation ns) (noted_before s table keys bytes notes e) k

own_size : (size : ℕ) (bytes : List ℕ) (notes : List Note) → request notes ≡ a_read size → (length bytes == size) ≡ true → request notes ≡ a_read (length bytes)
own_size size bytes notes q e = q ∙ ap a_read (let s : size ≡ length bytes = grind (arith, nat_tests) in s)

orb_sized : (b : Bool) (m : Machine) (operation : Operation) (table : Table) (keys : List (List ℕ)) (bytes : List ℕ) (notes : List Note) → (length bytes == 32) ≡ b → request notes ≡ a_read 32 → Tied operation notes → Reading [] notes → Lawful notes
    → KeptReply (orb_got (payload_of (Payload bytes) 32) m operation table keys) table keys (Payload bytes) notes
orb_sized true m operation table keys bytes notes e q t r l =
    rw e (taken (orb_read m operation (management_orb bytes) table keys) table keys bytes notes (orb_goes_on m operation (management_orb bytes) table keys) (orb_by _ m operation table keys bytes notes refl (own_size 32 bytes notes q e) t r l))
orb_sized false m operation table keys bytes notes e q t r l = rw e (fail_kept causes.Grammar notes t.under (ap is_asked q) l)

orb_kept : (answer : Answer) (m : Machine) (operation : Operation) (table : Table) (keys : List (List ℕ)) (notes : List Note) → request notes ≡ a_read 32 → Tied operation notes → Reading [] notes → Lawful notes
    → KeptReply (orb_got (payload_of answer 32) m operation table keys) table keys answer notes
orb_kept (Payload bytes) m operation table keys notes q t r l = orb_sized _ m operation table keys bytes notes refl q t r l
orb_kept Done m operation table keys notes q t r l = fail_kept causes.Grammar notes t.under (ap is_asked q) l
orb_kept (Refused rcode) m operation table keys notes q t r l = fail_kept causes.Refused notes t.under (ap is_asked q) l
orb_kept Expired m operation table keys notes q t r l = fail_kept causes.Timeout notes t.under (ap is_asked q) l
orb_kept NoLabel m operation table keys notes q t r l = fail_kept causes.Label notes t.under (ap is_asked q) l

-- The high quadlet was read.
high_taken : (m : Machine) (operation : Operation) (orb : ManagementOrb) (bytes : List ℕ) (notes : List Note) → request notes ≡ a_read (length bytes) → Tied operation notes → High orb notes → Lawful notes
    → Kept (Some (record operation { phase = phases.LowEui orb (quad bytes 0) })) (reads low_eui_at 4 ∷ got bytes ∷ notes)
high_taken m operation orb bytes notes g t r l =
    let read : gots (got bytes ∷ notes) ≡ bytes ∷ r.bytes ∷ [] = ap (λ (g : List (List ℕ)). bytes ∷ g) r.reading.gots_are in
    let n = known_three (gots (got bytes ∷ notes)) bytes (r.bytes ∷ []) orb read (ap orb_in read ∙ r.orb_is) r.wanted in
    let size : length (gots (got bytes ∷ notes)) ≡ 2 = ap length read in
    record {
      tied = record { under = t.under; asked = refl; source = t.source; address = t.address; phase = record { bytes = r.bytes; first = bytes; reading = record { undecided = r.reading.undecided; unwritten = r.reading.unwritten; gots_are = read }; orb_is = r.orb_is; high_is = refl; wanted = r.wanted } };
      lawful = (record { under = t.under; alone = refl; open_still = r.reading.undecided; more = omega arith; next = ap (λ (g : List (List ℕ)). read_at g (address_of notes)) (sym read) }, (record { under = t.under; own = g }, l));
    }

high_sized : (b : Bool) (m : Machine) (operation : Operation) (orb : ManagementOrb) (table : Table) (keys : List (List ℕ)) (bytes : List ℕ) (notes : List Note) → (length bytes == 4) ≡ b → request notes ≡ a_read 4 → Tied operation notes → High orb notes → Lawful notes
    → KeptReply (beside table (high_got (payload_of (Payload bytes) 4) m operation orb)) table keys (Payload bytes) notes
high_sized true m operation orb table keys bytes notes e q t r l = rw e (high_taken m operation orb bytes notes (own_size 4 bytes notes q e) t r l)
high_sized false m operation orb table keys bytes notes e q t r l = rw e (fail_kept causes.Grammar notes t.under (ap is_asked q) l)

high_kept : (answer : Answer) (m : Machine) (operation : Operation) (orb : ManagementOrb) (table : Table) (keys : List (List ℕ)) (notes : List Note) → request notes ≡ a_read 4 → Tied operation notes → High orb notes → Lawful notes
    → KeptReply (beside table (high_got (payload_of answer 4) m operation orb)) table keys answer notes
high_kept (Payload bytes) m operation orb table keys notes q t r l = high_sized _ m operation orb table keys bytes notes refl q t r l
high_kept Done m operation orb table keys notes q t r l = fail_kept causes.Grammar notes t.under (ap is_asked q) l
high_kept (Refused rcode) m operation orb table keys notes q t r l = fail_kept causes.Refused notes t.under (ap is_asked q) l
high_kept Expired m operation orb table keys notes q t r l = fail_kept causes.Timeout notes t.under (ap is_asked q) l
high_kept NoLabel m operation orb table keys notes q t r l = fail_kept causes.Label notes t.under (ap is_asked q) l

-- The low quadlet was read.
low_taken : (m : Machine) (operation : Operation) (orb : ManagementOrb) (high : ℕ) (table : Table) (keys : List (List ℕ)) (bytes : List ℕ) (notes : List Note) → request notes ≡ a_read (length bytes) → Tied operation notes → Low orb high notes → Lawful notes
    → KeptStep (decide_step m operation orb (high * 2 ^ 32 + quad bytes 0) table keys) table keys (got bytes ∷ notes)
low_taken m operation orb high table keys bytes notes g t r l =
    let read : gots (got bytes ∷ notes) ≡ bytes ∷ r.first ∷ r.bytes ∷ [] = ap (λ (g : List (List ℕ)). bytes ∷ g) r.reading.gots_are in
    let orb_is : orb_in (gots (got bytes ∷ notes)) ≡ orb = ap orb_in read ∙ r.orb_is in
    let wants : reads_for (orb_in (gots (got bytes ∷ notes))) ≡ 3 = ap reads_for orb_is ∙ three_reads orb r.wanted in
    let eui_is : eui_in (gots (got bytes ∷ notes)) ≡ high * 2 ^ 32 + quad bytes 0 = ap eui_in read ∙ ap (λ (h : ℕ). h * 2 ^ 32 + quad bytes 0) r.high_is in
    decide_kept m operation orb (high * 2 ^ 32 + quad bytes 0) table keys (got bytes ∷ notes)
    (record { under = t.under; alone = refl; undecided = r.reading.undecided; unwritten = r.reading.unwritten; read = ap length read ∙ sym wants; lawful = (record { under = t.under; own = g }, l) })
    (record { source = t.source; address = t.address; orb_is = orb_is; eui_is = eui_is })

low_sized : (b : Bool) (m : Machine) (operation : Operation) (orb : ManagementOrb) (high : ℕ) (table : Table) (keys : List (List ℕ)) (bytes : List ℕ) (notes : List Note) → (length bytes == 4) ≡ b → request notes ≡ a_read 4 → Tied operation notes → Low orb high notes → Lawful notes
    → KeptReply (low_got (payload_of (Payload bytes) 4) m operation orb high table keys) table keys (Payload bytes) notes
low_sized true m operation orb high table keys bytes notes e q t r l =
    rw e (taken (decide_step m operation orb (high * 2 ^ 32 + quad bytes 0) table keys) table keys bytes notes (decide_goes_on m operation orb (high * 2 ^ 32 + quad bytes 0) table keys) (low_taken m operation orb high table keys bytes notes (own_size 4 bytes notes q e) t r l))
low_sized false m operation orb high table keys bytes notes e q t r l = rw e (fail_kept causes.Grammar notes t.under (ap is_asked q) l)

low_kept : (answer : Answer) (m : Machine) (operation : Operation) (orb : ManagementOrb) (high : ℕ) (table : Table) (keys : List (List ℕ)) (notes : List Note) → request notes ≡ a_read 4 → Tied operation notes → Low orb high notes → Lawful notes
    → KeptReply (low_got (payload_of answer 4) m operation orb high table keys) table keys answer notes
low_kept (Payload bytes) m operation orb high table keys notes q t r l = low_sized _ m operation orb high table keys bytes notes refl q t r l
low_kept Done m operation orb high table keys notes q t r l = fail_kept causes.Grammar notes t.under (ap is_asked q) l
low_kept (Refused rcode) m operation orb high table keys notes q t r l = fail_kept causes.Refused notes t.under (ap is_asked q) l
low_kept Expired m operation orb high table keys notes q t r l = fail_kept causes.Timeout notes t.under (ap is_asked q) l
low_kept NoLabel m operation orb high table keys notes q t r l = fail_kept causes.Label notes t.under (ap is_asked q) l

-- The status block behind a response has status 00.
status_next : (operation : Operation) (fifo : ℕ) (notes : List Note) (none : Outcome × Table) → Tied operation notes → Responding fifo notes → (fifo, status_block operation.orb statuses.NoFault) ≡ write_at notes none
status_next operation fifo notes none t r =
    ap (λ (f : ℕ). (f, status_block operation.orb statuses.NoFault)) (sym r.fifo_is)
    ∙ ap (λ (a : ℕ). ((orb_in (gots notes)).fifo, status_block a statuses.NoFault)) (sym t.address)
    ∙ ap (λ (s : Status). ((orb_in (gots notes)).fifo, status_block (address_of notes) s)) (sym (r.good none))
    ∙ second_status (written notes) (response_after notes none) _ _ r.one

-- A payload for a write is grammar, and no payload that was asked for.
response_kept : (answer : Answer) (m : Machine) (operation : Operation) (fifo : ℕ) (table : Table) (keys : List (List ℕ)) (notes : List Note) → request notes ≡ a_write → Tied operation notes → Responding fifo notes → Lawful notes
    → KeptReply (beside table (response_written (write_failure answer) m operation fifo)) table keys answer notes
response_kept (Payload bytes) m operation fifo table keys notes q t r l = fail_kept causes.Grammar notes t.under (ap is_asked q) l
response_kept (Refused rcode) m operation fifo table keys notes q t r l = fail_kept causes.Refused notes t.under (ap is_asked q) l
response_kept Expired m operation fifo table keys notes q t r l = fail_kept causes.Timeout notes t.under (ap is_asked q) l
response_kept NoLabel m operation fifo table keys notes q t r l = fail_kept causes.Label notes t.under (ap is_asked q) l
response_kept Done m operation fifo table keys notes q t r l = record {
  tied = record { under = t.under; asked = refl; source = t.source; address = t.address; phase = record { once = r.once; all = λ none. ap suc r.one ∙ two_writes (response_after notes none) (r.full none) } };
  lawful = (record { under = t.under; alone = refl; decided_once = r.once; more = λ none. second_write (written notes) (response_after notes none) r.one (r.full none); next = λ none. status_next operation fifo notes none t r }, (record { under = t.under; own = q }, l));
}

status_kept : (answer : Answer) (m : Machine) (operation : Operation) (table : Table) (keys : List (List ℕ)) (notes : List Note) → request notes ≡ a_write → Tied operation notes → Ending notes → Lawful notes
    → KeptReply (beside table (status_written (write_failure answer) m)) table keys answer notes
status_kept (Payload bytes) m operation table keys notes q t r l = fail_kept causes.Grammar notes t.under (ap is_asked q) l
status_kept (Refused rcode) m operation table keys notes q t r l = fail_kept causes.Refused notes t.under (ap is_asked q) l
status_kept Expired m operation table keys notes q t r l = fail_kept causes.Timeout notes t.under (ap is_asked q) l
status_kept NoLabel m operation table keys notes q t r l = fail_kept causes.Label notes t.under (ap is_asked q) l
status_kept Done m operation table keys notes q t r l = record { tied = refl; lawful = (record { under = t.under; alone = refl; decided_once = r.once; written_all = r.all }, (record { under = t.under; own = q }, l)) }

phase_kept : (phase : Phase) (m : Machine) (operation : Operation) (table : Table) (keys : List (List ℕ)) (answer : Answer) (notes : List Note) → request notes ≡ request_of phase → Tied operation notes → InPhase phase notes → Lawful notes
    → KeptReply (reply_in phase m operation table keys answer) table keys answer notes
phase_kept phases.Orb m operation table keys answer notes q t p l = orb_kept answer m operation table keys notes q t p l
phase_kept (phases.HighEui orb) m operation table keys answer notes q t p l = high_kept answer m operation orb table keys notes q t p l
phase_kept (phases.LowEui orb high) m operation table keys answer notes q t p l = low_kept answer m operation orb high table keys notes q t p l
phase_kept (phases.Response fifo) m operation table keys answer notes q t p l = response_kept answer m operation fifo table keys notes q t p l
phase_kept phases.Status m operation table keys answer notes q t p l = status_kept answer m operation table keys notes q t p l

reply_kept : (o : Option Operation) (outgoing : List ℕ) (table : Table) (keys : List (List ℕ)) (answer : Answer) (notes : List Note) → Kept o notes
    → Kept (reply_step (record { operation = o; outgoing = outgoing }) table keys answer).1.0.operation (note_reply o (record { operation = o; outgoing = outgoing }) table keys answer notes)
unfolding reply_step
reply_kept None outgoing table keys answer notes k = k
reply_kept (Some operation) outgoing table keys answer notes k = phase_kept operation.phase (record { operation = Some operation; outgoing = outgoing }) operation table keys answer notes k.tied.asked k.tied k.tied.phase k.lawful

start_kept : (o : Option Operation) (outgoing : List ℕ) (source orb : ℕ) (notes : List Note) → Kept o notes
    → Kept (start_step (record { operation = o; outgoing = outgoing }) source orb).1.operation (note_start (start_step (record { operation = o; outgoing = outgoing }) source orb).0 source orb notes)
unfolding start_step
start_kept None outgoing source orb notes k = record {
  tied = record { under = refl; asked = refl; source = refl; address = refl; phase = record { undecided = refl; unwritten = refl; gots_are = refl } };
  lawful = (record { under = refl; alone = refl; open_still = refl; more = omega arith; next = refl }, (k.tied, k.lawful));
}
start_kept (Some operation) outgoing source orb notes k = k

call_kept : (call : Call) (m : Machine) (notes : List Note) → Kept m.operation notes → Kept (after call m).operation (noted call m notes)
call_kept (start source orb) m notes k = start_kept m.operation m.outgoing source orb notes k
call_kept (reply table keys answer) m notes k = reply_kept m.operation m.outgoing table keys answer notes k
call_kept clear m notes k = record { tied = refl; lawful = k.lawful }

all_kept : (calls : List Call) → Kept (manager_after calls).operation (notes_of calls)
all_kept [] = record { tied = refl; lawful = tt }
all_kept (call ∷ calls) = call_kept call (manager_after calls) (notes_of calls) (all_kept calls)

pub whole_operations : OperationLaw
whole_operations calls = (all_kept calls).lawful
