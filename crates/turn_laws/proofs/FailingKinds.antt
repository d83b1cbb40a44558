-- An answer that the management operation gets is one to what it asked for: a response is of the kind of its request, and the request is that of the phase.
use Rattle.std.proofs.Common.{◌≡◌, ◌∙◌, refl, sym, ap, subst, ℕ, ◌==◌, not, Bool, true, false, cond, List, length, Option, Some, None, Result, Ok, Err}
use Rattle.std.proofs.lemmas.Option.{same_Some}
use Rattle.async_packet.specs.declared.fault.PacketFault.{PacketFault}
use Rattle.async_packet.specs.Packet.{Packet, lock, lock_response, read_block, read_block_response, read_quadlet, read_quadlet_response, write_block, write_quadlet, write_response}
use Rattle.async_packet.specs.Reading.{reading}
use Rattle.bus_transactions.proofs.PacketParts.{part_fault, part_read}
use Rattle.mgmt_agent.specs.declared.operation.Operation.{Operation}
use Rattle.mgmt_agent.specs.declared.operation.Phase.{Phase}
use Rattle.mgmt_agent.specs.declared.operation.Phase.TheVariants as phases
use Rattle.mgmt_agent.specs.Machine.{read_size}
use Rattle.orb_layout.specs.Replies.{Answer, Done, Expired, NoLabel, Payload, Refused}
use Rattle.sbp_journal.specs.Addresses.{Access, access_of}
use Rattle.sbp_journal.specs.Transactions.{Kind, is_same_kind, locking, no_packet, part_in, part_of, reading_block, reading_quadlet, request, response, writing}
use Rattle.sbp_laws.specs.Packets.{access_in, access_in_bytes, answer_in, answer_of, spelled_by}
use Rattle.sbp_world.specs.Lists.Contents.{AccessOf}
use Rattle.turn_laws.proofs.FailingRows.{MayAnswer}
use Rattle.turn_laws.proofs.OwnAnswers.{kind_is, no_response}
use Rattle.sbp_world.proofs.Lists.WriteAnswers.{request_kind}
use Rattle.sbp_world.proofs.Lists.SentOwnedParts.{answers_none}

untrue : {A : Type 0} → true ≡ false → A
untrue e = absurd (let no : true ≡ false = e in cc)

-- ---- what a response tells, by its kind
abbrev pub AnswerOf : Kind → Answer → Type 0
AnswerOf writing Done = Unit {0}
AnswerOf writing (Refused rcode) = Unit {0}
AnswerOf writing answer = ⊥
AnswerOf reading_quadlet (Payload bytes) = Unit {0}
AnswerOf reading_quadlet (Refused rcode) = Unit {0}
AnswerOf reading_quadlet answer = ⊥
AnswerOf reading_block (Payload bytes) = Unit {0}
AnswerOf reading_block (Refused rcode) = Unit {0}
AnswerOf reading_block answer = ⊥
AnswerOf locking answer = Unit {0}

done_if : (b : Bool) (rcode : ℕ) → AnswerOf writing (cond b Done (Refused rcode))
done_if true rcode = tt
done_if false rcode = tt

quadlet_if : (b : Bool) (rcode : ℕ) (bytes : List ℕ) → AnswerOf reading_quadlet (cond b (Payload bytes) (Refused rcode))
quadlet_if true rcode bytes = tt
quadlet_if false rcode bytes = tt

block_if : (b : Bool) (rcode : ℕ) (bytes : List ℕ) → AnswerOf reading_block (cond b (Payload bytes) (Refused rcode))
block_if true rcode bytes = tt
block_if false rcode bytes = tt

answer_kind : (p : Packet) (label : ℕ) (kind : Kind) → part_in p ≡ response label kind → AnswerOf kind (answer_of p)
answer_kind (write_response header rcode) label kind e = subst (λ k. AnswerOf k (answer_of (write_response header rcode))) (kind_is _ label writing kind e) (done_if (rcode == 0) rcode)
answer_kind (read_quadlet_response header rcode value) label kind e = subst (λ k. AnswerOf k (answer_of (read_quadlet_response header rcode value))) (kind_is _ label reading_quadlet kind e) (quadlet_if (rcode == 0) rcode _)
answer_kind (read_block_response header rcode payload) label kind e = subst (λ k. AnswerOf k (answer_of (read_block_response header rcode payload))) (kind_is _ label reading_block kind e) (block_if (rcode == 0) rcode payload)
answer_kind (lock_response header rcode extended payload) label kind e = subst (λ k. AnswerOf k (answer_of (lock_response header rcode extended payload))) (kind_is _ label locking kind e) tt
answer_kind (write_quadlet header offset value) label kind e = no_response _ label _ kind e
answer_kind (write_block header offset payload) label kind e = no_response _ label _ kind e
answer_kind (read_quadlet header offset) label kind e = no_response _ label _ kind e
answer_kind (read_block header offset asked) label kind e = no_response _ label _ kind e
answer_kind (lock header offset extended payload) label kind e = no_response _ label _ kind e

pub answer_by : (bytes : List ℕ) (label : ℕ) (kind : Kind) → part_of bytes ≡ response label kind → AnswerOf kind (answer_in (spelled_by (reading bytes)))
answer_by bytes label kind e = by (reading bytes) refl
  where
    by : (r : Result Packet PacketFault) → reading bytes ≡ r → AnswerOf kind (answer_in (spelled_by r))
    by (Ok p) f = answer_kind p label kind (sym (part_read bytes p f) ∙ e)
    by (Err fault) f = absurd (let no : no_packet ≡ response label kind = sym (part_fault bytes fault f) ∙ e in cc)

-- ---- what a request asks for, by its kind
abbrev pub KindOf : Kind → Access → Type 0
KindOf writing a = a.is_write ≡ true
KindOf reading_quadlet a = a.is_write ≡ false
KindOf reading_block a = a.is_write ≡ false
KindOf locking a = (a.is_lock ≡ true) × (a.is_write ≡ false)

kind_of : (k kind : Kind) (a b : Access) → k ≡ kind → a ≡ b → KindOf k a → KindOf kind b
kind_of k kind a b e f h = subst (λ x. KindOf x b) e (subst (λ (y : Access). KindOf k y) f h)

access_kind : (p : Packet) (label : ℕ) (kind : Kind) (a : Access) → part_in p ≡ request label kind → access_of p ≡ Some a → KindOf kind a
access_kind (write_quadlet header offset value) label kind a e f = kind_of writing kind _ a (request_kind _ label writing kind e) (same_Some _ a f) refl
access_kind (write_block header offset payload) label kind a e f = kind_of writing kind _ a (request_kind _ label writing kind e) (same_Some _ a f) refl
access_kind (read_quadlet header offset) label kind a e f = kind_of reading_quadlet kind _ a (request_kind _ label reading_quadlet kind e) (same_Some _ a f) refl
access_kind (read_block header offset asked) label kind a e f = kind_of reading_block kind _ a (request_kind _ label reading_block kind e) (same_Some _ a f) refl
access_kind (lock header offset extended payload) label kind a e f = kind_of locking kind _ a (request_kind _ label locking kind e) (same_Some _ a f) (refl, refl)
access_kind (write_response header rcode) label kind a e f = answers_none _ label _ kind e
access_kind (read_quadlet_response header rcode value) label kind a e f = answers_none _ label _ kind e
access_kind (read_block_response header rcode payload) label kind a e f = answers_none _ label _ kind e
access_kind (lock_response header rcode extended payload) label kind a e f = answers_none _ label _ kind e

pub bytes_kind : (bytes : List ℕ) (label : ℕ) (kind : Kind) (a : Access) → part_of bytes ≡ request label kind → access_in_bytes bytes ≡ Some a → KindOf kind a
bytes_kind bytes label kind a e f = by (reading bytes) refl f
  where
    by : (r : Result Packet PacketFault) → reading bytes ≡ r → access_in (spelled_by r) ≡ Some a → KindOf kind a
    by (Ok p) g h = access_kind p label kind a (sym (part_read bytes p g) ∙ e) h
    by (Err fault) g h = absurd (let no : no_packet ≡ request label kind = sym (part_fault bytes fault g) ∙ e in cc)

-- ---- what a phase asks for
abbrev pub AsksFor : Option ℕ → Access → Type 0
AsksFor None a = a.is_write ≡ true
AsksFor (Some n) a = (a.is_write ≡ false) × ((a.is_lock ≡ false) × (a.count ≡ n))

as_access : (n : ℕ) (a b : Access) → a ≡ b → AsksFor (Some n) b → AsksFor (Some n) a
as_access n a b e h = subst (λ (x : Access). AsksFor (Some n) x) (sym e) h

pub phase_asks : (phase : Phase) (op : Operation) (a : Access) → AccessOf phase op a → AsksFor (read_size phase) a
phase_asks phases.Orb op a h = as_access 32 a _ h (refl, (refl, refl))
phase_asks (phases.HighEui orb) op a h = as_access 4 a _ h (refl, (refl, refl))
phase_asks (phases.LowEui orb high) op a h = as_access 4 a _ h (refl, (refl, refl))
phase_asks (phases.Response fifo) op a h = h
phase_asks phases.Status op a h = ap (λ (x : Access). x.is_write) h.1.1

-- ---- so the answer fits
reads_may : (n : ℕ) (a : Access) (answer : Answer) → a.count ≡ n → AnswerOf reading_block answer → MayAnswer (Some n) answer (Some a)
reads_may n a (Payload bytes) e h = ap (λ m. not (length bytes == m)) e
reads_may n a Done e h = absurd h
reads_may n a (Refused rcode) e h = tt
reads_may n a Expired e h = tt
reads_may n a NoLabel e h = absurd h

quadlet_block : (answer : Answer) → AnswerOf reading_quadlet answer → AnswerOf reading_block answer
quadlet_block (Payload bytes) h = tt
quadlet_block Done h = absurd h
quadlet_block (Refused rcode) h = tt
quadlet_block Expired h = absurd h
quadlet_block NoLabel h = absurd h

writes_may : (a : Access) (answer : Answer) → AnswerOf writing answer → MayAnswer None answer (Some a)
writes_may a (Payload bytes) h = absurd h
writes_may a Done h = tt
writes_may a (Refused rcode) h = tt
writes_may a Expired h = tt
writes_may a NoLabel h = absurd h

pub may : (size : Option ℕ) (waited kind : Kind) (a : Access) (answer : Answer) → AsksFor size a → KindOf waited a → is_same_kind waited kind ≡ true → AnswerOf kind answer → MayAnswer size answer (Some a)
may (Some n) writing kind a answer asks of same h = untrue (sym of ∙ asks.0)
may (Some n) locking kind a answer asks of same h = untrue (sym of.0 ∙ asks.1.0)
may (Some n) reading_quadlet reading_quadlet a answer asks of same h = reads_may n a answer asks.1.1 (quadlet_block answer h)
may (Some n) reading_quadlet writing a answer asks of same h = untrue (sym same)
may (Some n) reading_quadlet reading_block a answer asks of same h = untrue (sym same)
may (Some n) reading_quadlet locking a answer asks of same h = untrue (sym same)
may (Some n) reading_block reading_block a answer asks of same h = reads_may n a answer asks.1.1 h
may (Some n) reading_block writing a answer asks of same h = untrue (sym same)
may (Some n) reading_block reading_quadlet a answer asks of same h = untrue (sym same)
may (Some n) reading_block locking a answer asks of same h = untrue (sym same)
may None reading_quadlet kind a answer asks of same h = untrue (sym asks ∙ of)
may None reading_block kind a answer asks of same h = untrue (sym asks ∙ of)
may None locking kind a answer asks of same h = untrue (sym asks ∙ of.1)
may None writing writing a answer asks of same h = writes_may a answer h
may None writing reading_quadlet a answer asks of same h = untrue (sym same)
may None writing reading_block a answer asks of same h = untrue (sym same)
may None writing locking a answer asks of same h = untrue (sym same)
