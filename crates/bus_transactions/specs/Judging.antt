-- The judgement law, its rules up to source: a delivery begins with the note of the first row that holds on what the history says. By the
-- last row the request is its receiver's, who takes it, or ignores it for a cause of its own and answers it all the same.
use Rattle.std.specs.Prelude.{◌≡◌, ◌==◌, ◌&&◌, Bool, true, false, List, [], ◌∷◌, Some}
use Rattle.label_table.specs.Requests.{is_write, is_last}
use Rattle.label_table.specs.Judging.{Facts, Row, by_generation, by_grammar, by_label, by_response, by_again, by_request, row_of}
use Rattle.sbp_journal.specs.Run.{Moment, said}
use Rattle.sbp_journal.specs.Transactions.{Kind, is_same_kind, Part, request, response, no_packet, part_of, is_to, Sending, between}
use Rattle.sbp_journal.specs.Wire.{Terms, terms, Held, free, waits, rests}
use Rattle.sbp_journal.specs.declared.cause.Cause.{Cause}
use Rattle.sbp_journal.specs.declared.cause.Cause.TheVariants as causes
use Rattle.sbp_journal.specs.declared.note.Note.TheVariants as notes
use Rattle.bus_transactions.specs.Wire.{Wire}

abbrev pub is_response : Part → Bool
is_response (request label kind) = false
is_response (response label kind) = true
is_response no_packet = false

abbrev pub waits_for : Held → Kind → Bool
waits_for (waits kind serial) other = is_same_kind kind other
waits_for free other = false
waits_for rests other = false

-- a transaction waits for this response
abbrev pub is_awaited : Terms → Part → Sending → Bool
is_awaited t (response label kind) q = waits_for (t.held (between q q.to q.from label)) kind
is_awaited t part q = false

-- a write that equals the last request that its receiver judged of its sender under its label
abbrev pub is_repeated : Terms → Part → Sending → Bool
is_repeated t (request label kind) q = is_write q.bytes && is_last (t.seen (between q q.from q.to label)) q.bytes
is_repeated t part q = false

-- what the history says of the delivery of a packet
abbrev pub facts_of : Terms → Sending → Facts
facts_of t q = record {
  is_current = q.generation == t.generation q.to;
  is_for_node = is_to q.bytes (t.ids q.generation q.to);
  is_response = is_response (part_of q.bytes);
  is_awaited = is_awaited t (part_of q.bytes) q;
  is_repeated = is_repeated t (part_of q.bytes) q;
}

-- by which row a packet may be got, and by which it may be ignored for a cause
abbrev pub may_get : Row → Bool
may_get by_response = true
may_get by_request = true
may_get _ = false

abbrev pub may_ignore_by : Row → Cause → Bool
may_ignore_by by_generation causes.Generation = true
may_ignore_by by_grammar causes.Grammar = true
may_ignore_by by_label causes.Label = true
may_ignore_by by_again causes.Again = true
may_ignore_by by_request causes.Grammar = true
may_ignore_by by_request causes.Source = true
may_ignore_by by_request causes.Login = true
may_ignore_by by_request causes.Slot = true
may_ignore_by row cause = false

abbrev pub AreJudged : List Moment → Type 0
AreJudged [] = Unit {0}
AreJudged (said (notes.Got s) ∷ past) = ((q : Sending) → (terms past).sent s ≡ Some q → may_get (row_of (facts_of (terms past) q)) ≡ true) × AreJudged past
AreJudged (said (notes.Ignored s cause) ∷ past) = ((q : Sending) → (terms past).sent s ≡ Some q → may_ignore_by (row_of (facts_of (terms past) q)) cause ≡ true) × AreJudged past
AreJudged (_ ∷ past) = AreJudged past

abbrev pub JudgementLaw : Wire → Type 0
JudgementLaw w = AreJudged w.past
