-- Whether the present line is a repeat is up to its beginning: no note changes it.
use Rattle.sbp_world.proofs.Words.Std.{◌∙◌}
use Rattle.sbp_world.proofs.Words.Wire.{rcode_of, Moment, said, Kind, is_same_kind, Part, request, response, part_of, is_to, Sending, Transaction, asked_by, between, begun_by, Held, Owed, Terms, asked_in, begins, begun_in, closes, closes_if, free, gets, gets_as, gives, ignores, ignores_that, judges, judges_if, noted, pays, rests, sends, terms, times_out, waits, Cause, Note}
use Rattle.std.specs.Prelude.{◌≡◌, ℕ, Bool, true, false, List, [], ◌∷◌, ◌++◌, map, Option, Some, None, refl}
use Rattle.sbp_journal.specs.Transactions.{no_packet}
use Rattle.sbp_journal.specs.declared.cause.Cause.TheVariants as causes
use Rattle.sbp_journal.specs.declared.note.Note.TheVariants as notes

judges_same : (began : Option Transaction) (cause : Option Cause) (s : ℕ) (q : Sending) (t : Terms) → (judges began cause s q t).repeats ≡ t.repeats
judges_same None cause s q t = refl
judges_same (Some u) cause s q t = refl

if_same : (b : Bool) (began : Option Transaction) (s : ℕ) (q : Sending) (t : Terms) → (judges_if b began s q t).repeats ≡ t.repeats
if_same true began s q t = judges_same began (Some causes.Grammar) s q t
if_same false began s q t = refl

ignores_same : (cause : Cause) (s : ℕ) (q : Sending) (t : Terms) → (ignores cause s q t).repeats ≡ t.repeats
ignores_same causes.Generation s q t = refl
ignores_same causes.Grammar s q t = if_same (is_to q.bytes (t.ids q.generation q.to)) (asked_by q) s q _
ignores_same causes.Label s q t = refl
ignores_same causes.Again s q t = judges_same (asked_by q) _ s q _
ignores_same causes.Source s q t = judges_same (asked_by q) _ s q _
ignores_same causes.Login s q t = judges_same (asked_by q) _ s q _
ignores_same causes.Slot s q t = judges_same (asked_by q) _ s q _

ignored_same : (so : Option Sending) (cause : Cause) (s : ℕ) (t : Terms) → (ignores_that so cause s t).repeats ≡ t.repeats
ignored_same None cause s t = refl
ignored_same (Some q) cause s t = ignores_same cause s q _

closed_same : (b : Bool) (s : ℕ) (u : Transaction) (rcode : ℕ) (t : Terms) → (closes_if b s u rcode t).repeats ≡ t.repeats
closed_same true s u rcode t = refl
closed_same false s u rcode t = refl

closes_same : (held : Held) (u : Transaction) (kind : Kind) (rcode : ℕ) (t : Terms) → (closes held u kind rcode t).repeats ≡ t.repeats
closes_same free u kind rcode t = refl
closes_same (waits other s) u kind rcode t = closed_same (is_same_kind other kind) s u rcode t
closes_same rests u kind rcode t = refl

gets_same : (part : Part) (s : ℕ) (q : Sending) (t : Terms) → (gets_as part s q t).repeats ≡ t.repeats
gets_same (request label kind) s q t = judges_same (asked_by q) None s q t
gets_same (response label kind) s q t = closes_same (t.held (between q q.to q.from label)) (between q q.to q.from label) kind (rcode_of q.bytes) t
gets_same no_packet s q t = refl

got_same : (so : Option Sending) (s : ℕ) (t : Terms) → (gets so s t).repeats ≡ t.repeats
got_same None s t = refl
got_same (Some q) s t = gets_same (part_of q.bytes) s q _

times_same : (began : Option Transaction) (t : Terms) → (times_out began t).repeats ≡ t.repeats
times_same None t = refl
times_same (Some u) t = refl

gives_same : (began : Option Transaction) (rcode : ℕ) (t : Terms) → (gives began rcode t).repeats ≡ t.repeats
gives_same None rcode t = refl
gives_same (Some u) rcode t = refl

pays_same : (owed : Option Owed) (sent : ℕ → Option Sending) (s : ℕ) (q : Sending) (t : Terms) → (pays owed sent s q t).repeats ≡ t.repeats
pays_same None sent s q t = refl
pays_same (Some owed) sent s q t = gives_same (asked_in (sent owed.serial)) (rcode_of q.bytes) t

begins_same : (begun : Option Transaction) (s : ℕ) (q : Sending) (t : Terms) → (begins begun s q t).repeats ≡ t.repeats
begins_same None s q t = refl
begins_same (Some u) s q t = refl

sends_same : (s : ℕ) (q : Sending) (t : Terms) → (sends s q t).repeats ≡ t.repeats
sends_same s q t = pays_same t.owes t.sent s q _ ∙ begins_same (begun_by q) s q _

noted_same : (note : Note) (t : Terms) → (noted note t).repeats ≡ t.repeats
noted_same (notes.Sent s generation from to bytes) t = sends_same s _ t
noted_same (notes.Injected s) t = refl
noted_same (notes.Got s) t = got_same (t.sent s) s t
noted_same (notes.Ignored s cause) t = ignored_same (t.sent s) cause s t
noted_same (notes.Lost s) t = refl
noted_same (notes.TimedOut s) t = times_same (begun_in (t.sent s)) t
noted_same (notes.Reset generation) t = refl
noted_same (notes.Seen node generation) t = refl
noted_same _ t = refl

pub said_same : (fresh : List Note) (past : List Moment) → (terms (map said fresh ++ past)).repeats ≡ (terms past).repeats
said_same [] past = refl
said_same (note ∷ fresh) past = noted_same note (terms (map said fresh ++ past)) ∙ said_same fresh past
